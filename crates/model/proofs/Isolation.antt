-- Demand 3 of document 00, for every list of events from a fresh table of either mode: `isolated`.
-- `reached` says that every table reached is consistent with its history, `listing_stays` that the listing at a settled timestamp stays.
use Prim.Native.Nat.{ℕ, zero, suc, ◌≤◌, ◌<◌}
use mathlib.Core.Path.{◌≡◌, refl, subst, subst⁻¹, ap, ◌∙◌, fun_ext}
use mathlib.Core.Bool.{false}
use mathlib.Core.List.Memᴰ
use mathlib.Core.List.{List}
use mathlib.Core.Option.{none, some}
use native.Mathlib.Omega.{arith}
use lib.ListN.{replicate}
use Rattle.model.specs.Limits.{writers, keys, groups, timestamps, rows}
use Rattle.common.specs.Counting.{upd, list_below}
use Rattle.model.specs.State.{ready, fresh, cell}
use Rattle.model.specs.History.{Pending, History, empty, start_recorded, commit_recorded, end_recorded}
use Rattle.model.specs.History.{newest_that, on_key, newest_on, row_of_newest, listing}
use Rattle.model.specs.Isolation.{Event, Execution, executed, beginning, after, Isolated}
use Rattle.model.specs.declared.Mode.{Mode}
use Rattle.model.specs.declared.Writer.{Writer}
use Rattle.common.proofs.Cases.{refuted, facts}
use Rattle.common.proofs.Functions.{none_some, upd_some, upd_none, get_d_fresh}
use Rattle.model.proofs.CompletedInstants.{group_completed, completed_at}
use Rattle.model.proofs.Executed.{executed_keeps, executed_append}
use Rattle.model.proofs.RangeKept.{fresh_in_range}
use Rattle.model.proofs.NewestCommitted.{newest_skip, left}
use Rattle.model.proofs.Slices.{cell_zero}
use Rattle.model.proofs.Lengths.{fresh_lengths}
use Rattle.model.proofs.Moves.{View, Move, stays, starts, continues, ends, commits, Change, moves, cleans}
use Rattle.model.proofs.OwnFacts.{ready_facts}
use Rattle.model.proofs.StepMoves.{view_of, Consistent}
use Rattle.model.proofs.EventChanges.{event_changes, event_consistent}
use Rattle.model.proofs.Listing.{in_slice, scan_listed}

pub fresh_completed : (s : ℕ) → completed_at (replicate timestamps 0) s ≡ none
unfolding group_completed
fresh_completed zero = refl
fresh_completed (suc n) = ap group_completed (get_d_fresh timestamps n 0)

-- no slice has a row
fresh_slice : (g s : ℕ) → (0 < s → completed_at (replicate timestamps 0) s ≡ some g) → cell (replicate rows false) (replicate rows 0) g s ≡ λ k. none
fresh_slice g zero hit = fun_ext (cell_zero _ _ g)
fresh_slice g (suc s) hit = absurd (none_some (fresh_completed (suc s)) (hit (omega arith)))

pub fresh_writer : (mode : Mode) (w : ℕ) → (view_of (beginning mode)).writer w ≡ ready
unfolding fresh
fresh_writer mode w = get_d_fresh writers w ready

-- a fresh table and the empty history satisfy the invariant
pub fresh_consistent : (mode : Mode) → Consistent (beginning mode)
unfolding fresh empty left newest_that
fresh_consistent mode =
    record {
      lengths = fresh_lengths mode;
      ranged = fresh_in_range mode;
      invariant =
          record {
            last = refl;
            above = λ s p. fresh_completed s;
            committed = λ c m. absurd (Memᴰ.not-nil m);
            rows = λ g s hit. refl;
            kept = λ g s hit kept. fresh_slice g s hit;
            bound = λ k there. absurd (there (get_d_fresh keys k 0));
            writer = λ w. rw (get_d_fresh writers w ready) (ready_facts (view_of (beginning mode)) w refl (λ p e. omega (arith, get_d_fresh {A = ℕ} groups p 0)));
            unique = λ a b p q e. absurd (omega (arith, ap (λ (x : Writer). x.phase) (fresh_writer mode a)));
          };
    }

pub executed_consistent : (u : Execution) (es : List Event) → Consistent u → Consistent (executed u es)
executed_consistent = executed_keeps Consistent event_consistent

pub reached : (mode : Mode) (es : List Event) → Consistent (after mode es)
reached mode es = executed_consistent (beginning mode) es (fresh_consistent mode)

-- the timestamp t is issued, every operation in progress holds a later one, and what is committed at or before t is what `h` has
pub record Settled (t : ℕ) (h n : History) : Type 0 where
  pub issued : t ≤ n.last
  pub later : (w : ℕ) (p : Pending) → n.pending w ≡ some p → t < p.ts
  pub same : (k : ℕ) → newest_on n.done k t ≡ newest_on h.done k t

module _ (t : ℕ) (h : History) (v : View) (w : ℕ) (s : Settled t h v.history) where
  abbrev SettledIn : View → Type 0
  SettledIn x = Settled t h x.history

  -- writer w's operation is no longer pending
  later_without : (u : ℕ) (p : Pending) → upd v.history.pending w none u ≡ some p → t < p.ts
  later_without = upd_none (λ p. t < p.ts) v.history.pending w s.later

  move_settled : (n : View) → Move v w n → Settled t h n.history
  unfolding start_recorded end_recorded commit_recorded
  move_settled n (stays e) = subst⁻¹ SettledIn e s
  move_settled n (starts op unerased at e) =
      subst⁻¹ SettledIn e
      (record {
        issued = omega (arith, s.issued);
        later = upd_some (λ p. t < p.ts) v.history.pending w s.later _ (omega (arith, s.issued));
        same = s.same;
      })
  move_settled n (continues p e) = subst⁻¹ SettledIn e s
  move_settled n (ends e) =
      subst⁻¹ SettledIn e (record { issued = s.issued; later = later_without; same = s.same })
  move_settled n (commits p at is e) =
      subst⁻¹ SettledIn e
      (record {
        issued = s.issued;
        later = later_without;
        same =
            λ k.
            newest_skip (on_key k t) _ v.history.done (refuted (λ e. let (key, low) = simp facts at e in omega (arith, s.later w p is)))
            ∙ s.same k;
      })

change_settled : (t : ℕ) (h : History) (v n : View) → Settled t h v.history → Change v n → Settled t h n.history
change_settled t h v n s (moves w m) = move_settled t h v w s n m
change_settled t h v n s (cleans c cell kept e) = subst⁻¹ (λ (x : View). Settled t h x.history) e s

-- the listing at such a timestamp stays, whatever events follow
pub listing_stays : (t : ℕ) (u : Execution) (es : List Event) → Consistent u → Settled t u.history u.history
    → listing (executed u es).history t ≡ listing u.history t
unfolding listing
listing_stays t u es h s =
    let kept =
    executed_keeps (λ n. Consistent n × Settled t u.history n.history)
    (λ n e (c, s). (event_consistent n e c, change_settled t u.history (view_of n) _ s (event_changes n e c))) u es (h, s) in
    ap (list_below keys) (fun_ext (λ k. ap row_of_newest (kept.1.same k)))

pub isolated : (mode : Mode) (es : List Event) → Isolated mode es
isolated mode es =
    let h = reached mode es in
    record {
      lists = λ t buffer past room. scan_listed (after mode es) h t past buffer room;
      one_group = λ c d p q k x y e f. omega (arith, in_slice (after mode es) h c p k x e, in_slice (after mode es) h d q k y f);
      stays =
          λ t positive issued later more buffer past room.
          let same = listing_stays t (after mode es) more h (record { issued = issued; later = later; same = λ k. refl }) in
          rw (executed_append (beginning mode) es more, ← same)
          (scan_listed (executed (after mode es) more) (executed_consistent (after mode es) more h) t
          (subst (λ (u : Execution). u.state.horizon ≤ t) (executed_append (beginning mode) es more) past) buffer (rw same room));
    }
