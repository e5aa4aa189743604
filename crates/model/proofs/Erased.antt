-- The erased word is never put (document 02, Q-3): after any list of events from a fresh table of either mode,
--     never_erased    no operation in progress, and no committed one, is a put of the erased word
--     never_listed    no row at any timestamp at or above the horizon, and so no row of a scan, has it as its value
use Prim.Native.Nat.{ℕ, ◌≤◌}
use mathlib.Core.Path.{◌≡◌, refl, subst⁻¹, ap, ◌∙◌}
use mathlib.Core.Logic.{◌≢◌}
use mathlib.Core.Bool.{false}
use mathlib.Core.List.Memᴰ
use mathlib.Core.List.{List, ◌∷◌, Memᴰ}
use mathlib.Core.Option.{none, some}
use borrow.Author.Tests.{eqb-false}
use Rattle.common.specs.Counting.{upd}
use Rattle.common.proofs.Functions.{none_some, upd_some, upd_none}
use Rattle.common.proofs.ListBelow.{each_listed}
use Rattle.model.specs.Limits.{keys, erased_word}
use Rattle.model.specs.Rules.{puts_erased}
use Rattle.model.specs.Snapshot.{Row, rows_at}
use Rattle.model.specs.History.{Pending, Committed, History, empty, start_recorded, commit_recorded, end_recorded}
use Rattle.model.specs.History.{on_key, newest_on, put_row, row_of_newest, listing}
use Rattle.model.specs.Isolation.{Event, beginning, after, horizon_after}
use Rattle.model.specs.declared.Mode.{Mode}
use Rattle.model.specs.declared.Operation.{Operation}
use Rattle.model.specs.declared.Operation.TheVariants.{Put, Remove}
use Rattle.model.proofs.NewestCommitted.{newest_ind}
use Rattle.model.proofs.Executed.{executed_keeps}
use Rattle.model.proofs.Moves.{View, Move, stays, starts, continues, ends, commits, Change, moves, cleans}
use Rattle.model.proofs.StepMoves.{view_of, Consistent}
use Rattle.model.proofs.EventChanges.{event_changes, event_consistent}
use Rattle.model.proofs.Listing.{rows_listed}
use Rattle.model.proofs.Isolation.{fresh_consistent, reached}

-- no operation of a history is a put of the erased word
pub record Unerased (h : History) : Type 0 where
  pub pending : (w : ℕ) (p : Pending) → h.pending w ≡ some p → puts_erased p.operation ≡ false
  pub committed : (c : Committed) → Memᴰ c h.done → puts_erased c.operation ≡ false

module _ (v : View) (w : ℕ) (h : Unerased v.history) where
  abbrev UnerasedIn : View → Type 0
  UnerasedIn n = Unerased n.history

  -- writer w's operation is no longer pending
  pending_without : (u : ℕ) (p : Pending) → upd v.history.pending w none u ≡ some p → puts_erased p.operation ≡ false
  pending_without = upd_none (λ p. puts_erased p.operation ≡ false) v.history.pending w h.pending

  move_unerased : (n : View) → Move v w n → Unerased n.history
  unfolding start_recorded commit_recorded end_recorded
  move_unerased n (stays e) = subst⁻¹ UnerasedIn e h
  move_unerased n (starts op unerased at e) =
      subst⁻¹ UnerasedIn e
      (record {
        pending = upd_some (λ p. puts_erased p.operation ≡ false) v.history.pending w h.pending _ unerased;
        committed = h.committed;
      })
  move_unerased n (continues p e) = subst⁻¹ UnerasedIn e h
  move_unerased n (ends e) = subst⁻¹ UnerasedIn e (record { pending = pending_without; committed = h.committed })
  move_unerased n (commits p at is e) =
      subst⁻¹ UnerasedIn e (record { pending = pending_without; committed = joined })
    where
      joined : (c : Committed) → Memᴰ c (record { operation = p.operation; ts = p.ts; group = (v.writer w).group } ∷ v.history.done)
          → puts_erased c.operation ≡ false
      joined c (Memᴰ.head q) = ap (λ (c : Committed). puts_erased c.operation) q ∙ h.pending w p is
      joined c (Memᴰ.tail m) = h.committed c m

fresh_unerased : Unerased empty
unfolding empty
fresh_unerased = record { pending = λ w p e. absurd (none_some refl e); committed = λ c m. absurd (Memᴰ.not-nil m) }

change_unerased : (v n : View) → Unerased v.history → Change v n → Unerased n.history
change_unerased v n h (moves w m) = move_unerased v w h n m
change_unerased v n h (cleans c cell kept e) = subst⁻¹ (λ (x : View). Unerased x.history) e h

pub never_erased : (mode : Mode) (es : List Event) → Unerased (after mode es).history
never_erased mode es =
    (executed_keeps (λ u. Consistent u × Unerased u.history)
    (λ u e (c, h). (event_consistent u e c, change_unerased (view_of u) _ h (event_changes u e c))) (beginning mode) es
    (fresh_consistent mode, fresh_unerased)).1

-- the row of a put
put_unerased : (op : Operation) (g : ℕ) → puts_erased op ≡ false → (r : Row) → Memᴰ r (put_row op g) → r.value ≢ erased_word
put_unerased (Put k v g) group e r m = rw (Memᴰ.eq_of_singleton m) (eqb-false v erased_word e)
put_unerased (Remove k) group e r m = absurd (Memᴰ.not-nil m)

pub never_listed : (mode : Mode) (es : List Event) (t : ℕ) → horizon_after mode es ≤ t
    → (r : Row) → Memᴰ r (rows_at (after mode es).state.shared t) → r.value ≢ erased_word
unfolding listing
never_listed mode es t past =
    let u = after mode es in
    rw (rows_listed u (reached mode es) t past)
    (each_listed keys (λ k. row_of_newest (newest_on u.history.done k t)) (λ r. r.value ≢ erased_word)
    (λ k.
    newest_ind (on_key k t) (λ o. (r : Row) → Memᴰ r (row_of_newest o) → r.value ≢ erased_word) u.history.done (λ r m. absurd (Memᴰ.not-nil m))
    (λ c m _. put_unerased c.operation c.group ((never_erased mode es).committed c m))))
