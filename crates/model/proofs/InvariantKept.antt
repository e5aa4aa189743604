-- Every change keeps the invariant, what is completed and what was stored in completed slices, and the index entries
-- of committed keys: `move_keeps` for a step, `change_keeps` for every event.
-- Starts, ends without commit and cleans are here, phases in PhaseKept.antt, commits in CommitKept.antt. An end takes
-- out the index entry that the writer has made, if any. `entry_stays` and `entry_left` say that all other entries
-- stay; that one is no committed key's (`Made`), nor that of another writer past the index step (`one_past`).
use Prim.Native.Nat.{ℕ, ◌+◌}
use mathlib.Core.Path.{◌≡◌, refl, sym, subst⁻¹, ◌∙◌}
use mathlib.Core.Logic.{◌≢◌}
use mathlib.Core.Bool.{true, false≢true}
use mathlib.Core.Option.{Option, none, some}
use native.Mathlib.Omega.{arith}
use Rattle.model.specs.State.{ready}
use Rattle.model.specs.Rules.{key_of, begun}
use Rattle.model.specs.History.{Pending, start_recorded, end_recorded}
use Rattle.model.specs.declared.Operation.{Operation}
use Rattle.common.proofs.Cases.{cond_iff}
use Rattle.common.proofs.Functions.{none_some, upd_same, upd_other, upd_ind}
use Rattle.model.proofs.Moves.{View, after_start, after_end, after_clean, Move, stays, starts, continues, ends, commits}
use Rattle.model.proofs.Moves.{Cleaned, Change, moves, cleans}
use Rattle.model.proofs.Invariant.{Invariant, one_past, pending_key}
use Rattle.model.proofs.Kept.{Kept, unchanged, untouched, other_facts, committed_kept, uncommitted}
use Rattle.model.proofs.Locks.{released_other, released_own}
use Rattle.model.proofs.OwnFacts.{unread, ready_facts, begun_fields}
use Rattle.model.proofs.Binding.{puts_key, still_bound}
use Rattle.model.proofs.PhaseKept.{phase_keeps}
use Rattle.model.proofs.CommitKept.{commit_keeps}

module _ (v : View) (w : ℕ) (i : Invariant v) where
  start_keeps : (op : Operation) → (v.writer w).phase ≡ 0 → Kept v (after_start v w op)
  unfolding start_recorded
  start_keeps op at =
      let n = after_start v w op in
      let x = begun op (v.last + 1) in
      let b = begun_fields op (v.last + 1) in
      let p : Pending = record { operation = op; ts = v.history.last + 1 } in
      let last = i.last in
      uncommitted v n w x i
      (record {
        writer = refl;
        horizon = refl;
        shared = unchanged v n refl (omega arith) refl refl (λ c m. refl) (λ g s hit. refl);
        cell = λ g s hit. refl;
        others =
            λ u ne.
            untouched v n u (v.writer u) refl refl refl refl refl (upd_other v.history.pending w (some p) u ne)
            (λ q. refl) (λ q. refl);
        own =
            unread n w x (omega arith) (λ q. absurd (omega arith))
            (λ q.
            record {
              pending = p;
              is = upd_same v.history.pending w (some p);
              key = b.1;
              left = b.2;
              ts = omega arith;
              positive = omega arith;
              issued = omega arith;
              uncompleted = i.above x.ts (omega arith);
            })
            (λ m. false≢true (sym b.4 ∙ m)) (λ p q. omega (arith, (i.writer w).holds p q));
        bound =
            λ k there.
            still_bound v n.history w x (upd_other v.history.pending w (some p)) (λ c m. m)
            (λ _ _ _ m. absurd (omega (arith, ((i.writer w).made m).past))) (i.bound k there);
        unique = λ u ne q r e. omega (arith, ((i.writer u).in_progress q).issued);
      })
      (omega arith) refl refl

  -- the entry of key k is not one that the writer made
  abbrev NotOwn : ℕ → Type 0
  NotOwn k = (v.writer w).made ≡ true → k ≢ (v.writer w).key

  -- such an entry stays where the writer's operation ends
  entry_stays : (k : ℕ) → NotOwn k → (after_end v w).entry k ≡ v.entry k
  entry_stays k other =
      simp (cond_iff (λ (e : ℕ → ℕ). e k ≡ v.entry k)) (λ made. upd_other v.entry (v.writer w).key 0 k (other made), λ _. refl)

  -- an entry that is there afterwards was there before, and is such a one
  entry_left : (k : ℕ) → (after_end v w).entry k ≢ 0 → (v.entry k ≢ 0) × NotOwn k
  entry_left k =
      simp (cond_iff (λ (e : ℕ → ℕ). e k ≢ 0 → (v.entry k ≢ 0) × NotOwn k)) (
        λ _.
            upd_ind v.entry (v.writer w).key 0 (λ k e. e ≢ 0 → (v.entry k ≢ 0) × NotOwn k) (λ gone. absurd (gone refl))
            (λ k ne there. (there, λ _. ne)) k,
        λ unmade there. (there, λ made. absurd (false≢true (sym unmade ∙ made))),
      )

  end_keeps : Kept v (after_end v w)
  unfolding end_recorded
  end_keeps =
      let n = after_end v w in
      let pending = upd_other v.history.pending w none in
      uncommitted v n w ready i
      (record {
        writer = refl;
        horizon = refl;
        shared =
            unchanged v n refl (omega arith) refl refl
            (λ c m. entry_stays (key_of c.operation) (λ made. ((i.writer w).made made).new c m)) (λ g s hit. refl);
        cell = λ g s hit. refl;
        others =
            λ u ne.
            record {
              pending = pending u ne;
              uncompleted = λ q. refl;
              base = λ q hit. refl;
              cell = λ q. refl;
              stored = λ q. refl;
              entry = λ q. entry_stays (v.writer u).key (λ made e. ne (one_past v i u w q ((i.writer w).made made).past e));
              made = λ m. m;
              guards = λ p. (released_other (v.lock p) w u ne).0;
              holds = λ p. (released_other (v.lock p) w u ne).1;
              latest = λ q s e. e;
            };
        own = ready_facts n w (upd_same v.history.pending w none) (λ p. released_own (v.lock p) w);
        bound =
            λ k there.
            let (old, other) = entry_left k there in
            still_bound v n.history w ready pending (λ c m. m)
            (λ p is puts made.
            absurd (other made (sym (puts_key p.operation puts) ∙ pending_key v i w p (omega (arith, ((i.writer w).made made).past)) is)))
            (i.bound k old);
        unique = λ u ne q r. absurd (omega arith);
      })
      i.last refl refl

pub move_keeps : (v n : View) (w : ℕ) → Invariant v → Move v w n → Kept v n
move_keeps v n w i (stays e) =
    subst⁻¹ (Kept v) e (record { shared = unchanged v v refl (omega arith) refl refl (λ c m. refl) (λ g s hit. refl); invariant = i })
move_keeps v n w i (starts op unerased at e) = subst⁻¹ (Kept v) e (start_keeps v w i op at)
move_keeps v n w i (continues p e) = subst⁻¹ (Kept v) e (phase_keeps v w i p)
move_keeps v n w i (ends e) = subst⁻¹ (Kept v) e (end_keeps v w i)
move_keeps v n w i (commits p at is e) = subst⁻¹ (Kept v) e (commit_keeps v w i p at is)

-- a clean keeps it, since it is claimed of kept slices and of bases about to be copied alone
clean_keeps : (v : View) (c : ℕ) (cell : ℕ → ℕ → ℕ → Option ℕ) → Invariant v → Cleaned v c cell → Kept v (after_clean v c cell)
clean_keeps v c cell i h =
    let n = after_clean v c cell in
    let shared = unchanged v n refl (omega arith) refl refl (λ c m. refl) (λ g s hit. refl) in
    record {
      shared = shared;
      invariant =
          record {
            last = i.last;
            above = i.above;
            committed = λ d m. committed_kept v n shared d m (i.committed d m);
            rows = i.rows;
            kept = λ g s hit kept. h.keeps s kept g ∙ i.kept g s hit (λ p f r e q low. kept p f r e q (omega (arith, h.rises)));
            bound = i.bound;
            writer =
                λ u.
                other_facts v n shared u (v.writer u)
                (untouched v n u (v.writer u) refl refl refl refl refl refl (λ q. h.bases u q _)
                (λ q. h.keeps _ (λ p g r e. absurd (none_some ((i.writer u).in_progress (omega arith)).uncompleted e)) _))
                (i.writer u);
            unique = i.unique;
          };
    }

pub change_keeps : (v n : View) → Invariant v → Change v n → Kept v n
change_keeps v n i (moves w m) = move_keeps v n w i m
change_keeps v n i (cleans c cell h e) = subst⁻¹ (Kept v) e (clean_keeps v c cell i h)
