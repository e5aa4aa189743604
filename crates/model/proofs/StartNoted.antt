-- A start keeps what holds of the notes: `start_noted_lem`. `new_noted`: the new operation counts all that is completed,
-- so neither way picks any of it, and it notes all that is in progress. `old_noted`: each of these picks it as a
-- later one. `issued`: what is completed has a timestamp that was issued.
use Prim.Native.Nat.{ℕ, ◌+◌, ◌≤◌, ◌<◌}
use mathlib.Core.Path.{◌≡◌, refl, ap, ◌∙◌}
use mathlib.Core.Logic.{◌≢◌, by_cases}
use mathlib.Core.Bool.{true, false, not, or-true}
use mathlib.Core.Option.{some}
use native.Mathlib.Decide.{dec_lt}
use native.Mathlib.Omega.{arith}
use borrow.Author.Tests.{eq-eqb, ne_eqb, lt-ltb, le-ltb}
use Rattle.common.proofs.Cases.{cond_iff, facts}
use Rattle.common.proofs.EachBelow.{below_all, below_stop}
use Rattle.common.proofs.Functions.{none_some, upd_same, upd_other, upd_ind}
use Rattle.model.specs.Limits.{writers}
use Rattle.model.specs.Notes.{held_by}
use Rattle.model.specs.Rules.{begun}
use Rattle.model.specs.History.{start_recorded}
use Rattle.model.specs.declared.Writer.{Writer}
use Rattle.model.specs.declared.Operation.{Operation}
use Rattle.model.proofs.Notes.{amongst}
use Rattle.model.proofs.Moves.{View, after_start}
use Rattle.model.proofs.Invariant.{Invariant}
use Rattle.model.proofs.OwnFacts.{begun_fields}
use Rattle.model.proofs.Noted.{picks, OperationNoted, Cleared, Noted, Bounded}

pub issued : (v : View) → Invariant v → (s g : ℕ) → v.completed s ≡ some g → s ≤ v.last
issued v i s g e = by_cases (dec_lt v.last s) (λ late. absurd (none_some (i.above s late) e)) (λ le. omega arith)

module _ (v : View) (w : ℕ) (i : Invariant v) (f : Bounded v) (m : Noted v) where
  -- what a start notes: the timestamps of the operations in progress, and none that is completed
  abbrev held : ℕ → ℕ
  held u = held_by (v.writer u)

  held_noted : (u : ℕ) → 0 < (v.writer u).phase → amongst held (v.writer u).ts ≡ true
  held_noted u p =
      let own : held u ≡ (v.writer u).ts = simp (cond_iff (λ (n : ℕ). n ≡ (v.writer u).ts), facts) (λ e. absurd (omega arith), λ _. refl) in
      ap not (below_stop _ writers u (f.writer u p) (ap not (eq-eqb (held u) (v.writer u).ts own)))

  completed_unnoted : (s g : ℕ) → v.completed s ≡ some g → amongst held s ≡ false
  completed_unnoted s g e =
      ap not
      (below_all _ writers
      (λ u lt.
      ap not
      (ne_eqb (held u) s
      (simp (cond_iff (λ (n : ℕ). n ≢ s), facts) (
        λ _ q. none_some f.zero (rw (← q) at e),
        λ p q. none_some ((i.writer u).in_progress (omega arith)).uncompleted (rw (← q) at e),
      )))))

  -- the operation of a writer w that is ready
  module _ (op : Operation) where
    abbrev n : View
    n = after_start v w op

    abbrev x : Writer
    x = begun op (v.last + 1)

    -- neither way picks what is completed, and way one picks all that is in progress
    new_noted : OperationNoted n w x
    new_noted =
        let b = begun_fields op (v.last + 1) in
        let count = upd_same v.notes.count w v.notes.completions in
        let noted = upd_same v.notes.noted w (amongst held) in
        record {
          counted = rw count (omega arith);
          others =
              λ u ne.
              upd_ind v.writer w x (λ u y. u ≢ w → 0 < y.phase → picks n.notes w x.ts y.ts ≡ true) (λ ne. absurd (ne refl))
              (λ u _ ne p. rw (noted, held_noted u p)) u ne;
          alike =
              λ s g e.
              rw (noted, completed_unnoted s g e, count, le-ltb x.ts s (omega (arith, issued v i s g e, b.3)), le-ltb _ _ (m.placed s g e).1);
          newer = λ q. absurd (omega (arith, b.0));
        }

    -- the other writers' counts and notes stay; they pick the new operation as a later one
    old_noted : (u : ℕ) → u ≢ w → 0 < (v.writer u).phase → OperationNoted n u (v.writer u)
    old_noted u ne p =
        let b = begun_fields op (v.last + 1) in
        let a = m.operation u p in
        let count = upd_other v.notes.count w v.notes.completions u ne in
        let noted = upd_other v.notes.noted w (amongst held) u ne in
        record {
          counted = rw count a.counted;
          others =
              λ j nj.
              upd_ind v.writer w x (λ j y. j ≢ u → 0 < y.phase → picks n.notes u (v.writer u).ts y.ts ≡ true)
              (λ _ q.
              rw (noted, lt-ltb (v.writer u).ts x.ts (omega (arith, ((i.writer u).in_progress p).issued, b.3))) (or-true (v.notes.noted u x.ts)))
              (λ j _ nj q. rw noted (a.others j nj q)) j nj;
          alike = λ s g e. rw (noted, count) (a.alike s g e);
          newer = λ q s e above. rw count (a.newer q s e above);
        }

    pub start_noted_lem : (v.writer w).phase ≡ 0 → Noted n
    unfolding start_recorded
    start_noted_lem at =
        let b = begun_fields op (v.last + 1) in
        record {
          placed = m.placed;
          unplaced = m.unplaced;
          unique = m.unique;
          known = λ s g e. let c = m.known s g e in record { operation = c.operation; done = c.done; ts = c.ts };
          operation = upd_ind v.writer w x (λ u y. 0 < y.phase → OperationNoted n u y) (λ _. new_noted) old_noted;
          cleared =
              upd_ind v.writer w x (λ u y. y.phase ≡ 0 → Cleared n u) (λ q. absurd (omega (arith, b.0)))
              (λ u ne q.
              let c = m.cleared u q in
              record {
                count = upd_other v.notes.count w v.notes.completions u ne ∙ c.count;
                noted = upd_other v.notes.noted w (amongst held) u ne ∙ c.noted;
              });
        }
