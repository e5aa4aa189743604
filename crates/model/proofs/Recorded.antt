-- The history and the stored slices after an answer: `recorded_refused`, `recorded_ended`, `recorded_taken`, `recorded_committed`, with `commit_group` for
-- the file group of a commit; `stored_untaken`, `stored_unwritten`, `stored_written`.
use Prim.Native.Nat.{ℕ, ◌≤◌, ◌<◌}
use mathlib.Core.Path.{◌≡◌, refl}
use mathlib.Core.Bool.{true, false, and-false}
use mathlib.Core.Option.{Option, some}
use native.Mathlib.Omega.{arith}
use lib.Dec.{eqb}
use borrow.Author.Tests.{ne_eqb}
use Rattle.common.specs.Counting.{upd}
use Rattle.common.proofs.Cases.{cond_iff, facts}
use Rattle.model.specs.Answers.{taken, committed, aborted}
use Rattle.model.specs.Rules.{Answered}
use Rattle.model.specs.History.{Pending, History, start_recorded, commit_recorded, end_recorded, recorded}
use Rattle.model.specs.Isolation.{is_write, slice_of, stored_by}
use Rattle.model.specs.declared.Writer.{Writer}
use Rattle.model.specs.declared.Step.{Step}

-- the history after an answer
pub recorded_refused : (h : History) (s : Step) (n : ℕ) (g : ℕ → ℕ) → aborted < n → recorded h s n g ≡ h
unfolding recorded
recorded_refused h s n g p =
    simp (cond_iff (λ r. r ≡ h), facts) (λ e. absurd (omega arith), λ _. (λ e. absurd (omega arith), λ _. (λ le. absurd (omega arith), λ _. refl)))

pub recorded_ended : (h : History) (s : Step) (n : ℕ) (g : ℕ → ℕ) → committed < n → n ≤ aborted → recorded h s n g ≡ end_recorded h s.writer
unfolding recorded
recorded_ended h s n g p q =
    simp (cond_iff (λ r. r ≡ end_recorded h s.writer), facts)
    (λ e. absurd (omega arith), λ _. (λ e. absurd (omega arith), λ _. (λ _. refl, λ lt. absurd (omega arith))))

pub recorded_taken : (h : History) (s : Step) (g : ℕ → ℕ) → recorded h s taken g ≡ start_recorded h s.writer s.action
unfolding recorded
recorded_taken h s g = refl

pub recorded_committed : (h : History) (s : Step) (g : ℕ → ℕ) → recorded h s committed g ≡ commit_recorded h s.writer g (h.pending s.writer)
unfolding recorded
recorded_committed h s g = refl

-- the stored slices after an answer
module _ (d : ℕ → ℕ → Option ℕ) (s : Step) (r : Answered) (x : Writer) where
  pub stored_untaken : taken < r.answer → stored_by d s r x ≡ d
  unfolding stored_by
  stored_untaken p = rw (ne_eqb r.answer taken (omega arith))

  pub stored_unwritten : is_write s.action ≡ false → stored_by d s r x ≡ d
  unfolding stored_by
  stored_unwritten e = rw (e, and-false (eqb r.answer taken))

  pub stored_written : r.answer ≡ taken → is_write s.action ≡ true → stored_by d s r x ≡ upd d x.ts (slice_of r.state.shared x)
  unfolding stored_by
  stored_written a e = rw (a, e)

pub commit_group : (h : History) (w : ℕ) (p : Pending) (g i : ℕ → ℕ) → g p.ts ≡ i p.ts → commit_recorded h w g (some p) ≡ commit_recorded h w i (some p)
unfolding commit_recorded
commit_group h w p g i e = rw e
