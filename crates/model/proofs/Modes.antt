-- What the proofs use of the two modes; no other law about the table goes by cases of the mode.
--     modes_differ                           they are two
--     lock_phase_lem, locks_late, locks_early    the phase at which the lock is taken
--     after_index_lem, may_check_lem         where the index step leads, and when a check step is taken
--     guard_fits, guard_own                  which lock guards a file group
use Prim.Native.Nat.{ℕ, ◌≤◌, ◌<◌}
use mathlib.Core.Path.{◌≡◌, refl, sym, ap}
use mathlib.Core.Logic.{◌≢◌}
use mathlib.Core.Bool.{true, false≢true}
use native.Mathlib.Omega.{arith}
use borrow.Author.Tests.{eqb-true}
use Rattle.model.specs.Limits.{groups}
use Rattle.model.specs.Modes.{guard, lock_phase, after_index, may_check}
use Rattle.model.specs.declared.Mode.{Mode}
use Rattle.model.specs.declared.Mode.TheVariants.{Optimistic, Pessimistic}

-- the modes are two: they have two numbers
abbrev number : Mode → ℕ
number Optimistic = 0
number Pessimistic = 1

pub modes_differ : Pessimistic ≢ Optimistic
modes_differ e = let same : number Pessimistic ≡ number Optimistic = ap number e in omega arith

-- the lock is taken at phase 2 or 4
pub lock_phase_lem : (mode : Mode) → (2 ≤ lock_phase mode) × (lock_phase mode ≤ 4) × (lock_phase mode ≢ 3)
unfolding lock_phase
lock_phase_lem Optimistic = omega arith
lock_phase_lem Pessimistic = omega arith

-- the index step leads to the check of an optimistic table, or the lock has been held since the read step
pub after_index_lem : (mode : Mode)
    → (4 < after_index mode) × (after_index mode ≤ 6) × (after_index mode ≡ 5 → mode ≡ Optimistic) × (after_index mode ≢ 5 → lock_phase mode < 4)
unfolding after_index lock_phase
after_index_lem Optimistic = (omega arith, omega arith, λ _. refl, λ ne. absurd (ne refl))
after_index_lem Pessimistic = (omega arith, omega arith, λ e. absurd (omega arith), λ _. omega arith)

-- at 4 exactly in an optimistic table, at 2 exactly in a pessimistic one
pub locks_late : (mode : Mode) → (lock_phase mode ≡ 4 → mode ≡ Optimistic) × (mode ≡ Optimistic → lock_phase mode ≡ 4)
unfolding lock_phase
locks_late Optimistic = (λ _. refl, λ _. refl)
locks_late Pessimistic = (λ e. absurd (omega arith), λ e. absurd (modes_differ e))

pub locks_early : (mode : Mode) → (lock_phase mode ≡ 2 → mode ≡ Pessimistic) × (mode ≡ Pessimistic → lock_phase mode ≡ 2)
unfolding lock_phase
locks_early Optimistic = (λ e. absurd (omega arith), λ e. absurd (modes_differ (sym e)))
locks_early Pessimistic = (λ _. refl, λ _. refl)

-- the lock of a file group that exists exists
pub guard_fits : (mode : Mode) (g : ℕ) → g < groups → guard mode g < groups
unfolding guard
guard_fits Optimistic g fits = omega arith
guard_fits Pessimistic g fits = omega arith

-- in a pessimistic table it is the group's own
pub guard_own : (mode : Mode) → mode ≡ Pessimistic → (g : ℕ) → guard mode g ≡ g
unfolding guard
guard_own Optimistic e g = absurd (modes_differ (sym e))
guard_own Pessimistic e g = refl

-- a check step is taken at phase 5 of an optimistic table
pub may_check_lem : (mode : Mode) (p : ℕ) → may_check mode p ≡ true → (mode ≡ Optimistic) × (p ≡ 5)
unfolding may_check
may_check_lem Optimistic p e = (refl, eqb-true p 5 e)
may_check_lem Pessimistic p e = absurd (false≢true e)
