-- What depends on a table's mode (document 02, Q-9); the rules are one text for both modes. Optimistic is the table of document 01, with its one lock;
-- pessimistic has a lock for each file group (source 000, pessimistic locking).
use Rattle.std.specs.Prelude.{ℕ, Bool, false, eqb}
use Rattle.model.specs.declared.Mode.{Mode}
use Rattle.model.specs.declared.Mode.TheVariants.{Optimistic, Pessimistic}

-- the lock that guards file group g: the table lock, which is the first one, or the group's own
unfoldable pub guard : Mode → ℕ → ℕ
guard Optimistic g = 0
guard Pessimistic g = g

-- the phase whose step takes it: that of the index step, or that of the read step
unfoldable pub lock_phase : Mode → ℕ
lock_phase Optimistic = 4
lock_phase Pessimistic = 2

-- the phase after the index step: that of the check, or that of the commit
unfoldable pub after_index : Mode → ℕ
after_index Optimistic = 5
after_index Pessimistic = 6

-- may a writer at phase p take the check step: at no phase of a pessimistic table
unfoldable pub may_check : Mode → ℕ → Bool
may_check Optimistic p = eqb p 5
may_check Pessimistic p = false
