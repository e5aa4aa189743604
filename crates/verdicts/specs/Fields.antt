-- The fields of the shared part that a call takes. What a call promises holds for any shared part with these fields set, so that a field
-- that the call does not take is not named.
use Rattle.std.specs.Prelude.{ℕ, Bool}
use Rattle.std.specs.Borrow.{MutBor}
use denote.Triple.Both.{Both}
use Rattle.common.specs.Lent.{Lent}
use Rattle.model.specs.State.{Shared, with_last, with_locks, with_index, with_timeline, with_present, with_values}

-- a shared part with the fields that a call takes, as they are when it begins and when it ends
pub record Fields : Type 0 where
  pub before : Shared → Shared
  pub after : Shared → Shared

abbrev pub no_field : Fields
no_field = record { before = λ s. s; after = λ s. s }

-- a field that the call only reads, and one that it may change, each by its setter
abbrev pub reading : {A : Type 0} → (Shared → A → Shared) → A → Fields
reading set a = record { before = λ s. set s a; after = λ s. set s a }

abbrev pub changing : {A : Type 0} → (Shared → A → Shared) → Both (MutBor A) (MutBor A) → Fields
changing set a = record { before = λ s. set s a.entry.now; after = λ s. set s a.exit.now }

-- two of these together
abbrev pub together : Fields → Fields → Fields
together a b = record { before = λ s. b.before (a.before s); after = λ s. b.after (a.after s) }

-- all fields that a step may change
abbrev pub all_fields : Both (MutBor ℕ) (MutBor ℕ) → Lent ℕ → Lent ℕ → Lent ℕ → Lent Bool → Lent ℕ → Fields
all_fields last locks index timeline present values =
    together (together (changing with_last last) (changing with_locks locks))
    (together (together (changing with_index index) (changing with_timeline timeline)) (together (changing with_present present) (changing with_values values)))
