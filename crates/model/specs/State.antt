-- A table with its rows as one value (document 01, What the engine holds).
use Rattle.std.specs.Prelude.{ℕ, zero, suc, ◌+◌, ◌-◌, ◌*◌, Bool, false, cond, ◌&&◌, List, get_or, replicate, eqb, ltb, leb}
use Rattle.std.proofs.Math.Option.{Option, none, some}
use Rattle.model.specs.Limits.{writers, keys, groups, timestamps, rows, noted}
use Rattle.model.specs.declared.Mode.{Mode}
use Rattle.model.specs.declared.Writer.{Writer}
use Rattle.model.specs.declared.Table.{Table}

-- what all writers share; a file slice is kept by its file group and timestamp
pub record Shared : Type 0 where
  pub last : ℕ  -- the last timestamp issued
  pub locks : List ℕ  -- one for each file group: 0, free, or w + 1, held by writer w; an optimistic table uses the first
  pub index : List ℕ  -- of each key: 0, or its file group + 1
  pub timeline : List ℕ  -- the instant of timestamp n, at n - 1
  pub present : List Bool  -- has the slice of group g and timestamp n a row of key k, at `row_at g n k`
  pub values : List ℕ  -- and the row's value

-- what is noted for the candidates of a commit (document 02, Q-12)
pub record Notes : Type 0 where
  pub places : List ℕ  -- the place of timestamp n in the order of completions, at n - 1, or 0
  pub counts : List ℕ  -- of each writer: how many instants had completed when its operation started
  pub noted : List ℕ  -- the timestamp that writer u's operation in progress held when that of writer w started, at `note_at w u`, or 0

-- the mode and the horizon stand beside what a rule may change, so that no step changes them (document 02, Q-9 and Q-13); so do the notes, which every
-- rule leaves alone
pub record State : Type 0 where
  pub mode : Mode
  pub horizon : ℕ  -- the timestamp of the last clean that was taken, or 0
  pub shared : Shared
  pub writers : List Writer
  pub notes : Notes

-- they, as one value
abbrev pub notes : List ℕ → List ℕ → List ℕ → Notes
notes places counts noted = record { places = places; counts = counts; noted = noted }

-- the state of a table and its rows
abbrev pub state_of : Table → List Bool → List ℕ → State
state_of t present values =
    record {
      mode = t.mode;
      horizon = t.horizon;
      shared = record { last = t.last; locks = t.locks; index = t.index; timeline = t.timeline; present = present; values = values };
      writers = t.writers;
      notes = notes t.places t.counts t.noted;
    }

-- a ready writer has no operation, no timestamp and no base (document 01, A writer's walk, end)
abbrev pub ready : Writer
ready = record { phase = 0; put = false; made = false; key = 0; group = 0; ts = 0; base = 0; value = 0 }

-- a fresh table of a mode: nothing issued, indexed, locked, cleaned or noted, and all writers ready (document 01, What the engine holds); no row is present,
-- each value is 0
unfoldable pub fresh : Mode → State
fresh mode =
    record {
      mode = mode;
      horizon = 0;
      shared =
          record {
            last = 0;
            locks = replicate groups 0;
            index = replicate keys 0;
            timeline = replicate timestamps 0;
            present = replicate rows false;
            values = replicate rows 0;
          };
      writers = replicate writers ready;
      notes = notes (replicate timestamps 0) (replicate writers 0) (replicate noted 0);
    }

-- an instant is one number: 0 none, 1 requested, then inflight in each file group, then completed in each
abbrev pub requested : ℕ
requested = 1

abbrev pub inflight : ℕ → ℕ
inflight g = 2 + g

abbrev pub completed : ℕ → ℕ
completed g = 2 + groups + g

-- is an instant completed, in any file group
abbrev pub has_completed : ℕ → Bool
has_completed i = leb (completed 0) i

-- the file group of a completed instant
abbrev pub group_of_completed : ℕ → ℕ
group_of_completed i = i - completed 0

-- what a list with a number for each timestamp has for timestamp n; timestamp 0 has none
abbrev pub at_timestamp : List ℕ → ℕ → ℕ
at_timestamp l zero = 0
at_timestamp l (suc i) = get_or l i 0

-- the largest completed timestamp of file group g at or below n, or 0
unfoldable pub newest : List ℕ → ℕ → ℕ → ℕ
newest timeline g zero = 0
newest timeline g (suc n) = cond (eqb (get_or timeline n 0) (completed g)) (suc n) (newest timeline g n)

-- the place of the row of key k in the slice of file group g and timestamp n
abbrev pub row_at : ℕ → ℕ → ℕ → ℕ
row_at g n k = ((n - 1) * groups + g) * keys + k

-- the place of what writer w has noted of writer u
abbrev pub note_at : ℕ → ℕ → ℕ
note_at w u = w * writers + u

-- what `rows` has for key k in the slice of file group g and timestamp n; timestamp 0 has no slice
abbrev pub row_in : {A : Type 0} → A → List A → ℕ → ℕ → ℕ → A
row_in absent rows g n k = cond (eqb n 0) absent (get_or rows (row_at g n k) absent)

-- the value that key k has in the slice of file group g and timestamp n, if it has a row there; a group or a key past the last has none
unfoldable pub cell : List Bool → List ℕ → ℕ → ℕ → ℕ → Option ℕ
cell present values g n k = cond (ltb g groups && (ltb k keys && row_in false present g n k)) (some (row_in 0 values g n k)) none

-- the shared part with one field changed, a setter for each field: every change of it goes through these
abbrev pub with_last : Shared → ℕ → Shared
with_last s v = record { last = v; locks = s.locks; index = s.index; timeline = s.timeline; present = s.present; values = s.values }

abbrev pub with_locks : Shared → List ℕ → Shared
with_locks s v = record { last = s.last; locks = v; index = s.index; timeline = s.timeline; present = s.present; values = s.values }

abbrev pub with_index : Shared → List ℕ → Shared
with_index s v = record { last = s.last; locks = s.locks; index = v; timeline = s.timeline; present = s.present; values = s.values }

abbrev pub with_timeline : Shared → List ℕ → Shared
with_timeline s v = record { last = s.last; locks = s.locks; index = s.index; timeline = v; present = s.present; values = s.values }

abbrev pub with_present : Shared → List Bool → Shared
with_present s v = record { last = s.last; locks = s.locks; index = s.index; timeline = s.timeline; present = v; values = s.values }

abbrev pub with_values : Shared → List ℕ → Shared
with_values s v = record { last = s.last; locks = s.locks; index = s.index; timeline = s.timeline; present = s.present; values = v }
