-- The rows of file slices for any numbers: where a row stands, what a writer's write step stores, and what is left once a slice is dropped.
use Rattle.std.specs.Prelude.{ℕ, Bool, false, cond, List, [], ◌∷◌, ◌≡◌, ltb, leb, Option, Some, None}
use Rattle.common.specs.Counting.{every}
use Rattle.common.specs.Lent.{Lent}
use Rattle.model.specs.Limits.{keys, groups, timestamps, rows}
use Rattle.model.specs.State.{row_at}
use Rattle.model.specs.Rules.{sliced}
use Rattle.model.specs.Cleaning.{emptied}
use Rattle.model.specs.declared.Writer.{Writer}

-- file group g and timestamp n have a slice: both are in range
abbrev pub has_slice : ℕ → ℕ → Bool
has_slice g n = every (ltb g groups ∷ leb 1 n ∷ leb n timestamps ∷ [])

-- the place of the row of key k in the slice of file group g and timestamp n, where all three are in range
abbrev pub place_of : ℕ → ℕ → ℕ → Option ℕ
place_of g n k = cond (every (ltb g groups ∷ leb 1 n ∷ leb n timestamps ∷ ltb k keys ∷ [])) (Some (row_at g n k)) None

-- a place as a number: the end of the rows for none
abbrev pub place_number : Option ℕ → ℕ
place_number None = rows
place_number (Some p) = p

-- the place of the row of key k in the slice of file group g and timestamp n; the end of the rows where one of the three is out of range
abbrev pub row_place : ℕ → ℕ → ℕ → ℕ
row_place g n k = cond (every (ltb g groups ∷ leb 1 n ∷ leb n timestamps ∷ ltb k keys ∷ [])) (row_at g n k) rows

-- a writer's numbers name a slice, a base (0 for none) and a key
abbrev pub names_slice : Writer → Bool
names_slice x = every (ltb x.group groups ∷ leb x.base timestamps ∷ leb 1 x.ts ∷ leb x.ts timestamps ∷ ltb x.key keys ∷ [])

-- the rows with a writer's slice stored, v at its key (document 01, A writer's walk, 4); as they were where its numbers name no slice
unfoldable pub slice_stored : {A : Type 0} → A → List A → Writer → A → List A
slice_stored absent rows x v = cond (names_slice x) (sliced absent rows x.group x.base x.ts x.key v) rows

-- a call stores a writer's slice in both lent arrays: whether its key is present, and the value
abbrev pub StoresSlice : Writer → Lent Bool → Lent ℕ → Type 0
StoresSlice x present values =
    (present.exit.now ≡ slice_stored false present.entry.now x x.put)
    × (values.exit.now ≡ slice_stored 0 values.entry.now x x.value)

-- the presence of rows with file group g's slice of timestamp n dropped (document 02, Q-13); as it was where one of the two is out of range
abbrev pub slice_dropped : List Bool → ℕ → ℕ → List Bool
slice_dropped present g n = cond (has_slice g n) (emptied present g n) present
