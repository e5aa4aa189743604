-- What the functions that count and store the rows of given slices ask of each other and promise. `slices` has the
-- timestamp of each file group's slice that counts, or 0 for none.
use Rattle.std.specs.Prelude.{ℕ, ◌+◌, ◌-◌, ◌*◌, ◌≤◌, ◌<◌, min, Bool, true, false, cond, ◌≡◌, List, length, get_or}
use Rattle.common.specs.Counting.{list_below, sum}
use Rattle.model.specs.Limits.{keys, groups, timestamps}
use Rattle.model.specs.State.{row_in}
use Rattle.model.specs.Snapshot.{Row, shown, rows_of, all_rows}
use Rattle.common.specs.Pasting.{PastedTo}
use Rattle.shown_rows.specs.declared.counting.KeyCounts.{KeyCounts}
use Rattle.shown_rows.specs.declared.places.Shown.{Shown}
use Rattle.shown_rows.specs.declared.storing.Listing.{Listing}
use Rattle.shown_rows.specs.Slices.{timestamp_or0, slice_in}

-- the slice of file group g and timestamp n has a place for a row of key k
abbrev pub HasPlace : ℕ → ℕ → ℕ → Type 0
HasPlace g n k = (g < groups) × ((0 < n) × (n ≤ timestamps)) × (k < keys)

-- what the test tells whether timestamp n has slices
pub record SliceTested (r : Bool) (n : ℕ) : Type 0 where
  pub has : r ≡ true → (0 < n) × (n ≤ timestamps)
  pub lacks : r ≡ false → timestamp_or0 n ≡ 0

-- has file group g's slice a row of key k
abbrev pub has_row : List ℕ → List Bool → ℕ → ℕ → Bool
has_row slices present k g = row_in false present g (slice_in slices g) k

-- 1 for true, 0 for false
abbrev pub number_of : Bool → ℕ
number_of b = cond b 1 0

-- a key's count, and the lowest file group that shows it, with file group g counted too
abbrev pub count_with : Bool → ℕ → ℕ
count_with here n = n + number_of here

abbrev pub lowest_with : Bool → ℕ → ℕ → ℕ
lowest_with here g n = min n (cond here g groups)

-- both lists have a number for each key
pub record ForKeys (xs ys : List ℕ) : Type 0 where
  pub shows : length xs ≡ keys
  pub lowest : length ys ≡ keys

-- the slice of file group g, whose rows stand from a place on, is counted
pub record SliceCounted (present : List Bool) (from g : ℕ) (shows lowest shows' lowest' : List ℕ) : Type 0 where
  pub count : (k : ℕ) → k < keys → get_or shows' k 0 ≡ count_with (get_or present (from + k) false) (get_or shows k 0)
  pub low : (k : ℕ) → k < keys → get_or lowest' k 0 ≡ lowest_with (get_or present (from + k) false) g (get_or lowest k 0)
  pub for_keys : ForKeys shows' lowest'

-- l is the lowest number below n of which a test holds, or `groups` if there is none
pub record Lowest (test : ℕ → Bool) (n l : ℕ) : Type 0 where
  pub small : l ≤ groups
  pub below : (g : ℕ) → g < l → g < n → test g ≡ false
  pub here : l < groups → test l ≡ true

-- the slices of the file groups below n are counted
pub record Counted (slices : List ℕ) (present : List Bool) (n : ℕ) (shows lowest : List ℕ) : Type 0 where
  pub count : (k : ℕ) → k < keys → get_or shows k 0 ≡ sum n (λ g. number_of (has_row slices present k g))
  pub low : (k : ℕ) → k < keys → Lowest (has_row slices present k) n (get_or lowest k 0)

-- the rows that slices show of key k in the file groups from `from` on, of the key, and of all keys
abbrev pub rows_from : Shown → ℕ → ℕ → List Row
rows_from s k from = list_below (groups - from) (λ i. shown s.present.now s.values.now (slice_in s.slices) k (from + i))

abbrev pub key_rows : Shown → ℕ → List Row
key_rows s k = rows_of s.present.now s.values.now (slice_in s.slices) k

abbrev pub rows_shown : Shown → List Row
rows_shown s = all_rows s.present.now s.values.now (slice_in s.slices)

-- what storing the rows of key k in the file groups from `from` on, of which there are `count`, asks
pub record OthersFit (s : Shown) (k from count : ℕ) (listing : Listing) : Type 0 where
  pub key : k < keys
  pub within : from ≤ groups
  pub all : count ≡ length (rows_from s k from)
  pub fits : listing.at + 3 * count ≤ length listing.buffer.now

-- what storing the rows of key k asks
pub record KeyFits (s : Shown) (k count lowest : ℕ) (listing : Listing) : Type 0 where
  pub key : k < keys
  pub all : count ≡ length (key_rows s k)
  pub low : Lowest (has_row s.slices s.present.now k) groups lowest
  pub fits : listing.at + 3 * count ≤ length listing.buffer.now

-- what storing all rows asks
pub record AllFit (s : Shown) (counts : KeyCounts) (room : ℕ) : Type 0 where
  pub counted : Counted s.slices s.present.now groups counts.shows counts.lowest
  pub fits : 3 * length (rows_shown s) ≤ room

-- a piece is stored behind what a listing holds, in the same buffer
pub record Stores (old new : Listing) (piece : List ℕ) : Type 0 where
  pub same_reference : new.buffer.ghost_name ≡ old.buffer.ghost_name
  pub pasted : PastedTo old.buffer.now old.at piece new.at new.buffer.now
