-- The rows of a key stored, file group by file group: `StoringOthers` is the loop's invariant, the pieces pasted so far with the rows left to store.
--     others_begin, others_ask, others_skip, others_row, others_none, others_end    its laws
--     key_none, key_first, key_others, key_end    the rows of a key: none, the first, the others, and all
--     all_begin, all_key, all_end    the rows of key after key: the room, what each key's rows ask, and what is stored
use Prim.Native.Nat.{ℕ, ◌+◌, ◌-◌, ◌*◌, ◌<◌, ◌≤◌}
use native.Mathlib.Decide.{dec_lt}
use native.Mathlib.Omega.{arith}
use mathlib.Core.Bool.{true, false}
use mathlib.Core.Logic.{by_cases}
use mathlib.Core.Path.{◌≡◌, refl, sym, ◌∙◌, ap}
use mathlib.Core.List.{List, [], ◌∷◌}
use lib.ListN.{get_or, length}
use Rattle.common.specs.Counting.{list_below}
use Rattle.common.specs.Pasting.{pasted}
use Rattle.common.proofs.ListBelow.{none_below, no_length, list_more, length_more, list_rest, list_whole}
use Rattle.common.proofs.Pasting.{pasted_length}
use Rattle.common.proofs.Pieces.{none_pasted, both_fit, both_pasted}
use Rattle.common.proofs.PastedParts.{Putting, starts, part_fits, goes_on, ends}
use Rattle.model.specs.Limits.{keys, groups}
use Rattle.model.specs.State.{row_in}
use Rattle.model.specs.Snapshot.{Row, row, shown, numbers}
use Rattle.shown_rows.specs.declared.counting.KeyCounts.{KeyCounts}
use Rattle.shown_rows.specs.Slices.{slice_in}
use Rattle.shown_rows.specs.declared.places.Shown.{Shown}
use Rattle.shown_rows.specs.declared.storing.Listing.{Listing}
use Rattle.shown_rows.specs.Inner.{HasPlace, has_row, rows_from, key_rows, rows_shown, Stores, OthersFit, KeyFits, AllFit}
use Rattle.shown_rows.proofs.ShownRows.{shown_place, shown_row, shown_none, key_count, numbers_below, numbers_length}

-- what file group g shows of key k, and its row where it shows one
abbrev pub group_rows : Shown → ℕ → ℕ → List Row
group_rows s k g = shown s.present.now s.values.now (slice_in s.slices) k g

abbrev pub row_shown : Shown → ℕ → ℕ → Row
row_shown s k g = row k (row_in 0 s.values.now g (get_or s.slices g 0) k) g

-- the parts of a listing: the numbers of each key's rows, and of a key's row in each file group from `from` on
abbrev pub key_part : Shown → ℕ → List ℕ
key_part s k = numbers (key_rows s k)

abbrev pub row_part : Shown → ℕ → ℕ → ℕ → List ℕ
row_part s k from i = numbers (group_rows s k (from + i))

-- the rows of key k in the file groups from `from` on and below g are stored, and `left` are left
pub record StoringOthers (s : Shown) (k from : ℕ) (old new : Listing) (left g : ℕ) : Type 0 where
  pub key : k < keys
  pub within : (from ≤ groups) × (from ≤ g)
  pub same_reference : new.buffer.ghost_name ≡ old.buffer.ghost_name
  pub putting : Putting (row_part s k from) (groups - from) old.buffer.now old.at new.buffer.now new.at (g - from)
  pub rest : length (list_below (g - from) (row_part s k from)) + 3 * left ≡ length (list_below (groups - from) (row_part s k from))

pub others_begin : {s : Shown} {k from count : ℕ} {listing : Listing} → OthersFit s k from count listing → StoringOthers s k from listing listing count from
unfolding list_below
others_begin {s} {k} {from} {listing = listing} h =
    let all = ap length (numbers_below (groups - from) (λ i. group_rows s k (from + i))) ∙ numbers_length (rows_from s k from) in
    let none : from - from ≡ 0 = omega arith in
    record {
      key = h.key;
      within = (h.within, omega arith);
      same_reference = refl;
      putting = rw none (starts (row_part s k from) (groups - from) listing.buffer.now listing.at (omega (arith, h.all, h.fits, all)));
      rest = rw none (omega (arith, h.all, all));
    }

module _ {s : Shown} {k from left g : ℕ} {old new : Listing} (now : StoringOthers s k from old new left g) where
  abbrev part : ℕ → List ℕ
  part = row_part s k from

  pub others_end : left ≡ 0 → Stores old new (numbers (rows_from s k from))
  others_end e =
      let whole = list_whole (g - from) (groups - from) part now.putting.upto (omega (arith, now.rest)) in
      record {
        same_reference = now.same_reference;
        pasted = rw (whole ∙ numbers_below (groups - from) (λ i. group_rows s k (from + i))) at now.putting.put;
      }

  pub others_none : groups ≤ g → left ≡ 0
  others_none l = let e : g - from ≡ groups - from = omega (arith, now.putting.upto) in omega (arith, rw e at now.rest)

  module _ (l : g < groups) where
    here : {rows : List Row} → group_rows s k g ≡ rows → part (g - from) ≡ numbers rows
    here e = let same : from + (g - from) ≡ g = omega (arith, now.within) in rw (same, e)

    others_next : {rows : List Row} {new' : Listing} {left' : ℕ} → group_rows s k g ≡ rows → left' + length rows ≡ left → Stores new new' (numbers rows)
        → StoringOthers s k from old new' left' (g + 1)
    others_next {rows} e m t =
        let same : g + 1 - from ≡ g - from + 1 = omega (arith, now.within) in
        record {
          key = now.key;
          within = omega (arith, now.within);
          same_reference = t.same_reference ∙ now.same_reference;
          putting = rw same (goes_on now.putting (omega (arith, now.within)) (rw (here e) t.pasted));
          rest = rw same (omega (arith, now.rest, length_more (g - from) part, ap length (here e), numbers_length rows));
        }

    pub others_skip : has_row s.slices s.present.now k g ≡ false → StoringOthers s k from old new left (g + 1)
    unfolding numbers
    others_skip e =
        others_next (shown_none s.slices s.present.now s.values.now now.key l e) (omega arith)
        (record { same_reference = refl; pasted = none_pasted new.buffer.now new.at })

    module _ (e : has_row s.slices s.present.now k g ≡ true) where
      shown_here : group_rows s k g ≡ row_shown s k g ∷ []
      shown_here = shown_row s.slices s.present.now s.values.now now.key l e

      pub others_ask : HasPlace g (get_or s.slices g 0) k × (new.at + 3 ≤ length new.buffer.now)
      unfolding numbers
      others_ask = (
        shown_place s.slices s.present.now s.values.now now.key l e,
        omega (arith, part_fits now.putting (omega (arith, now.within)), ap length (here shown_here)),
      )

      pub others_row : {new' : Listing} → 0 < left → Stores new new' (numbers (row_shown s k g ∷ [])) → StoringOthers s k from old new' (left - 1) (g + 1)
      others_row m t = others_next shown_here (omega arith) t

-- the rows of a key
module _ {s : Shown} {k count lowest : ℕ} {old : Listing} (h : KeyFits s k count lowest old) where
  hidden : list_below lowest (group_rows s k) ≡ []
  hidden =
      none_below lowest (group_rows s k)
      (λ g l. shown_none s.slices s.present.now s.values.now h.key (omega (arith, h.low.small)) (h.low.below g l (omega (arith, h.low.small))))

  pub key_none : count ≡ 0 → Stores old old (key_part s k)
  unfolding numbers
  key_none e =
      let none = no_length (key_rows s k) (sym h.all ∙ e) in
      record { same_reference = refl; pasted = rw none (none_pasted old.buffer.now old.at) }

  module _ (l : 0 < count) where
    key_inside : lowest < groups
    key_inside =
        by_cases (dec_lt lowest groups) (λ m. m)
        (λ m. let e : lowest ≡ groups = omega (arith, h.low.small) in absurd (omega (arith, h.all, ap length (rw e at hidden))))

    -- the first row, and the others
    first_others : key_rows s k ≡ row_shown s k lowest ∷ rows_from s k (lowest + 1)
    first_others =
        list_rest (lowest + 1) groups (group_rows s k) (omega (arith, key_inside))
        ∙ rw (list_more lowest (group_rows s k), hidden, shown_row s.slices s.present.now s.values.now h.key key_inside (h.low.here key_inside))

    pub key_first : HasPlace lowest (get_or s.slices lowest 0) k × (old.at + 3 ≤ length old.buffer.now)
    key_first = (shown_place s.slices s.present.now s.values.now h.key key_inside (h.low.here key_inside), omega (arith, h.fits))

    module _ {new : Listing} (first : Stores old new (numbers (row_shown s k lowest ∷ []))) where
      pub key_others : OthersFit s k (lowest + 1) (count - 1) new
      unfolding numbers
      key_others =
          let kept = pasted_length old.buffer.now old.at (numbers (row_shown s k lowest ∷ [])) (omega (arith, h.fits)) in
          record {
            key = h.key;
            within = omega (arith, key_inside);
            all = omega (arith, h.all, ap length first_others);
            fits = rw (first.pasted.1, kept) (omega (arith, h.fits, first.pasted.0));
          }

      pub key_end : {end : Listing} → Stores new end (numbers (rows_from s k (lowest + 1))) → Stores old end (key_part s k)
      unfolding numbers
      key_end others =
          let fits : old.at + length (key_part s k) ≤ length old.buffer.now = omega (arith, h.fits, h.all, numbers_length (key_rows s k)) in
          record {
            same_reference = others.same_reference ∙ first.same_reference;
            pasted =
                rw first_others
                (both_pasted (both_fit (numbers (row_shown s k lowest ∷ [])) _ (rw first_others at fits)) first.pasted others.pasted);
          }

-- the rows of all keys
module _ (s : Shown) where
  all_numbers : list_below keys (key_part s) ≡ numbers (rows_shown s)
  all_numbers = numbers_below keys (key_rows s)

  pub all_begin : {counts : KeyCounts} {buffer : List ℕ} → AllFit s counts (length buffer) → Putting (key_part s) keys buffer 0 buffer 0 0
  all_begin {buffer = buffer} h = starts (key_part s) keys buffer 0 (omega (arith, h.fits, ap length all_numbers, numbers_length (rows_shown s)))

  module _ {old : List ℕ} (listing : Listing) {k : ℕ} (now : Putting (key_part s) keys old 0 listing.buffer.now listing.at k) where
    pub all_key : {counts : KeyCounts} {room : ℕ} → AllFit s counts room → k < keys → KeyFits s k (get_or counts.shows k 0) (get_or counts.lowest k 0) listing
    all_key h l =
        let all = h.counted.count k l ∙ key_count s.slices s.present.now s.values.now k l in
        record {
          key = l;
          all = all;
          low = h.counted.low k l;
          fits = omega (arith, part_fits now l, all, numbers_length (key_rows s k));
        }

    pub all_end : keys ≤ k → listing.buffer.now ≡ pasted old 0 (numbers (rows_shown s))
    all_end l = rw all_numbers at (ends now l).1
