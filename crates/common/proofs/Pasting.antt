-- A piece pasted into a buffer, of any element.
--     pasted_none       no piece changes nothing
--     pasted_length     the buffer keeps its length
--     pasted_twice      pieces pasted one behind the other are pasted together
--     pasted_part       a piece pasted at the start of the part behind a place is pasted at that place
use mathlib.Core.Path.{◌≡◌, sym, ap, ◌∙◌}
use mathlib.Core.List.{List, [], ◌++◌, append_assoc, append-nil}
use Prim.Native.Nat.{ℕ, ◌+◌, ◌-◌, ◌≤◌}
use native.Mathlib.Nat.{add-zero, zero-add}
use native.Mathlib.Omega.{arith}
use lib.ListN.{length, take, drop, length-append, length-drop, take-append-drop, drop_of_length-le}
use lib.Seq.{length-take-le, take_all, take_at, drop_at, drop-drop}
use Rattle.common.specs.Pasting.{pasted, PastedTo}

pub pasted_none : {A : Type 0} (buffer : List A) (at : ℕ) → pasted buffer at [] ≡ buffer
unfolding pasted
pasted_none buffer at = rw add-zero (take-append-drop at buffer)

pub pasted_length : {A : Type 0} (buffer : List A) (at : ℕ) (piece : List A)
    → at + length piece ≤ length buffer → length (pasted buffer at piece) ≡ length buffer
unfolding pasted
pasted_length buffer at piece h = simp (length-append, length-drop) (omega (arith, length-take-le at buffer (omega arith)))

module _ {A : Type 0} (buffer : List A) (at : ℕ) (xs ys : List A) (fits : at + length (xs ++ ys) ≤ length buffer) where
  -- the place behind xs, and what stands before it
  abbrev next : ℕ
  next = at + length xs

  abbrev front : List A
  front = take at buffer ++ xs

  front_length : length front ≡ next
  front_length = omega (arith, length-append (take at buffer) xs, length-take-le at buffer (omega arith))

  by_front : pasted buffer at xs ≡ front ++ drop next buffer
  unfolding pasted
  by_front = sym (append_assoc (take at buffer) xs (drop next buffer))

  before : take next (pasted buffer at xs) ≡ front
  before = rw by_front (take_at front (drop next buffer) next front_length)

  behind : drop (next + length ys) (pasted buffer at xs) ≡ drop (at + length (xs ++ ys)) buffer
  behind =
      let place : next + length ys ≡ at + length (xs ++ ys) = omega (arith, length-append xs ys) in
      sym (drop-drop (length ys) next (pasted buffer at xs)) ∙ ap (drop (length ys)) (rw by_front (drop_at front (drop next buffer) next front_length))
      ∙ drop-drop (length ys) next buffer ∙ ap (λ (n : ℕ). drop n buffer) place

  pub pasted_twice : pasted (pasted buffer at xs) next ys ≡ pasted buffer at (xs ++ ys)
  unfolding pasted
  pasted_twice = rw (before, behind) (simp append_assoc)

-- ---- the part behind a place, as it is lent
module _ {A : Type 0} (buffer : List A) (at : ℕ) where
  abbrev pub lent : List A
  lent = take (length buffer - at) (drop at buffer)

  -- the buffer, where the part has come back changed
  abbrev pub back : List A → List A
  back part = take at buffer ++ (part ++ drop (length buffer - at) (drop at buffer))

  pub part_all : lent ≡ drop at buffer
  part_all = take_all (length buffer - at) (drop at buffer) (omega (arith, length-drop at buffer))

  part_none : drop (length buffer - at) (drop at buffer) ≡ []
  part_none = drop_of_length-le (drop at buffer) {i = length buffer - at} (omega (arith, length-drop at buffer))

  pub pasted_part : (piece : List A) {size : ℕ} {part : List A} → PastedTo lent 0 piece size part → PastedTo buffer at piece (at + size) (back part)
  unfolding pasted
  pasted_part piece is = (omega (arith, is.0), rw (is.1, part_all, part_none, append-nil, drop-drop, zero-add))
