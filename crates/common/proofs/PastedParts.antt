-- Parts 0, 1, .. put one behind the other into a text by a loop: `Putting` holds at each turn, by `starts` before the first and `goes_on` after each.
--     starts_where          the same where no part may have to be put
--     same_length           the text keeps its length
--     part_fits             the next part has room
--     ends                  what is left behind, where the parts are counted
use mathlib.Core.Path.{◌≡◌, ap, ◌∙◌}
use mathlib.Core.List.{List, [], ◌∷◌}
use mathlib.Core.Logic.{by_cases}
use Prim.Native.Nat.{ℕ, suc, ◌+◌, ◌≤◌, ◌<◌}
use native.Mathlib.Decide.{dec_lt}
use native.Mathlib.Numerals.{add-one}
use native.Mathlib.Omega.{arith}
use lib.ListN.{length, length-append}
use Rattle.common.specs.Counting.{list_below}
use Rattle.common.specs.Pasting.{PastedTo}
use Rattle.common.proofs.ListBelow.{list_rest}
use Rattle.common.proofs.Pasting.{pasted_none, pasted_length}
use Rattle.common.proofs.Pieces.{Fits, first_fits, rest_fits, none_pasted, both_fit, both_pasted}

-- the parts below i are put, and those below count have room; where there are none the place may lie anywhere
pub record Putting {A : Type 0} (part : ℕ → List A) (count : ℕ) (text₀ : List A) (at₀ : ℕ) (text : List A) (at i : ℕ) : Type 0 where
  pub upto : i ≤ count
  pub room : 0 < count → at₀ + length (list_below count part) ≤ length text₀
  pub put : PastedTo text₀ at₀ (list_below i part) at text

pub starts_where : {A : Type 0} (part : ℕ → List A) (count : ℕ) (text : List A) (at : ℕ)
    → (0 < count → at + length (list_below count part) ≤ length text) → Putting part count text at text at 0
unfolding list_below
starts_where part count text at h = record { upto = omega arith; room = h; put = none_pasted text at }

pub starts : {A : Type 0} (part : ℕ → List A) (count : ℕ) (text : List A) (at : ℕ)
    → at + length (list_below count part) ≤ length text → Putting part count text at text at 0
starts part count text at h = starts_where part count text at (λ _. h)

-- fewer parts are no longer
fewer_parts : {A : Type 0} (part : ℕ → List A) (n i : ℕ) → i ≤ n → length (list_below i part) ≤ length (list_below n part)
fewer_parts part n i h = let rest = list_rest i n part h in omega (arith, ap length rest ∙ length-append (list_below i part) _)

module _ {A : Type 0} {part : ℕ → List A} {count : ℕ} {text₀ : List A} {at₀ : ℕ} {text : List A} {at i : ℕ}
    (now : Putting part count text₀ at₀ text at i) where
  pub same_length : length text ≡ length text₀
  unfolding list_below
  same_length = by_cases (dec_lt 0 count)
      (λ some. let within = now.room some in
      rw now.put.1 (pasted_length text₀ at₀ (list_below i part) (omega (arith, within, fewer_parts part count i now.upto))))
      (λ none. let first : i ≡ 0 = omega (arith, now.upto) in rw (now.put.1, first) (ap length (pasted_none text₀ at₀)))

  module _ (h : i < count) where
    -- the parts below i, and part i
    next_parts : Fits text₀ at₀ (list_below i part ∷ part i ∷ [])
    unfolding list_below
    next_parts = both_fit (list_below i part) (part i) (omega (arith, now.room (omega arith), fewer_parts part count (suc i) h))

    pub part_fits : at + length (part i) ≤ length text
    part_fits = first_fits (rest_fits next_parts now.put)

    pub goes_on : {next : ℕ} {after : List A} → PastedTo text at (part i) next after → Putting part count text₀ at₀ after next (i + 1)
    unfolding list_below
    goes_on piece = rw add-one (record { upto = h; room = now.room; put = both_pasted next_parts now.put piece })

  pub ends : count ≤ i → PastedTo text₀ at₀ (list_below count part) at text
  ends h = let all : count ≡ i = omega (arith, now.upto) in rw all now.put
