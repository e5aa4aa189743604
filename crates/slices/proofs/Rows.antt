-- The rows of a slice as they are taken over, over any type of rows.
--     clear_row      one more row is cleared
--     copied_rows    all rows are copied at once
use Prim.Native.Nat.{ℕ, zero, suc, ◌+◌, ◌-◌, ◌<◌, ◌≤◌}
use native.Mathlib.Nat.{le_refl}
use mathlib.Core.List.{List}
use mathlib.Core.Path.{◌≡◌, sym}
use native.Mathlib.Numerals.{add-one}
use native.Mathlib.Omega.{arith}
use lib.ListN.{length, set, drop, length-drop}
use lib.Seq.{paste}
use borrow.Author.Tests.{ne_eqb}
use Rattle.std.proofs.lemmas.List.{get_or-drop}
use Rattle.std.proofs.lemmas.List.Edits.{paste_none, paste_more}
use Rattle.std.specs.List.{copy_within}
use Rattle.model.specs.Limits.{keys}
use Rattle.model.specs.State.{row_at}
use Rattle.model.specs.Rules.{copied}

module _ {A : Type 0} (absent : A) (before : List A) (g n : ℕ) where
  pub clear_row : (k : ℕ) → set (copied absent before g 0 n k) (row_at g n 0 + k) absent ≡ copied absent before g 0 n (k + 1)
  unfolding copied
  clear_row k = let place : row_at g n 0 + k ≡ row_at g n k = omega arith in rw (place, add-one)

  module _ (b : ℕ) (first : 0 < b) (all : row_at g n 0 + keys ≤ length before) (base : row_at g b 0 + keys ≤ length before) where
    pasted_rows : (k : ℕ) → k ≤ keys → copied absent before g b n k ≡ paste before (row_at g n 0) (drop (row_at g b 0) before) k
    unfolding copied
    pasted_rows zero l = paste_none before (row_at g n 0) (drop (row_at g b 0) before)
    pasted_rows (suc k) l =
        let place : row_at g n k ≡ row_at g n 0 + k = omega arith in
        let base_place : row_at g b 0 + k ≡ row_at g b k = omega arith in
        let room : row_at g n 0 + k < length before = omega arith in
        let more : k < length (drop (row_at g b 0) before) = simp length-drop (omega arith) in
        rw (place, pasted_rows k (omega arith), ne_eqb b 0 (λ (z : b ≡ 0). omega (arith, z)), ← base_place, ← get_or-drop (row_at g b 0) before k absent, ← add-one k)
        (paste_more before (row_at g n 0) (drop (row_at g b 0) before) k absent room more)

    pub copied_rows : copy_within before (row_at g b 0) (row_at g b 0 + keys) (row_at g n 0) ≡ copied absent before g b n keys
    copied_rows =
        let some : row_at g b 0 + keys - row_at g b 0 ≡ keys = omega arith in
        rw some (sym (pasted_rows keys (le_refl keys)))
