-- Numbers taken three at a time.
--     chunk_row     the numbers of a chunk are those of its row
use mathlib.Core.List.{List, []}
use mathlib.Core.Path.{◌≡◌, refl, ap, ◌∙◌}
use Prim.Native.Nat.{ℕ, zero, suc, ◌+◌, ◌*◌, ◌<◌}
use native.Mathlib.Omega.{arith}
use lib.ListN.{take, drop, get_or}
use lib.Seq.{drop-drop}
use Rattle.std.proofs.lemmas.List.{get_or-take, get_or-drop}
use Rattle.std.specs.Simd.{first_chunks}
use Rattle.model.specs.Snapshot.{row}
use Rattle.transcript.specs.Inner.{row_of}

chunk_at : (n i : ℕ) (xs : List ℕ) → i < n → get_or (first_chunks 3 n xs) i [] ≡ take 3 (drop (3 * i) xs)
chunk_at zero i xs h = absurd (omega arith)
chunk_at (suc n) zero xs h = refl
chunk_at (suc n) (suc i) xs h =
    let place : 3 + 3 * i ≡ 3 * suc i = omega arith in
    chunk_at n i (drop 3 xs) (omega arith) ∙ ap (take 3) (drop-drop (3 * i) 3 xs ∙ ap (λ (k : ℕ). drop k xs) place)

number_at : (n i : ℕ) (xs : List ℕ) → i < n → (j : ℕ) → j < 3 → get_or (get_or (first_chunks 3 n xs) i []) j 0 ≡ get_or xs (3 * i + j) 0
number_at n i xs h j l = rw (chunk_at n i xs h) (get_or-take 3 (drop (3 * i) xs) j 0 l ∙ get_or-drop (3 * i) xs j 0)

pub chunk_row : {chunks : List (List ℕ)} (n i : ℕ) (xs : List ℕ) → chunks ≡ first_chunks 3 n xs → i < n
    → row (get_or (get_or chunks i []) 0 0) (get_or (get_or chunks i []) 1 0) (get_or (get_or chunks i []) 2 0) ≡ row_of xs i
chunk_row n i xs is h =
    let at : (j : ℕ) → j < 3 → get_or (get_or (first_chunks 3 n xs) i []) j 0 ≡ get_or xs (3 * i + j) 0 = number_at n i xs h in
    let first : 3 * i + 0 ≡ 3 * i = omega arith in
    rw (is, at 0 (omega arith), at 1 (omega arith), at 2 (omega arith), first) refl
