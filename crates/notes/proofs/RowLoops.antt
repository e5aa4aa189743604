-- A writer's row of noted timestamps.
--     row_written    a whole row, written over its places
--     row_same       two rows that agree are noted alike
use Prim.Native.Nat.{ℕ, zero, suc, ◌+◌, ◌*◌, ◌≤◌, ◌<◌}
use native.Mathlib.Omega.{arith}
use mathlib.Core.Path.{◌≡◌, refl, sym, ap, ◌∙◌}
use mathlib.Core.List.{List, [], ◌∷◌, ◌++◌, append_assoc}
use lib.ListN.{set, get_or, length, take, drop, length-append}
use borrow.Rule.Slice.PartMut.{put_mid}
use Rattle.std.proofs.lemmas.List.{take-append-drop, take_all, drop-drop, length-take-le, set_at}
use Rattle.std.proofs.Math.Seq.{take-suc, drop-cons}
use Rattle.model.specs.Limits.{writers, noted}
use Rattle.model.specs.Notes.{row_noted}

-- the first u numbers of a row, in their places
row_put : (l row : List ℕ) (w u : ℕ) → u ≤ length row → w * writers + u ≤ length l
    → row_noted l w (λ k. get_or row k 0) u ≡ take (w * writers) l ++ (take u row ++ drop (w * writers + u) l)
unfolding row_noted
row_put l row w zero le within = let none : w * writers + 0 ≡ w * writers = omega arith in rw none (sym (take-append-drop (w * writers) l))
row_put l row w (suc u) le within =
    let start = w * writers in
    let here = get_or row u 0 in
    let before = take start l ++ take u row in
    let behind = drop (suc (start + u)) l in
    let split : take start l ++ (take u row ++ drop (start + u) l) ≡ before ++ get_or l (start + u) 0 ∷ behind =
    rw (drop-cons l (start + u) 0 (omega arith)) (sym (append_assoc (take start l) (take u row) _)) in
    let at : length before ≡ start + u =
    omega (arith, length-append (take start l) (take u row), length-take-le start l (omega arith), length-take-le u row (omega arith)) in
    let more : take (suc u) row ≡ take u row ++ here ∷ [] = take-suc row u 0 (omega arith) in
    let next : start + suc u ≡ suc (start + u) = omega arith in
    let joined : before ++ here ∷ behind ≡ take start l ++ (take (suc u) row ++ drop (start + suc u) l) = rw (more, next) (simp append_assoc) in
    ap (λ xs. set xs (start + u) here) (row_put l row w u (omega arith) (omega arith) ∙ split) ∙ set_at before _ behind here (start + u) at ∙ joined

-- a whole row, written over its places
pub row_written : (l row : List ℕ) (w size : ℕ) → w < writers → length l ≡ noted → length row ≡ writers → size ≡ writers
    → put_mid (w * writers) size l row ≡ row_noted l w (λ u. get_or row u 0) writers
row_written l row w size there sized wide is =
    let all : take writers row ≡ row = take_all writers row (omega arith) in
    sym (row_put l row w writers (omega arith) (omega arith) ∙ rw (is, all, drop-drop writers (w * writers) l))

pub row_same : (l : List ℕ) (w : ℕ) (f g : ℕ → ℕ) → ((u : ℕ) → u < writers → f u ≡ g u) → (n : ℕ) → n ≤ writers → row_noted l w f n ≡ row_noted l w g n
unfolding row_noted
row_same l w f g h zero le = refl
row_same l w f g h (suc n) le = rw (row_same l w f g h n (omega arith), h n (omega arith))
