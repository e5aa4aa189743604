-- What is put behind a text, piece by piece.
--     byte_put, bytes_put     a byte, and bytes, that are stored at the text's place
--     rest_room, together     behind the first piece there is room for the others, and with them it is put together
--     one_put                 one piece
--     put_first               a piece that is put at the start of a buffer is pasted there
use mathlib.Core.List.{List, [], ◌∷◌, ◌++◌, flatten}
use mathlib.Core.Path.{◌≡◌, refl, ap, ◌∙◌}
use Prim.Native.Nat.{ℕ, ◌+◌, ◌-◌, ◌≤◌, ◌<◌}
use native.Mathlib.Omega.{arith}
use borrow.Rule.Slice.PartMut.{put_mid}
use lib.ListN.{length, take}
use lib.Seq.{drop-drop}
use Rattle.common.specs.Pasting.{pasted, PastedTo}
use Rattle.common.proofs.PastedParts as Parts
use Rattle.common.specs.Counting.{list_below}
use Rattle.common.proofs.Pieces.{Fits, rest_fits, pasted_together, one_piece}
use Rattle.transcript.specs.declared.text.Text.{Text}
use Rattle.transcript.specs.Inner.{HasRoom, Put}

pub part_pasted : {A : Type 0} (buffer : List A) (at : ℕ) (piece : List A) → PastedTo buffer at piece (at + length piece) (put_mid at (at + length piece - at) buffer piece)
unfolding pasted
part_pasted buffer at piece =
    let size : at + length piece - at ≡ length piece = omega arith in
    (refl, rw size (ap (λ (xs : List _). take at buffer ++ (piece ++ xs)) (drop-drop (length piece) at buffer)))

module _ {t : Text} {piece : List ℕ} {pieces : List (List ℕ)} {u : Text} (all : Fits t.buffer.now t.at (piece ∷ pieces)) (first : Put t piece u) where
  pub rest_room : Fits u.buffer.now u.at pieces
  rest_room = rest_fits all first.pasted

  pub together : {v : Text} → Put u (flatten pieces) v → Put t (flatten (piece ∷ pieces)) v
  together rest = record {
    same_reference = rest.same_reference ∙ first.same_reference;
    pasted = pasted_together all first.pasted rest.pasted;
  }

-- the first piece is put at the start of the buffer that the text is made of
pub put_first : {t u : Text} {piece buffer after : List ℕ} {size : ℕ} → t.buffer.now ≡ buffer → t.at ≡ 0
    → Put t piece u → size ≡ u.at → after ≡ u.buffer.now → PastedTo buffer 0 piece size after
put_first bytes start put size after = rw (← bytes, ← start, size, after) put.pasted

pub one_put : {t u : Text} {piece : List ℕ} → Put t piece u → Put t (flatten (piece ∷ [])) u
one_put put = rw one_piece put

-- ---- parts 0, 1, .. put by a loop
-- the parts below i are put behind t, which gave u
pub record Putting (part : ℕ → List ℕ) (count : ℕ) (t u : Text) (i : ℕ) : Type 0 where
  pub same_reference : u.buffer.ghost_name ≡ t.buffer.ghost_name
  pub parts : Parts.Putting part count t.buffer.now t.at u.buffer.now u.at i

pub starts : (part : ℕ → List ℕ) (count : ℕ) (t : Text) → HasRoom t (list_below count part) → Putting part count t t 0
starts part count t h = record { same_reference = refl; parts = Parts.starts part count t.buffer.now t.at h }

module _ {part : ℕ → List ℕ} {count : ℕ} {t u : Text} {i : ℕ} (now : Putting part count t u i) where
  pub part_fits : i < count → HasRoom u (part i)
  part_fits h = Parts.part_fits now.parts h

  pub goes_on : i < count → {v : Text} → Put u (part i) v → Putting part count t v (i + 1)
  goes_on h put = record { same_reference = put.same_reference ∙ now.same_reference; parts = Parts.goes_on now.parts h put.pasted }

  pub ends : count ≤ i → Put t (list_below count part) u
  ends h = record { same_reference = now.same_reference; pasted = Parts.ends now.parts h }
