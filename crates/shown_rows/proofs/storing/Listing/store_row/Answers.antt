-- `store_row` meets its contract: three stores are the row's numbers, in the same buffer.
use Prim.Native.Nat.{ℕ, ◌+◌, ◌≤◌}
use native.Mathlib.Numerals.{towards_suc}
use native.Mathlib.Omega.{arith}
use mathlib.Core.Path.{◌≡◌, refl, ◌∙◌}
use mathlib.Core.List.{List, [], ◌∷◌, append_assoc}
use lib.ListN.{length, set}
use lib.Seq.{sets-eq}
use Rattle.common.specs.Pasting.{pasted}
use Rattle.model.specs.Snapshot.{row, numbers}
use Rattle.shown_rows.proofs.storing.Listing.store_row.Goals as goal

row-pasted : (buffer : List ℕ) (at k v g : ℕ) → at + 3 ≤ length buffer
    → set (set (set buffer at k) (at + 1) v) (at + 2) g ≡ pasted buffer at (numbers (row k v g ∷ []))
unfolding numbers pasted
row-pasted buffer at k v g h = simp towards_suc (sets-eq (k ∷ v ∷ g ∷ []) buffer at h ∙ simp (append_assoc, towards_suc))

pub returns : goal.returns
unfolding numbers
returns c =
    record {
      same_reference = refl;
      pasted = (omega arith, rw (← c.value_at.ensures) (row-pasted _ _ _ _ _ c.requires.1));
    }
