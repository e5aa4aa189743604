-- What a walk uses of a type that owns only facts and has one machine value: `Plain`. Words, structs, enums and arrays
-- of such are so: `of_word`, `of_struct`, `of_enum`, `of_array`. `word`: a number that fits is a value of its type.
use mathlib.Core.List.{[], ◌∷◌, map}
use Prim.Native.Nat.{ℕ, ◌<◌, ◌^◌}
use lib.Dec.{T as Holds}
use mir.Syntax.{ty_int}
use mir.Val.{WT, has_ty}
use types.Logic.{Logic}
use denote.Laws.{Tells, Copy, Lawful, Makes}
use denote.Plain.{uint_Lawful, uint_Makes, uint_copy}
use denote.ArrayMemory.{Single}
use denote.Copied.{Copied, uint_Copied, Array-Copied}
use denote.Array.{Array, array_val, Array-Tells, Array-Lawful, Array-Makes, array_copy}
use denote.Enum.Declared as enum
use denote.Enum.Enum as enum-of
use denote.Enum.Laws as enum_laws
use denote.Struct.Declared as struct
use denote.Struct.Laws as struct_laws
use denote.Struct.Struct as struct-of
use Rattle.walks.proofs.Walks.{Ura, w64, Val, vint, usize, Is, uint_Tells, RattleType}

pub record Plain {M : Type 1} {𝓤 : Ura M} (𝓛 : Logic 𝓤) (R : RattleType) : Type 1 where
  pub val : R.Denot → Val
  pub tells : Tells R (Is R) (λ y. val y ∷ [])
  pub lawful : Lawful 𝓛 R
  pub makes : Makes 𝓛 R (Is R)
  pub copies : Copy 𝓛 R
  pub copied : Copied 𝓛 R

module _ {M : Type 1} {𝓤 : Ura M} (𝓛 : Logic 𝓤) where
  abbrev pub of_word : Plain 𝓛 usize
  of_word = record { val = vint w64; tells = uint_Tells w64; lawful = uint_Lawful 𝓛 w64; makes = uint_Makes 𝓛 w64; copies = uint_copy 𝓛 w64; copied = uint_Copied 𝓛 w64 }

  abbrev pub of_struct : (T : struct.Declared) → struct_laws.Laws T → struct-of.Plains (struct.fields T) → struct_laws.Copyables T.parts
      → Plain 𝓛 (struct.row T)
  of_struct T L pl cs = record {
    val = struct_laws.val T L;
    tells = struct_laws.tells T L;
    lawful = struct_laws.lawful T L 𝓛;
    makes = struct_laws.makes T pl 𝓛;
    copies = struct_laws.copy T cs 𝓛;
    copied = struct_laws.copied T cs 𝓛;
  }

  abbrev pub of_enum : (T : enum.Declared) → enum_laws.Laws T → enum-of.Few (enum.shape T) → enum-of.Plainss (enum.variants T)
      → enum_laws.Copyabless T.parts → Plain 𝓛 (enum.row T)
  of_enum T L few pl cs = record {
    val = enum_laws.val T L;
    tells = enum_laws.tells T L;
    lawful = enum_laws.lawful T L 𝓛 few;
    makes = enum_laws.makes T pl 𝓛;
    copies = enum_laws.copy T cs 𝓛;
    copied = enum_laws.copied T cs 𝓛;
  }

  abbrev pub of_array : {R : RattleType} → Plain 𝓛 R → Single R.mir → (n : ℕ) → Plain 𝓛 (Array R n)
  of_array {R} P single n = record {
    val = λ xs. array_val (map P.val xs);
    tells = Array-Tells R (λ y. P.val y ∷ []) P.tells n;
    lawful = Array-Lawful 𝓛 R
        P.lawful n;
    makes = Array-Makes 𝓛 R P.makes n;
    copies = array_copy 𝓛 R P.copies n;
    copied = Array-Copied 𝓛 R P.copied single n;
  }

-- a number that fits is a value of its type
pub word : {n : ℕ} → n < 2 ^ 64 → Holds (has_ty (ty_int w64) (vint w64 n)) × WT (vint w64 n)
word h = (tt, record { fits = h })
