-- Locals that a function lends.
--     lends_local, local_back     a local that is lent as a `&mut` for a call, and is back after it with its last value
--     lends_array, array_back     a local array that is lent as a `&` slice, and is back after it, empty
-- While it is lent, `LentLocal` or `LentArray` is kept; `ref_to` or `shr_to` is the reference to it.
use types.Logic.{Logic}
use denote.Ref.{Bor, MutBor}
use mathlib.Core.List.{List, [], ◌∷◌}
use mathlib.Core.Path.{◌≡◌, refl, sym}
use Prim.Native.Nat.{ℕ}
use lib.ListN.{length}
use base.Share
use base.Fraction.{full_share}
use mir.Raw.{raw as raw_ty}
use mir.Syntax.{Ty, Lifetime}
use base.Fml.{GName, fsep, froom, fdead, fres, flent, fhide}
use types.Kit.{Soaks, later, Goal, Seq, Step, step, use2, use3, rewrite, pick, fpack, fpick, feq_i, await}
use types.Share.{arr_parts, parts}
use types.Tokens.{lent_back}
use denote.Laws.{Tells}
use denote.Copied.{Copied, each_lends}
use denote.Lend.{lends_ref, ref_back}
use denote.Shadow.{pure_i}
use denote.Slice.{elements_shared, shr_slice_at}
use denote.Memory.{raw_all, cell_raw, part_of, mem, shares}
use denote.Array.{Array}
use denote.ArrayMemory.{Single, Array-apart, Array-whole}
use borrow.Within.Token.{Rest, within_token, within_end}
use types.Kit as kit
use types.SemTy
use Rattle.walks.proofs.Walks.{Ura, Val, vptr, Lft, Share, Fml, fat, flft, Item, ‵, raw}
use Rattle.walks.proofs.Walks.{◌⊛◌, ◌$◌, move, drop, use1, split, join, fsplit, fjoin, lft_new, Is, shows}
use Rattle.walks.proofs.Walks.{cell_at, RattleType, MutRef, slice_val, ShrSlice, Room, spelt}

-- ---- a local of type τ, which holds a value of R
module _ (R : RattleType) (τ : Ty) (b : ℕ) (one : raw_all R.mir ≡ raw_ty τ ∷ []) (h : R.Denot) {M : Type 1} {𝓤 : Ura M} {𝓛 : Logic 𝓤}
    {K : Type 0} {Γ : List (Item 𝓤)} {G : Goal 𝓤 𝓛.H} where
  -- the value lies in memory, with what it owns
  lies_in : K → (v : Val) → Step K 𝓛 (‵ ((mem R).own_at h b 0) ∷ Γ) G (‵ (fat full_share τ b 0 v) ∷ ‵ (R.own_val h (v ∷ [])) ∷ Γ) G
  unfolding part_of
  lies_in t v = step (λ s. use1 𝓛 (‵ (cell_raw full_share (raw_ty τ ∷ []) (v ∷ []) b 0)) (𝓛.laws.at_raw full_share τ b 0 v) $
      rewrite t 0 (λ (ρs : List Ty). ‵ (cell_raw full_share ρs (v ∷ []) b 0)) (sym one) refl $ fjoin t $
      fpack t (List Val) (λ vs. fsep (cell_at full_share R.mir vs b 0) (R.own_val h vs)) (v ∷ []) $ s)

  -- and the local is filled with it again
  lies_out : K → (val : R.Denot → Val) → Tells R (Is R) (λ y. val y ∷ []) → Step K 𝓛 (‵ (fat full_share τ b 0 (val h)) ∷ ‵ (R.own_val h (val h ∷ [])) ∷ Γ) G
      (‵ ((mem R).own_at h b 0) ∷ Γ) G
  unfolding part_of
  lies_out t val tl = step (λ s. fpick t (λ vs. fsplit t $ spelt t R (Is R) (shows 𝓛 R) (λ y. val y ∷ []) tl full_share h vs b 0 $
      rewrite t 0 (λ (ρs : List Ty). ‵ (cell_raw full_share ρs (val h ∷ []) b 0)) one refl $
      use1 𝓛 (‵ (fat full_share τ b 0 (val h))) (𝓛.laws.raw_at full_share τ b 0 (val h)) $ s))

  -- or emptied
  empties : K → (val : R.Denot → Val) → Tells R (Is R) (λ y. val y ∷ []) → Step K 𝓛 (‵ (froom τ b 0) ∷ Γ) G (‵ ((mem R).own_at h b 0) ∷ Γ) G
  empties t val tl = step (λ s. lies_out t val tl $ use1 𝓛 (‵ (froom τ b 0)) (𝓛.laws.at_room τ b 0 (val h)) $ move t (1 ∷ []) $ drop t $ s)

-- it is lent as a `&mut T` for a lifetime ν ∷ κ within κ, and comes back with its last value
abbrev pub ref_to : {X : Type 0} → ℕ → GName → X → MutBor X
ref_to b γ h = record { ref_ptr = (b, 0); ghost_name = γ; now = h }

-- what is kept while it is lent under the name γ: a half of the token of κ goes into that of ν ∷ κ
abbrev LentLocal : {M : Type 1} {𝓤 : Ura M} (𝓛 : Logic 𝓤) (R : RattleType) (κ : Lft) (q : Share) (b ν : ℕ) (γ : GName) → Item 𝓤
LentLocal {𝓤 = 𝓤} 𝓛 R κ q b ν γ = raw (Rest 𝓛 ν (Share.left q)) ⊛ ‵ (flent (ν ∷ κ) (SemTy.Body (mem R) b 0 γ))

module _ (R : RattleType) (κ : Lft) (q : Share) (τ : Ty) (b : ℕ) {M : Type 1} {𝓤 : Ura M} {𝓛 : Logic 𝓤} {K : Type 0}
    {Γ : List (Item 𝓤)} {G : Goal 𝓤 𝓛.H} where
  pub lends_local : K → Soaks G → raw_all R.mir ≡ raw_ty τ ∷ [] → (ℓ : Lifetime) (h : R.Denot) (v : Val)
      → ((ν : ℕ) (γ : GName) → Seq K 𝓛 (‵ ((MutRef ℓ (ν ∷ κ) R).own_val (ref_to b γ h) (vptr b 0 ∷ [])) ∷ ‵ (flft (ν ∷ κ) (Share.left q)) ∷ ‵
      (flft κ (Share.right q)) ∷ LentLocal 𝓛 R κ q b ν γ ∷ Γ) G)
      → Seq K 𝓛 (‵ (fat full_share τ b 0 v) ∷ ‵ (R.own_val h (v ∷ [])) ∷ ‵ (flft κ q) ∷ Γ) G
  lends_local t z one ℓ h v k =
      lies_in R τ b one h t v $ lft_new t z (λ ν. move t (2 ∷ []) $ use1 𝓛 (‵ (flft κ (Share.left q)) ⊛ ‵ (flft κ (Share.right q)))
      (𝓛.lfts.lft_split κ q) $ split t $ move t (2 ∷ 0 ∷ []) $
      use2 𝓛 (‵ (flft (ν ∷ κ) (Share.left q)) ⊛ raw (Rest 𝓛 ν (Share.left q))) (within_token 𝓛 ν κ (Share.left q)) $ split t $
      move t (3 ∷ []) $
      use1 𝓛 (later (kit.some (λ (γ : GName). ‵ ((MutRef ℓ (ν ∷ κ) R).own_val (ref_to b γ h) (vptr b 0 ∷ [])) ⊛ ‵ (flent (ν ∷ κ) (SemTy.Body (mem R) b 0 γ)))))
      (lends_ref 𝓛 R ℓ (ν ∷ κ) h b 0) $ await t z $ pick t (λ γ. split t $
      move t (3 ∷ 1 ∷ []) $ join t $ move t (1 ∷ 2 ∷ 3 ∷ 0 ∷ []) $ k ν γ))

  pub local_back : K → Soaks G → raw_all R.mir ≡ raw_ty τ ∷ [] → (val : R.Denot → Val) → Tells R (Is R) (λ y. val y ∷ []) → (ν : ℕ) (γ : GName) (h : R.Denot)
      → Step K 𝓛 (‵ (fat full_share τ b 0 (val h)) ∷ ‵ (R.own_val h (val h ∷ [])) ∷ ‵ (flft κ q) ∷ Γ) G (‵ (fres γ (R.coded.code h))
      ∷ ‵ (flft (ν ∷ κ) (Share.left q)) ∷ ‵ (flft κ (Share.right q)) ∷ LentLocal 𝓛 R κ q b ν γ ∷ Γ) G
  local_back t z one val tl ν γ h = step (λ s. move t (3 ∷ []) $ split t $ move t (3 ∷ 0 ∷ []) $
      use2 𝓛 (later (‵ (fdead (ν ∷ κ)) ⊛ ‵ (flft κ (Share.left q)))) (within_end 𝓛 ν κ (Share.left q)) $ await t z $ split t $
      move t (0 ∷ 2 ∷ 3 ∷ []) $
      use3 𝓛 (later (‵ ((mem R).own_at h b 0))) (ref_back 𝓛 R (ν ∷ κ) γ h b 0) $ await t z $
      move t (1 ∷ 2 ∷ []) $ use2 𝓛 (‵ (flft κ q)) (𝓛.lfts.lft_join κ q) $ move t (1 ∷ []) $ lies_out R τ b one h t val tl $ s)

-- ---- a local array that is lent as a `&κ [T]`, and is back, empty, once κ is over
abbrev pub shr_to : {X : Type 0} → ℕ → X → Bor X
shr_to b h = record { ref_ptr = (b, 0); now = h }

module _ (R : RattleType) (xs : List R.Denot) (κ : Lft) (τ : Ty) (b : ℕ) where
  -- what is kept while it is lent
  abbrev pub LentArray : Fml
  LentArray = flent κ (parts (mem R) (shares R) full_share xs b 0)

  module _ {M : Type 1} {𝓤 : Ura M} {𝓛 : Logic 𝓤} {K : Type 0} {Γ : List (Item 𝓤)} {G : Goal 𝓤 𝓛.H} where
    pub lends_array : K → Soaks G → raw_all (Array R (length xs)).mir ≡ raw_ty τ ∷ [] → Single R.mir → Copied 𝓛 R → Room R (length xs) → (ℓ : Lifetime) (u : Val)
        → Seq K 𝓛 (‵ ((ShrSlice ℓ κ R).own_val (shr_to b xs) (slice_val (b, 0) (length xs) ∷ [])) ∷ ‵ LentArray ∷ Γ) G
        → Seq K 𝓛 (‵ (fat full_share τ b 0 u) ∷ ‵ ((Array R (length xs)).own_val xs (u ∷ [])) ∷ Γ) G
    lends_array t z one single copied room ℓ u k =
        lies_in (Array R (length xs)) τ b one xs t u $ use1 𝓛 (‵ ((arr_parts (shares R) (length xs)).part full_share xs b 0))
        (Array-apart 𝓛 R full_share single (length xs) xs b 0) $ fsplit t $ drop t $
        use1 𝓛 (later (‵ (fhide (elements_shared R xs b 0 κ)) ⊛ ‵ LentArray)) (each_lends 𝓛 R copied full_share xs b 0 κ) $ await t z $ split t $
        pure_i t (shr_slice_at R (shr_to b xs) (slice_val (b, 0) (length xs) ∷ [])) (tt, (tt, tt)) (refl, room) $ fjoin t $ k

    pub array_back : K → Soaks G → raw_all (Array R (length xs)).mir ≡ raw_ty τ ∷ [] → (val : List R.Denot → Val)
        → Tells (Array R (length xs)) (Is (Array R (length xs))) (λ y. val y ∷ []) → Step K 𝓛 (‵ (froom τ b 0) ∷ Γ) G (‵ (fdead κ) ∷ ‵ LentArray ∷ Γ) G
    array_back t z one val tl =
        step (λ s. lent_back t z $ feq_i t ℕ (length xs) (length xs) refl $ fjoin t $
        use1 𝓛 (‵ ((mem (Array R (length xs))).own_at xs b 0)) (Array-whole 𝓛 R full_share (length xs) xs b 0) $
        empties (Array R (length xs)) τ b one xs t val tl $ s)
