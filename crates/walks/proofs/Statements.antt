-- Statements on locals, each by the entry of the local in the context.
--     local_holds, local_empty    a local that holds a value, or none
--     get, get_field              it is read, or a field of the struct in it
--     sets, sets_last             it is set, before other statements, and as the last one of a turn
--     lands_in                    it is set to the result of a call
use mathlib.Core.List.{List, [], ◌∷◌}
use mathlib.Core.Option.{some}
use mathlib.Core.Path.{◌≡◌, refl, sym, ap, subst, ◌∙◌}
use Prim.Native.Nat.{ℕ, ◌+◌}
use mir.Fields.{get_v, set_v}
use mir.Syntax.{Ty, place, copy, Body, seq, assign, Rv as RValue, Sym, Tys, ty_struct, field}
use mir.Val.{Vals, vstruct}
use base.Fml.{froom}
use prog.Memory.{field_at, field_of}
use prog.Wp.{spot_of, next, Calls, Loops}
use types.Logic.{Logic}
use types.Kit.{nth, prop, Post, post, lands, Step, step, regoal}
use types.Part.{Part}
use types.Run.{Opd, Rv, Writes, assigns_last, land}
use Rattle.walks.proofs.Walks.{Ura, Val, Share, fat, Heap, Env, Item, ‵, runs, ◌$◌, whole, sub}
use Rattle.walks.proofs.Walks.{look_in, look, stop, from, load, assigns, fld}

module _ {M : Type 1} (𝓤 : Ura M) (H : Heap 𝓤) (E : Env 𝓤 H) (i : ℕ) where
  -- the local i holds a value, or is empty
  abbrev pub local_holds : Share → Val → Item 𝓤
  local_holds q v = ‵ (fat q (spot_of 𝓤 H E i).0 (spot_of 𝓤 H E i).1 (spot_of 𝓤 H E i).2 v)

  abbrev pub local_empty : Item 𝓤
  local_empty = ‵ (froom (spot_of 𝓤 H E i).0 (spot_of 𝓤 H E i).1 (spot_of 𝓤 H E i).2)

-- to store v in the local i turns Γ into Γ'
abbrev Stores : {M : Type 1} {𝓤 : Ura M} (K : Type 0) (𝓛 : Logic 𝓤) (Γ : List (Item 𝓤)) (E : Env 𝓤 𝓛.H) (i : ℕ) (v : Val)
    (Γ' : List (Item 𝓤)) → Type 2
Stores {𝓤 = 𝓤} K 𝓛 Γ E i v Γ' = Writes K 𝓛 Γ (spot_of 𝓤 𝓛.H E i).0 (spot_of 𝓤 𝓛.H E i).1 (spot_of 𝓤 𝓛.H E i).2 v Γ'

module _ {M : Type 1} {𝓤 : Ura M} {𝓛 : Logic 𝓤} {K : Type 0} {Γ : List (Item 𝓤)} {E : Env 𝓤 𝓛.H} where
  -- the local at entry n
  open 𝓛 use {H}

  pub get : K → {i : ℕ} (n : ℕ) {q : Share} {v : Val} → nth 𝓛 n Γ ≡ local_holds 𝓤 H E i q v → Opd K 𝓛 Γ E (copy (place i [])) v
  get t n e = load t (from t (stop t)) (look t n e)

  -- field k of the struct in it
  pub get_field : K → {i : ℕ} (n k : ℕ) {q : Share} {ν : Sym} {τs : Tys} {vs : Vals} {τ : Ty} {d : ℕ}
      → nth 𝓛 n Γ ≡ ‵ (fat q (ty_struct ν τs) (spot_of 𝓤 H E i).1 (spot_of 𝓤 H E i).2 (vstruct vs)) → (spot_of 𝓤 H E i).0 ≡ ty_struct ν τs
      → field_at 0 τs k ≡ some (τ, d) → Opd K 𝓛 Γ E (copy (place i (field k ∷ []))) (get_v vs k)
  get_field t {i} n k {q} {ν} {τs} {vs} {τ} {d} at_n is e =
      load t (from t (fld t (ap (λ (σ : Ty). field_of σ k) is ∙ e) (stop t)))
      (look_in t n (subst (λ (j : Item 𝓤). Part K 𝓛 j q τ (spot_of 𝓤 H E i).1 ((spot_of 𝓤 H E i).2 + d) (get_v vs k)
      (λ u. ‵ (fat q (ty_struct ν τs) (spot_of 𝓤 H E i).1 (spot_of 𝓤 H E i).2 (vstruct (set_v vs k u))))) (sym at_n) (sub t k e (whole t))))

  module _ {C : Calls 𝓤 H} {Λ : Loops 𝓤 H} {p : Post 𝓤 H} {i : ℕ} {Γ' : List (Item 𝓤)} where
    pub sets : K → {rv : RValue} {v : Val} {rest : Body} → Rv K 𝓛 Γ E rv v → Stores K 𝓛 Γ E i v Γ'
        → Step K 𝓛 Γ' (runs C Λ E rest p) Γ (runs C Λ E (seq (assign (place i []) rv) rest) p)
    sets t r w = assigns t r (from t (stop t)) w

    pub sets_last : K → {rv : RValue} {v : Val} → Rv K 𝓛 Γ E rv v → Stores K 𝓛 Γ E i v Γ'
        → Step K 𝓛 Γ' (prop (post 𝓤 H p next)) Γ (runs C Λ E (assign (place i []) rv) p)
    sets_last t r w = assigns_last t r (from t (stop t)) w

    -- a call's result, written another way
    pub lands_in : K → {v u : Val} {rest : Body} → v ≡ u → Stores K 𝓛 Γ E i u Γ' → Step K 𝓛 Γ' (runs C Λ E rest p) Γ (lands C Λ E (place i []) v rest p)
    lands_in t {v} {u} {rest} e w = step (λ s. regoal t (λ (y : Val). lands C Λ E (place i []) y rest p) e refl $ land t (from t (stop t)) w $ s)
