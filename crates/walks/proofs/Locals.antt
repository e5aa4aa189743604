-- The locals of a function in a context, `locals`: what frees them, then each with what it holds. `enters`: a
-- function is entered, its locals empty behind what it is handed; `frees_all`: it is left, whatever they hold. Both
-- by induction on the list of locals. `Blocks` has a block for each, and `spots` is the environment that the blocks
-- make.
use mathlib.Core.List.{List, [], ◌∷◌, ◌++◌}
use mathlib.Core.Option.{Option, none, some}
use Prim.Native.Nat.{ℕ}
use base.Fraction.{full_share}
use mir.Syntax.{Ty, Local, local, Fn}
use base.Fml.{fsep, froom, fdies}
use base.Logic.{sep, snd∗, emp∗, comm∗, mono_r}
use prog.Wp.{Calls, Loops, release}
use types.Logic.{Logic, sem}
use types.Kit.{push, pop, ++⊢, ⊢++, Goal, prop, aim, allocs, params', frees, Seq, Step, step, use2}
use types.Run.{enter, alloc1}
use Rattle.walks.proofs.Walks.{Ura, Val, Fml, ftrue, fat, SProp, ent, emp, via, id⊢, Env, WpFn}
use Rattle.walks.proofs.Walks.{sem, Item, ‵, raw, ◌⊛◌, ⋆, at_ret, runs, ◌$◌, ◌∵◌, !, qed, by, move, use1}
use Rattle.walks.proofs.Walks.{split, join, fsplit, fjoin, frame}

-- a block for each local
abbrev pub Blocks : List Local → Type 0
Blocks [] = Unit {0}
Blocks (l ∷ ls) = ℕ × Blocks ls

abbrev pub spots : (ls : List Local) → Blocks ls → List (Ty × ℕ)
spots [] bs = []
spots (local τ h ∷ ls) bs = (τ, bs.0) ∷ spots ls bs.1

-- a local that holds a value, or none
abbrev holding : Ty → ℕ → Option Val → Fml
holding τ b none = froom τ b 0
holding τ b (some v) = fat full_share τ b 0 v

-- that the locals can be freed
abbrev dying : (ls : List Local) → Blocks ls → Fml
dying [] bs = ftrue
dying (local τ h ∷ ls) bs = fsep (fdies τ bs.0) (dying ls bs.1)

module _ {M : Type 1} {𝓤 : Ura M} where
  -- the locals with what they hold; one past the end of the list of values holds none
  abbrev cells : (ls : List Local) → Blocks ls → List (Option Val) → List (Item 𝓤)
  cells [] bs vs = []
  cells (local τ h ∷ ls) bs [] = ‵ (froom τ bs.0 0) ∷ cells ls bs.1 []
  cells (local τ h ∷ ls) bs (v ∷ vs) = ‵ (holding τ bs.0 v) ∷ cells ls bs.1 vs

  abbrev pub locals : (ls : List Local) → Blocks ls → List (Option Val) → List (Item 𝓤)
  locals ls bs vs = ‵ (dying ls bs) ∷ cells ls bs vs

module _ {M : Type 1} {𝓤 : Ura M} (𝓛 : Logic 𝓤) where
  open 𝓛 use {H}

  one_more : (τ : Ty) (b : ℕ) (D : Fml) (Γ Δ : List (Item 𝓤)) → ent 𝓤 (sep 𝓤 (⋆ 𝓛 (‵ (froom τ b 0) ∷ ‵ (fdies τ b) ∷ Γ)) (⋆ 𝓛 (‵ D ∷ Δ)))
      (sep 𝓤 (⋆ 𝓛 Γ) (⋆ 𝓛 (‵ (fsep (fdies τ b) D) ∷ ‵ (froom τ b 0) ∷ Δ)))
  one_more τ b D Γ Δ =
      qed 𝓛 ((‵ (froom τ b 0) ⊛ raw (⋆ 𝓛 (‵ (fdies τ b) ∷ Γ))) ∷ raw (⋆ 𝓛 (‵ D ∷ Δ)) ∷ []) ∵ split ! $ move ! (1 ∷ []) $
      use1 𝓛 (‵ (fdies τ b) ⊛ raw (⋆ 𝓛 Γ)) (pop 𝓛 (‵ (fdies τ b)) Γ) $ split ! $
      move ! (1 ∷ []) $ frame ! $ move ! (2 ∷ []) $ use1 𝓛 (‵ D ⊛ raw (⋆ 𝓛 Δ)) (pop 𝓛 (‵ D) Δ) $ split ! $ move ! (2 ∷ 0 ∷ []) $ fjoin ! $ frame ! $
      move ! (1 ∷ 0 ∷ []) $ by ! (push 𝓛 (‵ (froom τ b 0)) Δ)

  emptied : (τ : Ty) (b : ℕ) (v : Option Val) → ent 𝓤 (sem 𝓛 (holding τ b v)) (H.room τ b 0)
  emptied τ b none = id⊢ 𝓤 (H.room τ b 0)
  emptied τ b (some v) = 𝓛.laws.at_room τ b 0 v

  one_less : (τ : Ty) (b : ℕ) (v : Option Val) (D : Fml) (Δ : List (Item 𝓤)) (P Q : SProp 𝓤) → ent 𝓤 (sep 𝓤 (⋆ 𝓛 (‵ D ∷ Δ)) P) Q
      → ent 𝓤 (sep 𝓤 (⋆ 𝓛 (‵ (fsep (fdies τ b) D) ∷ ‵ (holding τ b v) ∷ Δ)) P) (sep 𝓤 (sep 𝓤 (H.room τ b 0) (H.dies τ b)) Q)
  one_less τ b v D Δ P Q k =
      qed 𝓛 ((‵ (fsep (fdies τ b) D) ⊛ raw (⋆ 𝓛 (‵ (holding τ b v) ∷ Δ))) ∷ raw P ∷ []) ∵ split ! $ fsplit ! $ move ! (2 ∷ []) $
      use1 𝓛 (‵ (holding τ b v) ⊛ raw (⋆ 𝓛 Δ)) (pop 𝓛 (‵ (holding τ b v)) Δ) $ split ! $
      use1 𝓛 (‵ (froom τ b 0)) (emptied τ b v) $ move ! (0 ∷ 2 ∷ []) $ join ! $ frame ! $ move ! (1 ∷ 0 ∷ []) $
      use2 𝓛 (raw (⋆ 𝓛 (‵ D ∷ Δ))) (push 𝓛 (‵ D) Δ) $ by ! k

  freed : (ls : List Local) (bs : Blocks ls) (vs : List (Option Val)) (P : SProp 𝓤) → ent 𝓤 (sep 𝓤 (⋆ 𝓛 (locals ls bs vs)) P) (release 𝓤 H (spots ls bs) P)
  freed [] bs vs P = snd∗ 𝓤 (emp 𝓤) P
  freed (local τ h ∷ ls) bs [] P = one_less τ bs.0 none (dying ls bs.1) (cells ls bs.1 []) P (release 𝓤 H (spots ls bs.1) P) (freed ls bs.1 [] P)
  freed (local τ h ∷ ls) bs (v ∷ vs) P = one_less τ bs.0 v (dying ls bs.1) (cells ls bs.1 vs) P (release 𝓤 H (spots ls bs.1) P)
      (freed ls bs.1 vs P)

module _ {M : Type 1} {𝓤 : Ura M} {𝓛 : Logic 𝓤} {K : Type 0} where
  open 𝓛 use {H}

  alloced : K → (ls : List Local) (Γ : List (Item 𝓤)) (Kt : Env 𝓤 H → Goal 𝓤 H)
      → ((bs : Blocks ls) → ent 𝓤 (sep 𝓤 (⋆ 𝓛 Γ) (⋆ 𝓛 (locals ls bs []))) (aim 𝓤 H (Kt (spots ls bs)))) → Seq K 𝓛 Γ (allocs ls Kt)
  alloced t [] Γ Kt k = by t (via 𝓤 (sep 𝓤 (⋆ 𝓛 Γ) (emp 𝓤)) (via 𝓤 (sep 𝓤 (emp 𝓤) (⋆ 𝓛 Γ)) (emp∗ 𝓤 (⋆ 𝓛 Γ)) (comm∗ 𝓤 (emp 𝓤) (⋆ 𝓛 Γ))) (k tt))
  alloced t (local τ h ∷ ls) Γ Kt k = alloc1 t (λ b. alloced t ls (‵ (froom τ b 0) ∷ ‵ (fdies τ b) ∷ Γ) (λ E. Kt ((τ, b) ∷ E))
      (λ bs. via 𝓤 _ (one_more 𝓛 τ b (dying ls bs) Γ (cells ls bs [])) (k (b, bs))))

  -- a function is entered: its locals are behind what it is handed
  pub enters : K → {Γ : List (Item 𝓤)} (C : Calls 𝓤 H) (Λ : Loops 𝓤 H) (fn : Fn) (vs : List Val) (Kf : Val → SProp 𝓤)
      → ((bs : Blocks fn.locals) → Seq K 𝓛 (Γ ++ locals fn.locals bs []) (params' (spots fn.locals bs) vs (runs C Λ (spots fn.locals bs) fn.body
      (at_ret (spots fn.locals bs) Kf)))) → Seq K 𝓛 Γ (prop (WpFn 𝓤 H C Λ fn vs Kf))
  enters t {Γ} C Λ fn vs Kf k = enter t C Λ fn vs Kf $ alloced t fn.locals Γ (λ E. params' E vs (runs C Λ E fn.body (at_ret E Kf)))
      (λ bs. via 𝓤 _ (++⊢ 𝓛 Γ (locals fn.locals bs [])) (k bs).prf)

  -- and it is left
  pub frees_all : K → (Γ : List (Item 𝓤)) (ls : List Local) (bs : Blocks ls) (vs : List (Option Val)) {g : Goal 𝓤 H}
      → Step K 𝓛 Γ g (Γ ++ locals ls bs vs) (frees (spots ls bs) g)
  frees_all t Γ ls bs vs {g} =
      step (λ s. by t (via 𝓤 _ (⊢++ 𝓛 Γ (locals ls bs vs)) (via 𝓤 _ (comm∗ 𝓤 (⋆ 𝓛 Γ) (⋆ 𝓛 (locals ls bs vs)))
      (via 𝓤 _ (mono_r 𝓤 (⋆ 𝓛 (locals ls bs vs)) s.prf) (freed 𝓛 ls bs vs (aim 𝓤 H g))))))
