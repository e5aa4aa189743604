-- What an action may count on where its actor is in range.
--     actor_bounds    an actor in range has the bounds that the rules' functions require
--     slice_stored_lem    at the write step its numbers name a slice, and that is stored
use Prim.Native.Nat.{ℕ, zero, suc, ◌*◌, ◌<◌, ◌≤◌}
use mathlib.Core.Bool.{true, and-true, and-eq-true_iff}
use mathlib.Core.List.{List}
use mathlib.Core.Path.{◌≡◌, sym, ◌∙◌}
use native.Mathlib.Nat.{le_trans}
use native.Mathlib.Omega.{arith}
use borrow.Author.Tests.{leb-true}
use Rattle.common.proofs.Cases.{facts}
use Rattle.model.specs.Limits.{timestamps, last_phase}
use Rattle.model.specs.Rules.{sliced}
use Rattle.model.specs.declared.Writer.{Writer}
use Rattle.model.proofs.Ranged.{WriterRanged, writer_ranged}
use Rattle.metadata.specs.Actor.{actor_in_range}
use Rattle.slices.specs.Slices.{names_slice, slice_stored}
use Rattle.rules.specs.Inner.{Bounds}

started : (phase ts : ℕ) → phase ≤ last_phase → (0 < phase → 0 < ts) → phase ≤ last_phase * ts
started zero ts l f = omega arith
started (suc n) ts l f = let p : 0 < ts = f (omega arith) in omega arith

writer_bounds : {last : ℕ} {x : Writer} → last ≤ timestamps → WriterRanged last x → Bounds x
writer_bounds h x =
    record { key = x.key; group = x.group; ts = le_trans x.ts h; base = le_trans x.base h; started = started _ _ x.phase x.issued }

pub actor_bounds : (last : ℕ) (x : Writer) → actor_in_range last x ≡ true → Bounds x
actor_bounds last x e =
    let (issued, own) = (and-eq-true_iff _ _).0 e in
    writer_bounds (leb-true last timestamps issued) (writer_ranged last x (sym (and-true _) ∙ own))

module _ {x : Writer} (b : Bounds x) (writes : x.phase ≡ 3) where
  names_slice_lem : names_slice x ≡ true
  names_slice_lem = simp facts (b.group, (b.base, (omega (arith, b.started), (b.ts, b.key))))

  pub slice_stored_lem : {A : Type 0} (absent : A) (rows : List A) (v : A)
      → slice_stored absent rows x v ≡ sliced absent rows x.group x.base x.ts x.key v
  unfolding slice_stored
  slice_stored_lem absent rows v = rw names_slice_lem
