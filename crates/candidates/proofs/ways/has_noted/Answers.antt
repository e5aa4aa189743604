-- `has_noted` meets its contract: the row of a writer is a part of the list.
use Prim.Native.Nat.{ℕ, ◌+◌, ◌-◌, ◌*◌, ◌<◌, ◌≤◌}
use native.Mathlib.Omega.{arith}
use mathlib.Core.Bool.{Bool, true, false, not}
use mathlib.Core.List.{List}
use mathlib.Core.Path.{◌≡◌, sym, ap, ◌∙◌}
use lib.Dec.{eqb}
use lib.ListN.{length, get_or, take, drop}
use Rattle.std.proofs.lemmas.List.{get_or-take, get_or-drop}
use Rattle.std.proofs.lemmas.Grind.{common_steps}
use Rattle.std.specs.List.{IsAnyAnswer}
use Rattle.common.specs.Counting.{any_below}
use Rattle.common.proofs.EachBelow.{below_all, below_stop}
use Rattle.model.specs.Limits.{writers}
use Rattle.model.specs.Candidates.{has_noted}
use Rattle.candidates.proofs.ways.has_noted.Goals as goal

any_noted : (row : List ℕ) (f : ℕ → ℕ) (s n : ℕ) → length row ≡ n → ((u : ℕ) → u < n → get_or row u 0 ≡ f u)
    → (r : Bool) → IsAnyAnswer (λ y b. eqb y s ≡ b) row r → r ≡ any_below n (λ u. eqb (f u) s)
any_noted row f s n size same true (k, l, here) =
    let within : k < n = omega arith in
    let found : eqb (get_or row k 0) s ≡ true = here 0 in
    sym (ap not (below_stop (λ u. not (eqb (f u) s)) n k within (ap not (rw (same k within) at found))))
any_noted row f s n size same false none =
    sym (ap not (below_all (λ u. not (eqb (f u) s)) n (λ u l.
    let other : eqb (get_or row u 0) s ≡ false = none u 0 (omega arith) (omega arith) in
    ap not (rw (same u l) at other))))

row_of : (noted : List ℕ) (a k u : ℕ) → u < writers → writers ≤ k → get_or (take writers (take k (drop a noted))) u 0 ≡ get_or noted (a + u) 0
row_of noted a k u l m = get_or-take writers (take k (drop a noted)) u 0 l ∙ (get_or-take k (drop a noted) u 0 (omega arith) ∙ get_or-drop a noted u 0)

pub returns : goal.returns
unfolding has_noted
returns c =
    any_noted _ _ c.args.ts writers (grind (arith, common_steps)) (λ u l. row_of c.args.noted.now (c.args.w * writers) (256 - c.args.w * writers) u l (omega arith)) _ c.contains.ensures.cases
