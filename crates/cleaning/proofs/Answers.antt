-- The answers of a clean, in the order of their tests.
--     in_range_swept    a table in range, as the sweep asks it
--     clean_out_of_range, clean_below, clean_above, clean_needed, clean_taken    a clean: each refusal, and one that is taken
use Prim.Native.Nat.{ℕ, ◌<◌, ◌≤◌}
use native.Mathlib.Omega.{arith}
use mathlib.Core.Bool.{true, false, or-true}
use mathlib.Core.Path.{◌≡◌}
use borrow.Author.Tests.{lt-ltb, le-ltb}
use Rattle.common.proofs.Cases.{facts}
use Rattle.model.specs.Limits.{timestamps}
use Rattle.model.specs.Answers.{taken, out_of_range, base_needed, no_horizon}
use Rattle.model.specs.State.{State}
use Rattle.model.specs.Range.{instants_in_range, in_range}
use Rattle.model.specs.Rules.{answered}
use Rattle.model.specs.Cleaning.{cleaned, bases_kept, clean}

module _ (st : State) (c : ℕ) where
  pub clean_out_of_range : in_range st ≡ false → answered out_of_range st ≡ clean st c
  unfolding clean
  clean_out_of_range r = rw r

  module _ (r : in_range st ≡ true) where
    pub in_range_swept : c ≤ st.shared.last → (instants_in_range st.shared.timeline ≡ true) × (c ≤ timestamps)
    unfolding in_range
    in_range_swept h =
        let (last, (horizon, (lock, (entry, (coded, rest))))) = simp facts at r in
        (coded, omega arith)

    pub clean_below : c < st.horizon → answered no_horizon st ≡ clean st c
    unfolding clean
    clean_below l = rw (r, lt-ltb c st.horizon l)

    pub clean_above : st.shared.last < c → answered no_horizon st ≡ clean st c
    unfolding clean
    clean_above l = rw (r, lt-ltb st.shared.last c l, or-true)

    module _ (h : st.horizon ≤ c) (i : c ≤ st.shared.last) where
      pub clean_needed : bases_kept st.shared.timeline c st.writers ≡ false → answered base_needed st ≡ clean st c
      unfolding clean
      clean_needed e = rw (r, le-ltb c st.horizon h, le-ltb st.shared.last c i, e)

      pub clean_taken : bases_kept st.shared.timeline c st.writers ≡ true → answered taken (cleaned st c) ≡ clean st c
      unfolding clean
      clean_taken e = rw (r, le-ltb c st.horizon h, le-ltb st.shared.last c i, e)
