-- A contract over any shared part, put to use at a given one.
--     at_state    a rule's function does to a whole shared part S what the rule does, where S has the fields that the function takes
--     carries     a verdict that is carried out gives what the rule gives that it follows
use Prim.Native.Nat.{ℕ}
use mathlib.Core.Path.{◌≡◌, ap, ◌∙◌}
use Rattle.model.specs.State.{Shared}
use Rattle.model.specs.Rules as rules
use Rattle.model.specs.declared.Writer.{Writer}
use Rattle.verdicts.specs.Verdicts.{outcome_of, verdict_of, SameOutcome, CarriedOut}
use Rattle.verdicts.specs.declared.Verdict.{Verdict}
use Rattle.verdicts.specs.declared.Acted.{Acted}

module _ {x : Writer} {w : ℕ} {A B : Shared → Shared} where
  pub at_state : {r : Verdict} {C : Shared → rules.Verdict} → ((w : ℕ) (s : Shared) → SameOutcome x w r (A s) (B s) (C s))
      → {S T : Shared} {v : rules.Verdict} → A S ≡ T → B S ≡ S → C S ≡ v → SameOutcome x w r T S v
  at_state {C} f {S} p q e = record { same = rw (← p, ← e) ((f w S).same ∙ ap (λ (s : Shared). rules.carried x w s (C S)) q) }

  pub carries : {r : Acted} {u : Verdict} → ((s : Shared) → CarriedOut x w u (B s) r (A s))
      → {U S T : Shared} {v : rules.Verdict} → SameOutcome x w u U S v → B U ≡ U → A U ≡ T → outcome_of r T ≡ rules.carried x w S v
  carries {u} f {U} d q p = rw (← p) ((f U).same ∙ ap (λ (s : Shared). rules.carried x w s (verdict_of u s)) q ∙ d.same)
