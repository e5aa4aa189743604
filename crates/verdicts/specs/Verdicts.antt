-- What a verdict of the code, and an action carried out, are in the rules.
use Rattle.std.specs.Prelude.{ℕ, ◌≡◌}
use Rattle.model.specs.State.{Shared}
use Rattle.model.specs.Rules as rules
use Rattle.model.specs.declared.Writer.{Writer}
use Rattle.verdicts.specs.Fields.{Fields}
use Rattle.verdicts.specs.declared.Acted.{Acted}
use Rattle.verdicts.specs.declared.Verdict.{Verdict}
use Rattle.verdicts.specs.declared.Verdict.TheVariants.{Refused, Ended, GoesOn}

-- what an action gave, with the shared part after it
abbrev pub outcome_of : Acted → Shared → rules.Outcome
outcome_of r s = rules.outcome r.answer r.writer s

-- a verdict of the code, with the shared part after it, as the rules have it
abbrev pub verdict_of : Verdict → Shared → rules.Verdict
verdict_of (Refused n) s = rules.refused n
verdict_of (Ended n) s = rules.ended n s
verdict_of (GoesOn x) s = rules.goes_on x s

-- carried out for writer w, whose record is x, the code's verdict r with the shared part t after it gives what the rule's verdict v gives
-- where s was before it. So r fixes the shared part where the step is refused too
pub record SameOutcome (x : Writer) (w : ℕ) (r : Verdict) (t s : Shared) (v : rules.Verdict) : Type 0 where
  pub same : rules.carried x w t (verdict_of r t) ≡ rules.carried x w s v

-- a function that takes these fields and gives the verdict r follows a rule, whichever writer it serves
abbrev pub Follows : Writer → Verdict → Fields → (Shared → rules.Verdict) → Type 0
Follows x r fields rule = (w : ℕ) (s : Shared) → SameOutcome x w r (fields.after s) (fields.before s) (rule (fields.before s))

-- the answer r, with the shared part t after it, is the verdict v carried out for writer w, whose record is x, where s was before it
pub record CarriedOut (x : Writer) (w : ℕ) (v : Verdict) (s : Shared) (r : Acted) (t : Shared) : Type 0 where
  pub same : outcome_of r t ≡ rules.carried x w s (verdict_of v s)

-- a function that takes these fields and gives the answer r carries a verdict out
abbrev pub CarriesOut : Writer → ℕ → Verdict → Acted → Fields → Type 0
CarriesOut x w v r fields = (s : Shared) → CarriedOut x w v (fields.before s) r (fields.after s)
