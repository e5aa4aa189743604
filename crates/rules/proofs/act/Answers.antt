-- `act` meets its contract: the tests have the values that the branches show, the test of the actor tells what the rules require, and the
-- verdict of the rule is carried out.
use mathlib.Core.Path.{refl, sym, ◌∙◌}
use native.Mathlib.Omega.{arith}
use borrow.Author.Tests.{le-leb, lt-leb}
use Rattle.model.specs.Rules.{act}
use Rattle.rules.specs.Parts.{act_on_parts}
use Rattle.rules.proofs.Bounds.{actor_bounds}
use Rattle.verdicts.proofs.Verdicts.{carries}
use Rattle.rules.proofs.act.Goals as goal

pub returns-then-not-tested : goal.returns-then-not-tested
unfolding act_on_parts
returns-then-not-tested c = λ o. rw c.if-not-tested.true

pub returns-then-s : goal.returns-then-s
unfolding act_on_parts
returns-then-s c = λ o. rw (c.if-not-tested.false, le-leb _ _ c.if-s.true)

pub returns-then-not-actor_in_range : goal.returns-then-not-actor_in_range
unfolding act_on_parts
returns-then-not-actor_in_range c =
    λ o.
    rw (c.if-not-tested.false, lt-leb _ _ c.if-s.false, ← c.actor_in_range.ensures, c.if-not-actor_in_range.true)

pub decide-v-requires : goal.decide-v-requires
decide-v-requires c =
    (omega arith, actor_bounds c.args.last.now c.args.x (sym c.actor_in_range.ensures ∙ c.if-not-actor_in_range.false))

pub returns : goal.returns
unfolding act_on_parts act
returns c =
    λ o.
    rw (c.if-not-tested.false, lt-leb _ _ c.if-s.false, ← c.actor_in_range.ensures, c.if-not-actor_in_range.false)
    (carries c.carry_out.ensures (c.decide-v.ensures _ o) refl refl)
