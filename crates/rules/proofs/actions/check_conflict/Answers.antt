-- `check_conflict` follows its rule: a hit of the search tells that a timestamp above the base is completed, and no hit that none is.
use borrow.Author.Tests.{lt-ltb, le-ltb}
use Rattle.model.specs.Rules.{check_conflict}
use Rattle.metadata.proofs.SearchLaws.{tells}
use Rattle.rules.proofs.actions.check_conflict.Goals as goal

pub returns-then-not-may_check : goal.returns-then-not-may_check
unfolding check_conflict
returns-then-not-may_check c = λ w s. record { same = rw (← c.may_check.ensures, c.if-not-may_check.true) }

pub returns-in-Some : goal.returns-in-Some
unfolding check_conflict
returns-in-Some c =
    let told = tells _ _ _ _ c.newest_above.ensures c.in-Some.is in
    λ w s. record { same = rw (← c.may_check.ensures, c.if-not-may_check.false, lt-ltb _ _ told.1) }

pub returns-in-None : goal.returns-in-None
unfolding check_conflict
returns-in-None c =
    let told = tells _ _ _ _ c.newest_above.ensures c.in-None.is in
    λ w s. record { same = rw (c.moved.ensures, ← c.may_check.ensures, c.if-not-may_check.false, le-ltb _ _ told) }
