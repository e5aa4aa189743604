-- `read_base` follows its rule: by the tests of the rule, which have the values that the branches show.
use borrow.Author.Tests.{lt-ltb, le-ltb, eq-eqb}
use Rattle.model.specs.Rules.{read_base}
use Rattle.rules.proofs.actions.read_base.Goals as goal

pub returns-then-locked : goal.returns-then-locked
unfolding read_base
returns-then-locked c =
    λ w s. record { same = rw (eq-eqb _ _ c.if-x-ne2.false, ← c.blocked-locked.ensures s, c.if-locked.true) }

pub returns-then-late : goal.returns-then-late
unfolding read_base
returns-then-late c =
    λ w s. record {
      same =
          rw (
            eq-eqb _ _ c.if-x-ne2.false,
            ← c.blocked-locked.ensures s,
            c.if-locked.false,
            ← c.newest_of-base.ensures,
            lt-ltb _ _ c.if-late.true,
          );
    }

pub returns : goal.returns
unfolding read_base
returns c =
    λ w s. record {
      same =
          rw (
            c.moved.ensures,
            c.take_lock.ensures,
            eq-eqb _ _ c.if-x-ne2.false,
            ← c.blocked-locked.ensures s,
            c.if-locked.false,
            ← c.newest_of-base.ensures,
            le-ltb _ _ c.if-late.false,
          );
    }
