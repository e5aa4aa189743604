-- `enter_index` follows its rule: by the tests of the rule, which have the values that the branches show.
use borrow.Author.Tests.{eq-eqb}
use Rattle.model.specs.Rules.{enter_index}
use Rattle.rules.proofs.actions.enter_index.Goals as goal

pub returns-then-blocked : goal.returns-then-blocked
unfolding enter_index
returns-then-blocked c = λ w s. record { same = rw (eq-eqb _ _ c.if-x-ne4.false, ← c.blocked.ensures s, c.if-blocked.true) }

pub returns-then-names_other : goal.returns-then-names_other
unfolding enter_index
returns-then-names_other c =
    λ w s. record {
      same =
          rw (
            eq-eqb _ _ c.if-x-ne4.false,
            ← c.blocked.ensures s,
            c.if-blocked.false,
            ← c.names_other.ensures,
            c.if-names_other.true,
          );
    }

pub returns-then-removes_unindexed : goal.returns-then-removes_unindexed
unfolding enter_index
returns-then-removes_unindexed c =
    λ w s. record {
      same =
          rw (
            eq-eqb _ _ c.if-x-ne4.false,
            ← c.blocked.ensures s,
            c.if-blocked.false,
            ← c.names_other.ensures,
            c.if-names_other.false,
            ← c.removes_unindexed.ensures,
            c.if-removes_unindexed.true,
          );
    }

pub returns : goal.returns
unfolding enter_index
returns c =
    λ w s. record {
      same =
          rw (
            c.moved.ensures,
            c.with_made.ensures,
            c.after_index.ensures,
            c.take_lock.ensures,
            eq-eqb _ _ c.if-x-ne4.false,
            ← c.blocked.ensures s,
            c.if-blocked.false,
            ← c.names_other.ensures,
            c.if-names_other.false,
            ← c.removes_unindexed.ensures,
            c.if-removes_unindexed.false,
          );
    }
