-- `decide` meets its contract: each arm by the contract of the rule's function that it calls, at the whole shared part.
use mathlib.Core.Path.{refl, sym, ap}
use Rattle.model.specs.Rules.{ruled}
use Rattle.verdicts.proofs.Verdicts.{at_state}
use Rattle.rules.proofs.actions.decide.Goals as goal

pub returns-in-Start : goal.returns-in-Start
unfolding ruled
returns-in-Start c = λ w s. at_state c.start.ensures refl refl (sym (ap (ruled _ _ _ _) c.in-Start.is))

pub returns-in-LookUp : goal.returns-in-LookUp
unfolding ruled
returns-in-LookUp c = λ w s. at_state c.look_up.ensures refl refl (sym (ap (ruled _ _ _ _) c.in-LookUp.is))

pub returns-in-Read : goal.returns-in-Read
unfolding ruled
returns-in-Read c = λ w s. at_state c.read_base.ensures refl refl (sym (ap (ruled _ _ _ _) c.in-Read.is))

pub returns-in-Write : goal.returns-in-Write
unfolding ruled
returns-in-Write c = λ w s. at_state c.write_slice.ensures refl refl (sym (ap (ruled _ _ _ _) c.in-Write.is))

pub returns-in-Index : goal.returns-in-Index
unfolding ruled
returns-in-Index c = λ w s. at_state c.enter_index.ensures refl refl (sym (ap (ruled _ _ _ _) c.in-Index.is))

pub returns-in-Check : goal.returns-in-Check
unfolding ruled
returns-in-Check c = λ w s. at_state c.check_conflict.ensures refl refl (sym (ap (ruled _ _ _ _) c.in-Check.is))

pub returns-in-Commit : goal.returns-in-Commit
unfolding ruled
returns-in-Commit c = λ w s. at_state c.commit.ensures refl refl (sym (ap (ruled _ _ _ _) c.in-Commit.is))

pub returns-in-Abort : goal.returns-in-Abort
unfolding ruled
returns-in-Abort c = λ w s. at_state c.abort.ensures refl refl (sym (ap (ruled _ _ _ _) c.in-Abort.is))
