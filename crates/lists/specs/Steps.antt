-- The steps that the program runs.
use Rattle.std.specs.Prelude.{List, [], ◌∷◌}
use Rattle.model.specs.declared.Operation.TheVariants.{Put, Remove}
use Rattle.model.specs.declared.Action.TheVariants.{Start, LookUp, Read, Write, Index, Check, Commit}
use Rattle.model.specs.declared.Step.{Step}

-- a step of writer 16 and a start of key 32, which are refused, and document 01's example operation
abbrev pub the_steps : List Step
the_steps =
    record { writer = 16; action = LookUp } ∷ record { writer = 1; action = Start (Remove 32) }
    ∷ record { writer = 0; action = Start (Put 1 300 2) } ∷ record { writer = 0; action = LookUp } ∷ record { writer = 0; action = Read }
    ∷ record { writer = 0; action = Write } ∷ record { writer = 0; action = Index } ∷ record { writer = 0; action = Check }
    ∷ record { writer = 0; action = Commit } ∷ []
