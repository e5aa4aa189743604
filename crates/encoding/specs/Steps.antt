-- The two steps whose log the program writes.
use Rattle.std.specs.Prelude.{List, [], ◌∷◌}
use Rattle.model.specs.declared.Operation.TheVariants.{Put}
use Rattle.model.specs.declared.Action.TheVariants.{Start, LookUp}
use Rattle.model.specs.declared.Step.{Step}

-- a put and its look up
abbrev pub put_and_look_up : List Step
put_and_look_up = record { writer = 0; action = Start (Put 1 300 2) } ∷ record { writer = 0; action = LookUp } ∷ []
