-- The width of a word: every number of a log, and every value of a table, has so many bits (document 02, Q-8).
use Rattle.std.specs.Prelude.{ℕ, ◌^◌}

abbrev pub width : ℕ
width = 64

-- every word is below it
abbrev pub range : ℕ
range = 2 ^ width
