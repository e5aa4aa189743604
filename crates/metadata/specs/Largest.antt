-- The largest number of a list.
use Rattle.std.specs.Prelude.{ℕ, max, List, [], ◌∷◌}

-- 0 for the empty list
unfoldable pub largest : List ℕ → ℕ
largest [] = 0
largest (x ∷ xs) = max x (largest xs)
