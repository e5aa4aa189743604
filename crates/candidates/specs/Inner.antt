-- What the inner functions of the candidates' call promise each other: what a test of timestamps tells.
use Rattle.std.specs.Prelude.{ℕ, ◌<◌, ◌≤◌, Bool, ◌≡◌}
use Rattle.model.specs.Limits.{timestamps}

-- the answers of a test at the timestamps are those of p
abbrev pub Tells : (ℕ → Bool → Type 0) → (ℕ → Bool) → Type 0
Tells answers p = (n : ℕ) (b : Bool) → 0 < n → n ≤ timestamps → answers n b → b ≡ p n
