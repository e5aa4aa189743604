-- The newest timestamp at or below n at which a function gives x, or 0: the newest completed instant of a file group. `newest_same` compares two
-- functions.
use Prim.Native.Nat.{ℕ, ◌≤◌, ◌<◌}
use mathlib.Core.Path.{◌≡◌}
use mathlib.Core.Logic.{by_cases}
use mathlib.Core.Option.{Option, some}
use native.Mathlib.Decide.{dec_lt}
use native.Mathlib.Omega.{arith}

pub record Newest (d : ℕ → Option ℕ) (x n b : ℕ) : Type 0 where
  pub below : b ≤ n
  pub hit : 0 < b → d b ≡ some x
  pub most : (s : ℕ) → s ≤ n → d s ≡ some x → s ≤ b

-- where a function gives x, another does: its newest is no later
newest_later : {d e : ℕ → Option ℕ} {x n b c : ℕ} → Newest d x n b → Newest e x n c → ((s : ℕ) → d s ≡ some x → e s ≡ some x) → b ≤ c
newest_later {b} h i also = by_cases (dec_lt 0 b) (λ p. i.most b h.below (also b (h.hit p))) (λ z. omega arith)

-- two functions that give x at the same timestamps have the same newest one
pub newest_same : {d e : ℕ → Option ℕ} {x n b c : ℕ} → Newest d x n b → Newest e x n c → ((s : ℕ) → d s ≡ some x → e s ≡ some x)
    → ((s : ℕ) → e s ≡ some x → d s ≡ some x) → b ≡ c
newest_same h i f g = omega (arith, newest_later h i f, newest_later i h g)
