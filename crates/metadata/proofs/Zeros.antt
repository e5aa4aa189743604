-- A writer that keeps zeros is in range: `zeros_in_range`. `keeps_zeros` tests the bitwise or of its numbers, which is
-- 0 only if each of them is (`both_zero`).
use Prim.Native.Nat.{ℕ}
use native.Mathlib.Omega.{arith}
use mathlib.Core.Bool.{true}
use mathlib.Core.Path.{◌≡◌}
use lib.Bits.{bit_or, or_add_and, and_le_l, and_le_r}
use Rattle.common.proofs.Cases.{facts}
use Rattle.model.specs.Range.{writer_in_range}
use Rattle.model.specs.declared.Writer.{Writer}
use Rattle.model.proofs.Ranged.{writer_in_range_lem}
use Rattle.metadata.specs.Inner.{keeps_zeros}

-- where two numbers together have no bit, neither has one
both_zero : (a b : ℕ) → bit_or a b ≡ 0 → (a ≡ 0) × (b ≡ 0)
both_zero a b e =
    let sum = or_add_and a b in
    (omega (arith, e, sum, and_le_r a b), omega (arith, e, sum, and_le_l a b))

pub zeros_in_range : (last : ℕ) (x : Writer) → keeps_zeros x ≡ true → writer_in_range last x ≡ true
zeros_in_range last x e =
    let (four, base) = both_zero _ x.base (simp facts at e) in
    let (three, ts) = both_zero _ x.ts four in
    let (two, group) = both_zero _ x.group three in
    let (phase, key) = both_zero x.phase x.key two in
    writer_in_range_lem last x
    (record {
      key = omega (arith, key);
      group = omega (arith, group);
      phase = omega (arith, phase);
      ts = omega (arith, ts);
      base = omega (arith, base);
      issued = λ p. omega (arith, phase, p);
    })
