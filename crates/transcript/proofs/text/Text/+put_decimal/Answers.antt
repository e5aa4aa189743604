-- `put_decimal` puts a number in decimal: the digits before its last, if there are any, by its call of itself, and behind them the last.
use Rattle.std.proofs.Common.{◌≡◌, ℕ, ◌+◌, ◌/◌, ◌%◌, ◌<◌, ◌≤◌, [], ◌∷◌, arith}
use Rattle.common.specs.Width.{range}
use Rattle.common.proofs.Pieces.{Fits, first_fits}
use Rattle.transcript.specs.Text.{zero_digit, decimal}
use Rattle.transcript.specs.Inner.{HasRoom}
use Rattle.transcript.specs.declared.text.Text.{Text}
use Rattle.transcript.proofs.Decimal.{decimal_short, decimal_pieces}
use Rattle.transcript.proofs.Putting.{rest_room, together, one_put}
use Rattle.transcript.proofs.text.Text.+put_decimal.Goals as goal
use Rattle.transcript.proofs.text.Text.+put_decimal.Goals.{then-number-ge10, else-number-ge10}

-- the digits before the last, and the last
pieces : (t : Text) (number : ℕ) → 10 ≤ number → number < range → HasRoom t (decimal number)
    → Fits t.buffer.now t.at (decimal (number / 10) ∷ ((zero_digit + number % 10) ∷ []) ∷ [])
pieces t number long fits h = record { room = rw (decimal_pieces number long fits) at h }

pub put_decimal-requires : goal.put_decimal-requires
put_decimal-requires t c =
    (omega arith, first_fits (pieces c.args.self.now c.args.number c.if-number-ge10.true c.ranges.number.fits c.requires))

-- a number below 10 is its last digit
digit : (number : ℕ) → number < 10 → decimal number ≡ (zero_digit + number % 10) ∷ []
digit number short = let same : number % 10 ≡ number = omega arith in rw same (decimal_short number short)

pub put_byte-requires : goal.put_byte-requires
put_byte-requires t c =
    elim c.if-number-ge10.branch [
      | then-number-ge10 w ↦ rw w.self-is
          (first_fits (rest_room (pieces c.args.self.now c.args.number w.if-number-ge10.true c.ranges.number.fits c.requires) w.put_decimal.ensures))
      | else-number-ge10 w ↦ rw w.self-is (rw (digit c.args.number w.if-number-ge10.false) at c.requires)
    ]

pub returns : goal.returns
returns t c =
    elim c.if-number-ge10.branch [
      | then-number-ge10 w ↦
          rw (decimal_pieces c.args.number w.if-number-ge10.true c.ranges.number.fits)
          (together (pieces c.args.self.now c.args.number w.if-number-ge10.true c.ranges.number.fits c.requires) w.put_decimal.ensures
          (rw w.self-is at (one_put c.put_byte.ensures)))
      | else-number-ge10 w ↦ rw (digit c.args.number w.if-number-ge10.false) (rw w.self-is at c.put_byte.ensures)
    ]
