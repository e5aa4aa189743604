-- `put_decimal` calls itself at fewer digits.
use Rattle.transcript.proofs.text.Text.+put_decimal.Given as goal

abbrev pub decreases-put_decimal : goal.decreases-put_decimal
decreases-put_decimal l = l.number
