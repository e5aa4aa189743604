-- What is printed, by the sizes of the buffer and of the log.
--     nothing_printed     nothing, where the buffer is too short
--     text_printed        else the text of the log
--     too_long_printed    which is `too long` for a longer log
--     printed_within      the text that is printed lies in the buffer
use Prim.Native.Nat.{ℕ, ◌+◌, ◌≤◌, ◌<◌}
use native.Mathlib.Decide.{dec_lt}
use native.Mathlib.Nat.{zero-add}
use native.Mathlib.Omega.{arith}
use mathlib.Core.List.{List}
use mathlib.Core.Logic.{by_cases}
use mathlib.Core.Path.{◌≡◌, ap}
use lib.ListN.{length, drop, length-append}
use borrow.Author.Tests.{le-ltb, lt-ltb}
use Rattle.leb128.specs.Coding.{Stored}
use Rattle.model.specs.declared.Mode.{Mode}
use Rattle.common.specs.Pasting.{pasted, PastedTo}
use Rattle.transcript.specs.Text.{too_long}
use Rattle.transcript.specs.Transcript.{max_log, max_text, transcript, printed}

module _ (mode : Mode) (log text : List ℕ) where
  pub nothing_printed : length text < max_text → record { size = 0; buffer = text } ≡ printed mode log text
  unfolding printed
  nothing_printed short = rw (lt-ltb _ _ short)

  module _ (room : max_text ≤ length text) {size : ℕ} {buffer : List ℕ} where
    pub text_printed : PastedTo text 0 (transcript mode log) size buffer → record { size = size; buffer = buffer } ≡ printed mode log text
    unfolding printed
    text_printed put = rw (le-ltb _ _ room, put.0, put.1, zero-add (length (transcript mode log)))

    pub too_long_printed : max_log < length log → PastedTo text 0 too_long size buffer → record { size = size; buffer = buffer } ≡ printed mode log text
    unfolding transcript
    too_long_printed long put = text_printed (rw (lt-ltb _ _ long) put)

  pub printed_within : (size : ℕ) (buffer : List ℕ) → record { size = size; buffer = buffer } ≡ printed mode log text → size ≤ length buffer
  unfolding printed pasted
  printed_within size buffer is = by_cases (dec_lt (length text) max_text)
      (λ short. omega (arith, ap (λ (s : Stored). s.size) (rw (lt-ltb _ _ short) at is)))
      (λ room. let put = rw (le-ltb (length text) max_text (omega arith)) at is in
      let behind = drop (0 + length (transcript mode log)) text in
      omega (arith, ap (λ (s : Stored). s.size) put, ap (λ (s : Stored). length s.buffer) put, length-append (transcript mode log) behind))
