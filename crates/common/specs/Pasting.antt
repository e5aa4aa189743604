-- A buffer with a piece pasted into it.
use Rattle.std.specs.Prelude.{ℕ, ◌+◌, ◌≡◌, List, ◌++◌, length, take, drop}
use Rattle.common.specs.Lent.{Lent}

module _ {A : Type 0} where
  -- a buffer with a piece from a place on
  unfoldable pub pasted : List A → ℕ → List A → List A
  pasted buffer at piece = take at buffer ++ (piece ++ drop (at + length piece) buffer)

  -- a piece is pasted from a place on: `next` is the place behind it, and `after` what is then in the buffer
  abbrev pub PastedTo : List A → ℕ → List A → ℕ → List A → Type 0
  PastedTo buffer at piece next after = (next ≡ at + length piece) × (after ≡ pasted buffer at piece)

  -- a call pastes a piece into a lent buffer, and gives the place behind it
  abbrev pub Pastes : Lent A → ℕ → List A → ℕ → Type 0
  Pastes buffer at piece r = PastedTo buffer.entry.now at piece r buffer.exit.now
