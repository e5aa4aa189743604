-- `read_five` gives what a reader gives that is kept and asked five times: `Before` holds of the reader before each call, by `opened` before
-- the first and `moves` after each, and `finds` says what a call gives.
use mathlib.Core.List.{List}
use mathlib.Core.Path.{◌≡◌, refl}
use Prim.Native.Nat.{ℕ, suc}
use Rattle.std.specs.Borrow.{Bor}
use Rattle.steplog.specs.declared.reader.Reader.{Reader}
use Rattle.std.specs.Prelude.{Result}
use Rattle.steplog.specs.declared.reading.Record.{Record}
use Rattle.steplog.specs.declared.reading.Stop.{Stop}
use Rattle.steplog.specs.Records.{record_at, record_numbers, place_after}
use Rattle.steplog.specs.Reader.{reader_place, reader_finds}
use Rattle.steplog.proofs.OneToOne.{record_one_to_one}
use Rattle.reading.proofs.five.read_five.Goals as goal

-- a reader of a log, before call n
record Before (log : List ℕ) (n : ℕ) (r : Reader) : Type 0 where
  log_is : r.log.now ≡ log
  place_is : r.at ≡ reader_place log 0 n

-- what `next_record` promises of a reader, what it finds, and the reader behind it
abbrev Asked : Reader → Result Record Stop → Reader → Type 0
Asked r found s = (record_numbers found ≡ record_numbers (record_at r.log.now r.at)) × (s ≡ record { log = r.log; at = place_after found r.at })

opened : {r : Reader} (log : Bor (List ℕ)) → r ≡ record { log = log; at = 0 } → Before log.now 0 r
unfolding reader_place
opened log e = rw e (record { log_is = refl; place_is = refl })

module _ {log : List ℕ} {n : ℕ} {r s : Reader} (found : Result Record Stop) (here : Before log n r) (asked : Asked r found s) where
  finds : found ≡ reader_finds log 0 n
  unfolding reader_finds
  finds = rw (here.log_is, here.place_is) at (record_one_to_one _ _ asked.0)

  moves : Before log (suc n) s
  unfolding reader_place reader_finds
  moves = rw asked.1 (record { log_is = here.log_is; place_is = rw (finds, here.place_is) })

pub returns : goal.returns
returns c =
    let first = opened c.args.log c.open-reader.ensures in
    let second = moves _ first c.next_record-first.ensures in
    let third = moves _ second c.next_record-second.ensures in
    let fourth = moves _ third c.next_record-third.ensures in
    let fifth = moves _ fourth c.next_record-fourth.ensures in
    let last = moves _ fifth c.next_record-fifth.ensures in
    cc (
      finds _ first c.next_record-first.ensures,
      finds _ second c.next_record-second.ensures,
      finds _ third c.next_record-third.ensures,
      finds _ fourth c.next_record-fourth.ensures,
      finds _ fifth c.next_record-fifth.ensures,
      last.place_is,
    )
