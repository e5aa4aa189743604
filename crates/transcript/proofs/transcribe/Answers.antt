-- `transcribe` prints what the definition gives: nothing, `too long`, or the text of the run, which LogRun.antt shows to be that of the definition.
use Rattle.std.proofs.Common.{◌≡◌, ◌*◌, length, sym, rules, arith}
use Rattle.std.proofs.lemmas.List.{length-take-le}
use Rattle.model.specs.Limits.{keys}
use Rattle.transcript.proofs.Printed.{nothing_printed, too_long_printed, printed_within}
use Rattle.transcript.proofs.LogRun.{run_fits, run_printed}
use Rattle.transcript.proofs.Putting.{put_first}
use Rattle.transcript.proofs.transcribe.Goals as goal

pub returns-then-buffer-lt-MAX_TEXT-clause-prints : goal.returns-then-buffer-lt-MAX_TEXT-clause-prints
returns-then-buffer-lt-MAX_TEXT-clause-prints c = nothing_printed _ _ _ c.if-buffer-lt-MAX_TEXT.true

pub returns-then-log-gt-MAX_LOG-clause-prints : goal.returns-then-log-gt-MAX_LOG-clause-prints
returns-then-log-gt-MAX_LOG-clause-prints c =
    too_long_printed _ _ _ c.if-buffer-lt-MAX_TEXT.false c.if-log-gt-MAX_LOG.true
    (put_first c.new-text.ensures.same_bytes c.new-text.ensures.at_the_start c.put_bytes.ensures c.size.ensures (search rules))

pub slice_bounds-answers-end : goal.slice_bounds-answers-end
slice_bounds-answers-end c = (run_fits _ _ c.fresh-fresh.ensures c.run_log-ran.ensures c.scan-scanned.ensures (search rules)).0

pub slice_bounds-answered-end : goal.slice_bounds-answered-end
slice_bounds-answered-end c = sym (length-take-le _ _ (run_fits _ _ c.fresh-fresh.ensures c.run_log-ran.ensures c.scan-scanned.ensures (search rules)).0)

pub overflow_mul-rows : goal.overflow_mul-rows
overflow_mul-rows c =
    let size : length c.scan-scanned.new.buffer ≡ 3 * keys = search rules in
    omega (arith, (run_fits _ _ c.fresh-fresh.ensures c.run_log-ran.ensures c.scan-scanned.ensures size).1)

pub slice_bounds-rows-end : goal.slice_bounds-rows-end
slice_bounds-rows-end c =
    rw c.unwrap_or-count.ensures (run_fits _ _ c.fresh-fresh.ensures c.run_log-ran.ensures c.scan-scanned.ensures (search rules)).1

pub slice_bounds-listed-end : goal.slice_bounds-listed-end
slice_bounds-listed-end c =
    rw c.unwrap_or-count.ensures
    (sym (length-take-le _ _ (run_fits _ _ c.fresh-fresh.ensures c.run_log-ran.ensures c.scan-scanned.ensures (search rules)).1))

pub returns-clause-prints : goal.returns-clause-prints
returns-clause-prints c =
    run_printed _ _ c.fresh-fresh.ensures c.run_log-ran.ensures c.scan-scanned.ensures (search rules) _ c.if-buffer-lt-MAX_TEXT.false
    c.if-log-gt-MAX_LOG.false
    (put_first c.new-text.ensures.same_bytes c.new-text.ensures.at_the_start (rw (c.unwrap_or-count.ensures, c.from.ensures) at c.put_run.ensures)
    c.size-2.ensures (search rules))

pub returns-clause-within : goal.returns-clause-within
returns-clause-within c = printed_within _ _ _ _ _ (returns-clause-prints c)
