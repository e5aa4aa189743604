-- `put_run` puts the answers, the stop and the rows, one behind the other.
use Rattle.std.proofs.Common.{ℕ, ◌+◌, ◌/◌, ◌<◌, ◌≤◌, List, [], ◌∷◌, length, get_or, arith}
use Rattle.common.proofs.Pieces.{Fits, first_fits}
use Rattle.transcript.specs.Text.{answer_lines, stop_line, run_room}
use Rattle.transcript.specs.Inner.{number_lines}
use Rattle.transcript.specs.declared.text.Text.{Text}
use Rattle.transcript.proofs.Lines.{run_pieces}
use Rattle.transcript.proofs.Sizes.{run_most}
use Rattle.transcript.proofs.Putting.{rest_room, together, one_put}
use Rattle.transcript.proofs.text.Text.put_run.Goals as goal

pieces : (t : Text) (answers : List ℕ) (stop offset : ℕ) (numbers : List ℕ) (rows : ℕ) → ((i : ℕ) → get_or answers i 0 < 256) → stop < 256
    → t.at + run_room (length answers) rows ≤ length t.buffer.now
    → Fits t.buffer.now t.at (answer_lines answers ∷ stop_line stop offset ∷ number_lines numbers rows ∷ [])
pieces t answers stop offset numbers rows bytes byte h =
    record { room = rw (← run_pieces) (omega (arith, run_most answers stop offset numbers rows bytes byte)) }

pub put_answers-requires : goal.put_answers-requires
put_answers-requires c =
    let a = c.args in
    first_fits (pieces a.self.now a.answers.now a.stop a.offset a.numbers.now (length a.numbers.now / 3) (λ i. omega (arith, c.type_inv.answers i))
    (omega arith) c.requires)

pub put_stop-requires : goal.put_stop-requires
put_stop-requires c =
    let a = c.args in
    let all = pieces a.self.now a.answers.now a.stop a.offset a.numbers.now (length a.numbers.now / 3) (λ i. omega (arith, c.type_inv.answers i))
    (omega arith) c.requires in
    first_fits (rest_room all c.put_answers.ensures)

pub put_rows-requires : goal.put_rows-requires
put_rows-requires c =
    let a = c.args in
    let all = pieces a.self.now a.answers.now a.stop a.offset a.numbers.now (length a.numbers.now / 3) (λ i. omega (arith, c.type_inv.answers i))
    (omega arith) c.requires in
    first_fits (rest_room (rest_room all c.put_answers.ensures) c.put_stop.ensures)

pub returns : goal.returns
returns c =
    let a = c.args in
    let all = pieces a.self.now a.answers.now a.stop a.offset a.numbers.now (length a.numbers.now / 3) (λ i. omega (arith, c.type_inv.answers i))
    (omega arith) c.requires in
    rw run_pieces (together all c.put_answers.ensures (together (rest_room all c.put_answers.ensures) c.put_stop.ensures (one_put c.put_rows.ensures)))
