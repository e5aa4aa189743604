-- `note` meets its contract: each branch is a case of the definition.
use native.Mathlib.Omega.{arith}
use mathlib.Core.Path.{sym, ◌∙◌}
use Rattle.model.proofs.Notes.{notes_past, notes_refused, notes_started, notes_same, notes_committed, notes_ended}
use Rattle.notes.proofs.note.Goals as goal

pub returns-then-w-ge-WRITERS : goal.returns-then-w-ge-WRITERS
returns-then-w-ge-WRITERS c = sym (notes_past _ _ _ _ _ _ _ c.if-w-ge-WRITERS.true)

pub returns-then-answer-gt-ABORTED : goal.returns-then-answer-gt-ABORTED
returns-then-answer-gt-ABORTED c = sym (notes_refused _ _ _ _ _ _ _ (omega arith))

pub returns-then-is_start : goal.returns-then-is_start
returns-then-is_start c =
    c.note_start.ensures _ ∙ sym (notes_started _ _ _ _ _ _ _ c.if-w-ge-WRITERS.false c.if-answer-eq-TAKEN.true (sym c.is_start.ensures ∙ c.if-is_start.true))

pub returns-else-is_start : goal.returns-else-is_start
returns-else-is_start c =
    sym (notes_same _ _ _ _ _ _ _ c.if-w-ge-WRITERS.false c.if-answer-eq-TAKEN.true (sym c.is_start.ensures ∙ c.if-is_start.false))

pub returns-then-answer-eq-COMMITTED : goal.returns-then-answer-eq-COMMITTED
returns-then-answer-eq-COMMITTED c =
    c.note_end.ensures _ ∙ rw c.note_completion.ensures (sym (notes_committed _ _ _ _ _ _ _ c.if-w-ge-WRITERS.false c.if-answer-eq-COMMITTED.true))

pub returns : goal.returns
returns c =
    c.note_end-2.ensures _ ∙ sym (notes_ended _ _ _ _ _ _ _ c.if-w-ge-WRITERS.false (omega arith) (omega arith))
