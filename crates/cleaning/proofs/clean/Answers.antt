-- `clean` meets its contract: each way out gives the answer of the test that it stands behind, by proofs/Answers.
use mathlib.Core.List.{[]}
use mathlib.Core.Path.{sym, ◌∙◌}
use Rattle.model.specs.State.{state_of}
use Rattle.cleaning.proofs.Answers.{in_range_swept, clean_out_of_range, clean_below, clean_above, clean_needed, clean_taken}
use Rattle.cleaning.proofs.clean.Goals as goal

pub returns-then-not-in_range : goal.returns-then-not-in_range
returns-then-not-in_range c = λ values. clean_out_of_range _ _ (sym (c.in_range.ensures _ _) ∙ c.if-not-in_range.true)

pub returns-then-at-t : goal.returns-then-at-t
returns-then-at-t c =
    λ values. clean_below _ _ (sym (c.in_range.ensures _ _) ∙ c.if-not-in_range.false) c.if-at-t.true

pub returns-then-at-t-2 : goal.returns-then-at-t-2
returns-then-at-t-2 c =
    λ values. clean_above _ _ (sym (c.in_range.ensures _ _) ∙ c.if-not-in_range.false) c.if-at-t-2.true

pub returns-then-not-bases_kept : goal.returns-then-not-bases_kept
returns-then-not-bases_kept c =
    λ values.
    clean_needed _ _ (sym (c.in_range.ensures _ _) ∙ c.if-not-in_range.false) c.if-at-t.false c.if-at-t-2.false
    (sym c.bases_kept.ensures ∙ c.if-not-bases_kept.true)

pub sweep-requires : goal.sweep-requires
sweep-requires c =
    in_range_swept (state_of c.args.t [] []) _ (sym (c.in_range.ensures _ _) ∙ c.if-not-in_range.false)
    c.if-at-t-2.false

pub returns : goal.returns
returns c =
    λ values.
    rw c.sweep.ensures
    (clean_taken _ _ (sym (c.in_range.ensures _ _) ∙ c.if-not-in_range.false) c.if-at-t.false c.if-at-t-2.false
    (sym c.bases_kept.ensures ∙ c.if-not-bases_kept.false))
