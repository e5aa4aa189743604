-- What binds a key.
--     puts_on_lem, puts_key    which operations are puts on a key
--     still_bound          what binds a key still does after a move of writer w, if that is shown for w's own operation in progress
use Prim.Native.Nat.{ℕ}
use mathlib.Core.Path.{◌≡◌, refl, ◌∙◌}
use mathlib.Core.Logic.{◌≢◌, by_cases}
use mathlib.Core.Bool.{true, false≢true}
use mathlib.Core.List.{Memᴰ}
use mathlib.Core.Option.{some}
use native.Mathlib.Decide.{ℕ_discrete}
use borrow.Author.Tests.{eq-eqb, eqb-true}
use Rattle.common.specs.Counting.{upd}
use Rattle.common.proofs.Functions.{none_some, upd_other}
use Rattle.model.specs.Rules.{key_of}
use Rattle.model.specs.History.{Pending, Committed, History}
use Rattle.model.specs.Binding.{puts_on, Bound, by_committed, by_pending}
use Rattle.model.specs.declared.Writer.{Writer}
use Rattle.model.specs.declared.Operation.{Operation}
use Rattle.model.specs.declared.Operation.TheVariants.{Put, Remove}
use Rattle.model.proofs.NewestCommitted.{left_by}
use Rattle.model.proofs.Moves.{View}

module _ {k : ℕ} where
  pub puts_on_lem : (op : Operation) (r : ℕ) → key_of op ≡ k → left_by op ≡ some r → puts_on k op ≡ true
  puts_on_lem (Put j v g) r key left = eq-eqb j k key
  puts_on_lem (Remove j) r key left = absurd (none_some refl left)

  pub puts_key : (op : Operation) → puts_on k op ≡ true → key_of op ≡ k
  puts_key (Put j v g) e = eqb-true j k e
  puts_key (Remove j) e = absurd (false≢true e)

-- a move of writer w, whose record becomes x, with the history h after it
module _ (v : View) (h : History) (w : ℕ) (x : Writer) (pending : (u : ℕ) → u ≢ w → h.pending u ≡ v.history.pending u)
    (done : (c : Committed) → Memᴰ c v.history.done → Memᴰ c h.done) where
  pub still_bound : {k : ℕ}
      → ((p : Pending) → v.history.pending w ≡ some p → puts_on k p.operation ≡ true → (v.writer w).made ≡ true → Bound h (upd v.writer w x) k)
      → Bound v.history v.writer k → Bound h (upd v.writer w x) k
  still_bound own (by_committed c m e) = by_committed c (done c m) e
  still_bound own (by_pending u p is e made) =
      by_cases (ℕ_discrete u w) (λ q. own p (rw q at is) e (rw q at made))
      (λ ne. by_pending u p (pending u ne ∙ is) e (rw (upd_other v.writer w x u ne) made))
