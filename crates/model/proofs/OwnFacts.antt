-- The facts of a writer that moves: `unread` of one that has not read, `ready_facts` of one that is ready again, `begun_fields` of one that has started.
use Prim.Native.Nat.{ℕ, ◌+◌, ◌<◌}
use mathlib.Core.Path.{◌≡◌, refl}
use mathlib.Core.Logic.{◌≢◌}
use mathlib.Core.Bool.{true, false, false≢true}
use mathlib.Core.Option.{none}
use native.Mathlib.Omega.{arith}
use Rattle.model.specs.State.{ready}
use Rattle.model.specs.Rules.{key_of, begun}
use Rattle.model.specs.declared.Writer.{Writer}
use Rattle.model.specs.declared.Operation.{Operation}
use Rattle.model.specs.declared.Operation.TheVariants.{Put, Remove}
use Rattle.model.proofs.Modes.{lock_phase_lem}
use Rattle.model.proofs.NewestCommitted.{left_by}
use Rattle.model.proofs.Moves.{View, leaves}
use Rattle.model.proofs.Invariant.{InProgress, WriterFacts}

-- a writer that has not read: the facts of the later phases are void
pub unread : (v : View) (w : ℕ) (x : Writer) → x.phase < 3 → (x.phase ≡ 0 → v.history.pending w ≡ none)
    → (0 < x.phase → InProgress (v.history.pending w) v.last (v.completed x.ts) x.key (leaves x) x.ts)
    → x.made ≢ true → ((p : ℕ) → v.lock p ≢ w + 1) → WriterFacts v w x
unread v w x early ready in_progress unmade unlocked =
    let from = lock_phase_lem v.mode in
    record {
      ready = ready;
      in_progress = in_progress;
      based = λ p. absurd (omega arith);
      readable = λ p. absurd (omega arith);
      written = λ p. absurd (omega arith);
      in_table = λ p. absurd (omega arith);
      indexed = λ p. absurd (omega arith);
      made = λ e. absurd (unmade e);
      guards = λ p. absurd (omega arith);
      holds = λ p e. absurd (unlocked p e);
      checks = λ e. absurd (omega arith);
      latest = λ p. absurd (omega arith);
    }

pub ready_facts : (v : View) (w : ℕ) → v.history.pending w ≡ none → ((p : ℕ) → v.lock p ≢ w + 1) → WriterFacts v w ready
ready_facts v w e = unread v w ready (omega arith) (λ p. e) (λ p. absurd (omega arith)) false≢true

pub begun_fields : (op : Operation) (n : ℕ)
    → ((begun op n).phase ≡ 1) × (key_of op ≡ (begun op n).key) × (left_by op ≡ leaves (begun op n)) × ((begun op n).ts ≡ n) × ((begun op n).made ≡ false)
begun_fields (Put k v g) n = (refl, refl, refl, refl, refl)
begun_fields (Remove k) n = (refl, refl, refl, refl, refl)
