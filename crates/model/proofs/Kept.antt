-- What a change keeps (`SharedKept`, `OtherKept`), and the whole invariant from it (`Kept`).
--     unchanged    the first, for a change that completes and commits nothing
--     untouched    the second, for one that leaves the locks, the index and what is stored as well
--     other_facts, committed_kept, rows_kept, slice_kept    carry over the facts of the other writers, of committed
--                  operations and of completed slices
--     writer_facts, timestamps_unique    put the writers together, for a move, which changes one of them (`Moved`)
--     uncommitted  is the whole, for a move that commits nothing
use Prim.Native.Nat.{ℕ, ◌+◌, ◌≤◌, ◌<◌}
use mathlib.Core.Path.{◌≡◌, refl, sym, subst⁻¹, ap, ◌∙◌}
use mathlib.Core.Logic.{◌≢◌}
use mathlib.Core.List.{Memᴰ}
use mathlib.Core.Option.{some}
use native.Mathlib.Omega.{arith}
use Rattle.common.specs.Counting.{upd}
use Rattle.model.specs.Modes.{lock_phase}
use Rattle.model.specs.Rules.{key_of}
use Rattle.model.specs.History.{Committed}
use Rattle.model.specs.Binding.{Bound}
use Rattle.model.specs.declared.Writer.{Writer}
use Rattle.common.proofs.Functions.{upd_ind}
use Rattle.model.proofs.NewestCommitted.{left}
use Rattle.model.proofs.Moves.{View, KeptAt}
use Rattle.model.proofs.Invariant.{Made, WriterFacts, CommittedFacts, CompletedIn, Invariant}

-- what a change keeps of the part that all writers share
pub record SharedKept (v n : View) : Type 0 where
  pub mode : n.mode ≡ v.mode
  pub last : v.last ≤ n.last
  pub completed : (g s : ℕ) → v.completed s ≡ some g → n.completed s ≡ some g
  pub entry : (c : Committed) → Memᴰ c v.history.done → n.entry (key_of c.operation) ≡ v.entry (key_of c.operation)
  pub stored : (g s : ℕ) → CompletedIn v g s → n.stored s ≡ v.stored s
  pub left : (g s : ℕ) → CompletedIn v g s → left n.history.done g s ≡ left v.history.done g s

-- what it keeps for a writer u, whose record is x, that does not move
pub record OtherKept (v n : View) (u : ℕ) (x : Writer) : Type 0 where
  pub pending : n.history.pending u ≡ v.history.pending u
  pub uncompleted : 0 < x.phase → n.completed x.ts ≡ v.completed x.ts
  pub base : x.phase ≡ 3 → CompletedIn v x.group x.base → n.cell x.group x.base ≡ v.cell x.group x.base
  pub cell : 3 < x.phase → n.cell x.group x.ts ≡ v.cell x.group x.ts
  pub stored : 3 < x.phase → n.stored x.ts ≡ v.stored x.ts
  pub entry : 4 < x.phase → n.entry x.key ≡ v.entry x.key
  pub made : Made v.history.done x → Made n.history.done x
  pub guards : (p : ℕ) → v.lock p ≡ u + 1 → n.lock p ≡ u + 1
  pub holds : (p : ℕ) → n.lock p ≡ u + 1 → v.lock p ≡ u + 1
  pub latest : lock_phase v.mode < x.phase → (s : ℕ) → n.completed s ≡ some x.group → v.completed s ≡ some x.group

-- a move of writer w, whose record becomes x
pub record Moved (v n : View) (w : ℕ) (x : Writer) : Type 0 where
  pub writer : n.writer ≡ upd v.writer w x
  pub horizon : n.horizon ≡ v.horizon
  pub shared : SharedKept v n
  pub cell : (g s : ℕ) → CompletedIn v g s → n.cell g s ≡ v.cell g s
  pub others : (u : ℕ) → u ≢ w → OtherKept v n u (v.writer u)
  pub own : WriterFacts n w x
  pub bound : (k : ℕ) → n.entry k ≢ 0 → Bound n.history n.writer k
  pub unique : (u : ℕ) → u ≢ w → 0 < (v.writer u).phase → 0 < x.phase → (v.writer u).ts ≢ x.ts

-- so it keeps the whole
pub record Kept (v n : View) : Type 0 where
  pub shared : SharedKept v n
  pub invariant : Invariant n

-- a change that completes and commits nothing, with what it leaves of the index and of what is stored
pub unchanged : (v n : View) → n.mode ≡ v.mode → v.last ≤ n.last → n.completed ≡ v.completed
    → n.history.done ≡ v.history.done
    → ((c : Committed) → Memᴰ c v.history.done → n.entry (key_of c.operation) ≡ v.entry (key_of c.operation))
    → ((g s : ℕ) → CompletedIn v g s → n.stored s ≡ v.stored s) → SharedKept v n
unchanged v n mode last completed done entry stored =
    record {
      mode = mode;
      last = last;
      completed = λ g s e. rw completed e;
      entry = entry;
      stored = stored;
      left = λ g s hit. rw done;
    }

-- a change that leaves the locks, the index and what is stored as well, with what it leaves for a writer that does not move
pub untouched : (v n : View) (u : ℕ) (x : Writer) → n.completed ≡ v.completed → n.history.done ≡ v.history.done
    → n.lock ≡ v.lock → n.entry ≡ v.entry → n.stored ≡ v.stored → n.history.pending u ≡ v.history.pending u
    → (x.phase ≡ 3 → n.cell x.group x.base ≡ v.cell x.group x.base)
    → (3 < x.phase → n.cell x.group x.ts ≡ v.cell x.group x.ts) → OtherKept v n u x
untouched v n u x completed done lock entry stored pending base cell =
    record {
      pending = pending;
      uncompleted = λ q. rw completed;
      base = λ q hit. base q;
      cell = cell;
      stored = λ q. rw stored;
      entry = λ q. rw entry;
      made = λ m. rw done m;
      guards = λ p e. rw lock e;
      holds = λ p e. rw lock at e;
      latest = λ q s e. rw completed at e;
    }

module _ (v n : View) (k : SharedKept v n) where
  pub other_facts : (u : ℕ) (x : Writer) → OtherKept v n u x → WriterFacts v u x → WriterFacts n u x
  other_facts u x o f =
      record {
        ready = λ e. o.pending ∙ f.ready e;
        in_progress =
            λ p.
            let h = f.in_progress p in
            record {
              pending = h.pending;
              is = o.pending ∙ h.is;
              key = h.key;
              left = h.left;
              ts = h.ts;
              positive = h.positive;
              issued = omega (arith, k.last, h.issued);
              uncompleted = o.uncompleted p ∙ h.uncompleted;
            };
        based = λ p. record { before = (f.based p).before; hit = λ q. k.completed _ _ ((f.based p).hit q) };
        readable =
            λ p.
            let hit = (f.based (omega arith)).hit in
            o.base p hit ∙ f.readable p ∙ sym (k.stored x.group x.base hit);
        written = λ p. rw (o.stored p, k.left x.group x.base (f.based (omega arith)).hit) (f.written p);
        in_table = λ p. o.cell p ∙ f.in_table p ∙ sym (o.stored p);
        indexed = λ p. o.entry p ∙ f.indexed p;
        made = λ e. o.made (f.made e);
        guards = rw k.mode (λ p. o.guards _ (f.guards p));
        holds = rw k.mode (λ p e. f.holds p (o.holds p e));
        checks = rw k.mode f.checks;
        latest = rw k.mode (λ p c s e. f.latest p c s (o.latest p s e));
      }

  pub committed_kept : (c : Committed) → Memᴰ c v.history.done → CommittedFacts v c → CommittedFacts n c
  committed_kept c m f = record { completed = k.completed _ _ f.completed; indexed = k.entry c m ∙ f.indexed }

  pub rows_kept : Invariant v → (g s : ℕ) → CompletedIn v g s → n.stored s ≡ left n.history.done g s
  rows_kept i g s hit = k.stored g s hit ∙ i.rows g s hit ∙ sym (k.left g s hit)

module _ (v n : View) (w : ℕ) (x : Writer) (i : Invariant v) (m : Moved v n w x) where
  pub writer_facts : (u : ℕ) → WriterFacts n u (n.writer u)
  writer_facts u =
      subst⁻¹ (WriterFacts n u) (ap (λ (f : ℕ → Writer). f u) m.writer)
      (upd_ind v.writer w x (WriterFacts n) m.own (λ u ne. other_facts v n m.shared u (v.writer u) (m.others u ne) (i.writer u)) u)

  pub timestamps_unique : (a b : ℕ) → 0 < (n.writer a).phase → 0 < (n.writer b).phase → (n.writer a).ts ≡ (n.writer b).ts → a ≡ b
  timestamps_unique =
      let f = v.writer in
      rw m.writer
      (upd_ind f w x (λ a y. (b : ℕ) → 0 < y.phase → 0 < (upd f w x b).phase → y.ts ≡ (upd f w x b).ts → a ≡ b)
      (upd_ind f w x (λ b y. 0 < x.phase → 0 < y.phase → x.ts ≡ y.ts → w ≡ b) (λ p q e. refl) (λ b ne p q e. absurd (m.unique b ne q p (sym e))))
      (λ a ne.
      upd_ind f w x (λ b y. 0 < (f a).phase → 0 < y.phase → (f a).ts ≡ y.ts → a ≡ b) (λ p q e. absurd (m.unique a ne p q e)) (λ b nb. i.unique a b)))

  -- a slice that was completed before, and that no clean has dropped
  pub slice_kept : (g s : ℕ) → CompletedIn v g s → KeptAt n.completed n.horizon s → n.cell g s ≡ n.stored s
  slice_kept g s hit kept =
      m.cell g s hit
      ∙ i.kept g s hit
      (λ p f r e q low. kept p f r (m.shared.completed f s e) (m.shared.completed f r q) (omega (arith, m.horizon)))
      ∙ sym (m.shared.stored g s hit)

  -- a move that commits nothing
  pub uncommitted : n.history.last ≡ n.last → n.history.done ≡ v.history.done → n.completed ≡ v.completed → Kept v n
  uncommitted last done completed =
      record {
        shared = m.shared;
        invariant =
            record {
              last = last;
              above = λ s p. rw completed (i.above s (omega (arith, m.shared.last)));
              committed = λ c q. let old = rw done at q in committed_kept v n m.shared c old (i.committed c old);
              rows = λ g s hit. rows_kept v n m.shared i g s (λ p. rw completed at (hit p));
              kept = λ g s hit. slice_kept g s (λ p. rw completed at (hit p));
              bound = m.bound;
              writer = writer_facts;
              unique = timestamps_unique;
            };
      }
