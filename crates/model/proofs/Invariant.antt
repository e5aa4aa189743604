-- The invariant behind demand 3, over a view: `Invariant`.
-- A writer's facts (`WriterFacts`) grow with its phase. What the write step of a completed slice stored is what the
-- committed operations of its file group left there; what that of another one stored is the same at its base, changed
-- at one key. The table has what was stored wherever no clean has dropped it.
--     one_guarded, one_past    two writers that have the lock of one file group, or are past the index step on one
--                              key, are one
--     pending_key              an operation in progress is on its writer's key
use Prim.Native.Nat.{ℕ, ◌+◌, ◌≤◌, ◌<◌}
use mathlib.Core.Path.{◌≡◌, ap, ◌∙◌}
use mathlib.Core.Logic.{◌≢◌}
use mathlib.Core.List.{List, Memᴰ}
use mathlib.Core.Bool.{true}
use mathlib.Core.Option.{Option, none, some}
use native.Mathlib.Omega.{arith}
use Rattle.common.specs.Counting.{upd}
use Rattle.common.proofs.Functions.{some_inj}
use Rattle.model.specs.Modes.{guard, lock_phase}
use Rattle.model.specs.Rules.{key_of}
use Rattle.model.specs.History.{Pending, Committed}
use Rattle.model.specs.Binding.{Bound}
use Rattle.model.specs.declared.Mode.TheVariants.{Optimistic}
use Rattle.model.specs.declared.Writer.{Writer}
use Rattle.model.proofs.Modes.{lock_phase_lem}
use Rattle.model.proofs.NewestCommitted.{left_by, left}
use Rattle.model.proofs.Moves.{View, leaves, guard_of, KeptAt}

-- an operation in progress: `o` is the history's pending one, on key k, leaving r there, under the timestamp n;
-- n is issued, and nothing is completed at it (`done` is what is)
pub record InProgress (o : Option Pending) (last : ℕ) (done : Option ℕ) (k : ℕ) (r : Option ℕ) (n : ℕ) : Type 0 where
  pub pending : Pending
  pub is : o ≡ some pending
  pub key : key_of pending.operation ≡ k
  pub left : left_by pending.operation ≡ r
  pub ts : pending.ts ≡ n
  pub positive : 0 < n
  pub issued : n ≤ last
  pub uncompleted : done ≡ none

-- a base b under the timestamp n: 0, or completed in group g
pub record Based (completed : ℕ → Option ℕ) (g b n : ℕ) : Type 0 where
  pub before : b < n
  pub hit : 0 < b → completed b ≡ some g

-- a writer that made its key's index entry: it puts, it is past the index step, and nothing is committed on the key
pub record Made (done : List Committed) (x : Writer) : Type 0 where
  pub put : x.put ≡ true
  pub past : 4 < x.phase
  pub new : (c : Committed) → Memᴰ c done → key_of c.operation ≢ x.key

-- what holds of writer w, whose record is x, by its phase. From the step on that takes the lock, the writer holds the lock that guards its file group,
-- and no other one; and while no check is to come, nothing of the group is completed above its base
pub record WriterFacts (v : View) (w : ℕ) (x : Writer) : Type 0 where
  pub ready : x.phase ≡ 0 → v.history.pending w ≡ none
  pub in_progress : 0 < x.phase → InProgress (v.history.pending w) v.last (v.completed x.ts) x.key (leaves x) x.ts
  pub based : 2 < x.phase → Based v.completed x.group x.base x.ts
  pub readable : x.phase ≡ 3 → v.cell x.group x.base ≡ v.stored x.base
  pub written : 3 < x.phase → v.stored x.ts ≡ upd (left v.history.done x.group x.base) x.key (leaves x)
  pub in_table : 3 < x.phase → v.cell x.group x.ts ≡ v.stored x.ts
  pub indexed : 4 < x.phase → v.entry x.key ≡ x.group + 1
  pub made : x.made ≡ true → Made v.history.done x
  pub guards : lock_phase v.mode < x.phase → v.lock (guard_of v x) ≡ w + 1
  pub holds : (p : ℕ) → v.lock p ≡ w + 1 → (lock_phase v.mode < x.phase) × (p ≡ guard_of v x)
  pub checks : x.phase ≡ 5 → v.mode ≡ Optimistic
  pub latest : lock_phase v.mode < x.phase → x.phase ≢ 5 → (s : ℕ) → v.completed s ≡ some x.group → s ≤ x.base

-- what holds of a committed operation
pub record CommittedFacts (v : View) (c : Committed) : Type 0 where
  pub completed : v.completed c.ts ≡ some c.group
  pub indexed : v.entry (key_of c.operation) ≡ c.group + 1

-- s is completed in file group g, or 0, which has an empty slice
abbrev pub CompletedIn : View → ℕ → ℕ → Type 0
CompletedIn v g s = 0 < s → v.completed s ≡ some g

pub record Invariant (v : View) : Type 0 where
  pub last : v.history.last ≡ v.last
  pub above : (s : ℕ) → v.last < s → v.completed s ≡ none
  pub committed : (c : Committed) → Memᴰ c v.history.done → CommittedFacts v c
  pub rows : (g s : ℕ) → CompletedIn v g s → v.stored s ≡ left v.history.done g s
  pub kept : (g s : ℕ) → CompletedIn v g s → KeptAt v.completed v.horizon s → v.cell g s ≡ v.stored s
  pub bound : (k : ℕ) → v.entry k ≢ 0 → Bound v.history v.writer k
  pub writer : (w : ℕ) → WriterFacts v w (v.writer w)
  pub unique : (a b : ℕ) → 0 < (v.writer a).phase → 0 < (v.writer b).phase → (v.writer a).ts ≡ (v.writer b).ts → a ≡ b

-- two writers that have the lock of one file group are one
pub one_guarded : (v : View) → Invariant v → (a b : ℕ) → lock_phase v.mode < (v.writer a).phase → lock_phase v.mode < (v.writer b).phase
    → (v.writer a).group ≡ (v.writer b).group → a ≡ b
one_guarded v i a b p q e =
    let same : v.lock (guard_of v (v.writer a)) ≡ v.lock (guard_of v (v.writer b)) = ap (λ (g : ℕ). v.lock (guard v.mode g)) e in
    omega (arith, (i.writer a).guards p, (i.writer b).guards q)

-- and so are two writers past the index step on one key, whose entry names the group of each
pub one_past : (v : View) → Invariant v → (a b : ℕ) → 4 < (v.writer a).phase → 4 < (v.writer b).phase → (v.writer a).key ≡ (v.writer b).key → a ≡ b
one_past v i a b p q e =
    let early = lock_phase_lem v.mode in
    one_guarded v i a b (omega arith) (omega arith) (omega (arith, (i.writer a).indexed p, (i.writer b).indexed q, ap v.entry e))

-- a writer's operation in progress is on its key
pub pending_key : (v : View) → Invariant v → (w : ℕ) (p : Pending) → 0 < (v.writer w).phase → v.history.pending w ≡ some p
    → key_of p.operation ≡ (v.writer w).key
pending_key v i w p busy is =
    let h = (i.writer w).in_progress busy in
    ap (λ (q : Pending). key_of q.operation) (some_inj is h.is) ∙ h.key
