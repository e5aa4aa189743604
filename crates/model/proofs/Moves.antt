-- What the theorems see of a table and its history, with functions in place of lists, and what an event makes of it.
--     View, NotesView    what is seen, and the notes in it: start_viewed, end_viewed, completion_viewed
--     after..            the view after_start, after_phase, after_end, after_commit, after_clean
--     NextPhase          what a step to the next phase asks, and what it changes
--     Move               what a step of a writer makes of a view
--     Cleaned            what a clean leaves alone: slices that are kept (KeptAt), and bases about to be copied
--     Change             a move, or a clean
use Prim.Native.Nat.{ℕ, ◌+◌, ◌≤◌, ◌<◌}
use mathlib.Core.Path.{◌≡◌}
use mathlib.Core.Logic.{◌≢◌}
use mathlib.Core.Bool.{Bool, true, false, cond}
use mathlib.Core.Option.{Option, none, some}
use Rattle.common.specs.Counting.{upd}
use Rattle.model.specs.Modes.{guard, after_index}
use Rattle.model.specs.State.{ready}
use Rattle.model.specs.Notes.{held_by}
use Rattle.model.specs.Rules.{puts_erased, begun, moved, with_made, takes_lock, released}
use Rattle.model.specs.History.{Pending, History, start_recorded, commit_recorded, end_recorded}
use Rattle.model.specs.declared.Mode.{Mode}
use Rattle.model.specs.declared.Writer.{Writer}
use Rattle.model.specs.declared.Operation.{Operation}
use Rattle.model.specs.declared.Action.TheVariants.{Start}
use Rattle.model.proofs.Newest.{Newest}
use Rattle.model.proofs.Locks.{taken_if}
use Rattle.model.proofs.Notes.{amongst}

-- what is noted for the candidates of a commit
pub record NotesView : Type 0 where
  pub completions : ℕ  -- how many instants are completed
  pub place : ℕ → ℕ  -- of each timestamp
  pub count : ℕ → ℕ  -- of each writer
  pub noted : ℕ → ℕ → Bool  -- has the writer noted the timestamp

pub record View : Type 0 where
  pub mode : Mode
  pub horizon : ℕ
  pub last : ℕ
  pub lock : ℕ → ℕ  -- at each place: 0, or its holder + 1
  pub entry : ℕ → ℕ  -- of each key: 0, or its file group + 1
  pub completed : ℕ → Option ℕ  -- the file group of each completed timestamp
  pub cell : ℕ → ℕ → ℕ → Option ℕ  -- the value of each key in the slice of each file group and timestamp
  pub writer : ℕ → Writer
  pub history : History
  pub stored : ℕ → ℕ → Option ℕ  -- the slices that the write steps stored, by timestamp
  pub notes : NotesView

-- what a writer with its operation leaves at the key
abbrev pub leaves : Writer → Option ℕ
leaves x = cond x.put (some x.value) none

-- the slices once a writer has stored its own: the rows of its base, with its key put or removed
abbrev pub rows_stored : (ℕ → ℕ → ℕ → Option ℕ) → Writer → ℕ → Option ℕ
rows_stored cell x = upd (cell x.group x.base) x.key (leaves x)

abbrev pub storing : (ℕ → ℕ → ℕ → Option ℕ) → Writer → ℕ → ℕ → ℕ → Option ℕ
storing cell x = upd cell x.group (upd (cell x.group) x.ts (rows_stored cell x))

-- writer w's operation starts, where the writers are these
abbrev pub start_viewed : NotesView → (ℕ → Writer) → ℕ → NotesView
start_viewed n writer w =
    record {
      completions = n.completions;
      place = n.place;
      count = upd n.count w n.completions;
      noted = upd n.noted w (amongst (λ u. held_by (writer u)));
    }

-- it ends, or commits: the writer keeps neither its count nor what it has noted
abbrev pub end_viewed : NotesView → ℕ → NotesView
end_viewed n w = record { completions = n.completions; place = n.place; count = upd n.count w 0; noted = upd n.noted w (amongst (λ u. 0)) }

-- the instant of timestamp t is completed
abbrev pub completion_viewed : NotesView → ℕ → NotesView
completion_viewed n t =
    record { completions = n.completions + 1; place = upd n.place t (n.completions + 1); count = n.count; noted = n.noted }

-- writer w starts an operation
abbrev pub after_start : View → ℕ → Operation → View
after_start v w op =
    record {
      mode = v.mode;
      horizon = v.horizon;
      last = v.last + 1;
      lock = v.lock;
      entry = v.entry;
      completed = v.completed;
      cell = v.cell;
      writer = upd v.writer w (begun op (v.last + 1));
      history = start_recorded v.history w (Start op);
      stored = v.stored;
      notes = start_viewed v.notes v.writer w;
    }

-- writer w goes on as x, with the locks, the index, the slices and what is stored given
abbrev pub after_phase : View → ℕ → Writer → (ℕ → ℕ) → (ℕ → ℕ) → (ℕ → ℕ → ℕ → Option ℕ) → (ℕ → ℕ → Option ℕ) → View
after_phase v w x lock entry cell stored =
    record {
      mode = v.mode;
      horizon = v.horizon;
      last = v.last;
      lock = lock;
      entry = entry;
      completed = v.completed;
      cell = cell;
      writer = upd v.writer w x;
      history = v.history;
      stored = stored;
      notes = v.notes;
    }

-- writer w's operation ends without commit; the index entry that it made is taken out
abbrev pub after_end : View → ℕ → View
after_end v w =
    record {
      mode = v.mode;
      horizon = v.horizon;
      last = v.last;
      lock = λ p. released (v.lock p) w;
      entry = cond (v.writer w).made (upd v.entry (v.writer w).key 0) v.entry;
      completed = v.completed;
      cell = v.cell;
      writer = upd v.writer w ready;
      history = end_recorded v.history w;
      stored = v.stored;
      notes = end_viewed v.notes w;
    }

-- writer w commits its pending operation p
abbrev pub after_commit : View → ℕ → Pending → View
after_commit v w p =
    record {
      mode = v.mode;
      horizon = v.horizon;
      last = v.last;
      lock = λ q. released (v.lock q) w;
      entry = v.entry;
      completed = upd v.completed (v.writer w).ts (some (v.writer w).group);
      cell = v.cell;
      writer = upd v.writer w ready;
      history = commit_recorded v.history w (λ n. (v.writer w).group) (some p);
      stored = v.stored;
      notes = end_viewed (completion_viewed v.notes (v.writer w).ts) w;
    }

-- a clean at the timestamp c, after which the slices are those of `cell`
abbrev pub after_clean : View → ℕ → (ℕ → ℕ → ℕ → Option ℕ) → View
after_clean v c cell =
    record {
      mode = v.mode;
      horizon = c;
      last = v.last;
      lock = v.lock;
      entry = v.entry;
      completed = v.completed;
      cell = cell;
      writer = v.writer;
      history = v.history;
      stored = v.stored;
      notes = v.notes;
    }

-- the lock that guards the file group of writer x
abbrev pub guard_of : View → Writer → ℕ
guard_of v x = guard v.mode x.group

-- if the step at x's phase takes it, it is free, or writer w's own
abbrev pub UnblockedView : View → ℕ → Writer → Type 0
UnblockedView v w x = takes_lock v.mode x ≡ true → v.lock (guard_of v x) ≢ 0 → v.lock (guard_of v x) ≡ w + 1

-- the locks after that step
abbrev pub locks_taken : View → ℕ → Writer → ℕ → ℕ
locks_taken v w x = taken_if (takes_lock v.mode x) v.lock (guard_of v x) w

-- writer w, whose record is x, goes on to its next phase: what its record, the locks, the index and the slices become
pub data NextPhase (v : View) (w : ℕ) (x : Writer) : Writer → (ℕ → ℕ) → (ℕ → ℕ) → (ℕ → ℕ → ℕ → Option ℕ) → (ℕ → ℕ → Option ℕ) → Type 0 where
  looks_up : (g : ℕ) → x.phase ≡ 1 → NextPhase v w x (moved x 2 g x.base) v.lock v.entry v.cell v.stored
  reads : (b : ℕ) → x.phase ≡ 2 → UnblockedView v w x → Newest v.completed x.group v.last b → b ≤ x.ts
      → NextPhase v w x (moved x 3 x.group b) (locks_taken v w x) v.entry v.cell v.stored
  writes : x.phase ≡ 3
      → NextPhase v w x (moved x 4 x.group x.base) v.lock v.entry (storing v.cell x)
      (upd v.stored x.ts (rows_stored v.cell x))
  indexes : (made : Bool) → x.phase ≡ 4 → UnblockedView v w x → (made ≡ true → (x.put ≡ true) × (v.entry x.key ≡ 0))
      → (made ≡ false → v.entry x.key ≡ x.group + 1)
      → NextPhase v w x (moved (with_made x made) (after_index v.mode) x.group x.base) (locks_taken v w x) (upd v.entry x.key (x.group + 1))
      v.cell v.stored
  checks : (b : ℕ) → x.phase ≡ 5 → Newest v.completed x.group v.last b → b ≤ x.base
      → NextPhase v w x (moved x 6 x.group x.base) v.lock v.entry v.cell v.stored

-- what a step of writer w makes of a view
pub data Move (v : View) (w : ℕ) (n : View) : Type 0 where
  stays : n ≡ v → Move v w n
  starts : (op : Operation) → puts_erased op ≡ false → (v.writer w).phase ≡ 0 → n ≡ after_start v w op → Move v w n
  continues : {x : Writer} {l e : ℕ → ℕ} {c : ℕ → ℕ → ℕ → Option ℕ} {d : ℕ → ℕ → Option ℕ}
      → NextPhase v w (v.writer w) x l e c d → n ≡ after_phase v w x l e c d → Move v w n
  ends : n ≡ after_end v w → Move v w n
  commits : (p : Pending) → (v.writer w).phase ≡ 6 → v.history.pending w ≡ some p → n ≡ after_commit v w p → Move v w n

-- a clean at c keeps the slice of timestamp s: it is not completed, or no newer one of its file group is completed at or below c
abbrev pub KeptAt : (ℕ → Option ℕ) → ℕ → ℕ → Type 0
KeptAt completed c s = 0 < s → (g r : ℕ) → completed s ≡ some g → completed r ≡ some g → r ≤ c → r ≤ s

-- a clean at c, after which the slices are those of `cell`: such slices are as before, and so is the base of a writer that is about to copy it
pub record Cleaned (v : View) (c : ℕ) (cell : ℕ → ℕ → ℕ → Option ℕ) : Type 0 where
  pub rises : v.horizon ≤ c
  pub keeps : (s : ℕ) → KeptAt v.completed c s → (g : ℕ) → cell g s ≡ v.cell g s
  pub bases : (w : ℕ) → (v.writer w).phase ≡ 3 → (g : ℕ) → cell g (v.writer w).base ≡ v.cell g (v.writer w).base

-- what an event makes of a view: a step of writer w, or a clean
pub data Change (v n : View) : Type 0 where
  moves : (w : ℕ) → Move v w n → Change v n
  cleans : (c : ℕ) (cell : ℕ → ℕ → ℕ → Option ℕ) → Cleaned v c cell → n ≡ after_clean v c cell → Change v n
