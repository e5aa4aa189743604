-- What holds of the notes of a reached table, `Noted`, and that a change which starts and completes nothing keeps it,
-- `uncompleted`. NotesKept.antt says that every change does, TwoWays.antt what follows.
-- An operation takes as its candidates, by what it has noted, exactly the completed instants whose place is above its
-- count.
use Prim.Native.Nat.{ℕ, ◌≤◌, ◌<◌}
use mathlib.Core.Path.{◌≡◌}
use mathlib.Core.Logic.{◌≢◌}
use mathlib.Core.Bool.{Bool, true, ◌||◌}
use mathlib.Core.Option.{none, some}
use lib.Dec.{ltb}
use Rattle.model.specs.Limits.{writers}
use Rattle.model.specs.Candidates.{CommittedAt}
use Rattle.model.specs.declared.Writer.{Writer}
use Rattle.model.proofs.Notes.{amongst}
use Rattle.model.proofs.Moves.{NotesView, View}

-- way one's test of timestamp s, for writer w, whose operation has timestamp n
abbrev pub picks : NotesView → ℕ → ℕ → ℕ → Bool
picks m w n s = m.noted w s || ltb n s

-- past its read step a writer has as candidates all that is completed in its file group above its base
abbrev pub Newer : View → ℕ → Writer → Type 0
Newer v w x = 2 < x.phase → (s : ℕ) → v.completed s ≡ some x.group → x.base < s → v.notes.count w < v.notes.place s

-- what holds of writer w, whose operation in progress is x: every other operation in progress was so at its start, or started later; and the two ways
-- pick the same of what is completed
pub record OperationNoted (v : View) (w : ℕ) (x : Writer) : Type 0 where
  pub counted : v.notes.count w ≤ v.notes.completions
  pub others : (u : ℕ) → u ≢ w → 0 < (v.writer u).phase → picks v.notes w x.ts (v.writer u).ts ≡ true
  pub alike : (s g : ℕ) → v.completed s ≡ some g → picks v.notes w x.ts s ≡ ltb (v.notes.count w) (v.notes.place s)
  pub newer : Newer v w x

-- a writer that is ready keeps neither a count nor a timestamp
pub record Cleared (v : View) (w : ℕ) : Type 0 where
  pub count : v.notes.count w ≡ 0
  pub noted : v.notes.noted w ≡ amongst (λ u. 0)

-- the places of what is completed are from 1 to the number of completions and all different, the others are 0; what is completed is committed
pub record Noted (v : View) : Type 0 where
  pub placed : (s g : ℕ) → v.completed s ≡ some g → (0 < v.notes.place s) × (v.notes.place s ≤ v.notes.completions)
  pub unplaced : (s : ℕ) → v.completed s ≡ none → v.notes.place s ≡ 0
  pub unique : (s t g h : ℕ) → v.completed s ≡ some g → v.completed t ≡ some h → v.notes.place s ≡ v.notes.place t → s ≡ t
  pub known : (s g : ℕ) → v.completed s ≡ some g → CommittedAt v.history s
  pub operation : (w : ℕ) → 0 < (v.writer w).phase → OperationNoted v w (v.writer w)
  pub cleared : (w : ℕ) → (v.writer w).phase ≡ 0 → Cleared v w

-- what a table's lists give besides the invariant: no writer past the last has an operation, and nothing is completed at 0
pub record Bounded (v : View) : Type 0 where
  pub writer : (w : ℕ) → 0 < (v.writer w).phase → w < writers
  pub zero : v.completed 0 ≡ none

-- an operation in progress that was so before, with its timestamp, its count and what it has noted
pub record Continued (v n : View) (w : ℕ) (x : Writer) : Type 0 where
  pub busy : 0 < (v.writer w).phase
  pub ts : x.ts ≡ (v.writer w).ts
  pub count : n.notes.count w ≡ v.notes.count w
  pub noted : n.notes.noted w ≡ v.notes.noted w
  pub newer : Newer v w x

-- a change that starts and completes nothing
pub uncompleted : (v n : View) → n.completed ≡ v.completed → n.notes.place ≡ v.notes.place → n.notes.completions ≡ v.notes.completions
    → n.history.done ≡ v.history.done → ((w : ℕ) → 0 < (n.writer w).phase → Continued v n w (n.writer w))
    → ((w : ℕ) → (n.writer w).phase ≡ 0 → Cleared n w) → Noted v → Noted n
uncompleted v n completed place completions done same cleared m =
    record {
      placed = λ s g. rw (completed, place, completions) (m.placed s g);
      unplaced = λ s. rw (completed, place) (m.unplaced s);
      unique = λ s t g h. rw (completed, place) (m.unique s t g h);
      known = λ s g. rw completed (λ e. let c = m.known s g e in record { operation = c.operation; done = rw done c.done; ts = c.ts });
      operation =
          λ w p.
          let a = same w p in
          let old = m.operation w a.busy in
          record {
            counted = rw (completions, a.count) old.counted;
            others = λ u ne q. let b = same u q in rw (a.ts, a.noted, b.ts) (old.others u ne b.busy);
            alike = λ s g. rw (completed, place, a.ts, a.noted, a.count) (old.alike s g);
            newer = λ q s. rw (completed, place, a.count) (a.newer q s);
          };
      cleared = cleared;
    }
