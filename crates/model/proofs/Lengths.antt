-- The lists of a state have their lengths: `fresh_lengths`, and `step_lengths`, a step keeps them.
use Prim.Native.Nat.{ℕ}
use mathlib.Core.Path.{◌≡◌, ◌∙◌}
use mathlib.Core.List.{List}
use mathlib.Core.Bool.{Bool, false}
use lib.ListN.{length, get_or, set, length-set, length-map, length-replicate}
use Rattle.model.specs.Limits.{writers, keys, groups, timestamps, rows, noted}
use Rattle.model.specs.State.{Shared, State, with_last, with_locks, with_index, with_timeline, with_present, with_values, ready, fresh}
use Rattle.model.specs.Answers.{committed}
use Rattle.model.specs.Rules.{locking, Verdict, closed, carried, act, Answered, step_tested, step}
use Rattle.model.specs.declared.Mode.{Mode}
use Rattle.model.specs.declared.Writer.{Writer}
use Rattle.model.specs.declared.Action.{Action}
use Rattle.model.specs.declared.Step.{Step}
use Rattle.common.proofs.Cases.{cond_iff}
use Rattle.model.proofs.Outcomes.{Ruling, is_refused, is_ended, rules}
use Rattle.model.proofs.Outcomes.{has_started, has_found, has_proposed, has_read, has_written, has_entered, has_checked, has_committed}
use Rattle.model.proofs.Slices.{sliced_length}
use Rattle.model.proofs.Notes.{NotesLengths, notes_lengths}

pub record SharedLengths (s : Shared) : Type 0 where
  pub locks : length s.locks ≡ groups
  pub index : length s.index ≡ keys
  pub timeline : length s.timeline ≡ timestamps
  pub present : length s.present ≡ rows
  pub values : length s.values ≡ rows

pub record StateLengths (st : State) : Type 0 where
  pub writers : length st.writers ≡ writers
  pub shared : SharedLengths st.shared
  pub notes : NotesLengths st.notes

-- a setter keeps the lengths, if the new list has the old one's
module _ {s : Shared} (h : SharedLengths s) where
  with_locks_lem : {l : List ℕ} → length l ≡ groups → SharedLengths (with_locks s l)
  with_locks_lem e = search

  -- one of them taken, or none
  locked : (mode : Mode) (x : Writer) (l : ℕ) → length (locking mode x l s.locks) ≡ groups
  locked mode x l = simp (cond_iff (λ (l : List ℕ). length l ≡ groups)) (λ _. length-set s.locks _ _ ∙ h.locks, λ _. h.locks)

  with_index_lem : {l : List ℕ} → length l ≡ keys → SharedLengths (with_index s l)
  with_index_lem e = search

  -- one entry set
  entered : (k e : ℕ) → length (set s.index k e) ≡ keys
  entered k e = length-set s.index k e ∙ h.index

  with_times : {m : ℕ} {l : List ℕ} → length l ≡ timestamps → SharedLengths (with_timeline (with_last s m) l)
  with_times e = search

  with_rows : {p : List Bool} {v : List ℕ} → length p ≡ rows → length v ≡ rows → SharedLengths (with_values (with_present s p) v)
  with_rows e f = search

  with_instant_lem : {m : ℕ} (i y : ℕ) → SharedLengths (with_timeline (with_last s m) (set s.timeline i y))
  with_instant_lem i y = with_times (length-set s.timeline i y ∙ h.timeline)

closed_lengths : (n : ℕ) (x : Writer) (w : ℕ) {s : Shared} → SharedLengths s → SharedLengths (closed n x w s).shared
closed_lengths n x w {s} h =
    with_locks_lem (with_index_lem h (simp (cond_iff (λ (i : List ℕ). length i ≡ keys)) (λ _. entered h _ _, λ _. h.index)))
    (length-map s.locks _ ∙ h.locks)

ruling_lengths : (mode : Mode) (x : Writer) (w : ℕ) (s : Shared) {a : Action} {v : Verdict} → Ruling mode x w s a v → SharedLengths s
    → SharedLengths (carried x w s v).shared
ruling_lengths mode x w s (is_refused a n p) h = h
ruling_lengths mode x w s (is_ended a n p) h = closed_lengths n x w h
ruling_lengths mode x w s (has_started op k g unerased p l) h = with_instant_lem h _ _
ruling_lengths mode x w s (has_found p q) h = h
ruling_lengths mode x w s (has_proposed p q) h = h
ruling_lengths mode x w s (has_read p free q) h = with_locks_lem (with_instant_lem h _ _) (locked h mode x _)
ruling_lengths mode x w s (has_written p) h =
    with_rows h (sliced_length false s.present x.group x.base x.ts x.key x.put ∙ h.present)
    (sliced_length 0 s.values x.group x.base x.ts x.key x.value ∙ h.values)
ruling_lengths mode x w s (has_entered made p e) h = with_locks_lem (with_index_lem h (entered h _ _)) (locked h mode x _)
ruling_lengths mode x w s (has_checked p q) h = h
ruling_lengths mode x w s (has_committed i p q) h = closed_lengths committed x w (with_instant_lem h _ _)

pub step_lengths : (st : State) (s : Step) → StateLengths st → StateLengths (step st s).state
unfolding step step_tested act
step_lengths st s h =
    let w = s.writer in
    let x : Writer = get_or st.writers w ready in
    simp (cond_iff (λ (r : Answered). StateLengths r.state)) (
      λ _. h,
      λ _. (
        λ _. h,
        λ _.
            record {
              writers = length-set st.writers w _ ∙ h.writers;
              shared = ruling_lengths st.mode x w st.shared (rules st.mode x w st.shared s.action) h.shared;
              notes = notes_lengths st.notes w s.action _ _ st.writers _ h.notes;
            },
      ),
    )

pub fresh_lengths : (mode : Mode) → StateLengths (fresh mode)
unfolding fresh
fresh_lengths mode =
    record {
      writers = length-replicate writers ready;
      shared =
          record {
            locks = length-replicate {A = ℕ} groups 0;
            index = length-replicate {A = ℕ} keys 0;
            timeline = length-replicate {A = ℕ} timestamps 0;
            present = length-replicate rows false;
            values = length-replicate {A = ℕ} rows 0;
          };
      notes =
          record {
            places = length-replicate {A = ℕ} timestamps 0;
            counts = length-replicate {A = ℕ} writers 0;
            noted = length-replicate {A = ℕ} noted 0;
          };
    }
