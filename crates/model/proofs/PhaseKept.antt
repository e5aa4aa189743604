-- A writer that goes on to its next phase keeps the invariant, `phase_keeps`, and the rows of completed slices,
-- `phase_keeps_rows`.
-- One law for each step: `look_up_keeps`, `read_keeps`, `write_keeps`, `index_keeps`, `check_keeps`. What the step
-- leaves alone is in LeftAlone.antt; a law here has what it adds to the writer's own facts: look up nothing; read the
-- base; write what is stored; index the entry and its flag; check that nothing is completed above the base. The read
-- or the index step takes the lock, by the mode.
use Prim.Native.Nat.{ℕ, ◌+◌, ◌≤◌}
use mathlib.Core.Path.{◌≡◌, refl, sym, ap, ◌∙◌}
use mathlib.Core.Logic.{◌≢◌}
use mathlib.Core.Bool.{Bool, true, false}
use mathlib.Core.Option.{Option}
use native.Mathlib.Omega.{arith}
use Rattle.common.specs.Counting.{upd}
use Rattle.model.specs.Modes.{after_index}
use Rattle.model.specs.Rules.{moved, with_made}
use Rattle.model.specs.Binding.{Bound, by_pending}
use Rattle.model.specs.declared.Writer.{Writer}
use Rattle.common.proofs.Cases.{by_test}
use Rattle.common.proofs.Functions.{none_some, some_inj, upd_same, upd_other, upd_ind}
use Rattle.model.proofs.Modes.{lock_phase_lem, after_index_lem}
use Rattle.model.proofs.Newest.{Newest}
use Rattle.model.proofs.Moves.{View, rows_stored, storing, after_phase, UnblockedView, locks_taken, NextPhase}
use Rattle.model.proofs.Moves.{looks_up, reads, writes, indexes, checks}
use Rattle.model.proofs.Invariant.{CompletedIn, Invariant}
use Rattle.model.proofs.Kept.{Kept}
use Rattle.model.proofs.Slices.{stored_own, stored_other}
use Rattle.model.proofs.OwnFacts.{unread}
use Rattle.model.proofs.Binding.{puts_on_lem}
use Rattle.model.proofs.LeftAlone.{same_locks, continued, still, unshared, all_below, unmade, others_locks}
use Rattle.model.proofs.LeftAlone.{own_lock_lem, only_lock}

module _ (v : View) (w : ℕ) (i : Invariant v) where
  abbrev x : Writer
  x = v.writer w

  abbrev Keeps : Writer → (ℕ → ℕ) → (ℕ → ℕ) → (ℕ → ℕ → ℕ → Option ℕ) → (ℕ → ℕ → Option ℕ) → Type 0
  Keeps y lock entry cell stored = Kept v (after_phase v w y lock entry cell stored)

  -- look up: the writer has a file group
  look_up_keeps : (g : ℕ) → x.phase ≡ 1 → Keeps (moved x 2 g x.base) v.lock v.entry v.cell v.stored
  look_up_keeps g at =
      unshared v w i _ _ (omega arith) refl (λ m. m) (same_locks v w i)
      (unread _ w _ (omega arith) (λ q. absurd (omega arith)) (λ q. (i.writer w).in_progress (omega arith)) (unmade v w i (omega arith))
      (λ p q. omega (arith, (i.writer w).holds p q, lock_phase_lem v.mode)))

  -- read: it has a base, above which nothing is completed
  read_keeps : (b : ℕ) → x.phase ≡ 2 → UnblockedView v w x → Newest v.completed x.group v.last b → b ≤ x.ts
      → Keeps (moved x 3 x.group b) (locks_taken v w x) v.entry v.cell v.stored
  read_keeps b at unblocked newest le =
      let p = (i.writer w).in_progress (omega arith) in
      let ne : b ≢ x.ts = λ q. none_some p.uncompleted (rw q at (newest.hit (omega (arith, p.positive)))) in
      unshared v w i _ _ (omega arith) refl (λ m. m) (others_locks v w i unblocked)
      (record {
        ready = λ q. absurd (omega arith);
        in_progress = λ q. p;
        based = λ q. record { before = omega arith; hit = newest.hit };
        readable = λ q. i.kept _ b newest.hit (λ pos g r e o low. all_below v w i _ b newest r (rw (some_inj e (newest.hit pos)) at o));
        written = λ q. absurd (omega arith);
        in_table = λ q. absurd (omega arith);
        indexed = λ q. absurd (omega arith);
        made = λ m. absurd (unmade v w i (omega arith) m);
        guards = λ q. own_lock_lem v w i unblocked (omega arith);
        holds = λ p q. let (from, is) = only_lock v w i unblocked p q in (omega arith, is);
        checks = λ q. absurd (omega arith);
        latest = λ q r. all_below v w i _ b newest;
      })

  -- write: its slice is stored
  write_keeps : x.phase ≡ 3
      → Keeps (moved x 4 x.group x.base) v.lock v.entry (storing v.cell x)
      (upd v.stored x.ts (rows_stored v.cell x))
  write_keeps at =
      let row = rows_stored v.cell x in
      let based = (i.writer w).based (omega arith) in
      let phase = lock_phase_lem v.mode in
      continued v w i _ v.lock v.entry (storing v.cell x) (upd v.stored x.ts row) (omega arith) refl (λ c m. refl)
      (λ g s ne. stored_other v.cell x g s (λ _. ne)) (upd_other v.stored x.ts row) (λ u ne q. refl) (same_locks v w i) (still v w i _ (λ m. m))
      (record {
        ready = λ q. absurd (omega arith);
        in_progress = λ q. (i.writer w).in_progress (omega arith);
        based = λ q. based;
        readable = λ q. absurd (omega arith);
        written = λ q. rw (upd_same v.stored x.ts row, (i.writer w).readable at, i.rows x.group x.base based.hit);
        in_table = λ q. stored_own v.cell x ∙ sym (upd_same v.stored x.ts row);
        indexed = λ q. absurd (omega arith);
        made = λ m. absurd (unmade v w i (omega arith) m);
        guards = λ q. (i.writer w).guards (omega (arith, phase));
        holds = λ p q. let (from, is) = (i.writer w).holds p q in (omega arith, is);
        checks = λ q. absurd (omega arith);
        latest = λ q r. (i.writer w).latest (omega (arith, phase)) (omega arith);
      })

  -- index: its key has an entry, and `made` says whether the step makes it
  module _ (made : Bool) (at : x.phase ≡ 4) (new : made ≡ true → (x.put ≡ true) × (v.entry x.key ≡ 0))
      (found : made ≡ false → v.entry x.key ≡ x.group + 1) where
    abbrev y : Writer
    y = moved (with_made x made) (after_index v.mode) x.group x.base

    abbrev e : ℕ → ℕ
    e = upd v.entry x.key (x.group + 1)

    -- an entry that is there stays
    entry_kept : (k : ℕ) → v.entry k ≢ 0 → e k ≡ v.entry k
    entry_kept =
        upd_ind v.entry x.key (x.group + 1) (λ k m. v.entry k ≢ 0 → m ≡ v.entry k)
        (λ there. by_test made (λ m. absurd (there (new m).1)) (λ f. sym (found f))) (λ k ne there. refl)

    -- a new one is bound by the writer's put, the others as before
    entry_bound : (k : ℕ) → e k ≢ 0 → Bound v.history (upd v.writer w y) k
    entry_bound =
        let p = (i.writer w).in_progress (omega arith) in
        let older = still v w i y (λ m. absurd (unmade v w i (omega arith) m)) in
        upd_ind v.entry x.key (x.group + 1) (λ k m. m ≢ 0 → Bound v.history (upd v.writer w y) k)
        (λ _.
        by_test made
        (λ m.
        by_pending w p.pending p.is (puts_on_lem p.pending.operation x.value p.key (p.left ∙ rw (new m).0))
        (rw (upd_same v.writer w y) m))
        (λ f. older x.key (λ none. omega (arith, found f))))
        (λ k ne. older k)

    index_keeps : UnblockedView v w x → Keeps y (locks_taken v w x) e v.cell v.stored
    index_keeps unblocked =
        let p = (i.writer w).in_progress (omega arith) in
        let phase = lock_phase_lem v.mode in
        let after = after_index_lem v.mode in
        continued v w i y (locks_taken v w x) e v.cell v.stored (omega arith) refl
        (λ c m. entry_kept _ (λ none. omega (arith, (i.committed c m).indexed))) (λ g s ne. refl) (λ s ne. refl)
        (λ u ne q. entry_kept _ (λ none. omega (arith, (i.writer u).indexed q))) (others_locks v w i unblocked) entry_bound
        (record {
          ready = λ q. absurd (omega arith);
          in_progress = λ q. p;
          based = λ q. (i.writer w).based (omega arith);
          readable = λ q. absurd (omega (arith, after.0));
          written = λ q. (i.writer w).written (omega arith);
          in_table = λ q. (i.writer w).in_table (omega arith);
          indexed = λ q. upd_same v.entry x.key (x.group + 1);
          made =
              λ m.
              record {
                put = (new m).0;
                past = after.0;
                new = λ c is q. omega (arith, (new m).1, ap v.entry q, (i.committed c is).indexed);
              };
          guards = λ q. own_lock_lem v w i unblocked (omega arith);
          holds = λ p q. let (from, is) = only_lock v w i unblocked p q in (omega arith, is);
          checks = after.2;
          latest = λ q r. (i.writer w).latest (omega (arith, after.3 r)) (omega arith);
        })

  -- check: nothing has been completed above its base
  check_keeps : (b : ℕ) → x.phase ≡ 5 → Newest v.completed x.group v.last b → b ≤ x.base
      → Keeps (moved x 6 x.group x.base) v.lock v.entry v.cell v.stored
  check_keeps b at newest le =
      let phase = lock_phase_lem v.mode in
      unshared v w i _ _ (omega arith) refl (λ m. m) (same_locks v w i)
      (record {
        ready = λ q. absurd (omega arith);
        in_progress = λ q. (i.writer w).in_progress (omega arith);
        based = λ q. (i.writer w).based (omega arith);
        readable = λ q. absurd (omega arith);
        written = λ q. (i.writer w).written (omega arith);
        in_table = λ q. (i.writer w).in_table (omega arith);
        indexed = λ q. (i.writer w).indexed (omega arith);
        made = λ m. let h = (i.writer w).made m in record { put = h.put; past = omega arith; new = h.new };
        guards = λ q. (i.writer w).guards (omega arith);
        holds = λ p q. let (from, is) = (i.writer w).holds p q in (omega arith, is);
        checks = λ q. absurd (omega arith);
        latest = λ q r s e. omega (arith, all_below v w i _ b newest s e);
      })

  pub phase_keeps : {y : Writer} {l e : ℕ → ℕ} {c : ℕ → ℕ → ℕ → Option ℕ} {d : ℕ → ℕ → Option ℕ} → NextPhase v w x y l e c d
      → Kept v (after_phase v w y l e c d)
  phase_keeps (looks_up g at) = look_up_keeps g at
  phase_keeps (reads b at unblocked newest le) = read_keeps b at unblocked newest le
  phase_keeps (writes at) = write_keeps at
  phase_keeps (indexes made at unblocked new found) = index_keeps made at new found unblocked
  phase_keeps (checks b at newest le) = check_keeps b at newest le

  -- the rows of what is completed stay: only the writer's own slice is stored
  pub phase_keeps_rows : {y : Writer} {l e : ℕ → ℕ} {c : ℕ → ℕ → ℕ → Option ℕ} {d : ℕ → ℕ → Option ℕ} → NextPhase v w x y l e c d
      → (g s : ℕ) → CompletedIn v g s → c g s ≡ v.cell g s
  phase_keeps_rows (looks_up f at) g s hit = refl
  phase_keeps_rows (reads b at unblocked newest le) g s hit = refl
  phase_keeps_rows (writes at) g s hit =
      let p = (i.writer w).in_progress (omega arith) in
      stored_other v.cell x g s (λ _ q. none_some p.uncompleted (rw q at (hit (omega (arith, p.positive)))))
  phase_keeps_rows (indexes made at unblocked new found) g s hit = refl
  phase_keeps_rows (checks b at newest le) g s hit = refl
