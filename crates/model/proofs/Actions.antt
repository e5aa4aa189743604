-- What holds of the outcome of every action (`act_sound`): it isn't answered 17, refused it changes nothing, a step that is taken takes the lock that it
-- should and no other, an ending frees the writer's locks, 5, 16 and 19 come in one mode each, and what is in range stays in range.
use Prim.Native.Nat.{ℕ, suc, ◌+◌, ◌<◌, ◌≤◌, zero-le}
use native.Mathlib.Nat.{le_refl, le_trans}
use native.Mathlib.Omega.{arith}
use mathlib.Core.Bool.{Bool}
use mathlib.Core.List.{List}
use mathlib.Core.Path.{◌≡◌, refl, ap}
use mathlib.Core.Logic.{◌≢◌}
use lib.ListN.{get_or, set}
use borrow.Author.Tests.{ne_eqb}
use Rattle.model.specs.Limits.{writers, keys, groups, timestamps, last_phase}
use Rattle.model.specs.Answers.{taken, committed, group_changed, aborted, table_locked, out_of_range, group_locked}
use Rattle.model.specs.Modes.{guard, lock_phase}
use Rattle.model.specs.State.{Shared, with_last, with_locks, with_index, with_timeline, with_present, with_values, completed, ready}
use Rattle.model.specs.Rules.{with_instant, key_of, group_of, begun, moved, with_made, locking, Verdict, Outcome, outcome, freed, closed, carried, act}
use Rattle.model.specs.declared.Mode.{Mode}
use Rattle.model.specs.declared.Mode.TheVariants.{Optimistic, Pessimistic}
use Rattle.model.specs.declared.Writer.{Writer}
use Rattle.model.specs.declared.Operation.{Operation}
use Rattle.model.specs.declared.Operation.TheVariants.{Put, Remove}
use Rattle.model.specs.declared.Action.{Action}
use Rattle.common.proofs.Cases.{cond_iff, set_ind}
use Rattle.model.proofs.CompletedInstants.{newest_of_lem}
use Rattle.model.proofs.Modes.{lock_phase_lem, after_index_lem}
use Rattle.model.proofs.Locks.{freed_at}
use Rattle.model.proofs.Outcomes.{Blocked, Ruling, is_refused, is_ended, rules}
use Rattle.model.proofs.Outcomes.{has_started, has_found, has_proposed, has_read, has_written, has_entered, has_checked, has_committed}
use Rattle.model.proofs.Ranged.{WriterRanged, InstantRanged, SharedRanged}

ready_ranged : (last : ℕ) → WriterRanged last ready
ready_ranged last = omega arith

begun_ranged : (op : Operation) (n : ℕ) → (0 < n) × (key_of op < keys) × (group_of op < groups) → WriterRanged n (begun op n)
begun_ranged (Put k v g) n h = omega arith
begun_ranged (Remove k) n h = omega arith

-- a setter keeps what is in range, if the new field is
module _ {s : Shared} (f : SharedRanged s) where
  with_locks_lem : {l : List ℕ} → ((p : ℕ) → get_or l p 0 ≤ writers) → SharedRanged (with_locks s l)
  with_locks_lem h = search

  -- every lock in range, after a step of writer w that may take one, and after its end
  locked : (mode : Mode) (x : Writer) (w : ℕ) → w < writers → (p : ℕ) → get_or (locking mode x (w + 1) s.locks) p 0 ≤ writers
  locked mode x w there =
      simp (cond_iff (λ (l : List ℕ). (p : ℕ) → get_or l p 0 ≤ writers))
      (λ _. set_ind (λ p l. l ≤ writers) s.locks (guard mode x.group) (w + 1) 0 (omega arith) f.lock, λ _. f.lock)

  unlocked : (w p : ℕ) → get_or (freed w s.locks) p 0 ≤ writers
  unlocked w p = rw (freed_at w s.locks p) (simp (cond_iff (λ l. l ≤ writers)) (λ _. zero-le, λ _. f.lock p))

  with_index_lem : {i : List ℕ} → ((k : ℕ) → get_or i k 0 ≤ groups) → SharedRanged (with_index s i)
  with_index_lem h = search

  -- every entry in range, after one of them is set
  entered : (k e : ℕ) → e ≤ groups → (j : ℕ) → get_or (set s.index k e) j 0 ≤ groups
  entered k e h = set_ind (λ j v. v ≤ groups) s.index k e 0 h f.entry

  with_rows : {p : List Bool} {v : List ℕ} → SharedRanged (with_values (with_present s p) v)
  with_rows = search

  -- the last timestamp and the timeline
  with_times : {m : ℕ} {t : List ℕ} → m ≤ timestamps → ((i : ℕ) → InstantRanged m i (get_or t i 0))
      → SharedRanged (with_timeline (with_last s m) t)
  with_times h g = search

  -- an instant at a place i below the last timestamp, which may have grown to m
  with_instant_lem : {m i y : ℕ} → (s.last ≤ m) × (m ≤ timestamps) × (i < m) × (y < completed groups)
      → SharedRanged (with_timeline (with_last s m) (set s.timeline i y))
  with_instant_lem {m} {i} {y} (g, t, l, c) =
      with_times t
      (set_ind (InstantRanged m) s.timeline i y 0 (record { coded = c; above = λ a. absurd (omega arith) })
      (λ j. record { coded = (f.instant j).coded; above = λ a. (f.instant j).above (le_trans g a) }))

-- after an action all is in range, and no timestamp is taken back
pub record OutcomeRanged (last : ℕ) (o : Outcome) : Type 0 where
  pub shared : SharedRanged o.shared
  pub writer : WriterRanged o.shared.last o.writer
  pub grows : last ≤ o.shared.last

module _ (mode : Mode) (x : Writer) (w : ℕ) (s : Shared) where
  pub record Sound (o : Outcome) : Type 0 where
    pub answer : o.answer ≢ out_of_range
    pub refused : aborted < o.answer → o ≡ outcome o.answer x s
    pub changed : o.answer ≡ group_changed → mode ≡ Optimistic
    pub table : o.answer ≡ table_locked → Blocked mode Optimistic x w s
    pub group : o.answer ≡ group_locked → Blocked mode Pessimistic x w s
    pub takes : o.answer ≡ taken → o.shared.locks ≡ locking mode x (w + 1) s.locks
    pub frees : committed ≤ o.answer → o.answer ≤ aborted → o.shared.locks ≡ freed w s.locks
    pub kept : w < writers → SharedRanged s → WriterRanged s.last x → OutcomeRanged s.last o

  -- answered 0
  accepts : {o : Outcome} → o.answer ≡ taken → o.shared.locks ≡ locking mode x (w + 1) s.locks
      → (w < writers → SharedRanged s → WriterRanged s.last x → OutcomeRanged s.last o) → Sound o
  accepts h l k =
      record {
        answer = omega arith;
        refused = λ a. absurd (omega arith);
        changed = λ e. absurd (omega arith);
        table = λ e. absurd (omega arith);
        group = λ e. absurd (omega arith);
        takes = λ _. l;
        frees = λ a. absurd (omega arith);
        kept = k;
      }

  -- a step at another phase than that whose step takes a lock leaves the locks
  untaken : x.phase ≢ lock_phase mode → s.locks ≡ locking mode x (w + 1) s.locks
  untaken ne = rw (ne_eqb x.phase (lock_phase mode) ne)

  -- the writer is ready again, each lock free that it held, and the entry that it made taken out, unless it has committed
  closes : {n : ℕ} {t : Shared} → (committed ≤ n) × (n ≤ aborted) → (n ≡ group_changed → mode ≡ Optimistic) → t.last ≡ s.last → t.locks ≡ s.locks
      → (SharedRanged s → WriterRanged s.last x → SharedRanged t) → Sound (closed n x w t)
  closes h c e l k =
      record {
        answer = omega arith;
        refused = λ a. absurd (omega arith);
        changed = c;
        table = λ q. absurd (omega arith);
        group = λ q. absurd (omega arith);
        takes = λ q. absurd (omega arith);
        frees = λ _ _. ap (freed w) l;
        kept =
            λ _ f g.
            record {
              shared =
                  with_locks_lem
                  (with_index_lem (k f g)
                  (simp (cond_iff (λ (i : List ℕ). (j : ℕ) → get_or i j 0 ≤ groups)) (λ _. entered (k f g) _ _ zero-le, λ _. (k f g).entry)))
                  (unlocked (k f g) w);
              writer = ready_ranged _;
              grows = omega arith;
            };
      }

  -- the writer goes on to phase p, with file group h and base b, having made its entry or not
  moves : {n p h b : ℕ} {m : Bool} {t : Shared} → t.last ≡ s.last → t.locks ≡ locking mode x (w + 1) s.locks → x.phase ≡ suc n → p ≤ last_phase
      → (w < writers → SharedRanged s → WriterRanged s.last x → (h < groups) × (b ≤ s.last) × SharedRanged t)
      → Sound (outcome taken (moved (with_made x m) p h b) t)
  moves e l at i k =
      accepts refl l
      (λ v f g.
      record {
        shared = (k v f g).2;
        writer =
            rw e (record { key = g.key; group = (k v f g).0; phase = i; ts = g.ts; base = (k v f g).1; issued = λ _. g.issued (omega arith) });
        grows = omega arith;
      })

  -- as they were
  same : w < writers → SharedRanged s → WriterRanged s.last x → (x.group < groups) × (x.base ≤ s.last) × SharedRanged s
  same _ f g = (g.group, g.base, f)

  -- the instant of the writer's timestamp changed
  own_instant : {n y : ℕ} → x.phase ≡ suc n → SharedRanged s → WriterRanged s.last x → y < completed groups
      → SharedRanged (with_instant s x.ts y)
  own_instant e f g c = with_instant_lem f (omega (arith, g.issued (omega arith)))

  ruling_sound : {a : Action} {v : Verdict} → Ruling mode x w s a v → Sound (carried x w s v)
  ruling_sound (is_refused a n h) =
      record {
        answer = h.ranged;
        refused = λ _. refl;
        changed = λ e. absurd (omega (arith, h.above));
        table = h.table;
        group = h.group;
        takes = λ e. absurd (omega (arith, h.above));
        frees = λ _ e. absurd (omega (arith, h.above));
        kept = λ l f g. record { shared = f; writer = g; grows = le_refl s.last };
      }
  ruling_sound (is_ended a n h) = closes (omega (arith, h.above, h.up_to)) h.changed refl refl (λ f _. f)
  ruling_sound (has_started op k g unerased p l) =
      accepts refl (untaken (omega (arith, lock_phase_lem mode)))
      (λ _ f _. record { shared = with_instant_lem f (omega arith); writer = begun_ranged op (s.last + 1) (omega arith); grows = omega arith })
  ruling_sound (has_found p i) =
      moves refl (untaken (omega (arith, lock_phase_lem mode))) p (omega arith) (λ _ f g. (omega (arith, f.entry x.key), g.base, f))
  ruling_sound (has_proposed p put) = moves refl (untaken (omega (arith, lock_phase_lem mode))) p (omega arith) same
  ruling_sound (has_read p free le) =
      moves refl refl p (omega arith)
      (λ v f g. (
        g.group,
        (newest_of_lem s.timeline x.group s.last).below,
        with_locks_lem (own_instant p f g (omega arith)) (locked f mode x w v),
      ))
  ruling_sound (has_written p) =
      moves refl (untaken (omega (arith, lock_phase_lem mode))) p (omega arith) (λ _ f g. (g.group, g.base, with_rows f))
  ruling_sound (has_entered made p e) =
      moves refl refl p (after_index_lem mode).1
      (λ v f g. (g.group, g.base, with_locks_lem (with_index_lem f (entered f _ _ (omega (arith, g.group)))) (locked f mode x w v)))
  ruling_sound (has_checked p le) = moves refl (untaken (omega (arith, lock_phase_lem mode))) p (omega arith) same
  ruling_sound (has_committed i p done) = closes (omega arith) (λ e. absurd (omega arith)) refl refl (λ f g. own_instant p f g (omega arith))

  pub act_sound : (a : Action) → Sound (act mode x w s a)
  unfolding act
  act_sound a = ruling_sound (rules mode x w s a)
