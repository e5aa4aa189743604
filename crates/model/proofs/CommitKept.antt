-- A commit keeps the invariant: `commit_keeps`. It is the newest of its file group, since nothing of the group is completed above its base.
use Prim.Native.Nat.{ℕ, zero, suc, ◌≤◌, ◌<◌}
use mathlib.Core.Path.{◌≡◌, refl, sym, subst, ap, ◌∙◌}
use mathlib.Core.Logic.{◌≢◌}
use mathlib.Core.List.{◌∷◌, Memᴰ}
use mathlib.Core.Option.{none, some}
use native.Mathlib.Omega.{arith}
use Rattle.model.specs.Modes.{lock_phase}
use Rattle.model.specs.State.{ready}
use Rattle.model.specs.Rules.{key_of}
use Rattle.model.specs.History.{Pending, Committed, commit_recorded}
use Rattle.model.specs.Binding.{by_committed}
use Rattle.model.specs.declared.Writer.{Writer}
use Rattle.common.proofs.Functions.{none_some, some_inj, upd_same, upd_other, upd_ind}
use Rattle.model.proofs.Modes.{lock_phase_lem}
use Rattle.model.proofs.Locks.{released_other, released_own}
use Rattle.model.proofs.NewestCommitted.{left, left_skip, left_last}
use Rattle.model.proofs.Moves.{View, leaves, after_commit, KeptAt}
use Rattle.model.proofs.Invariant.{InProgress, Based, Made, CommittedFacts, CompletedIn, Invariant, one_guarded, one_past, pending_key}
use Rattle.model.proofs.Kept.{SharedKept, Moved, Kept, committed_kept, rows_kept, slice_kept, writer_facts, timestamps_unique}
use Rattle.model.proofs.OwnFacts.{ready_facts}
use Rattle.model.proofs.Binding.{still_bound}

module _ (v : View) (w : ℕ) (i : Invariant v) where
  module _ (p : Pending) (at : (v.writer w).phase ≡ 6) (is : v.history.pending w ≡ some p) where
    abbrev x : Writer
    x = v.writer w

    abbrev n : View
    n = after_commit v w p

    in_progress : InProgress (some p) v.last (v.completed x.ts) x.key (leaves x) x.ts
    in_progress = rw is at ((i.writer w).in_progress (omega arith))

    same : in_progress.pending ≡ p
    same = some_inj in_progress.is refl

    at_ts : p.ts ≡ x.ts
    at_ts = ap (λ (q : Pending). q.ts) (sym same) ∙ in_progress.ts

    at_key : key_of p.operation ≡ x.key
    at_key = pending_key v i w p (omega arith) is

    based : Based v.completed x.group x.base x.ts
    based = (i.writer w).based (omega arith)

    guarded : lock_phase v.mode < x.phase
    guarded = omega (arith, lock_phase_lem v.mode)

    -- what is completed in its file group is at or below its base
    latest : (s : ℕ) → CompletedIn v x.group s → s ≤ x.base
    latest zero hit = omega arith
    latest (suc s) hit = (i.writer w).latest guarded (omega arith) (suc s) (hit (omega arith))

    -- what is committed
    abbrev c : Committed
    c = record { operation = p.operation; ts = p.ts; group = x.group }

    commit_shared : SharedKept v n
    unfolding commit_recorded
    commit_shared =
        record {
          mode = refl;
          last = omega arith;
          completed = λ g s e. upd_other v.completed x.ts (some x.group) s (λ q. none_some in_progress.uncompleted (rw q at e)) ∙ e;
          entry = λ c m. refl;
          stored = λ g s hit. refl;
          left = λ g s hit. left_skip c v.history.done g s (λ q. omega (arith, latest s (rw (← q) at hit), based.before, at_ts));
        }

    -- the rows of its slice
    new_rows : v.stored x.ts ≡ left (c ∷ v.history.done) x.group x.ts
    new_rows =
        (i.writer w).written (omega arith)
        ∙ sym
        (rw (← at_ts)
        (left_last c v.history.done x.base (omega (arith, based.before, at_ts))
        (λ d m q. latest d.ts (λ _. (i.committed d m).completed ∙ ap some q))
        ∙ rw (← same, in_progress.key, in_progress.left)))

    -- what is committed now
    new_committed : (d : Committed) → Memᴰ d (c ∷ v.history.done) → CommittedFacts n d
    new_committed d (Memᴰ.head e) =
        rw e
        (record {
          completed = rw at_ts (upd_same v.completed x.ts (some x.group));
          indexed = rw at_key ((i.writer w).indexed (omega arith));
        })
    new_committed d (Memᴰ.tail m) = committed_kept v n commit_shared d m (i.committed d m)

    -- what another writer found of its key holds still: the two are not on one key
    still_made : (u : ℕ) → u ≢ w → Made v.history.done (v.writer u) → Made n.history.done (v.writer u)
    unfolding commit_recorded
    still_made u ne m = record { put = m.put; past = m.past; new = new }
      where
        new : (d : Committed) → Memᴰ d (c ∷ v.history.done) → key_of d.operation ≢ (v.writer u).key
        new d (Memᴰ.head q) e =
            ne (one_past v i u w m.past (omega arith) (sym e ∙ ap (λ (d : Committed). key_of d.operation) q ∙ at_key))
        new d (Memᴰ.tail q) e = m.new d q e

    -- nothing is completed in another writer's group while it has the lock
    still_latest : (u : ℕ) → u ≢ w → lock_phase v.mode < (v.writer u).phase
        → (s : ℕ) → n.completed s ≡ some (v.writer u).group → v.completed s ≡ some (v.writer u).group
    still_latest u ne past =
        upd_ind v.completed x.ts (some x.group) (λ s o. o ≡ some (v.writer u).group → v.completed s ≡ some (v.writer u).group)
        (λ e. absurd (ne (one_guarded v i u w past guarded (sym (some_inj {o = some x.group} refl e))))) (λ s _ e. e)

    commit_moves : Moved v n w ready
    unfolding commit_recorded
    commit_moves =
        record {
          writer = refl;
          horizon = refl;
          shared = commit_shared;
          cell = λ g s hit. refl;
          others =
              λ u ne.
              record {
                pending = upd_other v.history.pending w none u ne;
                uncompleted = λ q. upd_other v.completed x.ts (some x.group) (v.writer u).ts (λ e. ne (i.unique u w q (omega arith) e));
                base = λ q hit. refl;
                cell = λ q. refl;
                stored = λ q. refl;
                entry = λ q. refl;
                made = still_made u ne;
                guards = λ p. (released_other (v.lock p) w u ne).0;
                holds = λ p. (released_other (v.lock p) w u ne).1;
                latest = still_latest u ne;
              };
          own = ready_facts n w (upd_same v.history.pending w none) (λ p. released_own (v.lock p) w);
          bound =
              λ k there.
              still_bound v n.history w ready (upd_other v.history.pending w none) (λ d m. Memᴰ.tail m)
              (λ q same puts _. by_committed c (Memᴰ.head refl) (rw (some_inj is same) puts)) (i.bound k there);
          unique = λ u ne q r. absurd (omega arith);
        }

    -- a slice completed by now is its own, or was completed before
    now_completed : {P : ℕ → ℕ → Type 0} → P x.group x.ts → ((g s : ℕ) → CompletedIn v g s → P g s) → (g s : ℕ) → CompletedIn n g s → P g s
    now_completed {P} own old g s =
        upd_ind v.completed x.ts (some x.group) (λ s o. (0 < s → o ≡ some g) → P g s)
        (λ hit. subst (λ (h : ℕ). P h x.ts) (some_inj {o = some x.group} refl (hit in_progress.positive)) own) (λ s _. old g s) s

    pub commit_keeps : Kept v n
    unfolding commit_recorded
    commit_keeps =
        record {
          shared = commit_shared;
          invariant =
              record {
                last = i.last;
                above = λ s q. upd_other v.completed x.ts (some x.group) s (omega (arith, in_progress.issued)) ∙ i.above s q;
                committed = new_committed;
                rows =
                    now_completed {P = λ g s. v.stored s ≡ left (c ∷ v.history.done) g s} new_rows (rows_kept v n commit_shared i);
                kept =
                    now_completed {P = λ g s. KeptAt n.completed v.horizon s → v.cell g s ≡ v.stored s} (λ _. (i.writer w).in_table (omega arith))
                    (slice_kept v n w ready i commit_moves);
                bound = commit_moves.bound;
                writer = writer_facts v n w ready i commit_moves;
                unique = timestamps_unique v n w ready i commit_moves;
              };
        }
