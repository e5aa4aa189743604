-- What a step to the next phase leaves alone.
--     continued           the invariant is kept, if the step changes no slice but the writer's own, no entry of a
--                         committed key or of another writer past the index step, and no other writer's lock; `facts`
--                         are what is left to show of the writer itself
--     unshared            the same, for a step that changes only the writer's record and the locks
--     same_locks, others_locks, own_lock_lem, only_lock    the locks, where none is taken, and where one may be
--     still, all_below, unmade    bound keys, the newest completed timestamp, and entries before the index step
use Prim.Native.Nat.{ℕ, ◌+◌, ◌≤◌, ◌<◌}
use mathlib.Core.Path.{◌≡◌, refl, ◌∙◌}
use mathlib.Core.Logic.{◌≢◌}
use mathlib.Core.Bool.{true}
use mathlib.Core.List.{Memᴰ}
use mathlib.Core.Option.{Option, some}
use native.Mathlib.Omega.{arith}
use borrow.Author.Tests.{eqb-true, eqb-false}
use Rattle.common.specs.Counting.{upd}
use Rattle.model.specs.Modes.{lock_phase}
use Rattle.model.specs.Rules.{key_of, takes_lock}
use Rattle.model.specs.History.{Committed}
use Rattle.model.specs.Binding.{Bound, by_pending}
use Rattle.model.specs.declared.Writer.{Writer}
use Rattle.common.proofs.Functions.{none_some, upd_same}
use Rattle.model.proofs.Locks.{taken_other, taken_own, taken_holds}
use Rattle.model.proofs.Newest.{Newest}
use Rattle.model.proofs.Moves.{View, after_phase, guard_of, UnblockedView, locks_taken}
use Rattle.model.proofs.Invariant.{WriterFacts, CompletedIn, Invariant}
use Rattle.model.proofs.Kept.{Kept, unchanged, uncommitted}
use Rattle.model.proofs.Binding.{still_bound}

module _ (v : View) (w : ℕ) (i : Invariant v) where
  -- the locks l are the other writers' as before
  abbrev pub OthersLocks : (ℕ → ℕ) → Type 0
  OthersLocks l = (u : ℕ) → u ≢ w → (p : ℕ) → (v.lock p ≡ u + 1 → l p ≡ u + 1) × (l p ≡ u + 1 → v.lock p ≡ u + 1)

  pub same_locks : OthersLocks v.lock
  same_locks u ne p = (λ q. q, λ q. q)

  -- writer w goes on as x, with slices changed at its own file group and timestamp at most
  pub continued : (x : Writer) (l e : ℕ → ℕ) (c : ℕ → ℕ → ℕ → Option ℕ) (d : ℕ → ℕ → Option ℕ) → 0 < (v.writer w).phase → x.ts ≡ (v.writer w).ts
      → ((c : Committed) → Memᴰ c v.history.done → e (key_of c.operation) ≡ v.entry (key_of c.operation))
      → ((g s : ℕ) → s ≢ x.ts → c g s ≡ v.cell g s)
      → ((s : ℕ) → s ≢ x.ts → d s ≡ v.stored s)
      → ((u : ℕ) → u ≢ w → 4 < (v.writer u).phase → e (v.writer u).key ≡ v.entry (v.writer u).key)
      → OthersLocks l
      → ((k : ℕ) → e k ≢ 0 → Bound v.history (upd v.writer w x) k)
      → WriterFacts (after_phase v w x l e c d) w x → Kept v (after_phase v w x l e c d)
  continued x l e c d busy ts entry cell stored entries lock bound facts =
      let p = (i.writer w).in_progress busy in
      -- what is completed, and another writer's timestamp, is not its own
      let other : (g s : ℕ) → CompletedIn v g s → s ≢ x.ts
      = λ g s hit q. none_some p.uncompleted (rw (q, ts) at (hit (omega (arith, p.positive)))) in
      let not_own : (u : ℕ) → u ≢ w → 3 < (v.writer u).phase → (v.writer u).ts ≢ x.ts
      = λ u ne q same. ne (i.unique u w (omega arith) busy (same ∙ ts)) in
      uncommitted v (after_phase v w x l e c d) w x i
      (record {
        writer = refl;
        horizon = refl;
        shared = unchanged v _ refl (omega arith) refl refl entry (λ g s hit. stored s (other g s hit));
        cell = λ g s hit. cell g s (other g s hit);
        others =
            λ u ne.
            record {
              pending = refl;
              uncompleted = λ q. refl;
              base = λ q hit. cell _ _ (other _ _ hit);
              cell = λ q. cell _ _ (not_own u ne q);
              stored = λ q. stored _ (not_own u ne q);
              entry = entries u ne;
              made = λ m. m;
              guards = λ p. (lock u ne p).0;
              holds = λ p. (lock u ne p).1;
              latest = λ q s r. r;
            };
        own = facts;
        bound = bound;
        unique = λ u ne q r same. ne (i.unique u w q busy (same ∙ ts));
      })
      i.last refl refl

  -- what binds a key still does, if the writer's entry stays its own
  pub still : (x : Writer) → ((v.writer w).made ≡ true → x.made ≡ true) → (k : ℕ) → v.entry k ≢ 0 → Bound v.history (upd v.writer w x) k
  still x made k there =
      still_bound v v.history w x (λ u ne. refl) (λ c m. m) (λ p is puts m. by_pending w p is puts (rw (upd_same v.writer w x) (made m)))
      (i.bound k there)

  -- only its own record changes, and the locks
  pub unshared : (x : Writer) (l : ℕ → ℕ) → 0 < (v.writer w).phase → x.ts ≡ (v.writer w).ts → ((v.writer w).made ≡ true → x.made ≡ true) → OthersLocks l
      → WriterFacts (after_phase v w x l v.entry v.cell v.stored) w x → Kept v (after_phase v w x l v.entry v.cell v.stored)
  unshared x l busy ts made lock =
      continued x l v.entry v.cell v.stored busy ts (λ c m. refl) (λ g s ne. refl) (λ s ne. refl) (λ u ne q. refl) lock (still x made)

  -- the newest completed timestamp of a group is above all others
  pub all_below : (g b : ℕ) → Newest v.completed g v.last b → (s : ℕ) → v.completed s ≡ some g → s ≤ b
  all_below g b newest s e =
      let issued : ¬ (v.last < s) = λ p. none_some (i.above s p) e in
      newest.most s (omega arith) e

  -- before the index step it has made no entry
  pub unmade : (v.writer w).phase ≤ 4 → (v.writer w).made ≢ true
  unmade early m = omega (arith, ((i.writer w).made m).past)

  -- the step at the writer's phase takes the lock that guards its group, if it is the one that does
  module _ (unblocked : UnblockedView v w (v.writer w)) where
    abbrev x : Writer
    x = v.writer w

    pub others_locks : OthersLocks (locks_taken v w x)
    others_locks = taken_other (takes_lock v.mode x) v.lock (guard_of v x) w unblocked

    pub own_lock_lem : lock_phase v.mode ≤ x.phase → locks_taken v w x (guard_of v x) ≡ w + 1
    own_lock_lem from =
        taken_own (takes_lock v.mode x) v.lock (guard_of v x) w
        (λ e. let ne : x.phase ≢ lock_phase v.mode = eqb-false _ _ e in (i.writer w).guards (omega arith))

    -- it holds no other one
    pub only_lock : (p : ℕ) → locks_taken v w x p ≡ w + 1 → (lock_phase v.mode ≤ x.phase) × (p ≡ guard_of v x)
    only_lock =
        taken_holds (takes_lock v.mode x) v.lock (guard_of v x) w
        (λ e. let at : x.phase ≡ lock_phase v.mode = eqb-true _ _ e in (omega arith, refl))
        (λ p e. let (from, is) = (i.writer w).holds p e in (omega arith, is))
