-- What follows, after any list of events from a fresh table of either mode; what follows for locks is in Exclusion.antt.
--     in_progress_lem    an operation is in progress exactly if its writer is off phase 0, and under the writer's timestamp
--     point_read_listed  a point read at or above the horizon gives the key's row of the history's listing, or absent
--     one_slot           committed slices of different file groups have no row of one key
--     settled_scan       a scan of a settled timestamp gives the same whatever events follow, until a clean passes it
--     bound              an indexed key has a committed put, or a put in progress that made the entry: no operation that ended binds a key
--     never_put          so a key that no put in progress or committed is on has no index entry
--     committed_key      a committed operation's key is one of the table's, so that the history's listing, which goes through these, leaves no key out
--     instant_completed  the instant of a committed operation is completed in its file group, the slice dropped or not
--     slice_stays        what its write step stored stays the same, whatever events follow
--     slice_in_table     the table has what a committed operation's write step stored at the operation's file group and timestamp, if the slice is the
--                        newest of its group at or below the horizon, or above that
-- Of the horizon:
--     horizon_stays      no step changes it
--     horizon_rises      no list of events makes it fall
--     steps_horizon      with no clean it is 0, so that demand 3 is about every timestamp
use Prim.Native.Nat.{ℕ, ◌*◌, ◌≤◌, ◌<◌}
use mathlib.Core.Path.{◌≡◌, refl, sym, ap, ◌∙◌}
use mathlib.Core.Logic.{◌≢◌}
use mathlib.Core.List.{List, ◌++◌, Memᴰ}
use mathlib.Core.Bool.{true, false≢true, cond}
use mathlib.Core.Option.{Option, none, some, map}
use native.Mathlib.Omega.{arith}
use lib.Dec.{eqb, leb}
use lib.ListN.{length, get_or-eq_default}
use borrow.Author.Tests.{leb-true, leb-false, eqb-true, eqb-false, lt-leb, le-ltb}
use Rattle.std.specs.Prelude.{Ok}
use Rattle.model.specs.Limits.{keys}
use Rattle.model.specs.State.{State, cell, newest, fresh}
use Rattle.model.specs.Rules.{key_of, entry_of, Answered, writer_of, step_tested, step}
use Rattle.model.specs.Snapshot.{scan, first_of, point_read, instant_at}
use Rattle.model.specs.History.{Pending, Committed, newest_on, row_of_newest, listing}
use Rattle.model.specs.Isolation.{Event, takes_step, cleans_at, events_of, Execution, next, beginning, after}
use Rattle.model.specs.Isolation.{horizon_after, committed_slice}
use Rattle.model.specs.Binding.{puts_on, Bound, by_committed, by_pending}
use Rattle.model.specs.declared.InstantState.TheVariants.{Completed}
use Rattle.model.specs.declared.Mode.{Mode}
use Rattle.model.specs.declared.Operation.{Operation}
use Rattle.model.specs.declared.Operation.TheVariants.{Put, Remove}
use Rattle.model.specs.declared.Writer.{Writer}
use Rattle.model.specs.declared.Step.{Step}
use Rattle.common.proofs.Cases.{cond_iff, by_test, facts as tests}
use Rattle.common.proofs.Functions.{some_inj}
use Rattle.model.proofs.CompletedInstants.{newest_of_lem, group_completed_lem, completed_given}
use Rattle.model.proofs.Executed.{executed_keeps, steps_keep, executed_append}
use Rattle.model.proofs.Cleaning.{clean_rises}
use Rattle.model.proofs.Moves.{View, Change}
use Rattle.model.proofs.Invariant.{Invariant}
use Rattle.model.proofs.InvariantKept.{change_keeps}
use Rattle.model.proofs.StepMoves.{view_of, Consistent}
use Rattle.model.proofs.EventChanges.{event_changes, event_consistent}
use Rattle.model.proofs.Listing.{rows_of_lem}
use Rattle.model.proofs.Isolation.{reached, isolated}

-- the timestamp of the operation that a writer has in progress
abbrev pub timestamp_of : Writer → Option ℕ
timestamp_of x = cond (eqb x.phase 0) none (some x.ts)

pub in_progress_lem : (mode : Mode) (es : List Event) (w : ℕ)
    → map (λ (p : Pending). p.ts) ((after mode es).history.pending w) ≡ timestamp_of (writer_of (after mode es).state w)
in_progress_lem mode es w =
    let u = after mode es in
    let facts = (reached mode es).invariant.writer w in
    simp (cond_iff (λ o. map (λ (p : Pending). p.ts) (u.history.pending w) ≡ o), tests) (
      λ e. rw (facts.ready e),
      λ ne. let h = facts.in_progress (omega arith) in rw h.is (ap {B = Option ℕ} some h.ts),
    )

pub point_read_listed : (mode : Mode) (es : List Event) (t k : ℕ) → horizon_after mode es ≤ t → k < keys
    → point_read (after mode es).state t k ≡ Ok (first_of (row_of_newest (newest_on (after mode es).history.done k t)))
unfolding point_read
point_read_listed mode es t k past small =
    rw ((reached mode es).ranged, le-ltb _ _ past, lt-leb keys k small, rows_of_lem (after mode es) (reached mode es) t past k small)

pub one_slot : (mode : Mode) (es : List Event) (c d : Committed) → Memᴰ c (after mode es).history.done → Memᴰ d (after mode es).history.done
    → c.group ≢ d.group → (k u v : ℕ) → committed_slice (after mode es) c k ≡ some u → committed_slice (after mode es) d k ≢ some v
one_slot mode es c d m n apart k u v p q = apart ((isolated mode es).one_group c d m n k u v p q)

pub bound : (mode : Mode) (es : List Event) (k : ℕ) → entry_of (after mode es).state.shared k ≢ 0
    → Bound (after mode es).history (writer_of (after mode es).state) k
bound mode es = (reached mode es).invariant.bound

-- a put on a key, as one
puts_on_lem : (k : ℕ) (op : Operation) → puts_on k op ≡ true → ((v g : ℕ) → op ≢ Put k v g) → ⊥
puts_on_lem k (Put j v g) e other = other v g (ap (λ (k : ℕ). Put k v g) (eqb-true j k e))
puts_on_lem k (Remove j) e other = false≢true e

pub never_put : (mode : Mode) (es : List Event) (k : ℕ)
    → ((c : Committed) → Memᴰ c (after mode es).history.done → (v g : ℕ) → c.operation ≢ Put k v g)
    → ((w : ℕ) (p : Pending) → (after mode es).history.pending w ≡ some p → (v g : ℕ) → p.operation ≢ Put k v g)
    → entry_of (after mode es).state.shared k ≡ 0
never_put mode es k committed pending =
    let entry = entry_of (after mode es).state.shared k in
    by_test (eqb entry 0) (eqb-true entry 0) (λ e. absurd (none_binds ((reached mode es).invariant.bound k (eqb-false entry 0 e))))
  where
    none_binds : Bound (after mode es).history (writer_of (after mode es).state) k → ⊥
    none_binds (by_committed c m puts) = puts_on_lem k c.operation puts (committed c m)
    none_binds (by_pending w p is puts made) = puts_on_lem k p.operation puts (pending w p is)

pub committed_key : (mode : Mode) (es : List Event) (c : Committed) → Memᴰ c (after mode es).history.done → key_of c.operation < keys
committed_key mode es c m =
    let h = reached mode es in
    let k = key_of c.operation in
    by_test (leb keys k)
    (λ past.
    let outside = get_or-eq_default (after mode es).state.shared.index 0 {n = k} (omega (arith, leb-true keys k past, h.lengths.shared.index)) in
    omega (arith, outside, (h.invariant.committed c m).indexed)) (leb-false keys k)

pub instant_completed : (mode : Mode) (es : List Event) (c : Committed) → Memᴰ c (after mode es).history.done
    → instant_at (after mode es).state c.ts ≡ Ok (Completed c.group)
instant_completed mode es c m =
    let h = reached mode es in
    completed_given (after mode es).state c.ts c.group h.ranged (group_completed_lem _ c.group (h.invariant.committed c m).completed)

-- what is completed in n as in v: it stays so, and what its write step stored stays
record SliceKept (g s : ℕ) (v n : View) : Type 0 where
  completed : n.completed s ≡ some g
  stored : n.stored s ≡ v.stored s

change_keeps_slice : (g s : ℕ) (v n m : View) → Invariant n → Change n m → SliceKept g s v n → SliceKept g s v m
change_keeps_slice g s v n m i change h =
    let kept = (change_keeps n m i change).shared in
    record { completed = kept.completed g s h.completed; stored = kept.stored g s (λ _. h.completed) ∙ h.stored }

pub slice_stays : (mode : Mode) (es more : List Event) (c : Committed) → Memᴰ c (after mode es).history.done
    → committed_slice (after mode (es ++ more)) c ≡ committed_slice (after mode es) c
slice_stays mode es more c m =
    let u = after mode es in
    let h = reached mode es in
    let stored =
    executed_keeps (λ n. Consistent n × SliceKept c.group c.ts (view_of u) (view_of n))
    (λ n e (r, s). (event_consistent n e r, change_keeps_slice c.group c.ts (view_of u) _ _ r.invariant (event_changes n e r) s))
    u more (h, record { completed = (h.invariant.committed c m).completed; stored = refl }) in
    rw (executed_append (beginning mode) es more) stored.1.stored

pub slice_in_table : (mode : Mode) (es : List Event) (c : Committed) → Memᴰ c (after mode es).history.done
    → newest (after mode es).state.shared.timeline c.group (horizon_after mode es) ≤ c.ts
    → cell (after mode es).state.shared.present (after mode es).state.shared.values c.group c.ts ≡ committed_slice (after mode es) c
slice_in_table mode es c m above =
    let i = (reached mode es).invariant in
    let done = (i.committed c m).completed in
    let newest = newest_of_lem (after mode es).state.shared.timeline c.group (horizon_after mode es) in
    i.kept c.group c.ts (λ _. done) (λ pos g r e o low. omega (arith, newest.most r low (rw (some_inj e done) at o)))

pub horizon_stays : (st : State) (s : Step) → (step st s).state.horizon ≡ st.horizon
unfolding step step_tested
horizon_stays st s = simp (cond_iff (λ (a : Answered). a.state.horizon ≡ st.horizon)) (λ _. refl, λ _. (λ _. refl, λ _. refl))

pub horizon_rises : (mode : Mode) (es more : List Event) → horizon_after mode es ≤ horizon_after mode (es ++ more)
unfolding next
horizon_rises mode es more =
    rw (horizon_after, executed_append (beginning mode) es more)
    (executed_keeps (λ u. horizon_after mode es ≤ u.state.horizon) rises (after mode es) more (omega arith))
  where
    rises : (u : Execution) (e : Event) → horizon_after mode es ≤ u.state.horizon → horizon_after mode es ≤ (next u e).state.horizon
    rises u (takes_step s) low = omega (arith, horizon_stays u.state s)
    rises u (cleans_at c) low = omega (arith, clean_rises u.state c)

pub steps_horizon : (mode : Mode) (ss : List Step) → horizon_after mode (events_of ss) ≡ 0
unfolding next fresh
steps_horizon mode ss = steps_keep (λ u. u.state.horizon ≡ 0) (λ u s e. horizon_stays u.state s ∙ e) (beginning mode) ss refl

pub settled_scan : (mode : Mode) (es : List Event) (t : ℕ) → 1 ≤ t → t ≤ (after mode es).history.last
    → ((w : ℕ) (p : Pending) → (after mode es).history.pending w ≡ some p → t < p.ts)
    → (more : List Event) (buffer : List ℕ) → horizon_after mode (es ++ more) ≤ t → 3 * length (listing (after mode es).history t) ≤ length buffer
    → scan (after mode (es ++ more)).state t buffer ≡ scan (after mode es).state t buffer
settled_scan mode es t positive issued settled more buffer past room =
    let h = isolated mode es in
    h.stays t positive issued settled more buffer past room ∙ sym (h.lists t buffer (omega (arith, horizon_rises mode es more)) room)
