-- Laws of a clean, on any table.
--     clean_rules       its outcomes, each with what its tests have shown
--     refused_clean     a refused clean changes nothing
--     clean_in_range    a clean leaves a state in range in range, and is not answered 17 there
--     clean_lengths     it keeps the lengths of the lists
--     clean_rises       it does not lower the horizon
--     clean_leaves      it changes nothing but the horizon and the presence of rows
--     kept_slice        a slice that it does not drop is as it was
--     dropped_slice     of one that it drops no row is left
--     clean_twice       the same clean once more changes nothing more
-- What it drops, in terms of the completed instants:
--     not_dropped       a slice that is not completed, the newest of its file group at or below c, and a newer one stay
--     base_kept         and so does the base of a writer at phase 3
use Prim.Native.Nat.{ℕ, zero, suc, ◌≤◌, ◌<◌}
use mathlib.Core.Path.{◌≡◌, refl, sym, ap, ◌∙◌, fun_ext}
use mathlib.Core.Logic.{◌≢◌, by_cases}
use mathlib.Core.List.{List}
use mathlib.Core.Bool.{Bool, true, false, and-false, true≢false, false≢true}
use mathlib.Core.Option.{none}
use native.Mathlib.Decide.{dec_lt}
use native.Mathlib.Omega.{arith}
use lib.ListN.{length, get_or, get_or-eq_default}
use lib.Dec.{ltb}
use borrow.Author.Tests.{eq-eqb, le-ltb}
use Rattle.model.specs.Limits.{writers, keys, groups, timestamps, rows}
use Rattle.model.specs.Answers.{taken, out_of_range, base_needed, no_horizon}
use Rattle.model.specs.State.{Shared, State, ready, completed, group_of_completed, newest, cell, with_present}
use Rattle.model.specs.Range.{in_range}
use Rattle.model.specs.Rules.{Answered, answered}
use Rattle.model.specs.Snapshot.{instant_of}
use Rattle.model.specs.Cleaning.{drops, cleaned, bases_kept, clean}
use Rattle.model.specs.declared.Writer.{Writer}
use Rattle.common.proofs.EachBelow.{below_iff}
use Rattle.common.proofs.Cases.{cond_iff, facts, or_false_iff}
use Rattle.model.proofs.CompletedInstants.{group_completed, completed_at, completed_group, newest_of_lem}
use Rattle.model.proofs.Ranged.{ranged, in_range_lem}
use Rattle.model.proofs.Slices.{cell_same}
use Rattle.model.proofs.Sweeping.{dropped_below, swept_length, swept_other, swept_own, swept_again}
use Rattle.model.proofs.Lengths.{StateLengths}
use Rattle.model.proofs.Moves.{KeptAt}

-- a clean is refused with a number, 17 only on a state out of range; or it is taken
pub data Cleans (st : State) (c : ℕ) : Answered → Type 0 where
  is_refused : (n : ℕ) → n ≢ taken → (n ≡ out_of_range → in_range st ≡ false) → Cleans st c (answered n st)
  is_taken : in_range st ≡ true → st.horizon ≤ c → c ≤ st.shared.last → bases_kept st.shared.timeline c st.writers ≡ true
      → Cleans st c (answered taken (cleaned st c))

pub clean_rules : (st : State) (c : ℕ) → Cleans st c (clean st c)
unfolding clean
clean_rules st c =
    simp (cond_iff (Cleans st c), facts, or_false_iff) (
      λ e. is_refused out_of_range (omega arith) (λ _. e),
      λ fine. (
        λ _. is_refused no_horizon (omega arith) (λ q. absurd (omega arith)),
        λ (low, high). (λ _. is_refused base_needed (omega arith) (λ q. absurd (omega arith)), λ kept. is_taken fine (omega arith) (omega arith) kept),
      ),
    )

pub refused_clean : (st : State) (c : ℕ) → (clean st c).answer ≢ taken → (clean st c).state ≡ st
refused_clean st c = go (clean_rules st c)
  where
    go : {a : Answered} → Cleans st c a → a.answer ≢ taken → a.state ≡ st
    go (is_refused n p q) ne = refl
    go (is_taken fine low high kept) ne = absurd (ne refl)

-- a clean at c keeps file group g's slice of timestamp s: it is not completed, or it is not below the newest one at or below c
abbrev pub KeptSlice : List ℕ → ℕ → ℕ → ℕ → Type 0
KeptSlice timeline c g s = instant_of timeline s ≡ completed g → newest timeline g c ≤ s

-- a state in range, and a timestamp c that is issued
module _ (st : State) (c : ℕ) (fine : in_range st ≡ true) (high : c ≤ st.shared.last) where
  abbrev sh : Shared
  sh = st.shared

  coded : (i : ℕ) → i < timestamps → get_or sh.timeline i 0 < completed groups
  coded i lt = ((ranged st fine).shared.instant i).coded

  issued : c ≤ timestamps
  issued = omega (arith, (ranged st fine).shared.last)

  -- what a clean leaves of a slice, as document 02 has it
  pub kept_slice : (g s : ℕ) → KeptSlice sh.timeline c g s
      → cell (cleaned st c).shared.present sh.values g s ≡ cell sh.present sh.values g s
  kept_slice g s stays =
      fun_ext
      (λ k.
      cell_same sh.present sh.values (cleaned st c).shared.present sh.values g s s k
      (λ small.
      swept_other sh.timeline c coded sh.present c g s k issued small
      (λ e same. let (done, late) = dropped_below sh.timeline c s e in omega (arith, stays (omega arith), rw same at late)))
      (λ _. refl))

  pub dropped_slice : length sh.present ≡ rows → (g s : ℕ) → instant_of sh.timeline s ≡ completed g → s < newest sh.timeline g c
      → (k : ℕ) → cell (cleaned st c).shared.present sh.values g s k ≡ none
  unfolding cell drops
  dropped_slice size g zero is late k = absurd (omega arith)
  dropped_slice size g (suc s) is late k =
      let group : group_of_completed (instant_of sh.timeline (suc s)) ≡ g = omega arith in
      let drop : drops sh.timeline c (suc s) ≡ true = simp facts (omega arith, rw group late) in
      let low = (newest_of_lem sh.timeline g c).below in
      by_cases (dec_lt k keys)
      (λ small.
      rw (
        rw group at (swept_own sh.timeline c coded sh.present size c s k issued (omega arith) small drop),
        and-false (ltb k keys),
        and-false (ltb g groups),
      ))
      (λ far. rw (le-ltb k keys (omega arith), and-false (ltb g groups)))

  cleaned_in_range : in_range (cleaned st c) ≡ true
  cleaned_in_range =
      let r = ranged st fine in
      in_range_lem (cleaned st c)
      (record {
        horizon = high;
        shared = record { last = r.shared.last; lock = r.shared.lock; entry = r.shared.entry; instant = r.shared.instant };
        writer = r.writer;
        notes = r.notes;
      })

pub clean_in_range : (st : State) (c : ℕ) → in_range st ≡ true → (in_range (clean st c).state ≡ true) × ((clean st c).answer ≢ out_of_range)
clean_in_range st c fine = go (clean_rules st c)
  where
    go : {a : Answered} → Cleans st c a → (in_range a.state ≡ true) × (a.answer ≢ out_of_range)
    go (is_refused n p q) = (fine, λ e. true≢false (sym fine ∙ q e))
    go (is_taken _ low high kept) = (cleaned_in_range st c fine high, omega arith)

pub clean_lengths : (st : State) (c : ℕ) → StateLengths st → StateLengths (clean st c).state
clean_lengths st c h = go (clean_rules st c)
  where
    go : {a : Answered} → Cleans st c a → StateLengths a.state
    go (is_refused n p q) = h
    go (is_taken fine low high kept) =
        let l = h.shared in
        record {
          writers = h.writers;
          shared =
              record {
                locks = l.locks;
                index = l.index;
                timeline = l.timeline;
                present = swept_length _ c (coded st c fine high) st.shared.present c ∙ l.present;
                values = l.values;
              };
          notes = h.notes;
        }

pub clean_rises : (st : State) (c : ℕ) → st.horizon ≤ (clean st c).state.horizon
clean_rises st c = go (clean_rules st c)
  where
    go : {a : Answered} → Cleans st c a → st.horizon ≤ a.state.horizon
    go (is_refused n p q) = omega arith
    go (is_taken fine low high kept) = low

-- a state with the horizon and the presence of rows of another
abbrev pub with_cleaned : State → State → State
with_cleaned st n =
    record {
      mode = st.mode;
      horizon = n.horizon;
      shared = with_present st.shared n.shared.present;
      writers = st.writers;
      notes = st.notes;
    }

pub clean_leaves : (st : State) (c : ℕ) → (clean st c).state ≡ with_cleaned st (clean st c).state
clean_leaves st c = go (clean_rules st c)
  where
    go : {a : Answered} → Cleans st c a → a.state ≡ with_cleaned st a.state
    go (is_refused n p q) = refl
    go (is_taken fine low high kept) = refl

pub clean_twice : (st : State) (c : ℕ) → StateLengths st → (clean (clean st c).state c).state ≡ (clean st c).state
unfolding clean
clean_twice st c h = go (clean_rules st c) refl
  where
    go : {a : Answered} → Cleans st c a → clean st c ≡ a → (clean a.state c).state ≡ a.state
    go (is_refused n p q) e = ap (λ (a : Answered). a.state) e
    go (is_taken fine low high kept) e =
        rw (cleaned_in_range st c fine high, le-ltb c c (omega arith), le-ltb st.shared.last c high, kept)
        (ap (λ (ps : List Bool). record { mode = st.mode; horizon = c; shared = with_present st.shared ps; writers = st.writers; notes = st.notes })
        (swept_again st.shared.timeline c (coded st c fine high) st.shared.present h.shared.present c c (omega arith) (issued st c fine high)))

-- by the completed instants: what `KeptAt` says of a timestamp
pub not_dropped : (timeline : List ℕ) (c g s : ℕ) → KeptAt (completed_at timeline) c s → KeptSlice timeline c g s
not_dropped timeline c g zero kept is = absurd (omega arith)
not_dropped timeline c g (suc s) kept is =
    let h = newest_of_lem timeline g c in
    by_cases (dec_lt 0 (newest timeline g c)) (λ pos. kept (omega arith) g _ (ap group_completed is ∙ completed_group g) (h.hit pos) h.below)
    (λ z. omega arith)

-- and so does the base of a writer at phase 3
pub base_kept : (timeline : List ℕ) (c : ℕ) (xs : List Writer) → length xs ≡ writers → bases_kept timeline c xs ≡ true
    → (w : ℕ) → (get_or xs w ready).phase ≡ 3 → (g : ℕ) → KeptSlice timeline c g (get_or xs w ready).base
unfolding bases_kept drops
base_kept timeline c xs size kept w at g is =
    by_cases (dec_lt w writers)
    (λ there.
    let x = get_or xs w ready in
    let group : group_of_completed (instant_of timeline x.base) ≡ g = omega arith in
    by_cases (dec_lt x.base (newest timeline g c))
    (λ late.
    let drop : drops timeline c x.base ≡ true = simp facts (omega arith, rw group late) in
    absurd (false≢true (rw (eq-eqb x.phase 3 at, drop) at ((simp below_iff at kept) w there))))
    (λ low. omega arith))
    (λ far.
    let gone : get_or xs w ready ≡ ready = get_or-eq_default xs ready (rw size (omega arith)) in
    absurd (omega (arith, ap (λ (x : Writer). x.phase) gone)))
