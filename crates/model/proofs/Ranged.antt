-- The test of answer 17 as facts about numbers.
--     writer_ranged, writer_in_range_lem    a writer passes the test exactly if its numbers are in range
--     ranged, in_range_lem              and so does a state
use Prim.Native.Nat.{ℕ, zero, suc, ◌+◌, ◌-◌, ◌<◌, ◌≤◌, zero-le}
use native.Mathlib.Omega.{arith}
use mathlib.Core.Bool.{true, and-eq-true_iff}
use mathlib.Core.Logic.{◌↔◌}
use mathlib.Core.List.{List, [], ◌∷◌}
use mathlib.Core.Path.{◌≡◌, refl, ap, ◌∙◌}
use lib.ListN.{get_or, drop}
use lib.Seq.{get_or-drop}
use lib.Dec.{leb}
use borrow.Author.Tests.{le-leb}
use Rattle.model.specs.Limits.{writers, keys, groups, timestamps, last_phase}
use Rattle.model.specs.State.{Shared, Notes, State, completed, ready}
use Rattle.model.specs.Range.{writer_in_range, writers_in_range, all_at_most, in_range}
use Rattle.model.specs.declared.Writer.{Writer}
use Rattle.common.proofs.EachBelow.{below_iff}
use Rattle.common.proofs.Cases.{facts}

pub record WriterRanged (last : ℕ) (x : Writer) : Type 0 where
  pub key : x.key < keys
  pub group : x.group < groups
  pub phase : x.phase ≤ last_phase
  pub ts : x.ts ≤ last
  pub base : x.base ≤ last
  pub issued : 0 < x.phase → 0 < x.ts

-- the instant y at the place i
pub record InstantRanged (last i y : ℕ) : Type 0 where
  pub coded : y < completed groups
  pub above : last ≤ i → y ≡ 0

-- what all writers share
pub record SharedRanged (s : Shared) : Type 0 where
  pub last : s.last ≤ timestamps
  pub lock : (p : ℕ) → get_or s.locks p 0 ≤ writers
  pub entry : (k : ℕ) → get_or s.index k 0 ≤ groups
  pub instant : (i : ℕ) → InstantRanged s.last i (get_or s.timeline i 0)

-- what is noted, up to the last timestamp issued
pub record NotesRanged (last : ℕ) (n : Notes) : Type 0 where
  pub place : (i : ℕ) → get_or n.places i 0 ≤ timestamps
  pub count : (w : ℕ) → get_or n.counts w 0 ≤ timestamps
  pub noted : (i : ℕ) → get_or n.noted i 0 ≤ last

pub record Ranged (st : State) : Type 0 where
  pub horizon : st.horizon ≤ st.shared.last
  pub shared : SharedRanged st.shared
  pub writer : (w : ℕ) → w < writers → WriterRanged st.shared.last (get_or st.writers w ready)
  pub notes : NotesRanged st.shared.last st.notes

-- each number of a list is at most n, at whatever place; past the end there is 0
at_most_at : (n : ℕ) (xs : List ℕ) → all_at_most n xs ≡ true → (i : ℕ) → get_or xs i 0 ≤ n
unfolding all_at_most
at_most_at n [] e i = zero-le
at_most_at n (x ∷ xs) e zero = (simp facts at e).0
at_most_at n (x ∷ xs) e (suc i) = at_most_at n xs ((and-eq-true_iff (leb x n) (all_at_most n xs)).0 e).1 i

at_most_all : (n : ℕ) (xs : List ℕ) → ((i : ℕ) → get_or xs i 0 ≤ n) → all_at_most n xs ≡ true
unfolding all_at_most
at_most_all n [] h = refl
at_most_all n (x ∷ xs) h = rw (le-leb x n (h 0), at_most_all n xs (λ i. h (suc i)))

pub at_most_iff : (n : ℕ) (xs : List ℕ) → (all_at_most n xs ≡ true) ↔ ((i : ℕ) → get_or xs i 0 ≤ n)
at_most_iff n xs = (at_most_at n xs, at_most_all n xs)

module _ (last : ℕ) where
  pub writer_ranged : (x : Writer) → writer_in_range last x ≡ true → WriterRanged last x
  writer_ranged x e =
      let (key, (group, (phase, (ts, (base, issued))))) = simp facts at e in
      record { key = key; group = group; phase = phase; ts = ts; base = base; issued = λ p. issued (λ z. omega (arith, z)) }

  pub writer_in_range_lem : (x : Writer) → WriterRanged last x → writer_in_range last x ≡ true
  writer_in_range_lem x r = simp facts (r.key, (r.group, (r.phase, (r.ts, (r.base, λ p. r.issued (omega (arith, p)))))))

module _ (st : State) where
  abbrev sh : Shared
  sh = st.shared

  -- an instant above the last timestamp issued, among those that stand there
  behind : (i : ℕ) → sh.last ≤ i → get_or (drop sh.last sh.timeline) (i - sh.last) 0 ≡ get_or sh.timeline i 0
  behind i le =
      let e : sh.last + (i - sh.last) ≡ i = omega arith in
      get_or-drop sh.last sh.timeline (i - sh.last) 0 ∙ ap (λ (j : ℕ). get_or sh.timeline j 0) e

  pub ranged : in_range st ≡ true → Ranged st
  unfolding in_range writers_in_range
  ranged e =
      let (last, (horizon, (lock, (entry, (coded, (above, (writer, (place, (count, noted))))))))) = simp (facts, below_iff, at_most_iff) at e in
      record {
        horizon = horizon;
        shared =
            record {
              last = last;
              lock = lock;
              entry = entry;
              instant = λ i. record { coded = omega (arith, coded i); above = λ a. omega (arith, above (i - st.shared.last), behind i a) };
            };
        writer = λ w l. writer_ranged _ _ (simp facts (writer w l));
        notes = record { place = place; count = count; noted = noted };
      }

  pub in_range_lem : Ranged st → in_range st ≡ true
  unfolding in_range writers_in_range
  in_range_lem r =
      let s = r.shared in
      simp (facts, below_iff, at_most_iff) (
        s.last,
        (
          r.horizon,
          (
            s.lock,
            (
              s.entry,
              (
                λ i. omega (arith, (s.instant i).coded),
                (
                  λ i. omega (arith, get_or-drop sh.last sh.timeline i 0, (s.instant (sh.last + i)).above (omega arith)),
                  (λ w l. simp facts at (writer_in_range_lem _ _ (r.writer w l)), (r.notes.place, (r.notes.count, r.notes.noted))),
                ),
              ),
            ),
          ),
        ),
      )
