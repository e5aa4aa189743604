-- The pass down the timeline that finds the newest slice of each file group: `Passed` is the loop's invariant, with one law for each way round it.
--     pass_none, pass_open, pass_old, pass_new, pass_end, pass_full    the laws of `Passed`
--     pass_missing    a file group that is found first is among those missing
use Prim.Native.Nat.{ℕ, zero, suc, ◌+◌, ◌-◌, ◌<◌, ◌≤◌, min}
use native.Mathlib.Nat.{eq-zero-or-pos}
use native.Mathlib.Decide.{ℕ_discrete, dec_le}
use native.Mathlib.Numerals.{add-one}
use native.Mathlib.Omega.{arith}
use mathlib.Core.Logic.{by_cases, ⊎_elim}
use mathlib.Core.Path.{◌≡◌, refl, sym, ◌∙◌, ap}
use mathlib.Core.List.{List, [], ◌∷◌}
use lib.ListN.{get_or, set, length, length-set, replicate, get_or-replicate, get_or-eq_default}
use lib.Seq.{get_or-set_same, get_or-set_other}
use Rattle.model.specs.Limits.{groups, timestamps}
use Rattle.model.specs.State.{newest, completed}
use Rattle.model.proofs.CompletedInstants.{newest_hit, newest_miss, newest_of_lem}
use Rattle.snapshot.specs.Inner.{Coded, NewestSlices}

module _ (timeline : List ℕ) (g : ℕ) where
  -- no timestamp above the timeline's end counts
  above_end : (n : ℕ) → length timeline ≤ n → newest timeline g (suc n) ≡ newest timeline g n
  above_end n l = let z = get_or-eq_default timeline 0 {n = n} l in newest_miss timeline g n (λ q. omega arith)

  newest_min : (m n : ℕ) → length timeline ≤ m → newest timeline g n ≡ newest timeline g (min n m)
  newest_min m zero l = let e : min 0 m ≡ 0 = omega arith in rw e
  newest_min m (suc n) l =
      by_cases (dec_le (suc n) m) (λ h. let e : min (suc n) m ≡ suc n = omega arith in rw e)
      (λ h. let e : min n m ≡ min (suc n) m = omega arith in above_end n (omega arith) ∙ newest_min m n l ∙ ap (newest timeline g) e)

  newest_within : (n : ℕ) → length timeline ≤ timestamps → newest timeline g n ≤ timestamps
  newest_within n l = rw (newest_min timestamps n l) (omega (arith, (newest_of_lem timeline g (min n timestamps)).below))

-- how many numbers are 0
abbrev pub zeros : List ℕ → ℕ
zeros [] = 0
zeros (zero ∷ xs) = suc (zeros xs)
zeros (suc x ∷ xs) = zeros xs

zeros_set : (xs : List ℕ) (i m : ℕ) → i < length xs → get_or xs i 0 ≡ 0 → zeros (set xs i (suc m)) + 1 ≡ zeros xs
zeros_set [] i m h e = absurd (omega arith)
zeros_set (zero ∷ xs) zero m h e = omega arith
zeros_set (suc x ∷ xs) zero m h e = absurd (omega arith)
zeros_set (zero ∷ xs) (suc i) m h e = omega (arith, zeros_set xs i m (omega arith) e)
zeros_set (suc x ∷ xs) (suc i) m h e = zeros_set xs i m (omega arith) e

zeros_none : (xs : List ℕ) (i : ℕ) → zeros xs ≡ 0 → i < length xs → 0 < get_or xs i 0
zeros_none [] i e h = absurd (omega arith)
zeros_none (zero ∷ xs) i e h = absurd (omega arith)
zeros_none (suc x ∷ xs) zero e h = omega arith
zeros_none (suc x ∷ xs) (suc i) e h = zeros_none xs i e (omega arith)

-- the instants above timestamp n are passed: `slices` has the newest of each file group, for t, and `missing` groups have none there
pub record Passed (timeline : List ℕ) (t : ℕ) (slices : List ℕ) (missing n : ℕ) : Type 0 where
  pub all : length timeline ≡ timestamps
  pub coded : Coded timeline
  pub low : n ≤ timestamps
  pub size : length slices ≡ groups
  pub count : zeros slices ≡ missing
  pub found : (g : ℕ) → g < groups → 0 < get_or slices g 0 → get_or slices g 0 ≡ newest timeline g t
  pub left : (g : ℕ) → g < groups → get_or slices g 0 ≡ 0 → newest timeline g t ≡ newest timeline g n

pub pass_none : (timeline : List ℕ) (t n : ℕ) → length timeline ≡ timestamps → Coded timeline → n ≡ min t timestamps
    → Passed timeline t (replicate groups 0) groups n
pass_none timeline t n l r e =
    record {
      all = l;
      coded = r;
      low = omega arith;
      size = refl;
      count = refl;
      found = λ g h p. absurd (omega (arith, get_or-replicate {A = ℕ} groups g 0 0 h));
      left = λ g h z. rw e (newest_min timeline g timestamps t (omega arith));
    }

module _ {timeline : List ℕ} {t missing n : ℕ} {slices : List ℕ} (s : Passed timeline t slices missing n) where
  all_newest : ((g : ℕ) → g < groups → get_or slices g 0 ≡ newest timeline g t) → NewestSlices timeline t slices
  all_newest is = record { is = is; within = λ g l. rw (is g l) (newest_within timeline g t (omega (arith, s.all))) }

  pub pass_end : n ≡ 0 → NewestSlices timeline t slices
  unfolding newest
  pass_end e = all_newest (λ g l. ⊎_elim (λ z. z ∙ sym (s.left g l z ∙ rw e)) (s.found g l) (eq-zero-or-pos (get_or slices g 0)))

  pub pass_full : missing ≡ 0 → NewestSlices timeline t slices
  pass_full e = all_newest (λ g l. s.found g l (zeros_none slices g (s.count ∙ e) (omega (arith, s.size))))

  module _ (p : 0 < n) where
    abbrev instant : ℕ
    instant = get_or timeline (n - 1) 0

    abbrev group : ℕ
    group = instant - completed 0

    same : n ≡ suc (n - 1)
    same = omega arith

    other : (g : ℕ) → (instant ≡ completed g → ⊥) → newest timeline g n ≡ newest timeline g (n - 1)
    other g d = ap (newest timeline g) same ∙ newest_miss timeline g (n - 1) d

    -- no slice of the instant counts
    passed_over : ((g : ℕ) → g < groups → get_or slices g 0 ≡ 0 → instant ≡ completed g → ⊥) → Passed timeline t slices missing (n - 1)
    passed_over d =
        record {
          all = s.all;
          coded = s.coded;
          low = omega (arith, s.low);
          size = s.size;
          count = s.count;
          found = s.found;
          left = λ g l z. s.left g l z ∙ other g (d g l z);
        }

    pub pass_open : instant < completed 0 → Passed timeline t slices missing (n - 1)
    pass_open l = passed_over (λ g h z e. omega arith)

    pub pass_old : completed 0 ≤ instant → (get_or slices group 0 ≡ 0 → ⊥) → Passed timeline t slices missing (n - 1)
    pass_old l d = passed_over (λ g h z e. let q : group ≡ g = omega arith in d (rw q z))

    pass_group : group < groups
    pass_group = omega (arith, s.coded (n - 1) (omega (arith, s.low)))

    module _ (l : completed 0 ≤ instant) (z : get_or slices group 0 ≡ 0) where
      inside : group < length slices
      inside = omega (arith, pass_group, s.size)

      pub pass_missing : 1 ≤ missing
      pass_missing = omega (arith, zeros_set slices group 0 inside z, s.count)

      pub pass_new : Passed timeline t (set slices group (n - 1 + 1)) (missing - 1) (n - 1)
      pass_new =
          record {
            all = s.all;
            coded = s.coded;
            low = omega (arith, s.low);
            size = length-set slices group (n - 1 + 1) ∙ s.size;
            count = rw add-one (omega (arith, zeros_set slices group (n - 1) inside z, s.count));
            found = λ g h q. by_cases (ℕ_discrete g group) here (λ d. unchanged g d ∙ s.found g h (rw (unchanged g d) at q));
            left = λ g h q.
                by_cases (ℕ_discrete g group) (λ e. absurd (omega (arith, rw e at q, stored)))
                (λ d. s.left g h (sym (unchanged g d) ∙ q) ∙ other g (λ e. d (omega arith)));
          }
        where
          stored : get_or (set slices group (n - 1 + 1)) group 0 ≡ n - 1 + 1
          stored = get_or-set_same slices group (n - 1 + 1) 0 inside

          unchanged : (g : ℕ) → (g ≡ group → ⊥) → get_or (set slices group (n - 1 + 1)) g 0 ≡ get_or slices g 0
          unchanged g d = get_or-set_other slices group g (n - 1 + 1) 0 d

          here : {g : ℕ} → g ≡ group → get_or (set slices group (n - 1 + 1)) g 0 ≡ newest timeline g t
          here e =
              let hit : newest timeline group (suc (n - 1)) ≡ suc (n - 1) = newest_hit timeline group (n - 1) (omega arith) in
              rw e (stored ∙ sym (s.left group pass_group z ∙ (ap (newest timeline group) same ∙ rw add-one hit)))
