-- What the search of the check step gives, by `newest`.
--     newest_above_lem    the hit and the count
--     tells               so what a result of the search tells of `newest`
use Prim.Native.Nat.{ℕ, zero, suc, ◌+◌, ◌-◌, ◌<◌, ◌≤◌, zero-le}
use native.Mathlib.Omega.{arith}
use mathlib.Core.Bool.{Bool, true, false, cond, and-true, and-eq-true_iff}
use mathlib.Core.List.{List, [], ◌∷◌, ◌++◌, append-nil}
use mathlib.Core.Path.{◌≡◌, refl, sym, ◌∙◌, ap, subst}
use lib.ListN.{length, length-append, get_or}
use lib.Dec.{eqb, ltb, leb}
use borrow.Author.Tests.{le-ltb, ltb-false, eqb-true, eqb-false}
use Rattle.common.specs.Counting.{list_below, up_to}
use Rattle.common.proofs.Cases.{cond_iff, by_test, facts}
use Rattle.model.specs.State.{newest, completed}
use Rattle.model.proofs.CompletedInstants.{newest_hit, newest_miss, newest_of_lem}
use Rattle.std.specs.Prelude.{Option, Some, None, unwrap_or}
use Rattle.metadata.specs.Largest.{largest}
use Rattle.metadata.specs.Search.{is_hit, found, none_found, search_gives, newest_above}
use Rattle.metadata.specs.declared.timeline.Search.{Search}

-- the timestamps from t up
count_from : (t n : ℕ) → length (up_to n (leb t)) ≡ n + 1 - t
unfolding up_to list_below
count_from t zero = simp (cond_iff (λ (l : List ℕ). length l ≡ 1 - t), facts) (λ le. omega arith, λ lt. omega arith)
count_from t (suc n) =
    let below = count_from t n in
    length-append (up_to n (leb t)) _
    ∙ simp (cond_iff (λ (l : List ℕ). length (up_to n (leb t)) + length l ≡ suc n + 1 - t), facts) (λ le. omega arith, λ lt. omega arith)

largest_last : (ts : List ℕ) (t : ℕ) → largest ts ≤ t → largest (ts ++ t ∷ []) ≡ t
unfolding largest
largest_last [] t le = omega arith
largest_last (s ∷ ts) t le = omega (arith, largest_last ts t (omega arith))

largest_up_to : (p : ℕ → Bool) (n : ℕ) → largest (up_to n p) ≤ n
unfolding up_to list_below largest
largest_up_to p zero = simp (cond_iff (λ (l : List ℕ). largest l ≤ 0)) (λ _. omega arith, λ _. omega arith)
largest_up_to p (suc n) =
    let below = largest_up_to p n in
    simp (cond_iff (λ (l : List ℕ). largest (up_to n p ++ l) ≤ suc n))
    (λ _. omega (arith, largest_last (up_to n p) (suc n) (omega arith)), λ _. rw (append-nil (up_to n p)) (omega arith))

-- a hit above all others
gives_last : (base last : ℕ) (ts : List ℕ) (t : ℕ) → largest ts ≤ t → search_gives base last (ts ++ t ∷ []) ≡ found t (length (up_to last (leb t)))
unfolding largest
gives_last base last [] t le = rw (largest_last [] t le)
gives_last base last (s ∷ ts) t le = rw (largest_last (s ∷ ts) t le)

module _ (timeline : List ℕ) (g base last : ℕ) where
  abbrev hits : ℕ → List ℕ
  hits n = up_to n (is_hit timeline g base)

  -- what the search gives where m is the newest completed timestamp
  abbrev gives_by : ℕ → Search
  gives_by m = cond (ltb base m) (found m (length (up_to last (leb m)))) (none_found (length (up_to last (ltb base))))

  hit_next : (n : ℕ) → is_hit timeline g base (suc n) ≡ true → search_gives base last (hits (suc n)) ≡ gives_by (newest timeline g (suc n))
  unfolding up_to list_below
  hit_next n e =
      let (above, here) = (and-eq-true_iff (ltb base (suc n)) _).0 e in
      rw (e, newest_hit timeline g n (eqb-true _ _ here), above)
      (gives_last base last (hits n) (suc n) (omega (arith, largest_up_to (is_hit timeline g base) n)))

  miss_next : (n : ℕ) → is_hit timeline g base (suc n) ≡ false → hits (suc n) ≡ hits n
  unfolding up_to list_below
  miss_next n e = rw e (append-nil (hits n))

  same_next : (n : ℕ) → is_hit timeline g base (suc n) ≡ false → gives_by (newest timeline g n) ≡ gives_by (newest timeline g (suc n))
  same_next n e =
      by_test (eqb (get_or timeline n 0) (completed g))
      (λ here.
      let under : ltb base (suc n) ≡ false = sym (and-true _) ∙ (rw here at e) in
      let low = ltb-false base (suc n) under in
      rw (newest_hit timeline g n (eqb-true _ _ here), under, le-ltb base (newest timeline g n) (omega (arith, (newest_of_lem timeline g n).below))))
      (λ far. ap gives_by (sym (newest_miss timeline g n (eqb-false _ _ far))))

  by_newest : (n : ℕ) → search_gives base last (hits n) ≡ gives_by (newest timeline g n)
  unfolding up_to list_below newest
  by_newest zero = rw (le-ltb base 0 zero-le)
  by_newest (suc n) =
      by_test (is_hit timeline g base (suc n)) (hit_next n) (λ e. ap (search_gives base last) (miss_next n e) ∙ (by_newest n ∙ same_next n e))

  pub newest_above_lem : newest_above timeline g base last
      ≡ cond (ltb base (newest timeline g last)) (found (newest timeline g last) (last + 1 - newest timeline g last)) (none_found (last - base))
  unfolding newest_above
  newest_above_lem =
      let above : length (up_to last (ltb base)) ≡ last - base = count_from (suc base) last ∙ omega arith in
      by_newest last ∙ rw (count_from (newest timeline g last) last, above)

  -- what the hit of a search, or that there is none, tells of the newest completed timestamp
  abbrev pub Told : Option ℕ → Type 0
  Told (Some t) = (newest timeline g last ≡ t) × (base < newest timeline g last)
  Told None = newest timeline g last ≤ base

  pub tells : {r : Search} {hit : Option ℕ} → r ≡ newest_above timeline g base last → r.hit ≡ hit → Told hit
  tells e is =
      subst Told (sym (ap (λ (s : Search). s.hit) (e ∙ newest_above_lem)) ∙ is)
      (simp (cond_iff (λ (s : Search). Told s.hit), facts) (λ above. (refl, above), λ low. omega arith))

-- the hit of a search down to 0, or 0 with no hit, is the newest completed timestamp
pub hit_or_zero : (timeline : List ℕ) (g last : ℕ) (hit : Option ℕ) → Told timeline g 0 last hit → unwrap_or hit 0 ≡ newest timeline g last
hit_or_zero timeline g last (Some t) told = sym told.0
hit_or_zero timeline g last None told = omega (arith, told)
