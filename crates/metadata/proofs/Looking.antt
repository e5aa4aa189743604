-- The loop of the search, from the last timestamp down.
--     Looked                         the loop's invariant
--     look_first, look_hit, look_miss, look_end    its beginning, the ways on from a timestamp, its end
use Prim.Native.Nat.{ℕ, zero, suc, ◌+◌, ◌-◌, ◌<◌, ◌≤◌, min}
use native.Mathlib.Numerals.{sub-one}
use native.Mathlib.Omega.{arith}
use mathlib.Core.List.{List}
use mathlib.Core.Logic.{◌≢◌}
use mathlib.Core.Path.{◌≡◌, refl, sym, ◌∙◌, ap}
use borrow.Author.Tests.{lt-ltb, le-ltb}
use Rattle.model.specs.State.{newest, completed}
use Rattle.model.specs.Snapshot.{instant_of}
use Rattle.model.proofs.CompletedInstants.{newest_hit, newest_miss, newest_of_lem}
use Rattle.metadata.specs.Search.{found, none_found, newest_above}
use Rattle.metadata.proofs.SearchLaws.{newest_above_lem}

module _ (timeline : List ℕ) (g : ℕ) where
  hit_at : (n : ℕ) → 0 < n → instant_of timeline n ≡ completed g → newest timeline g n ≡ n
  hit_at zero p e = absurd (omega arith)
  hit_at (suc n) p e = newest_hit timeline g n e

  miss_at : (n : ℕ) → 0 < n → instant_of timeline n ≢ completed g → newest timeline g n ≡ newest timeline g (n - 1)
  miss_at zero p ne = absurd (omega arith)
  miss_at (suc n) p ne = rw (sub-one (suc n)) (newest_miss timeline g n ne)

-- `count` timestamps have been looked at, those above n, and none of them is a hit
pub record Looked (timeline : List ℕ) (g base last n count : ℕ) : Type 0 where
  pub counted : count + n ≡ last
  pub low : min base last ≤ n
  pub same : newest timeline g last ≡ newest timeline g n

module _ {timeline : List ℕ} {g base last : ℕ} where
  pub look_first : Looked timeline g base last last 0
  look_first = record { counted = omega arith; low = omega arith; same = refl }

  module _ {n count : ℕ} (v : Looked timeline g base last n count) where
    pub look_hit : base < n → instant_of timeline n ≡ completed g → found n (count + 1) ≡ newest_above timeline g base last
    look_hit lt e =
        let here : newest timeline g last ≡ n = v.same ∙ hit_at timeline g n (omega arith) e in
        sym (newest_above_lem timeline g base last ∙ rw (here, lt-ltb base n lt) (ap (found n) (omega (arith, v.counted))))

    pub look_miss : base < n → instant_of timeline n ≢ completed g → Looked timeline g base last (n - 1) (count + 1)
    look_miss lt ne =
        record {
          counted = omega (arith, v.counted);
          low = omega (arith, v.low);
          same = v.same ∙ miss_at timeline g n (omega arith) ne;
        }

    pub look_end : n ≤ base → none_found count ≡ newest_above timeline g base last
    look_end le =
        let low : newest timeline g last ≤ base = rw v.same (omega (arith, (newest_of_lem timeline g n).below)) in
        sym (newest_above_lem timeline g base last ∙ rw (le-ltb base (newest timeline g last) low) (ap none_found (omega (arith, v.counted, v.low))))
