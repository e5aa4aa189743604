-- The parts of a read put together: what the newest slices show is what the definitions list.
--     in_range_coded    a table in range, as the pass down the timeline asks it
--     Readable, readable    what holds of an admitted read
--     scan_refused, scan_listed    a scan: refused, or the rows of the newest slices
--     read_found    a point read of the newest slices
use Rattle.std.specs.Prelude.{Result, Ok, Err}
use Prim.Native.Nat.{ℕ, ◌<◌, ◌≤◌}
use native.Mathlib.Omega.{arith}
use mathlib.Core.Bool.{Bool, true, false}
use mathlib.Core.Path.{◌≡◌, ap}
use mathlib.Core.List.{List}
use lib.ListN.{get_or}
use borrow.Author.Tests.{lt-ltb, le-ltb, le-leb, lt-leb}
use Rattle.common.proofs.Cases.{cond_iff, facts}
use Rattle.common.proofs.ListBelow.{same_below}
use Rattle.model.specs.Limits.{keys, groups, timestamps}
use Rattle.model.specs.Refusals.{refusal_number}
use Rattle.model.specs.State.{State}
use Rattle.model.specs.Range.{in_range}
use Rattle.model.specs.Snapshot.{rows_of, all_rows, newest_at, rows_at, unlisted, listed_if_fits, scan, first_of, point_read}
use Rattle.model.specs.declared.answers.Refusal.{Refusal}
use Rattle.model.specs.declared.answers.Refusal.TheVariants.{OutOfRange, BelowHorizon}
use Rattle.model.proofs.Ranged.{ranged}
use Rattle.shown_rows.specs.Slices.{slice_in}
use Rattle.snapshot.specs.Inner.{admission, Coded, NewestSlices}

pub in_range_coded : (st : State) → in_range st ≡ true → Coded st.shared.timeline
in_range_coded st r i l = ((ranged st r).shared.instant i).coded

-- a read at timestamp t is not refused with 17 or 32
pub record Readable (st : State) (t : ℕ) : Type 0 where
  pub fine : in_range st ≡ true
  pub above : st.horizon ≤ t

module _ (st : State) (t : ℕ) {tested : Bool} {r : Result Unit Refusal} (f : tested ≡ in_range st) (e : r ≡ admission tested t st.horizon) where
  -- a claim about the admission, from each test that decides it
  admission_ind : (P : Result Unit Refusal → Type 0) → (in_range st ≡ false → P (Err OutOfRange))
      → (in_range st ≡ true → t < st.horizon → P (Err BelowHorizon)) → (Readable st t → P (Ok tt)) → P r
  admission_ind P out below done =
      rw (e, f) (simp (cond_iff P, facts) (out, λ fine. (below fine, λ above. done (record { fine = fine; above = omega arith }))))

  pub readable : {u : Unit} → r ≡ Ok u → Readable st t
  readable {u} = admission_ind (λ r. r ≡ Ok u → Readable st t) (λ _ z. cc) (λ _ _ z. cc) (λ h _. h)

  pub scan_refused : {n : Refusal} (buffer : List ℕ) → r ≡ Err n → unlisted (refusal_number n) buffer ≡ scan st t buffer
  unfolding scan
  scan_refused {n} buffer =
      admission_ind (λ r. r ≡ Err n → unlisted (refusal_number n) buffer ≡ scan st t buffer) (λ r z. rw r cc)
      (λ r h z. rw (r, lt-ltb t st.horizon h) cc) (λ _ z. cc)

module _ (st : State) (t : ℕ) {slices : List ℕ} (h : NewestSlices st.shared.timeline t slices) where
  abbrev present : List Bool
  present = st.shared.present

  abbrev values : List ℕ
  values = st.shared.values

  key_same : (k : ℕ) → rows_of present values (slice_in slices) k ≡ rows_of present values (newest_at st.shared t) k
  key_same k = same_below groups _ _ (λ g l. rw (le-leb (get_or slices g 0) timestamps (h.within g l), h.is g l))

  all_same : all_rows present values (slice_in slices) ≡ rows_at st.shared t
  unfolding rows_at
  all_same = same_below keys _ _ (λ k l. key_same k)

  pub read_found : Readable st t → (k : ℕ) → k < keys → Ok (first_of (rows_of present values (slice_in slices) k)) ≡ point_read st t k
  unfolding point_read
  read_found r k l = rw (r.fine, le-ltb t st.horizon r.above, lt-leb keys k l, key_same k)

  pub scan_listed : Readable st t → (buffer : List ℕ) → listed_if_fits (all_rows present values (slice_in slices)) buffer ≡ scan st t buffer
  unfolding scan
  scan_listed r buffer = rw (r.fine, le-ltb t st.horizon r.above) (ap (λ rows. listed_if_fits rows buffer) all_same)
