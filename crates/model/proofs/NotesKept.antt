-- Every change of a view keeps what holds of the notes (`Noted`): `change_noted`, by the cases of a change.
--     start_noted_lem     is in StartNoted.antt
--     end_noted       nothing is completed; the writer keeps neither its count nor what it has noted
--     phase_noted     nothing is completed; the base that the read step takes is the newest, so `newer` holds
--     commit_noted    its place is the next, so above every count; and every other operation in progress picks it,
--                     since it has noted it or started before it
-- A clean touches neither the notes nor the timeline.
use Prim.Native.Nat.{ℕ, ◌+◌, ◌≤◌, ◌<◌}
use mathlib.Core.Path.{◌≡◌, refl, sym, subst⁻¹, ap, ◌∙◌}
use mathlib.Core.Logic.{◌≢◌, by_cases}
use mathlib.Core.List.Memᴰ
use mathlib.Core.Bool.{true}
use mathlib.Core.Option.{Option, none, some}
use native.Mathlib.Decide.{ℕ_discrete}
use native.Mathlib.Omega.{arith}
use lib.Dec.{ltb}
use borrow.Author.Tests.{lt-ltb}
use Rattle.common.specs.Counting.{upd}
use Rattle.common.proofs.Functions.{none_some, some_inj, upd_same, upd_other, upd_ind}
use Rattle.model.specs.State.{ready}
use Rattle.model.specs.History.{Pending, commit_recorded, end_recorded}
use Rattle.model.specs.Candidates.{CommittedAt}
use Rattle.model.specs.declared.Writer.{Writer}
use Rattle.model.proofs.Modes.{after_index_lem}
use Rattle.model.proofs.Notes.{amongst}
use Rattle.model.proofs.Moves.{View, after_phase, after_end, after_commit, NextPhase, looks_up, reads, writes}
use Rattle.model.proofs.Moves.{indexes, checks, Move, stays, starts, continues, ends, commits, Change, moves}
use Rattle.model.proofs.Moves.{cleans}
use Rattle.model.proofs.Invariant.{Invariant}
use Rattle.model.proofs.Noted.{picks, Newer, OperationNoted, Cleared, Noted, Bounded, Continued, uncompleted}
use Rattle.model.proofs.StartNoted.{issued, start_noted_lem}

module _ (v : View) (w : ℕ) (i : Invariant v) (f : Bounded v) (m : Noted v) where
  -- writer w's operation ends, with a commit or without: the notes of the others, and its own
  count_kept : (u : ℕ) → u ≢ w → upd v.notes.count w 0 u ≡ v.notes.count u
  count_kept u ne = upd_other v.notes.count w 0 u ne

  noted_kept : (u : ℕ) → u ≢ w → upd v.notes.noted w (amongst (λ j. 0)) u ≡ v.notes.noted u
  noted_kept u ne = upd_other v.notes.noted w (amongst (λ j. 0)) u ne

  ended_cleared : (n : View) → n.writer ≡ upd v.writer w ready → n.notes.count ≡ upd v.notes.count w 0
      → n.notes.noted ≡ upd v.notes.noted w (amongst (λ j. 0)) → (u : ℕ) → (n.writer u).phase ≡ 0 → Cleared n u
  ended_cleared n writer count noted u =
      by_cases (ℕ_discrete u w)
      (λ e q. record { count = rw (count, e) (upd_same v.notes.count w 0); noted = rw (noted, e) (upd_same v.notes.noted w (amongst (λ j. 0))) })
      (λ ne.
      rw (writer, upd_other v.writer w ready u ne)
      (λ q. let c = m.cleared u q in record { count = rw (count, count_kept u ne) c.count; noted = rw (noted, noted_kept u ne) c.noted }))

  end_noted : Noted (after_end v w)
  unfolding end_recorded
  end_noted =
      let n = after_end v w in
      uncompleted v n refl refl refl refl
      (upd_ind v.writer w ready (λ u y. 0 < y.phase → Continued v n u y) (λ p. absurd (omega arith))
      (λ u ne p. record { busy = p; ts = refl; count = count_kept u ne; noted = noted_kept u ne; newer = (m.operation u p).newer }))
      (ended_cleared n refl refl refl) m

  -- a writer that goes on keeps its timestamp, stays in progress, and what is completed above its base is among its candidates
  goes_on : {x : Writer} {l e : ℕ → ℕ} {c : ℕ → ℕ → ℕ → Option ℕ} {d : ℕ → ℕ → Option ℕ} → NextPhase v w (v.writer w) x l e c d
      → (0 < (v.writer w).phase) × (x.ts ≡ (v.writer w).ts) × (0 < x.phase) × Newer v w x
  goes_on (looks_up g p) = (omega arith, refl, omega arith, λ q. absurd (omega arith))
  goes_on (reads b p free newest low) = (omega arith, refl, omega arith, λ q s e above. absurd (omega (arith, newest.most s (issued v i s _ e) e)))
  goes_on (writes p) = (omega arith, refl, omega arith, λ q. (m.operation w (omega arith)).newer (omega arith))
  goes_on (indexes made p free new found) =
      (omega arith, refl, omega (arith, after_index_lem v.mode), λ q. (m.operation w (omega arith)).newer (omega arith))
  goes_on (checks b p newest low) = (omega arith, refl, omega arith, λ q. (m.operation w (omega arith)).newer (omega arith))

  phase_noted : {x : Writer} {l e : ℕ → ℕ} {c : ℕ → ℕ → ℕ → Option ℕ} {d : ℕ → ℕ → Option ℕ} → NextPhase v w (v.writer w) x l e c d
      → Noted (after_phase v w x l e c d)
  phase_noted {x} {l} {e} {c} {d} p =
      let n = after_phase v w x l e c d in
      let (busy, ts, still, newer) = goes_on p in
      uncompleted v n refl refl refl refl
      (upd_ind v.writer w x (λ u y. 0 < y.phase → Continued v n u y)
      (λ _. record { busy = busy; ts = ts; count = refl; noted = refl; newer = newer })
      (λ u ne p. record { busy = p; ts = refl; count = refl; noted = refl; newer = (m.operation u p).newer }))
      (upd_ind v.writer w x (λ u y. y.phase ≡ 0 → Cleared n u) (λ q. absurd (omega arith))
      (λ u ne q. let c = m.cleared u q in record { count = c.count; noted = c.noted })) m

  -- writer w commits
  module _ (p : Pending) (at : (v.writer w).phase ≡ 6) (is : v.history.pending w ≡ some p) where
    abbrev x : Writer
    x = v.writer w

    abbrev n : View
    n = after_commit v w p

    own_place : n.notes.place x.ts ≡ v.notes.completions + 1
    own_place = upd_same v.notes.place x.ts _

    place_kept : (s : ℕ) → s ≢ x.ts → n.notes.place s ≡ v.notes.place s
    place_kept s ne = upd_other v.notes.place x.ts _ s ne

    -- what holds of the timestamp that commits, and of each that is completed already
    completed_ind : (P : ℕ → Type 0) (g : ℕ) → P x.ts → ((s : ℕ) → s ≢ x.ts → v.completed s ≡ some g → P s) → (s : ℕ) → n.completed s ≡ some g → P s
    completed_ind P g own old = upd_ind v.completed x.ts (some x.group) (λ s o. o ≡ some g → P s) (λ _. own) old

    -- the place of the timestamp that commits is above every other
    last_placed : (s g : ℕ) → v.completed s ≡ some g → v.notes.place s ≢ v.notes.completions + 1
    last_placed s g e q = omega (arith, (m.placed s g e).1)

    commit_unique : (s t g h : ℕ) → n.completed s ≡ some g → n.completed t ≡ some h → n.notes.place s ≡ n.notes.place t → s ≡ t
    commit_unique s t g h a b =
        completed_ind (λ s. n.notes.place s ≡ n.notes.place t → s ≡ t) g
        (completed_ind (λ t. n.notes.place x.ts ≡ n.notes.place t → x.ts ≡ t) h (λ _. refl)
        (λ t ne e q. absurd (last_placed t h e (sym (place_kept t ne) ∙ sym q ∙ own_place))) t b)
        (λ s ne e.
        completed_ind (λ t. n.notes.place s ≡ n.notes.place t → s ≡ t) h
        (λ q. absurd (last_placed s g e (sym (place_kept s ne) ∙ q ∙ own_place)))
        (λ t nt r q. m.unique s t g h e r (sym (place_kept s ne) ∙ q ∙ place_kept t nt)) t b) s a

    rest : (u : ℕ) → u ≢ w → 0 < (v.writer u).phase → OperationNoted n u (v.writer u)
    rest u ne q =
        let a = m.operation u q in
        let count = count_kept u ne in
        let noted = noted_kept u ne in
        record {
          counted = rw count (omega (arith, a.counted));
          others =
              λ j nj.
              upd_ind v.writer w ready (λ j y. j ≢ u → 0 < y.phase → picks n.notes u (v.writer u).ts y.ts ≡ true) (λ _ r. absurd (omega arith))
              (λ j _ nj r. rw noted (a.others j nj r)) j nj;
          alike =
              λ s g.
              completed_ind (λ s. picks n.notes u (v.writer u).ts s ≡ ltb (n.notes.count u) (n.notes.place s)) g
              (rw (noted, count, own_place, a.others w (λ e. ne (sym e)) (omega arith))
              (sym (lt-ltb (v.notes.count u) (v.notes.completions + 1) (omega (arith, a.counted)))))
              (λ s nw e. rw (noted, count, place_kept s nw) (a.alike s g e)) s;
          newer =
              λ busy s e above.
              rw count
              (completed_ind (λ s. (v.writer u).base < s → v.notes.count u < n.notes.place s) (v.writer u).group
              (λ _. rw own_place (omega (arith, a.counted))) (λ s nw r b. rw (place_kept s nw) (a.newer busy s r b)) s e above);
        }

    commit_noted : Noted n
    unfolding commit_recorded
    commit_noted =
        let h = (i.writer w).in_progress (omega arith) in
        record {
          placed =
              λ s g.
              completed_ind (λ s. (0 < n.notes.place s) × (n.notes.place s ≤ n.notes.completions)) g (rw own_place (omega arith, omega arith))
              (λ s nw e. rw (place_kept s nw) (let (low, high) = m.placed s g e in (low, omega arith))) s;
          unplaced =
              λ s.
              upd_ind v.completed x.ts (some x.group) (λ s o. o ≡ none → n.notes.place s ≡ 0) (λ e. absurd (none_some e refl))
              (λ s nw e. rw (place_kept s nw) (m.unplaced s e)) s;
          unique = commit_unique;
          known =
              λ s g.
              completed_ind (CommittedAt n.history) g
              (record { operation = _; done = Memᴰ.head refl; ts = ap (λ (q : Pending). q.ts) (some_inj is h.is) ∙ h.ts })
              (λ s nw e. let c = m.known s g e in record { operation = c.operation; done = Memᴰ.tail c.done; ts = c.ts }) s;
          operation = upd_ind v.writer w ready (λ u y. 0 < y.phase → OperationNoted n u y) (λ q. absurd (omega arith)) rest;
          cleared = ended_cleared n refl refl refl;
        }

  move_noted : (n : View) → Move v w n → Noted n
  move_noted n (stays e) = subst⁻¹ Noted e m
  move_noted n (starts op unerased at e) = subst⁻¹ Noted e (start_noted_lem v w i f m op at)
  move_noted n (continues p e) = subst⁻¹ Noted e (phase_noted p)
  move_noted n (ends e) = subst⁻¹ Noted e end_noted
  move_noted n (commits p at is e) = subst⁻¹ Noted e (commit_noted p at is)

pub change_noted : (v n : View) → Invariant v → Bounded v → Noted v → Change v n → Noted n
change_noted v n i f m (moves w move) = move_noted v w i f m n move
change_noted v n i f m (cleans c cell kept e) =
    subst⁻¹ Noted e
    (uncompleted v _ refl refl refl refl
    (λ w p. record { busy = p; ts = refl; count = refl; noted = refl; newer = (m.operation w p).newer })
    (λ w q. let c = m.cleared w q in record { count = c.count; noted = c.noted }) m)
