-- An event, a step or a clean, is a change of the view (`event_changes`), and so it keeps an execution consistent (`event_consistent`).
use Prim.Native.Nat.{ℕ}
use mathlib.Core.Path.{refl}
use Rattle.model.specs.Rules.{Answered}
use Rattle.model.specs.Isolation.{Event, takes_step, cleans_at, Execution, next}
use Rattle.model.proofs.RangeKept.{event_in_range}
use Rattle.model.proofs.Moves.{stays, Change, moves, cleans}
use Rattle.model.proofs.InvariantKept.{change_keeps}
use Rattle.model.proofs.Lengths.{StateLengths, step_lengths}
use Rattle.model.proofs.Cleaning.{Cleans, is_refused, is_taken, clean_rules, clean_lengths, kept_slice, not_dropped, base_kept}
use Rattle.model.proofs.StepMoves.{view_of, Consistent, step_moves}

clean_changes : (u : Execution) (c : ℕ) {a : Answered} → Consistent u → Cleans u.state c a
    → Change (view_of u) (view_of (record { state = a.state; history = u.history; stored = u.stored }))
clean_changes u c h (is_refused n p q) = moves 0 (stays refl)
clean_changes u c h (is_taken fine low high kept) =
    let slice = kept_slice u.state c fine high in
    cleans c _
    (record {
      rises = low;
      keeps = λ s kept g. slice g s (not_dropped u.state.shared.timeline c g s kept);
      bases = λ w at g. slice g _ (base_kept u.state.shared.timeline c u.state.writers h.lengths.writers kept w at g);
    })
    refl

pub event_changes : (u : Execution) (e : Event) → Consistent u → Change (view_of u) (view_of (next u e))
unfolding next
event_changes u (takes_step s) h = moves s.writer (step_moves u s h)
event_changes u (cleans_at c) h = clean_changes u c h (clean_rules u.state c)

event_lengths : (u : Execution) (e : Event) → StateLengths u.state → StateLengths (next u e).state
unfolding next
event_lengths u (takes_step s) = step_lengths u.state s
event_lengths u (cleans_at c) = clean_lengths u.state c

pub event_consistent : (u : Execution) (e : Event) → Consistent u → Consistent (next u e)
event_consistent u e h =
    record {
      lengths = event_lengths u e h.lengths;
      ranged = event_in_range u e h.ranged;
      invariant = (change_keeps (view_of u) (view_of (next u e)) h.invariant (event_changes u e h)).invariant;
    }
