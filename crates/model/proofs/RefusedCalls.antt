-- Calls that may be refused, other than steps and cleans.
--     refused_scan            a refused scan counts no row
--     refused_choice          a refused choice of candidates lists no instant, in either way
--     scanned_one_to_one      what a scan gives is known by its answer and its count
--     chosen_one_to_one       what a choice of candidates gives is known by its answer and its lists
use Prim.Native.Nat.{ℕ, ◌<◌}
use native.Mathlib.Omega.{arith}
use mathlib.Core.Path.{◌≡◌, refl, ap, ◌∙◌}
use mathlib.Core.List.{[]}
use Rattle.std.specs.Prelude.{Result, Ok, Err}
use Rattle.common.specs.Lent.{Lent}
use Rattle.model.specs.Refusals.{refusal_number}
use Rattle.model.specs.Candidates.{filled}
use Rattle.model.specs.Calls.{scanned, chosen}
use Rattle.model.specs.declared.answers.Refusal.{Refusal}
use Rattle.model.specs.declared.answers.Refusal.TheVariants.{NoWriter, NoKey, WrongPhase, OutOfRange, NoRoom, BelowHorizon, BaseNeeded, NoHorizon}
use Rattle.model.specs.declared.InstantList.{InstantList}
use Rattle.model.specs.declared.Candidates.{Candidates}
use Rattle.model.proofs.EnumNumbers.{refusal_one_to_one}

pub refused_scan : (e : Refusal) (buffer : Lent ℕ) → (scanned (Err e) buffer).count ≡ 0
refused_scan e buffer = refl

pub refused_choice : (e : Refusal) → ((chosen (Err e)).by_start ≡ filled []) × ((chosen (Err e)).by_completion ≡ filled [])
refused_choice e = (refl, refl)

refusal_above : (e : Refusal) → 0 < refusal_number e
refusal_above NoWriter = omega arith
refusal_above NoKey = omega arith
refusal_above WrongPhase = omega arith
refusal_above OutOfRange = omega arith
refusal_above NoRoom = omega arith
refusal_above BelowHorizon = omega arith
refusal_above BaseNeeded = omega arith
refusal_above NoHorizon = omega arith

pub scanned_one_to_one : (buffer : Lent ℕ) (a b : Result ℕ Refusal) → (scanned a buffer).answer ≡ (scanned b buffer).answer
    → (scanned a buffer).count ≡ (scanned b buffer).count → a ≡ b
scanned_one_to_one buffer (Ok n) (Ok m) answer count = ap Ok count
scanned_one_to_one buffer (Ok n) (Err f) answer count = absurd (omega (arith, refusal_above f))
scanned_one_to_one buffer (Err e) (Ok m) answer count = absurd (omega (arith, refusal_above e))
scanned_one_to_one buffer (Err e) (Err f) answer count = ap Err (refusal_one_to_one e f answer)

abbrev both : InstantList → InstantList → Candidates
both s c = record { by_start = s; by_completion = c }

pub chosen_one_to_one : (a b : Result Candidates Refusal) → (chosen a).answer ≡ (chosen b).answer → (chosen a).by_start ≡ (chosen b).by_start
    → (chosen a).by_completion ≡ (chosen b).by_completion → a ≡ b
chosen_one_to_one (Ok a) (Ok b) answer starts completions =
    ap (λ s. Ok (both s a.by_completion)) starts ∙ ap (λ c. Ok (both b.by_start c)) completions
chosen_one_to_one (Ok a) (Err f) answer starts completions = absurd (omega (arith, refusal_above f))
chosen_one_to_one (Err e) (Ok b) answer starts completions = absurd (omega (arith, refusal_above e))
chosen_one_to_one (Err e) (Err f) answer starts completions = ap Err (refusal_one_to_one e f answer)
