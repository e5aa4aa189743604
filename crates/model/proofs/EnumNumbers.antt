-- The numbers of a read's answer tell which answer it is: `found_one_to_one`, `instant_one_to_one`; and those of refusals, which refusal:
-- `refusal_one_to_one`. `found_back`, `instant_back` and `refusal_back` read them back.
use Prim.Native.Nat.{ℕ}
use mathlib.Core.Bool.{cond}
use mathlib.Core.Path.{◌≡◌, refl, sym, ap, ◌∙◌}
use mathlib.Core.List.{List, [], ◌∷◌}
use lib.Dec.{eqb}
use Rattle.std.specs.Prelude.{Option, Some, None, Result, Ok, Err}
use Rattle.model.specs.Answers.{no_writer, no_key, wrong_phase, out_of_range, no_room, below_horizon, base_needed}
use Rattle.model.specs.Refusals.{refusal_number}
use Rattle.model.specs.Snapshot.{found_numbers, instant_numbers}
use Rattle.model.specs.declared.answers.Refusal.{Refusal}
use Rattle.model.specs.declared.answers.Refusal.TheVariants.{NoWriter, NoKey, WrongPhase, OutOfRange, NoRoom, BelowHorizon, BaseNeeded, NoHorizon}
use Rattle.model.specs.declared.Found.{Found}
use Rattle.model.specs.declared.InstantState.{InstantState}
use Rattle.model.specs.declared.InstantState.TheVariants as instant

-- a map that another takes back is one-to-one
one_to_one : {A B : Type 0} (f : A → B) (back : B → A) → ((a : A) → back (f a) ≡ a) → (a b : A) → f a ≡ f b → a ≡ b
one_to_one f back is a b e = sym (is a) ∙ ap back e ∙ is b

abbrev refusal_of : ℕ → Refusal
refusal_of n =
    cond (eqb n no_writer) NoWriter
    (cond (eqb n no_key) NoKey
    (cond (eqb n wrong_phase) WrongPhase
    (cond (eqb n out_of_range) OutOfRange
    (cond (eqb n no_room) NoRoom (cond (eqb n below_horizon) BelowHorizon (cond (eqb n base_needed) BaseNeeded NoHorizon))))))

pub refusal_back : (e : Refusal) → refusal_of (refusal_number e) ≡ e
refusal_back NoWriter = refl
refusal_back NoKey = refl
refusal_back WrongPhase = refl
refusal_back OutOfRange = refl
refusal_back NoRoom = refl
refusal_back BelowHorizon = refl
refusal_back BaseNeeded = refl
refusal_back NoHorizon = refl

pub refusal_one_to_one : (a b : Refusal) → refusal_number a ≡ refusal_number b → a ≡ b
refusal_one_to_one = one_to_one refusal_number refusal_of refusal_back

abbrev found_of : List ℕ → Result (Option Found) Refusal
found_of [] = Ok None
found_of (n ∷ []) = Err (refusal_of n)
found_of (n ∷ m ∷ []) = Ok None
found_of (n ∷ m ∷ v ∷ []) = Ok None
found_of (n ∷ m ∷ v ∷ g ∷ rest) = Ok (Some (record { value = v; group = g }))

pub found_back : (r : Result (Option Found) Refusal) → found_of (found_numbers r) ≡ r
found_back (Err e) = ap Err (refusal_back e)
found_back (Ok None) = refl
found_back (Ok (Some r)) = refl

pub found_one_to_one : (a b : Result (Option Found) Refusal) → found_numbers a ≡ found_numbers b → a ≡ b
found_one_to_one = one_to_one found_numbers found_of found_back

abbrev instant_from : List ℕ → Result InstantState Refusal
instant_from [] = Ok instant.None
instant_from (n ∷ []) = Err (refusal_of n)
instant_from (n ∷ m ∷ []) = Ok (cond (eqb m 0) instant.None instant.Requested)
instant_from (n ∷ m ∷ g ∷ rest) = Ok (cond (eqb m 2) (instant.Inflight g) (instant.Completed g))

pub instant_back : (r : Result InstantState Refusal) → instant_from (instant_numbers r) ≡ r
instant_back (Err e) = ap Err (refusal_back e)
instant_back (Ok instant.None) = refl
instant_back (Ok instant.Requested) = refl
instant_back (Ok (instant.Inflight g)) = refl
instant_back (Ok (instant.Completed g)) = refl

pub instant_one_to_one : (a b : Result InstantState Refusal) → instant_numbers a ≡ instant_numbers b → a ≡ b
instant_one_to_one = one_to_one instant_numbers instant_from instant_back
