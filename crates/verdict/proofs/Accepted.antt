-- No refusal has number 0: a verdict of number 0 is an acceptance, and has place 0.
use mathlib.Core.Path.{◌≡◌, refl, ap}
use native.Mathlib.Omega.{arith}
use Rattle.std.specs.Prelude.{true, false, Ok, Err, is_err}
use Rattle.verdict.specs.declared.Refusal.{Refusal}
use Rattle.verdict.specs.declared.Refusal.TheVariants.{BadLength, BadEdition, BadAreaCount, BadDate, BadPeakHours, BadContents}
use Rattle.verdict.specs.declared.Refusal.TheVariants.{BadBodyHead, BadCoordinator, OutOfRange, RunningDemandTooLarge, PriceWithoutQuantity}
use Rattle.verdict.specs.declared.Refusal.TheVariants.{AmountWithoutDemand, RoomTooShort, BadRecord, AmountBeyondRange, TooFewIntervals}
use Rattle.verdict.specs.declared.Refusal.TheVariants.{DayNotAfter, TooManyAreas, BadBook, DaysDoNotFit, DateThereOrAbsent, BadBasis}
use Rattle.verdict.specs.declared.Refusal.TheVariants.{PaymentRoomTooShort}
use Rattle.verdict.specs.Verdict.{Verdict, Accepted, refusal_number, number_of, place_of}

pub no_refusal_is_zero : (refusal : Refusal) → refusal_number refusal ≡ 0 → ⊥
no_refusal_is_zero BadLength z = omega arith
no_refusal_is_zero BadEdition z = omega arith
no_refusal_is_zero BadAreaCount z = omega arith
no_refusal_is_zero BadDate z = omega arith
no_refusal_is_zero BadPeakHours z = omega arith
no_refusal_is_zero (BadContents word) z = omega arith
no_refusal_is_zero (BadBodyHead word) z = omega arith
no_refusal_is_zero (BadCoordinator place) z = omega arith
no_refusal_is_zero (OutOfRange place) z = omega arith
no_refusal_is_zero (RunningDemandTooLarge place) z = omega arith
no_refusal_is_zero (PriceWithoutQuantity place) z = omega arith
no_refusal_is_zero (AmountWithoutDemand place) z = omega arith
no_refusal_is_zero (RoomTooShort needed) z = omega arith
no_refusal_is_zero BadRecord z = omega arith
no_refusal_is_zero AmountBeyondRange z = omega arith
no_refusal_is_zero (TooFewIntervals place) z = omega arith
no_refusal_is_zero DayNotAfter z = omega arith
no_refusal_is_zero TooManyAreas z = omega arith
no_refusal_is_zero (BadBook word) z = omega arith
no_refusal_is_zero DaysDoNotFit z = omega arith
no_refusal_is_zero DateThereOrAbsent z = omega arith
no_refusal_is_zero BadBasis z = omega arith
no_refusal_is_zero (PaymentRoomTooShort needed) z = omega arith

pub accepted_alone : (verdict : Verdict) → number_of verdict ≡ 0 → verdict ≡ Accepted
accepted_alone (Ok _) z = refl
accepted_alone (Err refusal) z = absurd (no_refusal_is_zero refusal z)

pub accepted_place : (verdict : Verdict) → number_of verdict ≡ 0 → place_of verdict ≡ 0
accepted_place verdict z = ap place_of (accepted_alone verdict z)

-- what the code asks of a verdict
pub refuses : (verdict : Verdict) → is_err verdict ≡ true → number_of verdict ≡ 0 → ⊥
refuses (Ok _) e z = cc
refuses (Err refusal) e z = no_refusal_is_zero refusal z

pub accepts : (verdict : Verdict) → is_err verdict ≡ false → number_of verdict ≡ 0
accepts (Ok _) e = refl
accepts (Err refusal) e = cc
