-- The refusal table (docs/RULES.md, sections 10 and 11): the number and the place of each case, and of a verdict.
use Rattle.std.specs.Prelude.{ℕ, ◌+◌, ◌*◌, Result, Ok, Err, ⊤}
use Rattle.verdict.specs.declared.Refusal.{Refusal}
use Rattle.verdict.specs.declared.Refusal.TheVariants.{BadLength, BadEdition, BadAreaCount, BadDate, BadPeakHours, BadContents}
use Rattle.verdict.specs.declared.Refusal.TheVariants.{BadBodyHead, BadCoordinator, OutOfRange, RunningDemandTooLarge, PriceWithoutQuantity}
use Rattle.verdict.specs.declared.Refusal.TheVariants.{AmountWithoutDemand, RoomTooShort, BadRecord, AmountBeyondRange, TooFewIntervals}
use Rattle.verdict.specs.declared.Refusal.TheVariants.{DayNotAfter, TooManyAreas, BadBook, DaysDoNotFit, DateThereOrAbsent, BadBasis}
use Rattle.verdict.specs.declared.Refusal.TheVariants.{PaymentRoomTooShort}

abbrev pub refusal_number : Refusal → ℕ
refusal_number BadLength = 1
refusal_number BadEdition = 2
refusal_number BadAreaCount = 3
refusal_number BadDate = 4
refusal_number BadPeakHours = 5
refusal_number (BadContents word) = 6
refusal_number (BadBodyHead word) = 7
refusal_number (BadCoordinator place) = 8
refusal_number (OutOfRange place) = 9
refusal_number (RunningDemandTooLarge place) = 10
refusal_number (PriceWithoutQuantity place) = 11
refusal_number (AmountWithoutDemand place) = 12
refusal_number (RoomTooShort needed) = 13
refusal_number BadRecord = 14
refusal_number AmountBeyondRange = 15
refusal_number (TooFewIntervals place) = 16
refusal_number DayNotAfter = 18
refusal_number TooManyAreas = 19
refusal_number (BadBook word) = 20
refusal_number DaysDoNotFit = 21
refusal_number DateThereOrAbsent = 22
refusal_number BadBasis = 23
refusal_number (PaymentRoomTooShort needed) = 24

abbrev pub refusal_place : Refusal → ℕ
refusal_place BadLength = 0
refusal_place BadEdition = 0
refusal_place BadAreaCount = 2
refusal_place BadDate = 1
refusal_place BadPeakHours = 3
refusal_place (BadContents word) = word
refusal_place (BadBodyHead word) = word
refusal_place (BadCoordinator place) = place
refusal_place (OutOfRange place) = place
refusal_place (RunningDemandTooLarge place) = place
refusal_place (PriceWithoutQuantity place) = place
refusal_place (AmountWithoutDemand place) = place
refusal_place (RoomTooShort needed) = needed
refusal_place BadRecord = 0
refusal_place AmountBeyondRange = 0
refusal_place (TooFewIntervals place) = place
refusal_place DayNotAfter = 0
refusal_place TooManyAreas = 0
refusal_place (BadBook word) = word
refusal_place DaysDoNotFit = 0
refusal_place DateThereOrAbsent = 0
refusal_place BadBasis = 0
refusal_place (PaymentRoomTooShort needed) = needed

-- the answer of a call: accepted, or refused
abbrev pub Verdict : Type 0
Verdict = Result ⊤ Refusal

abbrev pub Accepted : Verdict
Accepted = Ok tt

abbrev pub number_of : Verdict → ℕ
number_of (Ok _) = 0
number_of (Err refusal) = refusal_number refusal

abbrev pub place_of : Verdict → ℕ
place_of (Ok _) = 0
place_of (Err refusal) = refusal_place refusal

-- "number × 1,000,000 + place"
unfoldable pub coded : Verdict → ℕ
coded verdict = number_of verdict * 1000000 + place_of verdict

-- the verdict in the answer of a call that also tells a value where it accepts
abbrev pub verdict_in : {T : Type 0} → Result T Refusal → Verdict
verdict_in (Ok _) = Accepted
verdict_in (Err refusal) = Err refusal
