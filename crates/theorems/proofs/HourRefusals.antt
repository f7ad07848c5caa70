-- Settlement answers 16 exactly where the first hour with a refusal has a needed price with fewer than 9L present of its 12L, 11 exactly where it has
-- enough and no quantity under them, and 12 exactly where neither is so, and there is an amount and no demand.
use Prim.Native.Nat.{ℕ, ◌*◌, ◌≤◌}
use mathlib.Core.Bool.{Bool, true, false, not, cond, ◌||◌, true≢false}
use mathlib.Core.List.{List}
use mathlib.Core.Logic.{◌⊎◌, ⊎_elim, ◌↔◌, inl, inr}
use mathlib.Core.Path.{◌≡◌, refl, sym, ap, ◌∙◌}
use native.Mathlib.Omega.{arith}
use lib.Dec.{eqb, leb, ltb}
use lib.IntN.{nat_abs}
use lib.ListN.{length}
use borrow.Author.Tests.{eqb-true, eq-eqb, eqb-false, ne_eqb, leb-true, le-leb, leb-false, lt-leb, ltb-false, le-ltb}
use Rattle.exact.specs.Total.{total}
use Rattle.limits.specs.Ranges.{least_present}
use Rattle.std.specs.Prelude.{Err}
use Rattle.verdict.specs.declared.Refusal.TheVariants.{PriceWithoutQuantity, AmountWithoutDemand, TooFewIntervals}
use Rattle.verdict.specs.Verdict.{number_of, place_of, Accepted, Verdict}
use Rattle.verdict.specs.First.{rule◌else◌then◌, ◌or_else◌}
use Rattle.body.specs.Layout.{kind_of, points_of, demands_of}
use Rattle.contents.specs.File.{body_at}
use Rattle.acceptance.proofs.Acceptance.{check_most}
use Rattle.price.specs.declared.Average.{Average}
use Rattle.price.specs.Price.{answer_of, answer_number}
use Rattle.surcharge.specs.declared.Terms.{Terms}
use Rattle.amounts.specs.Amounts.{amount_at, price_from, price_answer_at, price_needed, price_rule}
use Rattle.settlement.specs.Settlement.{chargeable, charge_rule, hour_refusal, terms_by, own_days, settle_by}
use Rattle.theorems.specs.Seen.{present_at}
use Rattle.theorems.specs.Refused.{Refuses, quantity_under, hour_verdict, HourRefuses, TooFewSeen, PriceWithout, NobodyToCharge, OnlyNobodyToCharge}
use Rattle.theorems.specs.Refused.{AtFirstHour, first_interval, first_demand}
use Rattle.theorems.proofs.PricesSeen.{seen_at}
use Rattle.theorems.proofs.SettledOrUntouched.{refuses_exactly_by}

-- ---- an hour by its four tests

module _ (at from : ℕ) where
  abbrev hour : (needed enough without charged : Bool) → Verdict
  hour needed enough without charged =
      cond needed (rule enough else TooFewIntervals at then rule not without else PriceWithoutQuantity at then Accepted) Accepted
      or_else (rule charged else AmountWithoutDemand from then Accepted)

  few-says : (without charged : Bool) → hour true false without charged ≡ Err (TooFewIntervals at)
  unfolding ◌or_else◌
  few-says without charged = refl

  without-says : (charged : Bool) → hour true true true charged ≡ Err (PriceWithoutQuantity at)
  unfolding ◌or_else◌
  without-says charged = refl

  uncharged-says : (needed enough without : Bool) → (needed ≡ true → (enough ≡ true) × (without ≡ false))
      → hour needed enough without false ≡ Err (AmountWithoutDemand from)
  unfolding ◌or_else◌
  uncharged-says true enough without is = rw ((is refl).0, (is refl).1)
  uncharged-says false enough without is = refl

  -- and there is no other way to refuse
  tests-why : (needed enough without charged : Bool) → Refuses (hour needed enough without charged)
      → ((needed ≡ true) × (enough ≡ false))
      ⊎ (((needed ≡ true) × (enough ≡ true) × (without ≡ true))
      ⊎ ((needed ≡ true → (enough ≡ true) × (without ≡ false)) × (charged ≡ false)))
  unfolding ◌or_else◌
  tests-why true false without charged r = inl (refl, refl)
  tests-why true true true charged r = inr (inl (refl, refl, refl))
  tests-why true true false false r = inr (inr ((λ n. (refl, refl)), refl))
  tests-why true true false true r = absurd (r refl)
  tests-why false enough without false r = inr (inr ((λ n. absurd (true≢false (sym n))), refl))
  tests-why false enough without true r = absurd (r refl)

-- ---- its tests

-- a price answers 11 where there is no quantity
no_quantity : (t : Bool) (average : Average) → eqb average.quantity.0 0 ≡ t → eqb (answer_number (answer_of average)) 11 ≡ t
unfolding answer_of
no_quantity true average e = rw e
no_quantity false average e = rw e

module _ (d : ℕ → List ℕ → ℕ) (file : List ℕ) (k h : ℕ) where
  abbrev body : List ℕ
  body = body_at file k

  abbrev terms : Terms
  terms = terms_by d file k

  abbrev needed : Bool
  needed = price_needed terms body h

  abbrev enough : Bool
  enough = leb (least_present * points_of body) (length (present_at body h))

  abbrev without : Bool
  without = eqb (quantity_under body h) 0

  without_is : eqb (answer_number (price_answer_at body h)) 11 ≡ without
  unfolding price_from
  without_is = no_quantity without _ refl

  hour-is : hour_verdict d file k h ≡ hour (first_interval d file k h) (first_demand d file k h) needed enough without (chargeable terms body h)
  unfolding hour_refusal price_rule charge_rule
  hour-is = rw (seen_at body h, without_is)

  nobody : chargeable terms body h ≡ false → NobodyToCharge d file k h
  unfolding chargeable
  nobody e = by (eqb (kind_of body) 1) (eqb (nat_abs (amount_at terms body h)) 0) (ltb 0 (total (demands_of body h))) refl refl refl e
    where
      by : (kind none some : Bool) → eqb (kind_of body) 1 ≡ kind → eqb (nat_abs (amount_at terms body h)) 0 ≡ none → ltb 0 (total (demands_of body h)) ≡ some
          → (not kind || (none || some)) ≡ false → NobodyToCharge d file k h
      by true false false a b c q = (eqb-true _ _ a, eqb-false _ _ b, omega (arith, ltb-false 0 (total (demands_of body h)) c))
      by true true some a b c q = absurd (true≢false q)
      by true false true a b c q = absurd (true≢false q)
      by false none some a b c q = absurd (true≢false q)

  not-chargeable : NobodyToCharge d file k h → chargeable terms body h ≡ false
  unfolding chargeable
  not-chargeable n =
      rw (eq-eqb (kind_of body) 1 n.0, ne_eqb (nat_abs (amount_at terms body h)) 0 n.1, le-ltb 0 (total (demands_of body h)) (omega (arith, n.2)))

  -- ---- what an hour answers, by why it refuses

  sixteen-hour : TooFewSeen d file k h → hour_verdict d file k h ≡ Err (TooFewIntervals (first_interval d file k h))
  sixteen-hour few =
      rw (hour-is, few.0, lt-leb (least_present * points_of body) (length (present_at body h)) few.1)
      (few-says (first_interval d file k h) (first_demand d file k h) without (chargeable terms body h))

  eleven-hour : PriceWithout d file k h → hour_verdict d file k h ≡ Err (PriceWithoutQuantity (first_interval d file k h))
  eleven-hour w =
      rw (hour-is, w.0, le-leb (least_present * points_of body) (length (present_at body h)) w.1, eq-eqb (quantity_under body h) 0 w.2)
      (without-says (first_interval d file k h) (first_demand d file k h) (chargeable terms body h))

  -- a price that is needed is one that can be used
  usable : OnlyNobodyToCharge d file k h → needed ≡ true → (enough ≡ true) × (without ≡ false)
  usable t n = by enough refl
    where
      by : (some : Bool) → enough ≡ some → (enough ≡ true) × (without ≡ false)
      by true e = (e, ne_eqb _ _ (λ none. t.1 (n, leb-true _ _ e, none)))
      by false e = absurd (t.0 (n, leb-false _ _ e))

  twelve-hour : OnlyNobodyToCharge d file k h → hour_verdict d file k h ≡ Err (AmountWithoutDemand (first_demand d file k h))
  twelve-hour t =
      rw (hour-is, not-chargeable t.2) (uncharged-says (first_interval d file k h) (first_demand d file k h) needed enough without (usable t))

  -- and it refuses for one of the three
  hour-why : Refuses (hour_verdict d file k h) → TooFewSeen d file k h ⊎ (PriceWithout d file k h ⊎ OnlyNobodyToCharge d file k h)
  hour-why r =
      ⊎_elim (λ e. inl (e.0, leb-false _ _ e.1))
      (⊎_elim (λ e. inr (inl (e.0, leb-true _ _ e.1, eqb-true _ _ e.2)))
      (λ e. inr (inr (
        (λ few. omega (arith, few.1, leb-true (least_present * points_of body) (length (present_at body h)) (e.0 few.0).0)),
        (λ w. eqb-false _ _ (e.0 w.0).1 w.2),
        nobody e.1,
      ))))
      (tests-why (first_interval d file k h) (first_demand d file k h) needed enough without (chargeable terms body h)
      (λ q. r (ap number_of hour-is ∙ q)))

  -- so a number tells why
  hour-sixteen : number_of (hour_verdict d file k h) ≡ 16 → TooFewSeen d file k h
  hour-sixteen n =
      ⊎_elim (λ few. few)
      (⊎_elim (λ w. absurd (omega (arith, n, ap number_of (eleven-hour w)))) (λ t. absurd (omega (arith, n, ap number_of (twelve-hour t)))))
      (hour-why (λ q. omega (arith, n, q)))

  hour-eleven : number_of (hour_verdict d file k h) ≡ 11 → PriceWithout d file k h
  hour-eleven n =
      ⊎_elim (λ few. absurd (omega (arith, n, ap number_of (sixteen-hour few))))
      (⊎_elim (λ w. w) (λ t. absurd (omega (arith, n, ap number_of (twelve-hour t)))))
      (hour-why (λ q. omega (arith, n, q)))

  hour-twelve : number_of (hour_verdict d file k h) ≡ 12 → OnlyNobodyToCharge d file k h
  hour-twelve n =
      ⊎_elim (λ few. absurd (omega (arith, n, ap number_of (sixteen-hour few))))
      (⊎_elim (λ w. absurd (omega (arith, n, ap number_of (eleven-hour w)))) (λ t. t))
      (hour-why (λ q. omega (arith, n, q)))

-- ---- settlement

module _ (d : ℕ → List ℕ → ℕ) (file : List ℕ) (room : ℕ) where
  -- neither the check nor the room has such a number
  at-hour : 11 ≤ number_of (settle_by d file room) → (number_of (settle_by d file room) ≡ 13 → ⊥) → HourRefuses d file room (settle_by d file room)
  at-hour low other =
      ⊎_elim (λ c. absurd (omega (arith, low, ap number_of c.answered, check_most file)))
      (⊎_elim (λ c. absurd (other (ap number_of c.answered))) (λ c. c))
      ((refuses_exactly_by d file room (settle_by d file room)).0 ((λ q. omega (arith, low)), refl))

  -- a case of the verdict is the answer, with its place, exactly where the first hour with a refusal is so
  module _ (n p : ℕ) (low : 11 ≤ n) (other : n ≡ 13 → ⊥) (Because : ℕ → ℕ → Type 0) (place_in : ℕ → ℕ → ℕ) (case : ℕ → Verdict)
      (number_is : (place : ℕ) → number_of (case place) ≡ n) (place_is : (place : ℕ) → place_of (case place) ≡ place)
      (says : (k h : ℕ) → number_of (hour_verdict d file k h) ≡ n → Because k h)
      (answers : (k h : ℕ) → Because k h → hour_verdict d file k h ≡ case (place_in k h)) where
    there : (number_of (settle_by d file room) ≡ n) × (place_of (settle_by d file room) ≡ p) → AtFirstHour d file room Because place_in p
    there a =
        let c = at-hour (omega (arith, a.0)) (λ q. other (sym a.0 ∙ q)) in
        let why = says c.k c.h (ap number_of (sym c.answered) ∙ a.0) in
        record {
          checked = c.checked;
          enough = omega (arith, c.roomy);
          k = c.k;
          h = c.h;
          first = c.first;
          because = why;
          here = sym a.1 ∙ ap place_of (c.answered ∙ answers c.k c.h why) ∙ place_is _;
        }

    back : AtFirstHour d file room Because place_in p → (number_of (settle_by d file room) ≡ n) × (place_of (settle_by d file room) ≡ p)
    back b =
        let settles = ((refuses_exactly_by d file room (hour_verdict d file b.k b.h)).1
        (inr (inr (record { checked = b.checked; roomy = b.enough; k = b.k; h = b.h; first = b.first; answered = refl })))).1 in
        let answer = settles ∙ answers b.k b.h b.because in
        (ap number_of answer ∙ number_is _, ap place_of answer ∙ place_is _ ∙ sym b.here)

    exactly : ((number_of (settle_by d file room) ≡ n) × (place_of (settle_by d file room) ≡ p)) ↔ AtFirstHour d file room Because place_in p
    exactly = (there, back)

-- `settle` under d answers n at p exactly where the first hour with a refusal is so, and p is its place
abbrev pub AnswersExactly : (ℕ → List ℕ → ℕ) → ℕ → (Because : List ℕ → ℕ → ℕ → Type 0) → (place_in : List ℕ → ℕ → ℕ → ℕ) → Type 0
AnswersExactly d n Because place_in =
    (file : List ℕ) (room p : ℕ) → ((number_of (settle_by d file room) ≡ n) × (place_of (settle_by d file room) ≡ p))
    ↔ AtFirstHour d file room (Because file) (place_in file) p

abbrev pub SixteenExactly : (ℕ → List ℕ → ℕ) → Type 0
SixteenExactly d = AnswersExactly d 16 (TooFewSeen d) (first_interval d)

abbrev pub ElevenExactly : (ℕ → List ℕ → ℕ) → Type 0
ElevenExactly d = AnswersExactly d 11 (PriceWithout d) (first_interval d)

abbrev pub TwelveExactly : (ℕ → List ℕ → ℕ) → Type 0
TwelveExactly d = AnswersExactly d 12 (OnlyNobodyToCharge d) (first_demand d)

-- the number of an hour that refuses is 16, 11 or 12
abbrev pub SixteenElevenOrTwelve : (ℕ → List ℕ → ℕ) → Type 0
SixteenElevenOrTwelve d =
    (file : List ℕ) (k h : ℕ) → let hour = hour_verdict d file k h in
    Refuses hour → (number_of hour ≡ 16) ⊎ ((number_of hour ≡ 11) ⊎ (number_of hour ≡ 12))

pub sixteen_exactly_by : (d : ℕ → List ℕ → ℕ) → SixteenExactly d
sixteen_exactly_by d file room p =
    exactly d file room 16 p (omega arith) (λ q. omega arith) (TooFewSeen d file) (first_interval d file) (λ p. Err (TooFewIntervals p)) (λ _. refl) (λ _. refl)
    (hour-sixteen d file) (sixteen-hour d file)

pub eleven_exactly_by : (d : ℕ → List ℕ → ℕ) → ElevenExactly d
eleven_exactly_by d file room p =
    exactly d file room 11 p (omega arith) (λ q. omega arith) (PriceWithout d file) (first_interval d file) (λ p. Err (PriceWithoutQuantity p)) (λ _. refl) (λ _. refl)
    (hour-eleven d file) (eleven-hour d file)

pub twelve_exactly_by : (d : ℕ → List ℕ → ℕ) → TwelveExactly d
twelve_exactly_by d file room p =
    exactly d file room 12 p (omega arith) (λ q. omega arith) (OnlyNobodyToCharge d file) (first_demand d file) (λ p. Err (AmountWithoutDemand p)) (λ _. refl) (λ _. refl)
    (hour-twelve d file) (twelve-hour d file)

pub sixteen_eleven_or_twelve_by : (d : ℕ → List ℕ → ℕ) → SixteenElevenOrTwelve d
sixteen_eleven_or_twelve_by d file k h r =
    ⊎_elim (λ few. inl (ap number_of (sixteen-hour d file k h few)))
    (⊎_elim (λ w. inr (inl (ap number_of (eleven-hour d file k h w)))) (λ t. inr (inr (ap number_of (twelve-hour d file k h t)))))
    (hour-why d file k h r)

-- ---- of `settle`

pub sixteen_exactly : SixteenExactly own_days
sixteen_exactly = sixteen_exactly_by own_days

pub eleven_exactly : ElevenExactly own_days
eleven_exactly = eleven_exactly_by own_days

pub twelve_exactly : TwelveExactly own_days
twelve_exactly = twelve_exactly_by own_days

pub sixteen_eleven_or_twelve : SixteenElevenOrTwelve own_days
sixteen_eleven_or_twelve = sixteen_eleven_or_twelve_by own_days
