-- The words of a body by its layout: seven head words, the coordinators, the hours.
use Prim.Native.Nat.{ℕ, ◌+◌, ◌*◌, ◌-◌, ◌/◌, ◌%◌, ◌<◌}
use mathlib.Core.Path.{◌≡◌, refl, ap, ◌∙◌}
use native.Mathlib.Nat.{add-zero, mul-add-div_right, mul-add-mod_self_right, div-eq_of_lt, mod-eq_of_lt}
use native.Mathlib.Omega.{arith}
use borrow.Author.Tests.{lt-ltb, le-ltb, eq-eqb, ne_eqb}
use Rattle.hour.specs.Layout.{hour_words}
use Rattle.body.specs.Layout.{hour_start}
use Rattle.locating.specs.declared.Field.{Field}
use Rattle.locating.specs.declared.Field.TheVariants.{IntervalQuantity, IntervalPrice, Demand}
use Rattle.locating.specs.Locating.{number_field, interval_field, hour_field, in_body}
use Rattle.locating_theorems.specs.Found.{place, FoundInBody}

-- word i of an hour by its order
module _ (points : ℕ) where
  number-field : (i : ℕ) → i < 8 → hour_field points i ≡ number_field i
  unfolding hour_field
  number-field i h = rw (lt-ltb i 8 h)

  pair-field : (i : ℕ) → i < 24 * points → hour_field points (8 + i) ≡ interval_field i
  unfolding hour_field
  pair-field i h =
      let e : 8 + i - 8 ≡ i = omega arith in
      rw (le-ltb (8 + i) 8 (omega arith), lt-ltb (8 + i) (8 + 24 * points) (omega arith), e)

  quantity-field : (i : ℕ) → i < 12 * points → hour_field points (8 + 2 * i) ≡ IntervalQuantity (i + 1)
  quantity-field i h =
      let half : 2 * i / 2 ≡ i = omega arith in
      pair-field (2 * i) (omega arith) ∙ rw (eq-eqb (2 * i % 2) 0 (omega arith), half)

  price-field : (i : ℕ) → i < 12 * points → hour_field points (8 + (2 * i + 1)) ≡ IntervalPrice (i + 1)
  price-field i h =
      let half : (2 * i + 1) / 2 ≡ i = omega arith in
      pair-field (2 * i + 1) (omega arith) ∙ rw (ne_eqb ((2 * i + 1) % 2) 0 (λ q. omega (arith, q)), half)

  demand-field : (i : ℕ) → hour_field points (8 + 24 * points + i) ≡ Demand (i + 1)
  unfolding hour_field
  demand-field i =
      let e : 8 + 24 * points + i - (8 + 24 * points) ≡ i = omega arith in
      rw (le-ltb (8 + 24 * points + i) 8 (omega arith), le-ltb (8 + 24 * points + i) (8 + 24 * points) (omega arith), e)

module _ (k points coordinators : ℕ) where
  -- word i of hour h
  in-hour : (h i : ℕ) → i < hour_words points coordinators
      → in_body k points coordinators (hour_start points coordinators h + i) ≡ place (k + 1) (h + 1) (hour_field points i)
  unfolding in_body hour_start
  in-hour h i below =
      let size = hour_words points coordinators in
      let behind : 7 + coordinators + h * size + i - 7 - coordinators ≡ h * size + i = omega arith in
      let hour : (h * size + i) / size ≡ h = mul-add-div_right (omega arith) h i ∙ ap (λ q. h + q) (div-eq_of_lt below) ∙ add-zero h in
      let word : (h * size + i) % size ≡ i = mul-add-mod_self_right h size i ∙ mod-eq_of_lt below in
      rw (le-ltb (7 + coordinators + h * size + i) 7 (omega arith), le-ltb (7 + coordinators + h * size + i - 7) coordinators (omega arith), behind, hour, word)

  at_field : (h from i : ℕ) (field : Field) → i < hour_words points coordinators → from ≡ hour_start points coordinators h + i → hour_field points i ≡ field
      → in_body k points coordinators from ≡ place (k + 1) (h + 1) field
  at_field h from i field below is found = ap (in_body k points coordinators) is ∙ in-hour h i below ∙ ap (place (k + 1) (h + 1)) found

  abbrev start : ℕ → ℕ
  start h = hour_start points coordinators h

  pub found_in_body : FoundInBody k points coordinators
  unfolding in_body
  found_in_body =
      record {
        head = λ i h. rw (lt-ltb i 7 h);
        coordinator = λ i h.
            let e : 7 + i - 7 ≡ i = omega arith in
            rw (le-ltb (7 + i) 7 (omega arith), e, lt-ltb i coordinators h);
        number = λ h i below. at_field h (start h + i) i (number_field i) (omega arith) refl (number-field points i below);
        quantity = λ h i below.
            at_field h (start h + 8 + 2 * i) (8 + 2 * i) (IntervalQuantity (i + 1)) (omega arith) (omega arith) (quantity-field points i below);
        price = λ h i below.
            at_field h (start h + 8 + 2 * i + 1) (8 + (2 * i + 1)) (IntervalPrice (i + 1)) (omega arith) (omega arith) (price-field points i below);
        demand = λ h i below.
            at_field h (start h + 8 + 24 * points + i) (8 + 24 * points + i) (Demand (i + 1)) (omega arith) (omega arith) (demand-field points i);
      }
