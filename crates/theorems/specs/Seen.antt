-- What the price of an hour rests on: the intervals whose price was present.
use Rattle.std.specs.Prelude.{ℕ, ◌*◌, ◌≤◌, true, false, List, ◌≡◌, ℤ, length}
use Rattle.limits.specs.Ranges.{least_present}
use Rattle.body.specs.Layout.{points_of, intervals_at}
use Rattle.price.specs.Intervals.{present, first_intervals}
use Rattle.surcharge.specs.declared.Terms.{Terms}
use Rattle.amounts.specs.Amounts.{pairs_from, on_peak_at_price, off_peak_at_price, credit_at_price, on_peak_amount, off_peak_amount, credit_at, price_needed}

-- those of hour h's 12L intervals whose price is present
abbrev pub present_at : List ℕ → ℕ → List (ℕ × ℕ)
present_at body h = present (first_intervals (pairs_from body (intervals_at body h)) (12 * points_of body))

pub record PriceSeen (terms : Terms) (body : List ℕ) (h : ℕ) : Type 0 where
  -- a needed price rests on at least 9L of its 12L
  pub enough : price_needed terms body h ≡ true → least_present * points_of body ≤ length (present_at body h)
  -- and where none is needed the amounts and the credit rest on none: they are the same at every price
  pub else_none : price_needed terms body h ≡ false → (price : ℤ)
      → (on_peak_at_price terms body h price ≡ on_peak_amount terms body h) × (off_peak_at_price terms body h price ≡ off_peak_amount terms body h)
      × (credit_at_price terms body h price ≡ credit_at terms body h)
