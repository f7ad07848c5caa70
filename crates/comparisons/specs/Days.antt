-- What is asked of d where two files are compared whose bodies differ.
use Rattle.std.specs.Prelude.{ℕ, List, ◌≡◌}
use Rattle.body.specs.Layout.{days_of}

-- d goes by an area's number and its body's own persistent days: no other word of the body enters into it
pub record ByNumberAndDays (d : ℕ → List ℕ → ℕ) : Type 0 where
  pub same : (number : ℕ) (body body' : List ℕ) → days_of body ≡ days_of body' → d number body ≡ d number body'
