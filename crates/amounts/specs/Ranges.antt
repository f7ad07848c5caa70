-- What the functions of an hour ask: its deficiencies, its interval pairs and its amounts are in range, and where it stands.
use Rattle.std.specs.Prelude.{ℕ, ◌+◌, ◌*◌, ◌≤◌, ◌<◌, List, ◌≡◌, nat_abs, length}
use Rattle.words.specs.Word.{word_at}
use Rattle.limits.specs.Ranges.{day_hours, most_amount, proved_points}
use Rattle.hour.specs.Kept.{DeficiencyKept}
use Rattle.body.specs.Layout.{points_of, hour_at}
use Rattle.body.specs.Kept.{Sound}
use Rattle.price.specs.Ranged.{Ranged}
use Rattle.surcharge.specs.declared.Terms.{Terms}
use Rattle.surcharge.specs.declared.Day.{Day}
use Rattle.surcharge.specs.Ranges.{TermsKept}
use Rattle.amounts.specs.declared.Amounts.{Amounts}
use Rattle.amounts.specs.Amounts.{pairs_from, day_facts}

-- the hour that starts at word `at`
pub record HourRanged (body : List ℕ) (at : ℕ) : Type 0 where
  pub room : 4 * (at + 8) ≤ length body
  pub deficiency : (i : ℕ) → i < 6 → DeficiencyKept (word_at body (at + i))

-- the pairs of `load` load points that start at word `from`
pub record PairsRanged (body : List ℕ) (load from : ℕ) : Type 0 where
  pub load_is : load ≡ points_of body
  pub few : load ≤ proved_points
  pub room : 4 * from + 96 * load ≤ length body
  pub ranged : Ranged (pairs_from body from) (12 * points_of body)

-- `at` is where hour h of a sound body starts, and `day` has the facts of its day under these terms
pub record AtHour (terms : Terms) (day : Day) (body : List ℕ) (h at : ℕ) : Type 0 where
  pub kept : TermsKept terms
  pub sound : Sound proved_points body
  pub below : h < day_hours
  pub here : at ≡ hour_at body h
  pub facts : day ≡ day_facts terms body

pub record AmountsRanged (amounts : Amounts) : Type 0 where
  pub on : nat_abs amounts.on.0 ≤ most_amount
  pub off : nat_abs amounts.off.0 ≤ most_amount
  pub down : nat_abs amounts.down.0 ≤ most_amount
  pub surcharge : nat_abs amounts.surcharge.0 ≤ most_amount
  pub credit : nat_abs amounts.credit.0 ≤ most_amount
