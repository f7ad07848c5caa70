-- The number of what a price refuses goes by the price alone, and not by where it stands.
use Prim.Native.Nat.{ℕ, ◌+◌, ◌*◌}
use mathlib.Core.Bool.{Bool, true, false, cond}
use mathlib.Core.List.{List}
use mathlib.Core.Path.{◌≡◌, refl}
use lib.Dec.{eqb, leb}
use Rattle.limits.specs.Ranges.{least_present}
use Rattle.verdict.specs.Verdict.{number_of, Accepted}
use Rattle.body.specs.Layout.{points_of, intervals_at}
use Rattle.price.specs.Price.{PriceAnswer, answer_number, answer_count}
use Rattle.surcharge.specs.declared.Terms.{Terms}
use Rattle.amounts.specs.Amounts.{price_answer_at, usable_rule, price_needed, price_rule}

usable_anywhere : (enough without : Bool) (place place' points : ℕ) (answer : PriceAnswer) → leb (least_present * points) (answer_count answer) ≡ enough
    → eqb (answer_number answer) 11 ≡ without
    → number_of (usable_rule place points answer) ≡ number_of (usable_rule place' points answer)
usable_anywhere true true place place' points answer e f = simp (e, f)
usable_anywhere true false place place' points answer e f = simp (e, f)
usable_anywhere false true place place' points answer e f = simp (e, f)
usable_anywhere false false place place' points answer e f = simp (e, f)

pub anywhere : (asked : Bool) (place place' points : ℕ) (answer : PriceAnswer)
    → number_of (cond asked (usable_rule place points answer) Accepted) ≡ number_of (cond asked (usable_rule place' points answer) Accepted)
anywhere true place place' points answer =
    usable_anywhere (leb (least_present * points) (answer_count answer)) (eqb (answer_number answer) 11) place place' points answer refl refl
anywhere false place place' points answer = refl

pub price_anywhere : (terms : Terms) (body : List ℕ) (h start start' : ℕ) → number_of (price_rule terms start body h)
    ≡ number_of (price_rule terms start' body h)
unfolding price_rule
price_anywhere terms body h start start' =
    anywhere (price_needed terms body h) (start + intervals_at body h) (start' + intervals_at body h) (points_of body) (price_answer_at body h)
