-- The figures hold: each is computed.
use mathlib.Core.Path.{refl}
use Rattle.exact.specs.Round.{round_div}
use Rattle.exact.specs.Floor.{at_least_zero, at_most_zero}
use Rattle.exact.specs.Total.{total}
use Rattle.words.specs.Word.{word_at, signed_of}
use Rattle.verdict.specs.First.{◌or_else◌, scan}
use Rattle.hour.specs.Check.{interval_rule_at, intervals_rule}
use Rattle.price.specs.Price.{with_interval, average_of, answer_of, load_weighted_within, load_weighted}
use Rattle.price.specs.Intervals.{average_over, first_intervals}
use Rattle.shares.specs.Shares.{sum, shares_from, shares}
use Rattle.surcharge.specs.Surcharge.{surcharge_of, credit_of, on_peak_of, surcharge_in_cents, credit_in_cents, off_peak_of, downward_of}
use Rattle.figure_table.specs.Figures.{Figures}

pub figures : Figures
unfolding round_div at_least_zero at_most_zero word_at signed_of ◌or_else◌ scan with_interval average_of answer_of interval_rule_at intervals_rule load_weighted_within
    load_weighted average_over first_intervals total sum shares_from shares surcharge_of credit_of on_peak_of surcharge_in_cents credit_in_cents off_peak_of
    downward_of
figures =
    record {
      T1 = (refl, refl);
      T2 = (refl, refl);
      T3 = (refl, refl);
      T4 = (refl, refl);
      T5 = (refl, refl);
      T6 = λ price. (refl, refl);
      T7 = (refl, refl, refl);
      T6_T7_shown = (refl, (λ price. (refl, refl)), refl, refl, refl);
      T8 = λ terms. ((λ mec. refl), refl);
      T9 = λ terms. (refl, refl);
      T10 = refl;
      T10_bytes = (refl, refl);
      T11 = refl;
      T11_merged = (refl, refl, refl);
      T11_negated = refl;
      T12 = refl;
      case_P = (refl, refl);
      off_peak_scaled = refl;
    }
