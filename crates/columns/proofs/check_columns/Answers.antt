-- The total of rows that are accepted fits a word.
use Rattle.std.proofs.Common.{ap, sym, arith}
use Rattle.verdict.specs.Verdict.{number_of}
use Rattle.columns.proofs.Accepted.{rows_total}
use Rattle.columns.proofs.check_columns.Goals as goal

pub sum_of_demands-requires : goal.sum_of_demands-requires
sum_of_demands-requires c = omega (arith, rows_total _ _ (ap number_of (sym c.in_ok-check_rows.ensures)))
