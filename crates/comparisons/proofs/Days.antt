-- The file's own d goes by the area's number and its own days.
use Rattle.settlement.specs.Settlement.{own_days}
use Rattle.comparisons.specs.Days.{ByNumberAndDays}

pub own_by : ByNumberAndDays own_days
own_by = record { same = λ number body body' e. e }
