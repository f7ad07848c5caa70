use Rattle.std.proofs.Common.{rules}
use Rattle.recording.proofs.AreaMarks.{marks_first}
use Rattle.recording.proofs.marks_of.Goals as goal

pub returns : goal.returns
returns c = rw marks_first (search rules)
