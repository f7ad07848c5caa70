-- A file of a sound book lies within it.
use Rattle.std.proofs.Common.{arith}
use Rattle.book.proofs.Places.{file_within}
use Rattle.book.proofs.file_at.Goals as goal

pub slice_bounds-result-end : goal.slice_bounds-result-end
slice_bounds-result-end c = omega (arith, file_within _ c.requires.1 _ c.requires.0)
