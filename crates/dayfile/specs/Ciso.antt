-- The CISO areas of a day file, of which there is at most one (docs/RULES.md, section 2).
use Rattle.std.specs.Prelude.{ℕ, zero, suc, ◌+◌, List}
use Rattle.body.specs.Layout.{kind_of}
use Rattle.contents.specs.File.{body_at}

-- how many CISO areas stand before area k
unfoldable pub ciso_before : List ℕ → ℕ → ℕ
ciso_before file zero = 0
ciso_before file (suc k) = ciso_before file k + kind_of (body_at file k)
