-- A body as a part of a lent file: its bytes, in the caller's own memory, at the place that its contents entry says.
use Rattle.std.specs.Prelude.{ℕ, ◌+◌, ◌*◌, List, ◌≡◌}
use Rattle.std.specs.Borrow.{Bor}
use Rattle.contents.specs.File.{start_at, body_at}

-- a part of a file: its first byte, counted from the file's first, and its bytes
pub record Part : Type 0 where
  pub from : ℕ
  pub bytes : List ℕ

-- "its place fixed by the contents entry"
abbrev pub body_part : List ℕ → ℕ → Part
body_part file k = record { from = 4 * start_at file k; bytes = body_at file k }

-- What is handed back of the lent file is that part of it: the bytes, in the caller's own memory, at the place.
abbrev pub HandsBack : Bor (List ℕ) → Part → Bor (List ℕ) → Type 0
HandsBack lent part back = (back.now ≡ part.bytes) × (back.ref_ptr ≡ (lent.ref_ptr.0, part.from + lent.ref_ptr.1))
