-- Bytes written into lent room: what stands there afterwards.
use Rattle.std.specs.Prelude.{ℕ, ◌+◌, List, ◌++◌, length, take, drop}

-- `bytes` at place `at` of the room, all else as it was
unfoldable pub written : List ℕ → ℕ → List ℕ → List ℕ
written room at bytes = take at room ++ bytes ++ drop (at + length bytes) room

-- `count` bytes of the room, from place `from` on
abbrev pub part : List ℕ → ℕ → ℕ → List ℕ
part room from count = take count (drop from room)
