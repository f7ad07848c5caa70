-- What the check of a book's contents establishes.
use Rattle.std.specs.Prelude.{ℕ, ◌+◌, ◌*◌, ◌<◌, ◌≤◌, List, ◌≡◌, length}
use Rattle.book.specs.Check.{most_book_days, least_day_words}
use Rattle.book.specs.Read.{count_of, start_at, size_at, due_at, end_of}

pub record Sound (room : List ℕ) : Type 0 where
  pub few : count_of room ≤ most_book_days
  pub whole : 8 + 12 * count_of room ≤ length room
  pub due : (k : ℕ) → k < count_of room → start_at room k ≡ due_at room k
  pub long : (k : ℕ) → k < count_of room → least_day_words ≤ size_at room k
  pub inside : 4 * end_of room ≤ length room
