-- The entries of a book rewritten: what stands there once a day is added or withdrawn. An entry is read and written by its words.
use Rattle.std.specs.Prelude.{ℕ, zero, suc, ◌+◌, ◌-◌, List, [], ◌++◌}
use Rattle.words.specs.Bytes.{word_bytes}
use Rattle.book.specs.Days.{entry_bytes}
use Rattle.book.specs.Read.{date_at, start_at, size_at}

module _ (room : List ℕ) where
  -- m entries from entry k on, each start by `more` later
  unfoldable pub later : (more k m : ℕ) → List ℕ
  later more k zero = []
  later more k (suc m) = entry_bytes (date_at room k) (start_at room k + more) (size_at room k) ++ later more (suc k) m

  -- m entries from entry k on, each start by `less` earlier
  unfoldable pub earlier : (less k m : ℕ) → List ℕ
  earlier less k zero = []
  earlier less k (suc m) = entry_bytes (date_at room k) (start_at room k - less) (size_at room k) ++ earlier less (suc k) m

  -- head and contents with an entry more at place k of n
  abbrev pub entered : (n k date start size : ℕ) → List ℕ
  entered n k date start size =
      word_bytes 1 ++ (word_bytes (n + 1) ++ (later 3 0 k ++ (entry_bytes date start size ++ later (3 + size) k (n - k))))

  -- head and contents without entry k of n, whose file has `size` words
  abbrev pub left_over : (n k size : ℕ) → List ℕ
  left_over n k size = word_bytes 1 ++ word_bytes (n - 1) ++ earlier 3 0 k ++ earlier (3 + size) (k + 1) (n - 1 - k)
