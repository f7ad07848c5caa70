use Rattle.std.proofs.Common.{◌≡◌, ℕ, ◌<◌, length, get_or}
use Rattle.limits.specs.Editions.{most_held}
use Rattle.recording.specs.Record.{place}
use Rattle.record_words.specs.Words.{place_in}
use Rattle.record_words.proofs.record_of.Given as goal

abbrev pub invariant-loop-k : goal.invariant-loop-k
invariant-loop-k l =
    record {
      length_is : length l.places ≡ most_held;
      read : (j : ℕ) → j < l.k → place_in l.words j ≡ get_or l.places j (place 0 0);
    }
