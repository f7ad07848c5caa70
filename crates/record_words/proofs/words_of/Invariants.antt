use Rattle.std.proofs.Common.{◌≡◌, ℕ, ◌<◌, length, get_or}
use Rattle.recording.specs.Record.{place}
use Rattle.record_words.specs.Words.{record_words, place_in}
use Rattle.record_words.proofs.words_of.Given as goal

abbrev pub invariant-loop-k : goal.invariant-loop-k
invariant-loop-k l =
    record {
      length_is : length l.words ≡ record_words;
      last : get_or l.words 0 0 ≡ l.fn.given.last;
      held : get_or l.words 1 0 ≡ l.fn.given.held;
      places : (j : ℕ) → j < l.k → place_in l.words j ≡ get_or l.fn.given.places j (place 0 0);
    }
