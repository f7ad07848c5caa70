-- Demand 3, areas on their own: an area of a settled file, in a file by itself with the same peak hours, is settled, and its block is the block that it had.
use Prim.Native.Nat.{ℕ, zero, suc, ◌≤◌, ◌<◌}
use mathlib.Core.List.{List, [], ◌∷◌}
use mathlib.Core.Path.{◌≡◌, sym, ap, ap₂, ◌∙◌}
use native.Mathlib.Omega.{arith}
use lib.IntN.{ℤ}
use lib.ListN.{length}
use Rattle.words.specs.Bytes.{Below}
use Rattle.limits.specs.declared.Limits.{Limits}
use Rattle.limits.specs.Ranges.{day_hours}
use Rattle.limits.specs.Editions.{limits_of}
use Rattle.limits.proofs.Editions.{proved}
use Rattle.verdict.specs.Verdict.{number_of}
use Rattle.body.specs.Layout.{coordinators_of}
use Rattle.body.proofs.Kept.{always}
use Rattle.contents.specs.File.{edition_of, day_of, areas_of, peak_of, body_at}
use Rattle.contents.specs.Parts.{Area, area_of, front_of, words_to}
use Rattle.contents.proofs.Parts.{peak_there, count_there, number_there, body_is}
use Rattle.dayfile.specs.Check.{check_of, check_within}
use Rattle.dayfile.proofs.Facts.{within_limits, file_length, file_head, file_entry, body_length}
use Rattle.acceptance.proofs.SoundAccepted.{file_sound}
use Rattle.parts.specs.Good.{number_to, ciso_to, GoodArea, Good}
use Rattle.parts.proofs.GoodFile.{whole, small, file_accepted}
use Rattle.parts.proofs.OwnParts.{size_is}
use Rattle.parts.proofs.OwnGood.{own_words}
use Rattle.statement.specs.Block.{area_numbers, block}
use Rattle.settlement.specs.Settlement.{needed_to, numbers_needed, terms_by, own_days, settle_by}
use Rattle.settlement.specs.Shown.{statement_left_by, hour_shown}
use Rattle.settlement.proofs.Shown.{hour_shown_lem}
use Rattle.comparisons.specs.Alone.{AloneFile, alone}
use Rattle.theorems.proofs.SettledExactly.{HourSettled, settled_says, settled_accepts}

-- ---- of two files that stand so

module _ (k : ℕ) (file other : List ℕ) (a : AloneFile k file other) where
  needed-one : needed_to other 1 ≡ area_numbers (coordinators_of (body_at other 0))
  unfolding needed_to
  needed-one = omega arith

  pub alone_needs : numbers_needed other ≡ area_numbers (coordinators_of (body_at file k))
  alone_needs = ap (needed_to other) a.one ∙ needed-one ∙ ap (λ b. area_numbers (coordinators_of b)) a.body

  -- it is settled under the same terms, under any d
  terms-same : (d : ℕ → List ℕ → ℕ) → terms_by d other 0 ≡ terms_by d file k
  terms-same d = rw (a.peak, ap₂ d a.number a.body)

-- under any d: its block is the block that it had, ..
abbrev pub AloneBlock : (ℕ → List ℕ → ℕ) → Type 0
AloneBlock d =
    (k : ℕ) (file other : List ℕ) → AloneFile k file other → block (terms_by d other 0) (body_at other 0) ≡ block (terms_by d file k) (body_at file k)

pub alone_block_by : (d : ℕ → List ℕ → ℕ) → AloneBlock d
alone_block_by d k file other a = rw (terms-same k file other a d, a.body)

-- .. it is settled wherever there is room for its numbers, ..
abbrev pub AloneSettled : (ℕ → List ℕ → ℕ) → Type 0
AloneSettled d =
    (k : ℕ) (file other : List ℕ) → AloneFile k file other → k < areas_of file → number_of (check_of other) ≡ 0 → (room room' : ℕ)
    → number_of (settle_by d file room) ≡ 0 → area_numbers (coordinators_of (body_at file k)) ≤ room' → number_of (settle_by d other room') ≡ 0

pub alone_settled_by : (d : ℕ → List ℕ → ℕ) → AloneSettled d
alone_settled_by d k file other a below checked room room' z fits =
    settled_accepts d room' other
    (record { checked = checked; roomy = omega (arith, alone_needs k file other a, fits); hour = λ j h p q. by j h (omega (arith, p, a.one)) q })
  where
    by : (j h : ℕ) → j < 1 → h < day_hours → HourSettled (terms_by d other j) (body_at other j) h
    by zero h p q = rw (terms-same k file other a d, a.body) ((settled_says d room file z).hour k h below q)
    by (suc j) h p q = absurd (omega arith)

-- .. and read off the two statements: every hour shows the numbers that it showed
abbrev pub AloneShows : (ℕ → List ℕ → ℕ) → Type 0
AloneShows d =
    (k : ℕ) (file other : List ℕ) → AloneFile k file other → k < areas_of file → (statement statement' : List ℤ)
    → number_of (settle_by d file (length statement)) ≡ 0 → number_of (settle_by d other (length statement')) ≡ 0 → (h : ℕ) → h < day_hours
    → hour_shown other 0 h (statement_left_by d other statement') ≡ hour_shown file k h (statement_left_by d file statement)

pub alone_shows_by : (d : ℕ → List ℕ → ℕ) → AloneShows d
alone_shows_by d k file other a below statement statement' z y h q =
    hour_shown_lem d other statement' y 0 h (omega (arith, a.one)) q
    ∙ rw (terms-same k file other a d, a.body) (sym (hour_shown_lem d file statement z k h below q))

-- ---- of `settle`

pub alone_block : AloneBlock own_days
alone_block = alone_block_by own_days

pub alone_settled : AloneSettled own_days
alone_settled = alone_settled_by own_days

pub alone_shows : AloneShows own_days
alone_shows = alone_shows_by own_days

-- ---- the file that `alone` makes: it is accepted where the first is, and stands so to it

module _ (file : List ℕ) (k : ℕ) (accepted : number_of (check_of file) ≡ 0) (below : k < areas_of file) where
  -- the limits that the file's first word sets
  abbrev limits : Limits
  limits = limits_of (edition_of file)

  checked : number_of (check_within limits file) ≡ 0
  checked = within_limits file accepted

  abbrev single : List Area
  single = area_of file k ∷ []

  good-area : GoodArea limits single 0
  unfolding number_to ciso_to
  good-area =
      let entry = file_entry limits file checked k below in
      let size = size_is limits file checked k below in
      let sound = file_sound limits file checked k below in
      record {
        rising = omega (arith, entry.rising);
        small = entry.small;
        whole = omega (arith, size, body_length limits file checked k below);
        least = omega (arith, size, entry.least);
        most = omega (arith, size, entry.most_words);
        sound = sound;
        one_ciso = omega (arith, (sound.kind always).0);
      }

  good : Good limits (edition_of file) (day_of file) (peak_of file) single
  unfolding words_to
  good =
      let head = file_head limits file checked in
      let entry = file_entry limits file checked k below in
      let own = own_words limits file checked k (omega arith) in
      record {
        known = head.edition_known_lem;
        real = head.real;
        some = omega arith;
        few = omega (arith, head.some, head.few);
        peak_known = head.peak_known;
        area = by;
        fits = λ most e. omega (
          arith,
          size_is limits file checked k below,
          entry.inside,
          entry.here,
          own,
          head.some,
          (file_length limits file
              checked).most_bytes most e,
        );
      }
    where
      by : (j : ℕ) → j < length single → GoodArea limits single j
      by zero h = good-area
      by (suc j) h = absurd (omega arith)

  abbrev front : Below 4294967296 (front_of (edition_of file) (day_of file) (peak_of file) single)
  front = small limits (edition_of file) (day_of file) (peak_of file) single good (proved (edition_of file))

  pub alone_accepted : number_of (check_of (alone file k)) ≡ 0
  unfolding alone
  alone_accepted = file_accepted (edition_of file) (day_of file) (peak_of file) single good

  pub alone_alone : AloneFile k file (alone file k)
  unfolding alone
  alone_alone =
      record {
        peak = peak_there (edition_of file) (day_of file) (peak_of file) single front;
        one = count_there (edition_of file) (day_of file) (peak_of file) single front;
        number = number_there (edition_of file) (day_of file) (peak_of file) single front 0 (omega arith);
        body = body_is (edition_of file) (day_of file) (peak_of file) single front 0 (omega arith)
            (whole limits (edition_of file) (day_of file) (peak_of file) single good (proved (edition_of file)));
      }
