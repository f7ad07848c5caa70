-- What the words of a body must keep, in file order. `start` is the body's first word in the file: a place is `start` and the word in the body.
use Rattle.std.specs.Prelude.{ℕ, ◌+◌, ◌/◌, cond, ◌&&◌, List, eqb, leb, ltb, nat_abs, length}
use Rattle.words.specs.Word.{word_at, signed_of}
use Rattle.limits.specs.declared.Limits.{Limits}
use Rattle.limits.specs.Ranges.{day_hours, most_hub_price, most_days, largest_number, most_coordinators}
use Rattle.verdict.specs.Verdict.{Accepted, Verdict}
use Rattle.verdict.specs.declared.Refusal.TheVariants.{BadContents, BadBodyHead, BadCoordinator}
use Rattle.verdict.specs.First.{rule◌else◌then◌, ◌or_else◌, scan}
use Rattle.hour.specs.Check.{hour_rule}
use Rattle.body.specs.Layout.{body_words, hour_start, coordinator_before}

-- ---- the head: kind, EDAM flag, persistent days, two hub prices, load points. `ciso` CISO areas stand before this one.

unfoldable pub body_head_rule : (points ciso start kind flag days hubA hubB load : ℕ) → Verdict
body_head_rule points ciso start kind flag days hubA hubB load =
    rule leb kind 1 else BadBodyHead start then
    rule leb (ciso + kind) 1 else BadBodyHead start then
    rule leb flag 1 else BadBodyHead (start + 1) then
    rule leb days most_days else BadBodyHead (start + 2) then
    rule leb hubA most_hub_price else BadBodyHead (start + 3) then
    rule leb hubB most_hub_price else BadBodyHead (start + 4) then
    rule leb 1 load && leb load points else BadBodyHead (start + 5) then
    Accepted

-- the most coordinators of an area: "1 to 64; exactly 1 for kind 0"
abbrev pub most_of_kind : ℕ → ℕ
most_of_kind kind = cond (eqb kind 0) 1 most_coordinators

-- the word of K, in a body of `size` words: first its own rule, then the size
unfoldable pub coordinator_count_rule : (start size most load count : ℕ) → Verdict
coordinator_count_rule start size most load count =
    rule leb 1 count && leb count most else BadBodyHead (start + 6) then
    rule eqb size (body_words load count) else BadContents (start + 6) then
    Accepted

-- ---- the coordinator numbers, strictly rising

abbrev pub coordinator_rule : (place before number : ℕ) → Verdict
coordinator_rule place before number = rule ltb before number && leb number largest_number else BadCoordinator place then Accepted

module _ (start : ℕ) (body : List ℕ) where
  unfoldable pub coordinator_rule_at : ℕ → Verdict
  coordinator_rule_at i = coordinator_rule (start + (7 + i)) (coordinator_before body i) (word_at body (7 + i))

  unfoldable pub coordinators_rule : ℕ → Verdict
  coordinators_rule count = scan coordinator_rule_at 0 count

  unfoldable pub hour_rule_at : ℕ → ℕ → ℕ → Verdict
  hour_rule_at load count h = hour_rule start body load count (hour_start load count h)

  unfoldable pub hours_rule : ℕ → ℕ → Verdict
  hours_rule load count = scan (hour_rule_at load count) 0 day_hours

  unfoldable pub body_head_of : ℕ → ℕ → Verdict
  body_head_of points ciso =
      body_head_rule points ciso start (word_at body 0) (word_at body 1) (word_at body 2) (nat_abs (signed_of (word_at body 3))) (nat_abs (signed_of (word_at body 4)))
      (word_at body 5)

  -- the seven words of the head
  unfoldable pub front_rule : ℕ → ℕ → Verdict
  front_rule points ciso =
      body_head_of points ciso
      or_else coordinator_count_rule start (length body / 4) (most_of_kind (word_at body 0)) (word_at body 5) (word_at body 6)

  -- the whole body
  unfoldable pub body_rule : Limits → ℕ → Verdict
  body_rule limits ciso =
      front_rule limits.points ciso
      or_else coordinators_rule (word_at body 6)
      or_else hours_rule (word_at body 5) (word_at body 6)
