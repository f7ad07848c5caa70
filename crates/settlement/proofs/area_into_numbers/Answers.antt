use Prim.Native.Nat.{ℕ, ◌*◌, ◌≤◌}
use mathlib.Core.List.{List, ◌++◌}
use mathlib.Core.Path.{◌≡◌, sym, ap, ◌∙◌}
use native.Mathlib.Nat.{le_refl}
use lib.ListN.{length, take, drop}
use lib.Seq.{take_at}
use Rattle.limits.specs.Ranges.{day_hours}
use Rattle.encoding.specs.Encoding.{encoded}
use Rattle.encoding.proofs.Encoding.{encoded_length}
use Rattle.body.specs.Layout.{coordinators_of}
use Rattle.statement.specs.Block.{block, area_numbers}
use Rattle.statement.proofs.Hours.{hours_length}
use Rattle.settlement.proofs.Fits.{block_fits}
use Rattle.settlement.proofs.area_into_numbers.Goals as goal

pub returns : goal.returns
returns c =
    let s = c.args in
    let sound = c.requires.terms_and_body.1 in
    let numbers = c.area_numbers-bytes.result in
    let needed : numbers ≡ area_numbers (coordinators_of s.body.now) = c.area_numbers-bytes.ensures ∙ ap area_numbers c.word.ensures in
    let long : length (block s.terms s.body.now) ≡ numbers = hours_length s.terms s.body.now sound day_hours (le_refl day_hours) ∙ sym needed in
    let taken : take (8 * numbers) c.write_area.new.statement ≡ encoded (block s.terms s.body.now) =
    ap (take (8 * numbers)) c.write_area.ensures ∙ take_at _ _ _ (encoded_length _ ∙ ap (λ n. 8 * n) long) in
    c.take_numbers.ensures.are _ (block_fits s.terms s.body.now c.requires.terms_and_body.0 sound) taken
    ∙ ap (λ m. block s.terms s.body.now ++ drop m s.statement.now) (long ∙ needed)
