-- A file that is settled is one that the check accepts.
use Rattle.std.proofs.Common.{◌≡◌, ℕ, List, sym, ap, ◌∙◌}
use Rattle.std.specs.Prelude.{Ok, ⊤}
use Rattle.verdict.specs.Verdict.{number_of}
use Rattle.verdict.proofs.First.{or_first}
use Rattle.settlement.specs.Settlement.{settle_of}
use Rattle.settlement.specs.SoundFile.{SoundFile}
use Rattle.settlement.proofs.Accepted.{opened, sound_file}
use Rattle.explain8080.proofs.explain.Goals as goal

settled_sound : (file : List ℕ) (room : ℕ) (nothing : ⊤) → Ok nothing ≡ settle_of file room → SoundFile file
settled_sound file room nothing is = sound_file file (or_first _ _ (ap number_of (sym (is ∙ opened file room))))

pub show_settled-requires : goal.show_settled-requires
show_settled-requires g c = settled_sound _ _ _ c.in-Ok.ensures.value
