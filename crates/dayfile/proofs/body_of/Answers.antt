use Rattle.std.proofs.Common.{refl, sym}
use borrow.Author.Tests.{eq-eqb, ne_eqb}
use Rattle.verdict.proofs.Accepted.{refuses, accepts}
use Rattle.dayfile.specs.Lookup.{lookup_of}
use Rattle.dayfile.proofs.Lookup.{at_start}
use Rattle.dayfile.proofs.body_of.Goals as goal

pub returns-then-is_err : goal.returns-then-is_err
unfolding lookup_of
returns-then-is_err c =
    let is = rw c.check.ensures at c.if-is_err.ensures.value in
    rw (ne_eqb _ _ (refuses _ (sym is))) (refl, at_start c.args.file)

pub find-requires : goal.find-requires
find-requires c = let is = rw c.check.ensures at c.if-is_err.ensures.value in accepts _ (sym is)

pub returns : goal.returns
unfolding lookup_of
returns c =
    let is = rw c.check.ensures at c.if-is_err.ensures.value in
    rw (eq-eqb _ _ (accepts _ (sym is))) c.find.ensures
