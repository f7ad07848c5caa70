use Rattle.body.specs.Plain.{Behind}
use Rattle.body.proofs.glance_hours.Given as goal

abbrev pub invariant-loop-h : goal.invariant-loop-h
invariant-loop-h l = Behind l.body l.kind l.load l.count l.h l.at
