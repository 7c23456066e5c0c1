use Rattle.model.specs.Placing.{OffsetsBelow}
use Rattle.model.proofs.placing.place.Given as goal

abbrev pub invariant-loop-job : goal.invariant-loop-job
invariant-loop-job g l = OffsetsBelow (g.S.OffsetSource.meaning l.source) l.job l.initial.offsets l.offsets
