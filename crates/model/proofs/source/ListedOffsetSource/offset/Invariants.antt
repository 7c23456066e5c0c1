use Rattle.std.proofs.Common.{◌≡◌, ◌-◌}
use Rattle.model.specs.Sources.{listed}
use Rattle.model.proofs.source.ListedOffsetSource.offset.Given as goal

abbrev pub invariant-loop : goal.invariant-loop
invariant-loop l = listed l.rest (l.job - l.counter) ≡ listed l.self.bytes.now l.job
