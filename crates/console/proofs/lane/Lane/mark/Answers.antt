use Rattle.std.proofs.Common.{arith}
use Rattle.std.proofs.lemmas.List.{get_or-set_other}
use Rattle.std.proofs.lemmas.Grind.{common_steps, get_or-set_at}
use Rattle.std.proofs.lemmas.Bool.Decides.{nat_tests}
use Rattle.console.proofs.lane.Lane.mark.Goals as goal

pub loop-tick-preserved : goal.loop-tick-preserved
loop-tick-preserved c = record {
  whole = grind (arith, common_steps);
  cells = λ k within. grind (arith, nat_tests, get_or-set_at, get_or-set_other, c.loop-tick.invariant.cells k within);
}
