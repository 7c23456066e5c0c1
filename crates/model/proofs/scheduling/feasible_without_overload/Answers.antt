use Rattle.model.proofs.Theorems.{feasible_without_overload}
use Rattle.model.proofs.scheduling.feasible_without_overload.Goals as goal

pub returns : goal.returns
returns c = feasible_without_overload
