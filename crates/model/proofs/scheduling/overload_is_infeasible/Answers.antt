use Rattle.model.proofs.Theorems.{overload_is_infeasible}
use Rattle.model.proofs.scheduling.overload_is_infeasible.Goals as goal

pub returns : goal.returns
returns c = overload_is_infeasible
