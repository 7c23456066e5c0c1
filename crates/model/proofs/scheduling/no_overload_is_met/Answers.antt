use Rattle.model.proofs.Theorems.{no_overload_is_met}
use Rattle.model.proofs.scheduling.no_overload_is_met.Goals as goal

pub returns : goal.returns
returns c = no_overload_is_met
