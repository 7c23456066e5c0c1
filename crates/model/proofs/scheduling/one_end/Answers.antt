use Rattle.model.proofs.Theorems.{one_end}
use Rattle.model.proofs.scheduling.one_end.Goals as goal

pub returns : goal.returns
returns c = one_end
