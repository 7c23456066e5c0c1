use Rattle.model.proofs.Theorems.{one_run}
use Rattle.model.proofs.scheduling.one_run.Goals as goal

pub returns : goal.returns
returns c = one_run
