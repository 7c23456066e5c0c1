use Rattle.model.proofs.Theorems.{every_execution_runs}
use Rattle.model.proofs.scheduling.every_execution_runs.Goals as goal

pub returns : goal.returns
returns c = every_execution_runs
