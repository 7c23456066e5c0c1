use Rattle.model.proofs.Examples.{three_overload}
use Rattle.model.proofs.scheduling.three_tasks_overload.Goals as goal

pub returns : goal.returns
returns c = three_overload
