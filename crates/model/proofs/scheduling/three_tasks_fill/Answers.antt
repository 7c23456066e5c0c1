use Rattle.model.proofs.Examples.{three_fill}
use Rattle.model.proofs.scheduling.three_tasks_fill.Goals as goal

pub returns : goal.returns
returns c = three_fill
