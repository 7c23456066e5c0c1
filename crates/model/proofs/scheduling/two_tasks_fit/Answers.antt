use Rattle.model.proofs.Examples.{two_fit}
use Rattle.model.proofs.scheduling.two_tasks_fit.Goals as goal

pub returns : goal.returns
returns c = two_fit
