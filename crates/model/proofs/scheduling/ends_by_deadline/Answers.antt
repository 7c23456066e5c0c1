use Rattle.model.proofs.Theorems.{ends_by_deadline}
use Rattle.model.proofs.scheduling.ends_by_deadline.Goals as goal

pub returns : goal.returns
returns c = ends_by_deadline
