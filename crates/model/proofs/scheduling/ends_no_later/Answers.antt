use Rattle.model.proofs.Theorems.{ends_no_later}
use Rattle.model.proofs.scheduling.ends_no_later.Goals as goal

pub returns : goal.returns
returns c = ends_no_later
