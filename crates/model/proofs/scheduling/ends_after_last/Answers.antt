use Rattle.model.proofs.Theorems.{ends_after_last}
use Rattle.model.proofs.scheduling.ends_after_last.Goals as goal

pub returns : goal.returns
returns c = ends_after_last
