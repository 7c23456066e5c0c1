use Rattle.model.proofs.Theorems.{one_told_finish}
use Rattle.model.proofs.scheduling.one_told_finish.Goals as goal

pub returns : goal.returns
returns c = one_told_finish
