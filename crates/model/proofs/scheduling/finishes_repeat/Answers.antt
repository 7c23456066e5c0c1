use Rattle.model.proofs.Theorems.{finishes_repeat}
use Rattle.model.proofs.scheduling.finishes_repeat.Goals as goal

pub returns : goal.returns
returns c = finishes_repeat
