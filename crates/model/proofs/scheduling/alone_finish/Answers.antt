use Rattle.model.proofs.Alone.{alone_finish}
use Rattle.model.proofs.scheduling.alone_finish.Goals as goal

pub returns : goal.returns
returns c = alone_finish
