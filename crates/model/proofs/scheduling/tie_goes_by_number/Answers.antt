use Rattle.model.proofs.Examples.{tie_goes_by_number}
use Rattle.model.proofs.scheduling.tie_goes_by_number.Goals as goal

pub returns : goal.returns
returns c = tie_goes_by_number
