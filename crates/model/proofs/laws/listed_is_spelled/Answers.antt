use Rattle.model.proofs.Walks.{listed_is_spelled}
use Rattle.model.proofs.laws.listed_is_spelled.Goals as goal

pub returns : goal.returns
returns c = listed_is_spelled
