use Rattle.wire.proofs.Spellings.{has_one_spelling}
use Rattle.wire.proofs.laws.read_is_spelled.Goals as goal

pub returns : goal.returns
returns c = has_one_spelling
