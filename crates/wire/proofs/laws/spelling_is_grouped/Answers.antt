use Rattle.wire.proofs.Worths.{spelling_is_grouped}
use Rattle.wire.proofs.laws.spelling_is_grouped.Goals as goal

pub returns : goal.returns
returns c = spelling_is_grouped
