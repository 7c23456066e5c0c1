use Rattle.wire.proofs.Spellings.{ends_where_cut}
use Rattle.wire.proofs.laws.cut_ends.Goals as goal

pub returns : goal.returns
returns c = ends_where_cut
