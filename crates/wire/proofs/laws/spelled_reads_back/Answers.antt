use Rattle.wire.proofs.Spellings.{reads_back}
use Rattle.wire.proofs.laws.spelled_reads_back.Goals as goal

pub returns : goal.returns
returns c = reads_back
