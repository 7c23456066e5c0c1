use Rattle.model.proofs.Theorems.{demand_counts_every_job}
use Rattle.model.proofs.scheduling.demand_counts_every_job.Goals as goal

pub returns : goal.returns
returns c = demand_counts_every_job
