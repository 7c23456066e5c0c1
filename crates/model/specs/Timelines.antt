-- When things happen to a job that has its core to itself.
use Rattle.std.specs.Prelude.{◌≡◌, ℕ, ◌+◌, ◌<◌, ◌≤◌, ◌↔◌, List, length}
use Rattle.model.specs.declared.task.Task.{Task}
use Rattle.model.specs.declared.task.Timeline.{Timeline}
use Rattle.model.specs.Rules.{InTime}
use Rattle.model.specs.Jobs.{Row, φ, activation, Holds, release, absolute_deadline}

abbrev pub row_of : Task → List ℕ → Row
row_of t offsets = record {
  number = t.number;
  core = t.core;
  memory = t.figures.memory;
  compute = t.figures.compute;
  deadline = t.figures.deadline;
  period = t.figures.period;
  offsets = offsets;
}

-- job l has an offset, and is in time with it
pub record Fitting (r : Row) (l : ℕ) : Type 0 where
  pub some : 1 ≤ length r.offsets
  pub in_time : InTime r.memory r.compute r.deadline (φ r l)

pub record Happens (r : Row) (l : ℕ) (t : Timeline) : Type 0 where
  pub fitting : Fitting r l
  pub activated : t.activation ≡ activation r l
  pub copies : (tick : ℕ) → Holds r l tick ↔ ((t.copy ≤ tick) × (tick < t.release))
  pub released : t.release ≡ release r l
  pub computes : t.end ≡ release r l + r.compute
  pub due : t.deadline ≡ absolute_deadline r l
  pub met : t.end ≤ t.deadline
