-- When a job ends. Names no program.
use Rattle.std.specs.Prelude.{◌≡◌, ℕ, suc, ◌+◌, ◌<◌, ◌≤◌, List, ◌≢◌}
use Rattle.model.specs.Jobs.{Row, activation}
use Rattle.model.specs.Workloads.{row_at, workload}
use Rattle.model.specs.Runs.{Run, serves, served}
use Rattle.model.specs.Edf.{Execution, WorstCaseRun}

-- the job has all its ticks before t, and not before any earlier instant: so it ends at t
pub record Ends (e : Execution) (r : Run) (i l t : ℕ) : Type 0 where
  pub done : e i l ≤ served r i l t
  pub no_sooner : (u : ℕ) → u < t → served r i l u < e i l

-- t is the tick after the last one that the run gives the job
pub record AfterLast (r : Run) (i l t : ℕ) : Type 0 where
  pub last : ℕ
  pub after : t ≡ suc last
  pub here : r last ≡ serves i l
  pub none_later : (u : ℕ) → t ≤ u → r u ≢ serves i l

-- the finish of a job: when it ends, counted from its activation
abbrev pub Finish : List Row → Execution → Run → ℕ → ℕ → ℕ → Type 0
Finish rows e r i l f = Ends e r i l (activation (row_at rows i) l + f)

-- the told finish of a job: its finish in every run at the worst case
abbrev pub Told : List Row → ℕ → ℕ → ℕ → Type 0
Told rows i l f = (r : Run) → WorstCaseRun (workload rows) r → Finish rows (workload rows).wcet r i l f
