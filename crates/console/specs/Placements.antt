-- What a task's placement by a source is, and why there is none.
use Rattle.std.specs.Prelude.{◌≡◌, ◌≢◌, ℕ, ◌*◌, ◌<◌, ◌≤◌, List, [], ◌∷◌, Some, None, Ok, Err, Result, length, slice_index}
use Rattle.model.specs.declared.task.Task.{Task}
use Rattle.model.specs.Rules.{InTime}
use Rattle.model.specs.Sources.{Meaning, late}
use Rattle.console.specs.declared.lane.TheConstants.{CYCLE}
use Rattle.console.specs.declared.placement.TheConstants.{MAX_JOBS}
use Rattle.console.specs.declared.placement.Placement.{Placement}
use Rattle.console.specs.declared.refusal.Refusal.{Refusal}
use Rattle.console.specs.declared.refusal.Refusal.TheVariants.{NotUnderstood, Uneven, TooManyJobs, NoOffset, TooLate, OutOfMemory}

-- so many jobs of the task fill the cycle
abbrev pub FillCycle : Task → ℕ → Type 0
FillCycle task jobs = jobs * task.figures.period ≡ CYCLE

-- the placement is of this task, and has the offset that the source means for each job of the cycle
pub record Places (task : Task) (m : Meaning) (p : Placement) : Type 0 where
  pub same : p.task ≡ task
  pub jobs : FillCycle task (length p.offsets.now)
  pub offsets : (j : ℕ) → j < length p.offsets.now → m j ≡ Some (slice_index p.offsets.now j)

-- the source has an offset for each job below n
abbrev pub HasBelow : Meaning → ℕ → Type 0
HasBelow m n = (j : ℕ) → j < n → m j ≢ None

-- a job with this offset of the task is in time
abbrev pub Fits : Task → ℕ → Type 0
Fits task offset = InTime task.figures.memory task.figures.compute task.figures.deadline offset

-- of the jobs of a cycle, this is the first that the source has no offset for
pub record FirstMissing (task : Task) (m : Meaning) (job : ℕ) : Type 0 where
  pub jobs : ℕ
  pub fill : FillCycle task jobs
  pub few : jobs ≤ MAX_JOBS
  pub within : job < jobs
  pub missing : m job ≡ None
  pub others : HasBelow m job

-- each job of a cycle has an offset, and this one is the first that is not in time with its own
pub record FirstTooLate (task : Task) (m : Meaning) (job offset : ℕ) : Type 0 where
  pub jobs : ℕ
  pub fill : FillCycle task jobs
  pub few : jobs ≤ MAX_JOBS
  pub within : job < jobs
  pub all : HasBelow m jobs
  pub here : m job ≡ Some offset
  pub late : ¬ Fits task offset
  pub others : (j x : ℕ) → j < job → m j ≡ Some x → Fits task x

-- a refusal tells the truth of the task and the source
abbrev pub Refused : Task → Meaning → Refusal → Type 0
Refused task m NotUnderstood = ⊥
Refused task m (Uneven period) = (period ≡ task.figures.period) × ((k : ℕ) → k * period ≢ CYCLE)
Refused task m TooManyJobs = (k : ℕ) × FillCycle task k × (MAX_JOBS < k)
Refused task m (NoOffset job) = FirstMissing task m job
Refused task m (TooLate job offset figures) = (figures ≡ task.figures) × FirstTooLate task m job offset
Refused task m (OutOfMemory error) = Unit {0}

-- what placing a task by a source answers
abbrev pub Answers : Task → Meaning → Result Placement Refusal → Type 0
Answers task m (Ok p) = Places task m p
Answers task m (Err e) = Refused task m e

-- the meaning of a source under lags, the outermost first
abbrev pub lagged : List ℕ → Meaning → Meaning
lagged [] m = m
lagged (lag ∷ lags) m = late lag (lagged lags m)
