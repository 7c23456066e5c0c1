-- The rows of one core, and its workload: their endless jobs, as the core sees them. Names no program.
use Rattle.std.specs.Prelude.{◌≡◌, ℕ, ◌*◌, ◌<◌, ◌≤◌, List, [], length, slice_index_or}
use Rattle.model.specs.Jobs.{Row, φ, release, absolute_deadline}
use Rattle.model.specs.Rules.{SoundFigures, InTime}

-- A job is a pair: the place i of its task among those of the core, and its number l = 0, 1, 2, ..
pub record Workload : Type 0 where
  pub tasks : ℕ
  pub number : ℕ → ℕ  -- of the task at place i
  pub release : ℕ → ℕ → ℕ  -- the first tick that the job may have
  pub deadline : ℕ → ℕ → ℕ  -- the tick before which it has to have all
  pub wcet : ℕ → ℕ → ℕ  -- its worst-case execution time

-- past the last row, where nothing is said of it
abbrev pub no_row : Row
no_row = record { number = 0; core = 0; memory = 0; compute = 0; deadline = 0; period = 0; offsets = [] }

abbrev pub row_at : List Row → ℕ → Row
row_at rows i = slice_index_or rows i no_row

abbrev pub workload : List Row → Workload
workload rows = record {
  tasks = length rows;
  number = λ i. (row_at rows i).number;
  release = λ i l. release (row_at rows i) l;
  deadline = λ i l. absolute_deadline (row_at rows i) l;
  wcet = λ i l. (row_at rows i).compute;
}

-- a row that fits a cycle of H ticks
pub record SoundRow (H : ℕ) (r : Row) : Type 0 where
  pub figures : SoundFigures r.memory r.compute r.deadline r.period
  pub divides : length r.offsets * r.period ≡ H
  pub in_time : (l : ℕ) → InTime r.memory r.compute r.deadline (φ r l)

-- rows that share a core in a cycle of H ticks
pub record Sound (H : ℕ) (rows : List Row) : Type 0 where
  pub some_cycle : 1 ≤ H
  pub each : (i : ℕ) → i < length rows → SoundRow H (row_at rows i)
  pub numbers_differ : (i a : ℕ) → i < length rows → a < length rows → (row_at rows i).number ≡ (row_at rows a).number → i ≡ a
