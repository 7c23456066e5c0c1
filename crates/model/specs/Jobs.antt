-- Tasks that are placed by offsets, and their endless jobs l = 0, 1, 2, .. Names no program.
use Rattle.std.specs.Prelude.{ℕ, ◌+◌, ◌*◌, ◌%◌, ◌<◌, ◌≤◌, List, length, slice_index}

-- a task with an offset for each of its jobs of one cycle; the cycle has length offsets × period ticks
pub record Row : Type 0 where
  pub number : ℕ
  pub core : ℕ
  pub memory : ℕ  -- M, the channel ticks of each job
  pub compute : ℕ  -- C, its computation ticks at worst
  pub deadline : ℕ  -- D, counted from the activation
  pub period : ℕ  -- T
  pub offsets : List ℕ

-- the offset of job l is the one that is placed for job l mod (the number of jobs of a cycle)
abbrev pub φ : Row → ℕ → ℕ
φ r l = slice_index r.offsets (l % length r.offsets)

abbrev pub activation : Row → ℕ → ℕ
activation r l = l * r.period

-- the first tick of the memory phase
abbrev pub phase_start : Row → ℕ → ℕ
phase_start r l = activation r l + φ r l

-- the memory phase of job l holds tick t of the channel
abbrev pub Holds : Row → ℕ → ℕ → Type 0
Holds r l t = (phase_start r l ≤ t) × (t < phase_start r l + r.memory)

-- the first tick at which the computation may run
abbrev pub release : Row → ℕ → ℕ
release r l = phase_start r l + r.memory

-- the tick by which the computation has to be done
abbrev pub absolute_deadline : Row → ℕ → ℕ
absolute_deadline r l = activation r l + r.deadline
