-- What is answered, and left in the lent memory, when a cycle's jobs are placed by a source's meaning.
use Rattle.std.specs.Prelude.{◌≡◌, ℕ, ◌<◌, ◌≤◌, List, length, drop, Some, None, Ok, Err, Result, slice_index}
use Rattle.model.specs.declared.figures.Figures.{Figures}
use Rattle.model.specs.declared.placing.Misplaced.{Misplaced}
use Rattle.model.specs.declared.placing.Misplaced.TheVariants.{NoRoom, NoOffset, TooLate}
use Rattle.model.specs.Rules.{InTime}
use Rattle.model.specs.Sources.{Meaning}

-- the offsets of the jobs below n stand at the front of the memory, and the rest is as it was
pub record OffsetsBelow (m : Meaning) (n : ℕ) (before after : List ℕ) : Type 0 where
  pub offsets : (j : ℕ) → j < n → m j ≡ Some (slice_index after j)
  pub others : drop n after ≡ drop n before

-- the jobs below n are in time with their offsets
abbrev pub InTimeBelow : Figures → List ℕ → ℕ → Type 0
InTimeBelow f offsets n = (j : ℕ) → j < n → InTime f.memory f.compute f.deadline (slice_index offsets j)

-- of the jobs below n, this is the first that is not in time with its offset
abbrev pub FirstLate : Figures → List ℕ → ℕ → ℕ → Type 0
FirstLate f offsets n job =
    (job < n) × (¬ InTime f.memory f.compute f.deadline (slice_index offsets job)) × InTimeBelow f offsets job

-- that every job has an offset is settled before any is asked whether it is in time
abbrev pub Placed : Figures → Meaning → ℕ → List ℕ → Result (Unit {0}) Misplaced → List ℕ → Type 0
Placed f m jobs before (Ok x) after = (jobs ≤ length before) × OffsetsBelow m jobs before after × InTimeBelow f after jobs
Placed f m jobs before (Err NoRoom) after = (length before < jobs) × (after ≡ before)
Placed f m jobs before (Err (NoOffset job)) after =
    (jobs ≤ length before) × (job < jobs) × (m job ≡ None) × OffsetsBelow m job before after
Placed f m jobs before (Err (TooLate job)) after =
    (jobs ≤ length before) × OffsetsBelow m jobs before after × FirstLate f after jobs job
