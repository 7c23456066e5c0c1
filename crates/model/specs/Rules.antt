-- The rules for a task's figures: M channel ticks, C computation ticks at worst, deadline D, period T. Names no program.
use Rattle.std.specs.Prelude.{ℕ, ◌+◌, ◌≤◌}

abbrev pub SoundFigures : ℕ → ℕ → ℕ → ℕ → Type 0
SoundFigures M C D T = (1 ≤ M) × (1 ≤ C) × (M + C ≤ D) × (D ≤ T)

-- a job with this offset can copy and compute before its deadline
abbrev pub InTime : ℕ → ℕ → ℕ → ℕ → Type 0
InTime M C D offset = offset + M + C ≤ D
