-- Lanes of a picture: a character, by its code, for each tick.
use Rattle.std.specs.Prelude.{◌≡◌, ℕ, ◌+◌, ◌%◌, ◌<◌, cond, ◌&&◌, List, nat_le, nat_lt, slice_index}
use Rattle.console.specs.declared.lane.TheConstants.{CYCLE}

-- a lane has a place for each tick of the cycle
abbrev pub width : ℕ
width = CYCLE

-- each tick shows a dot
abbrev pub Idle : List ℕ → Type 0
Idle cells = (tick : ℕ) → tick < width → slice_index cells tick ≡ 46

-- so many ticks, the first at `from`, show the last digit of the job's number, and the others are as they were
abbrev pub Marked : List ℕ → ℕ → ℕ → ℕ → List ℕ → Type 0
Marked before from len job after =
    (tick : ℕ) → tick < width →
    slice_index after tick ≡ cond (nat_le from tick && nat_lt tick (from + len)) (48 + job % 10) (slice_index before tick)

-- each tick shows its last digit
abbrev pub Ruled : List ℕ → Type 0
Ruled cells = (tick : ℕ) → tick < width → slice_index cells tick ≡ 48 + tick % 10
