-- What a writer of numbers leaves in a buffer.
use Rattle.std.specs.Prelude.{◌≡◌, ℕ, ◌+◌, ◌<◌, ◌≤◌, List, ◌++◌, length, take, drop, Ok, Err, Result}
use Rattle.wire.specs.declared.writing.Unwritten.{Unwritten}
use Rattle.wire.specs.declared.writing.Unwritten.TheVariants.{TooLarge, NoRoom}
use Rattle.wire.specs.Numbers.{largest, spelling}

-- the bytes w stand at a place of the buffer, and all else is as it was
pub record Stands (before : List ℕ) (at : ℕ) (w : List ℕ) (next : ℕ) (after : List ℕ) : Type 0 where
  pub end : next ≡ at + length w
  pub room : next ≤ length before
  pub bytes : after ≡ take at before ++ (w ++ drop next before)

-- what a call answers that is to write n at a place, and what the buffer holds then
abbrev pub Written : List ℕ → ℕ → ℕ → Result ℕ Unwritten → List ℕ → Type 0
Written before at n (Ok next) after = (n ≤ largest) × Stands before at (spelling n) next after
Written before at n (Err TooLarge) after = (largest < n) × (after ≡ before)
Written before at n (Err NoRoom) after = (n ≤ largest) × (length before < at + length (spelling n)) × (after ≡ before)
