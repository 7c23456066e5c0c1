-- Numbers in bytes: groups of seven bits, the lowest first, one to a byte, the top bit set on all but the last.
-- A number takes at most four bytes, is at most 16,777,215, and is spelled as shortly as it can be.
-- A byte is a number below 256, a list of bytes a list of such numbers.
use Rattle.std.specs.Prelude.{◌≡◌, ℕ, zero, suc, ◌+◌, ◌-◌, ◌*◌, ◌/◌, ◌%◌, ◌<◌, ◌≤◌, if◌then◌else◌, ◌↔◌, List, [], ◌∷◌, ◌++◌, length, drop, IfOk, Ok, Err, Result, ◌==◌, nat_le, nat_lt, slice_index}
use Rattle.std.specs.List.{AllByRecursion}
use Rattle.wire.specs.declared.reading.Fault.{Fault}
use Rattle.wire.specs.declared.reading.Fault.TheVariants.{Ends, Misspelt}
use Rattle.wire.specs.declared.reading.Number.{Number}

-- the largest number that can be spelled
abbrev pub largest : ℕ
largest = 16777215

-- ---- spelling

-- the groups of a number, where so many may follow the first
abbrev pub groups : ℕ → ℕ → List ℕ
groups zero n = n ∷ []
groups (suc more) n = if nat_lt n 128 then n ∷ [] else (n % 128 + 128) ∷ groups more (n / 128)

unfoldable pub spelling : ℕ → List ℕ
spelling n = groups 3 n

-- ---- reading

-- a group below the number that the next bytes spell; were that number 0, the spelling would be too long
abbrev pub onto : ℕ → Result Number Fault → Result Number Fault
onto group (Ok n) = if n.value == 0 then Err Misspelt else Ok (record { value = group + 128 * n.value; len = n.len + 1 })
onto group (Err f) = Err f

-- the number that the bytes begin with, where so many bytes may follow its first
abbrev pub joined_groups : ℕ → List ℕ → Result Number Fault
joined_groups more [] = Err Ends
joined_groups zero (b ∷ bs) = if nat_lt b 128 then Ok (record { value = b; len = 1 }) else Err Misspelt
joined_groups (suc more) (b ∷ bs) = if nat_lt b 128 then Ok (record { value = b; len = 1 }) else onto (b - 128) (joined_groups more bs)

abbrev pub bounded : Result Number Fault → Result Number Fault
bounded (Ok n) = if nat_le n.value largest then Ok n else Err Misspelt
bounded (Err f) = Err f

unfoldable pub first_number : List ℕ → Result Number Fault
first_number bs = bounded (joined_groups 3 bs)

-- ---- what reading and spelling have to do with each other

-- each element is a byte
abbrev pub Bytes : List ℕ → Type 0
Bytes bs = (i : ℕ) → slice_index bs i < 256

-- what is spelled reads back, whatever follows it
abbrev pub ReadsBack : Type 0
ReadsBack = (n : ℕ) (rest : List ℕ) → n ≤ largest →
    first_number (spelling n ++ rest) ≡ Ok (record { value = n; len = length (spelling n) })

-- the bytes begin with the spelling of the number, and it is one that can be spelled
pub record BeginsWith (bs : List ℕ) (n : Number) : Type 0 where
  pub bound : n.value ≤ largest
  pub used : n.len ≡ length (spelling n.value)
  pub front : bs ≡ spelling n.value ++ drop n.len bs

-- whatever reads without a fault is the spelling of its number
abbrev pub HasOneSpelling : Type 0
HasOneSpelling = (bs : List ℕ) (n : Number) → Bytes bs → first_number bs ≡ Ok n → BeginsWith bs n

-- no more than three bytes are left, and each says that another follows
pub record Cut (bs : List ℕ) : Type 0 where
  pub few : length bs ≤ 3
  pub unfinished : AllByRecursion (λ b. 128 ≤ b) bs

abbrev pub EndsWhereCut : Type 0
EndsWhereCut = (bs : List ℕ) → (first_number bs ≡ Err Ends) ↔ Cut bs

-- ---- what a reader of the bytes promises

-- which answer is right, in terms of spelling alone
abbrev pub Right : List ℕ → Result Number Fault → Type 0
Right bs (Ok n) = BeginsWith bs n
Right bs (Err Ends) = Cut bs
Right bs (Err Misspelt) = (Cut bs → ⊥) × ((n : Number) → BeginsWith bs n → ⊥)

pub record Read (bs : List ℕ) (r : Result Number Fault) : Type 0 where
  pub value : r ≡ first_number bs
  pub right : Right bs r
  pub within : IfOk r (λ n. (1 ≤ n.len) × (n.len ≤ length bs))
