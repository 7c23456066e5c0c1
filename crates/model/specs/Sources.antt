-- What offset sources mean: an offset for each job number, or nothing.
use Rattle.std.specs.Prelude.{◌≡◌, ℕ, zero, suc, ◌+◌, ◌≤◌, min, ◌↔◌, List, ◌++◌, length, drop, Some, Option}
use Rattle.std.specs.List.{flat_map, AllByRecursion}
use Rattle.std.specs.Option.{option_map, option_and_then}
use Rattle.std.specs.Result.{result_ok}
use Rattle.wire.specs.Numbers.{largest, first_number, spelling, Bytes}

abbrev pub Meaning : Type 0
Meaning = ℕ → Option ℕ

-- one offset for all jobs
abbrev pub steady : ℕ → Meaning
steady offset job = Some offset

-- the number that follows so many others in the bytes; nothing where one of them cannot be read
unfoldable pub listed : List ℕ → Meaning
listed bs zero = option_map (λ n. n.value) (result_ok (first_number bs))
listed bs (suc job) = option_and_then (λ n. listed (drop n.len bs) job) (result_ok (first_number bs))

-- another meaning with a lag added to each offset, stopping at 4,294,967,295; nothing stays nothing
abbrev pub late : ℕ → Meaning → Meaning
late lag below job = option_map (λ offset. min (offset + lag) 4294967295) (below job)

-- the bytes spell so many numbers, then x, and then anything
pub record Spells (bs : List ℕ) (job x : ℕ) : Type 0 where
  pub others : List ℕ
  pub rest : List ℕ
  pub count : length others ≡ job
  pub bounds : AllByRecursion (λ n. n ≤ largest) others
  pub bound : x ≤ largest
  pub bytes : bs ≡ flat_map spelling others ++ (spelling x ++ rest)

abbrev pub ListedIsSpelled : Type 0
ListedIsSpelled = (bs : List ℕ) → Bytes bs → (job x : ℕ) → (listed bs job ≡ Some x) ↔ Spells bs job x
