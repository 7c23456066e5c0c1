-- Spelling and reading undo each other; where bytes are cut short, reading says so.
use Rattle.std.proofs.Common.{◌≡◌, ℕ, zero, suc, ◌/◌, ◌^◌, ◌<◌, ◌≤◌, ◌↔◌, List, [], ◌∷◌, ◌++◌, length, drop, IfOk, Ok, Err, Result, pow-suc, arith}
use Rattle.std.proofs.lemmas.Bool.Decides.{nat_tests}
use Rattle.std.proofs.lemmas.Grind.{common_steps}
use Rattle.std.specs.List.{AllByRecursion}
use Rattle.wire.specs.declared.reading.Fault.{Fault}
use Rattle.wire.specs.declared.reading.Fault.TheVariants.{Ends}
use Rattle.wire.specs.declared.reading.Number.{Number}
use Rattle.wire.specs.Numbers.{groups, spelling, joined_groups, first_number, Bytes, ReadsBack, HasOneSpelling, EndsWhereCut, Read}

-- ---- what is spelled reads back

-- the groups of a number read as that number
groups_read : (more n : ℕ) (rest : List ℕ) → n < 128 ^ suc more →
    joined_groups more (groups more n ++ rest) ≡ Ok (record { value = n; len = length (groups more n) })
groups_read zero n rest h = grind (arith, nat_tests)
groups_read (suc more) n rest h = grind (arith, nat_tests, groups_read more (n / 128) rest, pow-suc 128 (suc more))

pub reads_back : ReadsBack
unfolding spelling first_number
reads_back n rest h = grind (arith, nat_tests, groups_read 3 n rest)

-- ---- what reads is spelled

-- the bytes begin with the groups of the number
abbrev GroupsOf : ℕ → List ℕ → Number → Type 0
GroupsOf more bs n = (bs ≡ groups more n.value ++ drop n.len bs) × (n.len ≡ length (groups more n.value))

-- what reads without a fault is in groups, and the bytes begin with them
read_groups : (more : ℕ) (bs : List ℕ) → Bytes bs → IfOk (joined_groups more bs) (GroupsOf more bs)
read_groups more [] h = tt
read_groups zero (b ∷ bs) h = grind (arith, nat_tests)
read_groups (suc more) (b ∷ bs) h = grind (arith, nat_tests, read_groups more bs (λ i. h (suc i)), h 0)

pub has_one_spelling : HasOneSpelling
unfolding spelling first_number
has_one_spelling bs n h e = grind (arith, nat_tests, read_groups 3 bs h)

-- ---- where bytes are cut short

-- the groups end too early just where few bytes are left and each says that more follow
cut_groups : (more : ℕ) (bs : List ℕ) → (joined_groups more bs ≡ Err Ends) ↔ ((length bs ≤ more) × AllByRecursion (λ b. 128 ≤ b) bs)
cut_groups more [] = grind arith
cut_groups zero (b ∷ bs) = grind (arith, nat_tests)
cut_groups (suc more) (b ∷ bs) = grind (arith, nat_tests, cut_groups more bs)

pub ends_where_cut : EndsWhereCut
unfolding first_number
ends_where_cut bs = grind (arith, nat_tests, cut_groups 3 bs)

-- ---- which answer is right

-- a spelling has a byte
spelled_some : (n : ℕ) → 1 ≤ length (spelling n)
unfolding spelling
spelled_some n = grind (arith, nat_tests)

-- an answer that is the first number is right; of a fault, since what is spelled would read back
pub read : (bs : List ℕ) (r : Result Number Fault) → Bytes bs → r ≡ first_number bs → Read bs r
read bs (Ok n) b e = grind (arith, common_steps, has_one_spelling bs n b, spelled_some)
read bs (Err fault) b e = grind (arith, ends_where_cut bs, λ (n : Number). reads_back n.value (drop n.len bs))
