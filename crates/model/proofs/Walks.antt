-- A walk over the numbers that bytes spell, and what it comes to.
use Rattle.std.proofs.Common.{◌≡◌, ℕ, zero, suc, ◌+◌, ◌-◌, ◌<◌, ◌≤◌, List, [], ◌∷◌, ◌++◌, length, drop, Some, Ok, Err, Result, refl, ap, arith}
use Rattle.std.proofs.lemmas.List.{append_assoc, drop_at, get_or-drop, take_rest}
use Rattle.std.specs.List.{flat_map, AllByRecursion}
use Rattle.std.specs.Option.{option_map, option_and_then}
use Rattle.std.specs.Result.{result_ok}
use Rattle.wire.specs.declared.reading.Fault.{Fault}
use Rattle.wire.specs.declared.reading.Number.{Number}
use Rattle.wire.specs.Numbers.{largest, first_number, spelling, Bytes}
use Rattle.wire.proofs.Spellings.{reads_back, has_one_spelling}
use Rattle.model.specs.Sources.{listed, Spells, ListedIsSpelled}

-- ---- one step of the walk

pub listed_here : (bs : List ℕ) (job : ℕ) → job ≡ 0 → listed bs job ≡ option_map (λ n. n.value) (result_ok (first_number bs))
unfolding listed
listed_here bs job e = rw e

pub listed_next : (bs : List ℕ) (job : ℕ) → 0 < job → listed bs job ≡ option_and_then (λ n. listed (drop n.len bs) (job - 1)) (result_ok (first_number bs))
unfolding listed
listed_next bs zero l = absurd (omega arith)
listed_next bs (suc job) l = let e : suc job - 1 ≡ job = omega arith in rw e

-- both, and what is left of the bytes after such a step
pub ruleset listed_steps = (listed_here, listed_next, take_rest)

-- ---- what is spelled is listed

spelled_listed : (others : List ℕ) (x : ℕ) (rest : List ℕ) → AllByRecursion (λ n. n ≤ largest) others → x ≤ largest →
    listed (flat_map spelling others ++ (spelling x ++ rest)) (length others) ≡ Some x
unfolding listed
spelled_listed [] x rest hs h = rw (reads_back x rest h)
spelled_listed (v ∷ others) x rest hs h =
    let tail : List ℕ = flat_map spelling others ++ (spelling x ++ rest) in
    rw (append_assoc (spelling v) (flat_map spelling others) (spelling x ++ rest), reads_back v tail hs.0, drop_at (spelling v) tail (length (spelling v)) refl)
    (spelled_listed others x rest hs.1 h)

-- ---- what is listed is spelled

one_number : (bs : List ℕ) (n : Number) → Bytes bs → first_number bs ≡ Ok n → Spells bs 0 n.value
one_number bs n h e =
    let begins = has_one_spelling bs n h e in
    record {
      others = [];
      rest = drop n.len bs;
      count = refl;
      bounds = tt;
      bound = begins.bound;
      bytes = begins.front;
    }

more_numbers : (bs : List ℕ) (n : Number) (job x : ℕ) → Bytes bs → first_number bs ≡ Ok n → Spells (drop n.len bs) job x → Spells bs (suc job) x
more_numbers bs n job x h e s =
    let begins = has_one_spelling bs n h e in
    record {
      others = n.value ∷ s.others;
      rest = s.rest;
      count = ap suc s.count;
      bounds = (begins.bound, s.bounds);
      bound = s.bound;
      bytes = rw (append_assoc, ← s.bytes) begins.front;
    }

listed_spelled : (job : ℕ) (bs : List ℕ) (x : ℕ) → Bytes bs → (r : Result Number Fault) → first_number bs ≡ r → listed bs job ≡ Some x → Spells bs job x
unfolding listed
listed_spelled zero bs x h (Err f) e l = let z = rw e at l in cc
listed_spelled (suc job) bs x h (Err f) e l = let z = rw e at l in cc
listed_spelled zero bs x h (Ok n) e l =
    let z = rw e at l in
    let same : n.value ≡ x = cc in
    rw (← same) (one_number bs n h e)
listed_spelled (suc job) bs x h (Ok n) e l =
    let rest : List ℕ = drop n.len bs in
    let bytes : Bytes rest = λ i. rw (get_or-drop n.len bs i 0) (h (n.len + i)) in
    more_numbers bs n job x h e (listed_spelled job rest x bytes (first_number rest) refl (rw e at l))

pub listed_is_spelled : ListedIsSpelled
listed_is_spelled bs h job x = (
  listed_spelled job bs x h (first_number bs) refl,
  λ s. rw (s.bytes, ← s.count) (spelled_listed s.others x s.rest s.bounds s.bound),
)
