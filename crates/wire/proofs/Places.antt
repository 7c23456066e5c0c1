-- The reading of a number by the places of its bytes, as a program goes through them.
use Rattle.std.proofs.Common.{◌≡◌, ℕ, ◌+◌, ◌-◌, ◌*◌, cond, eqb, ltb, List, [], ◌∷◌, length, get_or, Ok, Err, Result, refl, ◌∙◌, arith}
use Rattle.std.proofs.lemmas.Bool.Decides.{nat_tests}
use Rattle.wire.specs.declared.reading.Fault.{Fault}
use Rattle.wire.specs.declared.reading.Fault.TheVariants.{Ends, Misspelt}
use Rattle.wire.specs.declared.reading.Number.{Number}
use Rattle.wire.specs.Numbers.{first_number, Bytes, Read}
use Rattle.wire.proofs.Spellings.{read}

-- a spelling of several bytes, by its last
abbrev shortest : ℕ → ℕ → ℕ → Result Number Fault
shortest last value len = cond (eqb last 0) (Err Misspelt) (Ok (record { value = value; len = len }))

-- the number at the front of so many bytes, of which these are the first four
abbrev pub by_places : ℕ → ℕ → ℕ → ℕ → ℕ → Result Number Fault
by_places len a b c d =
    cond (ltb len 1) (Err Ends) (cond (ltb a 128) (Ok (record { value = a; len = 1 }))
    (cond (ltb len 2) (Err Ends) (cond (ltb b 128) (shortest b (a - 128 + 128 * b) 2)
    (cond (ltb len 3) (Err Ends) (cond (ltb c 128) (shortest c (a - 128 + 128 * (b - 128 + 128 * c)) 3)
    (cond (ltb len 4) (Err Ends) (cond (ltb 7 d) (Err Misspelt)
    (shortest d (a - 128 + 128 * (b - 128 + 128 * (c - 128 + 128 * d))) 4))))))))

first_by_places : (bs : List ℕ) → Bytes bs →
    by_places (length bs) (get_or bs 0 0) (get_or bs 1 0) (get_or bs 2 0) (get_or bs 3 0) ≡ first_number bs
unfolding first_number
first_by_places [] h = refl
first_by_places (a ∷ []) h = grind (arith, nat_tests)
first_by_places (a ∷ b ∷ []) h = grind (arith, nat_tests, h 0, h 1)
first_by_places (a ∷ b ∷ c ∷ []) h = grind (arith, nat_tests, h 0, h 1, h 2)
first_by_places (a ∷ b ∷ c ∷ d ∷ bs) h = grind (arith, nat_tests, h 0, h 1, h 2, h 3)

-- an answer that goes by the places of the first four bytes is right
pub read_by_places : (bs : List ℕ) (r : Result Number Fault) → Bytes bs →
    r ≡ by_places (length bs) (get_or bs 0 0) (get_or bs 1 0) (get_or bs 2 0) (get_or bs 3 0) → Read bs r
read_by_places bs r h e = read bs r h (e ∙ first_by_places bs h)
