-- Writing a number group by group: what each byte shows of it.
use Rattle.std.proofs.Common.{◌≡◌, ℕ, ◌/◌, ◌%◌, ◌+◌, ◌^◌, ◌<◌, ◌≤◌, if◌then◌else◌, nat_lt, List, [], ◌∷◌, length, get_or, arith}
use Rattle.std.proofs.lemmas.Bool.Decides.{nat_tests}
use Rattle.wire.specs.Numbers.{largest, spelling}

-- the byte of a number's lowest group, which says whether more follow
abbrev pub lowest : ℕ → ℕ
lowest n = if nat_lt n 128 then n else n % 128 + 128

-- bytes that show the groups of a number in turn, as many as it has, spell it
pub shown_spells : (n : ℕ) (bs : List ℕ) → n ≤ largest → length bs ≡ length (spelling n) →
    ((k : ℕ) → k < length bs → get_or bs k 0 ≡ lowest (n / 128 ^ k)) → bs ≡ spelling n
unfolding spelling
shown_spells n [] h l each = grind (arith, nat_tests)
shown_spells n (a ∷ []) h l each = grind (arith, nat_tests, each 0)
shown_spells n (a ∷ b ∷ []) h l each = grind (arith, nat_tests, each 0, each 1)
shown_spells n (a ∷ b ∷ c ∷ []) h l each = grind (arith, nat_tests, each 0, each 1, each 2)
shown_spells n (a ∷ b ∷ c ∷ d ∷ []) h l each = grind (arith, nat_tests, each 0, each 1, each 2, each 3)
shown_spells n (a ∷ b ∷ c ∷ d ∷ e ∷ bs) h l each = absurd (grind (arith, nat_tests))
