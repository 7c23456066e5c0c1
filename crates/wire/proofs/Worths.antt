-- A spelling by what its bytes are worth.
use Rattle.std.proofs.Common.{◌≡◌, ℕ, ◌≤◌, List, [], ◌∷◌, arith}
use Rattle.std.proofs.lemmas.Bool.Decides.{nat_tests}
use Rattle.wire.specs.Numbers.{largest, spelling, Bytes}
use Rattle.wire.specs.Groups.{Grouped, SpellingIsGrouped}

spelled_grouped : (n : ℕ) → n ≤ largest → Grouped n (spelling n)
unfolding spelling
spelled_grouped n h = record {
  some = grind (arith, nat_tests);
  few = grind (arith, nat_tests);
  value = grind (arith, nat_tests);
  more_follow = λ i l. grind (arith, nat_tests);
  none_follows = grind (arith, nat_tests);
  shortest = grind (arith, nat_tests);
}

grouped_spelled : (n : ℕ) (bs : List ℕ) → Bytes bs → Grouped n bs → bs ≡ spelling n
unfolding spelling
grouped_spelled n [] b g = absurd (omega (arith, g.some))
grouped_spelled n (x ∷ []) b g = grind (arith, nat_tests, g.value, g.none_follows)
grouped_spelled n (x ∷ y ∷ []) b g = grind (arith, nat_tests, g.value, g.none_follows, g.shortest, g.more_follow 0, b 0)
grouped_spelled n (x ∷ y ∷ z ∷ []) b g = grind (arith, nat_tests, g.value, g.none_follows, g.shortest, g.more_follow 0, g.more_follow 1, b 0, b 1)
grouped_spelled n (x ∷ y ∷ z ∷ w ∷ []) b g =
    grind (arith, nat_tests, g.value, g.none_follows, g.shortest, g.more_follow 0, g.more_follow 1, g.more_follow 2, b 0, b 1, b 2)
grouped_spelled n (x ∷ y ∷ z ∷ w ∷ v ∷ bs) b g = absurd (omega (arith, g.few))

pub spelling_is_grouped : SpellingIsGrouped
spelling_is_grouped n bs h b = (λ e. rw e (spelled_grouped n h), grouped_spelled n bs b)
