-- What a spelling is, byte by byte: the groups of seven bits and what each is worth. Names no program.
use Rattle.std.specs.Prelude.{◌≡◌, ℕ, ◌+◌, ◌-◌, ◌*◌, ◌%◌, ◌<◌, ◌≤◌, ◌↔◌, List, length, slice_index}
use Rattle.wire.specs.Numbers.{largest, spelling, Bytes}

-- the group at a place; past the last byte it is 0
abbrev pub group : List ℕ → ℕ → ℕ
group bs i = slice_index bs i % 128

-- what the groups of four bytes are worth together, the lowest first
abbrev pub worth : List ℕ → ℕ
worth bs = group bs 0 + 128 * group bs 1 + 128 * 128 * group bs 2 + 128 * 128 * 128 * group bs 3

-- the place of the last byte
abbrev pub last : List ℕ → ℕ
last bs = length bs - 1

-- the bytes are one to four groups of seven bits, the lowest first; the top bit of each but the last says that more follow,
-- and the last of several is not 0, so that none could be left out
pub record Grouped (n : ℕ) (bs : List ℕ) : Type 0 where
  pub some : 1 ≤ length bs
  pub few : length bs ≤ 4
  pub value : n ≡ worth bs
  pub more_follow : (i : ℕ) → i < last bs → 128 ≤ slice_index bs i
  pub none_follows : slice_index bs (last bs) < 128
  pub shortest : 2 ≤ length bs → 1 ≤ slice_index bs (last bs)

-- the spelling of a number is that, and nothing else is
abbrev pub SpellingIsGrouped : Type 0
SpellingIsGrouped = (n : ℕ) (bs : List ℕ) → n ≤ largest → Bytes bs → (bs ≡ spelling n) ↔ Grouped n bs
