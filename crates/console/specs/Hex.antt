-- Hexadecimal digits by their codes: 0 to 9, then a to f or A to F.
use Rattle.std.specs.Prelude.{ℕ, ◌+◌, ◌-◌, ◌*◌, Bool, cond, ◌&&◌, List, [], ◌∷◌, Some, None, Option, nat_le}

abbrev between : ℕ → ℕ → ℕ → Bool
between low high code = nat_le low code && nat_le code high

abbrev pub hex_value : ℕ → Option ℕ
hex_value code =
    cond (between 48 57 code) (Some (code - 48))
    (cond (between 97 102 code) (Some (code - 87))
    (cond (between 65 70 code) (Some (code - 55))
    None))

-- the byte of two digits' values
abbrev byte_of : Option ℕ → Option ℕ → Option ℕ
byte_of (Some high) (Some low) = Some (16 * high + low)
byte_of _ _ = None

-- the byte that just two digits spell, the higher first
abbrev pub hex_byte : List ℕ → Option ℕ
hex_byte (high ∷ low ∷ []) = byte_of (hex_value high) (hex_value low)
hex_byte _ = None
