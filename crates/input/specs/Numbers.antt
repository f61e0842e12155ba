-- Digits as a decimal number, up to a limit.
use Rattle.std.specs.Prelude.{ℕ, ◌+◌, ◌-◌, ◌*◌, min, List, [], ◌∷◌, ltb, Option, Some, None}
use Rattle.wire.specs.Bytes.{pick}

-- the number n with one digit more; one above the limit where the byte is no digit or the number is past the limit, and whatever follows then
unfoldable pub with_digit : (most n byte : ℕ) → ℕ
with_digit most n c = pick (ltb c 48) (most + 1) (pick (ltb 57 c) (most + 1) (min (most + 1) (n * 10 + (c - 48))))

unfoldable pub spelled : (most : ℕ) → (digits : List ℕ) → (n : ℕ) → ℕ
spelled most [] n = n
spelled most (c ∷ cs) n = spelled most cs (with_digit most n c)

-- a number that is no larger than the limit, or none
unfoldable pub up_to : (most n : ℕ) → Option ℕ
up_to most n = pick (ltb most n) None (Some n)
