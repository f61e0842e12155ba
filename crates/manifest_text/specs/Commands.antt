-- The first line: what is asked for.
use Rattle.std.specs.Prelude.{Option, None, Some}
use Rattle.manifest_text.specs.declared.Command.{Command}
use Rattle.manifest_text.specs.declared.Command.TheVariants.{Convert, Place, Print}
use Rattle.std.specs.Prelude.{ℕ, ◌+◌, ◌-◌, ◌*◌, Bool, List, [], ◌∷◌, ltb, length, take, drop}
use Rattle.rules.specs.Bytes.{pick}
use Rattle.rules.specs.Compile.{same_bytes}

-- which types are built in: the eight, or those of a list of so many bytes
abbrev pub BuiltIn : Type 0
BuiltIn = Option ℕ

-- the command that a line asks for, or none
abbrev pub Asked : Type 0
Asked = Option Command

-- the number n with one digit more; 100,000 where the byte is no digit or there are too many
unfoldable pub with_digit : (n byte : ℕ) → ℕ
with_digit n c = pick (ltb c 48) 100000 (pick (ltb 57 c) 100000 (pick (ltb 9999 n) 100000 (n * 10 + (c - 48))))

unfoldable pub spelled : (digits : List ℕ) → (n : ℕ) → ℕ
spelled [] n = n
spelled (c ∷ cs) n = spelled cs (with_digit n c)

-- one to five digits behind six bytes
unfoldable pub offset_of : (line : List ℕ) → ℕ
offset_of line = pick (ltb (length line) 7) 100000 (pick (ltb 11 (length line)) 100000 (spelled (drop 6 line) 0))

unfoldable pub place_asked : (line : List ℕ) → Asked
place_asked line = pick (ltb 99999 (offset_of line)) None (Some (Place (offset_of line)))

unfoldable pub command_of : (line : List ℕ) → Asked
command_of line =
    pick (same_bytes (99 ∷ 111 ∷ 110 ∷ 118 ∷ 101 ∷ 114 ∷ 116 ∷ []) line) (Some Convert)  -- convert
    (pick (same_bytes (112 ∷ 114 ∷ 105 ∷ 110 ∷ 116 ∷ []) line) (Some Print)  -- print
    (pick (same_bytes (112 ∷ 108 ∷ 97 ∷ 99 ∷ 101 ∷ 32 ∷ []) (take 6 line)) (place_asked line) None))  -- place, a space, an offset

-- ---- A list of types: "types", a space, how many bytes it has in five digits, a space, and then the command

unfoldable pub names_types : (line : List ℕ) → Bool
names_types line = same_bytes (116 ∷ 121 ∷ 112 ∷ 101 ∷ 115 ∷ 32 ∷ []) (take 6 line)

unfoldable pub command_behind : (line : List ℕ) → Asked
command_behind line = pick (ltb 99999 (offset_of (take 11 line))) None (pick (same_bytes (32 ∷ []) (take 1 (drop 11 line))) (command_of (drop 12 line)) None)

unfoldable pub command_in : (line : List ℕ) → Asked
command_in line = pick (names_types line) (command_behind line) (command_of line)

unfoldable pub types_in : (line : List ℕ) → BuiltIn
types_in line = pick (names_types line) (Some (offset_of (take 11 line))) None
