-- Words as numbers.
use Rattle.std.specs.Prelude.{ℕ, ◌+◌, ◌*◌, List, [], ◌∷◌, Bool, ◌&&◌, leb, length, Option as CodeOption, Some, None}
use Rattle.std.proofs.Math.Option.{Option, none, some}
use Rattle.notation.specs.Tokens.{and_word, or_word, true_word, false_word, default_word, if_word, else_word, case_word, class_word, include_word, node_word, define_word, inherits_word}
use Rattle.notation.specs.Lexing.{keywords, keyword_in}
use Rattle.notation.specs.Printer.{no_keyword}

-- the number of a word: its first byte is the lowest
unfoldable pub little : List ℕ → ℕ
little [] = 0
little (c ∷ cs) = little cs * 256 + c

-- the kind that the code found, as the definition has it
abbrev pub kind_found : CodeOption ℕ → Option ℕ
kind_found None = none
kind_found (Some k) = some k

-- the keywords by their numbers
abbrev pub keyword_numbers : List (ℕ × ℕ)
keyword_numbers =
    (0x646e61, and_word)  -- and
    ∷ (0x65736163, case_word)  -- case
    ∷ (0x7373616c63, class_word)  -- class
    ∷ (0x746c7561666564, default_word)  -- default
    ∷ (0x656e69666564, define_word)  -- define
    ∷ (0x65736c65, else_word)  -- else
    ∷ (0x65736c6166, false_word)  -- false
    ∷ (0x6669, if_word)  -- if
    ∷ (0x6564756c636e69, include_word)  -- include
    ∷ (0x7374697265686e69, inherits_word)  -- inherits
    ∷ (0x65646f6e, node_word)  -- node
    ∷ (0x726f, or_word)  -- or
    ∷ (0x65757274, true_word)  -- true
    ∷ []

-- "A name is a word that is no keyword", of at most 255 bytes
unfoldable pub name_fits : List ℕ → Bool
name_fits w = leb (length w) 255 && no_keyword (keyword_in keywords w)
