-- The pattern of an arm or a branch, as a form of its own.
use Rattle.std.specs.Prelude.{ℕ, ◌+◌, List, ◌∷◌, eqb}
use Rattle.wire.specs.Bytes.{pick, byte, end_of}
use Rattle.places.specs.At.{constant_at}
use Rattle.notation.specs.Tokens.{Lexeme, default_word}
use Rattle.notation.specs.Print.{Rest, the, constant_lexeme}
use Rattle.statement_printer.specs.Labels.{first_label}

-- the pattern at p: a constant, or default on the line on which the form behind it begins
unfoldable pub printed_pattern : (S : ℕ → List ℕ) → (manifest : List ℕ) → (p v : ℕ) → Rest → List Lexeme
printed_pattern S m p v rest =
    let w : ℕ = first_label m (end_of m p) (end_of m (end_of m p)) v in
    pick (eqb (byte m p) 0x1b) (the w default_word ∷ rest w) (constant_lexeme S (constant_at m p) ∷ rest (byte m (p + 3)))
