-- What is known of each token of a text, and the fields of one token: constants and variables are as listed.
use Prim.Native.Nat.{ℕ, zero, suc, ◌<◌, ◌≤◌}
use mathlib.Core.Path.{◌≡◌, refl, sym}
use mathlib.Core.Bool.{Bool, true, false}
use mathlib.Core.List.{List, [], ◌∷◌}
use native.Mathlib.Omega.{arith}
use lib.Dec.{eqb, leb}
use borrow.Author.Tests.{leb-true}
use Rattle.wire.proofs.Laws.{high_length}
use Rattle.rules.specs.Bytes.{pick, byte as byte_at}
use Rattle.rules.specs.Format.{within, allowed, forms, form_in, form_of}
use Rattle.rules.specs.Catalog.{high_bytes, word64}
use Rattle.rules.specs.EditRule.{IsBytes}
use Rattle.rules.specs.declared.Kind.TheVariants.{Constant, Expression}
use Rattle.rules.proofs.Lists.{both_right}
use Rattle.rules.proofs.Within.{false_not_true}
use Rattle.rules.specs.Types.{Types}
use Rattle.notation.specs.Tokens.{Token, word, number, text, variable, top_variable, class_variable, mark, Lexeme, lexeme, kind, token_of, true_word}
use Rattle.notation.specs.Building.{byte, constant_node, variable_node, spelled, leaf}
use Rattle.notation.proofs.Formed.{an_integer, a_string, a_boolean, one_name, two_names, Of}
use Rattle.notation.proofs.FormedNodes.{Word, word_in, leaf_of}

-- of the strings in a token S holds; words and names of variables are spelled as names; a mark has a kind of its own
abbrev pub Good : (List ℕ → Type 0) → Token → Type 0
Good S (word w) = Word S w
Good S (number z) = Unit {0}
Good S (text s) = S s
Good S (variable n) = Word S n
Good S (top_variable n) = Word S n
Good S (class_variable c n) = Word S c × Word S n
Good S (mark k) = 5 ≤ k

-- ---- Bytes

-- one byte before others
pub byte_before : {x : ℕ} {xs : List ℕ} → x < 256 → IsBytes xs → IsBytes (x ∷ xs)
byte_before {x} {xs} h b = record { below = go }
  where
    go : (i : ℕ) → byte_at (x ∷ xs) i < 256
    go zero = h
    go (suc i) = b.below i

-- no byte at all
pub no_bytes : IsBytes []
no_bytes = record { below = λ i. omega arith }

-- the bytes of a number
pub high_bytes_lem : (k n : ℕ) → IsBytes (high_bytes k n)
unfolding high_bytes
high_bytes_lem zero n = no_bytes
high_bytes_lem (suc k) n = byte_before (omega arith) (high_bytes_lem k n)

-- ---- Strings of tokens, by their kind

-- a text
pub text_spelled : (S : List ℕ → Type 0) (t : Token) → Good S t → kind t ≡ 2 → S (spelled t)
unfolding spelled
text_spelled S (word w) g e = absurd (omega arith)
text_spelled S (number z) g e = absurd (omega arith)
text_spelled S (text s) g e = g
text_spelled S (variable n) g e = absurd (omega arith)
text_spelled S (top_variable n) g e = absurd (omega arith)
text_spelled S (class_variable c n) g e = absurd (omega arith)
text_spelled S (mark k) g e = absurd (omega arith)

module _ (types : Types) {S : List ℕ → Type 0} where
  -- a word
  pub word_spelled : (t : Token) → Good S t → kind t ≡ 0 → Word S (spelled t)
  unfolding spelled
  word_spelled (word w) g e = g
  word_spelled (number z) g e = absurd (omega arith)
  word_spelled (text s) g e = absurd (omega arith)
  word_spelled (variable n) g e = absurd (omega arith)
  word_spelled (top_variable n) g e = absurd (omega arith)
  word_spelled (class_variable c n) g e = absurd (omega arith)
  word_spelled (mark k) g e = absurd (omega arith)

  -- the name of a variable
  pub variable_spelled : (t : Token) → Good S t → kind t ≡ 3 → Word S (spelled t)
  unfolding spelled
  variable_spelled (word w) g e = absurd (omega arith)
  variable_spelled (number z) g e = absurd (omega arith)
  variable_spelled (text s) g e = absurd (omega arith)
  variable_spelled (variable n) g e = g
  variable_spelled (top_variable n) g e = absurd (omega arith)
  variable_spelled (class_variable c n) g e = absurd (omega arith)
  variable_spelled (mark k) g e = absurd (omega arith)

  -- ---- Fields of one token

  -- 12, of true or false
  boolean_of : (p l : ℕ) (b : Bool) → Of types S Constant (leaf p 0x12 (byte l ∷ byte (pick b 1 0) ∷ []))
  unfolding allowed form_of form_in forms
  boolean_of p l true = leaf_of types Constant refl (omega arith) (a_boolean refl (omega arith)) refl
  boolean_of p l false = leaf_of types Constant refl (omega arith) (a_boolean refl (omega arith)) refl

  -- every token but a variable is a constant
  pub constant_of : (x : Lexeme) → Good S (token_of x) → within 3 4 (kind (token_of x)) ≡ false → Of types S Constant (constant_node x)
  unfolding constant_node allowed form_of form_in forms
  constant_of (lexeme p l (word w)) g e = leaf_of types Constant refl (omega arith) (a_string refl (word_in types 0x11 refl refl g)) refl
  constant_of (lexeme p l (number z)) g e = leaf_of types Constant refl (omega arith) (an_integer refl (high_length 8 (word64 z)) (high_bytes_lem 8 (word64 z))) refl
  constant_of (lexeme p l (text s)) g e = leaf_of types Constant refl (omega arith) (a_string refl (record { known = g; spelling = refl; type = refl })) refl
  constant_of (lexeme p l (variable n)) g e = false_not_true (sym e)
  constant_of (lexeme p l (top_variable n)) g e = false_not_true (sym e)
  constant_of (lexeme p l (class_variable c n)) g e = false_not_true (sym e)
  constant_of (lexeme p l (mark k)) g e = boolean_of p l (eqb k true_word)

  -- a variable is an expression
  pub variable_of : (x : Lexeme) → Good S (token_of x) → within 3 4 (kind (token_of x)) ≡ true → Of types S Expression (variable_node x)
  unfolding variable_node allowed form_of form_in forms
  variable_of (lexeme p l (word w)) g e = false_not_true e
  variable_of (lexeme p l (number z)) g e = false_not_true e
  variable_of (lexeme p l (text s)) g e = false_not_true e
  variable_of (lexeme p l (variable n)) g e = leaf_of types Expression refl (omega arith) (one_name (word_in types 0x13 refl refl g)) refl
  variable_of (lexeme p l (top_variable n)) g e = leaf_of types Expression refl (omega arith) (one_name (word_in types 0x14 refl refl g)) refl
  variable_of (lexeme p l (class_variable c n)) g e = leaf_of types Expression refl (omega arith) (two_names (word_in types 0x15 refl refl g.0) (word_in types 0x15 refl refl g.1)) refl
  variable_of (lexeme p l (mark k)) g e = let low = leb-true k 4 (both_right (leb 3 k) (leb k 4) e) in absurd (omega arith)
