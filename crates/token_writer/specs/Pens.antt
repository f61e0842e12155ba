-- A token more, by what stands before it; and a text of tokens that is written up to one of them.
use Rattle.std.specs.Prelude.{◌≡◌, List, ◌++◌, ℕ, ◌≤◌, Option as CodeOption, Some, None}
use Rattle.std.proofs.Math.Option.{Option, none, some}
use Rattle.notation.specs.Tokens.{Token, kind, Lexeme}
use Rattle.notation.specs.Layout.{gap, spelling, brackets_behind, laid_out}
use Rattle.token_writer.specs.declared.Pen.{Pen}
use Rattle.token_writer.specs.Writing.{Wrote}

-- the kind of the last token, if there is one
unfoldable pub last_kind : CodeOption ℕ → Option ℕ
last_kind None = none
last_kind (Some k) = some k

-- the white space before a token of kind k on line w
unfoldable pub gap_for : Pen → (k w : ℕ) → List ℕ
gap_for pen k w = gap (last_kind pen.before) pen.brackets pen.line k w

-- a token on line w, with the white space before it
unfoldable pub token_bytes : Pen → (w : ℕ) → Token → List ℕ
token_bytes pen w t = gap_for pen (kind t) w ++ spelling t

-- the tokens xs and the end of the text, behind what the pen has written
unfoldable pub text_from : Pen → List Lexeme → List ℕ
text_from pen xs = laid_out xs (last_kind pen.before) pen.brackets pen.line

-- a pen that can write a token: its counts are far from overflowing
pub record Ready (pen : Pen) : Type 0 where
  pub fill : pen.fill ≤ 281474976710655
  pub brackets : pen.brackets ≤ 65535

-- what the pen tells behind a token of kind k on line w
pub record Behind (pen pen' : Pen) (k w : ℕ) : Type 0 where
  pub before : pen'.before ≡ Some k
  pub brackets : pen'.brackets ≡ brackets_behind k pen.brackets
  pub line : pen'.line ≡ w

-- the token t is written on line w
pub record Put (out out' : List ℕ) (pen pen' : Pen) (w : ℕ) (t : Token) : Type 0 where
  pub bytes : Wrote out out' pen.fill pen'.fill (token_bytes pen w t)
  pub behind : Behind pen pen' (kind t) w

-- of the text `whole`, the tokens xs and its end are still to be written; the output was out₀ at first
pub record Halfway (out₀ out : List ℕ) (pen : Pen) (whole : List ℕ) (xs : List Lexeme) : Type 0 where
  pub done : List ℕ
  pub wrote : Wrote out₀ out 0 pen.fill done
  pub rest : done ++ text_from pen xs ≡ whole
