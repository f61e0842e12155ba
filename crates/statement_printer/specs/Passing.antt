-- A text on its way into the output, and what it means that a form of it is written. A text longer than 65,535 bytes is refused, so nothing more is
-- written behind so many.
use Rattle.std.specs.Prelude.{ℕ, ◌≤◌, ◌<◌, ◌≡◌, Bool, true, ◌||◌, List, ltb, length}
use Rattle.syntax.specs.Strings.{Indexed}
use Rattle.notation.specs.Tokens.{Lexeme}
use Rattle.notation.specs.Print.{Rest}
use Rattle.token_writer.specs.declared.Pen.{Pen}
use Rattle.token_writer.specs.Pens.{Halfway}

-- a manifest and the index of its strings
pub record Source (m table : List ℕ) (strings : ℕ) : Type 0 where
  pub indexed : Indexed m table strings
  pub short : length m ≤ 65535

-- the pen writes no more: the text is too long already
unfoldable pub is_full : Pen → Bool
is_full pen = ltb 65535 pen.fill || ltb 65535 pen.brackets

-- of the text `whole`, the tokens xs and its end are still to be written; or it is too long, and what is written of it no longer counts
pub data Going (out₀ out : List ℕ) (pen : Pen) (whole : List ℕ) (xs : List Lexeme) : Type 0 where
  writing : pen.brackets ≤ pen.fill → Halfway out₀ out pen whole xs → Going out₀ out pen whole xs
  full : is_full pen ≡ true → 65535 < length whole → Going out₀ out pen whole xs

-- the form is written: what follows it, by the line on which it ends, is still to come
pub record Passes (out out' : List ℕ) (pen pen' : Pen) (form : Rest → List Lexeme) : Type 0 where
  pub goes : (out₀ whole : List ℕ) (rest : Rest) → Going out₀ out pen whole (form rest) → Going out₀ out' pen' whole (rest pen'.line)
