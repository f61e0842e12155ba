-- Tokens that can be laid out, with strings that are short texts, are good; and what holds of tokens, wherever they stand, holds of those that
-- lexing their layout gives.
use Prim.Native.Nat.{ℕ, ◌≤◌}
use mathlib.Core.Path.{◌≡◌, refl, sym, subst}
use mathlib.Core.Bool.{Bool, true, ◌&&◌}
use mathlib.Core.List.{List, [], ◌∷◌, ◌++◌}
use mathlib.Core.Option.{Option, some}
use lib.Dec.{leb}
use borrow.Author.Tests.{leb-true}
use Rattle.rules.specs.Ranges.{Each, none_left, also}
use Rattle.rules.proofs.Lists.{both_left, both_right, each_map}
use Rattle.notation.specs.Tokens.{Token, word, number, text, variable, top_variable, class_variable, mark, kind, is_among, Lexeme, lexeme, token_of, end_of_text}
use Rattle.notation.specs.Convert.{strings_of}
use Rattle.notation.proofs.Lexing.{◌▹◌, of_each}
use Rattle.notation.proofs.Lexing
use Rattle.notation.proofs.LexedMarks.{spelled_marks}
use Rattle.notation.proofs.LaidOut.{Spelled, Layable}
use Rattle.notation.proofs.Unplaced.{bares}
use Rattle.notation.proofs.Written.{ShortText}
use Rattle.notation.proofs.StringTable.{Among, StringsIn}
use Rattle.notation.proofs.TablePart.{among_each}
use Rattle.notation.proofs.LexedTokens.{GoodToken}
use Rattle.notation.proofs.LexedGood.{GoodLexeme}
use Rattle.notation.proofs.ConvertedSound.{each_first, each_second}

-- ---- One token

-- whether each kind is one of a sign or of a keyword, or of what ends a text
abbrev all_marks : List ℕ → Bool
all_marks [] = true
all_marks (k ∷ ks) = leb 5 k && all_marks ks

each_mark : (ks : List ℕ) → all_marks ks ≡ true → Lexing.Each (λ k. 5 ≤ k) ks
each_mark [] h = Lexing.all
each_mark (k ∷ ks) h = leb-true 5 k (both_left (leb 5 k) (all_marks ks) h) ▹ each_mark ks (both_right (leb 5 k) (all_marks ks) h)

-- those that are spelled are
mark_kind : (k : ℕ) → is_among k spelled_marks ≡ true → 5 ≤ k
mark_kind k h = of_each (λ j. 5 ≤ j) k spelled_marks h (each_mark spelled_marks refl)

-- a token that can be laid out is good, where its strings are short texts
token_good : (before : Option ℕ) (t : Token) → Spelled before t → Each ShortText (strings_of t) → GoodToken t
unfolding strings_of
token_good before (word w) s all = record { known = each_first all; spelled = s.0 }
token_good before (number z) s all = tt
token_good before (text w) s all = each_first all
token_good before (variable n) s all = record { known = each_first all; spelled = s.0 }
token_good before (top_variable n) s all = record { known = each_first all; spelled = s.0 }
token_good before (class_variable c n) s all = (record { known = each_first all; spelled = s.0.0 }, record { known = each_second all; spelled = s.1.0 })
token_good before (mark k) s all = mark_kind k s.0

-- ---- All tokens

-- tokens that can be laid out are good, where their strings are among short texts
pub laid_good : {us : List (List ℕ)} → Each ShortText us → (before : Option ℕ) (v : ℕ) (xs : List Lexeme) → Layable before v xs → Each (StringsIn (λ s. Among s us)) xs → Each GoodLexeme xs
laid_good short before v [] l none_left = none_left
laid_good short before v (lexeme p w t ∷ xs) l (also i is) = also (token_good before t l.1 (each_map (λ s a. among_each a short) i)) (laid_good short (some (kind t)) w xs l.2 is)

-- ---- Lexed again

module _ (P : Token → Type 0) where
  abbrev OfToken : Lexeme → Type 0
  OfToken x = P (token_of x)

  -- places do not matter
  bare_each : {xs : List Lexeme} → Each OfToken xs → Each OfToken (bares xs)
  bare_each none_left = none_left
  bare_each (also {x = lexeme p l t} h all) = also h (bare_each all)

  placed_each : (xs : List Lexeme) → Each OfToken (bares xs) → Each OfToken xs
  placed_each [] none_left = none_left
  placed_each (lexeme p l t ∷ xs) (also h all) = also h (placed_each xs all)

  -- with the end of the text behind them
  each_end : {xs : List Lexeme} (l : ℕ) → Each OfToken xs → P (mark end_of_text) → Each OfToken (xs ++ (lexeme 0 l (mark end_of_text) ∷ []))
  each_end l none_left e = also e none_left
  each_end l (also h all) e = also h (each_end l all e)

  -- what holds of tokens and of the end holds of tokens that are the same but for places
  pub lexed_each : (xs ys : List Lexeme) (l : ℕ) → bares xs ≡ bares ys ++ (lexeme 0 l (mark end_of_text) ∷ []) → Each OfToken ys → P (mark end_of_text) → Each OfToken xs
  lexed_each xs ys l e all end = placed_each xs (subst (Each OfToken) (sym e) (each_end l (bare_each all) end))
