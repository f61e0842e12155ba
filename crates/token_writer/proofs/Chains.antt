-- A token is its white space and its spelling; and tokens one after the other make the whole text. Assumes nothing.
use mathlib.Core.Path.{◌≡◌, refl, sym, ap, ◌∙◌}
use mathlib.Core.List.{List, [], ◌∷◌, ◌++◌, append_assoc}
use mathlib.Core.Option.{none, some}
use Prim.Native.Nat.{ℕ, ◌+◌, ◌≤◌}
use native.Mathlib.Omega.{arith}
use lib.ListN.{length, take}
use Rattle.std.specs.Prelude.{None}
use Rattle.wire.proofs.Laws.{over_front}
use Rattle.notation.specs.Tokens.{Token, kind, Lexeme, lexeme}
use Rattle.notation.specs.Layout.{spelling, brackets_behind, laid_out}
use Rattle.token_writer.specs.declared.Pen.{Pen}
use Rattle.token_writer.specs.Writing.{Wrote}
use Rattle.token_writer.specs.Pens.{last_kind, gap_for, token_bytes, text_from, Behind, Put, Halfway}
use Rattle.token_writer.proofs.Writing.{wrote_is, wrote_join, wrote_none}

-- ---- One token

-- white space, spelling, and the pen behind them
pub put_token : (t : Token) {a b c : List ℕ} {pen pen' : Pen} {w at end : ℕ}
    → Wrote a b pen.fill at (gap_for pen (kind t) w) → Wrote b c at end (spelling t) → (pen'.fill ≡ end) × Behind pen pen' (kind t) w → Put a c pen pen' w t
unfolding token_bytes
put_token t {a} {b} {c} {pen} {pen'} {w} {at} {end} space token (fill, behind) =
    record { bytes = rw fill (wrote_join space token); behind = behind }

-- ---- What is to come

-- a token, and what comes behind it
pub text_next : (t : Token) {pen pen' : Pen} {w : ℕ} → Behind pen pen' (kind t) w → (p : ℕ) (xs : List Lexeme) → text_from pen (lexeme p w t ∷ xs) ≡ token_bytes pen w t ++ text_from pen' xs
unfolding text_from laid_out token_bytes gap_for last_kind
text_next t {pen} {pen'} {w} behind p xs =
    rw (behind.before, behind.brackets, behind.line)
    (sym (append_assoc (gap_for pen (kind t) w) (spelling t) (laid_out xs (some (kind t)) (brackets_behind (kind t) pen.brackets) w)))

-- the whole text is still to come, before the first token
pub at_start_lem : (out : List ℕ) (xs : List Lexeme) → Halfway out out (record { fill = 0; before = None; brackets = 0; line = 0 }) (laid_out xs none 0 0) xs
unfolding text_from last_kind
at_start_lem out xs = record { done = []; wrote = wrote_none out 0; rest = refl }

module _ {out₀ a : List ℕ} {pen : Pen} {whole : List ℕ} where
  -- the next token is written
  pub one_more : {b : List ℕ} {pen' : Pen} {w p : ℕ} {t : Token} {xs : List Lexeme}
      → Halfway out₀ a pen whole (lexeme p w t ∷ xs) → Put a b pen pen' w t → Halfway out₀ b pen' whole xs
  one_more {b} {pen'} {w} {p} {t} {xs} so put =
      record {
        done = so.done ++ token_bytes pen w t;
        wrote = wrote_join so.wrote put.bytes;
        rest =
            append_assoc so.done (token_bytes pen w t) (text_from pen' xs)
            ∙ ap (λ (l : List ℕ). so.done ++ l) (sym (text_next t put.behind p xs)) ∙ so.rest;
      }

  -- the end is written
  pub at_end_lem : {b : List ℕ} {end : ℕ} → Halfway out₀ a pen whole [] → Wrote a b pen.fill end (text_from pen []) → Wrote out₀ b 0 end whole
  at_end_lem so last = wrote_is so.rest (wrote_join so.wrote last)

-- a text that fits stands at the start of the output
pub text_stands : {a b : List ℕ} {end : ℕ} {whole : List ℕ} → Wrote a b 0 end whole → end ≤ length a → take end b ≡ whole
text_stands {a} {b} {end} {whole} w fits =
    let size : end ≡ 0 + length whole = w.filled in
    ap (λ (k : ℕ). take k b) size ∙ ap (take (0 + length whole)) w.stored ∙ over_front a 0 whole (omega arith)
