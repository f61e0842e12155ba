-- Strings as they are found.
use Prim.Native.Nat.{ℕ, suc, ◌+◌, ◌≤◌, ◌<◌}
use mathlib.Core.Path.{◌≡◌, refl, sym, ap, ◌∙◌, subst}
use mathlib.Core.Bool.{Bool, true, false, ◌||◌}
use mathlib.Core.List.{List, [], ◌∷◌, ◌++◌, append_assoc, append-nil}
use mathlib.Core.Option.{none}
use native.Mathlib.Omega.{arith}
use native.Mathlib.Numerals.{add-one}
use lib.Dec.{ltb, eqb}
use lib.IntN.{pos}
use lib.ListN.{length, get_or, drop, length-append}
use lib.Seq.{drop-cons}
use borrow.Author.Tests.{eqb-true, eq-eqb, le-leb, lt-leb, ltb-true, lt-ltb}
use Rattle.rules.specs.Bytes.{pick}
use Rattle.rules.proofs.Within.{false_not_true}
use Rattle.notation.specs.Tokens.{text, mark, kind, a_text, malformed, operand_behind, lexeme}
use Rattle.notation.specs.Lexing.{is_quote, escapes, find, text_token, between, in_string, in_escape, reads, begins, step_byte, finish, line_behind}
use Rattle.notation.proofs.Lexing.{both_true}
use Rattle.lexer.specs.declared.Token as found
use Rattle.lexer.specs.declared.Quoted.{Quoted}
use Rattle.notation.specs.Quoted.{escape_of, unquoted, quoted_at}
use Rattle.lexer.specs.Found.{lex_from, tokens_from, plain_token, token_in, Begins, Found}
use Rattle.std.specs.Prelude.{Option as CodeOption, Some, None}
use Rattle.std.specs.Option.{is_some}
use Rattle.lexer.specs.Strings.{is_escape, escape_at, piece_size, StringRun, StringRead}
use Rattle.lexer.proofs.Scanning.{stepped, stepped_on, stepped_to}
use Rattle.lexer.proofs.Ends.{token_closed, begins_behind, begins_token, breaks_off}
use Rattle.lexer.proofs.Spelling.{quoted_spelled}
use Rattle.lexer.proofs.FoundTokens.{found_token, found_fault}

-- ---- Bytes

-- what holds of each escape's letter
escape_cases : (P : ℕ → Type 0) (d : ℕ) → is_escape d ≡ true → P 0x5c → P 0x27 → P 0x22 → P 0x6e → P d
escape_cases P d h w x y z = go (eqb d 0x5c) (eqb d 0x27) (eqb d 0x22) (eqb d 0x6e) refl refl refl refl h
  where
    go : (a b e f : Bool) → eqb d 0x5c ≡ a → eqb d 0x27 ≡ b → eqb d 0x22 ≡ e → eqb d 0x6e ≡ f → (a || (b || (e || f))) ≡ true → P d
    go true b e f i j k l m = subst P (sym (eqb-true d 0x5c i)) w
    go false true e f i j k l m = subst P (sym (eqb-true d 0x27 j)) x
    go false false true f i j k l m = subst P (sym (eqb-true d 0x22 k)) y
    go false false false true i j k l m = subst P (sym (eqb-true d 0x6e l)) z
    go false false false false i j k l m = false_not_true m

-- no other byte is one
no_escape : (d : ℕ) → is_escape d ≡ false → find d escapes ≡ none
no_escape d h = go (eqb d 0x5c) (eqb d 0x27) (eqb d 0x22) (eqb d 0x6e) refl refl refl refl h
  where
    go : (a b e f : Bool) → eqb d 0x5c ≡ a → eqb d 0x27 ≡ b → eqb d 0x22 ≡ e → eqb d 0x6e ≡ f → (a || (b || (e || f))) ≡ false → find d escapes ≡ none
    go true b e f i j k l m = false_not_true (sym m)
    go false true e f i j k l m = false_not_true (sym m)
    go false false true f i j k l m = false_not_true (sym m)
    go false false false true i j k l m = false_not_true (sym m)
    go false false false false i j k l m = rw (i, j, k, l)

-- what holds of both quotes
quote_cases : (P : ℕ → Type 0) (c : ℕ) → is_quote c ≡ true → P 0x27 → P 0x22 → P c
unfolding is_quote
quote_cases P c h x y = go (eqb c 0x27) (eqb c 0x22) refl refl h
  where
    go : (a b : Bool) → eqb c 0x27 ≡ a → eqb c 0x22 ≡ b → (a || b) ≡ true → P c
    go true b i j m = subst P (sym (eqb-true c 0x27 i)) x
    go false true i j m = subst P (sym (eqb-true c 0x22 j)) y
    go false false i j m = false_not_true m

-- a quote is no line feed
quote_no_feed : (c : ℕ) → is_quote c ≡ true → eqb c 0x0a ≡ false
quote_no_feed c h = quote_cases (λ (c : ℕ). eqb c 0x0a ≡ false) c h refl refl

-- a quote begins a string
quote_begins : (o : Bool) (c p l : ℕ) → is_quote c ≡ true → begins o p l c ≡ reads [] (in_string p l c [])
unfolding begins is_quote
quote_begins o c p l h = quote_cases (λ (c : ℕ). begins o p l c ≡ reads [] (in_string p l c [])) c h refl refl

-- ---- A part of a string

none_not_some : {A B : Type 0} {a : A} → None ≡ Some a → B
none_not_some e = false_not_true (ap is_some e)

-- the bytes from `at` to i, of which the last is on line k, stand for n bytes
pub record StringPart (t : List ℕ) (at line quote i k n : ℕ) : Type 0 where
  pub content : List ℕ
  pub sized : length content ≡ n
  pub same_content : unquoted (drop at t) quote ≡ content ++ unquoted (drop i t) quote
  pub same_tokens : (p l : ℕ) → lex_from t at line (in_string p l quote []) ≡ lex_from t i k (in_string p l quote content)

pub no_part : (t : List ℕ) (at line quote : ℕ) → StringPart t at line quote at line 0
no_part t at line quote = record { content = []; sized = refl; same_content = refl; same_tokens = λ p l. refl }

-- one byte more, which j - i bytes of the text stand for
longer : {t : List ℕ} {at line quote i k n : ℕ} (j m b : ℕ) → StringPart t at line quote i k n → unquoted (drop i t) quote ≡ b ∷ unquoted (drop j t) quote
    → ((p l : ℕ) (s : List ℕ) → lex_from t i k (in_string p l quote s) ≡ lex_from t j m (in_string p l quote (s ++ (b ∷ [])))) → StringPart t at line quote j m (n + 1)
longer {t} {at} {line} {quote} {i} {k} {n} j m b part e f = record {
  content = part.content ++ (b ∷ []);
  sized = length-append part.content (b ∷ []) ∙ rw part.sized;
  same_content = part.same_content ∙ rw (e, append_assoc);
  same_tokens = λ p l. part.same_tokens p l ∙ f p l part.content;
}

module _ (t : List ℕ) (quote i k : ℕ) (high : i < length t) (other : eqb (get_or t i 0) quote ≡ false) where
  -- a byte for itself
  plain_read : eqb (get_or t i 0) 0x5c ≡ false → (p l : ℕ) (s : List ℕ) → lex_from t i k (in_string p l quote s) ≡ lex_from t (i + 1) (line_behind (get_or t i 0) k) (in_string p l quote (s ++ (get_or t i 0 ∷ [])))
  unfolding step_byte
  plain_read e p l s = stepped t i (in_string p l quote s) (in_string p l quote (s ++ (get_or t i 0 ∷ []))) k high (rw (other, e))

  plain_content : eqb (get_or t i 0) 0x5c ≡ false → unquoted (drop i t) quote ≡ get_or t i 0 ∷ unquoted (drop (i + 1) t) quote
  unfolding unquoted
  plain_content e = rw (drop-cons t i 0 high, other, e) (rw add-one)

  -- a backslash
  backslash_read : eqb (get_or t i 0) 0x5c ≡ true → (p l : ℕ) (s : List ℕ) → lex_from t i k (in_string p l quote s) ≡ lex_from t (i + 1) k (in_escape p l quote s)
  unfolding step_byte
  backslash_read e p l s =
      let here = eqb-true (get_or t i 0) 0x5c e in
      stepped_on t i (in_string p l quote s) (in_escape p l quote s) k high (rw (other, e)) (rw here)

  -- and the letter of an escape
  escape_read : eqb (get_or t i 0) 0x5c ≡ true → escape_at t (i + 1) ≡ true → (p l : ℕ) (s : List ℕ) → lex_from t i k (in_string p l quote s) ≡ lex_from t (i + 2) k (in_string p l quote (s ++ (escape_of (get_or t (i + 1) 0) ∷ [])))
  unfolding step_byte
  escape_read e f p l s =
      let a = both_true (ltb (i + 1) (length t)) (is_escape (get_or t (i + 1) 0)) f in
      let next = ltb-true (i + 1) (length t) a.0 in
      let d = get_or t (i + 1) 0 in
      backslash_read e p l s
      ∙ stepped_to t (i + 1) (i + 2) (in_escape p l quote s) (in_string p l quote (s ++ (escape_of d ∷ []))) k (omega arith) next
      (escape_cases (λ (d : ℕ). step_byte (in_escape p l quote s) (i + 1) k d ≡ reads [] (in_string p l quote (s ++ (escape_of d ∷ [])))) d a.1 refl refl refl refl)
      (escape_cases (λ (d : ℕ). eqb d 0x0a ≡ false) d a.1 refl refl refl refl)

  escape_content : eqb (get_or t i 0) 0x5c ≡ true → escape_at t (i + 1) ≡ true → unquoted (drop i t) quote ≡ escape_of (get_or t (i + 1) 0) ∷ unquoted (drop (i + 2) t) quote
  unfolding unquoted
  escape_content e f =
      let next = ltb-true (i + 1) (length t) (both_true (ltb (i + 1) (length t)) (is_escape (get_or t (i + 1) 0)) f).0 in
      let third : suc (i + 1) ≡ i + 2 = omega arith in
      let behind : drop (suc i) t ≡ get_or t (i + 1) 0 ∷ drop (i + 2) t = ap (λ (j : ℕ). drop j t) (sym (add-one i)) ∙ drop-cons t (i + 1) 0 next ∙ ap (λ (j : ℕ). get_or t (i + 1) 0 ∷ drop j t) third in
      rw (drop-cons t i 0 high, other, e, behind)

  -- one byte of the string is read
  pub part_more : {at line n : ℕ} (m : ℕ) → StringPart t at line quote i k n → piece_size t i ≡ Some m → StringPart t at line quote (i + m) (line_behind (get_or t i 0) k) (n + 1)
  part_more {at} {line} {n} m part h = go (eqb (get_or t i 0) 0x5c) (escape_at t (i + 1)) refl refl h
    where
      go : (a b : Bool) → eqb (get_or t i 0) 0x5c ≡ a → escape_at t (i + 1) ≡ b → pick a (pick b (Some 2) None) (Some 1) ≡ Some m → StringPart t at line quote (i + m) (line_behind (get_or t i 0) k) (n + 1)
      go false b e f j =
          let size : m ≡ 1 = cc in
          rw size (longer (i + 1) (line_behind (get_or t i 0) k) (get_or t i 0) part (plain_content e) (plain_read e))
      go true true e f j =
          let size : m ≡ 2 = cc in
          let here : line_behind (get_or t i 0) k ≡ k = rw (eqb-true (get_or t i 0) 0x5c e) in
          rw (size, here) (longer (i + 2) k (escape_of (get_or t (i + 1) 0)) part (escape_content e f) (escape_read e f))
      go true false e f j = none_not_some j

  -- an escape is malformed
  pub part_broken : {at line n : ℕ} → StringPart t at line quote i k n → piece_size t i ≡ None → (p l : ℕ) → Begins (lexeme p l (mark malformed)) (lex_from t at line (in_string p l quote []))
  unfolding step_byte finish
  part_broken {at} {line} {n} part h p l = go (eqb (get_or t i 0) 0x5c) (escape_at t (i + 1)) refl refl h
    where
      letter : escape_at t (i + 1) ≡ false → i + 1 < length t → is_escape (get_or t (i + 1) 0) ≡ false
      letter f j = rw (lt-ltb (i + 1) (length t) j) at f

      go : (a b : Bool) → eqb (get_or t i 0) 0x5c ≡ a → escape_at t (i + 1) ≡ b → ◌≡◌ {A = CodeOption ℕ} (pick a (pick b (Some 2) None) (Some 1)) None → Begins (lexeme p l (mark malformed)) (lex_from t at line (in_string p l quote []))
      go false b e f j = none_not_some (sym j)
      go true true e f j = none_not_some (sym j)
      go true false e f j =
          begins_behind (part.same_tokens p l ∙ backslash_read e p l part.content) (breaks_off t (i + 1) (in_escape p l quote part.content) k p l (λ g. rw (no_escape (get_or t (i + 1) 0) (letter f g))) refl)

-- a piece stands in the text
pub piece_within : (t : List ℕ) (i m : ℕ) → i < length t → piece_size t i ≡ Some m → (0 < m) × (i + m ≤ length t)
piece_within t i m h = go (eqb (get_or t i 0) 0x5c) (escape_at t (i + 1)) refl
  where
    go : (a b : Bool) → escape_at t (i + 1) ≡ b → pick a (pick b (Some 2) None) (Some 1) ≡ Some m → (0 < m) × (i + m ≤ length t)
    go false b f j = let size : m ≡ 1 = cc in (omega arith, omega arith)
    go true true f j =
        let size : m ≡ 2 = cc in
        let next = ltb-true (i + 1) (length t) (both_true (ltb (i + 1) (length t)) (is_escape (get_or t (i + 1) 0)) f).0 in
        (omega arith, omega arith)
    go true false f j = none_not_some j

-- the text ends in the string
pub part_unclosed : {t : List ℕ} {at line quote i k n : ℕ} → StringPart t at line quote i k n → length t ≤ i → (p l : ℕ) → Begins (lexeme p l (mark malformed)) (lex_from t at line (in_string p l quote []))
unfolding finish
part_unclosed {t} {at} {line} {quote} {i} {k} part h p l = begins_behind (part.same_tokens p l) (breaks_off t i (in_string p l quote part.content) k p l (λ g. absurd (omega arith)) refl)

-- the closing quote
module _ {t : List ℕ} {at line quote i k n : ℕ} (part : StringPart t at line quote i k n) (high : i < length t) (same : get_or t i 0 ≡ quote) where
  closed_content : unquoted (drop at t) quote ≡ part.content
  unfolding unquoted
  closed_content =
      let nothing : unquoted (drop i t) quote ≡ [] = rw (drop-cons t i 0 high, eq-eqb (get_or t i 0) quote same) in
      part.same_content ∙ rw (nothing, append-nil)

  pub closed_size : length (unquoted (drop at t) quote) ≡ n
  closed_size = rw closed_content part.sized

  pub closed_tokens : is_quote quote ≡ true → (p l : ℕ) → lex_from t at line (in_string p l quote []) ≡ lexeme p l (text_token (unquoted (drop at t) quote)) ∷ tokens_from t (i + 1) k (operand_behind (kind (text_token (unquoted (drop at t) quote))))
  unfolding step_byte
  closed_tokens q p l =
      let s = part.content in
      let no_feed : eqb (get_or t i 0) 0x0a ≡ false = rw same (quote_no_feed quote q) in
      rw closed_content (part.same_tokens p l ∙ token_closed t i (in_string p l quote s) k (lexeme p l (text_token s)) (operand_behind (kind (text_token s))) high (rw (eq-eqb (get_or t i 0) quote same)) (rw no_feed))

-- ---- The token

-- the token that the code gives
abbrev pub text_found : (p l e k : ℕ) → found.Token
text_found p l e k = record { kind = a_text; start = p; line = l; end = e; line_behind = k; class_end = 0; value = pos 0 }

-- the string whose quote is at p
module _ (t : List ℕ) (p l : ℕ) (o : Bool) (high : p < length t) (bound : l ≤ p) (quoted : is_quote (get_or t p 0) ≡ true) (read : CodeOption Quoted) (run_read : StringRead t (p + 1) l (get_or t p 0) read) where
  string_begun : tokens_from t p l o ≡ lex_from t (p + 1) l (in_string p l (get_or t p 0) [])
  unfolding step_byte
  string_begun = stepped_on t p (between o) (in_string p l (get_or t p 0) []) l high (quote_begins o (get_or t p 0) p l quoted) (quote_no_feed (get_or t p 0) quoted)

  pub string_faulty : read ≡ None → Found t p l o (plain_token malformed p l p)
  unfolding StringRead
  string_faulty h = let broken = subst (StringRead t (p + 1) l (get_or t p 0)) h run_read in found_fault t p l o bound (omega arith) (begins_behind string_begun (broken p l))

  closed_run : (r : Quoted) → read ≡ Some r → StringRun t (p + 1) l (get_or t p 0) r
  unfolding StringRead
  closed_run r h = subst (StringRead t (p + 1) l (get_or t p 0)) h run_read

  pub string_long : (r : Quoted) → read ≡ Some r → 255 < r.size → Found t p l o (plain_token malformed p l p)
  unfolding text_token
  string_long r h j =
      let run = closed_run r h in
      let size = run.sized in
      let meant : text_token (quoted_at t p) ≡ mark malformed = rw (lt-leb (length (quoted_at t p)) 255 (omega arith)) in
      found_fault t p l o bound (omega arith) (begins_token (string_begun ∙ run.whole p l) meant)

  pub string_found : (r : Quoted) → read ≡ Some r → r.size ≤ 255 → Found t p l o (text_found p l r.end r.line)
  unfolding text_token token_in
  string_found r h j =
      let run = closed_run r h in
      let size = run.sized in
      let meant : text_token (quoted_at t p) ≡ text (quoted_at t p) = rw (le-leb (length (quoted_at t p)) 255 (omega arith)) in
      found_token t p l o bound (text_found p l r.end r.line) refl refl (omega (arith, run.low)) run.high run.line_low run.line_bound (λ g. omega arith) (λ g. omega arith)
      record {
        word_size = λ g. absurd (omega arith);
        variable_size = λ g. absurd (omega arith);
        top_size = λ g z. absurd (omega arith);
        class_size = λ g z. absurd (omega arith);
        no_class = λ g. refl;
        text_size = λ g. omega arith;
        text_spelled = λ g. quoted_spelled t p quoted;
      }
      (rw meant at (string_begun ∙ run.whole p l))
