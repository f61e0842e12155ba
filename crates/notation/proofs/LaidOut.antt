-- Lexing what was laid out gives those tokens on those lines.
use Prim.Native.Nat.{ℕ, zero, suc, ◌+◌, ◌*◌, ◌-◌, ◌≤◌}
use mathlib.Core.Path.{◌≡◌, refl, sym, ap, ◌∙◌, subst}
use mathlib.Core.List.{List, [], ◌∷◌, ◌++◌, append_assoc}
use mathlib.Core.Option.{Option, none, some}
use mathlib.Core.Bool.{Bool, true, false, ◌&&◌, ◌||◌}
use native.Mathlib.Nat.{zero-add}
use native.Mathlib.Omega.{arith}
use lib.Dec.{ltb, eqb}
use lib.IntN.{pos, negsuc}
use lib.ListN.{length, replicate}
use borrow.Author.Tests.{ltb-true, ltb-false}
use Rattle.values.specs.Decimal.{signed_decimal}
use Rattle.rules.specs.Bytes.{pick}
use Rattle.rules.proofs.Within.{false_not_true}
use Rattle.notation.specs.Tokens.{Token, word, number, text, variable, top_variable, class_variable, mark, kind, operand_behind, is_among, Lexeme, lexeme, end_of_text, right_round, right_square, left_square, comma, colon}
use Rattle.notation.specs.Lexing.{between, begins, step_byte, finish, lex, tokens}
use Rattle.notation.specs.Printer.{is_name}
use Rattle.notation.specs.Layout.{sign_of, keyword_of, mark_spelling, spelling, no_space_behind, no_space_before, gap, brackets_behind, laid_out}
use Rattle.notation.proofs.Unplaced.{bares}
use Rattle.notation.proofs.Lexing.{Leads, Gives, ◌then◌, Each, all, ◌▹◌, of_each, space_passed, stops, colon_first, two_colons}
use Rattle.notation.proofs.LexedNames.{name_is_word, name_as_word, word_lexed, variable_lexed, top_lexed, class_lexed}
use Rattle.notation.proofs.LexedValues.{string_lexed, number_lexed, negative_lexed}
use Rattle.notation.proofs.LexedMarks.{spelled_marks, mark_lexed}

-- ---- Tokens that can be laid out

-- whether an operand may begin behind a token of this kind, or at the start
abbrev pub operand_after : Option ℕ → Bool
operand_after none = true
operand_after (some k) = operand_behind k

-- whether that token is a colon: no second one may follow it
abbrev pub is_colon : Option ℕ → Bool
is_colon none = false
is_colon (some k) = eqb k colon

-- a name that the notation can spell
abbrev pub Name : List ℕ → Type 0
Name w = (is_name w ≡ true) × (length w ≤ 255)

-- the lexer reads t, as the layout spells it, behind a token of the kind `before`
abbrev pub Spelled : (before : Option ℕ) → Token → Type 0
Spelled before (word w) = Name w
Spelled before (number (pos n)) = n ≤ 9223372036854775807
Spelled before (number (negsuc n)) = (n ≤ 9223372036854775807) × (operand_after before ≡ true)
Spelled before (text s) = length s ≤ 255
Spelled before (variable n) = Name n
Spelled before (top_variable n) = Name n
Spelled before (class_variable c n) = Name c × Name n
Spelled before (mark k) = (is_among k spelled_marks ≡ true) × ((eqb k colon && is_colon before) ≡ false)

-- tokens that can be laid out behind one of the kind `before`, which stands on line v
abbrev pub Layable : (before : Option ℕ) → (v : ℕ) → List Lexeme → Type 0
Layable before v [] = Unit {0}
Layable before v (lexeme p w t ∷ xs) = (v ≤ w) × Spelled before t × Layable (some (kind t)) w xs

-- the line of the text's end
abbrev pub end_line : List Lexeme → (before : Option ℕ) → ℕ → ℕ
end_line [] none v = v
end_line [] (some k) v = suc v
end_line (lexeme p w t ∷ xs) before v = end_line xs (some (kind t)) w

-- ---- One token

-- what follows a token of kind k in a layout
record Follows (k : ℕ) (r : List ℕ) : Type 0 where
  pub stopping : no_space_behind (some k) ≡ false → stops r ≡ true
  pub not_two_colons : no_space_behind (some k) ≡ false → two_colons r ≡ false

-- the token that is spelled is the token that is read
token_lexed : (before : Option ℕ) (t : Token) → Spelled before t → (r : List ℕ) → Follows (kind t) r → (p l : ℕ) → Gives (spelling t ++ r) (between (operand_after before)) p l (lexeme p l t) r (operand_behind (kind t))
unfolding spelling signed_decimal no_space_behind
token_lexed before (word w) h r f p l = word_lexed (operand_after before) w (word w) r p l (name_is_word w h.0) (name_as_word w h.0 h.1) (f.stopping refl)
token_lexed before (number (pos n)) h r f p l = number_lexed (operand_after before) n r p l h (f.stopping refl)
token_lexed before (number (negsuc n)) h r f p l = rw h.1 (negative_lexed n r p l h.0 (f.stopping refl))
token_lexed before (text s) h r f p l = rw append_assoc (string_lexed (operand_after before) s r p l h)
token_lexed before (variable n) h r f p l = variable_lexed (operand_after before) n r p l h.0 h.1 (f.stopping refl)
token_lexed before (top_variable n) h r f p l = top_lexed (operand_after before) n r p l h.0 h.1 (f.stopping refl) (f.not_two_colons refl)
token_lexed before (class_variable c n) h r f p l = rw append_assoc (class_lexed (operand_after before) c n r p l h.0.0 h.0.1 h.1.0 h.1.1 (f.stopping refl))
token_lexed before (mark k) h r f p l = (mark_lexed k h.0).read_back (operand_after before) r p l f.stopping

-- ---- What follows a token

-- what stands before a token begins with a line feed or a space, or there is nothing because of the token
data Opens (g : List ℕ) (k : ℕ) : Type 0 where
  feed : (s : List ℕ) → g ≡ 0x0a ∷ s → Opens g k
  space : (s : List ℕ) → g ≡ 0x20 ∷ s → Opens g k
  nothing : g ≡ [] → no_space_before k ≡ true → Opens g k

-- every gap is of that kind behind a token that asks for a space
gap_opens : (before : Option ℕ) (n v k w : ℕ) → no_space_behind before ≡ false → Opens (gap before n v k w) k
unfolding gap
gap_opens before n v k w h = by_line (ltb v w) refl
  where
    feeds : (d : ℕ) (s : List ℕ) → 1 ≤ d → Opens (replicate d 0x0a ++ s) k
    feeds zero s i = absurd (omega arith)
    feeds (suc d) s i = feed (replicate d 0x0a ++ s) refl

    by_kind : (b : Bool) → no_space_before k ≡ b → Opens (pick b [] (0x20 ∷ [])) k
    by_kind true e = nothing refl e
    by_kind false e = space [] refl

    by_line : (b : Bool) → ltb v w ≡ b → Opens (pick b (replicate (w - v) 0x0a ++ replicate (2 * n) 0x20) (pick (no_space_behind before || no_space_before k) [] (0x20 ∷ []))) k
    by_line true e = feeds (w - v) (replicate (2 * n) 0x20) (omega (arith, ltb-true v w e))
    by_line false e = rw h (by_kind (no_space_before k) refl)

-- the kinds of ) ] [ , :
abbrev close_marks : List ℕ
close_marks = right_round ∷ right_square ∷ left_square ∷ comma ∷ colon ∷ []

-- so a token with what stands before it begins with one of the stop bytes
by_first : (Q : List ℕ → Type 0) (before : Option ℕ) (n v w : ℕ) (t : Token) (r : List ℕ) → ((s : List ℕ) → Q (0x0a ∷ s)) → ((s : List ℕ) → Q (0x20 ∷ s))
    → Each (λ k. t ≡ mark k → Q (mark_spelling k ++ r)) close_marks → no_space_behind before ≡ false → Q (gap before n v (kind t) w ++ (spelling t ++ r))
unfolding spelling no_space_before
by_first Q before n v w t r on_feed on_space on_mark h = go (gap before n v (kind t) w) (gap_opens before n v (kind t) w h)
  where
    closing : (t : Token) → Each (λ k. t ≡ mark k → Q (mark_spelling k ++ r)) close_marks → no_space_before (kind t) ≡ true → Q (spelling t ++ r)
    closing (word w) e i = false_not_true i
    closing (number z) e i = false_not_true i
    closing (text s) e i = false_not_true i
    closing (variable n) e i = false_not_true i
    closing (top_variable n) e i = false_not_true i
    closing (class_variable c n) e i = false_not_true i
    closing (mark k) e i = of_each (λ j. mark k ≡ mark j → Q (mark_spelling j ++ r)) k close_marks i e refl

    go : (g : List ℕ) → Opens g (kind t) → Q (g ++ (spelling t ++ r))
    go g (feed s e) = rw e (on_feed (s ++ (spelling t ++ r)))
    go g (space s e) = rw e (on_space (s ++ (spelling t ++ r)))
    go g (nothing e i) = rw e (closing t on_mark i)

-- what follows a token that asks for a space ends it
stops_behind : (xs : List Lexeme) (k n v : ℕ) → no_space_behind (some k) ≡ false → stops (laid_out xs (some k) n v) ≡ true
unfolding laid_out mark_spelling sign_of keyword_of
stops_behind [] k n v h = refl
stops_behind (lexeme p w t ∷ xs) k n v h =
    by_first (λ r. stops r ≡ true) (some k) n v w t (laid_out xs (some (kind t)) (brackets_behind (kind t) n) w) (λ s. refl) (λ s. refl)
    ((λ e. refl) ▹ (λ e. refl) ▹ (λ e. refl) ▹ (λ e. refl) ▹ (λ e. refl) ▹ all) h

-- no colon stands behind a colon
no_colon_behind : (xs : List Lexeme) (n v : ℕ) → Layable (some colon) v xs → colon_first (laid_out xs (some colon) n v) ≡ false
unfolding laid_out mark_spelling sign_of keyword_of no_space_behind
no_colon_behind [] n v h = refl
no_colon_behind (lexeme p w t ∷ xs) n v h =
    by_first (λ r. colon_first r ≡ false) (some colon) n v w t (laid_out xs (some (kind t)) (brackets_behind (kind t) n) w) (λ s. refl) (λ s. refl)
    ((λ e. refl) ▹ (λ e. refl) ▹ (λ e. refl) ▹ (λ e. refl) ▹ (λ e. false_not_true (sym (subst (Spelled (some colon)) e h.1).1)) ▹ all) refl

-- nor two colons behind any other token
no_two_colons : (xs : List Lexeme) (k n v : ℕ) → Layable (some k) v xs → no_space_behind (some k) ≡ false → two_colons (laid_out xs (some k) n v) ≡ false
unfolding laid_out mark_spelling sign_of keyword_of
no_two_colons [] k n v h i = refl
no_two_colons (lexeme p w t ∷ xs) k n v h i =
    by_first (λ r. two_colons r ≡ false) (some k) n v w t (laid_out xs (some (kind t)) (brackets_behind (kind t) n) w) (λ s. refl) (λ s. refl)
    ((λ e. refl) ▹ (λ e. refl) ▹ (λ e. refl) ▹ (λ e. refl) ▹ (λ e. behind (kind t) (ap kind e) h.2) ▹ all) i
  where
    behind : (j : ℕ) → j ≡ colon → Layable (some j) w xs → colon_first (laid_out xs (some j) (brackets_behind j n) w) ≡ false
    behind j e l = subst (λ j. Layable (some j) w xs → colon_first (laid_out xs (some j) (brackets_behind j n) w) ≡ false) (sym e) (λ l. no_colon_behind xs (brackets_behind colon n) w l) l

followed : (xs : List Lexeme) (k n v : ℕ) → Layable (some k) v xs → Follows k (laid_out xs (some k) n v)
followed xs k n v h = record { stopping = λ i. stops_behind xs k n v i; not_two_colons = λ i. no_two_colons xs k n v h i }

-- ---- White space

-- spaces leave the line, line feeds move it
spaces_passed : (n : ℕ) (o : Bool) (r : List ℕ) (p l : ℕ) → Leads (replicate n 0x20 ++ r) (between o) p l r (between o) l
spaces_passed zero o r p l = record { place = p; leads = refl }
spaces_passed (suc n) o r p l = space_passed o 0x20 (replicate n 0x20 ++ r) p l refl then λ q. spaces_passed n o r q l

feeds_passed : (n : ℕ) (o : Bool) (r : List ℕ) (p l w : ℕ) → n + l ≡ w → Leads (replicate n 0x0a ++ r) (between o) p l r (between o) w
feeds_passed zero o r p l w e = record { place = p; leads = ap (lex r (between o) p) (sym (zero-add l) ∙ e) }
feeds_passed (suc n) o r p l w e = space_passed o 0x0a (replicate n 0x0a ++ r) p l refl then λ q. feeds_passed n o r q (suc l) w (omega arith)

-- the gap leads from line v to line w
gap_passed : (before : Option ℕ) (n v k w : ℕ) (o : Bool) (r : List ℕ) (p : ℕ) → v ≤ w → Leads (gap before n v k w ++ r) (between o) p v r (between o) w
unfolding gap
gap_passed before n v k w o r p h = by_line (ltb v w) refl
  where
    by_kind : (b : Bool) → Leads (pick b [] (0x20 ∷ []) ++ r) (between o) p w r (between o) w
    by_kind true = record { place = p; leads = refl }
    by_kind false = space_passed o 0x20 r p w refl

    by_line : (b : Bool) → ltb v w ≡ b → Leads (pick b (replicate (w - v) 0x0a ++ replicate (2 * n) 0x20) (pick (no_space_behind before || no_space_before k) [] (0x20 ∷ [])) ++ r) (between o) p v r (between o) w
    by_line true e = rw append_assoc (feeds_passed (w - v) o (replicate (2 * n) 0x20 ++ r) p v w (omega arith) then λ q. spaces_passed (2 * n) o r q w)
    by_line false e =
        let same : w ≡ v = omega (arith, ltb-false v w e) in
        subst (λ (u : ℕ). Leads (pick (no_space_behind before || no_space_before k) [] (0x20 ∷ []) ++ r) (between o) p u r (between o) w) same (by_kind (no_space_behind before || no_space_before k))

-- ---- The whole

-- from between two tokens on
pub laid_out_lexed : (xs : List Lexeme) (before : Option ℕ) (n v p : ℕ) → Layable before v xs
    → bares (lex (laid_out xs before n v) (between (operand_after before)) p v) ≡ bares xs ++ (lexeme 0 (end_line xs before v) (mark end_of_text) ∷ [])
unfolding laid_out lex finish step_byte begins
laid_out_lexed [] none n v p h = refl
laid_out_lexed [] (some k) n v p h = refl
laid_out_lexed (lexeme q w t ∷ xs) before n v p h =
    let o : Bool = operand_after before in
    let b : ℕ = brackets_behind (kind t) n in
    let rest : List ℕ = laid_out xs (some (kind t)) b w in
    let space = gap_passed before n v (kind t) w o (spelling t ++ rest) p h.0 in
    let token = token_lexed before t h.1 rest (followed xs (kind t) b w h.2) space.place w in
    ap bares (space.leads ∙ token.gives) ∙ ap (λ (ys : List Lexeme). lexeme 0 w t ∷ ys) (laid_out_lexed xs (some (kind t)) b w token.behind h.2)

-- a text from its start on
pub text_lexed : (xs : List Lexeme) → Layable none 0 xs → bares (tokens (laid_out xs none 0 0)) ≡ bares xs ++ (lexeme 0 (end_line xs none 0) (mark end_of_text) ∷ [])
unfolding tokens
text_lexed xs h = laid_out_lexed xs none 0 0 0 h
