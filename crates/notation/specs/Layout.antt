-- Tokens on lines as text: how each is spelled, and what stands between two of them.
use Rattle.std.specs.Prelude.{ℕ, suc, ◌+◌, ◌*◌, ◌-◌, List, [], ◌∷◌, ◌++◌, Bool, true, ◌||◌, ltb, eqb, replicate}
use Rattle.std.proofs.Math.Option.{Option, none, some}
use Rattle.values.specs.Decimal.{signed_decimal}
use Rattle.rules.specs.Bytes.{pick}
use Rattle.notation.specs.Tokens.{Token, word, number, text, variable, top_variable, class_variable, mark, kind, is_among, Lexeme, lexeme, left_brace, right_brace, left_round, right_round, left_square, right_square, colon, comma, arrow, exclamation, two_equals, equals}
use Rattle.notation.specs.Lexing.{signs, keywords}

-- ---- Spelling

-- a byte of a string, in single quotes
abbrev pub escaped : ℕ → List ℕ
escaped c =
    pick (eqb c 0x27) (0x5c ∷ 0x27 ∷ [])  -- \'
    (pick (eqb c 0x5c) (0x5c ∷ 0x5c ∷ [])  -- \\
    (pick (eqb c 0x0a) (0x5c ∷ 0x6e ∷ [])  -- \n
    (c ∷ [])))

unfoldable pub escaped_all : List ℕ → List ℕ
escaped_all [] = []
escaped_all (c ∷ cs) = escaped c ++ escaped_all cs

-- the sign or the keyword of kind k
unfoldable pub sign_of : List (ℕ × ℕ) → ℕ → List ℕ
sign_of [] k = []
sign_of (x ∷ xs) k = pick (eqb k x.1) (x.0 ∷ []) (sign_of xs k)

unfoldable pub keyword_of : List (List ℕ × ℕ) → ℕ → List ℕ
keyword_of [] k = []
keyword_of (x ∷ xs) k = pick (eqb k x.1) x.0 (keyword_of xs k)

unfoldable pub mark_spelling : ℕ → List ℕ
mark_spelling k =
    pick (eqb k two_equals) (0x3d ∷ 0x3d ∷ [])  -- ==
    (pick (eqb k arrow) (0x3d ∷ 0x3e ∷ [])  -- =>
    (pick (eqb k equals) (0x3d ∷ [])  -- =
    (sign_of signs k ++ keyword_of keywords k)))

unfoldable pub spelling : Token → List ℕ
spelling (word w) = w
spelling (number z) = signed_decimal z
spelling (text s) = 0x27 ∷ escaped_all s ++ (0x27 ∷ [])
spelling (variable n) = 0x24 ∷ n  -- $x
spelling (top_variable n) = 0x24 ∷ 0x3a ∷ 0x3a ∷ n  -- $::x
spelling (class_variable c n) = 0x24 ∷ 0x3a ∷ 0x3a ∷ c ++ (0x3a ∷ 0x3a ∷ n)  -- $::a::x
spelling (mark k) = mark_spelling k

-- ---- White space

-- nothing before the first token, behind `(`, `[` and `!`, and before `)`, `]`, `[`, `,` and `:`
unfoldable pub no_space_behind : Option ℕ → Bool
no_space_behind none = true
no_space_behind (some k) = is_among k (left_round ∷ left_square ∷ exclamation ∷ [])

unfoldable pub no_space_before : ℕ → Bool
no_space_before k = is_among k (right_round ∷ right_square ∷ left_square ∷ comma ∷ colon ∷ [])

-- a line feed for each line that the token is later, and two spaces for each bracket that is open; or a space, or nothing
unfoldable pub gap : (before : Option ℕ) → (brackets v : ℕ) → (kind w : ℕ) → List ℕ
gap before brackets v k w =
    pick (ltb v w) (replicate (w - v) 0x0a ++ replicate (2 * brackets) 0x20)
    (pick (no_space_behind before || no_space_before k) [] (0x20 ∷ []))

-- the brackets that are open behind a token
unfoldable pub brackets_behind : (kind brackets : ℕ) → ℕ
brackets_behind k n =
    pick (is_among k (left_brace ∷ left_round ∷ left_square ∷ [])) (suc n)
    (pick (is_among k (right_brace ∷ right_round ∷ right_square ∷ [])) (n - 1) n)

-- tokens behind one of the kind `before`, which stands on line v; a line feed ends the text
unfoldable pub laid_out : List Lexeme → (before : Option ℕ) → (brackets v : ℕ) → List ℕ
laid_out [] none n v = []
laid_out [] (some k) n v = 0x0a ∷ []
laid_out (lexeme p w t ∷ xs) before n v = gap before n v (kind t) w ++ (spelling t ++ laid_out xs (some (kind t)) (brackets_behind (kind t) n) w)
