-- A constant's label is its line, the first being 0: what that says, and that every token of a text has the line of the byte at its place.
use Prim.Native.Nat.{ℕ, zero, suc, ◌+◌}
use mathlib.Core.Path.{◌≡◌, ap, ◌∙◌}
use mathlib.Core.Bool.{Bool, true, false, ◌&&◌}
use mathlib.Core.List.{List, [], ◌∷◌, ◌++◌}
use mathlib.Core.Option.{Option, none, some}
use native.Mathlib.Omega.{arith}
use lib.Dec.{eqb}
use Rattle.rules.specs.Bytes.{pick}
use Rattle.rules.specs.Format.{is_constant}
use Rattle.rules.specs.Ranges.{Each, none_left, also}
use Rattle.notation.specs.Tokens.{Token, variable, top_variable, class_variable, mark, Lexeme, lexeme, kind, place_of, line_of, operand_behind, colon, minus_sign, equals}
use Rattle.notation.specs.Lexing.{find, is_space, is_letter, is_digit, in_word, is_quote, signs, escapes, word_token, name_token, signed_token, Mode, between, comment, in_name, behind_dollar, in_variable, behind_dollar_colon, behind_top, in_top, behind_top_colon, behind_class, in_class_variable, behind_minus, in_number, in_string, in_escape, behind_equals, broken, Read, reads, with, or_else, begins, ended, step_byte, finish, lex, tokens, line_behind}
use Rattle.notation.specs.Building.{Piece, byte, Node, node, Nodes, empty, ◌▸◌}

-- ---- What the promise says

-- "The line of a byte is the number of bytes 0A before it": the line of the byte at p
unfoldable pub line_at : List ℕ → (p : ℕ) → ℕ
line_at [] p = 0
line_at (c ∷ cs) zero = 0
line_at (c ∷ cs) (suc p) = pick (eqb c 0x0a) 1 0 + line_at cs p

-- P holds of the place and the label of each constant: a field has the tag of a constant and its label as its first piece, or another tag; and so has every field in it
mutual
  pub data ConstantsIn (P : (place label : ℕ) → Type 0) : Node → Type 0 where
    a_constant : {p t l : ℕ} {h : List Piece} {ks : Nodes} → is_constant t ≡ true → P p l → EachConstant P ks → ConstantsIn P (node p t (byte l ∷ h) ks)
    no_constant : {p t : ℕ} {h : List Piece} {ks : Nodes} → is_constant t ≡ false → EachConstant P ks → ConstantsIn P (node p t h ks)

  pub data EachConstant (P : (place label : ℕ) → Type 0) : Nodes → Type 0 where
    no_field : EachConstant P empty
    also_field : {ks : Nodes} {k : Node} → EachConstant P ks → ConstantsIn P k → EachConstant P (ks ▸ k)

-- in the text given, l is the line of the byte at p
abbrev pub IsLine : (given : List ℕ) → (p l : ℕ) → Type 0
IsLine given p l = l ≡ line_at given p

-- ---- Bytes

-- P holds of the place and the line of each byte from p on, where l is the line of p, and of the text's end
abbrev pub EachByte : (P : ℕ → ℕ → Type 0) → List ℕ → (p l : ℕ) → Type 0
EachByte P [] p l = P p l
EachByte P (c ∷ cs) p l = P p l × EachByte P cs (suc p) (line_behind c l)

-- the next byte is on the next line behind 0A, and on the same one otherwise
line_behind_lem : (c l i : ℕ) → l + (pick (eqb c 0x0a) 1 0 + i) ≡ line_behind c l + i
line_behind_lem c l i = go (eqb c 0x0a)
  where
    go : (b : Bool) → l + (pick b 1 0 + i) ≡ pick b (suc l) l + i
    go true = omega arith
    go false = omega arith

-- a function that counts the lines of the bytes cs from p on, where it is l, has the line of each of them
bytes_counted : (F : ℕ → ℕ) (cs : List ℕ) (p l : ℕ) → ((i q : ℕ) → q ≡ p + i → F q ≡ l + line_at cs i) → EachByte (λ q m. m ≡ F q) cs p l
unfolding line_at
bytes_counted F [] p l f = omega (arith, f 0 p (omega arith))
bytes_counted F (c ∷ cs) p l f =
    let here = f 0 p (omega arith) in
    let later : (i q : ℕ) → q ≡ suc p + i → F q ≡ line_behind c l + line_at cs i = λ i q e. f (suc i) q (omega arith) ∙ line_behind_lem c l (line_at cs i) in
    (omega arith, bytes_counted F cs (suc p) (line_behind c l) later)

-- each byte of a text, and its end, has its line
bytes_lined : (given : List ℕ) → EachByte (IsLine given) given 0 0
bytes_lined given = bytes_counted (line_at given) given 0 0 (λ i q e. let same : q ≡ i = omega arith in omega (arith, ap (line_at given) same))

-- ---- Tokens

module _ (P : (place line : ℕ) → Type 0) where
  -- P holds of the place and the line of a token
  abbrev pub At : Lexeme → Type 0
  At x = P (place_of x) (line_of x)

  -- P holds where the piece that is being read began
  abbrev pub ModeAt : Mode → Type 0
  ModeAt (between o) = Unit {0}
  ModeAt (comment o) = Unit {0}
  ModeAt (in_name q m w) = P q m
  ModeAt (behind_dollar q m) = P q m
  ModeAt (in_variable q m w) = P q m
  ModeAt (behind_dollar_colon q m) = P q m
  ModeAt (behind_top q m) = P q m
  ModeAt (in_top q m w) = P q m
  ModeAt (behind_top_colon q m w r k) = P q m × P r k
  ModeAt (behind_class q m w) = P q m
  ModeAt (in_class_variable q m w v) = P q m
  ModeAt (behind_minus q m) = P q m
  ModeAt (in_number q m s n) = P q m
  ModeAt (in_string q m d s) = P q m
  ModeAt (in_escape q m d s) = P q m
  ModeAt (behind_equals q m) = P q m
  ModeAt broken = Unit {0}

  -- so it does of what a byte brings
  abbrev ReadAt : Read → Type 0
  ReadAt (reads xs m) = Each At xs × ModeAt m

  -- by a test
  at_pick : (b : Bool) (r s : Read) → ReadAt r → ReadAt s → ReadAt (pick b r s)
  at_pick true r s f h = f
  at_pick false r s f h = h

  -- by a list
  at_else : (o : Option ℕ) (f : ℕ → Read) (r : Read) → ((k : ℕ) → ReadAt (f k)) → ReadAt r → ReadAt (or_else o f r)
  at_else none f r g h = h
  at_else (some k) f r g h = g k

  -- one token
  at_one : (q m : ℕ) (t : Token) → P q m → Each At (lexeme q m t ∷ [])
  at_one q m t g = also g none_left

  -- a token before others
  at_before : {xs : List Lexeme} (q m : ℕ) (t : Token) → P q m → Each At xs → Each At (lexeme q m t ∷ xs)
  at_before q m t g all = also g all

  -- a token before what the byte brings
  at_with : (q m : ℕ) (t : Token) (r : Read) → P q m → ReadAt r → ReadAt (with (lexeme q m t) r)
  at_with q m t (reads xs n) g h = (at_before q m t g h.0, h.1)

  -- a byte that begins something
  at_begins : (o : Bool) (p l c : ℕ) → P p l → ReadAt (begins o p l c)
  unfolding begins
  at_begins o p l c g =
      at_pick (is_space c) _ _ (none_left, tt)
      (at_pick (eqb c 0x23) _ _ (none_left, tt)
      (at_pick (is_letter c) _ _ (none_left, g)
      (at_pick (eqb c 0x24) _ _ (none_left, g)
      (at_pick (is_digit c) _ _ (none_left, g)
      (at_pick (eqb c 0x2d && o) _ _ (none_left, g)
      (at_pick (is_quote c) _ _ (none_left, g)
      (at_pick (eqb c 0x3d) _ _ (none_left, g)
      (at_else (find c signs) _ _ (λ k. (at_one p l (mark k) g, tt)) (at_one p l (mark 6) g, tt)))))))))

  -- a token that has ended before the byte
  at_ended : (q m : ℕ) (t : Token) (p l c : ℕ) → P q m → P p l → ReadAt (ended q m t p l c)
  at_ended q m t p l c g h = at_with q m t (begins (operand_behind (kind t)) p l c) g (at_begins (operand_behind (kind t)) p l c h)

  -- one byte
  at_step : (n : Mode) (p l c : ℕ) → P p l → ModeAt n → ReadAt (step_byte n p l c)
  unfolding step_byte
  at_step (between o) p l c h g = at_begins o p l c h
  at_step (comment o) p l c h g = at_pick (eqb c 0x0a) _ _ (none_left, tt) (none_left, tt)
  at_step (in_name q m w) p l c h g = at_pick (in_word c) _ _ (none_left, g) (at_ended q m (word_token w) p l c g h)
  at_step (behind_dollar q m) p l c h g = at_pick (is_letter c) _ _ (none_left, g) (at_pick (eqb c 0x3a) _ _ (none_left, g) (at_one q m (mark 6) g, tt))
  at_step (in_variable q m w) p l c h g = at_pick (in_word c) _ _ (none_left, g) (at_ended q m (name_token w (variable w)) p l c g h)
  at_step (behind_dollar_colon q m) p l c h g = at_pick (eqb c 0x3a) _ _ (none_left, g) (at_one q m (mark 6) g, tt)
  at_step (behind_top q m) p l c h g = at_pick (is_letter c) _ _ (none_left, g) (at_one q m (mark 6) g, tt)
  at_step (in_top q m w) p l c h g =
      at_pick (in_word c) _ _ (none_left, g) (at_pick (eqb c 0x3a) _ _ (none_left, (g, h)) (at_ended q m (name_token w (top_variable w)) p l c g h))
  at_step (behind_top_colon q m w r k) p l c h g =
      at_pick (eqb c 0x3a) _ _ (none_left, g.0) (at_with q m (name_token w (top_variable w)) (ended r k (mark colon) p l c) g.0 (at_ended r k (mark colon) p l c g.1 h))
  at_step (behind_class q m w) p l c h g = at_pick (is_letter c) _ _ (none_left, g) (at_one q m (mark 6) g, tt)
  at_step (in_class_variable q m w v) p l c h g = at_pick (in_word c) _ _ (none_left, g) (at_ended q m (name_token w (name_token v (class_variable w v))) p l c g h)
  at_step (behind_minus q m) p l c h g = at_pick (is_digit c) _ _ (none_left, g) (at_ended q m (mark minus_sign) p l c g h)
  at_step (in_number q m s zero) p l c h g = at_pick (in_word c) _ _ (at_one q m (mark 6) g, tt) (at_ended q m (signed_token s zero) p l c g h)
  at_step (in_number q m s (suc n)) p l c h g =
      at_pick (is_digit c) _ _ (none_left, g) (at_pick (in_word c) _ _ (at_one q m (mark 6) g, tt) (at_ended q m (signed_token s (suc n)) p l c g h))
  at_step (in_string q m d s) p l c h g = at_pick (eqb c d) _ _ (at_one q m _ g, tt) (at_pick (eqb c 0x5c) _ _ (none_left, g) (none_left, g))
  at_step (in_escape q m d s) p l c h g = at_else (find c escapes) _ _ (λ k. (none_left, g)) (at_one q m (mark 6) g, tt)
  at_step (behind_equals q m) p l c h g =
      at_pick (eqb c 0x3d) _ _ (at_one q m _ g, tt) (at_pick (eqb c 0x3e) _ _ (at_one q m _ g, tt) (at_ended q m (mark equals) p l c g h))
  at_step broken p l c h g = (none_left, tt)

  -- the end of the text
  at_finish : (n : Mode) (p l : ℕ) → P p l → ModeAt n → Each At (finish n p l)
  unfolding finish
  at_finish (between o) p l h g = at_one p l _ h
  at_finish (comment o) p l h g = at_one p l _ h
  at_finish (in_name q m w) p l h g = at_before q m _ g (at_one p l _ h)
  at_finish (behind_dollar q m) p l h g = at_one q m _ g
  at_finish (in_variable q m w) p l h g = at_before q m _ g (at_one p l _ h)
  at_finish (behind_dollar_colon q m) p l h g = at_one q m _ g
  at_finish (behind_top q m) p l h g = at_one q m _ g
  at_finish (in_top q m w) p l h g = at_before q m _ g (at_one p l _ h)
  at_finish (behind_top_colon q m w r k) p l h g = at_before q m _ g.0 (at_before r k _ g.1 (at_one p l _ h))
  at_finish (behind_class q m w) p l h g = at_one q m _ g
  at_finish (in_class_variable q m w v) p l h g = at_before q m _ g (at_one p l _ h)
  at_finish (behind_minus q m) p l h g = at_before q m _ g (at_one p l _ h)
  at_finish (in_number q m s n) p l h g = at_before q m _ g (at_one p l _ h)
  at_finish (in_string q m d s) p l h g = at_one q m _ g
  at_finish (in_escape q m d s) p l h g = at_one q m _ g
  at_finish (behind_equals q m) p l h g = at_before q m _ g (at_one p l _ h)
  at_finish broken p l h g = none_left

  -- some tokens, and then others
  at_append : {xs ys : List Lexeme} → Each At xs → Each At ys → Each At (xs ++ ys)
  at_append none_left all = all
  at_append (also g gs) all = also g (at_append gs all)

  -- some bytes
  pub at_lex : (cs : List ℕ) (n : Mode) (p l : ℕ) → EachByte P cs p l → ModeAt n → Each At (lex cs n p l)
  unfolding lex
  at_lex [] n p l e g = at_finish n p l e g
  at_lex (c ∷ cs) n p l e g = go (λ k h. at_lex cs k (suc p) (line_behind c l) e.1 h) (step_byte n p l c) (at_step n p l c e.0 g)
    where
      go : ((k : Mode) → ModeAt k → Each At (lex cs k (suc p) (line_behind c l))) → (r : Read) → ReadAt r → Each At (elim r as (λ r. List Lexeme) [ reads xs k ↦ xs ++ lex cs k (suc p) (line_behind c l) ])
      go others (reads xs k) h = at_append h.0 (others k h.1)

  -- a text
  pub tokens_at : (given : List ℕ) → EachByte P given 0 0 → Each At (tokens given)
  unfolding tokens
  tokens_at given e = at_lex given (between true) 0 0 e tt

-- every token of a text has the line of the byte at its place
pub tokens_lined : (given : List ℕ) → Each (At (IsLine given)) (tokens given)
tokens_lined given = tokens_at (IsLine given) given (bytes_lined given)
