-- The tokens of a manifest that passes check 26 can be laid out: they are spelled as the lexer reads them, and their lines rise. Each lemma takes the
-- constants that come behind its form, so that a form's constants and those behind them rise together.
use Prim.Native.Nat.{ℕ, suc, ◌≤◌}
use mathlib.Core.Path.{◌≡◌, refl, sym}
use mathlib.Core.Bool.{Bool, true, false}
use mathlib.Core.List.{List, ◌∷◌, ◌++◌}
use mathlib.Core.Option.{Option, some}
use native.Mathlib.Omega.{arith}
use lib.Dec.{leb, eqb}
use lib.IntN.{pos, negsuc}
use lib.ListN.{length}
use borrow.Author.Tests.{ltb-true}
use Rattle.values.specs.declared.Value.{Value}
use Rattle.values.specs.declared.Value.TheVariants.{Integer, String, Boolean}
use Rattle.rules.specs.Arithmetic.{fits64}
use Rattle.rules.specs.Tree.{Constant, Operator, plus, minus, divide, greater, equal, and, or, Expression, constant, variable, top_variable, class_variable, operation, negation, attribute_read, selector, Arms, no_arm, arm, default_arm}
use Rattle.rules.specs.Tree
use Rattle.rules.proofs.Within.{false_not_true}
use Rattle.rules.specs.Types.{Types}
use Rattle.notation.specs.Tokens.{Token, Lexeme, kind, a_variable, a_qualified, left_round, right_round, left_brace, right_brace, left_square, right_square, colon, comma, exclamation, arrow, operand_behind}
use Rattle.notation.specs.Print.{the, Rest, constants_of, constants_of_arms, line_for, operator_kind, level_of, bracketed, separated, value_token, constant_lexeme, printed, printed_arms}
use Rattle.notation.proofs.LaidOut.{operand_after, Spelled, Layable}
use Rattle.notation.proofs.Spelled.{ValueFits, Rises, rises_assoc, begins, SpelledExpression, SpelledArms}

-- what follows can be laid out behind any token but a colon, on any line from which its constants rise
abbrev pub Goes : Rest → List Constant → Type 0
Goes rest more = (w k : ℕ) → eqb k colon ≡ false → Rises w more → Layable (some k) w (rest w)

module _ (types : Types) (S : ℕ → List ℕ) (short : (n : ℕ) → length (S n) ≤ 255) where
  -- ---- Constants

  value_spelled : (x : Value) → ValueFits x → (before : Option ℕ) → operand_after before ≡ true → Spelled before (value_token S x)
  unfolding value_token fits64
  value_spelled (Integer (pos n)) h before o = let z = ltb-true n 9223372036854775808 h in omega arith
  value_spelled (Integer (negsuc n)) h before o = let z = ltb-true n 9223372036854775808 h in (omega arith, o)
  value_spelled (String n) h before o = short n
  value_spelled (Boolean true) h before o = (refl, refl)
  value_spelled (Boolean false) h before o = (refl, refl)

  no_colon : (x : Value) → eqb (kind (value_token S x)) colon ≡ false
  unfolding value_token
  no_colon (Integer z) = refl
  no_colon (String n) = refl
  no_colon (Boolean true) = refl
  no_colon (Boolean false) = refl

  pub laid_constant : (c : Constant) (more : List Constant) (v : ℕ) → Rises v (c ∷ more) → (before : Option ℕ) (u : ℕ) → u ≤ v → operand_after before ≡ true → (rest : Rest) → Goes rest more → Layable before u (constant_lexeme S c ∷ rest c.label)
  laid_constant c more v r before u h o rest g =
      (let z = r.0 in omega arith, value_spelled c.value r.1 before o, g c.label (kind (value_token S c.value)) (no_colon c.value) r.2)

  -- ---- Operators

  operator_spelled : (o : Operator) (before : Option ℕ) → Spelled before (Token.mark (operator_kind o))
  unfolding operator_kind
  operator_spelled plus before = (refl, refl)
  operator_spelled minus before = (refl, refl)
  operator_spelled divide before = (refl, refl)
  operator_spelled greater before = (refl, refl)
  operator_spelled equal before = (refl, refl)
  operator_spelled and before = (refl, refl)
  operator_spelled or before = (refl, refl)

  operand_behind_lem : (o : Operator) → operand_behind (operator_kind o) ≡ true
  unfolding operator_kind operand_behind
  operand_behind_lem plus = refl
  operand_behind_lem minus = refl
  operand_behind_lem divide = refl
  operand_behind_lem greater = refl
  operand_behind_lem equal = refl
  operand_behind_lem and = refl
  operand_behind_lem or = refl

  -- in brackets or not, where p is laid out with what follows it
  laid_bracketed : (b : Bool) (p : ℕ → Rest → List Lexeme) (more : List Constant) (v : ℕ) (before : Option ℕ) (u : ℕ) → u ≤ v → operand_after before ≡ true → (rest : Rest) → Goes rest more →
      ((before : Option ℕ) (u : ℕ) → u ≤ v → operand_after before ≡ true → (rest : Rest) → Goes rest more → Layable before u (p v rest)) → Layable before u (bracketed b p v rest)
  unfolding operand_behind
  laid_bracketed true p more v before u h o rest g f = f before u h o rest g
  laid_bracketed false p more v before u h o rest g f =
      (h, (refl, refl), f (some left_round) v (omega arith) refl _ (λ w k n r. (omega arith, (refl, refl), g w right_round refl r)))

  -- a comma before every entry but the first, which stands behind a token of kind k
  pub laid_separated : (later : Bool) (v k : ℕ) → (later ≡ false → operand_behind k ≡ true) → (xs : List Lexeme) → ((before : Option ℕ) → operand_after before ≡ true → Layable before v xs) → Layable (some k) v (separated later v xs)
  unfolding operand_behind
  laid_separated false v k o xs f = f (some k) (o refl)
  laid_separated true v k o xs f = (omega arith, (refl, refl), f (some comma) refl)

  -- ---- Expressions

  mutual
    unfolding printed constants_of operand_behind

    pub laid_expression : (e : Expression) → SpelledExpression types S e → (more : List Constant) (l v : ℕ) → Rises v (constants_of e ++ more) → (before : Option ℕ) (u : ℕ) → u ≤ v → operand_after before ≡ true → (rest : Rest) → Goes rest more → Layable before u (printed S e l v rest)
    laid_expression (constant c) s more l v r before u h o rest g = laid_constant c more v r before u h o rest g
    laid_expression (variable p n) s more l v r before u h o rest g = (h, (s, short n), g v a_variable refl r)
    laid_expression (top_variable p n) s more l v r before u h o rest g = (h, (s, short n), g v a_qualified refl r)
    laid_expression (class_variable p c n) s more l v r before u h o rest g = (h, ((s.0, short c), (s.1, short n)), g v a_qualified refl r)
    laid_expression (operation p f a b) s more l v r before u h o rest g =
        laid_bracketed (leb l (level_of f)) _ more v before u h o rest g
        (λ before u h o rest g. laid_expression a s.0 (constants_of b ++ more) (level_of f) v (rises_assoc (constants_of a) (constants_of b) more v r) before u h o _
        (λ w k n r. (omega arith, operator_spelled f (some k), laid_expression b s.1 more (suc (level_of f)) w r (some (operator_kind f)) w (omega arith) (operand_behind_lem f) rest g)))
    laid_expression (negation p a) s more l v r before u h o rest g = (h, (refl, refl), laid_expression a s more 8 v r (some exclamation) v (omega arith) refl rest g)
    laid_expression (attribute_read p t n a) s more l v r before u h o rest g = (
      h,
      (s.0, short t),
      (
        omega arith,
        (refl, refl),
        laid_expression a s.2 more 1 v r (some left_square) v (omega arith) refl _
            (λ w k m r. (omega arith, (refl, refl), (omega arith, (refl, refl), (omega arith, (s.1, short n), (omega arith, (refl, refl), g w right_square refl r))))),
      ),
    )
    laid_expression (selector p a t) s more l v r before u h o rest g =
        laid_bracketed (leb l 3) _ more v before u h o rest g
        (λ before u h o rest g. laid_expression a s.0 (constants_of_arms t ++ more) 3 v (rises_assoc (constants_of a) (constants_of_arms t) more v r) before u h o _
        (λ w k n r. (
          omega arith,
          (refl, refl),
          (
            omega arith,
            (refl, refl),
            laid_arms t s.1 more false w r left_brace refl (λ e. refl) _
                (λ x m q r. (omega arith, (refl, refl), g x right_brace refl r)),
          ),
        )))
    laid_expression (Expression.unreadable p) s more l v r before u h o rest g = absurd s

    -- arms behind a token of kind k on line v
    laid_arms : (t : Arms) → SpelledArms types S t → (more : List Constant) (later : Bool) (v : ℕ) → Rises v (constants_of_arms t ++ more) → (k : ℕ) → eqb k colon ≡ false → (later ≡ false → operand_behind k ≡ true) → (rest : Rest) → Goes rest more → Layable (some k) v (printed_arms S t later v rest)
    laid_arms no_arm s more later v r k n o rest g = g v k n r
    laid_arms (arm c a t) s more later v r k n o rest g =
        laid_separated later v k o _
        (λ before o. laid_constant c (constants_of a ++ (constants_of_arms t ++ more)) v (r.0, r.1, rises_assoc (constants_of a) (constants_of_arms t) more c.label r.2) before v (omega arith) o (λ w. the w arrow ∷ printed S a 1 w (λ u. printed_arms S t true u rest))
        (λ w k n r. (
          omega arith,
          (refl, refl),
          laid_expression a s.0 (constants_of_arms t ++ more) 1 w r (some arrow) w (omega arith) refl _
              (λ w k n r. laid_arms t s.1 more true w r k n (λ e. false_not_true (sym e)) rest g),
        )))
    laid_arms (default_arm a t) s more later v r k n o rest g =
        let b = begins (constants_of a) (constants_of_arms t ++ more) v (rises_assoc (constants_of a) (constants_of_arms t) more v r) in
        laid_separated later v k o _
        (λ before o. (
          b.later,
          (refl, refl),
          (
            omega arith,
            (refl, refl),
            laid_expression a s.0 (constants_of_arms t ++ more) 1 (line_for (constants_of a) v) b.rises (some arrow) _ (omega arith) refl _
                (λ w k n r. laid_arms t s.1 more true w r k n (λ e. false_not_true (sym e)) rest g),
          ),
        ))
