-- Expressions with parts: each is written when its parts are, one after the other. Assumes nothing.
use Prim.Native.Nat.{ℕ, suc, ◌+◌, ◌-◌, ◌≤◌, ◌<◌}
use mathlib.Core.Path.{◌≡◌, sym, ap, ◌∙◌, subst}
use mathlib.Core.Bool.{Bool, true, false}
use mathlib.Core.List.{List, ◌∷◌}
use native.Mathlib.Omega.{arith}
use lib.Dec.{leb}
use borrow.Author.Tests.{leb-true}
use Rattle.rules.specs.Bytes.{byte, two, end_of, fields_in}
use Rattle.rules.specs.Tree.{Expression, Arms}
use Rattle.rules.specs.Read.{operator_from}
use Rattle.rules.specs.declared.Kind.{Kind}
use Rattle.rules.specs.declared.Kind.TheVariants.{Constant as ConstantKind, Expression as ExpressionKind}
use Rattle.rules.specs.Format.{allowed}
use Rattle.rules.proofs.Listed.{both_right}
use Rattle.places.specs.At.{constant_at, expression_at, arms_at, Stands, StandsAs, Siblings}
use Rattle.places.proofs.Open.{level}
use Rattle.places.proofs.Tags.{constant_kind, IsExpressionTag, constant_tag, variable_tag, top_variable_tag, class_variable_tag, operation_tag, negation_tag, attribute_read_tag, selector_tag, expression_tag}
use Rattle.places.proofs.Expressions.{constant_opens, OperationAt, NegationAt, AttributeReadAt, SelectorAt, operation_opens, negation_opens, attribute_read_opens, selector_opens}
use Rattle.notation.specs.Tokens
use Rattle.notation.specs.Tokens.{Lexeme}
use Rattle.notation.specs.Print.{Rest, at, the, operator_kind, level_of, bracketed, constant_lexeme, printed, printed_arms}
use Rattle.token_writer.specs.declared.Pen.{Pen}
use Rattle.statement_printer.specs.Passing.{Source, Passes}
use Rattle.statement_printer.specs.Brackets.{bracket, opened, closed}
use Rattle.statement_printer.specs.Forms.{Here}
use Rattle.statement_printer.proofs.OperatorSigns.{passes_as}

-- ---- What stands at a place

pub one_above : (b : ℕ) → b + 1 ≡ suc b
one_above b = omega arith

module _ {m table : List ℕ} {strings b p : ℕ} where
  pub operation_here : Here m table strings (b + 1) p 0x16 → OperationAt m (b + 1) b p
  operation_here h = operation_opens h.stands.stands (one_above b) h.tag

  pub negation_here : Here m table strings (b + 1) p 0x17 → NegationAt m (b + 1) b p
  negation_here h = negation_opens h.stands.stands (one_above b) h.tag

  pub attribute_read_here : Here m table strings (b + 1) p 0x18 → AttributeReadAt m (b + 1) b p
  attribute_read_here h = attribute_read_opens h.stands.stands (one_above b) h.tag

  pub selector_here : Here m table strings (b + 1) p 0x19 → SelectorAt m (b + 1) b p
  selector_here h = selector_opens h.stands.stands (one_above b) h.tag

-- a place that is computed
pub stands_at : {m : List ℕ} {d p q : ℕ} {k : Kind} → q ≡ p → StandsAs m d k p → StandsAs m d k q
stands_at {m} {d} {p} {q} {k} e s = subst (λ (x : ℕ). StandsAs m d k x) (sym e) s

-- siblings between computed places, at a level known by another name
pub siblings_at : {m : List ℕ} {d e p q r s : ℕ} {k : Kind} → e ≡ d → r ≡ p → s ≡ q → Siblings m d k p q → Siblings m e k r s
siblings_at {m} {d} {e} {p} {q} {r} {s} {k} ed er es x = subst (λ (y : ℕ). Siblings m y k r s) (sym ed) (subst (λ (y : ℕ). Siblings m d k y s) (sym er) (subst (λ (y : ℕ). Siblings m d k p y) (sym es) x))

-- a field has a level
pub levels : {m : List ℕ} {d p : ℕ} → Stands m d p → d - 1 + 1 ≡ d
levels s = omega (arith, level s)

-- ---- By the tag

pub here_below : {m table : List ℕ} {strings d p t u : ℕ} → Source m table strings → StandsAs m d ExpressionKind p → t ≡ byte m p → t ≡ u → Here m table strings (d - 1 + 1) p u
here_below {m} {d = d} {p = p} source s tag is = record { source = source; stands = subst (λ (n : ℕ). StandsAs m n ExpressionKind p) (sym (levels s.stands)) s; tag = sym tag ∙ is }

pub passes_below : (S : ℕ → List ℕ) (m : List ℕ) (d l v : ℕ) {p : ℕ} {a b : List ℕ} {pen pen' : Pen} → StandsAs m d ExpressionKind p → Passes a b pen pen' (printed S (expression_at m (d - 1 + 1) p) l v) → Passes a b pen pen' (printed S (expression_at m d p) l v)
passes_below S m d l v {p} {a} {b} {pen} {pen'} s h = subst (λ (n : ℕ). Passes a b pen pen' (printed S (expression_at m n p) l v)) (levels s.stands) h

-- a tag below 0x13 is that of a constant
constant_below : (t : ℕ) → IsExpressionTag t → t < 0x13 → allowed ConstantKind t ≡ true
constant_below t (constant_tag c) l = constant_kind c
constant_below t variable_tag l = absurd (omega arith)
constant_below t top_variable_tag l = absurd (omega arith)
constant_below t class_variable_tag l = absurd (omega arith)
constant_below t operation_tag l = absurd (omega arith)
constant_below t negation_tag l = absurd (omega arith)
constant_below t attribute_read_tag l = absurd (omega arith)
constant_below t selector_tag l = absurd (omega arith)

pub constant_tag_passes : (S : ℕ → List ℕ) (m : List ℕ) (d l p : ℕ) {t : ℕ} {a b : List ℕ} {pen pen' : Pen}
    → StandsAs m d ExpressionKind p → t ≡ byte m p → t < 0x13 → Passes a b pen pen' (λ rest. constant_lexeme S (constant_at m p) ∷ rest (byte m (p + 3))) → Passes a b pen pen' (printed S (expression_at m d p) l pen.line)
unfolding printed constant_at
constant_tag_passes S m d l p {pen = pen} s tag low h =
    passes_as S l pen.line (constant_opens (record { stands = s.stands; kind = constant_below (byte m p) (expression_tag (byte m p) s.kind) (omega (arith, tag, low)) })) h

-- the last tag is that of a selector
pub last_tag : {m : List ℕ} {d p t : ℕ} → StandsAs m d ExpressionKind p → t ≡ byte m p → 0x16 ≤ t → (t ≡ 0x16 → ⊥) → (t ≡ 0x17 → ⊥) → (t ≡ 0x18 → ⊥) → t ≡ 0x19
unfolding allowed
last_tag {m} {p = p} {t = t} s tag low n6 n7 n8 = go (leb-true t 0x19 (both_right (leb 0x10 t) (leb t 0x19) kind))
  where
    kind : allowed ExpressionKind t ≡ true
    kind = ap (allowed ExpressionKind) tag ∙ s.kind

    go : t ≤ 0x19 → t ≡ 0x19
    go h = omega (arith, n6, n7, n8)

-- ---- Forms in brackets

module _ {a b c d : List ℕ} {pen q r pen' : Pen} where
  pub in_brackets : (tight : Bool) (f : ℕ → Rest → List Lexeme) → Passes a b pen q (opened tight pen.line) → Passes b c q r (f q.line) → Passes c d r pen' (closed tight r.line) → Passes a d pen pen' (bracketed tight f pen.line)
  unfolding bracket
  in_brackets true f x y z = record { goes = λ o w k g. z.goes o w k (y.goes o w k (x.goes o w (λ u. f u k) g)) }
  in_brackets false f x y z = record { goes = λ o w k g. z.goes o w k (y.goes o w (λ u. the u 10 ∷ k u) (x.goes o w (λ u. f u (λ n. the n 10 ∷ k n)) g)) }

-- ---- Operators

module _ (S : ℕ → List ℕ) (m : List ℕ) where
  -- an operand found at a computed place
  pub operand_at : (d l v : ℕ) {a b : List ℕ} {pen pen' : Pen} {p q : ℕ} → q ≡ p → Passes a b pen pen' (printed S (expression_at m d q) l v) → Passes a b pen pen' (printed S (expression_at m d p) l v)
  operand_at d l v {a} {b} {pen} {pen'} {p} {q} e h = subst (λ (x : ℕ). Passes a b pen pen' (printed S (expression_at m d x) l v)) e h

  -- the operands with the sign between them
  both_operands : (n x y own : ℕ) {a b c d : List ℕ} {pen q r pen' : Pen} {above k : ℕ}
      → above ≡ suc own → Passes a b pen q (printed S (expression_at m n x) own pen.line) → Passes b c q r (λ rest. the q.line k ∷ rest q.line) → Passes c d r pen' (printed S (expression_at m n y) above r.line)
      → Passes a d pen pen' (λ rest. printed S (expression_at m n x) own pen.line (λ u. the u k ∷ printed S (expression_at m n y) (suc own) u rest))
  both_operands n x y own {c = c} {d = d} {r = r} {pen' = pen'} {k = k} e left sign right =
      let second : Passes c d r pen' (printed S (expression_at m n y) (suc own) r.line) = subst (λ (l : ℕ). Passes c d r pen' (printed S (expression_at m n y) l r.line)) e right in
      record { goes = λ o w f g. second.goes o w f (sign.goes o w (λ u. printed S (expression_at m n y) (suc own) u f) (left.goes o w (λ u. the u k ∷ printed S (expression_at m n y) (suc own) u f) g)) }

  pub operation_passes : (l : ℕ) {a b c d e f : List ℕ} {pen q r s t pen' : Pen} {n i p op own above k z : ℕ}
      → OperationAt m n i p → op ≡ byte m (p + 3) → own ≡ level_of (operator_from op) → k ≡ operator_kind (operator_from op) → above ≡ suc own → z ≡ end_of m (p + 4)
      → Passes a b pen q (opened (leb l own) pen.line) → Passes b c q r (printed S (expression_at m i (p + 4)) own q.line) → Passes c d r s (λ rest. the r.line k ∷ rest r.line)
      → Passes d e s t (printed S (expression_at m i z) above s.line) → Passes e f t pen' (closed (leb l own) t.line)
      → Passes a f pen pen' (printed S (expression_at m n p) l pen.line)
  unfolding printed
  operation_passes l {a} {f = f} {pen = pen} {s = s} {pen' = pen'} {i = i} {p = p} {op = op} {own = own} {above = above} {k = k} o eop eown ek eabove ez begin left sign right close =
      let x : Expression = expression_at m i (p + 4) in
      let y : Expression = expression_at m i (end_of m (p + 4)) in
      let whole = in_brackets (leb l own) (λ w rest. printed S x own w (λ u. the u k ∷ printed S y (suc own) u rest)) begin (both_operands i (p + 4) (end_of m (p + 4)) own eabove left sign (operand_at i above s.line ez right)) close in
      let level : own ≡ level_of (operator_from (byte m (p + 3))) = eown ∙ ap (λ (j : ℕ). level_of (operator_from j)) eop in
      let kind : k ≡ operator_kind (operator_from (byte m (p + 3))) = ek ∙ ap (λ (j : ℕ). operator_kind (operator_from j)) eop in
      passes_as S l pen.line o.tree
      (subst (λ (j : ℕ). Passes a f pen pen' (bracketed (leb l j) (λ w rest. printed S x j w (λ u. the u (operator_kind (operator_from (byte m (p + 3)))) ∷ printed S y (suc j) u rest)) pen.line)) level
      (subst (λ (j : ℕ). Passes a f pen pen' (bracketed (leb l own) (λ w rest. printed S x own w (λ u. the u j ∷ printed S y (suc own) u rest)) pen.line)) kind whole))

  pub negation_passes : (l : ℕ) {a b c : List ℕ} {pen q pen' : Pen} {n i p : ℕ}
      → NegationAt m n i p → Passes a b pen q (λ rest. the pen.line 17 ∷ rest pen.line) → Passes b c q pen' (printed S (expression_at m i (p + 3)) 8 q.line) → Passes a c pen pen' (printed S (expression_at m n p) l pen.line)
  unfolding printed
  negation_passes l {pen = pen} {i = i} {p = p} o sign operand =
      passes_as S l pen.line o.tree (record { goes = λ x w k g. operand.goes x w k (sign.goes x w (λ u. printed S (expression_at m i (p + 3)) 8 u k) g) })

  pub attribute_read_passes : (l : ℕ) {a b c d e f h j : List ℕ} {pen q r s t u v pen' : Pen} {n i p x y : ℕ}
      → AttributeReadAt m n i p → x ≡ two m (p + 3) → y ≡ two m (p + 5)
      → Passes a b pen q (λ rest. at pen.line (Tokens.word (S x)) ∷ rest pen.line) → Passes b c q r (λ rest. the q.line 11 ∷ rest q.line) → Passes c d r s (printed S (expression_at m i (p + 7)) 1 r.line)
      → Passes d e s t (λ rest. the s.line 12 ∷ rest s.line) → Passes e f t u (λ rest. the t.line 11 ∷ rest t.line) → Passes f h u v (λ rest. at u.line (Tokens.word (S y)) ∷ rest u.line) → Passes h j v pen' (λ rest. the v.line 12 ∷ rest v.line)
      → Passes a j pen pen' (printed S (expression_at m n p) l pen.line)
  unfolding printed
  attribute_read_passes l {a} {j = j} {pen = pen} {pen' = pen'} {i = i} {p = p} {x = x} {y = y} o ex ey kind begin title close again name last =
      passes_as S l pen.line o.tree
      (subst (λ (z : ℕ). Passes a j pen pen' (λ k. at pen.line (Tokens.word (S z)) ∷ the pen.line 11 ∷ printed S (expression_at m i (p + 7)) 1 pen.line (λ g. behind (two m (p + 5)) k g))) ex
      (subst (λ (z : ℕ). Passes a j pen pen' (λ k. at pen.line (Tokens.word (S x)) ∷ the pen.line 11 ∷ printed S (expression_at m i (p + 7)) 1 pen.line (λ g. behind z k g))) ey
      (record {
        goes = λ o w k g.
            last.goes o w k
            (name.goes o w (λ z. the z 12 ∷ k z)
            (again.goes o w (λ z. at z (Tokens.word (S y)) ∷ the z 12 ∷ k z)
            (close.goes o w (λ z. the z 11 ∷ at z (Tokens.word (S y)) ∷ the z 12 ∷ k z)
            (title.goes o w (behind y k)
            (begin.goes o w (λ z. printed S (expression_at m i (p + 7)) 1 z (behind y k))
            (kind.goes o w (λ z. the z 11 ∷ printed S (expression_at m i (p + 7)) 1 z (behind y k)) g))))));
      })))
    where
      behind : ℕ → Rest → Rest
      behind z k g = the g 12 ∷ the g 11 ∷ at g (Tokens.word (S z)) ∷ the g 12 ∷ k g

  -- ---- Selectors

  pub selector_passes : (l x y z : ℕ) {a b c d e f h j : List ℕ} {pen q r s t u v pen' : Pen} {n i p : ℕ}
      → SelectorAt m n i p → y ≡ end_of m (p + 3) → z ≡ end_of m p → x ≡ i
      → Passes a b pen q (opened (leb l 3) pen.line) → Passes b c q r (printed S (expression_at m i (p + 3)) 3 q.line) → Passes c d r s (λ rest. the r.line 16 ∷ rest r.line) → Passes d e s t (λ rest. the s.line 7 ∷ rest s.line)
      → Passes e f t u (printed_arms S (arms_at m x (fields_in m y z)) false t.line) → Passes f h u v (λ rest. the u.line 8 ∷ rest u.line) → Passes h j v pen' (closed (leb l 3) v.line)
      → Passes a j pen pen' (printed S (expression_at m n p) l pen.line)
  unfolding printed
  selector_passes l x y z {e = e} {f = f} {pen = pen} {t = t} {u = u} {i = i} {p = p} o ey ez ex begin value sign brace arms close last =
      let ps : List ℕ = fields_in m (end_of m (p + 3)) (end_of m p) in
      let there : arms_at m x (fields_in m y z) ≡ arms_at m i ps = (λ j. arms_at m (ex j) (fields_in m (ey j) (ez j))) in
      let every : Passes e f t u (printed_arms S (arms_at m i ps) false t.line) = subst (λ (g : Arms). Passes e f t u (printed_arms S g false t.line)) there arms in
      passes_as S l pen.line o.tree
      (in_brackets (leb l 3) (λ w r. printed S (expression_at m i (p + 3)) 3 w (λ u. the u 16 ∷ the u 7 ∷ printed_arms S (arms_at m i ps) false u (λ x. the x 8 ∷ r x))) begin
      (record {
        goes = λ o w k g.
            close.goes o w k
            (every.goes o w (λ x. the x 8 ∷ k x)
            (brace.goes o w (λ u. printed_arms S (arms_at m i ps) false u (λ x. the x 8 ∷ k x))
            (sign.goes o w (λ u. the u 7 ∷ printed_arms S (arms_at m i ps) false u (λ x. the x 8 ∷ k x))
            (value.goes o w (λ u. the u 16 ∷ the u 7 ∷ printed_arms S (arms_at m i ps) false u (λ x. the x 8 ∷ k x)) g))));
      })
      last)
