-- Statements without blocks: each is written when its parts are, one after the other. Assumes nothing.
use Prim.Native.Nat.{ℕ, ◌+◌, ◌-◌}
use mathlib.Core.Path.{◌≡◌, refl, sym, ◌∙◌, subst}
use mathlib.Core.Logic.{◌⊎◌, inl, inr}
use mathlib.Core.List.{List, ◌∷◌}
use Rattle.rules.specs.Bytes.{byte, two, end_of, fields_in}
use Rattle.rules.specs.Tree.{Statement, AttributeField}
use Rattle.rules.specs.declared.Kind.TheVariants.{Expression as ExpressionKind, Statement as StatementKind, Attribute}
use Rattle.places.specs.At.{expression_at, attributes_at, statement_at, StandsAs, Siblings}
use Rattle.places.proofs.Tags.{IsStatementTag, assignment_tag, conditional_tag, choice_tag, resource_tag, defined_tag, class_tag, include_tag, statement_tag_lem}
use Rattle.places.proofs.Open.{level}
use Rattle.places.proofs.Statements.{AssignmentAt, assignment_opens, include_opens, resource_opens, defined_opens, ClassAt, class_opens}
use Rattle.notation.specs.Tokens
use Rattle.notation.specs.Print.{at, the, printed, printed_attributes, printed_resource, printed_statement}
use Rattle.token_writer.specs.declared.Pen.{Pen}
use Rattle.statement_printer.specs.Passing.{Source, Passes}
use Rattle.statement_printer.specs.Forms.{StatementHere}

module _ {m table : List ℕ} {strings d p : ℕ} where
  pub assignment_here : StatementHere m table strings d p 0x21 → AssignmentAt m d (d - 1) p
  assignment_here h = assignment_opens h.stands.stands (level h.stands.stands) h.tag

  pub class_here : StatementHere m table strings d p 0x28 → ClassAt m d (d - 1) p
  class_here h = class_opens h.stands.stands (level h.stands.stands) h.tag

module _ (S : ℕ → List ℕ) (m : List ℕ) where
  -- a statement that is known by another name
  pub statement_as : (v : ℕ) {a b : List ℕ} {pen pen' : Pen} {x y : Statement} → y ≡ x → Passes a b pen pen' (printed_statement S x v) → Passes a b pen pen' (printed_statement S y v)
  statement_as v {a} {b} {pen} {pen'} e h = subst (λ (z : Statement). Passes a b pen pen' (printed_statement S z v)) (sym e) h

  pub assignment_passes : (line : ℕ) {a b c d : List ℕ} {pen q r pen' : Pen} {n i p k : ℕ}
      → AssignmentAt m n i p → k ≡ two m (p + 3) → Passes a b pen q (λ rest. at line (Tokens.variable (S k)) ∷ rest line) → Passes b c q r (λ rest. the q.line 23 ∷ rest q.line) → Passes c d r pen' (printed S (expression_at m i (p + 5)) 1 r.line)
      → Passes a d pen pen' (printed_statement S (statement_at m n p) line)
  unfolding printed_statement
  assignment_passes line {a} {b} {pen = pen} {q = q} {i = i} {p = p} o ek name sign value =
      let named : Passes a b pen q (λ rest. at line (Tokens.variable (S (two m (p + 3)))) ∷ rest line) = subst (λ (y : ℕ). Passes a b pen q (λ rest. at line (Tokens.variable (S y)) ∷ rest line)) ek name in
      statement_as line o.tree
      (record {
        goes = λ x w k g.
            value.goes x w k
            (sign.goes x w (λ u. printed S (expression_at m i (p + 5)) 1 u k)
            (named.goes x w (λ u. the u 23 ∷ printed S (expression_at m i (p + 5)) 1 u k) g));
      })

  pub include_passes : (line : ℕ) {table : List ℕ} {strings : ℕ} {a b c : List ℕ} {pen q pen' : Pen} {n p k : ℕ}
      → StatementHere m table strings n p 0x29 → k ≡ two m (p + 3) → Passes a b pen q (λ rest. the line 33 ∷ rest line) → Passes b c q pen' (λ rest. at q.line (Tokens.word (S k)) ∷ rest q.line)
      → Passes a c pen pen' (printed_statement S (statement_at m n p) line)
  unfolding printed_statement
  include_passes line {b = b} {c = c} {q = q} {pen' = pen'} {p = p} h ek word name =
      let named : Passes b c q pen' (λ rest. at q.line (Tokens.word (S (two m (p + 3)))) ∷ rest q.line) = subst (λ (y : ℕ). Passes b c q pen' (λ rest. at q.line (Tokens.word (S y)) ∷ rest q.line)) ek name in
      statement_as line (include_opens h.stands.stands h.tag)
      (record { goes = λ x w k g. named.goes x w k (word.goes x w (λ u. at u (Tokens.word (S (two m (p + 3)))) ∷ k u) g) })

  pub resource_passes : (line d p x y z : ℕ) {a b c e f g h : List ℕ} {pen q r s t u pen' : Pen}
      → x ≡ two m (p + 3) → y ≡ end_of m (p + 5) → z ≡ end_of m p
      → Passes a b pen q (λ rest. at line (Tokens.word (S x)) ∷ rest line) → Passes b c q r (λ rest. the q.line 7 ∷ rest q.line) → Passes c e r s (printed S (expression_at m d (p + 5)) 1 r.line)
      → Passes e f s t (λ rest. the s.line 13 ∷ rest s.line) → Passes f g t u (printed_attributes S (attributes_at m d (fields_in m y z)) t.line) → Passes g h u pen' (λ rest. the u.line 8 ∷ rest u.line)
      → Passes a h pen pen' (printed_resource S (two m (p + 3)) (expression_at m d (p + 5)) (attributes_at m d (fields_in m (end_of m (p + 5)) (end_of m p))) line)
  resource_passes line d p x y z {a} {b} {f = f} {g = g} {pen = pen} {q = q} {t = t} {u = u} ex ey ez kind begin title colon all close =
      let fs : List AttributeField = attributes_at m d (fields_in m (end_of m (p + 5)) (end_of m p)) in
      let there : attributes_at m d (fields_in m y z) ≡ fs = (λ j. attributes_at m d (fields_in m (ey j) (ez j))) in
      let every : Passes f g t u (printed_attributes S fs t.line) = subst (λ (n : List AttributeField). Passes f g t u (printed_attributes S n t.line)) there all in
      let named : Passes a b pen q (λ rest. at line (Tokens.word (S (two m (p + 3)))) ∷ rest line) = subst (λ (n : ℕ). Passes a b pen q (λ rest. at line (Tokens.word (S n)) ∷ rest line)) ex kind in
      record {
        goes = λ o w k i.
            close.goes o w k
            (every.goes o w (λ n. the n 8 ∷ k n)
            (colon.goes o w (λ n. printed_attributes S fs n (λ j. the j 8 ∷ k j))
            (title.goes o w (λ n. the n 13 ∷ printed_attributes S fs n (λ j. the j 8 ∷ k j))
            (begin.goes o w (λ n. printed S (expression_at m d (p + 5)) 1 n (λ l. the l 13 ∷ printed_attributes S fs l (λ j. the j 8 ∷ k j)))
            (named.goes o w (λ n. the n 7 ∷ printed S (expression_at m d (p + 5)) 1 n (λ l. the l 13 ∷ printed_attributes S fs l (λ j. the j 8 ∷ k j))) i)))));
      }

  -- a class with its attributes
  pub class_passes : (line x z : ℕ) {a b c d e f g : List ℕ} {pen q r s t u pen' : Pen} {n i p : ℕ}
      → ClassAt m n i p → x ≡ two m (p + 3) → z ≡ end_of m p → Passes a b pen q (λ rest. the line 32 ∷ rest line) → Passes b c q r (λ rest. the q.line 7 ∷ rest q.line) → Passes c d r s (λ rest. at r.line (Tokens.word (S x)) ∷ rest r.line)
      → Passes d e s t (λ rest. the s.line 13 ∷ rest s.line) → Passes e f t u (printed_attributes S (attributes_at m i (fields_in m (p + 5) z)) t.line) → Passes f g u pen' (λ rest. the u.line 8 ∷ rest u.line)
      → Passes a g pen pen' (printed_statement S (statement_at m n p) line)
  unfolding printed_statement
  class_passes line x z {c = c} {d = d} {e = e} {f = f} {r = r} {s = s} {t = t} {u = u} {i = i} {p = p} o ex ez word begin name colon all close =
      let fs : List AttributeField = attributes_at m i (fields_in m (p + 5) (end_of m p)) in
      let every : Passes e f t u (printed_attributes S fs t.line) = subst (λ (n : ℕ). Passes e f t u (printed_attributes S (attributes_at m i (fields_in m (p + 5) n)) t.line)) ez all in
      let named : Passes c d r s (λ rest. at r.line (Tokens.word (S (two m (p + 3)))) ∷ rest r.line) = subst (λ (n : ℕ). Passes c d r s (λ rest. at r.line (Tokens.word (S n)) ∷ rest r.line)) ex name in
      statement_as line o.tree
      (record {
        goes = λ o w k i.
            close.goes o w k
            (every.goes o w (λ n. the n 8 ∷ k n)
            (colon.goes o w (λ n. printed_attributes S fs n (λ j. the j 8 ∷ k j))
            (named.goes o w (λ n. the n 13 ∷ printed_attributes S fs n (λ j. the j 8 ∷ k j))
            (begin.goes o w (λ n. at n (Tokens.word (S (two m (p + 3)))) ∷ the n 13 ∷ printed_attributes S fs n (λ j. the j 8 ∷ k j))
            (word.goes o w (λ n. the n 7 ∷ at n (Tokens.word (S (two m (p + 3)))) ∷ the n 13 ∷ printed_attributes S fs n (λ j. the j 8 ∷ k j)) i)))));
      })

-- ---- By the tag

module _ {m : List ℕ} {d p t : ℕ} (s : StandsAs m d StatementKind p) (tag : t ≡ byte m p) where
  pub tagged : {table : List ℕ} {strings u : ℕ} → Source m table strings → t ≡ u → StatementHere m table strings d p u
  tagged source is = record { source = source; stands = s; tag = sym tag ∙ is }

  -- a resource of either sort
  pub resource_parts : (t ≡ 0x25) ⊎ (t ≡ 0x27) → StandsAs m (d - 1) ExpressionKind (p + 5) × Siblings m (d - 1) Attribute (end_of m (p + 5)) (end_of m p)
  resource_parts (inl is) = let o = resource_opens s.stands (level s.stands) (sym tag ∙ is) in (o.title, o.attributes)
  resource_parts (inr is) = let o = defined_opens s.stands (level s.stands) (sym tag ∙ is) in (o.title, o.attributes)

  pub either_passes : (S : ℕ → List ℕ) (line : ℕ) {a b : List ℕ} {pen pen' : Pen} → (t ≡ 0x25) ⊎ (t ≡ 0x27)
      → Passes a b pen pen' (printed_resource S (two m (p + 3)) (expression_at m (d - 1) (p + 5)) (attributes_at m (d - 1) (fields_in m (end_of m (p + 5)) (end_of m p))) line) → Passes a b pen pen' (printed_statement S (statement_at m d p) line)
  unfolding printed_statement
  either_passes S line (inl is) h = statement_as S m line (resource_opens s.stands (level s.stands) (sym tag ∙ is)).tree h
  either_passes S line (inr is) h = statement_as S m line (defined_opens s.stands (level s.stands) (sym tag ∙ is)).tree h

-- the last tag is that of an include
last_statement : {t : ℕ} → IsStatementTag t → (t ≡ 0x21 → ⊥) → (t ≡ 0x22 → ⊥) → (t ≡ 0x23 → ⊥) → ((t ≡ 0x25) ⊎ (t ≡ 0x27) → ⊥) → (t ≡ 0x28 → ⊥) → t ≡ 0x29
last_statement assignment_tag n1 n2 n3 n4 n5 = absurd (n1 refl)
last_statement conditional_tag n1 n2 n3 n4 n5 = absurd (n2 refl)
last_statement choice_tag n1 n2 n3 n4 n5 = absurd (n3 refl)
last_statement resource_tag n1 n2 n3 n4 n5 = absurd (n4 (inl refl))
last_statement defined_tag n1 n2 n3 n4 n5 = absurd (n4 (inr refl))
last_statement class_tag n1 n2 n3 n4 n5 = absurd (n5 refl)
last_statement include_tag n1 n2 n3 n4 n5 = refl

pub include_tag_lem : {m : List ℕ} {d p t : ℕ} → StandsAs m d StatementKind p → t ≡ byte m p → (t ≡ 0x21 → ⊥) → (t ≡ 0x22 → ⊥) → (t ≡ 0x23 → ⊥) → ((t ≡ 0x25) ⊎ (t ≡ 0x27) → ⊥) → (t ≡ 0x28 → ⊥) → t ≡ 0x29
include_tag_lem {m} {p = p} {t = t} s tag = last_statement (subst IsStatementTag (sym tag) (statement_tag_lem (byte m p) s.kind))
