-- Statements with blocks: each is written when its parts are, one after the other. Assumes nothing.
use Prim.Native.Nat.{ℕ, ◌+◌, ◌-◌, ◌≤◌, ◌<◌}
use mathlib.Core.Path.{◌≡◌, sym, ap, ◌∙◌, subst}
use mathlib.Core.List.{List, ◌∷◌}
use native.Mathlib.Omega.{arith}
use Rattle.wire.proofs.Fields.{no_fields, field_first}
use Rattle.rules.specs.Bytes.{end_of, fields_in}
use Rattle.rules.specs.Tree.{Expression, Block, next, Branches, conditional}
use Rattle.rules.specs.declared.Kind.TheVariants.{Statement as StatementKind, Block as BlockKind}
use Rattle.places.specs.At.{expression_at, block_at, statement_at, statements_at, branches_at, StandsAs, Siblings, ended, sibling}
use Rattle.places.proofs.Open.{level}
use Rattle.places.proofs.Statements.{ConditionalAt, ChoiceAt, BlockAt, conditional_opens, choice_opens, block_opens}
use Rattle.notation.specs.Print.{Rest, the, in_braces, printed, printed_else, printed_statement, printed_block, printed_branches}
use Rattle.token_writer.specs.declared.Pen.{Pen}
use Rattle.statement_printer.specs.Passing.{Going, Passes}
use Rattle.statement_printer.specs.Labels.{first_label}
use Rattle.statement_printer.specs.Forms.{StatementHere}
use Rattle.statement_printer.proofs.PlainStatements.{statement_as}
use Rattle.statement_printer.proofs.StatementLabels.{statement_line}

module _ {m table : List ℕ} {strings d p : ℕ} where
  pub conditional_here : StatementHere m table strings d p 0x22 → ConditionalAt m d (d - 1) p
  conditional_here h = conditional_opens h.stands.stands (level h.stands.stands) h.tag

  pub choice_here : StatementHere m table strings d p 0x23 → ChoiceAt m d (d - 1) p
  choice_here h = choice_opens h.stands.stands (level h.stands.stands) h.tag

pub block_here : {m : List ℕ} {d p : ℕ} → StandsAs m d BlockKind p → BlockAt m d (d - 1) p
block_here s = block_opens s (level s.stands)

-- a block in braces
pub braces_pass : (S : ℕ → List ℕ) (x : Block) {a b c d : List ℕ} {pen q r pen' : Pen}
    → Passes a b pen q (λ rest. the pen.line 7 ∷ rest pen.line) → Passes b c q r (printed_block S x q.line) → Passes c d r pen' (λ rest. the r.line 8 ∷ rest r.line) → Passes a d pen pen' (in_braces S x pen.line)
braces_pass S x begin inside close = record {
  goes = λ o w k g. close.goes o w k (inside.goes o w (λ u. the u 8 ∷ k u) (begin.goes o w (λ u. printed_block S x u (λ y. the y 8 ∷ k y)) g));
}

module _ (S : ℕ → List ℕ) (m : List ℕ) where
  -- a block that ends at e is written when its statements are
  pub block_passes : (v : ℕ) {a b : List ℕ} {pen pen' : Pen} {d p e : ℕ} → StandsAs m d BlockKind p → e ≡ end_of m p → Passes a b pen pen' (printed_block S (statements_at m (d - 1) (fields_in m (p + 3) e)) v) → Passes a b pen pen' (printed_block S (block_at m d p) v)
  block_passes v {a} {b} {pen} {pen'} {d} {p} s ee h = subst (λ (x : Block). Passes a b pen pen' (printed_block S x v)) (ap (λ (n : ℕ). statements_at m (d - 1) (fields_in m (p + 3) n)) ee ∙ sym (block_here s).tree) h

  -- ---- If and else

  -- a block in which there is nothing has no else
  pub no_else_lem : (d q : ℕ) {a : List ℕ} {pen : Pen} {e : ℕ} → StandsAs m d BlockKind q → e ≡ end_of m q → e ≤ q + 3 → Passes a a pen pen (printed_else (block_at m d q) (printed_block S (block_at m d q)) pen.line)
  unfolding printed_else statements_at
  no_else_lem d q {a} {pen} s ee h =
      let empty = (block_here s).tree ∙ ap (statements_at m (d - 1)) (no_fields m (q + 3) (end_of m q) (omega (arith, ee, h))) in
      subst (λ (x : Block). Passes a a pen pen (printed_else x (printed_block S x) pen.line)) (sym empty) (record { goes = λ o w k g. g })

  -- else, and the block in braces
  pub some_else : (d q : ℕ) {a c g : List ℕ} {pen r pen' : Pen} {z : ℕ} → StandsAs m d BlockKind q → z ≡ end_of m q → q + 3 < z
      → Passes a c pen r (λ rest. the pen.line 30 ∷ rest pen.line) → Passes c g r pen' (in_braces S (block_at m d q) r.line)
      → Passes a g pen pen' (printed_else (block_at m d q) (printed_block S (block_at m d q)) pen.line)
  unfolding printed_else statements_at
  some_else d q {a} {c} {g} {pen} {r} {pen'} o ez h word block =
      let first = (block_here o).tree ∙ ap (statements_at m (d - 1)) (field_first m (q + 3) (end_of m q) (omega (arith, ez, h))) in
      let filled : Block = next (statement_at m (d - 1) (q + 3)) (statements_at m (d - 1) (fields_in m (end_of m (q + 3)) (end_of m q))) in
      let inside : Passes c g r pen' (in_braces S filled r.line) = subst (λ (x : Block). Passes c g r pen' (in_braces S x r.line)) first block in
      subst (λ (x : Block). Passes a g pen pen' (printed_else x (printed_block S x) pen.line)) (sym first)
      (record { goes = λ o w k i. inside.goes o w k (word.goes o w (λ u. in_braces S filled u k) i) })

  pub conditional_passes : (line first second : ℕ) {a b c d e : List ℕ} {pen q r s pen' : Pen} {n i p : ℕ}
      → ConditionalAt m n i p → first ≡ end_of m (p + 3) → second ≡ end_of m first → Passes a b pen q (λ rest. the line 29 ∷ rest line) → Passes b c q r (printed S (expression_at m i (p + 3)) 1 q.line)
      → Passes c d r s (in_braces S (block_at m i first) r.line)
      → Passes d e s pen' (printed_else (block_at m i second) (printed_block S (block_at m i second)) s.line)
      → Passes a e pen pen' (printed_statement S (statement_at m n p) line)
  unfolding printed_statement
  conditional_passes line first second {i = i} {p = p} o ey en word condition taken untaken =
      let a : Expression = expression_at m i (p + 3) in
      let y : Block = block_at m i first in
      let n : Block = block_at m i second in
      let there : conditional p a (block_at m i (end_of m (p + 3))) (block_at m i (end_of m (end_of m (p + 3)))) ≡ conditional p a y n = (λ j. conditional p a (block_at m i (sym ey j)) (block_at m i (sym (en ∙ ap (end_of m) ey) j))) in
      statement_as S m line (o.tree ∙ there)
      (record {
        goes = λ x w k g.
            let other : Rest = (λ u. printed_else n (printed_block S n) u k) in
            untaken.goes x w k (taken.goes x w other (condition.goes x w (λ u. in_braces S y u other) (word.goes x w (λ u. printed S a 1 u (λ j. in_braces S y j other)) g)));
      })

  -- ---- Case

  pub choice_passes : (line y z : ℕ) {a b c d e f : List ℕ} {pen q r s t pen' : Pen} {n i p : ℕ}
      → ChoiceAt m n i p → y ≡ end_of m (p + 3) → z ≡ end_of m p
      → Passes a b pen q (λ rest. the line 31 ∷ rest line) → Passes b c q r (printed S (expression_at m i (p + 3)) 1 q.line) → Passes c d r s (λ rest. the r.line 7 ∷ rest r.line)
      → Passes d e s t (printed_branches S (branches_at m i (fields_in m y z)) s.line) → Passes e f t pen' (λ rest. the t.line 8 ∷ rest t.line)
      → Passes a f pen pen' (printed_statement S (statement_at m n p) line)
  unfolding printed_statement
  choice_passes line y z {d = d} {e = e} {s = s} {t = t} {i = i} {p = p} o ey ez word value begin branches close =
      let bs : Branches = branches_at m i (fields_in m (end_of m (p + 3)) (end_of m p)) in
      let there : branches_at m i (fields_in m y z) ≡ bs = (λ j. branches_at m i (fields_in m (ey j) (ez j))) in
      let every : Passes d e s t (printed_branches S bs s.line) = subst (λ (x : Branches). Passes d e s t (printed_branches S x s.line)) there branches in
      statement_as S m line o.tree
      (record {
        goes = λ x w k g.
            close.goes x w k
            (every.goes x w (λ u. the u 8 ∷ k u)
            (begin.goes x w (λ u. printed_branches S bs u (λ j. the j 8 ∷ k j))
            (value.goes x w (λ u. the u 7 ∷ printed_branches S bs u (λ j. the j 8 ∷ k j))
            (word.goes x w (λ u. printed S (expression_at m i (p + 3)) 1 u (λ l. the l 7 ∷ printed_branches S bs l (λ j. the j 8 ∷ k j))) g))));
      })

-- ---- One statement after the other

-- of the statements from `first` to e, those from q on are still to be written
pub record StatementsTo (S : ℕ → List ℕ) (m : List ℕ) (d first e q : ℕ) (out₀ out : List ℕ) (pen₀ pen : Pen) : Type 0 where
  pub left : Siblings m d StatementKind q e
  pub goes : (o w : List ℕ) (k : Rest) → Going o out₀ pen₀ w (printed_block S (statements_at m d (fields_in m first e)) pen₀.line k) → Going o out pen w (printed_block S (statements_at m d (fields_in m q e)) pen.line k)

module _ (S : ℕ → List ℕ) (m : List ℕ) (d first e : ℕ) where
  pub no_statement_yet : {out : List ℕ} {pen : Pen} → Siblings m d StatementKind first e → StatementsTo S m d first e first out out pen pen
  no_statement_yet s = record { left = s; goes = λ o w k g. g }

  first_statement : {q : ℕ} → q < e → Siblings m d StatementKind q e → StandsAs m d StatementKind q × Siblings m d StatementKind (end_of m q) e
  first_statement l ended = absurd (omega arith)
  first_statement l (sibling before s r) = (s, r)

  pub statement_stands : {q : ℕ} {out₀ out : List ℕ} {pen₀ pen : Pen} → q < e → StatementsTo S m d first e q out₀ out pen₀ pen → StandsAs m d StatementKind q
  statement_stands l t = (first_statement l t.left).0

  -- a statement begins on the line of its first constant
  pub one_statement : {q r line : ℕ} {out₀ out out' : List ℕ} {pen₀ pen pen' : Pen} → q < e → StatementsTo S m d first e q out₀ out pen₀ pen → r ≡ end_of m q → line ≡ first_label m q r pen.line
      → Passes out out' pen pen' (printed_statement S (statement_at m d q) line) → StatementsTo S m d first e r out₀ out' pen₀ pen'
  unfolding statements_at printed_block
  one_statement {q} {r} {line} {out₀} {out} {out'} {pen₀} {pen} {pen'} l t er eline p =
      let begins = eline ∙ ap (λ (n : ℕ). first_label m q n pen.line) er ∙ statement_line m d q pen.line (statement_stands l t) in
      let written = subst (λ (v : ℕ). Passes out out' pen pen' (printed_statement S (statement_at m d q) v)) begins p in
      subst (λ (n : ℕ). StatementsTo S m d first e n out₀ out' pen₀ pen') (sym er)
      (record {
        left = (first_statement l t.left).1;
        goes = λ o w k g. written.goes o w (λ u. printed_block S (statements_at m d (fields_in m (end_of m q) e)) u k) (subst (λ (qs : List ℕ). Going o out pen w (printed_block S (statements_at m d qs) pen.line k)) (field_first m q e l) (t.goes o w k g));
      })

  pub all_statements : {q : ℕ} {out₀ out : List ℕ} {pen₀ pen : Pen} → e ≤ q → StatementsTo S m d first e q out₀ out pen₀ pen → Passes out₀ out pen₀ pen (printed_block S (statements_at m d (fields_in m first e)) pen₀.line)
  unfolding statements_at printed_block
  all_statements {q} {out₀} {out} {pen₀} {pen} l t = record {
    goes = λ o w k g. subst (λ (qs : List ℕ). Going o out pen w (printed_block S (statements_at m d qs) pen.line k)) (no_fields m q e l) (t.goes o w k g);
  }
