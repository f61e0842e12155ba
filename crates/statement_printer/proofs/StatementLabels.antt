-- The line on which a statement, a branch or a block begins, by the fields in reading order.
use Prim.Native.Nat.{ℕ, zero, suc, ◌+◌, ◌-◌, ◌≤◌, ◌<◌}
use mathlib.Core.Path.{◌≡◌, refl, sym, ap, ◌∙◌}
use mathlib.Core.Bool.{Bool, true, false}
use mathlib.Core.List.{List, ◌++◌}
use native.Mathlib.Omega.{arith}
use lib.Dec.{eqb}
use borrow.Author.Tests.{eqb-true}
use Rattle.wire.proofs.Fields.{no_fields, field_first}
use Rattle.rules.specs.Bytes.{pick, byte, end_of, fields_in}
use Rattle.rules.specs.Format.{allowed, forms, form_in, form_of, size, head_size}
use Rattle.rules.specs.Check.{stride}
use Rattle.rules.specs.Tree.{AttributeField, Statement, Block, Branches, branch, default_branch}
use Rattle.rules.specs.declared.Kind.TheVariants.{Expression as ExpressionKind, Attribute, Statement as StatementKind, Block as BlockKind, Branch}
use Rattle.places.specs.At.{constant_at, expression_at, attributes_at, statement_at, statements_at, block_at, branch_at, branches_at, StandsAs, Siblings, ended, sibling}
use Rattle.places.proofs.Tags.{IsStatementTag, assignment_tag, conditional_tag, choice_tag, resource_tag, defined_tag, class_tag, include_tag, statement_tag_lem}
use Rattle.places.proofs.Open.{level}
use Rattle.places.proofs.Expressions.{pattern_constant}
use Rattle.places.proofs.Statements.{attribute_opens, assignment_opens, conditional_opens, BranchAt, branch_opens, choice_opens, resource_opens, defined_opens, class_opens, include_opens, block_opens}
use Rattle.notation.specs.Print.{constants_of, constants_of_attributes, constants_of_statement, constants_of_block, constants_of_branches, line_for}
use Rattle.statement_printer.specs.Labels.{first_label}
use Rattle.statement_printer.proofs.FirstLabel.{label_end, line_join, siblings_within, next_is, constant_label, expression_label}

module _ (m : List ℕ) (e v : ℕ) where
  -- what an expression gives, where the fields behind it give w
  expression_then : (d p w : ℕ) → StandsAs m d ExpressionKind p → end_of m p ≤ e → first_label m (end_of m p) e v ≡ w → first_label m p e v ≡ line_for (constants_of (expression_at m d p)) w
  expression_then d p w s l h = expression_label m e v d p s l ∙ ap (line_for (constants_of (expression_at m d p))) h

  -- ---- Attributes

  attributes_label : {d q f : ℕ} → Siblings m d Attribute q f → f ≤ e → first_label m q e v ≡ line_for (constants_of_attributes (attributes_at m d (fields_in m q f))) (first_label m f e v)
  unfolding attributes_at constants_of_attributes line_for allowed form_of form_in forms head_size size stride
  attributes_label {f = f} ended l = rw (no_fields m f f (omega arith))
  attributes_label {d = d} {f = f} (sibling {q = q} before s r) l =
      let o = attribute_opens s (level s.stands) in
      let later = attributes_label r l in
      let body = expression_at m (d - 1) (q + 5) in
      let behind : first_label m (end_of m (q + 5)) e v ≡ line_for (constants_of_attributes (attributes_at m d (fields_in m (end_of m q) f))) (first_label m f e v) = ap (λ (x : ℕ). first_label m x e v) o.ends ∙ later in
      let here = next_is m e v q 0x26 (q + 5) (eqb-true (byte m q) 0x26 s.kind) (omega arith) refl (omega (arith, before, l)) ∙ expression_then (d - 1) (q + 5) _ o.expression (omega (arith, o.ends, siblings_within r, l)) behind in
      rw (field_first m q f before)
      (here ∙ sym (line_join (constants_of body) (constants_of_attributes (attributes_at m d (fields_in m (end_of m q) f))) (first_label m f e v))
      ∙ sym (ap (λ (x : AttributeField). line_for (constants_of x.expression ++ constants_of_attributes (attributes_at m d (fields_in m (end_of m q) f))) (first_label m f e v)) o.tree))

  -- ---- Statements and blocks

  abbrev StatementLabel : ℕ → Type 0
  StatementLabel d = (p : ℕ) → StandsAs m d StatementKind p → end_of m p ≤ e → first_label m p e v ≡ line_for (constants_of_statement (statement_at m d p)) (first_label m (end_of m p) e v)

  abbrev BlockLabel : ℕ → Type 0
  BlockLabel d = (p : ℕ) → StandsAs m d BlockKind p → end_of m p ≤ e → first_label m p e v ≡ line_for (constants_of_block (block_at m d p)) (first_label m (end_of m p) e v)

  block_then : (d p w : ℕ) → BlockLabel d → StandsAs m d BlockKind p → end_of m p ≤ e → first_label m (end_of m p) e v ≡ w → first_label m p e v ≡ line_for (constants_of_block (block_at m d p)) w
  block_then d p w each s l h = each p s l ∙ ap (line_for (constants_of_block (block_at m d p))) h

  statements_label : {d q f : ℕ} → StatementLabel d → Siblings m d StatementKind q f → f ≤ e → first_label m q e v ≡ line_for (constants_of_block (statements_at m d (fields_in m q f))) (first_label m f e v)
  unfolding statements_at constants_of_block line_for
  statements_label {f = f} each ended l = rw (no_fields m f f (omega arith))
  statements_label {d = d} {f = f} each (sibling {q = q} before s r) l =
      let later = statements_label each r l in
      rw (field_first m q f before)
      (each q s (omega (arith, siblings_within r, l)) ∙ ap (line_for (constants_of_statement (statement_at m d q))) later
      ∙ sym (line_join (constants_of_statement (statement_at m d q)) (constants_of_block (statements_at m d (fields_in m (end_of m q) f))) (first_label m f e v)))

  block_by : (d : ℕ) → ((c : ℕ) → c < d → StatementLabel c) → BlockLabel d
  unfolding allowed form_of form_in forms head_size size stride
  block_by d lower p s l =
      let o = block_opens s (level s.stands) in
      next_is m e v p 0x20 (p + 3) (eqb-true (byte m p) 0x20 s.kind) (omega arith) refl (omega (arith, l))
      ∙ statements_label (lower (d - 1) (omega (arith, level s.stands))) o.statements l
      ∙ sym (ap (λ (x : Block). line_for (constants_of_block x) (first_label m (end_of m p) e v)) o.tree)

  -- ---- Branches

  branch_label : (d q : ℕ) → BlockLabel (d - 1) → StandsAs m d Branch q → end_of m q ≤ e → (after : Branches) (w : ℕ) → first_label m (end_of m q) e v ≡ line_for (constants_of_branches after) w → first_label m q e v ≡ line_for (constants_of_branches (branch_at m d q after)) w
  unfolding allowed form_of form_in forms head_size size stride constants_of_branches line_for constant_at
  branch_label d q each s l after w rest = go (eqb (byte m (q + 3)) 0x1b) refl
    where
      o : BranchAt m d (d - 1) q
      o = branch_opens s (level s.stands)

      body : Block
      body = block_at m (d - 1) (end_of m (q + 3))

      begins : first_label m q e v ≡ first_label m (q + 3) e v
      begins = next_is m e v q 0x24 (q + 3) (eqb-true (byte m q) 0x24 s.kind) (omega arith) refl (omega (arith, l))

      within : end_of m (q + 3) ≤ e
      within = omega (arith, o.ends, l)

      block : first_label m (end_of m (q + 3)) e v ≡ line_for (constants_of_block body) (line_for (constants_of_branches after) w)
      block = block_then (d - 1) (end_of m (q + 3)) _ each o.block (omega (arith, o.ends, l)) (ap (λ (x : ℕ). first_label m x e v) o.ends ∙ rest)

      go : (x : Bool) → eqb (byte m (q + 3)) 0x1b ≡ x → first_label m q e v ≡ line_for (constants_of_branches (branch_at m d q after)) w
      go true x =
          begins ∙ next_is m e v (q + 3) 0x1b (end_of m (q + 3)) (eqb-true (byte m (q + 3)) 0x1b x) refl refl (omega (arith, within)) ∙ block
          ∙ sym (line_join (constants_of_block body) (constants_of_branches after) w)
          ∙ sym (ap (λ (y : Branches). line_for (constants_of_branches y) w) (o.tree after ∙ ap (λ (y : Bool). pick y (default_branch body after) (branch (constant_at m (q + 3)) body after)) x))
      go false x =
          begins ∙ constant_label m e v (d - 1) (q + 3) (pattern_constant o.pattern x) within
          ∙ sym (ap (λ (y : Branches). line_for (constants_of_branches y) w) (o.tree after ∙ ap (λ (y : Bool). pick y (default_branch body after) (branch (constant_at m (q + 3)) body after)) x))

  branches_label : {d q f : ℕ} → ((c : ℕ) → c < d → BlockLabel c) → Siblings m d Branch q f → f ≤ e → first_label m q e v ≡ line_for (constants_of_branches (branches_at m d (fields_in m q f))) (first_label m f e v)
  unfolding branches_at constants_of_branches line_for
  branches_label {f = f} lower ended l = rw (no_fields m f f (omega arith))
  branches_label {d = d} {f = f} lower (sibling {q = q} before s r) l =
      let later = branches_label lower r l in
      rw (field_first m q f before)
      (branch_label d q (lower (d - 1) (omega (arith, level s.stands))) s (omega (arith, siblings_within r, l)) (branches_at m d (fields_in m (end_of m q) f)) (first_label m f e v) later)

  statement_by_lem : (d : ℕ) → ((c : ℕ) → c < d → BlockLabel c) → StatementLabel d
  unfolding form_of form_in forms head_size size stride constants_of_statement line_for
  statement_by_lem d lower p s l = by_tag (byte m p) (statement_tag_lem (byte m p) s.kind) refl
    where
      behind : ℕ
      behind = first_label m (end_of m p) e v

      below : d ≡ suc (d - 1)
      below = level s.stands

      opened : {x : Statement} → statement_at m d p ≡ x → first_label m p e v ≡ line_for (constants_of_statement x) behind → first_label m p e v ≡ line_for (constants_of_statement (statement_at m d p)) behind
      opened tree h = h ∙ sym (ap (λ (x : Statement). line_for (constants_of_statement x) behind) tree)

      by_tag : (t : ℕ) → IsStatementTag t → byte m p ≡ t → first_label m p e v ≡ line_for (constants_of_statement (statement_at m d p)) behind
      by_tag t assignment_tag is =
          let o = assignment_opens s.stands below is in
          opened o.tree (next_is m e v p 0x21 (p + 5) is (omega arith) refl (omega (arith, l)) ∙ expression_then (d - 1) (p + 5) behind o.value (omega (arith, o.ends, l)) (ap (λ (x : ℕ). first_label m x e v) o.ends))
      by_tag t conditional_tag is =
          let o = conditional_opens s.stands below is in
          let a = constants_of (expression_at m (d - 1) (p + 3)) in
          let y = constants_of_block (block_at m (d - 1) (end_of m (p + 3))) in
          let n = constants_of_block (block_at m (d - 1) (end_of m (end_of m (p + 3)))) in
          let each = lower (d - 1) (omega (arith, below)) in
          let last = block_then (d - 1) (end_of m (end_of m (p + 3))) behind each o.if_false (omega (arith, o.ends, l)) (ap (λ (x : ℕ). first_label m x e v) o.ends) in
          let middle = block_then (d - 1) (end_of m (p + 3)) _ each o.if_true (omega (arith, o.ends, l)) last in
          opened o.tree
          (next_is m e v p 0x22 (p + 3) is (omega arith) refl (omega (arith, l))
          ∙ expression_then (d - 1) (p + 3) _ o.condition (omega (arith, o.ends, l)) middle
          ∙ sym (line_join a y (line_for n behind))
          ∙ sym (line_join (a ++ y) n behind))
      by_tag t choice_tag is =
          let o = choice_opens s.stands below is in
          opened o.tree
          (next_is m e v p 0x23 (p + 3) is (omega arith) refl (omega (arith, l))
          ∙ expression_then (d - 1) (p + 3) _ o.scrutinee (omega (arith, siblings_within o.branches, l)) (branches_label (λ c h. lower c (omega (arith, h))) o.branches l)
          ∙ sym (line_join (constants_of (expression_at m (d - 1) (p + 3))) (constants_of_branches (branches_at m (d - 1) (fields_in m (end_of m (p + 3)) (end_of m p)))) behind))
      by_tag t resource_tag is =
          let o = resource_opens s.stands below is in
          opened o.tree
          (next_is m e v p 0x25 (p + 5) is (omega arith) refl (omega (arith, l))
          ∙ expression_then (d - 1) (p + 5) _ o.title (omega (arith, siblings_within o.attributes, l)) (attributes_label o.attributes l)
          ∙ sym (line_join (constants_of (expression_at m (d - 1) (p + 5))) (constants_of_attributes (attributes_at m (d - 1) (fields_in m (end_of m (p + 5)) (end_of m p)))) behind))
      by_tag t defined_tag is =
          let o = defined_opens s.stands below is in
          opened o.tree
          (next_is m e v p 0x27 (p + 5) is (omega arith) refl (omega (arith, l))
          ∙ expression_then (d - 1) (p + 5) _ o.title (omega (arith, siblings_within o.attributes, l)) (attributes_label o.attributes l)
          ∙ sym (line_join (constants_of (expression_at m (d - 1) (p + 5))) (constants_of_attributes (attributes_at m (d - 1) (fields_in m (end_of m (p + 5)) (end_of m p)))) behind))
      by_tag t class_tag is =
          let o = class_opens s.stands below is in
          opened o.tree (next_is m e v p 0x28 (p + 5) is (omega arith) refl (omega (arith, l)) ∙ attributes_label o.attributes l)
      by_tag t include_tag is = opened (include_opens s.stands is) (next_is m e v p 0x29 (end_of m p) is refl refl (omega (arith, l)))

  -- statements and blocks of fewer than n levels
  both_labels : (n d : ℕ) → d < n → StatementLabel d × BlockLabel d
  both_labels zero d l = absurd (omega arith)
  both_labels (suc n) d l = (statement_by_lem d (λ c h. (both_labels n c (omega arith)).1), block_by d (λ c h. (both_labels n c (omega arith)).0))

-- the line on which a statement or a block begins, where the walk ends with it
pub statement_line : (m : List ℕ) (d p v : ℕ) → StandsAs m d StatementKind p → first_label m p (end_of m p) v ≡ line_for (constants_of_statement (statement_at m d p)) v
statement_line m d p v s = (both_labels m (end_of m p) v (suc d) d (omega arith)).0 p s (omega arith) ∙ ap (line_for (constants_of_statement (statement_at m d p))) (label_end m (end_of m p) v (end_of m p) (omega arith))

pub block_line : (m : List ℕ) (d p v : ℕ) → StandsAs m d BlockKind p → first_label m p (end_of m p) v ≡ line_for (constants_of_block (block_at m d p)) v
block_line m d p v s = (both_labels m (end_of m p) v (suc d) d (omega arith)).1 p s (omega arith) ∙ ap (line_for (constants_of_block (block_at m d p))) (label_end m (end_of m p) v (end_of m p) (omega arith))
