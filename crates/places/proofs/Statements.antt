-- The statement or block at a place where one stands soundly, by its tag, and its parts at their places: one opening law for each tag. The field at p
-- has d levels left, and its parts have b: d ≡ suc b (`level` of Open gives it with b = d - 1).
use Prim.Native.Nat.{ℕ, suc, ◌+◌, ◌-◌, ◌≤◌}
use mathlib.Core.Path.{◌≡◌, refl, sym, ap, ap₂, ◌∙◌}
use mathlib.Core.Bool.{Bool, true, false}
use mathlib.Core.List.{List, [], ◌∷◌}
use native.Mathlib.Omega.{arith}
use lib.Dec.{eqb}
use borrow.Author.Tests.{eqb-true}
use Rattle.wire.specs.Bytes.{pick, byte, two, end_of, fields_in}
use Rattle.rules.specs.Format.{allowed, forms, form_in, form_of, size, head_size, three}
use Rattle.rules.specs.Fields.{Field, field, Fields, more, read_each, read_field, tag_of, inner, first, others}
use Rattle.rules.specs.Tree.{Constant, Expression, AttributeField, Statement, assignment, conditional, choice, built_in_resource, defined_resource, class_with_attributes, include, Block, next, Branches, branch, default_branch}
use Rattle.rules.specs.Read.{entry_for, is_default, expression_from, attribute_from, attributes_from, StatementTag, an_assignment, a_conditional, a_choice, a_resource, a_defined, a_class, an_include, no_statement, statement_tags, branch_from, branches_from, statement_by, statement_in, statements_from, block_in}
use Rattle.rules.specs.Run.{statement_place}
use Rattle.rules.specs.declared.Kind.TheVariants.{Expression as ExpressionKind, Pattern, Statement as StatementKind, Block as BlockKind, Branch, Attribute}
use Rattle.rules.specs.declared.Part.TheVariants.{Over, One, Many}
use Rattle.places.specs.At.{constant_at, expression_at, statement_at, block_at, branch_at, branches_at, attribute_at, attributes_at, statements_at, Stands, StandsAs, Siblings}
use Rattle.places.proofs.Levels.{expression_stable, block_stable}
use Rattle.places.proofs.Parts.{many_part, last_many, all_over}
use Rattle.places.proofs.Open.{run_two, level, tag_read, Line, opened, opened_leaf, one_read, all_read}
use Rattle.places.proofs.Expressions.{Placed, placed, placed_read, CaseAt, case_opens}
use Rattle.rules.proofs.Lists.{when_true}

-- the expression that the reader of statements gives, which goes 32 levels down, is the one at the place
expression_at_lem : (m : List ℕ) (b q : ℕ) → b ≤ 32 → expression_from (read_field m b q) ≡ expression_at m b q
unfolding expression_from expression_at
expression_at_lem m b q l = expression_stable m b 32 q l

-- so is the block that it gives, which goes d levels down
pub block_at_lem : (m : List ℕ) (b d q : ℕ) → b ≤ d → block_in d (read_field m b q) ≡ block_at m b q
unfolding block_at
block_at_lem m b d q l = block_stable m b d q l

-- ---- Attributes

pub record AttributeAt (m : List ℕ) (d b q : ℕ) : Type 0 where
  pub tree : attribute_at m d q ≡ record { place = q; name = two m (q + 3); expression = expression_at m b (q + 5) }
  pub expression : StandsAs m b ExpressionKind (q + 5)
  pub ends : end_of m (q + 5) ≡ end_of m q
  pub read : attribute_from (read_field m d q) ≡ attribute_at m d q

pub attribute_opens : {m : List ℕ} {d b q : ℕ} → StandsAs m d Attribute q → d ≡ suc b → AttributeAt m d b q
unfolding allowed form_of form_in forms head_size size attribute_from attribute_at
attribute_opens {m} {d} {b} {q} s l =
    let o = opened {h = 2} {q = q + 5} s.stands l (eqb-true (byte m q) 0x26 s.kind) (record { head = refl; rest = refl }) (omega arith) in
    let x = one_read o.parts in
    let below : d - 1 ≡ b = omega arith in
    let tree : attribute_at m d q ≡ record { place = q; name = two m (q + 3); expression = expression_at m b (q + 5) } = λ i. record { place = q; name = two m (q + 3); expression = expression_at m (below i) (q + 5) } in
    let value = ap expression_from x.read ∙ expression_at_lem m b (q + 5) o.parts.depth in
    record {
      tree = tree;
      expression = x.part;
      ends = all_over x.after;
      read = ap attribute_from o.read ∙ (λ i. record { place = q; name = run_two m (q + 3) 2 0 (q + 3) (omega arith) (omega arith) i; expression = value i }) ∙ sym tree;
    }

attributes_read : {m : List ℕ} {d q e : ℕ} → Siblings m d Attribute q e → attributes_from (read_each (read_field m d) (fields_in m q e)) ≡ attributes_at m d (fields_in m q e)
unfolding attributes_from attributes_at allowed
attributes_read {m} {d} s = all_read attributes_from (attributes_at m d) s refl step
  where
    step : (p : ℕ) → StandsAs m d Attribute p → (ks : Fields) (ps : List ℕ) → attributes_from ks ≡ attributes_at m d ps → attributes_from (more (read_field m d p) ks) ≡ attribute_at m d p ∷ attributes_at m d ps
    step p i ks ps h =
        let tag : eqb (tag_of (read_field m d p)) 0x26 ≡ true = ap (λ (t : ℕ). eqb t 0x26) (tag_read i.stands) ∙ i.kind in
        when_true (eqb (tag_of (read_field m d p)) 0x26) (attribute_from (read_field m d p) ∷ attributes_from ks) (attributes_from ks) tag ∙ ap₂ ◌∷◌ (attribute_opens i (level i.stands)).read h

-- ---- Statements

-- the statement read at p, opened
statement_read : (m : List ℕ) (d p t : ℕ) (h : List ℕ) (ks : Fields) → read_field m d p ≡ field p t h ks → statement_at m d p ≡ statement_by (block_in d) p h ks (entry_for statement_tags no_statement t)
unfolding statement_at statement_in
statement_read m d p t h ks r = ap (statement_in (block_in d)) r

-- the statement at p has the place p
placed_statement : (p : ℕ) (f : Field → Block) {k : Field} → Placed p k → statement_place (statement_in f k) ≡ p
unfolding statement_in statement_by statement_place
placed_statement p f (placed {t = t} {h = h} {ks = ks}) = go (entry_for statement_tags no_statement t)
  where
    go : (x : StatementTag) → statement_place (statement_by f p h ks x) ≡ p
    go an_assignment = refl
    go a_conditional = refl
    go a_choice = refl
    go a_resource = refl
    go a_defined = refl
    go a_class = refl
    go an_include = refl
    go no_statement = refl

pub statement_place_lem : (m : List ℕ) (d p : ℕ) → statement_place (statement_at m d p) ≡ p
unfolding statement_at
statement_place_lem m d p = placed_statement p (block_in d) (placed_read m d p)

pub record AssignmentAt (m : List ℕ) (d b p : ℕ) : Type 0 where
  pub tree : statement_at m d p ≡ assignment p (two m (p + 3)) (expression_at m b (p + 5))
  pub value : StandsAs m b ExpressionKind (p + 5)
  pub ends : end_of m (p + 5) ≡ end_of m p

pub assignment_opens : {m : List ℕ} {d b p : ℕ} → Stands m d p → d ≡ suc b → byte m p ≡ 0x21 → AssignmentAt m d b p
unfolding form_of form_in forms head_size size statement_by entry_for statement_tags
assignment_opens {m} {d} {b} {p} s l e =
    let o = opened {h = 2} {q = p + 5} s l e (record { head = refl; rest = refl }) (omega arith) in
    let x = one_read o.parts in
    let value = ap expression_from x.read ∙ expression_at_lem m b (p + 5) o.parts.depth in
    record { tree = statement_read m d p 0x21 _ _ o.read ∙ ap₂ (assignment p) (run_two m (p + 3) 2 0 (p + 3) (omega arith) (omega arith)) value; value = x.part; ends = all_over x.after }

pub record ConditionalAt (m : List ℕ) (d b p : ℕ) : Type 0 where
  pub tree : statement_at m d p ≡ conditional p (expression_at m b (p + 3)) (block_at m b (end_of m (p + 3))) (block_at m b (end_of m (end_of m (p + 3))))
  pub condition : StandsAs m b ExpressionKind (p + 3)
  pub if_true : StandsAs m b BlockKind (end_of m (p + 3))
  pub if_false : StandsAs m b BlockKind (end_of m (end_of m (p + 3)))
  pub ends : end_of m (end_of m (end_of m (p + 3))) ≡ end_of m p

pub conditional_opens : {m : List ℕ} {d b p : ℕ} → Stands m d p → d ≡ suc b → byte m p ≡ 0x22 → ConditionalAt m d b p
unfolding form_of form_in forms head_size size statement_by entry_for statement_tags
conditional_opens {m} {d} {b} {p} s l e =
    let o = opened {h = 0} {q = p + 3} s l e (record { head = refl; rest = refl }) (omega arith) in
    let x = one_read o.parts in
    let y = one_read x.after in
    let z = one_read y.after in
    let condition = ap expression_from x.read ∙ expression_at_lem m b (p + 3) o.parts.depth in
    let if_true = ap (λ (k : Fields). block_in d (first k)) x.read_after ∙ ap (block_in d) y.read ∙ block_at_lem m b d (end_of m (p + 3)) (omega arith) in
    let if_false = ap (λ (k : Fields). block_in d (first (others k))) x.read_after ∙ ap (λ (k : Fields). block_in d (first k)) y.read_after ∙ ap (block_in d) z.read ∙ block_at_lem m b d (end_of m (end_of m (p + 3))) (omega arith) in
    record { tree = statement_read m d p 0x22 _ _ o.read ∙ λ i. conditional p (condition i) (if_true i) (if_false i); condition = x.part; if_true = y.part; if_false = z.part; ends = all_over z.after }

-- ---- Cases

pub record BranchAt (m : List ℕ) (d b q : ℕ) : Type 0 where
  pub tree : (after : Branches) → branch_at m d q after ≡ pick (eqb (byte m (q + 3)) 0x1b) (default_branch (block_at m b (end_of m (q + 3))) after) (branch (constant_at m (q + 3)) (block_at m b (end_of m (q + 3))) after)
  pub pattern : StandsAs m b Pattern (q + 3)
  pub block : StandsAs m b BlockKind (end_of m (q + 3))
  pub ends : end_of m (end_of m (q + 3)) ≡ end_of m q

branch_case : {m : List ℕ} {d b q : ℕ} → StandsAs m d Branch q → d ≡ suc b → CaseAt m d b BlockKind q
unfolding allowed form_of form_in forms head_size size
branch_case {m} {q = q} s l = case_opens s.stands l (eqb-true (byte m q) 0x24 s.kind) (record { head = refl; rest = refl })

pub branch_opens : {m : List ℕ} {d b q : ℕ} → StandsAs m d Branch q → d ≡ suc b → BranchAt m d b q
unfolding branch_at
branch_opens {m} {d} {b} {q} s l =
    let c = branch_case s l in
    let below : d - 1 ≡ b = omega arith in
    record {
      tree = λ after. ap (λ (n : ℕ). pick (eqb (byte m (q + 3)) 0x1b) (default_branch (block_at m n (end_of m (q + 3))) after) (branch (constant_at m (q + 3)) (block_at m n (end_of m (q + 3))) after)) below;
      pattern = c.pattern;
      block = c.body;
      ends = c.ends;
    }

-- the branch read at q, its block with n levels, is the one there
branch_read : {m : List ℕ} {d q : ℕ} (n : ℕ) → d ≤ n → StandsAs m d Branch q → (after : Branches) → branch_from (block_in n) (is_default (first (inner (read_field m d q)))) (inner (read_field m d q)) after ≡ branch_at m d q after
unfolding branch_from branch_at
branch_read {m} {d} {q} n l s after = ap (λ (x : Bool). branch_from (block_in n) x ks after) c.default ∙ go (eqb (byte m (q + 3)) 0x1b) refl
  where
    ks : Fields
    ks = inner (read_field m d q)

    c : CaseAt m d (d - 1) BlockKind q
    c = branch_case s (level s.stands)

    chosen : block_in n (first (others ks)) ≡ block_at m (d - 1) (end_of m (q + 3))
    chosen = ap (block_in n) c.chosen ∙ block_at_lem m (d - 1) n (end_of m (q + 3)) (omega arith)

    go : (x : Bool) → eqb (byte m (q + 3)) 0x1b ≡ x → branch_from (block_in n) x ks after ≡ pick x (default_branch (block_at m (d - 1) (end_of m (q + 3))) after) (branch (constant_at m (q + 3)) (block_at m (d - 1) (end_of m (q + 3))) after)
    go true h = ap (λ (x : Block). default_branch x after) chosen
    go false h = ap₂ (λ (v : Constant) (x : Block). branch v x after) (c.constant h) chosen

branches_read : {m : List ℕ} {d q e : ℕ} (n : ℕ) → d ≤ n → Siblings m d Branch q e → branches_from (block_in n) (read_each (read_field m d) (fields_in m q e)) ≡ branches_at m d (fields_in m q e)
unfolding branches_from branches_at
branches_read {m} {d} n l s = all_read (branches_from (block_in n)) (branches_at m d) s refl (λ p i ks ps h. branch_read n l i (branches_from (block_in n) ks) ∙ ap (branch_at m d p) h)

pub record ChoiceAt (m : List ℕ) (d b p : ℕ) : Type 0 where
  pub tree : statement_at m d p ≡ choice p (expression_at m b (p + 3)) (branches_at m b (fields_in m (end_of m (p + 3)) (end_of m p)))
  pub scrutinee : StandsAs m b ExpressionKind (p + 3)
  pub branches : Siblings m b Branch (end_of m (p + 3)) (end_of m p)

pub choice_opens : {m : List ℕ} {d b p : ℕ} → Stands m d p → d ≡ suc b → byte m p ≡ 0x23 → ChoiceAt m d b p
unfolding form_of form_in forms head_size size statement_by entry_for statement_tags
choice_opens {m} {d} {b} {p} s l e =
    let o = opened {h = 0} {q = p + 3} s l e (record { head = refl; rest = refl }) (omega arith) in
    let x = one_read o.parts in
    let branches : Siblings m b Branch (end_of m (p + 3)) (end_of m p) = last_many (many_part x.after) in
    let scrutinee = ap expression_from x.read ∙ expression_at_lem m b (p + 3) o.parts.depth in
    let read = ap (branches_from (block_in d)) x.read_after ∙ branches_read d (omega arith) branches in
    record { tree = statement_read m d p 0x23 _ _ o.read ∙ ap₂ (choice p) scrutinee read; scrutinee = x.part; branches = branches }

-- ---- Declarations

-- a 25 or 27, which `make` makes
pub record TitledAt (make : (place type : ℕ) → Expression → List AttributeField → Statement) (m : List ℕ) (d b p : ℕ) : Type 0 where
  pub tree : statement_at m d p ≡ make p (two m (p + 3)) (expression_at m b (p + 5)) (attributes_at m b (fields_in m (end_of m (p + 5)) (end_of m p)))
  pub title : StandsAs m b ExpressionKind (p + 5)
  pub attributes : Siblings m b Attribute (end_of m (p + 5)) (end_of m p)

titled_opens : {m : List ℕ} {d b p t : ℕ} (make : (place type : ℕ) → Expression → List AttributeField → Statement) → Stands m d p → d ≡ suc b → byte m p ≡ t → Line t 2 (three (One ExpressionKind) (Many Attribute) Over) → ((h : List ℕ) (ks : Fields) → statement_by (block_in d) p h ks (entry_for statement_tags no_statement t) ≡ make p (two h 0) (expression_from (first ks)) (attributes_from (others ks))) → TitledAt make m d b p
titled_opens {m} {d} {b} {p} {t} make s l e i by =
    let o = opened {q = p + 5} s l e i (omega arith) in
    let x = one_read o.parts in
    let attributes : Siblings m b Attribute (end_of m (p + 5)) (end_of m p) = last_many (many_part x.after) in
    let name = run_two m (p + 3) 2 0 (p + 3) (omega arith) (omega arith) in
    let title = ap expression_from x.read ∙ expression_at_lem m b (p + 5) o.parts.depth in
    let read = ap attributes_from x.read_after ∙ attributes_read attributes in
    record { tree = statement_read m d p t _ _ o.read ∙ by _ _ ∙ λ j. make p (name j) (title j) (read j); title = x.part; attributes = attributes }

pub resource_opens : {m : List ℕ} {d b p : ℕ} → Stands m d p → d ≡ suc b → byte m p ≡ 0x25 → TitledAt built_in_resource m d b p
unfolding form_of form_in forms head_size size statement_by entry_for statement_tags
resource_opens s l e = titled_opens built_in_resource s l e (record { head = refl; rest = refl }) (λ h ks. refl)

pub defined_opens : {m : List ℕ} {d b p : ℕ} → Stands m d p → d ≡ suc b → byte m p ≡ 0x27 → TitledAt defined_resource m d b p
unfolding form_of form_in forms head_size size statement_by entry_for statement_tags
defined_opens s l e = titled_opens defined_resource s l e (record { head = refl; rest = refl }) (λ h ks. refl)

pub record ClassAt (m : List ℕ) (d b p : ℕ) : Type 0 where
  pub tree : statement_at m d p ≡ class_with_attributes p (two m (p + 3)) (attributes_at m b (fields_in m (p + 5) (end_of m p)))
  pub attributes : Siblings m b Attribute (p + 5) (end_of m p)

pub class_opens : {m : List ℕ} {d b p : ℕ} → Stands m d p → d ≡ suc b → byte m p ≡ 0x28 → ClassAt m d b p
unfolding form_of form_in forms head_size size statement_by entry_for statement_tags
class_opens {m} {d} {b} {p} s l e =
    let o = opened {h = 2} {q = p + 5} s l e (record { head = refl; rest = refl }) (omega arith) in
    let attributes : Siblings m b Attribute (p + 5) (end_of m p) = last_many (many_part o.parts) in
    record { tree = statement_read m d p 0x28 _ _ o.read ∙ ap₂ (class_with_attributes p) (run_two m (p + 3) 2 0 (p + 3) (omega arith) (omega arith)) (attributes_read attributes); attributes = attributes }

pub include_opens : {m : List ℕ} {d p : ℕ} → Stands m d p → byte m p ≡ 0x29 → statement_at m d p ≡ include p (two m (p + 3))
unfolding form_of form_in forms head_size size statement_by entry_for statement_tags
include_opens {m} {d} {p} s e =
    let o = opened_leaf {h = 2} s e (record { head = refl; rest = refl }) in
    statement_read m d p 0x29 _ _ o.read ∙ ap (include p) (run_two m (p + 3) 2 0 (p + 3) (omega arith) (omega arith))

-- ---- Blocks

statements_read : (m : List ℕ) (b : ℕ) (qs : List ℕ) → statements_from (statement_in (block_in b)) (read_each (read_field m b) qs) ≡ statements_at m b qs
unfolding statements_from statements_at statement_at read_each
statements_read m b [] = refl
statements_read m b (q ∷ qs) = ap (next (statement_at m b q)) (statements_read m b qs)

pub record BlockAt (m : List ℕ) (d b p : ℕ) : Type 0 where
  pub tree : block_at m d p ≡ statements_at m b (fields_in m (p + 3) (end_of m p))
  pub statements : Siblings m b StatementKind (p + 3) (end_of m p)

pub block_opens : {m : List ℕ} {d b p : ℕ} → StandsAs m d BlockKind p → d ≡ suc b → BlockAt m d b p
unfolding allowed form_of form_in forms head_size size block_at block_in
block_opens {m} {d} {b} {p} s l =
    let o = opened {h = 0} {q = p + 3} s.stands l (eqb-true (byte m p) 0x20 s.kind) (record { head = refl; rest = refl }) (omega arith) in
    record { tree = ap₂ block_in l o.read ∙ statements_read m b (fields_in m (p + 3) (end_of m p)); statements = last_many (many_part o.parts) }
