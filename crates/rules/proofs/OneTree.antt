-- Two manifests that are one tree by the Boolean tests on their fields give one typed tree: their items are the same but for places and for
-- constants whose label is that of a differing constant, and their strings are equal. First the tests become a relation on fields, Alike;
-- then each reader is followed line by line: it takes two fields alike to two parts of a tree that are the same.
use Prim.Native.Nat.{ℕ, zero, suc, ◌≤◌}
use native.Mathlib.Omega.{arith}
use mathlib.Core.Path.{◌≡◌, refl, sym, ◌∙◌, ap, ap₂, subst, subst₂}
use mathlib.Core.Bool.{Bool, true, false, ◌&&◌, ◌||◌, not, true≢false, and-eq-true_iff}
use mathlib.Core.Logic.{inl, inr}
use mathlib.Core.List.{List, [], ◌∷◌}
use mathlib.Core.Option.{Option, none, some}
use lib.Dec.{eqb, leb}
use borrow.Author.Tests.{leb-true, eqb-true, eqb-false, eq-eqb, ne_eqb}
use Rattle.rules.specs.Bytes.{byte, two}
use Rattle.rules.specs.Format.{is_constant}
use Rattle.rules.specs.Fields.{Field, field, Fields, none as fields_end, more, read_all, head_of, tag_of, inner, first, others}
use Rattle.rules.specs.Tree.{Expression, Arms, Statement, Block, Branches, Parent, named, by_default, node}
use Rattle.rules.specs.Read.{entry_for, value_from, constant_from, is_default, ExpressionTag, a_constant, a_variable, a_top_variable, a_class_variable, an_operation, a_negation, an_attribute_read, a_selector, no_expression, expression_tags, arm_from, arms_from, expression_by, expression_in, expression_from, attribute_from, attributes_from, StatementTag, an_assignment, a_conditional, a_choice, a_resource, a_defined, a_class, an_include, no_statement, statement_tags, branch_from, branches_from, statement_by, statement_in, statements_from, block_in, block_from, default_from, parameter_from, parameters_from, last_of, last_block, parent_from, after_parent, names_from, devices_from, ItemTag, a_node, a_type_definition, a_class_definition, a_statement, item_tags, item_by, item_from, items_from, strings_from, manifest_from, manifest_of}
use Rattle.rules.specs.Compile.{same_bytes}
use Rattle.rules.specs.EditRule.{opposite, same_field, same_fields, one_tree, differs_here, differs_in, differs_any, differing}
use Rattle.rules.proofs.Same.{Edit, anywhere, Pairwise, none_paired, paired, Optional, both_none, both_some, SameConstant, same_constant, SameExpression, same_constants, same_variable, same_top_variable, same_class_variable, same_operation, same_negation, same_attribute_read, same_selector, same_unreadable, SameArms, same_no_arm, same_arm, same_default_arm, SameAttributeField, same_attribute_field, SameAttributeFields, SameStatement, same_assignment, same_conditional, same_choice, same_resource, same_defined, same_class, same_include, same_unreadable_statement, SameBlock, same_end, same_next, SameBranches, same_no_branch, same_branch, same_default_branch, SameParameter, same_parameter, SameParent, same_parent, SameParameters, same_type, same_class_definition, same_type_definition, same_class_definitions, SameItem, same_statement_item, same_node, same_definition_item, SameItems}

-- ---- Tests

and_left : (a b : Bool) → (a && b) ≡ true → a ≡ true
and_left a b e = ((and-eq-true_iff a b).0 e).0

and_right : (a b : Bool) → (a && b) ≡ true → b ≡ true
and_right a b e = ((and-eq-true_iff a b).0 e).1

or_left : (a b : Bool) → a ≡ true → (a || b) ≡ true
or_left true b e = refl
or_left false b e = absurd (true≢false (sym e))

or_right : (a b : Bool) → b ≡ true → (a || b) ≡ true
or_right true b e = refl
or_right false b e = e

-- bytes that pass the test are equal
same_bytes_equal : (h g : List ℕ) → same_bytes h g ≡ true → h ≡ g
unfolding same_bytes
same_bytes_equal [] [] e = refl
same_bytes_equal [] (y ∷ ys) e = absurd (true≢false (sym e))
same_bytes_equal (x ∷ xs) [] e = absurd (true≢false (sym e))
same_bytes_equal (x ∷ xs) (y ∷ ys) e = ap₂ (λ z zs. z ∷ zs) (eqb-true x y (and_left (eqb x y) (same_bytes xs ys) e)) (same_bytes_equal xs ys (and_right (eqb x y) (same_bytes xs ys) e))

-- lists that are pairwise equal are equal
pairwise_equal : {A : Type 0} {xs ys : List A} → Pairwise (λ x y. x ≡ y) xs ys → xs ≡ ys
pairwise_equal none_paired = refl
pairwise_equal (paired e r) = ap₂ (λ z zs. z ∷ zs) e (pairwise_equal r)

-- ---- The tags of constants

-- from 10 to 12, and neither 10 nor 11: 12
third : (t : ℕ) → 0x10 ≤ t → t ≤ 0x12 → (t ≡ 0x10 → ⊥) → (t ≡ 0x11 → ⊥) → 0x12 ≡ t
third t a b c d = omega arith

-- what holds of 10, 11 and 12 holds of the tag of any constant
of_constant_lem : (P : ℕ → Type 0) → P 0x10 → P 0x11 → P 0x12 → (t : ℕ) → is_constant t ≡ true → P t
of_constant_lem P a b c t e = integer (eqb t 0x10) refl
  where
    boolean : (t ≡ 0x10 → ⊥) → (t ≡ 0x11 → ⊥) → P t
    boolean n k = subst P (third t (leb-true 0x10 t (and_left (leb 0x10 t) (leb t 0x12) e)) (leb-true t 0x12 (and_right (leb 0x10 t) (leb t 0x12) e)) n k) c

    string : (t ≡ 0x10 → ⊥) → (x : Bool) → eqb t 0x11 ≡ x → P t
    string n true q = subst P (sym (eqb-true t 0x11 q)) b
    string n false q = boolean n (eqb-false t 0x11 q)

    integer : (x : Bool) → eqb t 0x10 ≡ x → P t
    integer true q = subst P (sym (eqb-true t 0x10 q)) a
    integer false q = string (eqb-false t 0x10 q) (eqb t 0x11) refl

-- which entry of each list of tags a constant's tag has
constant_expression : (t : ℕ) → is_constant t ≡ true → entry_for expression_tags no_expression t ≡ a_constant
unfolding entry_for expression_tags
constant_expression = of_constant_lem (λ t. entry_for expression_tags no_expression t ≡ a_constant) refl refl refl

constant_statement : (t : ℕ) → is_constant t ≡ true → entry_for statement_tags no_statement t ≡ no_statement
unfolding entry_for statement_tags
constant_statement = of_constant_lem (λ t. entry_for statement_tags no_statement t ≡ no_statement) refl refl refl

constant_item : (t : ℕ) → is_constant t ≡ true → entry_for item_tags a_statement t ≡ a_statement
unfolding entry_for item_tags
constant_item = of_constant_lem (λ t. entry_for item_tags a_statement t ≡ a_statement) refl refl refl

-- a constant's tag is no tag that is not a constant's
constant_tag_lem : (n : ℕ) → is_constant n ≡ false → (t : ℕ) → is_constant t ≡ true → eqb t n ≡ false
constant_tag_lem n i t c = ne_eqb t n (λ e. true≢false (sym c ∙ ap (λ x. is_constant x) e ∙ i))

-- a constant is no parent
constant_parent : (p t : ℕ) (h : List ℕ) (ks : Fields) → is_constant t ≡ true → parent_from (field p t h ks) ≡ none
unfolding parent_from
constant_parent p t h ks a = ap (λ b. elim b [ true ↦ some (record { place = p; name = two h 0 }) | false ↦ none ]) (constant_tag_lem 0x35 refl t a)

-- ---- Fields alike

-- a field that is missing reads as one at place 0
module _ (D : Edit) (missing : D.places 0 0) where
  -- two fields opposite each other in one tree: the same tag and head, or two constants with one label, which differ; and so in them
  mutual
    pub data Alike : Field → Field → Type 0 where
      alike : {p q t : ℕ} {h : List ℕ} {ks js : Fields} → D.places p q → AlikeFields ks js → Alike (field p t h ks) (field q t h js)
      constants : {p q t u : ℕ} {h g : List ℕ} {ks js : Fields} → is_constant t ≡ true → is_constant u ≡ true → byte h 0 ≡ byte g 0 → D.differs (byte h 0) → D.places p q → AlikeFields ks js → Alike (field p t h ks) (field q u g js)

    pub data AlikeFields : Fields → Fields → Type 0 where
      alike_none : AlikeFields fields_end fields_end
      alike_more : {k j : Field} {ks js : Fields} → Alike k j → AlikeFields ks js → AlikeFields (more k ks) (more j js)

  -- every label that passes a test is that of a differing constant
  pub record Covers (test : ℕ → Bool) : Type 0 where
    pub covers : (l : ℕ) → test l ≡ true → D.differs l

  covers_left : (a b : ℕ → Bool) → Covers (λ l. a l || b l) → Covers a
  covers_left a b c = record { covers = λ l e. c.covers l (or_left (a l) (b l) e) }

  covers_right : (a b : ℕ → Bool) → Covers (λ l. a l || b l) → Covers b
  covers_right a b c = record { covers = λ l e. c.covers l (or_right (a l) (b l) e) }

  -- one pair of fields: by the first half of the test they are the same, by the second two constants that differ
  opposite_alike : (p q t u : ℕ) (h g : List ℕ) (ks js : Fields) → opposite t h u g ≡ true → Covers (differs_here t h u g) → D.places p q → AlikeFields ks js → Alike (field p t h ks) (field q u g js)
  unfolding opposite differs_here
  opposite_alike p q t u h g ks js o c z r = go (eqb t u && same_bytes h g) refl o (c.covers (byte h 0))
    where
      equal : (eqb t u && same_bytes h g) ≡ true → Alike (field p t h ks) (field q u g js)
      equal e = subst (λ x. Alike (field p t h ks) (field q x g js)) (eqb-true t u (and_left (eqb t u) (same_bytes h g) e)) (subst (λ x. Alike (field p t h ks) (field q t x js)) (same_bytes_equal h g (and_right (eqb t u) (same_bytes h g) e)) (alike z r))

      differ : (is_constant t && is_constant u) ≡ true → byte h 0 ≡ byte g 0 → (((is_constant t && true) && eqb (byte h 0) (byte h 0)) ≡ true → D.differs (byte h 0)) → Alike (field p t h ks) (field q u g js)
      differ s e d = constants (and_left (is_constant t) (is_constant u) s) (and_right (is_constant t) (is_constant u) s) e (d ((and-eq-true_iff (is_constant t && true) (eqb (byte h 0) (byte h 0))).1 ((and-eq-true_iff (is_constant t) true).1 (and_left (is_constant t) (is_constant u) s, refl), eq-eqb (byte h 0) (byte h 0) refl))) z r

      go : (b : Bool) → (eqb t u && same_bytes h g) ≡ b → (b || ((is_constant t && is_constant u) && eqb (byte h 0) (byte g 0))) ≡ true → (((is_constant t && not b) && eqb (byte h 0) (byte h 0)) ≡ true → D.differs (byte h 0)) → Alike (field p t h ks) (field q u g js)
      go true e s d = equal e
      go false e s d = differ (and_left (is_constant t && is_constant u) (eqb (byte h 0) (byte g 0)) s) (eqb-true (byte h 0) (byte g 0) (and_right (is_constant t && is_constant u) (eqb (byte h 0) (byte g 0)) s)) d

  -- two fields that are one tree by the tests are alike, for any edit that has every label of a differing constant in them, if all their places
  -- belong together
  module _ (placed : (p q : ℕ) → D.places p q) where
    mutual
      unfolding same_field differs_in

      pub field_alike : (k j : Field) → same_field k j ≡ true → Covers (differs_in k j) → Alike k j
      field_alike (field p t h ks) (field q u g js) s c =
          opposite_alike p q t u h g ks js (and_left (opposite t h u g) (same_fields ks js) s) (covers_left (differs_here t h u g) (differs_any ks js) c) (placed p q)
          (fields_alike ks js (and_right (opposite t h u g) (same_fields ks js) s) (covers_right (differs_here t h u g) (differs_any ks js) c))

      pub fields_alike : (ks js : Fields) → same_fields ks js ≡ true → Covers (differs_any ks js) → AlikeFields ks js
      fields_alike fields_end fields_end s c = alike_none
      fields_alike fields_end (more j js) s c = absurd (true≢false (sym s))
      fields_alike (more k ks) fields_end s c = absurd (true≢false (sym s))
      fields_alike (more k ks) (more j js) s c =
          alike_more (field_alike k j (and_left (same_field k j) (same_fields ks js) s) (covers_left (differs_in k j) (differs_any ks js) c))
          (fields_alike ks js (and_right (same_field k j) (same_fields ks js) s) (covers_right (differs_in k j) (differs_any ks js) c))

  -- ---- Parts of fields alike

  alike_inner : {k j : Field} → Alike k j → AlikeFields (inner k) (inner j)
  unfolding inner
  alike_inner (alike z r) = r
  alike_inner (constants a b e d z r) = r

  alike_first : {ks js : Fields} → AlikeFields ks js → Alike (first ks) (first js)
  unfolding first
  alike_first alike_none = alike missing alike_none
  alike_first (alike_more r rs) = r

  alike_others : {ks js : Fields} → AlikeFields ks js → AlikeFields (others ks) (others js)
  unfolding others
  alike_others alike_none = alike_none
  alike_others (alike_more r rs) = rs

  alike_last : {k j : Field} {ks js : Fields} → Alike k j → AlikeFields ks js → Alike (last_of k ks) (last_of j js)
  unfolding last_of
  alike_last r alike_none = r
  alike_last r (alike_more s rs) = alike_last s rs

  -- a test for a tag that is no constant's gives the same of both
  alike_tag : (n : ℕ) → is_constant n ≡ false → {k j : Field} → Alike k j → eqb (tag_of k) n ≡ eqb (tag_of j) n
  unfolding tag_of
  alike_tag n i (alike z r) = refl
  alike_tag n i (constants {t = t} {u = u} a b e d z r) = constant_tag_lem n i t a ∙ sym (constant_tag_lem n i u b)

  alike_default : {k j : Field} → Alike k j → is_default k ≡ is_default j
  unfolding is_default
  alike_default r = alike_tag 0x1b refl r

  -- a list of what f reads of the fields with tag n, which is no constant's: one more field at its head
  listed : {A : Type 0} (R : A → A → Type 0) (f : Field → A) (n : ℕ) → is_constant n ≡ false → ((p q t : ℕ) (h : List ℕ) (ks js : Fields) → AlikeFields ks js → R (f (field p t h ks)) (f (field q t h js))) → {k j : Field} → Alike k j → {xs ys zs ws : List A} → Pairwise R xs ys → Pairwise R zs ws → Pairwise R (elim (eqb (tag_of k) n) [ true ↦ f k ∷ xs | false ↦ zs ]) (elim (eqb (tag_of j) n) [ true ↦ f j ∷ ys | false ↦ ws ])
  unfolding tag_of
  listed R f n i same (alike {p = p} {q = q} {t = t} {h = h} {ks = ks} {js = js} z r) {xs} {ys} {zs} {ws} m o = go (eqb t n)
    where
      go : (b : Bool) → Pairwise R (elim b [ true ↦ f (field p t h ks) ∷ xs | false ↦ zs ]) (elim b [ true ↦ f (field q t h js) ∷ ys | false ↦ ws ])
      go true = paired (same p q t h ks js r) m
      go false = o
  listed R f n i same (constants {p = p} {q = q} {t = t} {u = u} {h = h} {g = g} {ks = ks} {js = js} a b e d z r) {xs} {ys} {zs} {ws} m o =
      subst₂ (λ x y. Pairwise R (elim x [ true ↦ f (field p t h ks) ∷ xs | false ↦ zs ]) (elim y [ true ↦ f (field q u g js) ∷ ys | false ↦ ws ])) (sym (constant_tag_lem n i t a)) (sym (constant_tag_lem n i u b)) o

  -- ---- Constants and expressions

  one_constant : {k j : Field} → Alike k j → SameConstant D (constant_from k) (constant_from j)
  unfolding constant_from
  one_constant (alike z r) = same_constant z (inr refl)
  one_constant (constants {p = p} {q = q} {t = t} {u = u} {h = h} {g = g} a b e d z r) = subst (λ l. SameConstant D (record { place = p; label = byte h 0; value = value_from t h }) (record { place = q; label = l; value = value_from u g })) e (same_constant z (inl d))

  -- a reader that takes fields alike to parts in the relation R
  pub record Keeps {A : Type 0} (R : A → A → Type 0) (f : Field → A) : Type 0 where
    pub kept : (k j : Field) → Alike k j → R (f k) (f j)

  one_arm : (f : Field → Expression) → Keeps (SameExpression D) f → (b c : Bool) → b ≡ c → {ks js : Fields} {s s' : Arms} → AlikeFields ks js → SameArms D s s' → SameArms D (arm_from f b ks s) (arm_from f c js s')
  unfolding arm_from
  one_arm f o b c e {ks} {js} {s} {s'} r rest = subst (λ x. SameArms D (arm_from f b ks s) (arm_from f x js s')) e (go b)
    where
      go : (x : Bool) → SameArms D (arm_from f x ks s) (arm_from f x js s')
      go true = same_default_arm (o.kept _ _ (alike_first (alike_others r))) rest
      go false = same_arm (one_constant (alike_first r)) (o.kept _ _ (alike_first (alike_others r))) rest

  one_arms : (f : Field → Expression) → Keeps (SameExpression D) f → {ks js : Fields} → AlikeFields ks js → SameArms D (arms_from f ks) (arms_from f js)
  unfolding arms_from
  one_arms f o alike_none = same_no_arm
  one_arms f o (alike_more {k = k} {j = j} r rs) = one_arm f o (is_default (first (inner k))) (is_default (first (inner j))) (alike_default (alike_first (alike_inner r))) (alike_inner r) (one_arms f o rs)

  one_expression_by : (f : Field → Expression) → Keeps (SameExpression D) f → {k j : Field} → Alike k j → (p q : ℕ) (h : List ℕ) {ks js : Fields} → AlikeFields ks js → (tag : ExpressionTag) → SameExpression D (expression_by f k p h ks tag) (expression_by f j q h js tag)
  unfolding expression_by
  one_expression_by f o r p q h rs a_constant = same_constants (one_constant r)
  one_expression_by f o r p q h rs a_variable = same_variable
  one_expression_by f o r p q h rs a_top_variable = same_top_variable
  one_expression_by f o r p q h rs a_class_variable = same_class_variable
  one_expression_by f o r p q h rs an_operation = same_operation (o.kept _ _ (alike_first rs)) (o.kept _ _ (alike_first (alike_others rs)))
  one_expression_by f o r p q h rs a_negation = same_negation (o.kept _ _ (alike_first rs))
  one_expression_by f o r p q h rs an_attribute_read = same_attribute_read (o.kept _ _ (alike_first rs))
  one_expression_by f o r p q h rs a_selector = same_selector (o.kept _ _ (alike_first rs)) (one_arms f o (alike_others rs))
  one_expression_by f o r p q h rs no_expression = same_unreadable

  one_expression_none : (k j : Field) → Alike k j → SameExpression D (expression_in zero k) (expression_in zero j)
  unfolding expression_in
  one_expression_none k j (alike z r) = same_unreadable
  one_expression_none k j (constants a b e l z r) = same_unreadable

  one_expression_next : (d : ℕ) → Keeps (SameExpression D) (expression_in d) → (k j : Field) → Alike k j → SameExpression D (expression_in (suc d) k) (expression_in (suc d) j)
  unfolding expression_in expression_by
  one_expression_next d o k j (alike {p = p} {q = q} {t = t} {h = h} z r) = one_expression_by (expression_in d) o (alike z r) p q h r (entry_for expression_tags no_expression t)
  one_expression_next d o k j (constants {t = t} {u = u} a b e l z r) = rw (constant_expression t a, constant_expression u b) (same_constants (one_constant (constants a b e l z r)))

  one_expression_in : (d : ℕ) → Keeps (SameExpression D) (expression_in d)
  one_expression_in zero = record { kept = one_expression_none }
  one_expression_in (suc d) = record { kept = one_expression_next d (one_expression_in d) }

  one_expression : {k j : Field} → Alike k j → SameExpression D (expression_from k) (expression_from j)
  unfolding expression_from
  one_expression r = (one_expression_in 32).kept _ _ r

  -- ---- Statements and blocks

  one_attribute : (p q t : ℕ) (h : List ℕ) (ks js : Fields) → AlikeFields ks js → SameAttributeField D (attribute_from (field p t h ks)) (attribute_from (field q t h js))
  unfolding attribute_from
  one_attribute p q t h ks js r = same_attribute_field (one_expression (alike_first r))

  one_attributes : {ks js : Fields} → AlikeFields ks js → SameAttributeFields D (attributes_from ks) (attributes_from js)
  unfolding attributes_from
  one_attributes alike_none = none_paired
  one_attributes (alike_more r rs) = listed (SameAttributeField D) attribute_from 0x26 refl one_attribute r (one_attributes rs) (one_attributes rs)

  one_branch : (f : Field → Block) → Keeps (SameBlock D) f → (b c : Bool) → b ≡ c → {ks js : Fields} {s s' : Branches} → AlikeFields ks js → SameBranches D s s' → SameBranches D (branch_from f b ks s) (branch_from f c js s')
  unfolding branch_from
  one_branch f o b c e {ks} {js} {s} {s'} r rest = subst (λ x. SameBranches D (branch_from f b ks s) (branch_from f x js s')) e (go b)
    where
      go : (x : Bool) → SameBranches D (branch_from f x ks s) (branch_from f x js s')
      go true = same_default_branch (o.kept _ _ (alike_first (alike_others r))) rest
      go false = same_branch (one_constant (alike_first r)) (o.kept _ _ (alike_first (alike_others r))) rest

  one_branches : (f : Field → Block) → Keeps (SameBlock D) f → {ks js : Fields} → AlikeFields ks js → SameBranches D (branches_from f ks) (branches_from f js)
  unfolding branches_from
  one_branches f o alike_none = same_no_branch
  one_branches f o (alike_more {k = k} {j = j} r rs) = one_branch f o (is_default (first (inner k))) (is_default (first (inner j))) (alike_default (alike_first (alike_inner r))) (alike_inner r) (one_branches f o rs)

  one_statement_by : (f : Field → Block) → Keeps (SameBlock D) f → (p q : ℕ) (h : List ℕ) {ks js : Fields} → AlikeFields ks js → (tag : StatementTag) → SameStatement D (statement_by f p h ks tag) (statement_by f q h js tag)
  unfolding statement_by
  one_statement_by f o p q h rs an_assignment = same_assignment (one_expression (alike_first rs))
  one_statement_by f o p q h rs a_conditional = same_conditional (one_expression (alike_first rs)) (o.kept _ _ (alike_first (alike_others rs))) (o.kept _ _ (alike_first (alike_others (alike_others rs))))
  one_statement_by f o p q h rs a_choice = same_choice (one_expression (alike_first rs)) (one_branches f o (alike_others rs))
  one_statement_by f o p q h rs a_resource = same_resource (one_expression (alike_first rs)) (one_attributes (alike_others rs))
  one_statement_by f o p q h rs a_defined = same_defined (one_expression (alike_first rs)) (one_attributes (alike_others rs))
  one_statement_by f o p q h rs a_class = same_class (one_attributes rs)
  one_statement_by f o p q h rs an_include = same_include
  one_statement_by f o p q h rs no_statement = same_unreadable_statement

  one_statement : (f : Field → Block) → Keeps (SameBlock D) f → (k j : Field) → Alike k j → SameStatement D (statement_in f k) (statement_in f j)
  unfolding statement_in statement_by
  one_statement f o k j (alike {p = p} {q = q} {t = t} {h = h} z r) = one_statement_by f o p q h r (entry_for statement_tags no_statement t)
  one_statement f o k j (constants {t = t} {u = u} a b e l z r) = rw (constant_statement t a, constant_statement u b) same_unreadable_statement

  one_statements : (f : Field → Statement) → Keeps (SameStatement D) f → {ks js : Fields} → AlikeFields ks js → SameBlock D (statements_from f ks) (statements_from f js)
  unfolding statements_from
  one_statements f o alike_none = same_end
  one_statements f o (alike_more r rs) = same_next (o.kept _ _ r) (one_statements f o rs)

  one_block_none : (k j : Field) → Alike k j → SameBlock D (block_in zero k) (block_in zero j)
  unfolding block_in
  one_block_none k j r = same_end

  one_block_next : (d : ℕ) → Keeps (SameBlock D) (block_in d) → (k j : Field) → Alike k j → SameBlock D (block_in (suc d) k) (block_in (suc d) j)
  unfolding block_in
  one_block_next d o k j (alike z r) = one_statements (statement_in (block_in d)) (record { kept = one_statement (block_in d) o }) r
  one_block_next d o k j (constants a b e l z r) = one_statements (statement_in (block_in d)) (record { kept = one_statement (block_in d) o }) r

  one_block_in : (d : ℕ) → Keeps (SameBlock D) (block_in d)
  one_block_in zero = record { kept = one_block_none }
  one_block_in (suc d) = record { kept = one_block_next d (one_block_in d) }

  one_block : (k j : Field) → Alike k j → SameBlock D (block_from k) (block_from j)
  unfolding block_from
  one_block k j r = (one_block_in 32).kept k j r

  -- ---- Items

  one_default : {ks js : Fields} → AlikeFields ks js → Optional (SameConstant D) (default_from ks) (default_from js)
  unfolding default_from
  one_default alike_none = both_none
  one_default (alike_more r rs) = both_some (one_constant r)

  one_parameter : (p q t : ℕ) (h : List ℕ) (ks js : Fields) → AlikeFields ks js → SameParameter D (parameter_from (field p t h ks)) (parameter_from (field q t h js))
  unfolding parameter_from
  one_parameter p q t h ks js r = same_parameter (one_default r)

  one_parameters : {ks js : Fields} → AlikeFields ks js → SameParameters D (parameters_from ks) (parameters_from js)
  unfolding parameters_from
  one_parameters alike_none = none_paired
  one_parameters (alike_more r rs) = listed (SameParameter D) parameter_from 0x33 refl one_parameter r (one_parameters rs) none_paired

  one_last_block : {ks js : Fields} → AlikeFields ks js → SameBlock D (last_block ks) (last_block js)
  unfolding last_block
  one_last_block r = one_block _ _ (alike_last (alike_first alike_none) r)

  one_parent : {k j : Field} → Alike k j → Optional (SameParent D) (parent_from k) (parent_from j)
  unfolding parent_from
  one_parent (alike {p = p} {q = q} {t = t} {h = h} z r) = go (eqb t 0x35)
    where
      go : (b : Bool) → Optional (SameParent D) (elim b [ true ↦ some (record { place = p; name = two h 0 }) | false ↦ none ]) (elim b [ true ↦ some (record { place = q; name = two h 0 }) | false ↦ none ])
      go true = both_some same_parent
      go false = both_none
  one_parent (constants {p = p} {q = q} {t = t} {u = u} {h = h} {g = g} {ks = ks} {js = js} a b e d z r) = subst₂ (Optional (SameParent D)) (sym (constant_parent p t h ks a)) (sym (constant_parent q u g js b)) both_none

  alike_after : {u u' : Option Parent} → Optional (SameParent D) u u' → {ks js : Fields} → AlikeFields ks js → AlikeFields (after_parent u ks) (after_parent u' js)
  unfolding after_parent
  alike_after both_none r = r
  alike_after (both_some s) r = alike_others r

  one_name : (p q t : ℕ) (h : List ℕ) (ks js : Fields) → AlikeFields ks js → two (head_of (field p t h ks)) 0 ≡ two (head_of (field q t h js)) 0
  unfolding head_of
  one_name p q t h ks js r = refl

  one_names : {ks js : Fields} → AlikeFields ks js → Pairwise (λ x y. x ≡ y) (names_from ks) (names_from js)
  unfolding names_from
  one_names alike_none = none_paired
  one_names (alike_more r rs) = listed (λ x y. x ≡ y) (λ k. two (head_of k) 0) 0x31 refl one_name r (one_names rs) none_paired

  one_devices : {ks js : Fields} → AlikeFields ks js → devices_from ks ≡ devices_from js
  unfolding devices_from
  one_devices r = ap₂ (λ b ns. elim b [ true ↦ by_default | false ↦ named ns ]) (alike_default (alike_first r)) (pairwise_equal (one_names r))

  one_item_by : {k j : Field} → Alike k j → (p q : ℕ) (h : List ℕ) {ks js : Fields} → AlikeFields ks js → (tag : ItemTag) → SameItem D (item_by k p h ks tag) (item_by j q h js tag)
  unfolding item_by
  one_item_by r p q h {ks} {js} rs a_node = subst (λ ds. SameItem D (node (devices_from ks) (last_block ks)) (node ds (last_block js))) (one_devices rs) (same_node (one_last_block rs))
  one_item_by r p q h rs a_type_definition = same_definition_item (same_type_definition (same_type (one_parameters rs) (one_last_block rs)))
  one_item_by r p q h rs a_class_definition = same_definition_item (same_class_definitions (same_class_definition (one_parent (alike_first rs)) (one_parameters (alike_after (one_parent (alike_first rs)) rs)) (one_last_block rs)))
  one_item_by r p q h rs a_statement = same_statement_item (one_statement block_from (record { kept = one_block }) _ _ r)

  one_item : {k j : Field} → Alike k j → SameItem D (item_from k) (item_from j)
  unfolding item_from item_by
  one_item (alike {p = p} {q = q} {t = t} {h = h} z r) = one_item_by (alike z r) p q h r (entry_for item_tags a_statement t)
  one_item (constants {t = t} {u = u} a b e l z r) = rw (constant_item t a, constant_item u b) (same_statement_item (one_statement block_from (record { kept = one_block }) _ _ (constants a b e l z r)))

  -- items of fields alike are the same
  pub alike_items : {ks js : Fields} → AlikeFields ks js → SameItems D (items_from ks) (items_from js)
  unfolding items_from
  alike_items alike_none = none_paired
  alike_items (alike_more r rs) = paired (one_item r) (alike_items rs)

  one_string_lem : (p q t : ℕ) (h : List ℕ) (ks js : Fields) → AlikeFields ks js → head_of (field p t h ks) ≡ head_of (field q t h js)
  unfolding head_of
  one_string_lem p q t h ks js r = refl

  -- strings of fields alike are equal
  pub alike_strings : {ks js : Fields} → AlikeFields ks js → Pairwise (λ x y. x ≡ y) (strings_from ks) (strings_from js)
  unfolding strings_from
  alike_strings alike_none = none_paired
  alike_strings (alike_more r rs) = listed (λ x y. x ≡ y) head_of 0x02 refl one_string_lem r (alike_strings rs) (alike_strings rs)

-- ---- Manifests

-- the edit from one tree of fields to another
abbrev between : Fields → Fields → Edit
between ks js = anywhere (λ l. differs_any ks js l ≡ true)

one_fields : (ks js : Fields) → same_fields ks js ≡ true → AlikeFields (between ks js) tt ks js
one_fields ks js e = fields_alike (between ks js) tt (λ p q. tt) ks js e (record { covers = λ l d. d })

-- one tree of fields has one tree of items, but for constants with the label of a differing one
pub one_items : (ks js : Fields) → same_fields ks js ≡ true → SameItems (anywhere (λ l. differs_any ks js l ≡ true)) (manifest_from ks).items (manifest_from js).items
unfolding manifest_from
one_items ks js e = alike_items (between ks js) tt (alike_others (between ks js) tt (one_fields ks js e))

-- one tree of fields has one string table
pub one_strings : (ks js : Fields) → same_fields ks js ≡ true → (manifest_from ks).strings ≡ (manifest_from js).strings
unfolding manifest_from
one_strings ks js e = pairwise_equal (alike_strings (between ks js) tt (alike_inner (between ks js) tt (alike_first (between ks js) tt (one_fields ks js e))))

-- two manifests with one tree have the same items, but for constants with the label of a differing one
pub one_tree_lem : (m m' : List ℕ) → one_tree m m' ≡ true → SameItems (anywhere (λ l. differing m m' l ≡ true)) (manifest_of m).items (manifest_of m').items
unfolding one_tree differing manifest_of
one_tree_lem m m' e = one_items (read_all m) (read_all m') e

-- two manifests with one tree have the same strings
pub one_table : (m m' : List ℕ) → one_tree m m' ≡ true → (manifest_of m).strings ≡ (manifest_of m').strings
unfolding one_tree manifest_of
one_table m m' e = one_strings (read_all m) (read_all m') e
