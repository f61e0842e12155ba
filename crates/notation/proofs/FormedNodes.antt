-- For each tag: a field with the parts that the grammar reads for it is as listed, and of its kind.
use Prim.Native.Nat.{ℕ, ◌<◌, ◌≤◌}
use mathlib.Core.Path.{◌≡◌, refl, ◌∙◌}
use mathlib.Core.Bool.{Bool, true, false}
use mathlib.Core.List.{List, [], ◌∷◌}
use native.Mathlib.Omega.{arith}
use lib.Dec.{eqb, leb}
use borrow.Author.Tests.{eqb-true, leb-true, le-leb}
use Rattle.rules.specs.Bytes.{pick}
use Rattle.rules.specs.Format.{is_constant, is_statement, allowed, three, take, follow, forms, form_in, form_of, may_end, part_may_end}
use Rattle.rules.specs.Evaluate.{any}
use Rattle.rules.specs.Types.{Types, built_in_types}
use Rattle.rules.specs.Compile.{same_bytes}
use Rattle.rules.specs.declared.Kind.{Kind}
use Rattle.rules.specs.declared.Kind.TheVariants.{Constant, Expression, Pattern, Arm, Statement, Block, Branch, Attribute, Parameter, Parent, Item, Device}
use Rattle.rules.specs.declared.Part.{Part}
use Rattle.rules.specs.declared.Part.TheVariants.{Over, One, UpTo, Many, Names}
use Rattle.rules.specs.declared.Parts.{Parts}
use Rattle.rules.specs.declared.Rest.TheVariants.{Only, Fields as Inner}
use Rattle.rules.specs.declared.Took.TheVariants.{Passes}
use Rattle.rules.specs.declared.Next.TheVariants.{Go}
use Rattle.rules.proofs.Lists.{both_left, both_right, both_true, or_true_right}
use Rattle.notation.specs.Building.{Piece, byte, name, Node, node, Nodes, empty, ◌▸◌, in_front, leaf, resource_tag}
use Rattle.notation.specs.Printer.{is_name}
use Rattle.notation.proofs.Formed.{NameIn, Heading, no_piece, an_operator, one_name, two_names, tag_in, reached, Contents, bare, Formed, formed, AllFormed, none_formed, also_formed, Of, More, enough, further, Has, has_none_lem, has_next, has_first, has_second, has_third, has_many_first, has_many_second, has_many_third, has_whole}

-- a word or the name of a variable: S holds of it, and it is spelled as a name
pub record Word (S : List ℕ → Type 0) (w : List ℕ) : Type 0 where
  pub known : S w
  pub spelled : is_name w ≡ true

-- parameters and a block, behind a first part that leaves them to the others
record Behind (types : Types) (S : List ℕ → Type 0) (ps : Parts) (ks : Nodes) : Type 0 where
  first : Part
  has : Has types S ps ks (three first (Many Parameter) (One Block))
  parameter : take first 0x33 ≡ Passes
  block : take first 0x20 ≡ Passes

-- a field in front leads on from the parts that it leads to
reached_front : (ps n : Parts) (k : Node) → follow ps (tag_in k) ≡ Go n → (js : Nodes) → reached ps (in_front k js) ≡ reached n js
unfolding reached in_front
reached_front ps n k e empty = e
reached_front ps n k e (js ▸ j) = rw (reached_front ps n k e js)

module _ (types : Types) {S : List ℕ → Type 0} where
  -- ---- Kinds that hold others

  -- a constant is an expression
  pub constant_expression : {k : Node} → Of types S Constant k → Of types S Expression k
  unfolding allowed
  constant_expression {k} o =
      let low = both_left (leb 0x10 (tag_in k)) (leb (tag_in k) 0x12) o.right in
      let high = leb-true (tag_in k) 0x12 (both_right (leb 0x10 (tag_in k)) (leb (tag_in k) 0x12) o.right) in
      record { right = both_true (leb 0x10 (tag_in k)) (leb (tag_in k) 0x19) low (le-leb (tag_in k) 0x19 (omega arith)); form = o.form }

  -- a constant is a pattern
  pub constant_pattern_lem : {k : Node} → Of types S Constant k → Of types S Pattern k
  unfolding allowed
  constant_pattern_lem {k} o = record { right = or_true_right (eqb (tag_in k) 0x1b) (is_constant (tag_in k)) o.right; form = o.form }

  -- a statement is an item
  pub statement_item : {k : Node} → Of types S Statement k → Of types S Item k
  unfolding allowed
  statement_item {k} o =
      record {
        right = or_true_right (eqb (tag_in k) 0x30) _ (or_true_right (eqb (tag_in k) 0x32) _ (or_true_right (eqb (tag_in k) 0x34) (is_statement (tag_in k)) o.right));
        form = o.form;
      }

  -- ---- Names

  -- a word is a name in every field but resources
  pub word_in : (t : ℕ) {w : List ℕ} → eqb t 0x25 ≡ false → eqb t 0x27 ≡ false → Word S w → NameIn types S t w
  word_in t a b s = record { known = s.known; spelling = or_true_right (eqb t 0x11) _ (or_true_right (eqb t 0x31) _ s.spelled); type = rw (a, b) }

  -- ---- Fields

  -- a field without fields
  pub leaf_of : {p t : ℕ} {h : List Piece} (kind : Kind) → allowed kind t ≡ true → t < 256 → Heading types S t (form_of t).one (form_of t).two h → (form_of t).rest ≡ Only → Of types S kind (leaf p t h)
  unfolding tag_in
  leaf_of {t = t} kind a l g e =
      let inside : Contents (form_of t).rest empty = rw e bare in
      record { right = a; form = formed l g inside none_formed }

  -- a field with the fields listed
  pub whole_of : {p t : ℕ} {h : List Piece} {js : Nodes} (kind : Kind) (ps : Parts) {last : Parts} → allowed kind t ≡ true → t < 256 → Heading types S t (form_of t).one (form_of t).two h → (form_of t).rest ≡ Inner ps → Has types S ps js last → may_end last ≡ true → Of types S kind (node p t h js)
  unfolding tag_in
  whole_of {t = t} {js = js} kind ps a l g e has m =
      let inside : Contents (form_of t).rest js = rw e (has_whole types has m) in
      record { right = a; form = formed l g inside has.all }

  -- 16
  pub operation_of : {p b : ℕ} {i j : Node} → b ≤ 6 → Of types S Expression i → Of types S Expression j → Of types S Expression (node p 0x16 (byte b ∷ []) (empty ▸ i ▸ j))
  unfolding allowed form_of form_in forms may_end part_may_end
  operation_of l i j = whole_of Expression (three (One Expression) (One Expression) Over) refl (omega arith) (an_operator l) refl (has_second types (has_first types (has_none_lem types) i) j) refl

  -- 17
  pub negation_of : {p : ℕ} {i : Node} → Of types S Expression i → Of types S Expression (node p 0x17 [] (empty ▸ i))
  unfolding allowed form_of form_in forms may_end part_may_end
  negation_of i = whole_of Expression (three (One Expression) Over Over) refl (omega arith) no_piece refl (has_first types (has_none_lem types) i) refl

  -- 18
  pub read_of : {p : ℕ} {v w : List ℕ} {i : Node} → Word S v → Word S w → Of types S Expression i → Of types S Expression (node p 0x18 (name v ∷ name w ∷ []) (empty ▸ i))
  unfolding allowed form_of form_in forms may_end part_may_end
  read_of v w i = whole_of Expression (three (One Expression) Over Over) refl (omega arith) (two_names (word_in 0x18 refl refl v) (word_in 0x18 refl refl w)) refl (has_first types (has_none_lem types) i) refl

  -- 19
  pub selector_of : {p : ℕ} {i a : Node} {js : Nodes} → Of types S Expression i → Of types S Arm a → More types S Arm (empty ▸ i ▸ a) js → Of types S Expression (node p 0x19 [] js)
  unfolding allowed form_of form_in forms may_end part_may_end
  selector_of i a m = whole_of Expression (three (One Expression) (One Arm) (Many Arm)) refl (omega arith) no_piece refl (has_many_third types (has_second types (has_first types (has_none_lem types) i) a) m) refl

  -- 1A
  pub arm_of : {p : ℕ} {c i : Node} → Of types S Pattern c → Of types S Expression i → Of types S Arm (node p 0x1a [] (empty ▸ c ▸ i))
  unfolding allowed form_of form_in forms may_end part_may_end
  arm_of c i = whole_of Arm (three (One Pattern) (One Expression) Over) refl (omega arith) no_piece refl (has_second types (has_first types (has_none_lem types) c) i) refl

  -- 1B
  pub default_of_lem : {p : ℕ} → Of types S Pattern (leaf p 0x1b [])
  unfolding allowed form_of form_in forms
  default_of_lem = leaf_of Pattern refl (omega arith) no_piece refl

  -- 20
  pub block_of : {p : ℕ} {js : Nodes} → More types S Statement empty js → Of types S Block (node p 0x20 [] js)
  unfolding allowed form_of form_in forms may_end part_may_end
  block_of m = whole_of Block (three (Many Statement) Over Over) refl (omega arith) no_piece refl (has_many_first types (has_none_lem types) m) refl

  -- 21
  pub assignment_of : {p : ℕ} {w : List ℕ} {i : Node} → Word S w → Of types S Expression i → Of types S Statement (node p 0x21 (name w ∷ []) (empty ▸ i))
  unfolding allowed form_of form_in forms may_end part_may_end
  assignment_of w i = whole_of Statement (three (One Expression) Over Over) refl (omega arith) (one_name (word_in 0x21 refl refl w)) refl (has_first types (has_none_lem types) i) refl

  -- 22
  pub conditional_of : {p : ℕ} {i y n : Node} → Of types S Expression i → Of types S Block y → Of types S Block n → Of types S Statement (node p 0x22 [] (empty ▸ i ▸ y ▸ n))
  unfolding allowed form_of form_in forms may_end part_may_end
  conditional_of i y n = whole_of Statement (three (One Expression) (One Block) (One Block)) refl (omega arith) no_piece refl (has_third types (has_second types (has_first types (has_none_lem types) i) y) n) refl

  -- 23
  pub choice_of : {p : ℕ} {i : Node} {js : Nodes} → Of types S Expression i → More types S Branch (empty ▸ i) js → Of types S Statement (node p 0x23 [] js)
  unfolding allowed form_of form_in forms may_end part_may_end
  choice_of i m = whole_of Statement (three (One Expression) (Many Branch) Over) refl (omega arith) no_piece refl (has_many_second types (has_first types (has_none_lem types) i) m) refl

  -- 24
  pub branch_of : {p : ℕ} {c b : Node} → Of types S Pattern c → Of types S Block b → Of types S Branch (node p 0x24 [] (empty ▸ c ▸ b))
  unfolding allowed form_of form_in forms may_end part_may_end
  branch_of c b = whole_of Branch (three (One Pattern) (One Block) Over) refl (omega arith) no_piece refl (has_second types (has_first types (has_none_lem types) c) b) refl

  -- 25 and 27
  pub resource_of : {p : ℕ} {w : List ℕ} {i : Node} {js : Nodes} → Word S w → Of types S Expression i → More types S Attribute (empty ▸ i) js → Of types S Statement (node p (resource_tag types w) (name w ∷ []) js)
  unfolding resource_tag allowed form_of form_in forms may_end part_may_end
  resource_of {p} {w} {i} {js} s o m = go (any (same_bytes w) (built_in_types types)) refl
    where
      go : (b : Bool) → any (same_bytes w) (built_in_types types) ≡ b → Of types S Statement (node p (pick b 0x25 0x27) (name w ∷ []) js)
      go true e = whole_of Statement (three (One Expression) (Many Attribute) Over) refl (omega arith) (one_name (record { known = s.known; spelling = s.spelled; type = e })) refl (has_many_second types (has_first types (has_none_lem types) o) m) refl
      go false e = whole_of Statement (three (One Expression) (Many Attribute) Over) refl (omega arith) (one_name (record { known = s.known; spelling = s.spelled; type = rw e })) refl (has_many_second types (has_first types (has_none_lem types) o) m) refl

  -- 26
  pub attribute_of_lem : {p : ℕ} {w : List ℕ} {i : Node} → Word S w → Of types S Expression i → Of types S Attribute (node p 0x26 (name w ∷ []) (empty ▸ i))
  unfolding allowed form_of form_in forms may_end part_may_end
  attribute_of_lem w i = whole_of Attribute (three (One Expression) Over Over) refl (omega arith) (one_name (word_in 0x26 refl refl w)) refl (has_first types (has_none_lem types) i) refl

  -- 28
  pub class_of : {p : ℕ} {w : List ℕ} {js : Nodes} → Word S w → More types S Attribute empty js → Of types S Statement (node p 0x28 (name w ∷ []) js)
  unfolding allowed form_of form_in forms may_end part_may_end
  class_of w m = whole_of Statement (three (Many Attribute) Over Over) refl (omega arith) (one_name (word_in 0x28 refl refl w)) refl (has_many_first types (has_none_lem types) m) refl

  -- 29
  pub include_of : {p : ℕ} {w : List ℕ} → Word S w → Of types S Statement (leaf p 0x29 (name w ∷ []))
  unfolding allowed form_of form_in forms
  include_of w = leaf_of Statement refl (omega arith) (one_name (word_in 0x29 refl refl w)) refl

  -- ---- Items

  -- a block behind any number of fields of a kind that has no blocks
  has_block : {ps : Parts} {z : Part} {ks : Nodes} {k : Node} (kind : Kind) → allowed kind 0x20 ≡ false → Has types S ps ks (three (Many kind) (One Block) z) → Of types S Block k → Has types S ps (ks ▸ k) (three Over Over z)
  unfolding follow take allowed
  has_block {z = z} {k = k} kind other h o = has_next types k (three Over Over z) h o.form (rw (eqb-true (tag_in k) 0x20 o.right, other))

  -- 31
  pub device_of : {p : ℕ} {w : List ℕ} → S w → Of types S Device (leaf p 0x31 (name w ∷ []))
  unfolding allowed form_of form_in forms
  device_of s = leaf_of Device refl (omega arith) (one_name (record { known = s; spelling = refl; type = refl })) refl

  -- 30 with names
  pub node_of : {p : ℕ} {d b : Node} {js : Nodes} → Of types S Device d → More types S Device (empty ▸ d) js → Of types S Block b → Of types S Item (node p 0x30 [] (js ▸ b))
  unfolding allowed form_of form_in forms may_end part_may_end follow take
  node_of {d = d} o m b =
      let first : Has types S (three Names (One Block) Over) (empty ▸ d) (three (Many Device) (One Block) Over) = has_next types d (three (Many Device) (One Block) Over) (has_none_lem types) o.form (rw o.right) in
      whole_of Item (three Names (One Block) Over) refl (omega arith) no_piece refl (has_block Device refl (has_many_first types first m) b) refl

  -- 30 by default
  pub default_node_of : {p q : ℕ} {b : Node} → Of types S Block b → Of types S Item (node p 0x30 [] (empty ▸ leaf q 0x1b [] ▸ b))
  unfolding allowed form_of form_in forms may_end part_may_end follow take tag_in
  default_node_of {q = q} b =
      let first : Has types S (three Names (One Block) Over) (empty ▸ leaf q 0x1b []) (three Over (One Block) Over) = has_next types (leaf q 0x1b []) (three Over (One Block) Over) (has_none_lem types) default_of_lem.form refl in
      whole_of Item (three Names (One Block) Over) refl (omega arith) no_piece refl (has_second types first b) refl

  -- 32
  pub definition_of_lem : {p : ℕ} {w : List ℕ} {b : Node} {js : Nodes} → Word S w → More types S Parameter empty js → Of types S Block b → Of types S Item (node p 0x32 (name w ∷ []) (js ▸ b))
  unfolding allowed form_of form_in forms may_end part_may_end
  definition_of_lem w m b = whole_of Item (three (Many Parameter) (One Block) Over) refl (omega arith) (one_name (word_in 0x32 refl refl w)) refl (has_block Parameter refl (has_many_first types (has_none_lem types) m) b) refl

  -- 33 without a default
  pub parameter_of : {p : ℕ} {w : List ℕ} → Word S w → Of types S Parameter (leaf p 0x33 (name w ∷ []))
  unfolding allowed form_of form_in forms may_end part_may_end
  parameter_of w = whole_of Parameter (three (UpTo 1 Constant) Over Over) refl (omega arith) (one_name (word_in 0x33 refl refl w)) refl (has_none_lem types) refl

  -- 33 with a default
  pub parameter_with_default_of : {p : ℕ} {w : List ℕ} {c : Node} → Word S w → Of types S Constant c → Of types S Parameter (node p 0x33 (name w ∷ []) (empty ▸ c))
  unfolding allowed form_of form_in forms may_end part_may_end follow take
  parameter_with_default_of {c = c} w o =
      let first : Has types S (three (UpTo 1 Constant) Over Over) (empty ▸ c) (three (UpTo 0 Constant) Over Over) = has_next types c (three (UpTo 0 Constant) Over Over) (has_none_lem types) o.form (rw o.right) in
      whole_of Parameter (three (UpTo 1 Constant) Over Over) refl (omega arith) (one_name (word_in 0x33 refl refl w)) refl first refl

  -- 35
  pub parent_of : {p : ℕ} {w : List ℕ} → Word S w → Of types S Parent (leaf p 0x35 (name w ∷ []))
  unfolding allowed form_of form_in forms
  parent_of w = leaf_of Parent refl (omega arith) (one_name (word_in 0x35 refl refl w)) refl

  -- parameters leave what follows them as it is
  behind_more : {ps : Parts} {ks js : Nodes} → Behind types S ps ks → More types S Parameter ks js → Behind types S ps js
  unfolding follow take allowed
  behind_more b enough = b
  behind_more b (further {k = k} o m) =
      let tag = eqb-true (tag_in k) 0x33 o.right in
      behind_more (record { first = Over; has = has_next types k (three Over (Many Parameter) (One Block)) b.has o.form (rw (tag, b.parameter)); parameter = refl; block = refl }) m

  -- the block is the last part
  behind_block : {ps : Parts} {ks : Nodes} {k : Node} → Behind types S ps ks → Of types S Block k → Has types S ps (ks ▸ k) (three Over Over Over)
  unfolding follow take allowed
  behind_block {k = k} b o = has_next types k (three Over Over Over) b.has o.form (rw (eqb-true (tag_in k) 0x20 o.right, b.block))

  -- 34 without a parent
  pub class_definition_of : {p : ℕ} {w : List ℕ} {b : Node} {js : Nodes} → Word S w → More types S Parameter empty js → Of types S Block b → Of types S Item (node p 0x34 (name w ∷ []) (js ▸ b))
  unfolding allowed form_of form_in forms may_end part_may_end take
  class_definition_of w m b =
      let begun : Behind types S (three (UpTo 1 Parent) (Many Parameter) (One Block)) empty = record { first = UpTo 1 Parent; has = has_none_lem types; parameter = refl; block = refl } in
      whole_of Item (three (UpTo 1 Parent) (Many Parameter) (One Block)) refl (omega arith) (one_name (word_in 0x34 refl refl w)) refl (behind_block (behind_more begun m) b) refl

  -- a field in front of others is as listed with them
  formed_front : {k : Node} {js : Nodes} → Formed types S k → AllFormed types S js → AllFormed types S (in_front k js)
  unfolding in_front
  formed_front f none_formed = also_formed none_formed f
  formed_front f (also_formed all g) = also_formed (formed_front f all) g

  -- 34 with a parent
  pub class_with_parent_of : {p : ℕ} {w : List ℕ} {a b : Node} {js : Nodes} → Word S w → More types S Parameter empty js → Of types S Parent a → Of types S Block b → Of types S Item (node p 0x34 (name w ∷ []) (in_front a js ▸ b))
  unfolding allowed form_of form_in forms may_end part_may_end take follow in_front
  class_with_parent_of {a = a} {b = b} {js = js} w m o y =
      let next : Parts = three (UpTo 0 Parent) (Many Parameter) (One Block) in
      let begun : Behind types S next empty = record { first = UpTo 0 Parent; has = has_none_lem types; parameter = refl; block = refl } in
      let has = behind_block (behind_more begun m) y in
      let front : Has types S (three (UpTo 1 Parent) (Many Parameter) (One Block)) (in_front a (js ▸ b)) (three Over Over Over) =
      record { leads = reached_front (three (UpTo 1 Parent) (Many Parameter) (One Block)) next a (rw o.right) (js ▸ b) ∙ has.leads; all = formed_front o.form has.all } in
      whole_of Item (three (UpTo 1 Parent) (Many Parameter) (One Block)) refl (omega arith) (one_name (word_in 0x34 refl refl w)) refl front refl
