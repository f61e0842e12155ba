-- How far a step fills the output: by 15 bytes at most. The empty block that stands for an `else` left out is counted where its `if` is read. Assumes
-- nothing.
use mathlib.Core.Path.{◌≡◌, refl, ap, ◌∙◌, subst}
use mathlib.Core.Bool.{Bool, true, false, ◌&&◌}
use mathlib.Core.List.{List, [], ◌∷◌, ◌++◌}
use mathlib.Core.Option.{Option, none, some}
use native.Mathlib.Omega.{arith}
use lib.Dec.{leb, ltb, eqb}
use lib.ListN.{length, length-append}
use borrow.Author.Tests.{leb-true}
use Prim.Native.Nat.{ℕ, zero, suc, ◌+◌, ◌*◌, ◌≤◌}
use Rattle.wire.specs.Numbers.{high_bytes}
use Rattle.rules.specs.Bytes.{pick}
use Rattle.rules.specs.Fields.{none as fields_end, wrap, write, write_all}
use Rattle.rules.specs.Types.{Types}
use Rattle.notation.specs.Tokens.{word, number, text, variable, top_variable, class_variable, mark, Lexeme, lexeme, kind, token_of, place_of, question, left_brace, right_brace}
use Rattle.notation.specs.Building.{Piece, byte, name, Node, node, Nodes, empty, ◌▸◌, height, leaf, spelled, resource_tag, constant_node, variable_node, behind_label, in_front, Frame, frame, Build, build, Action, begin, begin_resource, around, instead, close, constant, read, named, parent_first, void, enter, leave, added, added_first, begun, act, acts}
use Rattle.notation.specs.Grammar.{Entry, arm, attribute, parameter, Symbol, sign, a_name, expression, operators, read_or_word, close_bracket, one, maybe, further, statements, block, otherwise, branches, items, class_rest, parameters, default_value, a_constant, inherits, parent, devices, device, more_devices, ends, Row, row, operator_byte, operator_row, operator_in, binds, row_of, left_out, manifest, to, step}
use Rattle.notation.specs.Convert.{piece_bytes, head_bytes, numbered, numbered_onto}
use Rattle.notation.proofs.NeedsKept.{none_not_some, same_result}
use Rattle.notation.proofs.TableRows.{all_pass, found_passes, rows_of}
use Rattle.parse_table.specs.Stack.{stack_of}
use Rattle.parse_table.proofs.Answers.{stack_length}
use Rattle.parse_table.proofs.Bound.{Kept, step_through, stack_bound}
use Rattle.tree_builder.specs.declared.Building.{Building}
use Rattle.tree_builder.specs.Open.{opening, parts_bytes, around_bytes, head_end, open_bytes}
use Rattle.tree_builder.specs.Shows.{Shows}
use Rattle.tree_builder.proofs.Bytes.{parts_more, open_more, inner_open}

-- ---- What actions add at most

abbrev cost : Action → ℕ
cost (begin t) = 3
cost begin_resource = 3
cost (around t h) = 3 + 2 * length h
cost (instead t) = 0
cost close = 0
cost constant = 12
cost read = 7
cost named = 2
cost parent_first = 5
cost (void t) = 3
cost enter = 0
cost leave = 0

abbrev costs : List Action → ℕ
costs [] = 0
costs (a ∷ ds) = cost a + costs ds

-- what the symbols of a stack add at most where they are left out
abbrev owed : Option (List Action) → ℕ
owed none = 0
owed (some ds) = costs ds

abbrev pub debt : List Symbol → ℕ
debt [] = 0
debt (s ∷ k) = owed (left_out s) + debt k

debt_append : (ss k : List Symbol) → debt (ss ++ k) ≡ debt ss + debt k
debt_append [] k = omega arith
debt_append (s ∷ ss) k = omega (arith, debt_append ss k)

-- before the first token there is none
pub debt_first : debt manifest ≡ 0
unfolding left_out
debt_first = refl

-- ---- The bytes of a tree in the making

module _ (types : Types) (table : List (List ℕ)) where
  abbrev pub size : Build → ℕ
  size (build b (frame p t h ks) fs) = length (open_bytes table t h ks fs)

  abbrev head_size : List Piece → ℕ
  head_size h = length (head_bytes table h)

  abbrev parts_size : Nodes → ℕ
  parts_size ks = length (parts_bytes table ks)

  abbrev node_size : Node → ℕ
  node_size k = length (write (numbered table k))

  node_size_lem : (p t : ℕ) (h : List Piece) (ks : Nodes) → node_size (node p t h ks) ≡ 3 + head_size h + parts_size ks
  unfolding write wrap numbered parts_bytes
  node_size_lem p t h ks = omega (arith, length-append (head_bytes table h) (write_all (numbered_onto table ks fields_end)))

  no_parts_lem : parts_size empty ≡ 0
  unfolding write numbered parts_bytes
  no_parts_lem = refl

  no_head : head_size [] ≡ 0
  unfolding head_bytes
  no_head = refl

  more_parts : (ks : Nodes) (k : Node) → parts_size (ks ▸ k) ≡ parts_size ks + node_size k
  more_parts ks k = ap length (parts_more table ks k) ∙ length-append (parts_bytes table ks) (write (numbered table k))

  front_parts : (k : Node) (ks : Nodes) → parts_size (in_front k ks) ≡ parts_size ks + node_size k
  unfolding in_front
  front_parts k empty = more_parts empty k
  front_parts k (ks ▸ j) = omega (arith, more_parts (in_front k ks) j, more_parts ks j, front_parts k ks)

  -- a piece of a head has at most two bytes, a name has two
  head_most : (h : List Piece) → head_size h ≤ 2 * length h
  unfolding head_bytes piece_bytes high_bytes
  head_most [] = omega arith
  head_most (byte b ∷ h) = omega (arith, head_most h)
  head_most (name w ∷ h) = omega (arith, head_most h)

  name_behind : (g : List Piece) (w : List ℕ) → head_size (g ++ (name w ∷ [])) ≡ head_size g + 2
  unfolding head_bytes piece_bytes high_bytes
  name_behind [] w = refl
  name_behind (byte b ∷ g) w = omega (arith, name_behind g w)
  name_behind (name v ∷ g) w = omega (arith, name_behind g w)

  label_off : (h : List Piece) → head_size (behind_label h) ≤ head_size h
  unfolding head_bytes
  label_off [] = omega arith
  label_off (b ∷ h) = omega (arith, length-append (piece_bytes table b) (head_bytes table h))

  -- the field being read, and a field in another
  open_size : (t : ℕ) (h : List Piece) (ks : Nodes) (fs : List Frame) → length (open_bytes table t h ks fs) ≡ length (around_bytes table fs ++ opening t fs) + head_size h + parts_size ks
  unfolding open_bytes head_end
  open_size t h ks fs =
      let before : List ℕ = around_bytes table fs ++ opening t fs in
      omega (arith, length-append (before ++ head_bytes table h) (parts_bytes table ks), length-append before (head_bytes table h))

  inner_size : (t : ℕ) (h : List Piece) (ks : Nodes) (p u : ℕ) (g : List Piece) (js : Nodes) (fs : List Frame) → length (open_bytes table t h ks (frame p u g js ∷ fs)) ≡ length (open_bytes table u g js fs) + 3 + head_size h + parts_size ks
  inner_size t h ks p u g js fs =
      let inside : List ℕ = head_bytes table h ++ parts_bytes table ks in
      omega (arith, ap length (inner_open table t h p u g js fs ks), length-append (open_bytes table u g js fs) (t ∷ 0 ∷ 0 ∷ inside), length-append (head_bytes table h) (parts_bytes table ks))

  more_size : (t : ℕ) (h : List Piece) (ks : Nodes) (k : Node) (fs : List Frame) → length (open_bytes table t h (ks ▸ k) fs) ≡ length (open_bytes table t h ks fs) + node_size k
  more_size t h ks k fs = ap length (open_more table t h ks k fs) ∙ length-append (open_bytes table t h ks fs) (write (numbered table k))

  -- ---- Actions

  -- fields of one token
  constant_size : (x : Lexeme) → node_size (constant_node x) ≤ 12
  unfolding constant_node write wrap numbered head_bytes piece_bytes high_bytes
  constant_size (lexeme p l (word w)) = omega arith
  constant_size (lexeme p l (number z)) = omega arith
  constant_size (lexeme p l (text s)) = omega arith
  constant_size (lexeme p l (variable n)) = omega arith
  constant_size (lexeme p l (top_variable n)) = omega arith
  constant_size (lexeme p l (class_variable c n)) = omega arith
  constant_size (lexeme p l (mark k)) = omega arith

  variable_size : (x : Lexeme) → node_size (variable_node x) ≤ 7
  unfolding variable_node write wrap numbered head_bytes piece_bytes high_bytes
  variable_size (lexeme p l (word w)) = omega arith
  variable_size (lexeme p l (number z)) = omega arith
  variable_size (lexeme p l (text s)) = omega arith
  variable_size (lexeme p l (variable n)) = omega arith
  variable_size (lexeme p l (top_variable n)) = omega arith
  variable_size (lexeme p l (class_variable c n)) = omega arith
  variable_size (lexeme p l (mark k)) = omega arith

  named_leaf : (p t : ℕ) (w : List ℕ) → node_size (leaf p t (name w ∷ [])) ≡ 5
  unfolding write wrap numbered head_bytes piece_bytes high_bytes
  named_leaf p t w = refl

  empty_leaf : (p t : ℕ) → node_size (leaf p t []) ≡ 3
  unfolding write wrap numbered head_bytes
  empty_leaf p t = refl

  -- what comes is as small as what was to come
  plainly : (f g : Build) (n : ℕ) → size f ≤ n → ◌≡◌ {A = Option Build} (some f) (some g) → size g ≤ n
  plainly f g n l e = subst (λ (i : Build). size i ≤ n) (same_result f g e) l

  tested : (b : Bool) (f g : Build) (n : ℕ) → size f ≤ n → ◌≡◌ {A = Option Build} (pick b (some f) none) (some g) → size g ≤ n
  tested true f g n l e = plainly f g n l e
  tested false f g n l e = none_not_some e

  adds : (k : Node) (f g : Build) (n : ℕ) → node_size k ≤ n → added k f ≡ some g → size g ≤ size f + n
  unfolding added
  adds k (build b (frame p t h ks) fs) g n l e = tested (leb (length fs + 1) 32) _ g _ (omega (arith, more_size t h ks k fs)) e

  begins : (p t : ℕ) (f g : Build) → begun p t f ≡ some g → size g ≤ size f + 3
  unfolding begun
  begins p t (build b (frame q u h ks) fs) g e = tested (leb (length fs + 1) 32) _ g _ (omega (arith, inner_size t [] empty q u h ks fs, no_head, no_parts_lem)) e

  module _ (x : Lexeme) where
    act_size : (a : Action) (f g : Build) → act types a x f ≡ some g → size g ≤ size f + cost a
    unfolding act added_first
    act_size (begin t) f g e = begins (place_of x) t f g e
    act_size begin_resource f g e = begins (place_of x) (resource_tag types (spelled (token_of x))) f g e
    act_size (around t h) (build b (frame q u i empty) fs) g e = none_not_some e
    act_size (around t h) (build b (frame q u i (ks ▸ k)) fs) g e =
        tested (leb (suc (length fs) + height k) 32) _ g _ (omega (arith, inner_size t h (empty ▸ k) q u i ks fs, more_parts empty k, no_parts_lem, head_most h, more_size u i ks k fs)) e
    act_size (instead t) (build b (frame q u i empty) fs) g e = none_not_some e
    act_size (instead t) (build b (frame q u i (ks ▸ node p v h js)) fs) g e =
        plainly _ g _ (omega (arith, inner_size t (behind_label h) empty q u i ks fs, no_parts_lem, label_off h, more_size u i ks (node p v h js) fs, node_size_lem p v h js)) e
    act_size close (build b (frame q u i ks) []) g e = none_not_some e
    act_size close (build b (frame p t h ks) (frame q u i js ∷ fs)) g e =
        plainly _ g _ (omega (arith, inner_size t h ks q u i js fs, more_size u i js (node p t h ks) fs, node_size_lem p t h ks)) e
    act_size constant f g e = adds (constant_node x) f g 12 (constant_size x) e
    act_size read f g e = adds (variable_node x) f g 7 (variable_size x) e
    act_size named (build b (frame q u i ks) fs) g e =
        let w : List ℕ = spelled (token_of x) in
        plainly _ g _ (omega (arith, open_size u (i ++ (name w ∷ [])) ks fs, open_size u i ks fs, name_behind i w)) e
    act_size parent_first (build b (frame q u i ks) fs) g e =
        let k : Node = leaf (place_of x) 0x35 (name (spelled (token_of x)) ∷ []) in
        tested (leb (length fs + 1) 32) _ g _ (omega (arith, open_size u i (in_front k ks) fs, open_size u i ks fs, front_parts k ks, named_leaf (place_of x) 0x35 (spelled (token_of x)))) e
    act_size (void t) f g e = adds (leaf (place_of x) t []) f g 3 (omega (arith, empty_leaf (place_of x) t)) e
    act_size enter (build b (frame q u i ks) fs) g e = tested (ltb b 32) _ g _ (omega arith) e
    act_size leave (build zero f fs) g e = none_not_some e
    act_size leave (build (suc b) (frame q u i ks) fs) g e = plainly _ g _ (omega arith) e

    acts_size : (ds : List Action) (f g : Build) → acts types ds x f ≡ some g → size g ≤ size f + costs ds
    unfolding acts
    acts_size [] f g e = plainly f g _ (omega arith) e
    acts_size (a ∷ ds) f g e = go (act types a x f) refl (λ h i. acts_size ds h g i) e
      where
        go : (o : Option Build) → act types a x f ≡ o → ((h : Build) → acts types ds x h ≡ some g → size g ≤ size h + costs ds) → ◌≡◌ {A = Option Build} (elim o as (λ q. Option Build) [ none ↦ none | some h ↦ acts types ds x h ]) (some g) → size g ≤ size f + costs (a ∷ ds)
        go none h others e = none_not_some e
        go (some i) h others e = omega (arith, act_size a f i h, others i e)

-- ---- Every row, by computing

abbrev small : Row → Bool
small (row ds ss) = leb (costs ds + debt ss) 15

operators_small : (l m q : ℕ) (o : Option ℕ) (r : Row) → operator_in l m q o ≡ some r → small r ≡ true
unfolding left_out
operators_small l m q none r h = none_not_some h
operators_small l m q (some n) r h = go (leb l n && leb n m) h
  where
    either : (b : Bool) → small (pick b (row (around 0x19 [] ∷ []) (sign left_brace ∷ one arm ∷ sign right_brace ∷ ends ∷ operators l n ∷ [])) (row (around 0x16 (byte (operator_byte q) ∷ []) ∷ []) (expression (suc n) ∷ ends ∷ operators l n ∷ []))) ≡ true
    either true = refl
    either false = refl

    go : (b : Bool) → ◌≡◌ {A = Option Row} (pick b (some (operator_row l q n)) none) (some r) → small r ≡ true
    go true i = subst (λ (r : Row). small r ≡ true) (same_result (operator_row l q n) r i) (either (eqb q question))
    go false i = none_not_some i

entry_small : (e : Entry) → (all_pass small (rows_of (one e)) ≡ true) × (all_pass small (rows_of (maybe e)) ≡ true)
unfolding left_out
entry_small arm = (refl, refl)
entry_small attribute = (refl, refl)
entry_small parameter = (refl, refl)

row_small : (s : Symbol) (q : ℕ) (r : Row) → row_of s q ≡ some r → small r ≡ true
unfolding row_of left_out
row_small (sign k) q r h = found_passes small (rows_of (sign k)) q r refl h
row_small a_name q r h = found_passes small (rows_of a_name) q r refl h
row_small (expression l) q r h = found_passes small (rows_of (expression l)) q r refl h
row_small (operators l m) q r h = operators_small l m q (binds q) r h
row_small read_or_word q r h = found_passes small (rows_of read_or_word) q r refl h
row_small close_bracket q r h = found_passes small (rows_of close_bracket) q r refl h
row_small (one e) q r h = found_passes small (rows_of (one e)) q r (entry_small e).0 h
row_small (maybe e) q r h = found_passes small (rows_of (maybe e)) q r (entry_small e).1 h
row_small (further e) q r h = found_passes small (rows_of (further e)) q r refl h
row_small statements q r h = found_passes small (rows_of statements) q r refl h
row_small block q r h = found_passes small (rows_of block) q r refl h
row_small otherwise q r h = found_passes small (rows_of otherwise) q r refl h
row_small branches q r h = found_passes small (rows_of branches) q r refl h
row_small items q r h = found_passes small (rows_of items) q r refl h
row_small class_rest q r h = found_passes small (rows_of class_rest) q r refl h
row_small parameters q r h = found_passes small (rows_of parameters) q r refl h
row_small default_value q r h = found_passes small (rows_of default_value) q r refl h
row_small a_constant q r h = found_passes small (rows_of a_constant) q r refl h
row_small inherits q r h = found_passes small (rows_of inherits) q r refl h
row_small parent q r h = found_passes small (rows_of parent) q r refl h
row_small devices q r h = found_passes small (rows_of devices) q r refl h
row_small device q r h = found_passes small (rows_of device) q r refl h
row_small more_devices q r h = found_passes small (rows_of more_devices) q r refl h
row_small ends q r h = none_not_some h

-- ---- A step

module _ (types : Types) (table : List (List ℕ)) where
  -- no more than so many bytes, with those that are owed
  abbrev UpTo : ℕ → List Symbol → Build → Type 0
  UpTo n k f = size types table f + debt k ≤ n

  module _ (n : ℕ) (x : Lexeme) (s : Symbol) (k : List Symbol) (f g : Build) (ds : List Action) where
    out_up_to : left_out s ≡ some ds → acts types ds x f ≡ some g → UpTo n (s ∷ k) f → UpTo n k g
    out_up_to l i h = omega (arith, h, ap owed l, acts_size types table x ds f g i)

    row_up_to : (ss : List Symbol) → row_of s (kind (token_of x)) ≡ some (row ds ss) → acts types ds x f ≡ some g → UpTo n (s ∷ k) f → UpTo (n + 15) (ss ++ k) g
    row_up_to ss r i h = omega (arith, h, debt_append ss k, leb-true (costs ds + debt ss) 15 (row_small s (kind (token_of x)) (row ds ss) r), acts_size types table x ds f g i)

  pub step_size : (k : List Symbol) (x : Lexeme) (f : Build) (k' : List Symbol) (g : Build) → step types k x f ≡ to k' g → size types table g + debt k' ≤ size types table f + debt k + 15
  step_size k x f k' g e =
      let n : ℕ = size types table f + debt k in
      step_through types (UpTo n) (UpTo (n + 15)) x (λ s k f g ds l i h. out_up_to n x s k f g ds l i h) (λ s k f g ds ss r i h. row_up_to n x s k f g ds ss r i h) k f k' g e (omega arith)

  -- a state that shows a tree is filled so far
  pub filled_so : (s : Building) (m out : List ℕ) (f : Build) → Shows table s m out f → s.fill ≡ size types table f
  unfolding Shows
  filled_so s m out (build b (frame p t h ks) fs) w = w.fill

  -- so a step fills by 15 bytes at most
  pub step_fill : (s s' : Building) (m out m' out' : List ℕ) (k : List Symbol) (x : Lexeme) (f : Build) (k' : List Symbol) (g : Build) → Shows table s m out f → Shows table s' m' out' g → step types k x f ≡ to k' g → s'.fill + debt k' ≤ s.fill + debt k + 15
  step_fill s s' m out m' out' k x f k' g w w' e = omega (arith, filled_so s m out f w, filled_so s' m' out' g w', step_size k x f k' g e)

-- with a token for each byte of a text and more, there is room for every action of a step
pub step_room : (s : Building) (st : List ℕ) (top : ℕ) (f : Build) (at : ℕ) → Kept (stack_of st top) f → s.fill + debt (stack_of st top) ≤ 15 * at → at ≤ 65535 → s.fill + 12 * top ≤ 1000000
step_room s st top f at kept low short = omega (arith, stack_bound (stack_of st top) f kept, stack_length st top)
