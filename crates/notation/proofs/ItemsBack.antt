-- Printed items are read back, and so is a whole manifest: the round trip on tokens.
use Prim.Native.Nat.{ℕ, suc, ◌+◌, ◌≤◌}
use mathlib.Core.Path.{◌≡◌, refl, ap, ◌∙◌, subst}
use mathlib.Core.List.{List, [], ◌∷◌}
use mathlib.Core.Option.{Option, none, some}
use mathlib.Core.Bool.{Bool, true, false}
use native.Mathlib.Omega.{arith}
use lib.Dec.{eqb}
use lib.ListN.{length}
use borrow.Author.Tests.{eqb-true, le-leb}
use Rattle.rules.specs.Bytes.{pick}
use Rattle.values.specs.declared.Value.{Value}
use Rattle.values.specs.declared.Value.TheVariants.{Integer, String, Boolean}
use Rattle.rules.specs.Tree.{Constant, Parameter, Parent, type_definition, class_definition, ClassDefinition, Devices, named, by_default, Item, statement, definition}
use Rattle.rules.specs.Tree
use Rattle.rules.specs.Types.{Types}
use Rattle.notation.specs.Tokens.{Token, Lexeme, kind, token_of, end_of_text, left_brace, right_round, equals, inherits_word, node_word, define_word, class_word}
use Rattle.notation.specs.Building.{Piece, name, Node, Nodes, empty, ◌▸◌, height, tallest, in_front, Frame, frame, Build, build, Action, acts, act, added_first, leaf, spelled}
use Rattle.notation.specs.Grammar.{Symbol, block, ends, row, maybe, further, Entry, items, parameters, default_value, a_constant, inherits, parent, devices, device, more_devices, row_of, left_out, binds, run, built, manifest, reading}
use Rattle.notation.specs.Print.{the, at, Rest, line_for, constants_of_item, value_token, printed_entries, printed_default, printed_parameter, printed_parameters, printed_parent, printed_device, printed_devices, printed_item, printed_items}
use Rattle.notation.proofs.Machine.{state, ◌⇒◌, ◌▹◌, take, leave, swap}
use Rattle.notation.proofs.Steps.{Calm, Below, height_positive, acts_first, take_begin, take_adding, ends_here}
use Rattle.notation.proofs.Expected.{last_line_entries, last_line_default, last_line_parameter, last_line_item, bare_node, constant_node_of, nodes_onto, default_onto, parameter_node, parent_onto, device_node, devices_onto, item_node, items_onto}
use Rattle.notation.proofs.ExpressionsBack.{constant_added}
use Rattle.notation.proofs.EntriesBack.{EachOf, Always, always, nodes_taller, EntryBack, entries_back}
use Rattle.notation.proofs.StatementsBack.{Behind, at_top, WholeStatement, WholeBlock, with_statement, every_statement, every_block, braces_back}

-- "one or more 31"
abbrev pub SomeDevice : Devices → Type 0
SomeDevice (named []) = ⊥
SomeDevice (named (n ∷ ns)) = Unit {0}
SomeDevice by_default = Unit {0}

-- ---- Parents come first

in_front_lem : {A : Type 0} (f : A → Node) (k : Node) (xs : List A) (ks : Nodes) → in_front k (nodes_onto f xs ks) ≡ nodes_onto f xs (in_front k ks)
unfolding nodes_onto in_front
in_front_lem f k [] ks = refl
in_front_lem f k (x ∷ xs) ks = in_front_lem f k xs (ks ▸ f x)

added_first_fits : (n : Node) (b q t : ℕ) (h : List Piece) (ks : Nodes) (fs : List Frame) → length fs + 1 ≤ 32 → added_first n (build b (frame q t h ks) fs) ≡ some (build b (frame q t h (in_front n ks)) fs)
unfolding added_first
added_first_fits n b q t h ks fs d = rw (added_first, le-leb (length fs + 1) 32 d)

module _ (types : Types) (S : ℕ → List ℕ) where
  abbrev pub WholeItem : Item → Type 0
  WholeItem (statement s) = WholeStatement types S s
  WholeItem (Item.node ds b) = SomeDevice ds × WholeBlock types S b
  WholeItem (definition (type_definition d)) = WholeBlock types S d.body
  WholeItem (definition (class_definition d)) = WholeBlock types S d.body

  -- ---- Parameters

  -- where no operator follows, no default does
  no_default : (x : Lexeme) → Calm 1 x → row_of default_value (kind (token_of x)) ≡ none
  unfolding row_of binds
  no_default x calm = go (eqb (kind (token_of x)) equals) refl
    where
      level : (m : ℕ) → m ≡ equals → Below 1 (binds m) → ⊥
      level m e c = let z : Below 1 (binds equals) = rw e at c in omega arith

      go : (b : Bool) → eqb (kind (token_of x)) equals ≡ b → pick b (some (row [] (a_constant ∷ []))) none ≡ none
      go true e = absurd (level (kind (token_of x)) (eqb-true (kind (token_of x)) equals e) calm)
      go false e = refl

  constant_row : (v : Value) → row_of a_constant (kind (value_token S v)) ≡ some (row (Action.constant ∷ []) [])
  unfolding row_of value_token
  constant_row (Integer z) = refl
  constant_row (String n) = refl
  constant_row (Boolean true) = refl
  constant_row (Boolean false) = refl

  -- behind the name of a parameter: its default, or nothing
  default_back : (c : Option Constant) (v : ℕ) (x : ℕ → Lexeme) (xs : Rest) {k : List Symbol} {q t : ℕ} {h g : List Piece} {ks : Nodes} {fs : List Frame} → ((u : ℕ) → Calm 1 (x u)) → length fs + suc (tallest (default_onto S c empty)) ≤ 32 →
      state types (printed_default S c v (λ u. x u ∷ xs u)) (default_value ∷ ends ∷ k) (build 0 (frame 0 0x33 g empty) (frame q t h ks ∷ fs))
      ⇒ (state types) (x (last_line_default c v) ∷ xs (last_line_default c v)) k (build 0 (frame q t h (ks ▸ bare_node 0x33 g (default_onto S c empty))) fs)
  unfolding last_line_default default_onto height row_of left_out acts
  default_back none v x xs calm d = leave types (no_default (x v) (calm v)) refl refl ▹ (ends_here types)
  default_back (some c) v x xs calm d = take types refl refl ▹ (take_adding types) (constant_node_of S c) (constant_row c.value) (constant_added types S c _) (omega (arith, height_positive (constant_node_of S c))) ▹ (ends_here types)

  parameter_back : EntryBack types (printed_parameter S) last_line_parameter (parameter_node S) (maybe Entry.parameter) (further Entry.parameter) Always
  unfolding last_line_parameter parameter_node height row_of acts act spelled
  parameter_back = record { entry_back = λ a w v x xs calm d. take_begin types refl (omega arith) refl ▹ default_back a.default _ x xs calm d }

  -- parameters in brackets, or none, and the token that follows them
  parameters_back : (ps : List Parameter) (v : ℕ) (x : ℕ → Lexeme) (xs : Rest) {k : List Symbol} {q t : ℕ} {h : List Piece} {fs : List Frame} → ((u : ℕ) → row_of parameters (kind (token_of (x u))) ≡ none) → length fs + tallest (nodes_onto (parameter_node S) ps empty) ≤ 32 →
      state types (printed_parameters S ps v (λ u. x u ∷ xs u)) (parameters ∷ k) (build 0 (frame q t h empty) fs)
      ⇒ (state types) (x (last_line_entries last_line_parameter ps v) ∷ xs (last_line_entries last_line_parameter ps v)) k (build 0 (frame q t h (nodes_onto (parameter_node S) ps empty)) fs)
  unfolding last_line_entries nodes_onto row_of left_out acts binds
  parameters_back [] v x xs stop d = leave types (stop v) refl refl
  parameters_back (p ∷ ps) v x xs stop d =
      take types refl refl ▹ (entries_back types) _ _ _ _ _ _ parameter_back refl refl p ps tt (always ps) v (λ u. the u right_round) (λ u. x u ∷ xs u) (λ u. tt) (λ u. refl) d ▹ (take types) refl refl

  -- ---- Parents

  parent_back : (p : Option Parent) (ps : List Parameter) (v : ℕ) (xs : Rest) {k : List Symbol} {q t : ℕ} {h : List Piece} {fs : List Frame} → length fs + 1 ≤ 32 →
      state types (printed_parent S p v (λ u. the u left_brace ∷ xs u)) (inherits ∷ k) (build 0 (frame q t h (nodes_onto (parameter_node S) ps empty)) fs)
      ⇒ (state types) (the v left_brace ∷ xs v) k (build 0 (frame q t h (nodes_onto (parameter_node S) ps (parent_onto S p empty))) fs)
  unfolding parent_onto row_of left_out acts act spelled in_front
  parent_back none ps v xs d = leave types refl refl refl
  parent_back (some p) ps v xs {q = q} {t = t} {h = h} {fs = fs} d =
      let node_first : Node = leaf 0 0x35 (name (S p.name) ∷ []) in
      take types refl refl
      ▹ (take types) refl (acts_first types Action.parent_first [] (at v (Token.word (S p.name))) (build 0 (frame q t h (nodes_onto (parameter_node S) ps empty)) fs) _ (added_first_fits node_first 0 q t h (nodes_onto (parameter_node S) ps empty) fs d ∙ ap (λ (js : Nodes). some (build 0 (frame q t h js) fs)) (in_front_lem (parameter_node S) node_first ps empty)))

  -- ---- Devices

  device_back : EntryBack types (printed_device S) (λ n v. v) (device_node S) device more_devices Always
  unfolding device_node height row_of acts act spelled
  device_back = record { entry_back = λ n w v x xs calm d. take_begin types refl (omega arith) refl }

  same_line : (ns : List ℕ) (v : ℕ) → last_line_entries (λ (n u : ℕ). u) ns v ≡ v
  unfolding last_line_entries
  same_line [] v = refl
  same_line (n ∷ ns) v = same_line ns v

  -- the first device, read at the symbol for all of them
  first_device : (n : ℕ) (ns : List ℕ) (v : ℕ) (xs : Rest) {k : List Symbol} {f : Build} → state types (printed_entries (printed_device S) (n ∷ ns) false v xs) (devices ∷ k) f ⇒ (state types) (printed_entries (printed_device S) (n ∷ ns) false v xs) (device ∷ k) f
  unfolding printed_entries row_of
  first_device n ns v xs = swap types refl refl

  -- devices and the brace behind them
  devices_back : (ds : Devices) → SomeDevice ds → (v : ℕ) (xs : Rest) {k : List Symbol} {q t : ℕ} {h : List Piece} {fs : List Frame} → length fs + tallest (devices_onto S ds empty) ≤ 32 →
      state types (printed_devices S ds v (λ u. the u left_brace ∷ xs u)) (devices ∷ k) (build 0 (frame q t h empty) fs) ⇒ (state types) (the v left_brace ∷ xs v) k (build 0 (frame q t h (devices_onto S ds empty)) fs)
  unfolding devices_onto height row_of left_out acts act binds
  devices_back (named []) w v xs d = absurd w
  devices_back (named (n ∷ ns)) w v xs {k} {q} {t} {h} {fs} d =
      first_device n ns v (λ u. the u left_brace ∷ xs u)
      ▹ subst (λ (u : ℕ). state types (printed_entries (printed_device S) (n ∷ ns) false v (λ u. the u left_brace ∷ xs u)) (device ∷ k) (build 0 (frame q t h empty) fs) ⇒ (state types) (the u left_brace ∷ xs u) k (build 0 (frame q t h (nodes_onto (device_node S) (n ∷ ns) empty)) fs)) (same_line (n ∷ ns) v)
      (entries_back types _ _ _ _ _ _ device_back refl refl n ns tt (always ns) v (λ u. the u left_brace) xs (λ u. tt) (λ u. refl) d)
  devices_back by_default w v xs {q = q} {t = t} {h = h} {fs = fs} d = take_adding types _ refl refl (omega arith)

  -- ---- Items

  -- behind the parameters of a class comes inherits, or the brace
  with_parent : (p : Option Parent) (P : Rest → Type 0) (xs : Rest) → ((y : ℕ → Lexeme) (ys : Rest) → ((u : ℕ) → row_of parameters (kind (token_of (y u))) ≡ none) → P (λ u. y u ∷ ys u)) → P (λ u. printed_parent S p u (λ w. the w left_brace ∷ xs w))
  unfolding row_of
  with_parent none P xs f = f (λ u. the u left_brace) xs (λ u. refl)
  with_parent (some p) P xs f = f (λ u. the u inherits_word) _ (λ u. refl)

  -- the tree without the parent is no taller
  nodes_grow : {A : Type 0} (f : A → Node) (xs : List A) (js ks : Nodes) → tallest js ≤ tallest ks → tallest (nodes_onto f xs js) ≤ tallest (nodes_onto f xs ks)
  unfolding nodes_onto height
  nodes_grow f [] js ks e = e
  nodes_grow f (x ∷ xs) js ks e = nodes_grow f xs (js ▸ f x) (ks ▸ f x) (omega arith)

  without_parent : (ps : List Parameter) (p : Option Parent) → tallest (nodes_onto (parameter_node S) ps empty) ≤ tallest (nodes_onto (parameter_node S) ps (parent_onto S p empty))
  unfolding height
  without_parent ps p = nodes_grow (parameter_node S) ps empty (parent_onto S p empty) (omega arith)

  class_back : (c : ClassDefinition) → WholeBlock types S c.body → (v : ℕ) (x : ℕ → Lexeme) (xs : Rest) {k : List Symbol} {q t : ℕ} {h : List Piece} {ks : Nodes} {fs : List Frame} → ((u : ℕ) → Behind (x u)) → length fs + height (item_node S (definition (class_definition c))) ≤ 32 →
      state types (printed_item S (definition (class_definition c)) v (λ u. x u ∷ xs u)) (items ∷ k) (build 0 (frame q t h ks) fs)
      ⇒ (state types) (x (last_line_item (definition (class_definition c)) v) ∷ xs (last_line_item (definition (class_definition c)) v)) (items ∷ k) (build 0 (frame q t h (ks ▸ item_node S (definition (class_definition c)))) fs)
  unfolding printed_item item_node last_line_item height row_of acts act spelled
  class_back c w v x xs {k} {q} {t} {h} {ks} {fs} behind d =
      let taller = nodes_taller (parameter_node S) c.parameters (parent_onto S c.parent empty) in
      take types refl refl ▹ (take_begin types) refl (omega arith) refl
      ▹ with_parent c.parent (λ rest. state types (printed_parameters S c.parameters v rest) (parameters ∷ inherits ∷ block ∷ ends ∷ items ∷ k) (build 0 (frame 0 0x34 (name (S c.name) ∷ []) empty) (frame q t h ks ∷ fs))
      ⇒ (state types) (rest (last_line_entries last_line_parameter c.parameters v)) (inherits ∷ block ∷ ends ∷ items ∷ k) (build 0 (frame 0 0x34 (name (S c.name) ∷ []) (nodes_onto (parameter_node S) c.parameters empty)) (frame q t h ks ∷ fs))) _
      (λ y ys stop. parameters_back c.parameters v y ys stop (omega (arith, without_parent c.parameters c.parent)))
      ▹ parent_back c.parent c.parameters _ _ (omega arith)
      ▹ (braces_back types) S (every_block types S c.body w) _ x xs (omega arith) ▹ (ends_here types)

  pub item_back : (i : Item) → WholeItem i → (v : ℕ) (x : ℕ → Lexeme) (xs : Rest) {k : List Symbol} {q t : ℕ} {h : List Piece} {ks : Nodes} {fs : List Frame} → ((u : ℕ) → Behind (x u)) → length fs + height (item_node S i) ≤ 32 →
      state types (printed_item S i v (λ u. x u ∷ xs u)) (items ∷ k) (build 0 (frame q t h ks) fs)
      ⇒ (state types) (x (last_line_item i v) ∷ xs (last_line_item i v)) (items ∷ k) (build 0 (frame q t h (ks ▸ item_node S i)) fs)
  unfolding printed_item item_node last_line_item height row_of acts act spelled
  item_back (statement s) w v x xs behind d = (every_statement types S s w).statement_back (at_top types) v x xs behind d
  item_back (Item.node ds b) w v x xs behind d =
      take_begin types refl (omega arith) refl ▹ devices_back ds w.0 v _ (omega arith) ▹ (braces_back types) S (every_block types S b w.1) v x xs (omega arith) ▹ (ends_here types)
  item_back (definition (type_definition c)) w v x xs behind d =
      take_begin types refl (omega arith) refl ▹ (take types) refl refl ▹ parameters_back c.parameters v (λ u. the u left_brace) _ (λ u. refl) (omega arith)
      ▹ (braces_back types) S (every_block types S c.body w) _ x xs (omega arith) ▹ (ends_here types)
  item_back (definition (class_definition c)) w v x xs behind d = class_back c w v x xs behind d

  -- what is printed from items on begins with a token that may stand behind an item
  with_items : (is : List Item) → EachOf WholeItem is → (P : (ℕ → List Lexeme) → Type 0) (line : ℕ → ℕ) → ((y : ℕ → Lexeme) (ys : Rest) → ((u : ℕ) → Behind (y u)) → P (λ u. y u ∷ ys u)) → P (λ u. printed_items S is u (λ w. the (line w) end_of_text ∷ []))
  unfolding printed_items printed_item binds row_of
  with_items [] w P line f = f (λ u. the (line u) end_of_text) (λ u. []) (λ u. record { calm = tt; no_else = refl; unplaced = refl })
  with_items (statement s ∷ is) w P line f = with_statement types S s w.0 P (λ u. line_for (constants_of_item (statement s)) u) _ f
  with_items (Item.node ds b ∷ is) w P line f = f (λ u. the (line_for (constants_of_item (Item.node ds b)) u) node_word) _ (λ u. record { calm = tt; no_else = refl; unplaced = refl })
  with_items (definition (type_definition c) ∷ is) w P line f = f (λ u. the (line_for (constants_of_item (definition (type_definition c))) u) define_word) _ (λ u. record { calm = tt; no_else = refl; unplaced = refl })
  with_items (definition (class_definition c) ∷ is) w P line f = f (λ u. the (line_for (constants_of_item (definition (class_definition c))) u) class_word) _ (λ u. record { calm = tt; no_else = refl; unplaced = refl })

  items_back : (is : List Item) → EachOf WholeItem is → (v : ℕ) (line : ℕ → ℕ) {q t : ℕ} {h : List Piece} {ks : Nodes} → tallest (items_onto S is ks) ≤ 32 →
      state types (printed_items S is v (λ u. the (line u) end_of_text ∷ [])) manifest (build 0 (frame q t h ks) []) ⇒ (state types) [] [] (build 0 (frame q t h (items_onto S is ks)) [])
  unfolding printed_items items_onto nodes_onto height row_of left_out acts
  items_back [] w v line d = leave types refl refl refl ▹ (take types) refl refl
  items_back (i ∷ is) w v line {q} {t} {h} {ks} d =
      let taller = nodes_taller (item_node S) is (ks ▸ item_node S i) in
      let u : ℕ = line_for (constants_of_item i) v in
      with_items is w.1 (λ rest. state types (printed_item S i u rest) manifest (build 0 (frame q t h ks) []) ⇒ (state types) (rest (last_line_item i u)) manifest (build 0 (frame q t h (ks ▸ item_node S i)) [])) line
      (λ y ys behind. item_back i w.0 u y ys behind (omega arith))
      ▹ items_back is w.1 _ line d

  read_whole : {f : Build} → run types [] [] f ≡ built f
  unfolding run
  read_whole = refl

  -- THE LAW on tokens: printed items are read as the tree that they are
  pub round_trip : (is : List Item) → EachOf WholeItem is → (line : ℕ → ℕ) → tallest (items_onto S is empty) ≤ 32 →
      reading types (printed_items S is 0 (λ u. the (line u) end_of_text ∷ [])) ≡ built (build 0 (frame 0 0 [] (items_onto S is empty)) [])
  unfolding reading
  round_trip is w line d = (items_back is w 0 line d).alike ∙ read_whole
