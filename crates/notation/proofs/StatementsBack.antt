-- Printed statements and blocks are read back: one lemma for each form.
use Prim.Native.Nat.{ℕ, suc, ◌+◌, ◌≤◌}
use mathlib.Core.Path.{◌≡◌, refl, ap, ◌∙◌}
use mathlib.Core.List.{List, [], ◌∷◌}
use mathlib.Core.Option.{none, some}
use mathlib.Core.Bool.{true, false}
use native.Mathlib.Omega.{arith}
use lib.ListN.{length}
use Rattle.values.specs.declared.Value.{Value}
use Rattle.values.specs.declared.Value.TheVariants.{Integer, String, Boolean}
use Rattle.rules.specs.Tree.{Constant, Expression, AttributeField, Statement, assignment, conditional, choice, built_in_resource, defined_resource, class_with_attributes, include, Block, end, next, Branches, no_branch, branch, default_branch}
use Rattle.rules.specs.Tree
use Rattle.rules.specs.Types.{Types}
use Rattle.notation.specs.Tokens.{Token, Lexeme, kind, token_of, place_of, a_word, a_variable, left_brace, right_brace, colon, if_word, case_word, class_word, include_word, default_word}
use Rattle.notation.specs.Lexing.{find}
use Rattle.notation.specs.Building.{Piece, name, Node, Nodes, empty, ◌▸◌, height, tallest, Frame, frame, build, Action, acts, act, added, begun, leaf, spelled, resource_tag}
use Rattle.notation.specs.Grammar.{Symbol, a_name, branches, block, otherwise, ends, row, maybe, further, Entry, statements, items, sign, statement_rows, row_of, left_out, binds}
use Rattle.notation.specs.Print.{the, at, printed_entries, Rest, line_for, constants_of_statement, constants_of_block, value_token, constant_lexeme, printed_attribute, printed_attributes, printed_resource, printed_else, printed_statement, printed_block, printed_branches}
use Rattle.notation.proofs.Machine.{state, ◌⇒◌, ◌▹◌, take, leave}
use Rattle.notation.proofs.Steps.{Calm, added_fits, acts_first, take_begun, take_begin, ends_here}
use Rattle.notation.proofs.Expected.{last_line, last_line_entries, last_line_attribute, last_line_statement, last_line_block, last_line_branches, bare_node, default_node, constant_node_of, node_of, nodes_onto, attribute_node, statement_node, block_onto, branches_onto}
use Rattle.notation.proofs.ExpressionsBack.{Whole, whole, every, constant_added}
use Rattle.notation.proofs.EntriesBack.{EachOf, nodes_taller, EntryBack, entries_back}

-- a token behind a statement: no operator, no else; and its place is not known yet
pub record Behind (x : Lexeme) : Type 0 where
  pub calm : Calm 1 x
  pub no_else : row_of otherwise (kind (token_of x)) ≡ none
  pub unplaced : place_of x ≡ 0

abbrev pub WholeAttribute : AttributeField → Type 0
WholeAttribute f = Whole f.expression

-- where statements stand: at the symbol y, which comes again behind each
pub record Sequence (types : Types) (y : Symbol) : Type 0 where
  pub on_variable : row_of y a_variable ≡ find a_variable (statement_rows y)
  pub on_if : row_of y if_word ≡ find if_word (statement_rows y)
  pub on_case : row_of y case_word ≡ find case_word (statement_rows y)
  pub on_word : row_of y a_word ≡ find a_word (statement_rows y)
  pub on_include : row_of y include_word ≡ find include_word (statement_rows y)
  -- a class with attributes begins
  pub on_class : (v w : ℕ) {xs : List Lexeme} {k : List Symbol} {f : Frame} {fs : List Frame} → length fs + 1 ≤ 32 →
      state types (the v class_word ∷ the w left_brace ∷ xs) (y ∷ k) (build 0 f fs) ⇒ (state types) xs (a_name ∷ sign colon ∷ maybe Entry.attribute ∷ sign right_brace ∷ ends ∷ y ∷ k) (build 0 (frame 0 0x28 [] empty) (f ∷ fs))

pub in_block : (types : Types) → (Sequence types) statements
unfolding row_of acts
in_block types = record { on_variable = refl; on_if = refl; on_case = refl; on_word = refl; on_include = refl; on_class = λ v w d. take_begin types refl d refl ▹ (take types) refl refl }

pub at_top : (types : Types) → (Sequence types) items
unfolding row_of acts
at_top types = record { on_variable = refl; on_if = refl; on_case = refl; on_word = refl; on_include = refl; on_class = λ v w d. take types refl refl ▹ (take_begin types) refl d refl }

module _ (types : Types) (S : ℕ → List ℕ) where
  -- the types of resources are of the right sort, and no field is unreadable
  abbrev mutual
    pub WholeStatement : Statement → Type 0
    WholeStatement (assignment p n a) = Whole a
    WholeStatement (conditional p a y n) = Whole a × WholeBlock y × WholeBlock n
    WholeStatement (choice p a bs) = Whole a × WholeBranches bs
    WholeStatement (built_in_resource p t a fs) = (resource_tag types (S t) ≡ 0x25) × Whole a × EachOf WholeAttribute fs
    WholeStatement (defined_resource p t a fs) = (resource_tag types (S t) ≡ 0x27) × Whole a × EachOf WholeAttribute fs
    WholeStatement (class_with_attributes p c fs) = EachOf WholeAttribute fs
    WholeStatement (include p c) = Unit {0}
    WholeStatement (Statement.unreadable p) = ⊥

    pub WholeBlock : Block → Type 0
    WholeBlock end = Unit {0}
    WholeBlock (next s b) = WholeStatement s × WholeBlock b

    pub WholeBranches : Branches → Type 0
    WholeBranches no_branch = Unit {0}
    WholeBranches (branch c b bs) = WholeBlock b × WholeBranches bs
    WholeBranches (default_branch b bs) = WholeBlock b × WholeBranches bs

  -- ---- Attributes

  attribute_back : EntryBack types (printed_attribute S) last_line_attribute (attribute_node S) (maybe Entry.attribute) (further Entry.attribute) WholeAttribute
  unfolding last_line_attribute attribute_node height row_of acts act binds spelled
  attribute_back = record {
    entry_back = λ f w v x xs calm d.
        take_begin types refl (omega arith) refl ▹ (take types) refl refl ▹ (whole types) S (every types S f.expression w) 1 (omega arith) _ _ _ (calm _) (omega arith) (omega arith) ▹ (ends_here types);
  }

  -- up to the closing brace
  attributes_back : (fs : List AttributeField) → EachOf WholeAttribute fs → (v : ℕ) (xs : Rest) {k : List Symbol} {q t : ℕ} {h : List Piece} {ks : Nodes} {gs : List Frame} →
      length gs + tallest (nodes_onto (attribute_node S) fs ks) ≤ 32 →
      state types (printed_attributes S fs v (λ u. the u right_brace ∷ xs u)) (maybe Entry.attribute ∷ k) (build 0 (frame q t h ks) gs)
      ⇒ (state types) (the (last_line_entries last_line_attribute fs v) right_brace ∷ xs (last_line_entries last_line_attribute fs v)) k (build 0 (frame q t h (nodes_onto (attribute_node S) fs ks)) gs)
  unfolding printed_entries nodes_onto last_line_entries row_of left_out acts binds
  attributes_back [] w v xs d = leave types refl refl refl
  attributes_back (f ∷ fs) w v xs d = entries_back types _ _ _ _ _ _ attribute_back refl refl f fs w.0 w.1 v (λ u. the u right_brace) xs (λ u. tt) (λ u. refl) d

  -- ---- Statements

  block_taller : (b : Block) (ks : Nodes) → tallest ks ≤ tallest (block_onto S b ks)
  unfolding block_onto height
  block_taller end ks = omega arith
  block_taller (next s b) ks = omega (arith, block_taller b (ks ▸ statement_node S s))

  pub record StatementBack (s : Statement) : Type 0 where
    pub statement_back : {y : Symbol} → Sequence types y → (v : ℕ) (x : ℕ → Lexeme) (xs : Rest) {k : List Symbol} {q t : ℕ} {h : List Piece} {ks : Nodes} {fs : List Frame} → ((u : ℕ) → Behind (x u)) → length fs + height (statement_node S s) ≤ 32 →
        state types (printed_statement S s v (λ u. x u ∷ xs u)) (y ∷ k) (build 0 (frame q t h ks) fs)
        ⇒ (state types) (x (last_line_statement s v) ∷ xs (last_line_statement s v)) (y ∷ k) (build 0 (frame q t h (ks ▸ statement_node S s)) fs)

  -- a block up to its closing brace
  pub record BlockBack (b : Block) : Type 0 where
    pub block_back : (v : ℕ) (xs : Rest) {k : List Symbol} {q t : ℕ} {h : List Piece} {ks : Nodes} {fs : List Frame} → length fs + tallest (block_onto S b ks) ≤ 32 →
        state types (printed_block S b v (λ u. the u right_brace ∷ xs u)) (statements ∷ k) (build 0 (frame q t h ks) fs)
        ⇒ (state types) (the (last_line_block b v) right_brace ∷ xs (last_line_block b v)) k (build 0 (frame q t h (block_onto S b ks)) fs)

  -- a block in braces, at a symbol that takes the brace for a block
  pub braces_back : {b : Block} → BlockBack b → (v : ℕ) (x : ℕ → Lexeme) (xs : Rest) {k : List Symbol} {q t : ℕ} {h : List Piece} {ks : Nodes} {fs : List Frame} → suc (length fs) + tallest (block_onto S b empty) ≤ 32 →
      state types (the v left_brace ∷ printed_block S b v (λ u. the u right_brace ∷ x u ∷ xs u)) (block ∷ k) (build 0 (frame q t h ks) fs)
      ⇒ (state types) (x (last_line_block b v) ∷ xs (last_line_block b v)) k (build 0 (frame q t h (ks ▸ bare_node 0x20 [] (block_onto S b empty))) fs)
  unfolding row_of acts
  braces_back back-b v x xs d = take_begin types refl (omega arith) refl ▹ back-b.block_back _ _ d ▹ (take types) refl refl ▹ (ends_here types)

  back_assignment : (p n : ℕ) (a : Expression) → Whole a → StatementBack (assignment p n a)
  unfolding printed_statement statement_node last_line_statement height row_of acts act spelled
  back_assignment p n a w = record {
    statement_back = λ at_y v x xs behind d.
        take_begin types at_y.on_variable (omega arith) refl ▹ (take types) refl refl ▹ (whole types) S (every types S a w) 1 (omega arith) _ _ _ (behind _).calm (omega arith) (omega arith) ▹ (ends_here types);
  }

  -- behind the brace of the first block, whose fields are js: else and a block, or nothing
  else_back : (n : Block) → BlockBack n → (v : ℕ) (x : ℕ → Lexeme) (xs : Rest) {k : List Symbol} {q t : ℕ} {h : List Piece} {js ks : Nodes} {fs : List Frame} → ((u : ℕ) → Behind (x u)) → suc (length fs) + tallest (block_onto S n empty) ≤ 32 →
      state types (printed_else n (λ z r. printed_block S n z r) v (λ u. x u ∷ xs u)) (ends ∷ otherwise ∷ k) (build 0 (frame 0 0x20 [] js) (frame q t h ks ∷ fs))
      ⇒ (state types) (x (last_line_block n v) ∷ xs (last_line_block n v)) k (build 0 (frame q t h (ks ▸ bare_node 0x20 [] js ▸ bare_node 0x20 [] (block_onto S n empty))) fs)
  unfolding printed_else block_onto last_line_block row_of left_out acts act
  else_back end back-n v x xs {q = q} {t = t} {h = h} {js = js} {ks = ks} {fs = fs} behind d =
      ends_here types
      ▹ (leave types) (behind v).no_else refl (acts_first types (Action.void 0x20) [] (x v) _ _ (ap (λ (p : ℕ). added (leaf p 0x20 []) (build 0 (frame q t h (ks ▸ bare_node 0x20 [] js)) fs)) (behind v).unplaced ∙ added_fits _ 0 q t h _ fs (omega arith)))
  else_back (next s b) back-n v x xs behind d = ends_here types ▹ (take types) refl refl ▹ braces_back back-n v x xs d

  back_conditional : (p : ℕ) (a : Expression) (y n : Block) → Whole a → BlockBack y → BlockBack n → StatementBack (conditional p a y n)
  unfolding printed_statement statement_node last_line_statement height row_of acts act binds
  back_conditional p a y n w back-y back-n = record {
    statement_back = λ at_y v x xs behind d.
        take_begin types at_y.on_if (omega arith) refl ▹ (whole types) S (every types S a w) 1 (omega arith) _ _ _ tt (omega arith) (omega arith)
        ▹ (take_begin types) refl (omega arith) refl ▹ back-y.block_back _ _ (omega arith) ▹ (take types) refl refl ▹ else_back n back-n _ x xs behind (omega arith) ▹ (ends_here types);
  }

  -- type, title and attributes, where the type t makes the tag u
  resource_back : (u t : ℕ) (a : Expression) (fs : List AttributeField) → resource_tag types (S t) ≡ u → Whole a → EachOf WholeAttribute fs → {y : Symbol} → Sequence types y → (v : ℕ) (x : ℕ → Lexeme) (xs : Rest) {k : List Symbol} {q r : ℕ} {h : List Piece} {ks : Nodes} {gs : List Frame} →
      length gs + height (bare_node u (name (S t) ∷ []) (nodes_onto (attribute_node S) fs (empty ▸ node_of S a))) ≤ 32 →
      state types (printed_resource S t a fs v (λ z. x z ∷ xs z)) (y ∷ k) (build 0 (frame q r h ks) gs)
      ⇒ (state types) (x (last_line_entries last_line_attribute fs (last_line a v)) ∷ xs (last_line_entries last_line_attribute fs (last_line a v))) (y ∷ k)
      (build 0 (frame q r h (ks ▸ bare_node u (name (S t) ∷ []) (nodes_onto (attribute_node S) fs (empty ▸ node_of S a)))) gs)
  unfolding height row_of acts act binds spelled
  resource_back u t a fs e w ws at_y v x xs {q = q} {r = r} {h = h} {ks = ks} {gs = gs} d =
      let taller = nodes_taller (attribute_node S) fs (empty ▸ node_of S a) in
      take_begun types u at_y.on_word (ap (λ (z : ℕ). begun 0 z (build 0 (frame q r h ks) gs)) e) (omega arith) refl ▹ (take types) refl refl ▹ (whole types) S (every types S a w) 1 (omega arith) _ _ _ tt (omega arith) (omega arith)
      ▹ (take types) refl refl ▹ attributes_back fs ws _ _ (omega arith) ▹ (take types) refl refl ▹ (ends_here types)

  back_built_in : (p t : ℕ) (a : Expression) (fs : List AttributeField) → resource_tag types (S t) ≡ 0x25 → Whole a → EachOf WholeAttribute fs → StatementBack (built_in_resource p t a fs)
  unfolding printed_statement statement_node last_line_statement
  back_built_in p t a fs e w ws = record { statement_back = λ at_y v x xs behind d. resource_back 0x25 t a fs e w ws at_y v x xs d }

  back_defined : (p t : ℕ) (a : Expression) (fs : List AttributeField) → resource_tag types (S t) ≡ 0x27 → Whole a → EachOf WholeAttribute fs → StatementBack (defined_resource p t a fs)
  unfolding printed_statement statement_node last_line_statement
  back_defined p t a fs e w ws = record { statement_back = λ at_y v x xs behind d. resource_back 0x27 t a fs e w ws at_y v x xs d }

  back_class : (p c : ℕ) (fs : List AttributeField) → EachOf WholeAttribute fs → StatementBack (class_with_attributes p c fs)
  unfolding printed_statement statement_node last_line_statement height row_of acts act binds spelled
  back_class p c fs w = record {
    statement_back = λ at_y v x xs behind d.
        at_y.on_class v v (omega arith) ▹ (take types) refl refl ▹ (take types) refl refl ▹ attributes_back fs w _ _ (omega arith) ▹ (take types) refl refl ▹ (ends_here types);
  }

  back_include : (p c : ℕ) → StatementBack (include p c)
  unfolding printed_statement statement_node last_line_statement height row_of acts act spelled
  back_include p c = record { statement_back = λ at_y v x xs behind d. take_begin types at_y.on_include (omega arith) refl ▹ (take types) refl refl ▹ (ends_here types) }

  -- ---- Case

  branches_taller : (bs : Branches) (ks : Nodes) → tallest ks ≤ tallest (branches_onto S bs ks)
  unfolding branches_onto height
  branches_taller no_branch ks = omega arith
  branches_taller (branch c b bs) ks = omega (arith, branches_taller bs (ks ▸ bare_node 0x24 [] (empty ▸ constant_node_of S c ▸ bare_node 0x20 [] (block_onto S b empty))))
  branches_taller (default_branch b bs) ks = omega (arith, branches_taller bs (ks ▸ bare_node 0x24 [] (empty ▸ default_node ▸ bare_node 0x20 [] (block_onto S b empty))))

  record BranchesBack (bs : Branches) : Type 0 where
    branches_back : (v : ℕ) (xs : Rest) {k : List Symbol} {q t : ℕ} {h : List Piece} {ks : Nodes} {fs : List Frame} → length fs + tallest (branches_onto S bs ks) ≤ 32 →
        state types (printed_branches S bs v (λ u. the u right_brace ∷ xs u)) (branches ∷ k) (build 0 (frame q t h ks) fs)
        ⇒ (state types) (the (last_line_branches bs v) right_brace ∷ xs (last_line_branches bs v)) k (build 0 (frame q t h (branches_onto S bs ks)) fs)

  branch_row : (v : Value) → row_of branches (kind (value_token S v)) ≡ some (row (Action.begin 0x24 ∷ Action.constant ∷ []) (sign colon ∷ block ∷ ends ∷ branches ∷ []))
  unfolding row_of value_token
  branch_row (Integer z) = refl
  branch_row (String n) = refl
  branch_row (Boolean true) = refl
  branch_row (Boolean false) = refl

  -- what is printed from branches on begins with a token
  with_branches : (bs : Branches) (P : Rest → Type 0) (xs : Rest) → ((y : ℕ → Lexeme) (ys : Rest) → P (λ u. y u ∷ ys u)) → P (λ u. printed_branches S bs u (λ w. the w right_brace ∷ xs w))
  unfolding printed_branches
  with_branches no_branch P xs f = f (λ u. the u right_brace) xs
  with_branches (branch c b bs) P xs f = f (λ u. constant_lexeme S c) _
  with_branches (default_branch b bs) P xs f = f (λ u. the (line_for (constants_of_block b) u) default_word) _

  -- behind a pattern n: the colon and the block, and the branches that follow
  branches_rest : {b : Block} (bs : Branches) → BlockBack b → BranchesBack bs → (v : ℕ) (xs : Rest) (n : Node) {k : List Symbol} {q t : ℕ} {h : List Piece} {ks : Nodes} {fs : List Frame} →
      length fs + tallest (branches_onto S bs (ks ▸ bare_node 0x24 [] (empty ▸ n ▸ bare_node 0x20 [] (block_onto S b empty)))) ≤ 32 →
      state types (the v colon ∷ the v left_brace ∷ printed_block S b v (λ u. the u right_brace ∷ printed_branches S bs u (λ w. the w right_brace ∷ xs w))) (sign colon ∷ block ∷ ends ∷ branches ∷ k) (build 0 (frame 0 0x24 [] (empty ▸ n)) (frame q t h ks ∷ fs))
      ⇒ (state types) (the (last_line_branches bs (last_line_block b v)) right_brace ∷ xs (last_line_branches bs (last_line_block b v))) k (build 0 (frame q t h (branches_onto S bs (ks ▸ bare_node 0x24 [] (empty ▸ n ▸ bare_node 0x20 [] (block_onto S b empty))))) fs)
  unfolding height row_of acts
  branches_rest {b} bs back-b back-bs v xs n {k} {q} {t} {h} {ks} {fs} d =
      let taller = branches_taller bs (ks ▸ bare_node 0x24 [] (empty ▸ n ▸ bare_node 0x20 [] (block_onto S b empty))) in
      let deep : suc (suc (length fs)) + tallest (block_onto S b empty) ≤ 32 = omega arith in
      take types refl refl
      ▹ with_branches bs (λ rest. state types (the v left_brace ∷ printed_block S b v (λ u. the u right_brace ∷ rest u)) (block ∷ ends ∷ branches ∷ k) (build 0 (frame 0 0x24 [] (empty ▸ n)) (frame q t h ks ∷ fs))
      ⇒ (state types) (rest (last_line_block b v)) (branches ∷ k) (build 0 (frame q t h (ks ▸ bare_node 0x24 [] (empty ▸ n ▸ bare_node 0x20 [] (block_onto S b empty)))) fs)) xs
      (λ y ys. braces_back back-b v y ys deep ▹ (ends_here types))
      ▹ back-bs.branches_back _ _ d

  back_no_branch : BranchesBack no_branch
  unfolding printed_branches branches_onto last_line_branches row_of left_out acts
  back_no_branch = record { branches_back = λ v xs d. leave types refl refl refl }

  back_branch : (c : Constant) (b : Block) (bs : Branches) → BlockBack b → BranchesBack bs → BranchesBack (branch c b bs)
  unfolding printed_branches branches_onto last_line_branches height acts
  back_branch c b bs back-b back-bs = record {
    branches_back = λ v xs {ks = ks} d.
        let taller = branches_taller bs (ks ▸ bare_node 0x24 [] (empty ▸ constant_node_of S c ▸ bare_node 0x20 [] (block_onto S b empty))) in
        take_begin types (branch_row c.value) (omega arith) (acts_first types _ [] _ _ _ (constant_added types S c _ ∙ added_fits (constant_node_of S c) _ _ _ _ _ _ (omega arith)))
        ▹ branches_rest bs back-b back-bs _ _ (constant_node_of S c) d;
  }

  back_default_branch : (b : Block) (bs : Branches) → BlockBack b → BranchesBack bs → BranchesBack (default_branch b bs)
  unfolding printed_branches branches_onto last_line_branches height row_of acts act
  back_default_branch b bs back-b back-bs = record {
    branches_back = λ v xs {ks = ks} d.
        let taller = branches_taller bs (ks ▸ bare_node 0x24 [] (empty ▸ default_node ▸ bare_node 0x20 [] (block_onto S b empty))) in
        take_begin types refl (omega arith) (acts_first types (Action.void 0x1b) [] (the (line_for (constants_of_block b) v) default_word) _ _ (added_fits _ _ _ _ _ _ _ (omega arith)))
        ▹ branches_rest bs back-b back-bs _ _ default_node d;
  }

  back_choice : (p : ℕ) (a : Expression) (bs : Branches) → Whole a → BranchesBack bs → StatementBack (choice p a bs)
  unfolding printed_statement statement_node last_line_statement height row_of acts binds
  back_choice p a bs w back-bs = record {
    statement_back = λ at_y v x xs behind d.
        let taller = branches_taller bs (empty ▸ node_of S a) in
        take_begin types at_y.on_case (omega arith) refl ▹ (whole types) S (every types S a w) 1 (omega arith) _ _ _ tt (omega arith) (omega arith)
        ▹ (take types) refl refl ▹ back-bs.branches_back _ _ (omega arith) ▹ (take types) refl refl ▹ (ends_here types);
  }

  -- ---- Blocks

  -- what is printed from a statement on begins with a token that may stand behind a statement
  pub with_statement : (s : Statement) → WholeStatement s → (P : (ℕ → List Lexeme) → Type 0) (line : ℕ → ℕ) (rest : Rest) → ((y : ℕ → Lexeme) (ys : Rest) → ((u : ℕ) → Behind (y u)) → P (λ u. y u ∷ ys u)) → P (λ u. printed_statement S s (line u) rest)
  unfolding printed_statement binds row_of
  with_statement (assignment p n a) w P line rest f = f (λ u. at (line u) (Token.variable (S n))) _ (λ u. record { calm = tt; no_else = refl; unplaced = refl })
  with_statement (conditional p a y n) w P line rest f = f (λ u. the (line u) if_word) _ (λ u. record { calm = tt; no_else = refl; unplaced = refl })
  with_statement (choice p a bs) w P line rest f = f (λ u. the (line u) case_word) _ (λ u. record { calm = tt; no_else = refl; unplaced = refl })
  with_statement (built_in_resource p t a fs) w P line rest f = f (λ u. at (line u) (Token.word (S t))) _ (λ u. record { calm = tt; no_else = refl; unplaced = refl })
  with_statement (defined_resource p t a fs) w P line rest f = f (λ u. at (line u) (Token.word (S t))) _ (λ u. record { calm = tt; no_else = refl; unplaced = refl })
  with_statement (class_with_attributes p c fs) w P line rest f = f (λ u. the (line u) class_word) _ (λ u. record { calm = tt; no_else = refl; unplaced = refl })
  with_statement (include p c) w P line rest f = f (λ u. the (line u) include_word) _ (λ u. record { calm = tt; no_else = refl; unplaced = refl })
  with_statement (Statement.unreadable p) w P line rest f = absurd w

  with_block : (b : Block) → WholeBlock b → (P : (ℕ → List Lexeme) → Type 0) (xs : Rest) → ((y : ℕ → Lexeme) (ys : Rest) → ((u : ℕ) → Behind (y u)) → P (λ u. y u ∷ ys u)) → P (λ u. printed_block S b u (λ w. the w right_brace ∷ xs w))
  unfolding printed_block binds row_of
  with_block end w P xs f = f (λ u. the u right_brace) xs (λ u. record { calm = tt; no_else = refl; unplaced = refl })
  with_block (next s b) w P xs f = with_statement s w.0 P (λ u. line_for (constants_of_statement s) u) _ f

  back_end : BlockBack end
  unfolding printed_block block_onto last_line_block row_of left_out acts
  back_end = record { block_back = λ v xs d. leave types refl refl refl }

  back_next : (s : Statement) (b : Block) → WholeBlock b → StatementBack s → BlockBack b → BlockBack (next s b)
  unfolding printed_block block_onto last_line_block height
  back_next s b w back_s back-b = record {
    block_back = λ v xs {k} {q} {t} {h} {ks} {fs} d.
        let taller = block_taller b (ks ▸ statement_node S s) in
        let u : ℕ = line_for (constants_of_statement s) v in
        with_block b w (λ rest. state types (printed_statement S s u rest) (statements ∷ k) (build 0 (frame q t h ks) fs) ⇒ (state types) (rest (last_line_statement s u)) (statements ∷ k) (build 0 (frame q t h (ks ▸ statement_node S s)) fs)) xs
        (λ y ys behind. back_s.statement_back (in_block types) u y ys behind (omega arith))
        ▹ back-b.block_back _ xs d;
  }

  mutual
    pub every_statement : (s : Statement) → WholeStatement s → StatementBack s
    every_statement (assignment p n a) w = back_assignment p n a w
    every_statement (conditional p a y n) w = back_conditional p a y n w.0 (every_block y w.1) (every_block n w.2)
    every_statement (choice p a bs) w = back_choice p a bs w.0 (every_branch bs w.1)
    every_statement (built_in_resource p t a fs) w = back_built_in p t a fs w.0 w.1 w.2
    every_statement (defined_resource p t a fs) w = back_defined p t a fs w.0 w.1 w.2
    every_statement (class_with_attributes p c fs) w = back_class p c fs w
    every_statement (include p c) w = back_include p c
    every_statement (Statement.unreadable p) w = absurd w

    pub every_block : (b : Block) → WholeBlock b → BlockBack b
    every_block end w = back_end
    every_block (next s b) w = back_next s b w.1 (every_statement s w.0) (every_block b w.1)

    every_branch : (bs : Branches) → WholeBranches bs → BranchesBack bs
    every_branch no_branch w = back_no_branch
    every_branch (branch c b bs) w = back_branch c b bs (every_block b w.0) (every_branch bs w.1)
    every_branch (default_branch b bs) w = back_default_branch b bs (every_block b w.0) (every_branch bs w.1)
