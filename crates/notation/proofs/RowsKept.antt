-- Each row of the grammar keeps what must hold before its symbol: what it does and the symbols that come in the symbol's place read the same.
use Prim.Native.Nat.{ℕ, suc, ◌≤◌}
use mathlib.Core.Path.{◌≡◌, refl, sym, subst}
use mathlib.Core.Bool.{Bool, true, false, ◌&&◌}
use mathlib.Core.List.{List, [], ◌∷◌, ◌++◌}
use mathlib.Core.Option.{Option, none, some}
use native.Mathlib.Omega.{arith}
use lib.Dec.{leb, eqb}
use borrow.Author.Tests.{eqb-true, leb-true}
use Rattle.rules.specs.Bytes.{pick}
use Rattle.rules.specs.Format.{within, allowed, forms, form_in, form_of}
use Rattle.rules.specs.declared.Kind.TheVariants.{Constant, Expression, Statement, Block, Item}
use Rattle.rules.specs.Types.{Types}
use Rattle.notation.specs.Tokens.{word, number, text, variable, top_variable, class_variable, mark, Lexeme, lexeme, kind, token_of, question, colon, arrow, left_brace, right_brace, left_square, right_square}
use Rattle.notation.specs.Lexing.{find}
use Rattle.notation.specs.Building.{Piece, byte, Node, node, Nodes, empty, ◌▸◌, Frame, frame, Build, build, Action, begin, around, instead, constant, constant_node}
use Rattle.notation.specs.Grammar.{Entry, arm, attribute, parameter, Symbol, sign, a_name, expression, operators, read_or_word, close_bracket, one, maybe, further, statements, block, otherwise, branches, items, class_rest, parameters, default_value, a_constant, inherits, parent, devices, device, more_devices, ends, Row, row, operand_rows, constant_rows, pattern_rows, entry_rows, statement_rows, in_block, item_rows, class_rows, device_rows, node_rows, operator_bytes, or_zero, operator_byte, operator_row, operator_in, binds, row_of}
use Rattle.notation.proofs.Formed.{Of, further as further_field, a_string}
use Rattle.notation.proofs.FormedNodes.{word_in, leaf_of, constant_expression, constant_pattern_lem, statement_item, operation_of, negation_of, read_of, selector_of, arm_of, default_of_lem, block_of, assignment_of, conditional_of, choice_of, branch_of, resource_of, attribute_of_lem, class_of, include_of, device_of, node_of, default_node_of, definition_of_lem, parameter_of, parameter_with_default_of, parent_of, class_definition_of, class_with_parent_of}
use Rattle.notation.proofs.FormedTokens.{Good, word_spelled, variable_spelled, text_spelled, constant_of, variable_of}
use Rattle.notation.proofs.Needs.{Bare, bare_word, Default, by_default, BeforeAll, DoingAll}
use Rattle.notation.proofs.NeedsKept.{none_not_some, same_result}
use Rattle.notation.proofs.TableRows.{found_passes, rows_of}

-- ---- Bare words, defaults, operators

-- a bare word is an expression
pub bare_expression : (types : Types) {S : List ℕ → Type 0} {i : Node} → Bare S i → Of types S Expression i
unfolding allowed form_of form_in forms
bare_expression types (bare_word w) = leaf_of types Expression refl (omega arith) (a_string refl (word_in types 0x11 refl refl w)) refl

-- a word is read as one
bare_of : {S : List ℕ → Type 0} (x : Lexeme) → Good S (token_of x) → kind (token_of x) ≡ 0 → Bare S (constant_node x)
unfolding constant_node
bare_of (lexeme p l (word w)) g e = bare_word g
bare_of (lexeme p l (number z)) g e = absurd (omega arith)
bare_of (lexeme p l (text s)) g e = absurd (omega arith)
bare_of (lexeme p l (variable n)) g e = absurd (omega arith)
bare_of (lexeme p l (top_variable n)) g e = absurd (omega arith)
bare_of (lexeme p l (class_variable c n)) g e = absurd (omega arith)
bare_of (lexeme p l (mark k)) g e = absurd (omega arith)

-- a node by default
by_default_of : (types : Types) {S : List ℕ → Type 0} {p : ℕ} {d b : Node} → Default d → Of types S Block b → Of types S Item (node p 0x30 [] (empty ▸ d ▸ b))
by_default_of types by_default b = default_node_of types b

-- the operator bytes are 0 to 6
operator_byte_lem : (k : ℕ) → operator_byte k ≤ 6
unfolding operator_byte
operator_byte_lem k = go (find k operator_bytes) refl
  where
    go : (o : Option ℕ) → find k operator_bytes ≡ o → or_zero o ≤ 6
    go none e = omega arith
    go (some b) e = leb-true b 6 (found_passes (λ i. leb i 6) operator_bytes k b refl e)

-- ---- One token x, where ks are the last fields and the symbols k come behind

module _ (types : Types) (S : List ℕ → Type 0) (Q : Build → Type 0) (x : Lexeme) (good : Good S (token_of x)) (b q u : ℕ) (g : List Piece) (fs : List Frame) (k : List Symbol) where
  -- the token is a constant
  constant_here : {c : ℕ} → kind (token_of x) ≡ c → within 3 4 c ≡ false → Of types S Constant (constant_node x)
  constant_here e w = constant_of types x good (rw e w)

  module _ (ks : Nodes) where
    abbrev here : Build
    here = build b (frame q u g ks) fs

    -- the row keeps what must hold, where c is the token's kind
    abbrev RowKept : Symbol → ℕ → Row → Type 0
    RowKept s c (row ds ss) = kind (token_of x) ≡ c → BeforeAll types S Q (s ∷ k) here → DoingAll types S ds x (BeforeAll types S Q (ss ++ k)) here

    -- all rows of a list do
    abbrev EachRow : Symbol → List (ℕ × Row) → Type 0
    EachRow s [] = Unit {0}
    EachRow s (r ∷ rs) = RowKept s r.0 r.1 × EachRow s rs

    -- so does the row that is found
    found_row : (s : Symbol) (rows : List (ℕ × Row)) (r : Row) → find (kind (token_of x)) rows ≡ some r → EachRow s rows → RowKept s (kind (token_of x)) r
    found_row s [] r e all = none_not_some e
    found_row s (y ∷ rows) r e all = go (eqb (kind (token_of x)) y.0) refl (λ i. found_row s rows r i all.1) e
      where
        go : (t : Bool) → eqb (kind (token_of x)) y.0 ≡ t → (find (kind (token_of x)) rows ≡ some r → RowKept s (kind (token_of x)) r) → ◌≡◌ {A = Option Row} (pick t (some y.1) (find (kind (token_of x)) rows)) (some r) → RowKept s (kind (token_of x)) r
        go true h others e =
            let kept : RowKept s y.0 r = subst (λ (r : Row). RowKept s y.0 r) (same_result y.1 r e) all.0 in
            subst (λ (c : ℕ). RowKept s c r) (sym (eqb-true _ _ h)) kept
        go false h others e = others e

    -- so does the row that the symbol takes
    taken_row : (s : Symbol) (ds : List Action) (ss : List Symbol) → find (kind (token_of x)) (rows_of s) ≡ some (row ds ss) → EachRow s (rows_of s) → BeforeAll types S Q (s ∷ k) here → DoingAll types S ds x (BeforeAll types S Q (ss ++ k)) here
    taken_row s ds ss e all = found_row s (rows_of s) (row ds ss) e all refl

    -- rows of one symbol are those of another that asks for more
    rows_from : (s t : Symbol) → (BeforeAll types S Q (t ∷ k) here → BeforeAll types S Q (s ∷ k) here) → (rows : List (ℕ × Row)) → EachRow s rows → EachRow t rows
    rows_from s t f [] all = tt
    rows_from s t f (y ∷ rows) all = (kept y.1 all.0, rows_from s t f rows all.1)
      where
        kept : (r : Row) → RowKept s y.0 r → RowKept t y.0 r
        kept (row ds ss) h = λ e w. h e (f w)

    -- ---- The rows

    -- operands
    operand_rows_lem : (l : ℕ) → EachRow (expression l) (operand_rows l)
    operand_rows_lem l = (
      (λ e w. (constant_expression types (constant_here e refl), w)),
      (
        (λ e w. (constant_expression types (constant_here e refl), w)),
        (
          (λ e w. (constant_expression types (constant_here e refl), w)),
          (
            (λ e w. (constant_expression types (constant_here e refl), w)),
            (
              (λ e w. (bare_of x good e, λ i o. (o, w))),
              (
                (λ e w. (variable_of types x good (rw e), w)),
                (
                  (λ e w. (variable_of types x good (rw e), w)),
                  (
                    (λ e w i o. (negation_of types o, w)),
                    (
                      (λ e w i o. (o, w)),
                      tt,
                    ),
                  ),
                ),
              ),
            ),
          ),
        ),
      ),
    )

    -- a field that begins with a constant, for each kind of constant
    constant_rows_lem : (s : Symbol) (ds : List Action) (ss : List Symbol) → ((c : ℕ) → within 3 4 c ≡ false → RowKept s c (row (ds ++ (constant ∷ [])) ss)) → EachRow s (constant_rows ds ss)
    constant_rows_lem s ds ss f = (f 1 refl, (f 2 refl, (f 26 refl, (f 27 refl, (f 0 refl, tt)))))

    -- arms
    arm_rows : EachRow (one arm) (entry_rows arm)
    arm_rows = (
      (λ e w i o. w _ (arm_of types (default_of_lem types) o)),
      constant_rows_lem (one arm) (begin 0x1a ∷ []) (sign arrow ∷ expression 1 ∷ ends ∷ further arm ∷ []) (λ c n e w i o. w _ (arm_of types (constant_pattern_lem types (constant_here e n)) o)),
    )

    -- entries of lists
    entry_rows_lem : (y : Entry) → EachRow (one y) (entry_rows y)
    entry_rows_lem arm = arm_rows
    entry_rows_lem attribute = ((λ e w i o. w _ (attribute_of_lem types (word_spelled types (token_of x) good e) o)), tt)
    entry_rows_lem parameter =
        ((λ e w. (w _ (parameter_of types (variable_spelled types (token_of x) good e)), λ c o. w _ (parameter_with_default_of types (variable_spelled types (token_of x) good e) o))), tt)

    -- branches
    branch_rows : EachRow branches (pattern_rows 0x24 (sign colon ∷ block ∷ ends ∷ branches ∷ []))
    branch_rows = (
      (λ e w y p js m. w js (further_field (branch_of types (default_of_lem types) p) m)),
      constant_rows_lem branches (begin 0x24 ∷ []) (sign colon ∷ block ∷ ends ∷ branches ∷ []) (λ c n e w y p js m. w js (further_field (branch_of types (constant_pattern_lem types (constant_here e n)) p) m)),
    )

    -- statements, where s may come again behind each
    statement_rows_lem : (s : Symbol) → (BeforeAll types S Q (s ∷ k) here → (i : Node) → Of types S Statement i → BeforeAll types S Q (s ∷ k) (build b (frame q u g (ks ▸ i)) fs)) → EachRow s (statement_rows s)
    statement_rows_lem s next = (
      (λ e w i o. next w _ (assignment_of types (variable_spelled types (token_of x) good e) o)),
      (
        (λ e w i o y p n r. next w _ (conditional_of types o p r)),
        (
          (λ e w i o js m. next w _ (choice_of types o m)),
          (
            (λ e w i o js m. next w _ (resource_of types (word_spelled types (token_of x) good e) o m)),
            (
              (λ e w v o. next w _ (include_of types o)),
              tt,
            ),
          ),
        ),
      ),
    )

    -- statements of a block
    block_rows : EachRow statements in_block
    block_rows = (
      (λ e w v o is n js m. w js (further_field (class_of types o n) m)),
      statement_rows_lem statements (λ w i o js m. w js (further_field o m)),
    )

    -- items
    item_rows_lem : EachRow items item_rows
    item_rows_lem = (
      (λ e w i o js m. w js (further_field o m)),
      (
        (λ e w. ((λ d y i o js m. w js (further_field (by_default_of types y o) m)), λ d o is n i p js m. w js (further_field (node_of types o n p) m))),
        (
          (λ e w v o is n i p js m. w js (further_field (definition_of_lem types o n p) m)),
          statement_rows_lem items (λ w i o js m. w js (further_field (statement_item types o) m)),
        ),
      ),
    )

    -- classes outside of blocks
    class_rows_lem : EachRow class_rest class_rows
    class_rows_lem = (
      (λ e w v o js m. w _ (statement_item types (class_of types o m))),
      (
        (λ e w js m. let v = word_spelled types (token_of x) good e in ((λ i p. w _ (class_definition_of types v m p)), λ a o i p. w _ (class_with_parent_of types v m o p))),
        tt,
      ),
    )

    -- names of devices
    device_rows_lem : EachRow device device_rows
    device_rows_lem = ((λ e w. w _ (device_of types (text_spelled S (token_of x) good e))), ((λ e w. w _ (device_of types (word_spelled types (token_of x) good e).known)), tt))

    -- nodes
    node_rows_lem : EachRow devices node_rows
    node_rows_lem = ((λ e w. w.0 _ by_default), ((λ e w. w.1), rows_from device devices (λ w. w.1) device_rows device_rows_lem))

  -- ---- Rows that ask for a last field

  -- an operator: what was read is its left side
  operator_row_lem : (l m n c : ℕ) (t : Bool) (ks : Nodes) (i : Node) →
      RowKept (ks ▸ i) (operators l m) c (pick t
      (row (around 0x19 [] ∷ []) (sign left_brace ∷ one arm ∷ sign right_brace ∷ ends ∷ operators l n ∷ []))
      (row (around 0x16 (byte (operator_byte c) ∷ []) ∷ []) (expression (suc n) ∷ ends ∷ operators l n ∷ [])))
  operator_row_lem l m n c true ks i = λ e w a o js m. (selector_of types w.0 o m, w.1)
  operator_row_lem l m n c false ks i = λ e w j o. (operation_of types (operator_byte_lem c) w.0 o, w.1)

  -- so it is with each operator of the levels asked for
  operator_kept : (l m c : ℕ) (ks : Nodes) (i : Node) (r : Row) (o : Option ℕ) → operator_in l m c o ≡ some r → RowKept (ks ▸ i) (operators l m) c r
  operator_kept l m c ks i r none e = none_not_some e
  operator_kept l m c ks i r (some n) e = go (leb l n && leb n m) e
    where
      go : (t : Bool) → ◌≡◌ {A = Option Row} (pick t (some (operator_row l c n)) none) (some r) → RowKept (ks ▸ i) (operators l m) c r
      go true e = subst (λ (r : Row). RowKept (ks ▸ i) (operators l m) c r) (same_result (operator_row l c n) r e) (operator_row_lem l m n c (eqb c question) ks i)
      go false e = none_not_some e

  -- a bare word is the type of an attribute read
  bare_row : (ks : Nodes) (i : Node) → Bare S i → RowKept (ks ▸ i) read_or_word left_square (row (instead 0x18 ∷ []) (expression 1 ∷ sign right_square ∷ sign left_square ∷ a_name ∷ sign right_square ∷ ends ∷ []))
  bare_row ks i (bare_word v) = λ e w j o n y. w.1 _ (read_of types v y o)

  -- ---- All rows

  -- what must hold before a symbol is kept where it takes a token
  pub row_kept : (s : Symbol) (ks : Nodes) (ds : List Action) (ss : List Symbol) → row_of s (kind (token_of x)) ≡ some (row ds ss) → BeforeAll types S Q (s ∷ k) (build b (frame q u g ks) fs) → DoingAll types S ds x (BeforeAll types S Q (ss ++ k)) (build b (frame q u g ks) fs)
  unfolding row_of
  row_kept (sign c) ks ds ss e = taken_row ks (sign c) ds ss e ((λ e w. w), tt)
  row_kept a_name ks ds ss e = taken_row ks a_name ds ss e ((λ e w. w _ (word_spelled types (token_of x) good e)), tt)
  row_kept (expression l) ks ds ss e = taken_row ks (expression l) ds ss e (operand_rows_lem ks l)
  row_kept (operators l m) empty ds ss e = λ w. absurd w
  row_kept (operators l m) (ks ▸ i) ds ss e = operator_kept l m (kind (token_of x)) ks i (row ds ss) (binds (kind (token_of x))) e refl
  row_kept read_or_word empty ds ss e = λ w. absurd w
  row_kept read_or_word (ks ▸ i) ds ss e = λ w. taken_row (ks ▸ i) read_or_word ds ss e (bare_row ks i w.0, tt) w
  row_kept close_bracket ks ds ss e = taken_row ks close_bracket ds ss e ((λ e w. w), tt)
  row_kept (one y) ks ds ss e = taken_row ks (one y) ds ss e (entry_rows_lem ks y)
  row_kept (maybe y) ks ds ss e = taken_row ks (maybe y) ds ss e (rows_from ks (one y) (maybe y) (λ w i o js m. w js (further_field o m)) (entry_rows y) (entry_rows_lem ks y))
  row_kept (further y) ks ds ss e = taken_row ks (further y) ds ss e ((λ e w. w), tt)
  row_kept statements ks ds ss e = taken_row ks statements ds ss e (block_rows ks)
  row_kept block ks ds ss e = taken_row ks block ds ss e ((λ e w js m. w _ (block_of types m)), tt)
  row_kept otherwise ks ds ss e = taken_row ks otherwise ds ss e ((λ e w. w), tt)
  row_kept branches ks ds ss e = taken_row ks branches ds ss e (branch_rows ks)
  row_kept items ks ds ss e = taken_row ks items ds ss e (item_rows_lem ks)
  row_kept class_rest ks ds ss e = taken_row ks class_rest ds ss e (class_rows_lem ks)
  row_kept parameters ks ds ss e = taken_row ks parameters ds ss e ((λ e w. w), tt)
  row_kept default_value ks ds ss e = taken_row ks default_value ds ss e ((λ e w. w.1), tt)
  row_kept a_constant ks ds ss e = taken_row ks a_constant ds ss e (constant_rows_lem ks a_constant [] [] (λ c n e w. w _ (constant_here e n)))
  row_kept inherits ks ds ss e = taken_row ks inherits ds ss e ((λ e w. w.1), tt)
  row_kept parent ks ds ss e = taken_row ks parent ds ss e ((λ e w. w _ (parent_of types (word_spelled types (token_of x) good e))), tt)
  row_kept devices ks ds ss e = taken_row ks devices ds ss e (node_rows_lem ks)
  row_kept device ks ds ss e = taken_row ks device ds ss e (device_rows_lem ks)
  row_kept more_devices ks ds ss e = taken_row ks more_devices ds ss e ((λ e w i o js m. w js (further_field o m)), tt)
  row_kept ends ks ds ss e = none_not_some e
