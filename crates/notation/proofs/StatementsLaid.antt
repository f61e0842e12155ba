-- The tokens of statements and items that pass check 26 can be laid out.
use Prim.Native.Nat.{ℕ, ◌≤◌}
use mathlib.Core.Path.{◌≡◌, refl, sym, subst}
use mathlib.Core.Bool.{Bool, true, false}
use mathlib.Core.List.{List, [], ◌∷◌, ◌++◌}
use mathlib.Core.Option.{Option, none, some}
use native.Mathlib.Omega.{arith}
use lib.Dec.{eqb}
use lib.ListN.{length}
use Rattle.rules.specs.Tree.{Constant, Expression, AttributeField, Statement, assignment, conditional, choice, built_in_resource, defined_resource, class_with_attributes, include, Block, end, next, Branches, no_branch, branch, default_branch, Parameter, Parent, type_definition, class_definition, Devices, named, by_default, Item, statement, definition}
use Rattle.rules.specs.Tree
use Rattle.rules.proofs.Within.{false_not_true}
use Rattle.rules.specs.Types.{Types}
use Rattle.notation.specs.Tokens.{Lexeme, a_word, a_text, a_variable, left_brace, right_brace, left_round, right_round, colon, arrow, equals, default_word, if_word, case_word, node_word, operand_behind}
use Rattle.notation.specs.Printer.{is_name}
use Rattle.notation.specs.Print.{Rest, the, constants_of, constants_of_attributes, constants_of_statement, constants_of_block, constants_of_branches, constants_of_default, constants_of_parameters, constants_of_item, printed_entries, printed_else, printed_attribute, printed_attributes, printed_resource, printed_statement, printed_block, printed_branches, printed_default, printed_parameter, printed_parameters, printed_parent, printed_device, printed_devices, in_braces, printed_item, printed_items}
use Rattle.notation.proofs.LaidOut.{operand_after, Layable}
use Rattle.notation.proofs.EntriesBack.{EachOf, Always, always}
use Rattle.notation.proofs.Spelled.{Rises, rises_assoc, begins, SpelledExpression, SpelledAttribute, SpelledStatement, SpelledBlock, SpelledBranches, SpelledParameter, SpelledParent, SpelledItem}
use Rattle.notation.proofs.ExpressionsLaid.{Goes, laid_constant, laid_separated, laid_expression}

-- the constants of items, in their order
unfoldable pub constants_of_items : List Item → List Constant
constants_of_items [] = []
constants_of_items (i ∷ is) = constants_of_item i ++ constants_of_items is

module _ (types : Types) (S : ℕ → List ℕ) (short : (n : ℕ) → length (S n) ≤ 255) where
  -- ---- Entries with commas, if each can be laid out

  module _ {A : Type 0} (p : A → ℕ → Rest → List Lexeme) (f : A → List Constant) (all : List A → List Constant) (All-none : all [] ≡ []) (All-more : (x : A) (xs : List A) → all (x ∷ xs) ≡ f x ++ all xs) (P : A → Type 0)
      (each : (a : A) → P a → (more : List Constant) (v : ℕ) → Rises v (f a ++ more) → (before : Option ℕ) → operand_after before ≡ true → (rest : Rest) → Goes rest more → Layable before v (p a v rest)) where
    laid_entries : (xs : List A) → EachOf P xs → (more : List Constant) (later : Bool) (v : ℕ) → Rises v (all xs ++ more) → (k : ℕ) → (later ≡ false → operand_behind k ≡ true) → (rest : Rest) → Goes rest more → (Rises v more → Layable (some k) v (rest v)) → Layable (some k) v (printed_entries p xs later v rest)
    unfolding printed_entries
    laid_entries [] s more later v r k o rest g first = first (subst (λ (cs : List Constant). Rises v (cs ++ more)) All-none r)
    laid_entries (x ∷ xs) s more later v r k o rest g first =
        laid_separated types S short later v k o _
        (λ before o. each x s.0 (all xs ++ more) v (rises_assoc (f x) (all xs) more v (subst (λ (cs : List Constant). Rises v (cs ++ more)) (All-more x xs) r)) before o _
        (λ w k n r. laid_entries xs s.1 more true w r k (λ e. false_not_true (sym e)) rest g (g w k n)))

  -- ---- Attributes

  laid_attribute : (f : AttributeField) → SpelledAttribute types S f → (more : List Constant) (v : ℕ) → Rises v (constants_of f.expression ++ more) → (before : Option ℕ) → operand_after before ≡ true → (rest : Rest) → Goes rest more → Layable before v (printed_attribute S f v rest)
  unfolding operand_behind
  laid_attribute f s more v r before o rest g =
      let b = begins (constants_of f.expression) more v r in
      (b.later, (s.0, short f.name), (omega arith, (refl, refl), laid_expression types S short f.expression s.1 more 1 _ b.rises (some arrow) _ (omega arith) refl rest g))

  -- behind the colon, up to the closing brace
  laid_attributes : (fs : List AttributeField) → EachOf (SpelledAttribute types S) fs → (more : List Constant) (v : ℕ) → Rises v (constants_of_attributes fs ++ more) → (rest : Rest) → Goes rest more → Layable (some colon) v (printed_attributes S fs v (λ u. the u right_brace ∷ rest u))
  unfolding constants_of_attributes operand_behind
  laid_attributes fs s more v r rest g =
      laid_entries (printed_attribute S) (λ f. constants_of f.expression) constants_of_attributes refl (λ f fs. refl) (SpelledAttribute types S) laid_attribute fs s more false v r colon (λ e. refl) _
      (λ w k n r. (omega arith, (refl, refl), g w right_brace refl r)) (λ r. (omega arith, (refl, refl), g v right_brace refl r))

  laid_resource : (t : ℕ) (a : Expression) (fs : List AttributeField) → is_name (S t) ≡ true → SpelledExpression types S a → EachOf (SpelledAttribute types S) fs → (more : List Constant) (v : ℕ) → Rises v ((constants_of a ++ constants_of_attributes fs) ++ more) → (before : Option ℕ) (u : ℕ) → u ≤ v → (rest : Rest) → Goes rest more → Layable before u (printed_resource S t a fs v rest)
  unfolding operand_behind
  laid_resource t a fs n s ss more v r before u h rest g = (
    h,
    (n, short t),
    (
      omega arith,
      (refl, refl),
      laid_expression types S short a s (constants_of_attributes fs ++ more) 1 v (rises_assoc (constants_of a) (constants_of_attributes fs) more v r) (some left_brace) v (omega arith) refl _
          (λ w k n r. (omega arith, (refl, n), laid_attributes fs ss more w r rest g)),
    ),
  )

  -- ---- Statements

  -- three lists one after the other
  three_apart : (xs ys zs more : List Constant) (v : ℕ) → Rises v (((xs ++ ys) ++ zs) ++ more) → Rises v (xs ++ (ys ++ (zs ++ more)))
  three_apart xs ys zs more v r = rises_assoc xs ys (zs ++ more) v (rises_assoc (xs ++ ys) zs more v r)

  -- else, which is printed where the block n holds a statement; behind the brace of the first block
  laid_else : (n : Block) (more : List Constant) (v : ℕ) → Rises v (constants_of_block n ++ more) → (rest : Rest) → Goes rest more → Layable (some left_brace) v (printed_block S n v (λ u. the u right_brace ∷ rest u)) →
      Layable (some right_brace) v (printed_else n (λ z r. printed_block S n z r) v rest)
  unfolding printed_else constants_of_block
  laid_else end more v r rest g b = g v right_brace refl r
  laid_else (next s c) more v r rest g b = (omega arith, (refl, refl), (omega arith, (refl, refl), b))

  mutual
    unfolding printed_statement constants_of_statement operand_behind

    laid_statement : (s : Statement) → SpelledStatement types S s → (more : List Constant) (v : ℕ) → Rises v (constants_of_statement s ++ more) → (before : Option ℕ) (u : ℕ) → u ≤ v → (rest : Rest) → Goes rest more → Layable before u (printed_statement S s v rest)
    laid_statement (assignment p n a) s more v r before u h rest g = (h, (s.0, short n), (omega arith, (refl, refl), laid_expression types S short a s.1 more 1 v r (some equals) v (omega arith) refl rest g))
    laid_statement (conditional p a y n) s more v r before u h rest g = (
      h,
      (refl, refl),
      laid_expression types S short a s.0 (constants_of_block y ++ (constants_of_block n ++ more)) 1 v (three_apart (constants_of a) (constants_of_block y) (constants_of_block n) more v r) (some if_word) v (omega arith) refl _
          (λ w k m r. (
            omega arith,
            (refl, refl),
            laid_block y s.1 (constants_of_block n ++ more) w r left_brace refl _
                (λ w k m r. (omega arith, (refl, refl), laid_else n more w r rest g (laid_block n s.2 more w r left_brace refl _ (λ w k m r. (omega arith, (refl, refl), g w right_brace refl r))))),
          )),
    )
    laid_statement (choice p a bs) s more v r before u h rest g = (
      h,
      (refl, refl),
      laid_expression types S short a s.0 (constants_of_branches bs ++ more) 1 v (rises_assoc (constants_of a) (constants_of_branches bs) more v r) (some case_word) v (omega arith) refl _
          (λ w k m r. (omega arith, (refl, refl), laid_branches bs s.1 more w r left_brace refl refl _ (λ w k m r. (omega arith, (refl, refl), g w right_brace refl r)))),
    )
    laid_statement (built_in_resource p t a fs) s more v r before u h rest g = laid_resource t a fs s.0 s.2 s.3 more v r before u h rest g
    laid_statement (defined_resource p t a fs) s more v r before u h rest g = laid_resource t a fs s.0 s.2 s.3 more v r before u h rest g
    laid_statement (class_with_attributes p c fs) s more v r before u h rest g = (h, (refl, refl), (omega arith, (refl, refl), (omega arith, (s.0, short c), (omega arith, (refl, refl), laid_attributes fs s.1 more v r rest g))))
    laid_statement (include p c) s more v r before u h rest g = (h, (refl, refl), (omega arith, (s, short c), g v a_word refl r))
    laid_statement (Statement.unreadable p) s more v r before u h rest g = absurd s

    -- a block behind a token of kind k
    laid_block : (b : Block) → SpelledBlock types S b → (more : List Constant) (v : ℕ) → Rises v (constants_of_block b ++ more) → (k : ℕ) → eqb k colon ≡ false → (rest : Rest) → Goes rest more → Layable (some k) v (printed_block S b v rest)
    laid_block end s more v r k n rest g = g v k n r
    laid_block (next s b) ss more v r k n rest g =
        let c = begins (constants_of_statement s) (constants_of_block b ++ more) v (rises_assoc (constants_of_statement s) (constants_of_block b) more v r) in
        laid_statement s ss.0 (constants_of_block b ++ more) _ c.rises (some k) v c.later _
        (λ w k n r. laid_block b ss.1 more w r k n rest g)

    laid_branches : (bs : Branches) → SpelledBranches types S bs → (more : List Constant) (v : ℕ) → Rises v (constants_of_branches bs ++ more) → (k : ℕ) → eqb k colon ≡ false → operand_behind k ≡ true → (rest : Rest) → Goes rest more → Layable (some k) v (printed_branches S bs v rest)
    laid_branches no_branch s more v r k n o rest g = g v k n r
    laid_branches (branch c b bs) s more v r k n o rest g =
        laid_constant types S short c (constants_of_block b ++ (constants_of_branches bs ++ more)) v (r.0, r.1, rises_assoc (constants_of_block b) (constants_of_branches bs) more c.label r.2) (some k) v (omega arith) o
        (λ w. the w colon ∷ the w left_brace ∷ printed_block S b w (λ u. the u right_brace ∷ printed_branches S bs u rest))
        (λ w k n r. (
          omega arith,
          (refl, n),
          (
            omega arith,
            (refl, refl),
            laid_block b s.0 (constants_of_branches bs ++ more) w r left_brace refl _
                (λ w k n r. (omega arith, (refl, refl), laid_branches bs s.1 more w r right_brace refl refl rest g)),
          ),
        ))
    laid_branches (default_branch b bs) s more v r k n o rest g =
        let c = begins (constants_of_block b) (constants_of_branches bs ++ more) v (rises_assoc (constants_of_block b) (constants_of_branches bs) more v r) in (
          c.later,
          (refl, refl),
          (
            omega arith,
            (refl, refl),
            (
              omega arith,
              (refl, refl),
              laid_block b s.0 (constants_of_branches bs ++ more) _ c.rises left_brace refl _
                  (λ w k n r. (omega arith, (refl, refl), laid_branches bs s.1 more w r right_brace refl refl rest g)),
            ),
          ),
        )

  -- ---- Items

  laid_default : (c : Option Constant) (more : List Constant) (v : ℕ) → Rises v (constants_of_default c ++ more) → (rest : Rest) → Goes rest more → Layable (some a_variable) v (printed_default S c v rest)
  unfolding constants_of_default operand_behind
  laid_default none more v r rest g = g v a_variable refl r
  laid_default (some c) more v r rest g = (omega arith, (refl, refl), laid_constant types S short c more v r (some equals) v (omega arith) refl rest g)

  laid_parameter : (q : Parameter) → SpelledParameter types S q → (more : List Constant) (v : ℕ) → Rises v (constants_of_default q.default ++ more) → (before : Option ℕ) → operand_after before ≡ true → (rest : Rest) → Goes rest more → Layable before v (printed_parameter S q v rest)
  laid_parameter q s more v r before o rest g =
      let b = begins (constants_of_default q.default) more v r in
      (b.later, (s, short q.name), laid_default q.default more _ b.rises rest g)

  laid_parameters : (ps : List Parameter) → EachOf (SpelledParameter types S) ps → (more : List Constant) (v : ℕ) → Rises v (constants_of_parameters ps ++ more) → (rest : Rest) → Goes rest more → Layable (some a_word) v (printed_parameters S ps v rest)
  unfolding constants_of_parameters operand_behind
  laid_parameters [] s more v r rest g = g v a_word refl r
  laid_parameters (p ∷ ps) s more v r rest g = (
    omega arith,
    (refl, refl),
    laid_entries (printed_parameter S) (λ q. constants_of_default q.default) constants_of_parameters refl (λ q qs. refl) (SpelledParameter types S) laid_parameter (p ∷ ps) s more false v r left_round (λ e. refl) _
        (λ w k n r. (omega arith, (refl, refl), g w right_round refl r)) (λ r. (omega arith, (refl, refl), g v right_round refl r)),
  )

  laid_parent : (p : Option Parent) → SpelledParent types S p → (more : List Constant) (v k : ℕ) → eqb k colon ≡ false → Rises v more → (rest : Rest) → Goes rest more → Layable (some k) v (printed_parent S p v rest)
  laid_parent none s more v k n r rest g = g v k n r
  laid_parent (some p) s more v k n r rest g = (omega arith, (refl, refl), (omega arith, (s, short p.name), g v a_word refl r))

  laid_devices : (ds : Devices) (more : List Constant) (v : ℕ) → Rises v more → (rest : Rest) → Goes rest more → Layable (some node_word) v (printed_devices S ds v rest)
  unfolding operand_behind
  laid_devices (named ns) more v r rest g =
      laid_entries (printed_device S) (λ n. []) (λ ns. []) refl (λ n ns. refl) Always (λ n s more v r before o rest g. (omega arith, short n, g v a_text refl r)) ns (always ns) more false v r node_word (λ e. refl) rest g (g v node_word refl)
  laid_devices by_default more v r rest g = (omega arith, (refl, refl), g v default_word refl r)

  laid_braces : (b : Block) → SpelledBlock types S b → (more : List Constant) (v k : ℕ) → Rises v (constants_of_block b ++ more) → (rest : Rest) → Goes rest more → Layable (some k) v (in_braces S b v rest)
  laid_braces b s more v k r rest g = (omega arith, (refl, refl), laid_block b s more v r left_brace refl _ (λ w k n r. (omega arith, (refl, refl), g w right_brace refl r)))

  laid_item : (i : Item) → SpelledItem types S i → (more : List Constant) (v : ℕ) → Rises v (constants_of_item i ++ more) → (before : Option ℕ) (u : ℕ) → u ≤ v → (rest : Rest) → Goes rest more → Layable before u (printed_item S i v rest)
  unfolding printed_item constants_of_item
  laid_item (statement s) ss more v r before u h rest g = laid_statement s ss more v r before u h rest g
  laid_item (Item.node ds b) s more v r before u h rest g = (h, (refl, refl), laid_devices ds (constants_of_block b ++ more) v r _ (λ w k n r. laid_braces b s more w k r rest g))
  laid_item (definition (type_definition d)) s more v r before u h rest g = (
    h,
    (refl, refl),
    (
      omega arith,
      (s.0, short d.name),
      laid_parameters d.parameters s.1 (constants_of_block d.body ++ more) v (rises_assoc (constants_of_parameters d.parameters) (constants_of_block d.body) more v r) _
          (λ w k n r. laid_braces d.body s.2 more w k r rest g),
    ),
  )
  laid_item (definition (class_definition d)) s more v r before u h rest g = (
    h,
    (refl, refl),
    (
      omega arith,
      (s.0, short d.name),
      laid_parameters d.parameters s.2 (constants_of_block d.body ++ more) v (rises_assoc (constants_of_parameters d.parameters) (constants_of_block d.body) more v r) _
          (λ w k n r. laid_parent d.parent s.1 (constants_of_block d.body ++ more) w k n r _ (λ w k n r. laid_braces d.body s.3 more w k r rest g)),
    ),
  )

  -- items behind others, or at the start
  laid_items : (is : List Item) → EachOf (SpelledItem types S) is → (v : ℕ) → Rises v (constants_of_items is) → (before : Option ℕ) → Layable before v (printed_items S is v (λ u. []))
  unfolding printed_items constants_of_items
  laid_items [] s v r before = tt
  laid_items (i ∷ is) s v r before =
      let b = begins (constants_of_item i) (constants_of_items is) v r in
      laid_item i s.0 (constants_of_items is) _ b.rises before v b.later _ (λ w k n r. laid_items is s.1 w r (some k))

  -- THE LAW: the tokens of a manifest that passes check 26 can be laid out
  pub laid_manifest : (is : List Item) → EachOf (SpelledItem types S) is → Rises 0 (constants_of_items is) → Layable none 0 (printed_items S is 0 (λ u. []))
  laid_manifest is s r = laid_items is s 0 r none
