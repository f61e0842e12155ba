-- The strings in the tokens of a printed manifest are among its strings. Each lemma takes what follows its form: where that has its strings there on
-- every line, so has the form with it.
use Prim.Native.Nat.{ℕ, zero, suc, ◌<◌}
use mathlib.Core.Path.{◌≡◌}
use mathlib.Core.Bool.{Bool, true, false}
use mathlib.Core.List.{List, [], ◌∷◌}
use mathlib.Core.Option.{Option, none, some}
use native.Mathlib.Omega.{arith}
use lib.Dec.{leb}
use lib.ListN.{length}
use Rattle.values.specs.declared.Value.{Value}
use Rattle.values.specs.declared.Value.TheVariants.{Integer, String, Boolean}
use Rattle.rules.specs.Check.{check}
use Rattle.rules.specs.Compile.{string_at}
use Rattle.rules.specs.EditRule.{IsBytes}
use Rattle.rules.specs.Ranges.{Each, none_left, also}
use Rattle.rules.specs.Read.{manifest_of}
use Rattle.rules.specs.Tree.{Constant, Expression, constant, variable, top_variable, class_variable, operation, negation, attribute_read, selector, Arms, no_arm, arm, default_arm, AttributeField, Statement, assignment, conditional, choice, built_in_resource, defined_resource, class_with_attributes, include, Block, end, next, Branches, no_branch, branch, default_branch, Parameter, Parent, type_definition, class_definition, Devices, named, by_default, Item, statement, definition}
use Rattle.rules.specs.Tree
use Rattle.notation.specs.Tokens.{Token, Lexeme}
use Rattle.notation.specs.Convert.{strings_of}
use Rattle.notation.specs.Print.{at, the, Rest, level_of, bracketed, separated, printed_entries, printed_else, value_token, constant_lexeme, printed, printed_arms, printed_attribute, printed_attributes, printed_resource, printed_statement, printed_block, printed_branches, printed_default, printed_parameter, printed_parameters, printed_parent, printed_device, printed_devices, in_braces, printed_item, printed_items}
use Rattle.notation.proofs.EntriesBack.{EachOf}
use Rattle.notation.proofs.StringTable.{Among, at_first, later, StringsIn}
use Rattle.notation.proofs.KnownTree.{KnownName, KnownValue, KnownConstant, KnownExpression, KnownArms, KnownAttribute, KnownStatement, KnownBlock, KnownBranches, KnownDefault, KnownParameter, KnownParent, KnownDevices, KnownItem, tree_known}
use Rattle.rules.specs.Verdicts.{no_fault}

-- Q holds of the string of each number below n
module _ (S : ℕ → List ℕ) (Q : List ℕ → Type 0) (n : ℕ) (holds : (i : ℕ) → i < n → Q (S i)) where
  -- Q holds of the strings of each token
  abbrev Fine : List Lexeme → Type 0
  Fine xs = Each (StringsIn Q) xs

  -- and of those of what follows, on every line
  abbrev Goes : Rest → Type 0
  Goes rest = (v : ℕ) → Fine (rest v)

  -- ---- One token, and those behind it

  mark_fine : {v k : ℕ} {xs : List Lexeme} → Fine xs → Fine (the v k ∷ xs)
  unfolding strings_of
  mark_fine f = also none_left f

  word_fine : {v : ℕ} (i : ℕ) {xs : List Lexeme} → KnownName n i → Fine xs → Fine (at v (Token.word (S i)) ∷ xs)
  unfolding strings_of
  word_fine i k f = also (also (holds i k) none_left) f

  text_fine : {v : ℕ} (i : ℕ) {xs : List Lexeme} → KnownName n i → Fine xs → Fine (at v (Token.text (S i)) ∷ xs)
  unfolding strings_of
  text_fine i k f = also (also (holds i k) none_left) f

  variable_fine : {v : ℕ} (i : ℕ) {xs : List Lexeme} → KnownName n i → Fine xs → Fine (at v (Token.variable (S i)) ∷ xs)
  unfolding strings_of
  variable_fine i k f = also (also (holds i k) none_left) f

  value_fine : (x : Value) → KnownValue n x → Each Q (strings_of (value_token S x))
  unfolding strings_of value_token
  value_fine (Integer z) k = none_left
  value_fine (String i) k = also (holds i k) none_left
  value_fine (Boolean true) k = none_left
  value_fine (Boolean false) k = none_left

  constant_fine : (c : Constant) {xs : List Lexeme} → KnownConstant n c → Fine xs → Fine (constant_lexeme S c ∷ xs)
  constant_fine c k f = also (value_fine c.value k) f

  -- in brackets or not
  bracketed_fine : (b : Bool) (p : ℕ → Rest → List Lexeme) → ((v : ℕ) (rest : Rest) → Goes rest → Fine (p v rest)) → (v : ℕ) (rest : Rest) → Goes rest → Fine (bracketed b p v rest)
  bracketed_fine true p each v rest g = each v rest g
  bracketed_fine false p each v rest g = mark_fine (each v _ (λ u. mark_fine (g u)))

  -- behind a comma or not
  separated_fine : (behind : Bool) (v : ℕ) {xs : List Lexeme} → Fine xs → Fine (separated behind v xs)
  separated_fine false v f = f
  separated_fine true v f = mark_fine f

  -- ---- Expressions: fine with whatever fine follows them

  mutual
    unfolding printed strings_of

    expression_fine : (e : Expression) → KnownExpression n e → (l v : ℕ) (rest : Rest) → Goes rest → Fine (printed S e l v rest)
    expression_fine (constant c) k l v rest g = constant_fine c k (g c.label)
    expression_fine (variable p i) k l v rest g = variable_fine i k (g v)
    expression_fine (top_variable p i) k l v rest g = also (also (holds i k) none_left) (g v)
    expression_fine (class_variable p c i) k l v rest g = also (also (holds c k.0) (also (holds i k.1) none_left)) (g v)
    expression_fine (operation p o a b) k l v rest g =
        bracketed_fine (leb l (level_of o)) _
        (λ w r g. expression_fine a k.0 (level_of o) w _ (λ u. mark_fine (expression_fine b k.1 (suc (level_of o)) u r g))) v rest g
    expression_fine (negation p a) k l v rest g = mark_fine (expression_fine a k 8 v rest g)
    expression_fine (attribute_read p t i a) k l v rest g =
        word_fine t k.0 (mark_fine (expression_fine a k.2 1 v _ (λ u. mark_fine (mark_fine (word_fine i k.1 (mark_fine (g u)))))))
    expression_fine (selector p a s) k l v rest g =
        bracketed_fine (leb l 3) _
        (λ w r g. expression_fine a k.0 3 w _ (λ u. mark_fine (mark_fine (arms_fine s k.1 false u _ (λ x. mark_fine (g x)))))) v rest g
    expression_fine (Expression.unreadable p) k l v rest g = g v

    arms_fine : (s : Arms) → KnownArms n s → (behind : Bool) (v : ℕ) (rest : Rest) → Goes rest → Fine (printed_arms S s behind v rest)
    arms_fine no_arm k behind v rest g = g v
    arms_fine (arm c a s) k behind v rest g = separated_fine behind v (constant_fine c k.0 (mark_fine (expression_fine a k.1 1 c.label _ (λ u. arms_fine s k.2 true u rest g))))
    arms_fine (default_arm a s) k behind v rest g = separated_fine behind v (mark_fine (mark_fine (expression_fine a k.0 1 _ _ (λ u. arms_fine s k.1 true u rest g))))

  -- ---- Entries with commas, if each is fine

  entries_fine : {A : Type 0} (p : A → ℕ → Rest → List Lexeme) (P : A → Type 0) → ((a : A) → P a → (v : ℕ) (rest : Rest) → Goes rest → Fine (p a v rest)) → (xs : List A) → EachOf P xs → (behind : Bool) (v : ℕ) (rest : Rest) → Goes rest → Fine (printed_entries p xs behind v rest)
  unfolding printed_entries
  entries_fine p P each [] k behind v rest g = g v
  entries_fine p P each (x ∷ xs) k behind v rest g = separated_fine behind v (each x k.0 v _ (λ u. entries_fine p P each xs k.1 true u rest g))

  attribute_fine : (f : AttributeField) → KnownAttribute n f → (v : ℕ) (rest : Rest) → Goes rest → Fine (printed_attribute S f v rest)
  attribute_fine f k v rest g = word_fine f.name k.0 (mark_fine (expression_fine f.expression k.1 1 _ rest g))

  attributes_fine : (fs : List AttributeField) → EachOf (KnownAttribute n) fs → (v : ℕ) (rest : Rest) → Goes rest → Fine (printed_attributes S fs v rest)
  attributes_fine fs k v rest g = entries_fine (printed_attribute S) (KnownAttribute n) attribute_fine fs k false v rest g

  -- ---- Statements

  resource_fine : (t : ℕ) (a : Expression) (fs : List AttributeField) → KnownName n t → KnownExpression n a → EachOf (KnownAttribute n) fs → (v : ℕ) (rest : Rest) → Goes rest → Fine (printed_resource S t a fs v rest)
  resource_fine t a fs i j k v rest g = word_fine t i (mark_fine (expression_fine a j 1 v _ (λ u. mark_fine (attributes_fine fs k u _ (λ w. mark_fine (g w))))))

  -- else and a block, or nothing
  else_fine : (b : Block) (p : ℕ → Rest → List Lexeme) → ((v : ℕ) (rest : Rest) → Goes rest → Fine (p v rest)) → (v : ℕ) (rest : Rest) → Goes rest → Fine (printed_else b p v rest)
  unfolding printed_else
  else_fine end p each v rest g = g v
  else_fine (next s b) p each v rest g = mark_fine (mark_fine (each v _ (λ u. mark_fine (g u))))

  mutual
    unfolding printed_statement

    statement_fine : (s : Statement) → KnownStatement n s → (v : ℕ) (rest : Rest) → Goes rest → Fine (printed_statement S s v rest)
    statement_fine (assignment p i a) k v rest g = variable_fine i k.0 (mark_fine (expression_fine a k.1 1 v rest g))
    statement_fine (conditional p a y z) k v rest g =
        mark_fine (expression_fine a k.0 1 v _
        (λ u. mark_fine (block_fine y k.1 u _
        (λ w. mark_fine (else_fine z _ (λ x r g. block_fine z k.2 x r g) w rest g)))))
    statement_fine (choice p a bs) k v rest g = mark_fine (expression_fine a k.0 1 v _ (λ u. mark_fine (branches_fine bs k.1 u _ (λ w. mark_fine (g w)))))
    statement_fine (built_in_resource p t a fs) k v rest g = resource_fine t a fs k.0 k.1 k.2 v rest g
    statement_fine (defined_resource p t a fs) k v rest g = resource_fine t a fs k.0 k.1 k.2 v rest g
    statement_fine (class_with_attributes p c fs) k v rest g = mark_fine (mark_fine (word_fine c k.0 (mark_fine (attributes_fine fs k.1 v _ (λ w. mark_fine (g w))))))
    statement_fine (include p c) k v rest g = mark_fine (word_fine c k (g v))
    statement_fine (Statement.unreadable p) k v rest g = g v

    block_fine : (b : Block) → KnownBlock n b → (v : ℕ) (rest : Rest) → Goes rest → Fine (printed_block S b v rest)
    block_fine end k v rest g = g v
    block_fine (next s b) k v rest g = statement_fine s k.0 _ _ (λ u. block_fine b k.1 u rest g)

    branches_fine : (bs : Branches) → KnownBranches n bs → (v : ℕ) (rest : Rest) → Goes rest → Fine (printed_branches S bs v rest)
    branches_fine no_branch k v rest g = g v
    branches_fine (branch c b bs) k v rest g = constant_fine c k.0 (mark_fine (mark_fine (block_fine b k.1 c.label _ (λ u. mark_fine (branches_fine bs k.2 u rest g)))))
    branches_fine (default_branch b bs) k v rest g = mark_fine (mark_fine (mark_fine (block_fine b k.0 _ _ (λ u. mark_fine (branches_fine bs k.1 u rest g)))))

  -- ---- Items

  default_fine : (c : Option Constant) → KnownDefault n c → (v : ℕ) (rest : Rest) → Goes rest → Fine (printed_default S c v rest)
  default_fine none k v rest g = g v
  default_fine (some c) k v rest g = mark_fine (constant_fine c k (g c.label))

  parameter_fine : (q : Parameter) → KnownParameter n q → (v : ℕ) (rest : Rest) → Goes rest → Fine (printed_parameter S q v rest)
  parameter_fine q k v rest g = variable_fine q.name k.0 (default_fine q.default k.1 _ rest g)

  parameters_fine : (qs : List Parameter) → EachOf (KnownParameter n) qs → (v : ℕ) (rest : Rest) → Goes rest → Fine (printed_parameters S qs v rest)
  parameters_fine [] k v rest g = g v
  parameters_fine (q ∷ qs) k v rest g = mark_fine (entries_fine (printed_parameter S) (KnownParameter n) parameter_fine (q ∷ qs) k false v _ (λ u. mark_fine (g u)))

  parent_fine : (q : Option Parent) → KnownParent n q → (v : ℕ) (rest : Rest) → Goes rest → Fine (printed_parent S q v rest)
  parent_fine none k v rest g = g v
  parent_fine (some q) k v rest g = mark_fine (word_fine q.name k (g v))

  devices_fine : (ds : Devices) → KnownDevices n ds → (v : ℕ) (rest : Rest) → Goes rest → Fine (printed_devices S ds v rest)
  devices_fine (named is) k v rest g = entries_fine (printed_device S) (KnownName n) (λ i k v rest g. text_fine i k (g v)) is k false v rest g
  devices_fine by_default k v rest g = mark_fine (g v)

  -- a block in braces
  braces_fine : (b : Block) → KnownBlock n b → (v : ℕ) (rest : Rest) → Goes rest → Fine (in_braces S b v rest)
  braces_fine b k v rest g = mark_fine (block_fine b k v _ (λ u. mark_fine (g u)))

  item_fine : (i : Item) → KnownItem n i → (v : ℕ) (rest : Rest) → Goes rest → Fine (printed_item S i v rest)
  unfolding printed_item
  item_fine (statement s) k v rest g = statement_fine s k v rest g
  item_fine (Item.node ds b) k v rest g = mark_fine (devices_fine ds k.0 v _ (λ u. braces_fine b k.1 u rest g))
  item_fine (definition (type_definition d)) k v rest g = mark_fine (word_fine d.name k.0 (parameters_fine d.parameters k.1 v _ (λ u. braces_fine d.body k.2 u rest g)))
  item_fine (definition (class_definition d)) k v rest g =
      mark_fine (word_fine d.name k.0 (parameters_fine d.parameters k.2 v _
      (λ u. parent_fine d.parent k.1 u _
      (λ w. braces_fine d.body k.3 w rest g))))

  -- Q holds of the strings of each token of printed items whose names are all below n
  items_fine : (is : List Item) → EachOf (KnownItem n) is → (v : ℕ) (rest : Rest) → Goes rest → Fine (printed_items S is v rest)
  unfolding printed_items
  items_fine [] k v rest g = g v
  items_fine (i ∷ is) k v rest g = item_fine i k.0 _ _ (λ u. items_fine is k.1 u rest g)

-- ---- The manifest

-- a string with a number is among the strings
pub numbered_among : (table : List (List ℕ)) (i : ℕ) → i < length table → Among (string_at table i) table
unfolding string_at
numbered_among [] i h = absurd (omega arith)
numbered_among (s ∷ table) zero h = at_first
numbered_among (s ∷ table) (suc i) h = later (numbered_among table i (omega arith))

-- THE LAW: the strings in the tokens of a printed sound manifest are among its strings
pub tokens_known : (m : List ℕ) → IsBytes m → check m ≡ no_fault → Each (StringsIn (λ s. Among s (manifest_of m).strings)) (printed_items (string_at (manifest_of m).strings) (manifest_of m).items 0 (λ v. []))
tokens_known m bytes w =
    let strings : List (List ℕ) = (manifest_of m).strings in
    items_fine (string_at strings) (λ s. Among s strings) (length strings) (numbered_among strings) (manifest_of m).items (tree_known m bytes w) 0 (λ v. []) (λ v. none_left)
