-- A manifest as tokens on lines: each form as docs/NOTATION.md spells it, with brackets only where they are needed. S gives the strings by their
-- numbers. Each function takes the line on which it begins, and what follows by the line on which that begins.
use Rattle.std.specs.Prelude.{ℕ, suc, List, [], ◌∷◌, ◌++◌, Bool, true, false, leb}
use Rattle.std.proofs.Math.Option.{Option, none, some}
use Rattle.values.specs.declared.Value.{Value}
use Rattle.values.specs.declared.Value.TheVariants.{Integer, String, Boolean}
use Rattle.rules.specs.Tree.{Constant, Operator, plus, minus, divide, greater, equal, and, or, Expression, constant, variable, top_variable, class_variable, operation, negation, attribute_read, selector, Arms, no_arm, arm, default_arm, AttributeField, Statement, assignment, conditional, choice, built_in_resource, defined_resource, class_with_attributes, include, Block, end, next, Branches, no_branch, branch, default_branch, Parameter, Parent, type_definition, class_definition, Devices, named, by_default, Item, statement, node, definition}
use Rattle.rules.specs.Tree
use Rattle.notation.specs.Tokens
use Rattle.notation.specs.Tokens.{Token, Lexeme, lexeme, mark, left_brace, right_brace, left_round, right_round, left_square, right_square, colon, comma, arrow, question, exclamation, plus_sign, minus_sign, slash, above, two_equals, equals, and_word, or_word, true_word, false_word, default_word, if_word, else_word, case_word, class_word, include_word, node_word, define_word, inherits_word}

-- a token on line v; its place follows from the layout
abbrev pub at : ℕ → Token → Lexeme
at v t = lexeme 0 v t

abbrev pub the : ℕ → (kind : ℕ) → Lexeme
the v k = at v (mark k)

-- what follows, by the line on which it begins
abbrev pub Rest : Type 0
Rest = ℕ → List Lexeme

-- ---- Lines: "the line feeds that a label asks for stand before the outermost statement, branch, arm, attribute, parameter or item that begins after
-- the constant before it and holds this constant"

-- the constants of a form, in their order
unfoldable mutual
  pub constants_of : Expression → List Constant
  constants_of (constant c) = c ∷ []
  constants_of (variable p n) = []
  constants_of (top_variable p n) = []
  constants_of (class_variable p c n) = []
  constants_of (operation p o a b) = constants_of a ++ constants_of b
  constants_of (negation p a) = constants_of a
  constants_of (attribute_read p t n a) = constants_of a
  constants_of (selector p a s) = constants_of a ++ constants_of_arms s
  constants_of (Expression.unreadable p) = []

  pub constants_of_arms : Arms → List Constant
  constants_of_arms no_arm = []
  constants_of_arms (arm c a s) = c ∷ constants_of a ++ constants_of_arms s
  constants_of_arms (default_arm a s) = constants_of a ++ constants_of_arms s

unfoldable pub constants_of_attributes : List AttributeField → List Constant
constants_of_attributes [] = []
constants_of_attributes (f ∷ fs) = constants_of f.expression ++ constants_of_attributes fs

unfoldable mutual
  pub constants_of_statement : Statement → List Constant
  constants_of_statement (assignment p n a) = constants_of a
  constants_of_statement (conditional p a y n) = constants_of a ++ constants_of_block y ++ constants_of_block n
  constants_of_statement (choice p a bs) = constants_of a ++ constants_of_branches bs
  constants_of_statement (built_in_resource p t a fs) = constants_of a ++ constants_of_attributes fs
  constants_of_statement (defined_resource p t a fs) = constants_of a ++ constants_of_attributes fs
  constants_of_statement (class_with_attributes p c fs) = constants_of_attributes fs
  constants_of_statement (include p c) = []
  constants_of_statement (Statement.unreadable p) = []

  pub constants_of_block : Block → List Constant
  constants_of_block end = []
  constants_of_block (next s b) = constants_of_statement s ++ constants_of_block b

  pub constants_of_branches : Branches → List Constant
  constants_of_branches no_branch = []
  constants_of_branches (branch c b bs) = c ∷ constants_of_block b ++ constants_of_branches bs
  constants_of_branches (default_branch b bs) = constants_of_block b ++ constants_of_branches bs

unfoldable pub constants_of_default : Option Constant → List Constant
constants_of_default none = []
constants_of_default (some c) = c ∷ []

unfoldable pub constants_of_parameters : List Parameter → List Constant
constants_of_parameters [] = []
constants_of_parameters (q ∷ qs) = constants_of_default q.default ++ constants_of_parameters qs

unfoldable pub constants_of_item : Item → List Constant
constants_of_item (statement s) = constants_of_statement s
constants_of_item (node ds b) = constants_of_block b
constants_of_item (definition (type_definition d)) = constants_of_parameters d.parameters ++ constants_of_block d.body
constants_of_item (definition (class_definition d)) = constants_of_parameters d.parameters ++ constants_of_block d.body

-- the line on which something with these constants begins: that of the first one, or the line at hand
unfoldable pub line_for : List Constant → ℕ → ℕ
line_for [] v = v
line_for (c ∷ cs) v = c.label

-- ---- Operators

unfoldable pub operator_kind : Operator → ℕ
operator_kind plus = plus_sign
operator_kind minus = minus_sign
operator_kind divide = slash
operator_kind greater = above
operator_kind equal = two_equals  -- "the printer writes =="
operator_kind and = and_word
operator_kind or = or_word

-- how tightly each binds, as in the grammar
unfoldable pub level_of : Operator → ℕ
level_of plus = 6
level_of minus = 6
level_of divide = 7
level_of greater = 4
level_of equal = 5
level_of and = 2
level_of or = 1

-- in brackets, unless it binds tightly enough
abbrev pub bracketed : (tight : Bool) → (ℕ → Rest → List Lexeme) → ℕ → Rest → List Lexeme
bracketed true p v rest = p v rest
bracketed false p v rest = the v left_round ∷ p v (λ u. the u right_round ∷ rest u)

-- a comma before every entry but the first
abbrev pub separated : (later : Bool) → ℕ → List Lexeme → List Lexeme
separated false v xs = xs
separated true v xs = the v comma ∷ xs

-- entries, each of which p prints
unfoldable pub printed_entries : {A : Type 0} → (p : A → ℕ → Rest → List Lexeme) → List A → (later : Bool) → ℕ → Rest → List Lexeme
printed_entries p [] later v rest = rest v
printed_entries p (x ∷ xs) later v rest = separated later v (p x v (λ u. printed_entries p xs true u rest))

-- else and a block, which p prints, where there is a statement in it
unfoldable pub printed_else : Block → (p : ℕ → Rest → List Lexeme) → ℕ → Rest → List Lexeme
printed_else end p v rest = rest v
printed_else (next s b) p v rest = the v else_word ∷ the v left_brace ∷ p v (λ u. the u right_brace ∷ rest u)

module _ (S : ℕ → List ℕ) where
  -- ---- Expressions

  unfoldable pub value_token : Value → Token
  value_token (Integer z) = Token.number z
  value_token (String n) = Token.text (S n)
  value_token (Boolean true) = mark true_word
  value_token (Boolean false) = mark false_word

  -- a constant stands on the line that its label names
  abbrev pub constant_lexeme : Constant → Lexeme
  constant_lexeme c = at c.label (value_token c.value)

  -- an expression whose operators bind at level l or tighter
  unfoldable mutual
    pub printed : Expression → (l v : ℕ) → Rest → List Lexeme
    printed (constant c) l v rest = constant_lexeme c ∷ rest c.label
    printed (variable p n) l v rest = at v (Token.variable (S n)) ∷ rest v
    printed (top_variable p n) l v rest = at v (Token.top_variable (S n)) ∷ rest v
    printed (class_variable p c n) l v rest = at v (Token.class_variable (S c) (S n)) ∷ rest v
    printed (operation p o a b) l v rest = bracketed (leb l (level_of o)) (λ w r. printed a (level_of o) w (λ u. the u (operator_kind o) ∷ printed b (suc (level_of o)) u r)) v rest
    printed (negation p a) l v rest = the v exclamation ∷ printed a 8 v rest
    printed (attribute_read p t n a) l v rest = at v (Token.word (S t)) ∷ the v left_square ∷ printed a 1 v (λ u. the u right_square ∷ the u left_square ∷ at u (Token.word (S n)) ∷ the u right_square ∷ rest u)
    printed (selector p a s) l v rest = bracketed (leb l 3) (λ w r. printed a 3 w (λ u. the u question ∷ the u left_brace ∷ printed_arms s false u (λ x. the x right_brace ∷ r x))) v rest
    printed (Expression.unreadable p) l v rest = rest v

    pub printed_arms : Arms → (later : Bool) → ℕ → Rest → List Lexeme
    printed_arms no_arm later v rest = rest v
    printed_arms (arm c a s) later v rest = separated later v (constant_lexeme c ∷ the c.label arrow ∷ printed a 1 c.label (λ u. printed_arms s true u rest))
    printed_arms (default_arm a s) later v rest =
        let w : ℕ = line_for (constants_of a) v in
        separated later v (the w default_word ∷ the w arrow ∷ printed a 1 w (λ u. printed_arms s true u rest))

  -- ---- Statements

  abbrev pub printed_attribute : AttributeField → ℕ → Rest → List Lexeme
  printed_attribute f v rest =
      let w : ℕ = line_for (constants_of f.expression) v in
      at w (Token.word (S f.name)) ∷ the w arrow ∷ printed f.expression 1 w rest

  abbrev pub printed_attributes : List AttributeField → ℕ → Rest → List Lexeme
  printed_attributes fs v rest = printed_entries printed_attribute fs false v rest

  -- type, title and attributes
  abbrev pub printed_resource : (type : ℕ) → Expression → List AttributeField → ℕ → Rest → List Lexeme
  printed_resource t a fs v rest = at v (Token.word (S t)) ∷ the v left_brace ∷ printed a 1 v (λ u. the u colon ∷ printed_attributes fs u (λ w. the w right_brace ∷ rest w))

  unfoldable mutual
    pub printed_statement : Statement → ℕ → Rest → List Lexeme
    printed_statement (assignment p n a) v rest = at v (Token.variable (S n)) ∷ the v equals ∷ printed a 1 v rest
    printed_statement (conditional p a y n) v rest = the v if_word ∷ printed a 1 v (λ u. the u left_brace ∷ printed_block y u (λ w. the w right_brace ∷ printed_else n (λ x r. printed_block n x r) w rest))
    printed_statement (choice p a bs) v rest = the v case_word ∷ printed a 1 v (λ u. the u left_brace ∷ printed_branches bs u (λ w. the w right_brace ∷ rest w))
    printed_statement (built_in_resource p t a fs) v rest = printed_resource t a fs v rest
    printed_statement (defined_resource p t a fs) v rest = printed_resource t a fs v rest
    printed_statement (class_with_attributes p c fs) v rest = the v class_word ∷ the v left_brace ∷ at v (Token.word (S c)) ∷ the v colon ∷ printed_attributes fs v (λ w. the w right_brace ∷ rest w)
    printed_statement (include p c) v rest = the v include_word ∷ at v (Token.word (S c)) ∷ rest v
    printed_statement (Statement.unreadable p) v rest = rest v

    -- the statements of a block
    pub printed_block : Block → ℕ → Rest → List Lexeme
    printed_block end v rest = rest v
    printed_block (next s b) v rest = printed_statement s (line_for (constants_of_statement s) v) (λ u. printed_block b u rest)

    pub printed_branches : Branches → ℕ → Rest → List Lexeme
    printed_branches no_branch v rest = rest v
    printed_branches (branch c b bs) v rest = constant_lexeme c ∷ the c.label colon ∷ the c.label left_brace ∷ printed_block b c.label (λ u. the u right_brace ∷ printed_branches bs u rest)
    printed_branches (default_branch b bs) v rest =
        let w : ℕ = line_for (constants_of_block b) v in
        the w default_word ∷ the w colon ∷ the w left_brace ∷ printed_block b w (λ u. the u right_brace ∷ printed_branches bs u rest)

  -- ---- Items

  abbrev pub printed_default : Option Constant → ℕ → Rest → List Lexeme
  printed_default none v rest = rest v
  printed_default (some c) v rest = the v equals ∷ constant_lexeme c ∷ rest c.label

  abbrev pub printed_parameter : Parameter → ℕ → Rest → List Lexeme
  printed_parameter q v rest =
      let w : ℕ = line_for (constants_of_default q.default) v in
      at w (Token.variable (S q.name)) ∷ printed_default q.default w rest

  -- in brackets, only where there is one
  abbrev pub printed_parameters : List Parameter → ℕ → Rest → List Lexeme
  printed_parameters [] v rest = rest v
  printed_parameters (q ∷ qs) v rest = the v left_round ∷ printed_entries printed_parameter (q ∷ qs) false v (λ u. the u right_round ∷ rest u)

  abbrev pub printed_parent : Option Parent → ℕ → Rest → List Lexeme
  printed_parent none v rest = rest v
  printed_parent (some q) v rest = the v inherits_word ∷ at v (Token.word (S q.name)) ∷ rest v

  abbrev pub printed_device : ℕ → ℕ → Rest → List Lexeme
  printed_device n v rest = at v (Token.text (S n)) ∷ rest v

  abbrev pub printed_devices : Devices → ℕ → Rest → List Lexeme
  printed_devices (named ns) v rest = printed_entries printed_device ns false v rest
  printed_devices by_default v rest = the v default_word ∷ rest v

  -- a block in braces
  abbrev pub in_braces : Block → ℕ → Rest → List Lexeme
  in_braces b v rest = the v left_brace ∷ printed_block b v (λ u. the u right_brace ∷ rest u)

  unfoldable pub printed_item : Item → ℕ → Rest → List Lexeme
  printed_item (statement s) v rest = printed_statement s v rest
  printed_item (node ds b) v rest = the v node_word ∷ printed_devices ds v (λ u. in_braces b u rest)
  printed_item (definition (type_definition d)) v rest = the v define_word ∷ at v (Token.word (S d.name)) ∷ printed_parameters d.parameters v (λ u. in_braces d.body u rest)
  printed_item (definition (class_definition d)) v rest = the v class_word ∷ at v (Token.word (S d.name)) ∷ printed_parameters d.parameters v (λ u. printed_parent d.parent u (λ w. in_braces d.body w rest))

  unfoldable pub printed_items : List Item → ℕ → Rest → List Lexeme
  printed_items [] v rest = rest v
  printed_items (i ∷ is) v rest = printed_item i (line_for (constants_of_item i) v) (λ u. printed_items is u rest)
