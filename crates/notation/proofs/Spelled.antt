-- What the printer's check 26 asks of a tree: names that the notation can spell, types of the right sort, and constants whose labels rise.
use Prim.Native.Nat.{ℕ, ◌≤◌}
use mathlib.Core.Path.{◌≡◌, refl, subst}
use mathlib.Core.Bool.{true}
use mathlib.Core.List.{List, [], ◌∷◌, ◌++◌, append_assoc}
use mathlib.Core.Option.{Option, none, some}
use native.Mathlib.Omega.{arith}
use Rattle.values.specs.declared.Value.{Value}
use Rattle.values.specs.declared.Value.TheVariants.{Integer, String, Boolean}
use Rattle.rules.specs.Arithmetic.{fits64}
use Rattle.rules.specs.Tree.{Constant, Expression, constant, variable, top_variable, class_variable, operation, negation, attribute_read, selector, Arms, no_arm, arm, default_arm, AttributeField, Statement, assignment, conditional, choice, built_in_resource, defined_resource, class_with_attributes, include, Block, end, next, Branches, no_branch, branch, default_branch, Parameter, Parent, type_definition, class_definition, Item, statement, definition}
use Rattle.rules.specs.Tree
use Rattle.rules.specs.Types.{Types}
use Rattle.notation.specs.Building.{resource_tag}
use Rattle.notation.specs.Print.{line_for}
use Rattle.notation.specs.Printer.{is_name}
use Rattle.notation.proofs.EntriesBack.{EachOf}

-- ---- Constants on rising lines, from line v on

abbrev pub ValueFits : Value → Type 0
ValueFits (Integer z) = fits64 z ≡ true
ValueFits (String n) = Unit {0}
ValueFits (Boolean b) = Unit {0}

abbrev pub Rises : ℕ → List Constant → Type 0
Rises v [] = Unit {0}
Rises v (c ∷ cs) = (v ≤ c.label) × ValueFits c.value × Rises c.label cs

-- the line of the last constant
abbrev pub last_label : List Constant → ℕ → ℕ
last_label [] v = v
last_label (c ∷ cs) v = last_label cs c.label

pub last_append : (xs ys : List Constant) (v : ℕ) → last_label (xs ++ ys) v ≡ last_label ys (last_label xs v)
last_append [] ys v = refl
last_append (c ∷ xs) ys v = last_append xs ys c.label

pub rises_append : (xs ys : List Constant) (v : ℕ) → Rises v xs → Rises (last_label xs v) ys → Rises v (xs ++ ys)
rises_append [] ys v a b = b
rises_append (c ∷ xs) ys v a b = (a.0, a.1, rises_append xs ys c.label a.2 b)

pub rises_assoc : (xs ys zs : List Constant) (v : ℕ) → Rises v ((xs ++ ys) ++ zs) → Rises v (xs ++ (ys ++ zs))
rises_assoc xs ys zs v r = subst (λ (cs : List Constant). Rises v cs) (append_assoc xs ys zs) r

-- what holds constants begins on a line from which they rise, none before line v
pub record Begins (cs more : List Constant) (v : ℕ) : Type 0 where
  pub later : v ≤ line_for cs v
  pub rises : Rises (line_for cs v) (cs ++ more)

pub begins : (cs more : List Constant) (v : ℕ) → Rises v (cs ++ more) → Begins cs more v
unfolding line_for
begins [] more v r = record { later = omega arith; rises = r }
begins (c ∷ cs) more v r = record { later = r.0; rises = (omega arith, r.1, r.2) }

-- ---- Names and types

module _ (types : Types) (S : ℕ → List ℕ) where
  abbrev pub Named : ℕ → Type 0
  Named n = is_name (S n) ≡ true

  abbrev mutual
    pub SpelledExpression : Expression → Type 0
    SpelledExpression (constant c) = Unit {0}
    SpelledExpression (variable p n) = Named n
    SpelledExpression (top_variable p n) = Named n
    SpelledExpression (class_variable p c n) = Named c × Named n
    SpelledExpression (operation p o a b) = SpelledExpression a × SpelledExpression b
    SpelledExpression (negation p a) = SpelledExpression a
    SpelledExpression (attribute_read p t n a) = Named t × Named n × SpelledExpression a
    SpelledExpression (selector p a s) = SpelledExpression a × SpelledArms s
    SpelledExpression (Expression.unreadable p) = ⊥

    pub SpelledArms : Arms → Type 0
    SpelledArms no_arm = Unit {0}
    SpelledArms (arm c a s) = SpelledExpression a × SpelledArms s
    SpelledArms (default_arm a s) = SpelledExpression a × SpelledArms s

  abbrev pub SpelledAttribute : AttributeField → Type 0
  SpelledAttribute f = Named f.name × SpelledExpression f.expression

  abbrev mutual
    pub SpelledStatement : Statement → Type 0
    SpelledStatement (assignment p n a) = Named n × SpelledExpression a
    SpelledStatement (conditional p a y n) = SpelledExpression a × SpelledBlock y × SpelledBlock n
    SpelledStatement (choice p a bs) = SpelledExpression a × SpelledBranches bs
    SpelledStatement (built_in_resource p t a fs) = Named t × (resource_tag types (S t) ≡ 0x25) × SpelledExpression a × EachOf SpelledAttribute fs
    SpelledStatement (defined_resource p t a fs) = Named t × (resource_tag types (S t) ≡ 0x27) × SpelledExpression a × EachOf SpelledAttribute fs
    SpelledStatement (class_with_attributes p c fs) = Named c × EachOf SpelledAttribute fs
    SpelledStatement (include p c) = Named c
    SpelledStatement (Statement.unreadable p) = ⊥

    pub SpelledBlock : Block → Type 0
    SpelledBlock end = Unit {0}
    SpelledBlock (next s b) = SpelledStatement s × SpelledBlock b

    pub SpelledBranches : Branches → Type 0
    SpelledBranches no_branch = Unit {0}
    SpelledBranches (branch c b bs) = SpelledBlock b × SpelledBranches bs
    SpelledBranches (default_branch b bs) = SpelledBlock b × SpelledBranches bs

  abbrev pub SpelledParameter : Parameter → Type 0
  SpelledParameter q = Named q.name

  abbrev pub SpelledParent : Option Parent → Type 0
  SpelledParent none = Unit {0}
  SpelledParent (some q) = Named q.name

  abbrev pub SpelledItem : Item → Type 0
  SpelledItem (statement s) = SpelledStatement s
  SpelledItem (Item.node ds b) = SpelledBlock b
  SpelledItem (definition (type_definition d)) = Named d.name × EachOf SpelledParameter d.parameters × SpelledBlock d.body
  SpelledItem (definition (class_definition d)) = Named d.name × SpelledParent d.parent × EachOf SpelledParameter d.parameters × SpelledBlock d.body
