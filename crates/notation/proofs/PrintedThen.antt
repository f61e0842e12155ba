-- What is printed with something behind it is what is printed, and then that: the functions of Print, which hand on what follows, only append it.
use Prim.Native.Nat.{ℕ, suc}
use mathlib.Core.Path.{◌≡◌, refl, ap}
use mathlib.Core.Bool.{Bool, true, false}
use mathlib.Core.List.{List, [], ◌∷◌, ◌++◌}
use mathlib.Core.Option.{Option, none, some}
use lib.Dec.{leb}
use Rattle.rules.specs.Tree.{Constant, Expression, constant, variable, top_variable, class_variable, operation, negation, attribute_read, selector, Arms, no_arm, arm, default_arm, AttributeField, Statement, assignment, conditional, choice, built_in_resource, defined_resource, class_with_attributes, include, Block, end, next, Branches, no_branch, branch, default_branch, Parameter, Parent, type_definition, class_definition, Devices, named, by_default, Item, statement, definition}
use Rattle.rules.specs.Tree
use Rattle.notation.specs.Tokens.{Lexeme}
use Rattle.notation.specs.Print.{Rest, bracketed, separated, level_of, printed_entries, printed_else, printed, printed_arms, printed_attribute, printed_attributes, printed_resource, printed_statement, printed_block, printed_branches, printed_default, printed_parameter, printed_parameters, printed_parent, printed_device, printed_devices, in_braces, printed_item, printed_items}

module _ (S : ℕ → List ℕ) (zs : List Lexeme) where
  -- with zs behind it
  abbrev Then : Rest → Rest → Type 0
  Then rest rest' = (u : ℕ) → rest' u ≡ rest u ++ zs

  -- p appends what follows
  abbrev Appends : (Rest → List Lexeme) → Type 0
  Appends p = (rest rest' : Rest) → Then rest rest' → p rest' ≡ p rest ++ zs

  behind : (x : Lexeme) {xs ys : List Lexeme} → xs ≡ ys → x ∷ xs ≡ x ∷ ys
  behind x e = ap (λ (xs : List Lexeme). x ∷ xs) e

  then_bracketed : (b : Bool) (p : ℕ → Rest → List Lexeme) (v : ℕ) → Appends (p v) → Appends (bracketed b p v)
  then_bracketed true p v a rest rest' h = a rest rest' h
  then_bracketed false p v a rest rest' h = behind _ (a _ _ (λ u. behind _ (h u)))

  then_separated : (later : Bool) (v : ℕ) (ys : List Lexeme) {xs : List Lexeme} → xs ≡ ys ++ zs → separated later v xs ≡ separated later v ys ++ zs
  then_separated false v ys e = e
  then_separated true v ys e = behind _ e

  mutual
    unfolding printed

    then_expression : (e : Expression) (l v : ℕ) → Appends (printed S e l v)
    then_expression (constant c) l v rest rest' h = behind _ (h c.label)
    then_expression (variable p n) l v rest rest' h = behind _ (h v)
    then_expression (top_variable p n) l v rest rest' h = behind _ (h v)
    then_expression (class_variable p c n) l v rest rest' h = behind _ (h v)
    then_expression (operation p o a b) l v rest rest' h =
        then_bracketed (leb l (level_of o)) _ v (λ r r' i. then_expression a (level_of o) v _ _ (λ u. behind _ (then_expression b (suc (level_of o)) u r r' i))) rest rest' h
    then_expression (negation p a) l v rest rest' h = behind _ (then_expression a 8 v rest rest' h)
    then_expression (attribute_read p t n a) l v rest rest' h = behind _ (behind _ (then_expression a 1 v _ _ (λ u. behind _ (behind _ (behind _ (behind _ (h u)))))))
    then_expression (selector p a s) l v rest rest' h =
        then_bracketed (leb l 3) _ v (λ r r' i. then_expression a 3 v _ _ (λ u. behind _ (behind _ (then_arms s false u _ _ (λ x. behind _ (i x)))))) rest rest' h
    then_expression (Expression.unreadable p) l v rest rest' h = h v

    then_arms : (s : Arms) (later : Bool) (v : ℕ) → Appends (printed_arms S s later v)
    then_arms no_arm later v rest rest' h = h v
    then_arms (arm c a s) later v rest rest' h = then_separated later v _ (behind _ (behind _ (then_expression a 1 c.label _ _ (λ u. then_arms s true u rest rest' h))))
    then_arms (default_arm a s) later v rest rest' h = then_separated later v _ (behind _ (behind _ (then_expression a 1 _ _ _ (λ u. then_arms s true u rest rest' h))))

  then_entries : {A : Type 0} (p : A → ℕ → Rest → List Lexeme) → ((a : A) (v : ℕ) → Appends (p a v)) → (xs : List A) (later : Bool) (v : ℕ) → Appends (printed_entries p xs later v)
  unfolding printed_entries
  then_entries p a [] later v rest rest' h = h v
  then_entries p a (x ∷ xs) later v rest rest' h = then_separated later v _ (a x v _ _ (λ u. then_entries p a xs true u rest rest' h))

  then_attributes : (fs : List AttributeField) (v : ℕ) → Appends (printed_attributes S fs v)
  then_attributes fs v = then_entries (printed_attribute S) (λ f v rest rest' h. behind _ (behind _ (then_expression f.expression 1 _ rest rest' h))) fs false v

  then_resource : (t : ℕ) (a : Expression) (fs : List AttributeField) (v : ℕ) → Appends (printed_resource S t a fs v)
  then_resource t a fs v rest rest' h = behind _ (behind _ (then_expression a 1 v _ _ (λ u. behind _ (then_attributes fs u _ _ (λ w. behind _ (h w))))))

  then_else : (n : Block) (p : ℕ → Rest → List Lexeme) (v : ℕ) → ((u : ℕ) → Appends (p u)) → Appends (printed_else n p v)
  unfolding printed_else
  then_else end p v a rest rest' h = h v
  then_else (next s b) p v a rest rest' h = behind _ (behind _ (a v _ _ (λ u. behind _ (h u))))

  mutual
    unfolding printed_statement

    then_statement : (s : Statement) (v : ℕ) → Appends (printed_statement S s v)
    then_statement (assignment p n a) v rest rest' h = behind _ (behind _ (then_expression a 1 v rest rest' h))
    then_statement (conditional p a y n) v rest rest' h =
        behind _ (then_expression a 1 v _ _ (λ u. behind _ (then_block y u _ _ (λ w. behind _ (then_else n _ w (λ z r r' i. then_block n z r r' i) rest rest' h)))))
    then_statement (choice p a bs) v rest rest' h = behind _ (then_expression a 1 v _ _ (λ u. behind _ (then_branches bs u _ _ (λ w. behind _ (h w)))))
    then_statement (built_in_resource p t a fs) v rest rest' h = then_resource t a fs v rest rest' h
    then_statement (defined_resource p t a fs) v rest rest' h = then_resource t a fs v rest rest' h
    then_statement (class_with_attributes p c fs) v rest rest' h = behind _ (behind _ (behind _ (behind _ (then_attributes fs v _ _ (λ w. behind _ (h w))))))
    then_statement (include p c) v rest rest' h = behind _ (behind _ (h v))
    then_statement (Statement.unreadable p) v rest rest' h = h v

    then_block : (b : Block) (v : ℕ) → Appends (printed_block S b v)
    then_block end v rest rest' h = h v
    then_block (next s b) v rest rest' h = then_statement s _ _ _ (λ u. then_block b u rest rest' h)

    then_branches : (bs : Branches) (v : ℕ) → Appends (printed_branches S bs v)
    then_branches no_branch v rest rest' h = h v
    then_branches (branch c b bs) v rest rest' h = behind _ (behind _ (behind _ (then_block b c.label _ _ (λ u. behind _ (then_branches bs u rest rest' h)))))
    then_branches (default_branch b bs) v rest rest' h = behind _ (behind _ (behind _ (then_block b _ _ _ (λ u. behind _ (then_branches bs u rest rest' h)))))

  then_default : (c : Option Constant) (v : ℕ) → Appends (printed_default S c v)
  then_default none v rest rest' h = h v
  then_default (some c) v rest rest' h = behind _ (behind _ (h c.label))

  then_parameters : (ps : List Parameter) (v : ℕ) → Appends (printed_parameters S ps v)
  then_parameters [] v rest rest' h = h v
  then_parameters (p ∷ ps) v rest rest' h = behind _ (then_entries (printed_parameter S) (λ q v rest rest' h. behind _ (then_default q.default _ rest rest' h)) (p ∷ ps) false v _ _ (λ u. behind _ (h u)))

  then_parent : (p : Option Parent) (v : ℕ) → Appends (printed_parent S p v)
  then_parent none v rest rest' h = h v
  then_parent (some p) v rest rest' h = behind _ (behind _ (h v))

  then_devices : (ds : Devices) (v : ℕ) → Appends (printed_devices S ds v)
  then_devices (named ns) v = then_entries (printed_device S) (λ n v rest rest' h. behind _ (h v)) ns false v
  then_devices by_default v = λ rest rest' h. behind _ (h v)

  then_braces : (b : Block) (v : ℕ) → Appends (in_braces S b v)
  then_braces b v rest rest' h = behind _ (then_block b v _ _ (λ u. behind _ (h u)))

  then_item : (i : Item) (v : ℕ) → Appends (printed_item S i v)
  unfolding printed_item
  then_item (statement s) v rest rest' h = then_statement s v rest rest' h
  then_item (Item.node ds b) v rest rest' h = behind _ (then_devices ds v _ _ (λ u. then_braces b u rest rest' h))
  then_item (definition (type_definition d)) v rest rest' h = behind _ (behind _ (then_parameters d.parameters v _ _ (λ u. then_braces d.body u rest rest' h)))
  then_item (definition (class_definition d)) v rest rest' h = behind _ (behind _ (then_parameters d.parameters v _ _ (λ u. then_parent d.parent u _ _ (λ w. then_braces d.body w rest rest' h))))

  then_items : (is : List Item) (v : ℕ) → Appends (printed_items S is v)
  unfolding printed_items
  then_items [] v rest rest' h = h v
  then_items (i ∷ is) v rest rest' h = then_item i _ _ _ (λ u. then_items is u rest rest' h)

  -- with zs behind the last item
  pub items_then : (is : List Item) (v : ℕ) → printed_items S is v (λ u. zs) ≡ printed_items S is v (λ u. []) ++ zs
  items_then is v = then_items is v (λ u. []) (λ u. zs) (λ u. refl)
