-- The definitions that are gathered before the run: looking one up, what holds of each, and two manifests with one tree.
use Prim.Native.Nat.{ℕ}
use mathlib.Core.Path.{◌≡◌, refl, sym, ap, ◌∙◌}
use mathlib.Core.Bool.{Bool, true, false, ◌||◌, true≢false}
use mathlib.Core.List.{List, [], ◌∷◌}
use mathlib.Core.Option.{Option, none, some}
use lib.Dec.{eqb}
use borrow.Author.Tests.{ne_eqb}
use Rattle.rules.specs.Tree.{TypeDefinition, ClassDefinition, Definition, type_definition, class_definition, Item, statement, node, definition}
use Rattle.rules.specs.Ranges.{Each, none_left, also}
use Rattle.rules.specs.State.{is_some}
use Rattle.rules.specs.Evaluate.{any, find_type, find_class}
use Rattle.rules.specs.Run.{defined_name, is_definition, is_taken, gather_definitions}
use Rattle.rules.proofs.Same.{Edit, Pairwise, none_paired, paired, SameDefinition, SameItem, same_statement_item, same_node, same_definition_item}
use Rattle.rules.proofs.Lists.{either_right, or_true_right, when_false}
use Rattle.rules.proofs.Outcome.{All, all_done, all_any, Two, both_done, two_any}

-- ---- Looking one up

-- a name is defined precisely if a type or a class is found
pub any_found : (n : ℕ) (ds : List Definition) → any (is_definition n) ds ≡ (is_some {A = TypeDefinition} (find_type n ds) || is_some {A = ClassDefinition} (find_class n ds))
unfolding any is_definition defined_name find_type find_class is_some
any_found n [] = refl
any_found n (type_definition d ∷ ds) = go (any_found n ds) (eqb d.name n)
  where
    go : any (is_definition n) ds ≡ (is_some {A = TypeDefinition} (find_type n ds) || is_some {A = ClassDefinition} (find_class n ds)) → (b : Bool) → (b || any (is_definition n) ds) ≡ (is_some {A = TypeDefinition} (elim b [ true ↦ some d | false ↦ find_type n ds ]) || is_some {A = ClassDefinition} (find_class n ds))
    go later true = refl
    go later false = later
any_found n (class_definition d ∷ ds) = go (any_found n ds) (eqb d.name n) (find_type n ds) refl
  where
    go : any (is_definition n) ds ≡ (is_some {A = TypeDefinition} (find_type n ds) || is_some {A = ClassDefinition} (find_class n ds)) → (b : Bool) (o : Option TypeDefinition) → find_type n ds ≡ o → (b || any (is_definition n) ds) ≡ (is_some {A = TypeDefinition} (find_type n ds) || is_some {A = ClassDefinition} (elim b [ true ↦ some d | false ↦ find_class n ds ]))
    go later true none h = rw h refl
    go later true (some x) h = rw h refl
    go later false o h = later

-- another name than that of the latest definition is looked up among the others
module _ (n : ℕ) (ds : List Definition) where
  pub type_other : (d : Definition) → (defined_name d ≡ n → ⊥) → find_type n (d ∷ ds) ≡ find_type n ds
  unfolding find_type defined_name
  type_other (type_definition d) ne = when_false (eqb d.name n) (some d) (find_type n ds) (ne_eqb d.name n ne)
  type_other (class_definition d) ne = refl

  pub class_other : (d : Definition) → (defined_name d ≡ n → ⊥) → find_class n (d ∷ ds) ≡ find_class n ds
  unfolding find_class defined_name
  class_other (type_definition d) ne = refl
  class_other (class_definition d) ne = when_false (eqb d.name n) (some d) (find_class n ds) (ne_eqb d.name n ne)

-- what is found stays found when a definition is added whose name was not taken
module _ (built_in : ℕ → Bool) (ds : List Definition) (d : Definition) (free : is_taken built_in ds (defined_name d) ≡ false) (n : ℕ) where
  other_name : any (is_definition n) ds ≡ true → defined_name d ≡ n → ⊥
  unfolding is_taken
  other_name h same = true≢false (sym h ∙ ap (λ (x : ℕ). any (is_definition x) ds) (sym same) ∙ either_right (built_in (defined_name d)) (any (is_definition (defined_name d)) ds) free)

  pub type_kept : {t : TypeDefinition} → find_type n ds ≡ some t → find_type n (d ∷ ds) ≡ some t
  unfolding is_some
  type_kept e = type_other n ds d (other_name (any_found n ds ∙ rw e refl)) ∙ e

  pub class_kept : {c : ClassDefinition} → find_class n ds ≡ some c → find_class n (d ∷ ds) ≡ some c
  unfolding is_some
  class_kept e = class_other n ds d (other_name (any_found n ds ∙ rw e (or_true_right (is_some (find_type n ds)) true refl))) ∙ e

-- ---- What holds of each

-- what holds of each item's definition holds of each that is gathered
module _ {P : Definition → Type 0} {Q : Item → Type 0} (inside : (d : Definition) → Q (definition d) → P d) (built_in : ℕ → Bool) where
  pub gathered_each : {items : List Item} → Each Q items → {earlier : List Definition} → Each P earlier → All (Each P) (gather_definitions built_in earlier items)
  unfolding gather_definitions
  gathered_each none_left h = all_done h
  gathered_each (also {x = statement s} q qs) h = gathered_each qs h
  gathered_each (also {x = node devices block} q qs) h = gathered_each qs h
  gathered_each (also {x = definition d} q qs) h = all_any _ λ _. gathered_each qs (also (inside d q) h)

-- two manifests with one tree have the same definitions, but for the constants that differ
module _ (D : Edit) (built_in built_in' : ℕ → Bool) where
  pub gathered_same : {is is' : List Item} → Pairwise (SameItem D) is is' → {ds ds' : List Definition} → Pairwise (SameDefinition D) ds ds'
      → Two (Pairwise (SameDefinition D)) (gather_definitions built_in ds is) (gather_definitions built_in' ds' is')
  unfolding gather_definitions
  gathered_same none_paired h = both_done h
  gathered_same (paired (same_statement_item x) r) h = gathered_same r h
  gathered_same (paired (same_node b) r) h = gathered_same r h
  gathered_same (paired (same_definition_item d) r) h = two_any _ _ λ _ _. gathered_same r (paired d h)
