-- An expression in two runs of one tree: both sets are high, that is, hold a label of a differing constant; or value and set are the same.
use Prim.Native.Nat.{ℕ}
use mathlib.Core.Path.{◌≡◌, refl, ap}
use mathlib.Core.Logic.{inl, inr}
use mathlib.Core.Bool.{Bool, true, false, ◌||◌, beq, true≢false}
use mathlib.Core.List.{List, [], ◌∷◌}
use mathlib.Core.Option.{Option, none, some}
use lib.Dec.{eqb}
use lib.IntN.{ℤ}
use Rattle.labels.specs.declared.Labels.{Labels}
use Rattle.values.specs.declared.Value.{Value}
use Rattle.values.specs.declared.Labelled.{Labelled}
use Rattle.values.specs.declared.Reason.{Reason}
use Rattle.rules.specs.Outcome.{Outcome, ◌>>=◌, or_refuse, Result, at, under, joining}
use Rattle.rules.specs.Arithmetic.{integer_in, string_in, boolean_in, sum, difference, quotient, is_greater}
use Rattle.rules.specs.Tree.{Constant, Operator, plus, minus, divide, greater, equal, and, or, Expression, Arms}
use Rattle.rules.specs.State.{Scope, top_scope, class_scope, DeclaredClass, upward, Cell, Cells, Attribute, SetParts, Entry, State, Context, Known, scopes_tried}
use Rattle.rules.specs.Evaluate.{any, first_with, is_entry, is_attribute, or_else, read_in, read_attribute, integers, booleans, equality, operate, of_constant, select, evaluate, arm_patterns}
use Rattle.rules.specs.Patterns.{Patterns}
use Rattle.rules.proofs.Same.{Edit, High, high_one, high_left, high_right, Pairwise, none_paired, paired, Optional, both_none, both_some, SameConstant, same_constant, SameExpression, same_constants, same_variable, same_top_variable, same_class_variable, same_operation, same_negation, same_attribute_read, same_selector, same_unreadable, SameArms, same_no_arm, same_arm, same_default_arm}
use Rattle.rules.proofs.Patterns.{SamePatterns, same_no_pattern, same_constant_pattern, same_default_pattern, SameChoice, high_patterns, same_patterns, choice_same}
use Rattle.rules.proofs.Outcome.{All, all_done, all_any, Two, left_refused, right_refused, both_done, apart, two_bind, two_any, two_at, two_if}
use Rattle.rules.proofs.Lists.{either_right, Perhaps, not_there, there, Each, found}
use Rattle.rules.proofs.Unique.{UniqueEntries, UniqueNames, unique, Key, key_of, has_key, only_key}

module _ (D : Edit) where
  -- ---- Values with their sets

  pub data SameLabelled : Labelled → Labelled → Type 0 where
    both_high : {x y : Labelled} → High D x.labels → High D y.labels → SameLabelled x y
    equals : {x : Labelled} → SameLabelled x x

  abbrev pub HighLabelled : Labelled → Type 0
  HighLabelled x = High D x.labels

  pub same_constant_lem : {v w : Constant} → SameConstant D v w → SameLabelled (of_constant v) (of_constant w)
  unfolding of_constant
  same_constant_lem (same_constant z (inl d)) = both_high (high_one D d) (high_one D d)
  same_constant_lem (same_constant z (inr e)) = rw e equals

  pub joining_high : {k : Labels} (m : Outcome Labelled) → High D k → All HighLabelled (joining k m)
  unfolding joining
  joining_high m h = all_any m λ y. all_done (high_left D _ h)

  pub under_same : (k : Labels) {x y : Labelled} → SameLabelled x y → SameLabelled (under k x) (under k y)
  under_same k (both_high h g) = both_high (high_right D k h) (high_right D k g)
  under_same k equals = equals

  pub joining_same : (k : Labels) {m n : Outcome Labelled} → Two SameLabelled m n → Two SameLabelled (joining k m) (joining k n)
  unfolding joining
  joining_same k r = two_bind r λ x y h. both_done (under_same k h)

  -- an operand, then the rest under its set
  pub then_same : {m n : Outcome Labelled} {f g : Labelled → Outcome Labelled} → Two SameLabelled m n → ((x : Labelled) → Two SameLabelled (f x) (g x))
      → Two SameLabelled (m >>= λ x. joining x.labels (f x)) (n >>= λ x. joining x.labels (g x))
  then_same {f} {g} r k = two_bind r λ x y h. go h
    where
      go : {x y : Labelled} → SameLabelled x y → Two SameLabelled (joining x.labels (f x)) (joining y.labels (g y))
      go (both_high h h') = apart (joining_high _ h) (joining_high _ h') λ a b p q. both_high p q
      go (equals {x = x}) = joining_same _ (k x)

  -- the patterns tried, then what is chosen under their set
  select_same : (k k' : Known) {ps qs : Patterns (Outcome Labelled)} → SamePatterns D (Two SameLabelled) ps qs → (p q : ℕ) (x : Value) → Two SameLabelled (select k ps p x) (select k' qs q x)
  unfolding select
  select_same k k' s p q x = two_any _ _ λ _ _. go (choice_same D (Two SameLabelled) s x left_refused)
    where
      go : {k k' : Labels} {m n : Outcome Labelled} → SameChoice D (Two SameLabelled) k k' m n → Two SameLabelled (joining k m) (joining k' n)
      go (high_patterns h h') = apart (joining_high _ h) (joining_high _ h') λ a b p q. both_high p q
      go (same_patterns e r) = rw e (joining_same _ r)

  -- ---- Cells

  pub data SameCell : Cell → Cell → Type 0 where
    high_cell : {c d : Cell} → High D c.mark → High D d.mark → SameCell c d
    low_cell : {k : Labels} {v w : Option Labelled} {b b' : Bool} → Optional SameLabelled v w → SameCell (record { exists = b; value = v; mark = k }) (record { exists = b'; value = w; mark = k })

  abbrev pub SameCells : Cells → Cells → Type 0
  SameCells c d = (s : Scope) (n : ℕ) → SameCell (c s n) (d s n)

  or_else_same : {v w : Option Labelled} {m n : Outcome Labelled} → Optional SameLabelled v w → Two SameLabelled m n → Two SameLabelled (or_else v m) (or_else w n)
  unfolding or_else
  or_else_same both_none r = r
  or_else_same (both_some h) r = both_done h

  cell_same : {c d : Cell} {m n : Outcome Labelled} → SameCell c d → Two SameLabelled m n → Two SameLabelled (joining c.mark (or_else c.value m)) (joining d.mark (or_else d.value n))
  cell_same (high_cell h h') r = apart (joining_high _ h) (joining_high _ h') λ a b p q. both_high p q
  cell_same (low_cell v) r = joining_same _ (or_else_same v r)

  read_same : {c d : Cells} (p q n : ℕ) (ss : List Scope) → SameCells c d → Two SameLabelled (read_in p c n ss) (read_in q d n ss)
  unfolding read_in
  read_same p q n [] h = left_refused
  read_same p q n (s ∷ ss) h = cell_same (h s n) (read_same p q n ss h)

  -- ---- Catalogs

  pub data SameAttribute : Attribute → Attribute → Type 0 where
    same_attribute : {n : ℕ} {x y : Labelled} → SameLabelled x y → SameAttribute (record { name = n; content = x }) (record { name = n; content = y })

  abbrev pub HighAttribute : Attribute → Type 0
  HighAttribute a = High D a.content.labels

  pub data SameEntry : Entry → Entry → Type 0 where
    same_entry : {t m : ℕ} {k : Labels} {l l' : List Attribute} {o o' : ℕ → SetParts} → Pairwise SameAttribute l l' → UniqueNames l → UniqueNames l'
        → SameEntry (record { type = t; title = m; labels = k; attributes = l; parts = o }) (record { type = t; title = m; labels = k; attributes = l'; parts = o' })

  pub record HighEntry (e : Entry) : Type 0 where
    pub own : High D e.labels
    pub all : Each HighAttribute e.attributes

  -- the low entries are the same, in the same order; between them each catalog may have high ones of its own
  pub data SameCatalog : List Entry → List Entry → Type 0 where
    empty_both : SameCatalog [] []
    entry_both : {e f : Entry} {c d : List Entry} → SameEntry e f → SameCatalog c d → SameCatalog (e ∷ c) (f ∷ d)
    entry_left : {e : Entry} {c d : List Entry} → HighEntry e → SameCatalog c d → SameCatalog (e ∷ c) d
    entry_right : {f : Entry} {c d : List Entry} → HighEntry f → SameCatalog c d → SameCatalog c (f ∷ d)

  labelled_sym : {x y : Labelled} → SameLabelled x y → SameLabelled y x
  labelled_sym (both_high h g) = both_high g h
  labelled_sym equals = equals

  attributes_sym : {l l' : List Attribute} → Pairwise SameAttribute l l' → Pairwise SameAttribute l' l
  attributes_sym none_paired = none_paired
  attributes_sym (paired (same_attribute h) r) = paired (same_attribute (labelled_sym h)) (attributes_sym r)

  entry_sym : {e f : Entry} → SameEntry e f → SameEntry f e
  entry_sym (same_entry r u u') = same_entry (attributes_sym r) u' u

  catalog_sym : {c d : List Entry} → SameCatalog c d → SameCatalog d c
  catalog_sym empty_both = empty_both
  catalog_sym (entry_both e r) = entry_both (entry_sym e) (catalog_sym r)
  catalog_sym (entry_left h r) = entry_right h (catalog_sym r)
  catalog_sym (entry_right h r) = entry_left h (catalog_sym r)

  -- ---- Searching catalogs

  -- what is found in two searches, if both find something
  pub data IfBoth {A : Type 0} (R : A → A → Type 0) : Option A → Option A → Type 0 where
    left_none : {o : Option A} → IfBoth R none o
    right_none : {o : Option A} → IfBoth R o none
    if_both : {a b : A} → R a b → IfBoth R (some a) (some b)

  or_both : {A B : Type 0} {R : A → A → Type 0} {S : B → B → Type 0} {o o' : Option A} (r : Reason) (p q : ℕ) {f g : A → Outcome B} → IfBoth R o o' → ((x y : A) → R x y → Two S (f x) (g y)) → Two S (or_refuse o r p >>= f) (or_refuse o' r q >>= g)
  unfolding or_refuse ◌>>=◌
  or_both r p q left_none k = left_refused
  or_both r p q right_none k = right_refused
  or_both r p q (if_both h) k = k _ _ h

  -- a search that tries one more element
  found_if : {A : Type 0} {P : A → Type 0} (b : Bool) (a : A) {o : Option A} → P a → Perhaps P o → Perhaps P (elim b [ true ↦ some a | false ↦ o ])
  found_if true a h g = there h
  found_if false a h g = g

  not_found_if : {A : Type 0} {P : A → Type 0} (b x : Bool) (a : A) {o : Option A} → (b || x) ≡ false → (x ≡ false → Perhaps P o) → Perhaps P (elim b [ true ↦ some a | false ↦ o ])
  not_found_if true x a h g = absurd (true≢false h)
  not_found_if false x a h g = g h

  both_if : {A : Type 0} {R : A → A → Type 0} (b : Bool) (x y : A) {o o' : Option A} → R x y → IfBoth R o o' → IfBoth R (elim b [ true ↦ some x | false ↦ o ]) (elim b [ true ↦ some y | false ↦ o' ])
  both_if true x y h g = if_both h
  both_if false x y h g = g

  -- a title that the one catalog lacks is found in the other at a high entry only
  only_high : {c d : List Entry} (k : Key) → SameCatalog c d → any (has_key k) c ≡ false → Perhaps HighEntry (first_with (has_key k) d)
  unfolding any first_with is_entry
  only_high k empty_both h = not_there
  only_high k (entry_both (same_entry {t = t} {m = m} {k = s} {l = l} {o = o} a u u') q) h = not_found_if (has_key k (record { type = t; title = m; labels = s; attributes = l; parts = o })) _ _ h λ h'. only_high k q h'
  only_high k (entry_left {e = e} g q) h = only_high k q (either_right (has_key k e) _ h)
  only_high k (entry_right {f = f} g q) h = found_if (has_key k f) f g (only_high k q h)

  data Found (e f : Entry) : Type 0 where
    found_same : SameEntry e f → Found e f
    found_high : HighEntry e → HighEntry f → Found e f

  high_both : {e : Entry} {o : Option Entry} → HighEntry e → Perhaps HighEntry o → IfBoth Found (some e) o
  high_both h not_there = right_none
  high_both h (there g) = if_both (found_high h g)

  both_high_lem : {f : Entry} {o : Option Entry} → HighEntry f → Perhaps HighEntry o → IfBoth Found o (some f)
  both_high_lem h not_there = left_none
  both_high_lem h (there g) = if_both (found_high g h)

  found_left : (b : Bool) (e : Entry) {o o' : Option Entry} → HighEntry e → (b ≡ true → Perhaps HighEntry o') → IfBoth Found o o' → IfBoth Found (elim b [ true ↦ some e | false ↦ o ]) o'
  found_left true e h k g = high_both h (k refl)
  found_left false e h k g = g

  found_right : (b : Bool) (f : Entry) {o o' : Option Entry} → HighEntry f → (b ≡ true → Perhaps HighEntry o) → IfBoth Found o o' → IfBoth Found o (elim b [ true ↦ some f | false ↦ o' ])
  found_right true f h k g = both_high_lem h (k refl)
  found_right false f h k g = g

  lacks_key : (e : Entry) (k : Key) (c : List Entry) → any (has_key (key_of e)) c ≡ false → has_key k e ≡ true → any (has_key k) c ≡ false
  lacks_key e k c h t = rw (only_key k e t) at h

  find_same : {c d : List Entry} (k : Key) → SameCatalog c d → UniqueEntries c → UniqueEntries d → IfBoth Found (first_with (has_key k) c) (first_with (has_key k) d)
  unfolding first_with is_entry
  find_same k empty_both u u' = left_none
  find_same k (entry_both (same_entry {t = t} {m = m} {k = s} {l = l} {o = o} a w w') z) (unique h u) (unique h' u') = both_if (has_key k (record { type = t; title = m; labels = s; attributes = l; parts = o })) _ _ (found_same (same_entry a w w')) (find_same k z u u')
  find_same k (entry_left {e = e} g z) (unique h u) u' = found_left (has_key k e) e g (λ t. only_high k z (lacks_key e k _ h t)) (find_same k z u u')
  find_same k (entry_right {f = f} g z) u (unique h u') = found_right (has_key k f) f g (λ t. only_high k (catalog_sym z) (lacks_key f k _ h t)) (find_same k z u u')

  attribute_same : {l l' : List Attribute} (n : ℕ) → Pairwise SameAttribute l l' → IfBoth SameAttribute (first_with (is_attribute n) l) (first_with (is_attribute n) l')
  unfolding first_with is_attribute
  attribute_same n none_paired = left_none
  attribute_same n (paired (same_attribute {n = m} h) r) = both_if (eqb m n) _ _ (same_attribute h) (attribute_same n r)

  some_both : {A : Type 0} {P : A → Type 0} {R : A → A → Type 0} {o o' : Option A} → Perhaps P o → Perhaps P o' → ((x y : A) → P x → P y → R x y) → IfBoth R o o'
  some_both not_there g k = left_none
  some_both (there h) not_there k = right_none
  some_both (there h) (there g) k = if_both (k _ _ h g)

  map_both : {A : Type 0} {R S : A → A → Type 0} {o o' : Option A} → IfBoth R o o' → ((x y : A) → R x y → S x y) → IfBoth S o o'
  map_both left_none k = left_none
  map_both right_none k = right_none
  map_both (if_both h) k = if_both (k _ _ h)

  content_same : {x y : Attribute} → SameAttribute x y → SameLabelled x.content y.content
  content_same (same_attribute h) = h

  found_attribute : {e f : Entry} (n : ℕ) → Found e f → IfBoth (λ (x y : Attribute). SameLabelled x.content y.content) (first_with (is_attribute n) e.attributes) (first_with (is_attribute n) f.attributes)
  found_attribute n (found_same (same_entry a w w')) = map_both (attribute_same n a) λ x y h. content_same h
  found_attribute n (found_high h g) = some_both (found (is_attribute n) h.all) (found (is_attribute n) g.all) λ x y p q. both_high p q

  read_attribute_same : {c d : List Entry} (p q t m n : ℕ) → SameCatalog c d → UniqueEntries c → UniqueEntries d → Two SameLabelled (read_attribute p t m n c) (read_attribute q t m n d)
  unfolding read_attribute
  read_attribute_same p q t m n z u u' = or_both _ p q (find_same (record { type = t; title = m }) z u u') λ e f h. or_both _ p q (found_attribute n h) λ x y g. both_done g

  -- ---- Operators

  integers_same : (f : ℤ → ℤ → Result Value) (p l r p' l' r' : ℕ) (x : Value) {m n : Outcome Labelled} → Two SameLabelled m n → Two SameLabelled (integers f p l r x m) (integers f p' l' r' x n)
  unfolding integers
  integers_same f p l r p' l' r' x h = two_at l l' (integer_in x) λ i. then_same h λ y. two_at r r' (integer_in y.value) λ j. two_at p p' (f i j) λ v. both_done equals

  booleans_same : (d : Bool) (l r l' r' : ℕ) (x : Value) {m n : Outcome Labelled} → Two SameLabelled m n → Two SameLabelled (booleans d l r x m) (booleans d l' r' x n)
  unfolding booleans
  booleans_same d l r l' r' x h = two_at l l' (boolean_in x) λ i. two_if (beq i d) (both_done equals) (then_same h λ y. two_at r r' (boolean_in y.value) λ j. both_done equals)

  operate_same : (o : Operator) (p l r p' l' r' : ℕ) (x : Value) {m n : Outcome Labelled} → Two SameLabelled m n → Two SameLabelled (operate o p l r x m) (operate o p' l' r' x n)
  unfolding operate equality
  operate_same plus p l r p' l' r' x h = integers_same sum p l r p' l' r' x h
  operate_same minus p l r p' l' r' x h = integers_same difference p l r p' l' r' x h
  operate_same divide p l r p' l' r' x h = integers_same quotient p l r p' l' r' x h
  operate_same greater p l r p' l' r' x h = integers_same is_greater p l r p' l' r' x h
  operate_same equal p l r p' l' r' x h = then_same h λ y. both_done equals
  operate_same and p l r p' l' r' x h = booleans_same false l r l' r' x h
  operate_same or p l r p' l' r' x h = booleans_same true l r l' r' x h

  -- ---- Expressions

  -- what an expression sees of two states
  pub record SameView (st st' : State) : Type 0 where
    pub cells : SameCells st.cells st'.cells
    pub classes : st.classes ≡ st'.classes
    pub catalogs : SameCatalog st.entries st'.entries
    pub once : UniqueEntries st.entries
    pub once' : UniqueEntries st'.entries

  module _ (k k' : Known) (c : Context) {st st' : State} (view : SameView st st') where
    -- the same scopes are tried
    same_scopes : scopes_tried c st ≡ scopes_tried c st'
    unfolding scopes_tried
    same_scopes = ap (λ (q : ℕ → Option DeclaredClass). upward 1026 q c.base c.scope) view.classes

    mutual
      unfolding evaluate

      pub evaluate_same : {e e' : Expression} → SameExpression D e e' → Two SameLabelled (evaluate k c st e) (evaluate k' c st' e')
      evaluate_same (same_constants h) = two_any _ _ λ _ _. both_done (same_constant_lem h)
      evaluate_same (same_variable {p = p} {q = q} {n = n}) = rw same_scopes (read_same p q n (scopes_tried c st') view.cells)
      evaluate_same (same_top_variable {p = p} {q = q} {n = n}) = read_same p q n (top_scope ∷ []) view.cells
      evaluate_same (same_class_variable {p = p} {q = q} {c = b} {n = n}) = two_any _ _ λ _ _. read_same p q n (class_scope b ∷ []) view.cells
      evaluate_same (same_operation {o = o} a b) = then_same (evaluate_same a) λ x. operate_same o _ _ _ _ _ _ x.value (evaluate_same b)
      evaluate_same (same_negation a) = then_same (evaluate_same a) λ x. two_at _ _ (boolean_in x.value) λ t. both_done equals
      evaluate_same (same_attribute_read {p = p} {q = q} {t = t} {n = n} a) = then_same (evaluate_same a) λ x. two_at _ _ (string_in x.value) λ m. two_any _ _ λ _ _. read_attribute_same p q t m n view.catalogs view.once view.once'
      evaluate_same (same_selector {p = p} {q = q} a s) = then_same (evaluate_same a) λ x. select_same k k' (arms_same s) p q x.value
      evaluate_same same_unreadable = left_refused

      arms_same : {s s' : Arms} → SameArms D s s' → SamePatterns D (Two SameLabelled) (arm_patterns k c st s) (arm_patterns k' c st' s')
      arms_same same_no_arm = same_no_pattern
      arms_same (same_arm v a s) = same_constant_pattern v (evaluate_same a) (arms_same s)
      arms_same (same_default_arm a s) = same_default_pattern (evaluate_same a) (arms_same s)
