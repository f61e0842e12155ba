-- Patterns: the request that a default goes last, as laws; what holds of everything that follows from one holds of what is chosen; and two lists of
-- patterns that an edit relates.
use Prim.Native.Nat.{ℕ}
use mathlib.Core.Path.{◌≡◌, refl, sym, ap, ◌∙◌}
use mathlib.Core.Logic.{inl, inr}
use mathlib.Core.Bool.{Bool, true, false}
use mathlib.Core.List.{List, [], ◌∷◌}
use Rattle.labels.specs.declared.Labels.{Labels}
use Rattle.labels.specs.Sets.{one_label, ◌∪◌, Words64}
use Rattle.labels.proofs.Laws.{union_none_after, words_none, words_one, words_union}
use Rattle.values.specs.declared.Value.{Value}
use Rattle.rules.specs.Arithmetic.{same_value}
use Rattle.rules.specs.Tree.{Constant}
use Rattle.rules.specs.Patterns.{Patterns, no_pattern, constant_pattern, default_pattern, first_equal, first_default, chosen, tried, labels_of, tried_labels}
use Rattle.rules.specs.Outcome.{Outcome}
use Rattle.rules.specs.State.{State, Context}
use Rattle.rules.specs.Run.{do_nothing}
use Rattle.rules.proofs.Outcome.{All, all_done}
use Rattle.rules.proofs.Same.{Edit, High, high_one, high_left, high_right, SameConstant, same_constant}

-- ---- The request's sentences, wherever the defaults stand

-- what follows the first default is a
pub data FirstDefault {A : Type 0} (a : A) : Patterns A → Type 0 where
  default_here : {ps : Patterns A} → FirstDefault a (default_pattern a ps)
  default_later : {v : Constant} {b : A} {ps : Patterns A} → FirstDefault a ps → FirstDefault a (constant_pattern v b ps)

-- the constants alone
unfoldable pub constants_of : {A : Type 0} → Patterns A → Patterns A
constants_of no_pattern = no_pattern
constants_of (constant_pattern v a ps) = constant_pattern v a (constants_of ps)
constants_of (default_pattern a ps) = constants_of ps

module _ {A : Type 0} (x : Value) where
  default_found : {a : A} {ps : Patterns A} → FirstDefault a ps → (o : A) → first_default ps o ≡ a
  unfolding first_default
  default_found default_here o = refl
  default_found (default_later h) o = default_found h o

  constants_equal : (ps : Patterns A) (o : A) → first_equal ps x o ≡ first_equal (constants_of ps) x o
  unfolding first_equal constants_of
  constants_equal no_pattern o = refl
  constants_equal (constant_pattern v a ps) o = ap (λ (y : A). elim (same_value x v.value) [ true ↦ a | false ↦ y ]) (constants_equal ps o)
  constants_equal (default_pattern a ps) o = constants_equal ps o

  constants_only : (ps : Patterns A) (o : A) → first_default (constants_of ps) o ≡ o
  unfolding first_default constants_of
  constants_only no_pattern o = refl
  constants_only (constant_pattern v a ps) o = constants_only ps o
  constants_only (default_pattern a ps) o = constants_only ps o

  -- "a default in a case or selector is tried only after every other pattern", "With two defaults the first counts": the constants are tried, and if
  -- none is equal, the first default is chosen; what would follow without a match is not, so a selector with a default is never refused 18
  pub default_last : {a : A} {ps : Patterns A} → FirstDefault a ps → (o : A) → chosen ps x o ≡ chosen (constants_of ps) x a
  unfolding chosen
  default_last {a} {ps} h o = ap (first_equal ps x) (default_found h o) ∙ constants_equal ps a ∙ sym (ap (first_equal (constants_of ps) x) (constants_only ps a))

  -- "The patterns tried, and so the label sets, follow the new order."
  pub constants_tried : (ps : Patterns A) → tried ps x ≡ tried (constants_of ps) x
  unfolding tried constants_of
  constants_tried no_pattern = refl
  constants_tried (constant_pattern v a ps) = ap (λ (vs : List Constant). v ∷ elim (same_value x v.value) [ true ↦ [] | false ↦ vs ]) (constants_tried ps)
  constants_tried (default_pattern a ps) = constants_tried ps

-- the labels of the patterns tried, by the first of them
module _ {A : Type 0} (v : Constant) (a : A) (ps : Patterns A) (x : Value) where
  pub tried_equal : same_value x v.value ≡ true → tried_labels (constant_pattern v a ps) x ≡ one_label v.label
  unfolding tried_labels tried labels_of
  tried_equal e = rw e (union_none_after (one_label v.label))

  pub tried_other : same_value x v.value ≡ false → tried_labels (constant_pattern v a ps) x ≡ one_label v.label ∪ tried_labels ps x
  unfolding tried_labels tried labels_of
  tried_other e = rw e refl

-- ---- What follows

-- P holds of all that follows from a pattern
pub data Every {A : Type 0} (P : A → Type 0) : Patterns A → Type 0 where
  every_none : Every P no_pattern
  every_constant : {v : Constant} {a : A} {ps : Patterns A} → P a → Every P ps → Every P (constant_pattern v a ps)
  every_default : {a : A} {ps : Patterns A} → P a → Every P ps → Every P (default_pattern a ps)

module _ {A : Type 0} (P : A → Type 0) where
  if_holds : (t : Bool) {a b : A} → P a → P b → P (elim t [ true ↦ a | false ↦ b ])
  if_holds true p q = p
  if_holds false p q = q

  equal_holds : {ps : Patterns A} → Every P ps → (x : Value) {o : A} → P o → P (first_equal ps x o)
  unfolding first_equal
  equal_holds every_none x q = q
  equal_holds (every_constant {v = v} p ps) x q = if_holds (same_value x v.value) p (equal_holds ps x q)
  equal_holds (every_default p ps) x q = equal_holds ps x q

  default_holds : {ps : Patterns A} → Every P ps → {o : A} → P o → P (first_default ps o)
  unfolding first_default
  default_holds every_none q = q
  default_holds (every_constant p ps) q = default_holds ps q
  default_holds (every_default p ps) q = p

  pub chosen_holds : {ps : Patterns A} → Every P ps → (x : Value) {o : A} → P o → P (chosen ps x o)
  unfolding chosen
  chosen_holds ps x q = equal_holds ps x (default_holds ps q)

pub every_weaker : {A : Type 0} {P Q : A → Type 0} {ps : Patterns A} → Every P ps → ((a : A) → P a → Q a) → Every Q ps
every_weaker every_none f = every_none
every_weaker (every_constant p ps) f = every_constant (f _ p) (every_weaker ps f)
every_weaker (every_default p ps) f = every_default (f _ p) (every_weaker ps f)

-- Q holds of each state to which a branch of a case leads from st
abbrev pub EveryBranch : (State → Type 0) → Context → State → Patterns (Context → State → Outcome State) → Type 0
EveryBranch Q c st ps = Every (λ (f : Context → State → Outcome State). All Q (f c st)) ps

pub branch_holds : {Q : State → Type 0} {c : Context} {st : State} {ps : Patterns (Context → State → Outcome State)} → EveryBranch Q c st ps → (x : Value) → Q st → All Q (chosen ps x do_nothing c st)
unfolding do_nothing
branch_holds {Q} {c} {st} h x q = chosen_holds (λ (f : Context → State → Outcome State). All Q (f c st)) h x (all_done q)

-- the labels of the patterns tried are a set
labels_fit : (vs : List Constant) → Words64 (labels_of vs)
unfolding labels_of
labels_fit [] = words_none
labels_fit (v ∷ vs) = words_union (one_label v.label) (labels_of vs) (words_one v.label) (labels_fit vs)

pub tried_labels_fit : {A : Type 0} (ps : Patterns A) (x : Value) → Words64 (tried_labels ps x)
unfolding tried_labels
tried_labels_fit ps x = labels_fit (tried ps x)

-- ---- What follows, by a function

unfoldable pub map_patterns : {A B : Type 0} → (A → B) → Patterns A → Patterns B
map_patterns f no_pattern = no_pattern
map_patterns f (constant_pattern v a ps) = constant_pattern v (f a) (map_patterns f ps)
map_patterns f (default_pattern a ps) = default_pattern (f a) (map_patterns f ps)

module _ {A B : Type 0} (f : A → B) where
  pub tried_mapped : (ps : Patterns A) (x : Value) → tried (map_patterns f ps) x ≡ tried ps x
  unfolding tried map_patterns
  tried_mapped no_pattern x = refl
  tried_mapped (constant_pattern v a ps) x = ap (λ (vs : List Constant). v ∷ elim (same_value x v.value) [ true ↦ [] | false ↦ vs ]) (tried_mapped ps x)
  tried_mapped (default_pattern a ps) x = tried_mapped ps x

  equal_mapped : (ps : Patterns A) (x : Value) (o : A) → first_equal (map_patterns f ps) x (f o) ≡ f (first_equal ps x o)
  unfolding first_equal map_patterns
  equal_mapped no_pattern x o = refl
  equal_mapped (constant_pattern v a ps) x o = go (same_value x v.value) (equal_mapped ps x o)
    where
      go : (t : Bool) {b : B} {c : A} → b ≡ f c → elim t [ true ↦ f a | false ↦ b ] ≡ f (elim t [ true ↦ a | false ↦ c ])
      go true e = refl
      go false e = e
  equal_mapped (default_pattern a ps) x o = equal_mapped ps x o

  default_mapped : (ps : Patterns A) (o : A) → first_default (map_patterns f ps) (f o) ≡ f (first_default ps o)
  unfolding first_default map_patterns
  default_mapped no_pattern o = refl
  default_mapped (constant_pattern v a ps) o = default_mapped ps o
  default_mapped (default_pattern a ps) o = refl

  pub chosen_mapped : (ps : Patterns A) (x : Value) (o : A) → chosen (map_patterns f ps) x (f o) ≡ f (chosen ps x o)
  unfolding chosen
  chosen_mapped ps x o = ap (first_equal (map_patterns f ps) x) (default_mapped ps o) ∙ equal_mapped ps x (first_default ps o)

-- ---- Two lists of patterns

module _ (D : Edit) {A B : Type 0} (R : A → B → Type 0) where
  -- the same constants but for the edit, and R holds of what follows
  pub data SamePatterns : Patterns A → Patterns B → Type 0 where
    same_no_pattern : SamePatterns no_pattern no_pattern
    same_constant_pattern : {v w : Constant} {a : A} {b : B} {ps : Patterns A} {qs : Patterns B} → SameConstant D v w → R a b → SamePatterns ps qs → SamePatterns (constant_pattern v a ps) (constant_pattern w b qs)
    same_default_pattern : {a : A} {b : B} {ps : Patterns A} {qs : Patterns B} → R a b → SamePatterns ps qs → SamePatterns (default_pattern a ps) (default_pattern b qs)

  -- two sets of patterns tried and what was chosen: both sets are high, or they are one set and R holds
  pub data SameChoice (k k' : Labels) (a : A) (b : B) : Type 0 where
    high_patterns : High D k → High D k' → SameChoice k k' a b
    same_patterns : k ≡ k' → R a b → SameChoice k k' a b

  -- one pattern, the same on both sides, before the others
  before : (t : Bool) (l : ℕ) (vs ws : List Constant) {a c : A} {b d : B} → R a b → SameChoice (labels_of vs) (labels_of ws) c d
      → SameChoice (one_label l ∪ labels_of (elim t [ true ↦ [] | false ↦ vs ])) (one_label l ∪ labels_of (elim t [ true ↦ [] | false ↦ ws ])) (elim t [ true ↦ a | false ↦ c ]) (elim t [ true ↦ b | false ↦ d ])
  before true l vs ws r h = same_patterns refl r
  before false l vs ws r (high_patterns h h') = high_patterns (high_right D _ h) (high_right D _ h')
  before false l vs ws r (same_patterns e r') = same_patterns (ap (λ (k : Labels). one_label l ∪ k) e) r'

  equal_same : {ps : Patterns A} {qs : Patterns B} → SamePatterns ps qs → (x : Value) {a : A} {b : B} → R a b → SameChoice (tried_labels ps x) (tried_labels qs x) (first_equal ps x a) (first_equal qs x b)
  unfolding tried_labels tried labels_of first_equal
  equal_same same_no_pattern x r = same_patterns refl r
  equal_same (same_constant_pattern (same_constant z (inl d)) _ s) x r = high_patterns (high_left D _ (high_one D d)) (high_left D _ (high_one D d))
  equal_same (same_constant_pattern (same_constant {l = l} {w = w} z (inr e)) h s) x r = rw e (before (same_value x w) l _ _ h (equal_same s x r))
  equal_same (same_default_pattern _ s) x r = equal_same s x r

  default_same : {ps : Patterns A} {qs : Patterns B} → SamePatterns ps qs → {a : A} {b : B} → R a b → R (first_default ps a) (first_default qs b)
  unfolding first_default
  default_same same_no_pattern r = r
  default_same (same_constant_pattern _ _ s) r = default_same s r
  default_same (same_default_pattern h s) r = h

  pub choice_same : {ps : Patterns A} {qs : Patterns B} → SamePatterns ps qs → (x : Value) {a : A} {b : B} → R a b → SameChoice (tried_labels ps x) (tried_labels qs x) (chosen ps x a) (chosen qs x b)
  unfolding chosen
  choice_same s x r = equal_same s x (default_same s r)
