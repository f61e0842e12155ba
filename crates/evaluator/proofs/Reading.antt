-- Reads of variables and attributes. Assumes nothing.
use Prim.Native.Nat.{ℕ, zero, suc, ◌+◌, ◌-◌, ◌<◌}
use mathlib.Core.Path.{◌≡◌, refl, sym, ap, ◌∙◌}
use mathlib.Core.Bool.{Bool, true, false, not, false≢true}
use mathlib.Core.List.{List, [], ◌∷◌}
use mathlib.Core.Option.{Option, none, some}
use native.Mathlib.Omega.{arith}
use denote.Enum.Declared.{tag_of}
use native.Mathlib.Numerals.{sub-one}
use Rattle.labels.specs.declared.Labels.{Labels}
use Rattle.labels.specs.Bytes.{set_at}
use Rattle.labels.specs.Sets.{◌∪◌}
use Rattle.values.specs.declared.Labelled.{Labelled}
use Rattle.values.specs.declared.Refusal.{Refusal}
use Rattle.values.specs.Refusals.{refusal_at}
use Rattle.values.specs.declared.Reason.TheVariants.{NoValue, Unknown, WrongKind, NotInCatalog}
use Rattle.values.specs.declared.Value.{Value}
use Rattle.values.specs.declared.Value.TheVariants.{String}
use Rattle.values.specs.contracts.Value.{the_type}
use Rattle.wire.specs.Bytes.{two}
use Rattle.rules.specs.Outcome.{Outcome, refused, done, ◌>>=◌, refuse_if, or_refuse, at, plain, joining}
use Rattle.rules.specs.Arithmetic.{string_in}
use Rattle.rules.specs.State.{Scope, Base, DeclaredClass, parent_of, upward, is_some, no_cell, Cells, Known, Entry}
use Rattle.rules.specs.Evaluate.{is_type, is_class, or_else, read_in, read_attribute}
use Rattle.rules.specs.Compile.{onto}
use Rattle.cells.specs.Layout.{body_at, body_mark, slots_of, content_in}
use Rattle.cells.specs.Scopes.{scope_of}
use Rattle.cells.specs.Slots.{value_in, mark_in, slot_for}
use Rattle.cells.specs.Memory.{cell_at, cells_of, classes_of}
use Rattle.cells.proofs.Scopes.{class_scope_lem}
use Rattle.cells.proofs.SlotReads.{content_there, mark_read}
use Rattle.cells.proofs.Ways.{in_slots, cell_found}
use Rattle.evaluator.specs.declared.Variable.{Variable}
use Rattle.evaluator.specs.Answers.{Evaluated, answered, evaluated}
use Rattle.memory.specs.Names.{scope_above}
use Rattle.catalog.specs.Finding.{Written, look_up, found_in}
use Rattle.catalog.proofs.Reading.{read_attribute_is}
use Rattle.catalog.proofs.Order.{look_in_order}
use Rattle.catalog_index.specs.Index.{Indexed}
use Rattle.evaluator.specs.Known.{KnownIn, Ready, variable_in, sought_as, class_read, attribute_of}
use Rattle.evaluator.proofs.Outcomes.{joining_none, joining_both, value_joined, refusal_joined}
use Rattle.evaluator.proofs.Operators.{not_string}
use Rattle.std.specs.Prelude.{Option as CodeOption, Some, None, Err}

pub no_value : (o : Option Labelled) → is_some o ≡ false → o ≡ none
unfolding is_some
no_value none e = refl
no_value (some x) e = absurd (false≢true (sym e))

-- the scopes above, from the parent found
unfoldable pub above : (classes : ℕ → Option DeclaredClass) → Base → (left : ℕ) → Option Scope → List Scope
above classes b left none = []
above classes b left (some t) = upward left classes b t

module _ (classes : ℕ → Option DeclaredClass) (b : Base) where
  -- one scope more
  pub upward_step : (left : ℕ) (s : Scope) → 0 < left → upward left classes b s ≡ s ∷ above classes b (left - 1) (parent_of classes b s)
  unfolding upward above
  upward_step zero s h = absurd (omega arith)
  upward_step (suc k) s h = ap (λ (ss : List Scope). s ∷ ss) (go (parent_of classes b s) ∙ ap (λ (j : ℕ). above classes b j (parent_of classes b s)) (sym (sub-one (suc k))))
    where
      go : (o : Option Scope) → (elim o [ none ↦ [] | some t ↦ upward k classes b t ]) ≡ above classes b k o
      go none = refl
      go (some t) = refl

  -- only one scope
  pub upward_one : (s : Scope) → upward 1 classes b s ≡ s ∷ []
  unfolding upward
  upward_one s = ap (λ (ss : List Scope). s ∷ ss) (go (parent_of classes b s))
    where
      go : (o : Option Scope) → ◌≡◌ {A = List Scope} (elim o [ none ↦ [] | some t ↦ [] ]) []
      go none = refl
      go (some t) = refl

module _ (p : ℕ) (cells : Cells) (n : ℕ) (classes : ℕ → Option DeclaredClass) (b : Base) where
  abbrev reading : (left : ℕ) → Scope → Outcome Labelled
  reading left s = read_in p cells n (upward left classes b s)

  read_step : (left : ℕ) (s : Scope) → 0 < left → reading left s ≡ joining (cells s n).mark (or_else (cells s n).value (read_in p cells n (above classes b (left - 1) (parent_of classes b s))))
  unfolding read_in
  read_step left s h = ap (read_in p cells n) (upward_step classes b left s h)

  pub read_one : (s : Scope) → reading 1 s ≡ read_in p cells n (s ∷ [])
  read_one s = ap (read_in p cells n) (upward_one classes b s)

  -- what the scopes above s give, if `left` counts s
  abbrev pub beyond : (left : ℕ) → Scope → Outcome Labelled
  beyond left s = read_in p cells n (above classes b (left - 1) (parent_of classes b s))

  -- the ways of `read_up`: so far the scopes up to s were passed over, and their marks joined; then s is too
  module _ {whole : Outcome Labelled} (marks : Labels) (left : ℕ) (s : Scope) where
    pub read_out : {e : Outcome Labelled} → joining marks (reading left s) ≡ whole → left ≡ 0 → e ≡ refused NoValue p → e ≡ whole
    unfolding upward read_in joining ◌>>=◌
    read_out so_far z e = e ∙ (rw z at so_far)

    module _ (passed : joining marks (beyond left s) ≡ whole) {a : CodeOption ℕ} (parent : scope_above a ≡ parent_of classes b s) where
      pub read_end : {e : Outcome Labelled} → a ≡ None → e ≡ refused NoValue p → e ≡ whole
      unfolding scope_above above read_in joining ◌>>=◌
      read_end z e = e ∙ (rw (sym parent, z) at passed)

      pub read_on : {q : ℕ} → a ≡ Some q → joining marks (reading (left - 1) (scope_of q)) ≡ whole
      unfolding scope_above above
      read_on z = rw (sym parent, z) at passed

-- the ways of `read_up` at one scope, by the slot that is found
module _ (w : List ℕ) (p n : ℕ) (b : Base) {whole : Outcome Labelled} (marks : Labels) (left s : ℕ) (so_far : joining marks (reading p (cells_of w) n (classes_of w) b left (scope_of s)) ≡ whole) (more : 0 < left) {q : CodeOption ℕ} (found : q ≡ slot_for (slots_of w) s n) where
  abbrev rest : Outcome Labelled
  rest = beyond p (cells_of w) n (classes_of w) b left (scope_of s)

  by_slot : joining marks (joining (cell_at (slots_of w) q).mark (or_else (cell_at (slots_of w) q).value rest)) ≡ whole
  by_slot = rw (sym (cell_found w s n found)) (ap (joining marks) (sym (read_step p (cells_of w) n (classes_of w) b left (scope_of s) more)) ∙ so_far)

  pub pass_none : {u : Labels} → q ≡ None → u ≡ marks → joining u rest ≡ whole
  unfolding cell_at no_cell or_else
  pass_none none_there same = rw same (ap (joining marks) (sym (joining_none rest)) ∙ (rw none_there at by_slot))

  module _ (i : ℕ) {m u : Labels} {t : Bool} (is : q ≡ Some i) (mark : m ≡ set_at w (body_at i + body_mark)) (joined : u ≡ marks ∪ m) (told : t ≡ is_some (value_in (slots_of w i))) where
    below : i < 512
    below = in_slots 1 (slots_of w) s n i found is

    with_mark_lem : joining u (or_else (value_in (slots_of w i)) rest) ≡ whole
    unfolding cell_at
    with_mark_lem = rw (joined, mark, mark_read w i below) (joining_both marks (mark_in (slots_of w i)) (or_else (value_in (slots_of w i)) rest) ∙ (rw is at by_slot))

    pub pass_empty : t ≡ false → joining u rest ≡ whole
    unfolding or_else
    pass_empty none_there = rw (no_value (value_in (slots_of w i)) (sym told ∙ none_there)) at with_mark_lem

    pub read_here : {own k : Labels} {v : Value} (e : Evaluated) → t ≡ true → own ≡ (content_in w i).labels → k ≡ u ∪ own → v ≡ (content_in w i).value → evaluated e ≡ plain v → answered e k ≡ whole
    unfolding or_else
    read_here {k = k} e there labels both value is =
        value_joined u k e (content_in w i) (is ∙ ap plain value) (both ∙ ap (λ (l : Labels). u ∪ l) labels) ∙ (rw (content_there w i below (sym told ∙ there)) at with_mark_lem)

-- ---- The ways of `class_variable`

module _ (m w : List ℕ) (p q n : ℕ) {b : Bool} (told : (k : Known) → KnownIn m w k → b ≡ is_class k q) where
  pub class_unknown : {e : Outcome Labelled} → not b ≡ true → e ≡ refused Unknown p → (k : Known) → KnownIn m w k → e ≡ class_read k p (cells_of w) q n
  unfolding class_read refuse_if ◌>>=◌
  class_unknown t e k h = e ∙ rw (sym (told k h), t)

  pub class_cell : (base : Base) {e : Outcome Labelled} → not b ≡ false → q < 1024 → e ≡ read_in p (cells_of w) n (upward 1 (classes_of w) base (scope_of (2 + q))) → (k : Known) → KnownIn m w k → e ≡ class_read k p (cells_of w) q n
  unfolding class_read refuse_if ◌>>=◌
  class_cell base t l r k h =
      r ∙ read_one p (cells_of w) n (classes_of w) base (scope_of (2 + q)) ∙ ap (λ (s : Scope). read_in p (cells_of w) n (s ∷ [])) (class_scope_lem q l) ∙ rw (sym (told k h), t)

  -- the same with the name read at p
  pub class_sought : {a : ℕ} → n ≡ two m (p + 5) → (base : Base) → not b ≡ false → q < 1024 → a ≡ two m (p + 5) → {e : Outcome Labelled} → e ≡ read_in p (cells_of w) a (upward 1 (classes_of w) base (scope_of (2 + q))) → (k : Known) → KnownIn m w k → e ≡ class_read k p (cells_of w) q n
  class_sought at base t l name r = class_cell base t l (r ∙ ap (λ (i : ℕ). read_in p (cells_of w) i (upward 1 (classes_of w) base (scope_of (2 + q)))) (name ∙ sym at))

pub was_true : (b : Bool) → not b ≡ false → b ≡ true
was_true true e = refl
was_true false e = sym e

-- ---- The ways of `variable_read`

module _ (w : List ℕ) (p : ℕ) (k l : Labels) {r : CodeOption Variable} where
  pub sought_unknown : {g : Evaluated} {why : Refusal} → r ≡ None → g ≡ Err why → why ≡ refusal_at Unknown p → answered g l ≡ joining k (sought_as w p r)
  unfolding sought_as
  sought_unknown is told e = rw (is, told) (refusal_joined k l e)

  pub sought_read : {v : Variable} (a : Evaluated) → r ≡ Some v → answered a l ≡ joining k (variable_in w p v) → answered a l ≡ joining k (sought_as w p r)
  unfolding sought_as
  sought_read a is read = rw is read

-- ---- The ways of `attribute_of`

found_some : (o : Option Labelled) (x : Labelled) → found_in o ≡ Some x → o ≡ some x
unfolding found_in
found_some none x e = let z : ◌≡◌ {A = Option Labelled} none (some x) = cc in z
found_some (some y) x e = cc

found_none : (o : Option Labelled) → found_in o ≡ None → o ≡ none
unfolding found_in
found_none none e = refl
found_none (some y) e = let z : ◌≡◌ {A = Option Labelled} (some y) none = cc in z

module _ (m w out : List ℕ) (fill p l : ℕ) (x : Value) where
  abbrev attribute : Known → List Entry → Outcome Labelled
  attribute k es = attribute_of k es p l (two m (p + 3)) (two m (p + 5)) x

  pub title_unlike : {e : Outcome Labelled} → (tag_of the_type x ≡ 1 → ⊥) → e ≡ refused WrongKind l → (k : Known) (es : List Entry) → Ready m w out fill k es → e ≡ attribute k es
  unfolding attribute_of at ◌>>=◌
  title_unlike h e k es r = e ∙ rw (not_string x h)

  module _ {s t : ℕ} {b : Bool} (is : x ≡ String s) (type : t ≡ two m (p + 3)) (told : (k : Known) → KnownIn m w k → b ≡ is_type k t) where
    known : Known → List Entry → Bool → Outcome Labelled
    known k es c = refuse_if (not c) Unknown p >>= λ _. read_attribute p t s (two m (p + 5)) es

    opened : (k : Known) (es : List Entry) → KnownIn m w k → known k es b ≡ attribute k es
    unfolding attribute_of string_in at ◌>>=◌ known
    opened k es h = rw (is, sym type, told k h)

    pub type_unknown : {e : Outcome Labelled} → not b ≡ true → e ≡ refused Unknown p → (k : Known) (es : List Entry) → Ready m w out fill k es → e ≡ attribute k es
    unfolding known refuse_if ◌>>=◌
    type_unknown n e k es r = e ∙ (rw n at (opened k es r.known))

    module _ {a : ℕ} {f : CodeOption Labelled} (n : not b ≡ false) (name : a ≡ two m (p + 5)) (found : (es : List Entry) → Written out fill es → Indexed w es → f ≡ found_in (look_up t s a es)) where
      looked : (k : Known) (es : List Entry) → Ready m w out fill k es → or_refuse (look_up t s a es) NotInCatalog p ≡ attribute k es
      unfolding known refuse_if ◌>>=◌
      looked k es r = sym (read_attribute_is p t s a es) ∙ ap (λ (i : ℕ). read_attribute p t s i es) name ∙ (rw n at (opened k es r.known))

      found_is : (k : Known) (es : List Entry) → Ready m w out fill k es → found_in (look_up t s a es) ≡ f
      found_is k es r = sym (found (onto es []) r.catalog r.index ∙ ap found_in (look_in_order t s a es r.unique))

      pub attribute_there : (y : Labelled) → f ≡ Some y → (k : Known) (es : List Entry) → Ready m w out fill k es → done y ≡ attribute k es
      unfolding or_refuse
      attribute_there y g k es r = rw (found_some (look_up t s a es) y (found_is k es r ∙ g)) at (looked k es r)

      pub attribute_missing : {e : Outcome Labelled} → f ≡ None → e ≡ refused NotInCatalog p → (k : Known) (es : List Entry) → Ready m w out fill k es → e ≡ attribute k es
      unfolding or_refuse
      attribute_missing g e k es r = e ∙ (rw (found_none (look_up t s a es) (found_is k es r ∙ g)) at (looked k es r))
