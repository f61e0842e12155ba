-- The marks of a variable, of one scope after the other. Assumes nothing.
use Prim.Native.Nat.{ℕ, ◌+◌, ◌-◌, ◌≤◌, ◌<◌}
use mathlib.Core.Path.{◌≡◌, refl, sym, ap, ◌∙◌}
use mathlib.Core.Bool.{Bool, true, false}
use mathlib.Core.List.{List, [], ◌∷◌}
use mathlib.Core.Option.{Option, none, some}
use borrow.Author.Tests.{le-ltb}
use Rattle.labels.specs.declared.Labels.{Labels}
use Rattle.labels.specs.Bytes.{set_at}
use Rattle.labels.specs.Sets.{no_labels, ◌∪◌}
use Rattle.labels.proofs.Laws.{union_assoc, union_none, union_none_after}
use Rattle.values.specs.declared.Labelled.{Labelled}
use Rattle.rules.specs.State.{Scope, class_scope, Base, DeclaredClass, parent_of, upward, is_some, no_cell, Cells}
use Rattle.rules.specs.Evaluate.{marks_in}
use Rattle.cells.specs.Layout.{body_at, body_mark, slots_of}
use Rattle.cells.specs.Scopes.{scope_of, numbered}
use Rattle.cells.specs.Slots.{value_in, mark_in, slot_for}
use Rattle.cells.specs.Memory.{cell_at, by_scope, cells_of, classes_of}
use Rattle.cells.proofs.Scopes.{class_scope_lem}
use Rattle.cells.proofs.SlotReads.{content_there, mark_read}
use Rattle.cells.proofs.Ways.{in_slots, cell_found}
use Rattle.memory.specs.Names.{scope_above}
use Rattle.evaluator.proofs.Reading.{no_value, above, upward_step, upward_one}
use Rattle.std.specs.Prelude.{Option as CodeOption, Some, None}

-- the marks of the scopes above one, unless that has a value
unfoldable unless_found : Option Labelled → (above : Labels) → Labels
unless_found none above = above
unless_found (some x) above = no_labels

module _ (cells : Cells) (n : ℕ) (classes : ℕ → Option DeclaredClass) (b : Base) where
  abbrev marks_from : (left : ℕ) → Scope → Labels
  marks_from left s = marks_in cells n (upward left classes b s)

  -- what the scopes above s have, if `left` counts s
  abbrev pub beyond : (left : ℕ) → Scope → Labels
  beyond left s = marks_in cells n (above classes b (left - 1) (parent_of classes b s))

  marks_step : (left : ℕ) (s : Scope) → 0 < left → marks_from left s ≡ (cells s n).mark ∪ unless_found (cells s n).value (beyond left s)
  unfolding marks_in unless_found
  marks_step left s h = ap (marks_in cells n) (upward_step classes b left s h) ∙ ap (λ (k : Labels). (cells s n).mark ∪ k) (go (cells s n).value)
    where
      go : (o : Option Labelled) → (elim o [ none ↦ beyond left s | some x ↦ no_labels ]) ≡ unless_found o (beyond left s)
      go none = refl
      go (some x) = refl

  -- the ways of `marks_up`: so far the scopes up to s were passed over, and their marks joined; then s is too
  module _ {whole : Labels} (marks : Labels) (left : ℕ) (s : Scope) where
    pub marks_out : marks ∪ marks_from left s ≡ whole → left ≡ 0 → marks ≡ whole
    unfolding upward marks_in
    marks_out so_far z = sym (union_none_after marks) ∙ (rw z at so_far)

    module _ (passed : marks ∪ beyond left s ≡ whole) {a : CodeOption ℕ} (parent : scope_above a ≡ parent_of classes b s) where
      pub marks_end : a ≡ None → marks ≡ whole
      unfolding scope_above above marks_in
      marks_end z = sym (union_none_after marks) ∙ (rw (sym parent, z) at passed)

      pub marks_on : {q : ℕ} → a ≡ Some q → marks ∪ marks_from (left - 1) (scope_of q) ≡ whole
      unfolding scope_above above
      marks_on z = rw (sym parent, z) at passed

  pub marks_begin : (left : ℕ) (s : Scope) → no_labels ∪ marks_from left s ≡ marks_from left s
  marks_begin left s = union_none (marks_from left s)

-- the ways of `marks_up` at one scope, by the slot that is found
module _ (w : List ℕ) (n : ℕ) (b : Base) {whole : Labels} (marks : Labels) (left s : ℕ) (so_far : marks ∪ marks_from (cells_of w) n (classes_of w) b left (scope_of s) ≡ whole) (more : 0 < left) {q : CodeOption ℕ} (found : q ≡ slot_for (slots_of w) s n) where
  abbrev rest : Labels
  rest = beyond (cells_of w) n (classes_of w) b left (scope_of s)

  by_slot : marks ∪ ((cell_at (slots_of w) q).mark ∪ unless_found (cell_at (slots_of w) q).value rest) ≡ whole
  by_slot = rw (sym (cell_found w s n found)) (ap (λ (k : Labels). marks ∪ k) (sym (marks_step (cells_of w) n (classes_of w) b left (scope_of s) more)) ∙ so_far)

  pub pass_none : {u : Labels} → q ≡ None → u ≡ marks → u ∪ rest ≡ whole
  unfolding cell_at no_cell unless_found
  pass_none none_there same = rw same (ap (λ (k : Labels). marks ∪ k) (sym (union_none rest)) ∙ (rw none_there at by_slot))

  module _ (i : ℕ) {m u : Labels} {t : Bool} (is : q ≡ Some i) (mark : m ≡ set_at w (body_at i + body_mark)) (joined : u ≡ marks ∪ m) (told : t ≡ is_some (value_in (slots_of w i))) where
    below : i < 512
    below = in_slots 1 (slots_of w) s n i found is

    with_mark_lem : u ∪ unless_found (value_in (slots_of w i)) rest ≡ whole
    unfolding cell_at
    with_mark_lem = rw (joined, mark, mark_read w i below) (union_assoc marks (mark_in (slots_of w i)) (unless_found (value_in (slots_of w i)) rest) ∙ (rw is at by_slot))

    pub pass_empty : t ≡ false → u ∪ rest ≡ whole
    unfolding unless_found
    pass_empty none_there = rw (no_value (value_in (slots_of w i)) (sym told ∙ none_there)) at with_mark_lem

    pub marks_here_lem : t ≡ true → u ≡ whole
    unfolding unless_found
    marks_here_lem there = sym (union_none_after u) ∙ (rw (content_there w i below (sym told ∙ there)) at with_mark_lem)

-- ---- The ways of `class_marks`

module _ (w : List ℕ) (c n : ℕ) where
  pub class_past : 1024 ≤ c → no_labels ≡ marks_in (cells_of w) n (class_scope c ∷ [])
  unfolding marks_in cells_of by_scope numbered no_cell
  class_past l = rw (le-ltb c 1024 l) (sym (union_none no_labels))

  pub class_cell : (base : Base) {r : Labels} → c < 1024 → r ≡ marks_in (cells_of w) n (upward 1 (classes_of w) base (scope_of (2 + c))) → r ≡ marks_in (cells_of w) n (class_scope c ∷ [])
  class_cell base l e = e ∙ ap (marks_in (cells_of w) n) (upward_one (classes_of w) base (scope_of (2 + c)) ∙ ap (λ (s : Scope). s ∷ []) (class_scope_lem c l))
