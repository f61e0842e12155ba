-- The ways of the functions on classes.
use mathlib.Core.Path.{◌≡◌, refl, sym, ap, ◌∙◌, fun_ext}
use mathlib.Core.Bool.{Bool, true, false, not}
use mathlib.Core.List.{List}
use mathlib.Core.Option.{Option, none, some}
use Prim.Native.Nat.{ℕ, ◌+◌, ◌-◌, ◌≤◌, ◌<◌}
use native.Mathlib.Omega.{arith}
use lib.Dec.{eqb, lit<}
use lib.ListN.{length}
use borrow.Author.Tests.{eqb-true, ne_eqb}
use Rattle.wire.specs.Bytes.{pick, byte, two}
use Rattle.wire.specs.Numbers.{high_bytes}
use Rattle.wire.specs.Runs.{over}
use Rattle.rules.specs.State.{Base, top_base, node_base, base_scope, DeclaredClass, parent_of_class, parent_of, Entry, is_declared, mark_declared}
use Rattle.cells.specs.Layout.{record_at, put_at, NameRecord, name_at, records_of, name_class, name_parent}
use Rattle.cells.specs.Scopes.{scope_of}
use Rattle.cells.specs.Memory.{base_for, class_from, class_in, definition_in, built_in_in, classes_of, definition_of, built_in_of, names_of, state_of, Becomes}
use Rattle.cells.proofs.Scopes.{scope_cases, top_scope_lem, node_scope_lem}
use Rattle.memory.specs.Names.{class_state, placed, scope_above, is_node, at_node}
use Rattle.memory.proofs.Records.{record_in_lem, by_record, Filed, and_then, class_to, parent_to, class_filed, parent_filed, slots_kept, rest_kept, read_kept, read_put, names_are, state_is}
use Rattle.std.specs.Int.{from_bool}
use Rattle.std.specs.Prelude.{Some, None}

class_small : (b : Bool) → class_state b < 256
unfolding class_state
class_small true = lit< tt
class_small false = lit< tt

class_back : (b : Bool) (q : ℕ) → class_from (class_state b) q ≡ some (placed q b)
unfolding class_state class_from
class_back true q = refl
class_back false q = refl

-- declare_class
pub declare_way : (w : List ℕ) (k q : ℕ) (b : Bool) {t : ℕ} {w1 w2 : List ℕ} → 65536 ≤ length w → k < 1024 → q < 65536 → t ≡ class_state b
    → w1 ≡ over w (record_at k + name_class) (high_bytes 1 t) → w2 ≡ over w1 (record_at k + name_parent) (high_bytes 2 q) → Becomes w w2 (mark_declared k (placed q b)) (λ ns. ns)
unfolding mark_declared state_of names_of definition_of built_in_of class_to parent_to class_in definition_in built_in_in classes_of put_at
declare_way w k q b {t} {w1} {w2} room below fits et e1 e2 =
    let g : NameRecord → NameRecord = λ x. parent_to q (class_to (class_state b) x) in
    let first : w1 ≡ over w (record_at k + name_class) (high_bytes 1 (class_state b)) = rw et at e1 in
    let one : Filed k w w1 (class_to (class_state b)) = class_filed w k below room (class_state b) (class_small b) first in
    let step : Filed k w w2 g = and_then one (parent_filed w1 k below (omega (arith, one.size)) q fits e2) in
    let d : Option DeclaredClass = some (placed q b) in
    let classes : classes_of w2 ≡ λ n. elim (eqb n k) [ true ↦ d | false ↦ classes_of w n ] =
    read_put k w w2 g below step class_in d (by_record (λ x. class_in (g x) ≡ d) (λ d t b' q'. class_back b q) (records_of w k)) ∙ fun_ext (λ n. pick_elim (eqb n k) d (classes_of w n)) in
    record {
      state = λ es n r. state_is k w w2 g below step es n r (λ n. elim (eqb n k) [ true ↦ d | false ↦ classes_of w n ]) classes;
      names = names_are k w w2 g below step (definition_of w) (built_in_of w)
          (read_kept k w w2 g below step definition_in (by_record (λ x. definition_in (g x) ≡ definition_in x) (λ d t b q. refl) (records_of w k)))
          (read_kept k w w2 g below step built_in_in (by_record (λ x. built_in_in (g x) ≡ built_in_in x) (λ d t b q. refl) (records_of w k)));
      rest = rest_kept k w w2 g below step;
      fine = λ f. rw (slots_kept k w w2 g below step) f;
    }
  where
    pick_elim : (x : Bool) (a b : Option DeclaredClass) → pick x a b ≡ elim x [ true ↦ a | false ↦ b ]
    pick_elim true a b = refl
    pick_elim false a b = refl

-- what stands in a name's record
class_read_lem : (w : List ℕ) (k : ℕ) → k < 1024 → classes_of w k ≡ class_from (byte w (record_at k + name_class)) (two w (record_at k + name_parent))
unfolding classes_of class_in name_at
class_read_lem w k below = rw (record_in_lem w k below) refl

-- is_declared
pub declared_read : (w : List ℕ) (k : ℕ) {r : ℕ} → k < 1024 → r ≡ byte w (record_at k + name_class) → (es : List Entry) (n m : ℕ) → not (eqb r 0) ≡ is_declared k (state_of w es n m)
unfolding is_declared state_of class_from
declared_read w k {r} below e es n m =
    let t : ℕ = byte w (record_at k + name_class) in
    ap (λ (x : ℕ). not (eqb x 0)) e ∙ go (eqb t 0) ∙ ap (λ (o : Option DeclaredClass). elim o [ none ↦ false | some d ↦ true ]) (sym (class_read_lem w k below))
  where
    go : (x : Bool) → not x ≡ elim (pick x none (some (placed (two w (record_at k + name_parent)) (eqb (byte w (record_at k + name_class)) 2)))) [ none ↦ false | some d ↦ true ]
    go true = refl
    go false = refl

-- base_of
pub base_read : (w : List ℕ) (k : ℕ) {r : ℕ} → k < 1024 → r ≡ byte w (record_at k + name_class) → eqb r 2 ≡ at_node (classes_of w k)
unfolding class_from at_node is_node base_for
base_read w k {r} below e = rw (class_read_lem w k below, e) (go (eqb t 0) refl (eqb t 2) refl)
  where
    t : ℕ
    t = byte w (record_at k + name_class)

    go : (x : Bool) → eqb t 0 ≡ x → (y : Bool) → eqb t 2 ≡ y → y ≡ at_node (pick x none (some (placed (two w (record_at k + name_parent)) y)))
    go true p true q = let a : t ≡ 0 = eqb-true t 0 p in let b : t ≡ 2 = eqb-true t 2 q in absurd (omega arith)
    go true p false q = refl
    go false p true q = refl
    go false p false q = refl

-- the base of a declared class, from what base_of answers
pub base_told : (c : Option DeclaredClass) (d : DeclaredClass) → c ≡ some d → base_for (at_node c) ≡ d.base
unfolding at_node is_node base_for
base_told c d e = rw e (go d.base)
  where
    go : (b : Base) → base_for (is_node b) ≡ b
    go top_base = refl
    go node_base = refl

-- parent_of
module _ (w : List ℕ) (b : Bool) (a : ℕ) where
  pub above_top : a ≡ 0 → scope_above None ≡ parent_of (classes_of w) (base_for b) (scope_of a)
  unfolding scope_above parent_of
  above_top e = scope_cases (λ s. none ≡ parent_of (classes_of w) (base_for b) s) a (λ _. refl) (λ p. absurd (omega arith)) (λ p q. absurd (omega arith)) (λ p. absurd (omega arith))

  pub above_node : a ≡ 1 → scope_above (Some 0) ≡ parent_of (classes_of w) (base_for b) (scope_of a)
  unfolding scope_above parent_of
  above_node e = scope_cases (λ s. some (scope_of 0) ≡ parent_of (classes_of w) (base_for b) s) a (λ p. absurd (omega arith)) (λ _. ap some top_scope_lem) (λ p q. absurd (omega arith)) (λ p. absurd (omega arith))

  pub above_body : {r : ℕ} → 1026 ≤ a → r ≡ from_bool b → scope_above (Some r) ≡ parent_of (classes_of w) (base_for b) (scope_of a)
  unfolding scope_above parent_of base_for base_scope
  above_body {r} h e = scope_cases (λ s. some (scope_of r) ≡ parent_of (classes_of w) (base_for b) s) a (λ p. absurd (omega arith)) (λ p. absurd (omega arith)) (λ p q. absurd (omega arith)) (λ p. ap some (ap scope_of e ∙ base b))
    where
      base : (b : Bool) → scope_of (from_bool b) ≡ base_scope (base_for b)
      base true = node_scope_lem
      base false = top_scope_lem

  -- a class: its record is that of the name a - 2
  above_class : (o : Option DeclaredClass) → 2 ≤ a → a < 1026 → classes_of w (a - 2) ≡ o → parent_of (classes_of w) (base_for b) (scope_of a) ≡ parent_of_class o
  unfolding parent_of
  above_class o h l e =
      scope_cases (λ s. parent_of (classes_of w) (base_for b) s ≡ parent_of_class o) a (λ p. absurd (omega arith)) (λ p. absurd (omega arith)) (λ p q. ap parent_of_class e) (λ p. absurd (omega arith))

  pub above_unknown : {t : ℕ} → (a ≡ 0 → ⊥) → (a ≡ 1 → ⊥) → a < 1026 → t ≡ byte w (record_at (a - 2) + 4) → t ≡ 0 → scope_above None ≡ parent_of (classes_of w) (base_for b) (scope_of a)
  unfolding scope_above parent_of_class class_from
  above_unknown {t} n0 n1 l e z = sym (above_class none (omega (arith, n0, n1)) l (class_read_lem w (a - 2) (omega arith) ∙ rw (sym e, z) refl))

  pub above_known : {t q : ℕ} → (a ≡ 0 → ⊥) → (a ≡ 1 → ⊥) → a < 1026 → t ≡ byte w (record_at (a - 2) + 4) → (t ≡ 0 → ⊥) → q ≡ two w (record_at (a - 2) + 6)
      → scope_above (Some q) ≡ parent_of (classes_of w) (base_for b) (scope_of a)
  unfolding scope_above parent_of_class class_from
  above_known {t} {q} n0 n1 l e nz eq =
      sym (above_class (some (placed q (eqb t 2))) (omega (arith, n0, n1)) l (class_read_lem w (a - 2) (omega arith) ∙ rw (sym e, ne_eqb t 0 nz, sym eq) refl))
