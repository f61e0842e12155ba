-- The ways of the functions that look through the 33s, or through the 26s for a name that no 33 has. Assumes nothing.
use Prim.Native.Nat.{ℕ, ◌+◌, ◌≤◌, ◌<◌}
use mathlib.Core.Path.{◌≡◌, refl, sym, ap, ◌∙◌}
use mathlib.Core.Bool.{Bool, true, false, not, false≢true}
use mathlib.Core.List.{List}
use mathlib.Core.Option.{Option, none, some}
use native.Mathlib.Omega.{arith}
use borrow.Author.Tests.{eqb-true, eq-eqb, ne_eqb, ltb-true, ltb-false, lt-ltb, le-ltb, not-true, not-false}
use lib.Dec.{ltb}
use lib.ListN.{length, get_or-eq_default}
use Rattle.values.specs.declared.Labelled.{Labelled}
use Rattle.wire.specs.Bytes.{pick, byte, two, end_of, fields_in}
use Rattle.wire.proofs.Fields.{no_fields, field_first}
use Rattle.rules.specs.Format.{allowed}
use Rattle.rules.specs.Evaluate.{any, of_constant}
use Rattle.rules.specs.Run.{default_of}
use Rattle.rules.specs.declared.Kind.TheVariants.{Parameter}
use Rattle.places.specs.At.{constant_at, default_at, Siblings}
use Rattle.places.proofs.Parts.{first_sibling, siblings_go_on, siblings_stop}
use Rattle.places.proofs.Items.{BlockEnds}
use Rattle.records.specs.Record.{held_of}
use Rattle.attributes.specs.Names.{has_name}
use Rattle.attributes.specs.Table.{given_at}
use Rattle.records.proofs.Laws.{held_value, held_nothing}
use Rattle.parameters.specs.Places.{unknown_in, or_default, parameter_value, or_missing, missing_in}
use Rattle.std.specs.Prelude.{Option as CodeOption, Some, None, is_some}

-- ---- The ways of `end_of_parameters`: the 33s from q on are the last of those from `from` on

abbrev pub LastFrom : List ℕ → (from q : ℕ) → Type 0
LastFrom m from q = (to e : ℕ) → Siblings m 31 Parameter from to → BlockEnds m 31 to e → Siblings m 31 Parameter q to

-- what ends the 33s is none
no_parameter : {m : List ℕ} {to e : ℕ} → BlockEnds m 31 to e → allowed Parameter (byte m to) ≡ false
unfolding allowed
no_parameter {m} {to} b = rw (eqb-true (byte m to) 0x20 b.block.kind)

module _ {m : List ℕ} {from q t : ℕ} (last : LastFrom m from q) (read : t ≡ byte m q) where
  pub parameter_further : {r : ℕ} → t ≡ 0x33 → r ≡ end_of m q → LastFrom m from r
  unfolding allowed
  parameter_further {r} is next to e s b =
      let here = last to e s b in
      rw next (first_sibling here (siblings_go_on here (no_parameter b) (eq-eqb (byte m q) 0x33 (sym read ∙ is)))).after

  pub parameters_end : (t ≡ 0x33 → ⊥) → (to e : ℕ) → Siblings m 31 Parameter from to → BlockEnds m 31 to e → q ≡ to
  unfolding allowed
  parameters_end is to e s b = siblings_stop (last to e s b) (ne_eqb (byte m q) 0x33 (λ h. is (read ∙ h)))

-- a byte that is not 0 stands before the end
pub tag_within : (m : List ℕ) (q : ℕ) {t : ℕ} → t ≡ byte m q → t ≡ 0x33 → q < length m
tag_within m q {t} read is = go (ltb q (length m)) refl
  where
    go : (b : Bool) → ltb q (length m) ≡ b → q < length m
    go true h = ltb-true q (length m) h
    go false h = absurd (omega (arith, get_or-eq_default m 0 {n = q} (ltb-false q (length m) h)))

-- ---- The ways of `find_unknown`: what is left from q on says what all of them say

abbrev pub Unknown : (m ps : List ℕ) → (first end q : ℕ) → Type 0
Unknown m ps first end q = unknown_in m ps (fields_in m q end) ≡ unknown_in m ps (fields_in m first end)

module _ (m ps : List ℕ) (first end q : ℕ) (left : Unknown m ps first end q) where
  module _ (more : q < end) {n : ℕ} {b : Bool} (read : n ≡ two m (q + 3)) (named : b ≡ any (has_name m n) ps) where
    choice : pick b (unknown_in m ps (fields_in m (end_of m q) end)) (Some q) ≡ unknown_in m ps (fields_in m first end)
    unfolding unknown_in
    choice = ap (λ (x : Bool). pick x (unknown_in m ps (fields_in m (end_of m q) end)) (Some q)) (named ∙ ap (λ (k : ℕ). any (has_name m k) ps) read) ∙ ap (unknown_in m ps) (sym (field_first m q end more)) ∙ left

    pub unknown_here : not b ≡ true → Some q ≡ unknown_in m ps (fields_in m first end)
    unknown_here is = rw (not-true b is) at choice

    pub unknown_further : {r : ℕ} → not b ≡ false → r ≡ end_of m q → unknown_in m ps (fields_in m r end) ≡ unknown_in m ps (fields_in m first end)
    unknown_further is next = rw next (rw (not-false b is) at choice)

  pub unknown_nowhere : end ≤ q → None ≡ unknown_in m ps (fields_in m first end)
  unfolding unknown_in
  unknown_nowhere over = ap (unknown_in m ps) (sym (no_fields m q end over)) ∙ left

-- ---- The ways of `value_of`

module _ (m t : List ℕ) (q : ℕ) {n : ℕ} {h : CodeOption Labelled} (name : n ≡ two m (q + 3)) (read : h ≡ held_of (given_at t n)) where
  given_read : h ≡ held_of (given_at t (two m (q + 3)))
  given_read = read ∙ ap (λ (k : ℕ). held_of (given_at t k)) name

  pub value_from_table : {x : Labelled} → h ≡ Some x → Some x ≡ held_of (parameter_value m t q)
  unfolding parameter_value or_default held_of
  value_from_table {x} is = sym (ap (λ (o : Option Labelled). held_of (or_default o (default_of (default_at m q)))) (held_value (given_at t (two m (q + 3))) given_read is))

  module _ (is : h ≡ None) where
    not_given_lem : parameter_value m t q ≡ default_of (default_at m q)
    unfolding parameter_value or_default
    not_given_lem = ap (λ (o : Option Labelled). or_default o (default_of (default_at m q))) (held_nothing (given_at t (two m (q + 3))) given_read is)

    pub value_nowhere : {e : ℕ} → e ≡ end_of m q → e ≤ q + 5 → None ≡ held_of (parameter_value m t q)
    unfolding held_of default_of default_at
    value_nowhere end over = sym (ap held_of (not_given_lem ∙ ap (λ (b : Bool). default_of (pick b (some (constant_at m (q + 5))) none)) (le-ltb (q + 5) (end_of m q) (omega arith))))

    pub value_by_default : {e : ℕ} {x : Labelled} → e ≡ end_of m q → q + 5 < e → x ≡ of_constant (constant_at m (q + 5)) → Some x ≡ held_of (parameter_value m t q)
    unfolding held_of default_of default_at
    value_by_default end more constant = ap Some constant ∙ sym (ap held_of (not_given_lem ∙ ap (λ (b : Bool). default_of (pick b (some (constant_at m (q + 5))) none)) (lt-ltb (q + 5) (end_of m q) (omega arith))))

-- ---- The ways of `find_missing`: what is left from q on says what all of them say

abbrev pub Missing : (m t : List ℕ) → (from to q : ℕ) → Type 0
Missing m t from to q = missing_in m t (fields_in m q to) ≡ missing_in m t (fields_in m from to)

module _ (m t : List ℕ) (from to q : ℕ) (left : Missing m t from to q) where
  module _ (more : q < to) {h : CodeOption Labelled} (read : h ≡ held_of (parameter_value m t q)) where
    decided : {o : Option Labelled} → parameter_value m t q ≡ o → or_missing q o (missing_in m t (fields_in m (end_of m q) to)) ≡ missing_in m t (fields_in m from to)
    unfolding missing_in
    decided e = ap (λ (o : Option Labelled). or_missing q o (missing_in m t (fields_in m (end_of m q) to))) (sym e) ∙ ap (missing_in m t) (sym (field_first m q to more)) ∙ left

    pub missing_here : h ≡ None → Some q ≡ missing_in m t (fields_in m from to)
    unfolding or_missing
    missing_here is = decided (held_nothing (parameter_value m t q) read is)

    pub missing_further : {r : ℕ} → is_some h ≡ true → r ≡ end_of m q → Missing m t from to r
    unfolding or_missing held_of
    missing_further there next = rw next (go (parameter_value m t q) refl)
      where
        go : (o : Option Labelled) → parameter_value m t q ≡ o → missing_in m t (fields_in m (end_of m q) to) ≡ missing_in m t (fields_in m from to)
        go (some x) e = decided e
        go none e = absurd (false≢true (sym (ap (λ (a : CodeOption Labelled). is_some a) (read ∙ ap held_of e)) ∙ there))

  pub missing_nowhere : to ≤ q → None ≡ missing_in m t (fields_in m from to)
  unfolding missing_in
  missing_nowhere over = ap (missing_in m t) (sym (no_fields m q to over)) ∙ left
