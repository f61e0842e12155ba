-- The first part that has a label: one test after the other. Assumes nothing.
use Prim.Native.Nat.{ℕ}
use mathlib.Core.Path.{◌≡◌, refl, sym, ◌∙◌}
use mathlib.Core.Bool.{Bool, true, false, ◌||◌}
use Rattle.labels.specs.declared.Labels.{Labels}
use Rattle.labels.specs.Sets.{has, ◌∪◌}
use Rattle.labels.proofs.Laws.{has_union}
use Rattle.values.specs.declared.SetPart.TheVariants.{Title, Path, Trail, Marks, Value}
use Rattle.values.specs.Numbers.{part_number}
use Rattle.wire.specs.Bytes.{pick}
use Rattle.rules.specs.State.{SetParts}
use Rattle.rules.specs.Why.{set_of, first_part}
use Rattle.provenance.specs.Parts.{held_part}

-- the number of the first part whose test holds
unfoldable number_by : (t p r m v : Bool) → ℕ
number_by t p r m v = pick t (part_number Title) (pick p (part_number Path) (pick r (part_number Trail) (pick m (part_number Marks) (pick v (part_number Value) 6))))

by_tests : (t p r m v : Bool) → pick ((((t || p) || r) || m) || v) (part_number (elim t [ true ↦ Title | false ↦ elim p [ true ↦ Path | false ↦ elim r [ true ↦ Trail | false ↦ elim m [ true ↦ Marks | false ↦ Value ] ] ] ])) 6 ≡ number_by t p r m v
unfolding number_by
by_tests true p r m v = refl
by_tests false true r m v = refl
by_tests false false true m v = refl
by_tests false false false true v = refl
by_tests false false false false true = refl
by_tests false false false false false = refl

has_parts : (t p r m v : Labels) (l : ℕ) → has (t ∪ p ∪ r ∪ m ∪ v) l ≡ ((((has t l || has p l) || has r l) || has m l) || has v l)
has_parts t p r m v l = simp has_union

module _ (t p r m v : Labels) (l : ℕ) where
  abbrev parts : SetParts
  parts = record { title = t; path = p; trail = r; marks = m; value = v }

  held_by : number_by (has t l) (has p l) (has r l) (has m l) (has v l) ≡ held_part parts l
  unfolding held_part set_of first_part
  held_by = sym (rw (has_parts t p r m v l) (by_tests (has t l) (has p l) (has r l) (has m l) (has v l)))

  -- the ways of `part_held`
  module _ {a : Bool} (in-t : a ≡ has t l) where
    pub held_in_title : {n : ℕ} → a ≡ true → n ≡ part_number Title → n ≡ held_part parts l
    unfolding number_by
    held_in_title is e = e ∙ (rw (sym in-t ∙ is) at held_by)

    module _ (not_t : a ≡ false) {b : Bool} (in_p : b ≡ has p l) where
      pub held_in_path : {n : ℕ} → b ≡ true → n ≡ part_number Path → n ≡ held_part parts l
      unfolding number_by
      held_in_path is e = e ∙ (rw (sym in-t ∙ not_t, sym in_p ∙ is) at held_by)

      module _ (not-p : b ≡ false) {c : Bool} (in-r : c ≡ has r l) where
        pub held_in_trail : {n : ℕ} → c ≡ true → n ≡ part_number Trail → n ≡ held_part parts l
        unfolding number_by
        held_in_trail is e = e ∙ (rw (sym in-t ∙ not_t, sym in_p ∙ not-p, sym in-r ∙ is) at held_by)

        module _ (not-r : c ≡ false) {d : Bool} (in-m : d ≡ has m l) where
          pub held_in_marks : {n : ℕ} → d ≡ true → n ≡ part_number Marks → n ≡ held_part parts l
          unfolding number_by
          held_in_marks is e = e ∙ (rw (sym in-t ∙ not_t, sym in_p ∙ not-p, sym in-r ∙ not-r, sym in-m ∙ is) at held_by)

          module _ (not-m : d ≡ false) {f : Bool} (in-v : f ≡ has v l) where
            pub held_in_value : {n : ℕ} → f ≡ true → n ≡ part_number Value → n ≡ held_part parts l
            unfolding number_by
            held_in_value is e = e ∙ (rw (sym in-t ∙ not_t, sym in_p ∙ not-p, sym in-r ∙ not-r, sym in-m ∙ not-m, sym in-v ∙ is) at held_by)

            pub held_nowhere : f ≡ false → 6 ≡ held_part parts l
            unfolding number_by
            held_nowhere is = rw (sym in-t ∙ not_t, sym in_p ∙ not-p, sym in-r ∙ not-r, sym in-m ∙ not-m, sym in-v ∙ is) at held_by
