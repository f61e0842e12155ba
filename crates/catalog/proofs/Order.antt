-- A state has its entries with the latest first, the output in declaration order: one more entry, and what is found, the one way and the
-- other. Assumes nothing.
use Prim.Native.Nat.{ℕ}
use mathlib.Core.Path.{◌≡◌, refl, sym, ap, ◌∙◌}
use mathlib.Core.Bool.{Bool, true, false, true≢false}
use mathlib.Core.List.{List, [], ◌∷◌, ◌++◌, append_assoc}
use mathlib.Core.Option.{Option, none, some}
use Rattle.rules.specs.State.{Entry, is_some}
use Rattle.rules.specs.Evaluate.{any, first_with, is_entry}
use Rattle.rules.specs.Compile.{onto}
use Rattle.rules.proofs.Lists.{Each, none_left, also}
use Rattle.rules.proofs.Unique.{Key, key_of, has_key, only_key, UniqueEntries, unique}
use Rattle.catalog.specs.Finding.{look_up}
use Rattle.catalog.proofs.Search.{any_first}

pub onto_more : (es later : List Entry) → onto es later ≡ onto es [] ++ later
unfolding onto
onto_more [] later = refl
onto_more (e ∷ es) later = onto_more es (e ∷ later) ∙ sym (ap (λ (l : List Entry). l ++ later) (onto_more es (e ∷ [])) ∙ append_assoc (onto es []) (e ∷ []) later)

-- the latest entry comes last
pub onto_last : (e : Entry) (es : List Entry) → onto (e ∷ es) [] ≡ onto es [] ++ (e ∷ [])
unfolding onto
onto_last e es = onto_more es (e ∷ [])

pub onto_each : {P : Entry → Type 0} {es later : List Entry} → Each P es → Each P later → Each P (onto es later)
unfolding onto
onto_each none_left q = q
onto_each (also p ps) q = onto_each ps (also p q)

-- ---- The first that passes

or_first : Option Entry → Option Entry → Option Entry
or_first none b = b
or_first (some a) b = some a

or_none : (a : Option Entry) → or_first a none ≡ a
unfolding or_first
or_none none = refl
or_none (some a) = refl

none_of : (o : Option Entry) → is_some o ≡ false → o ≡ none
unfolding is_some
none_of none h = refl
none_of (some e) h = absurd (true≢false h)

module _ (t n : ℕ) where
  key : Key
  key = record { type = t; title = n }

  -- no other entry has this one's key
  no_other : (e : Entry) (es : List Entry) → any (has_key (key_of e)) es ≡ false → is_entry t n e ≡ true → first_with (is_entry t n) es ≡ none
  unfolding key
  no_other e es h is =
      let same : key_of e ≡ key = only_key key e is in
      none_of (first_with (is_entry t n) es) (sym (any_first (is_entry t n) es) ∙ ap (λ (k : Key). any (has_key k) es) (sym same) ∙ h)

  first_onto : (es later : List Entry) → UniqueEntries es → first_with (is_entry t n) (onto es later) ≡ or_first (first_with (is_entry t n) es) (first_with (is_entry t n) later)
  unfolding onto first_with or_first
  first_onto [] later u = refl
  first_onto (e ∷ es) later (unique h u) = first_onto es (e ∷ later) u ∙ go (is_entry t n e) refl
    where
      go : (b : Bool) → is_entry t n e ≡ b
          → or_first (first_with (is_entry t n) es) (elim b [ true ↦ some e | false ↦ first_with (is_entry t n) later ]) ≡ or_first (elim b [ true ↦ some e | false ↦ first_with (is_entry t n) es ]) (first_with (is_entry t n) later)
      go true is = ap (λ (o : Option Entry). or_first o (some e)) (no_other e es h is)
      go false is = refl

  -- with unique keys the order does not matter
  pub first_in_order : (es : List Entry) → UniqueEntries es → first_with (is_entry t n) (onto es []) ≡ first_with (is_entry t n) es
  unfolding first_with
  first_in_order es u = first_onto es [] u ∙ or_none (first_with (is_entry t n) es)

  pub any_in_order : (es : List Entry) → UniqueEntries es → any (is_entry t n) (onto es []) ≡ any (is_entry t n) es
  any_in_order es u = any_first (is_entry t n) (onto es []) ∙ ap is_some (first_in_order es u) ∙ sym (any_first (is_entry t n) es)

  pub look_in_order : (a : ℕ) (es : List Entry) → UniqueEntries es → look_up t n a (onto es []) ≡ look_up t n a es
  unfolding look_up
  look_in_order a es u = rw (first_in_order es u)
