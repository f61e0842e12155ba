-- The 33s by their places in the manifest and the parameters of the tree; the checks and the values.
use Prim.Native.Nat.{ℕ, ◌+◌, ◌<◌}
use mathlib.Core.Path.{◌≡◌, refl, sym, ap, ◌∙◌}
use mathlib.Core.Bool.{Bool, true, false, ◌||◌, not}
use mathlib.Core.List.{List, [], ◌∷◌}
use mathlib.Core.Option.{Option, none, some}
use native.Mathlib.Omega.{arith}
use lib.Dec.{eqb}
use Rattle.values.specs.declared.Labelled.{Labelled}
use Rattle.values.specs.declared.Reason.TheVariants.{UnknownParameter, MissingParameter}
use Rattle.wire.specs.Bytes.{pick, two}
use Rattle.rules.specs.Outcome.{Outcome, refused, done, ◌>>=◌, refuse_if, or_refuse}
use Rattle.rules.specs.Tree.{Parameter}
use Rattle.rules.specs.Evaluate.{any, first_with}
use Rattle.rules.specs.Run.{Given, is_given, named_once, is_parameter, parameters_known, default_of, given_or, parameter_values}
use Rattle.rules.proofs.Lists.{none_left, also}
use Rattle.places.specs.At.{default_at, parameter_at, parameters_at}
use Rattle.attributes.specs.Names.{has_name, Alike, alike_none, alike}
use Rattle.attributes.specs.Table.{content_of, Gives}
use Rattle.parameters.specs.Places.{unknown_in, or_default, parameter_value, or_missing, missing_in}
use Rattle.parameters.specs.Checked.{check_given, SmallNames}
use Rattle.std.specs.Prelude.{Option as CodeOption, Some, None}

-- ---- Names

-- a 33's name stands where a 26's does
pub named_parameter : (m : List ℕ) (n : ℕ) (qs : List ℕ) → any (has_name m n) qs ≡ any (is_parameter n) (parameters_at m qs)
unfolding any is_parameter parameters_at parameter_at
named_parameter m n [] = refl
named_parameter m n (q ∷ qs) = ap (λ (b : Bool). eqb (two m (q + 3)) n || b) (named_parameter m n qs)

unfoldable pub unknown_outcome : CodeOption ℕ → Outcome (Unit {0})
unknown_outcome (Some q) = refused UnknownParameter q
unknown_outcome None = done tt

pub known_places : (m : List ℕ) (ps : List ℕ) {gs : List Given} {qs : List ℕ} → Alike m gs qs → parameters_known (parameters_at m ps) gs ≡ unknown_outcome (unknown_in m ps qs)
unfolding parameters_known unknown_in unknown_outcome refuse_if ◌>>=◌
known_places m ps alike_none = refl
known_places m ps (alike {q = q} {gs = gs} {qs = qs} a) =
    ap (λ (b : Bool). refuse_if (not b) UnknownParameter q >>= λ _. parameters_known (parameters_at m ps) gs) (sym (named_parameter m (two m (q + 3)) ps)) ∙ go (known_places m ps a) (any (has_name m (two m (q + 3))) ps)
  where
    go : parameters_known (parameters_at m ps) gs ≡ unknown_outcome (unknown_in m ps qs) → (b : Bool) → (refuse_if (not b) UnknownParameter q >>= λ _. parameters_known (parameters_at m ps) gs) ≡ unknown_outcome (pick b (unknown_in m ps qs) (Some q))
    go later true = later
    go later false = refl

-- ---- Values

content_or : (o : Option Given) (d : Option Labelled) → or_default (content_of o) d ≡ given_or o d
unfolding or_default content_of given_or
content_or none d = refl
content_or (some g) d = refl

abbrev pub given_to : List ℕ → (q : ℕ) → Labelled → Given
given_to m q x = record { place = q; name = two m (q + 3); content = x }

module _ {t : List ℕ} {gs : List Given} (g : Gives t gs) (m : List ℕ) where
  -- the table's value is the one given
  pub value_given : (q : ℕ) → two m (q + 3) < 1024 → parameter_value m t q ≡ given_or (first_with (is_given (two m (q + 3))) gs) (default_of (default_at m q))
  unfolding parameter_value
  value_given q small = ap (λ (o : Option Labelled). or_default o (default_of (default_at m q))) (g.first (two m (q + 3)) small) ∙ content_or (first_with (is_given (two m (q + 3))) gs) (default_of (default_at m q))

  pub values_first : (q : ℕ) (qs : List ℕ) → two m (q + 3) < 1024 → parameter_values (parameters_at m (q ∷ qs)) gs ≡ (or_refuse (parameter_value m t q) MissingParameter q >>= λ x. parameter_values (parameters_at m qs) gs >>= λ vs. done (given_to m q x ∷ vs))
  unfolding parameter_values parameters_at parameter_at
  values_first q qs small = ap (λ (o : Option Labelled). or_refuse o MissingParameter q >>= λ x. parameter_values (parameters_at m qs) gs >>= λ vs. done (given_to m q x ∷ vs)) (sym (value_given q small))

-- the values, or the place of the first parameter without one
pub data Valued (o : Outcome (List Given)) : CodeOption ℕ → Type 0 where
  misses_at : {q : ℕ} → o ≡ refused MissingParameter q → Valued o (Some q)
  valued : (vs : List Given) → o ≡ done vs → Valued o None

valued_more : {o : Outcome (List Given)} {p : CodeOption ℕ} (g : Given) → Valued o p → Valued (o >>= λ vs. done (g ∷ vs)) p
unfolding ◌>>=◌
valued_more g (misses_at {q = q} e) = misses_at {q = q} (rw e)
valued_more g (valued vs e) = valued (g ∷ vs) (rw e)

pub missing_places : {t : List ℕ} {gs : List Given} (m : List ℕ) {qs : List ℕ} → Gives t gs → SmallNames m qs → Valued (parameter_values (parameters_at m qs) gs) (missing_in m t qs)
unfolding missing_in parameters_at parameter_values or_missing or_refuse ◌>>=◌
missing_places m g none_left = valued [] refl
missing_places {t} {gs} m g (also {x = q} {xs = qs} small smalls) = rw (values_first g m q qs small) (go (missing_places m g smalls) (parameter_value m t q))
  where
    go : Valued (parameter_values (parameters_at m qs) gs) (missing_in m t qs) → (o : Option Labelled) → Valued (or_refuse o MissingParameter q >>= λ x. parameter_values (parameters_at m qs) gs >>= λ vs. done (given_to m q x ∷ vs)) (or_missing q o (missing_in m t qs))
    go later none = misses_at {q = q} refl
    go later (some x) = valued_more (given_to m q x) later

-- the first value, and the others
pub record FirstValue (m t : List ℕ) (q : ℕ) (qs : List ℕ) (gs vs : List Given) : Type 0 where
  pub content : Labelled
  pub others : List Given
  pub value : parameter_value m t q ≡ some content
  pub rest : parameter_values (parameters_at m qs) gs ≡ done others
  pub all : vs ≡ given_to m q content ∷ others

pub first_value : {t : List ℕ} {gs vs : List Given} (m : List ℕ) (q : ℕ) (qs : List ℕ) → Gives t gs → two m (q + 3) < 1024 → parameter_values (parameters_at m (q ∷ qs)) gs ≡ done vs → FirstValue m t q qs gs vs
unfolding or_refuse ◌>>=◌
first_value {t} {gs} {vs} m q qs g small e = go (parameter_value m t q) refl (parameter_values (parameters_at m qs) gs) refl (sym (values_first g m q qs small) ∙ e)
  where
    go : (o : Option Labelled) → parameter_value m t q ≡ o → (later : Outcome (List Given)) → parameter_values (parameters_at m qs) gs ≡ later → (or_refuse o MissingParameter q >>= λ x. later >>= λ vs. done (given_to m q x ∷ vs)) ≡ done vs → FirstValue m t q qs gs vs
    go none is later so h = absurd (let z : ◌≡◌ {A = ℕ} 0 1 = cc in omega arith)
    go (some x) is (refused r p) so h = absurd (let z : ◌≡◌ {A = ℕ} 0 1 = cc in omega arith)
    go (some x) is (done us) so h = record { content = x; others = us; value = is; rest = so; all = cc }

pub no_values : (m : List ℕ) (gs : List Given) {vs : List Given} → parameter_values (parameters_at m []) gs ≡ done vs → vs ≡ []
unfolding parameter_values parameters_at
no_values m gs e = cc

-- ---- The checks

-- what is checked are the parameters' values
pub checked_values : (ps : List Parameter) (gs : List Given) {vs : List Given} → check_given ps gs ≡ done vs → parameter_values ps gs ≡ done vs
unfolding check_given ◌>>=◌
checked_values ps gs {vs} e = go (parameters_known ps gs) (parameter_values ps gs) (named_once [] gs) e
  where
    go : (a : Outcome (Unit {0})) (o : Outcome (List Given)) (b : Outcome (Unit {0})) → (a >>= λ _. o >>= λ us. b >>= λ _. done us) ≡ done vs → o ≡ done vs
    go (refused r p) o b h = absurd (let z : ◌≡◌ {A = ℕ} 0 1 = cc in omega arith)
    go (done u) (refused r p) b h = absurd (let z : ◌≡◌ {A = ℕ} 0 1 = cc in omega arith)
    go (done u) (done us) (refused r p) h = absurd (let z : ◌≡◌ {A = ℕ} 0 1 = cc in omega arith)
    go (done u) (done us) (done v) h = h

-- where nothing is given there is nothing to check but the values
pub check_none : (ps : List Parameter) → check_given ps [] ≡ parameter_values ps []
unfolding check_given parameters_known named_once ◌>>=◌
check_none ps = go (parameter_values ps [])
  where
    go : (o : Outcome (List Given)) → (o >>= λ vs. done vs) ≡ o
    go (refused r p) = refl
    go (done vs) = refl
