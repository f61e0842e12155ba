-- Patterns tried one after the other. Assumes nothing.
use Prim.Native.Nat.{ℕ}
use mathlib.Core.Path.{◌≡◌, refl, sym, ap, ◌∙◌}
use mathlib.Core.Bool.{true, false}
use mathlib.Core.List.{List}
use lib.ListN.{length}
use Rattle.labels.specs.declared.Labels.{Labels}
use Rattle.labels.specs.Sets.{one_label, ◌∪◌}
use Rattle.labels.specs.Words.{labels_in, Joins}
use Rattle.labels.proofs.Laws.{union_assoc, union_none_after}
use Rattle.values.specs.declared.Value.{Value}
use Rattle.wire.specs.Bytes.{fields_in}
use Rattle.rules.specs.Arithmetic.{same_value}
use Rattle.rules.specs.Tree.{Constant}
use Rattle.rules.specs.Patterns.{Patterns, no_pattern, constant_pattern, default_pattern, first_equal, first_default, chosen, tried, labels_of, tried_labels}
use Rattle.rules.proofs.Patterns.{tried_equal, tried_other}
use Rattle.patterns.specs.Tried.{patterns_at, Matches}
use Rattle.std.specs.Option.{option_or}
use Rattle.std.specs.Prelude.{Option, Some, None}

-- ---- The default kept

kept_none : (d : Option ℕ) → option_or d None ≡ d
kept_none (Some q) = refl
kept_none None = refl

kept_once : (d : Option ℕ) (q : ℕ) (later : Option ℕ) → option_or (option_or d (Some q)) later ≡ option_or d (Some q)
kept_once (Some p) q later = refl
kept_once None q later = refl

-- ---- One law for each pattern that comes next

-- the labels joined so far to the set s, and the default met, with the patterns left, give what those from `first` to e give
pub record Trying (m : List ℕ) (first e : ℕ) (x : Value) (s joined : List ℕ) (met : Option ℕ) (left : Patterns (Option ℕ)) : Type 0 where
  pub at : first_equal left x (option_or met (first_default left None)) ≡ chosen (patterns_at m (fields_in m first e)) x None
  pub labels : labels_in joined ∪ tried_labels left x ≡ labels_in s ∪ tried_labels (patterns_at m (fields_in m first e)) x
  pub size : length joined ≡ 4

pub none_tried : (m : List ℕ) (first e : ℕ) (x : Value) (s : List ℕ) → length s ≡ 4 → Trying m first e x s s None (patterns_at m (fields_in m first e))
unfolding chosen
none_tried m first e x s size = record { at = refl; labels = refl; size = size }

module _ {m : List ℕ} {first e : ℕ} {x : Value} {s joined : List ℕ} {met : Option ℕ} where
  pub none_left : Trying m first e x s joined met no_pattern → Matches m first e x s joined met
  unfolding first_equal first_default tried_labels tried labels_of
  none_left i = record { at = sym (kept_none met) ∙ i.at; labels = record { size = i.size; labels = sym (union_none_after (labels_in joined)) ∙ i.labels } }

  pub default_met : {follows : ℕ} {left : Patterns (Option ℕ)} → Trying m first e x s joined met (default_pattern (Some follows) left) → Trying m first e x s joined (option_or met (Some follows)) left
  unfolding first_equal first_default tried_labels tried
  default_met {follows} {left} i = record { at = ap (first_equal left x) (kept_once met follows _) ∙ i.at; labels = i.labels; size = i.size }

  module _ {c : Constant} {follows : Option ℕ} {left : Patterns (Option ℕ)} (i : Trying m first e x s joined met (constant_pattern c follows left)) {more : List ℕ} (j : Joins joined more (one_label c.label)) where
    pub constant_equal : same_value x c.value ≡ true → Matches m first e x s more follows
    unfolding first_equal
    constant_equal same = record { at = rw (same, first_equal) at i.at; labels = record { size = j.size; labels = j.labels ∙ ap (λ (k : Labels). labels_in joined ∪ k) (sym (tried_equal c follows left x same)) ∙ i.labels } }

    pub constant_passed : same_value x c.value ≡ false → Trying m first e x s more met left
    unfolding first_equal first_default
    constant_passed other = record { at = rw (other, first_equal) at i.at; labels = ap (λ (k : Labels). k ∪ tried_labels left x) j.labels ∙ union_assoc _ _ _ ∙ ap (λ (k : Labels). labels_in joined ∪ k) (sym (tried_other c follows left x other)) ∙ i.labels; size = j.size }
