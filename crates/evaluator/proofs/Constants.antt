-- A constant, read in place. Assumes nothing.
use Prim.Native.Nat.{ℕ, ◌+◌}
use mathlib.Core.Path.{◌≡◌, refl, sym, ap, ◌∙◌}
use mathlib.Core.Bool.{Bool, true, false, ◌&&◌}
use mathlib.Core.List.{List}
use lib.ListN.{length}
use native.Mathlib.Omega.{arith}
use borrow.Author.Tests.{ne_eqb, eqb-true, le-ltb}
use lib.Dec.{eqb}
use lib.IntN.{ℤ}
use Rattle.std.specs.Prelude.{Err}
use Rattle.labels.specs.declared.Labels.{Labels}
use Rattle.labels.specs.Sets.{one_label, ◌∪◌}
use Rattle.labels.specs.Words.{labels_in, Joins}
use Rattle.labels.proofs.Words.{grows_none, grows_joined}
use Rattle.values.specs.declared.Value.{Value}
use Rattle.values.specs.declared.Value.TheVariants.{Integer, String, Boolean}
use Rattle.values.specs.declared.Labelled.{Labelled}
use Rattle.values.specs.declared.Refusal.{Refusal}
use Rattle.values.specs.Refusals.{refusal_at}
use Rattle.wire.specs.Bytes.{byte, two}
use Rattle.wire.specs.Numbers.{number, signed64}
use Rattle.wire.specs.Runs.{bytes_at}
use Rattle.rules.specs.Evaluate.{of_constant}
use Rattle.places.specs.At.{value_at, constant_at}
use Rattle.rules.specs.Outcome.{◌>>=◌, refuse_if, plain}
use Rattle.values.specs.declared.Reason.TheVariants.{Malformed}
use Rattle.memory.specs.Words.{word_of, strike_label, strike_end, struck_at, struck_in}
use Rattle.evaluator.specs.Answers.{Evaluated, evaluated, Joined}
use Rattle.evaluator.specs.Known.{constant_in}
use Rattle.evaluator.proofs.Outcomes.{refusal_joined, value_joined}

module _ (m : List ℕ) (p : ℕ) where
  pub integer_read : {t : ℕ} {z v : ℤ} → t ≡ byte m p → t ≡ 0x10 → v ≡ z → z ≡ signed64 (number (bytes_at m (p + 4) 8) 0) → Integer v ≡ value_at m p (byte m p)
  unfolding value_at
  integer_read a b c d = ap Integer (c ∙ d) ∙ ap (value_at m p) (sym b ∙ a)

  pub string_read : {t n : ℕ} → t ≡ byte m p → t ≡ 0x11 → n ≡ two m (p + 4) → String n ≡ value_at m p (byte m p)
  unfolding value_at
  string_read a b c = ap String c ∙ ap (value_at m p) (sym b ∙ a)

  pub boolean_read : {t n : ℕ} → t ≡ byte m p → (t ≡ 0x10 → ⊥) → (t ≡ 0x11 → ⊥) → n ≡ byte m (p + 4) → Boolean (eqb n 1) ≡ value_at m p (byte m p)
  unfolding value_at
  boolean_read {t} a b c d = ap (λ (k : ℕ). Boolean (eqb k 1)) d ∙ sym (rw (ne_eqb t 0x10 b, ne_eqb t 0x11 c)) ∙ ap (value_at m p) a

  pub constant_read : {l : ℕ} {k : Labels} {v : Value} → l ≡ byte m (p + 3) → k ≡ one_label l → v ≡ value_at m p (byte m p) → ◌≡◌ {A = Labelled} (record { value = v; labels = k }) (of_constant (constant_at m p))
  unfolding of_constant constant_at
  constant_read a b c = rw (c, b, a)

-- ---- The ways of `is_struck`, and what it means for the constant at p

module _ (m w : List ℕ) (p : ℕ) where
  pub nothing_struck : eqb (word_of w strike_end) 0 ≡ true → false ≡ struck_in w (constant_at m p)
  unfolding struck_in struck_at constant_at
  nothing_struck none = rw (le-ltb p (word_of w strike_end) (omega (arith, eqb-true (word_of w strike_end) 0 none))) (never (eqb (byte m (p + 3)) (word_of w strike_label)))
    where
      never : (b : Bool) → false ≡ (b && false)
      never true = refl
      never false = refl

  pub struck_told : {label : ℕ} {b : Bool} → label ≡ byte m (p + 3) → b ≡ struck_at w label p → b ≡ struck_in w (constant_at m p)
  unfolding struck_in constant_at
  struck_told labelled struck = struck ∙ ap (λ (n : ℕ). struck_at w n p) labelled

  module _ {b : Bool} (struck : b ≡ struck_in w (constant_at m p)) where
    pub constant_struck : {s : List ℕ} {why : Refusal} → length s ≡ 4 → b ≡ true → why ≡ refusal_at Malformed p → Joined s s (Err why) (constant_in w (constant_at m p))
    unfolding constant_in constant_at refuse_if ◌>>=◌
    constant_struck {s} size is e = record { grows = grows_none size; says = rw (sym struck ∙ is) (refusal_joined (labels_in s) (labels_in s) e) }

    pub constant_kept : {s s' : List ℕ} {l : ℕ} {k : Labels} {v : Value} (e : Evaluated) → b ≡ false → l ≡ byte m (p + 3) → k ≡ one_label l → Joins s s' k → v ≡ value_at m p (byte m p) → evaluated e ≡ plain v → Joined s s' e (constant_in w (constant_at m p))
    unfolding constant_in refuse_if ◌>>=◌
    constant_kept {s} {s'} e is label one joins value told = record {
      grows = grows_joined joins;
      says = rw (sym struck ∙ is) (
          let read = constant_read m p label one value in
          value_joined (labels_in s) (labels_in s') e (of_constant (constant_at m p)) (told ∙ ap (λ (x : Labelled). plain x.value) read) (joins.labels ∙ ap (λ (x : Labelled). labels_in s ∪ x.labels) read));
    }
