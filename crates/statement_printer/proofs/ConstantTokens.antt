-- A constant as a token, by its tag.
use Prim.Native.Nat.{ℕ, ◌+◌, ◌≤◌}
use mathlib.Core.Path.{◌≡◌, refl, sym, ap, ◌∙◌, subst}
use mathlib.Core.Bool.{Bool, true, false}
use mathlib.Core.List.{List, ◌∷◌}
use native.Mathlib.Omega.{arith}
use borrow.Author.Tests.{eq-eqb, ne_eqb}
use lib.Dec.{eqb}
use lib.IntN.{ℤ}
use Rattle.values.specs.declared.Value.TheVariants.{Boolean}
use Rattle.wire.specs.Bytes.{pick, byte, two}
use Rattle.wire.specs.Numbers.{number as unsigned, signed64}
use Rattle.wire.specs.Runs.{bytes_at}
use Rattle.places.specs.At.{value_at, constant_at}
use Rattle.notation.specs.Tokens.{Token, mark, number, text}
use Rattle.notation.specs.Print.{at, the, value_token, constant_lexeme}
use Rattle.token_writer.specs.declared.Pen.{Pen}
use Rattle.statement_printer.specs.Passing.{Passes}
use Rattle.statement_printer.specs.Labels.{boolean_kind}

-- ---- Booleans

pub true_kind : (b : ℕ) → b ≡ 1 → 26 ≡ boolean_kind b
unfolding boolean_kind
true_kind b e = rw (eq-eqb b 1 e)

pub false_kind : (b : ℕ) → (b ≡ 1 → ⊥) → 27 ≡ boolean_kind b
unfolding boolean_kind
false_kind b e = rw (ne_eqb b 1 e)

-- a keyword
pub boolean_range : {k : ℕ} (b : ℕ) → k ≡ boolean_kind b → (7 ≤ k) × (k ≤ 36)
unfolding boolean_kind
boolean_range {k} b e = go (eqb b 1) e
  where
    go : (x : Bool) → k ≡ pick x 26 27 → (7 ≤ k) × (k ≤ 36)
    go true e = (omega (arith, e), omega (arith, e))
    go false e = (omega (arith, e), omega (arith, e))

-- ---- The token of a constant

module _ (S : ℕ → List ℕ) (m : List ℕ) (p : ℕ) {a b : List ℕ} {pen pen' : Pen} {l t : ℕ} (label : l ≡ byte m (p + 3)) (tag : t ≡ byte m p) where
  -- a token that is the constant's
  constant_passes : (x : Token) → x ≡ value_token S (value_at m p (byte m p)) → Passes a b pen pen' (λ rest. at l x ∷ rest l) → Passes a b pen pen' (λ rest. constant_lexeme S (constant_at m p) ∷ rest (byte m (p + 3)))
  unfolding constant_at
  constant_passes x e h =
      subst (λ (y : Token). Passes a b pen pen' (λ rest. at (byte m (p + 3)) y ∷ rest (byte m (p + 3)))) e
      (subst (λ (n : ℕ). Passes a b pen pen' (λ rest. at n x ∷ rest n)) label h)

  pub integer_passes : {y z : ℤ} → t ≡ 0x10 → y ≡ z → z ≡ signed64 (unsigned (bytes_at m (p + 4) 8) 0) → Passes a b pen pen' (λ rest. at l (number y) ∷ rest l) → Passes a b pen pen' (λ rest. constant_lexeme S (constant_at m p) ∷ rest (byte m (p + 3)))
  unfolding value_token value_at
  integer_passes {y} is same e h = constant_passes (number y) (ap number (same ∙ e) ∙ ap (λ (u : ℕ). value_token S (value_at m p u)) (sym is ∙ tag)) h

  pub text_passes : {n : ℕ} → t ≡ 0x11 → n ≡ two m (p + 4) → Passes a b pen pen' (λ rest. at l (text (S n)) ∷ rest l) → Passes a b pen pen' (λ rest. constant_lexeme S (constant_at m p) ∷ rest (byte m (p + 3)))
  unfolding value_token value_at
  text_passes {n} is e h = constant_passes (text (S n)) (ap (λ (k : ℕ). text (S k)) e ∙ ap (λ (u : ℕ). value_token S (value_at m p u)) (sym is ∙ tag)) h

  -- every other tag reads as a boolean
  pub boolean_passes : {x k : ℕ} → (t ≡ 0x10 → ⊥) → (t ≡ 0x11 → ⊥) → x ≡ byte m (p + 4) → k ≡ boolean_kind x → Passes a b pen pen' (λ rest. the l k ∷ rest l) → Passes a b pen pen' (λ rest. constant_lexeme S (constant_at m p) ∷ rest (byte m (p + 3)))
  unfolding value_at boolean_kind value_token
  boolean_passes {x} {k} n10 n11 ex ek h =
      let value : Boolean (eqb x 1) ≡ value_at m p (byte m p) = ap (λ (y : ℕ). Boolean (eqb y 1)) ex ∙ sym (rw (ne_eqb t 0x10 n10, ne_eqb t 0x11 n11)) ∙ ap (value_at m p) tag in
      constant_passes (mark k) (ap mark ek ∙ spelled (eqb x 1) ∙ ap (value_token S) value) h
    where
      spelled : (y : Bool) → mark (pick y 26 27) ≡ value_token S (Boolean y)
      spelled true = refl
      spelled false = refl
