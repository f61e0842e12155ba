-- A pattern is written when its constant is, or the word for default.
use Prim.Native.Nat.{ℕ, ◌+◌, ◌≤◌}
use mathlib.Core.Path.{◌≡◌, sym, ap, ◌∙◌, subst}
use mathlib.Core.Bool.{Bool}
use mathlib.Core.List.{List, ◌∷◌}
use native.Mathlib.Omega.{arith}
use lib.Dec.{eqb}
use lib.ListN.{length}
use borrow.Author.Tests.{eq-eqb, ne_eqb}
use Rattle.rules.specs.Bytes.{pick, byte, end_of}
use Rattle.places.specs.At.{constant_at}
use Rattle.notation.specs.Print.{the, constant_lexeme}
use Rattle.token_writer.specs.declared.Pen.{Pen}
use Rattle.statement_printer.specs.Passing.{Passes}
use Rattle.statement_printer.specs.Labels.{first_label}
use Rattle.statement_printer.specs.Patterns.{printed_pattern}

-- a field at a computed place ends within the manifest
pub ends_within : (m : List ℕ) {p q e : ℕ} → q ≡ p → e ≡ end_of m q → end_of m p ≤ length m → e ≤ length m
ends_within m {p} {q} {e} eq ee h = let same : e ≡ end_of m p = ee ∙ ap (end_of m) eq in omega (arith, same, h)

module _ (S : ℕ → List ℕ) (m : List ℕ) (p : ℕ) {t : ℕ} {a b : List ℕ} {pen pen' : Pen} (tag : t ≡ byte m p) where
  -- the pattern by the test of its tag
  by_test : (x : Bool) → eqb (byte m p) 0x1b ≡ x
      → Passes a b pen pen' (λ rest. pick x (the (first_label m (end_of m p) (end_of m (end_of m p)) pen.line) 28 ∷ rest (first_label m (end_of m p) (end_of m (end_of m p)) pen.line)) (constant_lexeme S (constant_at m p) ∷ rest (byte m (p + 3))))
      → Passes a b pen pen' (printed_pattern S m p pen.line)
  unfolding printed_pattern
  by_test x e h =
      subst (λ (y : Bool). Passes a b pen pen' (λ rest. pick y (the (first_label m (end_of m p) (end_of m (end_of m p)) pen.line) 28 ∷ rest (first_label m (end_of m p) (end_of m (end_of m p)) pen.line)) (constant_lexeme S (constant_at m p) ∷ rest (byte m (p + 3))))) (sym e) h

  pub constant_pattern_passes : (t ≡ 0x1b → ⊥) → Passes a b pen pen' (λ rest. constant_lexeme S (constant_at m p) ∷ rest (byte m (p + 3))) → Passes a b pen pen' (printed_pattern S m p pen.line)
  constant_pattern_passes other h = by_test _ (ap (λ (x : ℕ). eqb x 0x1b) (sym tag) ∙ ne_eqb t 0x1b other) h

  pub default_pattern_passes : {y z line : ℕ} → t ≡ 0x1b → y ≡ end_of m p → z ≡ end_of m y → line ≡ first_label m y z pen.line → Passes a b pen pen' (λ rest. the line 28 ∷ rest line) → Passes a b pen pen' (printed_pattern S m p pen.line)
  default_pattern_passes is ey ez eline h =
      let first = eline ∙ (λ j. first_label m (ey j) ((ez ∙ ap (end_of m) ey) j) pen.line) in
      by_test _ (ap (λ (x : ℕ). eqb x 0x1b) (sym tag) ∙ eq-eqb t 0x1b is) (subst (λ (n : ℕ). Passes a b pen pen' (λ rest. the n 28 ∷ rest n)) first h)
