-- Laws of a search from above, over any test.
use mathlib.Core.Path.{◌≡◌, refl, sym, ◌∙◌}
use mathlib.Core.Bool.{Bool, true, false}
use Prim.Native.Nat.{ℕ, zero, suc, ◌≤◌, ◌<◌}
use native.Mathlib.Omega.{arith}
use lib.Dec.{eqb}
use borrow.Author.Tests.{eqb-true, eqb-false}
use Rattle.wire.specs.Bytes.{pick}
unfoldable pub use Rattle.rules.proofs.Counting.{tally}
pub use Rattle.rules.proofs.Counting.{count_more, count_zero, count_same, count_none, count_all, count_le, count_new, count_room, count_split}
use Rattle.cells.specs.Slots.{last_below}
use Rattle.std.specs.Prelude.{Option, Some, None}

pub last_zero : (h : ℕ → Bool) → last_below 0 h ≡ None
unfolding last_below
last_zero h = refl

pub last_open : (k : ℕ) (h : ℕ → Bool) → last_below (suc k) h ≡ pick (h k) (Some k) (last_below k h)
unfolding last_below
last_open k h = refl

-- what a search from above finds
pub record Below (k : ℕ) (h : ℕ → Bool) (j : ℕ) : Type 0 where
  pub passes : h j ≡ true
  pub below : j < k

pub was_last : (k : ℕ) (h : ℕ → Bool) (j : ℕ) → last_below k h ≡ Some j → Below k h j
was_last zero h j p = let q = sym (last_zero h) ∙ p in let z : ◌≡◌ {A = ℕ} 0 1 = cc in absurd (omega arith)
was_last (suc k) h j p = go (last_below k h) (was_last k h j) (h k) refl (sym (last_open k h) ∙ p)
  where
    go : (rest : Option ℕ) → (rest ≡ Some j → Below k h j) → (t : Bool) → h k ≡ t → pick t (Some k) rest ≡ Some j → Below (suc k) h j
    go rest more true e q = let z : k ≡ j = cc in record { passes = rw z at e; below = omega arith }
    go rest more false e q = let r : Below k h j = more q in record { passes = r.passes; below = omega arith }

pub not_last : (k : ℕ) (h : ℕ → Bool) → last_below k h ≡ None → (j : ℕ) → j < k → h j ≡ false
not_last zero h p j l = absurd (omega arith)
not_last (suc k) h p j l = go (last_below k h) (not_last k h) (h k) refl (sym (last_open k h) ∙ p) (eqb k j) refl
  where
    go : (rest : Option ℕ) → (rest ≡ None → (j : ℕ) → j < k → h j ≡ false) → (t : Bool) → h k ≡ t → pick t (Some k) rest ≡ None → (u : Bool) → eqb k j ≡ u → h j ≡ false
    go rest more true e q u f = let z : ◌≡◌ {A = ℕ} 0 1 = cc in absurd (omega arith)
    go rest more false e q true f = rw (eqb-true k j f) at e
    go rest more false e q false f = let ne : k ≡ j → ⊥ = eqb-false k j f in more q j (omega arith)

-- numbers from b on that do not pass are of no concern
pub last_skip : (k b : ℕ) (h : ℕ → Bool) → b ≤ k → ((l : ℕ) → b ≤ l → l < k → h l ≡ false) → last_below k h ≡ last_below b h
last_skip zero b h l none = let z : b ≡ 0 = omega arith in rw z refl
last_skip (suc k) b h l none = go (eqb b (suc k)) refl (λ m. last_skip k b h m (λ i p q. none i p (omega arith)))
  where
    go : (t : Bool) → eqb b (suc k) ≡ t → (b ≤ k → last_below k h ≡ last_below b h) → last_below (suc k) h ≡ last_below b h
    go true e more = rw (eqb-true b (suc k) e) refl
    go false e more =
        let ne : b ≡ suc k → ⊥ = eqb-false b (suc k) e in
        last_open k h ∙ rw (none k (omega arith) (omega arith)) (more (omega arith))

pub last_nothing : (k : ℕ) (h : ℕ → Bool) → ((l : ℕ) → h l ≡ false) → last_below k h ≡ None
last_nothing k h e = last_skip k 0 h (omega arith) (λ l p q. e l) ∙ last_zero h

-- a test that differs at j alone from one that nothing passes, and passes there
pub last_new : (k : ℕ) (h h' : ℕ → Bool) (j : ℕ) → ((l : ℕ) → l < k → h l ≡ false) → j < k → h' j ≡ true → ((l : ℕ) → (l ≡ j → ⊥) → h' l ≡ h l) → last_below k h' ≡ Some j
last_new k h h' j none b e same = last_skip k (suc j) h' (omega arith) (λ l p q. same l (λ z. omega arith) ∙ none l q) ∙ last_open j h' ∙ rw e refl
