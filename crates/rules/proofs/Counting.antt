-- Laws of a count over any test.
use mathlib.Core.Path.{◌≡◌, refl, sym, ap, ◌∙◌}
use mathlib.Core.Bool.{Bool, true, false, ◌||◌, ◌&&◌}
use Prim.Native.Nat.{ℕ, zero, suc, ◌+◌, ◌≤◌, ◌<◌}
use native.Mathlib.Omega.{arith}
use lib.Dec.{eqb}
use Rattle.rules.specs.Bytes.{pick}
use borrow.Author.Tests.{eqb-true, eqb-false, eq-eqb, ne_eqb}
use Rattle.rules.specs.State.{count}

-- one more number, by its test
unfoldable pub tally : Bool → ℕ → ℕ
tally true n = suc n
tally false n = n

pub count_more : (n : ℕ) (h : ℕ → Bool) → count (suc n) h ≡ tally (h n) (count n h)
unfolding count tally
count_more n h = go (h n)
  where
    go : (t : Bool) → elim t [ true ↦ suc (count n h) | false ↦ count n h ] ≡ tally t (count n h)
    go true = refl
    go false = refl

pub count_zero : (h : ℕ → Bool) → count 0 h ≡ 0
unfolding count
count_zero h = refl

pub count_same : (n : ℕ) (h h' : ℕ → Bool) → ((l : ℕ) → l < n → h' l ≡ h l) → count n h' ≡ count n h
count_same zero h h' same = count_zero h' ∙ sym (count_zero h)
count_same (suc n) h h' same = count_more n h' ∙ rw (same n (omega arith), count_same n h h' (λ l p. same l (omega arith))) (sym (count_more n h))

pub count_none : (n : ℕ) (h : ℕ → Bool) → ((l : ℕ) → l < n → h l ≡ false) → count n h ≡ 0
unfolding tally
count_none zero h e = count_zero h
count_none (suc n) h e = count_more n h ∙ rw (e n (omega arith)) (count_none n h (λ l p. e l (omega arith)))

pub count_all : (n : ℕ) (h : ℕ → Bool) → ((l : ℕ) → l < n → h l ≡ true) → count n h ≡ n
unfolding tally
count_all zero h e = count_zero h
count_all (suc n) h e = count_more n h ∙ rw (e n (omega arith)) (ap suc (count_all n h (λ l p. e l (omega arith))))

pub count_le : (n : ℕ) (h : ℕ → Bool) → count n h ≤ n
unfolding tally
count_le zero h = omega (arith, count_zero h)
count_le (suc n) h = rw (count_more n h) (go (h n) (count_le n h))
  where
    go : (t : Bool) → count n h ≤ n → tally t (count n h) ≤ suc n
    go true r = omega arith
    go false r = omega arith

-- a test that j alone passes besides
pub count_new : (n : ℕ) (h h' : ℕ → Bool) (j : ℕ) → j < n → h j ≡ false → h' j ≡ true → ((l : ℕ) → (l ≡ j → ⊥) → h' l ≡ h l) → count n h' ≡ suc (count n h)
unfolding tally
count_new zero h h' j b e e' same = absurd (omega arith)
count_new (suc n) h h' j b e e' same = count_more n h' ∙ go (eqb n j) refl (λ ne. count_new n h h' j (omega arith) e e' same) ∙ ap suc (sym (count_more n h))
  where
    both : (t : Bool) (a b : ℕ) → a ≡ suc b → tally t a ≡ suc (tally t b)
    both true a b p = ap suc p
    both false a b p = p

    go : (u : Bool) → eqb n j ≡ u → ((n ≡ j → ⊥) → count n h' ≡ suc (count n h)) → tally (h' n) (count n h') ≡ suc (tally (h n) (count n h))
    go true f more = let z : n ≡ j = eqb-true n j f in rw (z, e, e', count_same j h h' (λ l p. same l (λ q. omega arith)))
    go false f more = let ne : n ≡ j → ⊥ = eqb-false n j f in rw (same n ne) (both (h n) (count n h') (count n h) (more ne))

-- with one more passing, the count is still at most n
pub count_room : (n : ℕ) (h : ℕ → Bool) (j : ℕ) → j < n → h j ≡ false → count n h < n
count_room n h j b e = omega (arith, count_le n more, count_new n h more j b e (rw (eq-eqb j j refl) refl) (λ l ne. rw (ne_eqb l j ne) refl))
  where
    more : ℕ → Bool
    more l = pick (eqb l j) true (h l)

-- a test in two parts
pub count_split : (n : ℕ) (a b h : ℕ → Bool) → ((l : ℕ) → h l ≡ (a l || b l)) → ((l : ℕ) → (a l && b l) ≡ false) → count n a + count n b ≡ count n h
unfolding tally
count_split zero a b h e d = omega (arith, count_zero a, count_zero b, count_zero h)
count_split (suc n) a b h e d = rw (count_more n a, count_more n b, count_more n h) (go (a n) (b n) (h n) (e n) (d n) (count n a) (count n b) (count n h) (count_split n a b h e d))
  where
    go : (x y z : Bool) → z ≡ (x || y) → (x && y) ≡ false → (l m k : ℕ) → l + m ≡ k → tally x l + tally y m ≡ tally z k
    go true true z e d l m k h = let q : ◌≡◌ {A = ℕ} 0 1 = cc in absurd (omega arith)
    go true false z e d l m k h = rw e (omega arith)
    go false true z e d l m k h = rw e (omega arith)
    go false false z e d l m k h = rw e h
