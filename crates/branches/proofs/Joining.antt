-- One set of names joined to another, word by word. Assumes nothing.
use Prim.Native.Nat.{ℕ, ◌+◌, ◌/◌, ◌%◌, ◌^◌, ◌≤◌, ◌<◌}
use mathlib.Core.Path.{◌≡◌, refl, sym, ap, ◌∙◌}
use mathlib.Core.Bool.{Bool, true, false, ◌||◌}
use mathlib.Core.List.{List}
use native.Mathlib.Nat.{mod-lt, zero-lt-suc, zero-div}
use native.Mathlib.Omega.{arith}
use borrow.Author.Tests.{ltb-true, ltb-false, eqb-true, eqb-false}
use lib.Bits.{bit_or}
use lib.Dec.{eqb, ltb}
use lib.ListN.{length, get_or, set, length-set, get_or-eq_default}
use lib.Seq.{get_or-set_same, get_or-set_other}
use Rattle.labels.specs.declared.Labels.{Labels}
use Rattle.labels.specs.Sets.{◌∪◌, word_of, has}
use Rattle.labels.proofs.Laws.{has_digit, has_union}
use Rattle.branches.specs.Names.{bit_in, contains}

-- a word as a set of labels
abbrev as_labels : ℕ → Labels
as_labels v = record { w0 = v; w1 = 0; w2 = 0; w3 = 0 }

label_bit : (v n : ℕ) → has (as_labels v) (n % 64) ≡ bit_in v n
unfolding word_of bit_in
label_bit v n = let from : 0 + n % 64 ≡ n % 64 = omega arith in rw from at (has_digit (as_labels v) 0 (n % 64) (omega (arith, mod-lt n (zero-lt-suc 63))))

bit_joined : (v u n : ℕ) → bit_in (bit_or v u) n ≡ (bit_in v n || bit_in u n)
unfolding ◌∪◌
bit_joined v u n = sym (label_bit (bit_or v u) n) ∙ has_union (as_labels v) (as_labels u) (n % 64) ∙ rw (label_bit v n, label_bit u n) refl

no_bit : (n : ℕ) → bit_in 0 n ≡ false
unfolding bit_in
no_bit n = ap (λ (x : ℕ). eqb (x % 2) 1) (zero-div (2 ^ (n % 64)))

-- the words below i of the set f are joined to s₀
pub record Joining (f s₀ : List ℕ) (i : ℕ) (s : List ℕ) : Type 0 where
  pub size : length s ≡ length s₀
  pub done : (j : ℕ) → j < i → get_or s j 0 ≡ bit_or (get_or s₀ j 0) (get_or f j 0)
  pub left : (j : ℕ) → i ≤ j → get_or s j 0 ≡ get_or s₀ j 0

pub joining : (f s : List ℕ) → Joining f s 0 s
joining f s = record { size = refl; done = λ j l. absurd (omega arith); left = λ j l. refl }

module _ {f s₀ s : List ℕ} {i : ℕ} (q : Joining f s₀ i s) where
  pub joined_word : {x : ℕ} → x ≡ get_or f i 0 → i < length s₀ → Joining f s₀ (i + 1) (set s i (bit_or (get_or s i 0) x))
  joined_word {x} e room = record {
    size = length-set s i _ ∙ q.size;
    done = λ j l. go j l (eqb j i) refl;
    left = λ j l. get_or-set_other s i j _ 0 (λ h. omega arith) ∙ q.left j (omega arith);
  }
    where
      v : ℕ
      v = bit_or (get_or s i 0) x

      go : (j : ℕ) → j < i + 1 → (b : Bool) → eqb j i ≡ b → get_or (set s i v) j 0 ≡ bit_or (get_or s₀ j 0) (get_or f j 0)
      go j l true h = let here : j ≡ i = eqb-true j i h in let size = q.size in rw here (get_or-set_same s i v 0 (omega arith) ∙ rw (q.left i (omega arith), e) refl)
      go j l false h = let apart : j ≡ i → ⊥ = eqb-false j i h in get_or-set_other s i j v 0 apart ∙ q.done j (omega arith)

  pub joined_all : length f ≤ i → (n : ℕ) → contains s n ≡ (contains s₀ n || contains f n)
  unfolding contains
  joined_all past = λ n. members n (ltb (n / 64) i) refl
    where
      members : (n : ℕ) (b : Bool) → ltb (n / 64) i ≡ b → contains s n ≡ (contains s₀ n || contains f n)
      members n true h = ap (λ (v : ℕ). bit_in v n) (q.done (n / 64) (ltb-true (n / 64) i h)) ∙ bit_joined (get_or s₀ (n / 64) 0) (get_or f (n / 64) 0) n
      members n false h =
          let beyond : i ≤ n / 64 = ltb-false (n / 64) i h in
          let none : get_or f (n / 64) 0 ≡ 0 = get_or-eq_default f 0 (omega arith) in
          ap (λ (v : ℕ). bit_in v n) (q.left (n / 64) beyond) ∙ rw none (no_more (contains s₀ n))
        where
          no_more : (b : Bool) → b ≡ (b || bit_in 0 n)
          no_more true = refl
          no_more false = sym (no_bit n)
