-- A set of labels in four words: one label more. Assumes nothing.
use Prim.Native.Nat.{ℕ, ◌*◌, ◌/◌, ◌%◌, ◌^◌, ◌<◌}
use mathlib.Core.Path.{◌≡◌, sym, ap, ◌∙◌}
use mathlib.Core.List.{List, [], ◌∷◌}
use native.Mathlib.Nat.{mod-lt, zero-lt-suc}
use native.Mathlib.Omega.{arith}
use lib.Bits.{bit_or, or_zero_r}
use lib.Dec.{lit<}
use lib.ListN.{length, get_or, set, length-set}
use lib.Pow.{shl_exact}
use Rattle.labels.specs.Sets.{bit_of, one_label, ◌∪◌}
use Rattle.labels.proofs.Laws.{one_of}
use Rattle.labels.specs.Words.{labels_in, Joins}

-- word i with the bit of l
abbrev joined : List ℕ → (i l : ℕ) → ℕ
joined s i l = bit_or (get_or s i 0) (bit_of l)

words_joined : (s : List ℕ) (l : ℕ) → length s ≡ 4 → l < 256 → labels_in (set s (l / 64) (joined s (l / 64) l)) ≡ labels_in s ∪ one_label l
unfolding ◌∪◌
words_joined (a ∷ b ∷ c ∷ d ∷ []) l size small =
    one_of (λ k. labels_in (set s (l / 64) (joined s (l / 64) l)) ≡ labels_in s ∪ k) l
    (λ h. at 0 (omega arith) ∙ λ i. record { w0 = joined s 0 l; w1 = none b i; w2 = none c i; w3 = none d i })
    (λ h k. at 1 (omega arith) ∙ λ i. record { w0 = none a i; w1 = joined s 1 l; w2 = none c i; w3 = none d i })
    (λ h k. at 2 (omega arith) ∙ λ i. record { w0 = none a i; w1 = none b i; w2 = joined s 2 l; w3 = none d i })
    (λ h. at 3 (omega arith) ∙ λ i. record { w0 = none a i; w1 = none b i; w2 = none c i; w3 = joined s 3 l })
  where
    s : List ℕ
    s = a ∷ b ∷ c ∷ d ∷ []

    none : (x : ℕ) → x ≡ bit_or x 0
    none x = sym (or_zero_r x)

    at : (k : ℕ) → l / 64 ≡ k → labels_in (set s (l / 64) (joined s (l / 64) l)) ≡ labels_in (set s k (joined s k l))
    at k e = ap (λ (n : ℕ). labels_in (set s n (joined s n l))) e
words_joined [] l size small = absurd (omega arith)
words_joined (a ∷ []) l size small = absurd (omega arith)
words_joined (a ∷ b ∷ []) l size small = absurd (omega arith)
words_joined (a ∷ b ∷ c ∷ []) l size small = absurd (omega arith)
words_joined (a ∷ b ∷ c ∷ d ∷ e ∷ f) l size small = absurd (omega arith)

-- the way of `join_label`
pub label_joined : (s : List ℕ) (l : ℕ) → length s ≡ 4 → l < 256 → Joins s (set s (l / 64) (bit_or (get_or s (l / 64) 0) (1 * 2 ^ (l % 64) % 2 ^ 64))) (one_label l)
unfolding bit_of
label_joined s l size small =
    let bit : 1 * 2 ^ (l % 64) % 2 ^ 64 ≡ bit_of l = shl_exact 1 (l % 64) 64 (lit< tt) (omega (arith, mod-lt l (zero-lt-suc 63))) ∙ omega arith in
    record {
      size = length-set s (l / 64) _ ∙ size;
      labels = ap (λ (b : ℕ). labels_in (set s (l / 64) (bit_or (get_or s (l / 64) 0) b))) bit ∙ words_joined s l size small;
    }
