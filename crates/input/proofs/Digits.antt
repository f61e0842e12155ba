-- Digit after digit, a number that is above the limit stays above it. Assumes nothing.
use Prim.Native.Nat.{ℕ, ◌+◌, ◌-◌, ◌*◌, ◌≤◌, ◌<◌, min}
use mathlib.Core.Path.{◌≡◌, refl}
use mathlib.Core.Bool.{Bool, true, false}
use mathlib.Core.List.{List, [], ◌∷◌}
use native.Mathlib.Numerals.{add-one}
use native.Mathlib.Omega.{arith}
use borrow.Author.Tests.{ltb-true, ltb-false, lt-ltb, le-ltb}
use lib.Dec.{ltb}
use lib.ListN.{length, drop, drop_of_length-le}
use lib.Seq.{drop-cons}
use Rattle.std.specs.Prelude.{Some, None}
use Rattle.wire.specs.Bytes.{byte, pick}
use Rattle.input.specs.Numbers.{with_digit, spelled, up_to}

module _ (most : ℕ) where
  -- what is told of a number: it is no larger than the limit, or larger
  pub some_told : {n k : ℕ} → Some n ≡ up_to most k → (n ≡ k) × (k ≤ most)
  unfolding up_to
  some_told {n} {k} e = go (ltb most k) refl e
    where
      go : (t : Bool) → ltb most k ≡ t → Some n ≡ pick t None (Some k) → (n ≡ k) × (k ≤ most)
      go true s e = let z : ◌≡◌ {A = ℕ} 0 1 = cc in absurd (omega arith)
      go false s e = (cc, ltb-false most k s)

  pub none_told : {k : ℕ} → None ≡ up_to most k → most < k
  unfolding up_to
  none_told {k} e = go (ltb most k) refl e
    where
      go : (t : Bool) → ltb most k ≡ t → None ≡ pick t None (Some k) → most < k
      go true s e = ltb-true most k s
      go false s e = let z : ◌≡◌ {A = ℕ} 0 1 = cc in absurd (omega arith)

  pub some_up_to : {n k : ℕ} → n ≡ k → k ≤ most → Some n ≡ up_to most k
  unfolding up_to
  some_up_to {n} {k} e low = rw (le-ltb most k low, e) refl

  pub none_up_to : (k : ℕ) → most < k → None ≡ up_to most k
  unfolding up_to
  none_up_to k high = rw (lt-ltb most k high) refl

  -- a digit more
  pub no_digit : (n c : ℕ) → (48 ≤ c → c ≤ 57 → ⊥) → most < with_digit most n c
  unfolding with_digit
  no_digit n c none = go (ltb c 48) refl (ltb 57 c) refl
    where
      go : (a : Bool) → ltb c 48 ≡ a → (b : Bool) → ltb 57 c ≡ b → most < pick a (most + 1) (pick b (most + 1) (min (most + 1) (n * 10 + (c - 48))))
      go true p b q = omega arith
      go false p true q = omega arith
      go false p false q = absurd (none (ltb-false c 48 p) (ltb-false 57 c q))

  pub a_digit : (n c : ℕ) → 48 ≤ c → c ≤ 57 → with_digit most n c ≡ min (most + 1) (n * 10 + (c - 48))
  unfolding with_digit
  a_digit n c low high = rw (le-ltb c 48 low, le-ltb 57 c high) refl

  digit_past : (n c : ℕ) → most < n → most < with_digit most n c
  unfolding with_digit
  digit_past n c past = go (ltb c 48) (ltb 57 c)
    where
      go : (a b : Bool) → most < pick a (most + 1) (pick b (most + 1) (min (most + 1) (n * 10 + (c - 48))))
      go true b = omega arith
      go false true = omega arith
      go false false = omega arith

  past_stays : (cs : List ℕ) (n : ℕ) → most < n → most < spelled most cs n
  unfolding spelled
  past_stays [] n past = past
  past_stays (c ∷ cs) n past = past_stays cs (with_digit most n c) (digit_past n c past)

  -- one digit after the other, in the words of the loop
  pub digit_more : (text : List ℕ) (i n : ℕ) → i < length text → spelled most (drop (i + 1) text) (with_digit most n (byte text i)) ≡ spelled most (drop i text) n
  unfolding spelled
  digit_more text i n h = rw (add-one, drop-cons text i 0 h) refl

  pub digits_end : (text : List ℕ) (i n : ℕ) → length text ≤ i → n ≡ spelled most (drop i text) n
  unfolding spelled
  digits_end text i n h = rw drop_of_length-le refl

  pub past_here : (text : List ℕ) (i n : ℕ) {whole : ℕ} → i < length text → most < with_digit most n (byte text i) → spelled most (drop i text) n ≡ whole → most < whole
  past_here text i n {whole} inside past is =
      let stays = past_stays (drop (i + 1) text) (with_digit most n (byte text i)) past in
      omega (arith, stays, digit_more text i n inside, is)
