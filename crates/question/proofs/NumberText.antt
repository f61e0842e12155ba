-- A text spells a number up to a limit precisely if it is the number's decimal text. Assumes nothing.
use Prim.Native.Nat.{ℕ, zero, suc, ◌+◌, ◌-◌, ◌*◌, ◌/◌, ◌%◌, ◌^◌, ◌≤◌, ◌<◌, min}
use mathlib.Core.Path.{◌≡◌, refl, sym, ap, ◌∙◌}
use mathlib.Core.Bool.{Bool, true, false}
use mathlib.Core.List.{List, [], ◌∷◌, ◌++◌, append-nil, append_assoc}
use native.Mathlib.Nat.{pow-suc}
use native.Mathlib.Omega.{arith}
use borrow.Author.Tests.{ltb-true, ltb-false, lt-ltb, le-ltb, eqb-false, ne_eqb}
use lib.Dec.{eqb, ltb}
use Rattle.wire.specs.Bytes.{pick}
use Rattle.values.specs.Decimal.{digits, decimal}
use Rattle.rules.proofs.Lists.{when_true, when_false}
use Rattle.question.specs.Numbers.{with_digit, spelled, number_in}

-- ---- Digits

-- a number of one digit, and the last digit of any other
one_digit : (k n : ℕ) (behind : List ℕ) → n < 10 → digits k n behind ≡ (48 + n) ∷ behind
unfolding digits
one_digit zero n behind h = let same : n % 10 ≡ n = omega arith in ap (λ (d : ℕ). (48 + d) ∷ behind) same
one_digit (suc k) n behind h = when_true _ _ _ (lt-ltb n 10 h)

last_digit : (k n : ℕ) (behind : List ℕ) → 10 ≤ n → digits (suc k) n behind ≡ digits k (n / 10) ((48 + n % 10) ∷ behind)
unfolding digits
last_digit k n behind h = when_false _ _ _ (le-ltb n 10 h)

tenth : (k n : ℕ) → n < 10 ^ suc (suc k) → n / 10 < 10 ^ suc k
tenth k n small = let p : 10 ^ suc (suc k) ≡ 10 ^ suc k * 10 = pow-suc 10 (suc k) in omega arith

-- room for one digit more changes nothing
more_room : (k n : ℕ) (behind : List ℕ) → n < 10 ^ suc k → digits k n behind ≡ digits (suc k) n behind
more_room zero n behind small = one_digit 0 n behind small ∙ sym (one_digit 1 n behind small)
more_room (suc k) n behind small = go (more_room k (n / 10) ((48 + n % 10) ∷ behind) (tenth k n small)) (ltb n 10) refl
  where
    go : digits k (n / 10) ((48 + n % 10) ∷ behind) ≡ digits (suc k) (n / 10) ((48 + n % 10) ∷ behind) → (b : Bool) → ltb n 10 ≡ b → digits (suc k) n behind ≡ digits (suc (suc k)) n behind
    go rest true e = one_digit (suc k) n behind (ltb-true n 10 e) ∙ sym (one_digit (suc (suc k)) n behind (ltb-true n 10 e))
    go rest false e = last_digit k n behind (ltb-false n 10 e) ∙ rest ∙ sym (last_digit (suc k) n behind (ltb-false n 10 e))

-- ---- The text of a number spells it

module _ (most : ℕ) where
  digit_is : (n d : ℕ) → d < 10 → n * 10 + d ≤ most → with_digit most n (48 + d) ≡ n * 10 + d
  unfolding with_digit
  digit_is n d low small =
      let a : 48 ≤ 48 + d = omega arith in
      let b : 48 + d ≤ 57 = omega arith in
      rw (le-ltb (48 + d) 48 a, le-ltb 57 (48 + d) b) (omega arith)

  spells_one : (k n : ℕ) (behind : List ℕ) → n ≤ most → n < 10 → spelled most (digits k n behind) 0 ≡ spelled most behind n
  unfolding spelled
  spells_one k n behind small low =
      let alone : 0 * 10 + n ≡ n = omega arith in
      ap (λ (l : List ℕ). spelled most l 0) (one_digit k n behind low) ∙ ap (spelled most behind) (digit_is 0 n low (omega arith) ∙ alone)

  spells : (k n : ℕ) (behind : List ℕ) → n ≤ most → n < 10 ^ suc k → spelled most (digits k n behind) 0 ≡ spelled most behind n
  unfolding spelled
  spells zero n behind small fits = spells_one 0 n behind small fits
  spells (suc k) n behind small fits = go (spells k (n / 10) ((48 + n % 10) ∷ behind) (omega arith) (tenth k n fits)) (ltb n 10) refl
    where
      go : spelled most (digits k (n / 10) ((48 + n % 10) ∷ behind)) 0 ≡ spelled most behind (with_digit most (n / 10) (48 + n % 10)) → (b : Bool) → ltb n 10 ≡ b → spelled most (digits (suc k) n behind) 0 ≡ spelled most behind n
      go rest true e = spells_one (suc k) n behind small (ltb-true n 10 e)
      go rest false e =
          let whole : n / 10 * 10 + n % 10 ≡ n = omega arith in
          ap (λ (l : List ℕ). spelled most l 0) (last_digit k n behind (ltb-false n 10 e))
          ∙ rest
          ∙ ap (spelled most behind) (digit_is (n / 10) (n % 10) (omega arith) (omega arith) ∙ whole)

-- its first digit is no zero
record Led (behind text : List ℕ) : Type 0 where
  first : ℕ
  others : List ℕ
  is : text ≡ first ∷ (others ++ behind)
  some : first ≡ 48 → ⊥

led_one : (k n : ℕ) (behind : List ℕ) → 1 ≤ n → n < 10 → Led behind (digits k n behind)
led_one k n behind some low = record { first = 48 + n; others = []; is = one_digit k n behind low; some = λ e. omega arith }

led : (k n : ℕ) (behind : List ℕ) → 1 ≤ n → n < 10 ^ suc k → Led behind (digits k n behind)
led zero n behind some fits = led_one 0 n behind some fits
led (suc k) n behind some fits = go (λ more. led k (n / 10) ((48 + n % 10) ∷ behind) more (tenth k n fits)) (ltb n 10) refl
  where
    go : (1 ≤ n / 10 → Led ((48 + n % 10) ∷ behind) (digits k (n / 10) ((48 + n % 10) ∷ behind))) → (b : Bool) → ltb n 10 ≡ b → Led behind (digits (suc k) n behind)
    go rest true e = led_one (suc k) n behind some (ltb-true n 10 e)
    go rest false e =
        let l = rest (omega (arith, ltb-false n 10 e)) in
        record {
          first = l.first;
          others = l.others ++ ((48 + n % 10) ∷ []);
          is = last_digit k n behind (ltb-false n 10 e) ∙ l.is ∙ ap (λ (t : List ℕ). l.first ∷ t) (sym (append_assoc l.others ((48 + n % 10) ∷ []) behind));
          some = l.some;
        }

module _ (most : ℕ) where
  -- several digits
  number_several : (c : ℕ) (cs : List ℕ) (d : ℕ) → (c ≡ 48 → ⊥) → number_in most (c ∷ (cs ++ (d ∷ []))) ≡ spelled most (c ∷ (cs ++ (d ∷ []))) 0
  unfolding number_in
  number_several c [] d some = rw (ne_eqb c 48 some) refl
  number_several c (e ∷ es) d some = rw (ne_eqb c 48 some) refl

  pub number_decimal : (n : ℕ) → n ≤ most → n < 10 ^ 20 → number_in most (decimal n) ≡ n
  unfolding decimal number_in spelled
  number_decimal n small fits = go (ltb n 10) refl
    where
      go : (b : Bool) → ltb n 10 ≡ b → number_in most (digits 20 n []) ≡ n
      go true e =
          let alone : 0 * 10 + n ≡ n = omega arith in
          ap (number_in most) (one_digit 20 n [] (ltb-true n 10 e)) ∙ digit_is most 0 n (ltb-true n 10 e) (omega arith) ∙ alone
      go false e =
          let l = led 19 (n / 10) ((48 + n % 10) ∷ []) (omega (arith, ltb-false n 10 e)) (omega arith) in
          let text : digits 20 n [] ≡ l.first ∷ (l.others ++ ((48 + n % 10) ∷ [])) = last_digit 19 n [] (ltb-false n 10 e) ∙ l.is in
          ap (number_in most) text ∙ number_several l.first l.others (48 + n % 10) l.some ∙ ap (λ (t : List ℕ). spelled most t 0) (sym text) ∙ spells most 20 n [] small (omega arith)

-- ---- No other text spells one

record Digit (n c more : ℕ) : Type 0 where
  low : 48 ≤ c
  high : c ≤ 57
  is : more ≡ n * 10 + (c - 48)

module _ (most : ℕ) where
  a_digit : (n c : ℕ) → with_digit most n c ≤ most → Digit n c (with_digit most n c)
  unfolding with_digit
  a_digit n c small = go (ltb c 48) refl (ltb 57 c) refl small
    where
      go : (a : Bool) → ltb c 48 ≡ a → (b : Bool) → ltb 57 c ≡ b → pick a (most + 1) (pick b (most + 1) (min (most + 1) (n * 10 + (c - 48)))) ≤ most → Digit n c (pick a (most + 1) (pick b (most + 1) (min (most + 1) (n * 10 + (c - 48)))))
      go true p b q h = absurd (omega arith)
      go false p true q h = absurd (omega arith)
      go false p false q h = record { low = ltb-false c 48 p; high = ltb-false 57 c q; is = omega arith }

  -- past the limit no digit leads back
  small_before : (cs : List ℕ) (n : ℕ) → spelled most cs n ≤ most → n ≤ most
  unfolding spelled
  small_before [] n h = h
  small_before (c ∷ cs) n h = let small = small_before cs (with_digit most n c) h in let d = a_digit n c small in omega (arith, d.is)

  -- digits behind a number that is not 0
  digits_behind : most < 10 ^ 20 → (cs : List ℕ) (n : ℕ) (behind : List ℕ) → 1 ≤ n → spelled most cs n ≤ most → digits 20 (spelled most cs n) behind ≡ digits 20 n (cs ++ behind)
  unfolding spelled
  digits_behind limit [] n behind some h = refl
  digits_behind limit (c ∷ cs) n behind some h =
      let m : ℕ = with_digit most n c in
      let small : m ≤ most = small_before cs m h in
      let d = a_digit n c small in
      let front : m / 10 ≡ n = omega (arith, d.low, d.high, d.is) in
      let last : 48 + m % 10 ≡ c = omega (arith, d.low, d.high, d.is) in
      digits_behind limit cs m behind (omega (arith, d.is)) h
      ∙ last_digit 19 m (cs ++ behind) (omega (arith, d.is))
      ∙ more_room 19 (m / 10) ((48 + m % 10) ∷ (cs ++ behind)) (omega arith)
      ∙ (λ i. digits 20 (front i) (last i ∷ (cs ++ behind)))

  pub number_text : most < 10 ^ 20 → (text : List ℕ) → number_in most text ≤ most → text ≡ decimal (number_in most text)
  unfolding number_in spelled decimal
  number_text limit [] h = absurd (omega arith)
  number_text limit (c ∷ []) h =
      let x = a_digit 0 c h in
      let only : c ≡ 48 + with_digit most 0 c = omega (arith, x.low, x.is) in
      (λ i. only i ∷ []) ∙ sym (one_digit 20 (with_digit most 0 c) [] (omega (arith, x.high, x.is)))
  number_text limit (c ∷ d ∷ cs) h = go (eqb c 48) refl h
    where
      go : (b : Bool) → eqb c 48 ≡ b → pick b (most + 1) (spelled most (c ∷ d ∷ cs) 0) ≤ most → c ∷ d ∷ cs ≡ digits 20 (pick b (most + 1) (spelled most (c ∷ d ∷ cs) 0)) []
      go true e h = absurd (omega arith)
      go false e h =
          let other : c ≡ 48 → ⊥ = eqb-false c 48 e in
          let x = a_digit 0 c (small_before (d ∷ cs) (with_digit most 0 c) h) in
          let only : c ≡ 48 + with_digit most 0 c = omega (arith, x.low, x.is) in
          (λ i. only i ∷ sym (append-nil (d ∷ cs)) i) ∙ sym (one_digit 20 (with_digit most 0 c) ((d ∷ cs) ++ []) (omega (arith, x.high, x.is))) ∙ sym (digits_behind limit (d ∷ cs) (with_digit most 0 c) [] (omega (arith, other, x.low, x.is)) h)

  -- so a text that spells a number has no other byte than digits
  pub spelled_digit : (c : ℕ) (cs : List ℕ) (n : ℕ) → spelled most (c ∷ cs) n ≤ most → 48 ≤ c
  unfolding spelled
  spelled_digit c cs n h = (a_digit n c (small_before cs (with_digit most n c) h)).low
