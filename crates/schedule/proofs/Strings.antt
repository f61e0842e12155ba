-- The strings that an index has places for. Assumes nothing.
use mathlib.Core.Path.{◌≡◌, refl, ap, ◌∙◌}
use mathlib.Core.List.{List, []}
use Prim.Native.Nat.{ℕ, zero, suc, ◌+◌, ◌*◌, ◌≤◌, ◌<◌}
use native.Mathlib.Omega.{arith}
use lib.ListN.{get_or}
use Rattle.rules.specs.Bytes.{two}
use Rattle.rules.specs.Check.{text}
use Rattle.rules.specs.Compile.{string_at}
use Rattle.syntax.specs.Strings.{texts_at}
use Rattle.schedule.specs.Strings.{places_from, strings_by}

past_last : (m index : List ℕ) (k i n : ℕ) → k ≤ n → [] ≡ get_or (texts_at m (places_from index k i)) n []
unfolding places_from texts_at
past_last m index zero i n h = refl
past_last m index (suc k) i zero h = absurd (omega arith)
past_last m index (suc k) i (suc n) h = past_last m index k (suc i) n (omega arith)

text_there : (m index : List ℕ) (k i n : ℕ) → n < k → text m (two index (2 * (i + n))) ≡ get_or (texts_at m (places_from index k i)) n []
unfolding places_from texts_at
text_there m index zero i n h = absurd (omega arith)
text_there m index (suc k) i zero h = let e : i + 0 ≡ i = omega arith in ap (λ (j : ℕ). text m (two index (2 * j))) e
text_there m index (suc k) i (suc n) h =
    let e : i + suc n ≡ suc i + n = omega arith in
    ap (λ (j : ℕ). text m (two index (2 * j))) e ∙ text_there m index k (suc i) n (omega arith)

module _ (m index : List ℕ) (strings n : ℕ) where
  pub no_string_lem : strings ≤ n → [] ≡ string_at (strings_by m index strings) n
  unfolding string_at strings_by
  no_string_lem h = past_last m index strings 0 n h

  pub its_string : {p : ℕ} {xs : List ℕ} → n < strings → p ≡ two index (2 * n) → xs ≡ text m p → xs ≡ string_at (strings_by m index strings) n
  unfolding string_at strings_by
  its_string h p x =
      let e : n ≡ 0 + n = omega arith in
      x ∙ ap (text m) p ∙ ap (λ (j : ℕ). text m (two index (2 * j))) e ∙ text_there m index strings 0 n h
