-- The ways of the functions on the string "title": its bytes are the first of those that follow the links.
use mathlib.Core.Path.{◌≡◌, refl, sym, ap, ◌∙◌}
use mathlib.Core.Bool.{Bool, true, false}
use mathlib.Core.List.{List}
use mathlib.Core.Option.{none, some}
use Prim.Native.Nat.{ℕ, ◌+◌, ◌-◌, ◌≤◌, ◌<◌}
use native.Mathlib.Omega.{arith}
use lib.ListN.{length, drop}
use lib.Dec.{eqb, ltb}
use borrow.Author.Tests.{ne_eqb, lt-ltb, le-ltb, eqb-false, ltb-false}
use Rattle.wire.specs.Bytes.{pick, two}
use Rattle.wire.specs.Numbers.{high_bytes}
use Rattle.wire.specs.Runs.{over}
use Rattle.wire.proofs.Laws.{same_rest, two_same, byte_outside, high_length, stored_outside, stored_two}
use Rattle.cells.specs.Layout.{words_at, rest_of}
use Rattle.cells.specs.Memory.{Stays}
use Rattle.cells.proofs.Others.{others_stored}
use Rattle.memory.specs.Names.{title_in, title_of, title_found, TitleSet}
use Rattle.std.specs.Prelude.{Some, None}

rest_first : (w : List ℕ) → two w words_at ≡ two (rest_of w) 0
unfolding rest_of
rest_first w = two_same w (drop words_at w) words_at 0 (same_rest w (drop words_at w) words_at 0 refl 2)

-- THE LAWS: the bytes of others say it alone, and zeros say nothing
pub title_kept : (w w' : List ℕ) → rest_of w' ≡ rest_of w → title_of w' ≡ title_of w
unfolding title_of
title_kept w w' e = rw e refl

pub title_same : (w w' : List ℕ) → two w' words_at ≡ two w words_at → title_of w' ≡ title_of w
unfolding title_of
title_same w w' e = ap title_in (sym (rest_first w') ∙ e ∙ rest_first w)

pub no_title : (w : List ℕ) → two w words_at ≡ 0 → title_of w ≡ none
unfolding title_of title_in
no_title w e = rw (sym (rest_first w), e) refl

pub title_small : (w : List ℕ) (n : ℕ) → title_of w ≡ some n → n < 1024
unfolding title_of title_in
title_small w n = go (two (rest_of w) 0)
  where
    go : (t : ℕ) → pick (eqb t 0) none (pick (ltb 1024 t) none (some (t - 1))) ≡ some n → n < 1024
    go t = by (eqb t 0) refl (ltb 1024 t) refl
      where
        by : (x : Bool) → eqb t 0 ≡ x → (y : Bool) → ltb 1024 t ≡ y → pick x none (pick y none (some (t - 1))) ≡ some n → n < 1024
        by true e y f h = let z : ◌≡◌ {A = ℕ} 0 1 = cc in absurd (omega arith)
        by false e true f h = let z : ◌≡◌ {A = ℕ} 0 1 = cc in absurd (omega arith)
        by false e false f h = let same : t - 1 ≡ n = cc in let a : t ≡ 0 → ⊥ = eqb-false t 0 e in let b : t ≤ 1024 = ltb-false 1024 t f in omega arith

-- title
module _ (w : List ℕ) {t : ℕ} (read : t ≡ two w words_at) where
  pub title_none : t ≡ 0 → title_found None ≡ title_of w
  unfolding title_found title_of title_in
  title_none e = rw (sym (rest_first w), sym read, e) refl

  pub title_past : (t ≡ 0 → ⊥) → 1024 < t → title_found None ≡ title_of w
  unfolding title_found title_of title_in
  title_past ne l = rw (sym (rest_first w), sym read, ne_eqb t 0 ne, lt-ltb 1024 t l) refl

  pub title_some : (t ≡ 0 → ⊥) → t ≤ 1024 → title_found (Some (t - 1)) ≡ title_of w
  unfolding title_found title_of title_in
  title_some ne l = rw (sym (rest_first w), sym read, ne_eqb t 0 ne, le-ltb 1024 t l) refl

-- set_title
pub title_way : (w : List ℕ) (n : ℕ) (w' : List ℕ) → 65536 ≤ length w → n < 1024 → w' ≡ over w words_at (high_bytes 2 (n + 1)) → TitleSet w w' n
unfolding title_of title_in
title_way w n w' room below e =
    let size : length (high_bytes 2 (n + 1)) ≡ 2 = high_length 2 (n + 1) in
    let stays : Stays w w' = others_stored w w' (λ k l. rw e (byte_outside w words_at (high_bytes 2 (n + 1)) k (λ a b. omega arith))) in
    let back : two w' words_at ≡ n + 1 = ap (λ (m : List ℕ). two m words_at) e ∙ stored_two w words_at (n + 1) (omega arith) (omega arith) in
    let one_less : n + 1 - 1 ≡ n = omega arith in
    record {
      title = rw (sym (rest_first w'), back, ne_eqb (n + 1) 0 (λ z. omega arith), le-ltb 1024 (n + 1) (omega arith), one_less) refl;
      state = stays.state;
      names = stays.names;
      fine = stays.fine;
      after = λ p l. ap (λ (m : List ℕ). two m p) e ∙ two_same (over w words_at (high_bytes 2 (n + 1))) w p p (stored_outside w words_at 2 (n + 1) p 2 (λ i a b c d. omega arith));
    }
