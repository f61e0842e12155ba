-- The white space before a token: one law for each way through the tests. Assumes nothing.
use mathlib.Core.Path.{◌≡◌, refl, sym, ◌∙◌}
use mathlib.Core.Bool.{Bool, true, false, ◌||◌}
use mathlib.Core.List.{List, [], ◌∷◌, ◌++◌}
use mathlib.Core.Logic.{◌⊎◌, inl, inr}
use Prim.Native.Nat.{ℕ, ◌+◌, ◌*◌, ◌-◌, ◌≤◌, ◌<◌}
use native.Mathlib.Omega.{arith}
use borrow.Author.Tests.{lt-ltb, le-ltb, ne_eqb, eqb-true, eqb-false}
use lib.Dec.{ltb, eqb}
use lib.ListN.{length, replicate, length-append, length-replicate}
use Rattle.rules.specs.Bytes.{pick}
use Rattle.notation.specs.Layout.{no_space_behind, no_space_before, gap, brackets_behind, laid_out}
use Rattle.std.specs.Prelude.{Option as CodeOption, Some, None}
use Rattle.token_writer.specs.declared.Pen.{Pen}
use Rattle.token_writer.specs.Writing.{Wrote}
use Rattle.token_writer.specs.Pens.{last_kind, gap_for, text_from, Ready}

-- ---- Where no space stands

-- before the first token
pub none_behind : {o : CodeOption ℕ} → o ≡ None → true ≡ no_space_behind (last_kind o)
unfolding last_kind no_space_behind
none_behind is = rw is

module _ (k : ℕ) where
  pub close_behind : {o : CodeOption ℕ} → o ≡ Some k → (k ≡ 9) ⊎ ((k ≡ 11) ⊎ (k ≡ 17)) → true ≡ no_space_behind (last_kind o)
  unfolding last_kind no_space_behind
  close_behind is (inl e) = rw (is, e)
  close_behind is (inr (inl e)) = rw (is, e)
  close_behind is (inr (inr e)) = rw (is, e)

  pub apart_behind : {o : CodeOption ℕ} → o ≡ Some k → ((k ≡ 9) ⊎ ((k ≡ 11) ⊎ (k ≡ 17)) → ⊥) → false ≡ no_space_behind (last_kind o)
  unfolding last_kind no_space_behind
  apart_behind is other = rw (is, ne_eqb k 9 (λ e. other (inl e)), ne_eqb k 11 (λ e. other (inr (inl e))), ne_eqb k 17 (λ e. other (inr (inr e))))

  -- the kinds from 10 to 14
  pub close_before : 10 ≤ k → k ≤ 14 → true ≡ no_space_before k
  unfolding no_space_before
  close_before l h = go (eqb k 10) refl (eqb k 11) refl (eqb k 12) refl (eqb k 13) refl
    where
      go : (a : Bool) → eqb k 10 ≡ a → (b : Bool) → eqb k 11 ≡ b → (c : Bool) → eqb k 12 ≡ c → (d : Bool) → eqb k 13 ≡ d → true ≡ no_space_before k
      go true e b f c g d i = rw e
      go false e true f c g d i = rw (eqb-true k 11 f)
      go false e false f true g d i = rw (eqb-true k 12 g)
      go false e false f false g true i = rw (eqb-true k 13 i)
      go false e false f false g false i =
          let last : k ≡ 14 = omega (arith, eqb-false k 10 e, eqb-false k 11 f, eqb-false k 12 g, eqb-false k 13 i) in
          rw last

  pub apart_before : (10 ≤ k → k ≤ 14 → ⊥) → false ≡ no_space_before k
  unfolding no_space_before
  apart_before other =
      rw (
        ne_eqb k 10 (λ e. other (omega arith) (omega arith)),
        ne_eqb k 11 (λ e. other (omega arith) (omega arith)),
        ne_eqb k 12 (λ e. other (omega arith) (omega arith)),
        ne_eqb k 13 (λ e. other (omega arith) (omega arith)),
        ne_eqb k 14 (λ e. other (omega arith) (omega arith)),
      )

  -- ---- Brackets

  pub opens : (n : ℕ) → (k ≡ 7) ⊎ ((k ≡ 9) ⊎ (k ≡ 11)) → n + 1 ≡ brackets_behind k n
  unfolding brackets_behind
  opens n (inl e) = rw e (omega arith)
  opens n (inr (inl e)) = rw e (omega arith)
  opens n (inr (inr e)) = rw e (omega arith)

  pub closes : (n : ℕ) → (k ≡ 8) ⊎ ((k ≡ 10) ⊎ (k ≡ 12)) → n - 1 ≡ brackets_behind k n
  unfolding brackets_behind
  closes n (inl e) = rw e
  closes n (inr (inl e)) = rw e
  closes n (inr (inr e)) = rw e

  pub stays : (n : ℕ) → ((k ≡ 7) ⊎ ((k ≡ 9) ⊎ (k ≡ 11)) → ⊥) → ((k ≡ 8) ⊎ ((k ≡ 10) ⊎ (k ≡ 12)) → ⊥) → n ≡ brackets_behind k n
  unfolding brackets_behind
  stays n o c =
      rw (
        ne_eqb k 7 (λ e. o (inl e)),
        ne_eqb k 9 (λ e. o (inr (inl e))),
        ne_eqb k 11 (λ e. o (inr (inr e))),
        ne_eqb k 8 (λ e. c (inl e)),
        ne_eqb k 10 (λ e. c (inr (inl e))),
        ne_eqb k 12 (λ e. c (inr (inr e))),
      )

-- ---- The white space

module _ (pen : Pen) (k w : ℕ) where
  -- on a later line
  pub gap_later : pen.line < w → replicate (w - pen.line) 0x0a ++ replicate (2 * pen.brackets) 0x20 ≡ gap_for pen k w
  unfolding gap_for gap
  gap_later h = rw (lt-ltb pen.line w h)

  module _ (same : w ≤ pen.line) {x : Bool} (is : x ≡ no_space_behind (last_kind pen.before)) where
    -- nothing, for what stands before
    pub gap_behind : x ≡ true → [] ≡ gap_for pen k w
    unfolding gap_for gap
    gap_behind e = let close : no_space_behind (last_kind pen.before) ≡ true = sym is ∙ e in rw (le-ltb pen.line w same, close)

    module _ (e : x ≡ false) {y : Bool} (its : y ≡ no_space_before k) where
      -- nothing, for what follows
      pub gap_before : y ≡ true → [] ≡ gap_for pen k w
      unfolding gap_for gap
      gap_before f =
          let far : no_space_behind (last_kind pen.before) ≡ false = sym is ∙ e in
          let close : no_space_before k ≡ true = sym its ∙ f in
          rw (le-ltb pen.line w same, far, close)

      -- a space
      pub gap_space : y ≡ false → 0x20 ∷ [] ≡ gap_for pen k w
      unfolding gap_for gap
      gap_space f =
          let far : no_space_behind (last_kind pen.before) ≡ false = sym is ∙ e in
          let free : no_space_before k ≡ false = sym its ∙ f in
          rw (le-ltb pen.line w same, far, free)

  -- no white space is long
  pub gap_short : pen.brackets ≤ 65535 → w < 256 → length (gap_for pen k w) ≤ 131325
  unfolding gap_for gap
  gap_short few h = go (ltb pen.line w) (no_space_behind (last_kind pen.before) || no_space_before k)
    where
      feeds : List ℕ
      feeds = replicate (w - pen.line) 0x0a

      spaces : List ℕ
      spaces = replicate (2 * pen.brackets) 0x20

      go : (a b : Bool) → length (pick a (feeds ++ spaces) (pick b [] (0x20 ∷ []))) ≤ 131325
      go true b = omega (arith, length-append feeds spaces, length-replicate {A = ℕ} (w - pen.line) 0x0a, length-replicate {A = ℕ} (2 * pen.brackets) 0x20)
      go false true = omega arith
      go false false = omega arith

-- where the white space ends
pub after_gap : (pen : Pen) (k w : ℕ) {a b : List ℕ} {g : ℕ} → Ready pen → w < 256 → Wrote a b pen.fill g (gap_for pen k w) → g ≤ 281474976841980
after_gap pen k w r h gone = omega (arith, r.fill, gone.filled, gap_short pen k w r.brackets h)

-- ---- The end of the text

module _ (pen : Pen) where
  pub end_none : pen.before ≡ None → [] ≡ text_from pen []
  unfolding text_from last_kind laid_out
  end_none e = rw e

  pub end_feed : {k : ℕ} → pen.before ≡ Some k → 0x0a ∷ [] ≡ text_from pen []
  unfolding text_from last_kind laid_out
  end_feed e = rw e
