-- What a comparison of two strings says of their order.
use Prim.Native.Nat.{ℕ}
use mathlib.Core.Path.{◌≡◌, refl}
use mathlib.Core.Bool.{Bool, true, false}
use mathlib.Core.List.{List}
use native.Mathlib.Omega.{arith}
use Rattle.rules.specs.Bytes.{pick}
use Rattle.rules.specs.Check.{ascends}
use Rattle.rules.proofs.Ascending.{neither_first}
use Rattle.interner.specs.Strings.{order_of}
use Rattle.std.specs.declared.cmp.Ordering.TheVariants.{Less, Equal, Greater}

module _ (x y : List ℕ) where
  pub told_before : Less ≡ order_of x y → ascends x y ≡ true
  unfolding order_of
  told_before h = go (ascends x y) (ascends y x) h
    where
      go : (a b : Bool) → Less ≡ pick a Less (pick b Greater Equal) → a ≡ true
      go true b h = refl
      go false true h = let z : ◌≡◌ {A = ℕ} 0 1 = cc in absurd (omega arith)
      go false false h = let z : ◌≡◌ {A = ℕ} 0 1 = cc in absurd (omega arith)

  pub told_after : Greater ≡ order_of x y → ascends y x ≡ true
  unfolding order_of
  told_after h = go (ascends x y) (ascends y x) h
    where
      go : (a b : Bool) → Greater ≡ pick a Less (pick b Greater Equal) → b ≡ true
      go a true h = refl
      go true false h = let z : ◌≡◌ {A = ℕ} 0 1 = cc in absurd (omega arith)
      go false false h = let z : ◌≡◌ {A = ℕ} 0 1 = cc in absurd (omega arith)

  pub told_same : Equal ≡ order_of x y → x ≡ y
  unfolding order_of
  told_same h = go (ascends x y) refl (ascends y x) refl h
    where
      go : (a : Bool) → ascends x y ≡ a → (b : Bool) → ascends y x ≡ b → Equal ≡ pick a Less (pick b Greater Equal) → x ≡ y
      go true i b j h = let z : ◌≡◌ {A = ℕ} 0 1 = cc in absurd (omega arith)
      go false i true j h = let z : ◌≡◌ {A = ℕ} 0 1 = cc in absurd (omega arith)
      go false i false j h = neither_first x y i j
