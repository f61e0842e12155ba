-- The table of a 27 or 28: the large one has every row, the small one those of the names that are given. Assumes nothing.
use Prim.Native.Nat.{ℕ, ◌+◌, ◌≤◌}
use mathlib.Core.Path.{◌≡◌, refl, sym, ap, ◌∙◌}
use mathlib.Core.Bool.{Bool, false}
use mathlib.Core.List.{List}
use native.Mathlib.Omega.{arith}
use lib.ListN.{replicate}
use Rattle.wire.specs.Bytes.{byte, end_of, fields_in}
use Rattle.wire.proofs.Fields.{no_fields}
use Rattle.rules.specs.Evaluate.{any}
use Rattle.attributes.specs.Names.{name_from}
use Rattle.attributes.specs.Table.{given_place, Fresh}
use Rattle.attributes.proofs.Table.{fresh_all, fresh_below, fresh_between}
use Rattle.execution.specs.Executed.{GivenFrom, after_title, after_name, FreshFor}

-- ---- The ways of `run_given`

module _ {m : List ℕ} {p first : ℕ} (k : ℕ) where
  pub table_all : given_place 1024 ≤ k → GivenFrom m p first → FreshFor m (replicate k 0) p
  table_all long from = record { first = first; begins = from; fresh = fresh_all m k long }

  pub table_below : (limit : ℕ) {end : ℕ} {b : Bool} → given_place limit ≤ k → GivenFrom m p first → end ≡ end_of m p → b ≡ any (name_from m limit) (fields_in m first end) → b ≡ false → FreshFor m (replicate k 0) p
  table_below limit long from is told low = record { first = first; begins = from; fresh = fresh_between refl (sym is) (fresh_below m k limit long (sym told ∙ low)) }

  -- no field asks for a row
  pub table_none : {end : ℕ} → GivenFrom m p first → end ≡ end_of m p → end ≤ first → FreshFor m (replicate k 0) p
  unfolding any
  table_none from is over = record { first = first; begins = from; fresh = fresh_below m k 0 (omega arith) (ap (any (name_from m 0)) (no_fields m first (end_of m p) (omega arith))) }

-- ---- Which of the two it is

module _ {m t : List ℕ} {p : ℕ} where
  pub not_class : FreshFor m t p → {tag : ℕ} → tag ≡ byte m p → (tag ≡ 0x28 → ⊥) → byte m p ≡ 0x27
  not_class f read other = go f.begins
    where
      go : {first : ℕ} → GivenFrom m p first → byte m p ≡ 0x27
      go (after_title tag from) = tag
      go (after_name tag from) = absurd (other (read ∙ tag))

  pub fresh_defined : byte m p ≡ 0x27 → FreshFor m t p → Fresh m t (fields_in m (end_of m (p + 5)) (end_of m p))
  fresh_defined is f = go f.begins f.fresh
    where
      go : {first : ℕ} → GivenFrom m p first → Fresh m t (fields_in m first (end_of m p)) → Fresh m t (fields_in m (end_of m (p + 5)) (end_of m p))
      go (after_title tag from) fresh = fresh_between (sym from) refl fresh
      go (after_name tag from) fresh = absurd (omega (arith, is, tag))

  pub fresh_class : {end : ℕ} → byte m p ≡ 0x28 → end ≡ end_of m p → FreshFor m t p → Fresh m t (fields_in m (p + 5) end)
  fresh_class {end} is at f = go f.begins f.fresh
    where
      go : {first : ℕ} → GivenFrom m p first → Fresh m t (fields_in m first (end_of m p)) → Fresh m t (fields_in m (p + 5) end)
      go (after_title tag from) fresh = absurd (omega (arith, is, tag))
      go (after_name tag from) fresh = fresh_between (sym from) at fresh
