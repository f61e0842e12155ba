-- `put_fields`: the fields that are left, put where the loop is, make all.
use Prim.Native.Nat.{ℕ, ◌+◌}
use mathlib.Core.Path.{refl, sym, ap, ◌∙◌}
use mathlib.Core.List.{List, ◌++◌}
use native.Mathlib.Omega.{arith}
use lib.ListN.{length}
use Rattle.rules.specs.Fields.{wrap}
use Rattle.wire.specs.Runs.{over}
use Rattle.wire.proofs.Laws.{over_none, same_over_length}
use Rattle.notation.specs.Quoted.{string_from}
use Rattle.interner.proofs.Measuring.{fields_from, wrap_length, all_fields, whole_length, next_field, next_length, no_field, entry_at}
use Rattle.interner.proofs.Putting.{put_others}
use Rattle.interner.proofs.fields.put_fields.Goals as goal

pub loop-i-init : goal.loop-i-init
loop-i-init c = (refl, refl, omega arith)

pub overflow_mul-i : goal.overflow_mul-i
overflow_mul-i c = omega (arith, c.requires.measurable.small)

pub two_in-requires : goal.two_in-requires
two_in-requires c = omega (arith, c.requires.measurable.room)

pub put_field-end-requires : goal.put_field-end-requires
put_field-end-requires c =
    let a = c.args in
    let l = c.loop-i in
    let same = ap length (entry_at a.text.now a.table.now c.from-place.result l.i (c.from-place.ensures ∙ c.two_in.ensures)) in
    let here = next_length a.text.now a.table.now a.count l.i c.loop-i-test.true in
    let whole = whole_length a.text.now a.table.now a.count in
    (omega (arith, same, here, whole, l.invariant.1, same_over_length _ _ _ _ _ _ l.invariant.0, c.requires.fits), omega (arith, same, here, whole, l.invariant.1, c.requires.short))

pub loop-i-preserved : goal.loop-i-preserved
loop-i-preserved c =
    let a = c.args in
    let l = c.loop-i in
    let put = c.put_field-end.ensures in
    let entry = entry_at a.text.now a.table.now c.from-place.result l.i (c.from-place.ensures ∙ c.two_in.ensures) in
    let here = next_field a.text.now a.table.now a.count l.i c.loop-i-test.true in
    let size = next_length a.text.now a.table.now a.count l.i c.loop-i-test.true in
    let rest : List ℕ = fields_from a.text.now a.table.now a.count (l.i + 1) in
    (put_others rest put ∙ ap (λ (s : List ℕ). over l.out l.end (wrap 0x02 s ++ rest)) entry ∙ ap (over l.out l.end) (sym here) ∙ l.invariant.0, omega (arith, put.ends, wrap_length 0x02 (string_from a.text.now c.from-place.result), ap length entry, size, l.invariant.1), omega arith)

pub shape_of-out : goal.shape_of-out
shape_of-out c = same_over_length _ _ _ _ _ _ c.loop-i.invariant.0

pub returns : goal.returns
returns c =
    let a = c.args in
    let l = c.loop-i in
    let none = no_field a.text.now a.table.now a.count l.i c.loop-i-test.false in
    let all = all_fields a.text.now a.table.now a.count in
    record {
      ends = omega (arith, l.invariant.1, ap length none, ap length all);
      stored = sym (over_none l.out l.end _ (omega (arith, ap length none))) ∙ l.invariant.0 ∙ ap (over a.out.now 3) all;
    }
