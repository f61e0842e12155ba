-- `index_entry`: a record for the entry, and at the loop's head the attributes from q on are still to come.
use mathlib.Core.Path.{◌≡◌, ◌∙◌}
use Rattle.wire.proofs.Walks.{step_of, along, here, over_end}
use Prim.Native.Nat.{◌+◌}
use Rattle.catalog.specs.Layout.{entry_attributes}
use Rattle.catalog_index.proofs.Storing.{in_index_none, in_index_both}
use Rattle.catalog_index.proofs.Extending.{extend_begin, extend_on, extend_done}
use Rattle.catalog_index.proofs.index_entry.Goals as goal

pub loop-q-init : goal.loop-q-init
loop-q-init c = (record { bytes = cc; end = cc }, (in_index_none _, λ goal begun. begun))

pub loop-q-preserved : goal.loop-q-preserved
loop-q-preserved c =
    let so = c.loop-q.invariant.0 in
    let h = c.in-Some.ensures.steps in
    let step = step_of so h in
    (along so h, extend_on c.args.out.now c.args.entry c.args.end c.requires.1.0 c.requires.1.1.0 _ _ c.in-Some.q c.loop-q.work (rw (here so h) at c.loop-q.invariant.1) step.before c.two_at-name.ensures c.attribute_bucket.ensures.0 c.add_record-in-loop-q.ensures step.next)

pub shape_of-work : goal.shape_of-work
shape_of-work c = c.loop-q.invariant.1.0.size ∙ c.add_record.ensures.kept.size

pub returns : goal.returns
returns c =
    let a = c.args in
    let l = c.loop-q in
    let r = c.add_record.ensures in
    let from : a.entry + entry_attributes ≡ c.into_iter-q-iterator.result.at = cc in
    record {
      kept = in_index_both r.kept l.invariant.1.0;
      more = λ es e at written i.
          extend_done a.out.now a.entry a.end c.requires.1.0 c.requires.1.1.0 _ _ _ l.work l.invariant.1 (over_end l.invariant.0 c.in-None.ensures.steps) _
          (rw from at (extend_begin a.out.now a.entry a.end c.requires.1.0 c.requires.1.1.0 _ _ c.two_at-title.ensures c.entry_bucket.ensures.0 r es e at written i));
    }
