-- `is_sought`: each of its ways answers what the test says.
use Rattle.catalog_index.proofs.Tests.{too_far, other_tag, other_type, same_type_lem, before_it, after_it, within_it}
use Rattle.catalog_index.proofs.is_sought.Goals as goal

pub returns-then-fill-p : goal.returns-then-fill-p
returns-then-fill-p c =
    let a = c.args in
    too_far a.out.now a.fill a.sought a.p c.if-fill-p.true

pub returns-then-byte_in-ne64 : goal.returns-then-byte_in-ne64
returns-then-byte_in-ne64 c =
    let a = c.args in
    other_tag a.out.now a.fill a.sought a.p c.if-fill-p.false c.in-Entry.is c.byte_in.ensures c.if-byte_in-ne64.true

pub returns-then-two_in-kind : goal.returns-then-two_in-kind
returns-then-two_in-kind c =
    let a = c.args in
    other_type a.out.now a.fill a.sought a.p c.if-fill-p.false c.in-Entry.is c.byte_in.ensures c.if-byte_in-ne64.false c.two_in.ensures c.if-two_in-kind.true

pub returns-then-p-from : goal.returns-then-p-from
returns-then-p-from c =
    let a = c.args in
    before_it a.out.now a.fill a.sought a.p c.if-fill-p.false c.in-Attribute.is c.if-p-from.true

pub returns-then-end-p : goal.returns-then-end-p
returns-then-end-p c =
    let a = c.args in
    after_it a.out.now a.fill a.sought a.p c.if-fill-p.false c.in-Attribute.is c.if-p-from.false c.if-end-p.true

pub returns-else-two_in-kind : goal.returns-else-two_in-kind
returns-else-two_in-kind c =
    let a = c.args in
    same_type_lem a.out.now a.fill a.sought a.p c.if-fill-p.false c.in-Entry.is c.byte_in.ensures c.if-byte_in-ne64.false c.two_in.ensures c.if-two_in-kind.false c.two_in-in-Entry.ensures

pub returns-else-end-p : goal.returns-else-end-p
returns-else-end-p c =
    let a = c.args in
    within_it a.out.now a.fill a.sought a.p c.if-fill-p.false c.in-Attribute.is c.if-p-from.false c.if-end-p.false c.two_in-in-Attribute.ensures
