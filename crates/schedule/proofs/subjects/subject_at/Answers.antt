-- `subject_at`: too many bytes, the end, an entry that stands, or none.
use native.Mathlib.Omega.{arith}
use Rattle.schedule.proofs.Tests.{too_long, at_end_lem, broken_entry, in_entry, stands_within}
use Rattle.schedule.proofs.subjects.subject_at.Goals as goal

pub returns-then-catalog-gt-LONGEST : goal.returns-then-catalog-gt-LONGEST
returns-then-catalog-gt-LONGEST c = too_long _ _ c.if-catalog-gt-LONGEST.true

pub returns-then-catalog-p : goal.returns-then-catalog-p
returns-then-catalog-p c = at_end_lem _ _ c.if-catalog-gt-LONGEST.false c.if-catalog-p.true

pub subject_in-requires : goal.subject_in-requires
subject_in-requires c = (omega arith, omega (arith, c.end_of.ensures, stands_within _ _ c.entry_stands.ensures c.if-entry_stands.true))

pub returns-then-entry_stands : goal.returns-then-entry_stands
returns-then-entry_stands c = in_entry _ _ c.if-catalog-gt-LONGEST.false c.if-catalog-p.false c.entry_stands.ensures c.if-entry_stands.true c.end_of.ensures c.subject_in.ensures

pub returns : goal.returns
returns c = broken_entry _ _ c.if-catalog-gt-LONGEST.false c.if-catalog-p.false c.entry_stands.ensures c.if-entry_stands.false
