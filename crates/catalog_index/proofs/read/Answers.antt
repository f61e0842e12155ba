-- `read`: no such entry, no such attribute, or what the attribute holds.
use native.Mathlib.Omega.{arith}
use Rattle.catalog.proofs.Reading.{read_nothing, read_missing, read_content}
use Rattle.catalog.proofs.Entries.{below_at}
use Rattle.catalog_index.proofs.read.Goals as goal

pub returns-in_err-entry : goal.returns-in_err-entry
returns-in_err-entry c = λ es w i.
    let a = c.args in
    rw c.from_residual.ensures (read_nothing a.out.now a.fill a.kind a.title c.requires.1.1 c.requires.1.0 es w (c.find_entry.ensures.0 es w i) a.name c.in_err-entry.was)

pub find_attribute-requires : goal.find_attribute-requires
find_attribute-requires c =
    let low = below_at c.find_entry.ensures.1 c.in_ok-entry.was in
    (c.requires.0, (c.requires.1.0, (c.requires.1.1, omega (arith, low))))

pub returns-in_err-at : goal.returns-in_err-at
returns-in_err-at c = λ es w i.
    let a = c.args in
    rw c.from_residual-in_err-at.ensures (read_missing a.out.now a.fill a.kind a.title c.requires.1.1 c.requires.1.0 es w (c.find_entry.ensures.0 es w i) a.name c.in_ok-entry.entry c.in_ok-entry.was (λ e place is. c.find_attribute.ensures.0 es a.kind a.title e w i place is) c.in_err-at.was)

pub read_attribute-requires : goal.read_attribute-requires
read_attribute-requires c = omega (arith, below_at c.find_attribute.ensures.1 c.in_ok-at.was)

pub returns : goal.returns
returns c = λ es w i.
    let a = c.args in
    read_content a.out.now a.fill a.kind a.title c.requires.1.1 c.requires.1.0 es w (c.find_entry.ensures.0 es w i) a.name c.in_ok-entry.entry c.in_ok-entry.was (λ e place is. c.find_attribute.ensures.0 es a.kind a.title e w i place is) c.in_ok-at.at c.in_ok-at.was c.read_attribute.ensures
