-- `run_resource`: what is asked about is noted; then what `add_resource` answers, in the room that is left; and the new entry goes into the index.
use Rattle.execution.proofs.Statements.{sized, room_within, able_noted, resource_refused, resource_within, resource_done}
use Rattle.execution.proofs.Names.{name_small}
use Rattle.rules.specs.Format.{form_of, form_in, forms}
use mathlib.Core.Path.{◌≡◌, refl, ap}
use native.Mathlib.Omega.{arith}
use lib.ListN.{length}
use Prim.Native.Nat.{ℕ, ◌-◌}
use Rattle.execution.proofs.run_resource.Goals as goal

pub note_resource-requires : goal.note_resource-requires
note_resource-requires c = sized c.requires.0.0 c.requires.0.1.0

pub built_in-built_in-requires : goal.built_in-built_in-requires
unfolding form_of form_in forms
built_in-built_in-requires c = (omega (arith, c.requires.0.0.set.memory, c.note_resource.auto.work), let small = name_small c.requires.0.1.0.stands c.requires.1 refl c.requires.0.0.set.strings c.requires.0.1.1 in omega (arith, c.two_at.ensures))

pub add_resource-requires : goal.add_resource-requires
add_resource-requires c = (sized (able_noted c.note_resource.ensures c.note_resource.auto.work c.requires.0.0) c.requires.0.1.0, (omega (arith, c.room_in.ensures, (room_within (length c.args.out.now)).1), omega (arith, c.room_in.ensures, (room_within (length c.args.out.now)).0)))

pub returns-in_err-more : goal.returns-in_err-more
returns-in_err-more c =
    let handed_on : c.from_residual.result ≡ c.add_resource.result = grind arith in
    λ n levels. rw handed_on (resource_refused c.requires.0.0 c.requires.0.1.0 c.requires.1 c.note_resource.ensures c.note_resource.auto.work c.two_at.ensures c.built_in-built_in.ensures (ap (λ (r : ℕ). r - c.args.fill) c.room_in.ensures) c.add_resource.ensures n levels c.in_err-more.was)

pub index_entry-requires : goal.index_entry-requires
index_entry-requires c = let within = resource_within c.requires.0.0 c.requires.0.1.0 c.requires.1 c.note_resource.ensures c.note_resource.auto.work c.two_at.ensures c.built_in-built_in.ensures (ap (λ (r : ℕ). r - c.args.fill) c.room_in.ensures) c.add_resource.ensures 0 0 c.in_ok-more.was in (omega (arith, c.requires.0.0.set.memory, c.note_resource.auto.work), (within.0, (within.1, (sized c.requires.0.0 c.requires.0.1.0).short)))

pub returns : goal.returns
returns c = λ n levels. resource_done c.requires.0.0 c.requires.0.1.0 c.requires.1 c.note_resource.ensures c.note_resource.auto.work c.two_at.ensures c.built_in-built_in.ensures (ap (λ (r : ℕ). r - c.args.fill) c.room_in.ensures) c.add_resource.ensures n levels c.in_ok-more.was c.index_entry.ensures
