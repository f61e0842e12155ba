-- `compile`: 1, then all else, with the eight.
use Rattle.rules.specs.Types.{check_types}
use Rattle.type_list.specs.Listed.{chosen}
use Rattle.compiler.proofs.Whole.{short_memory, refuses}
use native.Mathlib.Omega.{arith}
use Rattle.evaluator.specs.Answers.{refused_by}
use mathlib.Core.Path.{ap, ◌∙◌, refl, sym}
use Rattle.compiler.proofs.compile.Goals as goal

pub returns-then-work-lt65536 : goal.returns-then-work-lt65536
returns-then-work-lt65536 c = record {
  bytes = record { below = λ i. omega (arith, c.type_inv.manifest i) };
  leaves = refuses _ _ _ _ _ _ _ _ _ refl refl c.refuse.ensures.1.1 (short_memory _ _ _ _ _ _ c.if-work-lt65536.true ∙ sym (ap refused_by c.at.ensures)) c.refuse.ensures.0 c.refuse.ensures.1.0;
}

pub compile_chosen-requires : goal.compile_chosen-requires
unfolding chosen check_types
compile_chosen-requires c = (c.if-work-lt65536.false, refl)

pub returns : goal.returns
unfolding chosen
returns c = c.compile_chosen.ensures
