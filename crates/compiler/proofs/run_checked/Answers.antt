-- `run_checked`: a refusal of the run, or its catalog.
use Rattle.compiler.proofs.Whole.{sound_first, refuses, accepts, run_done, run_refused}
use Rattle.syntax.proofs.Faults.{before_sound}
use native.Mathlib.Omega.{arith}
use mathlib.Core.Path.{◌∙◌}
use Rattle.compiler.proofs.run_checked.Goals as goal

pub run_manifest-requires : goal.run_manifest-requires
run_manifest-requires c = let b = before_sound _ c.requires.1.1 in ((c.requires.1.0, (b.sound, b.short)), c.requires.0)

pub overflow_cast-result : goal.overflow_cast-result
overflow_cast-result c = omega (arith, (run_done c.run_manifest.ensures.ends c.in-Ok.is).short)

pub overflow_sub-result : goal.overflow_sub-result
overflow_sub-result c = omega (arith, c.run_manifest.ensures.steps)

pub returns-in-Err : goal.returns-in-Err
returns-in-Err c =
    refuses _ _ _ _ _ _ _ _ _ c.run_manifest.auto.out c.run_manifest.auto.work c.refuse.ensures.1.1
    (sound_first _ _ _ _ _ _ c.requires.0 c.requires.1.0 c.requires.1.1 ∙ run_refused c.run_manifest.ensures.ends c.in-Err.is)
    c.refuse.ensures.0
    c.refuse.ensures.1.0

pub returns-in-Ok : goal.returns-in-Ok
returns-in-Ok c =
    let e = run_done c.run_manifest.ensures.ends c.in-Ok.is in
    accepts _ _ _ _ _ _ _ _ _ c.run_manifest.auto.out c.run_manifest.auto.work c.clear.ensures (sound_first _ _ _ _ _ _ c.requires.0 c.requires.1.0 c.requires.1.1 ∙ e.same) e.steps e.written e.within c.clear_rest.ensures
