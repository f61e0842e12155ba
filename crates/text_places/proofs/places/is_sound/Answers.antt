-- `is_sound`: no list, or the check decides.
use mathlib.Core.Path.{◌≡◌, refl, sym, ◌∙◌}
use mathlib.Core.Bool.{true}
use borrow.Author.Rules.{rules}
use lib.ListN.{length}
use Rattle.std.specs.Prelude.{Ok, Err}
use Rattle.std.specs.Result.{is_ok}
use Rattle.rules.specs.declared.Fault.{Fault}
use Rattle.rules.specs.Verdicts.{Verdict, no_fault}
use Rattle.rules.proofs.Within.{false_not_true}
use Rattle.type_list.proofs.Searching.{none_sound, chosen_sound, fault_not_sound}
use Rattle.text_places.proofs.places.is_sound.Goals as goal

pub returns-then-is_empty : goal.returns-then-is_empty
returns-then-is_empty c = let none : length c.args.types.now ≡ 0 = search rules in (λ e. none_sound _ none, λ e. refl)

ok_no_fault : (v : Verdict) → is_ok v ≡ true → v ≡ no_fault
ok_no_fault (Ok u) e = refl
ok_no_fault (Err f) e = false_not_true e

fault_or : (v : Verdict) → ((f : Fault) → v ≡ Err f → ⊥) → is_ok v ≡ true
fault_or (Ok u) h = refl
fault_or (Err f) h = absurd (h f refl)

pub returns : goal.returns
returns c = (
  λ e. chosen_sound _ (sym c.check_types.ensures ∙ ok_no_fault c.check_types.result (sym c.is_ok.ensures.value ∙ e)),
  λ e. c.is_ok.ensures.value ∙ fault_or c.check_types.result (λ f i. fault_not_sound _ (search rules) (sym c.check_types.ensures ∙ i) e),
)
