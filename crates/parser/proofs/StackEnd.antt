-- At the bottom of the stack, and nowhere else, is the symbol for the end of the text: so a malformed piece is never taken, and behind the end no symbol
-- is left. Assumes nothing.
use mathlib.Core.Path.{◌≡◌, refl, sym, ◌∙◌, ap, subst}
use mathlib.Core.Bool.{true}
use mathlib.Core.List.{List, [], ◌∷◌, ◌++◌}
use mathlib.Core.Option.{Option, none, some}
use native.Mathlib.Omega.{arith}
use borrow.Author.Tests.{ne_eqb, leb-true}
use Prim.Native.Nat.{ℕ}
use Rattle.rules.proofs.Lists.{both_left, both_right}
use Rattle.rules.specs.Types.{Types}
use Rattle.notation.specs.Tokens.{Lexeme, kind, token_of, end_of_text, malformed}
use Rattle.notation.specs.Building.{Build, acts}
use Rattle.notation.specs.Grammar.{Entry, arm, attribute, parameter, Symbol, sign, a_name, expression, operators, read_or_word, close_bracket, one, maybe, further, statements, block, otherwise, branches, items, class_rest, parameters, default_value, a_constant, inherits, parent, devices, device, more_devices, ends, Row, row, binds, row_of, left_out, manifest, stuck, to, toward, step}
use Rattle.parser.proofs.Leaving.{left_behind}
use Rattle.parser.proofs.RowFacts.{is_plain, all_plain, row_plain}
use Rattle.parser.proofs.Taking.{step_taken}
use Rattle.parser.proofs.Passing.{onward, step_left}

pub data ToEnd : List Symbol → Type 0 where
  lowest : ToEnd (sign end_of_text ∷ [])
  on : {s : Symbol} {k : List Symbol} → is_plain s ≡ true → ToEnd k → ToEnd (s ∷ k)

-- before the first token
pub first_to_end : ToEnd manifest
first_to_end = on refl lowest

-- ---- Neither the end nor a malformed piece is taken by another symbol

abbrev NotTaken : Symbol → Type 0
NotTaken s = (row_of s end_of_text ≡ none) × (row_of s malformed ≡ none)

entry_not_taken : (e : Entry) → NotTaken (one e) × NotTaken (maybe e)
unfolding row_of
entry_not_taken arm = ((refl, refl), (refl, refl))
entry_not_taken attribute = ((refl, refl), (refl, refl))
entry_not_taken parameter = ((refl, refl), (refl, refl))

not_taken : (s : Symbol) → is_plain s ≡ true → NotTaken s
unfolding row_of binds
not_taken (sign k) p =
    let high = leb-true 7 k p in
    (rw (ne_eqb end_of_text k (λ e. omega arith)), rw (ne_eqb malformed k (λ e. omega arith)))
not_taken a_name p = (refl, refl)
not_taken (expression l) p = (refl, refl)
not_taken (operators l m) p = (refl, refl)
not_taken read_or_word p = (refl, refl)
not_taken close_bracket p = (refl, refl)
not_taken (one e) p = (entry_not_taken e).0
not_taken (maybe e) p = (entry_not_taken e).1
not_taken (further e) p = (refl, refl)
not_taken statements p = (refl, refl)
not_taken block p = (refl, refl)
not_taken otherwise p = (refl, refl)
not_taken branches p = (refl, refl)
not_taken items p = (refl, refl)
not_taken class_rest p = (refl, refl)
not_taken parameters p = (refl, refl)
not_taken default_value p = (refl, refl)
not_taken a_constant p = (refl, refl)
not_taken inherits p = (refl, refl)
not_taken parent p = (refl, refl)
not_taken devices p = (refl, refl)
not_taken device p = (refl, refl)
not_taken more_devices p = (refl, refl)
not_taken ends p = (refl, refl)

-- ---- Steps

-- there is no step from here
pub not_stuck : {A : Type 0} {k : List Symbol} {g : Build} → stuck ≡ to k g → A
not_stuck e = let z : ◌≡◌ {A = ℕ} 0 1 = cc in absurd (omega arith)

module _ (types : Types) (x : Lexeme) where
  -- the symbol for the end takes nothing else, and may not be left out
  end_alone : (k : List Symbol) (f : Build) → (kind (token_of x) ≡ end_of_text → ⊥) → step types (sign end_of_text ∷ k) x f ≡ stuck
  unfolding row_of left_behind left_out
  end_alone k f other = step_left types (sign end_of_text) k x f (rw (ne_eqb (kind (token_of x)) end_of_text other))

  -- a malformed piece
  pub fault_stuck : {k : List Symbol} → ToEnd k → (f : Build) → kind (token_of x) ≡ malformed → step types k x f ≡ stuck
  fault_stuck lowest f e = end_alone [] f (λ i. omega arith)
  fault_stuck (on {s} {k} p below) f e = step_left types s k x f (ap (row_of s) e ∙ (not_taken s p).1) ∙ go (left_behind types s x f) (λ g. fault_stuck below g e)
    where
      go : (o : Option Build) → ((g : Build) → step types k x g ≡ stuck) → onward types k x o ≡ stuck
      go none later = refl
      go (some g) later = later g

  module _ (k' : List Symbol) (g : Build) where
    -- the end of the text
    pub end_last : {k : List Symbol} → ToEnd k → (f : Build) → kind (token_of x) ≡ end_of_text → step types k x f ≡ to k' g → k' ≡ []
    unfolding row_of acts
    end_last lowest f e i =
        let taken : step types (sign end_of_text ∷ []) x f ≡ to [] f = step_taken types (sign end_of_text) [] x f [] [] (rw e) in
        cc
    end_last (on {s} {k} p below) f e i = go (left_behind types s x f) (λ h. end_last below h e) (sym (step_left types s k x f (ap (row_of s) e ∙ (not_taken s p).0)) ∙ i)
      where
        go : (o : Option Build) → ((h : Build) → step types k x h ≡ to k' g → k' ≡ []) → onward types k x o ≡ to k' g → k' ≡ []
        go none later j = not_stuck j
        go (some h) later j = later h j

    all_on : (ss k : List Symbol) → all_plain ss ≡ true → ToEnd k → ToEnd (ss ++ k)
    all_on [] k p h = h
    all_on (s ∷ ss) k p h = on (both_left (is_plain s) (all_plain ss) p) (all_on ss k (both_right (is_plain s) (all_plain ss) p) h)

    -- any other token
    pub step_to_end : {k : List Symbol} → ToEnd k → (f : Build) → (kind (token_of x) ≡ end_of_text → ⊥) → step types k x f ≡ to k' g → ToEnd k'
    step_to_end lowest f other i = not_stuck (sym (end_alone [] f other) ∙ i)
    step_to_end (on {s} {k} p below) f other i = by_row (λ h. step_to_end below h other) (row_of s (kind (token_of x))) refl
      where
        left : ((h : Build) → step types k x h ≡ to k' g → ToEnd k') → (o : Option Build) → onward types k x o ≡ to k' g → ToEnd k'
        left later none j = not_stuck j
        left later (some h) j = later h j

        taken : (ss : List Symbol) → all_plain ss ≡ true → (o : Option Build) → toward (ss ++ k) o ≡ to k' g → ToEnd k'
        taken ss q none j = not_stuck j
        taken ss q (some h) j = let same : ss ++ k ≡ k' = cc in subst ToEnd same (all_on ss k q below)

        by_row : ((h : Build) → step types k x h ≡ to k' g → ToEnd k') → (o : Option Row) → row_of s (kind (token_of x)) ≡ o → ToEnd k'
        by_row later none e = left later (left_behind types s x f) (sym (step_left types s k x f e) ∙ i)
        by_row later (some (row ds ss)) e = taken ss (row_plain s (kind (token_of x)) ds ss e) (acts types ds x f) (sym (step_taken types s k x f ds ss e) ∙ i)
