-- What a call leaves, told with a word, and what a word tells. Assumes nothing.
use Prim.Native.Nat.{ℕ, ◌≤◌, ◌<◌}
use mathlib.Core.Path.{◌≡◌, ap, ◌∙◌}
use mathlib.Core.List.{List}
use native.Mathlib.Omega.{arith}
use Rattle.values.specs.declared.Reason.{Reason}
use Rattle.values.specs.declared.SetPart.{SetPart}
use Rattle.values.specs.declared.SetPart.TheVariants.{Title, Path, Trail, Marks, Value}
use Rattle.values.specs.Numbers.{number_of, part_number, accepted, refused}
use Rattle.rules.specs.Why.{Told}
use Rattle.values.proofs.Reasons.{number_range}
use Rattle.notation.specs.Convert.{Effect, accepted as written, refusal, said as said_of_text}
use Rattle.library.specs.Called.{word_of, text_word, Tells, explanation_word, Answers}
use Rattle.values.specs.Answers.{Explanation, among_part, refused_for}
use Rattle.notation.specs.Answers.{Answer as TextAnswer}

-- what a call leaves, told with a word
pub tells : {wanted : Effect} {answer : TextAnswer} {out work : List ℕ} {word : ℕ} → record { answer = answer; output_after = out; memory_after = work } ≡ wanted → word ≡ text_word (said_of_text answer) → Tells wanted out work word
tells e told = record { told = told ∙ ap (λ (w : Effect). text_word (said_of_text w.answer)) e; output = ap (λ (w : Effect). w.output_after) e; memory = ap (λ (w : Effect). w.memory_after) e }

-- the same of the why tool
pub answers : {wanted : Told} {answer : Explanation} {work : List ℕ} {word : ℕ} → record { answer = answer; memory_after = work } ≡ wanted → word ≡ explanation_word answer → Answers wanted work word
answers e told = record { answer = told ∙ ap (λ (w : Told). explanation_word w.answer) e; memory = ap (λ (w : Told). w.memory_after) e }

-- ---- Which sort a word is of

-- THE LAW: a word below 2^32 is that of a catalog, and any other is that of a refusal
pub accepted_below : (n s : ℕ) → n < 65536 → s < 65536 → word_of (accepted n s) < 4294967296
unfolding word_of
accepted_below n s h i = omega arith

pub refused_above : (r : Reason) (p : ℕ) → 4294967296 ≤ word_of (refused (number_of r) p)
unfolding word_of
refused_above r p = omega (arith, number_range r)

pub written_below : (n : ℕ) → n < 65536 → text_word (written n) < 4294967296
unfolding text_word
written_below n h = omega arith

pub text_refused_above : (r : Reason) (p : ℕ) → 4294967296 ≤ text_word (refusal (number_of r) p)
unfolding text_word
text_refused_above r p = omega (arith, number_range r)

pub among_between : (part : SetPart) (place : ℕ) → place < 65536 → (65536 ≤ explanation_word (among_part part place)) × (explanation_word (among_part part place) < 4294967296)
unfolding explanation_word part_number
among_between Title place h = (omega arith, omega arith)
among_between Path place h = (omega arith, omega arith)
among_between Trail place h = (omega arith, omega arith)
among_between Marks place h = (omega arith, omega arith)
among_between Value place h = (omega arith, omega arith)

pub why_refused_above : (r : Reason) (p : ℕ) → 4294967296 ≤ explanation_word (refused_for r p)
unfolding explanation_word
why_refused_above r p = omega (arith, number_range r)
