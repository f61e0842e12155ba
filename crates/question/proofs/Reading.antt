-- The lines of a question and the numbers in its fifth line, in the words of the code. Assumes nothing.
use Prim.Native.Nat.{ℕ, ◌+◌, ◌-◌, ◌≤◌, ◌<◌}
use mathlib.Core.Path.{◌≡◌, refl, sym, ap, ◌∙◌}
use mathlib.Core.List.{List, [], ◌∷◌}
use native.Mathlib.Omega.{arith}
use borrow.Author.Tests.{lt-ltb, le-ltb, eq-eqb, ne_eqb}
use lib.ListN.{length, get_or, take, drop, length-drop, drop_of_length-le}
use lib.Seq.{take_all}
use Rattle.rules.specs.Schedule.{before_feed}
use Rattle.input.proofs.Feeding as feeding
use Rattle.question.specs.declared.Lines.{Lines}
use Rattle.question.specs.Lines.{line_after, lines_of, line_between}
use Rattle.question.specs.Numbers.{spelled, number_in}
use Rattle.question.specs.Asking.{Asked, question, with_types, not_a_question, space_place, label_of, lends_types, size_of, with_size, with_line, asked_by, asked}

-- ---- Lines

module _ (given : List ℕ) (feed : ℕ) where
  pub no_line : length given ≤ feed → length given ≡ line_after given feed
  unfolding line_after
  no_line past = rw (le-ltb feed (length given) past) refl

  pub a_line : {rest : List ℕ} {n : ℕ} → feed < length given → rest ≡ drop (feed + 1) given → n ≡ length (before_feed rest) → feed + 1 + n ≡ line_after given feed
  unfolding line_after
  a_line there behind size = rw (lt-ltb feed (length given) there, size, behind) refl

  -- it ends within the input
  pub line_within : {rest : List ℕ} {n : ℕ} → feed < length given → rest ≡ drop (feed + 1) given → n ≡ length (before_feed rest) → feed + 1 + n ≤ length given
  line_within {rest} there behind size = omega (arith, (feeding.split rest).within, ap length behind, length-drop (feed + 1) given)

  pub nothing_between : (end : ℕ) → end ≤ feed → [] ≡ line_between given feed end
  unfolding line_between
  nothing_between end none = let size : end - (feed + 1) ≡ 0 = omega arith in rw size refl

  pub between_past : (end : ℕ) → length given ≤ feed → [] ≡ line_between given feed end
  unfolding line_between
  between_past end past = sym (ap (take (end - (feed + 1))) (drop_of_length-le given {i = feed + 1} (omega arith)) ∙ take_all (end - (feed + 1)) [] (omega arith))

  pub between_all : (end : ℕ) → length given ≤ end → take (length given - (feed + 1)) (drop (feed + 1) given) ≡ line_between given feed end
  unfolding line_between
  between_all end past =
      take_all (length given - (feed + 1)) (drop (feed + 1) given) (omega (arith, length-drop (feed + 1) given))
      ∙ sym (take_all (end - (feed + 1)) (drop (feed + 1) given) (omega (arith, length-drop (feed + 1) given)))

-- one line after the other
pub lines_are : (given : List ℕ) {device kind title attribute label : ℕ} → device ≡ length (before_feed given) → kind ≡ line_after given device → title ≡ line_after given kind → attribute ≡ line_after given title → label ≡ line_after given attribute
    → ◌≡◌ {A = Lines} (record { device = device; kind = kind; title = title; attribute = attribute; label = label }) (lines_of given)
unfolding lines_of
lines_are given d k t a l = cc

-- ---- Numbers

module _ (most : ℕ) where
  pub number_none : (text : List ℕ) → length text ≡ 0 → number_in most text ≡ most + 1
  unfolding number_in
  number_none [] none = refl
  number_none (c ∷ cs) none = absurd (omega arith)

  pub number_zero : (text : List ℕ) → 1 < length text → get_or text 0 0 ≡ 48 → number_in most text ≡ most + 1
  unfolding number_in
  number_zero [] more zero = absurd (omega arith)
  number_zero (c ∷ []) more zero = absurd (omega arith)
  number_zero (c ∷ d ∷ cs) more zero = rw (eq-eqb c 48 zero) refl

  pub number_more : (text : List ℕ) → (length text ≡ 0 → ⊥) → (1 < length text → get_or text 0 0 ≡ 48 → ⊥) → spelled most text 0 ≡ number_in most text
  unfolding number_in
  number_more [] some other = absurd (some refl)
  number_more (c ∷ []) some other = refl
  number_more (c ∷ d ∷ cs) some other = rw (ne_eqb c 48 (other (omega arith))) refl

-- ---- The fifth line

module _ (lines : Lines) (label size there : ℕ) where
  pub size_wrong : 65535 < size → not_a_question ≡ with_size lines label size there
  unfolding with_size
  size_wrong large = rw (lt-ltb 65535 size large) refl

  module _ (small : size ≤ 65535) where
    pub list_cut : there < size → not_a_question ≡ with_size lines label size there
    unfolding with_size
    list_cut short = rw (le-ltb 65535 size small, lt-ltb there size short) refl

    pub list_there : size ≤ there → with_types lines label size ≡ with_size lines label size there
    unfolding with_size
    list_there whole = rw (le-ltb 65535 size small, le-ltb there size whole) refl

module _ (lines : Lines) (line : List ℕ) (there : ℕ) {space label : ℕ} {front : List ℕ} (at : space ≡ space_place line) (before : front ≡ take space line) (spells : label ≡ number_in 255 front) where
  label_is : label ≡ label_of line
  unfolding label_of
  label_is = rw (spells, before, at) refl

  pub no_label : 255 < label → not_a_question ≡ with_line lines line there
  unfolding with_line
  no_label large = rw (← label_is, lt-ltb 255 label large) refl

  pub label_alone : label ≤ 255 → length line ≤ space → question lines label ≡ with_line lines line there
  unfolding with_line lends_types
  label_alone small none = rw (← label_is, le-ltb 255 label small, ← at, le-ltb space (length line) none) refl

  pub with_list : {behind : List ℕ} {size : ℕ} {r : Asked} → label ≤ 255 → space < length line → behind ≡ drop (space + 1) line → size ≡ number_in 65535 behind → r ≡ with_size lines label size there → r ≡ with_line lines line there
  unfolding with_line lends_types size_of
  with_list small some past number is = rw (← label_is, le-ltb 255 label small, ← at, lt-ltb space (length line) some, ← past, ← number) is

-- ---- The question

module _ (given : List ℕ) {lines : Lines} (are : lines ≡ lines_of given) where
  pub feed_missing : length given ≤ lines.label → not_a_question ≡ asked given
  unfolding asked asked_by
  feed_missing past = rw (← are, le-ltb lines.label (length given) past) refl

  pub by_line : {line : List ℕ} {there : ℕ} {r : Asked} → lines.label < length given → line ≡ line_between given lines.attribute lines.label → there ≡ length given - (lines.label + 1) → r ≡ with_line lines line there → r ≡ asked given
  unfolding asked asked_by
  by_line inside last rest is = rw (← are, lt-ltb lines.label (length given) inside, ← last, ← rest) is
