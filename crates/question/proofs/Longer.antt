-- A question stays the same question when bytes are added behind it: they belong to its manifest. Assumes nothing.
use Prim.Native.Nat.{ℕ, ◌+◌, ◌-◌, ◌≤◌, ◌<◌}
use mathlib.Core.Path.{◌≡◌, refl, sym, ap, ◌∙◌}
use mathlib.Core.Bool.{Bool, true, false}
use mathlib.Core.List.{List, ◌++◌}
use native.Mathlib.Omega.{arith}
use borrow.Author.Tests.{ltb-true, ltb-false, lt-ltb, le-ltb}
use lib.Dec.{ltb}
use lib.ListN.{length, take, drop, length-append, length-drop}
use lib.Seq.{take-append-le, drop-append-le}
use Rattle.wire.specs.Bytes.{pick}
use Rattle.rules.specs.Schedule.{before_feed}
use Rattle.input.specs.Reading.{has_feed}
use Rattle.input.proofs.Feeding as feeding
use Rattle.question.specs.declared.Lines.{Lines}
use Rattle.question.specs.Lines.{line_after, lines_of, line_between}
use Rattle.question.specs.Asking.{Asked, question, with_types, not_a_question, label_of, lends_types, size_of, with_size, with_line, asked_by, asked}
use Rattle.question.proofs.Reading.{a_line, no_line, lines_are}

-- a line that ends before the end has its line feed
fed_line : (xs : List ℕ) → length (before_feed xs) < length xs → has_feed xs ≡ true
fed_line xs h = sym (feeding.split xs).is ∙ lt-ltb (length (before_feed xs)) (length xs) h

same_line : (xs more : List ℕ) → length (before_feed xs) < length xs → length (before_feed xs) ≡ length (before_feed (xs ++ more))
same_line xs more h = sym (ap length (feeding.met_before xs more (fed_line xs h)).before)

module _ (given more : List ℕ) where
  longer : length (given ++ more) ≡ length given + length more
  longer = length-append given more

  -- where a line ends within the input, so does the one before it
  line_before : (end : ℕ) → line_after given end < length given → end < length given
  line_before end inside = go (ltb end (length given)) refl
    where
      go : (b : Bool) → ltb end (length given) ≡ b → end < length given
      go true e = ltb-true end (length given) e
      go false e = absurd (omega (arith, no_line given end (ltb-false end (length given) e)))

  same_after : (end : ℕ) → line_after given end < length given → line_after given end ≡ line_after (given ++ more) end
  same_after end inside =
      let here : end < length given = line_before end inside in
      let rest : List ℕ = drop (end + 1) given in
      let it : end + 1 + length (before_feed rest) ≡ line_after given end = a_line given end here refl refl in
      let behind : rest ++ more ≡ drop (end + 1) (given ++ more) = sym (drop-append-le (end + 1) given more (omega arith)) in
      let fed : length (before_feed rest) < length rest = omega (arith, length-drop (end + 1) given) in
      sym it ∙ a_line (given ++ more) end (omega (arith, longer)) behind (same_line rest more fed)

  -- the ends of the lines, if there are five line feeds
  same_lines : (lines_of given).label < length given → lines_of given ≡ lines_of (given ++ more)
  unfolding lines_of
  same_lines inside =
      let attribute = line_before _ inside in
      let title = line_before _ attribute in
      let kind = line_before _ title in
      let device = line_before _ kind in
      lines_are (given ++ more) (same_line given more device) (same_after _ kind) (same_after _ title) (same_after _ attribute) (same_after _ inside)

  same_between : (feed end : ℕ) → end < length given → line_between given feed end ≡ line_between (given ++ more) feed end
  unfolding line_between
  same_between feed end inside = go (ltb feed end) refl
    where
      go : (b : Bool) → ltb feed end ≡ b → take (end - (feed + 1)) (drop (feed + 1) given) ≡ take (end - (feed + 1)) (drop (feed + 1) (given ++ more))
      go true e =
          let before : feed < end = ltb-true feed end e in
          sym (ap (take (end - (feed + 1))) (drop-append-le (feed + 1) given more (omega arith)) ∙ take-append-le (end - (feed + 1)) (drop (feed + 1) given) more (omega (arith, length-drop (feed + 1) given)))
      go false e =
          let none : end - (feed + 1) ≡ 0 = omega (arith, ltb-false feed end e) in
          ap (λ (k : ℕ). take k (drop (feed + 1) given)) none ∙ sym (ap (λ (k : ℕ). take k (drop (feed + 1) (given ++ more))) none)

  -- where more bytes follow the fifth line
  line_longer : (lines : Lines) (line : List ℕ) (there further : ℕ) → there ≤ further → (with_line lines line there ≡ not_a_question → ⊥) → with_line lines line further ≡ with_line lines line there
  unfolding with_line with_size
  line_longer lines line there further less = go (ltb 255 (label_of line)) (lends_types line) (ltb 65535 (size_of line)) (ltb there (size_of line)) refl
    where
      alone : Asked
      alone = question lines (label_of line)

      list : Asked
      list = with_types lines (label_of line) (size_of line)

      go : (a b c d : Bool) → ltb there (size_of line) ≡ d → (pick a not_a_question (pick b (pick c not_a_question (pick d not_a_question list)) alone) ≡ not_a_question → ⊥)
          → pick a not_a_question (pick b (pick c not_a_question (pick (ltb further (size_of line)) not_a_question list)) alone) ≡ pick a not_a_question (pick b (pick c not_a_question (pick d not_a_question list)) alone)
      go true b c d e some = refl
      go false false c d e some = refl
      go false true true d e some = refl
      go false true false true e some = absurd (some refl)
      go false true false false e some = rw (le-ltb further (size_of line) (omega (arith, ltb-false there (size_of line) e))) refl

  -- a question stays what it is
  pub asked_longer : (asked given ≡ not_a_question → ⊥) → asked (given ++ more) ≡ asked given
  unfolding asked asked_by
  asked_longer some = go (ltb ends.label (length given)) refl some
    where
      ends : Lines
      ends = lines_of given

      line : List ℕ
      line = line_between given ends.attribute ends.label

      there : ℕ
      there = length given - (ends.label + 1)

      go : (b : Bool) → ltb ends.label (length given) ≡ b → (pick b (with_line ends line there) not_a_question ≡ not_a_question → ⊥) → asked_by (given ++ more) (lines_of (given ++ more)) ≡ pick b (with_line ends line there) not_a_question
      go true e some =
          let inside : ends.label < length given = ltb-true ends.label (length given) e in
          rw (← same_lines inside, lt-ltb ends.label (length (given ++ more)) (omega (arith, longer)), ← same_between ends.attribute ends.label inside)
          (line_longer ends line there (length (given ++ more) - (ends.label + 1)) (omega (arith, longer)) some)
      go false e some = absurd (some refl)

  -- what is added is the last of the manifest
  pub manifest_longer : (feed : ℕ) → feed < length given → drop (feed + 1) (given ++ more) ≡ drop (feed + 1) given ++ more
  manifest_longer feed inside = drop-append-le (feed + 1) given more (omega arith)
