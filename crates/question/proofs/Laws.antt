-- The definition's laws: the ends of the lines give the lines, and an input without a list is asked as before there were lists. Assumes nothing.
use Prim.Native.Nat.{ℕ, suc, ◌+◌, ◌-◌, ◌≤◌, ◌<◌}
use mathlib.Core.Path.{◌≡◌, refl, sym, ap, ◌∙◌}
use mathlib.Core.Bool.{Bool, true, false}
use mathlib.Core.List.{List, [], ◌∷◌}
use native.Mathlib.Omega.{arith}
use borrow.Author.Tests.{ltb-true, ltb-false, lt-ltb, le-ltb, ne_eqb}
use lib.Dec.{eqb, ltb}
use lib.ListN.{length, take, drop, length-drop, drop_of_length-le}
use lib.Seq.{drop-drop, take_all}
use Rattle.rules.specs.Schedule.{before_feed, after_feed}
use Rattle.input.specs.Reading.{has_feed}
use Rattle.input.proofs.Feeding as feeding
use Rattle.question.specs.declared.Lines.{Lines}
use Rattle.question.specs.Lines.{line_after, lines_of, line_between, behind_feeds, line_number, Parts}
use Rattle.question.specs.Numbers.{with_digit, spelled, number_in}
use Rattle.input.specs.Places.{place_of}
use Rattle.question.specs.Asking.{Asked, question, not_a_question, space_place, label_of, lends_types, with_line, asked_by, asked}
use Rattle.question.proofs.NumberText.{spelled_digit}
use Rattle.wire.specs.Bytes.{pick}

-- ---- Lines

-- the first line of what is left of an input ends here
record Ends (given left : List ℕ) (end : ℕ) : Type 0 where
  behind : drop (end + 1) given ≡ after_feed left
  there : ltb end (length given) ≡ has_feed left

-- and so does the next one there, of which these are the bytes
record Next (given left : List ℕ) (feed end : ℕ) : Type 0 where
  ends : Ends given left end
  bytes : line_between given feed end ≡ before_feed left

first_line : (given : List ℕ) → Ends given given (length (before_feed given))
first_line given = let s = feeding.split given in record { behind = s.back; there = s.is }

-- a test of two places, both counted from further on
same_test : (k a b : ℕ) → ltb (k + a) (k + b) ≡ ltb a b
same_test k a b = go (ltb a b) refl
  where
    go : (t : Bool) → ltb a b ≡ t → ltb (k + a) (k + b) ≡ t
    go true e = lt-ltb (k + a) (k + b) (omega (arith, ltb-true a b e))
    go false e = le-ltb (k + a) (k + b) (omega (arith, ltb-false a b e))

module _ (given left : List ℕ) (end : ℕ) (here : Ends given left end) where
  size : length (after_feed left) ≡ length given - (end + 1)
  size = ap length (sym here.behind) ∙ length-drop (end + 1) given

  -- one more line, behind a line feed
  more : end < length given → Next given (after_feed left) end (end + 1 + length (before_feed (after_feed left)))
  unfolding line_between
  more inside =
      let s = feeding.split (after_feed left) in
      let n : ℕ = length (before_feed (after_feed left)) in
      let place : end + 1 + n + 1 ≡ end + 1 + (n + 1) = omega arith in
      let all : length given ≡ end + 1 + length (after_feed left) = omega (arith, size) in
      let count : end + 1 + n - (end + 1) ≡ n = omega arith in
      record {
        ends = record {
          behind = ap (λ (k : ℕ). drop k given) place ∙ sym (drop-drop (n + 1) (end + 1) given) ∙ ap (drop (n + 1)) here.behind ∙ s.back;
          there = ap (ltb (end + 1 + n)) all ∙ same_test (end + 1) n (length (after_feed left)) ∙ s.is;
        };
        bytes = ap (λ (k : ℕ). take k (drop (end + 1) given)) count ∙ ap (take n) here.behind ∙ s.front;
      }

  -- past the last line feed every line is empty
  no_more : length given ≤ end → Next given (after_feed left) end (length given)
  unfolding line_between before_feed after_feed has_feed
  no_more past =
      let empty : drop (end + 1) given ≡ [] = drop_of_length-le given {i = end + 1} (omega arith) in
      let none : after_feed left ≡ [] = sym here.behind ∙ empty in
      record {
        ends = record { behind = drop_of_length-le given {i = length given + 1} (omega arith) ∙ sym (ap after_feed none); there = le-ltb (length given) (length given) (omega arith) ∙ sym (ap has_feed none) };
        bytes = ap (take (length given - (end + 1))) empty ∙ take_all (length given - (end + 1)) [] (omega arith) ∙ sym (ap before_feed none);
      }

  next_line_lem : Next given (after_feed left) end (line_after given end)
  unfolding line_after
  next_line_lem = go (ltb end (length given)) refl
    where
      go : (b : Bool) → ltb end (length given) ≡ b → Next given (after_feed left) end (pick b (end + 1 + length (before_feed (drop (end + 1) given))) (length given))
      go true e = rw here.behind (more (ltb-true end (length given) e))
      go false e = no_more (ltb-false end (length given) e)

pub parts : (given : List ℕ) → Parts given (lines_of given)
unfolding lines_of line_number behind_feeds
parts given =
    let device = first_line given in
    let kind = next_line_lem given given _ device in
    let title = next_line_lem given _ _ kind.ends in
    let attribute = next_line_lem given _ _ title.ends in
    let label = next_line_lem given _ _ attribute.ends in
    record { device = (feeding.split given).front; kind = kind.bytes; title = title.bytes; attribute = attribute.bytes; label = label.bytes; manifest = label.ends.behind; whole = label.ends.there }

-- an input is a question precisely if it has five line feeds, the fifth line is a label or a label and a length, and so many bytes follow it
pub asked_parts : (given : List ℕ) → asked given ≡ pick (has_feed (behind_feeds 4 given)) (with_line (lines_of given) (line_number 4 given) (length (behind_feeds 5 given))) not_a_question
unfolding asked asked_by
asked_parts given =
    let p = parts given in
    let rest : length given - ((lines_of given).label + 1) ≡ length (behind_feeds 5 given) = sym (length-drop ((lines_of given).label + 1) given) ∙ ap length p.manifest in
    rw (p.whole, p.label, rest) refl

-- ---- Questions without a list: as they were before lists could be lent

-- the fifth line was a label then, and nothing else
unfoldable pub asked_without_types : (given : List ℕ) → Asked
asked_without_types given = pick (has_feed (behind_feeds 4 given)) (pick (ltb 255 (number_in 255 (line_number 4 given))) not_a_question (question (lines_of given) (number_in 255 (line_number 4 given)))) not_a_question

-- digits have no space among them
no_space : (line : List ℕ) (n : ℕ) → spelled 255 line n ≤ 255 → space_place line ≡ length line
unfolding space_place place_of spelled
no_space [] n h = refl
no_space (c ∷ cs) n h =
    let digit : 48 ≤ c = spelled_digit 255 c cs n h in
    let other : c ≡ 32 → ⊥ = λ e. omega arith in
    rw (ne_eqb c 32 other) (ap suc (no_space cs (with_digit 255 n c) h))

label_alone : (line : List ℕ) → number_in 255 line ≤ 255 → space_place line ≡ length line
unfolding number_in
label_alone [] h = absurd (omega arith)
label_alone (c ∷ []) h = no_space (c ∷ []) 0 h
label_alone (c ∷ d ∷ cs) h = go (eqb c 48) h
  where
    go : (b : Bool) → pick b 256 (spelled 255 (c ∷ d ∷ cs) 0) ≤ 255 → space_place (c ∷ d ∷ cs) ≡ length (c ∷ d ∷ cs)
    go true h = absurd (omega arith)
    go false h = no_space (c ∷ d ∷ cs) 0 h

label_line : (lines : Lines) (line : List ℕ) (there : ℕ) → number_in 255 line ≤ 255 → with_line lines line there ≡ question lines (number_in 255 line)
unfolding with_line lends_types label_of
label_line lines line there small =
    let end = label_alone line small in
    let whole : take (space_place line) line ≡ line = take_all (space_place line) line (omega (arith, end)) in
    rw (whole, le-ltb 255 (number_in 255 line) small, le-ltb (space_place line) (length line) (omega (arith, end))) refl

-- what was a question is the same question
pub asked_as_before : (given : List ℕ) {lines : Lines} {label : ℕ} → asked_without_types given ≡ question lines label → asked given ≡ question lines label
unfolding asked_without_types
asked_as_before given {lines} {label} was = asked_parts given ∙ go (has_feed (behind_feeds 4 given)) (ltb 255 n) refl was
  where
    n : ℕ
    n = number_in 255 (line_number 4 given)

    go : (b c : Bool) → ltb 255 n ≡ c → pick b (pick c not_a_question (question (lines_of given) n)) not_a_question ≡ question lines label → pick b (with_line (lines_of given) (line_number 4 given) (length (behind_feeds 5 given))) not_a_question ≡ question lines label
    go true true e was = let z : ◌≡◌ {A = ℕ} 0 1 = cc in absurd (omega arith)
    go true false e was = label_line (lines_of given) (line_number 4 given) (length (behind_feeds 5 given)) (ltb-false 255 n e) ∙ was
    go false c e was = was
