-- The ways of the program's functions: a line that is written whole, the question's parts, and the answer. Assumes nothing.
use Prim.Native.Nat.{ℕ, ◌+◌, ◌-◌, ◌≤◌}
use mathlib.Core.Path.{◌≡◌, refl, sym, ap, ◌∙◌}
use mathlib.Core.Bool.{Bool, true, false}
use mathlib.Core.List.{List}
use native.Mathlib.Omega.{arith}
use lib.Dec.{ltb}
use lib.ListN.{length, take, drop}
use Rattle.wire.specs.Bytes.{pick}
use Rattle.rules.specs.Types.{Types, the_eight, lent}
use Rattle.rules.specs.Why.{Told, why}
use Rattle.question.specs.declared.Lines.{Lines}
use Rattle.question.specs.Lines.{lines_of, line_between, behind_feeds, line_number}
use Rattle.std.specs.Prelude.{Some, None}
use Rattle.question.specs.declared.Question.{Question}
use Rattle.question.specs.Asking.{Asked, question, with_types, not_a_question, label_of, lends_types, size_of, with_size, with_line, asked_by, asked}
use Rattle.question.specs.Answers.{answer_line, wrong_line, Put}
use Rattle.question.proofs.Laws.{parts, asked_without_types, asked_as_before}
use Rattle.question.proofs.Lengths.{whole_put}
use Rattle.explanation.specs.Explained.{Explains}
use Rattle.explain_label.specs.Answering.{explanation_of, explained_by, explained, answer_to, answer_text}
use Rattle.values.specs.Answers.{Explanation}

-- ---- A line in its buffer

pub line_whole : {text whole before after shown : List ℕ} {n : ℕ} → Put 0 text before after n → n ≤ 64 → length before ≡ 64 → shown ≡ take n after → text ≡ whole → (shown ≡ whole) × (length shown ≤ 64)
line_whole {shown = shown} put short room is same =
    let there = is ∙ whole_put put (omega (arith, put.told)) in
    (there ∙ same, omega (arith, ap length there, put.told))

-- ---- The question's parts

-- the first four lines as the code has them
record Named (given device type title attribute : List ℕ) : Type 0 where
  device_is : device ≡ line_number 0 given
  type_is : type ≡ line_number 1 given
  title_is : title ≡ line_number 2 given
  attribute_is : attribute ≡ line_number 3 given

module _ (given : List ℕ) {lines : Lines} (is : lines ≡ lines_of given) where
  -- what follows the five lines
  pub rest_is : {rest : List ℕ} → rest ≡ drop (lines.label + 1) given → rest ≡ behind_feeds 5 given
  rest_is e = e ∙ ap (λ (l : Lines). drop (l.label + 1) given) is ∙ (parts given).manifest

  module _ {device type title attribute : List ℕ} (device_is : device ≡ take lines.device given) (type_is : type ≡ line_between given lines.device lines.kind) (title_is : title ≡ line_between given lines.kind lines.title) (attribute_is : attribute ≡ line_between given lines.title lines.attribute) where
    named : Named given device type title attribute
    named =
        let p = parts given in
        record {
          device_is = device_is ∙ ap (λ (l : Lines). take l.device given) is ∙ p.device;
          type_is = type_is ∙ ap (λ (l : Lines). line_between given l.device l.kind) is ∙ p.kind;
          title_is = title_is ∙ ap (λ (l : Lines). line_between given l.kind l.title) is ∙ p.title;
          attribute_is = attribute_is ∙ ap (λ (l : Lines). line_between given l.title l.attribute) is ∙ p.attribute;
        }

    explained_with : (types : Types) {manifest m work work' : List ℕ} {label : ℕ} {r : Explanation} → m ≡ manifest → length work ≡ 65536 → Explains types m device type title attribute label work work' r → r ≡ explanation_of types manifest given label
    unfolding explanation_of
    explained_with types {label = label} m-is size explains =
        let n = named in
        ap (λ (t : Told). t.answer) explains.told
        ∙ (λ i. (why types (m-is i) (n.device_is i) (n.type_is i) (n.title_is i) (n.attribute_is i) label (size i)).answer)

    pub explained_given : {m work work' : List ℕ} {label : ℕ} {r : Explanation} → m ≡ drop (lines.label + 1) given → length work ≡ 65536 → Explains the_eight m device type title attribute label work work' r → r ≡ explained_by None given label
    unfolding explained_by
    explained_given m-is size explains = explained_with the_eight (rest_is m-is) size explains

    -- the list is the first bytes of the rest, and the manifest all others
    pub explained_listed : (size : ℕ) {rest list m work work' : List ℕ} {label : ℕ} {r : Explanation} → rest ≡ drop (lines.label + 1) given → list ≡ take size rest → m ≡ drop size rest → length work ≡ 65536
        → Explains (lent list) m device type title attribute label work work' r → r ≡ explained_by (Some size) given label
    unfolding explained_by
    explained_listed size {label = label} behind list-is m-is room explains =
        explained_with (lent _) (m-is ∙ ap (drop size) (rest_is behind)) room explains
        ∙ ap (λ (list : List ℕ). explanation_of (lent list) (drop size (behind_feeds 5 given)) given label) (list-is ∙ ap (take size) (rest_is behind))

-- ---- The answer

pub wrong_text : (given : List ℕ) {a : Asked} → a ≡ asked given → a ≡ None → wrong_line ≡ answer_text given
unfolding answer_text answer_to
wrong_text given told is = ap (answer_to given) (sym is ∙ told)

pub right_text : (given : List ℕ) {a : Asked} {q : Question} {r : Explanation} → a ≡ asked given → a ≡ Some q → r ≡ explained given q → answer_line r ≡ answer_text given
unfolding answer_text answer_to
right_text given told is answer = ap answer_line answer ∙ ap (answer_to given) (sym is ∙ told)

-- an input that was a question before lists could be lent is answered as it was then
pub answered_as_before : (given : List ℕ) {lines : Lines} {label : ℕ} → asked_without_types given ≡ question lines label → answer_text given ≡ answer_line (explanation_of the_eight (behind_feeds 5 given) given label)
unfolding answer_text answer_to explained explained_by
answered_as_before given was = ap (answer_to given) (asked_as_before given was)

-- the lines of a question are those of its input
lines_in : (otherwise : Lines) → Asked → Lines
lines_in otherwise (Some q) = q.lines
lines_in otherwise None = otherwise

lines_in_lem : (given : List ℕ) → lines_in (lines_of given) (asked given) ≡ lines_of given
unfolding asked asked_by with_line with_size lines_in
lines_in_lem given = go (ltb (lines_of given).label (length given)) (ltb 255 (label_of line)) (lends_types line) (ltb 65535 (size_of line)) (ltb there (size_of line))
  where
    line : List ℕ
    line = line_between given (lines_of given).attribute (lines_of given).label

    there : ℕ
    there = length given - ((lines_of given).label + 1)

    go : (a b c d e : Bool) → lines_in (lines_of given) (pick a (pick b not_a_question (pick c (pick d not_a_question (pick e not_a_question (with_types (lines_of given) (label_of line) (size_of line)))) (question (lines_of given) (label_of line)))) not_a_question) ≡ lines_of given
    go false b c d e = refl
    go true true c d e = refl
    go true false false d e = refl
    go true false true true e = refl
    go true false true false true = refl
    go true false true false false = refl

pub asked_lines : (given : List ℕ) {a : Asked} {q : Question} → a ≡ asked given → a ≡ Some q → q.lines ≡ lines_of given
unfolding lines_in
asked_lines given told is = ap (lines_in (lines_of given)) (sym is ∙ told) ∙ lines_in_lem given
