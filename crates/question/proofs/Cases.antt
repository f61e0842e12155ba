-- Some questions and answers, computed by the definition.
use Prim.Native.Nat.{ℕ}
use mathlib.Core.Path.{◌≡◌, refl}
use mathlib.Core.List.{List, [], ◌∷◌}
use Rattle.rules.specs.Schedule.{before_feed, refusal_line}
use Rattle.values.specs.declared.Reason.TheVariants.{NoSuchAttribute}
use Rattle.values.specs.declared.SetPart.TheVariants.{Trail}
use Rattle.values.specs.Decimal.{digits, decimal}
use Rattle.values.specs.Numbers.{number_of, part_number}
use Rattle.question.specs.Lines.{line_after, lines_of, line_between}
use Rattle.question.specs.Numbers.{with_digit, spelled, number_in}
use Rattle.input.specs.Places.{place_of}
use Rattle.question.specs.Asking.{question, with_types, not_a_question, space_place, label_of, lends_types, size_of, with_size, with_line, asked_by, asked}
use Rattle.question.specs.Answers.{among_line, answer_line}
use Rattle.values.specs.Answers.{among_part, refused_for}

-- ---- Questions: the lines "d", "t", "i" and "a", and then what is given

abbrev with_lines : List ℕ → List ℕ
with_lines rest = 100 ∷ 10 ∷ 116 ∷ 10 ∷ 105 ∷ 10 ∷ 97 ∷ 10 ∷ rest

-- "7" and a manifest of one byte
seven : asked (with_lines (55 ∷ 10 ∷ 77 ∷ [])) ≡ question (record { device = 1; kind = 3; title = 5; attribute = 7; label = 9 }) 7
unfolding asked asked_by with_line with_size label_of lends_types size_of space_place place_of lines_of line_after line_between number_in spelled with_digit before_feed
seven = refl

-- "255" and an empty manifest
highest : asked (with_lines (50 ∷ 53 ∷ 53 ∷ 10 ∷ [])) ≡ question (record { device = 1; kind = 3; title = 5; attribute = 7; label = 11 }) 255
unfolding asked asked_by with_line with_size label_of lends_types size_of space_place place_of lines_of line_after line_between number_in spelled with_digit before_feed
highest = refl

-- "256"
too_high : asked (with_lines (50 ∷ 53 ∷ 54 ∷ 10 ∷ [])) ≡ not_a_question
unfolding asked asked_by with_line with_size label_of lends_types size_of space_place place_of lines_of line_after line_between number_in spelled with_digit before_feed
too_high = refl

-- "07"
zero_before : asked (with_lines (48 ∷ 55 ∷ 10 ∷ [])) ≡ not_a_question
unfolding asked asked_by with_line with_size label_of lends_types size_of space_place place_of lines_of line_after line_between number_in spelled with_digit before_feed
zero_before = refl

-- an empty line
no_digit : asked (with_lines (10 ∷ 55 ∷ 10 ∷ [])) ≡ not_a_question
unfolding asked asked_by with_line with_size label_of lends_types size_of space_place place_of lines_of line_after line_between number_in spelled with_digit before_feed
no_digit = refl

-- "7" without a line feed
four_feeds : asked (with_lines (55 ∷ [])) ≡ not_a_question
unfolding asked asked_by with_line with_size label_of lends_types size_of space_place place_of lines_of line_after line_between number_in spelled with_digit before_feed
four_feeds = refl

-- "7 2", a list of two bytes and a manifest of one
two_bytes : asked (with_lines (55 ∷ 32 ∷ 50 ∷ 10 ∷ 2 ∷ 0 ∷ 77 ∷ [])) ≡ with_types (record { device = 1; kind = 3; title = 5; attribute = 7; label = 11 }) 7 2
unfolding asked asked_by with_line with_size label_of lends_types size_of space_place place_of lines_of line_after line_between number_in spelled with_digit before_feed
two_bytes = refl

-- "7 0": the list is lent, and is empty
no_bytes : asked (with_lines (55 ∷ 32 ∷ 48 ∷ 10 ∷ 77 ∷ [])) ≡ with_types (record { device = 1; kind = 3; title = 5; attribute = 7; label = 11 }) 7 0
unfolding asked asked_by with_line with_size label_of lends_types size_of space_place place_of lines_of line_after line_between number_in spelled with_digit before_feed
no_bytes = refl

-- "7 4" and three bytes
list_cut : asked (with_lines (55 ∷ 32 ∷ 52 ∷ 10 ∷ 2 ∷ 0 ∷ 77 ∷ [])) ≡ not_a_question
unfolding asked asked_by with_line with_size label_of lends_types size_of space_place place_of lines_of line_after line_between number_in spelled with_digit before_feed
list_cut = refl

-- "7 " without a length
no_length : asked (with_lines (55 ∷ 32 ∷ 10 ∷ 77 ∷ [])) ≡ not_a_question
unfolding asked asked_by with_line with_size label_of lends_types size_of space_place place_of lines_of line_after line_between number_in spelled with_digit before_feed
no_length = refl

-- "7 65536"
length_too_high : asked (with_lines (55 ∷ 32 ∷ 54 ∷ 53 ∷ 53 ∷ 51 ∷ 54 ∷ 10 ∷ 77 ∷ [])) ≡ not_a_question
unfolding asked asked_by with_line with_size label_of lends_types size_of space_place place_of lines_of line_after line_between number_in spelled with_digit before_feed
length_too_high = refl

-- " 2" without a label
length_alone : asked (with_lines (32 ∷ 50 ∷ 10 ∷ 2 ∷ 0 ∷ 77 ∷ [])) ≡ not_a_question
unfolding asked asked_by with_line with_size label_of lends_types size_of space_place place_of lines_of line_after line_between number_in spelled with_digit before_feed
length_alone = refl

-- ---- Answers

-- "among 3 300"
third_part : answer_line (among_part Trail 300) ≡ 97 ∷ 109 ∷ 111 ∷ 110 ∷ 103 ∷ 32 ∷ 51 ∷ 32 ∷ 51 ∷ 48 ∷ 48 ∷ 10 ∷ []
unfolding answer_line among_line part_number decimal digits
third_part = refl

-- "refused 27 at 0"
no_attribute : answer_line (refused_for NoSuchAttribute 0) ≡ 114 ∷ 101 ∷ 102 ∷ 117 ∷ 115 ∷ 101 ∷ 100 ∷ 32 ∷ 50 ∷ 55 ∷ 32 ∷ 97 ∷ 116 ∷ 32 ∷ 48 ∷ 10 ∷ []
unfolding answer_line refusal_line number_of decimal digits
no_attribute = refl
