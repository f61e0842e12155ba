-- The question that a run is asked, by the numbers of the strings that it names.
use Rattle.std.specs.Prelude.{ℕ, suc, ◌<◌, List, Option as CodeOption, Some, None}
use Rattle.std.proofs.Math.Option.{Option, none, some}
use Rattle.rules.specs.Compile.{string_number}
use Rattle.provenance.specs.Notes.{Question, nothing_asked}
use Rattle.explanation.specs.declared.Numbers.{Numbers}

unfoldable pub numbers_from : (type title name : Option ℕ) → CodeOption Numbers
numbers_from none title name = None
numbers_from (some t) none name = None
numbers_from (some t) (some n) none = None
numbers_from (some t) (some n) (some a) = Some (record { kind = t; title = n; name = a })

unfoldable pub numbers_of : (strings : List (List ℕ)) → (type title attribute : List ℕ) → CodeOption Numbers
numbers_of strings type title attribute = numbers_from (string_number type strings 0) (string_number title strings 0) (string_number attribute strings 0)

-- one more than the type's number is a word
abbrev pub Small : CodeOption Numbers → Type 0
Small (Some q) = q.kind < 65535
Small None = Unit {0}

-- nothing is asked about where the table lacks a string: then the catalog has no such attribute
unfoldable pub question_for : CodeOption Numbers → (label : ℕ) → Question
question_for (Some q) label = record { type = suc q.kind; title = q.title; name = q.name; label = label }
question_for None label = nothing_asked
