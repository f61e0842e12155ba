-- What the program writes for an input.
use Rattle.std.specs.Prelude.{None, Some}
use Rattle.manifest_text.specs.declared.Command.TheVariants.{Convert, Place, Print}
use Rattle.manifest_text.specs.Commands.{BuiltIn, Asked}
use Rattle.std.specs.Prelude.{ℕ, ◌≡◌, Result, OnOk, List, [], ◌∷◌, ◌++◌, length, take, drop, Ok, Err}
use Rattle.rules.specs.Types.{Types, the_eight, lent}
use Rattle.values.specs.Numbers.{number_of}
use Rattle.rules.specs.Schedule.{decimal, refusal_line, before_feed, after_feed}
use Rattle.notation.specs.Convert.{Effect, convert}
use Rattle.notation.specs.Printer.{print}
use Rattle.text_places.specs.Places.{PlaceGiven}
use Rattle.manifest_text.specs.Commands.{types_in, command_in}
use Rattle.notation.specs.Answers.{Answer}
use Rattle.standard_streams.specs.declared.NotSent.{NotSent}

-- ---- What is given: a list of types or none, then the text or the manifest

unfoldable pub types_given : BuiltIn → (given : List ℕ) → Types
types_given None given = the_eight
types_given (Some size) given = lent (take size given)

unfoldable pub bytes_given : BuiltIn → (given : List ℕ) → List ℕ
bytes_given None given = given
bytes_given (Some size) given = drop size given

-- ---- Results and refusals

-- a word, a number, a line feed, and bytes
unfoldable pub numbered_text : (word : List ℕ) → (number : ℕ) → (bytes : List ℕ) → List ℕ
numbered_text word number bytes = word ++ (decimal number ++ (10 ∷ bytes))

-- "written", how many bytes there are, a line feed, and the bytes
unfoldable pub written_text : List ℕ → List ℕ
written_text bytes = numbered_text (119 ∷ 114 ∷ 105 ∷ 116 ∷ 116 ∷ 101 ∷ 110 ∷ 32 ∷ []) (length bytes) bytes

-- for what a call answered, and left in its output
unfoldable pub answer_text : Answer → (output : List ℕ) → List ℕ
answer_text (Ok n) output = written_text (take n output)
answer_text (Err f) output = refusal_line (number_of f.reason) f.place

unfoldable pub effect_text : Effect → List ℕ
effect_text e = answer_text e.answer e.output_after

-- ---- Places

-- "place", the place, and a line feed
unfoldable pub place_line : (place : ℕ) → List ℕ
place_line place = numbered_text (112 ∷ 108 ∷ 97 ∷ 99 ∷ 101 ∷ 32 ∷ []) place []

-- the line of the place that is told with a log of 262,144 bytes. It is determined wherever a text gives a manifest that is not too long, and a field of that manifest begins at
-- the offset. It is left free, below 65,536, where the list of types or the text is refused, where its manifest is longer than 65,535 bytes, and where no field begins at the offset
pub record PlaceAnswer (types : Types) (text : List ℕ) (field : ℕ) (answer : List ℕ) : Type 0 where
  pub place : ℕ
  pub told : PlaceGiven types text field 262144 place
  pub line : answer ≡ place_line place

-- ---- Answers

-- whether this is an answer. 65,535 bytes of output and 65,536 of memory are lent; for an unknown first line nothing is written
unfoldable pub Answers : BuiltIn → Asked → (given answer : List ℕ) → Type 0
Answers types (Some Convert) given answer = answer ≡ effect_text (convert (types_given types given) (bytes_given types given) 65535 65536)
Answers types (Some Print) given answer = answer ≡ effect_text (print (types_given types given) (bytes_given types given) 65535 65536)
Answers types (Some (Place field)) given answer = PlaceAnswer (types_given types given) (bytes_given types given) field answer
Answers types None given answer = answer ≡ []

-- an answer of which something is so
pub record AnAnswer (types : BuiltIn) (command : Asked) (given : List ℕ) (Is : List ℕ → Type 0) : Type 0 where
  pub answer : List ℕ
  pub right : Answers types command given answer
  pub so : Is answer

-- what is told is that all was sent
abbrev pub AllSent : BuiltIn → Asked → (given : List ℕ) → (sent : ℕ) → (told : Result Unit NotSent) → Type 0
AllSent types command given sent told = OnOk told (AnAnswer types command given (λ a. sent ≡ length a))

-- the same of an input: the first line, a line feed, then what is given
abbrev pub InputSent : (input : List ℕ) → (sent : ℕ) → (told : Result Unit NotSent) → Type 0
InputSent input sent told = AllSent (types_in (before_feed input)) (command_in (before_feed input)) (after_feed input) sent told
