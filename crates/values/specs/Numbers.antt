-- The papers' number for each reason, and what each answer says in its numbers.
use Rattle.std.specs.Prelude.{ℕ, Ok, Err}
use Rattle.values.specs.declared.Reason.{Reason}
use Rattle.values.specs.declared.Reason.TheVariants.{MemoryTooShort, ManifestLength, Malformed, TooDeep, StringOrder, StepLimit, LevelLimit, DefinedAgain, Unknown, DeclaredAgain, UnknownParameter, MissingParameter, NoValue, AssignedAgain, WrongKind, Overflow, DivisionByZero, NoMatch, NotInCatalog, ResourceAgain, AttributeAgain, CellLimit, OutputFull, OutsideNotation, PastLine255, Unprintable, NoSuchAttribute, TypeList}
use Rattle.values.specs.declared.SetPart.{SetPart}
use Rattle.values.specs.declared.SetPart.TheVariants.{Title, Path, Trail, Marks, Value}
use Rattle.values.specs.Answers.{Answer}

-- "Reasons for refusing, in checking order"
unfoldable pub number_of : Reason → ℕ
number_of MemoryTooShort = 1  -- the working memory is shorter than 65,536 bytes
number_of ManifestLength = 2  -- the manifest's length is outside 1 to 65,535
number_of Malformed = 3  -- a field's tag, length or parts are not as listed
number_of TooDeep = 4  -- a field is deeper than 32
number_of StringOrder = 5  -- the strings don't rise strictly, or a name is past the table
number_of StepLimit = 6  -- a further step would pass the limit
number_of LevelLimit = 7  -- a declaration would go below level 16
number_of DefinedAgain = 8  -- a defined name is defined again, or is a built-in type
number_of Unknown = 9  -- the class or type is unknown, or a 25 names no built-in type
number_of DeclaredAgain = 10  -- a 28 names a declared class
number_of UnknownParameter = 11  -- a parameter is unknown
number_of MissingParameter = 12  -- a parameter has neither value nor default
number_of NoValue = 13  -- the variable has no value in any scope tried
number_of AssignedAgain = 14  -- the variable has a value in this scope
number_of WrongKind = 15  -- an operand, condition or title is of the wrong kind
number_of Overflow = 16  -- the result is outside 64 bits
number_of DivisionByZero = 17  -- the divisor is zero
number_of NoMatch = 18  -- no pattern of a selector matches
number_of NotInCatalog = 19  -- the resource or attribute read is not in the catalog
number_of ResourceAgain = 20  -- type and title are already in the catalog
number_of AttributeAgain = 21  -- an attribute is named twice in one body
number_of CellLimit = 22  -- a 513th cell is needed
number_of OutputFull = 23  -- the finished entry passes the output's end or 65,535 bytes in all
number_of OutsideNotation = 24  -- the text is outside the notation or 01's limits, or text or tree is over 65,535 bytes
number_of PastLine255 = 25  -- a constant stands past line 255
number_of Unprintable = 26  -- the printer meets a label below an earlier constant's, or what the notation cannot spell, or its text is over 65,535 bytes
number_of NoSuchAttribute = 27  -- the catalog has no such attribute
number_of TypeList = 28  -- the list of types breaks one of its rules

-- "title expression, path, trail, marks its expression read, value (the rest)"
unfoldable pub part_number : SetPart → ℕ
part_number Title = 1
part_number Path = 2
part_number Trail = 3
part_number Marks = 4
part_number Value = 5

-- an answer in document 01's numbers: length and steps, or number and place
pub data Said : Type 0 where
  accepted : (length steps : ℕ) → Said
  refused : (number place : ℕ) → Said

unfoldable pub said : Answer → Said
said (Ok c) = accepted c.length c.steps
said (Err f) = refused (number_of f.reason) f.place
