-- The papers' numbers for the reasons: none is 0, and each is small.
use Prim.Native.Nat.{◌≤◌}
use lib.Dec.{lit≤}
use Rattle.values.specs.declared.Reason.{Reason}
use Rattle.values.specs.declared.Reason.TheVariants.{MemoryTooShort, ManifestLength, Malformed, TooDeep, StringOrder, StepLimit, LevelLimit, DefinedAgain, Unknown, DeclaredAgain, UnknownParameter, MissingParameter, NoValue, AssignedAgain, WrongKind, Overflow, DivisionByZero, NoMatch, NotInCatalog, ResourceAgain, AttributeAgain, CellLimit, OutputFull, OutsideNotation, PastLine255, Unprintable, NoSuchAttribute, TypeList}
use Rattle.values.specs.Numbers.{number_of}

pub number_range : (r : Reason) → (1 ≤ number_of r) × (number_of r ≤ 99)
unfolding number_of
number_range MemoryTooShort = (lit≤ tt, lit≤ tt)
number_range ManifestLength = (lit≤ tt, lit≤ tt)
number_range Malformed = (lit≤ tt, lit≤ tt)
number_range TooDeep = (lit≤ tt, lit≤ tt)
number_range StringOrder = (lit≤ tt, lit≤ tt)
number_range StepLimit = (lit≤ tt, lit≤ tt)
number_range LevelLimit = (lit≤ tt, lit≤ tt)
number_range DefinedAgain = (lit≤ tt, lit≤ tt)
number_range Unknown = (lit≤ tt, lit≤ tt)
number_range DeclaredAgain = (lit≤ tt, lit≤ tt)
number_range UnknownParameter = (lit≤ tt, lit≤ tt)
number_range MissingParameter = (lit≤ tt, lit≤ tt)
number_range NoValue = (lit≤ tt, lit≤ tt)
number_range AssignedAgain = (lit≤ tt, lit≤ tt)
number_range WrongKind = (lit≤ tt, lit≤ tt)
number_range Overflow = (lit≤ tt, lit≤ tt)
number_range DivisionByZero = (lit≤ tt, lit≤ tt)
number_range NoMatch = (lit≤ tt, lit≤ tt)
number_range NotInCatalog = (lit≤ tt, lit≤ tt)
number_range ResourceAgain = (lit≤ tt, lit≤ tt)
number_range AttributeAgain = (lit≤ tt, lit≤ tt)
number_range CellLimit = (lit≤ tt, lit≤ tt)
number_range OutputFull = (lit≤ tt, lit≤ tt)
number_range OutsideNotation = (lit≤ tt, lit≤ tt)
number_range PastLine255 = (lit≤ tt, lit≤ tt)
number_range Unprintable = (lit≤ tt, lit≤ tt)
number_range NoSuchAttribute = (lit≤ tt, lit≤ tt)
number_range TypeList = (lit≤ tt, lit≤ tt)
