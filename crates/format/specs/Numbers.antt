-- The list of fields in numbers, as the code has it: for each tag a number for what it is and what its body begins with, and one for its parts.
use Rattle.std.specs.Prelude.{ℕ, zero, suc, ◌+◌, ◌*◌, ◌/◌, ◌%◌, Bool, true, false, List, [], ◌∷◌, eqb, get_or}
use Rattle.rules.specs.Bytes.{pick}
use Rattle.rules.specs.Format.{allowed, form_of, size, head_size}
use Rattle.rules.specs.declared.Kind.{Kind}
use Rattle.rules.specs.declared.Kind.TheVariants.{Table, Text, Constant, Expression, Pattern, Arm, Statement, Block, Branch, Attribute, Parameter, Parent, Item, Device}
use Rattle.rules.specs.declared.Part.{Part}
use Rattle.rules.specs.declared.Part.TheVariants.{Over, One, UpTo, Many, Names}
use Rattle.rules.specs.declared.Parts.{Parts}
use Rattle.rules.specs.declared.Piece.{Piece}
use Rattle.rules.specs.declared.Piece.TheVariants.{Nothing, Label, Integer, Boolean, Operator, Name}
use Rattle.rules.specs.declared.Rest.{Rest}
use Rattle.rules.specs.declared.Rest.TheVariants.{Only, Text as AnyText, Fields}
use Rattle.rules.specs.declared.Form.{Form}

-- ---- What a body begins with

-- what a byte may be
unfoldable pub byte_number : Piece → ℕ
byte_number Nothing = 0
byte_number Label = 0
byte_number Integer = 0
byte_number Boolean = 1
byte_number Operator = 2
byte_number Name = 0

unfoldable pub name_number : Piece → ℕ
name_number Nothing = 0
name_number Label = 0
name_number Integer = 0
name_number Boolean = 0
name_number Operator = 0
name_number Name = 1

-- what follows the pieces
unfoldable pub rest_number : Rest → ℕ
rest_number Only = 0
rest_number AnyText = 1
rest_number (Fields ps) = 2

unfoldable pub fields_follow : Rest → Bool
fields_follow Only = false
fields_follow AnyText = false
fields_follow (Fields ps) = true

unfoldable pub head_number : Form → ℕ
head_number l =
    head_size l
    + 32 * rest_number l.rest
    + 128 * byte_number l.one
    + 512 * byte_number l.two
    + 2048 * name_number l.one
    + 4096 * name_number l.two
    + 8192 * size l.one

-- ---- Kinds

unfoldable pub kinds : List Kind
kinds =
    Table
    ∷ Text
    ∷ Constant
    ∷ Expression
    ∷ Pattern
    ∷ Arm
    ∷ Statement
    ∷ Block
    ∷ Branch
    ∷ Attribute
    ∷ Parameter
    ∷ Parent
    ∷ Item
    ∷ []

unfoldable pub kind_from : ℕ → Kind
kind_from i = get_or kinds i Device

abbrev pub bit : Bool → ℕ
bit true = 1
bit false = 0

-- a bit for each of n numbers from i on: whether it passes the test
unfoldable pub bits : (ℕ → Bool) → (n i : ℕ) → ℕ
bits f zero i = 0
bits f (suc n) i = bit (f i) + 2 * bits f n (suc i)

-- a bit for each kind that a tag is of
unfoldable pub kinds_number : ℕ → ℕ
kinds_number t = bits (λ i. allowed (kind_from i) t) 16 0

-- the line of a tag
unfoldable pub line_number : ℕ → ℕ
line_number t = head_number (form_of t) + 4294967296 * kinds_number t

-- ---- Parts

-- how many fields a part takes: one, up to a number, many, or the names of a node
unfoldable pub how_many : ℕ → ℕ
how_many x = x / 16 % 8 * 16

unfoldable pub shaped : (many : ℕ) → Kind → (most : ℕ) → Part
shaped m k n = pick (eqb m 16) (One k) (pick (eqb m 32) (UpTo n k) (pick (eqb m 48) (Many k) (pick (eqb m 64) Names Over)))

-- the lowest part of a number
unfoldable pub part_from : ℕ → Part
part_from x = shaped (how_many x) (kind_from (x % 16)) (x % 2097152 / 128)

-- a part that is done is dropped
unfoldable pub push : Part → List Part → List Part
push Over ps = ps
push (One k) ps = One k ∷ ps
push (UpTo n k) ps = UpTo n k ∷ ps
push (Many k) ps = Many k ∷ ps
push Names ps = Names ∷ ps

unfoldable pub undone : Parts → List Part
undone ps = push ps.first (push ps.second (push ps.third []))

-- the first k parts of a number, the first one lowest
unfoldable pub lowest : (k x : ℕ) → List Part
lowest zero x = []
lowest (suc k) x = push (part_from x) (lowest k (x / 2097152))

-- four parts are more than 64 bits
unfoldable pub parts_from : ℕ → List Part
parts_from x = lowest 4 x

-- the parts of a tag's line
unfoldable pub parts_in : Rest → List Part
parts_in Only = []
parts_in AnyText = []
parts_in (Fields ps) = undone ps
