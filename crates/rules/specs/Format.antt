-- Document 01's list of fields, as one table: a line for each tag. The check before running, the fixed lengths, where names stand and
-- the reader's offsets all come from it.
use Rattle.std.specs.Prelude.{ℕ, ◌+◌, ◌-◌, Bool, true, false, ◌&&◌, ◌||◌, List, [], ◌∷◌, eqb, ltb, leb}
use Rattle.rules.specs.Bytes.{pick, byte, two}
use Rattle.rules.specs.declared.Kind.{Kind}
use Rattle.rules.specs.declared.Kind.TheVariants.{Table, Text, Constant, Expression, Pattern, Arm, Statement, Block, Branch, Attribute, Parameter, Parent, Item, Device}
use Rattle.rules.specs.declared.Part.{Part}
use Rattle.rules.specs.declared.Part.TheVariants.{Over, One, UpTo, Many, Names}
use Rattle.rules.specs.declared.Parts.{Parts}
use Rattle.rules.specs.declared.Piece.{Piece}
use Rattle.rules.specs.declared.Piece.TheVariants.{Nothing, Label, Integer, Boolean, Operator, Name}
use Rattle.rules.specs.declared.Rest.{Rest}
use Rattle.rules.specs.declared.Rest.TheVariants.{Only, Text as AnyText, Fields}
use Rattle.rules.specs.declared.Form.{Form}
use Rattle.rules.specs.declared.Took.{Took}
use Rattle.rules.specs.declared.Took.TheVariants.{Takes, Passes, Refuses}
use Rattle.rules.specs.declared.Next.{Next}
use Rattle.rules.specs.declared.Next.TheVariants.{Go, Wrong}

-- ---- The tags of each kind of field

-- from a to b
abbrev pub within : ℕ → ℕ → ℕ → Bool
within a b t = leb a t && leb t b

abbrev pub is_constant : ℕ → Bool
is_constant t = within 0x10 0x12 t

abbrev pub is_expression : ℕ → Bool
is_expression t = within 0x10 0x19 t

abbrev pub is_statement : ℕ → Bool
is_statement t = within 0x21 0x23 t || (eqb t 0x25 || within 0x27 0x29 t)

abbrev pub is_item : ℕ → Bool
is_item t = eqb t 0x30 || (eqb t 0x32 || (eqb t 0x34 || is_statement t))

unfoldable pub allowed : Kind → ℕ → Bool
allowed Table t = eqb t 0x01
allowed Text t = eqb t 0x02
allowed Constant t = is_constant t
allowed Expression t = is_expression t
allowed Pattern t = eqb t 0x1b || is_constant t
allowed Arm t = eqb t 0x1a
allowed Statement t = is_statement t
allowed Block t = eqb t 0x20
allowed Branch t = eqb t 0x24
allowed Attribute t = eqb t 0x26
allowed Parameter t = eqb t 0x33
allowed Parent t = eqb t 0x35
allowed Item t = is_item t
allowed Device t = eqb t 0x31

-- ---- The list

abbrev pub three : Part → Part → Part → Parts
three a b c = record { first = a; second = b; third = c }

-- two pieces and nothing more; any bytes, at most 255; two pieces and then fields
abbrev pub just : Piece → Piece → Form
just x y = record { one = x; two = y; rest = Only }

abbrev pub any_text : Form
any_text = record { one = Nothing; two = Nothing; rest = AnyText }

abbrev pub fields : Piece → Piece → Part → Part → Part → Form
fields x y p q r = record { one = x; two = y; rest = Fields (three p q r) }

-- for each tag what its body begins with, and the fields that follow
unfoldable pub forms : List (ℕ × Form)
forms =
    (0x01, fields Nothing Nothing (UpTo 1024 Text) Over Over)  -- string table: 0 to 1,024 fields 02
    ∷ (0x02, any_text)  -- a string of 0 to 255 bytes
    ∷ (0x10, just Label Integer)  -- integer
    ∷ (0x11, just Label Name)  -- string
    ∷ (0x12, just Label Boolean)  -- boolean
    ∷ (0x13, just Name Nothing)  -- variable
    ∷ (0x14, just Name Nothing)  -- top variable
    ∷ (0x15, just Name Name)  -- class variable: class name, name
    ∷ (0x16, fields Operator Nothing (One Expression) (One Expression) Over)  -- operator byte, two expressions
    ∷ (0x17, fields Nothing Nothing (One Expression) Over Over)  -- not
    ∷ (0x18, fields Name Name (One Expression) Over Over)  -- attribute read: type name, attribute name, title
    ∷ (0x19, fields Nothing Nothing (One Expression) (One Arm) (Many Arm))  -- selector: expression, one or more 1A
    ∷ (0x1a, fields Nothing Nothing (One Pattern) (One Expression) Over)  -- pattern, expression
    ∷ (0x1b, just Nothing Nothing)  -- default
    ∷ (0x20, fields Nothing Nothing (Many Statement) Over Over)  -- block
    ∷ (0x21, fields Name Nothing (One Expression) Over Over)  -- assignment
    ∷ (0x22, fields Nothing Nothing (One Expression) (One Block) (One Block))  -- if
    ∷ (0x23, fields Nothing Nothing (One Expression) (Many Branch) Over)  -- case
    ∷ (0x24, fields Nothing Nothing (One Pattern) (One Block) Over)  -- pattern, block
    ∷ (0x25, fields Name Nothing (One Expression) (Many Attribute) Over)  -- built-in resource
    ∷ (0x26, fields Name Nothing (One Expression) Over Over)  -- attribute
    ∷ (0x27, fields Name Nothing (One Expression) (Many Attribute) Over)  -- defined resource
    ∷ (0x28, fields Name Nothing (Many Attribute) Over Over)  -- class with attributes
    ∷ (0x29, just Name Nothing)  -- include
    ∷ (0x30, fields Nothing Nothing Names (One Block) Over)  -- node
    ∷ (0x31, just Name Nothing)  -- a device's name
    ∷ (0x32, fields Name Nothing (Many Parameter) (One Block) Over)  -- type definition
    ∷ (0x33, fields Name Nothing (UpTo 1 Constant) Over Over)  -- parameter
    ∷ (0x34, fields Name Nothing (UpTo 1 Parent) (Many Parameter) (One Block))  -- class
    ∷ (0x35, just Name Nothing)  -- the parent's name
    ∷ []

unfoldable pub form_in : List (ℕ × Form) → ℕ → Form
form_in [] t = just Nothing Nothing
form_in (x ∷ xs) t = pick (eqb t x.0) x.1 (form_in xs t)

unfoldable pub form_of : ℕ → Form
form_of t = form_in forms t

-- ---- What the list says of a body

-- the bytes of a piece
unfoldable pub size : Piece → ℕ
size Nothing = 0
size Label = 1
size Integer = 8
size Boolean = 1
size Operator = 1
size Name = 2

unfoldable pub head_size : Form → ℕ
head_size l = size l.one + size l.two

-- what a part makes of a field with the tag t
unfoldable pub take : Part → ℕ → Took
take Over t = Passes
take (One k) t = pick (allowed k t) (Takes Over) Refuses
take (UpTo n k) t = pick (eqb n 0) Passes (pick (allowed k t) (Takes (UpTo (n - 1) k)) Passes)
take (Many k) t = pick (allowed k t) (Takes (Many k)) Passes
take Names t = pick (eqb t 0x31) (Takes (Many Device)) (pick (eqb t 0x1b) (Takes Over) Refuses)

-- a part takes the field, or leaves it to the next part, or refuses it
abbrev pub taken : Took → (Part → Next) → Next → Next
taken (Takes p) f n = f p
taken Passes f n = n
taken Refuses f n = Wrong

-- what may come after a field with the tag t, where the parts ps may come
unfoldable pub follow : Parts → ℕ → Next
follow ps t =
    taken (take ps.first t) (λ x. Go (three x ps.second ps.third))
    (taken (take ps.second t) (λ y. Go (three Over y ps.third))
    (taken (take ps.third t) (λ z. Go (three Over Over z))
    Wrong))

-- whether the body may end here
unfoldable pub part_may_end : Part → Bool
part_may_end Over = true
part_may_end (One k) = false
part_may_end (UpTo n k) = true
part_may_end (Many k) = true
part_may_end Names = false

unfoldable pub may_end : Parts → Bool
may_end ps = part_may_end ps.first && (part_may_end ps.second && part_may_end ps.third)

-- whether the length n that the header shows can be right: h is the size of the pieces
unfoldable pub rest_right : Rest → ℕ → ℕ → Bool
rest_right Only h n = eqb n h
rest_right AnyText h n = leb n 255
rest_right (Fields ps) h n = true

unfoldable pub length_right : Form → ℕ → Bool
length_right l n = rest_right l.rest (head_size l) n

-- an operator byte is 0 to 6, a boolean 00 or 01
unfoldable pub piece_right : List ℕ → ℕ → Piece → Bool
piece_right m q Nothing = true
piece_right m q Label = true
piece_right m q Integer = true
piece_right m q Boolean = leb (byte m q) 1
piece_right m q Operator = leb (byte m q) 6
piece_right m q Name = true

unfoldable pub bytes_right : List ℕ → ℕ → Form → Bool
bytes_right m p l = piece_right m (p + 3) l.one && piece_right m (p + 3 + size l.one) l.two

-- a name is among the n strings
unfoldable pub name_right : List ℕ → ℕ → ℕ → Piece → Bool
name_right m n q Nothing = true
name_right m n q Label = true
name_right m n q Integer = true
name_right m n q Boolean = true
name_right m n q Operator = true
name_right m n q Name = ltb (two m q) n

unfoldable pub names_right : List ℕ → ℕ → ℕ → Form → Bool
names_right m n p l = name_right m n (p + 3) l.one && name_right m n (p + 3 + size l.one) l.two
