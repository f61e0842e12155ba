-- What a token does to the bytes of the tree in the making: it inserts some at one place. A log of this leads an offset back to the token.
use Rattle.std.specs.Prelude.{ℕ, zero, suc, ◌+◌, ◌-◌, ◌*◌, ◌/◌, ◌%◌, ◌≤◌, ◌<◌, ◌≡◌, Bool, false, ◌&&◌, ◌||◌, List, [], ◌∷◌, leb, ltb, eqb, length}
use Rattle.wire.specs.Bytes.{pick, byte as at}
use Rattle.wire.specs.Numbers.{number}
use Rattle.wire.specs.Runs.{bytes_at}
use Rattle.notation.specs.Tokens.{Lexeme, kind, token_of, place_of, question, plus_sign, or_word}
use Rattle.notation.specs.Building.{Build, start}
use Rattle.notation.specs.Lexing.{tokens}
use Rattle.notation.specs.Grammar.{Symbol, sign, a_name, expression, operators, read_or_word, close_bracket, one, maybe, further, statements, block, otherwise, branches, items, class_rest, parameters, default_value, a_constant, inherits, parent, devices, device, more_devices, ends, manifest, stuck, to, step}
use Rattle.parse_table.specs.Codes.{symbol_of}
use Rattle.tree_builder.specs.declared.Building.{Building}
use Rattle.tree_builder.specs.Shows.{Ready}
use Rattle.text_places.specs.Marks.{start_of, body_of, size_of}
use Rattle.rules.specs.Types.{Types}

-- bytes were inserted from an offset on, by the token at a place
pub data Insertion : Type 0 where
  insertion : (from size place : ℕ) → Insertion

-- ---- Which token brought the field at an offset: the latest insertion comes first

unfoldable pub followed : List Insertion → (offset : ℕ) → ℕ
followed [] o = 0
followed (insertion q n p ∷ l) o = pick (leb (q + n) o) (followed l (o - n)) (pick (leb q o) p (followed l o))

-- each field that begins among some bytes is led to its place
pub record Leads (l : List Insertion) (marks : List ℕ) : Type 0 where
  pub leads : (offset place : ℕ) → at marks offset ≡ suc place → followed l offset ≡ place

-- ---- Where a token inserts

-- ?, or one of + - / > == = and or
unfoldable pub is_operator : (kind : ℕ) → Bool
is_operator k = eqb k question || (leb plus_sign k && leb k or_word)

-- sorts of symbols: 0 a sign or keyword that is no operator; 1 a name of a field or a parent, which come before the field's parts; 2 what may follow a bare word; 3 statements, items
-- and what may be an else, behind which no operator is taken; 4 the end of a field; 5 all others
abbrev pub sort : Symbol → ℕ
sort (sign k) = pick (is_operator k) 5 0
sort a_name = 1
sort (expression l) = 5
sort (operators l m) = 5
sort read_or_word = 2
sort close_bracket = 5
sort (one e) = 5
sort (maybe e) = 5
sort (further e) = 5
sort statements = 3
sort block = 5
sort otherwise = 3
sort branches = 5
sort items = 3
sort class_rest = 5
sort parameters = 5
sort default_value = 5
sort a_constant = 5
sort inherits = 5
sort parent = 1
sort devices = 5
sort device = 5
sort more_devices = 5
sort ends = 4

abbrev pub top_before_parts : List Symbol → Bool
top_before_parts [] = false
top_before_parts (s ∷ k) = eqb (sort s) 1

-- an operator comes before its left side, which is then the first part of the field being read; all else comes last
unfoldable pub inserted_at : (before_parts operator : Bool) → (body start size : ℕ) → ℕ
inserted_at b o body start size = pick b body (pick o start size)

-- the log behind a step from the tree f to g
unfoldable pub noted : List Symbol → Lexeme → (f g : Build) → List Insertion → List Insertion
noted k x f g l =
    pick (ltb (size_of f) (size_of g))
    (insertion (inserted_at (top_before_parts k) (is_operator (kind (token_of x))) (body_of f) (start_of g) (size_of f)) (size_of g - size_of f) (place_of x) ∷ l)
    l

-- the log behind some tokens: one entry for each that inserts
unfoldable pub logged : (types : Types) → List Lexeme → List Symbol → Build → List Insertion → List Insertion
logged types [] k f l = l
logged types (x ∷ xs) k f l = elim (step types k x f) as (λ o. List Insertion) [ stuck ↦ l | to k' g ↦ logged types xs k' g (noted k x f g l) ]

-- the log of a text
unfoldable pub text_log : (types : Types) (t : List ℕ) → List Insertion
text_log types t = logged types (tokens t) manifest start []

-- ---- The log in bytes: three for the offset, three for the size, two for the place

abbrev pub packed : (from size place : ℕ) → ℕ
packed q n p = q * 1099511627776 + (n * 65536 + p)

unfoldable pub unpacked : ℕ → Insertion
unpacked m = insertion (m / 1099511627776) (m / 65536 % 16777216) (m % 65536)

-- the first n entries, the last of them first
unfoldable pub log_in : (bytes : List ℕ) → (n : ℕ) → List Insertion
log_in m zero = []
log_in m (suc n) = unpacked (number (bytes_at m (8 * n) 8) 0) ∷ log_in m n

-- the log behind a token, by the state before it and behind it
unfoldable pub noted_by : (symbol kind place : ℕ) → (before behind : Building) → List Insertion → List Insertion
noted_by y k p s r l =
    pick (ltb s.fill r.fill) (insertion (inserted_at (eqb (sort (symbol_of y)) 1) (is_operator k) s.body r.start s.fill) (r.fill - s.fill) p ∷ l) l

-- what noting it asks for
pub record Notable (entries place : ℕ) (before behind : Building) : Type 0 where
  pub few : entries ≤ 65536
  pub small : place < 65536
  pub ready : Ready before
  pub ready_behind : Ready behind

-- what it does: there is one entry more, or none. All are counted, and they are in the log if it has room for them
pub record Noted (log₀ log : List ℕ) (entries r : ℕ) (noting : List Insertion → List Insertion) : Type 0 where
  pub is : 8 * r ≤ length log → log_in log r ≡ noting (log_in log₀ entries)
  pub count : (l : List Insertion) → length l ≡ entries → length (noting l) ≡ r
  pub size : length log ≡ length log₀
  pub no_less : entries ≤ r
  pub more : r ≤ entries + 1
