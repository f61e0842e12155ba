-- When the state, the slots and the output stand for a tree in the making, and what an action's answer says.
use Rattle.std.specs.Prelude.{ℕ, suc, ◌+◌, ◌≤◌, ◌<◌, max, ◌≡◌, List, [], ◌∷◌, true, ℤ, length, Option as CodeOption, Some, None}
use Rattle.std.proofs.Math.Option.{Option, none, some}
use Rattle.wire.specs.Bytes.{byte as at}
use Rattle.rules.specs.Compile.{string_number}
use Rattle.rules.specs.Types.{Types}
use Rattle.notation.specs.Building.{Piece, byte, name, Nodes, empty, ◌▸◌, leaf, height, tallest, Frame, frame, Build, build, Action, act, constant_node, variable_node, spelled}
use Rattle.notation.specs.Tokens.{Lexeme, lexeme, number, token_of}
use Rattle.notation.specs.Grammar.{or_zero}
use Rattle.notation.specs.Convert.{label_in}
use Rattle.tree_builder.specs.declared.Building.{Building}
use Rattle.tree_builder.specs.Open.{low, Holds, around_bytes, head_end, open_bytes, late_open, late_number}
use Rattle.tree_builder.specs.State.{slot_in, slot_number}

unfoldable pub number_in : (table : List (List ℕ)) → List ℕ → ℕ
number_in table w = or_zero (string_number w table 0)

module _ (table : List (List ℕ)) where
  -- the slot of a field around one of height h: an operator takes the last part into a new field, and the stored height may still count it
  pub record Slot (frames : List ℕ) (h tag : ℕ) (head : List Piece) (parts : Nodes) (around : List Frame) : Type 0 where
    pub tall : ℕ
    pub kept : slot_in frames (length around) ≡ slot_number (length (around_bytes table around)) (length (head_end table tag head around)) tall
    pub deep : length around + tall ≤ 32
    pub exact : max tall h ≡ max (tallest parts) h
    pub label : label_in head ≤ 255

  unfoldable pub Around : (frames : List ℕ) → (h : ℕ) → List Frame → Type 0
  Around m h [] = Unit {0}
  Around m h (frame q u g js ∷ fs) = Slot m h u g js fs × Around m (suc (max (tallest js) h)) fs

  module _ (s : Building) where
    -- the last part: where it starts, and how high it is
    unfoldable pub LastPart : (tag : ℕ) → List Piece → Nodes → List Frame → Type 0
    LastPart t h empty fs = Unit {0}
    LastPart t h (ks ▸ k) fs = (s.last ≡ length (open_bytes table t h ks fs)) × (s.height ≡ height k)

    -- the last part is a string constant: its name's number, and the first late constant before it
    pub record LastWord (parts : Nodes) (around : List Frame) : Type 0 where
      pub kept : Nodes
      pub place : ℕ
      pub line : ℕ
      pub spelled : List ℕ
      pub is : parts ≡ kept ▸ leaf place 0x11 (byte line ∷ name spelled ∷ [])
      pub number : s.name ≡ number_in table spelled
      pub before : s.before ≡ late_number (late_open kept around)

    pub record Shown (frames out : List ℕ) (brackets tag : ℕ) (head : List Piece) (parts : Nodes) (around : List Frame) : Type 0 where
      pub rounds : s.brackets ≡ brackets
      pub depth : s.depth ≡ length around
      pub fill : s.fill ≡ length (open_bytes table tag head parts around)
      pub start : s.start ≡ length (around_bytes table around)
      pub body : s.body ≡ length (head_end table tag head around)
      pub tall : s.tallest ≡ tallest parts
      pub deep : s.depth + s.tallest ≤ 32
      pub last : LastPart tag head parts around
      pub within : s.last ≤ s.fill
      pub high : s.height ≤ 32
      pub late : s.late ≡ late_number (late_open parts around)
      pub word : s.word ≡ true → LastWord parts around
      pub label : label_in head ≤ 255
      pub slots : Around frames (suc (tallest parts)) around
      pub bytes : Holds out (low (open_bytes table tag head parts around))

    unfoldable pub Shows : (frames out : List ℕ) → Build → Type 0
    Shows m out (build b (frame p t h ks) fs) = Shown m out b t h ks fs

  -- what was to come of an action came, and is shown; of an output that was filled so far, a few bytes more are filled, and those behind are as they were
  pub record Made (filled : ℕ) (given : List ℕ) (s : Building) (frames out : List ℕ) (wanted : Option Build) : Type 0 where
    pub made : Build
    pub is : wanted ≡ some made
    pub shows : Shows s frames out made
    pub grown : s.fill ≤ filled + 12
    pub behind : (i : ℕ) → filled ≤ i → s.fill ≤ i → at out i ≡ at given i

  -- the answer is no exactly where nothing comes of the action
  unfoldable pub Answers : (filled : ℕ) → (given : List ℕ) → CodeOption Building → (frames out : List ℕ) → (wanted : Option Build) → Type 0
  Answers n given None m out o = o ≡ none
  Answers n given (Some s) m out o = Made n given s m out o

-- an action at any token of which P holds: from whatever tree the state, the slots and the output stand for, to what the answer says
unfoldable pub DoesAt : Types → (P : (table : List (List ℕ)) → Lexeme → Type 0) → Action → Building → (frames out : List ℕ) → CodeOption Building → (frames' out' : List ℕ) → Type 0
DoesAt types P a s m out r m' out' = (table : List (List ℕ)) (f : Build) (x : Lexeme) → P table x → Shows table s m out f → Answers table s.fill out r m' out' (act types a x f)

-- whatever types are built in: a field's tag is handed in
abbrev pub Does : (P : (table : List (List ℕ)) → Lexeme → Type 0) → Action → Building → (frames out : List ℕ) → CodeOption Building → (frames' out' : List ℕ) → Type 0
Does P a s m out r m' out' = (types : Types) → DoesAt types P a s m out r m' out'

abbrev pub AnyToken : List (List ℕ) → Lexeme → Type 0
AnyToken table x = Unit {0}

-- ---- Tokens, by what a call tells of them

unfoldable pub AnInteger : (line place : ℕ) → ℤ → List (List ℕ) → Lexeme → Type 0
AnInteger l p z table x = x ≡ lexeme p l (number z)

unfoldable pub ABoolean : (line place value : ℕ) → List (List ℕ) → Lexeme → Type 0
ABoolean l p v table x = constant_node x ≡ leaf p 0x12 (byte l ∷ byte v ∷ [])

-- a word or a text
pub record AString (line place n : ℕ) (table : List (List ℕ)) (x : Lexeme) : Type 0 where
  pub spelled : List ℕ
  pub number : n ≡ number_in table spelled
  pub is : constant_node x ≡ leaf place 0x11 (byte line ∷ name spelled ∷ [])

pub record AVariable (tag n : ℕ) (table : List (List ℕ)) (x : Lexeme) : Type 0 where
  pub place : ℕ
  pub spelled : List ℕ
  pub number : n ≡ number_in table spelled
  pub is : variable_node x ≡ leaf place tag (name spelled ∷ [])

pub record AClassVariable (class n : ℕ) (table : List (List ℕ)) (x : Lexeme) : Type 0 where
  pub place : ℕ
  pub scope : List ℕ
  pub spelled : List ℕ
  pub outer : class ≡ number_in table scope
  pub number : n ≡ number_in table spelled
  pub is : variable_node x ≡ leaf place 0x15 (name scope ∷ name spelled ∷ [])

-- the name in the token
unfoldable pub AName : (n : ℕ) → List (List ℕ) → Lexeme → Type 0
AName n table x = n ≡ number_in table (spelled (token_of x))

-- the last part is a string constant just read
unfoldable pub IsWord : CodeOption Building → Type 0
IsWord None = Unit {0}
IsWord (Some s) = s.word ≡ true

-- what every action needs, so that its sums and places are in range; it holds of a state that shows something (proofs/Ready.antt)
pub record Ready (s : Building) : Type 0 where
  pub fill : s.fill ≤ 1048576
  pub depth : s.depth ≤ 32
  pub tall : s.tallest ≤ 32
  pub start : s.start ≤ s.fill
  pub header : 0 < s.depth → s.start + 3 ≤ s.fill
  pub body : s.body ≤ s.fill
  pub last : s.last ≤ s.fill
  pub height : s.height ≤ 32
