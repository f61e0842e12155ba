-- The words in the working memory: which constants are struck out, which attribute is asked about, and what a store of a word changes.
use Rattle.std.specs.Prelude.{ℕ, ◌+◌, ◌*◌, ◌≤◌, ◌<◌, ◌≡◌, Bool, ◌&&◌, List, eqb, ltb}
use Rattle.wire.specs.Bytes.{byte, two}
use Rattle.rules.specs.Tree.{Constant}
use Rattle.rules.specs.State.{Entry, Known}
use Rattle.cells.specs.Layout.{words_at, rest_of}
use Rattle.cells.specs.Memory.{names_of, state_of, Fine}

-- word i; the first is the title's
unfoldable pub word_of : List ℕ → (i : ℕ) → ℕ
word_of w i = two (rest_of w) (2 * i)

-- a word is stored, and all else stays
pub record WordSet (w w' : List ℕ) (i value : ℕ) : Type 0 where
  pub set : word_of w' i ≡ value
  pub others : (j : ℕ) → j < 15 → (j ≡ i → ⊥) → word_of w' j ≡ word_of w j
  pub state : (es : List Entry) (n r : ℕ) → state_of w' es n r ≡ state_of w es n r
  pub names : names_of w' ≡ names_of w
  pub fine : Fine w → Fine w'
  pub after : (k : ℕ) → words_at + 30 ≤ k → byte w' k ≡ byte w k

-- ---- Constants struck out: those with a label before a place

abbrev pub strike_label : ℕ
strike_label = 1

abbrev pub strike_end : ℕ
strike_end = 2

-- the attribute asked about: one more than its resource's type, or 0 for none; title, name, and the label; and what was found out about it
abbrev pub asked_type : ℕ
asked_type = 3

abbrev pub asked_title : ℕ
asked_title = 4

abbrev pub asked_name : ℕ
asked_name = 5

abbrev pub asked_label : ℕ
asked_label = 6

abbrev pub note_word : ℕ
note_word = 7

unfoldable pub struck_at : List ℕ → (label place : ℕ) → Bool
struck_at w label place = eqb label (word_of w strike_label) && ltb place (word_of w strike_end)

unfoldable pub struck_in : List ℕ → Constant → Bool
struck_in w v = struck_at w v.label v.place

-- what is known has the constants struck out that the memory w says
abbrev pub StrikesAs : Known → List ℕ → Type 0
StrikesAs k w = (v : Constant) → k.struck_out v ≡ struck_in w v
