-- Where everything stands in the working memory, and what is read there: 512 slots for cells, the trail, a record for each of 1,024 names, and the
-- links of the slots.
use Rattle.std.specs.Prelude.{ℕ, ◌+◌, ◌*◌, ◌%◌, ◌≤◌, ◌<◌, Bool, false, List, eqb, ltb, drop}
use Rattle.std.proofs.Math.Option.{Option, none}
use Rattle.labels.specs.declared.Labels.{Labels}
use Rattle.labels.specs.Sets.{no_labels}
use Rattle.labels.specs.Bytes.{set_at}
use Rattle.wire.specs.Bytes.{pick, byte, two}
use Rattle.values.specs.declared.Labelled.{Labelled}
use Rattle.records.specs.Record.{content_at, record_in}
use Rattle.cells.specs.Chains.{counted, leads_to, Way}

-- ---- Places

-- slot i: its state, 1 byte
abbrev pub state_at : ℕ → ℕ
state_at i = i

-- its key: scope number 2 bytes, name 2 bytes
abbrev pub key_at : ℕ → ℕ
key_at i = 512 + 4 * i

abbrev pub key_name : ℕ
key_name = 2

abbrev pub key_size : ℕ
key_size = 4

-- its body: the record of its value, 48 bytes, and its mark, 32
abbrev pub body_at : ℕ → ℕ
body_at i = 2560 + 80 * i

abbrev pub body_size : ℕ
body_size = 80

abbrev pub body_mark : ℕ
body_mark = 48

-- where the slots end, and the trail stands: 32 bytes
abbrev pub trail_at : ℕ
trail_at = 43520

-- the record of name k: the head of chain k 2 bytes, definition's place 2, class 1, built-in 1, parent's scope number 2
abbrev pub record_at : ℕ → ℕ
record_at k = 43552 + 8 * k

abbrev pub name_definition : ℕ
name_definition = 2

abbrev pub name_class : ℕ
name_class = 4

abbrev pub name_built_in : ℕ
name_built_in = 5

abbrev pub name_parent : ℕ
name_parent = 6

abbrev pub name_size : ℕ
name_size = 8

-- the link of slot i: 2 bytes
abbrev pub link_at : ℕ → ℕ
link_at i = 51744 + 2 * i

-- the hint, 2 bytes: where a slot never used may be found
abbrev pub hint_at : ℕ
hint_at = 52768

-- fifteen words of 2 bytes, which belong to others
abbrev pub words_at : ℕ
words_at = 52770

-- summary i: one more than the place of a condition 2 bytes, the levels left for it 1, whether it declares 1, and its names, sixteen numbers of 8 bytes
abbrev pub summary_at : ℕ → ℕ
summary_at i = 52800 + 132 * i

abbrev pub summary_depth : ℕ
summary_depth = 2

abbrev pub summary_declares : ℕ
summary_declares = 3

abbrev pub summary_names : ℕ
summary_names = 4

abbrev pub summary_size : ℕ
summary_size = 132

-- the index over the catalog: the head of chain b, 2 bytes
abbrev pub head_at : ℕ → ℕ
head_at b = 54912 + 2 * b

abbrev pub most_chains : ℕ
most_chains = 1856

-- how many records there are, 2 bytes
abbrev pub count_at : ℕ
count_at = 58624

-- record i: a place 2 bytes, and the next record of its chain 2
abbrev pub index_at : ℕ → ℕ
index_at i = 58626 + 4 * i

abbrev pub index_link : ℕ
index_link = 2

abbrev pub most_records : ℕ
most_records = 1680

-- ---- What is read there

-- n entries read one by one; past them there are only blank ones
unfoldable pub table : {A : Type 0} → (n : ℕ) → (ℕ → A) → (blank : A) → ℕ → A
table n f blank i = pick (ltb i n) (f i) blank

-- the entries with another one at i
unfoldable pub put_at : {A : Type 0} → ℕ → A → (ℕ → A) → ℕ → A
put_at i x f = λ j. pick (eqb j i) x (f j)

-- ---- Chains: a slot is found from its key

abbrev pub name_in : List ℕ → ℕ → ℕ
name_in w i = two w (key_at i + key_name)

-- the chain of a key, one of 1,024: in scopes that follow each other, a name is in chains that follow each other
unfoldable pub chain_of : (scope name : ℕ) → ℕ
chain_of s n = (s + n) % 1024

abbrev pub chain_in : List ℕ → ℕ → ℕ
chain_in w i = chain_of (two w (key_at i)) (name_in w i)

-- where the link of slot p stands; that of 512 is the head of the chain
unfoldable pub place_at : (chain p : ℕ) → ℕ
place_at c p = pick (ltb p 512) (link_at p) (record_at c)

-- past the chains there are no heads
unfoldable pub link_in : List ℕ → (chain p : ℕ) → ℕ
link_in w c p = pick (ltb p 512) (two w (link_at p)) (pick (ltb c 1024) (two w (record_at c)) 0)

-- what follows slot p in a chain
unfoldable pub next_in : List ℕ → (chain p : ℕ) → ℕ
next_in w c p = counted (chain_in w) c p (link_in w c p)

unfoldable pub chained : List ℕ → (chain slot : ℕ) → Bool
chained w c i = leads_to (next_in w c) 512 (next_in w c 512) i

-- the last slot of a chain whose number is above j, or 512
pub record LastAbove (w : List ℕ) (chain j p : ℕ) : Type 0 where
  pub way : Way (next_in w chain) p
  pub above : j < p
  pub last : next_in w chain p ≤ j + 1

-- ---- Slots

-- reached: whether the chain of its key has the slot. state: 0 never used, 1 in use, 5 freed
pub data Slot : Type 0 where
  slot : (reached : Bool) → (state scope name : ℕ) → (content : Option Labelled) → (mark : Labels) → Slot

unfoldable pub blank_slot : Slot
blank_slot = slot false 0 0 0 none no_labels

unfoldable pub slot_at : List ℕ → ℕ → Slot
slot_at w i = slot (chained w (chain_in w i) i) (byte w (state_at i)) (two w (key_at i)) (name_in w i) (record_in w (body_at i)) (set_at w (body_at i + body_mark))

unfoldable pub slots_of : List ℕ → ℕ → Slot
slots_of w = table 512 (slot_at w) blank_slot

-- what slot i holds, if it has a value
abbrev pub content_in : List ℕ → ℕ → Labelled
content_in w i = content_at w (body_at i)

-- ---- What stands beside them

unfoldable pub trail_of : List ℕ → Labels
trail_of w = set_at w trail_at

-- class: 0 not declared; 1 declared with base top, 2 with base node. definition: 0 none
pub data NameRecord : Type 0 where
  name_record : (definition class built_in parent : ℕ) → NameRecord

unfoldable pub blank_record : NameRecord
blank_record = name_record 0 0 0 0

unfoldable pub name_at : List ℕ → ℕ → NameRecord
name_at w k = name_record (two w (record_at k + name_definition)) (byte w (record_at k + name_class)) (byte w (record_at k + name_built_in)) (two w (record_at k + name_parent))

unfoldable pub records_of : List ℕ → ℕ → NameRecord
records_of w = table 1024 (name_at w) blank_record

-- the bytes of others: the words and what follows them
unfoldable pub rest_of : List ℕ → List ℕ
rest_of w = drop words_at w

-- all that a store at a slot leaves as it is
pub record Beside : Type 0 where
  pub trail : Labels
  pub records : ℕ → NameRecord
  pub rest : List ℕ

unfoldable pub beside_slots : List ℕ → Beside
beside_slots w = record { trail = trail_of w; records = records_of w; rest = rest_of w }
