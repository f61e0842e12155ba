-- The node that runs, in the tree: for a sound manifest, the items that `items_for` leaves are those read at the places that `running` leaves.
use Prim.Native.Nat.{ℕ, zero, suc, ◌+◌, ◌-◌, ◌<◌, ◌≤◌}
use mathlib.Core.Path.{◌≡◌, refl, sym, ap, subst, ◌∙◌}
use mathlib.Core.Bool.{Bool, true, false, ◌||◌}
use mathlib.Core.List.{List, [], ◌∷◌}
use mathlib.Core.Option.{Option, none, some}
use native.Mathlib.Omega.{arith}
use lib.Dec.{eqb, ltb}
use lib.ListN.{length, take as take_bytes}
use lib.Seq.{slice, get_or-drop, get_or-take}
use borrow.Author.Tests.{ltb-true, ltb-false, eqb-true, eqb-false, eq-eqb, ne_eqb}
use Rattle.wire.proofs.Fields.{no_fields, field_first}
use Rattle.rules.specs.Bytes.{pick, byte, two, end_of, fields_in}
use Rattle.rules.specs.Format.{three, forms, form_in, form_of, size, head_size, part_may_end, may_end, rest_right, length_right}
use Rattle.rules.specs.Check.{walk, inside, check}
use Rattle.rules.specs.Fields.{Field, field, Fields, more, read_each, read_body, read_field, read_all, head_of, tag_of, inner, first, others}
use Rattle.rules.specs.Tree.{Statement, Definition, Block, Devices, named, by_default, Item, statement, node, definition}
use Rattle.rules.specs.Read.{entry_for, is_default, last_block, names_from, devices_from, ItemTag, a_node, a_type_definition, a_class_definition, a_statement, item_tags, item_by, item_from, items_from, manifest_from, manifest_of}
use Rattle.rules.specs.State.{is_some}
use Rattle.rules.specs.Evaluate.{any}
use Rattle.rules.specs.Compile.{same_bytes, string_at, names, is_default_node, without_nodes, with_node, is_node, items_for}
use Rattle.rules.specs.declared.Kind.TheVariants.{Block as ABlock}
use Rattle.rules.specs.declared.Part.TheVariants.{Over, One, Names}
use Rattle.rules.specs.declared.Parts.{Parts}
use Rattle.rules.specs.declared.Rest.TheVariants.{Only, Fields as Inner}
use Rattle.rules.proofs.Within.{false_not_true, first_field, none_missing, inside_sound, level_left, check_sound, shape_sound}
use Rattle.syntax.specs.Strings.{string_texts}
use Rattle.syntax.specs.Nodes.{item_places, some_names, names_device, is_default_at, first_at, or_first, node_for, runs_at, running}
use Rattle.syntax.proofs.StringsRead.{tag_at, strings_read, table_ends}
use Rattle.rules.specs.Verdicts.{no_fault}

-- ---- One item of the tree

-- an item that is no node
data Plain : Item → Type 0 where
  plain_statement : {s : Statement} → Plain (statement s)
  plain_definition : {d : Definition} → Plain (definition d)

plain_item : (k : Field) → (tag_of k ≡ 0x30 → ⊥) → Plain (item_from k)
unfolding tag_of item_from item_by entry_for item_tags
plain_item (field p t h ks) n = go (eqb t 0x30) refl (eqb t 0x32) (eqb t 0x34)
  where
    go : (a : Bool) → eqb t 0x30 ≡ a → (b c : Bool) → Plain (item_by (field p t h ks) p h ks (elim a [ true ↦ a_node | false ↦ elim b [ true ↦ a_type_definition | false ↦ elim c [ true ↦ a_class_definition | false ↦ a_statement ] ] ]))
    go true e b c = absurd (n (eqb-true t 0x30 e))
    go false e true c = plain_definition
    go false e false true = plain_definition
    go false e false false = plain_statement

node_item : (k : Field) → tag_of k ≡ 0x30 → item_from k ≡ node (devices_from (inner k)) (last_block (inner k))
unfolding tag_of item_from item_by entry_for item_tags inner
node_item (field p t h ks) e = ap (λ (i : ItemTag). item_by (field p t h ks) p h ks i) (ap (entry_for item_tags a_statement) e)

-- ---- One field read

node_line : {t : ℕ} → t ≡ 0x30 → (form_of t).rest ≡ Inner (three Names (One ABlock) Over)
unfolding form_of form_in forms
node_line e = ap (λ (t : ℕ). (form_of t).rest) e

node_pieces : {t : ℕ} → t ≡ 0x30 → head_size (form_of t) ≡ 0
unfolding form_of form_in forms head_size size
node_pieces e = ap (λ (t : ℕ). head_size (form_of t)) e

node_inner : (m : List ℕ) (d p : ℕ) → byte m p ≡ 0x30 → inner (read_field m (suc d) p) ≡ read_each (read_field m d) (fields_in m (p + 3) (end_of m p))
unfolding read_field read_body inner
node_inner m d p is = let z : p + 3 + 0 ≡ p + 3 = omega arith in rw (node_pieces is, node_line is, z)

name_line : {t : ℕ} → t ≡ 0x31 → (form_of t).rest ≡ Only
unfolding form_of form_in forms
name_line e = ap (λ (t : ℕ). (form_of t).rest) e

name_length : {t n : ℕ} → t ≡ 0x31 → length_right (form_of t) n ≡ true → n ≡ 2
unfolding length_right rest_right form_of form_in forms head_size size
name_length {t} {n} e w = eqb-true n 2 (subst (λ (t : ℕ). length_right (form_of t) n ≡ true) e w)

slice_byte : (m : List ℕ) (f t i : ℕ) → f + i < t → byte (slice f t m) i ≡ byte m (f + i)
slice_byte m f t i h = get_or-drop f (take_bytes t m) i 0 ∙ get_or-take t m (f + i) 0 h

-- two bytes of a part
slice_two : (m : List ℕ) (f t : ℕ) → f + 1 < t → two (slice f t m) 0 ≡ two m f
unfolding two
slice_two m f t h =
    let start : f + 0 ≡ f = omega arith in
    let one : byte (slice f t m) 0 ≡ byte m f = slice_byte m f t 0 (omega arith) ∙ ap (λ (i : ℕ). byte m i) start in
    let next : byte (slice f t m) (0 + 1) ≡ byte m (f + 1) = slice_byte m f t 1 h in
    cc

-- the name in a 31
name_read : (m : List ℕ) (d q : ℕ) → byte m q ≡ 0x31 → 0 < d → length_right (form_of (byte m q)) (two m (q + 1)) ≡ true → two (head_of (read_field m d q)) 0 ≡ two m (q + 3)
unfolding read_field read_body head_of
name_read m zero q is u w = absurd (omega arith)
name_read m (suc d) q is u w = let n = name_length is w in rw (name_line is) (slice_two m (q + 3) (end_of m q) (omega arith))

-- ---- The names of one node

names_by : (k : Field) (ks : Fields) → names_from (more k ks) ≡ pick (eqb (tag_of k) 0x31) (two (head_of k) 0 ∷ names_from ks) []
unfolding names_from
names_by k ks = go (eqb (tag_of k) 0x31)
  where
    go : (b : Bool) → elim b [ true ↦ two (head_of k) 0 ∷ names_from ks | false ↦ [] ] ≡ pick b (two (head_of k) 0 ∷ names_from ks) []
    go true = refl
    go false = refl

module _ (m device : List ℕ) where
  -- the string with a number is the device's name
  is_device : ℕ → Bool
  is_device n = same_bytes (string_at (string_texts m) n) device

  module _ (d p e : ℕ) where
    no_names_left : (q : ℕ) → e ≤ q → any is_device (names_from (read_each (read_field m d) (fields_in m q e))) ≡ some_names m device (fields_in m q e)
    unfolding read_each names_from any some_names
    no_names_left q h = rw (no_fields m q e h)

    one_more_name : (q : ℕ) → q < e → 0 < d → length_right (form_of (byte m q)) (two m (q + 1)) ≡ true → any is_device (names_from (read_each (read_field m d) (fields_in m (end_of m q) e))) ≡ some_names m device (fields_in m (end_of m q) e) → any is_device (names_from (read_each (read_field m d) (fields_in m q e))) ≡ some_names m device (fields_in m q e)
    unfolding read_each any some_names is_device
    one_more_name q l u w ih = rw (field_first m q e l, names_by (read_field m d q) (read_each (read_field m d) (fields_in m (end_of m q) e)), tag_at m d q u) (go (eqb (byte m q) 0x31) refl)
      where
        go : (b : Bool) → eqb (byte m q) 0x31 ≡ b → any is_device (pick b (two (head_of (read_field m d q)) 0 ∷ names_from (read_each (read_field m d) (fields_in m (end_of m q) e))) []) ≡ pick b (is_device (two m (q + 3)) || some_names m device (fields_in m (end_of m q) e)) false
        go true h = let n = name_read m d q (eqb-true _ _ h) u w in rw (n, ih)
        go false h = refl

    names_read : (k : ℕ) (ps : Parts) (q : ℕ) → e - q ≤ k → walk m (inside m d) p ps e (fields_in m q e) ≡ no_fault → any is_device (names_from (read_each (read_field m d) (fields_in m q e))) ≡ some_names m device (fields_in m q e)
    names_read zero ps q b w = no_names_left q (omega arith)
    names_read (suc k) ps q b w = go (λ x r c v. names_read k x r c v) (ltb q e) refl
      where
        go : ((ps : Parts) (q : ℕ) → e - q ≤ k → walk m (inside m d) p ps e (fields_in m q e) ≡ no_fault → any is_device (names_from (read_each (read_field m d) (fields_in m q e))) ≡ some_names m device (fields_in m q e)) → (t : Bool) → ltb q e ≡ t → any is_device (names_from (read_each (read_field m d) (fields_in m q e))) ≡ some_names m device (fields_in m q e)
        go others_read false t = no_names_left q (ltb-false q e t)
        go others_read true t =
            let l : q < e = ltb-true q e t in
            let f = first_field m (inside m d) p ps q e l w in
            one_more_name q l (level_left m d q f.sound) f.right.size (others_read f.next (end_of m q) (omega arith) f.others)

-- ---- The devices of one node

devices_by : (ks : Fields) → devices_from ks ≡ pick (is_default (first ks)) by_default (named (names_from ks))
unfolding devices_from
devices_by ks = go (is_default (first ks))
  where
    go : (b : Bool) → elim b [ true ↦ by_default | false ↦ named (names_from ks) ] ≡ pick b by_default (named (names_from ks))
    go true = refl
    go false = refl

first_default_lem : (m : List ℕ) (d q e : ℕ) → q < e → 0 < d → is_default (first (read_each (read_field m d) (fields_in m q e))) ≡ eqb (byte m q) 0x1b
unfolding read_each first is_default
first_default_lem m d q e l u = rw (field_first m q e l, tag_at m d q u)

-- a default is no name
default_names_none : (m device : List ℕ) (q e : ℕ) → q < e → byte m q ≡ 0x1b → false ≡ some_names m device (fields_in m q e)
unfolding some_names
default_names_none m device q e l is = rw (field_first m q e l, is)

-- the fields of a sound node: the first is there, and the walk over all is Sound
record NodeBody (m : List ℕ) (d p : ℕ) : Type 0 where
  there : p + 3 < end_of m p
  level : 0 < d
  walked : walk m (inside m d) p (three Names (One ABlock) Over) (end_of m p) (fields_in m (p + 3) (end_of m p)) ≡ no_fault

node_body : (m : List ℕ) (d p : ℕ) → byte m p ≡ 0x30 → inside m (suc d) p ≡ no_fault → NodeBody m d p
unfolding may_end part_may_end
node_body m d p is s = go (ltb (p + 3) (end_of m p)) refl
  where
    start : p + 3 + 0 ≡ p + 3
    start = omega arith

    w : walk m (inside m d) p (three Names (One ABlock) Over) (end_of m p) (fields_in m (p + 3) (end_of m p)) ≡ no_fault
    w = rw start at (rw (node_pieces is) at ((inside_sound m d p s).fields (three Names (One ABlock) Over) (node_line is)))

    go : (t : Bool) → ltb (p + 3) (end_of m p) ≡ t → NodeBody m d p
    go false t = let z : false ≡ true = none_missing m (inside m d) p (three Names (One ABlock) Over) (p + 3) (end_of m p) (ltb-false _ _ t) w in false_not_true z
    go true t =
        let l : p + 3 < end_of m p = ltb-true _ _ t in
        let f = first_field m (inside m d) p (three Names (One ABlock) Over) (p + 3) (end_of m p) l w in
        record { there = l; level = level_left m d (p + 3) f.sound; walked = w }

module _ (m : List ℕ) (d p : ℕ) (is : byte m p ≡ 0x30) (s : inside m (suc d) p ≡ no_fault) where
  node_devices : devices_from (inner (read_field m (suc d) p)) ≡ pick (eqb (byte m (p + 3)) 0x1b) by_default (named (names_from (read_each (read_field m d) (fields_in m (p + 3) (end_of m p)))))
  node_devices =
      let b = node_body m d p is s in
      rw (node_inner m d p is, devices_by (read_each (read_field m d) (fields_in m (p + 3) (end_of m p))), first_default_lem m d (p + 3) (end_of m p) b.there b.level)

  names_node : (device : List ℕ) → names (string_texts m) device (devices_from (inner (read_field m (suc d) p))) ≡ names_device m device p
  unfolding names names_device is_device
  names_node device =
      let b = node_body m d p is s in
      rw (node_devices, eq-eqb _ _ is) (go b.there (eqb (byte m (p + 3)) 0x1b) refl (names_read m device d p (end_of m p) (end_of m p) (three Names (One ABlock) Over) (p + 3) (omega arith) b.walked))
    where
      go : p + 3 < end_of m p → (t : Bool) → eqb (byte m (p + 3)) 0x1b ≡ t → any (is_device m device) (names_from (read_each (read_field m d) (fields_in m (p + 3) (end_of m p)))) ≡ some_names m device (fields_in m (p + 3) (end_of m p)) → names (string_texts m) device (pick t by_default (named (names_from (read_each (read_field m d) (fields_in m (p + 3) (end_of m p)))))) ≡ some_names m device (fields_in m (p + 3) (end_of m p))
      go l true h r = default_names_none m device (p + 3) (end_of m p) l (eqb-true _ _ h)
      go l false h r = r

  default_node_lem : is_default_node (devices_from (inner (read_field m (suc d) p))) ≡ is_default_at m p
  unfolding is_default_node is_default_at
  default_node_lem = rw (node_devices, eq-eqb _ _ is) (go (eqb (byte m (p + 3)) 0x1b))
    where
      go : (t : Bool) → is_default_node (pick t by_default (named (names_from (read_each (read_field m d) (fields_in m (p + 3) (end_of m p)))))) ≡ t
      go true = refl
      go false = refl

-- ---- One item, by a test g of the devices and the same test G by place

record ItemAt (m : List ℕ) (g : Devices → Bool) (G : ℕ → Bool) (p : ℕ) : Type 0 where
  plain : (byte m p ≡ 0x30 → ⊥) → Plain (item_from (read_field m 32 p)) × (G p ≡ false)
  devices : Devices
  block : Block
  is_node_item : byte m p ≡ 0x30 → (item_from (read_field m 32 p) ≡ node devices block) × (g devices ≡ G p)

item_at_lem : (m : List ℕ) (g : Devices → Bool) (G : ℕ → Bool) (p : ℕ) → ((byte m p ≡ 0x30 → ⊥) → G p ≡ false) → (byte m p ≡ 0x30 → g (devices_from (inner (read_field m 32 p))) ≡ G p) → ItemAt m g G p
item_at_lem m g G p a b =
    let t = tag_at m 32 p (omega arith) in
    record {
      plain = λ n. (plain_item (read_field m 32 p) (λ e. n (sym t ∙ e)), a n);
      devices = devices_from (inner (read_field m 32 p));
      block = last_block (inner (read_field m 32 p));
      is_node_item = λ e. (node_item (read_field m 32 p) (t ∙ e), b e);
    }

names_at : (m device : List ℕ) (p : ℕ) → inside m 32 p ≡ no_fault → ItemAt m (names (string_texts m) device) (names_device m device) p
unfolding names_device
names_at m device p s = item_at_lem m (names (string_texts m) device) (names_device m device) p (λ n. rw (ne_eqb _ _ n)) (λ e. names_node m 31 p e s device)

default_at_lem : (m : List ℕ) (p : ℕ) → inside m 32 p ≡ no_fault → ItemAt m is_default_node (is_default_at m) p
unfolding is_default_at
default_at_lem m p s = item_at_lem m is_default_node (is_default_at m) p (λ n. rw (ne_eqb _ _ n)) (λ e. default_node_lem m 31 p e s)

-- ---- Which items run

-- the item at p is not the one chosen
data Other (p : ℕ) : Option ℕ → Type 0 where
  none_chosen : Other p none
  other_chosen : {q : ℕ} → (p ≡ q → ⊥) → Other p (some q)

module _ (m : List ℕ) (p : ℕ) where
  plain_runs : (c : Option ℕ) → (byte m p ≡ 0x30 → ⊥) → runs_at m c p ≡ true
  unfolding runs_at
  plain_runs none n = rw (ne_eqb _ _ n)
  plain_runs (some q) n = rw (ne_eqb _ _ n)

  other_stays : {c : Option ℕ} → byte m p ≡ 0x30 → Other p c → runs_at m c p ≡ false
  unfolding runs_at
  other_stays is none_chosen = rw (eq-eqb _ _ is)
  other_stays is (other_chosen n) = rw (eq-eqb _ _ is, ne_eqb _ _ n)

  chosen_runs : byte m p ≡ 0x30 → runs_at m (some p) p ≡ true
  unfolding runs_at
  chosen_runs is = rw (eq-eqb _ _ is, eq-eqb p p refl)

-- the first that passes a test stands among those looked at
first_later : (G : ℕ → Bool) (m : List ℕ) (e k q p : ℕ) → e - q ≤ k → p < q → Other p (first_at G (fields_in m q e))
unfolding first_at
first_later G m e zero q p b h = rw (no_fields m q e (omega arith)) none_chosen
first_later G m e (suc k) q p b h = go (λ r c i. first_later G m e k r p c i) (ltb q e) refl
  where
    go : ((r : ℕ) → e - r ≤ k → p < r → Other p (first_at G (fields_in m r e))) → (t : Bool) → ltb q e ≡ t → Other p (first_at G (fields_in m q e))
    go later false t = rw (no_fields m q e (ltb-false q e t)) none_chosen
    go later true t =
        let l : q < e = ltb-true q e t in
        rw (field_first m q e l) (pass l (G q))
      where
        pass : q < e → (b : Bool) → Other p (pick b (some q) (first_at G (fields_in m (end_of m q) e)))
        pass l true = other_chosen {q = q} (λ x. omega arith)
        pass l false = later (end_of m q) (omega arith) (omega arith)

-- ---- A list of items, one further

node_by : (g : Devices → Bool) (ds : Devices) (b : Block) (is : List Item) → with_node g (node ds b ∷ is) ≡ pick (g ds) (node ds b ∷ without_nodes is) (with_node g is)
unfolding with_node
node_by g ds b is = go (g ds)
  where
    go : (t : Bool) → elim t [ true ↦ node ds b ∷ without_nodes is | false ↦ with_node g is ] ≡ pick t (node ds b ∷ without_nodes is) (with_node g is)
    go true = refl
    go false = refl

plain_with : (g : Devices → Bool) {i : Item} (is : List Item) → Plain i → with_node g (i ∷ is) ≡ i ∷ with_node g is
unfolding with_node
plain_with g is plain_statement = refl
plain_with g is plain_definition = refl

plain_without : {i : Item} (is : List Item) → Plain i → without_nodes (i ∷ is) ≡ i ∷ without_nodes is
unfolding without_nodes
plain_without is plain_statement = refl
plain_without is plain_definition = refl

plain_no_node : (g : Devices → Bool) {i : Item} → Plain i → is_node g i ≡ false
unfolding is_node
plain_no_node g plain_statement = refl
plain_no_node g plain_definition = refl

-- the items read at the places given
unfoldable read_items : List ℕ → List ℕ → List Item
read_items m ps = items_from (read_each (read_field m 32) ps)

one_item : (m : List ℕ) (q : ℕ) (rest : List ℕ) → read_items m (q ∷ rest) ≡ item_from (read_field m 32 q) ∷ read_items m rest
unfolding read_items items_from read_each
one_item m q rest = refl

module _ (m : List ℕ) (g : Devices → Bool) (G : ℕ → Bool) (q : ℕ) (rest : List ℕ) (i : ItemAt m g G q) where
  -- all nodes dropped but one that is not at q
  without_more : (c : Option ℕ) → Other q c → without_nodes (read_items m rest) ≡ read_items m (running m c rest) → without_nodes (read_items m (q ∷ rest)) ≡ read_items m (running m c (q ∷ rest))
  unfolding running without_nodes
  without_more c o ih = rw (one_item m q rest) (go (eqb (byte m q) 0x30) refl)
    where
      go : (b : Bool) → eqb (byte m q) 0x30 ≡ b → without_nodes (item_from (read_field m 32 q) ∷ read_items m rest) ≡ read_items m (pick (runs_at m c q) (q ∷ running m c rest) (running m c rest))
      go true h = rw (other_stays m q (eqb-true _ _ h) o, (i.is_node_item (eqb-true _ _ h)).0) ih
      go false h = rw (plain_runs m q c (eqb-false _ _ h), one_item m q (running m c rest), plain_without (read_items m rest) (i.plain (eqb-false _ _ h)).0, ih)

  -- all nodes dropped but the first that passes the test
  with_more : Other q (first_at G rest) → without_nodes (read_items m rest) ≡ read_items m (running m (some q) rest) → with_node g (read_items m rest) ≡ read_items m (running m (first_at G rest) rest) → with_node g (read_items m (q ∷ rest)) ≡ read_items m (running m (first_at G (q ∷ rest)) (q ∷ rest))
  unfolding running first_at
  with_more o after ih = rw (one_item m q rest) (go (eqb (byte m q) 0x30) refl (G q) refl)
    where
      go : (b : Bool) → eqb (byte m q) 0x30 ≡ b → (t : Bool) → G q ≡ t → with_node g (item_from (read_field m 32 q) ∷ read_items m rest) ≡ read_items m (pick (runs_at m (pick t (some q) (first_at G rest)) q) (q ∷ running m (pick t (some q) (first_at G rest)) rest) (running m (pick t (some q) (first_at G rest)) rest))
      go true h true w = let is = eqb-true _ _ h in rw (chosen_runs m q is, one_item m q (running m (some q) rest), (i.is_node_item is).0, node_by g i.devices i.block (read_items m rest), (i.is_node_item is).1, w, after)
      go true h false w = let is = eqb-true _ _ h in rw (other_stays m q is o, (i.is_node_item is).0, node_by g i.devices i.block (read_items m rest), (i.is_node_item is).1, w) ih
      go false h true w = false_not_true (sym (i.plain (eqb-false _ _ h)).1 ∙ w)
      go false h false w = rw (plain_runs m q (first_at G rest) (eqb-false _ _ h), one_item m q (running m (first_at G rest) rest), plain_with g (read_items m rest) (i.plain (eqb-false _ _ h)).0, ih)

  -- some node passes the test
  any_more : any (is_node g) (read_items m rest) ≡ is_some (first_at G rest) → any (is_node g) (read_items m (q ∷ rest)) ≡ is_some (first_at G (q ∷ rest))
  unfolding first_at any is_node is_some
  any_more ih = rw (one_item m q rest) (go (eqb (byte m q) 0x30) refl (G q) refl)
    where
      go : (b : Bool) → eqb (byte m q) 0x30 ≡ b → (t : Bool) → G q ≡ t → (is_node g (item_from (read_field m 32 q)) || any (is_node g) (read_items m rest)) ≡ is_some (pick t (some q) (first_at G rest))
      go true h true w = let is = eqb-true _ _ h in rw ((i.is_node_item is).0, (i.is_node_item is).1, w)
      go true h false w = let is = eqb-true _ _ h in rw ((i.is_node_item is).0, (i.is_node_item is).1, w) ih
      go false h true w = false_not_true (sym (i.plain (eqb-false _ _ h)).1 ∙ w)
      go false h false w = rw (plain_no_node g (i.plain (eqb-false _ _ h)).0) ih

-- ---- All items from a place on

-- the items at the places l, which are q or later
record ItemsAre (m : List ℕ) (g : Devices → Bool) (G : ℕ → Bool) (q : ℕ) (l : List ℕ) : Type 0 where
  dropped : (c : Option ℕ) → ((p : ℕ) → q ≤ p → Other p c) → without_nodes (read_items m l) ≡ read_items m (running m c l)
  kept : with_node g (read_items m l) ≡ read_items m (running m (first_at G l) l)
  found : any (is_node g) (read_items m l) ≡ is_some (first_at G l)

no_items : (m : List ℕ) (g : Devices → Bool) (G : ℕ → Bool) (q : ℕ) → ItemsAre m g G q []
unfolding read_items items_from read_each running without_nodes with_node first_at any is_some
no_items m g G q = record { dropped = λ c o. refl; kept = refl; found = refl }

module _ (m : List ℕ) (g : Devices → Bool) (G : ℕ → Bool) (each : (p : ℕ) → inside m 32 p ≡ no_fault → ItemAt m g G p) (e : ℕ) where
  item_more : (q : ℕ) → inside m 32 q ≡ no_fault → ItemsAre m g G (end_of m q) (fields_in m (end_of m q) e) → ItemsAre m g G q (q ∷ fields_in m (end_of m q) e)
  item_more q s is =
      let rest : List ℕ = fields_in m (end_of m q) e in
      let i = each q s in
      let after : without_nodes (read_items m rest) ≡ read_items m (running m (some q) rest) = is.dropped (some q) (λ p j. other_chosen {q = q} (λ x. omega arith)) in
      record {
        dropped = λ c o. without_more m g G q rest i c (o q (omega arith)) (is.dropped c (λ p j. o p (omega arith)));
        kept = with_more m g G q rest i (first_later G m e e (end_of m q) q (omega arith) (omega arith)) after is.kept;
        found = any_more m g G q rest i is.found;
      }

  items_are : (k : ℕ) (ps : Parts) (q : ℕ) → e - q ≤ k → walk m (inside m 32) 0 ps e (fields_in m q e) ≡ no_fault → ItemsAre m g G q (fields_in m q e)
  items_are zero ps q b w = rw (no_fields m q e (omega arith)) (no_items m g G q)
  items_are (suc k) ps q b w = go (λ x r l v. items_are k x r l v) (ltb q e) refl
    where
      go : ((ps : Parts) (r : ℕ) → e - r ≤ k → walk m (inside m 32) 0 ps e (fields_in m r e) ≡ no_fault → ItemsAre m g G r (fields_in m r e)) → (t : Bool) → ltb q e ≡ t → ItemsAre m g G q (fields_in m q e)
      go later false t = rw (no_fields m q e (ltb-false q e t)) (no_items m g G q)
      go later true t =
          let l : q < e = ltb-true q e t in
          let f = first_field m (inside m 32) 0 ps q e l w in
          rw (field_first m q e l) (item_more q f.sound (later f.next (end_of m q) (omega arith) f.others))

-- ---- A sound manifest

-- its items are those read at their places
items_read : (m : List ℕ) → check m ≡ no_fault → (manifest_of m).items ≡ read_items m (item_places m)
unfolding manifest_of manifest_from read_all read_each others read_items item_places
items_read m w =
    let ends = table_ends m w in
    let l : 0 < length m = omega arith in
    rw (field_first m 0 (length m) l)

either_items : (b t : Bool) (xs ys : List Item) → b ≡ t → elim b [ true ↦ xs | false ↦ ys ] ≡ pick t xs ys
either_items b t xs ys e = go b ∙ ap (λ (u : Bool). pick u xs ys) e
  where
    go : (u : Bool) → elim u [ true ↦ xs | false ↦ ys ] ≡ pick u xs ys
    go true = refl
    go false = refl

module _ (m device : List ℕ) (w : check m ≡ no_fault) where
  named_items : ItemsAre m (names (string_texts m) device) (names_device m device) (end_of m 0) (item_places m)
  unfolding item_places
  named_items = items_are m (names (string_texts m) device) (names_device m device) (names_at m device) (length m) (length m) _ (end_of m 0) (omega arith) (shape_sound m (check_sound m w).shaped).others

  default_items : ItemsAre m is_default_node (is_default_at m) (end_of m 0) (item_places m)
  unfolding item_places
  default_items = items_are m is_default_node (is_default_at m) (default_at_lem m) (length m) (length m) _ (end_of m 0) (omega arith) (shape_sound m (check_sound m w).shaped).others

  -- of its items, `items_for` leaves those at the places that run
  pub items_for_lem : items_for (manifest_of m).strings device (manifest_of m).items ≡ items_from (read_each (read_field m 32) (running m (node_for m device) (item_places m)))
  unfolding items_for read_items node_for or_first is_some
  items_for_lem = rw (strings_read m w, items_read m w) (go (first_at (names_device m device) (item_places m)) refl)
    where
      go : (c : Option ℕ) → first_at (names_device m device) (item_places m) ≡ c → elim (any (is_node (names (string_texts m) device)) (read_items m (item_places m))) [ true ↦ with_node (names (string_texts m) device) (read_items m (item_places m)) | false ↦ with_node is_default_node (read_items m (item_places m)) ] ≡ read_items m (running m (or_first c (first_at (is_default_at m) (item_places m))) (item_places m))
      go none h = either_items _ false _ _ (named_items.found ∙ ap is_some h) ∙ default_items.kept
      go (some p) h = either_items _ true _ _ (named_items.found ∙ ap is_some h) ∙ (named_items.kept ∙ ap (λ (c : Option ℕ). read_items m (running m c (item_places m))) h)
