-- A tree as listed, with the numbers of its strings in a table that has them all, is right to write: its heads are bytes, and its names are known.
use Prim.Native.Nat.{ℕ, zero, suc, ◌+◌, ◌*◌, ◌/◌, ◌%◌, ◌^◌, ◌<◌, ◌≤◌}
use mathlib.Core.Path.{◌≡◌, refl, sym, ap, ◌∙◌}
use mathlib.Core.Bool.{Bool, true, false, ◌&&◌}
use mathlib.Core.List.{List, [], ◌∷◌, map}
use mathlib.Core.Option.{Option, none, some}
use native.Mathlib.Omega.{arith}
use lib.Dec.{ltb}
use lib.ListN.{length}
use borrow.Author.Tests.{ltb-false, le-leb, lt-ltb}
use Rattle.rules.specs.Bytes.{pick, two}
use Rattle.rules.specs.Format.{is_constant, size, head_size, form_of, follow, piece_right, name_right}
use Rattle.rules.specs.Catalog.{high_bytes}
use Rattle.rules.specs.Compile.{string_number}
use Rattle.rules.specs.EditRule.{IsBytes}
use Rattle.rules.specs.Fields.{Fields, none as fields_end, more, tag_of}
use Rattle.rules.specs.declared.Parts.{Parts}
use Rattle.rules.specs.declared.Piece.{Piece as ListedPiece}
use Rattle.rules.specs.declared.Rest.{Rest}
use Rattle.rules.specs.declared.Form.{Form}
use Rattle.rules.specs.declared.Next.{Next}
use Rattle.rules.specs.declared.Next.TheVariants.{Go, Wrong}
use Rattle.rules.proofs.Listed.{same, HeadIs}
use Rattle.rules.specs.Types.{Types}
use Rattle.notation.specs.Building.{Piece, byte, Node, node, Nodes, empty, ◌▸◌, height, tallest}
use Rattle.notation.specs.Grammar.{or_zero}
use Rattle.notation.specs.Convert.{piece_bytes, head_bytes, numbered, numbered_onto, label_in, or_later, late_in, late_among}
use Rattle.notation.proofs.Written.{onward, after, All, no_field, also_field, RightHead, RightInner, Right}
use Rattle.notation.proofs.WrittenNames.{Known, known, AllKnown, none_known, also_known}
use Rattle.notation.proofs.Formed.{Heading, no_piece, an_integer, a_string, a_boolean, an_operator, one_name, two_names, tag_in, reached, Contents, bare, whole, Formed, formed, AllFormed, none_formed, also_formed}
use Rattle.notation.proofs.FormedTokens.{byte_before, no_bytes}
use Rattle.notation.proofs.NeedsKept.{none_not_some}
use Rattle.notation.proofs.StringTable.{Numbered}

-- ---- The bytes of a head

-- what is asked of the head h, whose two pieces are x and y, where n strings are known
record HeadFacts (n : ℕ) (x y : ListedPiece) (h : List ℕ) : Type 0 where
  count : length h ≡ size x + size y
  bytes : IsBytes h
  first : piece_right h 0 x ≡ true
  second : piece_right h (size x) y ≡ true
  first_name : name_right h n 0 x ≡ true
  second_name : name_right h n (size x) y ≡ true

-- two bytes of a number
two_bytes : (v : ℕ) → v < 65536 → high_bytes 2 v ≡ v / 256 ∷ v % 256 ∷ []
unfolding high_bytes
two_bytes v h =
    let high : v / 256 ^ 1 % 256 ≡ v / 256 = omega arith in
    let low : v / 256 ^ 0 % 256 ≡ v % 256 = omega arith in
    rw (high, low)

module _ (types : Types) (table : List (List ℕ)) where
  -- bytes are themselves
  pub plain_bytes : (bs : List ℕ) → head_bytes table (map byte bs) ≡ bs
  unfolding head_bytes piece_bytes
  plain_bytes [] = refl
  plain_bytes (b ∷ bs) = ap (λ (cs : List ℕ). b ∷ cs) (plain_bytes bs)

  module _ (small : length table ≤ 1024) where
    -- a name is two bytes
    pub name_bytes_lem : {w : List ℕ} (i : Numbered table w) → high_bytes 2 (or_zero (string_number w table 0)) ≡ i.number / 256 ∷ i.number % 256 ∷ []
    name_bytes_lem i =
        let below = i.below in
        let start : 0 + i.number ≡ i.number = omega arith in
        rw (i.found 0, start) (two_bytes i.number (omega arith))

    -- a number below that of the strings is a known name
    number_known : (v : ℕ) → v < length table → ltb (v / 256 * 256 + v % 256) (length table) ≡ true
    number_known v h = lt-ltb (v / 256 * 256 + v % 256) (length table) (omega arith)

    -- two bytes of a name
    name_two : (v : ℕ) → v < length table → {bs : List ℕ} → IsBytes bs → IsBytes (v / 256 ∷ v % 256 ∷ bs)
    name_two v h b = byte_before (omega arith) (byte_before (omega arith) b)

    -- a label that is not late is a byte
    label_byte : (t l : ℕ) → is_constant t ≡ true → (is_constant t && ltb 255 l) ≡ false → l < 256
    label_byte t l e f = let high = ltb-false 255 l (rw e at f) in omega arith

    -- the pieces of a field that is no late constant
    head_facts : {t : ℕ} {x y : ListedPiece} {h : List Piece} → Heading types (Numbered table) t x y h → (is_constant t && ltb 255 (label_in h)) ≡ false → HeadFacts (length table) x y (head_bytes table h)
    unfolding head_bytes piece_bytes piece_right name_right size two
    head_facts no_piece e = record { count = refl; bytes = no_bytes; first = refl; second = refl; first_name = refl; second_name = refl }
    head_facts {t} (an_integer {l = l} {bs = bs} c eight b) e =
        rw (plain_bytes bs) (record { count = omega arith; bytes = byte_before (label_byte t l c e) b; first = refl; second = refl; first_name = refl; second_name = refl })
    head_facts {t} (a_string {l = l} {w = w} c n) e =
        let i = n.known in
        rw (name_bytes_lem i) (record { count = refl; bytes = byte_before (label_byte t l c e) (name_two i.number i.below no_bytes); first = refl; second = refl; first_name = refl; second_name = number_known i.number i.below })
    head_facts {t} (a_boolean {l = l} {b = b} c low) e =
        record { count = refl; bytes = byte_before (label_byte t l c e) (byte_before (omega arith) no_bytes); first = refl; second = le-leb b 1 low; first_name = refl; second_name = refl }
    head_facts (an_operator {b = b} low) e = record { count = refl; bytes = byte_before (omega arith) no_bytes; first = le-leb b 6 low; second = refl; first_name = refl; second_name = refl }
    head_facts (one_name {w = w} n) e =
        let i = n.known in
        rw (name_bytes_lem i) (record { count = refl; bytes = name_two i.number i.below no_bytes; first = refl; second = refl; first_name = number_known i.number i.below; second_name = refl })
    head_facts (two_names {v = v} {w = w} m n) e =
        let i = m.known in
        let j = n.known in
        rw (name_bytes_lem i, name_bytes_lem j) (record { count = refl; bytes = name_two i.number i.below (name_two j.number j.below no_bytes); first = refl; second = refl; first_name = number_known i.number i.below; second_name = number_known j.number j.below })

    -- ---- The fields

    -- the tag stays
    numbered_tag : (k : Node) → tag_of (numbered table k) ≡ tag_in k
    unfolding numbered tag_of tag_in
    numbered_tag (node p t h ks) = refl

    -- the fields lead through the same parts
    pub numbered_after : (ps : Parts) (ks : Nodes) (rest : Fields) → after ps (numbered_onto table ks rest) ≡ onward (reached ps ks) (λ n. after n rest)
    unfolding numbered_onto reached after
    numbered_after ps empty rest = refl
    numbered_after ps (ks ▸ k) rest = numbered_after ps ks (more (numbered table k) rest) ∙ go (reached ps ks)
      where
        go : (x : Next) → onward x (λ n. onward (follow n (tag_of (numbered table k))) (λ i. after i rest)) ≡ onward (onward x (λ n. follow n (tag_in k))) (λ i. after i rest)
        go (Go n) = rw (numbered_tag k)
        go Wrong = refl

    -- none is late, if neither those before nor this one is
    late_before : (o p : Option ℕ) → or_later o p ≡ none → o ≡ none
    late_before none p e = refl
    late_before (some q) p e = none_not_some (sym e)

    late_here : (o p : Option ℕ) → or_later o p ≡ none → p ≡ none
    late_here none p e = e
    late_here (some q) p e = none_not_some (sym e)

    -- a field is right to write, and its names are known
    pub record Ready (d : ℕ) (k : Node) : Type 0 where
      pub right : Right d (numbered table k)
      pub names : Known (length table) (numbered table k)

    -- so are fields
    pub record AllReady (d : ℕ) (ks : Fields) : Type 0 where
      pub right : All (Right d) ks
      pub names : AllKnown (length table) ks

    -- what is ready at d levels
    abbrev pub ReadyAt : ℕ → Type 0
    ReadyAt d = (k : Node) → Formed types (Numbered table) k → height k ≤ d → late_in k ≡ none → Ready d k

    pub all_ready : (d : ℕ) → ReadyAt d → {ks : Nodes} → AllFormed types (Numbered table) ks → tallest ks ≤ d → late_among ks ≡ none → (rest : Fields) → AllReady d rest → AllReady d (numbered_onto table ks rest)
    unfolding numbered_onto height late_in
    all_ready d each none_formed l e rest r = r
    all_ready d each (also_formed {ks = ks} {k = k} all f) l e rest r =
        let here = each k f (omega arith) (late_here (late_among ks) (late_in k) e) in
        all_ready d each all (omega arith) (late_before (late_among ks) (late_in k) e) (more (numbered table k) rest) (record { right = also_field here.right r.right; names = also_known here.names r.names })

    -- the head and the fields, by what the list says of them
    right_head : (l : Form) (h : List ℕ) {x : Rest} {js : Nodes} → Contents x js → HeadIs l h → RightHead x l h
    right_head l h bare i = i
    right_head l h (whole e m) i = i

    right_inner : (d : ℕ) {x : Rest} {js : Nodes} → Contents x js → All (Right d) (numbered_onto table js fields_end) → RightInner (Right d) x (numbered_onto table js fields_end)
    unfolding numbered_onto after
    right_inner d bare all = same
    right_inner d (whole {ps = ps} {last = last} {js = js} e m) all = record { last = last; reached = numbered_after ps js fields_end ∙ rw e; ends = m; each = all }

    -- each constant's label is a byte, and so are those in the fields
    record NotLate (t : ℕ) (h : List Piece) (ks : Nodes) : Type 0 where
      here : (is_constant t && ltb 255 (label_in h)) ≡ false
      inside : late_among ks ≡ none

    not_late : (p t : ℕ) (h : List Piece) (ks : Nodes) → late_in (node p t h ks) ≡ none → NotLate t h ks
    unfolding late_in
    not_late p t h ks e = go (is_constant t && ltb 255 (label_in h)) refl e
      where
        go : (b : Bool) → (is_constant t && ltb 255 (label_in h)) ≡ b → ◌≡◌ {A = Option ℕ} (pick b (some p) (late_among ks)) none → NotLate t h ks
        go true i e = none_not_some (sym e)
        go false i e = record { here = i; inside = e }

    -- a field as listed is ready, where it is not too deep and no constant in it is late
    pub node_ready : (d : ℕ) (k : Node) → Formed types (Numbered table) k → height k ≤ d → late_in k ≡ none → Ready d k
    unfolding numbered height head_size
    node_ready zero (node p t h js) f l e = absurd (omega arith)
    node_ready (suc d) (node p t h js) (formed small-tag head contents all) l e =
        let n = not_late p t h js e in
        let facts = head_facts head n.here in
        let inner = all_ready d (λ k f l e. node_ready d k f l e) all (omega arith) n.inside fields_end (record { right = no_field; names = none_known }) in
        let is : HeadIs (form_of t) (head_bytes table h) = record { count = facts.count; bytes = facts.bytes; first = facts.first; second = facts.second } in
        record {
          right = record { tag = small-tag; head = right_head (form_of t) (head_bytes table h) contents is; fields = right_inner d contents inner.right };
          names = known (record { first = facts.first_name; second = facts.second_name }) inner.names;
        }
