-- Fields as listed, in a tree that has strings in the place of their numbers: what a field begins with, which fields it has, and in which order.
use Prim.Native.Nat.{ℕ, ◌<◌, ◌≤◌}
use mathlib.Core.Path.{◌≡◌, refl}
use mathlib.Core.Bool.{Bool, true, not, ◌||◌}
use mathlib.Core.List.{List, [], ◌∷◌, map}
use lib.Dec.{eqb}
use lib.ListN.{length}
use Rattle.rules.specs.Bytes.{pick}
use Rattle.rules.specs.Format.{is_constant, allowed, three, take, follow, form_of, may_end}
use Rattle.rules.specs.Evaluate.{any}
use Rattle.rules.specs.Types.{Types, built_in_types}
use Rattle.rules.specs.Compile.{same_bytes}
use Rattle.rules.specs.EditRule.{IsBytes}
use Rattle.rules.specs.declared.Kind.{Kind}
use Rattle.rules.specs.declared.Part.{Part}
use Rattle.rules.specs.declared.Part.TheVariants.{Over, One, Many}
use Rattle.rules.specs.declared.Parts.{Parts}
use Rattle.rules.specs.declared.Piece.{Piece as ListedPiece}
use Rattle.rules.specs.declared.Piece.TheVariants.{Nothing, Label, Integer, Boolean, Operator, Name}
use Rattle.rules.specs.declared.Rest.{Rest}
use Rattle.rules.specs.declared.Rest.TheVariants.{Only, Fields as Inner}
use Rattle.rules.specs.declared.Next.{Next}
use Rattle.rules.specs.declared.Next.TheVariants.{Go}
use Rattle.notation.specs.Building.{Piece, byte, name, Node, node, Nodes, empty, ◌▸◌}
use Rattle.notation.specs.Printer.{is_name}
use Rattle.notation.proofs.Written.{onward}

-- ---- What a field begins with

-- names are spelled as names, but those of strings and of devices
abbrev pub spelled_in : (tag : ℕ) → List ℕ → Bool
spelled_in t w = eqb t 0x11 || (eqb t 0x31 || is_name w)

-- the type of a resource is built in, or is not, as the tag says
abbrev pub type_in : (types : Types) (tag : ℕ) → List ℕ → Bool
type_in types t w = pick (eqb t 0x25) (any (same_bytes w) (built_in_types types)) (pick (eqb t 0x27) (not (any (same_bytes w) (built_in_types types))) true)

-- a name in a field with the tag t: S holds of it
pub record NameIn (types : Types) (S : List ℕ → Type 0) (t : ℕ) (w : List ℕ) : Type 0 where
  pub known : S w
  pub spelling : spelled_in t w ≡ true
  pub type : type_in types t w ≡ true

-- the pieces that a field begins with, by the two that are listed for its tag
pub data Heading (types : Types) (S : List ℕ → Type 0) (t : ℕ) : ListedPiece → ListedPiece → List Piece → Type 0 where
  no_piece : Heading types S t Nothing Nothing []
  an_integer : {l : ℕ} {bs : List ℕ} → is_constant t ≡ true → length bs ≡ 8 → IsBytes bs → Heading types S t Label Integer (byte l ∷ map byte bs)
  a_string : {l : ℕ} {w : List ℕ} → is_constant t ≡ true → NameIn types S t w → Heading types S t Label Name (byte l ∷ name w ∷ [])
  a_boolean : {l b : ℕ} → is_constant t ≡ true → b ≤ 1 → Heading types S t Label Boolean (byte l ∷ byte b ∷ [])
  an_operator : {b : ℕ} → b ≤ 6 → Heading types S t Operator Nothing (byte b ∷ [])
  one_name : {w : List ℕ} → NameIn types S t w → Heading types S t Name Nothing (name w ∷ [])
  two_names : {v w : List ℕ} → NameIn types S t v → NameIn types S t w → Heading types S t Name Name (name v ∷ name w ∷ [])

-- ---- The fields in it

-- the tag of a field
unfoldable pub tag_in : Node → ℕ
tag_in (node p t h ks) = t

-- what may come after the fields ks, where ps may come
unfoldable pub reached : Parts → Nodes → Next
reached ps empty = Go ps
reached ps (ks ▸ k) = onward (reached ps ks) (λ n. follow n (tag_in k))

-- the fields are none, or those listed
pub data Contents : Rest → Nodes → Type 0 where
  bare : Contents Only empty
  whole : {ps last : Parts} {js : Nodes} → reached ps js ≡ Go last → may_end last ≡ true → Contents (Inner ps) js

-- a field is as listed, and so are all fields in it
mutual
  pub data Formed (types : Types) (S : List ℕ → Type 0) : Node → Type 0 where
    formed : {p t : ℕ} {h : List Piece} {js : Nodes} → t < 256 → Heading types S t (form_of t).one (form_of t).two h → Contents (form_of t).rest js → AllFormed types S js → Formed types S (node p t h js)

  pub data AllFormed (types : Types) (S : List ℕ → Type 0) : Nodes → Type 0 where
    none_formed : AllFormed types S empty
    also_formed : {ks : Nodes} {k : Node} → AllFormed types S ks → Formed types S k → AllFormed types S (ks ▸ k)

-- a field of a kind, as listed
pub record Of (types : Types) (S : List ℕ → Type 0) (kind : Kind) (k : Node) : Type 0 where
  pub right : allowed kind (tag_in k) ≡ true
  pub form : Formed types S k

-- js are ks and then fields of a kind
pub data More (types : Types) (S : List ℕ → Type 0) (kind : Kind) : Nodes → Nodes → Type 0 where
  enough : {ks : Nodes} → More types S kind ks ks
  further : {ks js : Nodes} {k : Node} → Of types S kind k → More types S kind (ks ▸ k) js → More types S kind ks js

-- ---- Going through the parts

-- the fields ks are as listed, and lead from the parts ps to the parts n
pub record Has (types : Types) (S : List ℕ → Type 0) (ps : Parts) (ks : Nodes) (n : Parts) : Type 0 where
  pub leads : reached ps ks ≡ Go n
  pub all : AllFormed types S ks

module _ (types : Types) {S : List ℕ → Type 0} where
  -- no field yet
  pub has_none_lem : {ps : Parts} → Has types S ps empty ps
  unfolding reached
  has_none_lem = record { leads = refl; all = none_formed }

  -- one field further
  pub has_next : {ps n : Parts} {ks : Nodes} (k : Node) (i : Parts) → Has types S ps ks n → Formed types S k → follow n (tag_in k) ≡ Go i → Has types S ps (ks ▸ k) i
  unfolding reached
  has_next k i h f e = record { leads = rw h.leads e; all = also_formed h.all f }

  module _ {ps : Parts} {kind : Kind} where
    -- the one field of a kind that is the first part, the second, the third
    pub has_first : {y z : Part} {ks : Nodes} {k : Node} → Has types S ps ks (three (One kind) y z) → Of types S kind k → Has types S ps (ks ▸ k) (three Over y z)
    unfolding follow take
    has_first {y} {z} {k = k} h o = has_next k (three Over y z) h o.form (rw o.right)

    pub has_second : {z : Part} {ks : Nodes} {k : Node} → Has types S ps ks (three Over (One kind) z) → Of types S kind k → Has types S ps (ks ▸ k) (three Over Over z)
    unfolding follow take
    has_second {z} {k = k} h o = has_next k (three Over Over z) h o.form (rw o.right)

    pub has_third : {ks : Nodes} {k : Node} → Has types S ps ks (three Over Over (One kind)) → Of types S kind k → Has types S ps (ks ▸ k) (three Over Over Over)
    unfolding follow take
    has_third {k = k} h o = has_next k (three Over Over Over) h o.form (rw o.right)

    -- any number of fields where each leads back to the same parts
    pub has_more : (n : Parts) → ((u : ℕ) → allowed kind u ≡ true → follow n u ≡ Go n) → {ks js : Nodes} → Has types S ps ks n → More types S kind ks js → Has types S ps js n
    has_more n back h enough = h
    has_more n back h (further {k = k} o m) = has_more n back (has_next k n h o.form (back (tag_in k) o.right)) m

    -- so it is where they are the first part, the second, the third
    pub has_many_first : {y z : Part} {ks js : Nodes} → Has types S ps ks (three (Many kind) y z) → More types S kind ks js → Has types S ps js (three (Many kind) y z)
    unfolding follow take
    has_many_first {y} {z} h m = has_more (three (Many kind) y z) (λ u e. rw e) h m

    pub has_many_second : {z : Part} {ks js : Nodes} → Has types S ps ks (three Over (Many kind) z) → More types S kind ks js → Has types S ps js (three Over (Many kind) z)
    unfolding follow take
    has_many_second {z} h m = has_more (three Over (Many kind) z) (λ u e. rw e) h m

    pub has_many_third : {ks js : Nodes} → Has types S ps ks (three Over Over (Many kind)) → More types S kind ks js → Has types S ps js (three Over Over (Many kind))
    unfolding follow take
    has_many_third h m = has_more (three Over Over (Many kind)) (λ u e. rw e) h m

  -- fields that lead to parts that may end are those of their line
  pub has_whole : {ps n : Parts} {ks : Nodes} → Has types S ps ks n → may_end n ≡ true → Contents (Inner ps) ks
  has_whole h e = whole h.leads e
