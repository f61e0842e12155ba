-- The block of a node: one law for each way through `node_block`. Assumes nothing.
use Prim.Native.Nat.{ℕ, ◌+◌, ◌≤◌, ◌<◌}
use mathlib.Core.Path.{◌≡◌, refl, sym, ap, subst, ◌∙◌}
use mathlib.Core.Bool.{Bool, true, false, ◌||◌}
use mathlib.Core.List.{List}
use native.Mathlib.Omega.{arith}
use lib.Dec.{eqb}
use lib.ListN.{length}
use borrow.Author.Tests.{eqb-true, ne_eqb}
use Rattle.wire.specs.Bytes.{byte, end_of}
use Rattle.rules.specs.Format.{allowed, forms, form_in, form_of, size, head_size, three}
use Rattle.rules.specs.Check.{string_places}
use Rattle.rules.specs.declared.Kind.TheVariants.{Block, Device}
use Rattle.rules.specs.declared.Part.TheVariants.{Over, One, Names}
use Rattle.rules.specs.declared.Parts.{Parts}
use Rattle.rules.specs.declared.Rest.TheVariants.{Fields}
use Rattle.rules.proofs.Within.{false_not_true}
use Rattle.places.specs.At.{Stands, StandsAs, Siblings, ended, sibling}
use Rattle.places.proofs.Items.{NodeAt, node_opens}
use Rattle.syntax.proofs.NamesKnown.{known_inside, known_after}
use Rattle.declarations.specs.Standing.{NamesKnown}
use Rattle.definitions.specs.Prepared.{is_device_at, NodeBlock}
use Rattle.definitions.specs.Defined.{ItemStands}

-- is_device
module _ (m : List ℕ) (q : ℕ) {t : ℕ} (read : t ≡ byte m q) where
  pub is_name : t ≡ 0x31 → eqb t 0x31 ≡ is_device_at m q
  unfolding is_device_at
  is_name e = rw (sym read, e) refl

  pub is_default_lem : (t ≡ 0x31 → ⊥) → eqb t 0x1b ≡ is_device_at m q
  unfolding is_device_at
  is_default_lem n = rw (sym read, ne_eqb t 0x31 n) refl

-- from q up to the block b of a node come its names
pub data NamesTo (m : List ℕ) (b : ℕ) : ℕ → Type 0 where
  arrived : {q : ℕ} → q ≡ b → NamesTo m b q
  another : {q : ℕ} → q < b → Stands m 31 q → is_device_at m q ≡ true → NamesTo m b (end_of m q) → NamesTo m b q

siblings_names : {m : List ℕ} {q b : ℕ} → Siblings m 31 Device q b → NamesTo m b q
unfolding allowed is_device_at
siblings_names ended = arrived refl
siblings_names {m} {q = q} (sibling l s i) = another l s.stands (ap (λ (t : ℕ). eqb t 0x31 || eqb t 0x1b) (eqb-true (byte m q) 0x31 s.kind)) (siblings_names i)

names_rise : {m : List ℕ} {q b : ℕ} → NamesTo m b q → q ≤ b
names_rise (arrived e) = omega arith
names_rise (another l s d i) = omega arith

names_known_lem : {m : List ℕ} {b q : ℕ} → NamesTo m b q → NamesKnown m q → NamesKnown m b
names_known_lem (arrived e) k = subst (NamesKnown _) e k
names_known_lem {m} (another {q = q} l s d i) k = names_known_lem i (known_after m (length (string_places m)) (length m) 31 q s.sound s.ends k)

-- at q, on the way to the block of the node at p
pub record Reaching (m : List ℕ) (p q : ℕ) : Type 0 where
  pub node : NodeAt m p
  pub names : NamesTo m node.block q
  pub known : NamesKnown m q
  pub below : q ≤ length m

module _ (m : List ℕ) (p : ℕ) where
  first_known : ItemStands m p → byte m p ≡ 0x30 → NamesKnown m (p + 3)
  unfolding form_of form_in forms head_size size
  first_known s e =
      let ends = s.stands.stands.ends in
      let parts : Parts = three Names (One Block) Over in
      let rest : (form_of (byte m p)).rest ≡ Fields parts = ap (λ (t : ℕ). (form_of t).rest) e in
      let none_first : head_size (form_of (byte m p)) ≡ 0 = ap (λ (t : ℕ). head_size (form_of t)) e in
      let there : p + 3 + head_size (form_of (byte m p)) ≡ p + 3 = rw none_first (omega arith) in
      rw there at (known_inside m (length (string_places m)) (length m) p parts (omega arith) rest s.names)

  pub node_begins : ItemStands m p → byte m p ≡ 0x30 → Reaching m p (p + 3)
  unfolding is_device_at
  node_begins s e =
      let n = node_opens s.stands.stands e in
      let ends = s.stands.stands.ends in
      let last = n.body.before in
      record { node = n; names = go n (eqb (byte m (p + 3)) 0x1b) refl; known = first_known s e; below = let up = names_rise (go n (eqb (byte m (p + 3)) 0x1b) refl) in omega arith }
    where
      go : (n : NodeAt m p) (b : Bool) → eqb (byte m (p + 3)) 0x1b ≡ b → NamesTo m n.block (p + 3)
      go n true h =
          let here : end_of m (p + 3) ≡ n.block = n.default h in
          another {q = p + 3} (omega arith) n.first (ap (λ (t : ℕ). eqb t 0x31 || eqb t 0x1b) (eqb-true (byte m (p + 3)) 0x1b h)) (arrived here)
      go n false h = siblings_names (n.devices h)

  module _ (q : ℕ) (here : Reaching m p q) where
    not_block : (b : ℕ) → StandsAs m 31 Block b → is_device_at m b ≡ false
    unfolding is_device_at allowed
    not_block b s = ap (λ (t : ℕ). eqb t 0x31 || eqb t 0x1b) (eqb-true (byte m b) 0x20 s.kind)

    pub node_goes_on : {q' : ℕ} {r : Bool} → r ≡ is_device_at m q → r ≡ true → q' ≡ end_of m q → Reaching m p q'
    node_goes_on told h next = rw next (go here.node here.names here.known)
      where
        go : (n : NodeAt m p) → NamesTo m n.block q → NamesKnown m q → Reaching m p (end_of m q)
        go n (arrived e) k = false_not_true (sym (not_block n.block n.body.block) ∙ ap (is_device_at m) (sym e) ∙ sym told ∙ h)
        go n (another l s d i) k = record { node = n; names = i; known = known_after m (length (string_places m)) (length m) 31 q s.sound s.ends k; below = s.ends }

    pub node_ends : {r : Bool} → r ≡ is_device_at m q → r ≡ false → NodeBlock m p q
    node_ends told h = go here.node here.names here.known
      where
        go : (n : NodeAt m p) → NamesTo m n.block q → NamesKnown m q → NodeBlock m p q
        go n (arrived e) k = rw e (record { tree = n.tree; stands = n.body.block; names = rw e at k })
        go n (another l s d i) k = false_not_true (sym h ∙ told ∙ d)
