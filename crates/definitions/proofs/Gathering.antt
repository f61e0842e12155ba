-- One law for each way through `gather_item` and `gather`. Assumes nothing.
use Prim.Native.Nat.{ℕ, ◌+◌, ◌<◌, ◌≤◌}
use mathlib.Core.Path.{◌≡◌, refl, sym, ap, subst, ◌∙◌}
use mathlib.Core.Logic.{◌⊎◌, inl, inr}
use mathlib.Core.Bool.{Bool, true, false}
use mathlib.Core.List.{List, [], ◌∷◌}
use native.Mathlib.Omega.{arith}
use lib.ListN.{length}
use Rattle.values.specs.declared.Refusal.{Refusal}
use Rattle.values.specs.Refusals.{refusal_at}
use Rattle.values.specs.declared.Reason.TheVariants.{DefinedAgain}
use Rattle.wire.specs.Bytes.{byte, two, end_of, fields_in}
use Rattle.wire.proofs.Fields.{no_fields, field_first}
use Rattle.rules.specs.Check.{string_places, check}
use Rattle.rules.specs.Outcome.{refused, ◌>>=◌, refuse_if}
use Rattle.rules.specs.Tree.{Definition, Item, definition}
use Rattle.rules.specs.State.{Known}
use Rattle.rules.specs.Run.{defined_name, defined_place, is_taken, gather_definitions}
use Rattle.rules.specs.declared.Kind.TheVariants.{Item as ItemKind}
use Rattle.places.specs.At.{item_at, items_at, Siblings}
use Rattle.places.proofs.Parts.{first_sibling}
use Rattle.places.proofs.Tags.{IsItemTag, node_tag, type_definition_tag, class_definition_tag, statement_tag, item_tag}
use Rattle.places.proofs.Items.{statement_item, node_opens, manifest_opens}
use Rattle.syntax.specs.Nodes.{item_places}
use Rattle.syntax.proofs.NamesKnown.{known_after, items_known}
use Rattle.evaluator.specs.Answers.{refused_by}
use Rattle.evaluator.specs.Known.{KnownIn}
use Rattle.declarations.specs.Standing.{NamesKnown, Set}
use Rattle.definitions.specs.Defined.{ItemStands, IsDefinition, with_definitions, OnlyNames, Defines, KnownTo, GathersTo, taken_so, known_so}
use Rattle.definitions.proofs.Definitions.{definition_there}
use Rattle.std.specs.Prelude.{Result, Ok, Err}
use Rattle.rules.specs.Verdicts.{no_fault}

-- ---- The items from a place on

-- from p on stand items, up to the end of the manifest
pub record ItemsFrom (m : List ℕ) (p : ℕ) : Type 0 where
  pub items : Siblings m 32 ItemKind p (length m)
  pub names : NamesKnown m p
  pub after : 0 < p

pub items_first : (m : List ℕ) {p : ℕ} → check m ≡ no_fault → p ≡ end_of m 0 → ItemsFrom m p
items_first m sound e = rw e (record { items = (manifest_opens m sound).each; names = items_known m sound; after = omega arith })

module _ {m : List ℕ} {p : ℕ} (so : ItemsFrom m p) (here : p < length m) where
  pub item_stands : ItemStands m p
  item_stands = record { after = so.after; stands = (first_sibling so.items here).here; names = so.names }

  pub items_after : {q : ℕ} → q ≡ end_of m p → ItemsFrom m q
  items_after e =
      let i = first_sibling so.items here in
      let st = i.here.stands in
      rw e (record { items = i.after; names = known_after m (length (string_places m)) (length m) 32 p st.sound st.ends so.names; after = omega arith })

-- ---- gather_item

-- what stands at p, by the tag read there
pub is_definition_lem : {m : List ℕ} {p : ℕ} → ItemStands m p → {t : ℕ} → t ≡ byte m p → (t ≡ 0x32) ⊎ (t ≡ 0x34) → IsDefinition m p
is_definition_lem s read (inl e) = inl (sym read ∙ e)
is_definition_lem s read (inr e) = inr (sym read ∙ e)

-- what is known stays known where nothing changes
only_names : {m w : List ℕ} → Set m w → OnlyNames m w w
only_names set = record { set = set; fine = λ f. f; rest = refl; state = λ es n r. refl }

nothing_gathered : (m w : List ℕ) (ps : List ℕ) (k : Known) → KnownIn m w k → KnownTo m w ps ps k
unfolding with_definitions
nothing_gathered m w ps k known = record { definitions = k.definitions; left = refl; known = known }

-- an item that is no definition has none to gather
item_passed : {m : List ℕ} {p : ℕ} → ItemStands m p → (byte m p ≡ 0x32 → ⊥) → (byte m p ≡ 0x34 → ⊥) → (built_in : ℕ → Bool) (ds : List Definition) (is : List Item) → gather_definitions built_in ds (item_at m p ∷ is) ≡ gather_definitions built_in ds is
unfolding gather_definitions
item_passed {m} {p} s no_type no_class built_in ds is = go (byte m p) (item_tag (byte m p) s.stands.kind) refl
  where
    go : (t : ℕ) → IsItemTag t → byte m p ≡ t → gather_definitions built_in ds (item_at m p ∷ is) ≡ gather_definitions built_in ds is
    go t node_tag e = rw (node_opens s.stands.stands e).tree refl
    go t type_definition_tag e = absurd (no_type e)
    go t class_definition_tag e = absurd (no_class e)
    go t (statement_tag k) e = rw (statement_item (record { stands = s.stands.stands; kind = rw e k })) refl

module _ (built_in : ℕ → Bool) (ds : List Definition) (d : Definition) (is : List Item) where
  name_taken : is_taken built_in ds (defined_name d) ≡ true → gather_definitions built_in ds (definition d ∷ is) ≡ refused DefinedAgain (defined_place d)
  unfolding gather_definitions ◌>>=◌ refuse_if
  name_taken h = rw h refl

  name_free : is_taken built_in ds (defined_name d) ≡ false → gather_definitions built_in ds (definition d ∷ is) ≡ gather_definitions built_in (d ∷ ds) is
  unfolding gather_definitions ◌>>=◌ refuse_if
  name_free h = rw h refl

module _ {m : List ℕ} {p : ℕ} {w : List ℕ} (set : Set m w) (s : ItemStands m p) where
  pub no_definition : {t : ℕ} → t ≡ byte m p → ((t ≡ 0x32) ⊎ (t ≡ 0x34) → ⊥) → (ps : List ℕ) → GathersTo m w w (p ∷ ps) ps (Ok tt)
  unfolding items_at with_definitions
  no_definition read other ps = known_so (only_names set) λ k known. record {
    definitions = k.definitions;
    left = item_passed s (λ e. other (inl (read ∙ e))) (λ e. other (inr (read ∙ e))) k.built_in k.definitions (items_at m ps);
    known = known;
  }

  module _ (i : IsDefinition m p) {t : Bool} (told : (k : Known) → KnownIn m w k → t ≡ is_taken k.built_in k.definitions (two m (p + 3))) where
    pub defined_again : (w' : List ℕ) {why : Refusal} → why ≡ refusal_at DefinedAgain p → t ≡ true → (ps : List ℕ) → GathersTo m w w' (p ∷ ps) ps (Err why)
    unfolding items_at
    defined_again w' {why} is h ps =
        let d = definition_there m p s i in
        taken_so λ k known.
        ap (λ (x : Item). gather_definitions k.built_in k.definitions (x ∷ items_at m ps)) d.tree
        ∙ name_taken k.built_in k.definitions d.read (items_at m ps) (ap (is_taken k.built_in k.definitions) d.name ∙ sym (told k known) ∙ h)
        ∙ ap (λ (q : ℕ). refused DefinedAgain q) d.place
        ∙ sym (ap refused_by is)

    pub defined_now : {w' : List ℕ} → t ≡ false → Defines m p w w' → (ps : List ℕ) → GathersTo m w w' (p ∷ ps) ps (Ok tt)
    unfolding items_at
    defined_now h x ps =
        let d = definition_there m p s i in
        known_so x.only λ k known.
        let free = ap (is_taken k.built_in k.definitions) d.name ∙ sym (told k known) ∙ h in
        record {
          definitions = d.read ∷ k.definitions;
          left = ap (λ (y : Item). gather_definitions k.built_in k.definitions (y ∷ items_at m ps)) d.tree ∙ name_free k.built_in k.definitions d.read (items_at m ps) free;
          known = x.known k d.read d.tree free known;
        }

-- ---- gather

-- one after the other
and_then : {m w₀ w w' from between to : List ℕ} {a : Result Unit Refusal} → GathersTo m w₀ w from between (Ok tt) → GathersTo m w w' between to a → GathersTo m w₀ w' from to a
unfolding with_definitions
and_then (known_so only says) (taken_so refuses) = taken_so λ k known. let x = says k known in x.left ∙ refuses _ x.known
and_then (known_so only says) (known_so only' says') =
    known_so
    (record { set = only'.set; fine = λ f. only'.fine (only.fine f); rest = only'.rest ∙ only.rest; state = λ es n r. only'.state es n r ∙ only.state es n r })
    λ k known. let x = says k known in let y = says' _ x.known in record { definitions = y.definitions; left = x.left ∙ y.left; known = y.known }

taken_all : {m w w' from to to' : List ℕ} {why : Refusal} → GathersTo m w w' from to (Err why) → GathersTo m w w' from to' (Err why)
taken_all (taken_so refuses) = taken_so refuses

still_set : {m w w' from to : List ℕ} → GathersTo m w w' from to (Ok tt) → Set m w'
still_set (known_so only says) = only.set

-- up to the item at p all are gathered
pub record Along (m w₀ w : List ℕ) (p : ℕ) : Type 0 where
  pub memory : length w ≡ length w₀
  pub items : ItemsFrom m p
  pub gathers : GathersTo m w₀ w (item_places m) (fields_in m p (length m)) (Ok tt)

pub gathering_begins : (m w : List ℕ) {p : ℕ} → Set m w → check m ≡ no_fault → p ≡ end_of m 0 → Along m w w p
unfolding item_places
gathering_begins m w set sound e = record { memory = refl; items = items_first m sound e; gathers = rw e (known_so (only_names set) (nothing_gathered m w (fields_in m (end_of m 0) (length m)))) }

-- the walk has come to the item at p
module _ {m w₀ w : List ℕ} {at p : ℕ} (along : Along m w₀ w at) (here : at ≡ p) where
  so : Along m w₀ w p
  so = subst (Along m w₀ w) here along

  pub along_set : Set m w
  along_set = still_set so.gathers

  module _ (before : p < length m) where
    pub item_here : ItemStands m p
    item_here = item_stands so.items before

    module _ {w' : List ℕ} {a : Result Unit Refusal} (x : (ps : List ℕ) → GathersTo m w w' (p ∷ ps) ps a) where
      this_one : GathersTo m w₀ w' (item_places m) (fields_in m (end_of m p) (length m)) a
      this_one = and_then so.gathers (rw (field_first m p (length m) before) (x (fields_in m (end_of m p) (length m))))

      pub gathering_goes_on : {q : ℕ} → length w' ≡ length w → a ≡ Ok tt → q ≡ end_of m p → Along m w₀ w' q
      gathering_goes_on size told ahead = record { memory = size ∙ so.memory; items = items_after so.items before ahead; gathers = rw ahead (rw told at this_one) }

      pub gathering_refuses : {why : Refusal} → a ≡ Err why → GathersTo m w₀ w' (item_places m) [] (Err why)
      gathering_refuses told = taken_all (rw told at this_one)

pub all_gathered : {m w₀ w : List ℕ} {p : ℕ} → Along m w₀ w p → length m ≤ p → GathersTo m w₀ w (item_places m) [] (Ok tt)
all_gathered {m} {w₀} {w} {p} so h = rw (no_fields m p (length m) h) at so.gathers
