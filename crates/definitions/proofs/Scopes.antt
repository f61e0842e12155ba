-- The laws of the scopes hold of the run of every sound manifest: its definitions' names are among its strings, of which there are at most 1,024.
use Prim.Native.Nat.{ℕ, ◌<◌, ◌≤◌}
use mathlib.Core.Path.{◌≡◌, refl, sym, subst}
use mathlib.Core.List.{List}
use native.Mathlib.Omega.{arith}
use lib.ListN.{length}
use Rattle.wire.specs.Bytes.{byte, fields_in}
use Rattle.wire.proofs.Fields.{no_fields, field_first}
use Rattle.rules.specs.Format.{forms, form_in, form_of}
use Rattle.rules.specs.Check.{string_places, check}
use Rattle.rules.specs.Read.{manifest_of}
use Rattle.rules.specs.Run.{defined_name}
use Rattle.rules.specs.Types.{Types}
use Rattle.rules.specs.Compile.{is_built_in, known_with, start, run_manifest}
use Rattle.rules.specs.Ranges.{Each, none_left, also}
use Rattle.rules.specs.declared.Kind.TheVariants.{Item as ItemKind}
use Rattle.rules.proofs.Outcome.{All, all_bind}
use Rattle.rules.proofs.Gathering.{gathered_each}
use Rattle.rules.proofs.Laws.{items_for_each}
use Rattle.rules.proofs.Scopes.{SmallItem, small_statement, small_node, small_definition, small_definition_lem, Tidy, everywhere, items_tidy, start_tidy}
use Rattle.places.specs.At.{item_at, items_at, StandsAs, Siblings, ended, sibling}
use Rattle.places.proofs.Tags.{IsItemTag, node_tag, type_definition_tag, class_definition_tag, statement_tag, item_tag}
use Rattle.places.proofs.Items.{statement_item, node_opens, type_definition_opens, class_definition_opens, manifest_opens}
use Rattle.syntax.proofs.NamesKnown.{known_after, items_known}
use Rattle.declarations.specs.Standing.{NamesKnown}
use Rattle.declarations.proofs.Standing.{name_small}
use Rattle.rules.specs.Tree.{Constant}
use mathlib.Core.Bool.{Bool}
use Rattle.rules.specs.Verdicts.{no_fault}

module _ (m : List ℕ) (few : length (string_places m) ≤ 1024) where
  small_item : {q : ℕ} → StandsAs m 32 ItemKind q → NamesKnown m q → SmallItem (item_at m q)
  unfolding form_of form_in forms defined_name
  small_item {q} s known = go (byte m q) (item_tag (byte m q) s.kind) refl
    where
      within : q < length m
      within = let ends = s.stands.ends in omega arith

      go : (t : ℕ) → IsItemTag t → byte m q ≡ t → SmallItem (item_at m q)
      go t node_tag e = subst SmallItem (sym (node_opens s.stands e).tree) small_node
      go t type_definition_tag e = subst SmallItem (sym (type_definition_opens s.stands e).tree) (small_definition (record { name = name_small few q 0x32 e refl within known }))
      go t class_definition_tag e = subst SmallItem (sym (class_definition_opens s.stands e).tree) (small_definition (record { name = name_small few q 0x34 e refl within known }))
      go t (statement_tag k) e = subst SmallItem (sym (statement_item (record { stands = s.stands; kind = rw e k }))) small_statement

  small_items : {q e : ℕ} → e ≤ length m → Siblings m 32 ItemKind q e → NamesKnown m q → Each SmallItem (items_at m (fields_in m q e))
  unfolding items_at
  small_items {e = e} l ended known = rw (no_fields m e e (omega arith)) none_left
  small_items {q = q} {e = e} l (sibling b s r) known =
      rw (field_first m q e b) (also (small_item s known) (small_items l r (known_after m (length (string_places m)) (length m) 32 q s.stands.sound s.stands.ends known)))

pub manifest_small : (m : List ℕ) → check m ≡ no_fault → Each SmallItem (manifest_of m).items
manifest_small m c =
    let o = manifest_opens m c in
    subst (Each SmallItem) (sym o.items) (small_items m o.most (omega arith) o.each (items_known m c))

-- every state that the run of a sound manifest passes is tidy (rules/proofs/Scopes.antt), so in it more than 1,026 scopes change no read and a body's
-- scope is empty when it is entered; here for the state at its end
pub manifest_tidy : (struck_out : Constant → Bool) (types : Types) (m device : List ℕ) (limit output_length : ℕ) → check m ≡ no_fault → All (Tidy everywhere) (run_manifest struck_out types (manifest_of m) device limit output_length)
unfolding run_manifest known_with
manifest_tidy struck_out types m device limit output_length c =
    all_bind (gathered_each (λ d. small_definition_lem) (is_built_in types (manifest_of m).strings) (manifest_small m c) none_left) λ ds small.
    items_tidy (known_with struck_out types (manifest_of m).strings ds) small (items_for_each (manifest_of m).strings device (manifest_small m c)) (start limit output_length) (start_tidy limit output_length)
