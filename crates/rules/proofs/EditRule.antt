-- Demand 3, proved: the edit rule over the definition's whole compile.
use Prim.Native.Nat.{ℕ, ◌-◌}
use mathlib.Core.Path.{◌≡◌, refl, sym, ap, subst, ◌∙◌}
use mathlib.Core.Bool.{Bool, true, ◌&&◌, true≢false}
use mathlib.Core.List.{List, [], ◌∷◌, ◌++◌, Memᴰ}
use lib.Dec.{eqb}
use lib.ListN.{length, take, replicate}
use lib.Seq.{take-append_seam}
use Rattle.labels.specs.declared.Labels.{Labels}
use Rattle.values.specs.declared.Reason.{Reason}
use Rattle.rules.specs.Outcome.{Outcome, refused, done, ◌>>=◌}
use Rattle.rules.specs.Tree.{Constant, Definition, Item}
use Rattle.rules.specs.Read.{manifest_of}
use Rattle.rules.specs.State.{Attribute, Entry, State}
use Rattle.rules.specs.Evaluate.{is_entry, is_attribute}
use Rattle.rules.specs.Run.{run_items}
use Rattle.rules.specs.Catalog.{shown, shown_all, read_catalog}
use Rattle.rules.specs.Types.{Types}
use Rattle.rules.specs.Compile.{known_with, none_struck_out, items_for, start, run_manifest, final_state, onto, entries_in_order, Compiled, compiled_from, compiled, answer_of, output_of, Effect, compile}
use Rattle.rules.specs.EditRule.{one_tree, differing, Untouched, one_more, how_many, KeptResource, KeptAttribute, Claim, IsBytes}
use Rattle.rules.proofs.Same.{Edit, anywhere, High, Pairwise, none_paired, paired, SameDefinition, SameItem}
use Rattle.rules.proofs.Outcome.{all_refused, all_get, Two, two_any, two_bind, results}
use Rattle.rules.proofs.Gathering.{gathered_same}
use Rattle.rules.proofs.Lists.{each_member}
use Rattle.rules.proofs.Evaluation.{both_high, equals, SameAttribute, same_attribute, SameEntry, same_entry, HighEntry, SameCatalog, empty_both, entry_both, entry_left, entry_right}
use Rattle.rules.proofs.Lockstep.{low, Related, related_low, related_high}
use Rattle.rules.proofs.Declarations.{same_known, items_related, items_for_same, start_related}
use Rattle.rules.proofs.OneTree.{one_tree_lem, one_table}
use Rattle.rules.proofs.Laws.{catalog_reads_back, type_and_title_once, names_once_lem}
use Rattle.std.specs.Prelude.{Ok, Err}
use Rattle.values.specs.Answers.{Answer, catalog_with, refused_for}

module _ (D : Edit) where
  -- ---- Two whole runs end in related states

  run_related : (s s' : Constant → Bool) (types : Types) (ss ss' : List (List ℕ)) (device : List ℕ) {is is' : List Item} {ds ds' : List Definition} → ss ≡ ss' → Pairwise (SameItem D) is is' → Pairwise (SameDefinition D) ds ds' → (limit output limit' output' : ℕ)
      → Two (Related D) (run_items (known_with s types ss ds) (items_for ss device is) (start limit output)) (run_items (known_with s' types ss' ds') (items_for ss' device is') (start limit' output'))
  unfolding known_with
  run_related s s' types ss ss' device e r d limit output limit' output' = rw e (items_related D (same_known d) (items_for_same D ss' device r) (start_related D limit output limit' output'))

  catalogs : {st st' : State} → Related D st st' → SameCatalog D st.entries st'.entries
  catalogs (related_low (low hc hk u u')) = hk
  catalogs (related_high h h' r u u') = r

  -- in declaration order
  onto_same : {c d r q : List Entry} → SameCatalog D c d → SameCatalog D r q → SameCatalog D (onto c r) (onto d q)
  unfolding onto
  onto_same empty_both h = h
  onto_same (entry_both e s) h = onto_same s (entry_both e h)
  onto_same (entry_left e s) h = onto_same s (entry_left e h)
  onto_same (entry_right e s) h = onto_same s (entry_right e h)

  -- ---- What the relation of two catalogs says of an entry and of an attribute that are not high

  record Opposite (e : Entry) (d : List Entry) : Type 0 where
    entry : Entry
    present : Memᴰ entry d
    same : SameEntry D e entry

  opposite : {c d : List Entry} {e : Entry} → SameCatalog D c d → Memᴰ e c → (HighEntry D e → ⊥) → Opposite e d
  opposite (entry_both {f = f} x r) (Memᴰ.head p) l = record { entry = f; present = Memᴰ.head refl; same = rw p x }
  opposite (entry_both x r) (Memᴰ.tail m) l = let y = opposite r m l in record { entry = y.entry; present = Memᴰ.tail y.present; same = y.same }
  opposite (entry_left h r) (Memᴰ.head p) l = absurd (l (rw p h))
  opposite (entry_left h r) (Memᴰ.tail m) l = opposite r m l
  opposite (entry_right h r) m l = let y = opposite r m l in record { entry = y.entry; present = Memᴰ.tail y.present; same = y.same }
  opposite {e = e} empty_both m l = elim m [ ]

  attribute_kept : {a : Attribute} {l l' : List Attribute} → Pairwise (SameAttribute D) l l' → Memᴰ a l → (High D a.content.labels → ⊥) → Memᴰ a l'
  attribute_kept (paired (same_attribute (both_high h g)) r) (Memᴰ.head p) n = absurd (n (rw p h))
  attribute_kept (paired (same_attribute equals) r) (Memᴰ.head p) n = Memᴰ.head p
  attribute_kept (paired v r) (Memᴰ.tail m) n = Memᴰ.tail (attribute_kept r m n)
  attribute_kept {a = a} none_paired x7 n = elim x7 [ ]

-- ---- The claim, about entries

-- the edit from one manifest to another
abbrev between : List ℕ → List ℕ → Edit
between m m' = anywhere (λ l. differing m m' l ≡ true)

not_high : (m m' : List ℕ) {s : Labels} → Untouched m m' s → High (between m m') s → ⊥
not_high m m' u h = true≢false (sym h.within ∙ u.lacks h.label h.differs)

-- the type and title of each entry of a list are there once, and each name once in an entry
record Once (d : List Entry) : Type 0 where
  entries : (e : Entry) → Memᴰ e d → how_many (is_entry e.type e.title) d ≡ 1
  names : (e : Entry) → Memᴰ e d → (a : Attribute) → Memᴰ a e.attributes → how_many (is_attribute a.name) e.attributes ≡ 1

module _ (m m' : List ℕ) {d : List Entry} (once : Once d) where
  resource_kept : {e f : Entry} → SameEntry (between m m') e f → Memᴰ f d → KeptResource e d
  resource_kept {f = f} (same_entry r u u') p = record { entry = f; present = p; type = refl; title = refl; labels = refl; once = once.entries f p }

  attribute_of_kept : {e f : Entry} {a : Attribute} → SameEntry (between m m') e f → Memᴰ f d → Memᴰ a e.attributes → (High (between m m') a.content.labels → ⊥) → KeptAttribute e a d
  attribute_of_kept {f = f} {a = a} (same_entry r u u') p i n =
      let w = attribute_kept (between m m') r i n in
      record { entry = f; present = p; type = refl; title = refl; entry_once = once.entries f p; attribute = a; within = w; name = refl; value = refl; labels = refl; once = once.names f p a w }

  claim : {c : List Entry} → SameCatalog (between m m') c d → Claim m m' c d
  claim r = record {
    resources = λ e p u. let y = opposite (between m m') r p (λ h. not_high m m' u h.own) in resource_kept y.same y.present;
    attributes = λ e a p i u. let y = opposite (between m m') r p (λ h. not_high m m' u (each_member h.all i)) in attribute_of_kept y.same y.present i (not_high m m' u);
  }

-- ---- The claim, about entries as they are shown

record Behind (e : Entry) (c : List Entry) : Type 0 where
  entry : Entry
  present : Memᴰ entry c
  same : shown entry ≡ e

behind : (c : List Entry) {e : Entry} → Memᴰ e (shown_all c) → Behind e c
unfolding shown_all
behind (x ∷ c) (Memᴰ.head p) = record { entry = x; present = Memᴰ.head refl; same = sym p }
behind (x ∷ c) (Memᴰ.tail i) = let b = behind c i in record { entry = b.entry; present = Memᴰ.tail b.present; same = b.same }
behind [] {e = e} x' = elim x' [ ]

shown_present : {e : Entry} {c : List Entry} → Memᴰ e c → Memᴰ (shown e) (shown_all c)
unfolding shown_all
shown_present (Memᴰ.head p) = Memᴰ.head (ap shown p)
shown_present (Memᴰ.tail i) = Memᴰ.tail (shown_present i)

shown_many : (t n : ℕ) (c : List Entry) → how_many (is_entry t n) (shown_all c) ≡ how_many (is_entry t n) c
unfolding shown_all shown how_many is_entry
shown_many t n [] = refl
shown_many t n (e ∷ c) = ap (one_more (eqb e.type t && eqb e.title n)) (shown_many t n c)

module _ {m m' : List ℕ} {c d : List Entry} (x : Claim m m' c d) where
  shown_resource : (e : Entry) → Memᴰ e c → Untouched m m' e.labels → KeptResource (shown e) (shown_all d)
  unfolding shown
  shown_resource e i u =
      let k = x.resources e i u in
      record { entry = shown k.entry; present = shown_present k.present; type = k.type; title = k.title; labels = k.labels; once = shown_many e.type e.title d ∙ k.once }

  shown_attribute : (e : Entry) (a : Attribute) → Memᴰ e c → Memᴰ a e.attributes → Untouched m m' a.content.labels → KeptAttribute (shown e) a (shown_all d)
  unfolding shown
  shown_attribute e a i j u =
      let k = x.attributes e a i j u in
      record {
        entry = shown k.entry;
        present = shown_present k.present;
        type = k.type;
        title = k.title;
        entry_once = shown_many e.type e.title d ∙ k.entry_once;
        attribute = k.attribute;
        within = k.within;
        name = k.name;
        value = k.value;
        labels = k.labels;
        once = k.once;
      }

  claim_shown : Claim m m' (shown_all c) (shown_all d)
  unfolding shown
  claim_shown = record {
    resources = λ e i u. let b = behind c i in subst (λ (y : Entry). Untouched m m' y.labels → KeptResource y (shown_all d)) b.same (shown_resource b.entry b.present) u;
    attributes = λ e a i j u. let b = behind c i in subst (λ (y : Entry). Memᴰ a y.attributes → KeptAttribute y a (shown_all d)) b.same (λ z. shown_attribute b.entry a b.present z u) j;
  }

-- ---- The claim, about two accepted compiles

final_related : (types : Types) (m m' device : List ℕ) → one_tree m m' ≡ true → (limit limit' output output' memory memory' : ℕ) → Two (Related (between m m')) (final_state types m device limit output memory) (final_state types m' device limit' output' memory')
unfolding final_state run_manifest
final_related types m m' device t limit limit' output output' memory memory' = two_any _ _ λ _ _. two_any _ _ λ _ _. two_any _ _ λ _ _. two_any _ _ λ _ _.
    two_bind (gathered_same (between m m') _ _ (one_tree_lem m m' t) none_paired) λ ds ds' same.
    run_related (between m m') none_struck_out none_struck_out types (manifest_of m).strings (manifest_of m').strings device (one_table m m' t) (one_tree_lem m m' t) same limit output limit' output'

states : (types : Types) (m m' device : List ℕ) → one_tree m m' ≡ true → (limit limit' output output' memory memory' : ℕ) {st st' : State} → final_state types m device limit output memory ≡ done st → final_state types m' device limit' output' memory' ≡ done st' → Claim m m' (shown_all (entries_in_order st)) (shown_all (entries_in_order st'))
unfolding entries_in_order
states types m m' device t limit limit' output output' memory memory' e e' =
    claim_shown (claim m m' (record { entries = type_and_title_once types m' device limit' output' memory' e'; names = names_once_lem types m' device limit' output' memory' e' })
    (onto_same (between m m') (catalogs (between m m') (results (final_related types m m' device t limit limit' output output' memory memory') e e')) empty_both))

-- an accepted compile has a final state, whose catalog it gives
record Accepted (types : Types) (m device : List ℕ) (limit output memory : ℕ) (c : Compiled) : Type 0 where
  state : State
  final : final_state types m device limit output memory ≡ done state
  gives : compiled_from limit state ≡ c

accepted : (types : Types) (m device : List ℕ) (limit output memory : ℕ) (c : Compiled) → compiled types m device limit output memory ≡ done c → Accepted types m device limit output memory c
unfolding compiled ◌>>=◌
accepted types m device limit output memory c h = go (final_state types m device limit output memory) refl h
  where
    go : (o : Outcome State) → final_state types m device limit output memory ≡ o → (o >>= λ st. done (compiled_from limit st)) ≡ done c → Accepted types m device limit output memory c
    go (refused r p) e h = absurd (all_get {P = λ (x : Compiled). ⊥} all_refused h)
    go (done st) e h = record { state = st; final = e; gives = cc }

-- a byte string's catalog, read back, has the entries of the final state as they are shown
read_entries : (types : Types) (m device : List ℕ) → IsBytes m → (limit output memory : ℕ) (c : Compiled) (a : Accepted types m device limit output memory c) → read_catalog c.catalog ≡ shown_all (entries_in_order a.state)
unfolding compiled_from
read_entries types m device b limit output memory c a = ap (λ (x : Compiled). read_catalog x.catalog) (sym a.gives) ∙ catalog_reads_back types m device limit output memory b a.final

-- THE EDIT RULE. For every two manifests with one string table and one tree, and for every device, whatever step limit and output length each
-- compile is given: if both are accepted, the claim holds of the entries read back from the two catalogs' bytes.
pub edit_rule : (types : Types) (m m' device : List ℕ) → IsBytes m → IsBytes m' → one_tree m m' ≡ true → (limit limit' output output' memory memory' : ℕ) (c c' : Compiled)
    → compiled types m device limit output memory ≡ done c → compiled types m' device limit' output' memory' ≡ done c' → Claim m m' (read_catalog c.catalog) (read_catalog c'.catalog)
edit_rule types m m' device b b' t limit limit' output output' memory memory' c c' h h' =
    let a = accepted types m device limit output memory c h in
    let a' = accepted types m' device limit' output' memory' c' h' in
    rw (read_entries types m device b limit output memory c a, read_entries types m' device b' limit' output' memory' c' a') (states types m m' device t limit limit' output output' memory memory' a.final a'.final)

-- ---- The same, for whoever holds that two calls left what the definition says

-- a refusal names no catalog, and an answer that does has its length
is_catalog : Answer → Type 0
is_catalog (Ok c) = Unit {0}
is_catalog (Err f) = ⊥

catalog_only : {r : Reason} {p n s : ℕ} → refused_for r p ≡ catalog_with n s → ⊥
unfolding is_catalog
catalog_only h = subst (λ (a : Answer). is_catalog a) (sym h) tt

length_said : Answer → ℕ
length_said (Ok c) = c.length
length_said (Err f) = 0

length_said_lem : {n k s j : ℕ} → catalog_with n s ≡ catalog_with k j → n ≡ k
unfolding length_said
length_said_lem h = ap length_said h

-- an answer that names a catalog comes from an accepted compile, whose bytes the output begins with
record Written (types : Types) (m device : List ℕ) (limit output memory n : ℕ) : Type 0 where
  result : Compiled
  accepts : compiled types m device limit output memory ≡ done result
  begins : take n (compile types m device limit output memory).output_after ≡ result.catalog

written : (types : Types) (m device : List ℕ) (limit output memory n s : ℕ) → (compile types m device limit output memory).answer ≡ catalog_with n s → Written types m device limit output memory n
unfolding compile answer_of output_of
written types m device limit output memory n s h = go (compiled types m device limit output memory) refl h
  where
    go : (o : Outcome Compiled) → compiled types m device limit output memory ≡ o → answer_of o ≡ catalog_with n s → Written types m device limit output memory n
    go (refused r p) e h = absurd (catalog_only h)
    go (done c) e h = record {
      result = c;
      accepts = e;
      begins = rw e (ap (λ (k : ℕ). take k (c.catalog ++ replicate (output - length c.catalog) 0)) (sym (length_said_lem h)) ∙ take-append_seam c.catalog (replicate (output - length c.catalog) 0));
    }

-- what two calls answered and left, in full: if each is what the definition says and both name a catalog, the claim holds of what the outputs begin with
pub edit_rule_calls : (types : Types) (m m' device : List ℕ) → IsBytes m → IsBytes m' → one_tree m m' ≡ true → (limit limit' output output' memory memory' n n' s s' : ℕ) (e e' : Effect)
    → e ≡ compile types m device limit output memory → e' ≡ compile types m' device limit' output' memory' → e.answer ≡ catalog_with n s → e'.answer ≡ catalog_with n' s'
    → Claim m m' (read_catalog (take n e.output_after)) (read_catalog (take n' e'.output_after))
edit_rule_calls types m m' device b b' t limit limit' output output' memory memory' n n' s s' e e' q q' h h' =
    let w = written types m device limit output memory n s (rw q at h) in
    let w' = written types m' device limit' output' memory' n' s' (rw q' at h') in
    rw (q, q', w.begins, w'.begins) (edit_rule types m m' device b b' t limit limit' output output' memory memory' w.result w'.result w.accepts w'.accepts)
