-- The ways of `check`. Assumes nothing.
use Prim.Native.Nat.{ℕ, ◌+◌, ◌-◌}
use mathlib.Core.Path.{◌≡◌, refl, sym, ap, ◌∙◌, subst}
use mathlib.Core.Bool.{Bool, true, false, not}
use mathlib.Core.List.{List, [], ◌∷◌, ◌++◌}
use native.Mathlib.Omega.{arith}
use lib.ListN.{length, drop}
use Rattle.labels.specs.declared.Labels.{Labels}
use Rattle.labels.specs.Sets.{◌∪◌}
use Rattle.values.specs.Refusals.{refusal_at}
use Rattle.values.specs.declared.Reason.TheVariants.{Unknown, ResourceAgain, AttributeAgain, OutputFull}
use Rattle.wire.specs.Bytes.{two, fields_in}
use Rattle.rules.specs.Outcome.{Outcome, refused, done, ◌>>=◌, refuse_if, under}
use Rattle.rules.specs.State.{Attribute, Entry, State, Context, Known, with_entry, SetParts}
use Rattle.rules.specs.Evaluate.{any, is_entry}
use Rattle.rules.specs.Catalog.{entry_bytes, catalog_bytes}
use Rattle.rules.specs.Run.{Given, named_once, with_path_and_trail, attributes_under, entry_from, add_entry, add_resource, stored, parts_from}
use Rattle.rules.specs.Compile.{onto}
use Rattle.rules.proofs.Lists.{Each}
use Rattle.rules.proofs.ReadBack.{FitsAttribute}
use Rattle.rules.proofs.Unique.{UniqueEntries, unique}
use Rattle.cells.specs.Memory.{state_of}
use Rattle.catalog.specs.Making.{entry, Holding}
use Rattle.catalog.specs.Finding.{Written}
use Rattle.catalog.proofs.Order.{onto_last, any_in_order}
use Rattle.catalog_index.specs.Index.{Indexed}
use Rattle.attributes.specs.Names.{repeated_in}
use Rattle.attributes.proofs.Repeats.{repeated_outcome, named_places}
use Rattle.resources.specs.Attributes.{attributes_for, Kept}
use Rattle.resources.specs.Entries.{Within, Entered, full, entered, Means, refused_so, done_so, Checks}
use Rattle.resources.proofs.Finishing.{kept_all, within_refused}
use Rattle.rules.specs.Ranges.{Each, none_left, also, FitsEntry}
use Rattle.std.specs.Prelude.{Option, Some, None, Result, Err}
use Rattle.values.specs.declared.Refusal.{Refusal}

-- ---- The checks one after the other

module _ (k : Known) (p t title : ℕ) (labels : Labels) (marks : ℕ → Labels) (gs : List Given) (c : Context) (st : State) where
  not_known : k.built_in t ≡ false → add_resource k p t title labels marks gs c st ≡ refused Unknown p
  unfolding add_resource refuse_if ◌>>=◌
  not_known e = rw e

  there_already : k.built_in t ≡ true → any (is_entry t title) st.entries ≡ true → add_resource k p t title labels marks gs c st ≡ refused ResourceAgain p
  unfolding add_resource refuse_if ◌>>=◌
  there_already e f = rw (e, f)

  named_twice : {q : ℕ} → k.built_in t ≡ true → any (is_entry t title) st.entries ≡ false → named_once [] gs ≡ refused AttributeAgain q → add_resource k p t title labels marks gs c st ≡ refused AttributeAgain q
  unfolding add_resource refuse_if ◌>>=◌
  named_twice e f g = rw (e, f, g)

  all_right : k.built_in t ≡ true → any (is_entry t title) st.entries ≡ false → named_once [] gs ≡ done tt → add_resource k p t title labels marks gs c st ≡ add_entry p (entry_from t title labels marks c st gs) st
  unfolding add_resource refuse_if ◌>>=◌
  all_right e f g = rw (e, f, g)

under_for : (outer own : Labels) (c : Context) (st : State) (gs : List Given) → outer ≡ c.path ∪ st.trail → attributes_under own c st gs ≡ attributes_for outer own gs
unfolding attributes_under attributes_for stored
under_for outer own c st [] e = refl
under_for outer own c st (g ∷ gs) e =
    (λ i. record { name = g.name; content = under own (under (sym e i) g.content) } ∷ under_for outer own c st gs e i)

-- an entry with the parts of its sets, which its bytes do not show
abbrev entry_with : (t title : ℕ) → Labels → List Attribute → (ℕ → SetParts) → Entry
entry_with t title own ats parts = record { type = t; title = title; labels = own; attributes = ats; parts = parts }

entry_for_lem : (t title : ℕ) (labels outer own : Labels) (marks : ℕ → Labels) (c : Context) (st : State) (gs : List Given) → outer ≡ c.path ∪ st.trail → own ≡ outer ∪ labels
    → entry_from t title labels marks c st gs ≡ entry_with t title own (attributes_for outer own gs) (parts_from labels c st marks gs)
unfolding entry_from with_path_and_trail
entry_for_lem t title labels outer own marks c st gs e f =
    let set : (c.path ∪ st.trail) ∪ labels ≡ own = ap (λ (l : Labels). l ∪ labels) (sym e) ∙ sym f in
    ap (λ (l : Labels). entry_with t title l (attributes_under l c st gs) (parts_from labels c st marks gs)) set ∙ ap (λ (ats : List Attribute). entry_with t title own ats (parts_from labels c st marks gs)) (under_for outer own c st gs e)

-- what stands for an entry as its bytes show it stands for it with any parts
module _ (t title : ℕ) (own : Labels) (ats : List Attribute) (parts : ℕ → SetParts) where
  last_bytes : (es : List Entry) → catalog_bytes (es ++ (entry t title own ats ∷ [])) ≡ catalog_bytes (es ++ (entry_with t title own ats parts ∷ []))
  unfolding catalog_bytes entry_bytes
  last_bytes [] = refl
  last_bytes (e ∷ es) = ap (λ (b : List ℕ). entry_bytes e ++ b) (last_bytes es)

  last_fits : (es : List Entry) → Each FitsEntry (es ++ (entry t title own ats ∷ [])) → Each FitsEntry (es ++ (entry_with t title own ats parts ∷ []))
  last_fits [] (also f none_left) = also (record { type = f.type; title = f.title; labels = f.labels; attributes = f.attributes }) none_left
  last_fits (e ∷ es) (also f fs) = also f (last_fits es fs)

  written_with : {out : List ℕ} {fill : ℕ} (es : List Entry) → Written out fill (es ++ (entry t title own ats ∷ [])) → Written out fill (es ++ (entry_with t title own ats parts ∷ []))
  written_with es w = record { bytes = w.bytes ∙ last_bytes es; fits = last_fits es w.fits }

not_true : (b : Bool) → not b ≡ true → b ≡ false
not_true true e = sym e
not_true false e = refl

not_false : (b : Bool) → not b ≡ false → b ≡ true
not_false true e = refl
not_false false e = sym e

-- ---- The ways

module _ (m w out : List ℕ) (fill size room p first end : ℕ) (built : Bool) (title : ℕ) (own : Labels) where
  pub check_unknown : {r : Result ℕ Refusal} → not built ≡ true → r ≡ Err (refusal_at Unknown p) → Checks m w out out fill size room p first end built title own r
  check_unknown {r} is answer = record {
    kept = kept_all out fill;
    within = within_refused fill room answer;
    says = λ k c es n gs labels outer marks b written i u o1 o2 h fits a.
        subst (λ (v : Result ℕ Refusal). Means w out fill room n es (add_resource k p (two m (p + 3)) title labels marks gs c (state_of w es n room)) v) (sym answer)
        (refused_so (not_known k p (two m (p + 3)) title labels marks gs c (state_of w es n room) (b ∙ not_true built is)));
  }

  pub check_built : {out' : List ℕ} {r : Result ℕ Refusal} → not built ≡ false → Checks m w out out' fill size room p first end true title own r → Checks m w out out' fill size room p first end built title own r
  check_built known checks = rw (not_false built known) checks

  module _ (known : not built ≡ false) {kind : ℕ} (read : kind ≡ two m (p + 3)) {has : Bool} (looked : (es : List Entry) → Written out fill es → Indexed w es → has ≡ any (is_entry kind title) es) where
    is : built ≡ true
    is = not_false built known

    found : (es : List Entry) → Written out fill (onto es []) → Indexed w (onto es []) → UniqueEntries es → has ≡ any (is_entry (two m (p + 3)) title) es
    found es written i u = looked (onto es []) written i ∙ any_in_order kind title es u ∙ ap (λ (t : ℕ). any (is_entry t title) es) read

    pub check_again : {r : Result ℕ Refusal} → has ≡ true → r ≡ Err (refusal_at ResourceAgain p) → Checks m w out out fill size room p first end built title own r
    unfolding state_of
    check_again {r} there answer = record {
      kept = kept_all out fill;
      within = within_refused fill room answer;
      says = λ k c es n gs labels outer marks b written i u o1 o2 h fits a.
          subst (λ (v : Result ℕ Refusal). Means w out fill room n es (add_resource k p (two m (p + 3)) title labels marks gs c (state_of w es n room)) v) (sym answer)
          (refused_so (there_already k p (two m (p + 3)) title labels marks gs c (state_of w es n room) (b ∙ is) (sym (found es written i u) ∙ there)));
    }

    module _ (no : has ≡ false) {f : Option ℕ} (repeated : f ≡ repeated_in m [] (fields_in m first end)) where
      pub check_twice : {q : ℕ} {r : Result ℕ Refusal} → f ≡ Some q → r ≡ Err (refusal_at AttributeAgain q) → Checks m w out out fill size room p first end built title own r
      unfolding state_of repeated_outcome
      check_twice {q} {r} at answer = record {
        kept = kept_all out fill;
        within = within_refused fill room answer;
        says = λ k c es n gs labels outer marks b written i u o1 o2 h fits a.
            subst (λ (v : Result ℕ Refusal). Means w out fill room n es (add_resource k p (two m (p + 3)) title labels marks gs c (state_of w es n room)) v) (sym answer)
            (refused_so (named_twice k p (two m (p + 3)) title labels marks gs c (state_of w es n room) (b ∙ is) (sym (found es written i u) ∙ no) (named_places m repeated a ∙ ap repeated_outcome at)));
      }

      means_entered : {out' : List ℕ} {r : Result ℕ Refusal} (n : ℕ) (es : List Entry) (ats : List Attribute) (parts : ℕ → SetParts) → UniqueEntries es → any (is_entry kind title) es ≡ false → Entered out' fill room p (onto es []) (entry kind title own ats) r
          → Means w out' fill room n es (add_entry p (entry_with kind title own ats parts) (state_of w es n room)) r
      unfolding add_entry state_of with_entry entry_bytes refuse_if ◌>>=◌
      means_entered n es ats parts u new (full e) = refused_so {why = refusal_at OutputFull p} (rw e)
      means_entered {out'} n es ats parts u new (entered {f = g} size_is e written) =
          let left : room - length (entry_bytes (entry_with kind title own ats parts)) ≡ room - (g - fill) = omega arith in
          done_so {f = g} (entry_with kind title own ats parts) (rw (e, left)) (subst (λ (l : List Entry). Written out' g l) (sym (onto_last (entry_with kind title own ats parts) es)) (written_with kind title own ats parts (onto es []) written)) (unique new u)

      pub check_rest : {out' : List ℕ} {r : Result ℕ Refusal} → f ≡ None → Kept out out' fill → Within fill room r → ((ats : List Attribute) (es : List Entry) → Holding (drop fill out) size ats → Each FitsAttribute ats → Written out fill es → Entered out' fill room p es (entry kind title own ats) r)
          → Checks m w out out' fill size room p first end built title own r
      unfolding state_of repeated_outcome
      check_rest {out'} {r} none kept within finished = record {
        kept = kept;
        within = within;
        says = λ k c es n gs labels outer marks b written i u o1 o2 h fits a.
            let st = state_of w es n room in
            let new : any (is_entry kind title) es ≡ false = sym (any_in_order kind title es u) ∙ sym (looked (onto es []) written i) ∙ no in
            let same : add_resource k p (two m (p + 3)) title labels marks gs c (state_of w es n room) ≡ add_entry p (entry_with kind title own (attributes_for outer own gs) (parts_from labels c (state_of w es n room) marks gs)) (state_of w es n room) =
            all_right k p (two m (p + 3)) title labels marks gs c (state_of w es n room) (b ∙ is) (sym (found es written i u) ∙ no) (named_places m repeated a ∙ ap repeated_outcome none)
            ∙ ap (λ (e : Entry). add_entry p e (state_of w es n room)) (entry_for_lem (two m (p + 3)) title labels outer own marks c (state_of w es n room) gs o1 o2)
            ∙ ap (λ (t : ℕ). add_entry p (entry_with t title own (attributes_for outer own gs) (parts_from labels c (state_of w es n room) marks gs)) (state_of w es n room)) (sym read) in
            subst (λ (o : Outcome State). Means w out' fill room n es o r) (sym same) (means_entered n es (attributes_for outer own gs) (parts_from labels c (state_of w es n room) marks gs) u new (finished (attributes_for outer own gs) (onto es []) h fits written));
      }
