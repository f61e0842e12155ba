-- Why does this line count? What the tool's answers mean, in the words of the third request of document 02: the laws of `why` (specs/Why.antt). First
-- what it is to come to a constant; then that what is told is so, and that each answer comes back precisely when it should. Put together from the laws
-- of the parts (SetParts.antt), of the place (Strikes.antt, LabelsMet.antt) and of a compile's own refusals (Refusals.antt). Assumes nothing.
use Prim.Native.Nat.{ℕ, ◌<◌}
use mathlib.Core.Path.{◌≡◌, refl, sym, ap, subst, ◌∙◌}
use mathlib.Core.Bool.{Bool, true, false, true≢false}
use mathlib.Core.List.{List}
use mathlib.Core.Option.{some}
use native.Mathlib.Omega.{arith}
use Rattle.labels.specs.Sets.{has}
use Rattle.values.specs.declared.Labelled.{Labelled}
use Rattle.values.specs.declared.Value.TheVariants.{Boolean}
use Rattle.values.specs.declared.Reason.{Reason}
use Rattle.values.specs.declared.Reason.TheVariants.{Malformed, NoSuchAttribute}
use Rattle.values.specs.declared.SetPart.{SetPart}
use Rattle.values.specs.Numbers.{number_of}
use Rattle.rules.specs.Outcome.{Outcome, refused, done, ◌>>=◌, refuse_if, at, joining}
use Rattle.rules.specs.Arithmetic.{boolean_in}
use Rattle.rules.specs.Tree.{Constant, and, Expression, constant, operation}
use Rattle.rules.specs.Read.{manifest_of}
use Rattle.rules.specs.State.{Entry, State, Context, Known}
use Rattle.rules.specs.Evaluate.{first_with, is_entry, is_attribute, booleans, operate, of_constant, come_to, evaluate}
use Rattle.rules.specs.Types.{Types}
use Rattle.rules.specs.Compile.{none_struck_out, run_manifest, final_state}
use Rattle.rules.specs.EditRule.{IsBytes}
use Rattle.rules.specs.Why.{first_part, without_limits, is_refused, comes_to_one, lowest_place, Found, found_in, answer_for, explained, explanation_of, why}
use Rattle.rules.proofs.Lists.{when_true, when_false, perhaps_itself}
use Rattle.rules.proofs.Outcome.{All, all_done, all_bind, all_any, all_found, all_get}
use Rattle.rules.proofs.Refusals.{IfRefused, accepts, refusal_bind, refusal_missing, refusal_known, refusal_get, OfCompile, of_paper, of_types, own_refusals}
use Rattle.rules.proofs.Strikes.{struck_same, Lowest}
use Rattle.rules.proofs.SetParts.{First, Asked, Explained, explained_says, explained_answer}
use Rattle.rules.proofs.LabelsMet.{place_met}
use Rattle.std.specs.Prelude.{Ok, Err, Some, None}
use Rattle.values.specs.Answers.{Explanation, among_none, among_part, refused_for}

-- ---- "a constant with that label that the compile evaluated or tried as a pattern"

-- The definition asks whether a compile comes to a constant by striking it out (`comes_to_one`). That is a fair question: a constant struck out is refused
-- where it is evaluated, and any other is evaluated as ever;
module _ (known : Known) (here : Context) (st : State) where
  pub struck_refused : (v : Constant) → known.struck_out v ≡ true → evaluate known here st (constant v) ≡ refused Malformed v.place
  unfolding evaluate come_to refuse_if ◌>>=◌
  struck_refused v struck = rw struck refl

  pub kept_evaluated : (v : Constant) → known.struck_out v ≡ false → evaluate known here st (constant v) ≡ done (of_constant v)
  unfolding evaluate come_to refuse_if ◌>>=◌
  kept_evaluated v kept = rw kept refl

  -- what is skipped may be struck out or not, as the right side of an "and" whose left side is false;
  pub skipped : (p : ℕ) (a b c : Expression) {x : Labelled} → evaluate known here st a ≡ done x → x.value ≡ Boolean false → evaluate known here st (operation p and a b) ≡ evaluate known here st (operation p and a c)
  unfolding evaluate operate booleans boolean_in at ◌>>=◌ joining
  skipped p a b c left decides = rw left (rw decides refl)

-- and constants that a compile does not come to can be struck out and nothing changes: it ends in the same state.
pub not_come_to : (types : Types) (m device : List ℕ) (S : Constant → Bool) → comes_to_one types m device S ≡ false → run_manifest S types (manifest_of m) device without_limits without_limits ≡ run_manifest none_struck_out types (manifest_of m) device without_limits without_limits
unfolding comes_to_one is_refused
not_come_to types m device S never = go (run_manifest S types (manifest_of m) device without_limits without_limits) refl never
  where
    go : (o : Outcome State) → run_manifest S types (manifest_of m) device without_limits without_limits ≡ o → is_refused o ≡ false → run_manifest S types (manifest_of m) device without_limits without_limits ≡ run_manifest none_struck_out types (manifest_of m) device without_limits without_limits
    go (refused r p) e h = absurd (true≢false h)
    go (done st) e h = e ∙ sym (struck_same S types (manifest_of m) device without_limits without_limits e)

-- ---- The attribute asked for

refused_not_done : {A : Type 0} {o : Outcome A} {r : Reason} {p : ℕ} {a : A} → o ≡ refused r p → o ≡ done a → ⊥
unfolding is_refused
refused_not_done e h = true≢false (sym (ap is_refused e) ∙ ap is_refused h)

-- where it stands in the catalog
record StandsIn (entries : List Entry) (f : Found) : Type 0 where
  type : ℕ
  title : ℕ
  name : ℕ
  entry : Entry
  entry_there : first_with (is_entry type title) entries ≡ some entry
  attribute_there : first_with (is_attribute name) entry.attributes ≡ some f.attribute

found_stands : (strings : List (List ℕ)) (entries : List Entry) (type title attribute : List ℕ) → All (StandsIn entries) (found_in strings entries type title attribute)
unfolding found_in
found_stands strings entries type title attribute =
    all_any _ λ t. all_any _ λ n. all_any _ λ name. all_bind (all_found _ _ (perhaps_itself (first_with (is_entry t n) entries))) λ e there.
    all_bind (all_found _ _ (perhaps_itself (first_with (is_attribute name) e.attributes))) λ a here. all_done (record { type = t; title = n; name = name; entry = e; entry_there = there; attribute_there = here })

-- it is 27 at 0 where there is none
record Is27 (r : Reason) (p : ℕ) : Type 0 where
  reason : r ≡ NoSuchAttribute
  place : p ≡ 0

is27 : Is27 NoSuchAttribute 0
is27 = record { reason = refl; place = refl }

found_refusal : (strings : List (List ℕ)) (entries : List Entry) (type title attribute : List ℕ) → IfRefused Is27 (found_in strings entries type title attribute)
unfolding found_in
found_refusal strings entries type title attribute =
    refusal_bind (refusal_missing _ _ _ is27) λ t. refusal_bind (refusal_missing _ _ _ is27) λ n. refusal_bind (refusal_missing _ _ _ is27) λ name.
    refusal_bind (refusal_missing _ _ _ is27) λ e. refusal_bind (refusal_missing _ _ _ is27) λ a. accepts

-- ---- What is told

module _ (types : Types) (m device type title attribute : List ℕ) (label memory : ℕ) where
  -- how the compile ends, given no limits; the attribute in its catalog; the answer
  abbrev pub ending : Outcome State
  ending = final_state types m device without_limits without_limits memory

  abbrev pub attribute_in : State → Outcome Found
  attribute_in st = found_in (manifest_of m).strings st.entries type title attribute

  abbrev pub told : Explanation
  told = (why types m device type title attribute label memory).answer

  -- "the catalog has no such attribute"
  pub record NoSuch (st : State) : Type 0 where
    pub missing : (f : Found) → attribute_in st ≡ done f → ⊥

  -- A refusal: "27, the catalog has no such attribute; it follows all of the compile's own refusals", and these are 1 to 23 and 28. So either the compile is
  -- refused so, or it is accepted and its catalog has no such attribute.
  pub data TellsRefused (r : Reason) (p : ℕ) : Type 0 where
    by_compile : ending ≡ refused r p → OfCompile types r p → TellsRefused r p
    no_such : {st : State} → ending ≡ done st → NoSuch st → r ≡ NoSuchAttribute → p ≡ 0 → TellsRefused r p

  -- Not among them: the catalog has the attribute, and "the set lacks the label".
  pub record TellsNot : Type 0 where
    pub asked : Asked types m device type title attribute memory
    pub lacks : has asked.found.attribute.content.labels label ≡ false

  -- A part and a place: the catalog has the attribute, and its set, which is the union of its parts (`asked.union`), has the label. The part is "the first
  -- part of that set holding the label": it holds it, and no part before it does. The place is "the lowest place of a constant with that label that the
  -- compile evaluated or tried as a pattern": it came to one there, and to none before it.
  pub record TellsAmong (part : SetPart) (place : ℕ) : Type 0 where
    pub asked : Asked types m device type title attribute memory
    pub holds : has asked.found.attribute.content.labels label ≡ true
    pub first : First asked.found.parts label part
    pub lowest : IsBytes m → label < 256 → Lowest types m device label place

  abbrev pub Tells : Explanation → Type 0
  Tells (Ok (Some a)) = TellsAmong a.part a.place
  Tells (Ok None) = TellsNot
  Tells (Err f) = TellsRefused f.reason f.place

  explained_refused : IfRefused TellsRefused (explained types m device type title attribute label memory)
  unfolding explained
  explained_refused =
      refusal_known ending (λ r p e. by_compile e (refusal_get (own_refusals types m device without_limits without_limits memory) e)) λ st ended.
      refusal_known (attribute_in st) (λ r p e. let is : Is27 r p = refusal_get (found_refusal (manifest_of m).strings st.entries type title attribute) e in no_such ended (record { missing = λ f h. refused_not_done e h }) is.reason is.place) λ f _.
      accepts

  -- there is a lowest place wherever the set has the label
  asked_lowest : (asked : Asked types m device type title attribute memory) → has asked.found.attribute.content.labels label ≡ true → IsBytes m → label < 256 → Lowest types m device label (lowest_place types m device label)
  asked_lowest asked holds bytes small =
      let s : StandsIn asked.st.entries asked.found = all_get (found_stands (manifest_of m).strings asked.st.entries type title attribute) asked.looked_up in
      place_met types m device label bytes small memory asked.ended s.type s.title s.name s.entry_there s.attribute_there holds

  explanation_tells : (x : Explanation) → Explained types m device type title attribute label memory x → Tells x
  explanation_tells (Ok (Some a)) e = record { asked = e.asked; holds = e.says.holds; first = e.says.first; lowest = λ bytes small. rw e.says.place_lowest (asked_lowest e.asked e.says.holds bytes small) }
  explanation_tells (Ok None) e = record { asked = e.asked; lacks = e.says }
  explanation_tells (Err f) e = absurd e.says

  -- THE FIRST LAW: what is told is so.
  pub told_so : {x : Explanation} → told ≡ x → Tells x
  unfolding why explanation_of
  told_so e = subst Tells e (go (explained types m device type title attribute label memory) refl)
    where
      go : (o : Outcome Explanation) → explained types m device type title attribute label memory ≡ o → Tells (explanation_of o)
      go (refused r p) h = refusal_get explained_refused h
      go (done x) h = explanation_tells x (explained_says types m device type title attribute label memory h)

  -- ---- When it is told

  module _ {st : State} {f : Found} (ended : ending ≡ done st) (there : attribute_in st ≡ done f) where
    answered : told ≡ answer_for label (lowest_place types m device label) f
    unfolding why explanation_of
    answered = ap explanation_of (explained_answer types m device type title attribute label memory ended there)

    -- THE SECOND LAW: where the set has the label, its first part and the lowest place are told.
    pub among : has f.attribute.content.labels label ≡ true → told ≡ among_part (first_part f.parts label) (lowest_place types m device label)
    unfolding answer_for
    among holds = answered ∙ when_true _ _ _ holds

    -- THE THIRD LAW: ""Not among them" comes back precisely when the set lacks the label." It does then, and at no other time.
    pub not_among : has f.attribute.content.labels label ≡ false → told ≡ among_none
    unfolding answer_for
    not_among lacks = answered ∙ when_false _ _ _ lacks

    pub not_among_only : told ≡ among_none → has f.attribute.content.labels label ≡ false
    not_among_only e = go (has f.attribute.content.labels label) refl
      where
        go : (b : Bool) → has f.attribute.content.labels label ≡ b → b ≡ false
        go true holds = let both = sym (among holds) ∙ e in let z : ◌≡◌ {A = ℕ} 0 1 = cc in absurd (omega arith)
        go false lacks = refl

  -- THE FOURTH LAW: "27, the catalog has no such attribute". It is told where the compile is accepted and that is so, and at no other time.
  pub no_attribute : {st : State} → ending ≡ done st → NoSuch st → told ≡ refused_for NoSuchAttribute 0
  unfolding why explained explanation_of ◌>>=◌
  no_attribute {st} ended none = rw ended (go (attribute_in st) refl)
    where
      go : (o : Outcome Found) → attribute_in st ≡ o → explanation_of (o >>= λ f. done (answer_for label (lowest_place types m device label) f)) ≡ refused_for NoSuchAttribute 0
      go (refused r p) e = let is : Is27 r p = refusal_get (found_refusal (manifest_of m).strings st.entries type title attribute) e in rw (is.reason, is.place) refl
      go (done f) e = absurd (none.missing f e)

  pub record NoAttribute : Type 0 where
    pub st : State
    pub ended : ending ≡ done st
    pub none : NoSuch st

  pub no_attribute_only : {p : ℕ} → told ≡ refused_for NoSuchAttribute p → NoAttribute
  unfolding number_of
  no_attribute_only {p} e = go (told_so e)
    where
      go : TellsRefused NoSuchAttribute p → NoAttribute
      go (by_compile refusal (of_paper own)) = absurd (omega (arith, own))
      go (by_compile refusal (of_types is there)) = let z : ◌≡◌ {A = ℕ} 27 28 = ap number_of is in absurd (omega (arith, z))
      go (no_such ended none is at_zero) = record { st = _; ended = ended; none = none }

  -- THE FIFTH LAW: 27 "follows all of the compile's own refusals". These are told as they are, with number and place, and no other refusal is.
  pub compile_refused : {r : Reason} {p : ℕ} → ending ≡ refused r p → told ≡ refused_for r p
  unfolding why explained explanation_of ◌>>=◌
  compile_refused e = rw e refl

  pub compile_refused_only : {r : Reason} {p : ℕ} → told ≡ refused_for r p → (r ≡ NoSuchAttribute → ⊥) → ending ≡ refused r p
  compile_refused_only {r} {p} e other = go (told_so e)
    where
      go : TellsRefused r p → ending ≡ refused r p
      go (by_compile refusal own) = refusal
      go (no_such ended none is at_zero) = absurd (other is)
