-- The ways of `add_titled` and `add_resource`. Assumes nothing.
use Prim.Native.Nat.{ℕ, suc, ◌+◌, ◌-◌, ◌≤◌, ◌<◌}
use mathlib.Core.Path.{◌≡◌, refl, sym, ap, ap₂, ◌∙◌, subst}
use mathlib.Core.Bool.{Bool}
use mathlib.Core.List.{List, [], ◌∷◌}
use native.Mathlib.Omega.{arith}
use denote.Enum.Declared.{tag_of}
use lib.ListN.{length}
use Rattle.values.specs.contracts.Value.{the_type}
use Rattle.labels.specs.declared.Labels.{Labels}
use Rattle.labels.specs.Sets.{◌∪◌}
use Rattle.values.specs.declared.Labelled.{Labelled}
use Rattle.values.specs.declared.Value.{Value}
use Rattle.values.specs.declared.Value.TheVariants.{Integer, String, Boolean}
use Rattle.values.specs.declared.Refusal.{Refusal}
use Rattle.values.specs.Refusals.{refusal_at}
use Rattle.values.specs.declared.Reason.TheVariants.{WrongKind, Malformed}
use Rattle.wire.specs.Bytes.{byte, two, end_of, fields_in}
use Rattle.rules.specs.Outcome.{Outcome, refused, done, ◌>>=◌, at}
use Rattle.rules.specs.Arithmetic.{string_in}
use Rattle.rules.specs.State.{Entry, State, Context, Known}
use Rattle.rules.specs.Evaluate.{evaluate}
use Rattle.rules.specs.Run.{Given, Declare, evaluate_all, marks_for, add_resource, run}
use Rattle.rules.specs.declared.Kind.TheVariants.{Expression as ExpressionKind, Attribute as AttributeKind}
use Rattle.rules.proofs.Outcome.{All, all_done, all_bind, all_any, all_get}
use Rattle.places.specs.At.{expression_at, attribute_at, attributes_at, statement_at, Stands, StandsAs, Siblings}
use Rattle.places.proofs.Open.{level}
use Rattle.places.proofs.Expressions.{expression_place}
use Rattle.places.proofs.Statements.{resource_opens}
use Rattle.cells.specs.Layout.{trail_of}
use Rattle.cells.specs.Memory.{built_in_of, state_of}
use Rattle.memory.specs.declared.Context.{Context as Here}
use Rattle.memory.specs.Contexts.{context_of}
use Rattle.catalog.specs.Layout.{entry_attributes}
use Rattle.catalog.proofs.Growing.{written_kept}
use Rattle.evaluator.specs.Answers.{refused_by}
use Rattle.evaluator.specs.Known.{Ready, Tells}
use Rattle.evaluator.proofs.Expressions.{Small, operand_at}
use Rattle.resources.specs.Attributes.{Kept, Gathered, not_gathered, gathered}
use Rattle.attributes.specs.Names.{Alike, alike_none, alike}
use Rattle.resources.specs.Entries.{Means, refused_so, Checks, titled_run, RunsTitled, Runs}
use Rattle.resources.proofs.Finishing.{kept_all, within_refused}
use Rattle.std.specs.Prelude.{Result, Ok, Err}

-- what is evaluated stands at the places
all_alike : (m : List ℕ) (d : ℕ) (k : Known) (c : Context) (st : State) (qs : List ℕ) → All (λ (gs : List Given). Alike m gs qs) (evaluate_all k c st (attributes_at m d qs))
unfolding evaluate_all attributes_at attribute_at
all_alike m d k c st [] = all_done alike_none
all_alike m d k c st (q ∷ qs) = all_any (evaluate k c st (expression_at m (d - 1) (q + 5))) λ x. all_bind (all_alike m d k c st qs) λ gs h. all_done (alike h)

-- ---- The ways of `add_titled`

module _ (m w out : List ℕ) (fill room : ℕ) (here : Here) (inner p : ℕ) (x : Labelled) (built : Bool) where
  abbrev marks_here : Known → List Entry → ℕ → ℕ → Labels
  marks_here k es n = marks_for k (context_of here) (state_of w es n room) (attributes_at m (suc inner) (fields_in m (end_of m (p + 5)) (end_of m p)))

  abbrev run_here : Known → List Entry → ℕ → Outcome State
  run_here k es n = titled_run m (suc inner) p x k (context_of here) (state_of w es n room)

  -- the title is no string
  wrong_run : (k : Known) (es : List Entry) (n : ℕ) → ((t : ℕ) → x.value ≡ String t → ⊥) → run_here k es n ≡ refused WrongKind (p + 5)
  unfolding string_in at ◌>>=◌
  wrong_run k es n unlike = go x.value refl
    where
      go : (v : Value) → x.value ≡ v → (at (p + 5) (string_in v) >>= λ t. evaluate_all k (context_of here) (state_of w es n room) (attributes_at m (suc inner) (fields_in m (end_of m (p + 5)) (end_of m p))) >>= λ gs. add_resource k p (two m (p + 3)) t x.labels (marks_here k es n) gs (context_of here) (state_of w es n room)) ≡ refused WrongKind (p + 5)
      go (Integer z) e = refl
      go (String t) e = absurd (unlike t e)
      go (Boolean b) e = refl

  pub titled_wrong : {q : ℕ} {r : Result ℕ Refusal} → (tag_of the_type x.value ≡ 1 → ⊥) → Small q (p + 5) → r ≡ Err (refusal_at WrongKind q) → RunsTitled m w out out fill room here inner p x built r
  titled_wrong {q} {r} unlike small answer = record {
    kept = kept_all out fill;
    within = within_refused fill room answer;
    says = λ s l e b k es n h. subst (λ (v : Result ℕ Refusal). Means w out fill room n es (run_here k es n) v) (sym answer) (refused_so {why = refusal_at WrongKind q} (wrong_run k es n (λ t v. unlike (ap (tag_of the_type) v)) ∙ ap (refused WrongKind) (sym (small.1 l))));
  }

  module _ {title first e end : ℕ} {outer own : Labels} (is : x.value ≡ String title) (o1 : outer ≡ here.path ∪ trail_of w) (o2 : own ≡ outer ∪ x.labels) (first_is : first ≡ end_of m (p + 5)) (end_is : e ≡ end_of m p) (near : Small end e) {out1 : List ℕ} {g : Result ℕ Refusal}
      (gather : (d : ℕ) → d ≡ suc inner → Gathered m w out out1 fill here.scope d first end outer own g) where
    gathered_here : end_of m p ≤ 65535 → Gathered m w out out1 fill here.scope (suc inner) (end_of m (p + 5)) (end_of m p) outer own g
    gathered_here l =
        let same : end ≡ end_of m p = near.1 (omega arith) ∙ end_is in
        subst (λ (j : ℕ). Gathered m w out out1 fill here.scope (suc inner) j (end_of m p) outer own g) first_is (subst (λ (j : ℕ). Gathered m w out out1 fill here.scope (suc inner) first j outer own g) same (gather (suc inner) refl))

    pub gathered_kept : Kept out out1 fill
    gathered_kept = go (gather (suc inner) refl)
      where
        go : {r : Result ℕ Refusal} → Gathered m w out out1 fill here.scope (suc inner) first end outer own r → Kept out out1 fill
        go (not_gathered k t) = k
        go (gathered gs k h f t) = k

    pub gathered_least : {size : ℕ} → g ≡ Ok size → entry_attributes ≤ size
    gathered_least {size} went = go (subst (λ (v : Result ℕ Refusal). Gathered m w out out1 fill here.scope (suc inner) first end outer own v) went (gather (suc inner) refl))
      where
        go : Gathered m w out out1 fill here.scope (suc inner) first end outer own (Ok size) → entry_attributes ≤ size
        go (gathered gs k h f t) = omega (arith, h.grown)

    string_run : (k : Known) (es : List Entry) (n : ℕ) {o : Outcome (List Given)} → o ≡ evaluate_all k (context_of here) (state_of w es n room) (attributes_at m (suc inner) (fields_in m (end_of m (p + 5)) (end_of m p)))
        → (o >>= λ gs. add_resource k p (two m (p + 3)) title x.labels (marks_here k es n) gs (context_of here) (state_of w es n room)) ≡ run_here k es n
    unfolding string_in at ◌>>=◌
    string_run k es n told =
        ap (λ (u : Outcome (List Given)). u >>= λ gs. add_resource k p (two m (p + 3)) title x.labels (marks_here k es n) gs (context_of here) (state_of w es n room)) told
        ∙ ap (λ (v : Value). at (p + 5) (string_in v) >>= λ t. evaluate_all k (context_of here) (state_of w es n room) (attributes_at m (suc inner) (fields_in m (end_of m (p + 5)) (end_of m p))) >>= λ gs. add_resource k p (two m (p + 3)) t x.labels (marks_here k es n) gs (context_of here) (state_of w es n room)) (sym is)

    pub titled_stops : {why : Refusal} → g ≡ Err why → RunsTitled m w out out1 fill room here inner p x built g
    unfolding ◌>>=◌
    titled_stops {why} stop = record {
      kept = gathered_kept;
      within = within_refused fill room stop;
      says = λ s l e b k es n h. subst (λ (v : Result ℕ Refusal). Means w out1 fill room n es (run_here k es n) v) (sym stop) (refused_so {why = why} (sym (string_run k es n (told (subst (λ (v : Result ℕ Refusal). Gathered m w out out1 fill here.scope (suc inner) (end_of m (p + 5)) (end_of m p) outer own v) stop (gathered_here e)) s k es n h))));
    }
      where
        told : Gathered m w out out1 fill here.scope (suc inner) (end_of m (p + 5)) (end_of m p) outer own (Err why) → Siblings m (suc inner) AttributeKind (end_of m (p + 5)) (end_of m p) → (k : Known) (es : List Entry) (n : ℕ) → Ready m w out fill k es
            → refused_by why ≡ evaluate_all k (context_of here) (state_of w es n room) (attributes_at m (suc inner) (fields_in m (end_of m (p + 5)) (end_of m p)))
        told (not_gathered kept t) s k es n h = (t s).says k here.path es n room h

    pub titled_goes_on : {size : ℕ} {out2 : List ℕ} {r : Result ℕ Refusal} → g ≡ Ok size → Checks m w out1 out2 fill size room p first end built title own r → RunsTitled m w out out2 fill room here inner p x built r
    unfolding ◌>>=◌
    titled_goes_on {size} {out2} {r} went checks = record {
      kept = record { front = checks.kept.front ∙ gathered_kept.front; long = checks.kept.long ∙ gathered_kept.long };
      within = checks.within;
      says = λ s l e b k es n h. go (subst (λ (v : Result ℕ Refusal). Gathered m w out out1 fill here.scope (suc inner) (end_of m (p + 5)) (end_of m p) outer own v) went (gathered_here e)) e s b k es n h;
    }
      where
        go : Gathered m w out out1 fill here.scope (suc inner) (end_of m (p + 5)) (end_of m p) outer own (Ok size) → end_of m p ≤ 65535 → Siblings m (suc inner) AttributeKind (end_of m (p + 5)) (end_of m p) → built ≡ built_in_of w (two m (p + 3))
            → (k : Known) (es : List Entry) (n : ℕ) → Ready m w out fill k es → Means w out2 fill room n es (run_here k es n) r
        go (gathered gs kept holding fits t) l s b k es n h =
            let same : end ≡ end_of m p = near.1 (omega arith) ∙ end_is in
            let told : done gs ≡ evaluate_all k (context_of here) (state_of w es n room) (attributes_at m (suc inner) (fields_in m (end_of m (p + 5)) (end_of m p))) = (t s).says k here.path es n room h in
            let places : fields_in m (end_of m (p + 5)) (end_of m p) ≡ fields_in m first end = ap₂ (λ (a z : ℕ). fields_in m a z) (sym first_is) (sym same) in
            let alikes : Alike m gs (fields_in m first end) = subst (λ (qs : List ℕ). Alike m gs qs) places (all_get (all_alike m (suc inner) k (context_of here) (state_of w es n room) (fields_in m (end_of m (p + 5)) (end_of m p))) (sym told)) in
            subst (λ (o : Outcome State). Means w out2 fill room n es o r) (string_run k es n told)
            (checks.says k (context_of here) es n gs x.labels outer (marks_here k es n) (h.known.built_ins (two m (p + 3)) ∙ sym b) (written_kept kept.front h.catalog) h.index h.unique o1 o2 holding fits alikes)

-- ---- The ways of `add_resource`

module _ (m w out : List ℕ) (fill room : ℕ) (here : Here) (d p : ℕ) (built : Bool) where
  -- a resource and its title have a level each
  pub resource_flat : {r : Result ℕ Refusal} → d < 2 → r ≡ Err (refusal_at Malformed p) → Runs m w out out fill room here d p built r
  resource_flat flat answer = record {
    kept = kept_all out fill;
    within = within_refused fill room answer;
    says = λ s by b k declare es n h. absurd (omega (arith, level s, level (resource_opens s (level s) by).title.stands));
  }

  module _ {b : ℕ} (deep : d ≡ suc b) (short : length m ≤ 65535) {q : ℕ} (small : Small q (p + 5)) {u : Outcome Labelled} (told : StandsAs m b ExpressionKind q → Tells m w out fill here.scope u (λ k c st. evaluate k c st (expression_at m b q))) where
    pub resource_run : (s : Stands m d p) (by : byte m p ≡ 0x25) (k : Known) (declare : Declare) (es : List Entry) (n : ℕ) → Ready m w out fill k es
        → (u >>= λ x. titled_run m b p x k (context_of here) (state_of w es n room))
        ≡ run k declare (statement_at m d p) (context_of here) (state_of w es n room)
    unfolding run
    resource_run s by k declare es n h =
        let o = resource_opens s deep by in
        let st = state_of w es n room in
        ap₂ (λ (u : Outcome Labelled) (l : ℕ). u >>= λ x. at l (string_in x.value) >>= λ t. evaluate_all k (context_of here) (state_of w es n room) (attributes_at m b (fields_in m (end_of m (p + 5)) (end_of m p))) >>= λ gs. add_resource k p (two m (p + 3)) t x.labels (marks_for k (context_of here) (state_of w es n room) (attributes_at m b (fields_in m (end_of m (p + 5)) (end_of m p)))) gs (context_of here) (state_of w es n room))
        ((operand_at (λ l. Tells m w out fill here.scope u (λ k c st. evaluate k c st (expression_at m b l))) short o.title small told).says k here.path es n room h) (sym (expression_place m b (p + 5)))
        ∙ ap (λ (z : _). run k declare z (context_of here) (state_of w es n room)) (sym o.tree)

    pub resource_stops : {why : Refusal} → u ≡ refused_by why → Runs m w out out fill room here d p built (Err why)
    unfolding ◌>>=◌
    resource_stops {why} is = record {
      kept = kept_all out fill;
      within = within_refused fill room {why = why} refl;
      says = λ s by b k declare es n h. refused_so {why = why} (sym (rw is at (resource_run s by k declare es n h)));
    }

    pub resource_goes_on : (x : Labelled) {out' : List ℕ} {r : Result ℕ Refusal} {inner : ℕ} → u ≡ done x → b ≡ suc inner → RunsTitled m w out out' fill room here inner p x built r → Runs m w out out' fill room here d p built r
    unfolding ◌>>=◌
    resource_goes_on x {out'} {r} {inner} is above titled = record {
      kept = titled.kept;
      within = titled.within;
      says = λ s by y k declare es n h.
          let o = resource_opens s deep by in
          subst (λ (u : Outcome State). Means w out' fill room n es u r) (rw (is, above) at (resource_run s by k declare es n h))
          (titled.says (rw above at o.attributes) (omega (arith, o.title.stands.ends)) (omega (arith, s.ends)) y k es n h);
    }
