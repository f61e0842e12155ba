-- The ways of `evaluate_attributes`: 26s evaluated one after the other. Assumes nothing.
use Prim.Native.Nat.{ℕ, suc, ◌+◌, ◌-◌, ◌≤◌, ◌<◌}
use mathlib.Core.Path.{◌≡◌, refl, sym, ap, ◌∙◌, subst}
use mathlib.Core.List.{List, [], ◌∷◌, ◌++◌, append_assoc, append-nil}
use mathlib.Core.Option.{none}
use native.Mathlib.Omega.{arith}
use Rattle.labels.specs.declared.Labels.{Labels}
use Rattle.values.specs.declared.Labelled.{Labelled}
use Rattle.values.specs.declared.Refusal.{Refusal}
use Rattle.wire.specs.Bytes.{two, end_of, fields_in}
use Rattle.rules.specs.Outcome.{Outcome, refused, done, ◌>>=◌}
use Rattle.rules.specs.State.{Entry, Known}
use Rattle.rules.specs.Evaluate.{evaluate}
use Rattle.rules.specs.Run.{Given, evaluate_all}
use Rattle.rules.specs.declared.Kind.TheVariants.{Expression as ExpressionKind, Attribute as AttributeKind}
use Rattle.places.specs.At.{expression_at, attribute_at, attributes_at, StandsAs, Siblings}
use Rattle.places.proofs.Open.{level}
use Rattle.places.proofs.Parts.{FirstSibling, first_sibling, no_sibling}
use Rattle.places.proofs.Statements.{attribute_opens}
use Rattle.cells.specs.Memory.{state_of}
use Rattle.memory.specs.declared.Scope.{Scope}
use Rattle.memory.specs.Contexts.{context_in}
use Rattle.evaluator.specs.Answers.{refused_by}
use Rattle.evaluator.specs.Known.{Ready, Tells, Sized}
use Rattle.evaluator.proofs.Expressions.{resized}
use Rattle.attributes.specs.Names.{Alike, alike_none, alike}
use Rattle.attributes.specs.Table.{given_at, Gives, Adds}
use Rattle.attributes.specs.Evaluated.{GivenIn, not_given, given}
use Rattle.attributes.proofs.Table.{gives_nothing}
use Rattle.std.specs.Prelude.{Ok, Err}

-- ---- What is left of the attributes

-- outcomes with the attributes before them
unfoldable pub after : List Given → Outcome (List Given) → Outcome (List Given)
after gs o = o >>= λ hs. done (gs ++ hs)

after_none : (o : Outcome (List Given)) → after [] o ≡ o
unfolding after ◌>>=◌
after_none (refused r p) = refl
after_none (done hs) = refl

after_one : (gs : List Given) (g : Given) (o : Outcome (List Given)) → after gs (o >>= λ hs. done (g ∷ hs)) ≡ after (gs ++ (g ∷ [])) o
unfolding after ◌>>=◌
after_one gs g (refused r p) = refl
after_one gs g (done hs) = ap done (sym (append_assoc gs (g ∷ []) hs))

-- what is left from q on says, after gs, what all of them say
pub record Rest (m w out : List ℕ) (fill : ℕ) (scope : Scope) (d first end q : ℕ) (gs : List Given) : Type 0 where
  pub attributes : Siblings m d AttributeKind q end
  pub says : (k : Known) (path : Labels) (es : List Entry) (n r : ℕ) → Ready m w out fill k es
      → after gs (evaluate_all k (context_in scope path) (state_of w es n r) (attributes_at m d (fields_in m q end))) ≡ evaluate_all k (context_in scope path) (state_of w es n r) (attributes_at m d (fields_in m first end))

pub rest_begins : {m w out : List ℕ} {fill : ℕ} {scope : Scope} {d first end : ℕ} → Siblings m d AttributeKind first end → Rest m w out fill scope d first end first []
rest_begins {m} {w} {scope = scope} {d = d} {first = first} {end = end} s = record { attributes = s; says = λ k path es n r h. after_none (evaluate_all k (context_in scope path) (state_of w es n r) (attributes_at m d (fields_in m first end))) }

module _ {m w out : List ℕ} {fill : ℕ} {scope : Scope} {d first end q : ℕ} {gs : List Given} (left : Rest m w out fill scope d first end q gs) where
  module _ (b : ℕ) (deep : d ≡ suc b) (more : q < end) {o : Outcome Labelled} (told : StandsAs m b ExpressionKind (q + 5) → Tells m w out fill scope o (λ k c st. evaluate k c st (expression_at m b (q + 5)))) where
    here : FirstSibling m d AttributeKind q end
    here = first_sibling left.attributes more

    -- the answer for the attribute at q
    answer : (k : Known) (path : Labels) (es : List Entry) (n r : ℕ) → Ready m w out fill k es
        → after gs (o >>= λ x. evaluate_all k (context_in scope path) (state_of w es n r) (attributes_at m d (fields_in m (end_of m q) end)) >>= λ hs. done (record { place = q; name = two m (q + 3); content = x } ∷ hs))
        ≡ evaluate_all k (context_in scope path) (state_of w es n r) (attributes_at m d (fields_in m first end))
    unfolding evaluate_all attributes_at attribute_at
    answer k path es n r h =
        let below : b ≡ d - 1 = omega arith in
        let st = state_of w es n r in
        let it : o ≡ evaluate k (context_in scope path) st (expression_at m (d - 1) (q + 5)) = (told (attribute_opens here.here deep).expression).says k path es n r h ∙ ap (λ (j : ℕ). evaluate k (context_in scope path) st (expression_at m j (q + 5))) below in
        ap (λ (u : Outcome Labelled). after gs (u >>= λ x. evaluate_all k (context_in scope path) st (attributes_at m d (fields_in m (end_of m q) end)) >>= λ hs. done (record { place = q; name = two m (q + 3); content = x } ∷ hs))) it
        ∙ ap (λ (qs : List ℕ). after gs (evaluate_all k (context_in scope path) st (attributes_at m d qs))) (sym here.places)
        ∙ left.says k path es n r h

    pub rest_stops : {why : Refusal} → o ≡ refused_by why → Tells m w out fill scope (refused_by why) (λ k c st. evaluate_all k c st (attributes_at m d (fields_in m first end)))
    unfolding after ◌>>=◌
    rest_stops is = record { says = λ k path es n r h. rw is at (answer k path es n r h) }

    pub rest_on : (x : Labelled) → o ≡ done x → Rest m w out fill scope d first end (end_of m q) (gs ++ (record { place = q; name = two m (q + 3); content = x } ∷ []))
    unfolding ◌>>=◌
    rest_on x is = record {
      attributes = here.after;
      says = λ k path es n r h.
          sym (after_one gs (record { place = q; name = two m (q + 3); content = x }) (evaluate_all k (context_in scope path) (state_of w es n r) (attributes_at m d (fields_in m (end_of m q) end))))
          ∙ (rw is at (answer k path es n r h));
    }

  pub rest_ends : end ≤ q → Tells m w out fill scope (done gs) (λ k c st. evaluate_all k c st (attributes_at m d (fields_in m first end)))
  unfolding evaluate_all attributes_at after ◌>>=◌
  rest_ends over = record {
    says = λ k path es n r h.
        ap done (sym (append-nil gs))
        ∙ ap (λ (qs : List ℕ). after gs (evaluate_all k (context_in scope path) (state_of w es n r) (attributes_at m d qs))) (sym (no_sibling left.attributes over).places)
        ∙ left.says k path es n r h;
  }

-- ---- The ways of `evaluate_attributes`

alike_last : {m : List ℕ} {gs : List Given} {qs : List ℕ} (q : ℕ) (x : Labelled) → Alike m gs qs → Alike m (gs ++ (record { place = q; name = two m (q + 3); content = x } ∷ [])) (qs ++ (q ∷ []))
alike_last q x alike_none = alike alike_none
alike_last q x (alike a) = alike (alike_last q x a)

-- the attributes up to q are evaluated, into the table t
pub record Evaluating (m w out : List ℕ) (fill : ℕ) (scope : Scope) (d first end q : ℕ) (t : List ℕ) : Type 0 where
  pub gs : List Given
  pub gives : Gives t gs
  pub passed : List ℕ
  pub alikes : Alike m gs passed
  pub places : passed ++ fields_in m q end ≡ fields_in m first end
  pub rest : Rest m w out fill scope d first end q gs

pub evaluating_begins : {m w out : List ℕ} {fill : ℕ} {scope : Scope} {d first end : ℕ} {t : List ℕ} → Siblings m d AttributeKind first end → ((n : ℕ) → given_at t n ≡ none) → Evaluating m w out fill scope d first end first t
evaluating_begins s blank = record { gs = []; gives = gives_nothing blank; passed = []; alikes = alike_none; places = refl; rest = rest_begins s }

-- the same at the place q, where that is p
pub evaluating_here : {m w out : List ℕ} {fill : ℕ} {scope : Scope} {d first end p q : ℕ} {t : List ℕ} → p ≡ q → Evaluating m w out fill scope d first end p t → Evaluating m w out fill scope d first end q t
evaluating_here {m} {w} {out} {fill} {scope} {d} {first} {end} {t = t} e i = subst (λ (j : ℕ). Evaluating m w out fill scope d first end j t) e i

module _ {m w out : List ℕ} {fill : ℕ} {scope : Scope} {d first end q : ℕ} {t : List ℕ} (so_far : Evaluating m w out fill scope d first end q t) where
  module _ (more : q < end) where
    first_here : FirstSibling m d AttributeKind q end
    first_here = first_sibling so_far.rest.attributes more

    pub deep : d ≡ suc (d - 1)
    deep = level first_here.here.stands

    -- the place of the expression
    pub expression_sized : {p : ℕ} → Sized m w out fill p → Sized m w out fill (q + 5)
    expression_sized s = resized s (omega (arith, (attribute_opens first_here.here deep).expression.stands.ends, s.manifest))

    module _ {o : Outcome Labelled} (told : StandsAs m (d - 1) ExpressionKind (q + 5) → Tells m w out fill scope o (λ k c st. evaluate k c st (expression_at m (d - 1) (q + 5)))) where
      pub evaluating_stops : {why : Refusal} → o ≡ refused_by why → GivenIn m w out fill scope d first end t (Err why)
      evaluating_stops is = not_given (rest_stops so_far.rest (d - 1) deep more told is)

      pub evaluating_on : (x : Labelled) {name r : ℕ} {t' : List ℕ} → o ≡ done x → name ≡ two m (q + 3) → Adds t t' name x → r ≡ end_of m q → Evaluating m w out fill scope d first end r t'
      evaluating_on x {name} {r} {t'} is named adds next =
          subst (λ (j : ℕ). Evaluating m w out fill scope d first end j t') (sym next) (record {
            gs = so_far.gs ++ (record { place = q; name = two m (q + 3); content = x } ∷ []);
            gives = subst (λ (j : ℕ). Gives t' (so_far.gs ++ (record { place = q; name = j; content = x } ∷ []))) named (adds.gives so_far.gs q so_far.gives);
            passed = so_far.passed ++ (q ∷ []);
            alikes = alike_last q x so_far.alikes;
            places = append_assoc so_far.passed (q ∷ []) (fields_in m (end_of m q) end) ∙ ap (λ (l : List ℕ). so_far.passed ++ l) (sym first_here.places) ∙ so_far.places;
            rest = rest_on so_far.rest (d - 1) deep more told x is;
          })

  pub evaluating_ends : end ≤ q → GivenIn m w out fill scope d first end t (Ok tt)
  evaluating_ends over =
      let all : so_far.passed ≡ fields_in m first end = sym (append-nil so_far.passed) ∙ ap (λ (l : List ℕ). so_far.passed ++ l) (sym (no_sibling so_far.rest.attributes over).places) ∙ so_far.places in
      given so_far.gs so_far.gives (subst (λ (l : List ℕ). Alike m so_far.gs l) all so_far.alikes) (rest_ends so_far.rest over)
