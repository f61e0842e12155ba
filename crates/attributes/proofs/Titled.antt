-- The ways of `evaluate_titled`: the title of a 27, then its attributes. Assumes nothing.
use Prim.Native.Nat.{ℕ, suc, ◌+◌, ◌-◌, ◌≤◌}
use mathlib.Core.Path.{◌≡◌, refl, sym, ap, ◌∙◌, subst}
use mathlib.Core.List.{List}
use native.Mathlib.Omega.{arith}
use denote.Enum.Declared.{tag_of}
use lib.ListN.{length}
use Rattle.values.specs.contracts.Value.{the_type}
use Rattle.values.specs.declared.Value.{Value}
use Rattle.values.specs.declared.Value.TheVariants.{Integer, String, Boolean}
use Rattle.labels.specs.declared.Labels.{Labels}
use Rattle.values.specs.declared.Labelled.{Labelled}
use Rattle.values.specs.declared.Refusal.{Refusal}
use Rattle.values.specs.Refusals.{refusal_at}
use Rattle.values.specs.declared.Reason.TheVariants.{WrongKind}
use Rattle.wire.specs.Bytes.{byte, end_of, fields_in}
use Rattle.rules.specs.Outcome.{Outcome, refused, done, ◌>>=◌, at}
use Rattle.rules.specs.Arithmetic.{string_in}
use Rattle.rules.specs.Tree.{defined_resource}
use Rattle.rules.specs.State.{Entry, State, Context, Known}
use Rattle.rules.specs.Evaluate.{evaluate}
use Rattle.rules.specs.Run.{Given, evaluate_all}
use Rattle.rules.specs.declared.Kind.TheVariants.{Expression as ExpressionKind, Attribute as AttributeKind, Statement as StatementKind}
use Rattle.places.specs.At.{expression_at, attributes_at, StandsAs, Siblings}
use Rattle.places.proofs.Open.{level}
use Rattle.places.proofs.Statements.{TitledAt, defined_opens}
use Rattle.cells.specs.Memory.{state_of}
use Rattle.memory.specs.declared.Scope.{Scope}
use Rattle.memory.specs.Contexts.{context_in}
use Rattle.evaluator.specs.Answers.{refused_by}
use Rattle.evaluator.specs.Known.{Ready, Tells}
use Rattle.attributes.specs.Evaluated.{GivenIn, not_given, given, Titled, titled_all, titled_at, TitledIn, not_titled, titled}
use Rattle.std.specs.Prelude.{Result, Ok, Err}

-- what follows the title x, with the value v for its kind
abbrev titled_rest : List ℕ → (b p : ℕ) → Known → Context → State → Labelled → Value → Outcome Titled
titled_rest m b p k c st x v = at (p + 5) (string_in v) >>= λ _. evaluate_all k c st (attributes_at m b (fields_in m (end_of m (p + 5)) (end_of m p))) >>= λ gs. done (record { title = x; given = gs })

module _ {m : List ℕ} {d p : ℕ} (s : StandsAs m d StatementKind p) (by : byte m p ≡ 0x27) where
  pub deep : d ≡ suc (d - 1)
  deep = level s.stands

  opened : TitledAt defined_resource m d (d - 1) p
  opened = defined_opens s.stands deep by

  pub titled_attributes : {first end : ℕ} → first ≡ end_of m (p + 5) → end ≡ end_of m p → Siblings m (d - 1) AttributeKind first end
  titled_attributes {first} {end} e f =
      subst (λ (j : ℕ). Siblings m (d - 1) AttributeKind j end) (sym e) (subst (λ (j : ℕ). Siblings m (d - 1) AttributeKind (end_of m (p + 5)) j) (sym f) opened.attributes)

  -- the places of the title and of the end
  pub title_near : length m ≤ 65535 → p + 5 ≤ 65535
  title_near short = omega (arith, opened.title.stands.ends)

  pub end_near : length m ≤ 65535 → end_of m p ≤ 65535
  end_near short = omega (arith, s.stands.ends)

  module _ (w out : List ℕ) (fill : ℕ) (scope : Scope) {o : Outcome Labelled} (told : StandsAs m (d - 1) ExpressionKind (p + 5) → Tells m w out fill scope o (λ k c st. evaluate k c st (expression_at m (d - 1) (p + 5)))) where
    -- the run after the title's answer
    titled_run_lem : (k : Known) (path : Labels) (es : List Entry) (n r : ℕ) → Ready m w out fill k es
        → (o >>= λ x. titled_rest m (d - 1) p k (context_in scope path) (state_of w es n r) x x.value)
        ≡ titled_at m (d - 1) p k (context_in scope path) (state_of w es n r)
    unfolding titled_at titled_all
    titled_run_lem k path es n r h =
        ap (λ (u : Outcome Labelled). u >>= λ x. titled_rest m (d - 1) p k (context_in scope path) (state_of w es n r) x x.value)
        ((told opened.title).says k path es n r h)

    pub title_stops : {t : List ℕ} {why : Refusal} → o ≡ refused_by why → TitledIn m w out fill scope (d - 1) p t (Err why)
    unfolding ◌>>=◌
    title_stops is = not_titled (record { says = λ k path es n z h. rw is at (titled_run_lem k path es n z h) })

    module _ (x : Labelled) (is : o ≡ done x) where
      pub title_wrong : {t : List ℕ} {why : Refusal} → (tag_of the_type x.value ≡ 1 → ⊥) → why ≡ refusal_at WrongKind (p + 5) → TitledIn m w out fill scope (d - 1) p t (Err why)
      unfolding string_in at ◌>>=◌
      title_wrong unlike at-title = not_titled (record { says = λ k path es n r h. ap refused_by at-title ∙ sym (go x.value refl k (context_in scope path) es n r) ∙ (rw is at (titled_run_lem k path es n r h)) })
        where
          go : (v : Value) → x.value ≡ v → (k : Known) (c : Context) (es : List Entry) (n r : ℕ)
              → titled_rest m (d - 1) p k c (state_of w es n r) x v ≡ refused WrongKind (p + 5)
          go (Integer z) f k c es n r = refl
          go (String z) f k c es n r = absurd (unlike (ap (tag_of the_type) f))
          go (Boolean z) f k c es n r = refl

      module _ {title first end : ℕ} (string : x.value ≡ String title) (first_is : first ≡ end_of m (p + 5)) (end_is : end ≡ end_of m p) {t : List ℕ} {g : Result Unit Refusal} (got : GivenIn m w out fill scope (d - 1) first end t g) where
        here : {g' : Result Unit Refusal} → g ≡ g' → GivenIn m w out fill scope (d - 1) (end_of m (p + 5)) (end_of m p) t g'
        here {g'} f =
            subst (λ (v : Result Unit Refusal). GivenIn m w out fill scope (d - 1) (end_of m (p + 5)) (end_of m p) t v) f
            (subst (λ (j : ℕ). GivenIn m w out fill scope (d - 1) j (end_of m p) t g) first_is (subst (λ (j : ℕ). GivenIn m w out fill scope (d - 1) first j t g) end_is got))

        string_run : (k : Known) (path : Labels) (es : List Entry) (n r : ℕ) → Ready m w out fill k es
            → {all : Outcome (List Given)} → all ≡ evaluate_all k (context_in scope path) (state_of w es n r) (attributes_at m (d - 1) (fields_in m (end_of m (p + 5)) (end_of m p)))
            → (all >>= λ gs. done (record { title = x; given = gs })) ≡ titled_at m (d - 1) p k (context_in scope path) (state_of w es n r)
        unfolding string_in at ◌>>=◌
        string_run k path es n r h gave =
            ap (λ (u : Outcome (List Given)). u >>= λ gs. done (record { title = x; given = gs })) gave
            ∙ ap (λ (v : Value). titled_rest m (d - 1) p k (context_in scope path) (state_of w es n r) x v) (sym string)
            ∙ (rw is at (titled_run_lem k path es n r h))

        pub attributes_stop : {why : Refusal} → g ≡ Err why → TitledIn m w out fill scope (d - 1) p t (Err why)
        unfolding ◌>>=◌
        attributes_stop {why} f = go (here f)
          where
            go : GivenIn m w out fill scope (d - 1) (end_of m (p + 5)) (end_of m p) t (Err why) → TitledIn m w out fill scope (d - 1) p t (Err why)
            go (not_given tells) = not_titled (record { says = λ k path es n z h. string_run k path es n z h (tells.says k path es n z h) })

        pub all_given : g ≡ Ok tt → TitledIn m w out fill scope (d - 1) p t (Ok x)
        unfolding ◌>>=◌
        all_given f = go (here f)
          where
            go : GivenIn m w out fill scope (d - 1) (end_of m (p + 5)) (end_of m p) t (Ok tt) → TitledIn m w out fill scope (d - 1) p t (Ok x)
            go (given gs gives alikes tells) = titled gs gives alikes (record { says = λ k path es n z h. string_run k path es n z h (tells.says k path es n z h) })
