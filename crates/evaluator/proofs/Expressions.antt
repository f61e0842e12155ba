-- Expressions with parts: what the definition says of each, from what the code finds of its parts. Assumes nothing.
use Prim.Native.Nat.{ℕ, ◌+◌, ◌≤◌}
use mathlib.Core.Path.{◌≡◌, sym, ap, ◌∙◌, subst}
use mathlib.Core.List.{List}
use native.Mathlib.Omega.{arith}
use lib.ListN.{length}
use Rattle.labels.specs.Words.{labels_in}
use Rattle.values.specs.declared.Value.{Value}
use Rattle.values.specs.declared.Labelled.{Labelled}
use Rattle.values.specs.declared.Refusal.{Refusal}
use Rattle.values.specs.Refusals.{refusal_at}
use Rattle.values.specs.declared.Reason.TheVariants.{WrongKind as NotThatKind}
use Rattle.wire.specs.Bytes.{byte, two, end_of}
use Rattle.rules.specs.Outcome.{Outcome, refused, joining}
use Rattle.rules.specs.Read.{operator_from}
use Rattle.rules.specs.State.{State, Context, Known, Entry}
use Rattle.rules.specs.Evaluate.{operate, evaluate}
use Rattle.rules.specs.declared.Kind.TheVariants.{Expression as ExpressionKind}
use Rattle.places.specs.At.{expression_at, StandsAs}
use Rattle.places.proofs.Expressions.{expression_place, OperationAt, NegationAt, AttributeReadAt}
use Rattle.cells.specs.Memory.{state_of}
use Rattle.memory.specs.declared.Scope.{Scope}
use Rattle.memory.specs.Contexts.{context_in}
use Rattle.evaluator.specs.declared.Begun.{Begun}
use Rattle.evaluator.specs.declared.Begun.TheVariants.{WrongKind, Decided, Open}
use Rattle.evaluator.specs.Answers.{Evaluated, answered, evaluated}
use Rattle.std.specs.Prelude.{Ok, Err}
use Rattle.evaluator.specs.Operators.{begin, after_left, combine, negation}
use Rattle.evaluator.specs.Known.{Ready, TellsJoined, Sized, attribute_of}
use Rattle.evaluator.proofs.Outcomes.{◌▷◌, stops, goes_on, refusal_joined, plain_joined, with_labels}
use Rattle.evaluator.proofs.Operators.{operate_steps}

-- a run of the definition, in what is known, a context and a state
abbrev pub Run : Type 0
Run = Known → Context → State → Outcome Labelled

-- what the code ensures of a place that it keeps small
abbrev pub Small : (q t : ℕ) → Type 0
Small q t = (q ≤ 65535) × (t ≤ 65535 → q ≡ t)

-- what holds of an operand at t, found at the small place q
pub operand_at : {m : List ℕ} {d t q : ℕ} (P : ℕ → Type 0) → length m ≤ 65535 → StandsAs m d ExpressionKind t → Small q t → (StandsAs m d ExpressionKind q → P q) → P t
operand_at {m} {d} {t} {q} P short stands small h =
    let same : q ≡ t = small.1 (omega (arith, stands.stands.ends)) in
    subst (λ (n : ℕ). StandsAs m d ExpressionKind n → P n) same h stands

module _ (m w out : List ℕ) (fill : ℕ) (scope : Scope) where
  -- an answer tells of each run that gives the same
  tells_as : {s s' : List ℕ} {a : Evaluated} {f : Run} (g : Run) → ((k : Known) (c : Context) (st : State) → f k c st ≡ g k c st) → TellsJoined m w out fill scope s s' a f → TellsJoined m w out fill scope s s' a g
  tells_as {s} g e t = record { says = λ k path es n r h. t.says k path es n r h ∙ ap (joining (labels_in s)) (e k (context_in scope path) (state_of w es n r)) }

  -- what is told of the expression at p with d levels
  abbrev Told : (d p : ℕ) (s s' : List ℕ) → Evaluated → Type 0
  Told d p s s' a = TellsJoined m w out fill scope s s' a (λ k c st. evaluate k c st (expression_at m d p))

  pub operand_told : (d t : ℕ) {q : ℕ} {s s' : List ℕ} {a : Evaluated} → length m ≤ 65535 → StandsAs m d ExpressionKind t → Small q t → (StandsAs m d ExpressionKind q → Told d q s s' a) → Told d t s s' a
  operand_told d t {s = s} {s'} {a} short stands small h = operand_at (λ n. Told d n s s' a) short stands small h

  -- first an operand, then the rest with its value
  module _ {f whole : Run} {s s1 : List ℕ} {e : Evaluated} (rest : Known → Context → State → Value → Outcome Labelled) (means : (k : Known) (c : Context) (st : State) → (f k c st ▷ rest k c st) ≡ whole k c st)
      (told : TellsJoined m w out fill scope s s1 e f) where
    pub then_stops : {why : Refusal} {a : Evaluated} → e ≡ Err why → a ≡ Err why → TellsJoined m w out fill scope s s1 a whole
    then_stops {a = a} refuses handed_on = tells_as whole means
        (record { says = λ k path es n r h. ap (λ (x : Evaluated). answered x (labels_in s1)) handed_on ∙ stops e (labels_in s) (labels_in s1) (rest k (context_in scope path) (state_of w es n r)) (f k (context_in scope path) (state_of w es n r)) (told.says k path es n r h) refuses })

    pub then_goes_on : {v : Value} {s2 : List ℕ} {g : Evaluated} → e ≡ Ok v → TellsJoined m w out fill scope s1 s2 g (λ k c st. rest k c st v) → TellsJoined m w out fill scope s s2 g whole
    then_goes_on yields after = tells_as whole means
        (record { says = λ k path es n r h. goes_on e (labels_in s) (labels_in s1) (rest k (context_in scope path) (state_of w es n r)) (f k (context_in scope path) (state_of w es n r)) (told.says k path es n r h) yields (after.says k path es n r h) })

  -- ---- Operators

  module _ {d b p : ℕ} (o : OperationAt m d b p) (short : length m ≤ 65535) where
    abbrev operator_here : Value → Run
    operator_here x k c st = operate (operator_from (byte m (p + 3))) p (p + 4) (end_of m (p + 4)) x (evaluate k c st (expression_at m b (end_of m (p + 4))))

    operation_means : (k : Known) (c : Context) (st : State) → (evaluate k c st (expression_at m b (p + 4)) ▷ λ x. operator_here x k c st) ≡ evaluate k c st (expression_at m d p)
    unfolding evaluate ◌▷◌
    operation_means k c st =
        (λ i. evaluate k c st (expression_at m b (p + 4)) ▷ λ x. operate (operator_from (byte m (p + 3))) p (sym (expression_place m b (p + 4)) i) (sym (expression_place m b (end_of m (p + 4))) i) x (evaluate k c st (expression_at m b (end_of m (p + 4)))))
        ∙ sym (ap (evaluate k c st) o.tree)

    abbrev combined : (x y : Value) → Outcome Labelled
    combined x y = combine (operator_from (byte m (p + 3))) p (end_of m (p + 4)) x y

    -- what the left value x says of the operator
    module _ {op : ℕ} {begun : Begun} (x : Value) (byte-is : op ≡ byte m (p + 3)) (begins : begun ≡ begin (operator_from op) x) where
      begun_is : {v : Begun} → begun ≡ v → begin (operator_from (byte m (p + 3))) x ≡ v
      begun_is eq = ap (λ (n : ℕ). begin (operator_from n) x) (sym byte-is) ∙ sym begins ∙ eq

      steps : {v : Begun} → begun ≡ v → (k : Known) (c : Context) (st : State) → after_left v (p + 4) x (evaluate k c st (expression_at m b (end_of m (p + 4))) ▷ combined x) ≡ operator_here x k c st
      steps eq k c st =
          ap (λ (v : Begun). after_left v (p + 4) x (evaluate k c st (expression_at m b (end_of m (p + 4))) ▷ combined x)) (sym (begun_is eq))
          ∙ operate_steps (operator_from (byte m (p + 3))) p (p + 4) (end_of m (p + 4)) x (evaluate k c st (expression_at m b (end_of m (p + 4))))

      right_means : begun ≡ Open → (k : Known) (c : Context) (st : State) → (evaluate k c st (expression_at m b (end_of m (p + 4))) ▷ combined x) ≡ operator_here x k c st
      unfolding after_left
      right_means eq k c st = steps eq k c st

    module _ {q : ℕ} {s s1 : List ℕ} {a : Evaluated} (small : Small q (p + 4)) (left : StandsAs m b ExpressionKind q → Told b q s s1 a) where
      pub left_stops : {why : Refusal} {g : Evaluated} → a ≡ Err why → g ≡ Err why → Told d p s s1 g
      left_stops refuses handed_on = then_stops (λ k c st x. operator_here x k c st) operation_means (operand_told b (p + 4) short o.left small left) refuses handed_on

      left_goes_on : {x : Value} {s2 : List ℕ} {g : Evaluated} → a ≡ Ok x → TellsJoined m w out fill scope s1 s2 g (operator_here x) → Told d p s s2 g
      left_goes_on yields after = then_goes_on (λ k c st x. operator_here x k c st) operation_means (operand_told b (p + 4) short o.left small left) yields after

      module _ {x : Value} (yields : a ≡ Ok x) {op : ℕ} {begun : Begun} (byte-is : op ≡ byte m (p + 3)) (begins : begun ≡ begin (operator_from op) x) where
        pub left_unlike : {why : Refusal} → begun ≡ WrongKind → why ≡ refusal_at NotThatKind q → Told d p s s1 (Err why)
        unfolding after_left
        left_unlike eq e =
            let same : q ≡ p + 4 = small.1 (omega (arith, o.left.stands.ends)) in
            left_goes_on yields (record { says = λ k path es n r h. refusal_joined (labels_in s1) (labels_in s1) e ∙ ap (joining (labels_in s1)) (ap (refused NotThatKind) same ∙ steps x byte-is begins eq k (context_in scope path) (state_of w es n r)) })

        pub left_decides : begun ≡ Decided → Told d p s s1 (Ok x)
        unfolding after_left
        left_decides eq =
            left_goes_on yields (record { says = λ k path es n r h. plain_joined x (labels_in s1) ∙ ap (joining (labels_in s1)) (steps x byte-is begins eq k (context_in scope path) (state_of w es n r)) })

        -- the right operand, if the left value leaves it open
        module _ {e r : ℕ} {s2 : List ℕ} {y : Evaluated} (is_open : begun ≡ Open) (end_is : e ≡ end_of m (p + 4)) (near : Small r e) (right : StandsAs m b ExpressionKind r → Told b r s1 s2 y) where
          right_near : Small r (end_of m (p + 4))
          right_near = (near.0, λ l. near.1 (omega arith) ∙ end_is)

          right_told : Told b (end_of m (p + 4)) s1 s2 y
          right_told = operand_told b (end_of m (p + 4)) short o.right right_near right

          pub right_stops : {why : Refusal} {g : Evaluated} → y ≡ Err why → g ≡ Err why → Told d p s s2 g
          right_stops refuses handed_on = left_goes_on yields (then_stops (λ k c st z. combined x z) (right_means x byte-is begins is_open) right_told refuses handed_on)

          pub right_goes_on : {z : Value} {g : Evaluated} → y ≡ Ok z → evaluated g ≡ combine (operator_from op) p r x z → Told d p s s2 g
          right_goes_on {z} {g} gives both =
              let same : r ≡ end_of m (p + 4) = right_near.1 (omega (arith, o.right.stands.ends)) in
              left_goes_on yields (then_goes_on (λ k c st z. combined x z) (right_means x byte-is begins is_open) right_told gives
              (record { says = λ k path es n t h. with_labels g (both ∙ λ j. combine (operator_from (byte-is j)) p (same j) x z) (labels_in s2) }))

  -- ---- not

  module _ {d b p : ℕ} (o : NegationAt m d b p) (short : length m ≤ 65535) where
    negation_means : (k : Known) (c : Context) (st : State) → (evaluate k c st (expression_at m b (p + 3)) ▷ λ x. negation (p + 3) x) ≡ evaluate k c st (expression_at m d p)
    unfolding evaluate negation ◌▷◌
    negation_means k c st =
        (λ i. evaluate k c st (expression_at m b (p + 3)) ▷ λ x. negation (sym (expression_place m b (p + 3)) i) x)
        ∙ sym (ap (evaluate k c st) o.tree)

    module _ {q : ℕ} {s s1 : List ℕ} {a : Evaluated} (small : Small q (p + 3)) (told : StandsAs m b ExpressionKind q → Told b q s s1 a) where
      pub negation_stops : {why : Refusal} {g : Evaluated} → a ≡ Err why → g ≡ Err why → Told d p s s1 g
      negation_stops refuses handed_on = then_stops (λ k c st x. negation (p + 3) x) negation_means (operand_told b (p + 3) short o.operand small told) refuses handed_on

      pub negation_goes_on : {x : Value} {g : Evaluated} → a ≡ Ok x → evaluated g ≡ negation q x → Told d p s s1 g
      negation_goes_on {x} {g} yields gave =
          let same : q ≡ p + 3 = small.1 (omega (arith, o.operand.stands.ends)) in
          then_goes_on (λ k c st x. negation (p + 3) x) negation_means (operand_told b (p + 3) short o.operand small told) yields
          (record { says = λ k path es n r h. with_labels g (gave ∙ ap (λ (l : ℕ). negation l x) same) (labels_in s1) })

  -- ---- Attributes

  module _ {d b p : ℕ} (o : AttributeReadAt m d b p) (short : length m ≤ 65535) where
    abbrev attribute_here : (l : ℕ) → Known → List Entry → Value → Outcome Labelled
    attribute_here l k es x = attribute_of k es p l (two m (p + 3)) (two m (p + 5)) x

    attribute_means : (k : Known) (c : Context) (st : State) → (evaluate k c st (expression_at m b (p + 7)) ▷ λ x. attribute_here (p + 7) k st.entries x) ≡ evaluate k c st (expression_at m d p)
    unfolding evaluate attribute_of ◌▷◌
    attribute_means k c st =
        (λ i. evaluate k c st (expression_at m b (p + 7)) ▷ λ x. attribute_here (sym (expression_place m b (p + 7)) i) k st.entries x)
        ∙ sym (ap (evaluate k c st) o.tree)

    module _ {q : ℕ} {s s1 : List ℕ} {a : Evaluated} (small : Small q (p + 7)) (told : StandsAs m b ExpressionKind q → Told b q s s1 a) where
      pub title_stops : {why : Refusal} {g : Evaluated} → a ≡ Err why → g ≡ Err why → Told d p s s1 g
      title_stops refuses handed_on = then_stops (λ k c st x. attribute_here (p + 7) k st.entries x) attribute_means (operand_told b (p + 7) short o.title small told) refuses handed_on

      pub title_goes_on : {x : Value} (s2 : List ℕ) (g : Evaluated) → a ≡ Ok x → ((k : Known) (es : List Entry) → Ready m w out fill k es → answered g (labels_in s2) ≡ joining (labels_in s1) (attribute_here q k es x)) → Told d p s s2 g
      unfolding state_of
      title_goes_on {x} s2 g yields read =
          let same : q ≡ p + 7 = small.1 (omega (arith, o.title.stands.ends)) in
          then_goes_on (λ k c st x. attribute_here (p + 7) k st.entries x) attribute_means (operand_told b (p + 7) short o.title small told) yields
          (record { says = λ k path es n r h. read k es h ∙ ap (λ (l : ℕ). joining (labels_in s1) (attribute_here l k es x)) same })

-- the same lengths, at another place
pub resized : {m w out : List ℕ} {fill p q : ℕ} → Sized m w out fill p → q ≤ 65535 → Sized m w out fill q
resized s l = record { memory = s.memory; filled = s.filled; short = s.short; manifest = s.manifest; place = l }
