-- Arms and selectors. Assumes nothing.
use Prim.Native.Nat.{ℕ, suc, ◌+◌, ◌-◌, ◌≤◌, ◌<◌}
use mathlib.Core.Path.{◌≡◌, refl, sym, ap, ap₂, ◌∙◌, subst}
use mathlib.Core.List.{List, [], ◌∷◌}
use native.Mathlib.Omega.{arith}
use lib.ListN.{length}
use Rattle.values.specs.declared.Value.{Value}
use Rattle.values.specs.declared.Labelled.{Labelled}
use Rattle.values.specs.declared.Refusal.{Refusal}
use Rattle.values.specs.Refusals.{refusal_at}
use Rattle.values.specs.declared.Reason.TheVariants.{NoMatch, Malformed}
use Rattle.wire.specs.Bytes.{end_of, fields_in}
use Rattle.rules.specs.Outcome.{Outcome, refused, ◌>>=◌, joining}
use Rattle.rules.specs.Tree.{Expression, Arms, arm, default_arm, Constant}
use Rattle.rules.specs.Patterns.{Patterns, constant_pattern, default_pattern, chosen, tried, labels_of, tried_labels}
use Rattle.rules.specs.State.{State, Context, Known, Entry}
use Rattle.rules.specs.Evaluate.{select, evaluate, arm_patterns}
use Rattle.rules.specs.declared.Kind.{Kind}
use Rattle.rules.specs.declared.Kind.TheVariants.{Expression as ExpressionKind, Arm}
use Rattle.places.specs.At.{constant_at, expression_at, arm_at, arms_at, StandsAs, Siblings, ended, sibling}
use Rattle.places.proofs.Parts.{first_sibling}
use Rattle.places.proofs.Expressions.{arm_opens, SelectorAt}
use Rattle.places.proofs.Open.{level}
use Rattle.rules.proofs.Patterns.{map_patterns, tried_mapped, chosen_mapped, chosen_holds}
use Rattle.patterns.specs.Tried.{patterns_at, Matches}
use Rattle.patterns.proofs.Follows.{mapped_first, every_follows}
use Rattle.cells.specs.Memory.{state_of}
use Rattle.memory.specs.declared.Scope.{Scope}
use Rattle.memory.specs.Contexts.{context_in}
use Rattle.evaluator.specs.Answers.{Evaluated}
use Rattle.evaluator.specs.Known.{TellsJoined, Ready}
use Rattle.evaluator.proofs.Outcomes.{◌▷◌, joining_both, refusal_joined}
use Rattle.evaluator.proofs.Expressions.{Run, Small, operand_told, then_stops, then_goes_on}
use Rattle.labels.specs.declared.Labels.{Labels}
use Rattle.labels.specs.Words.{labels_in}
use Rattle.memory.specs.Words.{struck_in}
use Rattle.patterns.specs.Struck.{first_struck}
use Rattle.patterns.proofs.Struck.{came_to, come_to_all_lem}
use Rattle.std.specs.Prelude.{Option, Some, None, Ok, Err}

-- ---- Arms

-- what follows from a choice among arms with b levels for what is in them, for the selector at p
unfoldable arm_for : List ℕ → (b p : ℕ) → Known → Context → State → Option ℕ → Outcome Labelled
arm_for m b p k c st (Some q) = evaluate k c st (expression_at m b q)
arm_for m b p k c st None = refused NoMatch p

-- and its expression stands there
unfoldable pub arm_stands : List ℕ → (b : ℕ) → Option ℕ → Type 0
arm_stands m b (Some q) = StandsAs m b ExpressionKind q
arm_stands m b None = Unit {0}

-- what a selector gives after the patterns tried
unfoldable selected : Patterns (Outcome Labelled) → (place : ℕ) → Value → Outcome Labelled
selected ps p x = joining (tried_labels ps x) (chosen ps x (refused NoMatch p))

module _ (m : List ℕ) (d p : ℕ) (k : Known) (c : Context) (st : State) where
  -- the arms at their places
  arms_at_lem : (qs : List ℕ) → arm_patterns k c st (arms_at m d qs) ≡ map_patterns (arm_for m (d - 1) p k c st) (patterns_at m qs)
  unfolding evaluate arms_at arm_at patterns_at map_patterns arm_for
  arms_at_lem [] = refl
  arms_at_lem (q ∷ qs) =
      let e : Expression = expression_at m (d - 1) (end_of m (q + 3)) in
      let after : Arms = arms_at m d qs in
      mapped_first (arm_patterns k c st) (arm_for m (d - 1) p k c st) m q qs (default_arm e after) (arm (constant_at m (q + 3)) e after) (ap (default_pattern (evaluate k c st e)) (arms_at_lem qs)) (ap (constant_pattern (constant_at m (q + 3)) (evaluate k c st e)) (arms_at_lem qs))

  selects : {first end : ℕ} {x : Value} {s s' : List ℕ} {r : Option ℕ} → Matches m first end x s s' r → joining (labels_in s') (arm_for m (d - 1) p k c st r) ≡ joining (labels_in s) (selected (arm_patterns k c st (arms_at m d (fields_in m first end))) p x)
  unfolding selected tried_labels arm_for
  selects {first} {end} {x} {s} {s'} {r} i =
      let ps : Patterns (Option ℕ) = patterns_at m (fields_in m first end) in
      let f = arm_for m (d - 1) p k c st in
      ap (λ (l : Labels). joining l (f r)) i.labels.labels ∙ joining_both (labels_in s) (tried_labels ps x) (f r)
      ∙ ap (joining (labels_in s)) (ap₂ joining (ap labels_of (sym (tried_mapped f ps x))) (ap f i.at ∙ sym (chosen_mapped f ps x None)) ∙ ap (λ (qs : Patterns (Outcome Labelled)). selected qs p x) (sym (arms_at_lem (fields_in m first end))))

  -- the patterns tried, then what is chosen
  select_comes : (w : List ℕ) (first end : ℕ) (x : Value) {s : Option ℕ} → ((v : Constant) → k.struck_out v ≡ struck_in w v) → s ≡ first_struck w (tried (patterns_at m (fields_in m first end)) x)
      → (came_to s >>= λ _. selected (arm_patterns k c st (arms_at m d (fields_in m first end))) p x) ≡ select k (arm_patterns k c st (arms_at m d (fields_in m first end))) p x
  unfolding select selected
  select_comes w first end x known e =
      let ps : Patterns (Option ℕ) = patterns_at m (fields_in m first end) in
      let qs : Patterns (Outcome Labelled) = arm_patterns k c st (arms_at m d (fields_in m first end)) in
      let same : tried qs x ≡ tried ps x = ap (λ (rs : Patterns (Outcome Labelled)). tried rs x) (arms_at_lem (fields_in m first end)) ∙ tried_mapped (arm_for m (d - 1) p k c st) ps x in
      ap (λ (o : Outcome (Unit {0})). o >>= λ _. selected qs p x) (ap came_to (e ∙ ap (first_struck w) (sym same)) ∙ sym (come_to_all_lem k w known (tried qs x)))

-- the arm chosen stands
pub arm_stands_lem : {m : List ℕ} {d first end : ℕ} {x : Value} {s s' : List ℕ} {r : Option ℕ} → Siblings m d Arm first end → Matches m first end x s s' r → arm_stands m (d - 1) r
unfolding arm_stands
arm_stands_lem {m} {d} {x = x} s i =
    rw i.at (chosen_holds (arm_stands m (d - 1)) (every_follows (λ q y. arm_stands m (d - 1) y) (λ q l h. (arm_opens h (level h.stands)).expression) (λ q y l h. h) s) x tt)

-- ---- The ways of `choose`

module _ (m w out : List ℕ) (fill : ℕ) (scope : Scope) (d p first end : ℕ) (x : Value) {t : Option ℕ} (found : t ≡ first_struck w (tried (patterns_at m (fields_in m first end)) x)) where
  abbrev Selecting : (s s' : List ℕ) → Evaluated → Type 0
  Selecting s s' a = TellsJoined m w out fill scope s s' a (λ k c st. select k (arm_patterns k c st (arms_at m d (fields_in m first end))) p x)

  pub choosing_struck : {q : ℕ} (s : List ℕ) {why : Refusal} → t ≡ Some q → why ≡ refusal_at Malformed q → Selecting s s (Err why)
  unfolding came_to ◌>>=◌
  choosing_struck s is e = record {
    says = λ k path es n v h.
        refusal_joined (labels_in s) (labels_in s) e ∙ ap (joining (labels_in s)) ((λ j. came_to (sym is j) >>= λ _. selected (arm_patterns k (context_in scope path) (state_of w es n v) (arms_at m d (fields_in m first end))) p x) ∙ select_comes m d p k (context_in scope path) (state_of w es n v) w first end x h.known.struck found);
  }

  -- with none struck out
  none_struck : (none : t ≡ None) {k : Known} (path : Labels) {es : List Entry} (n v : ℕ) → Ready m w out fill k es
      → selected (arm_patterns k (context_in scope path) (state_of w es n v) (arms_at m d (fields_in m first end))) p x ≡ select k (arm_patterns k (context_in scope path) (state_of w es n v) (arms_at m d (fields_in m first end))) p x
  unfolding came_to ◌>>=◌
  none_struck none {k} path {es} n v h =
      (λ j. came_to (sym none j) >>= λ _. selected (arm_patterns k (context_in scope path) (state_of w es n v) (arms_at m d (fields_in m first end))) p x) ∙ select_comes m d p k (context_in scope path) (state_of w es n v) w first end x h.known.struck found

  module _ (none : t ≡ None) {s s1 : List ℕ} {r : Option ℕ} (i : Matches m first end x s s1 r) where
    pub choosing_fails : {why : Refusal} → r ≡ None → why ≡ refusal_at NoMatch p → Selecting s s1 (Err why)
    unfolding arm_for
    choosing_fails is e = record {
      says = λ k path es n v h.
          refusal_joined (labels_in s1) (labels_in s1) e ∙ ap (λ (y : Option ℕ). joining (labels_in s1) (arm_for m (d - 1) p k (context_in scope path) (state_of w es n v) y)) (sym is) ∙ selects m d p k (context_in scope path) (state_of w es n v) i ∙ ap (joining (labels_in s)) (none_struck none path n v h);
    }

    pub choosing_ends : {b q j : ℕ} {s2 : List ℕ} {g : Evaluated} → d ≡ suc b → length m ≤ 65535 → Siblings m d Arm first end → r ≡ Some q → Small j q
        → (StandsAs m b ExpressionKind j → TellsJoined m w out fill scope s1 s2 g (λ k c st. evaluate k c st (expression_at m b j))) → Selecting s s2 g
    unfolding arm_for arm_stands
    choosing_ends {b} {q} above short arms is small told =
        let below : d - 1 ≡ b = omega arith in
        let stands : StandsAs m b ExpressionKind q = rw below at (subst (arm_stands m (d - 1)) is (arm_stands_lem arms i)) in
        let there = operand_told m w out fill scope b q short stands small told in
        record {
          says = λ k path es n v h.
              let c = context_in scope path in
              let st = state_of w es n v in
              there.says k path es n v h ∙ ap (joining (labels_in s1)) (ap (λ (l : ℕ). evaluate k c st (expression_at m l q)) (sym below) ∙ ap (arm_for m (d - 1) p k c st) (sym is)) ∙ selects m d p k c st i ∙ ap (joining (labels_in s)) (none_struck none path n v h);
        }

-- ---- Selectors

-- a selector has an arm, which has a level
pub selector_deep : {m : List ℕ} {d b p : ℕ} → SelectorAt m d b p → b ≡ 0 → ⊥
selector_deep o z = omega (arith, level (first_sibling o.arms o.some).here.stands)

pub siblings_within : {m : List ℕ} {d : ℕ} {k : Kind} {q e : ℕ} → Siblings m d k q e → q < e → e ≤ length m
siblings_within ended l = absurd (omega arith)
siblings_within (sibling l s ended) h = s.stands.ends
siblings_within (sibling l s (sibling l' s' r)) h = siblings_within (sibling l' s' r) l'

-- what the arms of the selector at p give for the value x, with d levels for the arms
abbrev ChosenAt : (m w out : List ℕ) (fill : ℕ) (scope : Scope) (d p first end : ℕ) → Value → (s s' : List ℕ) → Evaluated → Type 0
ChosenAt m w out fill scope d p first end x s s' a = TellsJoined m w out fill scope s s' a (λ k c st. select k (arm_patterns k c st (arms_at m d (fields_in m first end))) p x)

-- the arms from f to r, which are all
pub chosen_here_lem : (m w out : List ℕ) (fill : ℕ) (scope : Scope) (d p : ℕ) (x : Value) {s s' : List ℕ} {a : Evaluated} {f e r : ℕ} → f ≡ end_of m (p + 3) → e ≡ end_of m p → Small r e
    → (Siblings m d Arm f r → ChosenAt m w out fill scope d p f r x s s' a)
    → Siblings m d Arm (end_of m (p + 3)) (end_of m p) → end_of m p ≤ 65535 → ChosenAt m w out fill scope d p (end_of m (p + 3)) (end_of m p) x s s' a
chosen_here_lem m w out fill scope d p x {s} {s'} {a} {f} {e} {r} first_is end_is near told arms short =
    let same : r ≡ end_of m p = near.1 (omega arith) ∙ end_is in
    subst (λ (n : ℕ). Siblings m d Arm n (end_of m p) → ChosenAt m w out fill scope d p n (end_of m p) x s s' a) first_is
    (subst (λ (n : ℕ). Siblings m d Arm f n → ChosenAt m w out fill scope d p f n x s s' a) same told) arms

module _ (m w out : List ℕ) (fill : ℕ) (scope : Scope) {d b p : ℕ} (o : SelectorAt m d b p) (short : length m ≤ 65535) where
  abbrev chosen_here : Value → Run
  chosen_here x k c st = select k (arm_patterns k c st (arms_at m b (fields_in m (end_of m (p + 3)) (end_of m p)))) p x

  selector_means : (k : Known) (c : Context) (st : State) → (evaluate k c st (expression_at m b (p + 3)) ▷ λ x. chosen_here x k c st) ≡ evaluate k c st (expression_at m d p)
  unfolding evaluate ◌▷◌
  selector_means k c st = sym (ap (evaluate k c st) o.tree)

  module _ {q : ℕ} {s s1 : List ℕ} {a : Evaluated} (small : Small q (p + 3)) (told : StandsAs m b ExpressionKind q → TellsJoined m w out fill scope s s1 a (λ k c st. evaluate k c st (expression_at m b q))) where
    pub selector_stops : {why : Refusal} {g : Evaluated} → a ≡ Err why → g ≡ Err why → TellsJoined m w out fill scope s s1 g (λ k c st. evaluate k c st (expression_at m d p))
    selector_stops refuses handed_on = then_stops m w out fill scope (λ k c st x. chosen_here x k c st) selector_means (operand_told m w out fill scope b (p + 3) short o.scrutinee small told) refuses handed_on

    pub selector_goes_on : {x : Value} {s2 : List ℕ} {g : Evaluated} → (b ≡ 0 → ⊥) → a ≡ Ok x
        → ((n : ℕ) → n ≡ suc (b - 1) → Siblings m n Arm (end_of m (p + 3)) (end_of m p) → end_of m p ≤ 65535 → ChosenAt m w out fill scope n p (end_of m (p + 3)) (end_of m p) x s1 s2 g)
        → TellsJoined m w out fill scope s s2 g (λ k c st. evaluate k c st (expression_at m d p))
    selector_goes_on deep yields chosen =
        then_goes_on m w out fill scope (λ k c st x. chosen_here x k c st) selector_means (operand_told m w out fill scope b (p + 3) short o.scrutinee small told) yields
        (chosen b (omega arith) o.arms (omega (arith, siblings_within o.arms o.some)))
