-- THE LAWS of declarations, for the cycle of blocks, statements and declarations: each is its checks, its start and then its body.
use Prim.Native.Nat.{ℕ, suc, ◌<◌}
use mathlib.Core.Path.{◌≡◌, refl, sym, ap, ◌∙◌, subst}
use mathlib.Core.Bool.{Bool, true, false, ◌&&◌}
use mathlib.Core.List.{List, []}
use mathlib.Core.Option.{Option, none, some}
use native.Mathlib.Omega.{arith}
use lib.ListN.{length}
use Rattle.values.specs.declared.Labelled.{Labelled}
use Rattle.values.specs.declared.Reason.TheVariants.{Unknown, DeclaredAgain}
use Rattle.rules.specs.Outcome.{Outcome, refused, done, ◌>>=◌, refuse_if, or_refuse}
use Rattle.rules.specs.Tree.{Parameter, TypeDefinition, ClassDefinition, Constant}
use Rattle.rules.specs.State.{State, Context, Known, body_scope, is_declared, mark_declared, free}
use Rattle.rules.specs.Evaluate.{find_type, find_class, come_to_all}
use Rattle.rules.specs.Run.{Given, named_once, parameters_known, parameter_values, store_title, store_all, Declare, of_type, of_class, included, run_block, placed_under, in_class, in_body, parent_first, enter_class, declaration, taken_defaults}
use Rattle.cells.specs.Memory.{Names, definition_of, names_of}
use Rattle.evaluator.specs.Known.{DefinedAt, KnownIn}
use Rattle.summaries.specs.Summaries.{Summarized}
use Rattle.parameters.specs.Checked.{check_given}
use Rattle.parameters.proofs.Laws.{check_none}
use Rattle.declarations.specs.Standing.{Defined, Set}
use Rattle.declarations.specs.Types.{start_type}
use Rattle.declarations.specs.Types as types
use Rattle.declarations.specs.Classes.{Checked, check_class, Entered, start_class}
use Rattle.rules.proofs.Outcome.{bind_bind, bind_same}
use Rattle.memory.specs.Words.{word_of}
use Rattle.memory.proofs.Words.{struck_same}

-- ---- Checks

check_then : {B : Type 0} (ps : List Parameter) (gs : List Given) (f : List Given → Outcome B)
    → (check_given ps gs >>= f) ≡ (parameters_known ps gs >>= λ _. parameter_values ps gs >>= λ vs. named_once [] gs >>= λ _. f vs)
unfolding check_given ◌>>=◌
check_then {B} ps gs f = go (parameters_known ps gs) (parameter_values ps gs) (named_once [] gs)
  where
    go : (a : Outcome (Unit {0})) (o : Outcome (List Given)) (b : Outcome (Unit {0})) → ◌≡◌ {A = Outcome B} ((a >>= λ _. o >>= λ vs. b >>= λ _. done vs) >>= f) (a >>= λ _. o >>= λ vs. b >>= λ _. f vs)
    go (refused r p) o b = refl
    go (done u) (refused r p) b = refl
    go (done u) (done vs) (refused r p) = refl
    go (done u) (done vs) (done v) = refl

class_then : {B : Type 0} (k : Known) (again : Bool) (p q : ℕ) (gs : List Given) (st : State) (f : Checked → Outcome B)
    → (check_class k again p q gs st >>= f) ≡ (or_refuse (find_class q k.definitions) Unknown p >>= λ d. refuse_if (again && is_declared q st) DeclaredAgain p >>= λ _. check_given d.parameters gs >>= λ vs. f (record { definition = d; values = vs }))
unfolding check_class ◌>>=◌ or_refuse refuse_if
class_then {B} k again p q gs st f = go (find_class q k.definitions) (again && is_declared q st)
  where
    go : (o : Option ClassDefinition) (t : Bool)
        → ◌≡◌ {A = Outcome B} ((or_refuse o Unknown p >>= λ d. refuse_if t DeclaredAgain p >>= λ _. check_given d.parameters gs >>= λ vs. done (record { definition = d; values = vs })) >>= f)
        (or_refuse o Unknown p >>= λ d. refuse_if t DeclaredAgain p >>= λ _. check_given d.parameters gs >>= λ vs. f (record { definition = d; values = vs }))
    go none t = refl
    go (some d) true = refl
    go (some d) false = bind_bind (check_given d.parameters gs) (λ vs. done (record { definition = d; values = vs })) f

-- ---- Declarations

module _ (k : Known) (n : ℕ) (c : Context) (st : State) where
  pub type_runs : (p t : ℕ) (x : Labelled) (gs : List Given)
      → declaration k (suc n) (of_type p t x gs) c st ≡ (start_type k p t x gs (in_body n c) st >>= λ e. run_block k (declaration k n) e.body (in_body n c) e.state >>= λ st'. done (free (body_scope n) st'))
  unfolding declaration start_type or_refuse ◌>>=◌
  type_runs p t x gs = go (find_type t k.definitions)
    where
      body : types.Entered → Outcome State
      body e = run_block k (declaration k n) e.body (in_body n c) e.state >>= λ st'. done (free (body_scope n) st')

      came : TypeDefinition → Outcome (Unit {0})
      came d = come_to_all k (taken_defaults d.parameters gs)

      entered : TypeDefinition → List Given → Outcome types.Entered
      entered d vs = store_title k.title (in_body n c) p x st >>= λ st₁. came d >>= λ _. store_all (in_body n c) vs st₁ >>= λ st₂. done (record { body = d.body; state = st₂ })

      whole : TypeDefinition → List Given → Outcome State
      whole d vs = store_title k.title (in_body n c) p x st >>= λ st₁. came d >>= λ _. store_all (in_body n c) vs st₁ >>= λ st₂. run_block k (declaration k n) d.body (in_body n c) st₂ >>= λ st₃. done (free (body_scope n) st₃)

      same : (d : TypeDefinition) (vs : List Given) → whole d vs ≡ (entered d vs >>= body)
      same d vs = titled (store_title k.title (in_body n c) p x st)
        where
          stored : (o : Outcome State) → (o >>= λ st₂. run_block k (declaration k n) d.body (in_body n c) st₂ >>= λ st₃. done (free (body_scope n) st₃)) ≡ ((o >>= λ st₂. done (record { body = d.body; state = st₂ })) >>= body)
          stored (refused r q) = refl
          stored (done st₂) = refl

          unstruck : (u : Outcome (Unit {0})) (st₁ : State) → (u >>= λ _. store_all (in_body n c) vs st₁ >>= λ st₂. run_block k (declaration k n) d.body (in_body n c) st₂ >>= λ st₃. done (free (body_scope n) st₃))
              ≡ ((u >>= λ _. store_all (in_body n c) vs st₁ >>= λ st₂. done (record { body = d.body; state = st₂ })) >>= body)
          unstruck (refused r q) st₁ = refl
          unstruck (done u) st₁ = stored (store_all (in_body n c) vs st₁)

          titled : (o : Outcome State) → (o >>= λ st₁. came d >>= λ _. store_all (in_body n c) vs st₁ >>= λ st₂. run_block k (declaration k n) d.body (in_body n c) st₂ >>= λ st₃. done (free (body_scope n) st₃))
              ≡ ((o >>= λ st₁. came d >>= λ _. store_all (in_body n c) vs st₁ >>= λ st₂. done (record { body = d.body; state = st₂ })) >>= body)
          titled (refused r q) = refl
          titled (done st₁) = unstruck (came d) st₁

      go : (o : Option TypeDefinition) → (or_refuse o Unknown p >>= λ d. parameters_known d.parameters gs >>= λ _. parameter_values d.parameters gs >>= λ vs. named_once [] gs >>= λ _. whole d vs)
          ≡ ((or_refuse o Unknown p >>= λ d. check_given d.parameters gs >>= λ vs. entered d vs) >>= body)
      go none = refl
      go (some d) = sym (check_then d.parameters gs (whole d)) ∙ bind_same (check_given d.parameters gs) (whole d) (λ vs. entered d vs >>= body) (same d) ∙ sym (bind_bind (check_given d.parameters gs) (entered d) body)

  pub class_runs : (p q : ℕ) (gs : List Given)
      → declaration k (suc n) (of_class p q gs) c st ≡ (check_class k true p q gs st >>= λ x. parent_first k (declaration k n) x.definition.parent c st >>= λ st₁. refuse_if (is_declared q st₁) DeclaredAgain p >>= λ _. enter_class k (declaration k n) x.definition (taken_defaults x.definition.parameters gs) x.values c st₁)
  unfolding declaration or_refuse refuse_if ◌>>=◌
  class_runs p q gs = go (find_class q k.definitions) (is_declared q st) ∙ sym (class_then k true p q gs st after)
    where
      after : Checked → Outcome State
      after x = parent_first k (declaration k n) x.definition.parent c st >>= λ st₁. refuse_if (is_declared q st₁) DeclaredAgain p >>= λ _. enter_class k (declaration k n) x.definition (taken_defaults x.definition.parameters gs) x.values c st₁

      go : (o : Option ClassDefinition) (t : Bool)
          → (or_refuse o Unknown p >>= λ d. refuse_if t DeclaredAgain p >>= λ _. parameters_known d.parameters gs >>= λ _. parameter_values d.parameters gs >>= λ vs. named_once [] gs >>= λ _. after (record { definition = d; values = vs }))
          ≡ (or_refuse o Unknown p >>= λ d. refuse_if t DeclaredAgain p >>= λ _. check_given d.parameters gs >>= λ vs. after (record { definition = d; values = vs }))
      go none t = refl
      go (some d) true = refl
      go (some d) false = sym (check_then d.parameters gs (λ vs. after (record { definition = d; values = vs })))

  pub include_runs : (p q : ℕ)
      → declaration k (suc n) (included p q) c st ≡ (check_class k false p q [] st >>= λ x. parent_first k (declaration k n) x.definition.parent c st >>= λ st₁. elim (is_declared q st₁) [ true ↦ done st₁ | false ↦ enter_class k (declaration k n) x.definition (taken_defaults x.definition.parameters []) x.values c st₁ ])
  unfolding declaration or_refuse refuse_if ◌>>=◌
  include_runs p q = go (find_class q k.definitions) ∙ sym (class_then k false p q [] st after)
    where
      after : Checked → Outcome State
      after x = parent_first k (declaration k n) x.definition.parent c st >>= λ st₁. elim (is_declared q st₁) [ true ↦ done st₁ | false ↦ enter_class k (declaration k n) x.definition (taken_defaults x.definition.parameters []) x.values c st₁ ]

      go : (o : Option ClassDefinition) → (or_refuse o Unknown p >>= λ d. parameter_values d.parameters [] >>= λ vs. after (record { definition = d; values = vs }))
          ≡ (or_refuse o Unknown p >>= λ d. check_given d.parameters [] >>= λ vs. after (record { definition = d; values = vs }))
      go none = refl
      go (some d) = ap (λ (o : Outcome (List Given)). o >>= λ vs. after (record { definition = d; values = vs })) (sym (check_none d.parameters))

pub class_enters : (k : Known) (declare : Declare) (d : ClassDefinition) (ds : List Constant) (vs : List Given) (c : Context) (st : State)
    → enter_class k declare d ds vs c st ≡ (start_class k d ds vs c st >>= λ e. run_block k declare e.body e.here e.state)
unfolding enter_class start_class ◌>>=◌
class_enters k declare d ds vs c st = came (come_to_all k ds)
  where
    here : Context
    here = in_class d.name (placed_under d.parent c st) c

    entered : State → Outcome Entered
    entered st' = done (record { body = d.body; here = here; state = st' })

    stored : Outcome State
    stored = store_all here vs (mark_declared d.name (placed_under d.parent c st) st)

    go : (o : Outcome State) → (o >>= λ st'. run_block k declare d.body here st') ≡ ((o >>= entered) >>= λ e. run_block k declare e.body e.here e.state)
    go (refused r p) = refl
    go (done st') = refl

    came : (u : Outcome (Unit {0})) → (u >>= λ _. stored >>= λ st'. run_block k declare d.body here st') ≡ ((u >>= λ _. stored >>= entered) >>= λ e. run_block k declare e.body e.here e.state)
    came (refused r p) = refl
    came (done u) = go stored

-- ---- What stays with the names

definition_kept : (w w' : List ℕ) → names_of w' ≡ names_of w → (n : ℕ) → definition_of w n ≡ definition_of w' n
unfolding names_of
definition_kept w w' kept n = ap (λ (ns : Names). ns.definitions n) (sym kept)

pub set_kept : {m w w' : List ℕ} → names_of w' ≡ names_of w → length w' ≡ length w → (Summarized m w → Summarized m w') → Set m w → Set m w'
set_kept {m} {w} {w'} kept size right s = record {
  memory = omega (arith, s.memory);
  manifest = s.manifest;
  strings = s.strings;
  definitions = λ n. subst (Defined m) (definition_kept w w' kept n) (s.definitions n);
  summaries = right s.summaries;
}

pub known_kept : {m w w' : List ℕ} {k : Known} → names_of w' ≡ names_of w → ((i : ℕ) → i < 3 → word_of w' i ≡ word_of w i) → KnownIn m w k → KnownIn m w' k
unfolding names_of
known_kept {m} {w} {w'} {k} kept words i = record {
  built_ins = λ n. i.built_ins n ∙ ap (λ (ns : Names). ns.built_ins n) (sym kept);
  definitions = λ n. subst (λ (p : ℕ). DefinedAt m p (find_type n k.definitions) (find_class n k.definitions)) (definition_kept w w' kept n) (i.definitions n);
  struck = λ v. i.struck v ∙ sym (struck_same w w' words v);
}
