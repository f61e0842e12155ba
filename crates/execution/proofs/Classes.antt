-- One law for each way through `gather_class`, `run_include`, `declare_class`, `declare_parent` and `enter_class`, its premises as the callees ensure them.
use Prim.Native.Nat.{ℕ, zero, suc, ◌+◌, ◌-◌, ◌≤◌, ◌<◌}
use mathlib.Core.Path.{◌≡◌, refl, sym, ap, ◌∙◌, subst}
use mathlib.Core.Bool.{Bool, true, false, ◌&&◌}
use mathlib.Core.List.{List, []}
use mathlib.Core.Option.{Option, none, some}
use native.Mathlib.Omega.{arith}
use lib.ListN.{length}
use borrow.Author.Tests.{eq-eqb, ne_eqb}
use Rattle.labels.specs.declared.Labels.{Labels}
use Rattle.values.specs.declared.Refusal.{Refusal}
use Rattle.values.specs.Refusals.{refusal_at}
use Rattle.values.specs.declared.Reason.TheVariants.{StepLimit, LevelLimit, Unknown, DeclaredAgain}
use Rattle.wire.specs.Bytes.{pick, byte, two, end_of, fields_in}
use Rattle.wire.proofs.Fields.{no_fields}
use Rattle.rules.specs.Format.{forms, form_in, form_of, head_size, size}
use Rattle.rules.specs.Outcome.{Outcome, refused, done, ◌>>=◌, refuse_if, or_refuse}
use Rattle.rules.specs.Tree.{Statement, include, Parent, ClassDefinition, class_definition, definition}
use Rattle.rules.specs.State.{Entry, State, Context, Known, is_declared, take_step}
use Rattle.rules.specs.Evaluate.{find_class}
use Rattle.rules.specs.Run.{Given, Declare, of_class, included, evaluate_all, run, run_block, declaration, declaration_place, parent_first, enter_class, parameter_values, taken_defaults}
use Rattle.rules.specs.declared.Kind.TheVariants.{Statement as StatementKind, Block as BlockKind, Attribute as AttributeKind}
use Rattle.places.specs.At.{attributes_at, statement_at, block_at, item_at, parent_at, StandsAs, Siblings}
use Rattle.places.proofs.Open.{level, header_within}
use Rattle.places.proofs.Statements.{class_opens}
use Rattle.places.proofs.Items.{class_definition_opens, parent_given, parent_none}
use Rattle.cells.specs.Memory.{state_of}
use Rattle.memory.specs.declared.Scope.{Scope}
use Rattle.memory.specs.declared.Context.{Context as Here}
use Rattle.memory.specs.Contexts.{context_in, context_of}
use Rattle.evaluator.specs.Answers.{refused_by}
use Rattle.attributes.specs.Names.{Alike, alike_none}
use Rattle.attributes.specs.Table.{Gives}
use Rattle.attributes.specs.Evaluated.{GivenIn, not_given, given}
use Rattle.attributes.proofs.Table.{gives_none}
use Rattle.parameters.specs.Checked.{check_given}
use Rattle.parameters.proofs.Laws.{checked_values}
use Rattle.provenance.specs.Notes.{Question}
use Rattle.declarations.specs.declared.ClassBody.{ClassBody}
use Rattle.declarations.specs.Standing.{NamesKnown, Set}
use Rattle.declarations.specs.Classes.{Checked, check_class, ClassStands, FoundStands, FoundAs, refused_so as not_found, found_so, ChecksClass, Entered, started_as, BodyStands, StartsClass}
use Rattle.declarations.proofs.Laws.{class_runs, include_runs, class_enters}
use Rattle.execution.specs.Executed.{Able, Stage, state_with, Ends, refused_so, done_so, AbleAfter, Executes, Enters, asked}
use Rattle.execution.proofs.Ends.{ended_done, ended_refused, ends_same, stage_kept, refuses, stops, goes_on, able_after}
use Rattle.execution.proofs.Names.{known_in, name_small}
use Rattle.execution.proofs.Types.{too_deep}
use Rattle.memory.specs.Words.{StrikesAs}
use Rattle.std.specs.Prelude.{Result, Ok, Err}

-- ---- Names and places

-- the name of a 28, of a 34 and of its parent, if it has one, is below 1,024
pub class_name : {m w : List ℕ} {d p : ℕ} → Set m w → StandsAs m d StatementKind p → byte m p ≡ 0x28 → NamesKnown m p → two m (p + 3) < 1024
unfolding form_of form_in forms
class_name set s tag known = name_small s.stands tag refl set.strings known

module _ {m w : List ℕ} {d : ℕ} (set : Set m w) (s : ClassStands m d) where
  pub own_name : two m (d + 3) < 1024
  unfolding form_of form_in forms
  own_name = name_small s.stands.stands s.tag refl set.strings s.names

  pub parent_name : byte m (d + 5) ≡ 0x35 → two m (d + 5 + 3) < 1024
  unfolding form_of form_in forms head_size size
  parent_name tag =
      let inner : NamesKnown m (d + 3 + 2) = known_in {h = 2} s.stands.stands s.tag (record { head = refl; rest = refl }) s.names in
      let same : d + 3 + 2 ≡ d + 5 = omega arith in
      name_small (class_definition_opens s.stands.stands s.tag).first tag refl set.strings (subst (NamesKnown m) same inner)

  pub class_near : d + 8 ≤ 65535
  class_near = omega (arith, header_within (class_definition_opens s.stands.stands s.tag).first, set.manifest)

-- ---- The ways of `gather_class`

module _ {m : List ℕ} {d p : ℕ} (s : StandsAs m d StatementKind p) (tag : byte m p ≡ 0x28) where
  pub class_attributes : {end : ℕ} → end ≡ end_of m p → Siblings m (d - 1) AttributeKind (p + 5) end
  class_attributes e = rw e (class_opens s.stands (level s.stands) tag).attributes

  class_statement_runs : (k : Known) (declare : Declare) (c : Context) (st : State) → run k declare (statement_at m d p) c st ≡ (evaluate_all k c st (attributes_at m (d - 1) (fields_in m (p + 5) (end_of m p))) >>= λ gs. declare (of_class p (two m (p + 3)) gs) c st)
  unfolding run
  class_statement_runs k declare c st = ap (λ (t : Statement). run k declare t c st) (class_opens s.stands (level s.stands) tag).tree

  module _ (levels : ℕ) {w out t : List ℕ} {fill end : ℕ} {scope : Scope} {g : Result Unit Refusal} (at_end_lem : end ≡ end_of m p) (told : GivenIn m w out fill scope (d - 1) (p + 5) end t g) where
    given_here : {a : Result Unit Refusal} → g ≡ a → GivenIn m w out fill scope (d - 1) (p + 5) (end_of m p) t a
    given_here {a} is = subst (λ (e : ℕ). GivenIn m w out fill scope (d - 1) (p + 5) e t a) at_end_lem (subst (GivenIn m w out fill scope (d - 1) (p + 5) end t) is told)

    pub class_refused : {left : ℕ} {path : Labels} {why : Refusal} → g ≡ Err why → Executes m w w out out fill left left (context_in scope path) (Err why) (λ k. run k (declaration k levels) (statement_at m d p))
    unfolding ◌>>=◌
    class_refused {left} {path} {why} is = go (given_here is)
      where
        go : GivenIn m w out fill scope (d - 1) (p + 5) (end_of m p) t (Err why) → Executes m w w out out fill left left (context_in scope path) (Err why) (λ k. run k (declaration k levels) (statement_at m d p))
        go (not_given tells) = refuses why (omega arith) (λ k ask es i. class_statement_runs k (declaration k levels) (context_in scope path) _ ∙ ap (λ (o : Outcome (List Given)). o >>= λ gs. declaration k levels (of_class p (two m (p + 3)) gs) (context_in scope path) (state_with w out fill left es)) (sym (tells.says k path es _ _ i.ready)))

    pub class_declares : {name left left' : ℕ} {w' out' : List ℕ} {path : Labels} {a : Result ℕ Refusal} → g ≡ Ok tt → name ≡ two m (p + 3)
        → ((gs : List Given) → Gives t gs → Alike m gs (fields_in m (p + 5) end) → (true ≡ false → gs ≡ []) → Executes m w w' out out' fill left left' (context_in scope path) a (λ k. declaration k levels (asked true p name gs)))
        → Executes m w w' out out' fill left left' (context_in scope path) a (λ k. run k (declaration k levels) (statement_at m d p))
    unfolding ◌>>=◌ asked
    class_declares {name} {left} {left'} {w'} {out'} {path} {a} is by_name then = go (given_here is)
      where
        go : GivenIn m w out fill scope (d - 1) (p + 5) (end_of m p) t (Ok tt) → Executes m w w' out out' fill left left' (context_in scope path) a (λ k. run k (declaration k levels) (statement_at m d p))
        go (given gs gives alikes tells) =
            goes_on (omega arith) (λ k ask es i. record {
              entries = es;
              stage = i;
              same = class_statement_runs k (declaration k levels) (context_in scope path) _
                  ∙ ap (λ (o : Outcome (List Given)). o >>= λ gs. declaration k levels (of_class p (two m (p + 3)) gs) (context_in scope path) (state_with w out fill left es)) (sym (tells.says k path es _ _ i.ready))
                  ∙ ap (λ (n : ℕ). declaration k levels (of_class p n gs) (context_in scope path) (state_with w out fill left es)) (sym by_name);
            }) (then gs gives (rw at_end_lem alikes) (λ e. let z : ◌≡◌ {A = ℕ} 0 1 = cc in absurd (omega arith)))

-- ---- What a 29 or a child's definition gives

-- what is asked for gives nothing
pub nothing_given : (levels p name : ℕ) {m t w w' out out' : List ℕ} {fill left left' : ℕ} {c : Context} {a : Result ℕ Refusal} → length t ≡ 0
    → ((gs : List Given) → Gives t gs → Alike m gs (fields_in m 0 0) → (false ≡ false → gs ≡ []) → Executes m w w' out out' fill left left' c a (λ k. declaration k levels (asked false p name gs)))
    → Executes m w w' out out' fill left left' c a (λ k. declaration k levels (included p name))
unfolding asked
nothing_given levels p name {m} {t} e then = then [] (gives_none t (omega arith)) (rw (no_fields m 0 0 (omega arith)) alike_none) (λ _. refl)

-- ---- The ways of `run_include`

module _ (m w : List ℕ) (levels p : ℕ) {name : ℕ} {b : Bool} (by_name : name ≡ two m (p + 3)) (told : (es : List Entry) (n r : ℕ) → b ≡ is_declared name (state_of w es n r)) where
  include_told : (out : List ℕ) (fill left : ℕ) {x : Bool} (k : Known) (c : Context) (es : List Entry) → b ≡ x → run k (declaration k levels) (include p (two m (p + 3))) c (state_with w out fill left es) ≡ elim x [ true ↦ done (state_with w out fill left es) | false ↦ declaration k levels (included p name) c (state_with w out fill left es) ]
  unfolding run
  include_told out fill left {x} k c es is =
      ap (λ (n : ℕ). run k (declaration k levels) (include p n) c (state_with w out fill left es)) (sym by_name)
      ∙ ap (λ (y : Bool). elim y [ true ↦ done (state_with w out fill left es) | false ↦ declaration k levels (included p name) c (state_with w out fill left es) ]) (sym (told es _ _) ∙ is)

  pub include_declared : {out : List ℕ} {fill left : ℕ} {c : Context} → Able m w out fill → b ≡ true → Executes m w w out out fill left left c (Ok fill) (λ k. run k (declaration k levels) (include p (two m (p + 3))))
  include_declared {out} {fill} {left} {c} able is = stops able (omega arith) (λ k ask es g. record { entries = es; same = include_told out fill left k c es is; stage = g })

  pub include_declares : {w' out out' : List ℕ} {fill left left' : ℕ} {c : Context} {a : Result ℕ Refusal} → b ≡ false → Executes m w w' out out' fill left left' c a (λ k. declaration k levels (included p name)) → Executes m w w' out out' fill left left' c a (λ k. run k (declaration k levels) (include p (two m (p + 3))))
  include_declares {out = out} {fill = fill} {left = left} {c = c} is then = goes_on (omega arith) (λ k ask es g. record { entries = es; stage = g; same = include_told out fill left k c es is }) then

-- ---- The ways of `declare_class`

pub class_too_deep : (again : Bool) {m w out : List ℕ} {fill left levels : ℕ} {c : Context} {a : Result ℕ Refusal} (p q : ℕ) (gs : List Given) → levels ≡ 0 → a ≡ Err (refusal_at LevelLimit p) → Executes m w w out out fill left left c a (λ k. declaration k levels (asked again p q gs))
unfolding asked declaration_place
class_too_deep true p q gs z e = too_deep (of_class p q gs) z e
class_too_deep false p q gs z e = too_deep (included p q) z e

-- the second look, and then the class's body
looked : (again : Bool) → Known → (n p q : ℕ) → List Given → Checked → Context → State → Outcome State
looked true k n p q gs x c st = refuse_if (is_declared q st) DeclaredAgain p >>= λ _. enter_class k (declaration k n) x.definition (taken_defaults x.definition.parameters gs) x.values c st
looked false k n p q gs x c st = elim (is_declared q st) [ true ↦ done st | false ↦ enter_class k (declaration k n) x.definition (taken_defaults x.definition.parameters gs) x.values c st ]

asked_runs : (k : Known) (n p q : ℕ) (again : Bool) (gs : List Given) (c : Context) (st : State) → (again ≡ false → gs ≡ []) → declaration k (suc n) (asked again p q gs) c st ≡ (check_class k again p q gs st >>= λ x. parent_first k (declaration k n) x.definition.parent c st >>= looked again k n p q gs x c)
unfolding asked looked
asked_runs k n p q true gs c st empty = class_runs k n c st p q gs
asked_runs k n p q false gs c st empty = include_runs k n c st p q ∙ ap (λ (gs : List Given). check_class k false p q gs st >>= λ x. parent_first k (declaration k n) x.definition.parent c st >>= looked false k n p q gs x c) (sym (empty refl))

looked_new : (k : Known) (again : Bool) (n p q : ℕ) (gs : List Given) (x : Checked) (c : Context) (st : State) → is_declared q st ≡ false → looked again k n p q gs x c st ≡ enter_class k (declaration k n) x.definition (taken_defaults x.definition.parameters gs) x.values c st
unfolding looked refuse_if ◌>>=◌
looked_new k true n p q gs x c st e = rw e refl
looked_new k false n p q gs x c st e = rw (e, looked) refl

-- a class that is declared meanwhile
meanwhile_able : (again : Bool) (p : ℕ) {m w out : List ℕ} {fill : ℕ} {answer : Result ℕ Refusal} → answer ≡ pick again (Err (refusal_at DeclaredAgain p)) (Ok fill) → Able m w out fill → AbleAfter m w out answer
unfolding AbleAfter
meanwhile_able true p {m} {w} {out} e a = subst (AbleAfter m w out) (sym e) tt
meanwhile_able false p {m} {w} {out} e a = subst (AbleAfter m w out) (sym e) a

meanwhile_ends : (k : Known) (again : Bool) (n p q : ℕ) (gs : List Given) (x : Checked) (c : Context) {m w out : List ℕ} {fill left : ℕ} {ask : Question} {es : List Entry} {answer : Result ℕ Refusal} → is_declared q (state_with w out fill left es) ≡ true → answer ≡ pick again (Err (refusal_at DeclaredAgain p)) (Ok fill) → Stage m w out fill k ask es → Ends m w out left k ask (looked again k n p q gs x c (state_with w out fill left es)) answer
unfolding looked refuse_if ◌>>=◌
meanwhile_ends k true n p q gs x c {m} {w} {out} {left = left} y e g = subst (Ends m w out left k _ _) (sym e) (refused_so (rw (y, looked) refl))
meanwhile_ends k false n p q gs x c {m} {w} {out} {left = left} {es = es} y e g = subst (Ends m w out left k _ _) (sym e) (done_so es (rw (y, looked) refl) g)

-- a class that passed the checks has the values that its parameters get
abbrev checked_as : ClassDefinition → List Given → Outcome Checked
checked_as d vs = done (record { definition = d; values = vs })

class_values : (k : Known) (again : Bool) (p q : ℕ) (gs : List Given) (st : State) {d : ClassDefinition} {vs : List Given} → check_class k again p q gs st ≡ checked_as d vs → parameter_values d.parameters gs ≡ done vs
unfolding check_class or_refuse refuse_if ◌>>=◌
class_values k again p q gs st {d} {vs} e = go (find_class q k.definitions) (again && is_declared q st) e
  where
    last : (x : ClassDefinition) (o : Outcome (List Given)) → check_given x.parameters gs ≡ o → (o >>= λ us. checked_as x us) ≡ checked_as d vs → parameter_values d.parameters gs ≡ done vs
    last x (refused r z) h e = absurd (let z : ◌≡◌ {A = ℕ} 0 1 = cc in omega arith)
    last x (done us) h e =
        let same : ◌≡◌ {A = Checked} (record { definition = x; values = us }) (record { definition = d; values = vs }) = cc in
        ap (λ (y : Checked). parameter_values y.definition.parameters gs) (sym same) ∙ checked_values x.parameters gs h ∙ ap (λ (y : Checked). done y.values) same

    go : (o : Option ClassDefinition) (b : Bool) → (or_refuse o Unknown p >>= λ x. refuse_if b DeclaredAgain p >>= λ _. check_given x.parameters gs >>= λ us. checked_as x us) ≡ checked_as d vs → parameter_values d.parameters gs ≡ done vs
    go none b e = absurd (let z : ◌≡◌ {A = ℕ} 0 1 = cc in omega arith)
    go (some x) true e = absurd (let z : ◌≡◌ {A = ℕ} 0 1 = cc in omega arith)
    go (some x) false e = last x (check_given x.parameters gs) refl e

-- the parent that the definition at p names
same_class : {a b : ClassDefinition} → definition (class_definition a) ≡ definition (class_definition b) → a ≡ b
same_class e = cc

class_parent : {m : List ℕ} {p : ℕ} {d : ClassDefinition} → ClassStands m p → item_at m p ≡ definition (class_definition d) → d.parent ≡ parent_at m (p + 5)
class_parent s e = ap (λ (x : ClassDefinition). x.parent) (same_class (sym e ∙ (class_definition_opens s.stands.stands s.tag).tree))

-- what the checks come to
record FoundClass (m : List ℕ) (k : Known) (n p q d : ℕ) (again : Bool) (gs : List Given) (c : Context) (st : State) : Type 0 where
  checked : Checked
  item : item_at m d ≡ definition (class_definition checked.definition)
  values : parameter_values checked.definition.parameters gs ≡ done checked.values
  runs : declaration k (suc n) (asked again p q gs) c st ≡ (parent_first k (declaration k n) (parent_at m (d + 5)) c st >>= looked again k n p q gs checked c)

module _ {m t w : List ℕ} {levels p q first end : ℕ} {again : Bool} {found : Result ℕ Refusal} (n : ℕ) (up : levels ≡ suc n) (checks : ChecksClass m t w again p q first end found) where
  pub found_stands : {d : ℕ} → found ≡ Ok d → ClassStands m d
  unfolding FoundStands
  found_stands is = subst (FoundStands m) is checks.stands

  pub check_refused : {out : List ℕ} {fill left : ℕ} {c : Context} {why : Refusal} → found ≡ Err why
      → (gs : List Given) → Gives t gs → Alike m gs (fields_in m first end) → (again ≡ false → gs ≡ []) → Executes m w w out out fill left left c (Err why) (λ k. declaration k levels (asked again p q gs))
  unfolding ◌>>=◌
  check_refused {out} {fill} {left} {c} {why} is gs gives alikes empty = refuses why (omega arith) (λ k ask es g.
      ap (λ (l : ℕ). declaration k l (asked again p q gs) c (state_with w out fill left es)) up
      ∙ asked_runs k n p q again gs c (state_with w out fill left es) empty
      ∙ ap (λ (o : Outcome Checked). o >>= λ x. parent_first k (declaration k n) x.definition.parent c (state_with w out fill left es) >>= looked again k n p q gs x c)
      (go (subst (FoundAs m (check_class k again p q gs (state_with w out fill left es))) is (checks.says k es _ _ gs g.ready.known gives alikes))))
    where
      go : {o : Outcome Checked} → FoundAs m o (Err why) → o ≡ refused_by why
      go (not_found e) = e

  module _ {d : ℕ} (is : found ≡ Ok d) (gs : List Given) (gives : Gives t gs) (alikes : Alike m gs (fields_in m first end)) (empty : again ≡ false → gs ≡ []) where
    found_class : (left : ℕ) {out : List ℕ} {fill : ℕ} {k : Known} {ask : Question} (c : Context) {es : List Entry} → Stage m w out fill k ask es → FoundClass m k n p q d again gs c (state_with w out fill left es)
    unfolding ◌>>=◌
    found_class left {out} {fill} {k} c {es} g = go (subst (FoundAs m (check_class k again p q gs (state_with w out fill left es))) is (checks.says k es _ _ gs g.ready.known gives alikes))
      where
        go : FoundAs m (check_class k again p q gs (state_with w out fill left es)) (Ok d) → FoundClass m k n p q d again gs c (state_with w out fill left es)
        go (found_so x vs item e) = record {
          checked = record { definition = x; values = vs };
          item = item;
          values = class_values k again p q gs (state_with w out fill left es) e;
          runs = asked_runs k n p q again gs c (state_with w out fill left es) empty
              ∙ ap (λ (o : Outcome Checked). o >>= λ x. parent_first k (declaration k n) x.definition.parent c (state_with w out fill left es) >>= looked again k n p q gs x c) e
              ∙ ap (λ (o : Option Parent). parent_first k (declaration k n) o c (state_with w out fill left es) >>= looked again k n p q gs (record { definition = x; values = vs }) c) (class_parent (found_stands is) item);
        }

    module _ {w₁ out out₁ : List ℕ} {fill left left₁ : ℕ} {c : Context} {a : Result ℕ Refusal} (parent : Executes m w w₁ out out₁ fill left left₁ c a (λ k. parent_first k (declaration k n) (parent_at m (d + 5)))) where
      pub parent_refused : {why : Refusal} → a ≡ Err why → Executes m w w₁ out out₁ fill left left₁ c a (λ k. declaration k levels (asked again p q gs))
      unfolding ◌>>=◌
      parent_refused {why} e = subst (λ (b : Result ℕ Refusal). Executes m w w₁ out out₁ fill left left₁ c b (λ k. declaration k levels (asked again p q gs))) (sym e) (refuses why parent.steps (λ k ask es g.
          let f = found_class left c g in
          ap (λ (l : ℕ). declaration k l (asked again p q gs) c (state_with w out fill left es)) up
          ∙ f.runs
          ∙ ap (λ (o : Outcome State). o >>= looked again k n p q gs f.checked c) (ended_refused (subst (Ends m w₁ out₁ left₁ k _ (parent_first k (declaration k n) (parent_at m (d + 5)) c (state_with w out fill left es))) e (parent.says k ask es g)))))

      -- the parent is declared: the second look
      module _ {fill₁ : ℕ} (e : a ≡ Ok fill₁) {b : Bool} (told : (es : List Entry) (n r : ℕ) → b ≡ is_declared q (state_of w₁ es n r)) where
        record After (k : Known) (ask : Question) (es : List Entry) : Type 0 where
          entries : List Entry
          stage : Stage m w₁ out₁ fill₁ k ask entries
          class : FoundClass m k n p q d again gs c (state_with w out fill left es)
          same : declaration k levels (asked again p q gs) c (state_with w out fill left es) ≡ looked again k n p q gs class.checked c (state_with w₁ out₁ fill₁ left₁ entries)

        after : (k : Known) (ask : Question) (es : List Entry) → Stage m w out fill k ask es → After k ask es
        unfolding ◌>>=◌
        after k ask es g =
            let f = found_class left c g in
            let o = ended_done (subst (Ends m w₁ out₁ left₁ k _ (parent_first k (declaration k n) (parent_at m (d + 5)) c (state_with w out fill left es))) e (parent.says k ask es g)) in
            record {
              entries = o.entries;
              stage = o.stage;
              class = f;
              same = ap (λ (l : ℕ). declaration k l (asked again p q gs) c (state_with w out fill left es)) up ∙ f.runs ∙ ap (λ (o : Outcome State). o >>= looked again k n p q gs f.checked c) o.same;
            }

        pub class_meanwhile : {answer : Result ℕ Refusal} → b ≡ true → answer ≡ pick again (Err (refusal_at DeclaredAgain p)) (Ok fill₁) → Executes m w w₁ out out₁ fill left left₁ c answer (λ k. declaration k levels (asked again p q gs))
        class_meanwhile y i = record {
          able = meanwhile_able again p i (able_after e parent.able);
          steps = parent.steps;
          says = λ k ask es g.
              let f = after k ask es g in
              ends_same f.same (meanwhile_ends k again n p q gs f.class.checked c (sym (told f.entries _ _) ∙ y) i f.stage);
        }

        pub class_entered : {w₂ out₂ : List ℕ} {left₂ : ℕ} {answer : Result ℕ Refusal} → b ≡ false → Enters m t w₁ w₂ out₁ out₂ fill₁ left₁ left₂ n d c answer → Executes m w w₂ out out₂ fill left left₂ c answer (λ k. declaration k levels (asked again p q gs))
        class_entered y enters = record {
          able = enters.able;
          steps = let x = enters.steps in let z = parent.steps in omega arith;
          says = λ k ask es g.
              let f = after k ask es g in
              ends_same (f.same ∙ looked_new k again n p q gs f.class.checked c _ (sym (told f.entries _ _) ∙ y)) (enters.says f.class.checked.definition gs f.class.checked.values f.class.item gives f.class.values k ask f.entries f.stage);
        }

-- ---- The ways of `declare_parent`

-- a step taken, or none left
step_taken : (p : ℕ) (w out : List ℕ) (fill left : ℕ) (es : List Entry) → (left ≡ 0 → ⊥) → take_step p (state_with w out fill left es) ≡ done (state_with w out fill (left - 1) es)
unfolding take_step state_of
step_taken p w out fill left es some_left = go left some_left
  where
    go : (n : ℕ) → (n ≡ 0 → ⊥) → take_step p (state_with w out fill n es) ≡ done (state_with w out fill (n - 1) es)
    go zero h = absurd (h refl)
    go (suc n) h = let same : n ≡ suc n - 1 = omega arith in ap (λ (i : ℕ). done (state_with w out fill i es)) same

no_step : (p : ℕ) (w out : List ℕ) (fill left : ℕ) (es : List Entry) → left ≡ 0 → take_step p (state_with w out fill left es) ≡ refused StepLimit p
unfolding take_step state_of
no_step p w out fill left es none_left = rw (none_left, take_step) refl

-- after the look whether the class `name`, named by the 35 at q, is declared
abbrev after_look : (levels q name : ℕ) → Known → Context → State → Bool → Outcome State
after_look levels q name k c st x = elim x [ true ↦ done st | false ↦ take_step q st >>= λ st'. declaration k levels (included q name) c st' ]

module _ (m w : List ℕ) (levels d : ℕ) {t : ℕ} (read : t ≡ byte m (d + 5)) where
  pub no_parent_lem : {out : List ℕ} {fill left : ℕ} {c : Context} → Able m w out fill → (t ≡ 0x35 → ⊥) → Executes m w w out out fill left left c (Ok fill) (λ k. parent_first k (declaration k levels) (parent_at m (d + 5)))
  unfolding parent_first
  no_parent_lem {out} {fill} {left} {c} able other = stops able (omega arith) (λ k ask es g. record {
    entries = es;
    same = ap (λ (o : Option Parent). parent_first k (declaration k levels) o c (state_with w out fill left es)) (parent_none m (d + 5) (ne_eqb (byte m (d + 5)) 0x35 (λ e. other (read ∙ e))));
    stage = g;
  })

  module _ (is : t ≡ 0x35) {name : ℕ} (by_name : name ≡ two m (d + 5 + 3)) {b : Bool} (told : (es : List Entry) (n r : ℕ) → b ≡ is_declared name (state_of w es n r)) where
    parent_told : (out : List ℕ) (fill left : ℕ) (k : Known) (c : Context) (es : List Entry) {x : Bool} → b ≡ x → parent_first k (declaration k levels) (parent_at m (d + 5)) c (state_with w out fill left es) ≡ after_look levels (d + 5) name k c (state_with w out fill left es) x
    unfolding parent_first
    parent_told out fill left k c es e =
        ap (λ (o : Option Parent). parent_first k (declaration k levels) o c (state_with w out fill left es)) (parent_given m (d + 5) (eq-eqb (byte m (d + 5)) 0x35 (sym read ∙ is)) ∙ ap (λ (n : ℕ). some (record { place = d + 5; name = n })) (sym by_name))
        ∙ ap (after_look levels (d + 5) name k c (state_with w out fill left es)) (sym (told es _ _) ∙ e)

    pub parent_declared : {out : List ℕ} {fill left : ℕ} {c : Context} → Able m w out fill → b ≡ true → Executes m w w out out fill left left c (Ok fill) (λ k. parent_first k (declaration k levels) (parent_at m (d + 5)))
    parent_declared {out} {fill} {left} {c} able y = stops able (omega arith) (λ k ask es g. record { entries = es; same = parent_told out fill left k c es y; stage = g })

    pub parent_no_step : {out : List ℕ} {fill left : ℕ} {c : Context} {a : Result ℕ Refusal} → b ≡ false → left ≡ 0 → a ≡ Err (refusal_at StepLimit (d + 5)) → Executes m w w out out fill left left c a (λ k. parent_first k (declaration k levels) (parent_at m (d + 5)))
    unfolding ◌>>=◌
    parent_no_step {out} {fill} {left} {c} y z e = subst (λ (a : Result ℕ Refusal). Executes m w w out out fill left left c a (λ k. parent_first k (declaration k levels) (parent_at m (d + 5)))) (sym e) (refuses (refusal_at StepLimit (d + 5)) (omega arith) (λ k ask es g.
        parent_told out fill left k c es y ∙ ap (λ (o : Outcome State). o >>= λ st'. declaration k levels (included (d + 5) name) c st') (no_step (d + 5) w out fill left es z)))

    pub parent_declares : {w' out out' : List ℕ} {fill left left' : ℕ} {c : Context} {a : Result ℕ Refusal} → b ≡ false → (left ≡ 0 → ⊥) → Executes m w w' out out' fill (left - 1) left' c a (λ k. declaration k levels (included (d + 5) name)) → Executes m w w' out out' fill left left' c a (λ k. parent_first k (declaration k levels) (parent_at m (d + 5)))
    unfolding ◌>>=◌
    parent_declares {out = out} {fill = fill} {left = left} {c = c} y some_left then = goes_on (omega arith) (λ k ask es g. record {
      entries = es;
      stage = g;
      same = parent_told out fill left k c es y ∙ ap (λ (o : Outcome State). o >>= λ st'. declaration k levels (included (d + 5) name) c st') (step_taken (d + 5) w out fill left es some_left);
    }) then

-- ---- The ways of `enter_class`

module _ {m t w w₁ : List ℕ} {d : ℕ} {here : Here} {started : Result ClassBody Refusal} (starts : StartsClass m t w w₁ d here started) (n : ℕ) where
  class_started : (out : List ℕ) (fill left : ℕ) {a : Result ClassBody Refusal} → started ≡ a → {x : ClassDefinition} {gs vs : List Given} → item_at m d ≡ definition (class_definition x) → Gives t gs → parameter_values x.parameters gs ≡ done vs → (k : Known) (es : List Entry) → StrikesAs k w
      → enter_class k (declaration k n) x (taken_defaults x.parameters gs) vs (context_of here) (state_with w out fill left es) ≡ (started_as m a (state_with w₁ out fill left es) >>= λ e. run_block k (declaration k n) e.body e.here e.state)
  class_started out fill left is {x} {gs} {vs} item gives values k es strikes =
      class_enters k (declaration k n) x (taken_defaults x.parameters gs) vs (context_of here) (state_with w out fill left es)
      ∙ ap (λ (o : Outcome Entered). o >>= λ e. run_block k (declaration k n) e.body e.here e.state)
      (sym (starts.says k es _ _ x gs vs strikes item gives values) ∙ ap (λ (a : Result ClassBody Refusal). started_as m a (state_with w₁ out fill left es)) is)

  pub enter_refused : {out : List ℕ} {fill left : ℕ} {why : Refusal} → started ≡ Err why → Enters m t w w₁ out out fill left left n d (context_of here) (Err why)
  unfolding AbleAfter started_as ◌>>=◌
  enter_refused {out} {fill} {left} is = record {
    able = tt;
    steps = omega arith;
    says = λ x gs vs item gives values k ask es g. refused_so (class_started out fill left is item gives values k es g.ready.known.struck);
  }

  pub enter_runs : {w₂ out out₂ : List ℕ} {fill left left₂ : ℕ} (body : ClassBody) {a : Result ℕ Refusal} → started ≡ Ok body → Executes m w₁ w₂ out out₂ fill left left₂ (context_of body.here) a (λ k. run_block k (declaration k n) (block_at m 31 body.block)) → Enters m t w w₂ out out₂ fill left left₂ n d (context_of here) a
  unfolding started_as ◌>>=◌
  enter_runs {out = out} {fill = fill} {left = left} body is ran = record {
    able = ran.able;
    steps = ran.steps;
    says = λ x gs vs item gives values k ask es g. ends_same (class_started out fill left is item gives values k es g.ready.known.struck) (ran.says k ask es (stage_kept starts.keeps g));
  }

-- its block
pub class_body_stands : {m t w w₁ : List ℕ} {d : ℕ} {here : Here} {body : ClassBody} {started : Result ClassBody Refusal} → StartsClass m t w w₁ d here started → started ≡ Ok body → StandsAs m 31 BlockKind body.block × NamesKnown m body.block
unfolding BodyStands
class_body_stands {m} starts is = subst (BodyStands m) is starts.stands
