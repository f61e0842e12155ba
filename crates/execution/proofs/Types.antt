-- One law for each way through `gather_type`, `declare_type` and `run_body`, its premises as the callees ensure them.
use Prim.Native.Nat.{ℕ, suc, ◌+◌, ◌-◌, ◌<◌}
use mathlib.Core.Path.{◌≡◌, refl, sym, ap, ◌∙◌, subst}
use mathlib.Core.List.{List}
use native.Mathlib.Omega.{arith}
use lib.ListN.{length}
use Rattle.labels.specs.declared.Labels.{Labels}
use Rattle.values.specs.declared.Labelled.{Labelled}
use Rattle.values.specs.declared.Refusal.{Refusal}
use Rattle.values.specs.Refusals.{refusal_at}
use Rattle.values.specs.declared.Reason.TheVariants.{LevelLimit}
use Rattle.wire.specs.Bytes.{byte, two, end_of, fields_in}
use Rattle.rules.specs.Format.{forms, form_in, form_of}
use Rattle.rules.specs.Outcome.{Outcome, refused, done, ◌>>=◌, at}
use Rattle.rules.specs.Arithmetic.{string_in}
use Rattle.rules.specs.Tree.{Statement, Block}
use Rattle.rules.specs.State.{Entry, State, Context, Known, free}
use Rattle.rules.specs.Evaluate.{evaluate}
use Rattle.rules.specs.Run.{Given, Declaration, Declare, of_type, evaluate_all, run, run_block, in_body, declaration, declaration_place}
use Rattle.rules.specs.declared.Kind.TheVariants.{Statement as StatementKind, Block as BlockKind}
use Rattle.places.specs.At.{expression_at, attributes_at, statement_at, block_at, StandsAs}
use Rattle.places.proofs.Open.{level}
use Rattle.places.proofs.Expressions.{expression_place}
use Rattle.places.proofs.Statements.{defined_opens}
use Rattle.cells.specs.Memory.{Becomes}
use Rattle.cells.proofs.Scopes.{body_scope_lem}
use Rattle.memory.specs.declared.Scope.{Scope}
use Rattle.memory.specs.declared.Context.{Context as Here}
use Rattle.memory.specs.Contexts.{context_in, context_of}
use Rattle.statements.specs.Answers.{Keeps}
use Rattle.attributes.specs.Names.{Alike}
use Rattle.attributes.specs.Table.{Gives}
use Rattle.attributes.specs.Evaluated.{Titled, titled_all, titled_at, TitledIn, not_titled, titled}
use Rattle.provenance.specs.Notes.{Question}
use Rattle.declarations.specs.Standing.{NamesKnown, Set}
use Rattle.declarations.specs.Types.{Entered, start_type, started_as, BodyStands, StartsType}
use Rattle.declarations.proofs.Laws.{type_runs}
use Rattle.execution.specs.Executed.{Stage, state_with, Ends, Executes, body_run}
use Rattle.execution.proofs.Ends.{ended_done, ended_refused, stage_kept, able_kept, refuses, stops, goes_on, able_after}
use Rattle.execution.proofs.Names.{name_small}
use Rattle.std.specs.Prelude.{Result, Ok, Err}

-- ---- Names

-- the name of a 27 is below 1,024
pub defined_name_lem : {m w : List ℕ} {d p : ℕ} → Set m w → StandsAs m d StatementKind p → byte m p ≡ 0x27 → NamesKnown m p → two m (p + 3) < 1024
unfolding form_of form_in forms
defined_name_lem set s tag known = name_small s.stands tag refl set.strings known

-- ---- The ways of `gather_type`

module _ {m : List ℕ} {d p : ℕ} (s : StandsAs m d StatementKind p) (tag : byte m p ≡ 0x27) where
  defined_runs : (k : Known) (declare : Declare) (c : Context) (st : State) → run k declare (statement_at m d p) c st ≡ (titled_at m (d - 1) p k c st >>= λ x. declare (of_type p (two m (p + 3)) x.title x.given) c st)
  unfolding run titled_at titled_all ◌>>=◌
  defined_runs k declare c st =
      ap (λ (t : Statement). run k declare t c st) (defined_opens s.stands (level s.stands) tag).tree
      ∙ ap (λ (l : ℕ). evaluate k c st (expression_at m (d - 1) (p + 5)) >>= λ x. at l (string_in x.value) >>= λ _. rest >>= λ gs. declare (of_type p (two m (p + 3)) x gs) c st) (expression_place m (d - 1) (p + 5))
      ∙ go (evaluate k c st (expression_at m (d - 1) (p + 5)))
    where
      rest : Outcome (List Given)
      rest = evaluate_all k c st (attributes_at m (d - 1) (fields_in m (end_of m (p + 5)) (end_of m p)))

      last : (x : Labelled) (a : Outcome ℕ) (o : Outcome (List Given)) → (a >>= λ _. o >>= λ gs. declare (of_type p (two m (p + 3)) x gs) c st) ≡ ((a >>= λ _. o >>= λ gs. done (record { title = x; given = gs })) >>= λ (y : Titled). declare (of_type p (two m (p + 3)) y.title y.given) c st)
      last x (refused r q) o = refl
      last x (done u) (refused r q) = refl
      last x (done u) (done gs) = refl

      go : (o : Outcome Labelled) → (o >>= λ x. at (p + 5) (string_in x.value) >>= λ _. rest >>= λ gs. declare (of_type p (two m (p + 3)) x gs) c st) ≡ ((o >>= λ x. at (p + 5) (string_in x.value) >>= λ _. rest >>= λ gs. done (record { title = x; given = gs })) >>= λ (y : Titled). declare (of_type p (two m (p + 3)) y.title y.given) c st)
      go (refused r q) = refl
      go (done x) = last x (at (p + 5) (string_in x.value)) rest

  module _ (levels : ℕ) {w out t : List ℕ} {fill left : ℕ} {scope : Scope} {path : Labels} {e : Result Labelled Refusal} (told : TitledIn m w out fill scope (d - 1) p t e) where
    pub defined_refused : {why : Refusal} → e ≡ Err why → Executes m w w out out fill left left (context_in scope path) (Err why) (λ k. run k (declaration k levels) (statement_at m d p))
    unfolding ◌>>=◌
    defined_refused {why} is = go (subst (TitledIn m w out fill scope (d - 1) p t) is told)
      where
        go : TitledIn m w out fill scope (d - 1) p t (Err why) → Executes m w w out out fill left left (context_in scope path) (Err why) (λ k. run k (declaration k levels) (statement_at m d p))
        go (not_titled tells) = refuses why (omega arith) (λ k ask es g. defined_runs k (declaration k levels) (context_in scope path) _ ∙ ap (λ (o : Outcome Titled). o >>= λ x. declaration k levels (of_type p (two m (p + 3)) x.title x.given) (context_in scope path) (state_with w out fill left es)) (sym (tells.says k path es _ _ g.ready)))

    pub defined_declares : {x : Labelled} {left' : ℕ} {w' out' : List ℕ} {a : Result ℕ Refusal} → e ≡ Ok x
        → ((gs : List Given) → Gives t gs → Alike m gs (fields_in m (end_of m (p + 5)) (end_of m p)) → Executes m w w' out out' fill left left' (context_in scope path) a (λ k. declaration k levels (of_type p (two m (p + 3)) x gs)))
        → Executes m w w' out out' fill left left' (context_in scope path) a (λ k. run k (declaration k levels) (statement_at m d p))
    unfolding ◌>>=◌
    defined_declares {x} {left'} {w'} {out'} {a} is then = go (subst (TitledIn m w out fill scope (d - 1) p t) is told)
      where
        go : TitledIn m w out fill scope (d - 1) p t (Ok x) → Executes m w w' out out' fill left left' (context_in scope path) a (λ k. run k (declaration k levels) (statement_at m d p))
        go (titled gs gives alikes tells) =
            goes_on (omega arith) (λ k ask es g. record {
              entries = es;
              stage = g;
              same = defined_runs k (declaration k levels) (context_in scope path) _ ∙ ap (λ (o : Outcome Titled). o >>= λ x. declaration k levels (of_type p (two m (p + 3)) x.title x.given) (context_in scope path) (state_with w out fill left es)) (sym (tells.says k path es _ _ g.ready));
            }) (then gs gives alikes)

-- ---- The ways of `declare_type`

-- no level is left for a declaration
pub too_deep : {m w out : List ℕ} {fill left levels : ℕ} {c : Context} {a : Result ℕ Refusal} (x : Declaration) → levels ≡ 0 → a ≡ Err (refusal_at LevelLimit (declaration_place x)) → Executes m w w out out fill left left c a (λ k. declaration k levels x)
unfolding declaration
too_deep {m} {w} {out} {fill} {left} {levels} {c} x z e = subst (λ (a : Result ℕ Refusal). Executes m w w out out fill left left c a (λ k. declaration k levels x)) (sym e) (refuses (refusal_at LevelLimit (declaration_place x)) (omega arith) (λ k ask es g. rw z refl))

module _ (n : ℕ) {m t w w₁ : List ℕ} {p first end : ℕ} {x : Labelled} {inside : Here} (c : Context) {started : Result ℕ Refusal} (at_first : first ≡ end_of m (p + 5)) (at_end_lem : end ≡ end_of m p) (placed : context_of inside ≡ in_body n c) (starts : StartsType m t w w₁ p first end x inside started) where
  abbrev Attributes : List Given → Type 0
  Attributes gs = Alike m gs (fields_in m (end_of m (p + 5)) (end_of m p))

  -- what the start comes to
  type_started : {levels : ℕ} {a : Result ℕ Refusal} → levels ≡ suc n → started ≡ a → {out : List ℕ} {fill : ℕ} (left : ℕ) (gs : List Given) → Gives t gs → Attributes gs → (k : Known) (ask : Question) (es : List Entry) → Stage m w out fill k ask es
      → declaration k levels (of_type p (two m (p + 3)) x gs) c (state_with w out fill left es) ≡ (started_as m a (state_with w₁ out fill left es) >>= λ e. body_run n e.body k (context_of inside) e.state)
  unfolding body_run in_body
  type_started up is {out} {fill} left gs gives alikes k ask es g =
      let st : State = state_with w out fill left es in
      ap (λ (l : ℕ). declaration k l (of_type p (two m (p + 3)) x gs) c st) up
      ∙ type_runs k n c st p (two m (p + 3)) x gs
      ∙ ap (λ (h : Context). start_type k p (two m (p + 3)) x gs h st >>= λ e. run_block k (declaration k n) e.body h e.state >>= λ st'. done (free h.scope st')) (sym placed)
      ∙ ap (λ (o : Outcome Entered). o >>= λ e. body_run n e.body k (context_of inside) e.state)
      (sym (starts.says k es _ _ gs g.ready.known g.title gives (rw (at_first, at_end_lem) alikes)) ∙ ap (λ (a : Result ℕ Refusal). started_as m a (state_with w₁ out fill left es)) is)

  pub type_refused : {levels : ℕ} {out : List ℕ} {fill left : ℕ} {why : Refusal} → levels ≡ suc n → started ≡ Err why → (gs : List Given) → Gives t gs → Attributes gs → Executes m w w₁ out out fill left left c (Err why) (λ k. declaration k levels (of_type p (two m (p + 3)) x gs))
  unfolding started_as ◌>>=◌
  type_refused {why = why} up is gs gives alikes = refuses why (omega arith) (λ k ask es g. type_started up is _ gs gives alikes k ask es g)

  pub type_runs_body : {levels : ℕ} {w₂ out out₂ : List ℕ} {fill left left₂ b : ℕ} {a : Result ℕ Refusal} → levels ≡ suc n → started ≡ Ok b → Executes m w₁ w₂ out out₂ fill left left₂ (context_of inside) a (body_run n (block_at m 31 b))
      → (gs : List Given) → Gives t gs → Attributes gs → Executes m w w₂ out out₂ fill left left₂ c a (λ k. declaration k levels (of_type p (two m (p + 3)) x gs))
  unfolding started_as ◌>>=◌
  type_runs_body up is body gs gives alikes =
      goes_on (omega arith) (λ k ask es g. record {
        entries = es;
        stage = stage_kept starts.keeps g;
        same = type_started up is _ gs gives alikes k ask es g;
      }) body

-- its block
pub type_body_stands : {m t w w₁ : List ℕ} {p first end : ℕ} {x : Labelled} {inside : Here} {started : Result ℕ Refusal} {b : ℕ} → StartsType m t w w₁ p first end x inside started → started ≡ Ok b → StandsAs m 31 BlockKind b × NamesKnown m b
unfolding BodyStands
type_body_stands {m} starts is = subst (BodyStands m) is starts.stands

-- ---- The ways of `run_body`

-- the context of a body
pub in_body_lem : (n : ℕ) (here : Here) → context_of (record { scope = record { number = 1026 + n; base_is_node = here.scope.base_is_node }; path = here.path }) ≡ in_body n (context_of here)
unfolding in_body
in_body_lem n here = λ i. record { scope = body_scope_lem n i; base = (context_of here).base; path = here.path }

module _ (n : ℕ) (b : Block) {m w w₁ out out₁ : List ℕ} {fill left left₁ : ℕ} {c : Context} {a : Result ℕ Refusal} (ran : Executes m w w₁ out out₁ fill left left₁ c a (λ k. run_block k (declaration k n) b)) where
  pub body_refused : {why : Refusal} → a ≡ Err why → Executes m w w₁ out out₁ fill left left₁ c (Err why) (body_run n b)
  unfolding body_run ◌>>=◌
  body_refused {why} is = refuses why ran.steps (λ k ask es g. ap (λ (o : Outcome State). o >>= λ st'. done (free c.scope st')) (ended_refused (subst (Ends m w₁ out₁ left₁ k _ _) is (ran.says k ask es g))))

  pub body_done : {w₂ : List ℕ} {f : ℕ} → a ≡ Ok f → Becomes w₁ w₂ (free c.scope) (λ ns. ns) → length w₂ ≡ length w₁ → Executes m w w₂ out out₁ fill left left₁ c (Ok f) (body_run n b)
  unfolding body_run ◌>>=◌
  body_done {w₂} {f} is freed size = stops (able_kept kept size (able_after is ran.able)) ran.steps (λ k ask es g.
      let o = ended_done (subst (Ends m w₁ out₁ left₁ k _ (run_block k (declaration k n) b c (state_with w out fill left es))) is (ran.says k ask es g)) in
      record {
        entries = o.entries;
        same = ap (λ (x : Outcome State). x >>= λ st'. done (free c.scope st')) o.same ∙ ap done (sym (freed.state o.entries _ _));
        stage = stage_kept kept o.stage;
      })
    where
      kept : Keeps w₁ w₂
      kept = record { names = freed.names; rest = freed.rest; fine = freed.fine }
