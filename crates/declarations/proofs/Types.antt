-- One law for each way through `store_title`, `fill_scope` and `start_type`.
use Prim.Native.Nat.{ℕ, ◌+◌, ◌<◌}
use mathlib.Core.Path.{◌≡◌, refl, sym, ap, ◌∙◌}
use mathlib.Core.List.{List}
use mathlib.Core.Option.{Option, none, some}
use Rattle.values.specs.declared.Labelled.{Labelled}
use Rattle.values.specs.declared.Refusal.{Refusal}
use Rattle.values.specs.Refusals.{refusal_at}
use Rattle.values.specs.declared.Reason.TheVariants.{Unknown}
use Rattle.wire.specs.Bytes.{two, fields_in}
use Rattle.rules.specs.Outcome.{Outcome, done, ◌>>=◌, or_refuse}
use Rattle.rules.specs.Tree.{type_definition}
use Rattle.rules.specs.State.{Entry, State, Known}
use Rattle.rules.specs.Evaluate.{find_type, find_class, come_to_all}
use Rattle.rules.specs.Run.{Given, store, store_title, store_all, taken_defaults}
use Rattle.places.specs.At.{parameters_at, block_at}
use Rattle.cells.specs.Memory.{state_of}
use Rattle.memory.specs.declared.Context.{Context as Here}
use Rattle.memory.specs.Contexts.{context_of}
use Rattle.memory.specs.Names.{title_of, title_found}
use Rattle.memory.proofs.Titles.{title_small}
use Rattle.evaluator.specs.Known.{DefinedAt, KnownIn}
use Rattle.statements.specs.Answers.{ran_as, Does, Keeps}
use Rattle.statements.proofs.Assigning.{keeps_same}
use Rattle.attributes.specs.Names.{Alike}
use Rattle.attributes.specs.Table.{Gives}
use Rattle.parameters.specs.Checked.{AssignsAll, check_given}
use Rattle.parameters.proofs.Laws.{checked_values}
use Rattle.parameters.proofs.Storing.{keeps_then}
use Rattle.declarations.specs.Standing.{definition_with}
use Rattle.declarations.specs.Types.{Entered, start_type, Fills, started_as, BodyStands, StartsType}
use Rattle.rules.proofs.Outcome.{bind_bind, bind_same}
use Rattle.declarations.proofs.Standing.{FoundAt, type_from, PartsAt}
use Rattle.declarations.proofs.Checks.{type_missing, type_there, ChecksGiven, Values, checked_done, checked_refused}
use Rattle.memory.specs.Words.{StrikesAs}
use Rattle.memory.proofs.Words.{words_kept, struck_same}
use Rattle.std.specs.Prelude.{Option as CodeOption, Some, None, Result, Ok, Err}

-- ---- The ways of `store_title`

module _ (w : List ℕ) {t : CodeOption ℕ} (told : title_found t ≡ title_of w) where
  title_is : {n : ℕ} → t ≡ Some n → title_of w ≡ some n
  unfolding title_found
  title_is is = sym told ∙ ap title_found is

  pub number_small : {n : ℕ} → t ≡ Some n → n < 1024
  number_small {n} is = title_small w n (title_is is)

  module _ {here : Here} (p : ℕ) (x : Labelled) where
    pub title_nowhere : t ≡ None → Does w w here (ran_as (Ok tt)) (λ c. store_title (title_of w) c p x)
    unfolding title_found store_title ran_as
    title_nowhere is = record { says = λ es n r. ap (λ (o : Option ℕ). store_title o (context_of here) p x (state_of w es n r)) (sym (ap title_found is) ∙ told); keeps = keeps_same w }

    pub title_stored : {w' : List ℕ} {n : ℕ} (a : Result Unit Refusal) → t ≡ Some n → Does w w' here (ran_as a) (λ c. store c p n x) → Does w w' here (ran_as a) (λ c. store_title (title_of w) c p x)
    unfolding store_title
    title_stored a is d = record { says = λ es n r. d.says es n r ∙ ap (λ (o : Option ℕ). store_title o (context_of here) p x (state_of w es n r)) (sym (title_is is)); keeps = d.keeps }

-- ---- The ways of `fill_scope`

-- what is struck out stays with the bytes of others
pub strikes_kept : {w w' : List ℕ} (k : Known) → Keeps w w' → StrikesAs k w → StrikesAs k w'
strikes_kept {w} {w'} k kept strikes v = strikes v ∙ sym (struck_same w w' (λ i l. words_kept w w' kept.rest i) v)

module _ {m t w w₁ : List ℕ} {p from to : ℕ} {x : Labelled} {here : Here} {a : Result Unit Refusal} (d : Does w w₁ here (ran_as a) (λ c. store_title (title_of w) c p x)) where
  pub fill_stopped : (why : Refusal) → a ≡ Err why → Fills m t w w₁ p from to x here (Err why)
  unfolding ran_as ◌>>=◌
  fill_stopped why is = record {
    keeps = d.keeps;
    does = λ k gs vs strikes gives values. record {
      says = λ es n r. ap (λ (o : Outcome State). o >>= λ st₁. come_to_all k (taken_defaults (parameters_at m (fields_in m from to)) gs) >>= λ _. store_all (context_of here) vs st₁) (sym (ap (λ (b : Result Unit Refusal). ran_as b (state_of w₁ es n r)) is) ∙ d.says es n r);
      keeps = d.keeps;
    };
  }

  pub fill_stored : {w₂ : List ℕ} (b : Result Unit Refusal) → a ≡ Ok tt → AssignsAll m t w₁ w₂ from to here b → Fills m t w w₂ p from to x here b
  unfolding ran_as ◌>>=◌
  fill_stored b is i = record {
    keeps = keeps_then d.keeps i.keeps;
    does = λ k gs vs strikes gives values. record {
      says = λ es n r.
          (i.does k gs vs (strikes_kept k d.keeps strikes) gives values).says es n r
          ∙ ap (λ (o : Outcome State). o >>= λ st₁. come_to_all k (taken_defaults (parameters_at m (fields_in m from to)) gs) >>= λ _. store_all (context_of here) vs st₁) (sym (ap (λ (b : Result Unit Refusal). ran_as b (state_of w₁ es n r)) is) ∙ d.says es n r);
      keeps = keeps_then d.keeps i.keeps;
    };
  }

-- ---- The ways of `start_type`

module _ (m t w : List ℕ) (p first end : ℕ) (x : Labelled) (here : Here) {name : ℕ} (named : name ≡ two m (p + 3)) where
  pub type_unknown : {f : CodeOption ℕ} {why : Refusal} → f ≡ definition_with m w name 0x32 → f ≡ None → why ≡ refusal_at Unknown p → StartsType m t w w p first end x here (Err why)
  unfolding started_as start_type or_refuse ◌>>=◌ BodyStands
  type_unknown {f} told is at_place = record {
    stands = tt;
    keeps = keeps_same w;
    says = λ k es s r gs known title gives alike.
        let none_there : find_type (two m (p + 3)) k.definitions ≡ none = type_missing m w (two m (p + 3)) (rw named at told) is (known.definitions (two m (p + 3))) in
        rw (at_place, none_there) refl;
  }

  module _ {d to : ℕ} {c : Result Unit Refusal} (found : FoundAt m w name 0x32 d) (parts : PartsAt m d (d + 5) to (type_definition (type_from m d to))) (checks : ChecksGiven m t first end (d + 5) to c) where
    entered : Known → State → (gs vs : List Given) → Outcome Entered
    entered k st gs vs = store_title k.title (context_of here) p x st >>= λ st₁. come_to_all k (taken_defaults (parameters_at m (fields_in m (d + 5) to)) gs) >>= λ _. store_all (context_of here) vs st₁ >>= λ st₂. done (record { body = block_at m 31 to; state = st₂ })

    -- the definition is the one that the code found
    start_known : (k : Known) (st : State) (gs : List Given) → KnownIn m w k → start_type k p (two m (p + 3)) x gs (context_of here) st ≡ (check_given (parameters_at m (fields_in m (d + 5) to)) gs >>= entered k st gs)
    unfolding start_type or_refuse ◌>>=◌ entered
    start_known k st gs known =
        let at : DefinedAt m d (find_type name k.definitions) (find_class name k.definitions) = rw found.place (known.definitions name) in
        let there : find_type name k.definitions ≡ some (type_from m d to) = type_there found.positive found.tag parts.tree at in
        rw (sym named, there) refl

    pub type_unchecked : (why : Refusal) → c ≡ Err why → StartsType m t w w p first end x here (Err why)
    unfolding started_as ◌>>=◌ BodyStands
    type_unchecked why is = record {
      stands = tt;
      keeps = keeps_same w;
      says = λ k es s r gs known title gives alike.
          sym (start_known k (state_of w es s r) gs known ∙ ap (λ (o : Outcome (List Given)). o >>= entered k (state_of w es s r) gs) (checked_refused (checks gs gives alike parts.laid.parameters parts.laid.small) is));
    }

    module _ {w' : List ℕ} {a : Result Unit Refusal} (passed : c ≡ Ok tt) (fills : Fills m t w w' p (d + 5) to x here a) where
      body : State → Outcome Entered
      body st = done (record { body = block_at m 31 to; state = st })

      started : (k : Known) (es : List Entry) (s r : ℕ) (gs : List Given) → KnownIn m w k → title_of w ≡ k.title → Gives t gs → Alike m gs (fields_in m first end)
          → (ran_as a (state_of w' es s r) >>= body) ≡ start_type k p (two m (p + 3)) x gs (context_of here) (state_of w es s r)
      unfolding ◌>>=◌ entered body
      started k es s r gs known title gives alike =
          let v : Values (parameters_at m (fields_in m (d + 5) to)) gs = checked_done (checks gs gives alike parts.laid.parameters parts.laid.small) passed in
          let vs : List Given = v.values in
          let st : State = state_of w es s r in
          let came : Outcome (Unit {0}) = come_to_all k (taken_defaults (parameters_at m (fields_in m (d + 5) to)) gs) in
          let after : State → Outcome State = λ st₁. came >>= λ _. store_all (context_of here) vs st₁ in
          let filled = (fills.does k gs vs known.struck gives (checked_values (parameters_at m (fields_in m (d + 5) to)) gs v.are)).says es s r in
          ap (λ (o : Outcome State). o >>= body) (filled ∙ ap (λ (o : Option ℕ). store_title o (context_of here) p x st >>= after) title)
          ∙ bind_bind (store_title k.title (context_of here) p x st) after body
          ∙ bind_same (store_title k.title (context_of here) p x st) (λ st₁. after st₁ >>= body) (λ st₁. came >>= λ _. store_all (context_of here) vs st₁ >>= body) (λ st₁. bind_bind came (λ _. store_all (context_of here) vs st₁) body)
          ∙ sym (start_known k st gs known ∙ ap (λ (o : Outcome (List Given)). o >>= entered k st gs) v.are)

      pub type_unfilled : (why : Refusal) → a ≡ Err why → StartsType m t w w' p first end x here (Err why)
      unfolding started_as ran_as ◌>>=◌ BodyStands body
      type_unfilled why is = record {
        stands = tt;
        keeps = fills.keeps;
        says = λ k es s r gs known title gives alike. sym (ap (λ (b : Result Unit Refusal). ran_as b (state_of w' es s r) >>= body) is) ∙ started k es s r gs known title gives alike;
      }

      pub type_filled : a ≡ Ok tt → StartsType m t w w' p first end x here (Ok to)
      unfolding started_as ran_as ◌>>=◌ BodyStands body
      type_filled is = record {
        stands = (parts.laid.body.block, parts.laid.known);
        keeps = fills.keeps;
        says = λ k es s r gs known title gives alike. sym (ap (λ (b : Result Unit Refusal). ran_as b (state_of w' es s r) >>= body) is) ∙ started k es s r gs known title gives alike;
      }
