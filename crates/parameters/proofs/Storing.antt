-- The ways of `store_parameter` and `store_parameters`. Assumes nothing.
use Prim.Native.Nat.{ℕ, ◌+◌, ◌≤◌, ◌<◌}
use mathlib.Core.Path.{◌≡◌, refl, sym, ap, ap₂, ◌∙◌, subst}
use mathlib.Core.List.{List}
use native.Mathlib.Omega.{arith}
use Rattle.values.specs.declared.Refusal.{Refusal}
use Rattle.values.specs.declared.Labelled.{Labelled}
use Rattle.wire.specs.Bytes.{two, end_of, fields_in}
use Rattle.wire.proofs.Fields.{no_fields, field_first}
use Rattle.rules.specs.Outcome.{Outcome, done, ◌>>=◌}
use Rattle.rules.specs.State.{Entry, State}
use Rattle.rules.specs.Run.{Given, parameter_values, store, store_all}
use Rattle.places.specs.At.{parameters_at}
use Rattle.records.specs.Record.{held_of}
use Rattle.cells.specs.Memory.{state_of}
use Rattle.memory.specs.declared.Context.{Context as Here}
use Rattle.memory.specs.Contexts.{context_of}
use Rattle.statements.specs.Answers.{ran_as, Keeps, Does}
use Rattle.statements.proofs.Assigning.{keeps_same}
use Rattle.attributes.specs.Table.{Gives}
use Rattle.records.proofs.Laws.{held_value, held_nothing}
use Rattle.attributes.proofs.Table.{each_here, each_after}
use Rattle.parameters.specs.Places.{parameter_value}
use Rattle.parameters.specs.Checked.{SmallNames, Stores, Assigns}
use Rattle.parameters.proofs.Laws.{FirstValue, first_value, no_values}
use Rattle.std.specs.Prelude.{Option, Some, None, Result, Ok, Err}

-- ---- The ways of `store_parameter`

module _ {m t w : List ℕ} {q : ℕ} {here : Here} {h : Option Labelled} (read : h ≡ held_of (parameter_value m t q)) where
  pub store_nothing : (answer : Result Unit Refusal) → h ≡ None → Stores m t w w q here answer
  store_nothing answer is = record { keeps = keeps_same w; does = λ x e. absurd (let n = held_nothing (parameter_value m t q) read is in let z : ◌≡◌ {A = ℕ} 0 1 = cc in omega arith) }

  pub store_value : {w' : List ℕ} {n : ℕ} {y : Labelled} (answer : Result Unit Refusal) → h ≡ Some y → n ≡ two m (q + 3) → Does w w' here (ran_as answer) (λ c. store c q n y) → Stores m t w w' q here answer
  store_value {w'} {n} {y} answer is name stored = record {
    keeps = stored.keeps;
    does = λ x e.
        let same : y ≡ x = let v = held_value (parameter_value m t q) read is in cc in
        record { says = λ es k r. stored.says es k r ∙ ap₂ (λ (a : ℕ) (b : Labelled). store (context_of here) q a b (state_of w es k r)) name same; keeps = stored.keeps };
  }

-- ---- The ways of `store_parameters`

pub keeps_then : {w₀ w₁ w₂ : List ℕ} → Keeps w₀ w₁ → Keeps w₁ w₂ → Keeps w₀ w₂
keeps_then a b = record { names = b.names ∙ a.names; rest = b.rest ∙ a.rest; fine = λ f. b.fine (a.fine f) }

-- the parameters from q on, stored from here, are what all of them are
pub record Left (m w₀ w : List ℕ) (q to : ℕ) (here : Here) (gs vs : List Given) : Type 0 where
  pub values : List Given
  pub are : parameter_values (parameters_at m (fields_in m q to)) gs ≡ done values
  pub same : (es : List Entry) (n r : ℕ) → store_all (context_of here) values (state_of w es n r) ≡ store_all (context_of here) vs (state_of w₀ es n r)

pub record Storing (m t w₀ w : List ℕ) (from to q : ℕ) (here : Here) : Type 0 where
  pub small : SmallNames m (fields_in m q to)
  pub keeps : Keeps w₀ w
  pub left : (gs vs : List Given) → Gives t gs → parameter_values (parameters_at m (fields_in m from to)) gs ≡ done vs → Left m w₀ w q to here gs vs

pub storing_begins : (m t w : List ℕ) (from to : ℕ) (here : Here) → SmallNames m (fields_in m from to) → Storing m t w w from to from here
storing_begins m t w from to here s = record { small = s; keeps = keeps_same w; left = λ gs vs g e. record { values = vs; are = e; same = λ es n r. refl } }

-- the same at the place q, where that is p
pub storing_here : {m t w₀ w : List ℕ} {from to p q : ℕ} {here : Here} → p ≡ q → Storing m t w₀ w from to p here → Storing m t w₀ w from to q here
storing_here {m} {t} {w₀} {w} {from} {to} {here = here} e i = subst (λ (j : ℕ). Storing m t w₀ w from to j here) e i

module _ {m t w₀ w : List ℕ} {from to q : ℕ} {here : Here} (i : Storing m t w₀ w from to q here) where
  module _ (more : q < to) where
    pub here_small : two m (q + 3) < 1024
    here_small = each_here m more i.small

    first_left : {gs vs : List Given} → Gives t gs → (l : Left m w₀ w q to here gs vs) → FirstValue m t q (fields_in m (end_of m q) to) gs l.values
    first_left {gs} g l = first_value m q (fields_in m (end_of m q) to) g here_small (ap (λ (qs : List ℕ). parameter_values (parameters_at m qs) gs) (sym (field_first m q to more)) ∙ l.are)

    -- the first of them stored with the outcome o
    store_first : {gs vs : List Given} {o : Outcome State} (l : Left m w₀ w q to here gs vs) (f : FirstValue m t q (fields_in m (end_of m q) to) gs l.values) (es : List Entry) (n r : ℕ) → o ≡ store (context_of here) q (two m (q + 3)) f.content (state_of w es n r) → (o >>= λ st. store_all (context_of here) f.others st) ≡ store_all (context_of here) vs (state_of w₀ es n r)
    unfolding store_all
    store_first l f es n r e = ap (λ (o : Outcome State). o >>= λ st. store_all (context_of here) f.others st) e ∙ ap (λ (us : List Given). store_all (context_of here) us (state_of w es n r)) (sym f.all) ∙ l.same es n r

    pub store_refused : {w' : List ℕ} {a r : Result Unit Refusal} {why : Refusal} → Stores m t w w' q here a → a ≡ Err why → r ≡ Err why → Assigns m t w₀ w' from to here r
    unfolding ran_as ◌>>=◌
    store_refused {w'} stored is handed_on = rw handed_on (record {
      keeps = keeps_then i.keeps stored.keeps;
      does = λ gs vs g e.
          let l = i.left gs vs g e in
          let f = first_left g l in
          let d = stored.does f.content f.value in
          record {
            says = λ es n r. store_first l f es n r (ap (λ (a : Result Unit Refusal). ran_as a (state_of w' es n r)) (sym is) ∙ d.says es n r);
            keeps = keeps_then i.keeps d.keeps;
          };
    })

    pub store_further : {w' : List ℕ} {a : Result Unit Refusal} {s : ℕ} → Stores m t w w' q here a → a ≡ Ok tt → s ≡ end_of m q → Storing m t w₀ w' from to s here
    unfolding ran_as ◌>>=◌
    store_further {w'} stored is next = rw next (record {
      small = each_after m more i.small;
      keeps = keeps_then i.keeps stored.keeps;
      left = λ gs vs g e.
          let l = i.left gs vs g e in
          let f = first_left g l in
          let d = stored.does f.content f.value in
          record {
            values = f.others;
            are = f.rest;
            same = λ es n r. store_first l f es n r (ap (λ (a : Result Unit Refusal). ran_as a (state_of w' es n r)) (sym is) ∙ d.says es n r);
          };
    })

  pub store_ends : to ≤ q → Assigns m t w₀ w from to here (Ok tt)
  unfolding ran_as store_all
  store_ends over = record {
    keeps = i.keeps;
    does = λ gs vs g e.
        let l = i.left gs vs g e in
        let empty = no_values m gs (ap (λ (qs : List ℕ). parameter_values (parameters_at m qs) gs) (sym (no_fields m q to over)) ∙ l.are) in
        record { says = λ es n r. ap (λ (us : List Given). store_all (context_of here) us (state_of w es n r)) (sym empty) ∙ l.same es n r; keeps = i.keeps };
  }
