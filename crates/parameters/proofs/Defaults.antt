-- The ways of `takes_struck`, `struck_default` and `assign_parameters`. Assumes nothing.
use Prim.Native.Nat.{ℕ, ◌+◌, ◌≤◌, ◌<◌}
use mathlib.Core.Path.{◌≡◌, refl, sym, ap, ap₂, ◌∙◌}
use mathlib.Core.Bool.{Bool, true, false, false≢true}
use mathlib.Core.List.{List, ◌++◌}
use mathlib.Core.Option.{Option, none, some}
use native.Mathlib.Omega.{arith}
use borrow.Author.Tests.{lt-ltb, le-ltb}
use Rattle.values.specs.declared.Labelled.{Labelled}
use Rattle.values.specs.declared.Refusal.{Refusal}
use Rattle.values.specs.declared.Reason.TheVariants.{Malformed}
use Rattle.values.specs.Refusals.{refusal_at}
use Rattle.wire.specs.Bytes.{pick, byte, two, end_of, fields_in}
use Rattle.wire.proofs.Fields.{no_fields, field_first}
use Rattle.rules.specs.Outcome.{Outcome, ◌>>=◌}
use Rattle.rules.specs.Tree.{Constant}
use Rattle.rules.specs.State.{Known}
use Rattle.rules.specs.Evaluate.{first_with, come_to_all}
use Rattle.rules.specs.Run.{Given, is_given, taken_default, taken_defaults, store_all}
use Rattle.rules.specs.Ranges.{none_left, also}
use Rattle.places.specs.At.{constant_at, default_at, parameter_at, parameters_at}
use Rattle.std.specs.Option.{option_or}
use Rattle.patterns.specs.Struck.{first_struck}
use Rattle.patterns.proofs.Struck.{struck_append, came_to, come_to_all_lem}
use Rattle.cells.specs.Memory.{state_of}
use Rattle.memory.specs.declared.Context.{Context as Here}
use Rattle.memory.specs.Contexts.{context_of}
use Rattle.memory.specs.Words.{struck_at, struck_in, StrikesAs}
use Rattle.records.specs.Record.{held_of}
use Rattle.records.proofs.Laws.{held_nothing}
use Rattle.statements.specs.Answers.{ran_as}
use Rattle.statements.proofs.Assigning.{keeps_same}
use Rattle.attributes.specs.Table.{given_at, content_of, Gives}
use Rattle.parameters.specs.Places.{of_default, defaults_in}
use Rattle.parameters.specs.Checked.{SmallNames, Assigns, AssignsAll}
use Rattle.std.specs.Prelude.{Option as CodeOption, Some, None, Result, Err, is_some}

-- ---- The ways of `takes_struck`

module _ (m t w : List ℕ) (q : ℕ) {name : ℕ} {h : CodeOption Labelled} (named : name ≡ two m (q + 3)) (read : h ≡ held_of (given_at t name)) where
  abbrev Taken : List Constant
  Taken = of_default (given_at t (two m (q + 3))) (default_at m q)

  pub takes_given : is_some h ≡ true → None ≡ first_struck w Taken
  unfolding of_default first_struck held_of
  takes_given there = rw (sym named) (go (given_at t name) (ap (λ (a : CodeOption Labelled). is_some a) (sym read) ∙ there))
    where
      go : (o : Option Labelled) → is_some (held_of o) ≡ true → None ≡ first_struck w (of_default o (default_at m q))
      go (some x) e = refl
      go none e = absurd (false≢true e)

  module _ (nothing : h ≡ None) {e : ℕ} (ends : e ≡ end_of m q) where
    pub takes_none : e ≤ q + 5 → None ≡ first_struck w Taken
    unfolding of_default default_at first_struck
    takes_none l = rw (sym named, held_nothing (given_at t name) read nothing, sym ends, le-ltb (q + 5) e l) refl

    pub takes_default : {label : ℕ} {b : Bool} → q + 5 < e → label ≡ byte m (q + 8) → b ≡ struck_at w label (q + 5) → pick b (Some (q + 5)) None ≡ first_struck w Taken
    unfolding of_default default_at first_struck struck_in constant_at
    takes_default {label} {b} l labelled struck =
        rw (sym named, held_nothing (given_at t name) read nothing, sym ends, lt-ltb (q + 5) e l)
        (ap (λ (c : Bool). pick c (Some (q + 5)) None) (struck ∙ ap (λ (n : ℕ). struck_at w n (q + 5)) (labelled ∙ ap (byte m) (three_more q))))
      where
        three_more : (n : ℕ) → n + 8 ≡ n + 5 + 3
        three_more n = omega arith

-- ---- The ways of `struck_default`

abbrev pub StruckFrom : (m t w : List ℕ) (to q : ℕ) → CodeOption ℕ
StruckFrom m t w to q = first_struck w (defaults_in m t (fields_in m q to))

module _ (m t w : List ℕ) (to q : ℕ) where
  pub defaults_end : to ≤ q → None ≡ StruckFrom m t w to q
  unfolding defaults_in first_struck
  defaults_end l = rw (no_fields m q to l) refl

  module _ (l : q < to) (b : Bool) (takes : pick b (Some (q + 5)) None ≡ first_struck w (of_default (given_at t (two m (q + 3))) (default_at m q))) where
    first_struck_lem : StruckFrom m t w to q ≡ option_or (pick b (Some (q + 5)) None) (StruckFrom m t w to (end_of m q))
    unfolding defaults_in
    first_struck_lem =
        ap (λ (qs : List ℕ). first_struck w (defaults_in m t qs)) (field_first m q to l)
        ∙ struck_append w (of_default (given_at t (two m (q + 3))) (default_at m q)) (defaults_in m t (fields_in m (end_of m q) to))
        ∙ ap (λ (c : CodeOption ℕ). option_or c (StruckFrom m t w to (end_of m q))) (sym takes)

    pub defaults_here : b ≡ true → Some (q + 5) ≡ StruckFrom m t w to q
    defaults_here is = sym (first_struck_lem ∙ ap (λ (c : Bool). option_or (pick c (Some (q + 5)) None) (StruckFrom m t w to (end_of m q))) is)

    pub defaults_next : {r : ℕ} → b ≡ false → r ≡ end_of m q → StruckFrom m t w to r ≡ StruckFrom m t w to q
    defaults_next is n = ap (StruckFrom m t w to) n ∙ sym (first_struck_lem ∙ ap (λ (c : Bool). option_or (pick c (Some (q + 5)) None) (StruckFrom m t w to (end_of m q))) is)

-- ---- The ways of `assign_parameters`

-- the table's defaults are those that are taken
of_given : (o : Option Given) (d : Option Constant) → of_default (content_of o) d ≡ taken_default o d
unfolding of_default content_of taken_default
of_given (some g) d = refl
of_given none none = refl
of_given none (some v) = refl

taken_places : {t : List ℕ} {gs : List Given} (m : List ℕ) {qs : List ℕ} → Gives t gs → SmallNames m qs → defaults_in m t qs ≡ taken_defaults (parameters_at m qs) gs
unfolding defaults_in taken_defaults parameters_at parameter_at
taken_places m g none_left = refl
taken_places {t} {gs} m g (also {x = q} {xs = qs} small smalls) =
    ap₂ (λ (vs us : List Constant). vs ++ us)
    (ap (λ (o : Option Labelled). of_default o (default_at m q)) (g.first (two m (q + 3)) small) ∙ of_given (first_with (is_given (two m (q + 3))) gs) (default_at m q))
    (taken_places m g smalls)

module _ (m t w : List ℕ) (from to : ℕ) (here : Here) (small : SmallNames m (fields_in m from to)) {s : CodeOption ℕ} (struck : s ≡ first_struck w (defaults_in m t (fields_in m from to))) where
  came : (k : Known) {gs : List Given} → StrikesAs k w → Gives t gs → came_to s ≡ come_to_all k (taken_defaults (parameters_at m (fields_in m from to)) gs)
  came k {gs} strikes g = ap came_to (struck ∙ ap (first_struck w) (taken_places m g small)) ∙ sym (come_to_all_lem k w strikes (taken_defaults (parameters_at m (fields_in m from to)) gs))

  pub assign_struck : {q : ℕ} {why : Refusal} → s ≡ Some q → why ≡ refusal_at Malformed q → AssignsAll m t w w from to here (Err why)
  unfolding ran_as came_to ◌>>=◌
  assign_struck is e = record {
    keeps = keeps_same w;
    does = λ k gs vs strikes g v. record {
      says = λ es n r. rw e ((λ j. came_to (sym is j) >>= λ _. store_all (context_of here) vs (state_of w es n r)) ∙ ap (λ (o : Outcome (Unit {0})). o >>= λ _. store_all (context_of here) vs (state_of w es n r)) (came k strikes g));
      keeps = keeps_same w;
    };
  }

  pub assign_stored : {w' : List ℕ} {a : Result Unit Refusal} → s ≡ None → Assigns m t w w' from to here a → AssignsAll m t w w' from to here a
  unfolding came_to ◌>>=◌
  assign_stored is i = record {
    keeps = i.keeps;
    does = λ k gs vs strikes g v. record {
      says = λ es n r. (i.does gs vs g v).says es n r ∙ (λ j. came_to (sym is j) >>= λ _. store_all (context_of here) vs (state_of w es n r)) ∙ ap (λ (o : Outcome (Unit {0})). o >>= λ _. store_all (context_of here) vs (state_of w es n r)) (came k strikes g);
      keeps = i.keeps;
    };
  }
