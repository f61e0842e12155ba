-- The ways of the functions that ask whether a compile comes to constants, and of the search by halves. Assumes nothing.
use Prim.Native.Nat.{ℕ, suc, ◌+◌, ◌≤◌}
use mathlib.Core.Path.{◌≡◌, refl, sym, ◌∙◌}
use mathlib.Core.Bool.{Bool, true, false, true≢false}
use mathlib.Core.List.{List}
use native.Mathlib.Omega.{arith}
use borrow.Author.Tests.{ltb-true, ltb-false}
use lib.Dec.{ltb}
use lib.ListN.{length}
use Rattle.values.specs.declared.Refusal.{Refusal}
use Rattle.rules.specs.Outcome.{Outcome}
use Rattle.rules.specs.Tree.{Constant}
use Rattle.rules.specs.State.{State}
use Rattle.rules.specs.Read.{manifest_of}
use Rattle.rules.specs.Types.{Types}
use Rattle.rules.specs.Compile.{run_manifest}
use Rattle.rules.specs.Why.{without_limits, is_refused, comes_to_one, lowest_place}
use Rattle.rules.proofs.Strikes.{labelled_below, comes_below, below_grows, lowest_found}
use Rattle.provenance.specs.Notes.{Question}
use Rattle.compiler.specs.Running.{RunEnds, RunsManifest, refused_so, done_so}
use Rattle.explanation.specs.Explained.{AskEnds}
use Rattle.explanation.specs.Explained as explained
use Rattle.std.specs.Prelude.{Result, is_err}

-- ---- A run

module _ {types : Types} {s : Constant → Bool} {ask : Question} {m device w out out' : List ℕ} {left left' : ℕ} {a : Result ℕ Refusal} (runs : RunsManifest types s ask m device w out out' left left' a) (unlimited : left ≡ 65535) (room : length out ≡ 65535) where
  abbrev outcome : Outcome State
  outcome = run_manifest s types (manifest_of m) device without_limits without_limits

  ends_here : RunEnds w out' left' ask outcome a
  unfolding without_limits
  ends_here = rw (unlimited, room) at runs.ends

  pub ask_ends : AskEnds w ask outcome a
  ask_ends = go ends_here
    where
      go : {o : Outcome State} {b : Result ℕ Refusal} → RunEnds w out' left' ask o b → AskEnds w ask o b
      go (refused_so e) = explained.refused_so e
      go (done_so st e steps written within note) = explained.noted_so st e note

  -- the compile comes to a constant that is struck out where the run is refused
  pub comes_so : is_err a ≡ comes_to_one types m device s
  unfolding comes_to_one is_refused
  comes_so = go ends_here
    where
      go : {o : Outcome State} {b : Result ℕ Refusal} → RunEnds w out' left' ask o b → is_err b ≡ is_refused o
      go (refused_so e) = rw e refl
      go (done_so st e steps written within note) = rw e refl

-- ---- The search

module _ (types : Types) (m device : List ℕ) (label : ℕ) where
  -- what is asked of the whole manifest
  abbrev Asked : Type 0 → Type 0
  Asked P = comes_to_one types m device (labelled_below label 0) ≡ false → comes_to_one types m device (labelled_below label (length m)) ≡ true → P

  -- the compile comes to none of the constants before `low`, and to one before `high`
  pub record Between (low high : ℕ) : Type 0 where
    pub within : high ≤ length m
    pub ordered : low ≤ high
    pub none : Asked (comes_below types m device label low ≡ false)
    pub one : Asked (comes_below types m device label high ≡ true)

  pub search_begins : {high : ℕ} → high ≡ length m → Between 0 high
  search_begins e = rw e (record { within = omega arith; ordered = omega arith; none = λ a b. a; one = λ a b. b })

  module _ {low high middle : ℕ} {r : Bool} (between : Between low high) (told : r ≡ comes_to_one types m device (labelled_below label middle)) where
    pub search_lower : low ≤ middle → middle ≤ high → r ≡ true → Between low middle
    search_lower more less is = record { within = omega (arith, between.within); ordered = more; none = between.none; one = λ a b. sym told ∙ is }

    pub search_higher : middle ≤ high → r ≡ false → Between middle high
    search_higher less is = record { within = between.within; ordered = less; none = λ a b. sym told ∙ is; one = between.one }

  pub search_ends : {low high : ℕ} → Between low high → high ≤ low + 1 → Asked (low ≡ lowest_place types m device label)
  search_ends {low} {high} between close a b = go (ltb low high) refl
    where
      go : (x : Bool) → ltb low high ≡ x → low ≡ lowest_place types m device label
      go true e =
          let next : high ≡ suc low = omega (arith, ltb-true low high e) in
          sym (lowest_found types m device label low (between.none a b) (rw next at (between.one a b)) (omega (arith, between.within, ltb-true low high e)))
      go false e = absurd (true≢false (sym (below_grows types m device label high low (ltb-false low high e) (between.one a b)) ∙ between.none a b))
