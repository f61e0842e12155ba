-- One law for each way through `run_checked`, `compile_chosen`, `compile` and `compile_with_types`. Assumes nothing.
use Prim.Native.Nat.{ℕ, ◌-◌, ◌<◌, ◌≤◌}
use mathlib.Core.Path.{◌≡◌, refl, sym, ap, ◌∙◌}
use mathlib.Core.List.{List, ◌++◌}
use native.Mathlib.Omega.{arith}
use lib.ListN.{length, replicate}
use lib.Seq.{length-take-le}
use borrow.Author.Tests.{lt-ltb, le-ltb}
use Rattle.values.specs.declared.Reason.{Reason}
use Rattle.values.specs.declared.Refusal.{Refusal}
use Rattle.values.specs.declared.Reason.TheVariants.{MemoryTooShort}
use Rattle.wire.specs.Runs.{zeros}
use Rattle.rules.specs.Outcome.{Outcome, refused, done, ◌>>=◌, refuse_if}
use Rattle.rules.specs.State.{State}
use Rattle.rules.specs.Read.{manifest_of}
use Rattle.rules.specs.Catalog.{catalog_bytes}
use Rattle.rules.specs.Types.{Types, check_types}
use Rattle.rules.specs.Compile.{none_struck_out, room_in, run_manifest, checked, final_state, entries_in_order, Compiled, compiled_from, compiled, answer_of, output_of, memory_of, compile}
use Rattle.syntax.specs.Before.{before}
use Rattle.syntax.proofs.Whole.{before_the_run}
use Rattle.catalog.specs.Making.{cleared_from}
use Rattle.catalog.specs.Finding.{Written}
use Rattle.catalog.proofs.Growing.{cleared_after, cleared_all}
use Rattle.evaluator.specs.Answers.{refused_by}
use Rattle.compiler.specs.Compiled.{Leaves}
use Rattle.provenance.specs.Notes.{Question}
use Rattle.compiler.specs.Running.{RunEnds, refused_so, done_so}
use Rattle.std.specs.Prelude.{Result, Ok, Err}
use Rattle.rules.specs.Verdicts.{Verdict, fault_at, no_fault}
use Rattle.values.specs.Answers.{Answer, catalog_with, refused_for}

-- ---- The final state, by what is found before the run

module _ (types : Types) (m device : List ℕ) (limit output memory : ℕ) where
  pub short_memory : memory < 65536 → final_state types m device limit output memory ≡ refused MemoryTooShort 0
  unfolding refuse_if ◌>>=◌
  short_memory h = before_the_run types m device limit output memory ∙ rw (lt-ltb memory 65536 h) refl

  pub fault_of_types : {v : Verdict} {r : Reason} {p : ℕ} → 65536 ≤ memory → v ≡ check_types types → v ≡ fault_at r p → final_state types m device limit output memory ≡ refused r p
  unfolding refuse_if ◌>>=◌ checked
  fault_of_types h e f = before_the_run types m device limit output memory ∙ rw (le-ltb memory 65536 h, sym e, f) refl

  module _ (h : 65536 ≤ memory) (types-sound : check_types types ≡ no_fault) where
    pub fault_first : {v : Verdict} {r : Reason} {p : ℕ} → v ≡ before m → v ≡ fault_at r p → final_state types m device limit output memory ≡ refused r p
    unfolding refuse_if ◌>>=◌ checked
    fault_first e f = before_the_run types m device limit output memory ∙ rw (le-ltb memory 65536 h, types-sound, sym e, f) refl

    pub sound_first : before m ≡ no_fault → final_state types m device limit output memory ≡ run_manifest none_struck_out types (manifest_of m) device limit output
    unfolding refuse_if ◌>>=◌ checked
    sound_first e = before_the_run types m device limit output memory ∙ rw (le-ltb memory 65536 h, types-sound, e) refl

-- ---- All outcomes

module _ (types : Types) (m device : List ℕ) (limit : ℕ) (out work : List ℕ) where
  compiled_refused : {r : Reason} {p : ℕ} → final_state types m device limit (length out) (length work) ≡ refused r p → compiled types m device limit (length out) (length work) ≡ refused r p
  unfolding compiled ◌>>=◌
  compiled_refused e = rw e refl

  compiled_done : {st : State} → final_state types m device limit (length out) (length work) ≡ done st → compiled types m device limit (length out) (length work) ≡ done (compiled_from limit st)
  unfolding compiled ◌>>=◌
  compiled_done e = rw e refl

  module _ (out₁ out' work' : List ℕ) {n : ℕ} (o : length out₁ ≡ length out) (mem : n ≡ length work) (cleared : work' ≡ zeros n) where
    zero_memory : work' ≡ memory_of (length work)
    unfolding memory_of zeros
    zero_memory = cleared ∙ ap (λ (n : ℕ). replicate n 0) mem

    -- the three parts make the whole
    all_three : {o : Outcome Compiled} {a : Answer} → compiled types m device limit (length out) (length work) ≡ o → a ≡ answer_of o → out' ≡ output_of (length out) o → Leaves types m device limit out out' work work' a
    unfolding compile
    all_three {o} {a} e answer output =
        let answer' : a ≡ answer_of (compiled types m device limit (length out) (length work)) = answer ∙ ap answer_of (sym e) in
        let output' : out' ≡ output_of (length out) (compiled types m device limit (length out) (length work)) = output ∙ ap (output_of (length out)) (sym e) in
        record { effect = λ i. record { answer = answer' i; output_after = output' i; memory_after = zero_memory i } }

    pub refuses : {why : Refusal} {a : Answer} → final_state types m device limit (length out) (length work) ≡ refused_by why → a ≡ refused_for why.reason why.place → out' ≡ cleared_from 0 out₁ → Leaves types m device limit out out' work work' a
    unfolding answer_of output_of
    refuses e told zero = all_three (compiled_refused e) told (zero ∙ cleared_all out₁ ∙ ap (λ (n : ℕ). replicate n 0) o)

    pub accepts : {st : State} {f left : ℕ} → final_state types m device limit (length out) (length work) ≡ done st → st.steps_left ≡ left → Written out₁ f (entries_in_order st) → f ≤ length out₁ → out' ≡ cleared_from f out₁ → Leaves types m device limit out out' work work' (catalog_with f (limit - left))
    unfolding answer_of output_of compiled_from
    accepts {st} {f} {left} e steps written within rest =
        let bytes : List ℕ = catalog_bytes (entries_in_order st) in
        let size : f ≡ length bytes = sym (length-take-le f out₁ within) ∙ ap length written.bytes in
        let spent : limit - left ≡ limit - st.steps_left = ap (λ (n : ℕ). limit - n) (sym steps) in
        all_three (compiled_done e) (λ i. catalog_with (size i) (spent i)) (rest ∙ cleared_after out₁ bytes f within written.bytes ∙ ap (λ (n : ℕ). bytes ++ replicate (n - length bytes) 0) o)

-- ---- run_checked

-- an entry's end is a number of 16 bits, within the output
pub record Ended (out : List ℕ) (left f : ℕ) (o : Outcome State) : Type 0 where
  pub state : State
  pub same : o ≡ done state
  pub steps : state.steps_left ≡ left
  pub written : Written out f (entries_in_order state)
  pub within : f ≤ length out
  pub short : f ≤ 65535

module _ {w out : List ℕ} {left : ℕ} {ask : Question} {o : Outcome State} {a : Result ℕ Refusal} (x : RunEnds w out left ask o a) where
  pub run_done : {f : ℕ} → a ≡ Ok f → Ended out left f o
  unfolding room_in
  run_done {f} e = go (rw e at x)
    where
      go : RunEnds w out left ask o (Ok f) → Ended out left f o
      go (done_so st h steps written room note) = record { state = st; same = h; steps = steps; written = written; within = unfold room_in in omega arith; short = unfold room_in in omega arith }

  pub run_refused : {why : Refusal} → a ≡ Err why → o ≡ refused_by why
  run_refused {why} e = go (rw e at x)
    where
      go : RunEnds w out left ask o (Err why) → o ≡ refused_by why
      go (refused_so h) = h
