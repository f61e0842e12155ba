-- One law for each way in which a call ends, and one for calls made on the way. Assumes nothing.
use Prim.Native.Nat.{ℕ, ◌+◌, ◌-◌, ◌≤◌}
use mathlib.Core.Path.{◌≡◌, sym, ap, ◌∙◌}
use mathlib.Core.List.{List, ◌++◌}
use native.Mathlib.Omega.{arith}
use lib.ListN.{length, take, replicate}
use lib.Seq.{length-take-le, take_all}
use Rattle.values.specs.declared.Reason.{Reason}
use Rattle.wire.specs.Runs.{over, zeros}
use Rattle.wire.proofs.Laws.{over_length, over_front, zeros_length}
use Rattle.rules.specs.Outcome.{Outcome, refused, done}
use Rattle.notation.specs.Convert.{answer_of, output_of, effect_of}
use Rattle.text_answers.specs.Leaving.{Leaves, Clears}
use Rattle.std.specs.Prelude.{Ok}
use Rattle.values.specs.Answers.{refused_for}
use Rattle.notation.specs.Answers.{Answer}

cleared_from_lem : (n : ℕ) (m : List ℕ) {m' : List ℕ} → n ≤ length m → m' ≡ over m n (zeros (length m - n)) → m' ≡ take n m ++ replicate (length m - n) 0
unfolding zeros
cleared_from_lem n m h e =
    let rest : List ℕ = zeros (length m - n) in
    let size : length rest ≡ length m - n = zeros_length (length m - n) in
    e ∙ sym (take_all (n + length rest) (over m n rest) (omega (arith, over_length m n rest))) ∙ over_front m n rest (omega arith)

-- none stay
none_kept : (m : List ℕ) → take 0 m ++ replicate (length m - 0) 0 ≡ replicate (length m) 0
none_kept m = let all : length m - 0 ≡ length m = omega arith in ap (λ (k : ℕ). replicate k 0) all

module _ {out out' work work' : List ℕ} where
  pub clears : (n : ℕ) → n ≤ length out → out' ≡ over out n (zeros (length out - n)) → work' ≡ over work 0 (zeros (length work - 0)) → Clears n out out' work work'
  clears n room eo ew = record { output = cleared_from_lem n out room eo; memory = cleared_from_lem 0 work (omega arith) ew ∙ none_kept work }

  pub refuses : (r : Reason) (p : ℕ) → Clears 0 out out' work work' → Leaves (refused r p) out out' work work' (refused_for r p)
  unfolding effect_of answer_of output_of
  refuses r p x =
      let bytes = x.output ∙ none_kept out in
      record { effect = λ i. record { answer = refused_for r p; output_after = bytes i; memory_after = x.memory i } }

  pub accepts : (n : ℕ) → n ≤ length out → Clears n out out' work work' → Leaves (done (take n out)) out out' work work' (Ok n)
  unfolding effect_of answer_of output_of
  accepts n room x =
      let size : n ≡ length (take n out) = sym (length-take-le n out room) in
      let bytes = x.output ∙ ap (λ (k : ℕ). take n out ++ replicate (length out - k) 0) size in
      record { effect = λ i. record { answer = Ok (size i); output_after = bytes i; memory_after = x.memory i } }

-- an outcome by another name, and bytes lent that keep their length
pub leaves_as : {o o' : Outcome (List ℕ)} {out out₁ out₂ work work₁ work₂ : List ℕ} {a : Answer} → o' ≡ o → length out₁ ≡ length out → length work₁ ≡ length work → Leaves o out₁ out₂ work₁ work₂ a → Leaves o' out out₂ work work₂ a
leaves_as same lo lw x = record { effect = x.effect ∙ λ i. effect_of (lo i) (lw i) (sym same i) }
