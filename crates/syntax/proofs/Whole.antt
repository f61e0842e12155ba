-- One law for each way through `check` and `check_all`, and `before` in the definition of a whole compile.
use mathlib.Core.Path.{◌≡◌, refl, sym, ap, ◌∙◌}
use mathlib.Core.Bool.{Bool, true, false, ◌||◌}
use mathlib.Core.List.{List}
use Prim.Native.Nat.{ℕ, ◌<◌, ◌≤◌}
use lib.Dec.{eqb, ltb}
use lib.ListN.{length}
use borrow.Author.Tests.{lt-ltb, le-ltb, ne_eqb}
use Rattle.values.specs.declared.Reason.{Reason}
use Rattle.values.specs.declared.Reason.TheVariants.{MemoryTooShort, ManifestLength}
use Rattle.rules.specs.Bytes.{pick, end_of, fields_in}
use Rattle.rules.specs.Check.{and_then, shape, rising, string_places, places_in, names_known, check}
use Rattle.rules.specs.Outcome.{Outcome, ◌>>=◌, refuse_if}
use Rattle.rules.specs.State.{State}
use Rattle.rules.specs.Read.{manifest_of}
use Rattle.rules.specs.Types.{Types, check_types}
use Rattle.rules.specs.Compile.{checked, none_struck_out, run_manifest, final_state}
use Rattle.syntax.specs.Before.{before}
use Rattle.rules.specs.Verdicts.{Verdict, fault_at, no_fault}

module _ (m : List ℕ) where
  pub bad_shape : {v : Verdict} {r : Reason} {q : ℕ} → v ≡ shape m → v ≡ fault_at r q → v ≡ check m
  unfolding check
  bad_shape a h = rw (← a, h)

  module _ {v u : Verdict} {e : ℕ} (ev : v ≡ shape m) (hv : v ≡ no_fault) (ee : e ≡ end_of m 0) (eu : u ≡ rising m (fields_in m 3 e)) where
    shaped : check m ≡ and_then u (names_known m (length (fields_in m 3 e)) (places_in m e (length m)))
    unfolding check string_places
    shaped = rw (← ev, hv, eu, ee)

    pub bad_strings : {r : Reason} {q : ℕ} → u ≡ fault_at r q → u ≡ check m
    bad_strings h = h ∙ sym (shaped ∙ rw h)

    pub then_names : {c : ℕ} {x : Verdict} → u ≡ no_fault → c ≡ length (fields_in m 3 e) → x ≡ names_known m c (places_in m e (length m)) → x ≡ check m
    then_names h ec ex = ex ∙ sym (shaped ∙ rw (h, ec))

  pub too_short : length m ≡ 0 → fault_at ManifestLength 0 ≡ before m
  unfolding before
  too_short h = rw h

  pub too_long : (length m ≡ 0 → ⊥) → 65535 < length m → fault_at ManifestLength 0 ≡ before m
  unfolding before
  too_long z h = rw (ne_eqb _ _ z, lt-ltb _ _ h)

  pub right_length : {v : Verdict} → (length m ≡ 0 → ⊥) → length m ≤ 65535 → v ≡ check m → v ≡ before m
  unfolding before
  right_length z h e = rw (ne_eqb _ _ z, le-ltb _ _ h) e

-- ---- In the definitions of a whole compile and a whole print, `before` stands behind the memory's length

refused_first : {A : Type 0} (b : Bool) (r : Reason) (p : ℕ) (v : Verdict) (run : Unit {0} → Outcome A) → (refuse_if b r p >>= λ _. checked v >>= run) ≡ (checked (pick b (fault_at r p) v) >>= run)
unfolding ◌>>=◌ refuse_if checked
refused_first true r p v run = refl
refused_first false r p v run = refl

-- the manifest's length and its check, one after the other, are `before`
pub before_both : {A : Type 0} (m : List ℕ) (run : Unit {0} → Outcome A) → (refuse_if (eqb (length m) 0 || ltb 65535 (length m)) ManifestLength 0 >>= λ _. checked (check m) >>= run) ≡ (checked (before m) >>= run)
unfolding before
before_both m run = refused_first (eqb (length m) 0 || ltb 65535 (length m)) ManifestLength 0 (check m) run

pub before_the_run : (types : Types) (m device : List ℕ) (limit output memory : ℕ) → final_state types m device limit output memory ≡ (refuse_if (ltb memory 65536) MemoryTooShort 0 >>= λ _. checked (check_types types) >>= λ _. checked (before m) >>= λ _. run_manifest none_struck_out types (manifest_of m) device limit output)
unfolding final_state
before_the_run types m device limit output memory =
    ap (λ (o : Outcome State). refuse_if (ltb memory 65536) MemoryTooShort 0 >>= λ _. checked (check_types types) >>= λ _. o)
    (before_both m (λ _. run_manifest none_struck_out types (manifest_of m) device limit output))
