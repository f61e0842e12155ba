-- One law for each way through `struck_pattern`, whose next field is at q; and what an answer says of a run that comes to the constants.
use Prim.Native.Nat.{ℕ, ◌+◌, ◌≤◌, ◌<◌}
use mathlib.Core.Path.{◌≡◌, refl, sym, ap, ◌∙◌}
use mathlib.Core.Bool.{Bool, true, false, ◌&&◌}
use mathlib.Core.List.{List, [], ◌∷◌, ◌++◌}
use lib.Dec.{eqb}
use native.Mathlib.Omega.{arith}
use borrow.Author.Tests.{eqb-true, le-ltb}
use Rattle.values.specs.declared.Value.{Value}
use Rattle.values.specs.declared.Reason.TheVariants.{Malformed}
use Rattle.wire.specs.Bytes.{pick, byte, end_of, fields_in}
use Rattle.rules.specs.Arithmetic.{same_value}
use Rattle.rules.specs.Outcome.{Outcome, refused, done, ◌>>=◌, refuse_if}
use Rattle.rules.specs.Tree.{Constant}
use Rattle.rules.specs.State.{Known}
use Rattle.rules.specs.Patterns.{tried}
use Rattle.rules.specs.Evaluate.{come_to, come_to_all}
use Rattle.places.specs.At.{constant_at}
use Rattle.memory.specs.Words.{word_of, strike_label, strike_end, struck_at, struck_in}
use Rattle.patterns.specs.Tried.{patterns_at}
use Rattle.patterns.specs.Struck.{first_struck, Near}
use Rattle.patterns.proofs.Places.{no_pattern_lem, default_first, constant_first}
use Rattle.std.specs.Option.{option_or}
use Rattle.std.specs.Prelude.{Option, Some, None}

-- ---- The ways

-- where no place is before the end of what is struck out, nothing is
pub none_struck : (w : List ℕ) → eqb (word_of w strike_end) 0 ≡ true → (vs : List Constant) → None ≡ first_struck w vs
unfolding first_struck struck_in struck_at
none_struck w e [] = refl
none_struck w e (v ∷ vs) =
    let past : word_of w strike_end ≤ v.place = omega (arith, eqb-true (word_of w strike_end) 0 e) in
    rw (le-ltb v.place (word_of w strike_end) past) (none_struck w e vs ∙ ap (λ (b : Bool). pick b (Some v.place) (first_struck w vs)) (nothing (eqb v.label (word_of w strike_label))))
  where
    nothing : (b : Bool) → false ≡ (b && false)
    nothing true = refl
    nothing false = refl

abbrev pub StruckFrom : (m w : List ℕ) (e : ℕ) → Value → (q : ℕ) → Option ℕ
StruckFrom m w e x q = first_struck w (tried (patterns_at m (fields_in m q e)) x)

module _ (m w : List ℕ) (e : ℕ) (x : Value) (q : ℕ) where
  pub struck_end : e ≤ q → None ≡ StruckFrom m w e x q
  unfolding first_struck tried
  struck_end l = rw (no_pattern_lem m q e l) refl

  module _ (l : q < e) {t : ℕ} (read : t ≡ byte m (q + 3)) where
    pub struck_default : {r : ℕ} → t ≡ 0x1b → r ≡ end_of m q → StruckFrom m w e x r ≡ StruckFrom m w e x q
    unfolding tried
    struck_default h n = rw (default_first m q e l read h, n) refl

    module _ (h : t ≡ 0x1b → ⊥) {label : ℕ} {b : Bool} (labelled : label ≡ byte m (q + 3 + 3)) (struck : b ≡ struck_at w label (q + 3)) where
      its_strike : struck_in w (constant_at m (q + 3)) ≡ b
      unfolding struck_in constant_at
      its_strike = ap (λ (n : ℕ). struck_at w n (q + 3)) (sym labelled) ∙ sym struck

      pub struck_here : b ≡ true → Some (q + 3) ≡ StruckFrom m w e x q
      unfolding first_struck tried constant_at
      struck_here is = rw (constant_first m q e l read h, its_strike ∙ is) refl

      module _ {s : Bool} (same : s ≡ same_value x (constant_at m (q + 3)).value) (not : b ≡ false) where
        pub struck_match : s ≡ true → None ≡ StruckFrom m w e x q
        unfolding first_struck tried
        struck_match is = rw (constant_first m q e l read h, its_strike ∙ not, sym same ∙ is) refl

        pub struck_next : {r : ℕ} → s ≡ false → r ≡ end_of m q → StruckFrom m w e x r ≡ StruckFrom m w e x q
        unfolding first_struck tried
        struck_next is n = rw (constant_first m q e l read h, its_strike ∙ not, sym same ∙ is, n) refl

pub near_at : {c : Option ℕ} {p : ℕ} → c ≡ Some p → Near c → p ≤ 65535
unfolding Near
near_at is near = rw is at near

pub struck_append : (w : List ℕ) (vs us : List Constant) → first_struck w (vs ++ us) ≡ option_or (first_struck w vs) (first_struck w us)
unfolding first_struck
struck_append w [] us = refl
struck_append w (v ∷ vs) us = go (struck_in w v) (first_struck w vs) (struck_append w vs us)
  where
    go : (b : Bool) {c : Option ℕ} (d : Option ℕ) → c ≡ option_or d (first_struck w us) → pick b (Some v.place) c ≡ option_or (pick b (Some v.place) d) (first_struck w us)
    go true d e = refl
    go false d e = e

-- ---- The run

-- a run that comes to the constants is refused at the first that is struck out
unfoldable pub came_to : Option ℕ → Outcome (Unit {0})
came_to (Some p) = refused Malformed p
came_to None = done tt

pub come_to_all_lem : (k : Known) (w : List ℕ) → ((v : Constant) → k.struck_out v ≡ struck_in w v) → (vs : List Constant) → come_to_all k vs ≡ came_to (first_struck w vs)
unfolding come_to_all come_to first_struck came_to refuse_if ◌>>=◌
come_to_all_lem k w e [] = refl
come_to_all_lem k w e (v ∷ vs) = rw (e v) (go (struck_in w v) (first_struck w vs) (come_to_all_lem k w e vs))
  where
    go : (b : Bool) {o : Outcome (Unit {0})} (c : Option ℕ) → o ≡ came_to c → (refuse_if b Malformed v.place >>= λ _. o) ≡ came_to (pick b (Some v.place) c)
    go true c h = refl
    go false c h = h
