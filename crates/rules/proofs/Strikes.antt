-- What a compile comes to, asked by striking constants out: the laws of `comes_to_one`, and the lowest place of a constant with a label.
use Prim.Native.Nat.{ℕ, zero, suc, ◌+◌, ◌<◌, ◌≤◌}
use mathlib.Core.Path.{◌≡◌, refl, sym, ap, ◌∙◌}
use mathlib.Core.Bool.{Bool, true, false, ◌&&◌, ◌||◌, true≢false, false≢true}
use mathlib.Core.List.{List}
use native.Mathlib.Omega.{arith}
use lib.Dec.{eqb, ltb}
use lib.ListN.{length}
use borrow.Author.Tests.{ltb-true, ltb-false, lt-ltb, eqb-true, eq-eqb}
use Rattle.rules.specs.Outcome.{Outcome, done}
use Rattle.rules.specs.Tree.{Constant, Manifest}
use Rattle.rules.specs.Read.{manifest_of}
use Rattle.rules.specs.State.{State}
use Rattle.rules.specs.Types.{Types}
use Rattle.rules.specs.Compile.{none_struck_out, run_manifest}
use Rattle.rules.specs.Why.{without_limits, is_refused, comes_to_one, labelled_at, first_from, lowest_place}
use Rattle.rules.proofs.Lists.{either_true, or_true_left, or_true_right, both_left, both_right, both_true, when_true, when_false}
use Rattle.rules.proofs.Outcome.{all_get, all_refused}
use Rattle.rules.proofs.ThreeRuns.{Alike, first_refused, second_refused, three_done, three_runs}

-- ---- Booleans

same_truth : (a b : Bool) → (a ≡ true → b ≡ true) → (b ≡ true → a ≡ true) → a ≡ b
same_truth true b h g = sym (h refl)
same_truth false true h g = g refl
same_truth false false h g = refl

not_true : (b : Bool) → (b ≡ true → ⊥) → b ≡ false
not_true true h = absurd (h refl)
not_true false h = refl

twice : (b : Bool) → (b || b) ≡ true → b ≡ true
twice b h = either_true b b h (λ e. e) (λ e. e)

-- ---- Constants by label and place

-- the constants with this label, below this place
unfoldable pub labelled_below : (label bound : ℕ) → Constant → Bool
labelled_below label bound v = eqb v.label label && ltb v.place bound

less_or_equal : (p b : ℕ) → p < suc b → (ltb p b || eqb p b) ≡ true
less_or_equal p b h = go (ltb p b) refl
  where
    go : (x : Bool) → ltb p b ≡ x → (x || eqb p b) ≡ true
    go true e = refl
    go false e = eq-eqb p b (omega (arith, ltb-false p b e))

module _ (l : ℕ) (v : Constant) where
  at_below : (q b : ℕ) → q < b → labelled_at l q v ≡ true → labelled_below l b v ≡ true
  unfolding labelled_below labelled_at
  at_below q b h t =
      let place : v.place ≡ q = eqb-true v.place q (both_right (eqb v.label l) (eqb v.place q) t) in
      both_true (eqb v.label l) (ltb v.place b) (both_left (eqb v.label l) (eqb v.place q) t) (lt-ltb v.place b (rw place h))

  below_below : (b c : ℕ) → b ≤ c → labelled_below l b v ≡ true → labelled_below l c v ≡ true
  unfolding labelled_below
  below_below b c h t =
      let place : v.place < b = ltb-true v.place b (both_right (eqb v.label l) (ltb v.place b) t) in
      both_true (eqb v.label l) (ltb v.place c) (both_left (eqb v.label l) (ltb v.place b) t) (lt-ltb v.place c (omega arith))

  -- below the next place: below this one, or at it
  below_or_at : (b : ℕ) → labelled_below l (suc b) v ≡ true → (labelled_below l b v || labelled_at l b v) ≡ true
  unfolding labelled_below labelled_at
  below_or_at b t = rw (both_left (eqb v.label l) (ltb v.place (suc b)) t) (less_or_equal v.place b (ltb-true v.place (suc b) (both_right (eqb v.label l) (ltb v.place (suc b)) t)))

  none_below : labelled_below l 0 v ≡ true → ⊥
  unfolding labelled_below
  none_below t = let place : v.place < 0 = ltb-true v.place 0 (both_right (eqb v.label l) (ltb v.place 0) t) in omega arith

-- ---- The first that passes a test

-- where a test that fails at 0 and holds at n begins to hold
record Turn (test : ℕ → Bool) (n : ℕ) : Type 0 where
  at : ℕ
  inside : at < n
  before : test at ≡ false
  after : test (suc at) ≡ true

turn : (test : ℕ → Bool) (n : ℕ) → test 0 ≡ false → test n ≡ true → Turn test n
turn test zero e h = absurd (false≢true (sym e ∙ h))
turn test (suc n) e h = go (test n) refl (λ t. turn test n e t)
  where
    later : Turn test n → Turn test (suc n)
    later t = record { at = t.at; inside = omega (arith, t.inside); before = t.before; after = t.after }

    go : (x : Bool) → test n ≡ x → (test n ≡ true → Turn test n) → Turn test (suc n)
    go true t earlier = later (earlier t)
    go false t earlier = record { at = n; inside = omega arith; before = t; after = h }

first_is : (test : ℕ → Bool) (many n b : ℕ) → n ≤ b → b < n + many → ((q : ℕ) → q < b → test q ≡ false) → test b ≡ true → first_from test many n ≡ b
unfolding first_from
first_is test zero n b h g before t = omega arith
first_is test (suc many) n b h g before t = go (ltb n b) refl λ less. first_is test many (suc n) b less (omega arith) before t
  where
    go : (x : Bool) → ltb n b ≡ x → (n < b → first_from test many (suc n) ≡ b) → (elim (test n) [ true ↦ n | false ↦ first_from test many (suc n) ]) ≡ b
    go true e rest = when_false (test n) n (first_from test many (suc n)) (before n (ltb-true n b e)) ∙ rest (ltb-true n b e)
    go false e rest = let here : n ≡ b = omega (arith, ltb-false n b e) in when_true (test n) n (first_from test many (suc n)) (ap test here ∙ t) ∙ here

-- ---- Three outcomes

module _ {A : Type 0} where
  refused_one : {m n o : Outcome A} → Alike m n o → is_refused o ≡ true → (is_refused m || is_refused n) ≡ true
  unfolding is_refused
  refused_one first_refused h = refl
  refused_one (second_refused {m = m}) h = or_true_right (is_refused m) true refl
  refused_one (three_done p) h = absurd (false≢true h)

  pub third_done : {m n o : Outcome A} {a : A} → Alike m n o → m ≡ done a → n ≡ done a → o ≡ done a
  third_done first_refused e e' = absurd (all_get {P = λ (x : A). ⊥} all_refused e)
  third_done second_refused e e' = absurd (all_get {P = λ (x : A). ⊥} all_refused e')
  third_done (three_done p) e e' = e

  done_passes : {m : Outcome A} {a : A} → m ≡ done a → is_refused m ≡ false
  unfolding is_refused
  done_passes e = rw e

-- A run that is done with something struck out has come to none of it: nothing struck out, it ends in the same state.
pub struck_same : (S : Constant → Bool) (types : Types) (manifest : Manifest) (device : List ℕ) (limit output : ℕ) {st : State} → run_manifest S types manifest device limit output ≡ done st → run_manifest none_struck_out types manifest device limit output ≡ done st
unfolding none_struck_out
struck_same S types manifest device limit output e = third_done (three_runs S S none_struck_out (λ v h. absurd (false≢true h)) types manifest device limit output) e e

-- ---- The laws

module _ (types : Types) (m device : List ℕ) where
  -- what comes to one of U comes to one of S or to one of T, if each of U is one of these
  pub comes_one : (S T U : Constant → Bool) → ((v : Constant) → U v ≡ true → (S v || T v) ≡ true) → comes_to_one types m device U ≡ true → (comes_to_one types m device S || comes_to_one types m device T) ≡ true
  unfolding comes_to_one
  comes_one S T U within = refused_one (three_runs S T U within types (manifest_of m) device without_limits without_limits)

  -- what comes to one of S comes to one of T, if each of S is one of T
  pub comes_more : (S T : Constant → Bool) → ((v : Constant) → S v ≡ true → T v ≡ true) → comes_to_one types m device S ≡ true → comes_to_one types m device T ≡ true
  comes_more S T within h = twice (comes_to_one types m device T) (comes_one T T S (λ v e. or_true_left (T v) (T v) (within v e)) h)

  -- ---- The lowest place of a constant with a label

  module _ (l : ℕ) where
    abbrev pub comes_below : (bound : ℕ) → Bool
    comes_below b = comes_to_one types m device (labelled_below l b)

    abbrev pub comes_at : (place : ℕ) → Bool
    comes_at q = comes_to_one types m device (labelled_at l q)

    comes_at_below : (q b : ℕ) → q < b → comes_at q ≡ true → comes_below b ≡ true
    comes_at_below q b h = comes_more (labelled_at l q) (labelled_below l b) λ v. at_below l v q b h

    pub below_grows : (b c : ℕ) → b ≤ c → comes_below b ≡ true → comes_below c ≡ true
    below_grows b c h = comes_more (labelled_below l b) (labelled_below l c) λ v. below_below l v b c h

    -- below the next place, it comes to a constant below this place or to the one at it
    pub below_next : (b : ℕ) → comes_below (suc b) ≡ (comes_below b || comes_at b)
    below_next b =
        same_truth (comes_below (suc b)) (comes_below b || comes_at b) (comes_one (labelled_below l b) (labelled_at l b) (labelled_below l (suc b)) λ v. below_or_at l v b)
        (λ t. either_true (comes_below b) (comes_at b) t (below_grows b (suc b) (omega arith)) (comes_at_below b (suc b) (omega arith)))

    -- none is below 0: a compile that is accepted comes to nothing there
    pub below_none : {st : State} → run_manifest none_struck_out types (manifest_of m) device without_limits without_limits ≡ done st → comes_below 0 ≡ false
    unfolding comes_to_one
    below_none e = not_true (comes_below 0) λ h. true≢false (sym (comes_more (labelled_below l 0) none_struck_out (λ v t. absurd (none_below l v t)) h) ∙ done_passes e)

    nothing_before : (b : ℕ) → comes_below b ≡ false → (q : ℕ) → q < b → comes_at q ≡ false
    nothing_before b e q h = not_true (comes_at q) λ t. true≢false (sym (comes_at_below q b h t) ∙ e)

    comes_there : (b : ℕ) → comes_below b ≡ false → comes_below (suc b) ≡ true → comes_at b ≡ true
    comes_there b e t = rw e at (sym (below_next b) ∙ t)

    -- a place is the lowest where a compile comes to nothing below it and to something below the next: what a search by halves ends with
    pub lowest_found : (b : ℕ) → comes_below b ≡ false → comes_below (suc b) ≡ true → b < length m → lowest_place types m device l ≡ b
    unfolding lowest_place
    lowest_found b e t h = first_is comes_at (length m) 0 b (omega arith) (omega arith) (nothing_before b e) (comes_there b e t)

    -- "the lowest place of a constant with that label that the compile" came to: it lies in the manifest, the compile came to the constant there, and to
    -- none with that label before it
    pub record Lowest (p : ℕ) : Type 0 where
      pub inside : p < length m
      pub comes : comes_at p ≡ true
      pub first : (q : ℕ) → q < p → comes_at q ≡ false

    pub lowest_place_lem : {st : State} → run_manifest none_struck_out types (manifest_of m) device without_limits without_limits ≡ done st → comes_below (length m) ≡ true → Lowest (lowest_place types m device l)
    lowest_place_lem e h = at_turn (turn comes_below (length m) (below_none e) h)
      where
        at_turn : Turn comes_below (length m) → Lowest (lowest_place types m device l)
        at_turn t = rw (lowest_found t.at t.before t.after t.inside) (record { inside = t.inside; comes = comes_there t.at t.before t.after; first = nothing_before t.at t.before })
