-- What holds of an outcome if it is accepted, and of two outcomes if both are. Proofs go along the definition's binds, and nothing is
-- ever inverted.
use Prim.Native.Nat.{ℕ, zero, suc}
use mathlib.Core.Path.{◌≡◌, refl}
use mathlib.Core.Bool.{Bool, true, false}
use mathlib.Core.Option.{Option}
use Rattle.values.specs.declared.Reason.{Reason}
use Rattle.rules.specs.Outcome.{Outcome, refused, done, ◌>>=◌, refuse_if, or_refuse, Result, fails, gives, at}
use Rattle.rules.specs.State.{State, take_step}
use Rattle.rules.proofs.Lists.{Perhaps, not_there, there}
use Rattle.rules.proofs.Same.{Optional, both_none, both_some}

-- of the result, if there is one
pub data All {A : Type 0} (P : A → Type 0) : Outcome A → Type 0 where
  all_refused : {r : Reason} {p : ℕ} → All P (refused r p)
  all_done : {a : A} → P a → All P (done a)

-- of both results, if there are two
pub data Two {A B : Type 0} (R : A → B → Type 0) : Outcome A → Outcome B → Type 0 where
  left_refused : {r : Reason} {p : ℕ} {n : Outcome B} → Two R (refused r p) n
  right_refused : {r : Reason} {p : ℕ} {m : Outcome A} → Two R m (refused r p)
  both_done : {a : A} {b : B} → R a b → Two R (done a) (done b)

-- ---- One after the other

module _ {A B : Type 0} where
  pub bind_bind : {C : Type 0} (o : Outcome A) (f : A → Outcome B) (g : B → Outcome C) → ((o >>= f) >>= g) ≡ (o >>= λ a. f a >>= g)
  unfolding ◌>>=◌
  bind_bind (refused r p) f g = refl
  bind_bind (done a) f g = refl

  pub bind_same : (o : Outcome A) (f g : A → Outcome B) → ((a : A) → f a ≡ g a) → (o >>= f) ≡ (o >>= g)
  unfolding ◌>>=◌
  bind_same (refused r p) f g e = refl
  bind_same (done a) f g e = e a

  pub bind_done : (f : A → Outcome B) {o : Outcome A} {a : A} → o ≡ done a → (o >>= f) ≡ f a
  unfolding ◌>>=◌
  bind_done f e = rw e refl

-- ---- One run

module _ {A B : Type 0} where
  pub all_bind : {P : A → Type 0} {Q : B → Type 0} {m : Outcome A} {f : A → Outcome B} → All P m → ((a : A) → P a → All Q (f a)) → All Q (m >>= f)
  unfolding ◌>>=◌
  all_bind all_refused k = all_refused
  all_bind (all_done p) k = k _ p

  -- a bind of whose first part nothing need be known
  pub all_any : {Q : B → Type 0} (m : Outcome A) {f : A → Outcome B} → ((a : A) → All Q (f a)) → All Q (m >>= f)
  unfolding ◌>>=◌
  all_any (refused r p) k = all_refused
  all_any (done a) k = k a

  -- a bind whose first part has one result only
  pub all_then : {Q : B → Type 0} (m : Outcome (Unit {0})) (a : A) (f : A → Outcome B) → All Q (f a) → All Q ((m >>= λ _. done a) >>= f)
  unfolding ◌>>=◌
  all_then (refused r p) a f h = all_refused
  all_then (done u) a f h = h

pub all_map : {A : Type 0} {P Q : A → Type 0} {m : Outcome A} → All P m → ((a : A) → P a → Q a) → All Q m
all_map all_refused k = all_refused
all_map (all_done p) k = all_done (k _ p)

pub all_both : {A : Type 0} {P Q : A → Type 0} {m : Outcome A} → All P m → All Q m → All (λ (a : A). P a × Q a) m
all_both all_refused q = all_refused
all_both (all_done p) (all_done q) = all_done (p, q)

pub all_if : {A : Type 0} {P : A → Type 0} (b : Bool) {m n : Outcome A} → All P m → All P n → All P (elim b [ true ↦ m | false ↦ n ])
all_if true h g = h
all_if false h g = g

pub all_passed : (b : Bool) (r : Reason) (p : ℕ) → All (λ (u : Unit {0}). b ≡ false) (refuse_if b r p)
unfolding refuse_if
all_passed true r p = all_refused
all_passed false r p = all_done refl

abbrev pub with_steps : ℕ → State → State
with_steps n st = record { cells = st.cells; used = st.used; classes = st.classes; trail = st.trail; entries = st.entries; steps_left = n; room = st.room }

pub all_step : {B : Type 0} {Q : B → Type 0} (p : ℕ) (st : State) (f : State → Outcome B) → ((n : ℕ) → All Q (f (with_steps n st))) → All Q (take_step p st >>= f)
unfolding take_step ◌>>=◌
all_step {Q} p st f h = go st.steps_left
  where
    go : (n : ℕ) → All Q (◌>>=◌ {A = State} (elim n [ zero ↦ refused Reason.StepLimit p | suc m ↦ done (with_steps m st) ]) f)
    go zero = all_refused
    go (suc n) = h n

pub all_found : {A : Type 0} {P : A → Type 0} {o : Option A} (r : Reason) (p : ℕ) → Perhaps P o → All P (or_refuse o r p)
unfolding or_refuse
all_found r p not_there = all_refused
all_found r p (there h) = all_done h

-- an accepted outcome
pub all_get : {A : Type 0} {P : A → Type 0} {m : Outcome A} {a : A} → All P m → m ≡ done a → P a
all_get {P} h e = inside (rw e at h)
  where
    inside : {A : Type 0} {P : A → Type 0} {a : A} → All P (done a) → P a
    inside (all_done p) = p

pub all_itself : {A : Type 0} (m : Outcome A) → All (λ (a : A). m ≡ done a) m
all_itself (refused r p) = all_refused
all_itself (done a) = all_done refl

-- the answer of an operation on values

pub data Gives {A : Type 0} (P : A → Type 0) : Result A → Type 0 where
  gives_none : {r : Reason} → Gives P (fails r)
  gives_one : {a : A} → P a → Gives P (gives a)

pub all_at : {A : Type 0} {P : A → Type 0} {m : Result A} (p : ℕ) → Gives P m → All P (at p m)
unfolding at
all_at p gives_none = all_refused
all_at p (gives_one h) = all_done h

-- ---- Two runs

module _ {A B : Type 0} where
  -- two runs that have nothing to do with one another
  pub apart : {P : A → Type 0} {Q : B → Type 0} {R : A → B → Type 0} {m : Outcome A} {n : Outcome B} → All P m → All Q n → ((a : A) (b : B) → P a → Q b → R a b) → Two R m n
  apart all_refused q k = left_refused
  apart (all_done p) all_refused k = right_refused
  apart (all_done p) (all_done q) k = both_done (k _ _ p q)

module _ {A A' B B' : Type 0} {S : B → B' → Type 0} where
  pub two_bind : {R : A → A' → Type 0} {m : Outcome A} {n : Outcome A'} {f : A → Outcome B} {g : A' → Outcome B'} → Two R m n → ((a : A) (b : A') → R a b → Two S (f a) (g b)) → Two S (m >>= f) (n >>= g)
  unfolding ◌>>=◌
  two_bind left_refused k = left_refused
  two_bind right_refused k = right_refused
  two_bind (both_done r) k = k _ _ r

  -- binds of whose first parts nothing need be known
  pub two_any : (m : Outcome A) (n : Outcome A') {f : A → Outcome B} {g : A' → Outcome B'} → ((a : A) (b : A') → Two S (f a) (g b)) → Two S (m >>= f) (n >>= g)
  unfolding ◌>>=◌
  two_any (refused r p) n k = left_refused
  two_any (done a) (refused r p) k = right_refused
  two_any (done a) (done b) k = k a b

  -- binds whose first parts have nothing to do with one another
  pub two_all : {P : A → Type 0} {Q : A' → Type 0} {m : Outcome A} {n : Outcome A'} {f : A → Outcome B} {g : A' → Outcome B'} → All P m → All Q n → ((a : A) (b : A') → P a → Q b → Two S (f a) (g b)) → Two S (m >>= f) (n >>= g)
  unfolding ◌>>=◌
  two_all all_refused q k = left_refused
  two_all (all_done p) all_refused k = right_refused
  two_all (all_done p) (all_done q) k = k _ _ p q

  -- binds whose first parts have one result only
  pub two_then : (m n : Outcome (Unit {0})) (a : A) (b : A') (f : A → Outcome B) (g : A' → Outcome B') → Two S (f a) (g b) → Two S ((m >>= λ _. done a) >>= f) ((n >>= λ _. done b) >>= g)
  unfolding ◌>>=◌
  two_then (refused r p) n a b f g h = left_refused
  two_then (done u) (refused r p) a b f g h = right_refused
  two_then (done u) (done v) a b f g h = h

-- the same answer of an operation on values, at two places
pub two_at : {A B B' : Type 0} {S : B → B' → Type 0} (p q : ℕ) (m : Result A) {f : A → Outcome B} {g : A → Outcome B'} → ((a : A) → Two S (f a) (g a)) → Two S (at p m >>= f) (at q m >>= g)
unfolding ◌>>=◌ at
two_at p q (fails r) k = left_refused
two_at p q (gives a) k = k a

-- one test
pub two_if : {A B : Type 0} {S : A → B → Type 0} (b : Bool) {m m' : Outcome A} {n n' : Outcome B} → Two S m n → Two S m' n' → Two S (elim b [ true ↦ m | false ↦ m' ]) (elim b [ true ↦ n | false ↦ n' ])
two_if true h g = h
two_if false h g = g

pub two_or : {A B : Type 0} {R : A → A → Type 0} {S : B → B → Type 0} {o o' : Option A} (r r' : Reason) (p p' : ℕ) {f g : A → Outcome B} → Optional R o o' → ((x y : A) → R x y → Two S (f x) (g y)) → Two S (or_refuse o r p >>= f) (or_refuse o' r' p' >>= g)
unfolding or_refuse ◌>>=◌
two_or r r' p p' both_none k = left_refused
two_or r r' p p' (both_some h) k = k _ _ h

pub two_step : {A B : Type 0} {S : A → B → Type 0} (p q : ℕ) (st st' : State) (f : State → Outcome A) (g : State → Outcome B) → ((n n' : ℕ) → Two S (f (with_steps n st)) (g (with_steps n' st'))) → Two S (take_step p st >>= f) (take_step q st' >>= g)
unfolding take_step ◌>>=◌
two_step {S} p q st st' f g h = go st.steps_left st'.steps_left
  where
    go : (n n' : ℕ) → Two S (◌>>=◌ {A = State} (elim n [ zero ↦ refused Reason.StepLimit p | suc m ↦ done (with_steps m st) ]) f) (◌>>=◌ {A = State} (elim n' [ zero ↦ refused Reason.StepLimit q | suc m ↦ done (with_steps m st') ]) g)
    go zero n' = left_refused
    go (suc n) zero = right_refused
    go (suc n) (suc n') = h n n'

-- at the end: two accepted runs
both_results : {A B : Type 0} {R : A → B → Type 0} {a : A} {b : B} → Two R (done a) (done b) → R a b
both_results (both_done r) = r

pub results : {A B : Type 0} {R : A → B → Type 0} {m : Outcome A} {n : Outcome B} {a : A} {b : B} → Two R m n → m ≡ done a → n ≡ done b → R a b
results {R} h e e' = both_results (rw (e, e') at h)
