-- Booleans, numbers and scopes compared, and what holds of the elements of a list or of what may be missing.
use Prim.Native.Nat.{ℕ}
use mathlib.Core.Path.{◌≡◌, refl, sym, ap, subst, ◌∙◌}
use mathlib.Core.Bool.{Bool, true, false, ◌||◌, ◌&&◌, true≢false, false≢true}
use mathlib.Core.List.{List, [], ◌∷◌, ◌++◌, Memᴰ}
use mathlib.Core.Option.{Option, none, some}
use lib.Dec.{T, eqb, eqb→eq, eqb_refl}
use Rattle.rules.specs.State.{Scope, top_scope, node_scope, class_scope, body_scope, same_scope}
use Rattle.rules.specs.Evaluate.{first_with}
pub use Rattle.rules.specs.Ranges.{Each, none_left, also}

-- ---- Booleans

pub either_left : (a b : Bool) → (a || b) ≡ false → a ≡ false
either_left true b h = absurd (true≢false h)
either_left false b h = refl

pub either_right : (a b : Bool) → (a || b) ≡ false → b ≡ false
either_right true b h = absurd (true≢false h)
either_right false b h = h

pub neither : (a b : Bool) → a ≡ false → b ≡ false → (a || b) ≡ false
neither true b h g = h
neither false b h g = g

pub or_true_left : (a b : Bool) → a ≡ true → (a || b) ≡ true
or_true_left true b h = refl
or_true_left false b h = absurd (true≢false (sym h))

pub or_true_right : (a b : Bool) → b ≡ true → (a || b) ≡ true
or_true_right true b h = refl
or_true_right false b h = h

pub either_true : {C : Type 0} (a b : Bool) → (a || b) ≡ true → (a ≡ true → C) → (b ≡ true → C) → C
either_true true b h f g = f refl
either_true false b h f g = g h

pub both_left : (a b : Bool) → (a && b) ≡ true → a ≡ true
both_left true b h = refl
both_left false b h = absurd (true≢false (sym h))

pub both_right : (a b : Bool) → (a && b) ≡ true → b ≡ true
both_right true b h = h
both_right false b h = absurd (true≢false (sym h))

-- the one fails, if not both hold and the other does
pub left_fails : (a b : Bool) → b ≡ true → (a && b) ≡ false → a ≡ false
left_fails true b h g = absurd (true≢false (sym h ∙ g))
left_fails false b h g = refl

pub both_true : (a b : Bool) → a ≡ true → b ≡ true → (a && b) ≡ true
both_true true b h g = g
both_true false b h g = h

pub T_true : (b : Bool) → T b → b ≡ true
T_true true t = refl
T_true false t = absurd t

pub true_t : (b : Bool) → b ≡ true → T b
true_t true h = tt
true_t false h = absurd (true≢false (sym h))

pub eqb_true : (m n : ℕ) → eqb m n ≡ true → m ≡ n
eqb_true m n h = eqb→eq m n (true_t (eqb m n) h)

pub eqb_same : (n : ℕ) → eqb n n ≡ true
eqb_same n = T_true (eqb n n) (eqb_refl n)

pub eqb_sym : (m n : ℕ) → eqb m n ≡ eqb n m
eqb_sym m n = go (eqb m n) (eqb n m) refl refl
  where
    go : (a b : Bool) → eqb m n ≡ a → eqb n m ≡ b → a ≡ b
    go true true h g = refl
    go true false h g = absurd (true≢false (sym (eqb_same n) ∙ ap (λ (k : ℕ). eqb n k) (sym (eqb_true m n h)) ∙ g))
    go false true h g = absurd (true≢false (sym (eqb_same m) ∙ ap (λ (k : ℕ). eqb m k) (sym (eqb_true n m g)) ∙ h))
    go false false h g = refl

-- a test whose answer is known
pub when_true : {A : Type 0} (b : Bool) (x y : A) → b ≡ true → ◌≡◌ {A = A} (elim b [ true ↦ x | false ↦ y ]) x
when_true true x y e = refl
when_true false x y e = absurd (false≢true e)

pub when_false : {A : Type 0} (b : Bool) (x y : A) → b ≡ false → ◌≡◌ {A = A} (elim b [ true ↦ x | false ↦ y ]) y
when_false true x y e = absurd (true≢false e)
when_false false x y e = refl

-- ---- What may be missing

pub data Perhaps {A : Type 0} (P : A → Type 0) : Option A → Type 0 where
  not_there : Perhaps P none
  there : {x : A} → P x → Perhaps P (some x)

pub perhaps_map : {A : Type 0} {P Q : A → Type 0} {o : Option A} → ((a : A) → P a → Q a) → Perhaps P o → Perhaps Q o
perhaps_map k not_there = not_there
perhaps_map k (there h) = there (k _ h)

pub perhaps_get : {A : Type 0} {P : A → Type 0} {o : Option A} {a : A} → Perhaps P o → o ≡ some a → P a
perhaps_get {P} h e = inside (rw e at h)
  where
    inside : {A : Type 0} {P : A → Type 0} {a : A} → Perhaps P (some a) → P a
    inside (there p) = p

pub perhaps_itself : {A : Type 0} (o : Option A) → Perhaps (λ (a : A). o ≡ some a) o
perhaps_itself none = not_there
perhaps_itself (some a) = there refl

-- ---- Each element of a list

pub each_member : {A : Type 0} {P : A → Type 0} {x : A} {xs : List A} → Each P xs → Memᴰ x xs → P x
each_member {P} (also p ps) (Memᴰ.head e) = subst P (sym e) p
each_member (also p ps) (Memᴰ.tail m) = each_member ps m
each_member {A = A} {P = P} none_left x4 = elim x4 [ ]

pub found : {A : Type 0} {P : A → Type 0} (f : A → Bool) {xs : List A} → Each P xs → Perhaps P (first_with f xs)
unfolding first_with
found f none_left = not_there
found {A} {P} f (also {x = x} {xs = xs} p ps) = go (f x) (found f ps)
  where
    go : (b : Bool) → Perhaps P (first_with f xs) → Perhaps P (elim b [ true ↦ some x | false ↦ first_with f xs ])
    go true h = there p
    go false h = h

module _ {A : Type 0} {P : A → Type 0} where
  pub each_first : {x : A} {xs : List A} → Each P (x ∷ xs) → P x
  each_first (also p ps) = p

  each_rest : {x : A} {xs : List A} → Each P (x ∷ xs) → Each P xs
  each_rest (also p ps) = ps

  -- two lists one after the other
  pub each_left : (xs ys : List A) → Each P (xs ++ ys) → Each P xs
  each_left [] ys h = none_left
  each_left (x ∷ xs) ys (also p ps) = also p (each_left xs ys ps)

  pub each_right : (xs ys : List A) → Each P (xs ++ ys) → Each P ys
  each_right [] ys h = h
  each_right (x ∷ xs) ys (also p ps) = each_right xs ys ps

  pub each_append : {xs ys : List A} → Each P xs → Each P ys → Each P (xs ++ ys)
  each_append none_left q = q
  each_append (also p ps) q = also p (each_append ps q)

  pub each_map : {Q : A → Type 0} {xs : List A} → ((x : A) → P x → Q x) → Each P xs → Each Q xs
  each_map k none_left = none_left
  each_map k (also {x = x} p ps) = also (k x p) (each_map k ps)

  -- a premise before a list, and before each of its elements
  pub each_under : {G : Type 0} (xs : List A) → (G → Each P xs) → Each (λ (x : A). G → P x) xs
  each_under [] h = none_left
  each_under (x ∷ xs) h = also (λ y. each_first (h y)) (each_under xs (λ y. each_rest (h y)))

  pub each_apply : {G : Type 0} {xs : List A} → Each (λ (x : A). G → P x) xs → G → Each P xs
  each_apply none_left y = none_left
  each_apply (also p ps) y = also (p y) (each_apply ps y)

-- ---- Scopes

pub scope_same : (s : Scope) → same_scope s s ≡ true
unfolding same_scope
scope_same top_scope = refl
scope_same node_scope = refl
scope_same (class_scope c) = eqb_same c
scope_same (body_scope n) = eqb_same n

pub scope_only : (s t : Scope) → same_scope s t ≡ true → s ≡ t
unfolding same_scope
scope_only top_scope top_scope h = refl
scope_only top_scope node_scope h = absurd (false≢true h)
scope_only top_scope (class_scope b) h = absurd (false≢true h)
scope_only top_scope (body_scope b) h = absurd (false≢true h)
scope_only node_scope top_scope h = absurd (false≢true h)
scope_only node_scope node_scope h = refl
scope_only node_scope (class_scope b) h = absurd (false≢true h)
scope_only node_scope (body_scope b) h = absurd (false≢true h)
scope_only (class_scope a) top_scope h = absurd (false≢true h)
scope_only (class_scope a) node_scope h = absurd (false≢true h)
scope_only (class_scope a) (class_scope b) h = λ i. class_scope (eqb_true a b h i)
scope_only (class_scope a) (body_scope b) h = absurd (false≢true h)
scope_only (body_scope a) top_scope h = absurd (false≢true h)
scope_only (body_scope a) node_scope h = absurd (false≢true h)
scope_only (body_scope a) (class_scope b) h = absurd (false≢true h)
scope_only (body_scope a) (body_scope b) h = λ i. body_scope (eqb_true a b h i)
