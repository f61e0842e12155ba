-- A string entered among strings that rise: where it stands already, and where it is put.
use Prim.Native.Nat.{ℕ, zero, suc, ◌+◌, ◌<◌, ◌≤◌}
use mathlib.Core.Path.{◌≡◌, refl, sym, ap, ap₂, ◌∙◌}
use mathlib.Core.Bool.{Bool, true, false}
use mathlib.Core.List.{List, [], ◌∷◌}
use mathlib.Core.Option.{some}
use native.Mathlib.Omega.{arith}
use lib.Dec.{eqb}
use lib.ListN.{length, get_or}
use borrow.Author.Tests.{eqb-true, eqb-false}
use Rattle.rules.specs.Check.{ascends}
use Rattle.rules.specs.Compile.{string_number}
use Rattle.notation.specs.Tokens.{text, lexeme}
use Rattle.notation.specs.Convert.{strings_of, entered, entered_all, table_behind}
use Rattle.notation.proofs.WrittenNames.{Rising}
use Rattle.notation.proofs.StringTable.{table_rising}
use Rattle.interner.specs.Table.{listed, Belongs}
use Rattle.rules.proofs.Ascending.{not_itself, not_back, other_bytes, own_bytes}

-- strings that rise still do with one more: they are the table behind one token
pub entered_rises : (s : List ℕ) (table : List (List ℕ)) → Rising table → Rising (entered s table)
unfolding table_behind entered_all strings_of
entered_rises s table up = table_rising (lexeme 0 0 (text s) ∷ []) table up

-- ---- Values of a function, listed

module _ {A : Type 0} where
  -- as many as asked for
  pub listed_length : (f : ℕ → A) (k n : ℕ) → length (listed f k n) ≡ n
  unfolding listed
  listed_length f k zero = refl
  listed_length f k (suc n) = ap suc (listed_length f (suc k) n)

  -- the value at i
  listed_at : (d : A) (f : ℕ → A) (k n i : ℕ) → i < n → get_or (listed f k n) i d ≡ f (k + i)
  unfolding listed
  listed_at d f k zero i l = absurd (omega arith)
  listed_at d f k (suc n) zero l = ap f (omega arith)
  listed_at d f k (suc n) (suc i) l = listed_at d f (suc k) n i (omega arith) ∙ ap f (omega arith)

  pub listed_first : (d : A) (f : ℕ → A) (n i : ℕ) → i < n → get_or (listed f 0 n) i d ≡ f i
  listed_first d f n i l = listed_at d f 0 n i l ∙ ap f (omega arith)

  -- the values of g one further are those of f
  listed_moved : (f g : ℕ → A) (k n : ℕ) → ((j : ℕ) → k ≤ j → j < k + n → g (suc j) ≡ f j) → listed g (suc k) n ≡ listed f k n
  unfolding listed
  listed_moved f g k zero same = refl
  listed_moved f g k (suc n) same = rw (same k (omega arith) (omega arith), listed_moved f g (suc k) n (λ j l h. same j (omega arith) (omega arith)))

-- ---- A string s among the values of f

module _ (s x : List ℕ) (table : List (List ℕ)) where
  -- before a string that it comes before
  put_first : ascends s x ≡ true → entered s (x ∷ table) ≡ s ∷ x ∷ table
  unfolding entered
  put_first e = rw e

  -- behind a string that comes before it
  put_later : ascends x s ≡ true → entered s (x ∷ table) ≡ x ∷ entered s table
  unfolding entered
  put_later e = rw (not_back x s e, e)

  -- it is there
  put_nowhere : x ≡ s → entered s (x ∷ table) ≡ x ∷ table
  unfolding entered
  put_nowhere e = rw (e, not_itself s)

  number_first : (k : ℕ) → x ≡ s → string_number s (x ∷ table) k ≡ some k
  unfolding string_number
  number_first k e = rw (e, own_bytes s, string_number)

  number_later : (k : ℕ) → ascends x s ≡ true → string_number s (x ∷ table) k ≡ string_number s table (suc k)
  unfolding string_number
  number_later k e = rw (other_bytes x s e, string_number)

-- s stands at i, and all before come before it
module _ {s : List ℕ} (f : ℕ → List ℕ) {i : ℕ} (before : (j : ℕ) → j < i → ascends (f j) s ≡ true) (same : f i ≡ s) where
  -- its number is i
  pub number_is : (k n : ℕ) → k ≤ i → i < k + n → string_number s (listed f k n) k ≡ some i
  unfolding listed
  number_is k zero l h = absurd (omega arith)
  number_is k (suc n) l h = go (eqb k i) refl (λ m. number_is (suc k) n m (omega arith))
    where
      go : (b : Bool) → eqb k i ≡ b → (suc k ≤ i → string_number s (listed f (suc k) n) (suc k) ≡ some i) → string_number s (f k ∷ listed f (suc k) n) k ≡ some i
      go true x others = let here : k ≡ i = eqb-true k i x in number_first s (f k) _ k (ap f here ∙ same) ∙ ap some here
      go false x others = let other = eqb-false k i x in number_later s (f k) _ k (before k (omega (arith, other))) ∙ others (omega (arith, other))

  -- nothing changes
  pub entered_known : (k n : ℕ) → k ≤ i → i < k + n → entered s (listed f k n) ≡ listed f k n
  unfolding listed
  entered_known k zero l h = absurd (omega arith)
  entered_known k (suc n) l h = go (eqb k i) refl (λ m. entered_known (suc k) n m (omega arith))
    where
      go : (b : Bool) → eqb k i ≡ b → (suc k ≤ i → entered s (listed f (suc k) n) ≡ listed f (suc k) n) → entered s (f k ∷ listed f (suc k) n) ≡ f k ∷ listed f (suc k) n
      go true x others = put_nowhere s (f k) _ (ap f (eqb-true k i x) ∙ same)
      go false x others =
          let other = eqb-false k i x in
          put_later s (f k) _ (before k (omega (arith, other))) ∙ ap (λ (r : List (List ℕ)). f k ∷ r) (others (omega (arith, other)))

-- the values of g are those of f with s put in at i
pub record PutIn (s : List ℕ) (f g : ℕ → List ℕ) (count i : ℕ) : Type 0 where
  pub below : (j : ℕ) → j < i → g j ≡ f j
  pub here : g i ≡ s
  pub further : (j : ℕ) → i ≤ j → j < count → g (suc j) ≡ f j

module _ {s : List ℕ} {f g : ℕ → List ℕ} {count i : ℕ} (w : Belongs s f count i) (p : PutIn s f g count i) where
  pub entered_new : (k n : ℕ) → k ≤ i → count ≡ k + n → listed g k (suc n) ≡ entered s (listed f k n)
  unfolding listed entered
  entered_new k zero l e = let here : k ≡ i = omega (arith, w.within) in ap (λ (x : List ℕ). x ∷ []) (ap g here ∙ p.here)
  entered_new k (suc n) l e = go (eqb k i) refl (λ m. entered_new (suc k) n m (omega arith))
    where
      go : (b : Bool) → eqb k i ≡ b → (suc k ≤ i → listed g (suc k) (suc n) ≡ entered s (listed f (suc k) n)) → g k ∷ listed g (suc k) (suc n) ≡ entered s (f k ∷ listed f (suc k) n)
      go true x others =
          let here : k ≡ i = eqb-true k i x in
          ap₂ ◌∷◌ (ap g here ∙ p.here) (listed_moved f g k (suc n) (λ j a b. p.further j (omega arith) (omega arith)))
          ∙ sym (put_first s (f k) (listed f (suc k) n) (w.before k (omega arith) (omega arith)))
      go false x others =
          let other = eqb-false k i x in
          ap₂ ◌∷◌ (p.below k (omega (arith, other))) (others (omega (arith, other))) ∙ sym (put_later s (f k) (listed f (suc k) n) (w.behind k (omega (arith, other))))
