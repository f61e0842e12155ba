-- The machine: what a step is in each case, and that reading by the next token finds a reading of the grammar.
use Prim.Native.Nat.{ℕ, ◌+◌}
use mathlib.Core.Path.{◌≡◌, refl, sym, ◌∙◌, subst}
use mathlib.Core.List.{List, [], ◌∷◌, ◌++◌}
use mathlib.Core.Option.{Option, none, some}
use native.Mathlib.Omega.{arith}
use Rattle.notation.specs.Tokens.{Lexeme, kind, token_of, place_of}
use Rattle.notation.specs.Building.{Build, Action, acts}
use Rattle.notation.specs.Grammar.{Symbol, Row, row, row_of, left_out, Reads, done, takes, leaves, Stepped, stuck, to, toward, step, Ended, built, fault, run}
use Rattle.rules.specs.Types.{Types}

-- ---- A step in each case

module _ (types : Types) (s : Symbol) (k : List Symbol) (x : Lexeme) (f : Build) where
  pub step_takes : {ds : List Action} {ss : List Symbol} → row_of s (kind (token_of x)) ≡ some (row ds ss) → step types (s ∷ k) x f ≡ toward (ss ++ k) (acts types ds x f)
  unfolding step
  step_takes h = rw (step, h)

  pub step_leaves : {ds : List Action} {g : Build} → row_of s (kind (token_of x)) ≡ none → left_out s ≡ some ds → acts types ds x f ≡ some g → step types (s ∷ k) x f ≡ step types k x g
  unfolding step
  step_leaves h i j = rw (step, h, i, j)

  step_needed : row_of s (kind (token_of x)) ≡ none → left_out s ≡ none → step types (s ∷ k) x f ≡ stuck
  unfolding step
  step_needed h i = rw (step, h, i)

  step_fails : {ds : List Action} → row_of s (kind (token_of x)) ≡ none → left_out s ≡ some ds → acts types ds x f ≡ none → step types (s ∷ k) x f ≡ stuck
  unfolding step
  step_fails h i j = rw (step, h, i, j)

-- ---- What is read is a reading

module _ (types : Types) (x : Lexeme) (xs : List Lexeme) (k' : List Symbol) (f' g : Build) (r : Reads types k' xs f' g) where
  step_sound : (k : List Symbol) (f : Build) → step types k x f ≡ to k' f' → Reads types k (x ∷ xs) f g
  unfolding step
  step_sound [] f e = absurd (let z : ◌≡◌ {A = ℕ} 0 1 = cc in omega arith)
  step_sound (s ∷ k) f e = by_row (step_sound k) (row_of s (kind (token_of x))) refl
    where
      by_taken : (ds : List Action) (ss : List Symbol) → row_of s (kind (token_of x)) ≡ some (row ds ss) → (o : Option Build) → acts types ds x f ≡ o → toward (ss ++ k) o ≡ to k' f' → Reads types (s ∷ k) (x ∷ xs) f g
      by_taken ds ss h none j q = absurd (let z : ◌≡◌ {A = ℕ} 0 1 = cc in omega arith)
      by_taken ds ss h (some i) j q =
          let same_symbols : k' ≡ ss ++ k = cc in
          let same_build : f' ≡ i = cc in
          takes h j (rw same_symbols at (rw same_build at r))

      by_left : ((h : Build) → step types k x h ≡ to k' f' → Reads types k (x ∷ xs) h g) → row_of s (kind (token_of x)) ≡ none → (ds : List Action) → left_out s ≡ some ds → (o : Option Build) → acts types ds x f ≡ o → Reads types (s ∷ k) (x ∷ xs) f g
      by_left later h ds i none j = absurd (let q = step_fails types s k x f h i j in let z : ◌≡◌ {A = ℕ} 0 1 = cc in omega arith)
      by_left later h ds i (some f'') j = leaves i j (later f'' (sym (step_leaves types s k x f h i j) ∙ e))

      by_out : ((h : Build) → step types k x h ≡ to k' f' → Reads types k (x ∷ xs) h g) → row_of s (kind (token_of x)) ≡ none → (o : Option (List Action)) → left_out s ≡ o → Reads types (s ∷ k) (x ∷ xs) f g
      by_out later h none i = absurd (let q = step_needed types s k x f h i in let z : ◌≡◌ {A = ℕ} 0 1 = cc in omega arith)
      by_out later h (some ds) i = by_left later h ds i (acts types ds x f) refl

      by_row : ((h : Build) → step types k x h ≡ to k' f' → Reads types k (x ∷ xs) h g) → (o : Option Row) → row_of s (kind (token_of x)) ≡ o → Reads types (s ∷ k) (x ∷ xs) f g
      by_row later none h = by_out later h (left_out s) refl
      by_row later (some (row ds ss)) h = by_taken ds ss h (acts types ds x f) refl (sym (step_takes types s k x f h) ∙ e)

pub sound : (types : Types) (xs : List Lexeme) (k : List Symbol) (f g : Build) → run types xs k f ≡ built g → Reads types k xs f g
unfolding run
sound types [] [] f g e = subst (λ (h : Build). Reads types [] [] f h) (let same : f ≡ g = cc in same) done
sound types [] (s ∷ k) f g e = absurd (let z : ◌≡◌ {A = ℕ} 0 1 = cc in omega arith)
sound types (x ∷ xs) k f g e = go (sound types xs) (step types k x f) refl e
  where
    go : ((k : List Symbol) (f g : Build) → run types xs k f ≡ built g → Reads types k xs f g) → (o : Stepped) → step types k x f ≡ o → ◌≡◌ {A = Ended} (elim o as (λ q. Ended) [ stuck ↦ fault (place_of x) | to k' h ↦ run types xs k' h ]) (built g) → Reads types k (x ∷ xs) f g
    go later stuck h q = absurd (let z : ◌≡◌ {A = ℕ} 0 1 = cc in omega arith)
    go later (to k' f') h q = step_sound types x xs k' f' g (later k' f' g q) k f h

-- ---- A run goes on: from one state to another that ends alike

pub data State : Type 0 where
  state : Types → List Lexeme → List Symbol → Build → State

abbrev pub ending : State → Ended
ending (state types xs k f) = run types xs k f

pub record ◌⇒◌ (s t : State) : Type 0 where
  pub alike : ending s ≡ ending t

infix 20 ◌⇒◌
infixr 10 ◌▹◌
pub ◌▹◌ : {s t u : State} → s ⇒ t → t ⇒ u → s ⇒ u
a ▹ b = record { alike = a.alike ∙ b.alike }

pub stay : {s : State} → s ⇒ s
stay = record { alike = refl }

module _ (types : Types) {s : Symbol} {k : List Symbol} {x : Lexeme} {xs : List Lexeme} {f : Build} where
  -- a token is taken; a symbol is left out
  pub take : {ds : List Action} {ss : List Symbol} {g : Build} → row_of s (kind (token_of x)) ≡ some (row ds ss) → acts types ds x f ≡ some g → state types (x ∷ xs) (s ∷ k) f ⇒ (state types) xs (ss ++ k) g
  unfolding run
  take h i = record { alike = rw (run, step_takes types s k x f h, i) }

  pub leave : {ds : List Action} {g : Build} → row_of s (kind (token_of x)) ≡ none → left_out s ≡ some ds → acts types ds x f ≡ some g → state types (x ∷ xs) (s ∷ k) f ⇒ (state types) (x ∷ xs) k g
  unfolding run
  leave h i j = record { alike = rw (run, step_leaves types s k x f h i j) }

  -- two symbols that do the same with the token
  pub swap : {y : Symbol} {ds : List Action} {ss : List Symbol} → row_of s (kind (token_of x)) ≡ some (row ds ss) → row_of y (kind (token_of x)) ≡ some (row ds ss) → state types (x ∷ xs) (s ∷ k) f ⇒ (state types) (x ∷ xs) (y ∷ k) f
  unfolding run
  swap {y} h i = record { alike = rw (run, step_takes types s k x f h, step_takes types y k x f i) }
