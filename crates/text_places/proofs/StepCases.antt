-- What holds of every step holds by the row that takes the token, and by each symbol that is left out before it. Assumes nothing.
use Prim.Native.Nat.{ℕ}
use mathlib.Core.Path.{◌≡◌, refl, subst}
use mathlib.Core.List.{List, [], ◌∷◌, ◌++◌}
use mathlib.Core.Option.{Option, none, some}
use native.Mathlib.Omega.{arith}
use Rattle.notation.specs.Tokens.{Lexeme, kind, token_of}
use Rattle.notation.specs.Building.{Build, Action, acts}
use Rattle.notation.specs.Grammar.{Symbol, Row, row, row_of, left_out, Stepped, stuck, to, toward, step}
use Rattle.rules.specs.Types.{Types}

stuck_not_to : {A : Type 0} {k : List Symbol} {g : Build} → stuck ≡ to k g → A
stuck_not_to e = let z : ◌≡◌ {A = ℕ} 0 1 = cc in absurd (omega arith)

module _ (types : Types) (x : Lexeme) (k' : List Symbol) (g : Build) (P : List Symbol → Build → Type 0)
    (taken : (s : Symbol) (k : List Symbol) (f : Build) (ds : List Action) (ss : List Symbol) → row_of s (kind (token_of x)) ≡ some (row ds ss) → acts types ds x f ≡ some g → ss ++ k ≡ k' → P (s ∷ k) f)
    (left : (s : Symbol) (k : List Symbol) (f : Build) (ds : List Action) (i : Build) → left_out s ≡ some ds → acts types ds x f ≡ some i → step types k x i ≡ to k' g → P k i → P (s ∷ k) f) where
  pub by_step : (k : List Symbol) (f : Build) → step types k x f ≡ to k' g → P k f
  unfolding step
  by_step [] f e = stuck_not_to e
  by_step (s ∷ k) f e = by_row (by_step k) (row_of s (kind (token_of x))) refl e
    where
      by_taken : (ds : List Action) (ss : List Symbol) → row_of s (kind (token_of x)) ≡ some (row ds ss) → (o : Option Build) → acts types ds x f ≡ o → toward (ss ++ k) o ≡ to k' g → P (s ∷ k) f
      by_taken ds ss r none j q = stuck_not_to q
      by_taken ds ss r (some i) j q =
          let same_symbols : ss ++ k ≡ k' = cc in
          let same_build : i ≡ g = cc in
          taken s k f ds ss r (subst (λ (h : Build). acts types ds x f ≡ some h) same_build j) same_symbols

      by_left : ((i : Build) → step types k x i ≡ to k' g → P k i) → (ds : List Action) → left_out s ≡ some ds → (o : Option Build) → acts types ds x f ≡ o → ◌≡◌ {A = Stepped} (elim o as (λ o. Stepped) [ none ↦ stuck | some i ↦ step types k x i ]) (to k' g) → P (s ∷ k) f
      by_left later ds l none j q = stuck_not_to q
      by_left later ds l (some i) j q = left s k f ds i l j q (later i q)

      by_out : ((i : Build) → step types k x i ≡ to k' g → P k i) → (o : Option (List Action)) → left_out s ≡ o → ◌≡◌ {A = Stepped} (elim o as (λ o. Stepped) [ none ↦ stuck | some ds ↦ elim (acts types ds x f) as (λ o. Stepped) [ none ↦ stuck | some i ↦ step types k x i ] ]) (to k' g) → P (s ∷ k) f
      by_out later none l q = stuck_not_to q
      by_out later (some ds) l q = by_left later ds l (acts types ds x f) refl q

      by_row : ((i : Build) → step types k x i ≡ to k' g → P k i) → (o : Option Row) → row_of s (kind (token_of x)) ≡ o → ◌≡◌ {A = Stepped} (elim o as (λ o. Stepped) [
        | some r ↦ elim r as (λ o. Stepped) [ row ds ss ↦ toward (ss ++ k) (acts types ds x f) ]
        | none ↦ elim (left_out s) as (λ o. Stepped) [ none ↦ stuck | some ds ↦ elim (acts types ds x f) as (λ o. Stepped) [ none ↦ stuck | some i ↦ step types k x i ] ]
      ]) (to k' g) → P (s ∷ k) f
      by_row later none r q = by_out later (left_out s) refl q
      by_row later (some (row ds ss)) r q = by_taken ds ss r (acts types ds x f) refl q
