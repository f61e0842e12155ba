-- Steps along the fields of m from p towards e: what one step gives, and where it leaves what is walked, the place and the end.
use Rattle.std.specs.Prelude.{ℕ, List, [], ◌∷◌, ◌≡◌, ◌<◌, ◌≤◌, Option, MatchOption}
use Rattle.wire.specs.Bytes.{end_of, fields_in}

-- before the end: the field at p, and then those from its end on
pub record Passed (m : List ℕ) (p e x : ℕ) (n : List ℕ) (q f : ℕ) : Type 0 where
  pub before : p < e
  pub place : x ≡ p
  pub next : q ≡ end_of m p
  pub bytes : n ≡ m
  pub end : f ≡ e
  pub left : fields_in m p e ≡ x ∷ fields_in n q f

-- at the end: no field
pub record Ended (m : List ℕ) (p e : ℕ) (n : List ℕ) (q f : ℕ) : Type 0 where
  pub past : e ≤ p
  pub place : q ≡ p
  pub bytes : n ≡ m
  pub end : f ≡ e
  pub left : fields_in m p e ≡ []

abbrev pub Steps : List ℕ → ℕ → ℕ → Option ℕ → List ℕ → ℕ → ℕ → Type 0
Steps m p e r n q f = MatchOption r (Ended m p e n q f) (λ x. Passed m p e x n q f)
