-- The walk along fields, `wire::fields_in`: what it has left, how a step moves it, and what a whole walk gives.
use Rattle.std.proofs.Common.{◌≡◌, refl, sym, ap, subst, ◌∙◌, ℕ, ◌<◌, ◌≤◌, List, ◌∷◌, length, Option, arith}
use Rattle.std.proofs.lemmas.Iterator.{YieldsList}
use Rattle.std.proofs.lemmas.Iterator.Consumers.{YieldsList-from_shown}
use Rattle.wire.specs.Bytes.{end_of, fields_in}
use Rattle.wire.specs.Walks.{Passed, Ended, Steps}
use Rattle.wire.specs.declared.walking.Walk.{Walk}
use Rattle.wire.proofs.Fields.{field_first, no_fields}

-- a step before the end, and one at it
pub passed : (m : List ℕ) (p e q : ℕ) → p < e → q ≡ end_of m p → Passed m p e p m q e
passed m p e q before next = record {
  before = before;
  place = refl;
  next = next;
  bytes = refl;
  end = refl;
  left = field_first m p e before ∙ ap (λ (x : ℕ). p ∷ fields_in m x e) (sym next);
}

pub ended : (m : List ℕ) (p e : ℕ) → e ≤ p → Ended m p e m p e
ended m p e past = record {
  past = past;
  place = refl;
  bytes = refl;
  end = refl;
  left = no_fields m p e past;
}

-- how a walk steps, and the fields that it has left
abbrev pub steps : Walk → Option ℕ → Walk → Type 0
steps s r t = Steps s.bytes.now s.at s.end r t.bytes.now t.at t.end

abbrev pub left : Walk → List ℕ
left s = fields_in s.bytes.now s.at s.end

-- for the chains: a walk gives the fields that it has left
pub YieldsList-from_walk : {s : Walk} (xs : List ℕ) → left s ≡ xs → YieldsList steps (λ x. x) s xs
YieldsList-from_walk {s} xs e = subst (YieldsList steps (λ x. x) s) e (YieldsList-from_shown steps (λ x. x) left (λ t u h. ap length h.left) (λ t x u h. h.left) s)

-- ---- For a loop whose invariant speaks of the place to which the walk has come

-- what a walk along m to e walks, and its end
pub record Along (m : List ℕ) (e : ℕ) (n : List ℕ) (f : ℕ) : Type 0 where
  pub bytes : n ≡ m
  pub end : f ≡ e

-- a step along m to e, from the field at x to the place q
pub record Step (m : List ℕ) (e x q : ℕ) : Type 0 where
  pub before : x < e
  pub next : q ≡ end_of m x

module _ {m n k : List ℕ} {e p f x q g : ℕ} (so : Along m e n f) (h : Passed n p f x k q g) where
  -- it gives the field at the place to which it had come
  pub here : p ≡ x
  here = sym h.place

  pub step_of : Step m e x q
  step_of =
      let next : q ≡ end_of m x = h.next ∙ ap (λ (w : List ℕ). end_of w p) so.bytes ∙ ap (end_of m) here in
      record {
        before = omega arith;
        next = next;
      }

  -- and goes on along them
  pub along : Along m e k g
  along = record {
    bytes = h.bytes ∙ so.bytes;
    end = h.end ∙ so.end;
  }

-- where it ends, the place to which it had come is past the end
pub over_end : {m n k : List ℕ} {e p f q g : ℕ} → Along m e n f → Ended n p f k q g → e ≤ p
over_end so h = omega arith
