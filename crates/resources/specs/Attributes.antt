-- The attributes of a resource, evaluated and appended one after the other to the entry in the making.
use Rattle.std.specs.Prelude.{ℕ, ◌+◌, ◌≡◌, List, [], ◌∷◌, length, take, drop, Result, Ok, Err}
use Rattle.labels.specs.declared.Labels.{Labels}
use Rattle.values.specs.declared.Refusal.{Refusal}
use Rattle.values.specs.declared.Labelled.{Labelled}
use Rattle.wire.specs.Bytes.{two, fields_in}
use Rattle.rules.specs.Outcome.{done, under}
use Rattle.rules.specs.State.{Attribute}
use Rattle.rules.specs.Evaluate.{evaluate}
use Rattle.rules.specs.Run.{Given, evaluate_all}
use Rattle.rules.specs.declared.Kind.TheVariants.{Expression as ExpressionKind, Attribute as AttributeKind}
use Rattle.rules.specs.Ranges.{Each, FitsAttribute}
use Rattle.places.specs.At.{expression_at, attributes_at, StandsAs, Siblings}
use Rattle.catalog.specs.Making.{stored, attribute, add_attribute, Holding}
use Rattle.memory.specs.declared.Scope.{Scope}
use Rattle.evaluator.specs.Answers.{refused_by}
use Rattle.evaluator.specs.Known.{Tells}

-- ---- What stands in the entry: `outer` is path and trail, `own` the set of the resource

abbrev pub under_both : (outer own : Labels) → Labelled → Labelled
under_both outer own x = under own (under outer x)

unfoldable pub attributes_for : (outer own : Labels) → List Given → List Attribute
attributes_for outer own [] = []
attributes_for outer own (g ∷ gs) = attribute g.name (under_both outer own g.content) ∷ attributes_for outer own gs

-- the catalog so far is as it was, and the output as long
pub record Kept (out out' : List ℕ) (fill : ℕ) : Type 0 where
  pub front : take fill out' ≡ take fill out
  pub long : length out' ≡ length out

-- the attribute a was appended after `size` bytes of the entry, if it fits: then they are n
pub record Appended (out out' : List ℕ) (fill size n : ℕ) (a : Attribute) : Type 0 where
  pub rest : stored n (drop fill out') ≡ add_attribute (drop fill out) size a
  pub kept : Kept out out' fill
  pub fits : FitsAttribute a

-- ---- One attribute: the answer for the 26 at q, whose expression has d levels

pub data Added (m w out out' : List ℕ) (fill size : ℕ) (scope : Scope) (d q : ℕ) (outer own : Labels) : Result ℕ Refusal → Type 0 where
  not_added : {why : Refusal} → out' ≡ out
      → (StandsAs m d ExpressionKind (q + 5) → Tells m w out fill scope (refused_by why) (λ k c st. evaluate k c st (expression_at m d (q + 5))))
      → Added m w out out' fill size scope d q outer own (Err why)
  added : {n : ℕ} (x : Labelled) → Appended out out' fill size n (attribute (two m (q + 3)) (under_both outer own x))
      → (StandsAs m d ExpressionKind (q + 5) → Tells m w out fill scope (done x) (λ k c st. evaluate k c st (expression_at m d (q + 5))))
      → Added m w out out' fill size scope d q outer own (Ok n)

-- ---- All of them

-- the 26s from `first` to `end`, with d levels, were evaluated and appended: the size of the entry so far, or the first refusal
pub data Gathered (m w out out' : List ℕ) (fill : ℕ) (scope : Scope) (d first end : ℕ) (outer own : Labels) : Result ℕ Refusal → Type 0 where
  not_gathered : {why : Refusal} → Kept out out' fill
      → (Siblings m d AttributeKind first end → Tells m w out fill scope (refused_by why) (λ k c st. evaluate_all k c st (attributes_at m d (fields_in m first end))))
      → Gathered m w out out' fill scope d first end outer own (Err why)
  gathered : {size : ℕ} (gs : List Given) → Kept out out' fill → Holding (drop fill out') size (attributes_for outer own gs) → Each FitsAttribute (attributes_for outer own gs)
      → (Siblings m d AttributeKind first end → Tells m w out fill scope (done gs) (λ k c st. evaluate_all k c st (attributes_at m d (fields_in m first end))))
      → Gathered m w out out' fill scope d first end outer own (Ok size)
