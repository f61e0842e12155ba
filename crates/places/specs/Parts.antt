-- The parts of an expression at p at their places, where it has d levels left and its parts have b; and the block that ends a definition.
use Rattle.std.specs.Prelude.{ℕ, ◌+◌, ◌<◌, ◌≤◌, ◌≡◌, List}
use Rattle.wire.specs.Bytes.{byte, two, end_of, fields_in}
use Rattle.rules.specs.Tree.{operation, negation, attribute_read, selector}
use Rattle.rules.specs.Read.{operator_from}
use Rattle.rules.specs.declared.Kind.TheVariants.{Expression as ExpressionKind, Arm, Block as BlockKind}
use Rattle.places.specs.At.{expression_at, arms_at, StandsAs, Siblings}

pub record OperationAt (m : List ℕ) (d b p : ℕ) : Type 0 where
  pub tree : expression_at m d p ≡ operation p (operator_from (byte m (p + 3))) (expression_at m b (p + 4)) (expression_at m b (end_of m (p + 4)))
  pub operator : byte m (p + 3) ≤ 6
  pub left : StandsAs m b ExpressionKind (p + 4)
  pub right : StandsAs m b ExpressionKind (end_of m (p + 4))
  pub ends : end_of m (end_of m (p + 4)) ≡ end_of m p

pub record NegationAt (m : List ℕ) (d b p : ℕ) : Type 0 where
  pub tree : expression_at m d p ≡ negation p (expression_at m b (p + 3))
  pub operand : StandsAs m b ExpressionKind (p + 3)
  pub ends : end_of m (p + 3) ≡ end_of m p

pub record AttributeReadAt (m : List ℕ) (d b p : ℕ) : Type 0 where
  pub tree : expression_at m d p ≡ attribute_read p (two m (p + 3)) (two m (p + 5)) (expression_at m b (p + 7))
  pub title : StandsAs m b ExpressionKind (p + 7)
  pub ends : end_of m (p + 7) ≡ end_of m p

pub record SelectorAt (m : List ℕ) (d b p : ℕ) : Type 0 where
  pub tree : expression_at m d p ≡ selector p (expression_at m b (p + 3)) (arms_at m b (fields_in m (end_of m (p + 3)) (end_of m p)))
  pub scrutinee : StandsAs m b ExpressionKind (p + 3)
  pub arms : Siblings m b Arm (end_of m (p + 3)) (end_of m p)
  pub some : end_of m (p + 3) < end_of m p

-- the block r ends the fields up to e
pub record BlockEnds (m : List ℕ) (d r e : ℕ) : Type 0 where
  pub before : r < e
  pub block : StandsAs m d BlockKind r
  pub ends : end_of m r ≡ e
