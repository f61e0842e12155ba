-- Arms: each is written when its parts are, and all are when each is, one after the other. Assumes nothing.
use Prim.Native.Nat.{ℕ, suc, ◌+◌, ◌≤◌, ◌<◌}
use mathlib.Core.Path.{◌≡◌, refl, sym, ap, ◌∙◌, subst}
use mathlib.Core.Bool.{Bool, true, false}
use mathlib.Core.List.{List, ◌∷◌}
use native.Mathlib.Omega.{arith}
use lib.Dec.{eqb}
use Rattle.wire.proofs.Fields.{no_fields, field_first}
use Rattle.rules.specs.Bytes.{pick, byte, end_of, fields_in}
use Rattle.rules.specs.Tree.{Expression, Arms, arm, default_arm}
use Rattle.rules.specs.declared.Kind.TheVariants.{Arm}
use Rattle.places.specs.At.{constant_at, expression_at, arm_at, arms_at, StandsAs, Siblings, ended, sibling}
use Rattle.places.proofs.Expressions.{ArmAt, arm_opens}
use Rattle.notation.specs.Tokens.{Lexeme}
use Rattle.notation.specs.Print.{Rest, the, separated, constant_lexeme, printed, printed_arms}
use Rattle.token_writer.specs.declared.Pen.{Pen}
use Rattle.statement_printer.specs.Passing.{Going, Passes}
use Rattle.statement_printer.specs.Labels.{first_label}
use Rattle.statement_printer.specs.Patterns.{printed_pattern}
use Rattle.statement_printer.specs.Forms.{ArmPasses}
use Rattle.statement_printer.proofs.FirstLabel.{expression_line}
use Rattle.statement_printer.proofs.PrintedExpressions.{operand_at}

-- ---- One arm

pub arm_here : {m : List ℕ} {i q : ℕ} → StandsAs m (i + 1) Arm q → ArmAt m (i + 1) i q
arm_here {i = i} s = let above : i + 1 ≡ suc i = omega arith in arm_opens s above

module _ (S : ℕ → List ℕ) (m : List ℕ) (i q : ℕ) (later : Bool) (s : StandsAs m (i + 1) Arm q) where
  body : Expression
  body = expression_at m i (end_of m (q + 3))

  -- a default stands on the line of the first constant in its expression
  pattern_first : (after : Arms) (v : ℕ) (k : Rest) → printed_arms S (arm_at m (i + 1) q after) later v k ≡ separated later v (printed_pattern S m (q + 3) v (λ u. the u 15 ∷ printed S body 1 u (λ x. printed_arms S after true x k)))
  unfolding printed_arms printed_pattern constant_at body
  pattern_first after v k = ap (λ (x : Arms). printed_arms S x later v k) ((arm_here s).tree after) ∙ go (eqb (byte m (q + 3)) 0x1b)
    where
      follows : Rest
      follows u = the u 15 ∷ printed S body 1 u (λ x. printed_arms S after true x k)

      first : ℕ
      first = first_label m (end_of m (q + 3)) (end_of m (end_of m (q + 3))) v

      go : (x : Bool) → printed_arms S (pick x (default_arm body after) (arm (constant_at m (q + 3)) body after)) later v k ≡ separated later v (pick x (the first 28 ∷ follows first) (constant_lexeme S (constant_at m (q + 3)) ∷ follows (byte m (q + 3 + 3))))
      go true = ap (λ (u : ℕ). separated later v (the u 28 ∷ follows u)) (sym (expression_line m i (end_of m (q + 3)) v (arm_here s).expression))
      go false = refl

  pub arm_passes : {a b c d e : List ℕ} {pen u v x pen' : Pen} {z : ℕ}
      → z ≡ end_of m (q + 3) → Passes a b pen u (λ rest. separated later pen.line (rest pen.line))
      → Passes b c u v (printed_pattern S m (q + 3) u.line) → Passes c d v x (λ rest. the v.line 15 ∷ rest v.line) → Passes d e x pen' (printed S (expression_at m i z) 1 x.line)
      → ArmPasses S m (i + 1) q later a e pen pen'
  unfolding body
  arm_passes {a} {pen = pen} {x = x} ez comma pattern sign expression = record {
    goes = λ after o w k g.
        let follows : Rest = (λ n. printed_arms S after true n k) in
        (operand_at S m i 1 x.line ez expression).goes o w follows
        (sign.goes o w (λ n. printed S body 1 n follows)
        (pattern.goes o w (λ n. the n 15 ∷ printed S body 1 n follows)
        (comma.goes o w (λ n. printed_pattern S m (q + 3) n (λ j. the j 15 ∷ printed S body 1 j follows))
        (subst (λ (r : List Lexeme). Going o a pen w r) (pattern_first after pen.line k) g))));
  }

-- ---- One arm after the other

-- of the arms from `first` to e, those from q on are still to be written
pub record ArmsTo (S : ℕ → List ℕ) (m : List ℕ) (d first e q : ℕ) (later : Bool) (out₀ out : List ℕ) (pen₀ pen : Pen) : Type 0 where
  pub left : Siblings m d Arm q e
  pub goes : (o w : List ℕ) (k : Rest) → Going o out₀ pen₀ w (printed_arms S (arms_at m d (fields_in m first e)) false pen₀.line k) → Going o out pen w (printed_arms S (arms_at m d (fields_in m q e)) later pen.line k)

module _ (S : ℕ → List ℕ) (m : List ℕ) (d first e : ℕ) where
  pub no_arm_yet : {out : List ℕ} {pen : Pen} → Siblings m d Arm first e → ArmsTo S m d first e first false out out pen pen
  no_arm_yet s = record { left = s; goes = λ o w k g. g }

  -- there is an arm
  first_arm : {q : ℕ} → q < e → Siblings m d Arm q e → StandsAs m d Arm q × Siblings m d Arm (end_of m q) e
  first_arm l ended = absurd (omega arith)
  first_arm l (sibling before s r) = (s, r)

  pub arm_stands_lem : {q : ℕ} {later : Bool} {out₀ out : List ℕ} {pen₀ pen : Pen} → q < e → ArmsTo S m d first e q later out₀ out pen₀ pen → StandsAs m d Arm q
  arm_stands_lem l t = (first_arm l t.left).0

  pub one_arm : {q r : ℕ} {later : Bool} {out₀ out out' : List ℕ} {pen₀ pen pen' : Pen} → q < e → ArmsTo S m d first e q later out₀ out pen₀ pen → ArmPasses S m d q later out out' pen pen' → r ≡ end_of m q → ArmsTo S m d first e r true out₀ out' pen₀ pen'
  unfolding arms_at
  one_arm {q} {r} {later} {out₀} {out} {out'} {pen₀} {pen} {pen'} l t p er =
      subst (λ (n : ℕ). ArmsTo S m d first e n true out₀ out' pen₀ pen') (sym er)
      (record {
        left = (first_arm l t.left).1;
        goes = λ o w k g. p.goes (arms_at m d (fields_in m (end_of m q) e)) o w k (subst (λ (qs : List ℕ). Going o out pen w (printed_arms S (arms_at m d qs) later pen.line k)) (field_first m q e l) (t.goes o w k g));
      })

  pub all_arms : {q : ℕ} {later : Bool} {out₀ out : List ℕ} {pen₀ pen : Pen} → e ≤ q → ArmsTo S m d first e q later out₀ out pen₀ pen → Passes out₀ out pen₀ pen (printed_arms S (arms_at m d (fields_in m first e)) false pen₀.line)
  unfolding arms_at printed_arms
  all_arms {q} {later} {out₀} {out} {pen₀} {pen} l t = record {
    goes = λ o w k g. subst (λ (qs : List ℕ). Going o out pen w (printed_arms S (arms_at m d qs) later pen.line k)) (no_fields m q e l) (t.goes o w k g);
  }
