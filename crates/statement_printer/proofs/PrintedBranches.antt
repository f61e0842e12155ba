-- Branches: each is written when its parts are, and all are when each is, one after the other. Assumes nothing.
use Prim.Native.Nat.{ℕ, ◌+◌, ◌-◌, ◌≤◌, ◌<◌}
use mathlib.Core.Path.{◌≡◌, refl, sym, ap, ◌∙◌, subst}
use mathlib.Core.Bool.{Bool, true, false}
use mathlib.Core.List.{List, ◌∷◌}
use native.Mathlib.Omega.{arith}
use lib.Dec.{eqb}
use Rattle.wire.proofs.Fields.{no_fields, field_first}
use Rattle.rules.specs.Bytes.{pick, byte, end_of, fields_in}
use Rattle.rules.specs.Tree.{Block, Branches, branch, default_branch}
use Rattle.rules.specs.declared.Kind.TheVariants.{Branch}
use Rattle.places.specs.At.{constant_at, block_at, branch_at, branches_at, StandsAs, Siblings, ended, sibling}
use Rattle.places.proofs.Open.{level}
use Rattle.places.proofs.Statements.{BranchAt, branch_opens}
use Rattle.notation.specs.Tokens.{Lexeme}
use Rattle.notation.specs.Print.{Rest, the, constant_lexeme, in_braces, printed_branches}
use Rattle.token_writer.specs.declared.Pen.{Pen}
use Rattle.statement_printer.specs.Passing.{Going, Passes}
use Rattle.statement_printer.specs.Labels.{first_label}
use Rattle.statement_printer.specs.Patterns.{printed_pattern}
use Rattle.statement_printer.specs.Forms.{BranchPasses}
use Rattle.statement_printer.proofs.StatementLabels.{block_line}

-- ---- One branch

pub branch_here : {m : List ℕ} {d q : ℕ} → StandsAs m d Branch q → BranchAt m d (d - 1) q
branch_here s = branch_opens s (level s.stands)

module _ (S : ℕ → List ℕ) (m : List ℕ) (n q : ℕ) (s : StandsAs m n Branch q) where
  body : Block
  body = block_at m (n - 1) (end_of m (q + 3))

  -- what comes behind the pattern, which ends on the line v: a colon, and the block in braces
  behind : ℕ → Rest → List Lexeme
  behind v rest = the v 13 ∷ in_braces S body v rest

  behind_passes : {a b c : List ℕ} {pen u pen' : Pen} → Passes a b pen u (λ rest. the pen.line 13 ∷ rest pen.line) → Passes b c u pen' (in_braces S body u.line) → Passes a c pen pen' (behind pen.line)
  unfolding behind
  behind_passes colon block = record { goes = λ o w k g. block.goes o w k (colon.goes o w (λ n. in_braces S body n k) g) }

  -- a default stands on the line of the first constant in its block
  pattern_first : (after : Branches) (v : ℕ) (k : Rest) → printed_branches S (branch_at m n q after) v k ≡ printed_pattern S m (q + 3) v (λ u. behind u (λ x. printed_branches S after x k))
  unfolding printed_branches printed_pattern constant_at body behind
  pattern_first after v k = ap (λ (x : Branches). printed_branches S x v k) ((branch_here s).tree after) ∙ go (eqb (byte m (q + 3)) 0x1b)
    where
      follows : Rest
      follows u = behind u (λ x. printed_branches S after x k)

      first : ℕ
      first = first_label m (end_of m (q + 3)) (end_of m (end_of m (q + 3))) v

      go : (x : Bool) → printed_branches S (pick x (default_branch body after) (branch (constant_at m (q + 3)) body after)) v k ≡ pick x (the first 28 ∷ follows first) (constant_lexeme S (constant_at m (q + 3)) ∷ follows (byte m (q + 3 + 3)))
      go true = ap (λ (u : ℕ). the u 28 ∷ follows u) (sym (block_line m (n - 1) (end_of m (q + 3)) v (branch_here s).block))
      go false = refl

  pub branch_passes : {a b c d : List ℕ} {pen u v pen' : Pen} {z : ℕ}
      → z ≡ end_of m (q + 3) → Passes a b pen u (printed_pattern S m (q + 3) pen.line)
      → Passes b c u v (λ rest. the u.line 13 ∷ rest u.line) → Passes c d v pen' (in_braces S (block_at m (n - 1) z) v.line)
      → BranchPasses S m n q a d pen pen'
  unfolding body
  branch_passes {a} {c = c} {d = d} {pen = pen} {v = v} {pen' = pen'} ez pattern colon block =
      let inside = subst (λ (j : ℕ). Passes c d v pen' (in_braces S (block_at m (n - 1) j) v.line)) ez block in
      record {
        goes = λ after o w k g.
            (behind_passes colon inside).goes o w (λ j. printed_branches S after j k)
            (pattern.goes o w (λ u. behind u (λ j. printed_branches S after j k))
            (subst (λ (r : List Lexeme). Going o a pen w r) (pattern_first after pen.line k) g));
      }

-- ---- One branch after the other

-- of the branches from `first` to e, those from q on are still to be written
pub record BranchesTo (S : ℕ → List ℕ) (m : List ℕ) (d first e q : ℕ) (out₀ out : List ℕ) (pen₀ pen : Pen) : Type 0 where
  pub left : Siblings m d Branch q e
  pub goes : (o w : List ℕ) (k : Rest) → Going o out₀ pen₀ w (printed_branches S (branches_at m d (fields_in m first e)) pen₀.line k) → Going o out pen w (printed_branches S (branches_at m d (fields_in m q e)) pen.line k)

module _ (S : ℕ → List ℕ) (m : List ℕ) (d first e : ℕ) where
  pub no_branch_yet : {out : List ℕ} {pen : Pen} → Siblings m d Branch first e → BranchesTo S m d first e first out out pen pen
  no_branch_yet s = record { left = s; goes = λ o w k g. g }

  first_branch : {q : ℕ} → q < e → Siblings m d Branch q e → StandsAs m d Branch q × Siblings m d Branch (end_of m q) e
  first_branch l ended = absurd (omega arith)
  first_branch l (sibling before s r) = (s, r)

  pub branch_stands : {q : ℕ} {out₀ out : List ℕ} {pen₀ pen : Pen} → q < e → BranchesTo S m d first e q out₀ out pen₀ pen → StandsAs m d Branch q
  branch_stands l t = (first_branch l t.left).0

  pub one_branch : {q r : ℕ} {out₀ out out' : List ℕ} {pen₀ pen pen' : Pen} → q < e → BranchesTo S m d first e q out₀ out pen₀ pen → BranchPasses S m d q out out' pen pen' → r ≡ end_of m q → BranchesTo S m d first e r out₀ out' pen₀ pen'
  unfolding branches_at
  one_branch {q} {r} {out₀} {out} {out'} {pen₀} {pen} {pen'} l t p er =
      subst (λ (n : ℕ). BranchesTo S m d first e n out₀ out' pen₀ pen') (sym er)
      (record {
        left = (first_branch l t.left).1;
        goes = λ o w k g. p.goes (branches_at m d (fields_in m (end_of m q) e)) o w k (subst (λ (qs : List ℕ). Going o out pen w (printed_branches S (branches_at m d qs) pen.line k)) (field_first m q e l) (t.goes o w k g));
      })

  pub all_branches : {q : ℕ} {out₀ out : List ℕ} {pen₀ pen : Pen} → e ≤ q → BranchesTo S m d first e q out₀ out pen₀ pen → Passes out₀ out pen₀ pen (printed_branches S (branches_at m d (fields_in m first e)) pen₀.line)
  unfolding branches_at printed_branches
  all_branches {q} {out₀} {out} {pen₀} {pen} l t = record {
    goes = λ o w k g. subst (λ (qs : List ℕ). Going o out pen w (printed_branches S (branches_at m d qs) pen.line k)) (no_fields m q e l) (t.goes o w k g);
  }
