-- What stands where the code goes on: its premises are as the callees ensure them.
use Prim.Native.Nat.{ℕ, suc, ◌+◌, ◌-◌, ◌<◌, ◌≤◌}
use mathlib.Core.Path.{◌≡◌, sym, ◌∙◌}
use mathlib.Core.List.{List}
use native.Mathlib.Omega.{arith}
use lib.ListN.{length}
use Rattle.wire.specs.Bytes.{byte, end_of}
use Rattle.rules.specs.declared.Kind.{Kind}
use Rattle.rules.specs.declared.Kind.TheVariants.{Statement as StatementKind, Block as BlockKind, Branch}
use Rattle.places.specs.At.{StandsAs, Siblings}
use Rattle.places.proofs.Parts.{first_sibling}
use Rattle.places.proofs.Open.{level, header_within}
use Rattle.places.proofs.Statements.{assignment_opens, conditional_opens, choice_opens, branch_opens, block_opens}

pub has_level : {m : List ℕ} {d p : ℕ} {k : Kind} → StandsAs m d k p → d ≡ suc (d - 1)
has_level s = level s.stands

pub has_header : {m : List ℕ} {d p : ℕ} {k : Kind} → StandsAs m d k p → p + 3 ≤ length m
has_header s = header_within s.stands

-- where its header is read
pub header_at : {p n : ℕ} → p + 3 ≤ n → n ≤ 65535 → (p + 3 ≤ n) × (p < 4294967296)
header_at h l = (h, omega arith)

-- the name that a 21 assigns, and the header of what an if or a case tests
module _ {m : List ℕ} {d p t : ℕ} (s : StandsAs m d StatementKind p) (read : t ≡ byte m p) where
  pub name_within : t ≡ 0x21 → p + 3 + 2 ≤ length m
  name_within h = omega (arith, has_header (assignment_opens s.stands (has_level s) (sym read ∙ h)).value)

  pub condition_header : t ≡ 0x22 → p + 3 + 3 ≤ length m
  condition_header h = has_header (conditional_opens s.stands (has_level s) (sym read ∙ h)).condition

  pub scrutinee_header : t ≡ 0x23 → p + 3 + 3 ≤ length m
  scrutinee_header h = has_header (choice_opens s.stands (has_level s) (sym read ∙ h)).scrutinee

-- the two blocks of an if
pub if_blocks : {m : List ℕ} {d p t q : ℕ} → StandsAs m d StatementKind p → t ≡ byte m p → t ≡ 0x22 → q ≡ end_of m (p + 3) → StandsAs m (d - 1) BlockKind q × StandsAs m (d - 1) BlockKind (end_of m q)
if_blocks s read h l = let c = conditional_opens s.stands (has_level s) (sym read ∙ h) in rw l (c.if_true, c.if_false)

-- the branches of a case
pub case_branches : {m : List ℕ} {d p t q e : ℕ} → StandsAs m d StatementKind p → t ≡ byte m p → t ≡ 0x23 → q ≡ end_of m (p + 3) → e ≡ end_of m p → Siblings m (d - 1) Branch q e
case_branches s read h l k = rw (l, k) (choice_opens s.stands (has_level s) (sym read ∙ h)).branches

-- the statements of a block
pub block_statements : {m : List ℕ} {d p e : ℕ} → StandsAs m d BlockKind p → e ≡ end_of m p → Siblings m (d - 1) StatementKind (p + 3) e
block_statements s k = rw k (block_opens s (has_level s)).statements

-- a sibling, and those after it
module _ {m : List ℕ} {d q e : ℕ} {k : Kind} (s : Siblings m d k q e) (l : q < e) where
  pub sibling_here : StandsAs m d k q
  sibling_here = (first_sibling s l).here

  pub siblings_after : {n : ℕ} → n ≡ end_of m q → Siblings m d k n e
  siblings_after h = rw h (first_sibling s l).after

-- the block of a branch
pub branch_block : {m : List ℕ} {d q x : ℕ} → StandsAs m d Branch q → x ≡ end_of m (q + 3) → StandsAs m (d - 1) BlockKind x
branch_block s h = rw h (branch_opens s (has_level s)).block

-- it ends where the branch does
pub branch_ends : {m : List ℕ} {d q x n : ℕ} → StandsAs m d Branch q → x ≡ end_of m (q + 3) → n ≡ end_of m q → n ≡ end_of m x
branch_ends s h k = rw (h, k) (sym (branch_opens s (has_level s)).ends)

pub pattern_header : {m : List ℕ} {d q : ℕ} → StandsAs m d Branch q → q + 3 + 3 ≤ length m
pattern_header s = has_header (branch_opens s (has_level s)).pattern
