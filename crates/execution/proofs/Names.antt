-- The names in a field that stands soundly are below 1,024: the manifest's names are known, and it has at most 1,024 strings.
use Prim.Native.Nat.{ℕ, zero, suc, ◌+◌, ◌-◌, ◌<◌, ◌≤◌}
use mathlib.Core.Path.{◌≡◌, refl, sym, subst}
use mathlib.Core.Bool.{Bool, true, false, ◌||◌}
use mathlib.Core.List.{List}
use native.Mathlib.Omega.{arith}
use lib.ListN.{length}
use borrow.Author.Tests.{eqb-true}
use Rattle.wire.specs.Bytes.{byte, two, end_of, fields_in}
use Rattle.rules.specs.Format.{allowed, forms, form_in, form_of, size, head_size}
use Rattle.rules.specs.Check.{string_places}
use Rattle.rules.specs.declared.Kind.TheVariants.{Statement as StatementKind, Block as BlockKind, Branch}
use Rattle.rules.specs.declared.Parts.{Parts}
use Rattle.rules.specs.declared.Piece.TheVariants.{Name}
use Rattle.places.specs.At.{statement_at, block_at, branches_at, statements_at, Stands, StandsAs, Siblings, ended, sibling}
use Rattle.places.proofs.Tags.{IsStatementTag, assignment_tag, conditional_tag, choice_tag, resource_tag, defined_tag, class_tag, include_tag, statement_tag_lem}
use Rattle.places.proofs.Open.{Line, header_within}
use Rattle.places.proofs.Statements.{conditional_opens, choice_opens, branch_opens}
use Rattle.syntax.proofs.NamesKnown.{known_after}
use Rattle.branches.specs.Texts.{Text, text_of, text_in, text_any, plain, named, both, Small}
use Rattle.branches.proofs.Standing.{has_level, block_statements}
use Rattle.branches.proofs.Texts.{assignment_text, conditional_text, choice_text, defined_text, class_text, include_text, other_text, block_text, statements_text, no_statement_text, branches_text, no_branch_text, small_same}
use Rattle.statements.specs.Cases.{BranchBlock, block_here, block_later}
use Rattle.declarations.specs.Standing.{NamesKnown}
use Rattle.declarations.proofs.Standing.{inside_known, name_small as begins-small}

-- ---- Where names are known

module _ {m : List ℕ} where
  -- from the first of the fields in a field
  pub known_in : {d p t h : ℕ} {ps : Parts} → Stands m d p → byte m p ≡ t → Line t h ps → NamesKnown m p → NamesKnown m (p + 3 + h)
  known_in {p = p} {t = t} {h = h} {ps = ps} s e line k = let within = header_within s in inside_known t h ps e line.rest line.head (omega arith) k

  -- after a field
  pub known_past : {d p n : ℕ} → Stands m d p → n ≡ end_of m p → NamesKnown m p → NamesKnown m n
  known_past {d} {p} s h k = rw h (known_after m (length (string_places m)) (length m) d p s.sound s.ends k)

  -- the name that a field begins with
  pub name_small : {d p t : ℕ} → Stands m d p → byte m p ≡ t → (form_of t).one ≡ Name → length (string_places m) ≤ 1024 → NamesKnown m p → two m (p + 3) < 1024
  name_small {p = p} {t = t} s e name few k = let within = header_within s in begins-small few p t e name (omega arith) k

  -- the blocks of a condition

  pub known_condition : {d p : ℕ} → StandsAs m d StatementKind p → byte m p ≡ 0x22 → NamesKnown m p → NamesKnown m (end_of m (p + 3)) × NamesKnown m (end_of m (end_of m (p + 3)))
  unfolding form_of form_in forms head_size size
  known_condition {p = p} s e k =
      let o = conditional_opens s.stands (has_level s) e in
      let inner : NamesKnown m (p + 3 + 0) = known_in {h = 0} s.stands e (record { head = refl; rest = refl }) k in
      let same : p + 3 + 0 ≡ p + 3 = omega arith in
      let first = known_past o.condition.stands refl (subst (NamesKnown m) same inner) in
      (first, known_past o.if_true.stands refl first)

  pub known_branches : {d p : ℕ} → StandsAs m d StatementKind p → byte m p ≡ 0x23 → NamesKnown m p → NamesKnown m (end_of m (p + 3))
  unfolding form_of form_in forms head_size size
  known_branches {p = p} s e k =
      let o = choice_opens s.stands (has_level s) e in
      let inner : NamesKnown m (p + 3 + 0) = known_in {h = 0} s.stands e (record { head = refl; rest = refl }) k in
      let same : p + 3 + 0 ≡ p + 3 = omega arith in
      known_past o.scrutinee.stands refl (subst (NamesKnown m) same inner)

  known_branch : {d q : ℕ} → StandsAs m d Branch q → NamesKnown m q → NamesKnown m (end_of m (q + 3))
  unfolding allowed form_of form_in forms head_size size
  known_branch {q = q} s k =
      let o = branch_opens s (has_level s) in
      let inner : NamesKnown m (q + 3 + 0) = known_in {h = 0} s.stands (eqb-true (byte m q) 0x24 s.kind) (record { head = refl; rest = refl }) k in
      let same : q + 3 + 0 ≡ q + 3 = omega arith in
      known_past o.pattern.stands refl (subst (NamesKnown m) same inner)

  -- the block of one of the branches
  pub known_chosen : {d f e q : ℕ} → Siblings m d Branch f e → NamesKnown m f → BranchBlock m e q f → NamesKnown m q
  known_chosen ended k (block_here l h) = absurd (omega arith)
  known_chosen ended k (block_later l b) = absurd (omega arith)
  known_chosen (sibling l s i) k (block_here x h) = rw h (known_branch s k)
  known_chosen (sibling l s i) k (block_later x b) = known_chosen i (known_past s.stands refl k) b

-- ---- The names that a statement assigns

small_both : (a b : Text) → Small a → Small b → Small (both a b)
unfolding both
small_both a b x y = record { each = λ n h. go n (a.assigns n) refl h }
  where
    go : (n : ℕ) (t : Bool) → a.assigns n ≡ t → (t || b.assigns n) ≡ true → n < 1024
    go n true e h = x.each n e
    go n false e h = y.each n h

small_none : {t : Text} (d : Bool) → t ≡ plain d → Small t
small_none d e = rw e (record { each = λ n h. let z : ◌≡◌ {A = ℕ} 0 1 = cc in absurd (omega arith) })

small_single : {n : ℕ} {t : Text} → n < 1024 → t ≡ named n → Small t
small_single {n} l e = rw e (record { each = λ x h. let same : x ≡ n = eqb-true x n h in omega arith })

abbrev SmallAt : List ℕ → ℕ → Type 0
SmallAt m d = (p : ℕ) → StandsAs m d StatementKind p → NamesKnown m p → Small (text_of (statement_at m d p))

abbrev SmallBlockAt : List ℕ → ℕ → Type 0
SmallBlockAt m d = (p : ℕ) → StandsAs m d BlockKind p → NamesKnown m p → Small (text_in (block_at m d p))

module _ {m : List ℕ} (few : length (string_places m) ≤ 1024) where
  small_statements : {d q e : ℕ} → SmallAt m d → Siblings m d StatementKind q e → NamesKnown m q → Small (text_in (statements_at m d (fields_in m q e)))
  small_statements here ended k = small_none false (no_statement_text ended (omega arith))
  small_statements {q = q} here (sibling l s i) k = small_same (small_both _ _ (here q s k) (small_statements here i (known_past s.stands refl k))) (sym (statements_text (sibling l s i) l refl))

  small_block : (d : ℕ) → ((e : ℕ) → e < d → SmallAt m e) → SmallBlockAt m d
  unfolding allowed form_of form_in forms head_size size
  small_block d below p s k =
      let lower = has_level s in
      let inner : NamesKnown m (p + 3 + 0) = known_in {h = 0} s.stands (eqb-true (byte m p) 0x20 s.kind) (record { head = refl; rest = refl }) k in
      let same : p + 3 + 0 ≡ p + 3 = omega arith in
      small_same (small_statements (below (d - 1) (omega arith)) (block_statements s refl) (subst (NamesKnown m) same inner)) (sym (block_text s refl))

  small_branches : {d q e : ℕ} → SmallBlockAt m (d - 1) → Siblings m d Branch q e → NamesKnown m q → Small (text_any (branches_at m d (fields_in m q e)))
  small_branches here ended k = small_none false (no_branch_text ended (omega arith))
  small_branches {q = q} here (sibling l s i) k =
      let o = branch_opens s (has_level s) in
      small_same (small_both _ _ (here (end_of m (q + 3)) o.block (known_branch s k)) (small_branches here i (known_past s.stands refl k))) (sym (branches_text (sibling l s i) l refl refl))

  small_here : (d : ℕ) → ((e : ℕ) → e < d → SmallAt m e) → SmallAt m d
  unfolding form_of form_in forms
  small_here d below p s k = go (byte m p) refl (statement_tag_lem (byte m p) s.kind)
    where
      lower : d ≡ suc (d - 1)
      lower = has_level s

      block : SmallBlockAt m (d - 1)
      block = small_block (d - 1) (λ e l. below e (omega arith))

      go : (t : ℕ) → byte m p ≡ t → IsStatementTag t → Small (text_of (statement_at m d p))
      go t e assignment_tag = small_single (name_small s.stands e refl few k) (assignment_text s refl e refl)
      go t e conditional_tag =
          let o = conditional_opens s.stands lower e in
          let known = known_condition s e k in
          small_same (small_both _ _ (block (end_of m (p + 3)) o.if_true known.0) (block (end_of m (end_of m (p + 3))) o.if_false known.1)) (sym (conditional_text s refl e refl))
      go t e choice_tag =
          let o = choice_opens s.stands lower e in
          small_same (small_branches (small_block (d - 1 - 1) (λ x l. below x (omega arith))) o.branches (known_branches s e k)) (sym (choice_text s refl e refl refl))
      go t e resource_tag = small_none false (other_text s refl (λ h. omega arith) (λ h. omega arith) (λ h. omega arith) (λ h. omega arith) (λ h. omega arith) (λ h. omega arith))
      go t e defined_tag = small_none true (defined_text s refl e)
      go t e class_tag = small_none true (class_text s refl e)
      go t e include_tag = small_none true (include_text s refl e)

  small_below : (n d : ℕ) → d < n → SmallAt m d
  small_below zero d l = absurd (omega arith)
  small_below (suc n) d l = small_here d (λ e i. small_below n e (omega arith))

  pub small_statement_lem : {d p : ℕ} → StandsAs m d StatementKind p → NamesKnown m p → Small (text_of (statement_at m d p))
  small_statement_lem {d} {p} s k = small_below (suc d) d (omega arith) p s k
