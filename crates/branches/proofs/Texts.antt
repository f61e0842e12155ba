-- The text at a place: what each sort of statement holds, and siblings one after the other. And the ways of the functions that walk over it, their premises
-- as the callees ensure them.
use Prim.Native.Nat.{ℕ, ◌+◌, ◌-◌, ◌*◌, ◌/◌, ◌%◌, ◌^◌, ◌<◌, ◌≤◌}
use mathlib.Core.Path.{◌≡◌, refl, sym, ap, ◌∙◌, fun_ext}
use mathlib.Core.Bool.{Bool, true, false, ◌||◌}
use mathlib.Core.List.{List}
use lib.Dec.{eqb}
use borrow.Author.Tests.{eq-eqb, eqb-true, eqb-false}
use native.Mathlib.Omega.{arith}
use Rattle.wire.specs.Bytes.{pick, byte, two, end_of, fields_in}
use Rattle.rules.specs.Tree.{Block, Branches, branch, default_branch}
use Rattle.rules.specs.Run.{assigns, declares}
use Rattle.rules.specs.declared.Kind.TheVariants.{Statement as StatementKind, Block as BlockKind, Branch}
use Rattle.rules.proofs.Lists.{or_true_left, or_true_right}
use Rattle.places.specs.At.{constant_at, statement_at, block_at, branch_at, branches_at, statements_at, StandsAs, Siblings}
use Rattle.places.proofs.Tags.{IsStatementTag, assignment_tag, conditional_tag, choice_tag, resource_tag, defined_tag, class_tag, include_tag, statement_tag_lem}
use Rattle.places.proofs.Parts.{first_sibling, no_sibling}
use Rattle.places.proofs.Open.{level}
use Rattle.places.proofs.Statements.{assignment_opens, conditional_opens, choice_opens, resource_opens, defined_opens, class_opens, include_opens, block_opens}
use Rattle.branches.specs.Names.{contains}
use Rattle.branches.specs.Texts.{Text, text_of, text_in, text_any, plain, named, both, Small, held, Collects}
use Rattle.branches.specs.declared.collected.Collected.{Collected}
use Rattle.branches.proofs.Standing.{block_statements}
use Rattle.branches.proofs.Names.{or_false, inserted}
use Rattle.branches.proofs.Joining.{Joining, joined_all}
use lib.Bits.{bit_or}
use lib.ListN.{length, get_or, set}

-- ---- The text of a statement

module _ {m : List ℕ} {d p t : ℕ} (s : StandsAs m d StatementKind p) (read : t ≡ byte m p) where
  pub assignment_text : {n : ℕ} → t ≡ 0x21 → n ≡ two m (p + 3) → text_of (statement_at m d p) ≡ named n
  unfolding assigns declares
  assignment_text h e = rw e (ap text_of (assignment_opens s.stands (level s.stands) (sym read ∙ h)).tree)

  pub conditional_text : {q : ℕ} → t ≡ 0x22 → q ≡ end_of m (p + 3) → text_of (statement_at m d p) ≡ both (text_in (block_at m (d - 1) q)) (text_in (block_at m (d - 1) (end_of m q)))
  unfolding assigns declares both
  conditional_text h l = rw l (ap text_of (conditional_opens s.stands (level s.stands) (sym read ∙ h)).tree)

  pub choice_text : {q e : ℕ} → t ≡ 0x23 → q ≡ end_of m (p + 3) → e ≡ end_of m p → text_of (statement_at m d p) ≡ text_any (branches_at m (d - 1) (fields_in m q e))
  unfolding assigns declares
  choice_text h l k = rw (l, k) (ap text_of (choice_opens s.stands (level s.stands) (sym read ∙ h)).tree)

  pub defined_text : t ≡ 0x27 → text_of (statement_at m d p) ≡ plain true
  unfolding assigns declares
  defined_text h = ap text_of (defined_opens s.stands (level s.stands) (sym read ∙ h)).tree

  pub class_text : t ≡ 0x28 → text_of (statement_at m d p) ≡ plain true
  unfolding assigns declares
  class_text h = ap text_of (class_opens s.stands (level s.stands) (sym read ∙ h)).tree

  pub include_text : t ≡ 0x29 → text_of (statement_at m d p) ≡ plain true
  unfolding assigns declares
  include_text h = ap text_of (include_opens s.stands (sym read ∙ h))

  -- a 27, a 28 or a 29
  pub declaring_text : 0x27 ≤ t → t ≤ 0x29 → text_of (statement_at m d p) ≡ plain true
  declaring_text from to = go (eqb t 0x27) refl (eqb t 0x28) refl
    where
      go : (x : Bool) → eqb t 0x27 ≡ x → (y : Bool) → eqb t 0x28 ≡ y → text_of (statement_at m d p) ≡ plain true
      go true e y f = defined_text (eqb-true t 0x27 e)
      go false e true f = class_text (eqb-true t 0x28 f)
      go false e false f = let a = eqb-false t 0x27 e in let b = eqb-false t 0x28 f in include_text (omega arith)

  resource_text : t ≡ 0x25 → text_of (statement_at m d p) ≡ plain false
  unfolding assigns declares
  resource_text h = ap text_of (resource_opens s.stands (level s.stands) (sym read ∙ h)).tree

  -- a 25 is what is left
  pub other_text : (t ≡ 0x21 → ⊥) → (t ≡ 0x22 → ⊥) → (t ≡ 0x23 → ⊥) → (t ≡ 0x27 → ⊥) → (t ≡ 0x28 → ⊥) → (t ≡ 0x29 → ⊥) → text_of (statement_at m d p) ≡ plain false
  other_text a b c x y z = go (byte m p) read (statement_tag_lem (byte m p) s.kind)
    where
      go : (u : ℕ) → t ≡ u → IsStatementTag u → text_of (statement_at m d p) ≡ plain false
      go u e assignment_tag = absurd (a e)
      go u e conditional_tag = absurd (b e)
      go u e choice_tag = absurd (c e)
      go u e resource_tag = resource_text e
      go u e defined_tag = absurd (x e)
      go u e class_tag = absurd (y e)
      go u e include_tag = absurd (z e)

-- ---- The text of siblings: of the first, and then of those after it

pub block_text : {m : List ℕ} {d p e : ℕ} → StandsAs m d BlockKind p → e ≡ end_of m p → text_in (block_at m d p) ≡ text_in (statements_at m (d - 1) (fields_in m (p + 3) e))
block_text s k = rw k (ap text_in (block_opens s (level s.stands)).tree)

module _ {m : List ℕ} {d q e : ℕ} (s : Siblings m d StatementKind q e) where
  pub statements_text : {n : ℕ} → q < e → n ≡ end_of m q → text_in (statements_at m d (fields_in m q e)) ≡ both (text_of (statement_at m d q)) (text_in (statements_at m d (fields_in m n e)))
  unfolding assigns declares statements_at both
  statements_text l k = rw k (ap (λ (ps : List ℕ). text_in (statements_at m d ps)) (first_sibling s l).places)

  pub no_statement_text : e ≤ q → text_in (statements_at m d (fields_in m q e)) ≡ plain false
  unfolding assigns declares statements_at
  no_statement_text l = ap (λ (ps : List ℕ). text_in (statements_at m d ps)) (no_sibling s l).places

pub empty_block_text : {m : List ℕ} {d p e : ℕ} → StandsAs m d BlockKind p → e ≡ end_of m p → e ≤ p + 3 → text_in (block_at m d p) ≡ plain false
empty_block_text s k l = block_text s k ∙ no_statement_text (block_statements s k) l

module _ {m : List ℕ} {d q e : ℕ} (s : Siblings m d Branch q e) where
  pub branches_text : {x n : ℕ} → q < e → x ≡ end_of m (q + 3) → n ≡ end_of m q → text_any (branches_at m d (fields_in m q e)) ≡ both (text_in (block_at m (d - 1) x)) (text_any (branches_at m d (fields_in m n e)))
  unfolding assigns declares branches_at branch_at both
  branches_text l h k = rw (h, k) (ap (λ (ps : List ℕ). text_any (branches_at m d ps)) (first_sibling s l).places ∙ either (eqb (byte m (q + 3)) 0x1b))
    where
      block : Block
      block = block_at m (d - 1) (end_of m (q + 3))

      after : Branches
      after = branches_at m d (fields_in m (end_of m q) e)

      either : (b : Bool) → text_any (pick b (default_branch block after) (branch (constant_at m (q + 3)) block after)) ≡ both (text_in block) (text_any after)
      either true = refl
      either false = refl

  pub no_branch_text : e ≤ q → text_any (branches_at m d (fields_in m q e)) ≡ plain false
  unfolding assigns declares branches_at
  no_branch_text l = ap (λ (ps : List ℕ). text_any (branches_at m d ps)) (no_sibling s l).places

-- ---- Names of a text that are below 1,024

pub small_first : {t : Text} (a b : Text) → Small t → t ≡ both a b → Small a
unfolding both
small_first a b small e = record { each = λ n h. small.each n (rw e (or_true_left (a.assigns n) (b.assigns n) h)) }

pub small_second : {t : Text} (a b : Text) → Small t → t ≡ both a b → Small b
unfolding both
small_second a b small e = record { each = λ n h. small.each n (rw e (or_true_right (a.assigns n) (b.assigns n) h)) }

pub small_same : {t u : Text} → Small t → t ≡ u → Small u
small_same small e = rw e at small

pub small_named : {t : Text} (x : ℕ) → Small t → t ≡ named x → x < 1024
small_named x small e = small.each x (rw e (eq-eqb x x refl))

-- the second of two blocks
pub second_block : {m : List ℕ} {d p n : ℕ} → StandsAs m d BlockKind p × StandsAs m d BlockKind (end_of m p) → Small (both (text_in (block_at m d p)) (text_in (block_at m d (end_of m p)))) → n ≡ end_of m p → StandsAs m d BlockKind n × Small (text_in (block_at m d n))
second_block s small h = rw h (s.1, small_second _ _ small refl)

-- ---- Collecting

or_regroup : (a b c : Bool) → ((a || b) || c) ≡ (a || (b || c))
or_regroup true b c = refl
or_regroup false b c = refl

pub text_same : {t u : Text} → ((n : ℕ) → t.assigns n ≡ u.assigns n) → t.declares ≡ u.declares → t ≡ u
text_same a d = λ i. record { assigns = fun_ext a i; declares = d i }

both_then : (a b c : Text) → both (both a b) c ≡ both a (both b c)
unfolding both
both_then a b c = text_same (λ n. or_regroup (a.assigns n) (b.assigns n) (c.assigns n)) (or_regroup a.declares b.declares c.declares)

both_none : (a : Text) → both a (plain false) ≡ a
unfolding both
both_none a = text_same (λ n. sym (or_false (a.assigns n))) (sym (or_false a.declares))

pub collects_same : {c c' : Collected} {t u : Text} → t ≡ u → Collects c c' u → Collects c c' t
collects_same e q = rw e q

-- what joins it: no text, one that declares, one name, and all of another set
module _ (c : Collected) where
  pub collects_none : {t : Text} → t ≡ plain false → Collects c c t
  collects_none e = record { joined = sym (both_none (held c)) ∙ ap (both (held c)) (sym e) }

  module _ {c' : Collected} where
    pub collects_declares : {t : Text} → t ≡ plain true → c'.names ≡ c.names → c'.declares ≡ true → Collects c c' t
    unfolding both
    collects_declares e names declares = rw e (record { joined = text_same (λ n. rw names (or_false (contains c.names n))) (rw declares (either c.declares)) })
      where
        either : (b : Bool) → true ≡ (b || true)
        either true = refl
        either false = refl

    pub collects_name : (x : ℕ) → x < 1024 → c'.names ≡ set c.names (x / 64) (bit_or (get_or c.names (x / 64) 0) (1 * 2 ^ (x % 64) % 2 ^ 64)) → c'.declares ≡ c.declares → Collects c c' (named x)
    unfolding both
    collects_name x small names declares = record { joined = text_same (λ n. rw names (inserted c.names x c.words small n)) (rw declares (or_false c.declares)) }

    pub collects_words : {f s : List ℕ} {i : ℕ} {b : Bool} → Joining f c.names i s → length f ≤ i → c'.names ≡ s → c'.declares ≡ (c.declares || b) → Collects c c' (record { assigns = contains f; declares = b })
    unfolding both
    collects_words q past names declares = record { joined = text_same (λ n. rw names (joined_all q past n)) declares }

-- one text after the other
pub collects_then : {c c₁ c₂ : Collected} {t u : Text} → Collects c c₁ t → Collects c₁ c₂ u → Collects c c₂ (both t u)
collects_then {c} {t = t} {u = u} a b = record { joined = b.joined ∙ ap (λ (x : Text). both x u) a.joined ∙ both_then (held c) t u }

-- at a loop's head: what is collected, with what is left, is what was collected before, with the whole
pub record Collecting (c₀ c : Collected) (left whole : Text) : Type 0 where
  pub same : both (held c) left ≡ both (held c₀) whole
  pub small : Small left

pub collecting : (c : Collected) {t : Text} → Small t → Collecting c c t t
collecting c small = record { same = refl; small = small }

module _ {c₀ c : Collected} {left whole : Text} (i : Collecting c₀ c left whole) where
  pub collected_all : left ≡ plain false → Collects c₀ c whole
  collected_all none = record { joined = sym (both_none (held c)) ∙ ap (both (held c)) (sym none) ∙ i.same }

  module _ (here after : Text) (split : left ≡ both here after) where
    pub here_small : Small here
    here_small = small_first here after i.small split

    pub collected_here : {c' : Collected} → Collects c c' here → Collecting c₀ c' after whole
    collected_here q = record {
      same = ap (λ (x : Text). both x after) q.joined ∙ both_then (held c) here after ∙ ap (both (held c)) (sym split) ∙ i.same;
      small = small_second here after i.small split;
    }
