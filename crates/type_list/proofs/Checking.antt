-- One law for each way through `is_lower_case`, `is_right` and `check_types`; and where a fault may stand.
use Prim.Native.Nat.{ℕ, suc, ◌+◌, ◌*◌, ◌-◌, ◌<◌, ◌≤◌}
use mathlib.Core.Path.{◌≡◌, refl, sym, ap, subst, ◌∙◌}
use mathlib.Core.Bool.{Bool, true, false, ◌&&◌}
use mathlib.Core.List.{List, [], ◌∷◌}
use native.Mathlib.Omega.{arith}
use lib.Dec.{eqb, leb}
use Rattle.std.specs.List.{list_all}
use Rattle.std.specs.Char.{is_ascii_lowercase}
use lib.ListN.{length, take, drop}
use borrow.Author.Tests.{leb-true, le-leb, lt-leb, eq-eqb, ne_eqb}
use Rattle.values.specs.declared.Reason.TheVariants.{TypeList}
use Rattle.wire.proofs.Fields.{no_fields, field_first}
use Rattle.rules.specs.Bytes.{pick, byte, two, end_of, fields_in}
use Rattle.rules.specs.Check.{ascends, text}
use Rattle.rules.specs.Types.{type_places, lower_case, field_right, types_right, check_list}
use Rattle.rules.proofs.Lists.{both_left, both_right}
use Rattle.rules.specs.Verdicts.{fault_at, no_fault}

-- ---- Letters

pub each_letter : (x : List ℕ) → list_all is_ascii_lowercase x ≡ lower_case x
unfolding lower_case
each_letter [] = refl
each_letter (c ∷ cs) = ap (λ (b : Bool). (leb 0x61 c && leb c 0x7a) && b) (each_letter cs)

-- ---- One field

module _ (list before : List ℕ) (q : ℕ) where
  pub no_header : length list < q + 3 → false ≡ field_right list before q
  unfolding field_right
  no_header h = rw (lt-leb _ _ h)

  module _ (header : q + 3 ≤ length list) {tag : ℕ} (is : tag ≡ byte list q) where
    pub other_tag : (tag ≡ 0x02 → ⊥) → false ≡ field_right list before q
    unfolding field_right
    other_tag h = rw (le-leb _ _ header, sym is, ne_eqb tag 0x02 h)

    module _ (right : tag ≡ 0x02) {n : ℕ} (len : n ≡ two list (q + 1)) where
      pub past_end : length list < q + 3 + n → false ≡ field_right list before q
      unfolding field_right
      past_end h = rw (le-leb _ _ header, sym is, eq-eqb tag 0x02 right, sym len, lt-leb _ _ h)

      module _ (ends : q + 3 + n ≤ length list) where
        pub no_letters : n ≡ 0 → false ≡ field_right list before q
        unfolding field_right
        no_letters h = let less : n < 1 = omega arith in rw (le-leb _ _ header, sym is, eq-eqb tag 0x02 right, sym len, le-leb _ _ ends, lt-leb _ _ less)

        pub too_long : (n ≡ 0 → ⊥) → 32 < n → false ≡ field_right list before q
        unfolding field_right
        too_long z h = let some : 1 ≤ n = omega (arith, z) in rw (le-leb _ _ header, sym is, eq-eqb tag 0x02 right, sym len, le-leb _ _ ends, le-leb _ _ some, lt-leb _ _ h)

        module _ (z : n ≡ 0 → ⊥) (short : n ≤ 32) {name : List ℕ} (named : name ≡ text list q) {b : Bool} (letters : b ≡ lower_case name) where
          pub other_byte : b ≡ false → false ≡ field_right list before q
          unfolding field_right
          other_byte h = let some : 1 ≤ n = omega (arith, z) in rw (le-leb _ _ header, sym is, eq-eqb tag 0x02 right, sym len, le-leb _ _ ends, le-leb _ _ some, le-leb _ _ short, sym named, sym letters, h)

          pub by_order : {above : Bool} → b ≡ true → above ≡ ascends before name → above ≡ field_right list before q
          unfolding field_right
          by_order h e = let some : 1 ≤ n = omega (arith, z) in rw (le-leb _ _ header, sym is, eq-eqb tag 0x02 right, sym len, le-leb _ _ ends, le-leb _ _ some, le-leb _ _ short, sym named, sym letters, h) e

-- what a field has that is right
pub record Right (list before : List ℕ) (q : ℕ) : Type 0 where
  pub ends : end_of list q ≤ length list
  pub short : two list (q + 1) ≤ 32
  pub above : ascends before (text list q) ≡ true

pub right_field : (list before : List ℕ) (q : ℕ) → field_right list before q ≡ true → Right list before q
unfolding field_right
right_field list before q e =
    let header : Bool = leb (q + 3) (length list) in
    let tag : Bool = eqb (byte list q) 0x02 in
    let body : Bool = leb (end_of list q) (length list) in
    let some : Bool = leb 1 (two list (q + 1)) in
    let few : Bool = leb (two list (q + 1)) 32 in
    let letters : Bool = lower_case (text list q) in
    let up : Bool = ascends before (text list q) in
    let behind_tag : (body && ((some && few) && (letters && up))) ≡ true = both_right tag (body && ((some && few) && (letters && up))) (both_right header (tag && (body && ((some && few) && (letters && up)))) e) in
    let behind_body : ((some && few) && (letters && up)) ≡ true = both_right body ((some && few) && (letters && up)) behind_tag in
    record {
      ends = leb-true (end_of list q) (length list) (both_left body ((some && few) && (letters && up)) behind_tag);
      short = leb-true (two list (q + 1)) 32 (both_right some few (both_left (some && few) (letters && up) behind_body));
      above = both_right letters up (both_right (some && few) (letters && up) behind_body);
    }

-- ---- All fields

-- the bytes from one place up to another
abbrev pub between : (from end : ℕ) → List ℕ → List ℕ
between a e l = take (e - a) (drop a l)

module _ (list : List ℕ) where
  -- at the loop's head: what is left to check decides
  pub record Left (more start q : ℕ) : Type 0 where
    pub verdict : types_right list more (between start q list) (fields_in list q (length list)) ≡ check_list list
    pub ordered : start ≤ q
    pub within : q ≤ length list
    pub early : q + 35 * more ≤ 2240

  pub empty_list : length list ≡ 0 → fault_at TypeList 0 ≡ check_list list
  unfolding check_list
  empty_list none = go list none
    where
      go : (l : List ℕ) → length l ≡ 0 → fault_at TypeList 0 ≡ check_list l
      go [] h = refl
      go (b ∷ bs) h = absurd (omega arith)

  pub not_empty : (length list ≡ 0 → ⊥) → Left 64 0 0
  unfolding check_list type_places
  not_empty z = go list refl z
    where
      go : (l : List ℕ) → l ≡ list → (length l ≡ 0 → ⊥) → Left 64 0 0
      go [] e z = absurd (z refl)
      go (b ∷ bs) e z = record { verdict = rw (sym e) refl; ordered = omega arith; within = omega arith; early = omega arith }

  module _ (start q : ℕ) (l : q < length list) where
    pub sixty_fifth : (more : ℕ) → more ≡ 0 → Left more start q → fault_at TypeList q ≡ check_list list
    unfolding types_right
    sixty_fifth more none left = rw (field_first list q (length list) l, none) at left.verdict

    module _ (more : ℕ) {b : Bool} (told : b ≡ field_right list (between start q list) q) (some : more ≡ 0 → ⊥) (left : Left more start q) where
      field_told : pick b (types_right list (more - 1) (text list q) (fields_in list (end_of list q) (length list))) (fault_at TypeList q) ≡ check_list list
      unfolding types_right
      field_told =
          let one_less : more ≡ suc (more - 1) = omega (arith, some) in
          rw (field_first list q (length list) l, sym told) at (subst (λ (k : ℕ). types_right list k (between start q list) (fields_in list q (length list)) ≡ check_list list) one_less left.verdict)

      pub wrong_field : b ≡ false → fault_at TypeList q ≡ check_list list
      wrong_field h = rw h at field_told

      right : b ≡ true → Right list (between start q list) q
      right h = right_field list (between start q list) q (sym told ∙ h)

      -- a name is what stands between its header and the next field
      name_between : {r : ℕ} → r ≡ end_of list q → between (q + 3) r list ≡ text list q
      unfolding text
      name_between {r} e = ap (λ (k : ℕ). take k (drop (q + 3) list)) (let n : r - (q + 3) ≡ two list (q + 1) = omega arith in n)

      pub next_field : {r : ℕ} → b ≡ true → r ≡ end_of list q → Left (more - 1) (q + 3) r
      next_field {r} h e = record {
        verdict = rw (name_between e, e) (rw h at field_told);
        ordered = omega arith;
        within = omega (arith, (right h).ends);
        early = omega (arith, (right h).short, left.early, some);
      }

  pub all_right : (more start q : ℕ) → length list ≤ q → Left more start q → no_fault ≡ check_list list
  unfolding types_right
  all_right more start q h left = rw (no_fields list q (length list) h) at left.verdict
