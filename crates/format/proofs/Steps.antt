-- Parts in a number, and one law for each way through `takes_name`, `takes`, `follows` and `may_end`.
use mathlib.Core.Path.{◌≡◌, refl, sym, ap, ◌∙◌}
use mathlib.Core.Bool.{Bool, true, false, ◌&&◌}
use mathlib.Core.List.{[]}
use mathlib.Core.Option.{none, some}
use Prim.Native.Nat.{ℕ, ◌+◌, ◌-◌, ◌*◌, ◌/◌, ◌%◌, ◌^◌, ◌<◌, ◌≤◌}
use native.Mathlib.Omega.{arith}
use lib.Dec.{eqb}
use borrow.Author.Tests.{ne_eqb}
use Rattle.rules.specs.Bytes.{pick}
use Rattle.rules.specs.Format.{allowed, take, part_may_end}
use Rattle.rules.specs.declared.Kind.{Kind}
use Rattle.rules.specs.declared.Kind.TheVariants.{Device}
use Rattle.rules.specs.declared.Part.{Part}
use Rattle.rules.specs.declared.Part.TheVariants.{Over, One, UpTo, Many, Names}
use Rattle.rules.specs.declared.Took.{Took}
use Rattle.rules.specs.declared.Took.TheVariants.{Takes, Passes, Refuses}
use Rattle.format.specs.Numbers.{kinds, kind_from, how_many, shaped, part_from, push, lowest, parts_from}
use Rattle.format.specs.Coming.{onward, comes, complete}
use Rattle.format.proofs.Undone.{comes_push, complete_push}

-- ---- What a part makes of a field

module _ (p : Part) (t : ℕ) where
  over : p ≡ Over → Passes ≡ take p t
  unfolding take
  over e = rw e

  names : {r : Took} → p ≡ Names → r ≡ take Names t → r ≡ take p t
  names e h = rw e h

  one_yes : {s : Kind} {b : Bool} → p ≡ One s → b ≡ allowed s t → b ≡ true → Takes Over ≡ take p t
  unfolding take
  one_yes e a h = rw (e, ← a, h)

  one_no : {s : Kind} {b : Bool} → p ≡ One s → b ≡ allowed s t → b ≡ false → Refuses ≡ take p t
  unfolding take
  one_no e a h = rw (e, ← a, h)

  none_left : {n : ℕ} {s : Kind} → p ≡ UpTo n s → n ≡ 0 → Passes ≡ take p t
  unfolding take
  none_left e z = rw (e, z)

  up_yes : {n : ℕ} {s : Kind} {b : Bool} → p ≡ UpTo n s → (n ≡ 0 → ⊥) → b ≡ allowed s t → b ≡ true → Takes (UpTo (n - 1) s) ≡ take p t
  unfolding take
  up_yes e z a h = rw (e, ne_eqb _ _ z, ← a, h)

  many_yes : {s : Kind} {b : Bool} → p ≡ Many s → b ≡ allowed s t → b ≡ true → Takes (Many s) ≡ take p t
  unfolding take
  many_yes e a h = rw (e, ← a, h)

module _ (t : ℕ) where
  a_device : t ≡ 0x31 → Takes (Many Device) ≡ take Names t
  unfolding take
  a_device h = rw h

  a_default : t ≡ 0x1b → Takes Over ≡ take Names t
  unfolding take
  a_default h = rw h

  no_name : (t ≡ 0x31 → ⊥) → (t ≡ 0x1b → ⊥) → Refuses ≡ take Names t
  unfolding take
  no_name h k = rw (ne_eqb _ _ h, ne_eqb _ _ k)

-- ---- The lowest part of a number

module _ (x : ℕ) where
  part_one : how_many x ≡ 16 → part_from x ≡ One (kind_from (x % 16))
  unfolding part_from shaped
  part_one h = rw h

  part_up_to : how_many x ≡ 32 → part_from x ≡ UpTo (x % 2097152 / 128) (kind_from (x % 16))
  unfolding part_from shaped
  part_up_to h = rw h

  part_many : how_many x ≡ 48 → part_from x ≡ Many (kind_from (x % 16))
  unfolding part_from shaped
  part_many h = rw h

  part_names : how_many x ≡ 64 → part_from x ≡ Names
  unfolding part_from shaped
  part_names h = rw h

  part_over : (how_many x ≡ 16 → ⊥) → (how_many x ≡ 32 → ⊥) → (how_many x ≡ 48 → ⊥) → (how_many x ≡ 64 → ⊥) → part_from x ≡ Over
  unfolding part_from shaped
  part_over a b c d = rw (ne_eqb _ _ a, ne_eqb _ _ b, ne_eqb _ _ c, ne_eqb _ _ d)

-- one field less, and the devices instead of the names
part_less : (x : ℕ) → how_many x ≡ 32 → 128 ≤ x % 2097152 → part_from (x - 128) ≡ UpTo (x % 2097152 / 128 - 1) (kind_from (x % 16))
unfolding how_many
part_less x h k =
    let sixteenths : (x - 128) / 16 + 8 ≡ x / 16 = omega arith in
    let eighths : (x - 128) / 16 % 8 ≡ x / 16 % 8 = omega (arith, sixteenths) in
    let many : (x - 128) / 16 % 8 * 16 ≡ 32 = omega arith in
    let kind : (x - 128) % 16 ≡ x % 16 = omega arith in
    let lower : (x - 128) % 2097152 + 128 ≡ x % 2097152 = omega arith in
    let fewer : (x - 128) % 2097152 / 128 ≡ x % 2097152 / 128 - 1 = omega arith in
    part_up_to (x - 128) many ∙ rw (fewer, kind)

part_devices : (x : ℕ) → part_from (x / 2097152 * 2097152 + 61) ≡ Many Device
unfolding how_many kind_from kinds
part_devices x =
    let many : (x / 2097152 * 2097152 + 61) / 16 % 8 * 16 ≡ 48 = omega arith in
    let kind : (x / 2097152 * 2097152 + 61) % 16 ≡ 13 = omega arith in
    part_many (x / 2097152 * 2097152 + 61) many ∙ rw kind

-- the lowest part, and the others
nothing_left : (y : ℕ) → y ≡ 0 → push (part_from y) [] ≡ []
unfolding push part_from shaped how_many
nothing_left y e = rw e

first_part : (x : ℕ) → x < 2 ^ 64 → parts_from x ≡ push (part_from x) (parts_from (x / 2097152))
unfolding parts_from lowest
first_part x h =
    let a : x / 2097152 < 2 ^ 43 = omega arith in
    let b : x / 2097152 / 2097152 < 2 ^ 22 = omega arith in
    let c : x / 2097152 / 2097152 / 2097152 < 2 = omega arith in
    let d : x / 2097152 / 2097152 / 2097152 / 2097152 ≡ 0 = omega arith in
    sym (rw (nothing_left (x / 2097152 / 2097152 / 2097152 / 2097152) d))

-- ---- The ways through `takes`

module _ (x t : ℕ) (fits : x < 2 ^ 64) where
  by_first : comes (parts_from x) t ≡ onward (take (part_from x) t) (parts_from (x / 2097152)) (comes (parts_from (x / 2097152)) t)
  by_first = rw (first_part x fits) (comes_push (part_from x) (parts_from (x / 2097152)) t)

  takes_it : {y : Part} (n : ℕ) → Takes y ≡ take (part_from x) t → parts_from n ≡ push y (parts_from (x / 2097152)) → some (parts_from n) ≡ comes (parts_from x) t
  takes_it n a e = sym (by_first ∙ rw (← a, e))

  passes_it : Passes ≡ take (part_from x) t → comes (parts_from (x / 2097152)) t ≡ comes (parts_from x) t
  passes_it a = sym (by_first ∙ rw (← a))

  refuses_it : Refuses ≡ take (part_from x) t → none ≡ comes (parts_from x) t
  refuses_it a = sym (by_first ∙ rw (← a))

  module _ {f : Bool} (ef : f ≡ allowed (kind_from (x % 16)) t) where
    pub one_taken : how_many x ≡ 16 → f ≡ true → some (parts_from (x / 2097152)) ≡ comes (parts_from x) t
    unfolding push
    one_taken h k = takes_it (x / 2097152) (one_yes (part_from x) t (part_one x h) ef k) refl

    pub one_refused : how_many x ≡ 16 → f ≡ false → none ≡ comes (parts_from x) t
    one_refused h k = refuses_it (one_no (part_from x) t (part_one x h) ef k)

    pub many_taken : how_many x ≡ 48 → f ≡ true → some (parts_from x) ≡ comes (parts_from x) t
    many_taken h k = takes_it x (many_yes (part_from x) t (part_many x h) ef k) (first_part x fits ∙ ap (λ (p : Part). push p (parts_from (x / 2097152))) (part_many x h))

    pub some_taken : how_many x ≡ 32 → 128 ≤ x % 2097152 → f ≡ true → some (parts_from (x - 128)) ≡ comes (parts_from x) t
    some_taken h l k =
        let same : (x - 128) / 2097152 ≡ x / 2097152 = omega arith in
        takes_it (x - 128) (up_yes (part_from x) t (part_up_to x h) (λ z. absurd (omega arith)) ef k) (first_part (x - 128) (omega arith) ∙ rw (part_less x h l, same))

    -- a part of many, or of up to a number, leaves a field of another kind to the others
    not_taken : (u v : Bool) (n : ℕ) → f ≡ false → Passes ≡ take (pick u (UpTo n (kind_from (x % 16))) (pick v (Many (kind_from (x % 16))) Over)) t
    unfolding take
    not_taken true v n k = rw (← ef, k) (either_way (eqb n 0))
      where
        either_way : (b : Bool) → Passes ≡ pick b Passes Passes
        either_way true = refl
        either_way false = refl
    not_taken false true n k = rw (← ef, k)
    not_taken false false n k = refl

    pub others_passed : (how_many x ≡ 64 → ⊥) → (how_many x ≡ 16 → ⊥) → f ≡ false → comes (parts_from (x / 2097152)) t ≡ comes (parts_from x) t
    unfolding part_from shaped
    others_passed a b k = passes_it (rw (ne_eqb _ _ b, ne_eqb _ _ a) (not_taken (eqb (how_many x) 32) (eqb (how_many x) 48) (x % 2097152 / 128) k))

  pub none_more : how_many x ≡ 32 → x % 2097152 < 128 → comes (parts_from (x / 2097152)) t ≡ comes (parts_from x) t
  none_more h l = passes_it (none_left (part_from x) t (part_up_to x h) (omega arith))

  pub over_passed : (how_many x ≡ 64 → ⊥) → (how_many x ≡ 16 → ⊥) → (how_many x ≡ 48 → ⊥) → (how_many x ≡ 32 → ⊥) → comes (parts_from (x / 2097152)) t ≡ comes (parts_from x) t
  over_passed a b c d = passes_it (over (part_from x) t (part_over x b d c a))

  module _ (h : how_many x ≡ 64) where
    name_taken : {y : Part} (n : ℕ) → Takes y ≡ take Names t → parts_from n ≡ push y (parts_from (x / 2097152)) → some (parts_from n) ≡ comes (parts_from x) t
    name_taken n a e = takes_it n (names (part_from x) t (part_names x h) a) e

    pub device_taken : t ≡ 0x31 → some (parts_from (x / 2097152 * 2097152 + 61)) ≡ comes (parts_from x) t
    device_taken e =
        let same : (x / 2097152 * 2097152 + 61) / 2097152 ≡ x / 2097152 = omega arith in
        name_taken (x / 2097152 * 2097152 + 61) (a_device t e) (first_part (x / 2097152 * 2097152 + 61) (omega arith) ∙ rw (part_devices x, same))

    pub default_taken : t ≡ 0x1b → some (parts_from (x / 2097152)) ≡ comes (parts_from x) t
    unfolding push
    default_taken e = name_taken (x / 2097152) (a_default t e) refl

    pub name_refused : (t ≡ 0x31 → ⊥) → (t ≡ 0x1b → ⊥) → none ≡ comes (parts_from x) t
    name_refused a b = refuses_it (names (part_from x) t (part_names x h) (no_name t a b))

-- ---- The ways through `follows` and `may_end`

pub none_left_over : (x t : ℕ) → x ≡ 0 → none ≡ comes (parts_from x) t
unfolding comes parts_from lowest push part_from shaped how_many
none_left_over x t e = rw e

pub nothing_needed : (x : ℕ) → x ≡ 0 → true ≡ complete (parts_from x)
unfolding complete parts_from lowest push part_from shaped how_many
nothing_needed x e = rw e

module _ (x : ℕ) (fits : x < 2 ^ 64) where
  ends_by_first : complete (parts_from x) ≡ part_may_end (part_from x) && complete (parts_from (x / 2097152))
  ends_by_first = rw (first_part x fits) (complete_push (part_from x) (parts_from (x / 2097152)))

  pub one_needed : how_many x ≡ 16 → false ≡ complete (parts_from x)
  unfolding part_may_end
  one_needed h = sym (ends_by_first ∙ rw (part_one x h))

  pub names_needed : how_many x ≡ 64 → false ≡ complete (parts_from x)
  unfolding part_may_end
  names_needed h = sym (ends_by_first ∙ rw (part_names x h))

  pub others_decide : (how_many x ≡ 16 → ⊥) → (how_many x ≡ 64 → ⊥) → complete (parts_from (x / 2097152)) ≡ complete (parts_from x)
  unfolding part_from shaped part_may_end
  others_decide a b = sym (ends_by_first ∙ rw (ne_eqb _ _ a, ne_eqb _ _ b) (either (eqb (how_many x) 32) (eqb (how_many x) 48)))
    where
      either : (u v : Bool) → part_may_end (pick u (UpTo (x % 2097152 / 128) (kind_from (x % 16))) (pick v (Many (kind_from (x % 16))) Over)) && complete (parts_from (x / 2097152)) ≡ complete (parts_from (x / 2097152))
      either true v = refl
      either false true = refl
      either false false = refl
