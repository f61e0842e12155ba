-- What a list without fault has, and a search in it.
use Prim.Native.Nat.{ℕ, zero, suc, ◌+◌, ◌*◌, ◌-◌, ◌<◌, ◌≤◌}
use mathlib.Core.Path.{◌≡◌, refl, sym, ap, ap₂, subst, ◌∙◌}
use mathlib.Core.Bool.{Bool, true, false}
use mathlib.Core.List.{List, [], ◌∷◌, map}
use mathlib.Core.Logic.{◌⊎◌, inl, inr}
use native.Mathlib.Omega.{arith}
use lib.Dec.{eqb, ltb}
use lib.ListN.{length, get_or}
use borrow.Author.Tests.{ltb-true, ltb-false, eqb-true, eqb-false}
use Rattle.values.specs.declared.Reason.{Reason}
use Rattle.values.specs.declared.Reason.TheVariants.{TypeList}
use Rattle.wire.specs.Runs.{over}
use Rattle.wire.proofs.Fields.{no_fields, field_first}
use Rattle.rules.specs.Bytes.{pick, two, end_of, fields_in}
use Rattle.rules.specs.Check.{ascends, text}
use Rattle.rules.specs.Types.{the_eight, lent, eight_types, type_places, types_in, field_right, types_right, check_list, built_in_types, check_types}
use Rattle.rules.specs.Evaluate.{any}
use Rattle.rules.specs.Compile.{same_bytes}
use Rattle.rules.proofs.Lists.{both_left, both_right, or_true_right}
use Rattle.rules.proofs.Within.{false_not_true}
use Rattle.rules.proofs.Ascending.{before_both, other_bytes, all_rise}
use Rattle.syntax.specs.Strings.{is_built_in_text, place_bytes}
use Rattle.syntax.proofs.StringsRead.{places_back, places_below}
use Rattle.type_list.specs.Listed.{chosen, Listed, type_at, Belongs}
use Rattle.type_list.proofs.Checking.{Right, right_field}
use Rattle.std.specs.Prelude.{Ok, Err}
use Rattle.rules.specs.Verdicts.{Verdict, fault_at, no_fault}

-- ---- Lists

-- two lists with the same bytes are one
bytes_same : (x y : List ℕ) → same_bytes x y ≡ true → x ≡ y
unfolding same_bytes
bytes_same [] [] e = refl
bytes_same [] (b ∷ y) e = false_not_true e
bytes_same (a ∷ x) [] e = false_not_true e
bytes_same (a ∷ x) (b ∷ y) e = ap₂ ◌∷◌ (eqb-true a b (both_left (eqb a b) (same_bytes x y) e)) (bytes_same x y (both_right (eqb a b) (same_bytes x y) e))

module _ (f : List ℕ → Bool) (g : ℕ → List ℕ) where
  any_none : (ps : List ℕ) → ((i : ℕ) → i < length ps → f (g (get_or ps i 0)) ≡ false) → any f (map g ps) ≡ false
  unfolding any
  any_none [] h = refl
  any_none (p ∷ ps) h = rw (h 0 (omega arith)) (any_none ps λ i l. h (suc i) (omega arith))

  any_one : (ps : List ℕ) (i : ℕ) → i < length ps → f (g (get_or ps i 0)) ≡ true → any f (map g ps) ≡ true
  unfolding any
  any_one [] i l e = absurd (omega arith)
  any_one (p ∷ ps) zero l e = rw e refl
  any_one (p ∷ ps) (suc i) l e = or_true_right (f (g p)) (any f (map g ps)) (any_one ps i (omega arith) e)

-- ---- A list without fault

is_sound : Verdict → Bool
is_sound (Ok tt) = true
is_sound (Err f) = false

not_fault : {A : Type 0} {r : Reason} {p : ℕ} → fault_at r p ≡ no_fault → A
unfolding is_sound
not_fault e = false_not_true (ap is_sound e)

place_of : Verdict → ℕ
place_of (Ok tt) = 0
place_of (Err f) = f.place

same_place : {r s : Reason} {q p n : ℕ} → fault_at r q ≡ fault_at s p → q ≤ n → p ≤ n
unfolding place_of
same_place e l = let same = ap place_of e in omega (arith, same)

-- a first field that is right, where all are
module _ (list before : List ℕ) (more q : ℕ) (qs : List ℕ) (e : types_right list (suc more) before (q ∷ qs) ≡ no_fault) where
  first_right : field_right list before q ≡ true
  unfolding types_right
  first_right = go (field_right list before q) refl e
    where
      go : (b : Bool) → field_right list before q ≡ b → pick b (types_right list more (text list q) qs) (fault_at TypeList q) ≡ no_fault → field_right list before q ≡ true
      go true t e = t
      go false t e = not_fault e

  others_right : types_right list more (text list q) qs ≡ no_fault
  unfolding types_right
  others_right = rw first_right at e

-- there are not too many, and each comes before the next
few_right : (list before : List ℕ) (more : ℕ) (qs : List ℕ) → types_right list more before qs ≡ no_fault → length qs ≤ more
unfolding types_right
few_right list before more [] e = omega arith
few_right list before zero (q ∷ qs) e = not_fault e
few_right list before (suc more) (q ∷ qs) e = let few = few_right list (text list q) more qs (others_right list before more q qs e) in omega arith

next_right : (list before : List ℕ) (more : ℕ) (qs : List ℕ) → types_right list more before qs ≡ no_fault → (i : ℕ) → i + 1 < length qs → ascends (text list (get_or qs i 0)) (text list (get_or qs (suc i) 0)) ≡ true
unfolding types_right
next_right list before more [] e i l = absurd (omega arith)
next_right list before zero (q ∷ qs) e i l = not_fault e
next_right list before (suc more) (q ∷ []) e i l = absurd (omega arith)
next_right list before (suc zero) (q ∷ r ∷ qs) e i l = not_fault (others_right list before zero q (r ∷ qs) e)
next_right list before (suc (suc more)) (q ∷ r ∷ qs) e zero l = (right_field list (text list q) r (first_right list (text list q) more r qs (others_right list before (suc more) q (r ∷ qs) e))).above
next_right list before (suc (suc more)) (q ∷ r ∷ qs) e (suc i) l = next_right list (text list q) (suc more) (r ∷ qs) (others_right list before (suc more) q (r ∷ qs) e) i (omega arith)

-- each has letters
has_letters : (before x : List ℕ) → ascends before x ≡ true → same_bytes [] x ≡ false
unfolding ascends same_bytes
has_letters [] [] e = false_not_true e
has_letters (b ∷ before) [] e = false_not_true e
has_letters before (a ∷ x) e = refl

letters_right : (list before : List ℕ) (more : ℕ) (qs : List ℕ) → types_right list more before qs ≡ no_fault → any (same_bytes []) (map (text list) qs) ≡ false
unfolding types_right any
letters_right list before more [] e = refl
letters_right list before zero (q ∷ qs) e = not_fault e
letters_right list before (suc more) (q ∷ qs) e =
    rw (has_letters before (text list q) (right_field list before q (first_right list before more q qs e)).above)
    (letters_right list (text list q) more qs (others_right list before more q qs e))

-- and the list is short
short_right : (list before : List ℕ) (more q : ℕ) → types_right list more before (fields_in list q (length list)) ≡ no_fault → length list ≤ q + 35 * more
unfolding types_right
short_right list before zero q e = go (ltb q (length list)) refl
  where
    go : (b : Bool) → ltb q (length list) ≡ b → length list ≤ q + 35 * 0
    go false t = let past = ltb-false q (length list) t in omega arith
    go true t = not_fault (rw (field_first list q (length list) (ltb-true q (length list) t)) at e)
short_right list before (suc more) q e = go (ltb q (length list)) refl (λ b r h. short_right list b more r h)
  where
    go : (b : Bool) → ltb q (length list) ≡ b → ((b : List ℕ) (r : ℕ) → types_right list more b (fields_in list r (length list)) ≡ no_fault → length list ≤ r + 35 * more) → length list ≤ q + 35 * suc more
    go false t others = let past = ltb-false q (length list) t in omega arith
    go true t others =
        let qs : List ℕ = fields_in list (end_of list q) (length list) in
        let whole : types_right list (suc more) before (q ∷ qs) ≡ no_fault = subst (λ (ps : List ℕ). types_right list (suc more) before ps ≡ no_fault) (field_first list q (length list) (ltb-true q (length list) t)) e in
        let right : Right list before q = right_field list before q (first_right list before more q qs whole) in
        let rest = others (text list q) (end_of list q) (others_right list before more q qs whole) in
        omega (arith, right.short, rest)

module _ (list : List ℕ) (sound : check_types (chosen list) ≡ no_fault) where
  -- no list at all, or all fields are right
  abbrev NoneOrRight : Type 0
  NoneOrRight = (length list ≡ 0) ⊎ (types_right list 64 [] (type_places list) ≡ no_fault)

  none_or_right : NoneOrRight
  unfolding chosen check_types check_list
  none_or_right = go list sound
    where
      go : (l : List ℕ) → check_types (chosen l) ≡ no_fault → (length l ≡ 0) ⊎ (types_right l 64 [] (type_places l) ≡ no_fault)
      go [] e = inl refl
      go (b ∷ bs) e = inr e

  pub short_list : length list ≤ 2240
  unfolding type_places
  short_list = go none_or_right
    where
      go : NoneOrRight → length list ≤ 2240
      go (inl none) = omega (arith, none)
      go (inr right) = let short = short_right list [] 64 0 right in omega (arith, short)

  pub few_types : length (type_places list) ≤ 64
  unfolding type_places
  few_types = go none_or_right
    where
      go : NoneOrRight → length (type_places list) ≤ 64
      go (inl none) = let z : length (fields_in list 0 (length list)) ≡ 0 = ap length (no_fields list 0 (length list) (omega (arith, none))) in omega (arith, z)
      go (inr right) = few_right list [] 64 (type_places list) right

  types_rise : (i j : ℕ) → i < j → j < length (type_places list) → ascends (type_at list i) (type_at list j) ≡ true
  unfolding type_at type_places
  types_rise = all_rise (type_at list) (length (type_places list)) λ i l. go i l none_or_right
    where
      go : (i : ℕ) → i + 1 < length (type_places list) → NoneOrRight → ascends (type_at list i) (type_at list (suc i)) ≡ true
      go i l (inl none) = let z : length (fields_in list 0 (length list)) ≡ 0 = ap length (no_fields list 0 (length list) (omega (arith, none))) in absurd (omega (arith, z))
      go i l (inr right) = next_right list [] 64 (type_places list) right i l

  -- none is without letters
  pub no_empty_type : is_built_in_text (chosen list) [] ≡ false
  unfolding chosen check_types check_list is_built_in_text built_in_types types_in eight_types any same_bytes
  no_empty_type = go list sound
    where
      go : (l : List ℕ) → check_types (chosen l) ≡ no_fault → any (same_bytes []) (built_in_types (chosen l)) ≡ false
      go [] e = refl
      go (b ∷ bs) e = letters_right (b ∷ bs) [] 64 (type_places (b ∷ bs)) e

  -- ---- The table of places

  pub types_listed : (index : List ℕ) {n : ℕ} → 128 ≤ length index → n ≡ length (fields_in list 0 (length list)) → Listed list (over index 0 (place_bytes (fields_in list 0 (length list)))) n
  unfolding type_places
  types_listed index {n} room many = record { sound = sound; many = many; place = place }
    where
      fits : (j : ℕ) → j < length (fields_in list 0 (length list)) → get_or (fields_in list 0 (length list)) j 0 < 65536
      fits j l = let below = places_below list (length list) (length list) 0 (omega arith) j l in omega (arith, below, short_list)

      place : (i : ℕ) → i < n → two (over index 0 (place_bytes (fields_in list 0 (length list)))) (2 * i) ≡ get_or (fields_in list 0 (length list)) i 0
      place i l =
          let from_start : 0 + 2 * i ≡ 2 * i = omega arith in
          rw from_start at (places_back (fields_in list 0 (length list)) fits index 0 (omega (arith, few_types)) i (omega (arith, many)))

  -- ---- Whether a text is among the types, by where it belongs

  module _ (x : List ℕ) {i : ℕ} (b : Belongs list (length (type_places list)) x i) where
    other_before : (j : ℕ) → j < i → same_bytes x (type_at list j) ≡ false
    other_before j l = other_bytes (type_at list j) x (go (eqb j (i - 1)) refl)
      where
        go : (t : Bool) → eqb j (i - 1) ≡ t → ascends (type_at list j) x ≡ true
        go true t = let same : j ≡ i - 1 = eqb-true j (i - 1) t in rw same (b.behind (omega arith))
        go false t =
            let other = eqb-false j (i - 1) t in
            before_both (type_at list j) (type_at list (i - 1)) x (types_rise j (i - 1) (omega (arith, other)) (omega (arith, b.within))) (b.behind (omega arith))

    other_behind : (j : ℕ) → i < j → j < length (type_places list) → same_bytes x (type_at list j) ≡ false
    other_behind j l h = go (same_bytes x (type_at list j)) refl
      where
        go : (t : Bool) → same_bytes x (type_at list j) ≡ t → t ≡ false
        go false t = refl
        go true t =
            let same : x ≡ type_at list j = bytes_same x (type_at list j) t in
            false_not_true (sym (b.before (omega arith)) ∙ ap (ascends (type_at list i)) same ∙ types_rise i j l h)

    -- none where nothing is left to compare with, or that one decides
    pub belongs_nowhere : length (type_places list) ≤ i → false ≡ any (same_bytes x) (types_in list)
    unfolding types_in type_at
    belongs_nowhere h = sym (any_none (same_bytes x) (text list) (type_places list) λ j l. other_before j (omega arith))

    pub belongs_there : {t : Bool} → i < length (type_places list) → t ≡ same_bytes x (type_at list i) → t ≡ any (same_bytes x) (types_in list)
    unfolding types_in type_at
    belongs_there {t} h e = go t refl
      where
        others : (t ≡ false) → (j : ℕ) → j < length (type_places list) → same_bytes x (type_at list j) ≡ false
        others f j l = by_place (ltb j i) refl (eqb j i) refl
          where
            by_place : (p : Bool) → ltb j i ≡ p → (q : Bool) → eqb j i ≡ q → same_bytes x (type_at list j) ≡ false
            by_place true u q v = other_before j (ltb-true j i u)
            by_place false u true v = let same : j ≡ i = eqb-true j i v in rw same (sym e ∙ f)
            by_place false u false v =
                let at_least_lem = ltb-false j i u in
                let other = eqb-false j i v in
                other_behind j (omega (arith, other)) l

        go : (s : Bool) → s ≡ t → s ≡ any (same_bytes x) (types_in list)
        go true s = sym (any_one (same_bytes x) (text list) (type_places list) i h (sym e ∙ sym s))
        go false s = sym (any_none (same_bytes x) (text list) (type_places list) (others (sym s)))

-- ---- The search by halves

module _ (list index : List ℕ) (count : ℕ) (x : List ℕ) where
  -- the text belongs between the two
  pub record Narrowed (low high : ℕ) : Type 0 where
    pub ordered : low ≤ high
    pub within : high ≤ count
    pub behind : 0 < low → ascends (type_at list (low - 1)) x ≡ true
    pub before : high < count → ascends (type_at list high) x ≡ false

  pub not_narrowed : Narrowed 0 count
  not_narrowed = record { ordered = omega arith; within = omega arith; behind = λ h. absurd (omega arith); before = λ h. absurd (omega arith) }

  pub narrow_enough : {low high : ℕ} → high ≤ low → Narrowed low high → Belongs list count x low
  narrow_enough {low} {high} h n = let same : low ≡ high = omega (arith, n.ordered) in record { within = omega (arith, n.within); behind = n.behind; before = λ l. rw same (n.before (omega (arith, same))) }

  module _ {low high : ℕ} (middle : ℕ) (listed : Listed list index count) (n : Narrowed low high) (above : low ≤ middle) (below : middle < high) {place : ℕ} (placed : place ≡ two index (2 * middle)) {name : List ℕ} (named : name ≡ text list place) {t : Bool} (told : t ≡ ascends name x) where
    middle_told : ascends (type_at list middle) x ≡ t
    unfolding type_at
    middle_told = ap (λ (p : ℕ). ascends (text list p) x) (sym (placed ∙ listed.place middle (omega (arith, n.within)))) ∙ ap (λ (y : List ℕ). ascends y x) (sym named) ∙ sym told

    pub narrow_up : t ≡ true → Narrowed (middle + 1) high
    narrow_up h = record {
      ordered = omega arith;
      within = n.within;
      behind = λ l. let same : middle + 1 - 1 ≡ middle = omega arith in rw same (middle_told ∙ h);
      before = n.before;
    }

    pub narrow_down : t ≡ false → Narrowed low middle
    narrow_down h = record { ordered = above; within = omega (arith, n.within); behind = n.behind; before = λ l. middle_told ∙ h }

-- ---- One law for each way through `is_type`

module _ (list index : List ℕ) (count : ℕ) (x : List ℕ) where
  pub none_lent : {t : Bool} → length list ≡ 0 → t ≡ is_built_in_text the_eight x → t ≡ is_built_in_text (chosen list) x
  unfolding chosen
  none_lent {t} none e = go list none
    where
      go : (l : List ℕ) → length l ≡ 0 → t ≡ is_built_in_text (chosen l) x
      go [] h = e
      go (b ∷ bs) h = absurd (omega arith)

  list_lent : (length list ≡ 0 → ⊥) → any (same_bytes x) (types_in list) ≡ is_built_in_text (chosen list) x
  unfolding chosen is_built_in_text built_in_types
  list_lent some = go list some
    where
      go : (l : List ℕ) → (length l ≡ 0 → ⊥) → any (same_bytes x) (types_in l) ≡ is_built_in_text (chosen l) x
      go [] h = absurd (h refl)
      go (b ∷ bs) h = refl

  module _ (listed : Listed list index count) (some : length list ≡ 0 → ⊥) {i : ℕ} (b : Belongs list count x i) where
    belongs : Belongs list (length (type_places list)) x i
    belongs = rw listed.many at b

    pub all_before : count ≤ i → false ≡ is_built_in_text (chosen list) x
    all_before h = belongs_nowhere list listed.sound x belongs (omega (arith, listed.many)) ∙ list_lent some

    pub by_this : {place : ℕ} {name : List ℕ} {t : Bool} → i < count → place ≡ two index (2 * i) → name ≡ text list place → t ≡ same_bytes x name → t ≡ is_built_in_text (chosen list) x
    unfolding type_at
    by_this h placed named told =
        belongs_there list listed.sound x belongs (omega (arith, listed.many)) (told ∙ ap (same_bytes x) named ∙ ap (λ (p : ℕ). same_bytes x (text list p)) (placed ∙ listed.place i h))
        ∙ list_lent some

-- ---- Where a fault may stand

fault_before : (list before : List ℕ) (more q : ℕ) {r : Reason} {p : ℕ} → types_right list more before (fields_in list q (length list)) ≡ fault_at r p → p ≤ q + 35 * more
unfolding types_right
fault_before list before zero q {r} {p} e = go (ltb q (length list)) refl
  where
    go : (b : Bool) → ltb q (length list) ≡ b → p ≤ q + 35 * 0
    go false t = not_fault (sym (rw (no_fields list q (length list) (ltb-false q (length list) t)) at e))
    go true t = same_place (rw (field_first list q (length list) (ltb-true q (length list) t)) at e) (omega arith)
fault_before list before (suc more) q {r} {p} e = go (ltb q (length list)) refl (λ b r h. fault_before list b more r h)
  where
    go : (b : Bool) → ltb q (length list) ≡ b → ((b : List ℕ) (k : ℕ) → types_right list more b (fields_in list k (length list)) ≡ fault_at r p → p ≤ k + 35 * more) → p ≤ q + 35 * suc more
    go false t others = not_fault (sym (rw (no_fields list q (length list) (ltb-false q (length list) t)) at e))
    go true t others = by_field (field_right list before q) refl (rw (field_first list q (length list) (ltb-true q (length list) t)) at e)
      where
        by_field : (b : Bool) → field_right list before q ≡ b → pick b (types_right list more (text list q) (fields_in list (end_of list q) (length list))) (fault_at TypeList q) ≡ fault_at r p → p ≤ q + 35 * suc more
        by_field false is h = same_place h (omega arith)
        by_field true is h = let right : Right list before q = right_field list before q is in let later = others (text list q) (end_of list q) h in omega (arith, right.short, later)

pub fault_early : (list : List ℕ) {r : Reason} {p : ℕ} → check_list list ≡ fault_at r p → p ≤ 65535
unfolding check_list type_places
fault_early [] e = same_place e (omega arith)
fault_early (b ∷ bs) e = let early = fault_before (b ∷ bs) [] 64 0 e in omega (arith, early)

-- ---- A list that is lent and has no fault is the one chosen

pub lent_chosen : (list : List ℕ) → check_list list ≡ no_fault → chosen list ≡ lent list
unfolding check_list chosen
lent_chosen [] e = not_fault e
lent_chosen (b ∷ bs) e = refl

pub chosen_sound : (list : List ℕ) → check_list list ≡ no_fault → check_types (chosen list) ≡ no_fault
unfolding check_types
chosen_sound list e = rw (lent_chosen list e) e

-- where none is lent there is no fault, and where one is lent its check decides
pub none_sound : (list : List ℕ) → length list ≡ 0 → check_types (chosen list) ≡ no_fault
unfolding chosen check_types
none_sound [] h = refl
none_sound (b ∷ bs) h = absurd (omega arith)

pub fault_not_sound : {A : Type 0} (list : List ℕ) {r : Reason} {p : ℕ} → (length list ≡ 0 → ⊥) → check_list list ≡ fault_at r p → check_types (chosen list) ≡ no_fault → A
unfolding chosen check_types
fault_not_sound [] some f e = absurd (some refl)
fault_not_sound (b ∷ bs) some f e = not_fault (sym f ∙ e)
