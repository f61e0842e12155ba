-- Where the names of all fields from a place on are known, so are those of the field there, of the fields in it, and of what comes after it: the
-- walk in reading order comes to each field of a sound manifest. It is `NamesFrom m n z p` (specs/Names.antt).
use Prim.Native.Nat.{ℕ, zero, suc, ◌+◌, ◌-◌, ◌<◌, ◌≤◌}
use mathlib.Core.Path.{◌≡◌, refl, ap, subst}
use mathlib.Core.Bool.{Bool, true, false}
use mathlib.Core.List.{List}
use native.Mathlib.Omega.{arith}
use lib.Dec.{ltb}
use lib.ListN.{length}
use borrow.Author.Tests.{ltb-true, ltb-false}
use Rattle.values.specs.declared.Reason.TheVariants.{StringOrder}
use Rattle.rules.specs.Bytes.{pick, byte, two, end_of, fields_in}
use Rattle.rules.specs.Format.{form_of, size, head_size, name_right, names_right}
use Rattle.rules.specs.Check.{walk, inside, stride, next_in_order, places_in, names_known, string_places, check}
use Rattle.rules.specs.declared.Parts.{Parts}
use Rattle.rules.specs.declared.Piece.{Piece}
use Rattle.rules.specs.declared.Piece.TheVariants.{Name}
use Rattle.rules.specs.declared.Rest.{Rest}
use Rattle.rules.specs.declared.Rest.TheVariants.{Only, Text, Fields}
use Rattle.rules.specs.declared.Form.{Form}
use Rattle.rules.proofs.Within.{fault_not_sound, first_field, SoundBody, inside_sound, level_left, check_sound}
use Rattle.rules.proofs.Listed.{both_left, both_right}
use Rattle.syntax.specs.Names.{NamesFrom}
use Rattle.syntax.proofs.Reading.{place_first}
use Rattle.rules.specs.Verdicts.{fault_at, no_fault}

-- into the fields of a field
stride_in : {r : Rest} {ps : Parts} (h n : ℕ) → r ≡ Fields ps → stride r h n ≡ h
unfolding stride
stride_in h n e = ap (λ (r : Rest). stride r h n) e

module _ (m : List ℕ) (n z : ℕ) where
  abbrev Known : ℕ → Type 0
  Known p = NamesFrom m n z p

  -- the names of the field there, and those from the next one on
  record KnownHere (p : ℕ) : Type 0 where
    names : names_right m n p (form_of (byte m p)) ≡ true
    next : Known (next_in_order m p)

  known_here : (p : ℕ) → p < z → Known p → KnownHere p
  unfolding names_known
  known_here p l k = go (names_right m n p (form_of (byte m p))) refl (rw (place_first m p z l) at k.sound)
    where
      go : (b : Bool) → names_right m n p (form_of (byte m p)) ≡ b → pick b (names_known m n (places_in m (next_in_order m p) z)) (fault_at StringOrder p) ≡ no_fault → KnownHere p
      go true h w = record { names = h; next = record { sound = w } }
      go false h w = fault_not_sound w

  pub its_names : (p : ℕ) → p < z → Known p → names_right m n p (form_of (byte m p)) ≡ true
  its_names p l k = (known_here p l k).names

  -- the first of the fields in it
  pub known_inside : (p : ℕ) (ps : Parts) → p < z → (form_of (byte m p)).rest ≡ Fields ps → Known p → Known (p + 3 + head_size (form_of (byte m p)))
  known_inside p ps l r k = subst (λ (j : ℕ). Known (p + 3 + j)) (stride_in (head_size (form_of (byte m p))) (two m (p + 1)) r) (known_here p l k).next

  -- what comes after it
  PastAt : ℕ → Type 0
  PastAt d = (p : ℕ) → inside m d p ≡ no_fault → end_of m p ≤ z → Known p → Known (end_of m p)

  past_fields : (k d p : ℕ) (ps : Parts) (q e : ℕ) → PastAt d → e - q ≤ k → q ≤ e → e ≤ z → walk m (inside m d) p ps e (fields_in m q e) ≡ no_fault → Known q → Known e
  unfolding PastAt
  past_fields zero d p ps q e past b l h w kn = let end : q ≡ e = omega arith in subst Known end kn
  past_fields (suc k) d p ps q e past b l h w kn = go (λ x r c i v u. past_fields k d p x r e past c i h v u) (ltb q e) refl
    where
      go : ((ps : Parts) (r : ℕ) → e - r ≤ k → r ≤ e → walk m (inside m d) p ps e (fields_in m r e) ≡ no_fault → Known r → Known e) → (t : Bool) → ltb q e ≡ t → Known e
      go later false t = let past_end : e ≤ q = ltb-false q e t in let end : q ≡ e = omega arith in subst Known end kn
      go later true t =
          let i : q < e = ltb-true q e t in
          let f = first_field m (inside m d) p ps q e i w in
          let ends : end_of m q ≤ e = f.right.ends in
          later f.next (end_of m q) (omega arith) ends f.others (past q f.sound (omega arith) kn)

  pub known_after : (d p : ℕ) → inside m d p ≡ no_fault → end_of m p ≤ z → Known p → Known (end_of m p)
  unfolding PastAt stride
  known_after zero p s h kn = let u = level_left m zero p s in absurd (omega arith)
  known_after (suc d) p s h kn = go (λ q i j k. known_after d q i j k) (inside_sound m d p s) (form_of (byte m p)).rest refl (known_here p (omega arith) kn).next
    where
      go : PastAt d → SoundBody m (inside m d) p (form_of (byte m p)) → (r : Rest) → (form_of (byte m p)).rest ≡ r → Known (p + 3 + stride (form_of (byte m p)).rest (head_size (form_of (byte m p))) (two m (p + 1))) → Known (end_of m p)
      go past b Only e next = rw e at next
      go past b Text e next = rw e at next
      go past b (Fields ps) e next =
          let pieces = b.pieces in
          past_fields (end_of m p) d p ps (p + 3 + head_size (form_of (byte m p))) (end_of m p) past (omega arith) (omega arith) h (b.fields ps e) (subst (λ (j : ℕ). Known (p + 3 + j)) (stride_in (head_size (form_of (byte m p))) (two m (p + 1)) e) next)

-- a sound manifest: the names of all items
pub items_known : (m : List ℕ) → check m ≡ no_fault → NamesFrom m (length (string_places m)) (length m) (end_of m 0)
items_known m w = record { sound = (check_sound m w).names }

-- ---- The names that a field begins with

name_below : (m : List ℕ) (n q : ℕ) (x : Piece) → x ≡ Name → name_right m n q x ≡ true → two m q < n
unfolding name_right
name_below m n q x e w = ltb-true (two m q) n (subst (λ (y : Piece). name_right m n q y ≡ true) e w)

module _ (m : List ℕ) (n p : ℕ) (l : Form) (w : names_right m n p l ≡ true) where
  pub first_name_lem : l.one ≡ Name → two m (p + 3) < n
  unfolding names_right
  first_name_lem e = name_below m n (p + 3) l.one e (both_left (name_right m n (p + 3) l.one) (name_right m n (p + 3 + size l.one) l.two) w)

  pub second_name_lem : l.two ≡ Name → two m (p + 3 + size l.one) < n
  unfolding names_right
  second_name_lem e = name_below m n (p + 3 + size l.one) l.two e (both_right (name_right m n (p + 3) l.one) (name_right m n (p + 3 + size l.one) l.two) w)
