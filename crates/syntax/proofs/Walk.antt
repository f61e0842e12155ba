-- The walk by lists of parts is the definition's; and one law for each way through `header_at`, `check_inside` and `check_fields`, its premises in code
-- order, in the shape in which the callees ensure them.
use mathlib.Core.Path.{◌≡◌, refl, sym, ap, ◌∙◌}
use mathlib.Core.Bool.{Bool, true, false, ◌&&◌}
use mathlib.Core.List.{List, [], ◌∷◌}
use mathlib.Core.Option.{Option, none, some}
use Prim.Native.Nat.{ℕ, zero, suc, ◌+◌, ◌-◌, ◌<◌, ◌≤◌}
use native.Mathlib.Omega.{arith}
use native.Mathlib.Numerals.{sub-one}
use lib.Dec.{leb}
use borrow.Author.Tests.{le-leb, lt-leb, leb-true}
use Rattle.values.specs.declared.Reason.{Reason}
use Rattle.values.specs.declared.Reason.TheVariants.{Malformed, TooDeep}
use Rattle.rules.specs.Bytes.{pick, byte, two, end_of, fields_in}
use Rattle.rules.specs.Format.{form_of, head_size, follow, length_right, bytes_right}
use Rattle.rules.specs.Check.{header_there, body_within, length_listed, header, allowing, and_then, walk, rest, body, inside}
use Rattle.rules.specs.declared.Part.{Part}
use Rattle.rules.specs.declared.Parts.{Parts}
use Rattle.rules.specs.declared.Rest.{Rest}
use Rattle.rules.specs.declared.Rest.TheVariants.{Only, Text, Fields}
use Rattle.rules.specs.declared.Next.{Next}
use Rattle.rules.specs.declared.Next.TheVariants.{Go, Wrong}
use Rattle.wire.proofs.Fields.{no_fields, field_first}
use Rattle.format.specs.Numbers.{fields_follow, undone, parts_from, parts_in}
use Rattle.format.specs.Coming.{comes, complete, then_from}
use Rattle.format.proofs.Undone.{left, follow_undone, may_end_undone}
use Rattle.syntax.specs.Walked.{headed, going, walked}
use Rattle.std.specs.Prelude.{Option as CodeOption, Some, None}
use Rattle.rules.specs.Verdicts.{Verdict, fault_at, no_fault}

-- the definition's walk
pub walk_undone : (m : List ℕ) (inner : ℕ → Verdict) (p : ℕ) (ps : Parts) (e : ℕ) (qs : List ℕ) → walk m inner p ps e qs ≡ walked m inner p (undone ps) e qs
unfolding walk walked header headed
walk_undone m inner p ps e [] = rw (may_end_undone ps)
walk_undone m inner p ps e (q ∷ qs) = whole (λ x. walk_undone m inner p x e qs) (header_there q e && (body_within m q e && length_listed m q))
  where
    Others : Type 0
    Others = (x : Parts) → walk m inner p x e qs ≡ walked m inner p (undone x) e qs

    after : Others → (n : Next) (o : Option (List Part)) → left n ≡ o → allowing n (λ ps'. and_then (inner q) (walk m inner p ps' e qs)) (fault_at Malformed q) ≡ going o (λ ps'. and_then (inner q) (walked m inner p ps' e qs)) (fault_at Malformed q)
    after others (Go x) o h = rw (← h) (ap (and_then (inner q)) (others x))
    after others Wrong o h = rw (← h)

    whole : Others → (b : Bool) → allowing (pick b (follow ps (byte m q)) Wrong) (λ ps'. and_then (inner q) (walk m inner p ps' e qs)) (fault_at Malformed q) ≡ going (pick b (comes (undone ps) (byte m q)) none) (λ ps'. and_then (inner q) (walked m inner p ps' e qs)) (fault_at Malformed q)
    whole others true = after others (follow ps (byte m q)) (comes (undone ps) (byte m q)) (follow_undone ps (byte m q))
    whole others false = refl

-- a header
module _ (m : List ℕ) (ps : List Part) (q e : ℕ) (l : q < e) where
  pub cut_short : e - q < 3 → none ≡ headed m ps q e
  unfolding headed
  cut_short h = rw (lt-leb (q + 3) e (omega arith))

  pub runs_past : {n : ℕ} → 3 ≤ e - q → n ≡ two m (q + 1) → e - q - 3 < n → none ≡ headed m ps q e
  unfolding headed
  runs_past h a k = rw (le-leb (q + 3) e (omega arith), lt-leb (end_of m q) e (omega arith))

  module _ {n : ℕ} {a : Bool} (h : 3 ≤ e - q) (en : n ≡ two m (q + 1)) (k : n ≤ e - q - 3) (ea : a ≡ length_right (form_of (byte m q)) n) where
    opened : headed m ps q e ≡ pick a (comes ps (byte m q)) none
    unfolding headed
    opened = rw (le-leb (q + 3) e (omega arith), le-leb (end_of m q) e (omega arith), ← en, ← ea)

    pub wrong_length : a ≡ false → none ≡ headed m ps q e
    wrong_length b = sym (opened ∙ rw b)

    pub right_length : {t : ℕ} {o : Option (List Part)} → a ≡ true → t ≡ byte m q → o ≡ comes ps t → o ≡ headed m ps q e
    right_length b et eo = eo ∙ ap (comes ps) et ∙ sym (opened ∙ rw b)

-- a header that is right: the field ends within its surroundings
pub within : (m : List ℕ) (ps : List Part) (q e : ℕ) {n : CodeOption ℕ} {x : ℕ} → then_from n ≡ headed m ps q e → n ≡ Some x → end_of m q ≤ e
unfolding headed
within m ps q e {n} {x} a h = go (leb (q + 3) e) (leb (end_of m q) e) refl (sym a ∙ ap then_from h)
  where
    go : (u v : Bool) → leb (end_of m q) e ≡ v → pick (u && (v && length_listed m q)) (comes ps (byte m q)) none ≡ some (parts_from x) → end_of m q ≤ e
    go true true w s = leb-true (end_of m q) e w
    go true false w s = absurd (let z : ◌≡◌ {A = ℕ} 0 1 = cc in omega arith)
    go false v w s = absurd (let z : ◌≡◌ {A = ℕ} 0 1 = cc in omega arith)

-- what is inside a field
pub too_deep : (m : List ℕ) (p d : ℕ) → d ≡ 0 → fault_at TooDeep p ≡ inside m d p
unfolding inside
too_deep m p d z = rw z

deep : (m : List ℕ) (p d : ℕ) → (d ≡ 0 → ⊥) → inside m d p ≡ body m (inside m (d - 1)) p (form_of (byte m p))
unfolding inside
deep m p zero z = absurd (z refl)
deep m p (suc d) z = ap (λ (j : ℕ). body m (inside m j) p (form_of (byte m p))) (sym (sub-one (suc d)))

module _ (m : List ℕ) (inner : ℕ → Verdict) (p q : ℕ) where
  no_fields_in : (r : Rest) → fields_follow r ≡ false → rest m inner p q r ≡ no_fault
  unfolding rest fields_follow
  no_fields_in Only e = refl
  no_fields_in Text e = refl
  no_fields_in (Fields ps) e = absurd (let z : ◌≡◌ {A = ℕ} 0 1 = cc in omega arith)

  fields_in_lem : (r : Rest) → fields_follow r ≡ true → rest m inner p q r ≡ walked m inner p (parts_in r) (end_of m p) (fields_in m q (end_of m p))
  unfolding rest fields_follow parts_in
  fields_in_lem Only e = absurd (let z : ◌≡◌ {A = ℕ} 0 1 = cc in omega arith)
  fields_in_lem Text e = absurd (let z : ◌≡◌ {A = ℕ} 0 1 = cc in omega arith)
  fields_in_lem (Fields ps) e = walk_undone m inner p ps (end_of m p) (fields_in m q (end_of m p))

module _ (m : List ℕ) (p d : ℕ) (z : d ≡ 0 → ⊥) {n h : ℕ} (en : n ≡ two m (p + 1)) (eh : h ≡ head_size (form_of (byte m p))) where
  opens : inside m d p ≡ pick (leb h n && bytes_right m p (form_of (byte m p))) (rest m (inside m (d - 1)) p (p + 3 + h) (form_of (byte m p)).rest) (fault_at Malformed p)
  unfolding body
  opens = deep m p d z ∙ rw (← eh, ← en)

  pub no_head : n < h → fault_at Malformed p ≡ inside m d p
  no_head x = sym (opens ∙ rw (lt-leb h n x))

  module _ {a : Bool} (x : h ≤ n) (ea : a ≡ bytes_right m p (form_of (byte m p))) where
    pub wrong_bytes : a ≡ false → fault_at Malformed p ≡ inside m d p
    wrong_bytes ha = sym (opens ∙ rw (le-leb h n x, ← ea, ha))

    module _ {b : Bool} (ha : a ≡ true) (eb : b ≡ fields_follow (form_of (byte m p)).rest) where
      right_bytes : inside m d p ≡ rest m (inside m (d - 1)) p (p + 3 + h) (form_of (byte m p)).rest
      right_bytes = opens ∙ rw (le-leb h n x, ← ea, ha)

      pub no_more : b ≡ false → no_fault ≡ inside m d p
      no_more hb = sym (right_bytes ∙ no_fields_in m (inside m (d - 1)) p (p + 3 + h) (form_of (byte m p)).rest (sym eb ∙ hb))

      pub its_fields : {t : ℕ} (x : ℕ) {r : Verdict} → b ≡ true → t ≡ byte m p → parts_from x ≡ parts_in (form_of t).rest → r ≡ walked m (inside m (d - 1)) p (parts_from x) (p + 3 + n) (fields_in m (p + 3 + h) (p + 3 + n)) → r ≡ inside m d p
      its_fields x hb et ex er = er ∙ rw (ex, et, en) (sym (right_bytes ∙ fields_in_lem m (inside m (d - 1)) p (p + 3 + h) (form_of (byte m p)).rest (sym eb ∙ hb)))

-- the fields from q to e
module _ (m : List ℕ) (inner : ℕ → Verdict) (p : ℕ) (ps : List Part) (q e : ℕ) where
  pub all_there : {a : Bool} → e ≤ q → a ≡ complete ps → a ≡ true → no_fault ≡ walked m inner p ps e (fields_in m q e)
  unfolding walked
  all_there h a b = rw (no_fields m q e h, ← a, b)

  pub lacking : {a : Bool} → e ≤ q → a ≡ complete ps → a ≡ false → fault_at Malformed p ≡ walked m inner p ps e (fields_in m q e)
  unfolding walked
  lacking h a b = rw (no_fields m q e h, ← a, b)

  module _ {n : CodeOption ℕ} (l : q < e) (en : then_from n ≡ headed m ps q e) where
    pub wrong_header : n ≡ None → fault_at Malformed q ≡ walked m inner p ps e (fields_in m q e)
    unfolding walked
    wrong_header h = rw (field_first m q e l, ← en, h)

    module _ {x : ℕ} {v : Verdict} (h : n ≡ Some x) (ev : v ≡ inner q) where
      pub fault_inside : {r : Reason} {k : ℕ} → v ≡ fault_at r k → v ≡ walked m inner p ps e (fields_in m q e)
      unfolding walked
      fault_inside f = rw (field_first m q e l, ← en, h, ← ev, f)

      pub next_field : {k : ℕ} {whole : Verdict} → k ≡ two m (q + 1) → v ≡ no_fault → walked m inner p ps e (fields_in m q e) ≡ whole → walked m inner p (parts_from x) e (fields_in m (q + 3 + k) e) ≡ whole
      unfolding walked
      next_field k s w = rw k (rw (field_first m q e l, ← en, h, ← ev, s) at w)
