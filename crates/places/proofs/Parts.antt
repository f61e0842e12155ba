-- The parts of a sound body, one after the other, at their places: what the first part takes stands soundly, and the parts after it come next.
-- And the step from one field to the next.
use Prim.Native.Nat.{ℕ, zero, suc, ◌+◌, ◌-◌, ◌<◌, ◌≤◌}
use mathlib.Core.Path.{◌≡◌, refl, sym, ap, ◌∙◌, subst}
use mathlib.Core.Logic.{◌⊎◌, inl, inr}
use mathlib.Core.Bool.{Bool, true, false, ◌&&◌}
use mathlib.Core.List.Memᴰ
use mathlib.Core.List.{List, [], ◌∷◌, Memᴰ, not-mem-nil}
use native.Mathlib.Omega.{arith}
use lib.Dec.{eqb, ltb, leb}
use lib.ListN.{length}
use borrow.Author.Tests.{ltb-true, ltb-false, eqb-true, eqb-false}
use Rattle.values.specs.declared.Reason.TheVariants.{Malformed}
use Rattle.wire.specs.Bytes.{pick, byte, two, end_of, fields_in}
use Rattle.wire.proofs.Fields.{no_fields, field_first}
use Rattle.rules.specs.Format.{allowed, take, taken, three, follow, form_of, part_may_end, may_end, length_right}
use Rattle.rules.specs.Check.{header, and_then, allowing, walk, inside}
use Rattle.rules.specs.declared.Kind.{Kind}
use Rattle.rules.specs.declared.Kind.TheVariants.{Device}
use Rattle.rules.specs.declared.Part.{Part}
use Rattle.rules.specs.declared.Part.TheVariants.{Over, One, UpTo, Many, Names}
use Rattle.rules.specs.declared.Parts.{Parts}
use Rattle.rules.specs.declared.Took.{Took}
use Rattle.rules.specs.declared.Took.TheVariants.{Takes, Passes, Refuses}
use Rattle.rules.specs.declared.Next.{Next}
use Rattle.rules.specs.declared.Next.TheVariants.{Go, Wrong}
use Rattle.rules.proofs.Within.{false_not_true, wrong_not_go, FirstField, first_field, none_missing}
use Rattle.rules.proofs.Listed.{both_left, both_right, takes_what, not_takes, not_refused, not_passes, refused_not_passes}
use Rattle.places.specs.At.{Stands, StandsAs, Siblings, ended, sibling}
use Rattle.rules.specs.Verdicts.{Verdict, fault_at, no_fault}

-- ---- A part that is over, or passes a field on, is as none

-- what may come after a field, by what the first part makes of it
follow_by : (a b c : Part) (t : ℕ) (x : Took) → take a t ≡ x → follow (three a b c) t ≡ taken x (λ z. Go (three z b c)) (follow (three Over b c) t)
unfolding follow take
follow_by a b c t x h = ap (λ (y : Took). taken y (λ z. Go (three z b c)) (taken (take b t) (λ z. Go (three Over z c)) (taken (take c t) (λ z. Go (three Over Over z)) Wrong))) h

first_may_end : (a b c : Part) → may_end (three a b c) ≡ true → part_may_end a ≡ true
unfolding may_end
first_may_end a b c h = both_left (part_may_end a) (part_may_end b && part_may_end c) h

others_may_end : (a b c : Part) → may_end (three a b c) ≡ true → may_end (three Over b c) ≡ true
unfolding may_end part_may_end
others_may_end a b c h = both_right (part_may_end a) (part_may_end b && part_may_end c) h

module _ (m : List ℕ) (inner : ℕ → Verdict) (p e : ℕ) where
  over_first : (qs : List ℕ) (b c : Part) → walk m inner p (three Over b c) e qs ≡ walk m inner p (three b c Over) e qs
  unfolding walk header follow take may_end part_may_end
  over_first [] b c = go (part_may_end b) (part_may_end c)
    where
      go : (x y : Bool) → pick (true && (x && y)) no_fault (fault_at Malformed p) ≡ pick (x && (y && true)) no_fault (fault_at Malformed p)
      go true true = refl
      go true false = refl
      go false y = refl
  over_first (q ∷ qs) b c = go (λ x y. over_first qs x y) (leb (q + 3) e && (leb (end_of m q) e && length_right (form_of (byte m q)) (two m (q + 1)))) (take b (byte m q)) (take c (byte m q))
    where
      next : Parts → Verdict
      next ps = and_then (inner q) (walk m inner p ps e qs)

      go : ((x y : Part) → walk m inner p (three Over x y) e qs ≡ walk m inner p (three x y Over) e qs) → (h : Bool) (x y : Took) → allowing (pick h (taken x (λ z. Go (three Over z c)) (taken y (λ z. Go (three Over Over z)) Wrong)) Wrong) next (fault_at Malformed q) ≡ allowing (pick h (taken x (λ z. Go (three z c Over)) (taken y (λ z. Go (three Over z Over)) Wrong)) Wrong) next (fault_at Malformed q)
      go later false x y = refl
      go later true (Takes z) y = ap (and_then (inner q)) (later z c)
      go later true Passes (Takes z) = ap (and_then (inner q)) (later Over z)
      go later true Passes Passes = refl
      go later true Passes Refuses = refl
      go later true Refuses y = refl

  walk_same : (ps qs : Parts) (q : ℕ) (after : List ℕ) → follow ps (byte m q) ≡ follow qs (byte m q) → walk m inner p ps e (q ∷ after) ≡ walk m inner p qs e (q ∷ after)
  unfolding walk header
  walk_same ps qs q after h = ap (λ (x : Next). allowing (pick (leb (q + 3) e && (leb (end_of m q) e && length_right (form_of (byte m q)) (two m (q + 1)))) x Wrong) (λ y. and_then (inner q) (walk m inner p y e after)) (fault_at Malformed q)) h

  -- at the end of the fields no part is missing
  ends_sound : (ps : Parts) (q : ℕ) → e ≤ q → may_end ps ≡ true → walk m inner p ps e (fields_in m q e) ≡ no_fault
  unfolding walk
  ends_sound ps q l h = rw (no_fields m q e l, h) refl

-- ---- The first part

-- the fields from q to e, with d levels left for each, are soundly those of the parts ps of the field at p
pub record PartsStand (m : List ℕ) (d p : ℕ) (ps : Parts) (q e : ℕ) : Type 0 where
  pub depth : d ≤ 32
  pub from : q ≤ e
  pub ends : e ≤ length m
  pub sound : walk m (inside m d) p ps e (fields_in m q e) ≡ no_fault

-- the first of three parts takes the field at q, or takes no field at all
data FirstPart (m : List ℕ) (d p : ℕ) (a b c : Part) (q e : ℕ) : Type 0 where
  takes : (x : Part) → take a (byte m q) ≡ Takes x → q < e → Stands m d q → PartsStand m d p (three x b c) (end_of m q) e → FirstPart m d p a b c q e
  passes : take a (byte m q) ≡ Passes → PartsStand m d p (three b c Over) q e → FirstPart m d p a b c q e
  ends : part_may_end a ≡ true → PartsStand m d p (three b c Over) q e → FirstPart m d p a b c q e

goes_where : {a b : Parts} → Go a ≡ Go b → a ≡ b
goes_where e = cc

first_part : {m : List ℕ} {d p : ℕ} {a b c : Part} {q e : ℕ} → PartsStand m d p (three a b c) q e → FirstPart m d p a b c q e
first_part {m} {d} {p} {a} {b} {c} {q} {e} s = go (ltb q e) refl
  where
    passed : walk m (inside m d) p (three Over b c) e (fields_in m q e) ≡ no_fault → PartsStand m d p (three b c Over) q e
    passed w = record { depth = s.depth; from = s.from; ends = s.ends; sound = sym (over_first m (inside m d) p e (fields_in m q e) b c) ∙ w }

    here : q < e → FirstField m (inside m d) p (three a b c) q e → (x : Took) → take a (byte m q) ≡ x → FirstPart m d p a b c q e
    here l f (Takes x) h =
        let next : three x b c ≡ f.next = goes_where (sym (follow_by a b c (byte m q) (Takes x) h) ∙ f.right.tag) in
        let s-ends = s.ends in
        let f-ends = f.right.ends in
        takes x h l (record { depth = s.depth; sound = f.sound; ends = omega arith; size = f.right.size }) (record { depth = s.depth; from = f-ends; ends = s-ends; sound = rw next f.others })
    here l f Passes h =
        let first = field_first m q e l in
        let skip = walk_same m (inside m d) p e (three a b c) (three Over b c) q (fields_in m (end_of m q) e) (follow_by a b c (byte m q) Passes h) in
        passes h (passed (ap (walk m (inside m d) p (three Over b c) e) first ∙ sym skip ∙ sym (ap (walk m (inside m d) p (three a b c) e) first) ∙ s.sound))
    here l f Refuses h = wrong_not_go (sym (follow_by a b c (byte m q) Refuses h) ∙ f.right.tag)

    at_end_lem : e ≤ q → may_end (three a b c) ≡ true → FirstPart m d p a b c q e
    at_end_lem l h = ends (first_may_end a b c h) (passed (ends_sound m (inside m d) p e (three Over b c) q l (others_may_end a b c h)))

    go : (x : Bool) → ltb q e ≡ x → FirstPart m d p a b c q e
    go false h = at_end_lem (ltb-false q e h) (none_missing m (inside m d) p (three a b c) q e (ltb-false q e h) s.sound)
    go true h = here (ltb-true q e h) (first_field m (inside m d) p (three a b c) q e (ltb-true q e h) s.sound) (take a (byte m q)) refl

-- ---- Parts of each sort

-- where the first part is over, the others are left
over_part : {m : List ℕ} {d p : ℕ} {b c : Part} {q e : ℕ} → PartsStand m d p (three Over b c) q e → PartsStand m d p (three b c Over) q e
over_part {m} {d} {p} {b} {c} {q} {e} s = record { depth = s.depth; from = s.from; ends = s.ends; sound = sym (over_first m (inside m d) p e (fields_in m q e) b c) ∙ s.sound }

-- where all are over, so are the fields
pub all_over : {m : List ℕ} {d p q e : ℕ} → PartsStand m d p (three Over Over Over) q e → q ≡ e
unfolding follow take
all_over {m} {d} {p} {q} {e} s = go (ltb q e) refl
  where
    go : (x : Bool) → ltb q e ≡ x → q ≡ e
    go false h = let l = ltb-false q e h in let from = s.from in omega arith
    go true h = let f = first_field m (inside m d) p (three Over Over Over) q e (ltb-true q e h) s.sound in wrong_not_go f.right.tag

-- one field of the kind k
pub record OnePart (m : List ℕ) (d p : ℕ) (k : Kind) (b c : Part) (q e : ℕ) : Type 0 where
  pub before : q < e
  pub part : StandsAs m d k q
  pub after : PartsStand m d p (three b c Over) (end_of m q) e

pub one_part : {m : List ℕ} {d p : ℕ} {k : Kind} {b c : Part} {q e : ℕ} → PartsStand m d p (three (One k) b c) q e → OnePart m d p k b c q e
unfolding take part_may_end
one_part {m} {d} {p} {k} {b} {c} {q} {e} s = go (first_part s)
  where
    taken_one : (x : Part) (y : Bool) → allowed k (byte m q) ≡ y → pick y (Takes Over) Refuses ≡ Takes x → q < e → Stands m d q → PartsStand m d p (three x b c) (end_of m q) e → OnePart m d p k b c q e
    taken_one x true h t l r s = record { before = l; part = record { stands = r; kind = h }; after = over_part (subst (λ (z : Part). PartsStand m d p (three z b c) (end_of m q) e) (sym (takes_what t)) s) }
    taken_one x false h t l r s = not_refused t

    not_passed : (y : Bool) → pick y (Takes Over) Refuses ≡ Passes → OnePart m d p k b c q e
    not_passed true t = not_passes t
    not_passed false t = refused_not_passes t

    go : FirstPart m d p (One k) b c q e → OnePart m d p k b c q e
    go (takes x t l r s) = taken_one x (allowed k (byte m q)) refl t l r s
    go (passes t s) = not_passed (allowed k (byte m q)) t
    go (ends t s) = false_not_true t

-- fields of the kind k, any number of them: they end where the next part begins
pub record ManyPart (m : List ℕ) (d p : ℕ) (k : Kind) (b c : Part) (q e : ℕ) : Type 0 where
  pub to : ℕ
  pub siblings : Siblings m d k q to
  pub after : PartsStand m d p (three b c Over) to e

no_more : {m : List ℕ} {d p : ℕ} {k : Kind} {b c : Part} {q e : ℕ} → PartsStand m d p (three b c Over) q e → ManyPart m d p k b c q e
no_more {q = q} s = record { to = q; siblings = ended; after = s }

-- siblings stand in order
pub siblings_rise : {m : List ℕ} {d : ℕ} {k : Kind} {q e : ℕ} → Siblings m d k q e → q ≤ e
siblings_rise ended = omega arith
siblings_rise (sibling l s i) = omega arith

one_more : {m : List ℕ} {d p : ℕ} {k : Kind} {b c : Part} {q e : ℕ} → StandsAs m d k q → ManyPart m d p k b c (end_of m q) e → ManyPart m d p k b c q e
one_more {q = q} s i =
    let up = siblings_rise i.siblings in
    let before : q < i.to = omega arith in
    record { to = i.to; siblings = sibling before s i.siblings; after = i.after }

-- the parts that take any number of fields of a kind, or up to a number of them
data Repeats (k : Kind) : Part → Type 0 where
  many : Repeats k (Many k)
  up_to : {n : ℕ} → Repeats k (UpTo n k)

-- what they take is of that kind, and they go on so
record Repeated (k : Kind) (t : ℕ) (x : Part) : Type 0 where
  kind : allowed k t ≡ true
  left : Repeats k x

repeated : {k : Kind} {a : Part} → Repeats k a → (t : ℕ) (x : Part) → take a t ≡ Takes x → Repeated k t x
unfolding take
repeated {k} many t x e = go (allowed k t) refl e
  where
    go : (b : Bool) → allowed k t ≡ b → pick b (Takes (Many k)) Passes ≡ Takes x → Repeated k t x
    go true h e = record { kind = h; left = subst (Repeats k) (takes_what e) many }
    go false h e = not_takes e
repeated {k} (up_to {n = n}) t x e = go (eqb n 0) (allowed k t) refl e
  where
    go : (z b : Bool) → allowed k t ≡ b → pick z Passes (pick b (Takes (UpTo (n - 1) k)) Passes) ≡ Takes x → Repeated k t x
    go true b h e = not_takes e
    go false true h e = record { kind = h; left = subst (Repeats k) (takes_what e) up_to }
    go false false h e = not_takes e

repeating_part : {m : List ℕ} {d p : ℕ} {k : Kind} {a b c : Part} {q e : ℕ} → Repeats k a → PartsStand m d p (three a b c) q e → ManyPart m d p k b c q e
repeating_part {m} {d} {p} {k} {a} {b} {c} {q} {e} r s = from e a q r (omega arith) s
  where
    go : (a : Part) (q : ℕ) → Repeats k a → ((x : Part) → Repeats k x → q < e → PartsStand m d p (three x b c) (end_of m q) e → ManyPart m d p k b c (end_of m q) e) → FirstPart m d p a b c q e → ManyPart m d p k b c q e
    go a q r later (takes x t l i s) = let y = repeated r (byte m q) x t in one_more (record { stands = i; kind = y.kind }) (later x y.left l s)
    go a q r later (passes t s) = no_more s
    go a q r later (ends t s) = no_more s

    from : (n : ℕ) (a : Part) (q : ℕ) → Repeats k a → e - q ≤ n → PartsStand m d p (three a b c) q e → ManyPart m d p k b c q e
    from zero a q r l s = go a q r (λ x y h. absurd (omega arith)) (first_part s)
    from (suc n) a q r l s = go a q r (λ x y h s. from n x (end_of m q) y (omega arith) s) (first_part s)

pub many_part : {m : List ℕ} {d p : ℕ} {k : Kind} {b c : Part} {q e : ℕ} → PartsStand m d p (three (Many k) b c) q e → ManyPart m d p k b c q e
many_part s = repeating_part many s

pub up_to_part : {m : List ℕ} {d p n : ℕ} {k : Kind} {b c : Part} {q e : ℕ} → PartsStand m d p (three (UpTo n k) b c) q e → ManyPart m d p k b c q e
up_to_part s = repeating_part up_to s

-- where nothing else may come, they go on to the end
pub last_many : {m : List ℕ} {d p : ℕ} {k : Kind} {q e : ℕ} → ManyPart m d p k Over Over q e → Siblings m d k q e
last_many {m} {d} {k = k} {q = q} i = subst (Siblings m d k q) (all_over i.after) i.siblings

-- there are no more of them than the part allows
at_most : {m : List ℕ} {d p n : ℕ} {k : Kind} {q e : ℕ} → (0 < n → PartsStand m d p (three (UpTo (n - 1) k) Over Over) (end_of m q) e → length (fields_in m (end_of m q) e) ≤ n - 1) → FirstPart m d p (UpTo n k) Over Over q e → length (fields_in m q e) ≤ n
unfolding take
at_most {m} {d} {p} {n} {k} {q} {e} later (takes x t l r s) = go (eqb n 0) refl (allowed k (byte m q)) t
  where
    go : (z : Bool) → eqb n 0 ≡ z → (b : Bool) → pick z Passes (pick b (Takes (UpTo (n - 1) k)) Passes) ≡ Takes x → length (fields_in m q e) ≤ n
    go true hz b t = not_takes t
    go false hz true t =
        let some = eqb-false n 0 hz in
        let fewer = later (omega arith) (subst (λ (z : Part). PartsStand m d p (three z Over Over) (end_of m q) e) (sym (takes_what t)) s) in
        rw (field_first m q e l) (omega arith)
    go false hz false t = not_takes t
at_most {m} {q = q} {e = e} later (passes t s) = let over = all_over s in rw (no_fields m q e (omega arith)) (omega arith)
at_most {m} {q = q} {e = e} later (ends t s) = let over = all_over s in rw (no_fields m q e (omega arith)) (omega arith)

pub up_to_most : {m : List ℕ} {d p : ℕ} (n : ℕ) {k : Kind} {q e : ℕ} → PartsStand m d p (three (UpTo n k) Over Over) q e → length (fields_in m q e) ≤ n
up_to_most {m} {d} {p} n {k} {q} {e} s = go n n (omega arith) q s
  where
    go : (j n : ℕ) → n ≤ j → (q : ℕ) → PartsStand m d p (three (UpTo n k) Over Over) q e → length (fields_in m q e) ≤ n
    go zero n l q s = at_most (λ h. absurd (omega arith)) (first_part s)
    go (suc j) n l q s = at_most (λ h s. go j (n - 1) (omega arith) (end_of m q) s) (first_part s)

-- at most one field of the kind k
pub data PerhapsPart (m : List ℕ) (d p : ℕ) (k : Kind) (b c : Part) (q e : ℕ) : Type 0 where
  there : q < e → StandsAs m d k q → PartsStand m d p (three b c Over) (end_of m q) e → PerhapsPart m d p k b c q e
  not_there : PartsStand m d p (three b c Over) q e → PerhapsPart m d p k b c q e

pub perhaps_part : {m : List ℕ} {d p : ℕ} {k : Kind} {b c : Part} {q e : ℕ} → PartsStand m d p (three (UpTo 1 k) b c) q e → PerhapsPart m d p k b c q e
unfolding take
perhaps_part {m} {d} {p} {k} {b} {c} {q} {e} s = go (first_part s)
  where
    none_left : {q : ℕ} → FirstPart m d p (UpTo 0 k) b c q e → PartsStand m d p (three b c Over) q e
    none_left (takes x t l r s) = not_takes t
    none_left (passes t s) = s
    none_left (ends t s) = s

    taken_one : (x : Part) (y : Bool) → allowed k (byte m q) ≡ y → pick y (Takes (UpTo 0 k)) Passes ≡ Takes x → q < e → Stands m d q → PartsStand m d p (three x b c) (end_of m q) e → PerhapsPart m d p k b c q e
    taken_one x true h t l r s = there l (record { stands = r; kind = h }) (none_left (first_part (subst (λ (z : Part). PartsStand m d p (three z b c) (end_of m q) e) (sym (takes_what t)) s)))
    taken_one x false h t l r s = not_takes t

    go : FirstPart m d p (UpTo 1 k) b c q e → PerhapsPart m d p k b c q e
    go (takes x t l r s) = taken_one x (allowed k (byte m q)) refl t l r s
    go (passes t s) = not_there s
    go (ends t s) = not_there s

-- the names of a node: one 1B, or one or more 31
pub data NamesPart (m : List ℕ) (d p : ℕ) (b c : Part) (q e : ℕ) : Type 0 where
  default : q < e → Stands m d q → byte m q ≡ 0x1b → PartsStand m d p (three b c Over) (end_of m q) e → NamesPart m d p b c q e
  devices : q < e → StandsAs m d Device q → ManyPart m d p Device b c q e → NamesPart m d p b c q e

pub names_part : {m : List ℕ} {d p : ℕ} {b c : Part} {q e : ℕ} → PartsStand m d p (three Names b c) q e → NamesPart m d p b c q e
unfolding take part_may_end allowed
names_part {m} {d} {p} {b} {c} {q} {e} s = go (first_part s)
  where
    taken_names : (x : Part) (y : Bool) → eqb (byte m q) 0x31 ≡ y → (z : Bool) → eqb (byte m q) 0x1b ≡ z → pick y (Takes (Many Device)) (pick z (Takes Over) Refuses) ≡ Takes x → q < e → Stands m d q → PartsStand m d p (three x b c) (end_of m q) e → NamesPart m d p b c q e
    taken_names x true hy z hz t l r s =
        let here : StandsAs m d Device q = record { stands = r; kind = hy } in
        devices l here (one_more here (many_part (subst (λ (z : Part). PartsStand m d p (three z b c) (end_of m q) e) (sym (takes_what t)) s)))
    taken_names x false hy true hz t l r s = default l r (eqb-true (byte m q) 0x1b hz) (over_part (subst (λ (z : Part). PartsStand m d p (three z b c) (end_of m q) e) (sym (takes_what t)) s))
    taken_names x false hy false hz t l r s = not_refused t

    not_passed : (y z : Bool) → pick y (Takes (Many Device)) (pick z (Takes Over) Refuses) ≡ Passes → NamesPart m d p b c q e
    not_passed true z t = not_passes t
    not_passed false true t = not_passes t
    not_passed false false t = refused_not_passes t

    go : FirstPart m d p Names b c q e → NamesPart m d p b c q e
    go (takes x t l r s) = taken_names x (eqb (byte m q) 0x31) refl (eqb (byte m q) 0x1b) refl t l r s
    go (passes t s) = not_passed (eqb (byte m q) 0x31) (eqb (byte m q) 0x1b) t
    go (ends t s) = false_not_true t

-- ---- From one sibling to the next

-- before the end a sibling stands at q, and its siblings from its end on; `field_first` of `wire` says the same of the list of places
pub record FirstSibling (m : List ℕ) (d : ℕ) (k : Kind) (q e : ℕ) : Type 0 where
  pub here : StandsAs m d k q
  pub after : Siblings m d k (end_of m q) e
  pub places : fields_in m q e ≡ q ∷ fields_in m (end_of m q) e

pub first_sibling : {m : List ℕ} {d : ℕ} {k : Kind} {q e : ℕ} → Siblings m d k q e → q < e → FirstSibling m d k q e
first_sibling ended l = absurd (omega arith)
first_sibling {m} {q = q} {e = e} (sibling h s i) l = record { here = s; after = i; places = field_first m q e l }

-- at the end there are none
pub record NoSibling (m : List ℕ) (q e : ℕ) : Type 0 where
  pub at : q ≡ e
  pub places : fields_in m q e ≡ []

pub no_sibling : {m : List ℕ} {d : ℕ} {k : Kind} {q e : ℕ} → Siblings m d k q e → e ≤ q → NoSibling m q e
no_sibling {m} {q = q} {e = e} s l = let up = siblings_rise s in record { at = omega arith; places = no_fields m q e l }

-- siblings one after the other are told by the kind of what comes after them: while q holds one it is before their end
pub siblings_go_on : {m : List ℕ} {d : ℕ} {k : Kind} {q e : ℕ} → Siblings m d k q e → allowed k (byte m e) ≡ false → allowed k (byte m q) ≡ true → q < e
siblings_go_on ended n t = false_not_true (sym n ∙ t)
siblings_go_on (sibling l s i) n t = l

pub siblings_stop : {m : List ℕ} {d : ℕ} {k : Kind} {q e : ℕ} → Siblings m d k q e → allowed k (byte m q) ≡ false → q ≡ e
siblings_stop ended n = refl
siblings_stop (sibling l s i) n = false_not_true (sym n ∙ s.kind)

-- each of them
pub each_sibling : {m : List ℕ} {d : ℕ} {k : Kind} {q e r : ℕ} → Siblings m d k q e → Memᴰ r (fields_in m q e) → StandsAs m d k r
each_sibling {m} {e = e} ended i = absurd (not-mem-nil (∣ rw (no_fields m e e (omega arith)) at i ∣₁))
each_sibling {m} {d} {k} {q} {e} {r} (sibling l s i) j = go (λ x. each_sibling i x) (Memᴰ.cases_cons (rw (field_first m q e l) at j))
  where
    go : (Memᴰ r (fields_in m (end_of m q) e) → StandsAs m d k r) → (r ≡ q) ⊎ Memᴰ r (fields_in m (end_of m q) e) → StandsAs m d k r
    go later (inl x) = subst (StandsAs m d k) (sym x) s
    go later (inr x) = later x
