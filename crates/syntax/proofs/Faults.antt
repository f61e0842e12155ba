-- The place of a fault found before anything runs is at most the manifest's length, so two bytes hold it. Assumes nothing.
use Prim.Native.Nat.{ℕ, zero, suc, ◌+◌, ◌-◌, ◌<◌, ◌≤◌}
use mathlib.Core.Path.{ap, ◌≡◌, refl, sym, subst, ◌∙◌}
use mathlib.Core.Bool.{Bool, true, false, ◌&&◌, ◌||◌}
use mathlib.Core.List.{List, [], ◌∷◌}
use native.Mathlib.Omega.{arith}
use lib.Dec.{eqb, ltb, leb}
use lib.ListN.{length}
use borrow.Author.Tests.{ltb-true, ltb-false}
use Rattle.values.specs.declared.Reason.{Reason}
use Rattle.values.specs.declared.Reason.TheVariants.{Malformed, StringOrder, ManifestLength}
use Rattle.wire.specs.Bytes.{pick, byte, two, end_of, fields_in}
use Rattle.wire.proofs.Fields.{no_fields, field_first}
use Rattle.rules.specs.Format.{form_of, head_size, may_end, bytes_right, names_right}
use Rattle.rules.specs.Check.{header, and_then, allowing, walk, rest, body, inside, shape, ascends, text, rising_from, rising, next_in_order, places_up, places_in, names_known, string_places, check}
use Rattle.rules.specs.declared.Parts.{Parts}
use Rattle.rules.specs.declared.Rest.{Rest}
use Rattle.rules.specs.declared.Rest.TheVariants.{Only, Text, Fields}
use Rattle.rules.specs.declared.Form.{Form}
use Rattle.rules.specs.declared.Next.{Next}
use Rattle.rules.specs.declared.Next.TheVariants.{Go, Wrong}
use Rattle.rules.proofs.Within.{fault_not_sound, header_right, shape_sound}
use Rattle.syntax.specs.Before.{before}
use Rattle.std.specs.Prelude.{Ok, Err}
use Rattle.rules.specs.Verdicts.{Verdict, fault_at, no_fault}

-- a fault's place is at most b
Low : ℕ → Verdict → Type 0
Low b (Ok tt) = Unit {0}
Low b (Err f) = f.place ≤ b

low_then : (b : ℕ) (u v : Verdict) → Low b u → Low b v → Low b (and_then u v)
unfolding Low
low_then b (Ok tt) v h i = i
low_then b (Err f) v h i = h

-- each place of a list is below e
data Below (e : ℕ) : List ℕ → Type 0 where
  no_place : Below e []
  place : {q : ℕ} {qs : List ℕ} → q < e → Below e qs → Below e (q ∷ qs)

fields_below : (m : List ℕ) (e k q : ℕ) → e - q ≤ k → Below e (fields_in m q e)
fields_below m e zero q h = rw (no_fields m q e (omega arith)) no_place
fields_below m e (suc k) q h = go (λ r i. fields_below m e k r i) (ltb q e) refl
  where
    go : ((r : ℕ) → e - r ≤ k → Below e (fields_in m r e)) → (t : Bool) → ltb q e ≡ t → Below e (fields_in m q e)
    go later false t = rw (no_fields m q e (ltb-false q e t)) no_place
    go later true t = let l : q < e = ltb-true q e t in rw (field_first m q e l) (place l (later (end_of m q) (omega arith)))

-- ---- Refusals 3 and 4

module _ (m : List ℕ) (b : ℕ) where
  low_end : (x : Bool) (r : Reason) (p : ℕ) → p ≤ b → Low b (pick x no_fault (fault_at r p))
  unfolding Low
  low_end true r p h = tt
  low_end false r p h = h

  low_walk : (inner : ℕ → Verdict) → ((q : ℕ) → end_of m q ≤ b → Low b (inner q)) → (p : ℕ) → p ≤ b → (e : ℕ) → e ≤ b → (qs : List ℕ) → Below e qs → (ps : Parts) → Low b (walk m inner p ps e qs)
  unfolding walk
  low_walk inner each p h e within [] no_place ps = low_end (may_end ps) Malformed p h
  low_walk inner each p h e within (q ∷ qs) (place l is) ps = go (λ x. low_walk inner each p h e within qs is x) (header m ps q e) refl
    where
      go : ((x : Parts) → Low b (walk m inner p x e qs)) → (n : Next) → header m ps q e ≡ n → Low b (allowing n (λ x. and_then (inner q) (walk m inner p x e qs)) (fault_at Malformed q))
      go later (Go x) t = let ends = (header_right m ps q e x t).ends in low_then b (inner q) (walk m inner p x e qs) (each q (omega arith)) (later x)
      go later Wrong t = unfold Low in omega arith

  low_body : (inner : ℕ → Verdict) → ((q : ℕ) → end_of m q ≤ b → Low b (inner q)) → (p : ℕ) → end_of m p ≤ b → (l : Form) → Low b (body m inner p l)
  unfolding body
  low_body inner each p h l = go (leb (head_size l) (two m (p + 1)) && bytes_right m p l)
    where
      from : (q : ℕ) (r : Rest) → Low b (rest m inner p q r)
      from q Only = unfold rest Low in tt
      from q Text = unfold rest Low in tt
      from q (Fields ps) = unfold rest in low_walk inner each p (omega arith) (end_of m p) h (fields_in m q (end_of m p)) (fields_below m (end_of m p) (end_of m p) q (omega arith)) ps

      go : (x : Bool) → Low b (pick x (rest m inner p (p + 3 + head_size l) l.rest) (fault_at Malformed p))
      go true = from (p + 3 + head_size l) l.rest
      go false = unfold Low in omega arith

  low_inside : (d p : ℕ) → end_of m p ≤ b → Low b (inside m d p)
  unfolding inside Low
  low_inside zero p h = omega arith
  low_inside (suc d) p h = low_body (inside m d) (λ q i. low_inside d q i) p h (form_of (byte m p))

  -- ---- Refusal 5

  low_rising : (e : ℕ) → e ≤ b → (a : ℕ) (qs : List ℕ) → Below e qs → Low b (rising_from m a qs)
  unfolding rising_from Low
  low_rising e h a [] no_place = tt
  low_rising e h a (q ∷ qs) (place l is) = go (low_rising e h q qs is) (ascends (text m a) (text m q))
    where
      go : Low b (rising_from m q qs) → (x : Bool) → Low b (pick x (rising_from m q qs) (fault_at StringOrder q))
      go later true = later
      go later false = omega arith

  low_strings : (e : ℕ) → e ≤ b → (qs : List ℕ) → Below e qs → Low b (rising m qs)
  unfolding rising Low
  low_strings e h [] no_place = tt
  low_strings e h (q ∷ qs) (place l is) = low_rising e h q qs is

  low_names : (n e : ℕ) → e ≤ b → (qs : List ℕ) → Below e qs → Low b (names_known m n qs)
  unfolding names_known Low
  low_names n e h [] no_place = tt
  low_names n e h (q ∷ qs) (place l is) = go (low_names n e h qs is) (names_right m n q (form_of (byte m q)))
    where
      go : Low b (names_known m n qs) → (x : Bool) → Low b (pick x (names_known m n qs) (fault_at StringOrder q))
      go later true = later
      go later false = omega arith

places_below : (m : List ℕ) (k p e : ℕ) → Below e (places_up k m p e)
unfolding places_up
places_below m zero p e = no_place
places_below m (suc k) p e = go (λ q. places_below m k q e) (ltb p e) refl
  where
    go : ((q : ℕ) → Below e (places_up k m q e)) → (t : Bool) → ltb p e ≡ t → Below e (pick t (p ∷ places_up k m (next_in_order m p) e) [])
    go later true t = place (ltb-true p e t) (later (next_in_order m p))
    go later false t = no_place

-- ---- The whole check

low_shape : (m : List ℕ) → Low (length m) (shape m)
unfolding shape
low_shape m = low_walk m (length m) (inside m 32) (λ q h. low_inside m (length m) 32 q h) 0 (omega arith) (length m) (omega arith) (fields_in m 0 (length m)) (fields_below m (length m) (length m) 0 (omega arith)) _

low_check : (m : List ℕ) → Low (length m) (check m)
unfolding check
low_check m = go (shape m) refl
  where
    go : (v : Verdict) → shape m ≡ v → Low (length m) (and_then v (and_then (rising m (string_places m)) (names_known m (length (string_places m)) (places_in m (end_of m 0) (length m)))))
    go (Err f) h = subst (Low (length m)) h (low_shape m)
    go (Ok tt) h =
        let ends = (shape_sound m h).within.ends in
        low_then (length m) (rising m (string_places m)) (names_known m (length (string_places m)) (places_in m (end_of m 0) (length m)))
        (unfold string_places in low_strings m (length m) (end_of m 0) ends (string_places m) (fields_below m (end_of m 0) (end_of m 0) 3 (omega arith)))
        (unfold places_in in low_names m (length m) (length (string_places m)) (length m) (omega arith) (places_in m (end_of m 0) (length m)) (places_below m (length m - end_of m 0) (end_of m 0) (length m)))

place_in : Verdict → ℕ
place_in (Ok tt) = 0
place_in (Err f) = f.place

-- THE LAW
pub fault_fits : (m : List ℕ) {v : Verdict} {r : Reason} {p : ℕ} → v ≡ before m → v ≡ fault_at r p → p ≤ 65535
unfolding before place_in
fault_fits m {v} {r} {p} e h = go (eqb (length m) 0) refl (ltb 65535 (length m)) refl (sym e ∙ h)
  where
    low : check m ≡ fault_at r p → length m ≤ 65535 → p ≤ 65535
    low f l = let within : p ≤ length m = unfold Low in subst (Low (length m)) f (low_check m) in omega arith

    go : (a : Bool) → eqb (length m) 0 ≡ a → (b : Bool) → ltb 65535 (length m) ≡ b → pick (a || b) (fault_at ManifestLength 0) (check m) ≡ fault_at r p → p ≤ 65535
    go true i b j f = let first : 0 ≡ p = ap place_in f in omega arith
    go false i true j f = let first : 0 ≡ p = ap place_in f in omega arith
    go false i false j f = low f (ltb-false 65535 (length m) j)

-- a manifest with no fault has the right length, and its check is Sound
pub record SoundBefore (m : List ℕ) : Type 0 where
  pub short : length m ≤ 65535
  pub sound : check m ≡ no_fault

pub before_sound : (m : List ℕ) → before m ≡ no_fault → SoundBefore m
unfolding before
before_sound m h = go (eqb (length m) 0) refl (ltb 65535 (length m)) refl h
  where
    go : (a : Bool) → eqb (length m) 0 ≡ a → (b : Bool) → ltb 65535 (length m) ≡ b → pick (a || b) (fault_at ManifestLength 0) (check m) ≡ no_fault → SoundBefore m
    go true i b j f = fault_not_sound f
    go false i true j f = fault_not_sound f
    go false i false j f = record { short = ltb-false 65535 (length m) j; sound = f }
