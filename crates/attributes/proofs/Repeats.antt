-- The ways of the functions that look through the names of the 26s, and what they say of the evaluated 26s. Assumes nothing.
use Prim.Native.Nat.{ℕ, zero, suc, ◌+◌, ◌-◌, ◌≤◌, ◌<◌}
use mathlib.Core.Path.{◌≡◌, refl, sym, ap, ◌∙◌}
use mathlib.Core.Bool.{Bool, true, false, ◌||◌, cond}
use mathlib.Core.List.{List, [], ◌∷◌}
use native.Mathlib.Omega.{arith}
use borrow.Author.Tests.{eqb-true, eqb-false, eq-eqb, ltb-true, ltb-false}
use lib.Dec.{eqb, ltb}
use lib.ListN.{length, replicate}
use Rattle.values.specs.declared.Reason.TheVariants.{AttributeAgain}
use Rattle.wire.specs.Bytes.{pick, byte, two, end_of, fields_in}
use Rattle.wire.specs.Numbers.{high_bytes}
use Rattle.wire.specs.Runs.{over, zeros}
use Rattle.wire.proofs.Fields.{no_fields, field_first}
use Rattle.wire.proofs.Laws.{byte_outside, high_length, stored_byte, zeros_byte}
use Rattle.rules.specs.Outcome.{Outcome, refused, done, ◌>>=◌, refuse_if}
use Rattle.rules.specs.Evaluate.{any}
use Rattle.rules.specs.Run.{Given, is_given, named_once}
use Rattle.attributes.specs.Names.{has_name, named_in, repeated_in, is_marked, Marked, Marks, Unmarked, Alike, alike_none, alike}
use Rattle.std.specs.Prelude.{Option, Some, None}
use Rattle.std.specs.List.{list_any, find}
use Rattle.std.specs.Option.{option_map}
use Rattle.catalog.specs.Finding.{Below}

-- ---- What the chains of `is_named`, `has_name_from` and `find_named` find

pub any_is : (f : ℕ → Bool) (qs : List ℕ) → list_any f qs ≡ any f qs
unfolding any
any_is f [] = refl
any_is f (q ∷ qs) = ap (λ (b : Bool). f q || b) (any_is f qs)

pub named_is : (m : List ℕ) (n : ℕ) (qs : List ℕ) → find (has_name m n) qs ≡ named_in m n qs
unfolding named_in
named_is m n [] = refl
named_is m n (q ∷ qs) = go (has_name m n q) (named_is m n qs)
  where
    go : (b : Bool) → find (has_name m n) qs ≡ named_in m n qs → cond b (Some q) (find (has_name m n) qs) ≡ pick b (Some q) (named_in m n qs)
    go true later = refl
    go false later = later

-- what is found is before the end
named_below : (m : List ℕ) (n e k p : ℕ) → e - p ≤ k → Below e (named_in m n (fields_in m p e))
unfolding named_in Below
named_below m n e zero p h = rw (no_fields m p e (omega arith)) tt
named_below m n e (suc k) p h = go (λ r i. named_below m n e k r i) (ltb p e) refl
  where
    here : p < e → (b : Bool) → Below e (named_in m n (fields_in m (end_of m p) e)) → Below e (pick b (Some p) (named_in m n (fields_in m (end_of m p) e)))
    here l true later = l
    here l false later = later

    go : ((r : ℕ) → e - r ≤ k → Below e (named_in m n (fields_in m r e))) → (t : Bool) → ltb p e ≡ t → Below e (named_in m n (fields_in m p e))
    go later false t = rw (no_fields m p e (ltb-false p e t)) tt
    go later true t = let l : p < e = ltb-true p e t in rw (field_first m p e l) (here l (has_name m n p) (later (end_of m p) (omega arith)))

pub found_below : (m : List ℕ) (n p e : ℕ) {f : Option ℕ} → f ≡ named_in m n (fields_in m p e) → Below e f
found_below m n p e is = rw is (named_below m n e (e - p) p (omega arith))

same_option : (o : Option ℕ) → option_map (λ (q : ℕ). q) o ≡ o
same_option None = refl
same_option (Some q) = refl

pub named_found : (m : List ℕ) (n : ℕ) (qs : List ℕ) {f : Option ℕ} → option_map (λ (q : ℕ). q) f ≡ find (has_name m n) qs → f ≡ named_in m n qs
named_found m n qs {f} found = sym (same_option f) ∙ found ∙ named_is m n qs

-- ---- The ways of `is_marked`, and one more mark

module _ (m seen : List ℕ) (first q name : ℕ) {b : ℕ} (read : b ≡ byte seen name) (small : name < 1024) where
  pub marked_so : {r : Bool} → r ≡ eqb b 1 → Marked m seen first q → r ≡ any (has_name m name) (fields_in m first q)
  marked_so told marked = told ∙ ap (λ (x : ℕ). eqb x 1) read ∙ marked name small

pub marks_one : (seen seen' : List ℕ) (name : ℕ) → 1024 ≤ length seen → seen' ≡ over seen name (high_bytes 1 1) → Marks seen seen' name
marks_one seen seen' name long stored n l = go (eqb name n) refl
  where
    go : (t : Bool) → eqb name n ≡ t → is_marked seen' n ≡ (t || is_marked seen n)
    go true e =
        let same : name ≡ n = eqb-true name n e in
        eq-eqb (byte seen' n) 1 (ap (λ (l : List ℕ). byte l n) stored ∙ ap (byte (over seen name (high_bytes 1 1))) (sym same) ∙ stored_byte seen name 1 (omega arith) (omega arith))
    go false e =
        ap (λ (x : ℕ). eqb x 1) (ap (λ (l : List ℕ). byte l n) stored ∙ byte_outside seen name (high_bytes 1 1) n (λ l u. eqb-false name n e (omega (arith, high_length 1 1))))

-- ---- The ways of `mark_names`: what is marked and what is left from q on make the whole

abbrev pub MarkedTo : (m seen₀ seen : List ℕ) (first end q : ℕ) → Type 0
MarkedTo m seen₀ seen first end q = Unmarked seen₀ → (n : ℕ) → n < 1024 → (is_marked seen n || any (has_name m n) (fields_in m q end)) ≡ any (has_name m n) (fields_in m first end)

pub marking_begins : (m seen : List ℕ) (first end : ℕ) → MarkedTo m seen seen first end first
marking_begins m seen first end blank n l = ap (λ (b : Bool). b || any (has_name m n) (fields_in m first end)) (blank n l)

or_moved : (a b c : Bool) → ((a || b) || c) ≡ (b || (a || c))
or_moved true true c = refl
or_moved true false c = refl
or_moved false b c = refl

module _ (m seen₀ seen : List ℕ) (first end q : ℕ) (so : MarkedTo m seen₀ seen first end q) where
  pub marking_further : (seen' : List ℕ) {n r : ℕ} → q < end → n ≡ two m (q + 3) → Marks seen seen' n → r ≡ end_of m q → MarkedTo m seen₀ seen' first end r
  unfolding any
  marking_further seen' {n} {r} more read marks next blank k l =
      ap (λ (b : Bool). b || any (has_name m k) (fields_in m r end)) (marks k l ∙ ap (λ (x : ℕ). eqb x k || is_marked seen k) read)
      ∙ or_moved (eqb (two m (q + 3)) k) (is_marked seen k) (any (has_name m k) (fields_in m r end))
      ∙ ap (λ (p : ℕ). is_marked seen k || (eqb (two m (q + 3)) k || any (has_name m k) (fields_in m p end))) next
      ∙ ap (λ (qs : List ℕ). is_marked seen k || any (has_name m k) qs) (sym (field_first m q end more))
      ∙ so blank k l

  pub marking_ends : end ≤ q → Unmarked seen₀ → Marked m seen first end
  unfolding any
  marking_ends over blank n l = or_none (is_marked seen n) ∙ ap (λ (qs : List ℕ). is_marked seen n || any (has_name m n) qs) (sym (no_fields m q end over)) ∙ so blank n l
    where
      or_none : (b : Bool) → b ≡ (b || false)
      or_none true = refl
      or_none false = refl

-- ---- Fields reached from a place on

pub data Reaches (m : List ℕ) (q : ℕ) : (p : ℕ) → Type 0 where
  reached : Reaches m q q
  further : {p : ℕ} → p < q → Reaches m q (end_of m p) → Reaches m q p

reaches_low : {m : List ℕ} {q p : ℕ} → Reaches m q p → p ≤ q
reaches_low reached = omega arith
reaches_low (further l r) = omega arith

pub reaches_next : {m : List ℕ} {q p : ℕ} → Reaches m q p → Reaches m (end_of m q) p
reaches_next {q = q} reached = further {p = q} (omega arith) reached
reaches_next (further {p = p} l r) = further {p = p} (omega arith) (reaches_next r)

or_swap : (a b c : Bool) → (a || (b || c)) ≡ (b || (a || c))
or_swap true true c = refl
or_swap true false c = refl
or_swap false true c = refl
or_swap false false c = refl

-- one more field
any_next : {m : List ℕ} {q p : ℕ} (f : ℕ → Bool) → Reaches m q p → any f (fields_in m p (end_of m q)) ≡ (f q || any f (fields_in m p q))
unfolding any
any_next {m} {q} f reached = ap (any f) (field_first m q (end_of m q) (omega arith) ∙ ap (λ (l : List ℕ). q ∷ l) (no_fields m (end_of m q) (end_of m q) (omega arith))) ∙ ap (λ (l : List ℕ). f q || any f l) (sym (no_fields m q q (omega arith)))
any_next {m} {q} {p} f (further l r) =
    ap (any f) (field_first m p (end_of m q) (omega arith))
    ∙ ap (λ (b : Bool). f p || b) (any_next f r)
    ∙ or_swap (f p) (f q) (any f (fields_in m (end_of m p) q))
    ∙ ap (λ (l : List ℕ). f q || any f l) (sym (field_first m p q l))

-- ---- The ways of `find_repeated`: no name up to q is repeated

pub record Single (m : List ℕ) (first end q : ℕ) : Type 0 where
  pub earlier : List ℕ
  pub reaches : Reaches m q first
  pub same : (f : ℕ → Bool) → any f (fields_in m first q) ≡ any f earlier
  pub left : repeated_in m earlier (fields_in m q end) ≡ repeated_in m [] (fields_in m first end)

pub single_begins : (m : List ℕ) (first end : ℕ) → Single m first end first
unfolding any
single_begins m first end = record { earlier = []; reaches = reached; same = λ f. ap (any f) (no_fields m first first (omega arith)); left = refl }

module _ {m : List ℕ} {first end q : ℕ} (s : Single m first end q) where
  module _ (more : q < end) {n : ℕ} {b : Bool} (read : n ≡ two m (q + 3)) (named : b ≡ any (has_name m n) (fields_in m first q)) where
    decided : b ≡ any (has_name m (two m (q + 3))) s.earlier
    decided = named ∙ ap (λ (k : ℕ). any (has_name m k) (fields_in m first q)) read ∙ s.same (has_name m (two m (q + 3)))

    choice : pick b (Some q) (repeated_in m (q ∷ s.earlier) (fields_in m (end_of m q) end)) ≡ repeated_in m [] (fields_in m first end)
    unfolding repeated_in
    choice = ap (λ (x : Bool). pick x (Some q) (repeated_in m (q ∷ s.earlier) (fields_in m (end_of m q) end))) decided ∙ ap (repeated_in m s.earlier) (sym (field_first m q end more)) ∙ s.left

    pub repeated_here : b ≡ true → Some q ≡ repeated_in m [] (fields_in m first end)
    repeated_here is = rw is at choice

    pub repeated_further : {r : ℕ} → b ≡ false → r ≡ end_of m q → Single m first end r
    unfolding any
    repeated_further {r} is next = rw next (record {
      earlier = q ∷ s.earlier;
      reaches = reaches_next s.reaches;
      same = λ f. any_next f s.reaches ∙ ap (λ (x : Bool). f q || x) (s.same f);
      left = rw is at choice;
    })

  pub repeated_nowhere : end ≤ q → None ≡ repeated_in m [] (fields_in m first end)
  unfolding repeated_in
  repeated_nowhere over = ap (repeated_in m s.earlier) (sym (no_fields m q end over)) ∙ s.left

-- before the first 26 no name is marked
pub unmarked : (k : ℕ) → Unmarked (replicate k 0)
unfolding zeros
unmarked k n l = ap (λ (x : ℕ). eqb x 1) (zeros_byte k n)

pub marked_begins : (m : List ℕ) (k first : ℕ) → Marked m (replicate k 0) first first
unfolding any
marked_begins m k first n l = unmarked k n l ∙ ap (any (has_name m n)) (sym (no_fields m first first (omega arith)))

pub marked_further : {m : List ℕ} (seen seen' : List ℕ) {first end q r n : ℕ} → Single m first end q → Marked m seen first q → n ≡ two m (q + 3) → Marks seen seen' n → r ≡ end_of m q → Marked m seen' first r
marked_further {m} seen seen' {first} {end} {q} {r} {n} s marked read marks next k l =
    marks k l
    ∙ ap (λ (b : Bool). eqb n k || b) (marked k l)
    ∙ ap (λ (x : ℕ). eqb x k || any (has_name m k) (fields_in m first q)) read
    ∙ sym (any_next (has_name m k) s.reaches)
    ∙ ap (λ (e : ℕ). any (has_name m k) (fields_in m first e)) (sym next)

-- ---- The evaluated 26s by their places

-- "An attribute is named twice in one body", at the later one
unfoldable pub repeated_outcome : Option ℕ → Outcome (Unit {0})
repeated_outcome (Some q) = refused AttributeAgain q
repeated_outcome None = done tt

named_as : (m : List ℕ) (earlier : List Given) (places : List ℕ) {gs : List Given} {qs : List ℕ} → ((n : ℕ) → any (is_given n) earlier ≡ any (has_name m n) places) → Alike m gs qs → named_once earlier gs ≡ repeated_outcome (repeated_in m places qs)
unfolding named_once repeated_in repeated_outcome any is_given refuse_if ◌>>=◌
named_as m earlier places same alike_none = refl
named_as m earlier places same (alike {q = q} {x = x} {gs = gs} {qs = qs} a) =
    ap (λ (b : Bool). refuse_if b AttributeAgain q >>= λ _. named_once (g ∷ earlier) gs) (same (two m (q + 3))) ∙ go (named_as m (g ∷ earlier) (q ∷ places) (λ n. ap (λ (b : Bool). eqb (two m (q + 3)) n || b) (same n)) a) (any (has_name m (two m (q + 3))) places)
  where
    g : Given
    g = record { place = q; name = two m (q + 3); content = x }

    go : named_once (g ∷ earlier) gs ≡ repeated_outcome (repeated_in m (q ∷ places) qs) → (b : Bool) → (refuse_if b AttributeAgain q >>= λ _. named_once (g ∷ earlier) gs) ≡ repeated_outcome (pick b (Some q) (repeated_in m (q ∷ places) qs))
    go later true = refl
    go later false = later

pub named_places : (m : List ℕ) {gs : List Given} {qs : List ℕ} {f : Option ℕ} → f ≡ repeated_in m [] qs → Alike m gs qs → named_once [] gs ≡ repeated_outcome f
unfolding any
named_places m e a = named_as m [] [] (λ n. refl) a ∙ ap repeated_outcome (sym e)
