-- Sets in bytes, from a place on: what a set depends on, what is read back, and the ways of the readers and of `write_short`. Assumes nothing.
use mathlib.Core.Path.{◌≡◌, refl, sym, ap, ◌∙◌, subst}
use mathlib.Core.Bool.{Bool, true, false}
use mathlib.Core.List.{List, [], append-nil}
use Prim.Native.Nat.{ℕ, zero, suc, ◌+◌, ◌-◌, ◌≤◌, ◌<◌}
use native.Mathlib.Omega.{arith}
use borrow.Author.Tests.{ltb-true, ltb-false}
use borrow.Rule.Slice.PartMut.{mid_of}
use lib.Dec.{ltb}
use lib.ListN.{length, get_or, drop, replicate, length-drop, get_or-eq_default}
use lib.Seq.{get_or-drop, take_all}
use Rattle.wire.specs.Bytes.{byte}
use Rattle.wire.specs.Runs.{bytes_at, over, zeros}
use Rattle.wire.proofs.Laws.{byte_in, run_in, run_back, run_outside, byte_inside, byte_outside, over_whole, zeros_length, zeros_byte}
use Rattle.labels.specs.declared.Labels.{Labels}
use Rattle.labels.specs.Sets.{no_labels, ◌∪◌, Words64}
use Rattle.labels.specs.Bytes.{number_at, label_bytes, labels_from, set_at}
use Rattle.labels.specs.Words.{JoinsAt}
use Rattle.labels.proofs.Laws.{label_length, label_back}

same_number : (m m' : List ℕ) (p k : ℕ) → ((j : ℕ) → j < p + k → get_or m j 0 ≡ get_or m' j 0) → number_at m p k ≡ number_at m' p k
unfolding number_at
same_number m m' p zero same = refl
same_number m m' p (suc k) same = rw (same_number m m' (suc p) k (λ j h. same j (omega arith)), same p (omega arith))

-- a set depends on its 32 bytes alone
same_set : (m m' : List ℕ) → ((j : ℕ) → j < 32 → get_or m j 0 ≡ get_or m' j 0) → labels_from m ≡ labels_from m'
unfolding labels_from
same_set m m' same =
    rw (
      same_number m m' 0 8 (λ j h. same j (omega arith)),
      same_number m m' 8 8 (λ j h. same j (omega arith)),
      same_number m m' 16 8 (λ j h. same j (omega arith)),
      same_number m m' 24 8 (λ j h. same j (omega arith)),
    )

set_run : (m : List ℕ) (p : ℕ) → set_at m p ≡ labels_from (bytes_at m p 32)
unfolding set_at
set_run m p = same_set (drop p m) (bytes_at m p 32) (λ j h. get_or-drop p m j 0 ∙ sym (byte_in m p 32 j h))

pub set_same : (m m' : List ℕ) (p q : ℕ) → bytes_at m p 32 ≡ bytes_at m' q 32 → set_at m p ≡ set_at m' q
set_same m m' p q same = set_run m p ∙ ap labels_from same ∙ sym (set_run m' q)

-- a set within a run
pub set_in : (m : List ℕ) (p n o : ℕ) → o + 32 ≤ n → set_at (bytes_at m p n) o ≡ set_at m (p + o)
set_in m p n o h = set_same (bytes_at m p n) m o (p + o) (run_in m p n o 32 h)

-- a store that does not meet a set
pub set_outside : (m : List ℕ) (p : ℕ) (bs : List ℕ) (q : ℕ) → ((i : ℕ) → q ≤ i → i < q + 32 → p ≤ i → i < p + length bs → ⊥) → set_at (over m p bs) q ≡ set_at m q
set_outside m p bs q apart = set_same (over m p bs) m q q (run_outside m p bs q 32 apart)

-- a set that is stored is read back
pub set_back : (m : List ℕ) (p : ℕ) (s : Labels) → p + 32 ≤ length m → Words64 s → set_at (over m p (label_bytes s)) p ≡ s
set_back m p s room fits =
    let size : length (label_bytes s) ≡ 32 = label_length s in
    let run : bytes_at (over m p (label_bytes s)) p 32 ≡ label_bytes s = ap (bytes_at (over m p (label_bytes s)) p) (sym size) ∙ run_back m p (label_bytes s) (omega arith) in
    set_run (over m p (label_bytes s)) p ∙ ap labels_from (run ∙ sym (append-nil (label_bytes s))) ∙ label_back s [] fits

-- zeros are the set without labels
pub set_none : (m : List ℕ) (p : ℕ) → ((j : ℕ) → j < 32 → byte m (p + j) ≡ 0) → set_at m p ≡ no_labels
unfolding set_at labels_from number_at no_labels
set_none m p zeros = same_set (drop p m) [] (λ j h. get_or-drop p m j 0 ∙ zeros j h) ∙ refl

-- ---- The ways of the readers

number_from : (m : List ℕ) (p o k : ℕ) → number_at m (p + o) k ≡ number_at (drop p m) o k
unfolding number_at
number_from m p o zero = refl
number_from m p o (suc k) =
    let next : suc (p + o) ≡ p + suc o = omega arith in
    rw (get_or-drop p m o 0, sym (number_from m p (suc o) k), next) refl

-- read_within
pub words_read : (m : List ℕ) (p : ℕ) {a b c d : ℕ} → a ≡ number_at m p 8 → b ≡ number_at m (p + 8) 8 → c ≡ number_at m (p + 16) 8 → d ≡ number_at m (p + 24) 8
    → record { w0 = a; w1 = b; w2 = c; w3 = d } ≡ set_at m p
unfolding set_at labels_from
words_read m p ea eb ec ed =
    let start : p ≡ p + 0 = omega arith in
    let first : number_at m p 8 ≡ number_at (drop p m) 0 8 = ap (λ (q : ℕ). number_at m q 8) start ∙ number_from m p 0 8 in
    rw (ea, eb, ec, ed, first, number_from m p 8 8, number_from m p 16 8, number_from m p 24 8) refl

-- read_short: nothing stands there
pub nothing_read : (m : List ℕ) (p : ℕ) → length m ≤ p → no_labels ≡ set_at m p
nothing_read m p past = sym (set_none m p (λ j h. get_or-eq_default m 0 (omega arith)))

-- bytes stored from the start on, as many as there is room for
start_byte : (n : ℕ) (bs : List ℕ) (j : ℕ) → j < n → byte (over (zeros n) 0 bs) j ≡ byte bs j
start_byte n bs j h = go (ltb j (length bs)) refl
  where
    go : (b : Bool) → ltb j (length bs) ≡ b → byte (over (zeros n) 0 bs) j ≡ byte bs j
    go true e = ap (byte (over (zeros n) 0 bs)) (omega arith) ∙ byte_inside (zeros n) 0 bs j (omega (arith, zeros_length n)) (ltb-true j (length bs) e)
    go false e =
        let past : length bs ≤ j = ltb-false j (length bs) e in
        byte_outside (zeros n) 0 bs j (λ a b. omega arith) ∙ zeros_byte n j ∙ sym (get_or-eq_default bs 0 past)

-- read_short: fewer than 32 bytes stand there
pub short_read : (m : List ℕ) (p : ℕ) {whole : List ℕ} {s : Labels} → whole ≡ over (replicate 32 0) 0 (mid_of p (length m - p) m) → s ≡ set_at whole 0 → s ≡ set_at m p
unfolding set_at zeros
short_read m p {whole} {s} stored read =
    let part : mid_of p (length m - p) m ≡ drop p m = take_all (length m - p) (drop p m) (omega (arith, length-drop p m)) in
    let copy : whole ≡ over (replicate 32 0) 0 (drop p m) = stored ∙ ap (over (replicate 32 0) 0) part in
    read ∙ same_set (drop 0 whole) (drop p m) (λ j h. ap (λ (l : List ℕ). byte l j) copy ∙ start_byte 32 (drop p m) j h)

-- write_short
pub short_stored : (m : List ℕ) (p : ℕ) (s : Labels) {whole m' : List ℕ} → whole ≡ over (replicate 32 0) 0 (label_bytes s) → m' ≡ over m p whole → m' ≡ over m p (label_bytes s)
short_stored m p s {whole} made stored =
    let bytes : whole ≡ label_bytes s = made ∙ over_whole (replicate 32 0) (label_bytes s) (label_length s) in
    rw bytes at stored

-- join_within
pub set_joined : (m : List ℕ) (p : ℕ) (s : Labels) {old new : Labels} {m' : List ℕ} → old ≡ set_at m p → new ≡ s ∪ old → Words64 new → m' ≡ over m p (label_bytes new) → JoinsAt m m' p s
set_joined m p s {new = new} {m'} read joined fits stored =
    let is : new ≡ s ∪ set_at m p = joined ∙ ap (λ (k : Labels). s ∪ k) read in
    record { stored = stored ∙ ap (λ (k : Labels). over m p (label_bytes k)) is; words = subst Words64 is fits }
