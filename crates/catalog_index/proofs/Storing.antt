-- One record more in the index, and one entry more with its attributes. Assumes nothing.
use mathlib.Core.Path.{◌≡◌, refl, sym, ap, ◌∙◌}
use mathlib.Core.List.{List}
use Prim.Native.Nat.{ℕ, ◌+◌, ◌≤◌, ◌<◌}
use native.Mathlib.Omega.{arith}
use lib.ListN.{length}
use Rattle.wire.specs.Bytes.{byte, two}
use Rattle.wire.specs.Numbers.{high_bytes}
use Rattle.wire.specs.Runs.{over}
use Rattle.wire.proofs.Laws.{over_length, byte_outside, high_length, stored_outside, stored_two, two_same}
use Rattle.cells.specs.Layout.{most_chains, head_at, count_at, index_at, index_link, most_records}
use Rattle.catalog_index.specs.Index.{InIndex, Recorded}
use Rattle.catalog_index.proofs.Chains.{chained_more}

-- ---- Stores of two bytes

pub in_index_none : (w : List ℕ) → InIndex w w
in_index_none w = record { size = refl; before = λ i h. refl }

pub in_index_both : {w w' w'' : List ℕ} → InIndex w w' → InIndex w' w'' → InIndex w w''
in_index_both a b = record { size = b.size ∙ a.size; before = λ i h. b.before i h ∙ a.before i h }

-- v goes to place p, and two bytes apart from it stay
record Put (w w' : List ℕ) (p v : ℕ) : Type 0 where
  size : length w' ≡ length w
  own : two w' p ≡ v
  other : (q : ℕ) → ((i : ℕ) → q ≤ i → i < q + 2 → p ≤ i → i < p + 2 → ⊥) → two w' q ≡ two w q
  kept : head_at 0 ≤ p → InIndex w w'

put : (w w' : List ℕ) (p v : ℕ) → p + 2 ≤ length w → v < 65536 → w' ≡ over w p (high_bytes 2 v) → Put w w' p v
put w w' p v room small e =
    let wide : length (high_bytes 2 v) ≡ 2 = high_length 2 v in
    let same_size : length w' ≡ length w = ap length e ∙ over_length w p (high_bytes 2 v) in
    record {
      size = same_size;
      own = ap (λ (m : List ℕ). two m p) e ∙ stored_two w p v room small;
      other = λ q apart. ap (λ (m : List ℕ). two m q) e ∙ two_same (over w p (high_bytes 2 v)) w q q (stored_outside w p 2 v q 2 apart);
      kept = λ l. record { size = same_size; before = λ i h. ap (λ (m : List ℕ). byte m i) e ∙ byte_outside w p (high_bytes 2 v) i (λ s t. omega arith) };
    }

-- ---- The ways of `add_record`

pub no_room : (w : List ℕ) (b p : ℕ) {n : ℕ} → n ≡ two w count_at → most_records ≤ n → Recorded w w b p
no_room w b p count full = record { kept = in_index_none w; more = λ ts h i. absurd (omega (arith, i.count)) }

pub record_added : (w : List ℕ) (b p : ℕ) {n next : ℕ} {w1 w2 w3 w4 : List ℕ} → 65536 ≤ length w → b < most_chains → p < 65536 → n ≡ two w count_at → n < most_records → next ≡ two w (head_at b) → next < 65536
    → w1 ≡ over w (index_at n) (high_bytes 2 p) → w2 ≡ over w1 (index_at n + index_link) (high_bytes 2 next) → w3 ≡ over w2 (head_at b) (high_bytes 2 (n + 1)) → w4 ≡ over w3 count_at (high_bytes 2 (n + 1)) → Recorded w w4 b p
record_added w b p {n} {next} {w1} {w2} {w3} {w4} room below small count few head small-next e1 e2 e3 e4 =
    let s1 = put w w1 (index_at n) p (omega arith) small e1 in
    let s2 = put w1 w2 (index_at n + index_link) next (omega (arith, s1.size)) small-next e2 in
    let s3 = put w2 w3 (head_at b) (n + 1) (omega (arith, s1.size, s2.size)) (omega arith) e3 in
    let s4 = put w3 w4 count_at (n + 1) (omega (arith, s1.size, s2.size, s3.size)) (omega arith) e4 in
    -- the head and the count stand before the records, and so do the records before the new one
    let front : (q : ℕ) → q + 2 ≤ index_at n → two w2 q ≡ two w q = λ q h. s2.other q (λ i s t u x. omega arith) ∙ s1.other q (λ i s t u x. omega arith) in
    let back : (q : ℕ) → index_at 0 ≤ q → two w4 q ≡ two w2 q = λ q h. s4.other q (λ i s t u x. omega arith) ∙ s3.other q (λ i s t u x. omega arith) in
    record {
      kept = in_index_both (in_index_both (s1.kept (omega arith)) (s2.kept (omega arith))) (in_index_both (s3.kept (omega arith)) (s4.kept (omega arith)));
      more = λ ts h i.
          let size : n ≡ length ts = count ∙ i.count in
          record {
            count = s4.own ∙ omega arith;
            chains = chained_more ts b p
                (s4.other (head_at b) (λ i s t u x. omega arith) ∙ s3.own ∙ omega arith)
                (λ c l apart. s4.other (head_at c) (λ i s t u x. omega arith) ∙ s3.other (head_at c) (λ i s t u x. omega (arith, apart)) ∙ front (head_at c) (omega arith))
                (rw (sym size) (back (index_at n) (omega arith) ∙ s2.other (index_at n) (λ i s t u x. omega arith) ∙ s1.own))
                (rw (sym size) (back (index_at n + index_link) (omega arith) ∙ s2.own ∙ head))
                (λ j l. back (index_at j) (omega arith) ∙ front (index_at j) (omega arith))
                (λ j l. back (index_at j + index_link) (omega arith) ∙ front (index_at j + index_link) (omega arith))
                i.chains;
          };
    }
