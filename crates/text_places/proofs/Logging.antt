-- The log in bytes: one entry more, and the last one read. Assumes nothing.
use mathlib.Core.Path.{◌≡◌, refl, sym, ap, ◌∙◌}
use mathlib.Core.Bool.{Bool, true, false, not, ◌||◌}
use mathlib.Core.List.{List, [], ◌∷◌}
use Prim.Native.Nat.{ℕ, zero, suc, ◌+◌, ◌-◌, ◌*◌, ◌/◌, ◌%◌, ◌≤◌, ◌<◌}
use native.Mathlib.Omega.{arith}
use borrow.Author.Tests.{le-leb, lt-leb, lt-ltb, le-ltb, ne_eqb, ltb-true, ltb-false}
use lib.Dec.{ltb, eqb}
use lib.ListN.{length}
use Rattle.wire.specs.Bytes.{pick}
use Rattle.wire.specs.Numbers.{number, high_bytes}
use Rattle.wire.specs.Runs.{bytes_at, over}
use Rattle.wire.proofs.Laws.{over_length, stored_back, stored_outside}
use Rattle.format.proofs.Table.{elsewhere}
use Rattle.parse_table.specs.Codes.{symbol_of}
use Rattle.parse_table.proofs.Packed.{code_operators}
use Rattle.tree_builder.specs.declared.Building.{Building}
use Rattle.text_places.specs.Log.{Insertion, insertion, followed, is_operator, sort, inserted_at, packed, unpacked, log_in, noted_by, Notable, Noted}

-- ---- Symbols by their codes

abbrev agree : Bool → Bool → Bool
agree true b = b
agree false b = not b

agreed : (a b : Bool) → agree a b ≡ true → a ≡ b
agreed true true e = refl
agreed true false e = sym e
agreed false true e = e
agreed false false e = refl

-- of all codes two are for what comes before the parts
low_codes : (n : ℕ) → n < 0x48 → agree (eqb n 0x25 || eqb n 0x3a) (eqb (sort (symbol_of n)) 1) ≡ true
unfolding symbol_of is_operator
low_codes n h = elsewhere (λ s. agree (eqb s 0x25 || eqb s 0x3a) (eqb (sort (symbol_of s)) 1)) [] 72 0 refl n (omega arith) (omega arith) tt

pub before_codes : (n : ℕ) → (eqb n 0x25 || eqb n 0x3a) ≡ eqb (sort (symbol_of n)) 1
before_codes n = go (ltb n 0x48) refl
  where
    go : (b : Bool) → ltb n 0x48 ≡ b → (eqb n 0x25 || eqb n 0x3a) ≡ eqb (sort (symbol_of n)) 1
    go true e = agreed (eqb n 0x25 || eqb n 0x3a) (eqb (sort (symbol_of n)) 1) (low_codes n (ltb-true n 0x48 e))
    go false e =
        let high = ltb-false n 0x48 e in
        rw (code_operators n high, ne_eqb n 0x25 (λ z. omega arith), ne_eqb n 0x3a (λ z. omega arith))

-- where bytes come, by both tests
module _ (b o : Bool) (body start size : ℕ) where
  pub before_parts : true ≡ b → body ≡ inserted_at b o body start size
  unfolding inserted_at
  before_parts e = rw (sym e)

  pub before_operand : false ≡ b → true ≡ o → start ≡ inserted_at b o body start size
  unfolding inserted_at
  before_operand e i = rw (sym e, sym i)

  pub at_last : false ≡ b → false ≡ o → size ≡ inserted_at b o body start size
  unfolding inserted_at
  at_last e i = rw (sym e, sym i)

-- ---- The last entry read

module _ (m : List ℕ) (n k o v : ℕ) (last : n ≡ suc k) (read : v ≡ number (bytes_at m (8 * k) 8) 0) where
  entry_first : followed (log_in m n) o ≡ followed (unpacked v ∷ log_in m k) o
  unfolding log_in
  entry_first = ap (λ (i : ℕ). followed (log_in m i) o) last ∙ ap (λ (i : ℕ). followed (unpacked i ∷ log_in m k) o) (sym read)

  -- the offset lies behind what was inserted, in it, or before it
  pub behind_entry : v / 1099511627776 + v / 65536 % 16777216 ≤ o → followed (log_in m n) o ≡ followed (log_in m k) (o - v / 65536 % 16777216)
  unfolding followed unpacked
  behind_entry h = entry_first ∙ rw (le-leb (v / 1099511627776 + v / 65536 % 16777216) o h)

  pub in_entry : o < v / 1099511627776 + v / 65536 % 16777216 → v / 1099511627776 ≤ o → followed (log_in m n) o ≡ v % 65536
  unfolding followed unpacked
  in_entry h l = entry_first ∙ rw (lt-leb (v / 1099511627776 + v / 65536 % 16777216) o h, le-leb (v / 1099511627776) o l)

  pub before_entry : o < v / 1099511627776 → followed (log_in m n) o ≡ followed (log_in m k) o
  unfolding followed unpacked
  before_entry h = entry_first ∙ rw (lt-leb (v / 1099511627776 + v / 65536 % 16777216) o (omega arith), lt-leb (v / 1099511627776) o h)

pub no_entry : (m : List ℕ) (n o : ℕ) → n ≤ 0 → followed (log_in m n) o ≡ 0
unfolding followed log_in
no_entry m zero o h = refl
no_entry m (suc n) o h = absurd (omega arith)

-- ---- One entry more

-- the entries below stay
log_kept : (m : List ℕ) (i v n : ℕ) → n ≤ i → log_in (over m (8 * i) (high_bytes 8 v)) n ≡ log_in m n
unfolding log_in
log_kept m i v zero h = refl
log_kept m i v (suc n) h =
    ap (λ (bs : List ℕ). unpacked (number bs 0) ∷ log_in (over m (8 * i) (high_bytes 8 v)) n) (stored_outside m (8 * i) 8 v (8 * n) 8 (λ j a b c d. omega arith))
    ∙ ap (λ (l : List Insertion). unpacked (number (bytes_at m (8 * n) 8) 0) ∷ l) (log_kept m i v n (omega arith))

unpacked_back : (q n p : ℕ) → n < 16777216 → p < 65536 → unpacked (packed q n p) ≡ insertion q n p
unfolding unpacked
unpacked_back q n p h l =
    let m : ℕ = packed q n p in
    let first : m / 1099511627776 ≡ q = omega arith in
    let second : m / 65536 % 16777216 ≡ n = omega arith in
    let third : m % 65536 ≡ p = omega arith in
    rw (first, second, third)

log_more : (m : List ℕ) (i q n p : ℕ) → 8 * i + 8 ≤ length m → q ≤ 1048576 → n < 16777216 → p < 65536 → log_in (over m (8 * i) (high_bytes 8 (packed q n p))) (suc i) ≡ insertion q n p ∷ log_in m i
unfolding log_in
log_more m i q n p room a b c =
    ap (λ (v : ℕ). unpacked v ∷ log_in (over m (8 * i) (high_bytes 8 (packed q n p))) i) (stored_back m (8 * i) 8 (packed q n p) room (omega arith))
    ∙ ap (λ (x : Insertion). x ∷ log_in (over m (8 * i) (high_bytes 8 (packed q n p))) i) (unpacked_back q n p b c)
    ∙ ap (λ (l : List Insertion). insertion q n p ∷ l) (log_kept m i (packed q n p) i (omega arith))

module _ (entries y k p : ℕ) (s r : Building) (h : Notable entries p s r) where
  -- where bytes came is an offset of the tree
  pub low_offset : (q : ℕ) → q ≡ inserted_at (eqb (sort (symbol_of y)) 1) (is_operator k) s.body r.start s.fill → q ≤ 1048576
  unfolding inserted_at
  low_offset q e = go (eqb (sort (symbol_of y)) 1) (is_operator k) e
    where
      go : (b o : Bool) → q ≡ pick b s.body (pick o r.start s.fill) → q ≤ 1048576
      go true o e = omega (arith, h.ready.body, h.ready.fill)
      go false true e = omega (arith, h.ready_behind.start, h.ready_behind.fill)
      go false false e = omega (arith, h.ready.fill)

module _ (m : List ℕ) (entries y k p : ℕ) (s r : Building) (h : Notable entries p s r) where
  pub nothing_noted : r.fill ≤ s.fill → Noted m m entries entries (noted_by y k p s r)
  unfolding noted_by
  nothing_noted short = record { is = λ room. rw (le-ltb s.fill r.fill short); count = λ l e. rw (le-ltb s.fill r.fill short) e; size = refl; no_less = omega arith; more = omega arith }

  pub one_noted : (q v : ℕ) {m' : List ℕ} → q ≡ inserted_at (eqb (sort (symbol_of y)) 1) (is_operator k) s.body r.start s.fill → s.fill < r.fill → v ≡ packed q (r.fill - s.fill) p → m' ≡ over m (8 * entries) (high_bytes 8 v) → Noted m m' entries (entries + 1) (noted_by y k p s r)
  unfolding noted_by
  one_noted q v {m'} at_offset grown is put =
      let more : entries + 1 ≡ suc entries = omega arith in
      let same : length m' ≡ length m = ap length put ∙ over_length m (8 * entries) (high_bytes 8 v) in
      let stored : m' ≡ over m (8 * entries) (high_bytes 8 (packed q (r.fill - s.fill) p)) = put ∙ ap (λ (i : ℕ). over m (8 * entries) (high_bytes 8 i)) is in
      record {
        is = λ room.
            rw (lt-ltb s.fill r.fill grown, sym at_offset)
            (ap (log_in m') more ∙ ap (λ (l : List ℕ). log_in l (suc entries)) stored ∙ log_more m entries q (r.fill - s.fill) p (omega arith) (low_offset entries y k p s r h q at_offset) (omega (arith, h.ready_behind.fill)) h.small);
        count = λ l e. rw (lt-ltb s.fill r.fill grown) (omega arith);
        size = same;
        no_less = omega arith;
        more = omega arith;
      }
