-- Bytes written one after the other: two pieces are one. Assumes nothing.
use mathlib.Core.Path.{◌≡◌, refl, sym, ap, ◌∙◌}
use mathlib.Core.Bool.{Bool, true, false}
use mathlib.Core.List.{List, [], ◌∷◌, ◌++◌, append_assoc}
use Prim.Native.Nat.{ℕ, ◌+◌, ◌-◌, ◌≤◌, ◌<◌, min}
use native.Mathlib.Omega.{arith}
use borrow.Author.Tests.{ltb-true, ltb-false}
use borrow.Rule.Slice.PartMut.{mid_of, put_mid, mid_len, put_same}
use lib.Dec.{ltb}
use lib.ListN.{length, take, drop, replicate, length-append, length-replicate}
use lib.Seq.{drop-drop}
use Rattle.std.proofs.lemmas.List.{replicate-append-replicate}
use Rattle.wire.specs.Runs.{over}
use Rattle.wire.specs.Numbers.{high_bytes}
use Rattle.wire.proofs.Laws.{over_length, over_join, over_parts, over_past, then_store, one_byte}
use Rattle.token_writer.specs.Writing.{Wrote}

module _ {a b : List ℕ} {f g : ℕ} where
  -- the output keeps its length
  pub wrote_length : {p : List ℕ} → Wrote a b f g p → length b ≡ length a
  wrote_length {p} w = ap length w.stored ∙ over_length a f p

  -- a piece by another name
  pub wrote_is : {p q : List ℕ} → p ≡ q → Wrote a b f g p → Wrote a b f g q
  wrote_is e w = rw e at w

  -- a second piece behind the first
  pub wrote_join : {c : List ℕ} {h : ℕ} {p q : List ℕ} → Wrote a b f g p → Wrote b c g h q → Wrote a c f h (p ++ q)
  wrote_join {c} {h} {p} {q} first second =
      record {
        filled = omega (arith, first.filled, second.filled, length-append p q);
        stored = then_store a f p g q first.stored second.stored first.filled;
      }

-- nothing is written
pub wrote_none : (a : List ℕ) (f : ℕ) → Wrote a a f f []
unfolding over
wrote_none a f = record { filled = omega arith; stored = refl }

-- ---- Runs of one byte

module _ (m : List ℕ) (at count x : ℕ) where
  -- what is past the end of the output is not stored
  run_within : (k : ℕ) → k ≤ count → (k < count → length m ≤ at + k) → over m at (replicate count x) ≡ over m at (replicate k x)
  run_within k h past = go (ltb k count) refl
    where
      go : (b : Bool) → ltb k count ≡ b → over m at (replicate count x) ≡ over m at (replicate k x)
      go true q =
          let less : k < count = ltb-true k count q in
          let end : length m ≤ at + k = past less in
          let all : k + (count - k) ≡ count = omega arith in
          let whole : replicate k x ++ replicate (count - k) x ≡ replicate count x = replicate-append-replicate k (count - k) x ∙ ap (λ (n : ℕ). replicate n x) all in
          ap (over m at) (sym whole) ∙ sym (over_join m at (replicate k x) (replicate (count - k) x))
          ∙ over_past (over m at (replicate k x)) (at + length (replicate k x)) (replicate (count - k) x) (omega (arith, over_length m at (replicate k x), length-replicate k x, end))
      go false q = let same : count ≡ k = omega (arith, ltb-false k count q) in ap (λ (n : ℕ). over m at (replicate n x)) same

  run_inside : (k : ℕ) → k ≤ count → at + k ≤ length m → (k < count → length m ≤ at + k) → put_mid at k m (replicate k x) ≡ over m at (replicate count x)
  run_inside k h room past =
      let size : length (replicate k x) ≡ k = length-replicate k x in
      let behind : drop (at + length (replicate k x)) m ≡ drop k (drop at m) = ap (λ (n : ℕ). drop (at + n) m) size ∙ sym (drop-drop k at m) in
      ap (λ (l : List ℕ). take at m ++ (replicate k x ++ l)) (sym behind) ∙ sym (append_assoc (take at m) (replicate k x) (drop (at + length (replicate k x)) m)) ∙ sym (over_parts m at (replicate k x) (omega (arith, size))) ∙ sym (run_within k h past)

  -- the part of the output that the run meets, filled
  pub run_filled : {i e : ℕ} {mid : List ℕ} → i ≡ min at (length m) → e ≡ min (at + count) (length m) → mid ≡ replicate (length (mid_of i (e - i) m)) x → put_mid i (e - i) m mid ≡ over m at (replicate count x)
  run_filled {i} {e} {mid} first last made = go (ltb at (length m)) refl
    where
      go : (b : Bool) → ltb at (length m) ≡ b → put_mid i (e - i) m mid ≡ over m at (replicate count x)
      go true q =
          let before : at < length m = ltb-true at (length m) q in
          let here : i ≡ at = omega arith in
          let is : mid ≡ replicate (e - i) x = made ∙ ap (λ (n : ℕ). replicate n x) (mid_len i e m (omega arith)) in
          ap (put_mid i (e - i) m) is ∙ ap (λ (n : ℕ). put_mid n (e - i) m (replicate (e - i) x)) here ∙ run_inside (e - i) (omega arith) (omega arith) (λ h. omega arith)
      go false q =
          let behind : length m ≤ at = ltb-false at (length m) q in
          let none : e - i ≡ 0 = omega arith in
          let empty : mid_of i (e - i) m ≡ [] = ap (λ (k : ℕ). mid_of i k m) none in
          let is : mid ≡ mid_of i (e - i) m = made ∙ ap (λ (l : List ℕ). replicate (length l) x) empty ∙ sym empty in
          ap (put_mid i (e - i) m) is ∙ put_same i (e - i) m ∙ sym (over_past m at (replicate count x) behind)

pub run_wrote : (a b : List ℕ) (f n x : ℕ) → b ≡ over a f (replicate n x) → Wrote a b f (f + n) (replicate n x)
run_wrote a b f n x e = record { filled = omega (arith, length-replicate n x); stored = e }

-- a byte alone
pub byte_wrote : (a b : List ℕ) (f x : ℕ) → x < 256 → b ≡ over a f (high_bytes 1 x) → Wrote a b f (f + 1) (x ∷ [])
byte_wrote a b f x small e = record { filled = refl; stored = e ∙ ap (over a f) (one_byte x small) }

-- where a run ends
pub run_end : {a b : List ℕ} {f g : ℕ} (n x : ℕ) → Wrote a b f g (replicate n x) → g ≡ f + n
run_end n x w = omega (arith, w.filled, length-replicate n x)
