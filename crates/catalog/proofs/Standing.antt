-- Bytes that stand at a place: their parts, and the numbers and fields among them. Assumes nothing.
use mathlib.Core.Path.{◌≡◌, refl, sym, ap, ◌∙◌}
use mathlib.Core.List.{List, [], ◌∷◌, ◌++◌, append_assoc}
use Prim.Native.Nat.{ℕ, ◌+◌, ◌≤◌, ◌<◌}
use native.Mathlib.Nat.{add-zero}
use native.Mathlib.Omega.{arith}
use lib.ListN.{length, take, drop, length-append, length-drop}
use lib.Seq.{drop-drop, drop-append_seam, take_at}
use Rattle.wire.specs.Bytes.{byte, two, end_of}
use Rattle.wire.specs.Numbers.{high_bytes}
use Rattle.wire.specs.Runs.{bytes_at}
use Rattle.wire.proofs.Laws.{byte_drop, run_part, high_length}
use Rattle.rules.specs.Catalog.{field_bytes}
use Rattle.rules.proofs.ReadBack.{two_back, field_length}
use Rattle.catalog.specs.Finding.{Stands}

module _ (m : List ℕ) where
  -- what is read from p on
  byte_at : (p : ℕ) → byte m p ≡ byte (drop p m) 0
  byte_at p = ap (byte m) (sym (add-zero p)) ∙ byte_drop m p 0

  two_at : (p : ℕ) → two m p ≡ two (drop p m) 0
  unfolding two
  two_at p = omega (arith, byte_at p, byte_drop m p 1)

  module _ {p : ℕ} where
    -- the parts of bytes that stand at p
    pub stands_first : (a b : List ℕ) → Stands m p (a ++ b) → Stands m p a
    stands_first a b s = record { after = b ++ s.after; bytes = s.bytes ∙ append_assoc a b s.after }

    pub stands_next : (a b : List ℕ) {q : ℕ} → p + length a ≡ q → Stands m p (a ++ b) → Stands m q b
    stands_next a b {q} e s = record {
      after = s.after;
      bytes = ap (λ (k : ℕ). drop k m) (sym e) ∙ sym (drop-drop (length a) p m) ∙ ap (drop (length a)) (s.bytes ∙ append_assoc a b s.after) ∙ drop-append_seam a (b ++ s.after);
    }

    pub stands_same : {a b : List ℕ} → a ≡ b → Stands m p a → Stands m p b
    stands_same e s = record { after = s.after; bytes = s.bytes ∙ ap (λ (l : List ℕ). l ++ s.after) e }

    pub stands_within : (bs : List ℕ) → 0 < length bs → Stands m p bs → p + length bs ≤ length m
    stands_within bs some s = omega (arith, length-drop p m, ap length s.bytes, length-append bs s.after)

    -- what is read of them
    pub stands_byte : (x : ℕ) (b : List ℕ) → Stands m p (x ∷ b) → byte m p ≡ x
    stands_byte x b s = byte_at p ∙ ap (λ (l : List ℕ). byte l 0) s.bytes

    pub stands_two : (w : ℕ) (b : List ℕ) → w < 65536 → Stands m p (high_bytes 2 w ++ b) → two m p ≡ w
    stands_two w b small s = two_at p ∙ ap (λ (l : List ℕ). two l 0) (s.bytes ∙ append_assoc (high_bytes 2 w) b s.after) ∙ two_back w (b ++ s.after) small

    pub stands_run : (bs : List ℕ) → 0 < length bs → Stands m p bs → bytes_at m p (length bs) ≡ bs
    stands_run bs some s = run_part m p (length bs) (stands_within bs some s) ∙ ap (take (length bs)) s.bytes ∙ take_at bs s.after (length bs) refl

-- a field: its end and its body
pub field_end : (m : List ℕ) {p : ℕ} (t : ℕ) (b : List ℕ) → length b < 65536 → Stands m p (field_bytes t b) → end_of m p ≡ p + length (field_bytes t b)
unfolding field_bytes
field_end m {p} t b small s =
    let header : Stands m (p + 1) (high_bytes 2 (length b) ++ b) = stands_next m (t ∷ []) (high_bytes 2 (length b) ++ b) refl s in
    omega (arith, stands_two m (length b) b small header, field_length t b)

pub field_body : (m : List ℕ) {p : ℕ} (t : ℕ) (b : List ℕ) → Stands m p (field_bytes t b) → Stands m (p + 3) b
unfolding field_bytes
field_body m {p} t b s = stands_next m (t ∷ high_bytes 2 (length b)) b (omega (arith, high_length 2 (length b))) s
