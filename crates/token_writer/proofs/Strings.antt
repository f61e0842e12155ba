-- Strings in single quotes: byte by byte. Assumes nothing.
use mathlib.Core.Path.{◌≡◌, sym, ap, ◌∙◌}
use mathlib.Core.Bool.{Bool, true, false}
use mathlib.Core.List.{List, [], ◌∷◌, ◌++◌, append-nil, append_assoc}
use Prim.Native.Nat.{ℕ, zero, suc, ◌+◌, ◌*◌, ◌≤◌, ◌<◌}
use native.Mathlib.Omega.{arith}
use borrow.Author.Tests.{ne_eqb}
use lib.Dec.{eqb}
use lib.ListN.{length, take, get_or, length-append}
use lib.Seq.{take_all, length-take-le}
use Rattle.rules.specs.Bytes.{pick}
use Rattle.notation.specs.Layout.{escaped, escaped_all}
use Rattle.token_writer.specs.Writing.{Wrote}
use Rattle.token_writer.proofs.Writing.{wrote_is}

module _ {a b : List ℕ} {f g x : ℕ} where
  -- a byte that is known
  pub escaped_is : {n : ℕ} → x ≡ n → Wrote a b f g (escaped n) → Wrote a b f g (escaped x)
  escaped_is e w = rw e w

  -- a byte that stands for itself
  pub escaped_other : (x ≡ 0x27 → ⊥) → (x ≡ 0x5c → ⊥) → (x ≡ 0x0a → ⊥) → Wrote a b f g (x ∷ []) → Wrote a b f g (escaped x)
  escaped_other q s n w = wrote_is (rw (ne_eqb x 0x27 q, ne_eqb x 0x5c s, ne_eqb x 0x0a n)) w

-- one byte more
pub escaped_next : (s : List ℕ) (i : ℕ) → i < length s → escaped_all (take i s) ++ escaped (get_or s i 0) ≡ escaped_all (take (i + 1) s)
unfolding escaped_all
escaped_next [] i h = absurd (omega arith)
escaped_next (c ∷ cs) zero h = sym (append-nil (escaped c))
escaped_next (c ∷ cs) (suc i) h =
    let more : escaped_all (take i cs) ++ escaped (get_or cs i 0) ≡ escaped_all (take (i + 1) cs) = escaped_next cs i (omega arith) in
    let count : suc (i + 1) ≡ suc i + 1 = omega arith in
    append_assoc (escaped c) (escaped_all (take i cs)) (escaped (get_or cs i 0)) ∙ ap (λ (l : List ℕ). escaped c ++ l) more ∙ ap (λ (k : ℕ). escaped_all (take k (c ∷ cs))) count

-- a byte takes at most two
escaped_two : (c : ℕ) → length (escaped c) ≤ 2
escaped_two c = go (eqb c 0x27) (eqb c 0x5c) (eqb c 0x0a)
  where
    go : (q s n : Bool) → length (pick q (0x5c ∷ 0x27 ∷ []) (pick s (0x5c ∷ 0x5c ∷ []) (pick n (0x5c ∷ 0x6e ∷ []) (c ∷ [])))) ≤ 2
    go true s n = omega arith
    go false true n = omega arith
    go false false true = omega arith
    go false false false = omega arith

pub escaped_short : (s : List ℕ) → length (escaped_all s) ≤ 2 * length s
unfolding escaped_all
escaped_short [] = omega arith
escaped_short (c ∷ cs) = omega (arith, length-append (escaped c) (escaped_all cs), escaped_two c, escaped_short cs)

-- where the bytes up to i end
pub escaped_end : {a b : List ℕ} {f g : ℕ} (i : ℕ) (s : List ℕ) → i ≤ length s → Wrote a b f g (escaped_all (take i s)) → g ≤ f + 2 * i
escaped_end i s h w = omega (arith, w.filled, escaped_short (take i s), length-take-le i s h)

-- all bytes
pub escaped_all_lem : {a b : List ℕ} {f g : ℕ} (i : ℕ) (s : List ℕ) → length s ≤ i → Wrote a b f g (escaped_all (take i s)) → Wrote a b f g (escaped_all s)
escaped_all_lem i s h w = wrote_is (ap escaped_all (take_all i s h)) w
