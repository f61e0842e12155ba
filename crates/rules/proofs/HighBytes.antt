-- Numbers in bytes, the high one first: what is read of bytes, written again, is the bytes.
use Prim.Native.Nat.{ℕ, suc, ◌+◌, ◌*◌, ◌-◌, ◌/◌, ◌%◌, ◌^◌, ◌<◌}
use mathlib.Core.Path.{◌≡◌, refl, sym, ap, ap₂, ◌∙◌}
use mathlib.Core.Bool.{Bool, true, false}
use mathlib.Core.List.{List, [], ◌∷◌, ◌++◌}
use native.Mathlib.Omega.{arith}
use native.Mathlib.Nat.{pow-suc, div-div-eq-div-mul}
use lib.Dec.{ltb}
use lib.IntN.{pos, negsuc}
use lib.ListN.{length}
use Rattle.rules.specs.Bytes.{byte, two}
use Rattle.rules.specs.Read.{number, signed64}
use Rattle.rules.specs.Catalog.{high_bytes, word64}
use Rattle.rules.specs.EditRule.{IsBytes}

tail_bytes : {x : ℕ} {bs : List ℕ} → IsBytes (x ∷ bs) → IsBytes bs
tail_bytes b = record { below = λ i. b.below (suc i) }

-- what stood before the bytes is the number without them
number_high : (bs : List ℕ) (n : ℕ) → IsBytes bs → number bs n / 256 ^ length bs ≡ n
unfolding number
number_high [] n b = omega arith
number_high (x ∷ bs) n b =
    let small : x < 256 = b.below 0 in
    let there = number_high bs (n * 256 + x) (tail_bytes b) in
    let split : number bs (n * 256 + x) / 256 ^ suc (length bs) ≡ number bs (n * 256 + x) / 256 ^ length bs / 256 =
    ap (λ (k : ℕ). number bs (n * 256 + x) / k) (pow-suc 256 (length bs)) ∙ sym (div-div-eq-div-mul (number bs (n * 256 + x)) (256 ^ length bs) 256) in
    split ∙ ap (λ (k : ℕ). k / 256) there ∙ omega arith

pub bytes_back : (bs : List ℕ) (n : ℕ) → IsBytes bs → high_bytes (length bs) (number bs n) ≡ bs
unfolding number high_bytes
bytes_back [] n b = refl
bytes_back (x ∷ bs) n b =
    let small : x < 256 = b.below 0 in
    let there = number_high bs (n * 256 + x) (tail_bytes b) in
    let first : number bs (n * 256 + x) / 256 ^ length bs % 256 ≡ x = omega arith in
    ap₂ (λ (y : ℕ) (ys : List ℕ). y ∷ ys) first (bytes_back bs (n * 256 + x) (tail_bytes b))

-- two's complement of 64 bits
pub word_back : (w : ℕ) → w < 18446744073709551616 → word64 (signed64 w) ≡ w
unfolding word64 signed64
word_back w h = go (ltb w 9223372036854775808) refl
  where
    go : (b : Bool) → ltb w 9223372036854775808 ≡ b → word64 (elim b [ true ↦ pos w | false ↦ negsuc (18446744073709551615 - w) ]) ≡ w
    go true e = refl
    go false e = omega arith

-- eight bytes as a signed number
pub eight_back : (bs : List ℕ) → length bs ≡ 8 → IsBytes bs → high_bytes 8 (word64 (signed64 (number bs 0))) ≡ bs
eight_back bs n b =
    let high : number bs 0 / 256 ^ 8 ≡ 0 = rw n at (number_high bs 0 b) in
    let same : high_bytes 8 (number bs 0) ≡ bs = rw n at (bytes_back bs 0 b) in
    rw (word_back (number bs 0) (omega arith)) same

-- two bytes
two_back : (a b : ℕ) → a < 256 → b < 256 → high_bytes 2 (a * 256 + b) ≡ a ∷ b ∷ []
unfolding high_bytes
two_back a b h k =
    let first : (a * 256 + b) / 256 % 256 ≡ a = omega arith in
    let second : (a * 256 + b) / 1 % 256 ≡ b = omega arith in
    ap₂ (λ (x y : ℕ). x ∷ y ∷ []) first second

-- a head of one name, of two, of a byte and a name
pub name_back : (h : List ℕ) → length h ≡ 2 → IsBytes h → high_bytes 2 (two h 0) ≡ h
unfolding two
name_back [] n b = absurd (omega arith)
name_back (x ∷ []) n b = absurd (omega arith)
name_back (x ∷ y ∷ []) n b = two_back x y (b.below 0) (b.below 1)
name_back (x ∷ y ∷ z ∷ h) n b = absurd (omega arith)

pub names_back : (h : List ℕ) → length h ≡ 4 → IsBytes h → high_bytes 2 (two h 0) ++ high_bytes 2 (two h 2) ≡ h
unfolding two
names_back [] n b = absurd (omega arith)
names_back (x ∷ []) n b = absurd (omega arith)
names_back (x ∷ y ∷ []) n b = absurd (omega arith)
names_back (x ∷ y ∷ z ∷ []) n b = absurd (omega arith)
names_back (x ∷ y ∷ z ∷ u ∷ []) n b = ap₂ ◌++◌ (two_back x y (b.below 0) (b.below 1)) (two_back z u (b.below 2) (b.below 3))
names_back (x ∷ y ∷ z ∷ u ∷ v ∷ h) n b = absurd (omega arith)

pub label_name_back : (h : List ℕ) → length h ≡ 3 → IsBytes h → byte h 0 ∷ high_bytes 2 (two h 1) ≡ h
unfolding two
label_name_back [] n b = absurd (omega arith)
label_name_back (x ∷ []) n b = absurd (omega arith)
label_name_back (x ∷ y ∷ []) n b = absurd (omega arith)
label_name_back (x ∷ y ∷ z ∷ []) n b = ap (λ (ys : List ℕ). x ∷ ys) (two_back y z (b.below 1) (b.below 2))
label_name_back (x ∷ y ∷ z ∷ u ∷ h) n b = absurd (omega arith)
