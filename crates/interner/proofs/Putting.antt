-- Strings and fields put into a lent output, one after the other.
use Prim.Native.Nat.{ℕ, ◌+◌, ◌-◌, ◌/◌, ◌%◌, ◌^◌, ◌≤◌}
use mathlib.Core.Path.{◌≡◌, sym, ap, ◌∙◌}
use mathlib.Core.List.{List, ◌∷◌, ◌++◌, append_assoc}
use native.Mathlib.Omega.{arith}
use lib.ListN.{length, set, take, drop, length-take}
use lib.Seq.{drop_at}
use Rattle.wire.specs.Numbers.{high_bytes}
use Rattle.wire.specs.Runs.{over}
use Rattle.wire.proofs.Laws.{over_more, over_none, over_join, over_length, then_store, over_parts, high_length}
use Rattle.rules.specs.Fields.{wrap}
use Rattle.interner.specs.Strings.{rest_of, Stepped}
use Rattle.interner.specs.TableField.{at_start, Put}
use Rattle.interner.proofs.Measuring.{string_goes_on, none_left, wrap_length}

-- ---- A string

module _ {t : List ℕ} {q p code behind : ℕ} (x : Stepped t q p code behind) (m : List ℕ) (end : ℕ) where
  -- nothing is left to put
  pub put_ends : code ≡ 0 → m ≡ over m end (rest_of t q p)
  put_ends e = sym (over_none m end (rest_of t q p) (omega (arith, none_left x e)))

  -- a byte, then what is left
  pub put_goes_on : (code ≡ 0 → ⊥) → over (set m end (code - 1)) (end + 1) (rest_of t q behind) ≡ over m end (rest_of t q p)
  put_goes_on n = over_more m end (code - 1) (rest_of t q behind) ∙ ap (over m end) (sym (string_goes_on x n))

-- ---- Fields

-- a header that has the length of the body makes a field
header_wraps : (tag : ℕ) (body : List ℕ) → length body ≤ 65535 → (tag ∷ high_bytes 2 (length body)) ++ body ≡ wrap tag body
unfolding wrap high_bytes
header_wraps tag body l =
    let high : length body / 256 ^ 1 % 256 ≡ length body / 256 = omega arith in
    let low : length body / 256 ^ 0 % 256 ≡ length body % 256 = omega arith in
    rw (high, low)

-- it has three bytes
header_length : (tag n : ℕ) → length (tag ∷ high_bytes 2 n) ≡ 3
header_length tag n = omega (arith, high_length 2 n)

-- a header, and then the body
pub field_put : (tag : ℕ) (body m : List ℕ) (at : ℕ) {m1 m2 : List ℕ} {size end : ℕ} → length body ≤ 65535 → size ≡ length body → m1 ≡ over m at (tag ∷ high_bytes 2 size) → Put m1 m2 (at + 3) end body → Put m m2 at end (wrap tag body)
field_put tag body m at {m1} {m2} {size} short is e put = record {
  ends = omega (arith, put.ends, wrap_length tag body);
  stored =
      then_store m at (tag ∷ high_bytes 2 size) (at + 3) body e put.stored (omega (arith, header_length tag size))
      ∙ ap (λ (n : ℕ). over m at ((tag ∷ high_bytes 2 n) ++ body)) is ∙ ap (over m at) (header_wraps tag body short);
}

-- some bytes, and then others
pub put_others : (others : List ℕ) {m m' : List ℕ} {p end : ℕ} {bytes : List ℕ} → Put m m' p end bytes → over m' end others ≡ over m p (bytes ++ others)
put_others others {m} {m'} {p} {end} {bytes} put = rw (put.stored, put.ends) (over_join m p bytes others)

-- the body, and then the header before it, at the start of the output
pub whole_put : (tag : ℕ) (body m : List ℕ) {m1 m2 : List ℕ} {end : ℕ} → length body ≤ 65535 → 3 + length body ≤ length m → Put m m1 3 end body → m2 ≡ over m1 0 (tag ∷ high_bytes 2 (end - 3)) → m2 ≡ at_start (wrap tag body) m
whole_put tag body m {m1} {m2} {end} short room put e =
    let size : end - 3 ≡ length body = omega (arith, put.ends) in
    let head : List ℕ = tag ∷ high_bytes 2 (length body) in
    let long : length m1 ≡ length m = ap length put.stored ∙ over_length m 3 body in
    let behind : drop (0 + length head) m1 ≡ body ++ drop (3 + length body) m =
    ap (drop (0 + length head)) (put.stored ∙ over_parts m 3 body room ∙ append_assoc (take 3 m) body (drop (3 + length body) m))
    ∙ drop_at (take 3 m) (body ++ drop (3 + length body) m) (0 + length head) (omega (arith, length-take 3 m, header_length tag (length body))) in
    e ∙ ap (λ (n : ℕ). over m1 0 (tag ∷ high_bytes 2 n)) size
    ∙ over_parts m1 0 head (omega (arith, header_length tag (length body)))
    ∙ ap (λ (r : List ℕ). head ++ r) behind
    ∙ sym (append_assoc head body (drop (3 + length body) m))
    ∙ ap (λ (r : List ℕ). r ++ drop (3 + length body) m) (header_wraps tag body short)
    ∙ ap (λ (k : ℕ). wrap tag body ++ drop k m) (sym (wrap_length tag body))
