-- Texts in a lent buffer: one after the other they are one text, and a number's digits are made in a buffer of their own. Assumes nothing.
use Prim.Native.Nat.{ℕ, ◌+◌, ◌≤◌, ◌<◌}
use mathlib.Core.Path.{◌≡◌, sym, ap, ◌∙◌}
use mathlib.Core.List.{List, ◌++◌}
use native.Mathlib.Omega.{arith}
use lib.ListN.{length, take, drop, length-append}
use lib.Seq.{take_at}
use Rattle.wire.specs.Runs.{over}
use Rattle.wire.proofs.Laws.{over_join}
use Rattle.values.specs.Decimal.{decimal, wrote, write_text}
use Rattle.values.proofs.Digits.{text_fits, decimal_short}
use Rattle.question.specs.Answers.{Put}

pub then_put : {at : ℕ} {p q b b' b'' : List ℕ} {e e' : ℕ} → Put at p b b' e → Put e q b' b'' e' → Put at (p ++ q) b b'' e'
then_put {at} {p} {q} {b} {e = e} first second = record {
  told = omega (arith, first.told, second.told, length-append p q);
  bytes = second.bytes ∙ ap (λ (l : List ℕ). over l e q) first.bytes ∙ ap (λ (k : ℕ). over (over b at p) k q) first.told ∙ over_join b at p q;
}

-- a text by another name
pub put_is : {at : ℕ} {p q b b' : List ℕ} {e : ℕ} → p ≡ q → Put at p b b' e → Put at q b b' e
put_is {at} {b = b} same put = record { told = put.told ∙ ap (λ (t : List ℕ). at + length t) same; bytes = put.bytes ∙ ap (over b at) same }

-- ---- Numbers

pub number_short : (n : ℕ) → n < 65536 → length (decimal n) ≤ 20
number_short n small = decimal_short n (omega arith)

-- the digits of a number, in a buffer of 20 bytes
pub record Ready (n count : ℕ) (buffer : List ℕ) : Type 0 where
  pub within : count ≤ length buffer
  pub whole : count ≡ length (take count buffer)
  pub is : take count buffer ≡ decimal n

pub number_ready : (n : ℕ) (buffer : List ℕ) {count : ℕ} {b : List ℕ} → n < 65536 → length buffer ≡ 20 → wrote count b ≡ write_text (decimal n) buffer → Ready n count b
number_ready n buffer {count} {b} small room e =
    let there : wrote count b ≡ wrote (length (decimal n)) (decimal n ++ drop (length (decimal n)) buffer) = e ∙ sym (text_fits (decimal n) buffer (omega (arith, number_short n small))) in
    let size : count ≡ length (decimal n) = cc in
    let bytes : b ≡ decimal n ++ drop (length (decimal n)) buffer = cc in
    let is : take count b ≡ decimal n = rw bytes (take_at (decimal n) (drop (length (decimal n)) buffer) count (sym size)) in
    record { within = omega (arith, ap length bytes, length-append (decimal n) (drop (length (decimal n)) buffer)); whole = size ∙ ap length (sym is); is = is }
