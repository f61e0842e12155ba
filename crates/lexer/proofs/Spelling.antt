-- The string that begins at a place: a run of a word, or a string in quotes. Assumes nothing.
use Prim.Native.Nat.{ℕ, zero, suc, ◌+◌, ◌-◌, ◌≤◌, ◌<◌}
use mathlib.Core.Path.{◌≡◌, refl, ap}
use mathlib.Core.Bool.{Bool, true, false}
use mathlib.Core.List.{List, [], ◌∷◌}
use native.Mathlib.Omega.{arith}
use lib.Dec.{ltb}
use lib.ListN.{length, get_or, drop, drop_of_length-le}
use lib.Seq.{slice, slice_empty, slice-cons, drop-cons}
use borrow.Author.Tests.{ltb-true, ltb-false}
use Rattle.notation.specs.Lexing.{in_word, is_quote}
use Rattle.notation.specs.Quoted.{word_from, quoted_at, string_from}
use Rattle.lexer.specs.Scanned.{WordRun}
use Rattle.lexer.proofs.Scanning.{differs}

module _ (t : List ℕ) (r : ℕ) (high : r ≤ length t) (stops : r < length t → in_word (get_or t r 0) ≡ false) where
  -- no byte of a word is left
  none_left : word_from (drop r t) ≡ []
  unfolding word_from
  none_left = go (ltb r (length t)) refl
    where
      go : (b : Bool) → ltb r (length t) ≡ b → word_from (drop r t) ≡ []
      go true e = let l = ltb-true r (length t) e in rw (drop-cons t r 0 l, stops l)
      go false e = rw (drop_of_length-le t (ltb-false r (length t) e))

  -- the k bytes before r
  letters : (k at : ℕ) → at + k ≡ r → ((i : ℕ) → at ≤ i → i < r → in_word (get_or t i 0) ≡ true) → word_from (drop at t) ≡ slice at r t
  unfolding word_from
  letters zero at e inside = let same : at ≡ r = omega arith in rw (same, slice_empty r t) none_left
  letters (suc k) at e inside =
      let here : in_word (get_or t at 0) ≡ true = inside at (omega arith) (omega arith) in
      let below : at < r = omega arith in
      rw (drop-cons t at 0 (omega arith), here, slice-cons at r t 0 below high)
      (ap (λ (w : List ℕ). get_or t at 0 ∷ w) (letters k (suc at) (omega arith) (λ i low l. inside i (omega arith) l)))

-- a run of a word that has a byte
pub run_spelled : (t : List ℕ) (a e : ℕ) → a < e → WordRun t a e → string_from t a ≡ slice a e t
unfolding string_from is_quote
run_spelled t a e low run =
    let first = run.inside a (omega arith) low in
    rw (differs in_word (get_or t a 0) 0x27 first refl, differs in_word (get_or t a 0) 0x22 first refl)
    (letters t e run.high run.stops (e - a) a (omega arith) run.inside)

-- a string in quotes
pub quoted_spelled : (t : List ℕ) (p : ℕ) → is_quote (get_or t p 0) ≡ true → string_from t p ≡ quoted_at t p
unfolding string_from
quoted_spelled t p h = rw h
