-- Lines written and read back. Assumes nothing.
use Prim.Native.Nat.{ℕ, zero, suc, ◌+◌, ◌*◌, ◌/◌, ◌%◌, ◌^◌, ◌≤◌, ◌<◌}
use mathlib.Core.Path.{◌≡◌, refl, sym, ap, ◌∙◌}
use mathlib.Core.Bool.{Bool, true, false, ◌||◌}
use mathlib.Core.List.{List, [], ◌∷◌, ◌++◌, append_assoc, append-nil}
use native.Mathlib.Nat.{add-zero}
use native.Mathlib.Numerals.{add-one}
use native.Mathlib.Omega.{arith}
use borrow.Author.Tests.{eqb-true}
use lib.Dec.{eqb}
use lib.ListN.{length, get_or, take, length-append}
use lib.Seq.{length-take-le, take-suc, take_at, drop_at, take_all}
use Rattle.wire.specs.Bytes.{byte, two}
use Rattle.wire.specs.Numbers.{number, high_bytes}
use Rattle.wire.specs.Runs.{bytes_at, over}
use Rattle.wire.proofs.Laws.{over_length, run_part, run_in, byte_in, two_in, high_length, number_back, then_store}
use Rattle.rules.specs.State.{one_if}
use Rattle.cells.specs.Layout.{summary_at, summary_depth, summary_declares, summary_names, summary_size}
use Rattle.branches.specs.Texts.{Collects}
use Rattle.branches.specs.declared.collected.Collected.{Collected}
use Rattle.branches.proofs.Joining.{Joining}
use Rattle.branches.proofs.Texts.{collects_words}
use Rattle.summaries.specs.Lines.{numbers_at, number_bytes, text_with, line_of, text_in, line_bytes}
use Rattle.summaries.specs.Summaries.{IsFor}

-- ---- Numbers of 8 bytes

pub numbers_length : (l : List ℕ) (p k : ℕ) → length (numbers_at l p k) ≡ k
unfolding numbers_at
numbers_length l p zero = refl
numbers_length l p (suc k) = ap suc (numbers_length l (p + 8) k)

number_nth : (l : List ℕ) (p k i : ℕ) → i < k → get_or (numbers_at l p k) i 0 ≡ number (bytes_at l (p + 8 * i) 8) 0
unfolding numbers_at
number_nth l p zero i h = absurd (omega arith)
number_nth l p (suc k) zero h = ap (λ (q : ℕ). number (bytes_at l q 8) 0) (omega arith)
number_nth l p (suc k) (suc i) h = number_nth l (p + 8) k i (omega arith) ∙ ap (λ (q : ℕ). number (bytes_at l q 8) 0) (omega arith)

bytes_length : (s : List ℕ) → length (number_bytes s) ≡ 8 * length s
unfolding number_bytes
bytes_length [] = refl
bytes_length (n ∷ ns) = omega (arith, length-append (high_bytes 8 n) (number_bytes ns), high_length 8 n, bytes_length ns)

bytes_append : (s t : List ℕ) → number_bytes (s ++ t) ≡ number_bytes s ++ number_bytes t
unfolding number_bytes
bytes_append [] t = refl
bytes_append (n ∷ ns) t = rw (bytes_append ns t, append_assoc) refl

-- the way of `put_names`: the first i numbers of s are stored from p on
pub record Storing (s w₀ : List ℕ) (p i : ℕ) (w : List ℕ) : Type 0 where
  pub stored : w ≡ over w₀ p (number_bytes (take i s))

pub storing : (s w : List ℕ) (p : ℕ) → Storing s w p 0 w
unfolding number_bytes over
storing s w p = record { stored = refl }

module _ {s w₀ : List ℕ} {p i : ℕ} {w : List ℕ} (q : Storing s w₀ p i w) where
  pub same_room : length w ≡ length w₀
  same_room = ap length q.stored ∙ over_length w₀ p (number_bytes (take i s))

  pub one_stored : {w' : List ℕ} → i < length s → w' ≡ over w (p + 8 * i) (high_bytes 8 (get_or s i 0)) → Storing s w₀ p (i + 1) w'
  unfolding number_bytes
  one_stored h next =
      let size : length (take i s) ≡ i = length-take-le i s (omega arith) in
      let more : take (i + 1) s ≡ take i s ++ (get_or s i 0 ∷ []) = rw add-one (take-suc s i 0 h) in
      let bytes : number_bytes (take (i + 1) s) ≡ number_bytes (take i s) ++ high_bytes 8 (get_or s i 0) = ap number_bytes more ∙ bytes_append (take i s) (get_or s i 0 ∷ []) ∙ ap (λ (x : List ℕ). number_bytes (take i s) ++ x) (append-nil (high_bytes 8 (get_or s i 0))) in
      record { stored = rw bytes (then_store w₀ p (number_bytes (take i s)) (p + 8 * i) (high_bytes 8 (get_or s i 0)) q.stored next (omega (arith, bytes_length (take i s)))) }

  pub all_stored : length s ≤ i → w ≡ over w₀ p (number_bytes s)
  all_stored past = q.stored ∙ ap (λ (x : List ℕ). over w₀ p (number_bytes x)) (take_all i s past)

-- ---- A line read

module _ (w : List ℕ) (i : ℕ) where
  pub line_place : two (line_of w i) 0 ≡ two w (summary_at i)
  unfolding line_of
  line_place = two_in w (summary_at i) summary_size 0 (omega arith) ∙ ap (two w) (add-zero (summary_at i))

  pub line_byte : (j : ℕ) → j < summary_size → byte (line_of w i) j ≡ byte w (summary_at i + j)
  unfolding line_of
  line_byte j h = byte_in w (summary_at i) summary_size j h

  pub line_number_lem : (j : ℕ) → j < 16 → number (bytes_at w (summary_at i + summary_names + 8 * j) 8) 0 ≡ get_or (numbers_at (line_of w i) summary_names 16) j 0
  unfolding line_of
  line_number_lem j h =
      let here : summary_at i + (summary_names + 8 * j) ≡ summary_at i + summary_names + 8 * j = omega arith in
      sym (number_nth (line_of w i) summary_names 16 j h
      ∙ ap (λ (bs : List ℕ). number bs 0) (run_in w (summary_at i) summary_size (summary_names + 8 * j) 8 (omega arith) ∙ ap (λ (q : ℕ). bytes_at w q 8) here))

  -- the ways of `is_for` and of `recall`
  pub found_for : {d p t b : ℕ} → t ≡ two w (summary_at i) → b ≡ byte w (summary_at i + summary_depth) → t ≡ p + 1 → eqb b d ≡ true → IsFor (line_of w i) d p
  found_for {d} {b = b} read_place read_depth place depth = record { place = line_place ∙ sym read_place ∙ place; depth = line_byte summary_depth (omega arith) ∙ sym read_depth ∙ eqb-true b d depth }

  pub recalled : {b k : ℕ} {c c' : Collected} → Joining (numbers_at (line_of w i) summary_names 16) c.names k c'.names → 16 ≤ k → b ≡ byte w (summary_at i + summary_declares) → c'.declares ≡ (c.declares || eqb b 1) → Collects c c' (text_in (line_of w i))
  unfolding text_in
  recalled {c = c} q past read declares = collects_words c q (omega (arith, numbers_length (line_of w i) summary_names 16)) refl (rw (line_byte summary_declares (omega arith), sym read) declares)

-- ---- A line written

-- the numbers after others are read back
numbers_back : (front s : List ℕ) → ((j : ℕ) → get_or s j 0 < 256 ^ 8) → numbers_at (front ++ number_bytes s) (length front) (length s) ≡ s
unfolding numbers_at number_bytes
numbers_back front [] small = refl
numbers_back front (n ∷ ns) small =
    let whole : List ℕ = front ++ (high_bytes 8 n ++ number_bytes ns) in
    let size : length (high_bytes 8 n) ≡ 8 = high_length 8 n in
    let room : length front + 8 ≤ length whole = omega (arith, length-append front (high_bytes 8 n ++ number_bytes ns), length-append (high_bytes 8 n) (number_bytes ns)) in
    let run : bytes_at whole (length front) 8 ≡ high_bytes 8 n = run_part whole (length front) 8 room ∙ ap (take 8) (drop_at front (high_bytes 8 n ++ number_bytes ns) (length front) refl) ∙ take_at (high_bytes 8 n) (number_bytes ns) 8 size in
    let first : number (bytes_at whole (length front) 8) 0 ≡ n = ap (λ (bs : List ℕ). number bs 0) run ∙ number_back 8 n (small 0) in
    let next : length (front ++ high_bytes 8 n) ≡ length front + 8 = omega (arith, length-append front (high_bytes 8 n)) in
    let others : numbers_at whole (length front + 8) (length ns) ≡ ns = rw (append_assoc front (high_bytes 8 n) (number_bytes ns), next) at (numbers_back (front ++ high_bytes 8 n) ns (λ j. small (suc j))) in
    rw (first, others) refl

module _ (p d : ℕ) (b : Bool) (s : List ℕ) where
  pub line_length : length s ≡ 16 → length (line_bytes p d b s) ≡ summary_size
  unfolding line_bytes high_bytes
  line_length size = omega (arith, bytes_length s)

  pub line_for_lem : p < 65535 → d < 256 → IsFor (line_bytes p d b s) d p
  unfolding line_bytes high_bytes two
  line_for_lem h k = record { place = omega arith; depth = omega arith }

  pub line_text : length s ≡ 16 → ((j : ℕ) → get_or s j 0 < 256 ^ 8) → text_in (line_bytes p d b s) ≡ text_with s b
  unfolding line_bytes high_bytes text_in one_if
  line_text size small =
      let front : List ℕ = (p + 1) / 256 % 256 ∷ (p + 1) / 1 % 256 ∷ d / 1 % 256 ∷ one_if b / 1 % 256 ∷ [] in
      let names : numbers_at (front ++ number_bytes s) 4 16 ≡ s = rw size at (numbers_back front s small) in
      rw names (ap (text_with s) (either b))
    where
      either : (b : Bool) → eqb (one_if b / 1 % 256) 1 ≡ b
      either true = refl
      either false = refl

-- the way of `write`
pub line_stored : (w : List ℕ) {w₁ w₂ w₃ w' : List ℕ} (at p d : ℕ) (b : Bool) (s : List ℕ)
    → w₁ ≡ over w at (high_bytes 2 (p + 1)) → w₂ ≡ over w₁ (at + summary_depth) (high_bytes 1 d) → w₃ ≡ over w₂ (at + summary_declares) (high_bytes 1 (one_if b)) → w' ≡ over w₃ (at + summary_names) (number_bytes s)
    → w' ≡ over w at (line_bytes p d b s)
unfolding line_bytes high_bytes number_bytes
line_stored w at p d b s a₁ a₂ a₃ a₄ =
    let size : (k n : ℕ) → length (high_bytes k n) ≡ k = high_length in
    let three = then_store w at (high_bytes 2 (p + 1)) (at + summary_depth) (high_bytes 1 d) a₁ a₂ (omega (arith, size 2 (p + 1))) in
    let four = then_store w at (high_bytes 2 (p + 1) ++ high_bytes 1 d) (at + summary_declares) (high_bytes 1 (one_if b)) three a₃ (omega (arith, length-append (high_bytes 2 (p + 1)) (high_bytes 1 d), size 2 (p + 1), size 1 d)) in
    let all = then_store w at ((high_bytes 2 (p + 1) ++ high_bytes 1 d) ++ high_bytes 1 (one_if b)) (at + summary_names) (number_bytes s) four a₄ (omega (arith, length-append (high_bytes 2 (p + 1) ++ high_bytes 1 d) (high_bytes 1 (one_if b)), length-append (high_bytes 2 (p + 1)) (high_bytes 1 d), size 2 (p + 1), size 1 d, size 1 (one_if b))) in
    simp append_assoc at all
