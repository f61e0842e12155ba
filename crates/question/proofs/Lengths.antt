-- 64 bytes are enough for any answer, and what is written into them is the whole of it. Assumes nothing.
use Prim.Native.Nat.{ℕ, ◌+◌, ◌≤◌, ◌<◌}
use mathlib.Core.Path.{◌≡◌, ap, ◌∙◌}
use mathlib.Core.List.{List, [], ◌∷◌, ◌++◌}
use native.Mathlib.Omega.{arith}
use lib.ListN.{length, take, length-append}
use Rattle.wire.proofs.Laws.{over_front}
use Rattle.values.specs.Decimal.{decimal}
use Rattle.question.specs.Answers.{numbers_line, Put}
use Rattle.question.proofs.Putting.{number_short}

module _ (word : List ℕ) (first : ℕ) (middle : List ℕ) (second : ℕ) where
  pub numbers_short : length word ≤ 8 → length middle ≤ 8 → first < 65536 → second < 65536 → length (numbers_line word first middle second) ≤ 64
  unfolding numbers_line
  numbers_short w m f s =
      omega
      (arith, length-append word (decimal first ++ (middle ++ (decimal second ++ (10 ∷ [])))), length-append (decimal first) (middle ++ (decimal second ++ (10 ∷ []))), length-append middle (decimal second ++ (10 ∷ [])), length-append (decimal second) (10 ∷ []), number_short first f, number_short second s)

-- what is told to be written stands at the buffer's start
pub whole_put : {text before after : List ℕ} {end : ℕ} → Put 0 text before after end → length text ≤ length before → take end after ≡ text
whole_put {text} {before} {after} put room = ap (λ (k : ℕ). take k after) put.told ∙ ap (take (0 + length text)) put.bytes ∙ over_front before 0 text (omega arith)
