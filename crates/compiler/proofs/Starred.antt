-- The starred cases of document 01, of the compiler: what a call of `compile` answers for each row of the table, and every byte it leaves.
-- Assumes nothing.
use Prim.Native.Nat.{ℕ}
use mathlib.Core.Path.{◌≡◌, refl, ap, ◌∙◌}
use mathlib.Core.List.{List, ◌∷◌}
use lib.ListN.{length}
use Rattle.values.specs.Numbers.{said}
use Rattle.wire.specs.Runs.{zeros}
use Rattle.rules.specs.Types.{the_eight}
use Rattle.rules.specs.Compile.{Effect, memory_of, compile}
use Rattle.rules.proofs.Computing.{Seen, seen}
use Rattle.rules.proofs.Cases.{expects, gives, Each, no_row, also, Holds, table_holds}
use Rattle.rules.proofs.Rows.{Row}
use Rattle.rules.proofs.Rows
use Rattle.compiler.specs.Compiled.{Leaves}
use Rattle.values.specs.Answers.{Answer}

-- what every call on a row's manifest, device and limit answers and leaves, if the bytes lent are as long as the row says: the answer and the
-- output that the row expects, byte for byte, and a memory of zeros
pub record Meets (r : Row) : Type 0 where
  pub call : {out out' work work' : List ℕ} {a : Answer} → length out ≡ r.output → length work ≡ r.memory → Leaves the_eight r.manifest r.device r.limit out out' work work' a
      → (said a ≡ (expects r).answer) × (out' ≡ (expects r).output) × (work' ≡ zeros r.memory)

seen_answer : (m device : List ℕ) (limit output memory : ℕ) → said (compile the_eight m device limit output memory).answer ≡ (seen the_eight m device limit output memory).answer
unfolding seen
seen_answer m device limit output memory = refl

seen_output : (m device : List ℕ) (limit output memory : ℕ) → (compile the_eight m device limit output memory).output_after ≡ (seen the_eight m device limit output memory).output
unfolding seen
seen_output m device limit output memory = refl

module _ (r : Row) (holds : Holds r) {out out' work work' : List ℕ} {a : Answer} (o : length out ≡ r.output) (w : length work ≡ r.memory) (c : Leaves the_eight r.manifest r.device r.limit out out' work work' a) where
  effect : record { answer = a; output_after = out'; memory_after = work' } ≡ compile the_eight r.manifest r.device r.limit r.output r.memory
  effect = c.effect ∙ λ i. compile the_eight r.manifest r.device r.limit (o i) (w i)

  answered : said a ≡ (expects r).answer
  unfolding gives
  answered = ap (λ (e : Effect). said e.answer) effect ∙ seen_answer r.manifest r.device r.limit r.output r.memory ∙ ap (λ (s : Seen). s.answer) holds

  written : out' ≡ (expects r).output
  unfolding gives
  written = ap (λ (e : Effect). e.output_after) effect ∙ seen_output r.manifest r.device r.limit r.output r.memory ∙ ap (λ (s : Seen). s.output) holds

  zeroed : work' ≡ zeros r.memory
  unfolding compile memory_of zeros
  zeroed = ap (λ (e : Effect). e.memory_after) effect

meets : (r : Row) → Holds r → Meets r
meets r h = record { call = λ o w c. (answered r h o w c, written r h o w c, zeroed r h o w c) }

-- the rows of the whole table
every : {rs : List Row} → Each Holds rs → Each Meets rs
every no_row = no_row
every (also {r = r} h hs) = also (meets r h) (every hs)

pub table_met : Each Meets Rows.table
table_met = every table_holds

-- THE STARRED CASES, a line for each, in document 01's words
pub record Starred (r1 r2 r3 r4 r5 r6 r7 r8 r9 r10 r11 r12 : Row) : Type 0 where
  pub schedule : Meets r1  -- "The schedule above"
  pub peak : Meets r2  -- "with peak true the price is 55 with 2,3,4"
  pub limit4 : Meets r3  -- "Limit 4 accepts it"
  pub limit3 : Meets r4  -- "3 is refused 6 at the resource"
  pub minus_seven : Meets r5  -- "−7 / 2 .. −4"
  pub seven_by : Meets r6  -- "7 / −2 .. −4"
  pub least : Meets r7  -- "least / −1 is 16"
  pub zero : Meets r8  -- "0 / 0 is 17"
  pub largest : Meets r9  -- "largest + 1 is 16"
  pub decided : Meets r10  -- "false and (1 / 0 = 1) is false"
  pub resource_only : Meets r11  -- "A branch holding only a built-in resource adds nothing to later values"
  pub includes : Meets r12  -- "one holding an include adds its condition to all"

first_twelve : {r1 r2 r3 r4 r5 r6 r7 r8 r9 r10 r11 r12 : Row} {rs : List Row} → Each Meets (r1 ∷ r2 ∷ r3 ∷ r4 ∷ r5 ∷ r6 ∷ r7 ∷ r8 ∷ r9 ∷ r10 ∷ r11 ∷ r12 ∷ rs) → Starred r1 r2 r3 r4 r5 r6 r7 r8 r9 r10 r11 r12
first_twelve (also a (also b (also c (also d (also e (also f (also g (also h (also i (also j (also k (also l rest)))))))))))) =
    record { schedule = a; peak = b; limit4 = c; limit3 = d; minus_seven = e; seven_by = f; least = g; zero = h; largest = i; decided = j; resource_only = k; includes = l }

pub starred : Starred Rows.row1 Rows.row2 Rows.row3 Rows.row4 Rows.row5 Rows.row6 Rows.row7 Rows.row8 Rows.row9 Rows.row10 Rows.row11 Rows.row12
unfolding Rows.table
starred = first_twelve table_met
