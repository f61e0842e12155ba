-- What the lines say of a manifest is right, and what a walk over a text makes of them.
use Rattle.std.specs.Prelude.{ℕ, ◌+◌, ◌≤◌, ◌<◌, ◌≡◌, List, length}
use Rattle.wire.specs.Bytes.{byte, two}
use Rattle.places.specs.At.{statement_at}
use Rattle.cells.specs.Layout.{summary_at, summary_depth}
use Rattle.branches.specs.declared.collected.Collected.{Collected}
use Rattle.branches.specs.Texts.{Text, text_of, Collects}
use Rattle.summaries.specs.Lines.{line_of, text_in}

-- a line is for the statement at p with d levels left
pub record IsFor (line : List ℕ) (d p : ℕ) : Type 0 where
  pub place : two line 0 ≡ p + 1
  pub depth : byte line summary_depth ≡ d

-- a line has the text of the statement that it is for
pub record Right (m line : List ℕ) : Type 0 where
  pub text : (d p : ℕ) → IsFor line d p → text_in line ≡ text_of (statement_at m d p)

pub record Summarized (m w : List ℕ) : Type 0 where
  pub each : (i : ℕ) → i < 16 → Right m (line_of w i)

-- from w to w' nothing changes but summaries, which are right
pub record Notes (m w w' : List ℕ) : Type 0 where
  pub size : length w' ≡ length w
  pub outside : (k : ℕ) → (summary_at 0 ≤ k → k < summary_at 16 → ⊥) → byte w' k ≡ byte w k
  pub summarized : Summarized m w'

-- what a walk needs: a manifest and a memory of these lengths, and summaries that are right
pub record Walking (m w : List ℕ) : Type 0 where
  pub manifest : length m ≤ 65535
  pub memory : 65536 ≤ length w
  pub summarized : Summarized m w

-- so does a text join what was collected
pub record Summarizes (m w w' : List ℕ) (c c' : Collected) (t : Text) : Type 0 where
  pub collects : Collects c c' t
  pub notes : Notes m w w'
