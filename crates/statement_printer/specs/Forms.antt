-- What the functions of the forms of an expression are given, and what they write of an arm.
use Rattle.std.specs.Prelude.{ℕ, ◌≡◌, Bool, true, List, ◌∷◌}
use Rattle.wire.specs.Bytes.{byte}
use Rattle.rules.specs.Tree.{Arms, Branches}
use Rattle.rules.specs.declared.Kind.TheVariants.{Expression, Statement}
use Rattle.places.specs.At.{arm_at, branch_at, StandsAs}
use Rattle.notation.specs.Tokens.{Lexeme}
use Rattle.notation.specs.Print.{Rest, printed_arms, printed_entries, printed_branches}
use Rattle.token_writer.specs.declared.Pen.{Pen}
use Rattle.statement_printer.specs.Passing.{Source, Going}

-- at p stands an expression with the tag t and d levels left
pub record Here (m table : List ℕ) (strings d p t : ℕ) : Type 0 where
  pub source : Source m table strings
  pub stands : StandsAs m d Expression p
  pub tag : byte m p ≡ t

-- the arm at q is written, whatever arms come after it
pub record ArmPasses (S : ℕ → List ℕ) (m : List ℕ) (d q : ℕ) (later : Bool) (out out' : List ℕ) (pen pen' : Pen) : Type 0 where
  pub goes : (after : Arms) (out₀ whole : List ℕ) (rest : Rest) → Going out₀ out pen whole (printed_arms S (arm_at m d q after) later pen.line rest) → Going out₀ out' pen' whole (printed_arms S after true pen'.line rest)

-- an entry, which p prints, is written, whatever entries come after it
pub record EntryPasses {A : Type 0} (p : A → ℕ → Rest → List Lexeme) (x : A) (later : Bool) (out out' : List ℕ) (pen pen' : Pen) : Type 0 where
  pub goes : (after : List A) (out₀ whole : List ℕ) (rest : Rest) → Going out₀ out pen whole (printed_entries p (x ∷ after) later pen.line rest) → Going out₀ out' pen' whole (printed_entries p after true pen'.line rest)

-- at p stands a statement with the tag t and d levels left
pub record StatementHere (m table : List ℕ) (strings d p t : ℕ) : Type 0 where
  pub source : Source m table strings
  pub stands : StandsAs m d Statement p
  pub tag : byte m p ≡ t

-- the branch at q is written, whatever branches come after it
pub record BranchPasses (S : ℕ → List ℕ) (m : List ℕ) (d q : ℕ) (out out' : List ℕ) (pen pen' : Pen) : Type 0 where
  pub goes : (after : Branches) (out₀ whole : List ℕ) (rest : Rest) → Going out₀ out pen whole (printed_branches S (branch_at m d q after) pen.line rest) → Going out₀ out' pen' whole (printed_branches S after pen'.line rest)
