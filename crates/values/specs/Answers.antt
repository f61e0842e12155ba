-- The cases of an answer by name.
use Rattle.std.specs.Prelude.{ℕ, Option, Some, None, Result, Ok, Err}
use Rattle.values.specs.declared.Reason.{Reason}
use Rattle.values.specs.declared.Refusal.{Refusal}
use Rattle.values.specs.declared.SetPart.{SetPart}
use Rattle.values.specs.declared.Compiled.{Compiled}
use Rattle.values.specs.declared.Among.{Among}

-- the reason for refusing, and its place
abbrev pub refused_for : {A : Type 0} → Reason → (place : ℕ) → Result A Refusal
refused_for r p = Err (record { reason = r; place = p })

-- what a compile answers
abbrev pub Answer : Type 0
Answer = Result Compiled Refusal

-- the catalog's length and the steps taken
abbrev pub catalog_with : (length steps : ℕ) → Answer
catalog_with n s = Ok (record { length = n; steps = s })

-- why a label counts for an attribute
abbrev pub Explanation : Type 0
Explanation = Result (Option Among) Refusal

-- the first part of its set that holds the label, and the place of a constant with it
abbrev pub among_part : SetPart → (place : ℕ) → Explanation
among_part part p = Ok (Some (record { part = part; place = p }))

-- the set lacks the label
abbrev pub among_none : Explanation
among_none = Ok None
