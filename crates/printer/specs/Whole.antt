-- What a whole print leaves.
use Rattle.std.specs.Prelude.{ℕ, ◌≤◌, ◌<◌, ◌≡◌, List, length, Option, Some, None}
use Rattle.values.specs.declared.Reason.TheVariants.{Unprintable}
use Rattle.rules.specs.Outcome.{Outcome, ◌>>=◌, refuse_if, done}
use Rattle.rules.specs.Read.{manifest_of}
use Rattle.rules.specs.Types.{Types}
use Rattle.notation.specs.Convert.{refuse_at, too_long}
use Rattle.notation.specs.Printer.{unprintable_at, text_of, print}
use Rattle.token_writer.specs.Writing.{Wrote}
use Rattle.notation.specs.Answers.{Answer}

-- n is the length of the text `whole`, which is written as far as the output goes; there is none if the text is over 65,535 bytes
pub record Counted (whole out out' : List ℕ) (n : Option ℕ) : Type 0 where
  pub long : n ≡ None → 65535 < length whole
  pub wrote : {k : ℕ} → n ≡ Some k → (k ≤ 65535) × Wrote out out' 0 k whole

-- ---- The last two refusals of `printed_text`

unfoldable pub fitting_text : (manifest : List ℕ) → (output_length : ℕ) → Outcome (List ℕ)
fitting_text m output_length = do
  _ ← refuse_if (too_long (text_of (manifest_of m)) output_length) Unprintable 0
  done (text_of (manifest_of m))

unfoldable pub printable_text : (types : Types) (manifest : List ℕ) → (output_length : ℕ) → Outcome (List ℕ)
printable_text types m output_length = do
  _ ← refuse_at (unprintable_at types m) Unprintable
  fitting_text m output_length

-- ---- What a call leaves

-- what `print` promises: the answer and all bytes lent are those of the definition, for this manifest
pub record Prints (types : Types) (manifest output_before output_after memory_before memory_after : List ℕ) (answer : Answer) : Type 0 where
  pub effect : record { answer = answer; output_after = output_after; memory_after = memory_after } ≡ print types manifest (length output_before) (length memory_before)
