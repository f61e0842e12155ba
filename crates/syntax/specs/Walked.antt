-- The walk over the fields of a body, where the parts that are not done are a list. It is the definition's (proofs/Walk.antt).
use Rattle.std.specs.Prelude.{ℕ, ◌&&◌, List, [], ◌∷◌}
use Rattle.std.proofs.Math.Option.{Option, none, some}
use Rattle.values.specs.declared.Reason.TheVariants.{Malformed}
use Rattle.rules.specs.Bytes.{pick, byte}
use Rattle.rules.specs.Check.{header_there, body_within, length_listed, and_then}
use Rattle.rules.specs.declared.Part.{Part}
use Rattle.format.specs.Coming.{comes, complete}
use Rattle.rules.specs.Verdicts.{Verdict, fault_at, no_fault}

-- the header of the field at q, where what surrounds it ends at e: what may come after it, if it is right
unfoldable pub headed : (manifest : List ℕ) → List Part → (q e : ℕ) → Option (List Part)
headed m ps q e = pick (header_there q e && (body_within m q e && length_listed m q)) (comes ps (byte m q)) none

-- a header that is right goes on
abbrev pub going : Option (List Part) → (List Part → Verdict) → Verdict → Verdict
going (some ps) f v = f ps
going none f v = v

-- the fields at the places given, which belong to the field at p, where ps may come and e ends them
unfoldable pub walked : List ℕ → (ℕ → Verdict) → ℕ → List Part → ℕ → List ℕ → Verdict
walked m inner p ps e [] = pick (complete ps) no_fault (fault_at Malformed p)
walked m inner p ps e (q ∷ qs) = going (headed m ps q e) (λ ps'. and_then (inner q) (walked m inner p ps' e qs)) (fault_at Malformed q)
