-- What is refused before anything runs, after the working memory's length: the manifest's length (2), then 3 to 5.
use Rattle.std.specs.Prelude.{ℕ, ◌||◌, List, eqb, ltb, length}
use Rattle.values.specs.declared.Reason.TheVariants.{ManifestLength}
use Rattle.rules.specs.Bytes.{pick}
use Rattle.rules.specs.Check.{check}
use Rattle.rules.specs.Verdicts.{Verdict, fault_at}

-- "2. The manifest's length is outside 1 to 65,535."
unfoldable pub before : List ℕ → Verdict
before m = pick (eqb (length m) 0 || ltb 65535 (length m)) (fault_at ManifestLength 0) (check m)
