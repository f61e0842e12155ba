-- The round trip: where the printer gives a text for a manifest, the converter accepts it, and gives a manifest whose tree is equal to the first by the bytes
-- of every name. The two differ at most in unused strings and in the numbering that follows.
use Prim.Native.Nat.{ℕ, ◌≤◌}
use mathlib.Core.Path.{◌≡◌, sym, ap, subst}
use mathlib.Core.Bool.{false, ◌||◌}
use mathlib.Core.List.{List}
use mathlib.Core.Option.{none}
use lib.Dec.{eqb, ltb}
use lib.ListN.{length}
use borrow.Author.Tests.{ltb-false}
use Rattle.values.specs.declared.Reason.TheVariants.{MemoryTooShort, ManifestLength, Unprintable}
use Rattle.rules.specs.Outcome.{done, refuse_if}
use Rattle.rules.specs.Check.{check}
use Rattle.rules.specs.Compile.{checked}
use Rattle.rules.specs.Read.{manifest_of}
use Rattle.rules.specs.EditRule.{IsBytes}
use Rattle.rules.proofs.Lists.{either_left, either_right}
use Rattle.rules.specs.Types.{Types, check_types}
use Rattle.notation.specs.Lexing.{tokens}
use Rattle.notation.specs.Convert.{refuse_at, too_long, manifest_bytes, converted}
use Rattle.notation.specs.Printer.{unprintable_at, text_of, printed_text}
use Rattle.notation.specs.Named.{named_tree}
use Rattle.notation.proofs.Outcomes.{both_done_lem, not_refused, not_refused_at, checked_sound}
use Rattle.notation.proofs.PrintedRead.{text_known, text_good, read_back}
use Rattle.notation.proofs.ConvertedBack.{converted_back}
use Rattle.rules.specs.Verdicts.{no_fault}

-- what a manifest passed that was printed
pub record Printed (types : Types) (m t : List ℕ) : Type 0 where
  pub listed : check_types types ≡ no_fault
  pub sound : check m ≡ no_fault
  pub short : length m ≤ 65535
  pub printable : unprintable_at types m ≡ none
  pub same : text_of (manifest_of m) ≡ t
  pub text_short : length t ≤ 65535

pub printed_steps : (types : Types) (m t : List ℕ) (output_length memory_length : ℕ) → printed_text types m output_length memory_length ≡ done t → Printed types m t
unfolding printed_text too_long
printed_steps types m t output_length memory_length e =
    let one = both_done_lem (refuse_if (ltb memory_length 65536) MemoryTooShort 0) _ t e in
    let types-checked = both_done_lem (checked (check_types types)) _ t one.behind in
    let two = both_done_lem (refuse_if (eqb (length m) 0 || ltb 65535 (length m)) ManifestLength 0) _ t types-checked.behind in
    let three = both_done_lem (checked (check m)) _ t two.behind in
    let four = both_done_lem (refuse_at (unprintable_at types m) Unprintable) _ t three.behind in
    let five = both_done_lem (refuse_if (too_long (text_of (manifest_of m)) output_length) Unprintable 0) _ t four.behind in
    let last = five.behind in
    let same : text_of (manifest_of m) ≡ t = cc in
    let long = subst (λ (n : List ℕ). too_long n output_length ≡ false) same (not_refused (too_long (text_of (manifest_of m)) output_length) Unprintable 0 five.before) in
    record {
      listed = checked_sound (check_types types) types-checked.before;
      sound = checked_sound (check m) three.before;
      short = ltb-false 65535 (length m) (either_right (eqb (length m) 0) (ltb 65535 (length m)) (not_refused (eqb (length m) 0 || ltb 65535 (length m)) ManifestLength 0 two.before));
      printable = not_refused_at (unprintable_at types m) Unprintable four.before;
      same = same;
      text_short = ltb-false 65535 (length t) (either_left (ltb 65535 (length t)) (ltb output_length (length t)) long);
    }

-- a manifest that the text t is converted to, with the tree of m
pub record Back (types : Types) (m t : List ℕ) (output_length memory_length : ℕ) : Type 0 where
  pub manifest : List ℕ
  pub accepted : converted types t output_length memory_length ≡ done manifest
  pub equal : named_tree manifest ≡ named_tree m

-- THE LAW: what is printed is converted back, where the output has room for the first manifest
pub round_trip : (types : Types) (m t : List ℕ) (output_length memory_length : ℕ) → IsBytes m → printed_text types m output_length memory_length ≡ done t →
    (room memory : ℕ) → length m ≤ room → 65536 ≤ memory → Back types m t room memory
round_trip types m t output_length memory_length bytes e room memory fits enough =
    let p = printed_steps types m t output_length memory_length e in
    let r = read_back types m bytes p.sound p.printable in
    let b = converted_back types (record { bytes = bytes; sound = p.sound; short = p.short; good = text_good types m bytes p.sound p.printable; known = text_known types m bytes p.sound p.printable; read = r.whole; same = r.same }) p.listed t room memory fits enough p.text_short (ap tokens (sym p.same)) in
    record { manifest = manifest_bytes (tokens (text_of (manifest_of m))) r.items; accepted = b.0; equal = b.1 }
