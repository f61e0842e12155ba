-- Converting gives a manifest precisely if the grammar gives the text a tree and the limits hold.
use Prim.Native.Nat.{ℕ, ◌≤◌}
use mathlib.Core.Path.{◌≡◌, refl, ap, subst}
use mathlib.Core.Bool.{false}
use mathlib.Core.List.{List, []}
use mathlib.Core.Option.{Option, none, some}
use lib.Dec.{ltb}
use lib.ListN.{length}
use borrow.Author.Tests.{ltb-false, le-ltb}
use Rattle.rules.specs.Outcome.{done, ◌>>=◌, refuse_if}
use Rattle.rules.proofs.Lists.{either_left, either_right}
use Rattle.rules.specs.Compile.{checked}
use Rattle.rules.specs.Types.{Types, check_types}
use Rattle.notation.specs.Lexing.{tokens}
use Rattle.notation.specs.Building.{Nodes, frame, Build, build, start}
use Rattle.notation.specs.Grammar.{Reads, manifest, Ended, built, fault, reading}
use Rattle.notation.specs.Convert.{crowded_at, read_text, late_among, refuse_at, too_long, text_items, manifest_bytes, converted}
use Rattle.notation.proofs.Outcomes.{refused_not_done}
use Rattle.notation.proofs.OneReading.{reading_sound, reading_complete}
use Rattle.notation.proofs.ConvertedSound.{converted_steps}
use Rattle.rules.specs.Verdicts.{no_fault}

-- the items of a tree
abbrev pub parts_of : Build → Nodes
parts_of (build b (frame p t h ks) fs) = ks

-- the grammar gives the text a tree; document 01's limits hold: strings, lines of constants, lengths of text and manifest; memory and output suffice; and m is the tree written
pub record Meant (types : Types) (given : List ℕ) (output_length memory_length : ℕ) (m : List ℕ) : Type 0 where
  pub tree : Build
  pub reads : Reads types manifest (tokens given) start tree
  pub few_strings : crowded_at (tokens given) [] ≡ none
  pub early_lines : late_among (parts_of tree) ≡ none
  pub memory : 65536 ≤ memory_length
  pub listed : check_types types ≡ no_fault
  pub text_length : length given ≤ 65535
  pub same : manifest_bytes (tokens given) (parts_of tree) ≡ m
  pub manifest_length : length m ≤ 65535
  pub output_fits : length m ≤ output_length

-- what was read whole
record Whole (e : Ended) (crowded : Option ℕ) (items : Nodes) : Type 0 where
  tree : Build
  read : e ≡ built tree
  few : crowded ≡ none
  parts : parts_of tree ≡ items

read_whole : (e : Ended) (crowded : Option ℕ) (items : Nodes) → read_text e crowded ≡ done items → Whole e crowded items
unfolding read_text
read_whole (built (build b (frame p t h ks) fs)) none items e = record { tree = build b (frame p t h ks) fs; read = refl; few = refl; parts = let same : ks ≡ items = cc in same }
read_whole (built (build b (frame p t h ks) fs)) (some q) items e = refused_not_done e
read_whole (fault p) none items e = refused_not_done e
read_whole (fault p) (some q) items e = refused_not_done e

-- THE LAW: what converting gives is meant
pub converted_meant : (types : Types) (given m : List ℕ) (output_length memory_length : ℕ) → converted types given output_length memory_length ≡ done m → Meant types given output_length memory_length m
unfolding text_items too_long
converted_meant types given m output_length memory_length e =
    let s = converted_steps types given m output_length memory_length e in
    let written : List ℕ = manifest_bytes (tokens given) s.items in
    let w = read_whole (reading types (tokens given)) (crowded_at (tokens given) []) s.items s.read in
    let long = subst (λ (n : List ℕ). too_long n output_length ≡ false) s.same s.long in
    record {
      tree = w.tree;
      reads = reading_sound types (tokens given) w.tree w.read;
      few_strings = w.few;
      early_lines = rw w.parts s.late;
      memory = ltb-false memory_length 65536 s.memory;
      listed = s.listed;
      text_length = ltb-false 65535 (length given) s.short;
      same = rw w.parts s.same;
      manifest_length = ltb-false 65535 (length m) (either_left (ltb 65535 (length m)) (ltb output_length (length m)) long);
      output_fits = ltb-false output_length (length m) (either_right (ltb 65535 (length m)) (ltb output_length (length m)) long);
    }

parts_read : (f : Build) → read_text (built f) none ≡ done (parts_of f)
unfolding read_text
parts_read (build b (frame p t h ks) fs) = refl

-- THE LAW: what is meant is what converting gives
pub meant_converted : (types : Types) (given m : List ℕ) (output_length memory_length : ℕ) → Meant types given output_length memory_length m → converted types given output_length memory_length ≡ done m
unfolding converted checked text_items too_long ◌>>=◌ refuse_if refuse_at
meant_converted types given m output_length memory_length x =
    let written : List ℕ = manifest_bytes (tokens given) (parts_of x.tree) in
    let few : ltb 65535 (length written) ≡ false = le-ltb 65535 (length written) (rw x.same x.manifest_length) in
    let fits : ltb output_length (length written) ≡ false = le-ltb output_length (length written) (rw x.same x.output_fits) in
    rw (converted, le-ltb memory_length 65536 x.memory, x.listed, le-ltb 65535 (length given) x.text_length, reading_complete types x.reads, x.few_strings, parts_read x.tree, x.early_lines, few, fits) (ap done x.same)
