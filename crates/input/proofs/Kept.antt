-- What is kept of an input is enough: 256 bytes of the device name, and 65,536 of the manifest, give the schedule of the whole input.
use mathlib.Core.Path.{◌≡◌, refl, sym, ap, ◌∙◌}
use mathlib.Core.Bool.{Bool, true, false, ◌&&◌, ◌||◌}
use mathlib.Core.List.{List, [], ◌∷◌}
use Prim.Native.Nat.{ℕ, suc, ◌≤◌, ◌<◌}
use native.Mathlib.Omega.{arith}
use borrow.Author.Tests.{leb-true, leb-false}
use lib.Dec.{eqb, ltb, leb}
use lib.ListN.{length, take, length-take}
use lib.Seq.{take_all}
use Rattle.values.specs.declared.Reason.TheVariants.{MemoryTooShort, ManifestLength}
use Rattle.rules.specs.Outcome.{Outcome, refused, done, ◌>>=◌, refuse_if}
use Rattle.rules.specs.State.{State}
use Rattle.rules.specs.Tree.{Devices, named, by_default, Item}
use Rattle.rules.specs.Read.{manifest_of}
use Rattle.rules.specs.Check.{check}
use Rattle.rules.specs.Evaluate.{any}
use Rattle.rules.specs.Types.{the_eight, check_types}
use Rattle.rules.specs.Compile.{same_bytes, string_at, names, is_default_node, with_node, is_node, items_for, none_struck_out, run_manifest, checked, final_state, compiled_from, compiled}
use Rattle.rules.specs.Schedule.{text_of, before_feed, after_feed, schedule}
use Rattle.rules.proofs.Lists.{Each}
use Rattle.syntax.proofs.StringsRead.{Short, numbered_short, short_strings, strings_read}
use Rattle.syntax.proofs.Whole.{too_long, before_the_run}
use Rattle.input.specs.Reading.{Reading, kept_line, kept_rest, reading_of}
use Rattle.input.proofs.Feeding.{kept_line_lem, kept_rest_lem}
use Rattle.std.specs.Prelude.{Ok, Err}
use Rattle.rules.specs.Verdicts.{Verdict, no_fault}

-- ---- Texts of two lengths differ

and_false : (b : Bool) → (b && false) ≡ false
and_false true = refl
and_false false = refl

pub other_length : (x y : List ℕ) → (length x ≡ length y → ⊥) → false ≡ same_bytes x y
unfolding same_bytes
other_length [] [] h = absurd (h refl)
other_length [] (b ∷ y) h = refl
other_length (a ∷ x) [] h = refl
other_length (a ∷ x) (b ∷ y) h = sym (ap (λ (c : Bool). eqb a b && c) (sym (other_length x y (λ e. h (ap suc e)))) ∙ and_false (eqb a b))

-- ---- The device name: no string of a sound manifest has more than 255 bytes

pub same_name : (x device : List ℕ) → length x ≤ 255 → same_bytes x (take 256 device) ≡ same_bytes x device
same_name x device short = go (leb (length device) 256) refl
  where
    go : (b : Bool) → leb (length device) 256 ≡ b → same_bytes x (take 256 device) ≡ same_bytes x device
    go true e = ap (same_bytes x) (take_all 256 device (leb-true _ _ e))
    go false e =
        let long : 256 < length device = leb-false _ _ e in
        sym (other_length x (take 256 device) (λ q. omega (arith, length-take 256 device))) ∙ other_length x device (λ q. omega arith)

module _ (ss : List (List ℕ)) (short : Each Short ss) (device : List ℕ) where
  same_names : (ds : Devices) → names ss (take 256 device) ds ≡ names ss device ds
  unfolding names
  same_names (named ns) = λ i. any (λ n. same_name (string_at ss n) device (numbered_short short n) i) ns
  same_names by_default = refl

  same_items : (is : List Item) → items_for ss (take 256 device) is ≡ items_for ss device is
  unfolding items_for
  same_items is =
      let chosen : (Devices → Bool) → List Item = λ f. elim (any (is_node f) is) [ true ↦ with_node f is | false ↦ with_node is_default_node is ] in
      λ i. chosen (λ ds. same_names ds i)

module _ (m device : List ℕ) (limit output memory : ℕ) where
  same_run : check m ≡ no_fault → run_manifest none_struck_out the_eight (manifest_of m) (take 256 device) limit output ≡ run_manifest none_struck_out the_eight (manifest_of m) device limit output
  unfolding run_manifest
  same_run w = rw (same_items (manifest_of m).strings (rw (strings_read m w) (short_strings m w)) device (manifest_of m).items)

  checked_run : (v : Verdict) → check m ≡ v → (checked v >>= λ _. run_manifest none_struck_out the_eight (manifest_of m) (take 256 device) limit output) ≡ (checked v >>= λ _. run_manifest none_struck_out the_eight (manifest_of m) device limit output)
  unfolding checked ◌>>=◌
  checked_run (Ok tt) w = same_run w
  checked_run (Err f) w = refl

  -- 256 bytes of the device name are enough for any manifest
  pub same_compiled : compiled the_eight m (take 256 device) limit output memory ≡ compiled the_eight m device limit output memory
  unfolding compiled final_state
  same_compiled =
      ap
      (λ (o : Outcome State). (refuse_if (ltb memory 65536) MemoryTooShort 0 >>= λ _. checked (check_types the_eight) >>= λ _. refuse_if (eqb (length m) 0 || ltb 65535 (length m)) ManifestLength 0 >>= λ _. o) >>= λ st. done (compiled_from limit st))
      (checked_run (check m) refl)

-- ---- The manifest: one of more than 65,535 bytes is refused for its length, whatever follows

long_refused : (m device : List ℕ) → 65535 < length m → compiled the_eight m device 65535 65535 65536 ≡ refused ManifestLength 0
unfolding compiled refuse_if checked check_types ◌>>=◌
long_refused m device long = rw (before_the_run the_eight m device 65535 65535 65536, ← too_long m (λ z. omega arith) long)

-- the text for a manifest and a device
abbrev text_for : (m device : List ℕ) → List ℕ
text_for m device = text_of (manifest_of m).strings (compiled the_eight m device 65535 65535 65536)

same_text : (m device : List ℕ) → text_for m device ≡ text_for (take 65536 m) (take 256 device)
unfolding text_of
same_text m device = go (leb (length m) 65535) refl
  where
    go : (b : Bool) → leb (length m) 65535 ≡ b → text_for m device ≡ text_for (take 65536 m) (take 256 device)
    go true e =
        let all : take 65536 m ≡ m = take_all 65536 m (omega (arith, leb-true (length m) 65535 e)) in
        sym (ap (text_of (manifest_of m).strings) (same_compiled m device 65535 65535 65536)) ∙ sym (ap (λ (l : List ℕ). text_for l (take 256 device)) all)
    go false e =
        let long : 65535 < length m = leb-false _ _ e in
        rw (long_refused m device long, long_refused (take 65536 m) (take 256 device) (omega (arith, length-take 65536 m)))

-- the schedule of an input is that of what is kept of it
pub kept_same : (input : List ℕ) → schedule input ≡ text_of (manifest_of (take 65536 (after_feed input))).strings (compiled the_eight (take 65536 (after_feed input)) (take 256 (before_feed input)) 65535 65535 65536)
unfolding schedule
kept_same input = same_text (after_feed input) (before_feed input)

-- buffers of 256 and of 65,536 bytes that hold an input have what its schedule needs
pub kept_schedule : (d m input : List ℕ) {r : Reading} → length d ≡ 256 → length m ≡ 65536 → r ≡ reading_of d m input → text_of (manifest_of (kept_rest r)).strings (compiled the_eight (kept_rest r) (kept_line r) 65535 65535 65536) ≡ schedule input
kept_schedule d m input {r} device manifest e =
    let name : kept_line r ≡ take 256 (before_feed input) = ap kept_line e ∙ kept_line_lem d m input ∙ ap (λ (n : ℕ). take n (before_feed input)) device in
    let text : kept_rest r ≡ take 65536 (after_feed input) = ap kept_rest e ∙ kept_rest_lem d m input ∙ ap (λ (n : ℕ). take n (after_feed input)) manifest in
    rw (name, text) (sym (kept_same input))
