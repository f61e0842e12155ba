-- How long the lines are: 2,048 bytes hold any of them, if no string has more than 255 bytes. Assumes nothing.
use mathlib.Core.Path.{◌≡◌, refl, ap}
use mathlib.Core.Bool.{Bool, true, false}
use mathlib.Core.List.{List, [], ◌∷◌, ◌++◌}
use Prim.Native.Nat.{ℕ, zero, suc, ◌+◌, ◌^◌, ◌≤◌, ◌<◌}
use native.Mathlib.Omega.{arith}
use lib.ListN.{length, length-append}
use Rattle.labels.specs.declared.Labels.{Labels}
use Rattle.labels.specs.Sets.{has}
use Rattle.labels.specs.Search.{tally, count_below, count_of}
use Rattle.values.specs.declared.Value.{Value}
use Rattle.values.specs.Decimal.{digits, decimal}
use Rattle.values.proofs.Digits.{decimal_short, signed_short}
use Rattle.rules.specs.State.{Attribute, Entry}
use Rattle.rules.specs.Compile.{string_at}
use Rattle.rules.specs.Schedule.{boolean_text, value_text, labels_up, with_commas, labels_text, line_start, attribute_line, entry_lines_by, steps_line, refusal_line}
use Rattle.rules.proofs.Lists.{Each}
use Rattle.rules.proofs.ReadBack.{FitsValue, fits_integer, fits_string, fits_boolean}
use Rattle.syntax.proofs.StringsRead.{Short, numbered_short}
use Rattle.schedule.proofs.LabelList.{each_with_comma, with_commas_lem}

-- ---- The labels

-- as many bytes as the k labels from n on take, with a comma each
room_for : ℕ → ℕ → ℕ
room_for zero n = 0
room_for (suc k) n = suc (length (decimal n)) + room_for k (suc n)

all_labels : room_for 256 0 ≡ 914
unfolding room_for decimal digits
all_labels = refl

each_short : (s : Labels) (k n : ℕ) → length (each_with_comma (labels_up s k n)) ≤ room_for k n
unfolding labels_up each_with_comma room_for
each_short s zero n = omega arith
each_short s (suc k) n = go (has s n) (each_short s k (suc n))
  where
    go : (b : Bool) → length (each_with_comma (labels_up s k (suc n))) ≤ room_for k (suc n)
        → length (each_with_comma (elim b [ true ↦ n ∷ labels_up s k (suc n) | false ↦ labels_up s k (suc n) ])) ≤ suc (length (decimal n)) + room_for k (suc n)
    go true h = omega (arith, length-append (44 ∷ decimal n) (each_with_comma (labels_up s k (suc n))))
    go false h = omega arith

one_comma_less : (ns : List ℕ) → length (with_commas ns) ≤ length (each_with_comma ns)
unfolding with_commas each_with_comma
one_comma_less [] = omega arith
one_comma_less (n ∷ ns) =
    omega (arith, ap length (with_commas_lem n ns), length-append (decimal n) (each_with_comma ns), length-append (44 ∷ decimal n) (each_with_comma ns))

few_labels : (s : Labels) (n : ℕ) → count_below s n ≤ n
unfolding count_below tally
few_labels s zero = omega arith
few_labels s (suc n) = go (has s n) (few_labels s n)
  where
    go : (b : Bool) → count_below s n ≤ n → count_below s n + tally b ≤ suc n
    go true h = omega arith
    go false h = omega arith

pub labels_short : (s : Labels) → length (labels_text s) ≤ 937
unfolding labels_text count_of
labels_short s =
    let list : List ℕ = with_commas (labels_up s 256 0) in
    let few : count_below s 256 ≤ 256 = few_labels s 256 in
    let number : length (decimal (count_below s 256)) ≤ 20 = decimal_short (count_below s 256) (omega arith) in
    omega
    (arith, length-append (decimal (count_below s 256)) (32 ∷ list ++ (10 ∷ [])), length-append list (10 ∷ []), one_comma_less (labels_up s 256 0), each_short s 256 0, all_labels)

-- ---- Strings and values

pub value_short : {ss : List (List ℕ)} → Each Short ss → {v : Value} → FitsValue v → length (value_text ss v) ≤ 255
unfolding value_text boolean_text
value_short short (fits_integer {z = z} h) = omega (arith, signed_short z h)
value_short short (fits_string {n = n} h) = numbered_short short n
value_short short (fits_boolean {b = true}) = omega arith
value_short short (fits_boolean {b = false}) = omega arith

-- ---- Lines

module _ {ss : List (List ℕ)} (short : Each Short ss) (e : Entry) where
  start_short : length (line_start ss e) ≤ 512
  unfolding line_start
  start_short =
      omega
      (arith, length-append (string_at ss e.type) (32 ∷ string_at ss e.title ++ (32 ∷ [])), length-append (string_at ss e.title) (32 ∷ []), numbered_short short e.type, numbered_short short e.title)

  -- a line for an attribute
  pub attribute_line_short : (a : Attribute) → FitsValue a.content.value → length (attribute_line ss e a) ≤ 2048
  unfolding attribute_line
  attribute_line_short a fits =
      let value : List ℕ = value_text ss a.content.value in
      let labels : List ℕ = labels_text a.content.labels in
      omega
      (arith, start_short, length-append (line_start ss e) (string_at ss a.name ++ (32 ∷ value ++ labels)), length-append (string_at ss a.name) (32 ∷ value ++ labels), length-append value labels, numbered_short short a.name, value_short short fits, labels_short a.content.labels)

  -- the line of a resource without attributes
  pub resource_line_short : length (entry_lines_by ss e []) ≤ 2048
  unfolding entry_lines_by
  resource_line_short = omega (arith, start_short, length-append (line_start ss e) (45 ∷ 32 ∷ 45 ∷ labels_text e.labels), labels_short e.labels)

-- the last line, and the line of a refusal
pub steps_line_short : (n : ℕ) → n < 2 ^ 64 → length (steps_line n) ≤ 2048
unfolding steps_line
steps_line_short n h = omega (arith, length-append (decimal n) (10 ∷ []), decimal_short n h)

pub refusal_line_short : (n p : ℕ) → n < 2 ^ 64 → p < 2 ^ 64 → length (refusal_line n p) ≤ 2048
unfolding refusal_line
refusal_line_short n p h l =
    omega (arith, length-append (decimal n) (32 ∷ 97 ∷ 116 ∷ 32 ∷ decimal p ++ (10 ∷ [])), length-append (decimal p) (10 ∷ []), decimal_short n h, decimal_short p l)
