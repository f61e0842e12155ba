-- Why does this line count? The third request of document 02: "A gym owner points at a value and a label. Add a tool that takes type, title, attribute
-- and label and gives the first part of that set holding the label by 01's rules: title expression, path, trail, marks its expression read, value (the
-- rest). With the part goes the lowest place of a constant with that label that the compile evaluated or tried as a pattern."
use Rattle.std.specs.Prelude.{ℕ, zero, suc, Bool, true, false, ◌&&◌, List, eqb, length}
use Rattle.labels.specs.declared.Labels.{Labels}
use Rattle.labels.specs.Sets.{has, ◌∪◌}
use Rattle.values.specs.declared.Reason.TheVariants.{NoSuchAttribute}
use Rattle.values.specs.declared.SetPart.{SetPart}
use Rattle.values.specs.declared.SetPart.TheVariants.{Title, Path, Trail, Marks, Value}
use Rattle.rules.specs.Tree.{Constant}
use Rattle.rules.specs.Read.{manifest_of}
use Rattle.rules.specs.Outcome.{Outcome, refused, done, ◌>>=◌, or_refuse}
use Rattle.rules.specs.State.{Attribute, SetParts, Entry, State}
use Rattle.rules.specs.Evaluate.{first_with, is_entry, is_attribute}
use Rattle.rules.specs.Types.{Types}
use Rattle.rules.specs.Compile.{string_number, run_manifest, final_state, memory_of}
use Rattle.values.specs.Answers.{Explanation, among_none, among_part, refused_for}

-- ---- The part

-- an attribute's set is the union of its parts (proofs/SetParts.antt)
unfoldable pub set_of : SetParts → Labels
set_of parts = parts.title ∪ parts.path ∪ parts.trail ∪ parts.marks ∪ parts.value

-- "the first part of that set holding the label .. value (the rest)"
unfoldable pub first_part : SetParts → (label : ℕ) → SetPart
first_part parts label = elim (has parts.title label) [
  | true ↦ Title
  | false ↦ elim (has parts.path label) [
    | true ↦ Path
    | false ↦ elim (has parts.trail label) [
      | true ↦ Trail
      | false ↦ elim (has parts.marks label) [ true ↦ Marks | false ↦ Value ]
    ]
  ]
]

-- ---- The place

-- "a compile given no limits has 65,535 for steps and output"
unfoldable pub without_limits : ℕ
without_limits = 65535

unfoldable pub is_refused : {A : Type 0} → Outcome A → Bool
is_refused (refused r p) = true
is_refused (done a) = false

-- Whether a compile that is not refused comes to one of some constants, that is "evaluated" it, "tried" it "as a pattern" or assigned it as a default: it
-- does precisely if the same compile, with these constants struck out of the manifest, is refused.
unfoldable pub comes_to_one : Types → (manifest device : List ℕ) → (Constant → Bool) → Bool
comes_to_one types manifest device some = is_refused (run_manifest some types (manifest_of manifest) device without_limits without_limits)

-- the constant with this label at this place
unfoldable pub labelled_at : (label place : ℕ) → Constant → Bool
labelled_at label place v = eqb v.label label && eqb v.place place

-- the first number from n on that passes a test, of so many
unfoldable pub first_from : (ℕ → Bool) → (many n : ℕ) → ℕ
first_from test zero n = n
first_from test (suc many) n = elim (test n) [ true ↦ n | false ↦ first_from test many (suc n) ]

-- "the lowest place of a constant with that label that the compile" came to
unfoldable pub lowest_place : Types → (manifest device : List ℕ) → (label : ℕ) → ℕ
lowest_place types manifest device label = first_from (λ place. comes_to_one types manifest device (labelled_at label place)) (length manifest) 0

-- ---- The answer

-- an attribute that the catalog has, with the parts of its set
pub record Found : Type 0 where
  pub attribute : Attribute
  pub parts : SetParts

-- "27, the catalog has no such attribute; it follows all of the compile's own refusals"
unfoldable pub found_in : (strings : List (List ℕ)) → (entries : List Entry) → (type title attribute : List ℕ) → Outcome Found
found_in strings entries type title attribute = do
  type_number ← or_refuse (string_number type strings 0) NoSuchAttribute 0
  title_number ← or_refuse (string_number title strings 0) NoSuchAttribute 0
  name ← or_refuse (string_number attribute strings 0) NoSuchAttribute 0
  entry ← or_refuse (first_with (is_entry type_number title_number) entries) NoSuchAttribute 0
  found ← or_refuse (first_with (is_attribute name) entry.attributes) NoSuchAttribute 0
  done (record { attribute = found; parts = entry.parts name })

-- ""Not among them" comes back precisely when the set lacks the label."
unfoldable pub answer_for : (label place : ℕ) → Found → Explanation
answer_for label place found = elim (has found.attribute.content.labels label) [ true ↦ among_part (first_part found.parts label) place | false ↦ among_none ]

unfoldable pub explained : Types → (manifest device type title attribute : List ℕ) → (label memory_length : ℕ) → Outcome Explanation
explained types manifest device type title attribute label memory_length = do
  st ← final_state types manifest device without_limits without_limits memory_length
  found ← found_in (manifest_of manifest).strings st.entries type title attribute
  done (answer_for label (lowest_place types manifest device label) found)

unfoldable pub explanation_of : Outcome Explanation → Explanation
explanation_of (refused reason place) = refused_for reason place
explanation_of (done explanation) = explanation

-- what a call answers, and all bytes of the memory lent to it, as they are after it
pub record Told : Type 0 where
  pub answer : Explanation
  pub memory_after : List ℕ

unfoldable pub why : Types → (manifest device type title attribute : List ℕ) → (label memory_length : ℕ) → Told
why types manifest device type title attribute label memory_length = record {
  answer = explanation_of (explained types manifest device type title attribute label memory_length);
  memory_after = memory_of memory_length;
}
