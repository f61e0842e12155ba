-- An attribute's set is the union of its parts, in every accepted compile; the first part that has a label; and so what an explanation says
-- (specs/Why.antt). Assumes nothing.
use Prim.Native.Nat.{ℕ, zero, suc, ◌<◌}
use native.Mathlib.Omega.{arith}
use mathlib.Core.Path.{◌≡◌, refl, sym, ap, ◌∙◌}
use mathlib.Core.Bool.{Bool, true, false, ◌||◌, true≢false}
use mathlib.Core.List.{List, [], ◌∷◌}
use mathlib.Core.Option.{Option, none, some}
use borrow.Author.Tests.{eqb-false}
use lib.Dec.{eqb}
use lib.IntN.{ℤ}
use Rattle.labels.specs.declared.Labels.{Labels}
use Rattle.labels.specs.Sets.{no_labels, ◌∪◌, has}
use Rattle.labels.proofs.Laws.{has_none_lem, has_union}
use Rattle.values.specs.declared.Value.{Value}
use Rattle.values.specs.declared.Value.TheVariants.{Integer, String, Boolean}
use Rattle.values.specs.declared.Labelled.{Labelled}
use Rattle.values.specs.declared.SetPart.{SetPart}
use Rattle.values.specs.declared.SetPart.TheVariants.{Title, Path, Trail, Marks, Value as Rest}
use Rattle.values.specs.Numbers.{part_number}
use Rattle.rules.specs.Outcome.{Outcome, refused, done, ◌>>=◌, Result, at, joining}
use Rattle.rules.specs.Arithmetic.{integer_in, boolean_in, same_value}
use Rattle.rules.specs.Tree.{Constant, Operator, plus, minus, divide, greater, equal, and, or, Expression, constant, variable, top_variable, class_variable, operation, negation, attribute_read, selector, Arms, no_arm, arm, default_arm, place_of, AttributeField, built_in_resource}
use Rattle.rules.specs.Tree
use Rattle.rules.specs.Patterns.{Patterns, no_pattern, constant_pattern, default_pattern, first_equal, first_default, chosen}
use Rattle.rules.specs.State.{Scope, top_scope, class_scope, Cells, Attribute, SetParts, Entry, State, Context, Known, scopes_tried, with_entry}
use Rattle.rules.specs.Evaluate.{first_with, is_entry, is_attribute, or_else, read_in, integers, booleans, equality, operate, select, evaluate, arm_patterns, marks_in, is_boolean, skips_right, marks_read, arm_marks}
use Rattle.rules.specs.Run.{path_and_trail, with_path_and_trail, stored, Given, is_given, evaluate_all, attributes_under, marks_for, given_labels, parts_from, entry_from, add_entry, add_resource, Declare, run}
use Rattle.rules.specs.Read.{manifest_of}
use Rattle.rules.specs.Types.{Types}
use Rattle.rules.specs.Compile.{final_state}
use Rattle.rules.specs.Why.{set_of, first_part, without_limits, lowest_place, Found, found_in, answer_for, explained}
use Rattle.rules.proofs.Lists.{Perhaps, not_there, there, perhaps_map, perhaps_get, Each, also, found, eqb_true, or_true_left, or_true_right, either_true}
use Rattle.rules.proofs.Outcome.{All, all_refused, all_done, all_bind, all_any, all_both, all_found, all_get, all_itself}
use Rattle.rules.proofs.Entries.{Entries, final_entries}
use Rattle.std.specs.Prelude.{Ok, Err, Some, None}
use Rattle.values.specs.Answers.{Explanation, among_none, among_part}

-- ---- A set within a set

-- every label of the one is in the other
pub record Subset (a b : Labels) : Type 0 where
  pub held : (l : ℕ) → has a l ≡ true → has b l ≡ true

none_within : (b : Labels) → Subset no_labels b
none_within b = record { held = λ l h. absurd (true≢false (sym h ∙ has_none_lem l)) }

union_within : {a b c : Labels} → Subset a c → Subset b c → Subset (a ∪ b) c
union_within {a} {b} f g = record { held = λ l h. either_true (has a l) (has b l) (sym (has_union a b l) ∙ h) (f.held l) (g.held l) }

within_left : {a b : Labels} (c : Labels) → Subset a b → Subset a (b ∪ c)
within_left {a} {b} c f = record { held = λ l h. has_union b c l ∙ or_true_left (has b l) (has c l) (f.held l h) }

within_right : {a c : Labels} (b : Labels) → Subset a c → Subset a (b ∪ c)
within_right {a} {c} b f = record { held = λ l h. has_union b c l ∙ or_true_right (has b l) (has c l) (f.held l h) }

-- each label is in both or in neither
abbrev pub SameLabels : Labels → Labels → Type 0
SameLabels a b = (l : ℕ) → has a l ≡ has b l

itself : (a : Labels) → Subset a a
itself a = record { held = λ l h. h }

-- ---- The marks read are in the set of what is read

-- the set of a value has all of these
abbrev pub Bears : Labels → Labelled → Type 0
Bears k x = Subset k x.labels

-- an operand, then the rest under its set
operand_bears : {a : Labels} {m : Outcome Labelled} (f : Labelled → Outcome Labelled) → All (Bears a) m → All (Bears a) (m >>= λ x. joining x.labels (f x))
unfolding joining
operand_bears f h = all_bind h λ x b. all_any _ λ y. all_done (within_left y.labels b)

-- the rest bears marks too
both_bear : {b : Labels} {a : Labels} (x : Labelled) {m : Outcome Labelled} → Bears a x → All (Bears b) m → All (Bears (a ∪ b)) (joining x.labels m)
unfolding joining
both_bear x h g = all_bind g λ y f. all_done (union_within (within_left y.labels h) (within_right x.labels f))

-- reads
or_else_bears : (o : Option Labelled) {k : Labels} {m : Outcome Labelled} → All (Bears k) m → All (Bears (elim o [ none ↦ k | some x ↦ no_labels ])) (or_else o m)
unfolding or_else
or_else_bears none h = h
or_else_bears (some x) h = all_done (none_within x.labels)

read_bears : (p : ℕ) (cells : Cells) (n : ℕ) (ss : List Scope) → All (Bears (marks_in cells n ss)) (read_in p cells n ss)
unfolding read_in marks_in joining
read_bears p cells n [] = all_refused
read_bears p cells n (s ∷ ss) =
    all_bind (or_else_bears (cells s n).value (read_bears p cells n ss)) λ x h. all_done (union_within (within_left x.labels (itself (cells s n).mark)) (within_right (cells s n).mark h))

-- operators
module _ {k : Labels} {right : Outcome Labelled} (h : All (Bears k) right) where
  integers_bear : (f : ℤ → ℤ → Result Value) (p l r : ℕ) (x : Value) → All (Bears k) (integers f p l r x right)
  unfolding integers
  integers_bear f p l r x = all_any (at l (integer_in x)) λ i. operand_bears _ h

  booleans_bear : (d : Bool) (l r : ℕ) (x : Value) → All (Bears (elim (same_value (Boolean d) x) [ true ↦ no_labels | false ↦ k ])) (booleans d l r x right)
  unfolding booleans same_value boolean_in at ◌>>=◌
  booleans_bear d l r (Integer z) = all_refused
  booleans_bear d l r (String n) = all_refused
  booleans_bear true l r (Boolean true) = all_done (none_within no_labels)
  booleans_bear true l r (Boolean false) = operand_bears _ h
  booleans_bear false l r (Boolean true) = operand_bears _ h
  booleans_bear false l r (Boolean false) = all_done (none_within no_labels)

  operate_bears : (o : Operator) (p l r : ℕ) (x : Labelled) → All (Bears (elim (skips_right o (done x)) [ true ↦ no_labels | false ↦ k ])) (operate o p l r x.value right)
  unfolding operate equality skips_right is_boolean
  operate_bears plus p l r x = integers_bear _ p l r x.value
  operate_bears minus p l r x = integers_bear _ p l r x.value
  operate_bears divide p l r x = integers_bear _ p l r x.value
  operate_bears greater p l r x = integers_bear _ p l r x.value
  operate_bears equal p l r x = operand_bears _ h
  operate_bears and p l r x = booleans_bear false l r x.value
  operate_bears or p l r x = booleans_bear true l r x.value

  operation_bears : {a : Labels} {left : Outcome Labelled} (o : Operator) (p l r : ℕ) → All (Bears a) left
      → All (Bears (a ∪ elim (skips_right o left) [ true ↦ no_labels | false ↦ k ])) (left >>= λ x. joining x.labels (operate o p l r x.value right))
  unfolding ◌>>=◌
  operation_bears o p l r all_refused = all_refused
  operation_bears o p l r (all_done {a = x} b) = both_bear x b (operate_bears o p l r x)

-- selectors: the patterns, each with marks on the one side and with what bears them on the other
data Matched : Patterns Labels → Patterns (Outcome Labelled) → Type 0 where
  matched_none : Matched no_pattern no_pattern
  matched_constant : {v : Constant} {k : Labels} {m : Outcome Labelled} {ks : Patterns Labels} {ms : Patterns (Outcome Labelled)} → All (Bears k) m → Matched ks ms → Matched (constant_pattern v k ks) (constant_pattern v m ms)
  matched_default : {k : Labels} {m : Outcome Labelled} {ks : Patterns Labels} {ms : Patterns (Outcome Labelled)} → All (Bears k) m → Matched ks ms → Matched (default_pattern k ks) (default_pattern m ms)

either_bears : (t : Bool) {k l : Labels} {m n : Outcome Labelled} → All (Bears k) m → All (Bears l) n → All (Bears (elim t [ true ↦ k | false ↦ l ])) (elim t [ true ↦ m | false ↦ n ])
either_bears true h g = h
either_bears false h g = g

equal_bears : {ks : Patterns Labels} {ms : Patterns (Outcome Labelled)} (x : Value) → Matched ks ms → {k : Labels} {m : Outcome Labelled} → All (Bears k) m → All (Bears (first_equal ks x k)) (first_equal ms x m)
unfolding first_equal
equal_bears x matched_none h = h
equal_bears x (matched_constant {v = v} g gs) h = either_bears (same_value x v.value) g (equal_bears x gs h)
equal_bears x (matched_default g gs) h = equal_bears x gs h

default_bears : {ks : Patterns Labels} {ms : Patterns (Outcome Labelled)} → Matched ks ms → {k : Labels} {m : Outcome Labelled} → All (Bears k) m → All (Bears (first_default ks k)) (first_default ms m)
unfolding first_default
default_bears matched_none h = h
default_bears (matched_constant g gs) h = default_bears gs h
default_bears (matched_default g gs) h = g

select_bears : (known : Known) (p : ℕ) (x : Value) {ks : Patterns Labels} {ms : Patterns (Outcome Labelled)} → Matched ks ms → All (Bears (chosen ks x no_labels)) (select known ms p x)
unfolding select chosen joining
select_bears known p x g = all_any _ λ _. all_bind (equal_bears x g (default_bears g all_refused)) λ y b. all_done (within_right _ b)

selector_bears : (known : Known) (p : ℕ) {a : Labels} {m : Outcome Labelled} {ks : Patterns Labels} {ms : Patterns (Outcome Labelled)} → All (Bears a) m → Matched ks ms
    → All (Bears (a ∪ elim m [ refused r q ↦ no_labels | done x ↦ chosen ks x.value no_labels ])) (m >>= λ x. joining x.labels (select known ms p x.value))
unfolding ◌>>=◌
selector_bears known p all_refused g = all_refused
selector_bears known p (all_done {a = x} b) g = both_bear x b (select_bears known p x.value g)

-- THE FIRST LAW: the marks that an expression reads are in its set
module _ (known : Known) (here : Context) (st : State) where
  mutual
    unfolding evaluate marks_read

    pub marks_within : (e : Expression) → All (Bears (marks_read known here st e)) (evaluate known here st e)
    marks_within (constant v) = all_any _ λ _. all_done (none_within _)
    marks_within (variable p n) = read_bears p st.cells n (scopes_tried here st)
    marks_within (top_variable p n) = read_bears p st.cells n (top_scope ∷ [])
    marks_within (class_variable p class n) = all_any _ λ _. read_bears p st.cells n (class_scope class ∷ [])
    marks_within (operation p o a b) = operation_bears (marks_within b) o p (place_of a) (place_of b) (marks_within a)
    marks_within (negation p a) = operand_bears _ (marks_within a)
    marks_within (attribute_read p type name a) = operand_bears _ (marks_within a)
    marks_within (selector p a arms) = selector_bears known p (marks_within a) (arms_within arms)
    marks_within (Expression.unreadable p) = all_refused

    arms_within : (arms : Arms) → Matched (arm_marks known here st arms) (arm_patterns known here st arms)
    arms_within no_arm = matched_none
    arms_within (arm v a arms) = matched_constant (marks_within a) (arms_within arms)
    arms_within (default_arm a arms) = matched_default (marks_within a) (arms_within arms)

-- ---- The parts of an entry

-- the set of each attribute is the union of its parts
pub record PartsMakeSet (e : Entry) : Type 0 where
  pub same : (n : ℕ) → Perhaps (λ (a : Attribute). SameLabels (set_of (e.parts n)) a.content.labels) (first_with (is_attribute n) e.attributes)

-- the marks that the expression of a name reads are in the set of what is given under it
record MarksGiven (marks : ℕ → Labels) (gs : List Given) : Type 0 where
  within : (n : ℕ) → Subset (marks n) (given_labels (first_with (is_given n) gs))

given_bear : (known : Known) (here : Context) (st : State) (ats : List AttributeField) → All (MarksGiven (marks_for known here st ats)) (evaluate_all known here st ats)
unfolding evaluate_all marks_for first_with is_given given_labels
given_bear known here st [] = all_done (record { within = λ n. none_within no_labels })
given_bear known here st (a ∷ ats) =
    all_bind (marks_within known here st a.expression) λ x b. all_bind (given_bear known here st ats) λ gs r. all_done (record { within = λ n. go x b gs r n (eqb a.name n) })
  where
    go : (x : Labelled) → Bears (marks_read known here st a.expression) x → (gs : List Given) → MarksGiven (marks_for known here st ats) gs → (n : ℕ) (t : Bool)
        → Subset (elim t [ true ↦ marks_read known here st a.expression | false ↦ marks_for known here st ats n ]) (given_labels (elim t [ true ↦ some (record { place = a.place; name = a.name; content = x }) | false ↦ first_with (is_given n) gs ]))
    go x b gs r n true = b
    go x b gs r n false = r.within n

-- the attribute of a name is made of what is given under it
abbrev MadeOf : Labels → Context → State → Option Given → Attribute → Type 0
MadeOf own here st o a = a.content.labels ≡ own ∪ (path_and_trail here st ∪ given_labels o)

attribute_made : (own : Labels) (here : Context) (st : State) (n : ℕ) (gs : List Given) → Perhaps (MadeOf own here st (first_with (is_given n) gs)) (first_with (is_attribute n) (attributes_under own here st gs))
unfolding attributes_under first_with is_given is_attribute given_labels stored
attribute_made own here st n [] = not_there
attribute_made own here st n (g ∷ gs) = go (eqb g.name n) (attribute_made own here st n gs)
  where
    go : (t : Bool) → Perhaps (MadeOf own here st (first_with (is_given n) gs)) (first_with (is_attribute n) (attributes_under own here st gs))
        → Perhaps (MadeOf own here st (elim t [ true ↦ some g | false ↦ first_with (is_given n) gs ])) (elim t [ true ↦ some (record { name = g.name; content = record { value = g.content.value; labels = own ∪ (path_and_trail here st ∪ g.content.labels) } }) | false ↦ first_with (is_attribute n) (attributes_under own here st gs) ])
    go true h = there refl
    go false h = h

-- the five parts, of which the last has the marks, and the set as the run joins it
same_union : (t p r m v : Bool) → (m ≡ true → v ≡ true) → ((((t || p) || r) || m) || v) ≡ (((p || r) || t) || ((p || r) || v))
same_union true true r m v h = refl
same_union true false true m v h = refl
same_union true false false m v h = refl
same_union false true r m v h = refl
same_union false false true m v h = refl
same_union false false false true v h = sym (h refl)
same_union false false false false v h = refl

has_parts : (t p r m v : Labels) (l : ℕ) → has (t ∪ p ∪ r ∪ m ∪ v) l ≡ ((((has t l || has p l) || has r l) || has m l) || has v l)
has_parts t p r m v l = simp has_union

has_joined : (t p r v : Labels) (l : ℕ) → has (((p ∪ r) ∪ t) ∪ ((p ∪ r) ∪ v)) l ≡ (((has p l || has r l) || has t l) || ((has p l || has r l) || has v l))
has_joined t p r v l = simp has_union

union_same : (t p r m v : Labels) → Subset m v → SameLabels (t ∪ p ∪ r ∪ m ∪ v) (((p ∪ r) ∪ t) ∪ ((p ∪ r) ∪ v))
union_same t p r m v h l = has_parts t p r m v l ∙ same_union (has t l) (has p l) (has r l) (has m l) (has v l) (h.held l) ∙ sym (has_joined t p r v l)

entry_parts : (type title : ℕ) (set : Labels) (marks : ℕ → Labels) (here : Context) (st : State) {gs : List Given} → MarksGiven marks gs → PartsMakeSet (entry_from type title set marks here st gs)
unfolding entry_from parts_from set_of with_path_and_trail
entry_parts type title set marks here st {gs} h = record {
  same = λ n. perhaps_map (λ a e l. union_same set here.path st.trail (marks n) (given_labels (first_with (is_given n) gs)) (h.within n) l ∙ sym (ap (λ (k : Labels). has k l) e))
      (attribute_made (path_and_trail here st ∪ set) here st n gs);
}

resource_parts : (known : Known) (declare : Declare) (p type : ℕ) (e : Expression) (ats : List AttributeField) (here : Context) (st : State) → Entries PartsMakeSet st → All (Entries PartsMakeSet) (run known declare (built_in_resource p type e ats) here st)
unfolding run add_resource add_entry with_entry
resource_parts known declare p type e ats here st h =
    all_any _ λ x. all_any _ λ title. all_bind (given_bear known here st ats) λ gs g. all_any _ λ _. all_any _ λ _. all_any _ λ _. all_any _ λ _.
    all_done (also (entry_parts type title x.labels (marks_for known here st ats) here st g) h)

-- ---- THE SECOND LAW: in every accepted compile the set of an attribute is the union of its parts

pub final_parts : (types : Types) (m device : List ℕ) (limit output memory : ℕ) → All (Entries PartsMakeSet) (final_state types m device limit output memory)
final_parts types m device limit output memory = final_entries PartsMakeSet (record { adds = resource_parts }) types m device limit output memory

pub parts_make_set : (types : Types) (m device : List ℕ) (limit output memory : ℕ) {st : State} → final_state types m device limit output memory ≡ done st
    → (type title name : ℕ) {e : Entry} {a : Attribute} → first_with (is_entry type title) st.entries ≡ some e → first_with (is_attribute name) e.attributes ≡ some a
    → SameLabels (set_of (e.parts name)) a.content.labels
parts_make_set types m device limit output memory ended type title name f g l =
    perhaps_get ((perhaps_get (found (is_entry type title) (all_get (final_parts types m device limit output memory) ended)) f).same name) g l

-- ---- The first part that has a label

unfoldable pub part_set : SetParts → SetPart → Labels
part_set parts Title = parts.title
part_set parts Path = parts.path
part_set parts Trail = parts.trail
part_set parts Marks = parts.marks
part_set parts Rest = parts.value

-- a part that has the label, and none before it has
pub record First (parts : SetParts) (l : ℕ) (part : SetPart) : Type 0 where
  pub holds : has (part_set parts part) l ≡ true
  pub earlier : (q : SetPart) → part_number q < part_number part → has (part_set parts q) l ≡ false

-- of five parts of which one has the label, by the first four
last_holds : (t p r m v : Bool) → ((((t || p) || r) || m) || v) ≡ true → t ≡ false → p ≡ false → r ≡ false → m ≡ false → v ≡ true
last_holds true p r m v h a b c d = absurd (true≢false a)
last_holds false true r m v h a b c d = absurd (true≢false b)
last_holds false false true m v h a b c d = absurd (true≢false c)
last_holds false false false true v h a b c d = absurd (true≢false d)
last_holds false false false false v h a b c d = h

-- a part is known by its number
numbered : ℕ → SetPart
numbered zero = Title
numbered (suc zero) = Title
numbered (suc (suc zero)) = Path
numbered (suc (suc (suc zero))) = Trail
numbered (suc (suc (suc (suc zero)))) = Marks
numbered (suc (suc (suc (suc (suc n))))) = Rest

by_number : (q : SetPart) → numbered (part_number q) ≡ q
unfolding numbered part_number
by_number Title = refl
by_number Path = refl
by_number Trail = refl
by_number Marks = refl
by_number Rest = refl

module _ (parts : SetParts) (l : ℕ) where
  -- no part with a lower number has the label
  abbrev NoneBefore : ℕ → Type 0
  NoneBefore n = (q : SetPart) → part_number q < n → has (part_set parts q) l ≡ false

  none_first : NoneBefore 1
  unfolding part_number
  none_first Title h = absurd (omega arith)
  none_first Path h = absurd (omega arith)
  none_first Trail h = absurd (omega arith)
  none_first Marks h = absurd (omega arith)
  none_first Rest h = absurd (omega arith)

  -- nor up to this one, if it has not
  none_next : (part : SetPart) → NoneBefore (part_number part) → has (part_set parts part) l ≡ false → NoneBefore (suc (part_number part))
  none_next part h g q less = go (eqb (part_number q) (part_number part)) refl
    where
      go : (t : Bool) → eqb (part_number q) (part_number part) ≡ t → has (part_set parts q) l ≡ false
      go true e = rw (sym (by_number q) ∙ ap numbered (eqb_true (part_number q) (part_number part) e) ∙ by_number part) g
      go false e = let other : part_number q ≡ part_number part → ⊥ = eqb-false (part_number q) (part_number part) e in h q (omega (arith, less, other))

  -- this part if it has the label, or else a later one
  this_or_later : (part later : SetPart) → NoneBefore (part_number part) → (has (part_set parts part) l ≡ false → NoneBefore (suc (part_number part)) → First parts l later)
      → First parts l (elim (has (part_set parts part) l) [ true ↦ part | false ↦ later ])
  this_or_later part later h k = go (has (part_set parts part) l) refl
    where
      go : (t : Bool) → has (part_set parts part) l ≡ t → First parts l (elim t [ true ↦ part | false ↦ later ])
      go true e = record { holds = e; earlier = h }
      go false e = k e (none_next part h e)

  -- THE THIRD LAW: of a set that has the label, the first part does, and no part before it
  pub first_part_holds : has (set_of parts) l ≡ true → First parts l (first_part parts l)
  unfolding first_part set_of part_set part_number
  first_part_holds h =
      this_or_later Title _ none_first λ a before-path. this_or_later Path _ before-path λ b before-trail. this_or_later Trail _ before-trail λ c before-marks. this_or_later Marks _ before-marks λ d before-rest.
      record {
        holds = last_holds (has parts.title l) (has parts.path l) (has parts.trail l) (has parts.marks l) (has parts.value l) (sym (has_parts parts.title parts.path parts.trail parts.marks parts.value l) ∙ h) a b c d;
        earlier = before-rest;
      }

-- ---- What an explanation says

-- the attribute asked for, in the catalog of an accepted compile; its set is the union of its parts
pub record Asked (types : Types) (manifest device type title attribute : List ℕ) (memory : ℕ) : Type 0 where
  pub st : State
  pub found : Found
  pub ended : final_state types manifest device without_limits without_limits memory ≡ done st
  pub looked_up : found_in (manifest_of manifest).strings st.entries type title attribute ≡ done found
  pub union : SameLabels (set_of found.parts) found.attribute.content.labels

-- "the first part of that set holding the label", and "With the part goes the lowest place"
pub record SaysAmong (found : Found) (label lowest : ℕ) (part : SetPart) (place : ℕ) : Type 0 where
  pub holds : has found.attribute.content.labels label ≡ true
  pub first : First found.parts label part
  pub place_lowest : place ≡ lowest

-- ""Not among them" comes back precisely when the set lacks the label"
abbrev pub Says : (found : Found) (label lowest : ℕ) → Explanation → Type 0
Says found label lowest (Ok (Some a)) = SaysAmong found label lowest a.part a.place
Says found label lowest (Ok None) = has found.attribute.content.labels label ≡ false
Says found label lowest (Err f) = ⊥

-- what is found in a catalog has the parts of its set
found_parts : (strings : List (List ℕ)) {entries : List Entry} (type title attribute : List ℕ) → Each PartsMakeSet entries
    → All (λ (f : Found). SameLabels (set_of f.parts) f.attribute.content.labels) (found_in strings entries type title attribute)
unfolding found_in
found_parts strings type title attribute h =
    all_any _ λ t. all_any _ λ n. all_any _ λ name. all_bind (all_found _ _ (found (is_entry t n) h)) λ e p. all_bind (all_found _ _ (p.same name)) λ a q. all_done q

answer_says : (found : Found) (label lowest : ℕ) → SameLabels (set_of found.parts) found.attribute.content.labels → Says found label lowest (answer_for label lowest found)
unfolding answer_for
answer_says found label lowest union = go (has found.attribute.content.labels label) refl
  where
    go : (t : Bool) → has found.attribute.content.labels label ≡ t → Says found label lowest (elim t [ true ↦ among_part (first_part found.parts label) lowest | false ↦ among_none ])
    go true e = record { holds = e; first = first_part_holds found.parts label (union label ∙ e); place_lowest = refl }
    go false e = e

module _ (types : Types) (manifest device type title attribute : List ℕ) (label memory : ℕ) where
  -- an explanation, and the attribute that it is of
  pub record Explained (explanation : Explanation) : Type 0 where
    pub asked : Asked types manifest device type title attribute memory
    pub says : Says asked.found label (lowest_place types manifest device label) explanation

  all_explained : All Explained (explained types manifest device type title attribute label memory)
  unfolding explained
  all_explained =
      all_bind (all_both (all_itself (final_state types manifest device without_limits without_limits memory)) (final_parts types manifest device without_limits without_limits memory)) λ st h.
      all_bind (all_both (all_itself (found_in (manifest_of manifest).strings st.entries type title attribute)) (found_parts (manifest_of manifest).strings type title attribute h.1)) λ f g.
      all_done (record { asked = record { st = st; found = f; ended = h.0; looked_up = g.0; union = g.1 }; says = answer_says f label (lowest_place types manifest device label) g.1 })

  -- THE FOURTH LAW: what every explanation says of an attribute
  pub explained_says : {explanation : Explanation} → explained types manifest device type title attribute label memory ≡ done explanation → Explained explanation
  explained_says e = all_get all_explained e

  -- and of each attribute that the catalog has there is one
  pub explained_answer : {st : State} {f : Found} → final_state types manifest device without_limits without_limits memory ≡ done st → found_in (manifest_of manifest).strings st.entries type title attribute ≡ done f
      → explained types manifest device type title attribute label memory ≡ done (answer_for label (lowest_place types manifest device label) f)
  unfolding explained ◌>>=◌
  explained_answer ended looked_up = rw ended (rw looked_up refl)
