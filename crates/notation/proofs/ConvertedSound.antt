-- What converting a text gives is a manifest that passes the check.
use Prim.Native.Nat.{ℕ, zero, suc, ◌-◌, ◌<◌, ◌≤◌}
use mathlib.Core.Path.{◌≡◌, refl, ap, subst, ◌∙◌}
use mathlib.Core.Bool.{false}
use mathlib.Core.List.{List, [], ◌∷◌}
use mathlib.Core.Option.{Option, none, some}
use native.Mathlib.Omega.{arith}
use lib.Dec.{ltb, eqb}
use lib.ListN.{length, length-append}
use borrow.Author.Tests.{ltb-false, ne_eqb}
use Rattle.values.specs.declared.Reason.TheVariants.{MemoryTooShort, OutsideNotation, PastLine255}
use Rattle.rules.specs.Format.{three, allowed, take, follow, forms, form_in, form_of, size, head_size, may_end, part_may_end, piece_right}
use Rattle.rules.specs.Check.{check}
use Rattle.rules.specs.EditRule.{IsBytes}
use Rattle.rules.specs.Fields.{Field, field, none as fields_end, write, write_all, head_of, tag_of, inner, first, others}
use Rattle.rules.specs.Outcome.{done, refuse_if}
use Rattle.rules.specs.Ranges.{Each, none_left, also}
use Rattle.rules.specs.Read.{strings_from}
use Rattle.rules.specs.declared.Kind.TheVariants.{Text as AText, Item}
use Rattle.rules.specs.declared.Part.TheVariants.{Over, UpTo, Many}
use Rattle.rules.proofs.Lists.{either_left, each_map}
use Rattle.rules.proofs.Listed.{same, HeadIs}
use Rattle.rules.specs.Compile.{checked}
use Rattle.rules.specs.Types.{Types, check_types}
use Rattle.notation.specs.Tokens.{Token, word, number, text, variable, top_variable, class_variable, mark, Lexeme, token_of}
use Rattle.notation.specs.Lexing.{tokens}
use Rattle.notation.specs.Building.{Nodes, empty, tallest, frame, build}
use Rattle.notation.specs.Grammar.{Ended, built, fault, reading}
use Rattle.notation.specs.Convert.{strings_of, table_behind, crowded_at, string_fields, numbered_onto, manifest_fields, read_text, late_among, refuse_at, too_long, text_items, manifest_bytes, converted}
use Rattle.notation.proofs.Outcomes.{checked_sound, refused_not_done, both_done_lem, not_refused, not_refused_at}
use Rattle.notation.proofs.Stands.{write_nonempty}
use Rattle.notation.proofs.Written.{after, no_field, also_field, Complete, ShortText, Right, manifest_parts, bytes_right_lem}
use Rattle.notation.proofs.WrittenNames.{AllKnown, none_known, Rising, no_string}
use Rattle.notation.proofs.WrittenSound.{written_sound}
use Rattle.notation.proofs.Formed.{More, Has, has_none_lem, has_many_second}
use Rattle.notation.proofs.FormedTokens.{Good, no_bytes}
use Rattle.notation.proofs.Trees.{tree_listed}
use Rattle.notation.proofs.Depth.{tree_depth}
use Rattle.notation.proofs.StringTable.{Among, StringsIn, table_has, table_each, table_rising, table_size, Numbered, among_numbered}
use Rattle.notation.proofs.LexedGood.{GoodLexeme, tokens_good}
use Rattle.notation.proofs.NumberedTree.{AllReady, numbered_after, all_ready, node_ready}
use Rattle.rules.specs.Verdicts.{no_fault}

-- ---- Strings of tokens

-- what holds of the strings of a good token
good_strings : {S : List ℕ → Type 0} (t : Token) → Good S t → Each S (strings_of t)
unfolding strings_of
good_strings (word w) g = also g.known none_left
good_strings (number z) g = none_left
good_strings (text s) g = also g none_left
good_strings (variable n) g = also g.known none_left
good_strings (top_variable n) g = also g.known none_left
good_strings (class_variable c n) g = also g.0.known (also g.1.known none_left)
good_strings (mark k) g = none_left

-- the first of some strings
pub each_first : {P : List ℕ → Type 0} {s : List ℕ} {ss : List (List ℕ)} → Each P (s ∷ ss) → P s
each_first (also p ps) = p

-- the second of some strings
pub each_second : {P : List ℕ → Type 0} {s t : List ℕ} {ss : List (List ℕ)} → Each P (s ∷ t ∷ ss) → P t
each_second (also p (also q ps)) = q

-- a token stays good where something else is known of its strings
good_with : (R S : List ℕ → Type 0) (t : Token) → Good R t → Each S (strings_of t) → Good S t
unfolding strings_of
good_with R S (word w) g all = record { known = each_first all; spelled = g.spelled }
good_with R S (number z) g all = tt
good_with R S (text s) g all = each_first all
good_with R S (variable n) g all = record { known = each_first all; spelled = g.spelled }
good_with R S (top_variable n) g all = record { known = each_first all; spelled = g.spelled }
good_with R S (class_variable c n) g all = (record { known = each_first all; spelled = g.0.spelled }, record { known = each_second all; spelled = g.1.spelled })
good_with R S (mark k) g all = g

-- so do tokens whose strings are all in a table
good_numbered : (table : List (List ℕ)) {xs : List Lexeme} → Each GoodLexeme xs → Each (StringsIn (λ s. Among s table)) xs → Each (λ (x : Lexeme). Good (Numbered table) (token_of x)) xs
good_numbered table none_left none_left = none_left
good_numbered table (also {x = x} g gs) (also a as') = also (good_with ShortText (Numbered table) (token_of x) g (each_map (λ s i. among_numbered i) a)) (good_numbered table gs as')

-- ---- The string table

-- strings are right fields, and as many as there may be
strings_complete : (d c : ℕ) (table : List (List ℕ)) → length table ≤ c → Each ShortText table → Complete (Right (suc d)) (three (UpTo c AText) Over Over) (string_fields table)
unfolding string_fields after may_end part_may_end follow take allowed tag_of form_of form_in forms
strings_complete d c [] l none_left = record { last = three (UpTo c AText) Over Over; reached = refl; ends = refl; each = no_field }
strings_complete d zero (s ∷ table) l (also t all) = absurd (omega arith)
strings_complete d (suc c) (s ∷ table) l (also t all) =
    let others = strings_complete d c table (omega arith) all in
    let some_left : eqb (suc c) 0 ≡ false = ne_eqb (suc c) 0 (λ e. omega arith) in
    let less : suc c - 1 ≡ c = omega arith in
    record { last = others.last; reached = rw (some_left, less) others.reached; ends = others.ends; each = also_field {k = field 0 0x02 s fields_end} (record { tag = omega arith; head = t; fields = same }) others.each }

-- they are read as themselves
pub strings_back : (table : List (List ℕ)) → strings_from (string_fields table) ≡ table
unfolding string_fields strings_from tag_of head_of
strings_back [] = refl
strings_back (s ∷ table) = ap (λ (ss : List (List ℕ)). s ∷ ss) (strings_back table)

-- ---- The tree of a manifest

-- a text is read whole: its tree is as listed, and its strings are few and short
pub record ReadWhole (types : Types) (xs : List Lexeme) (items : Nodes) : Type 0 where
  pub whole : reading types xs ≡ built (build 0 (frame 0 0 [] items) [])
  pub listed : More types (Numbered (table_behind xs [])) Item empty items
  pub deep : tallest items ≤ 32
  pub few : length (table_behind xs []) ≤ 1024
  pub short : Each ShortText (table_behind xs [])

module _ (types : Types) {xs : List Lexeme} {items : Nodes} (r : ReadWhole types xs items) (late : late_among items ≡ none) where
  abbrev table : List (List ℕ)
  table = table_behind xs []

  -- the items are as listed
  pub items_has : Has types (Numbered table) (three Over (Many Item) Over) items (three Over (Many Item) Over)
  items_has = has_many_second types (has_none_lem types) r.listed

  -- they are right to write, and their names are known
  items_ready : AllReady types table r.few 32 (numbered_onto table items fields_end)
  items_ready = all_ready types table r.few 32 (λ k f l e. node_ready types table r.few 32 k f l e) items_has.all r.deep late fields_end (record { right = no_field; names = none_known })

  -- the manifest is as listed
  pub manifest_complete : Complete (Right 32) manifest_parts (manifest_fields table items)
  unfolding manifest_fields after may_end part_may_end follow take allowed tag_of form_of form_in forms head_size size piece_right
  manifest_complete =
      let strings = strings_complete 30 1024 table r.few r.short in
      let head : HeadIs (form_of 0x01) [] = record { count = refl; bytes = no_bytes; first = refl; second = refl } in
      record {
        last = three Over (Many Item) Over;
        reached = numbered_after types table r.few (three Over (Many Item) Over) items fields_end ∙ rw items_has.leads;
        ends = refl;
        each = also_field {k = field 0 0x01 [] (string_fields table)} (record { tag = omega arith; head = head; fields = strings }) items_ready.right;
      }

  -- its strings rise
  manifest_rising : Rising (strings_from (inner (first (manifest_fields table items))))
  unfolding manifest_fields first inner
  manifest_rising = rw (strings_back table) (table_rising xs [] no_string)

  -- its names are known
  manifest_known : AllKnown (length (strings_from (inner (first (manifest_fields table items))))) (others (manifest_fields table items))
  unfolding manifest_fields first inner others
  manifest_known = rw (strings_back table) items_ready.names

  -- it passes the check
  manifest_sound : check (manifest_bytes xs items) ≡ no_fault
  unfolding manifest_bytes
  manifest_sound = written_sound (manifest_fields table items) manifest_complete manifest_rising manifest_known

  -- it has a byte
  manifest_begun : 1 ≤ length (manifest_bytes xs items)
  unfolding manifest_bytes manifest_fields write_all
  manifest_begun =
      let table_field : Field = field 0 0x01 [] (string_fields table) in
      let sum = length-append (write table_field) (write_all (numbered_onto table items fields_end)) in
      let there = write_nonempty table_field in
      omega arith

  -- all its numbers are bytes
  manifest_bytes_lem : length (manifest_bytes xs items) < 65536 → IsBytes (manifest_bytes xs items)
  unfolding manifest_bytes
  manifest_bytes_lem l = bytes_right_lem (manifest_fields table items) manifest_complete l

-- ---- The whole

-- good tokens that are read are read whole
pub text_whole : (types : Types) (xs : List Lexeme) (items : Nodes) → Each GoodLexeme xs → text_items types xs ≡ done items → ReadWhole types xs items
unfolding text_items read_text
text_whole types xs items good e = go (reading types xs) refl (crowded_at xs []) refl e
  where
    go : (y : Ended) → reading types xs ≡ y → (o : Option ℕ) → crowded_at xs [] ≡ o → read_text y o ≡ done items → ReadWhole types xs items
    go (built (build b (frame p t h ks) fs)) i none j e =
        let tree = tree_listed types (Numbered (table_behind xs [])) xs (build b (frame p t h ks) fs) (good_numbered (table_behind xs []) good (table_has xs [])) i in
        let tree-same = tree.same in
        let kept : tree.nodes ≡ items = cc in
        let last : ks ≡ items = cc in
        let room = (tree_depth types xs (build b (frame p t h ks) fs) i).0 in
        let deep : tallest ks ≤ 32 = omega arith in
        let all_read : reading types xs ≡ built (build 0 (frame 0 0 [] items) []) = cc in
        record {
          whole = all_read;
          listed = subst (λ (js : Nodes). More types (Numbered (table_behind xs [])) Item empty js) kept tree.listed;
          deep = subst (λ (js : Nodes). tallest js ≤ 32) last deep;
          few = table_size xs [] (omega arith) j;
          short = table_each [] (each_map (λ (x : Lexeme) g. good_strings (token_of x) g) good) none_left;
        }
    go (built f) i (some q) j e = refused_not_done e
    go (fault p) i none j e = refused_not_done e
    go (fault p) i (some q) j e = refused_not_done e

-- what is known of a manifest that converting gives
pub record Manifest (m : List ℕ) : Type 0 where
  pub sound : check m ≡ no_fault
  pub begun : 1 ≤ length m
  pub short : length m ≤ 65535
  pub bytes : IsBytes m

-- a text is converted: it is read whole, no constant is late, and what is written is not too long
pub record Steps (types : Types) (given m : List ℕ) (output_length memory_length : ℕ) : Type 0 where
  pub memory : ltb memory_length 65536 ≡ false
  pub listed : check_types types ≡ no_fault
  pub short : ltb 65535 (length given) ≡ false
  pub items : Nodes
  pub read : text_items types (tokens given) ≡ done items
  pub late : late_among items ≡ none
  pub long : too_long (manifest_bytes (tokens given) items) output_length ≡ false
  pub same : manifest_bytes (tokens given) items ≡ m

-- these are the steps of a converting that ends well
pub converted_steps : (types : Types) (given m : List ℕ) (output_length memory_length : ℕ) → converted types given output_length memory_length ≡ done m → Steps types given m output_length memory_length
unfolding converted
converted_steps types given m output_length memory_length e =
    let one = both_done_lem (refuse_if (ltb memory_length 65536) MemoryTooShort 0) _ m e in
    let types-checked = both_done_lem (checked (check_types types)) _ m one.behind in
    let two = both_done_lem (refuse_if (ltb 65535 (length given)) OutsideNotation 0) _ m types-checked.behind in
    let three = both_done_lem (text_items types (tokens given)) _ m two.behind in
    let four = both_done_lem (refuse_at (late_among three.between) PastLine255) _ m three.behind in
    let five = both_done_lem (refuse_if (too_long (manifest_bytes (tokens given) three.between) output_length) OutsideNotation 0) _ m four.behind in
    let last = five.behind in
    record {
      memory = not_refused (ltb memory_length 65536) MemoryTooShort 0 one.before;
      listed = checked_sound (check_types types) types-checked.before;
      short = not_refused (ltb 65535 (length given)) OutsideNotation 0 two.before;
      items = three.between;
      read = three.before;
      late = not_refused_at (late_among three.between) PastLine255 four.before;
      long = not_refused (too_long (manifest_bytes (tokens given) three.between) output_length) OutsideNotation 0 five.before;
      same = cc;
    }

-- what converting gives passes the check
pub converted_manifest : (types : Types) (given m : List ℕ) (output_length memory_length : ℕ) → IsBytes given → converted types given output_length memory_length ≡ done m → Manifest m
unfolding too_long
converted_manifest types given m output_length memory_length b e =
    let s = converted_steps types given m output_length memory_length e in
    let w = text_whole types (tokens given) s.items (tokens_good given b) s.read in
    let written : List ℕ = manifest_bytes (tokens given) s.items in
    let short = ltb-false 65535 (length written) (either_left (ltb 65535 (length written)) (ltb output_length (length written)) s.long) in
    let all : Manifest written = record { sound = manifest_sound types w s.late; begun = manifest_begun types w s.late; short = short; bytes = manifest_bytes_lem types w s.late (omega arith) } in
    subst Manifest s.same all

-- so it passes the check
pub converted_sound : (types : Types) (given m : List ℕ) (output_length memory_length : ℕ) → IsBytes given → converted types given output_length memory_length ≡ done m → check m ≡ no_fault
converted_sound types given m output_length memory_length b e = (converted_manifest types given m output_length memory_length b e).sound
