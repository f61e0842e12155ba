-- Built-in types and the title: one law for each way through `mark_string`, `mark_built_ins` and `prepare`. Assumes nothing.
use Prim.Native.Nat.{ℕ, zero, suc, ◌+◌, ◌≤◌, ◌<◌, ◌*◌}
use mathlib.Core.Path.{◌≡◌, refl, sym, ap, ◌∙◌}
use mathlib.Core.Bool.{Bool, true, false, ◌&&◌}
use mathlib.Core.List.{List, [], ◌∷◌}
use mathlib.Core.Option.{Option, none, some}
use native.Mathlib.Omega.{arith}
use native.Mathlib.Numerals.{add-one}
use lib.Dec.{eqb, ltb}
use lib.ListN.{length, get_or, get_or-eq_default}
use borrow.Author.Tests.{eq-eqb, ne_eqb, ltb-true, ltb-false, le-ltb}
use Rattle.wire.specs.Bytes.{pick, two}
use Rattle.rules.specs.Check.{text, string_places, check}
use Rattle.rules.specs.State.{Entry}
use Rattle.rules.specs.Read.{manifest_of}
use Rattle.rules.specs.Evaluate.{any}
use Rattle.rules.specs.Types.{Types, built_in_types}
use Rattle.rules.specs.Compile.{same_bytes, string_at, string_number, title_text, is_built_in, known_with, room_in, none_struck_out}
use Rattle.syntax.specs.Strings.{texts_at, string_texts, is_built_in_text, indexed, Indexed, found_of}
use Rattle.syntax.proofs.StringsRead.{few_strings_lem, strings_read, built_in_read, title_read, table_holds}
use Rattle.cells.specs.Layout.{words_at, summary_at, put_at, rest_of}
use Rattle.cells.specs.Memory.{definition_of, built_in_of, Names, names_of, state_of, Fine, Becomes}
use Rattle.cells.proofs.Others.{others_read}
use Rattle.memory.specs.Names.{with_built_in, no_names, title_of, TitleSet, Begun}
use Rattle.memory.proofs.Titles.{title_kept}
use Rattle.summaries.proofs.Summaries.{none_summarized}
use Rattle.evaluator.proofs.Names.{known_first}
use Rattle.declarations.specs.Standing.{undefined}
use Rattle.definitions.specs.Prepared.{mark_string, mark_strings, Prepares, Blank}
use Rattle.rules.specs.Tree.{Constant}
use Rattle.memory.specs.Words.{word_of, strike_label, strike_end, struck_at, struck_in}
use Rattle.memory.proofs.Words.{word_at}
use Rattle.std.specs.Prelude.{Option as CodeOption, Some, None}
use Rattle.rules.specs.Verdicts.{no_fault}

-- ---- mark_string

module _ (types : Types) (m : List ℕ) (n q : ℕ) {name : List ℕ} (named : name ≡ text m q) {b : Bool} (is : b ≡ is_built_in_text types name) where
  told : b ≡ is_built_in_text types (text m q)
  told = is ∙ ap (is_built_in_text types) named

  pub marked : (w w' : List ℕ) → b ≡ true → Becomes w w' (λ st. st) (with_built_in n true) → Becomes w w' (λ st. st) (mark_string types m n q)
  unfolding mark_string
  marked w w' h s = record { state = s.state; names = rw (sym told, h) s.names; rest = s.rest; fine = s.fine }

  pub unmarked : (w : List ℕ) → b ≡ false → Becomes w w (λ st. st) (mark_string types m n q)
  unfolding mark_string
  unmarked w h = record { state = λ es k r. refl; names = rw (sym told, h) refl; rest = refl; fine = λ f. f }

-- ---- mark_built_ins

-- up to the string n of those at `all` the strings are marked: those left, at qs, make the whole
pub record MarkedTo (types : Types) (m w₀ w : List ℕ) (all : List ℕ) (n : ℕ) (qs : List ℕ) : Type 0 where
  pub size : length w ≡ length w₀
  pub count : n + length qs ≡ length all
  pub names : mark_strings types m n qs (names_of w) ≡ mark_strings types m 0 all (names_of w₀)
  pub state : (es : List Entry) (s r : ℕ) → state_of w es s r ≡ state_of w₀ es s r
  pub rest : rest_of w ≡ rest_of w₀
  pub fine : Fine w₀ → Fine w

module _ (types : Types) (m : List ℕ) (all : List ℕ) where
  module _ (w₀ w : List ℕ) {n : ℕ} {qs : List ℕ} (so : MarkedTo types m w₀ w all n qs) where
    module _ {q : ℕ} {rest : List ℕ} (next : qs ≡ q ∷ rest) where
      -- a string is left: its number is below the count
      pub string_below : length all ≤ 1024 → n < 1024
      string_below few = let c = rw next at so.count in omega arith

      pub one_marked : (w' : List ℕ) {n' : ℕ} → Becomes w w' (λ st. st) (mark_string types m n q) → length w' ≡ length w → n' ≡ n + 1 → MarkedTo types m w₀ w' all n' rest
      unfolding mark_strings
      one_marked w' s size further =
          let c = rw next at so.count in
          let old = rw next at so.names in
          rw further (record {
            size = size ∙ so.size;
            count = omega arith;
            names = rw (add-one n, s.names) old;
            state = λ es k r. s.state es k r ∙ so.state es k r;
            rest = s.rest ∙ so.rest;
            fine = λ f. s.fine (so.fine f);
          })

    pub all_marked : qs ≡ [] → all ≡ string_places m → Becomes w₀ w (λ st. st) (mark_strings types m 0 (string_places m))
    unfolding mark_strings
    all_marked none_left same = record { state = so.state; names = rw (sym same) (rw none_left at so.names); rest = so.rest; fine = so.fine }

-- ---- What the marks say

module _ (types : Types) (m : List ℕ) where
  strings_kept : (n : ℕ) (qs : List ℕ) (ns : Names) → (mark_strings types m n qs ns).definitions ≡ ns.definitions
  unfolding mark_strings mark_string with_built_in
  strings_kept n [] ns = refl
  strings_kept n (q ∷ qs) ns = strings_kept (suc n) qs (mark_string types m n q ns) ∙ go (is_built_in_text types (text m q))
    where
      go : (b : Bool) → ◌≡◌ {A = ℕ → ℕ} (pick b (with_built_in n true ns) ns).definitions ns.definitions
      go true = refl
      go false = refl

  -- a string before those marked
  before_marked : (n : ℕ) (qs : List ℕ) (ns : Names) (k : ℕ) → k < n → (mark_strings types m n qs ns).built_ins k ≡ ns.built_ins k
  unfolding mark_strings mark_string with_built_in put_at
  before_marked n [] ns k l = refl
  before_marked n (q ∷ qs) ns k l = before_marked (suc n) qs (mark_string types m n q ns) k (omega arith) ∙ go (is_built_in_text types (text m q))
    where
      go : (b : Bool) → (pick b (with_built_in n true ns) ns).built_ins k ≡ ns.built_ins k
      go true = rw (ne_eqb k n (λ e. omega arith)) refl
      go false = refl

  -- a string past them
  past_marked : (n : ℕ) (qs : List ℕ) (ns : Names) (k : ℕ) → n + length qs ≤ k → (mark_strings types m n qs ns).built_ins k ≡ ns.built_ins k
  unfolding mark_strings mark_string with_built_in put_at
  past_marked n [] ns k l = refl
  past_marked n (q ∷ qs) ns k l = past_marked (suc n) qs (mark_string types m n q ns) k (omega arith) ∙ go (is_built_in_text types (text m q))
    where
      go : (b : Bool) → (pick b (with_built_in n true ns) ns).built_ins k ≡ ns.built_ins k
      go true = rw (ne_eqb k n (λ e. omega arith)) refl
      go false = refl

  -- one of them, where none from n on was marked before
  among_marked : (n : ℕ) (qs : List ℕ) (ns : Names) → ((k : ℕ) → n ≤ k → ns.built_ins k ≡ false) → (i : ℕ) → i < length qs → (mark_strings types m n qs ns).built_ins (n + i) ≡ is_built_in_text types (text m (get_or qs i 0))
  unfolding mark_strings mark_string with_built_in put_at
  among_marked n [] ns blank i l = absurd (omega arith)
  among_marked n (q ∷ qs) ns blank zero l =
      let here : n + 0 ≡ n = omega arith in
      rw here (before_marked (suc n) qs (mark_string types m n q ns) n (omega arith) ∙ go (is_built_in_text types (text m q)))
    where
      go : (b : Bool) → (pick b (with_built_in n true ns) ns).built_ins n ≡ b
      go true = rw (eq-eqb n n refl) refl
      go false = blank n (omega arith)
  among_marked n (q ∷ qs) ns blank (suc i) l =
      let later : n + suc i ≡ suc n + i = omega arith in
      rw later (among_marked (suc n) qs (mark_string types m n q ns) (λ k h. go k h (is_built_in_text types (text m q)) ∙ blank k (omega arith)) i (omega arith))
    where
      go : (k : ℕ) → suc n ≤ k → (b : Bool) → (pick b (with_built_in n true ns) ns).built_ins k ≡ ns.built_ins k
      go k h true = rw (ne_eqb k n (λ e. omega arith)) refl
      go k h false = refl

-- the number of a string is below how many there are
number_below : (x : List ℕ) (ss : List (List ℕ)) (i n : ℕ) → string_number x ss i ≡ some n → n < i + length ss
unfolding string_number
number_below x [] i n e = let z : ◌≡◌ {A = ℕ} 0 1 = cc in absurd (omega arith)
number_below x (y ∷ ys) i n e = go (λ j h. number_below x ys (suc i) j h) (same_bytes x y) e
  where
    go : ((j : ℕ) → string_number x ys (suc i) ≡ some j → j < suc i + length ys) → (b : Bool) → elim b [ true ↦ some i | false ↦ string_number x ys (suc i) ] ≡ some n → n < i + suc (length ys)
    go later true h = let same : i ≡ n = cc in omega arith
    go later false h = let below = later n h in omega arith

texts_count : (m : List ℕ) (ps : List ℕ) → length (texts_at m ps) ≡ length ps
unfolding texts_at
texts_count m [] = refl
texts_count m (p ∷ ps) = ap suc (texts_count m ps)

-- ---- prepare

pub found_back : (o : Option ℕ) {n : ℕ} → found_of o ≡ Some n → o ≡ some n
unfolding found_of
found_back none e = let z : ◌≡◌ {A = ℕ} 0 1 = cc in absurd (omega arith)
found_back (some i) e = cc

pub found_nothing : (o : Option ℕ) → found_of o ≡ None → o ≡ none
unfolding found_of
found_nothing none e = refl
found_nothing (some i) e = let z : ◌≡◌ {A = ℕ} 0 1 = cc in absurd (omega arith)

-- the number of a string, as it was looked up
pub found_below : (m bytes : List ℕ) {n : ℕ} → string_number bytes (string_texts m) 0 ≡ some n → length (string_places m) ≤ 1024 → n < 1024
unfolding string_texts
found_below m bytes {n} is few =
    let below = number_below bytes (string_texts m) 0 n is in
    let count = texts_count m (string_places m) in
    omega arith

pub title_below : (m : List ℕ) {r : CodeOption ℕ} → r ≡ found_of (string_number title_text (string_texts m) 0) → {n : ℕ} → length (string_places m) ≤ 1024 → r ≡ Some n → n < 1024
title_below m told few h = found_below m title_text (found_back _ (sym told ∙ h)) few

module _ (types : Types) (m w₀ w : List ℕ) (letters : is_built_in_text types [] ≡ false) (sound : check m ≡ no_fault) (first : Begun w₀) (marked : Becomes w₀ w (λ st. st) (mark_strings types m 0 (string_places m))) where
  -- the names after the marks
  names_are : names_of w ≡ mark_strings types m 0 (string_places m) no_names
  names_are = marked.names ∙ ap (mark_strings types m 0 (string_places m)) first.names

  no_definition : (n : ℕ) → definition_of w n ≡ 0
  unfolding names_of no_names
  no_definition n = ap (λ (ns : Names). ns.definitions n) names_are ∙ ap (λ (f : ℕ → ℕ). f n) (strings_kept types m 0 (string_places m) no_names)

  -- a number past the strings names no built-in type
  past_strings : (n : ℕ) → length (string_places m) ≤ n → is_built_in types (manifest_of m).strings n ≡ false
  unfolding is_built_in is_built_in_text string_at string_texts
  past_strings n l =
      let count = texts_count m (string_places m) in
      ap (λ (ss : List (List ℕ)). any (same_bytes (get_or ss n [])) (built_in_types types)) (strings_read m sound)
      ∙ ap (λ (x : List ℕ). any (same_bytes x) (built_in_types types)) (get_or-eq_default (texts_at m (string_places m)) [] {n = n} (omega arith))
      ∙ letters

  among_strings : (n : ℕ) → n < length (string_places m) → is_built_in types (manifest_of m).strings n ≡ (mark_strings types m 0 (string_places m) no_names).built_ins n
  unfolding no_names
  among_strings n l =
      let here : 0 + n ≡ n = omega arith in
      built_in_read types m n sound l ∙ sym (ap (mark_strings types m 0 (string_places m) no_names).built_ins (sym here) ∙ among_marked types m 0 (string_places m) no_names (λ k j. refl) n l)

  after_strings : (n : ℕ) → length (string_places m) ≤ n → is_built_in types (manifest_of m).strings n ≡ (mark_strings types m 0 (string_places m) no_names).built_ins n
  unfolding no_names
  after_strings n l = past_strings n l ∙ sym (past_marked types m 0 (string_places m) no_names n (omega arith))

  built_ins_lem : (n : ℕ) → is_built_in types (manifest_of m).strings n ≡ built_in_of w n
  unfolding names_of
  built_ins_lem n = go (ltb n (length (string_places m))) refl ∙ sym (ap (λ (ns : Names). ns.built_ins n) names_are)
    where
      go : (b : Bool) → ltb n (length (string_places m)) ≡ b → is_built_in types (manifest_of m).strings n ≡ (mark_strings types m 0 (string_places m) no_names).built_ins n
      go true h = among_strings n (ltb-true _ _ h)
      go false h = after_strings n (ltb-false _ _ h)

  -- where the words strike nothing out, nothing is
  nothing_struck : (w : List ℕ) → word_of w strike_end ≡ 0 → (v : Constant) → struck_in w v ≡ none_struck_out v
  unfolding struck_in struck_at none_struck_out
  nothing_struck w e v = rw (e, le-ltb v.place 0 (omega arith)) (and_false (eqb v.label (word_of w strike_label)))
    where
      and_false : (b : Bool) → (b && false) ≡ false
      and_false true = refl
      and_false false = refl

  module _ (room : 65536 ≤ length w₀) (short : length m ≤ 65535) (size : length w ≡ length w₀) where
    no_title_yet : title_of w ≡ none
    no_title_yet = title_kept w₀ w marked.rest ∙ first.title

    -- THE LAWS: what is known before the first item runs, where the memory became w' by its title alone
    ready : (w' : List ℕ) → length w' ≡ length w → names_of w' ≡ names_of w → ((es : List Entry) (n r : ℕ) → state_of w' es n r ≡ state_of w es n r) → (Fine w → Fine w') → title_of w' ≡ string_number title_text (string_texts m) 0 → ((p : ℕ) → words_at + 2 ≤ p → two w' p ≡ two w p) → Prepares types m w' none_struck_out × Blank w'
    unfolding names_of known_with
    ready w' same names state fine title after = (
      record {
        set = record { memory = omega arith; manifest = short; strings = few_strings_lem m sound; definitions = λ n. undefined (ap (λ (ns : Names). ns.definitions n) names ∙ no_definition n); summaries = none_summarized w' (λ i l. after (summary_at i) (omega arith) ∙ others_read w₀ w marked.rest (summary_at i) (omega arith) ∙ first.summaries i l) };
        fine = fine (marked.fine first.fine);
        known = known_first m w' (known_with none_struck_out types (manifest_of m).strings []) refl (λ n. built_ins_lem n ∙ sym (ap (λ (ns : Names). ns.built_ins n) names)) (λ n. ap (λ (ns : Names). ns.definitions n) names ∙ no_definition n) (λ v. sym (nothing_struck w' (words strike_end (omega arith) (omega arith)) v));
        title = title ∙ sym (title_read m sound);
        state = λ limit output. state [] limit (room_in output) ∙ marked.state [] limit (room_in output) ∙ first.state limit output;
        index = λ p l u. after p (omega arith) ∙ others_read w₀ w marked.rest p (omega arith) ∙ first.index p l u;
      },
      record { words = words },
    )
      where
        words : (i : ℕ) → 0 < i → i < 15 → word_of w' i ≡ 0
        words i l u =
            sym (word_at w' i) ∙ after (words_at + 2 * i) (omega arith) ∙ others_read w₀ w marked.rest (words_at + 2 * i) (omega arith) ∙ word_at w₀ i ∙ first.words i u

    pub titled : {r : CodeOption ℕ} (w' : List ℕ) {n : ℕ} → r ≡ found_of (string_number title_text (string_texts m) 0) → r ≡ Some n → TitleSet w w' n → length w' ≡ length w → Prepares types m w' none_struck_out × Blank w'
    titled w' told h s same = ready w' same s.names s.state s.fine (s.title ∙ sym (found_back _ (sym told ∙ h))) s.after

    pub untitled : {r : CodeOption ℕ} → r ≡ found_of (string_number title_text (string_texts m) 0) → r ≡ None → Prepares types m w none_struck_out × Blank w
    untitled told h = ready w refl refl (λ es n r. refl) (λ f. f) (no_title_yet ∙ sym (found_nothing _ (sym told ∙ h))) (λ p l. refl)

-- ---- choose_node

-- the table of places after `index_strings`
pub node_table : (m table : List ℕ) {table' : List ℕ} {n : ℕ} → check m ≡ no_fault → length m ≤ 65535 → 2048 ≤ length table → n ≡ length (string_places m) → table' ≡ indexed m table → Indexed m table' n
node_table m table sound short room count e = rw (e, count) (table_holds m table sound short room)
