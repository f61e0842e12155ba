-- One token: its strings are entered, and the machine takes it or not. Assumes nothing.
use mathlib.Core.Path.{◌≡◌, refl, sym, ◌∙◌, ap, subst}
use mathlib.Core.Bool.{Bool, true, false}
use mathlib.Core.List.{List, [], ◌∷◌}
use native.Mathlib.Omega.{arith}
use lib.Dec.{eqb}
use lib.ListN.{length}
use lib.Seq.{slice}
use borrow.Author.Tests.{eqb-true, eqb-false, eq-eqb, ne_eqb}
use Prim.Native.Nat.{ℕ, ◌≤◌, ◌<◌}
use Rattle.rules.specs.Bytes.{pick}
use Rattle.rules.specs.Ranges.{Each, none_left, also}
use Rattle.rules.specs.Types.{Types}
use Rattle.lexer.specs.declared.Token.{Token}
use Rattle.lexer.specs.Found.{tokens_from, token_in, Found}
use Rattle.notation.specs.Tokens as tokens
use Rattle.notation.specs.Tokens.{Lexeme, lexeme, mark, token_of, place_of, kind, operand_behind, a_word, end_of_text, malformed, left_square}
use Rattle.notation.specs.Building.{Build, resource_tag}
use Rattle.notation.specs.Grammar.{Symbol}
use Rattle.notation.specs.Convert.{strings_of, entered_all, table_behind}
use Rattle.notation.proofs.WrittenNames.{Rising}
use Rattle.notation.proofs.StringTable.{Among, table_has}
use Rattle.interner.specs.Table.{strings}
use Rattle.tree_builder.specs.declared.Building.{Building}
use Rattle.tree_builder.specs.Shows.{Shows}
use Rattle.parser.specs.declared.actions.Names.{Names}
use Rattle.parser.specs.declared.strings.Numbered.{Numbered}
use Rattle.parser.specs.declared.steps.Machine.{Machine}
use Rattle.parser.specs.declared.text.Pass.{Pass}
use Rattle.parser.specs.Entering.{EnteredFor}
use Rattle.parser.specs.Stepping.{WordOnTop, WordFor, Standing, TakenSo, SteppableAt, StepsAt}
use Rattle.parser.specs.Reading.{without_word, word_for, tokens_left, symbols_of, strings_so_far, Stage, Passable, TokenTaken, Barred, is_malformed, is_stuck, is_crowded, TokenRefused, pass_behind}
use Rattle.parser.proofs.Passing.{any_kind}
use Rattle.parser.proofs.Entering.{known_again, first_of}
use Rattle.parser.proofs.OtherTable.{shows_same, word_forgotten}
use Rattle.parser.proofs.TokenKinds.{token_mark}
use Rattle.std.specs.Prelude.{Option, Some, None}

-- ---- A table that has the strings already

all_known : (ss S : List (List ℕ)) → Each (λ s. Among s S) ss → Rising S → entered_all ss S ≡ S
unfolding entered_all
all_known [] S none_left up = refl
all_known (s ∷ ss) S (also i is) up = rw (known_again s S i up) (all_known ss S is up)

-- the strings of the first token left change nothing
pub known_first : (x : Lexeme) (xs : List Lexeme) (S : List (List ℕ)) → table_behind (x ∷ xs) S ≡ S → Rising S → entered_all (strings_of (token_of x)) S ≡ S
known_first x xs S e up =
    let T : List (List ℕ) = table_behind (x ∷ xs) S in
    let there = first_of (λ y. Each (λ s. Among s T) (strings_of (token_of y))) x xs (table_has (x ∷ xs) S) in
    all_known (strings_of (token_of x)) S (subst (λ (U : List (List ℕ)). Each (λ s. Among s U) (strings_of (token_of x))) e there) up

-- ---- A word just read

-- it is forgotten, or there are no strings
same_fill : (k : ℕ) (s : Building) → (word_for k s).fill ≡ s.fill
unfolding word_for
same_fill k s = go (eqb k left_square)
  where
    go : (b : Bool) → (pick b s (without_word s)).fill ≡ s.fill
    go true = refl
    go false = refl

forgotten : (q : ℕ) → (q ≡ left_square → ⊥) → (k : List Symbol) (s : Building) → WordOnTop k s → WordFor q k (without_word s)
unfolding WordOnTop WordFor
forgotten q other [] s w = tt
forgotten q other (y ∷ k) s w = (λ a i. absurd (other i), w.1)

words_for : (q : ℕ) (k : List Symbol) (s : Building) → WordOnTop k s → WordFor q k (word_for q s)
unfolding word_for
words_for q k s w = go (eqb q left_square) refl
  where
    go : (b : Bool) → eqb q left_square ≡ b → WordFor q k (pick b s (without_word s))
    go true e = any_kind q k s w
    go false e = forgotten q (eqb-false q left_square e) k s w

no_strings : (k : ℕ) (S : List (List ℕ)) → entered_all (strings_of (mark k)) S ≡ S
unfolding strings_of entered_all
no_strings k S = refl

-- with no output any table will do, and otherwise it is the same one
other_table : (S U : List (List ℕ)) (s : Building) (m out : List ℕ) (f : Build) → (0 < length out → U ≡ S) → s.word ≡ false → Shows S s m out f → Shows U s m out f
other_table S U s m [] f same e w = shows_same S U s m f e w
other_table S U s m (b ∷ out) f same e w = subst (λ (T : List (List ℕ)). Shows T s m (b ∷ out) f) (sym (same (omega arith))) w

module _ (types : Types) (t out m st tb : List ℕ) (p : Pass) (h : Passable t out m st tb p) (r : Token) (found : Found t p.at p.line p.operand r) where
  -- the token in the text, and the strings before it
  abbrev this : Lexeme
  this = lexeme r.start r.line (token_in t r)

  abbrev S : List (List ℕ)
  S = strings_so_far t tb p

  refused_at : (f : Build) (y : Lexeme) (rest : List Lexeme) → tokens_left t p ≡ y ∷ rest → place_of y ≡ r.start → Barred types (symbols_of st p) y f S → TokenRefused types t st tb p f r.start
  refused_at f y rest first place why =
      record {
        token = y;
        rest = rest;
        first = first;
        line = r.line;
        same_tokens = found.same_tokens;
        place_of_lem = place;
        barred = why;
        small = omega (arith, found.forward, found.high, h.short);
      }

  -- a malformed piece
  pub malformed_refused : r.kind ≡ malformed → (f : Build) → TokenRefused types t st tb p f r.start
  malformed_refused e f = let b = found.at_fault e in refused_at f (lexeme r.start r.line (mark malformed)) b.rest b.begins refl (is_malformed refl)

  module _ (formed : r.kind ≡ malformed → ⊥) where
    -- the tokens behind it
    abbrev behind : List Lexeme
    behind = pick (eqb r.kind end_of_text) [] (tokens_from t r.end r.line_behind (operand_behind r.kind))

    this_first : tokens_left t p ≡ this ∷ behind
    this_first = go (eqb r.kind end_of_text) refl
      where
        go : (b : Bool) → eqb r.kind end_of_text ≡ b → tokens_left t p ≡ this ∷ pick b [] (tokens_from t r.end r.line_behind (operand_behind r.kind))
        go true e =
            let last = eqb-true r.kind end_of_text e in
            let meant : token_in t r ≡ mark end_of_text = token_mark t r (omega arith) ∙ ap mark last in
            found.at_end last ∙ ap (λ (y : tokens.Token). lexeme r.start r.line y ∷ []) (sym meant)
        go false e = found.first (eqb-false r.kind end_of_text e) formed

    module _ (tb' : List ℕ) (n : Numbered) (entered : EnteredFor t tb p.count r tb' n) where
      -- one string too many
      pub crowded_refused : 1024 < n.count → (f : Build) → TokenRefused types t st tb p f r.start
      crowded_refused over f = refused_at f this behind this_first refl (is_crowded (entered.crowded over))

      module _ (few : n.count ≤ 1024) (tag : ℕ) (tagged : r.kind ≡ a_word → tag ≡ resource_tag types (slice r.start r.end t)) (s : Building) (is : s ≡ word_for r.kind p.machine.building) where
        abbrev U : List (List ℕ)
        U = strings t tb' n.count

        abbrev names : Names
        names = record { class = n.class; name = n.name; resource = tag }

        module _ (f : Build) (g : Stage t out m st tb p f) where
          same_strings : 0 < length out → U ≡ S
          same_strings Some-out = entered.table few ∙ known_first this behind S (ap (λ (xs : List Lexeme). table_behind xs S) (sym this_first) ∙ g.known Some-out) h.enterable.rising

          -- the tree is shown with the new table
          shown : Shows U (word_for r.kind p.machine.building) m out f
          unfolding word_for
          shown = go (eqb r.kind left_square) refl
            where
              no_more : r.kind ≡ left_square → U ≡ S
              no_more e = entered.table few ∙ ap (λ (y : tokens.Token). entered_all (strings_of y) S) (token_mark t r (omega arith)) ∙ no_strings r.kind S

              go : (b : Bool) → eqb r.kind left_square ≡ b → Shows U (pick b p.machine.building (without_word p.machine.building)) m out f
              go true e = subst (λ (T : List (List ℕ)). Shows T p.machine.building m out f) (sym (no_more (eqb-true r.kind left_square e))) g.shows
              go false e = other_table S U (without_word p.machine.building) m out f same_strings refl (word_forgotten S p.machine.building m out f g.shows)

          pub standing : Standing types st m out s p.machine.top r names U f this
          standing =
              record {
                shows = subst (λ (b : Building). Shows U b m out f) (sym is) shown;
                carried = entered.carried few types tag tagged;
                kept = g.kept;
                words = subst (λ (b : Building). WordFor r.kind (symbols_of st p) b) (sym is) (words_for r.kind (symbols_of st p) p.machine.building g.words);
                low = omega (arith, g.low, ap (λ (b : Building). b.fill) is, same_fill r.kind p.machine.building);
              }

        -- the step may be made
        pub steppable : SteppableAt types st m out s p.machine.top r names
        steppable = record { table = U; tree = h.tree; token = this; standing = standing h.tree h.stage; slots = h.slots; room = h.room; place = omega (arith, found.forward, found.high, h.short) }

        module _ (a : Option Machine) (st' m' out' : List ℕ) (steps : StepsAt types r names s p.machine.top st m out a st' m' out') where
          -- the token may not stand there
          pub stuck_refused : a ≡ None → (f : Build) → Stage t out m st tb p f → TokenRefused types t st tb p f r.start
          unfolding StepsAt TakenSo
          stuck_refused e f g =
              let stays : StepsAt types r names s p.machine.top st m out None st' m' out' = subst (λ (b : Option Machine). StepsAt types r names s p.machine.top st m out b st' m' out') e steps in
              refused_at f this behind this_first refl (is_stuck (stays U f this (standing f g)))

          module _ (machine : Machine) (e : a ≡ Some machine) (next : Pass) (is-next : next ≡ pass_behind r machine n.count) (f : Build) (g : Stage t out m st tb p f) where
            taken : TokenTaken types t st tb p f (pass_behind r machine n.count) out' m' st' tb' behind
            unfolding StepsAt TakenSo
            taken =
                let goes : StepsAt types r names s p.machine.top st m out (Some machine) st' m' out' = subst (λ (b : Option Machine). StepsAt types r names s p.machine.top st m out b st' m' out') e steps in
                let w = goes U f this (standing f g) in
                let room = h.enterable.room in
                let size = entered.size in
                record {
                  token = this;
                  first = this_first;
                  tree = w.tree;
                  stepped = w.is;
                  shows = w.shows;
                  words = w.words;
                  entered = entered.table few;
                  enterable = record { rising = entered.rising; small = few; room = omega arith };
                  at_end_lem = λ k. rw (eq-eqb r.kind end_of_text (sym (standing f g).carried.same_kind ∙ k));
                  within = found.high;
                  line_bound = found.line_behind_bound;
                }

            -- it was the end
            pub taken_last : r.kind ≡ end_of_text → TokenTaken types t st tb p f next out' m' st' tb' []
            taken_last k = rw is-next (rw (eq-eqb r.kind end_of_text k) at taken)

            -- more tokens follow
            pub taken_on : (r.kind ≡ end_of_text → ⊥) → TokenTaken types t st tb p f next out' m' st' tb' (tokens_left t next) × (p.at < next.at)
            taken_on k = rw is-next (rw (ne_eqb r.kind end_of_text k) at taken, omega (arith, found.low, found.some_byte k formed))
