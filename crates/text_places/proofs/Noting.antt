-- A text read with the log: each token that is taken is noted, as the log of the text says. Assumes nothing.
use mathlib.Core.Path.{◌≡◌, refl, sym, ap, subst, ◌∙◌}
use mathlib.Core.Bool.{Bool, true, false}
use mathlib.Core.List.{List, [], ◌∷◌, ◌++◌}
use Prim.Native.Nat.{ℕ, ◌-◌, ◌*◌, ◌≤◌, ◌<◌}
use native.Mathlib.Omega.{arith}
use borrow.Author.Tests.{eqb-true, eqb-false}
use lib.Dec.{eqb}
use lib.ListN.{length}
use Rattle.rules.specs.Bytes.{byte, pick}
use Rattle.rules.specs.EditRule.{IsBytes}
use Rattle.rules.specs.Types.{Types}
use Rattle.notation.specs.Tokens as tokens
use Rattle.notation.specs.Tokens.{Lexeme, lexeme, top_variable, class_variable, mark, kind, token_of, place_of, a_word, a_number, a_text, a_variable, a_qualified, end_of_text, malformed}
use Rattle.notation.specs.Lexing.{tokens as tokens_of}
use Rattle.notation.specs.Building.{Build, start}
use Rattle.notation.specs.Grammar.{Symbol, to, step, manifest}
use Rattle.notation.specs.Convert.{text_items}
use Rattle.lexer.specs.declared.Token.{Token}
use Rattle.lexer.specs.Found.{tokens_from, token_in, Found}
use Rattle.interner.specs.Table.{listed, strings}
use Rattle.parse_table.specs.Codes.{symbol_of}
use Rattle.parse_table.specs.Stack.{stack_of, Pushed}
use Rattle.parse_table.proofs.Answers.{manifest_coded, on_top, stack_length}
use Rattle.parse_table.proofs.Bound.{Kept, stack_bound}
use Rattle.tree_builder.specs.declared.Building.{Building}
use Rattle.tree_builder.specs.Shows.{Shows}
use Rattle.tree_builder.proofs.Ready.{ready}
use Rattle.parser.specs.declared.text.Pass.{Pass}
use Rattle.parser.specs.declared.text.Read.{Read}
use Rattle.parser.specs.declared.text.Read.TheVariants.{On, Done}
use Rattle.parser.specs.Reading.{tokens_left, symbols_of, strings_so_far, TokenTaken, ReadSo, ReadsToken, Begun, Readable, TextRead}
use Rattle.parser.proofs.TextRead.{Along, going_first, answer, filled_next, going_next, along_next, whole_read, refused_read}
use Rattle.text_places.specs.Marks.{start_of, body_of, size_of}
use Rattle.text_places.specs.Log.{Insertion, is_operator, sort, top_before_parts, noted, logged, text_log, noted_by, log_in, Notable, Noted}
use Rattle.text_places.specs.Places.{TextNoted}
use Rattle.std.specs.Prelude.{Some, None, Result as CodeResult, Ok, Err}
use Rattle.text_places.proofs.TextLeads.{refused_not_done}
use Rattle.text_places.proofs.MarkedBytes.{shown_start, shown_body, shown_size}

-- ---- The token in hand

chosen : (n k : ℕ) (x y : tokens.Token) → (n ≡ k → kind x ≡ n) → kind y ≡ n → kind (pick (eqb n k) x y) ≡ n
chosen n k x y a b = go (eqb n k) refl
  where
    go : (c : Bool) → eqb n k ≡ c → kind (pick c x y) ≡ n
    go true e = a (eqb-true n k e)
    go false e = b

kind_in : (t : List ℕ) (r : Token) → kind (token_in t r) ≡ r.kind
unfolding token_in
kind_in t r =
    chosen r.kind a_word _ _ (λ e. sym e)
    (chosen r.kind a_number _ _ (λ e. sym e)
    (chosen r.kind a_text _ _ (λ e. sym e)
    (chosen r.kind a_variable _ _ (λ e. sym e) (chosen r.kind a_qualified _ _ (λ e. qualified (eqb r.class_end 0) _ _ _ ∙ sym e) refl))))
  where
    qualified : (b : Bool) (n c m : List ℕ) → kind (pick b (top_variable n) (class_variable c m)) ≡ a_qualified
    qualified true n c m = refl
    qualified false n c m = refl

same_first : {x y : Lexeme} {xs ys : List Lexeme} → x ∷ xs ≡ y ∷ ys → x ≡ y
same_first e = cc

-- what is found is the first token left
pub record Hand (r : Token) (x : Lexeme) : Type 0 where
  pub place : place_of x ≡ r.start
  pub kind_is : kind (token_of x) ≡ r.kind

in_hand : (r : Token) (x : Lexeme) (y : tokens.Token) → lexeme r.start r.line y ≡ x → kind y ≡ r.kind → Hand r x
in_hand r x y e k = record { place = ap place_of (sym e); kind_is = ap (λ (z : Lexeme). kind (token_of z)) (sym e) ∙ k }

pub found_first : (t : List ℕ) (at line : ℕ) (o : Bool) (r : Token) (x : Lexeme) (xs : List Lexeme) → Found t at line o r → tokens_from t at line o ≡ x ∷ xs → Hand r x
found_first t at line o r x xs f e = go (eqb r.kind end_of_text) refl (eqb r.kind malformed) refl
  where
    go : (a : Bool) → eqb r.kind end_of_text ≡ a → (b : Bool) → eqb r.kind malformed ≡ b → Hand r x
    go true i b j = let k = eqb-true r.kind end_of_text i in in_hand r x (mark end_of_text) (same_first (sym (f.at_end k) ∙ e)) (sym k)
    go false i true j = let k = eqb-true r.kind malformed j in in_hand r x (mark malformed) (same_first (sym (f.at_fault k).begins ∙ e)) (sym k)
    go false i false j = in_hand r x (token_in t r) (same_first (sym (f.first (eqb-false r.kind end_of_text i) (eqb-false r.kind malformed j)) ∙ e)) (kind_in t r)

-- ---- The loop

-- behind some tokens: the log so far goes on to that of the text
pub record Noting (types : Types) (t out₀ m₀ st₀ tb₀ log₀ out m st tb log : List ℕ) (p : Pass) (entries : ℕ) : Type 0 where
  pub along : Along types t (strings t tb₀ 0) out₀ m₀ st₀ tb₀ out m st tb p
  pub so_far : List Insertion
  pub same_log : text_log types t ≡ logged types (tokens_left t p) (symbols_of st p) along.going.ready.tree so_far
  pub count : length so_far ≡ entries
  pub written : 8 * entries ≤ length log → log_in log entries ≡ so_far
  pub few : entries ≤ p.at
  pub size : length log ≡ length log₀

logged_on : (types : Types) (x : Lexeme) (xs : List Lexeme) (k : List Symbol) (f : Build) (k' : List Symbol) (g : Build) (l : List Insertion) → step types k x f ≡ to k' g → logged types (x ∷ xs) k f l ≡ logged types xs k' g (noted k x f g l)
unfolding logged
logged_on types x xs k f k' g l e = rw (logged, e)

logged_none : (types : Types) (k : List Symbol) (f : Build) (l : List Insertion) → logged types [] k f l ≡ l
unfolding logged
logged_none types k f l = refl

-- what is noted by the states is what is to be noted by the trees
noted_so_lem : (k : List Symbol) (x : Lexeme) (f g : Build) (y q p : ℕ) (s r : Building) (l : List Insertion) → top_before_parts k ≡ eqb (sort (symbol_of y)) 1 → kind (token_of x) ≡ q → place_of x ≡ p
    → s.fill ≡ size_of f → s.body ≡ body_of f → r.fill ≡ size_of g → r.start ≡ start_of g → noted_by y q p s r l ≡ noted k x f g l
unfolding noted noted_by
noted_so_lem k x f g y q p s r l top kinds places a b c d = rw (a, b, c, d, sym top, sym kinds, sym places)

module _ (types : Types) (t out₀ m₀ st₀ tb₀ log₀ out m st tb log : List ℕ) (p : Pass) (entries : ℕ) (g : Noting types t out₀ m₀ st₀ tb₀ log₀ out m st tb log p entries)
    (r : Token) (found : Found t p.at p.line p.operand r) (y : ℕ) (top : top_before_parts (symbols_of st p) ≡ eqb (sort (symbol_of y)) 1) where
  abbrev f : Build
  f = g.along.going.ready.tree

  abbrev s : Building
  s = p.machine.building

  -- a token is taken
  module _ (next : Pass) (out' m' st' tb' : List ℕ) (rest : List Lexeme) (w : TokenTaken types t st tb p f next out' m' st' tb' rest) where
    taken_notable : Notable entries r.start s next.machine.building
    taken_notable =
        let pass = g.along.going.ready in
        record {
          few = omega (arith, g.few, pass.within, pass.short);
          small = omega (arith, found.forward, found.high, pass.short);
          ready = ready (strings_so_far t tb p) s m out f (omega (arith, pass.stage.low)) pass.stage.shows;
          ready_behind = ready (strings_so_far t tb' next) next.machine.building m' out' w.tree
              (omega (arith, filled_next types t (strings t tb₀ 0) out m st tb p g.along.going next out' m' st' tb' rest w, pass.within, pass.short)) w.shows;
        }

    -- the log with what the token inserted
    abbrev longer : List Insertion
    longer = noted (symbols_of st p) w.token f w.tree g.so_far

    longer_so : noted_by y r.kind r.start s next.machine.building g.so_far ≡ longer
    longer_so =
        let hand = found_first t p.at p.line p.operand r w.token rest found w.first in
        let here = g.along.going.ready.stage.shows in
        noted_so_lem (symbols_of st p) w.token f w.tree y r.kind r.start s next.machine.building g.so_far top hand.kind_is hand.place
        (shown_size (strings_so_far t tb p) s m out f here) (shown_body (strings_so_far t tb p) s m out f here) (shown_size (strings_so_far t tb' next) next.machine.building m' out' w.tree w.shows) (shown_start (strings_so_far t tb' next) next.machine.building m' out' w.tree w.shows)

    taken_log : text_log types t ≡ logged types rest (symbols_of st' next) w.tree longer
    taken_log = g.same_log ∙ ap (λ (ys : List Lexeme). logged types ys (symbols_of st p) f g.so_far) w.first ∙ logged_on types w.token rest (symbols_of st p) f (symbols_of st' next) w.tree g.so_far w.stepped

    module _ {log' : List ℕ} {e : ℕ} (n : Noted log log' entries e (noted_by y r.kind r.start s next.machine.building)) where
      taken_count : length longer ≡ e
      taken_count = ap length (sym longer_so) ∙ n.count g.so_far g.count

      taken_written : 8 * e ≤ length log' → log_in log' e ≡ longer
      taken_written room = n.is room ∙ ap (noted_by y r.kind r.start s next.machine.building) (g.written (omega (arith, n.no_less, n.size))) ∙ longer_so

  -- what reading the token answers
  module _ (a : CodeResult Read ℕ) (out' m' st' tb' : List ℕ) (reads : ReadsToken types t out m st tb p a out' m' st' tb') where
    unfoldable told : (b : CodeResult Read ℕ) → a ≡ b → ReadSo types t st tb p f b out' m' st' tb'
    told = answer types t (strings t tb₀ 0) out₀ m₀ st₀ tb₀ out m st tb p g.along a out' m' st' tb' reads

    -- more tokens follow
    module _ (next : Pass) (i : a ≡ Ok (On next)) where
      pub next_notable : Notable entries r.start s next.machine.building
      unfolding ReadSo
      next_notable = taken_notable next out' m' st' tb' (tokens_left t next) (told (Ok (On next)) i).0

      pub next_noting : {log' : List ℕ} {e : ℕ} → length out' ≡ length out → length m' ≡ length m → length st' ≡ length st → length tb' ≡ length tb → Noted log log' entries e (noted_by y r.kind r.start s next.machine.building)
          → Noting types t out₀ m₀ st₀ tb₀ log₀ out' m' st' tb' log' next e
      unfolding ReadSo along_next going_next told
      next_noting out_size frames_size stack_size table_size n =
          let w = told (Ok (On next)) i in
          record {
            along = along_next types t (strings t tb₀ 0) out₀ m₀ st₀ tb₀ out m st tb p g.along a out' m' st' tb' reads next i out_size frames_size stack_size table_size;
            so_far = longer next out' m' st' tb' (tokens_left t next) w.0;
            same_log = taken_log next out' m' st' tb' (tokens_left t next) w.0;
            count = taken_count next out' m' st' tb' (tokens_left t next) w.0 n;
            written = taken_written next out' m' st' tb' (tokens_left t next) w.0 n;
            few = omega (arith, n.more, g.few, w.1);
            size = n.size ∙ g.size;
          }

    -- it was the end
    module _ (last : Pass) (i : a ≡ Ok (Done last)) where
      pub last_notable : Notable entries r.start s last.machine.building
      unfolding ReadSo
      last_notable = taken_notable last out' m' st' tb' [] (told (Ok (Done last)) i)

      pub whole_noted : {log' : List ℕ} {e : ℕ} → Noted log log' entries e (noted_by y r.kind r.start s last.machine.building) → TextNoted types t (Some (record { count = last.count; entries = e })) tb' log'
      unfolding ReadSo TextRead TextNoted text_items strings listed
      whole_noted {log'} {e} n =
          let w = told (Ok (Done last)) i in
          let whole = whole_read types t (strings t tb₀ 0) out₀ m₀ st₀ tb₀ out m st tb p g.along a out' m' st' tb' reads last i in
          let text_log_lem : text_log types t ≡ longer last out' m' st' tb' [] w = taken_log last out' m' st' tb' [] w ∙ logged_none types (symbols_of st' last) w.tree (longer last out' m' st' tb' [] w) in
          let pass = g.along.going.ready in
          record {
            table_is = whole.table_is;
            few = whole.few;
            entries_are = sym (ap length text_log_lem ∙ taken_count last out' m' st' tb' [] w n);
            low = omega (arith, n.more, g.few, pass.within, pass.short);
            log_is = λ room. taken_written last out' m' st' tb' [] w n room ∙ sym text_log_lem;
          }

    -- it may not stand there
    pub none_noted : (place : ℕ) → a ≡ Err place → (log' : List ℕ) → TextNoted types t None tb' log'
    unfolding TextRead TextNoted text_items strings listed
    none_noted place i log' items e = refused_not_done (sym (refused_read types t (strings t tb₀ 0) out₀ m₀ st₀ tb₀ out m st tb p g.along a out' m' st' tb' reads place i).read ∙ e)

-- before the first token
first_log : (types : Types) (t st : List ℕ) (top : ℕ) → stack_of st top ≡ manifest → text_log types t ≡ logged types (tokens_from t 0 0 true) (stack_of st top) start []
unfolding text_log tokens_of
first_log types t st top e = ap (λ (k : List Symbol). logged types (tokens_from t 0 0 true) k start []) (sym e)

noting_first : (types : Types) (t out m st₀ st tb log : List ℕ) (top : ℕ) (s : Building) → IsBytes t → Readable t out m st₀ tb 0 → Pushed st₀ st 1 0x2c05 top → ((table : List (List ℕ)) (frames o : List ℕ) → Shows table s frames o start)
    → Noting types t out m st tb log out m st tb log (record { at = 0; line = 0; operand = true; machine = record { top = top; building = s }; count = 0 }) 0
unfolding going_first log_in
noting_first types t out m st₀ st tb log top s bytes h pushed fresh =
    let symbols : stack_of st top ≡ manifest = pushed.symbols ∙ (unfold stack_of in ap (λ (k : List Symbol). k ++ []) manifest_coded) in
    record {
      along = record { going = going_first types t out m st₀ st tb 0 top s h pushed fresh; bytes = bytes; out_size = refl; frames_size = refl; stack_size = refl; table_size = refl };
      so_far = [];
      same_log = first_log types t st top symbols;
      count = refl;
      written = λ room. refl;
      few = omega arith;
      size = refl;
    }

pub noting_begun : (types : Types) (t out m st₀ st tb log : List ℕ) (p : Pass) → IsBytes t → Readable t out m st₀ tb 0 → Begun st₀ st 0 p → Noting types t out m st tb log out m st tb log p 0
noting_begun types t out m st₀ st tb log p bytes h b =
    subst (λ (q : Pass). Noting types t out m st tb log out m st tb log q 0) (sym b.is) (noting_first types t out m st₀ st tb log b.top b.building bytes h b.pushed b.fresh)

-- ---- The symbol on top

pub no_top : (st : List ℕ) (top : ℕ) → top ≡ 0 → top_before_parts (stack_of st top) ≡ eqb (sort (symbol_of 0)) 1
unfolding stack_of symbol_of is_operator
no_top st top e = rw e

pub some_top : (st : List ℕ) (top : ℕ) → 0 < top → top_before_parts (stack_of st top) ≡ eqb (sort (symbol_of (byte st (top - 1)))) 1
some_top st top h = ap top_before_parts (on_top st top h)

pub top_within : (st : List ℕ) (p : Pass) (f : Build) → Kept (symbols_of st p) f → 468 ≤ length st → p.machine.top ≤ length st
top_within st p f kept room = omega (arith, stack_bound (symbols_of st p) f kept, stack_length st p.machine.top)
