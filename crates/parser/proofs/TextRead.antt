-- All tokens of a text, one after the other: what comes of those that are left comes of all. Assumes nothing.
use mathlib.Core.Path.{◌≡◌, refl, sym, ◌∙◌, ap, subst}
use mathlib.Core.Bool.{Bool, true, false}
use mathlib.Core.List.{List, [], ◌∷◌}
use mathlib.Core.Option.{Option, none, some}
use native.Mathlib.Omega.{arith}
use lib.Dec.{ltb}
use lib.ListN.{length}
use borrow.Author.Tests.{le-ltb, lt-ltb}
use Prim.Native.Nat.{ℕ, ◌+◌, ◌-◌, ◌*◌, ◌≤◌, ◌<◌, min}
use Rattle.values.specs.declared.Reason.TheVariants.{OutsideNotation}
use Rattle.rules.specs.Bytes.{pick}
use Rattle.rules.specs.EditRule.{IsBytes}
use Rattle.rules.specs.Fields.{write}
use Rattle.rules.specs.Outcome.{refused, done}
use Rattle.rules.specs.Ranges.{Each, none_left, also}
use Rattle.rules.specs.Types.{Types}
use Rattle.notation.specs.Tokens.{Lexeme, kind, token_of, place_of}
use Rattle.notation.specs.Lexing.{tokens}
use Rattle.notation.specs.Building.{Nodes, frame, Build, build, start}
use Rattle.notation.specs.Grammar.{Symbol, manifest, Stepped, stuck, to, step, Ended, built, fault, run, reading}
use Rattle.notation.specs.Convert.{strings_of, entered_all, table_behind, crowded_at, head_bytes, numbered, read_text}
use Rattle.notation.proofs.NeedsKept.{none_not_some}
use Rattle.lexer.proofs.LastToken.{Ending, at_fault, at_end, before, tokens_end, tokens_behind}
use Rattle.interner.specs.Table.{strings}
use Rattle.interner.proofs.Keeping.{strings_counted}
use Rattle.parse_table.specs.Stack.{stack_of, Pushed}
use Rattle.parse_table.proofs.Answers.{manifest_coded}
use Rattle.parse_table.proofs.Bound.{start_kept, step_kept}
use Rattle.tree_builder.specs.declared.Building.{Building}
use Rattle.tree_builder.specs.Open.{opening, parts_bytes, around_bytes, head_end, open_bytes}
use Rattle.tree_builder.specs.Shows.{Shows}
use Rattle.tree_builder.proofs.Whole.{items_late, items_length, items_bytes}
use Rattle.parser.specs.declared.text.Pass.{Pass}
use Rattle.std.specs.Prelude.{Result as CodeResult, Ok, Err}
use Rattle.parser.specs.declared.text.Read.{Read}
use Rattle.parser.specs.declared.text.Read.TheVariants.{On, Done}
use Rattle.parser.specs.declared.text.Whole.{Whole}
use Rattle.parser.specs.Stepping.{WordOnTop}
use Rattle.parser.specs.Reading.{tokens_left, symbols_of, strings_so_far, Passable, TokenTaken, Barred, is_malformed, is_stuck, is_crowded, TokenRefused, ReadSo, ReadsToken, Begun, Readable, ReadWhole, ReadFault, TextRead}
use Rattle.parser.proofs.OtherTable.{open_same}
use Rattle.parser.proofs.StepSize.{debt, debt_first, size, step_size, filled_so, step_room}
use Rattle.parser.proofs.OutermostHead.{outermost}
use Rattle.parser.proofs.StackEnd.{ToEnd, first_to_end, not_stuck, fault_stuck, end_last, step_to_end}
use Rattle.parser.proofs.TokenRead.{known_first}

-- ---- Faults and crowding lie no further back than the tokens

fault_same : {p q : ℕ} → fault p ≡ fault q → p ≡ q
fault_same e = cc

built_not_fault : {A : Type 0} {f : Build} {p : ℕ} → built f ≡ fault p → A
built_not_fault e = let z : ◌≡◌ {A = ℕ} 0 1 = cc in absurd (omega arith)

some_tokens : {A : Type 0} {x : Lexeme} {xs : List Lexeme} → x ∷ xs ≡ [] → A
some_tokens e = let z : ◌≡◌ {A = ℕ} 0 1 = cc in absurd (omega arith)

-- a token in a run
run_stuck : (types : Types) (x : Lexeme) (xs : List Lexeme) (k : List Symbol) (f : Build) → step types k x f ≡ stuck → run types (x ∷ xs) k f ≡ fault (place_of x)
unfolding run
run_stuck types x xs k f e = rw (run, e)

run_on : (types : Types) (x : Lexeme) (xs : List Lexeme) (k : List Symbol) (f : Build) (k' : List Symbol) (g : Build) → step types k x f ≡ to k' g → run types (x ∷ xs) k f ≡ run types xs k' g
unfolding run
run_on types x xs k f k' g e = rw (run, e)

-- the end is reached
ended : (types : Types) (xs : List Lexeme) (k : List Symbol) (f : Build) → xs ≡ [] → k ≡ [] → run types xs k f ≡ built f
unfolding run
ended types xs k f e i = rw (e, i)

fault_behind : (types : Types) (n p : ℕ) {xs : List Lexeme} → Ending xs → Each (λ x. n ≤ place_of x) xs → (k : List Symbol) → ToEnd k → (f : Build) → run types xs k f ≡ fault p → n ≤ p
fault_behind types n p (at_fault {x} {xs} i) (also low lows) k to_end f e =
    let same = fault_same (sym (run_stuck types x xs k f (fault_stuck types x to_end f i)) ∙ e) in omega arith
fault_behind types n p (at_end {x} i) (also low lows) k to_end f e = go (step types k x f) refl
  where
    go : (o : Stepped) → step types k x f ≡ o → n ≤ p
    go stuck j = let same = fault_same (sym (run_stuck types x [] k f j) ∙ e) in omega arith
    go (to k' g) j =
        let none_left_lem : k' ≡ [] = end_last types x k' g to_end f i j in
        built_not_fault (sym (ended types [] k' g refl none_left_lem) ∙ sym (run_on types x [] k f k' g j) ∙ e)
fault_behind types n p (before {x} {xs} i later) (also low lows) k to_end f e = go (λ k' g t j. fault_behind types n p later lows k' t g j) (step types k x f) refl
  where
    go : ((k' : List Symbol) (g : Build) → ToEnd k' → run types xs k' g ≡ fault p → n ≤ p) → (o : Stepped) → step types k x f ≡ o → n ≤ p
    go on stuck j = let same = fault_same (sym (run_stuck types x xs k f j) ∙ e) in omega arith
    go on (to k' g) j = on k' g (step_to_end types x k' g to_end f i j) (sym (run_on types x xs k f k' g j) ∙ e)

-- whether a token brings one string too many
crowded_here : (x : Lexeme) (xs : List Lexeme) (S : List (List ℕ)) → 1024 < length (entered_all (strings_of (token_of x)) S) → crowded_at (x ∷ xs) S ≡ some (place_of x)
unfolding crowded_at
crowded_here x xs S h = rw (lt-ltb 1024 (length (entered_all (strings_of (token_of x)) S)) h)

not_crowded : (x : Lexeme) (xs : List Lexeme) (S : List (List ℕ)) → length (entered_all (strings_of (token_of x)) S) ≤ 1024 → crowded_at (x ∷ xs) S ≡ crowded_at xs (entered_all (strings_of (token_of x)) S)
unfolding crowded_at
not_crowded x xs S h = rw (crowded_at, le-ltb 1024 (length (entered_all (strings_of (token_of x)) S)) h)

crowd_behind : (n q : ℕ) {xs : List Lexeme} → Each (λ x. n ≤ place_of x) xs → (S : List (List ℕ)) → crowded_at xs S ≡ some q → n ≤ q
unfolding crowded_at
crowd_behind n q none_left S e = none_not_some e
crowd_behind n q (also {x = x} {xs = xs} low lows) S e = go (ltb 1024 (length T)) (λ j. crowd_behind n q lows T j) e
  where
    T : List (List ℕ)
    T = entered_all (strings_of (token_of x)) S

    go : (b : Bool) → (crowded_at xs T ≡ some q → n ≤ q) → ◌≡◌ {A = Option ℕ} (pick b (some (place_of x)) (crowded_at xs T)) (some q) → n ≤ q
    go true later j = let same : place_of x ≡ q = cc in omega arith
    go false later j = later j

-- ---- What comes of a fault

-- the machine's fault is first
fault_first : (p : ℕ) (o : Option ℕ) → ((q : ℕ) → o ≡ some q → p ≤ q) → read_text (fault p) o ≡ refused OutsideNotation p
unfolding read_text
fault_first p none h = refl
fault_first p (some q) h = let least : min p q ≡ p = omega (arith, h q refl) in rw least

-- the string is first
crowd_first : (e : Ended) (q : ℕ) → ((p : ℕ) → e ≡ fault p → q ≤ p) → read_text e (some q) ≡ refused OutsideNotation q
unfolding read_text
crowd_first (built (build b (frame p t h ks) fs)) q g = refl
crowd_first (fault p) q g = let least : min p q ≡ q = omega (arith, g p refl) in rw least

-- nothing is left
none_crowded : (xs : List Lexeme) (S : List (List ℕ)) → xs ≡ [] → crowded_at xs S ≡ none
unfolding crowded_at
none_crowded xs S e = rw e

none_entered : (xs : List Lexeme) (S : List (List ℕ)) → xs ≡ [] → table_behind xs S ≡ S
unfolding table_behind
none_entered xs S e = rw e

outcome_of : (types : Types) (t : List ℕ) (S : List (List ℕ)) (ks : Nodes) → reading types (tokens t) ≡ built (build 0 (frame 0 0 [] ks) []) → crowded_at (tokens t) S ≡ none → read_text (reading types (tokens t)) (crowded_at (tokens t) S) ≡ done ks
unfolding read_text
outcome_of types t S ks e i = rw (e, i)

pub no_tokens : {A : Type 0} {xs : List Lexeme} → Ending xs → xs ≡ [] → A
no_tokens (at_fault {x} {xs} i) e = some_tokens e
no_tokens (at_end {x} i) e = some_tokens e
no_tokens (before {x} {xs} i later) e = some_tokens e

-- ---- The loop

-- behind some tokens: what comes of the others comes of the text
pub record Going (types : Types) (t : List ℕ) (S₀ : List (List ℕ)) (out m st tb : List ℕ) (p : Pass) : Type 0 where
  pub ready : Passable t out m st tb p
  pub to_end : ToEnd (symbols_of st p)
  pub filled : p.machine.building.fill + debt (symbols_of st p) ≤ 15 * p.at
  pub same_run : reading types (tokens t) ≡ run types (tokens_left t p) (symbols_of st p) ready.tree
  pub same_crowd : crowded_at (tokens t) S₀ ≡ crowded_at (tokens_left t p) (strings_so_far t tb p)
  pub same_table : table_behind (tokens t) S₀ ≡ table_behind (tokens_left t p) (strings_so_far t tb p)

-- in the code: with the lengths of the slices as they were, and a text of bytes
pub record Along (types : Types) (t : List ℕ) (S₀ : List (List ℕ)) (out₀ m₀ st₀ tb₀ out m st tb : List ℕ) (p : Pass) : Type 0 where
  pub going : Going types t S₀ out m st tb p
  pub bytes : IsBytes t
  pub out_size : length out ≡ length out₀
  pub frames_size : length m ≡ length m₀
  pub stack_size : length st ≡ length st₀
  pub table_size : length tb ≡ length tb₀

-- before the first token
pub nothing_filled : (types : Types) (S : List (List ℕ)) → size types S start ≡ 0
unfolding open_bytes head_end around_bytes opening parts_bytes head_bytes numbered write
nothing_filled types S = refl

unfoldable pub going_first : (types : Types) (t out m st₀ st tb : List ℕ) (count top : ℕ) (s : Building) → Readable t out m st₀ tb count → Pushed st₀ st 1 0x2c05 top → ((table : List (List ℕ)) (frames o : List ℕ) → Shows table s frames o start)
    → Going types t (strings t tb count) out m st tb (record { at = 0; line = 0; operand = true; machine = record { top = top; building = s }; count = count })
unfolding tokens reading stack_of WordOnTop
going_first types t out m st₀ st tb count top s h pushed fresh =
    let symbols : stack_of st top ≡ manifest = pushed.symbols ∙ ap (λ (k : List Symbol). k) (rw manifest_coded) in
    let S : List (List ℕ) = strings t tb count in
    let empty : s.fill ≡ 0 = filled_so types S s m out start (fresh S m out) ∙ nothing_filled types S in
    let few : top ≤ 8 = pushed.few in
    record {
      ready = record {
        tree = start;
        stage = record {
          shows = fresh S m out;
          kept = rw symbols start_kept;
          words = rw symbols (λ e. none_word e, refl);
          low = omega arith;
          known = h.known;
        };
        short = h.short;
        slots = h.slots;
        room = omega (arith, h.room, pushed.size);
        enterable = h.enterable;
        within = omega arith;
        line_bound = omega arith;
      };
      to_end = rw symbols first_to_end;
      filled = omega (arith, ap debt symbols, debt_first);
      same_run = rw symbols;
      same_crowd = refl;
      same_table = refl;
    }
  where
    none_word : {A : Type 0} → ◌≡◌ {A = Bool} false true → A
    none_word e = let z : ◌≡◌ {A = ℕ} 0 1 = cc in absurd (omega arith)

pub going_begun : (types : Types) (t out m st₀ st tb : List ℕ) (count : ℕ) (p : Pass) → Readable t out m st₀ tb count → Begun st₀ st count p → Going types t (strings t tb count) out m st tb p
going_begun types t out m st₀ st tb count p h b = subst (Going types t (strings t tb count) out m st tb) (sym b.is) (going_first types t out m st₀ st tb count b.top b.building h b.pushed b.fresh)

module _ (types : Types) (t : List ℕ) (S₀ : List (List ℕ)) (out m st tb : List ℕ) (p : Pass) (g : Going types t S₀ out m st tb p) where
  abbrev xs : List Lexeme
  xs = tokens_left t p

  abbrev S : List (List ℕ)
  S = strings_so_far t tb p

  abbrev f : Build
  f = g.ready.tree

  -- ---- The first token left is refused

  pub text_refused : (place : ℕ) → TokenRefused types t st tb p f place → ReadFault types t S₀ place
  text_refused place w = record { read = same ∙ go w.barred; low = w.small }
    where
      same : read_text (reading types (tokens t)) (crowded_at (tokens t) S₀) ≡ read_text (run types xs (symbols_of st p) f) (crowded_at xs S)
      same = ap (λ (e : Ended). read_text e (crowded_at (tokens t) S₀)) g.same_run ∙ ap (read_text (run types xs (symbols_of st p) f)) g.same_crowd

      behind : Each (λ x. place ≤ place_of x) xs
      behind = subst (Each (λ x. place ≤ place_of x)) (sym w.same_tokens) (tokens_behind t place w.line p.operand)

      stuck_here : step types (symbols_of st p) w.token f ≡ stuck → read_text (run types xs (symbols_of st p) f) (crowded_at xs S) ≡ refused OutsideNotation place
      stuck_here e =
          let faulty : run types xs (symbols_of st p) f ≡ fault place = ap (λ (ys : List Lexeme). run types ys (symbols_of st p) f) w.first ∙ run_stuck types w.token w.rest (symbols_of st p) f e ∙ ap fault w.place_of_lem in
          ap (λ (e : Ended). read_text e (crowded_at xs S)) faulty ∙ fault_first place (crowded_at xs S) (λ q i. crowd_behind place q behind S i)

      go : Barred types (symbols_of st p) w.token f S → read_text (run types xs (symbols_of st p) f) (crowded_at xs S) ≡ refused OutsideNotation place
      go (is_malformed e) = stuck_here (fault_stuck types w.token g.to_end f e)
      go (is_stuck e) = stuck_here e
      go (is_crowded over) =
          let full : crowded_at xs S ≡ some place = ap (λ (ys : List Lexeme). crowded_at ys S) w.first ∙ crowded_here w.token w.rest S over ∙ ap some w.place_of_lem in
          ap (read_text (run types xs (symbols_of st p) f)) full ∙ crowd_first (run types xs (symbols_of st p) f) place (λ q i. fault_behind types place q (tokens_end t p.at p.line p.operand) behind (symbols_of st p) g.to_end f i)

  -- ---- The first token left is taken

  module _ (next : Pass) (out' m' st' tb' : List ℕ) (rest : List Lexeme) (w : TokenTaken types t st tb p f next out' m' st' tb' rest) where
    abbrev U : List (List ℕ)
    U = strings_so_far t tb' next

    abbrev k' : List Symbol
    k' = symbols_of st' next

    pub run_next : reading types (tokens t) ≡ run types rest k' w.tree
    run_next = g.same_run ∙ ap (λ (ys : List Lexeme). run types ys (symbols_of st p) f) w.first ∙ run_on types w.token rest (symbols_of st p) f k' w.tree w.stepped

    few : length (entered_all (strings_of (token_of w.token)) S) ≤ 1024
    few = omega (arith, ap length w.entered, strings_counted t tb' next.count, w.enterable.small)

    pub crowd_next : crowded_at (tokens t) S₀ ≡ crowded_at rest U
    crowd_next = g.same_crowd ∙ ap (λ (ys : List Lexeme). crowded_at ys S) w.first ∙ not_crowded w.token rest S few ∙ ap (crowded_at rest) (sym w.entered)

    pub table_on : table_behind xs S ≡ table_behind rest U
    unfolding table_behind
    table_on = ap (λ (ys : List Lexeme). table_behind ys S) w.first ∙ ap (table_behind rest) (sym w.entered)

    same_size : (h : Build) → size types U h ≡ size types S h
    same_size (build b (frame q u i ks) fs) = open_same U S u i ks fs

    pub filled_next : next.machine.building.fill + debt k' ≤ 15 * p.at + 15
    filled_next =
        omega (arith, g.filled, filled_so types S p.machine.building m out f g.ready.stage.shows, filled_so types U next.machine.building m' out' w.tree w.shows, same_size w.tree, step_size types S (symbols_of st p) w.token f k' w.tree w.stepped)

    -- it was the end
    pub text_whole : IsBytes t → rest ≡ [] → ReadWhole types t S₀ out' tb' next.count next.machine.building.late next.machine.building.fill
    text_whole bytes none-behind =
        let no_symbol : k' ≡ [] = last_symbol (tokens_end t p.at p.line p.operand) (w.first ∙ ap (λ (ys : List Lexeme). w.token ∷ ys) none-behind) in
        let whole : reading types (tokens t) ≡ built w.tree = run_next ∙ ended types rest k' w.tree none-behind no_symbol in
        let all = outermost types t bytes w.tree whole in
        let shows : Shows U next.machine.building m' out' (build 0 (frame 0 0 [] all.nodes) []) = subst (Shows U next.machine.building m' out') all.same w.shows in
        record {
          items = all.nodes;
          read = outcome_of types t S₀ all.nodes (whole ∙ ap built all.same) (crowd_next ∙ none_crowded rest U none-behind);
          table_is = sym (g.same_table ∙ table_on ∙ none_entered rest U none-behind);
          rising = w.enterable.rising;
          few = w.enterable.small;
          late_is = items_late U next.machine.building m' out' 0 0 0 all.nodes shows;
          fill_is = items_length U next.machine.building m' out' 0 0 0 all.nodes shows;
          low = omega (arith, filled_next, g.ready.within, g.ready.short);
          written = λ fits are-bytes. items_bytes U next.machine.building m' out' 0 0 0 all.nodes shows are-bytes fits;
        }
      where
        last_symbol : {ys : List Lexeme} → Ending ys → ys ≡ w.token ∷ [] → k' ≡ []
        last_symbol (at_fault {x} {xs = zs} i) e = let same : x ≡ w.token = cc in not_stuck (sym (fault_stuck types w.token g.to_end f (ap (λ (y : Lexeme). kind (token_of y)) (sym same) ∙ i)) ∙ w.stepped)
        last_symbol (at_end {x} i) e = let same : x ≡ w.token = cc in end_last types w.token k' w.tree g.to_end f (ap (λ (y : Lexeme). kind (token_of y)) (sym same) ∙ i) w.stepped
        last_symbol (before {x} {xs = zs} i later) e = let none_left_lem : zs ≡ [] = cc in no_tokens later none_left_lem

    -- more tokens follow
    unfoldable pub going_next : rest ≡ tokens_left t next → p.at < next.at → length out' ≡ length out → length m' ≡ length m → length st' ≡ length st → Going types t S₀ out' m' st' tb' next
    going_next e forward out_size frames_size stack_size =
        let kept = step_kept types (symbols_of st p) w.token f k' w.tree w.stepped g.ready.stage.kept in
        let filled : next.machine.building.fill + debt k' ≤ 15 * next.at = omega (arith, filled_next) in
        record {
          ready = record {
            tree = w.tree;
            stage = record {
              shows = w.shows;
              kept = kept;
              words = w.words;
              low = step_room next.machine.building st' next.machine.top w.tree next.at kept filled (omega (arith, w.within, g.ready.short));
              known = λ Some-out. ap (λ (ys : List Lexeme). table_behind ys U) (sym e) ∙ known_still (omega arith);
            };
            short = g.ready.short;
            slots = omega (arith, g.ready.slots);
            room = omega (arith, g.ready.room);
            enterable = w.enterable;
            within = w.within;
            line_bound = w.line_bound;
          };
          to_end = step_to_end types w.token k' w.tree g.to_end f (λ i. no_tokens (tokens_end t next.at next.line next.operand) (sym e ∙ w.at_end_lem i)) w.stepped;
          filled = filled;
          same_run = run_next ∙ ap (λ (ys : List Lexeme). run types ys k' w.tree) e;
          same_crowd = crowd_next ∙ ap (λ (ys : List Lexeme). crowded_at ys U) e;
          same_table = g.same_table ∙ table_on ∙ ap (λ (ys : List Lexeme). table_behind ys U) e;
        }
      where
        known_still : 0 < length out → table_behind rest U ≡ U
        known_still Some-out =
            let known = g.ready.stage.known Some-out in
            let same : U ≡ S = w.entered ∙ known_first w.token rest S (ap (λ (ys : List Lexeme). table_behind ys S) (sym w.first) ∙ known) g.ready.enterable.rising in
            sym table_on ∙ known ∙ sym same

-- ---- In the code

-- what a text has whose last token led here
abbrev pub whole_of : Pass → Whole
whole_of last = record { count = last.count; late = last.machine.building.late; fill = last.machine.building.fill }

module _ (types : Types) (t : List ℕ) (S₀ : List (List ℕ)) (out₀ m₀ st₀ tb₀ out m st tb : List ℕ) (p : Pass) (g : Along types t S₀ out₀ m₀ st₀ tb₀ out m st tb p) where
  -- what reading a token answers
  module _ (a : CodeResult Read ℕ) (out' m' st' tb' : List ℕ) (reads : ReadsToken types t out m st tb p a out' m' st' tb') where
    pub answer : (b : CodeResult Read ℕ) → a ≡ b → ReadSo types t st tb p g.going.ready.tree b out' m' st' tb'
    answer b e = subst (λ (r : CodeResult Read ℕ). ReadSo types t st tb p g.going.ready.tree r out' m' st' tb') e (reads g.going.ready.tree g.going.ready.stage)

    pub forward : (next : Pass) → a ≡ Ok (On next) → length t - next.at < length t - p.at
    unfolding ReadSo
    forward next e = let w = answer (Ok (On next)) e in omega (arith, w.1, w.0.within)

    unfoldable pub along_next : (next : Pass) → a ≡ Ok (On next) → length out' ≡ length out → length m' ≡ length m → length st' ≡ length st → length tb' ≡ length tb → Along types t S₀ out₀ m₀ st₀ tb₀ out' m' st' tb' next
    unfolding ReadSo
    along_next next e out_size frames_size stack_size table_size =
        let w = answer (Ok (On next)) e in
        record {
          going = going_next types t S₀ out m st tb p g.going next out' m' st' tb' (tokens_left t next) w.0 refl w.1 out_size frames_size stack_size;
          bytes = g.bytes;
          out_size = out_size ∙ g.out_size;
          frames_size = frames_size ∙ g.frames_size;
          stack_size = stack_size ∙ g.stack_size;
          table_size = table_size ∙ g.table_size;
        }

    pub whole_read : (last : Pass) → a ≡ Ok (Done last) → TextRead types t S₀ (Ok (whole_of last)) out' tb'
    unfolding ReadSo TextRead
    whole_read last e = text_whole types t S₀ out m st tb p g.going last out' m' st' tb' [] (answer (Ok (Done last)) e) g.bytes refl

    pub refused_read : (place : ℕ) → a ≡ Err place → TextRead types t S₀ (Err place) out' tb'
    unfolding ReadSo TextRead
    refused_read place e = text_refused types t S₀ out m st tb p g.going place (answer (Err place) e)
