-- The symbol on top takes the token: its actions may be done, and what they and the row's symbols make is the machine's step. Assumes nothing.
use mathlib.Core.Path.{◌≡◌, refl, sym, ◌∙◌, ap, subst}
use mathlib.Core.Bool.{Bool, true, false, not, ◌&&◌, ◌||◌}
use mathlib.Core.List.{List, [], ◌∷◌, ◌++◌}
use mathlib.Core.Option.{some}
use native.Mathlib.Omega.{arith}
use lib.Dec.{eqb}
use lib.ListN.{length}
use borrow.Author.Tests.{eqb-true, eqb-false}
use Prim.Native.Nat.{ℕ, zero, suc, ◌+◌, ◌-◌, ◌*◌, ◌/◌, ◌%◌, ◌^◌, ◌≤◌, ◌<◌}
use Rattle.rules.specs.Bytes.{byte, pick}
use Rattle.rules.proofs.Lists.{both_left, both_right}
use Rattle.rules.proofs.Within.{false_not_true}
use Rattle.rules.specs.Types.{Types}
use Rattle.lexer.specs.declared.Token.{Token}
use Rattle.notation.specs.Tokens.{Lexeme, kind, token_of, a_word}
use Rattle.notation.specs.Building.{Build, Action, instead, acts}
use Rattle.notation.specs.Grammar.{Symbol, row, row_of, to, toward, step}
use Rattle.tree_builder.specs.declared.Building.{Building}
use Rattle.tree_builder.specs.Shows.{IsWord}
use Rattle.parse_table.specs.Codes.{symbol_of, symbols_in, action_of, actions_from, actions_in}
use Rattle.parse_table.specs.Stack.{stack_of, Pushed}
use Rattle.parse_table.specs.declared.rows.Row.{Row}
use Rattle.parse_table.proofs.Answers.{first_action, no_action_lem, on_top, push_room}
use Rattle.parser.specs.declared.actions.Names.{Names}
use Rattle.parser.specs.Doing.{filled, AllAnswered, is_instead, no_instead, only_constant, WordsRead, DoesAllAt, StandsAt}
use Rattle.parser.specs.Stepping.{is_read_or_word, none_behind_word, WordOnTop, WordFor, TakenSo, SteppableAt, StepsAt, TakenRow}
use Rattle.parser.proofs.Sequence.{nine_instead}
use Rattle.parser.proofs.RowFacts.{fits, all_fit, instead_first, word_first, row_fits, row_fits_lem, suits_all}
use Rattle.std.specs.Prelude.{Option, Some, None}

-- at most four actions
filled_by : (b n x : ℕ) → filled n (actions_from b x) ≤ n + 12 * b
unfolding actions_from
filled_by zero n x = omega arith
filled_by (suc b) n x = go (eqb x 0) (filled_by b (n + 12) (x / 256))
  where
    go : (c : Bool) → filled (n + 12) (actions_from b (x / 256)) ≤ n + 12 + 12 * b → filled n (pick c [] (action_of (x % 256) ∷ actions_from b (x / 256))) ≤ n + 12 * suc b
    go true h = omega arith
    go false h = omega arith

filled_four : (n x : ℕ) → filled n (actions_in x) ≤ n + 48
unfolding actions_in
filled_four n x = omega (arith, filled_by 4 n x)

-- where the first action puts a name in the place of a constant, the symbol is the one behind a word; no other one does
or_else : (b c : Bool) → b ≡ true → (not b || c) ≡ true → c ≡ true
or_else true c e h = h
or_else false c e h = false_not_true e

first_instead : (y : Symbol) (n : ℕ) → n < 2 ^ 32 → instead_first y (actions_in n) ≡ true → (n % 256 ≡ 9 → is_read_or_word y ≡ true) × (no_instead (actions_in (n / 256)) ≡ true)
first_instead y n small h = go (eqb n 0) refl
  where
    go : (b : Bool) → eqb n 0 ≡ b → (n % 256 ≡ 9 → is_read_or_word y ≡ true) × (no_instead (actions_in (n / 256)) ≡ true)
    go true e =
        let zero_left : n ≡ 0 = eqb-true n 0 e in
        let none_left : n / 256 ≡ 0 = omega arith in
        (λ nine. absurd (omega arith), ap (λ (i : ℕ). no_instead (actions_in i)) none_left ∙ ap no_instead no_action_lem)
    go false e =
        let a = action_of (n % 256) in
        let ds = actions_in (n / 256) in
        let parts : ((not (is_instead a) || is_read_or_word y) && no_instead ds) ≡ true = sym (ap (instead_first y) (first_action n small (eqb-false n 0 e))) ∙ h in
        (λ nine. or_else (is_instead a) (is_read_or_word y) (nine_instead (n % 256) nine) (both_left (not (is_instead a) || is_read_or_word y) (no_instead ds) parts), both_right (not (is_instead a) || is_read_or_word y) (no_instead ds) parts)

-- and the token is a square bracket
instead_kind : (k n : ℕ) → n < 2 ^ 32 → all_fit k (actions_in n) ≡ true → n % 256 ≡ 9 → k ≡ 11
instead_kind k n small h nine =
    let some_left : n ≡ 0 → ⊥ = λ z. omega arith in
    let a = action_of (n % 256) in
    let first = both_left (fits k a) (all_fit k (actions_in (n / 256))) (sym (ap (all_fit k) (first_action n small some_left)) ∙ h) in
    let is_nine : action_of 9 ≡ instead 0x18 = unfold action_of in refl in
    go (eqb k 11) refl (sym (ap (fits k) (ap action_of nine ∙ is_nine)) ∙ first)
  where
    go : (b : Bool) → eqb k 11 ≡ b → (b || false) ≡ true → k ≡ 11
    go true e i = eqb-true k 11 e
    go false e i = false_not_true i

-- a step by a row
pub step_taken : (types : Types) (y : Symbol) (k : List Symbol) (x : Lexeme) (f : Build) (ds : List Action) (ss : List Symbol) → row_of y (kind (token_of x)) ≡ some (row ds ss) → step types (y ∷ k) x f ≡ toward (ss ++ k) (acts types ds x f)
unfolding step acts
step_taken types y k x f ds ss e = rw (step, e)

-- no symbol behind a word among two lists
none_both : (ss k : List Symbol) → none_behind_word ss ≡ true → none_behind_word k ≡ true → none_behind_word (ss ++ k) ≡ true
none_both [] k a b = b
none_both (y ∷ ss) k a b = rw (both_left (not (is_read_or_word y)) (none_behind_word ss) a) (none_both ss k (both_right (not (is_read_or_word y)) (none_behind_word ss) a) b)

not_it : (b : Bool) {A : Type 0} → not b ≡ true → b ≡ true → A
not_it true e i = false_not_true e
not_it false e i = false_not_true i

-- the new stack has it only on top, and only where a word was read
pub words_after : (q : ℕ) (ds : List Action) (ss k : List Symbol) (s : Building) → word_first q ds ss ≡ true → none_behind_word k ≡ true → (only_constant ds ≡ true → q ≡ a_word → s.word ≡ true) → WordOnTop (ss ++ k) s
unfolding WordOnTop
words_after q ds [] [] s w n h = tt
words_after q ds [] (y ∷ k) s w n h = (λ e. not_it (is_read_or_word y) (both_left (not (is_read_or_word y)) (none_behind_word k) n) e, both_right (not (is_read_or_word y)) (none_behind_word k) n)
words_after q ds (y ∷ ss) k s w n h =
    let first = both_left (not (is_read_or_word y) || (only_constant ds && eqb q a_word)) (none_behind_word ss) w in
    let others = both_right (not (is_read_or_word y) || (only_constant ds && eqb q a_word)) (none_behind_word ss) w in (
      λ e.
          let both = or_else (is_read_or_word y) (only_constant ds && eqb q a_word) e first in
          h (both_left (only_constant ds) (eqb q a_word) both) (eqb-true q a_word (both_right (only_constant ds) (eqb q a_word) both)),
      none_both ss k others n,
    )

module _ (types : Types) (st m out : List ℕ) (s : Building) (top : ℕ) (t : Token) (ns : Names) (w : Row) (q : TakenRow st top t w) where
  abbrev top_symbol : Symbol
  top_symbol = symbol_of (byte st (top - 1))

  abbrev below : List Symbol
  below = stack_of st (top - 1)

  stacked : stack_of st top ≡ top_symbol ∷ below
  stacked = on_top st top q.some_top

  found : row_of top_symbol t.kind ≡ some (row (actions_in w.actions) (symbols_in w.symbols))
  found = sym q.row_of_lem

  fit : row_fits top_symbol t.kind (row (actions_in w.actions) (symbols_in w.symbols)) ≡ true
  fit = row_fits_lem top_symbol t.kind (row (actions_in w.actions) (symbols_in w.symbols)) found

  abbrev fit₁ : Bool
  fit₁ = all_fit t.kind (actions_in w.actions)

  abbrev fit₂ : Bool
  fit₂ = instead_first top_symbol (actions_in w.actions)

  abbrev fit₃ : Bool
  fit₃ = word_first t.kind (actions_in w.actions) (symbols_in w.symbols)

  -- the actions may be done
  pub stands_row : w.actions < 2 ^ 32 → SteppableAt types st m out s top t ns → StandsAt types m out s w.actions t ns
  unfolding WordFor
  stands_row small h =
      let z = h.standing in
      let first = first_instead top_symbol w.actions small (both_left fit₂ fit₃ (both_right fit₁ (fit₂ && fit₃) fit)) in
      let words : WordFor t.kind (top_symbol ∷ below) s = subst (λ (k : List Symbol). WordFor t.kind k s) stacked z.words in
      record {
        table = h.table;
        tree = h.tree;
        token = h.token;
        shows = z.shows;
        suits = suits_all types t ns h.table h.token z.carried (actions_in w.actions) (both_left fit₁ (fit₂ && fit₃) fit);
        slots = h.slots;
        low = omega (arith, z.low, filled_four s.fill w.actions);
        place = h.place;
        word = λ e. words.0 (first.0 e) (instead_kind t.kind w.actions small (both_left fit₁ (fit₂ && fit₃) fit) e);
        once = first.1;
      }

  -- there is room for the symbols
  pub row_room : SteppableAt types st m out s top t ns → (0 < top) × (top + 7 ≤ length st)
  row_room h = (q.some_top, push_room st top h.tree h.standing.kept h.room)

  module _ (x : Lexeme) (f : Build) (same : kind (token_of x) ≡ t.kind) where
    one_step : step types (stack_of st top) x f ≡ toward (symbols_in w.symbols ++ below) (acts types (actions_in w.actions) x f)
    one_step = ap (λ (k : List Symbol). step types k x f) stacked ∙ step_taken types top_symbol below x f (actions_in w.actions) (symbols_in w.symbols) (ap (row_of top_symbol) same ∙ found)

  -- nothing comes of the actions
  pub row_stuck : (a : Option Building) (st' m' out' : List ℕ) → a ≡ None → DoesAllAt types t ns (actions_in w.actions) s m out a m' out' → StepsAt types t ns s top st m out None st' m' out'
  unfolding StepsAt TakenSo DoesAllAt AllAnswered
  row_stuck a st' m' out' e given table f x z =
      let does : DoesAllAt types t ns (actions_in w.actions) s m out None m' out' = subst (λ (b : Option Building). DoesAllAt types t ns (actions_in w.actions) s m out b m' out') e given in
      let nothing = does table f x (suits_all types t ns table x z.carried (actions_in w.actions) (both_left fit₁ (fit₂ && fit₃) fit)) z.shows in
      one_step x f z.carried.same_kind ∙ ap (toward (symbols_in w.symbols ++ below)) nothing

  -- they are done, and the symbols are put
  pub row_onward : (a : Option Building) (next : Building) (above : ℕ) (st' m' out' : List ℕ) → a ≡ Some next → DoesAllAt types t ns (actions_in w.actions) s m out a m' out' → WordsRead (actions_in w.actions) t s a → Pushed st st' top w.symbols above → StepsAt types t ns s top st m out (Some (record { top = above; building = next })) st' m' out'
  unfolding StepsAt TakenSo DoesAllAt AllAnswered WordFor IsWord
  row_onward a next above st' m' out' e given reads pushed table f x z =
      let does : DoesAllAt types t ns (actions_in w.actions) s m out (Some next) m' out' = subst (λ (b : Option Building). DoesAllAt types t ns (actions_in w.actions) s m out b m' out') e given in
      let made = does table f x (suits_all types t ns table x z.carried (actions_in w.actions) (both_left fit₁ (fit₂ && fit₃) fit)) z.shows in
      let words : WordFor t.kind (top_symbol ∷ below) s = subst (λ (k : List Symbol). WordFor t.kind k s) stacked z.words in
      let word : only_constant (actions_in w.actions) ≡ true → t.kind ≡ a_word → next.word ≡ true = λ one k. subst IsWord e (reads.word one k) in
      let after = words_after t.kind (actions_in w.actions) (symbols_in w.symbols) below next (both_right fit₂ fit₃ (both_right fit₁ (fit₂ && fit₃) fit)) words.1 word in
      record {
        tree = made.made;
        is = one_step x f z.carried.same_kind ∙ ap (toward (symbols_in w.symbols ++ below)) made.is ∙ ap (λ (k : List Symbol). to k made.made) (sym pushed.symbols);
        shows = made.shows;
        words = subst (λ (k : List Symbol). WordOnTop k next) (sym pushed.symbols) after;
      }
