-- A symbol that does not take the token is left out, and the machine goes on with those below it. Assumes nothing.
use mathlib.Core.Path.{◌≡◌, refl, sym, ◌∙◌, ap, subst}
use mathlib.Core.List.{List, [], ◌∷◌}
use mathlib.Core.Option.{Option, none, some}
use native.Mathlib.Omega.{arith}
use lib.ListN.{length}
use Prim.Native.Nat.{ℕ, ◌+◌, ◌-◌, ◌<◌}
use Rattle.rules.specs.Bytes.{byte}
use Rattle.rules.specs.Types.{Types}
use Rattle.lexer.specs.declared.Token.{Token}
use Rattle.notation.specs.Tokens.{Lexeme, kind, token_of}
use Rattle.notation.specs.Building.{Build, Action, acts}
use Rattle.notation.specs.Grammar.{Symbol, row_of, left_out, Stepped, stuck, step}
use Rattle.notation.proofs.NeedsKept.{none_not_some}
use Rattle.tree_builder.specs.declared.Building.{Building}
use Rattle.parse_table.specs.Codes.{symbol_of, row_in}
use Rattle.parse_table.specs.Stack.{stack_of}
use Rattle.parse_table.specs.declared.rows.Row.{Row}
use Rattle.parse_table.proofs.Answers.{row_not_taken, on_top, push_room}
use Rattle.parse_table.proofs.Bound.{Kept, out_kept}
use Rattle.parser.specs.declared.actions.Names.{Names}
use Rattle.parser.specs.Doing.{AllMade, AllAnswered}
use Rattle.parser.specs.Stepping.{WordOnTop, WordFor, Standing, TakenSo, SteppableAt, StepsAt, Steppable, Steps}
use Rattle.parser.proofs.Leaving.{without_it, left_behind, LeavesOut}
use Rattle.parser.proofs.Taking.{words_after}
use Rattle.std.specs.Prelude.{Option as CodeOption, Some, None}
use Rattle.parser.specs.declared.steps.Machine.{Machine}

-- what follows where a symbol is left out
abbrev pub onward : (types : Types) → List Symbol → Lexeme → Option Build → Stepped
onward types k x none = stuck
onward types k x (some g) = step types k x g

pub step_left : (types : Types) (y : Symbol) (k : List Symbol) (x : Lexeme) (f : Build) → row_of y (kind (token_of x)) ≡ none → step types (y ∷ k) x f ≡ onward types k x (left_behind types y x f)
unfolding step left_behind acts
step_left types y k x f e = rw (step, e) (go (left_out y))
  where
    inner : (o : Option Build) → ◌≡◌ {A = Stepped} (elim o as (λ o. Stepped) [ none ↦ stuck | some g ↦ step types k x g ]) (onward types k x o)
    inner none = refl
    inner (some g) = refl

    go : (o : Option (List Action)) → ◌≡◌ {A = Stepped} (elim o as (λ o. Stepped) [ none ↦ stuck | some ds ↦ elim (acts types ds x f) as (λ o. Stepped) [ none ↦ stuck | some g ↦ step types k x g ] ]) (onward types k x (without_it types o x f))
    go none = refl
    go (some ds) = inner (acts types ds x f)

-- a word just read counts for every kind
pub any_kind : (q : ℕ) (k : List Symbol) (s : Building) → WordOnTop k s → WordFor q k s
unfolding WordOnTop WordFor
any_kind q [] s w = tt
any_kind q (y ∷ k) s w = (λ e i. w.0 e, w.1)

-- the stack's height stays bounded
left_kept : (types : Types) (y : Symbol) (k : List Symbol) (x : Lexeme) (f g : Build) → left_behind types y x f ≡ some g → Kept (y ∷ k) f → Kept k g
unfolding left_behind
left_kept types y k x f g e h = go (left_out y) refl e
  where
    go : (o : Option (List Action)) → left_out y ≡ o → without_it types o x f ≡ some g → Kept k g
    go none i j = none_not_some j
    go (some ds) i j = out_kept types y k x f g i j h

module _ (types : Types) (st m out : List ℕ) (s : Building) (top : ℕ) (t : Token) (ns : Names) where
  -- no symbol is left
  pub none_left : top ≡ 0 → StepsAt types t ns s top st m out None st m out
  unfolding StepsAt TakenSo stack_of step
  none_left e table f x z = ap (λ (n : ℕ). step types (stack_of st n) x f) e

  module _ (some_top : 0 < top) (w : CodeOption Row) (told : row_in w ≡ row_of (symbol_of (byte st (top - 1))) t.kind) (other : w ≡ None) where
    abbrev top_symbol : Symbol
    top_symbol = symbol_of (byte st (top - 1))

    stacked : stack_of st top ≡ top_symbol ∷ stack_of st (top - 1)
    stacked = on_top st top some_top

    one_left : (x : Lexeme) (f : Build) → kind (token_of x) ≡ t.kind → step types (stack_of st top) x f ≡ onward types (stack_of st (top - 1)) x (left_behind types top_symbol x f)
    one_left x f same = ap (λ (k : List Symbol). step types k x f) stacked ∙ step_left types top_symbol (stack_of st (top - 1)) x f (ap (row_of top_symbol) same ∙ row_not_taken w told other)

    -- it may not be left out
    pub out_stuck : (a : CodeOption Building) (m' out' : List ℕ) → a ≡ None → LeavesOut types top_symbol s m out a m' out' → StepsAt types t ns s top st m out None st m' out'
    unfolding StepsAt TakenSo LeavesOut AllAnswered
    out_stuck a m' out' e given table f x z =
        let leaves : LeavesOut types top_symbol s m out None m' out' = subst (λ (b : CodeOption Building). LeavesOut types top_symbol s m out b m' out') e given in
        one_left x f z.carried.same_kind ∙ ap (onward types (stack_of st (top - 1)) x) (leaves table f x z.shows)

    module _ (a : CodeOption Building) (next : Building) (m' out' : List ℕ) (e : a ≡ Some next) (given : LeavesOut types top_symbol s m out a m' out') where
      leaves : LeavesOut types top_symbol s m out (Some next) m' out'
      leaves = subst (λ (b : CodeOption Building). LeavesOut types top_symbol s m out b m' out') e given

      made : (table : List (List ℕ)) (f : Build) (x : Lexeme) → Standing types st m out s top t ns table f x → AllMade table (s.fill + 12) next m' out' (left_behind types top_symbol x f)
      unfolding LeavesOut AllAnswered
      made table f x z = leaves table f x z.shows

      -- the machine stands with the symbols below
      standing_next : (table : List (List ℕ)) (f : Build) (x : Lexeme) (z : Standing types st m out s top t ns table f x) → Standing types st m' out' next (top - 1) t ns table (made table f x z).made x
      unfolding WordFor
      standing_next table f x z =
          let w = made table f x z in
          let words : WordFor t.kind (top_symbol ∷ stack_of st (top - 1)) s = subst (λ (k : List Symbol). WordFor t.kind k s) stacked z.words in
          let kept : Kept (top_symbol ∷ stack_of st (top - 1)) f = subst (λ (k : List Symbol). Kept k f) stacked z.kept in
          record {
            shows = w.shows;
            carried = z.carried;
            kept = left_kept types top_symbol (stack_of st (top - 1)) x f w.made w.is kept;
            words = any_kind t.kind (stack_of st (top - 1)) next (words_after 1 [] [] (stack_of st (top - 1)) next refl words.1 (λ one k. absurd (omega arith)));
            low = omega (arith, z.low, w.grown);
          }

      pub steppable_next : length m' ≡ length m → SteppableAt types st m out s top t ns → SteppableAt types st m' out' next (top - 1) t ns
      steppable_next size h = record { table = h.table; tree = (made h.table h.tree h.token h.standing).made; token = h.token; standing = standing_next h.table h.tree h.token h.standing; slots = omega (arith, h.slots, size); room = h.room; place = h.place }

      -- and what comes of them comes of all
      pub steps_on : (b : CodeOption Machine) (st'' m'' out'' : List ℕ) → StepsAt types t ns next (top - 1) st m' out' b st'' m'' out'' → StepsAt types t ns s top st m out b st'' m'' out''
      unfolding StepsAt
      steps_on b st'' m'' out'' later table f x z =
          let w = made table f x z in
          let same : step types (stack_of st top) x f ≡ step types (stack_of st (top - 1)) x w.made = one_left x f z.carried.same_kind ∙ ap (onward types (stack_of st (top - 1)) x) w.is in
          subst (λ (o : Stepped). TakenSo table b st'' m'' out'' o) (sym same) (later table w.made x (standing_next table f x z))

-- while symbols are left out: what comes of those that are left comes of all
pub record Going (st₀ m₀ out₀ : List ℕ) (s₀ : Building) (top₀ : ℕ) (t : Token) (ns : Names) (st m out : List ℕ) (s : Building) (top : ℕ) : Type 0 where
  pub ready : Steppable st m out s top t ns
  pub goes_on : (a : CodeOption Machine) (st' m' out' : List ℕ) → Steps t ns s top st m out a st' m' out' → Steps t ns s₀ top₀ st₀ m₀ out₀ a st' m' out'
  pub stack_size : length st ≡ length st₀
  pub frames_size : length m ≡ length m₀
  pub out_size : length out ≡ length out₀

pub going_first : (st m out : List ℕ) (s : Building) (top : ℕ) (t : Token) (ns : Names) → Steppable st m out s top t ns → Going st m out s top t ns st m out s top
going_first st m out s top t ns h = record { ready = h; goes_on = λ a st' m' out' steps. steps; stack_size = refl; frames_size = refl; out_size = refl }

module _ (st₀ m₀ out₀ : List ℕ) (s₀ : Building) (top₀ : ℕ) (t : Token) (ns : Names) (st m out : List ℕ) (s : Building) (top : ℕ) (g : Going st₀ m₀ out₀ s₀ top₀ t ns st m out s top) where
  -- there is a symbol on top to be read
  pub top_within : 0 < top → top - 1 < length st
  top_within h = let r = g.ready.steppable in omega (arith, push_room st top r.tree r.standing.kept r.room)

  -- one more is left out
  pub going_next : 0 < top → (w : CodeOption Row) → row_in w ≡ row_of (symbol_of (byte st (top - 1))) t.kind → w ≡ None → (a : CodeOption Building) (next : Building) (m' out' : List ℕ) → a ≡ Some next → ((types : Types) → LeavesOut types (symbol_of (byte st (top - 1))) s m out a m' out') → length m' ≡ length m → length out' ≡ length out → Going st₀ m₀ out₀ s₀ top₀ t ns st m' out' next (top - 1)
  going_next some_top w told other a next m' out' e leaves size size' =
      let now : Types = g.ready.types in
      record {
        ready = record { types = now; steppable = steppable_next now st m out s top t ns some_top w told other a next m' out' e (leaves now) size g.ready.steppable };
        goes_on = λ b st'' m'' out'' later. g.goes_on b st'' m'' out'' (λ types. steps_on types st m out s top t ns some_top w told other a next m' out' e (leaves types) b st'' m'' out'' (later types));
        stack_size = g.stack_size;
        frames_size = size ∙ g.frames_size;
        out_size = size' ∙ g.out_size;
      }
