-- A symbol is left out: what is done then looks at no token. Assumes nothing.
use mathlib.Core.Path.{◌≡◌, refl, ◌∙◌, ap, subst}
use mathlib.Core.Bool.{true}
use mathlib.Core.List.{List, [], ◌∷◌}
use mathlib.Core.Option.{Option, none, some}
use native.Mathlib.Omega.{arith}
use Prim.Native.Nat.{ℕ, ◌+◌, ◌^◌, ◌≤◌, ◌<◌}
use Rattle.lexer.specs.declared.Token.{Token}
use Rattle.notation.specs.Tokens.{Lexeme}
use Rattle.notation.specs.Building.{Build, Action, close, void, acts}
use Rattle.notation.specs.Grammar.{Symbol, sign, a_name, expression, operators, read_or_word, close_bracket, one, maybe, further, statements, block, otherwise, branches, items, class_rest, parameters, default_value, a_constant, inherits, parent, devices, device, more_devices, ends, left_out}
use Rattle.tree_builder.specs.declared.Building.{Building}
use Rattle.tree_builder.specs.Shows.{Shows}
use Rattle.parse_table.specs.Codes.{actions_in, left_out_in}
use Rattle.parse_table.proofs.Answers.{out_allowed, out_needed, no_action_lem}
use Rattle.parser.specs.declared.actions.Names.{Names}
use Rattle.parser.specs.Doing.{Suits, SuitsAll, filled, AllAnswered, no_instead, DoesAllAt, StandsAt}
use Rattle.parser.specs.Stepping.{SteppableAt}
use Rattle.parser.proofs.Sequence.{no_other, answered_more}
use Rattle.rules.specs.Types.{Types}
use Rattle.std.specs.Prelude.{Option as CodeOption, Some, None}

-- what comes of a tree where a symbol is left out
abbrev pub without_it : (types : Types) → Option (List Action) → Lexeme → Build → Option Build
without_it types none x f = none
without_it types (some ds) x f = acts types ds x f

unfoldable pub left_behind : (types : Types) → Symbol → Lexeme → Build → Option Build
left_behind types s x f = without_it types (left_out s) x f

-- what leaving it out does, at any token
unfoldable pub LeavesOut : (types : Types) → Symbol → Building → (frames out : List ℕ) → CodeOption Building → (frames' out' : List ℕ) → Type 0
LeavesOut types k s m out a m' out' = (table : List (List ℕ)) (f : Build) (x : Lexeme) → Shows table s m out f → AllAnswered table (s.fill + 12) a m' out' (left_behind types k x f)

-- actions that look at no token: at most one, which closes a field or adds an empty one
pub data Plain : List Action → Type 0 where
  plain_none : Plain []
  plain_close : Plain (close ∷ [])
  plain_void : {t : ℕ} → Plain (void t ∷ [])

abbrev PlainOut : Option (List Action) → Type 0
PlainOut none = Unit {0}
PlainOut (some ds) = Plain ds

-- such are all that are done where a symbol is left out
out_plain : (s : Symbol) → PlainOut (left_out s)
unfolding left_out
out_plain (sign k) = tt
out_plain a_name = tt
out_plain (expression l) = tt
out_plain (operators l m) = plain_none
out_plain read_or_word = plain_none
out_plain close_bracket = tt
out_plain (one e) = tt
out_plain (maybe e) = plain_none
out_plain (further e) = plain_none
out_plain statements = plain_none
out_plain block = tt
out_plain otherwise = plain_void
out_plain branches = plain_none
out_plain items = plain_none
out_plain class_rest = tt
out_plain parameters = plain_none
out_plain default_value = plain_none
out_plain a_constant = tt
out_plain inherits = plain_none
out_plain parent = tt
out_plain devices = tt
out_plain device = tt
out_plain more_devices = plain_none
out_plain ends = plain_close

plain_suits : (types : Types) (t : Token) (ns : Names) (ds : List Action) (table : List (List ℕ)) (x : Lexeme) → Plain ds → SuitsAll types t ns ds table x
unfolding SuitsAll Suits
plain_suits types t ns _ table x plain_none = tt
plain_suits types t ns _ table x plain_close = (tt, tt)
plain_suits types t ns _ table x plain_void = (tt, tt)

plain_short : (n : ℕ) (ds : List Action) → Plain ds → filled n ds ≤ n + 12
plain_short n _ plain_none = omega arith
plain_short n _ plain_close = omega arith
plain_short n _ plain_void = omega arith

plain_once : (ds : List Action) → Plain ds → no_instead ds ≡ true
plain_once _ plain_none = refl
plain_once _ plain_close = refl
plain_once _ plain_void = refl

-- what the table answers of the symbol k
module _ (types : Types) (k : Symbol) (r : CodeOption ℕ) (told : left_out_in r ≡ left_out k) (s : Building) (m out : List ℕ) where
  -- it may not be left out
  pub leaves_needed : r ≡ None → LeavesOut types k s m out None m out
  unfolding LeavesOut AllAnswered left_behind
  leaves_needed e table f x shows = ap (λ (o : Option (List Action)). without_it types o x f) (out_needed r told e)

  module _ (actions : ℕ) (may : r ≡ Some actions) where
    plain_actions_lem : Plain (actions_in actions)
    plain_actions_lem = subst PlainOut (out_allowed r told actions may) (out_plain k)

    -- it has no actions
    pub leaves_none : actions ≡ 0 → LeavesOut types k s m out (Some s) m out
    unfolding LeavesOut AllAnswered left_behind acts
    leaves_none e table f x shows = record { made = f; is = ap (λ (o : Option (List Action)). without_it types o x f) (out_allowed r told actions may ∙ ap (λ (n : ℕ). some (actions_in n)) e ∙ ap some no_action_lem); shows = shows; grown = omega arith }

    module _ (t : Token) (ns : Names) where
      -- its actions may be done
      pub stands_left : (st : List ℕ) (top : ℕ) → actions < 2 ^ 32 → SteppableAt types st m out s top t ns → StandsAt types m out s actions t ns
      stands_left st top small h =
          let others = no_other actions small (plain_once (actions_in actions) plain_actions_lem) in
          record {
            table = h.table;
            tree = h.tree;
            token = h.token;
            shows = h.standing.shows;
            suits = plain_suits types t ns (actions_in actions) h.table h.token plain_actions_lem;
            slots = h.slots;
            low = omega (arith, h.standing.low, plain_short s.fill (actions_in actions) plain_actions_lem);
            place = h.place;
            word = λ e. absurd (others.0 e);
            once = others.1;
          }

      -- and are
      pub leaves_done : (a : CodeOption Building) (m' out' : List ℕ) → DoesAllAt types t ns (actions_in actions) s m out a m' out' → LeavesOut types k s m out a m' out'
      unfolding LeavesOut DoesAllAt left_behind
      leaves_done a m' out' does table f x shows =
          rw (out_allowed r told actions may)
          (answered_more table (filled s.fill (actions_in actions)) (s.fill + 12) (plain_short s.fill (actions_in actions) plain_actions_lem) a m' out' (acts types (actions_in actions) x f)
          (does table f x (plain_suits types t ns (actions_in actions) table x plain_actions_lem) shows))
