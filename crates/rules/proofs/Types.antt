-- Laws of the built-in types: of a list only those count that the manifest's table has, and a call without a list is the call with the eight.
use Prim.Native.Nat.{ℕ}
use mathlib.Core.Path.{◌≡◌, refl, sym, ap, fun_ext, ◌∙◌}
use mathlib.Core.Bool.{Bool, true, false, ◌||◌}
use mathlib.Core.List.{List, [], ◌∷◌, map}
use lib.Dec.{eqb, leb, ltb}
use lib.ListN.{length, take, drop, get_or}
use Rattle.values.specs.declared.Reason.TheVariants.{MemoryTooShort, ManifestLength}
use Rattle.rules.specs.Bytes.{two, fields_up, fields_in}
use Rattle.rules.specs.Check.{ascends, text, check}
use Rattle.rules.specs.Tree.{Constant, Definition, Manifest}
use Rattle.rules.specs.Read.{manifest_of}
use Rattle.rules.specs.Outcome.{Outcome, ◌>>=◌, refuse_if}
use Rattle.rules.specs.State.{State}
use Rattle.rules.specs.Evaluate.{any}
use Rattle.rules.specs.Run.{gather_definitions, run_items}
use Rattle.rules.specs.Types.{Types, the_eight, lent, eight_types, eight_as_list, type_places, types_in, lower_case, field_right, types_right, check_list, built_in_types, check_types}
use Rattle.rules.specs.Compile.{same_bytes, string_at, string_number, title_text, is_built_in, known_with, none_struck_out, items_for, start, run_manifest, checked, final_state, compiled, Effect, compile}
use Rattle.rules.specs.Why.{without_limits, is_refused, labelled_at, first_from, comes_to_one, lowest_place, found_in, answer_for, explained, Told, why}
use Rattle.rules.specs.Verdicts.{no_fault}

-- ---- What is built in, of the strings of a table, is all that counts

-- two choices of types with the same verdict, which agree on every string of the table
pub record Alike (types types' : Types) (strings : List (List ℕ)) : Type 0 where
  pub verdict : check_types types ≡ check_types types'
  pub built_in_lem : (n : ℕ) → is_built_in types strings n ≡ is_built_in types' strings n

module _ (m : List ℕ) {types types' : Types} (alike : Alike types types' (manifest_of m).strings) where
  same_run : (struck : Constant → Bool) (device : List ℕ) (limit output : ℕ) → run_manifest struck types (manifest_of m) device limit output ≡ run_manifest struck types' (manifest_of m) device limit output
  unfolding run_manifest known_with
  same_run struck device limit output = ap run (fun_ext alike.built_in_lem)
    where
      run : (ℕ → Bool) → Outcome State
      run built_in =
          gather_definitions built_in [] (manifest_of m).items
          >>= λ ds. run_items (record { built_in = built_in; title = string_number title_text (manifest_of m).strings 0; definitions = ds; struck_out = struck }) (items_for (manifest_of m).strings device (manifest_of m).items) (start limit output)

  pub same_state : (device : List ℕ) (limit output memory : ℕ) → final_state types m device limit output memory ≡ final_state types' m device limit output memory
  unfolding final_state
  same_state device limit output memory = rw (alike.verdict, same_run none_struck_out device limit output) refl

  -- THE LAW for a compile: "A type of the list that the manifest's table lacks has no effect."
  pub same_compile : (device : List ℕ) (limit output memory : ℕ) → compile types m device limit output memory ≡ compile types' m device limit output memory
  unfolding compile compiled
  same_compile device limit output memory = rw (same_state device limit output memory) refl

  -- THE LAW for a question
  pub same_why : (device type title attribute : List ℕ) (label memory : ℕ) → why types m device type title attribute label memory ≡ why types' m device type title attribute label memory
  unfolding why explained lowest_place comes_to_one
  same_why device type title attribute label memory =
      rw (same_state device without_limits without_limits memory, fun_ext (λ (place : ℕ). ap is_refused (same_run (labelled_at label place) device without_limits without_limits))) refl

-- ---- The eight

last_true : (a b c d : Bool) → (a || (b || (c || (d || true)))) ≡ true
last_true true b c d = refl
last_true false true c d = refl
last_true false false true d = refl
last_true false false false true = refl
last_true false false false false = refl

-- the fifth of some tests, before them
moved : (a b c d x y : Bool) → (a || (b || (c || (d || (x || y))))) ≡ (x || (a || (b || (c || (d || y)))))
moved a b c d true y = last_true a b c d
moved a b c d false y = refl

eight_sound : check_list eight_as_list ≡ no_fault
unfolding check_list eight_as_list types_right type_places field_right lower_case ascends text fields_in fields_up two take drop
eight_sound = refl

-- the eight of document 01, in its order and in that of the list
pub eight_same : (x : List ℕ) → any (same_bytes x) eight_types ≡ any (same_bytes x) (types_in eight_as_list)
unfolding any eight_types eight_as_list types_in type_places text fields_in fields_up two take drop
eight_same x =
    moved (is kiosk) (is tablet) (is printer) (is scanner) (is gate) (is screen || (is plan || (is wall || false)))
    ∙ ap (λ (b : Bool). is gate || (is kiosk || b)) (moved (is tablet) (is printer) (is scanner) (is screen) (is plan) (is wall || false))
    ∙ ap (λ (b : Bool). is gate || (is kiosk || (is plan || b))) (sym (moved false (is printer) (is scanner) (is screen) (is tablet) (is wall || false)))
  where
    is : List ℕ → Bool
    is name = same_bytes x name

    kiosk : List ℕ
    kiosk = 107 ∷ 105 ∷ 111 ∷ 115 ∷ 107 ∷ []

    tablet : List ℕ
    tablet = 116 ∷ 97 ∷ 98 ∷ 108 ∷ 101 ∷ 116 ∷ []

    printer : List ℕ
    printer = 112 ∷ 114 ∷ 105 ∷ 110 ∷ 116 ∷ 101 ∷ 114 ∷ []

    scanner : List ℕ
    scanner = 115 ∷ 99 ∷ 97 ∷ 110 ∷ 110 ∷ 101 ∷ 114 ∷ []

    gate : List ℕ
    gate = 103 ∷ 97 ∷ 116 ∷ 101 ∷ []

    screen : List ℕ
    screen = 115 ∷ 99 ∷ 114 ∷ 101 ∷ 101 ∷ 110 ∷ []

    plan : List ℕ
    plan = 112 ∷ 108 ∷ 97 ∷ 110 ∷ []

    wall : List ℕ
    wall = 119 ∷ 97 ∷ 108 ∷ 108 ∷ []

pub eight_alike : (strings : List (List ℕ)) → Alike the_eight (lent eight_as_list) strings
unfolding is_built_in built_in_types check_types
eight_alike strings = record { verdict = sym eight_sound; built_in_lem = λ n. eight_same (string_at strings n) }

-- THE LAW: a call without a list is the call with the eight
pub compile_eight : (m device : List ℕ) (limit output memory : ℕ) → compile the_eight m device limit output memory ≡ compile (lent eight_as_list) m device limit output memory
compile_eight m = same_compile m (eight_alike (manifest_of m).strings)

pub why_eight : (m device type title attribute : List ℕ) (label memory : ℕ) → why the_eight m device type title attribute label memory ≡ why (lent eight_as_list) m device type title attribute label memory
why_eight m = same_why m (eight_alike (manifest_of m).strings)
