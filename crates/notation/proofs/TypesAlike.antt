-- Two choices of types that agree on every name convert and print alike; so a call without a list is the call with the eight.
use Prim.Native.Nat.{ℕ, zero, suc}
use mathlib.Core.Path.{◌≡◌, refl, ap, ap₂}
use mathlib.Core.Bool.{Bool, true, false, not, ◌&&◌}
use mathlib.Core.List.{List, [], ◌∷◌, ◌++◌}
use mathlib.Core.Option.{Option, none, some}
use lib.Dec.{eqb}
use Rattle.rules.specs.Bytes.{pick, byte, two}
use Rattle.rules.specs.Format.{is_constant}
use Rattle.rules.specs.Fields.{Field, field, Fields, none as fields_end, more}
use Rattle.rules.specs.Evaluate.{any}
use Rattle.rules.specs.Types.{Types, the_eight, lent, eight_as_list, built_in_types, check_types}
use Rattle.rules.specs.Compile.{same_bytes, string_at, is_built_in}
use Rattle.rules.specs.Read.{manifest_of}
use Rattle.rules.proofs.Types.{Alike, eight_same, eight_alike}
use Rattle.notation.specs.Tokens.{Lexeme, place_of, token_of, kind}
use Rattle.notation.specs.Building.{Action, begin, begin_resource, around, instead, close, constant, read, named, parent_first, void, enter, leave, Build, build, frame, spelled, resource_tag, begun, act, acts}
use Rattle.notation.specs.Grammar.{Symbol, Row, row, row_of, left_out, Stepped, stuck, to, toward, Ended, fault, run, step, reading}
use Rattle.notation.specs.Convert.{text_items, converted, convert}
use Rattle.notation.specs.Printer.{Gone, stops, past, going, label_right, names_spellable, type_right, over, over_all, unprintable_at, printed_text, print}

module _ (types types' : Types) (same : (w : List ℕ) → any (same_bytes w) (built_in_types types) ≡ any (same_bytes w) (built_in_types types')) where
  -- ---- Reading a text

  act_alike : (a : Action) (x : Lexeme) (f : Build) → act types a x f ≡ act types' a x f
  unfolding act resource_tag
  act_alike (begin t) x f = refl
  act_alike begin_resource x f = ap (λ (b : Bool). begun (place_of x) (pick b 0x25 0x27) f) (same (spelled (token_of x)))
  act_alike (around t h) x (build b (frame q u g ks) fs) = refl
  act_alike (instead t) x (build b (frame q u g ks) fs) = refl
  act_alike close x (build b f fs) = refl
  act_alike constant x f = refl
  act_alike read x f = refl
  act_alike named x (build b (frame q u g ks) fs) = refl
  act_alike parent_first x f = refl
  act_alike (void t) x f = refl
  act_alike enter x (build b f fs) = refl
  act_alike leave x (build zero f fs) = refl
  act_alike leave x (build (suc b) f fs) = refl

  acts_alike : (ds : List Action) (x : Lexeme) (f : Build) → acts types ds x f ≡ acts types' ds x f
  unfolding acts
  acts_alike [] x f = refl
  acts_alike (a ∷ ds) x f = rw (acts, act_alike a x f) (go (act types' a x f) λ g. acts_alike ds x g)
    where
      go : (o : Option Build) → ((g : Build) → acts types ds x g ≡ acts types' ds x g) → ◌≡◌ {A = Option Build} (elim o as (λ q. Option Build) [ none ↦ none | some g ↦ acts types ds x g ]) (elim o as (λ q. Option Build) [ none ↦ none | some g ↦ acts types' ds x g ])
      go none later = refl
      go (some g) later = later g

  step_alike : (k : List Symbol) (x : Lexeme) (f : Build) → step types k x f ≡ step types' k x f
  unfolding step
  step_alike [] x f = refl
  step_alike (s ∷ k) x f = by_row (row_of s (kind (token_of x))) λ g. step_alike k x g
    where
      by_left : (o : Option Build) → ((g : Build) → step types k x g ≡ step types' k x g) → ◌≡◌ {A = Stepped} (elim o as (λ q. Stepped) [ none ↦ stuck | some g ↦ step types k x g ]) (elim o as (λ q. Stepped) [ none ↦ stuck | some g ↦ step types' k x g ])
      by_left none later = refl
      by_left (some g) later = later g

      by_out : (o : Option (List Action)) → ((g : Build) → step types k x g ≡ step types' k x g)
          → ◌≡◌ {A = Stepped} (elim o as (λ q. Stepped) [ none ↦ stuck | some ds ↦ elim (acts types ds x f) as (λ q. Stepped) [ none ↦ stuck | some g ↦ step types k x g ] ]) (elim o as (λ q. Stepped) [ none ↦ stuck | some ds ↦ elim (acts types' ds x f) as (λ q. Stepped) [ none ↦ stuck | some g ↦ step types' k x g ] ])
      by_out none later = refl
      by_out (some ds) later = rw (acts_alike ds x f) (by_left (acts types' ds x f) later)

      by_row : (o : Option Row) → ((g : Build) → step types k x g ≡ step types' k x g)
          → ◌≡◌ {A = Stepped} (elim o as (λ q. Stepped) [
            | some r ↦ elim r as (λ q. Stepped) [ row ds ss ↦ toward (ss ++ k) (acts types ds x f) ]
            | none ↦ elim (left_out s) as (λ q. Stepped) [ none ↦ stuck | some ds ↦ elim (acts types ds x f) as (λ q. Stepped) [ none ↦ stuck | some g ↦ step types k x g ] ]
          ]) (elim o as (λ q. Stepped) [
            | some r ↦ elim r as (λ q. Stepped) [ row ds ss ↦ toward (ss ++ k) (acts types' ds x f) ]
            | none ↦ elim (left_out s) as (λ q. Stepped) [ none ↦ stuck | some ds ↦ elim (acts types' ds x f) as (λ q. Stepped) [ none ↦ stuck | some g ↦ step types' k x g ] ]
          ])
      by_row none later = by_out (left_out s) later
      by_row (some (row ds ss)) later = ap (toward (ss ++ k)) (acts_alike ds x f)

  run_alike : (xs : List Lexeme) (k : List Symbol) (f : Build) → run types xs k f ≡ run types' xs k f
  unfolding run
  run_alike [] [] f = refl
  run_alike [] (s ∷ k) f = refl
  run_alike (x ∷ xs) k f = rw (run, step_alike k x f) (go (step types' k x f) λ l g. run_alike xs l g)
    where
      go : (o : Stepped) → ((l : List Symbol) (g : Build) → run types xs l g ≡ run types' xs l g) → ◌≡◌ {A = Ended} (elim o as (λ q. Ended) [ stuck ↦ fault (place_of x) | to l g ↦ run types xs l g ]) (elim o as (λ q. Ended) [ stuck ↦ fault (place_of x) | to l g ↦ run types' xs l g ])
      go stuck later = refl
      go (to l g) later = later l g

  items_alike : (xs : List Lexeme) → text_items types xs ≡ text_items types' xs
  unfolding text_items reading
  items_alike xs = rw (run_alike xs _ _) refl

  -- ---- Going over a manifest

  type_alike : (strings : List (List ℕ)) (t : ℕ) (h : List ℕ) → type_right types strings t h ≡ type_right types' strings t h
  unfolding type_right is_built_in
  type_alike strings t h = ap (λ (b : Bool). pick (eqb t 0x25) b (pick (eqb t 0x27) (not b) true)) (same (string_at strings (two h 0)))

  mutual
    unfolding over over_all

    over_alike : (strings : List (List ℕ)) (k : Field) (l : ℕ) → over types strings k l ≡ over types' strings k l
    over_alike strings (field p t h ks) l =
        ap₂ (λ (b : Bool) (g : Gone). pick (label_right strings l t h && (names_spellable strings t h && b)) g (stops p)) (type_alike strings t h) (over_all_alike strings ks (pick (is_constant t) (byte h 0) l))

    over_all_alike : (strings : List (List ℕ)) (ks : Fields) (l : ℕ) → over_all types strings ks l ≡ over_all types' strings ks l
    over_all_alike strings fields_end l = refl
    over_all_alike strings (more k ks) l = rw (over_alike strings k l) (go (over types' strings k l) λ m. over_all_alike strings ks m)
      where
        go : (g : Gone) → ((m : ℕ) → over_all types strings ks m ≡ over_all types' strings ks m) → going g (over_all types strings ks) ≡ going g (over_all types' strings ks)
        go (stops p) later = refl
        go (past m) later = later m

  unprintable_alike : (m : List ℕ) → unprintable_at types m ≡ unprintable_at types' m
  unfolding unprintable_at
  unprintable_alike m = rw (over_all_alike (manifest_of m).strings _ 0) refl

  -- ---- The calls

  module _ (verdict : check_types types ≡ check_types types') where
    pub convert_alike : (given : List ℕ) (output_length memory_length : ℕ) → convert types given output_length memory_length ≡ convert types' given output_length memory_length
    unfolding convert converted
    convert_alike given output_length memory_length = rw (verdict, items_alike _) refl

    pub print_alike : (manifest : List ℕ) (output_length memory_length : ℕ) → print types manifest output_length memory_length ≡ print types' manifest output_length memory_length
    unfolding print printed_text
    print_alike manifest output_length memory_length = rw (verdict, unprintable_alike manifest) refl

-- ---- The eight

eight_agree : (w : List ℕ) → any (same_bytes w) (built_in_types the_eight) ≡ any (same_bytes w) (built_in_types (lent eight_as_list))
unfolding built_in_types
eight_agree w = eight_same w

-- THE LAW: a call without a list is the call with the eight
pub convert_eight : (given : List ℕ) (output_length memory_length : ℕ) → convert the_eight given output_length memory_length ≡ convert (lent eight_as_list) given output_length memory_length
convert_eight = convert_alike the_eight (lent eight_as_list) eight_agree (eight_alike []).verdict

pub print_eight : (manifest : List ℕ) (output_length memory_length : ℕ) → print the_eight manifest output_length memory_length ≡ print (lent eight_as_list) manifest output_length memory_length
print_eight = print_alike the_eight (lent eight_as_list) eight_agree (eight_alike []).verdict
