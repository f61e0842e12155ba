-- The stack's height is bounded by the fields and the brackets that are open: what stands before a symbol that closes one has a weight of at most 6.
use Prim.Native.Nat.{ℕ, zero, suc, ◌+◌, ◌-◌, ◌*◌, ◌≤◌}
use mathlib.Core.Path.{◌≡◌, refl, sym, ap, ◌∙◌, subst}
use mathlib.Core.Bool.{Bool, true, false, ◌&&◌, ◌||◌}
use mathlib.Core.List.{List, [], ◌∷◌, ◌++◌}
use mathlib.Core.Option.{Option, none, some}
use native.Mathlib.Omega.{arith}
use lib.Dec.{leb, eqb}
use lib.ListN.{length}
use borrow.Author.Tests.{leb-true, leb-false, eqb-true}
use Rattle.rules.specs.Bytes.{pick}
use Rattle.rules.proofs.Lists.{both_left, both_right}
use Rattle.rules.specs.Types.{Types}
use Rattle.notation.specs.Tokens.{Lexeme, kind, token_of, question, left_brace, right_brace}
use Rattle.notation.specs.Building.{byte, Build, Action, around, acts, start}
use Rattle.notation.specs.Grammar.{Entry, arm, attribute, parameter, Symbol, sign, a_name, expression, operators, read_or_word, close_bracket, one, maybe, further, statements, block, otherwise, branches, items, class_rest, parameters, default_value, a_constant, inherits, parent, devices, device, more_devices, ends, Row, row, operator_byte, operator_row, operator_in, binds, row_of, left_out, manifest, Stepped, stuck, to, toward, step}
use Rattle.notation.proofs.NeedsKept.{none_not_some, same_result}
use Rattle.notation.proofs.TableRows.{all_pass, found_passes, rows_of}
use Rattle.parse_table.proofs.Counts.{count, count_append, rank, effect, fields_open, brackets_open, Low, low_fields, low_brackets, acts_changed}

-- the weight of the symbols before the first one that closes a field or a bracket, or the items
abbrev pub front : List Symbol → ℕ
front [] = 0
front (s ∷ k) = pick (leb (rank s) 2) 0 (rank s - 2 + front k)

-- whether there is such a symbol
abbrev parted : List Symbol → Bool
parted [] = false
parted (s ∷ k) = leb (rank s) 2 || parted k

-- no such part of the stack is heavier than 6
abbrev pub Light : List Symbol → Type 0
Light [] = Unit {0}
Light (s ∷ k) = (front (s ∷ k) ≤ 6) × Light k

-- so the first part is not
front_light : (k : List Symbol) → Light k → front k ≤ 6
front_light [] h = omega arith
front_light (s ∷ k) h = h.0

-- ---- Rows keep it

-- what comes before a stack is added to its first part, unless it has a part that is closed
front_append : (t k : List Symbol) → front (t ++ k) ≡ front t + pick (parted t) 0 (front k)
front_append [] k = omega arith
front_append (s ∷ t) k = go (leb (rank s) 2) (front_append t k)
  where
    go : (b : Bool) → front (t ++ k) ≡ front t + pick (parted t) 0 (front k) → pick b 0 (rank s - 2 + front (t ++ k)) ≡ pick b 0 (rank s - 2 + front t) + pick (b || parted t) 0 (front k)
    go true e = omega arith
    go false e = omega arith

-- what a row puts in the place of a symbol of this rank
abbrev lighter : ℕ → List Symbol → Bool
lighter r [] = true
lighter r (s ∷ ss) = leb (front (s ∷ ss)) (pick (parted (s ∷ ss)) 6 (r - 2)) && lighter r ss

-- a symbol and what is below it
room_below : (s : Symbol) (k : List Symbol) → Light (s ∷ k) → rank s - 2 + front k ≤ 6
room_below s k h = go (leb (rank s) 2) refl h.0
  where
    go : (b : Bool) → leb (rank s) 2 ≡ b → pick b 0 (rank s - 2 + front k) ≤ 6 → rank s - 2 + front k ≤ 6
    go true e l = omega (arith, leb-true (rank s) 2 e, front_light k h.1)
    go false e l = l

-- a row that is light enough keeps a stack light
light_after : (s : Symbol) (ss k : List Symbol) → lighter (rank s) ss ≡ true → Light (s ∷ k) → Light (ss ++ k)
light_after s [] k c h = h.1
light_after s (y ∷ ys) k c h =
    let here = leb-true (front (y ∷ ys)) (pick (parted (y ∷ ys)) 6 (rank s - 2)) (both_left (leb (front (y ∷ ys)) (pick (parted (y ∷ ys)) 6 (rank s - 2))) (lighter (rank s) ys) c) in
    (rw (front_append (y ∷ ys) k) (go (parted (y ∷ ys)) here), light_after s ys k (both_right (leb (front (y ∷ ys)) (pick (parted (y ∷ ys)) 6 (rank s - 2))) (lighter (rank s) ys) c) h)
  where
    go : (b : Bool) → front (y ∷ ys) ≤ pick b 6 (rank s - 2) → front (y ∷ ys) + pick b 0 (front k) ≤ 6
    go true l = omega arith
    go false l = omega (arith, room_below s k h)

-- ---- Every row, by computing

-- a row is light enough; it closes the fields and brackets that it opens, and those that its symbol closes; and the items are there once
abbrev suits : Symbol → Row → Bool
suits s (row ds ss) =
    lighter (rank s) ss
    && (eqb (count rank 0 ss + count effect 2 ds) (count rank 0 (s ∷ []) + count effect 1 ds)
    && (eqb (count rank 1 ss + count effect 4 ds) (count rank 1 (s ∷ []) + count effect 3 ds) && leb (count rank 2 ss) (count rank 2 (s ∷ []))))

-- the two rows of an operator, at any level
operator_suits : (l m q n : ℕ) → suits (operators l m) (operator_row l q n) ≡ true
operator_suits l m q n = go (eqb q question)
  where
    go : (b : Bool) → suits (operators l m) (pick b (row (around 0x19 [] ∷ []) (sign left_brace ∷ one arm ∷ sign right_brace ∷ ends ∷ operators l n ∷ [])) (row (around 0x16 (byte (operator_byte q) ∷ []) ∷ []) (expression (suc n) ∷ ends ∷ operators l n ∷ []))) ≡ true
    go true = refl
    go false = refl

-- so with the test of its level
operators_suit : (l m q : ℕ) (o : Option ℕ) (r : Row) → operator_in l m q o ≡ some r → suits (operators l m) r ≡ true
operators_suit l m q none r h = none_not_some h
operators_suit l m q (some n) r h = go (leb l n && leb n m) h
  where
    go : (b : Bool) → ◌≡◌ {A = Option Row} (pick b (some (operator_row l q n)) none) (some r) → suits (operators l m) r ≡ true
    go true i = subst (λ (r : Row). suits (operators l m) r ≡ true) (same_result (operator_row l q n) r i) (operator_suits l m q n)
    go false i = none_not_some i

-- the rows of each entry
entry_suits : (e : Entry) → (all_pass (suits (one e)) (rows_of (one e)) ≡ true) × (all_pass (suits (maybe e)) (rows_of (maybe e)) ≡ true)
entry_suits arm = (refl, refl)
entry_suits attribute = (refl, refl)
entry_suits parameter = (refl, refl)

-- every row
row_suits : (s : Symbol) (q : ℕ) (r : Row) → row_of s q ≡ some r → suits s r ≡ true
unfolding row_of
row_suits (sign k) q r h = found_passes (suits (sign k)) (rows_of (sign k)) q r refl h
row_suits a_name q r h = found_passes (suits a_name) (rows_of a_name) q r refl h
row_suits (expression l) q r h = found_passes (suits (expression l)) (rows_of (expression l)) q r refl h
row_suits (operators l m) q r h = operators_suit l m q (binds q) r h
row_suits read_or_word q r h = found_passes (suits read_or_word) (rows_of read_or_word) q r refl h
row_suits close_bracket q r h = found_passes (suits close_bracket) (rows_of close_bracket) q r refl h
row_suits (one e) q r h = found_passes (suits (one e)) (rows_of (one e)) q r (entry_suits e).0 h
row_suits (maybe e) q r h = found_passes (suits (maybe e)) (rows_of (maybe e)) q r (entry_suits e).1 h
row_suits (further e) q r h = found_passes (suits (further e)) (rows_of (further e)) q r refl h
row_suits statements q r h = found_passes (suits statements) (rows_of statements) q r refl h
row_suits block q r h = found_passes (suits block) (rows_of block) q r refl h
row_suits otherwise q r h = found_passes (suits otherwise) (rows_of otherwise) q r refl h
row_suits branches q r h = found_passes (suits branches) (rows_of branches) q r refl h
row_suits items q r h = found_passes (suits items) (rows_of items) q r refl h
row_suits class_rest q r h = found_passes (suits class_rest) (rows_of class_rest) q r refl h
row_suits parameters q r h = found_passes (suits parameters) (rows_of parameters) q r refl h
row_suits default_value q r h = found_passes (suits default_value) (rows_of default_value) q r refl h
row_suits a_constant q r h = found_passes (suits a_constant) (rows_of a_constant) q r refl h
row_suits inherits q r h = found_passes (suits inherits) (rows_of inherits) q r refl h
row_suits parent q r h = found_passes (suits parent) (rows_of parent) q r refl h
row_suits devices q r h = found_passes (suits devices) (rows_of devices) q r refl h
row_suits device q r h = found_passes (suits device) (rows_of device) q r refl h
row_suits more_devices q r h = found_passes (suits more_devices) (rows_of more_devices) q r refl h
row_suits ends q r h = none_not_some h

-- a symbol that is left out is a row without symbols
abbrev out_suits : Symbol → Option (List Action) → Bool
out_suits s none = true
out_suits s (some ds) = suits s (row ds [])

-- every symbol
out_suits_lem : (s : Symbol) → out_suits s (left_out s) ≡ true
unfolding left_out
out_suits_lem (sign k) = refl
out_suits_lem a_name = refl
out_suits_lem (expression l) = refl
out_suits_lem (operators l m) = refl
out_suits_lem read_or_word = refl
out_suits_lem close_bracket = refl
out_suits_lem (one e) = refl
out_suits_lem (maybe e) = refl
out_suits_lem (further e) = refl
out_suits_lem statements = refl
out_suits_lem block = refl
out_suits_lem otherwise = refl
out_suits_lem branches = refl
out_suits_lem items = refl
out_suits_lem class_rest = refl
out_suits_lem parameters = refl
out_suits_lem default_value = refl
out_suits_lem a_constant = refl
out_suits_lem inherits = refl
out_suits_lem parent = refl
out_suits_lem devices = refl
out_suits_lem device = refl
out_suits_lem more_devices = refl
out_suits_lem ends = refl

-- ---- A run keeps it

-- the stack closes the fields and the brackets that are open, of which at most 32 are each, and no part of it is heavy
pub record Kept (k : List Symbol) (f : Build) : Type 0 where
  pub light : Light k
  pub fields : count rank 0 k ≡ fields_open f
  pub brackets : count rank 1 k ≡ brackets_open f
  pub floor : count rank 2 k ≤ 1
  pub low : Low f

-- before the first token
pub start_kept : Kept manifest start
start_kept = record { light = (omega arith, (omega arith, tt)); fields = refl; brackets = refl; floor = omega arith; low = (omega arith, omega arith) }

module _ (types : Types) (s : Symbol) (k : List Symbol) (x : Lexeme) (f g : Build) where
  -- a row that suits
  suited_kept : (ds : List Action) (ss : List Symbol) → suits s (row ds ss) ≡ true → acts types ds x f ≡ some g → Kept (s ∷ k) f → Kept (ss ++ k) g
  suited_kept ds ss c i h =
      let a = lighter (rank s) ss in
      let b = eqb (count rank 0 ss + count effect 2 ds) (count rank 0 (s ∷ []) + count effect 1 ds) in
      let d = eqb (count rank 1 ss + count effect 4 ds) (count rank 1 (s ∷ []) + count effect 3 ds) in
      let e = leb (count rank 2 ss) (count rank 2 (s ∷ [])) in
      let rest = both_right a (b && (d && e)) c in
      let fields-closed = eqb-true (count rank 0 ss + count effect 2 ds) (count rank 0 (s ∷ []) + count effect 1 ds) (both_left b (d && e) rest) in
      let brackets-closed = eqb-true (count rank 1 ss + count effect 4 ds) (count rank 1 (s ∷ []) + count effect 3 ds) (both_left d e (both_right b (d && e) rest)) in
      let once = leb-true (count rank 2 ss) (count rank 2 (s ∷ [])) (both_right d e (both_right b (d && e) rest)) in
      let changed = acts_changed types x ds f g i in
      record {
        light = light_after s ss k (both_left a (b && (d && e)) c) h.light;
        fields = omega (arith, count_append rank 0 ss k, fields-closed, changed.fields, h.fields);
        brackets = omega (arith, count_append rank 1 ss k, brackets-closed, changed.brackets, h.brackets);
        floor = omega (arith, count_append rank 2 ss k, once, h.floor);
        low = changed.low h.low;
      }

  -- a token is taken
  pub row_kept : {ds : List Action} {ss : List Symbol} (q : ℕ) → row_of s q ≡ some (row ds ss) → acts types ds x f ≡ some g → Kept (s ∷ k) f → Kept (ss ++ k) g
  row_kept {ds} {ss} q e i h = suited_kept ds ss (row_suits s q (row ds ss) e) i h

  -- a symbol is left out
  pub out_kept : {ds : List Action} → left_out s ≡ some ds → acts types ds x f ≡ some g → Kept (s ∷ k) f → Kept k g
  out_kept {ds} e i h = suited_kept ds [] (ap (out_suits s) (sym e) ∙ out_suits_lem s) i h

-- no step from here
stuck_not_to : {A : Type 0} {k : List Symbol} {g : Build} → stuck ≡ to k g → A
stuck_not_to e = let z : ◌≡◌ {A = ℕ} 0 1 = cc in absurd (omega arith)

-- a step: what holds of the symbols and the tree while symbols are left out, and then of what a row makes of them
module _ (types : Types) (Before After : List Symbol → Build → Type 0) (x : Lexeme)
    (out : (s : Symbol) (k : List Symbol) (f g : Build) (ds : List Action) → left_out s ≡ some ds → acts types ds x f ≡ some g → Before (s ∷ k) f → Before k g)
    (taken : (s : Symbol) (k : List Symbol) (f g : Build) (ds : List Action) (ss : List Symbol) → row_of s (kind (token_of x)) ≡ some (row ds ss) → acts types ds x f ≡ some g → Before (s ∷ k) f → After (ss ++ k) g) where
  pub step_through : (k : List Symbol) (f : Build) (k' : List Symbol) (g : Build) → step types k x f ≡ to k' g → Before k f → After k' g
  unfolding step
  step_through [] f k' g e h = stuck_not_to e
  step_through (s ∷ k) f k' g e h = by_row (λ i. step_through k i k' g) (row_of s (kind (token_of x))) refl e
    where
      by_taken : (ds : List Action) (ss : List Symbol) → row_of s (kind (token_of x)) ≡ some (row ds ss) → (o : Option Build) → acts types ds x f ≡ o → toward (ss ++ k) o ≡ to k' g → After k' g
      by_taken ds ss r none j q = stuck_not_to q
      by_taken ds ss r (some i) j q =
          let same_symbols : ss ++ k ≡ k' = cc in
          let same_build : i ≡ g = cc in
          subst (λ (j : List Symbol). After j g) same_symbols (subst (After (ss ++ k)) same_build (taken s k f i ds ss r j h))

      by_left : ((i : Build) → step types k x i ≡ to k' g → Before k i → After k' g) → (ds : List Action) → left_out s ≡ some ds → (o : Option Build) → acts types ds x f ≡ o → ◌≡◌ {A = Stepped} (elim o as (λ o. Stepped) [ none ↦ stuck | some i ↦ step types k x i ]) (to k' g) → After k' g
      by_left later ds l none j q = stuck_not_to q
      by_left later ds l (some i) j q = later i q (out s k f i ds l j h)

      by_out : ((i : Build) → step types k x i ≡ to k' g → Before k i → After k' g) → (o : Option (List Action)) → left_out s ≡ o → ◌≡◌ {A = Stepped} (elim o as (λ o. Stepped) [ none ↦ stuck | some ds ↦ elim (acts types ds x f) as (λ o. Stepped) [ none ↦ stuck | some i ↦ step types k x i ] ]) (to k' g) → After k' g
      by_out later none l q = stuck_not_to q
      by_out later (some ds) l q = by_left later ds l (acts types ds x f) refl q

      by_row : ((i : Build) → step types k x i ≡ to k' g → Before k i → After k' g) → (o : Option Row) → row_of s (kind (token_of x)) ≡ o → ◌≡◌ {A = Stepped} (elim o as (λ o. Stepped) [
        | some r ↦ elim r as (λ o. Stepped) [ row ds ss ↦ toward (ss ++ k) (acts types ds x f) ]
        | none ↦ elim (left_out s) as (λ o. Stepped) [ none ↦ stuck | some ds ↦ elim (acts types ds x f) as (λ o. Stepped) [ none ↦ stuck | some i ↦ step types k x i ] ]
      ]) (to k' g) → After k' g
      by_row later none r q = by_out later (left_out s) refl q
      by_row later (some (row ds ss)) r q = by_taken ds ss r (acts types ds x f) refl q

-- so a step keeps the bound
pub step_kept : (types : Types) (k : List Symbol) (x : Lexeme) (f : Build) (k' : List Symbol) (g : Build) → step types k x f ≡ to k' g → Kept k f → Kept k' g
step_kept types k x f k' g e h =
    step_through types Kept Kept x (λ s k f g ds l i h. out_kept types s k x f g l i h) (λ s k f g ds ss r i h. row_kept types s k x f g (kind (token_of x)) r i h) k f k' g e h

-- ---- The height

-- a symbol that closes something is counted once
mark_counted : (r : ℕ) → r ≤ 2 → pick (eqb r 0) 1 0 + pick (eqb r 1) 1 0 + pick (eqb r 2) 1 0 ≡ 1
mark_counted zero h = refl
mark_counted (suc zero) h = refl
mark_counted (suc (suc zero)) h = refl
mark_counted (suc (suc (suc r))) h = absurd (omega arith)

-- each part is at most 6 symbols and the one that closes it
light_height : (k : List Symbol) → Light k → length k ≤ front k + 7 * (count rank 0 k + count rank 1 k + count rank 2 k)
light_height [] h = omega arith
light_height (s ∷ k) h = go (leb (rank s) 2) refl (light_height k h.1)
  where
    go : (b : Bool) → leb (rank s) 2 ≡ b → length k ≤ front k + 7 * (count rank 0 k + count rank 1 k + count rank 2 k) → length (s ∷ k) ≤ pick b 0 (rank s - 2 + front k) + 7 * (count rank 0 (s ∷ k) + count rank 1 (s ∷ k) + count rank 2 (s ∷ k))
    go true e l = omega (arith, mark_counted (rank s) (leb-true (rank s) 2 e), front_light k h.1)
    go false e l = omega (arith, leb-false (rank s) 2 e)

-- by the fields and the brackets that are open
pub stack_height : (k : List Symbol) (f : Build) → Kept k f → length k ≤ 13 + 7 * (fields_open f + brackets_open f)
stack_height k f h = omega (arith, light_height k h.light, front_light k h.light, h.fields, h.brackets, h.floor)

-- so it is at most 461
pub stack_bound : (k : List Symbol) (f : Build) → Kept k f → length k ≤ 461
stack_bound k f h = omega (arith, stack_height k f h, low_fields f h.low, low_brackets f h.low)
