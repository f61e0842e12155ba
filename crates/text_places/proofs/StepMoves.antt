-- A step inserts bytes at the place that is noted, or takes some of the last ones away. Assumes nothing.
use Prim.Native.Nat.{ℕ, ◌+◌, ◌-◌, ◌*◌, ◌≤◌}
use mathlib.Core.Path.{◌≡◌, refl, sym, ap, ◌∙◌, subst}
use mathlib.Core.Bool.{Bool, true, false, not, ◌&&◌, ◌||◌}
use mathlib.Core.List.{List, [], ◌∷◌, ◌++◌, append-nil}
use mathlib.Core.Option.{Option, none, some}
use mathlib.Core.Logic.{◌⊎◌, inl, inr}
use native.Mathlib.Omega.{arith}
use lib.Dec.{leb, ltb, eqb}
use lib.ListN.{length, length-append}
use borrow.Author.Tests.{eqb-true, eqb-false, ltb-true, ltb-false}
use Rattle.wire.specs.Bytes.{pick}
use Rattle.rules.proofs.Within.{false_not_true}
use Rattle.rules.specs.Types.{Types}
use Rattle.notation.specs.Tokens.{Lexeme, lexeme, word, number, text, variable, top_variable, class_variable, mark, kind, token_of, place_of, a_word}
use Rattle.notation.specs.Building.{frame, Build, build, start, Action, begin, begin_resource, around, instead, close, constant, read, named, parent_first, void, enter, leave, act, acts, added, constant_node}
use Rattle.notation.specs.Grammar.{Symbol, row, row_of, left_out, manifest, to, step}
use Rattle.notation.proofs.NeedsKept.{none_not_some, same_result}
use Rattle.text_places.specs.Marks.{tree_marks, start_of, body_of, size_of}
use Rattle.text_places.specs.Log.{Insertion, insertion, Leads, is_operator, sort, top_before_parts, inserted_at, noted}
use Rattle.text_places.proofs.Inserting.{Inserted, grown, Appended, Shortened, Moved, inserted, shortened, moved_leads, nothing_came, appended_both, appended_inserted}
use Rattle.text_places.proofs.MarkedTree.{EndsInLeaf, appends, fitted, constant_wide, closed_same, acts_grown, named_inserts, parent_inserts, around_inserts, instead_shortens}
use Rattle.text_places.proofs.Stacks.{code_of, sole_code, blocked, next, Stacked, plain_top, word_on_top, plain_below, Left, left_alone, left_closed, left_empty, out_left, GoodRow, good_row, row_good_lem}
use Rattle.text_places.proofs.StepCases.{by_step}

-- ---- One action

-- a word is a constant of two pieces; so is a mark of its kind, which the lexer does not make
word_leaf : (types : Types) (x : Lexeme) (f g : Build) → kind (token_of x) ≡ a_word → act types constant x f ≡ some g → EndsInLeaf g
unfolding act added constant_node
word_leaf types (lexeme p l (word w)) (build b (frame q u i ks) fs) g k e = fitted EndsInLeaf (leb (length fs + 1) 32) _ g (record { kept = ks; place = p; tag = 0x11; line = l; piece = _; is = refl }) e
word_leaf types (lexeme p l (number z)) f g k e = absurd (omega arith)
word_leaf types (lexeme p l (text s)) f g k e = absurd (omega arith)
word_leaf types (lexeme p l (variable n)) f g k e = absurd (omega arith)
word_leaf types (lexeme p l (top_variable n)) f g k e = absurd (omega arith)
word_leaf types (lexeme p l (class_variable c n)) f g k e = absurd (omega arith)
word_leaf types (lexeme p l (mark m)) (build b (frame q u i ks) fs) g k e = fitted EndsInLeaf (leb (length fs + 1) 32) _ g (record { kept = ks; place = p; tag = 0x12; line = l; piece = _; is = refl }) e

-- it is the last part, and has a header
pub record WordRead (f g : Build) : Type 0 where
  pub leaf : EndsInLeaf g
  pub wide : size_of f + 3 ≤ size_of g

module _ (types : Types) (x : Lexeme) where
  -- what an action does, by its code
  record Done (n : ℕ) (f g : Build) : Type 0 where
    before : n ≡ 1 → Inserted (body_of f) (place_of x) (tree_marks f) (tree_marks g)
    instead_of_lem : n ≡ 2 → EndsInLeaf f → Shortened 1 (tree_marks f) (tree_marks g)
    lifts : n ≡ 3 → Inserted (start_of g) (place_of x) (tree_marks f) (tree_marks g)
    word : n ≡ 4 → kind (token_of x) ≡ a_word → WordRead f g

  other_done : (f g : Build) → Done 0 f g
  other_done f g = record { before = λ e. absurd (omega arith); instead_of_lem = λ e. absurd (omega arith); lifts = λ e. absurd (omega arith); word = λ e. absurd (omega arith) }

  before_done : (f g : Build) → Inserted (body_of f) (place_of x) (tree_marks f) (tree_marks g) → Done 1 f g
  before_done f g i = record { before = λ e. i; instead_of_lem = λ e. absurd (omega arith); lifts = λ e. absurd (omega arith); word = λ e. absurd (omega arith) }

  act_done : (a : Action) (f g : Build) → act types a x f ≡ some g → Done (code_of a) f g
  act_done (begin t) f g e = other_done f g
  act_done begin_resource f g e = other_done f g
  act_done (around t h) f g e = record { before = λ z. absurd (omega arith); instead_of_lem = λ z. absurd (omega arith); lifts = λ z. around_inserts types x t h f g e; word = λ z. absurd (omega arith) }
  act_done (instead t) f g e = record { before = λ z. absurd (omega arith); instead_of_lem = λ z w. instead_shortens types x t f g w e; lifts = λ z. absurd (omega arith); word = λ z. absurd (omega arith) }
  act_done close f g e = other_done f g
  act_done constant f g e = record { before = λ z. absurd (omega arith); instead_of_lem = λ z. absurd (omega arith); lifts = λ z. absurd (omega arith); word = λ z k. record { leaf = word_leaf types x f g k e; wide = constant_wide types x f g e } }
  act_done read f g e = other_done f g
  act_done named f g e = before_done f g (named_inserts types x f g e)
  act_done parent_first f g e = before_done f g (parent_inserts types x f g e)
  act_done (void t) f g e = other_done f g
  act_done enter f g e = other_done f g
  act_done leave f g e = other_done f g

  -- one action alone
  sole_done : (ds : List Action) (f g : Build) → acts types ds x f ≡ some g → Done (sole_code ds) f g
  unfolding acts
  sole_done [] f g e = other_done f g
  sole_done (a ∷ []) f g e = go (act types a x f) refl e
    where
      go : (o : Option Build) → act types a x f ≡ o → ◌≡◌ {A = Option Build} (elim o as (λ o. Option Build) [ none ↦ none | some i ↦ some i ]) (some g) → Done (code_of a) f g
      go none i j = none_not_some j
      go (some h) i j = act_done a f g (i ∙ j)
  sole_done (a ∷ b ∷ ds) f g e = other_done f g

  -- ---- From the first symbol that is neither of sort 1 nor of sort 2

  abbrev operator : Bool
  operator = is_operator (kind (token_of x))

  -- since f something may have come last; before an operator nothing has, or the operator is taken by none of the symbols
  record Since (f i : Build) (k : List Symbol) : Type 0 where
    come : Appended (place_of x) (tree_marks f) (tree_marks i)
    guard : operator ≡ true → (tree_marks i ≡ tree_marks f) ⊎ (blocked true k ≡ true)

  abbrev Outcome : (most : ℕ) → Build → Build → Type 0
  Outcome most f g = Moved most (pick operator (start_of g) (size_of f)) (place_of x) (tree_marks f) (tree_marks g)

  not_blocked : {A : Type 0} (s : Symbol) (k : List Symbol) → sort s ≡ 5 → blocked true (s ∷ k) ≡ true → A
  not_blocked s k e h = false_not_true (rw e at h)

  unmoved : {most from place : ℕ} {old new : List ℕ} → new ≡ old → Moved most from place old new
  unmoved {new = new} e = shortened (record { gone = []; before = sym e ∙ sym (append-nil new); few = omega arith })

  -- what its row is, where a symbol takes the token
  row_told : (s : Symbol) (ds : List Action) (ss : List Symbol) → row_of s (kind (token_of x)) ≡ some (row ds ss) → GoodRow (sort s) operator (kind (token_of x)) ds ss
  row_told s ds ss e = good_row (sort s) operator (kind (token_of x)) ds ss (row_good_lem s (kind (token_of x)) (row ds ss) e)

  module _ (most : ℕ) (g : Build) where
    -- the symbol takes the token
    rest_taken : (s : Symbol) (k : List Symbol) (f i : Build) (ds : List Action) (ss : List Symbol) → row_of s (kind (token_of x)) ≡ some (row ds ss) → acts types ds x i ≡ some g → eqb (sort s) 1 ≡ false → eqb (sort s) 2 ≡ false → Since f i (s ∷ k) → Outcome most f g
    unfolding acts size_of
    rest_taken s k f i ds ss r e no_one no_two h = by_code (eqb (sole_code ds) 3) refl
      where
        told : GoodRow (sort s) operator (kind (token_of x)) ds ss
        told = row_told s ds ss r

        -- an operator finds all as it was
        same_before : operator ≡ true → tree_marks i ≡ tree_marks f
        same_before o = go (h.guard o)
          where
            go : (tree_marks i ≡ tree_marks f) ⊎ (blocked true (s ∷ k) ≡ true) → tree_marks i ≡ tree_marks f
            go (inl same) = same
            go (inr b) = not_blocked s k (told.operator_sort o) b

        last : (appends false ds ≡ true) × (operator ≡ true → ds ≡ []) → (o : Bool) → operator ≡ o → Moved most (pick o (start_of g) (length (tree_marks f))) (place_of x) (tree_marks f) (tree_marks g)
        last a true o =
            let none_done : acts types [] x i ≡ some g = subst (λ (l : List Action). acts types l x i ≡ some g) (a.1 o) e in
            unmoved (ap tree_marks (sym (same_result i g none_done)) ∙ same_before o)
        last a false o = inserted (appended_inserted refl (appended_both h.come (acts_grown types x ds i g false a.0 (λ z. false_not_true z) e)))

        by_code : (b : Bool) → eqb (sole_code ds) 3 ≡ b → Outcome most f g
        by_code true c =
            let lifting = eqb-true (sole_code ds) 3 c in
            let o = told.lifts no_one no_two lifting in
            rw o (inserted (subst (λ (ms : List ℕ). Inserted (start_of g) (place_of x) ms (tree_marks g)) (same_before o) ((sole_done ds i g e).lifts lifting)))
        by_code false c = last (told.last no_one no_two (eqb-false (sole_code ds) 3 c)) operator refl

    -- the symbol is left out
    rest_left : (s : Symbol) (k : List Symbol) (f j : Build) (ds : List Action) (i : Build) → left_out s ≡ some ds → acts types ds x j ≡ some i → Stacked (s ∷ k) → Since f j (s ∷ k) → (plain_top k ≡ true → Stacked k → Since f i k → Outcome most f g) → Outcome most f g
    unfolding acts
    rest_left s k f j ds i l e stacked h others = go (sort s) refl ds (out_left s ds l) e
      where
        passed : (n : ℕ) → sort s ≡ n → eqb n 0 ≡ false → tree_marks i ≡ tree_marks j → Outcome most f g
        passed n m no_sign same =
            others (plain_below n k no_sign (subst (λ (a : ℕ). next a k ≡ true) m stacked.0)) stacked.2
            (record { come = subst (Appended (place_of x) (tree_marks f)) (sym same) h.come; guard = λ o. still (h.guard o) })
          where
            below : (b c : Bool) → b ≡ false → pick b true (pick c (blocked true k) false) ≡ true → blocked true k ≡ true
            below true c z q = false_not_true (sym z)
            below false true z q = q
            below false false z q = false_not_true q

            still : (tree_marks j ≡ tree_marks f) ⊎ (blocked true (s ∷ k) ≡ true) → (tree_marks i ≡ tree_marks f) ⊎ (blocked true k ≡ true)
            still (inl as-was) = inl (same ∙ as-was)
            still (inr b) = inr (below (eqb (sort s) 0) (eqb (sort s) 3 || eqb (sort s) 4) (ap (λ (a : ℕ). eqb a 0) m ∙ no_sign) b)

        go : (n : ℕ) → sort s ≡ n → (ds : List Action) → Left n ds → acts types ds x j ≡ some i → Outcome most f g
        go n m _ (left_alone no_sign no_one) q = passed n m no_sign (ap tree_marks (sym (same_result j i q)))
        go n m _ left_closed q = passed 4 m refl (closed_same types x j i q)
        go n m _ (left_empty {t}) q =
            others (plain_below 3 k refl (subst (λ (a : ℕ). next a k ≡ true) m stacked.0)) stacked.2
            (record { come = appended_both h.come (acts_grown types x (void t ∷ []) j i false refl (λ z. false_not_true z) q); guard = λ o. inr (stacked.1 (ap (λ (a : ℕ). eqb a 3) m)) })

    module _ (k' : List Symbol) where
      rest : (f : Build) (k : List Symbol) (i : Build) → step types k x i ≡ to k' g → plain_top k ≡ true → Stacked k → Since f i k → Outcome most f g
      rest f =
          by_step types x k' g (λ k i. plain_top k ≡ true → Stacked k → Since f i k → Outcome most f g)
          (λ s k i ds ss r e m p stacked h. rest_taken s k f i ds ss r e (no_one (eqb (sort s) 2) (eqb (sort s) 1) p) (no_two (eqb (sort s) 2) (eqb (sort s) 1) p) h)
          (λ s k j ds i l e q later p stacked h. rest_left s k f j ds i l e stacked h later)
        where
          no_one : (a b : Bool) → (not a && not b) ≡ true → b ≡ false
          no_one true b p = false_not_true p
          no_one false true p = sym p
          no_one false false p = refl

          no_two : (a b : Bool) → (not a && not b) ≡ true → a ≡ false
          no_two true b p = sym p
          no_two false b p = refl

-- ---- From any state that the machine comes to

-- the stack is in order, and behind a word just read the last part is a constant of two pieces
pub record Sound (k : List Symbol) (f : Build) : Type 0 where
  pub stacked : Stacked k
  pub word : word_on_top k ≡ true → EndsInLeaf f

no_word : {A : Type 0} (n : ℕ) (k : List Symbol) → next n k ≡ true → word_on_top k ≡ true → A
no_word n [] h w = false_not_true w
no_word n (z ∷ k) h w = go (eqb (sort z) 2) (not (eqb (sort z) 1) || eqb n 0) h w
  where
    go : {A : Type 0} (a b : Bool) → (not a && b) ≡ true → a ≡ true → A
    go true b h w = false_not_true h
    go false b h w = false_not_true w

-- a symbol is left out
sound_below : (s : Symbol) (k : List Symbol) (f i : Build) → Sound (s ∷ k) f → Sound k i
sound_below s k f i h = record { stacked = h.stacked.2; word = λ w. no_word (sort s) k h.stacked.0 w }

left_grows : (types : Types) (x : Lexeme) (n : ℕ) (ds : List Action) (f i : Build) → Left n ds → acts types ds x f ≡ some i → size_of f ≤ size_of i
unfolding size_of
left_grows types x n ds f i l e = let a = acts_grown types x ds f i false (left_appends ds l) (λ z. false_not_true z) e in omega (arith, ap length a.after, length-append (tree_marks f) a.come)
  where
    left_appends : {n : ℕ} (ds : List Action) → Left n ds → appends false ds ≡ true
    left_appends _ (left_alone a b) = refl
    left_appends _ left_closed = refl
    left_appends _ left_empty = refl

pub start_sound : Sound manifest start
unfolding is_operator
start_sound = record { stacked = (refl, λ e. refl, (refl, λ e. false_not_true e, tt)); word = λ e. false_not_true e }

module _ (types : Types) (x : Lexeme) (k' : List Symbol) (g : Build) where
  -- a step inserts at the place that is noted
  pub step_moves : (k : List Symbol) (f : Build) → step types k x f ≡ to k' g → Sound k f → Moved (pick (word_on_top k) 1 0) (inserted_at (top_before_parts k) (is_operator (kind (token_of x))) (body_of f) (start_of g) (size_of f)) (place_of x) (tree_marks f) (tree_marks g)
  unfolding inserted_at
  step_moves =
      by_step types x k' g (λ k f. Sound k f → Moved (pick (word_on_top k) 1 0) (inserted_at (top_before_parts k) (is_operator (kind (token_of x))) (body_of f) (start_of g) (size_of f)) (place_of x) (tree_marks f) (tree_marks g))
      (λ s k f ds ss r e m h. takes s k f ds ss r e h (eqb (sort s) 1) refl (eqb (sort s) 2) refl)
      (λ s k f ds i l e q later h. leaves s k f ds i l e q h (eqb (sort s) 1) refl)
    where
      nothing : (f : Build) (k : List Symbol) → Since types x f f k
      nothing f k = record { come = nothing_came (place_of x) (tree_marks f); guard = λ o. inl refl }

      takes : (s : Symbol) (k : List Symbol) (f : Build) (ds : List Action) (ss : List Symbol) → row_of s (kind (token_of x)) ≡ some (row ds ss) → acts types ds x f ≡ some g → Sound (s ∷ k) f → (a : Bool) → eqb (sort s) 1 ≡ a → (b : Bool) → eqb (sort s) 2 ≡ b → Moved (pick b 1 0) (pick a (body_of f) (pick (is_operator (kind (token_of x))) (start_of g) (size_of f))) (place_of x) (tree_marks f) (tree_marks g)
      takes s k f ds ss r e h true i b j = inserted ((sole_done types x ds f g e).before ((row_told types x s ds ss r).before i))
      takes s k f ds ss r e h false i true j = shortened ((sole_done types x ds f g e).instead_of_lem ((row_told types x s ds ss r).instead_of_lem i j) (h.word j))
      takes s k f ds ss r e h false i false j = rest_taken types x 0 g s k f f ds ss r e i j (nothing f (s ∷ k))

      not_left : {A : Type 0} (n : ℕ) (ds : List Action) → Left n ds → eqb n 1 ≡ true → A
      not_left n _ (left_alone no_sign no_one) i = false_not_true (sym no_one ∙ i)
      not_left n _ left_closed i = false_not_true i
      not_left n _ left_empty i = false_not_true i

      leaves : (s : Symbol) (k : List Symbol) (f : Build) (ds : List Action) (i : Build) → left_out s ≡ some ds → acts types ds x f ≡ some i → step types k x i ≡ to k' g → Sound (s ∷ k) f → (a : Bool) → eqb (sort s) 1 ≡ a → Moved (pick (eqb (sort s) 2) 1 0) (pick a (body_of f) (pick (is_operator (kind (token_of x))) (start_of g) (size_of f))) (place_of x) (tree_marks f) (tree_marks g)
      leaves s k f ds i l e q h true j = not_left (sort s) ds (out_left s ds l) j
      leaves s k f ds i l e q h false j = rest_left types x (pick (eqb (sort s) 2) 1 0) g s k f f ds i l e h.stacked (nothing f (s ∷ k)) (rest types x (pick (eqb (sort s) 2) 1 0) g k' f k i q)

  -- what is of sort 2 is on top only behind a word just read
  word_behind : (s : Symbol) (k : List Symbol) (f : Build) (ds : List Action) (ss : List Symbol) → row_of s (kind (token_of x)) ≡ some (row ds ss) → acts types ds x f ≡ some g → Sound (s ∷ k) f → word_on_top (ss ++ k) ≡ true → WordRead f g
  word_behind s k f ds [] r e h w = no_word (sort s) k h.stacked.0 w
  word_behind s k f ds (y ∷ ss) r e h w = let told = (row_told types x s ds (y ∷ ss) r).behind_word w in (sole_done types x ds f g e).word told.0 told.1

  -- and the machine comes to such a state again
  pub step_sound : (k : List Symbol) (f : Build) → step types k x f ≡ to k' g → Sound k f → Sound k' g
  step_sound =
      by_step types x k' g (λ k f. Sound k f → Sound k' g)
      (λ s k f ds ss r e m h. subst (λ (j : List Symbol). Sound j g) m (record { stacked = (row_told types x s ds ss r).keeps k h.stacked.0 h.stacked.1 h.stacked.2; word = λ w. (word_behind s k f ds ss r e h w).leaf }))
      (λ s k f ds i l e q later h. later (sound_below s k f i h))

  -- a step that reads one
  pub step_word : (k : List Symbol) (f : Build) → step types k x f ≡ to k' g → Sound k f → word_on_top k' ≡ true → size_of f + 3 ≤ size_of g
  step_word =
      by_step types x k' g (λ k f. Sound k f → word_on_top k' ≡ true → size_of f + 3 ≤ size_of g)
      (λ s k f ds ss r e m h w. (word_behind s k f ds ss r e h (ap word_on_top m ∙ w)).wide)
      (λ s k f ds i l e q later h w. omega (arith, later (sound_below s k f i h) w, left_grows types x (sort s) ds f i (out_left s ds l) e))

  -- so the log leads from the fields of the new tree, if it led from those of the old one
  pub step_leads : (k : List Symbol) (f : Build) (l : List Insertion) → step types k x f ≡ to k' g → Sound k f → Leads l (tree_marks f) → Leads (noted k x f g l) (tree_marks g)
  unfolding noted size_of
  step_leads k f l e h leads = moved_leads l (step_moves k f e h) leads

  -- and each entry stands for two bytes or more: one that goes again was of a word just read
  pub step_short : (k : List Symbol) (f : Build) (l : List Insertion) → step types k x f ≡ to k' g → Sound k f → 2 * length l + pick (word_on_top k) 1 0 ≤ size_of f → 2 * length (noted k x f g l) + pick (word_on_top k') 1 0 ≤ size_of g
  unfolding noted size_of
  step_short k f l e h short = go (ltb (length (tree_marks f)) (length (tree_marks g))) refl (word_on_top k') refl (step_moves k f e h)
    where
      wide : word_on_top k' ≡ true → length (tree_marks f) + 3 ≤ length (tree_marks g)
      wide = step_word k f e h

      go : (b : Bool) → ltb (length (tree_marks f)) (length (tree_marks g)) ≡ b → (w : Bool) → word_on_top k' ≡ w → Moved (pick (word_on_top k) 1 0) (inserted_at (top_before_parts k) (is_operator (kind (token_of x))) (body_of f) (start_of g) (length (tree_marks f))) (place_of x) (tree_marks f) (tree_marks g)
          → 2 * length (pick b (insertion (inserted_at (top_before_parts k) (is_operator (kind (token_of x))) (body_of f) (start_of g) (length (tree_marks f))) (length (tree_marks g) - length (tree_marks f)) (place_of x) ∷ l) l) + pick w 1 0 ≤ length (tree_marks g)
      go true i true j m = omega (arith, wide j)
      go true i false j (inserted n) = omega (arith, ltb-true (length (tree_marks f)) (length (tree_marks g)) i, grown n, n.not_one)
      go true i false j (shortened n) = absurd (omega (arith, ltb-true (length (tree_marks f)) (length (tree_marks g)) i, ap length n.before, length-append (tree_marks g) n.gone))
      go false i true j m = absurd (omega (arith, wide j, ltb-false (length (tree_marks f)) (length (tree_marks g)) i))
      go false i false j (inserted n) = omega (arith, grown n)
      go false i false j (shortened n) = omega (arith, ap length n.before, length-append (tree_marks g) n.gone, n.few)
