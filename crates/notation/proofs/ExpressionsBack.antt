-- A printed expression is read back: one lemma for each form.
use Prim.Native.Nat.{ℕ, suc, ◌+◌, ◌≤◌, ◌<◌}
use mathlib.Core.Path.{◌≡◌, refl, ap, ◌∙◌}
use mathlib.Core.List.{List, [], ◌∷◌, ◌++◌}
use mathlib.Core.Option.{some}
use mathlib.Core.Bool.{Bool, true, false, ◌&&◌}
use native.Mathlib.Omega.{arith}
use lib.Dec.{leb}
use lib.ListN.{length}
use borrow.Author.Tests.{le-leb, leb-true}
use Rattle.rules.specs.Bytes.{pick}
use Rattle.rules.specs.Catalog.{boolean_byte}
use Rattle.rules.proofs.TypedBack.{operator_byte as byte_of}
use Rattle.values.specs.declared.Value.{Value}
use Rattle.values.specs.declared.Value.TheVariants.{Integer, String, Boolean}
use Rattle.rules.specs.Tree.{Constant, Operator, plus, minus, divide, greater, equal, and, or, Expression, constant, variable, top_variable, class_variable, operation, negation, attribute_read, selector, Arms, no_arm, arm, default_arm}
use Rattle.rules.specs.Tree
use Rattle.rules.specs.Types.{Types}
use Rattle.notation.specs.Tokens.{Lexeme, lexeme, kind, token_of, right_round, left_brace, right_brace, arrow, comma, question, default_word}
use Rattle.notation.specs.Lexing.{find}
use Rattle.notation.specs.Building.{Piece, byte, Node, Nodes, empty, ◌▸◌, height, tallest, Frame, frame, Build, build, Action, around, acts, act, added, constant_node, variable_node, spelled}
use Rattle.notation.specs.Grammar.{Symbol, expression, operators, ends, sign, one, maybe, further, Entry, entry_rows, row, row_of, left_out, binds, operator_byte}
use Rattle.notation.specs.Print.{the, Rest, bracketed, operator_kind, level_of, value_token, constant_lexeme, printed, printed_arms}
use Rattle.notation.proofs.Machine.{state, ◌⇒◌, ◌▹◌, take, leave}
use Rattle.notation.proofs.Steps.{Calm, calmer, operators_pass, height_positive, added_fits, acts_first, take_begin, take_adding, take_around, take_enter, ends_here}
use Rattle.notation.proofs.Expected.{last_line, last_line_arms, bare_node, default_node, value_node, constant_node_of, node_of, arms_onto}

-- ---- Operators

in_range_lem : {A : Type 0} (l n m : ℕ) (a b : A) → l ≤ n → n ≤ m → pick (leb l n && leb n m) a b ≡ a
in_range_lem l n m a b h i = rw (le-leb l n h, le-leb n m i)

level_between : (o : Operator) → (1 ≤ level_of o) × (level_of o ≤ 7)
unfolding level_of
level_between plus = omega arith
level_between minus = omega arith
level_between divide = omega arith
level_between greater = omega arith
level_between equal = omega arith
level_between and = omega arith
level_between or = omega arith

operator_taken : (o : Operator) (l m : ℕ) → l ≤ level_of o → level_of o ≤ m → row_of (operators l m) (operator_kind o) ≡ some (row (around 0x16 (byte (byte_of o) ∷ []) ∷ []) (expression (suc (level_of o)) ∷ ends ∷ operators l (level_of o) ∷ []))
unfolding row_of operator_kind level_of binds operator_byte byte_of
operator_taken plus l m h i = in_range_lem l 6 m _ _ h i
operator_taken minus l m h i = in_range_lem l 6 m _ _ h i
operator_taken divide l m h i = in_range_lem l 7 m _ _ h i
operator_taken greater l m h i = in_range_lem l 4 m _ _ h i
operator_taken equal l m h i = in_range_lem l 5 m _ _ h i
operator_taken and l m h i = in_range_lem l 2 m _ _ h i
operator_taken or l m h i = in_range_lem l 1 m _ _ h i

operator_calm : (o : Operator) (m : ℕ) → level_of o < m → (v : ℕ) → Calm m (the v (operator_kind o))
unfolding operator_kind level_of binds
operator_calm plus m h v = h
operator_calm minus m h v = h
operator_calm divide m h v = h
operator_calm greater m h v = h
operator_calm equal m h v = h
operator_calm and m h v = h
operator_calm or m h v = h

-- an expression with an operator of level m outermost, in brackets or not
in_brackets : (types : Types) (q : Bool) (m : ℕ) (body : ℕ → Rest → List Lexeme) (last : ℕ → ℕ) (v : ℕ) {l : ℕ} → (q ≡ true → l ≤ m) → 1 ≤ m → (x : ℕ → Lexeme) (xs : Rest) {k : List Symbol} {b : ℕ} {f g : Frame} {fs : List Frame} → b < 32 →
    ((l b' : ℕ) (x : ℕ → Lexeme) (xs : Rest) (k : List Symbol) → l ≤ m → b' ≤ suc b → Calm (suc m) (x (last v)) → state types (body v (λ u. x u ∷ xs u)) (expression l ∷ k) (build b' f fs) ⇒ (state types) (x (last v) ∷ xs (last v)) (operators l m ∷ k) (build b' g fs)) →
    Calm (suc (pick q m 7)) (x (last v)) → state types (bracketed q body v (λ u. x u ∷ xs u)) (expression l ∷ k) (build b f fs) ⇒ (state types) (x (last v) ∷ xs (last v)) (operators l (pick q m 7) ∷ k) (build b g fs)
unfolding row_of acts act binds
in_brackets types true m body last v i j x xs d bare calm = bare _ _ _ _ _ (i refl) (omega arith) calm
in_brackets types false m body last v i j x xs d bare calm = take_enter types refl d ▹ bare 1 _ (λ u. the u right_round) (λ u. x u ∷ xs u) _ j (omega arith) tt ▹ (operators_pass types) tt ▹ (take types) refl refl

at_least : (q : Bool) (m n j : ℕ) → (q ≡ true → n ≤ m) → n ≤ j + 7 → n ≤ j + pick q m 7
at_least true m n j e h = let i = e refl in omega arith
at_least false m n j e h = h

-- no field that is not as listed, and no selector without an arm
abbrev pub SomeArm : Arms → Type 0
SomeArm no_arm = ⊥
SomeArm (arm c a s) = Unit {0}
SomeArm (default_arm a s) = Unit {0}

abbrev mutual
  pub Whole : Expression → Type 0
  Whole (constant c) = Unit {0}
  Whole (variable p n) = Unit {0}
  Whole (top_variable p n) = Unit {0}
  Whole (class_variable p c n) = Unit {0}
  Whole (operation p o a b) = Whole a × Whole b
  Whole (negation p a) = Whole a
  Whole (attribute_read p t n a) = Whole a
  Whole (selector p a s) = Whole a × SomeArm s × WholeArms s
  Whole (Expression.unreadable p) = ⊥

  pub WholeArms : Arms → Type 0
  WholeArms no_arm = Unit {0}
  WholeArms (arm c a s) = Whole a × WholeArms s
  WholeArms (default_arm a s) = Whole a × WholeArms s

-- the level of the operator that stands outermost in an expression printed at level n; 7 if it is in brackets or there is none
abbrev pub top_of : Expression → ℕ → ℕ
top_of (constant c) n = 7
top_of (variable p m) n = 7
top_of (top_variable p m) n = 7
top_of (class_variable p c m) n = 7
top_of (operation p o a b) n = pick (leb n (level_of o)) (level_of o) 7
top_of (negation p a) n = 7
top_of (attribute_read p t m a) n = 7
top_of (selector p a s) n = pick (leb n 3) 3 7
top_of (Expression.unreadable p) n = 7

top_above : (e : Expression) (n j : ℕ) → n ≤ j + 7 → n ≤ j + top_of e n
top_above (constant c) n j h = h
top_above (variable p m) n j h = h
top_above (top_variable p m) n j h = h
top_above (class_variable p c m) n j h = h
top_above (operation p o a b) n j h = at_least (leb n (level_of o)) (level_of o) n j (leb-true n (level_of o)) h
top_above (negation p a) n j h = h
top_above (attribute_read p t m a) n j h = h
top_above (selector p a s) n j h = at_least (leb n 3) 3 n j (leb-true n 3) h
top_above (Expression.unreadable p) n j h = h

module _ (types : Types) (S : ℕ → List ℕ) where
  -- printed at level n and read at level l, e is read whole, and operators as loose as its own may follow
  pub record Back (e : Expression) : Type 0 where
    pub back : {n l : ℕ} → l ≤ n → n ≤ 8 → (v : ℕ) (x : ℕ → Lexeme) (xs : Rest) {k : List Symbol} {b q t : ℕ} {h : List Piece} {ks : Nodes} {fs : List Frame} →
        Calm (suc (top_of e n)) (x (last_line e v)) → length fs + height (node_of S e) ≤ 32 → b + height (node_of S e) ≤ 33 →
        state types (printed S e n v (λ u. x u ∷ xs u)) (expression l ∷ k) (build b (frame q t h ks) fs) ⇒ (state types) (x (last_line e v) ∷ xs (last_line e v)) (operators l (top_of e n) ∷ k) (build b (frame q t h (ks ▸ node_of S e)) fs)

  -- ---- Constants and variables

  constant_row : (v : Value) (l : ℕ) → row_of (expression l) (kind (value_token S v)) ≡ some (row (Action.constant ∷ []) (operators l 7 ∷ []))
  unfolding row_of value_token
  constant_row (Integer z) l = refl
  constant_row (String n) l = refl
  constant_row (Boolean true) l = refl
  constant_row (Boolean false) l = refl

  constant_node_lem : (v : Value) (l : ℕ) → constant_node (lexeme 0 l (value_token S v)) ≡ value_node S l v
  unfolding constant_node value_token value_node boolean_byte
  constant_node_lem (Integer z) l = refl
  constant_node_lem (String n) l = refl
  constant_node_lem (Boolean true) l = refl
  constant_node_lem (Boolean false) l = refl

  pub constant_added : (c : Constant) (f : Build) → act types Action.constant (constant_lexeme S c) f ≡ added (constant_node_of S c) f
  unfolding act
  constant_added c f = ap (λ (q : Node). added q f) (constant_node_lem c.value c.label)

  back_constant : (c : Constant) → Back (constant c)
  unfolding printed node_of last_line
  back_constant c = record {
    back = λ i j v x xs calm deep open_brackets.
        take_adding types (constant_node_of S c) (constant_row c.value _) (constant_added c _) (omega (arith, height_positive (constant_node_of S c)));
  }

  back_variable : (p m : ℕ) → Back (variable p m)
  unfolding row_of act variable_node printed node_of last_line height
  back_variable p m = record { back = λ i j v x xs calm deep open_brackets. take_adding types _ refl refl deep }

  back_top : (p m : ℕ) → Back (top_variable p m)
  unfolding row_of act variable_node printed node_of last_line height
  back_top p m = record { back = λ i j v x xs calm deep open_brackets. take_adding types _ refl refl deep }

  back_class : (p c m : ℕ) → Back (class_variable p c m)
  unfolding row_of act variable_node printed node_of last_line height
  back_class p c m = record { back = λ i j v x xs calm deep open_brackets. take_adding types _ refl refl deep }

  -- ---- In a place where no operator may follow

  pub whole : {e : Expression} → Back e → (l : ℕ) → l ≤ 8 → (v : ℕ) (x : ℕ → Lexeme) (xs : Rest) {k : List Symbol} {b q t : ℕ} {h : List Piece} {ks : Nodes} {fs : List Frame} →
      Calm l (x (last_line e v)) → length fs + height (node_of S e) ≤ 32 → b + height (node_of S e) ≤ 33 →
      state types (printed S e l v (λ u. x u ∷ xs u)) (expression l ∷ k) (build b (frame q t h ks) fs) ⇒ (state types) (x (last_line e v) ∷ xs (last_line e v)) k (build b (frame q t h (ks ▸ node_of S e)) fs)
  whole {e} r l i v x xs calm deep open_brackets =
      r.back {n = l} {l = l} (omega arith) i v x xs (calmer (binds (kind (token_of (x (last_line e v))))) (let m = top_above e l 1 (omega arith) in omega arith) calm) deep open_brackets
      ▹ (operators_pass types) calm

  -- ---- Operators

  back_operation : (p : ℕ) (o : Operator) (a c : Expression) → Back a → Back c → Back (operation p o a c)
  unfolding printed node_of last_line height
  back_operation p o a c back_a back-c = record {
    back = λ {n} i j v x xs {b = b} {fs = fs} calm deep open_brackets.
        let between = level_between o in
        let above-a = top_above a (level_of o) 0 (omega arith) in
        in_brackets types (leb n (level_of o)) (level_of o) _ (λ w. last_line c (last_line a w)) v (λ e. let z = leb-true n (level_of o) e in omega arith) between.0 x xs (omega (arith, height_positive (node_of S a)))
        (λ l b' x xs k i' j' calm'.
        back_a.back i' (omega arith) v _ _ (operator_calm o _ (omega arith) (last_line a v)) (omega arith) (omega arith)
        ▹ (take_around types) (operator_taken o _ _ i' (omega arith)) (omega arith)
        ▹ whole back-c (suc (level_of o)) (omega arith) _ _ _ calm' (omega arith) (omega arith)
        ▹ (ends_here types))
        calm;
  }

  back_negation : (p : ℕ) (a : Expression) → Back a → Back (negation p a)
  unfolding printed node_of last_line height row_of acts
  back_negation p a back_a = record {
    back = λ i j v x xs calm deep open_brackets.
        take_begin types refl (omega arith) refl ▹ whole back_a 8 (omega arith) _ _ _ calm (omega arith) (omega arith) ▹ (ends_here types);
  }

  back_read : (p u m : ℕ) (a : Expression) → Back a → Back (attribute_read p u m a)
  unfolding printed node_of last_line height row_of act acts binds constant_node spelled
  back_read p u m a back_a = record {
    back = λ i j v x xs calm deep open_brackets.
        take_adding types _ refl refl (omega arith) ▹ (take types) refl refl ▹ whole back_a 1 (omega arith) _ _ _ tt (omega arith) (omega arith)
        ▹ (take types) refl refl ▹ (take types) refl refl ▹ (take types) refl refl ▹ (take types) refl refl ▹ (ends_here types);
  }

  -- ---- Selectors

  arms_taller : (s : Arms) (ks : Nodes) → tallest ks ≤ tallest (arms_onto S s ks)
  unfolding arms_onto height
  arms_taller no_arm ks = omega arith
  arms_taller (arm c a s) ks = omega (arith, arms_taller s (ks ▸ bare_node 0x1a [] (empty ▸ constant_node_of S c ▸ node_of S a)))
  arms_taller (default_arm a s) ks = omega (arith, arms_taller s (ks ▸ bare_node 0x1a [] (empty ▸ default_node ▸ node_of S a)))

  -- arms behind the first one, each with a comma before it
  record ArmsBack (s : Arms) : Type 0 where
    arms_back : (v : ℕ) (xs : Rest) {k : List Symbol} {b q t : ℕ} {h : List Piece} {ks : Nodes} {fs : List Frame} →
        length fs + tallest (arms_onto S s ks) ≤ 32 → b + tallest (arms_onto S s ks) ≤ 33 →
        state types (printed_arms S s true v (λ u. the u right_brace ∷ xs u)) (further Entry.arm ∷ k) (build b (frame q t h ks) fs)
        ⇒ (state types) (the (last_line_arms s v) right_brace ∷ xs (last_line_arms s v)) k (build b (frame q t h (arms_onto S s ks)) fs)

  -- what is printed from them on begins with a token that is no operator
  with_arms : (s : Arms) (P : Rest → Type 0) (xs : Rest) → ((y : ℕ → Lexeme) (ys : Rest) → ((u : ℕ) → Calm 1 (y u)) → P (λ u. y u ∷ ys u)) → P (λ u. printed_arms S s true u (λ w. the w right_brace ∷ xs w))
  unfolding printed_arms binds
  with_arms no_arm P xs f = f (λ u. the u right_brace) xs (λ u. tt)
  with_arms (arm c a s) P xs f = f (λ u. the u comma) _ (λ u. tt)
  with_arms (default_arm a s) P xs f = f (λ u. the u comma) _ (λ u. tt)

  -- a symbol with which an arm begins
  abbrev Starts : Symbol → Type 0
  Starts y = (m : ℕ) → row_of y m ≡ find m (entry_rows Entry.arm)

  abbrev behind_pattern : List Symbol
  behind_pattern = sign arrow ∷ expression 1 ∷ ends ∷ further Entry.arm ∷ []

  arm_row : (v : Value) → find (kind (value_token S v)) (entry_rows Entry.arm) ≡ some (row (Action.begin 0x1a ∷ Action.constant ∷ []) behind_pattern)
  unfolding value_token
  arm_row (Integer z) = refl
  arm_row (String n) = refl
  arm_row (Boolean true) = refl
  arm_row (Boolean false) = refl

  -- behind a pattern n: the arrow and the expression, up to the next arm
  arm_rest : {a : Expression} → Back a → (v : ℕ) (y : ℕ → Lexeme) (ys : Rest) {n : Node} {k : List Symbol} {b q t : ℕ} {h : List Piece} {ks : Nodes} {fs : List Frame} → ((u : ℕ) → Calm 1 (y u)) →
      suc (length fs) + height (node_of S a) ≤ 32 → b + height (node_of S a) ≤ 33 →
      state types (the v arrow ∷ printed S a 1 v (λ u. y u ∷ ys u)) (behind_pattern ++ k) (build b (frame 0 0x1a [] (empty ▸ n)) (frame q t h ks ∷ fs))
      ⇒ (state types) (y (last_line a v) ∷ ys (last_line a v)) (further Entry.arm ∷ k) (build b (frame q t h (ks ▸ bare_node 0x1a [] (empty ▸ n ▸ node_of S a))) fs)
  unfolding row_of acts binds
  arm_rest back_a v y ys calm d e = take types refl refl ▹ whole back_a 1 (omega arith) _ _ _ (calm _) d e ▹ (ends_here types)

  -- behind a pattern n, with the arms that follow
  arms_rest : {a : Expression} (s : Arms) → Back a → ArmsBack s → (v : ℕ) (xs : Rest) (n : Node) {k : List Symbol} {b q t : ℕ} {h : List Piece} {ks : Nodes} {fs : List Frame} →
      length fs + tallest (arms_onto S s (ks ▸ bare_node 0x1a [] (empty ▸ n ▸ node_of S a))) ≤ 32 → b + tallest (arms_onto S s (ks ▸ bare_node 0x1a [] (empty ▸ n ▸ node_of S a))) ≤ 33 →
      state types (the v arrow ∷ printed S a 1 v (λ u. printed_arms S s true u (λ w. the w right_brace ∷ xs w))) (behind_pattern ++ k) (build b (frame 0 0x1a [] (empty ▸ n)) (frame q t h ks ∷ fs))
      ⇒ (state types) (the (last_line_arms s (last_line a v)) right_brace ∷ xs (last_line_arms s (last_line a v))) k (build b (frame q t h (arms_onto S s (ks ▸ bare_node 0x1a [] (empty ▸ n ▸ node_of S a)))) fs)
  unfolding height
  arms_rest {a} s back_a back_s v xs n {k} {b} {q} {t} {h} {ks} {fs} d e =
      let taller = arms_taller s (ks ▸ bare_node 0x1a [] (empty ▸ n ▸ node_of S a)) in
      let deep : suc (length fs) + height (node_of S a) ≤ 32 = omega arith in
      let open_brackets : b + height (node_of S a) ≤ 33 = omega arith in
      with_arms s (λ rest. state types (the v arrow ∷ printed S a 1 v rest) (behind_pattern ++ k) (build b (frame 0 0x1a [] (empty ▸ n)) (frame q t h ks ∷ fs))
      ⇒ (state types) (rest (last_line a v)) (further Entry.arm ∷ k) (build b (frame q t h (ks ▸ bare_node 0x1a [] (empty ▸ n ▸ node_of S a))) fs)) xs
      (λ y ys calm. arm_rest back_a v y ys calm deep open_brackets)
      ▹ back_s.arms_back _ _ d e

  -- an arm at a symbol y with which one begins, and the arms that follow
  arm_back : (y : Symbol) → Starts y → (c : Constant) (a : Expression) (s : Arms) → Back a → ArmsBack s → (xs : Rest) {k : List Symbol} {b q t : ℕ} {h : List Piece} {ks : Nodes} {fs : List Frame} →
      length fs + tallest (arms_onto S (arm c a s) ks) ≤ 32 → b + tallest (arms_onto S (arm c a s) ks) ≤ 33 →
      state types (constant_lexeme S c ∷ the c.label arrow ∷ printed S a 1 c.label (λ u. printed_arms S s true u (λ w. the w right_brace ∷ xs w))) (y ∷ k) (build b (frame q t h ks) fs)
      ⇒ (state types) (the (last_line_arms s (last_line a c.label)) right_brace ∷ xs (last_line_arms s (last_line a c.label))) k (build b (frame q t h (arms_onto S (arm c a s) ks)) fs)
  unfolding arms_onto height acts
  arm_back y starts c a s back_a back_s xs {ks = ks} d e =
      let taller = arms_taller s (ks ▸ bare_node 0x1a [] (empty ▸ constant_node_of S c ▸ node_of S a)) in
      take_begin types (starts _ ∙ arm_row c.value) (omega arith) (acts_first types _ [] _ _ _ (constant_added c _ ∙ added_fits (constant_node_of S c) _ _ _ _ _ _ (omega (arith, height_positive (node_of S a)))))
      ▹ arms_rest s back_a back_s _ _ (constant_node_of S c) d e

  default_arm_back : (y : Symbol) → Starts y → (a : Expression) (s : Arms) → Back a → ArmsBack s → (v : ℕ) (xs : Rest) {k : List Symbol} {b q t : ℕ} {h : List Piece} {ks : Nodes} {fs : List Frame} →
      length fs + tallest (arms_onto S (default_arm a s) ks) ≤ 32 → b + tallest (arms_onto S (default_arm a s) ks) ≤ 33 →
      state types (the v default_word ∷ the v arrow ∷ printed S a 1 v (λ u. printed_arms S s true u (λ w. the w right_brace ∷ xs w))) (y ∷ k) (build b (frame q t h ks) fs)
      ⇒ (state types) (the (last_line_arms s (last_line a v)) right_brace ∷ xs (last_line_arms s (last_line a v))) k (build b (frame q t h (arms_onto S (default_arm a s) ks)) fs)
  unfolding arms_onto height acts act
  default_arm_back y starts a s back_a back_s v xs {ks = ks} d e =
      let taller = arms_taller s (ks ▸ bare_node 0x1a [] (empty ▸ default_node ▸ node_of S a)) in
      take_begin types (starts _) (omega arith) (acts_first types (Action.void 0x1b) [] (the v default_word) _ _ (added_fits _ _ _ _ _ _ _ (omega (arith, height_positive (node_of S a)))))
      ▹ arms_rest s back_a back_s _ _ default_node d e

  back_no_arm : ArmsBack no_arm
  unfolding printed_arms arms_onto last_line row_of left_out acts
  back_no_arm = record { arms_back = λ v xs d e. leave types refl refl refl }

  back_arm : (c : Constant) (a : Expression) (s : Arms) → Back a → ArmsBack s → ArmsBack (arm c a s)
  unfolding printed_arms last_line row_of acts
  back_arm c a s back_a back_s = record { arms_back = λ v xs d e. take types refl refl ▹ arm_back (maybe Entry.arm) (λ m. refl) c a s back_a back_s xs d e }

  back_default : (a : Expression) (s : Arms) → Back a → ArmsBack s → ArmsBack (default_arm a s)
  unfolding printed_arms last_line row_of acts
  back_default a s back_a back_s = record { arms_back = λ v xs d e. take types refl refl ▹ default_arm_back (maybe Entry.arm) (λ m. refl) a s back_a back_s _ xs d e }

  -- each expression of the arms is read back, and so are the arms behind it
  abbrev EachArm : Arms → Type 0
  EachArm no_arm = Unit {0}
  EachArm (arm c a s) = Back a × ArmsBack s
  EachArm (default_arm a s) = Back a × ArmsBack s

  -- the first arm has no comma before it
  first_arm : (s : Arms) → SomeArm s → EachArm s → (v : ℕ) (xs : Rest) {k : List Symbol} {b q t : ℕ} {h : List Piece} {ks : Nodes} {fs : List Frame} →
      length fs + tallest (arms_onto S s ks) ≤ 32 → b + tallest (arms_onto S s ks) ≤ 33 →
      state types (printed_arms S s false v (λ u. the u right_brace ∷ xs u)) (one Entry.arm ∷ k) (build b (frame q t h ks) fs)
      ⇒ (state types) (the (last_line_arms s v) right_brace ∷ xs (last_line_arms s v)) k (build b (frame q t h (arms_onto S s ks)) fs)
  unfolding printed_arms last_line row_of
  first_arm no_arm h w v xs d e = absurd h
  first_arm (arm c a s) h w v xs d e = arm_back (one Entry.arm) (λ m. refl) c a s w.0 w.1 xs d e
  first_arm (default_arm a s) h w v xs d e = default_arm_back (one Entry.arm) (λ m. refl) a s w.0 w.1 _ xs d e

  selector_taken : (l m : ℕ) → l ≤ 3 → 3 ≤ m → row_of (operators l m) question ≡ some (row (around 0x19 [] ∷ []) (sign left_brace ∷ one Entry.arm ∷ sign right_brace ∷ ends ∷ operators l 3 ∷ []))
  unfolding row_of binds
  selector_taken l m h i = in_range_lem l 3 m _ _ h i

  back_selector : (p : ℕ) (a : Expression) (s : Arms) → SomeArm s → Back a → EachArm s → Back (selector p a s)
  unfolding printed node_of last_line height row_of acts binds
  back_selector p a s some_arm back_a back_s = record {
    back = λ {n} i j v x xs calm deep open_brackets.
        let taller = arms_taller s (empty ▸ node_of S a) in
        let above-a = top_above a 3 0 (omega arith) in
        in_brackets types (leb n 3) 3 _ (λ w. last_line_arms s (last_line a w)) v (λ e. let z = leb-true n 3 e in omega arith) (omega arith) x xs (omega (arith, height_positive (node_of S a)))
        (λ l b' x xs k i' j' calm'.
        back_a.back i' (omega arith) v _ _ (omega arith) (omega arith) (omega arith)
        ▹ (take_around types) (selector_taken l (top_of a 3) i' (omega arith)) (omega arith)
        ▹ (take types) refl refl ▹ first_arm s some_arm back_s _ _ (omega arith) (omega arith) ▹ (take types) refl refl ▹ (ends_here types))
        calm;
  }

  -- ---- Every expression

  mutual
    pub every : (e : Expression) → Whole e → Back e
    every (constant c) w = back_constant c
    every (variable p m) w = back_variable p m
    every (top_variable p m) w = back_top p m
    every (class_variable p c m) w = back_class p c m
    every (operation p o a c) w = back_operation p o a c (every a w.0) (every c w.1)
    every (negation p a) w = back_negation p a (every a w)
    every (attribute_read p u m a) w = back_read p u m a (every a w)
    every (selector p a s) w = back_selector p a s w.1 (every a w.0) (every_arm s w.2).1
    every (Expression.unreadable p) w = absurd w

    every_arm : (s : Arms) → WholeArms s → ArmsBack s × EachArm s
    every_arm no_arm w = (back_no_arm, tt)
    every_arm (arm c a s) w = (back_arm c a s (every a w.0) (every_arm s w.1).0, (every a w.0, (every_arm s w.1).0))
    every_arm (default_arm a s) w = (back_default a s (every a w.0) (every_arm s w.1).0, (every a w.0, (every_arm s w.1).0))
