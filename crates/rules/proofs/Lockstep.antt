-- Two runs of one tree, statement by statement. Two states are related if they are low, with the same declared classes and trail and with
-- the same values in every cell that is not marked high; or if both trails are high. In both cases the catalogs are the same but for high
-- entries.
use Prim.Native.Nat.{ℕ}
use mathlib.Core.Path.{◌≡◌, refl, sym, ap, ap₂, ◌∙◌}
use mathlib.Core.Logic.{inl, inr}
use mathlib.Core.Bool.{Bool, true, false, ◌||◌, ◌&&◌, true≢false, false≢true}
use mathlib.Core.List.{List}
use mathlib.Core.Option.{Option, none, some}
use Rattle.labels.specs.declared.Labels.{Labels}
use Rattle.labels.specs.Sets.{◌∪◌}
use Rattle.values.specs.declared.Value.{Value}
use Rattle.values.specs.declared.Labelled.{Labelled}
use Rattle.values.specs.declared.Reason.{Reason}
use Rattle.rules.specs.Outcome.{Outcome, ◌>>=◌, refuse_if}
use Rattle.rules.specs.Tree.{AttributeField, Statement, Block, Branches}
use Rattle.rules.specs.Patterns.{chosen, tried_labels}
use Rattle.rules.specs.State.{Scope, same_scope, DeclaredClass, Cell, Cells, Entry, State, Context, Known, is_declared, value_into, mark_into, assign, trail_with, tested, with_entry}
use Rattle.rules.specs.Run.{assigns, assigns_in, assigns_any, declares, declares_in, declares_any, with_path_and_trail, in_branch, stored, store, Given, evaluate_all, attributes_under, entry_from, add_entry, add_resource, after_test, Declaration, of_type, of_class, included, Declare, do_nothing, run, run_block, branch_patterns}
use Rattle.rules.proofs.Same.{Edit, High, high_left, high_right, Pairwise, none_paired, paired, both_some, SameAttributeField, same_attribute_field, SameStatement, same_assignment, same_conditional, same_choice, same_resource, same_defined, same_class, same_include, same_unreadable_statement, SameBlock, same_end, same_next, SameBranches, same_no_branch, same_branch, same_default_branch}
use Rattle.rules.proofs.Patterns.{SamePatterns, same_no_pattern, same_constant_pattern, same_default_pattern, SameChoice, high_patterns, same_patterns, choice_same}
use Rattle.rules.proofs.Outcome.{All, all_then, all_map, all_both, all_if, all_passed, Two, left_refused, right_refused, both_done, apart, two_bind, two_any, two_all, two_then, two_at, two_if, two_step}
use Rattle.rules.proofs.Lists.{or_true_left, or_true_right, either_left, either_right, both_true, scope_same}
use Rattle.rules.proofs.Unique.{UniqueEntries, unique, named_once_lem, unique_under}
use Rattle.rules.proofs.Evaluation.{under_same, SameLabelled, both_high, equals, SameCell, high_cell, low_cell, SameCells, SameAttribute, same_attribute, same_entry, SameCatalog, entry_both, entry_left, entry_right, SameView, evaluate_same}
use Rattle.rules.proofs.Quiet.{Growth, growth_left, growth_right, growth_unique, QuietFrom, QuietDeclare, entry_high, block_quiet, branch_quiet}
use Rattle.rules.proofs.Frame.{mk, Keeps, kept_cell, marked_cell, keeps_high, Frame, frame, FrameFrom, block_frame, branch_frame}

module _ (D : Edit) where
  -- ---- Related states

  -- one set of declared classes and one trail: the same variables on both sides, so that no equation is carried
  pub data Low : State → State → Type 0 where
    low : {c d : Cells} {q : ℕ → Option DeclaredClass} {t : Labels} {es fs : List Entry} {u u' n n' r r' : ℕ} → SameCells D c d → SameCatalog D es fs → UniqueEntries es → UniqueEntries fs → Low (mk c u q t es n r) (mk d u' q t fs n' r')

  pub data Related : State → State → Type 0 where
    related_low : {st st' : State} → Low st st' → Related st st'
    related_high : {st st' : State} → High D st.trail → High D st'.trail → SameCatalog D st.entries st'.entries → UniqueEntries st.entries → UniqueEntries st'.entries → Related st st'

  -- what goes on after two related states
  abbrev pub QuietRun : (State → Outcome State) → Type 0
  QuietRun f = (st : State) → High D st.trail → All (QuietFrom D st) (f st)

  pub go_on : {f g : State → Outcome State} → QuietRun f → QuietRun g → ((st st' : State) → Low st st' → Two Related (f st) (g st')) → {st st' : State} → Related st st' → Two Related (f st) (g st')
  go_on qf qg k (related_low l) = k _ _ l
  go_on qf qg k (related_high h h' r u u') = apart (qf _ h) (qg _ h') λ st st' p p'. related_high (p.stays h) (p'.stays h') (growth_left D p.growth (growth_right D p'.growth r)) (growth_unique D p.growth u) (growth_unique D p'.growth u')

  pub low_view : {st st' : State} → Low st st' → SameView D st st'
  low_view (low hc hk u u') = record { cells = hc; classes = refl; catalogs = hk; once = u; once' = u' }

  -- ---- One tree: the same names assigned, the same declarations

  mutual
    unfolding assigns

    assigns_same : {s s' : Statement} → SameStatement D s s' → (n : ℕ) → assigns s n ≡ assigns s' n
    assigns_same (same_assignment e) n = refl
    assigns_same (same_conditional e a b) n = ap₂ ◌||◌ (assigns_same_in a n) (assigns_same_in b n)
    assigns_same (same_choice e bs) n = assigns_same_any bs n
    assigns_same (same_resource e fs) n = refl
    assigns_same (same_defined e fs) n = refl
    assigns_same (same_class fs) n = refl
    assigns_same same_include n = refl
    assigns_same same_unreadable_statement n = refl

    assigns_same_in : {b b' : Block} → SameBlock D b b' → (n : ℕ) → assigns_in b n ≡ assigns_in b' n
    assigns_same_in same_end n = refl
    assigns_same_in (same_next s b) n = ap₂ ◌||◌ (assigns_same s n) (assigns_same_in b n)

    assigns_same_any : {bs bs' : Branches} → SameBranches D bs bs' → (n : ℕ) → assigns_any bs n ≡ assigns_any bs' n
    assigns_same_any same_no_branch n = refl
    assigns_same_any (same_branch v b bs) n = ap₂ ◌||◌ (assigns_same_in b n) (assigns_same_any bs n)
    assigns_same_any (same_default_branch b bs) n = ap₂ ◌||◌ (assigns_same_in b n) (assigns_same_any bs n)

  mutual
    unfolding declares

    declares_same : {s s' : Statement} → SameStatement D s s' → declares s ≡ declares s'
    declares_same (same_assignment e) = refl
    declares_same (same_conditional e a b) = ap₂ ◌||◌ (declares_same_in a) (declares_same_in b)
    declares_same (same_choice e bs) = declares_same_any bs
    declares_same (same_resource e fs) = refl
    declares_same (same_defined e fs) = refl
    declares_same (same_class fs) = refl
    declares_same same_include = refl
    declares_same same_unreadable_statement = refl

    declares_same_in : {b b' : Block} → SameBlock D b b' → declares_in b ≡ declares_in b'
    declares_same_in same_end = refl
    declares_same_in (same_next s b) = ap₂ ◌||◌ (declares_same s) (declares_same_in b)

    declares_same_any : {bs bs' : Branches} → SameBranches D bs bs' → declares_any bs ≡ declares_any bs'
    declares_same_any same_no_branch = refl
    declares_same_any (same_branch v b bs) = ap₂ ◌||◌ (declares_same_in b) (declares_same_any bs)
    declares_same_any (same_default_branch b bs) = ap₂ ◌||◌ (declares_same_in b) (declares_same_any bs)

  -- ---- Cells

  keeps_same : {c d c' d' : Cell} → SameCell D c d → Keeps D c c' → Keeps D d d' → SameCell D c' d'
  keeps_same r kept_cell kept_cell = r
  keeps_same (high_cell h g) kept_cell (marked_cell x y) = high_cell h y
  keeps_same (low_cell v) kept_cell (marked_cell x y) = high_cell x y
  keeps_same (high_cell h g) (marked_cell x y) kept_cell = high_cell y g
  keeps_same (low_cell v) (marked_cell x y) kept_cell = high_cell y x
  keeps_same r (marked_cell x y) (marked_cell x' y') = high_cell y y'

  value_same : (b : Bool) {x y : Labelled} {c d : Cell} → SameCell D c d → SameLabelled D x y → SameCell D (value_into b x c) (value_into b y d)
  unfolding value_into
  value_same true (high_cell h g) w = high_cell h g
  value_same true (low_cell v) w = low_cell (both_some w)
  value_same false r w = r

  mark_same : (b b' : Bool) (k : Labels) {c d : Cell} → b ≡ b' → SameCell D c d → SameCell D (mark_into b k c) (mark_into b' k d)
  unfolding mark_into
  mark_same true true k e (high_cell h g) = high_cell (high_right D _ h) (high_right D _ g)
  mark_same true true k e (low_cell v) = low_cell v
  mark_same true false k e r = absurd (true≢false e)
  mark_same false true k e r = absurd (false≢true e)
  mark_same false false k e r = r

  -- ---- Values, attributes, assignments

  pub data SameGiven : Given → Given → Type 0 where
    same_given : {p q n : ℕ} {x y : Labelled} → SameLabelled D x y → SameGiven (record { place = p; name = n; content = x }) (record { place = q; name = n; content = y })

  abbrev pub SameGivens : List Given → List Given → Type 0
  SameGivens = Pairwise SameGiven

  evaluate_all_same : (k k' : Known) (c : Context) {st st' : State} → SameView D st st' → {fs fs' : List AttributeField} → Pairwise (SameAttributeField D) fs fs' → Two SameGivens (evaluate_all k c st fs) (evaluate_all k' c st' fs')
  unfolding evaluate_all
  evaluate_all_same k k' c v none_paired = both_done none_paired
  evaluate_all_same k k' c v (paired (same_attribute_field e) r) = two_bind (evaluate_same D k k' c v e) λ x y h. two_bind (evaluate_all_same k k' c v r) λ gs gs' g. both_done (paired (same_given h) g)

  pub store_low : (c : Context) (p q n : ℕ) {x y : Labelled} {st st' : State} → SameLabelled D x y → Low st st' → Two Related (store c p n x st) (store c q n y st')
  unfolding store assign stored
  store_low c p q n w (low {t = t} hc hk u u') = two_any _ _ λ _ _. two_any _ _ λ _ _. both_done (related_low (low (λ s m. value_same _ (hc s m) (under_same D (c.path ∪ t) w)) hk u u'))

  attributes_under_same : (k : Labels) (c : Context) {st st' : State} → Low st st' → {gs gs' : List Given} → SameGivens gs gs' → Pairwise (SameAttribute D) (attributes_under k c st gs) (attributes_under k c st' gs')
  unfolding attributes_under stored
  attributes_under_same k c l none_paired = none_paired
  attributes_under_same k c (low {q = q} {t = t} {u = v} {u' = v'} {n = i} {n' = i'} {r = x} {r' = x'} hc hk u u') (paired (same_given w) p) = paired (same_attribute (under_same D k (under_same D (c.path ∪ t) w))) (attributes_under_same k c (low {q = q} {u = v} {u' = v'} {n = i} {n' = i'} {r = x} {r' = x'} hc hk u u') p)

  -- a bind on two values with their sets, by cases
  by_value : {A B : Type 0} {S : A → B → Type 0} {m n : Outcome Labelled} {f : Labelled → Outcome A} {g : Labelled → Outcome B} → Two (SameLabelled D) m n → ((x y : Labelled) → High D x.labels → High D y.labels → Two S (f x) (g y)) → ((x : Labelled) → Two S (f x) (g x)) → Two S (m >>= f) (n >>= g)
  unfolding ◌>>=◌
  by_value left_refused j k = left_refused
  by_value right_refused j k = right_refused
  by_value (both_done (both_high h g)) j k = j _ _ h g
  by_value (both_done equals) j k = k _

  -- both pass a check
  passed : {A B : Type 0} {S : A → B → Type 0} (b b' : Bool) (r r' : Reason) (p p' : ℕ) {f : Unit {0} → Outcome A} {g : Unit {0} → Outcome B} → ((z z' : Unit {0}) → b ≡ false → b' ≡ false → Two S (f z) (g z')) → Two S (refuse_if b r p >>= f) (refuse_if b' r' p' >>= g)
  passed b b' r r' p p' k = two_all (all_passed b r p) (all_passed b' r' p') k

  -- ---- Resources

  -- high on both sides: each catalog gets an entry of its own
  add_high : (k k' : Known) (p q t m m' : ℕ) (s s' : Labels) (o o' : ℕ → Labels) (gs gs' : List Given) (c : Context) {st st' : State} → Low st st' → High D s → High D s' → Two Related (add_resource k p t m s o gs c st) (add_resource k' q t m' s' o' gs' c st')
  unfolding add_resource add_entry with_entry entry_from with_path_and_trail
  add_high k k' p q t m m' s s' o o' gs gs' c {st} {st'} (low hc hk u u') h h' = two_any _ _ λ _ _. passed _ _ _ _ _ _ λ _ _ f f'. two_any _ _ λ _ _. two_any _ _ λ _ _.
      both_done (related_low (low hc (entry_left (entry_high D t m s o c st gs (high_right D _ h)) (entry_right (entry_high D t m' s' o' c st' gs' (high_right D _ h')) hk)) (unique f u) (unique f' u')))

  add_low : (k k' : Known) (p q t m : ℕ) (s : Labels) (o o' : ℕ → Labels) {gs gs' : List Given} (c : Context) {st st' : State} → Low st st' → SameGivens gs gs' → Two Related (add_resource k p t m s o gs c st) (add_resource k' q t m s o' gs' c st')
  unfolding add_resource add_entry with_entry entry_from with_path_and_trail
  add_low k k' p q t m s o o' {gs} {gs'} c {st} {st'} (low {t = w} hc hk u u') g = two_any _ _ λ _ _. passed _ _ _ _ _ _ λ _ _ f f'. two_all (named_once_lem gs) (named_once_lem gs') λ _ _ d d'. two_any _ _ λ _ _.
      both_done (related_low (low hc (entry_both (same_entry (attributes_under_same ((c.path ∪ w) ∪ s) c (low hc hk u u') g) (unique_under _ c st d) (unique_under _ c st' d')) hk) (unique f u) (unique f' u')))

  -- ---- What a condition with a high set does to one run, whatever branch is taken

  -- a cell that is marked now, or kept
  data Blur : Bool → Cell → Cell → Type 0 where
    blurred : {c d : Cell} → High D d.mark → Blur true c d
    kept : {c d : Cell} → Keeps D c d → Blur false c d

  -- a branch holds a declaration and the trail is high; or the names assigned end with high marks and every other cell is kept
  data Effect (s : Scope) (names : ℕ → Bool) (i : Bool) (c : Cells) (q : ℕ → Option DeclaredClass) (t : Labels) : State → Type 0 where
    high_trail : {st : State} → i ≡ true → High D st.trail → Effect s names i c q t st
    only_marks : {d : Cells} {es : List Entry} {u n r : ℕ} → i ≡ false → ((t' : Scope) (m : ℕ) → Blur (same_scope t' s && names m) (c t' m) (d t' m)) → Effect s names i c q t (mk d u q t es n r)

  record Cond (s : Scope) (names : ℕ → Bool) (i : Bool) (st st' : State) : Type 0 where
    growth : Growth D st.entries st'.entries
    effect : Effect s names i st.cells st.classes st.trail st'

  blur_mark : (b : Bool) (k : Labels) (c : Cell) {d : Cell} → High D k → Keeps D (mark_into b k c) d → Blur b c d
  unfolding mark_into
  blur_mark true k c h g = blurred (keeps_high D g (high_left D _ h))
  blur_mark false k c h g = kept g

  blur_same : {b b' : Bool} {c c' d d' : Cell} → b ≡ b' → SameCell D c d → Blur b c c' → Blur b' d d' → SameCell D c' d'
  blur_same e r (blurred h) (blurred h') = high_cell h h'
  blur_same e r (blurred h) (kept k') = absurd (true≢false e)
  blur_same e r (kept k) (blurred h') = absurd (false≢true e)
  blur_same e r (kept k) (kept k') = keeps_same r k k'

  frame_effect : (s : Scope) (names : ℕ → Bool) (k : Labels) {c : Cells} {q : ℕ → Option DeclaredClass} {t : Labels} {st : State} → High D k → Frame D (λ t' m. mark_into (same_scope t' s && names m) k (c t' m)) q t st → Effect s names false c q t st
  frame_effect s names k h (frame g) = only_marks refl λ t' m. blur_mark _ k _ h (g t' m)

  -- what runs after the test is quiet, and framed where no branch holds a declaration
  condition : (s : Scope) (names : ℕ → Bool) (i : Bool) (k : Labels) (st : State) {m : Outcome State} → High D k → All (QuietFrom D (tested s names i k st)) m → (i ≡ false → All (FrameFrom D (tested s names i k st)) m) → All (Cond s names i st) m
  unfolding tested trail_with
  condition s names true k st h q f = all_map q λ st' z. record { growth = z.growth; effect = high_trail refl (z.stays (high_left D _ h)) }
  condition s names false k st h q f = all_map (all_both q (f refl)) λ st' z. record { growth = z.0.growth; effect = frame_effect s names k h z.1 }

  mark_high : (b : Bool) (k : Labels) (c : Cell) → High D k → b ≡ true → High D (mark_into b k c).mark
  unfolding mark_into
  mark_high true k c h e = high_left D _ h
  mark_high false k c h e = absurd (false≢true e)

  module _ (k : Known) (declare : Declare) (quietly : QuietDeclare D declare) where
    block_condition : (b : Block) (names : ℕ → Bool) (i : Bool) (s : Labels) (c : Context) (st : State) → High D s → ((n : ℕ) → assigns_in b n ≡ true → names n ≡ true) → (i ≡ false → declares_in b ≡ false) → All (Cond c.scope names i st) (run_block k declare b (in_branch s c) (tested c.scope names i s st))
    unfolding in_branch tested
    block_condition b names i s c st h m e = condition c.scope names i s st h (block_quiet D k declare quietly b _ _ (inl (high_left D _ h))) λ z. block_frame D k declare b _ _ (high_left D _ h) (e z) λ n g. mark_high _ s _ h (both_true (same_scope c.scope c.scope) (names n) (scope_same c.scope) (m n g))

    if_condition : (p : ℕ) (a b : Block) (t : Bool) (s : Labels) (c : Context) (st : State) → High D s → All (Cond c.scope (λ n. assigns_in a n || assigns_in b n) (declares_in a || declares_in b) st) (after_test p c (λ n. assigns_in a n || assigns_in b n) (declares_in a || declares_in b) s st >>= λ st'. elim t [ true ↦ run_block k declare a (in_branch s c) st' | false ↦ run_block k declare b (in_branch s c) st' ])
    unfolding after_test
    if_condition p a b t s c st h = all_then _ _ _ (all_if t
        (block_condition a (λ n. assigns_in a n || assigns_in b n) (declares_in a || declares_in b) s c st h (λ n g. or_true_left (assigns_in a n) (assigns_in b n) g) (λ z. either_left (declares_in a) (declares_in b) z))
        (block_condition b (λ n. assigns_in a n || assigns_in b n) (declares_in a || declares_in b) s c st h (λ n g. or_true_right (assigns_in a n) (assigns_in b n) g) (λ z. either_right (declares_in a) (declares_in b) z)))

    case_condition : (p : ℕ) (bs : Branches) (x : Value) (s : Labels) (c : Context) (st : State) → High D s → All (Cond c.scope (assigns_any bs) (declares_any bs) st) (after_test p c (assigns_any bs) (declares_any bs) s st >>= λ st'. chosen (branch_patterns k declare bs) x do_nothing (in_branch s c) st')
    unfolding after_test in_branch tested
    case_condition p bs x s c st h = all_then _ _ _ (condition c.scope (assigns_any bs) (declares_any bs) s st h (branch_quiet D k declare quietly bs x _ _ (inl (high_left D _ h))) λ z. branch_frame D k declare bs x _ _ (high_left D _ h) z λ n g. mark_high _ s _ h (both_true (same_scope c.scope c.scope) (assigns_any bs n) (scope_same c.scope) g))

  effect_two : (s : Scope) (names names' : ℕ → Bool) {i i' : Bool} {st st' sa sb : State} → i ≡ i' → ((n : ℕ) → names n ≡ names' n) → Low st st' → Growth D st.entries sa.entries → Growth D st'.entries sb.entries
      → Effect s names i st.cells st.classes st.trail sa → Effect s names' i' st'.cells st'.classes st'.trail sb → Related sa sb
  effect_two s f f' e g (low hc hk u u') x x' (high_trail j h) (high_trail j' h') = related_high h h' (growth_left D x (growth_right D x' hk)) (growth_unique D x u) (growth_unique D x' u')
  effect_two s f f' e g (low hc hk u u') x x' (high_trail j h) (only_marks j' b') = absurd (true≢false (sym j ∙ e ∙ j'))
  effect_two s f f' e g (low hc hk u u') x x' (only_marks j b) (high_trail j' h') = absurd (false≢true (sym j ∙ e ∙ j'))
  effect_two s f f' e g (low hc hk u u') x x' (only_marks j b) (only_marks j' b') = related_low (low (λ t n. blur_same (ap (λ (z : Bool). same_scope t s && z) (g n)) (hc t n) (b t n) (b' t n)) (growth_left D x (growth_right D x' hk)) (growth_unique D x u) (growth_unique D x' u'))

  condition_two : (s : Scope) (names names' : ℕ → Bool) (i i' : Bool) {st st' : State} {m m' : Outcome State} → i ≡ i' → ((n : ℕ) → names n ≡ names' n) → Low st st' → All (Cond s names i st) m → All (Cond s names' i' st') m' → Two Related m m'
  condition_two s f f' i i' e g l a a' = apart a a' λ sa sb z z'. effect_two s f f' e g l z.growth z'.growth z.effect z'.effect

  -- ---- A condition with one set on both sides

  tested_same : (s : Scope) (names names' : ℕ → Bool) (i i' : Bool) (k : Labels) {st st' : State} → ((n : ℕ) → names n ≡ names' n) → i ≡ i' → Low st st' → Related (tested s names i k st) (tested s names' i' k st')
  unfolding tested
  tested_same s f f' i i' k e e' (low hc hk u u') = rw e' (related_low (low (λ t n. mark_same _ _ k (ap (λ (b : Bool). same_scope t s && b) (e n)) (hc t n)) hk u u'))

  abbrev pub declared_in : (ℕ → Option DeclaredClass) → ℕ → Bool
  declared_in q n = elim (q n) [ none ↦ false | some d ↦ true ]

  -- ---- Declarations asked for

  pub data SameDeclaration : Declaration → Declaration → Type 0 where
    same_of_type : {p q t : ℕ} {x y : Labelled} {gs gs' : List Given} → SameLabelled D x y → SameGivens gs gs' → SameDeclaration (of_type p t x gs) (of_type q t y gs')
    same_of_class : {p q c : ℕ} {gs gs' : List Given} → SameGivens gs gs' → SameDeclaration (of_class p c gs) (of_class q c gs')
    same_included : {p q c : ℕ} → SameDeclaration (included p c) (included q c)

  abbrev pub SameDeclare : Declare → Declare → Type 0
  SameDeclare declare declare' = (d d' : Declaration) → SameDeclaration d d' → (c : Context) (st st' : State) → Related st st' → Two Related (declare d c st) (declare' d' c st')

  -- ---- Statements and blocks

  module _ (k k' : Known) (declare declare' : Declare) (quietly : QuietDeclare D declare) (quietly' : QuietDeclare D declare') (alike : SameDeclare declare declare') where
    quiet_block : (b : Block) (c : Context) → QuietRun (run_block k declare b c)
    quiet_block b c st h = block_quiet D k declare quietly b c st (inr h)

    quiet_block' : (b : Block) (c : Context) → QuietRun (run_block k' declare' b c)
    quiet_block' b c st h = block_quiet D k' declare' quietly' b c st (inr h)

    quiet_branch : (bs : Branches) (x : Value) (c : Context) → QuietRun (chosen (branch_patterns k declare bs) x do_nothing c)
    quiet_branch bs x c st h = branch_quiet D k declare quietly bs x c st (inr h)

    quiet_branch' : (bs : Branches) (x : Value) (c : Context) → QuietRun (chosen (branch_patterns k' declare' bs) x do_nothing c)
    quiet_branch' bs x c st h = branch_quiet D k' declare' quietly' bs x c st (inr h)

    -- what two branches do
    abbrev SameBranch : (Context → State → Outcome State) → (Context → State → Outcome State) → Type 0
    SameBranch f g = (c : Context) (st st' : State) → Low st st' → Two Related (f c st) (g c st')

    nothing_same : SameBranch do_nothing do_nothing
    unfolding do_nothing
    nothing_same c st st' l = both_done (related_low l)

    -- a case whose scrutinee is the same on both sides
    choice_low : (p q : ℕ) {bs bs' : Branches} → SameBranches D bs bs' → (c : Context) (x : Value) (s : Labels) {st st' : State} → Low st st'
        → SameChoice D SameBranch (tried_labels (branch_patterns k declare bs) x) (tried_labels (branch_patterns k' declare' bs') x) (chosen (branch_patterns k declare bs) x do_nothing) (chosen (branch_patterns k' declare' bs') x do_nothing)
        → Two Related (after_test p c (assigns_any bs) (declares_any bs) (with_path_and_trail c st (s ∪ tried_labels (branch_patterns k declare bs) x)) st >>= λ st₁. chosen (branch_patterns k declare bs) x do_nothing (in_branch (with_path_and_trail c st (s ∪ tried_labels (branch_patterns k declare bs) x)) c) st₁)
        (after_test q c (assigns_any bs') (declares_any bs') (with_path_and_trail c st' (s ∪ tried_labels (branch_patterns k' declare' bs') x)) st' >>= λ st₁. chosen (branch_patterns k' declare' bs') x do_nothing (in_branch (with_path_and_trail c st' (s ∪ tried_labels (branch_patterns k' declare' bs') x)) c) st₁)
    unfolding with_path_and_trail after_test
    choice_low p q {bs} {bs'} rs c x s l (high_patterns h h') = condition_two c.scope (assigns_any bs) (assigns_any bs') (declares_any bs) (declares_any bs') (declares_same_any rs) (assigns_same_any rs) l
        (case_condition k declare quietly p bs x _ c _ (high_right D _ (high_right D _ h))) (case_condition k' declare' quietly' q bs' x _ c _ (high_right D _ (high_right D _ h')))
    choice_low p q {bs} {bs'} rs c x s (low {t = t} hc hk u u') (same_patterns e inside) =
        let set : Labels = (c.path ∪ t) ∪ (s ∪ tried_labels (branch_patterns k' declare' bs') x) in
        rw e (two_then _ _ _ _ _ _ (go_on (quiet_branch bs x (in_branch set c)) (quiet_branch' bs' x (in_branch set c)) (λ st st' l. inside (in_branch set c) st st' l)
        (tested_same c.scope (assigns_any bs) (assigns_any bs') _ _ set (assigns_same_any rs) (declares_same_any rs) (low hc hk u u'))))

    mutual
      unfolding run with_path_and_trail after_test is_declared

      run_low : {s s' : Statement} → SameStatement D s s' → (c : Context) {st st' : State} → Low st st' → Two Related (run k declare s c st) (run k' declare' s' c st')
      run_low (same_assignment {p = p} {q = q} {n = n} e) c l = two_bind (evaluate_same D k k' c (low_view l) e) λ x y w. store_low c p q n w l
      run_low (same_conditional {p = p} {q = q} {b = a} {d = b} {b' = a'} {d' = b'} e ra rb) c (low {t = t} hc hk u u') = by_value (evaluate_same D k k' c (low_view (low hc hk u u')) e)
          (λ x y h h'. two_any _ _ λ z z'. condition_two c.scope (λ n. assigns_in a n || assigns_in b n) (λ n. assigns_in a' n || assigns_in b' n) (declares_in a || declares_in b) (declares_in a' || declares_in b') (ap₂ ◌||◌ (declares_same_in ra) (declares_same_in rb)) (λ n. ap₂ ◌||◌ (assigns_same_in ra n) (assigns_same_in rb n)) (low hc hk u u')
          (if_condition k declare quietly p a b z _ c _ (high_right D _ h)) (if_condition k' declare' quietly' q a' b' z' _ c _ (high_right D _ h')))
          (λ x. two_at _ _ _ λ z.
          let s : Labels = (c.path ∪ t) ∪ x.labels in
          let h = tested_same c.scope (λ n. assigns_in a n || assigns_in b n) (λ n. assigns_in a' n || assigns_in b' n) _ _ s (λ n. ap₂ ◌||◌ (assigns_same_in ra n) (assigns_same_in rb n)) (ap₂ ◌||◌ (declares_same_in ra) (declares_same_in rb)) (low hc hk u u') in
          two_then _ _ _ _ _ _ (two_if z
          (go_on (quiet_block a (in_branch s c)) (quiet_block' a' (in_branch s c)) (λ st st' l. block_low ra (in_branch s c) l) h)
          (go_on (quiet_block b (in_branch s c)) (quiet_block' b' (in_branch s c)) (λ st st' l. block_low rb (in_branch s c) l) h)))
      run_low (same_choice {p = p} {q = q} {bs = bs} {bs' = bs'} e rs) c (low {t = t} hc hk u u') = by_value (evaluate_same D k k' c (low_view (low hc hk u u')) e)
          (λ x y h h'. two_any _ _ λ _ _. condition_two c.scope (assigns_any bs) (assigns_any bs') (declares_any bs) (declares_any bs') (declares_same_any rs) (assigns_same_any rs) (low hc hk u u')
          (case_condition k declare quietly p bs x.value _ c _ (high_right D _ (high_left D _ h))) (case_condition k' declare' quietly' q bs' y.value _ c _ (high_right D _ (high_left D _ h'))))
          (λ x. two_any _ _ λ _ _. choice_low p q rs c x.value x.labels (low hc hk u u') (choice_same D SameBranch (branches_low rs) x.value nothing_same))
      run_low (same_resource {p = p} {q = q} {t = t} e fs) c l = by_value (evaluate_same D k k' c (low_view l) e)
          (λ x y h h'. two_any _ _ λ m m'. two_any _ _ λ gs gs'. add_high k k' p q t m m' x.labels y.labels _ _ gs gs' c l h h')
          (λ x. two_at _ _ _ λ m. two_bind (evaluate_all_same k k' c (low_view l) fs) λ gs gs' g. add_low k k' p q t m x.labels _ _ c l g)
      run_low (same_defined e fs) c l = two_bind (evaluate_same D k k' c (low_view l) e) λ x y w. two_any _ _ λ m m'. two_bind (evaluate_all_same k k' c (low_view l) fs) λ gs gs' g. alike _ _ (same_of_type w g) c _ _ (related_low l)
      run_low (same_class fs) c l = two_bind (evaluate_all_same k k' c (low_view l) fs) λ gs gs' g. alike _ _ (same_of_class g) c _ _ (related_low l)
      run_low (same_include {c = n}) c (low {q = q} hc hk u u') = two_if (declared_in q n) (both_done (related_low (low hc hk u u'))) (alike _ _ same_included c _ _ (related_low (low hc hk u u')))
      run_low same_unreadable_statement c l = left_refused

      pub block_low : {b b' : Block} → SameBlock D b b' → (c : Context) {st st' : State} → Low st st' → Two Related (run_block k declare b c st) (run_block k' declare' b' c st')
      block_low same_end c l = both_done (related_low l)
      block_low (same_next {b = b} {b' = b'} s rb) c (low hc hk u u') = two_step _ _ _ _ _ _ λ n n'. two_bind (run_low s c (low hc hk u u')) λ st st' h. go_on (quiet_block b c) (quiet_block' b' c) (λ st st' l. block_low rb c l) h

      branches_low : {bs bs' : Branches} → SameBranches D bs bs' → SamePatterns D SameBranch (branch_patterns k declare bs) (branch_patterns k' declare' bs')
      branches_low same_no_branch = same_no_pattern
      branches_low (same_branch v rb rs) = same_constant_pattern v (λ c st st' l. block_low rb c l) (branches_low rs)
      branches_low (same_default_branch rb rs) = same_default_pattern (λ c st st' l. block_low rb c l) (branches_low rs)

    -- a block after two related states
    pub block_related : {b b' : Block} → SameBlock D b b' → (c : Context) {st st' : State} → Related st st' → Two Related (run_block k declare b c st) (run_block k' declare' b' c st')
    block_related {b} {b'} r c h = go_on (quiet_block b c) (quiet_block' b' c) (λ st st' l. block_low r c l) h
