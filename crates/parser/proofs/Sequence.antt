-- Actions one after the other. Assumes nothing.
use mathlib.Core.Path.{◌≡◌, refl, sym, ◌∙◌, ap, subst}
use mathlib.Core.Bool.{Bool, true, false, not, ◌&&◌}
use mathlib.Core.List.{List, [], ◌∷◌}
use mathlib.Core.Option.{Option}
use native.Mathlib.Omega.{arith}
use lib.Dec.{eqb}
use borrow.Author.Tests.{eqb-true, eqb-false}
use lib.ListN.{length}
use Prim.Native.Nat.{ℕ, ◌+◌, ◌/◌, ◌%◌, ◌^◌, ◌≤◌, ◌<◌}
use Rattle.lexer.specs.declared.Token.{Token}
use Rattle.notation.specs.Building.{Build, Action, acts}
use Rattle.rules.proofs.Lists.{both_right}
use Rattle.rules.proofs.Within.{false_not_true}
use Rattle.rules.specs.Types.{Types}
use Rattle.parse_table.specs.Codes.{action_of, actions_in}
use Rattle.parse_table.proofs.Answers.{first_action, no_action_lem}
use Rattle.tree_builder.specs.declared.Building.{Building}
use Rattle.tree_builder.specs.Shows.{Answers, DoesAt, IsWord}
use Rattle.tree_builder.proofs.Ready.{ready}
use Rattle.parser.specs.declared.actions.Names.{Names}
use Rattle.parser.specs.Doing.{Suits, SuitsAll, Able, filled, AllAnswered, is_instead, no_instead, WordRead, only_constant, no_action, WordsRead, DoesAllAt, StandsAt}
use Rattle.std.specs.Prelude.{Option as CodeOption, Some, None}

-- from a lower fill
pub filled_more : (ds : List Action) (a b : ℕ) → a ≤ b → filled a ds ≤ filled b ds
filled_more [] a b h = h
filled_more (d ∷ ds) a b h = filled_more ds (a + 12) (b + 12) (omega arith)

filled_least : (ds : List Action) (a : ℕ) → a ≤ filled a ds
filled_least [] a = omega arith
filled_least (d ∷ ds) a = omega (arith, filled_least ds (a + 12))

pub answered_more : (table : List (List ℕ)) (a b : ℕ) → a ≤ b → (r : CodeOption Building) (m out : List ℕ) (o : Option Build) → AllAnswered table a r m out o → AllAnswered table b r m out o
unfolding AllAnswered
answered_more table a b h None m out o e = e
answered_more table a b h (Some s) m out o w = record { made = w.made; is = w.is; shows = w.shows; grown = omega (arith, w.grown) }

-- the code of the one action that puts a name in the place of a constant
pub nine_instead : (k : ℕ) → k ≡ 9 → is_instead (action_of k) ≡ true
unfolding action_of
nine_instead k e = rw e

not_both : (b c : Bool) → b ≡ true → (not b && c) ≡ true → ⊥
not_both true c e h = false_not_true h
not_both false c e h = false_not_true e

-- where none of some does so, the first one does not, and no other one
pub no_other : (k : ℕ) → k < 2 ^ 32 → no_instead (actions_in k) ≡ true → (k % 256 ≡ 9 → ⊥) × (no_instead (actions_in (k / 256)) ≡ true)
no_other k l none_of = go (eqb k 0) refl
  where
    go : (b : Bool) → eqb k 0 ≡ b → (k % 256 ≡ 9 → ⊥) × (no_instead (actions_in (k / 256)) ≡ true)
    go true e =
        let zero_left : k ≡ 0 = eqb-true k 0 e in
        let none_left : k / 256 ≡ 0 = omega arith in
        (λ nine. omega arith, ap (λ (n : ℕ). no_instead (actions_in n)) none_left ∙ ap no_instead no_action_lem)
    go false e =
        let parts : (not (is_instead (action_of (k % 256))) && no_instead (actions_in (k / 256))) ≡ true = sym (ap no_instead (first_action k l (eqb-false k 0 e))) ∙ none_of in
        (λ nine. not_both (is_instead (action_of (k % 256))) (no_instead (actions_in (k / 256))) (nine_instead (k % 256) nine) parts, both_right (not (is_instead (action_of (k % 256)))) (no_instead (actions_in (k / 256))) parts)

-- ---- Whether a word was read

module _ (t : Token) (s : Building) where
  pub none_read : (n : ℕ) → n ≡ 0 → WordsRead (actions_in n) t s (Some s)
  none_read n e = record { word = λ one k. false_not_true (sym (ap (λ (i : ℕ). only_constant (actions_in i)) e ∙ ap only_constant no_action_lem) ∙ one); idle = λ none_left. refl }

  module _ (n : ℕ) (some_left : n ≡ 0 → ⊥) (small : n < 2 ^ 32) where
    -- there is one
    some_action : (r : CodeOption Building) → no_action (actions_in n) ≡ true → r ≡ Some s
    some_action r e = false_not_true (sym (ap no_action (first_action n small some_left)) ∙ e)

    -- nothing comes of it
    pub stopped_reads : WordsRead (actions_in n) t s None
    unfolding IsWord
    stopped_reads = record { word = λ one k. tt; idle = some_action None }

    -- it is the only one, or others follow it
    pub then_reads : (a : CodeOption Building) (next : Building) (r : CodeOption Building) → a ≡ Some next → WordRead (action_of (n % 256)) t a → WordsRead (actions_in (n / 256)) t next r → WordsRead (actions_in n) t s r
    unfolding WordRead
    then_reads a next r e read others = record { word = λ one k. go (actions_in (n / 256)) others.idle k (sym (ap only_constant (first_action n small some_left)) ∙ one); idle = some_action r }
      where
        go : (ds : List Action) → (no_action ds ≡ true → r ≡ Some next) → t.kind ≡ 0 → only_constant (action_of (n % 256) ∷ ds) ≡ true → IsWord r
        go [] same k one = subst IsWord (e ∙ sym (same refl)) (read one k)
        go (d ∷ ds) same k one = false_not_true one

-- ---- What is done

module _ (types : Types) (t : Token) (ns : Names) (s : Building) (m out : List ℕ) where
  -- no action is left
  pub none_done : (n : ℕ) → n ≡ 0 → DoesAllAt types t ns (actions_in n) s m out (Some s) m out
  unfolding DoesAllAt AllAnswered acts
  none_done n e = subst (λ (ds : List Action). DoesAllAt types t ns ds s m out (Some s) m out) (sym (ap actions_in e ∙ no_action_lem)) (λ table f x su sh. record { made = f; is = refl; shows = sh; grown = omega arith })

  module _ (a : Action) (ds : List Action) where
    -- nothing comes of the first one
    stopped : (m' out' : List ℕ) → DoesAt types (Suits types t a ns) a s m out None m' out' → DoesAllAt types t ns (a ∷ ds) s m out None m' out'
    unfolding DoesAt Answers DoesAllAt SuitsAll AllAnswered acts
    stopped m' out' does table f x su sh = rw (acts, does table f x su.0 sh)

    -- the first one is done, and the others behind it
    both_done_lem : (next : Building) (m₁ out₁ : List ℕ) (r : CodeOption Building) (m₂ out₂ : List ℕ) → DoesAt types (Suits types t a ns) a s m out (Some next) m₁ out₁ → DoesAllAt types t ns ds next m₁ out₁ r m₂ out₂ → DoesAllAt types t ns (a ∷ ds) s m out r m₂ out₂
    unfolding DoesAt Answers DoesAllAt SuitsAll acts
    both_done_lem next m₁ out₁ r m₂ out₂ does others table f x su sh =
        let w = does table f x su.0 sh in
        rw (acts, w.is) (answered_more table (filled next.fill ds) (filled (s.fill + 12) ds) (filled_more ds next.fill (s.fill + 12) w.grown) r m₂ out₂ (acts types ds x w.made) (others table w.made x su.1 w.shows))

  module _ (n : ℕ) (some_left : n ≡ 0 → ⊥) (small : n < 2 ^ 32) where
    -- what the first action answers
    abbrev pub FirstDoes : CodeOption Building → (m₁ out₁ : List ℕ) → Type 0
    FirstDoes a m₁ out₁ = DoesAt types (Suits types t (action_of (n % 256)) ns) (action_of (n % 256)) s m out a m₁ out₁

    pub first_stopped : (a : CodeOption Building) (m₁ out₁ : List ℕ) → a ≡ None → FirstDoes a m₁ out₁ → DoesAllAt types t ns (actions_in n) s m out None m₁ out₁
    first_stopped a m₁ out₁ e does =
        rw (first_action n small some_left) (stopped (action_of (n % 256)) (actions_in (n / 256)) m₁ out₁ (subst (λ (b : CodeOption Building). FirstDoes b m₁ out₁) e does))

    pub then_others : (a : CodeOption Building) (next : Building) (m₁ out₁ : List ℕ) (r : CodeOption Building) (m₂ out₂ : List ℕ) → a ≡ Some next → FirstDoes a m₁ out₁ → DoesAllAt types t ns (actions_in (n / 256)) next m₁ out₁ r m₂ out₂ → DoesAllAt types t ns (actions_in n) s m out r m₂ out₂
    then_others a next m₁ out₁ r m₂ out₂ e does others =
        rw (first_action n small some_left)
        (both_done_lem (action_of (n % 256)) (actions_in (n / 256)) next m₁ out₁ r m₂ out₂ (subst (λ (b : CodeOption Building). FirstDoes b m₁ out₁) e does) others)

    module _ (h : StandsAt types m out s n t ns) where
      suits_both : SuitsAll types t ns (action_of (n % 256) ∷ actions_in (n / 256)) h.table h.token
      suits_both = rw (first_action n small some_left) at h.suits

      low_both : filled s.fill (action_of (n % 256) ∷ actions_in (n / 256)) ≤ 1048576
      low_both = rw (first_action n small some_left) at h.low

      -- the first one may be done
      pub able_first : Able m s (n % 256) t
      able_first =
          record {
            slots = h.slots;
            ready = ready h.table s m out h.tree (omega (arith, low_both, filled_least (actions_in (n / 256)) (s.fill + 12))) h.shows;
            place = h.place;
            word = h.word;
          }

      -- and then the others
      pub stands_next : (a : CodeOption Building) (next : Building) (m₁ out₁ : List ℕ) → a ≡ Some next → FirstDoes a m₁ out₁ → length m₁ ≡ length m → StandsAt types m₁ out₁ next (n / 256) t ns
      unfolding DoesAt Answers SuitsAll
      stands_next a next m₁ out₁ e given size =
          let does : FirstDoes (Some next) m₁ out₁ = subst (λ (b : CodeOption Building). FirstDoes b m₁ out₁) e given in
          let w = does h.table h.tree h.token suits_both.0 h.shows in
          let k = n / 256 in
          let no = no_other k (omega arith) h.once in
          record {
            table = h.table;
            tree = w.made;
            token = h.token;
            shows = w.shows;
            suits = suits_both.1;
            slots = omega (arith, h.slots, size);
            low = omega (arith, low_both, filled_more (actions_in k) next.fill (s.fill + 12) w.grown);
            place = h.place;
            word = λ e. absurd (no.0 e);
            once = no.1;
          }

-- ---- The only one

module _ (t : Token) (s : Building) (n : ℕ) (some_left : n ≡ 0 → ⊥) (small : n < 2 ^ 32) (only : n / 256 ≡ 0) where
  -- what it answers is the answer
  pub only_done : (types : Types) (ns : Names) (m out : List ℕ) (a : CodeOption Building) (m₁ out₁ : List ℕ) → FirstDoes types t ns s m out n some_left small a m₁ out₁ → DoesAllAt types t ns (actions_in n) s m out a m₁ out₁
  only_done types ns m out None m₁ out₁ does = first_stopped types t ns s m out n some_left small None m₁ out₁ refl does
  only_done types ns m out (Some next) m₁ out₁ does =
      then_others types t ns s m out n some_left small (Some next) next m₁ out₁ (Some next) m₁ out₁ refl does (none_done types t ns next m₁ out₁ (n / 256) only)

  pub only_reads : (a : CodeOption Building) → WordRead (action_of (n % 256)) t a → WordsRead (actions_in n) t s a
  only_reads None read = stopped_reads t s n some_left small
  only_reads (Some next) read = then_reads t s n some_left small (Some next) next (Some next) refl read (none_read t next (n / 256) only)
