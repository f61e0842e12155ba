-- One law for each way through the functions that read a slot.
use Rattle.std.proofs.lemmas.Bool.{false_from_ne_true}
use mathlib.Core.Path.{◌≡◌, refl, sym, ap, ◌∙◌}
use mathlib.Core.Bool.{Bool, true, false, not, false≢true}
use mathlib.Core.List.{List}
use mathlib.Core.Option.{Option, none, some}
use Prim.Native.Nat.{ℕ, suc, ◌+◌, ◌*◌, ◌-◌, ◌%◌, ◌≤◌, ◌<◌}
use native.Mathlib.Omega.{arith}
use lib.Dec.{eqb, ltb}
use borrow.Author.Tests.{eqb-true, eqb-false, eq-eqb, ne_eqb, lt-ltb}
use Rattle.wire.specs.Bytes.{pick, byte, two}
use Rattle.labels.specs.Bytes.{set_at}
use Rattle.values.specs.declared.Labelled.{Labelled}
use Rattle.records.specs.Record.{kind_at, record_in, is_empty}
use Rattle.rules.specs.State.{is_some}
use Rattle.cells.specs.Chains.{reference, counted, Way, begin, step}
use Rattle.cells.specs.Layout.{place_at, link_at, record_at, key_at, body_at, body_mark, record_at, link_at, name_in, chain_of, chain_in, link_in, next_in, chained, LastAbove, slot_at, slots_of, content_in}
use Rattle.cells.specs.Slots.{in_use, never_used, is_reached, is_for, hit_as, of_scope, value_in, mark_in, last_below, slot_in, Open, FindsOpen, opened, full}
use Rattle.cells.proofs.Chains.{counted_none, counted_past, counted_other, counted_some}
use Rattle.cells.proofs.Search.{last_zero, last_open, last_skip}
use Rattle.cells.proofs.Links.{next_falls, next_is, chain_on, chain_gap, chain_small, chain_is, link_slot, link_head}
use Rattle.cells.proofs.Cells.{split_key, both, used_once}
use Rattle.cells.proofs.Slots.{slot_in_lem, used_read, never_read, reached_is}
use Rattle.std.specs.Prelude.{Option as CodeOption, Some, None}
use Rattle.std.specs.List.{AllWithin, HoldsAt}
use Rattle.std.specs.Option.{MatchOption, option_eq}
use Rattle.std.proofs.lemmas.List.{length-take-le, get_or-take}
use lib.ListN.{length, take}

-- a number whose low byte is not that of n is not n
low_differs : (w : List ℕ) (p q n : ℕ) → q ≡ p + 1 → (byte w q ≡ n % 256 → ⊥) → byte w q < 256 → two w p ≡ n → ⊥
unfolding two
low_differs w p q n at ne fits e = let number : byte w p * 256 + byte w q ≡ n = rw at e in ne (omega arith)

pub not_zero : {a : ℕ} → not (eqb a 0) ≡ true → a ≡ 0 → ⊥
not_zero {a} h e = let off : not (eqb a 0) ≡ false = rw e refl in false≢true (sym off ∙ h)

filled_or_not : (o : Option Labelled) → not (is_empty o) ≡ is_some o
unfolding is_empty is_some
filled_or_not none = refl
filled_or_not (some x) = refl

module _ (w : List ℕ) (i : ℕ) (below : i < 512) where
  -- is_for
  for_read : (t s n : ℕ) → is_for t s n (slots_of w i) ≡ pick (eqb (two w (key_at i)) s) (pick (eqb (name_in w i) n) (eqb (byte w i) t) false) false
  unfolding is_for slot_at
  for_read t s n = rw (slot_in_lem w i below) refl

  module _ (t s n : ℕ) {r : ℕ} (scope : r ≡ two w (key_at i)) where
    pub for_other_scope : (r ≡ s → ⊥) → false ≡ is_for t s n (slots_of w i)
    for_other_scope ne = sym (for_read t s n ∙ rw (ne_eqb (two w (key_at i)) s (λ e. ne (scope ∙ e))) refl)

    module _ (same : r ≡ s) {q : ℕ} (name : q ≡ name_in w i) where
      pub for_other_name : (q ≡ n → ⊥) → false ≡ is_for t s n (slots_of w i)
      for_other_name ne = sym (for_read t s n ∙ rw (eq-eqb (two w (key_at i)) s (sym scope ∙ same), ne_eqb (name_in w i) n (λ e. ne (name ∙ e))) refl)

      pub for_state : q ≡ n → eqb (byte w i) t ≡ is_for t s n (slots_of w i)
      for_state e = sym (for_read t s n ∙ rw (eq-eqb (two w (key_at i)) s (sym scope ∙ same), eq-eqb (name_in w i) n (sym name ∙ e)) refl)

  -- in_scope
  scope_read : (s : ℕ) → of_scope s (slots_of w i) ≡ pick (eqb (byte w i) 1) (eqb (two w (key_at i)) s) false
  unfolding of_scope slot_at
  scope_read s = rw (slot_in_lem w i below) refl

  pub low_not_of_scope : (s : ℕ) → (byte w (key_at i + 1) ≡ s % 256 → ⊥) → byte w (key_at i + 1) < 256 → false ≡ of_scope s (slots_of w i)
  low_not_of_scope s ne fits = sym (scope_read s ∙ rw (ne_eqb (two w (key_at i)) s (low_differs w (key_at i) (key_at i + 1) s refl ne fits)) (either (eqb (byte w i) 1)))
    where
      either : (u : Bool) → pick u false false ≡ false
      either true = refl
      either false = refl

  pub not_used : (s : ℕ) → (byte w i ≡ 1 → ⊥) → false ≡ of_scope s (slots_of w i)
  not_used s ne = sym (scope_read s ∙ rw (ne_eqb (byte w i) 1 ne) refl)

  pub used_for : (s : ℕ) {r : ℕ} → byte w i ≡ 1 → r ≡ two w (key_at i) → eqb r s ≡ of_scope s (slots_of w i)
  used_for s e scope = sym (scope_read s ∙ rw (e, sym scope) refl)

  -- find_free
  pub turn_at : ((k : ℕ) → k < i → in_use (slots_of w k) ≡ true) → (byte w i ≡ 1 → ⊥) → Open (slots_of w) i
  turn_at before free = record { below = below; unused = used_read w i below ∙ ne_eqb (byte w i) 1 free; turn = λ packed k l. used_once (slots_of w k) (before k l) }

  -- is_next
  pub next_turn : byte w i ≡ 0 → (0 < i → byte w (i - 1) ≡ 0 → ⊥) → Open (slots_of w) i
  next_turn never before = record {
    below = below;
    unused = used_read w i below ∙ rw never refl;
    turn = λ packed k l. false_from_ne_true (never_used (slots_of w k)) (λ other. before (omega arith) (eqb-true (byte w (i - 1)) 0 (sym (never_read w (i - 1) (omega arith)) ∙ packed k (i - 1) other (omega arith))));
  }

  -- has_value, value_at, labels_at, mark_at
  pub value_read : {b : Bool} → b ≡ is_empty (record_in w (body_at i)) → not b ≡ is_some (value_in (slots_of w i))
  unfolding value_in slot_at
  value_read e = rw (slot_in_lem w i below, e) (filled_or_not (record_in w (body_at i)))

  pub content_there : is_some (value_in (slots_of w i)) ≡ true → value_in (slots_of w i) ≡ some (content_in w i)
  unfolding value_in slot_at record_in is_some
  content_there = rw (slot_in_lem w i below) (go (eqb (byte w (kind_at (body_at i))) 0))
    where
      go : (b : Bool) {x : Labelled} → is_some (pick b none (some x)) ≡ true → pick b none (some x) ≡ some x
      go true h = absurd (false≢true h)
      go false h = refl

  pub mark_read : set_at w (body_at i + body_mark) ≡ mark_in (slots_of w i)
  unfolding mark_in slot_at
  mark_read = rw (slot_in_lem w i below) refl

-- ---- Chains

-- counted_link: a link r that is not 0 leads to slot i, one less
module _ (w : List ℕ) (n p r : ℕ) where
  pub link_none : r ≡ 0 → 0 ≡ counted (chain_in w) n p r
  link_none e = rw e (sym (counted_none (chain_in w) n p))

  module _ {i : ℕ} (one : r ≡ suc i) where
    pub link_past : p ≤ i → 0 ≡ counted (chain_in w) n p r
    link_past l = sym (ap (counted (chain_in w) n p) one ∙ counted_past (chain_in w) n p i l)

    pub link_other : i < p → {q : ℕ} → q ≡ chain_in w i → (q ≡ n → ⊥) → 0 ≡ counted (chain_in w) n p r
    link_other l e other = sym (ap (counted (chain_in w) n p) one ∙ counted_other (chain_in w) n p i l (λ z. other (e ∙ z)))

    pub link_some : i < p → {q : ℕ} → q ≡ chain_in w i → q ≡ n → suc i ≡ counted (chain_in w) n p r
    link_some l e own = sym (ap (counted (chain_in w) n p) one ∙ counted_some (chain_in w) n p i l (sym e ∙ own))

-- next_of
pub next_by : (w : List ℕ) (n p : ℕ) {q r c : ℕ} → n < 1024 → q ≡ place_at n p → r ≡ two w q → c ≡ counted (chain_in w) n p r → c ≡ next_in w n p
unfolding next_in link_in place_at
next_by w n p {q} {r} few place read counts = counts ∙ ap (counted (chain_in w) n p) (read ∙ ap (two w) place ∙ go (ltb p 512))
  where
    go : (b : Bool) → two w (pick b (link_at p) (record_at n)) ≡ pick b (two w (link_at p)) (pick (ltb n 1024) (two w (record_at n)) 0)
    go true = refl
    go false = rw (lt-ltb n 1024 few) refl

-- what follows a slot is one before it
module _ (w : List ℕ) (n p : ℕ) (o : CodeOption ℕ) (follows : reference o ≡ next_in w n p) where
  pub next_low : reference o ≤ p
  next_low = omega (arith, follows, next_falls w n p)

  module _ {i : ℕ} (is : o ≡ Some i) where
    next_slot : next_in w n p ≡ suc i
    next_slot = sym follows ∙ ap reference is

    pub next_less : i < p
    next_less = omega (arith, next_slot, next_falls w n p)

pub last_small : (w : List ℕ) (n j p : ℕ) → LastAbove w n j p → p ≤ 512
last_small w n j p at = chain_small w n p at.way

-- last_above: at the loop's head p is on the chain's way, above j
pub record Walked (w : List ℕ) (n j p : ℕ) : Type 0 where
  pub way : Way (next_in w n) p
  pub above : j < p

module _ (w : List ℕ) (n j : ℕ) where
  pub walk_start : j < 512 → Walked w n j 512
  walk_start l = record { way = begin; above = l }

  module _ (p : ℕ) (at : Walked w n j p) where
    pub walk_small : p ≤ 512
    walk_small = chain_small w n p at.way

    module _ (o : CodeOption ℕ) (follows : reference o ≡ next_in w n p) where
      pub walk_next : {i : ℕ} → o ≡ Some i → j < i → Walked w n j i
      walk_next is l = record { way = step at.way (next_slot w n p o follows is); above = l }

      pub walk_last : {i : ℕ} → o ≡ Some i → i ≤ j → LastAbove w n j p
      walk_last is l = record { way = at.way; above = at.above; last = omega (arith, next_slot w n p o follows is) }

      pub walk_end : o ≡ None → LastAbove w n j p
      walk_end is = let none : next_in w n p ≡ 0 = sym follows ∙ ap reference is in record { way = at.way; above = at.above; last = omega arith }

-- take_out: whether slot j is what follows
pub follows_other : (o : CodeOption ℕ) (j : ℕ) {b : Bool} → b ≡ not (option_eq eqb o (Some j)) → b ≡ true → reference o ≡ j + 1 → ⊥
follows_other (Some i) j e h at = let apart : eqb i j ≡ false = not_true (eqb i j) (sym e ∙ h) in eqb-false i j apart (omega arith)
  where
    not_true : (x : Bool) → not x ≡ true → x ≡ false
    not_true true h = absurd (false≢true h)
    not_true false h = refl
follows_other None j e h at = omega arith

pub follows_it : (o : CodeOption ℕ) (j : ℕ) {b : Bool} → b ≡ not (option_eq eqb o (Some j)) → b ≡ false → reference o ≡ j + 1
follows_it (Some i) j e h = let same : i ≡ j = eqb-true i j (not_false (eqb i j) (sym e ∙ h)) in omega arith
  where
    not_false : (x : Bool) → not x ≡ false → x ≡ true
    not_false true h = refl
    not_false false h = absurd (false≢true (sym h))
follows_it None j e h = absurd (false≢true (sym h ∙ e))

-- find: at the loop's head p is on the way of the chain c, l is its link, and the slots below p find what the whole search finds
module _ (w : List ℕ) (s n t c : ℕ) where
  abbrev test : ℕ → Bool
  test = λ i. hit_as t s n (slots_of w i)

  pub record Left (p l : ℕ) : Type 0 where
    pub chain : c ≡ chain_of s n
    pub way : Way (next_in w c) p
    pub link : l ≡ link_in w c p
    pub search : last_below p test ≡ slot_in t (slots_of w) s n

  pub left_start : {l : ℕ} → (c ≡ chain_of s n) × (c < 1024) → l ≡ two w (record_at c) → Left 512 l
  unfolding slot_in
  left_start chain e = record { chain = chain.0; way = begin; link = e ∙ sym (link_head w c 512 (omega arith) chain.1); search = refl }

  -- only a slot that the chain of the key has is a match
  hit_chained : c ≡ chain_of s n → (i : ℕ) → i < 512 → test i ≡ true → chained w c i ≡ true
  hit_chained chain i l h =
      let k = both (is_reached (slots_of w i)) (is_for t s n (slots_of w i)) h in
      let parts = split_key (eqb (two w (key_at i)) s) (eqb (name_in w i) n) (eqb (byte w i) t) (sym (for_read w i l t s n) ∙ k.1) in
      let own : chain_in w i ≡ c = rw (eqb-true (two w (key_at i)) s parts.0, eqb-true (name_in w i) n parts.1.0) (sym chain) in
      rw (sym own) (sym (reached_is w i l) ∙ k.0)

  pub left_small : {p l : ℕ} → Left p l → p ≤ 512
  left_small {p} left = chain_small w c p left.way

  -- o is what follows p
  module _ (p l : ℕ) (left : Left p l) (o : CodeOption ℕ) (counts : reference o ≡ counted (chain_in w) c p l) where
    follows : next_in w c p ≡ reference o
    unfolding next_in
    follows = rw (sym left.link) (sym counts)

    skipped : last_below (reference o) test ≡ slot_in t (slots_of w) s n
    skipped =
        rw (sym follows) (sym (last_skip p (next_in w c p) test (next_falls w c p)
        (λ i a b. false_from_ne_true (test i) (λ h. false≢true (sym (chain_gap w c p i left.way b a) ∙ hit_chained left.chain i (omega (arith, left_small left)) h)))) ∙ left.search)

    pub left_none_lem : o ≡ None → None ≡ slot_in t (slots_of w) s n
    left_none_lem e = let none_left : last_below 0 test ≡ slot_in t (slots_of w) s n = rw e at skipped in sym (last_zero test) ∙ none_left

    module _ {i : ℕ} (is : o ≡ Some i) where
      leads : (link_in w c p ≡ suc i) × ((i < p) × (chain_in w i ≡ c))
      leads = next_is w c p i (follows ∙ ap reference is)

      pub left_below : i < p
      left_below = leads.1.0

      pub left_slot : i < 512
      left_slot = omega (arith, left_below, left_small left)

      left_way : Way (next_in w c) i
      left_way = step left.way (follows ∙ ap reference is)

      module _ {b : Bool} (tested : b ≡ is_for t s n (slots_of w i)) where
        -- it is a slot of the chain
        passes : test i ≡ b
        passes =
            let there : is_reached (slots_of w i) ≡ true = reached_is w i left_slot ∙ rw (chain_is w c i left_way left_slot) (chain_on w c i left_way left_slot) in
            rw there (sym tested)

        found : pick b (Some i) (last_below i test) ≡ slot_in t (slots_of w) s n
        found = sym (ap (λ (x : CodeOption ℕ). last_below (reference x) test) is ∙ last_open i test ∙ ap (λ (u : Bool). pick u (Some i) (last_below i test)) passes) ∙ skipped

        pub left_found : b ≡ true → Some i ≡ slot_in t (slots_of w) s n
        left_found e = rw e at found

        pub left_next : b ≡ false → {l' : ℕ} → l' ≡ two w (link_at i) → Left i l'
        left_next e link = record {
          chain = left.chain;
          way = left_way;
          link = link ∙ sym (link_slot w c i left_slot);
          search = rw e at found;
        }

-- find_free: the first state that is not that of a slot in use
abbrev pub Used : ℕ → Type 0
Used state = state ≡ 1

pub first_free : (w : List ℕ) → 512 ≤ length w → (r : CodeOption ℕ)
    → MatchOption r (AllWithin Used (take 512 w) 0 (length (take 512 w))) (λ i. (i < length (take 512 w)) × HoldsAt (λ state. Used state → ⊥) (take 512 w) i × AllWithin Used (take 512 w) 0 i)
    → FindsOpen (slots_of w) r
first_free w room (Some i) h =
    let size : length (take 512 w) ≡ 512 = length-take-le 512 w room in
    let below : i < 512 = omega arith in
    opened (turn_at w i below (λ k l. used_read w k (omega arith) ∙ eq-eqb (byte w k) 1 (sym (get_or-take 512 w k 0 (omega arith)) ∙ h.2 k 0 (omega arith) l)) (λ e. h.1 0 (get_or-take 512 w i 0 below ∙ e)))
first_free w room None h =
    let size : length (take 512 w) ≡ 512 = length-take-le 512 w room in
    full (λ k l. used_read w k l ∙ eq-eqb (byte w k) 1 (sym (get_or-take 512 w k 0 l) ∙ h k 0 (omega arith) (omega arith)))
