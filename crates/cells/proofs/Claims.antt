-- The ways of claiming a slot: it is taken out of the chain of its old key, emptied, and put into the chain of its new key. They hold in every
-- memory, whatever its links are.
use mathlib.Core.Path.{◌≡◌, refl, sym, ap, ◌∙◌}
use mathlib.Core.Bool.{Bool, true, false, false≢true}
use mathlib.Core.List.{List}
use Prim.Native.Nat.{ℕ, suc, ◌+◌, ◌≤◌, ◌<◌}
use native.Mathlib.Omega.{arith}
use lib.Dec.{ltb}
use lib.ListN.{length}
use borrow.Author.Tests.{ne_eqb, ltb-true, ltb-false}
use Rattle.wire.specs.Numbers.{high_bytes}
use Rattle.wire.specs.Runs.{over}
use Rattle.cells.specs.Chains.{counted, Way, step}
use Rattle.cells.specs.Layout.{key_at, chain_of, chain_in, place_at, link_in, next_in, chained, LastAbove, Slot, slot, blank_slot, slot_at, slots_of, key_name}
use Rattle.cells.specs.Slots.{StoresAt, is_reached, taken_out, put_in, renewed, claimed}
use Rattle.cells.proofs.Tables.{put_same, put_self, table_put}
use Rattle.cells.proofs.Chains.{is_or_not, order, out_back, out_kept, out_gone, in_kept, in_back, in_own, counted_some, counted_other, counted_sound, counted_same}
use Rattle.cells.proofs.Links.{next_falls, next_is, chain_on, no_chain, chain_gap, chain_small, chain_is, same_chained, same_chain, next_kept, Relinked, relinked, chain_kept}
use Rattle.cells.proofs.Slots.{slot_in_lem, reached_is, slot_from, fields_at, slot_fields, low_fields, same_slot, chain_for, Step, ◌then◌, with_scope, with_name, with_key, scope_step, name_step, step_beside, step_links, step_fields, step_chains, step_chain, stores_then}

-- ---- take_out

out_same : (x : Slot) → is_reached x ≡ false → taken_out x ≡ x
unfolding is_reached taken_out
out_same (slot r t s n c m) e = rw e refl

-- it is in no chain
pub out_absent : (w : List ℕ) (j m p : ℕ) → j < 512 → m ≡ chain_in w j → LastAbove w m j p → {r : ℕ} → r ≡ next_in w m p → (r ≡ j + 1 → ⊥) → StoresAt j taken_out w w
out_absent w j m p below em at er ne =
    let gone : chained w m j ≡ false = chain_gap w m p j at.way at.above (omega (arith, at.last)) in
    let unreached : is_reached (slots_of w j) ≡ false = reached_is w j below ∙ rw (sym em) gone in
    (rw (out_same (slots_of w j) unreached) (put_self j (slots_of w)), refl)

module _ (w : List ℕ) (j m p : ℕ) (below : j < 512) (room : 65536 ≤ length w) (em : m ≡ chain_in w j) (at : LastAbove w m j p) (next : next_in w m p ≡ suc j) where
  small : p ≤ 512
  small = chain_small w m p at.way

  module _ (w' : List ℕ) (link : Relinked w w' m p (next_in w m j)) where
    names : (i : ℕ) → i < 512 → chain_in w' i ≡ chain_in w i
    names = chain_kept w m p (next_in w m j) small room (omega (arith, next_falls w m j)) link

    out_new : next_in w' m p ≡ next_in w m j
    unfolding next_in
    out_new =
        ap (counted (chain_in w') m p) link.own
        ∙ counted_sound (chain_in w') m p (next_in w m j) (λ i e. (let is = next_is w m j i e in (omega (arith, is.1.0, at.above), names i (omega (arith, is.1.0)) ∙ is.1.1)))

    out_others : (k : ℕ) → Way (next_in w m) k → (k ≡ p → ⊥) → next_in w' m k ≡ next_in w m k
    out_others k way ne = let s = chain_small w m k way in next_kept w w' m k s names (link.links m k s ne)

    out_apart : (q : ℕ) → (q ≡ m → ⊥) → (k : ℕ) → Way (next_in w q) k → next_in w' q k ≡ next_in w q k
    out_apart q ne k way =
        let s = chain_small w q k way in
        next_kept w w' q k s names (is_or_not k p (λ z. rw z (go z (ltb p 512) refl)) (λ other. link.links q k s other))
      where
        go : k ≡ p → (t : Bool) → ltb p 512 ≡ t → link_in w' q p ≡ link_in w q p
        go z true e = let l : p < 512 = ltb-true p 512 e in absurd (ne (sym (chain_is w q k way (omega arith)) ∙ ap (chain_in w) z ∙ chain_is w m p at.way l))
        go z false e = link.heads q ne (ltb-false p 512 e)

    out_reached : (i : ℕ) → i < 512 → (i ≡ j → ⊥) → (q : ℕ) → chained w' q i ≡ chained w q i
    out_reached i l ne q =
        is_or_not q m
        (λ z. rw z (same_chained w w' m i l (λ way. out_kept (next_in w m) (next_in w' m) (next_falls w m) j p at.way next out_new out_others i way ne)
        (out_back (next_in w m) (next_in w' m) (next_falls w m) j p at.way next out_new out_others i)))
        (λ other. same_chain w w' q i l (out_apart q other))

    out_gone_j : chained w' m j ≡ false
    out_gone_j = no_chain w' m j (out_gone (next_in w m) (next_in w' m) (next_falls w m) j p at.way next out_new out_others)

    out_fields : (r : Bool) → fields_at w j false ≡ taken_out (fields_at w j r)
    unfolding slot_from taken_out
    out_fields r = refl

    out_slots : StoresAt j taken_out w w'
    unfolding slots_of
    out_slots =
        (table_put 512 (slot_at w) (slot_at w') blank_slot j (taken_out (slots_of w j)) below own (λ i l ne. same_slot w w' i (names i l) (out_reached i l ne (chain_in w i)) (low_fields w w' link.low i l)), link.beside)
      where
        own : slot_at w' j ≡ taken_out (slots_of w j)
        own =
            slot_fields w' j ∙ ap (fields_at w' j) (ap (λ (n : ℕ). chained w' n j) (names j below ∙ sym em) ∙ out_gone_j) ∙ low_fields w w' link.low j below false
            ∙ out_fields (chained w (chain_in w j) j) ∙ ap taken_out (sym (slot_fields w j) ∙ sym (slot_in_lem w j below))

-- what followed j follows p
pub out_way : (w : List ℕ) (j m p : ℕ) (w' : List ℕ) → j < 512 → 65536 ≤ length w → (m ≡ chain_in w j) × (m < 1024) → LastAbove w m j p → {r v : ℕ} → r ≡ next_in w m p → r ≡ j + 1 → v ≡ next_in w m j
    → w' ≡ over w (place_at m p) (high_bytes 2 v) → StoresAt j taken_out w w'
out_way w j m p w' below room (em, of) at {r} {v} er at_j ev e =
    let next : next_in w m p ≡ suc j = sym er ∙ omega arith in
    let stored : w' ≡ over w (place_at m p) (high_bytes 2 (next_in w m j)) = rw ev at e in
    out_slots w j m p below room em at next w'
    (relinked w m p (next_in w m j) (chain_small w m p at.way) room (omega (arith, next_falls w m j)) (λ l. of) stored)

-- ---- put_in

module _ (w : List ℕ) (j n p s m : ℕ) (is : n ≡ chain_of s m) (below : j < 512) (room : 65536 ≤ length w) (absent : is_reached (slots_of w j) ≡ false) (at : LastAbove w n j p) where
  -- no chain has slot j
  gone : (q : ℕ) → Way (next_in w q) j → ⊥
  gone q way =
      let own : chain_in w j ≡ q = chain_is w q j way below in
      let there : chained w q j ≡ true = chain_on w q j way below in
      false≢true (sym absent ∙ reached_is w j below ∙ rw own there)

  in_small : p ≤ 512
  in_small = chain_small w n p at.way

  next_small : next_in w n p < 65536
  next_small = omega (arith, next_falls w n p, in_small)

  -- the three stores
  module _ (w1 w2 w3 : List ℕ) (a : Relinked w w1 n j (next_in w n p)) (b : Step j w1 w2 (with_key s m)) (c : Relinked w2 w3 n p (suc j)) where
    room1 : 65536 ≤ length w1
    room1 = omega (arith, a.size)

    room2 : 65536 ≤ length w2
    room2 = omega (arith, room1, b.size)

    in_chains : (i : ℕ) → i < 512 → (i ≡ j → ⊥) → chain_in w3 i ≡ chain_in w i
    in_chains i l ne = chain_kept w2 n p (suc j) in_small room2 (omega arith) c i l ∙ step_chains j w1 w2 (with_key s m) below b i l ne ∙ chain_kept w n j (next_in w n p) (omega arith) room next_small a i l

    key_chain : (x : Slot) → chain_for (with_key s m x) ≡ n
    unfolding chain_for with_name with_scope
    key_chain (slot r t s' n' c k) = sym is

    in_chain : chain_in w3 j ≡ n
    in_chain = chain_kept w2 n p (suc j) in_small room2 (omega arith) c j below ∙ step_chain j w1 w2 (with_key s m) below b ∙ key_chain (fields_at w1 j false)

    in_links : (q k : ℕ) → k ≤ 512 → (k ≡ p → ⊥) → (k ≡ j → ⊥) → link_in w3 q k ≡ link_in w q k
    in_links q k l ne other = c.links q k l ne ∙ step_links j w1 w2 (with_key s m) below b q k ∙ a.links q k l other

    in_heads : (q : ℕ) → (q ≡ n → ⊥) → 512 ≤ p → link_in w3 q p ≡ link_in w q p
    in_heads q ne l = c.heads q ne l ∙ step_links j w1 w2 (with_key s m) below b q p ∙ a.links q p in_small (λ z. omega arith)

    in_new : next_in w3 n p ≡ suc j
    unfolding next_in
    in_new = ap (counted (chain_in w3) n p) c.own ∙ counted_some (chain_in w3) n p j at.above in_chain

    in_next : next_in w3 n j ≡ next_in w n p
    unfolding next_in
    in_next =
        ap (counted (chain_in w3) n j) (c.links n j (omega arith) (λ z. omega (arith, at.above)) ∙ step_links j w1 w2 (with_key s m) below b n j ∙ a.own)
        ∙ counted_sound (chain_in w3) n j (next_in w n p) sound
      where
        sound : (i : ℕ) → next_in w n p ≡ suc i → (i < j) × (chain_in w3 i ≡ n)
        sound i e =
            let is = next_is w n p i e in
            let ne : i ≡ j → ⊥ = λ z. gone n (step at.way (e ∙ ap suc z)) in
            let l : i < j = omega (arith, at.last) in
            (l, in_chains i (omega arith) ne ∙ is.1.1)

    -- a reference to j that did not count: p alone is the last above j
    clash : (k : ℕ) → Way (next_in w n) k → (k ≡ p → ⊥) → j < k → next_in w n k ≡ 0 → ⊥
    clash k way ne l ends = go (ltb k p) refl
      where
        go : (t : Bool) → ltb k p ≡ t → ⊥
        go true e = omega (arith, order (next_in w n) (next_falls w n) k p way at.way (ltb-true k p e), at.last)
        go false e = let h : p ≤ k = ltb-false k p e in let less : p < k = omega arith in omega (arith, order (next_in w n) (next_falls w n) p k at.way way less)

    -- a reference to j from a chain's slot does not count
    no_reference : (q k : ℕ) → Way (next_in w q) k → link_in w q k ≡ suc j → j < k → chain_in w j ≡ q → ⊥
    unfolding next_in
    no_reference q k way e l own = gone q (step way (ap (counted (chain_in w) q k) e ∙ counted_some (chain_in w) q k j l own))

    no_next : (q k : ℕ) → link_in w q k ≡ suc j → j < k → (chain_in w j ≡ q → ⊥) → next_in w q k ≡ 0
    unfolding next_in
    no_next q k e l ne = ap (counted (chain_in w) q k) e ∙ counted_other (chain_in w) q k j l ne

    in_others : (k : ℕ) → Way (next_in w n) k → (k ≡ p → ⊥) → next_in w3 n k ≡ next_in w n k
    unfolding next_in
    in_others k way ne =
        let s = chain_small w n k way in
        ap (counted (chain_in w3) n k) (in_links n k s ne (λ z. gone n (rw z at way)))
        ∙ counted_same (chain_in w) (chain_in w3) j n k (link_in w n k) (λ i l other. in_chains i (omega arith) other)
        (λ e l. is_or_not (chain_in w j) n (λ own. absurd (no_reference n k way e l own)) (λ other. absurd (clash k way ne l (no_next n k e l other))))

    in_apart : (q : ℕ) → (q ≡ n → ⊥) → (k : ℕ) → Way (next_in w q) k → next_in w3 q k ≡ next_in w q k
    unfolding next_in
    in_apart q ne k way =
        let s = chain_small w q k way in
        ap (counted (chain_in w3) q k) (is_or_not k p (λ z. rw z (go z (ltb p 512) refl)) (λ other. in_links q k s other (λ z. gone q (rw z at way))))
        ∙ counted_same (chain_in w) (chain_in w3) j q k (link_in w q k) (λ i l other. in_chains i (omega arith) other)
        (λ e l. ne_eqb (chain_in w3 j) q (λ own. ne (sym own ∙ in_chain)) ∙ sym (ne_eqb (chain_in w j) q (no_reference q k way e l)))
      where
        go : k ≡ p → (t : Bool) → ltb p 512 ≡ t → link_in w3 q p ≡ link_in w q p
        go z true e = let l : p < 512 = ltb-true p 512 e in absurd (ne (sym (chain_is w q k way (omega arith)) ∙ ap (chain_in w) z ∙ chain_is w n p at.way l))
        go z false e = in_heads q ne (ltb-false p 512 e)

    in_reached : (i : ℕ) → i < 512 → (i ≡ j → ⊥) → (q : ℕ) → chained w3 q i ≡ chained w q i
    in_reached i l ne q =
        is_or_not q n
        (λ z. rw z (same_chained w w3 n i l (in_kept (next_in w n) (next_in w3 n) j p at.way (gone n) in_new in_next in_others i)
        (λ way. in_back (next_in w n) (next_in w3 n) j p at.way (gone n) in_new in_next in_others i way ne)))
        (λ other. same_chain w w3 q i l (in_apart q other))

    in_there : chained w3 n j ≡ true
    in_there = chain_on w3 n j (in_own (next_in w n) (next_in w3 n) j p at.way (gone n) in_new in_next in_others) below

    in_fields : (r : Bool) → with_key s m (fields_at w j true) ≡ put_in s m (fields_at w j r)
    unfolding slot_from with_name with_scope put_in
    in_fields r = refl

    in_slots : StoresAt j (put_in s m) w w3
    unfolding slots_of
    in_slots = (
      table_put 512 (slot_at w) (slot_at w3) blank_slot j (put_in s m (slots_of w j)) below own (λ i l ne. same_slot w w3 i (in_chains i l ne) (in_reached i l ne (chain_in w i)) (λ r. low_fields w2 w3 c.low i l r ∙ step_fields j w1 w2 (with_key s m) below b i l ne r ∙ low_fields w w1 a.low i l r)),
      c.beside ∙ step_beside j w1 w2 (with_key s m) below b ∙ a.beside,
    )
      where
        own : slot_at w3 j ≡ put_in s m (slots_of w j)
        own =
            slot_fields w3 j ∙ ap (fields_at w3 j) (ap (λ (q : ℕ). chained w3 q j) in_chain ∙ in_there) ∙ low_fields w2 w3 c.low j below true ∙ b.own true ∙ ap (with_key s m) (low_fields w w1 a.low j below true)
            ∙ in_fields (chained w (chain_in w j) j) ∙ ap (put_in s m) (sym (slot_fields w j) ∙ sym (slot_in_lem w j below))

pub in_way : (w : List ℕ) (j n p s m : ℕ) (w4 : List ℕ) {v u : ℕ} {w1 w2 w3 : List ℕ} → j < 512 → 65536 ≤ length w → s < 65536 → m < 65536 → (n ≡ chain_of s m) × (n < 1024) → is_reached (slots_of w j) ≡ false
    → LastAbove w n j p → v ≡ next_in w n p → w1 ≡ over w (place_at n j) (high_bytes 2 v) → w2 ≡ over w1 (key_at j) (high_bytes 2 s) → w3 ≡ over w2 (key_at j + key_name) (high_bytes 2 m)
    → u ≡ j + 1 → w4 ≡ over w3 (place_at n p) (high_bytes 2 u) → StoresAt j (put_in s m) w w4
in_way w j n p s m w4 {v} {u} {w1} {w2} {w3} below room fits fits' (is, of) absent at ev e1 e2 e3 eu e4 =
    let next : ℕ = next_in w n p in
    let first : w1 ≡ over w (place_at n j) (high_bytes 2 next) = rw ev at e1 in
    let last : w4 ≡ over w3 (place_at n p) (high_bytes 2 (suc j)) = e4 ∙ ap (λ (x : ℕ). over w3 (place_at n p) (high_bytes 2 x)) (omega arith) in
    let small = chain_small w n p at.way in
    let a : Relinked w w1 n j next = relinked w n j next (omega arith) room (omega (arith, next_falls w n p)) (λ l. absurd (omega arith)) first in
    let scope : Step j w1 w2 (with_scope s) = scope_step w1 j below (omega (arith, a.size)) s fits e2 in
    let b : Step j w1 w3 (with_key s m) = scope then name_step w2 j below (omega (arith, a.size, scope.size)) m fits' e3 in
    in_slots w j n p s m is below room absent at w1 w3 w4 a b (relinked w3 n p (suc j) small (omega (arith, a.size, b.size)) (omega arith) (λ l. of) last)

-- ---- claim

entered_out : (x : Slot) → is_reached (renewed (taken_out x)) ≡ false
unfolding is_reached taken_out renewed
entered_out (slot r t s n c m) = refl

claimed_by : (s n : ℕ) (x : Slot) → put_in s n (renewed (taken_out x)) ≡ claimed s n x
unfolding put_in taken_out renewed claimed
claimed_by s n (slot r t s' n' c m) = refl

module _ (w : List ℕ) (j : ℕ) (w0 w1 : List ℕ) (out : StoresAt j taken_out w w0) (renew : StoresAt j renewed w0 w1) where
  both_way : StoresAt j (λ x. renewed (taken_out x)) w w1
  both_way = stores_then j w w0 w1 taken_out renewed (λ x. renewed (taken_out x)) out renew (λ x. refl)

  -- it is in no chain yet
  pub claim_out : is_reached (slots_of w1 j) ≡ false
  claim_out = ap (λ (f : ℕ → Slot). is_reached (f j)) both_way.0 ∙ ap is_reached (put_same j (renewed (taken_out (slots_of w j))) (slots_of w)) ∙ entered_out (slots_of w j)

  pub claim_way : (s n : ℕ) (w2 : List ℕ) → StoresAt j (put_in s n) w1 w2 → StoresAt j (claimed s n) w w2
  claim_way s n w2 put = stores_then j w w1 w2 (λ x. renewed (taken_out x)) (put_in s n) (claimed s n) both_way put (claimed_by s n)
