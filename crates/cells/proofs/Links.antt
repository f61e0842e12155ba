-- The chains of a memory: which stores leave them, and what the store of one link does.
use mathlib.Core.Path.{◌≡◌, refl, sym, ap, ◌∙◌}
use mathlib.Core.Bool.{Bool, true, false}
use mathlib.Core.List.{List}
use Prim.Native.Nat.{ℕ, suc, ◌+◌, ◌≤◌, ◌<◌}
use native.Mathlib.Omega.{arith}
use lib.Dec.{ltb}
use lib.ListN.{length}
use borrow.Author.Tests.{ltb-true, ltb-false, lt-ltb, le-ltb}
use Rattle.wire.specs.Bytes.{pick, byte, two}
use Rattle.wire.specs.Numbers.{high_bytes}
use Rattle.wire.specs.Runs.{over}
use Rattle.wire.proofs.Laws.{over_length, byte_outside, high_length, stored_two}
use Rattle.cells.specs.Chains.{Way, begin, step}
use Rattle.cells.specs.Layout.{key_at, record_at, link_at, chain_in, place_at, link_in, next_in, chained, beside_slots, trail_at, key_name}
use Rattle.cells.proofs.Chains.{same_test, on_way, way_small, way_on, gap, same_way, same_back, counted_is, counted_falls, counted_same}
use Rattle.cells.proofs.Regions.{same_two, beside_same}

-- ---- One chain

module _ (w : List ℕ) (n : ℕ) where
  pub next_falls : (p : ℕ) → next_in w n p ≤ p
  unfolding next_in
  next_falls p = counted_falls (chain_in w) n p (link_in w n p)

  pub next_is : (p i : ℕ) → next_in w n p ≡ suc i → (link_in w n p ≡ suc i) × ((i < p) × (chain_in w i ≡ n))
  unfolding next_in
  next_is p i e = counted_is (chain_in w) n p (link_in w n p) i e

  on_chain : (x : ℕ) → chained w n x ≡ true → Way (next_in w n) x
  unfolding chained
  on_chain x h = on_way (next_in w n) x h

  pub chain_on : (x : ℕ) → Way (next_in w n) x → x < 512 → chained w n x ≡ true
  unfolding chained
  chain_on x way l = way_on (next_in w n) next_falls x way l

  pub no_chain : (x : ℕ) → (Way (next_in w n) x → ⊥) → chained w n x ≡ false
  no_chain x none = go (chained w n x) refl
    where
      go : (t : Bool) → chained w n x ≡ t → t ≡ false
      go true e = absurd (none (on_chain x e))
      go false e = refl

  pub chain_gap : (p x : ℕ) → Way (next_in w n) p → x < p → next_in w n p ≤ x → chained w n x ≡ false
  unfolding chained
  chain_gap p x way l h = gap (next_in w n) next_falls p x way l h

  pub chain_small : (p : ℕ) → Way (next_in w n) p → p ≤ 512
  chain_small p way = way_small (next_in w n) next_falls p way

  pub chain_is : (k : ℕ) → Way (next_in w n) k → k < 512 → chain_in w k ≡ n
  chain_is k begin l = absurd (omega arith)
  chain_is k (step {p = p} way e) l = (next_is p k e).1.1

-- chains by their ways
pub same_chained : (w w' : List ℕ) (n x : ℕ) → x < 512 → (Way (next_in w n) x → Way (next_in w' n) x) → (Way (next_in w' n) x → Way (next_in w n) x) → chained w' n x ≡ chained w n x
same_chained w w' n x l to from = same_test (chained w' n x) (chained w n x) (λ h. chain_on w n x (from (on_chain w' n x h)) l) (λ h. chain_on w' n x (to (on_chain w n x h)) l)

pub same_chain : (w w' : List ℕ) (n x : ℕ) → x < 512 → ((k : ℕ) → Way (next_in w n) k → next_in w' n k ≡ next_in w n k) → chained w' n x ≡ chained w n x
same_chain w w' n x l same = same_chained w w' n x l (same_way (next_in w n) (next_in w' n) same x) (same_back (next_in w n) (next_in w' n) same x)

-- where the chains of all slots are the same, the same reference counts
pub next_kept : (w w' : List ℕ) (n p : ℕ) → p ≤ 512 → ((i : ℕ) → i < 512 → chain_in w' i ≡ chain_in w i) → link_in w' n p ≡ link_in w n p → next_in w' n p ≡ next_in w n p
unfolding next_in
next_kept w w' n p small names link = rw link (counted_same (chain_in w) (chain_in w') p n p (link_in w n p) (λ i l ne. names i (omega arith)) (λ e l. absurd (omega arith)))

-- where the bytes of the slots are
pub low_chains : (w w' : List ℕ) → ((k : ℕ) → k < trail_at → byte w' k ≡ byte w k) → (i : ℕ) → i < 512 → chain_in w' i ≡ chain_in w i
low_chains w w' low i l = rw (same_two w w' (key_at i) (λ j h. low (key_at i + j) (omega arith)), same_two w w' (key_at i + key_name) (λ j h. low (key_at i + key_name + j) (omega arith))) refl

-- ---- Links

pub links_same : (w w' : List ℕ) → ((p : ℕ) → p < 512 → two w' (link_at p) ≡ two w (link_at p)) → ((q : ℕ) → q < 1024 → two w' (record_at q) ≡ two w (record_at q)) → (q p : ℕ) → link_in w' q p ≡ link_in w q p
unfolding link_in
links_same w w' links heads q p = go (ltb p 512) refl (ltb q 1024) refl
  where
    go : (t : Bool) → ltb p 512 ≡ t → (u : Bool) → ltb q 1024 ≡ u → pick t (two w' (link_at p)) (pick u (two w' (record_at q)) 0) ≡ pick t (two w (link_at p)) (pick u (two w (record_at q)) 0)
    go true e u f = links p (ltb-true p 512 e)
    go false e true f = heads q (ltb-true q 1024 f)
    go false e false f = refl

-- where the slots' keys and the links are the same, so are the chains
pub chains_same : (w w' : List ℕ) → ((i : ℕ) → i < 512 → chain_in w' i ≡ chain_in w i) → ((q p : ℕ) → link_in w' q p ≡ link_in w q p) → (n x : ℕ) → x < 512 → chained w' n x ≡ chained w n x
chains_same w w' names links n x l = same_chain w w' n x l (λ k way. next_kept w w' n k (chain_small w n k way) names (links n k))

pub link_slot : (w : List ℕ) (n p : ℕ) → p < 512 → link_in w n p ≡ two w (link_at p)
unfolding link_in
link_slot w n p l = rw (lt-ltb p 512 l) refl

pub link_head : (w : List ℕ) (n p : ℕ) → 512 ≤ p → n < 1024 → link_in w n p ≡ two w (record_at n)
unfolding link_in
link_head w n p l h = rw (le-ltb p 512 l, lt-ltb n 1024 h) refl

-- a link for which there is no place
pub no_head : (w : List ℕ) (n p : ℕ) → 512 ≤ p → 1024 ≤ n → link_in w n p ≡ 0
unfolding link_in
no_head w n p l h = rw (le-ltb p 512 l, le-ltb n 1024 h) refl

pub place_slot : (n p : ℕ) → p < 512 → place_at n p ≡ link_at p
unfolding place_at
place_slot n p l = rw (lt-ltb p 512 l) refl

pub place_head : (n p : ℕ) → 512 ≤ p → place_at n p ≡ record_at n
unfolding place_at
place_head n p l = rw (le-ltb p 512 l) refl

-- ---- The store of one link

pub record Relinked (w w' : List ℕ) (n p v : ℕ) : Type 0 where
  pub own : link_in w' n p ≡ v
  pub links : (q k : ℕ) → k ≤ 512 → (k ≡ p → ⊥) → link_in w' q k ≡ link_in w q k
  pub heads : (q : ℕ) → (q ≡ n → ⊥) → 512 ≤ p → link_in w' q p ≡ link_in w q p
  pub low : (k : ℕ) → k < trail_at → byte w' k ≡ byte w k
  pub beside : beside_slots w' ≡ beside_slots w
  pub size : length w' ≡ length w

-- two bytes that the store does not meet
module _ (w : List ℕ) (a v : ℕ) where
  two_away : (p : ℕ) → (p < a + 2 → a < p + 2 → ⊥) → two (over w a (high_bytes 2 v)) p ≡ two w p
  two_away p apart =
      let size : length (high_bytes 2 v) ≡ 2 = high_length 2 v in
      same_two w (over w a (high_bytes 2 v)) p (λ j l. byte_outside w a (high_bytes 2 v) (p + j) (λ x y. apart (omega arith) (omega arith)))

  byte_away : (k : ℕ) → (a ≤ k → k < a + 2 → ⊥) → byte (over w a (high_bytes 2 v)) k ≡ byte w k
  byte_away k apart =
      let size : length (high_bytes 2 v) ≡ 2 = high_length 2 v in
      byte_outside w a (high_bytes 2 v) k (λ x y. apart x (omega arith))

module _ (w : List ℕ) (n p v : ℕ) (small : p ≤ 512) (room : 65536 ≤ length w) (fits : v < 65536) where
  relinked_slot : {w' : List ℕ} → p < 512 → w' ≡ over w (link_at p) (high_bytes 2 v) → Relinked w w' n p v
  relinked_slot l e =
      let w1 : List ℕ = over w (link_at p) (high_bytes 2 v) in
      rw e (record {
        own = link_slot w1 n p l ∙ stored_two w (link_at p) v (omega arith) fits;
        links = λ q k b ne. links_at q k b ne (ltb k 512) refl;
        heads = λ q ne b. absurd (omega arith);
        low = λ k b. byte_away w (link_at p) v k (λ x y. omega arith);
        beside = beside_same w w1 (over_length w (link_at p) (high_bytes 2 v)) (λ k x y. byte_away w (link_at p) v k (λ a b. omega arith)) (λ k j x y z. byte_away w (link_at p) v (record_at k + j) (λ a b. omega arith))
            (λ k x. byte_away w (link_at p) v k (λ a b. omega arith));
        size = over_length w (link_at p) (high_bytes 2 v);
      })
    where
      links_at : (q k : ℕ) → k ≤ 512 → (k ≡ p → ⊥) → (t : Bool) → ltb k 512 ≡ t → link_in (over w (link_at p) (high_bytes 2 v)) q k ≡ link_in w q k
      links_at q k b ne true f = let h : k < 512 = ltb-true k 512 f in link_slot (over w (link_at p) (high_bytes 2 v)) q k h ∙ two_away w (link_at p) v (link_at k) (λ x y. ne (omega arith)) ∙ sym (link_slot w q k h)
      links_at q k b ne false f = head_at (ltb q 1024) refl
        where
          h : 512 ≤ k
          h = ltb-false k 512 f

          head_at : (u : Bool) → ltb q 1024 ≡ u → link_in (over w (link_at p) (high_bytes 2 v)) q k ≡ link_in w q k
          head_at true g = let s : q < 1024 = ltb-true q 1024 g in link_head (over w (link_at p) (high_bytes 2 v)) q k h s ∙ two_away w (link_at p) v (record_at q) (λ x y. omega arith) ∙ sym (link_head w q k h s)
          head_at false g = let s : 1024 ≤ q = ltb-false q 1024 g in no_head (over w (link_at p) (high_bytes 2 v)) q k h s ∙ sym (no_head w q k h s)

  relinked_head : {w' : List ℕ} → 512 ≤ p → n < 1024 → w' ≡ over w (record_at n) (high_bytes 2 v) → Relinked w w' n p v
  relinked_head l below e =
      let w1 : List ℕ = over w (record_at n) (high_bytes 2 v) in
      rw e (record {
        own = link_head w1 n p l below ∙ stored_two w (record_at n) v (omega arith) fits;
        links = λ q k b ne. (let h : k < 512 = omega arith in link_slot w1 q k h ∙ two_away w (record_at n) v (link_at k) (λ x y. omega arith) ∙ sym (link_slot w q k h));
        heads = λ q ne b. head_at q ne (ltb q 1024) refl;
        low = λ k b. byte_away w (record_at n) v k (λ x y. omega arith);
        beside = beside_same w w1 (over_length w (record_at n) (high_bytes 2 v)) (λ k x y. byte_away w (record_at n) v k (λ a b. omega arith)) (λ k j x y z. byte_away w (record_at n) v (record_at k + j) (λ a b. omega arith))
            (λ k x. byte_away w (record_at n) v k (λ a b. omega arith));
        size = over_length w (record_at n) (high_bytes 2 v);
      })
    where
      head_at : (q : ℕ) → (q ≡ n → ⊥) → (u : Bool) → ltb q 1024 ≡ u → link_in (over w (record_at n) (high_bytes 2 v)) q p ≡ link_in w q p
      head_at q ne true g = let s : q < 1024 = ltb-true q 1024 g in link_head (over w (record_at n) (high_bytes 2 v)) q p l s ∙ two_away w (record_at n) v (record_at q) (λ x y. ne (omega arith)) ∙ sym (link_head w q p l s)
      head_at q ne false g = let s : 1024 ≤ q = ltb-false q 1024 g in no_head (over w (record_at n) (high_bytes 2 v)) q p l s ∙ sym (no_head w q p l s)

  pub relinked : {w' : List ℕ} → (512 ≤ p → n < 1024) → w' ≡ over w (place_at n p) (high_bytes 2 v) → Relinked w w' n p v
  relinked {w'} below e = go (ltb p 512) refl
    where
      go : (t : Bool) → ltb p 512 ≡ t → Relinked w w' n p v
      go true f = let l : p < 512 = ltb-true p 512 f in relinked_slot l (e ∙ ap (λ (a : ℕ). over w a (high_bytes 2 v)) (place_slot n p l))
      go false f = let l : 512 ≤ p = ltb-false p 512 f in relinked_head l (below l) (e ∙ ap (λ (a : ℕ). over w a (high_bytes 2 v)) (place_head n p l))

  -- the slots' keys stay
  pub chain_kept : {w' : List ℕ} → Relinked w w' n p v → (i : ℕ) → i < 512 → chain_in w' i ≡ chain_in w i
  chain_kept {w'} r = low_chains w w' r.low
