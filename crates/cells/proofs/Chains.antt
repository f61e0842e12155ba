-- Laws of chains: what a chain leads to is what stands on its way; the numbers on the way fall; what changes where a slot is taken out or put in.
use mathlib.Core.Path.{◌≡◌, refl, sym, ap, ◌∙◌}
use mathlib.Core.Bool.{Bool, true, false, false≢true}
use Prim.Native.Nat.{ℕ, zero, suc, ◌≤◌, ◌<◌}
use native.Mathlib.Omega.{arith}
use lib.Dec.{eqb, ltb}
use borrow.Author.Tests.{eqb-true, eqb-false, eq-eqb, ne_eqb, ltb-true, ltb-false, lt-ltb, le-ltb}
use Rattle.wire.specs.Bytes.{pick}
use Rattle.cells.specs.Chains.{counted, leads_to, Way, begin, step}

-- two tests that hold together
pub same_test : (a b : Bool) → (a ≡ true → b ≡ true) → (b ≡ true → a ≡ true) → a ≡ b
same_test true b f g = sym (f refl)
same_test false true f g = g refl
same_test false false f g = refl

-- a number is another one, or is not
pub is_or_not : {C : Type 0} (i j : ℕ) → (i ≡ j → C) → ((i ≡ j → ⊥) → C) → C
is_or_not {C} i j same other = go (eqb i j) refl
  where
    go : (t : Bool) → eqb i j ≡ t → C
    go true e = same (eqb-true i j e)
    go false e = other (eqb-false i j e)

-- ---- Where one chain leads

module _ (next : ℕ → ℕ) where
  lead_open : (b r x : ℕ) → leads_to next (suc b) r x ≡ pick (eqb r (suc b)) (pick (eqb x b) true (leads_to next b (next b) x)) (leads_to next b r x)
  unfolding leads_to
  lead_open b r x = refl

  lead_zero : (r x : ℕ) → leads_to next 0 r x ≡ false
  unfolding leads_to
  lead_zero r x = refl

  -- only to slots below b
  lead_below : (b r x : ℕ) → b ≤ x → leads_to next b r x ≡ false
  lead_below zero r x l = lead_zero r x
  lead_below (suc b) r x l =
      lead_open b r x ∙ rw (ne_eqb x b (λ e. omega arith), lead_below b (next b) x (omega arith), lead_below b r x (omega arith)) (go (eqb r (suc b)))
    where
      go : (t : Bool) → pick t false false ≡ false
      go true = refl
      go false = refl

  -- and to no slot past the first
  lead_first : (b r x : ℕ) → r ≤ x → leads_to next b r x ≡ false
  lead_first zero r x l = lead_zero r x
  lead_first (suc b) r x l = lead_open b r x ∙ go (eqb r (suc b)) refl (lead_first b r x l)
    where
      go : (t : Bool) → eqb r (suc b) ≡ t → leads_to next b r x ≡ false → pick t (pick (eqb x b) true (leads_to next b (next b) x)) (leads_to next b r x) ≡ false
      go true e later = let z : r ≡ suc b = eqb-true r (suc b) e in rw (ne_eqb x b (λ q. omega arith)) (lead_below b (next b) x (omega arith))
      go false e later = later

  -- to the first
  lead_own : (b x : ℕ) → x < b → leads_to next b (suc x) x ≡ true
  lead_own zero x l = absurd (omega arith)
  lead_own (suc b) x l = lead_open b (suc x) x ∙ go (eqb x b) refl (lead_own b x)
    where
      go : (t : Bool) → eqb x b ≡ t → (x < b → leads_to next b (suc x) x ≡ true) → pick (eqb (suc x) (suc b)) (pick t true (leads_to next b (next b) x)) (leads_to next b (suc x) x) ≡ true
      go true e later = let z : x ≡ b = eqb-true x b e in rw (eq-eqb (suc x) (suc b) (ap suc z)) refl
      go false e later = let ne : x ≡ b → ⊥ = eqb-false x b e in rw (ne_eqb (suc x) (suc b) (λ q. ne (omega arith))) (later (omega arith))

  -- below a slot of the chain, to what that slot leads to
  lead_tail : (b r k x : ℕ) → leads_to next b r k ≡ true → x < k → leads_to next b r x ≡ leads_to next k (next k) x
  lead_tail zero r k x h l = absurd (false≢true (sym (lead_zero r k) ∙ h))
  lead_tail (suc b) r k x h l = lead_open b r x ∙ go (eqb r (suc b)) (eqb k b) refl (sym (lead_open b r k) ∙ h) (λ q. lead_tail b (next b) k x q l) (λ q. lead_tail b r k x q l)
    where
      go : (t u : Bool) → eqb k b ≡ u → pick t (pick u true (leads_to next b (next b) k)) (leads_to next b r k) ≡ true
          → (leads_to next b (next b) k ≡ true → leads_to next b (next b) x ≡ leads_to next k (next k) x) → (leads_to next b r k ≡ true → leads_to next b r x ≡ leads_to next k (next k) x)
          → pick t (pick (eqb x b) true (leads_to next b (next b) x)) (leads_to next b r x) ≡ leads_to next k (next k) x
      go true true e q on past = let z : k ≡ b = eqb-true k b e in rw (ne_eqb x b (λ o. omega arith), z) refl
      go true false e q on past = rw (ne_eqb x b (λ o. absurd (false≢true (sym (lead_below b (next b) k (omega arith)) ∙ q)))) (on q)
      go false u e q on past = past q

  -- ---- A way along it, where what follows a slot is below it

  -- a chain leads only to slots on its way
  lead_way : (b r x : ℕ) → ((i : ℕ) → r ≡ suc i → Way next i) → leads_to next b r x ≡ true → Way next x
  lead_way zero r x way h = absurd (false≢true (sym (lead_zero r x) ∙ h))
  lead_way (suc b) r x way h = go (eqb r (suc b)) refl (eqb x b) refl (sym (lead_open b r x) ∙ h)
      (λ there q. lead_way b (next b) x (λ i e. step there e) q) (λ q. lead_way b r x way q)
    where
      go : (t : Bool) → eqb r (suc b) ≡ t → (u : Bool) → eqb x b ≡ u → pick t (pick u true (leads_to next b (next b) x)) (leads_to next b r x) ≡ true
          → (Way next b → leads_to next b (next b) x ≡ true → Way next x) → (leads_to next b r x ≡ true → Way next x) → Way next x
      go true e true f q on past = rw (eqb-true x b f) (way b (eqb-true r (suc b) e))
      go true e false f q on past = on (way b (eqb-true r (suc b) e)) q
      go false e u f q on past = past q

  pub on_way : (x : ℕ) → leads_to next 512 (next 512) x ≡ true → Way next x
  on_way x h = lead_way 512 (next 512) x (λ i e. step begin e) h

  module _ (falls : (p : ℕ) → next p ≤ p) where
    pub way_small : (p : ℕ) → Way next p → p ≤ 512
    way_small p begin = omega arith
    way_small p (step {p = q} way e) = omega (arith, way_small q way, falls q)

    -- a chain leads to all slots on its way
    pub way_on : (x : ℕ) → Way next x → x < 512 → leads_to next 512 (next 512) x ≡ true
    way_on x begin l = absurd (omega arith)
    way_on x (step {p = q} way e) l =
        let below : x < q = omega (arith, falls q) in
        is_or_not q 512 (λ z. (let own : next 512 ≡ suc x = rw z at e in rw own (lead_own 512 x l)))
        (λ ne. lead_tail 512 (next 512) q x (way_on q way (omega (arith, way_small q way))) below ∙ rw e (lead_own q x below))

    -- from a slot on its way on it leads to what that slot leads to
    tail_of : (p x : ℕ) → Way next p → x < p → leads_to next 512 (next 512) x ≡ leads_to next p (next p) x
    tail_of p x way l = is_or_not p 512 (λ e. rw e refl) (λ ne. lead_tail 512 (next 512) p x (way_on p way (omega (arith, way_small p way))) l)

    pub gap : (p x : ℕ) → Way next p → x < p → next p ≤ x → leads_to next 512 (next 512) x ≡ false
    gap p x way l h = tail_of p x way l ∙ lead_first p (next p) x h

    -- of two slots on the way the lower one is not above what follows the other
    pub order : (x p : ℕ) → Way next x → Way next p → x < p → x < next p
    order x p wx wp l = go (ltb x (next p)) refl
      where
        go : (t : Bool) → ltb x (next p) ≡ t → x < next p
        go true e = ltb-true x (next p) e
        go false e = absurd (false≢true (sym (gap p x wp l (ltb-false x (next p) e)) ∙ way_on x wx (omega (arith, way_small p wp))))

    -- and one slot alone leads to another
    pub one_before : (k p j : ℕ) → Way next k → Way next p → next k ≡ suc j → next p ≡ suc j → k ≡ p
    one_before k p j wk wp ek ep = is_or_not k p (λ e. e) (λ ne. absurd (go ne (ltb k p) refl))
      where
        go : (k ≡ p → ⊥) → (t : Bool) → ltb k p ≡ t → ⊥
        go ne true e = let l : k < p = ltb-true k p e in omega (arith, order k p wk wp l, falls k)
        go ne false e = let l : p ≤ k = ltb-false k p e in let a : p < k = omega arith in omega (arith, order p k wp wk a, falls p)

-- ---- Two chains

module _ (next next' : ℕ → ℕ) where
  -- nothing on the way differs
  pub same_way : ((k : ℕ) → Way next k → next' k ≡ next k) → (x : ℕ) → Way next x → Way next' x
  same_way same x begin = begin
  same_way same x (step {p = p} way e) = step (same_way same p way) (same p way ∙ e)

  pub same_back : ((k : ℕ) → Way next k → next' k ≡ next k) → (x : ℕ) → Way next' x → Way next x
  same_back same x begin = begin
  same_back same x (step {p = p} way e) = let before = same_back same p way in step before (sym (same p before) ∙ e)

  -- slot j, which follows p, is taken out
  module _ (falls : (p : ℕ) → next p ≤ p) (j p : ℕ) (way : Way next p) (at : next p ≡ suc j) (new : next' p ≡ next j) (others : (k : ℕ) → Way next k → (k ≡ p → ⊥) → next' k ≡ next k) where
    pub out_back : (x : ℕ) → Way next' x → Way next x
    out_back x begin = begin
    out_back x (step {p = k} w e) =
        let before = out_back k w in
        is_or_not k p (λ z. step (step way at) (sym new ∙ (rw z at e))) (λ ne. step before (sym (others k before ne) ∙ e))

    out_both : (x : ℕ) → Way next x → (x ≡ j → Way next' p) × ((x ≡ j → ⊥) → Way next' x)
    out_both x begin = (λ e. absurd (omega (arith, falls p, way_small next falls p way)), λ ne. begin)
    out_both x (step {p = k} w e) =
        let before = out_both k w in (
          λ z. (let same : k ≡ p = one_before next falls k p j w way (e ∙ ap suc z) at in rw (sym same) (before.1 (λ q. omega (arith, falls p)))),
          λ ne. is_or_not k p (λ z. absurd (ne (let own : next p ≡ suc x = rw z at e in omega arith)))
              (λ apart. is_or_not k j (λ z. step (before.0 z) (new ∙ (rw z at e))) (λ other. step (before.1 other) (others k w apart ∙ e))),
        )

    pub out_kept : (x : ℕ) → Way next x → (x ≡ j → ⊥) → Way next' x
    out_kept x w ne = (out_both x w).1 ne

    pub out_gone : Way next' j → ⊥
    out_gone w = go j refl w
      where
        go : (x : ℕ) → x ≡ j → Way next' x → ⊥
        go x z begin = omega (arith, falls p, way_small next falls p way)
        go x z (step {p = k} w e) =
            is_or_not k p (λ q. (let own : next' p ≡ suc x = rw q at e in omega (arith, falls j)))
            (λ ne. (let before = out_back k w in let own : next k ≡ suc j = sym (others k before ne) ∙ e ∙ ap suc z in ne (one_before next falls k p j before way own at)))

  -- slot j, which is not there, is put in after p
  module _ (j p : ℕ) (way : Way next p) (absent : Way next j → ⊥) (new : next' p ≡ suc j) (own : next' j ≡ next p) (others : (k : ℕ) → Way next k → (k ≡ p → ⊥) → next' k ≡ next k) where
    pub in_kept : (x : ℕ) → Way next x → Way next' x
    in_kept x begin = begin
    in_kept x (step {p = k} w e) =
        let before = in_kept k w in
        is_or_not k p (λ z. (let here : Way next' p = rw z at before in let after : next p ≡ suc x = rw z at e in step (step here new) (own ∙ after))) (λ ne. step before (others k w ne ∙ e))

    pub in_back : (x : ℕ) → Way next' x → (x ≡ j → ⊥) → Way next x
    in_back x begin ne = begin
    in_back x (step {p = k} w e) ne =
        is_or_not k j (λ z. step way (sym own ∙ (rw z at e)))
        (λ other. (let before = in_back k w other in is_or_not k p (λ z. absurd (ne (let to : next' p ≡ suc x = rw z at e in omega arith))) (λ apart. step before (sym (others k before apart) ∙ e))))

    pub in_own : Way next' j
    in_own = step (in_kept p way) new

-- ---- References that count

module _ (chains : ℕ → ℕ) (n p : ℕ) where
  pub counted_none : counted chains n p 0 ≡ 0
  unfolding counted
  counted_none = refl

  pub counted_past : (i : ℕ) → p ≤ i → counted chains n p (suc i) ≡ 0
  unfolding counted
  counted_past i l = rw (le-ltb i p l) refl

  pub counted_other : (i : ℕ) → i < p → (chains i ≡ n → ⊥) → counted chains n p (suc i) ≡ 0
  unfolding counted
  counted_other i l ne = rw (lt-ltb i p l, ne_eqb (chains i) n ne) refl

  pub counted_some : (i : ℕ) → i < p → chains i ≡ n → counted chains n p (suc i) ≡ suc i
  unfolding counted
  counted_some i l e = rw (lt-ltb i p l, eq-eqb (chains i) n e) refl

  -- a reference that is sound counts
  pub counted_sound : (v : ℕ) → ((i : ℕ) → v ≡ suc i → (i < p) × (chains i ≡ n)) → counted chains n p v ≡ v
  counted_sound zero sound = counted_none
  counted_sound (suc i) sound = let s = sound i refl in counted_some i s.0 s.1

  -- what a reference that counts tells
  pub counted_is : (r i : ℕ) → counted chains n p r ≡ suc i → (r ≡ suc i) × ((i < p) × (chains i ≡ n))
  unfolding counted
  counted_is zero i e = absurd (omega arith)
  counted_is (suc k) i e = go (ltb k p) refl (eqb (chains k) n) refl e
    where
      go : (t : Bool) → ltb k p ≡ t → (u : Bool) → eqb (chains k) n ≡ u → pick t (pick u (suc k) 0) 0 ≡ suc i → (suc k ≡ suc i) × ((i < p) × (chains i ≡ n))
      go true f true g q = let z : k ≡ i = omega arith in (q, (omega (arith, ltb-true k p f), rw (sym z) (eqb-true (chains k) n g)))
      go true f false g q = absurd (omega arith)
      go false f u g q = absurd (omega arith)

  pub counted_falls : (r : ℕ) → counted chains n p r ≤ p
  unfolding counted
  counted_falls zero = omega arith
  counted_falls (suc k) = go (ltb k p) refl (eqb (chains k) n)
    where
      go : (t : Bool) → ltb k p ≡ t → (u : Bool) → pick t (pick u (suc k) 0) 0 ≤ p
      go true f true = omega (arith, ltb-true k p f)
      go true f false = omega arith
      go false f u = omega arith

-- where the chains of slots are the same but that of slot j, and a reference to j counts as it did
pub counted_same : (chains chains' : ℕ → ℕ) (j n p r : ℕ) → ((i : ℕ) → i < p → (i ≡ j → ⊥) → chains' i ≡ chains i) → (r ≡ suc j → j < p → eqb (chains' j) n ≡ eqb (chains j) n)
    → counted chains' n p r ≡ counted chains n p r
unfolding counted
counted_same chains chains' j n p zero same own = refl
counted_same chains chains' j n p (suc i) same own = go (ltb i p) refl
  where
    go : (t : Bool) → ltb i p ≡ t → pick t (pick (eqb (chains' i) n) (suc i) 0) 0 ≡ pick t (pick (eqb (chains i) n) (suc i) 0) 0
    go true e =
        let l : i < p = ltb-true i p e in
        is_or_not i j (λ z. rw z (ap (λ (u : Bool). pick u (suc j) 0) (own (ap suc z) (omega arith)))) (λ ne. rw (same i l ne) refl)
    go false e = refl
