-- Stores into the output that begins with some bytes: more bytes behind them, other bytes in their midst, and bytes put before the last ones. Assumes nothing.
use mathlib.Core.Path.{◌≡◌, refl, sym, ap, ◌∙◌}
use mathlib.Core.Bool.{Bool, true, false}
use mathlib.Core.List.{List, [], ◌∷◌, ◌++◌}
use Prim.Native.Nat.{ℕ, suc, ◌+◌, ◌-◌, ◌≤◌, ◌<◌, ◌%◌}
use native.Mathlib.Nat.{add-zero}
use native.Mathlib.Omega.{arith}
use borrow.Author.Tests.{ltb-true, ltb-false}
use lib.Dec.{ltb}
use lib.ListN.{length, set, length-set}
use lib.Seq.{set_comm, set_out, set-set}
use Rattle.wire.specs.Bytes.{byte}
use Rattle.wire.specs.Runs.{bytes_at, over}
use Rattle.wire.proofs.Laws.{over_join, over_length, run_length, byte_inside, byte_outside, then_store}
use Rattle.tree_builder.specs.Open.{low, Holds}

-- ---- Bytes as a slice holds them

pub low_append : (xs ys : List ℕ) → low (xs ++ ys) ≡ low xs ++ low ys
unfolding low
low_append [] ys = refl
low_append (x ∷ xs) ys = ap (λ (l : List ℕ). x % 256 ∷ l) (low_append xs ys)

pub low_length : (xs : List ℕ) → length (low xs) ≡ length xs
unfolding low
low_length [] = refl
low_length (x ∷ xs) = ap suc (low_length xs)

-- ---- The order of stores

-- one byte before a run
set_over : (m : List ℕ) (p x q : ℕ) (ys : List ℕ) → p < q → over (set m p x) q ys ≡ set (over m q ys) p x
unfolding over
set_over m p x q [] h = refl
set_over m p x q (y ∷ ys) h = ap (λ (l : List ℕ). over l (suc q) ys) (set_comm m p q x y (λ e. omega arith)) ∙ set_over (set m q y) p x (suc q) ys (omega arith)

-- a run before another
pub over_swap : (m : List ℕ) (p : ℕ) (xs : List ℕ) (q : ℕ) (ys : List ℕ) → p + length xs ≤ q → over (over m p xs) q ys ≡ over (over m q ys) p xs
unfolding over
over_swap m p [] q ys h = refl
over_swap m p (x ∷ xs) q ys h = over_swap (set m p x) (suc p) xs q ys (omega arith) ∙ ap (λ (l : List ℕ). over l (suc p) xs) (set_over m p x q ys (omega arith))

-- a run over one of its size
over_again : (m : List ℕ) (p : ℕ) (xs ys : List ℕ) → length xs ≡ length ys → over (over m p xs) p ys ≡ over m p ys
unfolding over
over_again m p [] [] h = refl
over_again m p [] (y ∷ ys) h = absurd (omega arith)
over_again m p (x ∷ xs) [] h = absurd (omega arith)
over_again m p (x ∷ xs) (y ∷ ys) h =
    ap (λ (l : List ℕ). over l (suc p) ys) (sym (set_over (set m p x) p y (suc p) xs (omega arith)) ∙ ap (λ (l : List ℕ). over l (suc p) xs) (set-set m p x y))
    ∙ over_again (set m p y) (suc p) xs ys (omega arith)

-- ---- What the output holds

join_start : (m xs ys : List ℕ) → over (over m 0 xs) (length xs) ys ≡ over m 0 (xs ++ ys)
join_start m xs ys = let none : length xs ≡ 0 + length xs = omega arith in ap (λ (k : ℕ). over (over m 0 xs) k ys) none ∙ over_join m 0 xs ys

-- more bytes behind
pub holds_more : {out out' : List ℕ} (xs ys : List ℕ) (p : ℕ) → Holds out xs → out' ≡ over out p ys → p ≡ length xs → Holds out' (xs ++ ys)
holds_more xs ys p h e at = record { base = h.base; is = sym (then_store h.base 0 xs p ys (sym h.is) e (omega arith)) }

-- the last ones forgotten
pub holds_less : {out : List ℕ} (xs ys : List ℕ) → Holds out (xs ++ ys) → Holds out xs
holds_less xs ys h =
    record { base = over h.base (length xs) ys; is = sym (over_swap h.base 0 xs (length xs) ys (omega arith)) ∙ join_start h.base xs ys ∙ h.is }

-- other bytes in the midst
pub holds_patched : {out out' : List ℕ} (xs ys zs rest : List ℕ) (p : ℕ) → Holds out (xs ++ (ys ++ rest)) → length ys ≡ length zs → out' ≡ over out p zs → p ≡ length xs → Holds out' (xs ++ (zs ++ rest))
holds_patched {out} {out'} xs ys zs rest p h size e at =
    let m : List ℕ = over h.base 0 xs in
    let n : ℕ = length xs in
    let before : out ≡ over (over m n ys) (n + length ys) rest = sym h.is ∙ sym (join_start h.base xs (ys ++ rest)) ∙ sym (over_join m n ys rest) in
    let after : over (over (over m n ys) (n + length ys) rest) n zs ≡ over (over m n zs) (n + length zs) rest =
    sym (over_swap (over m n ys) n zs (n + length ys) rest (omega arith)) ∙ ap (λ (l : List ℕ). over l (n + length ys) rest) (over_again m n ys zs size)
    ∙ ap (λ (k : ℕ). over (over m n zs) (n + k) rest) size in
    record {
      base = h.base;
      is = sym (e ∙ ap (λ (k : ℕ). over out k zs) at ∙ ap (λ (l : List ℕ). over l n zs) before ∙ after ∙ over_join m n zs rest ∙ join_start h.base xs (zs ++ rest));
    }

-- a run is read from where it was stored and stored further up: what was not there to read is not stored either
reread : (out base : List ℕ) (p q : ℕ) (xs : List ℕ) → p ≤ q → length out ≡ length base → over out q (bytes_at (over base p xs) p (length xs)) ≡ over out q xs
unfolding over bytes_at
reread out base p q [] h same = refl
reread out base p q (x ∷ xs) h same =
    let m : List ℕ = over (set base p x) (suc p) xs in
    ap (λ (l : List ℕ). over l (suc q) (bytes_at m (suc p) (length xs))) (go (ltb q (length out)) refl)
    ∙ reread (set out q x) (set base p x) (suc p) (suc q) xs (omega arith) (length-set out q x ∙ same ∙ sym (length-set base p x))
  where
    go : (b : Bool) → ltb q (length out) ≡ b → set out q (byte (over base p (x ∷ xs)) p) ≡ set out q x
    go true t =
        let room : q < length out = ltb-true q (length out) t in
        ap (set out q) (ap (byte (over base p (x ∷ xs))) (sym (add-zero p)) ∙ byte_inside base p (x ∷ xs) 0 (omega arith) (omega arith))
    go false t = let past : length out ≤ q = ltb-false q (length out) t in set_out out q _ past ∙ sym (set_out out q x past)

-- bytes put before the last ones, which are moved up first
pub holds_inserted : {out moved out' : List ℕ} (xs ys rest : List ℕ) (p q : ℕ) → Holds out (xs ++ rest) → moved ≡ over out q (bytes_at out p (length rest)) → out' ≡ over moved p ys → p ≡ length xs → q ≡ p + length ys → Holds out' (xs ++ (ys ++ rest))
holds_inserted {out} {moved} {out'} xs ys rest p q h up put at gap =
    let m : List ℕ = over h.base 0 xs in
    let is : out ≡ over m p rest = sym h.is ∙ sym (join_start h.base xs rest) ∙ ap (λ (k : ℕ). over m k rest) (sym at) in
    let same : length out ≡ length m = ap length is ∙ over_length m p rest in
    let read : over out q (bytes_at out p (length rest)) ≡ over out q rest =
    ap (λ (l : List ℕ). over out q (bytes_at l p (length rest))) is ∙ reread out m p q rest (omega arith) same in
    let whole : out' ≡ over out p (ys ++ rest) =
    put ∙ ap (λ (l : List ℕ). over l p ys) (up ∙ read) ∙ sym (over_swap out p ys q rest (omega arith)) ∙ ap (λ (k : ℕ). over (over out p ys) k rest) gap ∙ over_join out p ys rest in
    holds_more xs (ys ++ rest) p (holds_less xs rest h) whole at

-- behind a store all is as it was
pub kept_behind : (out : List ℕ) {out' : List ℕ} (p : ℕ) (bs : List ℕ) → out' ≡ over out p bs → (i : ℕ) → p + length bs ≤ i → byte out' i ≡ byte out i
kept_behind out p bs put i far = ap (λ (l : List ℕ). byte l i) put ∙ byte_outside out p bs i (λ a b. omega arith)

-- behind a run moved up by as many bytes as are put before it
pub kept_lifted : (out : List ℕ) {moved out' : List ℕ} (p n fill : ℕ) (bs : List ℕ) → p ≤ fill → n ≡ length bs → moved ≡ over out (p + n) (bytes_at out p (fill - p)) → out' ≡ over moved p bs → (i : ℕ) → fill + n ≤ i → byte out' i ≡ byte out i
kept_lifted out {moved} p n fill bs low size up put i far =
    kept_behind moved p bs put i (omega arith) ∙ kept_behind out (p + n) (bytes_at out p (fill - p)) up i (omega (arith, run_length out p (fill - p)))
