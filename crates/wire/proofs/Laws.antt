-- The laws of runs of bytes, read and stored, and of numbers in them: each is stated once, for every width. Assumes nothing.
use mathlib.Core.Path.{◌≡◌, refl, sym, ap, ◌∙◌}
use mathlib.Core.Bool.{Bool, true, false}
use mathlib.Core.List.{List, [], ◌∷◌, ◌++◌}
use Prim.Native.Nat.{ℕ, zero, suc, ◌+◌, ◌*◌, ◌-◌, ◌/◌, ◌%◌, ◌^◌, ◌≤◌, ◌<◌}
use native.Mathlib.Nat.{add-zero, pow-suc, one-le-pow, zero-lt-suc, mod-eq_of_lt, mod-one, div-one, zero-mul, add-mul, mul_assoc, mul_comm}
use native.Mathlib.Numerals.{add-one}
use native.Mathlib.Omega.{arith}
use borrow.Author.Tests.{ltb-true, ltb-false, lt-ltb, le-ltb, leb-true, leb-false}
use lib.Arith.{mod-mul}
use lib.Dec.{leb, ltb}
use lib.IntN.{ℤ, pos, negsuc}
use lib.ListN.{length, set, take, drop, length-set, length-append, length-replicate, get_or-eq_default}
use lib.Pow.{pow-add}
use lib.Seq.{get_or-set_same, get_or-set_other, get_or-drop, ext_get_or, set_out, drop-cons, sets, sets-eq, take_all, take-length, length-take-le, take_at}
use lib.Signed.{mag}
use Rattle.wire.specs.Bytes.{byte, two}
use Rattle.wire.specs.Numbers.{number, signed64, high_bytes, word64}
use Rattle.wire.specs.Runs.{bytes_at, over, zeros}

-- ---- Runs read

pub run_length : (m : List ℕ) (p k : ℕ) → length (bytes_at m p k) ≡ k
unfolding bytes_at
run_length m p zero = refl
run_length m p (suc k) = ap suc (run_length m (suc p) k)

-- a run depends on its bytes alone
pub same_run : (m m' : List ℕ) (p q k : ℕ) → ((j : ℕ) → j < k → byte m (p + j) ≡ byte m' (q + j)) → bytes_at m p k ≡ bytes_at m' q k
unfolding bytes_at
same_run m m' p q zero same = refl
same_run m m' p q (suc k) same =
    let first : byte m p ≡ byte m' q = simp add-zero at (same 0 (omega arith)) in
    let rest : bytes_at m (suc p) k ≡ bytes_at m' (suc q) k =
    same_run m m' (suc p) (suc q) k (λ j h. ap (byte m) (omega arith) ∙ same (suc j) (omega arith) ∙ ap (byte m') (omega arith)) in
    rw (first, rest)

-- a byte that is read from what is left of the bytes
pub byte_drop : (m : List ℕ) (p j : ℕ) → byte m (p + j) ≡ byte (drop p m) j
byte_drop m p j = sym (get_or-drop p m j 0)

pub same_byte : (m m' : List ℕ) (p q : ℕ) → drop p m ≡ drop q m' → byte m p ≡ byte m' q
same_byte m m' p q same =
    ap (byte m) (sym (add-zero p)) ∙ byte_drop m p 0 ∙ ap (λ (l : List ℕ). byte l 0) same ∙ sym (byte_drop m' q 0) ∙ ap (byte m') (add-zero q)

-- where what is left is the same, so is every run
pub same_rest : (m m' : List ℕ) (p q : ℕ) → drop p m ≡ drop q m' → (k : ℕ) → bytes_at m p k ≡ bytes_at m' q k
same_rest m m' p q same k = same_run m m' p q k (λ j h. byte_drop m p j ∙ ap (λ (l : List ℕ). byte l j) same ∙ sym (byte_drop m' q j))

-- within the bytes, a run is a part of them
pub run_part : (m : List ℕ) (p k : ℕ) → p + k ≤ length m → bytes_at m p k ≡ take k (drop p m)
unfolding bytes_at
run_part m p zero h = refl
run_part m p (suc k) h = rw (run_part m (suc p) k (omega arith), drop-cons m p 0 (omega arith))

-- ---- Runs stored

pub over_length : (m : List ℕ) (p : ℕ) (bs : List ℕ) → length (over m p bs) ≡ length m
unfolding over
over_length m p [] = refl
over_length m p (b ∷ bs) = over_length (set m p b) (suc p) bs ∙ length-set m p b

-- two stores that give the same bytes were made in the same number of bytes
pub same_over_length : (m m' : List ℕ) (p q : ℕ) (bs cs : List ℕ) → over m p bs ≡ over m' q cs → length m ≡ length m'
same_over_length m m' p q bs cs same = sym (over_length m p bs) ∙ ap length same ∙ over_length m' q cs

-- one byte, then the others
pub over_more : (m : List ℕ) (p b : ℕ) (bs : List ℕ) → over (set m p b) (p + 1) bs ≡ over m p (b ∷ bs)
unfolding over
over_more m p b bs = rw add-one

-- a store of nothing
pub over_none : (m : List ℕ) (p : ℕ) (bs : List ℕ) → length bs ≤ 0 → over m p bs ≡ m
unfolding over
over_none m p [] h = refl
over_none m p (b ∷ bs) h = absurd (omega arith)

-- past the end nothing is stored
pub over_past : (m : List ℕ) (p : ℕ) (bs : List ℕ) → length m ≤ p → over m p bs ≡ m
unfolding over
over_past m p [] h = refl
over_past m p (b ∷ bs) h = rw (set_out m p b h) (over_past m (suc p) bs (omega arith))

-- a store changes no byte outside its run
pub byte_outside : (m : List ℕ) (p : ℕ) (bs : List ℕ) (i : ℕ) → (p ≤ i → i < p + length bs → ⊥) → byte (over m p bs) i ≡ byte m i
unfolding over
byte_outside m p [] i out = refl
byte_outside m p (b ∷ bs) i out =
    byte_outside (set m p b) (suc p) bs i (λ l u. out (omega arith) (omega arith)) ∙ get_or-set_other m p i b 0 (λ e. out (omega arith) (omega arith))

-- what is stored stands there
pub byte_inside : (m : List ℕ) (p : ℕ) (bs : List ℕ) (j : ℕ) → p + j < length m → j < length bs → byte (over m p bs) (p + j) ≡ byte bs j
unfolding over
byte_inside m p [] j room h = absurd (omega arith)
byte_inside m p (b ∷ bs) zero room h =
    ap (byte (over (set m p b) (suc p) bs)) (add-zero p) ∙ byte_outside (set m p b) (suc p) bs p (λ l u. omega arith) ∙ get_or-set_same m p b 0 (omega arith)
byte_inside m p (b ∷ bs) (suc j) room h =
    ap (byte (over (set m p b) (suc p) bs)) (omega arith) ∙ byte_inside (set m p b) (suc p) bs j (simp length-set (omega arith)) (omega arith)

-- a run that does not meet the stored one reads as before
pub run_outside : (m : List ℕ) (p : ℕ) (bs : List ℕ) (q k : ℕ) → ((i : ℕ) → q ≤ i → i < q + k → p ≤ i → i < p + length bs → ⊥) → bytes_at (over m p bs) q k ≡ bytes_at m q k
run_outside m p bs q k apart = same_run (over m p bs) m q q k (λ j h. byte_outside m p bs (q + j) (apart (q + j) (omega arith) (omega arith)))

whole_run : (bs : List ℕ) → bytes_at bs 0 (length bs) ≡ bs
whole_run bs = run_part bs 0 (length bs) (omega arith) ∙ take-length bs

-- the stored run is read back
pub run_back : (m : List ℕ) (p : ℕ) (bs : List ℕ) → p + length bs ≤ length m → bytes_at (over m p bs) p (length bs) ≡ bs
run_back m p bs room = same_run (over m p bs) bs p 0 (length bs) (λ j h. byte_inside m p bs j (omega arith) h ∙ ap (byte bs) (omega arith)) ∙ whole_run bs

-- two runs stored one after the other are one
pub over_join : (m : List ℕ) (p : ℕ) (bs cs : List ℕ) → over (over m p bs) (p + length bs) cs ≡ over m p (bs ++ cs)
unfolding over
over_join m p [] cs = rw add-zero
over_join m p (b ∷ bs) cs = ap (λ (q : ℕ). over (over (set m p b) (suc p) bs) q cs) (omega arith) ∙ over_join (set m p b) (suc p) bs cs

-- one store more, where the last one ended
pub then_store : (m : List ℕ) (p : ℕ) (a : List ℕ) (q : ℕ) (b : List ℕ) {m1 m2 : List ℕ} → m1 ≡ over m p a → m2 ≡ over m1 q b → q ≡ p + length a → m2 ≡ over m p (a ++ b)
then_store m p a q b {m1} {m2} first second end =
    second ∙ ap (λ (x : List ℕ). over x q b) first ∙ ap (λ (k : ℕ). over (over m p a) k b) end ∙ over_join m p a b

over_sets : (m : List ℕ) (p : ℕ) (bs : List ℕ) → over m p bs ≡ sets m p bs
unfolding over
over_sets m p [] = refl
over_sets m p (b ∷ bs) = over_sets (set m p b) (suc p) bs

-- a store with room: what stands before, the run, what stands after
pub over_parts : (m : List ℕ) (p : ℕ) (bs : List ℕ) → p + length bs ≤ length m → over m p bs ≡ take p m ++ bs ++ drop (p + length bs) m
over_parts m p bs room = over_sets m p bs ∙ sets-eq bs m p room

-- what stands up to the end of the run
pub over_front : (m : List ℕ) (p : ℕ) (bs : List ℕ) → p + length bs ≤ length m → take (p + length bs) (over m p bs) ≡ take p m ++ bs
over_front m p bs room =
    ap (take (p + length bs)) (over_parts m p bs room)
    ∙ take_at (take p m ++ bs) (drop (p + length bs) m) (p + length bs) (length-append (take p m) bs ∙ ap (λ (n : ℕ). n + length bs) (length-take-le p m (omega arith)))

-- a store of as many bytes as there are
pub over_whole : (m bs : List ℕ) → length bs ≡ length m → over m 0 bs ≡ bs
over_whole m bs same = sym (take_all (0 + length bs) (over m 0 bs) (omega (arith, over_length m 0 bs))) ∙ over_front m 0 bs (omega arith)

-- ---- A run within a run

pub byte_in : (w : List ℕ) (p n j : ℕ) → j < n → byte (bytes_at w p n) j ≡ byte w (p + j)
unfolding bytes_at
byte_in w p zero j h = absurd (omega arith)
byte_in w p (suc n) zero h = ap (byte w) (omega arith)
byte_in w p (suc n) (suc j) h = byte_in w (suc p) n j (omega arith) ∙ ap (byte w) (omega arith)

pub run_in : (w : List ℕ) (p n o k : ℕ) → o + k ≤ n → bytes_at (bytes_at w p n) o k ≡ bytes_at w (p + o) k
unfolding bytes_at
run_in w p n o zero h = refl
run_in w p n o (suc k) h =
    let first : byte (bytes_at w p n) o ≡ byte w (p + o) = byte_in w p n o (omega arith) in
    let next : p + suc o ≡ suc (p + o) = omega arith in
    let rest : bytes_at (bytes_at w p n) (suc o) k ≡ bytes_at w (suc (p + o)) k = run_in w p n (suc o) k (omega arith) ∙ ap (λ (q : ℕ). bytes_at w q k) next in
    rw (first, rest)

-- a store within a run
pub over_in : (w : List ℕ) (p n o : ℕ) (bs : List ℕ) → o + length bs ≤ n → p + n ≤ length w → bytes_at (over w (p + o) bs) p n ≡ over (bytes_at w p n) o bs
over_in w p n o bs h room =
    let size : length (bytes_at w p n) ≡ n = run_length w p n in
    ext_get_or 0 (bytes_at (over w (p + o) bs) p n) (over (bytes_at w p n) o bs) (run_length (over w (p + o) bs) p n ∙ sym (over_length (bytes_at w p n) o bs ∙ size))
    (λ j l. (let below : j < n = omega (arith, run_length (over w (p + o) bs) p n) in byte_in (over w (p + o) bs) p n j below ∙ go j below (ltb j o) refl (ltb j (o + length bs)) refl))
  where
    out : (j : ℕ) → j < n → (o ≤ j → j < o + length bs → ⊥) → byte (over w (p + o) bs) (p + j) ≡ byte (over (bytes_at w p n) o bs) j
    out j l apart =
        byte_outside w (p + o) bs (p + j) (λ a b. apart (omega arith) (omega arith)) ∙ sym (byte_in w p n j l) ∙ sym (byte_outside (bytes_at w p n) o bs j apart)

    go : (j : ℕ) → j < n → (x : Bool) → ltb j o ≡ x → (y : Bool) → ltb j (o + length bs) ≡ y → byte (over w (p + o) bs) (p + j) ≡ byte (over (bytes_at w p n) o bs) j
    go j l true e y f = let a : j < o = ltb-true j o e in out j l (λ b c. omega arith)
    go j l false e true f =
        let a : o ≤ j = ltb-false j o e in
        let b : j < o + length bs = ltb-true j (o + length bs) f in
        let d : ℕ = j - o in
        let size : length (bytes_at w p n) ≡ n = run_length w p n in
        ap (byte (over w (p + o) bs)) (omega arith) ∙ byte_inside w (p + o) bs d (omega arith) (omega arith)
        ∙ sym (ap (byte (over (bytes_at w p n) o bs)) (omega arith) ∙ byte_inside (bytes_at w p n) o bs d (omega arith) (omega arith))
    go j l false e false f = let a : o + length bs ≤ j = ltb-false j (o + length bs) f in out j l (λ b c. omega arith)

-- ---- Zeros

pub zeros_length : (n : ℕ) → length (zeros n) ≡ n
unfolding zeros
zeros_length n = length-replicate n 0

pub zeros_byte : (n i : ℕ) → byte (zeros n) i ≡ 0
unfolding zeros
zeros_byte zero i = refl
zeros_byte (suc n) zero = refl
zeros_byte (suc n) (suc i) = zeros_byte n i

-- what is cleared reads as 0
pub cleared : (m : List ℕ) (p n i : ℕ) → p ≤ i → i < p + n → byte (over m p (zeros n)) i ≡ 0
cleared m p n i l u = go (leb (length m) i) refl
  where
    size : length (over m p (zeros n)) ≡ length m
    size = over_length m p (zeros n)

    place : p + (i - p) ≡ i
    place = omega arith

    go : (b : Bool) → leb (length m) i ≡ b → byte (over m p (zeros n)) i ≡ 0
    go true e = get_or-eq_default (over m p (zeros n)) 0 (omega (arith, size, leb-true (length m) i e))
    go false e =
        ap (byte (over m p (zeros n))) (sym place)
        ∙ byte_inside m p (zeros n) (i - p) (omega (arith, leb-false (length m) i e)) (omega (arith, zeros_length n))
        ∙ zeros_byte n (i - p)

-- ---- Numbers

pub high_length : (k n : ℕ) → length (high_bytes k n) ≡ k
unfolding high_bytes
high_length zero n = refl
high_length (suc k) n = ap suc (high_length k n)

-- the k bytes of w, read after n, are n moved up by k bytes and what of w fits k bytes
number_high : (k w n : ℕ) → number (high_bytes k w) n ≡ n * 256 ^ k + w % 256 ^ k
unfolding high_bytes number
number_high zero w n = omega (arith, mod-one w)
number_high (suc k) w n =
    let d : ℕ = w / 256 ^ k % 256 in
    let low : w % 256 ^ suc k ≡ d * 256 ^ k + w % 256 ^ k =
    ap (λ (x : ℕ). w % x) (pow-suc 256 k ∙ mul_comm (256 ^ k) 256) ∙ mod-mul w (zero-lt-suc 255) (one-le-pow k 256 (zero-lt-suc 255)) in
    let high : n * 256 ^ suc k ≡ n * 256 * 256 ^ k =
    ap (λ (x : ℕ). n * x) (pow-suc 256 k ∙ mul_comm (256 ^ k) 256) ∙ sym (mul_assoc n 256 (256 ^ k)) in
    omega (arith, number_high k w (n * 256 + d), add-mul (n * 256) d (256 ^ k))

-- a number that fits k bytes is read back from them
pub number_back : (k n : ℕ) → n < 256 ^ k → number (high_bytes k n) 0 ≡ n
number_back k n h = omega (arith, number_high k n 0, mod-eq_of_lt h, zero-mul (256 ^ k))

-- of one byte and of two
pub byte_number_lem : (m : List ℕ) (p : ℕ) → byte m p ≡ number (bytes_at m p 1) 0
unfolding number bytes_at
byte_number_lem m p = omega arith

pub two_number : (m : List ℕ) (p : ℕ) → two m p ≡ number (bytes_at m p 2) 0
unfolding number bytes_at two
two_number m p = omega (arith, ap (byte m) (add-one p))

pub two_same : (m m' : List ℕ) (p q : ℕ) → bytes_at m p 2 ≡ bytes_at m' q 2 → two m p ≡ two m' q
two_same m m' p q same = two_number m p ∙ ap (λ (bs : List ℕ). number bs 0) same ∙ sym (two_number m' q)

-- two bytes of a run
pub two_in : (w : List ℕ) (p n o : ℕ) → o + 2 ≤ n → two (bytes_at w p n) o ≡ two w (p + o)
two_in w p n o h = two_same (bytes_at w p n) w o (p + o) (run_in w p n o 2 h)

-- a byte is its one byte
pub one_byte : (b : ℕ) → b < 256 → high_bytes 1 b ≡ b ∷ []
unfolding high_bytes
one_byte b h = ap (λ (x : ℕ). x ∷ []) (ap (λ (x : ℕ). x % 256) (div-one b) ∙ mod-eq_of_lt h)

-- two bytes and eight, stored one by one
pub two_stored : (m : List ℕ) (p n : ℕ) → n < 65536 → set (set m p (n / 256)) (p + 1) (n % 256) ≡ over m p (high_bytes 2 n)
unfolding over high_bytes
two_stored m p n h =
    let high : n / 256 ^ 1 % 256 ≡ n / 256 = omega arith in
    let low : n / 256 ^ 0 % 256 ≡ n % 256 = omega arith in
    rw (high, low, add-one)

pub eight_stored : (m : List ℕ) (p n : ℕ) → n < 18446744073709551616
    → set (set (set (set (set (set (set (set m p (n / 72057594037927936)) (p + 1) (n / 281474976710656 % 256)) (p + 2) (n / 1099511627776 % 256)) (p + 3) (n / 4294967296 % 256)) (p + 4) (n / 16777216 % 256)) (p + 5) (n / 65536 % 256)) (p + 6) (n / 256 % 256)) (p + 7) (n % 256)
    ≡ over m p (high_bytes 8 n)
unfolding over high_bytes
eight_stored m p n h =
    let highest : n / 256 ^ 7 % 256 ≡ n / 72057594037927936 = omega arith in
    let lowest : n / 256 ^ 0 % 256 ≡ n % 256 = omega arith in
    let place1 : suc p ≡ p + 1 = omega arith in
    let place2 : suc (p + 1) ≡ p + 2 = omega arith in
    let place3 : suc (p + 2) ≡ p + 3 = omega arith in
    let place4 : suc (p + 3) ≡ p + 4 = omega arith in
    let place5 : suc (p + 4) ≡ p + 5 = omega arith in
    let place6 : suc (p + 5) ≡ p + 6 = omega arith in
    let place7 : suc (p + 6) ≡ p + 7 = omega arith in
    rw (highest, lowest, place1, place2, place3, place4, place5, place6, place7)

byte_powers : (k : ℕ) → 256 ^ k ≡ 2 ^ (8 * k)
byte_powers zero = refl
byte_powers (suc k) =
    let more : 8 * suc k ≡ 8 * k + 8 = omega arith in
    pow-suc 256 k ∙ ap (λ (x : ℕ). x * 256) (byte_powers k) ∙ sym (pow-add 2 (8 * k) 8) ∙ ap (λ (j : ℕ). 2 ^ j) (sym more)

-- the highest of k bytes, by a shift, and the others
pub high_more : (k n : ℕ) → 0 < k → high_bytes k n ≡ n / 2 ^ (8 * (k - 1)) % 256 ∷ high_bytes (k - 1) n
unfolding high_bytes
high_more zero n h = absurd (omega arith)
high_more (suc k) n h =
    let less : k ≡ suc k - 1 = omega arith in
    ap (λ (x : ℕ). n / x % 256 ∷ high_bytes k n) (byte_powers k) ∙ ap (λ (j : ℕ). n / 2 ^ (8 * j) % 256 ∷ high_bytes j n) less

-- ---- Numbers stored and read

-- a number stored in k bytes that it fits is read back from there
pub stored_back : (m : List ℕ) (p k n : ℕ) → p + k ≤ length m → n < 256 ^ k → number (bytes_at (over m p (high_bytes k n)) p k) 0 ≡ n
stored_back m p k n room h =
    let size : length (high_bytes k n) ≡ k = high_length k n in
    let run : bytes_at (over m p (high_bytes k n)) p k ≡ high_bytes k n =
    ap (bytes_at (over m p (high_bytes k n)) p) (sym size) ∙ run_back m p (high_bytes k n) (omega arith) in
    ap (λ (bs : List ℕ). number bs 0) run ∙ number_back k n h

-- a run that does not meet those k bytes reads as before
pub stored_outside : (m : List ℕ) (p k n q j : ℕ) → ((i : ℕ) → q ≤ i → i < q + j → p ≤ i → i < p + k → ⊥) → bytes_at (over m p (high_bytes k n)) q j ≡ bytes_at m q j
stored_outside m p k n q j apart = run_outside m p (high_bytes k n) q j (λ i a b c d. apart i a b c (omega (arith, high_length k n)))

-- of one byte, of two and of a signed number
pub stored_byte : (m : List ℕ) (p b : ℕ) → p + 1 ≤ length m → b < 256 → byte (over m p (high_bytes 1 b)) p ≡ b
stored_byte m p b room h = byte_number_lem (over m p (high_bytes 1 b)) p ∙ stored_back m p 1 b room h

pub stored_two : (m : List ℕ) (p n : ℕ) → p + 2 ≤ length m → n < 65536 → two (over m p (high_bytes 2 n)) p ≡ n
stored_two m p n room h = two_number (over m p (high_bytes 2 n)) p ∙ stored_back m p 2 n room h

-- `mag z` is n both for n and for −(n + 1): 64 bits hold z if it is below 2⁶³
pub word_lt : (z : ℤ) → mag z < 9223372036854775808 → word64 z < 256 ^ 8
unfolding word64
word_lt (pos n) h = omega arith
word_lt (negsuc n) h = omega arith

pub signed_low : (n : ℕ) → n < 9223372036854775808 → signed64 n ≡ pos n
unfolding signed64
signed_low n h = rw (lt-ltb n 9223372036854775808 h, signed64)

pub signed_high : (n : ℕ) → 9223372036854775808 ≤ n → signed64 n ≡ negsuc (18446744073709551615 - n)
unfolding signed64
signed_high n h = rw (le-ltb n 9223372036854775808 h, signed64)

pub signed_back : (z : ℤ) → mag z < 9223372036854775808 → signed64 (word64 z) ≡ z
unfolding word64
signed_back (pos n) h = signed_low n h
signed_back (negsuc n) h = signed_high (18446744073709551615 - n) (omega arith) ∙ ap negsuc (omega arith)

pub stored_signed : (m : List ℕ) (p : ℕ) (z : ℤ) → p + 8 ≤ length m → mag z < 9223372036854775808 → signed64 (number (bytes_at (over m p (high_bytes 8 (word64 z))) p 8) 0) ≡ z
stored_signed m p z room h = ap signed64 (stored_back m p 8 (word64 z) room (word_lt z h)) ∙ signed_back z h
