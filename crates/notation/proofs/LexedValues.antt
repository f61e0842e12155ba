-- Strings and numbers are read back from their spelling.
use Prim.Native.Nat.{ℕ, zero, suc, ◌+◌, ◌*◌, ◌-◌, ◌/◌, ◌%◌, ◌^◌, ◌≤◌, ◌<◌}
use mathlib.Core.Path.{◌≡◌, refl, sym, ap, subst}
use mathlib.Core.List.{List, [], ◌∷◌, ◌++◌, append_assoc, append-nil}
use mathlib.Core.Bool.{Bool, true, false}
use native.Mathlib.Nat.{pow-suc}
use native.Mathlib.Omega.{arith}
use lib.Dec.{ltb, eqb}
use lib.IntN.{pos, negsuc}
use lib.ListN.{length}
use borrow.Author.Tests.{eqb-true, ne_eqb, le-leb, lt-leb, ltb-true, ltb-false}
use Rattle.values.specs.Decimal.{digits, decimal}
use Rattle.notation.specs.Tokens.{Token, number, text, kind, operand_behind, lexeme, a_number, a_text}
use Rattle.notation.specs.Lexing.{is_digit, is_quote, text_token, signed_token, Mode, between, behind_minus, in_number, in_string, in_escape, reads, begins, step_byte}
use Rattle.notation.specs.Layout.{escaped, escaped_all}
use Rattle.notation.proofs.Lexing.{Leads, Gives, ◌then◌, ◌giving◌, in_mode, over, last_byte, no_feed, stops, stopped}

-- ---- Strings in single quotes: every byte

-- a byte, escaped or not
string_byte : (c : ℕ) (v r : List ℕ) (q m p l : ℕ) → Leads (escaped c ++ r) (in_string q m 0x27 v) p l r (in_string q m 0x27 (v ++ (c ∷ []))) l
unfolding step_byte
string_byte c v r q m p l = by_quote (eqb c 0x27) refl
  where
    Goal : ℕ → Type 0
    Goal c = Leads (escaped c ++ r) (in_string q m 0x27 v) p l r (in_string q m 0x27 (v ++ (c ∷ []))) l

    by_feed : (b : Bool) → eqb c 0x27 ≡ false → eqb c 0x5c ≡ false → eqb c 0x0a ≡ b → Goal c
    by_feed true e f g = subst Goal (sym (eqb-true c 0x0a g)) (over {n = in_escape q m 0x27 v} refl refl then λ i. over refl refl)
    by_feed false e f g = rw (e, f, g) (over (rw (e, f)) g)

    by_backslash : (b : Bool) → eqb c 0x27 ≡ false → eqb c 0x5c ≡ b → Goal c
    by_backslash true e f = subst Goal (sym (eqb-true c 0x5c f)) (over {n = in_escape q m 0x27 v} refl refl then λ i. over refl refl)
    by_backslash false e f = by_feed (eqb c 0x0a) e f refl

    by_quote : (b : Bool) → eqb c 0x27 ≡ b → Goal c
    by_quote true e = subst Goal (sym (eqb-true c 0x27 e)) (over {n = in_escape q m 0x27 v} refl refl then λ i. over refl refl)
    by_quote false e = by_backslash (eqb c 0x5c) e refl

-- all bytes
string_gathered : (s v r : List ℕ) (q m p l : ℕ) → Leads (escaped_all s ++ r) (in_string q m 0x27 v) p l r (in_string q m 0x27 (v ++ s)) l
unfolding escaped_all
string_gathered [] v r q m p l = record { place = p; leads = rw append-nil }
string_gathered (c ∷ s) v r q m p l =
    rw append_assoc (string_byte c v (escaped_all s ++ r) q m p l then λ i. in_mode (ap (in_string q m 0x27) (append_assoc v (c ∷ []) s)) (string_gathered s (v ++ (c ∷ [])) r q m i l))

-- the whole string, whatever follows it
pub string_lexed : (o : Bool) (s r : List ℕ) (p l : ℕ) → length s ≤ 255 → Gives (0x27 ∷ (escaped_all s ++ (0x27 ∷ r))) (between o) p l (lexeme p l (text s)) r (operand_behind a_text)
unfolding step_byte begins is_quote text_token
string_lexed o s r p l h =
    over {n = in_string p l 0x27 []} refl refl
    giving λ q. string_gathered s [] (0x27 ∷ r) p l q l
    giving λ q. last_byte (rw (le-leb (length s) 255 h)) refl

-- ---- Numbers

-- the digit d, as a byte
is_digit_lem : (d : ℕ) → d < 10 → is_digit (48 + d) ≡ true
is_digit_lem d h = rw (le-leb 0x30 (48 + d) (omega arith), le-leb (48 + d) 0x39 (omega arith))

back : (d : ℕ) → 48 + d - 48 ≡ d
back d = omega arith

-- one more digit
next_digit : (s : Bool) (q m a d n : ℕ) (r : List ℕ) (p l : ℕ) → 1 ≤ a → d < 10 → a * 10 + d ≡ n → Leads ((48 + d) ∷ r) (in_number q m s a) p l r (in_number q m s n) l
unfolding step_byte
next_digit s q m zero d n r p l h i e = absurd (omega arith)
next_digit s q m (suc a) d n r p l h i e =
    let same : suc a * 10 + (48 + d - 48) ≡ n = omega (arith, back d) in
    in_mode (ap (in_number q m s) same) (over (rw (is_digit_lem d i)) (no_feed (48 + d) (omega arith)))

-- the digits of n, from the mode i in which the first begins a number
digits_read : (s : Bool) (q m : ℕ) (i : Mode) (p l : ℕ) → ((d : ℕ) → d < 10 → step_byte i p l (48 + d) ≡ reads [] (in_number q m s d))
    → (k n : ℕ) (after r : List ℕ) → n < 10 ^ suc k → Leads (digits k n after ++ r) i p l (after ++ r) (in_number q m s n) l
unfolding digits
digits_read s q m i p l f zero n after r h =
    let same : n ≡ n % 10 = omega arith in
    subst (λ (d : ℕ). Leads ((48 + d) ∷ after ++ r) i p l (after ++ r) (in_number q m s n) l) same (over (f n h) (no_feed (48 + n) (omega arith)))
digits_read s q m i p l f (suc k) n after r h = go (λ j. digits_read s q m i p l f k (n / 10) ((48 + n % 10) ∷ after) r j) (ltb n 10) refl
  where
    go : (n / 10 < 10 ^ suc k → Leads (digits k (n / 10) ((48 + n % 10) ∷ after) ++ r) i p l ((48 + n % 10) ∷ after ++ r) (in_number q m s (n / 10)) l)
        → (b : Bool) → ltb n 10 ≡ b → Leads (elim b [ true ↦ (48 + n) ∷ after | false ↦ digits k (n / 10) ((48 + n % 10) ∷ after) ] ++ r) i p l (after ++ r) (in_number q m s n) l
    go rest true e = over (f n (ltb-true n 10 e)) (no_feed (48 + n) (omega arith))
    go rest false e =
        let p : 10 ^ suc (suc k) ≡ 10 ^ suc k * 10 = pow-suc 10 (suc k) in
        let large : 10 ≤ n = ltb-false n 10 e in
        rest (omega arith) then λ j. next_digit s q m (n / 10) (n % 10) n (after ++ r) j l (omega arith) (omega arith) (omega arith)

-- what follows a number ends it
number_ends : (q m : ℕ) (s : Bool) (n : ℕ) (t : Token) (r : List ℕ) (p l : ℕ) → signed_token s n ≡ t → stops r ≡ true → Gives r (in_number q m s n) p l (lexeme q m t) r (operand_behind (kind t))
unfolding step_byte
number_ends q m s zero t r p l e h = stopped (in_number q m s zero) (lexeme q m t) (operand_behind (kind t)) r p l h (λ c i. rw (i.not_in_word, e))
number_ends q m s (suc n) t r p l e h = stopped (in_number q m s (suc n)) (lexeme q m t) (operand_behind (kind t)) r p l h (λ c i. rw (i.not_in_word, i.no_digit, e))

-- a digit begins a number
digit_begins : (o : Bool) (p l d : ℕ) → d < 10 → begins o p l (48 + d) ≡ reads [] (in_number p l false d)
unfolding begins
digit_begins o p l d h =
    let c : ℕ = 48 + d in
    rw (ne_eqb c 0x20 (omega arith), ne_eqb c 0x09 (omega arith), ne_eqb c 0x0d (omega arith), ne_eqb c 0x0a (omega arith), ne_eqb c 0x23 (omega arith), lt-leb 0x61 c (omega arith), ne_eqb c 0x24 (omega arith), is_digit_lem d h)
    (ap (λ (n : ℕ). reads [] (in_number p l false n)) (back d))

-- numbers from 0 on, and below 0 where an operand may begin
pub number_lexed : (o : Bool) (n : ℕ) (r : List ℕ) (p l : ℕ) → n ≤ 9223372036854775807 → stops r ≡ true → Gives (decimal n ++ r) (between o) p l (lexeme p l (number (pos n))) r (operand_behind a_number)
unfolding step_byte decimal signed_token
number_lexed o n r p l h s =
    digits_read false p l (between o) p l (λ d i. digit_begins o p l d i) 20 n [] r (omega arith)
    giving λ q. number_ends p l false n (number (pos n)) r q l (rw (le-leb n 9223372036854775807 h)) s

pub negative_lexed : (n : ℕ) (r : List ℕ) (p l : ℕ) → n ≤ 9223372036854775807 → stops r ≡ true → Gives (0x2d ∷ decimal (suc n) ++ r) (between true) p l (lexeme p l (number (negsuc n))) r (operand_behind a_number)
unfolding step_byte begins decimal signed_token
negative_lexed n r p l h s =
    over {n = behind_minus p l} refl refl
    giving λ i. digits_read true p l (behind_minus p l) i l (λ d j. rw (is_digit_lem d j) (ap (λ (k : ℕ). reads [] (in_number p l true k)) (back d))) 20 (suc n) [] r (omega arith)
    giving λ q. number_ends p l true (suc n) (number (negsuc n)) r q l (rw (le-leb n 9223372036854775807 h)) s
