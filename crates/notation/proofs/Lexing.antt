-- The lexer goes on: over one byte, over the bytes of a name, and past the end of a token.
use Prim.Native.Nat.{ℕ, suc, ◌≤◌}
use mathlib.Core.Path.{◌≡◌, refl, sym, ap, ◌∙◌, subst}
use mathlib.Core.List.{List, [], ◌∷◌, ◌++◌, append_assoc, append-nil}
use mathlib.Core.Bool.{Bool, true, false, ◌&&◌, ◌||◌}
use native.Mathlib.Omega.{arith}
use lib.Dec.{leb, eqb}
use borrow.Author.Tests.{eqb-true, ne_eqb, leb-true}
use Rattle.rules.proofs.Within.{false_not_true}
use Rattle.notation.specs.Tokens.{is_among, Lexeme}
use Rattle.notation.specs.Lexing.{is_space, is_letter, is_digit, in_word, Mode, between, Read, reads, with, begins, step_byte, line_behind, lex}
use Rattle.notation.specs.Printer.{all_in_word}

-- ---- Steps

-- the bytes s, read from mode m on, lead to the bytes r in mode n without a token: from line l to line k
pub record Leads (s : List ℕ) (m : Mode) (p l : ℕ) (r : List ℕ) (n : Mode) (k : ℕ) : Type 0 where
  pub place : ℕ
  pub leads : lex s m p l ≡ lex r n place k

-- they give the token x, and then the bytes r are read from between two tokens on, on the same line
pub record Gives (s : List ℕ) (m : Mode) (p l : ℕ) (x : Lexeme) (r : List ℕ) (o : Bool) : Type 0 where
  pub behind : ℕ
  pub gives : lex s m p l ≡ x ∷ lex r (between o) behind l

-- one step gives the tokens that the byte brings
pub lex_step : (c : ℕ) (cs : List ℕ) (m : Mode) (p l : ℕ) (xs : List Lexeme) (n : Mode) → step_byte m p l c ≡ reads xs n → lex (c ∷ cs) m p l ≡ xs ++ lex cs n (suc p) (line_behind c l)
unfolding lex
lex_step c cs m p l xs n h = rw (lex, h)

infixr 2 ◌then◌
infixr 2 ◌giving◌
-- one after the other
pub ◌then◌ : {s r u : List ℕ} {m n o : Mode} {p l k j : ℕ} → Leads s m p l r n k → ((q : ℕ) → Leads r n q k u o j) → Leads s m p l u o j
◌then◌ a b = record { place = (b a.place).place; leads = a.leads ∙ (b a.place).leads }

-- and a token at the end
pub ◌giving◌ : {s r u : List ℕ} {m n : Mode} {p l : ℕ} {x : Lexeme} {o : Bool} → Leads s m p l r n l → ((q : ℕ) → Gives r n q l x u o) → Gives s m p l x u o
◌giving◌ a b = record { behind = (b a.place).behind; gives = a.leads ∙ (b a.place).gives }

-- the same mode, said otherwise
pub in_mode : {s r : List ℕ} {m n o : Mode} {p l k : ℕ} → n ≡ o → Leads s m p l r n k → Leads s m p l r o k
in_mode e a = record { place = a.place; leads = rw (sym e) a.leads }

-- a byte other than a line feed that ends nothing
pub over : {c p l : ℕ} {cs : List ℕ} {m n : Mode} → step_byte m p l c ≡ reads [] n → eqb c 0x0a ≡ false → Leads (c ∷ cs) m p l cs n l
over {c} {p} {l} {cs} {m} {n} h e = record { place = suc p; leads = lex_step c cs m p l [] n h ∙ rw e }

-- a token ends with a byte other than a line feed
pub last_byte : {c p l : ℕ} {cs : List ℕ} {m : Mode} {x : Lexeme} {o : Bool} → step_byte m p l c ≡ reads (x ∷ []) (between o) → eqb c 0x0a ≡ false → Gives (c ∷ cs) m p l x cs o
last_byte {c} {p} {l} {cs} {m} {x} {o} h e = record { behind = suc p; gives = lex_step c cs m p l (x ∷ []) (between o) h ∙ rw e }

-- a token has ended, and the byte begins something
pub resumed : {c p l : ℕ} {cs : List ℕ} {m : Mode} {x : Lexeme} {o : Bool} → step_byte m p l c ≡ with x (begins o p l c) → Gives (c ∷ cs) m p l x (c ∷ cs) o
unfolding lex step_byte
resumed {c} {p} {l} {cs} {m} {x} {o} h = record { behind = p; gives = rw (lex, h) (go (begins o p l c)) }
  where
    go : (r : Read) → ◌≡◌ {A = List Lexeme} (elim (with x r) as (λ r. List Lexeme) [ reads xs n ↦ xs ++ lex cs n (suc p) (line_behind c l) ]) (x ∷ elim r as (λ r. List Lexeme) [ reads xs n ↦ xs ++ lex cs n (suc p) (line_behind c l) ])
    go (reads xs n) = refl

-- ---- Tests of bytes

-- both of two tests hold
pub both_true : (a b : Bool) → (a && b) ≡ true → (a ≡ true) × (b ≡ true)
both_true true b e = (refl, e)
both_true false b e = false_not_true e

-- what holds of each number of a list holds of a number that is among them
infixr 3 ◌▹◌
pub data Each (P : ℕ → Type 0) : List ℕ → Type 0 where
  all : Each P []
  ◌▹◌ : {x : ℕ} {xs : List ℕ} → P x → Each P xs → Each P (x ∷ xs)

pub of_each : (P : ℕ → Type 0) (k : ℕ) (xs : List ℕ) → is_among k xs ≡ true → Each P xs → P k
of_each P k [] h all = false_not_true h
of_each P k (x ∷ xs) h (a ▹ e) = go (λ i. of_each P k xs i e) (eqb k x) refl h
  where
    go : (is_among k xs ≡ true → P k) → (b : Bool) → eqb k x ≡ b → (b || is_among k xs) ≡ true → P k
    go further true i h = subst P (sym (eqb-true k x i)) a
    go further false i h = further h

-- letters, digits and the other bytes of words are not below 0
letter_low : (c : ℕ) → is_letter c ≡ true → 0x61 ≤ c
letter_low c h = leb-true 0x61 c (both_true (leb 0x61 c) (leb c 0x7a) h).0

digit_low : (c : ℕ) → is_digit c ≡ true → 0x30 ≤ c
digit_low c h = leb-true 0x30 c (both_true (leb 0x30 c) (leb c 0x39) h).0

word_low : (c : ℕ) → in_word c ≡ true → 0x30 ≤ c
word_low c h = go (is_letter c) (is_digit c) (eqb c 0x5f) refl refl refl h
  where
    go : (a b d : Bool) → is_letter c ≡ a → is_digit c ≡ b → eqb c 0x5f ≡ d → (a || (b || d)) ≡ true → 0x30 ≤ c
    go true b d e f g i = omega (arith, letter_low c e)
    go false true d e f g i = digit_low c f
    go false false true e f g i = omega (arith, eqb-true c 0x5f g)
    go false false false e f g i = false_not_true i

-- so no byte of a word is a line feed
pub no_feed : (c : ℕ) → 0x30 ≤ c → eqb c 0x0a ≡ false
no_feed c h = ne_eqb c 0x0a (omega arith)

pub letter_no_feed : (c : ℕ) → is_letter c ≡ true → eqb c 0x0a ≡ false
letter_no_feed c h = no_feed c (omega (arith, letter_low c h))

-- a letter begins a word
pub letter_begins : (o : Bool) (c p l : ℕ) → is_letter c ≡ true → begins o p l c ≡ reads [] (Mode.in_name p l (c ∷ []))
unfolding begins
letter_begins o c p l h =
    let low = letter_low c h in
    rw (ne_eqb c 0x20 (omega arith), ne_eqb c 0x09 (omega arith), ne_eqb c 0x0d (omega arith), ne_eqb c 0x0a (omega arith), ne_eqb c 0x23 (omega arith), h)

-- ---- White space

-- white space between two tokens changes the line alone
pub space_passed : (o : Bool) (c : ℕ) (cs : List ℕ) (p l : ℕ) → is_space c ≡ true → Leads (c ∷ cs) (between o) p l cs (between o) (line_behind c l)
unfolding step_byte begins
space_passed o c cs p l h = record { place = suc p; leads = lex_step c cs (between o) p l [] (between o) (rw (begins, h)) }

-- ---- Bytes of a name, in any mode that gathers them

abbrev pub Gathers : (List ℕ → Mode) → Type 0
Gathers M = (v : List ℕ) (c p l : ℕ) → in_word c ≡ true → step_byte (M v) p l c ≡ reads [] (M (v ++ (c ∷ [])))

-- they are all gathered
pub gathered : (M : List ℕ → Mode) → Gathers M → (w v r : List ℕ) (p l : ℕ) → all_in_word w ≡ true → Leads (w ++ r) (M v) p l r (M (v ++ w)) l
unfolding all_in_word
gathered M g [] v r p l h = record { place = p; leads = rw append-nil }
gathered M g (c ∷ w) v r p l h =
    let here : in_word c ≡ true = (both_true (in_word c) (all_in_word w) h).0 in
    over (g v c p l here) (no_feed c (word_low c here))
    then λ q. in_mode (ap M (append_assoc v (c ∷ []) w)) (gathered M g w (v ++ (c ∷ [])) r q l (both_true (in_word c) (all_in_word w) h).1)

-- ---- What follows a token in a layout

-- line feed, space, ) ] [ , :
abbrev pub stop_bytes : List ℕ
stop_bytes = 0x0a ∷ 0x20 ∷ 0x29 ∷ 0x5d ∷ 0x5b ∷ 0x2c ∷ 0x3a ∷ []

abbrev pub stops : List ℕ → Bool
stops [] = false
stops (c ∷ cs) = is_among c stop_bytes

abbrev pub colon_first : List ℕ → Bool
colon_first [] = false
colon_first (c ∷ cs) = eqb c 0x3a

abbrev pub two_colons : List ℕ → Bool
two_colons [] = false
two_colons (c ∷ cs) = eqb c 0x3a && colon_first cs

-- no such byte is in a word, in a number or the second byte of a sign
pub record Stop (c : ℕ) : Type 0 where
  pub not_in_word : in_word c ≡ false
  pub no_digit : is_digit c ≡ false
  pub no_equals : eqb c 0x3d ≡ false
  pub not_above : eqb c 0x3e ≡ false

pub stop_byte : (c : ℕ) → is_among c stop_bytes ≡ true → Stop c
stop_byte c h = of_each Stop c stop_bytes h (stop refl refl refl refl ▹ stop refl refl refl refl ▹ stop refl refl refl refl ▹ stop refl refl refl refl ▹ stop refl refl refl refl ▹ stop refl refl refl refl ▹ stop refl refl refl refl ▹ all)
  where
    stop : {c : ℕ} → in_word c ≡ false → is_digit c ≡ false → eqb c 0x3d ≡ false → eqb c 0x3e ≡ false → Stop c
    stop a b d e = record { not_in_word = a; no_digit = b; no_equals = d; not_above = e }

-- such a byte ends a token
pub stopped : (m : Mode) (x : Lexeme) (o : Bool) (r : List ℕ) (p l : ℕ) → stops r ≡ true → ((c : ℕ) → Stop c → step_byte m p l c ≡ with x (begins o p l c)) → Gives r m p l x r o
stopped m x o [] p l h f = false_not_true h
stopped m x o (c ∷ cs) p l h f = resumed (f c (stop_byte c h))
