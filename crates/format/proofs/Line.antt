-- What the digits of a line say, and one law for each way through the functions that read them.
use mathlib.Core.Path.{◌≡◌, refl, sym, ap, ◌∙◌}
use mathlib.Core.Bool.{Bool, true, false, ◌&&◌}
use mathlib.Core.List.{List}
use Prim.Native.Nat.{ℕ, zero, suc, ◌+◌, ◌*◌, ◌/◌, ◌%◌, ◌^◌, ◌≤◌, ◌<◌}
use native.Mathlib.Omega.{arith}
use native.Mathlib.Nat.{div-div-eq-div-mul, pow-succ'}
use lib.Dec.{eqb, ltb, leb}
use Rattle.rules.specs.Bytes.{byte, two}
use Rattle.rules.specs.Format.{form_of, allowed, size, head_size, rest_right, length_right, piece_right, name_right}
use Rattle.rules.specs.Check.{stride}
use Rattle.rules.specs.declared.Piece.{Piece}
use Rattle.rules.specs.declared.Piece.TheVariants.{Nothing, Label, Integer, Boolean, Operator, Name}
use Rattle.rules.specs.declared.Rest.{Rest}
use Rattle.rules.specs.declared.Rest.TheVariants.{Only, Text, Fields}
use Rattle.rules.specs.declared.Form.{Form}
use Rattle.format.specs.Numbers.{byte_number, name_number, rest_number, fields_follow, head_number, kind_from, bit, bits, kinds_number, line_number}

-- ---- The numbers that a line is made of

small_size : (x : Piece) → size x ≤ 8
unfolding size
small_size Nothing = omega arith
small_size Label = omega arith
small_size Integer = omega arith
small_size Boolean = omega arith
small_size Operator = omega arith
small_size Name = omega arith

small_byte : (x : Piece) → byte_number x ≤ 2
unfolding byte_number
small_byte Nothing = omega arith
small_byte Label = omega arith
small_byte Integer = omega arith
small_byte Boolean = omega arith
small_byte Operator = omega arith
small_byte Name = omega arith

small_name : (x : Piece) → name_number x ≤ 1
unfolding name_number
small_name Nothing = omega arith
small_name Label = omega arith
small_name Integer = omega arith
small_name Boolean = omega arith
small_name Operator = omega arith
small_name Name = omega arith

small_rest : (r : Rest) → rest_number r ≤ 2
unfolding rest_number
small_rest Only = omega arith
small_rest Text = omega arith
small_rest (Fields ps) = omega arith

-- a line's digits
pub record Digits (h s r a b c d f k : ℕ) : Type 0 where
  pub size : h % 32 ≡ s
  pub rest : h / 32 % 4 ≡ r
  pub byte1 : h / 128 % 4 ≡ a
  pub byte2 : h / 512 % 4 ≡ b
  pub bytes : h / 128 % 16 ≡ a + 4 * b
  pub name1 : h / 2048 % 2 ≡ c
  pub name2 : h / 4096 % 2 ≡ d
  pub names : h / 2048 % 4 ≡ c + 2 * d
  pub first : h / 8192 % 16 ≡ f
  pub kinds : h / 4294967296 ≡ k

digits : (s r a b c d f k : ℕ) {h : ℕ} → h ≡ s + 32 * r + 128 * a + 512 * b + 2048 * c + 4096 * d + 8192 * f + 4294967296 * k → s ≤ 16 → r ≤ 2 → a ≤ 2 → b ≤ 2 → c ≤ 1 → d ≤ 1 → f ≤ 8 → Digits h s r a b c d f k
digits s r a b c d f k {h} e ks kr ka kb kc kd kf =
    let u : h / 32 ≡ r + 4 * a + 16 * b + 64 * c + 128 * d + 256 * f + 134217728 * k = omega arith in
    let v : h / 128 ≡ a + 4 * b + 16 * c + 32 * d + 64 * f + 33554432 * k = omega arith in
    let w : h / 512 ≡ b + 4 * c + 8 * d + 16 * f + 8388608 * k = omega arith in
    let x : h / 2048 ≡ c + 2 * d + 4 * f + 2097152 * k = omega arith in
    let y : h / 4096 ≡ d + 2 * f + 1048576 * k = omega arith in
    let z : h / 8192 ≡ f + 524288 * k = omega arith in
    record {
      size = omega arith;
      rest = omega (arith, u);
      byte1 = omega (arith, v);
      byte2 = omega (arith, w);
      bytes = omega (arith, v);
      name1 = omega (arith, x);
      name2 = omega (arith, y);
      names = omega (arith, x);
      first = omega (arith, z);
      kinds = omega arith;
    }

module _ (t : ℕ) {h : ℕ} (e : h ≡ line_number t) where
  small_head : head_size (form_of t) ≤ 16
  unfolding head_size
  small_head = omega (arith, small_size (form_of t).one, small_size (form_of t).two)

  pub digits_in : Digits h (head_size (form_of t)) (rest_number (form_of t).rest) (byte_number (form_of t).one) (byte_number (form_of t).two) (name_number (form_of t).one) (name_number (form_of t).two) (size (form_of t).one) (kinds_number t)
  unfolding line_number head_number
  digits_in = digits _ _ _ _ _ _ _ _ e small_head (small_rest (form_of t).rest) (small_byte (form_of t).one) (small_byte (form_of t).two) (small_name (form_of t).one) (small_name (form_of t).two) (small_size (form_of t).one)

-- ---- What follows the pieces

fields_follow_lem : (r : Rest) → eqb (rest_number r * 32) 64 ≡ fields_follow r
unfolding rest_number fields_follow
fields_follow_lem Only = refl
fields_follow_lem Text = refl
fields_follow_lem (Fields ps) = refl

any_rest : (r : Rest) (h n : ℕ) → rest_number r * 32 ≡ 64 → true ≡ rest_right r h n
unfolding rest_number rest_right
any_rest Only h n e = absurd (omega arith)
any_rest Text h n e = absurd (omega arith)
any_rest (Fields ps) h n e = refl

text_rest : (r : Rest) (h n : ℕ) → rest_number r * 32 ≡ 32 → leb n 255 ≡ rest_right r h n
unfolding rest_number rest_right
text_rest Only h n e = absurd (omega arith)
text_rest Text h n e = refl
text_rest (Fields ps) h n e = absurd (omega arith)

no_rest : (r : Rest) (h n : ℕ) → (rest_number r * 32 ≡ 64 → ⊥) → (rest_number r * 32 ≡ 32 → ⊥) → eqb n h ≡ rest_right r h n
unfolding rest_number rest_right
no_rest Only h n a b = refl
no_rest Text h n a b = absurd (b refl)
no_rest (Fields ps) h n a b = absurd (a refl)

stride_by : (r : Rest) (h n : ℕ) → (fields_follow r ≡ true → h ≡ stride r h n) × (fields_follow r ≡ false → n ≡ stride r h n)
unfolding fields_follow stride
stride_by Only h n = (λ e. let z : ◌≡◌ {A = ℕ} 0 1 = cc in absurd (omega arith), λ e. refl)
stride_by Text h n = (λ e. let z : ◌≡◌ {A = ℕ} 0 1 = cc in absurd (omega arith), λ e. refl)
stride_by (Fields ps) h n = (λ e. refl, λ e. let z : ◌≡◌ {A = ℕ} 0 1 = cc in absurd (omega arith))

module _ (t : ℕ) {h : ℕ} (e : h ≡ line_number t) where
  rest_times : h / 32 % 4 * 32 ≡ rest_number (form_of t).rest * 32
  rest_times = ap (λ (x : ℕ). x * 32) (digits_in t e).rest

  pub has_fields : eqb (h / 32 % 4 * 32) 64 ≡ fields_follow (form_of t).rest
  has_fields = rw (digits_in t e).rest (fields_follow_lem (form_of t).rest)

  module _ (n : ℕ) where
    pub any_length : h / 32 % 4 * 32 ≡ 64 → true ≡ length_right (form_of t) n
    unfolding length_right
    any_length k = any_rest (form_of t).rest (head_size (form_of t)) n (sym rest_times ∙ k)

    pub text_length_lem : h / 32 % 4 * 32 ≡ 32 → leb n 255 ≡ length_right (form_of t) n
    unfolding length_right
    text_length_lem k = text_rest (form_of t).rest (head_size (form_of t)) n (sym rest_times ∙ k)

    pub one_length : {s : ℕ} → s ≡ head_size (form_of t) → (h / 32 % 4 * 32 ≡ 64 → ⊥) → (h / 32 % 4 * 32 ≡ 32 → ⊥) → eqb n s ≡ length_right (form_of t) n
    unfolding length_right
    one_length z a b = rw z (no_rest (form_of t).rest (head_size (form_of t)) n (λ k. a (rest_times ∙ k)) (λ k. b (rest_times ∙ k)))

module _ (l : Form) {b : Bool} (n : ℕ) (eb : b ≡ fields_follow l.rest) where
  pub into_fields : {s : ℕ} → s ≡ head_size l → b ≡ true → s ≡ stride l.rest (head_size l) n
  into_fields z k = z ∙ (stride_by l.rest (head_size l) n).0 (sym eb ∙ k)

  pub past_end : b ≡ false → n ≡ stride l.rest (head_size l) n
  past_end k = (stride_by l.rest (head_size l) n).1 (sym eb ∙ k)

-- ---- The pieces

module _ (m : List ℕ) (q : ℕ) where
  pub a_boolean_lem : {c b : ℕ} → c ≡ 1 → b ≡ byte m q → (x : Piece) → c ≡ byte_number x → leb b 1 ≡ piece_right m q x
  unfolding byte_number piece_right
  a_boolean_lem h b Boolean e = rw b
  a_boolean_lem h b Nothing e = absurd (omega arith)
  a_boolean_lem h b Label e = absurd (omega arith)
  a_boolean_lem h b Integer e = absurd (omega arith)
  a_boolean_lem h b Operator e = absurd (omega arith)
  a_boolean_lem h b Name e = absurd (omega arith)

  pub an_operator_lem : {c b : ℕ} → c ≡ 2 → b ≡ byte m q → (x : Piece) → c ≡ byte_number x → leb b 6 ≡ piece_right m q x
  unfolding byte_number piece_right
  an_operator_lem h b Operator e = rw b
  an_operator_lem h b Nothing e = absurd (omega arith)
  an_operator_lem h b Label e = absurd (omega arith)
  an_operator_lem h b Integer e = absurd (omega arith)
  an_operator_lem h b Boolean e = absurd (omega arith)
  an_operator_lem h b Name e = absurd (omega arith)

  pub any_piece : {c : ℕ} → (c ≡ 1 → ⊥) → (c ≡ 2 → ⊥) → (x : Piece) → c ≡ byte_number x → true ≡ piece_right m q x
  unfolding byte_number piece_right
  any_piece h k Nothing e = refl
  any_piece h k Label e = refl
  any_piece h k Integer e = refl
  any_piece h k Name e = refl
  any_piece h k Boolean e = absurd (h e)
  any_piece h k Operator e = absurd (k e)

  module _ (n : ℕ) where
    pub a_name_lem : {c b : ℕ} → c ≡ 1 → b ≡ two m q → (x : Piece) → c ≡ name_number x → ltb b n ≡ name_right m n q x
    unfolding name_number name_right
    a_name_lem h b Name e = rw b
    a_name_lem h b Nothing e = absurd (omega arith)
    a_name_lem h b Label e = absurd (omega arith)
    a_name_lem h b Integer e = absurd (omega arith)
    a_name_lem h b Boolean e = absurd (omega arith)
    a_name_lem h b Operator e = absurd (omega arith)

    pub no_name : {c : ℕ} → (c ≡ 1 → ⊥) → (x : Piece) → c ≡ name_number x → true ≡ name_right m n q x
    unfolding name_number name_right
    no_name h Nothing e = refl
    no_name h Label e = refl
    no_name h Integer e = refl
    no_name h Boolean e = refl
    no_name h Operator e = refl
    no_name h Name e = absurd (h e)

-- two pieces one after the other, by what is right of a piece at a place and the number that says what to check of a piece
module _ (right : ℕ → Piece → Bool) (number : Piece → ℕ) (p : ℕ) (l : Form) where
  abbrev BothRight : Bool
  BothRight = right (p + 3) l.one && right (p + 3 + size l.one) l.two

  pub none_to_check : ((q : ℕ) (x : Piece) → 0 ≡ number x → true ≡ right q x) → number l.one ≡ 0 → number l.two ≡ 0 → true ≡ BothRight
  none_to_check f a b = rw (← f (p + 3) l.one (sym a), ← f (p + 3 + size l.one) l.two (sym b))

  module _ {a : ℕ} {b : Bool} (ea : a ≡ number l.one) (eb : (x : Piece) → a ≡ number x → b ≡ right (p + 3) x) where
    pub first_wrong : b ≡ false → false ≡ BothRight
    first_wrong k = rw (← eb l.one ea, k)

    pub second_decides : {d f : ℕ} {c : Bool} → b ≡ true → d ≡ number l.two → f ≡ size l.one → ((x : Piece) → d ≡ number x → c ≡ right (p + 3 + f) x) → c ≡ BothRight
    second_decides k ed ef ec = rw (← eb l.one ea, k, ← ef) (ec l.two ed)

-- ---- The kinds

small_bit : (b : Bool) → bit b ≤ 1
small_bit true = omega arith
small_bit false = omega arith

bit_at : (f : ℕ → Bool) (n i j : ℕ) → j < n → bits f n i / 2 ^ j % 2 ≡ bit (f (i + j))
unfolding bits
bit_at f zero i j h = absurd (omega arith)
bit_at f (suc n) i zero h =
    let s = small_bit (f i) in
    let here : i + zero ≡ i = omega arith in
    rw here (omega arith)
bit_at f (suc n) i (suc j) h =
    let s = small_bit (f i) in
    let half : (bit (f i) + 2 * bits f n (suc i)) / 2 ≡ bits f n (suc i) = omega arith in
    let next : suc i + j ≡ i + suc j = omega arith in
    ap (λ (x : ℕ). (bit (f i) + 2 * bits f n (suc i)) / x % 2) (pow-succ' 2 j)
    ∙ ap (λ (x : ℕ). x % 2) (sym (div-div-eq-div-mul (bit (f i) + 2 * bits f n (suc i)) 2 (2 ^ j)) ∙ ap (λ (x : ℕ). x / 2 ^ j) half)
    ∙ bit_at f n (suc i) j (omega arith)
    ∙ ap (λ (x : ℕ). bit (f x)) next

bit_told : (b : Bool) → eqb (bit b) 1 ≡ b
bit_told true = refl
bit_told false = refl

pub kind_told : (t i : ℕ) {h : ℕ} → h ≡ line_number t → i < 16 → eqb (h / 4294967296 / 2 ^ i % 2) 1 ≡ allowed (kind_from i) t
unfolding kinds_number
kind_told t i e k =
    let same : 0 + i ≡ i = omega arith in
    rw ((digits_in t e).kinds, bit_at (λ x. allowed (kind_from x) t) 16 0 i k) (bit_told (allowed (kind_from (0 + i)) t) ∙ ap (λ (x : ℕ). allowed (kind_from x) t) same)
