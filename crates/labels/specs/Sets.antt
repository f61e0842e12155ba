-- Document 01's label set: labels 0 to 255, as four 64-bit words. Label n is bit n % 64 of word n / 64.
use Rattle.std.specs.Prelude.{ℕ, ◌/◌, ◌%◌, ◌^◌, ◌<◌, Bool, true, false, eqb, ltb}
use Rattle.std.specs.Int.Bits.{bit_or}
use Rattle.labels.specs.declared.Labels.{Labels}

infixl 60 ◌∪◌
-- the set without labels
unfoldable pub no_labels : Labels
no_labels = record { w0 = 0; w1 = 0; w2 = 0; w3 = 0 }

-- the bit of label n in its word
unfoldable pub bit_of : ℕ → ℕ
bit_of n = 2 ^ (n % 64)

-- "A constant's set is its label"
unfoldable pub one_label : ℕ → Labels
one_label n = elim (ltb n 64) [
  | true ↦ record { w0 = bit_of n; w1 = 0; w2 = 0; w3 = 0 }
  | false ↦ elim (ltb n 128) [
    | true ↦ record { w0 = 0; w1 = bit_of n; w2 = 0; w3 = 0 }
    | false ↦ elim (ltb n 192) [
      | true ↦ record { w0 = 0; w1 = 0; w2 = bit_of n; w3 = 0 }
      | false ↦ record { w0 = 0; w1 = 0; w2 = 0; w3 = bit_of n }
    ]
  ]
]

-- the union of two sets
unfoldable pub ◌∪◌ : Labels → Labels → Labels
◌∪◌ a b = record { w0 = bit_or a.w0 b.w0; w1 = bit_or a.w1 b.w1; w2 = bit_or a.w2 b.w2; w3 = bit_or a.w3 b.w3 }

-- the word that label n stands in
unfoldable pub word_of : Labels → ℕ → ℕ
word_of s n = elim (ltb n 64) [ true ↦ s.w0 | false ↦ elim (ltb n 128) [ true ↦ s.w1 | false ↦ elim (ltb n 192) [ true ↦ s.w2 | false ↦ s.w3 ] ] ]

-- whether label n is in the set
unfoldable pub has : Labels → ℕ → Bool
has s n = eqb (word_of s n / bit_of n % 2) 1

-- each word is a word of 64 bits, as it is in code
pub record Words64 (s : Labels) : Type 0 where
  pub small0 : s.w0 < 2 ^ 64
  pub small1 : s.w1 < 2 ^ 64
  pub small2 : s.w2 < 2 ^ 64
  pub small3 : s.w3 < 2 ^ 64
