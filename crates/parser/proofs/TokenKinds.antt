-- The token that the lexer's answer stands for, by its kind. Assumes nothing.
use mathlib.Core.Path.{◌≡◌}
use mathlib.Core.Bool.{false}
use mathlib.Core.List.{List}
use native.Mathlib.Omega.{arith}
use lib.Dec.{eqb}
use lib.Seq.{slice}
use borrow.Author.Tests.{ne_eqb}
use Prim.Native.Nat.{ℕ, ◌+◌, ◌≤◌, ◌<◌}
use Rattle.notation.specs.Tokens.{word, number, text, variable, top_variable, class_variable, mark, a_word, a_number, a_text, a_variable, a_qualified}
use Rattle.notation.specs.Quoted.{quoted_at}
use Rattle.lexer.specs.declared.Token.{Token}
use Rattle.lexer.specs.Found.{token_in}

module _ (t : List ℕ) (r : Token) where
  pub token_word : r.kind ≡ a_word → token_in t r ≡ word (slice r.start r.end t)
  unfolding token_in
  token_word e = rw e

  pub token_number : r.kind ≡ a_number → token_in t r ≡ number r.value
  unfolding token_in
  token_number e = rw e

  pub token_text : r.kind ≡ a_text → token_in t r ≡ text (quoted_at t r.start)
  unfolding token_in
  token_text e = rw e

  pub token_variable : r.kind ≡ a_variable → token_in t r ≡ variable (slice (r.start + 1) r.end t)
  unfolding token_in
  token_variable e = rw e

  pub token_top : r.kind ≡ a_qualified → r.class_end ≡ 0 → token_in t r ≡ top_variable (slice (r.start + 3) r.end t)
  unfolding token_in
  token_top e no_class = rw (e, no_class)

  pub token_class : r.kind ≡ a_qualified → (r.class_end ≡ 0 → ⊥) → token_in t r ≡ class_variable (slice (r.start + 3) r.class_end t) (slice (r.class_end + 2) r.end t)
  unfolding token_in
  token_class e some-class = rw (e, ne_eqb r.class_end 0 some-class)

  pub token_mark : 5 ≤ r.kind → token_in t r ≡ mark r.kind
  unfolding token_in
  token_mark e =
      let other : (k : ℕ) → k < 5 → eqb r.kind k ≡ false = λ k l. ne_eqb r.kind k (λ z. omega arith) in
      rw (other 0 (omega arith), other 1 (omega arith), other 2 (omega arith), other 3 (omega arith), other 4 (omega arith))
