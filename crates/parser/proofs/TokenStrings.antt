-- The strings of a token, by its kind, where they are entered in the table. Assumes nothing.
use mathlib.Core.Path.{◌≡◌, refl, sym, ◌∙◌, ap, subst}
use mathlib.Core.Bool.{Bool, true, false}
use mathlib.Core.List.{List, [], ◌∷◌}
use native.Mathlib.Omega.{arith}
use lib.Dec.{eqb}
use lib.ListN.{length, take, drop}
use lib.Seq.{slice, take-add, drop_at, length-take-le}
use borrow.Author.Tests.{eqb-true, eqb-false}
use Prim.Native.Nat.{ℕ, ◌+◌, ◌-◌, ◌≤◌, ◌<◌}
use Rattle.rules.specs.Types.{Types}
use Rattle.rules.specs.Bytes.{pick}
use Rattle.syntax.specs.Strings.{is_built_in_text}
use Rattle.lexer.specs.declared.Token as found
use Rattle.lexer.specs.Found.{token_in}
use Rattle.notation.specs.Tokens.{Token, lexeme, word, number, text, variable, top_variable, class_variable, mark, a_word, a_text, a_variable, a_qualified}
use Rattle.notation.specs.Quoted.{quoted_at, string_from}
use Rattle.notation.specs.Building.{resource_tag}
use Rattle.notation.specs.Convert.{strings_of, entered_all}
use Rattle.interner.specs.Table.{strings}
use Rattle.interner.proofs.Keeping.{strings_counted}
use Rattle.tree_builder.specs.Shows.{number_in}
use Rattle.parser.specs.declared.strings.Numbered.{Numbered}
use Rattle.parser.specs.declared.actions.Names.{Names}
use Rattle.parser.specs.Entering.{EnteredOne, EnteredBoth, Spelled, EnteredFor}
use Rattle.parser.specs.Stepping.{Carried}
use Rattle.parser.proofs.Carrying.{carried_word, carried_text, carried_number, carried_variable, carried_top, carried_class, carried_mark}
use Rattle.parser.proofs.TokenKinds.{token_word, token_number, token_text, token_variable, token_top, token_class, token_mark}

abbrev names_of : Numbered → (tag : ℕ) → Names
names_of n tag = record { class = n.class; name = n.name; resource = tag }

module _ (t m₀ : List ℕ) (count : ℕ) (r : found.Token) (h : Spelled t m₀ count r) where
  -- the tag of a resource of its type
  abbrev Tagged : Types → ℕ → Type 0
  Tagged types tag = r.kind ≡ a_word → tag ≡ resource_tag types (slice r.start r.end t)

  -- what is to be known of the token x
  abbrev CarriedBy : Numbered → List (List ℕ) → Token → Type 0
  CarriedBy n table x = (types : Types) (tag : ℕ) → Tagged types tag → Carried types r (names_of n tag) table (lexeme r.start r.line x)

  module _ (x : Token) (is : token_in t r ≡ x) where
    as_meant : (n : Numbered) (table : List (List ℕ)) → CarriedBy n table x → CarriedBy n table (token_in t r)
    as_meant n table carry types tag tagged = subst (λ (y : Token). Carried types r (names_of n tag) table (lexeme r.start r.line y)) (sym is) (carry types tag tagged)

    -- a token of no string
    none_entered : strings_of x ≡ [] → (n : Numbered) → n.count ≡ count → CarriedBy n (strings t m₀ n.count) x → EnteredFor t m₀ count r m₀ n
    unfolding entered_all
    none_entered none n same carry =
        let few = h.enterable.small in
        record {
          size = refl;
          few = omega arith;
          rising = rw same h.enterable.rising;
          crowded = λ o. absurd (omega arith);
          table = λ l. rw (same, is, none);
          carried = λ l. as_meant n (strings t m₀ n.count) carry;
        }

    -- of one string, which begins at a
    one_entered : (w : List ℕ) → strings_of x ≡ w ∷ [] → (a : ℕ) → string_from t a ≡ w → (m : List ℕ) (n : Numbered) → ((table : List (List ℕ)) → n.name ≡ number_in table w → CarriedBy n table x) → EnteredOne t m₀ count (string_from t a) m n → EnteredFor t m₀ count r m n
    one_entered w one a e m n carry k =
        let S₀ : List (List ℕ) = strings t m₀ count in
        let S : List (List ℕ) = strings t m n.count in
        let same : entered_all (strings_of (token_in t r)) S₀ ≡ S = rw (is, one, sym e) (sym k.table) in
        record {
          size = k.size;
          few = k.few;
          rising = k.rising;
          crowded = λ o. omega (arith, strings_counted t m n.count, ap length same);
          table = λ l. sym same;
          carried = λ l. as_meant n S (carry S (subst (λ (v : List ℕ). n.name ≡ number_in S v) e k.name_number_lem));
        }

    -- of two strings, which begin at a and b
    two_entered : (v w : List ℕ) → strings_of x ≡ v ∷ w ∷ [] → (a b : ℕ) → string_from t a ≡ v → string_from t b ≡ w → (m : List ℕ) (n : Numbered) → ((table : List (List ℕ)) → n.class ≡ number_in table v → n.name ≡ number_in table w → CarriedBy n table x) → EnteredBoth t m₀ count (string_from t a) (string_from t b) m n → EnteredFor t m₀ count r m n
    two_entered v w two a b e f m n carry k =
        let S₀ : List (List ℕ) = strings t m₀ count in
        let S : List (List ℕ) = strings t m n.count in
        let same : entered_all (string_from t a ∷ string_from t b ∷ []) S₀ ≡ entered_all (strings_of (token_in t r)) S₀ = rw (is, two, e, f) in
        record {
          size = k.size;
          few = k.few;
          rising = k.rising;
          crowded = λ o. subst (λ (ss : List (List ℕ)). 1024 < length ss) same (k.crowded o);
          table = λ l. k.table l ∙ same;
          carried = λ l. as_meant n S (carry S (subst (λ (u : List ℕ). n.class ≡ number_in S u) e (k.class_number l)) (subst (λ (u : List ℕ). n.name ≡ number_in S u) f (k.name_number_lem l)));
        }

  -- ---- By kind

  pub word_entered : r.kind ≡ a_word → (m : List ℕ) (n : Numbered) → EnteredOne t m₀ count (string_from t r.start) m n → EnteredFor t m₀ count r m n
  unfolding strings_of
  word_entered e m n k =
      let w = slice r.start r.end t in
      one_entered (word w) (token_word t r e) w refl r.start (h.sized.word_size e).spelled m n (λ table named types tag tagged. carried_word types r (names_of n tag) table w e named (tagged e)) k

  pub text_entered : r.kind ≡ a_text → (m : List ℕ) (n : Numbered) → EnteredOne t m₀ count (string_from t r.start) m n → EnteredFor t m₀ count r m n
  unfolding strings_of
  text_entered e m n k =
      let w = quoted_at t r.start in
      one_entered (text w) (token_text t r e) w refl r.start (h.sized.text_spelled e) m n (λ table named types tag tagged. carried_text types r (names_of n tag) table w e named) k

  pub variable_entered : r.kind ≡ a_variable → (m : List ℕ) (n : Numbered) → EnteredOne t m₀ count (string_from t (r.start + 1)) m n → EnteredFor t m₀ count r m n
  unfolding strings_of
  variable_entered e m n k =
      let w = slice (r.start + 1) r.end t in
      one_entered (variable w) (token_variable t r e) w refl (r.start + 1) (h.sized.variable_size e).spelled m n (λ table named types tag tagged. carried_variable types r (names_of n tag) table w e named) k

  pub top_entered : r.kind ≡ a_qualified → r.class_end ≡ 0 → (m : List ℕ) (n : Numbered) → EnteredOne t m₀ count (string_from t (r.start + 3)) m n → EnteredFor t m₀ count r m n
  unfolding strings_of
  top_entered e no_class m n k =
      let w = slice (r.start + 3) r.end t in
      one_entered (top_variable w) (token_top t r e no_class) w refl (r.start + 3) (h.sized.top_size e no_class).spelled m n (λ table named types tag tagged. carried_top types r (names_of n tag) table w e no_class named) k

  pub class_entered : r.kind ≡ a_qualified → (r.class_end ≡ 0 → ⊥) → (m : List ℕ) (n : Numbered) → EnteredBoth t m₀ count (string_from t (r.start + 3)) (string_from t (r.class_end + 2)) m n → EnteredFor t m₀ count r m n
  unfolding strings_of
  class_entered e some-class m n k =
      let v = slice (r.start + 3) r.class_end t in
      let w = slice (r.class_end + 2) r.end t in
      let sized = h.sized.class_size e some-class in
      two_entered (class_variable v w) (token_class t r e some-class) v w refl (r.start + 3) (r.class_end + 2) sized.0.spelled sized.1.spelled m n (λ table classed named types tag tagged. carried_class types r (names_of n tag) table v w e some-class classed named) k

  pub nothing_entered : (r.kind ≡ a_word → ⊥) → (r.kind ≡ a_text → ⊥) → (r.kind ≡ a_variable → ⊥) → (r.kind ≡ a_qualified → ⊥) → (n : Numbered) → n.count ≡ count → EnteredFor t m₀ count r m₀ n
  unfolding strings_of
  nothing_entered a b c d n same = go (eqb r.kind 1) refl
    where
      high_kind : (k : ℕ) → (k ≡ 0 → ⊥) → (k ≡ 1 → ⊥) → (k ≡ 2 → ⊥) → (k ≡ 3 → ⊥) → (k ≡ 4 → ⊥) → 5 ≤ k
      high_kind k v w x y z = omega arith

      go : (number_here : Bool) → eqb r.kind 1 ≡ number_here → EnteredFor t m₀ count r m₀ n
      go true e =
          let one = eqb-true r.kind 1 e in
          none_entered (number r.value) (token_number t r one) refl n same (λ types tag tagged. carried_number types r (names_of n tag) (strings t m₀ n.count) one)
      go false e =
          let other = eqb-false r.kind 1 e in
          let high : 5 ≤ r.kind = high_kind r.kind a other b c d in
          none_entered (mark r.kind) (token_mark t r high) refl n same (λ types tag tagged. carried_mark types r (names_of n tag) (strings t m₀ n.count) high)

-- ---- The tag of a resource

-- a part of the text
part_of : (a e : ℕ) (t : List ℕ) → a ≤ e → a ≤ length t → take (e - a) (drop a t) ≡ slice a e t
part_of a e t low high =
    let parts : a + (e - a) ≡ e = omega arith in
    sym (ap (λ (n : ℕ). drop a (take n t)) (sym parts) ∙ ap (drop a) (take-add a (e - a) t) ∙ drop_at (take a t) (take (e - a) (drop a t)) a (length-take-le a t high))

pub tag_of : (types : Types) (a e : ℕ) (t : List ℕ) → a ≤ e → e ≤ length t → (b : Bool) → is_built_in_text types (take (e - a) (drop a t)) ≡ b → pick b 0x25 0x27 ≡ resource_tag types (slice a e t)
unfolding is_built_in_text resource_tag
tag_of types a e t low high b h = ap (λ (c : Bool). pick c 0x25 0x27) (sym h) ∙ ap (resource_tag types) (part_of a e t low (omega arith))
