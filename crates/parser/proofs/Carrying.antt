-- A token in hand, by its kind: what the code knows of it is what the grammar's actions look at. Assumes nothing.
use mathlib.Core.Path.{◌≡◌, refl, sym, ◌∙◌, ap}
use mathlib.Core.Bool.{true, false}
use mathlib.Core.List.{List, [], ◌∷◌}
use native.Mathlib.Omega.{arith}
use lib.Dec.{eqb}
use borrow.Author.Tests.{ne_eqb}
use Prim.Native.Nat.{ℕ, ◌≤◌, ◌<◌}
use Rattle.rules.proofs.Within.{false_not_true}
use Rattle.rules.specs.Types.{Types}
use Rattle.lexer.specs.declared.Token.{Token}
use Rattle.notation.specs.Tokens.{lexeme, word, number, text, variable, top_variable, class_variable, mark, is_among, a_word, a_number, a_text, a_variable, a_qualified}
use Rattle.notation.specs.Building.{constant_node, variable_node, spelled, resource_tag}
use Rattle.tree_builder.specs.Shows.{number_in, AnInteger, ABoolean, AName}
use Rattle.parser.specs.declared.actions.Names.{Names}
use Rattle.parser.specs.Stepping.{Carried}

module _ (types : Types) (r : Token) (ns : Names) (table : List (List ℕ)) where
  -- no kind is another one
  not_among : {A : Type 0} (k : ℕ) (ks : List ℕ) → r.kind ≡ k → is_among k ks ≡ false → is_among r.kind ks ≡ true → A
  not_among k ks e none_is i = false_not_true (sym none_is ∙ ap (λ (n : ℕ). is_among n ks) (sym e) ∙ i)

  -- a word
  pub carried_word : (w : List ℕ) → r.kind ≡ a_word → ns.name ≡ number_in table w → ns.resource ≡ resource_tag types w → Carried types r ns table (lexeme r.start r.line (word w))
  unfolding constant_node spelled AName
  carried_word w e named-so tag =
      record {
        same_kind = sym e;
        constants = λ i. record { integer = λ k. absurd (omega (arith, e, k)); true_word_lem = λ k. absurd (omega (arith, e, k)); false_word_lem = λ k. absurd (omega (arith, e, k)); string = λ a b c. record { spelled = w; number = named-so; is = refl } };
        variables = λ i. not_among 0 (3 ∷ 4 ∷ []) e refl i;
        named = λ i. named-so;
        resource = λ i. tag;
      }

  -- a string in quotes
  pub carried_text : (w : List ℕ) → r.kind ≡ a_text → ns.name ≡ number_in table w → Carried types r ns table (lexeme r.start r.line (text w))
  unfolding constant_node spelled AName
  carried_text w e named-so =
      record {
        same_kind = sym e;
        constants = λ i. record { integer = λ k. absurd (omega (arith, e, k)); true_word_lem = λ k. absurd (omega (arith, e, k)); false_word_lem = λ k. absurd (omega (arith, e, k)); string = λ a b c. record { spelled = w; number = named-so; is = refl } };
        variables = λ i. not_among 2 (3 ∷ 4 ∷ []) e refl i;
        named = λ i. named-so;
        resource = λ i. not_among 2 (0 ∷ []) e refl i;
      }

  -- a number
  pub carried_number : r.kind ≡ a_number → Carried types r ns table (lexeme r.start r.line (number r.value))
  unfolding AnInteger
  carried_number e =
      record {
        same_kind = sym e;
        constants = λ i. record { integer = λ k. refl; true_word_lem = λ k. absurd (omega (arith, e, k)); false_word_lem = λ k. absurd (omega (arith, e, k)); string = λ a b c. absurd (a e) };
        variables = λ i. not_among 1 (3 ∷ 4 ∷ []) e refl i;
        named = λ i. not_among 1 (0 ∷ 2 ∷ 3 ∷ []) e refl i;
        resource = λ i. not_among 1 (0 ∷ []) e refl i;
      }

  -- $x
  pub carried_variable : (w : List ℕ) → r.kind ≡ a_variable → ns.name ≡ number_in table w → Carried types r ns table (lexeme r.start r.line (variable w))
  unfolding variable_node spelled AName
  carried_variable w e named-so =
      record {
        same_kind = sym e;
        constants = λ i. not_among 3 (0 ∷ 1 ∷ 2 ∷ 26 ∷ 27 ∷ []) e refl i;
        variables = λ i. record { plain = λ k. record { place = r.start; spelled = w; number = named-so; is = refl }; top = λ k c. absurd (k e); qualified = λ k c. absurd (k e) };
        named = λ i. named-so;
        resource = λ i. not_among 3 (0 ∷ []) e refl i;
      }

  -- $::x
  pub carried_top : (w : List ℕ) → r.kind ≡ a_qualified → r.class_end ≡ 0 → ns.name ≡ number_in table w → Carried types r ns table (lexeme r.start r.line (top_variable w))
  unfolding variable_node
  carried_top w e no_class named-so =
      record {
        same_kind = sym e;
        constants = λ i. not_among 4 (0 ∷ 1 ∷ 2 ∷ 26 ∷ 27 ∷ []) e refl i;
        variables = λ i. record { plain = λ k. absurd (omega (arith, e, k)); top = λ k c. record { place = r.start; spelled = w; number = named-so; is = refl }; qualified = λ k c. absurd (c no_class) };
        named = λ i. not_among 4 (0 ∷ 2 ∷ 3 ∷ []) e refl i;
        resource = λ i. not_among 4 (0 ∷ []) e refl i;
      }

  -- $::a::x
  pub carried_class : (c w : List ℕ) → r.kind ≡ a_qualified → (r.class_end ≡ 0 → ⊥) → ns.class ≡ number_in table c → ns.name ≡ number_in table w → Carried types r ns table (lexeme r.start r.line (class_variable c w))
  unfolding variable_node
  carried_class c w e some-class class-so named-so =
      record {
        same_kind = sym e;
        constants = λ i. not_among 4 (0 ∷ 1 ∷ 2 ∷ 26 ∷ 27 ∷ []) e refl i;
        variables = λ i. record { plain = λ k. absurd (omega (arith, e, k)); top = λ k d. absurd (some-class d); qualified = λ k d. record { place = r.start; scope = c; spelled = w; outer = class-so; number = named-so; is = refl } };
        named = λ i. not_among 4 (0 ∷ 2 ∷ 3 ∷ []) e refl i;
        resource = λ i. not_among 4 (0 ∷ []) e refl i;
      }

  -- a sign, a keyword, the end or a malformed piece
  module _ (e : 5 ≤ r.kind) where
    none_below : (k : ℕ) → k < 5 → eqb r.kind k ≡ false
    none_below k l = ne_eqb r.kind k (λ z. omega arith)

    pub carried_mark : Carried types r ns table (lexeme r.start r.line (mark r.kind))
    unfolding constant_node ABoolean
    carried_mark =
        let b0 = none_below 0 (omega arith) in
        let b1 = none_below 1 (omega arith) in
        let b2 = none_below 2 (omega arith) in
        let b3 = none_below 3 (omega arith) in
        let b4 = none_below 4 (omega arith) in
        record {
          same_kind = refl;
          constants = λ i.
              record {
                integer = λ k. absurd (omega (arith, e, k));
                true_word_lem = λ k. rw k;
                false_word_lem = λ k. rw k;
                string = λ a b c. false_not_true (rw (b0, b1, b2, ne_eqb r.kind 26 b, ne_eqb r.kind 27 c) at i);
              };
          variables = λ i. false_not_true (rw (b3, b4) at i);
          named = λ i. false_not_true (rw (b0, b2, b3) at i);
          resource = λ i. false_not_true (rw b0 at i);
        }
