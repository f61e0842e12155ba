-- Check 26 and the strings of a table do not depend on where fields are.
use Prim.Native.Nat.{ℕ}
use mathlib.Core.Path.{◌≡◌, refl, sym, ap, ◌∙◌}
use mathlib.Core.Bool.{Bool, true, false, ◌&&◌}
use mathlib.Core.List.{List, ◌∷◌}
use mathlib.Core.Option.{Option, none, some}
use lib.Dec.{eqb}
use Rattle.rules.specs.Bytes.{pick, byte as byte_at}
use Rattle.rules.specs.Format.{is_constant}
use Rattle.rules.specs.Fields.{Field, field, Fields, none as fields_end, more, head_of, tag_of, inner, first}
use Rattle.rules.specs.Read.{strings_from}
use Rattle.rules.proofs.TypedBack.{unplaced, unplaced_all}
use Rattle.rules.specs.Types.{Types}
use Rattle.notation.specs.Printer.{names_spellable, type_right, label_right, Gone, stops, past, going, over, over_all, stopped_at}
use Rattle.notation.proofs.NeedsKept.{none_not_some, same_result}

-- the strings of some fields
pub strings_unplaced : (ks : Fields) → strings_from (unplaced_all ks) ≡ strings_from ks
unfolding strings_from unplaced tag_of head_of
strings_unplaced fields_end = refl
strings_unplaced (more (field p t h js) ks) = go (eqb t 0x02) (strings_unplaced ks)
  where
    go : (b : Bool) → strings_from (unplaced_all ks) ≡ strings_from ks → ◌≡◌ {A = List (List ℕ)} (elim b [ true ↦ h ∷ strings_from (unplaced_all ks) | false ↦ strings_from (unplaced_all ks) ]) (elim b [ true ↦ h ∷ strings_from ks | false ↦ strings_from ks ])
    go true e = ap (λ (ss : List (List ℕ)). h ∷ ss) e
    go false e = e

-- those of the first of some fields
pub table_unplaced : (ks : Fields) → strings_from (inner (first (unplaced_all ks))) ≡ strings_from (inner (first ks))
unfolding unplaced first inner
table_unplaced fields_end = refl
table_unplaced (more (field p t h js) ks) = strings_unplaced js

-- the label of the last constant, where going over fields stops nowhere
abbrev pub label_after : Gone → Option ℕ
label_after (stops p) = none
label_after (past l) = some l

-- then there is no place where it stops
pub not_stopped : (g : Gone) (l : ℕ) → label_after g ≡ some l → stopped_at g ≡ none
unfolding stopped_at
not_stopped (stops p) l e = none_not_some e
not_stopped (past i) l e = refl

-- going on from the same label
going_same : (a b : Gone) (f g : ℕ → Gone) → label_after a ≡ label_after b → ((l : ℕ) → label_after (f l) ≡ label_after (g l)) → label_after (going a f) ≡ label_after (going b g)
going_same (stops p) (stops q) f g e h = refl
going_same (stops p) (past m) f g e h = none_not_some e
going_same (past l) (stops q) f g e h = none_not_some (sym e)
going_same (past l) (past m) f g e h = h l ∙ ap (λ (i : ℕ). label_after (g i)) (same_result l m e)

-- by a test
pick_same : (b : Bool) (p q : ℕ) (g h : Gone) → label_after g ≡ label_after h → label_after (pick b g (stops p)) ≡ label_after (pick b h (stops q))
pick_same true p q g h e = e
pick_same false p q g h e = refl

-- a place where it does not stop has a label
pub record Passed (g : Gone) : Type 0 where
  pub label : ℕ
  pub passed : label_after g ≡ some label

pub never_stopped : (g : Gone) → stopped_at g ≡ none → Passed g
unfolding stopped_at
never_stopped (stops p) e = none_not_some (sym e)
never_stopped (past l) e = record { label = l; passed = refl }

pub goes_past : (g : Gone) (l : ℕ) → label_after g ≡ some l → going g past ≡ past l
goes_past (stops p) l e = none_not_some e
goes_past (past i) l e = ap past (same_result i l e)

module _ (types : Types) (strings : List (List ℕ)) where
  -- going over fields stops alike, wherever they are
  mutual
    unfolding over unplaced

    over_unplaced : (k : Field) (l : ℕ) → label_after (over types strings (unplaced k) l) ≡ label_after (over types strings k l)
    over_unplaced (field p t h ks) l =
        pick_same (label_right strings l t h && (names_spellable strings t h && type_right types strings t h)) 0 p _ _ (over_all_unplaced ks (pick (is_constant t) (byte_at h 0) l))

    pub over_all_unplaced : (ks : Fields) (l : ℕ) → label_after (over_all types strings (unplaced_all ks) l) ≡ label_after (over_all types strings ks l)
    over_all_unplaced fields_end l = refl
    over_all_unplaced (more k ks) l = going_same (over types strings (unplaced k) l) (over types strings k l) (over_all types strings (unplaced_all ks)) (over_all types strings ks) (over_unplaced k l) (λ i. over_all_unplaced ks i)
