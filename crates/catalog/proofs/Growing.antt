-- What holds of an entry in the making as it grows, and of the catalog so far when it is finished: for a caller that lends the output
-- from the fill point on. Assumes nothing.
use mathlib.Core.Path.{◌≡◌, refl, sym, ap, ◌∙◌}
use mathlib.Core.Bool.{Bool, true, false}
use mathlib.Core.List.{List, [], ◌∷◌, ◌++◌, append_assoc, append-nil}
use Prim.Native.Nat.{ℕ, ◌+◌, ◌-◌, ◌≤◌, ◌<◌}
use native.Mathlib.Omega.{arith}
use borrow.Author.Tests.{ltb-true, ltb-false, lt-ltb}
use borrow.Rule.Slice.PartMut.{mid_of, put_mid}
use lib.Dec.{ltb}
use lib.ListN.{length, take, drop, replicate, length-append, length-drop, take-append-drop}
use lib.Seq.{drop-drop, length-take-le, drop-append-le, take_at, drop_at}
use Rattle.wire.specs.Bytes.{pick}
use Rattle.wire.specs.Runs.{over, zeros}
use Rattle.wire.proofs.Laws.{over_parts}
use Rattle.rules.specs.State.{Attribute, Entry}
use Rattle.catalog.specs.Layout.{entry_attributes, attribute_value}
use Rattle.rules.specs.Catalog.{value_bytes, attribute_bytes, attributes_bytes, entry_bytes, catalog_bytes}
use Rattle.rules.proofs.Lists.{Each, none_left, also}
use Rattle.rules.proofs.ReadBack.{FitsEntry}
use Rattle.catalog.specs.Making.{stored, add_attribute, Holding, put_entry, cleared_from}
use Rattle.catalog.specs.Finding.{Written}
use Rattle.catalog.proofs.Making.{value_least, value_most, attribute_size}
use Rattle.catalog.proofs.Stores.{drop_take, part_lent, part_back}
use Rattle.std.specs.Prelude.{Some, None}

-- ---- The rest alone

-- an entry without attributes
pub holding_none : (rest : List ℕ) → Holding rest entry_attributes []
unfolding attributes_bytes
holding_none rest = record { grown = refl; bytes = λ h. refl }

attributes_more : (ats : List Attribute) (a : Attribute) → attributes_bytes (ats ++ (a ∷ [])) ≡ attributes_bytes ats ++ attribute_bytes a
unfolding attributes_bytes
attributes_more [] a = append-nil (attribute_bytes a)
attributes_more (b ∷ ats) a = ap (λ (l : List ℕ). attribute_bytes b ++ l) (attributes_more ats a) ∙ sym (append_assoc (attribute_bytes b) (attributes_bytes ats) (attribute_bytes a))

-- the attributes' bytes with one more stored after them
bytes_more : (m : List ℕ) (size : ℕ) (bs : List ℕ) → entry_attributes ≤ size → size + length bs ≤ length m → take (size + length bs - entry_attributes) (drop entry_attributes (over m size bs)) ≡ take (size - entry_attributes) (drop entry_attributes m) ++ bs
bytes_more m size bs low room =
    let wide : length (take size m) ≡ size = length-take-le size m (omega arith) in
    let cut : drop entry_attributes (take size m) ≡ take (size - entry_attributes) (drop entry_attributes m) = drop_take entry_attributes size m low (omega arith) in
    let all : length (take size m ++ bs) ≡ size + length bs = length-append (take size m) bs ∙ omega arith in
    let dropped : drop entry_attributes (over m size bs) ≡ take (size - entry_attributes) (drop entry_attributes m) ++ bs ++ drop (size + length bs) m =
    ap (drop entry_attributes) (over_parts m size bs room) ∙ drop-append-le entry_attributes (take size m ++ bs) (drop (size + length bs) m) (omega arith)
    ∙ ap (λ (l : List ℕ). l ++ drop (size + length bs) m) (drop-append-le entry_attributes (take size m) bs (omega arith) ∙ ap (λ (l : List ℕ). l ++ bs) cut) in
    let size_left : length (take (size - entry_attributes) (drop entry_attributes m)) ≡ size - entry_attributes = length-take-le (size - entry_attributes) (drop entry_attributes m) (omega (arith, length-drop entry_attributes m)) in
    ap (take (size + length bs - entry_attributes)) dropped
    ∙ take_at (take (size - entry_attributes) (drop entry_attributes m) ++ bs) (drop (size + length bs) m) (size + length bs - entry_attributes) (length-append (take (size - entry_attributes) (drop entry_attributes m)) bs ∙ omega arith)

-- one more attribute
pub holding_more : (rest : List ℕ) (size : ℕ) (ats : List Attribute) (a : Attribute) {n : ℕ} {rest' : List ℕ} → Holding rest size ats → stored n rest' ≡ add_attribute rest size a → Holding rest' n (ats ++ (a ∷ []))
unfolding add_attribute
holding_more rest size ats a {n} {rest'} h e = go (ltb (length rest) (size + length (attribute_bytes a))) refl
  where
    more : length (attributes_bytes (ats ++ (a ∷ []))) ≡ length (attributes_bytes ats) + length (attribute_bytes a)
    more = ap length (attributes_more ats a) ∙ length-append (attributes_bytes ats) (attribute_bytes a)

    low : size ≡ entry_attributes + length (attributes_bytes ats)
    low = h.grown

    go : (b : Bool) → ltb (length rest) (size + length (attribute_bytes a)) ≡ b → Holding rest' n (ats ++ (a ∷ []))
    go true t =
        let f : stored n rest' ≡ stored (size + length (attribute_bytes a)) rest = e ∙ rw t in
        let grown : n ≡ size + length (attribute_bytes a) = cc in
        let same : rest' ≡ rest = cc in
        let past : length rest < size + length (attribute_bytes a) = ltb-true (length rest) (size + length (attribute_bytes a)) t in
        record { grown = omega (arith, more); bytes = λ fits. absurd (omega (arith, ap length same)) }
    go false t =
        let f : stored n rest' ≡ stored (size + length (attribute_bytes a)) (over rest size (attribute_bytes a)) = e ∙ rw t in
        let grown : n ≡ size + length (attribute_bytes a) = cc in
        let same : rest' ≡ over rest size (attribute_bytes a) = cc in
        let room : size + length (attribute_bytes a) ≤ length rest = ltb-false (length rest) (size + length (attribute_bytes a)) t in
        record {
          grown = omega (arith, more);
          bytes = λ fits. rw (grown, same) (bytes_more rest size (attribute_bytes a) (omega arith) room ∙ ap (λ (l : List ℕ). l ++ attribute_bytes a) (h.bytes (omega arith)) ∙ sym (attributes_more ats a));
        }

-- an attribute takes at least 41 bytes and at most 48, whether or not it fits
pub record Grown (size n : ℕ) : Type 0 where
  pub least : size + 41 ≤ n
  pub most : n ≤ size + 48

pub attribute_grown : (rest : List ℕ) (size : ℕ) (a : Attribute) {n : ℕ} {rest' : List ℕ} → stored n rest' ≡ add_attribute rest size a → Grown size n
unfolding add_attribute
attribute_grown rest size a {n} e =
    let grown : n ≡ size + length (attribute_bytes a) = cc in
    let wide : length (attribute_bytes a) ≡ attribute_value + length (value_bytes a.content.value) = attribute_size a.name a.content in
    record { least = omega (arith, value_least a.content.value); most = omega (arith, value_most a.content.value) }

-- ---- The whole output

catalog_more : (es : List Entry) (e : Entry) → catalog_bytes (es ++ (e ∷ [])) ≡ catalog_bytes es ++ entry_bytes e
unfolding catalog_bytes
catalog_more [] e = append-nil (entry_bytes e)
catalog_more (x ∷ es) e = ap (λ (l : List ℕ). entry_bytes x ++ l) (catalog_more es e) ∙ sym (append_assoc (entry_bytes x) (catalog_bytes es) (entry_bytes e))

-- after an entry of n bytes: the catalog so far, and what was there after it
pub record Joined (out out' : List ℕ) (fill room n : ℕ) (es : List Entry) (e : Entry) : Type 0 where
  pub size : n ≡ length (entry_bytes e)
  pub fits : ltb room (length (entry_bytes e)) ≡ false
  pub within : fill + n ≤ length out
  pub bytes : take (fill + n) out' ≡ catalog_bytes (es ++ (e ∷ []))
  pub after : drop (fill + n) out' ≡ drop (fill + n) out

-- after a refusal: the entry is longer than the room, and the output is as it was
pub record Refused (out out' : List ℕ) (room : ℕ) (e : Entry) : Type 0 where
  pub long : ltb room (length (entry_bytes e)) ≡ true
  pub same : out' ≡ out

-- what is lent from the fill point on holds what the output does there
pub holding_lent : (out : List ℕ) (fill size : ℕ) (ats : List Attribute) → Holding (drop fill out) size ats → Holding (mid_of fill (length out - fill) out) size ats
holding_lent out fill size ats h = rw (part_lent out fill) h

-- what a call left that was lent the output from the fill point on is put back
module _ (out : List ℕ) (fill : ℕ) (within : fill ≤ length out) (rest' : List ℕ) where
  pub front_kept : take fill (put_mid fill (length out - fill) out rest') ≡ take fill out
  front_kept = ap (take fill) (part_back out fill rest') ∙ take_at (take fill out) rest' fill (length-take-le fill out within)

  pub rest_back : drop fill (put_mid fill (length out - fill) out rest') ≡ rest'
  rest_back = ap (drop fill) (part_back out fill rest') ∙ drop_at (take fill out) rest' fill (length-take-le fill out within)

  pub attribute_joined : (size : ℕ) (ats : List Attribute) (a : Attribute) {n : ℕ} → Holding (drop fill out) size ats → stored n rest' ≡ add_attribute (mid_of fill (length out - fill) out) size a
      → Holding (drop fill (put_mid fill (length out - fill) out rest')) n (ats ++ (a ∷ []))
  attribute_joined size ats a {n} h e =
      let lent : stored n rest' ≡ add_attribute (drop fill out) size a = e ∙ ap (λ (l : List ℕ). add_attribute l size a) (part_lent out fill) in
      rw rest_back (holding_more (drop fill out) size ats a h lent)

  module _ (room : ℕ) (e : Entry) (enough : room ≤ length out - fill) where
    put_entry_lem : put_entry (mid_of fill (length out - fill) out) room e
        ≡ pick (ltb room (length (entry_bytes e))) (stored None (drop fill out)) (stored (Some (length (entry_bytes e))) (entry_bytes e ++ drop (fill + length (entry_bytes e)) out))
    unfolding put_entry
    put_entry_lem = ap (λ (l : List ℕ). put_entry l room e) (part_lent out fill) ∙ go (ltb (length (drop fill out)) (length (entry_bytes e))) refl
      where
        go : (b : Bool) → ltb (length (drop fill out)) (length (entry_bytes e)) ≡ b
            → pick b (stored None (drop fill out)) (pick (ltb room (length (entry_bytes e))) (stored None (drop fill out)) (stored (Some (length (entry_bytes e))) (entry_bytes e ++ drop (length (entry_bytes e)) (drop fill out))))
            ≡ pick (ltb room (length (entry_bytes e))) (stored None (drop fill out)) (stored (Some (length (entry_bytes e))) (entry_bytes e ++ drop (fill + length (entry_bytes e)) out))
        go true t =
            let past : length (drop fill out) < length (entry_bytes e) = ltb-true _ _ t in
            rw (lt-ltb room (length (entry_bytes e)) (omega (arith, length-drop fill out)))
        go false t = rw (drop-drop (length (entry_bytes e)) fill out)

    pub entry_joined : (es : List Entry) {n : ℕ} → take fill out ≡ catalog_bytes es → stored (Some n) rest' ≡ put_entry (mid_of fill (length out - fill) out) room e
        → Joined out (put_mid fill (length out - fill) out rest') fill room n es e
    entry_joined es {n} front f = go (ltb room (length (entry_bytes e))) refl
      where
        go : (b : Bool) → ltb room (length (entry_bytes e)) ≡ b → Joined out (put_mid fill (length out - fill) out rest') fill room n es e
        go true t = let g : stored (Some n) rest' ≡ stored None (drop fill out) = f ∙ put_entry_lem ∙ rw t in let z : ◌≡◌ {A = ℕ} 0 1 = cc in absurd (omega arith)
        go false t =
            let g : stored (Some n) rest' ≡ stored (Some (length (entry_bytes e))) (entry_bytes e ++ drop (fill + length (entry_bytes e)) out) = f ∙ put_entry_lem ∙ rw t in
            let size : n ≡ length (entry_bytes e) = cc in
            let short : length (entry_bytes e) ≤ room = ltb-false room (length (entry_bytes e)) t in
            let rest : rest' ≡ entry_bytes e ++ drop (fill + n) out = (let r : rest' ≡ entry_bytes e ++ drop (fill + length (entry_bytes e)) out = cc in r ∙ rw size) in
            let whole : put_mid fill (length out - fill) out rest' ≡ take fill out ++ entry_bytes e ++ drop (fill + n) out =
            part_back out fill rest' ∙ ap (λ (l : List ℕ). take fill out ++ l) rest ∙ sym (append_assoc (take fill out) (entry_bytes e) (drop (fill + n) out)) in
            let wide : length (take fill out ++ entry_bytes e) ≡ fill + n = length-append (take fill out) (entry_bytes e) ∙ omega (arith, length-take-le fill out within) in
            record {
              size = size;
              fits = t;
              within = omega arith;
              bytes = ap (take (fill + n)) whole ∙ take_at (take fill out ++ entry_bytes e) (drop (fill + n) out) (fill + n) wide
                  ∙ ap (λ (l : List ℕ). l ++ entry_bytes e) front ∙ sym (catalog_more es e);
              after = ap (drop (fill + n)) whole ∙ drop_at (take fill out ++ entry_bytes e) (drop (fill + n) out) (fill + n) wide;
            }

    pub entry_refused : stored None rest' ≡ put_entry (mid_of fill (length out - fill) out) room e → Refused out (put_mid fill (length out - fill) out rest') room e
    entry_refused f = go (ltb room (length (entry_bytes e))) refl
      where
        go : (b : Bool) → ltb room (length (entry_bytes e)) ≡ b → Refused out (put_mid fill (length out - fill) out rest') room e
        go true t =
            let g : stored None rest' ≡ stored None (drop fill out) = f ∙ put_entry_lem ∙ rw t in
            let same : rest' ≡ drop fill out = cc in
            record { long = t; same = part_back out fill rest' ∙ ap (λ (l : List ℕ). take fill out ++ l) same ∙ take-append-drop fill out }
        go false t =
            let g : stored None rest' ≡ stored (Some (length (entry_bytes e))) (entry_bytes e ++ drop (fill + length (entry_bytes e)) out) = f ∙ put_entry_lem ∙ rw t in
            let z : ◌≡◌ {A = ℕ} 0 1 = cc in
            absurd (omega arith)

-- ---- The catalog so far

pub written_none : (out : List ℕ) → Written out 0 []
unfolding catalog_bytes
written_none out = record { bytes = refl; fits = none_left }

-- it stands as long as the bytes before the fill point do
pub written_kept : {out out' : List ℕ} {fill : ℕ} {es : List Entry} → take fill out' ≡ take fill out → Written out fill es → Written out' fill es
written_kept same w = record { bytes = same ∙ w.bytes; fits = w.fits }

each_last : {es : List Entry} {e : Entry} → Each FitsEntry es → FitsEntry e → Each FitsEntry (es ++ (e ∷ []))
each_last none_left f = also f none_left
each_last (also g gs) f = also g (each_last gs f)

pub written_more : {out out' : List ℕ} {fill room n : ℕ} {es : List Entry} {e : Entry} → Written out fill es → FitsEntry e → Joined out out' fill room n es e → Written out' (fill + n) (es ++ (e ∷ []))
written_more w f j = record { bytes = j.bytes; fits = each_last w.fits f }

-- ---- The output at the end

-- "Bytes after the catalog are zero", in the words of `output_of`
pub cleared_after : (out bs : List ℕ) (fill : ℕ) → fill ≤ length out → take fill out ≡ bs → cleared_from fill out ≡ bs ++ replicate (length out - length bs) 0
unfolding cleared_from zeros
cleared_after out bs fill within e =
    let size : fill ≡ length bs = sym (length-take-le fill out within) ∙ ap length e in
    ap (λ (l : List ℕ). l ++ replicate (length out - fill) 0) e ∙ ap (λ (k : ℕ). bs ++ replicate (length out - k) 0) size

pub cleared_all : (out : List ℕ) → cleared_from 0 out ≡ replicate (length out) 0
cleared_all out = let all : length out - 0 ≡ length out = omega arith in cleared_after out [] 0 (omega arith) refl ∙ ap (λ (k : ℕ). replicate k 0) all
