-- Before the first token and behind the last one; and a resource, which begins as any field. Assumes nothing.
use mathlib.Core.Path.{◌≡◌, refl, sym, ap, ◌∙◌}
use mathlib.Core.Bool.{false}
use mathlib.Core.List.{List, [], ◌∷◌}
use Prim.Native.Nat.{ℕ, suc, ◌+◌, ◌%◌, ◌≤◌, ◌<◌}
use native.Mathlib.Omega.{arith}
use lib.ListN.{length, take}
use Rattle.wire.specs.Runs.{over}
use Rattle.wire.proofs.Laws.{over_front, over_length}
use Rattle.rules.specs.EditRule.{IsBytes}
use Rattle.rules.specs.Fields.{none as fields_end, write, write_all}
use Rattle.rules.specs.Types.{Types}
use Rattle.notation.specs.Tokens.{token_of}
use Rattle.notation.specs.Building.{Nodes, tallest, frame, build, start, begin, begin_resource, resource_tag, spelled, act}
use Rattle.notation.specs.Convert.{late_among, head_bytes, numbered, numbered_onto}
use Rattle.tree_builder.specs.declared.Building.{Building}
use Rattle.tree_builder.specs.Open.{low, opening, parts_bytes, around_bytes, head_end, open_bytes, late_around, late_open, late_number}
use Rattle.tree_builder.specs.Shows.{LastPart, Around, Shows, DoesAt, AnyToken}
use Rattle.tree_builder.proofs.Adding.{false_not_true}
use Rattle.std.specs.Prelude.{Option}

-- nothing is read yet
abbrev fresh : Building
fresh = record { brackets = 0; depth = 0; fill = 0; start = 0; body = 0; tallest = 0; last = 0; height = 0; late = 0; word = false; name = 0; before = 0 }

pub fresh_shows : (table : List (List ℕ)) (m out : List ℕ) → Shows table fresh m out start
unfolding Shows LastPart Around tallest open_bytes head_end around_bytes opening parts_bytes head_bytes numbered write low over late_open late_around late_among late_number
fresh_shows table m out =
    record {
      rounds = refl;
      depth = refl;
      fill = refl;
      start = refl;
      body = refl;
      tall = refl;
      deep = omega arith;
      last = tt;
      within = omega arith;
      high = omega arith;
      late = refl;
      word = λ e. false_not_true e;
      label = omega arith;
      slots = tt;
      bytes = record { base = out; is = refl };
    }

-- bytes are held as they are
low_bytes_lem : (bs : List ℕ) → IsBytes bs → low bs ≡ bs
unfolding low
low_bytes_lem [] b = refl
low_bytes_lem (x ∷ bs) b =
    let small : x < 256 = b.below 0 in
    let same : x % 256 ≡ x = omega arith in
    rw (same, low_bytes_lem bs (record { below = λ i. b.below (suc i) }))

-- all fields are closed: the items of a manifest
module _ (table : List (List ℕ)) (s : Building) (m out : List ℕ) (b p t : ℕ) (ks : Nodes) (x : Shows table s m out (build b (frame p t [] ks) [])) where
  items : open_bytes table t [] ks [] ≡ write_all (numbered_onto table ks fields_end)
  unfolding open_bytes head_end around_bytes opening parts_bytes head_bytes
  items = refl

  pub items_late : s.late ≡ late_number (late_among ks)
  unfolding Shows late_open late_around
  items_late = x.late

  pub items_length : s.fill ≡ length (write_all (numbered_onto table ks fields_end))
  unfolding Shows
  items_length = x.fill ∙ ap length items

  pub items_bytes : IsBytes (write_all (numbered_onto table ks fields_end)) → s.fill ≤ length out → take s.fill out ≡ write_all (numbered_onto table ks fields_end)
  unfolding Shows
  items_bytes bytes room =
      let bs : List ℕ = write_all (numbered_onto table ks fields_end) in
      let base : List ℕ = x.bytes.base in
      let is : out ≡ over base 0 bs = sym x.bytes.is ∙ ap (over base 0) (ap low items ∙ low_bytes_lem bs bytes) in
      let size : s.fill ≡ 0 + length bs = items_length ∙ omega arith in
      ap (λ (n : ℕ). take n out) size ∙ ap (take (0 + length bs)) is ∙ over_front base 0 bs (omega (arith, ap length is, over_length base 0 bs))

-- a resource, of the tag that its type has
pub resource_begins : (types : Types) (s : Building) (m out : List ℕ) (r : Option Building) (m' out' : List ℕ) (tag : ℕ) → DoesAt types AnyToken (begin tag) s m out r m' out' → DoesAt types (λ table x. tag ≡ resource_tag types (spelled (token_of x))) begin_resource s m out r m' out'
unfolding DoesAt act
resource_begins types s m out r m' out' tag does table f x e a = rw (sym e) (does table f x tt a)
