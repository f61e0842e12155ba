-- The ways of `finish`. Assumes nothing.
use Prim.Native.Nat.{ℕ, ◌+◌, ◌-◌, ◌≤◌, ◌<◌}
use mathlib.Core.Path.{◌≡◌, refl, sym, ap, ◌∙◌, subst}
use mathlib.Core.List.{List, [], ◌∷◌, ◌++◌}
use native.Mathlib.Omega.{arith}
use borrow.Author.Tests.{lt-ltb}
use borrow.Rule.Slice.PartMut.{mid_of, put_mid}
use lib.ListN.{length, drop}
use Rattle.labels.specs.declared.Labels.{Labels}
use Rattle.labels.specs.Sets.{Words64}
use Rattle.values.specs.declared.Refusal.{Refusal}
use Rattle.values.specs.Refusals.{refusal_at}
use Rattle.values.specs.declared.Reason.TheVariants.{OutputFull}
use Rattle.rules.specs.State.{Attribute, Entry}
use Rattle.rules.specs.Catalog.{entry_bytes}
use Rattle.rules.proofs.Lists.{Each}
use Rattle.rules.proofs.ReadBack.{FitsAttribute, FitsEntry}
use Rattle.catalog.specs.Making.{stored, entry, Holding, put_entry}
use Rattle.catalog.specs.Finding.{Written}
use Rattle.catalog.proofs.Making.{entry_size}
use Rattle.catalog.proofs.Growing.{holding_lent, front_kept, entry_joined, entry_refused, written_more}
use Rattle.resources.specs.Attributes.{Kept}
use Rattle.resources.specs.Entries.{Within, Entered, full, entered}
use Rattle.std.specs.Prelude.{Option, Some, None, Result, Ok, Err}

module _ (out : List ℕ) (fill size room p kind title : ℕ) (own : Labels) (within : fill ≤ length out) where
  -- what is before the fill point stays
  finish_kept : (rest' : List ℕ) → length (put_mid fill (length out - fill) out rest') ≡ length out → Kept out (put_mid fill (length out - fill) out rest') fill
  finish_kept rest' long = record { front = front_kept out fill within rest'; long = long }

  -- the test before: nothing is written
  pub finish_early : {r : Result ℕ Refusal} → room < size → r ≡ Err (refusal_at OutputFull p) → (ats : List Attribute) (es : List Entry) → Holding (drop fill out) size ats → Each FitsAttribute ats → Written out fill es → Entered out fill room p es (entry kind title own ats) r
  finish_early less answer ats es h fits written =
      subst (λ (v : Result ℕ Refusal). Entered out fill room p es (entry kind title own ats) v) (sym answer) (full (lt-ltb room (length (entry_bytes (entry kind title own ats))) (omega (arith, entry_size size kind title own ats h.grown))))

  module _ (enough : room ≤ length out - fill) {rest' : List ℕ} {f : Option ℕ} (finished : (ats : List Attribute) → Holding (mid_of fill (length out - fill) out) size ats → stored f rest' ≡ put_entry (mid_of fill (length out - fill) out) room (entry kind title own ats)) (long : length (put_mid fill (length out - fill) out rest') ≡ length out) where
    pub lent_kept : Kept out (put_mid fill (length out - fill) out rest') fill
    lent_kept = finish_kept rest' long

    pub finish_full : {r : Result ℕ Refusal} → f ≡ None → r ≡ Err (refusal_at OutputFull p) → (ats : List Attribute) (es : List Entry) → Holding (drop fill out) size ats → Each FitsAttribute ats → Written out fill es
        → Entered (put_mid fill (length out - fill) out rest') fill room p es (entry kind title own ats) r
    finish_full is answer ats es h fits written =
        let g : stored None rest' ≡ put_entry (mid_of fill (length out - fill) out) room (entry kind title own ats) = ap (λ (x : Option ℕ). stored x rest') (sym is) ∙ finished ats (holding_lent out fill size ats h) in
        subst (λ (v : Result ℕ Refusal). Entered (put_mid fill (length out - fill) out rest') fill room p es (entry kind title own ats) v) (sym answer) (full (entry_refused out fill within rest' room (entry kind title own ats) enough g).long)

    pub finish_fits : {n : ℕ} → f ≡ Some n → kind < 65536 → title < 65536 → Words64 own → (ats : List Attribute) (es : List Entry) → Holding (drop fill out) size ats → Each FitsAttribute ats → Written out fill es
        → Entered (put_mid fill (length out - fill) out rest') fill room p es (entry kind title own ats) (Ok (fill + size))
    finish_fits {n} is small1 small2 words ats es h fits written =
        let e = entry kind title own ats in
        let g : stored (Some n) rest' ≡ put_entry (mid_of fill (length out - fill) out) room (entry kind title own ats) = ap (λ (x : Option ℕ). stored x rest') (sym is) ∙ finished ats (holding_lent out fill size ats h) in
        let j = entry_joined out fill within rest' room (entry kind title own ats) enough es written.bytes g in
        let wide : length (entry_bytes (entry kind title own ats)) ≡ size = entry_size size kind title own ats h.grown in
        let same : fill + n ≡ fill + size = omega (arith, j.size) in
        let fit : FitsEntry (entry kind title own ats) = record { type = small1; title = small2; labels = words; attributes = fits } in
        entered {f = fill + size} (ap (λ (x : ℕ). fill + x) (sym wide)) j.fits (subst (λ (x : ℕ). Written (put_mid fill (length out - fill) out rest') x (es ++ (entry kind title own ats ∷ []))) same (written_more written fit j))

-- nothing changed
pub kept_all : (out : List ℕ) (fill : ℕ) → Kept out out fill
kept_all out fill = record { front = refl; long = refl }

-- ---- The fill point

pub within_refused : (fill room : ℕ) {r : Result ℕ Refusal} {why : Refusal} → r ≡ Err why → Within fill room r
unfolding Within
within_refused fill room e = subst (λ (v : Result ℕ Refusal). Within fill room v) (sym e) tt

pub within_done : (fill size room : ℕ) → size ≤ room → Within fill room (Ok (fill + size))
unfolding Within
within_done fill size room l = (omega arith, omega arith)
