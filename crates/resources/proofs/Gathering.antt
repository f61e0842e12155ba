-- The ways of the functions that gather a resource's attributes. Assumes nothing.
use Prim.Native.Nat.{ℕ, suc, ◌+◌, ◌-◌, ◌≤◌, ◌<◌}
use mathlib.Core.Path.{◌≡◌, refl, sym, ap, ◌∙◌, subst}
use mathlib.Core.Bool.{Bool, true, false}
use mathlib.Core.List.{List, [], ◌∷◌, ◌++◌}
use native.Mathlib.Omega.{arith}
use borrow.Rule.Slice.PartMut.{mid_of, put_mid}
use lib.Dec.{ltb}
use lib.ListN.{length, take, drop, length-append, length-drop}
use lib.Seq.{length-take-le}
use Rattle.labels.specs.declared.Labels.{Labels}
use Rattle.labels.specs.Sets.{◌∪◌, Words64}
use Rattle.labels.proofs.Laws.{words_union}
use Rattle.values.specs.declared.Labelled.{Labelled}
use Rattle.values.specs.declared.Refusal.{Refusal}
use Rattle.wire.specs.Bytes.{pick, two, end_of}
use Rattle.wire.specs.Runs.{over}
use Rattle.wire.proofs.Laws.{over_length}
use Rattle.rules.specs.Outcome.{Outcome, done, under}
use Rattle.rules.specs.State.{Attribute, Entry, State, Context, Known}
use Rattle.rules.specs.Evaluate.{evaluate}
use Rattle.rules.specs.Catalog.{attribute_bytes}
use Rattle.rules.specs.Run.{Given}
use Rattle.rules.specs.declared.Kind.TheVariants.{Expression as ExpressionKind, Attribute as AttributeKind}
use Rattle.rules.proofs.Lists.{Each, none_left, also}
use Rattle.rules.proofs.ReadBack.{FitsValue, FitsAttribute}
use Rattle.places.specs.At.{expression_at, StandsAs, Siblings}
use Rattle.catalog.specs.Layout.{entry_attributes}
use Rattle.catalog.specs.Making.{stored, attribute, add_attribute, Holding}
use Rattle.catalog.proofs.Growing.{holding_none, holding_more, attribute_grown, front_kept, rest_back, written_kept}
use Rattle.catalog.proofs.Stores.{part_lent, part_back}
use Rattle.memory.specs.declared.Scope.{Scope}
use Rattle.evaluator.specs.Answers.{refused_by}
use Rattle.evaluator.specs.Known.{Ready, Tells, Sized}
use Rattle.evaluator.proofs.Expressions.{Small, operand_at}
use Rattle.attributes.proofs.Evaluating.{Rest, rest_begins, rest_on, rest_stops, rest_ends}
use Rattle.resources.specs.Attributes.{under_both, attributes_for, Kept, Appended, Added, not_added, added, Gathered, not_gathered, gathered}
use Rattle.std.specs.Prelude.{Result, Ok, Err}

-- ---- The way of `append`

rest_long : (rest : List ℕ) (size : ℕ) (a : Attribute) {n : ℕ} {rest' : List ℕ} → stored n rest' ≡ add_attribute rest size a → length rest' ≡ length rest
unfolding add_attribute
rest_long rest size a {n} {rest'} e = go (ltb (length rest) (size + length (attribute_bytes a))) e
  where
    go : (b : Bool) → stored n rest' ≡ stored (size + length (attribute_bytes a)) (pick b rest (over rest size (attribute_bytes a))) → length rest' ≡ length rest
    go true f = let same : rest' ≡ rest = cc in ap length same
    go false f = let same : rest' ≡ over rest size (attribute_bytes a) = cc in ap length same ∙ over_length rest size (attribute_bytes a)

pub appended : (out : List ℕ) (fill size name : ℕ) (x : Labelled) (outer own : Labels) {u v : Labelled} {n : ℕ} {rest' : List ℕ} → fill ≤ length out → u ≡ under outer x → v ≡ under own u
    → stored n rest' ≡ add_attribute (mid_of fill (length out - fill) out) size (attribute name v)
    → name < 65536 → FitsValue x.value → Words64 x.labels → Words64 outer → Words64 own
    → Appended out (put_mid fill (length out - fill) out rest') fill size n (attribute name (under_both outer own x))
appended out fill size name x outer own {u} {v} {n} {rest'} within e f g small value set1 set2 set3 =
    let both : v ≡ under_both outer own x = f ∙ ap (under own) e in
    let lent : stored n rest' ≡ add_attribute (drop fill out) size (attribute name (under_both outer own x)) =
    g ∙ ap (λ (l : List ℕ). add_attribute l size (attribute name v)) (part_lent out fill)
    ∙ ap (λ (y : Labelled). add_attribute (drop fill out) size (attribute name y)) both in
    record {
      rest = ap (stored n) (rest_back out fill within rest') ∙ lent;
      kept = record {
        front = front_kept out fill within rest';
        long = ap length (part_back out fill rest') ∙ length-append (take fill out) rest' ∙ omega (arith, rest_long (drop fill out) size _ lent, length-take-le fill out within, length-drop fill out);
      };
      fits = record { name = small; content = record { value = value; labels = words_union own (outer ∪ x.labels) set3 (words_union outer x.labels set2 set1) } };
    }

-- ---- The ways of `add_attribute`

module _ (m w out : List ℕ) (fill size : ℕ) (scope : Scope) (d q : ℕ) (outer own : Labels) (short : length m ≤ 65535) {t : ℕ} (small : Small t (q + 5)) {o : Outcome Labelled} (told : StandsAs m d ExpressionKind t → Tells m w out fill scope o (λ k c st. evaluate k c st (expression_at m d t))) where
  told_there : {o' : Outcome Labelled} → o ≡ o' → StandsAs m d ExpressionKind (q + 5) → Tells m w out fill scope o' (λ k c st. evaluate k c st (expression_at m d (q + 5)))
  told_there is s = subst (λ (a : Outcome Labelled). Tells m w out fill scope a (λ k c st. evaluate k c st (expression_at m d (q + 5)))) is (operand_at (λ n. Tells m w out fill scope o (λ k c st. evaluate k c st (expression_at m d n))) short s small told)

  pub attribute_stops : {why : Refusal} → o ≡ refused_by why → Added m w out out fill size scope d q outer own (Err why)
  attribute_stops is = not_added refl (told_there is)

  pub attribute_goes_on : (x : Labelled) {n name : ℕ} {out' : List ℕ} → o ≡ done x → name ≡ two m (q + 3) → Appended out out' fill size n (attribute name (under_both outer own x)) → Added m w out out' fill size scope d q outer own (Ok n)
  attribute_goes_on x {n} {name} {out'} is named h = added x (subst (λ (k : ℕ). Appended out out' fill size n (attribute k (under_both outer own x))) named h) (told_there is)

-- ---- The ways of `gather`

ready_kept : {m w out out' : List ℕ} {fill : ℕ} {k : Known} {es : List Entry} → take fill out' ≡ take fill out → Ready m w out fill k es → Ready m w out' fill k es
ready_kept same r = record { catalog = written_kept same r.catalog; index = r.index; unique = r.unique; known = r.known }

tells_kept : {m w out out' : List ℕ} {fill : ℕ} {scope : Scope} {a : Outcome Labelled} {f : Known → Context → State → Outcome Labelled} → take fill out' ≡ take fill out → Tells m w out' fill scope a f → Tells m w out fill scope a f
tells_kept same t = record { says = λ k path es n r h. t.says k path es n r (ready_kept same h) }

attributes_more : (outer own : Labels) (gs : List Given) (g : Given) → attributes_for outer own (gs ++ (g ∷ [])) ≡ attributes_for outer own gs ++ (attribute g.name (under_both outer own g.content) ∷ [])
unfolding attributes_for
attributes_more outer own [] g = refl
attributes_more outer own (h ∷ gs) g = ap (λ (l : List Attribute). attribute h.name (under_both outer own h.content) ∷ l) (attributes_more outer own gs g)

each_last : {l : List Attribute} {a : Attribute} → Each FitsAttribute l → FitsAttribute a → Each FitsAttribute (l ++ (a ∷ []))
each_last none_left f = also f none_left
each_last (also g gs) f = also g (each_last gs f)

-- the attributes up to q are appended, from the output out₀ to out
pub record Gathering (m w out₀ out : List ℕ) (fill : ℕ) (scope : Scope) (d first end : ℕ) (outer own : Labels) (size q : ℕ) : Type 0 where
  pub gs : List Given
  pub holding : Holding (drop fill out) size (attributes_for outer own gs)
  pub fits : Each FitsAttribute (attributes_for outer own gs)
  pub kept : Kept out₀ out fill
  pub rest : Siblings m d AttributeKind first end → Rest m w out₀ fill scope d first end q gs

pub gathering_begins : (m w out : List ℕ) (fill : ℕ) (scope : Scope) (d first end : ℕ) (outer own : Labels) → Gathering m w out out fill scope d first end outer own entry_attributes first
unfolding attributes_for
gathering_begins m w out fill scope d first end outer own = record { gs = []; holding = holding_none (drop fill out); fits = none_left; kept = record { front = refl; long = refl }; rest = rest_begins }

-- the same at the place q, where that is p
pub gathering_here : {m w out₀ out : List ℕ} {fill : ℕ} {scope : Scope} {d first end : ℕ} {outer own : Labels} {size p q : ℕ} → p ≡ q → Gathering m w out₀ out fill scope d first end outer own size p → Gathering m w out₀ out fill scope d first end outer own size q
gathering_here {m} {w} {out₀} {out} {fill} {scope} {d} {first} {end} {outer} {own} {size} e i = subst (λ (j : ℕ). Gathering m w out₀ out fill scope d first end outer own size j) e i

module _ {m w out₀ out : List ℕ} {fill : ℕ} {scope : Scope} {d first end : ℕ} {outer own : Labels} {size q : ℕ} (so_far : Gathering m w out₀ out fill scope d first end outer own size q) where
  module _ (b : ℕ) (deep : d ≡ suc b) (more : q < end) where
    pub gathering_on : {out' : List ℕ} {s : Result ℕ Refusal} {n r : ℕ} → Added m w out out' fill size scope b q outer own s → s ≡ Ok n → r ≡ end_of m q → Gathering m w out₀ out' fill scope d first end outer own n r
    gathering_on {out'} {s} {n} {r} a is next = subst (λ (j : ℕ). Gathering m w out₀ out' fill scope d first end outer own n j) (sym next) (go (subst (λ (v : Result ℕ Refusal). Added m w out out' fill size scope b q outer own v) is a))
      where
        go : Added m w out out' fill size scope b q outer own (Ok n) → Gathering m w out₀ out' fill scope d first end outer own n (end_of m q)
        go (added x h told) =
            let g : Given = record { place = q; name = two m (q + 3); content = x } in
            let l : attributes_for outer own (so_far.gs ++ (g ∷ [])) ≡ attributes_for outer own so_far.gs ++ (attribute (two m (q + 3)) (under_both outer own x) ∷ []) = attributes_more outer own so_far.gs g in
            record {
              gs = so_far.gs ++ (g ∷ []);
              holding = subst (λ (z : List Attribute). Holding (drop fill out') n z) (sym l) (holding_more (drop fill out) size (attributes_for outer own so_far.gs) (attribute (two m (q + 3)) (under_both outer own x)) so_far.holding h.rest);
              fits = subst (λ (z : List Attribute). Each FitsAttribute z) (sym l) (each_last so_far.fits h.fits);
              kept = record { front = h.kept.front ∙ so_far.kept.front; long = h.kept.long ∙ so_far.kept.long };
              rest = λ s. rest_on (so_far.rest s) b deep more (λ stands. tells_kept so_far.kept.front (told stands)) x refl;
            }

    pub gathering_stops : {out' : List ℕ} {s : Result ℕ Refusal} {why : Refusal} → Added m w out out' fill size scope b q outer own s → s ≡ Err why → Gathered m w out₀ out' fill scope d first end outer own s
    gathering_stops {out'} {s} {why} a is = subst (λ (v : Result ℕ Refusal). Gathered m w out₀ out' fill scope d first end outer own v) (sym is) (go (subst (λ (v : Result ℕ Refusal). Added m w out out' fill size scope b q outer own v) is a))
      where
        go : Added m w out out' fill size scope b q outer own (Err why) → Gathered m w out₀ out' fill scope d first end outer own (Err why)
        go (not_added same told) = not_gathered (record { front = ap (take fill) same ∙ so_far.kept.front; long = ap length same ∙ so_far.kept.long }) (λ s. rest_stops (so_far.rest s) b deep more (λ stands. tells_kept so_far.kept.front (told stands)) refl)

  pub gathering_ends : end ≤ q → Gathered m w out₀ out fill scope d first end outer own (Ok size)
  gathering_ends over = gathered so_far.gs so_far.kept so_far.holding so_far.fits (λ s. rest_ends (so_far.rest s) over)

-- the output is as long, and the entry grew by no more than 48 bytes
pub added_kept : {m w out out' : List ℕ} {fill size : ℕ} {scope : Scope} {d q : ℕ} {outer own : Labels} {s : Result ℕ Refusal} → Added m w out out' fill size scope d q outer own s → length out' ≡ length out
added_kept (not_added same told) = ap length same
added_kept (added x h told) = h.kept.long

pub added_most : {m w out out' : List ℕ} {fill size : ℕ} {scope : Scope} {d q : ℕ} {outer own : Labels} {s : Result ℕ Refusal} {n : ℕ} → Added m w out out' fill size scope d q outer own s → s ≡ Ok n → n ≤ size + 48
added_most {m} {w} {out} {out'} {fill} {size} {scope} {d} {q} {outer} {own} {s} {n} a is = go (subst (λ (v : Result ℕ Refusal). Added m w out out' fill size scope d q outer own v) is a)
  where
    go : Added m w out out' fill size scope d q outer own (Ok n) → n ≤ size + 48
    go (added x h told) = (attribute_grown (drop fill out) size (attribute (two m (q + 3)) (under_both outer own x)) h.rest).most

-- the same lengths, at another place of the manifest and with the output as long
pub sized_kept : {m w out out' : List ℕ} {fill p q : ℕ} → Sized m w out fill p → length out' ≡ length out → q ≤ p → Sized m w out' fill q
sized_kept s long l = record { memory = s.memory; filled = omega (arith, s.filled); short = s.short; manifest = s.manifest; place = omega (arith, s.place) }
