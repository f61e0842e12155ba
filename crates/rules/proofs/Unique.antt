-- Keys that stand once in a list: entries by type and title, attributes by name.
use Prim.Native.Nat.{ℕ, suc}
use mathlib.Core.Path.{◌≡◌, refl, sym, ap, ◌∙◌}
use mathlib.Core.Bool.{Bool, true, false, ◌||◌, true≢false}
use mathlib.Core.List.{List, [], ◌∷◌, Memᴰ}
use lib.Dec.{eqb}
use Rattle.labels.specs.declared.Labels.{Labels}
use Rattle.rules.specs.State.{Attribute, Entry, Context, State}
use Rattle.rules.specs.Evaluate.{any, is_entry, is_attribute}
use Rattle.rules.specs.Outcome.{◌>>=◌}
use Rattle.rules.specs.Run.{Given, is_given, named_once, attributes_under}
use Rattle.rules.specs.EditRule.{one_more, how_many}
pub use Rattle.rules.specs.Once.{Unique, unique_none, unique, Key, key_of, has_key, name_of, UniqueEntries, UniqueNames}
use Rattle.rules.proofs.Lists.{either_left, either_right, neither, or_true_left, or_true_right, both_left, both_right, both_true, eqb_true, eqb_same, eqb_sym, Each, none_left, also}
use Rattle.rules.proofs.Outcome.{All, all_done, all_bind, all_map, all_passed}

module _ {A K : Type 0} (key : A → K) (keyed : K → A → Bool) (own : (e : A) → keyed (key e) e ≡ true) (only : (k : K) (e : A) → keyed k e ≡ true → key e ≡ k) where
  not_more : (a b : Bool) (n : ℕ) → (a || b) ≡ false → (b ≡ false → n ≡ 0) → one_more a n ≡ 0
  unfolding one_more
  not_more true b n h g = absurd (true≢false h)
  not_more false b n h g = g h

  none_there : (k : K) (c : List A) → any (keyed k) c ≡ false → how_many (keyed k) c ≡ 0
  unfolding any how_many
  none_there k [] h = refl
  none_there k (e ∷ c) h = not_more (keyed k e) (any (keyed k) c) _ h λ g. none_there k c g

  present : {e : A} {c : List A} → Memᴰ e c → any (keyed (key e)) c ≡ true
  unfolding any
  present {e} (Memᴰ.head {x = x} {xs = xs} p) = or_true_left (keyed (key e) x) (any (keyed (key e)) xs) (rw (← p) (own e))
  present {e} (Memᴰ.tail {x = x} {xs = xs} m) = or_true_right (keyed (key e) x) (any (keyed (key e)) xs) (present m)

  one_more_yes : (b : Bool) (n : ℕ) → b ≡ true → n ≡ 0 → one_more b n ≡ 1
  unfolding one_more
  one_more_yes true n h e = ap suc e
  one_more_yes false n h e = absurd (true≢false (sym h))

  one_more_no : (b : Bool) (n : ℕ) → (b ≡ true → ⊥) → n ≡ 1 → one_more b n ≡ 1
  unfolding one_more
  one_more_no true n h e = absurd (h refl)
  one_more_no false n h e = e

  -- a key that no other element has is there once
  pub exactly_once : {f : A} {c : List A} → Unique key keyed c → Memᴰ f c → how_many (keyed (key f)) c ≡ 1
  unfolding how_many
  exactly_once {f} (unique {e = e} {c = c} h u) (Memᴰ.head p) = one_more_yes (keyed (key f) e) _ (rw p (own e)) (none_there (key f) c (rw p h))
  exactly_once {f} (unique {e = e} {c = c} h u) (Memᴰ.tail m) = one_more_no (keyed (key f) e) _ (λ t. true≢false (sym (present m) ∙ (rw (only (key f) e t) at h))) (exactly_once u m)
  exactly_once {f = f} unique_none x3 = elim x3 [ ]

-- ---- Entries by type and title, attributes by name

own_key : (e : Entry) → has_key (key_of e) e ≡ true
unfolding is_entry
own_key e = both_true (eqb e.type e.type) _ (eqb_same e.type) (eqb_same e.title)

pub only_key : (k : Key) (e : Entry) → has_key k e ≡ true → key_of e ≡ k
unfolding is_entry
only_key k e h = λ i. record { type = eqb_true e.type k.type (both_left _ (eqb e.title k.title) h) i; title = eqb_true e.title k.title (both_right (eqb e.type k.type) _ h) i }

own_name : (a : Attribute) → is_attribute (name_of a) a ≡ true
unfolding is_attribute
own_name a = eqb_same a.name

only_name : (n : ℕ) (a : Attribute) → is_attribute n a ≡ true → name_of a ≡ n
unfolding is_attribute
only_name n a h = eqb_true a.name n h

pub entry_once_lem : {e : Entry} {c : List Entry} → UniqueEntries c → Memᴰ e c → how_many (is_entry e.type e.title) c ≡ 1
entry_once_lem u m = exactly_once key_of has_key own_key only_key u m

pub name_once : {a : Attribute} {l : List Attribute} → UniqueNames l → Memᴰ a l → how_many (is_attribute a.name) l ≡ 1
name_once u m = exactly_once name_of is_attribute own_name only_name u m

-- ---- Names that stand once among the 26s of a body (21) do so among the attributes made of them

abbrev NoLater : List Given → Given → Type 0
NoLater gs e = any (is_given e.name) gs ≡ false

pub data Distinct : List Given → Type 0 where
  distinct_none : Distinct []
  distinct : {g : Given} {gs : List Given} → any (is_given g.name) gs ≡ false → Distinct gs → Distinct (g ∷ gs)

one_more_lem : (g : Given) (gs : List Given) {earlier : List Given} → any (is_given g.name) earlier ≡ false → Each (NoLater gs) earlier → Each (NoLater (g ∷ gs)) earlier
unfolding any is_given
one_more_lem g gs h none_left = none_left
one_more_lem g gs h (also {x = e} {xs = es} p ps) =
    also (neither (eqb g.name e.name) _ (eqb_sym g.name e.name ∙ either_left (eqb e.name g.name) (any (is_given g.name) es) h) p) (one_more_lem g gs (either_right (eqb e.name g.name) (any (is_given g.name) es) h) ps)

first_of : {P : Given → Type 0} {g : Given} {gs : List Given} → Each P (g ∷ gs) → P g × Each P gs
first_of (also p ps) = (p, ps)

no_later : (earlier : List Given) → Each (NoLater []) earlier
unfolding any
no_later [] = none_left
no_later (e ∷ es) = also refl (no_later es)

named_apart : (earlier gs : List Given) → All (λ (u : Unit {0}). Distinct gs × Each (NoLater gs) earlier) (named_once earlier gs)
unfolding named_once
named_apart earlier [] = all_done (distinct_none, no_later earlier)
named_apart earlier (g ∷ gs) = all_bind (all_passed _ _ _) λ _ h. all_map (named_apart (g ∷ earlier) gs) λ _ d. let f = first_of d.1 in (distinct f.0 d.0, one_more_lem g gs h f.1)

pub named_once_lem : (gs : List Given) → All (λ (u : Unit {0}). Distinct gs) (named_once [] gs)
named_once_lem gs = all_map (named_apart [] gs) λ _ d. d.0

any_under : (k : Labels) (c : Context) (st : State) (n : ℕ) (gs : List Given) → any (is_attribute n) (attributes_under k c st gs) ≡ any (is_given n) gs
unfolding any attributes_under is_attribute is_given
any_under k c st n [] = refl
any_under k c st n (g ∷ gs) = ap (λ (b : Bool). eqb g.name n || b) (any_under k c st n gs)

pub unique_under : (k : Labels) (c : Context) (st : State) {gs : List Given} → Distinct gs → UniqueNames (attributes_under k c st gs)
unfolding attributes_under
unique_under k c st distinct_none = unique_none
unique_under k c st (distinct {g = g} {gs = gs} h d) = unique (any_under k c st g.name gs ∙ h) (unique_under k c st d)
