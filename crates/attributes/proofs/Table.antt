-- The table: what is read of a name's row, what a store there leaves of the others, and which names have one. Assumes nothing.
use Prim.Native.Nat.{ℕ, ◌+◌, ◌≤◌, ◌<◌}
use mathlib.Core.Path.{◌≡◌, refl, sym, ap, ◌∙◌}
use mathlib.Core.Bool.{Bool, true, false, ◌||◌, false≢true}
use mathlib.Core.List.{List, [], ◌∷◌, ◌++◌}
use mathlib.Core.Option.{Option, none, some}
use native.Mathlib.Omega.{arith}
use borrow.Author.Tests.{eqb-true, eqb-false, eq-eqb, ne_eqb, leb-false, lt-ltb, le-ltb}
use lib.Dec.{eqb, leb, ltb}
use lib.ListN.{length, replicate, length-replicate}
use Rattle.labels.specs.Sets.{Words64}
use Rattle.values.specs.declared.Labelled.{Labelled}
use Rattle.wire.specs.Bytes.{pick, byte, two, end_of, fields_in}
use Rattle.wire.specs.Runs.{over, zeros}
use Rattle.wire.proofs.Fields.{field_first}
use Rattle.wire.proofs.Laws.{over_length, zeros_byte}
use Rattle.records.specs.Record.{record_size, kind_at, record_bytes, record_in, held_of}
use Rattle.records.proofs.Values.{Ranged}
use Rattle.records.proofs.Laws.{record_length, record_back, record_outside, record_none, held_nothing}
use Rattle.rules.specs.Evaluate.{any, first_with}
use Rattle.rules.specs.Run.{Given, is_given}
use Rattle.rules.proofs.Lists.{Each, none_left, also}
use Rattle.attributes.specs.Names.{name_from}
use Rattle.attributes.specs.Table.{given_place, HasRow, given_at, content_of, Gives, Adds, Rows, Fresh}
use Rattle.std.specs.Prelude.{Option as CodeOption, None, is_some}

-- ---- Tables that give nothing

given_short : (t : List ℕ) (n : ℕ) → length t < given_place n + record_size → given_at t n ≡ none
unfolding given_at
given_short t n h = rw (lt-ltb (length t) (given_place n + record_size) h)

given_within : (t : List ℕ) (n : ℕ) → HasRow (length t) n → given_at t n ≡ record_in t (given_place n)
unfolding given_at
given_within t n row = rw (le-ltb (length t) (given_place n + record_size) row)

-- a row whose kind is 0
given_blank : (t : List ℕ) (n : ℕ) → byte t (kind_at (given_place n)) ≡ 0 → given_at t n ≡ none
unfolding given_at
given_blank t n e = rw (record_none t (given_place n) e) (go (ltb (length t) (given_place n + record_size)))
  where
    go : (b : Bool) → ◌≡◌ {A = Option Labelled} (pick b none none) none
    go true = refl
    go false = refl

-- a local array of zeros
no_given_zeros : (k n : ℕ) → given_at (replicate k 0) n ≡ none
unfolding zeros
no_given_zeros k n = given_blank (replicate k 0) n (zeros_byte k (kind_at (given_place n)))

pub gives_nothing : {t : List ℕ} → ((n : ℕ) → given_at t n ≡ none) → Gives t []
unfolding content_of first_with
gives_nothing blank = record { first = λ n l. blank n }

-- a table of no row
pub gives_none : (t : List ℕ) → length t < record_size → Gives t []
gives_none t h = gives_nothing (λ n. given_short t n (omega arith))

-- ---- Tables that have the rows

-- each of the fields from q on: of the first, and of those after it
each_head : {P : ℕ → Type 0} {q : ℕ} {qs : List ℕ} → Each P (q ∷ qs) → P q
each_head (also p ps) = p

each_tail : {P : ℕ → Type 0} {q : ℕ} {qs : List ℕ} → Each P (q ∷ qs) → Each P qs
each_tail (also p ps) = ps

module _ {P : ℕ → Type 0} (m : List ℕ) {q end : ℕ} (more : q < end) (each : Each P (fields_in m q end)) where
  pub each_here : P q
  each_here = each_head (rw (field_first m q end more) at each)

  pub each_after : Each P (fields_in m (end_of m q) end)
  each_after = each_tail (rw (field_first m q end more) at each)

pub row_here : (m : List ℕ) {k k' q end name : ℕ} → q < end → Rows m k (fields_in m q end) → name ≡ two m (q + 3) → k' ≡ k → name < 1024 → HasRow k' name
row_here m more rows named long small = omega (arith, each_here m more rows (omega (arith, named, small)), named, long)

pub fresh_between : {m t : List ℕ} {first first' end end' : ℕ} → first ≡ first' → end ≡ end' → Fresh m t (fields_in m first' end') → Fresh m t (fields_in m first end)
fresh_between e f fresh = rw (e, f) fresh

-- no name is past those with a row
rows_below : (m : List ℕ) (k limit : ℕ) → given_place limit ≤ k → (qs : List ℕ) → any (name_from m limit) qs ≡ false → Rows m k qs
unfolding any
rows_below m k limit long [] low = none_left
rows_below m k limit long (q ∷ qs) low = go (leb limit (two m (q + 3))) refl low (rows_below m k limit long qs)
  where
    go : (b : Bool) → leb limit (two m (q + 3)) ≡ b → (b || any (name_from m limit) qs) ≡ false → (any (name_from m limit) qs ≡ false → Rows m k qs) → Rows m k (q ∷ qs)
    go true e low later = absurd (let z : ◌≡◌ {A = ℕ} 0 1 = cc in omega arith)
    go false e low later = also {x = q} (λ small. omega (arith, leb-false limit (two m (q + 3)) e)) (later low)

rows_all : (m : List ℕ) (k : ℕ) → given_place 1024 ≤ k → (qs : List ℕ) → Rows m k qs
rows_all m k long [] = none_left
rows_all m k long (q ∷ qs) = also {x = q} (λ small. omega arith) (rows_all m k long qs)

pub fresh_below : (m : List ℕ) (k limit : ℕ) {qs : List ℕ} → given_place limit ≤ k → any (name_from m limit) qs ≡ false → Fresh m (replicate k 0) qs
fresh_below m k limit {qs} long low = record { blank = no_given_zeros k; rows = rows_below m (length (replicate k 0)) limit (omega (arith, length-replicate {A = ℕ} k 0)) qs low }

pub fresh_all : (m : List ℕ) (k : ℕ) {qs : List ℕ} → given_place 1024 ≤ k → Fresh m (replicate k 0) qs
fresh_all m k {qs} long = record { blank = no_given_zeros k; rows = rows_all m (length (replicate k 0)) (omega (arith, length-replicate {A = ℕ} k 0)) qs }

-- ---- The ways of `given`

module _ (t : List ℕ) (name : ℕ) where
  pub given_no_row : length t < given_place name + record_size → None ≡ held_of (given_at t name)
  unfolding held_of
  given_no_row h = ap held_of (sym (given_short t name h))

  pub given_read : {h : CodeOption Labelled} → HasRow (length t) name → h ≡ held_of (record_in t (given_place name)) → h ≡ held_of (given_at t name)
  given_read row read = read ∙ ap held_of (sym (given_within t name row))

-- ---- The way of `put_given`

module _ (t : List ℕ) (name : ℕ) (x : Labelled) {t' : List ℕ} (row : HasRow (length t) name) (value : Ranged x.value) (set : Words64 x.labels) (stored : t' ≡ over t (given_place name) (record_bytes x)) where
  after : List ℕ
  after = over t (given_place name) (record_bytes x)

  same_long : length after ≡ length t
  unfolding after
  same_long = over_length t (given_place name) (record_bytes x)

  pub put_way : (n : ℕ) → given_at t' n ≡ pick (eqb n name) (some x) (given_at t n)
  unfolding after given_at
  put_way n = rw stored (go (eqb n name) refl)
    where
      go : (b : Bool) → eqb n name ≡ b → given_at after n ≡ pick b (some x) (given_at t n)
      go true e = ap (given_at after) (eqb-true n name e) ∙ given_within after name (omega (arith, row, same_long)) ∙ record_back t (given_place name) x row value set
      go false e =
          let other : n ≡ name → ⊥ = eqb-false n name e in
          ap (λ (k : ℕ). pick (ltb k (given_place n + record_size)) none (record_in after (given_place n))) same_long
          ∙ ap (pick (ltb (length t) (given_place n + record_size)) none) (record_outside t (given_place name) (record_bytes x) (given_place n) (λ i a b c d. other (omega (arith, record_length x))))

-- ---- The ways of `add_given`

-- the first of two
unfoldable or : Option Labelled → Option Labelled → Option Labelled
or none y = y
or (some x) y = some x

-- what one more, given last, changes for the name n
more_first : (n : ℕ) (gs : List Given) (g : Given) → content_of (first_with (is_given n) (gs ++ (g ∷ []))) ≡ or (content_of (first_with (is_given n) gs)) (pick (eqb g.name n) (some g.content) none)
unfolding content_of first_with is_given or
more_first n [] g = go (eqb g.name n)
  where
    go : (b : Bool) → content_of (elim b [ true ↦ some g | false ↦ none ]) ≡ pick b (some g.content) none
    go true = refl
    go false = refl
more_first n (h ∷ gs) g = go (eqb h.name n) (more_first n gs g)
  where
    go : (b : Bool) → content_of (first_with (is_given n) (gs ++ (g ∷ []))) ≡ or (content_of (first_with (is_given n) gs)) (pick (eqb g.name n) (some g.content) none)
        → content_of (elim b [ true ↦ some h | false ↦ first_with (is_given n) (gs ++ (g ∷ [])) ]) ≡ or (content_of (elim b [ true ↦ some h | false ↦ first_with (is_given n) gs ])) (pick (eqb g.name n) (some g.content) none)
    go true later = refl
    go false later = later

or_none : (o : Option Labelled) → or o none ≡ o
unfolding or
or_none none = refl
or_none (some x) = refl

adds_by : (t t' : List ℕ) (name : ℕ) (x : Labelled) → ((n : ℕ) → n < 1024 → given_at t' n ≡ or (given_at t n) (pick (eqb name n) (some x) none)) → Adds t t' name x
adds_by t t' name x same = record {
  gives = λ gs q g. record {
    first = λ n l. same n l ∙ ap (λ (o : Option Labelled). or o (pick (eqb name n) (some x) none)) (g.first n l) ∙ sym (more_first n gs (record { place = q; name = name; content = x }));
  };
}

module _ (t : List ℕ) (name : ℕ) (x : Labelled) where
  -- no table has such a name
  pub adds_past : 1024 ≤ name → Adds t t name x
  adds_past past = adds_by t t name x (λ n l. rw (ne_eqb name n (λ e. omega arith)) (sym (or_none (given_at t n))))

  module _ {h : CodeOption Labelled} (read : h ≡ held_of (given_at t name)) where
    pub adds_has : is_some h ≡ true → Adds t t name x
    unfolding or held_of
    adds_has there = adds_by t t name x (λ n l. go n (eqb name n) refl)
      where
        content : (o : Option Labelled) → is_some (held_of o) ≡ true → (y : Option Labelled) → o ≡ or o y
        content (some z) e y = refl
        content none e y = absurd (false≢true e)

        go : (n : ℕ) (b : Bool) → eqb name n ≡ b → given_at t n ≡ or (given_at t n) (pick b (some x) none)
        go n true f =
            let here : given_at t n ≡ given_at t name = ap (given_at t) (sym (eqb-true name n f)) in
            rw here (content (given_at t name) (ap (λ (o : CodeOption Labelled). is_some o) (sym read) ∙ there) (some x))
        go n false f = sym (or_none (given_at t n))

    pub adds_put : {t' : List ℕ} → h ≡ None → ((n : ℕ) → given_at t' n ≡ pick (eqb n name) (some x) (given_at t n)) → Adds t t' name x
    unfolding or
    adds_put {t'} e put = adds_by t t' name x (λ n l. put n ∙ go n (eqb name n) refl)
      where
        go : (n : ℕ) (b : Bool) → eqb name n ≡ b → pick (eqb n name) (some x) (given_at t n) ≡ or (given_at t n) (pick b (some x) none)
        go n true f = let there : given_at t n ≡ none = ap (given_at t) (sym (eqb-true name n f)) ∙ held_nothing (given_at t name) read e in rw (there, eq-eqb n name (sym (eqb-true name n f)))
        go n false f = rw (ne_eqb n name (λ i. eqb-false name n f (sym i))) (sym (or_none (given_at t n)))
