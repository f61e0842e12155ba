-- One law for each way through the functions that find the node that runs.
use Prim.Native.Nat.{ℕ, ◌+◌}
use mathlib.Core.Path.{◌≡◌, refl, sym, ap, ◌∙◌}
use mathlib.Core.Bool.{Bool, true, false, ◌||◌}
use mathlib.Core.List.{List, [], ◌∷◌}
use mathlib.Core.Option.{Option, none, some}
use lib.Dec.{eqb}
use lib.ListN.{length}
use borrow.Author.Tests.{eq-eqb, ne_eqb}
use Rattle.rules.specs.Bytes.{pick, byte, two, end_of, fields_in}
use Rattle.rules.specs.Compile.{same_bytes, string_at}
use Rattle.syntax.specs.Strings.{string_texts, found_of}
use Rattle.syntax.specs.Nodes.{item_places, some_names, names_device, is_default_at, default_with, first_at, or_first, node_for}
use Rattle.std.specs.Option.{option_or}
use Rattle.std.specs.Bool.{then_some}
use Rattle.std.specs.Prelude.{Option as CodeOption, Some, None}

-- ---- The names of one node

module _ (m device : List ℕ) {qs : List ℕ} where
  module _ {q t : ℕ} {rest : List ℕ} (next : qs ≡ q ∷ rest) (et : t ≡ byte m q) where
    pub not_a_name : {whole : Bool} → (t ≡ 0x31 → ⊥) → some_names m device qs ≡ whole → false ≡ whole
    unfolding some_names
    not_a_name n inv = rw (next, ← et, ne_eqb t 0x31 n) at inv

    module _ {k : ℕ} {xs : List ℕ} {b : Bool} (is : t ≡ 0x31) (ek : k ≡ two m (q + 3)) (ex : xs ≡ string_at (string_texts m) k) (eb : b ≡ same_bytes xs device) where
      named : some_names m device qs ≡ (b || some_names m device rest)
      unfolding some_names
      named = rw (next, ← et, eq-eqb t 0x31 is, eb, ex, ek)

      pub its_name : {whole : Bool} → b ≡ true → some_names m device qs ≡ whole → true ≡ whole
      its_name h inv = sym (named ∙ rw h) ∙ inv

      pub other_name : {whole : Bool} → b ≡ false → some_names m device qs ≡ whole → some_names m device rest ≡ whole
      other_name h inv = sym (named ∙ rw h) ∙ inv

  pub no_name_left : {whole : Bool} → qs ≡ [] → some_names m device qs ≡ whole → false ≡ whole
  unfolding some_names
  no_name_left end inv = rw end at inv

-- ---- One item

module _ (m : List ℕ) (p : ℕ) {t : ℕ} (et : t ≡ byte m p) where
  pub no_node_names : (device : List ℕ) → (t ≡ 0x30 → ⊥) → false ≡ names_device m device p
  unfolding names_device
  no_node_names device n = rw (← et, ne_eqb t 0x30 n)

  pub node_names : (device : List ℕ) {e : ℕ} {b : Bool} → t ≡ 0x30 → e ≡ end_of m p → b ≡ some_names m device (fields_in m (p + 3) e) → b ≡ names_device m device p
  unfolding names_device
  node_names device is e b = rw (← et, eq-eqb t 0x30 is, ← e) b

  pub no_node_default : (t ≡ 0x30 → ⊥) → false ≡ is_default_at m p
  unfolding is_default_at
  no_node_default n = rw (← et, ne_eqb t 0x30 n)

  pub node_default : {u : ℕ} → t ≡ 0x30 → u ≡ byte m (p + 3) → eqb u 0x1b ≡ is_default_at m p
  unfolding is_default_at
  node_default is u = rw (← et, eq-eqb t 0x30 is, ← u)

-- ---- The default node met

pub default_next : (m : List ℕ) (p : ℕ) (met : CodeOption ℕ) {b : Bool} → b ≡ is_default_at m p → option_or met (then_some b p) ≡ default_with m met p
unfolding default_with
default_next m p (Some q) told = refl
default_next m p None {b} told = go b told
  where
    go : (b : Bool) → b ≡ is_default_at m p → then_some b p ≡ pick (is_default_at m p) (Some p) None
    go true is = rw (← is) refl
    go false is = rw (← is) refl

-- ---- The node that runs

-- where items are left at the places ps, with the default node met before them
pub record Looking (m device : List ℕ) (ps : List ℕ) (met : CodeOption ℕ) : Type 0 where
  pub before : Option ℕ
  pub same : met ≡ found_of before
  pub left : or_first (first_at (names_device m device) ps) (or_first before (first_at (is_default_at m) ps)) ≡ node_for m device

pub looking_begins : (m device : List ℕ) {p : ℕ} {ps : List ℕ} → p ≡ end_of m 0 → ps ≡ fields_in m p (length m) → Looking m device ps None
unfolding found_of or_first node_for item_places
looking_begins m device e all = rw (all, e) (record { before = none; same = refl; left = refl })

with_found : (m : List ℕ) (p : ℕ) (before : Option ℕ) (d : Bool) → is_default_at m p ≡ d → default_with m (found_of before) p ≡ found_of (or_first before (pick d (some p) none))
unfolding default_with found_of or_first
with_found m p (some q) d e = refl
with_found m p none true e = rw e refl
with_found m p none false e = rw e refl

first_stays : (before later : Option ℕ) (p : ℕ) (d : Bool) → or_first (or_first before (pick d (some p) none)) later ≡ or_first before (pick d (some p) later)
unfolding or_first
first_stays (some q) later p d = refl
first_stays none later p true = refl
first_stays none later p false = refl

none_more : (before : Option ℕ) → before ≡ or_first none (or_first before none)
unfolding or_first
none_more none = refl
none_more (some q) = refl

module _ {m device ps : List ℕ} {met : CodeOption ℕ} (so : Looking m device ps met) where
  module _ {p : ℕ} {qs : List ℕ} (next : ps ≡ p ∷ qs) {b : Bool} (told : b ≡ names_device m device p) where
    pub names_it : b ≡ true → Some p ≡ found_of (node_for m device)
    unfolding first_at or_first found_of
    names_it h = ap found_of (rw (next, ← told, h) at so.left)

    pub looking_goes_on : {met' : CodeOption ℕ} → b ≡ false → met' ≡ default_with m met p → Looking m device qs met'
    unfolding first_at
    looking_goes_on h is = record {
      before = or_first so.before (pick (is_default_at m p) (some p) none);
      same = is ∙ ap (λ (x : CodeOption ℕ). default_with m x p) so.same ∙ with_found m p so.before (is_default_at m p) refl;
      left =
          ap (or_first (first_at (names_device m device) qs)) (first_stays so.before (first_at (is_default_at m) qs) p (is_default_at m p))
          ∙ (rw (next, ← told, h) at so.left);
    }

  pub looked_at_all : ps ≡ [] → met ≡ found_of (node_for m device)
  unfolding first_at
  looked_at_all none_left = so.same ∙ ap found_of (none_more so.before ∙ (rw none_left at so.left))
