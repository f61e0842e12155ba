-- The bytes of the table after a string was entered, and what they stand for.
use Prim.Native.Nat.{ℕ, suc, ◌+◌, ◌*◌, ◌<◌, ◌≤◌}
use mathlib.Core.Path.{◌≡◌, refl, sym, ap, ◌∙◌}
use mathlib.Core.Bool.{true}
use mathlib.Core.List.{List, []}
use mathlib.Core.Option.{some}
use native.Mathlib.Omega.{arith}
use native.Mathlib.Numerals.{add-one}
use lib.ListN.{length}
use Rattle.wire.specs.Numbers.{high_bytes}
use Rattle.wire.specs.Runs.{over}
use Rattle.wire.proofs.Laws.{two_same, same_run, stored_outside, stored_two, byte_outside, high_length, over_length}
use Rattle.rules.specs.Bytes.{byte, two}
use Rattle.rules.specs.Check.{ascends}
use Rattle.rules.specs.Compile.{string_at, string_number}
use Rattle.notation.specs.Quoted.{string_from}
use Rattle.notation.specs.Convert.{entered}
use Rattle.notation.proofs.WrittenNames.{Rising}
use Rattle.interner.specs.Table.{entry_string, strings, Belongs, StandsAt, Moved, Ready, Kept}
use Rattle.interner.proofs.Searching.{rises}
use Rattle.interner.proofs.Entering.{entered_rises, listed_length, listed_first, number_is, entered_known, PutIn, entered_new}

-- ---- The bytes

module _ (m w : List ℕ) (i count at : ℕ) (within : i ≤ count) (room : 2 * (count + 1) ≤ length m) (fits : at < 65536) (mv : Moved m w (2 * i) (2 * count)) where
  entry_below : (j : ℕ) → j < i → two (over w (2 * i) (high_bytes 2 at)) (2 * j) ≡ two m (2 * j)
  entry_below j l = two_same _ _ _ _ (stored_outside w (2 * i) 2 at (2 * j) 2 (λ x a b c d. omega arith) ∙ same_run w m (2 * j) (2 * j) 2 (λ d h. mv.below (2 * j + d) (omega arith)))

  entry_here : two (over w (2 * i) (high_bytes 2 at)) (2 * i) ≡ at
  entry_here = stored_two w (2 * i) at (omega (arith, mv.size)) fits

  entry_further : (j : ℕ) → i ≤ j → j < count → two (over w (2 * i) (high_bytes 2 at)) (2 * suc j) ≡ two m (2 * j)
  entry_further j l h =
      two_same _ _ _ _
      (stored_outside w (2 * i) 2 at (2 * suc j) 2 (λ x a b c d. omega arith)
      ∙ same_run w m (2 * suc j) (2 * j) 2 (λ d k. ap (byte w) (let place : 2 * suc j + d ≡ 2 * j + d + 2 = omega arith in place) ∙ mv.moved (2 * j + d) (omega arith) (omega arith)))

  byte_above : (x : ℕ) → 2 * (count + 1) ≤ x → byte (over w (2 * i) (high_bytes 2 at)) x ≡ byte m x
  byte_above x l = byte_outside w (2 * i) (high_bytes 2 at) x (λ a b. omega (arith, high_length 2 at)) ∙ mv.above x (omega arith)

  put_in : (t : List ℕ) → PutIn (string_from t at) (entry_string t m) (entry_string t (over w (2 * i) (high_bytes 2 at))) count i
  unfolding entry_string
  put_in t = record {
    below = λ j l. ap (string_from t) (entry_below j l);
    here = ap (string_from t) entry_here;
    further = λ j l h. ap (string_from t) (entry_further j l h);
  }

-- ---- The table

module _ (t m : List ℕ) (count : ℕ) where
  -- it has as many strings as are counted
  pub strings_counted : length (strings t m count) ≡ count
  unfolding strings
  strings_counted = listed_length (entry_string t m) 0 count

  -- the string with the number i is that of entry i
  pub string_of : {i : ℕ} → i < count → string_at (strings t m count) i ≡ entry_string t m i
  unfolding strings string_at
  string_of {i} l = listed_first [] (entry_string t m) count i l

module _ (t m : List ℕ) (count at : ℕ) (up : Rising (strings t m count)) {i : ℕ} (h : StandsAt (string_from t at) (entry_string t m) count i) where
  -- all before a string come before it
  before : (j : ℕ) → j < i → ascends (entry_string t m j) (string_from t at) ≡ true
  before j l = rw h.same at (rises t m count up j i l h.within)

  -- its number is where it stands
  pub number_of : string_number (string_from t at) (strings t m count) 0 ≡ some i
  unfolding strings
  number_of = number_is (entry_string t m) before h.same 0 count (omega arith) (omega (arith, h.within))

  -- entering it changes nothing
  pub table_kept : strings t m count ≡ entered (string_from t at) (strings t m count)
  unfolding strings
  table_kept = sym (entered_known (entry_string t m) before h.same 0 count (omega arith) (omega (arith, h.within)))

module _ (t m : List ℕ) (count at : ℕ) (ready : Ready t m count at) where
  -- the string was there
  pub kept_known : {i : ℕ} → StandsAt (string_from t at) (entry_string t m) count i → Kept t m m count at i count
  kept_known {i} h = record {
    table = table_kept t m count at ready.rising h;
    rising = ready.rising;
    found = number_of t m count at ready.rising h;
    back = string_of t m count h.within ∙ h.same;
    known = h.within;
    grown = omega arith;
    at_most_one = omega arith;
    unchanged = λ e. refl;
    size = refl;
    above = λ x l. refl;
  }

  -- it is there now
  module _ {w m' : List ℕ} {i : ℕ} (h : Belongs (string_from t at) (entry_string t m) count i) (mv : Moved m w (2 * i) (2 * count)) (e : m' ≡ over w (2 * i) (high_bytes 2 at)) where
    new_entries : PutIn (string_from t at) (entry_string t m) (entry_string t m') count i
    new_entries = rw e (put_in m w i count at h.within ready.room ready.fits mv t)

    new_table : strings t m' (count + 1) ≡ entered (string_from t at) (strings t m count)
    unfolding strings
    new_table = rw add-one (entered_new h new_entries 0 count (omega arith) (omega arith))

    new_rising : Rising (strings t m' (count + 1))
    new_rising = rw new_table (entered_rises (string_from t at) (strings t m count) ready.rising)

    new_stands : StandsAt (string_from t at) (entry_string t m') (count + 1) i
    new_stands = record { within = omega (arith, h.within); same = new_entries.here }

    pub kept_new : Kept t m m' count at i (count + 1)
    kept_new = record {
      table = new_table;
      rising = new_rising;
      found = number_of t m' (count + 1) at new_rising new_stands;
      back = string_of t m' (count + 1) new_stands.within ∙ new_entries.here;
      known = new_stands.within;
      grown = omega arith;
      at_most_one = omega arith;
      unchanged = λ x. absurd (omega arith);
      size = ap length e ∙ over_length w (2 * i) (high_bytes 2 at) ∙ mv.size;
      above = λ x l. ap (λ (b : List ℕ). byte b x) e ∙ byte_above m w i count at h.within ready.room ready.fits mv x l;
    }
