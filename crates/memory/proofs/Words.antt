-- The ways of the functions on words: they are the first of the bytes that follow the links.
use mathlib.Core.Path.{◌≡◌, refl, sym, ap, ◌∙◌}
use mathlib.Core.Bool.{Bool, true, false, ◌&&◌}
use mathlib.Core.List.{List}
use Prim.Native.Nat.{ℕ, ◌+◌, ◌*◌, ◌≤◌, ◌<◌}
use native.Mathlib.Omega.{arith}
use lib.ListN.{length, drop}
use lib.Seq.{drop-drop}
use lib.Dec.{eqb}
use borrow.Author.Tests.{lt-ltb, le-ltb}
use Rattle.wire.specs.Bytes.{two}
use Rattle.wire.specs.Numbers.{high_bytes}
use Rattle.wire.specs.Runs.{over}
use Rattle.wire.proofs.Laws.{same_rest, two_same, byte_outside, high_length, stored_outside, stored_two}
use Rattle.rules.specs.Tree.{Constant}
use Rattle.cells.specs.Layout.{words_at, rest_of}
use Rattle.cells.specs.Memory.{Stays}
use Rattle.cells.proofs.Others.{others_stored}
use Rattle.memory.specs.Words.{word_of, WordSet, strike_label, strike_end, struck_at, struck_in}

pub word_at : (w : List ℕ) (i : ℕ) → two w (words_at + 2 * i) ≡ word_of w i
unfolding word_of rest_of
word_at w i = two_same w (drop words_at w) (words_at + 2 * i) (2 * i) (same_rest w (drop words_at w) (words_at + 2 * i) (2 * i) (sym (drop-drop (2 * i) words_at w)) 2)

-- THE LAW: the bytes of others say the words alone
pub words_kept : (w w' : List ℕ) → rest_of w' ≡ rest_of w → (i : ℕ) → word_of w' i ≡ word_of w i
unfolding word_of
words_kept w w' e i = rw e refl

pub struck_same : (w w' : List ℕ) → ((i : ℕ) → i < 3 → word_of w' i ≡ word_of w i) → (v : Constant) → struck_in w' v ≡ struck_in w v
unfolding struck_in struck_at
struck_same w w' e v = rw (e strike_label (omega arith), e strike_end (omega arith)) refl

-- set_word
pub word_way : (w w' : List ℕ) (i v : ℕ) → 65536 ≤ length w → i < 15 → v < 65536 → w' ≡ over w (words_at + 2 * i) (high_bytes 2 v) → WordSet w w' i v
word_way w w' i v room below small e =
    let at : ℕ = words_at + 2 * i in
    let size : length (high_bytes 2 v) ≡ 2 = high_length 2 v in
    let stays : Stays w w' = others_stored w w' (λ k l. rw e (byte_outside w at (high_bytes 2 v) k (λ a b. omega arith))) in
    let elsewhere : (p : ℕ) → ((k : ℕ) → p ≤ k → k < p + 2 → at ≤ k → k < at + 2 → ⊥) → two w' p ≡ two w p =
    λ p apart. ap (λ (m : List ℕ). two m p) e ∙ two_same (over w at (high_bytes 2 v)) w p p (stored_outside w at 2 v p 2 apart) in
    record {
      set = sym (word_at w' i) ∙ ap (λ (m : List ℕ). two m at) e ∙ stored_two w at v (omega arith) small;
      others = λ j l other. sym (word_at w' j) ∙ elsewhere (words_at + 2 * j) (λ k a b c d. other (omega arith)) ∙ word_at w j;
      state = stays.state;
      names = stays.names;
      fine = stays.fine;
      after = λ k l. rw e (byte_outside w at (high_bytes 2 v) k (λ a b. omega arith));
    }

-- is_struck_out
module _ (w : List ℕ) (label place : ℕ) {end : ℕ} (read : end ≡ word_of w strike_end) where
  pub struck_before : {l : ℕ} → place < end → l ≡ word_of w strike_label → eqb label l ≡ struck_at w label place
  unfolding struck_at
  struck_before below e = rw (sym e, sym read, lt-ltb place end below) (and_true _)
    where
      and_true : (b : Bool) → b ≡ (b && true)
      and_true true = refl
      and_true false = refl

  pub struck_behind : end ≤ place → false ≡ struck_at w label place
  unfolding struck_at
  struck_behind past = rw (sym read, le-ltb place end past) (and_false (eqb label (word_of w strike_label)))
    where
      and_false : (b : Bool) → false ≡ (b && false)
      and_false true = refl
      and_false false = refl
