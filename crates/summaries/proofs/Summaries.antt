-- Lines that are right: where they stay, where there are none, and one more of them. Assumes nothing.
use Prim.Native.Nat.{ℕ, ◌+◌, ◌^◌, ◌≤◌, ◌<◌}
use mathlib.Core.Path.{◌≡◌, refl, sym, ap, ◌∙◌}
use mathlib.Core.Bool.{Bool, true, false}
use mathlib.Core.List.{List}
use native.Mathlib.Omega.{arith}
use borrow.Author.Tests.{eqb-true, eqb-false}
use lib.Dec.{eqb}
use lib.ListN.{length, get_or}
use Rattle.wire.specs.Bytes.{byte, two}
use Rattle.wire.specs.Runs.{bytes_at, over}
use Rattle.wire.proofs.Laws.{same_run, run_back, byte_outside, over_length}
use Rattle.places.specs.At.{statement_at}
use Rattle.cells.specs.Layout.{summary_at, summary_size, rest_of}
use Rattle.cells.specs.Memory.{Stays}
use Rattle.cells.proofs.Others.{others_stored, others_run}
use Rattle.branches.specs.Texts.{text_of}
use Rattle.summaries.specs.Lines.{line_of, text_with, line_bytes}
use Rattle.summaries.specs.Summaries.{Right, Summarized, Notes}
use Rattle.summaries.proofs.Lines.{line_place, line_length, line_for_lem, line_text}

-- ---- Lines that stay

module _ {m w w' : List ℕ} where
  lines_same : ((i : ℕ) → i < 16 → line_of w' i ≡ line_of w i) → Summarized m w → Summarized m w'
  lines_same same s = record { each = λ i h. rw (same i h) (s.each i h) }

  -- they stay where their bytes do: they stand before the index, and among the bytes of others
  pub summarized_same : ((k : ℕ) → summary_at 0 ≤ k → k < summary_at 16 → byte w' k ≡ byte w k) → Summarized m w → Summarized m w'
  unfolding line_of
  summarized_same same = lines_same (λ i h. same_run w' w (summary_at i) (summary_at i) summary_size (λ j l. same (summary_at i + j) (omega arith) (omega arith)))

  pub summarized_before : ((k : ℕ) → k < summary_at 16 → byte w' k ≡ byte w k) → Summarized m w → Summarized m w'
  summarized_before same = summarized_same (λ k from to. same k to)

  pub summarized_still : rest_of w' ≡ rest_of w → Summarized m w → Summarized m w'
  unfolding line_of
  summarized_still same = lines_same (λ i h. others_run w w' same (summary_at i) (omega arith) summary_size)

  -- the state stays where only summaries change
  pub notes_stay : Notes m w w' → Stays w w'
  notes_stay n = others_stored w w' (λ k l. n.outside k (λ a b. omega arith))

pub notes_none : {m w : List ℕ} → Summarized m w → Notes m w w
notes_none s = record { size = refl; outside = λ k out. refl; summarized = s }

pub notes_then : {m w w₁ w₂ : List ℕ} → Notes m w w₁ → Notes m w₁ w₂ → Notes m w w₂
notes_then a b = record { size = b.size ∙ a.size; outside = λ k out. b.outside k out ∙ a.outside k out; summarized = b.summarized }

-- ---- No line

pub none_summarized : {m : List ℕ} (w : List ℕ) → ((i : ℕ) → i < 16 → two w (summary_at i) ≡ 0) → Summarized m w
none_summarized w none = record { each = λ i h. record { text = λ d p f. absurd (omega (arith, f.place, line_place w i, none i h)) } }

-- ---- One line more

module _ {m w w' : List ℕ} (i p d : ℕ) (b : Bool) (s : List ℕ) where
  pub line_kept : Summarized m w → (65536 ≤ length w) × (i < 16) → p < 65535 → d < 256 → length s ≡ 16 → ((j : ℕ) → get_or s j 0 < 256 ^ 8) → text_with s b ≡ text_of (statement_at m d p)
      → w' ≡ over w (summary_at i) (line_bytes p d b s) → Notes m w w'
  unfolding line_of
  line_kept old room hp hd size small right stored = record {
    size = ap length stored ∙ over_length w (summary_at i) new;
    outside = λ k out. ap (λ (v : List ℕ). byte v k) stored ∙ byte_outside w (summary_at i) new k (λ a c. out (omega arith) (omega (arith, new_size, room.1)));
    summarized = record { each = λ j h. go j h (eqb j i) refl };
  }
    where
      new : List ℕ
      new = line_bytes p d b s

      new_size : length new ≡ summary_size
      new_size = line_length p d b s size

      new_right : Right m new
      new_right = record {
        text = λ d' p' f.
            let mine = line_for_lem p d b s hp hd in
            let place : p' ≡ p = omega (arith, f.place, mine.place) in
            let depth : d' ≡ d = sym f.depth ∙ mine.depth in
            rw (place, depth) (line_text p d b s size small ∙ right);
      }

      go : (j : ℕ) → j < 16 → (x : Bool) → eqb j i ≡ x → Right m (line_of w' j)
      go j h true e =
          let here : j ≡ i = eqb-true j i e in
          let back : line_of w' i ≡ new = ap (λ (v : List ℕ). bytes_at v (summary_at i) summary_size) stored ∙ rw new_size at (run_back w (summary_at i) new (omega (arith, new_size))) in
          rw (here, back) new_right
      go j h false e =
          let apart : j ≡ i → ⊥ = eqb-false j i e in
          let still : line_of w' j ≡ line_of w j = same_run w' w (summary_at j) (summary_at j) summary_size (λ k l. ap (λ (v : List ℕ). byte v (summary_at j + k)) stored ∙ byte_outside w (summary_at i) new (summary_at j + k) (λ a c. omega (arith, new_size))) in
          rw still (old.each j h)
