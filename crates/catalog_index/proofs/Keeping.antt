-- The index depends on its own bytes alone, which are among those of others; it is empty before a run, and stores in it leave the state, the names and the title. Assumes nothing.
use mathlib.Core.Path.{◌≡◌, ◌∙◌, fun_ext}
use mathlib.Core.List.{List, []}
use Prim.Native.Nat.{ℕ, ◌+◌, ◌≤◌}
use native.Mathlib.Omega.{arith}
use Rattle.wire.specs.Bytes.{two}
use Rattle.rules.specs.State.{Entry}
use Rattle.cells.specs.Layout.{head_at, count_at, index_at, index_link, rest_of}
use Rattle.cells.specs.Memory.{Stays}
use Rattle.cells.proofs.Regions.{same_two}
use Rattle.cells.proofs.Others.{others_stored, others_read}
use Rattle.catalog_index.specs.Chains.{gather, Chained}
use Rattle.catalog_index.specs.Index.{postings, heads_of, places_of, links_of, Indexed, InIndex}
use Rattle.catalog_index.proofs.Chains.{chained_none}

pub index_same : (w w' : List ℕ) (es : List Entry) → ((p : ℕ) → head_at 0 ≤ p → two w' p ≡ two w p) → Indexed w es → Indexed w' es
index_same w w' es same i =
    let heads : heads_of w' ≡ heads_of w = fun_ext (λ b. same (head_at b) (omega arith)) in
    let places : places_of w' ≡ places_of w = fun_ext (λ k. same (index_at k) (omega arith)) in
    let links : links_of w' ≡ links_of w = fun_ext (λ k. same (index_at k + index_link) (omega arith)) in
    let chains : Chained (heads_of w') (places_of w') (links_of w') (postings es) = rw (heads, places, links) i.chains in
    record { count = same count_at (omega arith) ∙ i.count; chains = chains }

pub index_kept : (w w' : List ℕ) (es : List Entry) → rest_of w' ≡ rest_of w → Indexed w es → Indexed w' es
index_kept w w' es same = index_same w w' es (λ p l. others_read w w' same p (omega arith))

pub index_none : (w : List ℕ) → ((p : ℕ) → head_at 0 ≤ p → p + 2 ≤ index_at 0 → two w p ≡ 0) → Indexed w []
unfolding postings gather
index_none w zero_there = record { count = zero_there count_at (omega arith) (omega arith); chains = chained_none (heads_of w) (places_of w) (links_of w) (λ b h. zero_there (head_at b) (omega arith) (omega arith)) }

module _ (w w' : List ℕ) (in-it : InIndex w w') where
  pub index_stays : Stays w w'
  index_stays = others_stored w w' (λ k h. in-it.before k (omega arith))

  -- the words are as they were
  pub index_words : (p : ℕ) → p + 2 ≤ head_at 0 → two w' p ≡ two w p
  index_words p h = same_two w w' p (λ j l. in-it.before (p + j) (omega arith))
