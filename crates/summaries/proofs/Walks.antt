-- The ways of the functions that walk over a text, their premises as the callees ensure them. The laws of the text itself are in the crate `branches`.
use Prim.Native.Nat.{ℕ, ◌<◌}
use mathlib.Core.Path.{◌≡◌, refl, sym, ◌∙◌}
use mathlib.Core.Bool.{false}
use mathlib.Core.List.{List}
use native.Mathlib.Omega.{arith}
use lib.ListN.{replicate}
use Rattle.rules.specs.declared.Kind.{Kind}
use Rattle.places.specs.At.{statement_at, StandsAs}
use Rattle.branches.specs.Texts.{Text, text_of, plain, both, Small, held, Collects}
use Rattle.branches.specs.declared.collected.Collected.{Collected}
use Rattle.branches.proofs.Names.{contains_none}
use Rattle.branches.proofs.Standing.{has_header}
use Rattle.branches.proofs.Texts.{text_same, collects_same, collects_then, Collecting, collecting, collected_all, collected_here}
use Rattle.summaries.specs.Lines.{line_of, text_in}
use Rattle.summaries.specs.Summaries.{IsFor, Notes, Walking, Summarizes}
use Rattle.summaries.proofs.Summaries.{notes_none, notes_then}

pub summarizes_same : {m w w' : List ℕ} {c c' : Collected} {t u : Text} → t ≡ u → Summarizes m w w' c c' u → Summarizes m w w' c c' t
summarizes_same e q = rw e q

pub summarizes_then : {m w w₁ w₂ : List ℕ} {c c₁ c₂ : Collected} {t u : Text} → Summarizes m w w₁ c c₁ t → Summarizes m w₁ w₂ c₁ c₂ u → Summarizes m w w₂ c c₂ (both t u)
summarizes_then a b = record { collects = collects_then a.collects b.collects; notes = notes_then a.notes b.notes }

module _ {m w : List ℕ} (walk : Walking m w) where
  -- where the walk goes on
  pub walking_on : {w' : List ℕ} {c c' : Collected} {t : Text} → Summarizes m w w' c c' t → Walking m w'
  walking_on q = let long = walk.memory in record { manifest = walk.manifest; memory = omega (arith, q.notes.size); summarized = q.notes.summarized }

  -- nothing is noted
  pub only_collected : {c c' : Collected} {t : Text} → Collects c c' t → Summarizes m w w c c' t
  only_collected q = record { collects = q; notes = notes_none walk.summarized }

  -- it is taken from a line
  pub from_line : {i d p : ℕ} {c c' : Collected} → i < 16 → IsFor (line_of w i) d p → Collects c c' (text_in (line_of w i)) → Summarizes m w w c c' (text_of (statement_at m d p))
  from_line {i} {d} {p} h f q = only_collected (collects_same (sym ((walk.summarized.each i h).text d p f)) q)

-- a place is kept in two bytes, one more than it
pub place_small : {m w : List ℕ} {d p : ℕ} {k : Kind} → Walking m w → StandsAs m d k p → p < 65535
place_small walk s = omega (arith, walk.manifest, has_header s)

-- ---- A condition nested in a text: what it assigns and declares is collected apart, and then joined

module _ {c own : Collected} {t : Text} (names : c.names ≡ replicate 16 0) (declares : c.declares ≡ false) where
  pub own_text : Collects c own t → held own ≡ t
  unfolding both
  own_text q = q.joined ∙ text_same (λ n. rw (names, contains_none 16 n) refl) (rw declares refl)

  pub joined_own : {m w w₁ w₂ : List ℕ} {d d' : Collected} → Summarizes m w w₁ c own t → Notes m w₁ w₂ → Collects d d' (held own) → Summarizes m w w₂ d d' t
  joined_own q n j = record { collects = collects_same (sym (own_text q.collects)) j; notes = notes_then q.notes n }

-- ---- At a loop's head

pub record Walked (m w₀ w : List ℕ) (c₀ c : Collected) (left whole : Text) : Type 0 where
  pub collected : Collecting c₀ c left whole
  pub notes : Notes m w₀ w
  pub walk : Walking m w

pub walk_starts : {m w : List ℕ} {c : Collected} {t : Text} → Walking m w → Small t → Walked m w w c c t t
walk_starts {c = c} walk small = record { collected = collecting c small; notes = notes_none walk.summarized; walk = walk }

module _ {m w₀ w : List ℕ} {c₀ c : Collected} {left whole : Text} (i : Walked m w₀ w c₀ c left whole) where
  pub walked_all : left ≡ plain false → Summarizes m w₀ w c₀ c whole
  walked_all none = record { collects = collected_all i.collected none; notes = i.notes }

  pub walked_here : {w' : List ℕ} {c' : Collected} (here after : Text) → left ≡ both here after → Summarizes m w w' c c' here → Walked m w₀ w' c₀ c' after whole
  walked_here here after split q = record {
    collected = collected_here i.collected here after split q.collects;
    notes = notes_then i.notes q.notes;
    walk = walking_on i.walk q;
  }
