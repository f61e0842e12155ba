-- A set in four words: what joining to it gives, and what stays in it. Assumes nothing.
use Prim.Native.Nat.{ℕ}
use mathlib.Core.Path.{◌≡◌, refl, sym, ap, ◌∙◌}
use mathlib.Core.List.{List, [], ◌∷◌}
use native.Mathlib.Omega.{arith}
use lib.Bits.{bit_or, or_self}
use lib.ListN.{length, get_or, set}
use Rattle.labels.specs.declared.Labels.{Labels}
use Rattle.labels.specs.Sets.{◌∪◌}
use Rattle.labels.specs.Words.{labels_in, Joins, Grows}
use Rattle.labels.proofs.Laws.{union_assoc}

-- the way of `join`
pub words_joined : (s : List ℕ) (k : Labels) → length s ≡ 4
    → let s1 = set s 0 (bit_or (get_or s 0 0) k.w0) in
    let s2 = set s1 1 (bit_or (get_or s1 1 0) k.w1) in
    let s3 = set s2 2 (bit_or (get_or s2 2 0) k.w2) in
    Joins s (set s3 3 (bit_or (get_or s3 3 0) k.w3)) k
unfolding ◌∪◌
words_joined (a ∷ b ∷ c ∷ d ∷ []) k size = record { size = refl; labels = refl }
words_joined [] k size = absurd (omega arith)
words_joined (a ∷ []) k size = absurd (omega arith)
words_joined (a ∷ b ∷ []) k size = absurd (omega arith)
words_joined (a ∷ b ∷ c ∷ []) k size = absurd (omega arith)
words_joined (a ∷ b ∷ c ∷ d ∷ e ∷ f) k size = absurd (omega arith)

-- ---- What stays

pub union_same : (k : Labels) → k ∪ k ≡ k
unfolding ◌∪◌
union_same k = λ i. record { w0 = or_self k.w0 i; w1 = or_self k.w1 i; w2 = or_self k.w2 i; w3 = or_self k.w3 i }

pub grows_none : {s : List ℕ} → length s ≡ 4 → Grows s s
grows_none {s} size = record { size = size; kept = union_same (labels_in s) }

pub grows_joined : {s s' : List ℕ} {k : Labels} → Joins s s' k → Grows s s'
grows_joined {s} {s'} {k} j = record {
  size = j.size;
  kept = ap (λ (l : Labels). labels_in s ∪ l) j.labels ∙ sym (union_assoc (labels_in s) (labels_in s) k) ∙ ap (λ (l : Labels). l ∪ k) (union_same (labels_in s)) ∙ sym j.labels;
}

pub grows_on : {s s1 s2 : List ℕ} → Grows s s1 → Grows s1 s2 → Grows s s2
grows_on {s} {s1} {s2} g h = record {
  size = h.size;
  kept = ap (λ (l : Labels). labels_in s ∪ l) (sym h.kept) ∙ sym (union_assoc (labels_in s) (labels_in s1) (labels_in s2)) ∙ ap (λ (l : Labels). l ∪ labels_in s2) g.kept ∙ h.kept;
}
