-- Outcomes put together: sets joined one after the other, and answers that the code tells apart. Assumes nothing.
use Prim.Native.Nat.{ℕ}
use mathlib.Core.Path.{◌≡◌, refl, sym, ap, ◌∙◌, subst}
use mathlib.Core.Bool.{true≢false}
use Rattle.labels.specs.declared.Labels.{Labels}
use Rattle.labels.specs.Sets.{no_labels, ◌∪◌}
use Rattle.labels.proofs.Laws.{union_assoc, union_none, union_none_after}
use Rattle.values.specs.declared.Reason.{Reason}
use Rattle.values.specs.declared.Refusal.{Refusal}
use Rattle.values.specs.Refusals.{refusal_at}
use Rattle.values.specs.declared.Value.{Value}
use Rattle.values.specs.declared.Labelled.{Labelled}
use Rattle.rules.specs.Outcome.{Outcome, refused, done, ◌>>=◌, plain, joining}
use Rattle.rules.specs.Why.{is_refused}
use Rattle.std.specs.Prelude.{Ok, Err}
use Rattle.evaluator.specs.Answers.{Evaluated, refused_by, value_with, answered, evaluated}

-- ---- Sets joined

-- an operand, then the rest with its value under the operand's set
infixl 10 ◌▷◌
unfoldable pub ◌▷◌ : Outcome Labelled → (Value → Outcome Labelled) → Outcome Labelled
◌▷◌ m f = m >>= λ x. joining x.labels (f x.value)

pub joining_none : (o : Outcome Labelled) → joining no_labels o ≡ o
unfolding joining ◌>>=◌
joining_none (refused r p) = refl
joining_none (done x) = ap (λ (k : Labels). done (record { value = x.value; labels = k })) (union_none x.labels)

pub joining_both : (a b : Labels) (o : Outcome Labelled) → joining (a ∪ b) o ≡ joining a (joining b o)
unfolding joining ◌>>=◌
joining_both a b (refused r p) = refl
joining_both a b (done x) = ap (λ (k : Labels). done (record { value = x.value; labels = k })) (union_assoc a b x.labels)

-- ---- Answers

pub refusal_told : (k : Labels) {why : Refusal} {r : Reason} {p : ℕ} → why ≡ refusal_at r p → answered (Err why) k ≡ refused r p
unfolding answered
refusal_told k e = ap refused_by e

pub refusal_is : {why : Refusal} {r : Reason} {p : ℕ} → why ≡ refusal_at r p → evaluated (Err why) ≡ refused r p
refusal_is e = refusal_told no_labels e

pub value_is : (v : Value) → evaluated (Ok v) ≡ plain v
unfolding answered
value_is v = refl

-- the two ways that code tells apart
pub value_answered : {e : Evaluated} {v : Value} → e ≡ Ok v → (k : Labels) → answered e k ≡ value_with v k
unfolding answered
value_answered is k = ap (λ (e : Evaluated). answered e k) is

pub refusal_answered : {e : Evaluated} {why : Refusal} → e ≡ Err why → (k : Labels) → answered e k ≡ refused_by why
unfolding answered
refusal_answered is k = ap (λ (e : Evaluated). answered e k) is

-- a value without labels of its own, with the labels k
pub with_labels : (e : Evaluated) {o : Outcome Labelled} → evaluated e ≡ o → (k : Labels) → answered e k ≡ joining k o
unfolding answered joining ◌>>=◌
with_labels (Ok v) is k = subst (λ o. answered (Ok v) k ≡ joining k o) is (ap (λ (l : Labels). done (record { value = v; labels = l })) (sym (union_none_after k)))
with_labels (Err why) is k = subst (λ o. answered (Err why) k ≡ joining k o) is refl

-- the same of a value that is at hand
pub plain_joined : (v : Value) (k : Labels) → answered (Ok v) k ≡ joining k (plain v)
plain_joined v k = with_labels (Ok v) (value_is v) k

-- a value whose own labels were joined to the set k
pub value_joined : (k l : Labels) (e : Evaluated) (x : Labelled) → evaluated e ≡ plain x.value → l ≡ k ∪ x.labels → answered e l ≡ joining k (done x)
unfolding joining ◌>>=◌
value_joined k l e x is joined = with_labels e is l ∙ ap (λ (n : Labels). done (record { value = x.value; labels = n })) (union_none_after l ∙ joined)

-- a refusal is one whatever was joined
pub refusal_joined : (k l : Labels) {why : Refusal} {r : Reason} {p : ℕ} → why ≡ refusal_at r p → answered (Err why) l ≡ joining k (refused r p)
unfolding joining ◌>>=◌
refusal_joined k l is = refusal_told l is

-- ---- An operand, and then the rest

refused_done : {r : Reason} {p : ℕ} {x : Labelled} → refused r p ≡ done x → ⊥
unfolding is_refused
refused_done e = true≢false (ap is_refused e)

done_same : {a b : Labelled} → done a ≡ done b → a ≡ b
done_same {a} e = ap (λ (o : Outcome Labelled). elim o [ refused r p ↦ a | done x ↦ x ]) e

module _ (e : Evaluated) (was is : Labels) (f : Value → Outcome Labelled) where
  -- a refused operand ends it
  pub stops : (o : Outcome Labelled) {why : Refusal} → answered e is ≡ joining was o → e ≡ Err why → answered (Err why) is ≡ joining was (o ▷ f)
  unfolding joining ◌▷◌ ◌>>=◌
  stops (refused r p) told refuses = ap (λ (a : Evaluated). answered a is) (sym refuses) ∙ told
  stops (done x) told refuses = absurd (refused_done (sym (refusal_answered refuses is) ∙ told))

  -- the value of one goes on
  pub goes_on : (o : Outcome Labelled) {v : Value} {g : Outcome Labelled} → answered e is ≡ joining was o → e ≡ Ok v → g ≡ joining is (f v) → g ≡ joining was (o ▷ f)
  unfolding joining ◌▷◌ ◌>>=◌
  goes_on (refused r p) told yields rest = absurd (refused_done (sym told ∙ value_answered yields is))
  goes_on (done x) {v} told yields rest =
      let same = done_same (sym (value_answered yields is) ∙ told) in
      rest ∙ (λ i. joining (same i).labels (f (same i).value)) ∙ joining_both was x.labels (f x.value)
