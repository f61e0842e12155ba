-- Three rules of "Label sets" that no catalog shows, since the others imply them there: what an assignment stores holds path and trail, a
-- condition's set holds path and trail, and the path inside a declared body holds the declarer's.
use Prim.Native.Nat.{ℕ}
use mathlib.Core.Path.{◌≡◌, refl, ◌∙◌}
use mathlib.Core.Bool.{Bool, true, false, false≢true}
use mathlib.Core.Option.{some}
use lib.Dec.{eqb}
use Rattle.labels.specs.declared.Labels.{Labels}
use Rattle.labels.specs.Sets.{◌∪◌, has}
use Rattle.labels.proofs.Laws.{has_union}
use Rattle.values.specs.declared.Labelled.{Labelled}
use Rattle.rules.specs.State.{same_scope, Cell, State, Context, DeclaredClass, value_into, assign}
use Rattle.rules.specs.Outcome.{done}
use Rattle.rules.specs.Run.{path_and_trail, with_path_and_trail, stored, store, in_class, in_body}
use Rattle.rules.proofs.Lists.{or_true_left, or_true_right, both_true, eqb_same, scope_same}
use Rattle.rules.proofs.Outcome.{all_done, all_any, all_get}

-- every label of k is in s
pub record Holds (s k : Labels) : Type 0 where
  pub each : (n : ℕ) → has k n ≡ true → has s n ≡ true

holds_left : (a b : Labels) {k : Labels} → Holds a k → Holds (a ∪ b) k
holds_left a b h = record { each = λ n g. has_union a b n ∙ or_true_left (has a n) (has b n) (h.each n g) }

holds_right : (a b : Labels) {k : Labels} → Holds b k → Holds (a ∪ b) k
holds_right a b {k} h = record { each = λ n g. has_union a b n ∙ or_true_right (has a n) (has b n) (h.each n g) }

-- path and trail, in whatever set
pub record PathAndTrail (c : Context) (st : State) (s : Labels) : Type 0 where
  pub path : Holds s c.path
  pub trail : Holds s st.trail

holds_itself : (k : Labels) → Holds k k
holds_itself k = record { each = λ n h. h }

both_held : (c : Context) (st : State) (k : Labels) → PathAndTrail c st (path_and_trail c st ∪ k)
both_held c st k = record {
  path = holds_left _ k (holds_left c.path st.trail (holds_itself c.path));
  trail = holds_left _ k (holds_right c.path st.trail (holds_itself st.trail));
}

-- "An assignment stores its value's set with path and trail": what the cell of the name holds after it
value_there : (b : Bool) (x : Labelled) (c : Cell) → b ≡ true → (value_into b x c).value ≡ some x
unfolding value_into
value_there true x c e = refl
value_there false x c e = absurd (false≢true e)

pub assignment_holds : (c : Context) (p n : ℕ) (x : Labelled) (st : State) {st' : State} → store c p n x st ≡ done st' → ((st'.cells c.scope n).value ≡ some (stored c st x)) × PathAndTrail c st (stored c st x).labels
unfolding store assign stored
assignment_holds c p n x st h = (
  all_get {P = λ (st' : State). (st'.cells c.scope n).value ≡ some (stored c st x)}
      (all_any _ λ _. all_any _ λ _. all_done (value_there _ _ _ (both_true (same_scope c.scope c.scope) (eqb n n) (scope_same c.scope) (eqb_same n)))) h,
  both_held c st x.labels,
)

-- "A condition's set is its expression .., path and trail."
pub condition_holds : (c : Context) (st : State) (k : Labels) → PathAndTrail c st (with_path_and_trail c st k)
unfolding with_path_and_trail
condition_holds c st k = both_held c st k

-- "the path: the union over the conditions enclosing the statement, through declarations too"
pub class_path_holds : (q : ℕ) (d : DeclaredClass) (c : Context) → Holds (in_class q d c).path c.path
unfolding in_class
class_path_holds q d c = holds_itself c.path

pub body_path_holds : (n : ℕ) (c : Context) → Holds (in_body n c).path c.path
unfolding in_body
body_path_holds n c = holds_itself c.path
