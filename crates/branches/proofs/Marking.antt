-- Marking names: none, one, and some after others; and the ways of `mark_word` and `mark_names`. Assumes nothing.
use Prim.Native.Nat.{ℕ, ◌<◌}
use mathlib.Core.Path.{◌≡◌, refl, sym, ap, ◌∙◌, fun_ext}
use mathlib.Core.Bool.{Bool, false, ◌||◌}
use mathlib.Core.List.{List}
use lib.Dec.{eqb}
use lib.ListN.{length}
use Rattle.labels.specs.declared.Labels.{Labels}
use Rattle.rules.specs.Outcome.{Outcome, ◌>>=◌}
use Rattle.rules.specs.State.{Scope, State, Context}
use Rattle.rules.specs.Run.{after_test}
use Rattle.cells.specs.Layout.{slots_of}
use Rattle.cells.specs.Memory.{state_of, used_of, outcome, Answers, mark_one}
use Rattle.cells.proofs.Cells.{used_small}
use Rattle.cells.proofs.Marks.{test_all, test_then, one_test, no_test}
use Rattle.branches.specs.Marks.{Marks}
use Rattle.std.specs.Prelude.{Result, Ok, Err}
use Rattle.cells.specs.declared.NotStored.{NotStored}
use Rattle.cells.specs.declared.NotStored.TheVariants.{HasValue, NoRoom}

-- the definition's test, in a scope
test_in : (p : ℕ) (c : Context) (f : ℕ → Bool) (k : Labels) (st : State) → test_all p c.scope k f st ≡ after_test p c f false k st
unfolding test_all after_test
test_in p c f k st = refl

both_tests : (f g : ℕ → Bool) (p : ℕ) (c : Context) (k : Labels) (st : State) → (after_test p c f false k st >>= λ st'. after_test p c g false k st') ≡ after_test p c (λ n. f n || g n) false k st
unfolding test_all after_test
both_tests f g p c k st = test_then p c.scope k f g st

module _ {s : Scope} {k : Labels} where
  pub marks_same : {w w' : List ℕ} {a : Result Unit NotStored} {f g : ℕ → Bool} → ((n : ℕ) → f n ≡ g n) → Marks w w' a s f k → Marks w w' a s g k
  marks_same same i = rw (fun_ext same) at i

  no_marks : (w : List ℕ) → Marks w w (Ok tt) s (λ n. false) k
  unfolding outcome state_of used_of
  no_marks w = record {
    state = λ c here p es n r. no_test p c.scope k (state_of w es n r) (used_small (slots_of w)) ∙ test_in p c (λ n. false) k (state_of w es n r);
    names = refl;
    rest = refl;
    fine = λ f. f;
  }

  pub one_mark : {w w' : List ℕ} {a : Result Unit NotStored} {n : ℕ} → n < 1024 → Answers w w' a (λ p. mark_one p s n k) → Marks w w' a s (λ x. eqb x n) k
  one_mark {w} {n = n} small i = record {
    state = λ c here p es x r. i.state p es x r ∙ one_test p s k n (state_of w es x r) small ∙ rw (sym here) (test_in p c (λ x. eqb x n) k (state_of w es x r));
    names = i.names;
    rest = i.rest;
    fine = i.fine;
  }

  module _ (f g : ℕ → Bool) where
    -- names, and then others
    marks_then : {w w₁ w₂ : List ℕ} {a : Result Unit NotStored} → Marks w w₁ (Ok tt) s f k → Marks w₁ w₂ a s g k → Marks w w₂ a s (λ n. f n || g n) k
    unfolding outcome ◌>>=◌
    marks_then {w} i j = record {
      state = λ c here p es n r. j.state c here p es n r ∙ ap (λ (o : Outcome State). o >>= λ st'. after_test p c g false k st') (i.state c here p es n r) ∙ both_tests f g p c k (state_of w es n r);
      names = j.names ∙ i.names;
      rest = j.rest ∙ i.rest;
      fine = λ h. j.fine (i.fine h);
    }

    -- names that are not all marked: others after them do not matter
    marks_stop : {w w₁ : List ℕ} {e : NotStored} → Marks w w₁ (Err e) s f k → Marks w w₁ (Err e) s (λ n. f n || g n) k
    unfolding outcome ◌>>=◌
    marks_stop {w} {w₁} {e} i = record {
      state = λ c here p es n r. stays e p (state_of w₁ es n r) (λ st'. after_test p c g false k st') ∙ ap (λ (o : Outcome State). o >>= λ st'. after_test p c g false k st') (i.state c here p es n r) ∙ both_tests f g p c k (state_of w es n r);
      names = i.names;
      rest = i.rest;
      fine = i.fine;
    }
      where
        stays : (e : NotStored) (p : ℕ) (st : State) (next : State → Outcome State) → outcome (Err e) p st ≡ (outcome (Err e) p st >>= next)
        stays HasValue p st next = refl
        stays NoRoom p st next = refl

-- ---- The loops: at the head, what marks the names that are left marks the whole

pub record ToMark (w₀ w : List ℕ) (s : Scope) (left whole : ℕ → Bool) (k : Labels) : Type 0 where
  pub size : length w ≡ length w₀
  pub closes : (a : Result Unit NotStored) (w' : List ℕ) → Marks w w' a s left k → Marks w₀ w' a s whole k

pub to_mark : (w : List ℕ) (s : Scope) {left whole : ℕ → Bool} (k : Labels) → ((n : ℕ) → whole n ≡ left n) → ToMark w w s left whole k
to_mark w s k same = record { size = refl; closes = λ a w' i. marks_same (λ n. sym (same n)) i }

module _ {w₀ w : List ℕ} {s : Scope} {left whole : ℕ → Bool} {k : Labels} (i : ToMark w₀ w s left whole k) where
  pub all_marked : ((n : ℕ) → left n ≡ false) → Marks w₀ w (Ok tt) s whole k
  all_marked none = i.closes (Ok tt) w (marks_same (λ n. sym (none n)) (no_marks w))

  module _ (here after : ℕ → Bool) (split : (n : ℕ) → left n ≡ (here n || after n)) where
    pub stops_here : {a : Result Unit NotStored} {w' : List ℕ} {e : NotStored} → Marks w w' a s here k → a ≡ Err e → Marks w₀ w' (Err e) s whole k
    stops_here {w' = w'} {e} j refused = i.closes (Err e) w' (marks_same (λ n. sym (split n)) (marks_stop here after (rw refused at j)))

    pub goes_on : {a : Result Unit NotStored} {w' : List ℕ} → Marks w w' a s here k → a ≡ Ok tt → length w' ≡ length w → ToMark w₀ w' s after whole k
    goes_on {w' = w'} j done size = record { size = size ∙ i.size; closes = λ b w'' x. i.closes b w'' (marks_same (λ n. sym (split n)) (marks_then here after (rw done at j) x)) }
