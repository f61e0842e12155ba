-- The ways of the functions that open and close round brackets. Assumes nothing.
use mathlib.Core.Path.{◌≡◌, refl}
use mathlib.Core.List.{List}
use Prim.Native.Nat.{ℕ, zero, suc, ◌+◌, ◌-◌, ◌≤◌, ◌<◌}
use native.Mathlib.Omega.{arith}
use borrow.Author.Tests.{lt-ltb, le-ltb}
use Rattle.notation.specs.Building.{Piece, Nodes, Frame, frame, build, enter, leave, act}
use Rattle.tree_builder.specs.declared.Building.{Building}
use Rattle.tree_builder.specs.Shows.{LastPart, LastWord, Shown, Shows, Answers, DoesAt, AnyToken}
use Rattle.rules.specs.Types.{Types}
use Rattle.std.specs.Prelude.{Some, None}

-- the state with so many brackets open
abbrev with_brackets : Building → ℕ → Building
with_brackets s n =
    record { brackets = n; depth = s.depth; fill = s.fill; start = s.start; body = s.body; tallest = s.tallest; last = s.last; height = s.height; late = s.late; word = s.word; name = s.name; before = s.before }

module _ (types : Types) (s : Building) (m out : List ℕ) where
  bracketed : (table : List (List ℕ)) (n : ℕ) {b c t : ℕ} {h : List Piece} {ks : Nodes} {fs : List Frame} → n ≡ c → Shown table s m out b t h ks fs → Shown table (with_brackets s n) m out c t h ks fs
  unfolding LastPart
  bracketed table n e x =
      record {
        rounds = e;
        depth = x.depth;
        fill = x.fill;
        start = x.start;
        body = x.body;
        tall = x.tall;
        deep = x.deep;
        last = x.last;
        within = x.within;
        high = x.high;
        late = x.late;
        label = x.label;
        slots = x.slots;
        bytes = x.bytes;
        word = λ w. (let l : LastWord table s _ _ = x.word w in record { kept = l.kept; place = l.place; line = l.line; spelled = l.spelled; is = l.is; number = l.number; before = l.before });
      }

  pub enter_refused : 32 ≤ s.brackets → DoesAt types AnyToken enter s m out None m out
  unfolding DoesAt Answers act Shows
  enter_refused full table (build b (frame p t h ks) fs) x u a = rw (le-ltb b 32 (omega (arith, a.rounds)))

  pub enter_made : s.brackets < 32 → DoesAt types AnyToken enter s m out (Some (with_brackets s (s.brackets + 1))) m out
  unfolding DoesAt Answers act Shows
  enter_made room table (build b (frame p t h ks) fs) x u a =
      record { made = build (suc b) (frame p t h ks) fs; is = rw (lt-ltb b 32 (omega (arith, a.rounds))); shows = bracketed table (s.brackets + 1) (omega (arith, a.rounds)) a; grown = omega arith; behind = λ i low c. refl }

  pub leave_refused : s.brackets ≡ 0 → DoesAt types AnyToken leave s m out None m out
  unfolding DoesAt Answers act Shows
  leave_refused none table (build zero (frame p t h ks) fs) x u a = refl
  leave_refused none table (build (suc b) (frame p t h ks) fs) x u a = absurd (omega (arith, a.rounds))

  pub leave_made : 0 < s.brackets → DoesAt types AnyToken leave s m out (Some (with_brackets s (s.brackets - 1))) m out
  unfolding DoesAt Answers act Shows
  leave_made some table (build zero (frame p t h ks) fs) x u a = absurd (omega (arith, a.rounds))
  leave_made some table (build (suc b) (frame p t h ks) fs) x u a =
      record { made = build b (frame p t h ks) fs; is = refl; shows = bracketed table (s.brackets - 1) (omega (arith, a.rounds)) a; grown = omega arith; behind = λ i low c. refl }
