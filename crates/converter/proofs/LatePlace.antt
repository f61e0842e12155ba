-- The place of a late constant is one of the text. Assumes nothing.
use mathlib.Core.Path.{◌≡◌}
use mathlib.Core.Bool.{Bool, true, false, ◌&&◌}
use mathlib.Core.List.{List, [], ◌∷◌}
use mathlib.Core.Option.{Option, none, some}
use native.Mathlib.Omega.{arith}
use lib.Dec.{ltb}
use lib.ListN.{length}
use Prim.Native.Nat.{ℕ, suc, ◌+◌, ◌≤◌}
use Rattle.rules.specs.Bytes.{pick}
use Rattle.rules.specs.Format.{is_constant}
use Rattle.rules.specs.Types.{Types}
use Rattle.notation.specs.Lexing.{tokens, line_behind}
use Rattle.notation.specs.Building.{Node, Nodes, frame, build}
use Rattle.notation.specs.Grammar.{built, reading}
use Rattle.notation.specs.Convert.{or_later, late_in, late_among}
use Rattle.notation.proofs.NeedsKept.{none_not_some, same_result}
use Rattle.notation.proofs.ConstantLines.{ConstantsIn, a_constant, no_constant, EachConstant, no_field, also_field, EachByte, tokens_at}
use Rattle.notation.proofs.LabelsAreLines.{tokens_give_constants}

module _ (n : ℕ) where
  -- a place up to n
  abbrev Low : (place line : ℕ) → Type 0
  Low p l = p ≤ n

  bytes_low : (cs : List ℕ) (p l : ℕ) → p + length cs ≤ n → EachByte Low cs p l
  bytes_low [] p l h = omega arith
  bytes_low (c ∷ cs) p l h = (omega arith, bytes_low cs (suc p) (line_behind c l) (omega arith))

  -- the first of two, by a test and by order
  one_of : (b : Bool) (p : ℕ) (o : Option ℕ) (q : ℕ) → p ≤ n → (o ≡ some q → q ≤ n) → ◌≡◌ {A = Option ℕ} (pick b (some p) o) (some q) → q ≤ n
  one_of true p o q low others e = omega (arith, low, same_result p q e)
  one_of false p o q low others e = others e

  either_of : (a b : Option ℕ) (q : ℕ) → (a ≡ some q → q ≤ n) → (b ≡ some q → q ≤ n) → or_later a b ≡ some q → q ≤ n
  either_of none b q first others e = others e
  either_of (some p) b q first others e = first e

  mutual
    unfolding late_in

    late_in_lem : {k : Node} → ConstantsIn Low k → (q : ℕ) → late_in k ≡ some q → q ≤ n
    late_in_lem (a_constant {p} {t} {l} {h} {ks} c low each) q e = one_of (is_constant t && ltb 255 l) p (late_among ks) q low (λ i. late_among_lem each q i) e
    late_in_lem (no_constant {p} {t} {h} {ks} c each) q e = late_among_lem each q (rw c at e)

    late_among_lem : {ks : Nodes} → EachConstant Low ks → (q : ℕ) → late_among ks ≡ some q → q ≤ n
    late_among_lem no_field q e = none_not_some e
    late_among_lem (also_field {ks} {k} each last) q e = either_of (late_among ks) (late_in k) q (λ i. late_among_lem each q i) (λ i. late_in_lem last q i) e

pub late_place : (types : Types) (t : List ℕ) (items : Nodes) → reading types (tokens t) ≡ built (build 0 (frame 0 0 [] items) []) → (q : ℕ) → late_among items ≡ some q → q ≤ length t
late_place types t items whole q e =
    late_among_lem (length t) (tokens_give_constants types (Low (length t)) (tokens t) items (tokens_at (Low (length t)) t (bytes_low (length t) t 0 0 (omega arith))) whole) q e
