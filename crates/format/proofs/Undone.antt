-- Parts that are done may be dropped: the list of those that are not says what may come next, and whether the body may end, as the definition does.
use mathlib.Core.Path.{◌≡◌, refl, sym, ◌∙◌}
use mathlib.Core.Bool.{Bool, true, false, ◌&&◌}
use mathlib.Core.List.{List, []}
use mathlib.Core.Option.{Option, none, some}
use Prim.Native.Nat.{ℕ}
use Rattle.rules.specs.Format.{take, taken, follow, three, part_may_end, may_end}
use Rattle.rules.specs.declared.Part.{Part}
use Rattle.rules.specs.declared.Part.TheVariants.{Over, One, UpTo, Many, Names}
use Rattle.rules.specs.declared.Parts.{Parts}
use Rattle.rules.specs.declared.Took.{Took}
use Rattle.rules.specs.declared.Took.TheVariants.{Takes, Passes, Refuses}
use Rattle.rules.specs.declared.Next.{Next}
use Rattle.rules.specs.declared.Next.TheVariants.{Go, Wrong}
use Rattle.format.specs.Numbers.{push, undone}
use Rattle.format.specs.Coming.{onward, comes, complete}

pub comes_push : (p : Part) (ps : List Part) (t : ℕ) → comes (push p ps) t ≡ onward (take p t) ps (comes ps t)
unfolding comes push take
comes_push Over ps t = refl
comes_push (One k) ps t = refl
comes_push (UpTo n k) ps t = refl
comes_push (Many k) ps t = refl
comes_push Names ps t = refl

pub complete_push : (p : Part) (ps : List Part) → complete (push p ps) ≡ part_may_end p && complete ps
unfolding complete push part_may_end
complete_push Over ps = refl
complete_push (One k) ps = refl
complete_push (UpTo n k) ps = refl
complete_push (Many k) ps = refl
complete_push Names ps = refl

-- the parts that a field leaves, without those that are done
abbrev pub left : Next → Option (List Part)
left (Go ps) = some (undone ps)
left Wrong = none

pub follow_undone : (ps : Parts) (t : ℕ) → left (follow ps t) ≡ comes (undone ps) t
unfolding follow undone comes push
follow_undone ps t =
    first (take ps.first t) _ (second (take ps.second t) (third (take ps.third t)) ∙ sym (comes_push ps.second (push ps.third []) t))
    ∙ sym (comes_push ps.first (push ps.second (push ps.third [])) t)
  where
    third : (c : Took) → left (taken c (λ z. Go (three Over Over z)) Wrong) ≡ onward c [] none
    third (Takes z) = refl
    third Passes = refl
    third Refuses = refl

    second : (b : Took) → left (taken (take ps.third t) (λ z. Go (three Over Over z)) Wrong) ≡ onward (take ps.third t) [] none → left (taken b (λ y. Go (three Over y ps.third)) (taken (take ps.third t) (λ z. Go (three Over Over z)) Wrong)) ≡ onward b (push ps.third []) (comes (push ps.third []) t)
    second (Takes y) e = refl
    second Passes e = e ∙ sym (comes_push ps.third [] t)
    second Refuses e = refl

    first : (a : Took) (n : Next) → left n ≡ comes (push ps.second (push ps.third [])) t → left (taken a (λ x. Go (three x ps.second ps.third)) n) ≡ onward a (push ps.second (push ps.third [])) (comes (push ps.second (push ps.third [])) t)
    first (Takes x) n e = refl
    first Passes n e = e
    first Refuses n e = refl

pub may_end_undone : (ps : Parts) → may_end ps ≡ complete (undone ps)
unfolding may_end undone complete
may_end_undone ps = rw (complete_push ps.first, complete_push ps.second, complete_push ps.third) (rest (part_may_end ps.first) (part_may_end ps.second) (part_may_end ps.third))
  where
    rest : (a b c : Bool) → (a && (b && c)) ≡ (a && (b && (c && complete [])))
    rest true true true = refl
    rest true true false = refl
    rest true false c = refl
    rest false b c = refl
