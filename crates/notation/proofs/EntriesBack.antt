-- Printed entries with commas are read back, if each entry is: attributes, parameters and devices.
use Prim.Native.Nat.{ℕ, ◌+◌, ◌≤◌}
use mathlib.Core.Path.{◌≡◌, refl}
use mathlib.Core.List.{List, [], ◌∷◌}
use mathlib.Core.Option.{none, some}
use mathlib.Core.Bool.{true, false}
use native.Mathlib.Omega.{arith}
use lib.ListN.{length}
use Rattle.notation.specs.Tokens.{Lexeme, kind, token_of, comma}
use Rattle.notation.specs.Building.{Piece, Node, Nodes, ◌▸◌, height, tallest, Frame, frame, build, acts}
use Rattle.notation.specs.Grammar.{Symbol, row, row_of, left_out, binds}
use Rattle.notation.specs.Print.{the, Rest, printed_entries}
use Rattle.notation.proofs.Machine.{state, ◌⇒◌, ◌▹◌, take, leave}
use Rattle.notation.proofs.Steps.{Calm}
use Rattle.notation.proofs.Expected.{last_line_entries, nodes_onto}
use Rattle.rules.specs.Types.{Types}

pub nodes_taller : {A : Type 0} (f : A → Node) (xs : List A) (ks : Nodes) → tallest ks ≤ tallest (nodes_onto f xs ks)
unfolding nodes_onto height
nodes_taller f [] ks = omega arith
nodes_taller f (x ∷ xs) ks = omega (arith, nodes_taller f xs (ks ▸ f x))

abbrev pub EachOf : {A : Type 0} → (A → Type 0) → List A → Type 0
EachOf P [] = Unit {0}
EachOf P (x ∷ xs) = P x × EachOf P xs

abbrev pub Always : {A : Type 0} → A → Type 0
Always x = Unit {0}

pub always : {A : Type 0} (xs : List A) → EachOf Always xs
always [] = tt
always (x ∷ xs) = (tt, always xs)

-- p prints an entry, which ends on the line `last` and builds f; it is read at the symbol y, and z is left behind it
module _ (types : Types) {A : Type 0} (p : A → ℕ → Rest → List Lexeme) (last : A → ℕ → ℕ) (f : A → Node) (y z : Symbol) (P : A → Type 0) where
  pub record EntryBack : Type 0 where
    pub entry_back : (a : A) → P a → (v : ℕ) (x : ℕ → Lexeme) (xs : Rest) {k : List Symbol} {q t : ℕ} {h : List Piece} {ks : Nodes} {fs : List Frame} → ((u : ℕ) → Calm 1 (x u)) → length fs + height (f a) ≤ 32 →
        state types (p a v (λ u. x u ∷ xs u)) (y ∷ k) (build 0 (frame q t h ks) fs) ⇒ (state types) (x (last a v) ∷ xs (last a v)) (z ∷ k) (build 0 (frame q t h (ks ▸ f a)) fs)

  -- what is printed from further entries on begins with a comma, or with what follows them
  with_entries : (rest : List A) (Q : Rest → Type 0) (x : ℕ → Lexeme) (xs : Rest) → ((u : ℕ) → Calm 1 (x u)) → ((w : ℕ → Lexeme) (ws : Rest) → ((u : ℕ) → Calm 1 (w u)) → Q (λ u. w u ∷ ws u)) → Q (λ u. printed_entries p rest true u (λ w. x w ∷ xs w))
  unfolding printed_entries binds
  with_entries [] Q x xs calm g = g x xs calm
  with_entries (a ∷ rest) Q x xs calm g = g (λ u. the u comma) _ (λ u. tt)

  module _ (each : EntryBack) (comma-row : row_of z comma ≡ some (row [] (y ∷ []))) (out : left_out z ≡ some []) where
    -- an entry and those behind it, given that those are read back
    entry_then : (a : A) (rest : List A) → P a → (v : ℕ) (x : ℕ → Lexeme) (xs : Rest) {k : List Symbol} {q t : ℕ} {h : List Piece} {ks : Nodes} {fs : List Frame} → ((u : ℕ) → Calm 1 (x u)) → length fs + height (f a) ≤ 32 →
        state types (printed_entries p (a ∷ rest) false v (λ u. x u ∷ xs u)) (y ∷ k) (build 0 (frame q t h ks) fs)
        ⇒ (state types) (printed_entries p rest true (last a v) (λ u. x u ∷ xs u)) (z ∷ k) (build 0 (frame q t h (ks ▸ f a)) fs)
    unfolding printed_entries
    entry_then a rest good v x xs {k} {q} {t} {h} {ks} {fs} calm d =
        with_entries rest (λ r. state types (p a v r) (y ∷ k) (build 0 (frame q t h ks) fs) ⇒ (state types) (r (last a v)) (z ∷ k) (build 0 (frame q t h (ks ▸ f a)) fs)) x xs calm
        (λ w ws calm'. each.entry_back a good v w ws calm' d)

    -- entries behind the first
    pub further_back : (rest : List A) → EachOf P rest → (v : ℕ) (x : ℕ → Lexeme) (xs : Rest) {k : List Symbol} {q t : ℕ} {h : List Piece} {ks : Nodes} {fs : List Frame} →
        ((u : ℕ) → Calm 1 (x u)) → ((u : ℕ) → row_of z (kind (token_of (x u))) ≡ none) → length fs + tallest (nodes_onto f rest ks) ≤ 32 →
        state types (printed_entries p rest true v (λ u. x u ∷ xs u)) (z ∷ k) (build 0 (frame q t h ks) fs)
        ⇒ (state types) (x (last_line_entries last rest v) ∷ xs (last_line_entries last rest v)) k (build 0 (frame q t h (nodes_onto f rest ks)) fs)
    unfolding printed_entries last_line_entries nodes_onto height acts
    further_back [] good v x xs calm stop d = leave types (stop v) out refl
    further_back (a ∷ rest) good v x xs {ks = ks} calm stop d =
        let taller = nodes_taller f rest (ks ▸ f a) in
        take types comma-row refl ▹ entry_then a rest good.0 v x xs calm (omega arith) ▹ further_back rest good.1 _ x xs calm stop d

    -- all entries, of which there is one
    pub entries_back : (a : A) (rest : List A) → P a → EachOf P rest → (v : ℕ) (x : ℕ → Lexeme) (xs : Rest) {k : List Symbol} {q t : ℕ} {h : List Piece} {ks : Nodes} {fs : List Frame} →
        ((u : ℕ) → Calm 1 (x u)) → ((u : ℕ) → row_of z (kind (token_of (x u))) ≡ none) → length fs + tallest (nodes_onto f (a ∷ rest) ks) ≤ 32 →
        state types (printed_entries p (a ∷ rest) false v (λ u. x u ∷ xs u)) (y ∷ k) (build 0 (frame q t h ks) fs)
        ⇒ (state types) (x (last_line_entries last (a ∷ rest) v) ∷ xs (last_line_entries last (a ∷ rest) v)) k (build 0 (frame q t h (nodes_onto f (a ∷ rest) ks)) fs)
    unfolding last_line_entries nodes_onto height
    entries_back a rest good all v x xs {ks = ks} calm stop d =
        let taller = nodes_taller f rest (ks ▸ f a) in
        entry_then a rest good v x xs calm (omega arith) ▹ further_back rest all _ x xs calm stop d
