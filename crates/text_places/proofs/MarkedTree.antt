-- What each action does to the marks of a tree in the making. Assumes nothing.
use mathlib.Core.Path.{◌≡◌, refl, sym, ap, ◌∙◌, subst}
use mathlib.Core.Bool.{Bool, true, false, ◌&&◌}
use mathlib.Core.List.{List, [], ◌∷◌, ◌++◌, append_assoc, append-nil}
use mathlib.Core.Option.{Option, none, some}
use Prim.Native.Nat.{ℕ, zero, suc, ◌+◌, ◌≤◌}
use native.Mathlib.Omega.{arith}
use lib.Dec.{leb, ltb}
use lib.ListN.{length, length-append}
use Rattle.wire.specs.Bytes.{pick, byte as at}
use Rattle.rules.proofs.Lists.{both_left, both_right}
use Rattle.rules.proofs.Within.{false_not_true}
use Rattle.rules.specs.Types.{Types}
use Rattle.notation.specs.Tokens.{Lexeme, lexeme, word, number, text, variable, top_variable, class_variable, mark, token_of, place_of}
use Rattle.notation.specs.Building.{Piece, byte, name, Node, node, Nodes, empty, ◌▸◌, leaf, height, Frame, frame, Build, build, Action, begin, begin_resource, around, instead, close, constant, read, named, parent_first, void, enter, leave, act, acts, added, added_first, begun, in_front, constant_node, variable_node, spelled, resource_tag}
use Rattle.notation.proofs.NeedsKept.{none_not_some, same_result}
use Rattle.text_places.specs.Marks.{head_marks, node_marks, part_marks, opening_marks, around_marks, front_marks, open_marks, tree_marks, start_of, body_of, size_of}
use Rattle.text_places.proofs.Inserting.{Only, header_first, Inserted, Appended, Shortened, nothing_came, appended_both}

-- ---- Heads

head_zero : (h : List Piece) (i : ℕ) → at (head_marks h) i ≡ 0
unfolding head_marks
head_zero [] i = refl
head_zero (byte b ∷ h) zero = refl
head_zero (byte b ∷ h) (suc i) = head_zero h i
head_zero (name s ∷ h) zero = refl
head_zero (name s ∷ h) (suc zero) = refl
head_zero (name s ∷ h) (suc (suc i)) = head_zero h i

head_append : (h g : List Piece) → head_marks (h ++ g) ≡ head_marks h ++ head_marks g
unfolding head_marks
head_append [] g = refl
head_append (byte b ∷ h) g = ap (λ (l : List ℕ). 0 ∷ l) (head_append h g)
head_append (name s ∷ h) g = ap (λ (l : List ℕ). 0 ∷ 0 ∷ l) (head_append h g)

-- a header and a head: one field begins
header_only : (p : ℕ) (h : List Piece) → Only p (suc p ∷ 0 ∷ 0 ∷ head_marks h)
header_only p h = header_first p (head_marks h) (record { only = λ i q e. absurd (omega (arith, e, head_zero h i)) })

name_only : (p : ℕ) → Only p (0 ∷ 0 ∷ [])
unfolding head_marks
name_only p = record { only = λ i q e. absurd (omega (arith, e, head_zero (name [] ∷ []) i)) }

-- a field has a header
pub node_wide : (k : Node) → 3 ≤ length (node_marks k)
unfolding node_marks
node_wide (node p t h ks) = omega arith

leaf_only : (p t : ℕ) (h : List Piece) → Only p (node_marks (leaf p t h))
unfolding node_marks
leaf_only p t h = subst (Only p) (ap (λ (l : List ℕ). suc p ∷ 0 ∷ 0 ∷ l) (sym (append-nil (head_marks h)))) (header_only p h)

-- ---- The marks of open fields

parts_front : (k : Node) (ks : Nodes) → part_marks (in_front k ks) ≡ node_marks k ++ part_marks ks
unfolding in_front part_marks
parts_front k empty = sym (append-nil (node_marks k))
parts_front k (ks ▸ j) = ap (λ (l : List ℕ). l ++ node_marks j) (parts_front k ks) ∙ append_assoc (node_marks k) (part_marks ks) (node_marks j)

module _ (q : ℕ) (g : List Piece) (js : Nodes) (fs : List Frame) where
  more_marks : (k : Node) → open_marks q g (js ▸ k) fs ≡ open_marks q g js fs ++ node_marks k
  unfolding open_marks part_marks
  more_marks k = sym (append_assoc (front_marks q g fs) (part_marks js) (node_marks k))

  front_marks_lem : (k : Node) → open_marks q g (in_front k js) fs ≡ front_marks q g fs ++ (node_marks k ++ part_marks js)
  unfolding open_marks
  front_marks_lem k = ap (λ (l : List ℕ). front_marks q g fs ++ l) (parts_front k js)

  named_marks : (w : List ℕ) → open_marks q (g ++ (name w ∷ [])) js fs ≡ front_marks q g fs ++ ((0 ∷ 0 ∷ []) ++ part_marks js)
  unfolding open_marks front_marks head_marks
  named_marks w =
      let front : List ℕ = around_marks fs ++ opening_marks q fs in
      ap (λ (l : List ℕ). (front ++ l) ++ part_marks js) (head_append g (name w ∷ []))
      ∙ ap (λ (l : List ℕ). l ++ part_marks js) (sym (append_assoc front (head_marks g) (0 ∷ 0 ∷ [])))
      ∙ append_assoc (front ++ head_marks g) (0 ∷ 0 ∷ []) (part_marks js)

  -- a field in another
  inner_marks : (u p : ℕ) (h : List Piece) (ks : Nodes) → open_marks p h ks (frame q u g js ∷ fs) ≡ open_marks q g js fs ++ (suc p ∷ 0 ∷ 0 ∷ (head_marks h ++ part_marks ks))
  unfolding open_marks front_marks around_marks opening_marks
  inner_marks u p h ks =
      let whole : List ℕ = open_marks q g js fs in
      ap (λ (l : List ℕ). l ++ part_marks ks) (append_assoc whole (suc p ∷ 0 ∷ 0 ∷ []) (head_marks h))
      ∙ append_assoc whole (suc p ∷ 0 ∷ 0 ∷ head_marks h) (part_marks ks)

  -- that field ends
  end_marks : (u p t : ℕ) (h : List Piece) (ks : Nodes) → open_marks q g (js ▸ node p t h ks) fs ≡ open_marks p h ks (frame q u g js ∷ fs)
  unfolding node_marks
  end_marks u p t h ks = more_marks (node p t h ks) ∙ sym (inner_marks u p h ks)

-- ---- Actions that append

-- whether an action only appends; a name does where the field being read has no part
abbrev pub appends_one : (fresh : Bool) → Action → Bool
appends_one b (begin t) = true
appends_one b begin_resource = true
appends_one b (around t h) = false
appends_one b (instead t) = false
appends_one b close = true
appends_one b constant = true
appends_one b read = true
appends_one b named = b
appends_one b parent_first = false
appends_one b (void t) = true
appends_one b enter = true
appends_one b leave = true

-- whether the field being read has no part behind it
abbrev pub fresh_behind : (fresh : Bool) → Action → Bool
fresh_behind b (begin t) = true
fresh_behind b begin_resource = true
fresh_behind b (around t h) = false
fresh_behind b (instead t) = false
fresh_behind b close = false
fresh_behind b constant = false
fresh_behind b read = false
fresh_behind b named = b
fresh_behind b parent_first = false
fresh_behind b (void t) = false
fresh_behind b enter = b
fresh_behind b leave = b

abbrev pub appends : (fresh : Bool) → List Action → Bool
appends b [] = true
appends b (a ∷ ds) = appends_one b a && appends (fresh_behind b a) ds

abbrev Fresh : Build → Type 0
Fresh (build b (frame p t h ks) fs) = ks ≡ empty

-- the last part is a constant of two pieces, as a string is
pub record LastLeaf (parts : Nodes) : Type 0 where
  pub kept : Nodes
  pub place : ℕ
  pub tag : ℕ
  pub line : ℕ
  pub piece : Piece
  pub is : parts ≡ kept ▸ leaf place tag (byte line ∷ piece ∷ [])

abbrev pub EndsInLeaf : Build → Type 0
EndsInLeaf (build b (frame p t h ks) fs) = LastLeaf ks

module _ (x : Lexeme) where
  -- a field of the token alone
  record Own (k : Node) : Type 0 where
    tag : ℕ
    head : List Piece
    is : k ≡ leaf (place_of x) tag head

  pub record Grown (f : Build) (fresh : Bool) (g : Build) : Type 0 where
    pub more : Appended (place_of x) (tree_marks f) (tree_marks g)
    pub new : fresh ≡ true → Fresh g

own_constant : (x : Lexeme) → Own x (constant_node x)
unfolding constant_node
own_constant (lexeme p l (word w)) = record { tag = _; head = _; is = refl }
own_constant (lexeme p l (number z)) = record { tag = _; head = _; is = refl }
own_constant (lexeme p l (text s)) = record { tag = _; head = _; is = refl }
own_constant (lexeme p l (variable n)) = record { tag = _; head = _; is = refl }
own_constant (lexeme p l (top_variable n)) = record { tag = _; head = _; is = refl }
own_constant (lexeme p l (class_variable c n)) = record { tag = _; head = _; is = refl }
own_constant (lexeme p l (mark k)) = record { tag = _; head = _; is = refl }

own_variable : (x : Lexeme) → Own x (variable_node x)
unfolding variable_node
own_variable (lexeme p l (word w)) = record { tag = _; head = _; is = refl }
own_variable (lexeme p l (number z)) = record { tag = _; head = _; is = refl }
own_variable (lexeme p l (text s)) = record { tag = _; head = _; is = refl }
own_variable (lexeme p l (variable n)) = record { tag = _; head = _; is = refl }
own_variable (lexeme p l (top_variable n)) = record { tag = _; head = _; is = refl }
own_variable (lexeme p l (class_variable c n)) = record { tag = _; head = _; is = refl }
own_variable (lexeme p l (mark k)) = record { tag = _; head = _; is = refl }

-- what fits is what was to be fitted
pub fitted : (P : Build → Type 0) (c : Bool) (f g : Build) → P f → ◌≡◌ {A = Option Build} (pick c (some f) none) (some g) → P g
fitted P true f g h e = subst P (same_result f g e) h
fitted P false f g h e = none_not_some e

module _ (types : Types) (x : Lexeme) where
  -- a field of the token comes last
  own_added : (k : Node) (b q u : ℕ) (g : List Piece) (ks : Nodes) (fs : List Frame) → Own x k → Grown x (build b (frame q u g ks) fs) false (build b (frame q u g (ks ▸ k)) fs)
  unfolding tree_marks
  own_added k b q u g ks fs o =
      record {
        more = record { come = node_marks k; after = more_marks q g ks fs k; whose = subst (λ (j : Node). Only (place_of x) (node_marks j)) (sym o.is) (leaf_only (place_of x) o.tag o.head); not_one = λ z. omega (arith, z, node_wide k) };
        new = λ e. false_not_true e;
      }

  -- a field begins
  own_begun : (t b q u : ℕ) (g : List Piece) (ks : Nodes) (fs : List Frame) → Grown x (build b (frame q u g ks) fs) true (build b (frame (place_of x) t [] empty) (frame q u g ks ∷ fs))
  unfolding tree_marks head_marks part_marks
  own_begun t b q u g ks fs =
      record {
        more = record { come = suc (place_of x) ∷ 0 ∷ 0 ∷ []; after = inner_marks q g ks fs u (place_of x) [] empty; whose = header_only (place_of x) []; not_one = λ z. omega arith };
        new = λ e. refl;
      }

  -- a name of a field that has no part
  named_last : (i : List Piece) (q : ℕ) (fs : List Frame) → Appended (place_of x) (open_marks q i empty fs) (open_marks q (i ++ (name (spelled (token_of x)) ∷ [])) empty fs)
  unfolding open_marks part_marks
  named_last i q fs =
      record {
        come = 0 ∷ 0 ∷ [];
        after = named_marks q i empty fs (spelled (token_of x)) ∙ ap (λ (l : List ℕ). l ++ (0 ∷ 0 ∷ [])) (sym (append-nil (front_marks q i fs)));
        whose = name_only (place_of x);
        not_one = λ z. omega arith;
      }

  act_grown : (a : Action) (f g : Build) (fresh : Bool) → appends_one fresh a ≡ true → (fresh ≡ true → Fresh f) → act types a x f ≡ some g → Grown x f (fresh_behind fresh a) g
  unfolding act begun added tree_marks
  act_grown (begin t) (build b (frame q u i ks) fs) g fresh h new e = fitted (Grown x _ true) (leb (length fs + 1) 32) _ g (own_begun t b q u i ks fs) e
  act_grown begin_resource (build b (frame q u i ks) fs) g fresh h new e = fitted (Grown x _ true) (leb (length fs + 1) 32) _ g (own_begun (resource_tag types (spelled (token_of x))) b q u i ks fs) e
  act_grown (around t h) f g fresh i new e = false_not_true i
  act_grown (instead t) f g fresh i new e = false_not_true i
  act_grown close (build b (frame q u i ks) []) g fresh h new e = none_not_some e
  act_grown close (build b (frame p t h ks) (frame q u i js ∷ fs)) g fresh j new e =
      subst (Grown x _ false) (same_result _ g e) (record { more = subst (Appended (place_of x) _) (sym (end_marks q i js fs u p t h ks)) (nothing_came (place_of x) (open_marks p h ks (frame q u i js ∷ fs))); new = λ z. false_not_true z })
  act_grown constant (build b (frame q u i ks) fs) g fresh h new e = fitted (Grown x _ false) (leb (length fs + 1) 32) _ g (own_added (constant_node x) b q u i ks fs (own_constant x)) e
  act_grown read (build b (frame q u i ks) fs) g fresh h new e = fitted (Grown x _ false) (leb (length fs + 1) 32) _ g (own_added (variable_node x) b q u i ks fs (own_variable x)) e
  act_grown named (build b (frame q u i ks) fs) g true h new e =
      let none_yet : ks ≡ empty = new refl in
      subst (Grown x _ true) (same_result _ g e) (record { more = subst (λ (js : Nodes). Appended (place_of x) (open_marks q i js fs) (open_marks q (i ++ (name (spelled (token_of x)) ∷ [])) js fs)) (sym none_yet) (named_last i q fs); new = λ z. none_yet })
  act_grown named (build b (frame q u i ks) fs) g false h new e = false_not_true h
  act_grown parent_first f g fresh h new e = false_not_true h
  act_grown (void t) (build b (frame q u i ks) fs) g fresh h new e = fitted (Grown x _ false) (leb (length fs + 1) 32) _ g (own_added (leaf (place_of x) t []) b q u i ks fs (record { tag = t; head = []; is = refl })) e
  act_grown enter (build b (frame q u i ks) fs) g fresh h new e = fitted (Grown x _ fresh) (ltb b 32) _ g (record { more = nothing_came (place_of x) (open_marks q i ks fs); new = new }) e
  act_grown leave (build zero (frame q u i ks) fs) g fresh h new e = none_not_some e
  act_grown leave (build (suc b) (frame q u i ks) fs) g fresh h new e = subst (Grown x _ fresh) (same_result _ g e) (record { more = nothing_came (place_of x) (open_marks q i ks fs); new = new })

  pub acts_grown : (ds : List Action) (f g : Build) (fresh : Bool) → appends fresh ds ≡ true → (fresh ≡ true → Fresh f) → acts types ds x f ≡ some g → Appended (place_of x) (tree_marks f) (tree_marks g)
  unfolding acts
  acts_grown [] f g fresh h new e = subst (λ (i : Build). Appended (place_of x) (tree_marks f) (tree_marks i)) (same_result f g e) (nothing_came (place_of x) (tree_marks f))
  acts_grown (a ∷ ds) f g fresh h new e =
      go (act types a x f) refl (λ i first. acts_grown ds i g (fresh_behind fresh a) (both_right (appends_one fresh a) (appends (fresh_behind fresh a) ds) h) first.new) e
    where
      go : (o : Option Build) → act types a x f ≡ o → ((i : Build) → Grown x f (fresh_behind fresh a) i → acts types ds x i ≡ some g → Appended (place_of x) (tree_marks i) (tree_marks g)) → ◌≡◌ {A = Option Build} (elim o as (λ o. Option Build) [ none ↦ none | some i ↦ acts types ds x i ]) (some g) → Appended (place_of x) (tree_marks f) (tree_marks g)
      go none i others j = none_not_some j
      go (some k) i others j =
          let first = act_grown a f k fresh (both_left (appends_one fresh a) (appends (fresh_behind fresh a) ds) h) new i in
          appended_both first.more (others k first j)

  -- a constant has a header
  pub constant_wide : (f g : Build) → act types constant x f ≡ some g → size_of f + 3 ≤ size_of g
  unfolding act added tree_marks size_of
  constant_wide (build b (frame q u i ks) fs) g e =
      fitted (λ (j : Build). size_of (build b (frame q u i ks) fs) + 3 ≤ size_of j) (leb (length fs + 1) 32) (build b (frame q u i (ks ▸ constant_node x)) fs) g
      (omega (arith, ap length (more_marks q i ks fs (constant_node x)), length-append (open_marks q i ks fs) (node_marks (constant_node x)), node_wide (constant_node x))) e

  -- a field that ends moves nothing
  pub closed_same : (f g : Build) → acts types (close ∷ []) x f ≡ some g → tree_marks g ≡ tree_marks f
  unfolding acts act tree_marks
  closed_same (build b (frame p t h ks) []) g e = none_not_some e
  closed_same (build b (frame p t h ks) (frame q u i js ∷ fs)) g e = ap tree_marks (sym (same_result _ g e)) ∙ end_marks q i js fs u p t h ks

  -- ---- Those that do not

  -- a name comes before the parts
  pub named_inserts : (f g : Build) → act types named x f ≡ some g → Inserted (body_of f) (place_of x) (tree_marks f) (tree_marks g)
  unfolding act tree_marks body_of
  named_inserts (build b (frame q u i ks) fs) g e =
      subst (λ (j : Build). Inserted (body_of (build b (frame q u i ks) fs)) (place_of x) (tree_marks (build b (frame q u i ks) fs)) (tree_marks j)) (same_result _ g e)
      (record { front = front_marks q i fs; come = 0 ∷ 0 ∷ []; behind = part_marks ks; before = unfold open_marks in refl; after = named_marks q i ks fs (spelled (token_of x)); offset = refl; whose = name_only (place_of x); not_one = λ z. omega arith })

  -- so does a parent
  pub parent_inserts : (f g : Build) → act types parent_first x f ≡ some g → Inserted (body_of f) (place_of x) (tree_marks f) (tree_marks g)
  unfolding act added_first tree_marks body_of
  parent_inserts (build b (frame q u i ks) fs) g e =
      let parent : Node = leaf (place_of x) 0x35 (name (spelled (token_of x)) ∷ []) in
      fitted (λ (j : Build). Inserted (body_of (build b (frame q u i ks) fs)) (place_of x) (tree_marks (build b (frame q u i ks) fs)) (tree_marks j)) (leb (length fs + 1) 32) (build b (frame q u i (in_front parent ks)) fs) g
      (record { front = front_marks q i fs; come = node_marks parent; behind = part_marks ks; before = unfold open_marks in refl; after = front_marks_lem q i ks fs parent; offset = refl; whose = leaf_only (place_of x) 0x35 (name (spelled (token_of x)) ∷ []); not_one = λ z. omega (arith, z, node_wide parent) }) e

  -- an operator comes before the last part
  pub around_inserts : (t : ℕ) (h : List Piece) (f g : Build) → act types (around t h) x f ≡ some g → Inserted (start_of g) (place_of x) (tree_marks f) (tree_marks g)
  unfolding act tree_marks start_of part_marks
  around_inserts t h (build b (frame q u i empty) fs) g e = none_not_some e
  around_inserts t h (build b (frame q u i (ks ▸ k)) fs) g e =
      fitted (λ (j : Build). Inserted (start_of j) (place_of x) (tree_marks (build b (frame q u i (ks ▸ k)) fs)) (tree_marks j)) (leb (suc (length fs) + height k) 32) (build b (frame (place_of x) t h (empty ▸ k)) (frame q u i ks ∷ fs)) g
      (record {
        front = open_marks q i ks fs;
        come = suc (place_of x) ∷ 0 ∷ 0 ∷ head_marks h;
        behind = node_marks k;
        before = more_marks q i ks fs k;
        after = inner_marks q i ks fs u (place_of x) h (empty ▸ k);
        offset = unfold around_marks open_marks front_marks in refl;
        whose = header_only (place_of x) h;
        not_one = λ z. omega arith;
      }) e

  -- a name comes in the place of a constant of two pieces, of which the first is a byte: that byte goes
  instead_leaf : (t b q u : ℕ) (i : List Piece) (kept : Nodes) (p v l : ℕ) (y : Piece) (fs : List Frame) (g : Build) → act types (instead t) x (build b (frame q u i (kept ▸ leaf p v (byte l ∷ y ∷ []))) fs) ≡ some g
      → Shortened 1 (tree_marks (build b (frame q u i (kept ▸ leaf p v (byte l ∷ y ∷ []))) fs)) (tree_marks g)
  unfolding act tree_marks node_marks head_marks part_marks
  instead_leaf t b q u i kept p v l y fs g e =
      subst (λ (j : Build). Shortened 1 (tree_marks (build b (frame q u i (kept ▸ leaf p v (byte l ∷ y ∷ []))) fs)) (tree_marks j)) (same_result (build b (frame p t (y ∷ []) empty) (frame q u i kept ∷ fs)) g e)
      (record { gone = 0 ∷ []; before = more_marks q i kept fs (leaf p v (byte l ∷ y ∷ [])) ∙ go y ∙ ap (λ (ms : List ℕ). ms ++ (0 ∷ [])) (sym (inner_marks q i kept fs u p (y ∷ []) empty)); few = omega arith })
    where
      go : (z : Piece) → open_marks q i kept fs ++ node_marks (leaf p v (byte l ∷ z ∷ [])) ≡ (open_marks q i kept fs ++ (suc p ∷ 0 ∷ 0 ∷ (head_marks (z ∷ []) ++ []))) ++ (0 ∷ [])
      go (byte c) = sym (append_assoc (open_marks q i kept fs) (suc p ∷ 0 ∷ 0 ∷ 0 ∷ []) (0 ∷ []))
      go (name s) = sym (append_assoc (open_marks q i kept fs) (suc p ∷ 0 ∷ 0 ∷ 0 ∷ 0 ∷ []) (0 ∷ []))

  pub instead_shortens : (t : ℕ) (f g : Build) → EndsInLeaf f → act types (instead t) x f ≡ some g → Shortened 1 (tree_marks f) (tree_marks g)
  instead_shortens t (build b (frame q u i ks) fs) g w e =
      subst (λ (js : Nodes). act types (instead t) x (build b (frame q u i js) fs) ≡ some g → Shortened 1 (tree_marks (build b (frame q u i js) fs)) (tree_marks g)) (sym w.is)
      (instead_leaf t b q u i w.kept w.place w.tag w.line w.piece fs g) e
