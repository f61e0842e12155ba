-- Where tokens stand does not matter to what they build, but for the places in it: reading tokens without their places builds the tree without its places.
use Prim.Native.Nat.{ℕ, zero, suc, ◌+◌, max}
use mathlib.Core.Path.{◌≡◌, refl, ap, ap₂, ◌∙◌}
use mathlib.Core.List.{List, [], ◌∷◌, ◌++◌}
use mathlib.Core.Option.{Option, none, some}
use mathlib.Core.Bool.{Bool, true, false}
use lib.Dec.{leb, ltb}
use lib.ListN.{length}
use Rattle.rules.specs.Bytes.{pick}
use Rattle.rules.specs.Types.{Types}
use Rattle.notation.specs.Tokens.{word, number, text, variable, top_variable, class_variable, mark, Lexeme, lexeme, kind, token_of}
use Rattle.notation.specs.Building.{Piece, Node, node, Nodes, empty, ◌▸◌, height, tallest, Frame, frame, Build, build, Action, begin, begin_resource, around, instead, close, constant, read, named, parent_first, void, enter, leave, constant_node, variable_node, resource_tag, spelled, leaf, fitting, added, in_front, added_first, begun, act, acts, start}
use Rattle.notation.specs.Grammar.{Symbol, Row, row, row_of, left_out, Stepped, stuck, to, toward, step, Ended, built, fault, run, manifest, reading}

-- a token without its place
abbrev pub bare : Lexeme → Lexeme
bare (lexeme p l t) = lexeme 0 l t

abbrev pub bares : List Lexeme → List Lexeme
bares [] = []
bares (x ∷ xs) = bare x ∷ bares xs

unfoldable mutual
  pub unplaced : Node → Node
  unplaced (node p t h ks) = node 0 t h (unplaced_all ks)

  pub unplaced_all : Nodes → Nodes
  unplaced_all empty = empty
  unplaced_all (ks ▸ k) = unplaced_all ks ▸ unplaced k

unfoldable pub unplaced_frame : Frame → Frame
unplaced_frame (frame p t h ks) = frame 0 t h (unplaced_all ks)

unfoldable pub unplaced_frames : List Frame → List Frame
unplaced_frames [] = []
unplaced_frames (f ∷ fs) = unplaced_frame f ∷ unplaced_frames fs

unfoldable pub unplaced_build : Build → Build
unplaced_build (build b f fs) = build b (unplaced_frame f) (unplaced_frames fs)

abbrev unplaced_option : Option Build → Option Build
unplaced_option none = none
unplaced_option (some f) = some (unplaced_build f)

-- ---- Sizes stay

mutual
  unfolding height unplaced

  height_same : (k : Node) → height (unplaced k) ≡ height k
  height_same (node p t h ks) = ap suc (tallest_same ks)

  tallest_same : (ks : Nodes) → tallest (unplaced_all ks) ≡ tallest ks
  tallest_same empty = refl
  tallest_same (ks ▸ k) = ap₂ (λ (a b : ℕ). max a b) (tallest_same ks) (height_same k)

frames_same : (fs : List Frame) → length (unplaced_frames fs) ≡ length fs
unfolding unplaced_frames
frames_same [] = refl
frames_same (f ∷ fs) = ap suc (frames_same fs)

-- ---- Actions

fitting_same : (n h : ℕ) (f : Build) → fitting n h (unplaced_build f) ≡ unplaced_option (fitting n h f)
fitting_same n h f = go (leb (n + h) 32)
  where
    go : (b : Bool) → pick b (some (unplaced_build f)) none ≡ unplaced_option (pick b (some f) none)
    go true = refl
    go false = refl

begun_same : (p t : ℕ) (f : Build) → begun 0 t (unplaced_build f) ≡ unplaced_option (begun p t f)
unfolding begun unplaced_build unplaced_frames unplaced_frame unplaced
begun_same p t (build b f fs) = rw (frames_same fs) (fitting_same (length fs) 1 (build b (frame p t [] empty) (f ∷ fs)))

added_same : (k : Node) (f : Build) → added (unplaced k) (unplaced_build f) ≡ unplaced_option (added k f)
unfolding added unplaced_build unplaced_frame unplaced
added_same k (build b (frame q u g ks) fs) = rw (frames_same fs) (fitting_same (length fs) 1 (build b (frame q u g (ks ▸ k)) fs))

in_front_same : (k : Node) (ks : Nodes) → in_front (unplaced k) (unplaced_all ks) ≡ unplaced_all (in_front k ks)
unfolding in_front unplaced
in_front_same k empty = refl
in_front_same k (ks ▸ j) = ap (λ (js : Nodes). js ▸ unplaced j) (in_front_same k ks)

added_first_same : (k : Node) (f : Build) → added_first (unplaced k) (unplaced_build f) ≡ unplaced_option (added_first k f)
unfolding added_first unplaced_build unplaced_frame
added_first_same k (build b (frame q u g ks) fs) = rw (frames_same fs, in_front_same k ks) (fitting_same (length fs) 1 (build b (frame q u g (in_front k ks)) fs))

constant_same : (x : Lexeme) → constant_node (bare x) ≡ unplaced (constant_node x)
unfolding constant_node unplaced
constant_same (lexeme p l (word w)) = refl
constant_same (lexeme p l (number z)) = refl
constant_same (lexeme p l (text s)) = refl
constant_same (lexeme p l (variable n)) = refl
constant_same (lexeme p l (top_variable n)) = refl
constant_same (lexeme p l (class_variable c n)) = refl
constant_same (lexeme p l (mark k)) = refl

variable_same : (x : Lexeme) → variable_node (bare x) ≡ unplaced (variable_node x)
unfolding variable_node unplaced
variable_same (lexeme p l (word w)) = refl
variable_same (lexeme p l (number z)) = refl
variable_same (lexeme p l (text s)) = refl
variable_same (lexeme p l (variable n)) = refl
variable_same (lexeme p l (top_variable n)) = refl
variable_same (lexeme p l (class_variable c n)) = refl
variable_same (lexeme p l (mark k)) = refl

act_same : (types : Types) (d : Action) (x : Lexeme) (f : Build) → act types d (bare x) (unplaced_build f) ≡ unplaced_option (act types d x f)
unfolding act unplaced_build unplaced_frames unplaced_frame unplaced
act_same types (begin t) (lexeme p l u) f = begun_same p t f
act_same types begin_resource (lexeme p l u) f = begun_same p (resource_tag types (spelled u)) f
act_same types (around t h) (lexeme p l u) (build b (frame q v g empty) fs) = refl
act_same types (around t h) (lexeme p l u) (build b (frame q v g (ks ▸ k)) fs) = rw (frames_same fs, height_same k) (fitting_same (suc (length fs)) (height k) (build b (frame p t h (empty ▸ k)) (frame q v g ks ∷ fs)))
act_same types (instead t) x (build b (frame q v g empty) fs) = refl
act_same types (instead t) x (build b (frame q v g (ks ▸ node r w h js)) fs) = refl
act_same types close x (build b (frame q v g ks) []) = refl
act_same types close x (build b (frame q v g ks) (frame r w h js ∷ fs)) = refl
act_same types constant x f = ap (λ (k : Node). added k (unplaced_build f)) (constant_same x) ∙ added_same (constant_node x) f
act_same types read x f = ap (λ (k : Node). added k (unplaced_build f)) (variable_same x) ∙ added_same (variable_node x) f
act_same types named (lexeme p l u) (build b (frame q v g ks) fs) = refl
act_same types parent_first (lexeme p l u) f = added_first_same (leaf p 0x35 (Piece.name (spelled u) ∷ [])) f
act_same types (void t) (lexeme p l u) f = added_same (leaf p t []) f
act_same types enter x (build b f fs) = go (ltb b 32)
  where
    go : (o : Bool) → ◌≡◌ {A = Option Build} (pick o (some (build (suc b) (unplaced_frame f) (unplaced_frames fs))) none) (unplaced_option (pick o (some (build (suc b) f fs)) none))
    go true = refl
    go false = refl
act_same types leave x (build zero f fs) = refl
act_same types leave x (build (suc b) f fs) = refl

acts_same : (types : Types) (ds : List Action) (x : Lexeme) (f : Build) → acts types ds (bare x) (unplaced_build f) ≡ unplaced_option (acts types ds x f)
unfolding acts
acts_same types [] x f = refl
acts_same types (d ∷ ds) x f = rw (acts, act_same types d x f) (go (acts_same types ds x) (act types d x f))
  where
    go : ((g : Build) → acts types ds (bare x) (unplaced_build g) ≡ unplaced_option (acts types ds x g)) → (o : Option Build) →
        ◌≡◌ {A = Option Build} (elim (unplaced_option o) as (λ o. Option Build) [ none ↦ none | some g ↦ acts types ds (bare x) g ]) (unplaced_option (elim o as (λ o. Option Build) [ none ↦ none | some g ↦ acts types ds x g ]))
    go later none = refl
    go later (some g) = later g

-- ---- Steps

abbrev unplaced_stepped : Stepped → Stepped
unplaced_stepped stuck = stuck
unplaced_stepped (to k f) = to k (unplaced_build f)

kind_same : (x : Lexeme) → kind (token_of (bare x)) ≡ kind (token_of x)
kind_same (lexeme p l t) = refl

step_same : (types : Types) (k : List Symbol) (x : Lexeme) (f : Build) → step types k (bare x) (unplaced_build f) ≡ unplaced_stepped (step types k x f)
unfolding step
step_same types [] x f = refl
step_same types (s ∷ k) x f = rw (step, kind_same x) (go (λ g. step_same types k x g) (row_of s (kind (token_of x))))
  where
    taken : (ss : List Symbol) (o : Option Build) → toward (ss ++ k) (unplaced_option o) ≡ unplaced_stepped (toward (ss ++ k) o)
    taken ss none = refl
    taken ss (some g) = refl

    left : ((g : Build) → step types k (bare x) (unplaced_build g) ≡ unplaced_stepped (step types k x g)) → (o : Option Build) →
        ◌≡◌ {A = Stepped} (elim (unplaced_option o) as (λ o. Stepped) [ none ↦ stuck | some g ↦ step types k (bare x) g ]) (unplaced_stepped (elim o as (λ o. Stepped) [ none ↦ stuck | some g ↦ step types k x g ]))
    left later none = refl
    left later (some g) = later g

    out : ((g : Build) → step types k (bare x) (unplaced_build g) ≡ unplaced_stepped (step types k x g)) → (o : Option (List Action)) →
        ◌≡◌ {A = Stepped} (elim o as (λ o. Stepped) [ none ↦ stuck | some ds ↦ elim (acts types ds (bare x) (unplaced_build f)) as (λ o. Stepped) [ none ↦ stuck | some g ↦ step types k (bare x) g ] ]) (unplaced_stepped (elim o as (λ o. Stepped) [ none ↦ stuck | some ds ↦ elim (acts types ds x f) as (λ o. Stepped) [ none ↦ stuck | some g ↦ step types k x g ] ]))
    out later none = refl
    out later (some ds) = rw (acts_same types ds x f) (left later (acts types ds x f))

    go : ((g : Build) → step types k (bare x) (unplaced_build g) ≡ unplaced_stepped (step types k x g)) → (o : Option Row) →
        ◌≡◌ {A = Stepped} (elim o as (λ o. Stepped) [ some r ↦ elim r as (λ o. Stepped) [ row ds ss ↦ toward (ss ++ k) (acts types ds (bare x) (unplaced_build f)) ] | none ↦ elim (left_out s) as (λ o. Stepped) [ none ↦ stuck | some ds ↦ elim (acts types ds (bare x) (unplaced_build f)) as (λ o. Stepped) [ none ↦ stuck | some g ↦ step types k (bare x) g ] ] ])
        (unplaced_stepped (elim o as (λ o. Stepped) [ some r ↦ elim r as (λ o. Stepped) [ row ds ss ↦ toward (ss ++ k) (acts types ds x f) ] | none ↦ elim (left_out s) as (λ o. Stepped) [ none ↦ stuck | some ds ↦ elim (acts types ds x f) as (λ o. Stepped) [ none ↦ stuck | some g ↦ step types k x g ] ] ]))
    go later none = out later (left_out s)
    go later (some (row ds ss)) = rw (acts_same types ds x f) (taken ss (acts types ds x f))

-- ---- Runs

unfoldable pub unplaced_ended : Ended → Ended
unplaced_ended (built f) = built (unplaced_build f)
unplaced_ended (fault p) = fault 0

run_same : (types : Types) (xs : List Lexeme) (k : List Symbol) (f : Build) → run types (bares xs) k (unplaced_build f) ≡ unplaced_ended (run types xs k f)
unfolding run unplaced_ended
run_same types [] [] f = refl
run_same types [] (s ∷ k) f = refl
run_same types (lexeme p l t ∷ xs) k f = rw (run, step_same types k (lexeme p l t) f) (go (run_same types xs) (step types k (lexeme p l t) f))
  where
    go : ((k : List Symbol) (f : Build) → run types (bares xs) k (unplaced_build f) ≡ unplaced_ended (run types xs k f)) → (o : Stepped) →
        ◌≡◌ {A = Ended} (elim (unplaced_stepped o) as (λ o. Ended) [ stuck ↦ fault 0 | to k' g ↦ run types (bares xs) k' g ]) (unplaced_ended (elim o as (λ o. Ended) [ stuck ↦ fault p | to k' g ↦ run types xs k' g ]))
    go later stuck = refl
    go later (to k' g) = later k' g

pub reading_same : (types : Types) (xs : List Lexeme) → reading types (bares xs) ≡ unplaced_ended (reading types xs)
unfolding reading unplaced_build unplaced_frames unplaced_frame unplaced
reading_same types xs = run_same types xs manifest start
