-- The log of a text leads from the fields of its items, and is not long. Assumes nothing.
use mathlib.Core.Path.{◌≡◌, refl, sym, ap, ◌∙◌, subst}
use mathlib.Core.List.{List, [], ◌∷◌}
use mathlib.Core.Option.{Option, none, some}
use Prim.Native.Nat.{ℕ, ◌+◌, ◌*◌, ◌≤◌}
use native.Mathlib.Omega.{arith}
use lib.ListN.{length, length-append}
use Rattle.wire.specs.Bytes.{pick}
use Rattle.values.specs.declared.Reason.{Reason}
use Rattle.rules.specs.EditRule.{IsBytes}
use Rattle.rules.specs.Fields.{field, none as fields_end, write, write_all}
use Rattle.rules.specs.Outcome.{Outcome, refused, done}
use Rattle.rules.specs.Types.{Types}
use Rattle.notation.specs.Tokens.{Lexeme, place_of}
use Rattle.notation.specs.Lexing.{tokens}
use Rattle.notation.specs.Building.{Nodes, frame, Build, build, start}
use Rattle.notation.specs.Grammar.{Symbol, manifest, Stepped, stuck, to, step, Ended, built, fault, run, reading}
use Rattle.notation.specs.Convert.{read_text, crowded_at, text_items, table_behind, string_fields, numbered_onto, manifest_fields, manifest_bytes}
use Rattle.tree_builder.specs.Open.{parts_bytes}
use Rattle.parser.proofs.OutermostHead.{outermost}
use Rattle.text_places.specs.Marks.{head_marks, part_marks, opening_marks, around_marks, front_marks, open_marks, tree_marks, size_of}
use Rattle.text_places.specs.Log.{Insertion, Leads, noted, logged, text_log}
use Rattle.text_places.proofs.StepMoves.{Sound, start_sound, step_sound, step_leads, step_short}
use Rattle.text_places.proofs.MarkedBytes.{parts_size_lem}
use Rattle.text_places.proofs.Stacks.{word_on_top}

-- ---- Runs

fault_not_built : {A : Type 0} {p : ℕ} {g : Build} → fault p ≡ built g → A
fault_not_built e = let z : ◌≡◌ {A = ℕ} 0 1 = cc in absurd (omega arith)

same_built : {f g : Build} → built f ≡ built g → f ≡ g
same_built e = cc

-- the log so far leads from the fields of the tree, and has an entry for two bytes at most
record Following (k : List Symbol) (f : Build) (l : List Insertion) : Type 0 where
  sound : Sound k f
  leads : Leads l (tree_marks f)
  short : 2 * length l + pick (word_on_top k) 1 0 ≤ size_of f

first_following : Following manifest start []
unfolding size_of tree_marks open_marks front_marks around_marks opening_marks head_marks part_marks
first_following = record { sound = start_sound; leads = record { leads = λ o p e. absurd (omega arith) }; short = omega arith }

run_following : (types : Types) (xs : List Lexeme) (k : List Symbol) (f : Build) (l : List Insertion) (g : Build) → run types xs k f ≡ built g → Following k f l → Following [] g (logged types xs k f l)
unfolding run logged
run_following types [] [] f l g e h = subst (λ (i : Build). Following [] i l) (same_built e) h
run_following types [] (y ∷ k) f l g e h = fault_not_built e
run_following types (x ∷ xs) k f l g e h = go (run_following types xs) (step types k x f) refl e
  where
    go : ((k : List Symbol) (f : Build) (l : List Insertion) (g : Build) → run types xs k f ≡ built g → Following k f l → Following [] g (logged types xs k f l)) → (o : Stepped) → step types k x f ≡ o
        → ◌≡◌ {A = Ended} (elim o as (λ q. Ended) [ stuck ↦ fault (place_of x) | to k' i ↦ run types xs k' i ]) (built g) → Following [] g (elim o as (λ q. List Insertion) [ stuck ↦ l | to k' i ↦ logged types xs k' i (noted k x f i l) ])
    go later stuck j q = fault_not_built q
    go later (to k' i) j q =
        later k' i (noted k x f i l) g q
        (record { sound = step_sound types x k' i k f j h.sound; leads = step_leads types x k' i k f l j h.sound h.leads; short = step_short types x k' i k f l j h.sound h.short })

-- ---- Items

pub refused_not_done : {A : Type 0} {r : Reason} {p : ℕ} {items : Nodes} → ◌≡◌ {A = Outcome Nodes} (refused r p) (done items) → A
refused_not_done e = let z : ◌≡◌ {A = ℕ} 0 1 = cc in absurd (omega arith)

-- what a text without fault gives is the tree's
built_marks : (nodes : Nodes) (o : Option ℕ) (items : Nodes) → read_text (built (build 0 (frame 0 0 [] nodes) [])) o ≡ done items → tree_marks (build 0 (frame 0 0 [] nodes) []) ≡ part_marks items
unfolding read_text tree_marks open_marks front_marks around_marks opening_marks head_marks
built_marks nodes none items e = let same : nodes ≡ items = cc in ap part_marks same
built_marks nodes (some q) items e = refused_not_done e

fault_gives : {A : Type 0} (p : ℕ) (o : Option ℕ) (items : Nodes) → read_text (fault p) o ≡ done items → A
unfolding read_text
fault_gives p none items e = refused_not_done e
fault_gives p (some q) items e = refused_not_done e

-- the tree of a text that gives items
record TreeOf (types : Types) (t : List ℕ) (items : Nodes) : Type 0 where
  tree : Build
  same : tree_marks tree ≡ part_marks items
  following : Following [] tree (text_log types t)

tree_of : (types : Types) (t : List ℕ) → IsBytes t → (items : Nodes) → text_items types (tokens t) ≡ done items → TreeOf types t items
unfolding text_items reading text_log
tree_of types t bytes items e = go (run types (tokens t) manifest start) refl e
  where
    go : (r : Ended) → run types (tokens t) manifest start ≡ r → read_text r (crowded_at (tokens t) []) ≡ done items → TreeOf types t items
    go (fault p) i j = fault_gives p (crowded_at (tokens t) []) items j
    go (built g) i j =
        let all = outermost types t bytes g i in
        record {
          tree = g;
          same = ap tree_marks all.same ∙ built_marks all.nodes (crowded_at (tokens t) []) items (ap (λ (f : Build). read_text (built f) (crowded_at (tokens t) [])) (sym all.same) ∙ j);
          following = run_following types (tokens t) manifest start [] g i first_following;
        }

module _ (types : Types) (t : List ℕ) (bytes : IsBytes t) (items : Nodes) (e : text_items types (tokens t) ≡ done items) where
  pub items_lead : Leads (text_log types t) (part_marks items)
  items_lead = let w = tree_of types t bytes items e in subst (Leads (text_log types t)) w.same w.following.leads

  -- 262,144 bytes hold the log of a text whose manifest is not too long
  pub log_short : length (manifest_bytes (tokens t) items) ≤ 65535 → 8 * length (text_log types t) ≤ 262144
  unfolding size_of manifest_bytes manifest_fields write parts_bytes
  log_short short =
      let w = tree_of types t bytes items e in
      let S : List (List ℕ) = table_behind (tokens t) [] in
      omega (arith, short, w.following.short, ap length w.same, parts_size_lem S items, length-append (write (field 0 0x01 [] (string_fields S))) (write_all (numbered_onto S items fields_end)))
