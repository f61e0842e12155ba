-- The tree that a text builds is as listed: items, each formed by the list of fields.
use Prim.Native.Nat.{ℕ}
use mathlib.Core.Path.{◌≡◌, refl, subst}
use mathlib.Core.List.{List, [], ◌∷◌, ◌++◌}
use mathlib.Core.Option.{Option, some}
use Rattle.rules.specs.Ranges.{Each, also}
use Rattle.rules.specs.declared.Kind.TheVariants.{Item}
use Rattle.rules.specs.Types.{Types}
use Rattle.notation.specs.Tokens.{Lexeme, token_of}
use Rattle.notation.specs.Building.{Piece, Nodes, empty, ◌▸◌, Frame, frame, Build, build, Action, close, void, start}
use Rattle.notation.specs.Grammar.{Symbol, sign, a_name, expression, operators, read_or_word, close_bracket, one, maybe, further, statements, block, otherwise, branches, items, class_rest, parameters, default_value, a_constant, inherits, parent, devices, device, more_devices, ends, left_out, Reads, done, takes, leaves, manifest, built, reading}
use Rattle.notation.proofs.Machine.{sound}
use Rattle.notation.proofs.Formed.{More, enough}
use Rattle.notation.proofs.FormedNodes.{block_of}
use Rattle.notation.proofs.FormedTokens.{Good}
use Rattle.notation.proofs.Needs.{BeforeAll, DoingAll}
use Rattle.notation.proofs.NeedsKept.{none_not_some, same_result, doing_all_kept}
use Rattle.notation.proofs.RowsKept.{bare_expression, row_kept}

module _ (types : Types) (S : List ℕ → Type 0) (Q : Build → Type 0) where
  -- what must hold before a symbol is kept where it is left out
  left_kept : (x : Lexeme) (b q u : ℕ) (g : List Piece) (fs : List Frame) (k : List Symbol) (s : Symbol) (ks : Nodes) (ds : List Action) → left_out s ≡ some ds → BeforeAll types S Q (s ∷ k) (build b (frame q u g ks) fs) → DoingAll types S ds x (BeforeAll types S Q k) (build b (frame q u g ks) fs)
  unfolding left_out
  left_kept x b q u g fs k s ks ds e w = go s ks e w
    where
      done_by : (is : List Action) (js : Nodes) → ◌≡◌ {A = Option (List Action)} (some is) (some ds) → DoingAll types S is x (BeforeAll types S Q k) (build b (frame q u g js) fs) → DoingAll types S ds x (BeforeAll types S Q k) (build b (frame q u g js) fs)
      done_by is js e v = subst (λ (is : List Action). DoingAll types S is x (BeforeAll types S Q k) (build b (frame q u g js) fs)) (same_result is ds e) v

      go : (s : Symbol) (ks : Nodes) → left_out s ≡ some ds → BeforeAll types S Q (s ∷ k) (build b (frame q u g ks) fs) → DoingAll types S ds x (BeforeAll types S Q k) (build b (frame q u g ks) fs)
      go (sign c) ks e w = none_not_some e
      go a_name ks e w = none_not_some e
      go (expression l) ks e w = none_not_some e
      go (operators l m) empty e w = absurd w
      go (operators l m) (ks ▸ i) e w = done_by [] (ks ▸ i) e (w.1 i w.0)
      go read_or_word empty e w = absurd w
      go read_or_word (ks ▸ i) e w = done_by [] (ks ▸ i) e (w.1 i (bare_expression types w.0))
      go close_bracket ks e w = none_not_some e
      go (one y) ks e w = none_not_some e
      go (maybe y) ks e w = done_by [] ks e (w ks enough)
      go (further y) ks e w = done_by [] ks e (w ks enough)
      go statements ks e w = done_by [] ks e (w ks enough)
      go branches ks e w = done_by [] ks e (w ks enough)
      go items ks e w = done_by [] ks e (w ks enough)
      go class_rest ks e w = none_not_some e
      go parameters ks e w = done_by [] ks e (w ks enough)
      go default_value ks e w = done_by [] ks e w.0
      go a_constant ks e w = none_not_some e
      go inherits ks e w = done_by [] ks e w.0
      go parent ks e w = none_not_some e
      go devices ks e w = none_not_some e
      go device ks e w = none_not_some e
      go more_devices ks e w = done_by [] ks e (w ks enough)
      go block ks e w = none_not_some e
      go otherwise ks e w = done_by (void 0x20 ∷ []) ks e (w _ (block_of types enough))
      go ends ks e w = done_by (close ∷ []) ks e w

  -- what is claimed behind the symbols holds of what is read
  pub reading_kept : {k : List Symbol} {xs : List Lexeme} {f g : Build} → Reads types k xs f g → Each (λ (x : Lexeme). Good S (token_of x)) xs → BeforeAll types S Q k f → Q g
  reading_kept done all w = w
  reading_kept (takes {s = s} {k = k} {ss = ss} {ds = ds} {x = x} {f = build b (frame q u h ks) fs} {f' = f} e i r) (also g all) w =
      reading_kept r all (doing_all_kept types S x (BeforeAll types S Q (ss ++ k)) ds (build b (frame q u h ks) fs) f i (row_kept types S Q x g b q u h fs k s ks ds ss e w))
  reading_kept (leaves {s = s} {k = k} {ds = ds} {x = x} {f = build b (frame q u h ks) fs} {f' = f} e i r) all w =
      reading_kept r all (doing_all_kept types S x (BeforeAll types S Q k) ds (build b (frame q u h ks) fs) f i (left_kept x b q u h fs k s ks ds e w))

-- a text read whole: only items are left, each as listed
pub record Items (types : Types) (S : List ℕ → Type 0) (g : Build) : Type 0 where
  pub nodes : Nodes
  pub same : g ≡ build 0 (frame 0 0 [] nodes) []
  pub listed : More types S Item empty nodes

-- the tree that good tokens build is as listed
pub tree_listed : (types : Types) (S : List ℕ → Type 0) (xs : List Lexeme) (g : Build) → Each (λ (x : Lexeme). Good S (token_of x)) xs → reading types xs ≡ built g → Items types S g
unfolding reading
tree_listed types S xs g good e = reading_kept types S (Items types S) (sound types xs manifest start g e) good (λ js m. record { nodes = js; same = refl; listed = m })
