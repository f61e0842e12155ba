-- The text of a manifest that the printer accepts is read as that manifest's tree by the bytes of every name.
use Prim.Native.Nat.{ℕ}
use mathlib.Core.Path.{◌≡◌, refl, sym, ap, ◌∙◌}
use mathlib.Core.List.{List, [], ◌∷◌, ◌++◌}
use mathlib.Core.Option.{none}
use native.Mathlib.Omega.{arith}
use Rattle.rules.specs.Check.{check}
use Rattle.rules.specs.Fields.{Field, field, Fields, none as fields_end, more, read_all, others}
use Rattle.rules.specs.Tree.{Item}
use Rattle.rules.specs.Read.{manifest_of}
use Rattle.rules.specs.Compile.{string_at}
use Rattle.rules.specs.EditRule.{IsBytes}
use Rattle.rules.specs.Ranges.{Each, none_left}
use Rattle.rules.proofs.Fits.{manifest_fits}
use Rattle.rules.proofs.TypedBack.{item_fields}
use Rattle.rules.proofs.TypedBack
use Rattle.rules.specs.Types.{Types}
use Rattle.notation.specs.Tokens.{Lexeme, end_of_text}
use Rattle.notation.specs.Lexing.{tokens}
use Rattle.notation.specs.Building.{Node, node, Nodes, empty, ◌▸◌, frame, Build, build}
use Rattle.notation.specs.Grammar.{Ended, built, fault, reading}
use Rattle.notation.specs.Convert.{strings_of}
use Rattle.notation.specs.Print.{the}
use Rattle.notation.specs.Printer.{past, going, over_all, unprintable_at, tokens_of, text_of}
use Rattle.notation.specs.Named.{named_head, named, named_onto, named_tree}
use Rattle.notation.proofs.Unplaced.{bare, bares, unplaced, unplaced_all, unplaced_frame, unplaced_frames, unplaced_build, unplaced_ended, reading_same}
use Rattle.notation.proofs.EntriesBack.{EachOf}
use Rattle.notation.proofs.ItemsBack.{WholeItem, round_trip}
use Rattle.notation.proofs.LaidOut.{Layable, end_line, text_lexed}
use Rattle.notation.proofs.LaidGood.{laid_good, lexed_each}
use Rattle.notation.proofs.StatementsLaid.{constants_of_items, laid_manifest}
use Rattle.notation.proofs.PassedFields.{Passes}
use Rattle.notation.proofs.Passed.{FoundItems, items_passed}
use Rattle.notation.proofs.PrintedThen.{items_then}
use Rattle.notation.proofs.TableStrings.{each_short, strings_short}
use Rattle.notation.proofs.TypedNamed.{items_back, tree_named}
use Rattle.notation.proofs.TypedWhole.{manifest_whole}
use Rattle.notation.proofs.TreeLow.{tree_low}
use Rattle.notation.proofs.Written.{ShortText}
use Rattle.notation.proofs.StringTable.{Among, StringsIn}
use Rattle.notation.proofs.LexedTokens.{GoodToken}
use Rattle.notation.proofs.LexedGood.{GoodLexeme}
use Rattle.notation.proofs.KnownTokens.{tokens_known}
use Rattle.notation.proofs.Trees.{tree_listed}
use Rattle.notation.proofs.OverUnplaced.{Passed, never_stopped, goes_past, label_after, over_all_unplaced}
use Rattle.rules.specs.Verdicts.{no_fault}

-- ---- Tokens

bares_append : (xs ys : List Lexeme) → bares (xs ++ ys) ≡ bares xs ++ bares ys
bares_append [] ys = refl
bares_append (x ∷ xs) ys = ap (λ (zs : List Lexeme). bare x ∷ zs) (bares_append xs ys)

-- ---- The tree by its names has no places

mutual
  unfolding unplaced named

  named_bare : (strings : List (List ℕ)) (k : Field) → unplaced (named strings k) ≡ named strings k
  named_bare strings (field p t h ks) = ap (λ (js : Nodes). node 0 t (named_head strings t h) js) (onto_bare strings ks empty)

  onto_bare : (strings : List (List ℕ)) (ks : Fields) (js : Nodes) → unplaced_all (named_onto strings ks js) ≡ named_onto strings ks (unplaced_all js)
  onto_bare strings fields_end js = refl
  onto_bare strings (more k ks) js = onto_bare strings ks (js ▸ named strings k) ∙ ap (λ (n : Node). named_onto strings ks (unplaced_all js ▸ n)) (named_bare strings k)

-- ---- The law

-- the tree that the text builds
pub record ReadBack (types : Types) (m : List ℕ) : Type 0 where
  pub items : Nodes
  pub whole : reading types (tokens (text_of (manifest_of m))) ≡ built (build 0 (frame 0 0 [] items) [])
  pub same : unplaced_all items ≡ named_tree m

module _ (types : Types) (m : List ℕ) (bytes : IsBytes m) (sound : check m ≡ no_fault) (printable : unprintable_at types m ≡ none) where
  abbrev S : ℕ → List ℕ
  S n = string_at (manifest_of m).strings n

  abbrev is : List Item
  is = (manifest_of m).items

  abbrev xs : List Lexeme
  xs = tokens_of (manifest_of m)

  -- the line of the text's end
  abbrev last : ℕ
  last = end_line xs none 0

  passed : Passed (over_all types (manifest_of m).strings (others (read_all m)) 0)
  unfolding unprintable_at
  passed = never_stopped (over_all types (manifest_of m).strings (others (read_all m)) 0) printable

  items_pass : going (over_all types (manifest_of m).strings (item_fields is) 0) past ≡ past passed.label
  items_pass =
      goes_past (over_all types (manifest_of m).strings (item_fields is) 0) passed.label
      (ap (λ (ks : Fields). label_after (over_all types (manifest_of m).strings ks 0)) (items_back m bytes sound) ∙ over_all_unplaced types (manifest_of m).strings (others (read_all m)) 0 ∙ passed.passed)

  found : Passes (FoundItems types (manifest_of m).strings (IsBytes m) bytes is) (constants_of_items is) 0 past passed.label
  found = items_passed types (manifest_of m).strings (IsBytes m) bytes is (manifest_fits m) 0 passed.label past items_pass

  whole_items : EachOf (WholeItem types S) is
  whole_items = manifest_whole types m bytes sound S found.found.sorts

  pub layable : Layable none 0 xs
  unfolding tokens_of
  layable = laid_manifest types S (strings_short m bytes sound) is (found.found.spelled whole_items) found.rises

  -- the tokens of the text, without their places
  pub text_tokens : bares (tokens (text_of (manifest_of m))) ≡ bares (xs ++ (the last end_of_text ∷ []))
  unfolding text_of
  text_tokens = text_lexed xs layable ∙ sym (bares_append xs (the last end_of_text ∷ []))

  -- the printed tokens are read as the tree
  tokens_read : reading types (xs ++ (the last end_of_text ∷ [])) ≡ built (build 0 (frame 0 0 [] (named_tree m)) [])
  unfolding tokens_of
  tokens_read =
      ap (reading types) (sym (items_then S (the last end_of_text ∷ []) is 0))
      ∙ round_trip types S is whole_items (λ u. last) (tree_low m bytes sound)
      ∙ ap (λ (ks : Nodes). built (build 0 (frame 0 0 [] ks) [])) (tree_named m bytes sound)

  -- and so are those of the text
  unplaced_read : unplaced_ended (reading types (tokens (text_of (manifest_of m)))) ≡ built (build 0 (frame 0 0 [] (named_tree m)) [])
  unfolding unplaced_ended unplaced_build unplaced_frames unplaced_frame named_tree unplaced_all
  unplaced_read =
      sym (reading_same types (tokens (text_of (manifest_of m)))) ∙ ap (reading types) text_tokens ∙ reading_same types (xs ++ (the last end_of_text ∷ [])) ∙ ap unplaced_ended tokens_read
      ∙ ap (λ (ks : Nodes). built (build 0 (frame 0 0 [] ks) [])) (onto_bare (manifest_of m).strings (others (read_all m)) empty)

  same_nodes : (ks : Nodes) → unplaced_ended (built (build 0 (frame 0 0 [] ks) [])) ≡ built (build 0 (frame 0 0 [] (named_tree m)) []) → unplaced_all ks ≡ named_tree m
  unfolding unplaced_ended unplaced_build unplaced_frame unplaced_frames
  same_nodes ks e = cc

  -- what holds of the strings of the printed tokens holds of those of the text
  pub text_known : Each (StringsIn (λ s. Among s (manifest_of m).strings)) (tokens (text_of (manifest_of m)))
  unfolding text_of tokens_of strings_of
  text_known = lexed_each (λ t. Each (λ s. Among s (manifest_of m).strings) (strings_of t)) (tokens (text_of (manifest_of m))) xs last (text_lexed xs layable) (tokens_known m bytes sound) none_left

  pub text_good : Each GoodLexeme (tokens (text_of (manifest_of m)))
  unfolding text_of tokens_of
  text_good = lexed_each GoodToken (tokens (text_of (manifest_of m))) xs last (text_lexed xs layable) (laid_good (each_short m bytes sound) none 0 xs layable (tokens_known m bytes sound)) (omega arith)

  -- THE LAW: the text of a manifest is read as that manifest's tree
  pub read_back : ReadBack types m
  unfolding unplaced_ended
  read_back = go (reading types (tokens (text_of (manifest_of m)))) refl unplaced_read
    where
      go : (e : Ended) → reading types (tokens (text_of (manifest_of m))) ≡ e → unplaced_ended e ≡ built (build 0 (frame 0 0 [] (named_tree m)) []) → ReadBack types m
      go (fault p) e h = absurd (let z : ◌≡◌ {A = ℕ} 0 1 = cc in omega arith)
      go (built g) e h =
          let t = tree_listed types ShortText (tokens (text_of (manifest_of m))) g text_good e in
          record { items = t.nodes; whole = e ∙ ap built t.same; same = same_nodes t.nodes (ap (λ (f : Build). unplaced_ended (built f)) (sym t.same) ∙ h) }
