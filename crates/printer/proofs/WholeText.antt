-- One law for each way through `write_whole`, `print_fitting`, `print_sound` and `print`. Assumes nothing.
use Prim.Native.Nat.{ℕ, ◌+◌, ◌≤◌, ◌<◌}
use mathlib.Core.Path.{◌≡◌, refl, sym, ap, ◌∙◌, subst}
use mathlib.Core.Bool.{Bool, true, false}
use mathlib.Core.List.{List, []}
use mathlib.Core.Option.{Option, none, some}
use native.Mathlib.Omega.{arith}
use borrow.Author.Tests.{lt-ltb, le-ltb}
use lib.Dec.{ltb}
use lib.ListN.{length, take}
use Rattle.values.specs.declared.Reason.{Reason}
use Rattle.values.specs.declared.Reason.TheVariants.{MemoryTooShort, Unprintable}
use Rattle.wire.proofs.Laws.{over_front}
use Rattle.rules.specs.Bytes.{end_of, fields_in}
use Rattle.rules.specs.Check.{string_places, check}
use Rattle.rules.specs.Compile.{string_at, checked}
use Rattle.rules.specs.Outcome.{Outcome, refused, done, ◌>>=◌, refuse_if}
use Rattle.rules.specs.Read.{manifest_of}
use Rattle.rules.proofs.Within.{false_not_true}
use Rattle.rules.specs.Types.{Types, check_types}
use Rattle.places.specs.At.{items_at}
use Rattle.places.proofs.Items.{manifest_opens}
use Rattle.syntax.specs.Before.{before}
use Rattle.syntax.specs.Strings.{string_texts, indexed, Indexed, found_of}
use Rattle.syntax.proofs.StringsRead.{strings_read, table_holds}
use Rattle.syntax.proofs.Whole.{before_both}
use Rattle.notation.specs.Tokens.{Lexeme}
use Rattle.notation.specs.Print.{printed_items}
use Rattle.notation.specs.Layout.{laid_out}
use Rattle.notation.specs.Convert.{refuse_at, too_long}
use Rattle.notation.specs.Printer.{unprintable_at, tokens_of, text_of, printed_text, print}
use Rattle.token_writer.specs.declared.Pen.{Pen}
use Rattle.token_writer.specs.Writing.{Wrote}
use Rattle.token_writer.specs.Pens.{text_from}
use Rattle.token_writer.proofs.Chains.{at_start_lem, at_end_lem}
use Rattle.statement_printer.specs.Passing.{is_full, Going, writing, full, Passes}
use Rattle.statement_printer.proofs.OneToken.{too_long_lem}
use Rattle.text_answers.specs.Leaving.{Leaves}
use Rattle.text_answers.proofs.Ending.{leaves_as}
use Rattle.printer.specs.Whole.{fitting_text, printable_text, Counted, Prints}
use Rattle.std.specs.Prelude.{Option as CodeOption, Some, None}
use Rattle.rules.specs.Verdicts.{Verdict, fault_at, no_fault}
use Rattle.notation.specs.Answers.{Answer}

-- ---- write_whole

-- the tokens of a sound manifest, by the places of its items
text_at : (m : List ℕ) {f : ℕ} → check m ≡ no_fault → f ≡ end_of m 0 → laid_out (printed_items (string_at (string_texts m)) (items_at m (fields_in m f (length m))) 0 (λ v. [])) none 0 0 ≡ text_of (manifest_of m)
unfolding text_of tokens_of
text_at m w e = rw (e, ← strings_read m w, ← (manifest_opens m w).items) refl

-- behind the items nothing but the end is to come
pub items_end : (m : List ℕ) {f : ℕ} {out out' : List ℕ} {pen : Pen} → check m ≡ no_fault → f ≡ end_of m 0
    → Passes out out' (record { fill = 0; before = None; brackets = 0; line = 0 }) pen (printed_items (string_at (string_texts m)) (items_at m (fields_in m f (length m))) 0) → Going out out' pen (text_of (manifest_of m)) []
items_end m {f} {out} {out'} {pen} w e p =
    let xs : List Lexeme = printed_items (string_at (string_texts m)) (items_at m (fields_in m f (length m))) 0 (λ v. []) in
    subst (λ (t : List ℕ). Going out out' pen t []) (text_at m w e) (p.goes out (laid_out xs none 0 0) (λ v. []) (writing (omega arith) (at_start_lem out xs)))

module _ {whole out out' : List ℕ} {pen : Pen} {b : Bool} (so : Going out out' pen whole []) (told : b ≡ is_full pen) where
  pub counts_too_many : b ≡ true → Counted whole out out' None
  counts_too_many h = record { long = λ e. too_long_lem (sym told ∙ h) so; wrote = λ e. absurd (let z : ◌≡◌ {A = ℕ} 0 1 = cc in omega arith) }

  module _ {out'' : List ℕ} {n : ℕ} (h : b ≡ false) (last : Wrote out' out'' pen.fill n (text_from pen [])) where
    all_written : Wrote out out'' 0 n whole
    all_written = go so
      where
        go : Going out out' pen whole [] → Wrote out out'' 0 n whole
        go (full f l) = absurd (false_not_true (sym h ∙ told ∙ f))
        go (writing l i) = at_end_lem i last

    pub counts_over : 65535 < n → Counted whole out out'' None
    counts_over l = record { long = λ e. omega (arith, all_written.filled, l); wrote = λ e. absurd (let z : ◌≡◌ {A = ℕ} 0 1 = cc in omega arith) }

    pub counts_all : n ≤ 65535 → Counted whole out out'' (Some n)
    counts_all l =
        record {
          long = λ e. absurd (let z : ◌≡◌ {A = ℕ} 0 1 = cc in omega arith);
          wrote = λ {k} e. let same : n ≡ k = cc in let both : (n ≤ 65535) × Wrote out out'' 0 n whole = (l, all_written) in rw same at both;
        }

-- ---- print_fitting

module _ (m : List ℕ) (room : ℕ) where
  by_length : (b : Bool) → too_long (text_of (manifest_of m)) room ≡ b → fitting_text m room ≡ (refuse_if b Unprintable 0 >>= λ _. done (text_of (manifest_of m)))
  unfolding fitting_text
  by_length b e = ap (λ (x : Bool). refuse_if x Unprintable 0 >>= λ _. done (text_of (manifest_of m))) e

  module _ {out out' : List ℕ} {n : CodeOption ℕ} (c : Counted (text_of (manifest_of m)) out out' n) where
    pub over_limit : n ≡ None → fitting_text m room ≡ refused Unprintable 0
    unfolding too_long refuse_if ◌>>=◌
    over_limit e = by_length true (rw (lt-ltb 65535 (length (text_of (manifest_of m))) (c.long e)) refl)

    module _ {k : ℕ} (e : n ≡ Some k) where
      size : k ≡ 0 + length (text_of (manifest_of m))
      size = (c.wrote e).1.filled

      pub over_room : room < k → fitting_text m room ≡ refused Unprintable 0
      unfolding too_long refuse_if ◌>>=◌
      over_room h =
          let short : k ≤ 65535 = (c.wrote e).0 in
          by_length true (rw (le-ltb 65535 (length (text_of (manifest_of m))) (omega (arith, size)), lt-ltb room (length (text_of (manifest_of m))) (omega (arith, size))) refl)

      -- what is written of it is the whole text
      pub fits : room ≡ length out → k ≤ room → fitting_text m room ≡ done (take k out')
      unfolding too_long refuse_if ◌>>=◌
      fits here h =
          let whole : List ℕ = text_of (manifest_of m) in
          let short : k ≤ 65535 = (c.wrote e).0 in
          let written : take k out' ≡ whole = ap (λ (i : ℕ). take i out') size ∙ ap (take (0 + length whole)) (c.wrote e).1.stored ∙ over_front out 0 whole (omega (arith, size)) in
          by_length false (rw (le-ltb 65535 (length whole) (omega (arith, size)), le-ltb room (length whole) (omega (arith, size))) refl) ∙ ap done (sym written)

-- ---- print_sound

pub index_holds : (m table : List ℕ) {n : ℕ} {t : List ℕ} → check m ≡ no_fault → length m ≤ 65535 → 2048 ≤ length table → n ≡ length (string_places m) → t ≡ indexed m table → Indexed m t n
index_holds m table w short room en et = rw (en, et) (table_holds m table w short room)

module _ (types : Types) (m : List ℕ) (room : ℕ) {x : CodeOption ℕ} (told : x ≡ found_of (unprintable_at types m)) where
  pub unprintable : {p : ℕ} → x ≡ Some p → printable_text types m room ≡ refused Unprintable p
  unfolding printable_text refuse_at ◌>>=◌ found_of
  unprintable {p} h = go (unprintable_at types m) (sym told ∙ h)
    where
      go : (o : Option ℕ) → found_of o ≡ Some p → (refuse_at o Unprintable >>= λ _. fitting_text m room) ≡ refused Unprintable p
      go none e = absurd (let z : ◌≡◌ {A = ℕ} 0 1 = cc in omega arith)
      go (some q) e = let same : q ≡ p = cc in ap (refused Unprintable) same

  pub all_printable : x ≡ None → printable_text types m room ≡ fitting_text m room
  unfolding printable_text refuse_at ◌>>=◌ found_of
  all_printable h = go (unprintable_at types m) (sym told ∙ h)
    where
      go : (o : Option ℕ) → found_of o ≡ None → (refuse_at o Unprintable >>= λ _. fitting_text m room) ≡ fitting_text m room
      go none e = refl
      go (some q) e = absurd (let z : ◌≡◌ {A = ℕ} 0 1 = cc in omega arith)

-- ---- print

module _ (types : Types) (m : List ℕ) (room memory : ℕ) where
  in_order : printed_text types m room memory ≡ (refuse_if (ltb memory 65536) MemoryTooShort 0 >>= λ _. checked (check_types types) >>= λ _. checked (before m) >>= λ _. printable_text types m room)
  unfolding printed_text printable_text fitting_text
  in_order = ap (λ (o : Outcome (List ℕ)). refuse_if (ltb memory 65536) MemoryTooShort 0 >>= λ _. checked (check_types types) >>= λ _. o) (before_both m (λ _. printable_text types m room))

  pub short_memory : memory < 65536 → printed_text types m room memory ≡ refused MemoryTooShort 0
  unfolding refuse_if ◌>>=◌
  short_memory h = in_order ∙ rw (lt-ltb memory 65536 h) refl

  pub fault_of_types : {v : Verdict} {r : Reason} {p : ℕ} → 65536 ≤ memory → v ≡ check_types types → v ≡ fault_at r p → printed_text types m room memory ≡ refused r p
  unfolding refuse_if ◌>>=◌ checked
  fault_of_types h e f = in_order ∙ rw (le-ltb memory 65536 h, sym e, f) refl

  module _ (h : 65536 ≤ memory) (types-sound : check_types types ≡ no_fault) where
    pub fault_first : {v : Verdict} {r : Reason} {p : ℕ} → v ≡ before m → v ≡ fault_at r p → printed_text types m room memory ≡ refused r p
    unfolding refuse_if ◌>>=◌ checked
    fault_first e f = in_order ∙ rw (le-ltb memory 65536 h, types-sound, sym e, f) refl

    pub sound_first : {v : Verdict} → v ≡ before m → v ≡ no_fault → printed_text types m room memory ≡ printable_text types m room
    unfolding refuse_if ◌>>=◌ checked
    sound_first e f = in_order ∙ rw (le-ltb memory 65536 h, types-sound, sym e, f) refl

pub prints : (types : Types) (m : List ℕ) {o : Outcome (List ℕ)} {out out' work work' : List ℕ} {a : Answer} → printed_text types m (length out) (length work) ≡ o → Leaves o out out' work work' a → Prints types m out out' work work' a
unfolding print
prints types m {out = out} {out' = out'} {work = work} {work' = work'} {a = a} e x =
    let left : Leaves (printed_text types m (length out) (length work)) out out' work work' a = leaves_as e refl refl x in
    record { effect = left.effect }
