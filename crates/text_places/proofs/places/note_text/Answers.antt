-- `note_text`: a token after the other, each noted, up to the end or the first one that is refused.
use native.Mathlib.Omega.{arith}
use borrow.Author.Rules.{rules}
use Rattle.rules.specs.EditRule.{IsBytes}
use Rattle.parser.proofs.TextRead.{forward}
use Rattle.text_places.proofs.Noting.{noting_begun, top_within, next_notable, next_noting, last_notable, whole_noted, none_noted}
use mathlib.Core.Path.{◌≡◌, refl, sym, ap, ◌∙◌}
use Prim.Native.Nat.{ℕ}
use Rattle.std.specs.Prelude.{Option as CodeOption, Some, None, Result as CodeResult, Ok, Err}
use Rattle.std.specs.Result.{result_ok}
use Rattle.std.specs.Option.{is_some}
use Rattle.rules.proofs.Within.{false_not_true}
use Rattle.parser.specs.declared.text.Read.{Read}
use Rattle.text_places.proofs.places.note_text.Goals as goal

-- the token was read, or refused
some_not_none : {A B : Type 0} {a : A} → Some a ≡ None → B
some_not_none e = false_not_true (sym (ap is_some e))

took : (r : CodeResult Read ℕ) {o : CodeOption Read} {n b : Read} → o ≡ result_ok r → o ≡ Some n → n ≡ b → r ≡ Ok b
took (Ok a) {n = n} k s e = let same : a ≡ n = cc in ap Ok (same ∙ e)
took (Err q) k s e = some_not_none (sym s ∙ k)

refused : {A : Type 0} (r : CodeResult Read ℕ) {o : CodeOption Read} → o ≡ result_ok r → o ≡ None → ((q : ℕ) → r ≡ Err q → A) → A
refused (Ok a) k s h = some_not_none (sym k ∙ s)
refused (Err q) k s h = h q refl

pub begin-pass-requires : goal.begin-pass-requires
begin-pass-requires c = c.requires.1.room

pub loop-next-init : goal.loop-next-init
loop-next-init c =
    let bytes : IsBytes c.args.text.now = record { below = λ i. omega (arith, c.type_inv.text i) } in
    noting_begun _ _ _ _ _ _ _ _ _ bytes c.requires.1 c.begin-pass.ensures

pub top_symbol-symbol-requires : goal.top_symbol-symbol-requires
top_symbol-symbol-requires c = let l = c.loop-next in let pass = l.invariant.along.going.ready in top_within _ l.pass _ pass.stage.kept pass.room

pub next_token-token-requires : goal.next_token-token-requires
next_token-token-requires c = let pass = c.loop-next.invariant.along.going.ready in (pass.within, pass.short, pass.line_bound)

pub read_token-requires : goal.read_token-requires
read_token-requires c = (c.requires.0, c.loop-next.invariant.along.going.ready)

pub note-entries-requires : goal.note-entries-requires
note-entries-requires c = next_notable _ _ _ _ _ _ _ _ _ _ _ _ _ _ c.loop-next.invariant _ c.next_token-token.ensures _ c.top_symbol-symbol.ensures _ _ _ _ _ c.read_token.ensures _ (took c.read_token.result c.ok.ensures.value c.in_ok-next.was c.in-On.is)

pub loop-next-smaller : goal.loop-next-smaller
loop-next-smaller c = forward _ _ _ _ _ _ _ _ _ _ _ _ c.loop-next.invariant.along _ _ _ _ _ c.read_token.ensures _ (took c.read_token.result c.ok.ensures.value c.in_ok-next.was c.in-On.is)

pub loop-next-preserved : goal.loop-next-preserved
loop-next-preserved c = next_noting _ _ _ _ _ _ _ _ _ _ _ _ _ _ c.loop-next.invariant _ c.next_token-token.ensures _ c.top_symbol-symbol.ensures _ _ _ _ _ c.read_token.ensures _ (took c.read_token.result c.ok.ensures.value c.in_ok-next.was c.in-On.is) (search rules) (search rules) (search rules) (search rules) c.note-entries.ensures

pub note-all-requires : goal.note-all-requires
note-all-requires c = last_notable _ _ _ _ _ _ _ _ _ _ _ _ _ _ c.loop-next.invariant _ c.next_token-token.ensures _ c.top_symbol-symbol.ensures _ _ _ _ _ c.read_token.ensures _ (took c.read_token.result c.ok.ensures.value c.in_ok-next.was c.in-Done.is)

pub shape_of-out-in-Done : goal.shape_of-out-in-Done
shape_of-out-in-Done c = search (rules, c.loop-next.invariant.along.out_size)

pub shape_of-frames-in-Done : goal.shape_of-frames-in-Done
shape_of-frames-in-Done c = search (rules, c.loop-next.invariant.along.frames_size)

pub shape_of-stack-in-Done : goal.shape_of-stack-in-Done
shape_of-stack-in-Done c = search (rules, c.loop-next.invariant.along.stack_size, c.begin-pass.ensures.pushed.size)

pub shape_of-table-in-Done : goal.shape_of-table-in-Done
shape_of-table-in-Done c = search (rules, c.loop-next.invariant.along.table_size)

pub shape_of-log-in-Done : goal.shape_of-log-in-Done
shape_of-log-in-Done c = search (rules, c.loop-next.invariant.size)

pub returns-in-Done : goal.returns-in-Done
returns-in-Done c = whole_noted _ _ _ _ _ _ _ _ _ _ _ _ _ _ c.loop-next.invariant _ c.next_token-token.ensures _ c.top_symbol-symbol.ensures _ _ _ _ _ c.read_token.ensures _ (took c.read_token.result c.ok.ensures.value c.in_ok-next.was c.in-Done.is) c.note-all.ensures

pub returns-in_err-next : goal.returns-in_err-next
returns-in_err-next c =
    rw c.from_residual.ensures
    (refused c.read_token.result c.ok.ensures.value c.in_err-next.was (λ q e. none_noted _ _ _ _ _ _ _ _ _ _ _ _ _ _ c.loop-next.invariant _ c.next_token-token.ensures _ c.top_symbol-symbol.ensures _ _ _ _ _ c.read_token.ensures q e _))
