-- A line made of pieces: pieces one after the other are one piece, and a finished line is the whole text or does not fit. Assumes nothing.
use mathlib.Core.Path.{◌≡◌, refl, sym, ap, ◌∙◌}
use mathlib.Core.Bool.{Bool, true, false}
use mathlib.Core.List.{List, [], ◌++◌}
use Prim.Native.Nat.{ℕ, ◌+◌, ◌-◌, ◌^◌, ◌≤◌, ◌<◌}
use native.Mathlib.Omega.{arith}
use borrow.Author.Tests.{ltb-true, ltb-false, lt-ltb, le-ltb}
use lib.Dec.{ltb}
use lib.IntN.{ℤ}
use lib.ListN.{length, take, drop, length-append}
use lib.Seq.{take_at}
use mir.Syntax.{w64}
use mir.Val.{SFits}
use Rattle.wire.specs.Runs.{over, zeros}
use Rattle.wire.proofs.Laws.{over_length, over_join, over_past, over_front}
use Rattle.values.specs.Decimal.{decimal, signed_decimal, wrote, write_text}
use Rattle.values.proofs.Parts.{in_range_lem}
use Rattle.values.proofs.Digits.{text_fits, decimal_short, signed_short}
use Rattle.catalog.specs.Making.{stored, cleared_from}
use Rattle.schedule.specs.Appending.{length_with, appended, finished, fitted}
use Rattle.std.specs.Prelude.{Option, Some, None}

-- an answer and bytes that are stored are known by what they are stored with
pub answer_same : {A : Type 0} {r s : A} {b c : List ℕ} → stored r b ≡ stored s c → r ≡ s
answer_same e = cc

pub bytes_same : {A : Type 0} {r s : A} {b c : List ℕ} → stored r b ≡ stored s c → b ≡ c
bytes_same e = cc

-- ---- One piece: past the end already, past the end now, or within

module _ (text line : List ℕ) (at : ℕ) {b : List ℕ} (is : b ≡ over line at text) where
  same_room : length b ≡ length line
  same_room = ap length is ∙ over_length line at text

  piece : {r : ℕ} → r ≡ length_with (length text) at (length line) → stored r b ≡ appended text at line
  unfolding appended
  piece e = rw (e, is)

  pub piece_past : length b < at → stored at b ≡ appended text at line
  unfolding length_with
  piece_past h = piece (omega (arith, same_room))

  pub piece_long : at ≤ length b → length b - at < length text → stored (length b + 1) b ≡ appended text at line
  unfolding length_with
  piece_long h l = piece (omega (arith, same_room))

  pub piece_fits : at ≤ length b → length text ≤ length b - at → stored (at + length text) b ≡ appended text at line
  unfolding length_with
  piece_fits h l = piece (omega (arith, same_room))

-- ---- Pieces one after the other

-- the second piece starts where the first ends, or past the end
over_joined : (p q : List ℕ) (at : ℕ) (line : List ℕ) → over (over line at p) (length_with (length p) at (length line)) q ≡ over line at (p ++ q)
unfolding length_with
over_joined p q at line = go (ltb (length line) (at + length p)) refl
  where
    go : (b : Bool) → ltb (length line) (at + length p) ≡ b → over (over line at p) (length_with (length p) at (length line)) q ≡ over line at (p ++ q)
    go false h =
        let within : at + length p ≤ length line = ltb-false (length line) (at + length p) h in
        let e : length_with (length p) at (length line) ≡ at + length p = omega arith in
        ap (λ (k : ℕ). over (over line at p) k q) e ∙ over_join line at p q
    go true h =
        let past : length line < at + length p = ltb-true (length line) (at + length p) h in
        let same : length (over line at p) ≡ length line = over_length line at p in
        over_past (over line at p) (length_with (length p) at (length line)) q (omega arith)
        ∙ sym (over_past (over line at p) (at + length p) q (omega arith)) ∙ over_join line at p q

pub pieces_join : (p q : List ℕ) (at : ℕ) (line : List ℕ) {r : ℕ} {b : List ℕ} → stored r b ≡ appended p at line → appended q r b ≡ appended (p ++ q) at line
unfolding appended length_with
pieces_join p q at line {r} {b} first =
    let er : r ≡ length_with (length p) at (length line) = answer_same first in
    let eb : b ≡ over line at p = bytes_same first in
    let room : length b ≡ length line = ap length eb ∙ over_length line at p in
    let end : length_with (length q) r (length b) ≡ length_with (length (p ++ q)) at (length line) = omega (arith, length-append p q) in
    let bytes : over b r q ≡ over line at (p ++ q) = ap (λ (l : List ℕ). over l r q) eb ∙ ap (λ (k : ℕ). over (over line at p) k q) er ∙ over_joined p q at line in
    rw (end, bytes)

pub then_piece : (p q : List ℕ) (at : ℕ) (line : List ℕ) {r s : ℕ} {b c : List ℕ} → stored r b ≡ appended p at line → stored s c ≡ appended q r b → stored s c ≡ appended (p ++ q) at line
then_piece p q at line first second = second ∙ pieces_join p q at line first

-- nothing more
pub no_piece_lem : (at : ℕ) (line : List ℕ) → stored at line ≡ appended [] at line
unfolding appended length_with over
no_piece_lem at line = let e : at ≡ length_with 0 at (length line) = omega arith in ap (λ (k : ℕ). stored k line) e

-- ---- A line is finished

pub finished_long : (at : ℕ) (line : List ℕ) {b : List ℕ} → length line < at → b ≡ cleared_from 0 line → stored None b ≡ finished at line
unfolding finished
finished_long at line h e = rw (lt-ltb (length line) at h, e)

pub finished_whole : (at : ℕ) (line : List ℕ) {b : List ℕ} → at ≤ length line → b ≡ cleared_from at line → stored (Some at) b ≡ finished at line
unfolding finished
finished_whole at line h e = rw (le-ltb (length line) at h, e)

pub cleared_all : (line : List ℕ) → cleared_from 0 line ≡ zeros (length line)
unfolding cleared_from
cleared_all line = let e : length line - 0 ≡ length line = omega arith in ap zeros e

pub line_finished : (text line : List ℕ) {at : ℕ} {r : Option ℕ} {b c : List ℕ} → stored at b ≡ appended text 0 line → stored r c ≡ finished at b → stored r c ≡ fitted text (length line)
unfolding appended length_with finished fitted cleared_from
line_finished text line {at} {r} {b} {c} whole end = end ∙ go (ltb (length line) (length text)) refl
  where
    eb : b ≡ over line 0 text
    eb = bytes_same whole

    room : length b ≡ length line
    room = ap length eb ∙ over_length line 0 text

    ea : at ≡ length_with (length text) 0 (length line)
    ea = answer_same whole

    go : (x : Bool) → ltb (length line) (length text) ≡ x → finished at b ≡ fitted text (length line)
    go true h =
        let long : length line < length text = ltb-true (length line) (length text) h in
        rw (lt-ltb (length b) at (omega (arith, ea, room)), h) (ap (stored None) (cleared_all b ∙ ap zeros room))
    go false h =
        let fits : length text ≤ length line = ltb-false (length line) (length text) h in
        let n : at ≡ length text = omega (arith, ea) in
        let none : length text ≡ 0 + length text = omega arith in
        let front : take (length text) b ≡ text = ap (λ (k : ℕ). take k b) none ∙ ap (take (0 + length text)) eb ∙ over_front line 0 text (omega arith) in
        let bytes : cleared_from at b ≡ text ++ zeros (length line - length text) = rw (n, room) (ap (λ (l : List ℕ). l ++ zeros (length line - length text)) front) in
        rw (le-ltb (length b) at (omega (arith, room)), h) (ap (λ (l : List ℕ). stored (Some at) l) bytes ∙ ap (λ (k : ℕ). stored (Some k) (text ++ zeros (length line - length text))) n)

-- ---- The pieces of a line

-- a piece by another name
pub piece_is : {p q : List ℕ} (at : ℕ) (line : List ℕ) {r : ℕ} {b : List ℕ} → p ≡ q → stored r b ≡ appended p at line → stored r b ≡ appended q at line
piece_is at line e h = h ∙ ap (λ (t : List ℕ). appended t at line) e

-- a text at the start of a buffer that is long enough
pub record Ready (text : List ℕ) (count : ℕ) (buffer : List ℕ) : Type 0 where
  pub within : count ≤ length buffer
  pub whole : count ≡ length (take count buffer)
  pub is : take count buffer ≡ text

pub text_ready : (text buffer : List ℕ) {count : ℕ} {b : List ℕ} → length text ≤ length buffer → wrote count b ≡ write_text text buffer → Ready text count b
text_ready text buffer {count} {b} room e =
    let there : wrote count b ≡ wrote (length text) (text ++ drop (length text) buffer) = e ∙ sym (text_fits text buffer room) in
    let size : count ≡ length text = cc in
    let bytes : b ≡ text ++ drop (length text) buffer = cc in
    let is : take count b ≡ text = rw bytes (take_at text (drop (length text) buffer) count (sym size)) in
    record {
      within = omega (arith, ap length bytes, length-append text (drop (length text) buffer));
      whole = size ∙ ap length (sym is);
      is = is;
    }

-- 20 bytes hold the text of any number and of any integer
pub number_ready : (n : ℕ) (buffer : List ℕ) {count : ℕ} {b : List ℕ} → n < 2 ^ 64 → length buffer ≡ 20 → wrote count b ≡ write_text (decimal n) buffer → Ready (decimal n) count b
number_ready n buffer h room e = text_ready (decimal n) buffer (omega (arith, decimal_short n h)) e

pub integer_ready : (z : ℤ) (buffer : List ℕ) {y : ℤ} {count : ℕ} {b : List ℕ} → SFits w64 z → y ≡ z → length buffer ≡ 20 → wrote count b ≡ write_text (signed_decimal y) buffer → Ready (signed_decimal z) count b
integer_ready z buffer h same room e = text_ready (signed_decimal z) buffer (omega (arith, signed_short z (in_range_lem z h))) (rw same at e)
