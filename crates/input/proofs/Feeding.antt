-- The line feed in a piece and in an input of two pieces; a buffer that keeps what fits; what a piece makes of a reading.
use mathlib.Core.Path.{◌≡◌, refl, sym, ap, ◌∙◌}
use mathlib.Core.Bool.{Bool, true, false, ◌||◌}
use mathlib.Core.List.{List, [], ◌∷◌, ◌++◌}
use Prim.Native.Nat.{ℕ, suc, ◌+◌, ◌≤◌, ◌<◌, min}
use native.Mathlib.Omega.{arith}
use borrow.Author.Tests.{lt-ltb, le-ltb, ltb-true, ltb-false, leb-true, leb-false}
use lib.Dec.{eqb, ltb, leb}
use lib.ListN.{length, take, drop, length-append, length-take, length-drop, take-append-drop}
use Rattle.wire.specs.Runs.{over}
use Rattle.wire.proofs.Laws.{over_length, over_none, over_past, over_join, over_front}
use Rattle.rules.specs.Schedule.{before_feed, after_feed}
use Rattle.rules.proofs.Lists.{when_true, when_false}
use Rattle.rules.proofs.Within.{false_not_true}
use Rattle.input.specs.declared.Progress.{Progress}
use Rattle.input.specs.Reading.{Reading, reading, kept_line, kept_rest, has_feed, reading_of, fed_by, fed, Fed, is_full}

-- ---- The line feed in a piece

-- the parts before and after it, and whether it is there, by its place
pub record Split (piece before after : List ℕ) (met : Bool) : Type 0 where
  pub within : length before ≤ length piece
  pub front : take (length before) piece ≡ before
  pub back : drop (length before + 1) piece ≡ after
  pub is : ltb (length before) (length piece) ≡ met

pub split : (xs : List ℕ) → Split xs (before_feed xs) (after_feed xs) (has_feed xs)
unfolding before_feed after_feed has_feed
split [] = record { within = omega arith; front = refl; back = refl; is = refl }
split (x ∷ xs) = go (eqb x 10) (split xs)
  where
    further : (n k : ℕ) (b : Bool) → ltb n k ≡ b → ltb (suc n) (suc k) ≡ b
    further n k true e = lt-ltb (suc n) (suc k) (omega (arith, ltb-true n k e))
    further n k false e = le-ltb (suc n) (suc k) (omega (arith, ltb-false n k e))

    go : (b : Bool) → Split xs (before_feed xs) (after_feed xs) (has_feed xs) → Split (x ∷ xs) (elim b [ true ↦ [] | false ↦ x ∷ before_feed xs ]) (elim b [ true ↦ xs | false ↦ after_feed xs ]) (b || has_feed xs)
    go true s = record { within = omega arith; front = refl; back = refl; is = lt-ltb 0 (suc (length xs)) (omega arith) }
    go false s =
        let w = s.within in
        let next : suc (length (before_feed xs)) + 1 ≡ suc (length (before_feed xs) + 1) = omega arith in
        record { within = omega arith; front = ap (λ (l : List ℕ). x ∷ l) s.front; back = ap (λ (k : ℕ). drop k (x ∷ xs)) next ∙ s.back; is = further (length (before_feed xs)) (length xs) (has_feed xs) s.is }

-- ---- The line feed in an input of two pieces

pub record MetBefore (xs ys : List ℕ) : Type 0 where
  pub before : before_feed (xs ++ ys) ≡ before_feed xs
  pub after : after_feed (xs ++ ys) ≡ after_feed xs ++ ys
  pub is : has_feed (xs ++ ys) ≡ true

pub met_before : (xs ys : List ℕ) → has_feed xs ≡ true → MetBefore xs ys
unfolding before_feed after_feed has_feed
met_before [] ys h = false_not_true h
met_before (x ∷ xs) ys h = go (eqb x 10) refl h (λ k. met_before xs ys k)
  where
    go : (b : Bool) → eqb x 10 ≡ b → (b || has_feed xs) ≡ true → (has_feed xs ≡ true → MetBefore xs ys) → MetBefore (x ∷ xs) ys
    go true e h rest = record { before = when_true _ _ _ e ∙ sym (when_true _ _ _ e); after = when_true _ _ _ e ∙ ap (λ (l : List ℕ). l ++ ys) (sym (when_true _ _ _ e)); is = rw e }
    go false e h rest =
        let r = rest h in
        record { before = when_false _ _ _ e ∙ ap (λ (l : List ℕ). x ∷ l) r.before ∙ sym (when_false _ _ _ e); after = when_false _ _ _ e ∙ r.after ∙ ap (λ (l : List ℕ). l ++ ys) (sym (when_false _ _ _ e)); is = rw e r.is }

record NotYet (xs ys : List ℕ) : Type 0 where
  before : before_feed (xs ++ ys) ≡ before_feed xs ++ before_feed ys
  after : after_feed (xs ++ ys) ≡ after_feed xs ++ after_feed ys
  is : has_feed (xs ++ ys) ≡ has_feed ys
  empty : after_feed xs ≡ []

not_yet : (xs ys : List ℕ) → has_feed xs ≡ false → NotYet xs ys
unfolding before_feed after_feed has_feed
not_yet [] ys h = record { before = refl; after = refl; is = refl; empty = refl }
not_yet (x ∷ xs) ys h = go (eqb x 10) refl h (λ k. not_yet xs ys k)
  where
    go : (b : Bool) → eqb x 10 ≡ b → (b || has_feed xs) ≡ false → (has_feed xs ≡ false → NotYet xs ys) → NotYet (x ∷ xs) ys
    go true e h rest = false_not_true (sym h)
    go false e h rest =
        let r = rest h in
        record {
          before = when_false _ _ _ e ∙ ap (λ (l : List ℕ). x ∷ l) r.before ∙ ap (λ (l : List ℕ). l ++ before_feed ys) (sym (when_false _ _ _ e));
          after = when_false _ _ _ e ∙ r.after ∙ ap (λ (l : List ℕ). l ++ after_feed ys) (sym (when_false _ _ _ e));
          is = rw e r.is;
          empty = when_false _ _ _ e ∙ r.empty;
        }

-- ---- A buffer that keeps what fits

module _ (m xs : List ℕ) where
  kept_more : (ys : List ℕ) → over (over m 0 xs) (min (length m) (length xs)) ys ≡ over m 0 (xs ++ ys)
  kept_more ys = go (leb (length xs) (length m)) refl
    where
      go : (b : Bool) → leb (length xs) (length m) ≡ b → over (over m 0 xs) (min (length m) (length xs)) ys ≡ over m 0 (xs ++ ys)
      go true e =
          let all : min (length m) (length xs) ≡ 0 + length xs = omega (arith, leb-true (length xs) (length m) e) in
          ap (λ (p : ℕ). over (over m 0 xs) p ys) all ∙ over_join m 0 xs ys
      go false e =
          let full : length m < length xs = leb-false _ _ e in
          let size = over_length m 0 xs in
          over_past (over m 0 xs) (min (length m) (length xs)) ys (omega arith) ∙ sym (over_past (over m 0 xs) (0 + length xs) ys (omega arith)) ∙ over_join m 0 xs ys

  count_more : (ys : List ℕ) → min (length (over m 0 xs)) (min (length m) (length xs) + length ys) ≡ min (length m) (length (xs ++ ys))
  count_more ys = omega (arith, over_length m 0 xs, length-append xs ys)

  -- what does not fit makes no difference
  cut_same : over m 0 (take (length m) xs) ≡ over m 0 xs
  cut_same =
      let front : List ℕ = take (length m) xs in
      let rest : List ℕ = drop (length m) xs in
      let whole : over (over m 0 front) (0 + length front) rest ≡ over m 0 xs = over_join m 0 front rest ∙ ap (over m 0) (take-append-drop (length m) xs) in
      sym (none_left (leb (length xs) (length m)) refl) ∙ whole
    where
      none_left : (b : Bool) → leb (length xs) (length m) ≡ b → over (over m 0 (take (length m) xs)) (0 + length (take (length m) xs)) (drop (length m) xs) ≡ over m 0 (take (length m) xs)
      none_left true e = let fits : length xs ≤ length m = leb-true _ _ e in over_none _ _ (drop (length m) xs) (omega (arith, length-drop (length m) xs))
      none_left false e =
          let full : length m < length xs = leb-false _ _ e in
          over_past (over m 0 (take (length m) xs)) (0 + length (take (length m) xs)) _ (omega (arith, length-take (length m) xs, over_length m 0 (take (length m) xs)))

  -- as much as fits stands there, and is counted
  kept_part : take (min (length m) (length xs)) (over m 0 xs) ≡ take (length m) xs
  kept_part =
      let size = length-take (length m) xs in
      let count : min (length m) (length xs) ≡ 0 + length (take (length m) xs) = omega arith in
      ap (λ (k : ℕ). take k (over m 0 xs)) count ∙ ap (take (0 + length (take (length m) xs))) (sym cut_same) ∙ over_front m 0 (take (length m) xs) (omega arith)

-- ---- A reading and one more piece

same_reading : {b b' : Bool} {k k' n n' : ℕ} {d d' m m' : List ℕ} → b ≡ b' → k ≡ k' → n ≡ n' → d ≡ d' → m ≡ m'
    → reading (record { met = b; line = k; rest = n }) d m ≡ reading (record { met = b'; line = k'; rest = n' }) d' m'
same_reading b k n d m = λ i. reading (record { met = b i; line = k i; rest = n i }) (d i) (m i)

pub nothing_read : (d m : List ℕ) → reading (record { met = false; line = 0; rest = 0 }) d m ≡ reading_of d m []
unfolding reading_of has_feed before_feed after_feed over
nothing_read d m = same_reading refl (omega arith) (omega arith) refl refl

-- an input in buffers, and one more piece: the input with the piece at its end
pub fed_more : (piece d m input : List ℕ) → fed piece (reading_of d m input) ≡ reading_of d m (input ++ piece)
unfolding fed fed_by reading_of
fed_more piece d m input = go (has_feed input) refl
  where
    at : Progress
    at = record { met = has_feed input; line = min (length d) (length (before_feed input)); rest = min (length m) (length (after_feed input)) }

    go : (b : Bool) → has_feed input ≡ b → fed_by b piece at (over d 0 (before_feed input)) (over m 0 (after_feed input)) ≡ reading_of d m (input ++ piece)
    go true e =
        let r = met_before input piece e in
        same_reading (sym r.is) (ap (λ (l : List ℕ). min (length d) (length l)) (sym r.before))
        (count_more m (after_feed input) piece ∙ ap (λ (l : List ℕ). min (length m) (length l)) (sym r.after))
        (ap (over d 0) (sym r.before)) (kept_more m (after_feed input) piece ∙ ap (over m 0) (sym r.after))
    go false e =
        let r = not_yet input piece e in
        same_reading (sym r.is)
        (count_more d (before_feed input) (before_feed piece) ∙ ap (λ (l : List ℕ). min (length d) (length l)) (sym r.before))
        (count_more m (after_feed input) (after_feed piece) ∙ ap (λ (l : List ℕ). min (length m) (length l)) (sym r.after))
        (kept_more d (before_feed input) (before_feed piece) ∙ ap (over d 0) (sym r.before))
        (kept_more m (after_feed input) (after_feed piece) ∙ ap (over m 0) (sym r.after))

-- as much as fits is kept
pub kept_line_lem : (d m input : List ℕ) → kept_line (reading_of d m input) ≡ take (length d) (before_feed input)
unfolding kept_line reading_of
kept_line_lem d m input = kept_part d (before_feed input)

pub kept_rest_lem : (d m input : List ℕ) → kept_rest (reading_of d m input) ≡ take (length m) (after_feed input)
unfolding kept_rest reading_of
kept_rest_lem d m input = kept_part m (after_feed input)

-- where 65,536 bytes of the rest are kept, and the buffer has no more, what follows makes no difference
rest_count : Reading → ℕ
rest_count (reading p d m) = p.rest

pub full_same : (d m input : List ℕ) {p : Progress} {d' m' : List ℕ} → length m ≡ 65536 → reading p d' m' ≡ reading_of d m input → is_full p ≡ true → (more : List ℕ) → reading_of d m (input ++ more) ≡ reading p d' m'
unfolding reading_of rest_count
full_same d m input {p} size r full more = go (has_feed input) refl ∙ sym r
  where
    rest : List ℕ
    rest = after_feed input

    long : 65536 ≤ min (length m) (length rest)
    long = omega (arith, leb-true 65536 p.rest full, ap rest_count r)

    go : (b : Bool) → has_feed input ≡ b → reading_of d m (input ++ more) ≡ reading_of d m input
    go true e =
        let w = met_before input more e in
        same_reading (w.is ∙ sym e) (ap (λ (l : List ℕ). min (length d) (length l)) w.before)
        (ap (λ (l : List ℕ). min (length m) (length l)) w.after ∙ omega (arith, long, length-append rest more)) (ap (over d 0) w.before)
        (ap (over m 0) w.after ∙ sym (kept_more m rest more) ∙ over_past (over m 0 rest) (min (length m) (length rest)) more (omega (arith, long, over_length m 0 rest)))
    go false e = absurd (omega (arith, long, ap length (not_yet input more e).empty))

-- ---- One law for each way through `feed`

fed_so : {piece : List ℕ} {before after : Reading} → after ≡ fed piece before → Fed piece before after
fed_so {piece} next = record { next = next; more = λ d m input e. next ∙ ap (fed piece) e ∙ fed_more piece d m input }

-- bytes kept in a buffer, in the words of `keep`
abbrev Keeps : (buffer buffer' : List ℕ) → (kept : ℕ) → (bytes : List ℕ) → (count : ℕ) → Type 0
Keeps b b' k bs n = (n ≡ min (length b) (k + length bs)) × (b' ≡ over b k bs)

module _ (piece d m : List ℕ) (at : Progress) where
  pub fed_after : {m' : List ℕ} {n : ℕ} → at.met ≡ true → Keeps m m' at.rest piece n → Fed piece (reading at d m) (reading (record { met = true; line = at.line; rest = n }) d m')
  unfolding fed fed_by
  fed_after met k = fed_so (rw met (same_reading refl refl k.0 refl k.1))

  pub fed_before : {d' m' rest : List ℕ} {e k n : ℕ} → at.met ≡ false → e ≡ length (before_feed piece) → Keeps d d' at.line (take e piece) k → rest ≡ drop (e + 1) piece → Keeps m m' at.rest rest n
      → Fed piece (reading at d m) (reading (record { met = ltb e (length piece); line = k; rest = n }) d' m')
  unfolding fed fed_by
  fed_before {rest = rest} {e = e} met place name back text =
      let s = split piece in
      let front : take e piece ≡ before_feed piece = ap (λ (i : ℕ). take i piece) place ∙ s.front in
      let later : rest ≡ after_feed piece = back ∙ ap (λ (i : ℕ). drop (i + 1) piece) place ∙ s.back in
      let there : ltb e (length piece) ≡ has_feed piece = ap (λ (i : ℕ). ltb i (length piece)) place ∙ s.is in
      fed_so
      (rw met
      (same_reading there
      (name.0 ∙ ap (λ (l : List ℕ). min (length d) (at.line + length l)) front) (text.0 ∙ ap (λ (l : List ℕ). min (length m) (at.rest + length l)) later)
      (name.1 ∙ ap (over d at.line) front) (text.1 ∙ ap (over m at.rest) later)))
