-- The answer of a call is written as a whole, and what is kept of an input has the answers of the whole input. Assumes nothing.
use Rattle.std.specs.Prelude.{None, Some, Result, OnOk}
use Rattle.std.proofs.lemmas.Result.{on_ok_weaker}
use Rattle.standard_streams.specs.declared.NotSent.{NotSent}
use Rattle.manifest_text.specs.declared.Command.TheVariants.{Convert, Place, Print}
use Rattle.manifest_text.specs.Commands.{BuiltIn, Asked}
use Prim.Native.Nat.{ℕ, ◌≤◌, ◌<◌}
use mathlib.Core.Path.{◌≡◌, refl, sym, ap, ◌∙◌}
use mathlib.Core.Bool.{Bool, true, false, or-true}
use mathlib.Core.List.{List, ◌∷◌, ◌++◌}
use native.Mathlib.Omega.{arith}
use borrow.Author.Tests.{leb-true, leb-false, lt-ltb}
use lib.Dec.{eqb, leb}
use lib.ListN.{length, take, drop, length-append, length-take, length-drop}
use lib.Seq.{take_all, take-take, take-append_seam}
use Rattle.rules.specs.Compile.{checked}
use Rattle.rules.specs.Types.{Types, the_eight, lent, check_types}
use Rattle.type_list.specs.Listed.{chosen}
use Rattle.type_list.proofs.Searching.{lent_chosen, chosen_sound}
use Rattle.values.specs.declared.Reason.{Reason}
use Rattle.values.specs.declared.Reason.TheVariants.{OutsideNotation, ManifestLength}
use Rattle.values.specs.Numbers.{number_of}
use Rattle.values.specs.Decimal.{decimal}
use Rattle.values.proofs.Digits.{decimal_short}
use Rattle.rules.specs.Outcome.{Outcome, refused, done, ◌>>=◌, refuse_if}
use Rattle.rules.specs.Schedule.{refusal_line, before_feed, after_feed}
use Rattle.notation.specs.Convert.{answer_of, output_of, effect_of, converted, convert}
use Rattle.notation.specs.Printer.{printed_text, print}
use Rattle.input.specs.declared.Progress.{Progress}
use Rattle.input.specs.Reading.{reading, reading_of, kept_line, kept_rest}
use Rattle.input.proofs.Feeding.{kept_line_lem, kept_rest_lem}
use Rattle.standard_streams.specs.Sending.{Left}
use Rattle.text_places.specs.Places.{PlaceGiven}
use Rattle.manifest_text.specs.Commands.{command_in, types_in}
use Rattle.manifest_text.specs.Answers.{types_given, bytes_given, numbered_text, written_text, answer_text, effect_text, Answers, AnAnswer}
use Rattle.manifest_text.proofs.FirstLine.{list_size, list_low, same_types_in, same_command}
use Rattle.std.specs.Prelude.{Ok}
use Rattle.notation.specs.Answers.{Answer}
use Rattle.values.specs.Answers.{refused_for}

-- ---- The answer of a call is what is left to write

pub all_left : {whole text : List ℕ} {sent : ℕ} → whole ≡ text → sent ≡ 0 → Left whole sent text
all_left e none = record { rest = rw none e; few = omega arith }

-- what holds of an answer, and what follows from it
pub then_so : {types : BuiltIn} {command : Asked} {given : List ℕ} {Is Then : List ℕ → Type 0} → AnAnswer types command given Is → ((a : List ℕ) → Is a → Then a) → AnAnswer types command given Then
then_so x f = record { answer = x.answer; right = x.right; so = f x.answer x.so }

-- after the last of its bytes
pub then_all : {types : BuiltIn} {command : Asked} {given : List ℕ} {Is : List ℕ → Type 0} (r : Result Unit NotSent) (sent n : ℕ) → AnAnswer types command given Is → OnOk r (sent ≡ n) → ((a : List ℕ) → Is a → n ≡ length a) → OnOk r (AnAnswer types command given (λ a. sent ≡ length a))
then_all r sent n x written all = on_ok_weaker r (λ e. then_so x (λ a is. e ∙ all a is)) written

-- the same types, command and bytes have the same answers
pub same_so : {types types' : BuiltIn} {command command' : Asked} {given given' : List ℕ} {Is : List ℕ → Type 0} → types ≡ types' → command ≡ command' → given ≡ given' → AnAnswer types command given Is → AnAnswer types' command' given' Is
same_so d e f x = record { answer = x.answer; right = rw (← d, ← e, ← f) x.right; so = x.so }

module _ {whole : List ℕ} {sent : ℕ} {answer : Answer} (output : List ℕ) (l : Left whole sent (answer_text answer output)) where
  pub result_left : {n : ℕ} {bytes : List ℕ} → answer ≡ Ok n → bytes ≡ take n output → Left whole sent (written_text bytes)
  unfolding answer_text
  result_left is e = rw e (rw is at l)

  pub refusal_left : {r : Reason} {p : ℕ} → answer ≡ refused_for r p → Left whole sent (refusal_line (number_of r) p)
  unfolding answer_text
  refusal_left is = rw is at l

-- a result is written whole
pub result_whole : (result : List ℕ) (memory : ℕ) → effect_text (effect_of 65535 memory (done result)) ≡ written_text result
unfolding effect_text answer_text effect_of answer_of output_of
result_whole result memory = ap written_text (take-append_seam result _)

-- a buffer of 65,600 bytes has room for it
module _ (word : List ℕ) (number : ℕ) (bytes : List ℕ) where
  pub numbered_short : length word ≤ 8 → length bytes ≤ 65535 → number < 18446744073709551616 → length (numbered_text word number bytes) ≤ 65600
  unfolding numbered_text
  numbered_short w b n = omega (arith, length-append word (decimal number ++ (10 ∷ bytes)), length-append (decimal number) (10 ∷ bytes), decimal_short number n)

  pub numbered_some : 1 ≤ length (numbered_text word number bytes)
  unfolding numbered_text
  numbered_some = omega (arith, length-append word (decimal number ++ (10 ∷ bytes)), length-append (decimal number) (10 ∷ bytes))

-- ---- What a call is given

module _ {B : Type 0} (f : Types → List ℕ → B) {types : BuiltIn} (given : List ℕ) where
  pub with_eight : types ≡ None → f the_eight given ≡ f (types_given types given) (bytes_given types given)
  unfolding types_given bytes_given
  with_eight e = rw e refl

  pub with_list : {size : ℕ} {list bytes : List ℕ} → types ≡ Some size → list ≡ take size given → bytes ≡ drop size given → f (lent list) bytes ≡ f (types_given types given) (bytes_given types given)
  unfolding types_given bytes_given
  with_list e l b = rw (e, l, b) refl

-- a list that is lent is the one chosen, unless it is at fault
pub lent_place : (list : List ℕ) {text : List ℕ} {offset room place : ℕ} → PlaceGiven (chosen list) text offset room place → PlaceGiven (lent list) text offset room place
unfolding check_types
lent_place list h = record { low = h.low; right = λ sound. rw (lent_chosen list sound) at (h.right (chosen_sound list sound)) }

-- ---- 196,608 bytes of what is given are enough: a list has at most 100,000 of them

-- what is longer than 65,535 bytes is refused for its length, whatever it is, if the list of types is not
unfoldable length_refused : Types → Reason → Outcome (List ℕ)
length_refused types reason = checked (check_types types) >>= λ _. refused reason 0

long_text : (types : Types) (given : List ℕ) → 65535 < length given → converted types given 65535 65536 ≡ length_refused types OutsideNotation
unfolding converted refuse_if ◌>>=◌ length_refused checked
long_text types given long = rw (lt-ltb 65535 (length given) long) refl

long_manifest : (types : Types) (given : List ℕ) → 65535 < length given → printed_text types given 65535 65536 ≡ length_refused types ManifestLength
unfolding printed_text refuse_if ◌>>=◌ length_refused checked
long_manifest types given long = rw (lt-ltb 65535 (length given) long, or-true (eqb (length given) 0)) refl

module _ (types : BuiltIn) (given : List ℕ) (low : list_size types ≤ 100000) where
  -- the list is kept whole
  same_types : types_given types (take 196608 given) ≡ types_given types given
  unfolding types_given list_size
  same_types = go types low
    where
      go : (b : BuiltIn) → list_size b ≤ 100000 → types_given b (take 196608 given) ≡ types_given b given
      go None few = refl
      go (Some n) few = ap lent (take-take n 196608 given (omega arith))

  -- and so much of what follows it that it is too long where it is cut
  cut_long : (b : BuiltIn) (g : List ℕ) → list_size b ≤ 100000 → 196608 ≤ length g → 65535 < length (bytes_given b g)
  unfolding bytes_given list_size
  cut_long None g few long = omega arith
  cut_long (Some n) g few long = omega (arith, length-drop n g)

  same_call : {B : Type 0} (f : Types → List ℕ → B) (v : Types → B) → ((t : Types) (l : List ℕ) → 65535 < length l → f t l ≡ v t) → f (types_given types (take 196608 given)) (bytes_given types (take 196608 given)) ≡ f (types_given types given) (bytes_given types given)
  same_call f v long = go (leb (length given) 196608) refl
    where
      go : (b : Bool) → leb (length given) 196608 ≡ b → f (types_given types (take 196608 given)) (bytes_given types (take 196608 given)) ≡ f (types_given types given) (bytes_given types given)
      go true e = ap (λ (g : List ℕ). f (types_given types g) (bytes_given types g)) (take_all 196608 given (leb-true (length given) 196608 e))
      go false e =
          let over : 196608 < length given = leb-false _ _ e in
          long _ _ (cut_long types (take 196608 given) low (omega (arith, length-take 196608 given))) ∙ ap v same_types ∙ sym (long _ _ (cut_long types given low (omega arith)))

  -- nothing is said of a place in a text that is too long
  same_told : (field : ℕ) {room place : ℕ} → PlaceGiven (types_given types (take 196608 given)) (bytes_given types (take 196608 given)) field room place → PlaceGiven (types_given types given) (bytes_given types given) field room place
  same_told field {room} {place} h = go (leb (length given) 196608) refl
    where
      go : (b : Bool) → leb (length given) 196608 ≡ b → PlaceGiven (types_given types given) (bytes_given types given) field room place
      go true e = rw (take_all 196608 given (leb-true (length given) 196608 e)) at h
      go false e =
          let over : 196608 < length given = leb-false _ _ e in
          let long : 65535 < length (bytes_given types given) = cut_long types given low (omega arith) in
          record { low = h.low; right = λ sound. record { low = h.low; right = λ short. absurd (omega arith) } }

  same_answer : (command : Asked) (answer : List ℕ) → Answers types command (take 196608 given) answer → Answers types command given answer
  unfolding Answers convert print
  same_answer (Some Convert) answer h = h ∙ ap (λ (o : Outcome (List ℕ)). effect_text (effect_of 65535 65536 o)) (same_call (λ t l. converted t l 65535 65536) (λ t. length_refused t OutsideNotation) long_text)
  same_answer (Some Print) answer h = h ∙ ap (λ (o : Outcome (List ℕ)). effect_text (effect_of 65535 65536 o)) (same_call (λ t l. printed_text t l 65535 65536) (λ t. length_refused t ManifestLength) long_manifest)
  same_answer (Some (Place field)) answer h = record { place = h.place; told = same_told field h.told; line = h.line }
  same_answer None answer h = h

-- what buffers of 256 and 196,608 bytes keep of an input has the answers of the input
pub read_answer : (d m input : List ℕ) (p : Progress) (line given : List ℕ) {Is : List ℕ → Type 0} → length d ≡ 256 → length m ≡ 196608 → reading p line given ≡ reading_of d m input → AnAnswer (types_in (take p.line line)) (command_in (take p.line line)) (take p.rest given) Is → AnAnswer (types_in (before_feed input)) (command_in (before_feed input)) (after_feed input) Is
unfolding kept_line kept_rest
read_answer d m input p line given name text e x =
    let word : take p.line line ≡ take 256 (before_feed input) = ap kept_line e ∙ kept_line_lem d m input ∙ ap (λ (n : ℕ). take n (before_feed input)) name in
    let rest : take p.rest given ≡ take 196608 (after_feed input) = ap kept_rest e ∙ kept_rest_lem d m input ∙ ap (λ (n : ℕ). take n (after_feed input)) text in
    let y = same_so (ap types_in word ∙ same_types_in (before_feed input)) (ap command_in word ∙ same_command (before_feed input)) rest x in
    record { answer = y.answer; right = same_answer _ (after_feed input) (list_low (before_feed input)) _ y.answer y.right; so = y.so }
