-- `answer`: what is asked for is called, and its answer is written; for another line nothing is.
use mathlib.Core.Path.{refl}
use mathlib.Core.List.{[]}
use native.Mathlib.Omega.{arith}
use Rattle.notation.specs.Convert.{convert}
use Rattle.notation.specs.Printer.{print}
use Rattle.manifest_text.specs.Answers.{types_given, bytes_given, effect_text, place_line, Answers}
use Rattle.manifest_text.proofs.Answering.{all_left}
use Rattle.manifest_text.proofs.answer.Goals as goal

pub write_answer-requires : goal.write_answer-requires
unfolding Answers effect_text
write_answer-requires g c =
    let called = c.convert_given-converted.ensures in
    record { answer = effect_text (convert (types_given c.args.types c.args.given.now) (bytes_given c.args.types c.args.given.now) 65535 65536); right = rw (c.in-Some-Convert.is, rw c.in-Some-Convert.is at c.in-Some-Convert.field-0-is) refl; so = all_left (rw (called.0, called.1) refl) c.requires }

pub write_answer-requires-in-Some-Print : goal.write_answer-requires-in-Some-Print
unfolding Answers effect_text
write_answer-requires-in-Some-Print g c =
    let called = c.print_given-printed.ensures in
    record { answer = effect_text (print (types_given c.args.types c.args.given.now) (bytes_given c.args.types c.args.given.now) 65535 65536); right = rw (c.in-Some-Print.is, rw c.in-Some-Print.is at c.in-Some-Print.field-0-is) refl; so = all_left (rw (called.0, called.1) refl) c.requires }

pub write_numbered-requires : goal.write_numbered-requires
unfolding Answers place_line
write_numbered-requires g c =
    let told = c.place_given-place in
    (record { answer = place_line told.result; right = rw (c.in-Some-Place.is, rw c.in-Some-Place.is at c.in-Some-Place.field-0-is) (record { place = told.result; told = told.ensures; line = refl }); so = all_left refl c.requires }, omega arith, omega arith)

pub returns-in-None : goal.returns-in-None
unfolding Answers
returns-in-None g c = record { answer = []; right = rw c.in-None.is refl; so = c.requires }
