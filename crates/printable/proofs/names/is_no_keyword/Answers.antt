-- `is_no_keyword`: by the number.
use native.Mathlib.Omega.{arith}
use borrow.Author.Tests.{ne_eqb}
use Rattle.notation.specs.Printer.{no_keyword}
use Rattle.printable.proofs.names.is_no_keyword.Goals as goal

pub returns-in-6581857 : goal.returns-in-6581857
unfolding no_keyword
returns-in-6581857 c = rw c.in-6581857.is

pub returns-in-1702060387 : goal.returns-in-1702060387
unfolding no_keyword
returns-in-1702060387 c = rw c.in-1702060387.is

pub returns-in-495857003619 : goal.returns-in-495857003619
unfolding no_keyword
returns-in-495857003619 c = rw c.in-495857003619.is

pub returns-in-32770348699510116 : goal.returns-in-32770348699510116
unfolding no_keyword
returns-in-32770348699510116 c = rw c.in-32770348699510116.is

pub returns-in-111524889126244 : goal.returns-in-111524889126244
unfolding no_keyword
returns-in-111524889126244 c = rw c.in-111524889126244.is

pub returns-in-1702063205 : goal.returns-in-1702063205
unfolding no_keyword
returns-in-1702063205 c = rw c.in-1702063205.is

pub returns-in-435728179558 : goal.returns-in-435728179558
unfolding no_keyword
returns-in-435728179558 c = rw c.in-435728179558.is

pub returns-in-26217 : goal.returns-in-26217
unfolding no_keyword
returns-in-26217 c = rw c.in-26217.is

pub returns-in-28539428140183145 : goal.returns-in-28539428140183145
unfolding no_keyword
returns-in-28539428140183145 c = rw c.in-28539428140183145.is

pub returns-in-8319390351708679785 : goal.returns-in-8319390351708679785
unfolding no_keyword
returns-in-8319390351708679785 c = rw c.in-8319390351708679785.is

pub returns-in-1701080942 : goal.returns-in-1701080942
unfolding no_keyword
returns-in-1701080942 c = rw c.in-1701080942.is

pub returns-in-29295 : goal.returns-in-29295
unfolding no_keyword
returns-in-29295 c = rw c.in-29295.is

pub returns-in-1702195828 : goal.returns-in-1702195828
unfolding no_keyword
returns-in-1702195828 c = rw c.in-1702195828.is

pub returns-in_default : goal.returns-in_default
unfolding no_keyword
returns-in_default c =
    let x = c.args.n in
    rw (ne_eqb x 0x646e61 (λ e. absurd (omega arith)), ne_eqb x 0x65736163 (λ e. absurd (omega arith)), ne_eqb x 0x7373616c63 (λ e. absurd (omega arith)), ne_eqb x 0x746c7561666564 (λ e. absurd (omega arith)), ne_eqb x 0x656e69666564 (λ e. absurd (omega arith)), ne_eqb x 0x65736c65 (λ e. absurd (omega arith)), ne_eqb x 0x65736c6166 (λ e. absurd (omega arith)), ne_eqb x 0x6669 (λ e. absurd (omega arith)), ne_eqb x 0x6564756c636e69 (λ e. absurd (omega arith)), ne_eqb x 0x7374697265686e69 (λ e. absurd (omega arith)), ne_eqb x 0x65646f6e (λ e. absurd (omega arith)), ne_eqb x 0x726f (λ e. absurd (omega arith)), ne_eqb x 0x65757274 (λ e. absurd (omega arith)))
