-- `spelling`: by the kind.
use mathlib.Core.Path.{◌≡◌, sym, ap}
use native.Mathlib.Omega.{arith}
use Rattle.notation.specs.Layout.{sign_of, keyword_of, mark_spelling}
use Rattle.token_writer.proofs.marks.spelling.Goals as goal

pub returns-in-7 : goal.returns-in-7
unfolding mark_spelling sign_of keyword_of
returns-in-7 c = ap mark_spelling (sym c.in-7.is)

pub returns-in-8 : goal.returns-in-8
unfolding mark_spelling sign_of keyword_of
returns-in-8 c = ap mark_spelling (sym c.in-8.is)

pub returns-in-9 : goal.returns-in-9
unfolding mark_spelling sign_of keyword_of
returns-in-9 c = ap mark_spelling (sym c.in-9.is)

pub returns-in-10 : goal.returns-in-10
unfolding mark_spelling sign_of keyword_of
returns-in-10 c = ap mark_spelling (sym c.in-10.is)

pub returns-in-11 : goal.returns-in-11
unfolding mark_spelling sign_of keyword_of
returns-in-11 c = ap mark_spelling (sym c.in-11.is)

pub returns-in-12 : goal.returns-in-12
unfolding mark_spelling sign_of keyword_of
returns-in-12 c = ap mark_spelling (sym c.in-12.is)

pub returns-in-13 : goal.returns-in-13
unfolding mark_spelling sign_of keyword_of
returns-in-13 c = ap mark_spelling (sym c.in-13.is)

pub returns-in-14 : goal.returns-in-14
unfolding mark_spelling sign_of keyword_of
returns-in-14 c = ap mark_spelling (sym c.in-14.is)

pub returns-in-15 : goal.returns-in-15
unfolding mark_spelling sign_of keyword_of
returns-in-15 c = ap mark_spelling (sym c.in-15.is)

pub returns-in-16 : goal.returns-in-16
unfolding mark_spelling sign_of keyword_of
returns-in-16 c = ap mark_spelling (sym c.in-16.is)

pub returns-in-17 : goal.returns-in-17
unfolding mark_spelling sign_of keyword_of
returns-in-17 c = ap mark_spelling (sym c.in-17.is)

pub returns-in-18 : goal.returns-in-18
unfolding mark_spelling sign_of keyword_of
returns-in-18 c = ap mark_spelling (sym c.in-18.is)

pub returns-in-19 : goal.returns-in-19
unfolding mark_spelling sign_of keyword_of
returns-in-19 c = ap mark_spelling (sym c.in-19.is)

pub returns-in-20 : goal.returns-in-20
unfolding mark_spelling sign_of keyword_of
returns-in-20 c = ap mark_spelling (sym c.in-20.is)

pub returns-in-21 : goal.returns-in-21
unfolding mark_spelling sign_of keyword_of
returns-in-21 c = ap mark_spelling (sym c.in-21.is)

pub returns-in-22 : goal.returns-in-22
unfolding mark_spelling sign_of keyword_of
returns-in-22 c = ap mark_spelling (sym c.in-22.is)

pub returns-in-23 : goal.returns-in-23
unfolding mark_spelling sign_of keyword_of
returns-in-23 c = ap mark_spelling (sym c.in-23.is)

pub returns-in-24 : goal.returns-in-24
unfolding mark_spelling sign_of keyword_of
returns-in-24 c = ap mark_spelling (sym c.in-24.is)

pub returns-in-25 : goal.returns-in-25
unfolding mark_spelling sign_of keyword_of
returns-in-25 c = ap mark_spelling (sym c.in-25.is)

pub returns-in-26 : goal.returns-in-26
unfolding mark_spelling sign_of keyword_of
returns-in-26 c = ap mark_spelling (sym c.in-26.is)

pub returns-in-27 : goal.returns-in-27
unfolding mark_spelling sign_of keyword_of
returns-in-27 c = ap mark_spelling (sym c.in-27.is)

pub returns-in-28 : goal.returns-in-28
unfolding mark_spelling sign_of keyword_of
returns-in-28 c = ap mark_spelling (sym c.in-28.is)

pub returns-in-29 : goal.returns-in-29
unfolding mark_spelling sign_of keyword_of
returns-in-29 c = ap mark_spelling (sym c.in-29.is)

pub returns-in-30 : goal.returns-in-30
unfolding mark_spelling sign_of keyword_of
returns-in-30 c = ap mark_spelling (sym c.in-30.is)

pub returns-in-31 : goal.returns-in-31
unfolding mark_spelling sign_of keyword_of
returns-in-31 c = ap mark_spelling (sym c.in-31.is)

pub returns-in-32 : goal.returns-in-32
unfolding mark_spelling sign_of keyword_of
returns-in-32 c = ap mark_spelling (sym c.in-32.is)

pub returns-in-33 : goal.returns-in-33
unfolding mark_spelling sign_of keyword_of
returns-in-33 c = ap mark_spelling (sym c.in-33.is)

pub returns-in-34 : goal.returns-in-34
unfolding mark_spelling sign_of keyword_of
returns-in-34 c = ap mark_spelling (sym c.in-34.is)

pub returns-in-35 : goal.returns-in-35
unfolding mark_spelling sign_of keyword_of
returns-in-35 c = ap mark_spelling (sym c.in-35.is)

pub returns-in_default : goal.returns-in_default
unfolding mark_spelling sign_of keyword_of
returns-in_default c = let last : 36 ≡ c.args.kind = omega arith in ap mark_spelling last
