-- Entries: all are written when each is, one after the other; and an attribute is when its parts are. Assumes nothing.
use Prim.Native.Nat.{ℕ, ◌+◌, ◌-◌, ◌≤◌, ◌<◌}
use mathlib.Core.Path.{◌≡◌, refl, sym, ap, ◌∙◌, subst}
use mathlib.Core.Bool.{Bool, true, false}
use mathlib.Core.List.{List, [], ◌∷◌}
use native.Mathlib.Omega.{arith}
use Rattle.wire.proofs.Fields.{no_fields, field_first}
use Rattle.rules.specs.Bytes.{two, end_of, fields_in}
use Rattle.rules.specs.Tree.{Expression, AttributeField}
use Rattle.rules.specs.declared.Kind.{Kind}
use Rattle.rules.specs.declared.Kind.TheVariants.{Attribute}
use Rattle.places.specs.At.{expression_at, attribute_at, attributes_at, StandsAs, Siblings, ended, sibling}
use Rattle.places.proofs.Open.{level}
use Rattle.places.proofs.Statements.{AttributeAt, attribute_opens}
use Rattle.notation.specs.Tokens
use Rattle.notation.specs.Tokens.{Lexeme}
use Rattle.notation.specs.Print.{Rest, at, the, constants_of, line_for, separated, printed, printed_entries, printed_attribute}
use Rattle.token_writer.specs.declared.Pen.{Pen}
use Rattle.statement_printer.specs.Passing.{Going, Passes}
use Rattle.statement_printer.specs.Labels.{first_label}
use Rattle.statement_printer.specs.Forms.{EntryPasses}
use Rattle.statement_printer.proofs.FirstLabel.{expression_line}

-- ---- One entry after the other

-- of the entries that `read` gives at the fields from `first` to e, those from q on are still to be written
pub record EntriesTo {A : Type 0} (p : A → ℕ → Rest → List Lexeme) (read : List ℕ → List A) (m : List ℕ) (d : ℕ) (kind : Kind) (first e q : ℕ) (later : Bool) (out₀ out : List ℕ) (pen₀ pen : Pen) : Type 0 where
  pub left : Siblings m d kind q e
  pub goes : (o w : List ℕ) (k : Rest) → Going o out₀ pen₀ w (printed_entries p (read (fields_in m first e)) false pen₀.line k) → Going o out pen w (printed_entries p (read (fields_in m q e)) later pen.line k)

module _ {A : Type 0} (p : A → ℕ → Rest → List Lexeme) (read : List ℕ → List A) (m : List ℕ) (d : ℕ) (kind : Kind) (first e : ℕ) where
  pub no_entry_yet : {out : List ℕ} {pen : Pen} → Siblings m d kind first e → EntriesTo p read m d kind first e first false out out pen pen
  no_entry_yet s = record { left = s; goes = λ o w k g. g }

  first_entry : {q : ℕ} → q < e → Siblings m d kind q e → StandsAs m d kind q × Siblings m d kind (end_of m q) e
  first_entry l ended = absurd (omega arith)
  first_entry l (sibling before s r) = (s, r)

  pub entry_stands_lem : {q : ℕ} {later : Bool} {out₀ out : List ℕ} {pen₀ pen : Pen} → q < e → EntriesTo p read m d kind first e q later out₀ out pen₀ pen → StandsAs m d kind q
  entry_stands_lem l t = (first_entry l t.left).0

  pub one_entry : {q r : ℕ} {later : Bool} {out₀ out out' : List ℕ} {pen₀ pen pen' : Pen} (x : A) → ((qs : List ℕ) → read (q ∷ qs) ≡ x ∷ read qs)
      → q < e → EntriesTo p read m d kind first e q later out₀ out pen₀ pen → EntryPasses p x later out out' pen pen' → r ≡ end_of m q → EntriesTo p read m d kind first e r true out₀ out' pen₀ pen'
  one_entry {q} {r} {later} {out₀} {out} {out'} {pen₀} {pen} {pen'} x reads l t passes er =
      subst (λ (n : ℕ). EntriesTo p read m d kind first e n true out₀ out' pen₀ pen') (sym er)
      (record {
        left = (first_entry l t.left).1;
        goes = λ o w k g. passes.goes (read (fields_in m (end_of m q) e)) o w k (subst (λ (xs : List A). Going o out pen w (printed_entries p xs later pen.line k)) (ap read (field_first m q e l) ∙ reads (fields_in m (end_of m q) e)) (t.goes o w k g));
      })

  pub all_entries : {q : ℕ} {later : Bool} {out₀ out : List ℕ} {pen₀ pen : Pen} → read [] ≡ [] → e ≤ q → EntriesTo p read m d kind first e q later out₀ out pen₀ pen → Passes out₀ out pen₀ pen (printed_entries p (read (fields_in m first e)) false pen₀.line)
  unfolding printed_entries
  all_entries {q} {later} {out₀} {out} {pen₀} {pen} none l t = record {
    goes = λ o w k g. subst (λ (xs : List A). Going o out pen w (printed_entries p xs later pen.line k)) (ap read (no_fields m q e l) ∙ none) (t.goes o w k g);
  }

-- ---- Attributes

pub attribute_here_lem : {m : List ℕ} {d q : ℕ} → StandsAs m d Attribute q → AttributeAt m d (d - 1) q
attribute_here_lem s = attribute_opens s (level s.stands)

pub no_attributes : (m : List ℕ) (d : ℕ) → attributes_at m d [] ≡ []
unfolding attributes_at
no_attributes m d = refl

pub more_attributes : (m : List ℕ) (d q : ℕ) (qs : List ℕ) → attributes_at m d (q ∷ qs) ≡ attribute_at m d q ∷ attributes_at m d qs
unfolding attributes_at
more_attributes m d q qs = refl

-- name, arrow and expression, on the line of the first constant in it
pub attribute_passes : (S : ℕ → List ℕ) (m : List ℕ) (n q : ℕ) (later : Bool) {a b c d e : List ℕ} {pen u v x pen' : Pen} {k f line : ℕ}
    → StandsAs m n Attribute q → k ≡ two m (q + 3) → f ≡ end_of m (q + 5) → line ≡ first_label m (q + 5) f pen.line → Passes a b pen u (λ rest. separated later pen.line (rest pen.line))
    → Passes b c u v (λ rest. at line (Tokens.word (S k)) ∷ rest line) → Passes c d v x (λ rest. the v.line 15 ∷ rest v.line) → Passes d e x pen' (printed S (expression_at m (n - 1) (q + 5)) 1 x.line)
    → EntryPasses (printed_attribute S) (attribute_at m n q) later a e pen pen'
unfolding printed_entries
attribute_passes S m n q later {a} {b} {c} {pen = pen} {u = u} {v = v} {k = k} s ek ef eline comma name sign expression =
    let body : Expression = expression_at m (n - 1) (q + 5) in
    let here : ℕ = line_for (constants_of body) pen.line in
    let first = eline ∙ ap (λ (y : ℕ). first_label m (q + 5) y pen.line) ef ∙ expression_line m (n - 1) (q + 5) pen.line (attribute_here_lem s).expression in
    let named : Passes b c u v (λ rest. at here (Tokens.word (S (two m (q + 3)))) ∷ rest here) =
    subst (λ (y : ℕ). Passes b c u v (λ rest. at here (Tokens.word (S y)) ∷ rest here)) ek (subst (λ (y : ℕ). Passes b c u v (λ rest. at y (Tokens.word (S k)) ∷ rest y)) first name) in
    record {
      goes = λ after o w k g.
          let follows : Rest = (λ y. printed_entries (printed_attribute S) after true y k) in
          expression.goes o w follows
          (sign.goes o w (λ y. printed S body 1 y follows)
          (named.goes o w (λ y. the y 15 ∷ printed S body 1 y follows)
          (comma.goes o w (λ y. at here (Tokens.word (S (two m (q + 3)))) ∷ the here 15 ∷ printed S body 1 here follows)
          (subst (λ (y : AttributeField). Going o a pen w (printed_entries (printed_attribute S) (y ∷ after) later pen.line k)) (attribute_here_lem s).tree g))));
    }
