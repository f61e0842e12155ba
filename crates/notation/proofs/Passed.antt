-- What check 26 finds in a tree written as fields: names that can be spelled, types of the right sort, and constants whose labels rise.
use Prim.Native.Nat.{ℕ, ◌<◌}
use mathlib.Core.Path.{◌≡◌, refl, subst}
use mathlib.Core.Bool.{Bool, true, false, not}
use mathlib.Core.List.{List, [], ◌∷◌}
use mathlib.Core.Option.{Option, none, some}
use Rattle.rules.specs.Bytes.{pick}
use Rattle.rules.specs.Catalog.{high_bytes}
use Rattle.rules.specs.Types.{Types, built_in_types}
use Rattle.rules.specs.Compile.{string_at, same_bytes, is_built_in}
use Rattle.rules.specs.Evaluate.{any}
use Rattle.rules.specs.Fields.{Field, field, Fields, none as fields_end, more}
use Rattle.rules.specs.Tree.{Constant, Expression, constant, variable, top_variable, class_variable, operation, negation, attribute_read, selector, Arms, no_arm, arm, default_arm, AttributeField, Statement, assignment, conditional, choice, built_in_resource, defined_resource, class_with_attributes, include, Block, end, next, Branches, no_branch, branch, default_branch, Parameter, Parent, type_definition, class_definition, Devices, named, by_default, Item, statement, definition}
use Rattle.rules.specs.Tree
use Rattle.rules.proofs.Within.{false_not_true}
use Rattle.rules.proofs.ReadBack.{two_back}
use Rattle.rules.proofs.Lists.{Each, none_left, also, Perhaps, not_there, there}
use Rattle.rules.proofs.Fits.{FitsConstant, FitsExpression, fits_constant, fits_variable, fits_top_variable, fits_class_variable, fits_operation, fits_negation, fits_attribute_read, fits_selector, fits_unreadable, FitsArms, fits_no_arm, fits_arm, fits_default_arm, FitsAttributeField, FitsStatement, fits_assignment, fits_conditional, fits_choice, fits_resource, fits_defined, fits_class, fits_include, fits_unreadable_statement, FitsBlock, fits_end, fits_next, FitsBranches, fits_no_branch, fits_branch, fits_default_branch, FitsParameter, FitsParent, FitsItem, fits_statement_item, fits_node, fits_definition_item, fits_type_definition, fits_class_definitions}
use Rattle.rules.proofs.TypedBack.{constant_field, operator_byte, expression_field, arm_fields, attribute_fields, statement_field, block_fields, branch_fields, default_fields, parameter_fields, parent_fields, device_fields, devices_fields, definition_field, item_field, item_fields}
use Rattle.notation.specs.Building.{resource_tag}
use Rattle.notation.specs.Print.{constants_of, constants_of_arms, constants_of_attributes, constants_of_statement, constants_of_block, constants_of_branches, constants_of_default, constants_of_parameters, constants_of_item}
use Rattle.notation.specs.Printer.{type_right, Gone, past, going, over, over_all}
use Rattle.notation.proofs.EntriesBack.{EachOf}
use Rattle.notation.proofs.ExpressionsBack.{Whole, WholeArms}
use Rattle.notation.proofs.StatementsBack.{WholeAttribute, WholeStatement, WholeBlock, WholeBranches}
use Rattle.notation.proofs.ItemsBack.{WholeItem}
use Rattle.notation.proofs.Spelled.{SpelledExpression, SpelledArms, SpelledAttribute, SpelledStatement, SpelledBlock, SpelledBranches, SpelledParameter, SpelledParent, SpelledItem}
use Rattle.notation.proofs.StatementsLaid.{constants_of_items}
use Rattle.notation.proofs.TypedWhole.{TypesRightStatement, TypesRightBlock, TypesRightBranches, TypesRightItem, TypesRight}
use Rattle.notation.proofs.PassedFields.{Passes, both_pass, then_all, first_passed, bare_passed, name_passed, names_passed, constant_passed, sixteen, seventeen, nineteen, arm_tag, default_tag, block_tag, if_tag, case_tag, branch_tag, node_tag_lem, device_tag, zero_tag, thirteen, fourteen, assignment_tag_lem, built_in_tag, attribute_tag, defined_tag_lem, class_tag_lem, include_tag_lem, type_tag, parameter_tag, definition_tag, parent_tag, fifteen, eighteen}

module _ (types : Types) (strings : List (List ℕ)) where
  -- ---- Expressions

  module _ (Given : Type 0) (given : Given) where
    abbrev Found : Expression → Type 0
    Found e = Whole e → SpelledExpression types (string_at strings) e

    abbrev FoundArms : Arms → Type 0
    FoundArms s = WholeArms s → SpelledArms types (string_at strings) s

    mutual
      unfolding expression_field constants_of over

      pub expression_passed : (e : Expression) → FitsExpression Given e → (l z : ℕ) (g : ℕ → Gone) → going (over types strings (expression_field e) l) g ≡ past z → Passes (Found e) (constants_of e) l g z
      expression_passed (constant c) (fits_constant f) l z g e =
          let p = constant_passed types strings c (f given) l z g e in
          record { found = λ w. tt; rises = p.rises; onward = p.onward }
      expression_passed (variable p n) (fits_variable m) l z g e = let q = name_passed types strings 0x13 thirteen n (m given) fields_end l z g e in record { found = λ w. q.name; rises = tt; onward = q.inside }
      expression_passed (top_variable p n) (fits_top_variable m) l z g e = let q = name_passed types strings 0x14 fourteen n (m given) fields_end l z g e in record { found = λ w. q.name; rises = tt; onward = q.inside }
      expression_passed (class_variable p c n) (fits_class_variable k m) l z g e = let q = names_passed types strings 0x15 fifteen c n (k given) (m given) fields_end l z g e in record { found = λ w. (q.first, q.second); rises = tt; onward = q.inside }
      expression_passed (operation p o a b) (fits_operation h i) l z g e =
          let right : Fields = more (expression_field b) fields_end in
          both_pass (then_all types strings right g) (λ x y w. (x w.0, y w.1)) (expression_passed a h l z (then_all types strings right g) (first_passed types strings (expression_field a) right l z g (bare_passed types strings 0x16 (sixteen types) (operator_byte o ∷ []) (more (expression_field a) right) l z g e)))
          (λ d. expression_passed b i _ z g (first_passed types strings (expression_field b) fields_end _ z g d))
      expression_passed (negation p a) (fits_negation h) l z g e = expression_passed a h l z g (first_passed types strings (expression_field a) fields_end l z g (bare_passed types strings 0x17 (seventeen types) [] (more (expression_field a) fields_end) l z g e))
      expression_passed (attribute_read p t n a) (fits_attribute_read k m h) l z g e =
          let q = names_passed types strings 0x18 eighteen t n (k given) (m given) (more (expression_field a) fields_end) l z g e in
          let r = expression_passed a h l z g (first_passed types strings (expression_field a) fields_end l z g q.inside) in
          record { found = λ w. (q.first, q.second, r.found w); rises = r.rises; onward = r.onward }
      expression_passed (selector p a s) (fits_selector h i) l z g e =
          both_pass (then_all types strings (arm_fields s) g) (λ x y w. (x w.0, y w.2)) (expression_passed a h l z (then_all types strings (arm_fields s) g) (first_passed types strings (expression_field a) (arm_fields s) l z g (bare_passed types strings 0x19 (nineteen types) [] (more (expression_field a) (arm_fields s)) l z g e)))
          (λ d. arms_passed s i _ z g d)
      expression_passed (Expression.unreadable p) fits_unreadable l z g e = record { found = λ w. absurd w; rises = tt; onward = bare_passed types strings 0 (zero_tag types) [] fields_end l z g e }

      arms_passed : (s : Arms) → FitsArms Given s → (l z : ℕ) (g : ℕ → Gone) → going (over_all types strings (arm_fields s) l) g ≡ past z → Passes (FoundArms s) (constants_of_arms s) l g z
      arms_passed no_arm fits_no_arm l z g e = record { found = λ w. tt; rises = tt; onward = e }
      arms_passed (arm c a s) (fits_arm f h i) l z g e =
          let kids : Fields = more (constant_field c) (more (expression_field a) fields_end) in
          let later : ℕ → Gone = then_all types strings (arm_fields s) g in
          let behind : ℕ → Gone = then_all types strings (more (expression_field a) fields_end) later in
          let start = first_passed types strings (constant_field c) (more (expression_field a) fields_end) l z later (bare_passed types strings 0x1a (arm_tag types) [] kids l z later (first_passed types strings (field 0 0x1a [] kids) (arm_fields s) l z g e)) in
          both_pass {Q = FoundArms (arm c a s)} behind (λ x y. y) (constant_passed types strings c (f given) l z behind start)
          (λ d. both_pass later (λ x y w. (x w.0, y w.1)) (expression_passed a h _ z later (first_passed types strings (expression_field a) fields_end _ z later d)) (λ d. arms_passed s i _ z g d))
      arms_passed (default_arm a s) (fits_default_arm h i) l z g e =
          let kids : Fields = more (field 0 0x1b [] fields_end) (more (expression_field a) fields_end) in
          let later : ℕ → Gone = then_all types strings (arm_fields s) g in
          let behind : ℕ → Gone = then_all types strings (more (expression_field a) fields_end) later in
          let start = first_passed types strings (field 0 0x1b [] fields_end) (more (expression_field a) fields_end) l z later (bare_passed types strings 0x1a (arm_tag types) [] kids l z later (first_passed types strings (field 0 0x1a [] kids) (arm_fields s) l z g e)) in
          both_pass later (λ x y w. (x w.0, y w.1)) (expression_passed a h l z later (first_passed types strings (expression_field a) fields_end l z later (bare_passed types strings 0x1b (default_tag types) [] fields_end l z behind start))) (λ d. arms_passed s i _ z g d)

    -- ---- Attributes

    abbrev FoundAttributes : List AttributeField → Type 0
    FoundAttributes fs = EachOf WholeAttribute fs → EachOf (SpelledAttribute types (string_at strings)) fs

    attributes_passed : (fs : List AttributeField) → Each (FitsAttributeField Given) fs → (l z : ℕ) (g : ℕ → Gone) → going (over_all types strings (attribute_fields fs) l) g ≡ past z → Passes (FoundAttributes fs) (constants_of_attributes fs) l g z
    unfolding attribute_fields constants_of_attributes over
    attributes_passed [] none_left l z g e = record { found = λ w. tt; rises = tt; onward = e }
    attributes_passed (f ∷ fs) (also h hs) l z g e =
        let later : ℕ → Gone = then_all types strings (attribute_fields fs) g in
        let kids : Fields = more (expression_field f.expression) fields_end in
        let q = name_passed types strings 0x26 attribute_tag f.name (h.name given) kids l z later (first_passed types strings (field 0 0x26 (high_bytes 2 f.name) kids) (attribute_fields fs) l z g e) in
        both_pass later (λ x y w. ((q.name, x w.0), y w.1)) (expression_passed f.expression h.expression l z later (first_passed types strings (expression_field f.expression) fields_end l z later q.inside))
        (λ d. attributes_passed fs hs _ z g d)

    -- ---- Types

    built_in_type : (t : ℕ) → t < 65536 → type_right types strings 0x25 (high_bytes 2 t) ≡ true → resource_tag types (string_at strings t) ≡ 0x25
    unfolding type_right resource_tag is_built_in high_bytes
    built_in_type t m e = let b : any (same_bytes (string_at strings t)) (built_in_types types) ≡ true = subst (λ (n : ℕ). is_built_in types strings n ≡ true) (two_back t [] m) e in rw b

    defined_type : (t : ℕ) → t < 65536 → type_right types strings 0x27 (high_bytes 2 t) ≡ true → resource_tag types (string_at strings t) ≡ 0x27
    unfolding type_right resource_tag is_built_in high_bytes
    defined_type t m e = go (any (same_bytes (string_at strings t)) (built_in_types types)) (subst (λ (n : ℕ). not (is_built_in types strings n) ≡ true) (two_back t [] m) e)
      where
        go : (b : Bool) → not b ≡ true → ◌≡◌ {A = ℕ} (pick b 0x25 0x27) 0x27
        go true e = false_not_true e
        go false e = refl

    -- ---- Statements

    record FoundStatement (s : Statement) : Type 0 where
      sorts : TypesRightStatement types (string_at strings) s
      spelled : WholeStatement types (string_at strings) s → SpelledStatement types (string_at strings) s

    record FoundBlock (b : Block) : Type 0 where
      sorts : TypesRightBlock types (string_at strings) b
      spelled : WholeBlock types (string_at strings) b → SpelledBlock types (string_at strings) b

    -- the test and the first block of an if
    record IfStart (a : Expression) (y : Block) : Type 0 where
      sorts : TypesRightBlock types (string_at strings) y
      test : Found a
      first : WholeBlock types (string_at strings) y → SpelledBlock types (string_at strings) y

    record FoundBranches (bs : Branches) : Type 0 where
      sorts : TypesRightBranches types (string_at strings) bs
      spelled : WholeBranches types (string_at strings) bs → SpelledBranches types (string_at strings) bs

    mutual
      unfolding statement_field constants_of_statement over

      statement_passed : (s : Statement) → FitsStatement Given s → (l z : ℕ) (g : ℕ → Gone) → going (over types strings (statement_field s) l) g ≡ past z → Passes (FoundStatement s) (constants_of_statement s) l g z
      statement_passed (assignment p n a) (fits_assignment m h) l z g e =
          let q = name_passed types strings 0x21 assignment_tag_lem n (m given) (more (expression_field a) fields_end) l z g e in
          let r = expression_passed a h l z g (first_passed types strings (expression_field a) fields_end l z g q.inside) in
          record { found = record { sorts = tt; spelled = λ w. (q.name, r.found w) }; rises = r.rises; onward = r.onward }
      statement_passed (conditional p a y n) (fits_conditional h i j) l z g e =
          let no : Fields = more (field 0 0x20 [] (block_fields n)) fields_end in
          let yes : Fields = more (field 0 0x20 [] (block_fields y)) no in
          let start = first_passed types strings (expression_field a) yes l z g (bare_passed types strings 0x22 (if_tag types) [] (more (expression_field a) yes) l z g e) in
          both_pass (then_all types strings no g) (λ (x : IfStart a y) (b : FoundBlock n). record { sorts = (x.sorts, b.sorts); spelled = λ w. (x.test w.0, x.first w.1, b.spelled w.2) })
          (both_pass (then_all types strings yes g) (λ x (b : FoundBlock y). record { sorts = b.sorts; test = x; first = b.spelled }) (expression_passed a h l z (then_all types strings yes g) start)
          (λ d. block_passed y i _ z (then_all types strings no g) (bare_passed types strings 0x20 (block_tag types) [] (block_fields y) _ z (then_all types strings no g) (first_passed types strings (field 0 0x20 [] (block_fields y)) no _ z g d))))
          (λ d. block_passed n j _ z g (bare_passed types strings 0x20 (block_tag types) [] (block_fields n) _ z g (first_passed types strings (field 0 0x20 [] (block_fields n)) fields_end _ z g d)))
      statement_passed (choice p a bs) (fits_choice h i) l z g e =
          both_pass (then_all types strings (branch_fields bs) g) (λ x (b : FoundBranches bs). record { sorts = b.sorts; spelled = λ w. (x w.0, b.spelled w.1) })
          (expression_passed a h l z (then_all types strings (branch_fields bs) g) (first_passed types strings (expression_field a) (branch_fields bs) l z g (bare_passed types strings 0x23 (case_tag types) [] (more (expression_field a) (branch_fields bs)) l z g e)))
          (λ d. branches_passed bs i _ z g d)
      statement_passed (built_in_resource p t a fs) (fits_resource m h i) l z g e =
          let q = name_passed types strings 0x25 built_in_tag t (m given) (more (expression_field a) (attribute_fields fs)) l z g e in
          let tag = built_in_type t (m given) q.type in
          both_pass (then_all types strings (attribute_fields fs) g) (λ x (b : FoundAttributes fs). record { sorts = tag; spelled = λ w. (q.name, tag, x w.1, b w.2) })
          (expression_passed a h l z (then_all types strings (attribute_fields fs) g) (first_passed types strings (expression_field a) (attribute_fields fs) l z g q.inside)) (λ d. attributes_passed fs i _ z g d)
      statement_passed (defined_resource p t a fs) (fits_defined m h i) l z g e =
          let q = name_passed types strings 0x27 defined_tag_lem t (m given) (more (expression_field a) (attribute_fields fs)) l z g e in
          let tag = defined_type t (m given) q.type in
          both_pass (then_all types strings (attribute_fields fs) g) (λ x (b : FoundAttributes fs). record { sorts = tag; spelled = λ w. (q.name, tag, x w.1, b w.2) })
          (expression_passed a h l z (then_all types strings (attribute_fields fs) g) (first_passed types strings (expression_field a) (attribute_fields fs) l z g q.inside)) (λ d. attributes_passed fs i _ z g d)
      statement_passed (class_with_attributes p c fs) (fits_class m i) l z g e =
          let q = name_passed types strings 0x28 class_tag_lem c (m given) (attribute_fields fs) l z g e in
          let r = attributes_passed fs i l z g q.inside in
          record { found = record { sorts = tt; spelled = λ w. (q.name, r.found w) }; rises = r.rises; onward = r.onward }
      statement_passed (include p c) (fits_include m) l z g e =
          let q = name_passed types strings 0x29 include_tag_lem c (m given) fields_end l z g e in
          record { found = record { sorts = tt; spelled = λ w. q.name }; rises = tt; onward = q.inside }
      statement_passed (Statement.unreadable p) fits_unreadable_statement l z g e = record { found = record { sorts = tt; spelled = λ w. absurd w }; rises = tt; onward = bare_passed types strings 0 (zero_tag types) [] fields_end l z g e }

      block_passed : (b : Block) → FitsBlock Given b → (l z : ℕ) (g : ℕ → Gone) → going (over_all types strings (block_fields b) l) g ≡ past z → Passes (FoundBlock b) (constants_of_block b) l g z
      block_passed end fits_end l z g e = record { found = record { sorts = tt; spelled = λ w. tt }; rises = tt; onward = e }
      block_passed (next s b) (fits_next h i) l z g e =
          both_pass (then_all types strings (block_fields b) g) (λ (x : FoundStatement s) (y : FoundBlock b). record { sorts = (x.sorts, y.sorts); spelled = λ w. (x.spelled w.0, y.spelled w.1) })
          (statement_passed s h l z (then_all types strings (block_fields b) g) (first_passed types strings (statement_field s) (block_fields b) l z g e)) (λ d. block_passed b i _ z g d)

      branches_passed : (bs : Branches) → FitsBranches Given bs → (l z : ℕ) (g : ℕ → Gone) → going (over_all types strings (branch_fields bs) l) g ≡ past z → Passes (FoundBranches bs) (constants_of_branches bs) l g z
      branches_passed no_branch fits_no_branch l z g e = record { found = record { sorts = tt; spelled = λ w. tt }; rises = tt; onward = e }
      branches_passed (branch c b bs) (fits_branch f h i) l z g e =
          let body : Fields = more (field 0 0x20 [] (block_fields b)) fields_end in
          let later : ℕ → Gone = then_all types strings (branch_fields bs) g in
          let behind : ℕ → Gone = then_all types strings body later in
          let start = first_passed types strings (constant_field c) body l z later (bare_passed types strings 0x24 (branch_tag types) [] (more (constant_field c) body) l z later (first_passed types strings (field 0 0x24 [] (more (constant_field c) body)) (branch_fields bs) l z g e)) in
          both_pass {Q = FoundBranches (branch c b bs)} behind (λ x y. y) (constant_passed types strings c (f given) l z behind start)
          (λ d. both_pass later (λ (x : FoundBlock b) (y : FoundBranches bs). record { sorts = (x.sorts, y.sorts); spelled = λ w. (x.spelled w.0, y.spelled w.1) })
          (block_passed b h _ z later (bare_passed types strings 0x20 (block_tag types) [] (block_fields b) _ z later (first_passed types strings (field 0 0x20 [] (block_fields b)) fields_end _ z later d))) (λ d. branches_passed bs i _ z g d))
      branches_passed (default_branch b bs) (fits_default_branch h i) l z g e =
          let body : Fields = more (field 0 0x20 [] (block_fields b)) fields_end in
          let pattern : Field = field 0 0x1b [] fields_end in
          let later : ℕ → Gone = then_all types strings (branch_fields bs) g in
          let behind : ℕ → Gone = then_all types strings body later in
          let start = bare_passed types strings 0x1b (default_tag types) [] fields_end l z behind (first_passed types strings pattern body l z later (bare_passed types strings 0x24 (branch_tag types) [] (more pattern body) l z later (first_passed types strings (field 0 0x24 [] (more pattern body)) (branch_fields bs) l z g e))) in
          both_pass later (λ (x : FoundBlock b) (y : FoundBranches bs). record { sorts = (x.sorts, y.sorts); spelled = λ w. (x.spelled w.0, y.spelled w.1) })
          (block_passed b h l z later (bare_passed types strings 0x20 (block_tag types) [] (block_fields b) l z later (first_passed types strings (field 0 0x20 [] (block_fields b)) fields_end l z later start))) (λ d. branches_passed bs i _ z g d)

    -- ---- Items

    default_passed : (c : Option Constant) → Perhaps (FitsConstant Given) c → (l z : ℕ) (g : ℕ → Gone) → going (over_all types strings (default_fields c) l) g ≡ past z → Passes (Unit {0}) (constants_of_default c) l g z
    unfolding default_fields constants_of_default over
    default_passed none not_there l z g e = record { found = tt; rises = tt; onward = e }
    default_passed (some c) (there f) l z g e = constant_passed types strings c (f given) l z g (first_passed types strings (constant_field c) fields_end l z g e)

    parameters_passed : (ps : List Parameter) → Each (FitsParameter Given) ps → (ks : Fields) (l z : ℕ) (g : ℕ → Gone) → going (over_all types strings (parameter_fields ps ks) l) g ≡ past z → Passes (EachOf (SpelledParameter types (string_at strings)) ps) (constants_of_parameters ps) l (then_all types strings ks g) z
    unfolding parameter_fields constants_of_parameters
    parameters_passed [] none_left ks l z g e = record { found = tt; rises = tt; onward = e }
    parameters_passed (p ∷ ps) (also h hs) ks l z g e =
        let later : ℕ → Gone = then_all types strings (parameter_fields ps ks) g in
        let q = name_passed types strings 0x33 parameter_tag p.name (h.name given) (default_fields p.default) l z later (first_passed types strings (field 0 0x33 (high_bytes 2 p.name) (default_fields p.default)) (parameter_fields ps ks) l z g e) in
        both_pass later (λ x y. (q.name, y)) (default_passed p.default h.default l z later q.inside) (λ d. parameters_passed ps hs ks _ z g d)

    parent_passed : (p : Option Parent) → Perhaps (FitsParent Given) p → (ks : Fields) (l z : ℕ) (g : ℕ → Gone) → going (over_all types strings (parent_fields p ks) l) g ≡ past z → SpelledParent types (string_at strings) p × (going (over_all types strings ks l) g ≡ past z)
    unfolding parent_fields over
    parent_passed none not_there ks l z g e = (tt, e)
    parent_passed (some p) (there h) ks l z g e =
        let q = name_passed types strings 0x35 parent_tag p.name (h.name given) fields_end l z (then_all types strings ks g) (first_passed types strings (field 0 0x35 (high_bytes 2 p.name) fields_end) ks l z g e) in
        (q.name, q.inside)

    devices_passed : (ns : List ℕ) (ks : Fields) (l z : ℕ) (g : ℕ → Gone) → going (over_all types strings (device_fields ns ks) l) g ≡ past z → going (over_all types strings ks l) g ≡ past z
    unfolding device_fields over
    devices_passed [] ks l z g e = e
    devices_passed (n ∷ ns) ks l z g e =
        devices_passed ns ks l z g (bare_passed types strings 0x31 (device_tag types) (high_bytes 2 n) fields_end l z (then_all types strings (device_fields ns ks) g) (first_passed types strings (field 0 0x31 (high_bytes 2 n) fields_end) (device_fields ns ks) l z g e))

    all_devices_passed : (ds : Devices) (ks : Fields) (l z : ℕ) (g : ℕ → Gone) → going (over_all types strings (devices_fields ds ks) l) g ≡ past z → going (over_all types strings ks l) g ≡ past z
    unfolding devices_fields over
    all_devices_passed (named ns) ks l z g e = devices_passed ns ks l z g e
    all_devices_passed by_default ks l z g e = bare_passed types strings 0x1b (default_tag types) [] fields_end l z (then_all types strings ks g) (first_passed types strings (field 0 0x1b [] fields_end) ks l z g e)

    -- a block that is the last part
    last_block_passed : (b : Block) → FitsBlock Given b → (l z : ℕ) (g : ℕ → Gone) → going (over_all types strings (more (field 0 0x20 [] (block_fields b)) fields_end) l) g ≡ past z → Passes (FoundBlock b) (constants_of_block b) l g z
    unfolding over
    last_block_passed b h l z g e = block_passed b h l z g (bare_passed types strings 0x20 (block_tag types) [] (block_fields b) l z g (first_passed types strings (field 0 0x20 [] (block_fields b)) fields_end l z g e))

    record FoundItem (i : Item) : Type 0 where
      sorts : TypesRightItem types (string_at strings) i
      spelled : WholeItem types (string_at strings) i → SpelledItem types (string_at strings) i

    item_passed : (i : Item) → FitsItem Given i → (l z : ℕ) (g : ℕ → Gone) → going (over types strings (item_field i) l) g ≡ past z → Passes (FoundItem i) (constants_of_item i) l g z
    unfolding item_field definition_field constants_of_item
    item_passed (statement s) (fits_statement_item h) l z g e =
        let p = statement_passed s h l z g e in
        record { found = record { sorts = p.found.sorts; spelled = p.found.spelled }; rises = p.rises; onward = p.onward }
    item_passed (Item.node ds b) (fits_node f h) l z g e =
        let body : Fields = more (field 0 0x20 [] (block_fields b)) fields_end in
        let p = last_block_passed b h l z g (all_devices_passed ds body l z g (bare_passed types strings 0x30 (node_tag_lem types) [] (devices_fields ds body) l z g e)) in
        record { found = record { sorts = p.found.sorts; spelled = λ w. p.found.spelled w.1 }; rises = p.rises; onward = p.onward }
    item_passed (definition (type_definition d)) (fits_definition_item (fits_type_definition h)) l z g e =
        let body : Fields = more (field 0 0x20 [] (block_fields d.body)) fields_end in
        let q = name_passed types strings 0x32 type_tag d.name (h.name given) (parameter_fields d.parameters body) l z g e in
        both_pass (then_all types strings body g) (λ x (y : FoundBlock d.body). record { sorts = y.sorts; spelled = λ w. (q.name, x, y.spelled w) })
        (parameters_passed d.parameters h.parameters body l z g q.inside) (λ d'. last_block_passed d.body h.body _ z g d')
    item_passed (definition (class_definition d)) (fits_definition_item (fits_class_definitions h)) l z g e =
        let body : Fields = more (field 0 0x20 [] (block_fields d.body)) fields_end in
        let q = name_passed types strings 0x34 definition_tag d.name (h.name given) (parent_fields d.parent (parameter_fields d.parameters body)) l z g e in
        let p = parent_passed d.parent h.parent (parameter_fields d.parameters body) l z g q.inside in
        both_pass (then_all types strings body g) (λ x (y : FoundBlock d.body). record { sorts = y.sorts; spelled = λ w. (q.name, p.0, x, y.spelled w) })
        (parameters_passed d.parameters h.parameters body l z g p.1) (λ d'. last_block_passed d.body h.body _ z g d')

    pub record FoundItems (is : List Item) : Type 0 where
      pub sorts : TypesRight types (string_at strings) is
      pub spelled : EachOf (WholeItem types (string_at strings)) is → EachOf (SpelledItem types (string_at strings)) is

    pub items_passed : (is : List Item) → Each (FitsItem Given) is → (l z : ℕ) (g : ℕ → Gone) → going (over_all types strings (item_fields is) l) g ≡ past z → Passes (FoundItems is) (constants_of_items is) l g z
    unfolding item_fields constants_of_items over
    items_passed [] none_left l z g e = record { found = record { sorts = tt; spelled = λ w. tt }; rises = tt; onward = e }
    items_passed (i ∷ is) (also h hs) l z g e =
        both_pass (then_all types strings (item_fields is) g) (λ (x : FoundItem i) (y : FoundItems is). record { sorts = (x.sorts, y.sorts); spelled = λ w. (x.spelled w.0, y.spelled w.1) })
        (item_passed i h l z (then_all types strings (item_fields is) g) (first_passed types strings (item_field i) (item_fields is) l z g e)) (λ d. items_passed is hs _ z g d)
