-- A whole compile and a whole schedule with every definition opened, so that the cases compute.
use Prim.Native.Nat.{ℕ}
use mathlib.Core.List.{List}
use mathlib.Core.Bool.{Bool}
use Rattle.labels.specs.declared.Labels.{Labels}
use Rattle.rules.specs.EditRule.{opposite, same_field, same_fields, one_tree, differs_here, differs_in, differs_any, differing}
use Rattle.values.specs.Numbers.{Said}
use Rattle.rules.specs.Outcome.{Outcome}
use Rattle.rules.specs.State.{Entry}
use Rattle.rules.specs.Types.{Types, eight_types, type_places, types_in, lower_case, field_right, types_right, check_list, built_in_types, check_types}
use Rattle.rules.specs.Compile.{Effect, Compiled}
use Rattle.labels.specs.Sets.{no_labels, bit_of, one_label, ◌∪◌, word_of, has}
use Rattle.labels.specs.Bytes.{low_bytes, number_at, label_bytes, labels_from}
use Rattle.labels.specs.Search.{tally, count_below, count_of, first_of, next_from}
use Rattle.values.specs.Numbers.{number_of, said}
use Rattle.rules.specs.Bytes.{two, fields_up, fields_in}
use Rattle.rules.specs.Format.{allowed, forms, form_in, form_of, size, head_size, take, follow, part_may_end, may_end, rest_right, length_right, piece_right, bytes_right, name_right, names_right}
use Rattle.rules.specs.Check.{header, walk, rest, body, inside, shape, ascends, text, rising_from, rising, stride, places_up, places_in, names_known, string_places, check}
use Rattle.rules.specs.Fields.{read_each, read_body, read_field, read_all, wrap, write, write_all, head_of, tag_of, inner, first, others}
use Rattle.rules.specs.Tree.{place_of}
use Rattle.rules.specs.Read.{entry_for, number, signed64, value_from, constant_from, operators, operator_from, is_default, expression_tags, arm_from, arms_from, expression_by, expression_in, expression_from, attribute_from, attributes_from, statement_tags, branch_from, branches_from, statement_by, statement_in, statements_from, block_in, block_from, default_from, parameter_from, parameters_from, last_of, last_block, parent_from, after_parent, names_from, devices_from, item_tags, item_by, item_from, items_from, strings_from, manifest_from, manifest_of}
use Rattle.rules.specs.Outcome.{◌>>=◌, refuse_if, or_refuse, at, joining}
use Rattle.rules.specs.Arithmetic.{integer_in, string_in, boolean_in, fits64, in_range, is_zero, floor_divide, sum, difference, quotient, is_greater, same_integer, same_value}
use Rattle.rules.specs.State.{same_scope, base_scope, parent_of_class, parent_of, upward, no_cell, value_into, mark_into, freed, count, new_cells, scopes_tried, is_declared, take_step, cells_for, is_some, one_if, assign, trail_with, tested, mark_declared, free, with_entry}
use Rattle.rules.specs.Patterns.{first_equal, first_default, chosen, tried_labels, tried, labels_of}
use Rattle.rules.specs.Evaluate.{any, first_with, is_entry, is_attribute, find_type, find_class, is_type, is_class, or_else, read_in, read_attribute, integers, booleans, equality, operate, of_constant, come_to, come_to_all, select, evaluate}
use Rattle.rules.specs.Catalog.{high_bytes, field_bytes, word64, boolean_byte, value_bytes, attribute_bytes, attributes_bytes, entry_bytes, catalog_bytes, bodies_up, bodies, value_of, attribute_of, attributes_of, entry_of, entries_of, read_catalog}
use Rattle.rules.specs.Run.{assigns, assigns_in, assigns_any, declares, declares_in, declares_any, with_path_and_trail, in_branch, stored, store, is_given, evaluate_all, named_once, is_parameter, parameters_known, default_of, taken_default, taken_defaults, given_or, parameter_values, store_all, store_title, attributes_under, entry_from, add_entry, add_resource, after_test, do_nothing, statement_place, run, run_block, base_under, placed_under, in_class, in_body, parent_first, enter_class, declaration_place, declaration, run_at_top, top_context, node_context, defined_name, defined_place, is_definition, is_taken, gather_definitions, run_items}
use Rattle.rules.specs.Types.{Types, eight_types, type_places, types_in, lower_case, field_right, types_right, check_list, built_in_types, check_types}
use Rattle.rules.specs.Compile.{same_bytes, string_at, string_number, title_text, is_built_in, known_with, none_struck_out, names, is_default_node, without_nodes, with_node, is_node, items_for, room_in, start, run_manifest, checked, final_state, onto, entries_in_order, compiled_from, compiled, answer_of, output_of, memory_of, compile}
use Rattle.rules.specs.Schedule.{digits, decimal, signed_decimal, boolean_text, value_text, labels_up, with_commas, labels_text, line_start, attribute_line, attribute_lines, entry_lines_by, entry_lines, steps_line, refusal_line, text_of, before_feed, after_feed, schedule}

-- an answer in document 01's numbers, and all bytes of the output
pub record Seen : Type 0 where
  pub answer : Said
  pub output : List ℕ

unfoldable pub seen : Types → (manifest device : List ℕ) → (limit output memory : ℕ) → Seen
unfolding no_labels bit_of one_label ◌∪◌ word_of has low_bytes number_at label_bytes labels_from tally count_below count_of first_of next_from number_of said two fields_up fields_in allowed forms form_in form_of size head_size take follow part_may_end may_end rest_right length_right piece_right bytes_right name_right names_right header walk rest body inside shape ascends text rising_from rising stride places_up places_in names_known string_places check read_each read_body read_field read_all wrap write write_all head_of tag_of inner first others place_of entry_for number signed64 value_from constant_from operators operator_from is_default expression_tags arm_from arms_from expression_by expression_in expression_from attribute_from attributes_from statement_tags branch_from branches_from statement_by statement_in statements_from block_in block_from default_from parameter_from parameters_from last_of last_block parent_from after_parent names_from devices_from item_tags item_by item_from items_from strings_from manifest_from manifest_of ◌>>=◌ refuse_if or_refuse at joining integer_in string_in boolean_in fits64 in_range is_zero floor_divide sum difference quotient is_greater same_integer same_value same_scope base_scope parent_of_class parent_of upward no_cell value_into mark_into freed count new_cells scopes_tried is_declared take_step cells_for is_some one_if assign trail_with tested mark_declared free with_entry any first_with is_entry is_attribute find_type find_class is_type is_class or_else read_in read_attribute integers booleans equality operate first_equal first_default chosen tried_labels tried labels_of of_constant come_to come_to_all select evaluate high_bytes field_bytes word64 boolean_byte value_bytes attribute_bytes attributes_bytes entry_bytes catalog_bytes bodies_up bodies value_of attribute_of attributes_of entry_of entries_of read_catalog assigns assigns_in assigns_any declares declares_in declares_any with_path_and_trail in_branch stored store is_given evaluate_all named_once is_parameter parameters_known default_of taken_default taken_defaults given_or parameter_values store_all store_title attributes_under entry_from add_entry add_resource after_test do_nothing statement_place run run_block base_under placed_under in_class in_body parent_first enter_class declaration_place declaration run_at_top top_context node_context defined_name defined_place is_definition is_taken gather_definitions run_items same_bytes string_at string_number eight_types type_places types_in lower_case field_right types_right check_list built_in_types check_types title_text is_built_in known_with none_struck_out names is_default_node without_nodes with_node is_node items_for room_in start run_manifest checked final_state onto entries_in_order compiled_from compiled answer_of output_of memory_of compile digits decimal signed_decimal boolean_text value_text labels_up with_commas labels_text line_start attribute_line attribute_lines entry_lines_by entry_lines steps_line refusal_line text_of before_feed after_feed schedule
seen types m device limit output memory =
    let e : Effect = compile types m device limit output memory in
    record { answer = said e.answer; output = e.output_after }

unfoldable pub printed : List ℕ → List ℕ
unfolding no_labels bit_of one_label ◌∪◌ word_of has low_bytes number_at label_bytes labels_from tally count_below count_of first_of next_from number_of said two fields_up fields_in allowed forms form_in form_of size head_size take follow part_may_end may_end rest_right length_right piece_right bytes_right name_right names_right header walk rest body inside shape ascends text rising_from rising stride places_up places_in names_known string_places check read_each read_body read_field read_all wrap write write_all head_of tag_of inner first others place_of entry_for number signed64 value_from constant_from operators operator_from is_default expression_tags arm_from arms_from expression_by expression_in expression_from attribute_from attributes_from statement_tags branch_from branches_from statement_by statement_in statements_from block_in block_from default_from parameter_from parameters_from last_of last_block parent_from after_parent names_from devices_from item_tags item_by item_from items_from strings_from manifest_from manifest_of ◌>>=◌ refuse_if or_refuse at joining integer_in string_in boolean_in fits64 in_range is_zero floor_divide sum difference quotient is_greater same_integer same_value same_scope base_scope parent_of_class parent_of upward no_cell value_into mark_into freed count new_cells scopes_tried is_declared take_step cells_for is_some one_if assign trail_with tested mark_declared free with_entry any first_with is_entry is_attribute find_type find_class is_type is_class or_else read_in read_attribute integers booleans equality operate first_equal first_default chosen tried_labels tried labels_of of_constant come_to come_to_all select evaluate high_bytes field_bytes word64 boolean_byte value_bytes attribute_bytes attributes_bytes entry_bytes catalog_bytes bodies_up bodies value_of attribute_of attributes_of entry_of entries_of read_catalog assigns assigns_in assigns_any declares declares_in declares_any with_path_and_trail in_branch stored store is_given evaluate_all named_once is_parameter parameters_known default_of taken_default taken_defaults given_or parameter_values store_all store_title attributes_under entry_from add_entry add_resource after_test do_nothing statement_place run run_block base_under placed_under in_class in_body parent_first enter_class declaration_place declaration run_at_top top_context node_context defined_name defined_place is_definition is_taken gather_definitions run_items same_bytes string_at string_number eight_types type_places types_in lower_case field_right types_right check_list built_in_types check_types title_text is_built_in known_with none_struck_out names is_default_node without_nodes with_node is_node items_for room_in start run_manifest checked final_state onto entries_in_order compiled_from compiled answer_of output_of memory_of compile digits decimal signed_decimal boolean_text value_text labels_up with_commas labels_text line_start attribute_line attribute_lines entry_lines_by entry_lines steps_line refusal_line text_of before_feed after_feed schedule
printed input = schedule input

-- parts of these by themselves
unfoldable pub open_compiled : Types → (manifest device : List ℕ) → (limit output memory : ℕ) → Outcome Compiled
unfolding no_labels bit_of one_label ◌∪◌ word_of has low_bytes number_at label_bytes labels_from tally count_below count_of first_of next_from number_of said two fields_up fields_in allowed forms form_in form_of size head_size take follow part_may_end may_end rest_right length_right piece_right bytes_right name_right names_right header walk rest body inside shape ascends text rising_from rising stride places_up places_in names_known string_places check read_each read_body read_field read_all wrap write write_all head_of tag_of inner first others place_of entry_for number signed64 value_from constant_from operators operator_from is_default expression_tags arm_from arms_from expression_by expression_in expression_from attribute_from attributes_from statement_tags branch_from branches_from statement_by statement_in statements_from block_in block_from default_from parameter_from parameters_from last_of last_block parent_from after_parent names_from devices_from item_tags item_by item_from items_from strings_from manifest_from manifest_of ◌>>=◌ refuse_if or_refuse at joining integer_in string_in boolean_in fits64 in_range is_zero floor_divide sum difference quotient is_greater same_integer same_value same_scope base_scope parent_of_class parent_of upward no_cell value_into mark_into freed count new_cells scopes_tried is_declared take_step cells_for is_some one_if assign trail_with tested mark_declared free with_entry any first_with is_entry is_attribute find_type find_class is_type is_class or_else read_in read_attribute integers booleans equality operate first_equal first_default chosen tried_labels tried labels_of of_constant come_to come_to_all select evaluate high_bytes field_bytes word64 boolean_byte value_bytes attribute_bytes attributes_bytes entry_bytes catalog_bytes bodies_up bodies value_of attribute_of attributes_of entry_of entries_of read_catalog assigns assigns_in assigns_any declares declares_in declares_any with_path_and_trail in_branch stored store is_given evaluate_all named_once is_parameter parameters_known default_of taken_default taken_defaults given_or parameter_values store_all store_title attributes_under entry_from add_entry add_resource after_test do_nothing statement_place run run_block base_under placed_under in_class in_body parent_first enter_class declaration_place declaration run_at_top top_context node_context defined_name defined_place is_definition is_taken gather_definitions run_items same_bytes string_at string_number eight_types type_places types_in lower_case field_right types_right check_list built_in_types check_types title_text is_built_in known_with none_struck_out names is_default_node without_nodes with_node is_node items_for room_in start run_manifest checked final_state onto entries_in_order compiled_from compiled answer_of output_of memory_of compile digits decimal signed_decimal boolean_text value_text labels_up with_commas labels_text line_start attribute_line attribute_lines entry_lines_by entry_lines steps_line refusal_line text_of before_feed after_feed schedule
open_compiled types m device limit output memory = compiled types m device limit output memory

unfoldable pub open_catalog : List ℕ → List Entry
unfolding no_labels bit_of one_label ◌∪◌ word_of has low_bytes number_at label_bytes labels_from tally count_below count_of first_of next_from number_of said two fields_up fields_in allowed forms form_in form_of size head_size take follow part_may_end may_end rest_right length_right piece_right bytes_right name_right names_right header walk rest body inside shape ascends text rising_from rising stride places_up places_in names_known string_places check read_each read_body read_field read_all wrap write write_all head_of tag_of inner first others place_of entry_for number signed64 value_from constant_from operators operator_from is_default expression_tags arm_from arms_from expression_by expression_in expression_from attribute_from attributes_from statement_tags branch_from branches_from statement_by statement_in statements_from block_in block_from default_from parameter_from parameters_from last_of last_block parent_from after_parent names_from devices_from item_tags item_by item_from items_from strings_from manifest_from manifest_of ◌>>=◌ refuse_if or_refuse at joining integer_in string_in boolean_in fits64 in_range is_zero floor_divide sum difference quotient is_greater same_integer same_value same_scope base_scope parent_of_class parent_of upward no_cell value_into mark_into freed count new_cells scopes_tried is_declared take_step cells_for is_some one_if assign trail_with tested mark_declared free with_entry any first_with is_entry is_attribute find_type find_class is_type is_class or_else read_in read_attribute integers booleans equality operate first_equal first_default chosen tried_labels tried labels_of of_constant come_to come_to_all select evaluate high_bytes field_bytes word64 boolean_byte value_bytes attribute_bytes attributes_bytes entry_bytes catalog_bytes bodies_up bodies value_of attribute_of attributes_of entry_of entries_of read_catalog assigns assigns_in assigns_any declares declares_in declares_any with_path_and_trail in_branch stored store is_given evaluate_all named_once is_parameter parameters_known default_of taken_default taken_defaults given_or parameter_values store_all store_title attributes_under entry_from add_entry add_resource after_test do_nothing statement_place run run_block base_under placed_under in_class in_body parent_first enter_class declaration_place declaration run_at_top top_context node_context defined_name defined_place is_definition is_taken gather_definitions run_items same_bytes string_at string_number eight_types type_places types_in lower_case field_right types_right check_list built_in_types check_types title_text is_built_in known_with none_struck_out names is_default_node without_nodes with_node is_node items_for room_in start run_manifest checked final_state onto entries_in_order compiled_from compiled answer_of output_of memory_of compile digits decimal signed_decimal boolean_text value_text labels_up with_commas labels_text line_start attribute_line attribute_lines entry_lines_by entry_lines steps_line refusal_line text_of before_feed after_feed schedule
open_catalog b = read_catalog b

unfoldable pub open_one_tree : List ℕ → List ℕ → Bool
unfolding no_labels bit_of one_label ◌∪◌ word_of has low_bytes number_at label_bytes labels_from tally count_below count_of first_of next_from number_of said two fields_up fields_in allowed forms form_in form_of size head_size take follow part_may_end may_end rest_right length_right piece_right bytes_right name_right names_right header walk rest body inside shape ascends text rising_from rising stride places_up places_in names_known string_places check read_each read_body read_field read_all wrap write write_all head_of tag_of inner first others place_of entry_for number signed64 value_from constant_from operators operator_from is_default expression_tags arm_from arms_from expression_by expression_in expression_from attribute_from attributes_from statement_tags branch_from branches_from statement_by statement_in statements_from block_in block_from default_from parameter_from parameters_from last_of last_block parent_from after_parent names_from devices_from item_tags item_by item_from items_from strings_from manifest_from manifest_of ◌>>=◌ refuse_if or_refuse at joining integer_in string_in boolean_in fits64 in_range is_zero floor_divide sum difference quotient is_greater same_integer same_value same_scope base_scope parent_of_class parent_of upward no_cell value_into mark_into freed count new_cells scopes_tried is_declared take_step cells_for is_some one_if assign trail_with tested mark_declared free with_entry any first_with is_entry is_attribute find_type find_class is_type is_class or_else read_in read_attribute integers booleans equality operate first_equal first_default chosen tried_labels tried labels_of of_constant come_to come_to_all select evaluate high_bytes field_bytes word64 boolean_byte value_bytes attribute_bytes attributes_bytes entry_bytes catalog_bytes bodies_up bodies value_of attribute_of attributes_of entry_of entries_of read_catalog assigns assigns_in assigns_any declares declares_in declares_any with_path_and_trail in_branch stored store is_given evaluate_all named_once is_parameter parameters_known default_of taken_default taken_defaults given_or parameter_values store_all store_title attributes_under entry_from add_entry add_resource after_test do_nothing statement_place run run_block base_under placed_under in_class in_body parent_first enter_class declaration_place declaration run_at_top top_context node_context defined_name defined_place is_definition is_taken gather_definitions run_items same_bytes string_at string_number eight_types type_places types_in lower_case field_right types_right check_list built_in_types check_types title_text is_built_in known_with none_struck_out names is_default_node without_nodes with_node is_node items_for room_in start run_manifest checked final_state onto entries_in_order compiled_from compiled answer_of output_of memory_of compile digits decimal signed_decimal boolean_text value_text labels_up with_commas labels_text line_start attribute_line attribute_lines entry_lines_by entry_lines steps_line refusal_line text_of before_feed after_feed schedule opposite same_field same_fields one_tree
open_one_tree m m' = one_tree m m'

unfoldable pub open_differing : List ℕ → List ℕ → (label : ℕ) → Bool
unfolding no_labels bit_of one_label ◌∪◌ word_of has low_bytes number_at label_bytes labels_from tally count_below count_of first_of next_from number_of said two fields_up fields_in allowed forms form_in form_of size head_size take follow part_may_end may_end rest_right length_right piece_right bytes_right name_right names_right header walk rest body inside shape ascends text rising_from rising stride places_up places_in names_known string_places check read_each read_body read_field read_all wrap write write_all head_of tag_of inner first others place_of entry_for number signed64 value_from constant_from operators operator_from is_default expression_tags arm_from arms_from expression_by expression_in expression_from attribute_from attributes_from statement_tags branch_from branches_from statement_by statement_in statements_from block_in block_from default_from parameter_from parameters_from last_of last_block parent_from after_parent names_from devices_from item_tags item_by item_from items_from strings_from manifest_from manifest_of ◌>>=◌ refuse_if or_refuse at joining integer_in string_in boolean_in fits64 in_range is_zero floor_divide sum difference quotient is_greater same_integer same_value same_scope base_scope parent_of_class parent_of upward no_cell value_into mark_into freed count new_cells scopes_tried is_declared take_step cells_for is_some one_if assign trail_with tested mark_declared free with_entry any first_with is_entry is_attribute find_type find_class is_type is_class or_else read_in read_attribute integers booleans equality operate first_equal first_default chosen tried_labels tried labels_of of_constant come_to come_to_all select evaluate high_bytes field_bytes word64 boolean_byte value_bytes attribute_bytes attributes_bytes entry_bytes catalog_bytes bodies_up bodies value_of attribute_of attributes_of entry_of entries_of read_catalog assigns assigns_in assigns_any declares declares_in declares_any with_path_and_trail in_branch stored store is_given evaluate_all named_once is_parameter parameters_known default_of taken_default taken_defaults given_or parameter_values store_all store_title attributes_under entry_from add_entry add_resource after_test do_nothing statement_place run run_block base_under placed_under in_class in_body parent_first enter_class declaration_place declaration run_at_top top_context node_context defined_name defined_place is_definition is_taken gather_definitions run_items same_bytes string_at string_number eight_types type_places types_in lower_case field_right types_right check_list built_in_types check_types title_text is_built_in known_with none_struck_out names is_default_node without_nodes with_node is_node items_for room_in start run_manifest checked final_state onto entries_in_order compiled_from compiled answer_of output_of memory_of compile digits decimal signed_decimal boolean_text value_text labels_up with_commas labels_text line_start attribute_line attribute_lines entry_lines_by entry_lines steps_line refusal_line text_of before_feed after_feed schedule differs_here differs_in differs_any differing
open_differing m m' l = differing m m' l

unfoldable pub open_has : Labels → ℕ → Bool
unfolding no_labels bit_of one_label ◌∪◌ word_of has low_bytes number_at label_bytes labels_from tally count_below count_of first_of next_from number_of said two fields_up fields_in allowed forms form_in form_of size head_size take follow part_may_end may_end rest_right length_right piece_right bytes_right name_right names_right header walk rest body inside shape ascends text rising_from rising stride places_up places_in names_known string_places check read_each read_body read_field read_all wrap write write_all head_of tag_of inner first others place_of entry_for number signed64 value_from constant_from operators operator_from is_default expression_tags arm_from arms_from expression_by expression_in expression_from attribute_from attributes_from statement_tags branch_from branches_from statement_by statement_in statements_from block_in block_from default_from parameter_from parameters_from last_of last_block parent_from after_parent names_from devices_from item_tags item_by item_from items_from strings_from manifest_from manifest_of ◌>>=◌ refuse_if or_refuse at joining integer_in string_in boolean_in fits64 in_range is_zero floor_divide sum difference quotient is_greater same_integer same_value same_scope base_scope parent_of_class parent_of upward no_cell value_into mark_into freed count new_cells scopes_tried is_declared take_step cells_for is_some one_if assign trail_with tested mark_declared free with_entry any first_with is_entry is_attribute find_type find_class is_type is_class or_else read_in read_attribute integers booleans equality operate first_equal first_default chosen tried_labels tried labels_of of_constant come_to come_to_all select evaluate high_bytes field_bytes word64 boolean_byte value_bytes attribute_bytes attributes_bytes entry_bytes catalog_bytes bodies_up bodies value_of attribute_of attributes_of entry_of entries_of read_catalog assigns assigns_in assigns_any declares declares_in declares_any with_path_and_trail in_branch stored store is_given evaluate_all named_once is_parameter parameters_known default_of taken_default taken_defaults given_or parameter_values store_all store_title attributes_under entry_from add_entry add_resource after_test do_nothing statement_place run run_block base_under placed_under in_class in_body parent_first enter_class declaration_place declaration run_at_top top_context node_context defined_name defined_place is_definition is_taken gather_definitions run_items same_bytes string_at string_number eight_types type_places types_in lower_case field_right types_right check_list built_in_types check_types title_text is_built_in known_with none_struck_out names is_default_node without_nodes with_node is_node items_for room_in start run_manifest checked final_state onto entries_in_order compiled_from compiled answer_of output_of memory_of compile digits decimal signed_decimal boolean_text value_text labels_up with_commas labels_text line_start attribute_line attribute_lines entry_lines_by entry_lines steps_line refusal_line text_of before_feed after_feed schedule
open_has s n = has s n
