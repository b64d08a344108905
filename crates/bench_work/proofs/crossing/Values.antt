-- Values and code may cross.
use denote.Param.Send.{IsSend, IsSync, sendable}
use Rattle.std.proofs.Crossing.{crosses}
use Rattle.values.proofs.value.Items.TheLaws.TheKnot as values
use Rattle.code.proofs.code.Code.TheLaws.TheKnot as codes
use Rattle.kernele.proofs.tree.Expr.TheLaws.TheKnot as trees
use Rattle.values.specs.contracts.value.Value as value
use Rattle.code.specs.contracts.code.Code as code
use Rattle.code.specs.contracts.code.MethodCode as method_code
use Rattle.kernele.specs.contracts.tree.Expr as tree
use Rattle.kernele.specs.contracts.tree.Program as program
use Rattle.bench_work.proofs.crossing.Names.{text_crosses, verb_crosses, pattern_crosses, coded_place_crosses, capture_crosses, index_crosses}

pub value_send : IsSend (value.the_field).row
value_send = search (values.crosses, sendable, crosses) depth 40

pub value_row_send : IsSend value.the_row
value_row_send = search (value_send, values.crosses, sendable, crosses) depth 40

pub value_sync : IsSync (value.the_field).row
value_sync = search (values.crosses, sendable, crosses) depth 40

pub value_row_sync : IsSync value.the_row
value_row_sync = search (value_sync, values.crosses, sendable, crosses) depth 40

pub ruleset value_crosses = (value_send, value_sync, value_row_send, value_row_sync)

pub code_send : IsSend (code.the_field).row
code_send = search (codes.crosses_both, text_crosses, verb_crosses, pattern_crosses, coded_place_crosses, capture_crosses, index_crosses, sendable, crosses) depth 40

pub code_row_send : IsSend code.the_row
code_row_send = search (code_send, codes.crosses_both, text_crosses, verb_crosses, pattern_crosses, coded_place_crosses, capture_crosses, index_crosses, sendable, crosses) depth 40

pub code_sync : IsSync (code.the_field).row
code_sync = search (codes.crosses_both, text_crosses, verb_crosses, pattern_crosses, coded_place_crosses, capture_crosses, index_crosses, sendable, crosses) depth 40

pub code_row_sync : IsSync code.the_row
code_row_sync = search (code_sync, codes.crosses_both, text_crosses, verb_crosses, pattern_crosses, coded_place_crosses, capture_crosses, index_crosses, sendable, crosses) depth 40

pub ruleset code_crosses = (code_send, code_sync, code_row_send, code_row_sync)

pub method_code_send : IsSend (method_code.the_field).row
method_code_send = search (codes.crosses_both, text_crosses, verb_crosses, pattern_crosses, coded_place_crosses, capture_crosses, index_crosses, sendable, crosses) depth 40

pub method_code_row_send : IsSend method_code.the_row
method_code_row_send = search (method_code_send, codes.crosses_both, text_crosses, verb_crosses, pattern_crosses, coded_place_crosses, capture_crosses, index_crosses, sendable, crosses) depth 40

pub method_code_sync : IsSync (method_code.the_field).row
method_code_sync = search (codes.crosses_both, text_crosses, verb_crosses, pattern_crosses, coded_place_crosses, capture_crosses, index_crosses, sendable, crosses) depth 40

pub method_code_row_sync : IsSync method_code.the_row
method_code_row_sync = search (method_code_sync, codes.crosses_both, text_crosses, verb_crosses, pattern_crosses, coded_place_crosses, capture_crosses, index_crosses, sendable, crosses) depth 40

pub ruleset method_code_crosses = (method_code_send, method_code_sync, method_code_row_send, method_code_row_sync)

pub tree_send : IsSend (tree.the_field).row
tree_send = search (trees.crosses_both, text_crosses, verb_crosses, pattern_crosses, sendable, crosses) depth 40

pub tree_row_send : IsSend tree.the_row
tree_row_send = search (tree_send, trees.crosses_both, text_crosses, verb_crosses, pattern_crosses, sendable, crosses) depth 40

pub tree_sync : IsSync (tree.the_field).row
tree_sync = search (trees.crosses_both, text_crosses, verb_crosses, pattern_crosses, sendable, crosses) depth 40

pub tree_row_sync : IsSync tree.the_row
tree_row_sync = search (tree_sync, trees.crosses_both, text_crosses, verb_crosses, pattern_crosses, sendable, crosses) depth 40

pub ruleset tree_crosses = (tree_send, tree_sync, tree_row_send, tree_row_sync)

pub program_send : IsSend (program.the_field).row
program_send = search (tree_crosses, sendable, crosses) depth 40

pub program_row_send : IsSend program.the_row
program_row_send = search (program_send, tree_crosses, sendable, crosses) depth 40

pub program_sync : IsSync (program.the_field).row
program_sync = search (tree_crosses, sendable, crosses) depth 40

pub program_row_sync : IsSync program.the_row
program_row_sync = search (program_sync, tree_crosses, sendable, crosses) depth 40

pub ruleset program_crosses = (program_send, program_sync, program_row_send, program_row_sync)
