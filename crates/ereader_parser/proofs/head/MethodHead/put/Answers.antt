use Rattle.std.proofs.Common.{ap, ◌∙◌}
use Rattle.kernele.specs.View.{methods_of}
use Rattle.ereader_nodes.specs.Nodes.{method_tree}
use Rattle.ereader_grammar.specs.Grammar.{put_method}
use Rattle.ereader_grammar.proofs.Steps.{methods_push}
use Rattle.ereader_parser.proofs.head.MethodHead.put.Goals as goal

pub returns : goal.returns
returns c =
    ap methods_of c.in_ok-push.ensures.items ∙ methods_push c.args.methods.now.items c.in_ok-method.method
    ∙ ap (put_method (methods_of c.args.methods.now.items)) (c.in_ok-method.ensures ∙ ap (method_tree c.args.self.verb c.args.self.parameters.items) c.in_ok-body.ensures)
