use Rattle.sends.proofs.Table.{ends_are_taken, forms_are_taken, promises_come, references_come_in, promises_are_entered, references_leave}
use Rattle.sends.proofs.Made.{messages_are_sent, whens_are_made, pairs_are_made, values_are_published, turns_publish, resolvers_resolve, resolvers_smash}
use Rattle.sends.proofs.theorems.cells_are_those_of_the_table.Goals as goal

pub returns : goal.returns
returns c = record {
  ends = ends_are_taken;
  forms = forms_are_taken;
  comes = promises_come;
  come = references_come_in;
  entered = promises_are_entered;
  passed = references_leave;
  sent = messages_are_sent;
  waits = whens_are_made;
  pairs = pairs_are_made;
  published = values_are_published;
  told = turns_publish;
  resolved = resolvers_resolve;
  smashed = resolvers_smash;
}
