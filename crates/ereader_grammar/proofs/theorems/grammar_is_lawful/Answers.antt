use Rattle.ereader_grammar.proofs.Complete.{complete, one_program}
use Rattle.ereader_grammar.proofs.Once.{own_spelling, spelled_once}
use Rattle.ereader_grammar.proofs.Retold.{spells_itself}
use Rattle.ereader_grammar.proofs.Sound.{sound}
use Rattle.ereader_grammar.proofs.Spellable.{reads_back, spellable}
use Rattle.ereader_grammar.proofs.Spelled.{spelled}
use Rattle.ereader_grammar.proofs.theorems.grammar_is_lawful.Goals as goal

pub returns : goal.returns
returns c = record {
  computed = λ a ts. (complete a ts, sound a ts);
  unambiguous = one_program;
  spelled_once = spelled_once;
  spellable = spellable;
  spells_again = spelled;
  spells_itself = spells_itself;
  reads_back = reads_back;
  own_spelling = own_spelling;
}
