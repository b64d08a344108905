use Rattle.stepper_commands.proofs.LineTexts.{inputs_are_lines, lines_are_told}
use Rattle.stepper_commands.proofs.WordTexts.{words_are_told}
use Rattle.stepper_commands.proofs.Spellings.{lines_spell_commands}
use Rattle.stepper_commands.proofs.Refusing.{lines_are_skipped, lines_are_refused}
use Rattle.stepper_commands.proofs.theorems.commands_are_texts.Goals as goal

pub returns-clause-lines : goal.returns-clause-lines
returns-clause-lines c = inputs_are_lines

pub returns-clause-one_way : goal.returns-clause-one_way
returns-clause-one_way c = lines_are_told

pub returns-clause-words : goal.returns-clause-words
returns-clause-words c = words_are_told

pub returns-clause-spelled : goal.returns-clause-spelled
returns-clause-spelled c = lines_spell_commands

pub returns-clause-skipped : goal.returns-clause-skipped
returns-clause-skipped c = lines_are_skipped

pub returns-clause-refused : goal.returns-clause-refused
returns-clause-refused c = lines_are_refused
