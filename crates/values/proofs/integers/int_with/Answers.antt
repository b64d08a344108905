use Rattle.std.proofs.Common.{sym, ◌∙◌, w64}
use Rattle.std.proofs.lemmas.Int.{to_z-of_z}
use Rattle.values.specs.Data.{int, and_val, no_vals}
use Rattle.values.specs.View.{val_of}
use Rattle.values.proofs.VerbTexts.{spelled, others}
use Rattle.values.proofs.integers.int_with.Goals as goal

pub returns-in-Some : goal.returns-in-Some
returns-in-Some c = rw (spelled c.args.verb.now c.in-Some.word (sym c.word.ensures ∙ c.in-Some.is)) (rw (to_z-of_z w64 c.args.x c.ranges.x) at c.int_word.ensures)

pub returns-in-None : goal.returns-in-None
returns-in-None c = sym (others (int c.args.x) c.args.verb.now (and_val (val_of c.args.argument.now) no_vals) (sym c.word.ensures ∙ c.in-None.is))
