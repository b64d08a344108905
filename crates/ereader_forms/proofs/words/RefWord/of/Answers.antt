use Rattle.std.proofs.Common.{ap, sym}
use Rattle.ereader_forms.specs.Forms.{ref_word_of}
use Rattle.ereader_forms.proofs.words.RefWord.of.Goals as goal

pub returns-in-promise : goal.returns-in-promise
returns-in-promise c = sym (ap ref_word_of c.in-promise.is)
