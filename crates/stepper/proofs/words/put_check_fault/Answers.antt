use Rattle.std.proofs.Common.{◌++◌, codes, ap, sym, ◌∙◌}
use Rattle.stepper_streams.proofs.Giving.{tells_as}
use Rattle.stepper.specs.Words.{check_text}
use Rattle.stepper.proofs.words.put_check_fault.Goals as goal

pub returns-in-DuplicateName : goal.returns-in-DuplicateName
returns-in-DuplicateName g c =
    tells_as g.W.Write.contents (ap (λ t. codes "K3 DuplicateName " ++ t) c.as_str-in-DuplicateName.ensures ∙ ap check_text (sym c.in-DuplicateName.is)) c.put_about-in-DuplicateName.ensures
