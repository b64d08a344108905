use Rattle.std.proofs.Common.{ap, ◌∙◌}
use Rattle.values.specs.Data.{list, gives}
use Rattle.values.specs.Replies.{joined}
use Rattle.values.specs.View.{vals_of}
use Rattle.values.proofs.Tables.{kept}
use Rattle.values.proofs.lists.joined_list.Goals as goal

pub returns : goal.returns
returns c =
    ap gives (ap list (c.in_ok-new.ensures.ok ∙ c.in_ok-extend.ensures ∙ ap (λ vs. joined vs (vals_of c.args.second.now)) c.in_ok-both.ensures))
    ∙ kept (list (joined c.args.first.now (vals_of c.args.second.now))) _ c.fits_list.ensures.fits c.if-not-fits_list.false
