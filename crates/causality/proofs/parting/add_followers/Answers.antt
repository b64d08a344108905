use Rattle.std.proofs.Common.{◌∙◌, sym}
use Rattle.std.proofs.lemmas.Bool.{or_left}
use Rattle.std.proofs.lemmas.Result.{on_ok_weaker}
use Rattle.history.specs.Journal.{is_in}
use Rattle.causality.specs.Selections.{numbers}
use Rattle.causality.proofs.Outsiders.{listed_out, any_out}
use Rattle.causality.proofs.parting.add_followers.Goals as goal

pub returns-in-Some-clause-kept : goal.returns-in-Some-clause-kept
returns-in-Some-clause-kept c = on_ok_weaker c.add_listed.result (λ h e was. h e ∙ or_left (is_in (numbers c.args.outsiders.now.items) e.0) _ was) c.add_listed.ensures

pub returns-in-Some-clause-all : goal.returns-in-Some-clause-all
returns-in-Some-clause-all c =
    let j = c.args.journal in
    on_ok_weaker c.add_listed.result (λ h. listed_out j.places.now j.settled.now j.entries.now c.args.names.now j.placed c.requires j.followers.now c.args.event c.in-Some.followers.now c.args.outsiders.now.items c.add_listed.new.outsiders.items j.followed (sym c.in-Some.ensures) h) c.add_listed.ensures

pub returns-in-None-clause-kept : goal.returns-in-None-clause-kept
returns-in-None-clause-kept c = on_ok_weaker c.add_any.result (λ h e was. h e ∙ or_left (is_in (numbers c.args.outsiders.now.items) e.0) _ was) c.add_any.ensures

pub returns-in-None-clause-all : goal.returns-in-None-clause-all
returns-in-None-clause-all c =
    let j = c.args.journal in
    on_ok_weaker c.add_any.result (λ h. any_out j.places.now j.settled.now j.entries.now c.args.names.now j.placed c.requires c.args.event c.args.outsiders.now.items c.add_any.new.outsiders.items h) c.add_any.ensures
