use Rattle.std.proofs.Common.{[], ◌+◌, ◌∙◌, List, refl, map, take, get_or, take_all, subst, arith}
use Rattle.std.proofs.lemmas.List.{take_more}
use Rattle.ids.specs.declared.names.EventName.{EventName}
use Rattle.journal.specs.Items.{item_of}
use Rattle.causality.proofs.Outsiders.{HasFollowers, no_members, more_members}
use Rattle.causality.proofs.parting.outsiders.Goals as goal

pub loop-name-init : goal.loop-name-init
loop-name-init c = no_members c.args.names.now c.new-all.result.items [] (map item_of c.args.journal.entries.now) refl

pub loop-name-preserved : goal.loop-name-preserved
loop-name-preserved c =
    let xs = c.given-given.result.now in
    let i = c.loop-name.name-index in
    let d : EventName = record { 0 = 0 } in
    more_members c.args.names.now c.loop-name.all.items c.add_followers.new.outsiders.items (take i xs) (take (i + 1) xs) (get_or xs i d) (map item_of c.args.journal.entries.now)
    (take_more xs i d c.loop-name-test.true) c.in_ok-add_followers.ensures.kept c.in_ok-add_followers.ensures.all c.loop-name.invariant

pub returns : goal.returns
returns c =
    let xs = c.given-given.result.now in
    subst (λ (ms : List EventName). HasFollowers c.args.names.now ms c.loop-name.all.items (map item_of c.args.journal.entries.now))
    (take_all c.loop-name.name-index xs (omega (arith, c.loop-name-test.false)) ∙ c.given-given.ensures) c.loop-name.invariant
