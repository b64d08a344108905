use Rattle.std.proofs.Common.{◌∙◌, ◌+◌, ◌-◌, ◌<◌, length, take, drop, ap, arith}
use Rattle.std.specs.List.{list_all}
use Rattle.std.proofs.lemmas.List.{length-drop}
use Rattle.undo.specs.Emptied.{is_emptied}
use Rattle.undo.proofs.Exchanging.{swap_is, drop_turned, take_turned}
use Rattle.undo.proofs.open_entries.OpenEntries.exchange.Goals as goal

pub invariant_of-self-clause-few : goal.invariant_of-self-clause-few
invariant_of-self-clause-few c = let b = c.args.self.now in omega (arith, b.few, b.all.ok.0, c.swap.new.self.ok.0, c.swap.ensures.len)

pub invariant_of-self-clause-light : goal.invariant_of-self-clause-light
invariant_of-self-clause-light c =
    let b = c.args.self.now in
    let xs = b.all.items in
    let i = b.emptied + c.args.place in
    let h : i + 1 < length xs = omega (arith, length-drop b.emptied xs, c.requires) in
    ap (λ l. list_all is_emptied (take b.emptied l)) (c.swap.ensures.items ∙ swap_is xs i h)
    ∙ ap (list_all is_emptied) (take_turned b.emptied c.args.place xs) ∙ b.light

pub returns : goal.returns
returns c =
    let b = c.args.self.now in
    let xs = b.all.items in
    let i = b.emptied + c.args.place in
    let h : i + 1 < length xs = omega (arith, length-drop b.emptied xs, c.requires) in
    ap (drop b.emptied) (c.swap.ensures.items ∙ swap_is xs i h) ∙ drop_turned b.emptied c.args.place xs
