use Rattle.std.proofs.Common.{◌∙◌, [], subst, sym, append-nil}
use Rattle.std.specs.Map.Iter.{deref_pair}
use Rattle.std.proofs.lemmas.Map.Iter.{rest_more, rest_all}
use Rattle.world_cells.specs.View.{world_of}
use Rattle.stepper_printing.specs.Show.{VatLines, vat_lines_none}
use Rattle.stepper_printing.specs.PictureView.{homes_text}
use Rattle.stepper_printing.proofs.Pictures.{homes_more, homes_none}
use Rattle.stepper_printing.proofs.picture.homes_of.Goals as goal

pub loop-number-init : goal.loop-number-init
loop-number-init c = λ lines h. homes_none (world_of c.args.world.now) c.args.vats.now.entries _ c.new-homes.result.items lines c.new-homes.ensures.items
    (c.into_iter-number-iterator.ensures.into_iter_gives ∙ c.iter-number-items.ensures.rest) h

pub loop-number-preserved : goal.loop-number-preserved
loop-number-preserved c =
    let w = world_of c.args.world.now in λ lines h.
    homes_more w c.args.vats.now.entries c.loop-number.number-iterator c.next.new.self c.in-Some.number.now c.in-Some.name.now c.loop-number.homes.items _ _ c.in_ok-push.ensures.items
    c.in_ok-home_of.ensures (rest_more deref_pair _ _ _ _ c.in-Some.is c.next.ensures.steps) lines h c.loop-number.invariant

pub returns : goal.returns
returns c =
    let w = world_of c.args.world.now in
    subst (VatLines w c.args.vats.now.entries) (append-nil (homes_text c.loop-number.homes.items))
    (c.loop-number.invariant [] (subst (λ vs. VatLines w vs []) (sym (rest_all deref_pair _ _ _ c.in-None.is c.next.ensures.steps)) vat_lines_none))
