use Rattle.std.proofs.Common.{◌≡◌, ◌+◌, ◌++◌, ◌∙◌, ℕ, sym, ap, drop, arith}
use Rattle.std.proofs.lemmas.List.{drop_all}
use Rattle.stepper_streams.proofs.Giving.{leads_first, leads_more, leads_all}
use Rattle.stepper_printing.specs.Show.{name_of}
use Rattle.stepper_printing.specs.ListingView.{row_text, rows_text}
use Rattle.stepper_printing.specs.declared.rows.Row.{Row}
use Rattle.stepper_printing.proofs.EventNames.{rows_cut}
use Rattle.stepper_printing.proofs.listing.put_rows.Goals as goal

pub loop-place-init : goal.loop-place-init
loop-place-init g c =
    let same : c.args.first + 0 ≡ c.args.first = omega arith in
    leads_first g.W.Write.contents c.args.out.now (ap (λ (k : ℕ). rows_text (name_of c.args.vats.now.entries) k c.args.rows.now) same)

pub loop-place-preserved : goal.loop-place-preserved
loop-place-preserved g c =
    let i = c.loop-place.place in
    let names = name_of c.args.vats.now.entries in
    let rows = c.args.rows.now in
    let row = c.index-rows-place.result in
    let rest = rows_text names (c.args.first + (i + 1)) (drop (i + 1) rows) in
    leads_more g.W.Write.contents _ rest c.loop-place.invariant c.put_row.ensures
    (rows_cut names rows c.args.first i row c.loop-place-test.true ∙ ap (λ (r : Row). row_text names (c.args.first + i) r ++ rest) (sym c.index-rows-place.is))

pub returns : goal.returns
returns g c = leads_all g.W.Write.contents c.loop-place.invariant (ap (rows_text (name_of c.args.vats.now.entries) (c.args.first + c.loop-place.place)) (drop_all c.loop-place.place c.args.rows.now c.loop-place-test.false))
