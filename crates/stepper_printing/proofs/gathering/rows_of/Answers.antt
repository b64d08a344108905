use Rattle.std.proofs.Common.{◌≡◌, ◌+◌, ◌∷◌, ◌++◌, ◌∙◌, append_assoc, append-nil, drop, sym, ap, map, refl, arith}
use Rattle.std.proofs.lemmas.Grind.{common_steps}
use Rattle.std.proofs.lemmas.List.{map-append, drop_all}
use Rattle.std.proofs.lemmas.Option.{slice_get_read, slice_get-map}
use Rattle.std.specs.Option.{option_map}
use Rattle.journal.specs.Items.{item_of}
use Rattle.journal.specs.Journals.{items_of}
use Rattle.journal.specs.Lines.{line_of}
use Rattle.stepper_printing.specs.ListingView.{row_line}
use Rattle.stepper_printing.proofs.EventNames.{cause_line}
use Rattle.stepper_printing.proofs.gathering.rows_of.Goals as goal

pub loop-place-init : goal.loop-place-init
loop-place-init c = ap (λ rows. map row_line rows ++ map (line_of (items_of c.args.journal)) (map item_of c.args.journal.entries.now)) c.in_ok-rows.ensures.items

pub loop-place-preserved : goal.loop-place-preserved
loop-place-preserved c =
    let items = items_of c.args.journal in
    let entries = c.args.journal.entries.now in
    let i = c.loop-place.place in
    let e = c.entry-item.result in
    let at = slice_get-map item_of entries i ∙ ap (option_map item_of) (slice_get_read entries _ i e refl c.loop-place-test.true c.entry-item.is) in
    let line = cause_line items (item_of e) c.in_ok-causes.causes.items (c.in_ok-causes.ensures (item_of e) at) in
    let dropped : drop i entries ≡ e ∷ drop (i + 1) entries = grind (arith, common_steps) in
    let rest = map (line_of items) (map item_of (drop (i + 1) entries)) in
    ap (λ rows. map row_line rows ++ rest) c.in_ok-push.ensures.items ∙ ap (λ ls. ls ++ rest) (map-append row_line c.loop-place.rows.items _)
    ∙ append_assoc (map row_line c.loop-place.rows.items) _ rest ∙ ap (λ l. map row_line c.loop-place.rows.items ++ (l ∷ rest)) line
    ∙ sym (ap (λ es. map row_line c.loop-place.rows.items ++ map (line_of items) (map item_of es)) dropped) ∙ c.loop-place.invariant

pub returns : goal.returns
returns c =
    let items = items_of c.args.journal in
    let entries = c.args.journal.entries.now in
    sym (append-nil (map row_line c.loop-place.rows.items))
    ∙ sym (ap (λ es. map row_line c.loop-place.rows.items ++ map (line_of items) (map item_of es)) (drop_all c.loop-place.place entries c.loop-place-test.false)) ∙ c.loop-place.invariant
