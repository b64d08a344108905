use Rattle.std.proofs.Common.{◌≡◌, ◌≤◌, ◌+◌, Some, length, map, get_or, slice_get, sym, ap, ◌∙◌, subst, arith}
use Rattle.std.specs.List.{AllByRecursion}
use Rattle.ids.specs.declared.cells.CellKey.{CellKey}
use Rattle.journal.specs.Items.{item_of, last_of}
use Rattle.journal.specs.Journals.{items_of, settled_item}
use Rattle.journal.specs.Lines.{causes_in}
use Rattle.journal.proofs.Settling.{one_there}
use Rattle.causality.specs.Causes.{IsWriter}
use Rattle.causality.proofs.Collecting.{places_within, names_of_causes, item_at, behind_there, all_cells, both_ok}
use Rattle.causality.proofs.Following.{all_place}
use Rattle.causality.proofs.Pairs.{all_at_index}
use Rattle.causality.proofs.Telling.{journal_tells}
use Rattle.causality.proofs.Written.{writers_wrote}
use Rattle.causality.proofs.causes.causes.Goals as goal

pub follow-requires-clause-wrote : goal.follow-requires-clause-wrote
follow-requires-clause-wrote c =
    let xs = c.args.journal.entries.now in
    let items = items_of c.args.journal in
    let x = get_or xs c.args.place c.index-journal-place.result in
    let ss = map settled_item c.args.journal.settled.now in
    let at : slice_get items (length ss + c.args.place) ≡ Some (item_of x) = behind_there ss (map item_of xs) c.args.place ∙ item_at xs c.args.place c.index-journal-place.result c.requires.there in
    let cells = c.deref-cell-items.result.now in
    let all : AllByRecursion (λ p. IsWriter items p.0 p.1) (item_of x).lasts = all_place _ items (writers_wrote items (journal_tells items c.requires.journal)) (length ss + c.args.place) (item_of x) at in
    all_at_index last_of (λ (p : CellKey × _). IsWriter items p.0 p.1) cells c.loop-cell.cell-index c.cell-item.result c.loop-cell-test.true c.cell-item.is
    (subst (λ ts. AllByRecursion (λ (p : CellKey × _). IsWriter items p.0 p.1) (map last_of ts)) (sym c.deref-cell-items.ensures.value) all)

pub names_at-requires : goal.names_at-requires
names_at-requires c =
    let xs = c.args.journal.entries.now in
    let items = items_of c.args.journal in
    let x = get_or xs c.args.place c.index-journal-place.result in
    let cells = c.deref-cell-items.result.now in
    let done : length cells ≤ c.loop-cell.cell-index = omega (arith, c.loop-cell-test.false) in
    places_within items (item_of x) c.loop-cell.places.keys (all_cells items x.touched.items cells c.loop-cell.cell-index c.loop-cell.places.keys c.deref-cell-items.ensures.value done c.loop-cell.invariant)

pub returns : goal.returns
returns c =
    let xs = c.args.journal.entries.now in
    let items = items_of c.args.journal in
    let x = get_or xs c.args.place c.index-journal-place.result in
    let cells = c.deref-cell-items.result.now in
    let done : length cells ≤ c.loop-cell.cell-index = omega (arith, c.loop-cell-test.false) in
    let at : slice_get (map item_of xs) c.args.place ≡ Some (item_of x) = item_at xs c.args.place c.index-journal-place.result c.requires.there in
    both_ok _ _ _ c.names_at.result c.names_at.ensures.names c.names_at.ensures.ascending (λ names named up i there.
    named
    ∙ names_of_causes items (item_of x) c.loop-cell.places.keys (all_cells items x.touched.items cells c.loop-cell.cell-index c.loop-cell.places.keys c.deref-cell-items.ensures.value done c.loop-cell.invariant) up
    ∙ ap (causes_in items) (one_there (map item_of xs) c.args.place (item_of x) i at there))
