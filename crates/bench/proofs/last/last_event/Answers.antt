use Rattle.std.proofs.Common.{◌≡◌, ◌+◌, ◌-◌, ◌∙◌, ap, arith, length}
use Rattle.std.proofs.lemmas.List.{length-map}
use Rattle.world_cells.specs.EventView.{event_of}
use Rattle.journal.specs.Journals.{items_of}
use Rattle.journal.specs.Lines.{line_of}
use Rattle.book.specs.BookView.{book_of}
use Rattle.bench.proofs.Moves.{items_length, last_entered}
use Rattle.bench.proofs.last.last_event.Goals as goal

pub returns : goal.returns
returns c before e is =
    let ss = c.journal.result.settled.now in
    let es = c.journal.result.entries.now in
    let items = items_of c.journal.result in
    let lines = ap length c.journal.ensures.lines in
    let each = length-map items (line_of items) in
    let all = items_length ss es in
    let long : length es ≡ (length es - 1) + 1 = omega (arith, c.requires, c.journal.ensures.settled, lines, each, all) in
    ap event_of c.of.ensures ∙ last_entered ss es (length es - 1) c.index-entries-entries.result (book_of c.args.book.now).journal before e c.journal.ensures.lines c.index-entries-entries.is long is
