use Rattle.std.proofs.Common.{◌≡◌, ◌+◌, List, ◌++◌, map, length, take, drop, false, sym, ap, ap₂, ◌∙◌}
use Rattle.std.proofs.lemmas.Result.{IfOk-weaker}
use Rattle.world_cells.specs.Events.{Noted}
use Rattle.journal.specs.Items.{item_of}
use Rattle.journal.specs.Journals.{items_of as journal_items, settled_item}
use Rattle.journal.specs.Lines.{line_of}
use Rattle.causality.proofs.Behind.{lines_taken}
use Rattle.book.specs.Books.{settled_lines, open_lines}
use Rattle.book.specs.BookView.{book_of}
use Rattle.serde_json.specs.Data.{Data, array}
use Rattle.serde_json.specs.View.{view, items_of}
use Rattle.serde_json.specs.Written.{has_float, compact_text}
use Rattle.causewaylog.specs.Live.{live_of}
use Rattle.causewaylog.specs.Log.{records_behind, turns_called}
use Rattle.causewaylog.specs.Turns.{live_in, vat_called}
use Rattle.causewaylog.proofs.Living.{live_told, live_both, lines_left}
use Rattle.causewaylog.proofs.Recording.{no_floats}
use Rattle.causewaylog.proofs.log.log_of.Goals as goal

pub returns : goal.returns
returns c =
    let x = c.args.loop_name.now in
    let j = c.journal.result in
    let b = book_of c.args.book.now in
    let items = journal_items j in
    let first : List Noted = live_in (settled_lines b) in
    let es : List Noted = live_in (open_lines b) in
    let settled : live_of (map settled_item j.settled.now) ≡ first =
    sym (live_told items (map settled_item j.settled.now)) ∙ ap live_in (sym (lines_taken (line_of items) j.settled.now (map item_of j.entries.now)) ∙ ap₂ take c.journal.ensures.settled c.journal.ensures.lines) in
    let left : live_of (map item_of j.entries.now) ≡ es =
    sym (live_told items (map item_of j.entries.now)) ∙ ap live_in (sym (lines_left (line_of items) j.settled.now (map item_of j.entries.now)) ∙ ap₂ drop c.journal.ensures.settled c.journal.ensures.lines) in
    let all : live_of items ≡ first ++ es = live_both (map settled_item j.settled.now) (map item_of j.entries.now) ∙ ap₂ (λ (ds fs : List Noted). ds ++ fs) settled left in
    let same : view c.from.result ≡ array (items_of (records_behind x (vat_called x (first ++ es)) first es)) =
    c.from.ensures ∙ ap (λ (ds : List Data). array (items_of ds)) (c.in_ok-records.ensures ∙ (λ i. records_behind x (vat_called x (all i)) (settled i) (left i))) in
    let whole : has_float (view c.from.result) ≡ false =
    ap has_float same ∙ no_floats x (length (turns_called (vat_called x (first ++ es)) first) + 1) (turns_called (vat_called x (first ++ es)) es) in
    IfOk-weaker c.to_string.result _ _ (λ s h. h whole ∙ ap compact_text same) c.to_string.ensures.text
