use Rattle.std.proofs.lemmas.Result.{on_ok_weaker}
use Rattle.journal_links.specs.Heirs.{is_heir}
use Rattle.world_cells.specs.Theory.{kepts_of}
use Rattle.journal.specs.Items.{lasts_of}
use Rattle.journal.proofs.Linked.{listed_kept, listed_widely}
use Rattle.journal.proofs.linking.list_widely.Goals as goal

pub returns-clause-ok : goal.returns-clause-ok
returns-clause-ok c =
    let before = is_heir c.list_all.new.heirs in
    let after = is_heir c.list_exactly.new.heirs in
    let lasts = lasts_of c.args.touched.now in
    on_ok_weaker c.list_exactly.result (listed_widely after c.args.event lasts (kepts_of c.args.records.now) (listed_kept before after c.list_exactly.ensures.kept c.args.event lasts c.in_ok-list_all.ensures.ok)) c.list_exactly.ensures.ok
