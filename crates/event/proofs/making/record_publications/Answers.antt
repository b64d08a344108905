use Rattle.post.specs.MessageView.{published_of}
use Rattle.eval_rules.specs.PublicationsView.{publications_of}
use Rattle.world_cells.specs.Theory.{kepts_of}
use Rattle.world_cells.specs.View.{world_of}
use Rattle.event.proofs.Adding.{publish_next}
use Rattle.event.proofs.making.record_publications.Goals as goal

pub loop-place-preserved : goal.loop-place-preserved
loop-place-preserved c = record {
  count = c.loop-place.invariant.count;
  kept =
      publish_next c.args.event (world_of c.args.world.now) (publications_of c.args.publications.now) c.loop-place.place (c.at.result.0, published_of c.at.result.1.now) _ (kepts_of c.loop-place.records.items) (kepts_of c.record_publication.new.records.items)
      c.at.ensures c.loop-place.invariant.kept c.in_ok-record_publication.ensures;
}
