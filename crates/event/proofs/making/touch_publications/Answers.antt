use Rattle.std.proofs.Common.{refl}
use Rattle.ids.specs.declared.cells.CellKey.TheVariants as key
use Rattle.post.specs.MessageView.{published_of}
use Rattle.eval_rules.specs.PublicationsView.{publications_of}
use Rattle.event.proofs.Gathering.{mapped_at}
use Rattle.event.proofs.making.touch_publications.Goals as goal

pub loop-place-preserved : goal.loop-place-preserved
loop-place-preserved c = record {
  count = c.loop-place.invariant.count;
  keys =
      mapped_at (λ b. key.Board b.0) (publications_of c.args.publications.now) c.loop-place.place (c.at.result.0, published_of c.at.result.1.now) c.args.touched.now.items c.loop-place.touched.items c.push.new.self.items (key.Board c.at.result.0)
      c.at.ensures c.loop-place.invariant.keys c.in_ok-push.ensures.items refl;
}
