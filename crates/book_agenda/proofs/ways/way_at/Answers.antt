use Rattle.std.proofs.Common.{◌≡◌, List, true, Some, map, rules, sym, ap, ◌∙◌}
use Rattle.ids.specs.declared.names.MsgId.{MsgId}
use Rattle.post.specs.MessageView.{message_of}
use Rattle.post.specs.declared.message.Sent.{Sent}
use Rattle.world_cells.specs.View.{world_of}
use Rattle.world_cells.proofs.Worlds.{ok_follows}
use Rattle.book_agenda.specs.Ways.{behind, stays}
use Rattle.book_agenda.specs.declared.ways.Cue.TheVariants as cue
use Rattle.book_agenda.proofs.Stepping.{settled_way, settled_cues}
use Rattle.book_agenda.proofs.ways.way_at.Goals as goal

pub returns-then-stays : goal.returns-then-stays
returns-then-stays c =
    let w = world_of c.args.world.now in
    let v = c.args.vat in
    let g = message_of c.args.message.now in
    let here : stays v g.delivery ≡ true = search rules in
    let names = c.names.ensures.names ∙ ap (λ (s : Sent). s.after) c.deref-then-stays.ensures in
    record {
      waits = ok_follows c.way_behind.result _ _ c.way_behind.ensures.waits (λ r h. h ∙ ap (λ (ns : List MsgId). Some (behind w v ns)) names ∙ ap (λ x. Some x) (sym (settled_way w v g here)));
      cues = ok_follows c.way_behind.result _ _ c.way_behind.ensures.cues (λ r h. h ∙ ap (λ (ns : List MsgId). map cue.Message ns) names ∙ sym (settled_cues w v g here));
    }
