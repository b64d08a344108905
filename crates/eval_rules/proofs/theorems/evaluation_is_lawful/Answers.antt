use Rattle.eval_rules.proofs.Added.{ends_add}
use Rattle.eval_rules.proofs.Counted.{ends_counted, ends_deep}
use Rattle.eval_rules.proofs.Determined.{ends_same}
use Rattle.eval_rules.proofs.Ejections.{ends_inside}
use Rattle.eval_rules.proofs.Framed.{ends_framed, ends_written}
use Rattle.eval_rules.proofs.Grown.{ends_grow}
use Rattle.eval_rules.proofs.Kept.{ends_in_room}
use Rattle.eval_rules.proofs.Paid.{ends_paid}
use Rattle.eval_rules.proofs.Reached.{ends_later}
use Rattle.eval_rules.proofs.Spent.{ends_left}
use Rattle.eval_rules.proofs.Total.{ends_somehow}
use Rattle.eval_rules.proofs.theorems.evaluation_is_lawful.Goals as goal

pub returns : goal.returns
returns c = record {
  one_outcome = λ k t a b c o p r s. let z = ends_same r s in (z.end, z.place);
  has_an_outcome = λ k t a. let r = ends_somehow k t a in (r.end, r.place, r.run);
  touched_grows = λ k t a b o r. let g = ends_later r in (g.touched, g.written, g.within);
  frame = λ k t a b o r w u m. let f = ends_framed w r u m in (f.after, f.run, f.kept);
  others_stay = λ k t a b o r. (ends_later r).stays;
  writes_alike = λ k t a b o r h w. ends_written w r h;
  beginning_stays = λ k t a b o r. (ends_later r).began;
  steps_only_fall = λ k t a b o r. ends_left r;
  promises_are_paid_for = λ k t a b o r. ends_paid r;
  steps_are_nodes = λ k t a b o r. ends_counted r;
  none_runs_too_deep = λ k t a b o r. ends_deep r;
  room_is_kept = λ k t a b o r h. ends_in_room r h;
  names_are_only_added = λ k t a b o r. ends_grow r;
  definitions_are_added = λ k t a b o r. ends_add r;
  ejections_are_open = λ k t a b j v r. ends_inside r;
}
