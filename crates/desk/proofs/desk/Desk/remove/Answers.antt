use Rattle.std.proofs.Common.{◌≡◌, ◌==◌, not, map, filter, Bool, ap, ◌∙◌, rules, tests}
use Rattle.std.proofs.lemmas.Fn.{filter_same}
use Rattle.ids.specs.declared.names.EventName.{EventName}
use Rattle.desk.specs.declared.desk.Lent.{Lent}
use Rattle.desk.specs.DeskView.{lent_of}
use Rattle.desk.proofs.Mapped.{any_mapped, filter_mapped, shorter_without}
use Rattle.desk.proofs.desk.Desk.remove.Goals as goal

is_other : EventName → Lent → Bool
is_other number lent = not (lent.number.0 == number.0)

left : (c : goal.After-len) → c.retain.new.self.items ≡ filter (is_other c.args.number) c.args.self.now.out.items
unfolding is_other
left c = filter_same _ (is_other c.args.number) _ (λ x b q k. search (rules, tests)) c.args.self.now.out.items _ c.retain.ensures.filtered

pub returns-clause-out : goal.returns-clause-out
unfolding is_other
returns-clause-out c =
    let xs = c.args.self.now.out.items in
    let is = left c in
    let none = shorter_without (λ x. x.number.0 == c.args.number.0) xs in
    let any = any_mapped (λ t. t.number.0 == c.args.number.0) lent_of xs in
    cc

pub returns-clause-rest : goal.returns-clause-rest
unfolding is_other
returns-clause-rest c =
    ap (map lent_of) (left c) ∙ filter_mapped (λ t. not (t.number.0 == c.args.number.0)) lent_of c.args.self.now.out.items
