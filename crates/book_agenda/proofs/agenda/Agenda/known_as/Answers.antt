use Rattle.std.proofs.Common.{sym, subst}
use Rattle.std.specs.BTreeSet.{IsKeyRangeOf}
use Rattle.std.specs.declared.ops.Bound.TheVariants.{Included, Unbounded}
use Rattle.std.specs.Map.Iter.{deref}
use Rattle.std.proofs.lemmas.Map.Iter.{rest_more, rest_all}
use Rattle.book_agenda.specs.AgendaView.{known_cmp}
use Rattle.book_agenda.proofs.Ranges.{first_known, none_known, one_known, other_known, is_that, is_other}
use Rattle.book_agenda.proofs.agenda.Agenda.known_as.Goals as goal

pub returns-in_err-known : goal.returns-in_err-known
returns-in_err-known c =
    let range = subst (IsKeyRangeOf known_cmp (Included (first_known c.args.vat c.args.event c.args.index)) Unbounded c.args.self.now.known) (rest_all deref _ _ _ c.in_err-known.was c.next.ensures.steps) (c.range.ensures.in_range tt) in
    rw c.from_residual.ensures (none_known c.args.self.now.known c.args.vat c.args.event c.args.index range)

pub returns-then-is_of : goal.returns-then-is_of
returns-then-is_of c =
    let k = c.in_ok-known.known.now in
    let range = subst (IsKeyRangeOf known_cmp (Included (first_known c.args.vat c.args.event c.args.index)) Unbounded c.args.self.now.known) (rest_more deref _ _ _ _ c.in_ok-known.was c.next.ensures.steps) (c.range.ensures.in_range tt) in
    let that = is_that k c.args.vat c.args.event c.args.index (sym c.if-is_of.ensures) in
    one_known c.args.self.now.known c.args.vat c.args.event c.args.index k c.next.new.self range that.0 that.1 that.2

pub returns-else-is_of : goal.returns-else-is_of
returns-else-is_of c =
    let k = c.in_ok-known.known.now in
    let range = subst (IsKeyRangeOf known_cmp (Included (first_known c.args.vat c.args.event c.args.index)) Unbounded c.args.self.now.known) (rest_more deref _ _ _ _ c.in_ok-known.was c.next.ensures.steps) (c.range.ensures.in_range tt) in
    other_known c.args.self.now.known c.args.vat c.args.event c.args.index k c.next.new.self range (is_other k c.args.vat c.args.event c.args.index (sym c.if-is_of.ensures))
