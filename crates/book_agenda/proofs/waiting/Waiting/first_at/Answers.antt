use Rattle.std.proofs.Common.{◌≡◌, nat_eq, true, false, ap, subst, rules, ◌∙◌}
use Rattle.std.specs.BTreeSet.{IsKeyRangeOf}
use Rattle.std.specs.declared.ops.Bound.TheVariants.{Included, Unbounded}
use Rattle.std.specs.Map.Iter.{deref}
use Rattle.std.proofs.lemmas.Bool.{false≢true, eq-eqb}
use Rattle.std.proofs.lemmas.Map.Iter.{rest_more, rest_all}
use Rattle.ids.specs.KeyLaws.{exact_vat}
use Rattle.ids.specs.declared.names.VatNo.{VatNo}
use Rattle.book_agenda.specs.Waiting.{ready_cmp}
use Rattle.book_agenda.proofs.Ranges.{first_ready, none_ready, one_ready, other_ready}
use Rattle.book_agenda.proofs.waiting.Waiting.first_at.Goals as goal

pub returns-in_err-ready : goal.returns-in_err-ready
returns-in_err-ready c =
    let range = subst (IsKeyRangeOf ready_cmp (Included (first_ready c.args.vat)) Unbounded c.args.self.now.ready) (rest_all deref _ _ _ c.in_err-ready.was c.next.ensures.steps) (c.range.ensures.in_range tt) in
    rw c.from_residual.ensures (none_ready c.args.self.now c.args.vat range)

pub returns-then-eq : goal.returns-then-eq
returns-then-eq c =
    let k = c.in_ok-ready.ready.now in
    let range = subst (IsKeyRangeOf ready_cmp (Included (first_ready c.args.vat)) Unbounded c.args.self.now.ready) (rest_more deref _ _ _ _ c.in_ok-ready.was c.next.ensures.steps) (c.range.ensures.in_range tt) in
    let same : nat_eq k.vat.0.0 c.args.vat.0.0 ≡ true = search rules in
    one_ready c.args.self.now c.args.vat k c.next.new.self range (exact_vat k.vat c.args.vat same)

pub returns-else-eq : goal.returns-else-eq
returns-else-eq c =
    let k = c.in_ok-ready.ready.now in
    let range = subst (IsKeyRangeOf ready_cmp (Included (first_ready c.args.vat)) Unbounded c.args.self.now.ready) (rest_more deref _ _ _ _ c.in_ok-ready.was c.next.ensures.steps) (c.range.ensures.in_range tt) in
    let other : false ≡ nat_eq k.vat.0.0 c.args.vat.0.0 = search rules in
    other_ready c.args.self.now c.args.vat k c.next.new.self range (λ e. false≢true (other ∙ eq-eqb k.vat.0.0 c.args.vat.0.0 (ap (λ (v : VatNo). v.0.0) e)))
