use Rattle.std.proofs.Common.{◌≡◌, ap, sym, ◌∙◌, refl}
use Rattle.std.proofs.lemmas.Result.{MatchResult-weaker}
use Rattle.kernele.specs.View.{trees_of}
use Rattle.kernele_scopes.specs.Scope.{checked_all}
use Rattle.kernele_scopes.specs.Check.{scopes_of}
use Rattle.kernele_scopes.proofs.Counts.{checked_within}
use Rattle.kernele_scopes.proofs.Names.{fresh}
use Rattle.kernele_scopes.proofs.Refusals.{refuses_same}
use Rattle.kernele_scopes.proofs.checking.check.Goals as goal

pub returns-clause-refused : goal.returns-clause-refused
returns-clause-refused c =
    let slice : c.as_slice-trees.result.now ≡ c.args.program.now.0.0.value.items = c.as_slice-trees.ensures.value ∙ ap (λ v. v.items) c.deref.ensures in
    let is = checked_within (trees_of c.as_slice-trees.result.now) (scopes_of c.args.outer.now) c.in-Some.room _ c.in-Some.ensures refl c.if-room.false
    ∙ ap (checked_all (trees_of c.as_slice-trees.result.now)) (sym (fresh c.args.outer c.new.result c.new.ensures.empty)) in
    rw (← slice) (MatchResult-weaker c.check_all.result c.check_all.ensures (λ done h. tt) (λ f h. refuses_same f _ _ is h))
