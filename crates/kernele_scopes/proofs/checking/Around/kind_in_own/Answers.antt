use Rattle.std.proofs.Common.{ap, sym, ◌∙◌}
use Rattle.std.specs.Option.{option_or}
use Rattle.kernele_scopes.specs.Check.{names_of, scopes_with}
use Rattle.kernele_scopes.proofs.checking.Around.kind_in_own.Goals as goal

pub returns-in-Program : goal.returns-in-Program
returns-in-Program c =
    c.or.ensures
    ∙ (λ i. option_or ((c.copied-found.ensures ∙ c.get.ensures.value) i) ((c.copied.ensures ∙ c.get-in-Program.ensures.value) i))
    ∙ ap (λ around. (scopes_with around (names_of c.args.defined.now)).own c.args.name.now) (sym c.in-Program.is)

pub returns-in-Block : goal.returns-in-Block
returns-in-Block c =
    c.copied-found.ensures ∙ c.get.ensures.value ∙ ap (λ around. (scopes_with around (names_of c.args.defined.now)).own c.args.name.now) (sym c.in-Block.is)
