use Rattle.std.proofs.Common.{sym, ◌∙◌, subst}
use Rattle.etoken.specs.declared.fault.TokenFault.TheVariants as fault
use Rattle.etoken.specs.Spelling.{Spoils}
use Rattle.etoken.proofs.Signs.{long_spelled, short_spelled, no_sign}
use Rattle.etoken.proofs.lexer.Lexer.sign.Goals as goal

pub returns-in-Some : goal.returns-in-Some
returns-in-Some c = let found = c.in-Some.ensures in long_spelled c.requires.whole found.1 found.2

pub returns-in-Some-short_sign : goal.returns-in-Some-short_sign
returns-in-Some-short_sign c = short_spelled c.requires.whole c.in_default.ensures (sym c.short_sign.ensures ∙ c.in-Some-short_sign.is)

pub returns-in-None : goal.returns-in-None
returns-in-None c = subst (λ o. Spoils c.args.self.now.length c.args.rest.now (fault.BadCharacter o)) (sym c.offset.ensures)
    (no_sign c.requires.whole c.requires.other c.in_default.ensures (sym c.short_sign.ensures ∙ c.in-None.is))
