use Rattle.std.proofs.Common.{sym, subst}
use Rattle.etoken.specs.declared.fault.TokenFault.TheVariants as fault
use Rattle.etoken.specs.Spelling.{Spoils}
use Rattle.etoken.proofs.Signs.{past_ascii}
use Rattle.etoken.proofs.lexer.Lexer.token.Goals as goal

pub returns-in_default : goal.returns-in_default
returns-in_default c = subst (λ o. Spoils c.args.self.now.length c.args.rest.now (fault.BadCharacter o)) (sym c.offset.ensures)
    (past_ascii c.args.self.now.length c.args.rest.now c.requires.some c.in_default.ensures)
