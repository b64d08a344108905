use Rattle.std.proofs.Common.{sym, subst, w64}
use Rattle.std.proofs.lemmas.Int.{to_z-of_z}
use Rattle.etoken.specs.declared.token.Token.TheVariants as token
use Rattle.etoken.specs.declared.fault.TokenFault.TheVariants as fault
use Rattle.etoken.specs.Spelling.{Spells, Spoils}
use Rattle.etoken.proofs.Spelled.{number_fits, parsed_ok, parsed_err, int_spelled, int_spoiled}
use Rattle.etoken.proofs.lexer.Lexer.integer.Goals as goal

pub returns-in-Ok : goal.returns-in-Ok
returns-in-Ok c =
    let read = parsed_ok c.digits.ensures c.in-Ok.ensures.value.0 in
    subst (λ z. Spells c.args.rest.now (token.Int z) c.digits.result.1.now) (sym (to_z-of_z w64 c.in-Ok.number (number_fits _ read.0.1 read.1)))
    (int_spelled c.requires c.digits.ensures read)

pub returns-in-Err : goal.returns-in-Err
returns-in-Err c = subst (λ o. Spoils c.args.self.now.length c.args.rest.now (fault.IntegerTooLarge o)) (sym c.offset.ensures)
    (int_spoiled c.requires c.digits.ensures (parsed_err c.digits.ensures c.in-Err.ensures.value.0))
