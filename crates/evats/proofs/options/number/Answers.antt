use Rattle.std.proofs.Common.{subst, sym}
use Rattle.std.specs.contracts.prelude.U32FromStr.TheImpl.{from_str_gives-value}
use Rattle.clap.specs.Words.{found_of, one_text}
use Rattle.evats.specs.Options.{IsNumber}
use Rattle.evats.proofs.Numbers.{number_of}
use Rattle.evats.proofs.options.number.Goals as goal

pub returns : goal.returns
returns c =
    subst (IsNumber c.args.otherwise (one_text (found_of c.args.matches.now) c.args.name.now)) (sym c.unwrap_or.ensures)
    (number_of _ (from_str_gives-value).it (λ t r h. h.0) c.args.otherwise _ c.get_one.result c.get_one.ensures.none c.get_one.ensures.value)
