use Rattle.std.proofs.Common.{rules, arith, ◌≡◌}
use Rattle.ids.specs.Quoted.{quoted_byte}
use Rattle.std.specs.List.{flat_map}
use Rattle.std.specs.Char.{encode_utf8}
use Rattle.ids.proofs.Quoting.{plain_character}
use Rattle.ids.proofs.quote.write_quoted_character.Goals as goal

pub returns-in_default : goal.returns-in_default
returns-in_default c =
    let p : flat_map quoted_byte (encode_utf8 c.args.character) ≡ encode_utf8 c.args.character = plain_character c.args.character (omega arith) (omega arith) (omega arith) (omega arith) (omega arith) in
    rw (p, c.push.ensures.bytes) (search rules)
