use Rattle.std.proofs.Common.{◌≡◌, ◌++◌, string_bytes, flat_map}
use Rattle.std.specs.Str.{encode_utf8_all}
use Rattle.ids.specs.Quoted.{quoted_byte}
use Rattle.ids.proofs.quote.write_quoted.Given as goal

abbrev pub invariant-loop-character : goal.invariant-loop-character
invariant-loop-character l = string_bytes l.out ≡ string_bytes l.initial.out ++ flat_map quoted_byte (encode_utf8_all l.yielded)
