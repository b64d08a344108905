use Rattle.std.proofs.Common.{◌≡◌, ◌++◌, string_bytes, codes, drop, map}
use Rattle.kernele.specs.Spelling.{led_by, bound_name}
use Rattle.kernele.proofs.printing.write_patterns.Given as goal

-- what is written, and what the patterns that are left give
abbrev pub invariant-loop-pattern : goal.invariant-loop-pattern
invariant-loop-pattern l = string_bytes l.out ++ led_by (codes ", ") (map bound_name (drop l.pattern-index l.rest)) ≡ string_bytes l.initial.out ++ led_by (codes ", ") (map bound_name l.rest)
