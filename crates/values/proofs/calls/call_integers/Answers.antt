use Rattle.std.proofs.Common.{rules, w64}
use Rattle.std.proofs.lemmas.Int.{to_z-of_z}
use Rattle.values.proofs.Tables.{none_given}
use Rattle.values.proofs.calls.call_integers.Goals as goal

pub returns-in-Integer : goal.returns-in-Integer
returns-in-Integer c = search rules

pub returns : goal.returns
returns c =
    let replies = rw (to_z-of_z w64 c.args.x c.ranges.x) at (rw (to_z-of_z w64 c.args.y c.ranges.y) at c.int_with.ensures) in
    none_given c.int_with.result c.args.verb.now c.args.y _ c.in-TooLarge.is replies
