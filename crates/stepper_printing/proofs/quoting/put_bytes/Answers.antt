use Rattle.std.proofs.Common.{◌≡◌, ◌==◌, refl, true, false, length, arith}
use Rattle.std.specs.List.{flat_map}
use Rattle.ids.specs.Quoted.{quoted_byte}
use Rattle.stepper_streams.proofs.Giving.{tells_both, leads_first, leads_more, leads_all}
use Rattle.stepper_printing.proofs.Plains.{run_cut, no_bytes}
use Rattle.stepper_printing.proofs.quoting.put_bytes.Goals as goal

pub runs-init : goal.runs-init
runs-init g c = leads_first g.W.Write.contents c.args.out.now refl

pub runs-preserved : goal.runs-preserved
runs-preserved g c =
    let f = c.put_first-rest.ensures in
    leads_more g.W.Write.contents _ (flat_map quoted_byte c.put_first-rest.result.now) c.runs.invariant (tells_both g.W.Write.contents c.give.ensures f.tells)
    (run_cut c.runs.rest.now c.split_at.result.0.now c.split_at.result.1.now f.first c.put_first-rest.result.now c.plain_len.result c.split_at.ensures.front c.split_at.ensures.back f.cut c.plain_len.ensures.plain)

pub runs-smaller : goal.runs-smaller
runs-smaller g c =
    let less = c.put_first-rest.ensures.less in
    let cut = c.split_at.ensures.back_len in
    let more : (length c.runs.rest.now == 0) ≡ false = grind (arith, c.is_empty.ensures, c.runs-test.true) in
    grind (arith, less, cut, more)

pub returns : goal.returns
returns g c =
    let none : (length c.runs.rest.now == 0) ≡ true = grind (arith, c.is_empty.ensures, c.runs-test.false) in
    leads_all g.W.Write.contents c.runs.invariant (no_bytes c.runs.rest.now none)
