use Rattle.std.proofs.Common.{◌∷◌, [], refl, sym, append-nil, arith}
use Rattle.ids.specs.Quoted.{quoted_byte}
use Rattle.stepper_streams.proofs.Giving.{tells_as, tells_none}
use Rattle.stepper_printing.proofs.quoting.put_first.Goals as goal

pub returns-in-Some : goal.returns-in-Some
returns-in-Some g c = record {
  first = c.in-Some.byte.now ∷ [];
  cut = c.in-Some.ensures.cases.0;
  less = let l = c.in-Some.ensures.cases.1 in omega (arith, l);
  tells = tells_as g.W.Write.contents (sym (append-nil (quoted_byte c.in-Some.byte.now))) c.put_byte.ensures;
}

pub returns-in-None : goal.returns-in-None
returns-in-None g c = record {
  first = [];
  cut = refl;
  less = let l = c.in-None.ensures.cases in omega (arith, l);
  tells = tells_none g.W.Write.contents c.args.out.now;
}
