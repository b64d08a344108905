-- What the program's desk stands for.
use Rattle.std.specs.Prelude.{List, map}
use Rattle.desk.specs.Desks as model
use Rattle.desk.specs.declared.desk.Lent.{Lent}
use Rattle.desk.specs.declared.desk.Desk.{Desk}

abbrev pub lent_of : Lent → model.Lent
lent_of t = record { number = t.number; message = t.message; vat = t.vat; budget = t.budget; seat = t.seat }

-- the tickets that are out, in the order in which they were lent
abbrev pub out_of : Desk → List model.Lent
out_of d = map lent_of d.out.items
