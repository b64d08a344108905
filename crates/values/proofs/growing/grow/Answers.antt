use Rattle.std.proofs.Common.{ap, rules}
use Rattle.values.specs.View.{val_of, vals_of}
use Rattle.values.proofs.Grown.{list_when, list_grown}
use Rattle.values.proofs.growing.grow.Goals as goal

pub returns-in-Some-clause-when : goal.returns-in-Some-clause-when
returns-in-Some-clause-when c = list_when c.grow_list.result c.in-List.items.value (vals_of c.in-Some.more.now) c.args.verb.now (val_of c.args.more.now) (val_of c.args.held.now) (ap val_of c.in-List.is) c.in-Some.ensures c.grow_list.ensures.when

pub returns-in-Some-clause-grown : goal.returns-in-Some-clause-grown
returns-in-Some-clause-grown c = list_grown c.grow_list.result c.args.held.now _ c.in-List.items c.grow_list.new.list (vals_of c.in-Some.more.now) c.args.verb.now (val_of c.args.more.now) c.in-List.is (search rules) c.in-Some.ensures c.grow_list.ensures.grown
