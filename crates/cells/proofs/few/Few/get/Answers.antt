use Rattle.std.proofs.Common.{Some, sym, ap, ◌∙◌}
use Rattle.std.specs.Map.{lookup}
use Rattle.cells.specs.Rows.{rows_behind}
use Rattle.cells.proofs.Rows.{placed, absent, looked_first, looked_behind}
use Rattle.cells.proofs.few.Few.get.Goals as goal

pub returns-in-Some : goal.returns-in-Some
returns-in-Some g c =
    let test = g.K.PartialEq.eq c.args.key.now in
    let xs = c.self.inside.first.items in
    let p = placed test c.deref.result.now xs c.place_in.result c.in-Some.place c.index.result.now c.deref.ensures.value c.place_in.ensures c.in-Some.is c.index.ensures in
    sym (looked_first test xs (rows_behind c.self.inside.behind) c.index.result.now.1 p.value) ∙ ap (lookup test) c.self.view_is

pub returns-in-Some-behind : goal.returns-in-Some-behind
returns-in-Some-behind g c =
    let test = g.K.PartialEq.eq c.args.key.now in
    let xs = c.self.inside.first.items in
    let ys = rows_behind c.self.inside.behind in
    let none = absent test c.deref.result.now xs c.place_in.result c.deref.ensures.value c.place_in.ensures c.in-None.is in
    let looked = rw c.deref-in-Some-behind.ensures at c.get.ensures.value in
    looked ∙ ap (λ o. lookup test (rows_behind o)) (sym c.in-Some-behind.is) ∙ sym (looked_behind test xs ys none) ∙ ap (lookup test) c.self.view_is

pub returns-in-None-behind : goal.returns-in-None-behind
returns-in-None-behind g c =
    let test = g.K.PartialEq.eq c.args.key.now in
    let xs = c.self.inside.first.items in
    let ys = rows_behind c.self.inside.behind in
    let none = absent test c.deref.result.now xs c.place_in.result c.deref.ensures.value c.place_in.ensures c.in-None.is in
    ap (λ o. lookup test (rows_behind o)) (sym c.in-None-behind.is) ∙ sym (looked_behind test xs ys none) ∙ ap (lookup test) c.self.view_is
