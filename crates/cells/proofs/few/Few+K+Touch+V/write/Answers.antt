use Rattle.std.proofs.Common.{◌≡◌, ◌++◌, Some, None, is_some, sym, ap, ◌∙◌, subst}
use Rattle.std.proofs.lemmas.Result.{on_ok_weaker, on_err_weaker}
use Rattle.std.specs.List.{IsDistinct}
use Rattle.std.specs.Map.{keys_of, lookup, set_value}
use Rattle.cells.specs.Rows.{rows_behind}
use Rattle.cells.specs.declared.touches.Touch.{Touch}
use Rattle.cells.proofs.Rows.{placed, absent, written, once_set, looked_first, looked_behind, set_behind}
use Rattle.cells.proofs.few.Few+K+Touch+V.write.Goals as goal

same_found : {V : Type 0} (x y : Touch V) → Some x ≡ Some y → x.found ≡ y.found
same_found x y e = cc

pub invariant_of-self : goal.invariant_of-self
invariant_of-self g c =
    let eq = g.K.PartialEq.eq in
    let test = eq c.args.key.now in
    let xs = c.self.inside.first.items in
    let ys = rows_behind c.self.inside.behind in
    let row = c.index_mut.result.now in
    let w : Touch g.row.V.Denot = record { found = row.1.found; written = Some c.args.value } in
    let p = placed test c.deref.result.now xs c.place_in.result c.in-Some.place row c.deref.ensures.value c.place_in.ensures c.in-Some.is c.index_mut.ensures.value in
    subst (λ l. IsDistinct eq (keys_of l)) (written test xs ys c.in-Some.place row w p) (once_set test eq (xs ++ ys) w c.self.invariant)

pub returns-in-Some-clause-written : goal.returns-in-Some-clause-written
returns-in-Some-clause-written g c t is =
    let test = g.K.PartialEq.eq c.args.key.now in
    let xs = c.self.inside.first.items in
    let ys = rows_behind c.self.inside.behind in
    let row = c.index_mut.result.now in
    let w : Touch g.row.V.Denot = record { found = row.1.found; written = Some c.args.value } in
    let p = placed test c.deref.result.now xs c.place_in.result c.in-Some.place row c.deref.ensures.value c.place_in.ensures c.in-Some.is c.index_mut.ensures.value in
    let looked : Some row.1 ≡ Some t = sym (looked_first test xs ys row.1 p.value) ∙ ap (lookup test) c.self.view_is ∙ is in
    sym (written test xs ys c.in-Some.place row w p) ∙ ap (λ l. set_value test l w) c.self.view_is
    ∙ ap (λ f. set_value test c.args.self.now (record { found = f; written = Some c.args.value })) (same_found row.1 t looked)

pub returns-in-Some-clause-touched : goal.returns-in-Some-clause-touched
returns-in-Some-clause-touched g c =
    let test = g.K.PartialEq.eq c.args.key.now in
    let xs = c.self.inside.first.items in
    let ys = rows_behind c.self.inside.behind in
    let row = c.index_mut.result.now in
    let p = placed test c.deref.result.now xs c.place_in.result c.in-Some.place row c.deref.ensures.value c.place_in.ensures c.in-Some.is c.index_mut.ensures.value in
    ap is_some (ap (lookup test) (sym c.self.view_is) ∙ looked_first test xs ys row.1 p.value)

pub returns-in-None-clause-written : goal.returns-in-None-clause-written
returns-in-None-clause-written g c =
    let test = g.K.PartialEq.eq c.args.key.now in
    let xs = c.self.inside.first.items in
    let ys = rows_behind c.self.inside.behind in
    let none = absent test c.deref.result.now xs c.place_in.result c.deref.ensures.value c.place_in.ensures c.in-None.is in
    on_ok_weaker c.write_behind.result
    (λ w t is.
    let after : Touch g.row.V.Denot = record { found = t.found; written = Some c.args.value } in
    ap (λ l. xs ++ l) (w t (sym (looked_behind test xs ys none) ∙ ap (lookup test) c.self.view_is ∙ is)) ∙ sym (set_behind test xs ys after none) ∙ ap (λ l. set_value test l after) c.self.view_is)
    c.write_behind.ensures.written

pub returns-in-None-clause-touched : goal.returns-in-None-clause-touched
returns-in-None-clause-touched g c =
    let test = g.K.PartialEq.eq c.args.key.now in
    let xs = c.self.inside.first.items in
    let ys = rows_behind c.self.inside.behind in
    let none = absent test c.deref.result.now xs c.place_in.result c.deref.ensures.value c.place_in.ensures c.in-None.is in
    on_ok_weaker c.write_behind.result (λ h. ap is_some (ap (lookup test) (sym c.self.view_is) ∙ looked_behind test xs ys none) ∙ h) c.write_behind.ensures.touched

pub returns-in-None-clause-untouched : goal.returns-in-None-clause-untouched
returns-in-None-clause-untouched g c =
    let test = g.K.PartialEq.eq c.args.key.now in
    let xs = c.self.inside.first.items in
    let ys = rows_behind c.self.inside.behind in
    let none = absent test c.deref.result.now xs c.place_in.result c.deref.ensures.value c.place_in.ensures c.in-None.is in
    on_err_weaker c.write_behind.result (λ h. ap (lookup test) (sym c.self.view_is) ∙ looked_behind test xs ys none ∙ h) c.write_behind.ensures.untouched
