use Rattle.std.proofs.Common.{◌≡◌, ◌++◌, sym, ap, ◌∙◌, subst}
use Rattle.std.proofs.lemmas.Result.{on_ok_weaker}
use Rattle.std.specs.List.{IsDistinct}
use Rattle.std.specs.Map.{keys_of}
use Rattle.indexmap.specs.IndexMap.{insert_entry}
use Rattle.cells.specs.Rows.{rows_behind}
use Rattle.cells.proofs.Rows.{placed, absent, written, once_set, once_inserted, inserted_first, inserted_behind, either_way}
use Rattle.cells.proofs.few.Few.insert.Goals as goal

pub invariant_of-self : goal.invariant_of-self
invariant_of-self g c =
    let eq = g.K.PartialEq.eq in
    let xs = c.self.inside.first.items in
    let ys = rows_behind c.self.inside.behind in
    let p = placed (eq c.args.key) c.deref.result.now xs c.place_in.result c.in-Some.place c.index_mut.result.now c.deref.ensures.value c.place_in.ensures c.in-Some.is c.index_mut.ensures.value in
    subst (λ l. IsDistinct eq (keys_of l)) (written (eq c.args.key) xs ys c.in-Some.place c.index_mut.result.now c.args.value p)
    (once_set (eq c.args.key) eq (xs ++ ys) c.args.value c.self.invariant)

pub invariant_of-self-in-None : goal.invariant_of-self-in-None
invariant_of-self-in-None g c =
    let eq = g.K.PartialEq.eq in
    let xs = c.self.inside.first.items in
    let ys = rows_behind c.self.inside.behind in
    let none = absent (eq c.args.key) c.deref.result.now xs c.place_in.result c.deref.ensures.value c.place_in.ensures c.in-None.is in
    let zs = c.add_behind.new.first.items ++ rows_behind c.add_behind.new.behind in
    either_way c.add_behind.result (zs ≡ xs ++ insert_entry eq ys c.args.key c.args.value) (zs ≡ xs ++ ys) (IsDistinct eq (keys_of zs)) c.add_behind.ensures.ok c.add_behind.ensures.err
    (λ e. subst (λ l. IsDistinct eq (keys_of l)) (inserted_behind eq c.args.key c.args.value xs ys none ∙ sym e) (once_inserted g.met.K.Eq.laws c.args.key c.args.value (xs ++ ys) c.self.invariant))
    (λ e. subst (λ l. IsDistinct eq (keys_of l)) (sym e) c.self.invariant)

pub returns-in-Some-clause-ok : goal.returns-in-Some-clause-ok
returns-in-Some-clause-ok g c =
    let eq = g.K.PartialEq.eq in
    let xs = c.self.inside.first.items in
    let ys = rows_behind c.self.inside.behind in
    let p = placed (eq c.args.key) c.deref.result.now xs c.place_in.result c.in-Some.place c.index_mut.result.now c.deref.ensures.value c.place_in.ensures c.in-Some.is c.index_mut.ensures.value in
    ap (λ l. l ++ ys) (sym (p.put c.args.value))
    ∙ sym (inserted_first eq c.args.key c.args.value xs ys c.index_mut.result.now.1 p.value)
    ∙ ap (λ l. insert_entry eq l c.args.key c.args.value) c.self.view_is

pub returns-in-None-clause-ok : goal.returns-in-None-clause-ok
returns-in-None-clause-ok g c =
    let eq = g.K.PartialEq.eq in
    let xs = c.self.inside.first.items in
    let ys = rows_behind c.self.inside.behind in
    let none = absent (eq c.args.key) c.deref.result.now xs c.place_in.result c.deref.ensures.value c.place_in.ensures c.in-None.is in
    on_ok_weaker c.add_behind.result
    (λ e. e ∙ sym (inserted_behind eq c.args.key c.args.value xs ys none) ∙ ap (λ l. insert_entry eq l c.args.key c.args.value) c.self.view_is) c.add_behind.ensures.ok
