use Rattle.std.proofs.Common.{◌≡◌, ◌++◌, ◌∷◌, ◌<◌, List, length, map, sym, ap, ◌∙◌, subst}
use Rattle.std.specs.List.{AllByRecursion}
use Rattle.ids.specs.declared.names.EventName.{EventName}
use Rattle.journal.specs.Journals.{items_of}
use Rattle.causality.specs.Selections.{numbers}
use Rattle.causality.specs.Causes.{number_at}
use Rattle.causality.proofs.Collecting.{number_is, named_more}
use Rattle.causality.proofs.causes.names_at.Goals as goal

pub name_at-requires : goal.name_at-requires
name_at-requires c =
    let items = items_of c.args.journal in
    let left : AllByRecursion (λ q. q < length items) (c.in-Some.place.now ∷ c.next.new.self) = subst (AllByRecursion (λ q. q < length items)) c.in-Some.ensures.steps c.loop-place.invariant.within in
    left.0

pub loop-place-preserved : goal.loop-place-preserved
loop-place-preserved c =
    let items = items_of c.args.journal in
    let p = c.in-Some.place.now in
    let rest = c.next.new.self in
    let cut : c.loop-place.place-iterator ≡ p ∷ rest = c.in-Some.ensures.steps in
    let left : AllByRecursion (λ q. q < length items) (p ∷ rest) = subst (AllByRecursion (λ q. q < length items)) cut c.loop-place.invariant.within in
    record {
      named =
          ap (λ (ns : List EventName). numbers ns ++ map (number_at items) rest) c.in_ok-push.ensures.items
          ∙ named_more items c.loop-place.names.items c.name_at.result p rest (number_is items p c.name_at.result c.name_at.ensures)
          ∙ ap (λ ps. numbers c.loop-place.names.items ++ map (number_at items) ps) (sym cut)
          ∙ c.loop-place.invariant.named;
      within = left.1;
    }
