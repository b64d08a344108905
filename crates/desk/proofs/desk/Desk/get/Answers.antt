use Rattle.std.proofs.Common.{rules, tests, ◌≡◌, ◌==◌, Some, Bool, true, false, cond, List, [], ◌∷◌, map, refl, option_map, ap, ◌∙◌}
use Rattle.std.specs.List.{find}
use Rattle.std.proofs.lemmas.Iterator.{YieldsList-from_slice}
use Rattle.std.proofs.lemmas.Iterator.Search.{find_from_yields_List}
use Rattle.ids.specs.declared.names.EventName.{EventName}
use Rattle.desk.specs.declared.desk.Lent.{Lent}
use Rattle.desk.specs.DeskView.{lent_of}
use Rattle.desk.specs.Desks.{lent_at}
use Rattle.desk.proofs.desk.Desk.get.Goals as goal

-- the first of this number is the ticket at it
at_first : (number : EventName) (xs : List Lent) → option_map lent_of (find (λ x. x.number.0 == number.0) xs) ≡ lent_at number (map lent_of xs)
at_first number [] = refl
at_first number (x ∷ xs) = one (x.number.0 == number.0) (at_first number xs)
  where
    one : (b : Bool) → option_map lent_of (find (λ y. y.number.0 == number.0) xs) ≡ lent_at number (map lent_of xs)
        → option_map lent_of (cond b (Some x) (find (λ y. y.number.0 == number.0) xs)) ≡ cond b (Some (lent_of x)) (lent_at number (map lent_of xs))
    one true e = refl
    one false e = e

pub returns : goal.returns
returns c =
    let xs = c.args.self.now.out.items in
    ap (option_map lent_of) (c.copied.ensures ∙ find_from_yields_List (λ x. x.number.0 == c.args.number.0) _ _ c.find.result c.find.ensures.ran (YieldsList-from_slice xs cc) (λ x b q k. search (rules, tests)))
    ∙ at_first c.args.number xs
