-- In a method all names that its object captured are in scope.
use Rattle.std.proofs.Common.{◌≡◌, ℕ, List, length, ap, arith, rules}
use Rattle.std.specs.Prelude.{Vec, vec_len}
use Rattle.std.specs.declared.alloc.Global.{Global}
use Rattle.std.proofs.lemmas.List.{take_all}
use Rattle.heap.specs.View.{nouns_of}
use Rattle.heap.specs.declared.state.Noun.{Noun}
use Rattle.eval_rules.specs.Locals.{locals_after, names_in}
use Rattle.eval_rules.specs.declared.local.Local.{Local}

pub counted : (cs : Vec Noun Global) {n : ℕ} → n ≡ vec_len cs → n ≡ length cs.items
counted cs e = search rules

pub all_in_scope : (cs : List Noun) (xs : List Local) {n : ℕ} → n ≡ length cs → names_in cs n xs ≡ locals_after (nouns_of cs) xs
all_in_scope cs xs {n = n} e = ap (λ ds. locals_after (nouns_of ds) xs) (take_all n cs (omega (arith, e)))
