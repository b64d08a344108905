-- What is read of a whole program.
use Rattle.std.proofs.Common.{◌≡◌, List, [], Some, Err, sym, ap, ◌∙◌, subst}
use Rattle.std.specs.declared.sync.Arc.{Arc}
use Rattle.std.specs.declared.vec.Vec.{Vec}
use Rattle.std.specs.declared.alloc.Global.{Global}
use Rattle.etoken.specs.declared.token.Token.{Token}
use Rattle.etoken.specs.declared.token.Placed.{Placed}
use Rattle.kernele.specs.declared.tree.Expr.{Expr}
use Rattle.kernele.specs.Tree.{Trees}
use Rattle.kernele.specs.View.{trees_of}
use Rattle.ereader.specs.declared.fault.ReadFault.{ReadFault}
use Rattle.ereader.specs.declared.fault.ReadFault.TheVariants as fault
use Rattle.ereader_grammar.specs.Grammar.{Program}
use Rattle.ereader_grammar.specs.Reading.{program_at}
use Rattle.ereader.specs.View.{Stops, Accepts}
use Rattle.ereader_grammar.proofs.Turns.{some_same, none_some}
use Rattle.ereader_grammar.proofs.Complete.{complete}
use Rattle.ereader_grammar.proofs.Sound.{sound}

pub found : (a : List Token) (block : Arc (Vec Expr Global) Global) (items : Vec Expr Global) → block.value ≡ items → program_at a ≡ Some (trees_of items.items, []) → Program a (trees_of block.value.items)
found a block items e p = subst (λ (xs : Vec Expr Global). Program a (trees_of xs.items)) (sym e) (sound a (trees_of items.items) p)

pub only : (a : List Token) (block : Arc (Vec Expr Global) Global) (items : Vec Expr Global) (ts : Trees) → block.value ≡ items → program_at a ≡ Some (trees_of items.items, []) → Program a ts → trees_of block.value.items ≡ ts
only a block items ts e p q = ap (λ (xs : Vec Expr Global). trees_of xs.items) e ∙ ap (λ z. z.0) (some_same (sym p ∙ complete a ts q))

-- a program is not refused for its tokens
pub refused : (e : ReadFault) (tokens : List Placed) (n : _) (a : List Token) (ts : Trees) → Stops e tokens n (program_at a) → Program a ts → Accepts (Err e) ts
refused fault.Memory tokens n a ts s q = tt
refused (fault.Unexpected i) tokens n a ts s q = none_some (sym s.0 ∙ complete a ts q)
refused _ tokens n a ts s q = absurd s
