-- What the reader's refusals stand for.
use Rattle.std.specs.Prelude.{◌≡◌, ◌≤◌, ℕ, List, [], Option, Some, None, Result, Ok, Err, ◌⊎◌, Any}
use Rattle.std.specs.declared.vec.Vec.{Vec}
use Rattle.std.specs.declared.alloc.Global.{Global}
use Rattle.etoken.specs.declared.token.Token.{Token}
use Rattle.kernele.specs.declared.tree.Expr.{Expr}
use Rattle.ereader_signs.specs.declared.stop.ReadStop.{ReadStop}
use Rattle.ereader_parser.specs.View.{Fails}
use Rattle.etoken.specs.declared.token.Placed.{Placed}
use Rattle.kernele.specs.declared.tree.Program.{Program}
use Rattle.kernele.specs.Tree.{Trees}
use Rattle.kernele.specs.View.{program_of, trees_of}
use Rattle.ereader.specs.declared.fault.ReadFault.{ReadFault}
use Rattle.ereader.specs.declared.fault.ReadFault.TheVariants as fault

-- the items that all tokens spell are what reading gives, unless memory ran out
abbrev pub GivesAll : Result (Vec Expr Global) ReadStop → Option (Trees × List Token) → Type 0
GivesAll (Ok es) read = read ≡ Some (trees_of es.items, [])
GivesAll (Err e) read = Fails e read

-- a place of a text of n bytes: where one of its tokens stands, or its end
abbrev pub IsPlace : List Placed → ℕ → ℕ → Type 0
IsPlace tokens n i = (i ≤ n) × ((i ≡ n) ⊎ Any (λ p. p.offset ≡ i) tokens)

-- reading fails, at a place of a text of n bytes, or memory runs out
abbrev pub Stops : {A : Type 0} → ReadFault → List Placed → ℕ → Option A → Type 0
Stops fault.Memory tokens n read = Unit {0}
Stops (fault.Unexpected i) tokens n read = (read ≡ None) × IsPlace tokens n i
Stops _ tokens n read = ⊥

-- what may be answered for tokens that spell ts
abbrev pub Accepts : Result Program ReadFault → Trees → Type 0
Accepts (Ok p) ts = program_of p ≡ ts
Accepts (Err fault.Memory) ts = Unit {0}
Accepts (Err fault.TooDeep) ts = Unit {0}
Accepts (Err _) ts = ⊥

-- a refusal of the tokens of a text of n bytes: for want of memory, for their brackets, or at a place
abbrev pub IsRefusal : ReadFault → List Placed → ℕ → Type 0
IsRefusal fault.Memory tokens n = Unit {0}
IsRefusal fault.TooDeep tokens n = Unit {0}
IsRefusal (fault.Unexpected i) tokens n = IsPlace tokens n i
IsRefusal _ tokens n = ⊥
