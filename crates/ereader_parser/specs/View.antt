-- What the reader's answers stand for.
use Rattle.std.specs.Prelude.{◌≡◌, ◌<◌, ◌≤◌, length, Bool, true, false, List, [], ◌∷◌, Option, Some, None, Result, Ok, Err}
use Rattle.std.specs.declared.sync.Arc.{Arc}
use Rattle.std.specs.declared.vec.Vec.{Vec}
use Rattle.std.specs.declared.alloc.Global.{Global}
use Rattle.etoken.specs.declared.token.Token.{Token}
use Rattle.etoken.specs.declared.token.Token.TheVariants as token
use Rattle.etoken.specs.declared.token.Reserved.{Reserved}
use Rattle.etoken.specs.declared.token.Sign.{Sign}
use Rattle.kernele.specs.declared.tree.Expr.{Expr}
use Rattle.kernele.specs.declared.tree.Pattern.{Pattern}
use Rattle.kernele.specs.declared.tree.Method.{Method}
use Rattle.kernele.specs.Tree.{Tree, Trees}
use Rattle.kernele.specs.View.{tree_of, trees_of, methods_of}
use Rattle.ereader_signs.specs.declared.stop.ReadStop.{ReadStop}
use Rattle.ereader_signs.specs.declared.stop.ReadStop.TheVariants as stop
use Rattle.ereader_forms.specs.Forms.{snoc}
use Rattle.ereader_parser.specs.declared.head.Head.{Head}
use Rattle.ereader_parser.specs.declared.head.MethodHead.{MethodHead}
use Rattle.ereader_parser.specs.declared.reader.Reader.{Reader}
use Rattle.ereader_nodes.specs.declared.target.Target.{Target}
use Rattle.ereader_nodes.specs.Nodes.{Place, MethodTree}
use Rattle.ereader_grammar.specs.Grammar.{put_method}
use Rattle.ereader_grammar.specs.Reading.{Read, rest_of, sign_in, separator_at}
use Rattle.ereader_nodes.specs.View.{place_of}
use Rattle.ereader_grammar.specs.View.{plain}
use Rattle.ereader_parser.specs.Heads.{whole_of, whole_method}

-- the reader stops at a token that can't follow, or where memory runs out
abbrev pub Fails : {A : Type 0} → ReadStop → Option A → Type 0
Fails stop.Unexpected read = read ≡ None
Fails stop.Memory read = Unit {0}

-- the tokens that a reader has left
abbrev pub left_of : Reader → List Token
left_of r = plain r.rest.now

-- the word in front
abbrev pub word_in : List Token → Option Reserved
word_in [] = None
word_in (token.Word w ∷ a) = Some w
word_in (_ ∷ a) = None

-- a method of a reader returned, and left to read, what reading gives, unless memory ran out
abbrev pub Gives : Result Expr ReadStop → Reader → Reader → (List Token → Read Tree) → Type 0
Gives (Ok e) old new read = read (left_of old) ≡ Some (tree_of e, left_of new)
Gives (Err e) old new read = Fails e (read (left_of old))

-- the same, of an expression that is shared
abbrev pub GivesShared : Result (Arc Expr Global) ReadStop → Reader → Reader → (List Token → Read Tree) → Type 0
GivesShared (Ok e) old new read = read (left_of old) ≡ Some (tree_of e.value, left_of new)
GivesShared (Err e) old new read = Fails e (read (left_of old))

-- the same, of several expressions
abbrev pub GivesMany : Result (Vec Expr Global) ReadStop → Reader → Reader → (List Token → Read Trees) → Type 0
GivesMany (Ok es) old new read = read (left_of old) ≡ Some (trees_of es.items, left_of new)
GivesMany (Err e) old new read = Fails e (read (left_of old))

-- the same, of several patterns
abbrev pub GivesPatterns : Result (Vec Pattern Global) ReadStop → Reader → Reader → (List Token → Read (List Pattern)) → Type 0
GivesPatterns (Ok ps) old new read = read (left_of old) ≡ Some (ps.items, left_of new)
GivesPatterns (Err e) old new read = Fails e (read (left_of old))

-- the same, of what stands before a last block
abbrev pub GivesHead : Result Head ReadStop → Reader → Reader → (List Token → Read (Trees → Tree)) → Type 0
GivesHead (Ok h) old new read = read (left_of old) ≡ Some (whole_of h, left_of new)
GivesHead (Err e) old new read = Fails e (read (left_of old))

-- the same, of what stands before the block of a method
abbrev pub GivesMethodHead : Result MethodHead ReadStop → Reader → Reader → (List Token → Read (Trees → MethodTree)) → Type 0
GivesMethodHead (Ok h) old new read = read (left_of old) ≡ Some (whole_method h, left_of new)
GivesMethodHead (Err e) old new read = Fails e (read (left_of old))

-- the same, of what a value is given to, if it is given to anything
abbrev pub GivesPlace : Result (Option Target) ReadStop → Reader → Reader → (List Token → Read (Option Place)) → Type 0
GivesPlace (Ok None) old new read = read (left_of old) ≡ Some (None, left_of new)
GivesPlace (Ok (Some g)) old new read = read (left_of old) ≡ Some (Some (place_of g), left_of new)
GivesPlace (Err e) old new read = Fails e (read (left_of old))

-- the same, of a name or one pattern
abbrev pub GivesPlain : {A : Type 0} → Result A ReadStop → Reader → Reader → (List Token → Read A) → Type 0
GivesPlain (Ok x) old new read = read (left_of old) ≡ Some (x, left_of new)
GivesPlain (Err e) old new read = Fails e (read (left_of old))

-- the same, where nothing is returned
abbrev pub GoesTo : Result Unit ReadStop → Reader → Reader → (List Token → Option (List Token)) → Type 0
GoesTo (Ok x) old new read = read (left_of old) ≡ Some (left_of new)
GoesTo (Err e) old new read = Fails e (read (left_of old))

-- a sign that passes a test is in front, and the reader goes past it, or stops there
abbrev pub GoesPast : Result Unit ReadStop → Reader → Reader → (Option Sign → Bool) → Type 0
GoesPast (Ok x) old new is = (is (sign_in (left_of old)) ≡ true) × (left_of new ≡ rest_of (left_of old))
GoesPast (Err e) old new is = (is (sign_in (left_of old)) ≡ false) × (e ≡ stop.Unexpected)

-- an expression is made, unless memory ran out
abbrev pub Makes : Result Expr ReadStop → Tree → Type 0
Makes (Ok e) t = tree_of e ≡ t
Makes (Err e) t = e ≡ stop.Memory

-- the same, of several expressions
abbrev pub MakesMany : Result (Vec Expr Global) ReadStop → Trees → Type 0
MakesMany (Ok es) ts = trees_of es.items ≡ ts
MakesMany (Err e) ts = e ≡ stop.Memory

-- the same, of what stands before a last block
abbrev pub MakesHead : Result Head ReadStop → (Trees → Tree) → Type 0
MakesHead (Ok h) whole = whole_of h ≡ whole
MakesHead (Err e) whole = e ≡ stop.Memory

-- an item is put behind those before it, and the reader goes past what parts it from the next
abbrev pub PutsItem : Result Unit ReadStop → Reader → List Expr → Expr → Reader → List Expr → Type 0
PutsItem (Ok x) old before item new after = (trees_of after ≡ snoc (trees_of before) (tree_of item)) × (separator_at (left_of old) ≡ Some (left_of new))
PutsItem (Err e) old before item new after = Fails e (separator_at (left_of old))

-- a method is put behind those before it, unless memory ran out
abbrev pub PutsMethod : Result Unit ReadStop → List Method → MethodTree → List Method → Type 0
PutsMethod (Ok x) before m after = methods_of after ≡ put_method (methods_of before) m
PutsMethod (Err e) before m after = e ≡ stop.Memory

-- fewer tokens are left
abbrev pub Advances : Reader → Reader → Type 0
Advances old new = length (left_of new) < length (left_of old)

-- no more tokens are left
abbrev pub IsNoLonger : Reader → Reader → Type 0
IsNoLonger old new = length (left_of new) ≤ length (left_of old)
