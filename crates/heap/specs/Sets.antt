-- Contents are a set: any two proofs that two of them are the same are the same.
use Rattle.std.specs.Prelude.{List, Option}
use Rattle.std.proofs.Props.{props}
use Rattle.kernele.specs.declared.tree.Pattern.{Pattern}
use Rattle.kernele.specs.Tree.{Name, Methods, Methods-set}
use Rattle.values.specs.Data.{Val, Val-set}
use Rattle.heap.specs.State.{Bind, Bind-set, Nouns, Plain, Plain-set, Object, Object-set, View, View-set, Content, Content-set}

names : IsSet Name
names = hlevel props

patterns : IsSet Pattern
patterns = hlevel props

pattern_lists : IsSet (List Pattern)
pattern_lists = hlevel (props, patterns)

methods : IsSet Methods
methods = Methods-set (hlevel props) (hlevel props) names patterns pattern_lists (hlevel props)

pub vals : IsSet Val
vals = Val-set (hlevel props) (hlevel props) names (hlevel props) (hlevel props) (hlevel props)

pub binds : IsSet Bind
binds = Bind-set vals (hlevel props)

nouns : IsSet Nouns
nouns = hlevel (props, binds)

plain_objects : IsSet Plain
plain_objects = Plain-set patterns nouns methods

pub objects : IsSet Object
objects = Object-set plain_objects (hlevel props)

pub views : IsSet View
views = View-set vals

pub contents : IsSet Content
contents = Content-set binds vals objects views (hlevel props)

pub found_contents : IsSet (Option Content)
found_contents = hlevel (props, contents)
