-- Worlds and journals are sets: any two proofs that two of them are the same are the same.
use Rattle.std.proofs.Common.{Bool, List, Option}
use Rattle.std.proofs.Props.{props}
use Rattle.ids.specs.declared.cells.CellKey.{CellKey}
use Rattle.kernele.specs.declared.tree.Pattern.{Pattern}
use Rattle.kernele.specs.Tree.{Name, Trees, Trees-set}
use Rattle.values.specs.Data.{Vals, Vals-set}
use Rattle.heap.specs.Sets.{vals, binds, objects, views}
use Rattle.heap.specs.State.{Nouns}
use Rattle.post.specs.Delivery.{Call, Call-set, Handler, Handler-set, When, When-set, Delivery, Delivery-set}
use Rattle.eval_rules.specs.Outbox.{Note}
use Rattle.world_cells.specs.Events.{Act, Noted}
use Rattle.post.specs.Messages.{Vat, Vat-set, Place, Place-set, Message, Message-set, Published, Published-set}
use Rattle.world_cells.specs.World.{Content, Content-set, World}
use Rattle.journal.specs.Lines.{Line}

names : IsSet Name
names = hlevel props

patterns : IsSet Pattern
patterns = hlevel props

pattern_lists : IsSet (List Pattern)
pattern_lists = hlevel (props, patterns)

trees : IsSet Trees
trees = Trees-set (hlevel props) (hlevel props) names patterns pattern_lists (hlevel props)

value_lists : IsSet Vals
value_lists = Vals-set (hlevel props) (hlevel props) names (hlevel props) (hlevel props) (hlevel props)

calls : IsSet Call
calls = Call-set vals names value_lists (hlevel props)

nouns : IsSet Nouns
nouns = hlevel (props, binds)

handlers : IsSet Handler
handlers = Handler-set patterns trees

optional_handlers : IsSet (Option Handler)
optional_handlers = hlevel (props, handlers)

whens : IsSet When
whens = When-set vals nouns trees optional_handlers

deliveries : IsSet Delivery
deliveries = Delivery-set (hlevel props) trees calls whens

vats : IsSet Vat
vats = hlevel (props, Vat-set)

places : IsSet Place
places = hlevel (props, Place-set)

messages : IsSet Message
messages = Message-set deliveries (hlevel props) (hlevel props) places

publications : IsSet Published
publications = Published-set vals (hlevel props)

pub contents : IsSet Content
contents = Content-set vats binds vals objects views (hlevel props) messages publications

pub World-set : IsSet World
World-set = hlevel (props, contents)

acts : IsSet Act
acts = hlevel (props, trees)

notes : IsSet Note
notes = hlevel (props, names)

note_lists : IsSet (List Note)
note_lists = hlevel (props, notes)

events : IsSet Noted
events = hlevel (props, acts, note_lists)

keys : IsSet CellKey
keys = hlevel props

lines : IsSet Line
lines = hlevel (props, events, keys)

pub Lines-set : IsSet (List Line)
Lines-set = hlevel (props, lines)

pub Bool-set : IsSet Bool
Bool-set = hlevel props
