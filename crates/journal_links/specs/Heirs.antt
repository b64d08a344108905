-- Who wrote over what each event left.
use Rattle.std.specs.Prelude.{◌<◌, Bool, List, [], Option, Some, None, length, slice_get}
use Rattle.std.specs.declared.alloc.Global.{Global}
use Rattle.std.specs.declared.vec.Vec.{Vec}
use Rattle.ids.specs.declared.names.EventName.{EventName}
use Rattle.journal_links.specs.Followers.{is_one}
use Rattle.journal_links.specs.declared.heirs.Heirs.{Heirs}

-- a list that was begun; one that was not is empty
abbrev pub begun : Option (Vec EventName Global) → List EventName
begun None = []
begun (Some v) = v.items

-- the list of those that wrote over what an event left
abbrev pub heirs_of : Heirs → EventName → List EventName
heirs_of heirs e = begun (slice_get heirs.by_name.items e.0)

-- the list of the first event names the second
abbrev pub is_heir : Heirs → EventName → EventName → Bool
is_heir heirs e f = is_one (heirs_of heirs e) f

-- an heir of an event can be listed
abbrev pub HasRoom : Heirs → EventName → Type 0
HasRoom heirs e = e.0 < length heirs.by_name.items
