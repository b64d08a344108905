-- Who followed each event.
use Rattle.std.specs.Prelude.{◌≡◌, ◌<◌, ◌==◌, Bool, true, List, [], Option, Some, None, IfSome, length, slice_get}
use Rattle.std.specs.List.{list_any}
use Rattle.std.specs.Option.{option_map_or}
use Rattle.std.specs.declared.alloc.Global.{Global}
use Rattle.std.specs.declared.vec.Vec.{Vec}
use Rattle.ids.specs.declared.names.EventName.{EventName}
use Rattle.journal_links.specs.declared.followers.Followers.{Followers}

-- a list that was begun, if it is kept; one that was not is empty
abbrev pub listed : Option (Option (Vec EventName Global)) → Option (List EventName)
listed None = Some []
listed (Some None) = None
listed (Some (Some v)) = Some v.items

-- the list of an event's followers, if it is kept
abbrev pub followers_of : Followers → EventName → Option (List EventName)
followers_of followers e = listed (slice_get followers.by_name.items e.0)

-- a name is one of these
abbrev pub is_one : List EventName → EventName → Bool
is_one es f = list_any (λ e. e.0 == f.0) es

-- the list of the first event names the second, or there is none that could tell
abbrev pub may_follow : Followers → EventName → EventName → Bool
may_follow followers e f = option_map_or (λ es. is_one es f) (followers_of followers e) true

-- nobody is on a list of the followers of an event
abbrev pub IsLetGo : Followers → EventName → Type 0
IsLetGo followers e = IfSome (followers_of followers e) (λ es. es ≡ [])

-- a follower of an event can be listed
abbrev pub HasRoom : Followers → EventName → Type 0
HasRoom followers e = e.0 < length followers.by_name.items
