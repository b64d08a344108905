-- What the limits of a program leave behind some of its trees.
use Rattle.std.specs.Prelude.{ℕ, ◌-◌, ◌||◌, Option, Some, None, nat_lt, if◌then◌else◌}
use Rattle.kernele_scopes.specs.declared.count.Room.{Room}

-- what is left behind so many nodes of such a depth, where so many levels may stand below one another
abbrev pub room_behind : ℕ → Option Room → ℕ → ℕ → Option Room
room_behind levels None nodes depth = None
room_behind levels (Some room) nodes depth =
    if nat_lt room.nodes nodes then None else Some (record { nodes = room.nodes - nodes; too_deep = room.too_deep || nat_lt levels depth })
