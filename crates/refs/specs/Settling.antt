-- Settled forms.
use Rattle.std.specs.Prelude.{ℕ, zero, suc, ◌-◌, cond, ◌&&◌, nat_le, Option, Some, None, option_map, List, [], ◌++◌}
use Rattle.ids.specs.declared.names.PromId.{PromId}
use Rattle.values.specs.Data.{Val, list, Vals, no_vals, and_val}
use Rattle.values.specs.Limits.{weight, list_depth}
use Rattle.values.specs.Replies.{items_in}
use Rattle.refs.specs.Walks.{Resolutions, walked, followed}
use Rattle.values.specs.declared.limits.TheConstants.{MOST_WEIGHT, MOST_DEPTH}

-- the promises that were walked, in order, and the settled form, if no limit was passed
pub record Settling : Type 0 where
  pub through : List PromId
  pub settled : Option Val

-- the same of items
pub record ItemsSettling : Type 0 where
  pub through : List PromId
  pub settled : Option Vals

-- a value that may have this depth and weight, if it has no more
abbrev pub fitted : ℕ → ℕ → Val → Option Val
fitted depth left v = cond (nat_le (weight v) left && nat_le (list_depth v) depth) (Some v) None

-- a limit is passed
abbrev pub too_large : Settling
too_large = record { through = []; settled = None }

-- an item, and the items behind it, where it passes no limit
abbrev pub and_behind : List PromId → Option Val → (Val → ItemsSettling) → ItemsSettling
and_behind ps None rest = record { through = ps; settled = None }
and_behind ps (Some w) rest = record { through = ps ++ (rest w).through; settled = option_map (and_val w) (rest w).settled }

-- items from the left, each by the weight that is left for it
abbrev pub settle_items : (ℕ → Val → Settling) → ℕ → Vals → ItemsSettling
settle_items item left no_vals = record { through = []; settled = Some no_vals }
settle_items item left (and_val v vs) = and_behind (item left v).through (item left v).settled (λ w. settle_items item (left - weight w) vs)

-- a list weighs its own 1 before its items
abbrev pub settle_list : (ℕ → Val → Settling) → ℕ → Vals → Settling
settle_list item zero vs = too_large
settle_list item (suc left) vs = record { through = (settle_items item left vs).through; settled = option_map list (settle_items item left vs).settled }

-- an end, by the items that it has
abbrev pub settle_end : (ℕ → Vals → Settling) → ℕ → Val → Option Vals → Settling
settle_end lists left w None = record { through = []; settled = fitted 0 left w }
settle_end lists left w (Some vs) = lists left vs

-- the walk of a value, and then its end
abbrev pub settle_walk : Resolutions → (ℕ → Vals → Settling) → ℕ → Val → Settling
settle_walk m lists left v = record { through = walked m v ++ (settle_end lists left (followed m v) (items_in (followed m v))).through; settled = (settle_end lists left (followed m v) (items_in (followed m v))).settled }

-- where lists may not stand any deeper
abbrev pub no_lists : ℕ → Vals → Settling
no_lists left vs = too_large

-- the settled form of a value that may have this depth and weight
unfoldable pub settle_at : Resolutions → ℕ → ℕ → Val → Settling
settle_at m zero left v = settle_walk m no_lists left v
settle_at m (suc depth) left v = settle_walk m (settle_list (settle_at m depth)) left v

-- the same of a list
abbrev pub list_at : Resolutions → ℕ → ℕ → Vals → Settling
list_at m zero left vs = too_large
list_at m (suc depth) left vs = settle_list (settle_at m depth) left vs

-- the settled form of a value, within the limits of a value
unfoldable pub settling : Resolutions → Val → Settling
settling m v = settle_at m MOST_DEPTH MOST_WEIGHT v
