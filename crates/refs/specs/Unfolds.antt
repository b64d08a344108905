-- What a value unfolds to where promises were resolved, by rules.
use Rattle.std.specs.Prelude.{◌≡◌, None, List, [], ◌++◌}
use Rattle.ids.specs.declared.names.PromId.{PromId}
use Rattle.values.specs.Data.{Val, list, Vals, no_vals, and_val}
use Rattle.values.specs.Replies.{items_in}
use Rattle.refs.specs.Walks.{Resolutions}
use Rattle.refs.specs.Leads.{Leads, Circles}

mutual
  -- a value unfolds through promises to a value
  pub data Unfolds (m : Resolutions) : Val → List PromId → Val → Type 0 where
    -- to its end, if that is no list
    to_end : (v w : Val) (ps : List PromId) → Leads m v ps w → items_in w ≡ None → Unfolds m v ps w
    -- to itself, if it leads into a ring
    to_itself : (v : Val) (ps : List PromId) → Circles m v ps → Unfolds m v ps v
    -- if its end is a list, to the list of what the items of that unfold to
    to_list : (v : Val) (us ws : Vals) (ps qs : List PromId) → Leads m v ps (list us) → EachUnfolds m us qs ws → Unfolds m v (ps ++ qs) (list ws)

  -- items unfold, each to the item in its place, from the left
  pub data EachUnfolds (m : Resolutions) : Vals → List PromId → Vals → Type 0 where
    no_item : EachUnfolds m no_vals [] no_vals
    and_item : (v w : Val) (vs ws : Vals) (ps qs : List PromId) → Unfolds m v ps w → EachUnfolds m vs qs ws → EachUnfolds m (and_val v vs) (ps ++ qs) (and_val w ws)
