use Rattle.std.proofs.Common.{◌≡◌, cond, None, length, map, drop}
use Rattle.std.specs.List.{fold}
use Rattle.journal_links.specs.Followers.{followers_of}
use Rattle.journal.specs.Items.{item_of, lasts_of}
use Rattle.journal.specs.Links.{lister}
use Rattle.causality.specs.Crossing.{wrote_key, listed_place, finder_place}
use Rattle.causality.specs.Placed.{lesser_place}
use Rattle.causality.proofs.crossing.finder_place.Given as goal

-- the least so far and those that are left
abbrev pub invariant-loop-cell : goal.invariant-loop-cell
invariant-loop-cell l =
    fold lesser_place l.first (map (λ p. cond (wrote_key p.0 (item_of l.entry))
    (listed_place l.journal.places.now l.names (map item_of l.journal.entries.now) (length l.journal.settled.now) l.place p (followers_of l.journal.followers.now (lister p.0 p.1))) None) (lasts_of (drop l.cell-index l.entry.touched.items)))
    ≡ finder_place l.journal.places.now l.journal.followers.now l.names (map item_of l.journal.entries.now) (length l.journal.settled.now) l.place (item_of l.entry)
