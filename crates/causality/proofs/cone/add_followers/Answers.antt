use Rattle.std.proofs.Common.{◌≡◌, ◌∙◌, ◌||◌, ℕ, length, map, sym, ap}
use Rattle.std.specs.List.{list_any}
use Rattle.history.specs.Chains.{is_name}
use Rattle.journal.specs.Items.{item_of}
use Rattle.causality.specs.Placed.{is_follower, place_if}
use Rattle.std.proofs.lemmas.Result.{on_ok_weaker}
use Rattle.causality.specs.Causes.{has_place}
use Rattle.causality.proofs.Gathering.{listed_followers, any_followers}
use Rattle.causality.proofs.cone.add_followers.Goals as goal

pub returns-in-Some : goal.returns-in-Some
returns-in-Some c =
    let j = c.args.journal in
    on_ok_weaker {P = (q : ℕ) → has_place c.add_listed.new.places.keys q ≡ (has_place c.args.places.now.keys q || list_any (λ e. is_name (place_if j.places.now (is_follower c.args.event.0 (map item_of j.entries.now) (length j.settled.now)) e) q) c.in-Some.followers.now)} c.add_listed.result (λ h q. h q ∙ ap (λ b. has_place c.args.places.now.keys q || b)
    (listed_followers j.places.now j.followers.now j.settled.now j.entries.now c.args.event c.in-Some.followers.now j.placed j.followed c.requires (sym c.in-Some.ensures) q)) c.add_listed.ensures

pub returns-in-None : goal.returns-in-None
returns-in-None c =
    let j = c.args.journal in
    on_ok_weaker {P = (q : ℕ) → has_place c.add_any.new.places.keys q ≡ (has_place c.args.places.now.keys q || list_any (λ x. is_name (place_if j.places.now (is_follower c.args.event.0 (map item_of j.entries.now) (length j.settled.now)) x.event.name) q) j.entries.now)} c.add_any.result (λ h q. h q ∙ ap (λ b. has_place c.args.places.now.keys q || b)
    (any_followers j.places.now j.settled.now j.entries.now c.args.event j.placed c.requires q)) c.add_any.ensures
