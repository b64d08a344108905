use Rattle.std.proofs.Common.{◌∙◌, ◌||◌, List, [], ◌∷◌, ◌++◌, length, sym, ap, subst, true≢false}
use Rattle.history.specs.Chains.{is_name}
use Rattle.ids.specs.declared.names.EventName.{EventName}
use Rattle.journal.specs.Journals.{items_of}
use Rattle.causality.specs.Causes.{has_place}
use Rattle.causality.proofs.Behind.{none_of}
use Rattle.causality.proofs.Cones.{cone_of}
use Rattle.causality.proofs.Gathering.{Gathering, or_nothing, gathering_begins, gathering_more, waits_within, fewer_left, all_behind, nobody_waits, gathering_done}
use Rattle.causality.proofs.Telling.{journal_tells}
use Rattle.causality.proofs.cone.cone.Goals as goal

pub loop-place-init : goal.loop-place-init
loop-place-init c =
    let j = c.args.journal in
    gathering_begins j.places.now j.settled.now j.entries.now c.args.root (none_of (c.args.root ∷ []) j c.requires.open) j.placed c.requires.journal c.new-names.result.items c.add_place.new.places.keys c.new-names.ensures.items
    (λ q. c.in_ok-add_place.ensures q ∙ ap (λ ks. is_name c.place_of.result q || has_place ks q) c.new-waiting.ensures.empty ∙ or_nothing (is_name c.place_of.result q) ∙ ap (λ o. is_name o q) c.place_of.ensures)

pub name_at-name-requires : goal.name_at-name-requires
name_at-name-requires c =
    let j = c.args.journal in
    waits_within (items_of j) (length j.settled.now) c.args.root c.loop-place.names.items c.loop-place.waiting.keys c.pop_first.new.self.keys c.in-Some.place c.loop-place.invariant c.in-Some.ensures.removal

pub loop-place-smaller : goal.loop-place-smaller
loop-place-smaller c =
    let j = c.args.journal in
    let all = items_of j in
    let p = c.in-Some.place in
    let rest = c.pop_first.new.self.keys in
    let new = c.add_followers.new.places.keys in
    let old = c.loop-place.waiting.keys in
    let names = c.loop-place.names.items in
    let name = c.name_at-name.result in
    fewer_left all (length j.settled.now) c.args.root (names ++ name ∷ []) p old rest new c.in-Some.ensures.removal
    (waits_within all (length j.settled.now) c.args.root names old rest p c.loop-place.invariant c.in-Some.ensures.removal)
    (gathering_more j.settled.now j.entries.now c.args.root c.requires.journal names old rest new p name c.loop-place.invariant c.in-Some.ensures.removal (all_behind p rest c.in-Some.ensures.all_above) c.name_at-name.ensures c.in_ok-add_followers.ensures)

pub loop-place-preserved : goal.loop-place-preserved
loop-place-preserved c =
    let j = c.args.journal in
    let rest = c.pop_first.new.self.keys in
    let new = c.add_followers.new.places.keys in
    let step = gathering_more j.settled.now j.entries.now c.args.root c.requires.journal c.loop-place.names.items c.loop-place.waiting.keys rest new c.in-Some.place c.name_at-name.result c.loop-place.invariant c.in-Some.ensures.removal
    (all_behind c.in-Some.place rest c.in-Some.ensures.all_above) c.name_at-name.ensures c.in_ok-add_followers.ensures in
    subst (λ (ns : List EventName). Gathering (items_of j) (length j.settled.now) c.args.root ns new) (sym c.in_ok-push.ensures.items) step.0

pub returns : goal.returns
returns c =
    let j = c.args.journal in
    let all = items_of j in
    cone_of all c.args.root (journal_tells all c.requires.journal) c.requires.live c.loop-place.names.items
    (gathering_done all (length j.settled.now) c.args.root c.loop-place.names.items c.loop-place.waiting.keys c.loop-place.invariant
    (nobody_waits c.loop-place.waiting.keys (λ lt. true≢false (sym (c.in_default.ensures.variant.1 lt)))))
