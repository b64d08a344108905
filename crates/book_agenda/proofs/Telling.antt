-- How a message waits is told by its own cell and by those that tell it: where these stay as they are, it waits as before, and the same cells tell it.
use Rattle.std.proofs.Common.{◌≡◌, Bool, cond, List, [], ◌∷◌, ◌++◌, map, Option, Some, None, is_some, is_none, refl, ap, ap₂, subst, ◌∙◌}
use Rattle.std.specs.List.{AllByRecursion}
use Rattle.ids.specs.declared.names.VatNo.{VatNo}
use Rattle.ids.specs.declared.names.MsgId.{MsgId}
use Rattle.ids.specs.declared.names.PromId.{PromId}
use Rattle.ids.specs.declared.cells.CellKey.{CellKey}
use Rattle.ids.specs.declared.cells.CellKey.TheVariants as key
use Rattle.refs.specs.Walks.{Walk, most_walked}
use Rattle.sends.specs.Vats.{resolution_in}
use Rattle.sends.specs.Playing.{views_in}
use Rattle.post.specs.Delivery.{Delivery, When, opening, asked, sent, waiting}
use Rattle.post.specs.Messages.{Place, flying, at_vat, done, Message}
use Rattle.world_cells.specs.World.{Content, World, cell_content, vat_state}
use Rattle.event.specs.Forwarding.{going_on, delivery_onward}
use Rattle.event.specs.Ready.{early_by, first_undone, unready_at}
use Rattle.event.specs.Walks.{awaited, delivery_walk, ends_there, is_known, looked_up, may_end}
use Rattle.event.specs.declared.ready.Unready.{Unready}
use Rattle.event.specs.declared.ready.Unready.TheVariants as why
use Rattle.event.proofs.Listing.{all_front, all_rest}
use Rattle.event.proofs.Walking.{AgreeAlong, SameBoard, same_board, walks_alike, board_alike, looked_alike, awaited_alike, undone_alike}
use Rattle.book_agenda.specs.Ways.{key_of, waits_here, waits_at, waits_of, viewed, cues_here, cues_at, cues_of}
use Rattle.book_agenda.specs.declared.waiting.Waits.TheVariants as waits
use Rattle.book_agenda.specs.declared.ways.Cue.{Cue}
use Rattle.book_agenda.specs.declared.ways.Cue.TheVariants as cue

-- two worlds agree on these cells
abbrev pub AgreeOn : World → World → List Cue → Type 0
AgreeOn w v cs = AllByRecursion (λ c. v (key_of c) ≡ w (key_of c)) cs

-- cells of one kind, by their keys
keyed : {A : Type 0} (f : A → Cue) (g : A → CellKey) → ((a : A) → key_of (f a) ≡ g a) → (w v : World) (xs : List A) → AgreeOn w v (map f xs) → AllByRecursion (λ k. v k ≡ w k) (map g xs)
keyed f g same w v [] h = tt
keyed f g same w v (x ∷ xs) h = (subst (λ k. v k ≡ w k) (same x) h.0, keyed f g same w v xs h.1)

-- ---- where a delivery leads

-- what a vat knows of these promises
views_alike : (w v : World) (vat : VatNo) (ps : List PromId) → AllByRecursion (λ k. v k ≡ w k) (map (λ p. key.View vat p) ps) → AgreeAlong (views_in (vat_state w vat)) (views_in (vat_state v vat)) ps
views_alike w v vat [] h = tt
views_alike w v vat (p ∷ ps) h = (ap (λ (o : Option Content). resolution_in (cell_content o)) h.0, views_alike w v vat ps h.1)

when_alike : (w v : World) (vat : VatNo) (b : When) → AllByRecursion (λ k. v k ≡ w k) (map (λ p. key.View vat p) (delivery_walk w vat (waiting b)).through) → delivery_walk v vat (waiting b) ≡ delivery_walk w vat (waiting b)
when_alike w v vat b h = walks_alike most_walked (views_in (vat_state w vat)) (views_in (vat_state v vat)) [] b.value (views_alike w v vat (delivery_walk w vat (waiting b)).through h)

viewed_alike : (w v : World) (vat : VatNo) (d : Delivery) → AllByRecursion (λ k. v k ≡ w k) (map (λ p. key.View vat p) (viewed w vat d)) → viewed v vat d ≡ viewed w vat d
viewed_alike w v vat (waiting b) h = ap (λ (x : Walk). x.through) (when_alike w v vat b h)
viewed_alike w v vat (sent c) h = refl
viewed_alike w v vat (opening earlier ts) h = refl
viewed_alike w v vat (asked ts) h = refl

leads_alike : (w v : World) (vat : VatNo) (d : Delivery) → SameBoard w v (looked_up w d) → AllByRecursion (λ k. v k ≡ w k) (map (λ p. key.View vat p) (viewed w vat d)) → may_end vat d (delivery_walk v vat d).end ≡ may_end vat d (delivery_walk w vat d).end
leads_alike w v vat (sent c) a h = ap (λ (x : Walk). ends_there vat x.end) (board_alike w v c.target a)
leads_alike w v vat (waiting b) a h = ap (λ (x : Walk). is_known x.end) (when_alike w v vat b h)
leads_alike w v vat (opening earlier ts) a h = refl
leads_alike w v vat (asked ts) a h = refl

onward_alike : (w v : World) (vat : VatNo) (d : Delivery) → SameBoard w v (looked_up w d) → delivery_onward v vat d ≡ delivery_onward w vat d
onward_alike w v vat (sent c) a = ap (going_on vat) (board_alike w v c.target a)
onward_alike w v vat (waiting b) a = refl
onward_alike w v vat (opening earlier ts) a = refl
onward_alike w v vat (asked ts) a = refl

-- ---- how a message waits

-- in another world it waits as in the first, and the same cells tell it
abbrev Alike : World → World → VatNo → Message → Type 0
Alike w v vat g = (waits_here v vat g ≡ waits_here w vat g) × (cues_here v vat g ≡ cues_here w vat g)

here_alike : (w v : World) (vat : VatNo) (g : Message) → AgreeOn w v (cues_here w vat g) → Alike w v vat g
here_alike w v vat g a =
    let d = g.delivery in
    let Q = λ (c : Cue). v (key_of c) ≡ w (key_of c) in
    let boards = map cue.Board (looked_up w d) in
    let views = map (λ p. cue.View vat p) (viewed w vat d) in
    let rest = all_rest Q boards _ a in
    let board = same_board w v (looked_up w d) (keyed cue.Board key.Board (λ p. refl) w v (looked_up w d) (all_front Q boards _ a)) in
    let known = keyed (λ p. cue.View vat p) (λ p. key.View vat p) (λ p. refl) w v (viewed w vat d) (all_front Q views _ rest) in
    let order = keyed cue.Message key.Msg (λ m. refl) w v (awaited w g) (all_rest Q views _ rest) in
    let names = awaited_alike w v g board in
    let ready : unready_at v vat g ≡ unready_at w vat g = ap₂ (λ (b : Bool) (o : Option MsgId). cond b (early_by o) (Some why.NotReady)) (leads_alike w v vat d board known) (ap (first_undone v) names ∙ undone_alike w v (awaited w g) order) in (
      ap₂ (λ (o : Option (VatNo × List PromId)) (x : Option Unready). cond (is_some o) waits.Moving (cond (is_none x) (waits.Ready vat) waits.Behind)) (onward_alike w v vat d board) ready,
      ap₂ (λ ps (cs : List Cue). map cue.Board ps ++ cs) (looked_alike w v d board) (ap₂ (λ ps ms. map (λ p. cue.View vat p) ps ++ map cue.Message ms) (viewed_alike w v vat d known) names),
    )

-- THE LEMMA
pub told_alike : (w v : World) (o : Option Message) → AgreeOn w v (cues_of w o) → (waits_of v o ≡ waits_of w o) × (cues_of v o ≡ cues_of w o)
told_alike w v None a = (refl, refl)
told_alike w v (Some g) a = at g.place a
  where
    at : (x : Place) → AgreeOn w v (cues_at w g x) → (waits_at v g x ≡ waits_at w g x) × (cues_at v g x ≡ cues_at w g x)
    at (flying u) b = (refl, refl)
    at (at_vat u) b = let h = here_alike w v u g b in (ap (λ x. Some x) h.0, h.1)
    at (done e) b = (refl, refl)
