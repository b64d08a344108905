-- A walk depends on what it goes through alone, and so does what is read along it.
use Rattle.std.proofs.Common.{◌≡◌, ℕ, zero, suc, Bool, true, false, cond, List, [], ◌∷◌, ◌++◌, map, Option, Some, None, is_some, refl, ap, ap₂, ◌∙◌}
use Rattle.std.specs.List.{AllByRecursion}
use Rattle.std.specs.Option.{option_map, unwrap_or}
use Rattle.history.proofs.Lists.{all_map}
use Rattle.ids.specs.declared.names.MsgId.{MsgId}
use Rattle.ids.specs.declared.names.PromId.{PromId}
use Rattle.ids.specs.declared.cells.CellKey.{CellKey}
use Rattle.ids.specs.declared.cells.CellKey.TheVariants as key
use Rattle.eorder.specs.Fences.{joined}
use Rattle.values.specs.Data.{Val}
use Rattle.values.specs.Promises.{promise_of}
use Rattle.refs.specs.Walks.{Resolutions, Walk, came, circled, onward, stepped, walk, most_walked}
use Rattle.post.specs.Delivery.{Delivery, opening, asked, sent, waiting}
use Rattle.post.specs.Messages.{Message, Published, done_in}
use Rattle.world_cells.specs.World.{Content, World, message_in, published_in, published_as}
use Rattle.event.specs.Events.{AreNew, counted}
use Rattle.event.specs.Ready.{first_undone, least_with}
use Rattle.event.specs.Walks.{by_the_board, board_walk, looked_up, awaited_for, awaited_along, awaited, fences_of, last_fences, found_by}

-- ---- a walk

-- two maps agree on these promises
abbrev pub AgreeAlong : Resolutions → Resolutions → List PromId → Type 0
AgreeAlong m m' ps = AllByRecursion (λ p. m' p ≡ m p) ps

goes_alike : (p : PromId) (o : Option Val) (m m' : Resolutions) (rest others : Val → Walk) → m p ≡ o → ((u : Val) → AgreeAlong m m' (rest u).through → others u ≡ rest u)
    → AgreeAlong m m' (onward p o rest).through → onward p (m' p) others ≡ onward p o rest
goes_alike p None m m' rest others e h a = ap (λ x. onward p x others) (a.0 ∙ e)
goes_alike p (Some u) m m' rest others e h a = ap (λ x. onward p x others) (a.0 ∙ e) ∙ ap (λ (x : Walk). record { through = p ∷ x.through; end = x.end }) (h u a.1)

from_seen : (b : Bool) (p : PromId) (m m' : Resolutions) (rest others : Val → Walk) → ((u : Val) → AgreeAlong m m' (rest u).through → others u ≡ rest u)
    → AgreeAlong m m' (cond b circled (onward p (m p) rest)).through → cond b circled (onward p (m' p) others) ≡ cond b circled (onward p (m p) rest)
from_seen true p m m' rest others h a = refl
from_seen false p m m' rest others h a = goes_alike p (m p) m m' rest others refl h a

steps_alike : (o : Option PromId) (m m' : Resolutions) (seen : List PromId) (v : Val) (rest others : PromId → Val → Walk) → ((p : PromId) (u : Val) → AgreeAlong m m' (rest p u).through → others p u ≡ rest p u)
    → AgreeAlong m m' (stepped m seen v o rest).through → stepped m' seen v o others ≡ stepped m seen v o rest
steps_alike None m m' seen v rest others h a = refl
steps_alike (Some p) m m' seen v rest others h a = from_seen (came p seen) p m m' (rest p) (others p) (h p) a

-- it goes alike in each map that agrees on the promises that it goes through
pub walks_alike : (n : ℕ) (m m' : Resolutions) (seen : List PromId) (v : Val) → AgreeAlong m m' (walk n m seen v).through → walk n m' seen v ≡ walk n m seen v
unfolding walk
walks_alike zero m m' seen v a = refl
walks_alike (suc n) m m' seen v a =
    steps_alike (promise_of v) m m' seen v (λ p u. walk n m (seen ++ p ∷ []) u) (λ p u. walk n m' (seen ++ p ∷ []) u) (λ p u b. walks_alike n m m' (seen ++ p ∷ []) u b) a

-- ---- by the board

-- two worlds agree on what these promises were published as
abbrev pub SameBoard : World → World → List PromId → Type 0
SameBoard w v ps = AllByRecursion (λ p. published_as v p ≡ published_as w p) ps

-- worlds that agree on the cells of publications
pub same_board : (w v : World) (ps : List PromId) → AllByRecursion (λ k. v k ≡ w k) (map key.Board ps) → SameBoard w v ps
same_board w v [] a = tt
same_board w v (p ∷ ps) a = (ap (λ (o : Option Content). published_in o) a.0, same_board w v ps a.1)

pub board_alike : (w v : World) (u : Val) → SameBoard w v (board_walk w u).through → board_walk v u ≡ board_walk w u
board_alike w v u a = walks_alike most_walked (by_the_board w) (by_the_board v) [] u (all_map _ _ (board_walk w u).through (λ p h. ap (λ (o : Option Published). option_map (λ (b : Published). b.value) o) h) a)

-- the promises that a delivery looks up
pub looked_alike : (w v : World) (d : Delivery) → SameBoard w v (looked_up w d) → looked_up v d ≡ looked_up w d
looked_alike w v (sent c) a = ap (λ (x : Walk). x.through) (board_alike w v c.target a)
looked_alike w v (opening earlier ts) a = refl
looked_alike w v (asked ts) a = refl
looked_alike w v (waiting b) a = refl

-- what is awaited along some promises
along_alike : (w v : World) (names : List MsgId) (ps : List PromId) → SameBoard w v ps → awaited_along v names ps ≡ awaited_along w names ps
along_alike w v names [] a = refl
along_alike w v names (p ∷ ps) a =
    ap (λ (o : Option Published). awaited_along v (joined names (awaited_for o)) ps) a.0 ∙ along_alike w v (joined names (awaited_for (published_as w p))) ps a.1

pub awaited_alike : (w v : World) (g : Message) → SameBoard w v (looked_up w g.delivery) → awaited v g ≡ awaited w g
awaited_alike w v g a = ap (awaited_along v g.after) (looked_alike w v g.delivery a) ∙ along_alike w v g.after (looked_up w g.delivery) a

-- the fences of the last of them
last_alike : (w v : World) (ps : List PromId) → SameBoard w v ps → last_fences v ps ≡ last_fences w ps
last_alike w v [] a = refl
last_alike w v (p ∷ []) a = ap fences_of a.0
last_alike w v (p ∷ q ∷ ps) a = last_alike w v (q ∷ ps) a.1

pub found_by_alike : (w v : World) (d : Delivery) → SameBoard w v (looked_up w d) → found_by v d ≡ found_by w d
found_by_alike w v (sent c) a =
    let e = board_alike w v c.target a in
    let f = ap (last_fences v) (ap (λ (x : Walk). x.through) e) ∙ last_alike w v (board_walk w c.target).through a in
    λ i. record { end = unwrap_or (e i).end c.target; fences = f i }
found_by_alike w v (opening earlier ts) a = refl
found_by_alike w v (asked ts) a = refl
found_by_alike w v (waiting b) a = refl

-- ---- what is done

-- in worlds that agree on these messages the same one is undone
pub undone_alike : (w v : World) (ms : List MsgId) → AllByRecursion (λ k. v k ≡ w k) (map key.Msg ms) → first_undone v ms ≡ first_undone w ms
undone_alike w v [] a = refl
undone_alike w v (m ∷ ms) a =
    ap₂ (λ b (o : Option MsgId). cond b o (least_with m o)) (ap (λ (o : Option Content). done_in (message_in o)) a.0) (undone_alike w v ms a.1)

-- ---- what a turn makes

-- in worlds that agree on these publications the same ones count
pub counted_alike : (w v : World) (bs : List (PromId × Published)) → AllByRecursion (λ k. v k ≡ w k) (map (λ b. key.Board b.0) bs) → counted v bs ≡ counted w bs
counted_alike w v [] a = refl
counted_alike w v (b ∷ bs) a =
    ap₂ (λ (o : Option Content) (rest : List (PromId × Published)). cond (is_some (published_in o)) rest (b ∷ rest)) a.0 (counted_alike w v bs a.1)

-- what is new in one is new in the other
pub new_alike : (w v : World) (ps : List (CellKey × Content)) → AllByRecursion (λ k. v k ≡ w k) (map (λ p. p.0) ps) → AreNew w ps → AreNew v ps
new_alike w v [] a h = tt
new_alike w v (p ∷ ps) a h = (a.0 ∙ h.0, new_alike w v ps a.1 h.1)
