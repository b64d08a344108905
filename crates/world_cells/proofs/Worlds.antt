-- Worlds of which some cells are alike.
use Rattle.std.proofs.Common.{◌≡◌, Bool, true, false, cond, List, Contains, Option, Some, None, is_some, Result, Ok, Err, IfOk, IfSome, IfNone, Bor, refl, sym, ap, subst, ◌∙◌}
use Rattle.std.proofs.lemmas.Map.Views.{Contains-keys_from_lookup}
use Rattle.indexmap.specs.IndexMap.{keys}
use Rattle.std.specs.Option.{option_map, option_copied}
use Rattle.cells.specs.Clones.{ContentClones}
use Rattle.cells.specs.Seen as cells
use Rattle.cells.specs.Seen.{Seen}
use Rattle.ids.specs.KeyLaws.{exact_vat}
use Rattle.ids.specs.declared.names.VatNo.{VatNo}
use Rattle.ids.specs.declared.names.MsgId.{MsgId}
use Rattle.ids.specs.declared.names.PromId.{PromId}
use Rattle.ids.specs.declared.cells.CellKey.{CellKey}
use Rattle.ids.specs.declared.cells.CellKey.TheVariants as key
use Rattle.kernele.specs.Tree.{Name}
use Rattle.heap.specs.State as heap
use Rattle.heap.specs.State.{Cell, top, slot_cell, object_cell, view_cell, fence_cell}
use Rattle.heap.specs.View.{same_name, told, state_of}
use Rattle.heap.specs.declared.state.VatState.{VatState}
use Rattle.world_cells.specs.World.{Content, vat, message, published, same_vat, content_of, cell_content, vat_state}
use Rattle.post.specs.MessageView.{vat_of, message_of, published_of}
use Rattle.world_cells.specs.Homes.{state_in, seen_at}
use Rattle.world_cells.specs.declared.home.Home.{Home}
use Rattle.world_cells.specs.HomesView.{homes_of, seen_of_homes, ready_of_homes}
use Rattle.world_cells.specs.View.{same_message, same_promise, seen_of_world, world_of, is_ready}
use Rattle.world_cells.specs.declared.world.World.{World}
use Rattle.world_cells.proofs.Changing.{ext}

module _ (s t : World) where
  seen_each : ((x : Name) → cells.seen same_name t.names x ≡ cells.seen same_name s.names x) → ((k : CellKey) → seen_of_homes t.homes k ≡ seen_of_homes s.homes k)
      → ((m : MsgId) → cells.seen same_message t.messages m ≡ cells.seen same_message s.messages m) → ((p : PromId) → cells.seen same_promise t.board p ≡ cells.seen same_promise s.board p)
      → (k : CellKey) → seen_of_world t k ≡ seen_of_world s k
  seen_each names homes messages board (key.Name x) = ap (told (λ v. vat (vat_of v))) (names x)
  seen_each names homes messages board (key.Slot i) = homes (key.Slot i)
  seen_each names homes messages board (key.Object i) = homes (key.Object i)
  seen_each names homes messages board (key.Top v x) = homes (key.Top v x)
  seen_each names homes messages board (key.View v p) = homes (key.View v p)
  seen_each names homes messages board (key.Fence v r) = homes (key.Fence v r)
  seen_each names homes messages board (key.Msg m) = ap (told (λ g. message (message_of g))) (messages m)
  seen_each names homes messages board (key.Board p) = ap (told (λ p. published (published_of p))) (board p)

  pub seen_alike : ((x : Name) → cells.seen same_name t.names x ≡ cells.seen same_name s.names x) → ((k : CellKey) → seen_of_homes t.homes k ≡ seen_of_homes s.homes k)
      → ((m : MsgId) → cells.seen same_message t.messages m ≡ cells.seen same_message s.messages m) → ((p : PromId) → cells.seen same_promise t.board p ≡ cells.seen same_promise s.board p)
      → seen_of_world t ≡ seen_of_world s
  seen_alike names homes messages board = ext _ _ (seen_each names homes messages board)

  ready_each : ((x : Name) → cells.has_room same_name t.names x ≡ cells.has_room same_name s.names x) → ((k : CellKey) → ready_of_homes t.homes k ≡ ready_of_homes s.homes k)
      → ((m : MsgId) → cells.has_room same_message t.messages m ≡ cells.has_room same_message s.messages m) → ((p : PromId) → cells.has_room same_promise t.board p ≡ cells.has_room same_promise s.board p)
      → (k : CellKey) → is_ready t k ≡ is_ready s k
  ready_each names homes messages board (key.Name x) = names x
  ready_each names homes messages board (key.Slot i) = homes (key.Slot i)
  ready_each names homes messages board (key.Object i) = homes (key.Object i)
  ready_each names homes messages board (key.Top v x) = homes (key.Top v x)
  ready_each names homes messages board (key.View v p) = homes (key.View v p)
  ready_each names homes messages board (key.Fence v r) = homes (key.Fence v r)
  ready_each names homes messages board (key.Msg m) = messages m
  ready_each names homes messages board (key.Board p) = board p

  pub ready_alike : ((x : Name) → cells.has_room same_name t.names x ≡ cells.has_room same_name s.names x) → ((k : CellKey) → ready_of_homes t.homes k ≡ ready_of_homes s.homes k)
      → ((m : MsgId) → cells.has_room same_message t.messages m ≡ cells.has_room same_message s.messages m) → ((p : PromId) → cells.has_room same_promise t.board p ≡ cells.has_room same_promise s.board p)
      → is_ready t ≡ is_ready s
  ready_alike names homes messages board = ext _ _ (ready_each names homes messages board)

  pub ready_more : ((x : Name) → cells.has_room same_name s.names x ≡ true → cells.has_room same_name t.names x ≡ true) → ((k : CellKey) → ready_of_homes s.homes k ≡ true → ready_of_homes t.homes k ≡ true)
      → ((m : MsgId) → cells.has_room same_message s.messages m ≡ true → cells.has_room same_message t.messages m ≡ true) → ((p : PromId) → cells.has_room same_promise s.board p ≡ true → cells.has_room same_promise t.board p ≡ true)
      → (k : CellKey) → is_ready s k ≡ true → is_ready t k ≡ true
  ready_more names homes messages board (key.Name x) = names x
  ready_more names homes messages board (key.Slot i) = homes (key.Slot i)
  ready_more names homes messages board (key.Object i) = homes (key.Object i)
  ready_more names homes messages board (key.Top v x) = homes (key.Top v x)
  ready_more names homes messages board (key.View v p) = homes (key.View v p)
  ready_more names homes messages board (key.Fence v r) = homes (key.Fence v r)
  ready_more names homes messages board (key.Msg m) = messages m
  ready_more names homes messages board (key.Board p) = board p

pub nothing_seen : (s : World) → ((x : Name) → cells.seen same_name s.names x ≡ (None, None)) → ((k : CellKey) → seen_of_homes s.homes k ≡ (None, None))
    → ((m : MsgId) → cells.seen same_message s.messages m ≡ (None, None)) → ((p : PromId) → cells.seen same_promise s.board p ≡ (None, None)) → (k : CellKey) → seen_of_world s k ≡ (None, None)
nothing_seen s names homes messages board (key.Name x) = ap (told (λ v. vat (vat_of v))) (names x)
nothing_seen s names homes messages board (key.Slot i) = homes (key.Slot i)
nothing_seen s names homes messages board (key.Object i) = homes (key.Object i)
nothing_seen s names homes messages board (key.Top v x) = homes (key.Top v x)
nothing_seen s names homes messages board (key.View v p) = homes (key.View v p)
nothing_seen s names homes messages board (key.Fence v r) = homes (key.Fence v r)
nothing_seen s names homes messages board (key.Msg m) = ap (told (λ g. message (message_of g))) (messages m)
nothing_seen s names homes messages board (key.Board p) = ap (told (λ p. published (published_of p))) (board p)

-- a content of a vat's cell comes back
back : (o : Option heap.Content) → cell_content (option_map content_of o) ≡ o
back None = refl
back (Some (heap.bound b)) = refl
back (Some (heap.held v)) = refl
back (Some (heap.made o)) = refl
back (Some (heap.viewed k)) = refl
back (Some (heap.fenced names)) = refl

-- ---- the state of a vat in a world is what is seen of it

module _ (s : World) (v : VatNo) where
  own_or_none : (a : VatNo) (c : Cell) → (same_vat a v ≡ false → (seen_at (homes_of s.homes v) c).0 ≡ None)
      → cond (same_vat a v) (cell_content (told content_of (seen_at (homes_of s.homes a) c)).0) None ≡ (seen_at (homes_of s.homes v) c).0
  own_or_none a c absent = by (same_vat a v) refl
    where
      by : (b : Bool) → same_vat a v ≡ b → cond b (cell_content (told content_of (seen_at (homes_of s.homes a) c)).0) None ≡ (seen_at (homes_of s.homes v) c).0
      by true e = back (seen_at (homes_of s.homes a) c).0 ∙ ap (λ u. (seen_at (homes_of s.homes u) c).0) (exact_vat a v e)
      by false e = sym (absent e)

  pub state_is_seen : (c : Cell) → vat_state (world_of s) v c ≡ (seen_at (homes_of s.homes v) c).0
  state_is_seen (top x) = back (seen_at (homes_of s.homes v) (top x)).0
  state_is_seen (view_cell p) = back (seen_at (homes_of s.homes v) (view_cell p)).0
  state_is_seen (fence_cell r) = back (seen_at (homes_of s.homes v) (fence_cell r)).0
  state_is_seen (slot_cell i) = own_or_none i.vat (slot_cell i) (s.homes.own_cells v (slot_cell i))
  state_is_seen (object_cell i) = own_or_none i.vat (object_cell i) (s.homes.own_cells v (object_cell i))

-- what follows in the good case holds there
pub ok_follows : {T E : Type 0} (r : Result T E) (P Q : T → Type 0) → IfOk r P → ((x : T) → P x → Q x) → IfOk r Q
ok_follows (Ok x) P Q p f = f x p
ok_follows (Err e) P Q p f = tt

-- contents of which one is a clone of the other stand for the same
pub clones_alike : {V : Type 0} (D : V → V → Type 0) (f : V → Content) → ((v w : V) → D v w → f w ≡ f v) → (o p : Option V) → ContentClones D o p → option_map f p ≡ option_map f o
clones_alike D f h None None d = refl
clones_alike D f h None (Some y) d = absurd d
clones_alike D f h (Some x) None d = absurd d
clones_alike D f h (Some x) (Some y) d = ap Some (h x y d)

-- ---- the state that a vat has, or has not

module _ (s : World) (v : VatNo) where
  pub state_there : (r : Option (Bor VatState)) → option_copied r ≡ option_map state_in (homes_of s.homes v) → IfSome r (λ t. state_of t.now ≡ vat_state (world_of s) v)
  state_there None h = tt
  state_there (Some t) h = ext _ _ (λ c. there (homes_of s.homes v) h c ∙ sym (state_is_seen s v c))
    where
      there : (o : Option Home) → Some t.now ≡ option_map state_in o → (c : Cell) → state_of t.now c ≡ (seen_at o c).0
      there None e c = cc
      there (Some g) e c = let q : t.now ≡ state_in g = cc in ap (λ u. state_of u c) q

  pub state_absent : (r : Option (Bor VatState)) → option_copied r ≡ option_map state_in (homes_of s.homes v) → IfNone r (vat_state (world_of s) v ≡ heap.nothing)
  state_absent None h = ext _ _ (λ c. state_is_seen s v c ∙ sym (absent (homes_of s.homes v) h c))
    where
      absent : (o : Option Home) → None ≡ option_map state_in o → (c : Cell) → None ≡ (seen_at o c).0
      absent None e c = refl
      absent (Some g) e c = cc
  state_absent (Some t) h = tt

-- ---- the vats that have a state

state_has_home : (s : World) (v : VatNo) (c : Cell) → is_some (vat_state (world_of s) v c) ≡ true → is_some (homes_of s.homes v) ≡ true
state_has_home s v c h = at (homes_of s.homes v) (ap is_some (sym (state_is_seen s v c)) ∙ h)
  where
    at : (o : Option Home) → is_some (seen_at o c).0 ≡ true → is_some o ≡ true
    at None e = e
    at (Some g) e = refl

-- are those whose homes are kept
pub vats_listed : (s : World) (vats : List VatNo) → vats ≡ keys s.homes.homes → (v : VatNo) (c : Cell) → is_some (vat_state (world_of s) v c) ≡ true → Contains vats v
vats_listed s vats e v c h = subst (λ l. Contains l v) (sym e) (Contains-keys_from_lookup {eq = same_vat} exact_vat v s.homes.homes.entries (state_has_home s v c h))
