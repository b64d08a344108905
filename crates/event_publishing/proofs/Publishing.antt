-- No promise is published twice in the world of a run.
use Rattle.std.proofs.Common.{◌≡◌, false, cond, List, [], ◌∷◌, ◌++◌, map, Option, Some, None, is_some, true≢false, ◌⊎◌, ⊎_elim, refl, sym, ap, ◌∙◌, append-nil}
use Rattle.std.specs.List.{AllByRecursion}
use Rattle.std.proofs.Math.Logic.{∥∥₁_elim, ∥∥₁_map}
use Rattle.std.proofs.Props.{props}
use Rattle.history.specs.Subject.{Run, run_none, run_more, written, after}
use Rattle.history.specs.Journal.{live_set}
use Rattle.history.specs.Records.{contents, entries_of}
use Rattle.ids.specs.declared.names.EventName.{EventName}
use Rattle.ids.specs.declared.names.PromId.{PromId}
use Rattle.ids.specs.declared.cells.CellKey.TheVariants as key
use Rattle.post.specs.Messages.{Message, Published, flying, done}
use Rattle.world_cells.specs.Events.{Event, event_in}
use Rattle.world_cells.specs.World.{World, empty, message, published_in, published_as}
use Rattle.event.specs.Events.{events, Foot, opening_message, known_as, birth_foot, asked_message, ask_foot, moved_foot, in_world, letters_from, on_the_board, counted, made_by, Does, births, asks, arrives, forwards, learns, turns, noted_events}
use Rattle.event.proofs.Noted.{live_run}
use Rattle.event.specs.Walks.{board_walk}
use Rattle.event_ordering.specs.Sending.{IsNewName}
use Rattle.event_ordering.specs.Theorems.{HaveOwnNames, live_events}
use Rattle.event_ordering.proofs.Runs.{own_names}
use Rattle.event_ordering.proofs.Written.{Writes, passed, all_pass, not_board, letters_pass_boards}
use Rattle.event_publishing.specs.Publishing.{AreUnpublished, PublishesNewPromises, AllCounts, JournalsPublishNewPromises, PublicationsStay}
use Rattle.event_publishing.proofs.Delivered.{delivery_turned}
use Rattle.event_publishing.proofs.Worlds.{Sound, sound_after}
use Rattle.event_publishing.proofs.Happening.{Never, OnlyMessages, IsFirst, first_happens, NoMessage, moved_happens, waits_undone, arrived_same, learns_happens}
use Rattle.event_publishing.proofs.Turned.{board_passes, all_unpublished, turn_happens}

none≢some : {A : Type 0} {x : A} → None ≡ Some x → ⊥
none≢some e = cc

-- ---- each event keeps it

sound_step : (old : EventName → Type 0) {d : Event} {w : World} {f : Foot} → Does d w f → Sound old w → (old d.name → ⊥) → Sound (λ n. old n ⊎ (n ≡ d.name)) (after events f w)
sound_step old {w = w} (births {e = e} {x = x} {earlier = xs} vats {script = ts} h a) s new =
    let u : World = after events (birth_foot e x xs vats ts) w in
    let g : Message = opening_message e (known_as xs vats) ts in
    let only : OnlyMessages w u = record { objects = λ i. refl; boards = λ p. refl; views = λ v p. refl } in
    sound_after old e w u (IsFirst e g) Never Never s new (first_happens e w u g refl only (λ n. refl))
sound_step old {w = w} (asks {e = e} {x = x} {program = ts} {v = v} h) s new =
    let u : World = after events (ask_foot e x v.number ts) w in
    let g : Message = asked_message e v.number ts in
    let only : OnlyMessages w u = record { objects = λ i. refl; boards = λ p. refl; views = λ v p. refl } in
    sound_after old e w u (IsFirst e g) Never Never s new (first_happens e w u g refl only (λ n. refl))
sound_step old {w = w} (arrives {e = e} {m = m} {g = g} {h = h} is to) s new =
    let u : World = after events (moved_foot [] m h) w in
    let only : OnlyMessages w u = record { objects = λ i. refl; boards = λ p. refl; views = λ v p. refl } in
    let x = arrived_same g h to in
    sound_after old e w u NoMessage Never Never s new (moved_happens e w u m g h is x.0 x.1 only (λ n. refl))
sound_step old {w = w} (forwards {e = e} {m = m} {g = g} {c = c} {v = v} {u = to} is at its on) s new =
    let h : Message = record g { place = flying to } in
    let u : World = after events (moved_foot (map key.Board (board_walk w c.target).through) m h) w in
    let only : OnlyMessages w u = record { objects = λ i. refl; boards = λ p. refl; views = λ v p. refl } in
    sound_after old e w u NoMessage Never Never s new (moved_happens e w u m g h is refl (waits_undone g.place v at) only (λ n. refl))
sound_step old {w = w} (learns {e = e} {v = v} {p = p} {b = b} {cells = cells} {left = left} h is l) s new =
    sound_after old e w (written events (in_world v left) w) NoMessage Never Never s new (learns_happens e w v p b cells left l)
sound_step old {w = w} (turns {e = e} {m = m} {budget = n} {t = t} {cells = cells} {left = left} h l) s new =
    sound_after old e w (written events (in_world t.vat left ++ made_by e w m t.message t.outcome) w) _ _ _ s new (turn_happens old e w m n t h s new cells left l)

-- ---- runs

-- the name is that of one of these events
abbrev IsNamed : List Event → EventName → Type 0
IsNamed [] n = ⊥
IsNamed (d ∷ ds) n = IsNamed ds n ⊎ (n ≡ d.name)

not_named : (e : EventName) (ds : List Event) → IsNewName e ds → IsNamed ds e → ⊥
not_named e [] h x = x
not_named e (d ∷ ds) h x = ⊎_elim (λ y. not_named e ds h.1 y) (λ y. h.0 (sym y)) x

sound_empty : Sound (IsNamed []) empty
sound_empty = record {
  named = λ m g is. absurd (none≢some is);
  apart = λ m n g h is also same. absurd (none≢some is);
  waiting = λ m g is undone. refl;
  resolvers = λ i p r. absurd (none≢some r);
  no_results = λ i p m g r is same. none≢some r;
  board = λ p none. refl;
  unused = λ i p r still. refl;
}

sound_run : {es : List Event} {w : World} → Run events empty es w → HaveOwnNames es → Sound (IsNamed es) w
sound_run run_none own = sound_empty
sound_run (run_more {e = d} {es = es} r does) own = sound_step (IsNamed es) does (sound_run r own.1) (not_named d.name es own.0)

-- ---- what turns publish

-- what merely is nothing is nothing
nothing_there : {A : Type 0} (o : Option A) → ∥ (o ≡ None) ∥₁ → o ≡ None
nothing_there None h = refl
nothing_there (Some x) h = absurd (∥∥₁_elim h (hlevel props) (λ (e : Some x ≡ None). none≢some (sym e)))

none_published : (w : World) (bs : List (PromId × Published)) → ∥ AreUnpublished w bs ∥₁ → AreUnpublished w bs
none_published w [] h = tt
none_published w (b ∷ bs) h = (nothing_there (published_as w b.0) (∥∥₁_map h (λ x. x.0)), none_published w bs (∥∥₁_map h (λ x. x.1)))

pub new_promises : PublishesNewPromises
new_promises e es w ((r, new), own) m n t h =
    (none_published w t.outcome.out.publications (∥∥₁_map r (λ r. all_unpublished (IsNamed es) e w m n t h (sound_run r own) (not_named e es new))), (delivery_turned h.delivers.0).once)

all_count : (w : World) (bs : List (PromId × Published)) → AreUnpublished w bs → counted w bs ≡ bs
all_count w [] h = refl
all_count w (b ∷ bs) h = ap (λ o. cond (is_some o) (counted w bs) (b ∷ counted w bs)) h.0 ∙ ap (λ cs. b ∷ cs) (all_count w bs h.1)

pub all_counts : AllCounts
all_counts e es w ran m n t h = all_count w t.outcome.out.publications (new_promises e es w ran m n t h).0

pub journals_publish : JournalsPublishNewPromises
journals_publish next rows state h e new m n t does =
    let own : HaveOwnNames (live_events rows) = own_names noted_events event_in (λ e. refl) (live_set noted_events) (entries_of rows) h.named.distinct in
    new_promises e (live_events rows) (contents noted_events state) ((∣ live_run h ∣₁, new), own) m n t does

-- ---- what was published stays

-- no publication that counts is of a promise that was published
others_count : (w : World) (p : PromId) (b : Published) → published_as w p ≡ Some b → (bs : List (PromId × Published)) → AllByRecursion (λ c. is_some (published_as w c.0) ≡ false → c.0 ≡ p → ⊥) bs
others_count w p b is [] = tt
others_count w p b is (c ∷ bs) = (λ q same. true≢false (sym (ap is_some (ap (λ x. published_as w x) same ∙ is)) ∙ q), others_count w p b is bs)

pub publications_stay : PublicationsStay
publications_stay d w f (births vats h a) p b is = is
publications_stay d w f (asks h) p b is = is
publications_stay d w f (arrives i j) p b is = is
publications_stay d w f (forwards i j k l) p b is = is
publications_stay d w f (learns {v = v} {left = left} i j l) p b is =
    ap published_in (ap (λ ps. written events ps w (key.Board p)) (sym (append-nil (in_world v left))) ∙ passed (in_world v left) [] w (key.Board p) (all_pass v left (key.Board p) (not_board v p))) ∙ is
publications_stay d w f (turns {e = e} {m = m} {t = t} {left = left} h l) p b is =
    let letters : Writes = letters_from e 0 t.outcome.out.letters in
    let boards : Writes = on_the_board (counted w t.outcome.out.publications) in
    let last : Writes = (key.Msg m, message (record t.message { place = done e })) ∷ [] in
    ap published_in
    (passed (in_world t.vat left) (letters ++ (boards ++ last)) w (key.Board p) (all_pass t.vat left (key.Board p) (not_board t.vat p))
    ∙ passed letters (boards ++ last) w (key.Board p) (letters_pass_boards e 0 t.outcome.out.letters p)
    ∙ passed boards last w (key.Board p) (board_passes w t.outcome.out.publications p (others_count w p b is t.outcome.out.publications))) ∙ is
