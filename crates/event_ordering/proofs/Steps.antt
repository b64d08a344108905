-- The steps of a book do what their deeds say.
use Rattle.std.proofs.Common.{◌≡◌, false, [], map, Option, Some, None, option_map, refl, sym, ◌∙◌, subst}
use Rattle.history.specs.Subject.{after}
use Rattle.ids.specs.declared.names.VatNo.{VatNo}
use Rattle.ids.specs.declared.names.MsgId.{MsgId}
use Rattle.ids.specs.declared.cells.CellKey.TheVariants as key
use Rattle.eorder.specs.Deeds.{Deed}
use Rattle.eorder.specs.Places.{same_message}
use Rattle.eorder.specs.Worlds.{DeedLaw, StepLaw}
use Rattle.post.specs.Messages.{Message, Published, Place as MessagePlace, flying, at_vat, done, is_done, flies_to, waits_at}
use Rattle.world_cells.specs.Events.{Event}
use Rattle.world_cells.specs.World.{World, message_of}
use Rattle.event.specs.Events.{events, Foot, opening_message, known_as, birth_foot, first_message, asked_message, ask_foot, moved_foot, Leaves, learnt, Does, births, asks, arrives, forwards, learns, turns}
use Rattle.event.specs.Laws.{HasNoMessage}
use Rattle.event.specs.Walks.{board_walk}
use Rattle.event_ordering.specs.Deeds.{Do, do_birth, do_ask, do_arrive, do_forward, do_learn, do_turn, happening}
use Rattle.event_ordering.proofs.Learned.{learn_law}
use Rattle.event_ordering.proofs.Turned.{turn_law}
use Rattle.event_ordering.proofs.Unmoved.{SameMessage, quiet_world, one_message, new_message, moved_message}

some_message : {x y : Message} → Some x ≡ Some y → x ≡ y
some_message e = cc

some_published : {x y : Published} → Some x ≡ Some y → x ≡ y
some_published e = cc

flies_undone : (p : MessagePlace) (v : VatNo) → flies_to p ≡ Some v → is_done p ≡ false
flies_undone (flying x) v i = refl
flies_undone (at_vat x) v i = refl
flies_undone (done x) v i = absurd (cc)

waits_undone : (p : MessagePlace) (v : VatNo) → waits_at p ≡ Some v → is_done p ≡ false
waits_undone (flying x) v i = refl
waits_undone (at_vat x) v i = refl
waits_undone (done x) v i = absurd (cc)

arrived_same : (w : World) (m : MsgId) (g h : Message) (o : Option VatNo) → flies_to g.place ≡ o → message_of w m ≡ Some g → option_map (λ v. record g { place = at_vat v }) o ≡ Some h → SameMessage (Some h) (message_of w m)
arrived_same w m g h None i is e = absurd (cc)
arrived_same w m g h (Some v) i is e = subst (λ x. SameMessage (Some x) (message_of w m)) (some_message e) (moved_message w m g (at_vat v) is (sym (flies_undone g.place v i)))

deed_law : {e : Event} {w : World} {f : Foot} {d : Deed} → HasNoMessage e.name w → Does e w f → Do e w d → DeedLaw happening w (after events f w) d
deed_law {w = w} new (births {e = e} {x = x} {earlier = xs} vats {script = ts} h a) do_birth =
    let g : Message = opening_message e (known_as xs vats) ts in
    quiet_world (record { 0 = e }) w (after events (birth_foot e x xs vats ts) w) (λ u r. refl) (λ q. refl)
    (λ n. one_message w (first_message e) n g (new_message w (first_message e) g (new 0) refl refl refl) (same_message (first_message e) n) refl)
deed_law {w = w} new (asks {e = e} {x = x} {program = ts} {v = v} h) do_ask =
    let g : Message = asked_message e v.number ts in
    quiet_world (record { 0 = e }) w (after events (ask_foot e x v.number ts) w) (λ u r. refl) (λ q. refl)
    (λ n. one_message w (first_message e) n g (new_message w (first_message e) g (new 0) refl refl refl) (same_message (first_message e) n) refl)
deed_law {w = w} new (arrives {e = e} {m = m} {g = g} {h = h} is to) do_arrive =
    quiet_world (record { 0 = e }) w (after events (moved_foot [] m h) w) (λ u r. refl) (λ q. refl) (λ n. one_message w m n h (arrived_same w m g h (flies_to g.place) refl is to) (same_message m n) refl)
deed_law {w = w} new (forwards {e = e} {m = m} {g = g} {c = c} {v = v} {u = u} is at its to) do_forward =
    let h : Message = record g { place = flying u } in
    quiet_world (record { 0 = e }) w (after events (moved_foot (map key.Board (board_walk w c.target).through) m h) w) (λ u r. refl) (λ q. refl)
    (λ n. one_message w m n h (moved_message w m g (flying u) is (sym (waits_undone g.place v at))) (same_message m n) refl)
deed_law {w = w} new (learns {v = v} {p = p} {b = b} {cells = cells} {left = left} h is l) (do_learn {b = c} also) =
    learn_law w v p c cells left also (subst (λ x. Leaves (learnt w v p x).touched (learnt w v p x).written (learnt w v p x).state cells left) (some_published (sym is ∙ also)) l)
deed_law {w = w} new (turns {e = e} {m = m} {budget = n} {t = t} {cells = cells} {left = left} h l) (do_turn {g = g} {o = o} is r) = turn_law e w m n t cells left h l new g o is r

pub step_law : StepLaw happening
step_law e w u d (new, (f, does, its, deed)) = subst (λ x. DeedLaw happening w x d) (sym its) (deed_law new does deed)
