-- Runs of events from the empty world keep the order of messages.
use Rattle.std.proofs.Common.{◌≡◌, ◌≢◌, ℕ, ◌+◌, Bool, true, false, cond, List, [], ◌∷◌, ◌++◌, map, filter, Option, Some, None, true≢false, inl, inr, ⊎_elim, refl, sym, ap, ◌∙◌, subst, append-nil}
use Rattle.std.proofs.Math.Logic.{∥∥₁_map}
use Rattle.std.specs.List.{AllByRecursion}
use Rattle.history.specs.Subject.{Subject, Run, run_none, run_more, written, after}
use Rattle.history.specs.Journal.{Entry, live_set, name_of, Distinct}
use Rattle.history.specs.Records.{contents, entries_of}
use Rattle.ids.specs.declared.names.EventName.{EventName}
use Rattle.ids.specs.declared.names.VatNo.{VatNo}
use Rattle.ids.specs.declared.names.MsgId.{MsgId}
use Rattle.ids.specs.declared.cells.CellKey.TheVariants as key
use Rattle.eorder.specs.Acts.{Start}
use Rattle.eorder.specs.Deeds.{Deed, HadTurn, TurnBefore}
use Rattle.eorder.specs.Journals.{AllDo}
use Rattle.eorder.specs.Order.{Settled}
use Rattle.eorder.specs.Places.{same_message}
use Rattle.eorder.specs.Worlds.{seen, Ran, deeds_of}
use Rattle.eorder.proofs.Places.{message_equal}
use Rattle.eorder.proofs.Worlds.{events_keep}
use Rattle.heap.specs.State as heap
use Rattle.heap.specs.State.{Cell}
use Rattle.post.specs.Messages.{Message, flying, done}
use Rattle.world_cells.specs.Events.{Event, event_in}
use Rattle.world_cells.specs.World.{Content, message, World, empty, message_in, message_of}
use Rattle.event.specs.Events.{events, noted_events, Foot, in_world, letters_from, on_the_board, counted, first_message, Does, births, asks, arrives, forwards, learns, turns}
use Rattle.event.specs.Laws.{HasNoMessage}
use Rattle.event.proofs.Noted.{live_run}
use Rattle.event_ordering.specs.Deeds.{Do, do_birth, do_ask, do_arrive, do_forward, do_learn, do_turn, doing, happening}
use Rattle.event_ordering.specs.Theorems.{HasTurn, HasTurnBefore, HaveOwnNames, book, RanFromNothing, KeepOrder, RunsAreDeeds, RunsKeepOrder, RunsAreInOrder, JournalsKeepOrder, live_events}
use Rattle.event_ordering.proofs.Steps.{step_law}
use Rattle.event_ordering.proofs.Written.{Writes, Passes, passed, all_pass, not_message, board_passes_messages}

-- ---- each event that happens does a deed

pub all_do : AllDo events doing
all_do e w f (births vats h a) = (_, do_birth)
all_do e w f (asks h) = (_, do_ask)
all_do e w f (arrives is to) = (_, do_arrive)
all_do e w f (forwards is at its to) = (_, do_forward)
all_do e w f (learns h is l) = (_, do_learn is)
all_do e w f (turns {t = t} h l) = (_, do_turn (ap message_in h.waiting) h.delivers.0)

pub runs_do : {es : List Event} {w : World} → Run events empty es w → (ps : List (Event × Deed)) × RanFromNothing es w ps
runs_do run_none = ([], record { events = refl; ran = refl })
runs_do (run_more {e = e} {w = w} {f = f} r does) =
    let h = runs_do r in
    let d = all_do e w f does in
    ((e, d.0) ∷ h.0, record { events = ap (λ es. e ∷ es) h.1.events; ran = (w, h.1.ran, (f, does, refl, d.1)) })

pub runs_are_deeds : RunsAreDeeds
runs_are_deeds es w r = runs_do r

-- ---- messages have the names of events that ran

is_false : (b : Bool) → (b ≡ true → ⊥) → b ≡ false
is_false true h = absurd (h refl)
is_false false h = refl

other_event : (d e : EventName) (i j : ℕ) → (d ≡ e → ⊥) → same_message (record { event = d; index = i }) (record { event = e; index = j }) ≡ false
other_event d e i j h = is_false (same_message (record { event = d; index = i }) (record { event = e; index = j })) (λ t. h (ap (λ (m : MsgId). m.event) (message_equal (record { event = d; index = i }) (record { event = e; index = j }) t)))

letters_pass : (d e : EventName) (i j : ℕ) (ls : List (MsgId × Message)) → (d ≡ e → ⊥) → Passes (key.Msg (record { event = e; index = j })) (letters_from d i ls)
letters_pass d e i j [] h = tt
letters_pass d e i j (l ∷ ls) h = (other_event d e i j h, letters_pass d e (i + 1) j ls h)

some≢none : {A : Type 0} {x : A} → Some x ≡ None → ⊥
some≢none e = cc

-- a message that is there is no other one
there_case : (w : World) (m k : MsgId) (g h : Message) → message_of w m ≡ Some g → w (key.Msg k) ≡ None → (q : Bool) → same_message m k ≡ q → cond q (Some (message h)) (w (key.Msg k)) ≡ None
there_case w m k g h is none true i = absurd (some≢none (sym is ∙ ap (λ x. message_of w x) (message_equal m k i) ∙ ap message_in none))
there_case w m k g h is none false i = none

new_case : (q : Bool) (x o : Option Content) → q ≡ false → o ≡ None → cond q x o ≡ None
new_case true x o h n = absurd (true≢false h)
new_case false x o h n = n

left_messages : (v : VatNo) (left : List (Cell × heap.Content)) (w : World) (k : MsgId) → written events (in_world v left) w (key.Msg k) ≡ w (key.Msg k)
left_messages v left w k = ap (λ ps. written events ps w (key.Msg k)) (sym (append-nil (in_world v left))) ∙ passed (in_world v left) [] w (key.Msg k) (all_pass v left (key.Msg k) (not_message v k))

-- an event makes no message of another event
does_keep : {d : Event} {w : World} {f : Foot} (e : EventName) → Does d w f → (d.name ≡ e → ⊥) → HasNoMessage e w → HasNoMessage e (after events f w)
does_keep {w = w} e (births {e = d} vats h a) n none i = new_case (same_message (first_message d) (record { event = e; index = i })) _ (w (key.Msg (record { event = e; index = i }))) (other_event d e 0 i n) (none i)
does_keep {w = w} e (asks {e = d} h) n none i = new_case (same_message (first_message d) (record { event = e; index = i })) _ (w (key.Msg (record { event = e; index = i }))) (other_event d e 0 i n) (none i)
does_keep {w = w} e (arrives {m = m} {g = g} {h = h} is to) n none i = there_case w m (record { event = e; index = i }) g h is (none i) (same_message m (record { event = e; index = i })) refl
does_keep {w = w} e (forwards {m = m} {g = g} {u = u} is at its to) n none i =
    there_case w m (record { event = e; index = i }) g (record g { place = flying u }) is (none i) (same_message m (record { event = e; index = i })) refl
does_keep {w = w} e (learns {v = v} {left = left} h is l) n none i = left_messages v left w (record { event = e; index = i }) ∙ none i
does_keep {w = w} e (turns {e = d} {m = m} {t = t} {left = left} h l) n none i =
    let k : MsgId = record { event = e; index = i } in
    let letters : Writes = letters_from d 0 t.outcome.out.letters in
    let boards : Writes = on_the_board (counted w t.outcome.out.publications) in
    let g : Message = record t.message { place = done d } in
    let last : Writes = (key.Msg m, message g) ∷ [] in
    passed (in_world t.vat left) (letters ++ (boards ++ last)) w (key.Msg k) (all_pass t.vat left (key.Msg k) (not_message t.vat k))
    ∙ passed letters (boards ++ last) w (key.Msg k) (letters_pass d e 0 i t.outcome.out.letters n)
    ∙ passed boards last w (key.Msg k) (board_passes_messages (counted w t.outcome.out.publications) k)
    ∙ there_case w m k t.message g (ap message_in h.waiting) (none i) (same_message m k) refl

pub names_run : (ps : List (Event × Deed)) (w : World) → Ran book empty ps w → (e : EventName) → AllByRecursion (λ d. d.name ≡ e → ⊥) (map (λ p. p.0) ps) → HasNoMessage e w
names_run [] w r e h = λ i. ap (λ (u : World). u (key.Msg (record { event = e; index = i }))) r
names_run (p ∷ ps) w (x, r, (f, does, its, d)) e h = subst (HasNoMessage e) (sym its) (does_keep e does h.0 (names_run ps x r e h.1))

-- so events with names of their own happen where no message has theirs
own_names_happen : (ps : List (Event × Deed)) (w : World) → Ran book empty ps w → HaveOwnNames (map (λ p. p.0) ps) → Ran happening empty ps w
own_names_happen [] w r h = r
own_names_happen (p ∷ ps) w (x, r, s) h = (x, own_names_happen ps x r h.1, (names_run ps x r p.0.name h.0, s))

empty_settled : Settled (seen book empty)
empty_settled a b d h = absurd (true≢false (sym d))

-- ---- turns are turns of events

abbrev nothing : Start
nothing = seen book empty

-- a deed is a turn just where its event is one
had_turn : {e : Event} {w : World} {d : Deed} → Do e w d → (es : List Event) (ds : List Deed) (m : MsgId) → (HasTurn es m → HadTurn nothing ds m) → HasTurn (e ∷ es) m → HadTurn nothing (d ∷ ds) m
had_turn do_birth es ds m f h = ⊎_elim (λ x. absurd x) f h
had_turn do_ask es ds m f h = ⊎_elim (λ x. absurd x) f h
had_turn do_arrive es ds m f h = ⊎_elim (λ x. absurd x) f h
had_turn do_forward es ds m f h = ⊎_elim (λ x. absurd x) f h
had_turn (do_learn is) es ds m f h = ⊎_elim (λ x. absurd x) f h
had_turn (do_turn is r) es ds m f h = ⊎_elim (λ x. inl x) (λ x. inr (f x)) h

has_turn : {e : Event} {w : World} {d : Deed} → Do e w d → (es : List Event) (ds : List Deed) (m : MsgId) → (HadTurn nothing ds m → HasTurn es m) → HadTurn nothing (d ∷ ds) m → HasTurn (e ∷ es) m
has_turn do_birth es ds m f h = inr (f h)
has_turn do_ask es ds m f h = inr (f h)
has_turn do_arrive es ds m f h = inr (f h)
has_turn do_forward es ds m f h = inr (f h)
has_turn (do_learn is) es ds m f h = inr (f h)
has_turn (do_turn is r) es ds m f h = ⊎_elim (λ x. inl x) (λ x. inr (f x)) h

turn_before : {e : Event} {w : World} {d : Deed} → Do e w d → (es : List Event) (ds : List Deed) (a b : MsgId) → (HadTurn nothing ds a → HasTurn es a) → (TurnBefore nothing ds a b → HasTurnBefore es a b) → TurnBefore nothing (d ∷ ds) a b → HasTurnBefore (e ∷ es) a b
turn_before do_birth es ds a b f g h = inr (g h)
turn_before do_ask es ds a b f g h = inr (g h)
turn_before do_arrive es ds a b f g h = inr (g h)
turn_before do_forward es ds a b f g h = inr (g h)
turn_before (do_learn is) es ds a b f g h = inr (g h)
turn_before (do_turn is r) es ds a b f g h = ⊎_elim (λ x. inl (x.0, f x.1)) (λ x. inr (g x)) h

-- the events, and what they did
abbrev of_events : List (Event × Deed) → List Event
of_events ps = map (λ p. p.0) ps

all_had : (ps : List (Event × Deed)) (w : World) → Ran book empty ps w → (m : MsgId) → HasTurn (of_events ps) m → HadTurn nothing (deeds_of book ps) m
all_had [] w r m h = absurd h
all_had (p ∷ ps) w (x, r, (f, does, its, d)) m h = had_turn d (of_events ps) (deeds_of book ps) m (all_had ps x r m) h

all_have : (ps : List (Event × Deed)) (w : World) → Ran book empty ps w → (m : MsgId) → HadTurn nothing (deeds_of book ps) m → HasTurn (of_events ps) m
all_have [] w r m h = absurd (true≢false (sym h))
all_have (p ∷ ps) w (x, r, (f, does, its, d)) m h = has_turn d (of_events ps) (deeds_of book ps) m (all_have ps x r m) h

all_before : (ps : List (Event × Deed)) (w : World) → Ran book empty ps w → (a b : MsgId) → TurnBefore nothing (deeds_of book ps) a b → HasTurnBefore (of_events ps) a b
all_before [] w r a b h = absurd (true≢false (sym h.0))
all_before (p ∷ ps) w (x, r, (f, does, its, d)) a b h = turn_before d (of_events ps) (deeds_of book ps) a b (all_have ps x r a) (all_before ps x r a b) h

keeps : (ps : List (Event × Deed)) (w : World) → Ran book empty ps w → HaveOwnNames (of_events ps) → KeepOrder ps
keeps ps w r h a b i t = all_before ps w r a b (events_keep happening step_law empty ps w a b empty_settled (own_names_happen ps w r h) i (all_had ps w r b t))

pub runs_keep_order : RunsKeepOrder
runs_keep_order es w ps r h = keeps ps w r.ran (subst HaveOwnNames (sym r.events) h)

pub runs_in_order : RunsAreInOrder
runs_in_order es w h own = record { ran = ∥∥₁_map h (λ r. runs_do r); kept = λ ps r. runs_keep_order es w ps r own }

-- ---- journals

-- entries of events: some of the subject's own, which tell an event that has their name
module _ (s : Subject) (told : s.Event → Event) (names : (e : s.Event) → s.name e ≡ (told e).name.0) where
  others_filtered : (e : Entry s) (p : Entry s → Bool) (es : List (Entry s)) → AllByRecursion (λ a. name_of s a ≢ name_of s e) es → AllByRecursion (λ d. d.name ≡ (told e.event).name → ⊥) (map (λ a. told a.event) (filter p es))
  others_filtered e p [] h = tt
  others_filtered e p (a ∷ es) h = go (p a) (others_filtered e p es h.1)
    where
      go : (q : Bool) → AllByRecursion (λ d. d.name ≡ (told e.event).name → ⊥) (map (λ a. told a.event) (filter p es)) → AllByRecursion (λ d. d.name ≡ (told e.event).name → ⊥) (map (λ a. told a.event) (cond q (a ∷ filter p es) (filter p es)))
      go true k = (λ i. h.0 (names a.event ∙ ap (λ (n : EventName). n.0) i ∙ sym (names e.event)), k)
      go false k = k

  pub own_names : (p : Entry s → Bool) (es : List (Entry s)) → Distinct s es → HaveOwnNames (map (λ a. told a.event) (filter p es))
  own_names p [] h = tt
  own_names p (e ∷ es) h = go (p e) (own_names p es h.1)
    where
      go : (q : Bool) → HaveOwnNames (map (λ a. told a.event) (filter p es)) → HaveOwnNames (map (λ a. told a.event) (cond q (e ∷ filter p es) (filter p es)))
      go true k = (others_filtered e p es h.0, k)
      go false k = k

pub journals_keep_order : JournalsKeepOrder
journals_keep_order next rows state h =
    let x = runs_do (live_run h) in
    (x.0, x.1, runs_keep_order (live_events rows) (contents noted_events state) x.0 x.1 (own_names noted_events event_in (λ e. refl) (live_set noted_events) (entries_of rows) h.named.distinct))
