-- From what the parts answer to what the definition allows.
use Rattle.std.proofs.Common.{◌≡◌, inl, inr, ℕ, ◌+◌, List, Option, Some, None, Result, Ok, Err, true, false, ◌||◌, refl, subst, sym, ap, ◌∙◌}
use Rattle.std.specs.Prelude.{codes, IsSome, Bool}
use Rattle.std.proofs.lemmas.Bool.{false≢true}
use Rattle.kernele.specs.Tree.{Trees}
use Rattle.ereader.specs.Texts.{ReadAs}
use Rattle.ereader.specs.Texts as texts
use Rattle.ereader.specs.Shown as reading
use Rattle.ereader.specs.declared.fault.ReadFault.{ReadFault}
use Rattle.ereader.specs.declared.fault.ReadFault.TheVariants as read_fault
use Rattle.world_cells.specs.Events.{birth, ask}
use Rattle.event.specs.Events.{Foot, Turn, birth_foot, ask_foot}
use Rattle.post.specs.Messages.{Vat}
use Rattle.turn_deliveries.specs.Turn.{Told}
use Rattle.book_agenda.specs.declared.agenda.Move.{Move}
use Rattle.book_agenda.specs.declared.agenda.Step.{Step}
use Rattle.book_agenda.specs.declared.agenda.Step.TheVariants as step
use Rattle.journal.specs.Lines.{Line}
use Rattle.causality.specs.Exact.{Cone}
use Rattle.book_refusals.specs.Refusals.{Refusal}
use Rattle.book_refusals.specs.Checks.{StoodAt, undo_refusal, redo_refusal, cone_refusal, exchange_refusal, settle_refusal}
use Rattle.book_refusals.specs.Fault as book
use Rattle.book_refusals.specs.Fault.{refusal_text, told_by, words_of, TellsThat, Tells}
use Rattle.book_refusals.specs.declared.fault.BookFault.{BookFault}
use Rattle.book_refusals.specs.declared.fault.BookFault.TheVariants as fault
use Rattle.book.specs.Refusals.{birth_refusal, ask_refusal, move_refusal, checkout_refusal}
use Rattle.book.specs.Books.{Book, settled_lines, open_lines}
use Rattle.book.specs.Calls.{EntersNext, TurnsNext, Undoes, Redoes, Exchanges, Settles, act_of}
use Rattle.ids.specs.declared.names.EventName.{EventName}
use Rattle.ids.specs.declared.names.MsgId.{MsgId}
use Rattle.stepper_commands.specs.declared.numbers.PromiseName.{PromiseName}
use Rattle.book.specs.Learning.{LearnsNamed, TellsNamed}
use Rattle.ids.specs.declared.names.VatNo.{VatNo}
use Rattle.book.specs.TurnFaults.{Unturned}
use Rattle.stepper.specs.declared.engine.Engine.{Engine}
use Rattle.book.specs.BookView.{book_of}
use Rattle.stepper_streams.specs.Outlet as outlet
use Rattle.stepper_streams.specs.declared.outlet.Outlet.{Outlet}
use Rattle.stepper.specs.declared.reply.Written.{Written}
use Rattle.stepper.specs.Written.{Adds}
use Rattle.stepper.specs.Engine.{Happens}
use Rattle.stepper_commands.specs.Commands as commands
use Rattle.stepper_commands.specs.Commands.{Spelled, fault_text}
use Rattle.stepper_commands.specs.Scripts.{script_of, behind_lines}
use Rattle.stepper_commands.specs.declared.command.LineFault.{LineFault}
use Rattle.stepper.specs.Replies.{refused, Answers, ask_without_memory, asked_without_memory, asked_unread, ask_refused, Moves, move_without_memory, move_refused, move_made, turn_without_memory_named, turn_refused, turns, learn_without_memory, learn_refused, learn_accepted, EnabledIn, enabled, enabled_without_memory, done_text, count_of, undone_text, redone_text, listed, logged, logged_text, cone_found, undo_cone_found, cone_without_memory, cone_refused, undo_without_memory, undo_refused, undo_accepted, undo_cone_without_memory, undo_cone_refused, redo_without_memory, redo_refused, redo_accepted, exchange_refused, exchange_accepted, settle_without_memory, settle_refused, settle_accepted, exchanged_text, settled_text, AnswersBirth, birth_without_memory, script_without_memory, script_unread, birth_refused, birth_accepted, ask_accepted, queued_text, turned_text, FirstReply, born, answered}
use Rattle.causewaylog.specs.Turns.{live_in}
use Rattle.causewaylog.specs.Log.{log_text}
use Rattle.stepper_printing.specs.Listing.{journal_text, cone_text}
use Rattle.stepper_printing.specs.Steps.{ShowsEnabled}
use Rattle.world_cells.specs.World.{World}
use Rattle.stepper.specs.declared.engine.Limits.{Limits}

-- a fault of the book is written as the refusal that it tells, or as want of memory
told_so : (is o : Option Refusal) (T : List ℕ → Type 0) → TellsThat is o → ((r : Refusal) → o ≡ Some r → T (refusal_text r)) → T (codes "B20 Memory") → T (words_of is)
told_so (Some r) o T h g m = g r h
told_so None o T h g m = m

pub told : (f : BookFault) (o : Option Refusal) (T : List ℕ → Type 0) → Tells f o → ((r : Refusal) → o ≡ Some r → T (refusal_text r)) → T (codes "B20 Memory") → T (book.fault_text f)
told f o T h g m = told_so (told_by f) o T h g m

-- a fault that is no want of memory is written as the refusal that it tells
told_why : (is o : Option Refusal) (T : List ℕ → Type 0) → IsSome is → TellsThat is o → ((r : Refusal) → o ≡ Some r → T (refusal_text r)) → T (words_of is)
told_why (Some r) o T some h g = g r h
told_why None o T some h g = absurd (false≢true some)

-- a fault of reading is written as the text's refusal, or as want of memory
pub unread : (f : ReadFault) (text : List ℕ) (T : List ℕ → Type 0) → texts.Answers text (Err f) → (ReadAs text (Err f) → T (reading.shown f)) → T (codes "L7 Memory") → T (reading.shown f)
unread (read_fault.BadCharacter i) text T h g m = g h
unread (read_fault.UnclosedText i) text T h g m = g h
unread (read_fault.BadEscape i) text T h g m = g h
unread (read_fault.IntegerTooLarge i) text T h g m = g h
unread (read_fault.Unexpected i) text T h g m = g h
unread read_fault.TooDeep text T h g m = g h
unread read_fault.TooLong text T h g m = g h
unread read_fault.Memory text T h g m = m

module _ (limits : Limits) (b : Book) where
  pub ask_told : (x text : List ℕ) (program : Trees) (f : BookFault) → ReadAs text (Ok program) → Tells f (ask_refusal b x program)
      → Answers limits b (commands.ask x text) (refused (book.fault_text f)) true b
  ask_told x text program f h t = told f (ask_refusal b x program) (λ words. Answers limits b (commands.ask x text) (refused words) true b) t (λ r e. ask_refused h e) ask_without_memory

  pub ask_not_read : (x text : List ℕ) (f : ReadFault) → texts.Answers text (Err f) → Answers limits b (commands.ask x text) (refused (reading.shown f)) true b
  ask_not_read x text f h = unread f text (λ words. Answers limits b (commands.ask x text) (refused words) true b) h (λ k. asked_unread k) asked_without_memory

  -- a step that the book refuses
  step_fails : {s : Step} (o : Option Refusal) → ((r : Refusal) → o ≡ Some r → Moves limits b s (refused (refusal_text r)) true b) → (f : BookFault) {d : Book} → Tells f o → d ≡ b
      → Moves limits b s (refused (book.fault_text f)) true d
  step_fails {s = s} o refuses f t stays =
      subst (λ z. Moves limits b s (refused (book.fault_text f)) true z) (sym stays) (told f o (λ words. Moves limits b s (refused words) true b) t refuses move_without_memory)

  pub move_fails : {m : Move} (f : BookFault) {d : Book} → Tells f (move_refusal b m) → d ≡ b → Moves limits b (step.Move m) (refused (book.fault_text f)) true d
  move_fails {m = m} f t stays = step_fails (move_refusal b m) (λ r e. move_refused e) f t stays

  pub move_done : {m : Move} {e : EventName} {d : Book} → (move_refusal b m ≡ None) × ((f : Foot) × EntersNext (record { name = e; act = act_of m }) f 0 b d) → Moves limits b (step.Move m) (done_text e) false d
  move_done (none, (f, enters)) = move_made none enters

  -- a vat learns of a promise that is named without its home
  pub learn_fails : {x y : List ℕ} {n : PromiseName} (f : BookFault) {d : Book} → y ≡ x → TellsNamed f b y n.event n.index → d ≡ b → Answers limits b (commands.learn x n) (refused (book.fault_text f)) true d
  learn_fails {y = y} {n = n} f {d = d} same t stays =
      subst (λ z. Answers limits b (commands.learn z n) (refused (book.fault_text f)) true d) same
      (subst (λ z. Answers limits b (commands.learn y n) (refused (book.fault_text f)) true z) (sym stays)
      (told f t.refusal (λ words. Answers limits b (commands.learn y n) (refused words) true b) t.tells (λ r e. learn_refused (t.refuses r e)) learn_without_memory))

  pub learn_done : {x y : List ℕ} {n : PromiseName} {e : EventName} {d : Book} → y ≡ x → LearnsNamed y n.event n.index e b d → Answers limits b (commands.learn x n) (done_text e) false d
  learn_done {n = n} {e = e} {d = d} same h = subst (λ z. Answers limits b (commands.learn z n) (done_text e) false d) same (learn_accepted h)

  birth_told : (x : List ℕ) (earlier : List (List ℕ)) (text : List ℕ) (program : Trees) (f : BookFault) → ReadAs text (Ok program) → Tells f (birth_refusal b x earlier program)
      → AnswersBirth b x earlier (Ok text) (refused (book.fault_text f)) true b
  birth_told x earlier text program f h t =
      told f (birth_refusal b x earlier program) (λ words. AnswersBirth b x earlier (Ok text) (refused words) true b) t (λ r e. birth_refused h e) birth_without_memory

  pub birth_not_read : (x : List ℕ) (earlier : List (List ℕ)) (text : List ℕ) (f : ReadFault) → texts.Answers text (Err f) → AnswersBirth b x earlier (Ok text) (refused (reading.shown f)) true b
  birth_not_read x earlier text f h = unread f text (λ words. AnswersBirth b x earlier (Ok text) (refused words) true b) h (λ k. script_unread k) script_without_memory

  pub ask_done : {x y text : List ℕ} {program : Trees} {e : EventName} {d : Book} → y ≡ x → ReadAs text (Ok program) → (ask_refusal b y program ≡ None) × ((v : VatNo) × EntersNext (record { name = e; act = ask y program }) (ask_foot e y v program) 0 b d)
      → Answers limits b (commands.ask x text) (queued_text e) false d
  ask_done {text = text} {program = program} {e = e} {d = d} same h a = subst (λ z. Answers limits b (commands.ask z text) (queued_text e) false d) same (ask_accepted {v = a.1.0} h a.0 a.1.1)

  pub ask_fails : {x y text : List ℕ} {program : Trees} (f : BookFault) {d : Book} → y ≡ x → ReadAs text (Ok program) → Tells f (ask_refusal b y program) → d ≡ b
      → Answers limits b (commands.ask x text) (refused (book.fault_text f)) true d
  ask_fails {y = y} {text = text} {program = program} f {d = d} same h t stays =
      subst (λ z. Answers limits b (commands.ask z text) (refused (book.fault_text f)) true d) same
      (subst (λ z. Answers limits b (commands.ask y text) (refused (book.fault_text f)) true z) (sym stays) (ask_told y text program f h t))

  pub birth_done : {x y text : List ℕ} {xs ys : List (List ℕ)} {program : Trees} {e : EventName} {d : Book} → y ≡ x → ys ≡ xs → ReadAs text (Ok program)
      → (birth_refusal b y ys program ≡ None) × ((vats : List Vat) × EntersNext (record { name = e; act = birth y ys program }) (birth_foot e y ys vats program) 0 b d)
      → AnswersBirth b x xs (Ok text) (queued_text e) false d
  birth_done {y = y} {text = text} {xs = xs} {e = e} {d = d} same sames h (none, (vats, enters)) =
      subst (λ z. AnswersBirth b z xs (Ok text) (queued_text e) false d) same
      (subst (λ zs. AnswersBirth b y zs (Ok text) (queued_text e) false d) sames (birth_accepted vats h none enters))

  pub birth_fails : {x y text : List ℕ} {xs ys : List (List ℕ)} {program : Trees} (f : BookFault) {d : Book} → y ≡ x → ys ≡ xs → ReadAs text (Ok program) → Tells f (birth_refusal b y ys program) → d ≡ b
      → AnswersBirth b x xs (Ok text) (refused (book.fault_text f)) true d
  birth_fails {y = y} {text = text} {xs = xs} {ys = ys} {program = program} f {d = d} same sames h t stays =
      subst (λ z. AnswersBirth b z xs (Ok text) (refused (book.fault_text f)) true d) same
      (subst (λ zs. AnswersBirth b y zs (Ok text) (refused (book.fault_text f)) true d) sames
      (subst (λ z. AnswersBirth b y ys (Ok text) (refused (book.fault_text f)) true z) (sym stays) (birth_told y ys text program f h t)))

  pub turn_done : {m : MsgId} {e : EventName} {d : Book} {o : Told}
      → (checkout_refusal b m limits.budget ≡ None) × ((t : Turn) × TurnsNext e m limits.budget t b d × (o ≡ t.outcome.told))
      → Moves limits b (step.Turn m) (turned_text e o) false d
  turn_done {m = m} {e = e} {d = d} (none, (t, ran, same)) = subst (λ z. Moves limits b (step.Turn m) (turned_text e z) false d) (sym same) (turns {t = t} none ran)

  -- a refused turn leaves the book as it was, but for a name that was drawn without memory
  unturned : (f : BookFault) (d : Book) (T : Book → Type 0) → Unturned f b d → T b → (f ≡ fault.Memory → T (record b { next = b.next + 1 })) → T d
  unturned fault.Memory d T (inl e) here named = subst T (sym e) here
  unturned fault.Memory d T (inr e) here named = subst T (sym e) (named refl)
  unturned f d T e here named = subst T (sym e) here

  named_told : {m : MsgId} (f : BookFault) → f ≡ fault.Memory → Moves limits b (step.Turn m) (refused (book.fault_text f)) true (record b { next = b.next + 1 })
  named_told {m = m} f e = subst (λ g. Moves limits b (step.Turn m) (refused (book.fault_text g)) true (record b { next = b.next + 1 })) (sym e) turn_without_memory_named

  pub turn_fails : {m : MsgId} (f : BookFault) {d : Book} → Tells f (checkout_refusal b m limits.budget) → Unturned f b d → Moves limits b (step.Turn m) (refused (book.fault_text f)) true d
  turn_fails {m = m} f {d = d} t stays =
      unturned f d (λ z. Moves limits b (step.Turn m) (refused (book.fault_text f)) true z) stays (step_fails (checkout_refusal b m limits.budget) (λ r e. turn_refused e) f t refl) (named_told {m = m} f)

  -- the journal as it is
  pub all_listed : {n : ℕ} {lines : List Line} → n ≡ b.settled → lines ≡ b.journal → Answers limits b commands.journal (journal_text n lines) false b
  all_listed {lines = lines} many same = subst (λ m. Answers limits b commands.journal (journal_text m lines) false b) (sym many) (subst (λ ls. Answers limits b commands.journal (journal_text b.settled ls) false b) (sym same) listed)

  pub listed_as : {n : ℕ} {lines : List Line} {text : List ℕ} → n ≡ b.settled → lines ≡ b.journal → text ≡ journal_text n lines → Answers limits b commands.journal text false b
  listed_as {text = text} many same e = subst (λ (t : List ℕ). Answers limits b commands.journal t false b) (sym e) (all_listed many same)

  -- the log of a vat
  pub vat_logged : {x log text : List ℕ} → text ≡ log → log ≡ log_text x (live_in (settled_lines b)) (live_in (open_lines b)) → Answers limits b (commands.log x) (logged_text text) false b
  vat_logged {x = x} same is = subst (λ t. Answers limits b (commands.log x) (logged_text t) false b) (sym (same ∙ is)) logged

  -- all that may be done, as the world shows it
  pub all_enabled : {d : Book} {w : World} {steps found : List Step} {text : List ℕ} → d ≡ b → w ≡ d.world → steps ≡ found → EnabledIn b found → ShowsEnabled w steps text
      → Answers limits b commands.enabled text false d
  all_enabled {w = w} {found = found} {text = text} same world same_steps all shows =
      subst (λ z. Answers limits b commands.enabled text false z) (sym same)
      (enabled all (subst (λ z. ShowsEnabled z found text) (world ∙ ap (λ (z : Book). z.world) same) (subst (λ z. ShowsEnabled w z text) same_steps shows)))

  pub none_enabled : {d : Book} → d ≡ b → Answers limits b commands.enabled (refused (codes "B20 Memory")) true d
  none_enabled same = subst (λ z. Answers limits b commands.enabled (refused (codes "B20 Memory")) true z) (sym same) enabled_without_memory

  pub cone_done : {e : EventName} {names events : List EventName} → names ≡ events → (cone_refusal b.settled b.journal e ≡ None) × Cone b.journal e events
      → Answers limits b (commands.cone e) (cone_text names) false b
  cone_done {e = e} same (none, cone) = subst (λ es. Answers limits b (commands.cone e) (cone_text es) false b) (sym same) (cone_found none cone)

  -- the cone is undone as if its events were named
  pub cone_undone : {e : EventName} {names events : List EventName} {d : Book} {reply : List ℕ} {refusal : Bool} → names ≡ events → (cone_refusal b.settled b.journal e ≡ None) × Cone b.journal e events
      → Answers limits b (commands.undo names) reply refusal d → Answers limits b (commands.undo_cone e) reply refusal d
  cone_undone {d = d} {reply = reply} {refusal = refusal} same (none, cone) h = undo_cone_found none cone (subst (λ es. Answers limits b (commands.undo es) reply refusal d) same h)

  pub cone_fails : {e : EventName} (f : BookFault) → Tells f (cone_refusal b.settled b.journal e) → Answers limits b (commands.cone e) (refused (book.fault_text f)) true b
  cone_fails {e = e} f t = told f (cone_refusal b.settled b.journal e) (λ words. Answers limits b (commands.cone e) (refused words) true b) t (λ r h. cone_refused h) cone_without_memory

  pub undo_cone_fails : {e : EventName} (f : BookFault) → Tells f (cone_refusal b.settled b.journal e) → Answers limits b (commands.undo_cone e) (refused (book.fault_text f)) true b
  undo_cone_fails {e = e} f t = told f (cone_refusal b.settled b.journal e) (λ words. Answers limits b (commands.undo_cone e) (refused words) true b) t (λ r h. undo_cone_refused h) undo_cone_without_memory

  undo_told : (events : List EventName) (f : BookFault) → Tells f (undo_refusal b.settled b.journal events) → Answers limits b (commands.undo events) (refused (book.fault_text f)) true b
  undo_told events f t = told f (undo_refusal b.settled b.journal events) (λ words. Answers limits b (commands.undo events) (refused words) true b) t (λ r h. undo_refused h) undo_without_memory

  pub undo_fails : {events : List EventName} (f : BookFault) {d : Book} → Tells f (undo_refusal b.settled b.journal events) → d ≡ b → Answers limits b (commands.undo events) (refused (book.fault_text f)) true d
  undo_fails {events = events} f t stays = subst (λ z. Answers limits b (commands.undo events) (refused (book.fault_text f)) true z) (sym stays) (undo_told events f t)

  pub undo_done : {events : List EventName} {d : Book} {count : ℕ} → (undo_refusal b.settled b.journal events ≡ None) × Undoes events b d × (count ≡ count_of events b.journal)
      → Answers limits b (commands.undo events) (undone_text count) false d
  undo_done {events = events} {d = d} (none, undoes, same) = subst (λ n. Answers limits b (commands.undo events) (undone_text n) false d) (sym same) (undo_accepted none undoes)

  redo_told : (events : List EventName) (f : BookFault) → Tells f (redo_refusal b.settled b.journal events) → Answers limits b (commands.redo events) (refused (book.fault_text f)) true b
  redo_told events f t = told f (redo_refusal b.settled b.journal events) (λ words. Answers limits b (commands.redo events) (refused words) true b) t (λ r h. redo_refused h) redo_without_memory

  pub redo_fails : {events : List EventName} (f : BookFault) {d : Book} → Tells f (redo_refusal b.settled b.journal events) → d ≡ b → Answers limits b (commands.redo events) (refused (book.fault_text f)) true d
  redo_fails {events = events} f t stays = subst (λ z. Answers limits b (commands.redo events) (refused (book.fault_text f)) true z) (sym stays) (redo_told events f t)

  pub redo_done : {events : List EventName} {d : Book} {count : ℕ} → (redo_refusal b.settled b.journal events ≡ None) × Redoes events b d × (count ≡ count_of events b.journal)
      → Answers limits b (commands.redo events) (redone_text count) false d
  redo_done {events = events} {d = d} (none, redoes, same) = subst (λ n. Answers limits b (commands.redo events) (redone_text n) false d) (sym same) (redo_accepted none redoes)

  exchange_told : (position : ℕ) (f : BookFault) → IsSome (told_by f) → Tells f (exchange_refusal b.settled b.journal position) → Answers limits b (commands.exchange position) (refused (book.fault_text f)) true b
  exchange_told position f some t = told_why (told_by f) (exchange_refusal b.settled b.journal position) (λ words. Answers limits b (commands.exchange position) (refused words) true b) some t (λ r h. exchange_refused h)

  pub exchange_fails : {position : ℕ} (f : BookFault) {d : Book} → IsSome (told_by f) → Tells f (exchange_refusal b.settled b.journal position) → d ≡ b → Answers limits b (commands.exchange position) (refused (book.fault_text f)) true d
  exchange_fails {position = position} f some t stays = subst (λ z. Answers limits b (commands.exchange position) (refused (book.fault_text f)) true z) (sym stays) (exchange_told position f some t)

  pub exchange_done : {position : ℕ} {e f : EventName} {d : Book} → (exchange_refusal b.settled b.journal position ≡ None) × Exchanges position b d × StoodAt position b.journal e f
      → Answers limits b (commands.exchange position) (exchanged_text e f) false d
  exchange_done (none, exchanges, stood) = exchange_accepted none exchanges stood

  settle_told : (position : ℕ) (f : BookFault) → Tells f (settle_refusal b.settled b.journal position) → Answers limits b (commands.settle position) (refused (book.fault_text f)) true b
  settle_told position f t = told f (settle_refusal b.settled b.journal position) (λ words. Answers limits b (commands.settle position) (refused words) true b) t (λ r h. settle_refused h) settle_without_memory

  pub settle_fails : {position : ℕ} (f : BookFault) {d : Book} → Tells f (settle_refusal b.settled b.journal position) → d ≡ b → Answers limits b (commands.settle position) (refused (book.fault_text f)) true d
  settle_fails {position = position} f t stays = subst (λ z. Answers limits b (commands.settle position) (refused (book.fault_text f)) true z) (sym stays) (settle_told position f t)

  pub settle_done : {position : ℕ} {d : Book} → (settle_refusal b.settled b.journal position ≡ None) × Settles position b d → Answers limits b (commands.settle position) (settled_text position) false d
  settle_done (none, settles) = settle_accepted none settles

pub or_false : (s : Bool) → s ≡ (s || false)
or_false true = refl
or_false false = refl

module _ {W : Type 0} {contents : W → Option (List ℕ)} {old new : Engine} {sink after : Outlet W} {P : Book → List ℕ → Bool → Book → Type 0} where
  -- what happens, as something else that the definition allows
  pub happens_as : {Q : Book → List ℕ → Bool → Book → Type 0} → ((b : Book) (r : List ℕ) (s : Bool) (d : Book) → P b r s d → Q b r s d) → Happens contents old new sink after P → Happens contents old new sink after Q
  happens_as f h = record { reply = h.reply; refusal = h.refusal; allowed = f _ _ _ _ h.allowed; tells = h.tells; refused = h.refused; limits = h.limits }

  -- a reply that is no refusal
  pub accepts : {reply : List ℕ} → P (book_of old.book) reply false (book_of new.book) → outlet.Tells contents sink after reply → new.written ≡ old.written → new.limits ≡ old.limits → Happens contents old new sink after P
  accepts {reply = reply} h t written limits = record {
    reply = reply;
    refusal = false;
    allowed = h;
    tells = t;
    refused = λ uncut. ap (λ (w : Written). w.refused) written ∙ or_false old.written.refused;
    limits = limits;
  }

  -- a refusal
  pub refuses : {reply : List ℕ} → P (book_of old.book) reply true (book_of new.book) → Adds contents old.written new.written sink after reply true → new.limits ≡ old.limits → Happens contents old new sink after P
  refuses {reply = reply} h a limits = record { reply = reply; refusal = true; allowed = h; tells = a.tells; refused = λ uncut. a.refused; limits = limits }

-- what happens from an engine with the same book
pub happens_from : {W : Type 0} {contents : W → Option (List ℕ)} {old mid new : Engine} {sink after : Outlet W} {P : Book → List ℕ → Bool → Book → Type 0} → book_of mid.book ≡ book_of old.book → mid.written ≡ old.written
    → mid.limits ≡ old.limits → Happens contents mid new sink after P → Happens contents old new sink after P
happens_from {new = new} {P = P} same written limits h = record {
  reply = h.reply;
  refusal = h.refusal;
  allowed = subst (λ (b : Book). P b h.reply h.refusal (book_of new.book)) same h.allowed;
  tells = h.tells;
  refused = λ uncut. h.refused uncut ∙ ap (λ (w : Written). w.refused || h.refusal) written;
  limits = h.limits ∙ limits;
}

-- the first line is a command for a vat
pub born_at : (limits : Limits) (b d : Book) (c : Spelled) (x : List ℕ) (earlier : List (List ℕ)) (lines : ℕ) (input rest reply : List ℕ) (refusal : Bool) (script : Result (List ℕ) LineFault)
    → c ≡ commands.birth x earlier lines → script ≡ script_of lines input → rest ≡ behind_lines lines input → AnswersBirth b x earlier script reply refusal d
    → FirstReply limits b (Ok (Some c)) input reply refusal d rest
born_at limits b d c x earlier lines input rest reply refusal script e f g h =
    subst (λ z. FirstReply limits b (Ok (Some z)) input reply refusal d rest) (sym e)
    (subst (λ z. FirstReply limits b (Ok (Some (commands.birth x earlier lines))) input reply refusal d z) (sym g)
    (born (subst (λ z. AnswersBirth b x earlier z reply refusal d) f h)))

-- the first line is another command
pub answered_at : (limits : Limits) (b d : Book) (c a : Spelled) (input reply : List ℕ) (refusal : Bool) → c ≡ a → Answers limits b a reply refusal d → FirstReply limits b (Ok (Some c)) input reply refusal d input
answered_at limits b d c a input reply refusal e h = subst (λ z. FirstReply limits b (Ok (Some z)) input reply refusal d input) (sym e) (answered h)

pub or_true : (s : Bool) → (s || true) ≡ true
or_true true = refl
or_true false = refl

pub or_or : (a b c : Bool) → a || (b || c) ≡ (a || b) || c
or_or true b c = refl
or_or false b c = refl
