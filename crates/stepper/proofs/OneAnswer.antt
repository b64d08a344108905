-- One answer at most to a command, in books that are the same.
use Rattle.std.proofs.Common.{ℕ, Bool, List, [], take, drop, refl, ap, subst, ◌∙◌}
use Rattle.ids.specs.declared.names.MsgId.{MsgId}
use Rattle.world_cells.specs.World.{World}
use Rattle.book_agenda.specs.declared.agenda.Step.{Step}
use Rattle.book.specs.Books.{Book}
use Rattle.book.specs.Good.{NamesVatsOnce}
use Rattle.book.proofs.Births.{names_vats_once}
use Rattle.stepper_commands.specs.Commands as command
use Rattle.stepper_commands.specs.Commands.{Spelled}
use Rattle.causewaylog.specs.Turns.{live_in}
use Rattle.causewaylog.specs.Log.{log_text}
use Rattle.stepper_printing.specs.Show.{Shows}
use Rattle.stepper_printing.specs.Steps.{ShowsEnabled}
use Rattle.stepper_printing.specs.Listing.{journal_text}
use Rattle.stepper.specs.Replies.{logged_text, Moves, Answers, arrive_moves, forward_moves, turn_moves, stepped, runs, enabled_without_memory, enabled, show_without_memory, shown, journal_without_memory, listed, log_without_memory, logged}
use Rattle.stepper.specs.Laws.{SameBook, IsForWant, book_without_memory, EndsForWant, SameAnswer, IsTold, OneAnswer, OneBirth}
use Rattle.stepper.proofs.SameLines.{same_take, same_drop}
use Rattle.stepper.proofs.SameChanges.{same_live_in, same_journal}
use Rattle.stepper.proofs.SameBooks.{same_enabled}
use Rattle.stepper.proofs.OneMove.{answered, answer_once, had_memory, one_move, one_step, runs_once}
use Rattle.stepper.proofs.OneText.{enabled_once, shows_once, shows_enabled_once}
use Rattle.stepper.proofs.OneQuestion.{one_ask, birth_but}
use Rattle.stepper.proofs.OneLearning.{one_learning}
use Rattle.stepper.proofs.OneTold.{one_why, one_event, one_message, one_object}
use Rattle.stepper.proofs.OneChange.{one_undo, one_redo, one_exchange, one_settling, one_cone_undone, one_cone}
use Rattle.stepper.specs.declared.engine.Limits.{Limits}

-- ---- what is told of a book

one_enabled : {limits : Limits} {b c d e : Book} {r t : List ℕ} {q p : Bool} → NamesVatsOnce b.world → SameBook b c → Answers limits b command.enabled r q d → Answers limits c command.enabled t p e
    → ¬ IsForWant r → ¬ IsForWant t → SameAnswer r q d t p e
one_enabled once same enabled_without_memory k n m = absurd (n book_without_memory)
one_enabled once same h enabled_without_memory n m = absurd (m book_without_memory)
one_enabled once same (enabled h x) (enabled {found = found} {text = text} k y) n m =
    answer_once (shows_enabled_once once (enabled_once h (same_enabled same found k)) x (subst (λ (w : World). ShowsEnabled w found text) same.world y)) same

one_log : {limits : Limits} {b c d e : Book} {x : List ℕ} {r t : List ℕ} {q p : Bool} → SameBook b c → Answers limits b (command.log x) r q d → Answers limits c (command.log x) t p e
    → ¬ IsForWant r → ¬ IsForWant t → SameAnswer r q d t p e
one_log same log_without_memory k n m = absurd (n book_without_memory)
one_log same h log_without_memory n m = absurd (m book_without_memory)
one_log {b = b} {c = c} {x = x} same logged logged n m =
    answer_once (ap (λ k. logged_text (log_text x (live_in (take k c.journal)) (live_in (drop k c.journal)))) same.settled
    ∙ (λ i. logged_text (log_text x (same_live_in _ _ (same_take b.settled b.journal c.journal same.journal) i) (same_live_in _ _ (same_drop b.settled b.journal c.journal same.journal) i)))) same

one_listing : {limits : Limits} {b c d e : Book} {r t : List ℕ} {q p : Bool} → SameBook b c → Answers limits b command.journal r q d → Answers limits c command.journal t p e
    → ¬ IsForWant r → ¬ IsForWant t → SameAnswer r q d t p e
one_listing same journal_without_memory k n m = absurd (n book_without_memory)
one_listing same h journal_without_memory n m = absurd (m book_without_memory)
one_listing {b = b} {c = c} same listed listed n m = answer_once (ap (λ k. journal_text k c.journal) same.settled ∙ same_journal b.settled b.journal c.journal same.journal) same

one_showing : {limits : Limits} {b c d e : Book} {r t : List ℕ} {q p : Bool} → NamesVatsOnce b.world → SameBook b c → Answers limits b command.show r q d → Answers limits c command.show t p e
    → ¬ IsForWant r → ¬ IsForWant t → SameAnswer r q d t p e
one_showing once same show_without_memory k n m = absurd (n book_without_memory)
one_showing once same h show_without_memory n m = absurd (m book_without_memory)
one_showing once same (shown h) (shown {text = text} k) n m = answer_once (shows_once once h (subst (λ (w : World). Shows w text) same.world k)) same

-- ---- what may be done

one_move_told : {limits : Limits} {b c d e : Book} {s : Step} {r t : List ℕ} {q p : Bool} → SameBook b c → Moves limits b s r q d → Moves limits c s t p e → ¬ EndsForWant r → ¬ EndsForWant t → SameAnswer r q d t p e
one_move_told same h k n m = answered (one_move same h k (had_memory n) (had_memory m))

one_arrival : {limits : Limits} {b c d e : Book} {g : MsgId} {r t : List ℕ} {q p : Bool} → SameBook b c → Answers limits b (command.arrive g) r q d → Answers limits c (command.arrive g) t p e → ¬ EndsForWant r → ¬ EndsForWant t → SameAnswer r q d t p e
one_arrival same (arrive_moves h) (arrive_moves k) n m = one_move_told same h k n m

one_forwarding : {limits : Limits} {b c d e : Book} {g : MsgId} {r t : List ℕ} {q p : Bool} → SameBook b c → Answers limits b (command.forward g) r q d → Answers limits c (command.forward g) t p e → ¬ EndsForWant r → ¬ EndsForWant t → SameAnswer r q d t p e
one_forwarding same (forward_moves h) (forward_moves k) n m = one_move_told same h k n m

one_turn : {limits : Limits} {b c d e : Book} {g : MsgId} {r t : List ℕ} {q p : Bool} → SameBook b c → Answers limits b (command.turn g) r q d → Answers limits c (command.turn g) t p e → ¬ EndsForWant r → ¬ EndsForWant t → SameAnswer r q d t p e
one_turn same (turn_moves h) (turn_moves k) n m = one_move_told same h k n m

one_stepping : {limits : Limits} {b c d e : Book} {r t : List ℕ} {q p : Bool} → SameBook b c → Answers limits b command.step r q d → Answers limits c command.step t p e → ¬ EndsForWant r → ¬ EndsForWant t → SameAnswer r q d t p e
one_stepping same (stepped h) (stepped k) n m = answered (one_step same h k (had_memory n) (had_memory m)).0

one_running : {limits : Limits} {b c d e : Book} {steps : ℕ} {r t : List ℕ} {q p : Bool} → SameBook b c → Answers limits b (command.run steps) r q d → Answers limits c (command.run steps) t p e → ¬ EndsForWant r → ¬ EndsForWant t → SameAnswer r q d t p e
one_running same (runs h) (runs k) n m = answered (runs_once same h k n m)

pub no_birth : {A : Type 0} {limits : Limits} {b d : Book} {x : List ℕ} {earlier : List (List ℕ)} {lines : ℕ} {r : List ℕ} {q : Bool} → Answers limits b (command.birth x earlier lines) r q d → A
no_birth h = elim h [ ]

-- ---- the two laws

-- a whole reply that is for want of memory ends so
ends : {r : List ℕ} → ¬ EndsForWant r → ¬ IsForWant r
ends {r = r} n want = n (record { before = []; last = r; want = want; whole = refl })

pub answer_once_told : {limits : Limits} {b c d e : Book} (x : Spelled) {r t : List ℕ} {q p : Bool} → NamesVatsOnce b.world → SameBook b c → IsTold x → Answers limits b x r q d → Answers limits c x t p e → ¬ EndsForWant r → ¬ EndsForWant t → SameAnswer r q d t p e
answer_once_told (command.birth x earlier lines) once same is h k n m = no_birth h
answer_once_told (command.ask x text) once same is h k n m = one_ask same h k (ends n) (ends m)
answer_once_told (command.arrive g) once same is h k n m = one_arrival same h k n m
answer_once_told (command.forward g) once same is h k n m = one_forwarding same h k n m
answer_once_told (command.learn x p) once same is h k n m = one_learning same h k (ends n) (ends m)
answer_once_told (command.turn g) once same is h k n m = one_turn same h k n m
answer_once_told command.step once same is h k n m = one_stepping same h k n m
answer_once_told (command.run steps) once same is h k n m = one_running same h k n m
answer_once_told (command.work workers turns) once same is h k n m = absurd is
answer_once_told command.enabled once same is h k n m = one_enabled once same h k (ends n) (ends m)
answer_once_told command.show once same is h k n m = one_showing once same h k (ends n) (ends m)
answer_once_told command.journal once same is h k n m = one_listing same h k (ends n) (ends m)
answer_once_told (command.log x) once same is h k n m = one_log same h k (ends n) (ends m)
answer_once_told (command.cone e) once same is h k n m = one_cone same h k (ends n) (ends m)
answer_once_told (command.undo events) once same is h k n m = one_undo same h k (ends n) (ends m)
answer_once_told (command.undo_cone e) once same is h k n m = one_cone_undone same h k (ends n) (ends m)
answer_once_told (command.redo events) once same is h k n m = one_redo same h k (ends n) (ends m)
answer_once_told (command.exchange position) once same is h k n m = one_exchange same h k
answer_once_told (command.settle position) once same is h k n m = one_settling same h k (ends n) (ends m)
answer_once_told (command.why x y) once same is h k n m = one_why same h k (ends n) (ends m)
answer_once_told (command.event x) once same is h k n m = one_event same h k (ends n) (ends m)
answer_once_told (command.message x) once same is h k n m = one_message once same h k (ends n) (ends m)
answer_once_told (command.object x) once same is h k n m = one_object once same h k (ends n) (ends m)

pub one_answer : OneAnswer
one_answer limits b c x r s q p d e good same told h k n m = answer_once_told x (names_vats_once b good) same told h k n m

pub one_birth : OneBirth
one_birth b c x earlier script r s q p d e same h k n m = birth_but same h k (ends n) (ends m)
