-- A line is read as the command that it spells, and as no other.
use Rattle.std.proofs.Common.{◌≡◌, ◌≢◌, ℕ, ◌<◌, ◌≤◌, List, [], ◌∷◌, ◌++◌, length, Bool, true, false, ◌&&◌, cond, Option, Some, None, Result, Ok, refl, sym, ap, subst, ◌∙◌, arith, rules, ◌==◌, nat_le, codes}
use Rattle.std.specs.Prelude.{All}
use Rattle.std.specs.Option.{option_map, option_and_then}
use Rattle.std.specs.Str.{bytes_eq}
use Rattle.std.proofs.lemmas.Slice.Eq.{bytes_eq-Decides}
use Rattle.ids.specs.declared.names.EventName.{EventName}
use Rattle.stepper_commands.specs.declared.command.LineFault.{LineFault}
use Rattle.stepper_commands.specs.declared.numbers.PromiseName.{PromiseName}
use Rattle.stepper_commands.specs.Words.{is_blank, is_bare, ends_blank, without_blanks, first_word, behind_word, words_in}
use Rattle.stepper_commands.specs.Numbers.{number_of, message_named, promise_named, object_named, event_named, events_named, one_or_more}
use Rattle.stepper_commands.specs.Commands.{Spelled, birth, ask, arrive, forward, learn, turn, step, run, work, enabled, show, journal, log, cone, undo, undo_cone, redo, exchange, settle, why, event, message, object, why_with, why_of, object_of, is_vat_name, vat_named, log_of, are_vats, at_most, is_empty, of_message, of_event, of_events, learn_of, run_of, from_one_to, work_with, work_of, alone, of_position, ask_of, birth_of, formed, begun_by, is_skipped, spelled_by}
use Rattle.stepper_commands.specs.Inputs.{HasWords}
use Rattle.stepper_commands.specs.Spells.{Spells, BeginsWithWord, BeginsCommand, spells_birth, spells_ask, spells_arrive, spells_forward, spells_turn, spells_learn, spells_run, spells_work, spells_step, spells_enabled, spells_show, spells_journal, spells_log, spells_cone, spells_undo_cone, spells_undo, spells_redo, spells_exchange, spells_settle, spells_why, spells_event, spells_message, spells_object, LinesSpellCommands}
use Rattle.stepper_commands.proofs.Wording.{behind, blanks_gone, words_behind_blanks, words_cut}
use Rattle.stepper_commands.proofs.WordTexts.{words_are_told}
use Rattle.stepper_commands.proofs.WordCuts.{told_word, cut_word, told_command, cut_command, same_skipped}
use Rattle.stepper_commands.proofs.Births.{birth_is, Birth, birth_back, and_true, chosen, mapped, then_is, nothing_is, few_is}

abbrev pub Reading : Type 0
Reading = Result (Option Spelled) LineFault

-- what stands behind the first word of a line
abbrev rest_of : List ℕ → List ℕ
rest_of line = behind_word (without_blanks line)

-- a line whose first word is one that is not skipped begins a command
begun_case : (text : List ℕ) (skipped : Bool) → is_skipped text ≡ skipped → skipped ≡ false → cond (is_skipped text) (Ok None) (begun_by (first_word text) (behind_word text)) ≡ begun_by (first_word text) (behind_word text)
begun_case text skipped e f = ap (λ (t : Bool). let r : Reading = cond t (Ok None) (begun_by (first_word text) (behind_word text)) in r) (e ∙ f)

pub begun_line : (line word rest : List ℕ) → is_skipped word ≡ false → word ≡ first_word (without_blanks line) → rest ≡ rest_of line → spelled_by line ≡ begun_by word rest
begun_line line word rest plain w r =
    let text : List ℕ = without_blanks line in
    begun_case text _ (sym (same_skipped text (blanks_gone line))) (ap is_skipped (sym w) ∙ plain) ∙ λ i. begun_by (sym w i) (sym r i)

-- the words of a text that begins with no blank: the first, and those behind it
no_words_left : (text : List ℕ) → is_bare text ≡ true → [] ≡ words_in text → text ≡ []
no_words_left [] bare e = refl
no_words_left (b ∷ bs) bare e = let cut = words_cut (b ∷ bs) bare (grind arith) in absurd (cc (e, cut))

first_of_words : (text word : List ℕ) (words : List (List ℕ)) → is_bare text ≡ true → word ∷ words ≡ words_in text → (word ≡ first_word text) × (words ≡ words_in (behind_word text))
first_of_words [] word words bare e = absurd (cc e)
first_of_words (b ∷ bs) word words bare e =
    let cut = words_cut (b ∷ bs) bare (grind arith) in
    let all : word ∷ words ≡ first_word (b ∷ bs) ∷ words_in (behind_word (b ∷ bs)) = e ∙ cut in
    (cc all, cc all)

words_told : (line : List ℕ) (words : List (List ℕ)) → HasWords line words → words ≡ words_in (without_blanks line)
words_told line words has = (words_are_told line words).0 has ∙ sym (words_behind_blanks line)

behind_bare : (text : List ℕ) → is_bare (behind_word text) ≡ true
behind_bare text = blanks_gone (behind text)

-- a line of a command's word and others begins the command, with the others behind it
begun_words : (line word : List ℕ) (words : List (List ℕ)) → is_skipped word ≡ false → HasWords line (word ∷ words) → (spelled_by line ≡ begun_by word (rest_of line)) × (words ≡ words_in (rest_of line))
begun_words line word words plain has =
    let both = first_of_words (without_blanks line) word words (blanks_gone line) (words_told line (word ∷ words) has) in
    (begun_line line word (rest_of line) plain both.0 refl, both.1)

-- one word, and nothing behind it
one_word : (text word : List ℕ) → is_bare text ≡ true → word ∷ [] ≡ words_in text → (first_word text ≡ word) × (behind_word text ≡ [])
one_word text word bare e =
    let both = first_of_words text word [] bare e in
    (sym both.0, no_words_left (behind_word text) (behind_bare text) both.1)

-- what takes one word
abbrev takes_one : {A : Type 0} → (List ℕ → Option A) → (A → Spelled) → List ℕ → Option Spelled
takes_one named command words = cond (is_empty (behind_word words)) (option_map command (named (first_word words))) None

one_taken : {A : Type 0} (named : List ℕ → Option A) (command : A → Spelled) (text word : List ℕ) (x : A) → is_bare text ≡ true → word ∷ [] ≡ words_in text → named word ≡ Some x → takes_one named command text ≡ Some (command x)
one_taken named command text word x bare e n =
    let both = one_word text word bare e in
    ap (λ r. cond (is_empty r) (option_map command (named (first_word text))) None) both.1 ∙ ap (λ w. option_map command (named w)) both.0 ∙ ap (option_map command) n

-- a line that spells a command of one word is read as it
spelled_one : {A : Type 0} (named : List ℕ → Option A) (command : A → Spelled) (line word w : List ℕ) (x : A) → is_skipped word ≡ false → ((rest : List ℕ) → begun_by word rest ≡ formed (takes_one named command rest))
    → HasWords line (word ∷ w ∷ []) → named w ≡ Some x → spelled_by line ≡ Ok (Some (command x))
spelled_one named command line word w x plain begun has n =
    let both = begun_words line word (w ∷ []) plain has in
    both.0 ∙ begun (rest_of line) ∙ ap formed (one_taken named command (rest_of line) w x (behind_bare (without_blanks line)) both.1 n)

spelled_alone : (command : Spelled) (line word : List ℕ) → is_skipped word ≡ false → ((rest : List ℕ) → begun_by word rest ≡ formed (alone command rest)) → HasWords line (word ∷ []) → spelled_by line ≡ Ok (Some command)
spelled_alone command line word plain begun has =
    let both = begun_words line word [] plain has in
    both.0 ∙ begun (rest_of line) ∙ ap (λ r. formed (alone command r)) (no_words_left (rest_of line) (behind_bare (without_blanks line)) both.1)

spelled_events : (command : List EventName → Spelled) (line word w : List ℕ) (ws : List (List ℕ)) (events : List EventName) → is_skipped word ≡ false → ((rest : List ℕ) → begun_by word rest ≡ formed (of_events command rest))
    → HasWords line (word ∷ w ∷ ws) → events_named (w ∷ ws) ≡ Some events → spelled_by line ≡ Ok (Some (command events))
spelled_events command line word w ws events plain begun has n =
    let both = begun_words line word (w ∷ ws) plain has in
    both.0 ∙ begun (rest_of line) ∙ ap (λ us. formed (option_map command (one_or_more us))) (sym both.1) ∙ ap (λ o. formed (option_map command o)) n

number_within : (limit : ℕ) (o : Option ℕ) (n : ℕ) → o ≡ Some n → n ≤ limit → option_and_then (at_most limit) o ≡ Some n
number_within limit o n e h =
    ap (option_and_then (at_most limit)) e ∙ ap (λ t. cond t (Some n) None) (let t : nat_le n limit ≡ true = grind (arith, h) in t)

spelled_learn : (line x w : List ℕ) (p : PromiseName) → HasWords line (codes "learn" ∷ x ∷ w ∷ []) → is_vat_name x ≡ true → promise_named w ≡ Some p → spelled_by line ≡ Ok (Some (learn x p))
spelled_learn line x w p has name n =
    let both = begun_words line (codes "learn") (x ∷ w ∷ []) refl has in
    let rest : List ℕ = rest_of line in
    let first = first_of_words rest x (w ∷ []) (behind_bare (without_blanks line)) both.1 in
    let last = one_word (behind_word rest) w (behind_bare rest) first.1 in
    both.0
    ∙ ap (λ (y : List ℕ). formed (cond (is_vat_name y && is_empty (behind_word (behind_word rest))) (option_map (learn y) (promise_named (first_word (behind_word rest)))) None)) (sym first.0)
    ∙ ap (λ (r : List ℕ). formed (cond (is_vat_name x && is_empty r) (option_map (learn x) (promise_named (first_word (behind_word rest)))) None)) last.1
    ∙ ap (λ (y : List ℕ). formed (cond (is_vat_name x && true) (option_map (learn x) (promise_named y)) None)) last.0
    ∙ ap (λ (t : Bool). formed (cond (t && true) (option_map (learn x) (promise_named w)) None)) name
    ∙ ap (λ (o : Option PromiseName). formed (option_map (learn x) o)) n

-- a number of workers, and one of turns
abbrev workers_in : List ℕ → Option ℕ
workers_in w = option_and_then (from_one_to 64) (number_of w)

abbrev turns_in : List ℕ → Option ℕ
turns_in w = option_and_then (at_most 1000000) (number_of w)

number_from_one : (limit : ℕ) (o : Option ℕ) (n : ℕ) → o ≡ Some n → 1 ≤ n → n ≤ limit → option_and_then (from_one_to limit) o ≡ Some n
number_from_one limit o n e h k =
    let one : nat_le 1 n ≡ true = grind (arith, h) in
    let few : nat_le n limit ≡ true = grind (arith, k) in
    ap (option_and_then (from_one_to limit)) e ∙ ap (λ t. cond (t && nat_le n limit) (Some n) None) one ∙ ap (λ t. cond t (Some n) None) few

spelled_work : (line u v : List ℕ) (k n : ℕ) → HasWords line (codes "work" ∷ u ∷ v ∷ []) → workers_in u ≡ Some k → turns_in v ≡ Some n → spelled_by line ≡ Ok (Some (work k n))
spelled_work line u v k n has workers turns =
    let both = begun_words line (codes "work") (u ∷ v ∷ []) refl has in
    let rest : List ℕ = rest_of line in
    let first = first_of_words rest u (v ∷ []) (behind_bare (without_blanks line)) both.1 in
    let last = one_word (behind_word rest) v (behind_bare rest) first.1 in
    both.0
    ∙ ap (λ (r : List ℕ). formed (cond (is_empty r) (work_with (workers_in (first_word rest)) (turns_in (first_word (behind_word rest)))) None)) last.1
    ∙ ap (λ (y : List ℕ). formed (work_with (workers_in (first_word rest)) (turns_in y))) last.0
    ∙ ap (λ (y : List ℕ). formed (work_with (workers_in y) (turns_in v))) (sym first.0)
    ∙ ap (λ (o : Option ℕ). formed (work_with o (turns_in v))) workers
    ∙ ap (λ (o : Option ℕ). formed (work_with (Some k) o)) turns

spelled_why : (line u v : List ℕ) (a b : EventName) → HasWords line (codes "why" ∷ u ∷ v ∷ []) → event_named u ≡ Some a → event_named v ≡ Some b → spelled_by line ≡ Ok (Some (why a b))
spelled_why line u v a b has one other =
    let both = begun_words line (codes "why") (u ∷ v ∷ []) refl has in
    let rest : List ℕ = rest_of line in
    let first = first_of_words rest u (v ∷ []) (behind_bare (without_blanks line)) both.1 in
    let last = one_word (behind_word rest) v (behind_bare rest) first.1 in
    both.0
    ∙ ap (λ (r : List ℕ). formed (cond (is_empty r) (why_with (event_named (first_word rest)) (event_named (first_word (behind_word rest)))) None)) last.1
    ∙ ap (λ (y : List ℕ). formed (why_with (event_named (first_word rest)) (event_named y))) last.0
    ∙ ap (λ (y : List ℕ). formed (why_with (event_named y) (event_named v))) (sym first.0)
    ∙ ap (λ (o : Option EventName). formed (why_with o (event_named v))) one
    ∙ ap (λ (o : Option EventName). formed (why_with (Some a) o)) other

spelled_ask : (line x more text : List ℕ) → BeginsCommand line (codes "ask") more → BeginsWithWord more x text → is_vat_name x ≡ true → spelled_by line ≡ Ok (Some (ask x text))
spelled_ask line x more text begins named name =
    let both = told_command line (codes "ask") more begins in
    let then = told_word more x text named in
    begun_line line (codes "ask") more refl both.0 both.1
    ∙ ap (λ (y : List ℕ). formed (cond (is_vat_name y) (Some (ask y (behind_word more))) None)) (sym then.0)
    ∙ ap (λ (t : Bool). formed (cond t (Some (ask x (behind_word more))) None)) name
    ∙ ap (λ (y : List ℕ). formed (Some (ask x y))) (sym then.1)

spelled_birth : (line x more behind count inside : List ℕ) (earlier : List (List ℕ)) (n b : ℕ) → BeginsCommand line (codes "vat") more → BeginsWithWord more x (40 ∷ inside ++ 41 ∷ b ∷ behind) → is_vat_name x ≡ true
    → All (λ c. c ≢ 41) inside → is_bare inside ≡ true → ends_blank inside ≡ false → HasWords inside earlier → are_vats earlier ≡ true → is_blank b ≡ true → HasWords behind (count ∷ []) → number_of count ≡ Some n → n ≤ 4096
    → spelled_by line ≡ Ok (Some (birth x earlier n))
spelled_birth line x more behind count inside earlier n b begins named name none bare closed has vats blank last number few =
    let both = told_command line (codes "vat") more begins in
    let then = told_word more x (40 ∷ inside ++ 41 ∷ b ∷ behind) named in
    let counted = one_word (without_blanks behind) count (blanks_gone behind) (words_told behind (count ∷ []) last) in
    begun_line line (codes "vat") more refl both.0 both.1
    ∙ ap formed (birth_is x more behind count inside earlier n b (sym then.0) (sym then.1) name none bare closed ((words_are_told inside earlier).0 has) vats blank counted.0 counted.1 number few)

-- a line that spells a command is read as it
spelled : (line : List ℕ) (command : Spelled) → Spells line command → spelled_by line ≡ Ok (Some command)
spelled line command (spells_birth {x = x} {more = more} {behind = behind} {count = count} {earlier = earlier} {n = n} inside b begins named name none bare closed has vats blank last number few) =
    spelled_birth line x more behind count inside earlier n b begins named name none bare closed has vats blank last number few
spelled line command (spells_ask {x = x} {more = more} {text = text} begins named name) = spelled_ask line x more text begins named name
spelled line command (spells_arrive {w = w} {m = m} has n) = spelled_one message_named arrive line (codes "arrive") w m refl (λ rest. refl) has n
spelled line command (spells_forward {w = w} {m = m} has n) = spelled_one message_named forward line (codes "forward") w m refl (λ rest. refl) has n
spelled line command (spells_turn {w = w} {m = m} has n) = spelled_one message_named turn line (codes "turn") w m refl (λ rest. refl) has n
spelled line command (spells_learn {x = x} {w = w} {p = p} has name n) = spelled_learn line x w p has name n
spelled line command (spells_run {w = w} {n = n} has e few) =
    spelled_one (λ u. option_and_then (at_most 1000000) (number_of u)) run line (codes "run") w n refl (λ rest. refl) has (number_within 1000000 (number_of w) n e few)
spelled line command (spells_work {u = u} {v = v} {k = k} {n = n} has e some few i less) =
    spelled_work line u v k n has (number_from_one 64 (number_of u) k e some few) (number_within 1000000 (number_of v) n i less)
spelled line command (spells_step has) = spelled_alone step line (codes "step") refl (λ rest. refl) has
spelled line command (spells_enabled has) = spelled_alone enabled line (codes "enabled") refl (λ rest. refl) has
spelled line command (spells_show has) = spelled_alone show line (codes "show") refl (λ rest. refl) has
spelled line command (spells_journal has) = spelled_alone journal line (codes "journal") refl (λ rest. refl) has
spelled line command (spells_log {x = x} has name) = spelled_one vat_named log line (codes "log") x x refl (λ rest. refl) has (ap (λ (t : Bool). let o : Option (List ℕ) = cond t (Some x) None in o) name)
spelled line command (spells_cone {w = w} {e = e} has n) = spelled_one event_named cone line (codes "cone") w e refl (λ rest. refl) has n
spelled line command (spells_undo_cone {w = w} {e = e} has n) = spelled_one event_named undo_cone line (codes "undo-cone") w e refl (λ rest. refl) has n
spelled line command (spells_undo {w = w} {ws = ws} {events = events} has n) = spelled_events undo line (codes "undo") w ws events refl (λ rest. refl) has n
spelled line command (spells_redo {w = w} {ws = ws} {events = events} has n) = spelled_events redo line (codes "redo") w ws events refl (λ rest. refl) has n
spelled line command (spells_exchange {w = w} {n = n} has e) = spelled_one number_of exchange line (codes "exchange") w n refl (λ rest. refl) has e
spelled line command (spells_settle {w = w} {n = n} has e) = spelled_one number_of settle line (codes "settle") w n refl (λ rest. refl) has e
spelled line command (spells_why {u = u} {v = v} {e = a} {f = b} has one other) = spelled_why line u v a b has one other
spelled line command (spells_event {w = w} {e = e} has n) = spelled_one event_named event line (codes "event") w e refl (λ rest. refl) has n
spelled line command (spells_message {w = w} {m = m} has n) = spelled_one message_named message line (codes "message") w m refl (λ rest. refl) has n
spelled line command (spells_object {w = w} {o = o} has n) = spelled_one object_named object line (codes "object") w o refl (λ rest. refl) has n

-- the first word of a line
abbrev head_of : List ℕ → List ℕ
head_of line = first_word (without_blanks line)

-- a line that is not blank has its first word, and those behind it
line_words : (line word : List ℕ) → (length (without_blanks line) == 0) ≡ false → head_of line ≡ word → HasWords line (word ∷ words_in (rest_of line))
line_words line word some w =
    (words_are_told line (word ∷ words_in (rest_of line))).1
    (ap (λ (u : List ℕ). u ∷ words_in (rest_of line)) (sym w) ∙ sym (words_cut (without_blanks line) (blanks_gone line) some) ∙ words_behind_blanks line)

line_command : (line word : List ℕ) → (length (without_blanks line) == 0) ≡ false → head_of line ≡ word → BeginsCommand line word (rest_of line)
line_command line word some w = subst (λ (u : List ℕ). BeginsCommand line u (rest_of line)) w (cut_command line (grind (arith, some)))

-- a command of one word, from what is read
found_one : {A : Type 0} (named : List ℕ → Option A) (command : A → Spelled) (text : List ℕ) (c : Spelled) → is_bare text ≡ true → named [] ≡ None → takes_one named command text ≡ Some c
    → (w : List ℕ) × (x : A) × (words_in text ≡ w ∷ []) × (named w ≡ Some x) × (command x ≡ c)
found_one named command [] c bare none h =
    let is = mapped command (named []) c (chosen true (option_map command (named [])) c h).1 in
    absurd (cc (is.1, none))
found_one named command (b ∷ bs) c bare none h =
    let text : List ℕ = b ∷ bs in
    let both = chosen (is_empty (behind_word text)) (option_map command (named (first_word text))) c h in
    let is = mapped command (named (first_word text)) c both.1 in
    (first_word text, is.0, words_cut text bare (grind arith) ∙ ap (λ (r : List ℕ). first_word text ∷ words_in r) (nothing_is (behind_word text) both.0), is.1, is.2)

one_back : {A : Type 0} (named : List ℕ → Option A) (command : A → Spelled) (line word : List ℕ) (c : Spelled) → ((w : List ℕ) (x : A) → HasWords line (word ∷ w ∷ []) → named w ≡ Some x → Spells line (command x))
    → HasWords line (word ∷ words_in (rest_of line)) → named [] ≡ None → takes_one named command (rest_of line) ≡ Some c → Spells line c
one_back named command line word c rule has none h =
    let is = found_one named command (rest_of line) c (behind_bare (without_blanks line)) none h in
    subst (Spells line) is.4 (rule is.0 is.1 (subst (λ (ws : List (List ℕ)). HasWords line (word ∷ ws)) is.2 has) is.3)

alone_back : (command : Spelled) (line word : List ℕ) (c : Spelled) → (HasWords line (word ∷ []) → Spells line command) → HasWords line (word ∷ words_in (rest_of line)) → alone command (rest_of line) ≡ Some c → Spells line c
alone_back command line word c rule has h =
    let both = chosen (is_empty (rest_of line)) (Some command) c h in
    let same : command ≡ c = cc both.1 in
    subst (Spells line) same (rule (subst (λ (r : List ℕ). HasWords line (word ∷ words_in r)) (nothing_is (rest_of line) both.0) has))

events_by : (command : List EventName → Spelled) (line word : List ℕ) (events : List EventName) (ws : List (List ℕ)) → ((w : List ℕ) (us : List (List ℕ)) → HasWords line (word ∷ w ∷ us) → events_named (w ∷ us) ≡ Some events → Spells line (command events))
    → HasWords line (word ∷ ws) → one_or_more ws ≡ Some events → Spells line (command events)
events_by command line word events [] rule has h = absurd (cc h)
events_by command line word events (w ∷ us) rule has h = rule w us has h

events_back : (command : List EventName → Spelled) (line word : List ℕ) (c : Spelled) → ((events : List EventName) (w : List ℕ) (us : List (List ℕ)) → HasWords line (word ∷ w ∷ us) → events_named (w ∷ us) ≡ Some events → Spells line (command events))
    → HasWords line (word ∷ words_in (rest_of line)) → of_events command (rest_of line) ≡ Some c → Spells line c
events_back command line word c rule has h =
    let is = mapped command (one_or_more (words_in (rest_of line))) c h in
    subst (Spells line) is.2 (events_by command line word is.0 (words_in (rest_of line)) (rule is.0) has is.1)

some_byte : (b : ℕ) (bs : List ℕ) → (length (b ∷ bs) == 0) ≡ false
some_byte b bs = grind arith

has_bytes : (text : List ℕ) → (length text == 0) ≡ false → 0 < length text
has_bytes text h = grind (arith, h)

-- a name is there
name_some : (text : List ℕ) → is_vat_name (first_word text) ≡ true → (length text == 0) ≡ false
name_some [] h = absurd (cc h)
name_some (b ∷ bs) h = some_byte b bs

promise_some : (text : List ℕ) (p : PromiseName) → promise_named (first_word text) ≡ Some p → (length text == 0) ≡ false
promise_some [] p h = absurd (cc h)
promise_some (b ∷ bs) p h = some_byte b bs

learn_back : (line : List ℕ) (c : Spelled) → HasWords line (codes "learn" ∷ words_in (rest_of line)) → learn_of (rest_of line) ≡ Some c → Spells line c
learn_back line c has h =
    let rest : List ℕ = rest_of line in
    let promise : List ℕ = behind_word rest in
    let both = chosen (is_vat_name (first_word rest) && is_empty (behind_word promise)) (option_map (learn (first_word rest)) (promise_named (first_word promise))) c h in
    let ends = and_true (is_vat_name (first_word rest)) (is_empty (behind_word promise)) both.0 in
    let is = mapped (learn (first_word rest)) (promise_named (first_word promise)) c both.1 in
    let last : words_in promise ≡ first_word promise ∷ [] =
    words_cut promise (behind_bare rest) (promise_some promise is.0 is.1) ∙ ap (λ (r : List ℕ). first_word promise ∷ words_in r) (nothing_is (behind_word promise) ends.1) in
    let all : words_in rest ≡ first_word rest ∷ first_word promise ∷ [] = words_cut rest (behind_bare (without_blanks line)) (name_some rest ends.0) ∙ ap (λ (ws : List (List ℕ)). first_word rest ∷ ws) last in
    subst (Spells line) is.2 (spells_learn (subst (λ (ws : List (List ℕ)). HasWords line (codes "learn" ∷ ws)) all has) ends.0 is.1)

ask_back : (line : List ℕ) (c : Spelled) → BeginsCommand line (codes "ask") (rest_of line) → ask_of (rest_of line) ≡ Some c → Spells line c
ask_back line c begins h =
    let rest : List ℕ = rest_of line in
    let both = chosen (is_vat_name (first_word rest)) (Some (ask (first_word rest) (behind_word rest))) c h in
    let same : ask (first_word rest) (behind_word rest) ≡ c = cc both.1 in
    let some = name_some rest both.0 in
    subst (Spells line) same (spells_ask begins (cut_word rest (behind_bare (without_blanks line)) (has_bytes rest some)) both.0)

birth_found : (line : List ℕ) (c : Spelled) → BeginsCommand line (codes "vat") (rest_of line) → Birth (rest_of line) c → Spells line c
birth_found line c begins r =
    let rest : List ℕ = rest_of line in
    let some = name_some rest (ap is_vat_name r.first ∙ r.name) in
    let named : BeginsWithWord rest (first_word rest) (behind_word rest) = cut_word rest (behind_bare (without_blanks line)) (has_bytes rest some) in
    let named' : BeginsWithWord rest r.x (40 ∷ r.inside ++ 41 ∷ r.b ∷ r.behind_it) = subst (λ (u : List ℕ). BeginsWithWord rest r.x u) r.next (subst (λ (w : List ℕ). BeginsWithWord rest w (behind_word rest)) r.first named) in
    subst (Spells line) r.is
    (spells_birth r.inside r.b begins named' r.name r.unclosed r.bare r.closed ((words_are_told r.inside r.earlier).1 r.has) r.vats r.blank ((words_are_told r.behind_it (r.count ∷ [])).1 r.last) r.number r.few)

run_rule : (line w : List ℕ) (n : ℕ) → HasWords line (codes "run" ∷ w ∷ []) → option_and_then (at_most 1000000) (number_of w) ≡ Some n → Spells line (run n)
run_rule line w n has h =
    let is = then_is (at_most 1000000) (number_of w) n h in
    let few = few_is 1000000 is.0 n is.2 in
    subst (λ (m : ℕ). Spells line (run m)) few.1 (spells_run has is.1 few.0)

number_some : (text : List ℕ) (n : ℕ) → number_of (first_word text) ≡ Some n → (length text == 0) ≡ false
number_some [] n h = absurd (cc h)
number_some (b ∷ bs) n h = some_byte b bs

from_one_is : (limit n m : ℕ) → from_one_to limit n ≡ Some m → (1 ≤ n) × (n ≤ limit) × (n ≡ m)
from_one_is limit n m h =
    let all = chosen (nat_le 1 n && nat_le n limit) (Some n) m h in
    let both = and_true (nat_le 1 n) (nat_le n limit) all.0 in
    (grind (arith, both.0), grind (arith, both.1), cc all.1)

worked_is : (o p : Option ℕ) (c : Spelled) → work_with o p ≡ Some c → (k : ℕ) × (n : ℕ) × (o ≡ Some k) × (p ≡ Some n) × (work k n ≡ c)
worked_is None p c h = absurd (cc h)
worked_is (Some k) None c h = absurd (cc h)
worked_is (Some k) (Some n) c h = (k, n, refl, refl, cc h)

work_back : (line : List ℕ) (c : Spelled) → HasWords line (codes "work" ∷ words_in (rest_of line)) → work_of (rest_of line) ≡ Some c → Spells line c
work_back line c has h =
    let rest : List ℕ = rest_of line in
    let turns : List ℕ = behind_word rest in
    let both = chosen (is_empty (behind_word turns)) (work_with (workers_in (first_word rest)) (turns_in (first_word turns))) c h in
    let is = worked_is (workers_in (first_word rest)) (turns_in (first_word turns)) c both.1 in
    let workers = then_is (from_one_to 64) (number_of (first_word rest)) is.0 is.2 in
    let number = then_is (at_most 1000000) (number_of (first_word turns)) is.1 is.3 in
    let some = from_one_is 64 workers.0 is.0 workers.2 in
    let few = few_is 1000000 number.0 is.1 number.2 in
    let last : words_in turns ≡ first_word turns ∷ [] =
    words_cut turns (behind_bare rest) (number_some turns number.0 number.1) ∙ ap (λ (r : List ℕ). first_word turns ∷ words_in r) (nothing_is (behind_word turns) both.0) in
    let all : words_in rest ≡ first_word rest ∷ first_word turns ∷ [] =
    words_cut rest (behind_bare (without_blanks line)) (number_some rest workers.0 workers.1) ∙ ap (λ (ws : List (List ℕ)). first_word rest ∷ ws) last in
    let rule : Spells line (work workers.0 number.0) =
    spells_work (subst (λ (ws : List (List ℕ)). HasWords line (codes "work" ∷ ws)) all has) workers.1 some.0 some.1 number.1 few.0 in
    subst (Spells line) (ap (λ (k : ℕ). work k number.0) some.2 ∙ ap (work is.0) few.1 ∙ is.4) rule

event_some : (text : List ℕ) (a : EventName) → event_named (first_word text) ≡ Some a → (length text == 0) ≡ false
event_some [] a h = absurd (cc h)
event_some (b ∷ bs) a h = some_byte b bs

asked_is : (o p : Option EventName) (c : Spelled) → why_with o p ≡ Some c → (a : EventName) × (b : EventName) × (o ≡ Some a) × (p ≡ Some b) × (why a b ≡ c)
asked_is None p c h = absurd (cc h)
asked_is (Some a) None c h = absurd (cc h)
asked_is (Some a) (Some b) c h = (a, b, refl, refl, cc h)

why_back : (line : List ℕ) (c : Spelled) → HasWords line (codes "why" ∷ words_in (rest_of line)) → why_of (rest_of line) ≡ Some c → Spells line c
why_back line c has h =
    let rest : List ℕ = rest_of line in
    let other : List ℕ = behind_word rest in
    let both = chosen (is_empty (behind_word other)) (why_with (event_named (first_word rest)) (event_named (first_word other))) c h in
    let is = asked_is (event_named (first_word rest)) (event_named (first_word other)) c both.1 in
    let last : words_in other ≡ first_word other ∷ [] =
    words_cut other (behind_bare rest) (event_some other is.1 is.3) ∙ ap (λ (r : List ℕ). first_word other ∷ words_in r) (nothing_is (behind_word other) both.0) in
    let all : words_in rest ≡ first_word rest ∷ first_word other ∷ [] =
    words_cut rest (behind_bare (without_blanks line)) (event_some rest is.0 is.2) ∙ ap (λ (ws : List (List ℕ)). first_word rest ∷ ws) last in
    subst (Spells line) is.4 (spells_why (subst (λ (ws : List (List ℕ)). HasWords line (codes "why" ∷ ws)) all has) is.2 is.3)

named_is : (b : Bool) (w x : List ℕ) → ◌≡◌ {A = Option (List ℕ)} (cond b (Some w) None) (Some x) → (b ≡ true) × (w ≡ x)
named_is true w x h = (refl, cc h)
named_is false w x h = absurd (cc h)

log_rule : (line w x : List ℕ) → HasWords line (codes "log" ∷ w ∷ []) → vat_named w ≡ Some x → Spells line (log x)
log_rule line w x has h =
    let is = named_is (is_vat_name w) w x h in
    subst (λ (y : List ℕ). Spells line (log y)) is.1 (spells_log has is.0)

-- what is read of a command is one of these
formed_is : (o : Option Spelled) (c : Spelled) → ◌≡◌ {A = Reading} (formed o) (Ok (Some c)) → o ≡ Some c
formed_is None c h = absurd (cc h)
formed_is (Some d) c h = cc h

branch : {X : Type 0} (t : Bool) (o : Option Spelled) (next : Reading) (c : Spelled) → cond t (formed o) next ≡ Ok (Some c) → (t ≡ true → o ≡ Some c → X) → (next ≡ Ok (Some c) → X) → X
branch true o next c h here later = here refl (formed_is o c h)
branch false o next c h here later = later h

pub same_word : (w v : List ℕ) → bytes_eq w v ≡ true → w ≡ v
same_word w v e = search (rules, bytes_eq-Decides)

found : (line : List ℕ) (c : Spelled) → (length (without_blanks line) == 0) ≡ false → begun_by (head_of line) (rest_of line) ≡ Ok (Some c) → Spells line c
found line c some e =
    let w : List ℕ = head_of line in
    let r : List ℕ = rest_of line in
    let begins : (v : List ℕ) → bytes_eq w v ≡ true → BeginsCommand line v r = λ v t. line_command line v some (same_word w v t) in
    let has : (v : List ℕ) → bytes_eq w v ≡ true → HasWords line (v ∷ words_in r) = λ v t. line_words line v some (same_word w v t) in
    branch (bytes_eq w (codes "vat")) (birth_of r) _ c e (λ t h. birth_found line c (begins (codes "vat") t) (birth_back r c h)) (λ e1.
    branch (bytes_eq w (codes "ask")) (ask_of r) _ c e1 (λ t h. ask_back line c (begins (codes "ask") t) h) (λ e2.
    branch (bytes_eq w (codes "arrive")) (of_message arrive r) _ c e2 (λ t h. one_back message_named arrive line (codes "arrive") c (λ v x k n. spells_arrive k n) (has (codes "arrive") t) refl h) (λ e3.
    branch (bytes_eq w (codes "forward")) (of_message forward r) _ c e3 (λ t h. one_back message_named forward line (codes "forward") c (λ v x k n. spells_forward k n) (has (codes "forward") t) refl h) (λ e4.
    branch (bytes_eq w (codes "learn")) (learn_of r) _ c e4 (λ t h. learn_back line c (has (codes "learn") t) h) (λ e5.
    branch (bytes_eq w (codes "turn")) (of_message turn r) _ c e5 (λ t h. one_back message_named turn line (codes "turn") c (λ v x k n. spells_turn k n) (has (codes "turn") t) refl h) (λ e6.
    branch (bytes_eq w (codes "step")) (alone step r) _ c e6 (λ t h. alone_back step line (codes "step") c (λ k. spells_step k) (has (codes "step") t) h) (λ e7.
    branch (bytes_eq w (codes "run")) (run_of r) _ c e7 (λ t h. one_back (λ u. option_and_then (at_most 1000000) (number_of u)) run line (codes "run") c (λ v x k n. run_rule line v x k n) (has (codes "run") t) refl h) (λ e8.
    branch (bytes_eq w (codes "work")) (work_of r) _ c e8 (λ t h. work_back line c (has (codes "work") t) h) (λ e9.
    branch (bytes_eq w (codes "enabled")) (alone enabled r) _ c e9 (λ t h. alone_back enabled line (codes "enabled") c (λ k. spells_enabled k) (has (codes "enabled") t) h) (λ e10.
    branch (bytes_eq w (codes "show")) (alone show r) _ c e10 (λ t h. alone_back show line (codes "show") c (λ k. spells_show k) (has (codes "show") t) h) (λ e11.
    branch (bytes_eq w (codes "journal")) (alone journal r) _ c e11 (λ t h. alone_back journal line (codes "journal") c (λ k. spells_journal k) (has (codes "journal") t) h) (λ e12.
    branch (bytes_eq w (codes "log")) (log_of r) _ c e12 (λ t h. one_back vat_named log line (codes "log") c (λ v x k n. log_rule line v x k n) (has (codes "log") t) refl h) (λ e13.
    branch (bytes_eq w (codes "cone")) (of_event cone r) _ c e13 (λ t h. one_back event_named cone line (codes "cone") c (λ v x k n. spells_cone k n) (has (codes "cone") t) refl h) (λ e14.
    branch (bytes_eq w (codes "undo")) (of_events undo r) _ c e14 (λ t h. events_back undo line (codes "undo") c (λ es v us k n. spells_undo k n) (has (codes "undo") t) h) (λ e15.
    branch (bytes_eq w (codes "undo-cone")) (of_event undo_cone r) _ c e15 (λ t h. one_back event_named undo_cone line (codes "undo-cone") c (λ v x k n. spells_undo_cone k n) (has (codes "undo-cone") t) refl h) (λ e16.
    branch (bytes_eq w (codes "redo")) (of_events redo r) _ c e16 (λ t h. events_back redo line (codes "redo") c (λ es v us k n. spells_redo k n) (has (codes "redo") t) h) (λ e17.
    branch (bytes_eq w (codes "exchange")) (of_position exchange r) _ c e17 (λ t h. one_back number_of exchange line (codes "exchange") c (λ v x k n. spells_exchange k n) (has (codes "exchange") t) refl h) (λ e18.
    branch (bytes_eq w (codes "settle")) (of_position settle r) _ c e18 (λ t h. one_back number_of settle line (codes "settle") c (λ v x k n. spells_settle k n) (has (codes "settle") t) refl h) (λ e19.
    branch (bytes_eq w (codes "why")) (why_of r) _ c e19 (λ t h. why_back line c (has (codes "why") t) h) (λ e20.
    branch (bytes_eq w (codes "event")) (of_event event r) _ c e20 (λ t h. one_back event_named event line (codes "event") c (λ v x k n. spells_event k n) (has (codes "event") t) refl h) (λ e21.
    branch (bytes_eq w (codes "message")) (of_message message r) _ c e21 (λ t h. one_back message_named message line (codes "message") c (λ v x k n. spells_message k n) (has (codes "message") t) refl h) (λ e22.
    branch (bytes_eq w (codes "object")) (object_of r) _ c e22 (λ t h. one_back object_named object line (codes "object") c (λ v x k n. spells_object k n) (has (codes "object") t) refl h) (λ e23. absurd (cc e23))))))))))))))))))))))))

-- a line that is skipped is read as no command
text_some : (text : List ℕ) → is_skipped text ≡ false → (length text == 0) ≡ false
text_some [] h = absurd (cc h)
text_some (b ∷ bs) h = some_byte b bs

found_by : (line : List ℕ) (c : Spelled) (skipped : Bool) → is_skipped (without_blanks line) ≡ skipped → ◌≡◌ {A = Reading} (cond skipped (Ok None) (begun_by (head_of line) (rest_of line))) (Ok (Some c)) → Spells line c
found_by line c true e h = absurd (cc h)
found_by line c false e h = found line c (text_some (without_blanks line) e) h

pub lines_spell_commands : LinesSpellCommands
lines_spell_commands line command = (spelled line command, λ h. found_by line command _ refl h)
