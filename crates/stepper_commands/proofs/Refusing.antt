-- Which lines are skipped, and which are refused, and why.
use Rattle.std.proofs.Common.{◌≡◌, ℕ, ◌<◌, List, [], ◌∷◌, ◌++◌, append-nil, length, take, Bool, true, false, not, ◌||◌, cond, Option, Some, None, Ok, Err, refl, sym, ap, subst, ◌∙◌, arith, codes, eqb-true}
use Rattle.std.specs.List.{AllByRecursion, list_any, position_or_len}
use Rattle.std.specs.Str.{bytes_eq}
use Rattle.std.proofs.lemmas.List.{take-append-drop}
use Rattle.stepper_commands.specs.declared.command.LineFault.{LineFault}
use Rattle.stepper_commands.specs.declared.command.LineFault.TheVariants.{UnknownCommand, BadWord, LineTooLong, Truncated}
use Rattle.stepper_commands.specs.Words.{is_blank, without_blanks, first_word, behind_word}
use Rattle.stepper_commands.specs.Commands.{Spelled, arrive, forward, turn, step, enabled, show, journal, cone, undo, undo_cone, redo, exchange, settle, event, message, why_of, object_of, birth_of, ask_of, of_message, learn_of, alone, run_of, work_of, log_of, of_event, of_events, of_position, formed, begun_by, is_skipped, spelled_by}
use Rattle.stepper_commands.specs.Spells.{AreBlanks, BeginsCommand, Spells, HasNoCommand, blank_line, comment_line, LinesAreSkipped, command_words, is_command_word, IsRefused, unknown_word, bad_words, LinesAreRefused}
use Rattle.stepper_commands.proofs.Wording.{blanks_gone}
use Rattle.stepper_commands.proofs.WordCuts.{bare_stays, blanks_dropped, are_front, told_command, cut_command, same_skipped}
use Rattle.stepper_commands.proofs.Spellings.{Reading, begun_line, same_word, lines_spell_commands}

-- what a word begins: the reading of some command, where it is one's, and else nothing that is known
abbrev Begins : Bool → Reading → Type 0
Begins known reading = (known ≡ true → (o : Option Spelled) × (reading ≡ formed o)) × (known ≡ false → reading ≡ Err UnknownCommand)

one : (t : Bool) (o : Option Spelled) (known : Bool) (next : Reading) → Begins known next → Begins (t || known) (cond t (formed o) next)
one true o known next h = (λ e. (o, refl), λ e. absurd (cc e))
one false o known next h = h

none_left : Begins false (Err UnknownCommand)
none_left = (λ e. absurd (cc e), λ e. refl)

begins : (word rest : List ℕ) → Begins (is_command_word word) (begun_by word rest)
begins word rest =
    one (bytes_eq word (codes "vat")) (birth_of rest) _ _ (
    one (bytes_eq word (codes "ask")) (ask_of rest) _ _ (
    one (bytes_eq word (codes "arrive")) (of_message arrive rest) _ _ (
    one (bytes_eq word (codes "forward")) (of_message forward rest) _ _ (
    one (bytes_eq word (codes "learn")) (learn_of rest) _ _ (
    one (bytes_eq word (codes "turn")) (of_message turn rest) _ _ (
    one (bytes_eq word (codes "step")) (alone step rest) _ _ (
    one (bytes_eq word (codes "run")) (run_of rest) _ _ (
    one (bytes_eq word (codes "work")) (work_of rest) _ _ (
    one (bytes_eq word (codes "enabled")) (alone enabled rest) _ _ (
    one (bytes_eq word (codes "show")) (alone show rest) _ _ (
    one (bytes_eq word (codes "journal")) (alone journal rest) _ _ (
    one (bytes_eq word (codes "log")) (log_of rest) _ _ (
    one (bytes_eq word (codes "cone")) (of_event cone rest) _ _ (
    one (bytes_eq word (codes "undo")) (of_events undo rest) _ _ (
    one (bytes_eq word (codes "undo-cone")) (of_event undo_cone rest) _ _ (
    one (bytes_eq word (codes "redo")) (of_events redo rest) _ _ (
    one (bytes_eq word (codes "exchange")) (of_position exchange rest) _ _ (
    one (bytes_eq word (codes "settle")) (of_position settle rest) _ _ (
    one (bytes_eq word (codes "why")) (why_of rest) _ _ (
    one (bytes_eq word (codes "event")) (of_event event rest) _ _ (
    one (bytes_eq word (codes "message")) (of_message message rest) _ _ (
    one (bytes_eq word (codes "object")) (object_of rest) _ _ (
    none_left)))))))))))))))))))))))

-- the word of a command begins no comment
plain_word : (word : List ℕ) (words : List (List ℕ)) → AllByRecursion (λ v. is_skipped v ≡ false) words → list_any (λ v. bytes_eq word v) words ≡ true → is_skipped word ≡ false
plain_word word [] all h = absurd (cc h)
plain_word word (v ∷ vs) all h = by_case (bytes_eq word v) refl h (plain_word word vs all.1)
  where
    by_case : (t : Bool) → bytes_eq word v ≡ t → (t || list_any (λ u. bytes_eq word u) vs) ≡ true → (list_any (λ u. bytes_eq word u) vs ≡ true → is_skipped word ≡ false)
        → is_skipped word ≡ false
    by_case true e k later = ap is_skipped (same_word word v e) ∙ all.0
    by_case false e k later = later k

plain_command : (word : List ℕ) → is_command_word word ≡ true → is_skipped word ≡ false
plain_command word h = plain_word word command_words (refl, (refl, (refl, (refl, (refl, (refl, (refl, (refl, (refl, (refl, (refl, (refl, (refl, (refl, (refl, (refl, (refl, (refl, (refl, (refl, (refl, (refl, (refl, tt))))))))))))))))))))))) h

-- a line that begins with a word begins the reading of it
begun : (line word rest : List ℕ) → BeginsCommand line word rest → is_skipped word ≡ false → spelled_by line ≡ begun_by word rest
begun line word rest b plain = let both = told_command line word rest b in begun_line line word rest plain both.0 both.1

refused : (line : List ℕ) (fault : LineFault) → IsRefused line fault → spelled_by line ≡ Err fault
refused line UnknownCommand (unknown_word {word = w} {rest = r} b plain unknown) = begun line w r b plain ∙ (begins w r).1 unknown
refused line BadWord (bad_words {word = w} {rest = r} b known none) = by_reading read.0 (begun line w r b (plain_command w known) ∙ read.1)
  where
    read : (o : Option Spelled) × (begun_by w r ≡ formed o)
    read = (begins w r).0 known

    by_reading : (o : Option Spelled) → spelled_by line ≡ formed o → spelled_by line ≡ Err BadWord
    by_reading None e = e
    by_reading (Some c) e = absurd (none c ((lines_spell_commands line c).1 e))
refused line LineTooLong h = elim h [ ]
refused line Truncated h = elim h [ ]

-- what is read of a line that is not skipped
some_text : (text : List ℕ) → is_skipped text ≡ false → 0 < length text
some_text [] h = absurd (cc h)
some_text (b ∷ bs) h = omega arith

told : (line : List ℕ) (fault : LineFault) → spelled_by line ≡ Err fault → IsRefused line fault
told line fault e = by_skip (is_skipped (without_blanks line)) refl e
  where
    text : List ℕ
    text = without_blanks line

    w : List ℕ
    w = first_word text

    r : List ℕ
    r = behind_word text

    none : (c : Spelled) → ¬ Spells line c
    none c s = cc (sym e ∙ (lines_spell_commands line c).0 s)

    by_reading : (o : Option Spelled) → BeginsCommand line w r → is_command_word w ≡ true → formed o ≡ Err fault → IsRefused line fault
    by_reading None b known q = subst (IsRefused line) (bad_is q) (bad_words b known none)
      where
        bad_is : ◌≡◌ {A = Reading} (Err BadWord) (Err fault) → BadWord ≡ fault
        bad_is q = cc q
    by_reading (Some c) b known q = absurd (cc q)

    by_word : (known : Bool) → is_command_word w ≡ known → BeginsCommand line w r → is_skipped w ≡ false → begun_by w r ≡ Err fault → IsRefused line fault
    by_word true h b plain q = let read = (begins w r).0 h in by_reading read.0 b h (sym read.1 ∙ q)
    by_word false h b plain q = subst (IsRefused line) (unknown_is (sym ((begins w r).1 h) ∙ q)) (unknown_word b plain h)
      where
        unknown_is : ◌≡◌ {A = Reading} (Err UnknownCommand) (Err fault) → UnknownCommand ≡ fault
        unknown_is q = cc q

    by_skip : (skipped : Bool) → is_skipped text ≡ skipped → ◌≡◌ {A = Reading} (cond skipped (Ok None) (begun_by w r)) (Err fault) → IsRefused line fault
    by_skip true h q = absurd (cc q)
    by_skip false h q = by_word (is_command_word w) refl (cut_command line (some_text text h)) (same_skipped text (blanks_gone line) ∙ h) q

pub lines_are_refused : LinesAreRefused
lines_are_refused line fault = (refused line fault, told line fault)

-- a text that is skipped behind blanks
skipped : (line text : List ℕ) → without_blanks line ≡ text → is_skipped text ≡ true → spelled_by line ≡ Ok None
skipped line text e h = ap (λ (t : Bool). let r : Reading = cond t (Ok None) (begun_by (first_word (without_blanks line)) (behind_word (without_blanks line))) in r) (ap is_skipped e ∙ h)

passed : (line : List ℕ) → HasNoCommand line → spelled_by line ≡ Ok None
passed line (blank_line h) = skipped line [] (ap without_blanks (sym (append-nil line)) ∙ blanks_dropped line [] h) refl
passed _ (comment_line blanks rest h) = skipped (blanks ++ 35 ∷ rest) (35 ∷ rest) (blanks_dropped blanks (35 ∷ rest) h ∙ bare_stays (35 ∷ rest) refl) refl

-- a line is blanks, and what is behind them
parts : (line : List ℕ) → (front : List ℕ) × AreBlanks front × (front ++ without_blanks line ≡ line)
parts line =
    let n : ℕ = position_or_len (λ b. not (is_blank b)) line in
    (take n line, are_front line, take-append-drop n line)

nothing_left : (line text : List ℕ) → without_blanks line ≡ text → is_skipped text ≡ true → HasNoCommand line
nothing_left line [] e h =
    let p = parts line in
    blank_line (subst AreBlanks (sym (append-nil p.0) ∙ ap (λ t. p.0 ++ t) (sym e) ∙ p.2) p.1)
nothing_left line (b ∷ bs) e h =
    let p = parts line in
    subst HasNoCommand (ap (λ t. p.0 ++ t) (ap (λ c. c ∷ bs) (sym (eqb-true b 35 h)) ∙ sym e) ∙ p.2) (comment_line p.0 bs p.1)

never_none : (o : Option Spelled) → ◌≡◌ {A = Reading} (formed o) (Ok None) → ⊥
never_none None h = cc h
never_none (Some c) h = cc h

none_told : (line : List ℕ) → spelled_by line ≡ Ok None → HasNoCommand line
none_told line e = by_skip (is_skipped (without_blanks line)) refl e
  where
    text : List ℕ
    text = without_blanks line

    w : List ℕ
    w = first_word text

    r : List ℕ
    r = behind_word text

    by_word : (known : Bool) → is_command_word w ≡ known → begun_by w r ≡ Ok None → HasNoCommand line
    by_word true h q = let read = (begins w r).0 h in absurd (never_none read.0 (sym read.1 ∙ q))
    by_word false h q = absurd (cc (sym ((begins w r).1 h) ∙ q))

    by_skip : (skipped : Bool) → is_skipped text ≡ skipped → ◌≡◌ {A = Reading} (cond skipped (Ok None) (begun_by w r)) (Ok None) → HasNoCommand line
    by_skip true h q = nothing_left line text refl h
    by_skip false h q = by_word (is_command_word w) refl q

pub lines_are_skipped : LinesAreSkipped
lines_are_skipped line = (passed line, none_told line)
