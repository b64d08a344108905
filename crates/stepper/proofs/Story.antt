-- Replies to commands, one after another, and what bytes of an input they are replies to.
use Rattle.std.proofs.Common.{◌≡◌, ℕ, ◌<◌, ◌≤◌, List, [], ◌∷◌, ◌++◌, length, Bool, true, false, ◌||◌, Option, Result, refl, sym, ap, subst, ◌∙◌, arith, append_assoc, append-nil}
use Rattle.book.specs.Books.{Book, blank}
use Rattle.stepper_commands.specs.Lines.{behind_line}
use Rattle.stepper_commands.specs.Commands.{Spelled}
use Rattle.stepper_commands.specs.declared.command.LineFault.{LineFault}
use Rattle.stepper_streams.specs.Pieces.{IsOneLine, fed, last}
use Rattle.stepper_streams.proofs.Feeds.{behind_no_feed}
use Rattle.stepper.specs.Replies.{FirstReply, Replies, no_more, first_and_more, RepliesBefore, none_yet, whole_and_more, RepliesToAll, whole_ones, with_last, IsWhole, said, script_lines, line_feeds}
use Rattle.stepper.proofs.Answered.{or_or, or_false}
use Rattle.stepper.proofs.Whole.{line_feeds-append, said_stays, behind_is_more, is_whole, is_not_whole, no_whole_line}
use Rattle.stepper.proofs.Scripting.{not_both, nil_is_no_line}
use Rattle.stepper.specs.declared.engine.Limits.{Limits}

some_first : (xs : List ℕ) → IsWhole xs → 0 < length xs
some_first [] w = absurd (no_whole_line [] refl w)
some_first (x ∷ xs) w = omega arith

module _ (limits : Limits) where
  pub replies_as : {b d : Book} {input text later : List ℕ} {r s : Bool} → text ≡ later → r ≡ s → Replies limits b input text r d → Replies limits b input later s d
  replies_as {b = b} {d = d} {input = input} {later = later} {r = r} e f h = subst (λ (z : Bool). Replies limits b input later z d) f (subst (λ (z : List ℕ). Replies limits b input z r d) e h)

  pub before_as : {b d : Book} {input text later left : List ℕ} {r s : Bool} → text ≡ later → r ≡ s → RepliesBefore limits b input text r d left → RepliesBefore limits b input later s d left
  before_as {b = b} {d = d} {input = input} {later = later} {left = left} {r = r} e f h =
      subst (λ (z : Bool). RepliesBefore limits b input later z d left) f (subst (λ (z : List ℕ). RepliesBefore limits b input z r d left) e h)

  -- the first commands, and then all others
  pub before_then : {b c d : Book} {input text left more : List ℕ} {r s : Bool} → RepliesBefore limits b input text r c left → Replies limits c left more s d → Replies limits b input (text ++ more) (r || s) d
  before_then none_yet k = k
  before_then {more = more} {s = s} (whole_and_more {reply = reply} {replies = replies} {r = p} {s = q} w f h) k =
      replies_as (sym (append_assoc reply replies more)) (or_or p q s) (first_and_more (some_first _ w) f (before_then h k))

-- what is answered goes on as the definition says, and this is how far it is
pub record Story (limits : Limits) (taken text : List ℕ) (ended refused : Bool) (now : Book) : Type 0 where
  pub here : Replies limits blank taken text refused now
  pub before : ended ≡ false → (more replies left : List ℕ) (s : Bool) (d : Book) → RepliesBefore limits now more replies s d left → RepliesBefore limits blank (taken ++ more) (text ++ replies) (refused || s) d left

pub story_begins : (limits : Limits) (ended refused : Bool) (now : Book) → now ≡ blank → refused ≡ false → Story limits [] [] ended refused now
story_begins limits ended refused now e f = record {
  here = subst (λ (z : Bool). Replies limits blank [] [] z now) (sym f) (subst (λ (z : Book). Replies limits blank [] [] false z) (sym e) no_more);
  before = λ unended more replies left s d h. subst (λ (z : Bool). RepliesBefore limits blank more replies (z || s) d left) (sym f) (subst (λ (z : Book). RepliesBefore limits z more replies s d left) e h);
}

-- the commands before what was read behind them
pub story_before : {limits : Limits} {taken text : List ℕ} {refused : Bool} {now : Book} (left : List ℕ) → Story limits taken text false refused now → RepliesBefore limits blank (taken ++ left) text refused now left
story_before {limits = limits} {text = text} {refused = refused} {now = now} left s = before_as limits (append-nil text) (sym (or_false refused)) (s.before refl left [] left false now none_yet)

-- all commands taken so far are whole
pub story_so_far : {limits : Limits} {taken text : List ℕ} {refused : Bool} {now : Book} → Story limits taken text false refused now → RepliesBefore limits blank taken text refused now []
story_so_far {limits = limits} {taken = taken} {text = text} {refused = refused} {now = now} s =
    subst (λ (z : List ℕ). RepliesBefore limits blank z text refused now []) (append-nil taken) (story_before [] s)

pub story_all : {limits : Limits} {taken text : List ℕ} {refused : Bool} {now : Book} (ended : Bool) (IsLast : Type 0) → (ended ≡ true → IsLast) → Story limits taken text ended refused now → RepliesToAll limits taken IsLast text refused now
story_all true IsLast h s = with_last (h refl) s.here
story_all false IsLast h s = whole_ones (story_so_far s)

-- one more command is answered
pub story_more : {limits : Limits} {taken text reply : List ℕ} {refused refusal ended : Bool} {now next : Book} (piece : List ℕ) → Story limits taken text false refused now
    → 0 < length piece → FirstReply limits now (said piece) (behind_line piece) reply refusal next []
    → (ended ≡ false → (more : List ℕ) → IsWhole (piece ++ more))
    → (ended ≡ false → (more : List ℕ) → FirstReply limits now (said (piece ++ more)) (behind_line (piece ++ more)) reply refusal next more)
    → Story limits (taken ++ piece) (text ++ reply) ended (refused || refusal) next
story_more {limits = limits} {taken = taken} {text = text} {reply = reply} {refused = refused} {refusal = refusal} {now = now} {next = next} piece s l here whole before = record {
  here = replies_as limits (ap (λ (z : List ℕ). text ++ z) (append-nil reply)) (ap (λ (z : Bool). refused || z) (sym (or_false refusal))) (before_then limits (story_before piece s) (first_and_more l here no_more));
  before = λ unended more replies left r d h.
      subst (λ (z : List ℕ). RepliesBefore limits blank z ((text ++ reply) ++ replies) ((refused || refusal) || r) d left) (sym (append_assoc taken piece more))
      (before_as limits (sym (append_assoc text reply replies)) (or_or refused refusal r)
      (s.before refl (piece ++ more) (reply ++ replies) left (refusal || r) d (whole_and_more (whole unended more) (before unended more) h)));
}

module _ (limits : Limits) (b d : Book) where
  -- what was answered to a line is the reply to its bytes
  pub at_piece : (line script reply rest : List ℕ) (refusal source later : Bool) (says : Result (Option Spelled) LineFault) → IsOneLine line source → says ≡ said line
      → (source ≡ true → (script ≡ []) × (later ≡ true)) → FirstReply limits b says script reply refusal d rest
      → FirstReply limits b (said (line ++ script)) (behind_line (line ++ script)) reply refusal d rest
  at_piece line script reply rest refusal source later says (fed body h e) meant stays f =
      subst (λ (z : List ℕ). FirstReply limits b (said (line ++ script)) z reply refusal d rest) (sym (behind_is_more body line h e script))
      (subst (λ (z : Result (Option Spelled) LineFault). FirstReply limits b z script reply refusal d rest) (meant ∙ sym (said_stays body line h e script)) f)
  at_piece line script reply rest refusal true later says (last h l) meant stays f =
      let none : script ≡ [] = (stays refl).0 in
      let whole : line ++ script ≡ line = ap (λ (z : List ℕ). line ++ z) none ∙ append-nil line in
      subst (λ (z : List ℕ). FirstReply limits b (said z) (behind_line z) reply refusal d rest) (sym whole)
      (subst (λ (z : List ℕ). FirstReply limits b (said line) z reply refusal d rest) (none ∙ sym (behind_no_feed line h))
      (subst (λ (z : Result (Option Spelled) LineFault). FirstReply limits b z script reply refusal d rest) meant f))

  -- and so it is whatever follows
  pub before_piece : (line script more reply : List ℕ) (refusal source later : Bool) (says : Result (Option Spelled) LineFault) → IsOneLine line source → says ≡ said line
      → (source ≡ true → (script ≡ []) × (later ≡ true)) → later ≡ false → FirstReply limits b says (script ++ more) reply refusal d more
      → FirstReply limits b (said ((line ++ script) ++ more)) (behind_line ((line ++ script) ++ more)) reply refusal d more
  before_piece line script more reply refusal source later says (fed body h e) meant stays unended f =
      subst (λ (z : List ℕ). FirstReply limits b (said z) (behind_line z) reply refusal d more) (sym (append_assoc line script more))
      (subst (λ (z : List ℕ). FirstReply limits b (said (line ++ (script ++ more))) z reply refusal d more) (sym (behind_is_more body line h e (script ++ more)))
      (subst (λ (z : Result (Option Spelled) LineFault). FirstReply limits b z (script ++ more) reply refusal d more) (meant ∙ sym (said_stays body line h e (script ++ more))) f))
  before_piece line script more reply refusal true later says (last h l) meant stays unended f =
      not_both (FirstReply limits b (said ((line ++ script) ++ more)) (behind_line ((line ++ script) ++ more)) reply refusal d more) later unended (stays refl).1

at_most_more : (n : ℕ) (xs ys : List ℕ) → n ≤ line_feeds xs → n ≤ line_feeds (xs ++ ys)
at_most_more n xs ys h = omega (arith, h, line_feeds-append xs ys)

pub whole_piece : (line script more : List ℕ) (source later : Bool) (says : Result (Option Spelled) LineFault) → IsOneLine line source → says ≡ said line
    → (source ≡ true → (script ≡ []) × (later ≡ true)) → later ≡ false → script_lines says ≤ line_feeds script → IsWhole ((line ++ script) ++ more)
whole_piece line script more source later says (fed body h e) meant stays unended l =
    subst IsWhole (sym (append_assoc line script more))
    (is_whole body line h e (script ++ more) (at_most_more (script_lines (said line)) script more (subst (λ (z : Result (Option Spelled) LineFault). script_lines z ≤ line_feeds script) meant l)))
whole_piece line script more true later says (last h l) meant stays unended k = not_both (IsWhole ((line ++ script) ++ more)) later unended (stays refl).1

pub not_whole_piece : (line script : List ℕ) (source : Bool) (says : Result (Option Spelled) LineFault) → IsOneLine line source → says ≡ said line → source ≡ false
    → line_feeds script < script_lines says → IsWhole (line ++ script) → ⊥
not_whole_piece line script source says (fed body h e) meant unended l w =
    is_not_whole body line h e script (subst (λ (z : Result (Option Spelled) LineFault). line_feeds script < script_lines z) meant l) w
not_whole_piece line script true says (last h l) meant unended k w = absurd (cc)

pub some_piece : (line script : List ℕ) (ended : Bool) → IsOneLine line ended → 0 < length (line ++ script)
some_piece [] script ended (fed body h e) = absurd (nil_is_no_line body e)
some_piece (b ∷ bs) script ended h = omega arith
some_piece [] script true (last h l) = absurd (omega (arith, l))
