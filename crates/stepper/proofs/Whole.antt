-- Lines and commands that stand whole, and what they say.
use Rattle.std.proofs.Common.{◌≡◌, ℕ, ◌+◌, ◌<◌, ◌≤◌, List, [], ◌∷◌, ◌++◌, Bool, true, false, cond, Option, Some, None, Result, Err, refl, sym, ap, subst, ◌∙◌, arith, append_assoc, take, drop}
use Rattle.std.specs.Prelude.{IsSome}
use Rattle.std.proofs.lemmas.List.Sums.{sum_by-append}
use Rattle.stepper_commands.specs.Lines.{is_line_feed, line_end, line_of, behind_line, is_long}
use Rattle.stepper_commands.specs.Commands.{Spelled, spelled_by}
use Rattle.stepper_commands.specs.Scripts.{fault_in, fault_of}
use Rattle.stepper_commands.specs.declared.command.LineFault.{LineFault}
use Rattle.stepper_streams.specs.Pieces.{HasNoFeed, Reads}
use Rattle.stepper_streams.specs.declared.line.Line.{Line}
use Rattle.stepper_streams.proofs.Feeds.{no_feed_here, feed_behind, line_before_feed, behind_feed, long_before_feed, cut_at_feed}
use Rattle.stepper.specs.Replies.{said, said_by, script_lines, line_feeds, IsWhole}

pub line_feeds-append : (xs ys : List ℕ) → line_feeds (xs ++ ys) ≡ line_feeds xs + line_feeds ys
line_feeds-append xs ys = sum_by-append (λ x. cond (is_line_feed x) 1 0) xs ys

line_feeds-cons : (b : ℕ) (bs : List ℕ) → line_feeds (b ∷ bs) ≡ line_feeds (b ∷ []) + line_feeds bs
line_feeds-cons b bs = line_feeds-append (b ∷ []) bs

other_byte : (b : ℕ) → is_line_feed b ≡ false → line_feeds (b ∷ []) ≡ 0
other_byte b h = ap (λ t. 0 + cond t 1 0) h

pub no_feeds : (bytes : List ℕ) → HasNoFeed bytes → line_feeds bytes ≡ 0
no_feeds [] h = refl
no_feeds (b ∷ bs) h =
    let here = no_feed_here b bs (is_line_feed b) refl h in
    let first = other_byte b here.0 in
    let others = no_feeds bs here.1 in
    line_feeds-cons b bs ∙ ap (λ n. n + line_feeds bs) first ∙ ap (λ n. 0 + n) others

-- what a line says, as it was read
abbrev pub said_in : Line → Result (Option Spelled) LineFault
said_in line = said_by (fault_in line.text.items line.is_long) line.text.items

-- a line that is a text says what it spells
pub said_text : (line : Line) (bytes text : List ℕ) → bytes ≡ line.text.items → text ≡ bytes → None ≡ fault_in bytes line.is_long → spelled_by text ≡ said_in line
said_text line bytes text same e none =
    let no_fault : fault_in line.text.items line.is_long ≡ None = ap (λ (b : List ℕ). fault_in b line.is_long) (sym same) ∙ sym none in
    ap spelled_by (e ∙ same) ∙ sym (ap (λ f. said_by f line.text.items) no_fault)

-- a line that is no text says why
pub said_fault : (line : Line) (bytes : List ℕ) (f : LineFault) → bytes ≡ line.text.items → Some f ≡ fault_in bytes line.is_long → Err f ≡ said_in line
said_fault line bytes f same found = sym (ap (λ g. said_by g line.text.items) (ap (λ (b : List ℕ). fault_in b line.is_long) (sym same) ∙ sym found))

kept_short : (line : List ℕ) (long : Bool) → long ≡ false → cond long [] line ≡ line
kept_short line true h = absurd (cc)
kept_short line false h = refl

fault_by : (text whole : List ℕ) (b : Bool) → (b ≡ false → text ≡ whole) → fault_in text b ≡ fault_in whole b
fault_by text whole true h = refl
fault_by text whole false h = ap (λ t. fault_in t false) (h refl)

said_by_flag : (text whole : List ℕ) (b : Bool) → (b ≡ false → text ≡ whole) → said_by (fault_in text b) text ≡ said_by (fault_in whole b) whole
said_by_flag text whole true h = refl
said_by_flag text whole false h = ap (λ t. said_by (fault_in t false) t) (h refl)

-- a line that is kept is as it was read
pub reads_short : (line : Line) (bytes : List ℕ) → Reads line bytes → is_long bytes ≡ false → line.text.items ≡ line_of bytes
reads_short line bytes r short = r.text ∙ kept_short (line_of bytes) (is_long bytes) short

-- a line that was read has the fault of its bytes, and says what they say
pub reads_fault : (line : Line) (bytes : List ℕ) → Reads line bytes → fault_in line.text.items line.is_long ≡ fault_of bytes
reads_fault line bytes r = ap (fault_in line.text.items) r.long ∙ fault_by line.text.items (line_of bytes) (is_long bytes) (reads_short line bytes r)

pub reads_said : (line : Line) (bytes : List ℕ) → Reads line bytes → said_in line ≡ said bytes
reads_said line bytes r = ap (λ b. said_by (fault_in line.text.items b) line.text.items) r.long ∙ said_by_flag line.text.items (line_of bytes) (is_long bytes) (reads_short line bytes r)

same_fault : (x y : List ℕ) (a b : Bool) → x ≡ y → a ≡ b → fault_in x a ≡ fault_in y b
same_fault x y a b e f = ap (λ t. fault_in t a) e ∙ ap (fault_in y) f

-- a line that a line feed ends is the same whatever is behind it
module _ (body bytes : List ℕ) (h : HasNoFeed body) (e : bytes ≡ body ++ (10 ∷ [])) (more : List ℕ) where
  joins : bytes ++ more ≡ body ++ (10 ∷ more)
  joins = ap (λ l. l ++ more) e ∙ append_assoc body (10 ∷ []) more

  pub line_stays : line_of (bytes ++ more) ≡ line_of bytes
  line_stays = ap line_of joins ∙ line_before_feed body more h ∙ sym (ap line_of e ∙ line_before_feed body [] h)

  pub long_stays : is_long (bytes ++ more) ≡ is_long bytes
  long_stays = ap is_long joins ∙ long_before_feed body more h ∙ sym (ap is_long e ∙ long_before_feed body [] h)

  pub behind_is_more : behind_line (bytes ++ more) ≡ more
  behind_is_more = ap behind_line joins ∙ behind_feed body more h

  pub fault_stays : fault_of (bytes ++ more) ≡ fault_of bytes
  fault_stays = same_fault (line_of (bytes ++ more)) (line_of bytes) (is_long (bytes ++ more)) (is_long bytes) line_stays long_stays

  pub said_stays : said (bytes ++ more) ≡ said bytes
  said_stays = ap (λ f. said_by f (line_of (bytes ++ more))) fault_stays ∙ ap (said_by (fault_of bytes)) line_stays

  end_found : IsSome (line_end (bytes ++ more))
  end_found = subst (λ o. IsSome o) (sym (ap line_end joins ∙ feed_behind body more h)) refl

  -- a command is whole where as many line feeds follow as its script has lines
  pub is_whole : script_lines (said bytes) ≤ line_feeds more → IsWhole (bytes ++ more)
  is_whole l = record {
    line = end_found;
    script = subst (λ s. script_lines s ≤ line_feeds (behind_line (bytes ++ more))) (sym said_stays) (subst (λ (r : List ℕ). script_lines (said bytes) ≤ line_feeds r) (sym behind_is_more) l);
  }

  -- and only there
  pub is_not_whole : line_feeds more < script_lines (said bytes) → IsWhole (bytes ++ more) → ⊥
  is_not_whole l w =
      let k : script_lines (said bytes) ≤ line_feeds (behind_line (bytes ++ more)) = subst (λ s. script_lines s ≤ line_feeds (behind_line (bytes ++ more))) said_stays w.script in
      let m : script_lines (said bytes) ≤ line_feeds more = subst (λ (r : List ℕ). script_lines (said bytes) ≤ line_feeds r) behind_is_more k in
      omega (arith, l, m)

none_is_some : (o : Option ℕ) → o ≡ None → IsSome o → ⊥
none_is_some None e h = cc
none_is_some (Some n) e h = cc

-- bytes without a line feed are no whole command
pub no_whole_line : (bytes : List ℕ) → HasNoFeed bytes → IsWhole bytes → ⊥
no_whole_line bytes h w = none_is_some (line_end bytes) h w.line

some_feed : (bytes : List ℕ) (o : Option ℕ) → line_end bytes ≡ o → IsWhole bytes → line_feeds bytes < 1 → ⊥
some_feed bytes None e w l = no_whole_line bytes e w
some_feed bytes (Some n) e w l =
    let cut = cut_at_feed bytes n e in
    let more : line_feeds bytes ≡ line_feeds (take n bytes) + line_feeds (10 ∷ drop (n + 1) bytes) = ap line_feeds cut.1 ∙ line_feeds-append (take n bytes) (10 ∷ drop (n + 1) bytes) in
    let one : line_feeds (10 ∷ drop (n + 1) bytes) ≡ 1 + line_feeds (drop (n + 1) bytes) = line_feeds-cons 10 (drop (n + 1) bytes) in
    omega (arith, more, one, l)

-- where there is no line feed no command is whole
pub no_whole_feed : (bytes : List ℕ) → line_feeds bytes < 1 → IsWhole bytes → ⊥
no_whole_feed bytes l w = some_feed bytes (line_end bytes) refl w l
