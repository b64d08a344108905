-- How the lines of a script are taken, one after another.
use Rattle.std.proofs.Common.{◌≡◌, ℕ, ◌+◌, ◌-◌, ◌<◌, ◌≤◌, List, [], ◌∷◌, ◌++◌, Bool, true, false, cond, Option, None, Result, Ok, Err, refl, sym, ap, subst, ◌∙◌, arith, append_assoc, append-nil, nat_eq}
use Rattle.std.specs.Prelude.{IfOk}
use Rattle.std.specs.Borrow.{Bor}
use Rattle.std.specs.Io.KnownBytes.{Consumes}
use Rattle.std.proofs.KnownBytes.{Consumes-nil, Consumes-trans, Consumes-kept}
use Rattle.stepper_commands.specs.Lines.{line_of, behind_line}
use Rattle.stepper_commands.specs.Commands.{is_empty}
use Rattle.stepper_commands.specs.Scripts.{fault_in, fault_of, script_of, behind_lines, or_fault, unless}
use Rattle.std.specs.declared.string.String.{String}
use Rattle.std.specs.declared.alloc.Global.{Global}
use Rattle.stepper_commands.specs.ScriptView.{fault_at, IsHeld, with_line}
use Rattle.stepper_commands.specs.declared.command.LineFault.{LineFault}
use Rattle.stepper_commands.specs.declared.command.LineFault.TheVariants.{Truncated}
use Rattle.stepper_commands.proofs.ScriptLemmas.{Taken, taken_none, taken_more, truncated, added, behind_none, finished}
use Rattle.stepper_streams.specs.Counted.{IsOneMore}
use Rattle.stepper_streams.specs.Lines.{reads_failed, lines_taken, lines_refused, is_ended, unread, IsSound, TakesLine, HasNoLine}
use Rattle.stepper_streams.specs.Outlet.{is_cut, Gives}
use Rattle.stepper_streams.specs.Pieces.{HasNoFeed, Reads, IsOneLine, fed, last}
use Rattle.stepper_streams.specs.declared.line.Line.{Line}
use Rattle.stepper_streams.specs.declared.lines.Lines.{Lines}
use Rattle.stepper_streams.specs.declared.outlet.Outlet.{Outlet}
use Rattle.stepper_streams.proofs.Feeds.{behind_no_feed}
use Rattle.stepper_streams.proofs.Giving.{gives_both, cut_behind}
use Rattle.stepper.specs.Replies.{line_feeds}
use Rattle.stepper.specs.Taking.{TakesScript, StopsAtLine, StopsWithin}
use Rattle.stepper.specs.declared.fault.Fault.{Fault}
use Rattle.stepper.specs.declared.fault.Fault.TheVariants.{Reader, Writer, Memory}
use Rattle.stepper.proofs.Whole.{line_feeds-append, no_feeds, reads_fault, reads_short, line_stays, fault_stays, behind_is_more}

pub not_both : (P : Type 0) (b : Bool) → b ≡ false → b ≡ true → P
not_both P b f t = absurd (cc)

pub nil_is_no_line : (body : List ℕ) → [] ≡ body ++ (10 ∷ []) → ⊥
nil_is_no_line [] h = cc
nil_is_no_line (b ∷ bs) h = cc

more_bytes : (b : ℕ) (bs : List ℕ) → is_empty (b ∷ bs) ≡ false
more_bytes b bs = grind arith

is_some_line : (bytes : List ℕ) (ended : Bool) → IsOneLine bytes ended → (more : List ℕ) → is_empty (bytes ++ more) ≡ false
is_some_line [] ended (fed body h e) more = absurd (nil_is_no_line body e)
is_some_line (b ∷ bs) ended h more = more_bytes b (bs ++ more)
is_some_line [] true (last h l) more = absurd (omega (arith, l))

is_line : (bytes : List ℕ) (ended : Bool) → IsOneLine bytes ended → is_empty bytes ≡ false
is_line bytes ended h = subst (λ (l : List ℕ). is_empty l ≡ false) (append-nil bytes) (is_some_line bytes ended h [])

-- one line has one line feed, where the input did not end with it
one_feed : (bytes : List ℕ) (ended : Bool) → IsOneLine bytes ended → ended ≡ false → line_feeds bytes ≡ 1
one_feed bytes ended (fed body h e) unended = ap line_feeds e ∙ line_feeds-append body (10 ∷ []) ∙ ap (λ n. n + 1) (no_feeds body h)
one_feed bytes true (last h l) unended = absurd (cc)

-- behind one line nothing is left
behind_one : (bytes : List ℕ) (ended : Bool) → IsOneLine bytes ended → behind_line bytes ≡ []
behind_one bytes ended (fed body h e) = ap behind_line (sym (append-nil bytes)) ∙ behind_is_more body bytes h e []
behind_one bytes true (last h l) = behind_no_feed bytes h

record Stays (bytes more : List ℕ) : Type 0 where
  pub line : line_of (bytes ++ more) ≡ line_of bytes
  pub fault : fault_of (bytes ++ more) ≡ fault_of bytes
  pub behind : behind_line (bytes ++ more) ≡ more

stays : (bytes : List ℕ) (ended : Bool) → IsOneLine bytes ended → ended ≡ false → (more : List ℕ) → Stays bytes more
stays bytes ended (fed body h e) unended more = record { line = line_stays body bytes h e more; fault = fault_stays body bytes h e more; behind = behind_is_more body bytes h e more }
stays bytes true (last h l) unended more = absurd (cc)

not_long : (text : List ℕ) (b : Bool) → fault_in text b ≡ None → b ≡ false
not_long text true h = cc
not_long text false h = refl

none_left : (n : ℕ) → n - n ≡ 0
none_left n = omega arith

next_text : (n : ℕ) (line : Line) (bytes : List ℕ) (taken : ℕ) (fault next : Option LineFault) (text grown : List ℕ) (r : Result (Bor (List ℕ)) LineFault) → Reads line bytes → taken < n
    → IfOk r (λ t. t.now ≡ line.text.items) → fault_at r ≡ fault_in line.text.items line.is_long → next ≡ or_fault fault (fault_at r)
    → IfOk r (λ t. grown ≡ text ++ (cond (nat_eq taken 0) [] (10 ∷ []) ++ t.now))
    → (input rest behind : List ℕ) → Taken n input taken rest fault text → is_empty rest ≡ false → line_of rest ≡ line_of bytes → fault_of rest ≡ fault_of bytes → behind_line rest ≡ behind
    → Taken n input (taken + 1) behind next grown
next_text n line bytes taken fault next text grown r reads l ok told joins grows input rest behind t some same_line same_fault same_behind =
    let same : fault_at r ≡ fault_of rest = told ∙ reads_fault line bytes reads ∙ sym same_fault in
    let whole : fault_of rest ≡ None → line.text.items ≡ line_of rest
    = λ none. reads_short line bytes reads (sym reads.long ∙ not_long line.text.items line.is_long (sym told ∙ same ∙ none)) ∙ sym same_line in
    subst (λ (z : List ℕ). Taken n input (taken + 1) z next grown) same_behind
    (taken_more n input taken rest fault next text grown t l some (joins ∙ ap (or_fault fault) same)
    (λ none. added r line.text.items grown text (cond (nat_eq taken 0) [] (10 ∷ [])) (same ∙ none) ok grows ∙ ap (λ (z : List ℕ). text ++ (cond (nat_eq taken 0) [] (10 ∷ []) ++ z)) (whole none)))

was_open : (before now : Bool) → (before ≡ true → now ≡ true) → now ≡ false → before ≡ false
was_open true now stays h = not_both (true ≡ false) now h (stays refl)
was_open false now stays h = refl

few_feeds : (taken n : ℕ) (before part : List ℕ) → taken < n → line_feeds before ≡ taken → HasNoFeed part → line_feeds (before ++ part) < n
few_feeds taken n before part l e h = let none = no_feeds part h in omega (arith, line_feeds-append before part, none)

-- a line adds to the text what it says
pub grown_by : (r : Result (Bor (List ℕ)) LineFault) (first : Bool) (text : List ℕ) → IfOk r (λ t. with_line r first text ≡ text ++ (cond first [] (10 ∷ []) ++ t.now))
grown_by (Ok t) first text = refl
grown_by (Err f) first text = tt

module _ {R W : Type 0} (remaining : R → Option (List ℕ)) (contents : W → Option (List ℕ)) (n : ℕ) where
  -- so many lines of the script were taken
  pub record Scripted (source now : Lines R) (sink then : Outlet W) (taken : ℕ) (fault : Option LineFault) (text : List ℕ) : Type 0 where
    pub bytes : List ℕ
    pub consumed : Consumes (unread remaining source) (unread remaining now) bytes
    pub sound : IsSound remaining now
    pub none_failed : reads_failed now ≡ reads_failed source
    pub none_refused : lines_refused now ≡ lines_refused source
    pub counted : lines_taken source ≤ lines_taken now
    pub gives : Gives contents sink then []
    pub stays : is_ended source ≡ true → (bytes ≡ []) × (is_ended now ≡ true)
    pub here : Taken n bytes taken [] fault text
    pub before : is_ended now ≡ false → (more : List ℕ) → Taken n (bytes ++ more) taken more fault text
    pub feeds : is_ended now ≡ false → line_feeds bytes ≡ taken

  pub scripted_none : (source : Lines R) (sink : Outlet W) (fault : Option LineFault) (text : List ℕ) → IsSound remaining source → Gives contents sink sink [] → fault ≡ None → text ≡ []
      → Scripted source source sink sink 0 fault text
  scripted_none source sink fault text s g e f = record {
    bytes = [];
    consumed = Consumes-nil (unread remaining source);
    sound = s;
    none_failed = refl;
    none_refused = refl;
    counted = omega arith;
    gives = g;
    stays = λ t. (refl, t);
    here = subst (λ (o : Option LineFault). Taken n [] 0 [] o text) (sym e) (subst (Taken n [] 0 [] None) (sym f) (taken_none n []));
    before = λ unended more. subst (λ (o : Option LineFault). Taken n more 0 more o text) (sym e) (subst (Taken n more 0 more None) (sym f) (taken_none n more));
    feeds = λ unended. refl;
  }

  whole_script : (source now : Lines R) (sink then : Outlet W) (fault : Option LineFault) (text : List ℕ) (script : Result (List ℕ) LineFault) → Scripted source now sink then n fault text
      → script ≡ unless fault text → TakesScript remaining contents n source now sink then script
  whole_script source now sink then fault text script s e = record {
    bytes = s.bytes;
    taken = s.consumed;
    sound = s.sound;
    none_failed = s.none_failed;
    none_refused = s.none_refused;
    counted = s.counted;
    stays = s.stays;
    gives = s.gives;
    text = e ∙ sym (finished n s.bytes [] fault text s.here);
    left = s.here.left ∙ ap (λ m. behind_lines m []) (none_left n);
    whole = λ unended. let same = s.feeds unended in omega (arith, same);
    before = λ unended more. let t = s.before unended more in (e ∙ sym (finished n (s.bytes ++ more) more fault text t), sym (t.left ∙ ap (λ m. behind_lines m more) (none_left n)));
  }

  -- a script of the lines that were taken
  pub scripted_all : (source now : Lines R) (sink then : Outlet W) (taken : ℕ) (fault : Option LineFault) (text : List ℕ) (script : Result (List ℕ) LineFault) → Scripted source now sink then taken fault text → taken ≡ n
      → script ≡ unless fault text → TakesScript remaining contents n source now sink then script
  scripted_all source now sink then taken fault text script s all e = whole_script source now sink then fault text script (subst (λ (k : ℕ). Scripted source now sink then k fault text) all s) e

  -- the input ended before all lines were taken
  pub scripted_short : (source now later : Lines R) (sink then after : Outlet W) (taken : ℕ) (fault : Option LineFault) (text : List ℕ) → Scripted source now sink then taken fault text → taken < n
      → HasNoLine remaining now later → lines_refused later ≡ lines_refused now → lines_taken later ≡ lines_taken now → Gives contents then after [] → TakesScript remaining contents n source later sink after (Err Truncated)
  scripted_short source now later sink then after taken fault text s l none kept same g = record {
    bytes = s.bytes;
    taken = Consumes-kept _ _ _ s.bytes s.consumed none.kept;
    sound = λ t. none.end;
    none_failed = none.none_failed ∙ s.none_failed;
    none_refused = kept ∙ s.none_refused;
    counted = let c = s.counted in omega (arith, c, same);
    stays = λ t. ((s.stays t).0, none.ended);
    gives = gives_both contents sink then after [] [] s.gives g;
    text = sym (truncated n s.bytes taken [] fault text s.here l refl);
    left = s.here.left ∙ behind_none (n - taken);
    whole = λ unended. not_both (n ≤ line_feeds s.bytes) (is_ended later) unended none.ended;
    before = λ unended more. not_both ((Err Truncated ≡ script_of n (s.bytes ++ more)) × (more ≡ behind_lines n (s.bytes ++ more))) (is_ended later) unended none.ended;
  }

  -- one more line is taken
  pub scripted_more : (source now later : Lines R) (sink then after : Outlet W) (line : Line) (taken : ℕ) (fault next : Option LineFault) (text grown : List ℕ) (r : Result (Bor (List ℕ)) LineFault)
      → Scripted source now sink then taken fault text → taken < n → TakesLine remaining now later line → lines_refused later ≡ lines_refused now → lines_taken later ≡ lines_taken now + 1 → Gives contents then after []
      → IfOk r (λ t. t.now ≡ line.text.items) → fault_at r ≡ fault_in line.text.items line.is_long → next ≡ or_fault fault (fault_at r)
      → IfOk r (λ t. grown ≡ text ++ (cond (nat_eq taken 0) [] (10 ∷ []) ++ t.now))
      → Scripted source later sink after (taken + 1) next grown
  scripted_more source now later sink then after line taken fault next text grown r s l line_taken kept one_more g ok told joins grows =
      let bytes : List ℕ = line_taken.bytes in
      let step : (input rest behind : List ℕ) → Taken n input taken rest fault text → is_empty rest ≡ false → line_of rest ≡ line_of bytes → fault_of rest ≡ fault_of bytes → behind_line rest ≡ behind → Taken n input (taken + 1) behind next grown
      = λ input rest behind t some same_line same_fault same_behind. next_text n line bytes taken fault next text grown r line_taken.reads l ok told joins grows input rest behind t some same_line same_fault same_behind in
      record {
        bytes = s.bytes ++ bytes;
        consumed = Consumes-trans _ _ _ s.bytes bytes s.consumed line_taken.taken;
        sound = line_taken.sound;
        none_failed = line_taken.none_failed ∙ s.none_failed;
        none_refused = kept ∙ s.none_refused;
        counted = let c = s.counted in omega (arith, c, one_more);
        gives = gives_both contents sink then after [] [] s.gives g;
        stays = λ t. not_both ((s.bytes ++ bytes ≡ []) × (is_ended later ≡ true)) (is_ended now) line_taken.not_ended (s.stays t).1;
        here = step (s.bytes ++ bytes) bytes [] (s.before line_taken.not_ended bytes) (is_line bytes (is_ended later) line_taken.one) refl refl (behind_one bytes (is_ended later) line_taken.one);
        before = λ unended more. let kept = stays bytes (is_ended later) line_taken.one unended more in
            subst (λ (z : List ℕ). Taken n z (taken + 1) more next grown) (sym (append_assoc s.bytes bytes more))
            (step (s.bytes ++ (bytes ++ more)) (bytes ++ more) more (s.before line_taken.not_ended (bytes ++ more)) (is_some_line bytes (is_ended later) line_taken.one more) kept.line kept.fault kept.behind);
        feeds = λ unended. let one = one_feed bytes (is_ended later) line_taken.one unended in let same = s.feeds line_taken.not_ended in line_feeds-append s.bytes bytes ∙ omega (arith, same, one);
      }

  module _ (source now later : Lines R) (sink then after : Outlet W) (taken : ℕ) (fault : Option LineFault) (text : List ℕ) (s : Scripted source now sink then taken fault text) (l : taken < n) where
    -- a fault where one more line was to be taken
    pub scripted_stops : (why : Fault) → StopsAtLine remaining contents now later then after why → StopsWithin remaining contents source later sink after n why
    scripted_stops Reader (fails, kept, g, u) = record {
      bytes = s.bytes ++ fails.part.bytes;
      taken = Consumes-trans _ _ _ s.bytes fails.part.bytes s.consumed fails.part.taken;
      none_held = fails.none_held;
      few = few_feeds taken n s.bytes fails.part.bytes l (s.feeds fails.part.was_open) fails.part.feedless;
      not_ended = was_open (is_ended source) (is_ended now) (λ t. (s.stays t).1) fails.part.was_open;
      one_failed = subst (λ k. IsOneMore k (reads_failed later)) s.none_failed fails.one_failed;
      none_refused = kept ∙ s.none_refused;
      gives = gives_both contents sink then after [] [] s.gives g;
      uncut = u;
    }
    scripted_stops Writer cut = cut_behind contents sink then after [] [] s.gives cut
    scripted_stops Memory (out, one, g, u) = record {
      bytes = s.bytes ++ out.part.bytes;
      taken = Consumes-trans _ _ _ s.bytes out.part.bytes s.consumed out.part.taken;
      few = few_feeds taken n s.bytes out.part.bytes l (s.feeds out.part.was_open) out.part.feedless;
      not_ended = was_open (is_ended source) (is_ended now) (λ t. (s.stays t).1) out.part.was_open;
      none_failed = out.none_failed ∙ s.none_failed;
      one_refused = subst (λ k. IsOneMore k (lines_refused later)) s.none_refused one;
      gives = gives_both contents sink then after [] [] s.gives g;
      uncut = u;
    }

  -- so many lines were taken, and their text is held as far as there was memory for it
  pub record Holding (source now : Lines R) (sink then : Outlet W) (taken : ℕ) (fault : Option LineFault) (held : Option (String Global)) : Type 0 where
    pub text : List ℕ
    pub scripted : Scripted source now sink then taken fault text
    pub is : IsHeld held text
    pub uncut : is_cut then ≡ false
