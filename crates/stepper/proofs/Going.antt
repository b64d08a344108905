-- How a run goes on from command to command.
use Rattle.std.proofs.Common.{◌≡◌, ℕ, List, [], ◌++◌, Bool, true, false, Option, Some, None, Result, Ok, Err, refl, sym, subst, ◌∙◌, append_assoc, append-nil}
use Rattle.std.specs.Prelude.{◌||◌, MatchResult}
use Rattle.std.specs.Io.KnownBytes.{Consumes, IsAtEnd, prepend_known}
use Rattle.std.proofs.KnownBytes.{Consumes-nil, Consumes-trans, Consumes-kept}
use Rattle.book.specs.Books.{blank}
use Rattle.book.specs.BookView.{book_of}
use Rattle.stepper_commands.specs.Lines.{behind_line}
use Rattle.stepper_commands.specs.Commands.{Spelled}
use Rattle.stepper_commands.specs.declared.command.LineFault.{LineFault}
use Rattle.stepper_streams.specs.Counted.{IsOneMore}
use Rattle.stepper_streams.specs.Lines.{held, reads_failed, lines_refused, is_ended, unread, IsSound, TakesLine, HasNoLine}
use Rattle.stepper_streams.specs.Outlet.{is_cut, Gives, IsCutShort}
use Rattle.stepper_streams.specs.Pieces.{Reads, IsOneLine}
use Rattle.stepper_streams.specs.declared.line.Line.{Line}
use Rattle.stepper_streams.specs.declared.lines.Lines.{Lines}
use Rattle.stepper_streams.specs.declared.outlet.Outlet.{Outlet}
use Rattle.stepper_streams.proofs.Giving.{gives_none, gives_both, cut_behind, gives_as}
use Rattle.stepper.specs.Replies.{FirstReply, whole_ones, with_last, IsWhole, said, script_lines}
use Rattle.stepper.specs.Taking.{StopsAtLine, Does, StopsWithin, AnswersLine, StopsLine, StaysOpen}
use Rattle.stepper.specs.Runs.{RunsToEnd, RunsToFailedRead, RunsToFailedWrite, RunsOutOfMemory, RunsTo}
use Rattle.stepper.specs.declared.engine.Engine.{Engine}
use Rattle.stepper.specs.declared.fault.Fault.{Fault}
use Rattle.stepper.specs.declared.fault.Fault.TheVariants.{Reader, Writer, Memory}
use Rattle.stepper.proofs.Whole.{said_in, reads_said, no_whole_line}
use Rattle.stepper.proofs.Story.{Story, story_begins, story_so_far, story_all, story_more, at_piece, before_piece, whole_piece, not_whole_piece, some_piece}
use Rattle.stepper.specs.declared.engine.Limits.{Limits}

-- what was consumed first
consumes_front : (a b : Option (List ℕ)) (xs ys : List ℕ) → Consumes a b (xs ++ ys) → Consumes a (prepend_known ys b) xs
consumes_front None b xs ys c = tt
consumes_front (Some x) None xs ys c = absurd c
consumes_front (Some x) (Some z) xs ys c = c ∙ append_assoc xs ys z

module _ {R W : Type 0} (remaining : R → Option (List ℕ)) (contents : W → Option (List ℕ)) where
  -- the line of a command, and what was answered for it
  pub answers_line : (old new : Engine) (source later : Lines R) (sink after : Outlet W) (line : Line) (bytes : List ℕ) (said_so : Result (Option Spelled) LineFault)
      → Reads line bytes → IsOneLine bytes (is_ended source) → said_so ≡ said_in line
      → Does remaining contents old new source later sink after said_so → AnswersLine remaining contents old new source later sink after bytes
  answers_line old new source later sink after line bytes said_so reads one says d =
      let reply : List ℕ = d.happens.reply in
      let meant : said_so ≡ said bytes = says ∙ reads_said line bytes reads in
      record {
        bytes = d.bytes;
        taken = d.taken;
        sound = d.sound;
        none_failed = d.none_failed;
        none_refused = d.none_refused;
        counted = d.counted;
        reply = reply;
        tells = d.happens.tells;
        refusal = d.happens.refusal;
        here = at_piece old.limits (book_of old.book) (book_of new.book) bytes d.bytes reply [] d.happens.refusal (is_ended source) (is_ended later) said_so one meant d.stays d.happens.allowed.here;
        whole = λ unended more. whole_piece bytes d.bytes more (is_ended source) (is_ended later) said_so one meant d.stays unended (d.happens.allowed.lines unended);
        before = λ unended more.
            before_piece old.limits (book_of old.book) (book_of new.book) bytes d.bytes more reply d.happens.refusal (is_ended source) (is_ended later) said_so one meant d.stays unended (d.happens.allowed.before unended more);
        refused = d.happens.refused;
        limits = d.happens.limits;
      }

  -- a fault behind the line of a command
  pub stops_line : (source later : Lines R) (sink after : Outlet W) (line : Line) (bytes : List ℕ) (said_so : Result (Option Spelled) LineFault) (fault : Fault)
      → Reads line bytes → IsOneLine bytes (is_ended source) → said_so ≡ said_in line
      → StopsWithin remaining contents source later sink after (script_lines said_so) fault → StopsLine remaining contents source later sink after bytes fault
  stops_line source later sink after line bytes said_so Reader reads one says d = record {
    bytes = d.bytes;
    taken = d.taken;
    none_held = d.none_held;
    none_whole = not_whole_piece bytes d.bytes (is_ended source) said_so one (says ∙ reads_said line bytes reads) d.not_ended d.few;
    one_failed = d.one_failed;
    none_refused = d.none_refused;
    gives = d.gives;
    uncut = d.uncut;
  }
  stops_line source later sink after line bytes said_so Writer reads one says d = d
  stops_line source later sink after line bytes said_so Memory reads one says d = record {
    bytes = d.bytes;
    taken = d.taken;
    none_whole = not_whole_piece bytes d.bytes (is_ended source) said_so one (says ∙ reads_said line bytes reads) d.not_ended d.few;
    none_failed = d.none_failed;
    one_refused = d.one_refused;
    gives = d.gives;
    uncut = d.uncut;
  }

  -- what came of a line, by what it says
  pub line_answered : {A : Type 0} (old new : Engine) (source later : Lines R) (sink after : Outlet W) (line : Line) (said_so : Result (Option Spelled) LineFault) (r : Result A Fault) → said_so ≡ said_in line
      → MatchResult r (λ _. Does remaining contents old new source later sink after said_so) (StopsWithin remaining contents source later sink after (script_lines said_so))
      → (bytes : List ℕ) → Reads line bytes → IsOneLine bytes (is_ended source)
      → MatchResult r (λ _. AnswersLine remaining contents old new source later sink after bytes) (StopsLine remaining contents source later sink after bytes)
  line_answered old new source later sink after line said_so (Ok x) says h bytes reads one = answers_line old new source later sink after line bytes said_so reads one says h
  line_answered old new source later sink after line said_so (Err f) says h bytes reads one = stops_line source later sink after line bytes said_so f reads one says h

  -- how far a run is
  pub record Going (limits : Limits) (source now : Lines R) (sink then : Outlet W) (engine : Engine) : Type 0 where
    pub taken : List ℕ
    pub consumed : Consumes (unread remaining source) (unread remaining now) taken
    pub sound : IsSound remaining now
    pub none_failed : reads_failed now ≡ reads_failed source
    pub none_refused : lines_refused now ≡ lines_refused source
    pub text : List ℕ
    pub gives : Gives contents sink then text
    pub uncut : is_cut then ≡ false
    pub story : Story limits taken text (is_ended now) engine.written.refused (book_of engine.book)
    pub same_limits : engine.limits ≡ limits

  -- before the first command
  pub run_begins : (limits : Limits) (source : Lines R) (sink : Outlet W) (engine : Engine) → IsSound remaining source → is_cut sink ≡ false → book_of engine.book ≡ blank → engine.written.refused ≡ false → engine.limits ≡ limits
      → Going limits source source sink sink engine
  run_begins limits source sink engine s uncut e f h = record {
    taken = [];
    consumed = Consumes-nil (unread remaining source);
    sound = s;
    none_failed = refl;
    none_refused = refl;
    text = [];
    gives = gives_none contents sink;
    uncut = uncut;
    story = story_begins limits (is_ended source) engine.written.refused (book_of engine.book) e f;
    same_limits = h;
  }

  -- nothing more is given behind a text
  given_so : (sink then after : Outlet W) (text : List ℕ) → Gives contents sink then text → Gives contents then after [] → Gives contents sink after text
  given_so sink then after text g s = gives_as contents sink after (text ++ []) text (append-nil text) (gives_both contents sink then after text [] g s)

  cut_so : (sink then after : Outlet W) (text : List ℕ) → Gives contents sink then text → IsCutShort contents then after [] → IsCutShort contents sink after text
  cut_so sink then after text g s = subst (IsCutShort contents sink after) (append-nil text) (cut_behind contents sink then after text [] g s)

  module _ (limits : Limits) (source now later : Lines R) (sink then after : Outlet W) (engine : Engine) (g : Going limits source now sink then engine) where
    -- no line is left
    pub run_ends : HasNoLine remaining now later → lines_refused later ≡ lines_refused now → Gives contents then after [] → RunsToEnd remaining contents limits source later sink after engine.written.refused
    run_ends none kept s = record {
      input = g.taken;
      read = Consumes-kept _ _ _ g.taken g.consumed none.kept;
      end = none.end;
      text = g.text;
      book = book_of engine.book;
      replies = g.story.here;
      gives = given_so sink then after g.text g.gives s;
      none_failed = none.none_failed ∙ g.none_failed;
      none_refused = kept ∙ g.none_refused;
    }

    open_story : is_ended now ≡ false → Story limits g.taken g.text false engine.written.refused (book_of engine.book)
    open_story unended = subst (λ (z : Bool). Story limits g.taken g.text z engine.written.refused (book_of engine.book)) unended g.story

    -- a read fails behind these bytes, in which no command is whole
    pub read_fails : (left : List ℕ) → is_ended now ≡ false → Consumes (unread remaining now) (unread remaining later) left → held later ≡ [] → ¬ IsWhole left → IsOneMore (reads_failed now) (reads_failed later)
        → lines_refused later ≡ lines_refused now → Gives contents then after [] → RunsToFailedRead remaining contents limits source later sink after
    read_fails left unended read none_held none_whole one kept s = record {
      input = g.taken;
      left = left;
      read = Consumes-trans _ _ _ g.taken left g.consumed read;
      none_held = none_held;
      text = g.text;
      refused = engine.written.refused;
      book = book_of engine.book;
      replies = story_so_far (open_story unended);
      none_whole = none_whole;
      gives = given_so sink then after g.text g.gives s;
      one_failed = subst (λ n. IsOneMore n (reads_failed later)) g.none_failed one;
      none_refused = kept ∙ g.none_refused;
    }

    -- a write fails
    pub write_fails : IsCutShort contents then after [] → RunsToFailedWrite remaining contents limits source later sink after
    write_fails s = record {
      input = g.taken;
      rest = unread remaining now;
      begins = g.consumed;
      text = g.text;
      refused = engine.written.refused;
      book = book_of engine.book;
      replies = story_all (is_ended now) (IsAtEnd (unread remaining now)) g.sound g.story;
      cut = cut_so sink then after g.text g.gives s;
    }

    -- there is no room for a line behind these bytes, in which no command is whole
    pub memory_fails : (left : List ℕ) → is_ended now ≡ false → Consumes (unread remaining now) (unread remaining later) left → ¬ IsWhole left → reads_failed later ≡ reads_failed now
        → IsOneMore (lines_refused now) (lines_refused later) → Gives contents then after [] → RunsOutOfMemory remaining contents limits source later sink after
    memory_fails left unended read none_whole none_failed one s = record {
      input = g.taken;
      left = left;
      taken = Consumes-trans _ _ _ g.taken left g.consumed read;
      text = g.text;
      refused = engine.written.refused;
      book = book_of engine.book;
      replies = story_so_far (open_story unended);
      none_whole = none_whole;
      gives = given_so sink then after g.text g.gives s;
      none_failed = none_failed ∙ g.none_failed;
      one_refused = subst (λ n. IsOneMore n (lines_refused later)) g.none_refused one;
    }

    -- a fault where the next line was to be taken
    pub run_stops_at_line : (fault : Fault) → StopsAtLine remaining contents now later then after fault → RunsTo remaining contents limits source later sink after fault
    run_stops_at_line Reader (f, kept, s, u) = read_fails f.part.bytes f.part.was_open f.part.taken f.none_held (no_whole_line f.part.bytes f.part.feedless) f.one_failed kept s
    run_stops_at_line Writer s = write_fails s
    run_stops_at_line Memory (f, one, s, u) = memory_fails f.part.bytes f.part.was_open f.part.taken (no_whole_line f.part.bytes f.part.feedless) f.none_failed one s

  module _ (limits : Limits) (source now mid later : Lines R) (sink then one two : Outlet W) (engine next : Engine) (line : Line) (g : Going limits source now sink then engine) (t : TakesLine remaining now mid line)
      (kept : lines_refused mid ≡ lines_refused now) (s : Gives contents then one []) where
    -- a fault behind the line of a command
    pub run_stops_behind : (fault : Fault) → StopsLine remaining contents mid later one two t.bytes fault → RunsTo remaining contents limits source later sink two fault
    run_stops_behind Reader f =
        read_fails limits source now later sink then two engine g (t.bytes ++ f.bytes) t.not_ended (Consumes-trans _ _ _ t.bytes f.bytes t.taken f.taken) f.none_held f.none_whole
        (subst (λ n. IsOneMore n (reads_failed later)) t.none_failed f.one_failed) (f.none_refused ∙ kept) (gives_both contents then one two [] [] s f.gives)
    run_stops_behind Writer f = write_fails limits source now later sink then two engine g (cut_behind contents then one two [] [] s f)
    run_stops_behind Memory f =
        memory_fails limits source now later sink then two engine g (t.bytes ++ f.bytes) t.not_ended (Consumes-trans _ _ _ t.bytes f.bytes t.taken f.taken) f.none_whole (f.none_failed ∙ t.none_failed)
        (subst (λ n. IsOneMore n (lines_refused later)) kept f.one_refused) (gives_both contents then one two [] [] s f.gives)

    module _ (a : AnswersLine remaining contents engine next mid later one two t.bytes) where
      next_story : Story limits (g.taken ++ (t.bytes ++ a.bytes)) (g.text ++ a.reply) (is_ended later) (engine.written.refused || a.refusal) (book_of next.book)
      next_story =
          story_more (t.bytes ++ a.bytes) (open_story limits source now later sink then two engine g t.not_ended) (some_piece t.bytes a.bytes (is_ended mid) t.one)
          (subst (λ (n : Limits). FirstReply n (book_of engine.book) (said (t.bytes ++ a.bytes)) (behind_line (t.bytes ++ a.bytes)) a.reply a.refusal (book_of next.book) []) g.same_limits a.here)
          a.whole
          (λ unended more. subst (λ (n : Limits). FirstReply n (book_of engine.book) (said ((t.bytes ++ a.bytes) ++ more)) (behind_line ((t.bytes ++ a.bytes) ++ more)) a.reply a.refusal (book_of next.book) more) g.same_limits (a.before unended more))

      next_taken : Consumes (unread remaining source) (unread remaining later) (g.taken ++ (t.bytes ++ a.bytes))
      next_taken = Consumes-trans _ _ _ g.taken (t.bytes ++ a.bytes) g.consumed (Consumes-trans _ _ _ t.bytes a.bytes t.taken a.taken)

      one_given : Gives contents sink one g.text
      one_given = given_so sink then one g.text g.gives s

      -- the reply is given
      pub run_goes_on : is_cut one ≡ false → is_cut two ≡ false → Going limits source later sink two next
      run_goes_on uncut stays = record {
        taken = g.taken ++ (t.bytes ++ a.bytes);
        consumed = next_taken;
        sound = a.sound;
        none_failed = a.none_failed ∙ t.none_failed ∙ g.none_failed;
        none_refused = a.none_refused ∙ kept ∙ g.none_refused;
        text = g.text ++ a.reply;
        gives = gives_both contents sink one two g.text a.reply one_given (a.tells.all uncut stays);
        uncut = stays;
        story = subst (λ (z : Bool). Story limits (g.taken ++ (t.bytes ++ a.bytes)) (g.text ++ a.reply) (is_ended later) z (book_of next.book)) (sym (a.refused stays)) next_story;
        same_limits = a.limits ∙ g.same_limits;
      }

      -- the reply is cut short
      pub run_is_cut : is_cut one ≡ false → is_cut two ≡ true → RunsToFailedWrite remaining contents limits source later sink two
      run_is_cut uncut cut = record {
        input = g.taken ++ (t.bytes ++ a.bytes);
        rest = unread remaining later;
        begins = next_taken;
        text = g.text ++ a.reply;
        refused = engine.written.refused || a.refusal;
        book = book_of next.book;
        replies = story_all (is_ended later) (IsAtEnd (unread remaining later)) a.sound next_story;
        cut = cut_behind contents sink one two g.text a.reply one_given (a.tells.some uncut cut);
      }

  -- what was answered goes out at last
  pub ends_sent : (limits : Limits) (source later : Lines R) (sink one two : Outlet W) (refused : Bool) → RunsToEnd remaining contents limits source later sink one refused → Gives contents one two []
      → RunsToEnd remaining contents limits source later sink two refused
  ends_sent limits source later sink one two refused r s = record {
    input = r.input;
    read = r.read;
    end = r.end;
    text = r.text;
    book = r.book;
    replies = r.replies;
    gives = given_so sink one two r.text r.gives s;
    none_failed = r.none_failed;
    none_refused = r.none_refused;
  }

  pub fails_sent : (limits : Limits) (source later : Lines R) (sink one two : Outlet W) (fault : Fault) → (fault ≡ Writer → ⊥) → RunsTo remaining contents limits source later sink one fault → Gives contents one two []
      → RunsTo remaining contents limits source later sink two fault
  fails_sent limits source later sink one two Reader n r s = record {
    input = r.input;
    left = r.left;
    read = r.read;
    none_held = r.none_held;
    text = r.text;
    refused = r.refused;
    book = r.book;
    replies = r.replies;
    none_whole = r.none_whole;
    gives = given_so sink one two r.text r.gives s;
    one_failed = r.one_failed;
    none_refused = r.none_refused;
  }
  fails_sent limits source later sink one two Writer n r s = absurd (n refl)
  fails_sent limits source later sink one two Memory n r s = record {
    input = r.input;
    left = r.left;
    taken = r.taken;
    text = r.text;
    refused = r.refused;
    book = r.book;
    replies = r.replies;
    none_whole = r.none_whole;
    gives = given_so sink one two r.text r.gives s;
    none_failed = r.none_failed;
    one_refused = r.one_refused;
  }

  -- the last send fails
  pub ends_cut : (limits : Limits) (source later : Lines R) (sink one two : Outlet W) (refused : Bool) → RunsToEnd remaining contents limits source later sink one refused → IsCutShort contents one two []
      → RunsTo remaining contents limits source later sink two Writer
  ends_cut limits source later sink one two refused r s = record {
    input = r.input;
    rest = unread remaining later;
    begins = r.read;
    text = r.text;
    refused = refused;
    book = r.book;
    replies = with_last r.end r.replies;
    cut = cut_so sink one two r.text r.gives s;
  }

  pub fails_cut : (limits : Limits) (source later : Lines R) (sink one two : Outlet W) (fault : Fault) → (fault ≡ Writer → ⊥) → RunsTo remaining contents limits source later sink one fault → IsCutShort contents one two []
      → RunsTo remaining contents limits source later sink two Writer
  fails_cut limits source later sink one two Reader n r s = record {
    input = r.input;
    rest = prepend_known r.left (unread remaining later);
    begins = consumes_front (unread remaining source) (unread remaining later) r.input r.left r.read;
    text = r.text;
    refused = r.refused;
    book = r.book;
    replies = whole_ones r.replies;
    cut = cut_so sink one two r.text r.gives s;
  }
  fails_cut limits source later sink one two Writer n r s = absurd (n refl)
  fails_cut limits source later sink one two Memory n r s = record {
    input = r.input;
    rest = prepend_known r.left (unread remaining later);
    begins = consumes_front (unread remaining source) (unread remaining later) r.input r.left r.taken;
    text = r.text;
    refused = r.refused;
    book = r.book;
    replies = whole_ones r.replies;
    cut = cut_so sink one two r.text r.gives s;
  }

  -- what was given before the first command
  pub ends_from : (limits : Limits) (source later : Lines R) (zero sink after : Outlet W) (refused : Bool) → Gives contents zero sink [] → RunsToEnd remaining contents limits source later sink after refused
      → RunsToEnd remaining contents limits source later zero after refused
  ends_from limits source later zero sink after refused s r = record {
    input = r.input;
    read = r.read;
    end = r.end;
    text = r.text;
    book = r.book;
    replies = r.replies;
    gives = gives_both contents zero sink after [] r.text s r.gives;
    none_failed = r.none_failed;
    none_refused = r.none_refused;
  }

  pub fails_from : (limits : Limits) (source later : Lines R) (zero sink after : Outlet W) (fault : Fault) → Gives contents zero sink [] → RunsTo remaining contents limits source later sink after fault
      → RunsTo remaining contents limits source later zero after fault
  fails_from limits source later zero sink after Reader s r = record {
    input = r.input;
    left = r.left;
    read = r.read;
    none_held = r.none_held;
    text = r.text;
    refused = r.refused;
    book = r.book;
    replies = r.replies;
    none_whole = r.none_whole;
    gives = gives_both contents zero sink after [] r.text s r.gives;
    one_failed = r.one_failed;
    none_refused = r.none_refused;
  }
  fails_from limits source later zero sink after Writer s r = record {
    input = r.input;
    rest = r.rest;
    begins = r.begins;
    text = r.text;
    refused = r.refused;
    book = r.book;
    replies = r.replies;
    cut = cut_behind contents zero sink after [] r.text s r.cut;
  }
  fails_from limits source later zero sink after Memory s r = record {
    input = r.input;
    left = r.left;
    taken = r.taken;
    text = r.text;
    refused = r.refused;
    book = r.book;
    replies = r.replies;
    none_whole = r.none_whole;
    gives = gives_both contents zero sink after [] r.text s r.gives;
    none_failed = r.none_failed;
    one_refused = r.one_refused;
  }

  -- the sink is cut by nothing but a write that failed
  pub line_uncut : (source later : Lines R) (sink after : Outlet W) (fault : Fault) → StopsAtLine remaining contents source later sink after fault → StaysOpen {A = Unit {0}} (Err fault) (is_cut after)
  line_uncut source later sink after Reader (f, kept, s, u) = u
  line_uncut source later sink after Writer s = tt
  line_uncut source later sink after Memory (f, one, s, u) = u

  pub stop_uncut : (source later : Lines R) (sink after : Outlet W) (line : List ℕ) (fault : Fault) → StopsLine remaining contents source later sink after line fault → StaysOpen {A = Unit {0}} (Err fault) (is_cut after)
  stop_uncut source later sink after line Reader f = f.uncut
  stop_uncut source later sink after line Writer f = tt
  stop_uncut source later sink after line Memory f = f.uncut
