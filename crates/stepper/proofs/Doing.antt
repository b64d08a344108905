-- What is done about the command that a line spells.
use Rattle.std.proofs.Common.{◌≡◌, ℕ, ◌≤◌, List, [], ◌++◌, true, false, Option, Some, None, Result, Ok, Err, refl, sym, ap, subst, ◌∙◌, arith}
use Rattle.std.proofs.KnownBytes.{Consumes-nil}
use Rattle.std.specs.declared.string.String.{String}
use Rattle.std.specs.declared.alloc.Global.{Global}
use Rattle.book.specs.Books.{Book}
use Rattle.book.specs.BookView.{book_of}
use Rattle.stepper_commands.specs.Commands as commands
use Rattle.stepper_commands.specs.Commands.{Spelled, fault_text}
use Rattle.stepper_commands.specs.ScriptView.{IsScript}
use Rattle.stepper_commands.specs.declared.command.LineFault.{LineFault}
use Rattle.stepper_streams.specs.Lines.{unread, IsSound}
use Rattle.stepper_streams.specs.Outlet.{is_cut}
use Rattle.stepper_streams.specs.declared.lines.Lines.{Lines}
use Rattle.stepper_streams.specs.declared.outlet.Outlet.{Outlet}
use Rattle.stepper_streams.proofs.Giving.{tells_none, tells_both, tells_given}
use Rattle.stepper.specs.Replies.{Answers, AnswersBirth, FirstReply, skipped, no_command, refused, script_lines, line_feeds}
use Rattle.stepper.specs.Engine.{Happens}
use Rattle.stepper.specs.Written.{Adds}
use Rattle.stepper.specs.Taking.{TakesScript, TakesHeld, Does}
use Rattle.stepper.specs.declared.engine.Engine.{Engine}
use Rattle.stepper.proofs.Answered.{happens_as, accepts, refuses, answered_at, born_at}

module _ {R W : Type 0} (remaining : R → Option (List ℕ)) (contents : W → Option (List ℕ)) (source : Lines R) (sink after : Outlet W) (sound : IsSound remaining source) where
  -- no line is taken for what happens
  pub does_here : {old new : Engine} {says : Result (Option Spelled) LineFault} → script_lines says ≡ 0
      → Happens contents old new sink after (λ b r s d. (more : List ℕ) → FirstReply old.limits b says more r s d more) → Does remaining contents old new source source sink after says
  does_here {says = says} none h = record {
    bytes = [];
    taken = Consumes-nil (unread remaining source);
    sound = sound;
    none_failed = refl;
    none_refused = refl;
    counted = omega arith;
    stays = λ t. (refl, t);
    happens = happens_as (λ b r s d f. record { here = f []; lines = λ unended. omega (arith, none); before = λ unended more. f more }) h;
  }

  -- a command that has no script
  pub does_alone : {old new now : Engine} {later : Lines R} {then : Outlet W} (c a : Spelled) → c ≡ a → script_lines (Ok (Some a)) ≡ 0 → now ≡ new → later ≡ source → then ≡ after
      → Happens contents old new sink after (λ b r s d. Answers old.limits b a r s d) → Does remaining contents old now source later sink then (Ok (Some c))
  does_alone {old = old} {new = new} {now = now} {later = later} {then = then} c a spelled none same same_source same_sink h =
      subst (λ (z : Engine). Does remaining contents old z source later sink then (Ok (Some c))) (sym same)
      (subst (λ (z : Lines R). Does remaining contents old new source z sink then (Ok (Some c))) (sym same_source)
      (subst (λ (z : Outlet W). Does remaining contents old new source source sink z (Ok (Some c))) (sym same_sink)
      (does_here (ap (λ (z : Spelled). script_lines (Ok (Some z))) spelled ∙ none) (happens_as (λ b r s d k more. answered_at old.limits b d c a more r s spelled k) h))))

  -- a line that is refused
  pub does_refuse : {old new : Engine} (f : LineFault) {says : Result (Option Spelled) LineFault} → says ≡ Err f → book_of new.book ≡ book_of old.book → new.limits ≡ old.limits
      → Adds contents old.written new.written sink after (refused (fault_text f)) true → Does remaining contents old new source source sink after says
  does_refuse {old = old} {new = new} f same kept limits adds =
      subst (Does remaining contents old new source source sink after) (sym same)
      (does_here refl (refuses (λ more. subst (λ (d : Book). FirstReply old.limits (book_of old.book) (Err f) more (refused (fault_text f)) true d more) (sym kept) no_command) adds limits))

module _ {R W : Type 0} (remaining : R → Option (List ℕ)) (contents : W → Option (List ℕ)) (source : Lines R) (sink : Outlet W) (sound : IsSound remaining source) where
  -- a line that says nothing
  pub does_nothing : (e : Engine) {says : Result (Option Spelled) LineFault} → says ≡ Ok None → Does remaining contents e e source source sink sink says
  does_nothing e same =
      subst (Does remaining contents e e source source sink sink) (sym same)
      (does_here remaining contents source sink sink sound refl (accepts (λ more. skipped) (tells_none contents sink) refl refl))

module _ {R W : Type 0} (remaining : R → Option (List ℕ)) (contents : W → Option (List ℕ)) (source later : Lines R) (sink mid after : Outlet W) where
  -- a vat is made with its script
  pub does_born : {old new : Engine} (c : Spelled) (x : List ℕ) (earlier : List (List ℕ)) (lines : ℕ) (script : Result (List ℕ) LineFault) → c ≡ commands.birth x earlier lines
      → is_cut sink ≡ false → is_cut mid ≡ false
      → TakesScript remaining contents lines source later sink mid script → Happens contents old new mid after (λ b r s d. AnswersBirth b x earlier script r s d) → Does remaining contents old new source later sink after (Ok (Some c))
  does_born {old = old} c x earlier lines script e uncut stays_open t h = record {
    bytes = t.bytes;
    taken = t.taken;
    sound = t.sound;
    none_failed = t.none_failed;
    none_refused = t.none_refused;
    counted = t.counted;
    stays = t.stays;
    happens = record {
      reply = h.reply;
      refusal = h.refusal;
      allowed = let k = h.allowed in record {
        here = born_at old.limits _ _ c x earlier lines t.bytes [] h.reply h.refusal script e t.text (sym t.left) k;
        lines = λ unended. subst (λ (z : Spelled). script_lines (Ok (Some z)) ≤ line_feeds t.bytes) (sym e) (t.whole unended);
        before = λ unended more. born_at old.limits _ _ c x earlier lines (t.bytes ++ more) more h.reply h.refusal script e (t.before unended more).0 (t.before unended more).1 k;
      };
      tells = tells_both contents (tells_given contents t.gives uncut stays_open) h.tells;
      refused = h.refused;
      limits = h.limits;
    };
  }

  -- the same of a script that is held, where what comes of it has other names
  pub does_held : {old new now : Engine} {far : Lines R} {then : Outlet W} {found : Result (Option (String Global)) LineFault} (c : Spelled) (x : List ℕ) (earlier : List (List ℕ)) (lines : ℕ) → c ≡ commands.birth x earlier lines
      → is_cut sink ≡ false → now ≡ new → far ≡ later → then ≡ after → TakesHeld remaining contents lines source later sink mid found
      → ((script : Result (List ℕ) LineFault) → IsScript found script → Happens contents old new mid after (λ b r s d. AnswersBirth b x earlier script r s d))
      → Does remaining contents old now source far sink then (Ok (Some c))
  does_held {old = old} {new = new} {far = far} {then = then} c x earlier lines e uncut same same_source same_sink t h =
      subst (λ (z : Engine). Does remaining contents old z source far sink then (Ok (Some c))) (sym same)
      (subst (λ (z : Lines R). Does remaining contents old new source z sink then (Ok (Some c))) (sym same_source)
      (subst (λ (z : Outlet W). Does remaining contents old new source later sink z (Ok (Some c))) (sym same_sink)
      (does_born c x earlier lines t.script e uncut t.uncut t.takes (h t.script t.is))))
