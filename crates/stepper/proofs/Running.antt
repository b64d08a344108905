-- Steps, one after another.
use Rattle.std.proofs.Common.{◌≡◌, ◌<◌, ◌-◌, ℕ, zero, suc, Option, List, [], ◌++◌, Some, None, true, false, ◌||◌, not, refl, sym, ap, ◌∙◌, subst, append_assoc, append-nil, arith}
use Rattle.std.specs.Prelude.{Bool, codes}
use Rattle.book.specs.Books.{Book}
use Rattle.book.specs.BookView.{book_of}
use Rattle.book_agenda.specs.declared.agenda.Step.{Step}
use Rattle.stepper_commands.specs.Commands as commands
use Rattle.kernele_scopes.specs.Words.{no_memory}
use Rattle.stepper_streams.specs.Outlet.{is_cut, Tells}
use Rattle.stepper_streams.specs.declared.outlet.Outlet.{Outlet}
use Rattle.stepper_streams.proofs.Giving.{tells_both, tells_as, tells_none, tells_more, was_open}
use Rattle.stepper.specs.declared.engine.Engine.{Engine}
use Rattle.stepper.specs.declared.reply.Written.{Written}
use Rattle.stepper.specs.Engine.{Happens, Moved}
use Rattle.stepper.specs.Written.{Adds}
use Rattle.stepper.specs.Replies.{refused, idle_text, Moves, FirstIn, Steps, step_done, step_refused, step_idle, step_without_memory, Runs, runs_out, runs_on, runs_last, Answers, runs}
use Rattle.stepper.proofs.Answered.{or_false, or_or}
use Rattle.stepper.specs.declared.engine.Limits.{Limits}

-- the first that may be done was done, or was refused
pub step_by : {limits : Limits} {b d : Book} {s : Step} {reply : List ℕ} {r : Bool} (more : Bool) → FirstIn b (Some s) → r ≡ not more → Moves limits b s reply r d → Steps limits b reply r d more
step_by {limits = limits} {b = b} {d = d} {s = s} {reply = reply} true first e h =
    subst (λ q. Steps limits b reply q d true) (sym e) (step_done first (subst (λ q. Moves limits b s reply q d) e h))
step_by {limits = limits} {b = b} {d = d} {s = s} {reply = reply} false first e h =
    subst (λ q. Steps limits b reply q d false) (sym e) (step_refused first (subst (λ q. Moves limits b s reply q d) e h))

module _ {W : Type 0} (contents : W → Option (List ℕ)) where
  -- what was replied to the steps so far, of which so many are left, stands before what may be replied to those
  pub record SoFar (most left : ℕ) (first now : Engine) (sink then : Outlet W) : Type 0 where
    pub reply : List ℕ
    pub refusal : Bool
    pub tells : Tells contents sink then reply
    pub uncut : is_cut sink ≡ false → is_cut then ≡ false
    pub refused : now.written.refused ≡ (first.written.refused || refusal)
    pub limits : now.limits ≡ first.limits
    pub more : (replies : List ℕ) (r : Bool) (d : Book) → Runs first.limits left (book_of now.book) replies r d → Runs first.limits most (book_of first.book) (reply ++ replies) (refusal || r) d

  -- before the first step
  pub none_so_far : (most : ℕ) (e : Engine) (sink : Outlet W) → SoFar most most e e sink sink
  none_so_far most e sink = record {
    reply = [];
    refusal = false;
    tells = tells_none contents sink;
    uncut = λ stays. stays;
    refused = or_false e.written.refused;
    limits = refl;
    more = λ replies r d h. h;
  }

-- a step from an engine of the same limits
along : {n m : Limits} {b d : Book} {reply : List ℕ} {r more : Bool} → n ≡ m → Steps n b reply r d more → Steps m b reply r d more
along {b = b} {d = d} {reply = reply} {r = r} {more = more} e h = subst (λ k. Steps k b reply r d more) e h

-- whether another step may follow, in other words
pub as_more : {W : Type 0} (contents : W → Option (List ℕ)) {old new : Engine} {sink after : Outlet W} {m n : Bool} → m ≡ n → Happens contents old new sink after (λ b r s d. Steps old.limits b r s d m)
    → Happens contents old new sink after (λ b r s d. Steps old.limits b r s d n)
as_more contents {old = old} {new = new} {sink = sink} {after = after} e h = subst (λ k. Happens contents old new sink after (λ b r s d. Steps old.limits b r s d k)) e h

one_less : (left : ℕ) → 0 < left → suc (left - 1) ≡ left
one_less left h = omega arith

longer : {limits : Limits} {most : ℕ} {b d : Book} (one two three : List ℕ) (q r s : Bool) → Runs limits most b (one ++ (two ++ three)) (q || (r || s)) d → Runs limits most b ((one ++ two) ++ three) ((q || r) || s) d
longer {limits = limits} {most = most} {b = b} {d = d} one two three q r s h =
    subst (λ (t : List ℕ). Runs limits most b t ((q || r) || s) d) (sym (append_assoc one two three))
    (subst (λ (z : Bool). Runs limits most b (one ++ (two ++ three)) z d) (or_or q r s) h)

module _ {W : Type 0} (contents : W → Option (List ℕ)) (most left : ℕ) (first mid now : Engine) (sink then after : Outlet W) (l : 0 < left) (f : SoFar contents most left first mid sink then) where
  behind : (h : Happens contents mid now then after (λ b r s d. Steps mid.limits b r s d true)) (replies : List ℕ) (r : Bool) (d : Book) → Runs first.limits (left - 1) (book_of now.book) replies r d
      → Runs first.limits most (book_of first.book) ((f.reply ++ h.reply) ++ replies) ((f.refusal || h.refusal) || r) d
  behind h replies r d k = longer f.reply h.reply replies f.refusal h.refusal r
      (f.more (h.reply ++ replies) (h.refusal || r) d
      (subst (λ n. Runs first.limits n (book_of mid.book) (h.reply ++ replies) (h.refusal || r) d) (one_less left l) (runs_on (along f.limits h.allowed) k)))

  -- one step more, behind which another may follow, and what was told of it is sent
  pub one_more : (sent : Outlet W) → Happens contents mid now then after (λ b r s d. Steps mid.limits b r s d true) → Tells contents after sent [] → is_cut sent ≡ false → SoFar contents most (left - 1) first now sink sent
  one_more sent h t uncut =
      let all : Tells contents then sent h.reply = tells_as contents (append-nil h.reply) (tells_both contents h.tells t) in
      let before : is_cut after ≡ false = was_open contents t uncut in
      record {
        reply = f.reply ++ h.reply;
        refusal = f.refusal || h.refusal;
        tells = tells_both contents f.tells all;
        uncut = λ stays. uncut;
        refused = h.refused before ∙ ap (λ s. s || h.refusal) f.refused ∙ sym (or_or first.written.refused f.refusal h.refusal);
        limits = h.limits ∙ f.limits;
        more = behind h;
      }

  all_told : (sent : Outlet W) (h : Happens contents mid now then after (λ b r s d. Steps mid.limits b r s d true)) → Tells contents after sent [] → Tells contents sink sent (f.reply ++ h.reply)
  all_told sent h t = tells_both contents f.tells (tells_as contents (append-nil h.reply) (tells_both contents h.tells t))

  cut_by : (sent : Outlet W) (h : Happens contents mid now then after (λ b r s d. Steps mid.limits b r s d true)) → Tells contents after sent [] → is_cut sent ≡ true → (n : ℕ) → left - 1 ≡ n
      → Happens contents first now sink sent (λ b r s d. Answers first.limits b (commands.run most) r s d)
  cut_by sent h t cut zero e = record {
    reply = (f.reply ++ h.reply) ++ [];
    refusal = (f.refusal || h.refusal) || false;
    allowed = runs (behind h [] false (book_of now.book) (subst (λ n. Runs first.limits n (book_of now.book) [] false (book_of now.book)) (sym e) runs_out));
    tells = tells_more contents sink sent (f.reply ++ h.reply) [] (all_told sent h t) cut;
    refused = λ uncut. absurd (cc);
    limits = h.limits ∙ f.limits;
  }
  cut_by sent h t cut (suc n) e = record {
    reply = (f.reply ++ h.reply) ++ refused no_memory;
    refusal = (f.refusal || h.refusal) || true;
    allowed = runs (behind h (refused no_memory) true (book_of now.book)
        (subst (λ m. Runs first.limits m (book_of now.book) (refused no_memory) true (book_of now.book)) (sym e) (runs_last step_without_memory)));
    tells = tells_more contents sink sent (f.reply ++ h.reply) (refused no_memory) (all_told sent h t) cut;
    refused = λ uncut. absurd (cc);
    limits = h.limits ∙ f.limits;
  }

  -- what was told of a step cannot be sent: the steps that are left may be refused for want of memory
  pub cut_step : (sent : Outlet W) → Happens contents mid now then after (λ b r s d. Steps mid.limits b r s d true) → Tells contents after sent [] → is_cut sent ≡ true
      → Happens contents first now sink sent (λ b r s d. Answers first.limits b (commands.run most) r s d)
  cut_step sent h t cut = cut_by sent h t cut (left - 1) refl

  -- the last step
  pub last_step : Happens contents mid now then after (λ b r s d. Steps mid.limits b r s d false) → Happens contents first now sink after (λ b r s d. Answers first.limits b (commands.run most) r s d)
  last_step h = record {
    reply = f.reply ++ h.reply;
    refusal = f.refusal || h.refusal;
    allowed = runs (f.more h.reply h.refusal (book_of now.book)
        (subst (λ n. Runs first.limits n (book_of mid.book) h.reply h.refusal (book_of now.book)) (one_less left l) (runs_last (along f.limits h.allowed))));
    tells = tells_both contents f.tells h.tells;
    refused = λ uncut. h.refused uncut ∙ ap (λ s. s || h.refusal) f.refused ∙ sym (or_or first.written.refused f.refusal h.refusal);
    limits = h.limits ∙ f.limits;
  }

-- no step is left
pub all_steps : {W : Type 0} (contents : W → Option (List ℕ)) (most : ℕ) (first now : Engine) (sink then : Outlet W) → SoFar contents most 0 first now sink then
    → Happens contents first now sink then (λ b r s d. Answers first.limits b (commands.run most) r s d)
all_steps contents most first now sink then f =
    let run = f.more [] false (book_of now.book) runs_out in
    let run_so : Runs first.limits most (book_of first.book) f.reply f.refusal (book_of now.book) =
    subst (λ (t : List ℕ). Runs first.limits most (book_of first.book) t f.refusal (book_of now.book)) (append-nil f.reply)
    (subst (λ (z : Bool). Runs first.limits most (book_of first.book) (f.reply ++ []) z (book_of now.book)) (sym (or_false f.refusal)) run) in
    record { reply = f.reply; refusal = f.refusal; allowed = runs run_so; tells = f.tells; refused = λ uncut. f.refused; limits = f.limits }

module _ {W : Type 0} (contents : W → Option (List ℕ)) where
  -- the first that may be done was tried, by an engine that had looked for it
  pub tried : {old mid new : Engine} {sink after : Outlet W} {s : Step} {more : Bool} → book_of mid.book ≡ book_of old.book → mid.written ≡ old.written → mid.limits ≡ old.limits → FirstIn (book_of old.book) (Some s)
      → Moved contents mid new sink after s more → Happens contents old new sink after (λ b r q d. Steps old.limits b r q d more)
  tried {old = old} {mid = mid} {new = new} {s = s} {more = more} same written limits first h = record {
    reply = h.reply;
    refusal = h.refusal;
    allowed = step_by more first h.allowed.0
        (subst (λ n. Moves n (book_of old.book) s h.reply h.refusal (book_of new.book)) limits
        (subst (λ b. Moves mid.limits b s h.reply h.refusal (book_of new.book)) same h.allowed.1));
    tells = h.tells;
    refused = λ uncut. h.refused uncut ∙ ap (λ (w : Written). w.refused || h.refusal) written;
    limits = h.limits ∙ limits;
  }

  -- nothing may be done
  pub found_none : {old new : Engine} {sink after : Outlet W} → book_of new.book ≡ book_of old.book → new.written ≡ old.written → new.limits ≡ old.limits → FirstIn (book_of old.book) None
      → Tells contents sink after idle_text → Happens contents old new sink after (λ b r q d. Steps old.limits b r q d false)
  found_none {old = old} same written limits first t = record {
    reply = idle_text;
    refusal = false;
    allowed = subst (λ d. Steps old.limits (book_of old.book) idle_text false d false) (sym same) (step_idle first);
    tells = t;
    refused = λ uncut. ap (λ (w : Written). w.refused) written ∙ or_false old.written.refused;
    limits = limits;
  }

  -- without memory it is not known what may be done
  pub not_looked : {old new : Engine} {sink after : Outlet W} → book_of new.book ≡ book_of old.book → new.limits ≡ old.limits
      → Adds contents old.written new.written sink after (refused (codes "B20 Memory")) true → Happens contents old new sink after (λ b r q d. Steps old.limits b r q d false)
  not_looked {old = old} same limits a = record {
    reply = refused (codes "B20 Memory");
    refusal = true;
    allowed = subst (λ d. Steps old.limits (book_of old.book) (refused (codes "B20 Memory")) true d false) (sym same) step_without_memory;
    tells = a.tells;
    refused = λ uncut. a.refused;
    limits = limits;
  }
