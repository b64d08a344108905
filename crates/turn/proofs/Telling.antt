-- What a turn leaves that told something, from what was done to its draft.
use Rattle.std.proofs.Common.{◌≡◌, Option, codes, is_some, sym, ap, subst, ◌∙◌}
use Rattle.ids.specs.declared.names.PromId.{PromId}
use Rattle.ids.specs.declared.names.EjId.{EjId}
use Rattle.kernele.specs.Tree.{Name}
use Rattle.values.specs.Data.{Val, Reply, throws}
use Rattle.values.specs.declared.value.Value.{Value}
use Rattle.heap.specs.Drafted.{Drafted}
use Rattle.heap.specs.Drafts.{began_with, touched_of, writes_of}
use Rattle.heap.specs.Found.{Found as FoundCells, touched_in, writes_in}
use Rattle.heap.proofs.Drafting.{draft_as_written}
use Rattle.sends.specs.Vats.{settled}
use Rattle.sends.specs.Making.{Published, ending}
use Rattle.sends.specs.Playing.{Did, IsSameTurn}
use Rattle.eval_messages.proofs.Behind.{with_draft, did_give, did_leave}
use Rattle.eval_rules.specs.At.{At}
use Rattle.eval_rules.specs.Doings.{behind, given_by, published_out}
use Rattle.eval_rules.specs.Outcomes.{Cause, value, halt}
use Rattle.eval_rules.specs.OutboxView.{outbox_of}
use Rattle.eval_rules.specs.View.{at, cause_of, halt_of}
use Rattle.eval_rules.specs.declared.end.Abandon.{Abandon}
use Rattle.eval_rules.specs.declared.end.Halt as code
use Rattle.eval_rules.specs.declared.end.Halt.TheVariants as code-halt
use Rattle.eval_rules.specs.declared.working.Working.{Working}
use Rattle.turn_deliveries.specs.Outcomes.{told_of}
use Rattle.turn_deliveries.specs.Turn.{told, lost, commented, lost_outbox, settled_reply}
use Rattle.turn_deliveries.specs.declared.outcome.Outcome.{Outcome}
use Rattle.turn.specs.Runs.{Leaves, RunsTo}

-- a reply was told, and published
pub tells : (w : Working) (e : Drafted) (x : Outcome) (p : PromId) (r : Reply) (b : Published) → Did (ending p r) w.draft b e → IsSameTurn w.draft e
    → touched_in x.footprint ≡ touched_of e → writes_in x.footprint ≡ writes_of e → FoundCells x.footprint (began_with e)
    → told_of x.ended ≡ told r → x.steps ≡ w.steps → outbox_of x.out ≡ published_out p b (commented r (outbox_of w.out)) → Leaves x p (told r) (at w)
tells w e x p r b did same touched written found is steps out =
    let place : with_draft e (at w) ≡ behind (ending p r) (at w) = did_leave (ending p r) (at w) w.draft e b did same in
    let given : given_by (ending p r) (at w) ≡ b = did_give (ending p r) (at w) w.draft e b did in
    record {
      touched = touched ∙ ap (λ (z : At). z.touched) place;
      written = (λ i c. is_some (written i c)) ∙ ap (λ (z : At). z.written) place;
      holds = λ c y h. ap (λ (z : At). z.state c) (sym place) ∙ draft_as_written e c y (sym (λ i. written i c) ∙ h);
      found = subst (FoundCells x.footprint) same.began found;
      told = is;
      left = steps;
      out = out ∙ ap (λ b. published_out p b (commented r (outbox_of w.out))) (sym given);
    }

-- the turn was abandoned
pub loses : (w : Working) (x : Outcome) (p : PromId) (why : Cause) → touched_in x.footprint ≡ touched_of w.draft → writes_in x.footprint ≡ writes_of w.draft → FoundCells x.footprint (began_with w.draft)
    → told_of x.ended ≡ lost why → x.steps ≡ w.steps → outbox_of x.out ≡ lost_outbox p why → Leaves x p (lost why) (at w)
loses w x p why touched written found is steps out = record {
  touched = touched;
  written = λ i c. is_some (written i c);
  holds = λ c y h. draft_as_written w.draft c y (sym (λ i. written i c) ∙ h);
  found = found;
  told = is;
  left = steps;
  out = out;
}

-- a value was settled, and that was told
pub settles : (w : Working) (e : Drafted) (x : Outcome) (p : PromId) (v : Val) (form : Option Val) (r : Reply) → Did (settled v) w.draft form e → IsSameTurn w.draft e → r ≡ settled_reply form
    → Leaves x p (told r) (with_draft e (at w)) → RunsTo x p (value v) (at w)
settles w e x p v form r did same is h =
    let place : with_draft e (at w) ≡ behind (settled v) (at w) = did_leave (settled v) (at w) w.draft e form did same in
    let given : given_by (settled v) (at w) ≡ form = did_give (settled v) (at w) w.draft e form did in
    subst (λ b. Leaves x p (told (settled_reply (given_by (settled v) (at w)))) b) place
    (subst (λ r. Leaves x p (told r) (with_draft e (at w))) (is ∙ ap settled_reply (sym given)) h)

-- why a turn was halted, and what it told then
pub throws_told : (h : code.Halt) (x : Outcome) (p : PromId) (b : At) {problem words : Name} → h ≡ code-halt.Thrown problem → words ≡ problem → Leaves x p (told (throws words)) b → RunsTo x p (halt (halt_of h)) b
throws_told h x p b is e leaves = subst (λ h. RunsTo x p (halt (halt_of h)) b) (sym is) (subst (λ words. Leaves x p (told (throws words)) b) e leaves)

pub ejects_told : (h : code.Halt) (x : Outcome) (p : PromId) (b : At) {j : EjId} {v : Value} {words : Name} → h ≡ code-halt.Ejected j v → words ≡ codes "ejector is spent" → Leaves x p (told (throws words)) b → RunsTo x p (halt (halt_of h)) b
ejects_told h x p b is e leaves = subst (λ h. RunsTo x p (halt (halt_of h)) b) (sym is) (subst (λ words. Leaves x p (told (throws words)) b) e leaves)

pub abandons_told : (h : code.Halt) (x : Outcome) (p : PromId) (b : At) {why : Abandon} → h ≡ code-halt.Abandoned why → Leaves x p (lost (cause_of why)) b → RunsTo x p (halt (halt_of h)) b
abandons_told h x p b is leaves = subst (λ h. RunsTo x p (halt (halt_of h)) b) (sym is) leaves
