-- What was made goes into the outbox.
use Rattle.std.proofs.Common.{◌≡◌, ◌∷◌, [], Option, Some, None, length, refl, sym, ap, ◌∙◌, subst}
use Rattle.std.specs.Prelude.{option_map}
use Rattle.ids.specs.declared.names.VatNo.{VatNo}
use Rattle.ids.specs.declared.names.MsgId.{MsgId}
use Rattle.ids.specs.declared.names.PromId.{PromId}
use Rattle.kernele.specs.Tree.{Name}
use Rattle.heap.specs.Drafted.{Drafted}
use Rattle.heap.specs.Drafts.{Counts}
use Rattle.post.specs.Delivery.{When}
use Rattle.post.specs.Messages.{Message}
use Rattle.sends.specs.Vats.{Vat}
use Rattle.sends.specs.Making.{Making, makes, refused, Refusal, Sent}
use Rattle.sends.specs.Playing.{Did, IsSameTurn}
use Rattle.eval_rules.specs.At.{At}
use Rattle.eval_rules.specs.Outbox.{sent_note, waits_note}
use Rattle.eval_rules.specs.Outcomes.{End}
use Rattle.eval_rules.specs.Answered.{OnStop}
use Rattle.eval_rules.specs.Doings.{posted, noted, next_message, next_promise, call_message, when_message, send_out, wait_out, refusal_end}
use Rattle.eval_rules.specs.declared.end.Stop.{Stop}
use Rattle.eval_rules.specs.declared.working.Working.{Working}
use Rattle.eval_rules.specs.Outcomes.{halt}
use Rattle.eval_rules.proofs.Answering.{stop_to}
use Rattle.eval_messages.proofs.Behind.{with_draft}

-- the same was done, said otherwise
pub did_as : {R : Type 0} (f g : Vat R) (d e : Drafted) (r : R) → f ≡ g → Did f d r e → Did g d r e
did_as {R = R} f g d e r p h = subst (λ (x : Vat R). Did x d r e) p h

-- a message is still the next one of a turn that stays the same
pub still_next : (a : At) (d e : Drafted) → IsSameTurn d e → next_message (with_draft d a) ≡ next_message (with_draft e a)
still_next a d e turn = ap (λ (n : Counts). record { event = n.event; index = length a.out.letters }) (sym turn.counts)

-- a call was posted
pub call_posted : (a z : At) (verb : Name) (s : Sent) (here : VatNo) (m : MsgId) (g : Message) → here ≡ a.vat → m ≡ next_message a → g ≡ call_message here verb s → z ≡ record a { out = noted (sent_note m ∷ []) (posted m g a.out) }
    → z ≡ send_out verb (makes s) a
call_posted a z verb s here m g h n is put =
    let whole : g ≡ call_message a.vat verb s = is ∙ ap (λ here. call_message here verb s) h in
    put ∙ (λ i. record a { out = noted (sent_note (n i) ∷ []) (posted (n i) (whole i) a.out) })

-- a when was posted
pub when_posted : (a z : At) (w : When) (c p : PromId) (here : VatNo) (m : MsgId) (g : Message) → here ≡ a.vat → m ≡ next_message a → p ≡ next_promise a a.vat → g ≡ when_message here p w
    → z ≡ record a { out = noted (waits_note c m ∷ []) (posted m g a.out) } → z ≡ wait_out w (makes c) a
when_posted a z w c p here m g h n q is put =
    let whole : g ≡ when_message a.vat (next_promise a a.vat) w = is ∙ (λ i. when_message (h i) (q i) w) in
    put ∙ (λ i. record a { out = noted (waits_note c (n i) ∷ []) (posted (n i) (whole i) a.out) })

-- nothing was made, and nothing posted
pub nothing_made : {R : Type 0} (s : Stop) (u : Working) (why : Refusal) (m : Making R) (end : Making R → End) (out : Making R → At → At) (z b : At) → m ≡ refused why → end (refused why) ≡ refusal_end why → out (refused why) b ≡ b → z ≡ b
    → OnStop s u (λ h c. (halt h ≡ refusal_end why) × (c ≡ z)) → OnStop s u (λ h c. (halt h ≡ end m) × (c ≡ out m b))
nothing_made s u why m end out z b is e o leave h =
    stop_to s u (refusal_end why) (end m) z (out m b) (sym e ∙ ap end (sym is)) (leave ∙ sym o ∙ ap (λ m. out m b) (sym is)) h

pub unmapped : {A B : Type 0} (f : A → B) (o : Option A) → None ≡ option_map f o → o ≡ None
unmapped f None h = refl
unmapped f (Some x) h = absurd (cc)
