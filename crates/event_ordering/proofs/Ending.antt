-- How a turn ends does to fences what its acts say.
use Rattle.std.proofs.Common.{◌≡◌, Bool, true, false, ◌&&◌, not, List, [], Some, None, cond, refl, sym, ap, ◌∙◌, subst}
use Rattle.ids.specs.declared.names.EventName.{EventName}
use Rattle.ids.specs.declared.names.VatNo.{VatNo}
use Rattle.ids.specs.declared.names.MsgId.{MsgId}
use Rattle.ids.specs.declared.names.PromId.{PromId}
use Rattle.ids.specs.declared.reference.Reference.{Reference}
use Rattle.eorder.specs.Acts.{Act, Fences}
use Rattle.eorder.specs.Fences.{member}
use Rattle.eorder.specs.Places.{Carrier, published, same_carrier}
use Rattle.eorder.specs.Worlds.{after_acts}
use Rattle.eorder.proofs.Worlds.{after_append}
use Rattle.values.specs.Data.{Reply, gives, throws, broken}
use Rattle.heap.specs.State.{State}
use Rattle.post.specs.Messages as post
use Rattle.sends.specs.Vats.{settled, names_for}
use Rattle.sends.specs.Making.{Published, told as told_value, ending}
use Rattle.eval_rules.specs.At.{At}
use Rattle.eval_rules.specs.Doings.{given_by, behind, under, published_out}
use Rattle.eval_rules.specs.Outcomes.{reason, End, value, halt}
use Rattle.eval_rules.specs.Outbox.{Outbox, empty_outbox, and_publication}
use Rattle.turn_deliveries.specs.Turn.{Told, told, lost, telling, telling_at, commented, ending_at, outcome_by, delivers}
use Rattle.event_ordering.specs.Acts.{kept_acts, begun_acts}
use Rattle.event_ordering.specs.Acting.{published_acts}
use Rattle.event_ordering.specs.Laws.{IsSentBy, DoneBy, DeliveriesAct, LearningActs}
use Rattle.event_ordering.specs.Reading.{fences_in, publication_fences, NoneDone, reading, afters, turn_fences}
use Rattle.event_ordering.proofs.Effects.{settled_still, publishing_makes}
use Rattle.event_ordering.proofs.Acted.{all_append, Acts, QuietAt, fences_at, same, behind_quiet, quiet_behind, publication_acts}
use Rattle.event_ordering.proofs.Coming.{begun_act, learning_act}

commented_letters : (r : Reply) (out : Outbox) → (commented r out).letters ≡ out.letters
commented_letters (gives v) out = refl
commented_letters (throws problem) out = refl

commented_publications : (r : Reply) (out : Outbox) → (commented r out).publications ≡ out.publications
commented_publications (gives v) out = refl
commented_publications (throws problem) out = refl

-- nothing travels in what says that a turn was abandoned
nothing_travels : (q : Bool) (b : post.Published) (r : Reference) (m : MsgId) → b.fences ≡ [] → member (names_for (publication_fences (cond q (Some b) None)) r) m ≡ false
nothing_travels true b r m h = ap (λ c. member (names_for c r) m) h
nothing_travels false b r m h = refl

module _ (base : Fences) (v : VatNo) (before : PromId → Bool) (e : EventName) (s : State) where
  telling_quiet : (o : End) (b : At) → QuietAt base v before e b (telling_at o b)
  telling_quiet (value w) b = behind_quiet base v before e (settled w) b (settled_still w)
  telling_quiet (halt h) b = same base v before e

  ended_act : (p : PromId) (t : Told) (b : At) (acts : List Act) → Acts base v before e (turn_fences base v before e s empty_outbox) acts (fences_at base v before e b) b.event b.out.letters
      → DoneBy base before e v s (kept_acts before p t b acts) (outcome_by s p t (ending_at p t b)).state (outcome_by s p t (ending_at p t b)).out
  ended_act p (told r) b acts a =
      let x : Published = given_by (ending p r) b in
      let ys : List Act = published_acts before p x b.out in
      let q = publication_acts base v before e p x b.state (behind (ending p r) b).state b.out (published_out p x (commented r b.out)) (publishing_makes p (told_value r) (under b)) (commented_letters r b.out)
      (ap (and_publication p (record { value = x.value; fences = x.fences })) (commented_publications r b.out)) in
      record {
        fences = q.0 ∙ ap (after_acts v ys) a.fences ∙ sym (after_append v ys acts (turn_fences base v before e s empty_outbox));
        sends = all_append (IsSentBy e) ys acts q.1 a.sends;
        undone = subst NoneDone (sym (commented_letters r b.out)) a.undone;
      }
  ended_act p (lost why) b acts a = record {
    fences = λ i. reading base v (fences_in s) (afters e []) (λ (c : Carrier) (r : Reference) (m : MsgId). nothing_travels (same_carrier (published p) c && not (before p)) (record { value = broken (reason why); fences = [] }) r m refl i);
    sends = tt;
    undone = record { each = tt };
  }

pub deliveries_act : DeliveriesAct
deliveries_act base before m p g f e v s n _ (delivers {o = o} {b = b} r) h =
    ended_act base v before e s g.result (telling o b) (telling_at o b) (begun_acts before m p r)
    (quiet_behind base v before e {ks = []} (λ i d. begun_act base before m p r h) (telling_quiet base v before e s o b) refl (record { each = tt }))

pub learning_acts_do : LearningActs
learning_acts_do base before e v s p b h = learning_act base before e v s p b h
