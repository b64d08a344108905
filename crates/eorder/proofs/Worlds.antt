-- Runs of worlds meet the premises of the theorems.
use Rattle.std.proofs.Common.{◌≡◌, Bool, true, false, ◌||◌, List, [], ◌∷◌, ◌++◌, inl, inr, ⊎_elim, refl, sym, ap, subst, ◌∙◌}
use Rattle.std.specs.List.{AllByRecursion}
use Rattle.eorder.specs.Places.{Carrier, Place, sent_after, same_message}
use Rattle.eorder.specs.Acts.{Act, sent, left, came, joined, Entry, did, turned, Fences, Start, applied, fences, Covered}
use Rattle.eorder.specs.Order.{Done, awaited, Allows, Allowed, sent_behind, first}
use Rattle.eorder.specs.Deeds.{Deed, turn, learn, acted, onto}
use Rattle.eorder.specs.Worlds.{Worlds, seen, after_acts, SendsNew, TurnLaw, Kept, DeedLaw, StepLaw, Ran, deeds_of, history}
use Rattle.eorder.specs.Theorems.{CellsCover, EventsKeepOrder, RunsStaySettled}
use Rattle.ids.proofs.Keys.{message_self}
use Rattle.eorder.proofs.Places.{either_true, message_equal}
use Rattle.eorder.proofs.Covering.{covers, only_behind}
use Rattle.eorder.proofs.Keeping.{keeps, precedes_done}
use Rattle.eorder.proofs.Deeds.{done_acted, deeds_keep}
use Rattle.ids.specs.declared.names.VatNo.{VatNo}
use Rattle.ids.specs.declared.names.MsgId.{MsgId}
use Rattle.ids.specs.declared.reference.Reference.{Reference}

pub after_append : (v : VatNo) (ys xs : List Act) (f : Fences) → after_acts v (ys ++ xs) f ≡ after_acts v ys (after_acts v xs f)
after_append v [] xs f = refl
after_append v (y ∷ ys) xs f = ap (applied (did v y)) (after_append v ys xs f)

fences_acted : (s : Start) (v : VatNo) (acts : List Act) (es : List Entry) → fences s (acted v acts es) ≡ after_acts v acts (fences s es)
fences_acted s v [] es = refl
fences_acted s v (a ∷ acts) es = ap (applied (did v a)) (fences_acted s v acts es)

allowed_act : (s : Start) (done : MsgId → Bool) (v : VatNo) (a : Act) (es : List Entry) → ((m : MsgId) → Done s es m → done m ≡ true) → SendsNew done a → Allows s (did v a) es
allowed_act s done v (sent m t) es f q = λ d. let e = f m d in cc
allowed_act s done v (left r c) es f q = tt
allowed_act s done v (came r c t) es f q = tt
allowed_act s done v (joined p t) es f q = tt

allowed_acted : (s : Start) (done : MsgId → Bool) (v : VatNo) (acts : List Act) (es : List Entry) → ((m : MsgId) → Done s es m → done m ≡ true) → AllByRecursion (SendsNew done) acts → Allowed s es → Allowed s (acted v acts es)
allowed_acted s done v [] es f q p = p
allowed_acted s done v (a ∷ acts) es f q p = (allowed_act s done v a (acted v acts es) (λ m d. f m (subst (λ A. A) (done_acted s v acts es m) d)) q.0, allowed_acted s done v acts es f q.1 p)

-- The world is what the history left, and the history was allowed
pub record Follows (t : Worlds) (s : Start) (es : List Entry) (w : t.World) : Type 0 where
  pub cells : fences s es ≡ t.read w
  pub done : (m : MsgId) → Done s es m → t.is_done w m ≡ true
  pub only : (m : MsgId) → t.is_done w m ≡ true → Done s es m
  pub allowed : Allowed s es

all_append : {A : Type 0} (P : A → Type 0) (xs ys : List A) → AllByRecursion P xs → AllByRecursion P ys → AllByRecursion P (xs ++ ys)
all_append P [] ys h g = g
all_append P (x ∷ xs) ys h g = (h.0, all_append P xs ys h.1 g)

module _ (t : Worlds) (p : VatNo) where
  -- an evaluation begins with no acts
  pub kept_none : (s : t.World) → Kept t p s s []
  kept_none s = record { cells = λ k b. refl; done = λ b. refl; sends = tt }

  -- and with each cell that it writes it does acts, mostly one
  pub kept_acts : (s w v : t.World) (acts xs : List Act) → Kept t p s w acts → ((k : Place) (b : MsgId) → t.read v k b ≡ after_acts p xs (t.read w) k b) → ((b : MsgId) → t.is_done v b ≡ t.is_done w b) → AllByRecursion (SendsNew (t.is_done w)) xs → Kept t p s v (xs ++ acts)
  kept_acts s w v acts xs a c d q =
      record {
        cells = λ k b. c k b ∙ ap (λ f. f k b) (ap (after_acts p xs) (λ i k b. a.cells k b i) ∙ sym (after_append p xs acts (t.read s)));
        done = λ b. d b ∙ a.done b;
        sends = all_append (SendsNew (t.is_done s)) xs acts (subst (λ f. AllByRecursion (SendsNew f) xs) (λ i b. a.done b i) q) a.sends;
      }

  pub sends_after : (s w : t.World) (acts : List Act) → Kept t p s w acts → AllByRecursion (SendsNew (t.is_done w)) acts
  sends_after s w acts a = subst (λ f. AllByRecursion (SendsNew f) acts) (sym (λ i b. a.done b i)) a.sends

  -- a turn that marks its message as done, and then evaluates
  pub turn_of_kept : (w u v : t.World) (m : MsgId) (walk : List (Carrier × Reference)) (acts : List Act) → t.is_done w m ≡ false → AllByRecursion (λ k. (b : MsgId) → t.read w k b ≡ true → t.is_done w b ≡ true) (awaited m walk) → ((k : Place) (b : MsgId) → t.read u k b ≡ t.read w k b) → ((b : MsgId) → t.is_done u b ≡ (same_message m b || t.is_done w b)) → Kept t p u v acts → TurnLaw t w v p m walk acts
  turn_of_kept w u v m walk acts new ready c d a =
      record {
        new = new;
        ready = ready;
        cells = λ k b. a.cells k b ∙ ap (λ f. after_acts p acts f k b) (λ i k b. c k b i);
        done = λ b. a.done b ∙ d b;
        sends = sends_after u v acts a;
      }

or_second : (x y : Bool) → y ≡ true → (x || y) ≡ true
or_second true y h = refl
or_second false y h = h

module _ (t : Worlds) (s : Start) where
  -- acts follow acts
  follow_acts : (v : VatNo) (acts : List Act) (es : List Entry) (w : t.World) → fences s (acted v acts es) ≡ t.read w → ((m : MsgId) → Done s es m → t.is_done w m ≡ true) → ((m : MsgId) → t.is_done w m ≡ true → Done s es m) → AllByRecursion (SendsNew (t.is_done w)) acts → Allowed s es → Follows t s (acted v acts es) w
  follow_acts v acts es w c f g q p =
      record {
        cells = c;
        done = λ m d. f m (subst (λ A. A) (done_acted s v acts es m) d);
        only = λ m d. subst (λ A. A) (sym (done_acted s v acts es m)) (g m d);
        allowed = allowed_acted s (t.is_done w) v acts es f q p;
      }

  all_done : (es : List Entry) (w : t.World) (ks : List Place) → Follows t s es w → AllByRecursion (λ k. (b : MsgId) → t.read w k b ≡ true → t.is_done w b ≡ true) ks → AllByRecursion (λ k. (b : MsgId) → fences s es k b ≡ true → Done s es b) ks
  all_done es w [] a h = tt
  all_done es w (k ∷ ks) a h = (λ b q. a.only b (h.0 b (subst (λ f. f k b ≡ true) a.cells q)), all_done es w ks a h.1)

  follow : (es : List Entry) (w v : t.World) (d : Deed) → Follows t s es w → DeedLaw t w v d → Follows t s (onto d es) v
  follow es w v (turn p m walk acts) a h =
      follow_acts p acts (turned m walk ∷ es) v
      (fences_acted s p acts (turned m walk ∷ es) ∙ ap (after_acts p acts) a.cells ∙ sym (λ i k b. h.cells k b i))
      (λ b. ⊎_elim (λ e. h.done b ∙ ap (λ x. x || t.is_done w b) (subst (λ x. same_message m x ≡ true) e (message_self m))) (λ d. h.done b ∙ or_second (same_message m b) (t.is_done w b) (a.done b d)))
      (λ b d. ⊎_elim (λ e. inl (message_equal m b e)) (λ e. inr (a.only b e)) (either_true (same_message m b) (t.is_done w b) (sym (h.done b) ∙ d)))
      h.sends
      ((λ d. let e = a.done m d in let f = h.new in cc, all_done es w (awaited m walk) a h.ready), a.allowed)
  follow es w v (learn p acts) a h =
      follow_acts p acts es v
      (fences_acted s p acts es ∙ ap (after_acts p acts) a.cells ∙ sym (λ i k b. h.cells k b i))
      (λ b d. h.done b ∙ a.done b d)
      (λ b d. a.only b (sym (h.done b) ∙ d))
      (sends_after t p w v acts h)
      a.allowed

module _ (t : Worlds) (l : StepLaw t) where
  -- a world to which events ran follows their history
  pub run_follows : (w0 : t.World) (ps : List (t.Event × Deed)) (w : t.World) → Ran t w0 ps w → Follows t (seen t w0) (history t ps) w
  run_follows w0 [] w h = record { cells = sym (ap t.read h); done = λ m d. subst (λ v. t.is_done v m ≡ true) (sym h) d; only = λ m d. subst (λ v. t.is_done v m ≡ true) h d; allowed = tt }
  run_follows w0 (p ∷ ps) w (v, r, q) = follow t (seen t w0) (history t ps) v w p.1 (run_follows w0 ps v r) (l p.0 v w p.1 q)

  pub cells_cover : CellsCover t
  cells_cover w ps u r k m h = subst (λ f. Covered (seen t w) (history t ps) (f k) m) (run_follows w ps u r).cells (covers (seen t w) h)

  pub events_keep : EventsKeepOrder t
  events_keep w ps u a b z r h d = deeds_keep (seen t w) (deeds_of t ps) a b z (run_follows w ps u r).allowed h d

  pub runs_stay_settled : RunsStaySettled t
  runs_stay_settled w ps u z r a b d q =
      let k = run_follows w ps u r in
      let h = sent_behind (only_behind (seen t w) (history t ps) (sent_after b) a (subst (λ f. f (sent_after b) a ≡ true) (sym k.cells) q)) in
      k.done a (precedes_done (seen t w) (history t ps) a b (keeps (seen t w) (history t ps) (first h) z k.allowed (k.only b d)))
