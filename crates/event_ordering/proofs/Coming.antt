-- What comes in, and what a target comes to, does to fences what its acts say.
use Rattle.std.proofs.Common.{◌≡◌, ℕ, Bool, true, false, ◌||◌, ◌&&◌, List, [], ◌∷◌, ◌++◌, Option, Some, None, refl, sym, ap, ◌∙◌, subst}
use Rattle.std.specs.List.{AllByRecursion}
use Rattle.ids.specs.declared.names.EventName.{EventName}
use Rattle.ids.specs.declared.names.VatNo.{VatNo}
use Rattle.ids.specs.declared.names.MsgId.{MsgId}
use Rattle.ids.specs.declared.names.PromId.{PromId}
use Rattle.ids.specs.declared.reference.Reference.{Reference}
use Rattle.ids.specs.declared.reference.Reference.TheVariants as reference
use Rattle.ids.specs.References.{same_reference}
use Rattle.cells.specs.Doing.{Under, play, and_then}
use Rattle.cells.proofs.Doings.{one_after_another}
use Rattle.eorder.specs.Acts.{Act, Fences}
use Rattle.eorder.specs.Carried.{Carried}
use Rattle.eorder.specs.Fences.{member}
use Rattle.eorder.specs.Places.{Carrier, argument, published, carried}
use Rattle.eorder.specs.Worlds.{after_acts}
use Rattle.eorder.proofs.Worlds.{after_append}
use Rattle.kernele.specs.Tree.{Name}
use Rattle.values.specs.Data.{Val, null, bool, int, text, list, object, ejector, promise, broken}
use Rattle.heap.specs.State.{State, Cell, Content, same_cell, Nouns, fixed}
use Rattle.post.specs.Delivery.{Call, Handler, When, Delivery}
use Rattle.post.specs.Messages.{Published}
use Rattle.post.specs.declared.earlier.Earlier.{Earlier}
use Rattle.refs.specs.Walks.{Resolutions}
use Rattle.sends.specs.Vats.{Vat, Nothing, names_for, ended, reference_in, value_of, references, references_in, each_once, end_joined, comes_in, brought, all_brought, received, coming_in, entered}
use Rattle.sends.specs.Playing.{views_in}
use Rattle.sends.proofs.Followed.{ends_are_followed}
use Rattle.eval_rules.specs.At.{At}
use Rattle.eval_rules.specs.Doings.{under, with_under, given_by, behind}
use Rattle.eval_rules.specs.Outcomes.{End, values}
use Rattle.eval_rules.specs.Outbox.{empty_outbox}
use Rattle.eval_rules.specs.Rules.{Target, binding}
use Rattle.turn_deliveries.specs.Turn.{start, knowing, Found, list_coming, call_coming, handled, when_met, Led, led_gives, led_uses, led_enters, Begins, opens, asks, calls, waits}
use Rattle.event_ordering.specs.Acts.{came_act, came_acts, arriving, list_arriving, call_acts, led_acts, begun_acts, learning_place, learning_acts}
use Rattle.event_ordering.specs.Acting.{joined_to}
use Rattle.event_ordering.specs.Laws.{IsSentBy, Brings, BringsLast, BringsAll, DoneBy, learnt_at}
use Rattle.event_ordering.specs.Reading.{Sets, fences_in, reading, afters, travelling, turn_fences}
use Rattle.event_ordering.proofs.Readings.{or_false, and_none, with_names, came_reads, join_all}
use Rattle.event_ordering.proofs.Effects.{Still, still_then, comes_in_still, ended_still, more_sets, Joins, settles_to, end_joins, entered_makes}
use Rattle.event_ordering.proofs.Acted.{all_append, join_sends, Acts, Acted, QuietAt, fences_at, same, none, quietly, quiet_then, acted_then, quiet_behind, quiet_first, behind_quiet, bound_quiet, called_quiet, used_acts}
use Rattle.event_ordering.proofs.Rules.{TargetMakes, target_makes, items_act}

-- ---- references come in

brought_still : (r : Reference) → Still (brought r)
brought_still (reference.Promise p) = comes_in_still p
brought_still (reference.Object i) = λ u. refl
brought_still (reference.Ejector j) = λ u. refl

all_brought_still : (rs : List Reference) → Still (all_brought rs)
all_brought_still [] = λ u. refl
all_brought_still (r ∷ rs) = still_then (brought r) (λ n. all_brought rs) (brought_still r) (λ n. all_brought_still rs)

-- they came, each to what it settles to by these views
abbrev came_by : Carrier → List Reference → Resolutions → List Act
came_by d [] m = []
came_by d (r ∷ rs) m = came_by d rs m ++ came_act d r (settles_to m (value_of r))

came_by_views : (d : Carrier) (rs : List Reference) (a : At) → came_acts d rs a ≡ came_by d rs (views_in a.state)
came_by_views d [] a = refl
came_by_views d (r ∷ rs) a = λ i. came_by_views d rs a i ++ came_act d r (reference_in (ap (λ q. q.0) (ends_are_followed (under a) (value_of r)) i))

module _ (base : Fences) (v : VatNo) (a : MsgId → MsgId → Bool) (c : Carrier → Sets) where
  came_one : (d : Carrier) (r : Reference) (f : List MsgId) (s : Sets) (o : Option Reference) → ((x : MsgId) → (base (carried d r) x || c d r x) ≡ member f x)
      → reading base v (more_sets o f s) a c ≡ after_acts v (came_act d r o) (reading base v s a c)
  came_one d r f s None h = refl
  came_one d r f s (Some t) h = (λ i. reading base v (with_names t (λ x. sym (h x) i) s) a c) ∙ sym (came_reads base v r d t s a c)

  -- so the fences are received
  record Received (d : Carrier) (rs : List Reference) (u w : Under Cell Content) (m : Resolutions) : Type 0 where
    reads : reading base v (fences_in w.state) a c ≡ after_acts v (came_by d rs m) (reading base v (fences_in u.state) a c)
    views : views_in w.state ≡ m

  received_reads : (fs : Carried) (d : Carrier) (rs : List Reference) (u : Under Cell Content) (m : Resolutions) → views_in u.state ≡ m → ((r : Reference) (x : MsgId) → (base (carried d r) x || c d r x) ≡ member (names_for fs r) x)
      → Received d rs u (play same_cell (received fs rs) u).1 m
  received_reads fs d [] u m e h = record { reads = refl; views = e }
  received_reads fs d (r ∷ rs) u m e h =
      let f : List MsgId = names_for fs r in
      let q : Option Reference × Under Cell Content = play same_cell (end_joined (value_of r) f) u in
      let j : Joins (settles_to (views_in u.state) (value_of r)) f u q = end_joins (value_of r) f u in
      let its : settles_to (views_in u.state) (value_of r) ≡ settles_to m (value_of r) = ap (λ m. settles_to m (value_of r)) e in
      let x : Received d rs q.1 (play same_cell (received fs rs) q.1).1 m = received_reads fs d rs q.1 m (j.views ∙ e) h in
      subst (λ y. Received d (r ∷ rs) u y.1 m) (sym (one_after_another Cell Content (Option Reference) Nothing same_cell (end_joined (value_of r) f) (λ t. received fs rs) u))
      (record {
        reads = x.reads
            ∙ ap (after_acts v (came_by d rs m)) (ap (λ s. reading base v s a c) (j.moved ∙ ap (λ o. more_sets o f (fences_in u.state)) its) ∙ came_one d r f (fences_in u.state) (settles_to m (value_of r)) (h r))
            ∙ sym (after_append v (came_by d rs m) (came_act d r (settles_to m (value_of r))) (reading base v (fences_in u.state) a c));
        views = x.views;
      })

  came_reads_in : (fs : Carried) (d : Carrier) (rs : List Reference) (u : Under Cell Content) → ((r : Reference) (x : MsgId) → (base (carried d r) x || c d r x) ≡ member (names_for fs r) x)
      → reading base v (fences_in (play same_cell (coming_in fs rs) u).1.state) a c
      ≡ after_acts v (came_by d (each_once [] rs) (views_in (play same_cell (coming_in fs rs) u).1.state)) (reading base v (fences_in u.state) a c)
  came_reads_in fs d rs u h =
      let ts : List Reference = each_once [] rs in
      let w : Under Cell Content = (play same_cell (all_brought ts) u).1 in
      let x : Received d ts w (play same_cell (received fs ts) w).1 (views_in w.state) = received_reads fs d ts w (views_in w.state) refl h in
      subst (λ y. reading base v (fences_in y.1.state) a c ≡ after_acts v (came_by d ts (views_in y.1.state)) (reading base v (fences_in u.state) a c))
      (sym (one_after_another Cell Content Nothing Nothing same_cell (all_brought ts) (λ n. received fs ts) u))
      (x.reads ∙ (λ i. after_acts v (came_by d ts (sym x.views i)) (reading base v (all_brought_still ts u i) a c)))

-- where they come with no names, nothing happens to fences
none_more : (o : Option Reference) (f : List MsgId) (s : Sets) → ((x : MsgId) → member f x ≡ false) → more_sets o f s ≡ s
none_more None f s h = refl
none_more (Some t) f s h = λ i r x. (ap (λ q. s r x || (same_reference t r && q)) (h x) ∙ ap (λ q. s r x || q) (and_none (same_reference t r)) ∙ or_false (s r x)) i

received_still : (fs : Carried) (rs : List Reference) → ((r : Reference) (x : MsgId) → member (names_for fs r) x ≡ false) → Still (received fs rs)
received_still fs [] h = λ u. refl
received_still fs (r ∷ rs) h =
    still_then (end_joined (value_of r) (names_for fs r)) (λ t. received fs rs)
    (λ u. (end_joins (value_of r) (names_for fs r) u).moved ∙ none_more (settles_to (views_in u.state) (value_of r)) (names_for fs r) (fences_in u.state) (h r)) (λ t. received_still fs rs h)

coming_still : (fs : Carried) (rs : List Reference) → ((r : Reference) (x : MsgId) → member (names_for fs r) x ≡ false) → Still (coming_in fs rs)
coming_still fs rs h = still_then (all_brought (each_once [] rs)) (λ n. received fs (each_once [] rs)) (all_brought_still (each_once [] rs)) (λ n. received_still fs (each_once [] rs) h)

behind_then : {A B : Type 0} (d : Vat A) (k : A → Vat B) (x : At) → behind (and_then d k) x ≡ behind (k (given_by d x)) (behind d x)
behind_then {A} {B} d k x = ap (λ q. with_under q.1 x) (one_after_another Cell Content A B same_cell d k (under x))

came_sends : (e : EventName) (d : Carrier) (rs : List Reference) (a : At) → AllByRecursion (IsSentBy e) (came_acts d rs a)
came_sends e d [] a = tt
came_sends e d (r ∷ rs) a = all_append (IsSentBy e) (came_acts d rs a) (came_act d r (reference_in (given_by (ended (value_of r)) a))) (came_sends e d rs a) (one (reference_in (given_by (ended (value_of r)) a)))
  where
    one : (o : Option Reference) → AllByRecursion (IsSentBy e) (came_act d r o)
    one None = tt
    one (Some t) = (tt, tt)

module _ (base : Fences) (v : VatNo) (before : PromId → Bool) (e : EventName) where
  -- what comes in with a carrier
  comes : (fs : Carried) (d : Carrier) (rs : List Reference) (x : At) → ((r : Reference) (n : MsgId) → fences_at base v before e x (carried d r) n ≡ member (names_for fs r) n)
      → Acted base v before e x (arriving d rs (behind (coming_in fs rs) x)) (behind (coming_in fs rs) x)
  comes fs d rs x h i u =
      let a : MsgId → MsgId → Bool = afters e x.out.letters in
      let c : Carrier → Sets = travelling before e x.out.letters x.out.publications in
      let y : At = behind (coming_in fs rs) x in
      record {
        fences = came_reads_in base v a c fs d rs (under x) h ∙ ap (λ xs. after_acts v xs (fences_at base v before e x)) (sym (came_by_views d (each_once [] rs) y));
        event = i;
        undone = u;
        sends = came_sends e d (each_once [] rs) y;
      }

  list_comes : (p : Option PromId) (fs : Carried) (w : Val) (x : At) → x.out ≡ empty_outbox → BringsLast base p fs → Acted base v before e x (list_arriving p w (behind (list_coming fs w) x)) (behind (list_coming fs w) x)
  list_comes (Some p) fs (list vs) x o h = comes fs (published p) (references_in vs) x (λ r n. ap (λ out. turn_fences base v before e x.state out (carried (published p) r) n) o ∙ or_false (base (carried (published p) r) n) ∙ h r n)
  list_comes None fs (list vs) x o h = quietly base v before e (behind_quiet base v before e (coming_in fs (references_in vs)) x (coming_still fs (references_in vs) h))
  list_comes (Some p) fs null x o h = none base v before e
  list_comes (Some p) fs (bool b) x o h = none base v before e
  list_comes (Some p) fs (int z) x o h = none base v before e
  list_comes (Some p) fs (text s) x o h = none base v before e
  list_comes (Some p) fs (object i) x o h = none base v before e
  list_comes (Some p) fs (ejector j) x o h = none base v before e
  list_comes (Some p) fs (promise q) x o h = none base v before e
  list_comes (Some p) fs (broken s) x o h = none base v before e
  list_comes None fs null x o h = none base v before e
  list_comes None fs (bool b) x o h = none base v before e
  list_comes None fs (int z) x o h = none base v before e
  list_comes None fs (text s) x o h = none base v before e
  list_comes None fs (object i) x o h = none base v before e
  list_comes None fs (ejector j) x o h = none base v before e
  list_comes None fs (promise q) x o h = none base v before e
  list_comes None fs (broken s) x o h = none base v before e

  call_comes : (m : MsgId) (p : Option PromId) (c : Call) (f : Found) (x : At) → x.out ≡ empty_outbox → Brings base (argument m) c.fences → BringsLast base p f.fences
      → Acted base v before e x (call_acts m p c f x) (behind (call_coming c f) x)
  call_comes m p c f x o h g =
      let d : Vat Nothing = coming_in c.fences (references_in c.arguments) in
      let y : At = behind d x in
      subst (λ z. Acted base v before e x (list_arriving p f.end z ++ arriving (argument m) (references_in c.arguments) y) z) (sym (behind_then d (λ n. list_coming f.fences f.end) x))
      (acted_then base v before e
      (comes c.fences (argument m) (references_in c.arguments) x (λ r n. ap (λ out. turn_fences base v before e x.state out (carried (argument m) r) n) o ∙ or_false (base (carried (argument m) r) n) ∙ h r n))
      (list_comes p f.fences f.end y o g))

  -- ---- what a delivery runs

  knowing_quiet : (xs : List Earlier) (x : At) → QuietAt base v before e x (knowing xs x)
  knowing_quiet [] x = same base v before e
  knowing_quiet (y ∷ ys) x =
      let z : At = behind (comes_in y.opening) x in
      quiet_then base v before e (behind_quiet base v before e (comes_in y.opening) x (comes_in_still y.opening))
      (quiet_then base v before e (bound_quiet base v before e z.own_scope y.name (fixed (promise y.opening)) z) (knowing_quiet ys (binding y.name (fixed (promise y.opening)) z)))

  led_act : {t : Target} {a b : At} {o : End} (r : Led t a o b) → TargetMakes t → Acted base v before e a (led_acts before r) b
  led_act led_gives h = none base v before e
  led_act (led_uses {p = p} {d = d} {a = a}) h = used_acts base v before e p d a h
  led_act (led_enters r) h = items_act base v before e r

handled_makes : (problem : Name) (ns : Nouns) (h : Option Handler) → TargetMakes (handled problem ns h)
handled_makes problem ns None = tt
handled_makes problem ns (Some h) = tt

when_makes : (w : When) (u : Val) → TargetMakes (when_met w u)
when_makes w null = tt
when_makes w (bool b) = tt
when_makes w (int z) = tt
when_makes w (text s) = tt
when_makes w (list vs) = tt
when_makes w (object i) = tt
when_makes w (ejector j) = tt
when_makes w (promise p) = tt
when_makes w (broken problem) = handled_makes problem w.captured w.handler

pub begun_act : (base : Fences) (before : PromId → Bool) (m : MsgId) (p : Option PromId) {d : Delivery} {f : Found} {e : EventName} {v : VatNo} {s : State} {n : ℕ} {o : End} {b : At} (r : Begins d f e v s n o b) → BringsAll base m p d f
    → Acts base v before e (turn_fences base v before e s empty_outbox) (begun_acts before m p r) (fences_at base v before e b) b.event b.out.letters
begun_act base before m p (opens {earlier = earlier} {e = e} {v = v} {s = s} {n = n} r) h = quiet_first base v before e (knowing_quiet base v before e earlier (start true e v s n)) (items_act base v before e r) refl (record { each = tt })
begun_act base before m p (asks {e = e} {v = v} r) h = items_act base v before e r refl (record { each = tt })
begun_act base before m p (calls {c = c} {f = f} {e = e} {v = v} {s = s} {n = n} r) h =
    let a : At = start false e v s n in
    let x : At = behind (call_coming c f) a in
    acted_then base v before e
    (quiet_behind base v before e (call_comes base v before e m p c f a refl h.0 h.1) (called_quiet base v before e f.end c.verb (values c.arguments) x))
    (led_act base v before e r (target_makes f.end c.verb (values c.arguments) x)) refl (record { each = tt })
begun_act base before m p (waits {w = w} {e = e} {v = v} {s = s} {n = n} r) h =
    let a : At = start false e v s n in
    quiet_first base v before e (behind_quiet base v before e (ended w.value) a (ended_still w.value)) (led_act base v before e r (when_makes w (given_by (ended w.value) a))) refl (record { each = tt })

-- ---- what a vat learns

pub learning_act : (base : Fences) (before : PromId → Bool) (e : EventName) (v : VatNo) (s : State) (p : PromId) (b : Published) → Brings base (published p) b.fences → DoneBy base before e v s (learning_acts s p b) (learnt_at s p b).state empty_outbox
learning_act base before e v s p b h =
    let a : At = learning_place s in
    let x : At = behind (entered p b.value) a in
    let rs : List Reference = references b.value in
    let d : Vat Nothing = coming_in b.fences rs in
    let o : Option Reference = given_by (entered p b.value) a in
    let f : Fences = turn_fences base v before e s empty_outbox in
    let first : turn_fences base v before e x.state empty_outbox ≡ after_acts v (joined_to p o) f =
    ap (λ s. reading base v s (afters e []) (travelling before e [] [])) (entered_makes p b.value (under a)) ∙ sym (join_all base v p o (fences_in s) (afters e []) (travelling before e [] [])) in
    let second : turn_fences base v before e (behind d x).state empty_outbox ≡ after_acts v (arriving (published p) rs (behind d x)) (turn_fences base v before e x.state empty_outbox) =
    came_reads_in base v (afters e []) (travelling before e [] []) b.fences (published p) rs (under x) (λ r n. or_false (base (carried (published p) r) n) ∙ h r n)
    ∙ ap (λ xs. after_acts v xs (turn_fences base v before e x.state empty_outbox)) (sym (came_by_views (published p) (each_once [] rs) (behind d x))) in
    record {
      fences = ap (λ (z : At). turn_fences base v before e z.state empty_outbox) (behind_then (entered p b.value) (λ t. d) a) ∙ second ∙ ap (after_acts v (arriving (published p) rs (behind d x))) first
          ∙ sym (after_append v (arriving (published p) rs (behind d x)) (joined_to p o) f);
      sends = all_append (IsSentBy e) (arriving (published p) rs (behind d x)) (joined_to p o) (came_sends e (published p) (each_once [] rs) (behind d x)) (join_sends e p o);
      undone = record { each = tt };
    }
