-- What is done to the vat's cells between two trees: it leaves the rest of a place as it was, its cells only grow, and in another state
-- that agrees on the cells touched it goes alike.
use Rattle.std.proofs.Common.{◌≡◌, [], Option, true, false, refl, sym, ap, ◌∙◌}
use Rattle.ids.specs.declared.names.PromId.{PromId}
use Rattle.cells.specs.Doing.{Alike}
use Rattle.cells.proofs.Doings.{cells_only_grow, goes_alike}
use Rattle.ids.specs.declared.names.ObjId.{ObjId}
use Rattle.kernele.specs.Tree.{Name, Trees}
use Rattle.values.specs.Data.{Val, Vals}
use Rattle.heap.specs.State.{Cell, Content, same_cell, State, Cells}
use Rattle.heap.proofs.Cells.{cell_self}
use Rattle.post.specs.Delivery.{Handler, When}
use Rattle.sends.specs.Vats.{Vat}
use Rattle.sends.specs.Making.{Making, refused, makes, Sent, Published}
use Rattle.eval_rules.specs.At.{At}
use Rattle.eval_rules.specs.Doings.{under, behind, given_by, datum_read, send_of, send_out, sent_at, wait_of, wait_out, promise_pair, pair_out, resolver_out, same_read}
use Rattle.eval_rules.specs.Outcomes.{End, value, halt, Gather, values, halted}
use Rattle.eval_rules.specs.Rules.{Capture, captured, missing, Callee, on_object, on_ejector, on_datum, on_far, callee_of, callee_read, receiver, receiver_read, called, handled_names, when_capture, when_capturing, waited, when_made}
use Rattle.eval_rules.specs.Laws.{AgreeOn}
use Rattle.eval_rules.proofs.Seeking.{Reads, captures_read}

-- ---- what stays

-- a place is another one, but for its cells, how many objects the turn has made, and what it has made beside
abbrev pub Works : At → At → Type 0
Works a b = b ≡ record a { state = b.state; touched = b.touched; written = b.written; objects = b.objects; out = b.out }

pub works_both : (a b c : At) → Works a b → Works b c → Works a c
works_both a b c g h = h ∙ ap (λ (z : At). record z { state = c.state; touched = c.touched; written = c.written; objects = c.objects; out = c.out }) g

pub reads_work : (a b : At) → Reads a b → Works a b
reads_work a b g = g ∙ ap (λ (z : At). record a { state = z.state; touched = b.touched; written = z.written; objects = z.objects; out = z.out }) (sym g)

pub datum_works : (o : End) (a : At) → Works a (datum_read o a)
datum_works (value v) a = refl
datum_works (halt h) a = refl

callee_works : (m : Callee) (u : Val) (verb : Name) (vs : Vals) (v : Val) (a : At) → Works a (callee_read m u verb vs (receiver_read v a))
callee_works (on_object i) u verb vs v a = refl
callee_works (on_ejector j) u verb vs v a = refl
callee_works on_datum u verb vs v a = refl
callee_works on_far u verb vs v a = refl

pub called_works : (v : Val) (verb : Name) (g : Gather) (a : At) → Works a (called v verb g a)
called_works v verb (values vs) a = callee_works (callee_of a.vat (receiver v a)) (receiver v a) verb vs v a
called_works v verb (halted h) a = refl

sends_work : {R : Type 0} (verb : Name) (m : Making Sent) (d : Vat R) (a : At) → Works a (send_out verb m (behind d a))
sends_work verb (refused why) d a = refl
sends_work verb (makes s) d a = refl

pub sent_works : (verb : Name) (v : Val) (g : Gather) (a : At) → Works a (sent_at verb v g a)
sent_works verb v (values vs) a = sends_work verb (given_by (send_of v vs a) a) (send_of v vs a) a
sent_works verb v (halted h) a = refl

waits_work : {R : Type 0} (w : When) (m : Making PromId) (d : Vat R) (a : At) → Works a (wait_out w m (behind d a))
waits_work w (refused why) d a = refl
waits_work w (makes p) d a = refl

waited_works : (c : Capture) (body : Trees) (handler : Option Handler) (v : Val) (a : At) → Works a (waited c body handler v a)
waited_works (captured ns) body handler v a = waits_work (record { value = v; captured = ns; block = body; handler = handler }) (given_by (wait_of v a) a) (wait_of v a) a
waited_works (missing x) body handler v a = refl

pub when_works : (body : Trees) (handler : Option Handler) (o : End) (a : At) → Works a (when_made body handler o a)
when_works body handler (value v) a =
    works_both a (when_capturing body handler a) (when_made body handler (value v) a) (reads_work a (when_capturing body handler a) (captures_read (captured []) (handled_names body handler) a))
    (waited_works (when_capture body handler a) body handler v (when_capturing body handler a))
when_works body handler (halt h) a = refl

pairs_work : {R : Type 0} (m : Making ObjId) (d : Vat R) (a : At) → Works a (pair_out m (behind d a))
pairs_work (refused why) d a = refl
pairs_work (makes n) d a = refl

pub pair_works : (a : At) → Works a (pair_out (given_by (promise_pair a) a) (behind (promise_pair a) a))
pair_works a = pairs_work (given_by (promise_pair a) a) (promise_pair a) a

resolvers_work : {R : Type 0} (p : PromId) (m : Making Published) (d : Vat R) (a : At) → Works a (resolver_out p m (behind d a))
resolvers_work p (refused why) d a = refl
resolvers_work p (makes b) d a = refl

pub resolver_works : (p : PromId) (d : Vat (Making Published)) (a : At) → Works a (resolver_out p (given_by d a) (behind d a))
resolver_works p d a = resolvers_work p (given_by d a) d a

-- a resolver is used once the call has come to it
pub used_works : (v : Val) (verb : Name) (g : Gather) (p : PromId) (d : Vat (Making Published)) (a : At) → Works a (resolver_out p (given_by d (called v verb g a)) (behind d (called v verb g a)))
used_works v verb g p d a = let c = called v verb g a in works_both a c (resolver_out p (given_by d c) (behind d c)) (called_works v verb g a) (resolver_works p d c)

pub same_works : (v : Val) (o : End) (a : At) → Works a (same_read v o a)
same_works v (value w) a = refl
same_works v (halt h) a = refl

-- ---- the cells

-- cells touched and written, a state and the one that the turn began with, and these later: none is touched or written no more, what is
-- not written is as it was, and the beginning stays
pub record Onward (p q : Cells) (s w : State) (p' q' : Cells) (s' w' : State) : Type 0 where
  pub touched : (c : Cell) → p c ≡ true → p' c ≡ true
  pub written : (c : Cell) → q c ≡ true → q' c ≡ true
  pub within : ((c : Cell) → q c ≡ true → p c ≡ true) → (c : Cell) → q' c ≡ true → p' c ≡ true
  pub stays : (c : Cell) → q' c ≡ false → s' c ≡ s c
  pub began : w' ≡ w

-- of one place and a later one
abbrev pub Later : At → At → Type 0
Later a b = Onward a.touched a.written a.state a.began b.touched b.written b.state b.began

pub does_later : {R : Type 0} (d : Vat R) (a : At) → Later a (behind d a)
does_later {R = R} d a = let l = cells_only_grow Cell Content R same_cell d (under a) in record { touched = l.touched; written = l.written; within = l.within; stays = l.stays; began = refl }

-- from another state that agrees on the cells touched
pub does_alike : {R : Type 0} (d : Vat R) (a : At) (u : State) → AgreeOn (behind d a).touched u a.state → Alike same_cell d (under a) u
does_alike {R = R} d a u h = goes_alike Cell Content R same_cell cell_self d (under a) u h
