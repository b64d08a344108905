-- Single steps of an evaluation that make nothing but objects: they are calm.
use Rattle.std.proofs.Common.{◌≡◌, Bool, true, false, List, [], ◌∷◌, Option, Some, None, refl, ◌∙◌}
use Rattle.ids.specs.declared.names.EventName.{EventName}
use Rattle.ids.specs.declared.names.VatNo.{VatNo}
use Rattle.ids.specs.declared.names.SlotId.{SlotId}
use Rattle.ids.specs.declared.names.PromId.{PromId}
use Rattle.ids.specs.declared.names.ObjId.{ObjId}
use Rattle.cells.specs.Doing.{over, and_then}
use Rattle.kernele.specs.Tree.{Name, Methods}
use Rattle.kernele.specs.declared.tree.Pattern.{Pattern}
use Rattle.kernele.specs.declared.tree.Pattern.TheVariants as pattern
use Rattle.kernele_scopes.specs.Free.{captures}
use Rattle.values.specs.Data.{Val, object, Vals, no_vals, and_val}
use Rattle.values.specs.Replies.{data_reply}
use Rattle.values.specs.Wanted.{wants_datum}
use Rattle.heap.specs.State.{Bind, fixed, slot, lookup, Plain}
use Rattle.sends.specs.Vats.{Vat, ended, settled}
use Rattle.sends.specs.Making.{Making, makes, of_settled}
use Rattle.eval_rules.specs.At.{At}
use Rattle.eval_rules.specs.Outbox.{Outbox}
use Rattle.eval_rules.specs.Outcomes.{End, value, halt, Gather, values, halted}
use Rattle.eval_rules.specs.Doings.{next_object, has_object_room, under, behind, datum_read, data_with, data_of, same_read, both_settled}
use Rattle.eval_rules.specs.Rules.{sought_in, seeking, slot_read, slot_put, noun_read, Listing, listed, unlisted, parts_bound, sought, sought_slot, bound_in, matched, matched_all, defined, next_slot, has_room, slot_made, variable_made, declared, assigned, Capture, captured, missing, and_captured, all_sought, capture_of, capturing, object_made, placed, with_object, Callee, on_object, on_ejector, on_datum, on_far, callee_of, callee_read, called, receiver, receiver_read}
use Rattle.event_publishing.proofs.Calm.{knows, HasResolver, Calm, all_calm, calm_then, made_calm, Calmly, calmly_then, ended_calm, settled_calm}

-- a step is calm, in the same turn, and nothing goes out
pub record Quiet (ks : PromId → Bool) (rs : ObjId → PromId → Type 0) (n : EventName) (v : VatNo) (o : Outbox) (ls : PromId → Bool) (ts : ObjId → PromId → Type 0) (m : EventName) (u : VatNo) (p : Outbox) : Type 0 where
  pub calm : Calm ks rs ls ts
  pub event : m ≡ n
  pub vat : u ≡ v
  pub out : p ≡ o

abbrev pub QuietAt : At → At → Type 0
QuietAt a b = Quiet (knows a.state) (HasResolver a.state) a.event a.vat a.out (knows b.state) (HasResolver b.state) b.event b.vat b.out

pub same : {ks : PromId → Bool} {rs : ObjId → PromId → Type 0} {n : EventName} {v : VatNo} {o : Outbox} → Quiet ks rs n v o ks rs n v o
same = record { calm = all_calm; event = refl; vat = refl; out = refl }

pub quiet_then : {ks ls ms : PromId → Bool} {rs ts us : ObjId → PromId → Type 0} {n k m : EventName} {v u x : VatNo} {o p q : Outbox} → Quiet ks rs n v o ls ts k u p → Quiet ls ts k u p ms us m x q → Quiet ks rs n v o ms us m x q
quiet_then x y = record { calm = calm_then x.calm y.calm; event = y.event ∙ x.event; vat = y.vat ∙ x.vat; out = y.out ∙ x.out }

pub behind_quiet : {R : Type 0} (d : Vat R) (a : At) → Calmly d → QuietAt a (behind d a)
behind_quiet d a h = record { calm = h (under a); event = refl; vat = refl; out = refl }

sought_quiet : (x : Name) (m : Option Bind) (a : At) → QuietAt a (sought_in x m a)
sought_quiet x (Some b) a = same
sought_quiet x None a = same

seeking_quiet : (x : Name) (a : At) → QuietAt a (seeking x a)
seeking_quiet x a = sought_quiet x (lookup a.nouns x) a

slot_read_quiet : (i : Option SlotId) (a : At) → QuietAt a (slot_read i a)
slot_read_quiet (Some i) a = same
slot_read_quiet None a = same

pub noun_quiet : (x : Name) (a : At) → QuietAt a (noun_read x a)
noun_quiet x a = quiet_then (seeking_quiet x a) (slot_read_quiet (sought_slot x a) (seeking x a))

pub bound_quiet : (own : Bool) (x : Name) (b : Bind) (a : At) → QuietAt a (bound_in own x b a)
bound_quiet true x b a = same
bound_quiet false x b a = same

pub matched_quiet : (p : Pattern) (w : Val) (a : At) → QuietAt a (matched p w a)
matched_quiet (pattern.Name x) w a = bound_quiet a.own_scope x (fixed w) a
matched_quiet pattern.Ignore w a = same

pub defined_quiet : (p : Pattern) (o : End) (a : At) → QuietAt a (defined p o a)
defined_quiet p (value w) a = matched_quiet p w a
defined_quiet p (halt h) a = same

all_quiet : (ps : List Pattern) (vs : Vals) (a : At) → QuietAt a (matched_all ps vs a)
all_quiet [] vs a = same
all_quiet (p ∷ ps) no_vals a = same
all_quiet (p ∷ ps) (and_val w vs) a = quiet_then (matched_quiet p w a) (all_quiet ps vs (matched p w a))

pub parts_quiet : (ps : List Pattern) (l : Listing) (a : At) → QuietAt a (parts_bound ps l a)
parts_quiet ps (listed vs) a = all_quiet ps vs a
parts_quiet ps (unlisted o) a = same

variable_quiet : (room : Bool) (x : Name) (w : Val) (a : At) → QuietAt a (variable_made room x w a)
variable_quiet true x w a = bound_quiet a.own_scope x (slot (next_slot a)) (slot_made w a)
variable_quiet false x w a = same

pub declared_quiet : (x : Name) (o : End) (a : At) → QuietAt a (declared x o a)
declared_quiet x (value w) a = variable_quiet (has_room a) x w a
declared_quiet x (halt h) a = same

slot_put_quiet : (w : Val) (i : Option SlotId) (a : At) → QuietAt a (slot_put w i a)
slot_put_quiet w (Some i) a = same
slot_put_quiet w None a = same

pub assigned_quiet : (x : Name) (o : End) (a : At) → QuietAt a (assigned x o a)
assigned_quiet x (value w) a = quiet_then (seeking_quiet x a) (slot_put_quiet w (sought_slot x a) (seeking x a))
assigned_quiet x (halt h) a = same

pub captures_quiet : (c : Capture) (xs : List Name) (a : At) → QuietAt a (all_sought c xs a)
captures_quiet c [] a = same
captures_quiet (captured ns) (x ∷ xs) a =
    let d : Capture = and_captured (captured ns) x (sought x a) in
    quiet_then (seeking_quiet x a) (captures_quiet d xs (seeking x a))
captures_quiet (missing y) (x ∷ xs) a = same

object_quiet : (o : Plain) (a : At) → QuietAt a (object_made o a)
object_quiet o a = record { calm = made_calm a.state (next_object a) o; event = refl; vat = refl; out = refl }

placed_quiet : (room : Bool) (p : Pattern) (o : Plain) (a : At) → QuietAt a (placed room p o a)
placed_quiet true p o a = quiet_then (object_quiet o a) (matched_quiet p (object (next_object a)) (object_made o a))
placed_quiet false p o a = same

made_quiet : (p : Pattern) (ms : Methods) (c : Capture) (a : At) → QuietAt a (with_object p ms c a)
made_quiet p ms (captured ns) a = placed_quiet (has_object_room a) p (record { own = p; captured = ns; methods = ms }) a
made_quiet p ms (missing x) a = same

pub object_tree_quiet : (p : Pattern) (ms : Methods) (a : At) → QuietAt a (with_object p ms (capture_of p ms a) (capturing p ms a))
object_tree_quiet p ms a =
    quiet_then (captures_quiet (captured []) (captures p ms) a) (made_quiet p ms (capture_of p ms a) (capturing p ms a))

data_with_calm : (b : Bool) (w : Val) (verb : Name) (x : Val) → Calmly (data_with b w verb x)
data_with_calm true w verb x = calmly_then (ended x) (λ y. over (data_reply w verb (and_val y no_vals))) (ended_calm x) (λ y u. all_calm)
data_with_calm false w verb x = λ u. all_calm

data_calm : (w : Val) (verb : Name) (vs : Vals) → Calmly (data_of w verb vs)
data_calm w verb no_vals = λ u. all_calm
data_calm w verb (and_val x no_vals) = data_with_calm (wants_datum w verb) w verb x
data_calm w verb (and_val x (and_val y vs)) = λ u. all_calm

callee_quiet : (m : Callee) (w : Val) (verb : Name) (vs : Vals) (a : At) → QuietAt a (callee_read m w verb vs a)
callee_quiet (on_object i) w verb vs a = same
callee_quiet (on_ejector j) w verb vs a = same
callee_quiet on_datum w verb vs a = behind_quiet (data_of w verb vs) a (data_calm w verb vs)
callee_quiet on_far w verb vs a = same

pub receiver_quiet : (w : Val) (a : At) → QuietAt a (receiver_read w a)
receiver_quiet w a = behind_quiet (ended w) a (ended_calm w)

pub called_quiet : (w : Val) (verb : Name) (g : Gather) (a : At) → QuietAt a (called w verb g a)
called_quiet w verb (values vs) a =
    quiet_then (receiver_quiet w a) (callee_quiet (callee_of a.vat (receiver w a)) (receiver w a) verb vs (receiver_read w a))
called_quiet w verb (halted h) a = same

pub datum_quiet : (o : End) (a : At) → QuietAt a (datum_read o a)
datum_quiet (value w) a = behind_quiet (ended w) a (ended_calm w)
datum_quiet (halt h) a = same

both_calm : (w x : Val) → Calmly (both_settled w x)
both_calm w x =
    let last : Val → Val → Vat (Making (Val × Val)) = λ y z. over (makes (y, z)) in
    let rest : Val → Vat (Making (Val × Val)) = λ y. and_then (settled x) (of_settled (last y)) in
    calmly_then (settled w) (of_settled rest) (settled_calm w) (λ o. first rest (λ y. calmly_then (settled x) (of_settled (last y)) (settled_calm x) (λ o. first (last y) (λ z u. all_calm) o)) o)
  where
    first : {R : Type 0} (make : Val → Vat (Making R)) → ((y : Val) → Calmly (make y)) → (o : Option Val) → Calmly (of_settled make o)
    first make h None u = all_calm
    first make h (Some y) u = h y u

pub same_quiet : (w : Val) (o : End) (a : At) → QuietAt a (same_read w o a)
same_quiet w (value x) a = behind_quiet (both_settled w x) a (both_calm w x)
same_quiet w (halt h) a = same
