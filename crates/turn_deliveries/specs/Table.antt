-- The table of what a turn touches and writes: how it begins, what it runs, and how it ends.
use Rattle.std.specs.Prelude.{ℕ, false, List}
use Rattle.ids.specs.declared.names.EventName.{EventName}
use Rattle.ids.specs.declared.names.VatNo.{VatNo}
use Rattle.ids.specs.declared.names.PromId.{PromId}
use Rattle.eorder.specs.Carried.{Carried}
use Rattle.kernele.specs.Tree.{Name}
use Rattle.values.specs.Data.{Val, list, Vals}
use Rattle.heap.specs.State.{top, State}
use Rattle.post.specs.Delivery.{Call, Delivery}
use Rattle.post.specs.Messages.{Message}
use Rattle.post.specs.declared.earlier.Earlier.{Earlier}
use Rattle.sends.specs.Vats.{references_in, coming_in}
use Rattle.sends.specs.Making.{told as told_value}
use Rattle.sends.specs.Playing.{views_in}
use Rattle.sends.specs.Table.{Foot, no_foot, changes, both, of_each, end_taken, form_taken, promise_comes, references_come, promise_published}
use Rattle.eval_rules.specs.At.{At}
use Rattle.eval_rules.specs.Doings.{behind, given_by}
use Rattle.eval_rules.specs.Outcomes.{End}
use Rattle.eval_rules.specs.Rules.{Target}
use Rattle.eval_rules.specs.Table.{views_at, of_value, call_touches, resolver_touches, foot_of_items}
use Rattle.turn_deliveries.specs.Turn.{start, Found, call_coming, Led, led_gives, led_uses, led_enters, Begins, opens, asks, calls, waits, Told, told, lost, telling, Outcome, Delivers, delivers}

-- ---- how it begins

-- the name of each earlier vat is bound: the promise of its opening comes in, and its Top is written
abbrev pub earlier_known : State → List Earlier → Foot
earlier_known s xs = of_each (λ (x : Earlier). both (promise_comes s x.opening) (changes (top x.name))) xs

-- the references in a list come in
abbrev pub list_comes : State → Carried → Val → Foot
list_comes s c (list vs) = references_come s c (references_in vs)
list_comes s c v = no_foot

-- a call brings in the references in its arguments, and behind them those in the list on which it is made
abbrev pub call_comes : Call → Found → At → Foot
call_comes c f a = both (references_come a.state c.fences (references_in c.arguments)) (list_comes (behind (coming_in c.fences (references_in c.arguments)) a).state f.fences f.end)

-- ---- what it runs

-- the items of a block
abbrev pub led_foot : {t : Target} {a b : At} {o : End} → Led t a o b → Foot
led_foot led_gives = no_foot
led_foot led_uses = no_foot
led_foot (led_enters r) = foot_of_items r

-- a resolver, by the verb and the arguments of a call
abbrev pub led_resolver : {t : Target} {a b : At} {o : End} → Name → Vals → Led t a o b → Foot
led_resolver verb vs led_gives = no_foot
led_resolver verb vs (led_uses {p = p} {d = d} {a = a}) = resolver_touches a.state p verb vs (given_by d a)
led_resolver verb vs (led_enters r) = no_foot

-- an opening turn binds the earlier vats; a call brings in what it brings, is made on the end of its target, and runs what that leads to; a when
-- takes the end of its value
abbrev pub begun_foot : {d : Delivery} {f : Found} {e : EventName} {v : VatNo} {s : State} {n : ℕ} {o : End} {b : At} → Begins d f e v s n o b → Foot
begun_foot (opens {earlier = earlier} {s = s} r) = both (earlier_known s earlier) (foot_of_items r)
begun_foot (asks r) = foot_of_items r
begun_foot (calls {c = c} {f = f} {e = e} {v = v} {s = s} {n = n} r) =
    both (call_comes c f (start false e v s n))
    (both (call_touches f.end c.verb c.arguments (behind (call_coming c f) (start false e v s n))) (both (led_foot r) (led_resolver c.verb c.arguments r)))
begun_foot (waits {w = w} {s = s} r) = both (end_taken (views_in s) w.value) (led_foot r)

-- ---- how it ends

-- its result is published as what it told; an abandoned turn publishes nothing from its vat
abbrev pub told_touches : State → PromId → Told → Foot
told_touches s p (told r) = promise_published s p (told_value r)
told_touches s p (lost why) = no_foot

-- the cells of a turn: where it ends with a value, the settled form of that is taken before its result is published
abbrev pub delivery_foot : {g : Message} {f : Found} {e : EventName} {v : VatNo} {s : State} {n : ℕ} {o : Outcome} → Delivers g f e v s n o → Foot
delivery_foot (delivers {g = g} {o = o} {b = b} r) = both (begun_foot r) (both (of_value (form_taken (views_at b)) o) (told_touches b.state g.result (telling o b)))
