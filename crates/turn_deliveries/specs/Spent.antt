-- What a turn spends, and how much it makes.
use Rattle.std.specs.Prelude.{ℕ}
use Rattle.ids.specs.declared.names.EventName.{EventName}
use Rattle.ids.specs.declared.names.VatNo.{VatNo}
use Rattle.heap.specs.State.{State}
use Rattle.post.specs.Delivery.{Delivery}
use Rattle.post.specs.Messages.{Message}
use Rattle.eval_rules.specs.At.{At}
use Rattle.eval_rules.specs.Derivations.{nodes_of_items, deepest_of_items}
use Rattle.eval_rules.specs.Outcomes.{End}
use Rattle.eval_rules.specs.Rules.{Target}
use Rattle.turn_deliveries.specs.Turn.{Found, Led, led_gives, led_uses, led_enters, Begins, opens, asks, calls, waits, Outcome, Delivers, delivers}

abbrev pub led_nodes : {t : Target} {a b : At} {o : End} → Led t a o b → ℕ
led_nodes led_gives = 0
led_nodes led_uses = 0
led_nodes (led_enters r) = nodes_of_items r

abbrev pub begun_nodes : {d : Delivery} {f : Found} {e : EventName} {v : VatNo} {s : State} {n : ℕ} {o : End} {b : At} → Begins d f e v s n o b → ℕ
begun_nodes (opens r) = nodes_of_items r
begun_nodes (asks r) = nodes_of_items r
begun_nodes (calls r) = led_nodes r
begun_nodes (waits r) = led_nodes r

abbrev pub led_deepest : {t : Target} {a b : At} {o : End} → Led t a o b → ℕ
led_deepest led_gives = 0
led_deepest led_uses = 0
led_deepest (led_enters r) = deepest_of_items r

abbrev pub begun_deepest : {d : Delivery} {f : Found} {e : EventName} {v : VatNo} {s : State} {n : ℕ} {o : End} {b : At} → Begins d f e v s n o b → ℕ
begun_deepest (opens r) = deepest_of_items r
begun_deepest (asks r) = deepest_of_items r
begun_deepest (calls r) = led_deepest r
begun_deepest (waits r) = led_deepest r

-- how many nodes begin in a turn
abbrev pub delivery_nodes : {g : Message} {f : Found} {e : EventName} {v : VatNo} {s : State} {n : ℕ} {o : Outcome} → Delivers g f e v s n o → ℕ
delivery_nodes (delivers r) = begun_nodes r

-- the deepest level at which one of them runs, or 0 where none does
abbrev pub delivery_deepest : {g : Message} {f : Found} {e : EventName} {v : VatNo} {s : State} {n : ℕ} {o : Outcome} → Delivers g f e v s n o → ℕ
delivery_deepest (delivers r) = begun_deepest r

-- where the turn's program ends, and so how many slots, objects and messages it made
abbrev pub delivery_place : {g : Message} {f : Found} {e : EventName} {v : VatNo} {s : State} {n : ℕ} {o : Outcome} → Delivers g f e v s n o → At
delivery_place (delivers {b = b} r) = b
