-- What the program's deliveries stand for.
use Rattle.std.specs.Option.{option_map}
use Rattle.code.specs.View.{trees_of_codes}
use Rattle.values.specs.View.{val_of, vals_of}
use Rattle.heap.specs.View.{nouns_of}
use Rattle.post.specs.Delivery as model
use Rattle.post.specs.Delivery.{Delivery, opening, asked, sent, waiting}
use Rattle.post.specs.declared.call.Call.{Call}
use Rattle.post.specs.declared.when.Handler.{Handler}
use Rattle.post.specs.declared.when.When.{When}
use Rattle.post.specs.declared.delivery.Delivery as code
use Rattle.post.specs.declared.delivery.Delivery.TheVariants as delivery

abbrev pub call_of : Call → model.Call
call_of c = record { target = val_of c.target; verb = c.verb; arguments = vals_of c.arguments.value.items; fences = c.fences.value }

abbrev pub handler_of : Handler → model.Handler
handler_of h = record { pattern = h.pattern; block = trees_of_codes h.block.value.items }

abbrev pub when_of : When → model.When
when_of w = record { value = val_of w.value; captured = nouns_of w.captured.value.items; block = trees_of_codes w.block.value.items; handler = option_map handler_of w.handler }

abbrev pub delivery_of : code.Delivery → Delivery
delivery_of (delivery.Opening earlier script) = opening earlier.value.items (trees_of_codes script.items.value.items)
delivery_of (delivery.Asked program) = asked (trees_of_codes program.items.value.items)
delivery_of (delivery.Sent call) = sent (call_of call)
delivery_of (delivery.Waiting block) = waiting (when_of block)
