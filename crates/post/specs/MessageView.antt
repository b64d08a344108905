-- What the program's vats, messages and publications stand for.
use Rattle.std.specs.Arc.{arc_value}
use Rattle.values.specs.View.{val_of}
use Rattle.post.specs.DeliveryView.{delivery_of}
use Rattle.post.specs.Messages as model
use Rattle.post.specs.Messages.{Place, flying, at_vat, done}
use Rattle.post.specs.declared.vat.Vat.{Vat}
use Rattle.post.specs.declared.message.Place as code-place
use Rattle.post.specs.declared.message.Place.TheVariants as place
use Rattle.post.specs.declared.message.Message.{Message}
use Rattle.post.specs.declared.published.Published.{Published}

abbrev pub vat_of : Vat → model.Vat
vat_of v = record { number = v.number; earlier = (arc_value v.earlier).items; tops = (arc_value v.tops).items }

abbrev pub place_of : code-place.Place → Place
place_of (place.Flying v) = flying v
place_of (place.At v) = at_vat v
place_of (place.Done e) = done e

abbrev pub message_of : Message → model.Message
message_of g = record { delivery = delivery_of (arc_value g.sent).delivery; result = (arc_value g.sent).result; after = (arc_value g.sent).after; place = place_of g.place }

abbrev pub published_of : Published → model.Published
published_of p = record { value = val_of p.value; fences = arc_value p.fences }
