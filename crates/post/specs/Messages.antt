-- Vats by their names, messages to them, and what promises are published as.
use Rattle.std.specs.Prelude.{List, Bool, true, false, Option, Some, None}
use Rattle.std.specs.Option.{option_map}
use Rattle.kernele.specs.Tree.{Name}
use Rattle.kernele_scopes.specs.declared.naming.TopName.{TopName}
use Rattle.values.specs.Data.{Val}
use Rattle.eorder.specs.Carried.{Carried}
use Rattle.post.specs.Delivery.{Delivery}
use Rattle.ids.specs.declared.names.EventName.{EventName}
use Rattle.ids.specs.declared.names.VatNo.{VatNo}
use Rattle.ids.specs.declared.names.MsgId.{MsgId}
use Rattle.ids.specs.declared.names.PromId.{PromId}

-- what is known of a vat by its name: its number, the names of the earlier vats that its script knows, and the names that its
-- script defines at the top
pub record Vat : Type 0 where
  pub number : VatNo
  pub earlier : List Name
  pub tops : List TopName
  deriving IsSet as Vat-set

-- where a message is: on the way to a vat, at a vat, or done in an event
pub data Place : Type 0 where
  flying : (v : VatNo) → Place
  at_vat : (v : VatNo) → Place
  done : (e : EventName) → Place
  deriving IsSet as Place-set

-- what is delivered, the promise for its result, the messages that must be done before, whose names rise, and where it is
pub record Message : Type 0 where
  pub delivery : Delivery
  pub result : PromId
  pub after : List MsgId
  pub place : Place
  deriving IsSet as Message-set

-- what a promise was published as: a value, and the fences that travel with the references in it
pub record Published : Type 0 where
  pub value : Val
  pub fences : Carried
  deriving IsSet as Published-set

abbrev pub is_done : Place → Bool
is_done (flying v) = false
is_done (at_vat v) = false
is_done (done e) = true

-- the vat to which a message flies, if it does
abbrev pub flies_to : Place → Option VatNo
flies_to (flying v) = Some v
flies_to _ = None

-- the vat at which a message is, if it is at one
abbrev pub waits_at : Place → Option VatNo
waits_at (at_vat v) = Some v
waits_at _ = None

-- a message that flies arrives: it keeps all but its place
abbrev pub arrived : Message → Option Message
arrived g = option_map (λ v. record g { place = at_vat v }) (flies_to g.place)

-- a message at a vat goes on to another one: it keeps all but its place
abbrev pub forwarded : VatNo → Message → Option Message
forwarded w g = option_map (λ v. record g { place = flying w }) (waits_at g.place)

-- a message is there, and done
abbrev pub done_in : Option Message → Bool
done_in None = false
done_in (Some g) = is_done g.place
