-- What a vat's state under a turn is seen as.
use Rattle.std.specs.Prelude.{List, refl}
use Rattle.std.specs.Coded.{Coded, code_by, coded×, coded_list}
use Rattle.ids.specs.contracts.names.EventName as event
use Rattle.ids.specs.contracts.names.VatNo as vat
use Rattle.ids.specs.declared.names.EventName.{EventName}
use Rattle.ids.specs.declared.names.VatNo.{VatNo}
use Rattle.values.specs.contracts.value.Value as value
use Rattle.values.specs.declared.value.Value.{Value}
use Rattle.heap.specs.contracts.made.Made as made
use Rattle.heap.specs.contracts.reach.Footprint as footprint
use Rattle.heap.specs.contracts.state.VatState as state
use Rattle.heap.specs.declared.made.Made.{Made}
use Rattle.heap.specs.declared.reach.Footprint.{Footprint}
use Rattle.heap.specs.declared.state.VatState.{VatState}

-- the state that the turn began with, what it touched there, and what it has made: its slots and its objects, by number
pub record Drafted : Type 0 where
  pub began : VatState
  pub footprint : Footprint
  pub event : EventName
  pub vat : VatNo
  pub slots : List Value
  pub objects : List Made

-- which is stored as the pairs of its fields
abbrev pub drafted_code : Coded Drafted
drafted_code =
    code_by (VatState × (Footprint × (EventName × (VatNo × (List Value × List Made)))))
    (coded× state.the_row.coded (coded× footprint.the_row.coded (coded× event.the_row.coded (coded× vat.the_row.coded (coded× (coded_list value.the_row.coded) (coded_list made.the_row.coded))))))
    (λ d. (d.began, (d.footprint, (d.event, (d.vat, (d.slots, d.objects))))))
    (λ p. record { began = p.0; footprint = p.1.0; event = p.1.1.0; vat = p.1.1.1.0; slots = p.1.1.1.1.0; objects = p.1.1.1.1.1 })
    (λ _. refl)
