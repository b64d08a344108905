use Rattle.std.proofs.Common.{◌≡◌, ◌++◌, ◌∷◌, [], List, Some, None, Vec, Global, sym, ap, ◌∙◌, arith}
use Rattle.values.specs.Data.{Val, no_vals, and_val}
use Rattle.values.specs.Replies.{joined}
use Rattle.values.specs.View.{val_of, vals_of}
use Rattle.values.specs.declared.value.Value.{Value}
use Rattle.values.proofs.Tables.{joined-vals_of}
use Rattle.refs.specs.Forms.{formed}
use Rattle.refs.proofs.Making.{in_row}
use Rattle.refs.proofs.settling.with_form.Goals as goal
use Rattle.refs.proofs.settling.with_form.Goals.{in-Some-default, in-None-Other+in_ok-row-in-None-Other}

pushed : (row new : List Value) (x : Value) (w : Val) → new ≡ row ++ x ∷ [] → val_of x ≡ w → vals_of new ≡ joined (vals_of row) (and_val w no_vals)
pushed row new x w e f = ap vals_of e ∙ joined-vals_of row (x ∷ []) ∙ ap (λ v. joined (vals_of row) (and_val v no_vals)) f

pub returns : goal.returns
returns c =
    let own = vals_of c.args.before.now in
    let v = formed (val_of c.args.item.now) c.args.form in
    let r : vals_of c.match-row.row.items ≡ in_row own c.args.row = elim c.match-row.branch [
      | in-Some-default w ↦ let s : c.args.row ≡ Some c.match-row.row = grind arith in sym (ap (in_row own) s)
      | in-None-Other+in_ok-row-in-None-Other w ↦ let s : c.args.row ≡ None = grind arith in ap (λ (x : Vec Value Global). vals_of x.items) w.row-is ∙ w.in_ok-row-in-None-Other.ensures ∙ sym (ap (in_row own) s)
    ] in
    pushed c.match-row.row.items c.push.new.self.items c.in_ok-into_value.field-0 v c.in_ok-push.ensures.items c.in_ok-into_value.ensures ∙ ap (λ us. joined us (and_val v no_vals)) r
