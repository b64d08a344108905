-- What is told of an object, from what the program has of it.
use Rattle.std.specs.Prelude.{ℕ, List, [], ◌∷◌, ◌++◌, map, codes, string_bytes}
use Rattle.std.specs.Option.{option_map}
use Rattle.ids.specs.Names.{object_text}
use Rattle.ids.specs.declared.names.VatNo.{VatNo}
use Rattle.kernele.specs.Spelling.{bound_name, message}
use Rattle.kernele.specs.Tree.{Name}
use Rattle.heap.specs.State.{Object, plain, resolver, made}
use Rattle.heap.specs.View.{object_of}
use Rattle.stepper_printing.specs.Show.{content_text}
use Rattle.stepper_questions.specs.Deliveries.{captured_lines}
use Rattle.stepper_questions.specs.DeliveriesView.{braced}
use Rattle.stepper_questions.specs.declared.object.Owned.{Owned}
use Rattle.stepper_questions.specs.declared.object.ToldMethod.{ToldMethod}
use Rattle.stepper_questions.specs.declared.object.ToldObject.{ToldObject}

-- the vat, its name, and the object
abbrev pub owned_of : Owned → VatNo × Name × Object
owned_of o = (o.name.vat, o.owner.now, object_of o.object.now)

-- the lines of what an object captured; a resolver captured nothing
abbrev pub captured_in : Object → List ℕ
captured_in (plain p) = captured_lines p.captured
captured_in (resolver p) = []

abbrev pub told_method_line : ToldMethod → List ℕ
told_method_line m = codes " method " ++ (message m.method.now.verb (map bound_name m.method.now.parameters.value.items) ++ codes " " ++ braced (option_map string_bytes m.body) ++ (10 ∷ []))

abbrev pub told_method_lines : List ToldMethod → List ℕ
told_method_lines [] = []
told_method_lines (m ∷ ms) = told_method_line m ++ told_method_lines ms

abbrev pub told_object_text : ToldObject → List ℕ
told_object_text t =
    codes "object " ++ (object_text t.name ++ (codes " " ++ (content_text (made (object_of t.object.now)) ++ (codes "\n at " ++ (t.owner ++ (10 ∷ (captured_in (object_of t.object.now) ++ told_method_lines t.methods.items)))))))
