-- What the program's calls stand for.
use Rattle.std.specs.Prelude.{Option, Some, None, Result}
use Rattle.code.specs.View.{trees_of_codes}
use Rattle.ids.specs.declared.names.PromId.{PromId}
use Rattle.kernele.specs.Tree.{Name}
use Rattle.values.specs.Data.{Vals}
use Rattle.values.specs.View.{val_of}
use Rattle.values.specs.declared.value.Value.{Value}
use Rattle.eval_rules.specs.At.{At}
use Rattle.heap.specs.View.{nouns_of}
use Rattle.eval_rules.specs.Locals.{captured_in, locals_after}
use Rattle.eval_rules.specs.Outcomes.{End, value, halt}
use Rattle.eval_rules.specs.Rules.{Callee, on_object, on_ejector, on_datum, on_far, Target, gives, enters, uses, resolver_target, no_such_method}
use Rattle.eval_rules.specs.Answered.{OnAnswer}
use Rattle.eval_rules.specs.Doings.{given_by, behind, resolver_end, resolver_out}
use Rattle.sends.specs.Vats.{Vat}
use Rattle.sends.specs.Making.{Making, Published}
use Rattle.eval_rules.specs.declared.end.Stop.{Stop}
use Rattle.eval_rules.specs.declared.entry.MethodEntry.{MethodEntry}
use Rattle.eval_rules.specs.declared.working.Working.{Working}
use Rattle.eval_objects.specs.declared.objects.Met.{Met}
use Rattle.eval_objects.specs.declared.objects.Met.TheVariants as met
use Rattle.eval_objects.specs.declared.calls.Callee as code-callee
use Rattle.eval_objects.specs.declared.calls.Callee.TheVariants as code-callees

-- what a call is made on
abbrev pub callee_view : code-callee.Callee → Callee
callee_view (code-callees.Object i) = on_object i
callee_view (code-callees.Ejector j) = on_ejector j
callee_view code-callees.Datum = on_datum
callee_view code-callees.Far = on_far

-- what a call comes to that enters no method: what it gives, or what the use of a resolver gives and leaves
pub data Comes : Target → At → End → At → Type 0 where
  gave : {o : End} {a : At} → Comes (gives o) a o a
  used : {p : PromId} {d : Vat (Making Published)} {a : At} → Comes (uses p d) a (resolver_end (given_by d a)) (resolver_out p (given_by d a) (behind d a))

-- a call of which this holds came to this end, here
abbrev pub Led : (Target → At → Type 0) → End → At → Type 0
Led P o b = (t : Target) × (a : At) × P t a × Comes t a o b

abbrev pub entry_target : MethodEntry → Target
entry_target e = enters (locals_after (nouns_of (captured_in e.captured)) e.nouns.items) (trees_of_codes e.body.value.items)

-- what a call leads to that enters a method, or else this
abbrev pub entered_or : Target → Option MethodEntry → Target
entered_or t (Some e) = entry_target e
entered_or t None = t

-- what a call meets on an object
abbrev pub met_as : Met → Name → Vals → Target
met_as (met.Method e) verb vs = entry_target e
met_as (met.Resolver p) verb vs = resolver_target p verb vs
met_as met.Nothing verb vs = gives (no_such_method verb vs)

abbrev pub IsNoMethod : Met → Type 0
IsNoMethod (met.Method e) = ⊥
IsNoMethod _ = Unit {0}

-- of a method that is entered, or of a value where none is
abbrev pub OnEntry : Option MethodEntry → Value → (Target → At → Type 0) → At → Type 0
OnEntry (Some e) v P b = P (entry_target e) b
OnEntry None v P b = Led P (value (val_of v)) b

-- for the answer of a call, whose value is put into a place where it enters no method: this holds of what it leads to
abbrev pub OnTarget : Result (Option MethodEntry) Stop → Value → Working → (Target → At → Type 0) → Type 0
OnTarget answer v w P = OnAnswer answer w (λ e b. OnEntry e v P b) (λ h b. Led P (halt h) b)
