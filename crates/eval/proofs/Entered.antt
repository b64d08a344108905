-- From the rules of calls and of Escapes to what the program's functions ensure.
use Rattle.std.proofs.Common.{◌≡◌, ℕ, ◌+◌, Bool, List, length, take, subst, refl, sym, ap, ◌∙◌, rules}
use Rattle.std.specs.Prelude.{Option, Some, None, Result, Ok, Err, Vec, vec_len}
use Rattle.std.specs.declared.alloc.Global.{Global}
use Rattle.ids.specs.declared.names.EjId.{EjId}
use Rattle.kernele.specs.Tree.{Name, Tree, Trees, call, escape_tree}
use Rattle.code.specs.View.{tree_of_code, trees_of_codes}
use Rattle.code.specs.declared.code.Code.{Code}
use Rattle.kernele.specs.declared.tree.Pattern.{Pattern}
use Rattle.kernele.specs.declared.tree.Pattern.TheVariants as pattern
use Rattle.values.specs.Data.{Val, null, ejector}
use Rattle.heap.specs.State.{Nouns}
use Rattle.eval_rules.specs.At.{At}
use Rattle.values.specs.View.{val_of}
use Rattle.values.specs.declared.value.Value.{Value}
use Rattle.eval_rules.specs.Doings.{behind, given_by, resolver_end, resolver_out}
use Rattle.eval_rules.specs.Outcomes.{End, Halt, value, halt, Gather, halted}
use Rattle.eval_rules.specs.Rules.{Target, inside, leaving, gives, enters, target_of, called, next_ejector, escaping, escape_end, Ends, Runs, run_call_gives, run_call_enters, run_call_uses, run_escape, Args, Items, Taking}
use Rattle.heap.specs.declared.state.Noun.{Noun}
use Rattle.eval_rules.specs.Locals.{captured_in, names_in}
use Rattle.eval_rules.specs.View.{at, opened_of}
use Rattle.eval_rules.specs.declared.local.Local.{Local}
use Rattle.eval_rules.specs.declared.end.Stop.{Stop}
use Rattle.eval_rules.specs.declared.end.Stop.TheVariants as stop
use Rattle.eval_rules.specs.declared.entry.MethodEntry.{MethodEntry}
use Rattle.eval_rules.specs.declared.working.Working.{Working}
use Rattle.eval_objects.specs.View.{Comes, gave, used, Led, OnEntry, OnTarget, entry_target}
use Rattle.eval_rules.proofs.Opened.{taking_opened}
use Rattle.eval_rules.proofs.Doings.{called_works}
use Rattle.eval_rules.proofs.Steps.{runs_to, args_as}
use Rattle.eval_rules.proofs.Ejectors.{opened_truncated}
use Rattle.eval_quick.specs.Direct.{EnteredOrNot, IsEntered}
use Rattle.eval_quick.specs.declared.direct.Entered.{Entered}
use Rattle.eval.specs.Leading.{Leads}

-- what a method's block does, where the caller's names come back behind it
abbrev pub Enters : ℕ → Trees → Nouns → At → End → At → Type 0
Enters k ts ns a o z = (d : At) × Items k null ts (inside ns a) o d × (z ≡ leaving a d)

pub entered : {k : ℕ} {ts bodies : Trees} {o : End} → bodies ≡ ts → (ns : Nouns) (w u : Working) {b z : At} {captured : List Noun} {older : ℕ} {names : List Local} {own : Bool} → captured ≡ captured_in w.captured → older ≡ w.older → names ≡ w.nouns.items → own ≡ w.own_scope → b ≡ inside ns (at w) → Items k null bodies b o (at u)
    → z ≡ record (at u) { nouns = names_in captured older names; own_scope = own } → Enters k ts ns (at w) o z
entered {k = k} {ts = ts} {o = o} d ns w u {b = b} p n e f q r h = (at u, subst (λ x. Items k null ts x o (at u)) q (subst (λ us. Items k null us b o (at u)) d r), h ∙ (λ i. record (at u) { nouns = names_in (p i) (n i) (e i); own_scope = f i }))

-- a call reads no name: behind it are those of before
left_behind : (v : Val) (verb : Name) (g : Gather) (y c d : At) → y ≡ called v verb g c → leaving y d ≡ leaving c d
left_behind v verb g y c d e = ap (λ z. leaving z d) (e ∙ called_works v verb g c)

-- a call whose parts are known otherwise
pub call_as : {k : ℕ} {r s : Code} {verb : Name} {xs ys : List Code} {a b : At} {o : End} → r ≡ s → xs ≡ ys → Runs k (call (tree_of_code r) verb (trees_of_codes xs)) a o b → Runs k (call (tree_of_code s) verb (trees_of_codes ys)) a o b
call_as {k = k} {s = s} {verb = verb} {xs = xs} {a = a} {b = b} {o = o} e f h =
    subst (λ xs. Runs k (call (tree_of_code s) verb (trees_of_codes xs)) a o b) f (subst (λ r. Runs k (call (tree_of_code r) verb (trees_of_codes xs)) a o b) e h)

-- a call that came to an end by what it leads to
came_to : {k : ℕ} {r : Tree} {verb : Name} {xs ys : List Code} {a b c z : At} {v : Val} {m : Target} {o : End} → xs ≡ ys → Ends (k + 1) r a (value v) b → Leads (k + 1) (trees_of_codes xs) v verb b m c → Comes m c o z → Runs k (call r verb (trees_of_codes ys)) a o z
came_to same p l gave = runs_to (run_call_gives p (args_as same l.args) (sym l.target)) refl l.place
came_to same p l (used {p = q} {d = d}) =
    let place = l.place in
    runs_to (run_call_uses p (args_as same l.args) (sym l.target)) (ap (λ c. resolver_end (given_by d c)) place) (ap (λ c. resolver_out q (given_by d c) (behind d c)) place)

-- a call that enters no method
pub call_came : {k : ℕ} {r : Tree} {verb : Name} {xs ys : List Code} {a b z : At} {v : Val} {o : End} → xs ≡ ys → Ends (k + 1) r a (value v) b → Led (Leads (k + 1) (trees_of_codes xs) v verb b) o z → Runs k (call r verb (trees_of_codes ys)) a o z
call_came same p h = came_to same p h.2 h.3

-- what is said of a method that is entered, and of a call that enters none
pub on_method : (m : Option MethodEntry) (v : Value) (P : Target → At → Type 0) (b : At) {e : MethodEntry} → m ≡ Some e → OnEntry m v P b → P (entry_target e) b
on_method m v P b is h = subst (λ m. OnEntry m v P b) is h

pub on_none : (m : Option MethodEntry) (v : Value) (P : Target → At → Type 0) (b : At) → m ≡ None → OnEntry m v P b → Led P (value (val_of v)) b
on_none m v P b is h = subst (λ m. OnEntry m v P b) is h

-- a call that enters a method
pub call_entered : {k : ℕ} {r : Tree} {verb : Name} {xs ys : List Code} {a b y z : At} {v : Val} {m : Target} {ns : Nouns} {body : Trees} {o : End} → xs ≡ ys → Ends (k + 1) r a (value v) b → Leads (k + 1) (trees_of_codes xs) v verb b m y → m ≡ enters ns body
    → Enters (k + 1) body ns y o z → Runs k (call r verb (trees_of_codes ys)) a o z
call_entered {k = k} {verb = verb} {y = y} {v = v} {ns = ns} {body = body} {o = o} same p l e h =
    let place = l.place in
    runs_to (run_call_enters {c = l.behind} {d = h.0} p (args_as same l.args) (sym l.target ∙ e) (subst (λ y. Items (k + 1) null body (inside ns y) o h.0) place h.1)) refl
    (h.2 ∙ left_behind v verb l.gather y l.behind h.0 place)

-- as many Escapes are being evaluated as their vector says
pub as_many : (opened : Vec EjId Global) {n : ℕ} → n ≡ vec_len opened → n ≡ length opened.items
as_many opened e = search rules

-- an Escape is over
pub escape_over : {k : ℕ} {ts : Trees} {o p : End} (x : Name) (xs : List Code) (w u : Working) {q : Pattern} {j : EjId} {b z : At} {n : ℕ} → n ≡ length w.opened.items → j ≡ next_ejector (at w) → b ≡ escaping (at w) → q ≡ pattern.Name x → trees_of_codes xs ≡ ts
    → Taking (k + 1) q (ejector j) (trees_of_codes xs) b o (at u) → z ≡ record (at u) { opened = opened_of (take n u.opened.items) } → p ≡ escape_end j o → Runs k (escape_tree x ts) (at w) p z
escape_over {k = k} {ts = ts} {o = o} x xs w u {q = q} {j = j} {b = b} {z = z} {n = n} l e f g s r h m =
    let taken : Taking (k + 1) (pattern.Name x) (ejector (next_ejector (at w))) ts (escaping (at w)) o (at u) =
    subst (λ ts. Taking (k + 1) (pattern.Name x) (ejector (next_ejector (at w))) ts (escaping (at w)) o (at u)) s
    (subst (λ q. Taking (k + 1) q (ejector (next_ejector (at w))) (trees_of_codes xs) (escaping (at w)) o (at u)) g
    (subst (λ b. Taking (k + 1) q (ejector (next_ejector (at w))) (trees_of_codes xs) b o (at u)) f
    (subst (λ j. Taking (k + 1) q (ejector j) (trees_of_codes xs) b o (at u)) e r))) in
    subst (λ p. Runs k (escape_tree x ts) (at w) p z) (sym (m ∙ ap (λ j. escape_end j o) e))
    (subst (λ z. Runs k (escape_tree x ts) (at w) (escape_end (next_ejector (at w)) o) z) (sym (h ∙ ap (λ is. record (at u) { opened = is }) (opened_truncated w.opened.items u.opened.items n (next_ejector (at w)) l (taking_opened taken)))) (run_escape taken))

-- a call leads where its arguments have been evaluated
leads_there : {k : ℕ} {ts : Trees} {a b z : At} {g : Gather} {m : Target} (v : Val) (verb : Name) → Args k ts a g b → (m ≡ target_of v verb g b) × (z ≡ called v verb g b) → Leads k ts v verb a m z
leads_there {b = b} {g = g} v verb u h = record { gather = g; behind = b; args = u; target = h.0; place = h.1 }

led_there : {k : ℕ} {ts : Trees} {a b z : At} {g : Gather} {o : End} (v : Val) (verb : Name) → Args k ts a g b → Led (λ t z. (t ≡ target_of v verb g b) × (z ≡ called v verb g b)) o z → Led (Leads k ts v verb a) o z
led_there v verb u h = (h.0, h.1, leads_there v verb u h.2, h.3)

pub call_leads : (r : Result (Option MethodEntry) Stop) (into : Value) (w : Working) {k : ℕ} {ts : Trees} {a b : At} {g : Gather} (v : Val) (verb : Name) → Args k ts a g b → OnTarget r into w (λ t z. (t ≡ target_of v verb g b) × (z ≡ called v verb g b)) → OnTarget r into w (Leads k ts v verb a)
call_leads (Ok (Some e)) into w v verb u h = leads_there v verb u h
call_leads (Ok None) into w v verb u h = led_there v verb u h
call_leads (Err stop.Memory) into w v verb u h = tt
call_leads (Err stop.Halted) into w v verb u h = led_there v verb u h

-- a call whose arguments are halted
pub call_halts : {k : ℕ} {ts : Trees} {a b : At} (v : Val) (verb : Name) (h : Halt) → Args k ts a (halted h) b → Led (Leads k ts v verb a) (halt h) b
call_halts {b = b} v verb h u = (gives (halt h), b, record { gather = halted h; behind = b; args = u; target = refl; place = refl }, gave)

-- whether a call entered a method is known
pub entered_so : (m : Option Entered) {k : ℕ} (e : Entered) (t : Tree) (a b : At) → m ≡ Some e → EnteredOrNot m k t a b → IsEntered e k t a b
entered_so m {k = k} e t a b is h = subst (λ m. EnteredOrNot m k t a b) is h

pub entered_not : (m : Option Entered) (k : ℕ) (t : Tree) (a b : At) → m ≡ None → EnteredOrNot m k t a b → b ≡ a
entered_not m k t a b is h = subst (λ m. EnteredOrNot m k t a b) is h

-- a call that entered a method ends as the method's block does, once its caller's names are back
pub call_at_hand_over : {k : ℕ} {r s : Code} {verb : Name} {xs ys items : List Code} {o : End} (e : Entered) {a b d z : At} → r ≡ s → xs ≡ ys → items ≡ e.body.value.items → IsEntered e k (call (tree_of_code r) verb (trees_of_codes xs)) a b → Items (k + 1) null (trees_of_codes items) b o d
    → z ≡ record d { nouns = names_in (captured_in e.caller.captured) e.caller.older e.caller.nouns.items; own_scope = e.caller.own_scope } → Runs k (call (tree_of_code s) verb (trees_of_codes ys)) a o z
call_at_hand_over {k = k} {o = o} e {b = b} {d = d} same args body method items place =
    runs_to (call_as same args (method.runs o d (subst (λ us. Items (k + 1) null (trees_of_codes us) b o d) body items))) refl (place ∙ (λ i. record d { nouns = method.names i; own_scope = method.own_scope i }))
