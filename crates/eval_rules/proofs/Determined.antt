-- At most one outcome.
use Rattle.std.proofs.Common.{◌≡◌, ℕ, [], Option, Some, None, Bool, true, false, refl, sym, ap, ◌∙◌, subst, arith}
use Rattle.kernele.specs.Tree.{Name, Tree, Trees, none}
use Rattle.kernele.specs.declared.tree.Pattern.{Pattern}
use Rattle.values.specs.Data.{Val, null, text, Vals, no_vals}
use Rattle.heap.specs.State.{Nouns}
use Rattle.eval_rules.specs.At.{At}
use Rattle.eval_rules.specs.Outcomes.{Halt, End, value, halt, Gather, values, halted}
use Rattle.eval_rules.specs.Rules.{Listing, listed, unlisted, listing_of, parts_of, parts_bound, parts_end, Choice, goes, ends, choice_of, chosen, primitive_end, caught, leaving, again, sought_slot, defined, declared, declared_end, assigned, assigned_end, Target, gives, enters, target_of, called, inside, next_ejector, escaped, escape_end, list_end, gather_first, Ends, at_budget, at_depth, at_node, Runs, run_null, run_bool, run_int, run_text, run_noun, run_define, run_variable, run_assign, run_call_receiver, run_call_gives, run_call_enters, run_call_uses, run_send_receiver, run_send, run_list, run_same_left, run_same, run_define_list, run_hide, run_primitive, run_if_goes, run_if_ends, run_while_again, run_while_halts, run_while_done, run_while_ends, run_for, run_for_ends, run_try, run_try_caught, run_object, run_escape, run_when, run_when_catch, run_new_promise, Needs, needs, Args, args_none, args_next, args_halt, Items, items_none, items_next, items_halt, Block, in_block, Taking, in_taking, Each, each_none, each_next, each_halt, uses, when_end, when_made}
use Rattle.eval_rules.specs.Doings.{same_end, same_read, sent_end, sent_at, datum_of, datum_read, given_by, behind, resolver_end, resolver_out}
use Rattle.post.specs.Delivery.{Handler}
use Rattle.sends.specs.Vats.{Vat}
use Rattle.sends.specs.Making.{Making, Published}
use Rattle.ids.specs.declared.names.PromId.{PromId}

-- the same end, at the same place
pub record Same {A : Type 0} (o p : A) (b c : At) : Type 0 where
  pub end : o ≡ p
  pub place : b ≡ c

alike : {A : Type 0} {o : A} {b : At} → Same o o b b
alike = record { end = refl; place = refl }

-- the same function of the same things
along : {A B : Type 0} {o p : A} {b c : At} (f : A → At → B) (g : A → At → At) → Same o p b c → Same (f o b) (f p c) (g o b) (g p c)
along f g s = record { end = λ i. f (s.end i) (s.place i); place = λ i. g (s.end i) (s.place i) }

-- the same functions of values, ends and places that are the same
over_value : {A B : Type 0} {v w : Val} {o p : A} {b c : At} (f : Val → A → At → B) (g : Val → A → At → At) → v ≡ w → Same o p b c → Same (f v o b) (f w p c) (g v o b) (g w p c)
over_value f g e s = record { end = λ i. f (e i) (s.end i) (s.place i); place = λ i. g (e i) (s.end i) (s.place i) }

-- the same function of a value and an end that are the same
with_value : {A B : Type 0} {v w : Val} {o p : A} {b c : At} (f : Val → A → B) → v ≡ w → Same o p b c → Same (f v o) (f w p) b c
with_value f e s = record { end = λ i. f (e i) (s.end i); place = s.place }

value_halt : {v : Val} {h : Halt} → value v ≡ halt h → ⊥
value_halt e = cc

value_in : Val → End → Val
value_in u (value v) = v
value_in u (halt h) = u

value_same : {v w : Val} → value v ≡ value w → v ≡ w
unfolding value_in
value_same {v = v} e = ap (value_in v) e

gathered : End → Gather
gathered (value v) = values no_vals
gathered (halt h) = halted h

halted_same : {h j : Halt} → halt h ≡ halt j → halted h ≡ halted j
unfolding gathered
halted_same e = ap gathered e

goes_ends : {q : Bool} {o : End} → goes q ≡ ends o → ⊥
goes_ends e = cc

false_true : false ≡ true → ⊥
false_true e = cc

listed_unlisted : {vs : Vals} {o : End} → listed vs ≡ unlisted o → ⊥
listed_unlisted e = cc

none_some : {x : Name} → None ≡ Some x → ⊥
none_some e = cc

way_in : Choice → Bool
way_in (goes q) = q
way_in (ends o) = false

goes_same : {q r : Bool} → goes q ≡ goes r → q ≡ r
unfolding way_in
goes_same e = ap way_in e

end_in : End → Choice → End
end_in o (goes q) = o
end_in o (ends p) = p

ends_alike : {o p : End} → ends o ≡ ends p → o ≡ p
unfolding end_in
ends_alike {o = o} e = ap (end_in o) e

items_in : Listing → Vals
items_in (listed vs) = vs
items_in (unlisted o) = no_vals

listed_same : {vs ws : Vals} → listed vs ≡ listed ws → vs ≡ ws
unfolding items_in
listed_same e = ap items_in e

unlisted_in : End → Listing → End
unlisted_in o (listed vs) = o
unlisted_in o (unlisted p) = p

unlisted_same : {o p : End} → unlisted o ≡ unlisted p → o ≡ p
unfolding unlisted_in
unlisted_same {o = o} e = ap (unlisted_in o) e

some_in : Name → Option Name → Name
some_in x (Some y) = y
some_in x None = x

some_same : {x y : Name} → Some x ≡ Some y → x ≡ y
unfolding some_in
some_same {x = x} e = ap (some_in x) e

gives_enters : {o : End} {ns : Nouns} {body : Trees} → gives o ≡ enters ns body → ⊥
gives_enters e = cc

gives_uses : {o : End} {p : PromId} {d : Vat (Making Published)} → gives o ≡ uses p d → ⊥
gives_uses e = cc

enters_uses : {ns : Nouns} {body : Trees} {p : PromId} {d : Vat (Making Published)} → enters ns body ≡ uses p d → ⊥
enters_uses e = cc

given_in : End → Target → End
given_in o (gives p) = p
given_in o (enters ns body) = o
given_in o (uses p d) = o

gives_same : {o p : End} → gives o ≡ gives p → o ≡ p
unfolding given_in
gives_same {o = o} e = ap (given_in o) e

names_in : Target → Nouns
names_in (gives o) = []
names_in (enters ns body) = ns
names_in (uses p d) = []

names_same : {ns ms : Nouns} {bs cs : Trees} → enters ns bs ≡ enters ms cs → ns ≡ ms
unfolding names_in
names_same e = ap names_in e

body_in : Target → Trees
body_in (gives o) = none
body_in (enters ns body) = body
body_in (uses p d) = none

bodies_same : {ns ms : Nouns} {bs cs : Trees} → enters ns bs ≡ enters ms cs → bs ≡ cs
unfolding body_in
bodies_same e = ap body_in e

-- the use of a resolver, where a call leads to one
abbrev used_end : Target → At → End
used_end (gives o) a = o
used_end (enters ns body) a = value null
used_end (uses p d) a = resolver_end (given_by d a)

abbrev used_place : Target → At → At
used_place (gives o) a = a
used_place (enters ns body) a = a
used_place (uses p d) a = resolver_out p (given_by d a) (behind d a)

uses_same : {p q : PromId} {d e : Vat (Making Published)} {a b : At} → uses p d ≡ uses q e → a ≡ b
    → Same (resolver_end (given_by d a)) (resolver_end (given_by e b)) (resolver_out p (given_by d a) (behind d a)) (resolver_out q (given_by e b) (behind e b))
uses_same x y = record { end = λ i. used_end (x i) (y i); place = λ i. used_place (x i) (y i) }

-- what calls lead to that are the same
targets_meet : (verb : Name) {v w : Val} {g h : Gather} {b c : At} {x y : Target} → v ≡ w → Same g h b c → target_of v verb g b ≡ x → target_of w verb h c ≡ y → x ≡ y
targets_meet verb p z e f = sym e ∙ (λ i. target_of (p i) verb (z.end i) (z.place i)) ∙ f

-- where calls stand that are the same
called_same : (verb : Name) {v w : Val} {g h : Gather} {b c : At} → v ≡ w → Same g h b c → called v verb g b ≡ called w verb h c
called_same verb p z = λ i. called (p i) verb (z.end i) (z.place i)

-- what one function gives of two ends that are the same
meet : {A : Type 0} {o p : End} {b c : At} {x y : A} (f : End → A) → Same o p b c → f o ≡ x → f p ≡ y → x ≡ y
meet f t e g = sym e ∙ ap f t.end ∙ g

-- the same derivation, from the same place
ends_at : {k : ℕ} {t : Tree} {a b d : At} {o : End} → a ≡ b → Ends k t b o d → Ends k t a o d
ends_at {k = k} {t = t} {d = d} {o = o} q r = subst (λ x. Ends k t x o d) (sym q) r

args_at : {k : ℕ} {ts : Trees} {a b d : At} {g : Gather} → a ≡ b → Args k ts b g d → Args k ts a g d
args_at {k = k} {ts = ts} {d = d} {g = g} q r = subst (λ x. Args k ts x g d) (sym q) r

items_at : {k : ℕ} {v w : Val} {ts : Trees} {a b d : At} {o : End} → v ≡ w → a ≡ b → Items k w ts b o d → Items k v ts a o d
items_at {k = k} {w = w} {ts = ts} {a = a} {d = d} {o = o} p q r = subst (λ v. Items k v ts a o d) (sym p) (subst (λ x. Items k w ts x o d) (sym q) r)

method_at : {k : ℕ} {ns ms : Nouns} {bs cs : Trees} {a b d : At} {o : End} → enters ns bs ≡ enters ms cs → a ≡ b → Items k null cs (inside ms b) o d → Items k null bs (inside ns a) o d
method_at {k = k} {ns = ns} {cs = cs} {a = a} {d = d} {o = o} p q r =
    subst (λ ts. Items k null ts (inside ns a) o d) (sym (bodies_same p))
    (subst (λ x. Items k null cs x o d) (λ i. inside (sym (names_same p) i) (sym q i)) r)

runs_at : {k : ℕ} {t : Tree} {a b d : At} {o : End} → a ≡ b → Runs k t b o d → Runs k t a o d
runs_at {k = k} {t = t} {d = d} {o = o} q r = subst (λ x. Runs k t x o d) (sym q) r

block_at : {k : ℕ} {ts us : Trees} {a b d : At} {o : End} → ts ≡ us → a ≡ b → Block k us b o d → Block k ts a o d
block_at {k = k} {us = us} {a = a} {d = d} {o = o} p q r = subst (λ ts. Block k ts a o d) (sym p) (subst (λ x. Block k us x o d) (sym q) r)

taking_at : {k : ℕ} {p : Pattern} {v w : Val} {ts : Trees} {a b d : At} {o : End} → v ≡ w → a ≡ b → Taking k p w ts b o d → Taking k p v ts a o d
taking_at {k = k} {p = p} {w = w} {ts = ts} {a = a} {d = d} {o = o} e q r = subst (λ v. Taking k p v ts a o d) (sym e) (subst (λ x. Taking k p w ts x o d) (sym q) r)

each_at : {k : ℕ} {p : Pattern} {ts : Trees} {vs ws : Vals} {a b d : At} {o : End} → vs ≡ ws → a ≡ b → Each k p ts ws b o d → Each k p ts vs a o d
each_at {k = k} {p = p} {ts = ts} {ws = ws} {a = a} {d = d} {o = o} e q r = subst (λ vs. Each k p ts vs a o d) (sym e) (subst (λ x. Each k p ts ws x o d) (sym q) r)

mutual
  pub ends_same : {k : ℕ} {t : Tree} {a b c : At} {o p : End} → Ends k t a o b → Ends k t a p c → Same o p b c
  ends_same (at_budget h) (at_budget i) = alike
  ends_same (at_budget h) (at_depth i j) = absurd (omega arith)
  ends_same (at_budget h) (at_node i j r) = absurd (omega arith)
  ends_same (at_depth h g) (at_budget i) = absurd (omega arith)
  ends_same (at_depth h g) (at_depth i j) = alike
  ends_same (at_depth h g) (at_node i j r) = absurd (omega arith)
  ends_same (at_node h g r) (at_budget i) = absurd (omega arith)
  ends_same (at_node h g r) (at_depth i j) = absurd (omega arith)
  ends_same (at_node h g r) (at_node i j s) = runs_same r s

  pub runs_same : {k : ℕ} {t : Tree} {a b c : At} {o p : End} → Runs k t a o b → Runs k t a p c → Same o p b c
  runs_same run_null run_null = alike
  runs_same run_bool run_bool = alike
  runs_same run_int run_int = alike
  runs_same run_text run_text = alike
  runs_same run_noun run_noun = alike
  runs_same (run_define {p = p} r) (run_define s) = along (λ o b. o) (λ o b. defined p o b) (ends_same r s)
  runs_same (run_variable {x = x} r) (run_variable s) = along (λ o b. declared_end o b) (λ o b. declared x o b) (ends_same r s)
  runs_same (run_assign {x = x} r) (run_assign s) = along (λ o b. assigned_end x o (sought_slot x b)) (λ o b. assigned x o b) (ends_same r s)
  runs_same (run_call_receiver r) (run_call_receiver s) = ends_same r s
  runs_same (run_call_receiver r) (run_call_gives s u f) = absurd (value_halt (sym (ends_same r s).end))
  runs_same (run_call_receiver r) (run_call_enters s u f w) = absurd (value_halt (sym (ends_same r s).end))
  runs_same (run_call_receiver r) (run_call_uses s u f) = absurd (value_halt (sym (ends_same r s).end))
  runs_same (run_call_gives r q e) (run_call_receiver s) = absurd (value_halt (ends_same r s).end)
  runs_same (run_call_gives {verb = verb} r q e) (run_call_gives s u f) =
      let t = ends_same r s in
      let z = args_same q (args_at t.place u) in
      record { end = gives_same (targets_meet verb (value_same t.end) z e f); place = called_same verb (value_same t.end) z }
  runs_same (run_call_gives {verb = verb} r q e) (run_call_enters s u f w) = let t = ends_same r s in absurd (gives_enters (targets_meet verb (value_same t.end) (args_same q (args_at t.place u)) e f))
  runs_same (run_call_gives {verb = verb} r q e) (run_call_uses s u f) = let t = ends_same r s in absurd (gives_uses (targets_meet verb (value_same t.end) (args_same q (args_at t.place u)) e f))
  runs_same (run_call_enters r q e v) (run_call_receiver s) = absurd (value_halt (ends_same r s).end)
  runs_same (run_call_enters {verb = verb} r q e v) (run_call_gives s u f) = let t = ends_same r s in absurd (gives_enters (sym (targets_meet verb (value_same t.end) (args_same q (args_at t.place u)) e f)))
  runs_same (run_call_enters {verb = verb} r q e v) (run_call_enters s u f w) =
      let t = ends_same r s in
      let z = args_same q (args_at t.place u) in
      let y = items_same v (method_at (targets_meet verb (value_same t.end) z e f) (called_same verb (value_same t.end) z) w) in
      record { end = y.end; place = λ i. leaving (z.place i) (y.place i) }
  runs_same (run_call_enters {verb = verb} r q e v) (run_call_uses s u f) = let t = ends_same r s in absurd (enters_uses (targets_meet verb (value_same t.end) (args_same q (args_at t.place u)) e f))
  runs_same (run_call_uses r q e) (run_call_receiver s) = absurd (value_halt (ends_same r s).end)
  runs_same (run_call_uses {verb = verb} r q e) (run_call_gives s u f) = let t = ends_same r s in absurd (gives_uses (sym (targets_meet verb (value_same t.end) (args_same q (args_at t.place u)) e f)))
  runs_same (run_call_uses {verb = verb} r q e) (run_call_enters s u f w) = let t = ends_same r s in absurd (enters_uses (sym (targets_meet verb (value_same t.end) (args_same q (args_at t.place u)) e f)))
  runs_same (run_call_uses {verb = verb} r q e) (run_call_uses s u f) =
      let t = ends_same r s in
      let z = args_same q (args_at t.place u) in
      uses_same (targets_meet verb (value_same t.end) z e f) (called_same verb (value_same t.end) z)
  runs_same (run_send_receiver r) (run_send_receiver s) = ends_same r s
  runs_same (run_send_receiver r) (run_send s u) = absurd (value_halt (sym (ends_same r s).end))
  runs_same (run_send r q) (run_send_receiver s) = absurd (value_halt (ends_same r s).end)
  runs_same (run_send {verb = verb} r q) (run_send s u) = let t = ends_same r s in over_value sent_end (sent_at verb) (value_same t.end) (args_same q (args_at t.place u))
  runs_same (run_list r) (run_list s) = along (λ g b. list_end g) (λ g b. b) (args_same r s)
  runs_same (run_same_left r) (run_same_left s) = ends_same r s
  runs_same (run_same_left r) (run_same s u) = absurd (value_halt (sym (ends_same r s).end))
  runs_same (run_same r q) (run_same_left s) = absurd (value_halt (ends_same r s).end)
  runs_same (run_same r q) (run_same s u) = let t = ends_same r s in over_value same_end same_read (value_same t.end) (ends_same q (ends_at t.place u))
  runs_same (run_define_list {ps = ps} r) (run_define_list s) = along (λ o b. parts_end o (parts_of ps (datum_of o b))) (λ o b. parts_bound ps (parts_of ps (datum_of o b)) (datum_read o b)) (ends_same r s)
  runs_same (run_hide q) (run_hide u) = block_same q u
  runs_same {a = a} (run_primitive {q = q} r) (run_primitive s) = along (λ o b. primitive_end o a.vat q) (λ o b. b) (needs_same r s)
  runs_same (run_if_goes {first = first} {second = second} r e q) (run_if_goes s f u) = let t = needs_same r s in block_same q (block_at (ap (λ m. chosen m first second) (goes_same (meet choice_of t e f))) t.place u)
  runs_same (run_if_goes r e q) (run_if_ends s f) = absurd (goes_ends (meet choice_of (needs_same r s) e f))
  runs_same (run_if_ends r e) (run_if_goes s f u) = absurd (goes_ends (sym (meet choice_of (needs_same r s) e f)))
  runs_same (run_if_ends r e) (run_if_ends s f) = let t = needs_same r s in record { end = ends_alike (meet choice_of t e f); place = t.place }
  runs_same {a = a} (run_while_again r e q v) (run_while_again s f u w) = let t = needs_same r s in let z = block_same q (block_at refl t.place u) in runs_same v (runs_at (λ i. again a (z.place i)) w)
  runs_same (run_while_again r e q v) (run_while_halts s f u) = absurd (value_halt (block_same q (block_at refl (needs_same r s).place u)).end)
  runs_same (run_while_again r e q v) (run_while_done s f) = absurd (false_true (sym (goes_same (meet choice_of (needs_same r s) e f))))
  runs_same (run_while_again r e q v) (run_while_ends s f) = absurd (goes_ends (meet choice_of (needs_same r s) e f))
  runs_same (run_while_halts r e q) (run_while_again s f u w) = absurd (value_halt (sym (block_same q (block_at refl (needs_same r s).place u)).end))
  runs_same (run_while_halts r e q) (run_while_halts s f u) = let t = needs_same r s in block_same q (block_at refl t.place u)
  runs_same (run_while_halts r e q) (run_while_done s f) = absurd (false_true (sym (goes_same (meet choice_of (needs_same r s) e f))))
  runs_same (run_while_halts r e q) (run_while_ends s f) = absurd (goes_ends (meet choice_of (needs_same r s) e f))
  runs_same (run_while_done r e) (run_while_again s f u w) = absurd (false_true (goes_same (meet choice_of (needs_same r s) e f)))
  runs_same (run_while_done r e) (run_while_halts s f u) = absurd (false_true (goes_same (meet choice_of (needs_same r s) e f)))
  runs_same (run_while_done r e) (run_while_done s f) = record { end = refl; place = (needs_same r s).place }
  runs_same (run_while_done r e) (run_while_ends s f) = absurd (goes_ends (meet choice_of (needs_same r s) e f))
  runs_same (run_while_ends r e) (run_while_again s f u w) = absurd (goes_ends (sym (meet choice_of (needs_same r s) e f)))
  runs_same (run_while_ends r e) (run_while_halts s f u) = absurd (goes_ends (sym (meet choice_of (needs_same r s) e f)))
  runs_same (run_while_ends r e) (run_while_done s f) = absurd (goes_ends (sym (meet choice_of (needs_same r s) e f)))
  runs_same (run_while_ends r e) (run_while_ends s f) = let t = needs_same r s in record { end = ends_alike (meet choice_of t e f); place = t.place }
  runs_same (run_for r e q) (run_for s f u) = let t = needs_same r s in each_same q (each_at (listed_same (meet listing_of t e f)) t.place u)
  runs_same (run_for r e q) (run_for_ends s f) = absurd (listed_unlisted (meet listing_of (needs_same r s) e f))
  runs_same (run_for_ends r e) (run_for s f u) = absurd (listed_unlisted (sym (meet listing_of (needs_same r s) e f)))
  runs_same (run_for_ends r e) (run_for_ends s f) = let t = needs_same r s in record { end = unlisted_same (meet listing_of t e f); place = t.place }
  runs_same (run_try q e) (run_try u f) = block_same q u
  runs_same (run_try q e) (run_try_caught u f w) = absurd (none_some (meet caught (block_same q u) e f))
  runs_same (run_try_caught q e v) (run_try u f) = absurd (none_some (sym (meet caught (block_same q u) e f)))
  runs_same (run_try_caught q e v) (run_try_caught u f w) = let t = block_same q u in taking_same v (taking_at (ap text (some_same (meet caught t e f))) t.place w)
  runs_same run_object run_object = alike
  runs_same {a = a} (run_escape q) (run_escape u) = along (λ o b. escape_end (next_ejector a) o) (λ o b. escaped a b) (taking_same q u)
  runs_same (run_when {body = body} r) (run_when s) = along (λ o b. when_end body None o b) (λ o b. when_made body None o b) (ends_same r s)
  runs_same (run_when_catch {body = body} {p = p} {handler = handler} r) (run_when_catch s) =
      let h : Option Handler = Some (record { pattern = p; block = handler }) in
      along (λ o b. when_end body h o b) (λ o b. when_made body h o b) (ends_same r s)
  runs_same run_new_promise run_new_promise = alike

  pub needs_same : {k : ℕ} {t : Tree} {a b c : At} {o p : End} → Needs k t a o b → Needs k t a p c → Same o p b c
  needs_same (needs r) (needs s) = along (λ o b. datum_of o b) (λ o b. datum_read o b) (ends_same r s)

  pub args_same : {k : ℕ} {ts : Trees} {a b c : At} {g h : Gather} → Args k ts a g b → Args k ts a h c → Same g h b c
  args_same args_none args_none = alike
  args_same (args_next r u) (args_next s w) = let t = ends_same r s in with_value gather_first (value_same t.end) (args_same u (args_at t.place w))
  args_same (args_next r u) (args_halt s) = absurd (value_halt (ends_same r s).end)
  args_same (args_halt r) (args_next s w) = absurd (value_halt (sym (ends_same r s).end))
  args_same (args_halt r) (args_halt s) = let t = ends_same r s in record { end = halted_same t.end; place = t.place }

  pub items_same : {k : ℕ} {v : Val} {ts : Trees} {a b c : At} {o p : End} → Items k v ts a o b → Items k v ts a p c → Same o p b c
  items_same items_none items_none = alike
  items_same (items_next r u) (items_next s w) = let t = ends_same r s in items_same u (items_at (value_same t.end) t.place w)
  items_same (items_next r u) (items_halt s) = absurd (value_halt (ends_same r s).end)
  items_same (items_halt r) (items_next s w) = absurd (value_halt (sym (ends_same r s).end))
  items_same (items_halt r) (items_halt s) = ends_same r s

  pub block_same : {k : ℕ} {ts : Trees} {a b c : At} {o p : End} → Block k ts a o b → Block k ts a p c → Same o p b c
  block_same {a = a} (in_block r) (in_block s) = let t = items_same r s in record { end = t.end; place = λ i. leaving a (t.place i) }

  pub taking_same : {k : ℕ} {p : Pattern} {v : Val} {ts : Trees} {a b c : At} {o q : End} → Taking k p v ts a o b → Taking k p v ts a q c → Same o q b c
  taking_same {a = a} (in_taking r) (in_taking s) = let t = items_same r s in record { end = t.end; place = λ i. leaving a (t.place i) }

  pub each_same : {k : ℕ} {p : Pattern} {ts : Trees} {vs : Vals} {a b c : At} {o q : End} → Each k p ts vs a o b → Each k p ts vs a q c → Same o q b c
  each_same each_none each_none = alike
  each_same (each_next r u) (each_next s w) = each_same u (each_at refl (taking_same r s).place w)
  each_same (each_next r u) (each_halt s) = absurd (value_halt (taking_same r s).end)
  each_same (each_halt r) (each_next s w) = absurd (value_halt (sym (taking_same r s).end))
  each_same (each_halt r) (each_halt s) = taking_same r s
