-- The names behind a tree that gave a value: those that it defines, in the scope in which it began.
use Rattle.std.proofs.Common.{◌≡◌, ℕ, List, [], ◌∷◌, ◌++◌, Bool, true, false, Option, Some, None, cond, refl, sym, ap, ◌∙◌, subst, append_assoc, append-nil, codes}
use Rattle.std.proofs.lemmas.List.{map-append}
use Rattle.ids.specs.declared.names.SlotId.{SlotId}
use Rattle.kernele.specs.Tree.{Name, Tree, Trees, Methods}
use Rattle.kernele.specs.declared.tree.Primitive.{Primitive}
use Rattle.kernele_scopes.specs.Free.{captures}
use Rattle.kernele_scopes.specs.Scope.{defined_name, variable_name, name_of, names_of_all, own_names, own_names_in}
use Rattle.kernele_scopes.specs.declared.naming.TopName.{TopName}
use Rattle.kernele.specs.declared.tree.Pattern.{Pattern}
use Rattle.kernele.specs.declared.tree.Pattern.TheVariants as pattern
use Rattle.code.specs.Frames.{Frame, only_names, behind}
use Rattle.values.specs.Data.{Val, null, bool, int, text, list, broken, object, ejector, promise, Vals, no_vals, and_val}
use Rattle.values.specs.Replies.{items_in, list_reply}
use Rattle.heap.specs.State.{Bind, fixed, slot, Plain, frame_of}
use Rattle.eval_rules.specs.At.{At}
use Rattle.eval_rules.specs.Outcomes.{End, value, halt, Gather, values, halted, reply_end}
use Rattle.eval_rules.specs.Rules.{seeking, noun_read, slot_put, capturing, called, uses, receiver, receiver_read, when_end, when_made}
use Rattle.eval_rules.proofs.Seeking.{Reads, seeking_reads, noun_reads, captures_read}
use Rattle.eval_rules.specs.Rules.{begun, Listing, listed, unlisted, listing_by, listing_of, taken, parts_of, parts_bound, parts_end, mismatch, as_many, again, bound_in, matched, matched_all, next_slot, has_room, slot_made, variable_made, variable_end, assigned, assigned_end, Capture, captured, missing, capture_of, object_made, placed, placed_end, with_object, object_end, leaving, escaped, sought_slot}
use Rattle.eval_rules.specs.Rules.{Target, gives, enters, callee_of, callee_target, target_of, list_end, Choice, goes, ends, bool_in, choice_by, choice_of, made_of, primitive_end, next_ejector, escape_end}
use Rattle.eval_rules.specs.Rules.{Ends, at_budget, at_depth, at_node, Runs, run_null, run_bool, run_int, run_text, run_noun, run_define, run_variable, run_assign, run_call_receiver, run_call_gives, run_call_enters, run_call_uses, run_send_receiver, run_send, run_list, run_same_left, run_same, run_define_list, run_hide, run_primitive, run_if_goes, run_if_ends, run_while_again, run_while_halts, run_while_done, run_while_ends, run_for, run_for_ends, run_try, run_try_caught, run_object, run_escape, run_when, run_when_catch, run_new_promise, Needs, needs, Args, args_none, args_next, args_halt, Block, in_block, Taking, in_taking, Each, each_none, each_next, each_halt}
use Rattle.eval_rules.specs.Doings.{next_object, has_object_room, same_end, same_read, sent_end, sent_at, datum_of, datum_read, given_by, resolver_end, resolver_out, promise_pair, pair_end, pair_out, behind as left_by}
use Rattle.eval_rules.proofs.Doings.{Works, datum_works, called_works, sent_works, when_works, pair_works, used_works, same_works}
use Rattle.post.specs.Delivery.{Handler}
use Rattle.sends.specs.Vats.{ended}
use Rattle.ids.specs.declared.names.VatNo.{VatNo}

-- behind a place stand these names more, in the same scope
abbrev pub Adds : List TopName → At → At → Type 0
Adds ts a b = (frame_of b.nouns ≡ behind a.own_scope (only_names ts) (frame_of a.nouns)) × (b.own_scope ≡ a.own_scope)

-- the same where there is a value; what was halted says nothing
abbrev pub EndAdds : End → List TopName → At → At → Type 0
EndAdds (value v) ts a b = Adds ts a b
EndAdds (halt h) ts a b = Unit {0}

abbrev pub GatherAdds : Gather → List TopName → At → At → Type 0
GatherAdds (values vs) ts a b = Adds ts a b
GatherAdds (halted h) ts a b = Unit {0}

abbrev TargetAdds : Target → List TopName → At → At → Type 0
TargetAdds (gives o) ts a b = EndAdds o ts a b
TargetAdds (enters ns body) ts a b = Adds ts a b
TargetAdds (uses p d) ts a b = Adds ts a b

abbrev ChoiceAdds : Choice → List TopName → At → At → Type 0
ChoiceAdds (goes q) ts a b = Adds ts a b
ChoiceAdds (ends o) ts a b = EndAdds o ts a b

abbrev ListingAdds : Listing → List TopName → At → At → Type 0
ListingAdds (listed vs) ts a b = Adds ts a b
ListingAdds (unlisted o) ts a b = EndAdds o ts a b

-- ---- frames

behind_nothing : (own : Bool) (f : Frame) → f ≡ behind own [] f
behind_nothing true f = refl
behind_nothing false f = sym (append-nil f)

behind_more : (own : Bool) (xs ys : List Name) (f : Frame) → behind own ys (behind own xs f) ≡ behind own (xs ++ ys) f
behind_more true xs ys f = refl
behind_more false xs ys f = append_assoc f xs ys

-- ---- places

-- the same names in the same scope
adds_none : (a b : At) → b.nouns ≡ a.nouns → b.own_scope ≡ a.own_scope → Adds [] a b
adds_none a b n o = (ap frame_of n ∙ behind_nothing a.own_scope (frame_of a.nouns), o)

-- first these, then those
adds_both : (ts us : List TopName) (a b c : At) → Adds ts a b → Adds us b c → Adds (ts ++ us) a c
adds_both ts us a b c h g = (
  g.0 ∙ (λ i. behind (h.1 i) (only_names us) (h.0 i)) ∙ behind_more a.own_scope (only_names ts) (only_names us) (frame_of a.nouns)
      ∙ ap (λ xs. behind a.own_scope xs (frame_of a.nouns)) (sym (map-append (λ (t : TopName). t.name) ts us)),
  g.1 ∙ h.1,
)

-- what comes behind adds nothing
adds_on : (ts : List TopName) (a b c : At) → Adds ts a b → c.nouns ≡ b.nouns → c.own_scope ≡ b.own_scope → Adds ts a c
adds_on ts a b c h n o = (ap frame_of n ∙ h.0, o ∙ h.1)

-- the same behind any end
end_on : (o : End) (ts : List TopName) (a b c : At) → EndAdds o ts a b → c.nouns ≡ b.nouns → c.own_scope ≡ b.own_scope → EndAdds o ts a c
end_on (value v) ts a b c h n own = adds_on ts a b c h n own
end_on (halt s) ts a b c h n own = tt

-- any end, where the names are there in any case
end_adds : (o : End) (ts : List TopName) (a b : At) → Adds ts a b → EndAdds o ts a b
end_adds (value v) ts a b h = h
end_adds (halt s) ts a b h = tt

-- an end behind a value
then_adds : (o : End) (ts us : List TopName) (a b c : At) → Adds ts a b → EndAdds o us b c → EndAdds o (ts ++ us) a c
then_adds (value v) ts us a b c h g = adds_both ts us a b c h g
then_adds (halt s) ts us a b c h g = tt

-- begun at a place with the same names in the same scope
begun_adds : (o : End) (ts : List TopName) (a b c : At) → b.nouns ≡ a.nouns → b.own_scope ≡ a.own_scope → EndAdds o ts b c → EndAdds o ts a c
begun_adds (value v) ts a b c n o h = (h.0 ∙ (λ i. behind (o i) (only_names ts) (frame_of (n i))), h.1 ∙ o)
begun_adds (halt s) ts a b c n o h = tt

-- an end that leaves the names as they were
stays : (o : End) (a b : At) → b.nouns ≡ a.nouns → b.own_scope ≡ a.own_scope → EndAdds o [] a b
stays o a b n own = end_adds o [] a b (adds_none a b n own)

-- ---- what is made of the ends of parts

bound_adds : (own : Bool) (t : TopName) (b : Bind) (a : At) → a.own_scope ≡ own → Adds (t ∷ []) a (bound_in own t.name b a)
bound_adds true t b a e = (sym (ap (λ own. behind own (t.name ∷ []) (frame_of a.nouns)) e), refl)
bound_adds false t b a e = (sym (ap (λ own. behind own (t.name ∷ []) (frame_of a.nouns)) e), refl)

matched_adds : (p : Pattern) (v : Val) (a : At) → Adds (name_of p) a (matched p v a)
matched_adds (pattern.Name x) v a = bound_adds a.own_scope (defined_name x) (fixed v) a refl
matched_adds pattern.Ignore v a = adds_none a a refl refl

all_adds : (ps : List Pattern) (vs : Vals) (a : At) → as_many ps vs ≡ true → Adds (names_of_all ps) a (matched_all ps vs a)
all_adds [] vs a e = adds_none a a refl refl
all_adds (p ∷ ps) no_vals a e = absurd (cc)
all_adds (p ∷ ps) (and_val v vs) a e = adds_both (name_of p) (names_of_all ps) a (matched p v a) (matched_all ps vs (matched p v a)) (matched_adds p v a) (all_adds ps vs (matched p v a) e)

mismatch_adds : (words : Name) (v : Val) (ts : List TopName) (a b : At) → EndAdds (mismatch words v) ts a b
mismatch_adds words null ts a b = tt
mismatch_adds words (bool q) ts a b = tt
mismatch_adds words (int z) ts a b = tt
mismatch_adds words (text s) ts a b = tt
mismatch_adds words (list vs) ts a b = tt
mismatch_adds words (object i) ts a b = tt
mismatch_adds words (ejector j) ts a b = tt
mismatch_adds words (promise p) ts a b = tt
mismatch_adds words (broken problem) ts a b = tt

counted_adds : (ps : List Pattern) (v w : Val) (vs : Vals) (q : Bool) (a : At) → as_many ps vs ≡ q
    → EndAdds (parts_end (value v) (listing_by (codes "wrong list") w (cond q (Some vs) None))) (names_of_all ps) a (parts_bound ps (listing_by (codes "wrong list") w (cond q (Some vs) None)) a)
counted_adds ps v w vs true a e = all_adds ps vs a e
counted_adds ps v w vs false a e = mismatch_adds (codes "wrong list") w (names_of_all ps) a a

taken_adds : (ps : List Pattern) (v w : Val) (m : Option Vals) (a : At)
    → EndAdds (parts_end (value v) (listing_by (codes "wrong list") w (taken ps m))) (names_of_all ps) a (parts_bound ps (listing_by (codes "wrong list") w (taken ps m)) a)
taken_adds ps v w (Some vs) a = counted_adds ps v w vs (as_many ps vs) a refl
taken_adds ps v w None a = mismatch_adds (codes "wrong list") w (names_of_all ps) a a

made_adds : (room : Bool) (x : Name) (v : Val) (a : At) → EndAdds (variable_end room v) (variable_name x ∷ []) a (variable_made room x v a)
made_adds true x v a = bound_adds a.own_scope (variable_name x) (slot (next_slot a)) (slot_made v a) refl
made_adds false x v a = tt

placed_adds : (room : Bool) (p : Pattern) (o : Plain) (a b : At) → b.nouns ≡ a.nouns → b.own_scope ≡ a.own_scope → EndAdds (placed_end room a) (name_of p) a (placed room p o b)
placed_adds true p o a b n own = begun_adds (value (object (next_object a))) (name_of p) a b (matched p (object (next_object b)) (object_made o b)) n own (matched_adds p (object (next_object b)) (object_made o b))
placed_adds false p o a b n own = tt

object_adds : (p : Pattern) (ms : Methods) (c : Capture) (a b : At) → Reads a b → EndAdds (object_end c a) (name_of p) a (with_object p ms c b)
object_adds p ms (captured ns) a b e =
    let o : Plain = record { own = p; captured = ns; methods = ms } in
    subst (λ z. EndAdds (placed_end (has_object_room a) a) (name_of p) a (placed (has_object_room z) p o z)) (sym e) (placed_adds (has_object_room a) p o a (record a { touched = b.touched }) refl refl)
object_adds p ms (missing x) a b e = tt

slot_adds : (x : Name) (v : Val) (i : Option SlotId) (ts : List TopName) (a b : At) → Adds ts a b → EndAdds (assigned_end x (value v) i) ts a (slot_put v i b)
slot_adds x v (Some i) ts a b h = h
slot_adds x v None ts a b h = tt

assigned_adds : (x : Name) (v : Val) (ts : List TopName) (a b : At) → Adds ts a b → EndAdds (assigned_end x (value v) (sought_slot x b)) ts a (assigned x (value v) b)
assigned_adds x v ts a b h = slot_adds x v (sought_slot x b) ts a (seeking x b) (adds_on ts a b (seeking x b) h (ap (λ c. c.nouns) (seeking_reads x b)) (ap (λ c. c.own_scope) (seeking_reads x b)))

target_adds : (t : Target) (ts : List TopName) (a b : At) → Adds ts a b → TargetAdds t ts a b
target_adds (gives o) ts a b h = end_adds o ts a b h
target_adds (enters ns body) ts a b h = h
target_adds (uses p d) ts a b h = h

call_adds : (v : Val) (verb : Name) (g : Gather) (ts us : List TopName) (a b c : At) → Adds ts a b → GatherAdds g us b c → TargetAdds (target_of v verb g c) (ts ++ us) a c
call_adds v verb (values vs) ts us a b c h g = target_adds (callee_target (callee_of c.vat (receiver v c)) (receiver v c) verb vs (receiver_read v c)) (ts ++ us) a c (adds_both ts us a b c h g)
call_adds v verb (halted s) ts us a b c h g = tt

list_adds : (g : Gather) (ts : List TopName) (a b : At) → GatherAdds g ts a b → EndAdds (list_end g) ts a b
list_adds (values vs) ts a b h = end_adds (reply_end (list_reply vs)) ts a b h
list_adds (halted s) ts a b h = tt

-- what is done between two trees adds nothing
worked_adds : (ts : List TopName) (a b c : At) → Adds ts a b → Works b c → Adds ts a c
worked_adds ts a b c h w = adds_on ts a b c h (ap (λ z. z.nouns) w) (ap (λ z. z.own_scope) w)

same_adds : (v : Val) (o : End) (ts us : List TopName) (a b c : At) → Adds ts a b → EndAdds o us b c → EndAdds (same_end v o c) (ts ++ us) a (same_read v o c)
same_adds v (value w) ts us a b c h g = end_adds (same_end v (value w) c) (ts ++ us) a (same_read v (value w) c) (worked_adds (ts ++ us) a c (same_read v (value w) c) (adds_both ts us a b c h g) (same_works v (value w) c))
same_adds v (halt s) ts us a b c h g = tt

sent_adds : (verb : Name) (v : Val) (g : Gather) (ts us : List TopName) (a b c : At) → Adds ts a b → GatherAdds g us b c → EndAdds (sent_end v g c) (ts ++ us) a (sent_at verb v g c)
sent_adds verb v (values vs) ts us a b c h g =
    end_adds (sent_end v (values vs) c) (ts ++ us) a (sent_at verb v (values vs) c) (worked_adds (ts ++ us) a c (sent_at verb v (values vs) c) (adds_both ts us a b c h g) (sent_works verb v (values vs) c))
sent_adds verb v (halted s) ts us a b c h g = tt

when_adds : (body : Trees) (handler : Option Handler) (o : End) (ts : List TopName) (a b : At) → EndAdds o ts a b → EndAdds (when_end body handler o b) ts a (when_made body handler o b)
when_adds body handler (value v) ts a b h =
    let z = when_made body handler (value v) b in
    end_adds (when_end body handler (value v) b) ts a z (worked_adds ts a b z h (when_works body handler (value v) b))
when_adds body handler (halt s) ts a b h = tt

datum_adds : (o : End) (ts : List TopName) (a b : At) → EndAdds o ts a b → EndAdds (datum_of o b) ts a (datum_read o b)
datum_adds (value v) ts a b h = worked_adds ts a b (datum_read (value v) b) h (datum_works (value v) b)
datum_adds (halt s) ts a b h = tt

primitive_adds : (o : End) (here : VatNo) (q : Primitive) (ts : List TopName) (a b : At) → EndAdds o ts a b → EndAdds (primitive_end o here q) ts a b
primitive_adds (value v) here q ts a b h = end_adds (made_of q here v) ts a b h
primitive_adds (halt s) here q ts a b h = tt

tested_adds : (c : Choice) (ts : List TopName) (a b : At) → Adds ts a b → ChoiceAdds c ts a b
tested_adds (goes q) ts a b h = h
tested_adds (ends o) ts a b h = end_adds o ts a b h

choice_adds : (o : End) (ts : List TopName) (a b : At) → EndAdds o ts a b → ChoiceAdds (choice_of o) ts a b
choice_adds (value v) ts a b h = tested_adds (choice_by v (bool_in v)) ts a b h
choice_adds (halt s) ts a b h = tt

wanted_adds : (l : Listing) (ts : List TopName) (a b : At) → Adds ts a b → ListingAdds l ts a b
wanted_adds (listed vs) ts a b h = h
wanted_adds (unlisted o) ts a b h = end_adds o ts a b h

listing_adds : (o : End) (ts : List TopName) (a b : At) → EndAdds o ts a b → ListingAdds (listing_of o) ts a b
listing_adds (value v) ts a b h = wanted_adds (listing_by (codes "not a list") v (items_in v)) ts a b h
listing_adds (halt s) ts a b h = tt

-- ---- blocks end with their names, in the scope in which they began

pub block_stays : {k : ℕ} {ts : Trees} {a b : At} {o : End} → Block k ts a o b → (b.nouns ≡ a.nouns) × (b.own_scope ≡ a.own_scope)
block_stays (in_block r) = (refl, refl)

pub taking_stays : {k : ℕ} {p : Pattern} {v : Val} {ts : Trees} {a b : At} {o : End} → Taking k p v ts a o b → (b.nouns ≡ a.nouns) × (b.own_scope ≡ a.own_scope)
taking_stays (in_taking r) = (refl, refl)

each_stays : {k : ℕ} {p : Pattern} {ts : Trees} {vs : Vals} {a b : At} {o : End} → Each k p ts vs a o b → (b.nouns ≡ a.nouns) × (b.own_scope ≡ a.own_scope)
each_stays each_none = (refl, refl)
each_stays (each_next r u) = ((each_stays u).0 ∙ (taking_stays r).0, (each_stays u).1 ∙ (taking_stays r).1)
each_stays (each_halt r) = taking_stays r

mutual
  pub ends_add : {k : ℕ} {t : Tree} {a b : At} {o : End} → Ends k t a o b → EndAdds o (own_names t) a b
  ends_add (at_budget h) = tt
  ends_add (at_depth h g) = tt
  ends_add {t = t} {a = a} {b = b} {o = o} (at_node h g r) = begun_adds o (own_names t) a (begun a) b refl refl (runs_add r)

  pub runs_add : {k : ℕ} {t : Tree} {a b : At} {o : End} → Runs k t a o b → EndAdds o (own_names t) a b
  runs_add {a = a} {o = o} run_null = stays o a a refl refl
  runs_add {a = a} {o = o} run_bool = stays o a a refl refl
  runs_add {a = a} {o = o} run_int = stays o a a refl refl
  runs_add {a = a} {o = o} run_text = stays o a a refl refl
  runs_add {o = o} (run_noun {x = x} {a = a}) = stays o a (noun_read x a) (ap (λ b. b.nouns) (noun_reads x a)) (ap (λ b. b.own_scope) (noun_reads x a))
  runs_add (run_define {p = p} {e = e} {a = a} {b = b} {o = value v} r) = adds_both (own_names e) (name_of p) a b (matched p v b) (ends_add r) (matched_adds p v b)
  runs_add (run_define {o = halt h} r) = tt
  runs_add (run_variable {x = x} {e = e} {a = a} {b = b} {o = value v} r) =
      then_adds (variable_end (has_room b) v) (own_names e) (variable_name x ∷ []) a b (variable_made (has_room b) x v b) (ends_add r) (made_adds (has_room b) x v b)
  runs_add (run_variable {o = halt h} r) = tt
  runs_add (run_assign {x = x} {e = e} {a = a} {b = b} {o = value v} r) = assigned_adds x v (own_names e) a b (ends_add r)
  runs_add (run_assign {o = halt h} r) = tt
  runs_add (run_call_receiver r) = tt
  runs_add (run_call_gives {r = r} {verb = verb} {args = ts} {a = a} {b = b} {c = c} {v = v} {g = g} {o = o} p u e) =
      let h : EndAdds o (own_names r ++ own_names_in ts) a c = subst (λ t. TargetAdds t (own_names r ++ own_names_in ts) a c) e (call_adds v verb g (own_names r) (own_names_in ts) a b c (ends_add p) (args_add u)) in
      end_on o (own_names r ++ own_names_in ts) a c (called v verb g c) h (ap (λ b. b.nouns) (called_works v verb g c)) (ap (λ b. b.own_scope) (called_works v verb g c))
  runs_add (run_call_enters {r = r} {verb = verb} {args = ts} {a = a} {b = b} {c = c} {d = d} {v = v} {g = g} {o = o} p u e q) =
      end_adds o (own_names r ++ own_names_in ts) a (leaving c d) (subst (λ t. TargetAdds t (own_names r ++ own_names_in ts) a c) e (call_adds v verb g (own_names r) (own_names_in ts) a b c (ends_add p) (args_add u)))
  runs_add (run_call_uses {r = r} {verb = verb} {args = ts} {a = a} {b = b} {c = c} {v = v} {g = g} {p = to} {d = d} p u e) =
      let z = resolver_out to (given_by d (called v verb g c)) (left_by d (called v verb g c)) in
      let h : Adds (own_names r ++ own_names_in ts) a c = subst (λ t. TargetAdds t (own_names r ++ own_names_in ts) a c) e (call_adds v verb g (own_names r) (own_names_in ts) a b c (ends_add p) (args_add u)) in
      end_adds (resolver_end (given_by d (called v verb g c))) (own_names r ++ own_names_in ts) a z (worked_adds (own_names r ++ own_names_in ts) a c z h (used_works v verb g to d c))
  runs_add (run_send_receiver r) = tt
  runs_add (run_send {r = r} {verb = verb} {args = ts} {a = a} {b = b} {c = c} {v = v} {g = g} p u) = sent_adds verb v g (own_names r) (own_names_in ts) a b c (ends_add p) (args_add u)
  runs_add (run_list {ts = ts} {a = a} {b = b} {g = g} u) = list_adds g (own_names_in ts) a b (args_add u)
  runs_add (run_same_left r) = tt
  runs_add (run_same {l = l} {r = r} {a = a} {b = b} {c = c} {v = v} {o = o} p u) = same_adds v o (own_names l) (own_names r) a b c (ends_add p) (ends_add u)
  runs_add (run_define_list {ps = ps} {e = e} {a = a} {b = b} {o = value v} r) =
      let w : Val = given_by (ended v) b in
      let d : At = datum_read (value v) b in
      then_adds (parts_end (value v) (parts_of ps (value w))) (own_names e) (names_of_all ps) a d (parts_bound ps (parts_of ps (value w)) d)
      (worked_adds (own_names e) a b d (ends_add r) (datum_works (value v) b)) (taken_adds ps v w (items_in w) d)
  runs_add (run_define_list {o = halt h} r) = tt
  runs_add {a = a} {b = b} {o = o} (run_hide q) = stays o a b (block_stays q).0 (block_stays q).1
  runs_add (run_primitive {q = q} {e = e} {a = a} {b = b} {o = o} r) = primitive_adds o a.vat q (own_names e) a b (needs_add r)
  runs_add (run_if_goes {c = c} {a = a} {b = b} {d = d} {o = o} {p = p} r e q) =
      end_adds p (own_names c) a d (adds_on (own_names c) a b d (subst (λ s. ChoiceAdds s (own_names c) a b) e (choice_adds o (own_names c) a b (needs_add r))) (block_stays q).0 (block_stays q).1)
  runs_add (run_if_ends {c = c} {a = a} {b = b} {o = o} r e) = subst (λ s. ChoiceAdds s (own_names c) a b) e (choice_adds o (own_names c) a b (needs_add r))
  runs_add (run_while_again {c = c} {a = a} {b = b} {d = d} {e = z} {o = o} {p = p} r e q w) =
      let h : Adds (own_names c) a b = subst (λ s. ChoiceAdds s (own_names c) a b) e (choice_adds o (own_names c) a b (needs_add r)) in
      begun_adds p (own_names c) a (again a d) z refl ((block_stays q).1 ∙ h.1) (runs_add w)
  runs_add (run_while_halts r e q) = tt
  runs_add (run_while_done {c = c} {a = a} {b = b} {o = o} r e) = subst (λ s. ChoiceAdds s (own_names c) a b) e (choice_adds o (own_names c) a b (needs_add r))
  runs_add (run_while_ends {c = c} {a = a} {b = b} {o = o} r e) = subst (λ s. ChoiceAdds s (own_names c) a b) e (choice_adds o (own_names c) a b (needs_add r))
  runs_add (run_for {e = e} {a = a} {b = b} {d = d} {o = o} {q = q} r f u) =
      end_adds q (own_names e) a d (adds_on (own_names e) a b d (subst (λ l. ListingAdds l (own_names e) a b) f (listing_adds o (own_names e) a b (needs_add r))) (each_stays u).0 (each_stays u).1)
  runs_add (run_for_ends {e = e} {a = a} {b = b} {o = o} r f) = subst (λ l. ListingAdds l (own_names e) a b) f (listing_adds o (own_names e) a b (needs_add r))
  runs_add {a = a} {b = b} {o = o} (run_try q e) = stays o a b (block_stays q).0 (block_stays q).1
  runs_add (run_try_caught {a = a} {d = d} {q = o} q e w) = stays o a d ((taking_stays w).0 ∙ (block_stays q).0) ((taking_stays w).1 ∙ (block_stays q).1)
  runs_add (run_object {p = p} {ms = ms} {a = a}) = object_adds p ms (capture_of p ms a) a (capturing p ms a) (captures_read (captured []) (captures p ms) a)
  runs_add (run_escape {a = a} {b = b} {o = o} q) = stays (escape_end (next_ejector a) o) a (escaped a b) (taking_stays q).0 (taking_stays q).1
  runs_add (run_when {e = e} {body = body} {a = a} {b = b} {o = o} r) = when_adds body None o (own_names e) a b (ends_add r)
  runs_add (run_when_catch {e = e} {body = body} {p = p} {handler = handler} {a = a} {b = b} {o = o} r) = when_adds body (Some (record { pattern = p; block = handler })) o (own_names e) a b (ends_add r)
  runs_add (run_new_promise {a = a}) =
      let z = pair_out (given_by (promise_pair a) a) (left_by (promise_pair a) a) in
      stays (pair_end (given_by (promise_pair a) a) a) a z (ap (λ b. b.nouns) (pair_works a)) (ap (λ b. b.own_scope) (pair_works a))

  pub needs_add : {k : ℕ} {t : Tree} {a b : At} {o : End} → Needs k t a o b → EndAdds o (own_names t) a b
  needs_add (needs {t = t} {a = a} {b = b} {o = o} r) = datum_adds o (own_names t) a b (ends_add r)

  pub args_add : {k : ℕ} {ts : Trees} {a b : At} {g : Gather} → Args k ts a g b → GatherAdds g (own_names_in ts) a b
  args_add {a = a} args_none = adds_none a a refl refl
  args_add (args_next {t = t} {ts = ts} {a = a} {b = b} {c = c} {g = values vs} r u) = adds_both (own_names t) (own_names_in ts) a b c (ends_add r) (args_add u)
  args_add (args_next {g = halted h} r u) = tt
  args_add (args_halt r) = tt

-- a condition that chose has given a value, and so has a list that is gone over
pub goes_add : {k : ℕ} {t : Tree} {a b : At} {o : End} {q : Bool} → Needs k t a o b → choice_of o ≡ goes q → Adds (own_names t) a b
goes_add {t = t} {a = a} {b = b} {o = o} r e = subst (λ c. ChoiceAdds c (own_names t) a b) e (choice_adds o (own_names t) a b (needs_add r))

pub lists_add : {k : ℕ} {t : Tree} {a b : At} {o : End} {vs : Vals} → Needs k t a o b → listing_of o ≡ listed vs → Adds (own_names t) a b
lists_add {t = t} {a = a} {b = b} {o = o} r e = subst (λ l. ListingAdds l (own_names t) a b) e (listing_adds o (own_names t) a b (needs_add r))
