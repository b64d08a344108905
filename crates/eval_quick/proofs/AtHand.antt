-- Calls whose receiver and arguments are at hand.
use Rattle.std.proofs.Common.{arith, ◌≡◌, ℕ, ◌+◌, ◌-◌, ◌<◌, ◌≤◌, List, [], ◌∷◌, ◌++◌, length, drop, get_or, length-append, append_assoc, append-nil, add-one, suc, zero, Some, true, refl, sym, ap, ◌∙◌, subst}
use Rattle.std.proofs.Math.Seq.{drop-cons}
use Rattle.ids.specs.declared.names.ObjId.{ObjId}
use Rattle.kernele.specs.Tree.{Name, Tree, call}
use Rattle.kernele.specs.declared.tree.Pattern.{Pattern}
use Rattle.code.specs.View.{tree_of_code, trees_of_codes}
use Rattle.code.specs.declared.code.Code.{Code}
use Rattle.values.specs.Data.{Val, Vals, null, object, no_vals, and_val}
use Rattle.values.specs.View.{val_of, vals_of}
use Rattle.values.specs.declared.value.Value.{Value}
use Rattle.values.specs.declared.value.Value.TheVariants as a_value
use Rattle.code.specs.Frames.{only_names}
use Rattle.code.specs.declared.code.MethodCode.{MethodCode}
use Rattle.kernele_scopes.specs.Scope.{name_of}
use Rattle.heap.specs.Names.{names_of}
use Rattle.heap.specs.State.{Nouns, plain, object_cell, read, made}
use Rattle.heap.specs.View.{nouns_of, plain_of}
use Rattle.heap.specs.declared.made.Plain.{Plain as Defined}
use Rattle.eval_rules.specs.At.{At}
use Rattle.eval_rules.specs.Doings.{same_vat}
use Rattle.eval_rules.specs.Fits.{all_fit_at}
use Rattle.eval_rules.specs.Locals.{captured_in, locals_after}
use Rattle.eval_rules.specs.Outcomes.{End, Gather, value, values, halted}
use Rattle.eval_rules.specs.Rules.{on_object, if_own, callee_target, callee_read, target_of, called, enters, inside, leaving, named, named_all, method_target, object_target, Runs, run_call_enters, Args, Items}
use Rattle.eval_rules.specs.declared.local.Local.{Local}
use Rattle.eval_rules.proofs.Captures.{named_end}
use Rattle.eval_rules.proofs.Fitting.{all_fit_then, fits_from, method_fits}
use Rattle.eval_rules.proofs.Steps.{after_values, args_more, args_pushed, args_done, args_end}
use Rattle.eval_quick.specs.Direct.{IsReceiver, NamesAtHand, MeetsAtHand}
use Rattle.eval_objects.specs.Finding.{FindsForCount}
use Rattle.eval_quick.specs.Leaves.{Leaf, AtHand}
use Rattle.eval_quick.specs.declared.direct.Direct.{Direct}
use Rattle.eval_quick.proofs.Leaves.{leaf_ends}
use Rattle.eval_objects.proofs.OnData.{own_target, own_called}
use Rattle.eval_objects.proofs.Reached.{reached_already}

-- a leaf is at hand in one step
pub leaf_at_hand : (a : At) (t : Tree) (v : Val) → Leaf a t v → AtHand a t 1 v
leaf_at_hand a t v leaf = λ k n deep some. leaf_ends a t v k n leaf (omega (arith, some)) (omega (arith, deep))

-- once a pattern takes a value, the first i arguments are named: what the rest gives and names, behind these, is what all give and name
pub record NamedSoFar (a : At) (es : List Code) (n : ℕ) (own : Pattern) (o : ObjId) (ps : List Pattern) (before after : List Local) (p : Pattern) (v : Val) (m i : ℕ) : Type 0 where
  pub vs : List Value
  pub count : length vs ≡ i
  pub within : i ≤ length es
  pub fewer : m ≤ n
  pub given : (k : ℕ) → k < 1000 → (g : Gather) (b : At) → Args k (trees_of_codes (drop i es)) (record a { left = m }) g b → Args k (trees_of_codes es) (record a { left = n }) (after_values (vals_of vs) g) b
  pub names : (ns : Nouns) (us : List Value) → named_all (drop i ps) (vals_of us) (named p v (locals_after ns after)) ≡ named_all ps (vals_of (vs ++ us)) (named own (object o) (locals_after ns before))
  pub fits : all_fit_at a (drop i es)

after_none : (g : Gather) → after_values no_vals g ≡ g
after_none (values ws) = refl
after_none (halted h) = refl

pub none_named : (a : At) (es : List Code) (n : ℕ) (own : Pattern) (o : ObjId) (ps : List Pattern) (before : List Local) → all_fit_at a es → NamedSoFar a es n own o ps before before own (object o) n 0
none_named a es n own o ps before fit = record {
  vs = [];
  count = refl;
  within = omega arith;
  fewer = omega arith;
  given = λ k deep g b r. subst (λ h. Args k (trees_of_codes es) (record a { left = n }) h b) (sym (after_none g)) r;
  names = λ ns us. refl;
  fits = fit;
}

-- the next parameter takes its value
next_named : (ps : List Pattern) (us : Vals) {i : ℕ} {p : Pattern} (v : Val) (ns : Nouns) → i < length ps → p ≡ get_or ps i p → named_all (drop i ps) (and_val v us) ns ≡ named_all (drop (i + 1) ps) us (named p v ns)
next_named ps us {i = i} {p = p} v ns h e = rw add-one (ap (λ qs. named_all qs (and_val v us) ns) (drop-cons ps i p h) ∙ ap (λ q. named_all (drop (suc i) ps) us (named q v ns)) (sym e))

-- one more argument is given, and the value before it is named
pub one_named : (a : At) (es : List Code) {n : ℕ} (own : Pattern) (o : ObjId) (ps : List Pattern) {before after more : List Local} {p : Pattern} {u : Val} {m i : ℕ} {e : Code} {q : Pattern} (v : Value) (s : ℕ) → NamedSoFar a es n own o ps before after p u m i → i < length es → i < length ps → e ≡ get_or es i e → q ≡ get_or ps i q
    → ((ns : Nouns) → locals_after ns more ≡ named p u (locals_after ns after)) → AtHand a (tree_of_code e) s (val_of v) → s ≤ m → NamedSoFar a es n own o ps before more q (val_of v) (m - s) (i + 1)
one_named a es own o ps {before = before} {after = after} {more = more} {p = p} {u = u} {m = m} {i = i} {e = e} {q = q} v s so inside below is same added at_hand enough = record {
  vs = so.vs ++ v ∷ [];
  count = omega (arith, length-append so.vs (v ∷ []), so.count);
  within = omega (arith, inside);
  fewer = omega (arith, so.fewer);
  given = λ k deep g b r. args_pushed g so.vs v refl (so.given k deep (after_values (and_val (val_of v) no_vals) g) b (args_more es g inside is (at_hand k m deep enough) r));
  names = λ ns us.
      sym (next_named ps (vals_of us) (val_of v) (locals_after ns more) below same) ∙ ap (named_all (drop i ps) (vals_of (v ∷ us))) (added ns)
      ∙ so.names ns (v ∷ us) ∙ ap (λ ws. named_all ps (vals_of ws) (named own (object o) (locals_after ns before))) (sym (append_assoc so.vs (v ∷ []) us));
  fits = all_fit_then refl (at_hand 0 s (omega arith) (omega arith)) (fits_from _ _ es i e inside is so.fits).1;
}

pub all_named : (a : At) (es : List Code) (n : ℕ) (own : Pattern) (o : ObjId) (ps : List Pattern) (before after more : List Local) (p : Pattern) (u : Val) (m i : ℕ) → NamedSoFar a es n own o ps before after p u m i → i ≡ length es → length es ≡ length ps → ((ns : Nouns) → locals_after ns more ≡ named p u (locals_after ns after))
    → NamesAtHand a es n own o ps before more m
all_named a es n own o ps before after more p u m i so done many added = record {
  vs = so.vs;
  count = omega (arith, so.count);
  fewer = so.fewer;
  given = λ k deep. args_done so.vs (so.given k deep (values no_vals) (record a { left = m }) (args_end es (omega (arith, done))));
  names = λ ns.
      added ns ∙ sym (named_end ps no_vals i (named p u (locals_after ns after)) (omega (arith, done, many))) ∙ so.names ns []
      ∙ ap (λ ws. named_all ps (vals_of ws) (named own (object o) (locals_after ns before))) (append-nil so.vs);
}

-- a method that is found for a count has as many parameters
nulls : (n : ℕ) → (vs : List Value) × (length vs ≡ n)
nulls zero = ([], refl)
nulls (suc n) = let rest = nulls n in (a_value.Null ∷ rest.0, ap suc rest.1)

pub found_many : (ms : List MethodCode) (verb : Name) (n : ℕ) (m : MethodCode) → FindsForCount ms verb n (Some m) → n ≡ length m.parameters.value.items
found_many ms verb n m finds = let vs = nulls n in sym vs.1 ∙ (finds vs.0 vs.1).count

-- what a call meets whose object has the method and whose arguments are at hand
pub meets_method : (a : At) (i : ObjId) (verb : Name) (es : List Code) (d : Direct) (o : Defined) (m : MethodCode) (ps : List Pattern) (before names : List Local) → read a.state (object_cell i) ≡ Some (made (plain (plain_of o))) → a.touched (object_cell i) ≡ true
    → FindsForCount o.methods.value.items verb (length es) (Some m) → ps ≡ m.parameters.value.items → before ≡ [] → NamesAtHand a es (a.left - 1) o.own i ps before names d.left
    → captured_in d.captured ≡ o.captured.value.items → d.body.value.items ≡ m.body.value.items → MeetsAtHand a i verb es d names
meets_method a i verb es d o m ps before names content touched finds parameters empty at_hand shared body =
    let vs = vals_of at_hand.vs in
    let found = finds at_hand.vs at_hand.count in
    let cs = o.captured.value.items in
    let begins : locals_after (nouns_of cs) names ≡ named_all m.parameters.value.items vs (named o.own (object i) (nouns_of cs)) = at_hand.names (nouns_of cs) ∙ (λ j. named_all (parameters j) vs (named o.own (object i) (locals_after (nouns_of cs) (empty j)))) in
    record {
      vs = at_hand.vs;
      given = at_hand.given;
      fewer = omega (arith, at_hand.fewer);
      target =
          (λ j. enters (locals_after (nouns_of (shared j)) names) (trees_of_codes (body j))) ∙ ap (λ ns. enters ns (trees_of_codes m.body.value.items)) begins
          ∙ ap (method_target i (plain_of o) verb vs) found.method ∙ sym (ap (λ c. object_target i c verb vs) content);
      touched = touched;
      fits = method_fits names cs o.own (object i) at_hand.vs begins refl found.count shared body (found.fits (names_of cs ++ only_names (name_of o.own)) o.fits);
    }

-- a call on an object of the vat that was touched before leads to what the object does
object_led : (i : ObjId) (verb : Name) (vs : Vals) (c : At) → same_vat i.vat c.vat ≡ true → target_of (object i) verb (values vs) c ≡ object_target i (read c.state (object_cell i)) verb vs
object_led i verb vs c own = own_target (object i) verb vs c refl ∙ ap (λ q. callee_target (if_own q (on_object i)) (object i) verb vs c) own

object_called : (i : ObjId) (verb : Name) (vs : Vals) (c : At) → same_vat i.vat c.vat ≡ true → c.touched (object_cell i) ≡ true → called (object i) verb (values vs) c ≡ c
object_called i verb vs c own touched = own_called (object i) verb vs c refl ∙ ap (λ q. callee_read (if_own q (on_object i)) (object i) verb vs c) own ∙ reached_already (object_cell i) c touched

-- a call whose parts are at hand enters its method
pub call_at_hand : {k : ℕ} {r : Tree} {verb : Name} {es : List Code} {o : End} (a b z : At) (i : ObjId) (d : Direct) (names : List Local) → IsReceiver a r i → MeetsAtHand a i verb es d names → 0 < a.left → k < 999
    → b ≡ inside (locals_after (nouns_of (captured_in d.captured)) names) (record a { left = d.left }) → Items (k + 1) null (trees_of_codes d.body.value.items) b o z → Runs k (call r verb (trees_of_codes es)) a o (leaving a z)
call_at_hand {k = k} {r = r} {verb = verb} {es = es} {o = o} a b z i d names receiver meets some deep place items =
    let c : At = record a { left = d.left } in
    let ns = locals_after (nouns_of (captured_in d.captured)) names in
    let body = trees_of_codes d.body.value.items in
    let vs = vals_of meets.vs in
    let from : Items (k + 1) null body (inside ns (called (object i) verb (values vs) c)) o z =
    subst (λ y. Items (k + 1) null body (inside ns y) o z) (sym (object_called i verb vs c receiver.1 meets.touched)) (subst (λ y. Items (k + 1) null body y o z) place items) in
    run_call_enters {b = record a { left = a.left - 1 }} {c = c} {d = z} (leaf_ends a r (object i) (k + 1) a.left receiver.0 some (omega (arith, deep))) (meets.given (k + 1) (omega (arith, deep)))
    (object_led i verb vs c receiver.1 ∙ sym meets.target) from
