-- What is resolved of a construct, from what is resolved of its parts.
use Rattle.std.proofs.Common.{◌≡◌, ℕ, Option, ◌+◌, ◌<◌, ◌≤◌, Bool, false, List, [], ◌∷◌, ◌++◌, length, ap, sym, subst, refl, ◌∙◌, drop, get_or, append_assoc, append-nil}
use Rattle.std.proofs.Math.Path.{transport}
use Rattle.kernele.specs.Tree.{Name, Tree, noun, define, variable, assign, call, list_tree, same_tree, define_list, hide, if_tree, while_tree, for_tree, try_tree, primitive, object_tree, escape_tree, send, when_tree, when_catch_tree, Trees, none, and_then, Methods, and_method}
use Rattle.kernele.specs.View.{tree_of, trees_of, methods_of}
use Rattle.kernele_scopes.specs.Scope.{own_names, own_names_in, name_of, names_of_all, variable_name}
use Rattle.kernele_scopes.specs.Free.{captures, when_captures}
use Rattle.kernele.specs.declared.tree.Expr.{Expr}
use Rattle.kernele.specs.declared.tree.Method.{Method}
use Rattle.kernele.specs.declared.tree.Pattern.{Pattern}
use Rattle.kernele.specs.declared.tree.Pattern.TheVariants as pattern
use Rattle.kernele.specs.declared.tree.Primitive.{Primitive}
use Rattle.kernele_scopes.specs.declared.naming.TopName.{TopName}
use Rattle.kernele.proofs.Walks.{trees_from, no_trees_from, methods_from, no_methods_from}
use Rattle.code.specs.View.{tree_of_code, methods_of_codes}
use Rattle.code.specs.Index.{index_in, index_fits}
use Rattle.code.specs.Frames.{Frame, only_names, behind, after, place_in, all_placed, captured_names_of, fits, fits_all, fits_methods}
use Rattle.code_resolver.specs.Resolves.{Resolves, ResolvesAll, ResolvesBlock, ResolvesMethods}
use Rattle.code.specs.declared.code.NounPlace.{NounPlace}
use Rattle.code.specs.declared.code.Capture.{Capture}
use Rattle.code.specs.declared.code.Code as code
use Rattle.code.specs.declared.code.Code.{Code}
use Rattle.code.specs.declared.code.MethodCode.{MethodCode}
use Rattle.code.specs.declared.index.MethodIndex.{MethodIndex}
use Rattle.code.proofs.Views.{tree_of_code-Call, tree_of_code-List, tree_of_code-Hide, tree_of_code-If, tree_of_code-While, tree_of_code-For, tree_of_code-Try, tree_of_code-Object, tree_of_code-Escape, tree_of_code-Send, tree_of_code-When, tree_of_code-WhenCatch}
use Rattle.code.proofs.Fitting.{fits-Call, fits-List, fits-Hide, fits-If, fits-While, fits-For, fits-Try, fits-Object, fits-Escape, fits-Send, fits-When, fits-WhenCatch}
use Rattle.code_resolver.proofs.Growing.{behind-nothing, behind-both}
use Rattle.std.specs.declared.sync.Arc.{Arc}
use Rattle.std.specs.declared.vec.Vec.{Vec}
use Rattle.std.specs.declared.alloc.Global.{Global}

-- a method is resolved whose body begins with its parameters behind the names of its object
pub record ResolvesMethod (frame : Frame) (m : Method) (c : MethodCode) : Type 0 where
  pub verb : c.verb ≡ m.verb
  pub parameters : c.parameters.value.items ≡ m.parameters.value.items
  pub body : ResolvesBlock (frame ++ only_names (names_of_all m.parameters.value.items)) (trees_of m.body.value.items) c.body.value.items

-- what is resolved of a tree is resolved of the same tree, named otherwise
pub resolved_as : {own : Bool} {f g : Frame} {t u : Tree} {c : Code} → u ≡ t → Resolves own f t c g → Resolves own f u c g
resolved_as {own = own} {f = f} {g = g} {c = c} is h = subst (λ t. Resolves own f t c g) (sym is) h

-- the frame behind a part, from the code that stands for it
next_frame : {own : Bool} {f g : Frame} {t : Tree} {c : Code} → Resolves own f t c g → g ≡ after own (tree_of_code c) f
next_frame {own = own} {f = f} h = h.grown ∙ ap (λ t. after own t f) (sym h.tree)

-- a part that fits the frame behind another fits the frame behind that one's code
fits_next : {own : Bool} {f g : Frame} {t : Tree} {c : Code} (at : Bool) (cs : List Code) (more : List Name) → Resolves own f t c g → fits_all at (g ++ more) cs → fits_all at (after own (tree_of_code c) f ++ more) cs
fits_next at cs more h k = subst (λ (e : Frame). fits_all at (e ++ more) cs) (next_frame h) k

fits_behind : {own : Bool} {f g : Frame} {t : Tree} {c : Code} (at : Bool) (cs : List Code) → Resolves own f t c g → fits_all at g cs → fits_all at (after own (tree_of_code c) f) cs
fits_behind at cs h k = subst (λ (e : Frame). fits_all at e cs) (next_frame h) k

-- where a part defines names and then others are defined, the frame is the one behind them all
grown_both : {own : Bool} {f g h : Frame} {t : Tree} {c : Code} (more : List TopName) → Resolves own f t c g → h ≡ behind own (only_names more) g → h ≡ behind own (only_names (own_names t ++ more)) f
grown_both {own = own} {f = f} {t = t} more r e = e ∙ ap (behind own (only_names more)) r.grown ∙ behind-both own (own_names t) more f

-- what has no names and no parts stands for itself
pub resolved_leaf : {own : Bool} {f g : Frame} {t : Tree} {c : Code} → tree_of_code c ≡ t → own_names t ≡ [] → fits own f c → g ≡ f → Resolves own f t c g
resolved_leaf {own = own} {f = f} is leaf h same = record { tree = is; fitting = h; grown = same ∙ sym (ap (λ names. behind own (only_names names) f) leaf ∙ behind-nothing own f) }

pub resolved_noun : {own : Bool} {f : Frame} {x y : Name} {place : NounPlace} → y ≡ x → place ≡ place_in f x → Resolves own f (noun x) (code.Noun y place) f
resolved_noun {f = f} {place = place} named at = resolved_leaf (ap noun named) refl (at ∙ ap (place_in f) (sym named)) refl

pub resolved_def : {own : Bool} {f g h : Frame} {p q : Pattern} {t : Tree} {r : Arc Code Global} → q ≡ p → Resolves own f t r.value g → h ≡ behind own (only_names (name_of p)) g → Resolves own f (define p t) (code.Def q r) h
resolved_def {p = p} bound a e = record { tree = λ i. define (bound i) (a.tree i); fitting = a.fitting; grown = grown_both (name_of p) a e }

pub resolved_var : {own : Bool} {f g h : Frame} {x y : Name} {t : Tree} {r : Arc Code Global} → y ≡ x → Resolves own f t r.value g → h ≡ behind own (x ∷ []) g → Resolves own f (variable x t) (code.Var y r) h
resolved_var {x = x} named a e = record { tree = λ i. variable (named i) (a.tree i); fitting = a.fitting; grown = grown_both (variable_name x ∷ []) a e }

pub resolved_assign : {own : Bool} {f g : Frame} {x y : Name} {place : NounPlace} {t : Tree} {r : Arc Code Global} → y ≡ x → Resolves own f t r.value g → place ≡ place_in g x → Resolves own f (assign x t) (code.Assign y place r) g
resolved_assign named a at = record { tree = λ i. assign (named i) (a.tree i); fitting = (a.fitting, at ∙ λ i. place_in (next_frame a i) (sym named i)); grown = a.grown }

pub resolved_def_list : {own : Bool} {f g h : Frame} {t : Tree} (ps qs : Arc (Vec Pattern Global) Global) (r : Arc Code Global) → qs.value.items ≡ ps.value.items → Resolves own f t r.value g
    → h ≡ behind own (only_names (names_of_all ps.value.items)) g → Resolves own f (define_list ps.value.items t) (code.DefList qs r) h
resolved_def_list ps qs r bound a e = record { tree = λ i. define_list (bound i) (a.tree i); fitting = a.fitting; grown = grown_both (names_of_all ps.value.items) a e }

pub resolved_primitive : {own : Bool} {f g : Frame} {t : Tree} {r : Arc Code Global} (q : Primitive) → Resolves own f t r.value g → Resolves own f (primitive q t) (code.Primitive q r) g
resolved_primitive q a = record { tree = ap (primitive q) a.tree; fitting = a.fitting; grown = a.grown }

pub resolved_same : {own : Bool} {f g h : Frame} {t u : Tree} {l r : Arc Code Global} → Resolves own f t l.value g → Resolves own g u r.value h → Resolves own f (same_tree t u) (code.Same l r) h
resolved_same {own = own} {u = u} {r = r} a b = record {
  tree = λ i. same_tree (a.tree i) (b.tree i);
  fitting = (a.fitting, subst (λ (e : Frame). fits own e r.value) (next_frame a) b.fitting);
  grown = grown_both (own_names u) a b.grown;
}

pub resolved_call : {own : Bool} {f g h : Frame} {t : Tree} {ts : Trees} {verb name : Name} (r : Arc Code Global) (args : Arc (Vec Code Global) Global) → name ≡ verb → Resolves own f t r.value g → ResolvesAll own g ts args.value.items h → Resolves own f (call t verb ts) (code.Call r name args) h
resolved_call {own = own} {f = f} {ts = ts} {name = name} r args named a b = record {
  tree = tree_of_code-Call r name args ∙ λ i. call (a.tree i) (named i) (b.trees i);
  fitting = transport (sym (fits-Call own f r name args)) (a.fitting, fits_behind own args.value.items a b.fitting);
  grown = grown_both (own_names_in ts) a b.grown;
}

pub resolved_send : {own : Bool} {f g h : Frame} {t : Tree} {ts : Trees} {verb name : Name} (r : Arc Code Global) (args : Arc (Vec Code Global) Global) → name ≡ verb → Resolves own f t r.value g → ResolvesAll own g ts args.value.items h → Resolves own f (send t verb ts) (code.Send r name args) h
resolved_send {own = own} {f = f} {ts = ts} {name = name} r args named a b = record {
  tree = tree_of_code-Send r name args ∙ λ i. send (a.tree i) (named i) (b.trees i);
  fitting = transport (sym (fits-Send own f r name args)) (a.fitting, fits_behind own args.value.items a b.fitting);
  grown = grown_both (own_names_in ts) a b.grown;
}

pub resolved_list : {own : Bool} {f g : Frame} {ts : Trees} (items : Arc (Vec Code Global) Global) → ResolvesAll own f ts items.value.items g → Resolves own f (list_tree ts) (code.List items) g
resolved_list {own = own} {f = f} items a = record { tree = tree_of_code-List items ∙ ap list_tree a.trees; fitting = transport (sym (fits-List own f items)) a.fitting; grown = a.grown }

pub resolved_hide : {own : Bool} {f g : Frame} {ts : Trees} (body : Arc (Vec Code Global) Global) → ResolvesBlock f ts body.value.items → g ≡ f → Resolves own f (hide ts) (code.Hide body) g
resolved_hide {own = own} {f = f} body a same = resolved_leaf (tree_of_code-Hide body ∙ ap hide a.trees) refl (transport (sym (fits-Hide own f body)) a.fitting) same

-- the frame behind a condition or a list stays the same behind blocks
pub resolved_if : {own : Bool} {f g k h : Frame} {t : Tree} {ts us : Trees} (c : Arc Code Global) (first second : Arc (Vec Code Global) Global) → Resolves own f t c.value g → ResolvesBlock g ts first.value.items → k ≡ g
    → ResolvesBlock k us second.value.items → h ≡ k → Resolves own f (if_tree t ts us) (code.If c first second) h
resolved_if {own = own} {f = f} c first second a b same d last = record {
  tree = tree_of_code-If c first second ∙ λ i. if_tree (a.tree i) (b.trees i) (d.trees i);
  fitting = transport (sym (fits-If own f c first second)) (a.fitting, fits_behind false first.value.items a b.fitting, fits_behind false second.value.items a (subst (λ (e : Frame). fits_all false e second.value.items) same d.fitting));
  grown = last ∙ same ∙ a.grown;
}

pub resolved_while : {own : Bool} {f g h : Frame} {t : Tree} {ts : Trees} (c : Arc Code Global) (body : Arc (Vec Code Global) Global) → Resolves own f t c.value g → ResolvesBlock g ts body.value.items → h ≡ g → Resolves own f (while_tree t ts) (code.While c body) h
resolved_while {own = own} {f = f} c body a b same = record {
  tree = tree_of_code-While c body ∙ λ i. while_tree (a.tree i) (b.trees i);
  fitting = transport (sym (fits-While own f c body)) (a.fitting, fits_behind false body.value.items a b.fitting);
  grown = same ∙ a.grown;
}

pub resolved_for : {own : Bool} {f g h : Frame} {p q : Pattern} {t : Tree} {ts : Trees} (r : Arc Code Global) (body : Arc (Vec Code Global) Global) → q ≡ p → Resolves own f t r.value g → ResolvesBlock (g ++ only_names (name_of p)) ts body.value.items → h ≡ g
    → Resolves own f (for_tree p t ts) (code.For q r body) h
resolved_for {own = own} {f = f} {g = g} {q = q} r body bound a b same = record {
  tree = tree_of_code-For q r body ∙ λ i. for_tree (bound i) (a.tree i) (b.trees i);
  fitting = transport (sym (fits-For own f q r body)) (a.fitting, fits_next false body.value.items (only_names (name_of q)) a (subst (λ (s : Pattern). fits_all false (g ++ only_names (name_of s)) body.value.items) (sym bound) b.fitting));
  grown = same ∙ a.grown;
}

pub resolved_try : {own : Bool} {f g h : Frame} {p q : Pattern} {ts us : Trees} (body handler : Arc (Vec Code Global) Global) → q ≡ p → ResolvesBlock f ts body.value.items → g ≡ f → ResolvesBlock (g ++ only_names (name_of p)) us handler.value.items → h ≡ g
    → Resolves own f (try_tree ts p us) (code.Try body q handler) h
resolved_try {own = own} {f = f} {q = q} body handler bound a same b last =
    resolved_leaf (tree_of_code-Try body q handler ∙ λ i. try_tree (a.trees i) (bound i) (b.trees i)) refl
    (transport (sym (fits-Try own f body q handler)) (a.fitting, transport (λ i. fits_all false (same i ++ only_names (name_of (sym bound i))) handler.value.items) b.fitting))
    (last ∙ same)

pub resolved_escape : {own : Bool} {f g h : Frame} {x y : Name} {ts : Trees} (body : Arc (Vec Code Global) Global) → y ≡ x → g ≡ f ++ x ∷ [] → ResolvesBlock g ts body.value.items → h ≡ f → Resolves own f (escape_tree x ts) (code.Escape y body) h
resolved_escape {own = own} {f = f} {y = y} body named entered a same =
    resolved_leaf (tree_of_code-Escape y body ∙ λ i. escape_tree (named i) (a.trees i)) refl
    (transport (sym (fits-Escape own f y body)) (subst (λ (e : Frame). fits_all false e body.value.items) (entered ∙ ap (λ z. f ++ z ∷ []) (sym named)) a.fitting)) same

-- an object, from what it captures in the frame, and its methods in the frame of the captured names and its own
pub resolved_object : {own : Bool} {f h k : Frame} {p q : Pattern} {ms : Methods} {names : List Name} (captured : Arc (Vec Capture Global) Global) (codes : Arc (Vec MethodCode Global) Global) (index : Option (Arc MethodIndex Global)) → q ≡ p → names ≡ captures p ms → captured_names_of captured.value.items ≡ names
    → all_placed f captured.value.items → k ≡ names ++ only_names (name_of p) → ResolvesMethods k ms codes.value.items → index_fits (index_in index) (methods_of_codes codes.value.items) → h ≡ behind own (only_names (name_of p)) f → Resolves own f (object_tree p ms) (code.Object q captured codes index) h
resolved_object {own = own} {f = f} {p = p} {q = q} captured codes index bound found named placed inside a indexed grown = record {
  tree = tree_of_code-Object q captured codes index ∙ λ i. object_tree (bound i) (a.methods i);
  fitting = transport (sym (fits-Object own f q captured codes index)) (
    named ∙ found ∙ (λ i. captures (sym bound i) (sym a.methods i)),
    placed,
    subst (λ (e : Frame). fits_methods e codes.value.items) (inside ∙ λ i. sym named i ++ only_names (name_of (sym bound i))) a.fitting,
    indexed,
  );
  grown = grown;
}

-- a `when`, from its value, what it captures in the frame behind that, and its block in the frame of the captured names
pub resolved_when : {own : Bool} {f g : Frame} {t : Tree} {ts : Trees} {names : List Name} (r : Arc Code Global) (captured : Arc (Vec Capture Global) Global) (body : Arc (Vec Code Global) Global) → Resolves own f t r.value g → names ≡ when_captures ts pattern.Ignore none
    → captured_names_of captured.value.items ≡ names → all_placed g captured.value.items → ResolvesBlock names ts body.value.items → Resolves own f (when_tree t ts) (code.When r captured body) g
resolved_when {own = own} {f = f} r captured body a found named placed b = record {
  tree = tree_of_code-When r captured body ∙ λ i. when_tree (a.tree i) (b.trees i);
  fitting = transport (sym (fits-When own f r captured body)) (
    a.fitting,
    named ∙ found ∙ (λ i. when_captures (sym b.trees i) pattern.Ignore none),
    subst (λ (e : Frame). all_placed e captured.value.items) (next_frame a) placed,
    subst (λ (e : Frame). fits_all false e body.value.items) (sym named) b.fitting,
  );
  grown = a.grown;
}

-- the same with a handler, whose frame begins with the captured names too
pub resolved_when_catch : {own : Bool} {f g k : Frame} {p q : Pattern} {t : Tree} {ts us : Trees} {names : List Name} (r : Arc Code Global) (captured : Arc (Vec Capture Global) Global) (body handler : Arc (Vec Code Global) Global) → q ≡ p → Resolves own f t r.value g → names ≡ when_captures ts p us
    → captured_names_of captured.value.items ≡ names → all_placed g captured.value.items → ResolvesBlock names ts body.value.items → k ≡ names → ResolvesBlock (k ++ only_names (name_of p)) us handler.value.items → Resolves own f (when_catch_tree t ts p us) (code.WhenCatch r captured body q handler) g
resolved_when_catch {own = own} {f = f} {q = q} r captured body handler bound a found named placed b same d = record {
  tree = tree_of_code-WhenCatch r captured body q handler ∙ λ i. when_catch_tree (a.tree i) (b.trees i) (bound i) (d.trees i);
  fitting = transport (sym (fits-WhenCatch own f r captured body q handler)) (
    a.fitting,
    named ∙ found ∙ (λ i. when_captures (sym b.trees i) (sym bound i) (sym d.trees i)),
    subst (λ (e : Frame). all_placed e captured.value.items) (next_frame a) placed,
    subst (λ (e : Frame). fits_all false e body.value.items) (sym named) b.fitting,
    transport (λ i. fits_all false ((same ∙ sym named) i ++ only_names (name_of (sym bound i))) handler.value.items) d.fitting,
  );
  grown = a.grown;
}

-- one tree, and then others
pub resolved_next : {own : Bool} {f g h : Frame} {t : Tree} {ts : Trees} {c : Code} {cs : List Code} → Resolves own f t c g → ResolvesAll own g ts cs h → ResolvesAll own f (and_then t ts) (c ∷ cs) h
resolved_next {own = own} {ts = ts} {cs = cs} a b = record { trees = λ i. and_then (a.tree i) (b.trees i); fitting = (a.fitting, fits_behind own cs a b.fitting); grown = grown_both (own_names_in ts) a b.grown }

pub resolved_none : {own : Bool} {f : Frame} → ResolvesAll own f none [] f
resolved_none {own = own} {f = f} = record { trees = refl; fitting = tt; grown = sym (behind-nothing own f) }

-- a row that begins a scope of its own is a block
pub resolved_block : {f g h : Frame} {ts : Trees} {cs : List Code} → g ≡ f → ResolvesAll false g ts cs h → ResolvesBlock f ts cs
resolved_block {cs = cs} entered a = record { trees = a.trees; fitting = subst (λ (e : Frame). fits_all false e cs) entered a.fitting }

-- the trees from an index on, from the one there and those behind it
pub all_more : {own : Bool} {f g h : Frame} (xs : List Expr) (i : ℕ) (x : Expr) (c : Code) (cs : List Code) → i < length xs → x ≡ get_or xs i x → Resolves own f (tree_of x) c g → ResolvesAll own g (trees_of (drop (i + 1) xs)) cs h
    → ResolvesAll own f (trees_of (drop i xs)) (c ∷ cs) h
all_more {own = own} {f = f} {h = h} xs i x c cs in_range is a b = subst (λ ts. ResolvesAll own f ts (c ∷ cs) h) (sym (trees_from xs i x in_range is)) (resolved_next a b)

-- code that was pushed comes behind that before it
pub all_pushed : {own : Bool} {f h : Frame} {ts : Trees} (was now : List Code) (c : Code) (cs : List Code) → now ≡ was ++ c ∷ [] → ResolvesAll own f ts (was ++ c ∷ cs) h → ResolvesAll own f ts (now ++ cs) h
all_pushed {own = own} {f = f} {h = h} {ts = ts} was now c cs pushed a =
    subst (λ ds. ResolvesAll own f ts ds h) (sym (ap (λ ds. ds ++ cs) pushed ∙ append_assoc was (c ∷ []) cs)) a

-- no tree is left
pub all_end : {own : Bool} (f : Frame) (xs : List Expr) (i : ℕ) → length xs ≤ i → ResolvesAll own f (trees_of (drop i xs)) [] f
all_end {own = own} f xs i h = subst (λ ts. ResolvesAll own f ts [] f) (sym (no_trees_from xs i h)) resolved_none

pub all_done : {own : Bool} {f h : Frame} {ts : Trees} (cs : List Code) → ResolvesAll own f ts (cs ++ []) h → ResolvesAll own f ts cs h
all_done {own = own} {f = f} {h = h} {ts = ts} cs a = subst (λ ds. ResolvesAll own f ts ds h) (append-nil cs) a

-- the same of methods
pub methods_more : {f : Frame} (ms : List Method) (i : ℕ) (m : Method) (c : MethodCode) (cs : List MethodCode) → i < length ms → m ≡ get_or ms i m → ResolvesMethod f m c → ResolvesMethods f (methods_of (drop (i + 1) ms)) cs
    → ResolvesMethods f (methods_of (drop i ms)) (c ∷ cs)
methods_more {f = f} ms i m c cs in_range is a b = record {
  methods = (λ j. and_method (a.verb j) (a.parameters j) (a.body.trees j) (b.methods j)) ∙ sym (methods_from ms i m in_range is);
  fitting = (subst (λ ps. fits_all false (f ++ only_names (names_of_all ps)) c.body.value.items) (sym a.parameters) a.body.fitting, b.fitting);
}

pub methods_pushed : {f : Frame} {ms : Methods} (was now : List MethodCode) (c : MethodCode) (cs : List MethodCode) → now ≡ was ++ c ∷ [] → ResolvesMethods f ms (was ++ c ∷ cs) → ResolvesMethods f ms (now ++ cs)
methods_pushed {f = f} {ms = ms} was now c cs pushed a = subst (ResolvesMethods f ms) (sym (ap (λ ds. ds ++ cs) pushed ∙ append_assoc was (c ∷ []) cs)) a

pub methods_end : (f : Frame) (ms : List Method) (i : ℕ) → length ms ≤ i → ResolvesMethods f (methods_of (drop i ms)) []
methods_end f ms i h = record { methods = sym (no_methods_from ms i h); fitting = tt }

pub methods_done : {f : Frame} {ms : Methods} (cs : List MethodCode) → ResolvesMethods f ms (cs ++ []) → ResolvesMethods f ms cs
methods_done {f = f} {ms = ms} cs a = subst (ResolvesMethods f ms) (append-nil cs) a
