-- Code fits where it is evaluated: what is left fits behind a tree that gave a value.
use Rattle.std.proofs.Common.{◌≡◌, ℕ, ◌+◌, ◌<◌, List, [], ◌∷◌, ◌++◌, length, drop, get_or, Bool, false, refl, sym, ap, ◌∙◌, subst, suc, add-one, append-nil, append_assoc, true}
use Rattle.std.proofs.Math.Seq.{drop-cons}
use Rattle.std.proofs.lemmas.List.{map-append}
use Rattle.kernele.specs.Tree.{Name, Tree}
use Rattle.kernele_scopes.specs.Scope.{name_of, names_of_all, own_names}
use Rattle.kernele.specs.declared.tree.Pattern.{Pattern}
use Rattle.kernele.specs.declared.tree.Pattern.TheVariants as pattern
use Rattle.code.specs.Frames.{Frame, only_names, after, place_in, fits, fits_all, fits_methods}
use Rattle.code.specs.View.{tree_of_code}
use Rattle.code.specs.declared.code.Code.{Code}
use Rattle.code.specs.declared.code.NounPlace.{NounPlace}
use Rattle.code.specs.declared.code.MethodCode.{MethodCode}
use Rattle.kernele_scopes.specs.declared.naming.TopName.{TopName}
use Rattle.values.specs.Data.{Val, Vals, no_vals, and_val}
use Rattle.values.specs.View.{vals_of}
use Rattle.values.specs.declared.value.Value.{Value}
use Rattle.heap.specs.State.{Nouns, frame_of}
use Rattle.heap.specs.Names.{names_of}
use Rattle.heap.specs.View.{nouns_of}
use Rattle.heap.proofs.Names.{frame_of_nouns}
use Rattle.eval_rules.specs.Locals.{local_names, locals_after}
use Rattle.eval_rules.proofs.Locals.{frame_of_locals}
use Rattle.eval_rules.specs.declared.local.Local.{Local}
use Rattle.heap.specs.declared.state.Noun.{Noun}
use Rattle.eval_rules.specs.At.{At}
use Rattle.eval_rules.specs.Outcomes.{End, value}
use Rattle.eval_rules.specs.Fits.{fits_at, all_fit_at, frame_behind}
use Rattle.eval_rules.specs.Rules.{Ends, goes, choice_of, listed, listing_of, matched, entering, inside, named, named_all, as_many, Needs}
use Rattle.eval_rules.proofs.Patterns.{as_many-true}
use Rattle.eval_rules.proofs.Added.{Adds, ends_add, goes_add, lists_add}

-- what holds of the frame behind a place holds where the names have been added
arrived : (P : Bool → Frame → Type 0) (t : Tree) (a b : At) → Adds (own_names t) a b → P a.own_scope (after a.own_scope t (frame_of a.nouns)) → P b.own_scope (frame_of b.nouns)
arrived P t a b g h = subst (λ o. P o (frame_of b.nouns)) (sym g.1) (subst (λ f. P a.own_scope f) (sym g.0) h)

-- code that fits behind a tree fits once that has given a value
pub fits_then : {k : ℕ} {t : Tree} {a b : At} {v : Val} {d e : Code} → d ≡ e → Ends k t a (value v) b → fits a.own_scope (after a.own_scope t (frame_of a.nouns)) e → fits_at b d
fits_then {t = t} {a = a} {b = b} {e = e} same r h = subst (fits_at b) (sym same) (arrived (λ o f. fits o f e) t a b (ends_add r) h)

pub all_fit_then : {k : ℕ} {t : Tree} {a b : At} {v : Val} {ds es : List Code} → ds ≡ es → Ends k t a (value v) b → fits_all a.own_scope (after a.own_scope t (frame_of a.nouns)) es → all_fit_at b ds
all_fit_then {t = t} {a = a} {b = b} {es = es} same r h = subst (all_fit_at b) (sym same) (arrived (λ o f. fits_all o f es) t a b (ends_add r) h)

-- a block fits behind a condition that chose it, and behind a list that it goes over
pub chosen_fits : {k : ℕ} {t : Tree} {a b : At} {o : End} {q : Bool} {ds es : List Code} → ds ≡ es → Needs k t a o b → choice_of o ≡ goes q → fits_all false (after a.own_scope t (frame_of a.nouns)) es → fits_all false (frame_of b.nouns) ds
chosen_fits {t = t} {a = a} {b = b} {es = es} same r e h = subst (fits_all false (frame_of b.nouns)) (sym same) (arrived (λ o f. fits_all false f es) t a b (goes_add r e) h)

pub repeated_fits : {k : ℕ} {t : Tree} {a b : At} {o : End} {vs : Vals} (xs : List Name) {ds es : List Code} → ds ≡ es → Needs k t a o b → listing_of o ≡ listed vs → fits_all false (after a.own_scope t (frame_of a.nouns) ++ xs) es → fits_all false (frame_of b.nouns ++ xs) ds
repeated_fits {t = t} {a = a} {b = b} xs {es = es} same r e h = subst (fits_all false (frame_of b.nouns ++ xs)) (sym same) (arrived (λ o f. fits_all false (f ++ xs) es) t a b (lists_add r e) h)

-- a name that is assigned is at its place behind the right side
pub placed_then : {k : ℕ} {t : Tree} {a b : At} {v : Val} {p : NounPlace} (x : Name) → Ends k t a (value v) b → p ≡ place_in (after a.own_scope t (frame_of a.nouns)) x → p ≡ place_in (frame_of b.nouns) x
placed_then x r h = h ∙ ap (λ f. place_in f x) (sym (ends_add r).0)

-- the parts of code fit where the whole does
pub parts_fit : (a : At) {d e : Code} {A : Type 0} → d ≡ e → fits_at a e ≡ A → fits_at a d → A
parts_fit a same parts h = subst (λ B. B) parts (subst (fits_at a) same h)

-- a block in a frame that is known otherwise
pub block_fits : {f g : Frame} {ds es : List Code} → ds ≡ es → g ≡ f → fits_all false f es → fits_all false g ds
block_fits {g = g} {es = es} same e h = subst (fits_all false g) (sym same) (subst (λ f. fits_all false f es) (sym e) h)

-- a method's block fits the names that it begins with
pub entry_fits : (cs : List Noun) (ns : List Local) (a b : At) {ds es : List Code} → b ≡ inside (locals_after (nouns_of cs) ns) a → ds ≡ es → fits_all false (names_of cs ++ local_names ns) es → all_fit_at b ds
entry_fits cs ns a b {ds = ds} e same h = subst (λ b. all_fit_at b ds) (sym e) (block_fits same (frame_of_locals cs ns) h)

-- the parts of a While fit at its next round
pub round_fits : (a b : At) (e : Code) (es : List Code) → b.nouns ≡ a.nouns → b.own_scope ≡ a.own_scope → fits_at a e × fits_all false (frame_behind a e) es → fits_at b e × fits_all false (frame_behind b e) es
round_fits a b e es n o h =
    subst (λ own. fits own (frame_of b.nouns) e × fits_all false (after own (tree_of_code e) (frame_of b.nouns)) es) (sym o)
    (subst (λ ns. fits a.own_scope (frame_of ns) e × fits_all false (after a.own_scope (tree_of_code e) (frame_of ns)) es) (sym n) h)

-- the items from an index on
pub fits_from : (own : Bool) (f : Frame) (xs : List Code) (i : ℕ) (x : Code) → i < length xs → x ≡ get_or xs i x → fits_all own f (drop i xs)
    → fits own f x × fits_all own (after own (tree_of_code x) f) (drop (i + 1) xs)
fits_from own f xs i x h e g = rw add-one (subst (λ y. fits own f y × fits_all own (after own (tree_of_code y) f) (drop (suc i) xs)) (sym e) (subst (fits_all own f) (drop-cons xs i x h) g))

entered_fits : (p : Pattern) (v : Val) (a : At) (es : List Code) → fits_all false (frame_of a.nouns ++ only_names (name_of p)) es → fits_all (matched p v (entering a)).own_scope (frame_of (matched p v (entering a)).nouns) es
entered_fits (pattern.Name x) v a es h = h
entered_fits pattern.Ignore v a es h = subst (λ f. fits_all false f es) (append-nil (frame_of a.nouns)) h

-- the first of the methods fits, and so do the others
pub first_fits : (f : Frame) (rest others : List MethodCode) (m : MethodCode) → rest ≡ m ∷ others → fits_methods f rest → fits_all false (f ++ only_names (names_of_all m.parameters.value.items)) m.body.value.items
first_fits f rest others m e h = (subst (fits_methods f) e h).0

pub others_fit : (f : Frame) (rest others : List MethodCode) (m : MethodCode) → rest ≡ m ∷ others → fits_methods f rest → fits_methods f others
others_fit f rest others m e h = (subst (fits_methods f) e h).1

-- the names of what a pattern takes
named_frame : (p : Pattern) (v : Val) (ns : Nouns) → frame_of (named p v ns) ≡ frame_of ns ++ only_names (name_of p)
named_frame (pattern.Name x) v ns = refl
named_frame pattern.Ignore v ns = sym (append-nil (frame_of ns))

all_named_frame : (ps : List Pattern) (vs : Vals) (ns : Nouns) → as_many ps vs ≡ true → frame_of (named_all ps vs ns) ≡ frame_of ns ++ only_names (names_of_all ps)
all_named_frame [] vs ns e = sym (append-nil (frame_of ns))
all_named_frame (p ∷ ps) no_vals ns e = absurd (cc)
all_named_frame (p ∷ ps) (and_val v vs) ns e =
    all_named_frame ps vs (named p v ns) e ∙ ap (λ f. f ++ only_names (names_of_all ps)) (named_frame p v ns) ∙ append_assoc (frame_of ns) (only_names (name_of p)) (only_names (names_of_all ps))
    ∙ ap (λ xs. frame_of ns ++ xs) (sym (map-append (λ (t : TopName). t.name) (name_of p) (names_of_all ps)))

-- the names that a method begins with
method_frame : (xs : List Local) (ys : List Noun) (own : Pattern) (i : Val) (ps : List Pattern) (vs : List Value) → locals_after (nouns_of ys) xs ≡ named_all ps (vals_of vs) (named own i (nouns_of ys)) → length vs ≡ length ps
    → names_of ys ++ local_names xs ≡ (names_of ys ++ only_names (name_of own)) ++ only_names (names_of_all ps)
method_frame xs ys own i ps vs e l =
    sym (frame_of_locals ys xs) ∙ ap frame_of e ∙ all_named_frame ps (vals_of vs) (named own i (nouns_of ys)) (as_many-true ps vs l)
    ∙ ap (λ f. f ++ only_names (names_of_all ps)) (named_frame own i (nouns_of ys) ∙ ap (λ f. f ++ only_names (name_of own)) (frame_of_nouns ys))

-- a method's block fits them
pub method_fits : {ps qs : List Pattern} {ds es : List Code} {cs : List Noun} (xs : List Local) (ys : List Noun) (own : Pattern) (i : Val) (vs : List Value) → locals_after (nouns_of ys) xs ≡ named_all qs (vals_of vs) (named own i (nouns_of ys)) → qs ≡ ps → length vs ≡ length ps → cs ≡ ys → ds ≡ es
    → fits_all false ((names_of ys ++ only_names (name_of own)) ++ only_names (names_of_all ps)) es → fits_all false (names_of cs ++ local_names xs) ds
method_fits {ps = ps} xs ys own i vs e q l shared same h =
    block_fits same (ap (λ cs. names_of cs ++ local_names xs) shared ∙ method_frame xs ys own i ps vs (e ∙ ap (λ ps. named_all ps (vals_of vs) (named own i (nouns_of ys))) q) l) h
