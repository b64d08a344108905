-- On what objects capture, and on the names that a method begins with.
use Rattle.std.proofs.Common.{arith, Bool, ◌≡◌, ℕ, ◌+◌, ◌<◌, ◌≤◌, List, [], ◌∷◌, ◌++◌, length, drop, get_or, Option, Some, None, true, false, ◌&&◌, cond, refl, sym, ap, ◌∙◌, suc, add-one, append_assoc, append-nil}
use Rattle.std.proofs.Math.Seq.{drop-cons}
use Rattle.std.proofs.lemmas.List.{drop_all}
use Rattle.std.specs.Str.{bytes_eq}
use Rattle.kernele.specs.Tree.{Name, Methods}
use Rattle.kernele_scopes.specs.Free.{captures}
use Rattle.code.specs.View.{trees_of_codes, methods_of_codes}
use Rattle.code.specs.declared.code.MethodCode.{MethodCode}
use Rattle.kernele.specs.declared.tree.Pattern.{Pattern}
use Rattle.ids.specs.declared.names.ObjId.{ObjId}
use Rattle.values.specs.Data.{Vals, object}
use Rattle.values.specs.View.{val_of, vals_of}
use Rattle.values.specs.declared.value.Value.{Value}
use Rattle.heap.specs.State.{Bind, Nouns, Plain, Cells, frame_of}
use Rattle.eval_rules.specs.At.{At}
use Rattle.eval_rules.proofs.Patterns.{as_many-true, as_many-false}
use Rattle.eval_rules.specs.Rules.{sought, seeking, Capture, captured, missing, and_captured, all_captured, all_sought, named, named_all, method_in, as_many, object_made, placed, matched, given}
use Rattle.eval_rules.specs.Rules.{capturing, placed_end, object_end}
use Rattle.eval_rules.proofs.Scopes.{room}
use Rattle.eval_rules.proofs.Seeking.{captures_read}
use Rattle.code.specs.Frames.{captured_names_of}
use Rattle.code.specs.declared.code.Capture.{Capture as CaptureCode}
use Rattle.eval_rules.specs.Doings.{next_object, has_object_room}

-- behind a name that stands for nothing, nothing is captured
missing_stays : (y : Name) (xs : List Name) (a : At) → all_captured (missing y) xs a ≡ missing y
missing_stays y [] a = refl
missing_stays y (x ∷ xs) a = refl

missing_seeks : (y : Name) (xs : List Name) (a : At) → all_sought (missing y) xs a ≡ a
missing_seeks y [] a = refl
missing_seeks y (x ∷ xs) a = refl

-- one more pattern takes its value
pub named_more : (ps : List Pattern) (vs : List Value) (i : ℕ) (p : Pattern) (v : Value) (ns : Nouns) → i < length ps → i < length vs → p ≡ get_or ps i p → v ≡ get_or vs i v
    → named_all (drop i ps) (vals_of (drop i vs)) ns ≡ named_all (drop (i + 1) ps) (vals_of (drop (i + 1) vs)) (named p (val_of v) ns)
named_more ps vs i p v ns h g e f =
    rw add-one ((λ j. named_all (drop-cons ps i p h j) (vals_of (drop-cons vs i v g j)) ns)
    ∙ (λ j. named_all (drop (suc i) ps) (vals_of (drop (suc i) vs)) (named (sym e j) (val_of (sym f j)) ns)))

-- no pattern is left
pub named_end : (ps : List Pattern) (vs : Vals) (i : ℕ) (ns : Nouns) → length ps ≤ i → named_all (drop i ps) vs ns ≡ ns
named_end ps vs i ns h = ap (λ qs. named_all qs vs ns) (drop_all i ps h)

-- the next method is the one that is sought
pub method_here : (rest others : List MethodCode) (m : MethodCode) (verb : Name) (vs : List Value) → rest ≡ m ∷ others → bytes_eq m.verb verb ≡ true → length vs ≡ length m.parameters.value.items
    → Some (m.parameters.value.items, trees_of_codes m.body.value.items) ≡ method_in (methods_of_codes rest) verb (vals_of vs)
method_here rest others m verb vs e p q =
    sym (ap (λ ms. method_in (methods_of_codes ms) verb (vals_of vs)) e
    ∙ (λ i. cond (p i && as_many-true m.parameters.value.items vs q i) (Some (m.parameters.value.items, trees_of_codes m.body.value.items)) (method_in (methods_of_codes others) verb (vals_of vs))))

-- it has another verb
pub method_not : (rest others : List MethodCode) (m : MethodCode) (verb : Name) (vs : List Value) → rest ≡ m ∷ others → bytes_eq m.verb verb ≡ false → method_in (methods_of_codes others) verb (vals_of vs) ≡ method_in (methods_of_codes rest) verb (vals_of vs)
method_not rest others m verb vs e p =
    sym (ap (λ ms. method_in (methods_of_codes ms) verb (vals_of vs)) e
    ∙ ap (λ b. cond (b && as_many m.parameters.value.items (vals_of vs)) (Some (m.parameters.value.items, trees_of_codes m.body.value.items)) (method_in (methods_of_codes others) verb (vals_of vs))) p)

-- it has another number of parameters
pub method_other : (rest others : List MethodCode) (m : MethodCode) (verb : Name) (vs : List Value) → rest ≡ m ∷ others → bytes_eq m.verb verb ≡ true → (length vs ≡ length m.parameters.value.items → ⊥) → method_in (methods_of_codes others) verb (vals_of vs) ≡ method_in (methods_of_codes rest) verb (vals_of vs)
method_other rest others m verb vs e p q =
    sym (ap (λ ms. method_in (methods_of_codes ms) verb (vals_of vs)) e
    ∙ (λ i. cond (p i && as_many-false m.parameters.value.items vs q i) (Some (m.parameters.value.items, trees_of_codes m.body.value.items)) (method_in (methods_of_codes others) verb (vals_of vs))))

placed_ends : (room : Bool) (a : At) (q : Cells) → placed_end room (record a { touched = q }) ≡ placed_end room a
placed_ends true a q = refl
placed_ends false a q = refl

-- what is made of what is captured ends so
pub object_ends : (p : Pattern) (ms : Methods) (ns : Nouns) (d : Capture) (a b : At) → captured ns ≡ d → b ≡ capturing p ms a → placed_end (has_object_room b) b ≡ object_end d a
object_ends p ms ns d a b q e =
    let reads : b ≡ record a { touched = (capturing p ms a).touched } = e ∙ captures_read (captured []) (captures p ms) a in
    ap (λ (z : At). placed_end (has_object_room z) z) reads ∙ placed_ends (has_object_room a) a (capturing p ms a).touched ∙ ap (λ m. object_end m a) q

-- an object for which there is room
pub placed_there : (p : Pattern) (o q : Plain) (i : ObjId) (a b c : At) → a.objects < 4096 → q ≡ o → i ≡ next_object a → b ≡ object_made q a → c ≡ matched p (object i) b → c ≡ placed (has_object_room a) p o a
placed_there p o q i a b c h e f g m =
    m ∙ (λ j. matched p (object (f j)) (g j)) ∙ ap (λ r. matched p (object (next_object a)) (object_made r a)) e ∙ sym (ap (λ r. placed r p o a) (room a.objects h))

-- two values or more are no argument of an ejector
pub given_none : (vs : List Value) → (length vs ≡ 0 → ⊥) → (length vs ≡ 1 → ⊥) → None ≡ given (vals_of vs)
given_none [] h g = absurd (h refl)
given_none (v ∷ []) h g = absurd (g refl)
given_none (v ∷ w ∷ vs) h g = refl

-- what a capture comes to, and where it stands then
pub record Captures (c : Capture) (xs : List Name) (a : At) (all : Capture) (z : At) : Type 0 where
  pub names : all_captured c xs a ≡ all
  pub place : all_sought c xs a ≡ z

-- the next name stands for nothing
pub capture_ends : (ns : Nouns) (x y : Name) (xs : List Name) (a b : At) (all : Capture) (z : At) → None ≡ sought x a → y ≡ x → b ≡ seeking x a → Captures (captured ns) (x ∷ xs) a all z → (missing y ≡ all) × (b ≡ z)
capture_ends ns x y xs a b all z n e g h = (
  ap missing e ∙ sym (missing_stays x xs (seeking x a)) ∙ ap (λ m. all_captured (and_captured (captured ns) x m) xs (seeking x a)) n ∙ h.names,
  g ∙ sym (missing_seeks x xs (seeking x a)) ∙ ap (λ m. all_sought (and_captured (captured ns) x m) xs (seeking x a)) n ∙ h.place,
)

-- the next name stands for something
pub capture_goes : (ns ms : Nouns) (x : Name) (m d : Bind) (xs : List Name) (a b : At) (all : Capture) (z : At) → Some m ≡ sought x a → d ≡ m → ms ≡ (x, d) ∷ ns → b ≡ seeking x a → Captures (captured ns) (x ∷ xs) a all z → Captures (captured ms) xs b all z
capture_goes ns ms x m d xs a b all z s e f g h =
    let c : captured ms ≡ and_captured (captured ns) x (sought x a) = ap captured (f ∙ ap (λ b. (x, b) ∷ ns) e) ∙ ap (and_captured (captured ns) x) s in
    record { names = (λ i. all_captured (c i) xs (g i)) ∙ h.names; place = (λ i. all_sought (c i) xs (g i)) ∙ h.place }

-- no name is left
pub capture_done : (ns : Nouns) (all : Capture) (cs : List CaptureCode) (a : At) {z : At} → length cs ≡ 0 → Captures (captured ns) (captured_names_of cs) a all z → (captured ns ≡ all) × (a ≡ z)
capture_done ns all [] a e h = (h.names, h.place)
capture_done ns all (x ∷ xs) a e h = absurd (omega (arith, e))

not_missing : (ms : Nouns) (x : Name) → captured ms ≡ missing x → ⊥
not_missing ms x e = cc

abbrev nouns_in : Nouns → Capture → Nouns
nouns_in ns (captured ms) = ms
nouns_in ns (missing x) = ns

captured_more_frame : (ns ms : Nouns) (x : Name) (xs : List Name) (a : At) (m : Option Bind) → ((b : Bind) → captured ms ≡ all_captured (captured ((x, b) ∷ ns)) xs a → frame_of ms ≡ (frame_of ns ++ x ∷ []) ++ xs)
    → captured ms ≡ all_captured (and_captured (captured ns) x m) xs a → frame_of ms ≡ frame_of ns ++ x ∷ xs
captured_more_frame ns ms x xs a (Some b) more h = more b h ∙ append_assoc (frame_of ns) (x ∷ []) xs
captured_more_frame ns ms x xs a None more h = absurd (not_missing ms x (h ∙ missing_stays x xs a))

-- what is captured has the names that are wanted
pub captured_frame : (ns ms : Nouns) (xs : List Name) (a : At) → captured ms ≡ all_captured (captured ns) xs a → frame_of ms ≡ frame_of ns ++ xs
captured_frame ns ms [] a h = ap (λ c. frame_of (nouns_in ns c)) h ∙ sym (append-nil (frame_of ns))
captured_frame ns ms (x ∷ xs) a h = captured_more_frame ns ms x xs (seeking x a) (sought x a) (λ b. captured_frame ((x, b) ∷ ns) ms xs (seeking x a)) h
