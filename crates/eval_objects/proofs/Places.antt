-- What a name stands for is at its place.
use Rattle.std.proofs.Common.{◌≡◌, ℕ, ◌+◌, ◌-◌, ◌<◌, ◌≤◌, List, [], ◌∷◌, ◌++◌, length, take, map, get_or, Option, Some, None, Bool, true, false, cond, refl, sym, ap, ◌∙◌, add-one, arith, length-append, append-nil, append_assoc}
use Rattle.std.specs.Prelude.{IfSome}
use Rattle.std.specs.Option.{option_map}
use Rattle.std.specs.Str.{bytes_eq}
use Rattle.std.proofs.lemmas.List.{get_or_append_left, get_or-append_right, get_or-map, get_or-take, get_or_push, length-map, length-take-le}
use Rattle.kernele.specs.Tree.{Name}
use Rattle.code.specs.Frames.{newest, or_oldest, place_at, place_in}
use Rattle.code.specs.declared.code.NounPlace.{NounPlace}
use Rattle.code.specs.declared.code.NounPlace.TheVariants as place
use Rattle.heap.specs.State.{Bind, Nouns, lookup, Content, bound, State, read, top, frame_of}
use Rattle.heap.specs.View.{bind_of, nouns_of, nouns_after}
use Rattle.heap.specs.declared.state.Noun.{Noun}
use Rattle.eval_rules.specs.Locals.{locals_after, names_in}
use Rattle.eval_rules.proofs.Scopes.{length-names_in}
use Rattle.eval_rules.specs.declared.local.Local.{Local}
use Rattle.eval_rules.specs.At.{At}
use Rattle.eval_rules.specs.Rules.{found, top_bind, reached, sought_in}
use Rattle.eval_objects.specs.Finding.{StandsAtHand}
use Rattle.eval_objects.proofs.Reached.{reached_already}

abbrev position : Option ℕ → ℕ
position (Some i) = i
position None = 0

-- a name that is put behind the others is the newest where it is the one that is sought
newest_first : (q : Bool) → or_oldest None q ≡ cond q (Some 0) None
newest_first true = refl
newest_first false = refl

newest_behind : (m : Option ℕ) (q here : Bool) (k : ℕ) → or_oldest (cond q (Some k) m) here ≡ cond q (Some (k + 1)) (or_oldest m here)
newest_behind m true here k = refl
newest_behind m false here k = refl

newest_push : (ys : List Name) (y x : Name) → newest (ys ++ y ∷ []) x ≡ cond (bytes_eq y x) (Some (length ys)) (newest ys x)
newest_push [] y x = newest_first (bytes_eq y x)
newest_push (z ∷ zs) y x =
    ap (λ m. or_oldest m (bytes_eq z x)) (newest_push zs y x) ∙ newest_behind (newest zs x) (bytes_eq y x) (bytes_eq z x) (length zs)
    ∙ ap (λ k. cond (bytes_eq y x) (Some k) (newest (z ∷ zs) x)) (add-one (length zs))

-- a name that is not in the frame is not among the nouns
unseen_case : (n : Name × Bind) (ns : Nouns) (x : Name) (q : Bool) → cond q (Some (length (frame_of ns))) (newest (frame_of ns) x) ≡ None → (newest (frame_of ns) x ≡ None → lookup ns x ≡ None) → cond q (Some n.1) (lookup ns x) ≡ None
unseen_case n ns x true e more = absurd (cc)
unseen_case n ns x false e more = more e

unseen : (ns : Nouns) (x : Name) → newest (frame_of ns) x ≡ None → lookup ns x ≡ None
unseen [] x e = refl
unseen (n ∷ ns) x e = unseen_case n ns x (bytes_eq n.0 x) (sym (newest_push (frame_of ns) n.0 x) ∙ e) (unseen ns x)

-- a frame has as many names as there are nouns
length-frame_of : (ns : Nouns) → length (frame_of ns) ≡ length ns
length-frame_of [] = refl
length-frame_of (n ∷ ns) = omega (arith, length-append (frame_of ns) (n.0 ∷ []), length-frame_of ns)

-- a name that is in the frame is at a position of the nouns
inside_case : (q : Bool) (k i : ℕ) (m : Option ℕ) → cond q (Some k) m ≡ Some i → ((j : ℕ) → m ≡ Some j → j < k) → i < k + 1
inside_case true k i m e more = omega (arith, ap position e)
inside_case false k i m e more = omega (arith, more i e)

inside : (ns : Nouns) (x : Name) (i : ℕ) → newest (frame_of ns) x ≡ Some i → i < length ns
inside [] x i e = absurd (cc)
inside (n ∷ ns) x i e =
    let k = length (frame_of ns) in
    let older : (j : ℕ) → newest (frame_of ns) x ≡ Some j → j < k = λ j m. omega (arith, inside ns x j m, length-frame_of ns) in
    omega (arith, inside_case (bytes_eq n.0 x) k i (newest (frame_of ns) x) (sym (newest_push (frame_of ns) n.0 x) ∙ e) older, length-frame_of ns)

-- the nouns, the oldest first
abbrev in_order : Nouns → Nouns
in_order [] = []
in_order (n ∷ ns) = in_order ns ++ n ∷ []

length-in_order : (ns : Nouns) → length (in_order ns) ≡ length ns
length-in_order [] = refl
length-in_order (n ∷ ns) = omega (arith, length-append (in_order ns) (n ∷ []), length-in_order ns)

-- .. and at this position is what it stands for
seen_case : (n d : Name × Bind) (ns : Nouns) (x : Name) (i : ℕ) (q : Bool) → cond q (Some (length (frame_of ns))) (newest (frame_of ns) x) ≡ Some i → (newest (frame_of ns) x ≡ Some i → lookup ns x ≡ Some (get_or (in_order ns) i d).1)
    → cond q (Some n.1) (lookup ns x) ≡ Some (get_or (in_order ns ++ n ∷ []) i d).1
seen_case n d ns x i true e more =
    let last : length (in_order ns) ≡ i = omega (arith, ap position e, length-frame_of ns, length-in_order ns) in
    ap (λ (m : Name × Bind). Some m.1) (sym (get_or_push (in_order ns) n d i last))
seen_case n d ns x i false e more =
    let less : i < length (in_order ns) = omega (arith, inside ns x i e, length-in_order ns) in
    more e ∙ ap (λ (m : Name × Bind). Some m.1) (sym (get_or_append_left (in_order ns) (n ∷ []) d i less))

seen : (ns : Nouns) (x : Name) (i : ℕ) (d : Name × Bind) → newest (frame_of ns) x ≡ Some i → lookup ns x ≡ Some (get_or (in_order ns) i d).1
seen [] x i d e = absurd (cc)
seen (n ∷ ns) x i d e = seen_case n d ns x i (bytes_eq n.0 x) (sym (newest_push (frame_of ns) n.0 x) ∙ e) (seen ns x i d)

-- the nouns of a method: those that were captured, and then those of its frame
abbrev of_noun : Noun → Name × Bind
of_noun n = (n.name, bind_of n.binding)

abbrev of_local : Local → Name × Bind
of_local n = (n.name.value, bind_of n.binding)

in_order_nouns : (ns : Nouns) (cs : List Noun) → in_order (nouns_after ns cs) ≡ in_order ns ++ map of_noun cs
in_order_nouns ns [] = sym (append-nil (in_order ns))
in_order_nouns ns (c ∷ cs) = in_order_nouns (of_noun c ∷ ns) cs ∙ append_assoc (in_order ns) (of_noun c ∷ []) (map of_noun cs)

in_order_locals : (ns : Nouns) (xs : List Local) → in_order (locals_after ns xs) ≡ in_order ns ++ map of_local xs
in_order_locals ns [] = sym (append-nil (in_order ns))
in_order_locals ns (x ∷ xs) = in_order_locals (of_local x ∷ ns) xs ∙ append_assoc (in_order ns) (of_local x ∷ []) (map of_local xs)

in_order_names : (cs : List Noun) (k : ℕ) (xs : List Local) → in_order (names_in cs k xs) ≡ map of_noun (take k cs) ++ map of_local xs
in_order_names cs k xs = in_order_locals (nouns_of (take k cs)) xs ∙ ap (λ ns. ns ++ map of_local xs) (in_order_nouns [] (take k cs))

length-captured : (cs : List Noun) (k : ℕ) → k ≤ length cs → length (map of_noun (take k cs)) ≡ k
length-captured cs k h = omega (arith, length-map (take k cs) of_noun, length-take-le k cs h)

-- an old position is that of a name that was captured
pub captured_there : (cs : List Noun) (k : ℕ) (xs : List Local) (i : ℕ) (n : Noun) (x : Name) → k ≤ length cs → i < k → n ≡ get_or cs i n → newest (frame_of (names_in cs k xs)) x ≡ Some i → lookup (names_in cs k xs) x ≡ Some (bind_of n.binding)
captured_there cs k xs i n x h less is e =
    let ks = map of_noun (take k cs) in
    let front : i < length ks = omega (arith, length-captured cs k h) in
    let some : i < length (take k cs) = omega (arith, length-take-le k cs h) in
    seen (names_in cs k xs) x i (of_noun n) e ∙ ap (λ ns. Some (get_or ns i (of_noun n)).1) (in_order_names cs k xs)
    ∙ ap (λ (m : Name × Bind). Some m.1) (get_or_append_left ks (map of_local xs) (of_noun n) i front ∙ get_or-map of_noun (take k cs) i n (of_noun n) some)
    ∙ ap (λ (m : Noun). Some (bind_of m.binding)) (get_or-take k cs i n less ∙ sym is)

-- the positions behind it are those of the frame
pub local_there : (cs : List Noun) (k : ℕ) (xs : List Local) (i : ℕ) (n : Local) (x : Name) → k ≤ length cs → k ≤ i → n ≡ get_or xs (i - k) n → newest (frame_of (names_in cs k xs)) x ≡ Some i → lookup (names_in cs k xs) x ≡ Some (bind_of n.binding)
local_there cs k xs i n x h more is e =
    let ks = map of_noun (take k cs) in
    let some : i - k < length xs = omega (arith, inside (names_in cs k xs) x i e, length-names_in cs k xs h) in
    seen (names_in cs k xs) x i (of_local n) e ∙ ap (λ ns. Some (get_or ns i (of_local n)).1) (in_order_names cs k xs)
    ∙ ap (λ (m : Name × Bind). Some m.1) (get_or-append_right ks (map of_local xs) k i (of_local n) (length-captured cs k h) more ∙ get_or-map of_local xs (i - k) n (of_local n) some)
    ∙ ap (λ (m : Local). Some (bind_of m.binding)) (sym is)

abbrev of_place : NounPlace → Option ℕ
of_place (place.Frame i) = Some i
of_place place.Top = None

place_undone : (m : Option ℕ) → of_place (place_at m) ≡ m
place_undone (Some i) = refl
place_undone None = refl

-- the position that a place tells
told : (ns : Nouns) (x : Name) (p q : NounPlace) → p ≡ place_in (frame_of ns) x → p ≡ q → newest (frame_of ns) x ≡ of_place q
told ns x p q h e = sym (place_undone (newest (frame_of ns) x)) ∙ ap of_place (sym h ∙ e)

pub told_at : (ns : Nouns) (x : Name) (p : NounPlace) (i : ℕ) → p ≡ place_in (frame_of ns) x → p ≡ place.Frame i → newest (frame_of ns) x ≡ Some i
told_at ns x p i h e = told ns x p (place.Frame i) h e

pub within : (ns : Nouns) (x : Name) (p : NounPlace) (i : ℕ) → p ≡ place_in (frame_of ns) x → p ≡ place.Frame i → i < length ns
within ns x p i h e = inside ns x i (told_at ns x p i h e)

top_found : {A : Type 0} (f : A → Bind) (r : Option A) (m : Option Content) → option_map (λ b. bound (f b)) r ≡ m → option_map f r ≡ top_bind m
top_found f (Some b) m e = ap top_bind e
top_found f None m e = ap top_bind e

pub found_outside : {A : Type 0} (f : A → Bind) (r : Option A) (ns : Nouns) (x : Name) (p : NounPlace) (s : State) → p ≡ place_in (frame_of ns) x → p ≡ place.Top → option_map (λ b. bound (f b)) r ≡ read s (top x)
    → option_map f r ≡ found s x (lookup ns x)
found_outside f r ns x p s h e is = top_found f r (read s (top x)) is ∙ sym (ap (found s x) (unseen ns x (told ns x p place.Top h e)))

-- to seek a name that is in the frame touches nothing ..
pub sought_inside : (ns : Nouns) (x : Name) (p : NounPlace) (i : ℕ) (a : At) → p ≡ place_in (frame_of ns) x → p ≡ place.Frame i → a ≡ sought_in x (lookup ns x) a
sought_inside [] x p i a h e = absurd (omega (arith, within [] x p i h e))
sought_inside (n ∷ ns) x p i a h e = sym (ap (λ m. sought_in x m a) (seen (n ∷ ns) x i n (told_at (n ∷ ns) x p i h e)))

-- .. and of any other its top noun
pub sought_outside : (ns : Nouns) (x : Name) (p : NounPlace) (a : At) → p ≡ place_in (frame_of ns) x → p ≡ place.Top → reached (top x) a ≡ sought_in x (lookup ns x) a
sought_outside ns x p a h e = sym (ap (λ m. sought_in x m a) (unseen ns x (told ns x p place.Top h e)))

-- a top noun that was touched before is at hand
pub peeked_outside : {A : Type 0} (f : A → Bind) (r : Option A) (x : Name) (p : NounPlace) (a : At) → p ≡ place_in (frame_of a.nouns) x → p ≡ place.Top
    → IfSome r (λ b. a.touched (top x) ≡ true) → IfSome r (λ b. read a.state (top x) ≡ Some (bound (f b))) → IfSome r (λ b. StandsAtHand x (f b) a)
peeked_outside f (Some b) x p a h e touched holds =
    let unknown : lookup a.nouns x ≡ None = unseen a.nouns x (told a.nouns x p place.Top h e) in
    (ap (found a.state x) unknown ∙ ap top_bind holds, ap (λ m. sought_in x m a) unknown ∙ reached_already (top x) a touched)
peeked_outside f None x p a h e touched holds = tt
