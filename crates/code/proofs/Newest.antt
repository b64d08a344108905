-- A place is that of the newest name of its spelling.
use Rattle.std.proofs.Common.{◌≡◌, ℕ, ◌+◌, arith, Bool, true, false, cond, [], ◌∷◌, Option, Some, None, ap, sym, refl, ◌∙◌, rules}
use Rattle.std.proofs.lemmas.Slice.Eq.{bytes_eq-Decides}
use Rattle.std.specs.Str.{bytes_eq}
use Rattle.kernele.specs.Tree.{Name}
use Rattle.kernele_scopes.specs.Free.{is_among}
use Rattle.code.specs.Frames.{Frame, newest, or_oldest, place_at, place_in}
use Rattle.code.specs.Newest.{IsNewest}
use Rattle.code.specs.declared.code.NounPlace.TheVariants as place

-- a name that is the oldest, or is not there
among_case : (ys : Frame) (x : Name) (here : Bool) → or_oldest None here ≡ None → is_among ys x ≡ false → cond here true (is_among ys x) ≡ false
among_case ys x true e h = absurd (cc)
among_case ys x false e h = h

-- a name that is found nowhere is not there
none_case : (o : Option ℕ) (here : Bool) → or_oldest o here ≡ None → o ≡ None
none_case (Some i) here e = absurd (cc)
none_case None here e = refl

absent : (frame : Frame) (x : Name) → newest frame x ≡ None → is_among frame x ≡ false
absent [] x e = refl
absent (y ∷ ys) x e =
    let rest = none_case (newest ys x) (bytes_eq y x) e in
    among_case ys x (bytes_eq y x) (ap (λ o. or_oldest o (bytes_eq y x)) (sym rest) ∙ e) (absent ys x rest)

outside_case : (o : Option ℕ) → place_at o ≡ place.Top → o ≡ None
outside_case (Some i) e = absurd (cc)
outside_case None e = refl

pub outside : (frame : Frame) (x : Name) → place_in frame x ≡ place.Top → is_among frame x ≡ false
outside frame x e = absent frame x (outside_case (newest frame x) e)

same_name : (y x : Name) → bytes_eq y x ≡ true → y ≡ x
same_name y x e = search (rules, bytes_eq-Decides)

-- one more name, older than the others
found_case : (y : Name) (ys : Frame) (x : Name) (i : ℕ) (o : Option ℕ) (here : Bool) → newest ys x ≡ o → bytes_eq y x ≡ here → or_oldest o here ≡ Some i → ((j : ℕ) → newest ys x ≡ Some j → IsNewest ys x j) → IsNewest (y ∷ ys) x i
found_case y ys x i (Some j) here e same h found =
    let k = found j e in
    let next : j + 1 ≡ i = cc in
    record { older = y ∷ k.older; newer = k.newer; parts = ap (λ zs. y ∷ zs) k.parts; position = omega (arith, k.position, next); last = k.last }
found_case y ys x i None true e same h found = record { older = []; newer = ys; parts = ap (λ z. z ∷ ys) (same_name y x same); position = cc; last = absent ys x e }
found_case y ys x i None false e same h found = absurd (cc)

present : (frame : Frame) (x : Name) (i : ℕ) → newest frame x ≡ Some i → IsNewest frame x i
present [] x i e = absurd (cc)
present (y ∷ ys) x i e = found_case y ys x i (newest ys x) (bytes_eq y x) refl refl e (present ys x)

inside_case : (o : Option ℕ) (i : ℕ) → place_at o ≡ place.Frame i → o ≡ Some i
inside_case (Some j) i e = cc
inside_case None i e = absurd (cc)

pub inside : (frame : Frame) (x : Name) (i : ℕ) → place_in frame x ≡ place.Frame i → IsNewest frame x i
inside frame x i e = present frame x i (inside_case (newest frame x) i e)
