-- Where names are found in a frame.
use Rattle.std.proofs.Common.{◌≡◌, ℕ, ◌+◌, ◌<◌, arith, Bool, true, false, cond, List, [], ◌∷◌, ◌++◌, Option, Some, None, length, ap, sym, refl, ◌∙◌, drop, get_or, append_assoc}
use Rattle.std.proofs.lemmas.List.{map-append}
use Rattle.std.specs.Str.{bytes_eq}
use Rattle.kernele.specs.Tree.{Name}
use Rattle.kernele.proofs.Walks.{items_from}
use Rattle.code.specs.Frames.{Frame, newest, or_oldest, place_at, place_in, all_placed, captured_names_of}
use Rattle.code.specs.declared.code.NounPlace.TheVariants as place
use Rattle.code.specs.declared.code.Capture.{Capture}

first_alone : (b : Bool) → or_oldest None b ≡ cond b (Some 0) None
first_alone true = refl
first_alone false = refl

one_further : (xs : Frame) (o : Option ℕ) (b c : Bool) → or_oldest (cond b (Some (length xs)) o) c ≡ cond b (Some (length xs + 1)) (or_oldest o c)
one_further xs o true c = refl
one_further xs o false c = refl

-- the newest name is sought first
newest-last : (xs : Frame) (y x : Name) → newest (xs ++ y ∷ []) x ≡ cond (bytes_eq y x) (Some (length xs)) (newest xs x)
newest-last [] y x = first_alone (bytes_eq y x)
newest-last (z ∷ zs) y x =
    ap (λ o. or_oldest o (bytes_eq z x)) (newest-last zs y x) ∙ one_further zs (newest zs x) (bytes_eq y x) (bytes_eq z x)
    ∙ ap (λ n. cond (bytes_eq y x) (Some n) (or_oldest (newest zs x) (bytes_eq z x))) (omega arith)

-- the newest name is the one that is sought
pub place_here : (frame older : Frame) (y x : Name) → frame ≡ older ++ y ∷ [] → bytes_eq y x ≡ true → place.Frame (length older) ≡ place_in frame x
place_here frame older y x is same =
    sym (ap (λ f. place_in f x) is ∙ ap place_at (newest-last older y x) ∙ ap (λ b. place_at (cond b (Some (length older)) (newest older x))) same)

-- the newest name is another one
pub place_on : (frame older : Frame) (y x : Name) → frame ≡ older ++ y ∷ [] → bytes_eq y x ≡ false → place_in older x ≡ place_in frame x
place_on frame older y x is other =
    sym (ap (λ f. place_in f x) is ∙ ap place_at (newest-last older y x) ∙ ap (λ b. place_at (cond b (Some (length older)) (newest older x))) other)

-- one more capture is found
pub placed-push : (frame : Frame) (cs : List Capture) (c : Capture) → all_placed frame cs → c.place ≡ place_in frame c.name → all_placed frame (cs ++ c ∷ [])
placed-push frame [] c h e = (e, tt)
placed-push frame (d ∷ ds) c h e = (h.0, placed-push frame ds c h.1 e)

-- its name is the next one
pub captured-push : (cs : List Capture) (c : Capture) (xs : List Name) (i : ℕ) (x : Name) → i < length xs → x ≡ get_or xs i x → c.name ≡ x → captured_names_of (cs ++ c ∷ []) ++ drop (i + 1) xs ≡ captured_names_of cs ++ drop i xs
captured-push cs c xs i x h e named =
    ap (λ ys. ys ++ drop (i + 1) xs) (map-append (λ (d : Capture). d.name) cs (c ∷ [])) ∙ append_assoc (captured_names_of cs) (c.name ∷ []) (drop (i + 1) xs)
    ∙ ap (λ y. captured_names_of cs ++ y ∷ drop (i + 1) xs) named ∙ ap (λ ys. captured_names_of cs ++ ys) (sym (items_from xs i x h e))
