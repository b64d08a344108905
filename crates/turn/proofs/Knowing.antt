-- What the promises of earlier vats do to the place where a script begins.
use Rattle.std.proofs.Common.{◌≡◌, ℕ, ◌+◌, ◌<◌, ◌≤◌, List, [], ◌∷◌, length, drop, get_or, Bool, true, false, refl, sym, ap, ◌∙◌, subst, suc, add-one}
use Rattle.std.proofs.Math.Seq.{drop-cons}
use Rattle.std.proofs.lemmas.List.{drop_all}
use Rattle.kernele.specs.Tree.{Name}
use Rattle.code.specs.Frames.{fits_all}
use Rattle.code.specs.declared.code.Code.{Code}
use Rattle.heap.specs.State.{Bind, fixed, frame_of}
use Rattle.values.specs.Data.{promise}
use Rattle.post.specs.declared.earlier.Earlier.{Earlier}
use Rattle.sends.specs.Vats.{comes_in}
use Rattle.eval_rules.specs.At.{At}
use Rattle.eval_rules.specs.Doings.{behind}
use Rattle.eval_rules.specs.Fits.{all_fit_at}
use Rattle.eval_rules.specs.Rules.{bound_in}
use Rattle.turn_deliveries.specs.Turn.{knowing}

-- one more vat is known
pub known_more : (xs : List Earlier) (a : At) {i : ℕ} {x : Earlier} {b : At} → i < length xs → x ≡ get_or xs i x → b ≡ knowing (x ∷ []) a → knowing (drop (i + 1) xs) b ≡ knowing (drop i xs) a
known_more xs a {i = i} {x = x} h e g =
    ap (knowing (drop (i + 1) xs)) g ∙ rw add-one (sym (ap (λ ys. knowing ys a) (drop-cons xs i x h) ∙ ap (λ y. knowing (drop (suc i) xs) (knowing (y ∷ []) a)) (sym e)))

-- no vat is left
pub known_all : (xs : List Earlier) {i : ℕ} (a : At) → length xs ≤ i → knowing (drop i xs) a ≡ a
known_all xs {i = i} a h = ap (λ ys. knowing ys a) (drop_all i xs h)

-- in the vat's own scope no name is bound but as a top noun
top_names : (own : Bool) (x : Name) (m : Bind) (a : At) → own ≡ true → (bound_in own x m a).nouns ≡ a.nouns
top_names true x m a e = refl
top_names false x m a e = absurd (cc)

top_scope : (own : Bool) (x : Name) (m : Bind) (a : At) → own ≡ true → (bound_in own x m a).own_scope ≡ a.own_scope
top_scope true x m a e = refl
top_scope false x m a e = absurd (cc)

known_scope : (xs : List Earlier) (a : At) → a.own_scope ≡ true → (knowing xs a).own_scope ≡ true
known_scope [] a e = e
known_scope (x ∷ xs) a e =
    let b : At = behind (comes_in x.opening) a in
    known_scope xs (bound_in a.own_scope x.name (fixed (promise x.opening)) b) (top_scope a.own_scope x.name (fixed (promise x.opening)) b e ∙ e)

known_names : (xs : List Earlier) (a : At) → a.own_scope ≡ true → (knowing xs a).nouns ≡ a.nouns
known_names [] a e = refl
known_names (x ∷ xs) a e =
    let b : At = behind (comes_in x.opening) a in
    let m : Bind = fixed (promise x.opening) in
    known_names xs (bound_in a.own_scope x.name m b) (top_scope a.own_scope x.name m b e ∙ e) ∙ top_names a.own_scope x.name m b e

-- so a script fits behind that
pub script_fits : (xs : List Earlier) (a b : At) (es : List Code) → b ≡ knowing xs a → a.own_scope ≡ true → a.nouns ≡ [] → fits_all true [] es → all_fit_at b es
script_fits xs a b es known own bare h =
    subst (λ b. all_fit_at b es) (sym known)
    (subst (λ q. fits_all q (frame_of (knowing xs a).nouns) es) (sym (known_scope xs a own)) (subst (λ ns. fits_all true (frame_of ns) es) (sym (known_names xs a own ∙ bare)) h))
