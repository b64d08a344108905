-- Nouns that are the same in the program's order are the same, the newest first.
use Rattle.std.proofs.Common.{◌≡◌, ◌↔◌, ℕ, ◌+◌, Bool, true, false, IsTrue, List, [], ◌∷◌, length, map, ◌⊎◌, inl, inr, refl, sym, ap, ◌∙◌, subst, arith}
use Rattle.std.proofs.lemmas.Bool.{false≢true}
use Rattle.kernele.specs.Tree.{Name}
use Rattle.values.specs.Data.{Val}
use Rattle.values.specs.Same.{same_as}
use Rattle.values.proofs.Equivalence.{itself, equal}
use Rattle.code.specs.View.{methods_of_codes}
use Rattle.code.specs.Sameness.{pattern_alike, methods_alike}
use Rattle.code.proofs.Alike.{pattern_told, methods_told}
use Rattle.heap.specs.State.{Bind, fixed, View, resolved, Nouns}
use Rattle.heap.specs.View.{bind_of, nouns_of, nouns_after, plain_of}
use Rattle.heap.specs.declared.made.Plain.{Plain}
use Rattle.heap.specs.declared.state.Noun.{Noun}

-- two values, by which what has them is told apart
values_tell : {A : Type 0} (f : Val → A) (back : A → Val → Val) → ((v w : Val) → back (f v) w ≡ v) → {a b : A} (v w : Val) (r : Bool) → a ≡ f v → b ≡ f w → r ≡ same_as v w → IsTrue r ↔ (a ≡ b)
values_tell f back is {a = a} {b = b} v w r p q e = (
  λ t. p ∙ ap f (equal v w (sym e ∙ t)) ∙ sym q,
  λ s. let same : v ≡ w = sym (is v v) ∙ ap (λ x. back x v) (sym p ∙ s ∙ q) ∙ is w v in e ∙ ap (same_as v) (sym same) ∙ itself v,
)

value_in : Bind → Val → Val
value_in (fixed v) w = v
value_in _ w = w

-- two values that names stand for
pub fixed_told : {a b : Bind} (v w : Val) (r : Bool) → a ≡ fixed v → b ≡ fixed w → r ≡ same_as v w → IsTrue r ↔ (a ≡ b)
unfolding value_in
fixed_told v w r p q e = values_tell fixed value_in (λ v w. refl) v w r p q e

value_of : View → Val → Val
value_of (resolved v) w = v
value_of _ w = w

-- two values that promises are resolved to
pub resolved_told : {a b : View} (v w : Val) (r : Bool) → a ≡ resolved v → b ≡ resolved w → r ≡ same_as v w → IsTrue r ↔ (a ≡ b)
unfolding value_of
resolved_told v w r p q e = values_tell resolved value_of (λ v w. refl) v w r p q e

-- a name with what it stands for
abbrev pub as_noun : Noun → Name × Bind
as_noun n = (n.name, bind_of n.binding)

after_length : (ns : Nouns) (xs : List Noun) → length (nouns_after ns xs) ≡ length ns + length xs
after_length ns [] = omega arith
after_length ns (x ∷ xs) = let h = after_length (as_noun x ∷ ns) xs in omega (arith, h)

after_same : (ns ms : Nouns) (xs ys : List Noun) → ns ≡ ms → map as_noun xs ≡ map as_noun ys → nouns_after ns xs ≡ nouns_after ms ys
after_same ns ms [] [] p q = p
after_same ns ms (x ∷ xs) (y ∷ ys) p q =
    let here : as_noun x ≡ as_noun y = cc in
    let rest : map as_noun xs ≡ map as_noun ys = cc in
    after_same (as_noun x ∷ ns) (as_noun y ∷ ms) xs ys (λ i. here i ∷ p i) rest
after_same ns ms [] (y ∷ ys) p q = absurd (cc)
after_same ns ms (x ∷ xs) [] p q = absurd (cc)

-- both what was there before, and what came after
after_parts : (ns ms : Nouns) (xs ys : List Noun) → length xs ≡ length ys → nouns_after ns xs ≡ nouns_after ms ys → (ns ≡ ms) × (map as_noun xs ≡ map as_noun ys)
after_parts ns ms [] [] l h = (h, refl)
after_parts ns ms (x ∷ xs) (y ∷ ys) l h =
    let k = after_parts (as_noun x ∷ ns) (as_noun y ∷ ms) xs ys (omega arith) h in
    let here : as_noun x ≡ as_noun y = cc in
    let before : ns ≡ ms = cc in
    (before, λ i. here i ∷ k.1 i)
after_parts ns ms [] (y ∷ ys) l h = absurd (omega arith)
after_parts ns ms (x ∷ xs) [] l h = absurd (omega arith)

-- other lengths, other nouns
pub lengths_tell : (xs ys : List Noun) → (length xs ≡ length ys → ⊥) → IsTrue false ↔ (nouns_of xs ≡ nouns_of ys)
lengths_tell xs ys h = (
  λ t. absurd (false≢true t),
  λ e. absurd (h (let l = after_length [] xs in let m = after_length [] ys in let n : length (nouns_of xs) ≡ length (nouns_of ys) = ap length e in omega (arith, l, m, n))),
)

-- what a loop over both has left: as many nouns on both sides, which decide
pub record Remaining (us vs xs ys : List Noun) : Type 0 where
  pub lengths : length us ≡ length vs
  pub decide : (map as_noun us ≡ map as_noun vs) ↔ (nouns_of xs ≡ nouns_of ys)

all_left : (xs ys : List Noun) → length xs ≡ length ys → Remaining xs ys xs ys
all_left xs ys l = record { lengths = l; decide = (λ e. after_same [] [] xs ys refl e, λ e. (after_parts [] [] xs ys l e).1) }

-- before the first of them
pub all_remain : (us vs xs ys : List Noun) {m n : ℕ} → us ≡ xs → vs ≡ ys → m ≡ length xs → n ≡ length ys → m ≡ n → Remaining us vs xs ys
all_remain us vs xs ys p q k l e = let h = all_left xs ys (sym k ∙ e ∙ l) in subst (λ (w : List Noun). Remaining w vs xs ys) (sym p) (subst (λ (w : List Noun). Remaining xs w xs ys) (sym q) h)

abbrev SameNoun : Noun → Noun → Type 0
SameNoun x y = (x.name ≡ y.name) × (bind_of x.binding ≡ bind_of y.binding)

here_same : (us vs cs ds : List Noun) (x y : Noun) → us ≡ x ∷ cs → vs ≡ y ∷ ds → SameNoun x y → map as_noun cs ≡ map as_noun ds → map as_noun us ≡ map as_noun vs
here_same us vs cs ds x y p q h e = ap (map as_noun) p ∙ (λ i. (h.0 i, h.1 i) ∷ e i) ∙ ap (map as_noun) (sym q)

parts_same : (us vs cs ds : List Noun) (x y : Noun) → us ≡ x ∷ cs → vs ≡ y ∷ ds → map as_noun us ≡ map as_noun vs → SameNoun x y × (map as_noun cs ≡ map as_noun ds)
parts_same us vs cs ds x y p q e =
    let both : (as_noun x ∷ map as_noun cs) ≡ as_noun y ∷ map as_noun ds = sym (ap (map as_noun) p) ∙ e ∙ ap (map as_noun) q in
    let here : as_noun x ≡ as_noun y = cc in
    let rest : map as_noun cs ≡ map as_noun ds = cc in
    ((ap (λ n. n.0) here, ap (λ n. n.1) here), rest)

-- behind two nouns that are the same
pub remain_after : (us vs xs ys cs ds : List Noun) (x y : Noun) → Remaining us vs xs ys → us ≡ x ∷ cs → vs ≡ y ∷ ds → IsTrue true ↔ SameNoun x y → Remaining cs ds xs ys
remain_after us vs xs ys cs ds x y h p q told = record {
  lengths = (let k = h.lengths in omega (arith, k, ap length p, ap length q));
  decide = (λ e. h.decide.0 (here_same us vs cs ds x y p q (told.0 refl) e), λ e. (parts_same us vs cs ds x y p q (h.decide.1 e)).1);
}

-- two nouns that differ
pub differ_here : (us vs xs ys cs ds : List Noun) (x y : Noun) → Remaining us vs xs ys → us ≡ x ∷ cs → vs ≡ y ∷ ds → IsTrue false ↔ SameNoun x y → IsTrue false ↔ (nouns_of xs ≡ nouns_of ys)
differ_here us vs xs ys cs ds x y h p q told = (λ t. absurd (false≢true t), λ e. told.1 (parts_same us vs cs ds x y p q (h.decide.1 e)).0)

-- at the end of both
pub none_remain : (us vs xs ys : List Noun) → Remaining us vs xs ys → (us ≡ []) ⊎ (vs ≡ []) → IsTrue true ↔ (nouns_of xs ≡ nouns_of ys)
none_remain [] [] xs ys h e = (λ t. h.decide.0 refl, λ k. refl)
none_remain [] (b ∷ vs) xs ys h e = let k = h.lengths in absurd (omega (arith, k))
none_remain (a ∷ us) [] xs ys h e = let k = h.lengths in absurd (omega (arith, k))
none_remain (a ∷ us) (b ∷ vs) xs ys h (inl e) = absurd (cc)
none_remain (a ∷ us) (b ∷ vs) xs ys h (inr e) = absurd (cc)

-- objects of the same name and with the same captured names go by their methods
pub objects_told : (a b : Plain) (r : Bool) → pattern_alike a.own b.own ≡ true → nouns_of a.captured.value.items ≡ nouns_of b.captured.value.items → r ≡ methods_alike (methods_of_codes a.methods.value.items) (methods_of_codes b.methods.value.items) → IsTrue r ↔ (plain_of a ≡ plain_of b)
objects_told a b r p q e =
    let own : a.own ≡ b.own = (pattern_told a.own b.own).0 p in
    let told = methods_told (methods_of_codes a.methods.value.items) (methods_of_codes b.methods.value.items) in
    (λ t. λ i. record { own = own i; captured = q i; methods = told.0 (sym e ∙ t) i }, λ s. e ∙ told.1 (ap (λ o. o.methods) s))

-- objects of other names, or with other captured names
pub named_otherwise : (a b : Plain) {v : Bool} → v ≡ false → false ≡ pattern_alike a.own b.own → IsTrue v ↔ (plain_of a ≡ plain_of b)
named_otherwise a b n p = (λ t. absurd (false≢true (sym n ∙ t)), λ s. absurd (false≢true (p ∙ (pattern_told a.own b.own).1 (ap (λ o. o.own) s))))

pub captures_otherwise : (a b : Plain) {v r : Bool} → v ≡ false → v ≡ r → IsTrue r ↔ (nouns_of a.captured.value.items ≡ nouns_of b.captured.value.items) → IsTrue v ↔ (plain_of a ≡ plain_of b)
captures_otherwise a b n q told = (λ t. absurd (false≢true (sym n ∙ t)), λ s. q ∙ told.1 (ap (λ o. o.captured) s))
