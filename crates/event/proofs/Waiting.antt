-- What is awaited is gathered along a walk, and the least of it that is not done is the first.
use Rattle.std.proofs.Common.{◌≡◌, ℕ, zero, suc, ◌+◌, ◌<◌, ◌≤◌, Bool, true, false, cond, List, [], ◌∷◌, length, get_or, drop, Option, Some, None, refl, sym, ap, ◌∙◌, subst, add-one, drop-cons, arith}
use Rattle.std.specs.List.{AllByRecursion}
use Rattle.std.specs.Ordering.{match_ordering}
use Rattle.std.specs.declared.cmp.Ordering.{Ordering}
use Rattle.std.specs.declared.cmp.Ordering.TheVariants.{Less, Equal, Greater}
use Rattle.std.proofs.lemmas.List.{drop_all}
use Rattle.ids.specs.Cells.{message_cmp}
use Rattle.ids.specs.declared.names.MsgId.{MsgId}
use Rattle.ids.specs.declared.names.PromId.{PromId}
use Rattle.eorder.specs.Fences.{joined, Rises}
use Rattle.post.specs.Messages.{done_in}
use Rattle.world_cells.specs.World.{World, message_of, published_as}
use Rattle.event.specs.Ready.{first_undone, least_with}
use Rattle.event.specs.Walks.{awaited_for, awaited_along}

-- the item at a place, and those behind it
pub drop_here : {X : Type 0} (xs : List X) (i : ℕ) (x : X) → i < length xs → x ≡ get_or xs i x → drop i xs ≡ x ∷ drop (i + 1) xs
drop_here xs i x h e = rw add-one (drop-cons xs i x h) ∙ ap (λ y. y ∷ drop (i + 1) xs) (sym e)

-- what is at a place does not depend on what is found beyond the end
pub any_default : {X : Type 0} (xs : List X) (i : ℕ) (d e : X) → i < length xs → get_or xs i d ≡ get_or xs i e
any_default [] i d e h = absurd (omega (arith, h))
any_default (x ∷ xs) zero d e h = refl
any_default (x ∷ xs) (suc i) d e h = any_default xs i d e (omega (arith, h))

-- ---- along a walk

pub along_next : (w : World) (all names next : List MsgId) (ps : List PromId) (i : ℕ) (p : PromId) → i < length ps → p ≡ get_or ps i p → awaited_along w names (drop i ps) ≡ all
    → next ≡ joined names (awaited_for (published_as w p)) → awaited_along w next (drop (i + 1) ps) ≡ all
along_next w all names next ps i p h e inv g =
    ap (λ x. awaited_along w x (drop (i + 1) ps)) g ∙ ap (awaited_along w names) (sym (drop_here ps i p h e)) ∙ inv

pub along_last : (w : World) (all names : List MsgId) (ps : List PromId) (i : ℕ) → length ps ≤ i → awaited_along w names (drop i ps) ≡ all → names ≡ all
along_last w all names ps i h inv = ap (awaited_along w names) (sym (drop_all i ps h)) ∙ inv

-- ---- the first that is not done

-- what is below each of some names is below the least of them
abbrev Below : MsgId → Option MsgId → Type 0
Below m None = Unit {0}
Below m (Some n) = message_cmp m n ≡ Less

least_below : (m n : MsgId) (o : Option MsgId) → message_cmp m n ≡ Less → Below m o → Below m (least_with n o)
least_below m n None h g = h
least_below m n (Some k) h g = by (message_cmp n k)
  where
    by : (c : Ordering) → Below m (Some (match_ordering c n n k))
    by Less = h
    by Equal = h
    by Greater = g

first_below : (w : World) (m : MsgId) (ms : List MsgId) → AllByRecursion (λ n. message_cmp m n ≡ Less) ms → Below m (first_undone w ms)
first_below w m [] a = tt
first_below w m (n ∷ ms) a = by (done_in (message_of w n)) (first_below w m ms a.1)
  where
    by : (b : Bool) → Below m (first_undone w ms) → Below m (cond b (first_undone w ms) (least_with n (first_undone w ms)))
    by true g = g
    by false g = least_below m n (first_undone w ms) a.0 g

least_is : (m : MsgId) (o : Option MsgId) → Below m o → least_with m o ≡ Some m
least_is m None h = refl
least_is m (Some n) h = ap (λ c. Some (match_ordering c m m n)) h

rises_drop : (i : ℕ) (f : List MsgId) → Rises f → Rises (drop i f)
rises_drop zero f h = h
rises_drop (suc i) [] h = tt
rises_drop (suc i) (m ∷ f) h = rises_drop i f h.1

pub undone_next : (w : World) (all : Option MsgId) (ms : List MsgId) (i : ℕ) (m : MsgId) → i < length ms → m ≡ get_or ms i m → first_undone w (drop i ms) ≡ all → done_in (message_of w m) ≡ true → first_undone w (drop (i + 1) ms) ≡ all
undone_next w all ms i m h e inv d =
    sym (ap (λ b. cond b (first_undone w (drop (i + 1) ms)) (least_with m (first_undone w (drop (i + 1) ms)))) d) ∙ ap (first_undone w) (sym (drop_here ms i m h e)) ∙ inv

pub undone_here : (w : World) (all : Option MsgId) (ms : List MsgId) (i : ℕ) (m : MsgId) → Rises ms → i < length ms → m ≡ get_or ms i m → first_undone w (drop i ms) ≡ all → done_in (message_of w m) ≡ false → all ≡ Some m
undone_here w all ms i m r h e inv d =
    let here : drop i ms ≡ m ∷ drop (i + 1) ms = drop_here ms i m h e in
    let rise : Rises (m ∷ drop (i + 1) ms) = subst Rises here (rises_drop i ms r) in
    sym inv ∙ ap (first_undone w) here
    ∙ ap (λ b. cond b (first_undone w (drop (i + 1) ms)) (least_with m (first_undone w (drop (i + 1) ms)))) d
    ∙ least_is m (first_undone w (drop (i + 1) ms)) (first_below w m (drop (i + 1) ms) rise.0)

pub undone_last : (w : World) (all : Option MsgId) (ms : List MsgId) (i : ℕ) → length ms ≤ i → first_undone w (drop i ms) ≡ all → all ≡ None
undone_last w all ms i h inv = sym inv ∙ ap (first_undone w) (drop_all i ms h)
