-- Tickets that are out: their numbers are drawn, free and apart, and so are their vats, also when one is lent or struck out.
use Rattle.std.proofs.Common.{◌≡◌, ◌≢◌, ℕ, zero, suc, ◌+◌, ◌<◌, ◌==◌, Bool, true, false, not, ◌||◌, cond, List, [], ◌∷◌, ◌++◌, filter, Option, Some, refl, sym, ap, ◌∙◌, subst, arith, ne_eqb, eq-eqb}
use Rattle.std.proofs.Math.Logic.{∥∥₁_elim, ∥∥₁_prop}
use Rattle.std.proofs.Props.{props}
use Rattle.std.proofs.lemmas.Bool.{false≢true}
use Rattle.std.proofs.lemmas.List.{append-nil}
use Rattle.std.proofs.lemmas.List.Elements.{filter-append}
use Rattle.std.specs.List.{AllByRecursion, Contains}
use Rattle.history.specs.Records.{entries_of}
use Rattle.history.proofs.Lists.{all_map, all_both, all_append}
use Rattle.history.proofs.Naming.{free_from}
use Rattle.ids.specs.declared.names.EventName.{EventName}
use Rattle.event.specs.Events.{noted_events}
use Rattle.ids.specs.declared.names.VatNo.{VatNo}
use Rattle.desk.specs.Desks.{Lent, is_out, has_vat, without, lent_at}
use Rattle.undo.specs.declared.undoing.Core.{Core}
use Rattle.book.specs.Standing.{Apart, Kept, Stands}

-- what holds of all holds of one that is among them
pub all_out : {A : Type 0} (P : A → Type 0) (xs : List A) (x : A) → AllByRecursion P xs → Contains xs x → P x
all_out P [] x h (k, lt, e) = absurd (omega (arith, lt))
all_out P (y ∷ xs) x h (zero, lt, e) = subst P e h.0
all_out P (y ∷ xs) x h (suc k, lt, e) = all_out P xs x h.1 (k, omega (arith, lt), e)

-- what holds of all holds of those that pass a test
pub all_filter : {A : Type 0} (P : A → Type 0) (p : A → Bool) (xs : List A) → AllByRecursion P xs → AllByRecursion P (filter p xs)
all_filter P p [] h = tt
all_filter P p (x ∷ xs) (q, h) = elim (p x) as (λ b. AllByRecursion P (cond b (x ∷ filter p xs) (filter p xs))) [
  | true ↦ (q, all_filter P p xs h)
  | false ↦ all_filter P p xs h
]

-- those without a number have others
pub without_differ : (e : EventName) (out : List Lent) → AllByRecursion (λ t. e.0 ≢ t.number.0) (without e out)
without_differ e [] = tt
without_differ e (t ∷ out) = one (t.number.0 == e.0) refl (without_differ e out)
  where
    one : (b : Bool) → (t.number.0 == e.0) ≡ b → AllByRecursion (λ u. e.0 ≢ u.number.0) (without e out) → AllByRecursion (λ u. e.0 ≢ u.number.0) (cond (not b) (t ∷ without e out) (without e out))
    one true is h = h
    one false is h = ((λ same. absurd (false≢true (sym is ∙ eq-eqb t.number.0 e.0 (sym same)))), h)

pub apart_without : (e : EventName) (out : List Lent) → Apart out → Apart (without e out)
apart_without e [] h = tt
apart_without e (t ∷ out) (d, h) = elim (not (t.number.0 == e.0)) as (λ b. Apart (cond b (t ∷ without e out) (without e out))) [
  | true ↦ (all_filter _ _ out d, apart_without e out h)
  | false ↦ apart_without e out h
]

-- where no one has the number, all stay
pub without_none : (e : EventName) (out : List Lent) → AllByRecursion (λ t. t.number.0 ≢ e.0) out → without e out ≡ out
without_none e [] h = refl
without_none e (t ∷ out) (ne, h) = rw (ne_eqb t.number.0 e.0 ne) (ap (λ (ts : List Lent). t ∷ ts) (without_none e out h))

-- where no ticket has the number, nothing is struck out
pub not_out : (e : EventName) (out : List Lent) → is_out e out ≡ false → without e out ≡ out
not_out e [] h = refl
not_out e (t ∷ out) h = one (t.number.0 == e.0) h (not_out e out)
  where
    one : (b : Bool) → (b || is_out e out) ≡ false → (is_out e out ≡ false → without e out ≡ out) → cond (not b) (t ∷ without e out) (without e out) ≡ t ∷ out
    one true same rest = cc
    one false same rest = ap (λ (ts : List Lent). t ∷ ts) (rest same)

-- the ticket of a number is found there
found_at : (out : List Lent) → Apart out → AllByRecursion (λ t. lent_at t.number out ≡ Some t) out
found_at [] h = tt
found_at (t ∷ out) (d, h) = (
  rw (eq-eqb t.number.0 t.number.0 refl) refl,
  all_both _ _ _ out (λ u ne is. rw (ne_eqb t.number.0 u.number.0 (λ same. ne.0 (sym same))) is) d (found_at out h),
)

pub lent_is : (out : List Lent) (t : Lent) → Apart out → Contains out t → lent_at t.number out ≡ Some t
lent_is out t h c = all_out (λ u. lent_at u.number out ≡ Some u) out t (found_at out h) c

-- and what is found is there
pub lent_there : (e : EventName) (out : List Lent) (t : Lent) → lent_at e out ≡ Some t → Contains out t
lent_there e [] t is = cc
lent_there e (u ∷ out) t is = one (u.number.0 == e.0) is (lent_there e out t)
  where
    one : (b : Bool) → cond b (Some u) (lent_at e out) ≡ Some t → (lent_at e out ≡ Some t → Contains out t) → Contains (u ∷ out) t
    one true same rest = (0, omega arith, cc)
    one false same rest = let found = rest same in (suc found.0, omega (arith, found.1), found.2)

-- alone and struck out, no ticket is left
alone : (t : Lent) → without t.number (t ∷ []) ≡ []
alone t = rw (eq-eqb t.number.0 t.number.0 refl) refl

Lents-set : IsSet (List Lent)
Lents-set = hlevel props

Found-set : IsSet (Option Lent)
Found-set = hlevel props

-- where no ticket of a vat is out, each is of another
none_of_vat : (v : VatNo) (out : List Lent) → has_vat v out ≡ false → AllByRecursion (λ u. u.vat.0.0 ≢ v.0.0) out
none_of_vat v [] h = tt
none_of_vat v (u ∷ out) h = one (u.vat.0.0 == v.0.0) refl h (none_of_vat v out)
  where
    one : (b : Bool) → (u.vat.0.0 == v.0.0) ≡ b → (b || has_vat v out) ≡ false → (has_vat v out ≡ false → AllByRecursion (λ w. w.vat.0.0 ≢ v.0.0) out) → AllByRecursion (λ w. w.vat.0.0 ≢ v.0.0) (u ∷ out)
    one true is same rest = cc
    one false is same rest = ((λ e. absurd (false≢true (sym is ∙ eq-eqb u.vat.0.0 v.0.0 e))), rest same)

-- that tickets are apart is a fact, and no choice
differ_prop : (t u : Lent) → IsProp ((u.number.0 ≢ t.number.0) × (u.vat.0.0 ≢ t.vat.0.0))
differ_prop t u = hlevel props

differs_prop : (t : Lent) (out : List Lent) → IsProp (AllByRecursion (λ u. (u.number.0 ≢ t.number.0) × (u.vat.0.0 ≢ t.vat.0.0)) out)
differs_prop t [] a b = refl
differs_prop t (u ∷ out) (p, q) (r, s) = λ i. (differ_prop t u p r i, differs_prop t out q s i)

apart_prop : (out : List Lent) → IsProp (Apart out)
apart_prop [] a b = refl
apart_prop (t ∷ out) (p, q) (r, s) = λ i. (differs_prop t out p r i, apart_prop out q s i)

module _ (core : Core) (next : ℕ) (out : List Lent) where
  pub stands_apart : Stands core next out → Apart out
  stands_apart h = ∥∥₁_elim h (apart_prop out) (λ k. k.apart)

  -- a ticket is struck out
  pub kept_without : (e : EventName) → Kept core next out → Kept core next (without e out)
  kept_without e k = record {
    rows = k.rows;
    stands = k.stands;
    free = all_filter _ _ out k.free;
    drawn = all_filter _ _ out k.drawn;
    apart = apart_without e out k.apart;
  }

  pub stands_without : (e : EventName) → Stands core next out → Stands core next (without e out)
  stands_without e h = ∥∥₁_elim h ∥∥₁_prop (λ k. ∣ kept_without e k ∣₁)

  -- a ticket of the next number is lent
  apart_lent : (t : Lent) (ts : List Lent) → AllByRecursion (λ u. u.number.0 < t.number.0) ts → AllByRecursion (λ u. u.vat.0.0 ≢ t.vat.0.0) ts → Apart ts → Apart (ts ++ t ∷ [])
  apart_lent t [] d others h = (tt, tt)
  apart_lent t (u ∷ ts) (lt, d) (other, others) (ne, h) = (all_append _ ts (t ∷ []) ne (((λ same. omega (arith, lt, same)), (λ same. other (sym same))), tt), apart_lent t ts d others h)

  pub kept_lent : (t : Lent) → t.number.0 ≡ next → has_vat t.vat out ≡ false → Kept core next out → Kept core (next + 1) (out ++ t ∷ [])
  kept_lent t is alone_there k = record {
    rows = k.rows;
    stands = record {
      shows = k.stands.shows;
      stands = record {
        good = k.stands.stands.good;
        named = record {
          distinct = k.stands.stands.named.distinct;
          below = all_map _ _ (entries_of k.rows) (λ a b. (omega (arith, b.0), all_map _ _ a.causes (λ n m. omega (arith, m)) b.1)) k.stands.stands.named.below;
          own = k.stands.stands.named.own;
        };
        follows = k.stands.stands.follows;
        chained = k.stands.stands.chained;
      };
    };
    free = all_append _ out (t ∷ []) k.free (free_from noted_events t.number.0 next (entries_of k.rows) k.stands.stands.named.below (omega (arith, is)), tt);
    drawn = all_append _ out (t ∷ []) (all_map _ _ out (λ u lt. omega (arith, lt)) k.drawn) (omega (arith, is), tt);
    apart = apart_lent t out (all_map _ _ out (λ u lt. omega (arith, lt, is)) k.drawn) (none_of_vat t.vat out alone_there) k.apart;
  }

  pub stands_lent : (t : Lent) → t.number.0 ≡ next → has_vat t.vat out ≡ false → Stands core next out → Stands core (next + 1) (out ++ t ∷ [])
  stands_lent t is alone_there h = ∥∥₁_elim h ∥∥₁_prop (λ k. ∣ kept_lent t is alone_there k ∣₁)

  -- lent and struck out again
  pub lent_without : (t : Lent) → t.number.0 ≡ next → Stands core next out → without t.number (out ++ t ∷ []) ≡ out
  lent_without t is h = ∥∥₁_elim h (Lents-set _ _) (λ k.
      filter-append (λ u. not (u.number.0 == t.number.0)) out (t ∷ [])
      ∙ ap (λ (ts : List Lent). ts ++ without t.number (t ∷ [])) (without_none t.number out (all_map _ _ out (λ u lt same. omega (arith, lt, same, is)) k.drawn))
      ∙ ap (λ (ts : List Lent). out ++ ts) (alone t) ∙ append-nil out)

  -- a ticket that is out is found by its number
  pub out_found : (t : Lent) → Stands core next out → Contains out t → lent_at t.number out ≡ Some t
  out_found t h c = ∥∥₁_elim h (Found-set _ _) (λ k. lent_is out t k.apart c)
