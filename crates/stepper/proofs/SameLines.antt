-- Lines that tell the same, and what is read of them, line by line.
use Rattle.std.proofs.Common.{◌≡◌, ℕ, zero, suc, Bool, true, false, List, [], ◌∷◌, ◌++◌, length, take, drop, Option, Some, None, map, filter, refl, sym, ap, subst, cond}
use Rattle.std.specs.Prelude.{◌||◌, reverse, slice_get}
use Rattle.std.specs.List.{list_any, AllByRecursion}
use Rattle.std.specs.Option.{option_or}
use Rattle.std.proofs.lemmas.List.{reverse-append}
use Rattle.journal.specs.Lines.{Line}
use Rattle.causality.specs.Selections.{name_of, first_some, first_name}
use Rattle.stepper.specs.Laws.{SameLine, SameLines}

-- what holds of no lines, and of one line more, holds of lines that tell the same
pub same_by : (P : List Line → List Line → Type 0) → P [] [] → ((l m : Line) (ls ms : List Line) → SameLine l m → SameLines ls ms → P ls ms → P (l ∷ ls) (m ∷ ms)) → (ls ms : List Line) → SameLines ls ms → P ls ms
same_by P none more [] [] h = none
same_by P none more [] (m ∷ ms) h = absurd h
same_by P none more (l ∷ ls) [] h = absurd h
same_by P none more (l ∷ ls) (m ∷ ms) h = more l m ls ms h.0 h.1 (same_by P none more ls ms h.1)

pub same_lines_back : (ls ms : List Line) → SameLines ls ms → SameLines ms ls
same_lines_back = same_by (λ ls ms. SameLines ms ls) tt (λ l m ls ms one rest more. (
  record { event = sym one.event; seat = sym one.seat; live = sym one.live; causes = sym one.causes; touched = λ k. sym (one.touched k); written = λ k. sym (one.written k) },
  more,
))

pub same_length : (ls ms : List Line) → SameLines ls ms → length ms ≡ length ls
same_length = same_by (λ ls ms. length ms ≡ length ls) refl (λ l m ls ms one rest more. ap suc more)

pub lines_more : (ls ms : List Line) (l m : Line) → SameLines ls ms → SameLine l m → SameLines (ls ++ l ∷ []) (ms ++ m ∷ [])
lines_more ls ms l m h one = same_by (λ xs ys. SameLines (xs ++ l ∷ []) (ys ++ m ∷ [])) (one, tt) (λ x y xs ys same rest more. (same, more)) ls ms h

pub same_reverse : (ls ms : List Line) → SameLines ls ms → SameLines (reverse ls) (reverse ms)
same_reverse = same_by (λ ls ms. SameLines (reverse ls) (reverse ms)) tt (λ l m ls ms one rest more.
    subst (λ (z : List Line × List Line). SameLines z.0 z.1) (λ i. (sym (reverse-append (l ∷ []) ls) i, sym (reverse-append (m ∷ []) ms) i)) (lines_more (reverse ls) (reverse ms) l m more one))

-- ---- one line

-- a line without the cells that it touched
abbrev pub told : Line → Line
told l = record { seat = l.seat; entry = record { event = l.entry.event; foot = record { reads = []; writes = [] }; causes = l.entry.causes; live = l.entry.live; lasts = [] } }

pub same_told : {l m : Line} → SameLine l m → told m ≡ told l
same_told h = λ i. record { seat = h.seat i; entry = record { event = h.event i; foot = record { reads = []; writes = [] }; causes = h.causes i; live = h.live i; lasts = [] } }

-- two readings of a line are the same for lines that tell the same
abbrev pub Alike : {A : Type 0} → (Line → A) → (Line → A) → Type 0
Alike f g = (l m : Line) → SameLine l m → g m ≡ f l

-- ---- what is made of all lines

pub same_map : {A : Type 0} (f g : Line → A) → Alike f g → (ls ms : List Line) → SameLines ls ms → map g ms ≡ map f ls
same_map f g alike = same_by (λ ls ms. map g ms ≡ map f ls) refl (λ l m ls ms one rest more. λ i. alike l m one i ∷ more i)

pub same_any : (f g : Line → Bool) → Alike f g → (ls ms : List Line) → SameLines ls ms → list_any g ms ≡ list_any f ls
same_any f g alike = same_by (λ ls ms. list_any g ms ≡ list_any f ls) refl (λ l m ls ms one rest more. λ i. alike l m one i || more i)

pub same_some : {B : Type 0} (f g : Line → Option B) → Alike f g → (ls ms : List Line) → SameLines ls ms → first_some g ms ≡ first_some f ls
same_some f g alike = same_by (λ ls ms. first_some g ms ≡ first_some f ls) refl (λ l m ls ms one rest more. λ i. option_or (alike l m one i) (more i))

pub same_first_name : (f g : Line → Bool) → Alike f g → (ls ms : List Line) → SameLines ls ms → first_name g ms ≡ first_name f ls
same_first_name f g alike =
    same_some (λ l. cond (f l) (Some (name_of l)) None) (λ l. cond (g l) (Some (name_of l)) None) (λ l m one. λ i. cond (alike l m one i) (Some ((one.event i).name)) None)

pub same_all : (P Q : Line → Type 0) → ((l m : Line) → SameLine l m → Q m → P l) → (ls ms : List Line) → SameLines ls ms → AllByRecursion Q ms → AllByRecursion P ls
same_all P Q one = same_by (λ ls ms. AllByRecursion Q ms → AllByRecursion P ls) (λ h. tt) (λ l m ls ms same rest more h. (one l m same h.0, more h.1))

-- ---- some of the lines

pub same_filter : (f g : Line → Bool) → Alike f g → (ls ms : List Line) → SameLines ls ms → SameLines (filter f ls) (filter g ms)
same_filter f g alike = same_by (λ ls ms. SameLines (filter f ls) (filter g ms)) tt (λ l m ls ms one rest more.
    subst (λ b. SameLines (cond (f l) (l ∷ filter f ls) (filter f ls)) (cond b (m ∷ filter g ms) (filter g ms))) (sym (alike l m one)) (by l m (filter f ls) (filter g ms) (f l) one more))
  where
    by : (l m : Line) (ls ms : List Line) (b : Bool) → SameLine l m → SameLines ls ms → SameLines (cond b (l ∷ ls) ls) (cond b (m ∷ ms) ms)
    by l m ls ms true one rest = (one, rest)
    by l m ls ms false one rest = rest

pub same_take : (n : ℕ) (ls ms : List Line) → SameLines ls ms → SameLines (take n ls) (take n ms)
same_take zero ls ms h = tt
same_take (suc n) ls ms h = same_by (λ xs ys. SameLines (take (suc n) xs) (take (suc n) ys)) tt (λ l m xs ys one rest more. (one, same_take n xs ys rest)) ls ms h

pub same_drop : (n : ℕ) (ls ms : List Line) → SameLines ls ms → SameLines (drop n ls) (drop n ms)
same_drop zero ls ms h = h
same_drop (suc n) ls ms h = same_by (λ xs ys. SameLines (drop (suc n) xs) (drop (suc n) ys)) tt (λ l m xs ys one rest more. same_drop n xs ys rest) ls ms h

-- a line at a place tells the same, or there is none
abbrev pub SameOption : Option Line → Option Line → Type 0
SameOption None None = Unit {0}
SameOption (Some l) (Some m) = SameLine l m
SameOption _ _ = ⊥

pub same_get : (n : ℕ) (ls ms : List Line) → SameLines ls ms → SameOption (slice_get ls n) (slice_get ms n)
same_get zero ls ms h = same_by (λ xs ys. SameOption (slice_get xs 0) (slice_get ys 0)) tt (λ l m xs ys one rest more. one) ls ms h
same_get (suc n) ls ms h = same_by (λ xs ys. SameOption (slice_get xs (suc n)) (slice_get ys (suc n))) tt (λ l m xs ys one rest more. same_get n xs ys rest) ls ms h
