use Rattle.std.proofs.Common.{◌≡◌, ℕ, ◌≤◌, length, map, arith, ap, subst}
use Rattle.std.proofs.lemmas.List.Elements.{All-append, All-map}
use Rattle.journal.specs.Items.{Item, item_of}
use Rattle.journal.specs.Journals.{settled_item}
use Rattle.journal.specs.declared.entry.Entry.{Entry}
use Rattle.journal.specs.declared.settled.Settled.{Settled}
use Rattle.desk.proofs.Greatest.{Above, above_more, all_unmapped}
use Rattle.book.proofs.Settling.{all_front, all_behind}
use Rattle.book.proofs.seats.greatest_seat.Goals as goal
use Rattle.book.proofs.seats.greatest_seat.Goals.{then-settled-greatest, else-settled-greatest, then-entry-greatest, else-entry-greatest}

pub loop-settled-preserved : goal.loop-settled-preserved
loop-settled-preserved c =
    let xs = c.args.journal.settled.now in
    let i = c.loop-settled.settled-index in
    let g = c.loop-settled.greatest in
    let r = c.if-settled-greatest.greatest in
    let lt = c.loop-settled-test.true in
    let x = c.settled-item.result in
    let at = ap (λ (s : Settled). s.seat) c.settled-item.is in
    elim c.if-settled-greatest.branch [
      | then-settled-greatest w ↦ record {
        above = above_more (λ (s : Settled). s.seat) xs i g r x c.loop-settled.invariant.above lt (omega arith) (omega arith);
        least = λ n all. let a = all i x lt in omega arith;
      }
      | else-settled-greatest w ↦ record {
        above = above_more (λ (s : Settled). s.seat) xs i g r x c.loop-settled.invariant.above lt (omega arith) (omega arith);
        least = λ n all. let a = c.loop-settled.invariant.least n all in omega arith;
      }
    ]

pub loop-entry-init : goal.loop-entry-init
loop-entry-init c =
    let ss = c.args.journal.settled.now in
    let g = c.loop-settled.greatest in
    let e : c.loop-settled.settled-index ≡ length ss = let b = c.loop-settled-test.false in let d = c.loop-settled.auto.settled-index-end in omega (arith, b, d) in
    record {
      settled = let P : ℕ → Type 0 = λ n. Above (λ (s : Settled). s.seat) ss n g in subst P e c.loop-settled.invariant.above;
      above = λ k d h. absurd (omega arith);
      least = λ n s es. c.loop-settled.invariant.least n s;
    }

pub loop-entry-preserved : goal.loop-entry-preserved
loop-entry-preserved c =
    let ss = c.args.journal.settled.now in
    let xs = c.args.journal.entries.now in
    let i = c.loop-entry.entry-index in
    let g = c.loop-entry.greatest in
    let r = c.if-entry-greatest.greatest in
    let lt = c.loop-entry-test.true in
    let x = c.entry-item.result in
    let at = ap (λ (e : Entry). e.seat) c.entry-item.is in
    elim c.if-entry-greatest.branch [
      | then-entry-greatest w ↦ record {
        settled = λ k d h. let a = c.loop-entry.invariant.settled k d h in omega arith;
        above = above_more (λ (e : Entry). e.seat) xs i g r x c.loop-entry.invariant.above lt (omega arith) (omega arith);
        least = λ n s all. let a = all i x lt in omega arith;
      }
      | else-entry-greatest w ↦ record {
        settled = λ k d h. let a = c.loop-entry.invariant.settled k d h in omega arith;
        above = above_more (λ (e : Entry). e.seat) xs i g r x c.loop-entry.invariant.above lt (omega arith) (omega arith);
        least = λ n s all. let a = c.loop-entry.invariant.least n s all in omega arith;
      }
    ]

pub returns-clause-above : goal.returns-clause-above
returns-clause-above c =
    let ss = c.args.journal.settled.now in
    let xs = c.args.journal.entries.now in
    let g = c.loop-entry.greatest in
    let e : c.loop-entry.entry-index ≡ length xs = let b = c.loop-entry-test.false in let d = c.loop-entry.auto.entry-index-end in omega (arith, b, d) in
    let above : Above (λ (e : Entry). e.seat) xs (length xs) g = let P : ℕ → Type 0 = λ n. Above (λ (e : Entry). e.seat) xs n g in subst P e c.loop-entry.invariant.above in
    All-append (λ (i : Item). i.seat ≤ g) (map settled_item ss) (map item_of xs) (All-map (λ (i : Item). i.seat ≤ g) settled_item ss c.loop-entry.invariant.settled) (All-map (λ (i : Item). i.seat ≤ g) item_of xs above)

pub returns-clause-least : goal.returns-clause-least
returns-clause-least c = λ n all.
    let ss = c.args.journal.settled.now in
    let xs = c.args.journal.entries.now in
    c.loop-entry.invariant.least n
    (all_unmapped (λ (i : Item). i.seat) settled_item ss n (all_front (λ (i : Item). i.seat ≤ n) (map settled_item ss) (map item_of xs) all))
    (all_unmapped (λ (i : Item). i.seat) item_of xs n (all_behind (λ (i : Item). i.seat ≤ n) (map settled_item ss) (map item_of xs) all))
