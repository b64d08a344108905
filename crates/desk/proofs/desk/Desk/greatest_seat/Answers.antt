use Rattle.std.proofs.Common.{◌≤◌, List, length, arith, map, subst, sym, All, ap, ◌≡◌, ℕ}
use Rattle.std.proofs.lemmas.List.Elements.{All-map}
use Rattle.desk.specs.declared.desk.Lent.{Lent}
use Rattle.desk.specs.DeskView.{lent_of}
use Rattle.desk.proofs.Greatest.{Above, above_more, all_unmapped}
use Rattle.desk.proofs.desk.Desk.greatest_seat.Goals as goal
use Rattle.desk.proofs.desk.Desk.greatest_seat.Goals.{then-lent-greatest, else-lent-greatest}

none : Lent
none = record { number = record { 0 = 0 }; message = record { event = record { 0 = 0 }; index = 0 }; vat = record { 0 = record { 0 = 0 } }; budget = 0; seat = 0 }

pub loop-lent-preserved : goal.loop-lent-preserved
unfolding none
loop-lent-preserved c =
    let xs = c.deref-lent-items.result.now in
    let i = c.loop-lent.lent-index in
    let g = c.loop-lent.greatest in
    let r = c.if-lent-greatest.greatest in
    let lt = c.loop-lent-test.true in
    elim c.if-lent-greatest.branch [
      | then-lent-greatest w ↦ record {
        above = above_more (λ t. t.seat) xs i g r none c.loop-lent.invariant.above lt (omega arith) (omega arith);
        least = λ n all. let a = all i none lt in omega arith;
      }
      | else-lent-greatest w ↦ record {
        above = above_more (λ t. t.seat) xs i g r none c.loop-lent.invariant.above lt (omega arith) (omega arith);
        least = λ n all. let a = c.loop-lent.invariant.least n all in omega arith;
      }
    ]

pub returns-clause-above : goal.returns-clause-above
returns-clause-above c =
    let xs = c.args.self.now.out.items in
    let e : c.loop-lent.lent-index ≡ length xs = let a = ap length c.deref-lent-items.ensures.value in let b = c.loop-lent-test.false in let d = c.loop-lent.auto.lent-index-end in omega (arith, a, b, d) in
    let above : Above (λ (t : Lent). t.seat) xs (length xs) c.loop-lent.greatest = let P : List Lent × ℕ → Type 0 = λ p. Above (λ (t : Lent). t.seat) p.0 p.1 c.loop-lent.greatest in subst P (λ i. (c.deref-lent-items.ensures.value i, e i)) c.loop-lent.invariant.above in
    All-map (λ t. t.seat ≤ c.loop-lent.greatest) lent_of xs above

pub returns-clause-least : goal.returns-clause-least
returns-clause-least c = λ n all.
    let xs = c.args.self.now.out.items in
    let above : Above (λ (t : Lent). t.seat) xs (length xs) n = all_unmapped (λ t. t.seat) lent_of xs n all in
    let P : List Lent → Type 0 = λ l. Above (λ (t : Lent). t.seat) l (length l) n in
    c.loop-lent.invariant.least n (subst P (sym c.deref-lent-items.ensures.value) above)
