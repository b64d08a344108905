use Rattle.std.proofs.Common.{ℕ, ◌≤◌, All, List, arith, subst, sym}
use Rattle.std.proofs.lemmas.List.Elements.{All-map}
use Rattle.desk.proofs.Greatest.{all_unmapped}
use Rattle.journal.specs.Items.{Item}
use Rattle.journal.specs.Lines.{Line, line_of, lines_of}
use Rattle.undo.specs.CoreView.{items_of}
use Rattle.book.proofs.book.Book.greatest_seat.Goals as goal

-- a line has the seat of its entry
lines_below : (items : List Item) (m n : ℕ) → m ≤ n → All (λ (i : Item). i.seat ≤ m) items → All (λ (l : Line). l.seat ≤ n) (lines_of items)
lines_below items m n le all = All-map (λ (l : Line). l.seat ≤ n) (line_of items) items (λ k d h. let a = all k d h in omega (arith, a, le))

items_below : (items : List Item) (n : ℕ) → All (λ (l : Line). l.seat ≤ n) (lines_of items) → All (λ (i : Item). i.seat ≤ n) items
items_below items n all = all_unmapped (λ (l : Line). l.seat) (line_of items) items n all

pub returns-then-entered-lent-clause-entries : goal.returns-then-entered-lent-clause-entries
returns-then-entered-lent-clause-entries c =
    let entered = c.greatest_seat-entered.result in
    lines_below (items_of c.args.self.now.core) entered c.greatest_seat-lent.result (omega arith)
    (subst (λ (xs : List Item). All (λ (i : Item). i.seat ≤ entered) xs) c.journal.ensures.items c.greatest_seat-entered.ensures.above)

pub returns-else-entered-lent-clause-entries : goal.returns-else-entered-lent-clause-entries
returns-else-entered-lent-clause-entries c =
    let entered = c.greatest_seat-entered.result in
    lines_below (items_of c.args.self.now.core) entered entered (omega arith)
    (subst (λ (xs : List Item). All (λ (i : Item). i.seat ≤ entered) xs) c.journal.ensures.items c.greatest_seat-entered.ensures.above)

pub returns-else-entered-lent-clause-least : goal.returns-else-entered-lent-clause-least
returns-else-entered-lent-clause-least c = λ n lines tickets.
    c.greatest_seat-entered.ensures.least n
    (subst (λ (xs : List Item). All (λ (i : Item). i.seat ≤ n) xs) (sym c.journal.ensures.items) (items_below (items_of c.args.self.now.core) n lines))
