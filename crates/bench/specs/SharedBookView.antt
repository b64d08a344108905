-- What the program's shared book and its beginning stand for, to contracts.
use Rattle.std.specs.Prelude.{ℕ, refl}
use Rattle.std.specs.Coded.{Coded, code_by, coded×, coded_ℕ}
use Rattle.atomic_table.specs.Seated.{TableId, table_id_coded}
use Rattle.book.specs.contracts.book.Book as book
use Rattle.book.specs.declared.book.Book.{Book}

-- what lies under the lock: the book, the most steps of a turn, and how many seats were made
pub record SharedView : Type 0 where
  pub book : Book
  pub budget : ℕ
  pub made : ℕ

-- which is stored as the pairs of its fields
abbrev pub shared_code : Coded SharedView
shared_code = code_by (Book × (ℕ × ℕ)) (coded× book.the_row.coded (coded× coded_ℕ coded_ℕ)) (λ d. (d.book, (d.budget, d.made))) (λ p. record { book = p.0; budget = p.1.0; made = p.1.1 }) (λ _. refl)

-- what a Bench begins with: its cell, the book, and the greatest seat of an entry or of a ticket that is out
pub record Start : Type 0 where
  pub table : TableId
  pub book : Book
  pub before : ℕ

abbrev pub start_code : Coded Start
start_code = code_by (TableId × (Book × ℕ)) (coded× table_id_coded (coded× book.the_row.coded coded_ℕ)) (λ o. (o.table, (o.book, o.before))) (λ p. record { table = p.0; book = p.1.0; before = p.1.1 }) (λ _. refl)
