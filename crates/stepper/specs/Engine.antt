-- What an answer does to the book, and what it gives to the sink.
use Rattle.std.specs.Prelude.{◌≡◌, ℕ, List, Bool, false, ◌||◌, not, Option}
use Rattle.book.specs.Books as books
use Rattle.book.specs.BookView.{book_of}
use Rattle.book_agenda.specs.declared.agenda.Step.{Step}
use Rattle.stepper_streams.specs.Outlet.{is_cut, Tells}
use Rattle.stepper_streams.specs.declared.outlet.Outlet.{Outlet}
use Rattle.stepper.specs.Replies.{Moves}
use Rattle.stepper.specs.declared.engine.Engine.{Engine}

module _ {W : Type 0} (contents : W → Option (List ℕ)) where
  -- the book goes the way that the definition allows, and its reply is given; where a write fails, that is told of no refusal
  pub record Happens (old new : Engine) (sink after : Outlet W) (Allowed : books.Book → List ℕ → Bool → books.Book → Type 0) : Type 0 where
    pub reply : List ℕ
    pub refusal : Bool
    pub allowed : Allowed (book_of old.book) reply refusal (book_of new.book)
    pub tells : Tells contents sink after reply
    pub refused : is_cut after ≡ false → new.written.refused ≡ (old.written.refused || refusal)
    pub limits : new.limits ≡ old.limits

  -- something was done, or was refused
  abbrev pub Moved : Engine → Engine → Outlet W → Outlet W → Step → Bool → Type 0
  Moved old new sink after step done = Happens old new sink after (λ b r s d. (s ≡ not done) × Moves old.limits b step r s d)
