-- What is asked of a book, and what that does.
use Rattle.std.specs.Prelude.{ℕ, Option}
use Rattle.ids.specs.declared.names.EventName.{EventName}
use Rattle.kernele.specs.View.{program_of}
use Rattle.book_refusals.specs.Refusals.{Refusal}
use Rattle.book.specs.Books.{Book}
use Rattle.book.specs.Calls.{Births, Asks, Makes}
use Rattle.book.specs.Refusals.{birth_refusal, ask_refusal, move_refusal}
use Rattle.book.specs.declared.request.Request.{Request}
use Rattle.book.specs.declared.request.Request.TheVariants as request

-- what is asked for is entered, from a seat, as an event of this name
abbrev pub EntersRequest : Request → ℕ → EventName → Book → Book → Type 0
EntersRequest (request.Birth x earlier script) seat e old now = Births x earlier.items (program_of script) seat e old now
EntersRequest (request.Ask x program) seat e old now = Asks x (program_of program) seat e old now
EntersRequest (request.Move m) seat e old now = Makes m seat e old now

-- the first refusal of a request that holds, if one does
abbrev pub request_refusal : Request → Book → Option Refusal
request_refusal (request.Birth x earlier script) b = birth_refusal b x earlier.items (program_of script)
request_refusal (request.Ask x program) b = ask_refusal b x (program_of program)
request_refusal (request.Move m) b = move_refusal b m
