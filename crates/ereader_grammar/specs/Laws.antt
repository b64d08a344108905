-- Laws of the grammar and of the canonical spelling.
use Rattle.std.specs.Prelude.{◌≡◌, ◌↔◌, ℕ, List, [], Some}
use Rattle.etoken.specs.declared.token.Token.{Token}
use Rattle.kernele.specs.Tree.{Trees}
use Rattle.kernele.specs.Spelling.{spelling}
use Rattle.ereader_grammar.specs.Grammar.{Program}
use Rattle.ereader_grammar.specs.Reading.{program_at}
use Rattle.ereader_grammar.specs.Spelled.{SpelledBy, AreSpellable}
use Rattle.ereader_grammar.specs.Written.{program_tokens}

-- the function that reads tokens gives a program exactly where they spell it
abbrev pub ReadsWhatIsSpelled : Type 0
ReadsWhatIsSpelled = (a : List Token) (ts : Trees) → Program a ts ↔ (program_at a ≡ Some (ts, []))

-- no tokens have two programs
abbrev pub Unambiguous : Type 0
Unambiguous = (a : List Token) (ts us : Trees) → Program a ts → Program a us → ts ≡ us

-- the tokens of the canonical spelling spell what they were made from
abbrev pub SpellsAgain : Type 0
SpellsAgain = (ts : Trees) → Program (program_tokens ts) ts

-- the canonical spelling of a program spells that program
abbrev pub SpellsItself : Type 0
SpellsItself = (ts : Trees) → AreSpellable ts → SpelledBy (spelling ts) ts

-- so does that of a program that any text spells
abbrev pub ReadsBack : Type 0
ReadsBack = (text : List ℕ) (ts : Trees) → SpelledBy text ts → SpelledBy (spelling ts) ts

-- a text spells only programs of names of the language and integers that have literals
abbrev pub SpelledIsSpellable : Type 0
SpelledIsSpellable = (text : List ℕ) (ts : Trees) → SpelledBy text ts → AreSpellable ts

-- a text, whatever its size, spells one program at most
abbrev pub SpelledOnce : Type 0
SpelledOnce = (text : List ℕ) (ts us : Trees) → SpelledBy text ts → SpelledBy text us → ts ≡ us

-- two programs have two canonical spellings
abbrev pub OwnSpelling : Type 0
OwnSpelling = (ts us : Trees) → AreSpellable ts → AreSpellable us → spelling ts ≡ spelling us → ts ≡ us
