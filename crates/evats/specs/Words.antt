-- The words of the command line.
use Rattle.std.specs.Prelude.{⊤}
use Rattle.std.specs.Str.{IsUtf8}
use Rattle.evats.specs.declared.words.WordsFault.{WordsFault}
use Rattle.evats.specs.declared.words.WordsFault.TheVariants.{NotText, Memory}

-- a word is told only where it is not UTF-8
abbrev pub IsNoText : WordsFault → Type 0
IsNoText (NotText word) = ¬ IsUtf8 word.items
IsNoText Memory = ⊤
