-- How a refusal is written.
use Rattle.std.specs.Prelude.{ℕ, List, ◌++◌, codes}
use Rattle.std.specs.Fmt.{decimal}
use Rattle.ereader.specs.declared.fault.ReadFault.{ReadFault}
use Rattle.ereader.specs.declared.fault.ReadFault.TheVariants.{BadCharacter, UnclosedText, BadEscape, IntegerTooLarge, Unexpected, TooDeep, TooLong, Memory}

-- its code and name, and the offset where it has one
abbrev pub shown : ReadFault → List ℕ
shown (BadCharacter i) = codes "L1 BadCharacter " ++ decimal i
shown (UnclosedText i) = codes "L2 UnclosedText " ++ decimal i
shown (BadEscape i) = codes "L3 BadEscape " ++ decimal i
shown (IntegerTooLarge i) = codes "L4 IntegerTooLarge " ++ decimal i
shown (Unexpected i) = codes "L5 Unexpected " ++ decimal i
shown TooDeep = codes "L6 TooDeep"
shown Memory = codes "L7 Memory"
shown TooLong = codes "L8 TooLong"
