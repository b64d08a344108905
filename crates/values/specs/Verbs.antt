-- The verbs of data, and the texts that spell them.
use Rattle.std.specs.Prelude.{ℕ, ◌+◌, ◌*◌, ◌%◌, ◌^◌, cond, List, [], ◌∷◌, Option, Some, None, codes, fold}
use Rattle.std.specs.Str.{bytes_eq}
use Rattle.values.specs.declared.verb.Word.TheVariants as word
use Rattle.values.specs.declared.verb.Word.{Word}

-- the text of each verb
abbrev pub text_of : Word → List ℕ
text_of word.Add = codes "add"
text_of word.Subtract = codes "subtract"
text_of word.Multiply = codes "multiply"
text_of word.FloorDivide = codes "floorDivide"
text_of word.LessThan = codes "lessThan"
text_of word.AtMost = codes "atMost"
text_of word.MoreThan = codes "moreThan"
text_of word.AtLeast = codes "atLeast"
text_of word.Negate = codes "negate"
text_of word.Not = codes "not"
text_of word.Size = codes "size"
text_of word.With = codes "with"
text_of word.Get = codes "get"

-- the verbs of all tables
abbrev pub words : List Word
words =
    word.Add ∷ word.Subtract ∷ word.Multiply ∷ word.FloorDivide
    ∷ word.LessThan ∷ word.AtMost ∷ word.MoreThan ∷ word.AtLeast
    ∷ word.Negate ∷ word.Not ∷ word.Size ∷ word.With ∷ word.Get ∷ []

-- the first among some verbs that a text spells
abbrev pub word_among : List Word → List ℕ → Option Word
word_among [] s = None
word_among (w ∷ ws) s = cond (bytes_eq s (text_of w)) (Some w) (word_among ws s)

-- the verb that a text spells, if it spells one
abbrev pub word_of : List ℕ → Option Word
word_of s = word_among words s

-- the number of a verb: its bytes as digits to the base 31, as far as 32 bits hold it
abbrev pub number_of : List ℕ → ℕ
number_of s = fold (λ n byte. ((n * 31) % 2 ^ 32 + byte) % 2 ^ 32) 0 s
