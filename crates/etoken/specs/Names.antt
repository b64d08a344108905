-- Which words are names.
use Rattle.std.specs.Prelude.{ℕ, List, Bool, not, ◌&&◌, is_none, codes}
use Rattle.std.specs.List.{list_all}
use Rattle.std.specs.Str.{bytes_eq}
use Rattle.etoken.specs.Bytes.{is_letter, is_word_byte, begins_with}
use Rattle.etoken.specs.Table.{reserved_of}

-- letters, digits and `_`, no digit first, no word of the language, and not `_` alone
abbrev pub is_name : List ℕ → Bool
is_name w = begins_with is_letter w && list_all is_word_byte w && not (bytes_eq w (codes "_")) && is_none (reserved_of w)
