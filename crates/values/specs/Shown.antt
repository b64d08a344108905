-- Values as text.
use Rattle.std.specs.Prelude.{ℕ, List, [], ◌++◌, true, false, codes}
use Rattle.std.specs.Fmt.{signed_decimal}
use Rattle.ids.specs.Names.{object_text, ejector_text, promise_text}
use Rattle.ids.specs.Quoted.{quoted}
use Rattle.values.specs.Data.{Val, null, bool, int, text, list, object, ejector, promise, broken, Vals, no_vals, and_val}

abbrev mutual
  pub shown : Val → List ℕ
  shown null = codes "null"
  shown (bool true) = codes "true"
  shown (bool false) = codes "false"
  shown (int z) = signed_decimal z
  shown (text s) = quoted s
  shown (list vs) = codes "[" ++ (shown_items vs ++ codes "]")
  shown (object o) = codes "<" ++ (object_text o ++ codes ">")
  shown (ejector j) = codes "<" ++ (ejector_text j ++ codes ">")
  shown (promise p) = codes "<" ++ (promise_text p ++ codes ">")
  shown (broken problem) = codes "<broken " ++ (quoted problem ++ codes ">")

  -- with a comma and a space between two items
  pub shown_items : Vals → List ℕ
  shown_items no_vals = []
  shown_items (and_val v vs) = shown v ++ shown_more vs

  pub shown_more : Vals → List ℕ
  shown_more no_vals = []
  shown_more (and_val v vs) = codes ", " ++ (shown v ++ shown_more vs)
