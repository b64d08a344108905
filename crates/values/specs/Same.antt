-- When two values are the same.
use Rattle.std.specs.Prelude.{ℤ, pos, negsuc, Bool, true, false, not, ◌&&◌, nat_eq}
use Rattle.std.specs.Ordering.{is_eq}
use Rattle.std.specs.Str.{bytes_eq}
use Rattle.ids.specs.Cells.{object_cmp, ejector_cmp, promise_cmp}
use Rattle.values.specs.Data.{Val, null, bool, int, text, list, object, ejector, promise, broken, Vals, no_vals, and_val}

abbrev pub same_bool : Bool → Bool → Bool
same_bool true b = b
same_bool false b = not b

abbrev pub same_int : ℤ → ℤ → Bool
same_int (pos a) (pos b) = nat_eq a b
same_int (negsuc a) (negsuc b) = nat_eq a b
same_int _ _ = false

-- data by content, lists item by item, references by name, broken values by problem; different kinds are never the same
abbrev mutual
  pub same_as : Val → Val → Bool
  same_as null null = true
  same_as (bool a) (bool b) = same_bool a b
  same_as (int a) (int b) = same_int a b
  same_as (text a) (text b) = bytes_eq a b
  same_as (list vs) (list ws) = same_items vs ws
  same_as (object a) (object b) = is_eq (object_cmp a b)
  same_as (ejector a) (ejector b) = is_eq (ejector_cmp a b)
  same_as (promise a) (promise b) = is_eq (promise_cmp a b)
  same_as (broken a) (broken b) = bytes_eq a b
  same_as _ _ = false

  pub same_items : Vals → Vals → Bool
  same_items no_vals no_vals = true
  same_items (and_val v vs) (and_val w ws) = same_as v w && same_items vs ws
  same_items _ _ = false
