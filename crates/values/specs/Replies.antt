-- What a verb of data leads to: one table for each kind of receiver.
use Rattle.std.specs.Prelude.{ℕ, zero, suc, ◌+◌, ◌/◌, ◌^◌, ℤ, pos, negsuc, ◌+ℤ◌, ◌-ℤ◌, ◌*ℤ◌, neg_ℤ, int_lt, int_le, Bool, not, ◌&&◌, cond, nat_lt, nat_le, Option, Some, None, List, ◌++◌, codes, count_by}
use Rattle.std.specs.Fmt.{decimal}
use Rattle.std.specs.Str.{bytes_eq}
use Rattle.values.specs.Data.{Val, null, bool, int, text, list, object, ejector, promise, broken, Vals, no_vals, and_val, Reply, gives, throws}
use Rattle.values.specs.Limits.{within_limits}

abbrev pub count_of : Vals → ℕ
count_of no_vals = 0
count_of (and_val v vs) = count_of vs + 1

-- items of two lists, one after the other
abbrev pub joined : Vals → Vals → Vals
joined no_vals ws = ws
joined (and_val v vs) ws = and_val v (joined vs ws)

-- ---- rows of a table

-- a verb and its arguments, and what they lead to
abbrev pub Table : Type 0
Table = List ℕ → Vals → Reply

-- the end of a table
abbrev pub no_method : Table
no_method verb vs = throws (codes "no method " ++ (verb ++ (codes "/" ++ decimal (count_of vs))))

-- a verb without arguments, above the other rows
abbrev pub alone : List ℕ → Reply → Table → Table
alone name reply rows verb no_vals = cond (bytes_eq verb name) reply (rows verb no_vals)
alone name reply rows verb vs = rows verb vs

-- a verb with one argument, above the other rows
abbrev pub with_one : List ℕ → (Val → Reply) → Table → Table
with_one name reply rows verb (and_val v no_vals) = cond (bytes_eq verb name) (reply v) (rows verb (and_val v no_vals))
with_one name reply rows verb vs = rows verb vs

-- ---- the argument's kind

abbrev pub int_in : Val → Option ℤ
int_in (int x) = Some x
int_in _ = None

abbrev pub text_in : Val → Option (List ℕ)
text_in (text s) = Some s
text_in _ = None

abbrev pub items_in : Val → Option Vals
items_in (list vs) = Some vs
items_in _ = None

-- where a datum of another kind is wanted, a broken value throws its own problem
abbrev pub wrong_kind : Val → Reply
wrong_kind (broken problem) = throws problem
wrong_kind _ = throws (codes "bad argument")

-- what an argument leads to, by the datum in it of the kind that is wanted
abbrev pub wanted : {Datum : Type 0} → Val → Option Datum → (Datum → Reply) → Reply
wanted v (Some datum) reply = reply datum
wanted v None reply = wrong_kind v

-- ---- the result

abbrev pub magnitude : ℤ → ℕ
magnitude (pos n) = n
magnitude (negsuc n) = n

-- an integer, where 64 bits with a sign hold it
abbrev pub fitted : ℤ → Reply
fitted z = cond (nat_lt (magnitude z) (2 ^ 63)) (gives (int z)) (throws (codes "integer too large"))

-- a value, where it is not too large
abbrev pub limited : Val → Reply
limited v = cond (within_limits v) (gives v) (throws (codes "value too large"))

-- a list literal, and a text literal
abbrev pub list_reply : Vals → Reply
list_reply vs = limited (list vs)

abbrev pub text_reply : List ℕ → Reply
text_reply s = limited (text s)

-- ---- integers

-- towards minus infinity, by a divisor that is no negative number
abbrev pub floor_over : ℤ → ℕ → ℤ
floor_over (pos a) d = pos (a / d)
floor_over (negsuc a) d = negsuc (a / d)

-- towards minus infinity; signs on both sides cancel
abbrev pub floor_divided : ℤ → ℤ → ℤ
floor_divided x (pos d) = floor_over x d
floor_divided x (negsuc d) = floor_over (neg_ℤ x) (suc d)

abbrev pub quotient : ℤ → ℤ → Reply
quotient x (pos zero) = throws (codes "division by zero")
quotient x y = fitted (floor_divided x y)

abbrev pub int_add : ℤ → Val → Reply
int_add x v = wanted v (int_in v) (λ y. fitted (x +ℤ y))

abbrev pub int_subtract : ℤ → Val → Reply
int_subtract x v = wanted v (int_in v) (λ y. fitted (x -ℤ y))

abbrev pub int_multiply : ℤ → Val → Reply
int_multiply x v = wanted v (int_in v) (λ y. fitted (x *ℤ y))

abbrev pub int_floor_divide : ℤ → Val → Reply
int_floor_divide x v = wanted v (int_in v) (quotient x)

abbrev pub int_less_than : ℤ → Val → Reply
int_less_than x v = wanted v (int_in v) (λ y. gives (bool (int_lt x y)))

abbrev pub int_at_most : ℤ → Val → Reply
int_at_most x v = wanted v (int_in v) (λ y. gives (bool (int_le x y)))

abbrev pub int_more_than : ℤ → Val → Reply
int_more_than x v = wanted v (int_in v) (λ y. gives (bool (int_lt y x)))

abbrev pub int_at_least : ℤ → Val → Reply
int_at_least x v = wanted v (int_in v) (λ y. gives (bool (int_le y x)))

abbrev pub int_negate : ℤ → Reply
int_negate x = fitted (neg_ℤ x)

abbrev pub int_table : ℤ → Table
int_table x =
    with_one (codes "add") (int_add x)
    (with_one (codes "subtract") (int_subtract x)
    (with_one (codes "multiply") (int_multiply x)
    (with_one (codes "floorDivide") (int_floor_divide x)
    (with_one (codes "lessThan") (int_less_than x)
    (with_one (codes "atMost") (int_at_most x)
    (with_one (codes "moreThan") (int_more_than x)
    (with_one (codes "atLeast") (int_at_least x)
    (alone (codes "negate") (int_negate x)
    no_method))))))))

-- ---- truth values

abbrev pub bool_table : Bool → Table
bool_table b = alone (codes "not") (gives (bool (not b))) no_method

-- ---- texts

-- a character begins at each byte that continues no other one
abbrev pub begins_character : ℕ → Bool
begins_character b = not (nat_le 128 b && nat_lt b 192)

abbrev pub text_size : List ℕ → Reply
text_size s = fitted (pos (count_by begins_character s))

abbrev pub text_add : List ℕ → Val → Reply
text_add s v = wanted v (text_in v) (λ t. limited (text (s ++ t)))

abbrev pub text_table : List ℕ → Table
text_table s = with_one (codes "add") (text_add s) (alone (codes "size") (text_size s) no_method)

-- ---- lists

abbrev pub list_size : Vals → Reply
list_size vs = fitted (pos (count_of vs))

abbrev pub list_add : Vals → Val → Reply
list_add vs v = wanted v (items_in v) (λ ws. limited (list (joined vs ws)))

-- a last item, of any kind
abbrev pub list_with : Vals → Val → Reply
list_with vs v = limited (list (joined vs (and_val v no_vals)))

abbrev pub item_at : Vals → ℕ → Option Val
item_at no_vals i = None
item_at (and_val v vs) zero = Some v
item_at (and_val v vs) (suc i) = item_at vs i

abbrev pub at_index : Vals → ℤ → Option Val
at_index vs (pos i) = item_at vs i
at_index vs (negsuc i) = None

abbrev pub found : Option Val → Reply
found (Some v) = gives v
found None = throws (codes "index out of range")

abbrev pub list_get : Vals → Val → Reply
list_get vs v = wanted v (int_in v) (λ i. found (at_index vs i))

abbrev pub list_table : Vals → Table
list_table vs =
    with_one (codes "add") (list_add vs)
    (with_one (codes "with") (list_with vs)
    (with_one (codes "get") (list_get vs)
    (alone (codes "size") (list_size vs)
    no_method)))

-- ---- the tables together

-- a receiver that is broken throws its problem before anything else; references have no verbs of data
abbrev pub data_reply : Val → Table
data_reply null = no_method
data_reply (bool b) = bool_table b
data_reply (int x) = int_table x
data_reply (text s) = text_table s
data_reply (list vs) = list_table vs
data_reply (object o) = no_method
data_reply (ejector j) = no_method
data_reply (promise p) = no_method
data_reply (broken problem) = λ verb vs. throws problem

-- ---- what a reply gives, if it does not throw

abbrev pub value_given : Reply → Option Val
value_given (gives v) = Some v
value_given (throws problem) = None
