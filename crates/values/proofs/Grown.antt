-- A list grows exactly where the verb's reply gives one.
use Rattle.std.proofs.Common.{◌≡◌, ℕ, Bool, true, false, ◌&&◌, cond, is_some, List, Some, None, Result, Ok, Err, IfOk, refl, sym, ap, ◌∙◌, codes}
use Rattle.std.specs.Str.{bytes_eq}
use Rattle.std.specs.declared.alloc.AllocError.{AllocError}
use Rattle.values.specs.Data.{Val, list, Vals, no_vals, and_val, Reply, gives, throws}
use Rattle.values.specs.Growing.{items_added, adds_to, Grown, ListGrown}
use Rattle.values.specs.Limits.{within_limits}
use Rattle.values.specs.View.{val_of}
use Rattle.values.specs.declared.value.Value.{Value}
use Rattle.values.specs.declared.value.Value.TheVariants as code
use Rattle.std.specs.declared.sync.Arc.{Arc}
use Rattle.std.specs.declared.alloc.Global.{Global}
use Rattle.values.specs.Replies.{items_in, wanted, limited, list_reply, joined, list_add, list_with, list_table, data_reply, value_given}

-- the rows that make a list longer
row_added : (a b : Bool) (us : Vals) (x : Val) (more : Vals) (rest : Reply) → Some more ≡ cond a (items_in x) (cond b (Some (and_val x no_vals)) None) → cond a (list_add us x) (cond b (list_with us x) rest) ≡ list_reply (joined us more)
row_added true b us x more rest e = ap (λ o. wanted x o (λ ws. limited (list (joined us ws)))) (sym e)
row_added false true us x more rest e = let f : and_val x no_vals ≡ more = cc in ap (λ ws. list_reply (joined us ws)) f
row_added false false us x more rest e = absurd (cc)

given_so : (b : Bool) (v : Val) (problem : List ℕ) → is_some (value_given (cond b (gives v) (throws problem))) ≡ b
given_so true v problem = refl
given_so false v problem = refl

when_added : (us more : Vals) (s : List ℕ) (x v : Val) → v ≡ list us → Some more ≡ items_added s x → within_limits (list (joined us more)) ≡ (adds_to v s x && is_some (value_given (data_reply v s (and_val x no_vals))))
when_added us more s x v p e =
    let row : list_table us s (and_val x no_vals) ≡ list_reply (joined us more) = row_added (bytes_eq s (codes "add")) (bytes_eq s (codes "with")) us x more _ e in
    sym (given_so (within_limits (list (joined us more))) (list (joined us more)) (codes "value too large"))
    ∙ ap (λ r. is_some (value_given r)) (sym row)
    ∙ ap (λ o. is_some o && is_some (value_given (list_table us s (and_val x no_vals)))) e
    ∙ ap (λ w. adds_to w s x && is_some (value_given (data_reply w s (and_val x no_vals)))) (sym p)

pub list_when : (r : Result Bool AllocError) (us more : Vals) (s : List ℕ) (x v : Val) → v ≡ list us → Some more ≡ items_added s x → IfOk r (λ g. g ≡ within_limits (list (joined us more)))
    → IfOk r (λ g. g ≡ (adds_to v s x && is_some (value_given (data_reply v s (and_val x no_vals)))))
list_when (Ok g) us more s x v p e h = h ∙ when_added us more s x v p e
list_when (Err u) us more s x v p e h = tt

grown_rest : (g : Bool) (v w : Value) (items after : Arc Vals Global) (more : Vals) (s : List ℕ) (x : Val) → v ≡ code.List items → w ≡ code.List after → Some more ≡ items_added s x → ListGrown g items more after
    → Grown g v (data_reply (val_of v) s (and_val x no_vals)) w
grown_rest true v w items after more s x p q e h =
    ap (λ u. data_reply (val_of u) s (and_val x no_vals)) p ∙ row_added (bytes_eq s (codes "add")) (bytes_eq s (codes "with")) items.value x more _ e ∙ h ∙ ap (λ u. gives (val_of u)) (sym q)
grown_rest false v w items after more s x p q e h = q ∙ ap code.List h ∙ sym p

pub list_grown : (r : Result Bool AllocError) (v w : Value) (items after : Arc Vals Global) (more : Vals) (s : List ℕ) (x : Val) → v ≡ code.List items → w ≡ code.List after → Some more ≡ items_added s x → IfOk r (λ g. ListGrown g items more after)
    → IfOk r (λ g. Grown g v (data_reply (val_of v) s (and_val x no_vals)) w)
list_grown (Ok g) v w items after more s x p q e h = grown_rest g v w items after more s x p q e h
list_grown (Err u) v w items after more s x p q e h = tt
