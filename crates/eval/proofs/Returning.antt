-- An Escape's block, of which an item returns a value.
use Rattle.std.proofs.Common.{◌≡◌, ℕ, ◌+◌, ◌-◌, ◌<◌, List, [], ◌∷◌, get_or, drop, length, cond, true, refl, sym, ap, ◌∙◌, subst}
use Rattle.ids.specs.declared.names.EjId.{EjId}
use Rattle.kernele.specs.Tree.{Tree}
use Rattle.code.specs.View.{tree_of_code, trees_of_codes}
use Rattle.code.specs.declared.code.Code.{Code}
use Rattle.values.specs.Data.{Val}
use Rattle.eval_rules.specs.At.{At}
use Rattle.eval_rules.specs.Outcomes.{End, Halt, value, halt, ejected}
use Rattle.eval_rules.specs.Rules.{same_ejector, is_open, ejects, escape_end, next_ejector, escaping, Ends, Items}
use Rattle.eval_rules.proofs.Opened.{ends_opened}
use Rattle.eval_rules.proofs.Steps.{items_no_more, only_one}
use Rattle.std.specs.declared.vec.Vec.{Vec}
use Rattle.std.specs.declared.alloc.Global.{Global}
use Rattle.eval_quick.specs.Leaves.{Returns, sent}
use Rattle.eval.specs.Escaping.{IsNewest, Escapes}

-- the innermost Escape stays while a tree is evaluated
pub newest_stays : {k : ℕ} {t : Tree} {a b : At} {o : End} (j : EjId) → Ends k t a o b → IsNewest j a → IsNewest j b
newest_stays j r newest = (newest.0, ends_opened r ∙ newest.1)

-- an Escape that is begun is the innermost one
pub newest_begun : (j : EjId) (a b : At) → j ≡ next_ejector a → b ≡ escaping a → IsNewest j b
newest_begun j a b e f = (a.opened, ap (λ (b : At). b.opened) f ∙ ap (λ i. i ∷ a.opened) (sym e))

-- an item ends with a halt, as a value on its way to the Escape or as what it returns is halted: the Escape ends as what it returns
return_halts : (j i : EjId) (older : List EjId) {js : List EjId} (o : End) → js ≡ j ∷ older → same_ejector j i ≡ true → (s : Halt) × (sent i js o ≡ halt s) × (escape_end j o ≡ escape_end j (halt s))
return_halts j i older (value v) e same = (
  ejected i v,
  ap (λ js. ejects (is_open i js) i v) e ∙ ap (λ q. ejects (cond q true (is_open i older)) i v) same,
  sym (ap (λ q. cond q (value v) (halt (ejected i v))) same),
)
return_halts j i older (halt s) e same = (s, refl, refl)

-- the items from one on that returns a value, and the end that they leave to the Escape
pub item_returns : {k : ℕ} (xs : List Code) {n : ℕ} {x : Code} {t : Tree} {a b : At} {u : Val} {j : EjId} {o : End} → n < length xs → x ≡ get_or xs n x → IsNewest j a → Returns k a j (tree_of_code x) t
    → Ends (k + 1) t (record a { left = a.left - 2 }) o b → (p : End) × Items k u (trees_of_codes (drop n xs)) a p b × (escape_end j o ≡ escape_end j p)
item_returns {k = k} xs {x = x} {a = a} {b = b} {j = j} {o = o} h e newest returns ended =
    let s = return_halts j returns.0 newest.0 o (ends_opened ended ∙ newest.1) returns.1 in
    (halt s.0, items_no_more xs h e (subst (λ q. Ends k (tree_of_code x) a q b) s.1 (returns.2 o b ended)), s.2)

-- an Escape ends as its block ended, where the place is known otherwise
pub escapes_to : (j : EjId) (block : End → At → Type 0) {o p : End} {a b : At} → block o a → p ≡ escape_end j o → b ≡ a → Escapes j block p b
escapes_to j block {o = o} r e f = (o, subst (block o) (sym f) r, e)

-- the only argument of a call, where its row is known by its slice
pub alone : {xs : List Code} {v u : Vec Code Global} {x : Code} → length xs ≡ 1 → xs ≡ u.items → v ≡ u → x ≡ get_or v.items 0 x → (x ∷ []) ≡ xs
alone {x = x} one slice same is = only_one _ x one (is ∙ ap (λ v. get_or v.items 0 x) same ∙ ap (λ ys. get_or ys 0 x) (sym slice))
