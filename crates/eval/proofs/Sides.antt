-- Expressions that have a right side.
use Rattle.std.proofs.Common.{◌≡◌, ◌⊎◌, inl, inr, ℕ, ◌+◌, Some, refl, ap, subst}
use Rattle.std.specs.declared.sync.Arc.{Arc}
use Rattle.std.specs.declared.vec.Vec.{Vec}
use Rattle.std.specs.declared.alloc.Global.{Global}
use Rattle.kernele.specs.Tree.{Name, Tree, primitive}
use Rattle.kernele.specs.declared.tree.Pattern.{Pattern}
use Rattle.kernele.specs.declared.tree.Primitive.{Primitive}
use Rattle.code.specs.View.{tree_of_code}
use Rattle.code.specs.declared.code.NounPlace.{NounPlace}
use Rattle.code.specs.declared.code.Code as code
use Rattle.code.specs.declared.code.Code.{Code}
use Rattle.values.specs.Data.{Val}
use Rattle.eval_rules.specs.At.{At}
use Rattle.eval_rules.specs.Fits.{fits_at}
use Rattle.eval_rules.specs.Doings.{datum_of, datum_read}
use Rattle.eval_rules.specs.Outcomes.{End, Halt, value, halt}
use Rattle.eval_rules.specs.Rules.{Ends, Runs, run_define, run_variable, run_assign, run_define_list, run_primitive, needs, primitive_end}
use Rattle.eval_rules.proofs.Fitting.{placed_then}
use Rattle.eval_rules.proofs.Steps.{runs_as}
use Rattle.eval.proofs.Home.{ends_home}
use Rattle.eval.specs.Sides.{right_side, taken_end, taken_at, is_placed}

-- the right side is known otherwise
same_side : {r s : Code} {k : ℕ} {a b : At} {o : End} → Some r ≡ Some s → Ends k (tree_of_code s) a o b → Ends k (tree_of_code r) a o b
same_side {r = r} {s = s} {k = k} {a = a} {b = b} {o = o} is h = let same : s ≡ r = cc in subst (λ e. Ends k (tree_of_code e) a o b) same h

-- a primitive makes of its value what it makes in the vat in which its right side ended: in the same one
primitive_runs : {q : Primitive} {t : Tree} {k : ℕ} {a b : At} {o : End} → Ends (k + 1) t a o b → Runs k (primitive q t) a (primitive_end (datum_of o b) b.vat q) (datum_read o b)
primitive_runs {q = q} {b = b} {o = o} r = runs_as (run_primitive (needs r)) (ap (λ here. primitive_end (datum_of o b) here q) (ends_home r))

-- an expression runs as its right side ended
pub runs_right : (e : Code) {r : Code} {k : ℕ} {a b : At} {o : End} → right_side e ≡ Some r → Ends (k + 1) (tree_of_code r) a o b → Runs k (tree_of_code e) a (taken_end e o b) (taken_at e o b)
runs_right (code.Def' pattern p e) is h = run_define (same_side is h)
runs_right (code.Var' x p e) is h = run_variable (same_side is h)
runs_right (code.Assign' x at p e) is h = run_assign (same_side is h)
runs_right (code.DefList' patterns p e) is h = run_define_list (same_side is h)
runs_right (code.Primitive' q p e) is h = primitive_runs (same_side is h)
runs_right _ is h = absurd (cc)

-- one whose right side is halted is halted there
pub halts_right : (e : Code) {r : Code} {k : ℕ} {a b : At} {h : Halt} → right_side e ≡ Some r → Ends (k + 1) (tree_of_code r) a (halt h) b → Runs k (tree_of_code e) a (halt h) b
halts_right (code.Def' pattern p e) is h = run_define (same_side is h)
halts_right (code.Var' x p e) is h = run_variable (same_side is h)
halts_right (code.Assign' x at p e) is h = run_assign (same_side is h)
halts_right (code.DefList' patterns p e) is h = run_define_list (same_side is h)
halts_right (code.Primitive' q p e) is h = run_primitive (needs (same_side is h))
halts_right _ is h = absurd (cc)

-- the right side fits where the expression does
pub right_fits : (e : Code) {r : Code} (a : At) → right_side e ≡ Some r → fits_at a e → fits_at a r
right_fits (code.Def' pattern p e) {r = r} a is h = let same : e ≡ r = cc in subst (fits_at a) same h
right_fits (code.Var' x p e) {r = r} a is h = let same : e ≡ r = cc in subst (fits_at a) same h
right_fits (code.Assign' x at p e) {r = r} a is h = let same : e ≡ r = cc in subst (fits_at a) same h.0
right_fits (code.DefList' patterns p e) {r = r} a is h = let same : e ≡ r = cc in subst (fits_at a) same h
right_fits (code.Primitive' q p e) {r = r} a is h = let same : e ≡ r = cc in subst (fits_at a) same h
right_fits _ a is h = absurd (cc)

-- the name that is assigned is at its place once the right side has given a value
pub right_placed : (e : Code) {r : Code} {k : ℕ} {a b : At} {v : Val} → right_side e ≡ Some r → fits_at a e → Ends k (tree_of_code r) a (value v) b → is_placed b e
right_placed (code.Assign' x at p e) is h r = placed_then x (same_side is r) h.1
right_placed (code.Def' pattern p e) is h r = tt
right_placed (code.Var' x p e) is h r = tt
right_placed (code.DefList' patterns p e) is h r = tt
right_placed (code.Primitive' q p e) is h r = tt
right_placed _ is h r = absurd (cc)

-- the right side of what has one
pub side_of : {e : Code} (right : Arc Code Global)
    → ((p : Pattern) × (e ≡ code.Def p right)) ⊎ (((x : Name) × (e ≡ code.Var x right)) ⊎ (((x : Name) × (at : NounPlace) × (e ≡ code.Assign x at right)) ⊎ (((ps : Arc (Vec Pattern Global) Global) × (e ≡ code.DefList ps right)) ⊎ ((q : Primitive) × (e ≡ code.Primitive q right)))))
    → right_side e ≡ Some right.value
side_of right (inl is) = ap right_side is.1
side_of right (inr (inl is)) = ap right_side is.1
side_of right (inr (inr (inl is))) = ap right_side is.2
side_of right (inr (inr (inr (inl is)))) = ap right_side is.1
side_of right (inr (inr (inr (inr is)))) = ap right_side is.1

-- an expression of another kind has no right side: the value is left as it is
pub takes_nothing : (e : Code) (o : End) (a : At)
    → ((x : Pattern) (r : Arc Code Global) → e ≡ code.Def x r → ⊥) → ((x : Name) (r : Arc Code Global) → e ≡ code.Var x r → ⊥)
    → ((x : Name) (p : NounPlace) (r : Arc Code Global) → e ≡ code.Assign x p r → ⊥) → ((ps : Arc (Vec Pattern Global) Global) (r : Arc Code Global) → e ≡ code.DefList ps r → ⊥)
    → ((q : Primitive) (r : Arc Code Global) → e ≡ code.Primitive q r → ⊥) → (o ≡ taken_end e o a) × (a ≡ taken_at e o a)
takes_nothing (code.Def' x p r) o a d v s l t = absurd (d x (record { ptr = p.ptr; value = r }) refl)
takes_nothing (code.Var' x p r) o a d v s l t = absurd (v x (record { ptr = p.ptr; value = r }) refl)
takes_nothing (code.Assign' x at p r) o a d v s l t = absurd (s x at (record { ptr = p.ptr; value = r }) refl)
takes_nothing (code.DefList' ps p r) o a d v s l t = absurd (l ps (record { ptr = p.ptr; value = r }) refl)
takes_nothing (code.Primitive' q p r) o a d v s l t = absurd (t q (record { ptr = p.ptr; value = r }) refl)
takes_nothing _ o a d v s l t = (refl, refl)
