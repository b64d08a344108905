-- Whether two pieces of code of one construct are alike, from their parts.
use Rattle.std.proofs.Common.{◌≡◌, ℕ, Bool, ◌&&◌, List, Option, ap, ◌∙◌}
use Rattle.std.specs.Str.{bytes_eq}
use Rattle.std.specs.declared.sync.Arc.{Arc}
use Rattle.std.specs.declared.vec.Vec.{Vec}
use Rattle.std.specs.declared.alloc.Global.{Global}
use Rattle.kernele.specs.Tree.{Tree}
use Rattle.kernele.specs.declared.tree.Pattern.{Pattern}
use Rattle.code.specs.declared.code.Capture.{Capture}
use Rattle.code.specs.declared.code.Code as code
use Rattle.code.specs.declared.code.Code.{Code}
use Rattle.code.specs.declared.code.MethodCode.{MethodCode}
use Rattle.code.specs.declared.index.MethodIndex.{MethodIndex}
use Rattle.code.specs.View.{tree_of_code, trees_of_codes, methods_of_codes}
use Rattle.code.specs.Sameness.{pattern_alike, alike, all_alike, methods_alike}
use Rattle.code.proofs.Views.{tree_of_code-Call, tree_of_code-List, tree_of_code-Hide, tree_of_code-If, tree_of_code-While, tree_of_code-For, tree_of_code-Try, tree_of_code-Object, tree_of_code-Escape, tree_of_code-Send, tree_of_code-When, tree_of_code-WhenCatch}

abbrev Part : Type 0
Part = Arc Code Global

abbrev Row : Type 0
Row = Arc (Vec Code Global) Global

abbrev part_alike : Part → Part → Bool
part_alike e f = alike (tree_of_code e.value) (tree_of_code f.value)

abbrev rows_alike : Row → Row → Bool
rows_alike xs ys = all_alike (trees_of_codes xs.value.items) (trees_of_codes ys.value.items)

pair : {a b c d : Code} {t u : Tree} → a ≡ c → b ≡ d → tree_of_code c ≡ t → tree_of_code d ≡ u → alike (tree_of_code a) (tree_of_code b) ≡ alike t u
pair p q e f = λ i. alike ((ap tree_of_code p ∙ e) i) ((ap tree_of_code q ∙ f) i)

pub calls_pair : (a b : Code) (r s : Part) (v w : List ℕ) (xs ys : Row) → a ≡ code.Call r v xs → b ≡ code.Call s w ys → alike (tree_of_code a) (tree_of_code b) ≡ (bytes_eq v w && part_alike r s && rows_alike xs ys)
calls_pair a b r s v w xs ys p q = pair p q (tree_of_code-Call r v xs) (tree_of_code-Call s w ys)

pub lists_pair : (a b : Code) (xs ys : Row) → a ≡ code.List xs → b ≡ code.List ys → alike (tree_of_code a) (tree_of_code b) ≡ rows_alike xs ys
lists_pair a b xs ys p q = pair p q (tree_of_code-List xs) (tree_of_code-List ys)

pub hides_pair : (a b : Code) (xs ys : Row) → a ≡ code.Hide xs → b ≡ code.Hide ys → alike (tree_of_code a) (tree_of_code b) ≡ rows_alike xs ys
hides_pair a b xs ys p q = pair p q (tree_of_code-Hide xs) (tree_of_code-Hide ys)

pub ifs_pair : (a b : Code) (e f : Part) (xs ys us vs : Row) → a ≡ code.If e xs us → b ≡ code.If f ys vs → alike (tree_of_code a) (tree_of_code b) ≡ (part_alike e f && rows_alike xs ys && rows_alike us vs)
ifs_pair a b e f xs ys us vs p q = pair p q (tree_of_code-If e xs us) (tree_of_code-If f ys vs)

pub whiles_pair : (a b : Code) (e f : Part) (xs ys : Row) → a ≡ code.While e xs → b ≡ code.While f ys → alike (tree_of_code a) (tree_of_code b) ≡ (part_alike e f && rows_alike xs ys)
whiles_pair a b e f xs ys p q = pair p q (tree_of_code-While e xs) (tree_of_code-While f ys)

pub fors_pair : (a b : Code) (p q : Pattern) (e f : Part) (xs ys : Row) → a ≡ code.For p e xs → b ≡ code.For q f ys → alike (tree_of_code a) (tree_of_code b) ≡ (pattern_alike p q && part_alike e f && rows_alike xs ys)
fors_pair a b p q e f xs ys h k = pair h k (tree_of_code-For p e xs) (tree_of_code-For q f ys)

pub tries_pair : (a b : Code) (p q : Pattern) (xs ys us vs : Row) → a ≡ code.Try xs p us → b ≡ code.Try ys q vs → alike (tree_of_code a) (tree_of_code b) ≡ (rows_alike xs ys && pattern_alike p q && rows_alike us vs)
tries_pair a b p q xs ys us vs h k = pair h k (tree_of_code-Try xs p us) (tree_of_code-Try ys q vs)

pub objects_pair : (a b : Code) (p q : Pattern) (cs ds : Arc (Vec Capture Global) Global) (ms ns : Arc (Vec MethodCode Global) Global) (i j : Option (Arc MethodIndex Global)) → a ≡ code.Object p cs ms i → b ≡ code.Object q ds ns j → alike (tree_of_code a) (tree_of_code b) ≡ (pattern_alike p q && methods_alike (methods_of_codes ms.value.items) (methods_of_codes ns.value.items))
objects_pair a b p q cs ds ms ns i j h k = pair h k (tree_of_code-Object p cs ms i) (tree_of_code-Object q ds ns j)

pub escapes_pair : (a b : Code) (x y : List ℕ) (xs ys : Row) → a ≡ code.Escape x xs → b ≡ code.Escape y ys → alike (tree_of_code a) (tree_of_code b) ≡ (bytes_eq x y && rows_alike xs ys)
escapes_pair a b x y xs ys p q = pair p q (tree_of_code-Escape x xs) (tree_of_code-Escape y ys)

pub sends_pair : (a b : Code) (r s : Part) (v w : List ℕ) (xs ys : Row) → a ≡ code.Send r v xs → b ≡ code.Send s w ys → alike (tree_of_code a) (tree_of_code b) ≡ (bytes_eq v w && part_alike r s && rows_alike xs ys)
sends_pair a b r s v w xs ys p q = pair p q (tree_of_code-Send r v xs) (tree_of_code-Send s w ys)

pub whens_pair : (a b : Code) (e f : Part) (cs ds : Arc (Vec Capture Global) Global) (xs ys : Row) → a ≡ code.When e cs xs → b ≡ code.When f ds ys → alike (tree_of_code a) (tree_of_code b) ≡ (part_alike e f && rows_alike xs ys)
whens_pair a b e f cs ds xs ys p q = pair p q (tree_of_code-When e cs xs) (tree_of_code-When f ds ys)

pub when_catches_pair : (a b : Code) (e f : Part) (cs ds : Arc (Vec Capture Global) Global) (xs ys : Row) (p q : Pattern) (us vs : Row) → a ≡ code.WhenCatch e cs xs p us → b ≡ code.WhenCatch f ds ys q vs
    → alike (tree_of_code a) (tree_of_code b) ≡ (part_alike e f && rows_alike xs ys && pattern_alike p q && rows_alike us vs)
when_catches_pair a b e f cs ds xs ys p q us vs h k = pair h k (tree_of_code-WhenCatch e cs xs p us) (tree_of_code-WhenCatch f ds ys q vs)
