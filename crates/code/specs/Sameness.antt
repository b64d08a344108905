-- When two trees are the same: each part like its counterpart.
use Rattle.std.specs.Prelude.{Bool, true, false, ◌&&◌, ◌≡◌, List, [], ◌∷◌}
use Rattle.std.specs.Bool.{Decides}
use Rattle.std.specs.Str.{bytes_eq}
use Rattle.kernele.specs.Tree.{Tree, null_tree, bool_tree, int_tree, text_tree, noun, define, variable, assign, call, list_tree, same_tree, define_list, hide, if_tree, while_tree, for_tree, try_tree, primitive, object_tree, escape_tree, send, when_tree, when_catch_tree, new_promise, Trees, none, and_then, Methods, no_methods, and_method}
use Rattle.kernele.specs.declared.tree.Pattern.{Pattern}
use Rattle.kernele.specs.declared.tree.Pattern.TheVariants as pattern
use Rattle.kernele.specs.declared.tree.Primitive.{Primitive}
use Rattle.kernele.specs.declared.tree.Primitive.TheVariants as primitives
use Rattle.code.specs.declared.code.MethodCode.{MethodCode}
use Rattle.code.specs.View.{trees_of_codes}
use Rattle.values.specs.Same.{same_bool, same_int}

abbrev pub pattern_alike : Pattern → Pattern → Bool
pattern_alike (pattern.Name x) (pattern.Name y) = bytes_eq x y
pattern_alike pattern.Ignore pattern.Ignore = true
pattern_alike _ _ = false

abbrev pub patterns_alike : List Pattern → List Pattern → Bool
patterns_alike [] [] = true
patterns_alike (p ∷ ps) (q ∷ qs) = pattern_alike p q && patterns_alike ps qs
patterns_alike _ _ = false

abbrev pub primitive_alike : Primitive → Primitive → Bool
primitive_alike primitives.Throw primitives.Throw = true
primitive_alike primitives.BreakRef primitives.BreakRef = true
primitive_alike primitives.StateRef primitives.StateRef = true
primitive_alike _ _ = false

-- names and texts by their bytes, parts and blocks one by one; different constructs are never alike
abbrev mutual
  pub alike : Tree → Tree → Bool
  alike null_tree null_tree = true
  alike (bool_tree a) (bool_tree b) = same_bool a b
  alike (int_tree y) (int_tree z) = same_int y z
  alike (text_tree s) (text_tree t) = bytes_eq s t
  alike (noun x) (noun y) = bytes_eq x y
  alike (define p e) (define q f) = pattern_alike p q && alike e f
  alike (variable x e) (variable y f) = bytes_eq x y && alike e f
  alike (assign x e) (assign y f) = bytes_eq x y && alike e f
  alike (call r v args) (call s w brgs) = bytes_eq v w && alike r s && all_alike args brgs
  alike (list_tree vs) (list_tree ws) = all_alike vs ws
  alike (same_tree l r) (same_tree m s) = alike l m && alike r s
  alike (define_list ps e) (define_list qs f) = patterns_alike ps qs && alike e f
  alike (hide vs) (hide ws) = all_alike vs ws
  alike (if_tree c ts es) (if_tree d us fs) = alike c d && all_alike ts us && all_alike es fs
  alike (while_tree c ts) (while_tree d us) = alike c d && all_alike ts us
  alike (for_tree p e ts) (for_tree q f us) = pattern_alike p q && alike e f && all_alike ts us
  alike (try_tree ts p hs) (try_tree us q ks) = all_alike ts us && pattern_alike p q && all_alike hs ks
  alike (primitive p e) (primitive q f) = primitive_alike p q && alike e f
  alike (object_tree p ms) (object_tree q ns) = pattern_alike p q && methods_alike ms ns
  alike (escape_tree x ts) (escape_tree y us) = bytes_eq x y && all_alike ts us
  alike (send r v args) (send s w brgs) = bytes_eq v w && alike r s && all_alike args brgs
  alike (when_tree e ts) (when_tree f us) = alike e f && all_alike ts us
  alike (when_catch_tree e ts p hs) (when_catch_tree f us q ks) = alike e f && all_alike ts us && pattern_alike p q && all_alike hs ks
  alike new_promise new_promise = true
  alike _ _ = false

  pub all_alike : Trees → Trees → Bool
  all_alike none none = true
  all_alike (and_then t ts) (and_then u us) = alike t u && all_alike ts us
  all_alike _ _ = false

  pub methods_alike : Methods → Methods → Bool
  methods_alike no_methods no_methods = true
  methods_alike (and_method v ps body ms) (and_method w qs other ns) = bytes_eq v w && patterns_alike ps qs && all_alike body other && methods_alike ms ns
  methods_alike _ _ = false

-- one method of an object
abbrev pub method_alike : MethodCode → MethodCode → Bool
method_alike m n = bytes_eq m.verb n.verb && patterns_alike m.parameters.value.items n.parameters.value.items && all_alike (trees_of_codes m.body.value.items) (trees_of_codes n.body.value.items)

-- a test that holds of equals, and of nothing else
abbrev pub TellsEqual : {A : Type 0} → (A → A → Bool) → Type 0
TellsEqual {A = A} test = (a b : A) → Decides (test a b) (a ≡ b)
