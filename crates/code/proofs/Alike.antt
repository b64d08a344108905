-- What is alike is equal.
use Rattle.std.proofs.Common.{◌≡◌, ℕ, Bool, true, ◌&&◌, List, [], ◌∷◌, refl, sym, ap, ◌∙◌}
use Rattle.std.specs.Str.{bytes_eq}
use Rattle.std.proofs.lemmas.Slice.Eq.{bytes_eq-Decides}
use Rattle.std.proofs.lemmas.Bool.{false≢true}
use Rattle.kernele.specs.Tree.{Tree, null_tree, bool_tree, int_tree, text_tree, noun, define, variable, assign, call, list_tree, same_tree, define_list, hide, if_tree, while_tree, for_tree, try_tree, primitive, object_tree, escape_tree, send, when_tree, when_catch_tree, new_promise, Trees, none, and_then, Methods, no_methods, and_method}
use Rattle.kernele.specs.declared.tree.Pattern.{Pattern}
use Rattle.kernele.specs.declared.tree.Pattern.TheVariants as pattern
use Rattle.kernele.specs.declared.tree.Primitive.{Primitive}
use Rattle.kernele.specs.declared.tree.Primitive.TheVariants as primitives
use Rattle.values.proofs.Equivalence.{bool_itself, int_itself, bytes_itself, bool_equal, int_equal, both, first_of_both, second_of_both}
use Rattle.code.specs.Sameness.{pattern_alike, patterns_alike, primitive_alike, alike, all_alike, methods_alike, TellsEqual}

-- two tests
both_hold : {p q : Bool} → (p && q) ≡ true → (p ≡ true) × (q ≡ true)
both_hold {p = p} {q = q} h = (first_of_both p q h, second_of_both p q h)

bytes_equal : (s t : List ℕ) → bytes_eq s t ≡ true → s ≡ t
bytes_equal s t = (bytes_eq-Decides s t).0

pattern_itself : (p : Pattern) → pattern_alike p p ≡ true
pattern_itself (pattern.Name x) = bytes_itself x
pattern_itself pattern.Ignore = refl

patterns_itself : (ps : List Pattern) → patterns_alike ps ps ≡ true
patterns_itself [] = refl
patterns_itself (p ∷ ps) = both _ _ (pattern_itself p) (patterns_itself ps)

pattern_equal : (p q : Pattern) → pattern_alike p q ≡ true → p ≡ q
pattern_equal (pattern.Name x) (pattern.Name y) h = ap pattern.Name (bytes_equal x y h)
pattern_equal pattern.Ignore pattern.Ignore h = refl
pattern_equal _ _ h = absurd (false≢true h)

patterns_equal : (ps qs : List Pattern) → patterns_alike ps qs ≡ true → ps ≡ qs
patterns_equal [] [] h = refl
patterns_equal (p ∷ ps) (q ∷ qs) h = let s = both_hold {p = pattern_alike p q} h in λ i. pattern_equal p q s.0 i ∷ patterns_equal ps qs s.1 i
patterns_equal _ _ h = absurd (false≢true h)

primitive_itself : (q : Primitive) → primitive_alike q q ≡ true
primitive_itself primitives.Throw = refl
primitive_itself primitives.BreakRef = refl
primitive_itself primitives.StateRef = refl

primitive_equal : (p q : Primitive) → primitive_alike p q ≡ true → p ≡ q
primitive_equal primitives.Throw primitives.Throw h = refl
primitive_equal primitives.BreakRef primitives.BreakRef h = refl
primitive_equal primitives.StateRef primitives.StateRef h = refl
primitive_equal _ _ h = absurd (false≢true h)

mutual
  tree_itself : (t : Tree) → alike t t ≡ true
  tree_itself null_tree = refl
  tree_itself (bool_tree b) = bool_itself b
  tree_itself (int_tree z) = int_itself z
  tree_itself (text_tree s) = bytes_itself s
  tree_itself (noun x) = bytes_itself x
  tree_itself (define p e) = both _ _ (pattern_itself p) (tree_itself e)
  tree_itself (variable x e) = both _ _ (bytes_itself x) (tree_itself e)
  tree_itself (assign x e) = both _ _ (bytes_itself x) (tree_itself e)
  tree_itself (call r v args) = both _ _ (both _ _ (bytes_itself v) (tree_itself r)) (trees_itself args)
  tree_itself (list_tree ts) = trees_itself ts
  tree_itself (same_tree l r) = both _ _ (tree_itself l) (tree_itself r)
  tree_itself (define_list ps e) = both _ _ (patterns_itself ps) (tree_itself e)
  tree_itself (hide ts) = trees_itself ts
  tree_itself (if_tree c ts us) = both _ _ (both _ _ (tree_itself c) (trees_itself ts)) (trees_itself us)
  tree_itself (while_tree c ts) = both _ _ (tree_itself c) (trees_itself ts)
  tree_itself (for_tree p e ts) = both _ _ (both _ _ (pattern_itself p) (tree_itself e)) (trees_itself ts)
  tree_itself (try_tree ts p us) = both _ _ (both _ _ (trees_itself ts) (pattern_itself p)) (trees_itself us)
  tree_itself (primitive q e) = both _ _ (primitive_itself q) (tree_itself e)
  tree_itself (object_tree p ms) = both _ _ (pattern_itself p) (methods_itself ms)
  tree_itself (escape_tree x ts) = both _ _ (bytes_itself x) (trees_itself ts)
  tree_itself (send r v args) = both _ _ (both _ _ (bytes_itself v) (tree_itself r)) (trees_itself args)
  tree_itself (when_tree e ts) = both _ _ (tree_itself e) (trees_itself ts)
  tree_itself (when_catch_tree e ts p us) = both _ _ (both _ _ (both _ _ (tree_itself e) (trees_itself ts)) (pattern_itself p)) (trees_itself us)
  tree_itself new_promise = refl

  pub trees_itself : (ts : Trees) → all_alike ts ts ≡ true
  trees_itself none = refl
  trees_itself (and_then t ts) = both _ _ (tree_itself t) (trees_itself ts)

  pub methods_itself : (ms : Methods) → methods_alike ms ms ≡ true
  methods_itself no_methods = refl
  methods_itself (and_method v ps body ms) = both _ _ (both _ _ (both _ _ (bytes_itself v) (patterns_itself ps)) (trees_itself body)) (methods_itself ms)

mutual
  tree_equal : (t u : Tree) → alike t u ≡ true → t ≡ u
  tree_equal null_tree null_tree h = refl
  tree_equal (bool_tree a) (bool_tree b) h = ap bool_tree (bool_equal a b h)
  tree_equal (int_tree y) (int_tree z) h = ap int_tree (int_equal y z h)
  tree_equal (text_tree s) (text_tree t) h = ap text_tree (bytes_equal s t h)
  tree_equal (noun x) (noun y) h = ap noun (bytes_equal x y h)
  tree_equal (define p e) (define q f) h = let s = both_hold {p = pattern_alike p q} h in λ i. define (pattern_equal p q s.0 i) (tree_equal e f s.1 i)
  tree_equal (variable x e) (variable y f) h = let s = both_hold {p = bytes_eq x y} h in λ i. variable (bytes_equal x y s.0 i) (tree_equal e f s.1 i)
  tree_equal (assign x e) (assign y f) h = let s = both_hold {p = bytes_eq x y} h in λ i. assign (bytes_equal x y s.0 i) (tree_equal e f s.1 i)
  tree_equal (call r v args) (call s w brgs) h =
      let k = both_hold {p = bytes_eq v w && alike r s} h in
      let l = both_hold {p = bytes_eq v w} k.0 in
      λ i. call (tree_equal r s l.1 i) (bytes_equal v w l.0 i) (trees_equal args brgs k.1 i)
  tree_equal (list_tree ts) (list_tree us) h = ap list_tree (trees_equal ts us h)
  tree_equal (same_tree l r) (same_tree m s) h = let k = both_hold {p = alike l m} h in λ i. same_tree (tree_equal l m k.0 i) (tree_equal r s k.1 i)
  tree_equal (define_list ps e) (define_list qs f) h = let s = both_hold {p = patterns_alike ps qs} h in λ i. define_list (patterns_equal ps qs s.0 i) (tree_equal e f s.1 i)
  tree_equal (hide ts) (hide us) h = ap hide (trees_equal ts us h)
  tree_equal (if_tree c ts es) (if_tree d us fs) h =
      let k = both_hold {p = alike c d && all_alike ts us} h in
      let l = both_hold {p = alike c d} k.0 in
      λ i. if_tree (tree_equal c d l.0 i) (trees_equal ts us l.1 i) (trees_equal es fs k.1 i)
  tree_equal (while_tree c ts) (while_tree d us) h = let s = both_hold {p = alike c d} h in λ i. while_tree (tree_equal c d s.0 i) (trees_equal ts us s.1 i)
  tree_equal (for_tree p e ts) (for_tree q f us) h =
      let k = both_hold {p = pattern_alike p q && alike e f} h in
      let l = both_hold {p = pattern_alike p q} k.0 in
      λ i. for_tree (pattern_equal p q l.0 i) (tree_equal e f l.1 i) (trees_equal ts us k.1 i)
  tree_equal (try_tree ts p hs) (try_tree us q ks) h =
      let k = both_hold {p = all_alike ts us && pattern_alike p q} h in
      let l = both_hold {p = all_alike ts us} k.0 in
      λ i. try_tree (trees_equal ts us l.0 i) (pattern_equal p q l.1 i) (trees_equal hs ks k.1 i)
  tree_equal (primitive p e) (primitive q f) h = let s = both_hold {p = primitive_alike p q} h in λ i. primitive (primitive_equal p q s.0 i) (tree_equal e f s.1 i)
  tree_equal (object_tree p ms) (object_tree q ns) h = let s = both_hold {p = pattern_alike p q} h in λ i. object_tree (pattern_equal p q s.0 i) (methods_equal ms ns s.1 i)
  tree_equal (escape_tree x ts) (escape_tree y us) h = let s = both_hold {p = bytes_eq x y} h in λ i. escape_tree (bytes_equal x y s.0 i) (trees_equal ts us s.1 i)
  tree_equal (send r v args) (send s w brgs) h =
      let k = both_hold {p = bytes_eq v w && alike r s} h in
      let l = both_hold {p = bytes_eq v w} k.0 in
      λ i. send (tree_equal r s l.1 i) (bytes_equal v w l.0 i) (trees_equal args brgs k.1 i)
  tree_equal (when_tree e ts) (when_tree f us) h = let s = both_hold {p = alike e f} h in λ i. when_tree (tree_equal e f s.0 i) (trees_equal ts us s.1 i)
  tree_equal (when_catch_tree e ts p hs) (when_catch_tree f us q ks) h =
      let k = both_hold {p = alike e f && all_alike ts us && pattern_alike p q} h in
      let l = both_hold {p = alike e f && all_alike ts us} k.0 in
      let m = both_hold {p = alike e f} l.0 in
      λ i. when_catch_tree (tree_equal e f m.0 i) (trees_equal ts us m.1 i) (pattern_equal p q l.1 i) (trees_equal hs ks k.1 i)
  tree_equal new_promise new_promise h = refl
  tree_equal _ _ h = absurd (false≢true h)

  pub trees_equal : (ts us : Trees) → all_alike ts us ≡ true → ts ≡ us
  trees_equal none none h = refl
  trees_equal (and_then t ts) (and_then u us) h = let s = both_hold {p = alike t u} h in λ i. and_then (tree_equal t u s.0 i) (trees_equal ts us s.1 i)
  trees_equal _ _ h = absurd (false≢true h)

  pub methods_equal : (ms ns : Methods) → methods_alike ms ns ≡ true → ms ≡ ns
  methods_equal no_methods no_methods h = refl
  methods_equal (and_method v ps body ms) (and_method w qs other ns) h =
      let k = both_hold {p = bytes_eq v w && patterns_alike ps qs && all_alike body other} h in
      let l = both_hold {p = bytes_eq v w && patterns_alike ps qs} k.0 in
      let m = both_hold {p = bytes_eq v w} l.0 in
      λ i. and_method (bytes_equal v w m.0 i) (patterns_equal ps qs m.1 i) (trees_equal body other l.1 i) (methods_equal ms ns k.1 i)
  methods_equal _ _ h = absurd (false≢true h)

-- equals pass a test that each passes with itself
tells : {A : Type 0} (test : A → A → Bool) → ((a b : A) → test a b ≡ true → a ≡ b) → ((a : A) → test a a ≡ true) → TellsEqual test
tells test equal itself a b = (equal a b, λ e. ap (test a) (sym e) ∙ itself a)

pub pattern_told : TellsEqual pattern_alike
pattern_told = tells pattern_alike pattern_equal pattern_itself

pub trees_told : TellsEqual alike
trees_told = tells alike tree_equal tree_itself

pub blocks_told : TellsEqual all_alike
blocks_told = tells all_alike trees_equal trees_itself

pub methods_told : TellsEqual methods_alike
methods_told = tells methods_alike methods_equal methods_itself
