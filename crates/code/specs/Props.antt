-- That code fits a frame has one proof at most.
use Rattle.std.specs.Prelude.{ℕ, Bool, false, List, [], ◌∷◌, ◌++◌, Option, Some, None}
use Rattle.std.proofs.Common.{refl}
use Rattle.std.proofs.Props.{props}
use Rattle.kernele.specs.Tree.{Methods, none}
use Rattle.kernele.specs.declared.tree.Pattern.TheVariants as binding
use Rattle.kernele_scopes.specs.Scope.{name_of, names_of_all}
use Rattle.kernele_scopes.specs.Free.{captures, when_captures}
use Rattle.code.specs.declared.code.NounPlace.{NounPlace}
use Rattle.code.specs.declared.code.Capture.{Capture}
use Rattle.code.specs.declared.code.Code as code
use Rattle.code.specs.declared.code.Code.{Code}
use Rattle.code.specs.declared.code.MethodCode.{MethodCode}
use Rattle.code.specs.declared.index.MethodIndex.{MethodIndex}
use Rattle.code.specs.View.{tree_of_code, trees_of_code_row, methods_of_code_row}
use Rattle.code.specs.Index.{position_in, found_at, index_in, index_fits}
use Rattle.code.specs.Frames.{Frame, only_names, after, place_in, all_placed, captured_names_of, fits, fits_row, fits_methods_row, fits_all, fits_methods}

Place-set : IsSet NounPlace
Place-set = hlevel props

Frame-set : IsSet Frame
Frame-set = hlevel props

Position-set : IsSet (Option ℕ)
Position-set = hlevel props

-- that an object's index is that of its methods
pub index_fits-prop : (index : Option MethodIndex) (ms : Methods) → IsProp (index_fits index ms)
index_fits-prop None ms a b = refl
index_fits-prop (Some index) ms a b = λ i verb count. Position-set (found_at index verb count) (position_in ms verb count) (a verb count) (b verb count) i

all_placed-prop : (frame : Frame) (cs : List Capture) → IsProp (all_placed frame cs)
all_placed-prop frame [] a b = refl
all_placed-prop frame (c ∷ cs) a b = λ i. (Place-set c.place (place_in frame c.name) a.0 b.0 i, all_placed-prop frame cs a.1 b.1 i)

mutual
  pub fits-prop : (own : Bool) (frame : Frame) (c : Code) → IsProp (fits own frame c)
  fits-prop own frame code.Null a b = refl
  fits-prop own frame (code.Bool q) a b = refl
  fits-prop own frame (code.Int z) a b = refl
  fits-prop own frame (code.Text s) a b = refl
  fits-prop own frame (code.Noun x at) a b = Place-set at (place_in frame x) a b
  fits-prop own frame (code.Def' pattern p e) a b = fits-prop own frame e a b
  fits-prop own frame (code.Var' x p e) a b = fits-prop own frame e a b
  fits-prop own frame (code.Assign' x at p e) a b = λ i. (fits-prop own frame e a.0 b.0 i, Place-set at (place_in (after own (tree_of_code e) frame) x) a.1 b.1 i)
  fits-prop own frame (code.Call' p r verb q shape args) a b = λ i. (fits-prop own frame r a.0 b.0 i, row-prop own (after own (tree_of_code r) frame) args a.1 b.1 i)
  fits-prop own frame (code.List' p shape items) a b = row-prop own frame items a b
  fits-prop own frame (code.Same' p l q r) a b = λ i. (fits-prop own frame l a.0 b.0 i, fits-prop own (after own (tree_of_code l) frame) r a.1 b.1 i)
  fits-prop own frame (code.DefList' patterns p e) a b = fits-prop own frame e a b
  fits-prop own frame (code.Hide' p shape body) a b = row-prop false frame body a b
  fits-prop own frame (code.If' p c q shape first r shape2 second) a b =
      λ i. (fits-prop own frame c a.0 b.0 i, row-prop false (after own (tree_of_code c) frame) first a.1 b.1 i, row-prop false (after own (tree_of_code c) frame) second a.2 b.2 i)
  fits-prop own frame (code.While' p c q shape body) a b = λ i. (fits-prop own frame c a.0 b.0 i, row-prop false (after own (tree_of_code c) frame) body a.1 b.1 i)
  fits-prop own frame (code.For' pattern p e q shape body) a b =
      λ i. (fits-prop own frame e a.0 b.0 i, row-prop false (after own (tree_of_code e) frame ++ only_names (name_of pattern)) body a.1 b.1 i)
  fits-prop own frame (code.Try' p shape body pattern q shape2 handler) a b =
      λ i. (row-prop false frame body a.0 b.0 i, row-prop false (frame ++ only_names (name_of pattern)) handler a.1 b.1 i)
  fits-prop own frame (code.Primitive' q p e) a b = fits-prop own frame e a b
  fits-prop own frame (code.Object' pattern captured p shape ms index) a b =
      λ i. (
        Frame-set (captured_names_of captured.value.items) (captures pattern (methods_of_code_row ms)) a.0 b.0 i,
        all_placed-prop frame captured.value.items a.1 b.1 i,
        methods-prop (captured_names_of captured.value.items ++ only_names (name_of pattern)) ms a.2 b.2 i,
        index_fits-prop (index_in index) (methods_of_code_row ms) a.3 b.3 i,
      )
  fits-prop own frame (code.Escape' x p shape body) a b = row-prop false (frame ++ x ∷ []) body a b
  fits-prop own frame (code.Send' p r verb q shape args) a b = λ i. (fits-prop own frame r a.0 b.0 i, row-prop own (after own (tree_of_code r) frame) args a.1 b.1 i)
  fits-prop own frame (code.When' p e captured q shape body) a b =
      λ i. (
        fits-prop own frame e a.0 b.0 i,
        Frame-set (captured_names_of captured.value.items) (when_captures (trees_of_code_row body) binding.Ignore none) a.1 b.1 i,
        all_placed-prop (after own (tree_of_code e) frame) captured.value.items a.2 b.2 i,
        row-prop false (captured_names_of captured.value.items) body a.3 b.3 i,
      )
  fits-prop own frame (code.WhenCatch' p e captured q shape body pattern r shape2 handler) a b =
      λ i. (
        fits-prop own frame e a.0 b.0 i,
        Frame-set (captured_names_of captured.value.items) (when_captures (trees_of_code_row body) pattern (trees_of_code_row handler)) a.1 b.1 i,
        all_placed-prop (after own (tree_of_code e) frame) captured.value.items a.2 b.2 i,
        row-prop false (captured_names_of captured.value.items) body a.3 b.3 i,
        row-prop false (captured_names_of captured.value.items ++ only_names (name_of pattern)) handler a.4 b.4 i,
      )
  fits-prop own frame code.NewPromise a b = refl

  row-prop : {n : _} (own : Bool) (frame : Frame) (k : code.Row_of-Code n) → IsProp (fits_row own frame k)
  row-prop own frame code.end_of-Code a b = refl
  row-prop own frame (code.more_of-Code e rest) a b = λ i. (fits-prop own frame e a.0 b.0 i, row-prop own (after own (tree_of_code e) frame) rest a.1 b.1 i)

  methods-prop : {n : _} (frame : Frame) (k : code.Row_of-MethodCode n) → IsProp (fits_methods_row frame k)
  methods-prop frame code.end_of-MethodCode a b = refl
  methods-prop frame (code.more_of-MethodCode verb ps p shape body rest) a b =
      λ i. (row-prop false (frame ++ only_names (names_of_all ps.value.items)) body a.0 b.0 i, methods-prop frame rest a.1 b.1 i)

-- of code in order
pub fits_all-prop : (own : Bool) (frame : Frame) (cs : List Code) → IsProp (fits_all own frame cs)
fits_all-prop own frame [] a b = refl
fits_all-prop own frame (c ∷ cs) a b = λ i. (fits-prop own frame c a.0 b.0 i, fits_all-prop own (after own (tree_of_code c) frame) cs a.1 b.1 i)

-- of methods
pub fits_methods-prop : (frame : Frame) (ms : List MethodCode) → IsProp (fits_methods frame ms)
fits_methods-prop frame [] a b = refl
fits_methods-prop frame (m ∷ ms) a b =
    λ i. (fits_all-prop false (frame ++ only_names (names_of_all m.parameters.value.items)) m.body.value.items a.0 b.0 i, fits_methods-prop frame ms a.1 b.1 i)
