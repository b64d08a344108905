-- Frames: which names stand where, and when code fits the frame in which it is evaluated.
use Rattle.std.specs.Prelude.{◌≡◌, ℕ, ◌+◌, Bool, true, false, Option, Some, None, List, [], ◌∷◌, ◌++◌, map}
use Rattle.std.specs.Str.{bytes_eq}
use Rattle.kernele.specs.Tree.{Name, Tree, Trees, none}
use Rattle.kernele.specs.declared.tree.Pattern.TheVariants as binding
use Rattle.kernele_scopes.specs.Scope.{name_of, names_of_all, own_names, own_names_in}
use Rattle.kernele_scopes.specs.Free.{captures, when_captures}
use Rattle.kernele_scopes.specs.declared.naming.TopName.{TopName}
use Rattle.code.specs.declared.code.NounPlace.{NounPlace}
use Rattle.code.specs.declared.code.NounPlace.TheVariants as place
use Rattle.code.specs.declared.code.Capture.{Capture}
use Rattle.code.specs.declared.code.Code as code
use Rattle.code.specs.declared.code.Code.{Code}
use Rattle.code.specs.declared.code.MethodCode.{MethodCode}
use Rattle.code.specs.View.{tree_of_code, trees_of_code_row, methods_of_code_row}
use Rattle.code.specs.Index.{index_in, index_fits}

-- the names of a frame, the oldest first
abbrev pub Frame : Type 0
Frame = List Name

-- the names of definitions, whatever they define them as
abbrev pub only_names : List TopName → List Name
only_names ts = map (λ t. t.name) ts

-- the frame behind definitions of these names: in the script's own scope a name that is defined goes to the vat's top nouns and the
-- frame stays, elsewhere it is the frame's newest name
abbrev pub behind : Bool → List Name → Frame → Frame
behind true xs frame = frame
behind false xs frame = frame ++ xs

-- the frame behind a tree that gave a value
abbrev pub after : Bool → Tree → Frame → Frame
after own t frame = behind own (only_names (own_names t)) frame

-- the same of trees in order
abbrev pub after_in : Bool → Trees → Frame → Frame
after_in own ts frame = behind own (only_names (own_names_in ts)) frame

-- a newer name of this spelling is at its position, counted from behind the oldest; else the oldest is, where it is the one
abbrev pub or_oldest : Option ℕ → Bool → Option ℕ
or_oldest (Some i) here = Some (i + 1)
or_oldest None true = Some 0
or_oldest None false = None

-- the position of the newest name of this spelling, counted from the oldest name
abbrev pub newest : Frame → Name → Option ℕ
newest [] x = None
newest (y ∷ ys) x = or_oldest (newest ys x) (bytes_eq y x)

abbrev pub place_at : Option ℕ → NounPlace
place_at (Some i) = place.Frame i
place_at None = place.Top

-- where what a name stands for is found: at the newest name of its spelling, else outside the frame
abbrev pub place_in : Frame → Name → NounPlace
place_in frame x = place_at (newest frame x)

-- what is captured is found in this frame
abbrev pub all_placed : Frame → List Capture → Type 0
all_placed frame [] = Unit {0}
all_placed frame (c ∷ cs) = (c.place ≡ place_in frame c.name) × all_placed frame cs

-- the names that are captured
abbrev pub captured_names_of : List Capture → Frame
captured_names_of cs = map (λ c. c.name) cs

abbrev mutual
  -- code fits a frame where each of its places is right in the frame that is there when the name is looked up; the flag tells whether
  -- it stands in the script's own scope
  pub fits : Bool → Frame → Code → Type 0
  fits own frame code.Null = Unit {0}
  fits own frame (code.Bool b) = Unit {0}
  fits own frame (code.Int z) = Unit {0}
  fits own frame (code.Text s) = Unit {0}
  fits own frame (code.Noun x at) = at ≡ place_in frame x
  fits own frame (code.Def' pattern p e) = fits own frame e
  fits own frame (code.Var' x p e) = fits own frame e
  -- the name is looked up behind the right side
  fits own frame (code.Assign' x at p e) = fits own frame e × (at ≡ place_in (after own (tree_of_code e) frame) x)
  fits own frame (code.Call' p r verb q shape args) = fits own frame r × fits_row own (after own (tree_of_code r) frame) args
  fits own frame (code.List' p shape items) = fits_row own frame items
  fits own frame (code.Same' p l q r) = fits own frame l × fits own (after own (tree_of_code l) frame) r
  fits own frame (code.DefList' patterns p e) = fits own frame e
  -- a block has a scope of its own, whose names end with it
  fits own frame (code.Hide' p shape body) = fits_row false frame body
  fits own frame (code.If' p c q shape first r shape2 second) = fits own frame c × fits_row false (after own (tree_of_code c) frame) first × fits_row false (after own (tree_of_code c) frame) second
  fits own frame (code.While' p c q shape body) = fits own frame c × fits_row false (after own (tree_of_code c) frame) body
  fits own frame (code.For' pattern p e q shape body) = fits own frame e × fits_row false (after own (tree_of_code e) frame ++ only_names (name_of pattern)) body
  fits own frame (code.Try' p shape body pattern q shape2 handler) = fits_row false frame body × fits_row false (frame ++ only_names (name_of pattern)) handler
  fits own frame (code.Primitive' q p e) = fits own frame e
  -- a method begins with the names that the object captured, the object's own name, and its parameters; an index is that of the methods
  fits own frame (code.Object' pattern captured p shape ms index) =
      (captured_names_of captured.value.items ≡ captures pattern (methods_of_code_row ms)) × all_placed frame captured.value.items
      × fits_methods_row (captured_names_of captured.value.items ++ only_names (name_of pattern)) ms × index_fits (index_in index) (methods_of_code_row ms)
  fits own frame (code.Escape' x p shape body) = fits_row false (frame ++ x ∷ []) body
  fits own frame (code.Send' p r verb q shape args) = fits own frame r × fits_row own (after own (tree_of_code r) frame) args
  -- what a `when` captures is found behind its value; its block begins with the captured names, and its handler with those and the
  -- name that the problem is bound to
  fits own frame (code.When' p e captured q shape body) =
      fits own frame e × (captured_names_of captured.value.items ≡ when_captures (trees_of_code_row body) binding.Ignore none)
      × all_placed (after own (tree_of_code e) frame) captured.value.items × fits_row false (captured_names_of captured.value.items) body
  fits own frame (code.WhenCatch' p e captured q shape body pattern r shape2 handler) =
      fits own frame e × (captured_names_of captured.value.items ≡ when_captures (trees_of_code_row body) pattern (trees_of_code_row handler))
      × all_placed (after own (tree_of_code e) frame) captured.value.items × fits_row false (captured_names_of captured.value.items) body
      × fits_row false (captured_names_of captured.value.items ++ only_names (name_of pattern)) handler
  fits own frame code.NewPromise = Unit {0}

  pub fits_row : {n : _} → Bool → Frame → code.Row_of-Code n → Type 0
  fits_row own frame code.end_of-Code = Unit {0}
  fits_row own frame (code.more_of-Code e rest) = fits own frame e × fits_row own (after own (tree_of_code e) frame) rest

  pub fits_methods_row : {n : _} → Frame → code.Row_of-MethodCode n → Type 0
  fits_methods_row frame code.end_of-MethodCode = Unit {0}
  fits_methods_row frame (code.more_of-MethodCode verb ps p shape body rest) = fits_row false (frame ++ only_names (names_of_all ps.value.items)) body × fits_methods_row frame rest

-- code in order: each item in the frame behind those before it
abbrev pub fits_all : Bool → Frame → List Code → Type 0
fits_all own frame [] = Unit {0}
fits_all own frame (e ∷ es) = fits own frame e × fits_all own (after own (tree_of_code e) frame) es

-- the methods of an object, whose bodies begin with these names and the method's parameters
abbrev pub fits_methods : Frame → List MethodCode → Type 0
fits_methods frame [] = Unit {0}
fits_methods frame (m ∷ ms) = fits_all false (frame ++ only_names (names_of_all m.parameters.value.items)) m.body.value.items × fits_methods frame ms
