-- What a place says of a name.
use Rattle.std.specs.Prelude.{◌≡◌, ℕ, List, ◌∷◌, ◌++◌, length, false}
use Rattle.kernele.specs.Tree.{Name}
use Rattle.kernele_scopes.specs.Free.{is_among}
use Rattle.code.specs.declared.code.NounPlace.TheVariants as place
use Rattle.code.specs.Frames.{Frame, place_in}

-- a name stands at this position of a frame, counted from the oldest, and no newer one has its spelling
pub record IsNewest (frame : Frame) (x : Name) (i : ℕ) : Type 0 where
  pub older : List Name
  pub newer : List Name
  pub parts : frame ≡ older ++ x ∷ newer
  pub position : length older ≡ i
  pub last : is_among newer x ≡ false

-- a place in a frame is that of the newest name of its spelling
abbrev pub PlacesAreNewest : Type 0
PlacesAreNewest = (frame : Frame) (x : Name) (i : ℕ) → place_in frame x ≡ place.Frame i → IsNewest frame x i

-- a name whose place is outside its frame is not in the frame
abbrev pub TopNounsAreOutside : Type 0
TopNounsAreOutside = (frame : Frame) (x : Name) → place_in frame x ≡ place.Top → is_among frame x ≡ false
