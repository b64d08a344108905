-- Fences as a program has them: lists of names that rise, so that each set of names is one list.
use Rattle.std.specs.Prelude.{◌≡◌, Bool, ◌||◌, List, [], ◌∷◌, Option, Some, None}
use Rattle.std.specs.List.{list_any, AllByRecursion}
use Rattle.std.specs.Ordering.{match_ordering}
use Rattle.std.specs.declared.cmp.Ordering.TheVariants.{Less}
use Rattle.ids.specs.Cells.{message_cmp}
use Rattle.ids.specs.declared.names.MsgId.{MsgId}
use Rattle.eorder.specs.Places.{same_message}

-- the set of these names
abbrev pub member : List MsgId → MsgId → Bool
member f m = list_any (λ n. same_message n m) f

-- each name is below all later ones
abbrev pub Rises : List MsgId → Type 0
Rises [] = Unit {0}
Rises (m ∷ f) = AllByRecursion (λ n. message_cmp m n ≡ Less) f × Rises f

-- a name in its place, unless it is there
abbrev pub with_name : MsgId → List MsgId → List MsgId
with_name m [] = m ∷ []
with_name m (n ∷ f) = match_ordering (message_cmp m n) (m ∷ n ∷ f) (n ∷ f) (n ∷ with_name m f)

-- two sets together
abbrev pub joined : List MsgId → List MsgId → List MsgId
joined f [] = f
joined f (m ∷ g) = joined (with_name m f) g

-- the fence in a cell: empty where the cell is absent
abbrev pub names_in : Option (List MsgId) → List MsgId
names_in None = []
names_in (Some f) = f

-- the cell of a fence: absent where the fence is empty
abbrev pub cell_of : List MsgId → Option (List MsgId)
cell_of [] = None
cell_of (m ∷ f) = Some (m ∷ f)

-- fences that rise and have the same names are one; two together rise, and have the names of both; what a cell is given it has
pub record FencesAreSets : Type 0 where
  pub equal : (f g : List MsgId) → Rises f → Rises g → ((m : MsgId) → member f m ≡ member g m) → f ≡ g
  pub rise : (f g : List MsgId) → Rises f → Rises (joined f g)
  pub members : (f g : List MsgId) (m : MsgId) → member (joined f g) m ≡ (member f m || member g m)
  pub cells : (f : List MsgId) → names_in (cell_of f) ≡ f
