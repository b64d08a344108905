-- When two keys of cells are the same, and what holds of keys.
use Rattle.std.specs.Prelude.{◌≡◌, Bool, true, false, ◌&&◌}
use Rattle.std.specs.Str.{bytes_eq}
use Rattle.std.specs.Ordering.{is_eq}
use Rattle.ids.specs.Cells.{vat_cmp, message_cmp, promise_cmp, slot_cmp, object_cmp}
use Rattle.ids.specs.References.{same_reference}
use Rattle.ids.specs.declared.cells.CellKey.{CellKey}
use Rattle.ids.specs.declared.cells.CellKey.TheVariants as key

abbrev pub same_key : CellKey → CellKey → Bool
same_key (key.Name x) (key.Name y) = bytes_eq x y
same_key (key.Slot s) (key.Slot t) = is_eq (slot_cmp s t)
same_key (key.Object i) (key.Object j) = is_eq (object_cmp i j)
same_key (key.Top v x) (key.Top w y) = is_eq (vat_cmp v w) && bytes_eq x y
same_key (key.View v p) (key.View w q) = is_eq (vat_cmp v w) && is_eq (promise_cmp p q)
same_key (key.Fence v r) (key.Fence w t) = is_eq (vat_cmp v w) && same_reference r t
same_key (key.Msg m) (key.Msg n) = is_eq (message_cmp m n)
same_key (key.Board p) (key.Board q) = is_eq (promise_cmp p q)
same_key _ _ = false

-- keys that are the same are one key, and each is the same as itself
abbrev pub SameIsEqual : Type 0
SameIsEqual = (k d : CellKey) → (same_key k d ≡ true → k ≡ d) × (same_key k k ≡ true)
