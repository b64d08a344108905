-- Code that holds vectors fits where its parts and the vectors' code do.
use Rattle.std.proofs.Common.{◌≡◌, List, [], ◌∷◌, ◌++◌, ℕ, Option, Bool, false, refl, ap, sym, ◌∙◌}
use Rattle.kernele_scopes.specs.Scope.{name_of, names_of_all}
use Rattle.kernele_scopes.specs.Free.{captures, when_captures}
use Rattle.kernele.specs.Tree.{none}
use Rattle.kernele.specs.declared.tree.Pattern.{Pattern}
use Rattle.kernele.specs.declared.tree.Pattern.TheVariants as pattern
use Rattle.code.specs.View.{tree_of_code, trees_of_codes, methods_of_codes}
use Rattle.code.specs.Frames.{Frame, only_names, after, all_placed, captured_names_of, fits, fits_row, fits_methods_row, fits_all, fits_methods}
use Rattle.code.specs.Index.{index_in, index_fits}
use Rattle.code.proofs.Views.{trees_row, methods_row}
use Rattle.code.specs.declared.code.Capture.{Capture}
use Rattle.code.specs.declared.code.Code as code
use Rattle.code.specs.declared.code.Code.{Code}
use Rattle.code.specs.declared.code.MethodCode.{MethodCode}
use Rattle.code.specs.declared.index.MethodIndex.{MethodIndex}
use Rattle.std.specs.declared.sync.Arc.{Arc}
use Rattle.std.specs.declared.vec.Vec.{Vec}
use Rattle.std.specs.declared.alloc.Global.{Global}

row_items : {n : _} (own : Bool) (frame : Frame) (k : code.Row_of-Code n) → fits_row own frame k ≡ fits_all own frame (code.items-the_row-Code _ k)
row_items own frame code.end_of-Code = refl
row_items own frame (code.more_of-Code e rest) = ap (λ A. fits own frame e × A) (row_items own (after own (tree_of_code e) frame) rest)

fits_of_row : (own : Bool) (frame : Frame) (xs : Vec Code Global) → fits_row own frame (code.TheBlock.hidden-the_row-Code-0 xs) ≡ fits_all own frame xs.items
fits_of_row own frame xs = row_items own frame (code.TheBlock.hidden-the_row-Code-0 xs) ∙ ap (fits_all own frame) (code.items_hidden-the_row-Code-0 xs)

method_items : {n : _} (frame : Frame) (k : code.Row_of-MethodCode n) → fits_methods_row frame k ≡ fits_methods frame (code.items-the_row-MethodCode _ k)
method_items frame code.end_of-MethodCode = refl
method_items frame (code.more_of-MethodCode verb ps p shape body rest) =
    λ i. (row_items false (frame ++ only_names (names_of_all ps.value.items)) body ∙ ap (fits_all false (frame ++ only_names (names_of_all ps.value.items))) (sym (code.items_shown-the_row-Code-0 shape body))) i × method_items frame rest i

fits_of_method_row : (frame : Frame) (xs : Vec MethodCode Global) → fits_methods_row frame (code.TheBlock.hidden-the_row-MethodCode-1 xs) ≡ fits_methods frame xs.items
fits_of_method_row frame xs = method_items frame (code.TheBlock.hidden-the_row-MethodCode-1 xs) ∙ ap (fits_methods frame) (code.items_hidden-the_row-MethodCode-1 xs)

pub fits-Call : (own : Bool) (frame : Frame) (r : Arc Code Global) (verb : List ℕ) (args : Arc (Vec Code Global) Global)
    → fits own frame (code.Call r verb args) ≡ (fits own frame r.value × fits_all own (after own (tree_of_code r.value) frame) args.value.items)
fits-Call own frame r verb args = ap (λ A. fits own frame r.value × A) (fits_of_row own (after own (tree_of_code r.value) frame) args.value)

pub fits-List : (own : Bool) (frame : Frame) (items : Arc (Vec Code Global) Global) → fits own frame (code.List items) ≡ fits_all own frame items.value.items
fits-List own frame items = fits_of_row own frame items.value

pub fits-Hide : (own : Bool) (frame : Frame) (body : Arc (Vec Code Global) Global) → fits own frame (code.Hide body) ≡ fits_all false frame body.value.items
fits-Hide own frame body = fits_of_row false frame body.value

pub fits-If : (own : Bool) (frame : Frame) (c : Arc Code Global) (first second : Arc (Vec Code Global) Global)
    → fits own frame (code.If c first second) ≡ (fits own frame c.value × fits_all false (after own (tree_of_code c.value) frame) first.value.items × fits_all false (after own (tree_of_code c.value) frame) second.value.items)
fits-If own frame c first second =
    λ i. fits own frame c.value × fits_of_row false (after own (tree_of_code c.value) frame) first.value i × fits_of_row false (after own (tree_of_code c.value) frame) second.value i

pub fits-While : (own : Bool) (frame : Frame) (c : Arc Code Global) (body : Arc (Vec Code Global) Global)
    → fits own frame (code.While c body) ≡ (fits own frame c.value × fits_all false (after own (tree_of_code c.value) frame) body.value.items)
fits-While own frame c body = ap (λ A. fits own frame c.value × A) (fits_of_row false (after own (tree_of_code c.value) frame) body.value)

pub fits-For : (own : Bool) (frame : Frame) (p : Pattern) (e : Arc Code Global) (body : Arc (Vec Code Global) Global)
    → fits own frame (code.For p e body) ≡ (fits own frame e.value × fits_all false (after own (tree_of_code e.value) frame ++ only_names (name_of p)) body.value.items)
fits-For own frame p e body = ap (λ A. fits own frame e.value × A) (fits_of_row false (after own (tree_of_code e.value) frame ++ only_names (name_of p)) body.value)

pub fits-Try : (own : Bool) (frame : Frame) (body : Arc (Vec Code Global) Global) (p : Pattern) (handler : Arc (Vec Code Global) Global)
    → fits own frame (code.Try body p handler) ≡ (fits_all false frame body.value.items × fits_all false (frame ++ only_names (name_of p)) handler.value.items)
fits-Try own frame body p handler = λ i. fits_of_row false frame body.value i × fits_of_row false (frame ++ only_names (name_of p)) handler.value i

pub fits-Object : (own : Bool) (frame : Frame) (p : Pattern) (captured : Arc (Vec Capture Global) Global) (ms : Arc (Vec MethodCode Global) Global) (index : Option (Arc MethodIndex Global))
    → fits own frame (code.Object p captured ms index)
    ≡ ((captured_names_of captured.value.items ≡ captures p (methods_of_codes ms.value.items)) × all_placed frame captured.value.items × fits_methods (captured_names_of captured.value.items ++ only_names (name_of p)) ms.value.items × index_fits (index_in index) (methods_of_codes ms.value.items))
fits-Object own frame p captured ms index =
    λ i. (captured_names_of captured.value.items ≡ captures p (methods_row ms.value i)) × all_placed frame captured.value.items × fits_of_method_row (captured_names_of captured.value.items ++ only_names (name_of p)) ms.value i × index_fits (index_in index) (methods_row ms.value i)

pub fits-Escape : (own : Bool) (frame : Frame) (x : List ℕ) (body : Arc (Vec Code Global) Global) → fits own frame (code.Escape x body) ≡ fits_all false (frame ++ x ∷ []) body.value.items
fits-Escape own frame x body = fits_of_row false (frame ++ x ∷ []) body.value

pub fits-Send : (own : Bool) (frame : Frame) (r : Arc Code Global) (verb : List ℕ) (args : Arc (Vec Code Global) Global)
    → fits own frame (code.Send r verb args) ≡ (fits own frame r.value × fits_all own (after own (tree_of_code r.value) frame) args.value.items)
fits-Send own frame r verb args = ap (λ A. fits own frame r.value × A) (fits_of_row own (after own (tree_of_code r.value) frame) args.value)

pub fits-When : (own : Bool) (frame : Frame) (e : Arc Code Global) (captured : Arc (Vec Capture Global) Global) (body : Arc (Vec Code Global) Global)
    → fits own frame (code.When e captured body)
    ≡ (fits own frame e.value × (captured_names_of captured.value.items ≡ when_captures (trees_of_codes body.value.items) pattern.Ignore none) × all_placed (after own (tree_of_code e.value) frame) captured.value.items × fits_all false (captured_names_of captured.value.items) body.value.items)
fits-When own frame e captured body =
    λ i. fits own frame e.value × (captured_names_of captured.value.items ≡ when_captures (trees_row body.value i) pattern.Ignore none) × all_placed (after own (tree_of_code e.value) frame) captured.value.items × fits_of_row false (captured_names_of captured.value.items) body.value i

pub fits-WhenCatch : (own : Bool) (frame : Frame) (e : Arc Code Global) (captured : Arc (Vec Capture Global) Global) (body : Arc (Vec Code Global) Global) (p : Pattern) (handler : Arc (Vec Code Global) Global)
    → fits own frame (code.WhenCatch e captured body p handler)
    ≡ (fits own frame e.value × (captured_names_of captured.value.items ≡ when_captures (trees_of_codes body.value.items) p (trees_of_codes handler.value.items)) × all_placed (after own (tree_of_code e.value) frame) captured.value.items × fits_all false (captured_names_of captured.value.items) body.value.items × fits_all false (captured_names_of captured.value.items ++ only_names (name_of p)) handler.value.items)
fits-WhenCatch own frame e captured body p handler =
    λ i. fits own frame e.value × (captured_names_of captured.value.items ≡ when_captures (trees_row body.value i) p (trees_row handler.value i)) × all_placed (after own (tree_of_code e.value) frame) captured.value.items × fits_of_row false (captured_names_of captured.value.items) body.value i × fits_of_row false (captured_names_of captured.value.items ++ only_names (name_of p)) handler.value i
