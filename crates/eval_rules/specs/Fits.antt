-- Code fits the place where it is evaluated.
use Rattle.std.specs.Prelude.{◌≡◌, List, ◌++◌, length, false, Option, IfSome}
use Rattle.std.specs.Option.{option_map}
use Rattle.kernele.specs.Tree.{Name, none}
use Rattle.kernele.specs.declared.tree.Pattern.{Pattern}
use Rattle.kernele.specs.declared.tree.Pattern.TheVariants as pattern_kinds
use Rattle.kernele_scopes.specs.Free.{captures, when_captures}
use Rattle.kernele_scopes.specs.Scope.{name_of, names_of_all}
use Rattle.code.specs.Frames.{Frame, only_names, after, fits, fits_all, fits_methods, all_placed, captured_names_of}
use Rattle.code.specs.Index.{index_fits}
use Rattle.code.specs.declared.code.Capture.{Capture}
use Rattle.code.specs.declared.index.MethodIndex.{MethodIndex}
use Rattle.code.specs.View.{tree_of_code, trees_of_codes, methods_of_codes}
use Rattle.code.specs.declared.code.Code.{Code}
use Rattle.code.specs.declared.code.MethodCode.{MethodCode}
use Rattle.values.specs.View.{vals_of}
use Rattle.values.specs.declared.value.Value.{Value}
use Rattle.heap.specs.State.{frame_of}
use Rattle.eval_rules.specs.At.{At}
use Rattle.eval_rules.specs.Rules.{method_in}

-- the names in scope, the oldest first
abbrev pub frame_at : At → Frame
frame_at a = frame_of a.nouns

-- the names in scope behind code that gave a value
abbrev pub frame_behind : At → Code → Frame
frame_behind a e = after a.own_scope (tree_of_code e) (frame_at a)

-- code fits the names that are in scope
abbrev pub fits_at : At → Code → Type 0
fits_at a e = fits a.own_scope (frame_at a) e

-- the same of code in order
abbrev pub all_fit_at : At → List Code → Type 0
all_fit_at a es = fits_all a.own_scope (frame_at a) es

-- a when, its value and what it captures fit, without a handler
abbrev pub WhenFits : At → Code → List Capture → List Code → Type 0
WhenFits a value cs block =
    fits_at a value × (captured_names_of cs ≡ when_captures (trees_of_codes block) pattern_kinds.Ignore none) × all_placed (frame_behind a value) cs
    × fits_all false (captured_names_of cs) block

-- the same with one, which has a name for the problem
abbrev pub WhenCatchFits : At → Code → List Capture → List Code → Pattern → List Code → Type 0
WhenCatchFits a value cs block p handler =
    fits_at a value × (captured_names_of cs ≡ when_captures (trees_of_codes block) p (trees_of_codes handler)) × all_placed (frame_behind a value) cs
    × fits_all false (captured_names_of cs) block × fits_all false (captured_names_of cs ++ only_names (name_of p)) handler

-- an object, what it captures and its methods fit, and the index, if there is one, is that of its methods
abbrev pub ObjectFits : At → Pattern → List Capture → List MethodCode → Option MethodIndex → Type 0
ObjectFits a p cs ms index =
    (captured_names_of cs ≡ captures p (methods_of_codes ms)) × all_placed (frame_at a) cs
    × fits_methods (captured_names_of cs ++ only_names (name_of p)) ms × index_fits index (methods_of_codes ms)

-- what is found among methods for a verb and arguments: the method that the rules say, if any; it has as many parameters, and its
-- block fits behind them wherever the methods fit
pub record FindsMethod (ms : List MethodCode) (verb : Name) (vs : List Value) (found : Option MethodCode) : Type 0 where
  pub method : option_map (λ m. (m.parameters.value.items, trees_of_codes m.body.value.items)) found ≡ method_in (methods_of_codes ms) verb (vals_of vs)
  pub count : IfSome found (λ m. length vs ≡ length m.parameters.value.items)
  pub fits : IfSome found (λ m. (frame : Frame) → fits_methods frame ms → fits_all false (frame ++ only_names (names_of_all m.parameters.value.items)) m.body.value.items)
