-- How frames grow.
use Rattle.std.proofs.Common.{◌≡◌, ℕ, Bool, true, false, List, [], ◌++◌, length, ap, sym, refl, ◌∙◌, append_assoc, append-nil, take}
use Rattle.std.proofs.Math.Seq.{take-append_seam}
use Rattle.std.proofs.lemmas.List.{map-append}
use Rattle.kernele.specs.Tree.{Name}
use Rattle.kernele_scopes.specs.declared.naming.TopName.{TopName}
use Rattle.code.specs.Frames.{Frame, only_names, behind}

behind-behind : (own : Bool) (xs ys : List Name) (frame : Frame) → behind own ys (behind own xs frame) ≡ behind own (xs ++ ys) frame
behind-behind true xs ys frame = refl
behind-behind false xs ys frame = append_assoc frame xs ys

-- behind no definitions the frame is the same
pub behind-nothing : (own : Bool) (frame : Frame) → behind own [] frame ≡ frame
behind-nothing true frame = refl
behind-nothing false frame = append-nil frame

-- behind definitions and then others it is the one behind them all
pub behind-both : (own : Bool) (xs ys : List TopName) (frame : Frame) → behind own (only_names ys) (behind own (only_names xs) frame) ≡ behind own (only_names (xs ++ ys)) frame
behind-both own xs ys frame = behind-behind own (only_names xs) (only_names ys) frame ∙ ap (λ names. behind own names frame) (sym (map-append (λ (t : TopName). t.name) xs ys))

-- what was added twice is taken away again
pub truncated : {f g h k : Frame} (n : ℕ) (xs ys : List Name) → n ≡ length f → g ≡ f ++ xs → h ≡ g ++ ys → k ≡ take n h → k ≡ f
truncated {f = f} n xs ys outer entered added back = back ∙ (λ i. take (outer i) ((added ∙ ap (λ e. e ++ ys) entered ∙ append_assoc f xs ys) i)) ∙ take-append_seam f (xs ++ ys)
