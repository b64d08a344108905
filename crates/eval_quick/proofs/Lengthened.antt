-- Assignments that make longer what a variable holds.
use Rattle.std.proofs.Common.{arith, ◌≡◌, ℕ, ◌-◌, ◌+◌, ◌<◌, ◌≤◌, List, [], ◌∷◌, Bool, true, false, Option, Some, None, IfSome, Bor, refl, sym, ap, ◌∙◌, subst}
use Rattle.ids.specs.declared.names.SlotId.{SlotId}
use Rattle.kernele.specs.Tree.{Name, Tree, null_tree, bool_tree, text_tree, noun, call, assign, none, and_then}
use Rattle.code.specs.View.{tree_of_code, trees_of_codes}
use Rattle.std.proofs.Common.{append-nil}
use Rattle.code.specs.Frames.{Frame, behind, after, fits_all}
use Rattle.code.specs.declared.code.Code.{Code}
use Rattle.eval_rules.specs.Fits.{all_fit_at, frame_at, frame_behind}
use Rattle.values.specs.Data.{Val, null, bool, no_vals, and_val, gives}
use Rattle.values.specs.Replies.{data_reply, text_reply}
use Rattle.values.specs.View.{val_of}
use Rattle.values.specs.declared.value.Value.{Value}
use Rattle.heap.specs.State.{slot, slot_cell, held, read}
use Rattle.heap.specs.Drafts.{draft_of, counts_of, began_with, touched_of, written_of}
use Rattle.heap.specs.Growing.{SlotGrew, SlotGrows}
use Rattle.heap.specs.Drafted.{Drafted}
use Rattle.eval_rules.specs.At.{At}
use Rattle.eval_rules.specs.View.{at}
use Rattle.eval_rules.specs.declared.working.Working.{Working}
use Rattle.eval_objects.proofs.Drafted.{drafted, drafted_put}
use Rattle.eval_rules.specs.Outcomes.{value, reply_end}
use Rattle.eval_rules.specs.Rules.{put, slot_in, sought_slot, seeking, slot_put, assigned_end, Ends, Runs, at_node, run_null, run_bool, run_text, run_assign}
use Rattle.eval_rules.proofs.Steps.{runs_as, runs_to}
use Rattle.eval_objects.specs.Finding.{StandsAtHand}
use Rattle.eval_quick.specs.Leaves.{GivesAtHand, Leaf, AtHand, Lengthens, RanOrNot}
use Rattle.eval_quick.proofs.Leaves.{slot_at_hand, leaf_of_noun, leaf_call, seeking_left, thrice, fourth}

-- a call on leaves of any kind
call_of_leaves : (a : At) {r t : Tree} {verb : Name} {u m v : Val} → Leaf a r u → Leaf a t m → data_reply u verb (and_val m no_vals) ≡ gives v → AtHand a (call r verb (and_then t none)) 3 v
call_of_leaves a {r = r} {t = t} {verb = verb} {v = v} left right h = λ k n deep some.
    subst (λ m. Ends k (call r verb (and_then t none)) (record a { left = n }) (value v) (record a { left = m })) (thrice n)
    (at_node (omega (arith, some)) (omega (arith, deep)) (leaf_call (record a { left = n - 1 }) left right (omega (arith, some)) deep h))

-- an assignment of a value that is at hand
assigned_at_hand : (a : At) {x : Name} {t : Tree} {k : ℕ} {v : Val} {i : SlotId} → AtHand a t 3 v → 4 ≤ a.left → k < 999 → StandsAtHand x (slot i) a
    → Ends k (assign x t) a (value v) (record (put (slot_cell i) (held v) a) { left = a.left - 4 })
assigned_at_hand a {x = x} {t = t} {k = k} {v = v} {i = i} right enough deep there =
    let b : At = record a { left = a.left - 1 - 3 } in
    let found : sought_slot x a ≡ Some i = ap slot_in there.0 in
    let sought : seeking x b ≡ b = seeking_left x b.left a ∙ ap (λ (z : At). record z { left = b.left }) there.1 in
    at_node (omega (arith, enough)) (omega (arith, deep))
    (runs_to (run_assign (right (k + 1) (a.left - 1) (omega (arith, deep)) (omega (arith, enough))))
    (sym (ap (assigned_end x (value v)) found))
    (ap (λ n. record (put (slot_cell i) (held v) a) { left = n }) (fourth a.left) ∙ sym (λ j. slot_put v (found j) (sought j))))

-- a noun whose slot holds this is a leaf
slot_leaf : (a : At) (x : Name) (i : SlotId) (v : Val) → StandsAtHand x (slot i) a → a.touched (slot_cell i) ≡ true → read a.state (slot_cell i) ≡ Some (held v) → Leaf a (noun x) v
slot_leaf a x i v stands touched is = leaf_of_noun a x v (slot_at_hand x i v a stands touched is)

-- an assignment that makes its variable's value longer
pub lengthened : (a b : At) {k : ℕ} {x : Name} {t : Tree} {i : SlotId} {verb : Name} {more : Val} (old new : Val) → Lengthens a x t i verb more → a.touched (slot_cell i) ≡ true → read a.state (slot_cell i) ≡ Some (held old)
    → data_reply old verb (and_val more no_vals) ≡ gives new → 4 ≤ a.left → k < 999 → b ≡ record (put (slot_cell i) (held new) a) { left = a.left - 4 }
    → (v : Val) × Ends k (assign x t) a (value v) b
lengthened a b {k = k} {x = x} {t = t} {i = i} old new l touched is h enough deep to = (
  new,
  subst (λ c. Ends k (assign x t) a (value new) c) (sym to)
      (assigned_at_hand a (subst (λ t. AtHand a t 3 new) (sym l.is) (call_of_leaves a (slot_leaf a x i old l.stands touched is) l.given h)) enough deep l.stands),
)

-- literals are leaves
pub null_leaf : (a : At) (e : Code) → tree_of_code e ≡ null_tree → Leaf a (tree_of_code e) null
null_leaf a e is = λ k n. subst (λ t. Runs k t (record a { left = n }) (value null) (record a { left = n })) (sym is) run_null

pub bool_leaf : (a : At) (e : Code) (b : Bool) → tree_of_code e ≡ bool_tree b → Leaf a (tree_of_code e) (bool b)
bool_leaf a e b is = λ k n. subst (λ t. Runs k t (record a { left = n }) (value (bool b)) (record a { left = n })) (sym is) run_bool

pub text_leaf : (a : At) (e : Code) (s : Name) (v : Val) → tree_of_code e ≡ text_tree s → gives v ≡ text_reply s → Leaf a (tree_of_code e) v
text_leaf a e s v is h = λ k n. subst (λ t. Runs k t (record a { left = n }) (value v) (record a { left = n })) (sym is) (runs_as run_text (ap reply_end h))

-- what was run gave a value, and else nothing has changed
pub ran : {r : Bool} {k : ℕ} {t : Tree} {a b : At} → RanOrNot r k t a b → r ≡ true → (v : Val) × Ends k t a (value v) b
ran {k = k} {t = t} {a = a} {b = b} h e = subst (λ r. RanOrNot r k t a b) e h

pub ran_not : {r : Bool} (k : ℕ) (t : Tree) {a b : At} → RanOrNot r k t a b → r ≡ false → b ≡ a
ran_not k t {a = a} {b = b} h e = subst (λ r. RanOrNot r k t a b) e h

-- what a slot that was touched holds is at hand
pub slot_gives : (r : Option (Bor Value)) (x : Name) (i : SlotId) (a : At) → StandsAtHand x (slot i) a → IfSome r (λ v. a.touched (slot_cell i) ≡ true) → IfSome r (λ v. read a.state (slot_cell i) ≡ Some (held (val_of v.now)))
    → IfSome r (λ v. GivesAtHand x (val_of v.now) a)
slot_gives None x i a h touched content = tt
slot_gives (Some v) x i a h touched content = slot_at_hand x i (val_of v.now) a h touched content

-- a slot that grew, and one that did not
pub slot_grew : {r : Bool} {i : SlotId} {verb : Name} {more : Val} {d e : Drafted} → SlotGrows r i verb more d e → r ≡ true → SlotGrew i verb more d e
slot_grew {i = i} {verb = verb} {more = more} {d = d} {e = e} h p = subst (λ r. SlotGrows r i verb more d e) p h

pub slot_stayed : {r : Bool} (i : SlotId) (verb : Name) (more : Val) {d e : Drafted} → SlotGrows r i verb more d e → r ≡ false → e ≡ d
slot_stayed i verb more {d = d} {e = e} h p = subst (λ r. SlotGrows r i verb more d e) p h

-- where the program stands then
pub grown_at : (w : Working) (e : Drafted) (b : At) {k : ℕ} {x : Name} {t : Tree} {i : SlotId} {verb : Name} {more : Val} → Lengthens (at w) x t i verb more → SlotGrew i verb more w.draft e → counts_of e ≡ counts_of w.draft → began_with e ≡ began_with w.draft
    → 4 ≤ w.steps → k < 999 → b ≡ drafted (record (at w) { left = w.steps - 4 }) (draft_of e) (counts_of e) (began_with e) (touched_of e) (written_of e) → (v : Val) × Ends k (assign x t) (at w) (value v) b
grown_at w e b {i = i} l g counts began enough deep is =
    lengthened (at w) b g.before g.after l g.touched g.content g.given enough deep
    (is ∙ drafted_put (slot_cell i) (held g.after) (record (at w) { left = w.steps - 4 }) (draft_of e) (counts_of e) (began_with e) (touched_of e) (written_of e) g.state counts began g.cells g.written)

pub stayed_at : (w : Working) (e : Drafted) (b : At) → e ≡ w.draft → b ≡ drafted (at w) (draft_of e) (counts_of e) (began_with e) (touched_of e) (written_of e) → b ≡ at w
stayed_at w e b same is = is ∙ ap (λ d. drafted (at w) (draft_of d) (counts_of d) (began_with d) (touched_of d) (written_of d)) same

-- a noun defines nothing: what fits behind it fits where it stands
behind_none : (own : Bool) (f : Frame) → behind own [] f ≡ f
behind_none true f = refl
behind_none false f = append-nil f

pub noun_fits : (a : At) (e : Code) (x : Name) (es : List Code) → tree_of_code e ≡ noun x → fits_all a.own_scope (frame_behind a e) es → all_fit_at a es
noun_fits a e x es is h = subst (λ f. fits_all a.own_scope f es) (ap (λ t. after a.own_scope t (frame_at a)) is ∙ behind_none a.own_scope (frame_at a)) h

-- a call on a variable with one argument
pub lengthens : (a : At) (r e : Code) (es : List Code) {x verb : Name} {i : SlotId} {more : Val} → (tree_of_code r ≡ noun x) × StandsAtHand x (slot i) a → e ∷ [] ≡ es → Leaf a (tree_of_code e) more
    → Lengthens a x (call (tree_of_code r) verb (trees_of_codes es)) i verb more
lengthens a r e es {verb = verb} h one leaf = record { argument = tree_of_code e; is = λ i. call (h.0 i) verb (trees_of_codes (sym one i)); stands = h.1; given = leaf }
