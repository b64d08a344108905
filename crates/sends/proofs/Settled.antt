-- Settled forms under a turn are those of the map that the views are.
use Rattle.std.proofs.Common.{◌≡◌, ℕ, zero, suc, ◌-◌, Option, Some, None, option_map, List, refl, sym, ap, ◌∙◌, subst}
use Rattle.ids.specs.declared.names.PromId.{PromId}
use Rattle.cells.specs.Doing.{over, Under, play}
use Rattle.values.specs.Data.{Val, list, Vals, no_vals, and_val}
use Rattle.values.specs.Limits.{weight}
use Rattle.values.specs.Replies.{items_in}
use Rattle.heap.specs.State.{Cell, Content, same_cell}
use Rattle.refs.specs.Walks.{Resolutions, walked, followed}
use Rattle.refs.specs.Settling.{Settling, ItemsSettling, and_behind, settle_items, settle_list, settle_end, settle_walk, no_lists, settle_at, settling}
use Rattle.sends.specs.Vats.{Vat, ended, settled_behind, settled_items, settled_list, no_list_settled, settled_end, settled_walk, settled_at, settled}
use Rattle.sends.specs.Playing.{views_in, looked_at}
use Rattle.sends.specs.Laws.{SettledFormsAreThoseOfTheViews}
use Rattle.sends.proofs.Playing.{played, looked_state, looked_on}
use Rattle.sends.proofs.Followed.{ends_are_followed}

-- what was played is this settled form, and these items
abbrev Plays : Vat (Option Val) → Settling → Under Cell Content → Type 0
Plays f s u = play same_cell f u ≡ (s.settled, looked_at s.through u)

abbrev PlaysItems : Vat (Option Vals) → ItemsSettling → Under Cell Content → Type 0
PlaysItems f s u = play same_cell f u ≡ (s.settled, looked_at s.through u)

-- cells whose views are this map
abbrev Has : Resolutions → Under Cell Content → Type 0
Has m u = views_in u.state ≡ m

still : (m : Resolutions) (ps : List PromId) (u : Under Cell Content) → Has m u → Has m (looked_at ps u)
still m ps u e = ap views_in (looked_state ps u) ∙ e

behind : (ps : List PromId) (o : Option Val) (rest : Val → Vat (Option Vals)) (forms : Val → ItemsSettling) (u : Under Cell Content) → ((w : Val) → PlaysItems (rest w) (forms w) (looked_at ps u))
    → play same_cell (settled_behind rest o) (looked_at ps u) ≡ ((and_behind ps o forms).settled, looked_at (and_behind ps o forms).through u)
behind ps None rest forms u h = refl
behind ps (Some w) rest forms u h =
    played (rest w) (λ o. over (option_map (and_val w) o)) (looked_at ps u) (looked_at (forms w).through (looked_at ps u)) (forms w).settled (h w)
    ∙ ap (λ x. (option_map (and_val w) (forms w).settled, x)) (sym (looked_on ps (forms w).through u))

module _ (m : Resolutions) (item : ℕ → Val → Vat (Option Val)) (form : ℕ → Val → Settling) (each : (left : ℕ) (v : Val) (u : Under Cell Content) → Has m u → Plays (item left v) (form left v) u) where
  items_alike : (left : ℕ) (vs : Vals) (u : Under Cell Content) → Has m u → PlaysItems (settled_items item left vs) (settle_items form left vs) u
  items_alike left no_vals u e = refl
  items_alike left (and_val v vs) u e =
      played (item left v) (settled_behind (λ w. settled_items item (left - weight w) vs)) u (looked_at (form left v).through u) (form left v).settled (each left v u e)
      ∙ behind (form left v).through (form left v).settled (λ w. settled_items item (left - weight w) vs) (λ w. settle_items form (left - weight w) vs) u
      (λ w. items_alike (left - weight w) vs (looked_at (form left v).through u) (still m (form left v).through u e))

  list_alike : (left : ℕ) (vs : Vals) (u : Under Cell Content) → Has m u → Plays (settled_list item left vs) (settle_list form left vs) u
  list_alike zero vs u e = refl
  list_alike (suc left) vs u e = played (settled_items item left vs) (λ o. over (option_map list o)) u (looked_at (settle_items form left vs).through u) (settle_items form left vs).settled (items_alike left vs u e)

module _ (m : Resolutions) (lists : ℕ → Vals → Vat (Option Val)) (forms : ℕ → Vals → Settling) (each : (left : ℕ) (vs : Vals) (u : Under Cell Content) → Has m u → Plays (lists left vs) (forms left vs) u) where
  end_alike : (left : ℕ) (w : Val) (o : Option Vals) (u : Under Cell Content) → Has m u → Plays (settled_end lists left w o) (settle_end forms left w o) u
  end_alike left w None u e = refl
  end_alike left w (Some vs) u e = each left vs u e

  walk_alike : (left : ℕ) (v : Val) (u : Under Cell Content) → Has m u → Plays (settled_walk lists left v) (settle_walk m forms left v) u
  walk_alike left v u e =
      let end : play same_cell (ended v) u ≡ (followed m v, looked_at (walked m v) u) = subst (λ (k : Resolutions). play same_cell (ended v) u ≡ (followed k v, looked_at (walked k v) u)) e (ends_are_followed u v) in
      let its : Settling = settle_end forms left (followed m v) (items_in (followed m v)) in
      played (ended v) (λ w. settled_end lists left w (items_in w)) u (looked_at (walked m v) u) (followed m v) end
      ∙ end_alike left (followed m v) (items_in (followed m v)) (looked_at (walked m v) u) (still m (walked m v) u e)
      ∙ ap (λ x. (its.settled, x)) (sym (looked_on (walked m v) its.through u))

forms_alike : (m : Resolutions) (depth left : ℕ) (v : Val) (u : Under Cell Content) → Has m u → Plays (settled_at depth left v) (settle_at m depth left v) u
unfolding settled_at settle_at
forms_alike m zero left v u e = walk_alike m no_list_settled no_lists (λ left vs u e. refl) left v u e
forms_alike m (suc depth) left v u e =
    walk_alike m (settled_list (settled_at depth)) (settle_list (settle_at m depth))
    (λ left vs u e. list_alike m (settled_at depth) (settle_at m depth) (λ left v u e. forms_alike m depth left v u e) left vs u e) left v u e

pub settled_alike : SettledFormsAreThoseOfTheViews
unfolding settled settling
settled_alike u v = forms_alike (views_in u.state) 64 65536 v u refl
