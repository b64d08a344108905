-- What was gone over is all that there is: messages, vats, and the views of a vat.
use Rattle.std.proofs.Common.{◌≡◌, Bool, true, false, ◌&&◌, ◌||◌, cond, List, [], ◌∷◌, map, Option, Some, None, is_some, Contains, Bor, refl, sym, ap, ap₂, subst, ◌∙◌}
use Rattle.std.specs.List.{list_any}
use Rattle.std.specs.BTreeSet.{BTreeSet, contains}
use Rattle.std.specs.Map.{lookup}
use Rattle.std.specs.Map.Iter.{deref_pair}
use Rattle.std.specs.Option.{option_map}
use Rattle.std.specs.Ordering.{is_eq}
use Rattle.std.specs.BTreeMap.{BTreeMap, get}
use Rattle.std.specs.declared.alloc.Global.{Global}
use Rattle.std.specs.declared.vec.Vec.{Vec}
use Rattle.std.proofs.lemmas.Cmp.{back_total, eq_by_cmp_equiv}
use Rattle.std.proofs.lemmas.Map.Views.{list_any-from_Contains}
use Rattle.ids.proofs.Keys.{equal, exact_vats, exact_promises}
use Rattle.ids.specs.Cells.{message_cmp, promise_cmp, vat_cmp}
use Rattle.ids.specs.declared.names.VatNo.{VatNo}
use Rattle.ids.specs.declared.names.MsgId.{MsgId}
use Rattle.ids.specs.declared.names.PromId.{PromId}
use Rattle.ids.specs.declared.cells.CellKey.TheVariants as key
use Rattle.heap.specs.State as heap
use Rattle.heap.specs.State.{State, view_cell, read}
use Rattle.heap.specs.View.{views_of, view_of}
use Rattle.heap.specs.declared.state.View.{View}
use Rattle.post.specs.Messages as post
use Rattle.post.specs.MessageView.{message_of as message_of_code}
use Rattle.post.specs.declared.message.Message.{Message}
use Rattle.world_cells.specs.World.{World, message, message_in, message_of, published_as, vat_state}
use Rattle.world_cells.specs.Listed.{messages_in}
use Rattle.book_agenda.specs.Agendas.{is_open, open_view, can_learn}
use Rattle.book_agenda.specs.Waiting.{how, Indexed}
use Rattle.book_agenda.specs.Ways.{waits_of, waits_in, cues_of, cues_in}
use Rattle.book_agenda.specs.AgendaView.{open_cmp, known_cmp, watcher_cmp, has_open, is_among, is_in, cues_if, cues, is_cue, Watched, NotedIn, Places, NotesViews}
use Rattle.book_agenda.specs.declared.ways.Cue.{Cue}
use Rattle.book_agenda.specs.declared.waiting.Waiting.{Waiting}
use Rattle.book_agenda.specs.declared.agenda.Watcher.{Watcher}
use Rattle.book_agenda.specs.declared.agenda.Open.{Open}
use Rattle.book_agenda.specs.declared.agenda.Known.{Known}
use Rattle.book_agenda.specs.declared.agenda.Agenda.{Agenda}
use Rattle.book_agenda.proofs.Noting.{watched_by_views}
use Rattle.book_agenda.proofs.Orders.{turned, vat_total, message_total, promise_total}

-- ---- listings

found_listed : {K X : Type 0} (test : K → Bool) (es : List (K × X)) → is_some (lookup test es) ≡ list_any (λ e. test e.0) es
found_listed test [] = refl
found_listed test (e ∷ es) = by (test e.0) (found_listed test es)
  where
    by : (b : Bool) → is_some (lookup test es) ≡ list_any (λ x. test x.0) es → is_some (cond b (Some e.1) (lookup test es)) ≡ (b || list_any (λ x. test x.0) es)
    by true h = refl
    by false h = h

-- a test of what is mapped
pub any_mapped : {A B : Type 0} (test : B → Bool) (f : A → B) (xs : List A) → list_any test (map f xs) ≡ list_any (λ x. test (f x)) xs
any_mapped test f [] = refl
any_mapped test f (x ∷ xs) = ap (λ b. test (f x) || b) (any_mapped test f xs)

any_alike : {A : Type 0} (p q : A → Bool) → ((a : A) → p a ≡ q a) → (xs : List A) → list_any p xs ≡ list_any q xs
any_alike p q h [] = refl
any_alike p q h (x ∷ xs) = ap₂ (λ a b. a || b) (h x) (any_alike p q h xs)

-- ---- all messages

some_message : (o : Option Message) → is_some (message_in (option_map (λ g. message (message_of_code g)) o)) ≡ is_some o
some_message None = refl
some_message (Some g) = refl

pub all_messages : (w : World) (all : BTreeMap MsgId Message) (seen : List (Bor MsgId × Bor Message)) → map deref_pair seen ≡ all.entries → ((m : MsgId) → messages_in all m ≡ w (key.Msg m))
    → (m : MsgId) → list_any (λ e. is_eq (message_cmp e.0.now m)) seen ≡ is_some (message_of w m)
all_messages w all seen whole listed m =
    any_alike (λ e. is_eq (message_cmp e.0.now m)) (λ e. is_eq (message_cmp m e.0.now)) (λ e. turned message_total e.0.now m) seen
    ∙ sym (any_mapped (λ e. is_eq (message_cmp m e.0)) deref_pair seen)
    ∙ ap (list_any (λ e. is_eq (message_cmp m e.0))) whole
    ∙ sym (found_listed (λ k. is_eq (message_cmp m k)) all.entries)
    ∙ sym (some_message (get message_cmp all m))
    ∙ ap (λ x. is_some (message_in x)) (listed m)

-- ---- all vats that have a state

pub among : (vats : List VatNo) (v : VatNo) → Contains vats v → is_among vats v ≡ true
among vats v h = list_any-from_Contains (eq_by_cmp_equiv (back_total vat_total)) v vats h

pub all_vats : (w : World) (vats : List VatNo) → ((v : VatNo) (c : heap.Cell) → is_some (vat_state w v c) ≡ true → Contains vats v) → (p : PromId) (v : VatNo)
    → (is_among vats v && is_some (vat_state w v (view_cell p))) ≡ is_some (vat_state w v (view_cell p))
all_vats w vats listed p v = by (is_some (vat_state w v (view_cell p))) (λ h. among vats v (listed v (view_cell p) h))
  where
    by : (b : Bool) → (b ≡ true → is_among vats v ≡ true) → (is_among vats v && b) ≡ b
    by true h = ap (λ a. a && true) (h refl)
    by false h = none (is_among vats v)
      where
        none : (a : Bool) → (a && false) ≡ false
        none true = refl
        none false = refl

-- ---- all views of a vat

-- of the vat itself
at_vat_only : (w : World) (v u : VatNo) (p : PromId) (b : Bool) → b ≡ is_some (vat_state w v (view_cell p)) → (is_eq (vat_cmp v u) && b) ≡ (is_eq (vat_cmp v u) && is_some (vat_state w u (view_cell p)))
at_vat_only w v u p b h = by (is_eq (vat_cmp v u)) refl
  where
    by : (s : Bool) → is_eq (vat_cmp v u) ≡ s → (s && b) ≡ (s && is_some (vat_state w u (view_cell p)))
    by true e = h ∙ ap (λ x. is_some (vat_state w x (view_cell p))) (exact_vats v u (equal (vat_cmp v u) e))
    by false e = refl

some_view : (o : Option View) → is_some (option_map (λ k. heap.viewed (view_of k)) o) ≡ is_some o
some_view None = refl
some_view (Some k) = refl

pub all_views : (w : World) (v : VatNo) (s : State) (views : BTreeMap PromId View) (seen : List (Bor PromId × Bor View)) → map deref_pair seen ≡ views.entries → s ≡ vat_state w v → ((p : PromId) → views_of views p ≡ read s (view_cell p))
    → (p : PromId) (u : VatNo) → (is_eq (vat_cmp v u) && list_any (λ e. is_eq (promise_cmp e.0.now p)) seen) ≡ (is_eq (vat_cmp v u) && is_some (vat_state w u (view_cell p)))
all_views w v s views seen whole there listed p u =
    at_vat_only w v u p _ (any_alike (λ e. is_eq (promise_cmp e.0.now p)) (λ e. is_eq (promise_cmp p e.0.now)) (λ e. turned promise_total e.0.now p) seen
    ∙ sym (any_mapped (λ e. is_eq (promise_cmp p e.0)) deref_pair seen)
    ∙ ap (list_any (λ e. is_eq (promise_cmp p e.0))) whole
    ∙ sym (found_listed (λ k. is_eq (promise_cmp p k)) views.entries)
    ∙ sym (some_view (get promise_cmp views p))
    ∙ ap is_some (listed p)
    ∙ ap (λ (t : State). is_some (t (view_cell p))) there)

-- a vat without a state has none
pub no_views_there : (w : World) (v : VatNo) → vat_state w v ≡ heap.nothing → (p : PromId) (u : VatNo) → (is_eq (vat_cmp v u) && is_some (vat_state w u (view_cell p))) ≡ false
no_views_there w v absent p u = sym (at_vat_only w v u p false (sym (ap (λ (t : State). is_some (t (view_cell p))) absent))) ∙ none (is_eq (vat_cmp v u))
  where
    none : (a : Bool) → (a && false) ≡ false
    none true = refl
    none false = refl

-- ---- an agenda with notes of all

waiting_there : (w : World) (o : Option post.Message) → cond (is_some o) (waits_of w o) None ≡ waits_of w o
waiting_there w None = refl
waiting_there w (Some g) = refl

cues_there : (w : World) (o : Option post.Message) → cond (is_some o) (cues_of w o) [] ≡ cues_of w o
cues_there w None = refl
cues_there w (Some g) = refl

open_there : (o : Option heap.Content) → cond (is_some o) (is_open o) false ≡ is_open o
open_there None = refl
open_there (Some x) = refl

learnt_there : (o : Option heap.Content) (b : Bool) → cond (is_some o) (is_open o && b) false ≡ (is_open o && b)
learnt_there None b = refl
learnt_there (Some x) b = refl

-- nothing is listed in an agenda that is new
pub none_watched : (a : Agenda) → a.watchers.keys ≡ [] → ((m : MsgId) → cues a m ≡ []) → Watched a
none_watched a watchers none c m =
    let x : Watcher = record { cue = c; message = m } in
    ap (list_any (λ k. is_eq (watcher_cmp x k))) watchers ∙ ap (λ cs. is_cue cs c) (sym (none m))

pub none_told : (a : Agenda) → a.cues.entries ≡ [] → (m : MsgId) → cues a m ≡ []
none_told a none m = ap (λ es. cues_if (lookup (λ k. is_eq (message_cmp m k)) es)) none

pub noted_all : (w : World) (a b d : Agenda) → ((m : MsgId) → how a.waiting m ≡ None) → Indexed a.waiting → a.watchers.keys ≡ [] → a.cues.entries ≡ [] → a.open.keys ≡ [] → a.known.keys ≡ []
    → Places w (λ m. is_some (message_of w m)) a b → NotesViews w (λ p v. is_some (vat_state w v (view_cell p))) b d → NotedIn w d
noted_all w a b d waiting indexed watchers tells opens known f g = record {
  messages = λ m. ap (λ (q : Waiting). how q m) g.waits ∙ f.ways m ∙ ap (cond (is_some (message_of w m)) (waits_in w m)) (waiting m) ∙ waiting_there w (message_of w m);
  told = λ m. same_told b d g m ∙ f.told m ∙ ap (cond (is_some (message_of w m)) (cues_in w m)) (none_told a tells m) ∙ cues_there w (message_of w m);
  watched = watched_by_views w (λ p v. is_some (vat_state w v (view_cell p))) b d g (f.watched (none_watched a watchers (none_told a tells)));
  indexed = subst Indexed (sym g.waits) (f.indexed indexed);
  views = λ p v. let o : Open = record { promise = p; vat = v } in g.views p v ∙ ap (cond (is_some (vat_state w v (view_cell p))) (open_view w p v)) (ap (λ (s : BTreeSet Open). contains open_cmp s o) f.opens ∙ ap (list_any (λ k. is_eq (open_cmp o k))) opens) ∙ open_there (vat_state w v (view_cell p));
  learns = λ v p. let k : Known = record { vat = v; promise = p } in g.learns v p ∙ ap (cond (is_some (vat_state w v (view_cell p))) (can_learn w v p)) (ap (λ (s : BTreeSet Known). contains known_cmp s k) f.knows ∙ ap (list_any (λ j. is_eq (known_cmp k j))) known) ∙ learnt_there (vat_state w v (view_cell p)) (is_some (published_as w p));
}
  where
    same_told : (b d : Agenda) → NotesViews w (λ p v. is_some (vat_state w v (view_cell p))) b d → (m : MsgId) → cues d m ≡ cues b m
    same_told b d g m = ap (λ (s : BTreeMap MsgId (Vec Cue Global)). cues_if (get message_cmp s m)) g.tells

-- ---- what is read of a vat's view

pub open_seen : (w : World) (v : VatNo) (p : PromId) (s : State) → s ≡ vat_state w v → (x : Option heap.Content) → s (view_cell p) ≡ x → is_open x ≡ open_view w p v
open_seen w v p s there x seen = ap is_open (sym seen ∙ ap (λ (t : State). t (view_cell p)) there)

-- ---- what a loop has gone over

pub seen_all : (seen vats : List VatNo) → map (λ v. v) seen ≡ vats → (v : VatNo) → is_among seen v ≡ is_among vats v
seen_all seen vats whole v = sym (any_mapped (λ u. is_eq (vat_cmp u v)) (λ u. u) seen) ∙ ap (λ l. is_among l v) whole

pub seen_messages : (seen names : List MsgId) → map (λ m. m) seen ≡ names → (m : MsgId) → is_in seen m ≡ is_in names m
seen_messages seen names whole m = sym (any_mapped (λ n. is_eq (message_cmp n m)) (λ n. n) seen) ∙ ap (λ l. is_in l m) whole

-- the vats in whose views a promise is open, for the promise itself
pub open_at : (a : Agenda) (p : PromId) (seen : List VatNo) → ((v : VatNo) → is_among seen v ≡ has_open a p v) → (q : PromId) (v : VatNo) → (is_eq (promise_cmp p q) && is_among seen v) ≡ (is_eq (promise_cmp p q) && has_open a q v)
open_at a p seen h q v = by (is_eq (promise_cmp p q)) refl
  where
    by : (b : Bool) → is_eq (promise_cmp p q) ≡ b → (b && is_among seen v) ≡ (b && has_open a q v)
    by true e = h v ∙ ap (λ x. has_open a x v) (exact_promises p q (equal (promise_cmp p q) e))
    by false e = refl
