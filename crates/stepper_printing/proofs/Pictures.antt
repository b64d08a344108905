-- A world that is sorted, and its text.
use Rattle.std.proofs.Common.{◌≡◌, ℕ, List, [], ◌∷◌, ◌++◌, sym, ap, subst, ◌∙◌, append_assoc, append-nil}
use Rattle.std.specs.BTreeMap.{BTreeMap, IsOrdered}
use Rattle.ids.specs.Cells.{message_cmp, promise_cmp}
use Rattle.ids.specs.declared.cells.CellKey.TheVariants as key
use Rattle.ids.specs.declared.names.VatNo.{VatNo}
use Rattle.ids.specs.declared.names.MsgId.{MsgId}
use Rattle.ids.specs.declared.names.PromId.{PromId}
use Rattle.kernele.specs.Tree.{Name}
use Rattle.post.specs.MessageView.{message_of, published_of}
use Rattle.post.specs.declared.message.Message.{Message}
use Rattle.post.specs.declared.published.Published.{Published}
use Rattle.world_cells.specs.Listed as listed
use Rattle.world_cells.specs.World.{World, message, published}
use Rattle.stepper_printing.specs.Show.{Lists, VatLines, vat_lines_more, vat_line}
use Rattle.stepper_printing.specs.ShowView.{messages_in, board_in}
use Rattle.stepper_printing.specs.PictureView.{held_text, home_text, homes_text, IsHome}
use Rattle.stepper_printing.specs.declared.picture.VatHome.{VatHome}
use Rattle.stepper_printing.proofs.Listings.{lists_along, entries_list}

-- the messages of a world are listed
pub messages_listed : (w : World) (m : BTreeMap MsgId Message) → ((g : MsgId) → listed.messages_in m g ≡ w (key.Msg g)) → IsOrdered message_cmp m → Lists message_cmp (λ g. w (key.Msg g)) (messages_in m)
messages_listed w m same h = lists_along message_cmp _ _ (messages_in m) same (entries_list message_cmp (λ g. message (message_of g)) m h)

-- so is what was published
pub board_listed : (w : World) (m : BTreeMap PromId Published) → ((p : PromId) → listed.board_in m p ≡ w (key.Board p)) → IsOrdered promise_cmp m → Lists promise_cmp (λ p. w (key.Board p)) (board_in m)
board_listed w m same h = lists_along promise_cmp _ _ (board_in m) same (entries_list promise_cmp (λ p. published (published_of p)) m h)

homes_text-append : (hs : List VatHome) (h : VatHome) → homes_text (hs ++ h ∷ []) ≡ homes_text hs ++ home_text h
homes_text-append [] h = append-nil (home_text h)
homes_text-append (g ∷ hs) h = ap (λ t. home_text g ++ t) (homes_text-append hs h) ∙ sym (append_assoc (home_text g) (homes_text hs) (home_text h))

-- before the first vat
pub homes_none : (w : World) (vs rest : List (VatNo × Name)) (hs : List VatHome) (lines : List ℕ) → hs ≡ [] → rest ≡ vs → VatLines w rest lines → VatLines w vs (homes_text hs ++ lines)
homes_none w vs rest hs lines none same h = subst (λ zs. VatLines w vs (homes_text zs ++ lines)) (sym none) (subst (λ zs. VatLines w zs lines) same h)

home_lines : (w : World) (v : VatNo) (x : Name) (h : VatHome) (vs : List (VatNo × Name)) (lines : List ℕ) → IsHome w v x h → VatLines w vs lines → VatLines w ((v, x) ∷ vs) (home_text h ++ lines)
home_lines w v x h vs lines is more =
    subst (VatLines w ((v, x) ∷ vs)) (sym (append_assoc (vat_line h.number h.name) (held_text h.held) lines))
    (subst (λ u. VatLines w ((v, x) ∷ vs) (vat_line u h.name ++ (held_text h.held ++ lines))) (sym is.number)
    (subst (λ y. VatLines w ((v, x) ∷ vs) (vat_line v y ++ (held_text h.held ++ lines))) (sym is.name) (vat_lines_more is.lines more)))

-- one vat more
pub homes_more : (w : World) (vs rest next : List (VatNo × Name)) (v : VatNo) (x : Name) (hs now : List VatHome) (h : VatHome) → now ≡ hs ++ h ∷ [] → IsHome w v x h → rest ≡ (v, x) ∷ next → (lines : List ℕ) → VatLines w next lines
    → ((more : List ℕ) → VatLines w rest more → VatLines w vs (homes_text hs ++ more)) → VatLines w vs (homes_text now ++ lines)
homes_more w vs rest next v x hs now h same is cut lines more before =
    subst (VatLines w vs) (sym (ap (λ zs. homes_text zs ++ lines) same ∙ ap (λ t. t ++ lines) (homes_text-append hs h) ∙ append_assoc (homes_text hs) (home_text h) lines))
    (before (home_text h ++ lines) (subst (λ zs. VatLines w zs (home_text h ++ lines)) (sym cut) (home_lines w v x h next lines is more)))
