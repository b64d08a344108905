-- What births, questions and messages on their way touch and write.
use Rattle.std.proofs.Common.{◌≡◌, ℕ, List, [], ◌∷◌, ◌++◌, map, Option, Some, refl, sym, ap, ap₂, ◌∙◌, append_assoc}
use Rattle.history.specs.Records.{Record}
use Rattle.ids.specs.declared.names.EventName.{EventName}
use Rattle.ids.specs.declared.names.VatNo.{VatNo}
use Rattle.ids.specs.declared.names.MsgId.{MsgId}
use Rattle.ids.specs.declared.names.PromId.{PromId}
use Rattle.ids.specs.declared.cells.CellKey.{CellKey}
use Rattle.ids.specs.declared.cells.CellKey.TheVariants as key
use Rattle.kernele.specs.Tree.{Name, Trees}
use Rattle.kernele_scopes.specs.Scope.{own_names_in}
use Rattle.post.specs.Messages.{Vat, Message}
use Rattle.world_cells.specs.World.{Content, vat, message}
use Rattle.world_cells.specs.Theory.{cells}
use Rattle.event.specs.Events.{birth_foot, ask_foot, moved_foot, first_message, known_as, opening_message, asked_message}
use Rattle.event.specs.Effects.{Brings, known_by}
use Rattle.event.proofs.Leaving.{brings_once}

-- earlier vats by their numbers are those vats
known_same : (xs : List Name) (vs : List Vat) → known_by xs (map (λ v. v.number) vs) ≡ known_as xs vs
known_same [] vs = refl
known_same (x ∷ xs) [] = refl
known_same (x ∷ xs) (v ∷ vs) = ap (λ ys. record { name = x; opening = record { event = v.number.0; index = 0; home = v.number } } ∷ ys) (known_same xs vs)

pub earlier_same : (xs : List Name) (vs : List Vat) (ns : List VatNo) → map (λ v. v.number) vs ≡ ns → known_by xs ns ≡ known_as xs vs
earlier_same xs vs ns h = ap (known_by xs) (sym h) ∙ known_same xs vs

abbrev Kept : Type 0
Kept = CellKey × (Option Content × Option ℕ)

-- a birth: two cells behind the names of the earlier vats
pub birth_brings : (e : EventName) (x : Name) (xs : List Name) (vs : List Vat) (ts : Trees) (names one two : List CellKey) (kept : Record cells) (first second : Kept) (g : Message)
    → names ≡ map key.Name xs → one ≡ names ++ key.Name x ∷ [] → two ≡ one ++ key.Msg (first_message e) ∷ [] → kept ≡ first ∷ second ∷ []
    → first ≡ (key.Name x, (Some (vat (record { number = record { 0 = e }; earlier = xs; tops = own_names_in ts })), Some e.0))
    → second ≡ (key.Msg (first_message e), (Some (message g), Some e.0)) → g ≡ opening_message e (known_as xs vs) ts
    → Brings e (birth_foot e x xs vs ts) two kept
birth_brings e x xs vs ts names one two kept first second g n h k r f s is =
    brings_once e (map key.Name xs) (birth_foot e x xs vs ts).writes two kept ((refl, tt), (tt, tt))
    (k ∙ ap (λ l. l ++ key.Msg (first_message e) ∷ []) (h ∙ ap (λ l. l ++ key.Name x ∷ []) n) ∙ append_assoc (map key.Name xs) (key.Name x ∷ []) (key.Msg (first_message e) ∷ []))
    (r ∙ ap₂ (λ a b. a ∷ b ∷ []) f (s ∙ ap (λ (y : Message). (key.Msg (first_message e), (Some (message y), Some e.0))) is))

-- a question: one cell behind the vat's name
pub ask_brings : (e : EventName) (x : Name) (v : VatNo) (ts : Trees) (touched : List CellKey) (kept : Record cells) (first : Kept) (g : Message)
    → touched ≡ key.Name x ∷ key.Msg (first_message e) ∷ [] → kept ≡ first ∷ [] → first ≡ (key.Msg (first_message e), (Some (message g), Some e.0)) → g ≡ asked_message e v ts
    → Brings e (ask_foot e x v ts) touched kept
ask_brings e x v ts touched kept first g t r f is =
    brings_once e (key.Name x ∷ []) (ask_foot e x v ts).writes touched kept (tt, tt) t (r ∙ ap (λ a. a ∷ []) (f ∙ ap (λ (y : Message). (key.Msg (first_message e), (Some (message y), Some e.0))) is))

-- a message on its way: its cell behind the publications that were looked at
pub move_brings : (e : EventName) (m : MsgId) (g : Message) (ps : List PromId) (board touched : List CellKey) (kept : Record cells) (first : Kept)
    → board ≡ map key.Board ps → touched ≡ board ++ key.Msg m ∷ [] → kept ≡ first ∷ [] → first ≡ (key.Msg m, (Some (message g), Some e.0)) → Brings e (moved_foot (map key.Board ps) m g) touched kept
move_brings e m g ps board touched kept first b t r f =
    brings_once e (map key.Board ps) (moved_foot (map key.Board ps) m g).writes touched kept (tt, tt) (t ∙ ap (λ l. l ++ key.Msg m ∷ []) b) (r ∙ ap (λ a. a ∷ []) f)
