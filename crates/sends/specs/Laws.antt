-- What is done for ends and settled forms, against those of any map from promises to values; and that what is done touches and writes just the
-- cells of its row in the table, by what they hold as it begins.
use Rattle.std.specs.Prelude.{◌≡◌, Bool, List}
use Rattle.ids.specs.declared.names.VatNo.{VatNo}
use Rattle.ids.specs.declared.names.MsgId.{MsgId}
use Rattle.ids.specs.declared.names.PromId.{PromId}
use Rattle.ids.specs.declared.names.ObjId.{ObjId}
use Rattle.ids.specs.declared.reference.Reference.{Reference}
use Rattle.cells.specs.Doing.{Under, play}
use Rattle.eorder.specs.Carried.{Carried}
use Rattle.values.specs.Data.{Val, Vals, Reply}
use Rattle.heap.specs.State.{Cell, Content, same_cell}
use Rattle.refs.specs.Walks.{followed, walked}
use Rattle.refs.specs.Settling.{settling}
use Rattle.sends.specs.Vats.{Vat, ended, settled, leaving, comes_in, coming_in, entered}
use Rattle.sends.specs.Making.{sending, waiting, promising, publishing, resolving, smashing, told, ending}
use Rattle.sends.specs.Playing.{views_in, looked_at}
use Rattle.sends.specs.Table.{HasFoot, end_taken, form_taken, promise_comes, references_come, promise_entered, references_pass, send_touches, when_touches, pair_touches, promise_published, resolve_touches, smash_touches}

-- an end is that of the map that the views are, and touches the views of its walk, and no others
abbrev pub EndsAreFollowed : Type 0
EndsAreFollowed = (u : Under Cell Content) (v : Val) → play same_cell (ended v) u ≡ (followed (views_in u.state) v, looked_at (walked (views_in u.state) v) u)

-- so is a settled form, and it touches the views of its walks
abbrev pub SettledFormsAreThoseOfTheViews : Type 0
SettledFormsAreThoseOfTheViews = (u : Under Cell Content) (v : Val) → play same_cell (settled v) u ≡ ((settling (views_in u.state) v).settled, looked_at (settling (views_in u.state) v).through u)

-- ---- by the table

-- what something that is done gives
abbrev pub given : {R : Type 0} → Vat R → Under Cell Content → R
given d u = (play same_cell d u).0

abbrev pub EndsAreTaken : Type 0
EndsAreTaken = (u : Under Cell Content) (v : Val) → HasFoot (ended v) u (end_taken (views_in u.state) v)

abbrev pub FormsAreTaken : Type 0
FormsAreTaken = (u : Under Cell Content) (v : Val) → HasFoot (settled v) u (form_taken (views_in u.state) v)

abbrev pub PromisesCome : Type 0
PromisesCome = (u : Under Cell Content) (p : PromId) → HasFoot (comes_in p) u (promise_comes u.state p)

abbrev pub ReferencesCome : Type 0
ReferencesCome = (u : Under Cell Content) (c : Carried) (rs : List Reference) → HasFoot (coming_in c rs) u (references_come u.state c rs)

abbrev pub PromisesAreEntered : Type 0
PromisesAreEntered = (u : Under Cell Content) (p : PromId) (v : Val) → HasFoot (entered p v) u (promise_entered u.state p v)

abbrev pub ReferencesPass : Type 0
ReferencesPass = (u : Under Cell Content) (rs : List Reference) → HasFoot (leaving rs) u (references_pass rs)

abbrev pub MessagesAreSent : Type 0
MessagesAreSent = (u : Under Cell Content) (here : VatNo) (m : MsgId) (room : Bool) (result : VatNo → PromId) (v : Val) (vs : Vals)
    → HasFoot (sending here m room result v vs) u (send_touches u.state v vs (given (sending here m room result v vs) u))

abbrev pub WhensAreMade : Type 0
WhensAreMade = (u : Under Cell Content) (room : Bool) (p : PromId) (v : Val) → HasFoot (waiting room p v) u (when_touches u.state room p v)

abbrev pub PairsAreMade : Type 0
PairsAreMade = (u : Under Cell Content) (room : Bool) (p : PromId) (o : ObjId) → HasFoot (promising room p o) u (pair_touches u.state room p o)

abbrev pub ValuesArePublished : Type 0
ValuesArePublished = (u : Under Cell Content) (p : PromId) (v : Val) → HasFoot (publishing p v) u (promise_published u.state p v)

abbrev pub TurnsPublish : Type 0
TurnsPublish = (u : Under Cell Content) (p : PromId) (r : Reply) → HasFoot (ending p r) u (promise_published u.state p (told r))

abbrev pub ResolversResolve : Type 0
ResolversResolve = (u : Under Cell Content) (p : PromId) (v : Val) → HasFoot (resolving p v) u (resolve_touches u.state p v (given (resolving p v) u))

abbrev pub ResolversSmash : Type 0
ResolversSmash = (u : Under Cell Content) (p : PromId) (v : Val) → HasFoot (smashing p v) u (smash_touches u.state p v (given (smashing p v) u))
