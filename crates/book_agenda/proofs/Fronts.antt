-- How messages wait, while one of them waits otherwise: what is listed of them goes together still.
use Rattle.std.proofs.Common.{◌≡◌, Bool, true, false, ◌&&◌, cond, Option, Some, None, ◌⊎◌, inl, inr, ⊎_elim, refl, sym, ap, ap₂, subst, ◌∙◌}
use Rattle.std.specs.BTreeMap.{BTreeMap, get}
use Rattle.std.specs.BTreeSet.{BTreeSet, contains}
use Rattle.std.specs.Ordering.{is_eq, is_lt, is_gt, ordering_reverse}
use Rattle.std.specs.declared.cmp.Ordering.{Ordering}
use Rattle.std.specs.declared.cmp.Ordering.TheVariants.{Less, Equal, Greater}
use Rattle.std.proofs.Math.Logic.{∥∥₁_elim, ∥∥₁_prop}
use Rattle.std.proofs.lemmas.Bool.{false≢true}
use Rattle.std.proofs.lemmas.Cmp.{upto}
use Rattle.std.proofs.lemmas.Option.{none-some, same_Some}
use Rattle.ids.proofs.Keys.{equal, message_self, equal_self, exact_messages, exact_vats}
use Rattle.ids.specs.Cells.{message_cmp, vat_cmp}
use Rattle.ids.specs.declared.names.VatNo.{VatNo}
use Rattle.ids.specs.declared.names.MsgId.{MsgId}
use Rattle.book_agenda.specs.Waiting.{ready_cmp, how, is_ready_at, is_front, ready_by, Headed, Goes, Indexed, FirstAt, Puts, AddsFront, ReplacesFront, GetsReady}
use Rattle.book_agenda.specs.declared.waiting.Waits.{Waits}
use Rattle.book_agenda.specs.declared.waiting.Waits.TheVariants as waits
use Rattle.book_agenda.specs.declared.waiting.Ready.{Ready}
use Rattle.book_agenda.specs.declared.waiting.Waiting.{Waiting}
use Rattle.book_agenda.proofs.Orders.{turned, vat_total, message_total, then_both}

-- ---- ways to wait are told apart

pub not_moving : (v : VatNo) → Some waits.Moving ≡ Some (waits.Ready v) → ⊥
not_moving v e = cc

pub not_behind : (v : VatNo) → Some waits.Behind ≡ Some (waits.Ready v) → ⊥
not_behind v e = cc

not_both : Some waits.Behind ≡ Some waits.Moving → ⊥
not_both e = cc

same_ready : (u v : VatNo) → Some (waits.Ready u) ≡ Some (waits.Ready v) → u ≡ v
same_ready u v e = cc

vat_self : (v : VatNo) → is_eq (vat_cmp v v) ≡ true
vat_self v = ap is_eq (equal_self v.0.0)

-- one that is listed at a vat is ready there
pub ready_there : (v : VatNo) (o : Option Waits) → ready_by v o ≡ true → o ≡ Some (waits.Ready v)
ready_there v None h = absurd (false≢true h)
ready_there v (Some waits.Moving) h = absurd (false≢true h)
ready_there v (Some waits.Behind) h = absurd (false≢true h)
ready_there v (Some (waits.Ready u)) h = ap (λ x. Some (waits.Ready x)) (sym (exact_vats v u (equal (vat_cmp v u) h)))

pub there_ready : (v : VatNo) (o : Option Waits) → o ≡ Some (waits.Ready v) → ready_by v o ≡ true
there_ready v o h = ap (ready_by v) h ∙ vat_self v

-- ---- one message among all

-- what is so of the one and of the others is so of all
each_case : (name : MsgId) (P : MsgId → Type 0) → P name → ((m : MsgId) → is_eq (message_cmp name m) ≡ false → P m) → (m : MsgId) → P m
each_case name P here others m = by (is_eq (message_cmp name m)) refl
  where
    by : (b : Bool) → is_eq (message_cmp name m) ≡ b → P m
    by true e = subst P (exact_messages name m (equal (message_cmp name m) e)) here
    by false e = others m e

-- another one than a message
apart : (name n : MsgId) → (name ≡ n → ⊥) → is_eq (message_cmp name n) ≡ false
apart name n ne = by (is_eq (message_cmp name n)) refl
  where
    by : (b : Bool) → is_eq (message_cmp name n) ≡ b → is_eq (message_cmp name n) ≡ false
    by true e = absurd (ne (exact_messages name n (equal (message_cmp name n) e)))
    by false e = e

module _ (ways : MsgId → Option Waits) (ready : VatNo → MsgId → Bool) (front : MsgId → Bool) (go : Goes ways ready front) (name : MsgId)
    (now : MsgId → Option Waits) (lists : VatNo → MsgId → Bool) (fronts : MsgId → Bool) (o : Option Waits) (puts : (m : MsgId) → now m ≡ cond (is_eq (message_cmp name m)) o (ways m)) where
  here : now name ≡ o
  here = puts name ∙ ap (λ b. cond b o (ways name)) (message_self name)

  there : (m : MsgId) → is_eq (message_cmp name m) ≡ false → now m ≡ ways m
  there m e = puts m ∙ ap (λ b. cond b o (ways m)) e

  -- another one than one that waits otherwise
  other : (n : MsgId) (v : VatNo) → ways n ≡ Some (waits.Ready v) → (ways name ≡ Some (waits.Ready v) → ⊥) → is_eq (message_cmp name n) ≡ false
  other n v h ne = apart name n (λ e. ne (ap ways e ∙ h))

  -- the head of another vat, or that is not the message itself, stays the head
  still : (v : VatNo) (m n : MsgId) → ways n ≡ Some (waits.Ready v) → is_eq (message_cmp name n) ≡ false → fronts n ≡ true → is_gt (message_cmp n m) ≡ false → Headed now fronts v m
  still v m n h e f g = ∣ (n, there n e ∙ h, f, g) ∣₁

  module _ (same_lists : (v : VatNo) (m : MsgId) → lists v m ≡ ready v m) where
    -- lists stay where the message is and was ready nowhere
    listed_same : ((v : VatNo) → ready_by v (ways name) ≡ ready_by v o) → (v : VatNo) (m : MsgId) → lists v m ≡ ready_by v (now m)
    listed_same h v = each_case name (λ m. lists v m ≡ ready_by v (now m))
        (same_lists v name ∙ go.listed v name ∙ h v ∙ ap (ready_by v) (sym here))
        (λ m e. same_lists v m ∙ go.listed v m ∙ ap (ready_by v) (sym (there m e)))

    -- the message is not ready now, and was not: it goes from the fronts, or comes to them, or does neither
    pub unready_still : ((v : VatNo) → ways name ≡ Some (waits.Ready v) → ⊥) → ((v : VatNo) → o ≡ Some (waits.Ready v) → ⊥) → ((v : VatNo) → ready_by v (ways name) ≡ ready_by v o)
        → (o ≡ Some waits.Moving → fronts name ≡ true) → ((m : MsgId) → is_eq (message_cmp name m) ≡ false → front m ≡ true → fronts m ≡ true) → Goes now lists fronts
    unready_still was is same moves keeps = record {
      listed = listed_same same;
      moving = each_case name (λ m. now m ≡ Some waits.Moving → fronts m ≡ true) (λ h. moves (sym here ∙ h)) (λ m e h. keeps m e (go.moving m (sym (there m e) ∙ h)));
      heads = λ m v. each_case name (λ k. now k ≡ Some (waits.Ready v) → Headed now fronts v k)
          (λ h. absurd (is v (sym here ∙ h)))
          (λ k e h. ∥∥₁_elim (go.heads k v (sym (there k e) ∙ h)) ∥∥₁_prop (λ head. let ne = other head.0 v head.1 (was v) in still v k head.0 head.1 ne (keeps head.0 ne head.2) head.3)) m;
    }

  -- the message was ready at a vat, and is not any more: the next one there, if there is one, is a front
  pub left_still : (u : VatNo) → ways name ≡ Some (waits.Ready u) → o ≡ None
      → ((v : VatNo) (m : MsgId) → lists v m ≡ cond (is_eq (ready_cmp (record { vat = u; message = name }) (record { vat = v; message = m }))) false (ready v m))
      → ((m : MsgId) → is_eq (message_cmp name m) ≡ false → front m ≡ true → fronts m ≡ true)
      → ((m : MsgId) → lists u m ≡ true → (n : MsgId) × (lists u n ≡ true) × (fronts n ≡ true) × (is_gt (message_cmp n m) ≡ false))
      → Goes now lists fronts
  left_still u was gone lists_are keeps next = record {
    listed = listed;
    moving = λ m. each_case name (λ k. now k ≡ Some waits.Moving → fronts k ≡ true) (λ h. absurd (none-some waits.Moving (sym gone ∙ sym here ∙ h))) (λ k e h. keeps k e (go.moving k (sym (there k e) ∙ h))) m;
    heads = λ m v h. by m v h (is_eq (vat_cmp u v)) refl;
  }
    where
      split : (v : VatNo) (m : MsgId) → lists v m ≡ cond (is_eq (vat_cmp u v) && is_eq (message_cmp name m)) false (ready v m)
      split v m = lists_are v m ∙ ap (λ b. cond b false (ready v m)) (then_both (vat_cmp u v) (message_cmp name m))

      listed : (v : VatNo) (m : MsgId) → lists v m ≡ ready_by v (now m)
      listed v = each_case name (λ m. lists v m ≡ ready_by v (now m))
          (split v name ∙ gone_from (is_eq (vat_cmp u v)) refl ∙ ap (ready_by v) (sym (here ∙ gone)))
          (λ m e. split v m ∙ ap (λ b. cond (is_eq (vat_cmp u v) && b) false (ready v m)) e ∙ not_taken (is_eq (vat_cmp u v)) (ready v m) ∙ go.listed v m ∙ ap (ready_by v) (sym (there m e)))
        where
          not_taken : (b x : Bool) → cond (b && false) false x ≡ x
          not_taken true x = refl
          not_taken false x = refl

          gone_from : (b : Bool) → is_eq (vat_cmp u v) ≡ b → cond (is_eq (vat_cmp u v) && is_eq (message_cmp name name)) false (ready v name) ≡ false
          gone_from true e = ap₂ (λ x y. cond (x && y) false (ready v name)) e (message_self name)
          gone_from false e = ap (λ x. cond (x && is_eq (message_cmp name name)) false (ready v name)) e ∙ go.listed v name ∙ ap (ready_by v) was ∙ turned_vats v e
            where
              turned_vats : (v : VatNo) → is_eq (vat_cmp u v) ≡ false → is_eq (vat_cmp v u) ≡ false
              turned_vats v e = turned vat_total v u ∙ e

      by : (m : MsgId) (v : VatNo) → now m ≡ Some (waits.Ready v) → (b : Bool) → is_eq (vat_cmp u v) ≡ b → Headed now fronts v m
      by m v h true e =
          let at : u ≡ v = exact_vats u v (equal (vat_cmp u v) e) in
          let n = next m (ap (λ x. lists x m) at ∙ listed v m ∙ there_ready v (now m) h) in
          ∣ (n.0, ready_there v (now n.0) (sym (listed v n.0) ∙ ap (λ x. lists x n.0) (sym at) ∙ n.1), n.2, n.3) ∣₁
      by m v h false e = each_case name (λ k. now k ≡ Some (waits.Ready v) → Headed now fronts v k)
          (λ g. absurd (none-some (waits.Ready v) (sym gone ∙ sym here ∙ g)))
          (λ k ne g.
          ∥∥₁_elim (go.heads k v (sym (there k ne) ∙ g)) ∥∥₁_prop (λ head.
          let apart_from = other head.0 v head.1 (λ w. false≢true (sym e ∙ ap (λ x. is_eq (vat_cmp x v)) (same_ready u v (sym was ∙ w)) ∙ vat_self v)) in
          still v k head.0 head.1 apart_from (keeps head.0 apart_from head.2) head.3)) m h

  -- the message was not here, and is ready at a vat: it comes behind another one there, or is a front in place of those of its vat
  pub joined_still : (u : VatNo) → ways name ≡ None → o ≡ Some (waits.Ready u)
      → ((v : VatNo) (m : MsgId) → lists v m ≡ cond (is_eq (ready_cmp (record { vat = u; message = name }) (record { vat = v; message = m }))) true (ready v m))
      → (((f : MsgId) × (ready u f ≡ true) × (is_gt (message_cmp f name) ≡ false) × ((m : MsgId) → fronts m ≡ front m))
      ⊎ (((m : MsgId) → ready u m ≡ true → is_gt (message_cmp name m) ≡ false) × (fronts name ≡ true) × ((m : MsgId) → front m ≡ true → (fronts m ≡ true) ⊎ (ready u m ≡ true))))
      → Goes now lists fronts
  joined_still u was is lists_are how_front = record {
    listed = listed;
    moving = λ m. each_case name (λ k. now k ≡ Some waits.Moving → fronts k ≡ true) (λ h. absurd (not_moving u (sym h ∙ here ∙ is))) (λ k e h. moving k (sym (there k e) ∙ h)) m;
    heads = λ m v. each_case name (λ k. now k ≡ Some (waits.Ready v) → Headed now fronts v k)
        (λ h. subst (λ x. Headed now fronts x name) (same_ready u v (sym is ∙ sym here ∙ h)) own)
        (λ k e h. later k v e (sym (there k e) ∙ h)) m;
  }
    where
      split : (v : VatNo) (m : MsgId) → lists v m ≡ cond (is_eq (vat_cmp u v) && is_eq (message_cmp name m)) true (ready v m)
      split v m = lists_are v m ∙ ap (λ b. cond b true (ready v m)) (then_both (vat_cmp u v) (message_cmp name m))

      listed : (v : VatNo) (m : MsgId) → lists v m ≡ ready_by v (now m)
      listed v = each_case name (λ m. lists v m ≡ ready_by v (now m))
          (split v name ∙ come_to (is_eq (vat_cmp u v)) refl ∙ ap (ready_by v) (sym (here ∙ is)))
          (λ m e. split v m ∙ ap (λ b. cond (is_eq (vat_cmp u v) && b) true (ready v m)) e ∙ not_taken (is_eq (vat_cmp u v)) (ready v m) ∙ go.listed v m ∙ ap (ready_by v) (sym (there m e)))
        where
          not_taken : (b x : Bool) → cond (b && false) true x ≡ x
          not_taken true x = refl
          not_taken false x = refl

          come_to : (b : Bool) → is_eq (vat_cmp u v) ≡ b → cond (is_eq (vat_cmp u v) && is_eq (message_cmp name name)) true (ready v name) ≡ is_eq (vat_cmp v u)
          come_to true e = ap₂ (λ x y. cond (x && y) true (ready v name)) e (message_self name) ∙ sym (turned vat_total v u ∙ e)
          come_to false e = ap (λ x. cond (x && is_eq (message_cmp name name)) true (ready v name)) e ∙ go.listed v name ∙ ap (ready_by v) was ∙ sym (turned vat_total v u ∙ e)

      -- none that is ready at a vat is the message
      fresh : (n : MsgId) (v : VatNo) → ways n ≡ Some (waits.Ready v) → is_eq (message_cmp name n) ≡ false
      fresh n v h = other n v h (λ w. none-some (waits.Ready v) (sym was ∙ w))

      moving : (k : MsgId) → ways k ≡ Some waits.Moving → fronts k ≡ true
      moving k h = ⊎_elim (λ g. g.3 k ∙ go.moving k h)
          (λ g. ⊎_elim (λ f. f) (λ r. absurd (not_moving u (sym h ∙ ready_there u (ways k) (sym (go.listed u k) ∙ r)))) (g.2 k (go.moving k h))) how_front

      own : Headed now fronts u name
      own = ⊎_elim
          (λ g. ∥∥₁_elim (go.heads g.0 u (ready_there u (ways g.0) (sym (go.listed u g.0) ∙ g.1))) ∥∥₁_prop (λ head.
          still u name head.0 head.1 (fresh head.0 u head.1) (g.3 head.0 ∙ head.2) (upto message_total head.0 g.0 name head.3 g.2)))
          (λ g. ∣ (name, here ∙ is, g.1, self_upto name) ∣₁) how_front
        where
          self_upto : (m : MsgId) → is_gt (message_cmp m m) ≡ false
          self_upto m = ap is_gt (equal (message_cmp m m) (message_self m))

      later : (k : MsgId) (v : VatNo) → is_eq (message_cmp name k) ≡ false → ways k ≡ Some (waits.Ready v) → Headed now fronts v k
      later k v e h =
          ∥∥₁_elim (go.heads k v h) ∥∥₁_prop (λ head.
          let ne = fresh head.0 v head.1 in
          ⊎_elim (λ g. still v k head.0 head.1 ne (g.3 head.0 ∙ head.2) head.3)
          (λ g. ⊎_elim (λ f. still v k head.0 head.1 ne f head.3)
          (λ r. let at : u ≡ v = same_ready u v (sym (ready_there u (ways head.0) (sym (go.listed u head.0) ∙ r)) ∙ head.1) in
          ∣ (name, here ∙ is ∙ ap (λ x. Some (waits.Ready x)) at, g.1, g.0 k (go.listed u k ∙ there_ready u (ways k) (h ∙ ap (λ x. Some (waits.Ready x)) (sym at)))) ∣₁)
          (g.2 head.0 head.2)) how_front)

-- ---- what is done to the list

-- nothing waits
pub none_goes : (q : Waiting) → ((m : MsgId) → how q m ≡ None) → ((v : VatNo) (m : MsgId) → is_ready_at q v m ≡ false) → Indexed q
none_goes q none unready = record {
  listed = λ v m. unready v m ∙ ap (ready_by v) (sym (none m));
  moving = λ m h. absurd (none-some waits.Moving (sym (none m) ∙ h));
  heads = λ m v h. absurd (none-some (waits.Ready v) (sym (none m) ∙ h));
}

not_ready : (o : Option Waits) → ((v : VatNo) → o ≡ Some (waits.Ready v) → ⊥) → (v : VatNo) → ready_by v o ≡ false
not_ready None h v = refl
not_ready (Some waits.Moving) h v = refl
not_ready (Some waits.Behind) h v = refl
not_ready (Some (waits.Ready u)) h v = absurd (h u refl)

list_stays : (a b : Waiting) → b.ready ≡ a.ready → (v : VatNo) (m : MsgId) → is_ready_at b v m ≡ is_ready_at a v m
list_stays a b same v m = ap (λ (s : BTreeSet Ready). contains ready_cmp s (record { vat = v; message = m })) same

front_stays : (a b : Waiting) → b.fronts ≡ a.fronts → (m : MsgId) → is_front b m ≡ is_front a m
front_stays a b same m = ap (λ (s : BTreeSet MsgId). contains message_cmp s m) same

way_stays : (a b : Waiting) → b.all ≡ a.all → (m : MsgId) → how b m ≡ how a m
way_stays a b same m = ap (λ (s : BTreeMap MsgId Waits). get message_cmp s m) same

either : (c x : Bool) → x ≡ true → cond c true x ≡ true
either true x h = refl
either false x h = h

-- it waits as it did
pub puts_same : (name : MsgId) (o : Option Waits) (a : Waiting) → how a name ≡ o → Puts name o a a
puts_same name o a is = record {
  ways = λ m. by m (is_eq (message_cmp name m)) refl;
  indexed = λ h. h;
}
  where
    by : (m : MsgId) (b : Bool) → is_eq (message_cmp name m) ≡ b → how a m ≡ cond b o (how a m)
    by m true e = ap (how a) (sym (exact_messages name m (equal (message_cmp name m) e))) ∙ is
    by m false e = refl

pub gone : (name : MsgId) (a b : Waiting) → Puts name None a b → how b name ≡ None
gone name a b p = p.ways name ∙ ap (λ c. cond c None (how a name)) (message_self name)

pub puts_both : (name : MsgId) (o : Option Waits) (a b d : Waiting) → Puts name None a b → Puts name o b d → Puts name o a d
puts_both name o a b d p q = record {
  ways = λ m. q.ways m ∙ ap (cond (is_eq (message_cmp name m)) o) (p.ways m) ∙ twice (is_eq (message_cmp name m)) (how a m);
  indexed = λ h. q.indexed (p.indexed h);
}
  where
    twice : (c : Bool) (x : Option Waits) → cond c o (cond c None x) ≡ cond c o x
    twice true x = refl
    twice false x = refl

-- a message that was not ready goes
pub removes : (name : MsgId) (a b : Waiting) → ((m : MsgId) → how b m ≡ cond (is_eq (message_cmp name m)) None (how a m)) → ((v : VatNo) → how a name ≡ Some (waits.Ready v) → ⊥)
    → b.ready ≡ a.ready → ((m : MsgId) → is_eq (message_cmp name m) ≡ false → is_front a m ≡ true → is_front b m ≡ true) → Puts name None a b
removes name a b ways was same keeps = record {
  ways = ways;
  indexed = λ go. unready_still (how a) (is_ready_at a) (is_front a) go name (how b) (is_ready_at b) (is_front b) None ways (list_stays a b same)
      was (λ v e. none-some (waits.Ready v) e) (not_ready (how a name) was) (λ e. absurd (none-some waits.Moving e)) keeps;
}

-- a message that was ready goes
pub leaves : (name : MsgId) (u : VatNo) (a between b : Waiting) (o : Option MsgId) → ((m : MsgId) → how b m ≡ cond (is_eq (message_cmp name m)) None (how a m)) → how a name ≡ Some (waits.Ready u)
    → ((v : VatNo) (m : MsgId) → is_ready_at between v m ≡ cond (is_eq (ready_cmp (record { vat = u; message = name }) (record { vat = v; message = m }))) false (is_ready_at a v m))
    → b.ready ≡ between.ready → ((m : MsgId) → is_eq (message_cmp name m) ≡ false → is_front a m ≡ true → is_front b m ≡ true)
    → FirstAt between u o → ((n : MsgId) → o ≡ Some n → is_front b n ≡ true) → Puts name None a b
leaves name u a between b o ways was lists same keeps first front = record {
  ways = ways;
  indexed = λ go. left_still (how a) (is_ready_at a) (is_front a) go name (how b) (is_ready_at b) (is_front b) None ways u was refl
      (λ v m. list_stays between b same v m ∙ lists v m) keeps (λ m h. next o first front m (sym (list_stays between b same u m) ∙ h));
}
  where
    next : (x : Option MsgId) → FirstAt between u x → ((n : MsgId) → x ≡ Some n → is_front b n ≡ true) → (m : MsgId) → is_ready_at between u m ≡ true
        → (n : MsgId) × (is_ready_at b u n ≡ true) × (is_front b n ≡ true) × (is_gt (message_cmp n m) ≡ false)
    next None none f m h = absurd (false≢true (sym (none m) ∙ h))
    next (Some n) least f m h = (n, list_stays between b same u n ∙ least.0, f n refl, least.1 m h)

-- and the next one there is a front
pub leaves_next : (name next : MsgId) (u : VatNo) (a between b : Waiting) (o : Option MsgId) → ((m : MsgId) → how between m ≡ cond (is_eq (message_cmp name m)) None (how a m)) → how a name ≡ Some (waits.Ready u)
    → ((v : VatNo) (m : MsgId) → is_ready_at between v m ≡ cond (is_eq (ready_cmp (record { vat = u; message = name }) (record { vat = v; message = m }))) false (is_ready_at a v m))
    → ((m : MsgId) → is_front between m ≡ cond (is_eq (message_cmp name m)) false (is_front a m)) → FirstAt between u o → o ≡ Some next → AddsFront next between b → Puts name None a b
leaves_next name next u a between b o ways was lists fronts first is adds =
    leaves name u a between b o (λ m. way_stays between b adds.all m ∙ ways m) was lists adds.ready
    (λ m ne h. adds.fronts m ∙ either (is_eq (message_cmp next m)) (is_front between m) (fronts m ∙ ap (λ c. cond c false (is_front a m)) ne ∙ h))
    first (λ n e. subst (λ k. is_front b k ≡ true) (same_Some next n (sym is ∙ e)) (adds.fronts next ∙ ap (λ c. cond c true (is_front between next)) (message_self next)))

-- or none is left there
pub leaves_none : (name : MsgId) (u : VatNo) (a b : Waiting) (o : Option MsgId) → ((m : MsgId) → how b m ≡ cond (is_eq (message_cmp name m)) None (how a m)) → how a name ≡ Some (waits.Ready u)
    → ((v : VatNo) (m : MsgId) → is_ready_at b v m ≡ cond (is_eq (ready_cmp (record { vat = u; message = name }) (record { vat = v; message = m }))) false (is_ready_at a v m))
    → ((m : MsgId) → is_front b m ≡ cond (is_eq (message_cmp name m)) false (is_front a m)) → FirstAt b u o → o ≡ None → Puts name None a b
leaves_none name u a b o ways was lists fronts first is =
    leaves name u a b b o ways was lists refl (λ m ne h. fronts m ∙ ap (λ c. cond c false (is_front a m)) ne ∙ h) first (λ n e. absurd (none-some n (sym is ∙ e)))

-- a message comes that is not ready
pub comes : (name : MsgId) (x : Waits) (a b : Waiting) → ((m : MsgId) → how b m ≡ cond (is_eq (message_cmp name m)) (Some x) (how a m)) → how a name ≡ None → ((v : VatNo) → Some x ≡ Some (waits.Ready v) → ⊥)
    → b.ready ≡ a.ready → (Some x ≡ Some waits.Moving → is_front b name ≡ true) → ((m : MsgId) → is_front a m ≡ true → is_front b m ≡ true) → Puts name (Some x) a b
comes name x a b ways was is same moves keeps = record {
  ways = ways;
  indexed = λ go. unready_still (how a) (is_ready_at a) (is_front a) go name (how b) (is_ready_at b) (is_front b) (Some x) ways (list_stays a b same)
      (λ v e. none-some (waits.Ready v) (sym was ∙ e)) is (λ v. ap (ready_by v) was ∙ sym (not_ready (Some x) is v)) moves (λ m ne h. keeps m h);
}

pub comes_behind : (name : MsgId) (a b : Waiting) → ((m : MsgId) → how b m ≡ cond (is_eq (message_cmp name m)) (Some waits.Behind) (how a m)) → b.ready ≡ a.ready → b.fronts ≡ a.fronts → how a name ≡ None → Puts name (Some waits.Behind) a b
comes_behind name a b ways same fronts was = comes name waits.Behind a b ways was not_behind same (λ e. absurd (not_both e)) (λ m h. front_stays a b fronts m ∙ h)

pub comes_moving : (name : MsgId) (a between b : Waiting) → ((m : MsgId) → how between m ≡ cond (is_eq (message_cmp name m)) (Some waits.Moving) (how a m)) → between.ready ≡ a.ready → between.fronts ≡ a.fronts
    → AddsFront name between b → how a name ≡ None → Puts name (Some waits.Moving) a b
comes_moving name a between b ways same fronts adds was =
    comes name waits.Moving a b (λ m. way_stays between b adds.all m ∙ ways m) was not_moving (adds.ready ∙ same)
    (λ e. adds.fronts name ∙ ap (λ c. cond c true (is_front between name)) (message_self name))
    (λ m h. adds.fronts m ∙ either (is_eq (message_cmp name m)) (is_front between m) (front_stays a between fronts m ∙ h))

-- a message comes that is ready
pub comes_ready : (name : MsgId) (u : VatNo) (a between b : Waiting) → ((m : MsgId) → how between m ≡ cond (is_eq (message_cmp name m)) (Some (waits.Ready u)) (how a m)) → between.ready ≡ a.ready → between.fronts ≡ a.fronts
    → GetsReady u name between b → how a name ≡ None → Puts name (Some (waits.Ready u)) a b
comes_ready name u a between b ways same fronts gets was = record {
  ways = now;
  indexed = λ go. joined_still (how a) (is_ready_at a) (is_front a) go name (how b) (is_ready_at b) (is_front b) (Some (waits.Ready u)) now u was refl
      (λ v m. gets.ready v m ∙ ap (cond (is_eq (ready_cmp (record { vat = u; message = name }) (record { vat = v; message = m }))) true) (list_stays a between same v m))
      (⊎_elim (λ g. inl (g.0, sym (list_stays a between same u g.0) ∙ g.1, g.2, λ m. front_stays between b g.3 m ∙ front_stays a between fronts m))
      (λ g. inr (λ m h. g.0 m (list_stays a between same u m ∙ h), g.1, λ m h. ⊎_elim (λ f. inl f) (λ r. inr (sym (list_stays a between same u m) ∙ r)) (g.2 m (front_stays a between fronts m ∙ h))))
      gets.fronts);
}
  where
    now : (m : MsgId) → how b m ≡ cond (is_eq (message_cmp name m)) (Some (waits.Ready u)) (how a m)
    now m = way_stays between b gets.all m ∙ ways m

-- the same, told by how it waits
pub puts_told : (name : MsgId) (o p : Option Waits) (a b : Waiting) → o ≡ p → Puts name o a b → Puts name p a b
puts_told name o p a b is h = subst (λ x. Puts name x a b) is h

told_ways : (name : MsgId) (x y : Waits) (a b : Waiting) → x ≡ y → ((m : MsgId) → how b m ≡ cond (is_eq (message_cmp name m)) (Some x) (how a m)) → (m : MsgId) → how b m ≡ cond (is_eq (message_cmp name m)) (Some y) (how a m)
told_ways name x y a b is ways m = ways m ∙ ap (λ z. cond (is_eq (message_cmp name m)) (Some z) (how a m)) is

pub adds_moving : (name : MsgId) (x : Waits) (a between b : Waiting) → x ≡ waits.Moving → ((m : MsgId) → how between m ≡ cond (is_eq (message_cmp name m)) (Some x) (how a m)) → between.ready ≡ a.ready → between.fronts ≡ a.fronts
    → AddsFront name between b → how a name ≡ None → Puts name (Some x) a b
adds_moving name x a between b is ways same fronts adds was = puts_told name (Some waits.Moving) (Some x) a b (ap (λ z. Some z) (sym is)) (comes_moving name a between b (told_ways name x waits.Moving a between is ways) same fronts adds was)

pub adds_ready : (name : MsgId) (x : Waits) (u : VatNo) (a between b : Waiting) → x ≡ waits.Ready u → ((m : MsgId) → how between m ≡ cond (is_eq (message_cmp name m)) (Some x) (how a m)) → between.ready ≡ a.ready → between.fronts ≡ a.fronts
    → GetsReady u name between b → how a name ≡ None → Puts name (Some x) a b
adds_ready name x u a between b is ways same fronts gets was = puts_told name (Some (waits.Ready u)) (Some x) a b (ap (λ z. Some z) (sym is)) (comes_ready name u a between b (told_ways name x (waits.Ready u) a between is ways) same fronts gets was)

pub adds_behind : (name : MsgId) (x : Waits) (a b : Waiting) → x ≡ waits.Behind → ((m : MsgId) → how b m ≡ cond (is_eq (message_cmp name m)) (Some x) (how a m)) → b.ready ≡ a.ready → b.fronts ≡ a.fronts → how a name ≡ None → Puts name (Some x) a b
adds_behind name x a b is ways same fronts was = puts_told name (Some waits.Behind) (Some x) a b (ap (λ z. Some z) (sym is)) (comes_behind name a b (told_ways name x waits.Behind a b is ways) same fronts was)

-- ---- fronts

not_above : (o : Ordering) → is_lt o ≡ true → is_gt o ≡ false
not_above Less h = refl
not_above Equal h = absurd (false≢true h)
not_above Greater h = absurd (false≢true h)

not_below : (o : Ordering) → is_lt o ≡ false → is_gt (ordering_reverse o) ≡ false
not_below Less h = absurd (false≢true (sym h))
not_below Equal h = refl
not_below Greater h = refl

pub stays_behind : (first name : MsgId) (a : Waiting) → is_lt (message_cmp first name) ≡ true → ReplacesFront first name a a
stays_behind first name a below = record { all = refl; ready = refl; fronts = inl (not_above (message_cmp first name) below, refl) }

pub takes_place : (first name : MsgId) (a between b : Waiting) → is_lt (message_cmp first name) ≡ false → between.all ≡ a.all → between.ready ≡ a.ready
    → ((m : MsgId) → is_front between m ≡ cond (is_eq (message_cmp first m)) false (is_front a m)) → AddsFront name between b → ReplacesFront first name a b
takes_place first name a between b above all ready gone_from adds = record {
  all = adds.all ∙ all;
  ready = adds.ready ∙ ready;
  fronts = inr (
    ap is_gt (message_total.antisymm name first) ∙ not_below (message_cmp first name) above,
    adds.fronts name ∙ ap (λ c. cond c true (is_front between name)) (message_self name),
    λ m h. by m h (is_eq (message_cmp first m)) refl,
  );
}
  where
    by : (m : MsgId) → is_front a m ≡ true → (c : Bool) → is_eq (message_cmp first m) ≡ c → (is_front b m ≡ true) ⊎ (first ≡ m)
    by m h true e = inr (exact_messages first m (equal (message_cmp first m) e))
    by m h false e = inl (adds.fronts m ∙ either (is_eq (message_cmp name m)) (is_front between m) (gone_from m ∙ ap (λ c. cond c false (is_front a m)) e ∙ h))

-- it comes behind the first one, or takes its place
pub gets_beside : (v : VatNo) (name first : MsgId) (a between b : Waiting) → FirstAt a v (Some first) → between.all ≡ a.all → between.fronts ≡ a.fronts
    → ((u : VatNo) (m : MsgId) → is_ready_at between u m ≡ cond (is_eq (ready_cmp (record { vat = v; message = name }) (record { vat = u; message = m }))) true (is_ready_at a u m)) → ReplacesFront first name between b → GetsReady v name a b
gets_beside v name first a between b least all fronts ready r = record {
  all = r.all ∙ all;
  ready = λ u m. list_stays between b r.ready u m ∙ ready u m;
  fronts = ⊎_elim (λ g. inl (first, least.0, g.0, g.1 ∙ fronts))
      (λ g. inr (λ m h. upto message_total name first m g.0 (least.1 m h), g.1, λ m h. ⊎_elim (λ f. inl f) (λ e. inr (subst (λ k. is_ready_at a v k ≡ true) e least.0)) (g.2 m (front_stays a between fronts m ∙ h))))
      r.fronts;
}

-- it is the first one there
pub gets_alone : (v : VatNo) (name : MsgId) (a between b : Waiting) → FirstAt a v None → between.all ≡ a.all → between.fronts ≡ a.fronts
    → ((u : VatNo) (m : MsgId) → is_ready_at between u m ≡ cond (is_eq (ready_cmp (record { vat = v; message = name }) (record { vat = u; message = m }))) true (is_ready_at a u m)) → AddsFront name between b → GetsReady v name a b
gets_alone v name a between b none all fronts ready adds = record {
  all = adds.all ∙ all;
  ready = λ u m. list_stays between b adds.ready u m ∙ ready u m;
  fronts = inr (
    λ m h. absurd (false≢true (sym (none m) ∙ h)),
    adds.fronts name ∙ ap (λ c. cond c true (is_front between name)) (message_self name),
    λ m h. inl (adds.fronts m ∙ either (is_eq (message_cmp name m)) (is_front between m) (front_stays a between fronts m ∙ h)),
  );
}
