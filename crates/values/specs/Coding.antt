-- A code for values and lists of them, by which the model of a list's items is stored. Each constructor has a number of its own.
use Rattle.std.specs.Prelude.{◌≡◌, ℕ, List}
use Rattle.std.specs.Coded.{code_by, coded×}
use Rattle.std.proofs.Common.{refl, ap, arith}
use base.Stored.{Gv, gnil, gnum, gcons, Coded, coded_ℕ, coded_ℤ, coded_bool, coded_list, num}
use Rattle.ids.specs.declared.names.ObjId.{ObjId}
use Rattle.ids.specs.declared.names.EjId.{EjId}
use Rattle.ids.specs.declared.names.PromId.{PromId}
use Rattle.values.specs.Data.{Val, null, bool, int, text, list, object, ejector, promise, broken, Vals, no_vals, and_val}

abbrev object_code : Coded ObjId
object_code = code_by (ℕ × (ℕ × ℕ)) (coded× coded_ℕ (coded× coded_ℕ coded_ℕ)) (λ o. (o.event.0, (o.index, o.vat.0.0)))
    (λ p. record { event = record { 0 = p.0 }; index = p.1.0; vat = record { 0 = record { 0 = p.1.1 } } }) (λ _. refl)

abbrev ejector_code : Coded EjId
ejector_code = code_by (ℕ × (ℕ × ℕ)) (coded× coded_ℕ (coded× coded_ℕ coded_ℕ)) (λ j. (j.event.0, (j.index, j.vat.0.0)))
    (λ p. record { event = record { 0 = p.0 }; index = p.1.0; vat = record { 0 = record { 0 = p.1.1 } } }) (λ _. refl)

abbrev promise_code : Coded PromId
promise_code = code_by (ℕ × (ℕ × ℕ)) (coded× coded_ℕ (coded× coded_ℕ coded_ℕ)) (λ p. (p.event.0, (p.index, p.home.0.0)))
    (λ q. record { event = record { 0 = q.0 }; index = q.1.0; home = record { 0 = record { 0 = q.1.1 } } }) (λ _. refl)

abbrev text_code : Coded (List ℕ)
text_code = coded_list coded_ℕ

abbrev head : Gv → Gv
head gnil = gnil
head (gnum n) = gnil
head (gcons a b) = a

abbrev tail : Gv → Gv
tail gnil = gnil
tail (gnum n) = gnil
tail (gcons a b) = b

-- the number of the constructor
abbrev kind : Gv → ℕ
kind g = num (head g)

abbrev mutual
  pub code_val : Val → Gv
  code_val null = gcons (gnum 1) gnil
  code_val (bool b) = gcons (gnum 2) (coded_bool.code b)
  code_val (int z) = gcons (gnum 3) (coded_ℤ.code z)
  code_val (text s) = gcons (gnum 4) (text_code.code s)
  code_val (list vs) = gcons (gnum 5) (code_vals vs)
  code_val (object o) = gcons (gnum 6) (object_code.code o)
  code_val (ejector j) = gcons (gnum 7) (ejector_code.code j)
  code_val (promise p) = gcons (gnum 8) (promise_code.code p)
  code_val (broken s) = gcons (gnum 9) (text_code.code s)

  pub code_vals : Vals → Gv
  code_vals no_vals = gcons (gnum 1) gnil
  code_vals (and_val v vs) = gcons (gnum 2) (gcons (code_val v) (code_vals vs))

mutual
  pub val_inj : (v w : Val) → code_val v ≡ code_val w → v ≡ w
  val_inj null null p = refl
  val_inj (bool a) (bool b) p = ap bool (coded_bool.inj a b (ap tail p))
  val_inj (int a) (int b) p = ap int (coded_ℤ.inj a b (ap tail p))
  val_inj (text a) (text b) p = ap text (text_code.inj a b (ap tail p))
  val_inj (list a) (list b) p = ap list (vals_inj a b (ap tail p))
  val_inj (object a) (object b) p = ap object (object_code.inj a b (ap tail p))
  val_inj (ejector a) (ejector b) p = ap ejector (ejector_code.inj a b (ap tail p))
  val_inj (promise a) (promise b) p = ap promise (promise_code.inj a b (ap tail p))
  val_inj (broken a) (broken b) p = ap broken (text_code.inj a b (ap tail p))
  val_inj _ _ p = let e = ap kind p in absurd (omega arith)

  pub vals_inj : (vs ws : Vals) → code_vals vs ≡ code_vals ws → vs ≡ ws
  vals_inj no_vals no_vals p = refl
  vals_inj (and_val v vs) (and_val w ws) p = λ i. and_val (val_inj v w (ap (λ g. head (tail g)) p) i) (vals_inj vs ws (ap (λ g. tail (tail g)) p) i)
  vals_inj _ _ p = let e = ap kind p in absurd (omega arith)

abbrev pub coded_vals : Coded Vals
coded_vals = record { code = code_vals; inj = vals_inj }
