-- How what is given goes out.
use Rattle.std.proofs.Common.{◌≡◌, ℕ, Bool, true, false, List, [], ◌++◌, Option, Result, Ok, Err, refl, sym, ap, subst, ◌∙◌, append_assoc, append-nil}
use Rattle.std.specs.Prelude.{OnOk, OnErr}
use Rattle.std.specs.Io.KnownBytes.{Appends}
use Rattle.std.proofs.KnownBytes.{Appends-nil, Appends-trans}
use Rattle.stepper_streams.specs.Counted.{inner, failures, IsOneMore}
use Rattle.stepper_streams.specs.declared.outlet.Outlet.{Outlet}
use Rattle.stepper_streams.specs.Outlet.{waiting, writer, writes_failed, is_cut, TakesSome, Gives, IsCutShort, Tells}

-- both facts of a success give a third
pub on_ok_both : {T E P Q S : Type 0} (r : Result T E) → (P → Q → S) → OnOk r P → OnOk r Q → OnOk r S
on_ok_both (Ok x) f p q = f p q
on_ok_both (Err e) f p q = tt

-- both facts of a failure give a third
pub on_err_both : {T E P Q S : Type 0} (r : Result T E) → (P → Q → S) → OnErr r P → OnErr r Q → OnErr r S
on_err_both (Ok x) f p q = tt
on_err_both (Err e) f p q = f p q

module _ {W : Type 0} (contents : W → Option (List ℕ)) where
  -- what is given waits
  pub waits : (old new : Outlet W) (bytes : List ℕ) → new.sink ≡ old.sink → waiting new ≡ waiting old ++ bytes → Gives contents old new bytes
  waits old new bytes same more = record {
    front = [];
    out = subst (λ s. Appends (contents (writer old)) (contents (inner s)) []) (sym same) (Appends-nil (contents (writer old)));
    whole = sym more;
    none_failed = ap failures same;
  }

  -- the same waits
  pub stays : (old new : Outlet W) → new.sink ≡ old.sink → waiting new ≡ waiting old → Gives contents old new []
  stays old new same kept = waits old new [] same (kept ∙ sym (append-nil (waiting old)))

  -- pieces are given one after another
  pub gives_both : (a b c : Outlet W) (xs ys : List ℕ) → Gives contents a b xs → Gives contents b c ys → Gives contents a c (xs ++ ys)
  gives_both a b c xs ys g h = record {
    front = g.front ++ h.front;
    out = Appends-trans _ _ _ g.front h.front g.out h.out;
    whole = sym (append_assoc (waiting a) xs ys) ∙ ap (λ l. l ++ ys) g.whole ∙ append_assoc g.front (waiting b) ys ∙ ap (λ l. g.front ++ l) h.whole ∙ sym (append_assoc g.front h.front (waiting c));
    none_failed = h.none_failed ∙ g.none_failed;
  }

  -- a write fails behind what was given before
  pub cut_behind : (a b c : Outlet W) (xs ys : List ℕ) → Gives contents a b xs → IsCutShort contents b c ys → IsCutShort contents a c (xs ++ ys)
  cut_behind a b c xs ys g h = record {
    some = record {
      front = g.front ++ h.some.front;
      back = h.some.back;
      out = Appends-trans _ _ _ g.front h.some.front g.out h.some.out;
      whole = sym (append_assoc (waiting a) xs ys) ∙ ap (λ l. l ++ ys) g.whole ∙ append_assoc g.front (waiting b) ys ∙ ap (λ l. g.front ++ l) h.some.whole ∙ sym (append_assoc g.front h.some.front h.some.back);
    };
    none_waits = h.none_waits;
    one_failed = subst (λ n. IsOneMore n (writes_failed c)) g.none_failed h.one_failed;
  }

  -- the same bytes are given
  pub gives_as : (a b : Outlet W) (xs ys : List ℕ) → xs ≡ ys → Gives contents a b xs → Gives contents a b ys
  gives_as a b xs ys e g = subst (Gives contents a b) e g

  -- nothing is given
  pub gives_none : (o : Outlet W) → Gives contents o o []
  gives_none o = waits o o [] refl (sym (append-nil (waiting o)))

  -- all that waited went out
  all_out : (old mid : Outlet W) (g : Gives contents old mid []) → waiting mid ≡ [] → waiting old ≡ g.front
  all_out old mid g none = sym (append-nil (waiting old)) ∙ g.whole ∙ ap (λ l. g.front ++ l) none ∙ append-nil g.front

  -- bytes are written behind all that waited
  pub written_behind : (old mid new : Outlet W) (bytes : List ℕ) → Gives contents old mid [] → waiting mid ≡ [] → waiting new ≡ waiting mid
      → Appends (contents (writer mid)) (contents (writer new)) bytes → writes_failed new ≡ writes_failed mid → Gives contents old new bytes
  written_behind old mid new bytes g none same out f = record {
    front = g.front ++ bytes;
    out = Appends-trans _ _ _ g.front bytes g.out out;
    whole = ap (λ l. l ++ bytes) (all_out old mid g none) ∙ sym (append-nil (g.front ++ bytes)) ∙ ap (λ l. (g.front ++ bytes) ++ l) (sym (same ∙ none));
    none_failed = f ∙ g.none_failed;
  }

  -- a write of bytes behind all that waited fails
  pub cut_writing : (old mid new : Outlet W) (bytes : List ℕ) → Gives contents old mid [] → waiting mid ≡ [] → waiting new ≡ waiting mid
      → TakesSome (contents (writer mid)) (contents (writer new)) bytes → IsOneMore (writes_failed mid) (writes_failed new) → IsCutShort contents old new bytes
  cut_writing old mid new bytes g none same some f = record {
    some = record {
      front = g.front ++ some.front;
      back = some.back;
      out = Appends-trans _ _ _ g.front some.front g.out some.out;
      whole = ap (λ l. l ++ bytes) (all_out old mid g none) ∙ ap (λ l. g.front ++ l) some.whole ∙ sym (append_assoc g.front some.front some.back);
    };
    none_waits = same ∙ none;
    one_failed = subst (λ n. IsOneMore n (writes_failed new)) g.none_failed f;
  }

  -- what is longer is cut short too
  pub cut_longer : (a b : Outlet W) (xs ys : List ℕ) → IsCutShort contents a b xs → IsCutShort contents a b (xs ++ ys)
  cut_longer a b xs ys h = record {
    some = record {
      front = h.some.front;
      back = h.some.back ++ ys;
      out = h.some.out;
      whole = sym (append_assoc (waiting a) xs ys) ∙ ap (λ l. l ++ ys) h.some.whole ∙ append_assoc h.some.front h.some.back ys;
    };
    none_waits = h.none_waits;
    one_failed = h.one_failed;
  }

  -- an outlet that was open stays so, or is cut
  told_whole : (a c : Outlet W) (xs ys : List ℕ) (b : Outlet W) (t : Bool) → is_cut b ≡ t → Tells contents a b xs → Tells contents b c ys → is_cut a ≡ false → is_cut c ≡ false → Gives contents a c (xs ++ ys)
  told_whole a c xs ys b false e g h uncut stays = gives_both a b c xs ys (g.all uncut e) (h.all e stays)
  told_whole a c xs ys b true e g h uncut stays = let same : is_cut c ≡ true = ap is_cut (h.none e) ∙ e in absurd (cc)

  told_part : (a c : Outlet W) (xs ys : List ℕ) (b : Outlet W) (t : Bool) → is_cut b ≡ t → Tells contents a b xs → Tells contents b c ys → is_cut a ≡ false → is_cut c ≡ true → IsCutShort contents a c (xs ++ ys)
  told_part a c xs ys b false e g h uncut cut = cut_behind a b c xs ys (g.all uncut e) (h.some e cut)
  told_part a c xs ys b true e g h uncut cut = subst (λ (o : Outlet W). IsCutShort contents a o (xs ++ ys)) (sym (h.none e)) (cut_longer a b xs ys (g.some uncut e))

  -- pieces are told one after another
  pub tells_both : {a b c : Outlet W} {xs ys : List ℕ} → Tells contents a b xs → Tells contents b c ys → Tells contents a c (xs ++ ys)
  tells_both {a = a} {b = b} {c = c} {xs = xs} {ys = ys} g h = record {
    all = told_whole a c xs ys b (is_cut b) refl g h;
    some = told_part a c xs ys b (is_cut b) refl g h;
    none = λ cut. let same = g.none cut in h.none (ap is_cut same ∙ cut) ∙ same;
  }

  -- the same bytes are told
  pub tells_as : {a b : Outlet W} {xs ys : List ℕ} → xs ≡ ys → Tells contents a b xs → Tells contents a b ys
  tells_as {a = a} {b = b} e t = subst (Tells contents a b) e t

  -- nothing is told
  pub tells_none : (o : Outlet W) → Tells contents o o []
  tells_none o = record { all = λ uncut stays. gives_none o; some = λ uncut cut. absurd (cc); none = λ cut. refl }

  -- what an open outlet is told is a beginning of what may be told behind it, where it is cut
  pub cut_before : (a b : Outlet W) (xs ys : List ℕ) → Tells contents a b xs → is_cut a ≡ false → is_cut b ≡ true → IsCutShort contents a b (xs ++ ys)
  cut_before a b xs ys t uncut cut = cut_longer a b xs ys (t.some uncut cut)

  -- an outlet that is cut is told whatever may be told behind it
  pub tells_more : (a b : Outlet W) (xs ys : List ℕ) → Tells contents a b xs → is_cut b ≡ true → Tells contents a b (xs ++ ys)
  tells_more a b xs ys t cut = record {
    all = λ uncut stays. absurd (cc);
    some = λ uncut stays. cut_longer a b xs ys (t.some uncut cut);
    none = t.none;
  }

  -- what may be told of a rest, behind what was told, leads to all
  pub record LeadsTo (first now : Outlet W) (rest all : List ℕ) : Type 0 where
    pub leads : (last : Outlet W) → Tells contents now last rest → Tells contents first last all

  pub leads_first : (o : Outlet W) {rest all : List ℕ} → rest ≡ all → LeadsTo o o rest all
  leads_first o e = record { leads = λ last t. tells_as e t }

  pub leads_more : {first now next : Outlet W} {rest all : List ℕ} (one more : List ℕ) → LeadsTo first now rest all → Tells contents now next one → rest ≡ one ++ more → LeadsTo first next more all
  leads_more one more l t e = record { leads = λ last u. l.leads last (tells_as (sym e) (tells_both t u)) }

  pub leads_all : {first now : Outlet W} {rest all : List ℕ} → LeadsTo first now rest all → rest ≡ [] → Tells contents first now all
  leads_all {now = now} l e = l.leads now (tells_as (sym e) (tells_none now))

  -- an outlet that is open in the end was so before
  opened_by : (t : Bool) (a b : Outlet W) (xs : List ℕ) → is_cut a ≡ t → Tells contents a b xs → is_cut b ≡ false → t ≡ false
  opened_by true a b xs e t uncut = let same : is_cut b ≡ true = ap is_cut (t.none e) ∙ e in absurd (cc)
  opened_by false a b xs e t uncut = refl

  pub was_open : {a b : Outlet W} {xs : List ℕ} → Tells contents a b xs → is_cut b ≡ false → is_cut a ≡ false
  was_open {a = a} {b = b} {xs = xs} t uncut = opened_by (is_cut a) a b xs refl t uncut

  -- what is given to an outlet that is open and stays so is told
  pub tells_given : {a b : Outlet W} {xs : List ℕ} → Gives contents a b xs → is_cut a ≡ false → is_cut b ≡ false → Tells contents a b xs
  tells_given g uncut stays = record { all = λ p q. g; some = λ p cut. absurd (cc); none = λ cut. absurd (cc) }
