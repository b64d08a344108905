-- How a line is taken, piece by piece.
use Rattle.std.proofs.Common.{◌≡◌, ℕ, ◌<◌, List, [], ◌∷◌, ◌++◌, length, Bool, true, false, ◌||◌, Option, Some, None, is_some, refl, sym, ap, subst, ◌∙◌, arith, append_assoc, append-nil}
use Rattle.std.specs.Prelude.{MatchOption}
use Rattle.std.specs.Io.KnownBytes.{Keeps, Consumes, IsAtEnd, prepend_known}
use Rattle.std.proofs.KnownBytes.{Consumes-nil, Consumes-kept, Keeps-refl}
use Rattle.stepper_commands.specs.Lines.{without_return, line_end}
use Rattle.stepper_streams.specs.Counted.{inner, failures, IsOneMore}
use Rattle.stepper_streams.specs.Pieces.{HasNoFeed, Reads, IsOneLine, fed, last, Gathers, GivesPart, to_feed, all}
use Rattle.stepper_streams.specs.Lines.{held, reader, reads_failed, is_ended, is_at_hand, unread, TakesLine, HasNoLine, LosesPart, FailsWithin, RunsOut}
use Rattle.stepper_streams.specs.declared.line.Line.{Line}
use Rattle.stepper_streams.specs.declared.lines.Lines.{Lines}
use Rattle.stepper_streams.proofs.Feeds.{no_feed-append}
use Rattle.stepper_streams.proofs.Gathering.{reads_ended, reads_last}

-- bytes at hand go over to those that were taken
moved : (a r : Option (List ℕ)) (p q bs h : List ℕ) → h ≡ p ++ q → Consumes a (prepend_known h r) bs → Consumes a (prepend_known q r) (bs ++ p)
moved None r p q bs h e c = tt
moved (Some x) None p q bs h e c = absurd c
moved (Some x) (Some y) p q bs h e c = c ∙ ap (λ l. bs ++ (l ++ y)) e ∙ ap (λ l. bs ++ l) (append_assoc p q y) ∙ sym (append_assoc bs p (q ++ y))

kept_by : (a b : Option (List ℕ)) (bs : List ℕ) → bs ≡ [] → Consumes a b bs → Keeps a b
kept_by None b bs e c = tt
kept_by (Some x) None bs e c = absurd c
kept_by (Some x) (Some y) bs e c = sym (c ∙ ap (λ l. l ++ y) e)

ends_before : (a b : Option (List ℕ)) → Keeps a b → IsAtEnd b → IsAtEnd a
ends_before None b k h = tt
ends_before (Some x) None k h = absurd k
ends_before (Some x) (Some y) k h = sym k ∙ h

ends_too : (a b : Option (List ℕ)) (bs : List ℕ) → bs ≡ [] → Consumes a b bs → IsAtEnd b → IsAtEnd a
ends_too None b bs e c h = tt
ends_too (Some x) None bs e c h = absurd c
ends_too (Some x) (Some y) bs e c h = c ∙ ap (λ l. l ++ y) e ∙ h

not_both : (P : Type 0) (b : Bool) → b ≡ false → b ≡ true → P
not_both P b f t = absurd (cc)

some_long : (line : Line) (bytes : List ℕ) → Gathers line bytes → (line.is_long ≡ false → 0 < length line.text.items) → (b : Bool) → line.is_long ≡ b → 0 < length bytes
some_long line bytes g some true e = omega (arith, g.long e)
some_long line bytes g some false e = subst (λ (t : List ℕ). 0 < length t) (g.kept e) (some e)

none_known : (P : Type 0) (b : Bool) (o : Option ℕ) → b ≡ false → o ≡ None → (b || is_some o) ≡ true → P
none_known P b o e f h = not_both P (b || is_some o) (ap (λ c. c || is_some o) e ∙ ap is_some f) h

module _ {R : Type 0} (remaining : R → Option (List ℕ)) where
  -- a line is being taken: these bytes were, and no line feed is among them; nothing was done yet where it was at hand
  pub record Within (old now : Lines R) (line : Line) : Type 0 where
    pub bytes : List ℕ
    pub feedless : HasNoFeed bytes
    pub gathers : Gathers line bytes
    pub taken : Consumes (unread remaining old) (unread remaining now) bytes
    pub was_open : is_ended old ≡ false
    pub not_ended : is_ended now ≡ false
    pub none_failed : reads_failed now ≡ reads_failed old
    pub untouched : is_at_hand old ≡ true → now ≡ old

  -- the same is held of the same reader
  unread_stays : (now new : Lines R) → held new ≡ held now → reader new ≡ reader now → Keeps (unread remaining now) (unread remaining new)
  unread_stays now new h s = subst (λ bytes. Keeps (unread remaining now) (prepend_known bytes (remaining (reader new)))) (sym h)
      (subst (λ r. Keeps (unread remaining now) (prepend_known (held now) (remaining r))) (sym s) (Keeps-refl (unread remaining now)))

  module _ (old now : Lines R) (line : Line) (w : Within old now line) where
    -- where no line feed is held, none was when the line was begun
    not_at_hand : (P : Type 0) → HasNoFeed (held now) → is_at_hand old ≡ true → P
    not_at_hand P none h = none_known P (is_ended old) (line_end (held old)) w.was_open (ap (λ (l : Lines R). line_end (held l)) (sym (w.untouched h)) ∙ none) h

  module _ (old now new : Lines R) (before after : Line) (w : Within old now before) where
    -- all that is held goes into the line
    pub goes_on : (b : Bool) → b ≡ false → new.source ≡ now.source → is_ended new ≡ is_ended now → GivesPart (held now) (held new) before after b → Within old new after × (held new ≡ [])
    goes_on b f s e (to_feed body feedless cut more) = absurd (cc)
    goes_on b f s e (all feedless none more) = (
      record {
        bytes = w.bytes ++ held now;
        feedless = no_feed-append w.bytes (held now) w.feedless feedless;
        gathers = more w.bytes w.gathers;
        taken = subst (λ source. Consumes (unread remaining old) (prepend_known (held new) (remaining (inner source))) (w.bytes ++ held now)) (sym s)
            (moved (unread remaining old) (remaining (reader now)) (held now) (held new) w.bytes (held now) (sym (ap (λ l. held now ++ l) none ∙ append-nil (held now))) w.taken);
        was_open = w.was_open;
        not_ended = e ∙ w.not_ended;
        none_failed = ap failures s ∙ w.none_failed;
        untouched = not_at_hand old now before w (new ≡ old) feedless;
      },
      none,
    )

    -- the line feed is found
    pub comes_to_feed : (result : Line) (b : Bool) → b ≡ true → new.source ≡ now.source → is_ended new ≡ is_ended now → GivesPart (held now) (held new) before after b
        → result.text.items ≡ without_return after.text.items → result.is_long ≡ after.is_long → TakesLine remaining old new result
    comes_to_feed result b f s e (all feedless none more) text long = absurd (cc)
    comes_to_feed result b f s e (to_feed body feedless cut more) text long =
        let whole : w.bytes ++ (body ++ (10 ∷ [])) ≡ (w.bytes ++ body) ++ (10 ∷ []) = sym (append_assoc w.bytes body (10 ∷ [])) in
        let both = no_feed-append w.bytes body w.feedless feedless in
        record {
          bytes = w.bytes ++ (body ++ (10 ∷ []));
          one = fed (w.bytes ++ body) both whole;
          taken = subst (λ source. Consumes (unread remaining old) (prepend_known (held new) (remaining (inner source))) (w.bytes ++ (body ++ (10 ∷ [])))) (sym s)
              (moved (unread remaining old) (remaining (reader now)) (body ++ (10 ∷ [])) (held new) w.bytes (held now) (cut ∙ sym (append_assoc body (10 ∷ []) (held new))) w.taken);
          reads = subst (Reads result) (sym whole) (reads_ended after result (w.bytes ++ body) (more w.bytes w.gathers) both text long);
          not_ended = w.was_open;
          sound = λ t. not_both (IsAtEnd (unread remaining new)) (is_ended new) (e ∙ w.not_ended) t;
          none_failed = ap failures s ∙ w.none_failed;
        }

  module _ (old now new : Lines R) (line : Line) (w : Within old now line) where
    -- more was read
    pub reads_on : held now ≡ [] → Keeps (unread remaining now) (unread remaining new) → is_ended new ≡ is_ended now → reads_failed new ≡ reads_failed now → Within old new line
    reads_on none k e f = record {
      bytes = w.bytes;
      feedless = w.feedless;
      gathers = w.gathers;
      taken = Consumes-kept _ _ _ w.bytes w.taken k;
      was_open = w.was_open;
      not_ended = e ∙ w.not_ended;
      none_failed = f ∙ w.none_failed;
      untouched = not_at_hand old now line w (new ≡ old) (ap line_end none);
    }

    -- the input ended
    pub comes_to_end : (o : Option Line) → Keeps (unread remaining now) (unread remaining new) → IsAtEnd (unread remaining new) → is_ended new ≡ true → reads_failed new ≡ reads_failed now
        → MatchOption o ((line.is_long ≡ false) × (line.text.items ≡ [])) (λ l. (l ≡ line) × (line.is_long ≡ false → 0 < length line.text.items))
        → MatchOption o (HasNoLine remaining old new) (TakesLine remaining old new)
    comes_to_end None kept after ended f h = record {
      none = ends_too (unread remaining old) (unread remaining now) w.bytes (sym (w.gathers.kept h.0) ∙ h.1) w.taken (ends_before _ _ kept after);
      kept = kept_by (unread remaining old) (unread remaining new) w.bytes (sym (w.gathers.kept h.0) ∙ h.1) (Consumes-kept _ _ _ w.bytes w.taken kept);
      ended = ended;
      end = after;
      none_failed = f ∙ w.none_failed;
    }
    comes_to_end (Some l) kept after ended f h = record {
      bytes = w.bytes;
      one = subst (IsOneLine w.bytes) (sym ended) (last w.feedless (some_long line w.bytes w.gathers h.1 line.is_long refl));
      taken = Consumes-kept _ _ _ w.bytes w.taken kept;
      reads = subst (λ (k : Line). Reads k w.bytes) (sym h.0) (reads_last line w.bytes w.gathers w.feedless);
      not_ended = w.was_open;
      sound = λ t. after;
      none_failed = f ∙ w.none_failed;
    }

    -- the line is given up
    gives_up : Keeps (unread remaining now) (unread remaining new) → is_ended new ≡ is_ended now → LosesPart remaining old new
    gives_up k e = record {
      bytes = w.bytes;
      feedless = w.feedless;
      taken = Consumes-kept _ _ _ w.bytes w.taken k;
      was_open = w.was_open;
      not_ended = e ∙ w.not_ended;
    }

    -- a read failed, and was counted
    pub fails : Keeps (unread remaining now) (unread remaining new) → is_ended new ≡ is_ended now → held new ≡ [] → IsOneMore (reads_failed now) (reads_failed new) → FailsWithin remaining old new
    fails k e none f = record { part = gives_up k e; none_held = none; one_failed = subst (λ n. IsOneMore n (reads_failed new)) w.none_failed f }

    -- memory ran out
    pub runs_out : held new ≡ held now → new.source ≡ now.source → is_ended new ≡ is_ended now → RunsOut remaining old new
    runs_out h s e = record { part = gives_up (unread_stays now new h (ap inner s)) e; none_failed = ap failures s ∙ w.none_failed }

  -- before the first piece
  pub within_none : (old : Lines R) (line : Line) → Gathers line [] → is_ended old ≡ false → Within old old line
  within_none old line g e = record { bytes = []; feedless = refl; gathers = g; taken = Consumes-nil (unread remaining old); was_open = e; not_ended = e; none_failed = refl; untouched = λ _. refl }
