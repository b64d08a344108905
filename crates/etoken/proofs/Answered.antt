-- A text has one answer.
use Rattle.std.proofs.Common.{◌≡◌, ◌<◌, ◌≤◌, ℕ, Bool, false, List, [], ◌∷◌, ◌++◌, length, length-append, append-nil, sym, refl, ap, ◌∙◌, subst, ⊎_elim, ◌⊎◌, inl, inr, arith, Option, Some, None, Result, Ok, Err}
use Rattle.etoken.specs.declared.token.Token.{Token}
use Rattle.etoken.specs.declared.token.Placed.{Placed}
use Rattle.etoken.specs.declared.breaks.Bracket.{Bracket}
use Rattle.etoken.specs.declared.fault.TokenFault.{TokenFault}
use Rattle.etoken.specs.declared.fault.TokenFault.TheVariants as fault
use Rattle.etoken.specs.Spelling.{Spells, Spoils, bad_character, unclosed, bad_escape, too_large}
use Rattle.etoken.specs.Cutting.{Blanks, Piece, piece_at, Cuts, cuts_none, cuts_more}
use Rattle.etoken.specs.Breaks.{with_break, with_breaks_in, with_breaks, behind, may_end}
use Rattle.etoken.specs.Tokens.{Tokens, tokens_all, tokens_fault, tokens_many, tokens_long}
use Rattle.etoken.specs.Laws.{OneAnswer}
use Rattle.etoken.proofs.Shorter.{spells_less}
use Rattle.etoken.proofs.Single.{blanks_is, spells_is, spoils_is}

-- blanks end in one place
blanks_same : {a b c : List ℕ} {x y : Bool} → Blanks a x b → Blanks a y c → (x ≡ y) × (b ≡ c)
blanks_same p q = let e = sym (blanks_is false p) ∙ blanks_is false q in (ap (λ t. t.0) e, ap (λ t. t.1) e)

-- one token stands in front
spells_same : {a r s : List ℕ} {t u : Token} → Spells a t r → Spells a u s → (t ≡ u) × (r ≡ s)
spells_same {r = r} {s = s} {t = t} {u = u} p q =
    let e = sym (spells_is 0 p) ∙ spells_is 0 q in
    let same : ◌≡◌ {A = Token × List ℕ} (t, r) (u, s) = cc e in
    (ap (λ p. p.0) same, ap (λ p. p.1) same)

-- where a token stands in front there is no fault
not_spoiled : {n : ℕ} {a r : List ℕ} {t : Token} {f : TokenFault} → Spells a t r → Spoils n a f → ⊥
not_spoiled {n} p q = absurd (cc (sym (spells_is n p) ∙ spoils_is q))

-- what stands behind the tokens: the end, or a bad token
abbrev End : ℕ → List ℕ → Option TokenFault → Type 0
End n r None = (broken : Bool) × Blanks r broken []
End n r (Some f) = (broken : Bool) × (c : List ℕ) × (Blanks r broken c × Spoils n c f)

-- where a text is cut further: a token stands in front
record Further (n : ℕ) (a : List ℕ) (ps : List Piece) (r : List ℕ) : Type 0 where
  broken : Bool
  in_front : List ℕ
  after : List ℕ
  spelled : Token
  more : List Piece
  blanks : Blanks a broken in_front
  spells : Spells in_front spelled after
  cuts : Cuts n after more r
  whole : ps ≡ piece_at n broken spelled in_front ∷ more

-- a text is cut no further, or a token stands in front
cuts_view : {n : ℕ} {a r : List ℕ} {ps : List Piece} → Cuts n a ps r → ((ps ≡ []) × (a ≡ r)) ⊎ Further n a ps r
cuts_view cuts_none = inl (refl, refl)
cuts_view (cuts_more {b = b} {c = c} {broken = broken} {t = t} {ps = ps} blanks spells cuts) = inr (record { broken = broken; in_front = b; after = c; spelled = t; more = ps; blanks = blanks; spells = spells; cuts = cuts; whole = refl })

-- the tokens of one cut are the first of the other
record Extends (n : ℕ) (ps : List Piece) (r : List ℕ) (qs : List Piece) (s : List ℕ) : Type 0 where
  rest : List Piece
  cuts : Cuts n r rest s
  whole : qs ≡ ps ++ rest

-- of two cuts of a text, one goes on from the other
cuts_compare : {n : ℕ} {a r s : List ℕ} {ps qs : List Piece} → Cuts n a ps r → Cuts n a qs s → Extends n ps r qs s ⊎ Extends n qs s ps r
cuts_compare cuts_none q = inl (record { rest = _; cuts = q; whole = refl })
cuts_compare {n} {a} {r} {s} {ps} {qs} (cuts_more {b = b} {c = c} {broken = broken} {t = t} {ps = more} blanks spells cuts) q = ⊎_elim
    (λ (e : (qs ≡ []) × (a ≡ s)). inr (record { rest = ps; cuts = subst (λ l. Cuts n l ps r) e.1 (cuts_more blanks spells cuts); whole = sym (ap (λ l. l ++ ps) e.0) }))
    (λ (g : Further n a qs s).
    let first = blanks_same blanks g.blanks in
    let token = spells_same (subst (λ l. Spells l t c) first.1 spells) g.spells in
    let same : piece_at n broken t b ≡ piece_at n g.broken g.spelled g.in_front = λ i. piece_at n (first.0 i) (token.0 i) (first.1 i) in
    ⊎_elim
    (λ (x : Extends n more r g.more s). inl (record { rest = x.rest; cuts = x.cuts; whole = g.whole ∙ (λ i. sym same i ∷ x.whole i) }))
    (λ (x : Extends n g.more s more r). inr (record { rest = x.rest; cuts = x.cuts; whole = (λ i. same i ∷ x.whole i) ∙ sym (ap (λ l. l ++ x.rest) g.whole) }))
    (cuts_compare cuts (subst (λ l. Cuts n l g.more s) (sym token.1) g.cuts)))
    (cuts_view q)

-- no token stands behind the last one
end_stops : {n : ℕ} {r s : List ℕ} {ps : List Piece} (e : Option TokenFault) → End n r e → Cuts n r ps s → (ps ≡ []) × (r ≡ s)
end_stops {n} {r} {s} {ps} e end cuts = ⊎_elim (λ (x : (ps ≡ []) × (r ≡ s)). x) (λ (g : Further n r ps s). absurd (none e end g)) (cuts_view cuts)
  where
    none : (e : Option TokenFault) → End n r e → Further n r ps s → ⊥
    none None end g = let at = blanks_same end.1 g.blanks in omega (arith, ap length at.1, spells_less g.spells)
    none (Some f) end g = let at = blanks_same end.2.0 g.blanks in not_spoiled g.spells (subst (λ l. Spoils n l f) at.1 end.2.1)

-- a text is cut up to its end in one way
pub one_cut : {n : ℕ} {a r s : List ℕ} {ps qs : List Piece} {x y : Bool} → Cuts n a ps r → Blanks r x [] → Cuts n a qs s → Blanks s y [] → ps ≡ qs
one_cut {n} {a} {r} {s} {ps} {qs} {x} {y} p e q f = ⊎_elim
    (λ (g : Extends n ps r qs s). sym (g.whole ∙ ap (λ l. ps ++ l) (end_stops None (x, e) g.cuts).0 ∙ append-nil ps))
    (λ (g : Extends n qs s ps r). g.whole ∙ ap (λ l. qs ++ l) (end_stops None (y, f) g.cuts).0 ∙ append-nil qs)
    (cuts_compare p q)

-- a bad token has a byte
spoils_some : {n : ℕ} {a : List ℕ} {f : TokenFault} → Spoils n a f → 0 < length a
spoils_some (bad_character nothing none) = omega arith
spoils_some (unclosed quoted stop) = omega arith
spoils_some (bad_escape quoted unknown) = omega arith
spoils_some (too_large {ds = ds} {r = r} digits large) = omega (arith, ap length digits.longest.whole, length-append ds r, digits.some)

-- a text ends in one way
end_same : (n : ℕ) (r : List ℕ) (e f : Option TokenFault) → End n r e → End n r f → e ≡ f
end_same n r None None x y = refl
end_same n r None (Some g) x y = absurd (let at = blanks_same x.1 y.2.0 in omega (arith, ap length at.1, spoils_some y.2.1))
end_same n r (Some g) None x y = absurd (let at = blanks_same y.1 x.2.0 in omega (arith, ap length at.1, spoils_some x.2.1))
end_same n r (Some g) (Some h) x y =
    let at = blanks_same x.2.0 y.2.0 in
    let e = sym (spoils_is (subst (λ l. Spoils n l g) at.1 x.2.1)) ∙ spoils_is y.2.1 in
    let same : g ≡ h = cc e in
    ap Some same

-- the answer for tokens behind which the text ends so
abbrev answer : List Piece → Option TokenFault → Result (List Placed) TokenFault
answer ps None = Ok (with_breaks ps)
answer ps (Some f) = Err f

-- a text of at most so many bytes, cut up to its end, with at most so many tokens
record Ended (text : List ℕ) (x : Result (List Placed) TokenFault) : Type 0 where
  short : length text ≤ 65536
  ps : List Piece
  r : List ℕ
  cuts : Cuts (length text) text ps r
  how : Option TokenFault
  ends : End (length text) r how
  few : length (with_breaks ps) ≤ 16384
  is : x ≡ answer ps how

-- a text of at most so many bytes, with more than so many tokens
record Many (text : List ℕ) (x : Result (List Placed) TokenFault) : Type 0 where
  short : length text ≤ 65536
  ps : List Piece
  r : List ℕ
  cuts : Cuts (length text) text ps r
  many : 16384 < length (with_breaks ps)
  is : x ≡ Err fault.TooLong

-- why a text has an answer
tokens_view : {text : List ℕ} {x : Result (List Placed) TokenFault} → Tokens text x → Ended text x ⊎ (Many text x ⊎ ((65536 < length text) × (x ≡ Err fault.TooLong)))
tokens_view (tokens_all {ps = ps} {r = r} {broken = broken} short cuts blanks few) =
    inl (record { short = short; ps = ps; r = r; cuts = cuts; how = None; ends = (broken, blanks); few = few; is = refl })
tokens_view (tokens_fault {ps = ps} {r = r} {c = c} {broken = broken} {f = f} short cuts blanks spoils few) =
    inl (record { short = short; ps = ps; r = r; cuts = cuts; how = Some f; ends = (broken, c, (blanks, spoils)); few = few; is = refl })
tokens_view (tokens_many {ps = ps} {r = r} short cuts many) = inr (inl (record { short = short; ps = ps; r = r; cuts = cuts; many = many; is = refl }))
tokens_view (tokens_long long) = inr (inr (long, refl))

-- more tokens are no fewer with their semicolons
breaks_grow : (brackets : List Bracket) (ended : Bool) (ps qs : List Piece) → length (with_breaks_in brackets ended ps) ≤ length (with_breaks_in brackets ended (ps ++ qs))
breaks_grow brackets ended [] qs = omega arith
breaks_grow brackets ended (p ∷ ps) qs =
    let first = with_break brackets ended p in
    let more = breaks_grow (behind p.placed.token brackets) (may_end p.placed.token) ps qs in
    omega (arith, more, length-append first (with_breaks_in (behind p.placed.token brackets) (may_end p.placed.token) ps), length-append first (with_breaks_in (behind p.placed.token brackets) (may_end p.placed.token) (ps ++ qs)))

-- two cuts up to the end are the same
ended_ended : {text : List ℕ} {x y : Result (List Placed) TokenFault} → Ended text x → Ended text y → x ≡ y
ended_ended {text} {x} {y} a b = a.is ∙ ⊎_elim one other (cuts_compare a.cuts b.cuts) ∙ sym b.is
  where
    one : Extends (length text) a.ps a.r b.ps b.r → answer a.ps a.how ≡ answer b.ps b.how
    one g =
        let stop = end_stops a.how a.ends g.cuts in
        let same : b.ps ≡ a.ps = g.whole ∙ ap (λ l. a.ps ++ l) stop.0 ∙ append-nil a.ps in
        let how = end_same (length text) b.r a.how b.how (subst (λ l. End (length text) l a.how) stop.1 a.ends) b.ends in
        λ i. answer (sym same i) (how i)

    other : Extends (length text) b.ps b.r a.ps a.r → answer a.ps a.how ≡ answer b.ps b.how
    other g =
        let stop = end_stops b.how b.ends g.cuts in
        let same : a.ps ≡ b.ps = g.whole ∙ ap (λ l. b.ps ++ l) stop.0 ∙ append-nil b.ps in
        let how = end_same (length text) a.r a.how b.how a.ends (subst (λ l. End (length text) l b.how) stop.1 b.ends) in
        λ i. answer (same i) (how i)

-- a text with few enough tokens has not too many
ended_many : {text : List ℕ} {x y : Result (List Placed) TokenFault} → Ended text x → Many text y → ⊥
ended_many {text} a b = ⊎_elim one other (cuts_compare a.cuts b.cuts)
  where
    one : Extends (length text) a.ps a.r b.ps b.r → ⊥
    one g =
        let stop = end_stops a.how a.ends g.cuts in
        let same : b.ps ≡ a.ps = g.whole ∙ ap (λ l. a.ps ++ l) stop.0 ∙ append-nil a.ps in
        omega (arith, ap (λ l. length (with_breaks l)) same, a.few, b.many)

    other : Extends (length text) b.ps b.r a.ps a.r → ⊥
    other g = omega (arith, ap (λ l. length (with_breaks l)) g.whole, breaks_grow [] false b.ps g.rest, a.few, b.many)

-- no text has two answers
pub one_answer : OneAnswer
one_answer text x y p q = ⊎_elim ended (λ m. ⊎_elim many long m) (tokens_view p)
  where
    ended : Ended text x → x ≡ y
    ended a = ⊎_elim (λ (b : Ended text y). ended_ended a b)
        (λ m. ⊎_elim (λ (b : Many text y). absurd (ended_many a b)) (λ (b : (65536 < length text) × (y ≡ Err fault.TooLong)). absurd (omega (arith, a.short, b.0))) m) (tokens_view q)

    many : Many text x → x ≡ y
    many a = ⊎_elim (λ (b : Ended text y). absurd (ended_many b a))
        (λ m. ⊎_elim (λ (b : Many text y). a.is ∙ sym b.is) (λ (b : (65536 < length text) × (y ≡ Err fault.TooLong)). a.is ∙ sym b.1) m) (tokens_view q)

    long : (65536 < length text) × (x ≡ Err fault.TooLong) → x ≡ y
    long a = ⊎_elim (λ (b : Ended text y). absurd (omega (arith, b.short, a.0)))
        (λ m. ⊎_elim (λ (b : Many text y). a.1 ∙ sym b.is) (λ (b : (65536 < length text) × (y ≡ Err fault.TooLong)). a.1 ∙ sym b.1) m) (tokens_view q)
