-- Whens that are delivered: their blocks begin with the names that were captured.
use Rattle.std.proofs.Common.{◌≡◌, List, ◌++◌, false, refl, sym, ap, ◌∙◌, subst, append-nil}
use Rattle.kernele.specs.Tree.{Name, Trees}
use Rattle.kernele.specs.declared.tree.Pattern.{Pattern}
use Rattle.kernele.specs.declared.tree.Pattern.TheVariants as pattern
use Rattle.code.specs.Frames.{fits_all, only_names}
use Rattle.code.specs.declared.code.Code.{Code}
use Rattle.kernele_scopes.specs.Scope.{name_of}
use Rattle.values.specs.Data.{null, text}
use Rattle.heap.specs.Names.{names_of}
use Rattle.heap.specs.View.{nouns_of}
use Rattle.heap.specs.State.{Nouns, frame_of}
use Rattle.heap.specs.declared.state.Noun.{Noun}
use Rattle.heap.proofs.Names.{frame_of_nouns}
use Rattle.eval_rules.specs.At.{At}
use Rattle.eval_rules.specs.Fits.{all_fit_at}
use Rattle.eval_rules.specs.Outcomes.{End, Halt, halt, thrown}
use Rattle.eval_rules.specs.Rules.{Items, enters, gives, inside, matched, named, Target}
use Rattle.turn_deliveries.specs.Turn.{Led, led_enters, led_gives}
use Rattle.turn_deliveries.proofs.Coming.{led_from}

-- a block fits the names that were captured
pub captured_fits : (cs : List Noun) (a b : At) {ds es : List Code} → b ≡ inside (nouns_of cs) a → ds ≡ es → fits_all false (names_of cs) es → all_fit_at b ds
captured_fits cs a b {ds = ds} {es = es} place same h =
    subst (λ b. all_fit_at b ds) (sym place) (subst (fits_all false (frame_of (nouns_of cs))) (sym same) (subst (λ f. fits_all false f es) (sym (frame_of_nouns cs)) h))

-- a pattern takes a problem where the captured names are, as it takes it before they are there
taken_inside : (p : Pattern) (problem : Name) (ns : Nouns) (a : At) → matched p (text problem) (inside ns a) ≡ inside (named p (text problem) ns) a
taken_inside (pattern.Name x) problem ns a = refl
taken_inside pattern.Ignore problem ns a = refl

-- a handler fits them and what its pattern names
named_fits : (p : Pattern) (problem : Name) (cs : List Noun) (es : List Code) → fits_all false (frame_of (nouns_of cs) ++ only_names (name_of p)) es → fits_all false (frame_of (named p (text problem) (nouns_of cs))) es
named_fits (pattern.Name x) problem cs es h = h
named_fits pattern.Ignore problem cs es h = subst (λ f. fits_all false f es) (append-nil (frame_of (nouns_of cs))) h

pub handler_there : (p : Pattern) (problem : Name) (cs : List Noun) (a : At) {b c : At} → b ≡ inside (nouns_of cs) a → c ≡ matched p (text problem) b → c ≡ inside (named p (text problem) (nouns_of cs)) a
handler_there p problem cs a place taken = taken ∙ ap (matched p (text problem)) place ∙ taken_inside p problem (nouns_of cs) a

pub handled_fits : (p : Pattern) (problem : Name) (cs : List Noun) (a b : At) {ds es : List Code} → b ≡ inside (named p (text problem) (nouns_of cs)) a → ds ≡ es → fits_all false (names_of cs ++ only_names (name_of p)) es → all_fit_at b ds
handled_fits p problem cs a b {ds = ds} {es = es} place same h =
    subst (λ b. all_fit_at b ds) (sym place) (subst (fits_all false (frame_of (named p (text problem) (nouns_of cs)))) (sym same)
    (named_fits p problem cs es (subst (λ f. fits_all false (f ++ only_names (name_of p)) es) (sym (frame_of_nouns cs)) h)))

-- a block that was run is what a target led to
pub entered_there : {t : Target} {ns : Nouns} {us ts : Trees} {a b c : At} {o : End} → t ≡ enters ns ts → us ≡ ts → b ≡ inside ns a → Items 1 null us b o c → Led t a o c
entered_there {ns = ns} {us = us} {ts = ts} {a = a} {b = b} {c = c} {o = o} is same place r =
    led_from is refl (led_enters (subst (λ x. Items 1 null x (inside ns a) o c) same (subst (λ b. Items 1 null us b o c) place r)))

-- a problem that nothing handles is thrown
pub thrown_there : {t : Target} {a b : At} {h : Halt} {words problem : Name} → t ≡ gives (halt (thrown problem)) → words ≡ problem → h ≡ thrown words → b ≡ a → Led t a (halt h) b
thrown_there {a = a} {h = h} {problem = problem} is same e f =
    led_from is refl (subst (λ b. Led (gives (halt (thrown problem))) a (halt h) b) (sym f) (subst (λ g. Led (gives (halt (thrown problem))) a (halt g) a) (sym (e ∙ ap thrown same)) led_gives))
