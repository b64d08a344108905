-- Verbs of data and their texts.
use Rattle.std.proofs.Common.{◌≡◌, ℕ, Bool, true, false, cond, List, [], ◌∷◌, Option, Some, None, refl, sym, ap, ◌∙◌, arith}
use Rattle.std.specs.Str.{bytes_eq}
use Rattle.std.proofs.lemmas.Slice.Eq.{bytes_eq-Decides}
use Rattle.values.specs.declared.verb.Word.TheVariants as word
use Rattle.values.specs.declared.verb.Word.{Word}
use Rattle.values.specs.Verbs.{text_of, words, word_among, word_of}
use Rattle.values.specs.Data.{Val, null, bool, int, text, list, object, ejector, promise, broken, Vals, no_vals, and_val}
use Rattle.values.specs.Replies.{data_reply}
use Rattle.values.specs.Laws.{lacking}

pub each_found : (w : Word) → word_of (text_of w) ≡ Some w
each_found word.Add = refl
each_found word.Subtract = refl
each_found word.Multiply = refl
each_found word.FloorDivide = refl
each_found word.LessThan = refl
each_found word.AtMost = refl
each_found word.MoreThan = refl
each_found word.AtLeast = refl
each_found word.Negate = refl
each_found word.Not = refl
each_found word.Size = refl
each_found word.With = refl
each_found word.Get = refl

-- the first of a list, or one of the others
first_or_other : (u w : Word) (other : Option Word) (s : List ℕ) (b : Bool) → b ≡ bytes_eq s (text_of u) → (other ≡ Some w → s ≡ text_of w) → cond b (Some u) other ≡ Some w → s ≡ text_of w
first_or_other u w other s true b h e = (bytes_eq-Decides s (text_of u)).0 (sym b) ∙ ap text_of (let f : u ≡ w = cc in f)
first_or_other u w other s false b h e = h e

spelled_among : (ws : List Word) (s : List ℕ) (w : Word) → word_among ws s ≡ Some w → s ≡ text_of w
spelled_among [] s w e = cc
spelled_among (u ∷ us) s w e = first_or_other u w (word_among us s) s (bytes_eq s (text_of u)) refl (spelled_among us s w) e

pub spelled : (s : List ℕ) (w : Word) → word_of s ≡ Some w → s ≡ text_of w
spelled s w e = spelled_among words s w e

pub others : (v : Val) (s : List ℕ) (vs : Vals) → word_of s ≡ None → data_reply v s vs ≡ lacking v s vs
others null s vs e = refl
others (bool b) s no_vals e = grind arith
others (bool b) s (and_val v vs) e = refl
others (int x) s no_vals e = grind arith
others (int x) s (and_val v no_vals) e = grind arith
others (int x) s (and_val v (and_val w ws)) e = refl
others (text t) s no_vals e = grind arith
others (text t) s (and_val v no_vals) e = grind arith
others (text t) s (and_val v (and_val w ws)) e = refl
others (list us) s no_vals e = grind arith
others (list us) s (and_val v no_vals) e = grind arith
others (list us) s (and_val v (and_val w ws)) e = refl
others (object o) s vs e = refl
others (ejector j) s vs e = refl
others (promise p) s vs e = refl
others (broken p) s vs e = refl
