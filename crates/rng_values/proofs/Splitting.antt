-- A text that is cut at an ASCII character, in characters.
use Rattle.std.proofs.Common.{◌≡◌, ℕ, ◌<◌, ◌==◌, ◌++◌, Bool, not, List, [], ◌∷◌, refl, arith, sym, ap, ap₂, ◌∙◌, subst, IsTrue, IsUtf8, drop}
use Rattle.std.proofs.lemmas.Bool.{and_from, and_parts, not_from_false}
use Rattle.std.proofs.lemmas.List.Folds.{list_all-append}
use Rattle.std.proofs.lemmas.List.{take-append-drop}
use Rattle.std.proofs.lemmas.Str.{IsCharBoundary-before_ascii, IsUtf8-take, len_utf8_bounds, IsUtf8-past_char, IsUtf8-drop, chars-append, chars_from_encodes, chars_past_char, encode_ascii}
use Rattle.std.specs.List.{list_all}
use Rattle.std.specs.Str.{IsCharBoundary, NoCharPasses, NonePass, chars}
use Rattle.std.specs.Str.Pattern.{FindsChar, SplitsAroundMatch}

-- a text that begins with the character
pub stripped : (c : ℕ) (text rest : List ℕ) → IsUtf8 text → c < 128 → text ≡ c ∷ rest → chars text ≡ c ∷ chars rest
stripped c text rest u low e = chars_past_char text rest c u (e ∙ ap (λ x. x ++ rest) (sym (encode_ascii c low)))

-- what holds of all items of two lists

pub all_joined : (p : ℕ → Bool) (xs ys : List ℕ) → IsTrue (list_all p xs) → IsTrue (list_all p ys) → IsTrue (list_all p (xs ++ ys))
all_joined p xs ys h k = list_all-append p xs ys ∙ and_from (list_all p xs) (list_all p ys) h k

pub all_apart : (p : ℕ → Bool) (xs ys : List ℕ) → IsTrue (list_all p (xs ++ ys)) → IsTrue (list_all p xs) × IsTrue (list_all p ys)
all_apart p xs ys h = and_parts (list_all p xs) (list_all p ys) (sym (list_all-append p xs ys) ∙ h)

-- the test that fails at one character
abbrev pub is_other : ℕ → ℕ → Bool
is_other c d = not (d == c)

-- the same said by a test
all_other : (c : ℕ) (cs : List ℕ) → NonePass (λ d. d == c) cs → IsTrue (list_all (is_other c) cs)
all_other c [] h = refl
all_other c (d ∷ ds) h = and_from (is_other c d) (list_all (is_other c) ds) (not_from_false (d == c) h.0) (all_other c ds h.1)

-- a text without the character
pub none_cut : (c : ℕ) (text : List ℕ) → IsUtf8 text → NoCharPasses (λ d. d == c) text → IsTrue (list_all (is_other c) (chars text))
none_cut c text u h = subst (λ cs. IsTrue (list_all (is_other c) cs)) (chars_from_encodes h.0 text u h.1) (all_other c h.0 h.2)

-- the parts around the first
pub record IsCutAt (c : ℕ) (text front back : List ℕ) : Type 0 where
  pub front_text : IsUtf8 front
  pub back_text : IsUtf8 back
  pub parts : chars text ≡ chars front ++ c ∷ chars back
  pub first : IsTrue (list_all (is_other c) (chars front))

-- as `split_once` cuts
pub cut_at : (c : ℕ) (text front back : List ℕ) → IsUtf8 text → c < 128 → SplitsAroundMatch (FindsChar c) text front back → IsCutAt c text front back
cut_at c text front back u low h =
    let i = h.0 in
    let at = h.2.1 in
    let rest : drop i text ≡ c ∷ back = at.split ∙ ap₂ (λ x y. x ++ y) (encode_ascii c low) (sym h.4) in
    let place : IsCharBoundary text i = IsCharBoundary-before_ascii text i (omega (arith, at.ends, (len_utf8_bounds c).0)) (rw (at.byte low) low) in
    let front_text : IsUtf8 front = rw h.3 (IsUtf8-take text i u place) in
    let rest_text : IsUtf8 (c ∷ back) = subst IsUtf8 rest (IsUtf8-drop text i u place) in
    let whole : text ≡ front ++ c ∷ back = sym (take-append-drop i text) ∙ ap₂ (λ x y. x ++ y) (sym h.3) rest in
    record {
      front_text = front_text;
      back_text = IsUtf8-past_char (c ∷ back) back c rest_text (ap (λ x. x ++ back) (sym (encode_ascii c low)));
      parts = ap chars whole ∙ chars-append front (c ∷ back) front_text ∙ ap (λ x. chars front ++ x) (stripped c (c ∷ back) back rest_text low refl);
      first = none_cut c front front_text (rw h.3 h.2.0);
    }
