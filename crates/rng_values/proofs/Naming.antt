-- Texts of one character or more that pass a test, and names.
use Rattle.std.proofs.Common.{◌≡◌, ℕ, ◌==◌, ◌&&◌, ◌||◌, ◌≢◌, ◌↔◌, Bool, true, false, not, List, [], ◌∷◌, refl, sym, ap, ◌∙◌, length, IsTrue, IsUtf8, MatchBool, None, drop, ⊎_elim}
use Rattle.std.proofs.lemmas.Bool.{and_from, and_parts, both_ways, cases_Bool, eq-eqb, eqb-true, not_from_true, or_cases, or_left, or_right}
use Rattle.std.proofs.lemmas.List.{nil_from_length}
use Rattle.std.proofs.lemmas.Str.{chars-nil, chars_past_char, encodes-chars, scalars-chars}
use Rattle.std.proofs.Math.Utf8.{scalar, scalars}
use denote.Param.Members.{Mut}
use Rattle.std.specs.Fn.{AlwaysReturns}
use Rattle.std.specs.List.{list_all}
use Rattle.std.specs.Str.{chars, encode_utf8_all}
use Rattle.std.specs.Str.Pattern.{FindsPrefixBy, HasPrefixMatch}
use Rattle.odd_tokens.specs.Characters.{is_name_char, is_name_start, is_ncname}
use Rattle.rng_types.specs.declared.data_type.DataType.TheVariants as kind
use Rattle.rng_values.specs.Lexical.{HasForm, is_nmtoken_char}
use Rattle.rng_values.proofs.Trimming.{ByClosure}

-- two equal tests
pub same_test : {r s : Bool} → r ≡ s → IsTrue r ↔ IsTrue s
same_test e = (λ h. sym e ∙ h, λ h. e ∙ h)

-- one statement for another, and that for a third
pub through : {A B C : Type 0} → A ↔ B → B ↔ C → A ↔ C
through f g = (λ a. g.0 (f.0 a), λ c. f.1 (g.1 c))

-- a text without bytes has no characters, and no other has none
pub empty_chars : (text : List ℕ) → (length text == 0) ≡ true → chars text ≡ []
empty_chars text h = ap chars (nil_from_length text (eqb-true (length text) 0 h)) ∙ chars-nil

-- a text with a byte has a character
pub some_chars : (text : List ℕ) → IsUtf8 text → (length text == 0) ≡ false → chars text ≢ []
some_chars text u h e = both_ways _ h (eq-eqb (length text) 0 (ap length (sym (encodes-chars text u) ∙ ap encode_utf8_all e)))

-- one character or more, which all pass
pub some_pass : (p : ℕ → Bool) (text : List ℕ) (empty r : Bool) → IsUtf8 text → empty ≡ (length text == 0) → empty ≡ false → r ≡ list_all p (chars text)
    → IsTrue r ↔ ((chars text ≢ []) × IsTrue (list_all p (chars text)))
some_pass p text empty r u e some is = (λ h. (some_chars text u (sym e ∙ some), sym is ∙ h), λ h. is ∙ h.1)

-- an empty text has none
pub none_passes : (p : ℕ → Bool) (text : List ℕ) (empty : Bool) → empty ≡ (length text == 0) → empty ≡ true
    → IsTrue (not empty) ↔ ((chars text ≢ []) × IsTrue (list_all p (chars text)))
none_passes p text empty e none = (λ h. absurd (both_ways _ (not_from_true empty none) h), λ h. absurd (h.0 (empty_chars text (sym e ∙ none))))

-- whether the first character passes
abbrev pub begins : (ℕ → Bool) → List ℕ → Bool
begins p [] = false
begins p (c ∷ cs) = p c

-- which `starts_with` tests by a closure
pub first_tested : {F : Type 0} {g : Mut F (ℕ × Unit {0}) Bool} {f : F} (p : ℕ → Bool) (text : List ℕ) (r : Bool) → IsUtf8 text
    → MatchBool r (HasPrefixMatch (ByClosure FindsPrefixBy g f) text) (ByClosure FindsPrefixBy g f text None) → AlwaysReturns g (λ a r. r ≡ p a.0) f → r ≡ begins p (chars text)
first_tested p text true u h a =
    let found = h.1 p a in
    sym (ap (begins p) (chars_past_char text (drop h.0 text) found.0 u found.2.split) ∙ found.1)
first_tested {F} {g} {f} p text false u h a = sym (none (chars text) refl)
  where
    none : (cs : List ℕ) → chars text ≡ cs → begins p cs ≡ false
    none [] e = refl
    none (c ∷ cs) e = h p a c (encode_utf8_all cs) (and_parts (scalar c) (scalars cs) (sym (ap scalars e) ∙ scalars-chars text u)).0 (sym (encodes-chars text u) ∙ ap encode_utf8_all e)

-- what begins a name goes on with one

-- a character that begins an NCName goes on with one
start_goes_on : (c : ℕ) → is_name_start c ≡ true → is_name_char c ≡ true
unfolding is_name_char
start_goes_on c h = rw h refl

abbrev pub begins_name : ℕ → Bool
begins_name c = is_name_start c || c == 0x3A

-- and one that begins a Name
start_is_nmtoken : (c : ℕ) → begins_name c ≡ true → is_nmtoken_char c ≡ true
start_is_nmtoken c h = ⊎_elim (λ e. or_left (is_name_char c) (c == 0x3A) (start_goes_on c e)) (or_right (is_name_char c) (c == 0x3A)) (or_cases (is_name_start c) (c == 0x3A) h)

-- an NCName is tested by its first character and by all
pub ncname_tested : (cs : List ℕ) → (begins is_name_start cs && list_all is_name_char cs) ≡ is_ncname cs
ncname_tested [] = refl
ncname_tested (c ∷ cs) =
    ⊎_elim (λ e. rw (e, start_goes_on c e) refl) (λ e. rw e refl) (cases_Bool (is_name_start c))

-- so is a Name
pub name_tested : (cs : List ℕ) → (IsTrue (begins begins_name cs) × HasForm kind.Nmtoken cs) ↔ HasForm kind.Name cs
name_tested [] = (λ h. h.1.0 refl, λ h. absurd h)
name_tested (c ∷ cs) = (
  λ h. (h.0, (and_parts (is_nmtoken_char c) (list_all is_nmtoken_char cs) h.1.1).1),
  λ h. (h.0, ((λ e. cc), and_from (is_nmtoken_char c) (list_all is_nmtoken_char cs) (start_is_nmtoken c h.0) h.1)),
)
