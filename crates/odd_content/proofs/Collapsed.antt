-- White space collapsed in a legal text: what is collapsed stays so, it is legal, and where the text has a word it is not empty.
use Rattle.std.proofs.Common.{◌≡◌, ◌≢◌, ℕ, Bool, true, false, if◌then◌else◌, List, [], ◌∷◌, refl, sym, ap, ◌∙◌}
use Rattle.std.proofs.Math.Utf8.{scalars}
use Rattle.std.proofs.lemmas.Bool.{and_from, and_parts, cond_both}
use Rattle.std.proofs.lemmas.Str.{chars-encodes}
use Rattle.std.specs.List.{list_all, list_any}
use Rattle.std.specs.Str.{chars, encode_utf8_all}
use Rattle.odd_tokens.proofs.Characters.{char_scalar, some_encoded}
use Rattle.odd_tokens.specs.Characters.{IsLegal, is_char, is_space}
use Rattle.odd_tokens.specs.Lexing.{is_empty}
use Rattle.rng_types.proofs.Spaced.{any_word, no_space}
use Rattle.rng_types.specs.Words.{words_of}
use Rattle.rng_values.proofs.Collapsing.{all_collapsed, at_other, collapsing}
use Rattle.rng_values.specs.Treated.{collapsed, collapsed_text}
use Rattle.odd_content.specs.FormedData.{IsListed}

-- after a first character what is collapsed stays so
again_later : (gap : Bool) (cs : List ℕ) → collapsing true false (collapsing true gap cs) ≡ collapsing true gap cs
again_later gap [] = refl
again_later gap (c ∷ cs) =
    cond_both (is_space c) (collapsing true true cs) (if gap then 0x20 ∷ c ∷ collapsing true false cs else c ∷ collapsing true false cs) (λ made. collapsing true false made ≡ made)
    (λ space. again_later true cs) (by gap (again_later false cs))
  where
    by : (due : Bool) → collapsing true false (collapsing true false cs) ≡ collapsing true false cs → is_space c ≡ false
        → collapsing true false (if due then 0x20 ∷ c ∷ collapsing true false cs else c ∷ collapsing true false cs) ≡ (if due then 0x20 ∷ c ∷ collapsing true false cs else c ∷ collapsing true false cs)
    by true rest other = at_other true true c (collapsing true false cs) other ∙ ap (λ x. 0x20 ∷ c ∷ x) rest
    by false rest other = at_other true false c (collapsing true false cs) other ∙ ap (λ x. c ∷ x) rest

-- and from the first on
again : (cs : List ℕ) → collapsing false false (collapsing false false cs) ≡ collapsing false false cs
again [] = refl
again (c ∷ cs) =
    cond_both (is_space c) (collapsing false false cs) (c ∷ collapsing true false cs) (λ made. collapsing false false made ≡ made) (λ space. again cs)
    (λ other. at_other false false c (collapsing true false cs) other ∙ ap (λ x. c ∷ x) (again_later false cs))

space_legal : is_char 0x20 ≡ true
unfolding is_char
space_legal = refl

-- legal characters stay legal
still_legal : (begun gap : Bool) (cs : List ℕ) → list_all is_char cs ≡ true → list_all is_char (collapsing begun gap cs) ≡ true
still_legal begun gap [] h = refl
still_legal begun gap (c ∷ cs) h =
    cond_both (is_space c) (collapsing begun begun cs) (if gap then 0x20 ∷ c ∷ collapsing true false cs else c ∷ collapsing true false cs) (λ made. list_all is_char made ≡ true)
    (λ space. still_legal begun begun cs (and_parts _ _ h).1) (λ other. by gap (and_from _ _ (and_parts _ _ h).0 (still_legal true false cs (and_parts _ _ h).1)))
  where
    by : (due : Bool) → list_all is_char (c ∷ collapsing true false cs) ≡ true → list_all is_char (if due then 0x20 ∷ c ∷ collapsing true false cs else c ∷ collapsing true false cs) ≡ true
    by true more = and_from _ _ space_legal more
    by false more = more

-- where one is no white space, some stay
some_stay : (cs : List ℕ) → list_any no_space cs ≡ true → collapsing false false cs ≢ []
some_stay [] h = λ e. cc
some_stay (c ∷ cs) h =
    cond_both (is_space c) (collapsing false false cs) (c ∷ collapsing true false cs) (λ made. made ≢ []) (λ space. some_stay cs (rw space at h)) (λ other e. cc)

-- and then they have bytes
some_bytes : (cs : List ℕ) → cs ≢ [] → encode_utf8_all cs ≢ []
some_bytes [] h e = h refl
some_bytes (c ∷ cs) h e = let no : true ≡ false = sym (ap is_empty e) ∙ some_encoded c cs in cc

all_scalar : (cs : List ℕ) → list_all is_char cs ≡ true → scalars cs ≡ true
all_scalar [] h = refl
all_scalar (c ∷ cs) h = let p = and_parts _ _ h in and_from _ _ (char_scalar c p.0) (all_scalar cs p.1)

-- what is made of a legal text that has a word may be listed
pub collapsed_listed : (value : List ℕ) → IsLegal value → words_of value ≢ [] → IsListed (collapsed_text value)
collapsed_listed value legal filled =
    let cs = legal.0 in
    let made = collapsing false false cs in
    let scalar = all_scalar cs legal.2 in
    let made_legal = still_legal false false cs legal.2 in
    let is : chars value ≡ cs = ap chars (sym legal.1) ∙ chars-encodes cs scalar in
    let text : collapsed_text value ≡ encode_utf8_all made = ap (λ x. encode_utf8_all (collapsed x)) is ∙ ap encode_utf8_all (sym (all_collapsed cs)) in
    let made_is : chars (collapsed_text value) ≡ made = ap chars text ∙ chars-encodes made (all_scalar made made_legal) in
    record {
      collapsed = ap (λ x. encode_utf8_all (collapsed x)) made_is ∙ ap encode_utf8_all (sym (all_collapsed made) ∙ again cs) ∙ sym text;
      filled = λ e. some_bytes made (some_stay cs (ap (list_any no_space) (sym is) ∙ (any_word value (cs, (scalar, legal.1))).1 filled)) (sym text ∙ e);
      legal = (made, sym text, made_legal);
    }

-- what is listed is collapsed
pub listed_collapsed : (value : List ℕ) → IsListed value → collapsed (chars value) ≡ chars value
listed_collapsed value h =
    let cs = h.legal.0 in
    let made = collapsing false false cs in
    let is : chars value ≡ cs = ap chars (sym h.legal.1) ∙ chars-encodes cs (all_scalar cs h.legal.2) in
    let same : collapsed (chars value) ≡ made = ap collapsed is ∙ sym (all_collapsed cs) in
    let spelled : encode_utf8_all made ≡ value = ap encode_utf8_all (sym same) ∙ h.collapsed in
    same ∙ sym (chars-encodes made (all_scalar made (still_legal false false cs h.legal.2))) ∙ ap chars spelled
