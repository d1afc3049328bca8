-- White space taken off the ends of a text, and the forms that hold of no text with white space in it.
use Rattle.std.proofs.Common.{◌≡◌, ℕ, Bool, true, false, not, List, [], ◌∷◌, ◌++◌, refl, sym, ap, ◌∙◌, ◌↔◌, append_assoc, append-nil, IsTrue, ⊎_elim, subst, arith, ap₂, ◌-◌, drop, length, IsUtf8, encode_utf8, Option, Some, None}
use Rattle.std.proofs.lemmas.Bool.{and_from, and_parts, cases_Bool, both_ways}
use Rattle.std.proofs.lemmas.Bool.Decides.{nat_tests}
use Rattle.std.proofs.lemmas.List.{drop_all, take-append-drop}
use Rattle.std.proofs.lemmas.Str.{chars-append, chars-encodes, encodes-chars, len_utf8_bounds, scalars-chars}
use Rattle.std.proofs.Math.Utf8.{scalar, scalars}
use Rattle.std.specs.Char.{IsScalar}
use denote.Param.Members.{Mut}
use Rattle.std.specs.Fn.{AlwaysReturns}
use Rattle.std.specs.List.{list_all}
use Rattle.std.specs.Prelude.{IfSome}
use Rattle.std.specs.Str.{chars, encode_utf8_all}
use Rattle.std.specs.Str.Pattern.{CutsPrefixes, CutsSuffixes, FindsPrefixBy, FindsSuffixBy, IsFullyTrimmed, IsTrimEndMatches, IsTrimStartMatches}
use Rattle.odd_tokens.proofs.Characters.{encoded_more, list_all_more}
use Rattle.odd_tokens.specs.Characters.{is_space, is_white}
use Rattle.rng_types.proofs.Spaced.{no_space}
use Rattle.rng_values.specs.Treated.{collapsed}
use Rattle.rng_values.specs.Trimmed.{IsTrimmed}
use Rattle.rng_values.proofs.Collapsing.{all_collapsed, at_other, at_space, collapsing}

-- a test and its negation
not_space : (c : ℕ) → no_space c ≡ true → is_space c ≡ false
not_space c h = ⊎_elim (λ e. absurd (both_ways _ (ap not e) h)) (λ e. e) (cases_Bool (is_space c))

-- white space at the front gives nothing
front_lost : (before rest : List ℕ) → IsTrue (is_white before) → collapsing false false (before ++ rest) ≡ collapsing false false rest
front_lost [] rest h = refl
front_lost (c ∷ cs) rest h =
    at_space false false c (cs ++ rest) (and_parts (is_space c) (is_white cs) h).0 ∙ front_lost cs rest (and_parts (is_space c) (is_white cs) h).1

-- and at the end
end_lost : (begun gap : Bool) (after : List ℕ) → IsTrue (is_white after) → collapsing begun gap after ≡ []
end_lost begun gap [] h = refl
end_lost begun gap (c ∷ cs) h =
    at_space begun gap c cs (and_parts (is_space c) (is_white cs) h).0 ∙ end_lost begun begun cs (and_parts (is_space c) (is_white cs) h).1

-- characters that are no white space stay
stays : (begun : Bool) (kept after : List ℕ) → IsTrue (list_all no_space kept) → IsTrue (is_white after) → collapsing begun false (kept ++ after) ≡ kept
stays begun [] after h w = end_lost begun false after w
stays begun (c ∷ cs) after h w =
    at_other begun false c (cs ++ after) (not_space c (and_parts (no_space c) (list_all no_space cs) h).0)
    ∙ ap (λ x. c ∷ x) (stays true cs after (and_parts (no_space c) (list_all no_space cs) h).1 w)

-- where none of what comes is white space, all that is left is
only_white : (cs : List ℕ) → IsTrue (list_all no_space (collapsing true true cs)) → IsTrue (is_white cs)
only_white [] h = refl
only_white (c ∷ cs) h =
    ⊎_elim
    (λ e. and_from (is_space c) (is_white cs) e (only_white cs (rw (at_space true true c cs e) at h)))
    (λ e. let none : IsTrue (list_all no_space (0x20 ∷ c ∷ collapsing true false cs)) = rw (at_other true true c cs e) at h in cc)
    (cases_Bool (is_space c))

-- white space has a last character
last_white : (c : ℕ) (cs after : List ℕ) → IsTrue (is_white (c ∷ (cs ++ after))) → ((d : ℕ) (front : List ℕ) → c ∷ cs ≡ front ++ d ∷ [] → is_space d ≡ false) → ⊥
last_white c [] after h ends = both_ways _ (ends c [] refl) (and_parts (is_space c) (is_white after) h).0
last_white c (d ∷ cs) after h ends =
    last_white d cs after (and_parts (is_space c) (is_white (d ∷ (cs ++ after))) h).1 (λ e front same. ends e (c ∷ front) (ap (λ x. c ∷ x) same))

-- where none of what comes is white space, none of a text is that ends with another character
none_inside : (cs after : List ℕ) → IsTrue (list_all no_space (collapsing true false (cs ++ after))) → ((d : ℕ) (front : List ℕ) → cs ≡ front ++ d ∷ [] → is_space d ≡ false) → IsTrue (list_all no_space cs)
none_inside [] after h ends = refl
none_inside (c ∷ cs) after h ends =
    ⊎_elim
    (λ e. absurd (last_white c cs after (and_from (is_space c) (is_white (cs ++ after)) e (only_white (cs ++ after) (rw (at_space true false c (cs ++ after) e) at h))) ends))
    (λ e.
    let parts = and_parts (no_space c) (list_all no_space (collapsing true false (cs ++ after))) (rw (at_other true false c (cs ++ after) e) at h) in
    and_from (no_space c) (list_all no_space cs) parts.0 (none_inside cs after parts.1 (λ d front same. ends d (c ∷ front) (ap (λ x. c ∷ x) same))))
    (cases_Bool (is_space c))

-- the same from a first character that is none
from_first : (cs after : List ℕ) → IsTrue (list_all no_space (collapsing false false (cs ++ after))) → ((c : ℕ) (rest : List ℕ) → cs ≡ c ∷ rest → is_space c ≡ false)
    → ((d : ℕ) (front : List ℕ) → cs ≡ front ++ d ∷ [] → is_space d ≡ false) → IsTrue (list_all no_space cs)
from_first [] after h begins ends = refl
from_first (c ∷ cs) after h begins ends =
    let parts = and_parts (no_space c) (list_all no_space (collapsing true false (cs ++ after))) (rw (at_other false false c (cs ++ after) (begins c cs refl)) at h) in
    and_from (no_space c) (list_all no_space cs) parts.0 (none_inside cs after parts.1 (λ d front same. ends d (c ∷ front) (ap (λ x. c ∷ x) same)))

-- a form that holds of no text with white space holds of the collapsed text just where it holds of the trimmed one
pub trimmed_fits : (P : List ℕ → Type 0) (cs trimmed : List ℕ) → ((xs : List ℕ) → P xs → IsTrue (list_all no_space xs)) → IsTrimmed cs trimmed → P trimmed ↔ P (collapsed cs)
trimmed_fits P cs trimmed apart t =
    let made : collapsed cs ≡ collapsing false false (trimmed ++ t.after) = sym (all_collapsed cs) ∙ ap (collapsing false false) t.parts ∙ front_lost t.before (trimmed ++ t.after) t.white_before in
    let same : IsTrue (list_all no_space trimmed) → collapsed cs ≡ trimmed = λ h. made ∙ stays false trimmed t.after h t.white_after in (
      λ p. subst P (sym (same (apart trimmed p))) p,
      λ p. subst P (same (from_first trimmed t.after (subst (λ xs. IsTrue (list_all no_space xs)) made (apart (collapsed cs) p)) t.begins t.ends)) p,
    )

-- what std's methods cut off, in characters

-- white space is of Unicode
white_scalars : (cs : List ℕ) → IsTrue (is_white cs) → scalars cs ≡ true
white_scalars [] h = refl
white_scalars (c ∷ cs) h = and_from (scalar c) (scalars cs) (scalar_space c (and_parts (is_space c) (is_white cs) h).0) (white_scalars cs (and_parts (is_space c) (is_white cs) h).1)
  where
    scalar_space : (c : ℕ) → is_space c ≡ true → scalar c ≡ true
    scalar_space c h = grind (arith, nat_tests)

-- so is the last character of such a text
last_scalar : (front : List ℕ) (c : ℕ) → scalars (front ++ c ∷ []) ≡ true → scalar c ≡ true
last_scalar [] c h = (and_parts (scalar c) true h).0
last_scalar (d ∷ front) c h = last_scalar front c (and_parts (scalar d) (scalars (front ++ c ∷ [])) h).1

module _ (R : List ℕ → Option ℕ → Type 0) (finds : (m : List ℕ) (o : Option ℕ) → R m o → FindsPrefixBy is_space m o) where
  -- what is cut off the front is white space
  front_cut : (ns s r : List ℕ) → CutsPrefixes R s ns r → (before : List ℕ) × IsTrue (is_white before) × (s ≡ encode_utf8_all before ++ r)
  front_cut [] s r h = ([], refl, sym h)
  front_cut (n ∷ ns) s r h =
      let cut = front_cut ns s h.0 h.1 in
      let found = finds h.0 (Some n) h.2 in (
        cut.0 ++ found.0 ∷ [],
        list_all_more is_space cut.0 found.0 cut.1 found.1,
        cut.2 ∙ ap (λ x. encode_utf8_all cut.0 ++ x) (found.2.split ∙ ap (λ x. encode_utf8 found.0 ++ x) (sym h.3))
            ∙ sym (append_assoc (encode_utf8_all cut.0) (encode_utf8 found.0) r) ∙ ap (λ x. x ++ r) (sym (encoded_more cut.0 found.0)),
      )

  -- and what stays does not begin with any
  front_kept : (r : List ℕ) → IsFullyTrimmed R r → (c : ℕ) (rest : List ℕ) → IsScalar c → r ≡ encode_utf8 c ++ rest → is_space c ≡ false
  front_kept r h = by_answer h.0 (finds r h.0 h.1) h.2
    where
      by_answer : (o : Option ℕ) → FindsPrefixBy is_space r o → IfSome o (λ n. n ≡ 0) → (c : ℕ) (rest : List ℕ) → IsScalar c → r ≡ encode_utf8 c ++ rest → is_space c ≡ false
      by_answer None f z = f
      by_answer (Some n) f z = absurd (omega (arith, (len_utf8_bounds f.0).0, f.2.ends, z))

module _ (R : List ℕ → Option ℕ → Type 0) (finds : (m : List ℕ) (o : Option ℕ) → R m o → FindsSuffixBy is_space m o) where
  -- what is cut off the end is white space
  end_cut : (ns s r : List ℕ) → CutsSuffixes R s ns r → (after : List ℕ) × IsTrue (is_white after) × (s ≡ r ++ encode_utf8_all after)
  end_cut [] s r h = ([], refl, sym h ∙ sym (append-nil r))
  end_cut (n ∷ ns) s r h =
      let cut = end_cut ns s h.0 h.1 in
      let found = finds h.0 (Some n) h.2 in
      let last : drop (length h.0 - n) h.0 ≡ encode_utf8 found.0 = found.2.split ∙ ap (λ x. encode_utf8 found.0 ++ x) (drop_all (length h.0) h.0 (omega arith)) ∙ append-nil (encode_utf8 found.0) in
      let whole : h.0 ≡ r ++ encode_utf8 found.0 = sym (take-append-drop (length h.0 - n) h.0) ∙ ap₂ (λ x y. x ++ y) (sym h.3) last in (
        found.0 ∷ cut.0,
        and_from (is_space found.0) (is_white cut.0) found.1 cut.1,
        cut.2 ∙ ap (λ x. x ++ encode_utf8_all cut.0) whole ∙ append_assoc r (encode_utf8 found.0) (encode_utf8_all cut.0),
      )

  -- and what stays does not end with any
  end_kept : (r : List ℕ) → IsFullyTrimmed R r → (c : ℕ) (front : List ℕ) → IsScalar c → r ≡ front ++ encode_utf8 c → is_space c ≡ false
  end_kept r h = by_answer h.0 (finds r h.0 h.1) h.2
    where
      by_answer : (o : Option ℕ) → FindsSuffixBy is_space r o → IfSome o (λ n. n ≡ 0) → (c : ℕ) (front : List ℕ) → IsScalar c → r ≡ front ++ encode_utf8 c → is_space c ≡ false
      by_answer None f z = f
      by_answer (Some n) f z = absurd (omega (arith, (len_utf8_bounds f.0).0, f.2.ends, z))

-- what a closure of std's methods finds
abbrev pub ByClosure : {F : Type 0} → ((ℕ → Bool) → List ℕ → Option ℕ → Type 0) → Mut F (ℕ × Unit {0}) Bool → F → List ℕ → Option ℕ → Type 0
ByClosure P g f s o = (test : ℕ → Bool) → AlwaysReturns g (λ a r. r ≡ test a.0) f → P test s o

-- both ends are trimmed
pub trims : {F G : Type 0} {g : Mut F (ℕ × Unit {0}) Bool} {h : Mut G (ℕ × Unit {0}) Bool} {p : F} {q : G} (text front trimmed : List ℕ) → IsUtf8 trimmed
    → IsTrimStartMatches (ByClosure FindsPrefixBy g p) text front → IsTrimEndMatches (ByClosure FindsSuffixBy h q) front trimmed
    → AlwaysReturns g (λ a r. r ≡ is_space a.0) p → AlwaysReturns h (λ a r. r ≡ is_space a.0) q → IsTrimmed (chars text) (chars trimmed)
trims {F} {G} {g} {h} {p} {q} text front trimmed u s e starts ends =
    let B = ByClosure FindsPrefixBy g p in
    let E = ByClosure FindsSuffixBy h q in
    let finds : (m : List ℕ) (o : Option ℕ) → B m o → FindsPrefixBy is_space m o = λ m o f. f is_space starts in
    let finds_end : (m : List ℕ) (o : Option ℕ) → E m o → FindsSuffixBy is_space m o = λ m o f. f is_space ends in
    let cut = front_cut B finds s.0.0 text front s.0.1 in
    let end = end_cut E finds_end e.0.0 front trimmed e.0.1 in
    let before_scalars = white_scalars cut.0 cut.1 in
    let after_scalars = white_scalars end.0 end.1 in
    let spelt : encode_utf8_all (chars trimmed) ≡ trimmed = encodes-chars trimmed u in
    record {
      before = cut.0;
      after = end.0;
      parts =
          ap chars (cut.2 ∙ ap (λ x. encode_utf8_all cut.0 ++ x) end.2)
          ∙ chars-append (encode_utf8_all cut.0) (trimmed ++ encode_utf8_all end.0) (cut.0, (before_scalars, refl))
          ∙ ap₂ (λ x y. x ++ y) (chars-encodes cut.0 before_scalars) (chars-append trimmed (encode_utf8_all end.0) u ∙ ap (λ x. chars trimmed ++ x) (chars-encodes end.0 after_scalars));
      white_before = cut.1;
      white_after = end.1;
      begins = λ c rest h.
          front_kept B finds front s.1 c (encode_utf8_all rest ++ encode_utf8_all end.0) ((and_parts (scalar c) (scalars rest) (sym (ap scalars h) ∙ scalars-chars trimmed u)).0)
          (end.2 ∙ ap (λ x. x ++ encode_utf8_all end.0) (sym spelt ∙ ap encode_utf8_all h) ∙ append_assoc (encode_utf8 c) (encode_utf8_all rest) (encode_utf8_all end.0));
      ends = λ c rest h. end_kept E finds_end trimmed e.1 c (encode_utf8_all rest) (last_scalar rest c (sym (ap scalars h) ∙ scalars-chars trimmed u)) (sym spelt ∙ ap encode_utf8_all h ∙ encoded_more rest c);
    }
