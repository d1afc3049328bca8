-- What is said of attributes is found in them, and an element that says it has a tag of XML.
use Rattle.std.proofs.Common.{◌≡◌, ℕ, Bool, true, false, not, ◌&&◌, if◌then◌else◌, List, [], ◌∷◌, ◌++◌, map, Option, Some, None, refl, sym, ap, subst, ◌∙◌}
use Rattle.std.specs.Prelude.{All, codes}
use Rattle.std.specs.Cmp.Lexicographic.{other_text, same_text}
use Rattle.std.specs.List.{list_all, list_any}
use Rattle.std.specs.Option.{option_map}
use Rattle.std.proofs.lemmas.Bool.{and_parts, or_parts}
use Rattle.std.proofs.lemmas.List.Elements.{All-nil, All-cons}
use Rattle.odd_tokens.proofs.Ascii.{is_ascii_name, is_name}
use Rattle.odd_tokens.proofs.Characters.{Distinct, Lacks, none_twice}
use Rattle.odd_tokens.specs.Characters.{IsLegal}
use Rattle.odd_text.specs.Same.{is_same}
use Rattle.odd_tree.specs.Elements.{attribute_value}
use Rattle.odd_tree.specs.Markup.{Pair}
use Rattle.odd_tree.proofs.PrintedTrees.{IsPlainAttribute, IsPlainTag, attr_of}
use Rattle.odd_emit.specs.Saying.{Said, Value, pair_of, pairs_of, written}

-- the value that is said of an attribute
abbrev pub value_of : List Said → List ℕ → Option Value
value_of [] local = None
value_of (s ∷ rest) local = if is_same s.local local then s.value else value_of rest local

-- and its text
abbrev pub told : List Said → List ℕ → Option (List ℕ)
told said local = option_map written (value_of said local)

-- no text stands twice
abbrev pub are_apart : List (List ℕ) → Bool
are_apart [] = true
are_apart (x ∷ xs) = not (list_any (λ y. is_same y x) xs) && are_apart xs

abbrev pub locals : List Said → List (List ℕ)
locals = map (λ (s : Said). s.local)

pub not_true : (b : Bool) → not b ≡ true → b ≡ false
not_true true h = cc
not_true false h = refl

-- of a name that none of them has nothing is said
none_said : (local : List ℕ) (said : List Said) → list_any (λ y. is_same y local) (locals said) ≡ false → told said local ≡ None
none_said local [] h = refl
none_said local (s ∷ rest) h =
    let k = or_parts (is_same s.local local) (list_any (λ y. is_same y local) (locals rest)) h in
    ap (λ b. option_map written (if b then s.value else value_of rest local)) k.0 ∙ none_said local rest k.1

-- the attributes have the values that are said
by_value : (name : List ℕ) (v : Option Value) (rest : List Said) (local : List ℕ) → list_any (λ y. is_same y name) (locals rest) ≡ false
    → attribute_value (map attr_of (pairs_of rest)) local ≡ told rest local
    → attribute_value (map attr_of (pair_of name v ++ pairs_of rest)) local ≡ option_map written (if is_same name local then v else value_of rest local)
by_value name (Some v) rest local lacks later =
    elim (is_same name local) as (λ b. (if b then Some (written v) else attribute_value (map attr_of (pairs_of rest)) local) ≡ option_map written (if b then Some v else value_of rest local)) [
      | true ↦ refl
      | false ↦ later
    ]
by_value name None rest local lacks later =
    elim (is_same name local) as (λ b. is_same name local ≡ b → attribute_value (map attr_of (pairs_of rest)) local ≡ option_map written (if b then None else value_of rest local)) [
      | true ↦ λ e. later ∙ none_said local rest (subst (λ x. list_any (λ y. is_same y x) (locals rest) ≡ false) (same_text name local (sym e)) lacks)
      | false ↦ λ e. later
    ] refl

pub value_told : (said : List Said) (local : List ℕ) → are_apart (locals said) ≡ true → attribute_value (map attr_of (pairs_of said)) local ≡ told said local
value_told [] local h = refl
value_told (s ∷ rest) local h =
    let k = and_parts (not (list_any (λ y. is_same y s.local) (locals rest))) (are_apart (locals rest)) h in
    by_value s.local s.value rest local (not_true _ k.0) (value_told rest local k.1)

-- names of ASCII that declare no namespace
abbrev pub is_plain_name : List ℕ → Bool
is_plain_name name = is_ascii_name name && not (is_same name (codes "xmlns"))

-- such names, each once
abbrev pub are_sayable : List (List ℕ) → Bool
are_sayable names = list_all is_plain_name names && are_apart names

-- values of XML's characters
abbrev pub IsLegalValue : Option Value → Type 0
IsLegalValue None = Unit {0}
IsLegalValue (Some v) = IsLegal (written v)

abbrev pub AreLegal : List Said → Type 0
AreLegal [] = Unit {0}
AreLegal (s ∷ rest) = IsLegalValue s.value × AreLegal rest

pair_plain : (name : List ℕ) (v : Option Value) (rest : List Pair) → is_plain_name name ≡ true → IsLegalValue v → All IsPlainAttribute rest → All IsPlainAttribute (pair_of name v ++ rest)
pair_plain name None rest h legal a = a
pair_plain name (Some v) rest h legal a =
    let k = and_parts (is_ascii_name name) (not (is_same name (codes "xmlns"))) h in
    All-cons IsPlainAttribute (name, written v) rest (record { named = is_name name k.0; apart = λ e. other_text name (codes "xmlns") (sym (not_true _ k.1)) e; legal = legal }) a

attributes_plain : (said : List Said) → list_all is_plain_name (locals said) ≡ true → AreLegal said → All IsPlainAttribute (pairs_of said)
attributes_plain [] h legal = All-nil IsPlainAttribute
attributes_plain (s ∷ rest) h legal =
    let k = and_parts (is_plain_name s.local) (list_all is_plain_name (locals rest)) h in
    pair_plain s.local s.value (pairs_of rest) k.0 legal.0 (attributes_plain rest k.1 legal.1)

abbrev names_of : List Pair → List (List ℕ)
names_of = map (λ (a : Pair). a.0)

pair_lacks : (x name : List ℕ) (v : Option Value) (rest : List Pair) → is_same name x ≡ false → Lacks x (names_of rest) → Lacks x (names_of (pair_of name v ++ rest))
pair_lacks x name None rest h l = l
pair_lacks x name (Some v) rest h l = (λ e. other_text name x (sym h) e, l)

lacking : (x : List ℕ) (said : List Said) → list_any (λ y. is_same y x) (locals said) ≡ false → Lacks x (names_of (pairs_of said))
lacking x [] h = tt
lacking x (s ∷ rest) h =
    let k = or_parts (is_same s.local x) (list_any (λ y. is_same y x) (locals rest)) h in
    pair_lacks x s.local s.value (pairs_of rest) k.0 (lacking x rest k.1)

pair_distinct : (name : List ℕ) (v : Option Value) (rest : List Pair) → Lacks name (names_of rest) → Distinct (names_of rest) → Distinct (names_of (pair_of name v ++ rest))
pair_distinct name None rest l d = d
pair_distinct name (Some v) rest l d = (l, d)

all_distinct : (said : List Said) → are_apart (locals said) ≡ true → Distinct (names_of (pairs_of said))
all_distinct [] h = tt
all_distinct (s ∷ rest) h =
    let k = and_parts (not (list_any (λ y. is_same y s.local) (locals rest))) (are_apart (locals rest)) h in
    pair_distinct s.local s.value (pairs_of rest) (lacking s.local rest (not_true _ k.0)) (all_distinct rest k.1)

-- the tag
pub said_plain : (tag : List ℕ) (said : List Said) → is_ascii_name tag ≡ true → are_sayable (locals said) ≡ true → AreLegal said → IsPlainTag tag (pairs_of said)
said_plain tag said h k legal =
    let p = and_parts (list_all is_plain_name (locals said)) (are_apart (locals said)) k in
    record { named = is_name tag h; attributed = attributes_plain said p.0 legal; once = none_twice _ (all_distinct said p.1) }
