-- The texts and the bindings that tags give are legal, and each prefix is bound once.
use Rattle.std.proofs.Common.{◌≡◌, ◌≢◌, ◌≤◌, Bool, true, false, ◌&&◌, ◌==◌, if◌then◌else◌, ℕ, List, [], ◌∷◌, ◌++◌, length, refl, ap, ◌∙◌, All, arith, ◌⊎◌, ⊎_elim, inl, inr, map, Option, Some, None, sym, subst, codes}
use Rattle.std.proofs.lemmas.Bool.{and_from, and_parts}
use Rattle.std.proofs.lemmas.List.Elements.{All-head, All-tail, All-nil, All-cons, All-append}
use Rattle.std.proofs.lemmas.List.Folds.{list_all-append}
use Rattle.std.proofs.lemmas.Str.{encodes-append, length-le-encodes, encodes_same}
use Rattle.std.specs.Cmp.Lexicographic.{same_text}
use Rattle.std.specs.List.{list_all}
use Rattle.std.specs.Prelude.{unwrap_or}
use Rattle.std.specs.Str.{encode_utf8_all}
use Rattle.odd_text.specs.declared.name.Bind.{Bind}
use Rattle.odd_tokens.proofs.Ascii.{ascii_legal}
use Rattle.odd_tokens.proofs.Characters.{Lacks, Distinct, distinct, none_twice}
use Rattle.odd_tokens.specs.Characters.{is_char, is_space, IsLegal, is_ncname}
use Rattle.odd_tokens.specs.Lines.{lines_read}
use Rattle.odd_text.specs.Same.{is_same}
use Rattle.odd_tokens.specs.Tokens.{Reference, lt, gt, amp, apos, quot, decimal, hexadecimal, Piece, itself, reference, IsPieceIn, Token, character, referred, cdata, character_of, IsReference, IsToken, QName, Attribute, Tag, IsQName, IsAttribute, IsTag, NoneTwice, name_written}
use Rattle.odd_tokens.specs.Values.{value_read}
use Rattle.odd_tree.proofs.LastBound.{last_bound_some, last_bound_none}
use Rattle.odd_tree.specs.Formed.{AreApart, AreFormed, text, IsPrefix}
use Rattle.odd_tree.specs.Names.{declared_prefix, binds_of, last_bound, in_force, xml_namespace}
use Rattle.odd_tree.specs.Trees.{token_read, with_text}
use Rattle.odd_tree.specs.declared.tree.Node.{Node, Text}
use Rattle.odd_reader.proofs.StandsNames.{bind_of}

abbrev AreLegal : List ℕ → Type 0
AreLegal cs = list_all is_char cs ≡ true

legal_append : (xs ys : List ℕ) → AreLegal xs → AreLegal ys → AreLegal (xs ++ ys)
legal_append xs ys a b = list_all-append is_char xs ys ∙ and_from (list_all is_char xs) (list_all is_char ys) a b

one_legal : (c : ℕ) → is_char c ≡ true → AreLegal (c ∷ [])
one_legal c h = and_from (is_char c) true h refl

line_feed_legal : AreLegal (0xA ∷ [])
unfolding is_char
line_feed_legal = refl

space_legal : AreLegal (0x20 ∷ [])
unfolding is_char
space_legal = refl

-- what a reference stands for
reference_legal : (r : Reference) → IsReference r → is_char (character_of r) ≡ true
unfolding is_char
reference_legal lt h = refl
reference_legal gt h = refl
reference_legal amp h = refl
reference_legal apos h = refl
reference_legal quot h = refl
reference_legal (decimal digits) h = h.2
reference_legal (hexadecimal digits) h = h.2

-- a character, or the line feed or nothing that it is read as
line_legal : (a b : Bool) (c : ℕ) → is_char c ≡ true → AreLegal (if a then (if b then [] else 0xA ∷ []) else c ∷ [])
line_legal true true c h = refl
line_legal true false c h = line_feed_legal
line_legal false b c h = one_legal c h

lines_legal : (cs : List ℕ) → AreLegal cs → AreLegal (lines_read cs)
lines_legal [] h = refl
lines_legal (c ∷ cs) h =
    let p = and_parts (is_char c) (list_all is_char cs) h in
    legal_append _ (lines_read cs) (line_legal (c == 0xD) _ c p.0) (lines_legal cs p.1)

pub token_legal : (t : Token) (next : List Token) → IsToken t → AreLegal (token_read t next)
token_legal (character c) next h = line_legal (c == 0xD) _ c h.0
token_legal (referred r) next h = one_legal (character_of r) (reference_legal r h)
token_legal (cdata cs) next h = lines_legal cs h.0
token_legal t next h = refl

-- white space in a value is a space, or nothing before a line feed
space_or_legal : (a b : Bool) (c : ℕ) → is_char c ≡ true → AreLegal (if a then [] else (if b then 0x20 else c) ∷ [])
space_or_legal true b c h = refl
space_or_legal false true c h = space_legal
space_or_legal false false c h = one_legal c h

pub value_legal : (quote : ℕ) (ps : List Piece) → All (IsPieceIn quote) ps → AreLegal (value_read ps)
value_legal quote [] h = refl
value_legal quote (itself c ∷ ps) h =
    legal_append _ (value_read ps) (space_or_legal (c == 0xD && _) (is_space c) c (All-head (IsPieceIn quote) (itself c) ps h).0)
    (value_legal quote ps (All-tail (IsPieceIn quote) (itself c) ps h))
value_legal quote (reference r ∷ ps) h =
    legal_append (character_of r ∷ []) (value_read ps) (one_legal (character_of r) (reference_legal r (All-head (IsPieceIn quote) (reference r) ps h)))
    (value_legal quote ps (All-tail (IsPieceIn quote) (reference r) ps h))

-- texts that are joined

-- a character has a byte
not_empty : (c : ℕ) (cs more : List ℕ) → encode_utf8_all (c ∷ cs) ++ more ≢ []
not_empty c cs more e = absurd (no_bytes (encode_utf8_all (c ∷ cs)) (length-le-encodes (c ∷ cs)) e)
  where
    no_bytes : (bytes : List ℕ) → length (c ∷ cs) ≤ length bytes → bytes ++ more ≢ []
    no_bytes [] h k = omega arith
    no_bytes (b ∷ bs) h k = cc

alone_not_empty : (c : ℕ) (cs : List ℕ) → encode_utf8_all (c ∷ cs) ≢ []
alone_not_empty c cs e = not_empty c cs [] (ap (λ z. z ++ []) e)

joined_legal : (cs bytes : List ℕ) → AreLegal cs → IsLegal bytes → IsLegal (encode_utf8_all cs ++ bytes)
joined_legal cs bytes h l = (cs ++ l.0, encodes-append cs l.0 ∙ ap (λ z. encode_utf8_all cs ++ z) l.1, legal_append cs l.0 h l.2)

pub apart_with : (cs : List ℕ) (nodes : List Node) → AreLegal cs → AreApart nodes → AreApart (with_text cs nodes)
apart_with [] nodes h a = a
apart_with (c ∷ cs) [] h a = (alone_not_empty c cs, (c ∷ cs, refl, h), a)
apart_with (c ∷ cs) (Text t ∷ []) h a = (not_empty c cs t, joined_legal (c ∷ cs) t h a.1, a.2)
apart_with (c ∷ cs) (Text t ∷ Text u ∷ nodes) h a = absurd a
apart_with (c ∷ cs) (Text t ∷ node ∷ nodes) h a = (not_empty c cs t, joined_legal (c ∷ cs) t h a.1, a.2)
apart_with (c ∷ cs) (node ∷ nodes) h a = (alone_not_empty c cs, (c ∷ cs, refl, h), a)

pub formed_with : {first end : ℕ} (cs : List ℕ) (nodes : List Node) → AreFormed first end nodes → AreFormed first end (with_text cs nodes)
formed_with [] nodes f = f
formed_with (c ∷ cs) [] f = text f
formed_with (c ∷ cs) (Text t ∷ nodes) (text f) = text f
formed_with (c ∷ cs) (node ∷ nodes) f = text f

-- the namespace is of XML's characters
abbrev pub IsToLegal : Bind → Type 0
IsToLegal b = IsLegal b.ns

-- so is each that is bound
abbrev pub BindLegally : List Bind → Type 0
BindLegally binds = All IsToLegal binds

-- the prefix is empty or a name
abbrev pub IsWithPrefix : Bind → Type 0
IsWithPrefix b = IsPrefix b.prefix

-- the prefixes that are bound, in their order
abbrev prefixes : List Bind → List (List ℕ)
prefixes binds = map (λ (b : Bind). b.prefix) binds

-- no prefix is bound twice
abbrev pub BindOnce : List Bind → Type 0
BindOnce binds = NoneTwice (prefixes binds)

-- the namespaces that names have under legal bindings

-- the empty namespace, of a name that is in none
pub no_namespace : IsLegal []
no_namespace = ascii_legal [] refl

-- the namespace that xml is bound to from the start
xml_legal : IsLegal xml_namespace
xml_legal = ascii_legal xml_namespace refl

-- one of two, where each is legal
either_legal : (first : Bool) (x : List ℕ) (o : Option (List ℕ)) (ns : List ℕ) → IsLegal x → (o ≡ Some ns → IsLegal ns) → (if first then Some x else o) ≡ Some ns → IsLegal ns
either_legal true x o ns l h e = let f : x ≡ ns = cc in subst IsLegal f l
either_legal false x o ns l h e = h e

-- the last binding of a prefix is the first one's or one of the others'
last_legal : (binds : List Bind) (prefix ns : List ℕ) → BindLegally binds → last_bound binds prefix ≡ Some ns → IsLegal ns
last_legal [] prefix ns l e = cc
last_legal (b ∷ bs) prefix ns l e =
    elim (last_bound bs prefix) as (λ o. last_bound bs prefix ≡ o → IsLegal ns) [
      | None ↦ λ f. either_legal (is_same b.prefix prefix) b.ns None ns (All-head IsToLegal b bs l) (λ g. cc) (sym (last_bound_none (b ∷ []) bs prefix f) ∙ e)
      | Some x ↦ λ f. last_legal bs prefix ns (All-tail IsToLegal b bs l) (f ∙ sym (last_bound_some (b ∷ []) bs prefix x f) ∙ e)
    ] refl

-- what is in force is the namespace of xml or that of the last binding
pub in_force_legal : (binds : List Bind) (prefix ns : List ℕ) → BindLegally binds → in_force binds prefix ≡ Some ns → IsLegal ns
in_force_legal binds prefix ns l e = either_legal (is_same prefix (codes "xml")) xml_namespace (last_bound binds prefix) ns xml_legal (last_legal binds prefix ns l) e

-- the default namespace, or none
pub default_legal : (binds : List Bind) → BindLegally binds → IsLegal (unwrap_or (last_bound binds []) [])
default_legal binds l = found (last_bound binds []) (λ ns e. last_legal binds [] ns l e)
  where
    found : (o : Option (List ℕ)) → ((ns : List ℕ) → o ≡ Some ns → IsLegal ns) → IsLegal (unwrap_or o [])
    found None h = no_namespace
    found (Some ns) h = h ns refl

-- the namespace of a name, which without a prefix is the default
pub given_legal : (default : List ℕ) (binds : List Bind) (n : QName) (ns : List ℕ) → IsLegal default → BindLegally binds
    → (if is_same n.prefix [] then Some default else in_force binds (encode_utf8_all n.prefix)) ≡ Some ns → IsLegal ns
given_legal default binds n ns d l e =
    either_legal (is_same n.prefix []) default (in_force binds (encode_utf8_all n.prefix)) ns d (in_force_legal binds (encode_utf8_all n.prefix) ns l) e

-- what a name declares

-- as xmlns:prefix
abbrev DeclaresNamed : QName → List ℕ → Type 0
DeclaresNamed n prefix = (n.prefix ≡ codes "xmlns") × (n.local ≡ prefix)

-- as xmlns itself, which declares the empty prefix
abbrev DeclaresDefault : QName → List ℕ → Type 0
DeclaresDefault n prefix = (n.prefix ≡ []) × (n.local ≡ codes "xmlns") × (prefix ≡ [])

-- a choice between two prefixes and none, which gave one
one_of_two : (a b c : Bool) (local prefix : List ℕ) → (if a then Some local else (if b && c then Some [] else None)) ≡ Some prefix
    → ((a ≡ true) × (local ≡ prefix)) ⊎ ((b ≡ true) × (c ≡ true) × (prefix ≡ []))
one_of_two true b c local prefix e = inl (refl, cc)
one_of_two false true true local prefix e = inr (refl, refl, cc)
one_of_two false true false local prefix e = cc
one_of_two false false c local prefix e = cc

-- a name that declares a prefix is one of these
declares : (n : QName) (prefix : List ℕ) → declared_prefix n ≡ Some prefix → DeclaresNamed n prefix ⊎ DeclaresDefault n prefix
declares n prefix e =
    ⊎_elim (λ h. inl (same_text _ _ (sym h.0), h.1)) (λ h. inr (same_text _ _ (sym h.0), same_text _ _ (sym h.1), h.2))
    (one_of_two (is_same n.prefix (codes "xmlns")) (is_same n.prefix []) (is_same n.local (codes "xmlns")) n.local prefix e)

-- the local name of xmlns:prefix is an NCName
prefix_declared : (n : QName) (prefix : List ℕ) → IsQName n → declared_prefix n ≡ Some prefix → IsPrefix (encode_utf8_all prefix)
prefix_declared n prefix q e =
    ⊎_elim (λ h. inr (prefix, refl, subst (λ cs. is_ncname cs ≡ true) h.1 q.1)) (λ h. inl (ap encode_utf8_all h.2)) (declares n prefix e)

-- a local name is not empty, so that no name declares both ways
not_both : (m n : QName) (prefix : List ℕ) → IsQName m → DeclaresNamed m prefix → DeclaresDefault n prefix → ⊥
not_both m n prefix q a b = let h : is_ncname [] ≡ true = subst (λ cs. is_ncname cs ≡ true) (a.1 ∙ b.2) q.1 in cc

-- two names that declare one prefix are written alike
declared_alike : (m n : QName) (prefix : List ℕ) → IsQName m → IsQName n → declared_prefix m ≡ Some prefix → declared_prefix n ≡ Some prefix → name_written m ≡ name_written n
declared_alike m n prefix p q e f =
    ⊎_elim
    (λ a. ⊎_elim (λ b. alike (a.0 ∙ sym b.0) (a.1 ∙ sym b.1)) (λ b. absurd (not_both m n prefix p a b)) (declares n prefix f))
    (λ a. ⊎_elim (λ b. absurd (not_both n m prefix q b a)) (λ b. alike (a.0 ∙ sym b.0) (a.1 ∙ sym b.1)) (declares n prefix f))
    (declares m prefix e)
  where
    alike : m.prefix ≡ n.prefix → m.local ≡ n.local → name_written m ≡ name_written n
    alike a b = ap name_written (λ i. record { prefix = a i; local = b i })

-- what holds of the binding that each attribute declares holds of all bindings of a tag
module _ (P : Bind → Type 0) (each : (a : Attribute) (prefix : List ℕ) → IsAttribute a → declared_prefix a.name ≡ Some prefix
    → P (record { prefix = encode_utf8_all prefix; ns = encode_utf8_all (value_read a.value) })) where
  one_bound : (a : Attribute) (o : Option (List ℕ)) (others : List Bind) → IsAttribute a → declared_prefix a.name ≡ o → All P others → All P (bind_of a o ++ others)
  one_bound a None others h e r = r
  one_bound a (Some prefix) others h e r = All-cons P _ others (each a prefix h e) r

  all_bound : (attributes : List Attribute) → All IsAttribute attributes → All P (binds_of attributes)
  all_bound [] h = All-nil P
  all_bound (a ∷ rest) h =
      one_bound a (declared_prefix a.name) (binds_of rest) (All-head IsAttribute a rest h) refl (all_bound rest (All-tail IsAttribute a rest h))

-- each prefix is empty or a name
pub bound_prefixed : (attributes : List Attribute) → All IsAttribute attributes → All IsWithPrefix (binds_of attributes)
bound_prefixed attributes h = all_bound IsWithPrefix (λ a prefix g e. prefix_declared a.name prefix g.named e) attributes h

-- each namespace is the value of an attribute
pub bound_legal : (attributes : List Attribute) → All IsAttribute attributes → BindLegally (binds_of attributes)
bound_legal attributes h = all_bound IsToLegal (λ a prefix g e. (value_read a.value, refl, value_legal a.quote a.value g.valued)) attributes h

-- the bindings in a tag and around it
pub legally_append : (around : List Bind) (attributes : List Attribute) → BindLegally around → All IsAttribute attributes → BindLegally (around ++ binds_of attributes)
legally_append around attributes l h = All-append IsToLegal around (binds_of attributes) l (bound_legal attributes h)

-- attributes of distinct names

-- the names of attributes as they are written
abbrev written : List Attribute → List (List ℕ)
written attributes = map (λ (a : Attribute). name_written a.name) attributes

-- a prefix that a name declares is bound by no attributes of other names
module _ (n : QName) (prefix : List ℕ) (q : IsQName n) (d : declared_prefix n ≡ Some prefix) where
  one_lacks : (a : Attribute) (o : Option (List ℕ)) (others : List Bind) → IsAttribute a → declared_prefix a.name ≡ o → name_written a.name ≢ name_written n
      → Lacks (encode_utf8_all prefix) (prefixes others) → Lacks (encode_utf8_all prefix) (prefixes (bind_of a o ++ others))
  one_lacks a None others h e apart l = l
  one_lacks a (Some other) others h e apart l =
      (λ same. apart (declared_alike a.name n prefix h.named q (e ∙ ap (λ p. Some p) (encodes_same other prefix same)) d), l)

  binds_lack : (attributes : List Attribute) → All IsAttribute attributes → Lacks (name_written n) (written attributes) → Lacks (encode_utf8_all prefix) (prefixes (binds_of attributes))
  binds_lack [] h l = tt
  binds_lack (a ∷ rest) h l =
      one_lacks a (declared_prefix a.name) (binds_of rest) (All-head IsAttribute a rest h) refl l.0 (binds_lack rest (All-tail IsAttribute a rest h) l.1)

-- one attribute before others whose names are written otherwise
one_distinct : (a : Attribute) (o : Option (List ℕ)) (rest : List Attribute) → IsAttribute a → All IsAttribute rest → declared_prefix a.name ≡ o
    → Lacks (name_written a.name) (written rest) → Distinct (prefixes (binds_of rest)) → Distinct (prefixes (bind_of a o ++ binds_of rest))
one_distinct a None rest h g e l d = d
one_distinct a (Some prefix) rest h g e l d = (binds_lack a.name prefix h.named e rest g l, d)

-- attributes with distinct names bind distinct prefixes
bound_distinct : (attributes : List Attribute) → All IsAttribute attributes → Distinct (written attributes) → Distinct (prefixes (binds_of attributes))
bound_distinct [] h d = tt
bound_distinct (a ∷ rest) h d =
    let g = All-tail IsAttribute a rest h in
    one_distinct a (declared_prefix a.name) rest (All-head IsAttribute a rest h) g refl d.0 (bound_distinct rest g d.1)

-- a tag binds no prefix twice
pub bound_once : (tag : Tag) → IsTag tag → BindOnce (binds_of tag.attributes)
bound_once tag h = none_twice _ (bound_distinct tag.attributes h.attributed (distinct _ h.once))
